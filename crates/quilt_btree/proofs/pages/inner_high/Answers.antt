use Rattle.std.proofs.Common.{◌≡◌, arith, ◌∙◌, slice_index}
use Rattle.quilt_btree.proofs.ways.Heights.{inner_height}
use Rattle.quilt_btree.proofs.pages.inner_high.Goals as goal

pub returns-then-bytes-height-clause-none : goal.returns-then-bytes-height-clause-none
returns-then-bytes-height-clause-none c = λ none is.
    let same : slice_index c.args.bytes.now 1 ≡ c.args.height = inner_height c.args.pages c.args.bytes.now is.inner is.is ∙ is.is_height in
    let h = c.if-bytes-height.true in absurd (omega arith)

pub returns-clause-height : goal.returns-clause-height
returns-clause-height c =
    let same = inner_height c.args.pages c.args.bytes.now c.from_bytes.result c.from_bytes.ensures.inner in
    let h = c.if-bytes-height.false in omega arith
