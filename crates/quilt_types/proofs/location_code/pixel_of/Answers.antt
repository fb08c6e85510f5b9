use Rattle.std.proofs.Common.{◌∙◌, ap₂, arith}
use Rattle.quilt_types.specs.Codes.{code, interleaved}
use Rattle.quilt_types.proofs.CodeTables.{interleaved_gathered, even_bytes, odd_bytes, gathered_below}
use Rattle.quilt_types.proofs.location_code.pixel_of.Goals as goal

pub returns-clause-value : goal.returns-clause-value
unfolding code
returns-clause-value c =
    let low = c.place_of.ensures.value in
    let middle = c.place_of-2.ensures.value in
    let high = c.place_of-3.ensures.value in
    let even = even_bytes c.args.code in
    let odd = odd_bytes c.args.code in
    let in_x = gathered_below 12 c.args.code in
    ap₂ (interleaved 12) (omega arith) (omega arith) ∙ interleaved_gathered 12 c.args.code c.requires
