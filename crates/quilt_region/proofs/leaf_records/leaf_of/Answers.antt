use Rattle.std.proofs.Common.{◌≡◌, ℕ, ◌≤◌, [], Some, sym, ◌∙◌, ap, subst, arith}
use Rattle.std.proofs.lemmas.Option.{none-some, some_pair_parts}
use Rattle.quilt_types.specs.declared.plane.Block.{Block}
use Rattle.quilt_types.specs.Plane.{IsBlock}
use Rattle.quilt_types.specs.Facts.{HasColour}
use Rattle.quilt_record.specs.declared.record.Record.{Record}
use Rattle.quilt_record.specs.Canonical.{IsRecordOf}
use Rattle.quilt_spell.specs.OfLayer.{leaf_record}
use Rattle.quilt_region.proofs.Records.{leaf_is_record}
use Rattle.quilt_region.proofs.leaf_records.leaf_of.Goals as goal

named : (n layer : ℕ) (r : Record) (b : Block) (k : ℕ) → 1 ≤ layer → layer ≤ 255 → IsBlock n b → r ≡ leaf_record n layer (b, k)
    → IsRecordOf n 0 r layer (HasColour b k)
named n layer r b k least most h e = subst (λ (s : Record). IsRecordOf n 0 s layer (HasColour b k)) (sym e) (leaf_is_record n layer b k least most h)

pub returns-in_err-block-clause-one : goal.returns-in_err-block-clause-one
returns-in_err-block-clause-one c b k least h e =
    let fits = c.ranges.layer.fits in
    absurd (none-some (b, k) (sym c.in_err-block.was
    ∙ c.read_region.ensures.one c.args.layer b k (λ no. absurd (omega arith)) (named c.args.level c.args.layer c.args.r.now b k.0 least (omega arith) h e)))

pub returns-clause-record : goal.returns-clause-record
returns-clause-record c =
    let same : c.args.r.now.key.layer ≡ c.args.layer = c.if-r-from.false ∙ c.from.ensures in
    c.in_ok-block.ensures.some.written [] ∙ ap (λ (l : ℕ). leaf_record c.args.level l (c.in_ok-block.block, c.in_ok-block.colour.0)) same

pub returns-clause-code : goal.returns-clause-code
returns-clause-code c = ap (λ (r : Record). r.key.code) (c.in_ok-block.ensures.some.written [])

pub returns-clause-one : goal.returns-clause-one
returns-clause-one c b k least h e =
    let fits = c.ranges.layer.fits in
    let same =
    some_pair_parts c.in_ok-block.block b c.in_ok-block.colour k
    (sym c.in_ok-block.was ∙ c.read_region.ensures.one c.args.layer b k (λ no. absurd (omega arith))
    (named c.args.level c.args.layer c.args.r.now b k.0 least (omega arith) h e)) in
    λ i. Some (record { block = same.0 i; colour = same.1 i })
