use Rattle.std.proofs.Common.{◌≡◌, true, false, Some, ◌∙◌, sym, arith}
use Rattle.std.proofs.lemmas.Option.{some_pair_parts}
use Rattle.quilt_record.proofs.Readers.{region_named, region_colour, region_under, under_region}
use Rattle.quilt_record.proofs.region.read_region.Goals as goal

true_false : true ≡ false → ⊥
true_false e = cc

pub returns-in_default-clause-one : goal.returns-in_default-clause-one
returns-in_default-clause-one c layer b colour in_format f =
    absurd (c.in_default.not-Some (layer, b) (c.named.ensures.one layer b (region_named c.args.level c.args.r.now layer b colour.0 f)))

pub returns-then-c-gt255-clause-one : goal.returns-then-c-gt255-clause-one
returns-then-c-gt255-clause-one c layer b colour in_format f =
    let small = in_format c.if-format-eq1.true in
    let value = c.colour_in-c.ensures ∙ region_colour c.args.level c.args.r.now layer b colour.0 f in
    absurd (omega (arith, small, value, c.if-c-gt255.true))

pub returns-then-not-is_of_colour-clause-one : goal.returns-then-not-is_of_colour-clause-one
returns-then-not-is_of_colour-clause-one c layer b colour in_format f =
    let value = c.colour_in-c.ensures ∙ region_colour c.args.level c.args.r.now layer b colour.0 f in
    let same = under_region c.args.level c.args.r.now layer b colour.0 c.colour_in-c.result.0 f value in
    absurd (true_false (sym (c.is_of_colour.ensures.no (sym same)) ∙ c.if-not-is_of_colour.true))

pub returns-clause-some : goal.returns-clause-some
returns-clause-some c =
    region_under c.args.level c.args.r.now c.in-Some.field-0-0 c.in-Some.b c.colour_in-c.result.0 c.in-Some.ensures.some
    (sym (c.is_of_colour.ensures.yes c.if-not-is_of_colour.false))

pub returns-clause-one : goal.returns-clause-one
returns-clause-one c layer b colour in_format f =
    let same = some_pair_parts c.in-Some.field-0-0 layer c.in-Some.b b
    (sym c.in-Some.is ∙ c.named.ensures.one layer b (region_named c.args.level c.args.r.now layer b colour.0 f)) in
    let value = c.colour_in-c.ensures ∙ region_colour c.args.level c.args.r.now layer b colour.0 f in
    λ i. Some (same.1 i, record { 0 = value i })
