use Rattle.std.proofs.Common.{◌≡◌, Some, ◌∙◌, sym}
use Rattle.std.proofs.lemmas.Option.{some_pair_parts}
use Rattle.quilt_record.proofs.Readers.{pair_named, pair_by_parts, pair_parts}
use Rattle.quilt_record.proofs.lines.read_pair.Goals as goal

pub returns-in_default-clause-one : goal.returns-in_default-clause-one
returns-in_default-clause-one c layer b v f =
    absurd (c.in_default.not-Some v (c.pair_in.ensures.one v (pair_parts c.args.level c.args.r.now layer b v f)))

pub returns-in_default-named-clause-one : goal.returns-in_default-named-clause-one
returns-in_default-named-clause-one c layer b v f =
    absurd (c.in_default-named.not-Some (layer, b) (c.named.ensures.one layer b (pair_named c.args.level c.args.r.now layer b v f)))

pub returns-clause-some : goal.returns-clause-some
returns-clause-some c =
    pair_by_parts c.args.level c.args.r.now c.in-Some-named.field-0-0 c.in-Some-named.b c.in-Some.id c.in-Some-named.ensures.some
    c.in-Some.ensures.small c.in-Some.ensures.some

pub returns-clause-one : goal.returns-clause-one
returns-clause-one c layer b v f =
    let same = some_pair_parts c.in-Some-named.field-0-0 layer c.in-Some-named.b b
    (sym c.in-Some-named.is ∙ c.named.ensures.one layer b (pair_named c.args.level c.args.r.now layer b v f)) in
    let said = sym c.in-Some.is ∙ c.pair_in.ensures.one v (pair_parts c.args.level c.args.r.now layer b v f) in
    let id : c.in-Some.id ≡ v = cc in
    λ i. Some (same.1 i, id i)
