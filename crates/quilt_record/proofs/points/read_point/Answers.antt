use Rattle.std.proofs.Common.{◌≡◌, true, false, Some, ◌∙◌, sym, subst, IfSome}
use Rattle.std.proofs.lemmas.Option.{some_pair_parts}
use Rattle.quilt_types.specs.declared.plane.Point.{Point}
use Rattle.quilt_types.specs.Plane.{is_pixel}
use Rattle.quilt_record.proofs.Readers.{point_named, point_held, point_inside, point_by_parts, point_parts}
use Rattle.quilt_record.proofs.points.read_point.Goals as goal

true_false : true ≡ false → ⊥
true_false e = cc

pub returns-in_default-clause-one : goal.returns-in_default-clause-one
returns-in_default-clause-one c layer b v f =
    absurd (c.in_default.not-Some (layer, b) (c.named.ensures.one layer b (point_named c.args.level c.args.bucket c.args.r.now layer b v f)))

pub returns-then-not-is_inside-clause-one : goal.returns-then-not-is_inside-clause-one
returns-then-not-is_inside-clause-one c layer b v f =
    let value = c.held_in-held.ensures.value ∙ point_held c.args.level c.args.bucket c.args.r.now layer b v c.requires.1 f in
    let inside = subst (λ o. IfSome o (λ (p : Point). is_pixel c.args.level p.at ≡ true)) (sym value)
    (point_inside c.args.level c.args.bucket c.args.r.now layer b v f) in
    absurd (true_false (sym (c.is_inside.ensures.no inside) ∙ c.if-not-is_inside.true))

pub returns-then-not-is_of_point-clause-one : goal.returns-then-not-is_of_point-clause-one
returns-then-not-is_of_point-clause-one c layer b v f =
    let value = c.held_in-held.ensures.value ∙ point_held c.args.level c.args.bucket c.args.r.now layer b v c.requires.1 f in
    absurd (true_false (sym (c.is_of_point.ensures.no (point_parts c.args.level c.args.bucket c.args.r.now layer b v c.held_in-held.result f value))
    ∙ c.if-not-is_of_point.true))

pub returns-clause-some : goal.returns-clause-some
returns-clause-some c =
    point_by_parts c.args.level c.args.bucket c.args.r.now c.in-Some.field-0-0 c.in-Some.b c.held_in-held.result c.in-Some.ensures.some
    (c.is_inside.ensures.yes c.if-not-is_inside.false) c.held_in-held.ensures.small (c.is_of_point.ensures.yes c.if-not-is_of_point.false)

pub returns-clause-one : goal.returns-clause-one
returns-clause-one c layer b v f =
    let same = some_pair_parts c.in-Some.field-0-0 layer c.in-Some.b b
    (sym c.in-Some.is ∙ c.named.ensures.one layer b (point_named c.args.level c.args.bucket c.args.r.now layer b v f)) in
    let value = c.held_in-held.ensures.value ∙ point_held c.args.level c.args.bucket c.args.r.now layer b v c.requires.1 f in
    λ i. Some (same.1 i, value i)
