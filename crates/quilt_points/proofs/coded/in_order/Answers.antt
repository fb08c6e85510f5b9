use Rattle.std.proofs.Common.{◌<◌, ◌^◌, sym, ◌∙◌, ap, subst, map, All}
use Rattle.quilt_points.specs.declared.coded.Coded.{Coded}
use Rattle.quilt_points.specs.Coding.{decoded, IsStepwise, HasFall}
use Rattle.quilt_points.proofs.Codings.{all_below, points_same, points_rise, no_fall}
use Rattle.quilt_points.proofs.coded.in_order.Goals as goal

pub returns-then-not-are_apart-clause-none : goal.returns-then-not-are_apart-clause-none
returns-then-not-are_apart-clause-none c _ apart =
    no_fall c.args.points.now c.requires c.in_ok-coded.coded.items c.sort.new.coded.items c.in_ok-coded.ensures.coded c.sort.ensures.permutation
    c.sort.ensures.sorted
    (subst HasFall c.deref.ensures.value (c.are_apart.ensures.no c.if-not-are_apart.true)) apart

pub points_in-requires : goal.points_in-requires
points_in-requires c =
    subst (All (λ (k : Coded). k.code < 4 ^ 12)) (sym c.deref-2.ensures.value)
    (all_below c.args.points.now c.requires c.in_ok-coded.coded.items c.sort.new.coded.items c.in_ok-coded.ensures.coded c.sort.ensures.permutation)

pub returns-clause-same : goal.returns-clause-same
returns-clause-same c =
    points_same c.args.points.now c.requires c.in_ok-coded.coded.items c.sort.new.coded.items c.in_ok-coded.ensures.coded c.sort.ensures.permutation
    c.in_ok-points.points.items
    (c.in_ok-points.ensures ∙ ap (map decoded) c.deref-2.ensures.value)

pub returns-clause-order : goal.returns-clause-order
returns-clause-order c =
    points_rise c.args.points.now c.requires c.in_ok-coded.coded.items c.sort.new.coded.items c.in_ok-coded.ensures.coded c.sort.ensures.permutation
    (subst IsStepwise c.deref.ensures.value (c.are_apart.ensures.yes c.if-not-are_apart.false)) c.in_ok-points.points.items
    (c.in_ok-points.ensures ∙ ap (map decoded) c.deref-2.ensures.value)
