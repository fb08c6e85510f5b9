use Rattle.std.proofs.Common.{sum_by, sym, ◌∙◌, ap}
use Rattle.quilt_types.specs.Plane.{below}
use Rattle.quilt_measure.specs.Edges.{place, differs, behind_of}
use Rattle.quilt_measure.proofs.Sides.{behind_is, bare_along, bare_along_end}
use Rattle.quilt_measure.proofs.boundary.edges_on.Goals as goal

pub other_along-requires-clause-valid : goal.other_along-requires-clause-valid
other_along-requires-clause-valid c =
    let e = c.in-Some.ensures ∙ ap (λ k. behind_of c.args.on k c.args.b) c.level.ensures.value in
    (behind_is c.args.on c.args.a.now.level c.args.b c.in-Some.q c.requires.valid e).valid

pub returns-in-Some-clause-value : goal.returns-in-Some-clause-value
returns-in-Some-clause-value c =
    let n = c.args.a.now.level in
    let g = c.args.a.now.grid in
    let q = c.in-Some.q in
    let e = c.in-Some.ensures ∙ ap (λ k. behind_of c.args.on k c.args.b) c.level.ensures.value in
    c.other_along.ensures.value ∙ ap (λ o. sum_by (λ t. differs n g c.args.c.0 (place o q t)) (below q.side)) c.opposite.ensures
    ∙ sym (bare_along c.args.on n g c.args.c.0 c.args.b q (behind_is c.args.on n c.args.b q c.requires.valid e))

pub returns-in-None-clause-value : goal.returns-in-None-clause-value
returns-in-None-clause-value c =
    let e = c.in-None.ensures ∙ ap (λ k. behind_of c.args.on k c.args.b) c.level.ensures.value in
    sym (bare_along_end c.args.on c.args.a.now.level c.args.a.now.grid c.args.c.0 c.args.b c.requires.valid e)
