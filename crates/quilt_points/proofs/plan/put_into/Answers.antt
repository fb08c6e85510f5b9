use Rattle.std.proofs.Common.{refl, sym, ◌∙◌}
use Rattle.quilt_points.proofs.Finds.{false_true}
use Rattle.quilt_points.proofs.plans.Puts.{free_from, taken_from, not_some, put_can, put_plan}
use Rattle.quilt_points.proofs.Results.{memory_sound}
use Rattle.quilt_btree.proofs.Handed.{handed_on}
use Rattle.quilt_btree.proofs.Stops.{zero_page}
use Rattle.quilt_points.proofs.plan.put_into.Goals as goal

pub returns-then-has_point-clause-none : goal.returns-then-has_point-clause-none
returns-then-has_point-clause-none c points is on =
    let p = c.has_point.ensures.yes c.if-has_point.true in
    (λ _. taken_from points c.args.b c.args.held.now c.args.p.at is.are p.0 p.1 p.2, λ _. refl)

pub returns-in_err-edits-clause-sound : goal.returns-in_err-edits-clause-sound
returns-in_err-edits-clause-sound c =
    rw (handed_on c.from_residual.result c.from_residual.ensures.1) (λ points valid is on. memory_sound c.in_err-edits.field-0.0 (c.in_err-edits.ensures.memory
    (put_can c.args.layer.level c.args.layer.bucket c.args.layer.number c.args.layer.has_level.1 c.args.layer.has_number.0 c.args.layer.has_number.1
    points valid c.args.b c.args.held.now is c.args.p on c.requires.pixel c.requires.label
    (free_from c.args.layer.level c.args.layer.bucket points c.args.b c.args.held.now c.args.p.at is.are on
    (λ q m e. false_true (sym c.if-has_point.false ∙ c.has_point.ensures.no q m e)))
    c.requires.block.level c.requires.block.size _ _ c.in-Ok.ensures.without (c.in-Ok.ensures.with c.requires.block.level c.requires.block.size))))

pub returns-clause-plan : goal.returns-clause-plan
returns-clause-plan c points valid is on =
    put_plan c.args.layer.level c.args.layer.bucket c.args.layer.number c.args.layer.has_level.1 c.args.layer.has_number.0 c.args.layer.has_number.1
    points valid c.args.b c.args.held.now is c.args.p on c.requires.pixel c.requires.label
    (free_from c.args.layer.level c.args.layer.bucket points c.args.b c.args.held.now c.args.p.at is.are on
    (λ q m e. false_true (sym c.if-has_point.false ∙ c.has_point.ensures.no q m e)))
    c.requires.block.level c.requires.block.size _ _ c.in-Ok.ensures.without (c.in-Ok.ensures.with c.requires.block.level c.requires.block.size)
    c.in_ok-edits.edits c.in_ok-edits.ensures.remove c.in_ok-edits.ensures.add

pub returns-clause-none : goal.returns-clause-none
returns-clause-none c points is on =
    let free = free_from c.args.layer.level c.args.layer.bucket points c.args.b c.args.held.now c.args.p.at is.are on
    (λ q m e. false_true (sym c.if-has_point.false ∙ c.has_point.ensures.no q m e)) in
    (λ e. absurd (false_true (sym e)), λ some. absurd (not_some _ free some))

pub returns-in_err-edits-clause-zero : goal.returns-in_err-edits-clause-zero
returns-in_err-edits-clause-zero c =
    rw (handed_on c.from_residual.result c.from_residual.ensures.1) (zero_page _ c.in_err-edits.ensures.zero)
