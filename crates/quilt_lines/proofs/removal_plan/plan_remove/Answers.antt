use Rattle.std.proofs.Common.{◌≤◌, ◌+◌, refl, sym, ◌∙◌, subst, true≢false, arith}
use Rattle.std.specs.Prelude.{IsNone}
use Rattle.std.specs.FinMap as finmap
use Rattle.std.proofs.lemmas.Option.{same_Some}
use Rattle.quilt_store.proofs.Reading.{only_reads_then, only_reads_err, only_reads_ok}
use Rattle.quilt_types.specs.declared.plane.Seg.{Seg}
use Rattle.quilt_types.specs.Quadtrees.{after_remove, reach}
use Rattle.quilt_world.specs.Tale.{Goes}
use Rattle.quilt_lines.specs.Bounds.{is_met_above}
use Rattle.quilt_lines.proofs.Sums.{reads_sum}
use Rattle.quilt_lines.specs.Plans.{IsLinePlan}
use Rattle.quilt_lines.proofs.Lookups.{lines_along}
use Rattle.quilt_btree.proofs.Handed.{handed_on}
use Rattle.quilt_btree.proofs.Stops.{zero_handed}
use Rattle.quilt_lines.proofs.removal_plan.plan_remove.Goals as goal

pub returns-in_err-s-clause-sound : goal.returns-in_err-s-clause-sound
returns-in_err-s-clause-sound g c =
    rw (handed_on c.from_residual.result c.from_residual.ensures.1) (λ segs cover h. c.in_err-s.ensures.sound c.args.t segs cover h)

pub returns-in_default-clause-none : goal.returns-in_default-clause-none
returns-in_default-clause-none g c segs cover h = (
  λ _. subst IsNone (sym c.in_default.is ∙ c.in_ok-s.ensures.segment c.args.t segs cover h)
      refl,
  λ _. refl,
)

pub returns-in_err-edits-clause-sound : goal.returns-in_err-edits-clause-sound
returns-in_err-edits-clause-sound g c =
    rw (handed_on c.from_residual-in_err-edits.result c.from_residual-in_err-edits.ensures.1)
    (λ segs cover h. c.in_err-edits.ensures.sound segs cover (lines_along _ _ c.args.tree.now c.args.layer c.args.level c.args.t segs cover c.in_ok-s.ensures.left.told h)
    (sym (c.in_ok-s.ensures.segment c.args.t segs cover h) ∙ c.in-Some.is))

pub returns-clause-plan : goal.returns-clause-plan
returns-clause-plan g c segs cover h s e =
    let got = sym (c.in_ok-s.ensures.segment c.args.t segs cover h) ∙ c.in-Some.is in
    let now = finmap.remove segs c.args.id in
    subst (λ (z : Seg). IsLinePlan c.args.level c.args.layer c.args.t segs now cover (after_remove c.args.level c.args.t now cover z) c.in_ok-edits.edits)
    (same_Some c.in-Some.s s (sym got ∙ e))
    (c.in_ok-edits.ensures.plan segs cover (lines_along _ _ c.args.tree.now c.args.layer c.args.level c.args.t segs cover c.in_ok-s.ensures.left.told h) got).plan

pub returns-clause-none : goal.returns-clause-none
returns-clause-none g c segs cover h = (
  λ e. absurd (true≢false e),
  λ none. subst IsNone (sym (c.in_ok-s.ensures.segment c.args.t segs cover h) ∙ c.in-Some.is) none,
)

pub returns-clause-fewer : goal.returns-clause-fewer
returns-clause-fewer g c segs cover h =
    (c.in_ok-edits.ensures.plan segs cover (lines_along _ _ c.args.tree.now c.args.layer c.args.level c.args.t segs cover c.in_ok-s.ensures.left.told h)
    (sym (c.in_ok-s.ensures.segment c.args.t segs cover h) ∙ c.in-Some.is)).fewer

pub returns-in_err-edits-clause-left : goal.returns-in_err-edits-clause-left
returns-in_err-edits-clause-left g c =
    rw (handed_on c.from_residual-in_err-edits.result c.from_residual-in_err-edits.ensures.1)
    (only_reads_err _ (only_reads_then _ g.met.S.PageStore.goes_on _ _ _ c.in_ok-s.ensures.left c.in_err-edits.ensures.left))

pub returns-clause-left : goal.returns-clause-left
returns-clause-left g c = only_reads_ok _ (only_reads_then _ g.met.S.PageStore.goes_on _ _ _ c.in_ok-s.ensures.left c.in_ok-edits.ensures.left) _

pub returns-clause-reads : goal.returns-clause-reads
returns-clause-reads g c segs cover h s e =
    let got = sym (c.in_ok-s.ensures.segment c.args.t segs cover h) ∙ c.in-Some.is in
    subst (λ (z : Seg). Goes (λ old new. new ≤ old + (3 + reach c.args.level segs cover (is_met_above c.args.level z)))
    (g.S.PageStore.reads c.args.store.now) (g.S.PageStore.reads c.plan.new.store)) (same_Some c.in-Some.s s (sym got ∙ e))
    (let all = reach c.args.level segs cover (is_met_above c.args.level c.in-Some.s) in
    reads_sum _ _ _ 3 all (3 + all) (omega arith) c.in_ok-s.ensures.reads
    (c.in_ok-edits.ensures.reads segs cover (lines_along _ _ c.args.tree.now c.args.layer c.args.level c.args.t segs cover c.in_ok-s.ensures.left.told h)))

pub returns-in_err-edits-clause-zero : goal.returns-in_err-edits-clause-zero
returns-in_err-edits-clause-zero g c =
    zero_handed _ c.from_residual-in_err-edits.result c.from_residual-in_err-edits.ensures.1
    c.args.tree.now c.in_ok-s.ensures.left.told c.in_err-edits.ensures.zero

pub returns-in_err-s-clause-zero : goal.returns-in_err-s-clause-zero
returns-in_err-s-clause-zero g c = rw (handed_on c.from_residual.result c.from_residual.ensures.1) c.in_err-s.ensures.zero
