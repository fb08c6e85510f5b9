use Rattle.std.proofs.Common.{◌≡◌, ◌+◌, true, false, refl, sym, ◌∙◌, subst, arith}
use Rattle.quilt_types.specs.Quadtrees.{reach}
use Rattle.quilt_lines.specs.Bounds.{is_met}
use Rattle.quilt_lines.proofs.Sums.{reads_sum}
use Rattle.std.specs.FinMap as finmap
use Rattle.std.specs.Prelude.{IsSome}
use Rattle.quilt_store.proofs.Reading.{only_reads_then, only_reads_err, only_reads_ok}
use Rattle.quilt_lines.proofs.Lookups.{lines_along}
use Rattle.quilt_lines.proofs.Options.{none_at, none_there}
use Rattle.quilt_btree.proofs.Handed.{handed_on}
use Rattle.quilt_btree.proofs.Stops.{zero_handed}
use Rattle.quilt_lines.proofs.addition.plan_add.Goals as goal

pub returns-in_err-segment-clause-sound : goal.returns-in_err-segment-clause-sound
returns-in_err-segment-clause-sound g c =
    rw (handed_on c.from_residual.result c.from_residual.ensures.1) (λ segs cover h. c.in_err-segment.ensures.sound c.args.t segs cover h)

pub returns-then-is_some-clause-none : goal.returns-then-is_some-clause-none
returns-then-is_some-clause-none g c segs cover
    h = (
      λ _. subst IsSome (c.in_ok-segment.ensures.segment c.args.t segs cover h) (sym c.if-is_some.ensures),
      λ _. refl,
    )

pub returns-in_err-edits-clause-sound : goal.returns-in_err-edits-clause-sound
returns-in_err-edits-clause-sound g c =
    rw (handed_on c.from_residual-in_err-edits.result c.from_residual-in_err-edits.ensures.1)
    (λ segs cover h. c.in_err-edits.ensures.sound segs cover (lines_along _ _ c.args.tree.now c.args.layer c.args.level c.args.t segs cover c.in_ok-segment.ensures.left.told h)
    (sym (c.in_ok-segment.ensures.segment c.args.t segs cover h) ∙ none_at c.in_ok-segment.field-0 c.if-is_some.ensures))

pub returns-clause-plan : goal.returns-clause-plan
returns-clause-plan g c segs cover h =
    c.in_ok-edits.ensures.plan segs cover (lines_along _ _ c.args.tree.now c.args.layer c.args.level c.args.t segs cover c.in_ok-segment.ensures.left.told h)
    (sym (c.in_ok-segment.ensures.segment c.args.t segs cover h) ∙ none_at c.in_ok-segment.field-0 c.if-is_some.ensures)

pub returns-clause-none : goal.returns-clause-none
returns-clause-none g c segs cover h =
    let none = sym (c.in_ok-segment.ensures.segment c.args.t segs cover h) ∙ none_at c.in_ok-segment.field-0 c.if-is_some.ensures in
    (λ e. absurd (let no : true ≡ false = e in cc), λ some. absurd (none_there (finmap.get segs c.args.id) none some))

pub returns-in_err-edits-clause-left : goal.returns-in_err-edits-clause-left
returns-in_err-edits-clause-left g c =
    rw (handed_on c.from_residual-in_err-edits.result c.from_residual-in_err-edits.ensures.1)
    (only_reads_err _ (only_reads_then _ g.met.S.PageStore.goes_on _ _ _ c.in_ok-segment.ensures.left c.in_err-edits.ensures.left))

pub returns-clause-left : goal.returns-clause-left
returns-clause-left g c = only_reads_ok _ (only_reads_then _ g.met.S.PageStore.goes_on _ _ _ c.in_ok-segment.ensures.left c.in_ok-edits.ensures.left) _

pub returns-clause-reads : goal.returns-clause-reads
returns-clause-reads g c segs cover h =
    let all = reach c.args.level segs cover (is_met c.args.s) in
    reads_sum _ _ _ 3 all (3 + all) (omega arith) c.in_ok-segment.ensures.reads
    (c.in_ok-edits.ensures.reads segs cover (lines_along _ _ c.args.tree.now c.args.layer c.args.level c.args.t segs cover c.in_ok-segment.ensures.left.told h))

pub returns-in_err-edits-clause-zero : goal.returns-in_err-edits-clause-zero
returns-in_err-edits-clause-zero g c =
    zero_handed _ c.from_residual-in_err-edits.result c.from_residual-in_err-edits.ensures.1
    c.args.tree.now c.in_ok-segment.ensures.left.told c.in_err-edits.ensures.zero

pub returns-in_err-segment-clause-zero : goal.returns-in_err-segment-clause-zero
returns-in_err-segment-clause-zero g c = rw (handed_on c.from_residual.result c.from_residual.ensures.1) c.in_err-segment.ensures.zero
