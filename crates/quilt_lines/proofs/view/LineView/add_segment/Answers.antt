use Rattle.std.proofs.Common.{◌≡◌, true, sym, ◌∙◌, subst}
use Rattle.std.proofs.lemmas.Result.{err_from_is_err_and}
use Rattle.std.proofs.lemmas.Option.{none-some}
use Rattle.quilt_types.specs.Layers.{is_in_square}
use Rattle.quilt_lines.specs.Said.{SaySegmentAt}
use Rattle.quilt_lines.proofs.Lookups.{if_some_at}
use Rattle.quilt_btree.proofs.Handed.{handed_on}
use Rattle.quilt_lines.proofs.view.LineView.add_segment.Goals as goal

pub returns-in_err-s-clause-sound : goal.returns-in_err-s-clause-sound
returns-in_err-s-clause-sound g c =
    let p = err_from_is_err_and c.from_residual.result c.from_residual.ensures.1 in
    rw (p.1, p.2) (λ t segs cover h s e. c.in_err-s.ensures.sound t segs cover h)

pub returns-in_default-clause-sound : goal.returns-in_default-clause-sound
returns-in_default-clause-sound g c t segs cover h s e page p =
    none-some s (sym c.in_default.is ∙ c.in_ok-s.ensures.segment t segs cover h ∙ e)

pub returns-in-Ok-clause-added : goal.returns-in-Ok-clause-added
returns-in-Ok-clause-added g c = (
  c.in-Some.s,
  c.in-Ok.ensures.ok,
  if_some_at c.in_ok-s.field-0 (λ s. is_in_square c.args.self.now.level s ≡ true) c.in-Some.s c.in-Some.is c.in_ok-s.ensures.inside,
  λ t segs cover h. sym (c.in_ok-s.ensures.segment t segs cover h) ∙ c.in-Some.is,
  λ rs is. subst (SaySegmentAt c.args.self.now.level c.args.self.now.layer rs c.args.id) c.in-Some.is (c.in_ok-s.ensures.said rs is),
)

pub returns-in_err-s-clause-zero : goal.returns-in_err-s-clause-zero
returns-in_err-s-clause-zero g c = rw (handed_on c.from_residual.result c.from_residual.ensures.1) c.in_err-s.ensures.zero

pub returns-in_err-s-clause-bad : goal.returns-in_err-s-clause-bad
returns-in_err-s-clause-bad g c = rw (handed_on c.from_residual.result c.from_residual.ensures.1) c.in_err-s.ensures.bad
