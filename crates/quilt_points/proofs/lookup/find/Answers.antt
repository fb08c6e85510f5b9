use Rattle.std.proofs.Common.{◌≡◌, ◌≤◌, ℕ, List, Option, ◌∙◌, sym, subst, arith}
use Rattle.std.specs.Prelude.{◌==◌, if◌then◌else◌}
use Rattle.std.proofs.lemmas.Result.{IfOk-weaker, IfErr-weaker}
use Rattle.std.proofs.lemmas.Bool.Decides.{nat_tests}
use Rattle.quilt_world.proofs.ReadCounts.{reads_then}
use Rattle.quilt_btree.specs.Trees.{IsTree}
use Rattle.quilt_store.proofs.Reading.{only_reads_then}
use Rattle.quilt_points.proofs.Finds.{one_found_at, has_along}
use Rattle.quilt_btree.proofs.Stops.{zero_along}
use Rattle.quilt_btree.proofs.ways.Damage.{named_along}
use Rattle.quilt_btree.proofs.Handed.{handed_on}
use Rattle.quilt_points.proofs.lookup.find.Goals as goal

pub returns-then-bucket-eq1-clause-label : goal.returns-then-bucket-eq1-clause-label
returns-then-bucket-eq1-clause-label g c points h =
    c.label_of.ensures ∙ one_found_at c.args.level points c.in_ok-b.b c.args.at c.in_ok-b.ensures.holds c.args.bucket c.in_ok-b.held c.if-bucket-eq1.true
    (c.in_ok-b.ensures.read points h)

pub returns-else-bucket-eq1-clause-sound : goal.returns-else-bucket-eq1-clause-sound
returns-else-bucket-eq1-clause-sound g c =
    IfErr-weaker c.label_in.result _ _
    (λ e f points h. f points (has_along _ _ c.args.tree.now c.args.layer c.args.level c.args.bucket points c.in_ok-b.ensures.left.told h)
    (c.in_ok-b.ensures.read points h).block c.in_ok-b.ensures.holds) c.label_in.ensures.sound

pub returns-else-bucket-eq1-clause-left : goal.returns-else-bucket-eq1-clause-left
returns-else-bucket-eq1-clause-left g c = only_reads_then _ g.met.S.PageStore.goes_on _ _ _ c.in_ok-b.ensures.left c.label_in.ensures.left

pub returns-then-bucket-eq1-clause-answered : goal.returns-then-bucket-eq1-clause-answered
returns-then-bucket-eq1-clause-answered g c rs is = record {
  block = c.in_ok-b.b;
  held = c.in_ok-b.held;
  there = c.in_ok-b.ensures.row rs is;
  holds = c.in_ok-b.ensures.holds;
  one = λ e. c.label_of.ensures;
  more = λ lt. let one = c.if-bucket-eq1.true in absurd (omega arith);
}

pub returns-else-bucket-eq1-clause-answered : goal.returns-else-bucket-eq1-clause-answered
returns-else-bucket-eq1-clause-answered g c =
    IfOk-weaker c.label_in.result _ _ (λ label f rs is. record {
      block = c.in_ok-b.b;
      held = c.in_ok-b.held;
      there = c.in_ok-b.ensures.row rs is;
      holds = c.in_ok-b.ensures.holds;
      one = λ e. absurd (c.if-bucket-eq1.false e);
      more = λ lt. f rs (subst (λ (o : Option (List (List ℕ))). IsTree o c.args.tree.now rs) (sym c.in_ok-b.ensures.left.told) is);
    }) c.label_in.ensures.answered

pub returns-else-bucket-eq1-clause-zero : goal.returns-else-bucket-eq1-clause-zero
returns-else-bucket-eq1-clause-zero g c =
    zero_along c.args.tree.now c.label_in.result c.in_ok-b.ensures.left.told c.label_in.ensures.zero

pub returns-else-bucket-eq1-clause-bad : goal.returns-else-bucket-eq1-clause-bad
returns-else-bucket-eq1-clause-bad g c =
    named_along c.label_in.result _ _ _ _ c.in_ok-b.ensures.left.told c.label_in.ensures.bad

nine : (b : ℕ) → (b ≡ 1 → ⊥) → 9 ≤ (if b == 1 then 6 else 9)
nine b more = grind (arith, nat_tests)

pub returns-else-bucket-eq1-clause-reads : goal.returns-else-bucket-eq1-clause-reads
returns-else-bucket-eq1-clause-reads g c =
    reads_then 6 3 (if c.args.bucket == 1 then 6 else 9) _ _ _ (nine c.args.bucket c.if-bucket-eq1.false) c.in_ok-b.ensures.reads c.label_in.ensures.reads

pub returns-in_err-b-clause-sound : goal.returns-in_err-b-clause-sound
returns-in_err-b-clause-sound g c = rw (handed_on c.from_residual.result c.from_residual.ensures.1) c.in_err-b.ensures.sound

pub returns-in_err-b-clause-zero : goal.returns-in_err-b-clause-zero
returns-in_err-b-clause-zero g c = rw (handed_on c.from_residual.result c.from_residual.ensures.1) c.in_err-b.ensures.zero

pub returns-in_err-b-clause-bad : goal.returns-in_err-b-clause-bad
returns-in_err-b-clause-bad g c = rw (handed_on c.from_residual.result c.from_residual.ensures.1) c.in_err-b.ensures.bad
