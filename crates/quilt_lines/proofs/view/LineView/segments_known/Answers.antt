use Rattle.std.proofs.Common.{◌+◌, ◌*◌, ◌≤◌, get_or, subst, arith}
use Rattle.quilt_store.proofs.Reading.{read_on, only_reads_then, only_reads_free}
use Rattle.quilt_near.specs.Knowing.{known_seg, many_known}
use Rattle.quilt_near.proofs.Knowing.{knows_where}
use Rattle.quilt_near.proofs.Telling.{tells_then}
use Rattle.quilt_edits.proofs.Lists.{member_at}
use Rattle.quilt_lines.specs.Marks.{IsMark}
use Rattle.quilt_lines.proofs.Lookups.{shows_along}
use Rattle.quilt_lines.proofs.Followers.{unknown_more}
use Rattle.quilt_lines.proofs.Taken.{taken_more}
use Rattle.quilt_btree.proofs.Handed.{handed_on}
use Rattle.quilt_btree.proofs.stores.Looks.{only_reads_handed}
use Rattle.quilt_btree.proofs.Stops.{zero_handed, bad_handed}
use Rattle.quilt_lines.proofs.view.LineView.segments_known.Goals as goal

pub returns-in_err-s-clause-zero : goal.returns-in_err-s-clause-zero
returns-in_err-s-clause-zero g c =
    zero_handed _ c.from_residual.result c.from_residual.ensures.1 c.args.self.now.tree c.loop-id.invariant.left.told c.in_err-s.ensures.zero

pub returns-in_err-s-clause-sound : goal.returns-in_err-s-clause-sound
returns-in_err-s-clause-sound g c =
    rw (handed_on c.from_residual.result c.from_residual.ensures.1)
    (λ l h all. let w = all _ (member_at c.args.ids.now c.loop-id.id-index _ c.loop-id-test.true) in
    c.in_err-s.ensures.sound l
    (shows_along _ _ c.args.self.now.tree c.args.self.now.layer c.args.self.now.level l c.loop-id.invariant.left.told h) w.0 w.1)

pub loop-id-preserved : goal.loop-id-preserved
loop-id-preserved g c =
    let id = get_or c.args.ids.now c.loop-id.id-index _ in
    let initial = many_known c.args.known.now in
    let before = many_known c.loop-id.known in
    let after = many_known c.segment_known.new.known in
    record {
      taken = taken_more c.args.ids.now c.loop-id.id-index _ c.in_ok-s.s _ c.loop-id.invariant.taken c.loop-id-test.true c.in-Ok-push.ensures.ok c.in_ok-s.ensures.inside
          (λ m h. c.in_ok-s.ensures.found m
          (shows_along _ _ c.args.self.now.tree c.args.self.now.layer c.args.self.now.level m c.loop-id.invariant.left.told h));
      known = knows_where _ _ _ (IsMark (g.S.PageStore.told c.loop-id.store) c.args.self.now.tree) _ c.segment_known.new.known
          (λ l h. shows_along _ _ c.args.self.now.tree c.args.self.now.layer c.args.self.now.level l c.loop-id.invariant.left.told h)
          (λ m h. subst (λ o. IsMark o c.args.self.now.tree m) c.loop-id.invariant.left.told h) c.in_ok-s.ensures.known;
      stays = λ q s e. c.in_ok-s.ensures.stays q s (c.loop-id.invariant.stays q s e);
      left = read_on _ g.met.S.PageStore.goes_on _ _ _ c.loop-id.invariant.left c.in_ok-s.ensures.left;
      reads = unknown_more (known_seg c.args.known.now) (known_seg c.loop-id.known) c.args.ids.now c.loop-id.id-index _ c.loop-id-test.true
          (λ s e. c.loop-id.invariant.stays id s e) _ _ _ c.loop-id.invariant.reads c.in_ok-s.ensures.reads c.in_ok-s.ensures.again;
      fresh = tells_then (λ x y. y + 3 * initial ≤ x + 3 * before) (λ x y. y + 3 * before ≤ x + 3 * after) (λ x y. y + 3 * initial ≤ x + 3 * after)
          (λ x y z p q. omega arith) _ _ _ c.loop-id.invariant.fresh c.in_ok-s.ensures.fresh;
    }

pub returns-in_err-s-clause-bad : goal.returns-in_err-s-clause-bad
returns-in_err-s-clause-bad g c =
    bad_handed _ c.from_residual.result c.from_residual.ensures.1 c.args.self.now.tree c.loop-id.invariant.left.told c.in_err-s.ensures.bad

pub returns-in_err-s-clause-left : goal.returns-in_err-s-clause-left
returns-in_err-s-clause-left g c =
    only_reads_handed _ c.from_residual.ensures.1 (only_reads_then _ g.met.S.PageStore.goes_on _ _ _ c.loop-id.invariant.left c.in_err-s.ensures.left)

pub returns-in-Err-push-clause-left : goal.returns-in-Err-push-clause-left
returns-in-Err-push-clause-left g c =
    only_reads_free _ _ (only_reads_then _ g.met.S.PageStore.goes_on _ _ _ c.loop-id.invariant.left c.in_ok-s.ensures.left) (λ is. cc)
