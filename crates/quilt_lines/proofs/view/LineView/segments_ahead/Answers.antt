use Rattle.std.proofs.Common.{◌+◌, ◌-◌, ◌*◌, count_by, length, arith}
use Rattle.std.specs.Option.{is_none}
use Rattle.std.proofs.lemmas.Result.{IfErr-weaker, on_ok_weaker}
use Rattle.quilt_store.proofs.Reading.{only_reads_then}
use Rattle.quilt_near.specs.Knowing.{known_seg}
use Rattle.quilt_lines.proofs.Followers.{run_known}
use Rattle.quilt_lines.proofs.Lookups.{shows_along}
use Rattle.quilt_lines.proofs.Sums.{reads_sum}
use Rattle.quilt_btree.proofs.Handed.{handed_on}
use Rattle.quilt_btree.proofs.Stops.{zero_along}
use Rattle.quilt_btree.proofs.ways.Damage.{named_along}
use Rattle.quilt_lines.proofs.view.LineView.segments_ahead.Goals as goal

pub returns-in_err-read_run-clause-sound : goal.returns-in_err-read_run-clause-sound
returns-in_err-read_run-clause-sound g c =
    rw (handed_on c.from_residual.result c.from_residual.ensures.1)
    (λ l h all. c.in_err-read_run.ensures.sound l h (λ q from upto. all q (c.in-Some.ensures.each q from upto).0))

pub returns-clause-zero : goal.returns-clause-zero
returns-clause-zero g c =
    zero_along c.args.self.now.tree c.segments_known-2.result c.in_ok-read_run.ensures.left.told c.segments_known-2.ensures.zero

pub returns-clause-sound : goal.returns-clause-sound
returns-clause-sound g c =
    IfErr-weaker c.segments_known-2.result _ _ (λ e sound l h all.
    sound l (shows_along _ _ c.args.self.now.tree c.args.self.now.layer c.args.self.now.level l c.in_ok-read_run.ensures.left.told h) all)
    c.segments_known-2.ensures.sound

pub returns-clause-reads : goal.returns-clause-reads
returns-clause-reads g c =
    let ids = c.args.ids.now in
    let run = c.in-Some.run' in
    let known = known_seg c.read_run.new.known in
    let order = c.in-Some.ensures.few.0 in
    let few = run_known known ids run.first run.last (omega arith) (λ q from upto. ((c.in-Some.ensures.each q from upto).0, c.in_ok-read_run.ensures.all q from upto)) in
    on_ok_weaker c.segments_known-2.result (λ more.
    reads_sum _ _ _ (6 + 3 * (run.last + 1 - run.first)) (3 * count_by (λ id. is_none (known id)) ids) (6 + 3 * length ids) (omega arith)
    c.in_ok-read_run.ensures.reads more) c.segments_known-2.ensures.reads

pub returns-clause-bad : goal.returns-clause-bad
returns-clause-bad g c =
    named_along c.segments_known-2.result _ _ _ _ c.in_ok-read_run.ensures.left.told c.segments_known-2.ensures.bad

pub returns-clause-left : goal.returns-clause-left
returns-clause-left g c = only_reads_then _ g.met.S.PageStore.goes_on _ _ _ c.in_ok-read_run.ensures.left c.segments_known-2.ensures.left

pub returns-in_err-read_run-clause-zero : goal.returns-in_err-read_run-clause-zero
returns-in_err-read_run-clause-zero g c = rw (handed_on c.from_residual.result c.from_residual.ensures.1) c.in_err-read_run.ensures.zero

pub returns-in_err-read_run-clause-bad : goal.returns-in_err-read_run-clause-bad
returns-in_err-read_run-clause-bad g c = rw (handed_on c.from_residual.result c.from_residual.ensures.1) c.in_err-read_run.ensures.bad
