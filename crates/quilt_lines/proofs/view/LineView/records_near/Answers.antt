use Rattle.std.proofs.Common.{[], ◌+◌, ◌*◌, ap, refl, arith, vec_len}
use Rattle.std.proofs.lemmas.Result.{IfOk-weaker, IfErr-weaker}
use Rattle.quilt_record.specs.declared.record.Record.{Record}
use Rattle.quilt_store.proofs.Reading.{only_reads_then}
use Rattle.quilt_lines.specs.Reads.{none_of}
use Rattle.quilt_lines.proofs.Around.{near_read, near_none, reads_one}
use Rattle.quilt_lines.proofs.Sums.{reads_sum}
use Rattle.quilt_btree.proofs.Stops.{tree_along}
use Rattle.quilt_btree.proofs.ways.Damage.{named_along}
use Rattle.quilt_btree.proofs.Handed.{handed_on}
use Rattle.quilt_lines.proofs.view.LineView.records_near.Goals as goal

pub returns-in-None-clause-records : goal.returns-in-None-clause-records
returns-in-None-clause-records g c t segs cover h =
    let self = c.args.self.now in
    near_none (g.S.PageStore.told c.args.store.now) self.tree self.layer self.level t segs cover c.args.b _ _ c.in_ok-found.found c.new.result.items
    c.new.ensures.items self.has_level.1 c.requires.block (ap (λ (r : Record). r.key) (c.pair_record.ensures.written [])) refl c.in_ok-found.ensures.last
    c.in-None.ensures h

pub returns-in-Some-clause-records : goal.returns-in-Some-clause-records
returns-in-Some-clause-records g c =
    let self = c.args.self.now in
    IfOk-weaker c.records_to.result _ _ (λ v f t segs cover h.
    near_read (g.S.PageStore.told c.args.store.now) self.tree self.layer self.level t segs cover c.args.b _ _ c.in_ok-found.found c.in-Some.last v.items
    c.requires.rooted.height self.has_level.1 c.requires.block (ap (λ (r : Record). r.key) (c.pair_record.ensures.written [])) refl c.in_ok-found.ensures.last
    c.in-Some.ensures.0 c.in-Some.ensures.1
    (λ rs is. f rs (tree_along _ _ self.tree rs c.in_ok-found.ensures.left.told is)) h) c.records_to.ensures.records

pub returns-in-Some-clause-sound : goal.returns-in-Some-clause-sound
returns-in-Some-clause-sound g c =
    IfErr-weaker c.records_to.result _ _ (λ e f rs is. f rs (tree_along _ _ c.args.self.now.tree rs c.in_ok-found.ensures.left.told is)) c.records_to.ensures.sound

pub returns-in-Some-clause-none : goal.returns-in-Some-clause-none
returns-in-Some-clause-none g c =
    let self = c.args.self.now in
    IfOk-weaker c.records_to.result _ _ (λ v f is.
    reads_one v.items f.0 c.in-Some.last (none_of self.level self.layer c.args.b) _ _ _ f.1 refl c.in_ok-found.ensures.reads c.records_to.ensures.first is)
    c.records_to.ensures.ends

pub returns-in-Some-clause-bad : goal.returns-in-Some-clause-bad
returns-in-Some-clause-bad g c =
    named_along c.records_to.result _ _ _ _ c.in_ok-found.ensures.left.told c.records_to.ensures.bad

pub returns-in-Some-clause-left : goal.returns-in-Some-clause-left
returns-in-Some-clause-left g c = only_reads_then _ g.met.S.PageStore.goes_on _ _ _ c.in_ok-found.ensures.left c.records_to.ensures.left

pub returns-in-Some-clause-reads : goal.returns-in-Some-clause-reads
returns-in-Some-clause-reads g c =
    IfOk-weaker c.records_to.result _ _ (λ v f.
    reads_sum _ _ _ 9 (3 + 3 * vec_len v) (12 + 3 * vec_len v) (omega arith) c.in_ok-found.ensures.reads f) c.records_to.ensures.reads

pub returns-in_err-found-clause-sound : goal.returns-in_err-found-clause-sound
returns-in_err-found-clause-sound g c = rw (handed_on c.from_residual.result c.from_residual.ensures.1) c.in_err-found.ensures.sound

pub returns-in_err-found-clause-bad : goal.returns-in_err-found-clause-bad
returns-in_err-found-clause-bad g c = rw (handed_on c.from_residual.result c.from_residual.ensures.1) c.in_err-found.ensures.bad
