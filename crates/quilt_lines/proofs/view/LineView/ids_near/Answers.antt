use Rattle.std.proofs.Common.{◌∙◌}
use Rattle.std.proofs.lemmas.Result.{IfOk-weaker, IfErr-weaker}
use Rattle.quilt_store.proofs.Reading.{only_reads_free}
use Rattle.quilt_btree.proofs.Handed.{handed_on}
use Rattle.quilt_btree.proofs.Stops.{sound_handed}
use Rattle.quilt_btree.proofs.ways.Damage.{zero_named}
use Rattle.quilt_lines.proofs.view.LineView.ids_near.Goals as goal

pub returns-in_err-records-clause-sound : goal.returns-in_err-records-clause-sound
returns-in_err-records-clause-sound g c =
    rw (handed_on c.from_residual.result c.from_residual.ensures.1) (λ t segs cover h. c.in_err-records.ensures.sound h.records h.is_tree)

pub returns-in_err-records-clause-zero : goal.returns-in_err-records-clause-zero
returns-in_err-records-clause-zero g c = sound_handed c.from_residual.result c.from_residual.ensures.1 c.in_err-records.ensures.sound

pub returns-clause-ids : goal.returns-clause-ids
returns-clause-ids g c =
    IfOk-weaker c.ids_said.result _ _ (λ o f t segs cover h. f segs cover (c.deref.ensures.value ∙ c.in_ok-records.ensures.records t segs cover h))
    c.ids_said.ensures.ids

pub returns-clause-sound : goal.returns-clause-sound
returns-clause-sound g c =
    IfErr-weaker c.ids_said.result _ _ (λ e f t segs cover h. f segs cover (c.deref.ensures.value ∙ c.in_ok-records.ensures.records t segs cover h))
    c.ids_said.ensures.sound

pub returns-clause-bad : goal.returns-clause-bad
returns-clause-bad g c =
    zero_named c.ids_said.result (g.S.PageStore.told c.args.store.now) c.args.self.now.tree.height c.args.self.now.tree.root c.ids_said.ensures.zero

pub returns-clause-left : goal.returns-clause-left
returns-clause-left g c = only_reads_free _ c.ids_said.result c.in_ok-records.ensures.left c.ids_said.ensures.no_fault

pub returns-in_err-records-clause-bad : goal.returns-in_err-records-clause-bad
returns-in_err-records-clause-bad g c = rw (handed_on c.from_residual.result c.from_residual.ensures.1) c.in_err-records.ensures.bad
