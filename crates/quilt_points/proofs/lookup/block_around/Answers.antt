use Rattle.std.proofs.Common.{◌∙◌, ap}
use Rattle.std.proofs.lemmas.Result.{IfOk-weaker, IfErr-weaker}
use Rattle.quilt_record.specs.declared.key.Key.{Key}
use Rattle.quilt_store.proofs.Reading.{only_reads_free}
use Rattle.quilt_btree.specs.Lists.{floor_of}
use Rattle.quilt_btree.proofs.Handed.{handed_on}
use Rattle.quilt_btree.proofs.Stops.{sound_handed}
use Rattle.quilt_btree.proofs.ways.Damage.{zero_named}
use Rattle.quilt_points.proofs.lookup.block_around.Goals as goal

pub returns-in_err-found-clause-sound : goal.returns-in_err-found-clause-sound
returns-in_err-found-clause-sound g c =
    rw (handed_on c.from_residual.result c.from_residual.ensures.1) (λ points h. c.in_err-found.ensures.sound h.records h.tree)

pub returns-clause-read : goal.returns-clause-read
returns-clause-read g c =
    IfOk-weaker c.block_said.result _ _
    (λ v f points h. f (g.S.PageStore.told c.args.store.now) c.args.tree.now points
    (λ rs is. c.in_ok-found.ensures.floor rs is ∙ ap (λ (k : Key). floor_of k rs) c.key_behind-k.ensures) h) c.block_said.ensures.read

pub returns-clause-row : goal.returns-clause-row
returns-clause-row g c =
    IfOk-weaker c.block_said.result _ _
    (λ v f rs is. f rs (c.in_ok-found.ensures.floor rs is ∙ ap (λ (k : Key). floor_of k rs) c.key_behind-k.ensures)) c.block_said.ensures.row

pub returns-clause-sound : goal.returns-clause-sound
returns-clause-sound g c =
    IfErr-weaker c.block_said.result _ _
    (λ v f points h. f (g.S.PageStore.told c.args.store.now) c.args.tree.now points
    (λ rs is. c.in_ok-found.ensures.floor rs is ∙ ap (λ (k : Key). floor_of k rs) c.key_behind-k.ensures) h) c.block_said.ensures.sound

pub returns-in_err-found-clause-zero : goal.returns-in_err-found-clause-zero
returns-in_err-found-clause-zero g c = sound_handed c.from_residual.result c.from_residual.ensures.1 c.in_err-found.ensures.sound

pub returns-clause-zero : goal.returns-clause-zero
returns-clause-zero g c = IfErr-weaker c.block_said.result _ _ (λ e zero rs is. zero) c.block_said.ensures.zero

pub returns-in_err-found-clause-bad : goal.returns-in_err-found-clause-bad
returns-in_err-found-clause-bad g c =
    rw (handed_on c.from_residual.result c.from_residual.ensures.1) (λ ne. c.in_err-found.ensures.bad)

pub returns-clause-bad : goal.returns-clause-bad
returns-clause-bad g c = zero_named c.block_said.result _ _ _ c.block_said.ensures.zero

pub returns-clause-left : goal.returns-clause-left
returns-clause-left g c = only_reads_free _ c.block_said.result c.in_ok-found.ensures.left c.block_said.ensures.no_fault
