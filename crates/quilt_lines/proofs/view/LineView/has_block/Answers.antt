use Rattle.std.proofs.Common.{[], refl, ◌∙◌, ap}
use Rattle.quilt_record.specs.declared.record.Record.{Record}
use Rattle.quilt_lines.proofs.Floors.{read_none, read_some}
use Rattle.quilt_btree.proofs.Handed.{handed_on}
use Rattle.quilt_btree.proofs.Stops.{sound_handed}
use Rattle.quilt_lines.proofs.view.LineView.has_block.Goals as goal

pub returns-in_err-floor-clause-sound : goal.returns-in_err-floor-clause-sound
returns-in_err-floor-clause-sound g c =
    rw (handed_on c.from_residual.result c.from_residual.ensures.1) (λ t segs cover h. c.in_err-floor.ensures.sound h.records h.is_tree)

pub returns-in-None-clause-there : goal.returns-in-None-clause-there
returns-in-None-clause-there g c t segs cover h =
    read_none (g.S.PageStore.told c.args.store.now) c.args.self.now.tree c.args.self.now.layer c.args.self.now.level t segs cover _ _ c.in_ok-floor.field-0
    c.in_ok-floor.ensures.floor h c.args.self.now.has_level.1 c.args.b c.requires.block
    (ap (λ (r : Record). r.key) (c.pair_record.ensures.written [])) refl c.in-None.is

pub returns-in-Some-clause-there : goal.returns-in-Some-clause-there
returns-in-Some-clause-there g c t segs cover h =
    c.is_from.ensures
    ∙ read_some (g.S.PageStore.told c.args.store.now) c.args.self.now.tree c.args.self.now.layer c.args.self.now.level t segs cover _ _
    c.in_ok-floor.field-0 c.in_ok-floor.ensures.floor h c.args.self.now.has_level.1 c.args.b c.requires.block
    (ap (λ (r : Record). r.key) (c.pair_record.ensures.written [])) refl c.in-Some.r c.in-Some.is

pub returns-in_err-floor-clause-zero : goal.returns-in_err-floor-clause-zero
returns-in_err-floor-clause-zero g c = sound_handed c.from_residual.result c.from_residual.ensures.1 c.in_err-floor.ensures.sound
