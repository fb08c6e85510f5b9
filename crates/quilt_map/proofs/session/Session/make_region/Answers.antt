use Rattle.std.proofs.Common.{◌≡◌, ℕ, ◌+◌, ◌*◌, List, [], length, Some, sym, ◌∙◌, ap, subst, arith}
use Rattle.std.proofs.lemmas.Result.{on_ok_weaker}
use Rattle.quilt_types.specs.Layers.{Region}
use Rattle.quilt_types.specs.declared.plane.Kind.{Kind}
use Rattle.quilt_record.specs.declared.entry.Entry.{Entry}
use Rattle.quilt_record.specs.declared.record.Record.{Record}
use Rattle.quilt_record.specs.Records.{record_of}
use Rattle.quilt_record.specs.Listing.{fact_of_kind}
use Rattle.quilt_blocks.specs.Cutting.{leaves_by_code}
use Rattle.quilt_world.proofs.ReadCounts.{reads_none}
use Rattle.quilt_region.proofs.Records.{region_length}
use Rattle.quilt_spell.specs.Catalogued.{IsCatalogOf}
use Rattle.quilt_map.specs.Asking.{reads_in}
use Rattle.quilt_map.specs.Copying.{BeginsWithEntry}
use Rattle.quilt_map.specs.Making.{AnsweredBy, layer_placed}
use Rattle.quilt_map.specs.Planning.{IsLayerPlan}
use Rattle.quilt_map.proofs.states.ChangeSteps.{goes_here}
use Rattle.quilt_map.proofs.answers.Asked.{if_ok, if_err}
use Rattle.quilt_map.proofs.answers.PastQuota.{past_refused}
use Rattle.quilt_map.proofs.plans.NewLayers.{region_plan}
use Rattle.quilt_map.proofs.questions.Costs.{costs_as}
use Rattle.quilt_map.proofs.session.Session.make_region.Goals as goal

pub returns-then-is_past_quota-clause-goes_on : goal.returns-then-is_past_quota-clause-goes_on
returns-then-is_past_quota-clause-goes_on g c = goes_here {D = g.W.Disk} c.args.self.now.book

pub returns-then-is_past_quota-clause-made : goal.returns-then-is_past_quota-clause-made
returns-then-is_past_quota-clause-made g c = λ s at level grid.
    let list = c.args.list.now in
    past_refused {D = g.W.Disk} c.args.self.now s at c.args.name.now list.grid list.level c.quota_of.result c.quota_of.ensures level
    (c.is_past_quota.ensures.0 c.if-is_past_quota.true)

pub returns-in_default-clause-goes_on : goal.returns-in_default-clause-goes_on
returns-in_default-clause-goes_on g c = goes_here {D = g.W.Disk} c.args.self.now.book

pub returns-clause-made : goal.returns-clause-made
returns-clause-made g c =
    if_ok _ _ c.place.result (λ reply p s at level grid.
    let old = c.args.self.now in
    let e = c.new_entry-entry.ensures in
    let entry = c.new_entry-entry.result in
    let name = c.args.name.now in
    let catalog = subst (λ (es : List Entry). IsCatalogOf s.work at.work.numbers es) (sym c.entries.ensures.entries) at.work.catalog in
    let planned = λ (all : List Record) (listed : BeginsWithEntry entry c.records.result.now all).
    let first_is = λ (n k : ℕ). listed.2 n k ∙ ap (λ (b : List ℕ). record_of n k b entry.number (fact_of_kind entry.kind)) e.name
    ∙ ap (λ (x : Kind). record_of n k name entry.number (fact_of_kind x)) e.kind in
    let plan = region_plan {D = g.W.Disk} old s at name entry.number c.args.list.now all c.records.result.now level grid e.named
    c.requires.few c.requires.new e.number.0 e.number.1
    (e.unused s.work at.work.numbers catalog at.work.spelled.numbering) listed.0 listed.1 first_is (c.records.ensures ∙ c.in-Ok.ensures.add) in
    subst (λ (b : List ℕ). IsLayerPlan s at.work.numbers b entry.number (Some (Region c.args.list.now.grid)) [] all) (sym e.name) plan in
    subst (λ (b : List ℕ). AnsweredBy {D = g.W.Disk} s (layer_placed s b (Region c.args.list.now.grid)) old c.place.new.self reply) e.name
    (p s at (Region c.args.list.now.grid) e.kind planned)) c.place.ensures.placed

pub returns-clause-sound : goal.returns-clause-sound
returns-clause-sound g c =
    if_err _ _ c.place.result (λ err p s at level grid.
    let old = c.args.self.now in
    let e = c.new_entry-entry.ensures in
    let entry = c.new_entry-entry.result in
    let name = c.args.name.now in
    let catalog = subst (λ (es : List Entry). IsCatalogOf s.work at.work.numbers es) (sym c.entries.ensures.entries) at.work.catalog in
    let planned = λ (all : List Record) (listed : BeginsWithEntry entry c.records.result.now all).
    let first_is = λ (n k : ℕ). listed.2 n k ∙ ap (λ (b : List ℕ). record_of n k b entry.number (fact_of_kind entry.kind)) e.name
    ∙ ap (λ (x : Kind). record_of n k name entry.number (fact_of_kind x)) e.kind in
    let plan = region_plan {D = g.W.Disk} old s at name entry.number c.args.list.now all c.records.result.now level grid e.named
    c.requires.few c.requires.new e.number.0 e.number.1
    (e.unused s.work at.work.numbers catalog at.work.spelled.numbering) listed.0 listed.1 first_is (c.records.ensures ∙ c.in-Ok.ensures.add) in
    subst (λ (b : List ℕ). IsLayerPlan s at.work.numbers b entry.number (Some (Region c.args.list.now.grid)) [] all) (sym e.name) plan in
    p s at (Region c.args.list.now.grid) planned) c.place.ensures.sound

pub returns-then-is_past_quota-clause-reads : goal.returns-then-is_past_quota-clause-reads
returns-then-is_past_quota-clause-reads g c =
    let list = c.args.list.now in reads_none (6 + 6 * length (leaves_by_code list.level list.grid)) (reads_in {D = g.W.Disk} c.args.self.now.book)

pub returns-clause-reads : goal.returns-clause-reads
returns-clause-reads g c =
    let list = c.args.list.now in
    let rest = ap length (c.records.ensures ∙ c.in-Ok.ensures.add) in
    let each = region_length list.level c.new_entry-entry.result.number list.grid in
    let same : 6 + 6 * length c.records.result.now ≡ 6 + 6 * length (leaves_by_code list.level list.grid) = omega arith in
    on_ok_weaker c.place.result (costs_as _ _ (reads_in {D = g.W.Disk} c.args.self.now.book) (reads_in {D = g.W.Disk} c.place.new.self.book) same) c.place.ensures.reads
