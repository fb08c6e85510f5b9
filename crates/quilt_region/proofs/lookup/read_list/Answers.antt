use Rattle.std.proofs.Common.{ℕ, ◌+◌, ◌*◌, ◌≤◌, length, ◌∙◌, ap, subst, arith}
use Rattle.quilt_record.specs.declared.key.Key.{Key}
use Rattle.quilt_world.specs.Tale.{Goes}
use Rattle.quilt_store.proofs.Reading.{only_reads_free}
use Rattle.quilt_region.proofs.Beside.{if_err_weaker}
use Rattle.quilt_region.proofs.Records.{range_read, region_length}
use Rattle.quilt_region.proofs.Results.{list_whole, sound_whole, if_ok}
use Rattle.quilt_btree.proofs.Handed.{handed_on}
use Rattle.quilt_btree.proofs.Stops.{sound_handed}
use Rattle.quilt_btree.proofs.ways.Damage.{zero_named}
use Rattle.quilt_region.proofs.lookup.read_list.Goals as goal

pub returns-in_err-records-clause-zero : goal.returns-in_err-records-clause-zero
returns-in_err-records-clause-zero g c = sound_handed c.from_residual.result c.from_residual.ensures.1 c.in_err-records.ensures.sound

pub returns-clause-zero : goal.returns-clause-zero
returns-clause-zero g c = if_err_weaker c.list_of.result (λ e zero rs is. zero) c.list_of.ensures.zero

pub returns-in_err-records-clause-sound : goal.returns-in_err-records-clause-sound
returns-in_err-records-clause-sound g c =
    rw (handed_on c.from_residual.result c.from_residual.ensures.1) (λ grid h. c.in_err-records.ensures.sound h.records h.tree)

pub returns-clause-list : goal.returns-clause-list
returns-clause-list g c =
    list_whole (g.S.PageStore.told c.args.store.now) c.args.tree.now c.args.layer c.args.level c.deref.result.now
    (λ grid h. c.deref.ensures.value ∙ range_read (g.S.PageStore.told c.args.store.now) c.args.tree.now c.args.layer c.args.level grid _ _
    c.in_ok-records.records.items 4294967295 c.requires.level.1 (ap (λ (k : Key). k.layer) c.first_key-first.ensures)
    (ap (λ (k : Key). k.part) c.first_key-first.ensures) (ap (λ (k : Key). k.layer) c.last_key-last.ensures)
    (ap (λ (k : Key). k.part) c.last_key-last.ensures) (omega arith) c.in_ok-records.ensures.range h)
    c.list_of.result c.list_of.ensures.list

pub returns-clause-sound : goal.returns-clause-sound
returns-clause-sound g c =
    sound_whole (g.S.PageStore.told c.args.store.now) c.args.tree.now c.args.layer c.args.level c.deref.result.now
    (λ grid h. c.deref.ensures.value ∙ range_read (g.S.PageStore.told c.args.store.now) c.args.tree.now c.args.layer c.args.level grid _ _
    c.in_ok-records.records.items 4294967295 c.requires.level.1 (ap (λ (k : Key). k.layer) c.first_key-first.ensures)
    (ap (λ (k : Key). k.part) c.first_key-first.ensures) (ap (λ (k : Key). k.layer) c.last_key-last.ensures)
    (ap (λ (k : Key). k.part) c.last_key-last.ensures) (omega arith) c.in_ok-records.ensures.range h)
    c.list_of.result c.list_of.ensures.sound

pub returns-clause-left : goal.returns-clause-left
returns-clause-left g c = only_reads_free _ c.list_of.result c.in_ok-records.ensures.left c.list_of.ensures.no_fault

pub returns-clause-reads : goal.returns-clause-reads
returns-clause-reads g c =
    if_ok c.list_of.result _
    (λ grid h.
    let n = c.args.level in
    let all =
    range_read (g.S.PageStore.told c.args.store.now) c.args.tree.now c.args.layer n grid _ _ c.in_ok-records.records.items 4294967295 c.requires.level.1
    (ap (λ (k : Key). k.layer) c.first_key-first.ensures) (ap (λ (k : Key). k.part) c.first_key-first.ensures)
    (ap (λ (k : Key). k.layer) c.last_key-last.ensures) (ap (λ (k : Key). k.part) c.last_key-last.ensures) (omega arith) c.in_ok-records.ensures.range h in
    let many = c.in_ok-records.records.ok.0 ∙ ap length all ∙ region_length n c.args.layer grid in
    subst (λ (k : ℕ). Goes {A = ℕ} (λ old new. new ≤ old + 6 + 3 * k) (g.S.PageStore.reads c.args.store.now)
    (g.S.PageStore.reads c.range.new.store)) many c.in_ok-records.ensures.reads)

pub returns-clause-bad : goal.returns-clause-bad
returns-clause-bad g c = zero_named c.list_of.result _ _ _ c.list_of.ensures.zero

pub returns-in_err-records-clause-bad : goal.returns-in_err-records-clause-bad
returns-in_err-records-clause-bad g c = rw (handed_on c.from_residual.result c.from_residual.ensures.1) c.in_err-records.ensures.bad
