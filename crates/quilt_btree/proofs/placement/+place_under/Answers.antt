use Rattle.std.proofs.Common.{◌≡◌, ℕ, List, ◌∷◌, ◌≤◌, ◌<◌, Some, Err, take, refl, subst, ◌∙◌}
use Rattle.quilt_record.specs.declared.record.Record.{Record}
use Rattle.quilt_node.specs.Pages.{Inner, inner_of}
use Rattle.quilt_btree.specs.declared.edit.Edit.TheVariants as edit
use Rattle.quilt_btree.specs.declared.outcomes.Inserted.{Inserted}
use Rattle.quilt_btree.specs.Trees.{SpellsSubtree}
use Rattle.quilt_btree.proofs.batches.Below.{least_taken}
use Rattle.quilt_btree.proofs.growth.Below.{edit_spells}
use Rattle.quilt_btree.proofs.growth.UnderGrowth.{IsLedIn, RunLeads, led_in, path_inside, room_since, under_there, under_done, page_took, page_sound, sound_leaf_below, sound_below}
use Rattle.quilt_btree.proofs.stores.Leaves.{edits_err, edits_ok, inserts_below, inserts_above}
use Rattle.quilt_btree.proofs.ways.Damage.{bad_below, inner_faults}
use Rattle.quilt_btree.proofs.ways.Forks.{read_ok}
use Rattle.quilt_btree.proofs.Handed.{handed_on}
use Rattle.quilt_btree.proofs.placement.+place_under.Given.{Over}
use Rattle.quilt_btree.proofs.placement.+place_under.Goals.{In_ok-placed}
use Rattle.quilt_btree.proofs.placement.+place_under.Goals as goal

-- where the page spells a list, the key leads to a child of the inner page that was read
led : (g : Over) (t : ℕ) (c : In_ok-placed g t) (rs : List Record) → SpellsSubtree (g.S.PageStore.told c.args.store.now) c.args.page c.args.height rs
    → IsLedIn (g.S.PageStore.told c.args.store.now) (g.S.PageStore.told c.read_path.new.store) (g.S.PageStore.free c.args.store.now)
    (g.S.PageStore.free c.read_path.new.store) (g.S.PageStore.size c.args.store.now) (g.S.PageStore.size c.read_path.new.store) c.args.page c.args.height
    c.in_ok-path.path.child c.in_ok-path.path.place c.args.r.now.key (g.S.PageStore.size c.place_under.new.store) c.read_path.new.bytes
led g t c rs s =
    led_in c.in_ok-path.ensures.left c.requires.height c.if-height-eq1.false
    (c.in_ok-path.ensures.here c.args.height rs c.requires.height c.if-height-eq1.false s) c.in_ok-path.ensures.path
    (c.in_ok-placed.ensures.left.size ∙ c.in_ok-path.ensures.left.size)

-- and with it the records that came
run_led : (g : Over) (t : ℕ) (c : In_ok-placed g t) (inner : Inner) → inner_of (g.S.PageStore.size c.place_under.new.store) c.read_path.new.bytes ≡ Some inner
    → RunLeads (edit.Put c.args.r.now ∷ take c.in_ok-placed.placed.more c.args.behind.now) c.args.r.now.key inner c.in_ok-path.path.place c.args.high.now
    c.high_behind-next.result
run_led g t c inner is = record {
  is_next = c.high_behind-next.ensures (g.S.PageStore.size c.place_under.new.store) inner is
      (path_inside (g.S.PageStore.size c.args.store.now) c.read_path.new.bytes c.in_ok-path.ensures.path (c.in_ok-placed.ensures.left.size ∙ c.in_ok-path.ensures.left.size) inner is);
  from = least_taken c.args.r.now c.args.behind.now c.in_ok-placed.placed.more c.requires.order;
}

pub returns-then-height-eq1-clause-sound : goal.returns-then-height-eq1-clause-sound
returns-then-height-eq1-clause-sound g t c =
    sound_leaf_below (g.S.PageStore.told c.args.store.now) (g.S.PageStore.free c.args.store.now) (g.S.PageStore.size c.args.store.now) c.args.page
    c.args.r.now.key c.args.high.now c.place_in_leaf.result c.if-height-eq1.true c.place_in_leaf.ensures.sound

pub returns-in_err-path-clause-sound : goal.returns-in_err-path-clause-sound
returns-in_err-path-clause-sound g t c =
    rw (handed_on c.from_residual.result c.from_residual.ensures.1)
    (λ is_root b rs used top can few. c.in_err-path.ensures.sound c.args.height rs c.requires.height c.if-height-eq1.false (edit_spells can.can_edit))

pub returns-in_err-path-clause-bad : goal.returns-in_err-path-clause-bad
returns-in_err-path-clause-bad g t c =
    rw (handed_on c.from_residual.result c.from_residual.ensures.1) (λ ne. c.in_err-path.ensures.bad c.args.height c.requires.height c.if-height-eq1.false)

pub high_behind-next-requires : goal.high_behind-next-requires
high_behind-next-requires g t c = c.in_ok-path.ensures.range

pub returns-in_err-placed-clause-sound : goal.returns-in_err-placed-clause-sound
returns-in_err-placed-clause-sound g t c =
    rw (handed_on c.from_residual-in_err-placed.result c.from_residual-in_err-placed.ensures.1)
    (λ is_root b rs used top can few.
    let d = led_in c.in_ok-path.ensures.left c.requires.height c.if-height-eq1.false
    (c.in_ok-path.ensures.here c.args.height rs c.requires.height c.if-height-eq1.false (edit_spells can.can_edit)) c.in_ok-path.ensures.path refl in
    sound_below _ d.leads
    (c.high_behind-next.ensures (g.S.PageStore.size c.args.store.now) d.inner d.is (path_inside (g.S.PageStore.size c.args.store.now) c.read_path.new.bytes c.in_ok-path.ensures.path refl d.inner d.is))
    c.in_err-placed.ensures.sound top can few)

pub returns-in_err-placed-clause-bad : goal.returns-in_err-placed-clause-bad
returns-in_err-placed-clause-bad g t c =
    rw (handed_on c.from_residual-in_err-placed.result c.from_residual-in_err-placed.ensures.1) (λ ne.
    bad_below c.in_ok-path.path.child _
    (read_ok (g.S.PageStore.told c.args.store.now) (g.S.PageStore.told c.read_path.new.store) c.args.page c.args.height
    (g.S.PageStore.size c.args.store.now) (g.S.PageStore.size c.args.store.now) c.read_path.new.bytes c.requires.height c.if-height-eq1.false
    c.in_ok-path.ensures.left.told (g.met.S.PageStore.as_many c.args.store.now) refl c.in_ok-path.ensures.bytes)
    c.in_ok-path.ensures.stands (c.in_err-placed.ensures.bad ne))

pub returns-in_err-placed-clause-left : goal.returns-in_err-placed-clause-left
returns-in_err-placed-clause-left g t c =
    edits_err _ c.from_residual-in_err-placed.ensures.1
    (inserts_below _ g.met.S.PageStore.goes_on c.args.height c.requires.height c.in_ok-path.ensures.left c.in_ok-path.ensures.reads c.in_err-placed.ensures.left)

pub put_in_page-requires-clause-place : goal.put_in_page-requires-clause-place
put_in_page-requires-clause-place g t c =
    path_inside (g.S.PageStore.size c.args.store.now) c.read_path.new.bytes c.in_ok-path.ensures.path (c.in_ok-placed.ensures.left.size ∙ c.in_ok-path.ensures.left.size)

pub returns-in_err-outcome-in-Split-clause-sound : goal.returns-in_err-outcome-in-Split-clause-sound
returns-in_err-outcome-in-Split-clause-sound g t c =
    rw (handed_on c.from_residual-in_err-outcome-in-Split.result c.from_residual-in_err-outcome-in-Split.ensures.1)
    (λ is_root b rs used top can small.
    let here = (goal.at.returns-in_err-outcome-in-Split-clause-sound g t c).In_ok-placed in
    let d = led g t here rs (edit_spells can.can_edit) in
    page_sound d.leads (run_led g t here d.inner d.is) (g.met.S.PageStore.as_many c.args.store.now)
    (subst (λ n. (1 ≤ c.in-Split.right) × (c.in-Split.right < n)) c.in_ok-path.ensures.left.size
    (rw c.in-Split.is at c.in_ok-placed.ensures.leaves.right))
    (rw c.in-Split.is at c.in_ok-placed.ensures.placed) top can _ (g.S.PageStore.size c.place_under.new.store)
    (c.in_ok-placed.ensures.left.size ∙ c.in_ok-path.ensures.left.size)
    (room_since c.in_ok-path.ensures.left (g.S.PageStore.free c.place_under.new.store) c.args.height c.in_ok-placed.ensures.leaves.room) small
    (c.in_err-outcome-in-Split.ensures.sound d.inner d.is d.is_height is_root b))

pub returns-in_err-outcome-in-Split-clause-bad : goal.returns-in_err-outcome-in-Split-clause-bad
returns-in_err-outcome-in-Split-clause-bad g t c =
    rw (handed_on c.from_residual-in_err-outcome-in-Split.result c.from_residual-in_err-outcome-in-Split.ensures.1)
    (inner_faults {T = Inserted} (Err _)
    (read_ok (g.S.PageStore.told c.args.store.now) (g.S.PageStore.told c.read_path.new.store) c.args.page c.args.height
    (g.S.PageStore.size c.place_under.new.store) (g.S.PageStore.size c.args.store.now) c.read_path.new.bytes c.requires.height c.if-height-eq1.false
    c.in_ok-path.ensures.left.told (g.met.S.PageStore.as_many c.args.store.now) (c.in_ok-placed.ensures.left.size ∙ c.in_ok-path.ensures.left.size)
    c.in_ok-path.ensures.bytes)
    c.in_err-outcome-in-Split.ensures.fault)

pub returns-in_err-outcome-in-Split-clause-left : goal.returns-in_err-outcome-in-Split-clause-left
returns-in_err-outcome-in-Split-clause-left g t c =
    edits_err _ c.from_residual-in_err-outcome-in-Split.ensures.1
    (inserts_above _ g.met.S.PageStore.goes_on c.args.height c.requires.height c.in_ok-path.ensures.left c.in_ok-path.ensures.reads
    c.in_ok-placed.ensures.left c.in_err-outcome-in-Split.ensures.left)

pub returns-in-There-clause-placed : goal.returns-in-There-clause-placed
returns-in-There-clause-placed g t c is_root b rs used top can =
    let here = (goal.at.returns-in-There-clause-placed g t c).In_ok-placed in
    let d = led g t here rs (edit_spells can.can_edit) in
    rw c.in-There.is
    (under_there d.leads (run_led g t here d.inner d.is) top can (rw c.in-There.is at c.in_ok-placed.ensures.placed))

pub returns-in-There-clause-left : goal.returns-in-There-clause-left
returns-in-There-clause-left g t c =
    edits_ok _ _ (inserts_below _ g.met.S.PageStore.goes_on c.args.height c.requires.height c.in_ok-path.ensures.left c.in_ok-path.ensures.reads c.in_ok-placed.ensures.left)

pub returns-in-Done-clause-placed : goal.returns-in-Done-clause-placed
returns-in-Done-clause-placed g t c is_root b rs used top can =
    let here = (goal.at.returns-in-Done-clause-placed g t c).In_ok-placed in
    let d = led g t here rs (edit_spells can.can_edit) in
    rw c.in-Done.is
    (under_done d.leads (run_led g t here d.inner d.is) top can (rw c.in-Done.is at c.in_ok-placed.ensures.placed))

pub returns-in-Done-clause-left : goal.returns-in-Done-clause-left
returns-in-Done-clause-left g t c =
    edits_ok _ _ (inserts_below _ g.met.S.PageStore.goes_on c.args.height c.requires.height c.in_ok-path.ensures.left c.in_ok-path.ensures.reads c.in_ok-placed.ensures.left)

pub returns-in_ok-outcome-in-Split-clause-placed : goal.returns-in_ok-outcome-in-Split-clause-placed
returns-in_ok-outcome-in-Split-clause-placed g t c is_root b rs used top can =
    let here = (goal.at.returns-in_ok-outcome-in-Split-clause-placed g t c).In_ok-placed in
    let d = led g t here rs (edit_spells can.can_edit) in
    page_took d.leads (run_led g t here d.inner d.is) (g.met.S.PageStore.as_many c.args.store.now)
    (subst (λ n. (1 ≤ c.in-Split.right) × (c.in-Split.right < n)) c.in_ok-path.ensures.left.size
    (rw c.in-Split.is at c.in_ok-placed.ensures.leaves.right))
    (rw c.in-Split.is at c.in_ok-placed.ensures.placed) top can c.in_ok-outcome-in-Split.outcome (g.S.PageStore.told c.put_in_page.new.store)
    (g.S.PageStore.free c.put_in_page.new.store) (c.in_ok-outcome-in-Split.ensures.put d.inner d.is is_root b)

pub returns-in_ok-outcome-in-Split-clause-left : goal.returns-in_ok-outcome-in-Split-clause-left
returns-in_ok-outcome-in-Split-clause-left g t c =
    edits_ok _ _
    (inserts_above _ g.met.S.PageStore.goes_on c.args.height c.requires.height c.in_ok-path.ensures.left c.in_ok-path.ensures.reads
    c.in_ok-placed.ensures.left c.in_ok-outcome-in-Split.ensures.left)
