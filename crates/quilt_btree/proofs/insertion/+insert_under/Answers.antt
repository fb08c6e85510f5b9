use Rattle.std.proofs.Common.{ℕ, List, ◌≤◌, ◌<◌, ◌*◌, refl, subst, ◌∙◌, arith}
use Rattle.quilt_record.specs.declared.record.Record.{Record}
use Rattle.quilt_btree.proofs.ways.Forks.{read_ok}
use Rattle.quilt_btree.proofs.ways.Damage.{bad_below, inner_faults, fault_names, named_leaf}
use Rattle.quilt_btree.specs.Trees.{SpellsSubtree}
use Rattle.quilt_btree.proofs.growth.OneRecord.{one_there, one_done, took_child, sound_child}
use Rattle.quilt_btree.proofs.growth.UnderGrowth.{IsLedIn, led_in, path_inside, room_since, sound_leaf, sound_below}
use Rattle.quilt_btree.proofs.stores.Leaves.{looked, edits_within, edits_err, edits_ok, inserts_below, inserts_above}
use Rattle.quilt_btree.proofs.growth.Below.{edit_spells}
use Rattle.quilt_btree.proofs.growth.Finding.{there_in_leaf, finds_below, new_finds}
use Rattle.quilt_btree.proofs.Handed.{handed_on}
use Rattle.quilt_btree.proofs.insertion.+insert_under.Given.{Over}
use Rattle.quilt_btree.proofs.insertion.+insert_under.Goals.{In_ok-insert_under}
use Rattle.quilt_btree.proofs.insertion.+insert_under.Goals as goal

-- where the page spells a list, the key leads to a child of the inner page that was read
led : (g : Over) (t : ℕ) (c : In_ok-insert_under g t) (rs : List Record) → SpellsSubtree (g.S.PageStore.told c.args.store.now) c.args.page c.args.height rs
    → IsLedIn (g.S.PageStore.told c.args.store.now) (g.S.PageStore.told c.read_path.new.store) (g.S.PageStore.free c.args.store.now)
    (g.S.PageStore.free c.read_path.new.store) (g.S.PageStore.size c.args.store.now) (g.S.PageStore.size c.read_path.new.store) c.args.page c.args.height
    c.in_ok-path.path.child c.in_ok-path.path.place c.args.r.now.key (g.S.PageStore.size c.insert_under.new.store) c.read_path.new.bytes
led g t c rs s =
    led_in c.in_ok-path.ensures.left c.requires.height c.if-height-eq1.false
    (c.in_ok-path.ensures.here c.args.height rs c.requires.height c.if-height-eq1.false s) c.in_ok-path.ensures.path
    (c.in_ok-insert_under.ensures.left.size ∙ c.in_ok-path.ensures.left.size)

pub returns-then-height-eq1-clause-sound : goal.returns-then-height-eq1-clause-sound
returns-then-height-eq1-clause-sound g t c =
    sound_leaf c.insert_leaf.result (g.S.PageStore.told c.args.store.now) (g.S.PageStore.free c.args.store.now) (g.S.PageStore.size c.args.store.now)
    c.args.page c.args.r.now.key c.if-height-eq1.true c.insert_leaf.ensures.sound

pub returns-in_err-path-clause-sound : goal.returns-in_err-path-clause-sound
returns-in_err-path-clause-sound g t c =
    rw (handed_on c.from_residual.result c.from_residual.ensures.1)
    (λ is_root b rs used can few. c.in_err-path.ensures.sound c.args.height rs c.requires.height c.if-height-eq1.false (edit_spells can.can_edit))

pub returns-in_err-insert_under-clause-sound : goal.returns-in_err-insert_under-clause-sound
returns-in_err-insert_under-clause-sound g t c =
    rw (handed_on c.from_residual-in_err-insert_under.result c.from_residual-in_err-insert_under.ensures.1)
    (λ is_root b rs used can few.
    sound_below _ (led_in c.in_ok-path.ensures.left c.requires.height c.if-height-eq1.false
    (c.in_ok-path.ensures.here c.args.height rs c.requires.height c.if-height-eq1.false (edit_spells can.can_edit)) c.in_ok-path.ensures.path refl).leads
    refl (λ is_root b rs used top. c.in_err-insert_under.ensures.sound is_root b rs used) refl can few)

pub returns-in-There-clause-inserted : goal.returns-in-There-clause-inserted
returns-in-There-clause-inserted g t c is_root b rs used can =
    one_there (led g t (goal.at.returns-in-There-clause-inserted g t c).In_ok-insert_under rs (edit_spells can.can_edit)).leads can
    (rw c.in-There.is at c.in_ok-insert_under.ensures.inserted)

pub returns-in-Done-clause-inserted : goal.returns-in-Done-clause-inserted
returns-in-Done-clause-inserted g t c is_root b rs used can =
    one_done (led g t (goal.at.returns-in-Done-clause-inserted g t c).In_ok-insert_under rs (edit_spells can.can_edit)).leads can
    (rw c.in-Done.is at c.in_ok-insert_under.ensures.inserted)

pub put_in_page-requires-clause-place : goal.put_in_page-requires-clause-place
put_in_page-requires-clause-place g t c =
    path_inside (g.S.PageStore.size c.args.store.now) c.read_path.new.bytes c.in_ok-path.ensures.path (c.in_ok-insert_under.ensures.left.size ∙ c.in_ok-path.ensures.left.size)

pub returns-in-Split-clause-inserted : goal.returns-in-Split-clause-inserted
returns-in-Split-clause-inserted g t c =
    took_child (led g t (goal.at.returns-in-Split-clause-inserted g t c).In_ok-insert_under) (g.met.S.PageStore.as_many c.args.store.now)
    (subst (λ n. (1 ≤ c.in-Split.right) × (c.in-Split.right < n)) c.in_ok-path.ensures.left.size
    (rw c.in-Split.is at c.in_ok-insert_under.ensures.leaves.right))
    (rw c.in-Split.is at c.in_ok-insert_under.ensures.inserted) c.put_in_page.result (g.S.PageStore.told c.put_in_page.new.store)
    (g.S.PageStore.free c.put_in_page.new.store) c.put_in_page.ensures.put

pub returns-in-Split-clause-sound : goal.returns-in-Split-clause-sound
returns-in-Split-clause-sound g t c =
    sound_child (led g t (goal.at.returns-in-Split-clause-sound g t c).In_ok-insert_under) (g.met.S.PageStore.as_many c.args.store.now)
    (subst (λ n. (1 ≤ c.in-Split.right) × (c.in-Split.right < n)) c.in_ok-path.ensures.left.size
    (rw c.in-Split.is at c.in_ok-insert_under.ensures.leaves.right))
    (rw c.in-Split.is at c.in_ok-insert_under.ensures.inserted) c.put_in_page.result (g.S.PageStore.size c.insert_under.new.store)
    (c.in_ok-insert_under.ensures.left.size ∙ c.in_ok-path.ensures.left.size)
    (room_since c.in_ok-path.ensures.left (g.S.PageStore.free c.insert_under.new.store) c.args.height c.in_ok-insert_under.ensures.leaves.room)
    c.put_in_page.ensures.sound

pub returns-in-Split-clause-names : goal.returns-in-Split-clause-names
returns-in-Split-clause-names g t c = fault_names c.put_in_page.result (g.S.PageStore.size c.args.store.now) c.args.page _ c.requires.page.1 c.put_in_page.ensures.fault

pub returns-in-Split-clause-bad : goal.returns-in-Split-clause-bad
returns-in-Split-clause-bad g t c =
    inner_faults c.put_in_page.result
    (read_ok (g.S.PageStore.told c.args.store.now) (g.S.PageStore.told c.read_path.new.store) c.args.page c.args.height
    (g.S.PageStore.size c.insert_under.new.store) (g.S.PageStore.size c.args.store.now) c.read_path.new.bytes c.requires.height c.if-height-eq1.false
    c.in_ok-path.ensures.left.told (g.met.S.PageStore.as_many c.args.store.now) (c.in_ok-insert_under.ensures.left.size ∙ c.in_ok-path.ensures.left.size) c.in_ok-path.ensures.bytes)
    c.put_in_page.ensures.fault

pub returns-then-height-eq1-clause-finds : goal.returns-then-height-eq1-clause-finds
returns-then-height-eq1-clause-finds g t c =
    there_in_leaf c.insert_leaf.result (g.S.PageStore.told c.args.store.now) c.args.page c.args.height c.args.r.now.key c.if-height-eq1.true
    c.insert_leaf.ensures.finds

pub returns-in-There-clause-finds : goal.returns-in-There-clause-finds
returns-in-There-clause-finds g t c = λ rs s.
    finds_below (led g t (goal.at.returns-in-There-clause-finds g t c).In_ok-insert_under rs s).leads.at (rw c.in-There.is at c.in_ok-insert_under.ensures.finds) rs s

pub returns-in-Done-clause-finds : goal.returns-in-Done-clause-finds
returns-in-Done-clause-finds g t c = λ rs s.
    finds_below (led g t (goal.at.returns-in-Done-clause-finds g t c).In_ok-insert_under rs s).leads.at (rw c.in-Done.is at c.in_ok-insert_under.ensures.finds) rs s

pub returns-in-Split-clause-finds : goal.returns-in-Split-clause-finds
returns-in-Split-clause-finds g t c =
    new_finds c.put_in_page.result (SpellsSubtree (g.S.PageStore.told c.args.store.now) c.args.page c.args.height) c.args.r.now.key
    c.put_in_page.ensures.leaves.new
    (λ rs s.
    finds_below (led g t (goal.at.returns-in-Split-clause-finds g t c).In_ok-insert_under rs s).leads.at (rw c.in-Split.is at c.in_ok-insert_under.ensures.finds) rs s)

pub returns-then-height-eq1-clause-bad : goal.returns-then-height-eq1-clause-bad
returns-then-height-eq1-clause-bad g t c =
    named_leaf c.insert_leaf.result (g.S.PageStore.told c.args.store.now) c.args.height c.args.page c.if-height-eq1.true c.insert_leaf.ensures.bad

pub returns-in_err-path-clause-bad : goal.returns-in_err-path-clause-bad
returns-in_err-path-clause-bad g t c =
    rw (handed_on c.from_residual.result c.from_residual.ensures.1) (λ ne. c.in_err-path.ensures.bad c.args.height c.requires.height c.if-height-eq1.false)

pub returns-in_err-insert_under-clause-bad : goal.returns-in_err-insert_under-clause-bad
returns-in_err-insert_under-clause-bad g t c =
    rw (handed_on c.from_residual-in_err-insert_under.result c.from_residual-in_err-insert_under.ensures.1) (λ ne.
    bad_below c.in_ok-path.path.child _
    (read_ok (g.S.PageStore.told c.args.store.now) (g.S.PageStore.told c.read_path.new.store) c.args.page c.args.height
    (g.S.PageStore.size c.args.store.now) (g.S.PageStore.size c.args.store.now) c.read_path.new.bytes c.requires.height c.if-height-eq1.false
    c.in_ok-path.ensures.left.told (g.met.S.PageStore.as_many c.args.store.now) refl c.in_ok-path.ensures.bytes)
    c.in_ok-path.ensures.stands (c.in_err-insert_under.ensures.bad ne))

pub returns-in-Split-clause-left : goal.returns-in-Split-clause-left
returns-in-Split-clause-left g t c =
    inserts_above _ g.met.S.PageStore.goes_on c.args.height c.requires.height c.in_ok-path.ensures.left c.in_ok-path.ensures.reads
    c.in_ok-insert_under.ensures.left c.put_in_page.ensures.left

pub returns-then-height-eq1-clause-left : goal.returns-then-height-eq1-clause-left
returns-then-height-eq1-clause-left g t c =
    let some = c.requires.height in
    edits_within _ (2 * c.args.height) c.args.height (omega arith) (omega arith) c.insert_leaf.ensures.left

pub returns-in_err-path-clause-left : goal.returns-in_err-path-clause-left
returns-in_err-path-clause-left g t c =
    let some = c.requires.height in
    edits_within _ (2 * c.args.height) c.args.height (omega arith) (omega arith)
    (edits_err _ c.from_residual.ensures.1 (looked _ 1 c.in_err-path.ensures.left c.in_err-path.ensures.reads))

pub returns-in_err-insert_under-clause-left : goal.returns-in_err-insert_under-clause-left
returns-in_err-insert_under-clause-left g t c =
    edits_err _ c.from_residual-in_err-insert_under.ensures.1
    (inserts_below _ g.met.S.PageStore.goes_on c.args.height c.requires.height c.in_ok-path.ensures.left c.in_ok-path.ensures.reads c.in_err-insert_under.ensures.left)

pub returns-in-There-clause-left : goal.returns-in-There-clause-left
returns-in-There-clause-left g t c =
    edits_ok _ _ (inserts_below _ g.met.S.PageStore.goes_on c.args.height c.requires.height c.in_ok-path.ensures.left c.in_ok-path.ensures.reads c.in_ok-insert_under.ensures.left)

pub returns-in-Done-clause-left : goal.returns-in-Done-clause-left
returns-in-Done-clause-left g t c =
    edits_ok _ _ (inserts_below _ g.met.S.PageStore.goes_on c.args.height c.requires.height c.in_ok-path.ensures.left c.in_ok-path.ensures.reads c.in_ok-insert_under.ensures.left)
