use Rattle.std.proofs.Common.{None, ◌≡◌, refl, true, false, not, suc, ◌+◌, ◌-◌, ◌≤◌, ◌<◌, [], ◌∷◌, Some, ap, subst, ◌∙◌, arith}
use Rattle.std.proofs.lemmas.Bool.{false≢true}
use Rattle.quilt_node.specs.Pages.{Inner}
use Rattle.quilt_btree.specs.declared.edit.Edit.TheVariants as edit
use Rattle.quilt_btree.proofs.batches.Whole.{whole_along}
use Rattle.quilt_btree.proofs.stores.Leaves.{edits_on, edits_more, edits_err, edits_ok, edits_damaged, inserts_tree, inserts_low}
use Rattle.quilt_btree.proofs.ways.Damage.{zero_names, names_more}
use Rattle.quilt_btree.proofs.growth.Finding.{finds_root, finds_empty}
use Rattle.quilt_btree.proofs.growth.InnerGrowth.{IsWritten}
use Rattle.quilt_btree.proofs.growth.KeptPages.{kept_first, kept_low, sound_kept, same_tree, kept_done, room_left, kept_split}
use Rattle.quilt_btree.proofs.growth.OneRecord.{places_one}
use Rattle.quilt_btree.proofs.growth.TreeGrowth.{IsInserting, more_records, few_records, sound_root, one_due, not_due, whole_done, not_split, root_room, whole_split, empty_room, whole_first}
use Rattle.quilt_btree.proofs.Handed.{handed_on}
use Rattle.quilt_btree.proofs.tree.Tree.insert.Given.{Over}
use Rattle.quilt_btree.proofs.tree.Tree.insert.Goals.{Start}
use Rattle.quilt_btree.proofs.tree.Tree.insert.Goals as goal

-- the tree and its store
inserting : (g : Over) (c : Start g) → IsInserting (g.S.PageStore.told c.args.store.now) (g.S.PageStore.free c.args.store.now)
    (g.S.PageStore.size c.args.store.now) c.args.self.now
inserting g c = record {
  rooted = c.requires.rooted;
  room = c.requires.room;
  least = (g.met.S.PageStore.in_range c.args.store.now).0;
  most = (g.met.S.PageStore.in_range c.args.store.now).1;
  inside = g.met.S.PageStore.free_pages_are c.args.store.now;
  many = g.met.S.PageStore.as_many c.args.store.now;
}

pub returns-in_err-root-clause-sound : goal.returns-in_err-root-clause-sound
returns-in_err-root-clause-sound g c =
    rw (handed_on c.from_residual.result c.from_residual.ensures.1) (λ rs w.
    c.in_err-root.ensures.sound (empty_room (g.S.PageStore.told c.args.store.now) (g.S.PageStore.free c.args.store.now)
    (g.S.PageStore.size c.args.store.now) c.args.self.now rs
    (inserting g (goal.at.returns-in_err-root-clause-sound g c).Start) c.if-self-eq0.true w))

pub returns-then-self-eq0-clause-inserts : goal.returns-then-self-eq0-clause-inserts
returns-then-self-eq0-clause-inserts g c = record {
  inserted =
      λ rs w.
      whole_first c.args.r.now (g.S.PageStore.told c.args.store.now) (g.S.PageStore.told c.write_new.new.store) (g.S.PageStore.free c.args.store.now)
      (g.S.PageStore.free c.write_new.new.store) (g.S.PageStore.size c.args.store.now) c.args.self.now rs c.in_ok-root.root c.bytes.result.now (inserting g (goal.at.returns-then-self-eq0-clause-inserts g c).Start) w c.if-self-eq0.true (c.bytes.ensures.leaf ∙ ap Some c.one-leaf.ensures) c.in_ok-root.ensures.page c.in_ok-root.ensures.free c.in_ok-root.ensures.taken c.in_ok-root.ensures.told;
  answer =
      λ rs is.
      ap not (finds_empty (g.S.PageStore.told c.args.store.now) c.args.self.now c.args.r.now.key rs c.if-self-eq0.true is);
  changes =
      λ rs w room.
      kept_first c.args.r.now (g.S.PageStore.told c.args.store.now) (g.S.PageStore.told c.write_new.new.store) (g.S.PageStore.free c.args.store.now)
      (g.S.PageStore.free c.write_new.new.store) (g.S.PageStore.size c.args.store.now) c.args.self.now rs c.in_ok-root.root c.bytes.result.now
      (record { inside = c.in_ok-root.ensures.page.1; many = g.met.S.PageStore.as_many c.args.store.now; wrote = c.in_ok-root.ensures.told })
      c.if-self-eq0.true (c.bytes.ensures.leaf ∙ ap Some c.one-leaf.ensures) c.in_ok-root.ensures.free c.in_ok-root.ensures.taken w;
  count = λ e. let z = (c.requires.rooted.none c.if-self-eq0.true).1 in omega arith;
}

pub returns-then-self-eq3-clause-sound : goal.returns-then-self-eq3-clause-sound
returns-then-self-eq3-clause-sound g c rs w =
    absurd (not_split c.args.r.now.key (edit.Put c.args.r.now ∷ []) (g.S.PageStore.told c.insert_under.new.store)
    (g.S.PageStore.free c.insert_under.new.store) (inserting g (goal.at.returns-then-self-eq3-clause-sound g c).Start) c.if-self-eq0.false w
    c.in-Split.key c.in-Split.right
    c.if-self-eq3.true (let m = more_records c.args.r.now rs c.args.self.now.records w.number in let q = c.requires.room in omega arith)
    (places_one None _ (rw c.in-Split.is at c.in_ok-insert_under.ensures.inserted)))

pub returns-in_err-insert_under-clause-sound : goal.returns-in_err-insert_under-clause-sound
returns-in_err-insert_under-clause-sound g c =
    rw (handed_on c.from_residual-in_err-insert_under.result c.from_residual-in_err-insert_under.ensures.1)
    (λ rs w.
    sound_root _
    c.args.r.now.key
    (inserting g (goal.at.returns-in_err-insert_under-clause-sound g c).Start)
    c.if-self-eq0.false (λ is_root b rs used top. c.in_err-insert_under.ensures.sound is_root b rs used) w)

pub returns-in-There-clause-inserts : goal.returns-in-There-clause-inserts
returns-in-There-clause-inserts g c = record {
  inserted =
      λ rs w. (
        one_due _ (not_due c.args.r.now.key (edit.Put c.args.r.now ∷ []) (g.S.PageStore.told c.insert_under.new.store)
            (g.S.PageStore.free c.insert_under.new.store) (inserting g (goal.at.returns-in-There-clause-inserts g c).Start) c.if-self-eq0.false w
            (places_one None _ (rw c.in-There.is at c.in_ok-insert_under.ensures.inserted))),
        whole_along c.args.self.now rs (record {
          same_pages = (c.in_ok-insert_under.ensures.leaves.same c.in-There.is).told;
          same_free = (c.in_ok-insert_under.ensures.leaves.same c.in-There.is).free;
          same_size = refl;
        }) w,
      );
  answer =
      λ rs is.
      ap not (finds_root (g.S.PageStore.told c.args.store.now) c.args.r.now.key true c.args.self.now rs c.if-self-eq0.false (rw c.in-There.is at c.in_ok-insert_under.ensures.finds) is);
  changes =
      λ rs w room.
      same_tree (g.S.PageStore.told c.args.store.now) (g.S.PageStore.free c.args.store.now) c.args.self.now rs
      (g.S.PageStore.told c.insert_under.new.store) (g.S.PageStore.free c.insert_under.new.store)
      (c.in_ok-insert_under.ensures.leaves.same c.in-There.is).told
      (c.in_ok-insert_under.ensures.leaves.same c.in-There.is).free w;
  count = λ e. absurd (false≢true e);
}

pub returns-in-Done-clause-inserts : goal.returns-in-Done-clause-inserts
returns-in-Done-clause-inserts g c = record {
  inserted =
      λ rs w.
      let h = whole_done c.args.r.now.key (edit.Put c.args.r.now ∷ []) (g.S.PageStore.told c.insert_under.new.store)
      (g.S.PageStore.free c.insert_under.new.store) (inserting g (goal.at.returns-in-Done-clause-inserts g c).Start) c.if-self-eq0.false w
      (c.args.self.now.records + 1) (more_records c.args.r.now rs c.args.self.now.records w.number)
      (places_one None _ (rw c.in-Done.is at c.in_ok-insert_under.ensures.inserted)) in
      (one_due _ h.0, h.1);
  answer =
      λ rs is.
      ap not (finds_root (g.S.PageStore.told c.args.store.now) c.args.r.now.key false c.args.self.now rs c.if-self-eq0.false (rw c.in-Done.is at c.in_ok-insert_under.ensures.finds) is);
  changes =
      λ rs w room.
      kept_done c.args.r.now (g.S.PageStore.told c.args.store.now) (g.S.PageStore.told c.insert_under.new.store) (g.S.PageStore.free c.args.store.now)
      (g.S.PageStore.free c.insert_under.new.store) (g.S.PageStore.size c.args.store.now) c.args.self.now rs c.if-self-eq0.false
      (places_one None _ (rw c.in-Done.is at c.in_ok-insert_under.ensures.inserted)) room w;
  count = λ e. refl;
}

pub returns-in_err-root-in-Split-clause-sound : goal.returns-in_err-root-in-Split-clause-sound
returns-in_err-root-in-Split-clause-sound g c =
    rw (handed_on c.from_residual-in_err-root-in-Split.result c.from_residual-in_err-root-in-Split.ensures.1)
    (λ rs w.
    c.in_err-root-in-Split.ensures.sound (root_room (g.S.PageStore.free c.insert_under.new.store) (g.S.PageStore.size c.insert_under.new.store)
    c.args.self.now rs (inserting g (goal.at.returns-in_err-root-in-Split-clause-sound g c).Start)
    c.if-self-eq0.false c.in_ok-insert_under.ensures.left.size c.in_ok-insert_under.ensures.leaves.room w))

pub returns-in_ok-root-in-Split-clause-inserts : goal.returns-in_ok-root-in-Split-clause-inserts
returns-in_ok-root-in-Split-clause-inserts g c = record {
  inserted =
      λ rs w.
      let right_in : (1 ≤ c.in-Split.right) × (c.in-Split.right < g.S.PageStore.size c.args.store.now) =
      rw c.in-Split.is at c.in_ok-insert_under.ensures.leaves.right in
      let new_in : (1 ≤ c.in_ok-root-in-Split.root) × (c.in_ok-root-in-Split.root < g.S.PageStore.size c.args.store.now) =
      subst (λ n. (1 ≤ c.in_ok-root-in-Split.root) × (c.in_ok-root-in-Split.root < n)) c.in_ok-insert_under.ensures.left.size c.in_ok-root-in-Split.ensures.page in
      let h = whole_split {mid_told = g.S.PageStore.told c.insert_under.new.store} {mid = g.S.PageStore.free c.insert_under.new.store}
      {key = c.in-Split.key} {right = c.in-Split.right} c.args.r.now.key (edit.Put c.args.r.now ∷ [])
      (inserting g (goal.at.returns-in_ok-root-in-Split-clause-inserts g c).Start) c.if-self-eq0.false w (c.args.self.now.records + 1)
      (more_records c.args.r.now rs c.args.self.now.records w.number)
      (places_one None _ (rw c.in-Split.is at c.in_ok-insert_under.ensures.inserted)) (record {
        is_written = subst (λ (x : Inner). IsWritten c.bytes-in-Split.result.now x) c.pair-page.ensures c.bytes-in-Split.ensures.inner;
        right_in = right_in;
        new_in = new_in;
        was_free = c.in_ok-root-in-Split.ensures.free;
        taken = c.in_ok-root-in-Split.ensures.taken;
        wrote = c.in_ok-root-in-Split.ensures.told;
      }) in
      (one_due _ h.0, h.1);
  answer =
      λ rs is.
      ap not (finds_root (g.S.PageStore.told c.args.store.now) c.args.r.now.key false c.args.self.now rs c.if-self-eq0.false (rw c.in-Split.is at c.in_ok-insert_under.ensures.finds) is);
  changes =
      λ rs w room.
      let ne = c.if-self-eq0.false in
      let tall : c.args.self.now.height ≡ suc (c.args.self.now.height - 1) = omega arith in
      let right_in : (1 ≤ c.in-Split.right) × (c.in-Split.right < (g.S.PageStore.size c.args.store.now)) =
      rw c.in-Split.is at c.in_ok-insert_under.ensures.leaves.right in
      let new_in : (1 ≤ c.in_ok-root-in-Split.root) × (c.in_ok-root-in-Split.root < (g.S.PageStore.size c.args.store.now)) =
      subst (λ n. (1 ≤ c.in_ok-root-in-Split.root) × (c.in_ok-root-in-Split.root < n)) c.in_ok-insert_under.ensures.left.size c.in_ok-root-in-Split.ensures.page in
      kept_split c.args.r.now c.requires.rooted (g.met.S.PageStore.as_many c.args.store.now) tall (places_one None _ (rw c.in-Split.is at c.in_ok-insert_under.ensures.inserted))
      (record {
        is_written = subst (λ (x : Inner). IsWritten c.bytes-in-Split.result.now x) c.pair-page.ensures c.bytes-in-Split.ensures.inner;
        right_in = right_in;
        new_in = new_in;
        was_free = c.in_ok-root-in-Split.ensures.free;
        taken = c.in_ok-root-in-Split.ensures.taken;
        wrote = c.in_ok-root-in-Split.ensures.told;
      }) room w;
  count = λ e. refl;
}

pub returns-in_err-root-clause-goes : goal.returns-in_err-root-clause-goes
returns-in_err-root-clause-goes g c =
    rw (handed_on c.from_residual.result c.from_residual.ensures.1) (λ rs w n room. c.in_err-root.ensures.sound (let r = room in omega arith))

pub returns-then-self-eq3-clause-goes : goal.returns-then-self-eq3-clause-goes
returns-then-self-eq3-clause-goes g c rs w n room =
    absurd (kept_low c.args.r.now c.requires.room (g.met.S.PageStore.in_range c.args.store.now).1 c.if-self-eq3.true
    (places_one None _ (rw c.in-Split.is at c.in_ok-insert_under.ensures.inserted)) room n w)

pub returns-in_err-insert_under-clause-goes : goal.returns-in_err-insert_under-clause-goes
returns-in_err-insert_under-clause-goes g c =
    rw (handed_on c.from_residual-in_err-insert_under.result c.from_residual-in_err-insert_under.ensures.1)
    (λ rs w n room. sound_kept (g.S.PageStore.told c.args.store.now) (g.S.PageStore.free c.args.store.now) c.args.self.now rs _
    (g.S.PageStore.size c.args.store.now) c.args.r.now.key c.if-self-eq0.false c.in_err-insert_under.ensures.sound
    (few_records (g.S.PageStore.size c.args.store.now) c.args.self.now.records rs n c.requires.room (g.met.S.PageStore.in_range c.args.store.now).1) room w)

pub returns-in_err-root-in-Split-clause-goes : goal.returns-in_err-root-in-Split-clause-goes
returns-in_err-root-in-Split-clause-goes g c =
    rw (handed_on c.from_residual-in_err-root-in-Split.result c.from_residual-in_err-root-in-Split.ensures.1)
    (λ rs w n room. c.in_err-root-in-Split.ensures.sound
    (room_left (g.S.PageStore.free c.args.store.now) (g.S.PageStore.free c.insert_under.new.store) (g.S.PageStore.size c.args.store.now)
    (g.S.PageStore.size c.insert_under.new.store) c.args.self.now.height c.in_ok-insert_under.ensures.left.size c.in_ok-insert_under.ensures.leaves.room room))

pub returns-in_err-root-clause-names : goal.returns-in_err-root-clause-names
returns-in_err-root-clause-names g c =
    rw (handed_on c.from_residual.result c.from_residual.ensures.1)
    (names_more 1 (g.S.PageStore.size c.args.store.now) _ (let q = (g.met.S.PageStore.in_range c.args.store.now).0 in omega arith)
    c.in_err-root.ensures.names)

pub returns-in_err-root-clause-bad : goal.returns-in_err-root-clause-bad
returns-in_err-root-clause-bad g c =
    rw (handed_on c.from_residual.result c.from_residual.ensures.1)
    (zero_names (g.S.PageStore.told c.args.store.now) c.args.self.now.height c.args.self.now.root _ c.in_err-root.ensures.names)

pub returns-in_err-root-in-Split-clause-names : goal.returns-in_err-root-in-Split-clause-names
returns-in_err-root-in-Split-clause-names g c =
    rw (handed_on c.from_residual-in_err-root-in-Split.result c.from_residual-in_err-root-in-Split.ensures.1)
    (names_more 1 (g.S.PageStore.size c.args.store.now) _ (let q = (g.met.S.PageStore.in_range c.args.store.now).0 in omega arith)
    c.in_err-root-in-Split.ensures.names)

pub returns-in_err-root-in-Split-clause-bad : goal.returns-in_err-root-in-Split-clause-bad
returns-in_err-root-in-Split-clause-bad g c =
    rw (handed_on c.from_residual-in_err-root-in-Split.result c.from_residual-in_err-root-in-Split.ensures.1)
    (zero_names (g.S.PageStore.told c.args.store.now) c.args.self.now.height c.args.self.now.root _ c.in_err-root-in-Split.ensures.names)

pub returns-in_err-insert_under-clause-bad : goal.returns-in_err-insert_under-clause-bad
returns-in_err-insert_under-clause-bad g c =
    rw (handed_on c.from_residual-in_err-insert_under.result c.from_residual-in_err-insert_under.ensures.1) (c.in_err-insert_under.ensures.bad)

pub returns-in_err-root-clause-left : goal.returns-in_err-root-clause-left
returns-in_err-root-clause-left g c = edits_more _ 4 3 (edits_err _ c.from_residual.ensures.1 c.in_err-root.ensures.left)

pub returns-then-self-eq0-clause-left : goal.returns-then-self-eq0-clause-left
returns-then-self-eq0-clause-left g c = edits_more _ 4 3 (edits_ok _ _ c.in_ok-root.ensures.left)

pub returns-in_err-insert_under-clause-left : goal.returns-in_err-insert_under-clause-left
returns-in_err-insert_under-clause-left g c =
    edits_err _ c.from_residual-in_err-insert_under.ensures.1
    (inserts_tree _ c.args.self.now.height c.requires.rooted.height c.in_err-insert_under.ensures.less c.in_err-insert_under.ensures.left)

pub returns-in-There-clause-left : goal.returns-in-There-clause-left
returns-in-There-clause-left g c =
    edits_ok _ _ (inserts_tree _ c.args.self.now.height c.requires.rooted.height c.in_ok-insert_under.ensures.less c.in_ok-insert_under.ensures.left)

pub returns-in-Done-clause-left : goal.returns-in-Done-clause-left
returns-in-Done-clause-left g c =
    edits_ok _ _ (inserts_tree _ c.args.self.now.height c.requires.rooted.height c.in_ok-insert_under.ensures.less c.in_ok-insert_under.ensures.left)

pub returns-then-self-eq3-clause-left : goal.returns-then-self-eq3-clause-left
returns-then-self-eq3-clause-left g c =
    edits_damaged _ _ (inserts_tree _ c.args.self.now.height c.requires.rooted.height c.in_ok-insert_under.ensures.less c.in_ok-insert_under.ensures.left)

pub returns-in_err-root-in-Split-clause-left : goal.returns-in_err-root-in-Split-clause-left
returns-in_err-root-in-Split-clause-left g c =
    edits_err _ c.from_residual-in_err-root-in-Split.ensures.1
    (edits_on _ g.met.S.PageStore.goes_on (inserts_low _ c.args.self.now.height c.requires.rooted.height c.if-self-eq3.false c.in_ok-insert_under.ensures.left) c.in_err-root-in-Split.ensures.left)

pub returns-in_ok-root-in-Split-clause-left : goal.returns-in_ok-root-in-Split-clause-left
returns-in_ok-root-in-Split-clause-left g c =
    edits_ok _ _
    (edits_on _ g.met.S.PageStore.goes_on (inserts_low _ c.args.self.now.height c.requires.rooted.height c.if-self-eq3.false c.in_ok-insert_under.ensures.left) c.in_ok-root-in-Split.ensures.left)
