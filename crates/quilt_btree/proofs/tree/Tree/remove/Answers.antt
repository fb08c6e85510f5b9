use Rattle.std.proofs.Common.{◌≡◌, true, false, ◌-◌, ◌≤◌, refl, arith}
use Rattle.quilt_btree.proofs.stores.Leaves.{edits_on, edits_err, edits_ok, edits_answer, removes_tree}
use Rattle.quilt_btree.proofs.ways.Damage.{zero_names, zero_named, names_more}
use Rattle.quilt_btree.proofs.growth.Finding.{finds_root, finds_empty, shrunk_answer}
use Rattle.quilt_btree.proofs.growth.KeptPages.{out_none, sound_out, out_missing, out_done, out_underfull}
use Rattle.quilt_btree.proofs.growth.KeptPages.{out_emptied, out_only, out_shrunk, out_sound, two_done}
use Rattle.quilt_btree.proofs.growth.KeptPages.{two_underfull, one_empty, two_only}
use Rattle.quilt_btree.proofs.removals.TreeRemovals.{IsRemoving, sound_root, whole_none, whole_missing, whole_done, whole_underfull, whole_emptied, whole_only, many_done}
use Rattle.quilt_btree.proofs.removals.TreeRemovals.{many_underfull, one_emptied, one_only, shrunk, shrunk_sound}
use Rattle.quilt_btree.proofs.Handed.{handed_on}
use Rattle.quilt_btree.proofs.tree.Tree.remove.Given.{Over}
use Rattle.quilt_btree.proofs.tree.Tree.remove.Goals.{Else-self-eq0}
use Rattle.quilt_btree.proofs.tree.Tree.remove.Goals as goal

-- the tree and its store
removing : (g : Over) (c : Else-self-eq0 g) → IsRemoving (g.S.PageStore.free c.args.store.now) (g.S.PageStore.size c.args.store.now) c.args.self.now
removing g c = record {
  rooted = c.requires.rooted;
  least = (g.met.S.PageStore.in_range c.args.store.now).0;
  inside = g.met.S.PageStore.free_pages_are c.args.store.now;
  above = c.if-self-eq0.false;
}

pub returns-then-self-eq0-clause-removes : goal.returns-then-self-eq0-clause-removes
returns-then-self-eq0-clause-removes g c = record {
  removed =
      λ rs w. whole_none c.args.k.now (g.S.PageStore.told c.args.store.now) (g.S.PageStore.free c.args.store.now)
      (g.S.PageStore.size c.args.store.now)
      c.args.self.now rs c.if-self-eq0.true w;
  answer =
      λ rs is. finds_empty (g.S.PageStore.told c.args.store.now) c.args.self.now c.args.k.now rs c.if-self-eq0.true is;
  changes =
      λ rs w. out_none c.args.k.now (g.S.PageStore.told c.args.store.now) (g.S.PageStore.free c.args.store.now) c.args.self.now rs c.if-self-eq0.true
      w;
}

pub returns-in_err-remove_under-clause-sound : goal.returns-in_err-remove_under-clause-sound
returns-in_err-remove_under-clause-sound g c =
    rw (handed_on c.from_residual.result c.from_residual.ensures.1)
    (λ rs w. sound_root (g.S.PageStore.told c.args.store.now) (g.S.PageStore.free c.args.store.now) (g.S.PageStore.size c.args.store.now)
    c.args.self.now _ rs
    (removing g (goal.at.returns-in_err-remove_under-clause-sound g c).Else-self-eq0) c.in_err-remove_under.ensures.sound w)

pub returns-in-Missing-clause-removes : goal.returns-in-Missing-clause-removes
returns-in-Missing-clause-removes g c = record {
  removed =
      let found = rw c.in-Missing.is at c.in_ok-remove_under.ensures in
      λ rs w. whole_missing c.args.k.now (g.S.PageStore.told c.args.store.now) (g.S.PageStore.told c.remove_under.new.store)
      (g.S.PageStore.free c.args.store.now) (g.S.PageStore.free c.remove_under.new.store) (g.S.PageStore.size c.args.store.now) c.args.self.now rs
      (removing g (goal.at.returns-in-Missing-clause-removes g c).Else-self-eq0) found.removed (found.remains.same refl).told (found.remains.same refl).free w;
  answer =
      λ rs is.
      finds_root (g.S.PageStore.told c.args.store.now) c.args.k.now false c.args.self.now rs c.if-self-eq0.false
      (rw c.in-Missing.is at c.in_ok-remove_under.ensures.finds) is;
  changes =
      let found = rw c.in-Missing.is at c.in_ok-remove_under.ensures in
      λ rs w. out_missing c.args.k.now (g.S.PageStore.told c.args.store.now) (g.S.PageStore.told c.remove_under.new.store)
      (g.S.PageStore.free c.args.store.now) (g.S.PageStore.free c.remove_under.new.store) c.args.self.now rs c.if-self-eq0.false found.removed
      (found.remains.same refl).told (found.remains.same refl).free w;
}

pub returns-in-Done-clause-removes : goal.returns-in-Done-clause-removes
returns-in-Done-clause-removes g c = record {
  removed =
      let found = rw c.in-Done.is at c.in_ok-remove_under.ensures.removed in
      shrunk c.args.k.now (g.S.PageStore.told c.args.store.now) (g.S.PageStore.free c.args.store.now) (g.S.PageStore.size c.args.store.now)
      c.args.self.now c.shrink.result (g.S.PageStore.told c.remove_under.new.store) (g.S.PageStore.free c.remove_under.new.store) c.shrink.new.self
      (record { root = c.args.self.now.root; height = c.args.self.now.height; records = c.args.self.now.records - 1 }) c.shrink.ensures.tree
      c.shrink.ensures.answer (λ rs w. whole_done c.args.k.now (g.S.PageStore.told c.args.store.now) (g.S.PageStore.told c.remove_under.new.store)
      (g.S.PageStore.free c.args.store.now) (g.S.PageStore.free c.remove_under.new.store) (g.S.PageStore.size c.args.store.now) c.args.self.now rs
      (removing g (goal.at.returns-in-Done-clause-removes g c).Else-self-eq0) found w);
  answer =
      shrunk_answer c.shrink.result (g.S.PageStore.told c.args.store.now) c.args.self.now c.args.k.now c.shrink.ensures.answer
      (λ rs is. finds_root (g.S.PageStore.told c.args.store.now) c.args.k.now true c.args.self.now rs c.if-self-eq0.false (rw c.in-Done.is at c.in_ok-remove_under.ensures.finds) is);
  changes =
      out_shrunk (g.S.PageStore.told c.args.store.now) (g.S.PageStore.free c.args.store.now) c.args.self.now c.shrink.result c.args.k.now
      (g.S.PageStore.told c.remove_under.new.store) (g.S.PageStore.free c.remove_under.new.store) c.shrink.new.self
      (record { root = c.args.self.now.root; height = c.args.self.now.height; records = c.args.self.now.records - 1 }) c.shrink.ensures.tree
      (λ rs w. out_done c.args.k.now (g.S.PageStore.told c.args.store.now) (g.S.PageStore.told c.remove_under.new.store)
      (g.S.PageStore.free c.args.store.now) (g.S.PageStore.free c.remove_under.new.store) c.args.self.now rs c.if-self-eq0.false
      (rw c.in-Done.is at c.in_ok-remove_under.ensures.removed) w);
}

pub returns-in-Done-clause-sound : goal.returns-in-Done-clause-sound
returns-in-Done-clause-sound g c =
    let found = rw c.in-Done.is at c.in_ok-remove_under.ensures.removed in
    shrunk_sound (g.S.PageStore.told c.args.store.now) (g.S.PageStore.free c.args.store.now) (g.S.PageStore.size c.args.store.now) c.args.self.now
    c.shrink.result (c.args.self.now.height ≡ 0 → (c.args.self.now.root ≡ 0) × (c.args.self.now.records ≡ 1)) (1 ≤ c.args.self.now.height
    → 2 ≤ c.args.self.now.records) c.shrink.ensures.sound
    (λ rs w. (
      λ e. absurd (c.if-self-eq0.false e),
      λ e. many_done c.args.k.now (g.S.PageStore.told c.args.store.now) (g.S.PageStore.told c.remove_under.new.store)
          (g.S.PageStore.free c.args.store.now) (g.S.PageStore.free c.remove_under.new.store) (g.S.PageStore.size c.args.store.now) c.args.self.now rs
          (removing g (goal.at.returns-in-Done-clause-sound g c).Else-self-eq0) found w,
    ))

pub returns-in-Underfull-clause-removes : goal.returns-in-Underfull-clause-removes
returns-in-Underfull-clause-removes g c = record {
  removed =
      let found = rw c.in-Underfull.is at c.in_ok-remove_under.ensures.removed in
      shrunk c.args.k.now (g.S.PageStore.told c.args.store.now) (g.S.PageStore.free c.args.store.now) (g.S.PageStore.size c.args.store.now)
      c.args.self.now c.shrink-in-Underfull.result (g.S.PageStore.told c.remove_under.new.store) (g.S.PageStore.free c.remove_under.new.store)
      c.shrink-in-Underfull.new.self
      (record { root = c.args.self.now.root; height = c.args.self.now.height; records = c.args.self.now.records - 1 })
      c.shrink-in-Underfull.ensures.tree c.shrink-in-Underfull.ensures.answer
      (λ rs w. whole_underfull c.args.k.now (g.S.PageStore.told c.args.store.now) (g.S.PageStore.told c.remove_under.new.store)
      (g.S.PageStore.free c.args.store.now) (g.S.PageStore.free c.remove_under.new.store) (g.S.PageStore.size c.args.store.now) c.args.self.now rs
      (removing g (goal.at.returns-in-Underfull-clause-removes g c).Else-self-eq0) found w);
  answer =
      shrunk_answer c.shrink-in-Underfull.result (g.S.PageStore.told c.args.store.now) c.args.self.now c.args.k.now
      c.shrink-in-Underfull.ensures.answer
      (λ rs is. finds_root (g.S.PageStore.told c.args.store.now) c.args.k.now true c.args.self.now rs c.if-self-eq0.false (rw c.in-Underfull.is at c.in_ok-remove_under.ensures.finds) is);
  changes =
      out_shrunk (g.S.PageStore.told c.args.store.now) (g.S.PageStore.free c.args.store.now) c.args.self.now c.shrink-in-Underfull.result
      c.args.k.now (g.S.PageStore.told c.remove_under.new.store) (g.S.PageStore.free c.remove_under.new.store) c.shrink-in-Underfull.new.self
      (record { root = c.args.self.now.root; height = c.args.self.now.height; records = c.args.self.now.records - 1 })
      c.shrink-in-Underfull.ensures.tree
      (λ rs w. out_underfull c.args.k.now (g.S.PageStore.told c.args.store.now) (g.S.PageStore.told c.remove_under.new.store)
      (g.S.PageStore.free c.args.store.now) (g.S.PageStore.free c.remove_under.new.store) c.args.self.now rs c.if-self-eq0.false
      (rw c.in-Underfull.is at c.in_ok-remove_under.ensures.removed) w);
}

pub returns-in-Underfull-clause-sound : goal.returns-in-Underfull-clause-sound
returns-in-Underfull-clause-sound g c =
    let found = rw c.in-Underfull.is at c.in_ok-remove_under.ensures.removed in
    shrunk_sound (g.S.PageStore.told c.args.store.now) (g.S.PageStore.free c.args.store.now) (g.S.PageStore.size c.args.store.now) c.args.self.now
    c.shrink-in-Underfull.result (c.args.self.now.height ≡ 0 → (c.args.self.now.root ≡ 0)
    × (c.args.self.now.records ≡ 1)) (1 ≤ c.args.self.now.height → 2 ≤ c.args.self.now.records) c.shrink-in-Underfull.ensures.sound
    (λ rs w. (
      λ e. absurd (c.if-self-eq0.false e),
      λ e. many_underfull c.args.k.now (g.S.PageStore.told c.args.store.now) (g.S.PageStore.told c.remove_under.new.store)
          (g.S.PageStore.free c.args.store.now) (g.S.PageStore.free c.remove_under.new.store) (g.S.PageStore.size c.args.store.now) c.args.self.now rs
          (removing g (goal.at.returns-in-Underfull-clause-sound g c).Else-self-eq0) found w,
    ))

pub returns-in_err-give_back-in-Emptied-clause-sound : goal.returns-in_err-give_back-in-Emptied-clause-sound
returns-in_err-give_back-in-Emptied-clause-sound g c =
    rw (handed_on c.from_residual-in_err-give_back-in-Emptied.result c.from_residual-in_err-give_back-in-Emptied.ensures.1)
    (let found = rw c.in-Emptied.is at c.in_ok-remove_under.ensures.removed in
    λ rs w. c.in_err-give_back-in-Emptied.ensures.sound
    (one_emptied c.args.k.now (g.S.PageStore.told c.args.store.now) (g.S.PageStore.told c.remove_under.new.store)
    (g.S.PageStore.free c.args.store.now) (g.S.PageStore.free c.remove_under.new.store) (g.S.PageStore.size c.args.store.now) c.args.self.now rs
    (removing g (goal.at.returns-in_err-give_back-in-Emptied-clause-sound g c).Else-self-eq0) found w).0)

pub returns-in_ok-give_back-in-Emptied-clause-removes : goal.returns-in_ok-give_back-in-Emptied-clause-removes
returns-in_ok-give_back-in-Emptied-clause-removes g c = record {
  removed =
      let found = rw c.in-Emptied.is at c.in_ok-remove_under.ensures.removed in
      shrunk c.args.k.now (g.S.PageStore.told c.args.store.now) (g.S.PageStore.free c.args.store.now) (g.S.PageStore.size c.args.store.now)
      c.args.self.now c.shrink-in-Emptied.result (g.S.PageStore.told c.give_back.new.store) (g.S.PageStore.free c.give_back.new.store)
      c.shrink-in-Emptied.new.self (record { root = 0; height = 0; records = c.args.self.now.records - 1 }) c.shrink-in-Emptied.ensures.tree
      c.shrink-in-Emptied.ensures.answer
      (λ rs w. whole_emptied c.args.k.now (g.S.PageStore.told c.args.store.now) (g.S.PageStore.told c.remove_under.new.store)
      (g.S.PageStore.told c.give_back.new.store) (g.S.PageStore.free c.args.store.now) (g.S.PageStore.free c.remove_under.new.store)
      (g.S.PageStore.free c.give_back.new.store) (g.S.PageStore.size c.args.store.now) c.args.self.now rs
      (removing g (goal.at.returns-in_ok-give_back-in-Emptied-clause-removes g c).Else-self-eq0) found c.in_ok-give_back-in-Emptied.ensures.told c.in_ok-give_back-in-Emptied.ensures.free w);
  answer =
      shrunk_answer c.shrink-in-Emptied.result (g.S.PageStore.told c.args.store.now) c.args.self.now c.args.k.now c.shrink-in-Emptied.ensures.answer
      (λ rs is. finds_root (g.S.PageStore.told c.args.store.now) c.args.k.now true c.args.self.now rs c.if-self-eq0.false (rw c.in-Emptied.is at c.in_ok-remove_under.ensures.finds) is);
  changes =
      out_shrunk (g.S.PageStore.told c.args.store.now) (g.S.PageStore.free c.args.store.now) c.args.self.now c.shrink-in-Emptied.result c.args.k.now
      (g.S.PageStore.told c.give_back.new.store) (g.S.PageStore.free c.give_back.new.store) c.shrink-in-Emptied.new.self
      (record { root = 0; height = 0; records = c.args.self.now.records - 1 }) c.shrink-in-Emptied.ensures.tree
      (λ rs w. out_emptied c.args.k.now (g.S.PageStore.told c.args.store.now) (g.S.PageStore.told c.remove_under.new.store)
      (g.S.PageStore.told c.give_back.new.store) (g.S.PageStore.free c.args.store.now) (g.S.PageStore.free c.remove_under.new.store)
      (g.S.PageStore.free c.give_back.new.store) c.args.self.now rs c.if-self-eq0.false
      (rw c.in-Emptied.is at c.in_ok-remove_under.ensures.removed) c.in_ok-give_back-in-Emptied.ensures.told w);
}

pub returns-in_ok-give_back-in-Emptied-clause-sound : goal.returns-in_ok-give_back-in-Emptied-clause-sound
returns-in_ok-give_back-in-Emptied-clause-sound g c =
    let found = rw c.in-Emptied.is at c.in_ok-remove_under.ensures.removed in
    shrunk_sound (g.S.PageStore.told c.args.store.now) (g.S.PageStore.free c.args.store.now) (g.S.PageStore.size c.args.store.now) c.args.self.now
    c.shrink-in-Emptied.result (0 ≡ 0 → (0 ≡ 0) × (c.args.self.now.records ≡ 1)) (1 ≤ 0 → 2 ≤ c.args.self.now.records)
    c.shrink-in-Emptied.ensures.sound
    (λ rs w. (
      λ e. (
        refl,
        (one_emptied c.args.k.now (g.S.PageStore.told c.args.store.now) (g.S.PageStore.told c.remove_under.new.store)
            (g.S.PageStore.free c.args.store.now) (g.S.PageStore.free c.remove_under.new.store) (g.S.PageStore.size c.args.store.now) c.args.self.now rs
            (removing g (goal.at.returns-in_ok-give_back-in-Emptied-clause-sound g c).Else-self-eq0) found w).1,
      ),
      λ h. absurd (omega arith),
    ))

pub returns-in_err-give_back-in-Only-clause-sound : goal.returns-in_err-give_back-in-Only-clause-sound
returns-in_err-give_back-in-Only-clause-sound g c =
    rw (handed_on c.from_residual-in_err-give_back-in-Only.result c.from_residual-in_err-give_back-in-Only.ensures.1)
    (let found = rw c.in-Only.is at c.in_ok-remove_under.ensures.removed in
    λ rs w. c.in_err-give_back-in-Only.ensures.sound
    (one_only (g.S.PageStore.told c.args.store.now) (g.S.PageStore.free c.args.store.now) (g.S.PageStore.size c.args.store.now) c.args.self.now c.args.k.now (g.S.PageStore.told c.remove_under.new.store) (g.S.PageStore.free c.remove_under.new.store) c.in-Only.child rs
    (removing g (goal.at.returns-in_err-give_back-in-Only-clause-sound g c).Else-self-eq0) found w).0)

pub returns-in_ok-give_back-in-Only-clause-removes : goal.returns-in_ok-give_back-in-Only-clause-removes
returns-in_ok-give_back-in-Only-clause-removes g c = record {
  removed =
      let found = rw c.in-Only.is at c.in_ok-remove_under.ensures.removed in
      shrunk c.args.k.now (g.S.PageStore.told c.args.store.now) (g.S.PageStore.free c.args.store.now) (g.S.PageStore.size c.args.store.now)
      c.args.self.now c.shrink-in-Only.result (g.S.PageStore.told c.give_back-in-Only.new.store)
      (g.S.PageStore.free c.give_back-in-Only.new.store) c.shrink-in-Only.new.self
      (record { root = c.in-Only.child; height = c.args.self.now.height - 1; records = c.args.self.now.records - 1 })
      c.shrink-in-Only.ensures.tree c.shrink-in-Only.ensures.answer
      (λ rs w. whole_only c.args.k.now (g.S.PageStore.told c.args.store.now) (g.S.PageStore.told c.remove_under.new.store)
      (g.S.PageStore.told c.give_back-in-Only.new.store) (g.S.PageStore.free c.args.store.now) (g.S.PageStore.free c.remove_under.new.store)
      (g.S.PageStore.free c.give_back-in-Only.new.store) (g.S.PageStore.size c.args.store.now) c.in-Only.child c.args.self.now rs
      (removing g (goal.at.returns-in_ok-give_back-in-Only-clause-removes g c).Else-self-eq0) found c.in_ok-give_back-in-Only.ensures.told c.in_ok-give_back-in-Only.ensures.free w);
  answer =
      shrunk_answer c.shrink-in-Only.result (g.S.PageStore.told c.args.store.now) c.args.self.now c.args.k.now
      c.shrink-in-Only.ensures.answer
      (λ rs is. finds_root (g.S.PageStore.told c.args.store.now) c.args.k.now true c.args.self.now rs c.if-self-eq0.false (rw c.in-Only.is at c.in_ok-remove_under.ensures.finds) is);
  changes =
      out_shrunk (g.S.PageStore.told c.args.store.now) (g.S.PageStore.free c.args.store.now) c.args.self.now c.shrink-in-Only.result
      c.args.k.now (g.S.PageStore.told c.give_back-in-Only.new.store) (g.S.PageStore.free c.give_back-in-Only.new.store)
      c.shrink-in-Only.new.self
      (record { root = c.in-Only.child; height = c.args.self.now.height - 1; records = c.args.self.now.records - 1 })
      c.shrink-in-Only.ensures.tree
      (λ rs w. out_only c.args.k.now (g.S.PageStore.told c.args.store.now) (g.S.PageStore.told c.remove_under.new.store)
      (g.S.PageStore.told c.give_back-in-Only.new.store) (g.S.PageStore.free c.args.store.now) (g.S.PageStore.free c.remove_under.new.store)
      (g.S.PageStore.free c.give_back-in-Only.new.store) c.in-Only.child c.args.self.now rs c.if-self-eq0.false
      (rw c.in-Only.is at c.in_ok-remove_under.ensures.removed) c.in_ok-give_back-in-Only.ensures.told c.in_ok-give_back-in-Only.ensures.free w);
}

pub returns-in_ok-give_back-in-Only-clause-sound : goal.returns-in_ok-give_back-in-Only-clause-sound
returns-in_ok-give_back-in-Only-clause-sound g c =
    let found = rw c.in-Only.is at c.in_ok-remove_under.ensures.removed in
    shrunk_sound (g.S.PageStore.told c.args.store.now) (g.S.PageStore.free c.args.store.now) (g.S.PageStore.size c.args.store.now) c.args.self.now
    c.shrink-in-Only.result (c.args.self.now.height - 1 ≡ 0 → (c.in-Only.child ≡ 0)
    × (c.args.self.now.records ≡ 1)) (1 ≤ c.args.self.now.height - 1 → 2 ≤ c.args.self.now.records) c.shrink-in-Only.ensures.sound
    (λ rs w. (
      λ e. absurd
          ((one_only (g.S.PageStore.told c.args.store.now) (g.S.PageStore.free c.args.store.now) (g.S.PageStore.size c.args.store.now) c.args.self.now c.args.k.now (g.S.PageStore.told c.remove_under.new.store) (g.S.PageStore.free c.remove_under.new.store) c.in-Only.child rs
          (removing g (goal.at.returns-in_ok-give_back-in-Only-clause-sound g c).Else-self-eq0) found w).2 e),
      λ h. (one_only (g.S.PageStore.told c.args.store.now) (g.S.PageStore.free c.args.store.now) (g.S.PageStore.size c.args.store.now) c.args.self.now c.args.k.now (g.S.PageStore.told c.remove_under.new.store) (g.S.PageStore.free c.remove_under.new.store) c.in-Only.child rs
          (removing g (goal.at.returns-in_ok-give_back-in-Only-clause-sound g c).Else-self-eq0) found w).1,
    ))

pub returns-in_err-remove_under-clause-goes : goal.returns-in_err-remove_under-clause-goes
returns-in_err-remove_under-clause-goes g c =
    rw (handed_on c.from_residual.result c.from_residual.ensures.1)
    (λ rs w n. sound_out (g.S.PageStore.told c.args.store.now) (g.S.PageStore.free c.args.store.now) c.args.self.now _ rs c.if-self-eq0.false
    c.in_err-remove_under.ensures.sound w)

pub returns-in-Done-clause-goes : goal.returns-in-Done-clause-goes
returns-in-Done-clause-goes g c =
    out_sound c.shrink.result (g.S.PageStore.told c.args.store.now) (g.S.PageStore.free c.args.store.now) c.args.self.now (c.args.self.now.height ≡ 0
    → (c.args.self.now.root ≡ 0) × (c.args.self.now.records ≡ 1)) (1 ≤ c.args.self.now.height → 2 ≤ c.args.self.now.records) c.shrink.ensures.sound
    (λ rs w n. (
      λ e. absurd (c.if-self-eq0.false e),
      λ e. two_done c.args.k.now (g.S.PageStore.told c.args.store.now)
          (g.S.PageStore.told c.remove_under.new.store) (g.S.PageStore.free c.args.store.now) (g.S.PageStore.free c.remove_under.new.store)
          c.args.self.now rs c.if-self-eq0.false (rw c.in-Done.is at c.in_ok-remove_under.ensures.removed) n w,
    ))

pub returns-in-Underfull-clause-goes : goal.returns-in-Underfull-clause-goes
returns-in-Underfull-clause-goes g c =
    out_sound c.shrink-in-Underfull.result (g.S.PageStore.told c.args.store.now) (g.S.PageStore.free c.args.store.now) c.args.self.now
    (c.args.self.now.height ≡ 0 → (c.args.self.now.root ≡ 0) × (c.args.self.now.records ≡ 1)) (1 ≤ c.args.self.now.height
    → 2 ≤ c.args.self.now.records) c.shrink-in-Underfull.ensures.sound
    (λ rs w n. (
      λ e. absurd (c.if-self-eq0.false e),
      λ e. two_underfull c.args.k.now (g.S.PageStore.told c.args.store.now)
          (g.S.PageStore.told c.remove_under.new.store) (g.S.PageStore.free c.args.store.now) (g.S.PageStore.free c.remove_under.new.store)
          c.args.self.now rs c.if-self-eq0.false (rw c.in-Underfull.is at c.in_ok-remove_under.ensures.removed) n w,
    ))

pub returns-in_err-give_back-in-Emptied-clause-goes : goal.returns-in_err-give_back-in-Emptied-clause-goes
returns-in_err-give_back-in-Emptied-clause-goes g c =
    rw (handed_on c.from_residual-in_err-give_back-in-Emptied.result c.from_residual-in_err-give_back-in-Emptied.ensures.1)
    (λ rs w n. c.in_err-give_back-in-Emptied.ensures.sound
    (one_empty c.args.k.now (g.S.PageStore.told c.args.store.now) (g.S.PageStore.told c.remove_under.new.store) (g.S.PageStore.free c.args.store.now)
    (g.S.PageStore.free c.remove_under.new.store) c.args.self.now rs c.if-self-eq0.false
    (rw c.in-Emptied.is at c.in_ok-remove_under.ensures.removed) n w).0)

pub returns-in_ok-give_back-in-Emptied-clause-goes : goal.returns-in_ok-give_back-in-Emptied-clause-goes
returns-in_ok-give_back-in-Emptied-clause-goes g c =
    out_sound c.shrink-in-Emptied.result (g.S.PageStore.told c.args.store.now) (g.S.PageStore.free c.args.store.now) c.args.self.now
    (0 ≡ 0 → (0 ≡ 0) × (c.args.self.now.records ≡ 1)) (1 ≤ 0 → 2 ≤ c.args.self.now.records) c.shrink-in-Emptied.ensures.sound
    (λ rs w n. (
      λ e. (
        refl,
        (one_empty c.args.k.now (g.S.PageStore.told c.args.store.now) (g.S.PageStore.told c.remove_under.new.store)
            (g.S.PageStore.free c.args.store.now) (g.S.PageStore.free c.remove_under.new.store) c.args.self.now rs c.if-self-eq0.false
            (rw c.in-Emptied.is at c.in_ok-remove_under.ensures.removed) n w).1,
      ),
      λ z. absurd (omega arith),
    ))

pub returns-in_err-give_back-in-Only-clause-goes : goal.returns-in_err-give_back-in-Only-clause-goes
returns-in_err-give_back-in-Only-clause-goes g c =
    rw (handed_on c.from_residual-in_err-give_back-in-Only.result c.from_residual-in_err-give_back-in-Only.ensures.1)
    (λ rs w n. c.in_err-give_back-in-Only.ensures.sound
    (two_only c.args.k.now (g.S.PageStore.told c.args.store.now) (g.S.PageStore.told c.remove_under.new.store) (g.S.PageStore.free c.args.store.now)
    (g.S.PageStore.free c.remove_under.new.store) c.in-Only.child c.args.self.now rs c.if-self-eq0.false
    (rw c.in-Only.is at c.in_ok-remove_under.ensures.removed) n w).0)

pub returns-in_ok-give_back-in-Only-clause-goes : goal.returns-in_ok-give_back-in-Only-clause-goes
returns-in_ok-give_back-in-Only-clause-goes g c =
    out_sound c.shrink-in-Only.result (g.S.PageStore.told c.args.store.now) (g.S.PageStore.free c.args.store.now) c.args.self.now
    (c.args.self.now.height - 1 ≡ 0 → (c.in-Only.child ≡ 0) × (c.args.self.now.records ≡ 1)) (1 ≤ c.args.self.now.height - 1
    → 2 ≤ c.args.self.now.records) c.shrink-in-Only.ensures.sound
    (λ rs w n.
    let two = two_only c.args.k.now (g.S.PageStore.told c.args.store.now) (g.S.PageStore.told c.remove_under.new.store)
    (g.S.PageStore.free c.args.store.now) (g.S.PageStore.free c.remove_under.new.store) c.in-Only.child c.args.self.now rs c.if-self-eq0.false
    (rw c.in-Only.is at c.in_ok-remove_under.ensures.removed) n w in
    (λ e. absurd (let low = two.2 in omega arith), λ e. two.1))

pub returns-in_err-remove_under-clause-bad : goal.returns-in_err-remove_under-clause-bad
returns-in_err-remove_under-clause-bad g c =
    rw (handed_on c.from_residual.result c.from_residual.ensures.1) (c.in_err-remove_under.ensures.bad)

pub returns-in_err-give_back-in-Emptied-clause-names : goal.returns-in_err-give_back-in-Emptied-clause-names
returns-in_err-give_back-in-Emptied-clause-names g c =
    rw (handed_on c.from_residual-in_err-give_back-in-Emptied.result c.from_residual-in_err-give_back-in-Emptied.ensures.1)
    (names_more 1 (g.S.PageStore.size c.args.store.now) _ (let q = (g.met.S.PageStore.in_range c.args.store.now).0 in omega arith)
    c.in_err-give_back-in-Emptied.ensures.names)

pub returns-in_err-give_back-in-Emptied-clause-bad : goal.returns-in_err-give_back-in-Emptied-clause-bad
returns-in_err-give_back-in-Emptied-clause-bad g c =
    rw (handed_on c.from_residual-in_err-give_back-in-Emptied.result c.from_residual-in_err-give_back-in-Emptied.ensures.1)
    (zero_names (g.S.PageStore.told c.args.store.now) c.args.self.now.height c.args.self.now.root _ c.in_err-give_back-in-Emptied.ensures.names)

pub returns-in_err-give_back-in-Only-clause-names : goal.returns-in_err-give_back-in-Only-clause-names
returns-in_err-give_back-in-Only-clause-names g c =
    rw (handed_on c.from_residual-in_err-give_back-in-Only.result c.from_residual-in_err-give_back-in-Only.ensures.1)
    (names_more 1 (g.S.PageStore.size c.args.store.now) _ (let q = (g.met.S.PageStore.in_range c.args.store.now).0 in omega arith)
    c.in_err-give_back-in-Only.ensures.names)

pub returns-in_err-give_back-in-Only-clause-bad : goal.returns-in_err-give_back-in-Only-clause-bad
returns-in_err-give_back-in-Only-clause-bad g c =
    rw (handed_on c.from_residual-in_err-give_back-in-Only.result c.from_residual-in_err-give_back-in-Only.ensures.1)
    (zero_names (g.S.PageStore.told c.args.store.now) c.args.self.now.height c.args.self.now.root _
    c.in_err-give_back-in-Only.ensures.names)

pub returns-in-Done-clause-bad : goal.returns-in-Done-clause-bad
returns-in-Done-clause-bad g c =
    zero_named c.shrink.result (g.S.PageStore.told c.args.store.now) c.args.self.now.height c.args.self.now.root
    (c.shrink.ensures.names 1 (omega arith))

pub returns-in-Underfull-clause-bad : goal.returns-in-Underfull-clause-bad
returns-in-Underfull-clause-bad g c =
    zero_named c.shrink-in-Underfull.result (g.S.PageStore.told c.args.store.now) c.args.self.now.height c.args.self.now.root
    (c.shrink-in-Underfull.ensures.names 1 (omega arith))

pub returns-in_ok-give_back-in-Emptied-clause-bad : goal.returns-in_ok-give_back-in-Emptied-clause-bad
returns-in_ok-give_back-in-Emptied-clause-bad g c =
    zero_named c.shrink-in-Emptied.result (g.S.PageStore.told c.args.store.now) c.args.self.now.height c.args.self.now.root
    (c.shrink-in-Emptied.ensures.names 1 (omega arith))

pub returns-in_ok-give_back-in-Only-clause-bad : goal.returns-in_ok-give_back-in-Only-clause-bad
returns-in_ok-give_back-in-Only-clause-bad g c =
    zero_named c.shrink-in-Only.result (g.S.PageStore.told c.args.store.now) c.args.self.now.height c.args.self.now.root
    (c.shrink-in-Only.ensures.names 1 (omega arith))

pub returns-in_err-remove_under-clause-left : goal.returns-in_err-remove_under-clause-left
returns-in_err-remove_under-clause-left g c =
    edits_err _ c.from_residual.ensures.1 (removes_tree _ c.args.self.now.height c.requires.rooted.height c.in_err-remove_under.ensures.left)

pub returns-in-Missing-clause-left : goal.returns-in-Missing-clause-left
returns-in-Missing-clause-left g c = edits_ok _ _ (removes_tree _ c.args.self.now.height c.requires.rooted.height c.in_ok-remove_under.ensures.left)

pub returns-in-Done-clause-left : goal.returns-in-Done-clause-left
returns-in-Done-clause-left g c =
    edits_answer _ c.shrink.result c.shrink.ensures.cause (removes_tree _ c.args.self.now.height c.requires.rooted.height c.in_ok-remove_under.ensures.left)

pub returns-in-Underfull-clause-left : goal.returns-in-Underfull-clause-left
returns-in-Underfull-clause-left g c =
    edits_answer _ c.shrink-in-Underfull.result c.shrink-in-Underfull.ensures.cause (removes_tree _ c.args.self.now.height c.requires.rooted.height c.in_ok-remove_under.ensures.left)

pub returns-in_err-give_back-in-Emptied-clause-left : goal.returns-in_err-give_back-in-Emptied-clause-left
returns-in_err-give_back-in-Emptied-clause-left g c =
    edits_err _ c.from_residual-in_err-give_back-in-Emptied.ensures.1
    (edits_on _ g.met.S.PageStore.goes_on (removes_tree _ c.args.self.now.height c.requires.rooted.height c.in_ok-remove_under.ensures.left) c.in_err-give_back-in-Emptied.ensures.left)

pub returns-in_ok-give_back-in-Emptied-clause-left : goal.returns-in_ok-give_back-in-Emptied-clause-left
returns-in_ok-give_back-in-Emptied-clause-left g c =
    edits_answer _ c.shrink-in-Emptied.result c.shrink-in-Emptied.ensures.cause
    (edits_on _ g.met.S.PageStore.goes_on (removes_tree _ c.args.self.now.height c.requires.rooted.height c.in_ok-remove_under.ensures.left) c.in_ok-give_back-in-Emptied.ensures.left)

pub returns-in_err-give_back-in-Only-clause-left : goal.returns-in_err-give_back-in-Only-clause-left
returns-in_err-give_back-in-Only-clause-left g c =
    edits_err _ c.from_residual-in_err-give_back-in-Only.ensures.1
    (edits_on _ g.met.S.PageStore.goes_on (removes_tree _ c.args.self.now.height c.requires.rooted.height c.in_ok-remove_under.ensures.left) c.in_err-give_back-in-Only.ensures.left)

pub returns-in_ok-give_back-in-Only-clause-left : goal.returns-in_ok-give_back-in-Only-clause-left
returns-in_ok-give_back-in-Only-clause-left g c =
    edits_answer _ c.shrink-in-Only.result c.shrink-in-Only.ensures.cause
    (edits_on _ g.met.S.PageStore.goes_on (removes_tree _ c.args.self.now.height c.requires.rooted.height c.in_ok-remove_under.ensures.left) c.in_ok-give_back-in-Only.ensures.left)
