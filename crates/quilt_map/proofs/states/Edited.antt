-- A book in whose tree the first edits of a merge were made, then the next, and so on to its end.
use Rattle.std.proofs.Common.{◌≡◌, ◌+◌, ◌*◌, ◌≤◌, true, false, List, [], ◌∷◌, ◌++◌, length, refl, sym, ◌∙◌, ap, subst, arith}
use Rattle.std.proofs.Common.{length-append}
use Rattle.std.proofs.lemmas.Bool.{and_from, and_parts}
use Rattle.quilt_types.specs.Facts.{quota}
use Rattle.quilt_types.specs.declared.stop.Stop.{Stop}
use Rattle.quilt_world.specs.Tale.{Goes}
use Rattle.quilt_world.specs.declared.disk.Disk as disk
use Rattle.quilt_world.proofs.ReadCounts.{reads_none, reads_then}
use Rattle.quilt_record.specs.declared.record.Record.{Record}
use Rattle.quilt_node.specs.Nodes.{keys_of}
use Rattle.quilt_node.specs.Pages.{is_ascending}
use Rattle.quilt_store.specs.Stops.{IsNotDamage}
use Rattle.quilt_btree.specs.Edits.{IsWhole}
use Rattle.quilt_btree.specs.Batches.{are_due, edit_all, more, fewer, removed, records_put}
use Rattle.quilt_btree.specs.Runs.{put_all, without_all, has_each, has_any}
use Rattle.quilt_btree.specs.declared.edit.Edit.{Edit}
use Rattle.quilt_btree.specs.declared.edit.Edit.TheVariants as edit
use Rattle.quilt_btree.proofs.batches.Leaves.{are_due-append, edit_all-append}
use Rattle.quilt_btree.proofs.batches.Lists.{edits_are}
use Rattle.quilt_btree.proofs.batches.Rises.{whole_rises}
use Rattle.quilt_btree.proofs.batches.Whole.{fewer-append, more-append}
use Rattle.quilt_batch.specs.Merges.{IsMergePart}
use Rattle.quilt_batch.proofs.Goings.{removed-append}
use Rattle.quilt_btree.proofs.batches.Puts.{puts_append}
use Rattle.quilt_batch.proofs.Parts.{part_due, part_here, part_left, part_on, part_sizes, part_whole}
use Rattle.quilt_edition.specs.declared.book.Book.{Book}
use Rattle.quilt_edition.specs.Books.{world_of, pages_of, work_of, published_free, GoesOn}
use Rattle.quilt_map.specs.Asking.{reads_in}
use Rattle.quilt_map.specs.Editing.{SameButTree}
use Rattle.quilt_map.specs.Sessions.{told_of, free_of, changed_of, tree_in}
use Rattle.quilt_map.proofs.states.ChangeSteps.{goes_here}
use Rattle.quilt_map.proofs.states.Going.{goes_both}

-- no more records come to the tree than are put in
more_at_most : (run : List Edit) → more run ≤ length (records_put run)
more_at_most [] = omega arith
more_at_most (edit.Remove k ∷ run) = let h = more_at_most run in omega arith
more_at_most (edit.Put r ∷ run) = let h = more_at_most run in omega arith
more_at_most (edit.Replace r ∷ run) = let h = more_at_most run in omega arith

-- how many records go and come by two runs
gone_both : (run part : List Edit) → length (removed (run ++ part)) ≡ length (removed run) + length (removed part)
gone_both run part = ap length (removed-append run part) ∙ length-append (removed run) (removed part)

come_both : (run part : List Edit) → length (records_put (run ++ part)) ≡ length (records_put run) + length (records_put part)
come_both run part = ap length (puts_append run part) ∙ length-append (records_put run) (records_put part)

module _ {W : Type 0} {D : disk.Ghosts W} where
  -- Edits were made in the tree of the work. Over a whole tree each of them was due.
  pub record HasMade (a b : Book W D) (run : List Edit) : Type 0 where
    pub whole : (rs : List Record) → IsWhole (told_of a) (free_of a) (pages_of a) (tree_in (work_of a)) rs
        → (are_due run rs ≡ true) × IsWhole (told_of b) (free_of b) (pages_of a) (tree_in (work_of b)) (edit_all run rs)
    pub head : SameButTree (work_of a) (work_of b)
    pub count : (work_of b).records + fewer run ≡ (work_of a).records + more run
    pub goes_on : GoesOn a b
    pub used : published_free b ≡ published_free a
    pub changed : changed_of b ≤ changed_of a + 7 * length (removed run) + 6 * length (records_put run)
    pub reads : Goes (λ old new. new ≤ old + (10 * length (removed run) + 6 * length (records_put run))) (reads_in a) (reads_in b)
    pub faults : D.faults (world_of a) ≤ D.faults (world_of b)

  -- the first edits of a merge were made, and these records are left of its lists
  pub record HasEdited (old new : List Record) (a b : Book W D) (goes comes : List Record) : Type 0 where
    pub run : List Edit
    pub part : IsMergePart old new run goes comes
    pub made : HasMade a b run

  made_none : (a : Book W D) → HasMade a a []
  made_none a = record {
    whole = λ rs w. (refl, w);
    head = record { format = refl; edition = refl; level = refl };
    count = refl;
    goes_on = goes_here {D = D} a;
    used = refl;
    changed = omega arith;
    reads = reads_none 0 (reads_in a);
    faults = omega arith;
  }

  made_on : (a b c : Book W D) (run part : List Edit) → HasMade a b run → HasMade b c part → HasMade a c (run ++ part)
  made_on a b c run part p q =
      let gone = gone_both run part in
      let come = come_both run part in
      let size : pages_of b ≡ pages_of a = p.goes_on.0 in
      record {
        whole = λ rs w.
            let h = p.whole rs w in
            let there = subst (λ n. IsWhole (told_of b) (free_of b) n (tree_in (work_of b)) (edit_all run rs)) (sym size) h.1 in
            let g = q.whole (edit_all run rs) there in (
              are_due-append run part rs ∙ and_from (are_due run rs) (are_due part (edit_all run rs)) h.0 g.0,
              subst (λ (l : List Record). IsWhole (told_of c) (free_of c) (pages_of a) (tree_in (work_of c)) l) (sym (edit_all-append run part rs))
                  (subst (λ n. IsWhole (told_of c) (free_of c) n (tree_in (work_of c)) (edit_all part (edit_all run rs))) size g.1),
            );
        head = record
            { format = q.head.format ∙ p.head.format; edition = q.head.edition ∙ p.head.edition; level = q.head.level ∙ p.head.level };
        count = let f = fewer-append run part in let m = more-append run part in let x = p.count in let y = q.count in omega (arith, f, m, x, y);
        goes_on = goes_both {D = D} a b c p.goes_on q.goes_on;
        used = q.used ∙ p.used;
        changed = let x = p.changed in let y = q.changed in omega (arith, gone, come, x, y);
        reads = reads_then (10 * length (removed run) + 6 * length (records_put run)) (10 * length (removed part) + 6 * length (records_put part))
            (10 * length (removed (run ++ part)) + 6 * length (records_put (run ++ part))) (reads_in a) (reads_in b) (reads_in c)
            (omega (arith, gone, come)) p.reads q.reads;
        faults = let x = p.faults in let y = q.faults in omega (arith, x, y);
      }

  -- none yet
  pub edited_none : (old new : List Record) (a : Book W D) → HasEdited old new a a old new
  edited_none old new a = record { run = []; part = part_here old new; made = made_none a }

  module _ (old new goes comes : List Record) (a b : Book W D) (e : HasEdited old new a b goes comes) where
    -- how many records went and came so far
    pub edited_sizes : (length (removed e.run) ≤ length old) × (length (records_put e.run) ≤ length new)
    edited_sizes = let s = part_sizes old new e.run goes comes e.part in (omega (arith, s.0), omega (arith, s.1))

    pub edited_changed : changed_of b ≤ changed_of a + 7 * length old + 6 * length new
    edited_changed = let s = edited_sizes in let h = e.made.changed in omega (arith, s.0, s.1, h)

    -- where both lists are in the order of their keys, so is what is left of them
    pub edited_left : is_ascending (keys_of old) ≡ true → is_ascending (keys_of new) ≡ true
        → (is_ascending (keys_of goes) ≡ true) × (is_ascending (keys_of comes) ≡ true)
    edited_left = part_left old new e.run goes comes e.part

    module _ (part : List Edit) (left coming : List Record) (next : IsMergePart goes comes part left coming) where
      both : IsMergePart old new (e.run ++ part) left coming
      both = part_on old new goes comes left coming e.run part e.part next

      -- the next edits
      pub edited_on : (c : Book W D) → HasMade b c part → HasEdited old new a c left coming
      edited_on c made = record { run = e.run ++ part; part = both; made = made_on a b c e.run part e.made made }

      -- the tree has room for them
      pub edited_room : (work_of a).records + length new ≤ quota (pages_of a) → (work_of b).records + more part ≤ quota (pages_of b)
      edited_room room =
          let size : pages_of b ≡ pages_of a = e.made.goes_on.0 in
          let few = more_at_most (e.run ++ part) in
          let many = (part_sizes old new (e.run ++ part) left coming both).1 in
          let m = more-append e.run part in
          let count = e.made.count in
          subst (λ n. (work_of b).records + more part ≤ quota n) (sym size) (omega (arith, few, many, m, count, room))

      -- so many pages are changed at most, though they fail
      pub edited_less : (d : Book W D) → changed_of d ≤ changed_of b + 7 * length (removed part) + 6 * length (records_put part)
          → changed_of d ≤ changed_of a + 7 * length old + 6 * length new
      edited_less d h =
          let s = part_sizes old new (e.run ++ part) left coming both in
          let gone = gone_both e.run part in
          let come = come_both e.run part in
          let x = e.made.changed in
          omega (arith, s.0, s.1, gone, come, x, h)

      -- an end of theirs that is no damage where they are due
      pub edited_sound : (stop : Stop)
          → ((rs : List Record) → IsWhole (told_of b) (free_of b) (pages_of b) (tree_in (work_of b)) rs → are_due part rs ≡ true → IsNotDamage stop)
          → (rs : List Record) → IsWhole (told_of a) (free_of a) (pages_of a) (tree_in (work_of a)) rs
          → is_ascending (keys_of old) ≡ true → has_each (keys_of old) rs ≡ true → has_any new (without_all (keys_of old) rs) ≡ false → IsNotDamage stop
      edited_sound stop sound rs whole ascends each none =
          let size : pages_of b ≡ pages_of a = e.made.goes_on.0 in
          let h = e.made.whole rs whole in
          let there = subst (λ n. IsWhole (told_of b) (free_of b) n (tree_in (work_of b)) (edit_all e.run rs)) (sym size) h.1 in
          let due = part_due old new (e.run ++ part) left coming rs both ascends
          (whole_rises (told_of a) (free_of a) (pages_of a) (tree_in (work_of a)) rs whole) each none in
          sound (edit_all e.run rs) there (and_parts (are_due e.run rs) (are_due part (edit_all e.run rs)) (sym (are_due-append e.run part rs) ∙ due)).1

    module _ (none : (goes ≡ []) × (comes ≡ [])) where
      -- behind the last of them
      pub edited_whole : (rs : List Record) → IsWhole (told_of a) (free_of a) (pages_of a) (tree_in (work_of a)) rs
          → IsWhole (told_of b) (free_of b) (pages_of a) (tree_in (work_of b)) (put_all new (without_all (keys_of old) rs))
      edited_whole rs whole =
          let h = e.made.whole rs whole in
          let m = part_whole old new e.run goes comes e.part none in
          let is = edits_are e.run rs e.part.ascends (whole_rises (told_of a) (free_of a) (pages_of a) (tree_in (work_of a)) rs whole) h.0
          ∙ ap (λ l. put_all l (without_all (removed e.run) rs)) m.comes ∙ ap (λ l. put_all new (without_all l rs)) m.goes in
          subst (λ (l : List Record). IsWhole (told_of b) (free_of b) (pages_of a) (tree_in (work_of b)) l) is h.1

      pub edited_count : (work_of b).records + length old ≡ (work_of a).records + length new
      edited_count =
          let m = (part_whole old new e.run goes comes e.part none).counts in
          let h = e.made.count in
          omega (arith, m, h)
