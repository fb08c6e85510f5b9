-- What a change of the work leaves of the state.
use Rattle.std.proofs.Common.{◌≡◌, ◌⊎◌, inl, inr, ⊎_elim, ℕ, ◌+◌, ◌-◌, ◌*◌, ◌≤◌, min, nat_lt, true, false, List, length, Option, Some, refl, sym, ◌∙◌, ap}
use Rattle.std.proofs.Common.{subst, arith}
use Rattle.std.proofs.lemmas.Bool.{ltb-true, ltb-false, cases_lt}
use Rattle.std.proofs.Math.Nat.{min-eq_left, min-eq_right, min-le_right}
use Rattle.quilt_types.specs.Facts.{quota, records, changes}
use Rattle.quilt_types.specs.Layers.{Layer}
use Rattle.quilt_world.specs.Disk.{Pages}
use Rattle.quilt_world.specs.declared.disk.Disk as disk
use Rattle.quilt_record.specs.declared.entry.Entry.{Entry}
use Rattle.quilt_record.specs.declared.record.Record.{Record}
use Rattle.quilt_node.specs.declared.head.Head.{Head}
use Rattle.quilt_node.specs.Nodes.{keys_of}
use Rattle.quilt_btree.specs.Edits.{IsWhole}
use Rattle.quilt_btree.specs.Runs.{put_all, has_any, without_all, has_each}
use Rattle.quilt_spell.specs.Applying.{taken, given}
use Rattle.quilt_spell.specs.Catalogued.{IsCatalogOf}
use Rattle.quilt_spell.specs.Changing.{with_layer, with_number}
use Rattle.quilt_spell.specs.Laws.{IsStepped}
use Rattle.quilt_spell.specs.Spelled.{SpellsUnder}
use Rattle.quilt_edition.specs.declared.book.Book.{Book}
use Rattle.quilt_edition.specs.Books as books
use Rattle.quilt_edition.specs.Keeping.{IsLater}
use Rattle.quilt_edition.specs.Laws.{later_same}
use Rattle.quilt_replies.specs.Answers.{State}
use Rattle.quilt_map.specs.Editing.{SameButTree}
use Rattle.quilt_map.specs.Planning.{IsLayerPlan, HasLayer, IsFull}
use Rattle.quilt_map.specs.Sessions.{IsAtState, tree_in, told_of, free_of, changed_of, last_count}
use Rattle.quilt_map.specs.declared.session.Session.{Session}
use Rattle.quilt_map.proofs.states.Keeping.{published_on}
use Rattle.quilt_map.proofs.states.Moving.{goes_to, law_of, IsLawful, published_as}
use Rattle.quilt_map.proofs.plans.Plans.{plan_there, plan_new, plan_stepped, plan_list}

-- a count that stays at its last value, after both
pub counted_twice : (c r a x y : ℕ) → x ≡ min (c + r) last_count → y ≡ min (x + a) last_count → y ≡ min (c + r + a) last_count
counted_twice c r a x y p q =
    ⊎_elim
    (λ past.
    let x_is : x ≡ last_count = p ∙ min-eq_right {n = last_count} {m = c + r} (omega arith) in
    q ∙ min-eq_right {n = last_count} {m = x + a} (omega arith) ∙ sym (min-eq_right {n = last_count} {m = c + r + a} (omega arith)))
    (λ less. let x_is : x ≡ c + r = p ∙ min-eq_left {n = c + r} {m = last_count} less in q ∙ ap (λ k. min (k + a) last_count) x_is)
    (cases_lt last_count (c + r))

few_of : (old new changes gone come count : ℕ) → (old ≤ 9 * changes) ⊎ (changes ≡ last_count) → new ≤ old + 7 * gone + 6 * come
    → count ≡ min (changes + gone + come) last_count
    → (new ≤ 9 * count) ⊎ (count ≡ last_count)
few_of old new changes gone come count few more is =
    ⊎_elim
    (λ past. inr (is ∙ min-eq_right {n = last_count} {m = changes + gone + come} (omega arith)))
    (λ less. let c : count ≡ changes + gone + come = is ∙ min-eq_left {n = changes + gone + come} {m = last_count} less in
    ⊎_elim (λ f. inl (omega arith)) (λ e. inr (omega arith)) few)
    (cases_lt last_count (changes + gone + come))

module _ {W : Type 0} {D : disk.Ghosts W} where
  pub goes_here : (b : Book W D) → books.GoesOn b b
  goes_here b = (refl, refl, refl, refl, later_same b.journal.pages (D.told b.world))

  module _ (session : Session W D) (s : State) (at : IsAtState session s) where
    -- the format and level of the work's header are those of the last edition
    pub same_format : s.last.format ≡ session.book.work.format
    same_format = at.last.head.format ∙ sym at.format

    pub same_level : s.last.level ≡ session.book.work.level
    same_level = at.last.head.level ∙ sym at.level

    pub at_most : s.last.level ≤ 12
    at_most = let most = session.book.published.level.1 in let e = at.last.head.level in omega arith

    pub at_spelled : SpellsUnder s.last.format s.last.level at.work.numbers at.work.records s.work
    at_spelled =
        subst (λ f. SpellsUnder f s.last.level at.work.numbers at.work.records s.work) (sym same_format)
        (subst (λ n. SpellsUnder session.book.work.format n at.work.numbers at.work.records s.work) (sym same_level) at.work.spelled)

    pub at_whole : IsWhole (told_of session.book) (free_of session.book) session.book.journal.pages (tree_in session.book.work) at.work.records
    at_whole = subst (λ (o : Option Pages). IsWhole o (free_of session.book) session.book.journal.pages (tree_in session.book.work) at.work.records)
        (sym at.pages_told) at.work.whole

    module _ (name : List ℕ) (number : ℕ) (layer : Option Layer) (removed added : List Record)
        (plan : IsLayerPlan s at.work.numbers name number layer removed added) where
      pub there : has_each (keys_of removed) at.work.records ≡ true
      there = plan_there s.last.format s.last.level at.work.numbers at.work.records s.work at_most at_spelled name number layer removed added plan.step

      pub new : has_any added (without_all (keys_of removed) at.work.records) ≡ false
      new = plan_new s.last.format s.last.level at.work.numbers at.work.records s.work at_most at_spelled name number layer removed added plan.step

      pub stepped : IsStepped s.last.format s.last.level s.work at.work.numbers at.work.records name number layer removed added
      stepped =
          plan_stepped s.last.format s.last.level at.work.numbers at.work.records s.work at_most at_spelled name number layer removed added plan.step plan.some

      pub counted : records s.last.level (with_layer s.work name layer) + length removed ≡ session.book.work.records + length added
      counted = let q = stepped.quota in let w = at.work.whole.number in omega arith

      -- the quota refuses it
      pub is_full : (pages held : ℕ) → pages ≡ session.book.journal.pages → held ≡ session.book.work.records
          → nat_lt (64 * (pages - 8) + length removed) (held + length added) ≡ true → IsFull session session s name layer
      is_full pages held size is over = record {
        at = at;
        past = let q = at.quota in let c = counted in let o = ltb-true _ _ over in omega arith;
        count = refl;
      }

      -- the quota does not refuse it
      pub is_within : (pages held : ℕ) → pages ≡ session.book.journal.pages → held ≡ session.book.work.records
          → nat_lt (64 * (pages - 8) + length removed) (held + length added) ≡ false → records s.last.level (with_layer s.work name layer) ≤ s.quota
      is_within pages held size is over = let q = at.quota in let c = counted in let o = ltb-false _ _ over in omega arith

      -- the work has the layer
      pub has_layer : (b : Book W D) (count : ℕ) (entries : List Entry)
          → IsCatalogOf (with_layer s.work name layer) (with_number at.work.numbers name number layer) entries
          → books.GoesOn session.book b → books.published_free b ≡ books.published_free session.book → IsLawful (D.size b.world) (D.told b.world)
          → IsWhole (told_of b) (free_of b) session.book.journal.pages (tree_in b.work) (put_all added (without_all (keys_of removed) at.work.records))
          → SameButTree session.book.work b.work → changed_of b ≤ changed_of session.book + 7 * length removed + 6 * length added
          → count ≡ min (session.changes + length removed + length added) last_count
          → records s.last.level (with_layer s.work name layer) ≤ s.quota
          → HasLayer session (record {
            book = b;
            catalog = session.catalog;
            last = session.last;
            changes = count;
            warm = session.warm;
            alloc = session.alloc;
          }) s name layer entries
      has_layer b count entries catalog goes used law whole head changed counts within =
          let a = session.book in
          let size = goes.0 in
          let tale = goes_to (IsLater a.journal.pages) (D.told a.world) (D.told b.world) at.tale at.told goes.4 in
          let lawful = law_of (D.size b.world) (D.told b.world) tale.0 tale.1 law in
          let ready = goes.1 ∙ at.ready in
          let format : b.work.format ≡ a.work.format = head.format in
          let level : b.work.level ≡ a.work.level = head.level in
          let list = plan_list s.last.format s.last.level at.work.numbers at.work.records s.work at_most at_spelled name number layer removed added plan.step in
          let spelled : SpellsUnder b.work.format b.work.level (with_number at.work.numbers name number layer)
          (put_all added (without_all (keys_of removed) at.work.records)) (with_layer s.work name layer) =
          subst (λ (l : List Record). SpellsUnder b.work.format b.work.level (with_number at.work.numbers name number layer) l
          (with_layer s.work name layer)) (sym list)
          (subst (λ f. SpellsUnder f b.work.level (with_number at.work.numbers name number layer) (given (taken at.work.records removed) added)
          (with_layer s.work name layer)) (same_format ∙ sym format)
          (subst (λ n. SpellsUnder s.last.format n (with_number at.work.numbers name number layer) (given (taken at.work.records removed) added)
          (with_layer s.work name layer)) (same_level ∙ sym level)
          stepped.spelled)) in
          let tree = whole.tree in
          record {
            at = record {
              tale = tale.0;
              told = tale.1;
              lawful = lawful;
              ready = ready;
              last = published_as a b at.tale tale.0 session.last s.last size goes.2 used
                  (published_on a b at.tale tale.0 at.told tale.1 at.ready ready at.lawful lawful size tale.2) at.last;
              pages = tree.pages;
              pages_told = tree.is_told;
              work = record {
                numbers = with_number at.work.numbers name number layer;
                records = put_all added (without_all (keys_of removed) at.work.records);
                whole =
                    subst (λ i. IsWhole (Some tree.pages) (free_of b) i (tree_in b.work)
                    (put_all added (without_all (keys_of removed) at.work.records))) (sym size)
                    (subst (λ (o : Option Pages). IsWhole o (free_of b) a.journal.pages (tree_in b.work)
                    (put_all added (without_all (keys_of removed) at.work.records))) tree.is_told whole);
                spelled = spelled;
                catalog = catalog;
              };
              format = format ∙ at.format ∙ sym (ap (λ (h : Head). h.format) goes.2);
              level = level ∙ at.level ∙ sym (ap (λ (h : Head). h.level) goes.2);
              quota = at.quota ∙ sym (ap quota size);
              few = few_of (changed_of a) (changed_of b) session.changes (length removed) (length added) count at.few changed counts;
              bounded = let m = min-le_right (session.changes + length removed + length added) last_count in omega arith;
            };
            within = within;
            count = counts ∙ ap (λ k. min k last_count) (let c = stepped.changed in omega arith);
          }
