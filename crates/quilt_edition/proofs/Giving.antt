-- What giving a page back keeps.
use Rattle.std.proofs.Common.{◌≡◌, ◌≢◌, inl, inr, ℕ, ◌<◌, ◌≤◌, Bool, true, false, cond, nat_eq, ◌||◌, List, [], map, length, Option, Some, None, get_or, set}
use Rattle.std.proofs.Common.{refl, sym, ◌∙◌, ap, subst, arith, get_or-set_same, get_or-set_other}
use Rattle.std.specs.Cmp.{nat_eq_equiv}
use Rattle.std.specs.List.{IsDistinct}
use Rattle.std.specs.Map.{keys_of, remove_entry}
use Rattle.std.proofs.lemmas.Map.{lookup-remove_entry}
use Rattle.std.proofs.lemmas.Bool.{cases_Bool, cases_eq, cases_lt, eq-eqb, ne_eqb, eqb-true, false≢true, or_right}
use Rattle.std.proofs.lemmas.List.{get_or_past}
use Rattle.std.proofs.lemmas.List.FromFn.{length-map-range_with_len, get_or-map-range_with_len}
use Rattle.quilt_types.specs.Plane.{below}
use Rattle.quilt_world.specs.Disk.{Pages}
use Rattle.quilt_world.specs.Tale.{Tale, Goes}
use Rattle.quilt_journal.specs.Changed.{View, is_changed}
use Rattle.quilt_journal.specs.Kept.{IsIdle, home_page, work}
use Rattle.quilt_journal.specs.declared.journal.State.{State}
use Rattle.quilt_journal.specs.declared.journal.State.TheVariants.{Idle, Sealed, Carried}
use Rattle.quilt_node.specs.declared.head.Head.{Head}
use Rattle.quilt_node.specs.Pages.{IsHeader}
use Rattle.quilt_pool.specs.declared.frame.Frame.{Frame}
use Rattle.quilt_pool.specs.Entries.{Entries, frame_at, page_over, bytes_or, has_dirt, is_marked, AreBelow, IsClean}
use Rattle.quilt_pool.specs.Keeping.{IsWork}
use Rattle.quilt_edition.specs.Keeping.{IsBook, IsKeptBy, WhileIdle, told_pages, told_in, work_pages, marked_count}
use Rattle.quilt_edition.proofs.Counts.{marked_less}
use Rattle.quilt_edition.proofs.Steps.{told_idle, kept_idle, idle_kept}

-- ---- where nothing is kept

module _ (j k : View) (es fs : Entries) (last : Head) (busy : j.state ≡ Idle → ⊥) (state : k.state ≡ j.state) where
  busy_kept : (s : State) → (s ≡ Idle → ⊥) → (P : Type 0) → WhileIdle s P
  busy_kept Idle not P = absurd (not refl)
  busy_kept Sealed not P = tt
  busy_kept Carried not P = tt

  busy_told : (s : State) → (s ≡ Idle → ⊥) → (pages : Pages) → told_in s pages ≡ None
  busy_told Idle not pages = absurd (not refl)
  busy_told Sealed not pages = refl
  busy_told Carried not pages = refl

  pub kept_busy : (o : Option Tale) → IsKeptBy k fs last o
  kept_busy None = tt
  kept_busy (Some t) = busy_kept k.state (λ is. busy (sym state ∙ is)) (IsBook k fs last t)

  pub told_busy : (step : Pages → Pages → Type 0) (o : Option Tale) → Goes step (told_pages j es o) (told_pages k fs o)
  told_busy step None = tt
  told_busy step (Some t) = rw (busy_told j.state busy (work_pages j es t), busy_told k.state (λ is. busy (sym state ∙ is)) (work_pages k fs t)) tt

-- ---- the entry is dropped

module _ (es : Entries) (p : ℕ) (distinct : IsDistinct nat_eq (keys_of es)) where
  gone : (i : ℕ) → frame_at (remove_entry (nat_eq p) es) i ≡ cond (nat_eq p i) None (frame_at es i)
  gone i = lookup-remove_entry nat_eq_equiv (nat_eq p) (λ x y h. ap (λ k. nat_eq k y) (eqb-true p x h)) i es distinct

  pub gone_here : frame_at (remove_entry (nat_eq p) es) p ≡ None
  gone_here = gone p ∙ ap (λ b. cond b None (frame_at es p)) (eq-eqb p p refl)

  pub gone_other : (i : ℕ) → i ≢ p → frame_at (remove_entry (nat_eq p) es) i ≡ frame_at es i
  gone_other i ne = gone i ∙ ap (λ b. cond b None (frame_at es i)) (ne_eqb p i (λ e. ne (sym e)))

  none_some : (f : Frame) → None ≡ Some f → ⊥
  none_some f h = cc

  pub below_gone : (n : ℕ) → AreBelow n es → AreBelow n (remove_entry (nat_eq p) es)
  below_gone n below = record {
    each = λ i f is. elim (cases_eq i p) [
      | inl same ↦ absurd (none_some f (sym gone_here ∙ subst (λ j. frame_at (remove_entry (nat_eq p) es) j ≡ Some f) same is))
      | inr ne ↦ below.each i f (sym (gone_other i ne) ∙ is)
    ];
  }

  pub clean_gone : (pages : Pages) (x : List ℕ) → IsClean es pages → IsClean (remove_entry (nat_eq p) es) (set pages p x)
  clean_gone pages x clean = record {
    each = λ i f is none. elim (cases_eq i p) [
      | inl same ↦ absurd (none_some f (sym gone_here ∙ subst (λ j. frame_at (remove_entry (nat_eq p) es) j ≡ Some f) same is))
      | inr ne ↦ clean.each i f (sym (gone_other i ne) ∙ is) none ∙ sym (get_or-set_other pages p i x [] ne)
    ];
  }

  pub over_gone : (pages : Pages) (x : List ℕ) (i : ℕ) → i ≢ p → page_over (remove_entry (nat_eq p) es) (set pages p x) i ≡ page_over es pages i
  over_gone pages x i ne =
      ap (λ f. bytes_or (get_or (set pages p x) i []) f) (gone_other i ne)
      ∙ ap (λ b. bytes_or b (frame_at es i)) (get_or-set_other pages p i x [] ne)

  pub marked_gone : (c : List Bool) (i : ℕ) → p < length c → is_marked (remove_entry (nat_eq p) es) (set c p false) i ≡ true → is_marked es c i ≡ true
  marked_gone c i within is = elim (cases_eq i p) [
    | inl same ↦
        let here : is_marked (remove_entry (nat_eq p) es) (set c p false) p ≡ false =
        ap (λ f. has_dirt f || is_changed (set c p false) p) gone_here ∙ get_or-set_same c p false false within in
        absurd (false≢true (sym here ∙ subst (λ j. is_marked (remove_entry (nat_eq p) es) (set c p false) j ≡ true) same is))
    | inr ne ↦
        sym (ap (λ f. has_dirt f || is_changed (set c p false) i) (gone_other i ne)
        ∙ ap (λ b. has_dirt (frame_at es i) || b) (get_or-set_other c p i false false ne)) ∙ is
  ]

  pub marked_dropped : (n : ℕ) (c : List Bool) → marked_count n (remove_entry (nat_eq p) es) c ≤ marked_count n es c
  marked_dropped n c = marked_less n es (remove_entry (nat_eq p) es) c c (λ i is. elim (cases_Bool (is_changed c i)) [
    | inl bit ↦ or_right (has_dirt (frame_at es i)) (is_changed c i) bit
    | inr clear ↦ elim (cases_eq i p) [
      | inl same ↦
          let here : is_marked (remove_entry (nat_eq p) es) c i ≡ false =
          ap (λ f. has_dirt f || is_changed c i) (ap (λ j. frame_at (remove_entry (nat_eq p) es) j) same ∙ gone_here) ∙ clear in
          absurd (false≢true (sym here ∙ is))
      | inr ne ↦ sym (ap (λ f. has_dirt f || is_changed c i) (gone_other i ne)) ∙ is
    ]
  ])

-- ---- and the page is no longer changed

module _ (j k : View) (es : Entries) (last : Head) (p : ℕ) (idle : j.state ≡ Idle) (pages : k.pages ≡ j.pages) (state : k.state ≡ j.state)
    (changed : k.changed ≡ set j.changed p false) (distinct : IsDistinct nat_eq (keys_of es))
    (cleared : (t : Tale) → IsIdle j.pages j.changed t
    → IsIdle j.pages k.changed t × (work t j.pages k.changed ≡ set (work t j.pages j.changed) p (home_page t p))) where
  fs : Entries
  fs = remove_entry (nat_eq p) es

  is_given : (t : Tale) → IsBook j es last t → IsBook k fs last t
  unfolding fs
  is_given t book =
      let c = cleared t book.work.idle in
      record {
        work = subst (λ n. IsWork n fs k.changed t) (sym pages) (record {
          idle = c.0;
          clean = subst (IsClean fs) (sym c.1) (clean_gone es p distinct (work t j.pages j.changed) (home_page t p) book.work.clean);
        });
        header = subst (λ n. IsHeader n (home_page t 0) last) (sym pages) book.header;
      }

  pub kept_given : (o : Option Tale) → IsKeptBy j es last o → IsKeptBy k (remove_entry (nat_eq p) es) last o
  unfolding fs
  kept_given None kept = tt
  kept_given (Some t) kept = idle_kept k fs last (Some t) (state ∙ idle) (is_given t (kept_idle j es last (Some t) idle kept))

  at : (n : ℕ) (f : ℕ → List ℕ) (i : ℕ) → i < n → get_or (map f (below n)) i [] ≡ f i
  at n f i lt = get_or-map-range_with_len f 0 n i i [] lt (omega arith)

  past : (n : ℕ) (f : ℕ → List ℕ) (i : ℕ) → n ≤ i → get_or (map f (below n)) i [] ≡ []
  past n f i le = get_or_past (map f (below n)) i [] (omega (arith, le, length-map-range_with_len f 0 n))

  others : (t : Tale) → IsBook j es last t → (q : ℕ) → q ≢ p →
      get_or (map (page_over fs (work t k.pages k.changed)) (below k.pages)) q [] ≡ get_or (map (page_over es (work t j.pages j.changed)) (below j.pages)) q []
  unfolding fs
  others t book q ne = elim (cases_lt q j.pages) [
    | inl lt ↦
        at k.pages (page_over fs (work t k.pages k.changed)) q (omega (arith, lt, pages))
        ∙ ap (λ n. page_over fs (work t n k.changed) q) pages
        ∙ ap (λ (w : Pages). page_over fs w q) (cleared t book.work.idle).1
        ∙ over_gone es p distinct (work t j.pages j.changed) (home_page t p) q ne
        ∙ sym (at j.pages (page_over es (work t j.pages j.changed)) q lt)
    | inr le ↦
        past k.pages (page_over fs (work t k.pages k.changed)) q (omega (arith, le, pages))
        ∙ sym (past j.pages (page_over es (work t j.pages j.changed)) q le)
  ]

  pub told_given : (o : Option Tale) → IsKeptBy j es last o
      → Goes (λ (old new : Pages). (q : ℕ) → q ≢ p → get_or new q [] ≡ get_or old q []) (told_pages j es o) (told_pages k (remove_entry (nat_eq p) es) o)
  unfolding fs work_pages
  told_given None kept = tt
  told_given (Some t) kept =
      rw (told_idle j es t idle, told_idle k fs t (state ∙ idle)) (others t (kept_idle j es last (Some t) idle kept))

  pub marked_given : p < length j.changed → marked_count k.pages (remove_entry (nat_eq p) es) k.changed ≤ marked_count j.pages es j.changed
  marked_given within =
      rw (pages, changed) (marked_less j.pages es (remove_entry (nat_eq p) es) j.changed (set j.changed p false)
      (λ i is. marked_gone es p distinct j.changed i within is))
