-- What is found in the entries after each step of the table.
use Rattle.std.proofs.Common.{◌≡◌, ◌≢◌, ◌⊎◌, inl, inr, ℕ, zero, suc, ◌-◌, ◌<◌, ◌≤◌, Bool, true, false, cond, nat_eq, List, [], ◌∷◌, Option, Some, None}
use Rattle.std.proofs.Common.{length, take, slice_get, get_or, set, option_map, ◌||◌, refl, sym, ◌∙◌, ap, subst, arith, get_or-set_other}
use Rattle.std.specs.Cmp.{nat_eq_equiv}
use Rattle.std.specs.List.{IsDistinct}
use Rattle.std.specs.Map.{keys_of, lookup, lookup_entry, remove_entry, set_value}
use Rattle.std.specs.Option.{option_map_or}
use Rattle.std.proofs.lemmas.Bool.{cases_Bool, cases_eq, cases_lt, false≢true, eqb-true, eqb-false}
use Rattle.std.proofs.lemmas.List.{take_all}
use Rattle.std.proofs.lemmas.Map.Entries.{lookup_from_place}
use Rattle.lru.specs.LruCache.{LruCache, lru_cache, promoted, put_entries, last_entry}
use Rattle.lru.proofs.CallerLemmas.{Contains-lookup_entry}
use Rattle.quilt_world.specs.Disk.{Pages}
use Rattle.quilt_pool.specs.declared.frame.Frame.{Frame}
use Rattle.quilt_pool.specs.Entries.{Entries, frame_at, page_over, bytes_or, has_dirt, is_dirty, is_marked, IsClean}

-- the last entry's frame is found at its page
pub last_found : (es : Entries) (p : ℕ) (f : Frame) → IsDistinct nat_eq (keys_of es) → last_entry es ≡ Some (p, f) → frame_at es p ≡ Some f
last_found es p f distinct last = lookup_from_place nat_eq_equiv es (length es - 1) p f distinct last

-- the last entry leaves, and no other
abbrev pub AtLeaving : Entries → Option (ℕ × Frame) → Entries → ℕ → Type 0
AtLeaving old last new i = (frame_at new i ≡ frame_at old i) ⊎ ((f : Frame) × (last ≡ Some (i, f)) × (frame_at old i ≡ Some f) × (frame_at new i ≡ None))

pair_at : (e : ℕ × Frame) (i : ℕ) → nat_eq i e.0 ≡ true → e ≡ (i, e.1)
pair_at e i t = ap (λ k. (k, e.1)) (sym (eqb-true i e.0 t))

left_at : (m : ℕ) (es : Entries) (i : ℕ) → length es ≡ suc m → AtLeaving es (slice_get es m) (take m es) i
left_at m [] i size = absurd (omega (arith, size))
left_at zero (e ∷ []) i size = elim (cases_Bool (nat_eq i e.0)) [
  | inl t ↦ inr (e.1, ap Some (pair_at e i t), rw t refl, refl)
  | inr f ↦ inl (rw f refl)
]
left_at zero (e ∷ d ∷ es) i size = absurd (omega (arith, size))
left_at (suc m) (e ∷ es) i size = elim (cases_Bool (nat_eq i e.0)) [
  | inl t ↦ inl (rw t refl)
  | inr f ↦ elim (left_at m es i (omega (arith, size))) [
    | inl same ↦ inl (rw (f, same) refl)
    | inr (g, last, was, is) ↦ inr (g, last, rw f was, rw f is)
  ]
]

-- an entry taken out and put first, maybe with another value
module _ {V : Type 0} where
  first_at : (k : ℕ) (es : List (ℕ × V)) (e : ℕ × V) (i : ℕ) → lookup_entry (nat_eq k) es ≡ Some e → nat_eq i k ≡ false
      → lookup (nat_eq i) (remove_entry (nat_eq k) es) ≡ lookup (nat_eq i) es
  first_at k [] e i h ne = cc
  first_at k (d ∷ es) e i h ne = elim (cases_Bool (nat_eq k d.0)) [
    | inl t ↦
        let other : nat_eq i d.0 ≡ false = subst (λ j. nat_eq i j ≡ false) (eqb-true k d.0 t) ne in
        rw (t, other) refl
    | inr f ↦
        let more : lookup_entry (nat_eq k) es ≡ Some e = rw f at h in
        let on = first_at k es e i more ne in
        rw (f, on) refl
  ]

  pub found_key : (k : ℕ) (es : List (ℕ × V)) (e : ℕ × V) → lookup_entry (nat_eq k) es ≡ Some e → e.0 ≡ k
  found_key k es e h = sym (eqb-true k e.0 (Contains-lookup_entry (nat_eq k) es e h).1)

  pub found_value : (k : ℕ) (es : List (ℕ × V)) (e : ℕ × V) → lookup_entry (nat_eq k) es ≡ Some e → lookup (nat_eq k) es ≡ Some e.1
  found_value k [] e h = cc
  found_value k (d ∷ es) e h = elim (cases_Bool (nat_eq k d.0)) [
    | inl t ↦ let h' : Some d ≡ Some e = rw t at h in rw t (ap (option_map (λ (x : ℕ × V). x.1)) h')
    | inr f ↦ rw f (found_value k es e (rw f at h))
  ]

  pub not_found : (k : ℕ) (es : List (ℕ × V)) → lookup_entry (nat_eq k) es ≡ None → lookup (nat_eq k) es ≡ None
  not_found k [] h = refl
  not_found k (d ∷ es) h = elim (cases_Bool (nat_eq k d.0)) [
    | inl t ↦ let h' : Some d ≡ None = rw t at h in absurd cc
    | inr f ↦ rw f (not_found k es (rw f at h))
  ]

  -- ---- promoted

  promoted_from : (k : ℕ) (es : List (ℕ × V)) (i : ℕ) (o : Option (ℕ × V)) → lookup_entry (nat_eq k) es ≡ o
      → lookup (nat_eq i) (option_map_or (λ e. e ∷ remove_entry (nat_eq k) es) o es) ≡ lookup (nat_eq i) es
  promoted_from k es i None h = refl
  promoted_from k es i (Some e) h = elim (cases_Bool (nat_eq i e.0)) [
    | inl t ↦
        let same : i ≡ k = eqb-true i e.0 t ∙ found_key k es e h in
        rw t (sym (subst (λ j. lookup (nat_eq j) es ≡ Some e.1) (sym same) (found_value k es e h)))
    | inr f ↦ rw f (first_at k es e i h (subst (λ j. nat_eq i j ≡ false) (found_key k es e h) f))
  ]

  pub promoted_at : (k : ℕ) (es : List (ℕ × V)) (i : ℕ) → lookup (nat_eq i) (promoted (nat_eq k) es) ≡ lookup (nat_eq i) es
  promoted_at k es i = promoted_from k es i (lookup_entry (nat_eq k) es) refl

  -- a page that is not there comes to no front
  unmoved : (k : ℕ) (es : List (ℕ × V)) (o : Option (ℕ × V)) → lookup_entry (nat_eq k) es ≡ o → lookup (nat_eq k) es ≡ None
      → option_map_or (λ e. e ∷ remove_entry (nat_eq k) es) o es ≡ es
  unmoved k es None h none = refl
  unmoved k es (Some e) h none = let both : None ≡ Some e.1 = sym none ∙ found_value k es e h in absurd cc

  pub promoted_none : (k : ℕ) (es : List (ℕ × V)) → lookup (nat_eq k) es ≡ None → promoted (nat_eq k) es ≡ es
  promoted_none k es none = unmoved k es (lookup_entry (nat_eq k) es) refl none

  -- a page that is not there is put before those that stay
  put_before : (c : LruCache ℕ V) (k : ℕ) (v : V) (o : Option (ℕ × V)) → lookup_entry (nat_eq k) c.entries ≡ o → lookup (nat_eq k) c.entries ≡ None
      → option_map_or (λ e. (e.0, v) ∷ remove_entry (nat_eq k) c.entries) o ((k, v) ∷ take (c.cap - 1) c.entries) ≡ (k, v) ∷ take (c.cap - 1) c.entries
  put_before c k v None h none = refl
  put_before c k v (Some e) h none = let both : None ≡ Some e.1 = sym none ∙ found_value k c.entries e h in absurd cc

  pub put_lost : (c : LruCache ℕ V) (k : ℕ) (v : V) → lookup (nat_eq k) c.entries ≡ None
      → put_entries nat_eq c k v ≡ (k, v) ∷ take (c.cap - 1) c.entries
  put_lost c k v none = put_before c k v (lookup_entry (nat_eq k) c.entries) refl none

-- ---- put

-- the page k has the frame, and each other page is as it was, but that the last entry of a full table may leave
abbrev pub AtPut : LruCache ℕ Frame → Entries → ℕ → Frame → ℕ → Type 0
AtPut c new k v i =
    ((i ≡ k) × (frame_at new i ≡ Some v))
    ⊎ ((i ≢ k) × ((frame_at new i ≡ frame_at c.entries i)
    ⊎ ((frame_at c.entries k ≡ None) × (length c.entries ≡ c.cap)
    × ((f : Frame) × (last_entry c.entries ≡ Some (i, f)) × (frame_at c.entries i ≡ Some f) × (frame_at new i ≡ None)))))

taken_at : (c : LruCache ℕ Frame) (i m : ℕ) → c.cap ≡ suc m → length c.entries ≤ c.cap
    → (frame_at (take (c.cap - 1) c.entries) i ≡ frame_at c.entries i)
    ⊎ ((length c.entries ≡ c.cap)
    × ((f : Frame) × (last_entry c.entries ≡ Some (i, f)) × (frame_at c.entries i ≡ Some f) × (frame_at (take (c.cap - 1) c.entries) i ≡ None)))
taken_at c i m cap fits =
    let less : c.cap - 1 ≡ m = omega (arith, cap) in
    elim (cases_lt m (length c.entries)) [
      | inl lt ↦
          let full : length c.entries ≡ c.cap = omega (arith, lt, cap, fits) in
          let at : length c.entries - 1 ≡ m = omega (arith, full, cap) in
          rw (less, at) (elim (left_at m c.entries i (full ∙ cap)) [
            | inl same ↦ inl same
            | inr more ↦ inr (full, more)
          ])
      | inr le ↦ inl (rw less (ap (λ (l : Entries). frame_at l i) (take_all m c.entries le)))
    ]

put_from : (c : LruCache ℕ Frame) (k : ℕ) (v : Frame) (i m : ℕ) (o : Option (ℕ × Frame)) → c.cap ≡ suc m → length c.entries ≤ c.cap
    → lookup_entry (nat_eq k) c.entries ≡ o
    → AtPut c (option_map_or (λ e. (e.0, v) ∷ remove_entry (nat_eq k) c.entries) o ((k, v) ∷ take (c.cap - 1) c.entries)) k v i
put_from c k v i m None cap fits h = elim (cases_Bool (nat_eq i k)) [
  | inl t ↦ inl (eqb-true i k t, rw t refl)
  | inr f ↦ inr (
    eqb-false i k f,
    rw f (elim (taken_at c i m cap fits) [
      | inl same ↦ inl same
      | inr (full, more) ↦ inr (not_found k c.entries h, full, more)
    ]),
  )
]
put_from c k v i m (Some e) cap fits h = elim (cases_Bool (nat_eq i e.0)) [
  | inl t ↦ inl (eqb-true i e.0 t ∙ found_key k c.entries e h, rw t refl)
  | inr f ↦
      let ne : nat_eq i k ≡ false = subst (λ j. nat_eq i j ≡ false) (found_key k c.entries e h) f in
      inr (eqb-false i k ne, inl (rw f (first_at k c.entries e i h ne)))
]

pub put_at : (c : LruCache ℕ Frame) (k : ℕ) (v : Frame) (i : ℕ) → 0 < c.cap → length c.entries ≤ c.cap → AtPut c (put_entries nat_eq c k v) k v i
put_at c k v i some fits = put_from c k v i (c.cap - 1) (lookup_entry (nat_eq k) c.entries) (omega (arith, some)) fits refl

-- a frame brought to the front and written in place is one that was put
none_found : (k : ℕ) (es : Entries) (f : Frame) → frame_at es k ≡ Some f → lookup_entry (nat_eq k) es ≡ None → ⊥
none_found k es f is h = let gone : None ≡ Some f = sym (not_found k es h) ∙ is in cc

written_from : (c : LruCache ℕ Frame) (k : ℕ) (v f : Frame) (o : Option (ℕ × Frame)) → frame_at c.entries k ≡ Some f → lookup_entry (nat_eq k) c.entries ≡ o
    → set_value (nat_eq k) (option_map_or (λ e. e ∷ remove_entry (nat_eq k) c.entries) o c.entries) v
    ≡ option_map_or (λ e. (e.0, v) ∷ remove_entry (nat_eq k) c.entries) o ((k, v) ∷ take (c.cap - 1) c.entries)
written_from c k v f None is h = absurd (none_found k c.entries f is h)
written_from c k v f (Some e) is h =
    ap (λ b. cond b ((e.0, v) ∷ remove_entry (nat_eq k) c.entries) (e ∷ set_value (nat_eq k) (remove_entry (nat_eq k) c.entries) v))
    (Contains-lookup_entry (nat_eq k) c.entries e h).1

pub written_first : (c : LruCache ℕ Frame) (k : ℕ) (v f : Frame) → frame_at c.entries k ≡ Some f
    → lru_cache (set_value (nat_eq k) (promoted (nat_eq k) c.entries) v) c.cap ≡ lru_cache (put_entries nat_eq c k v) c.cap
written_first c k v f is = ap (λ (es : Entries). lru_cache es c.cap) (written_from c k v f (lookup_entry (nat_eq k) c.entries) is refl)

-- ---- the pages that the pool lies over

pub over_at : (old new : Entries) (pages : Pages) (i : ℕ) → frame_at new i ≡ frame_at old i → page_over new pages i ≡ page_over old pages i
over_at old new pages i same = ap (bytes_or (get_or pages i [])) same

module _ (es : Entries) (p : ℕ) (f : Frame) (at : frame_at es p ≡ Some f) where
  pub over_set : (pages : Pages) (x : List ℕ) (i : ℕ) → page_over es (set pages p x) i ≡ page_over es pages i
  over_set pages x i = elim (cases_eq i p) [
    | inl same ↦
        let here : frame_at es i ≡ Some f = subst (λ j. frame_at es j ≡ Some f) (sym same) at in
        ap (bytes_or (get_or (set pages p x) i [])) here ∙ sym (ap (bytes_or (get_or pages i [])) here)
    | inr ne ↦ ap (λ b. bytes_or b (frame_at es i)) (get_or-set_other pages p i x [] ne)
  ]

  module _ (dirty : f.is_dirty ≡ true) where
    pub clean_set : (pages : Pages) (x : List ℕ) → IsClean es pages → IsClean es (set pages p x)
    clean_set pages x clean = record {
      each = λ i g is none. elim (cases_eq i p) [
        | inl same ↦
            let here : Some f ≡ Some g = sym at ∙ subst (λ j. frame_at es j ≡ Some g) same is in
            let both : f.is_dirty ≡ g.is_dirty = ap has_dirt here in
            absurd (false≢true (sym none ∙ sym both ∙ dirty))
        | inr ne ↦ clean.each i g is none ∙ sym (get_or-set_other pages p i x [] ne)
      ];
    }

    pub marked_set : (changed : List Bool) (b : Bool) (i : ℕ) → is_marked es (set changed p b) i ≡ is_marked es changed i
    marked_set changed b i = elim (cases_eq i p) [
      | inl same ↦
          let here : is_dirty es i ≡ true = ap has_dirt (subst (λ j. frame_at es j ≡ Some f) (sym same) at) ∙ dirty in
          rw here refl
      | inr ne ↦ ap (λ c. is_dirty es i || c) (get_or-set_other changed p i b false ne)
    ]
