-- Entries whose frames lie at places.
use Rattle.std.proofs.Common.{◌≡◌, ◌≢◌, inl, inr, ℕ, ◌-◌, ◌≤◌, false, nat_eq, [], ◌∷◌, Option, Some, None, IsSome, length, take, slice_get, refl, sym, ◌∙◌, ap, subst, arith, option_map}
use Rattle.std.specs.List.{IsDistinct}
use Rattle.std.specs.Map.{keys_of, lookup, lookup_entry, remove_entry, set_value}
use Rattle.std.specs.Option.{option_map_or, is_some}
use Rattle.std.proofs.lemmas.Bool.{cases_Bool, cases_eq}
use Rattle.std.proofs.lemmas.List.{length-map, take-map}
use Rattle.std.proofs.lemmas.Option.{slice_get-map}
use Rattle.lru.specs.LruCache.{LruCache, IsValid, lru_cache, promoted, put_entries, last_entry}
use Rattle.quilt_pool.specs.declared.frame.Frame.{Frame}
use Rattle.quilt_pool.specs.Entries.{Entries, frame_at}
use Rattle.quilt_pool.specs.Frames.{Places, framed, holders}
use Rattle.quilt_pool.proofs.Looks.{promoted_at, put_lost, written_first}
use Rattle.quilt_pool.proofs.Sharing.{hit_here, hit_other, held_place, holders_promoted}

-- ---- frames that stay

module _ (f : ℕ → Frame) where
  pub framed_keys : (es : Places) → keys_of (framed f es) ≡ keys_of es
  framed_keys [] = refl
  framed_keys (e ∷ es) = ap (λ l. e.0 ∷ l) (framed_keys es)

  pub framed_at : (k : ℕ) (es : Places) → frame_at (framed f es) k ≡ option_map f (lookup (nat_eq k) es)
  framed_at k [] = refl
  framed_at k (e ∷ es) = elim (cases_Bool (nat_eq k e.0)) [
    | inl t ↦ rw t refl
    | inr n ↦ rw n (framed_at k es)
  ]

  entry_at : (k : ℕ) (es : Places) → lookup_entry (nat_eq k) (framed f es) ≡ option_map (λ e. (e.0, f e.1)) (lookup_entry (nat_eq k) es)
  entry_at k [] = refl
  entry_at k (e ∷ es) = elim (cases_Bool (nat_eq k e.0)) [
    | inl t ↦ rw t refl
    | inr n ↦ rw n (entry_at k es)
  ]

  pub framed_removed : (k : ℕ) (es : Places) → framed f (remove_entry (nat_eq k) es) ≡ remove_entry (nat_eq k) (framed f es)
  framed_removed k [] = refl
  framed_removed k (e ∷ es) = elim (cases_Bool (nat_eq k e.0)) [
    | inl t ↦ rw t refl
    | inr n ↦ rw n (ap (λ (l : Entries). (e.0, f e.1) ∷ l) (framed_removed k es))
  ]

  moved : (k : ℕ) (es : Places) (o : Option (ℕ × ℕ))
      → framed f (option_map_or (λ e. e ∷ remove_entry (nat_eq k) es) o es)
      ≡ option_map_or (λ e. e ∷ remove_entry (nat_eq k) (framed f es)) (option_map (λ e. (e.0, f e.1)) o) (framed f es)
  moved k es None = refl
  moved k es (Some e) = ap (λ (l : Entries). (e.0, f e.1) ∷ l) (framed_removed k es)

  pub framed_promoted : (k : ℕ) (es : Places) → framed f (promoted (nat_eq k) es) ≡ promoted (nat_eq k) (framed f es)
  framed_promoted k es =
      moved k es (lookup_entry (nat_eq k) es)
      ∙ ap (λ o. option_map_or (λ e. e ∷ remove_entry (nat_eq k) (framed f es)) o (framed f es)) (sym (entry_at k es))

  pub framed_length : (es : Places) → length (framed f es) ≡ length es
  framed_length es = length-map es (λ e. (e.0, f e.1))

  pub framed_last : (es : Places) → last_entry (framed f es) ≡ option_map (λ e. (e.0, f e.1)) (last_entry es)
  framed_last es =
      ap (λ n. slice_get (framed f es) (n - 1)) (framed_length es) ∙ slice_get-map (λ e. (e.0, f e.1)) es (length es - 1)

  pub framed_valid : (c : LruCache ℕ ℕ) → IsValid nat_eq c → IsValid nat_eq (lru_cache (framed f c.entries) c.cap)
  framed_valid c valid = (
    subst (IsDistinct nat_eq) (sym (framed_keys c.entries)) valid.0,
    subst (λ n. n ≤ c.cap) (sym (framed_length c.entries)) valid.1,
    valid.2,
  )

none_of : {A B : Type 0} (g : A → B) (o : Option A) → option_map g o ≡ None → o ≡ None
none_of g None is = refl
none_of g (Some a) is = absurd cc

-- a page that is not there has no place
pub no_place : (f : ℕ → Frame) (k : ℕ) (es : Places) → frame_at (framed f es) k ≡ None → lookup (nat_eq k) es ≡ None
no_place f k es none = none_of f (lookup (nat_eq k) es) (sym (framed_at f k es) ∙ none)

some_of : {A B : Type 0} (g : A → B) (o : Option A) → IsSome (option_map g o) → IsSome o
some_of g None is = is
some_of g (Some a) is = refl

pub same_some : {A B : Type 0} (g : A → B) (o : Option A) → is_some (option_map g o) ≡ is_some o
same_some g None = refl
same_some g (Some a) = refl

pub there_same : (f : ℕ → Frame) (k : ℕ) (es : Places) → is_some (frame_at (framed f es) k) ≡ is_some (lookup (nat_eq k) es)
there_same f k es = ap is_some (framed_at f k es) ∙ same_some f (lookup (nat_eq k) es)

pub none_from : {A : Type 0} (o : Option A) → is_some o ≡ false → o ≡ None
none_from None is = refl
none_from (Some a) is = absurd cc

-- a page that is there has one
pub some_place : (f : ℕ → Frame) (k : ℕ) (es : Places) → IsSome (frame_at (framed f es) k) → IsSome (lookup (nat_eq k) es)
some_place f k es there = some_of f (lookup (nat_eq k) es) (sym (ap is_some (framed_at f k es)) ∙ there)

-- the frame of a page at its place
pub frame_there : (f : ℕ → Frame) (k at : ℕ) (es : Places) → lookup (nat_eq k) es ≡ Some at → frame_at (framed f es) k ≡ Some (f at)
frame_there f k at es is = framed_at f k es ∙ ap (option_map f) is

-- ---- one frame that changes

module _ (f g : ℕ → Frame) (at : ℕ) (others : (p : ℕ) → p ≢ at → g p ≡ f p) where
  pub framed_apart : (es : Places) → holders at es ≡ 0 → framed g es ≡ framed f es
  framed_apart [] none = refl
  framed_apart (e ∷ es) none = elim (cases_eq at e.1) [
    | inl same ↦ absurd (omega (arith, none, hit_here at e.1 same))
    | inr ne ↦
        let rest = framed_apart es (omega (arith, none, hit_other at e.1 ne)) in
        rw (others e.1 (λ s. ne (sym s)), rest) refl
  ]

  module _ (v : Frame) (here : g at ≡ v) where
    -- it is that of the page
    pub framed_set : (k : ℕ) (es : Places) → lookup (nat_eq k) es ≡ Some at → holders at es ≤ 1
        → framed g es ≡ set_value (nat_eq k) (framed f es) v
    framed_set k [] is once = absurd cc
    framed_set k (e ∷ es) is once = elim (cases_Bool (nat_eq k e.0)) [
      | inl t ↦
          let found : Some e.1 ≡ Some at = rw t at is in
          let same : e.1 ≡ at = cc in
          let rest = framed_apart es (omega (arith, once, hit_here at e.1 (sym same))) in
          rw t (ap (λ (l : Entries). (e.0, g e.1) ∷ l) rest ∙ ap (λ (x : Frame). (e.0, x) ∷ framed f es) (ap g same ∙ here))
      | inr n ↦
          let found : lookup (nat_eq k) es ≡ Some at = rw n at is in
          let some = held_place k at es found in
          elim (cases_eq at e.1) [
            | inl same ↦ absurd (omega (arith, once, some, hit_here at e.1 same))
            | inr ne ↦
                let rest = framed_set k es found (omega (arith, once, hit_other at e.1 ne)) in
                rw n (ap (λ (l : Entries). (e.0, g e.1) ∷ l) rest
                ∙ ap (λ (x : Frame). (e.0, x) ∷ set_value (nat_eq k) (framed f es) v) (others e.1 (λ s. ne (sym s))))
          ]
    ]

    -- it is that of a page that came to the front
    pub framed_written : (k cap : ℕ) (es : Places) → lookup (nat_eq k) es ≡ Some at → holders at es ≤ 1
        → lru_cache (framed g (promoted (nat_eq k) es)) cap ≡ lru_cache (put_entries nat_eq (lru_cache (framed f es) cap) k v) cap
    framed_written k cap es is once =
        let moved_to : lookup (nat_eq k) (promoted (nat_eq k) es) ≡ Some at = promoted_at k es k ∙ is in
        let held : holders at (promoted (nat_eq k) es) ≤ 1 = subst (λ n. n ≤ 1) (sym (holders_promoted k es at)) once in
        ap (λ (l : Entries). lru_cache l cap)
        (framed_set k (promoted (nat_eq k) es) moved_to held ∙ ap (λ (l : Entries). set_value (nat_eq k) l v) (framed_promoted f k es))
        ∙ written_first (lru_cache (framed f es) cap) k v (f at) (frame_there f k at es is)

    -- it is that of a page that came in
    pub framed_entered : (k cap : ℕ) (es : Places) → frame_at (framed f es) k ≡ None → holders at (take (cap - 1) es) ≡ 0
        → lru_cache (framed g ((k, at) ∷ take (cap - 1) es)) cap ≡ lru_cache (put_entries nat_eq (lru_cache (framed f es) cap) k v) cap
    framed_entered k cap es lost none = ap (λ (l : Entries). lru_cache l cap) (
        ap (λ (l : Entries). (k, g at) ∷ l) (framed_apart (take (cap - 1) es) none ∙ sym (take-map (λ (e : ℕ × ℕ). (e.0, f e.1)) (cap - 1) es))
        ∙ ap (λ (x : Frame). (k, x) ∷ take (cap - 1) (framed f es)) here
        ∙ sym (put_lost (lru_cache (framed f es) cap) k v lost)
        )
