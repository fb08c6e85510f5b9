-- Which pages are dirty after each step of the table.
use Rattle.std.proofs.Common.{◌≡◌, ◌⊎◌, inl, inr, ℕ, ◌<◌, ◌≤◌, Bool, true, false, cond, nat_eq, List, Option, Some, None, IsSome, Result, Ok, Err, OnOk, OnErr, length, subst, refl, sym, ◌∙◌, ap}
use Rattle.std.specs.Cmp.{nat_eq_equiv}
use Rattle.std.specs.List.{IsDistinct}
use Rattle.std.specs.Map.{keys_of, remove_entry, set_value}
use Rattle.std.proofs.lemmas.Bool.{cases_Bool, cases_eq, false≢true, eq-eqb, ne_eqb}
use Rattle.std.proofs.lemmas.Map.{lookup-remove_entry, lookup-set_value}
use Rattle.lru.specs.LruCache.{LruCache, lru_cache, promoted, put_entries}
use Rattle.quilt_journal.specs.Changed.{has_bit}
use Rattle.quilt_store.specs.declared.store.StoreErr.{StoreErr}
use Rattle.quilt_pool.specs.declared.frame.Frame.{Frame}
use Rattle.quilt_pool.specs.Entries.{Entries, frame_at, has_dirt, is_dirty}
use Rattle.quilt_pool.proofs.Draining.{eqb-same}
use Rattle.quilt_pool.proofs.Looks.{promoted_at, put_at}

pub dirt_promoted : (k : ℕ) (es : Entries) (i : ℕ) → is_dirty (promoted (nat_eq k) es) i ≡ true → is_dirty es i ≡ true
dirt_promoted k es i d = sym (ap has_dirt (promoted_at k es i)) ∙ d

pub dirt_put : (c : LruCache ℕ Frame) (k : ℕ) (v : Frame) (i : ℕ) → 0 < c.cap → length c.entries ≤ c.cap → is_dirty (put_entries nat_eq c k v) i ≡ true
    → ((i ≡ k) × (v.is_dirty ≡ true)) ⊎ (is_dirty c.entries i ≡ true)
dirt_put c k v i some fits d = elim (put_at c k v i some fits) [
  | inl (same, here) ↦ inl (same, sym (ap has_dirt here) ∙ d)
  | inr (ne, inl same) ↦ inr (sym (ap has_dirt same) ∙ d)
  | inr (ne, inr (lost, full, (f, last, was, gone))) ↦ absurd (false≢true (sym (ap has_dirt gone) ∙ d))
]

pub dirt_clean_put : (c : LruCache ℕ Frame) (k : ℕ) (x : List ℕ) (i : ℕ) → 0 < c.cap → length c.entries ≤ c.cap
    → is_dirty (put_entries nat_eq c k (record { bytes = x; is_dirty = false })) i ≡ true → is_dirty c.entries i ≡ true
dirt_clean_put c k x i some fits d = elim (dirt_put c k (record { bytes = x; is_dirty = false }) i some fits d) [
  | inl (same, never) ↦ absurd (false≢true never)
  | inr old ↦ old
]

dirt_none : (b : Bool) (o : Option Frame) → has_dirt (cond b None o) ≡ true → has_dirt o ≡ true
dirt_none true o d = absurd (false≢true d)
dirt_none false o d = d

pub dirt_removed : (k : ℕ) (es : Entries) (i : ℕ) → IsDistinct nat_eq (keys_of es) → is_dirty (remove_entry (nat_eq k) es) i ≡ true → is_dirty es i ≡ true
dirt_removed k es i distinct d = dirt_none (nat_eq k i) (frame_at es i) (sym (ap has_dirt (lookup-remove_entry nat_eq_equiv (nat_eq k) (eqb-same k) i es distinct)) ∙ d)

pub dirt_after : (r : Result (Unit {0}) StoreErr) (t u : LruCache ℕ Frame) (k : ℕ) (x : List ℕ) (i : ℕ) → 0 < t.cap → length t.entries ≤ t.cap
    → OnOk r (u ≡ lru_cache (put_entries nat_eq t k (record { bytes = x; is_dirty = false })) t.cap) → OnErr r (u ≡ t)
    → is_dirty u.entries i ≡ true → is_dirty t.entries i ≡ true
dirt_after (Ok v) t u k x i some fits put same d = dirt_clean_put t k x i some fits (subst (λ (y : LruCache ℕ Frame). is_dirty y.entries i ≡ true) put d)
dirt_after (Err e) t u k x i some fits put same d = subst (λ (y : LruCache ℕ Frame). is_dirty y.entries i ≡ true) same d

-- ---- the bits, with one more

module _ (old new : List ℕ) (k : ℕ) (each : (j : ℕ) → has_bit new j ≡ cond (nat_eq j k) true (has_bit old j)) where
  bit_left : (i : ℕ) → has_bit old i ≡ true → has_bit new i ≡ true
  bit_left i is = elim (cases_eq i k) [
    | inl same ↦ each i ∙ ap (λ b. cond b true (has_bit old i)) (eq-eqb i k same)
    | inr ne ↦ each i ∙ ap (λ b. cond b true (has_bit old i)) (ne_eqb i k ne) ∙ is
  ]

  bit_here : (i : ℕ) → i ≡ k → has_bit new i ≡ true
  bit_here i same = each i ∙ ap (λ b. cond b true (has_bit old i)) (eq-eqb i k same)

  -- the page that comes in dirty has its bit
  pub listed_after : (r : Result (Unit {0}) StoreErr) (t u : LruCache ℕ Frame) (x : List ℕ) (i : ℕ) → 0 < t.cap → length t.entries ≤ t.cap
      → ((j : ℕ) → is_dirty t.entries j ≡ true → has_bit old j ≡ true)
      → OnOk r (u ≡ lru_cache (put_entries nat_eq t k (record { bytes = x; is_dirty = true })) t.cap) → OnErr r (u ≡ t)
      → is_dirty u.entries i ≡ true → has_bit new i ≡ true
  listed_after (Ok v) t u x i some fits listed put same d =
      elim (dirt_put t k (record { bytes = x; is_dirty = true }) i some fits (subst (λ (y : LruCache ℕ Frame). is_dirty y.entries i ≡ true) put d)) [
        | inl (here, is) ↦ bit_here i here
        | inr was ↦ bit_left i (listed i was)
      ]
  listed_after (Err e) t u x i some fits listed put same d =
      bit_left i (listed i (subst (λ (y : LruCache ℕ Frame). is_dirty y.entries i ≡ true) same d))

  -- the page that was marked is dirty now
  pub listed_marked : (t : LruCache ℕ Frame) (v : Frame) (i : ℕ) → IsSome (frame_at t.entries k)
      → ((j : ℕ) → is_dirty t.entries j ≡ true → has_bit old j ≡ true) → is_dirty (set_value (nat_eq k) t.entries v) i ≡ true → has_bit new i ≡ true
  listed_marked t v i there listed d = elim (cases_eq i k) [
    | inl same ↦ bit_here i same
    | inr ne ↦
        let at : frame_at (set_value (nat_eq k) t.entries v) i ≡ cond (nat_eq k i) (Some v) (frame_at t.entries i) =
        lookup-set_value nat_eq_equiv (nat_eq k) (eqb-same k) i v t.entries there in
        let was : frame_at (set_value (nat_eq k) t.entries v) i ≡ frame_at t.entries i =
        at ∙ ap (λ b. cond b (Some v) (frame_at t.entries i)) (ne_eqb k i (λ e. ne (sym e))) in
        bit_left i (listed i (sym (ap has_dirt was) ∙ d))
  ]

pub some_frame : (o : Option Frame) → IsSome o → (f : Frame) × (o ≡ Some f)
some_frame None there = absurd (false≢true there)
some_frame (Some f) there = (f, refl)

-- a page with no bit is not dirty
pub not_listed : (es : Entries) (bits : List ℕ) (i : ℕ) → ((j : ℕ) → is_dirty es j ≡ true → has_bit bits j ≡ true) → has_bit bits i ≡ false → is_dirty es i ≡ false
not_listed es bits i listed none = elim (cases_Bool (is_dirty es i)) [
  | inl t ↦ absurd (false≢true (sym none ∙ listed i t))
  | inr f ↦ f
]
