-- A table as it is seen, after each step of its fields.
use Rattle.std.proofs.Common.{◌≡◌, ◌≢◌, ℕ, ◌-◌, ◌<◌, ◌≤◌, Bool, false, nat_eq, List, [], ◌∷◌, ◌++◌, cond, Result, Ok, Err, IsOk, Option, Some, None, IsSome, length, take, set, get_or, sym, ◌∙◌, ap, subst, option_map, get_or-set_same, get_or-set_other}
use Rattle.std.specs.List.{IsDistinct}
use Rattle.std.specs.Map.{lookup, remove_entry, set_value}
use Rattle.std.specs.Result.{is_ok}
use Rattle.std.proofs.lemmas.List.{get_or_default}
use Rattle.lru.specs.LruCache.{LruCache, lru_cache, promoted, put_entries, last_entry}
use Rattle.quilt_pool.specs.declared.frame.Frame.{Frame}
use Rattle.quilt_pool.specs.Entries.{Entries, frame_at}
use Rattle.quilt_pool.specs.Frames.{Places, frame_in, framed, holders}
use Rattle.quilt_pool.proofs.Framing.{some_place, no_place, framed_at, framed_promoted, framed_removed, framed_last, framed_set, framed_written, framed_entered}

-- ---- one frame of the list

abbrev pub framed_as : List ℕ → Bool → Frame
framed_as b d = record { bytes = b; is_dirty = d }

pub frame_of : (bytes : List (List ℕ)) (dirty : List Bool) (at : ℕ) (b : List ℕ) (d : Bool) → at < length bytes → length dirty ≡ length bytes
    → b ≡ get_or bytes at b → d ≡ get_or dirty at d → record { bytes = b; is_dirty = d } ≡ frame_in bytes dirty at
frame_of bytes dirty at b d within same here dirt =
    ap (λ x. record { bytes = x; is_dirty = d }) (here ∙ get_or_default bytes at b [] within)
    ∙ ap (λ x. record { bytes = get_or bytes at []; is_dirty = x })
    (dirt ∙ get_or_default dirty at d false (subst (λ n. at < n) (sym same) within))

pub bytes_of : (bytes : List (List ℕ)) (at : ℕ) (b : List ℕ) → at < length bytes → b ≡ get_or bytes at b → b ≡ get_or bytes at []
bytes_of bytes at b within here = here ∙ get_or_default bytes at b [] within

module _ (bytes : List (List ℕ)) (dirty : List Bool) (at : ℕ) where
  pub bytes_here : (w : List ℕ) → at < length bytes → frame_in (set bytes at w) dirty at ≡ record { bytes = w; is_dirty = get_or dirty at false }
  bytes_here w within = ap (λ x. record { bytes = x; is_dirty = get_or dirty at false }) (get_or-set_same bytes at w [] within)

  pub bytes_others : (w : List ℕ) (p : ℕ) → p ≢ at → frame_in (set bytes at w) dirty p ≡ frame_in bytes dirty p
  bytes_others w p ne = ap (λ x. record { bytes = x; is_dirty = get_or dirty p false }) (get_or-set_other bytes at p w [] ne)

  pub dirt_here : (d : Bool) → at < length dirty → frame_in bytes (set dirty at d) at ≡ record { bytes = get_or bytes at []; is_dirty = d }
  dirt_here d within = ap (λ x. record { bytes = get_or bytes at []; is_dirty = x }) (get_or-set_same dirty at d false within)

  pub dirt_others : (d : Bool) (p : ℕ) → p ≢ at → frame_in bytes (set dirty at d) p ≡ frame_in bytes dirty p
  dirt_others d p ne = ap (λ x. record { bytes = get_or bytes p []; is_dirty = x }) (get_or-set_other dirty at p d false ne)

pub pushed : {E : Type 0} (r : Result (Unit {0}) E) (old new : List ℕ) (x : ℕ) → IsOk r → new ≡ cond (is_ok r) (old ++ x ∷ []) old → new ≡ old ++ x ∷ []
pushed (Ok u) old new x ok is = is
pushed (Err e) old new x ok is = absurd cc

-- ---- the table

pub none_distinct : IsDistinct nat_eq []
unfolding IsDistinct
none_distinct = tt

module _ (es : Places) (f : ℕ → Frame) (cap : ℕ) (v : LruCache ℕ Frame) (view : lru_cache (framed f es) cap ≡ v) where
  pub there_place : (k : ℕ) → IsSome (frame_at v.entries k) → IsSome (lookup (nat_eq k) es)
  there_place k there = some_place f k es (subst (λ (x : LruCache ℕ Frame). IsSome (frame_at x.entries k)) (sym view) there)

  pub lost_place : (k : ℕ) → frame_at v.entries k ≡ None → lookup (nat_eq k) es ≡ None
  lost_place k lost = no_place f k es (subst (λ (x : LruCache ℕ Frame). frame_at x.entries k ≡ None) (sym view) lost)

  pub seen_at : (k : ℕ) (o : Option ℕ) → lookup (nat_eq k) es ≡ o → frame_at v.entries k ≡ option_map f o
  seen_at k o is = subst (λ (x : LruCache ℕ Frame). frame_at x.entries k ≡ option_map f o) view (framed_at f k es ∙ ap (option_map f) is)

  pub seen_last : (o : Option (ℕ × ℕ)) → last_entry es ≡ o → last_entry v.entries ≡ option_map (λ e. (e.0, f e.1)) o
  seen_last o is =
      subst (λ (x : LruCache ℕ Frame). last_entry x.entries ≡ option_map (λ e. (e.0, f e.1)) o) view
      (framed_last f es ∙ ap (option_map (λ e. (e.0, f e.1))) is)

  pub seen_promoted : (k : ℕ) → lru_cache (framed f (promoted (nat_eq k) es)) cap ≡ lru_cache (promoted (nat_eq k) v.entries) v.cap
  seen_promoted k =
      subst (λ (x : LruCache ℕ Frame). lru_cache (framed f (promoted (nat_eq k) es)) cap ≡ lru_cache (promoted (nat_eq k) x.entries) x.cap) view
      (ap (λ (l : Entries). lru_cache l cap) (framed_promoted f k es))

  pub seen_removed : (k : ℕ) → lru_cache (framed f (remove_entry (nat_eq k) es)) cap ≡ lru_cache (remove_entry (nat_eq k) v.entries) v.cap
  seen_removed k =
      subst (λ (x : LruCache ℕ Frame). lru_cache (framed f (remove_entry (nat_eq k) es)) cap ≡ lru_cache (remove_entry (nat_eq k) x.entries) x.cap)
      view (ap (λ (l : Entries). lru_cache l cap) (framed_removed f k es))

  module _ (g : ℕ → Frame) (at : ℕ) (others : (p : ℕ) → p ≢ at → g p ≡ f p) (w : Frame) (here : g at ≡ w) (k : ℕ) where
    pub seen_set : lookup (nat_eq k) es ≡ Some at → holders at es ≤ 1
        → lru_cache (framed g es) cap ≡ lru_cache (set_value (nat_eq k) v.entries w) v.cap
    seen_set is once =
        subst (λ (x : LruCache ℕ Frame). lru_cache (framed g es) cap ≡ lru_cache (set_value (nat_eq k) x.entries w) x.cap) view
        (ap (λ (l : Entries). lru_cache l cap) (framed_set f g at others w here k es is once))

    pub seen_written : lookup (nat_eq k) es ≡ Some at → holders at es ≤ 1
        → lru_cache (framed g (promoted (nat_eq k) es)) cap ≡ lru_cache (put_entries nat_eq v k w) v.cap
    seen_written is once =
        subst (λ (x : LruCache ℕ Frame). lru_cache (framed g (promoted (nat_eq k) es)) cap ≡ lru_cache (put_entries nat_eq x k w) x.cap) view
        (framed_written f g at others w here k cap es is once)

    pub seen_entered : lookup (nat_eq k) es ≡ None → holders at (take (cap - 1) es) ≡ 0
        → lru_cache (framed g ((k, at) ∷ take (cap - 1) es)) cap ≡ lru_cache (put_entries nat_eq v k w) v.cap
    seen_entered lost none =
        subst (λ (x : LruCache ℕ Frame). lru_cache (framed g ((k, at) ∷ take (cap - 1) es)) cap ≡ lru_cache (put_entries nat_eq x k w) x.cap) view
        (framed_entered f g at others w here k cap es (framed_at f k es ∙ ap (option_map f) lost) none)
