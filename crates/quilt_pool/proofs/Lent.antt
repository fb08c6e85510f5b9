-- What a page has that was brought in, and what the entries are once its bytes are changed where they lie.
use Rattle.std.proofs.Common.{◌≡◌, ◌≢◌, ◌||◌, inl, inr, ℕ, ◌<◌, ◌≤◌, Bool, true, false, cond, nat_eq, List, [], ◌∷◌, Option, Some, None, IsSome, length, get_or, refl, sym, ◌∙◌, ap, subst, unwrap_or}
use Rattle.std.specs.Option.{IfSome, is_some}
use Rattle.std.specs.Cmp.{nat_eq_equiv}
use Rattle.std.specs.Map.{keys_of, set_value}
use Rattle.std.proofs.lemmas.Bool.{cases_Bool, cases_eq, false≢true, eq-eqb, ne_eqb}
use Rattle.std.proofs.lemmas.Map.{lookup-set_value, keys-set_value}
use Rattle.lru.specs.LruCache.{LruCache, lru_cache, put_entries}
use Rattle.quilt_world.specs.Disk.{Pages}
use Rattle.quilt_world.specs.Tale.{Tale, Goes}
use Rattle.quilt_world.proofs.StopLaws.{since_here}
use Rattle.quilt_journal.specs.Changed.{is_changed}
use Rattle.quilt_journal.specs.Kept.{HasHome, published, work}
use Rattle.quilt_journal.proofs.Leaving.{idle_leaves}
use Rattle.quilt_pool.specs.declared.frame.Frame.{Frame}
use Rattle.quilt_pool.specs.Entries.{Entries, frame_at, bytes_or, has_dirt, page_over, is_marked, IsClean, AreBelow, dirty, written, entry_edited}
use Rattle.quilt_pool.specs.Keeping.{IsWork, KeepsWork, Changes}
use Rattle.quilt_pool.proofs.Dirt.{some_frame}
use Rattle.quilt_pool.proofs.Draining.{eqb-same}
use Rattle.quilt_pool.proofs.Entering.{changes_then}
use Rattle.quilt_pool.proofs.Looks.{put_at}
use Rattle.quilt_pool.proofs.Saving.{tries_none}

pub is_none : (o : Option Frame) → is_some o ≡ false → o ≡ None
is_none None e = refl
is_none (Some f) e = absurd (false≢true (sym e))

pub all_told : (P : Tale → Type 0) (o : Option Tale) → ((t : Tale) → P t) → IfSome o P
all_told P None each = tt
all_told P (Some t) each = each t

-- a frame that is there has its bytes over any
pub over_there : (o : Option Frame) (b : List ℕ) → IsSome o → bytes_or [] o ≡ bytes_or b o
over_there None b some = absurd cc
over_there (Some f) b some = refl

-- the frame that was put
pub put_here : (c : LruCache ℕ Frame) (k : ℕ) (v : Frame) → 0 < c.cap → length c.entries ≤ c.cap → frame_at (put_entries nat_eq c k v) k ≡ Some v
put_here c k v some fits = elim (put_at c k v k some fits) [
  | inl (same, here) ↦ here
  | inr (ne, more) ↦ absurd (ne refl)
]

-- the bytes that were read are those of the work
pub bytes_entered : (n k : ℕ) (es : Entries) (old new : List Bool) (o m : Option Tale) → Goes (KeepsWork n es es old new) o m
    → (pages : ℕ) → pages ≡ n → frame_at es k ≡ None → (x : List ℕ) → IfSome m (λ b. x ≡ get_or (work b pages new) k [])
    → IfSome o (λ a. x ≡ page_over es (work a n old) k)
bytes_entered n k es old new None m keeps pages is lost x read = tt
bytes_entered n k es old new (Some a) None keeps pages is lost x read = absurd keeps
bytes_entered n k es old new (Some a) (Some b) keeps pages is lost x read =
    read ∙ ap (λ j. get_or (work b j new) k []) is ∙ sym (ap (bytes_or (get_or (work b n new) k [])) lost) ∙ keeps.pages k

-- ---- the page's bytes are changed where they lie

module _ (es : Entries) (k : ℕ) (w : List ℕ) (there : IsSome (frame_at es k)) where
  written_at : (i : ℕ) → frame_at (written es k w) i ≡ cond (nat_eq k i) (Some (dirty w)) (frame_at es i)
  written_at i = lookup-set_value nat_eq_equiv (nat_eq k) (eqb-same k) i (dirty w) es there

  here_at : (i : ℕ) → i ≡ k → frame_at (written es k w) i ≡ Some (dirty w)
  here_at i same = written_at i ∙ ap (λ b. cond b (Some (dirty w)) (frame_at es i)) (eq-eqb k i (sym same))

  other_at : (i : ℕ) → i ≢ k → frame_at (written es k w) i ≡ frame_at es i
  other_at i ne = written_at i ∙ ap (λ b. cond b (Some (dirty w)) (frame_at es i)) (ne_eqb k i (λ e. ne (sym e)))

  pub below_written : (n : ℕ) → (1 ≤ k) × (k < n) → AreBelow n es → AreBelow n (written es k w)
  below_written n within below = record {
    each = λ i f is. elim (cases_eq i k) [
      | inl same ↦ subst (λ j. (1 ≤ j) × (j < n)) (sym same) within
      | inr ne ↦ below.each i f (sym (other_at i ne) ∙ is)
    ];
  }

  over_written : (pages : Pages) (i : ℕ) → page_over (written es k w) pages i ≡ cond (nat_eq i k) w (page_over es pages i)
  over_written pages i = elim (cases_eq i k) [
    | inl same ↦ rw (eq-eqb i k same) (ap (bytes_or (get_or pages i [])) (here_at i same))
    | inr ne ↦ rw (ne_eqb i k ne) (ap (bytes_or (get_or pages i [])) (other_at i ne))
  ]

  clean_written : (pages : Pages) → IsClean es pages → IsClean (written es k w) pages
  clean_written pages clean = record {
    each = λ i f is none. elim (cases_eq i k) [
      | inl same ↦
          let frame : dirty w ≡ f = ap (λ (o : Option Frame). unwrap_or o (dirty w)) (sym (here_at i same) ∙ is) in
          absurd (false≢true (sym none ∙ sym (ap (λ (x : Frame). x.is_dirty) frame)))
      | inr ne ↦ clean.each i f (sym (other_at i ne) ∙ is) none
    ];
  }

  changes_written : (n : ℕ) (c : List Bool) (t : Tale) → IsWork n es c t → Changes n k w es (written es k w) c c t t
  changes_written n c t is = record {
    is = record { idle = is.idle; clean = clean_written (work t n c) is.clean };
    home = refl;
    pages = over_written (work t n c);
    tries = tries_none t;
    since = since_here t (HasHome n (published t n)) (idle_leaves n c t is.idle);
  }

  pub goes_written : (n : ℕ) (os : Entries) (old new : List Bool) (o t : Option Tale) → Goes (KeepsWork n os es old new) o t
      → Goes (Changes n k w os (written es k w) old new) o t
  goes_written n os old new None None keeps = tt
  goes_written n os old new None (Some t) keeps = absurd keeps
  goes_written n os old new (Some o) None keeps = absurd keeps
  goes_written n os old new (Some o) (Some t) keeps =
      changes_then n k w os es (written es k w) old new new o t t keeps (changes_written n new t keeps.is)

  pub marked_written : (c : List Bool) (i : ℕ) → is_marked (written es k w) c i ≡ cond (nat_eq i k) true (is_marked es c i)
  marked_written c i = elim (cases_eq i k) [
    | inl same ↦ rw (eq-eqb i k same) (ap (λ o. has_dirt o || is_changed c i) (here_at i same))
    | inr ne ↦ rw (ne_eqb i k ne) (ap (λ o. has_dirt o || is_changed c i) (other_at i ne))
  ]

  pub keys_written : keys_of (written es k w) ≡ keys_of es
  keys_written = keys-set_value (nat_eq k) es (dirty w)

-- ---- a page that was marked, and then has other bytes

pub written_twice : (k : ℕ) (b w : List ℕ) (es : Entries) → IsSome (frame_at es k) → entry_edited (written es k b) k w ≡ written es k w
written_twice k b w [] there = refl
written_twice k b w (e ∷ es) there = elim (cases_Bool (nat_eq k e.0)) [
  | inl t ↦ simp t
  | inr f ↦ simp f (ap (λ (l : Entries). e ∷ l) (written_twice k b w es (rw f at there)))
]

-- a page that is there was marked, and its bytes are changed where they lie
module _ (t u : LruCache ℕ Frame) (k : ℕ) (there : IsSome (frame_at t.entries k))
    (marked : (f : Frame) → frame_at t.entries k ≡ Some f
    → u ≡ lru_cache (set_value (nat_eq k) t.entries (record { bytes = f.bytes; is_dirty = true })) t.cap) where
  found : (f : Frame) × (frame_at t.entries k ≡ Some f)
  found = some_frame (frame_at t.entries k) there

  pub bytes_marked : bytes_or [] (frame_at u.entries k) ≡ bytes_or [] (frame_at t.entries k)
  bytes_marked =
      ap (λ (x : LruCache ℕ Frame). bytes_or [] (frame_at x.entries k)) (marked found.0 found.1)
      ∙ ap (bytes_or []) (here_at t.entries k found.0.bytes there k refl)
      ∙ sym (ap (bytes_or []) found.1)

  -- the bytes that it keeps
  pub kept_bytes : List ℕ
  kept_bytes = found.0.bytes

  as_marked : u.entries ≡ written t.entries k kept_bytes
  unfolding kept_bytes
  as_marked = ap (λ (x : LruCache ℕ Frame). x.entries) (marked found.0 found.1)

  pub there_marked : IsSome (frame_at u.entries k)
  there_marked = ap (λ (x : Entries). is_some (frame_at x k)) as_marked ∙ ap is_some (here_at t.entries k kept_bytes there k refl)

  pub below_marked : (n : ℕ) → (1 ≤ k) × (k < n) → AreBelow n t.entries → AreBelow n u.entries
  below_marked n within below = subst (AreBelow n) (sym as_marked) (below_written t.entries k kept_bytes there n within below)

  pub goes_marked : (n : ℕ) (os : Entries) (old new : List Bool) (o q : Option Tale) → Goes (KeepsWork n os t.entries old new) o q
      → Goes (Changes n k kept_bytes os u.entries old new) o q
  goes_marked n os old new o q keeps =
      subst (λ (x : Entries). Goes (Changes n k kept_bytes os x old new) o q) (sym as_marked) (goes_written t.entries k kept_bytes there n os old new o q keeps)

  module _ (w : List ℕ) where
    as_written : entry_edited u.entries k w ≡ written t.entries k w
    as_written = ap (λ (x : LruCache ℕ Frame). entry_edited x.entries k w) (marked found.0 found.1) ∙ written_twice k found.0.bytes w t.entries there

    pub below_edited : (n : ℕ) → (1 ≤ k) × (k < n) → AreBelow n t.entries → AreBelow n (entry_edited u.entries k w)
    below_edited n within below = subst (AreBelow n) (sym as_written) (below_written t.entries k w there n within below)

    pub goes_edited : (n : ℕ) (os : Entries) (old new : List Bool) (o q : Option Tale) → Goes (KeepsWork n os t.entries old new) o q
        → Goes (Changes n k w os (entry_edited u.entries k w) old new) o q
    goes_edited n os old new o q keeps =
        subst (λ (x : Entries). Goes (Changes n k w os x old new) o q) (sym as_written) (goes_written t.entries k w there n os old new o q keeps)

    pub marked_edited : (c : List Bool) (i : ℕ) → is_marked (entry_edited u.entries k w) c i ≡ cond (nat_eq i k) true (is_marked t.entries c i)
    marked_edited c i = ap (λ (x : Entries). is_marked x c i) as_written ∙ marked_written t.entries k w there c i

    pub keys_edited : keys_of (entry_edited u.entries k w) ≡ keys_of t.entries
    keys_edited = ap (λ (x : Entries). keys_of x) as_written ∙ keys_written t.entries k w there
