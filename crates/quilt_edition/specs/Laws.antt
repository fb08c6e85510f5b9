-- The laws of a store, for a book.
use Rattle.std.proofs.Common.{◌≡◌, ℕ, ◌<◌, ◌≤◌, Bool, true, false, ◌&&◌, nat_le, nat_lt, List, Option, Some, None, map, length, refl, sym, ◌∙◌, subst, arith}
use Rattle.std.specs.Option.{IfSome}
use Rattle.std.proofs.lemmas.Bool.{false≢true, leb-true, ltb-true}
use Rattle.std.proofs.lemmas.List.{take_all, length-append}
use Rattle.std.proofs.lemmas.List.FromFn.{length-map-range_with_len}
use Rattle.quilt_world.specs.Disk.{Pages, Log}
use Rattle.quilt_world.specs.Home.{home}
use Rattle.quilt_world.specs.Stops.{Leaves, Since, LeavesNow}
use Rattle.quilt_world.specs.Tale.{Tale, Goes}
use Rattle.quilt_world.proofs.StopLaws.{since_here, since_both}
use Rattle.quilt_world.proofs.Told.{goes_then}
use Rattle.quilt_journal.specs.Changed.{View, has_bit}
use Rattle.quilt_types.specs.Plane.{below}
use Rattle.quilt_journal.specs.Kept.{HasHome, work}
use Rattle.quilt_journal.specs.declared.journal.State.{State}
use Rattle.quilt_journal.specs.declared.journal.State.TheVariants.{Idle, Sealed, Carried}
use Rattle.quilt_pool.specs.Entries.{Entries, page_over}
use Rattle.quilt_pool.proofs.Saving.{tries_none, tries_both}
use Rattle.quilt_edition.specs.Keeping.{is_free, told_pages, told_in, work_pages, IsLater}

-- of two tests that both hold the first holds
and_left : (a b : Bool) → (a && b) ≡ true → a ≡ true
and_left true b h = refl
and_left false b h = h

-- of two tests that both hold the second holds
and_right : (a b : Bool) → (a && b) ≡ true → b ≡ true
and_right true b h = h
and_right false b h = absurd (false≢true h)

-- a free page is a home page other than the header: from 1 to n - 1
pub free_within : (n : ℕ) (bits : List ℕ) (page : ℕ) → is_free n bits page ≡ true → (1 ≤ page) × (page < n)
free_within n bits page h =
    let range = and_left (nat_le 1 page && nat_lt page n) (has_bit bits page) h in
    (leb-true 1 page (and_left (nat_le 1 page) (nat_lt page n) range), ltb-true page n (and_right (nat_le 1 page) (nat_lt page n) range))

-- where an idle book tells n pages, their number is n
told_many_in : (n : ℕ) (f : ℕ → List ℕ) (state : State) → IfSome (told_in state (map f (below n))) (λ pages. length pages ≡ n)
told_many_in n f Idle = length-map-range_with_len f 0 n
told_many_in n f Sealed = tt
told_many_in n f Carried = tt

-- where a book tells its pages, they are as many as the file has home pages
pub told_many : (j : View) (es : Entries) (told : Option Tale) → IfSome (told_pages j es told) (λ pages. length pages ≡ j.pages)
unfolding work_pages
told_many j es None = tt
told_many j es (Some t) = told_many_in j.pages (page_over es (work t j.pages j.changed)) j.state

-- a disk to which nothing was done has gone on so
is_later_same : (n : ℕ) (t : Tale) → IsLater n t t
is_later_same n t = record { tries = tries_none t; same = refl; stays = λ leaves. since_here t (HasHome n (home t.seen n)) leaves }

-- a world to which nothing was done has gone on so, told or not
pub later_same : (n : ℕ) (told : Option Tale) → Goes (IsLater n) told told
later_same n None = tt
later_same n (Some t) = is_later_same n t

-- at its last event
since_last : (a b : Tale) (P : Pages → Type 0) → Since a b P → LeavesNow b P
since_last a b P since =
    let long : length a.log ≤ length b.log = subst (λ (l : Log). length a.log ≤ length l) (sym since.log) (omega (arith, length-append a.log since.added)) in
    let whole : Leaves a.start b.log P =
    subst (λ (l : Log). Leaves a.start l P) (take_all (length b.log) b.log (omega arith)) (since.each (length b.log) long) in
    subst (λ (s : Pages). Leaves s b.log P) (sym since.file.start) whole

-- two such steps of a disk behind each other are one
is_later_on : (n : ℕ) (a b c : Tale) → IsLater n a b → IsLater n b c → IsLater n a c
is_later_on n a b c p q = record {
  tries = tries_both a b c p.tries q.tries;
  same = q.same ∙ p.same;
  stays = λ leaves.
      let first = p.stays leaves in
      let then = q.stays (subst (λ (h : Pages). LeavesNow b (HasHome n h)) (sym p.same) (since_last a b (HasHome n (home a.seen n)) first)) in
      since_both a b c (HasHome n (home a.seen n)) first (subst (λ (h : Pages). Since b c (HasHome n h)) p.same then);
}

-- two such steps of a world behind each other are one, told or not
pub later_on : (n m : ℕ) (a b c : Option Tale) → m ≡ n → Goes (IsLater n) a b → Goes (IsLater m) b c → Goes (IsLater n) a c
later_on n m a b c same p q = goes_then (IsLater n) (IsLater n) (IsLater n) a b c p (subst (λ k. Goes (IsLater k) b c) same q) (is_later_on n)
