-- What writing one page, or two of which one was free, does to the others.
use Rattle.std.proofs.Common.{◌≡◌, ◌≢◌, ℕ, ◌+◌, ◌<◌, ◌≤◌, Bool, true, false, List, [], ◌∷◌, length, Option, Some, None, IfSome, slice_index_or, slice_set, refl}
use Rattle.std.proofs.Common.{sym, ◌∙◌, subst, arith, length-set, get_or-set_other, get_or-set_same}
use Rattle.quilt_store.specs.Store.{FreesOnly}
use Rattle.quilt_world.specs.Tale.{Goes}
use Rattle.quilt_btree.specs.Edits.{multiplicity, KeepsAccount}
use Rattle.quilt_btree.proofs.lists.Rows.{SameOn}
use Rattle.quilt_btree.proofs.lists.Counts.{times_here, in_times}
use Rattle.quilt_btree.proofs.stores.Moves.{AreApart, moves_then, moves_taken, moves_written, used_account, free_not_used}

pub tells_at : (step : List (List ℕ) → List (List ℕ) → Type 0) (a b : Option (List (List ℕ))) (x : List (List ℕ)) → Goes step a b → a ≡ Some x
    → (y : List (List ℕ)) × (b ≡ Some y) × step x y
tells_at step a None x t e = absurd (subst (λ o. Goes step o None) e t)
tells_at step a (Some y) x t e = (y, refl, subst (λ o. Goes step o (Some y)) e t)

pub if_some_at : {X : Type 0} (P : X → Type 0) (o : Option X) (x : X) → IfSome o P → o ≡ Some x → P x
if_some_at P o x h e = subst (λ o. IfSome o P) e h

-- a store that tells its pages tells as many as it has
abbrev pub TellsAll : Option (List (List ℕ)) → ℕ → Type 0
TellsAll told size = IfSome told (λ pages. length pages ≡ size)

pub all_told : (told : Option (List (List ℕ))) (size page : ℕ) (pages : List (List ℕ)) → TellsAll told size → told ≡ Some pages
    → page < size → page < length pages
all_told told size page pages many e lt = subst (λ n. page < n) (sym (if_some_at (λ pages. length pages ≡ size) told pages many e)) lt

-- the bytes are written to a page of a store of so many
pub record WritesPage (told now_told : Option (List (List ℕ))) (size page : ℕ) (bytes : List ℕ) : Type 0 where
  pub inside : page < size
  pub many : TellsAll told size
  pub wrote : Goes (λ old new. new ≡ slice_set old page bytes) told now_told

-- two pages of a store of so many are written, of which the second was free
pub record WritesBoth (told now_told : Option (List (List ℕ))) (free now : ℕ → Bool) (size page new : ℕ) (left right : List ℕ) : Type 0 where
  pub inside : page < size
  pub inside_new : new < size
  pub many : TellsAll told size
  pub was_free : free new ≡ true
  pub taken : FreesOnly new false free now
  pub wrote : Goes (λ old now. now ≡ slice_set (slice_set old page left) new right) told now_told

-- a page and one that was free are written
pub record IsBoth (pages news : List (List ℕ)) (free now : ℕ → Bool) (used : List ℕ) (page new : ℕ) (left right : List ℕ) : Type 0 where
  pub is_left : slice_index_or news page [] ≡ left
  pub is_right : slice_index_or news new [] ≡ right
  pub others : (q : ℕ) → q ≢ page → q ≢ new → slice_index_or news q [] ≡ slice_index_or pages q []
  pub moves : KeepsAccount pages news free now used (new ∷ used)
  pub unused : multiplicity new used ≡ 0

-- a page that was free is written
pub record IsNew (pages news : List (List ℕ)) (free now : ℕ → Bool) (used : List ℕ) (new : ℕ) (bytes : List ℕ) : Type 0 where
  pub is_new : slice_index_or news new [] ≡ bytes
  pub others : (q : ℕ) → q ≢ new → slice_index_or news q [] ≡ slice_index_or pages q []
  pub moves : KeepsAccount pages news free now used (new ∷ used)
  pub unused : multiplicity new used ≡ 0
  pub other : (page : ℕ) → 1 ≤ multiplicity page used → page ≢ new

module _ (pages : List (List ℕ)) (free now : ℕ → Bool) (used : List ℕ) (new : ℕ) (bytes : List ℕ) where
  pub new_written : AreApart free used → new < length pages → free new ≡ true → FreesOnly new false free now
      → IsNew pages (slice_set pages new bytes) free now used new bytes
  new_written apart inside t f =
      let unused = free_not_used free used new apart t in
      let there : 1 ≤ multiplicity new (new ∷ used) = first (multiplicity new (new ∷ used)) (multiplicity new used) (times_here new used) in
      record {
        is_new = get_or-set_same pages new bytes [] inside;
        others = λ q n. get_or-set_other pages new q bytes [] n;
        moves = moves_then (moves_taken pages free now used new t f)
            (moves_written pages now (new ∷ used) new bytes (used_account now (new ∷ used) new there));
        unused = unused;
        other = λ page some e. nothing (multiplicity new used) (subst (λ p. 1 ≤ multiplicity p used) e some) unused;
      }
    where
      nothing : (n : ℕ) → 1 ≤ n → n ≡ 0 → ⊥
      nothing n h g = omega arith

      first : (m n : ℕ) → m ≡ 1 + n → 1 ≤ m
      first m n e = omega arith

module _ (pages : List (List ℕ)) (free now : ℕ → Bool) (used : List ℕ) (page new : ℕ) (left right : List ℕ) where
  pub both_written : AreApart free used → 1 ≤ multiplicity page used → page < length pages → new < length pages → free new ≡ true
      → FreesOnly new false free now → IsBoth pages (slice_set (slice_set pages page left) new right) free now used page new left right
  both_written apart some inside inside_new t f =
      let one = slice_set pages page left in
      let n = new_written one free now used new right apart (subst (λ n. new < n) (sym (length-set pages page left)) inside_new) t f in
      record {
        is_left = n.others page (n.other page some) ∙ get_or-set_same pages page left [] inside;
        is_right = n.is_new;
        others = λ q p o. n.others q o ∙ get_or-set_other pages page q left [] p;
        moves = moves_then (moves_written pages free used page left (used_account free used page some)) n.moves;
        unused = n.unused;
      }

  -- pages that are neither of the two stay
  pub both_same : (news : List (List ℕ)) (some : List ℕ) → IsBoth pages news free now used page new left right → multiplicity page some ≡ 0
      → multiplicity new some ≡ 0 → SameOn pages news some
  both_same news some both none none_new p inside =
      both.others p (λ e. nothing (multiplicity page some) (subst (λ q. 1 ≤ multiplicity q some) e (in_times p some inside)) none)
      (λ e. nothing (multiplicity new some) (subst (λ q. 1 ≤ multiplicity q some) e (in_times p some inside)) none_new)
    where
      nothing : (n : ℕ) → 1 ≤ n → n ≡ 0 → ⊥
      nothing n h g = omega arith
