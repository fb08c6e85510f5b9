-- Two pages are written, or one is written and the other is given back.
use Rattle.std.proofs.Common.{◌≡◌, ◌≢◌, ℕ, ◌+◌, ◌<◌, ◌≤◌, Bool, true, false, List, [], ◌∷◌, length, slice_index_or, slice_set, sym, ◌∙◌, subst, arith}
use Rattle.std.proofs.Common.{length-set, get_or-set_other, get_or-set_same}
use Rattle.quilt_store.specs.Store.{FreesOnly}
use Rattle.quilt_btree.specs.Edits.{multiplicity, account, KeepsAccount}
use Rattle.quilt_btree.specs.Rebalancing.{HasGiven}
use Rattle.quilt_btree.proofs.lists.Counts.{times_here}
use Rattle.quilt_btree.proofs.stores.Moves.{AreApart, moves_among, moves_then, moves_written, moves_given, used_account, stays_on, apart_some, used_not_free}
use Rattle.quilt_btree.proofs.lists.Rows.{SameOn}

-- the used pages are some, and these two
pub record ArePair (left right : ℕ) (under used : List ℕ) : Type 0 where
  pub count : (p : ℕ) → multiplicity p used ≡ multiplicity p under + multiplicity p (right ∷ left ∷ [])

pub left_used : (left right : ℕ) → 1 ≤ multiplicity left (right ∷ left ∷ [])
left_used left right = let e = times_here left [] in omega arith

pub right_used : (left right : ℕ) → 1 ≤ multiplicity right (right ∷ left ∷ [])
right_used left right = let e = times_here right (left ∷ []) in omega arith

pub pair_apart : (free : ℕ → Bool) (left right : ℕ) (under used : List ℕ) → ArePair left right under used → AreApart free used
    → AreApart free (right ∷ left ∷ [])
pair_apart free left right under used pair apart =
    apart_some free (right ∷ left ∷ []) used (λ p. less (multiplicity p used) (multiplicity p under) (multiplicity p (right ∷ left ∷ [])) (pair.count p)) apart
  where
    less : (u n t : ℕ) → u ≡ n + t → t ≤ u
    less u n t e = omega arith

-- the two are not one page, and neither is free
pub two_apart : (free : ℕ → Bool) (left right : ℕ) → AreApart free (right ∷ left ∷ []) → left ≢ right
two_apart free left right apart = λ e. twice (subst (λ n. AreApart free (n ∷ left ∷ [])) (sym e) apart left)
  where
    twice : account free (left ∷ left ∷ []) left ≤ 1 → ⊥
    twice h = let a = times_here left (left ∷ []) in let b = times_here left [] in omega arith

pub left_taken : (free : ℕ → Bool) (left right : ℕ) → AreApart free (right ∷ left ∷ []) → free left ≡ false
left_taken free left right apart = used_not_free free (right ∷ left ∷ []) left apart (left_used left right)

pub right_taken : (free : ℕ → Bool) (left right : ℕ) → AreApart free (right ∷ left ∷ []) → free right ≡ false
right_taken free left right apart = used_not_free free (right ∷ left ∷ []) right apart (right_used left right)

-- what the left page is given, with the right one given back
pub record IsJoined (pages news : List (List ℕ)) (free now : ℕ → Bool) (left right : ℕ) (bytes : List ℕ) : Type 0 where
  pub size : length news ≡ length pages
  pub here : slice_index_or news left [] ≡ bytes
  pub moves : KeepsAccount pages news free now (right ∷ left ∷ []) (left ∷ [])

-- what both pages are given
pub record AreWritten (pages news : List (List ℕ)) (free : ℕ → Bool) (left right : ℕ) (bytes others : List ℕ) : Type 0 where
  pub size : length news ≡ length pages
  pub here : slice_index_or news left [] ≡ bytes
  pub there : slice_index_or news right [] ≡ others
  pub moves : KeepsAccount pages news free free (right ∷ left ∷ []) (right ∷ left ∷ [])

module _ (pages : List (List ℕ)) (free : ℕ → Bool) (left right : ℕ) (bytes : List ℕ) where
  pub is_joined : (news : List (List ℕ)) (now : ℕ → Bool) → AreApart free (right ∷ left ∷ []) → left < length pages
      → HasGiven right (slice_set pages left bytes) news → FreesOnly right true free now → IsJoined pages news free now left right bytes
  is_joined news now apart inside given frees = record {
    size = given.size ∙ length-set pages left bytes;
    here = given.others left (two_apart free left right apart) ∙ get_or-set_same pages left bytes [] inside;
    moves = moves_then
        (moves_written pages free (right ∷ left ∷ []) left bytes (used_account free (right ∷ left ∷ []) left (left_used left right)))
        (moves_given (slice_set pages left bytes) news free now (left ∷ []) right given.size given.others (right_taken free left right apart) frees);
  }

  pub are_written : (others : List ℕ) → AreApart free (right ∷ left ∷ []) → left < length pages → right < length pages
      → AreWritten pages (slice_set (slice_set pages left bytes) right others) free left right bytes others
  are_written others apart inside also =
      let mid = slice_set pages left bytes in
      let long : length mid ≡ length pages = length-set pages left bytes in
      record {
        size = length-set mid right others ∙ long;
        here = get_or-set_other mid right left others [] (two_apart free left right apart) ∙ get_or-set_same pages left bytes [] inside;
        there = get_or-set_same mid right others [] (subst (λ n. right < n) (sym long) also);
        moves = moves_then
            (moves_written pages free (right ∷ left ∷ []) left bytes (used_account free (right ∷ left ∷ []) left (left_used left right)))
            (moves_written mid free (right ∷ left ∷ []) right others (used_account free (right ∷ left ∷ []) right (right_used left right)));
      }

module _ (pages news : List (List ℕ)) (free now : ℕ → Bool) (left right : ℕ) where
  -- the pages below the two stay as they are
  pub under_stays : (uses under used : List ℕ) → ArePair left right under used → AreApart free used
      → KeepsAccount pages news free now (right ∷ left ∷ []) uses → SameOn pages news under
  under_stays uses under used pair apart moves =
      stays_on pages news free now (right ∷ left ∷ []) uses under used moves apart
      (λ p. parts (multiplicity p used) (multiplicity p under) (multiplicity p (right ∷ left ∷ [])) (pair.count p))
    where
      parts : (u n t : ℕ) → u ≡ n + t → t + n ≤ u
      parts u n t e = omega arith

  -- and count as before
  pub pair_moves : (here under used uses : List ℕ) → ArePair left right under used → ((p : ℕ) → multiplicity p uses ≡ multiplicity p under + multiplicity p here)
      → KeepsAccount pages news free now (right ∷ left ∷ []) here → KeepsAccount pages news free now used uses
  pair_moves here under used uses pair also moves =
      moves_among pages news free now (right ∷ left ∷ []) here used uses (λ p. multiplicity p under) pair.count also moves
