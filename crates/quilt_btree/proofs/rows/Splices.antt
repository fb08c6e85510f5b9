-- Children of a page are replaced by others, with the page as it was or written anew.
use Rattle.std.proofs.Common.{◌≡◌, ℕ, suc, ◌+◌, ◌<◌, ◌≤◌, Bool, true, false, ◌||◌, nat_le, List, [], ◌∷◌, ◌++◌, length, Some, slice_index_or, slice_set, refl}
use Rattle.std.proofs.Common.{◌∙◌, ap, subst, arith, get_or-set_other, get_or-set_same, length-set}
use Rattle.quilt_record.specs.declared.key.Key.{Key}
use Rattle.quilt_record.specs.declared.record.Record.{Record}
use Rattle.quilt_node.specs.Pages.{Inner, inner_of}
use Rattle.quilt_node.specs.Tree.{Bounds, bounded, are_within}
use Rattle.quilt_btree.specs.Subtree.{Row, Subtree}
use Rattle.quilt_btree.specs.Edits.{multiplicity, account, KeepsAccount, Becomes}
use Rattle.quilt_btree.proofs.lists.Counts.{times-append, times_here, in_times, some_not_none}
use Rattle.quilt_btree.proofs.stores.Moves.{AreApart, moves_then, moves_written, used_account}
use Rattle.quilt_btree.proofs.lists.Rows.{SameOn, row_stays, subtree_stays}
use Rattle.quilt_btree.proofs.rows.Middles.{RowChanged, around, middle_changed}
use Rattle.quilt_btree.proofs.rows.Places.{AtPlace}

-- The children of two lists of children and keys, with a key between, are those of the first below the key, and then those of the second from it on.
pub bounded_join : (ca cb : List ℕ) (ka kb : List Key) (key : Key) (b : Bounds) → length ca ≡ suc (length ka)
    → bounded (ca ++ cb) (ka ++ key ∷ kb) b ≡ bounded ca ka (record { low = b.low; high = Some key })
    ++ bounded cb kb (record { low = Some key; high = b.high })
bounded_join [] cb ka kb key b n = absurd (omega arith)
bounded_join (c ∷ []) cb [] kb key b n = refl
bounded_join (c ∷ d ∷ ca) cb [] kb key b n = absurd (omega arith)
bounded_join (c ∷ ca) cb (k ∷ ka) kb key b n =
    ap (λ l. (c, record { low = b.low; high = Some k }) ∷ l)
    (bounded_join ca cb ka kb key (record { low = Some k; high = b.high }) (fewer (length ca) (length ka) n))
  where
    fewer : (m n : ℕ) → suc m ≡ suc (suc n) → m ≡ suc n
    fewer m n h = omega arith

module _ (pages news : List (List ℕ)) where
  -- a row stays as it is where its pages do
  pub rows_stay : (h : ℕ) → length news ≡ length pages → (cs : List (ℕ × Bounds)) (rs : List Record) (used : List ℕ) → SameOn pages news used
      → Row (Subtree pages (suc h) false) cs rs used → Row (Subtree news (suc h) false) cs rs used
  rows_stay h size cs rs used same row =
      row_stays pages news (Subtree pages (suc h) false) (Subtree news (suc h) false)
      (λ c ss u e t. subtree_stays pages news size (suc h) false c ss u e t) cs rs used same row

  -- Children in the middle of a row become others by an edit of their pages.
  pub middle_moved : {free now : ℕ → Bool} (h page : ℕ) {before middle behind : List (ℕ × Bounds)} (others : List (ℕ × Bounds)) {rs : List Record}
      {under : List ℕ} (all : List Record) {uses : List ℕ} → AreApart free (under ++ page ∷ [])
      → (at : AtPlace (Subtree pages (suc h) false) before middle behind rs under) → Row (Subtree news (suc h) false) others all uses
      → KeepsAccount pages news free now at.here_used uses
      → RowChanged (Subtree news (suc h) false) pages news free now page (before ++ (others ++ behind)) (at.first ++ (all ++ at.last)) under
  middle_moved {free} h page others all apart at row moves =
      middle_changed (Subtree news (suc h) false) h (λ c ss u s. s) others all (around free page at apart) row moves

  -- The page is as it was, and so a subtree whose children have become others.
  pub parent_stays : {free now : ℕ → Bool} {h page : ℕ} {is_root : Bool} {b : Bounds} {inner : Inner} {under : List ℕ} {all : List Record}
      → inner_of (length pages) (slice_index_or pages page []) ≡ Some inner → inner.height ≡ suc (suc h)
      → (is_root || nat_le 127 (length inner.children)) ≡ true → are_within b inner.keys ≡ true
      → RowChanged (Subtree news (suc h) false) pages news free now page (bounded inner.children inner.keys b) all under
      → Becomes pages news free now page (suc (suc h)) is_root b (under ++ page ∷ []) all
  parent_stays {page} {inner} {under} is height enough within moved = record {
    uses = moved.uses ++ page ∷ [];
    subtree = record {
      inner = inner;
      page = ap (λ n. inner_of n (slice_index_or news page [])) moved.moves.size ∙ ap (inner_of (length pages)) moved.page_stays ∙ is;
      is_height = height;
      enough = enough;
      within = within;
      under = moved.uses;
      children = moved.row;
      is_used = refl;
    };
    moves = moved.moves;
  }

pub page_in : (p : ℕ) (under : List ℕ) → 1 ≤ multiplicity p (under ++ p ∷ [])
page_in p under = some (multiplicity p (under ++ p ∷ [])) (multiplicity p under) (multiplicity p (p ∷ [])) (times-append p under (p ∷ [])) (times_here p [])
  where
    some : (t u m : ℕ) → t ≡ u + m → m ≡ 1 + 0 → 1 ≤ t
    some t u m e f = omega arith

-- writing a page leaves those that are used apart from it
pub written_same : (pages : List (List ℕ)) (page : ℕ) (bytes : List ℕ) (used : List ℕ) → multiplicity page used ≡ 0
    → SameOn pages (slice_set pages page bytes) used
written_same pages page bytes used none p inside =
    get_or-set_other pages page p bytes [] (λ e. some_not_none (multiplicity page used) (subst (λ q. 1 ≤ multiplicity q used) e (in_times p used inside)) none)

pub apart_above : (free : ℕ → Bool) (under : List ℕ) (page : ℕ) → AreApart free (under ++ page ∷ []) → multiplicity page under ≡ 0
apart_above free under page apart =
    none (account free (under ++ page ∷ []) page) (multiplicity page (under ++ page ∷ [])) (multiplicity page under) (multiplicity page (page ∷ []))
    (at_most free (under ++ page ∷ [])) (times-append page under (page ∷ [])) (times_here page []) (apart page)
  where
    at_most : (free : ℕ → Bool) (used : List ℕ) → multiplicity page used ≤ account free used page
    at_most free used = omega arith

    none : (a t u m : ℕ) → t ≤ a → t ≡ u + m → m ≡ 1 + 0 → a ≤ 1 → u ≡ 0
    none a t u m e f g h = omega arith

-- the bytes are an inner page of a height, whose keys lie within bounds
pub record IsInnerPage (size : ℕ) (bytes : List ℕ) (height : ℕ) (is_root : Bool) (b : Bounds) (inner : Inner) : Type 0 where
  pub is : inner_of size bytes ≡ Some inner
  pub is_height : inner.height ≡ height
  pub enough : (is_root || nat_le 127 (length inner.children)) ≡ true
  pub within : are_within b inner.keys ≡ true

-- The page is written anew, with other children and keys.
pub parent_written : {pages : List (List ℕ)} {free : ℕ → Bool} {h page : ℕ} {is_root : Bool} {b : Bounds} {inner : Inner} {bytes : List ℕ}
    (under : List ℕ) {all : List Record}
    → page < length pages → IsInnerPage (length pages) bytes (suc (suc h)) is_root b inner → AreApart free (under ++ page ∷ [])
    → Row (Subtree pages (suc h) false) (bounded inner.children inner.keys b) all under
    → Becomes pages (slice_set pages page bytes) free free page (suc (suc h)) is_root b (under ++ page ∷ []) all
parent_written {pages} {free} {h} {page} {b = b} {inner = inner} {bytes = bytes} under {all} inside i apart row = record {
  uses = under ++ page ∷ [];
  subtree = record {
    inner = inner;
    page = ap (λ n. inner_of n (slice_index_or (slice_set pages page bytes) page [])) (length-set pages page bytes)
        ∙ ap (inner_of (length pages)) (get_or-set_same pages page bytes [] inside) ∙ i.is;
    is_height = i.is_height;
    enough = i.enough;
    within = i.within;
    under = under;
    children = rows_stay pages (slice_set pages page bytes) h (length-set pages page bytes) (bounded inner.children inner.keys b) all under
        (written_same pages page bytes under (apart_above free under page apart)) row;
    is_used = refl;
  };
  moves = moves_written pages free (under ++ page ∷ []) page bytes (used_account free (under ++ page ∷ []) page (page_in page under));
}

-- an edit, and then one by which the subtree becomes what it is
pub becomes_then : {pages mid news : List (List ℕ)} {free between now : ℕ → Bool} {page height : ℕ} {is_root : Bool} {b : Bounds} {used more : List ℕ}
    {all : List Record} → KeepsAccount pages mid free between used more → Becomes mid news between now page height is_root b more all
    → Becomes pages news free now page height is_root b used all
becomes_then m o = record {
  uses = o.uses;
  subtree = o.subtree;
  moves = moves_then m o.moves;
}
