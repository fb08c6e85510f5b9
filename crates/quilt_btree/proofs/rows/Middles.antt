-- Two neighbouring children among the others of their page, and one or two in their stead.
use Rattle.std.proofs.Common.{◌≡◌, ℕ, zero, suc, ◌+◌, ◌-◌, ◌<◌, ◌≤◌, Bool, false, List, [], ◌∷◌, ◌++◌, length, take, drop, Option, Some, slice_index}
use Rattle.std.proofs.Common.{slice_index_or, slice_set, refl, sym, ◌∙◌, ap, arith, length-take-le, length-drop, drop-cons}
use Rattle.std.specs.Prelude.{slice_get}
use Rattle.std.specs.List.{remove}
use Rattle.std.proofs.lemmas.List.{append-nil}
use Rattle.quilt_record.specs.declared.key.Key.{Key}
use Rattle.quilt_record.specs.declared.record.Record.{Record}
use Rattle.quilt_node.specs.Tree.{Bounds, bounded}
use Rattle.quilt_btree.specs.Subtree.{Reading, InTurn, Row, Subtree}
use Rattle.quilt_btree.specs.Edits.{multiplicity, KeepsAccount}
use Rattle.quilt_btree.proofs.lists.Counts.{times-append, times-three}
use Rattle.quilt_btree.proofs.stores.Moves.{AreApart, moves_among, stays_on}
use Rattle.quilt_btree.proofs.lists.Rows.{SameOn, row_stays, subtree_stays, is_in_first}
use Rattle.quilt_btree.proofs.ways.Leaves.{cut_at}
use Rattle.quilt_btree.proofs.rows.Places.{AtPlace, front, from_keys, bounded_front, high_from, place_back, fewer}
use Rattle.quilt_btree.proofs.subtrees.Descents.{cut_children}

-- the first of these keys, or else the bound
abbrev pub head_or : List Key → Option Key → Option Key
head_or [] high = high
head_or (k ∷ ks) high = Some k

-- children that each have a key before them
abbrev pub rear : List ℕ → List Key → Option Key → List (ℕ × Bounds)
rear [] ks high = []
rear (c ∷ cs) [] high = []
rear (c ∷ cs) (k ∷ ks) high = (c, record { low = Some k; high = head_or ks high }) ∷ rear cs ks high

pub bounded_rear : (c : ℕ) (cb : List ℕ) (kb : List Key) (b : Bounds) → length cb ≡ length kb
    → bounded (c ∷ cb) kb b ≡ (c, record { low = b.low; high = head_or kb b.high }) ∷ rear cb kb b.high
bounded_rear c [] [] b n = refl
bounded_rear c (d ∷ cb) [] b n = absurd (omega arith)
bounded_rear c [] (k ∷ kb) b n = absurd (omega arith)
bounded_rear c (d ∷ cb) (k ∷ kb) b n =
    ap (λ l. (c, record { low = b.low; high = Some k }) ∷ l)
    (bounded_rear d cb kb (record { low = Some k; high = b.high }) (fewer (length cb) (length kb) n))

-- the bounds of what stands between
abbrev pub gap_bounds : List Key → List Key → Bounds → Bounds
gap_bounds ka kb b = record { low = (from_keys ka b).low; high = head_or kb b.high }

module _ (ca : List ℕ) (c : ℕ) where
  pub bounded_one : (cb : List ℕ) (ka kb : List Key) (b : Bounds) → length ca ≡ length ka → length cb ≡ length kb → bounded (ca ++ c ∷ cb)
      (ka ++ kb) b ≡ front ca ka b ++ (((c, gap_bounds ka kb b) ∷ []) ++ rear cb kb b.high)
  bounded_one cb ka kb b n m =
      bounded_front ca (c ∷ cb) ka kb b n ∙ ap (λ l. front ca ka b ++ l) (bounded_rear c cb kb (from_keys ka b) m
      ∙ ap (λ h. (c, record { low = (from_keys ka b).low; high = head_or kb h }) ∷ rear cb kb h) (high_from ka b))

  pub bounded_two : (d : ℕ) (cb : List ℕ) (ka : List Key) (key : Key) (kb : List Key) (b : Bounds) → length ca ≡ length ka → length cb ≡ length kb
      → bounded (ca ++ c ∷ d ∷ cb)
      (ka ++ key ∷ kb) b ≡ front ca ka b ++ (((c, record { low = (gap_bounds ka kb b).low; high = Some key }) ∷ (d, record { low = Some key; high = (gap_bounds ka kb b).high }) ∷ []) ++ rear cb kb b.high)
  bounded_two d cb ka key kb b n m = bounded_one (d ∷ cb) ka (key ∷ kb) b n (ap suc m)

-- a list of children and one of keys, cut at two neighbours
pub record CutTwo (cs : List ℕ) (ks : List Key) (j left : ℕ) (key : Key) (right : ℕ) : Type 0 where
  pub ca : List ℕ
  pub cb : List ℕ
  pub ka : List Key
  pub kb : List Key
  pub children : cs ≡ ca ++ left ∷ right ∷ cb
  pub keys : ks ≡ ka ++ key ∷ kb
  pub before : length ca ≡ length ka
  pub behind : length cb ≡ length kb
  pub place : length ka ≡ j

pub cut_two : (cs : List ℕ) (ks : List Key) {j : ℕ} {next left : ℕ} {key : Key} {right : ℕ} → length cs ≡ length ks + 1 → j + 1 < length cs
    → next ≡ suc j → left ≡ slice_index cs j → right ≡ slice_index cs next → slice_get ks j ≡ Some key → CutTwo cs ks j left key right
cut_two cs ks {j} {left} {key} n lt nx l r k =
    let here : j < length cs = omega arith in
    let there : suc j < length cs = omega arith in
    let low : j ≤ length cs = omega arith in
    let low_too : j ≤ length ks = omega arith in
    let ka = length-take-le j ks low_too in
    record {
      ca = take j cs;
      cb = drop (suc (suc j)) cs;
      ka = take j ks;
      kb = drop (suc j) ks;
      children = cut_children cs j here ∙ ap (λ x. take j cs ++ x ∷ drop (suc j) cs) (sym l) ∙ ap (λ x. take j cs ++ left ∷ x)
          (drop-cons cs (suc j) 0 there)
          ∙ ap (λ x. take j cs ++ left ∷ x ∷ drop (suc (suc j)) cs) (sym (r ∙ ap (slice_index cs) nx));
      keys = cut_at ks j key k;
      before = length-take-le j cs low ∙ sym ka;
      behind = length-drop (suc (suc j)) cs ∙ less (length cs) (length ks) j n ∙ sym (length-drop (suc j) ks);
      place = ka;
    }
  where
    less : (m n j : ℕ) → m ≡ n + 1 → m - suc (suc j) ≡ n - suc j
    less m n j e = omega arith

pub remove_middle : {X : Type 0} (xs : List X) (x : X) (ys : List X) (i : ℕ) → length xs ≡ i → remove (xs ++ x ∷ ys) i ≡ xs ++ ys
remove_middle [] x ys zero e = refl
remove_middle [] x ys (suc i) e = absurd (omega arith)
remove_middle (z ∷ xs) x ys zero e = absurd (omega arith)
remove_middle (z ∷ xs) x ys (suc i) e = ap (λ l. z ∷ l) (remove_middle xs x ys i (fewer (length xs) i e))

pub remove_second : (xs : List ℕ) (x y : ℕ) (ys : List ℕ) (i : ℕ) → length xs ≡ i → remove (xs ++ x ∷ y ∷ ys) (suc i) ≡ xs ++ x ∷ ys
remove_second [] x y ys zero e = refl
remove_second [] x y ys (suc i) e = absurd (omega arith)
remove_second (z ∷ xs) x y ys zero e = absurd (omega arith)
remove_second (z ∷ xs) x y ys (suc i) e = ap (λ l. z ∷ l) (remove_second xs x y ys i (fewer (length xs) i e))

pub set_middle : {X : Type 0} (xs : List X) (x z : X) (ys : List X) (i : ℕ) → length xs ≡ i → slice_set (xs ++ x ∷ ys) i z ≡ xs ++ z ∷ ys
set_middle [] x z ys zero e = refl
set_middle [] x z ys (suc i) e = absurd (omega arith)
set_middle (w ∷ xs) x z ys zero e = absurd (omega arith)
set_middle (w ∷ xs) x z ys (suc i) e = ap (λ l. w ∷ l) (set_middle xs x z ys i (fewer (length xs) i e))

-- a row of two places
pub two_rows : (S : Reading) (c d : ℕ × Bounds) (rs : List Record) (used : List ℕ) → Row S (c ∷ d ∷ []) rs used → InTurn (S c) (S d) rs used
two_rows S c d rs used row =
    let second = row.after in
    let none = second.after in
    let rest : row.rest ≡ second.first = second.records ∙ ap (λ l. second.first ++ l) none.0 ∙ append-nil second.first in
    let pages : row.rest_used ≡ second.first_used = second.is_used ∙ ap (λ l. l ++ second.first_used) none.1 in
    record {
      first = row.first;
      rest = second.first;
      first_used = row.first_used;
      rest_used = second.first_used;
      here = row.here;
      after = second.here;
      records = row.records ∙ ap (λ l. row.first ++ l) rest;
      is_used = row.is_used ∙ ap (λ l. l ++ row.first_used) pages;
    }

pub row_two : (S : Reading) (c d : ℕ × Bounds) (rs : List Record) (used : List ℕ) → InTurn (S c) (S d) rs used → Row S (c ∷ d ∷ []) rs used
row_two S c d rs used two = record {
  first = two.first;
  rest = two.rest;
  first_used = two.first_used;
  rest_used = two.rest_used;
  here = two.here;
  after =
      record {
        first = two.rest;
        rest = [];
        first_used = two.rest_used;
        rest_used = [];
        here = two.after;
        after = (refl, refl);
        records = sym (append-nil two.rest);
        is_used = refl;
      };
  records = two.records;
  is_used = two.is_used;
}

-- what the children of a page are behind an edit of those in the middle
pub record RowChanged (T : Reading) (pages news : List (List ℕ)) (free now : ℕ → Bool) (page : ℕ) (cs : List (ℕ × Bounds)) (rs : List Record)
    (under : List ℕ) : Type 0 where
  pub uses : List ℕ
  pub row : Row T cs rs uses
  pub moves : KeepsAccount pages news free now (under ++ page ∷ []) (uses ++ page ∷ [])
  pub page_stays : slice_index_or news page [] ≡ slice_index_or pages page []

-- what stands before and behind the children in the middle of a page, all of whose pages are used once
pub record StandsAround (S : Reading) (free : ℕ → Bool) (page : ℕ) (before behind : List (ℕ × Bounds)) (first last : List Record)
    (here_used under : List ℕ) : Type 0 where
  pub first_used : List ℕ
  pub last_used : List ℕ
  pub row_before : Row S before first first_used
  pub row_behind : Row S behind last last_used
  pub is_under : under ≡ (last_used ++ here_used) ++ first_used
  pub apart : AreApart free (under ++ page ∷ [])

pub around : {S : Reading} (free : ℕ → Bool) (page : ℕ) {before middle behind : List (ℕ × Bounds)} {rs : List Record} {under : List ℕ}
    (at : AtPlace S before middle behind rs under) → AreApart free (under ++ page ∷ [])
    → StandsAround S free page before behind at.first at.last at.here_used under
around free page at apart = record {
  first_used = at.first_used;
  last_used = at.last_used;
  row_before = at.row_before;
  row_behind = at.row_behind;
  is_under = at.is_used;
  apart = apart;
}

-- The children before and behind stay, and those in the middle become others by an edit of their pages.
pub middle_changed : (T : Reading) {pages news : List (List ℕ)} {free now : ℕ → Bool} (h : ℕ) {page : ℕ}
    → ((c : ℕ × Bounds) (ss : List Record) (u : List ℕ) → Subtree news (suc h) false c ss u → T c ss u) → {before : List (ℕ × Bounds)}
    (others : List (ℕ × Bounds)) {behind : List (ℕ × Bounds)} {first : List Record} (all : List Record) {last : List Record} {hu uses under : List ℕ}
    → StandsAround (Subtree pages (suc h) false) free page before behind first last hu under → Row T others all uses
    → KeepsAccount pages news free now hu uses → RowChanged T pages news free now page (before ++ (others ++ behind)) (first ++ (all ++ last)) under
middle_changed T {pages} {news} {free} {now} h {page} embed {before} others {behind} {first} all {last} {hu} {uses} {under} beside row moves =
    let fu = beside.first_used in
    let lu = beside.last_used in
    let is = beside.is_under in
    let apart = beside.apart in
    let total : (p : ℕ) → multiplicity p (under ++ page ∷ []) ≡ multiplicity p lu + multiplicity p hu + multiplicity p fu + multiplicity p (page ∷ []) =
    λ p. times-append p under (page ∷ []) ∙ ap (λ n. n + multiplicity p (page ∷ [])) (ap (multiplicity p) is ∙ times-three p lu hu fu) in
    let total_now : (p : ℕ) → multiplicity p (((lu ++ uses) ++ fu) ++ page ∷ []) ≡ multiplicity p lu + multiplicity p uses + multiplicity p fu + multiplicity p (page ∷ []) =
    λ p. times-append p ((lu ++ uses) ++ fu) (page ∷ []) ∙ ap (λ n. n + multiplicity p (page ∷ [])) (times-three p lu uses fu) in
    let stay : (others : List ℕ) → ((p : ℕ) → multiplicity p hu + multiplicity p others ≤ multiplicity p (under ++ page ∷ [])) → SameOn pages news others =
    λ others parts. stays_on pages news free now hu uses others (under ++ page ∷ []) moves apart parts in
    let same_first = stay fu (λ p. in_first (multiplicity p (under ++ page ∷ [])) (multiplicity p lu) (multiplicity p hu) (multiplicity p fu) (multiplicity p (page ∷ [])) (total p)) in
    let same_last = stay lu (λ p. in_last (multiplicity p (under ++ page ∷ [])) (multiplicity p lu) (multiplicity p hu) (multiplicity p fu) (multiplicity p (page ∷ [])) (total p)) in
    let same_page = stay (page ∷ [])
    (λ p. in_page (multiplicity p (under ++ page ∷ [])) (multiplicity p lu) (multiplicity p hu) (multiplicity p fu) (multiplicity p (page ∷ [])) (total p)) in
    let one : (c : ℕ × Bounds) (ss : List Record) (u : List ℕ) → SameOn pages news u → Subtree pages (suc h) false c ss u → T c ss u =
    λ c ss u e t. embed c ss u (subtree_stays pages news moves.size (suc h) false c ss u e t) in
    record {
      uses = (lu ++ uses) ++ fu;
      row = place_back T before others behind (first ++ (all ++ last)) ((lu ++ uses) ++ fu)
          (record {
            first = first;
            here = all;
            last = last;
            first_used = fu;
            here_used = uses;
            last_used = lu;
            row_before = row_stays pages news (Subtree pages (suc h) false) T one before first fu same_first beside.row_before;
            row_here = row;
            row_behind = row_stays pages news (Subtree pages (suc h) false) T one behind last lu same_last beside.row_behind;
            records = refl;
            is_used = refl;
          });
      moves =
          moves_among pages news free now hu uses (under ++ page ∷ []) (((lu ++ uses) ++ fu) ++ page ∷ [])
          (λ p. multiplicity p lu + multiplicity p fu + multiplicity p (page ∷ []))
          (λ p. order (multiplicity p (under ++ page ∷ [])) (multiplicity p lu) (multiplicity p hu) (multiplicity p fu) (multiplicity p (page ∷ [])) (total p))
          (λ p. order (multiplicity p (((lu ++ uses) ++ fu) ++ page ∷ [])) (multiplicity p lu) (multiplicity p uses) (multiplicity p fu) (multiplicity p (page ∷ [])) (total_now p)) moves;
      page_stays = same_page page (is_in_first page);
    }
  where
    in_first : (u l h f p : ℕ) → u ≡ l + h + f + p → h + f ≤ u
    in_first u l h f p e = omega arith

    in_last : (u l h f p : ℕ) → u ≡ l + h + f + p → h + l ≤ u
    in_last u l h f p e = omega arith

    in_page : (u l h f p : ℕ) → u ≡ l + h + f + p → h + p ≤ u
    in_page u l h f p e = omega arith

    order : (u l h f p : ℕ) → u ≡ l + h + f + p → u ≡ l + f + p + h
    order u l h f p e = omega arith
