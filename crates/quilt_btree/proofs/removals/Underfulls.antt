-- A subtree with one record or child too few among others that are whole.
use Rattle.std.proofs.Common.{◌≡◌, ◌⊎◌, inl, inr, ℕ, zero, suc, ◌+◌, ◌<◌, ◌≤◌, Bool, true, false, ◌||◌, ◌&&◌, ◌==◌, nat_le, List, [], ◌∷◌, ◌++◌, length, Option}
use Rattle.std.proofs.lemmas.Bool.{and_parts}
use Rattle.std.proofs.Common.{Some, slice_index, slice_index_or, refl, sym, ◌∙◌, ap, subst, arith}
use Rattle.std.specs.Prelude.{slice_get}
use Rattle.std.specs.List.{list_all}
use Rattle.std.specs.Ordering.{is_lt}
use Rattle.std.proofs.lemmas.Option.{same_Some}
use Rattle.quilt_record.specs.declared.key.Key.{Key}
use Rattle.quilt_record.specs.declared.record.Record.{Record}
use Rattle.quilt_record.specs.Records.{key_cmp}
use Rattle.quilt_node.specs.Pages.{Inner, inner_of, is_ascending}
use Rattle.quilt_node.specs.Tree.{Bounds, bounded, is_above, is_below, are_within}
use Rattle.quilt_btree.specs.Subtree.{Row, Subtree}
use Rattle.quilt_btree.specs.Edits.{multiplicity, IsNearlyFull}
use Rattle.quilt_btree.specs.Rebalancing.{IsNear, CanRebalance, Partly, HasUnderfull}
use Rattle.quilt_btree.proofs.lists.Counts.{times-append, times-three, equal_pages, once_here, some_not_none}
use Rattle.quilt_btree.proofs.stores.Moves.{AreApart, apart_some}
use Rattle.quilt_btree.proofs.removals.LeafRemovals.{not_root}
use Rattle.quilt_btree.proofs.rows.Places.{front, from_keys, high_from, at_place}
use Rattle.quilt_btree.proofs.subtrees.Descents.{keys_behind}
use Rattle.quilt_btree.proofs.subtrees.Trees.{inner_list, ascending_first}
use Rattle.quilt_btree.proofs.rows.Middles.{rear, gap_bounds, bounded_two, CutTwo, cut_two, two_rows}
use Rattle.quilt_btree.proofs.rows.Splices.{page_in}

pub weaker : (pages : List (List ℕ)) (height : ℕ) (r : Bool) (at : ℕ × Bounds) (rs : List Record) (used : List ℕ) → Subtree pages height r at rs used
    → Subtree pages height true at rs used
weaker pages zero r at rs used s = s
weaker pages (suc zero) r at rs used s = record { page = s.page; enough = refl; within = s.within; is_used = s.is_used }
weaker pages (suc (suc h)) r at rs used s =
    record {
      inner = s.inner;
      page = s.page;
      is_height = s.is_height;
      enough = refl;
      within = s.within;
      under = s.under;
      children = s.children;
      is_used = s.is_used;
    }

pub any_root : (pages : List (List ℕ)) (height : ℕ) (r : Bool) (at : ℕ × Bounds) (rs : List Record) (used : List ℕ)
    → Subtree pages height false at rs used → Subtree pages height r at rs used
any_root pages height true at rs used s = weaker pages height false at rs used s
any_root pages height false at rs used s = s

full_nearly : (pages : List (List ℕ)) (height : ℕ) (at : ℕ × Bounds) (rs : List Record) (used : List ℕ) → Subtree pages height false at rs used
    → IsNearlyFull pages height at.0
full_nearly pages zero at rs used s = s
full_nearly pages (suc zero) at rs used s = λ ss e.
    let same : ss ≡ rs = same_Some ss rs (sym e ∙ s.page) in
    let many = not_root false 72 (length rs) s.enough refl in
    subst (λ l. 71 ≤ length l) (sym same) (less (length rs) many)
  where
    less : (n : ℕ) → 72 ≤ n → 71 ≤ n
    less n h = omega arith
full_nearly pages (suc (suc h)) at rs used s = λ inner e.
    let same : inner ≡ s.inner = same_Some inner s.inner (sym e ∙ s.page) in
    let many = not_root false 127 (length s.inner.children) s.enough refl in
    subst (λ (i : Inner). 126 ≤ length i.children) (sym same) (less_one (length s.inner.children) many)
  where
    less_one : (n : ℕ) → 127 ≤ n → 126 ≤ n
    less_one n h = omega arith

module _ (pages : List (List ℕ)) (height underfull : ℕ) where
  near_case : (at : ℕ × Bounds) (rs : List Record) (used : List ℕ) (r : Bool) → (at.0 == underfull) ≡ r → Subtree pages height r at rs used
      → IsNearlyFull pages height underfull → IsNear pages height at rs used
  near_case at rs used true e s n =
      record { subtree = s; nearly = subst (IsNearlyFull pages height) (sym (equal_pages at.0 underfull e)) n }
  near_case at rs used false e s n =
      record { subtree = weaker pages height false at rs used s; nearly = full_nearly pages height at rs used s }

  pub near_partly : (at : ℕ × Bounds) (rs : List Record) (used : List ℕ) → Partly pages height underfull at rs used
      → IsNearlyFull pages height underfull → IsNear pages height at rs used
  near_partly at rs used s n = near_case at rs used (at.0 == underfull) refl s n

-- a subtree uses its own page
pub page_used : (pages : List (List ℕ)) (height : ℕ) (r : Bool) (at : ℕ × Bounds) (rs : List Record) (used : List ℕ)
    → Subtree pages height r at rs used → 1 ≤ multiplicity at.0 used
page_used pages zero r at rs used s = absurd s
page_used pages (suc zero) r at rs used s = subst (λ u. 1 ≤ multiplicity at.0 u) (sym s.is_used) (once_here at.0)
page_used pages (suc (suc h)) r at rs used s = subst (λ u. 1 ≤ multiplicity at.0 u) (sym s.is_used) (page_in at.0 s.under)

module _ (pages : List (List ℕ)) (height underfull : ℕ) where
  whole_case : (at : ℕ × Bounds) (rs : List Record) (used : List ℕ) (r : Bool) → (at.0 == underfull) ≡ r → multiplicity underfull used ≡ 0
      → Subtree pages height r at rs used → Subtree pages height false at rs used
  whole_case at rs used true e none s =
      let some = page_used pages height true at rs used s in
      absurd (some_not_none (multiplicity at.0 used) some (ap (λ p. multiplicity p used) (equal_pages at.0 underfull e) ∙ none))
  whole_case at rs used false e none s = s

  -- where the underfull page is not used, all is whole
  pub whole_row : (cs : List (ℕ × Bounds)) (rs : List Record) (used : List ℕ) → multiplicity underfull used ≡ 0
      → Row (Partly pages height underfull) cs rs used → Row (Subtree pages height false) cs rs used
  whole_row [] rs used none row = row
  whole_row (c ∷ cs) rs used none row =
      let total = ap (multiplicity underfull) row.is_used ∙ times-append underfull row.rest_used row.first_used in
      let none_first : multiplicity underfull row.first_used ≡ 0 =
      zero_first (multiplicity underfull used) (multiplicity underfull row.rest_used) (multiplicity underfull row.first_used) total none in
      let none_rest : multiplicity underfull row.rest_used ≡ 0 =
      zero_rest (multiplicity underfull used) (multiplicity underfull row.rest_used) (multiplicity underfull row.first_used) total none in
      record {
        first = row.first;
        rest = row.rest;
        first_used = row.first_used;
        rest_used = row.rest_used;
        here = whole_case c row.first row.first_used (c.0 == underfull) refl none_first row.here;
        after = whole_row cs row.rest row.rest_used none_rest row.after;
        records = row.records;
        is_used = row.is_used;
      }
    where
      zero_first : (u r f : ℕ) → u ≡ r + f → u ≡ 0 → f ≡ 0
      zero_first u r f e h = omega arith

      zero_rest : (u r f : ℕ) → u ≡ r + f → u ≡ 0 → r ≡ 0
      zero_rest u r f e h = omega arith

-- the key between two neighbours lies within the bounds of both
pub gap_low : (ka : List Key) (key : Key) (kb : List Key) (b : Bounds) → is_ascending (ka ++ key ∷ kb) ≡ true → are_within b (ka ++ key ∷ kb) ≡ true
    → is_above (gap_bounds ka kb b).low key ≡ true
gap_low ka key kb b a w =
    let behind = keys_behind ka (key ∷ kb) b a w in
    (and_parts (is_above (from_keys ka b).low key) (is_below (from_keys ka b).high key)
    (and_parts (is_above (from_keys ka b).low key && is_below (from_keys ka b).high key) (are_within (from_keys ka b) kb) behind.within).0).0

pub gap_high : (ka : List Key) (key : Key) (kb : List Key) (b : Bounds) → is_ascending (ka ++ key ∷ kb) ≡ true → are_within b (ka ++ key ∷ kb) ≡ true
    → is_below (gap_bounds ka kb b).high key ≡ true
gap_high ka key [] b a w =
    let behind = keys_behind ka (key ∷ []) b a w in
    subst (λ o. is_below o key ≡ true) (high_from ka b)
    (and_parts (is_above (from_keys ka b).low key) (is_below (from_keys ka b).high key)
    (and_parts (is_above (from_keys ka b).low key && is_below (from_keys ka b).high key) true behind.within).0).1
gap_high ka key (k ∷ kb) b a w =
    let behind = keys_behind ka (key ∷ k ∷ kb) b a w in
    (and_parts (is_lt (key_cmp key k)) (list_all (λ l. is_lt (key_cmp key l)) kb) (ascending_first key (k ∷ kb) behind.ascend)).0

-- The two neighbours of which one may be underfull, with what stands around them.
pub record Neighbours (told : Option (List (List ℕ))) (free : ℕ → Bool) (page below : ℕ) (inner : Inner) (j left : ℕ) (key : Key) (right : ℕ)
    (is_root : Bool) (b : Bounds) (rs : List Record) (used : List ℕ) : Type 0 where
  pub pages : List (List ℕ)
  pub is_told : told ≡ Some pages
  pub cut : CutTwo inner.children inner.keys j left key right
  pub page_is : inner_of (length pages) (slice_index_or pages page []) ≡ Some inner
  pub inner_height : inner.height ≡ suc (suc below)
  pub enough : (is_root || nat_le 127 (length inner.children)) ≡ true
  pub within : are_within b (cut.ka ++ key ∷ cut.kb) ≡ true
  pub ascends : is_ascending (cut.ka ++ key ∷ cut.kb) ≡ true
  pub first : List Record
  pub here : List Record
  pub last : List Record
  pub first_used : List ℕ
  pub here_used : List ℕ
  pub last_used : List ℕ
  pub under : List ℕ
  pub row_before : Row (Subtree pages (suc below) false) (front cut.ca cut.ka b) first first_used
  pub row_behind : Row (Subtree pages (suc below) false) (rear cut.cb cut.kb b.high) last last_used
  pub can : CanRebalance told free (suc below) left key right (gap_bounds cut.ka cut.kb b) here here_used
  pub records : rs ≡ first ++ (here ++ last)
  pub is_under : under ≡ (last_used ++ here_used) ++ first_used
  pub is_used : used ≡ under ++ page ∷ []
  pub apart : AreApart free used

module _ (left right : ℕ) where
  -- one of the two is the underfull one
  one_underfull : (underfull : ℕ) (l r hu : List ℕ) → (underfull ≡ left) ⊎ (underfull ≡ right) → hu ≡ r ++ l → 1 ≤ multiplicity left l → 1 ≤ multiplicity right r
      → 1 ≤ multiplicity underfull hu
  one_underfull underfull l r hu (inl e) is p q =
      let t : multiplicity left hu ≡ multiplicity left r + multiplicity left l = ap (multiplicity left) is ∙ times-append left r l in
      subst (λ n. 1 ≤ multiplicity n hu) (sym e) (omega arith)
  one_underfull underfull l r hu (inr e) is p q =
      let t : multiplicity right hu ≡ multiplicity right r + multiplicity right l = ap (multiplicity right) is ∙ times-append right r l in
      subst (λ n. 1 ≤ multiplicity n hu) (sym e) (omega arith)

  pub which_underfull : (cs : List ℕ) (i j next : ℕ) → (j ≡ i) ⊎ (j + 1 ≡ i) → next ≡ suc j → left ≡ slice_index cs j → right ≡ slice_index cs next
      → (slice_index cs i ≡ left) ⊎ (slice_index cs i ≡ right)
  which_underfull cs i j next (inl e) n l r = inl (ap (slice_index cs) (sym e) ∙ sym l)
  which_underfull cs i j next (inr e) n l r = let f : i ≡ next = omega arith in inr (ap (slice_index cs) f ∙ sym r)

pub neighbours : {told : Option (List (List ℕ))} {free : ℕ → Bool} {page height : ℕ} {inner : Inner} {i : ℕ} {is_root : Bool} {b : Bounds}
    {rs : List Record} {used : List ℕ} (s : HasUnderfull told free page height inner i is_root b rs used) (j : ℕ) {next left : ℕ} {key : Key}
    {right : ℕ} → j + 1 < length inner.children → (j ≡ i) ⊎ (j + 1 ≡ i) → next ≡ suc j → left ≡ slice_index inner.children j
    → right ≡ slice_index inner.children next → slice_get inner.keys j ≡ Some key
    → Neighbours told free page s.below inner j left key right is_root b rs used
neighbours {free} {page} {inner} {i} {b} {rs} {used} s j {next} {left} {key} {right} lt one nx l r k =
    let list = inner_list (length s.pages) (slice_index_or s.pages page []) inner s.page_is in
    let cut = cut_two inner.children inner.keys list.keys lt nx l r k in
    let underfull = slice_index inner.children i in
    let P = Partly s.pages (suc s.below) underfull in
    let gap = gap_bounds cut.ka cut.kb b in
    let low : ℕ × Bounds = (left, record { low = gap.low; high = Some key }) in
    let high : ℕ × Bounds = (right, record { low = Some key; high = gap.high }) in
    let within : are_within b (cut.ka ++ key ∷ cut.kb) ≡ true = subst (λ x. are_within b x ≡ true) cut.keys s.within in
    let ascends : is_ascending (cut.ka ++ key ∷ cut.kb) ≡ true = subst (λ x. is_ascending x ≡ true) cut.keys list.ascends in
    let row = subst (λ x. Row P x rs s.under) (bounded_two cut.ca left right cut.cb cut.ka key cut.kb b cut.before cut.behind)
    (subst (λ x. Row P (bounded x (cut.ka ++ key ∷ cut.kb) b) rs s.under) cut.children
    (subst (λ x. Row P (bounded inner.children x b) rs s.under) cut.keys s.children)) in
    let at = at_place P (front cut.ca cut.ka b) (low ∷ high ∷ []) (rear cut.cb cut.kb b.high) rs s.under row in
    let two = two_rows P low high at.here at.here_used at.row_here in
    let total : (p : ℕ) → multiplicity p used ≡ multiplicity p at.last_used + multiplicity p at.here_used + multiplicity p at.first_used + multiplicity p (page ∷ []) =
    λ p. ap (multiplicity p) s.is_used ∙ times-append p s.under (page ∷ [])
    ∙ ap (λ n. n + multiplicity p (page ∷ [])) (ap (multiplicity p) at.is_used ∙ times-three p at.last_used at.here_used at.first_used) in
    let some =
    one_underfull left right underfull two.first_used two.rest_used at.here_used (which_underfull left right inner.children i j next one nx l r)
    two.is_used
    (page_used s.pages (suc s.below) (left == underfull) low two.first two.first_used two.here)
    (page_used s.pages (suc s.below) (right == underfull) high two.rest two.rest_used two.after) in
    let bound = least free used underfull s.apart in
    record {
      pages = s.pages;
      is_told = s.is_told;
      cut = cut;
      page_is = s.page_is;
      inner_height = s.inner_height ∙ s.is_height;
      enough = s.enough;
      within = within;
      ascends = ascends;
      first = at.first;
      here = at.here;
      last = at.last;
      first_used = at.first_used;
      here_used = at.here_used;
      last_used = at.last_used;
      under = s.under;
      row_before = whole_row s.pages (suc s.below) underfull (front cut.ca cut.ka b) at.first at.first_used
          (none_first (multiplicity underfull used) (multiplicity underfull at.last_used) (multiplicity underfull at.here_used) (multiplicity underfull at.first_used)
          (multiplicity underfull (page ∷ [])) (total underfull) some bound) at.row_before;
      row_behind = whole_row s.pages (suc s.below) underfull (rear cut.cb cut.kb b.high) at.last at.last_used
          (none_last (multiplicity underfull used) (multiplicity underfull at.last_used) (multiplicity underfull at.here_used) (multiplicity underfull at.first_used)
          (multiplicity underfull (page ∷ [])) (total underfull) some bound) at.row_behind;
      can = record {
        pages = s.pages;
        is_told = s.is_told;
        first = two.first;
        rest = two.rest;
        first_used = two.first_used;
        rest_used = two.rest_used;
        is_left = near_partly s.pages (suc s.below) underfull low two.first two.first_used two.here s.nearly;
        is_right = near_partly s.pages (suc s.below) underfull high two.rest two.rest_used two.after s.nearly;
        records = two.records;
        is_used = two.is_used;
        low = gap_low cut.ka key cut.kb b ascends within;
        high = gap_high cut.ka key cut.kb b ascends within;
        apart = apart_some free at.here_used used
            (λ p. inside (multiplicity p used) (multiplicity p at.last_used) (multiplicity p at.here_used) (multiplicity p at.first_used) (multiplicity p (page ∷ [])) (total p)) s.apart;
      };
      records = at.records;
      is_under = at.is_used;
      is_used = s.is_used;
      apart = s.apart;
    }
  where
    least : (free : ℕ → Bool) (used : List ℕ) (p : ℕ) → AreApart free used → multiplicity p used ≤ 1
    least free used p apart = let h = apart p in omega arith

    none_first : (u l h f p : ℕ) → u ≡ l + h + f + p → 1 ≤ h → u ≤ 1 → f ≡ 0
    none_first u l h f p e a c = omega arith

    none_last : (u l h f p : ℕ) → u ≡ l + h + f + p → 1 ≤ h → u ≤ 1 → l ≡ 0
    none_last u l h f p e a c = omega arith

    inside : (u l h f p : ℕ) → u ≡ l + h + f + p → h ≤ u
    inside u l h f p e = omega arith
