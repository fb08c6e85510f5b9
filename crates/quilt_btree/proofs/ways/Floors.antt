-- The pages that a floor reads, as it goes down.
use Rattle.std.proofs.Common.{◌≡◌, ◌≢◌, ℕ, zero, suc, ◌+◌, ◌-◌, ◌≤◌, Bool, nat_lt, true, false, ◌||◌, ◌==◌, if◌then◌else◌, List, [], ◌∷◌, ◌++◌, length, Option}
use Rattle.std.proofs.Common.{Some, None, slice_index, slice_index_or, sym, ◌∙◌, ap, arith, length-append}
use Rattle.std.proofs.lemmas.Bool.Decides.{nat_tests}
use Rattle.quilt_record.specs.declared.key.Key.{Key}
use Rattle.quilt_node.specs.Pages.{Inner, inner_of}
use Rattle.quilt_btree.specs.Floors.{last_pages, last_below, finds_floor, finds_below, floor_pages, floor_below, before_child, child_place}
use Rattle.quilt_btree.proofs.subtrees.Descending.{height_above}
use Rattle.quilt_btree.proofs.subtrees.Trees.{one_less}

module _ (pages : List (List ℕ)) (k : Key) (height page child i : ℕ) (inner : Inner) (some : 1 ≤ height) (ne : height ≢ 1)
    (here : inner_of (length pages) (slice_index_or pages page []) ≡ Some inner) (place : i ≡ child_place k inner)
    (is : child ≡ slice_index inner.children i) where
  -- and with that to which a key leads
  pub floor_splits : floor_pages pages k height page ≡ page ∷ (floor_pages pages k (height - 1) child ++ before_child (finds_floor pages k (height - 1)) (last_pages pages (height - 1)) inner i)
  floor_splits =
      let up = height_above height some ne in
      ap (λ m. floor_pages pages k m page) up.1
      ∙ ap (λ o. page ∷ floor_below (floor_pages pages k (suc up.0)) (finds_floor pages k (suc up.0)) (last_pages pages (suc up.0)) k o) here
      ∙ ap (λ j. page ∷ (floor_pages pages k (suc up.0) (slice_index inner.children j)
      ++ before_child (finds_floor pages k (suc up.0)) (last_pages pages (suc up.0)) inner j)) (sym place)
      ∙ ap (λ c. page ∷ (floor_pages pages k (suc up.0) c ++ before_child (finds_floor pages k (suc up.0)) (last_pages pages (suc up.0)) inner i)) (sym is)
      ∙ ap (λ m. page ∷ (floor_pages pages k m child ++ before_child (finds_floor pages k m) (last_pages pages m) inner i)) (sym (one_less height up.0 up.1))

  pub finds_splits : finds_floor pages k height page ≡ (nat_lt 0 i || finds_floor pages k (height - 1) child)
  finds_splits =
      let up = height_above height some ne in
      ap (λ m. finds_floor pages k m page) up.1 ∙ ap (λ o. finds_below (finds_floor pages k (suc up.0)) k o) here
      ∙ ap (λ j. nat_lt 0 j || finds_floor pages k (suc up.0) (slice_index inner.children j)) (sym place)
      ∙ ap (λ c. nat_lt 0 i || finds_floor pages k (suc up.0) c) (sym is)
      ∙ ap (λ m. nat_lt 0 i || finds_floor pages k m child) (sym (one_less height up.0 up.1))

module _ (pages : List (List ℕ)) (height child : ℕ) (inner : Inner) where
  -- an inner page, with the child to which the last record leads
  pub last_splits : (page n : ℕ) → 1 ≤ height → height ≢ 1 → inner_of (length pages) (slice_index_or pages page []) ≡ Some inner
      → n ≡ length inner.children → child ≡ slice_index inner.children (n - 1)
      → last_pages pages height page ≡ page ∷ last_pages pages (height - 1) child
  last_splits page n some ne here many is =
      let up = height_above height some ne in
      let same : child ≡ slice_index inner.children (length inner.children - 1) = is ∙ ap (λ m. slice_index inner.children (m - 1)) many in
      ap (λ m. last_pages pages m page) up.1 ∙ ap (λ o. page ∷ last_below (last_pages pages (suc up.0)) o) here
      ∙ ap (λ c. page ∷ last_pages pages (suc up.0) c) (sym same) ∙ ap (λ m. page ∷ last_pages pages m child) (sym (one_less height up.0 up.1))

  -- no more is read where the child has the record, or none stands before it
  pub found_here : (k : Key) (i : ℕ) → child ≡ slice_index inner.children i → finds_floor pages k height child ≡ true
      → before_child (finds_floor pages k height) (last_pages pages height) inner i ≡ []
  found_here k i is h =
      let yes : (finds_floor pages k height (slice_index inner.children i) || i == 0) ≡ true =
      ap (λ c. finds_floor pages k height c || i == 0) (sym is) ∙ ap (λ b. b || i == 0) h in
      ap (λ b. if b then [] else last_pages pages height (slice_index inner.children (i - 1))) yes

module _ (pages : List (List ℕ)) (k : Key) (height : ℕ) where
  pub none_before : (i : ℕ) (inner : Inner) → i ≡ 0 → before_child (finds_floor pages k height) (last_pages pages height) inner i ≡ []
  none_before i inner e =
      ap (λ b. if b then [] else last_pages pages height (slice_index inner.children (i - 1)))
      (either (finds_floor pages k height (slice_index inner.children i)) i e)
    where
      either : (b : Bool) (i : ℕ) → i ≡ 0 → (b || i == 0) ≡ true
      either b i e = grind (arith, nat_tests)

  -- and else the pages of the last record there
  pub child_before : (child prior i : ℕ) (inner : Inner) → child ≡ slice_index inner.children i → prior ≡ slice_index inner.children (i - 1)
      → finds_floor pages k height child ≡ false → i ≢ 0 → before_child (finds_floor pages k height)
      (last_pages pages height) inner i ≡ last_pages pages height prior
  child_before child prior i inner is was h ne =
      ap (λ b. if b then [] else last_pages pages height (slice_index inner.children (i - 1)))
      (either (finds_floor pages k height (slice_index inner.children i)) i (ap (finds_floor pages k height) (sym is) ∙ h) ne)
      ∙ ap (last_pages pages height) (sym was)
    where
      either : (b : Bool) (i : ℕ) → b ≡ false → i ≢ 0 → (b || i == 0) ≡ false
      either b i e ne = grind (arith, nat_tests)

-- how many pages they are
few_last : (under : ℕ → List ℕ) (n : ℕ) (o : Option Inner) → ((c : ℕ) → length (under c) ≤ n) → length (last_below under o) ≤ n
few_last under n None f = omega arith
few_last under n (Some inner) f = f (slice_index inner.children (length inner.children - 1))

pub length_last : (pages : List (List ℕ)) (height page : ℕ) → length (last_pages pages height page) ≤ height
length_last pages zero page = omega arith
length_last pages (suc zero) page = omega arith
length_last pages (suc (suc h)) page =
    let below = few_last (last_pages pages (suc h)) (suc h) (inner_of (length pages) (slice_index_or pages page []))
    (λ c. length_last pages (suc h) c) in
    omega arith

few_floor : (pages : List (List ℕ)) (k : Key) (h m : ℕ) (o : Option Inner) → ((c : ℕ) → length (floor_pages pages k h c) ≤ m)
    → length (floor_below (floor_pages pages k h) (finds_floor pages k h) (last_pages pages h) k o) ≤ m + h
few_floor pages k h m None f = omega arith
few_floor pages k h m (Some inner) f =
    let finds = finds_floor pages k h in
    let c = slice_index inner.children (child_place k inner) in
    let a = f c in
    let b = either (finds c || child_place k inner == 0) (last_pages pages h (slice_index inner.children (child_place k inner - 1)))
    (length_last pages h (slice_index inner.children (child_place k inner - 1))) in
    omega (arith, length-append (floor_pages pages k h c) (before_child finds (last_pages pages h) inner (child_place k inner)))
  where
    either : (b : Bool) (l : List ℕ) → length l ≤ h → length (if b then [] else l) ≤ h
    either true l e = omega arith
    either false l e = e

floor_one : (pages : List (List ℕ)) (k : Key) (page : ℕ) → length (floor_pages pages k 1 page) ≤ 1
floor_one pages k page = omega arith

floor_two : (pages : List (List ℕ)) (k : Key) (page : ℕ) → length (floor_pages pages k 2 page) ≤ 3
floor_two pages k page =
    let below = few_floor pages k 1 1 (inner_of (length pages) (slice_index_or pages page [])) (floor_one pages k) in
    omega arith

floor_three : (pages : List (List ℕ)) (k : Key) (page : ℕ) → length (floor_pages pages k 3 page) ≤ 6
floor_three pages k page =
    let below = few_floor pages k 2 3 (inner_of (length pages) (slice_index_or pages page [])) (floor_two pages k) in
    omega arith

pub length_floor : (pages : List (List ℕ)) (k : Key) (height page : ℕ) → height ≤ 3 → length (floor_pages pages k height page) ≤ 6
length_floor pages k zero page le = omega arith
length_floor pages k (suc zero) page le = let h = floor_one pages k page in omega arith
length_floor pages k (suc (suc zero)) page le = let h = floor_two pages k page in omega arith
length_floor pages k (suc (suc (suc zero))) page le = floor_three pages k page
length_floor pages k (suc (suc (suc (suc h)))) page le = absurd (omega arith)
