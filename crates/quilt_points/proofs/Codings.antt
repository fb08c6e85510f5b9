-- Points in the order of their codes: what the order says, and what it is to be sorted by them.
use Rattle.std.proofs.Common.{◌≡◌, ℕ, zero, suc, ◌+◌, ◌-◌, ◌/◌, ◌^◌, ◌<◌, ◌≤◌, true, List, [], ◌∷◌, ◌++◌, map, take, drop, length, get_or, refl, sym, ◌∙◌, ap, ap₂, subst}
use Rattle.std.proofs.Common.{⊎_elim, arith, Contains, All, Ordering, nat_cmp}
use Rattle.std.specs.Ordering.{is_lt}
use Rattle.std.specs.Cmp.{nat_cmp_total, on_total}
use Rattle.std.specs.List.Sorted.{IsPermutation, IsSortedByKey}
use Rattle.std.proofs.lemmas.Bool.{cases_lt, both_ways}
use Rattle.std.proofs.lemmas.List.{get_or_default, map-append, take_all, length-drop}
use Rattle.std.proofs.lemmas.List.Elements.{All-append, All-cons, All-take}
use Rattle.std.proofs.lemmas.List.Sorted.{IsPermutation-map}
use Rattle.quilt_types.specs.declared.plane.Pixel.{Pixel}
use Rattle.quilt_types.specs.declared.plane.Block.{Block}
use Rattle.quilt_types.specs.declared.plane.Point.{Point}
use Rattle.quilt_types.specs.Codes.{code}
use Rattle.quilt_types.specs.Plane.{is_pixel}
use Rattle.quilt_types.proofs.CodeTables.{interleaved_gathered, gathered_below}
use Rattle.quilt_loc.specs.Codes.{Rises, code_at, code_from}
use Rattle.quilt_loc.proofs.Members.{Contains-here, Contains-there, Contains-cons_cases, Contains-nil, Contains-map, Contains-map_from}
use Rattle.quilt_loc.proofs.CodeLaws.{code_alone, code_below}
use Rattle.quilt_loc.proofs.Rising.{Rises-map, nat_less, nat_less_from}
use Rattle.quilt_spell.specs.Apart.{Apart}
use Rattle.quilt_edits.proofs.Lists.{member_at, take_next, taken_there}
use Rattle.quilt_edits.proofs.Ascents.{permuted, Apart-permuted}
use Rattle.quilt_points.specs.declared.coded.Coded.{Coded}
use Rattle.quilt_points.specs.Coding.{by_code, AreInCodeOrder, coded, pixel_with, decoded, IsStepwise, HasFall}
use Rattle.quilt_points.proofs.Finds.{pixel_in}
use Rattle.quilt_points.proofs.Windows.{steps_rise}

-- ---- parts of rising lists
pub Rises-drop : {X : Type 0} (R : X → X → Ordering) (i : ℕ) (xs : List X) → Rises R xs → Rises R (drop i xs)
Rises-drop R zero xs h = h
Rises-drop R (suc i) [] h = tt
Rises-drop R (suc i) (x ∷ xs) h = Rises-drop R i xs h.1

pub dropped_there : {X : Type 0} (xs : List X) (i : ℕ) (x : X) → Contains (drop i xs) x → Contains xs x
dropped_there xs zero x c = c
dropped_there [] (suc i) x c = c
dropped_there (y ∷ ys) (suc i) x c = Contains-there y ys x (dropped_there ys i x c)

pub Rises-take : {X : Type 0} (R : X → X → Ordering) (i : ℕ) (xs : List X) → Rises R xs → Rises R (take i xs)
Rises-take R zero xs h = tt
Rises-take R (suc i) [] h = tt
Rises-take R (suc i) (x ∷ xs) h = (λ y c. h.0 y (taken_there xs i y c), Rises-take R i xs h.1)

take_none : {X : Type 0} (k : ℕ) → take {A = X} k [] ≡ []
take_none zero = refl
take_none (suc k) = refl

drop_none : {X : Type 0} (k : ℕ) → drop {A = X} k [] ≡ []
drop_none zero = refl
drop_none (suc k) = refl

pub take_further : {X : Type 0} (i k : ℕ) (xs : List X) → take i xs ++ take k (drop i xs) ≡ take (i + k) xs
take_further zero k xs = let e : k ≡ 0 + k = omega arith in ap (λ n. take n xs) e
take_further (suc i) k [] = take_none k ∙ sym (take_none (suc i + k))
take_further (suc i) k (x ∷ xs) = let e : suc (i + k) ≡ suc i + k = omega arith in ap (λ l. x ∷ l) (take_further i k xs) ∙ ap (λ n. take n (x ∷ xs)) e

pub drop_further : {X : Type 0} (i k : ℕ) (xs : List X) → drop k (drop i xs) ≡ drop (i + k) xs
drop_further zero k xs = let e : k ≡ 0 + k = omega arith in ap (λ n. drop n xs) e
drop_further (suc i) k [] = drop_none k ∙ sym (drop_none (suc i + k))
drop_further (suc i) k (x ∷ xs) = let e : suc (i + k) ≡ suc i + k = omega arith in drop_further i k xs ∙ ap (λ n. drop n (x ∷ xs)) e

-- all that is left, as a slice to the end has it
pub rest_is : {X : Type 0} (i : ℕ) (xs : List X) → take (length xs - i) (drop i xs) ≡ drop i xs
rest_is i xs = let l = length-drop i xs in take_all (length xs - i) (drop i xs) (omega arith)

pub all_next : {X : Type 0} (P : X → Type 0) (xs : List X) (i : ℕ) (d : X) → All P (take i xs) → i < length xs → P (get_or xs i d) → All P (take (i + 1) xs)
all_next P xs i d h lt one =
    subst (All P) (sym (take_next xs i d lt))
    (All-append P (take i xs) (get_or xs i d ∷ []) h (All-cons P (get_or xs i d) [] one (λ k e none. absurd (omega arith))))

-- ---- the order of codes
-- the first has the least code
pub first_least : (xs : List Point) (d : Point) (p : Point) → Rises by_code xs → Contains xs p → code_at (get_or xs 0 d).at ≤ code_at p.at
first_least [] d p up c = absurd (Contains-nil p c)
first_least (x ∷ xs) d p up c =
    ⊎_elim (λ is. let e = ap (λ (q : Point). code_at q.at) is in omega arith) (λ m. let lt =
    nat_less_from (code_at x.at) (code_at p.at) (up.0 p m) in omega arith) (Contains-cons_cases x xs p c)

-- codes do not fall
pub codes_up : (xs : List Point) (i j : ℕ) (d : Point) → Rises by_code xs → i ≤ j → j < length xs → code_at (get_or xs i d).at ≤ code_at (get_or xs j d).at
codes_up [] i j d up le lt = absurd (omega arith)
codes_up (x ∷ xs) zero j d up le lt = first_least (x ∷ xs) d (get_or (x ∷ xs) j d) up (member_at (x ∷ xs) j d lt)
codes_up (x ∷ xs) (suc i) zero d up le lt = absurd (omega arith)
codes_up (x ∷ xs) (suc i) (suc j) d up le lt = codes_up xs i j d up.1 (omega arith) (omega arith)

pub InOrder-take : (b : Block) (k : ℕ) (xs : List Point) → AreInCodeOrder b xs → AreInCodeOrder b (take k xs)
InOrder-take b k xs h = record {
  rises = Rises-take by_code k xs h.rises;
  least = All-take (λ (p : Point). code_from b ≤ code_at p.at) k xs h.least;
}

-- points in this order have pixels of their own
pub pixels_apart : (xs : List Point) → Rises by_code xs → Apart (map (λ p. p.at) xs)
pixels_apart [] h = tt
pixels_apart (x ∷ xs) h = (
  λ c.
      let m = Contains-map_from (λ (p : Point). p.at) xs x.at c in
      let lt = nat_less_from (code_at x.at) (code_at (m.0).at) (h.0 m.0 m.1) in
      let e = ap code_at m.2 in
      omega arith,
  pixels_apart xs h.1,
)

-- ---- points by their codes
-- what a list has for the first elements of another, it has for one more
pub mapped_next : {X Y : Type 0} (f : X → Y) (old new : List Y) (xs : List X) (i : ℕ) (d : X) (r : Y) → new ≡ old ++ r ∷ [] → old ≡ map f (take i xs)
    → i < length xs → r ≡ f (get_or xs i d) → new ≡ map f (take (i + 1) xs)
mapped_next f old new xs i d r is has lt row =
    is ∙ (λ j. has j ++ row j ∷ []) ∙ sym (map-append f (take i xs) (get_or xs i d ∷ [])) ∙ ap (map f) (sym (take_next xs i d lt))

pub fall_at : (xs : List Coded) (i : ℕ) (e : Coded) → 1 ≤ i → i < length xs → (get_or xs i e).code ≤ (get_or xs (i - 1) e).code → HasFall xs
fall_at xs i e least lt le =
    let at : suc (i - 1) ≡ i = omega arith in (
      i - 1,
      (let less : suc (i - 1) < length xs = omega arith in less),
      λ d.
          let a = ap (λ (c : Coded). c.code) (get_or_default xs (suc (i - 1)) d e (omega arith) ∙ ap (λ n. get_or xs n e) at) in
          let b = ap (λ (c : Coded). c.code) (get_or_default xs (i - 1) d e (omega arith)) in
          omega arith,
    )

-- the pixel that is made of a code has it
code_with : (c : ℕ) → c < 4 ^ 12 → code_at (pixel_with c) ≡ c
unfolding code
code_with c lt = interleaved_gathered 12 c lt

-- and no other has
pub pixel_is : (c : ℕ) (p : Pixel) → c < 4 ^ 12 → p.x < 4096 → p.y < 4096 → code_at p ≡ c → p ≡ pixel_with c
pixel_is c p lt in_x in_y is =
    let x = gathered_below 12 c in
    let y = gathered_below 12 (c / 2) in
    code_alone p (pixel_with c) in_x in_y (omega arith) (omega arith) (is ∙ sym (code_with c lt))

same_point : (p : Point) → is_pixel 12 p.at ≡ true → decoded (coded p) ≡ p
same_point p t =
    let xy = pixel_in 12 p.at t in
    let x = xy.0 in
    let y = xy.1 in
    ap (λ (a : Pixel). record { at = a; label = p.label }) (sym (pixel_is (code_at p.at) p.at (code_below p.at.x p.at.y) (omega arith) (omega arith) refl))

same_points : (ps : List Point) → All (λ p. is_pixel 12 p.at ≡ true) ps → map decoded (map coded ps) ≡ ps
same_points [] h = refl
same_points (p ∷ ps) h =
    ap₂ (λ (q : Point) (l : List Point). q ∷ l) (same_point p (h 0 p (omega arith))) (same_points ps (λ k d lt. h (suc k) d (omega arith)))

same_pixels : (ps : List Point) → All (λ p. is_pixel 12 p.at ≡ true) ps → map (λ (c : Coded). (decoded c).at) (map coded ps) ≡ map (λ p. p.at) ps
same_pixels [] h = refl
same_pixels (p ∷ ps) h =
    ap₂ (λ (a : Pixel) (l : List Pixel). a ∷ l) (ap (λ (q : Point). q.at) (same_point p (h 0 p (omega arith))))
    (same_pixels ps (λ k d lt. h (suc k) d (omega arith)))

-- elements at two places of a list differ by what tells all apart
key_apart : {X Y : Type 0} (f : X → Y) (xs : List X) (k : ℕ) (d : X) → Apart (map f xs) → suc k < length xs → f (get_or xs k d) ≡ f (get_or xs (suc k) d) → ⊥
key_apart f [] k d h lt e = absurd (omega arith)
key_apart f (x ∷ []) k d h lt e = absurd (omega arith)
key_apart f (x ∷ y ∷ xs) zero d h lt e = h.0 (subst (Contains (map f (y ∷ xs))) (sym e) (Contains-map f (y ∷ xs) y (Contains-here y xs)))
key_apart f (x ∷ y ∷ xs) (suc k) d h lt e = key_apart f (y ∷ xs) k d h.1 (omega arith) e

module _ (ps : List Point) (inside : All (λ q. is_pixel 12 q.at ≡ true) ps) (cs sorted : List Coded) (are : cs ≡ map coded ps) (p : IsPermutation cs sorted) where
  perm : IsPermutation (map coded ps) sorted
  perm = subst (λ (l : List Coded). IsPermutation l sorted) are p

  pub points_same : (vs : List Point) → vs ≡ map decoded sorted → IsPermutation ps vs
  points_same vs is =
      subst (IsPermutation ps) (sym is)
      (subst (λ (l : List Point). IsPermutation l (map decoded sorted)) (same_points ps inside) (IsPermutation-map decoded (map coded ps) sorted perm))

  -- each has the code of a pixel
  below : (c : Coded) → Contains sorted c → c.code < 4 ^ 12
  below c m =
      let u = Contains-map_from coded ps c ((permuted (map coded ps) sorted perm c).1 m) in
      subst (λ (z : Coded). z.code < 4 ^ 12) u.2 (code_below (u.0).at.x (u.0).at.y)

  pub all_below : All (λ c. c.code < 4 ^ 12) sorted
  all_below = λ k d lt. below (get_or sorted k d) (member_at sorted k d lt)

  pub points_rise : IsStepwise sorted → (vs : List Point) → vs ≡ map decoded sorted → Rises by_code vs
  points_rise steps vs is =
      let R : Coded → Coded → Ordering = λ c d. nat_cmp c.code d.code in
      let rises : Rises R sorted = steps_rise R (on_total (λ (c : Coded). c.code) nat_cmp_total) sorted
      (λ k d lt. nat_less (get_or sorted k d).code (get_or sorted (suc k) d).code (steps k d lt)) in
      subst (Rises by_code) (sym is)
      (Rises-map R by_code decoded sorted (λ c d mc md less.
      let lt = nat_less_from c.code d.code less in
      let a = code_with c.code (below c mc) in
      let b = code_with d.code (below d md) in
      nat_less (code_at (decoded c).at) (code_at (decoded d).at) (omega arith)) rises)

  -- where a sorted list does not rise two points share a pixel
  pub no_fall : IsSortedByKey (λ c. c.code) nat_cmp sorted → HasFall sorted → Apart (map (λ q. q.at) ps) → ⊥
  no_fall up fall apart =
      let k = fall.0 in
      let le = fall.2 start in
      let ge : (get_or sorted k start).code ≤ (get_or sorted (suc k) start).code =
      ⊎_elim (λ lt. absurd (both_ways (is_lt (nat_cmp (get_or sorted (suc k) start).code (get_or sorted k start).code))
      (ap (λ n. is_lt (nat_cmp (get_or sorted n start).code (get_or sorted k start).code)) next
      ∙ up k start (omega arith) (let lt' = fall.1 in omega arith))
      (ap is_lt (nat_less (get_or sorted (suc k) start).code (get_or sorted k start).code lt)))) (λ h. h)
      (cases_lt (get_or sorted (suc k) start).code (get_or sorted k start).code) in
      let same : (get_or sorted k start).code ≡ (get_or sorted (suc k) start).code = omega arith in
      key_apart (λ (c : Coded). (decoded c).at) sorted k start
      (Apart-permuted (map (λ (q : Point). q.at) ps) (map (λ (c : Coded). (decoded c).at) sorted)
      (subst (λ (l : List Pixel). IsPermutation l (map (λ (c : Coded). (decoded c).at) sorted)) (same_pixels ps inside)
      (IsPermutation-map (λ (c : Coded). (decoded c).at) (map coded ps) sorted perm)) apart)
      fall.1 (ap pixel_with same)
    where
      start : Coded
      start = record { code = 0; label = 0 }

      next : suc fall.0 ≡ fall.0 + 1
      next = omega arith
