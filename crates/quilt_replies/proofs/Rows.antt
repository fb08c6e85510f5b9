-- Leaves in the order of the plane: what a sort of them leaves.
use Rattle.std.proofs.Common.{◌≡◌, ◌↔◌, ℕ, suc, ◌+◌, ◌≤◌, Bool, true, false, cond, List, [], ◌∷◌, get_or, refl, sym, ◌∙◌, ap, subst, arith, Contains, ⊎_elim}
use Rattle.std.proofs.Common.{nat_cmp, count_by, Ordering, Less, Equal, Greater}
use Rattle.std.specs.Ordering.{ordering_then, ordering_reverse, is_lt, is_eq}
use Rattle.std.specs.Cmp.{IsTotalOrder, nat_cmp_total, on_total, then_total, tied_itself}
use Rattle.std.specs.FinMap.{nat_cmp-IsAntisymmetric}
use Rattle.std.specs.List.Sorted.{IsPermutation, IsSorted}
use Rattle.std.proofs.lemmas.List.Sums.{sum_by-cons}
use Rattle.std.proofs.lemmas.List.Sorted.{ranks_by, sorted_far, sum_by-IsPermutation, Contains-permutation, IsPermutation-sym}
use Rattle.quilt_types.specs.declared.plane.Block.{Block}
use Rattle.quilt_types.specs.Plane.{block_cmp}
use Rattle.quilt_types.specs.Layers.{Grid}
use Rattle.quilt_types.specs.Quadtrees.{leaves, maximal_blocks, is_uniform, coloured}
use Rattle.quilt_loc.specs.Codes.{Rises, code_from}
use Rattle.quilt_loc.proofs.InOrder.{Rises-maximal}
use Rattle.quilt_loc.proofs.Members.{Contains-nil, Contains-here, Contains-there, Contains-cons_cases}
use Rattle.quilt_loc.proofs.PlaneOrders.{block_total}
use Rattle.quilt_loc.proofs.Rising.{Rises-map, same_rising}
use Rattle.quilt_blocks.specs.Cutting.{leaves_by_code, leaf_cmp}
use Rattle.quilt_spell.specs.Apart.{Apart}
use Rattle.quilt_spell.proofs.facts.FactKeys.{block_same}
use Rattle.quilt_record.proofs.Orders.{is_Equal, then_equal}

-- leaves by their blocks, and then their colours
abbrev pub row_cmp : Block × ℕ → Block × ℕ → Ordering
row_cmp d e = ordering_then (block_cmp d.0 e.0) (nat_cmp d.1 e.1)

row_total : IsTotalOrder row_cmp
row_total = then_total (on_total (λ (e : Block × ℕ). e.0) block_total) (on_total (λ (e : Block × ℕ). e.1) nat_cmp_total)

row_same : (d e : Block × ℕ) → row_cmp d e ≡ Equal → d ≡ e
row_same d e h =
    let parts = then_equal (block_cmp d.0 e.0) (nat_cmp d.1 e.1) h in
    let block = block_same d.0 e.0 parts.0 in
    let colour = nat_cmp-IsAntisymmetric d.1 e.1 parts.1 in
    λ i. (block i, colour i)

-- ---- how often an element stands in a list
module _ {X : Type 0} where
  count-cons : (p : X → Bool) (x : X) (xs : List X) → count_by p (x ∷ xs) ≡ cond (p x) 1 0 + count_by p xs
  count-cons p x xs = sum_by-cons (λ (y : X). cond {A = ℕ} (p y) 1 0) x xs

  count_some : (p : X → Bool) (xs : List X) (x : X) → Contains xs x → p x ≡ true → 1 ≤ count_by p xs
  count_some p [] x c t = absurd (Contains-nil x c)
  count_some p (y ∷ ys) x c t =
      ⊎_elim
      (λ same.
      let here : p y ≡ true = ap p same ∙ t in
      let e : count_by p (y ∷ ys) ≡ 1 + count_by p ys = count-cons p y ys ∙ ap (λ (b : Bool). cond {A = ℕ} b 1 0 + count_by p ys) here in
      omega arith)
      (λ there.
      let some = count_some p ys x there t in
      let e = count-cons p y ys in
      omega arith)
      (Contains-cons_cases y ys x c)

  count_none : (p : X → Bool) (xs : List X) → ((x : X) → Contains xs x → p x ≡ true → ⊥) → count_by p xs ≡ 0
  count_none p [] h = refl
  count_none p (x ∷ xs) h = by_case (p x) refl (count_none p xs (λ y c. h y (Contains-there x xs y c)))
    where
      by_case : (b : Bool) → p x ≡ b → count_by p xs ≡ 0 → count_by p (x ∷ xs) ≡ 0
      by_case true t rest = absurd (h x (Contains-here x xs) t)
      by_case false t rest =
          let e : count_by p (x ∷ xs) ≡ 0 + count_by p xs = count-cons p x xs ∙ ap (λ (b : Bool). cond {A = ℕ} b 1 0 + count_by p xs) t in
          omega arith

  -- an element stands once at most in a list without repeats
  count_once : (p : X → Bool) (xs : List X) (x : X) → Apart xs → ((y : X) → p y ≡ true → y ≡ x) → count_by p xs ≤ 1
  count_once p [] x apart one = omega arith
  count_once p (y ∷ ys) x apart one = by_case (p y) refl (count_once p ys x apart.1 one)
    where
      by_case : (b : Bool) → p y ≡ b → count_by p ys ≤ 1 → count_by p (y ∷ ys) ≤ 1
      by_case true t rest =
          let none = count_none p ys (λ z c s. apart.0 (subst (Contains ys) (one z s ∙ sym (one y t)) c)) in
          let e : count_by p (y ∷ ys) ≡ 1 + count_by p ys = count-cons p y ys ∙ ap (λ (b : Bool). cond {A = ℕ} b 1 0 + count_by p ys) t in
          omega arith
      by_case false t rest =
          let e : count_by p (y ∷ ys) ≡ 0 + count_by p ys = count-cons p y ys ∙ ap (λ (b : Bool). cond {A = ℕ} b 1 0 + count_by p ys) t in
          omega arith

  -- ---- a sorted list in which each element stands once
  module _ (R : X → X → Ordering) (o : IsTotalOrder R) where
    tail_sorted : (x : X) (xs : List X) → IsSorted R (x ∷ xs) → IsSorted R xs
    tail_sorted x xs up k d low lt =
        let e : k + 1 ≡ suc k = omega arith in
        subst (λ (j : ℕ). is_lt (R (get_or xs j d) (get_or xs k d)) ≡ false) (sym e) (
        let f : suc k + 1 ≡ suc (suc k) = omega arith in
        subst (λ (j : ℕ). is_lt (R (get_or (x ∷ xs) j d) (get_or (x ∷ xs) (suc k) d)) ≡ false) f (up (suc k) d (omega arith) (omega arith)))

    not_above : (x y : X) → is_lt (R y x) ≡ false → (R x y ≡ Equal → ⊥) → R x y ≡ Less
    not_above x y h apart = by_case (R x y) refl
      where
        by_case : (r : Ordering) → R x y ≡ r → r ≡ Less
        by_case Less e = refl
        by_case Equal e = absurd (apart e)
        by_case Greater e =
            let up : R y x ≡ Less = o.antisymm y x ∙ ap ordering_reverse e in
            let wrong : true ≡ false = sym (ap is_lt up) ∙ h in
            cc

    pub rises_sorted : (xs : List X) → IsSorted R xs → ((x : X) → count_by (λ y. is_eq (R x y)) xs ≤ 1) → Rises R xs
    rises_sorted [] up once = tt
    rises_sorted (x ∷ xs) up once = (
      λ y c.
          let far = sorted_far (λ (a b : X). is_lt (R a b)) (ranks_by o (λ (z : X). z)) (x ∷ xs) up 0 (suc c.0) y (omega arith) (let lt = c.1 in omega arith) in
          let above : is_lt (R y x) ≡ false = subst (λ (z : X). is_lt (R z x) ≡ false) c.2 far in
          not_above x y above (λ tie.
          let some = count_some (λ (z : X). is_eq (R x z)) xs y c (ap is_eq tie) in
          let e : count_by (λ z. is_eq (R x z)) (x ∷ xs) ≡ 1 + count_by (λ z. is_eq (R x z)) xs =
          count-cons (λ (z : X). is_eq (R x z)) x xs ∙ ap (λ (b : Bool). cond {A = ℕ} b 1 0 + count_by (λ z. is_eq (R x z)) xs) (ap is_eq (tied_itself o x)) in
          let few = once x in
          let wrong : ⊥ = omega arith in
          wrong),
      rises_sorted xs (tail_sorted x xs up) (λ z.
          let few = once z in
          let e = count-cons (λ (y : X). is_eq (R z y)) x xs in
          omega arith),
    )

  rises_apart : (S : X → X → Ordering) → ((x : X) → S x x ≡ Less → ⊥) → (xs : List X) → Rises S xs → Apart xs
  rises_apart S never [] up = tt
  rises_apart S never (x ∷ xs) up = (λ c. never x (up.0 x c), rises_apart S never xs up.1)

never_below : (e : Block × ℕ) → leaf_cmp e e ≡ Less → ⊥
never_below e h = let wrong : Equal ≡ Less = sym (tied_itself nat_cmp_total (code_from e.0)) ∙ h in cc

leaves_rise : (n : ℕ) (g : Grid) → Rises row_cmp (leaves n g)
unfolding leaves
leaves_rise n g =
    Rises-map block_cmp row_cmp (coloured n g) (maximal_blocks n (is_uniform n g))
    (λ a b _ _ h. ap (λ (r : Ordering). ordering_then r (nat_cmp (coloured n g a).1 (coloured n g b).1)) h) (Rises-maximal n (is_uniform n g))

-- a sort of the leaves by their codes is the leaves by rows
pub leaves_sorted : (n : ℕ) (g : Grid) (xs ys : List (Block × ℕ)) → xs ≡ leaves_by_code n g → Rises leaf_cmp (leaves_by_code n g)
    → ((e : Block × ℕ) → Contains (leaves_by_code n g) e ↔ Contains (leaves n g) e)
    → IsPermutation xs ys → IsSorted row_cmp ys → ys ≡ leaves n g
leaves_sorted n g xs ys is order members moved sorted =
    let apart : Apart xs = subst Apart (sym is) (rises_apart leaf_cmp never_below (leaves_by_code n g) order) in
    let once = λ (x : Block × ℕ).
    let few = count_once (λ y. is_eq (row_cmp x y)) xs x apart (λ y t. sym (row_same x y (is_Equal (row_cmp x y) t))) in
    let kept : count_by (λ y. is_eq (row_cmp x y)) ys ≡ count_by (λ y. is_eq (row_cmp x y)) xs =
    sum_by-IsPermutation (λ (y : Block × ℕ). cond {A = ℕ} (is_eq (row_cmp x y)) 1 0) xs ys moved in
    let all : count_by (λ y. is_eq (row_cmp x y)) ys ≤ 1 = omega arith in
    all in
    same_rising row_cmp row_total ys (leaves n g) (rises_sorted row_cmp row_total ys sorted once) (leaves_rise n g) (λ e. (
      λ c. (members e).0 (subst (λ (zs : List (Block × ℕ)). Contains zs e) is (Contains-permutation ys xs e (IsPermutation-sym xs ys moved) c)),
      λ c. Contains-permutation xs ys e moved (subst (λ (zs : List (Block × ℕ)). Contains zs e) (sym is) ((members e).1 c)),
    ))
