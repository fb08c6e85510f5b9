-- The first bytes of a page, which say its sort, its height and its count, with zeros behind them.
use Rattle.std.proofs.Common.{◌≡◌, ℕ, ◌+◌, ◌-◌, ◌≤◌, Bool, true, false, not, List, ◌∷◌, ◌++◌, length, take, drop, slice_index, slice_range}
use Rattle.std.proofs.Common.{refl, sym, ◌∙◌, ap, arith, replicate}
use Rattle.std.specs.Str.{bytes_eq}
use Rattle.std.specs.Int.{to_be_bytes, w16}
use Rattle.std.proofs.Math.Seq.{take-add}
use Rattle.std.proofs.lemmas.Slice.Eq.{bytes_eq-Decides}
use Rattle.quilt_types.specs.Bytes.{filled}
use Rattle.quilt_node.specs.Pages.{short_at}
use Rattle.quilt_node.proofs.Spelled.{AreBytes, first_four}

same_truth : (p q : Bool) → (p ≡ true → q ≡ true) → (q ≡ true → p ≡ true) → p ≡ q
same_truth true true f g = refl
same_truth true false f g = sym (f refl)
same_truth false true f g = g refl
same_truth false false f g = refl

-- a test of two lists that are the same where two others are
same_test : (a b c d : List ℕ) → (a ≡ b → c ≡ d) → (c ≡ d → a ≡ b) → bytes_eq a b ≡ bytes_eq c d
same_test a b c d f g =
    same_truth (bytes_eq a b) (bytes_eq c d) (λ h. (bytes_eq-Decides c d).1 (f ((bytes_eq-Decides a b).0 h)))
    (λ h. (bytes_eq-Decides a b).1 (g ((bytes_eq-Decides c d).0 h)))

not_same : (a b : List ℕ) → (a ≡ b → ⊥) → (r : Bool) → r ≡ bytes_eq a b → r ≡ false
not_same a b f true e = absurd (f ((bytes_eq-Decides a b).0 (sym e)))
not_same a b f false e = refl

-- the first four bytes of a page, its count as it is read
abbrev pub first_of : ℕ → ℕ → List ℕ → List ℕ
first_of x y bytes = x ∷ y ∷ to_be_bytes w16 (short_at bytes 2)

head_cut : (bytes : List ℕ) (k : ℕ) → AreBytes bytes → 4 ≤ k → 4 ≤ length bytes
    → take k bytes ≡ first_of (slice_index bytes 0) (slice_index bytes 1) bytes ++ slice_range bytes 4 k
head_cut bytes k f some room =
    let on : k ≡ 4 + (k - 4) = omega (arith, some) in
    ap (λ n. take n bytes) on ∙ take-add 4 (k - 4) bytes ∙ ap (λ l. l ++ slice_range bytes 4 k) (first_four bytes f room)

-- Where the first two bytes are right, the zeros behind the count decide.
pub head_zeros : (bytes : List ℕ) (x y k : ℕ) → AreBytes bytes → 4 ≤ k → 4 ≤ length bytes → slice_index bytes 0 ≡ x → slice_index bytes 1 ≡ y
    → bytes_eq (slice_range bytes 4 k) (replicate (k - 4) 0) ≡ bytes_eq (take k bytes) (filled k (first_of x y bytes))
head_zeros bytes x y k f some room g h =
    let cut : take k bytes ≡ first_of x y bytes ++ slice_range bytes 4 k = head_cut bytes k f some room
    ∙ ap (λ m. first_of m (slice_index bytes 1) bytes ++ slice_range bytes 4 k) g ∙ ap (λ m. first_of x m bytes ++ slice_range bytes 4 k) h in
    same_test (slice_range bytes 4 k) (replicate (k - 4) 0) (take k bytes) (filled k (first_of x y bytes))
    (λ e. cut ∙ ap (λ l. first_of x y bytes ++ l) e) (λ e. ap (drop 4) (sym cut ∙ e))

-- A page whose first two bytes are others has another head.
pub other_head : (bytes : List ℕ) (x y k : ℕ) → AreBytes bytes → 4 ≤ k → 4 ≤ length bytes → (slice_index bytes 0 ≡ x → slice_index bytes 1 ≡ y → ⊥)
    → false ≡ bytes_eq (take k bytes) (filled k (first_of x y bytes))
other_head bytes x y k f some room g =
    let cut = head_cut bytes k f some room in
    sym (not_same (take k bytes) (filled k (first_of x y bytes))
    (λ e. g (ap (λ l. slice_index l 0) (sym cut ∙ e)) (ap (λ l. slice_index l 1) (sym cut ∙ e))) _ refl)

-- what a test of two lists says of them
pub test_holds : (a b : List ℕ) (r : Bool) → r ≡ bytes_eq a b → r ≡ true → a ≡ b
test_holds a b r e h = (bytes_eq-Decides a b).0 (sym e ∙ h)

pub test_fails : (a b : List ℕ) (r : Bool) → r ≡ bytes_eq a b → r ≡ false → a ≡ b → ⊥
test_fails a b r e h same = true_false (sym ((bytes_eq-Decides a b).1 same) ∙ sym e ∙ h)
  where
    true_false : true ≡ false → ⊥
    true_false g = cc

-- and a test that they differ
pub other_bytes : (a b : List ℕ) → not (bytes_eq a b) ≡ true → a ≡ b → ⊥
other_bytes a b h e = false_true (sym (ap not ((bytes_eq-Decides a b).1 e)) ∙ h)
  where
    false_true : false ≡ true → ⊥
    false_true g = cc
