-- Two lists one behind the other, cut elsewhere.
use Rattle.std.proofs.Common.{◌≡◌, ℕ, suc, ◌+◌, ◌-◌, ◌≤◌, List, [], ◌∷◌, ◌++◌, length, take, drop, Some, sym, ◌∙◌, ap, append_assoc, arith, take-append-drop}
use Rattle.std.proofs.Common.{drop_of_length-le}
use Rattle.std.specs.Prelude.{slice_get}
use Rattle.quilt_btree.proofs.ways.Leaves.{cut_at}

pub cut_again : {X : Type 0} (l r first rest : List X) (i : ℕ) → first ≡ take i l → rest ≡ drop i l ++ r → first ++ rest ≡ l ++ r
cut_again l r first rest i e f =
    ap (λ x. x ++ rest) e ∙ ap (λ x. take i l ++ x) f ∙ sym (append_assoc (take i l) (drop i l) r) ∙ ap (λ x. x ++ r) (take-append-drop i l)

-- all but the last, the last, and what was cut off behind
pub cut_last : {X : Type 0} (ks : List X) (x : X) → slice_get ks (length ks - 1) ≡ Some x → take (length ks - 1) ks ++ x ∷ [] ≡ ks
cut_last [] x h = cc
cut_last (k ∷ ks) x h =
    let end : length (k ∷ ks) ≤ suc (length (k ∷ ks) - 1) = omega arith in
    sym (cut_at (k ∷ ks) (length (k ∷ ks) - 1) x h ∙ ap (λ l. take (length (k ∷ ks) - 1) (k ∷ ks) ++ x ∷ l) (drop_of_length-le (k ∷ ks) end))

pub last_again : {X : Type 0} (ks more : List X) {first rest : List X} (k x : X) {n : ℕ} → n ≡ length ks + 1 → slice_get ks (length ks - 1) ≡ Some x
    → first ≡ take (n - 1 - 1) ks → rest ≡ drop (n - 1) ks ++ k ∷ more → first ++ x ∷ rest ≡ ks ++ k ∷ more
last_again ks more {rest = rest} k x {n = n} many h e f =
    let low : n - 1 - 1 ≡ length ks - 1 = omega arith in
    let end : length ks ≤ n - 1 = omega arith in
    ap (λ l. l ++ x ∷ rest) (e ∙ ap (λ m. take m ks) low) ∙ ap (λ l. take (length ks - 1) ks ++ x ∷ l)
    (f ∙ ap (λ l. l ++ k ∷ more) (drop_of_length-le ks end))
    ∙ sym (append_assoc (take (length ks - 1) ks) (x ∷ []) (k ∷ more)) ∙ ap (λ l. l ++ k ∷ more) (cut_last ks x h)
