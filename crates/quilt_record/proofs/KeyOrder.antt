-- The order of keys is that of their bytes.
use Rattle.std.proofs.Common.{◌≡◌, ℕ, ◌/◌, ◌%◌, ◌^◌, ◌<◌, List, [], ◌∷◌, ◌++◌, length, refl, sym, ◌∙◌, ap, ap₂, arith, nat_cmp, Ordering, Less, Equal, Greater}
use Rattle.std.specs.Ordering.{ordering_then}
use Rattle.std.specs.Cmp.{nat_cmp_is}
use Rattle.std.specs.Cmp.Lexicographic.{slice_cmp}
use Rattle.std.specs.Int.{to_be_bytes, w16, w32}
use Rattle.std.proofs.lemmas.Cmp.{ranked}
use Rattle.quilt_record.specs.declared.key.Key.{Key}
use Rattle.quilt_record.specs.Records.{key_bytes, key_cmp}
use Rattle.quilt_record.specs.Fits.{KeyFits}

then_assoc : (a b c : Ordering) → ordering_then (ordering_then a b) c ≡ ordering_then a (ordering_then b c)
then_assoc Less b c = refl
then_assoc Equal b c = refl
then_assoc Greater b c = refl

then_equal : (a : Ordering) → ordering_then a Equal ≡ a
then_equal Less = refl
then_equal Equal = refl
then_equal Greater = refl

-- two lists of one length, and then two more
cmp_append : (xs ys us vs : List ℕ) → length xs ≡ length ys
    → slice_cmp nat_cmp (xs ++ us) (ys ++ vs) ≡ ordering_then (slice_cmp nat_cmp xs ys) (slice_cmp nat_cmp us vs)
cmp_append [] [] us vs e = refl
cmp_append [] (y ∷ ys) us vs e = absurd (omega (arith, e))
cmp_append (x ∷ xs) [] us vs e = absurd (omega (arith, e))
cmp_append (x ∷ xs) (y ∷ ys) us vs e =
    ap (ordering_then (nat_cmp x y)) (cmp_append xs ys us vs (omega (arith, e)))
    ∙ sym (then_assoc (nat_cmp x y) (slice_cmp nat_cmp xs ys) (slice_cmp nat_cmp us vs))

last_digit : (m n : ℕ) (high low : Ordering) → high ≡ nat_cmp (m / 256) (n / 256) → low ≡ nat_cmp (m % 256) (n % 256) → ordering_then high low ≡ nat_cmp m n
last_digit m n Less low e f = nat_cmp_is m n Less (let h : m / 256 < n / 256 = ranked (m / 256) (n / 256) Less e in omega arith)
last_digit m n Greater low e f = nat_cmp_is m n Greater (let h : n / 256 < m / 256 = ranked (m / 256) (n / 256) Greater e in omega arith)
last_digit m n Equal Less e f =
    let h : m / 256 ≡ n / 256 = ranked (m / 256) (n / 256) Equal e in
    nat_cmp_is m n Less (let l : m % 256 < n % 256 = ranked (m % 256) (n % 256) Less f in omega arith)
last_digit m n Equal Equal e f =
    let h : m / 256 ≡ n / 256 = ranked (m / 256) (n / 256) Equal e in
    nat_cmp_is m n Equal (let l : m % 256 ≡ n % 256 = ranked (m % 256) (n % 256) Equal f in omega arith)
last_digit m n Equal Greater e f =
    let h : m / 256 ≡ n / 256 = ranked (m / 256) (n / 256) Equal e in
    nat_cmp_is m n Greater (let l : n % 256 < m % 256 = ranked (m % 256) (n % 256) Greater f in omega arith)

-- the last byte decides where the others are the same
by_last : (m n : ℕ) → nat_cmp m n ≡ ordering_then (nat_cmp (m / 256) (n / 256)) (nat_cmp (m % 256) (n % 256))
by_last m n = sym (last_digit m n (nat_cmp (m / 256) (n / 256)) (nat_cmp (m % 256) (n % 256)) refl refl)

short_order : (m n : ℕ) → m < 2 ^ 16 → n < 2 ^ 16 → slice_cmp nat_cmp (to_be_bytes w16 m) (to_be_bytes w16 n) ≡ nat_cmp m n
short_order m n hm hn =
    let high : nat_cmp (m / 256 % 256) (n / 256 % 256) ≡ nat_cmp (m / 256) (n / 256) =
    ap₂ nat_cmp (let e : m / 256 % 256 ≡ m / 256 = omega arith in e) (let e : n / 256 % 256 ≡ n / 256 = omega arith in e) in
    ap₂ ordering_then high (then_equal (nat_cmp (m % 256) (n % 256))) ∙ sym (by_last m n)

word_order : (m n : ℕ) → m < 2 ^ 32 → n < 2 ^ 32 → slice_cmp nat_cmp (to_be_bytes w32 m) (to_be_bytes w32 n) ≡ nat_cmp m n
word_order m n hm hn =
    let at : (k l k' l' : ℕ) → k ≡ k' → l ≡ l' → nat_cmp k l ≡ nat_cmp k' l' = λ k l k' l' e f. ap₂ nat_cmp e f in
    let a = nat_cmp (m / 16777216) (n / 16777216) in
    let b = nat_cmp (m / 65536 % 256) (n / 65536 % 256) in
    let c = nat_cmp (m / 256 % 256) (n / 256 % 256) in
    let d = nat_cmp (m % 256) (n % 256) in
    let top : nat_cmp (m / 16777216 % 256) (n / 16777216 % 256) ≡ a =
    at _ _ _ _ (let e : m / 16777216 % 256 ≡ m / 16777216 = omega arith in e) (let e : n / 16777216 % 256 ≡ n / 16777216 = omega arith in e) in
    let above : nat_cmp (m / 65536) (n / 65536) ≡ ordering_then a b =
    by_last (m / 65536) (n / 65536) ∙ ap (λ o. ordering_then o b)
    (at _ _ _ _ (let e : m / 65536 / 256 ≡ m / 16777216 = omega arith in e) (let e : n / 65536 / 256 ≡ n / 16777216 = omega arith in e)) in
    let middle : nat_cmp (m / 256) (n / 256) ≡ ordering_then (ordering_then a b) c =
    by_last (m / 256) (n / 256) ∙ ap (λ o. ordering_then o c)
    (at _ _ _ _ (let e : m / 256 / 256 ≡ m / 65536 = omega arith in e) (let e : n / 256 / 256 ≡ n / 65536 = omega arith in e) ∙ above) in
    ap₂ (λ o p. ordering_then o (ordering_then b (ordering_then c p))) top (then_equal d)
    ∙ sym (by_last m n ∙ ap (λ o. ordering_then o d) middle ∙ then_assoc (ordering_then a b) c d ∙ then_assoc a b (ordering_then c d))

pub bytes_order : (k l : Key) → KeyFits k → KeyFits l → slice_cmp nat_cmp (key_bytes k) (key_bytes l) ≡ key_cmp k l
bytes_order k l f g =
    let rest = cmp_append (to_be_bytes w32 k.code) (to_be_bytes w32 l.code) (k.depth ∷ to_be_bytes w32 k.item) (l.depth ∷ to_be_bytes w32 l.item) refl in
    cmp_append (to_be_bytes w16 k.layer) (to_be_bytes w16 l.layer) ((k.part ∷ to_be_bytes w32 k.code) ++ (k.depth ∷ to_be_bytes w32 k.item))
    ((l.part ∷ to_be_bytes w32 l.code) ++ (l.depth ∷ to_be_bytes w32 l.item)) refl
    ∙ ap₂ ordering_then (short_order k.layer l.layer f.layer g.layer)
    (ap (ordering_then (nat_cmp k.part l.part)) (rest
    ∙ ap₂ ordering_then (word_order k.code l.code f.code g.code) (ap (ordering_then (nat_cmp k.depth l.depth)) (word_order k.item l.item f.item g.item))))
