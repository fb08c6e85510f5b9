-- A key as one number: the order of the numbers is that of the keys, and a key's bytes spell its number.
use Rattle.std.proofs.Common.{◌≡◌, ℕ, suc, ◌+◌, ◌-◌, ◌*◌, ◌^◌, ◌<◌, ◌≤◌, true, false, List, ◌∷◌, ◌++◌, length, map, take, drop, slice_range, subst, refl, sym}
use Rattle.std.proofs.Common.{◌∙◌, ap, ap₂, arith, nat_cmp, Ordering, Less, Equal, Greater, length-drop, length-take-le}
use Rattle.std.specs.List.{range_with_len}
use Rattle.std.specs.Ordering.{ordering_then, is_lt}
use Rattle.std.specs.Cmp.{nat_cmp_is}
use Rattle.std.specs.Int.{from_be_bytes, w32, w64}
use Rattle.std.proofs.Math.Nat.{suc-mul, mul-zero, mul-le-mul_right}
use Rattle.std.proofs.lemmas.Cmp.{ranked}
use Rattle.std.proofs.lemmas.List.{take-append-drop}
use Rattle.quilt_record.specs.declared.key.Key.{Key}
use Rattle.quilt_record.specs.Records.{key_cmp}
use Rattle.quilt_node.specs.Pages.{word_at, key_at, is_ascending}
use Rattle.quilt_node.specs.KeysIn.{key_number, FieldsFit}
use Rattle.quilt_node.proofs.Spelled.{AreBytes, key_fits, key_behind, part_behind}
use Rattle.quilt_node.proofs.Searches.{AscendsFrom, from_first, from_next, stops}

-- two numbers of two digits each
two_digits : (a b c d m : ℕ) (high low : Ordering) → high ≡ nat_cmp a c → low ≡ nat_cmp b d → b < m → d < m
    → ordering_then high low ≡ nat_cmp (a * m + b) (c * m + d)
two_digits a b c d m Less low e f hb hd =
    nat_cmp_is (a * m + b) (c * m + d) Less (let h : a < c = ranked a c Less e in omega (arith, suc-mul a m, mul-le-mul_right {m = suc a} {n = c} m h))
two_digits a b c d m Greater low e f hb hd =
    nat_cmp_is (a * m + b) (c * m + d) Greater (let h : c < a = ranked a c Greater e in omega (arith, suc-mul c m, mul-le-mul_right {m = suc c} {n = a} m h))
two_digits a b c d m Equal Less e f hb hd =
    let h : a * m ≡ c * m = ap (λ x. x * m) (ranked a c Equal e) in
    nat_cmp_is (a * m + b) (c * m + d) Less (let g : b < d = ranked b d Less f in omega (arith, h))
two_digits a b c d m Equal Equal e f hb hd = nat_cmp_is (a * m + b) (c * m + d) Equal (ap₂ (λ x y. x * m + y) (ranked a c Equal e) (ranked b d Equal f))
two_digits a b c d m Equal Greater e f hb hd =
    let h : a * m ≡ c * m = ap (λ x. x * m) (ranked a c Equal e) in
    nat_cmp_is (a * m + b) (c * m + d) Greater (let g : d < b = ranked b d Greater f in omega (arith, h))

-- a field above the fields whose order is known
above : (a b c d m : ℕ) (low : Ordering) → low ≡ nat_cmp b d → b < m → d < m → ordering_then (nat_cmp a c) low ≡ nat_cmp (a * m + b) (c * m + d)
above a b c d m low e hb hd = two_digits a b c d m (nat_cmp a c) low refl e hb hd

pub number_order : (k l : Key) → FieldsFit k → FieldsFit l → key_cmp k l ≡ nat_cmp (key_number k) (key_number l)
unfolding key_number
number_order k l f g =
    let depth = above k.depth k.item l.depth l.item (2 ^ 64) (nat_cmp k.item l.item) refl (omega (arith, f.item)) (omega (arith, g.item)) in
    let code = above k.code (k.depth * 2 ^ 64 + k.item) l.code (l.depth * 2 ^ 64 + l.item) (2 ^ 72) _ depth (omega (arith, f.depth, f.item))
    (omega (arith, g.depth, g.item)) in
    let part = above k.part (k.code * 2 ^ 72 + (k.depth * 2 ^ 64 + k.item)) l.part (l.code * 2 ^ 72 + (l.depth * 2 ^ 64 + l.item)) (2 ^ 104) _ code
    (omega (arith, f.code, f.depth, f.item)) (omega (arith, g.code, g.depth, g.item)) in
    above k.layer (k.part * 2 ^ 104 + (k.code * 2 ^ 72 + (k.depth * 2 ^ 64 + k.item))) l.layer
    (l.part * 2 ^ 104 + (l.code * 2 ^ 72 + (l.depth * 2 ^ 64 + l.item))) (2 ^ 112) _ part
    (omega (arith, f.part, f.code, f.depth, f.item)) (omega (arith, g.part, g.code, g.depth, g.item))

pub lower_number : (k l : Key) → FieldsFit k → FieldsFit l → key_number k < key_number l → is_lt (key_cmp k l) ≡ true
lower_number k l f g h = ap is_lt (number_order k l f g ∙ sym (nat_cmp_is (key_number k) (key_number l) Less h))

not_less : (m n : ℕ) (o : Ordering) → o ≡ nat_cmp m n → n ≤ m → is_lt o ≡ false
not_less m n Less e h = absurd (let g : m < n = ranked m n Less e in omega (arith, g, h))
not_less m n Equal e h = refl
not_less m n Greater e h = refl

pub no_lower_number : (k l : Key) → FieldsFit k → FieldsFit l → key_number l ≤ key_number k → is_lt (key_cmp k l) ≡ false
no_lower_number k l f g h = not_less (key_number k) (key_number l) (key_cmp k l) (number_order k l f g) h

front_number : (xs : List ℕ) → 12 ≤ length xs → from_be_bytes w64 (take 8 xs) * 2 ^ 64 + word_at xs 8 ≡ key_number (key_at xs 0)
unfolding key_number
front_number (a ∷ b ∷ p ∷ c ∷ d ∷ e ∷ f ∷ q ∷ g ∷ h ∷ i ∷ j ∷ xs) lt = omega arith
front_number xs lt = absurd (omega arith)

-- The number of the key that stands at a place, by its bytes there.
pub number_at : (bytes : List ℕ) (at front item : ℕ) → at + 12 ≤ length bytes → front ≡ from_be_bytes w64 (slice_range bytes at (at + 8))
    → item ≡ word_at bytes (at + 8)
    → front * 2 ^ 64 + item ≡ key_number (key_at bytes at)
number_at bytes at front item room e f =
    let pre = take at bytes in
    let xs = drop at bytes in
    let whole : pre ++ xs ≡ bytes = take-append-drop at bytes in
    let here : at ≡ length pre = sym (length-take-le at bytes (omega arith)) in
    let first : front ≡ from_be_bytes w64 (take 8 xs) =
    e ∙ ap (λ l. from_be_bytes w64 (slice_range l at (at + 8))) (sym whole) ∙ ap (from_be_bytes w64) (part_behind pre xs 0 at 8 (omega (arith, here))) in
    let last : item ≡ word_at xs 8 =
    f ∙ ap (λ l. word_at l (at + 8)) (sym whole) ∙ ap (from_be_bytes w32) (part_behind pre xs 8 (at + 8) 4 (omega (arith, here))) in
    ap₂ (λ m n. m * 2 ^ 64 + n) first last ∙ front_number xs (omega (arith, room, length-drop at bytes))
    ∙ ap key_number (sym (key_behind pre xs at here) ∙ ap (λ l. key_at l at) whole)

pub fields_fit : (bytes : List ℕ) (at : ℕ) → AreBytes bytes → at + 12 ≤ length bytes → FieldsFit (key_at bytes at)
fields_fit bytes at f room =
    let k = key_fits bytes at f room in
    record { part = f (at + 2); code = k.code; depth = f (at + 7); item = k.item }

-- What a comparison of the numbers says of the keys.
pub told_order : (k l : Key) (m n : ℕ) (o : Ordering) → FieldsFit k → FieldsFit l → m ≡ key_number k → n ≡ key_number l → o ≡ nat_cmp m n → key_cmp k l ≡ o
told_order k l m n o f g d e h = number_order k l f g ∙ ap₂ nat_cmp (sym d) (sym e) ∙ sym h

-- that the keys ascend is left to those from i - 1 on, and this is the number of the first of them
pub record AscendsOver (f : ℕ → Key) (n i last : ℕ) : Type 0 where
  pub ascends : AscendsFrom f n i
  pub number : last ≡ key_number (f (i - 1))
  pub fits : FieldsFit (f (i - 1))

pub over_first : (bytes : List ℕ) (at width n last : ℕ) → last ≡ key_number (key_at bytes at) → FieldsFit (key_at bytes at)
    → AscendsOver (λ i. key_at bytes (at + width * i)) n 1 last
over_first bytes at width n last e f =
    let here : at ≡ at + width * 0 = omega (arith, mul-zero width) in
    record {
      ascends = from_first (λ i. key_at bytes (at + width * i)) n;
      number = e ∙ ap (λ m. key_number (key_at bytes m)) here;
      fits = subst (λ m. FieldsFit (key_at bytes m)) here f;
    }

pub over_stops : (f : ℕ → Key) (n i last next : ℕ) → 1 ≤ i → i < n → AscendsOver f n i last → next ≡ key_number (f i) → FieldsFit (f i) → next ≤ last
    → false ≡ is_ascending (map f (range_with_len 0 n))
over_stops f n i last next some lt r e g h =
    stops f n i some lt r.ascends (no_lower_number (f (i - 1)) (f i) r.fits g (subst (λ m. m ≤ key_number (f (i - 1))) e (subst (λ m. next ≤ m) r.number h)))

pub over_next : (f : ℕ → Key) (n i last next : ℕ) → 1 ≤ i → i < n → AscendsOver f n i last → next ≡ key_number (f i) → FieldsFit (f i) → last < next
    → AscendsOver f n (i + 1) next
over_next f n i last next some lt r e g h =
    let on : i ≡ i + 1 - 1 = omega arith in
    record {
      ascends = from_next f n i some lt r.ascends
          (lower_number (f (i - 1)) (f i) r.fits g (subst (λ m. key_number (f (i - 1)) < m) e (subst (λ m. m < next) r.number h)));
      number = e ∙ ap (λ m. key_number (f m)) on;
      fits = subst (λ m. FieldsFit (f m)) on g;
    }
