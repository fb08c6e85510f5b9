-- A name with zeros behind it.
use Rattle.std.proofs.Common.{◌≡◌, ℕ, zero, suc, ◌+◌, ◌-◌, ◌<◌, ◌≤◌, ◌⊎◌, inl, inr, Bool, true, false, ◌&&◌, ◌||◌, not, cond, nat_le, eqb-true, List, [], ◌∷◌}
use Rattle.std.proofs.Common.{◌++◌, length, take, drop, slice_index, Option, Some, None, IsSome, IfSome, replicate, refl, sym, ◌∙◌, ap, arith, one-add, lit<}
use Rattle.std.specs.Prelude.{◌==◌}
use Rattle.std.specs.List.{list_all, position_or_len}
use Rattle.std.specs.Str.{IsAscii}
use Rattle.std.proofs.Math.Seq.{take-append_seam, drop-append_seam}
use Rattle.std.proofs.lemmas.List.{length-append, length-replicate}
use Rattle.std.proofs.lemmas.Bool.Decides.{nat_tests}
use Rattle.quilt_types.specs.Layers.{is_name, is_name_byte, is_letter}
use Rattle.std.proofs.lemmas.List.{get_or-append-add}
use Rattle.std.specs.Prelude.{unwrap_or}
use Rattle.std.proofs.lemmas.Bool.{leb-true, and_parts, or_cases}
use Rattle.quilt_types.specs.declared.plane.Kind.{Kind}
use Rattle.quilt_record.specs.declared.entry.Entry.{Entry}
use Rattle.quilt_record.specs.declared.record.Record.{Record}
use Rattle.quilt_record.specs.Listing.{IsEntryOf, number_of_kind, number_beside, fact_of_kind}
use Rattle.quilt_types.specs.Bytes.{filled}
use Rattle.quilt_record.specs.Records.{kind_number, record_of}

-- a byte of a name is no zero, and below 128
pub record IsPlain (c : ℕ) : Type 0 where
  pub some : 1 ≤ c
  pub most : c < 128

letter_plain : (c : ℕ) → is_letter c ≡ true → IsPlain c
letter_plain c h =
    let t = and_parts (nat_le 97 c) (nat_le c 122) h in
    let low = leb-true 97 c t.0 in
    let high = leb-true c 122 t.1 in
    record { some = omega (arith, low); most = omega (arith, high) }

digit_plain : (c : ℕ) → nat_le 48 c && nat_le c 57 ≡ true → IsPlain c
digit_plain c h =
    let t = and_parts (nat_le 48 c) (nat_le c 57) h in
    let low = leb-true 48 c t.0 in
    let high = leb-true c 57 t.1 in
    record { some = omega (arith, low); most = omega (arith, high) }

byte_plain : (c : ℕ) → is_name_byte c ≡ true → IsPlain c
byte_plain c h =
    elim (or_cases (is_letter c || (nat_le 48 c && nat_le c 57)) (c == 95) h) [
      | inl r ↦ elim (or_cases (is_letter c) (nat_le 48 c && nat_le c 57) r) [ inl l ↦ letter_plain c l | inr d ↦ digit_plain c d ]
      | inr e ↦ let same : c ≡ 95 = eqb-true c 95 e in record { some = omega (arith, same); most = omega (arith, same) }
    ]

abbrev ArePlain : List ℕ → Type 0
ArePlain [] = Unit {0}
ArePlain (c ∷ cs) = IsPlain c × ArePlain cs

bytes_plain : (cs : List ℕ) → list_all is_name_byte cs ≡ true → ArePlain cs
bytes_plain [] h = tt
bytes_plain (c ∷ cs) h = let t = and_parts (is_name_byte c) (list_all is_name_byte cs) h in (byte_plain c t.0, bytes_plain cs t.1)

name_plain : (n : List ℕ) → is_name n ≡ true → ArePlain n
name_plain [] h = tt
name_plain (c ∷ cs) h =
    let t = and_parts (is_letter c && list_all is_name_byte cs) (nat_le (length cs) 11) h in
    let u = and_parts (is_letter c) (list_all is_name_byte cs) t.0 in
    (letter_plain c u.0, bytes_plain cs u.1)

ascii_plain : (cs : List ℕ) → ArePlain cs → IsAscii cs
ascii_plain [] h i = lit< tt
ascii_plain (c ∷ cs) h zero = h.0.most
ascii_plain (c ∷ cs) h (suc i) = ascii_plain cs h.1 i

pub name_ascii : (n : List ℕ) → is_name n ≡ true → IsAscii n
name_ascii n h = ascii_plain n (name_plain n h)

not_zero : (c : ℕ) → 1 ≤ c → (c == 0) ≡ false
not_zero c h = grind (arith, nat_tests)

zeros_first : (k : ℕ) → position_or_len (λ c. c == 0) (replicate {A = ℕ} k 0) ≡ 0
zeros_first zero = refl
zeros_first (suc k) = refl

first_at : (cs : List ℕ) (k : ℕ) → ArePlain cs → position_or_len (λ c. c == 0) (cs ++ replicate k 0) ≡ length cs
first_at [] k h = zeros_first k
first_at (c ∷ cs) k h =
    ap (λ b. cond (not b) (1 + position_or_len (λ d. d == 0) (cs ++ replicate k 0)) 0) (not_zero c h.0.some)
    ∙ ap (λ n. 1 + n) (first_at cs k h.1) ∙ one-add (length cs)

-- the bytes before the zeros are the name
pub name_first : (n bytes : List ℕ) → is_name n ≡ true → bytes ≡ filled 12 n → take (position_or_len (λ c. c == 0) bytes) bytes ≡ n
name_first n bytes h e =
    ap (λ l. take (position_or_len (λ c. c == 0) l) l) e
    ∙ ap (λ m. take m (n ++ replicate (12 - length n) 0)) (first_at n (12 - length n) (name_plain n h)) ∙ take-append_seam n (replicate (12 - length n) 0)

name_short : (n : List ℕ) → is_name n ≡ true → length n ≤ 12
name_short [] h = omega arith
name_short (c ∷ cs) h =
    let t = and_parts (is_letter c && list_all is_name_byte cs) (nat_le (length cs) 11) h in
    let few = leb-true (length cs) 11 t.1 in
    omega (arith, few)

-- the name's part of a value has 12 bytes
pub name_long : (n : List ℕ) → is_name n ≡ true → length (filled 12 n) ≡ 12
name_long n h =
    let few = name_short n h in
    length-append n (replicate {A = ℕ} (12 - length n) 0) ∙ ap (λ m. length n + m) (length-replicate {A = ℕ} (12 - length n) 0) ∙ omega (arith, few)

-- what stands in and behind the first twelve bytes
pub first_twelve : (f z : List ℕ) → length f ≡ 12 → take 12 (f ++ z) ≡ f
first_twelve f z e = ap (λ n. take n (f ++ z)) (sym e) ∙ take-append_seam f z

pub behind_twelve : (f z : List ℕ) → length f ≡ 12 → drop 12 (f ++ z) ≡ z
behind_twelve f z e = ap (λ n. drop n (f ++ z)) (sym e) ∙ drop-append_seam f z

pub some_is : (o : Option (List ℕ)) (w : List ℕ) → IsSome o → IfSome o (λ m. m ≡ w) → o ≡ Some w
some_is None w h g = cc
some_is (Some m) w h g = ap Some g

pub place_behind : (f z : List ℕ) (k : ℕ) → length f ≡ 12 → slice_index (f ++ z) (12 + k) ≡ slice_index z k
place_behind f z k e = ap (λ n. slice_index (f ++ z) (n + k)) (sym e) ∙ get_or-append-add f z k 0

pub some_same : {A : Type 0} (a b : A) → ◌≡◌ {A = Option A} (Some a) (Some b) → a ≡ b
some_same {A} a b h = let f : Option A → A = λ o. unwrap_or o a in ap f h

-- what the record of an entry says, in a format
module _ (form : ℕ) (r : Record) (e : Entry) (f : IsEntryOf form r e) where
  behind : List ℕ
  behind = number_of_kind e.kind ∷ kind_number (number_of_kind e.kind) (number_beside e.kind) ∷ 0 ∷ 0 ∷ []

  pub entry_number : r.key.item ≡ e.number
  entry_number = ap (λ (s : Record). s.key.item) (f.written 0 0)

  pub entry_kind : slice_index r.value 12 ≡ number_of_kind e.kind
  unfolding behind
  entry_kind = ap (λ (s : Record). slice_index s.value 12) (f.written 0 0) ∙ place_behind (filled 12 e.name) behind 0 (name_long e.name f.named)

  pub entry_byte : slice_index r.value 13 ≡ kind_number (number_of_kind e.kind) (number_beside e.kind)
  unfolding behind
  entry_byte = ap (λ (s : Record). slice_index s.value 13) (f.written 0 0) ∙ place_behind (filled 12 e.name) behind 1 (name_long e.name f.named)

  pub entry_name : take 12 r.value ≡ filled 12 e.name
  unfolding behind
  entry_name = ap (λ (s : Record). take 12 s.value) (f.written 0 0) ∙ first_twelve (filled 12 e.name) behind (name_long e.name f.named)

  pub entry_again : (made : Record) (number : ℕ) (name : List ℕ) (kind : Kind) → number ≡ e.number → name ≡ e.name → kind ≡ e.kind
      → made ≡ record_of 0 0 name number (fact_of_kind kind) → made ≡ r
  entry_again made number name kind same_number same_name same_kind g =
      g ∙ ap (λ m. record_of 0 0 name m (fact_of_kind kind)) same_number ∙ ap (λ l. record_of 0 0 l e.number (fact_of_kind kind)) same_name
      ∙ ap (λ k. record_of 0 0 e.name e.number (fact_of_kind k)) same_kind ∙ sym (f.written 0 0)

-- a name is known by its bytes with the zeros
pub name_alone : (a b : List ℕ) → is_name a ≡ true → is_name b ≡ true → filled 12 a ≡ filled 12 b → a ≡ b
name_alone a b ha hb e = sym (name_first a (filled 12 a) ha refl) ∙ name_first b (filled 12 a) hb e
