-- A count of free pages that is kept, after each step.
use Rattle.std.proofs.Common.{◌≡◌, ◌≢◌, inl, inr, ℕ, zero, suc, ◌+◌, ◌-◌, ◌<◌, ◌≤◌, Bool, true, false, not, ◌&&◌, nat_le, nat_lt, ◌/◌, ◌%◌, ◌^◌, eqb, w8, List, length, filter, refl, sym, ◌∙◌, ap, subst, arith}
use Rattle.std.specs.List.{range_with_len}
use Rattle.std.specs.Int.{bit_not}
use Rattle.std.proofs.lemmas.Nat.Bits.{bit_at_not}
use Rattle.std.proofs.lemmas.Bool.{cases_Bool, cases_eq, cases_lt, le-ltb}
use Rattle.quilt_journal.specs.Changed.{has_bit}
use Rattle.quilt_store.specs.Store.{count_free, FreesOnly}
use Rattle.quilt_edition.specs.Keeping.{is_free, is_left_out}
use Rattle.quilt_edition.specs.Tallies.{IsFreeTally}
use Rattle.quilt_edition.specs.declared.free.Tally.{Tally}
use Rattle.quilt_edition.proofs.Counts.{count_same, count_none}

past : (f h : ℕ → Bool) (k : ℕ) → ((i : ℕ) → i ≢ k → h i ≡ f i) → (a n : ℕ) → k < a
    → length (filter h (range_with_len a n)) ≡ length (filter f (range_with_len a n))
past f h k same a zero lt = refl
past f h k same a (suc n) lt = let on = past f h k same (a + 1) n (omega (arith, lt)) in elim (cases_Bool (f a)) [
  | inl t ↦ rw (same a (omega (arith, lt)), t) (omega (arith, on))
  | inr e ↦ rw (same a (omega (arith, lt)), e) on
]

-- f counts one more than h, which leaves out k alone
one_less : (f h : ℕ → Bool) (k : ℕ) → ((i : ℕ) → i ≢ k → h i ≡ f i) → f k ≡ true → h k ≡ false → (a n : ℕ) → a ≤ k → k < a + n
    → length (filter h (range_with_len a n)) + 1 ≡ length (filter f (range_with_len a n))
one_less f h k same is was a zero low high = absurd (omega (arith, low, high))
one_less f h k same is was a (suc n) low high = elim (cases_eq a k) [
  | inl here ↦ let on = past f h k same (a + 1) n (omega (arith, here)) in rw (ap f here ∙ is, ap h here ∙ was) (omega (arith, on))
  | inr ne ↦ let on = one_less f h k same is was (a + 1) n (omega (arith, low, ne)) (omega (arith, high)) in elim (cases_Bool (f a)) [
    | inl t ↦ rw (same a ne, t) (omega (arith, on))
    | inr e ↦ rw (same a ne, e) on
  ]
]

-- ---- one page more or less

module _ (n : ℕ) (old new : ℕ → Bool) (page : ℕ) (low : 1 ≤ page) (high : page < n) where
  pub count_taken : old page ≡ true → FreesOnly page false old new → count_free new n + 1 ≡ count_free old n
  count_taken is only = one_less old new page only.others is only.here 1 (n - 1) low (omega (arith, low, high))

  pub count_given : old page ≡ false → FreesOnly page true old new → count_free old n + 1 ≡ count_free new n
  count_given was only = one_less new old page (λ i ne. sym (only.others i ne)) only.here was 1 (n - 1) low (omega (arith, low, high))

  pub before_taken : FreesOnly page false old new → ((i : ℕ) → i < page → old i ≡ false) → (i : ℕ) → i < page + 1 → new i ≡ false
  before_taken only before i lt = elim (cases_eq i page) [
    | inl same ↦ ap new same ∙ only.here
    | inr ne ↦ only.others i ne ∙ before i (omega (arith, lt, ne))
  ]

  pub tally_taken : (t u : Tally) → IsFreeTally n old t → old page ≡ true → FreesOnly page false old new → ((i : ℕ) → i < page → old i ≡ false)
      → u.count ≡ t.count - 1 → u.first ≡ page + 1 → IsFreeTally n new u
  tally_taken t u tally is only before count first = record {
    least = omega (arith, first);
    counted = let one = count_taken is only in omega (arith, one, tally.counted, count);
    before = λ i lt. before_taken only before i (omega (arith, lt, first));
  }

  pub tally_given : (t u : Tally) → IsFreeTally n old t → old page ≡ false → FreesOnly page true old new → u.count ≡ t.count + 1 → 1 ≤ u.first
      → u.first ≤ page → u.first ≤ t.first → IsFreeTally n new u
  tally_given t u tally was only count some here there = record {
    least = some;
    counted = let one = count_given was only in omega (arith, one, tally.counted, count);
    before = λ i lt. only.others i (λ e. omega (arith, e, lt, here)) ∙ tally.before i (omega (arith, lt, there));
  }

-- ---- the same pages

pub tally_same : (n : ℕ) (f h : ℕ → Bool) (t : Tally) → ((i : ℕ) → h i ≡ f i) → IsFreeTally n f t → IsFreeTally n h t
tally_same n f h t same tally = record {
  least = tally.least;
  counted = tally.counted ∙ sym (count_same h f same (range_with_len 1 (n - 1)));
  before = λ i lt. same i ∙ tally.before i lt;
}

pub tally_at : (m n : ℕ) (bits : List ℕ) (t : Tally) → m ≡ n → IsFreeTally n (is_free n bits) t → IsFreeTally m (is_free m bits) t
tally_at m n bits t same tally = subst (λ k. IsFreeTally k (is_free k bits) t) (sym same) tally

pub left_tally_at : (m n : ℕ) (bits : List ℕ) (t : Tally) → m ≡ n → IsFreeTally n (is_left_out n bits) t → IsFreeTally m (is_left_out m bits) t
left_tally_at m n bits t same tally = subst (λ k. IsFreeTally k (is_left_out k bits) t) (sym same) tally

-- no page is free
pub tally_none : (n : ℕ) (f : ℕ → Bool) (t : Tally) → t.count ≡ 0 → t.first ≡ 1 → ((i : ℕ) → f i ≡ false) → IsFreeTally n f t
tally_none n f t count first none = record {
  least = omega (arith, first);
  counted = count ∙ sym (count_none f 1 (n - 1) (λ i le lt. none i));
  before = λ i lt. none i;
}

-- the pages were counted
pub tally_counted : (n : ℕ) (f : ℕ → Bool) (t : Tally) → t.count ≡ count_free f n → t.first ≡ 1 → f 0 ≡ false → IsFreeTally n f t
tally_counted n f t count first none = record {
  least = omega (arith, first);
  counted = count;
  before = λ i lt. let zero_is : i ≡ 0 = omega (arith, lt, first) in ap f zero_is ∙ none;
}

-- ---- the bits turned round

not_not : (b : Bool) → not (not b) ≡ b
not_not true = refl
not_not false = refl

both_false : (a b : Bool) → ((a && false) && b) ≡ false
both_false true b = refl
both_false false b = refl

outside : (n i : ℕ) (b : Bool) → n ≤ i → ((nat_le 1 i && nat_lt i n) && b) ≡ false
outside n i b le = ap (λ x. (nat_le 1 i && x) && b) (le-ltb i n le) ∙ both_false (nat_le 1 i) b

module _ (n : ℕ) (most : n ≤ 30000) (bits others : List ℕ) (each : (i : ℕ) → i < 30000 → has_bit others i ≡ not (has_bit bits i)) where
  pub free_complement : (i : ℕ) → is_free n others i ≡ is_left_out n bits i
  free_complement i = elim (cases_lt i n) [
    | inl lt ↦ ap (λ b. (nat_le 1 i && nat_lt i n) && b) (each i (omega (arith, lt, most)))
    | inr le ↦ outside n i (has_bit others i) le ∙ sym (outside n i (not (has_bit bits i)) le)
  ]

  pub left_complement : (i : ℕ) → is_left_out n others i ≡ is_free n bits i
  left_complement i = elim (cases_lt i n) [
    | inl lt ↦ ap (λ b. (nat_le 1 i && nat_lt i n) && not b) (each i (omega (arith, lt, most)))
        ∙ ap (λ b. (nat_le 1 i && nat_lt i n) && b) (not_not (has_bit bits i))
    | inr le ↦ outside n i (not (has_bit others i)) le ∙ sym (outside n i (has_bit bits i) le)
  ]

-- a bit of a byte turned round
one_not : (x : ℕ) → x < 2 → eqb (1 - x) 1 ≡ not (eqb x 1)
one_not zero lt = refl
one_not (suc zero) lt = refl
one_not (suc (suc x)) lt = absurd (omega (arith, lt))

pub not_bit : (b k : ℕ) → b < 2 ^ 8 → k < 8 → eqb (bit_not w8 b / 2 ^ k % 2) 1 ≡ not (eqb (b / 2 ^ k % 2) 1)
not_bit b k small lt = ap (λ x. eqb x 1) (bit_at_not w8 b k small lt) ∙ one_not (b / 2 ^ k % 2) (omega arith)
