-- Which pages are free, after each step.
use Rattle.std.proofs.Common.{◌≡◌, ◌≢◌, replicate, ℕ, zero, suc, ◌+◌, ◌*◌, ◌/◌, ◌%◌, ◌^◌, ◌<◌, ◌≤◌, Bool, true, false, cond, ◌&&◌, eqb}
use Rattle.std.proofs.Common.{nat_eq, nat_le, nat_lt, List, get_or, refl, ◌∙◌, ap, arith}
use Rattle.std.proofs.Math.Nat.{zero-div}
use Rattle.std.proofs.lemmas.Bool.{eq-eqb, ne_eqb, le-leb, lt-ltb, le-ltb}
use Rattle.quilt_journal.proofs.Bits.{no_bit}
use Rattle.quilt_journal.specs.Changed.{has_bit}
use Rattle.quilt_store.specs.Store.{FreesOnly}
use Rattle.quilt_edition.specs.Keeping.{is_free}

pub free_at : (n : ℕ) (bits : List ℕ) (page : ℕ) → 1 ≤ page → page < n → is_free n bits page ≡ has_bit bits page
free_at n bits page least most = rw (le-leb 1 page least, lt-ltb page n most) refl

pub frees_only : (n : ℕ) (old new : List ℕ) (page : ℕ) (b : Bool) → 1 ≤ page → page < n
    → ((j : ℕ) → has_bit new j ≡ cond (nat_eq j page) b (has_bit old j)) → FreesOnly page b (is_free n old) (is_free n new)
frees_only n old new page b least most bits = record {
  here = free_at n new page least most ∙ bits page ∙ ap (λ c. cond c b (has_bit old page)) (eq-eqb page page refl);
  others = λ q ne. ap (λ c. (nat_le 1 q && nat_lt q n) && c) (bits q ∙ ap (λ c. cond c b (has_bit old q)) (ne_eqb q page ne));
}

-- the pages that are left out are free
twice : (a b : Bool) → (a && (a && b)) ≡ (a && b)
twice true b = refl
twice false b = refl

-- ---- one page more

-- where no bit is set no page is free
pub none_free : (n page : ℕ) → is_free n (replicate 3750 0) page ≡ false
none_free n page = ap (λ b. (nat_le 1 page && nat_lt page n) && b) (no_bit page) ∙ none (nat_le 1 page && nat_lt page n)
  where
    none : (a : Bool) → (a && false) ≡ false
    none true = refl
    none false = refl

-- ---- the 8 pages of a byte

pub none_and : (a : Bool) → (a && false) ≡ false
none_and true = refl
none_and false = refl

full_bit : (k : ℕ) → k < 8 → eqb (255 / 2 ^ k % 2) 1 ≡ true
full_bit zero lt = refl
full_bit (suc zero) lt = refl
full_bit (suc (suc zero)) lt = refl
full_bit (suc (suc (suc zero))) lt = refl
full_bit (suc (suc (suc (suc zero)))) lt = refl
full_bit (suc (suc (suc (suc (suc zero))))) lt = refl
full_bit (suc (suc (suc (suc (suc (suc zero)))))) lt = refl
full_bit (suc (suc (suc (suc (suc (suc (suc zero))))))) lt = refl
full_bit (suc (suc (suc (suc (suc (suc (suc (suc k)))))))) lt = absurd (omega (arith, lt))

module _ (n byte : ℕ) (bits : List ℕ) (i : ℕ) (from : 8 * byte ≤ i) (to : i < 8 * byte + 8) where
  bit_in : (x : ℕ) → get_or bits byte 0 ≡ x → has_bit bits i ≡ eqb (x / 2 ^ (i % 8) % 2) 1
  bit_in x is =
      let here : i / 8 ≡ byte = omega (arith, from, to) in
      ap (λ k. eqb (get_or bits k 0 / 2 ^ (i % 8) % 2) 1) here ∙ ap (λ y. eqb (y / 2 ^ (i % 8) % 2) 1) is

  -- none is free where the byte is 0
  pub none_in : get_or bits byte 0 ≡ 0 → is_free n bits i ≡ false
  none_in is =
      ap (λ b. (nat_le 1 i && nat_lt i n) && b) (bit_in 0 is ∙ ap (λ x. eqb (x % 2) 1) (zero-div (2 ^ (i % 8))))
      ∙ none_and (nat_le 1 i && nat_lt i n)

  -- each is free where all bits of the byte are set
  pub all_in : 1 ≤ byte → 8 * byte + 8 ≤ n → get_or bits byte 0 ≡ 255 → is_free n bits i ≡ true
  all_in least most is = free_at n bits i (omega (arith, from, least)) (omega (arith, to, most)) ∙ bit_in 255 is ∙ full_bit (i % 8) (omega arith)

-- neither page 0 nor a page past the last is free
pub first_taken : (n : ℕ) (bits : List ℕ) → is_free n bits 0 ≡ false
first_taken n bits = refl

pub past_taken : (n : ℕ) (bits : List ℕ) (i : ℕ) → n ≤ i → is_free n bits i ≡ false
past_taken n bits i le = ap (λ b. (nat_le 1 i && b) && has_bit bits i) (le-ltb i n le) ∙ ap (λ b. b && has_bit bits i) (none_and (nat_le 1 i))
