-- What the order of keys says of their numbers.
use Rattle.std.proofs.Common.{◌≡◌, ℕ, ◌<◌, ◌≤◌, true, sym, ◌∙◌, ap, subst, ⊎_elim, Ordering, Less, Equal, Greater, nat_cmp}
use Rattle.std.specs.Ordering.{ordering_then, ordering_reverse, is_le}
use Rattle.std.specs.Cmp.{nat_cmp_total, tied_itself}
use Rattle.std.proofs.lemmas.Bool.{cases_lt}
use Rattle.quilt_loc.proofs.Rising.{nat_less}
use Rattle.quilt_record.specs.declared.key.Key.{Key}
use Rattle.quilt_record.specs.Records.{key_cmp}

pub then_equal : (o p : Ordering) → o ≡ Equal → ordering_then o p ≡ p
then_equal o p e = ap (λ q. ordering_then q p) e

then_less : (o p : Ordering) → o ≡ Less → ordering_then o p ≡ Less
then_less o p e = ap (λ q. ordering_then q p) e

pub nat_same : (a b : ℕ) → a ≡ b → nat_cmp a b ≡ Equal
nat_same a b e = ap (λ c. nat_cmp a c) (sym e) ∙ tied_itself nat_cmp_total a

nat_greater : (a b : ℕ) → b < a → nat_cmp a b ≡ Greater
nat_greater a b lt = nat_cmp_total.antisymm a b ∙ ap ordering_reverse (nat_less b a lt)

not_greater : (o p : Ordering) → o ≡ Greater → is_le (ordering_then o p) ≡ true → ⊥
not_greater o p e h = let g : is_le (ordering_then Greater p) ≡ true = subst (λ q. is_le (ordering_then q p) ≡ true) e h in cc

le_number : (a b : ℕ) (o : Ordering) → is_le (ordering_then (nat_cmp a b) o) ≡ true → a ≤ b
le_number a b o h = ⊎_elim (λ lt. absurd (not_greater (nat_cmp a b) o (nat_greater a b lt) h)) (λ le. le) (cases_lt b a)

-- a key that is at most another
pub le_layer : (a b : Key) → is_le (key_cmp a b) ≡ true → a.layer ≤ b.layer
le_layer a b h = le_number a.layer b.layer _ h

same_part : (a b : Key) → a.layer ≡ b.layer → a.part ≡ b.part
    → key_cmp a b ≡ ordering_then (nat_cmp a.code b.code) (ordering_then (nat_cmp a.depth b.depth) (nat_cmp a.item b.item))
same_part a b l p = then_equal _ _ (nat_same a.layer b.layer l) ∙ then_equal _ _ (nat_same a.part b.part p)

pub le_code : (a b : Key) → a.layer ≡ b.layer → a.part ≡ b.part → is_le (key_cmp a b) ≡ true → a.code ≤ b.code
le_code a b l p h = le_number a.code b.code _ (sym (ap is_le (same_part a b l p)) ∙ h)

-- a key that is less than another
pub less_layer : (a b : Key) → a.layer < b.layer → key_cmp a b ≡ Less
less_layer a b lt = then_less _ _ (nat_less a.layer b.layer lt)

pub less_part : (a b : Key) → a.layer ≡ b.layer → a.part < b.part → key_cmp a b ≡ Less
less_part a b l lt = then_equal _ _ (nat_same a.layer b.layer l) ∙ then_less _ _ (nat_less a.part b.part lt)

pub less_code : (a b : Key) → a.layer ≡ b.layer → a.part ≡ b.part → a.code < b.code → key_cmp a b ≡ Less
less_code a b l p lt = same_part a b l p ∙ then_less _ _ (nat_less a.code b.code lt)

pub less_depth : (a b : Key) → a.layer ≡ b.layer → a.part ≡ b.part → a.code ≡ b.code → a.depth < b.depth → key_cmp a b ≡ Less
less_depth a b l p c lt = same_part a b l p ∙ then_equal _ _ (nat_same a.code b.code c) ∙ then_less _ _ (nat_less a.depth b.depth lt)

pub Less≢Equal : Less ≡ Equal → ⊥
Less≢Equal e = cc
