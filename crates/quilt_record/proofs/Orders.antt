-- The order of keys is total, and only equals tie.
use Rattle.std.proofs.Common.{◌≡◌, true, false, refl, sym, ◌∙◌, ap, nat_cmp, Ordering, Less, Equal, Greater}
use Rattle.std.specs.Ordering.{ordering_then, ordering_reverse, is_lt, is_le, is_eq}
use Rattle.std.specs.FinMap.{nat_cmp-IsAntisymmetric}
use Rattle.std.specs.Cmp.{IsTotalOrder, nat_cmp_total, on_total, then_total}
use Rattle.quilt_record.specs.declared.key.Key.{Key}
use Rattle.quilt_record.specs.Records.{key_cmp}

pub key_total : IsTotalOrder key_cmp
key_total =
    then_total (on_total (λ (k : Key). k.layer) nat_cmp_total)
    (then_total (on_total (λ (k : Key). k.part) nat_cmp_total)
    (then_total (on_total (λ (k : Key). k.code) nat_cmp_total)
    (then_total (on_total (λ (k : Key). k.depth) nat_cmp_total) (on_total (λ (k : Key). k.item) nat_cmp_total))))

pub is_Less : (o : Ordering) → is_lt o ≡ true → o ≡ Less
is_Less Less h = refl
is_Less Equal h = cc
is_Less Greater h = cc

pub is_Equal : (o : Ordering) → is_eq o ≡ true → o ≡ Equal
is_Equal Less h = cc
is_Equal Equal h = refl
is_Equal Greater h = cc

-- below, and then at most
pub lt_le_step : (a b c : Key) (o : Ordering) → o ≡ key_cmp b c → key_cmp a b ≡ Less → is_le o ≡ true → key_cmp a c ≡ Less
lt_le_step a b c Less e h g = key_total.trans a b c h (sym e)
lt_le_step a b c Equal e h g =
    key_total.antisymm a c ∙ ap ordering_reverse (sym (key_total.congr b c a (sym e))) ∙ sym (key_total.antisymm a b) ∙ h
lt_le_step a b c Greater e h g = cc

pub lt_le : (a b c : Key) → is_lt (key_cmp a b) ≡ true → is_le (key_cmp b c) ≡ true → is_lt (key_cmp a c) ≡ true
lt_le a b c h g = ap is_lt (lt_le_step a b c (key_cmp b c) refl (is_Less (key_cmp a b) h) g)

le_lt_step : (a b c : Key) (o : Ordering) → key_cmp a b ≡ o → key_cmp b c ≡ Less → is_le o ≡ true → key_cmp a c ≡ Less
le_lt_step a b c Less e h g = key_total.trans a b c e h
le_lt_step a b c Equal e h g = key_total.congr a b c e ∙ h
le_lt_step a b c Greater e h g = cc

pub le_lt : (a b c : Key) → is_le (key_cmp a b) ≡ true → is_lt (key_cmp b c) ≡ true → is_lt (key_cmp a c) ≡ true
le_lt a b c g h = ap is_lt (le_lt_step a b c (key_cmp a b) refl (is_Less (key_cmp b c) h) g)

pub lt_to_le : (o : Ordering) → is_lt o ≡ true → is_le o ≡ true
lt_to_le Less h = refl
lt_to_le Equal h = cc
lt_to_le Greater h = cc

le_le_step : (a b c : Key) (o : Ordering) → key_cmp a b ≡ o → is_le o ≡ true → is_le (key_cmp b c) ≡ true → is_le (key_cmp a c) ≡ true
le_le_step a b c Less e g h = lt_to_le (key_cmp a c) (lt_le a b c (ap is_lt e) h)
le_le_step a b c Equal e g h = ap is_le (key_total.congr a b c e) ∙ h
le_le_step a b c Greater e g h = cc

pub le_le : (a b c : Key) → is_le (key_cmp a b) ≡ true → is_le (key_cmp b c) ≡ true → is_le (key_cmp a c) ≡ true
le_le a b c g h = le_le_step a b c (key_cmp a b) refl g h

pub lt_not_eq : (o : Ordering) → is_lt o ≡ true → is_eq o ≡ false
lt_not_eq Less h = refl
lt_not_eq Equal h = cc
lt_not_eq Greater h = cc

-- what comes after is not the key either
pub gt_not_eq : (a b : Key) → is_lt (key_cmp a b) ≡ true → is_eq (key_cmp b a) ≡ false
gt_not_eq a b h = ap is_eq (key_total.antisymm b a ∙ ap ordering_reverse (is_Less (key_cmp a b) h))

pub not_le : (a b : Key) → is_le (key_cmp a b) ≡ false → is_lt (key_cmp b a) ≡ true
not_le a b h = ap is_lt (key_total.antisymm b a) ∙ reversed (key_cmp a b) h
  where
    reversed : (o : Ordering) → is_le o ≡ false → is_lt (ordering_reverse o) ≡ true
    reversed Less h = cc
    reversed Equal h = cc
    reversed Greater h = refl

pub lt_lt : (a b c : Key) → is_lt (key_cmp a b) ≡ true → is_lt (key_cmp b c) ≡ true → is_lt (key_cmp a c) ≡ true
lt_lt a b c h g = lt_le a b c h (lt_to_le (key_cmp b c) g)

pub then_equal : (o p : Ordering) → ordering_then o p ≡ Equal → (o ≡ Equal) × (p ≡ Equal)
then_equal Less p h = cc
then_equal Equal p h = (refl, h)
then_equal Greater p h = cc

-- only a key itself ties with it
pub key_equal : (a b : Key) → key_cmp a b ≡ Equal → a ≡ b
key_equal a b h =
    let one = then_equal (nat_cmp a.layer b.layer) _ h in
    let two = then_equal (nat_cmp a.part b.part) _ one.1 in
    let three = then_equal (nat_cmp a.code b.code) _ two.1 in
    let four = then_equal (nat_cmp a.depth b.depth) _ three.1 in
    let layer = nat_cmp-IsAntisymmetric a.layer b.layer one.0 in
    let part = nat_cmp-IsAntisymmetric a.part b.part two.0 in
    let code = nat_cmp-IsAntisymmetric a.code b.code three.0 in
    let depth = nat_cmp-IsAntisymmetric a.depth b.depth four.0 in
    let item = nat_cmp-IsAntisymmetric a.item b.item four.1 in
    λ i. record { layer = layer i; part = part i; code = code i; depth = depth i; item = item i }
