-- Keys between two that differ in their items alone.
use Rattle.std.proofs.Common.{◌≡◌, ℕ, ◌≤◌, true, refl, ◌∙◌, ap, subst, ⊎_elim, arith, Ordering, Less, Equal, Greater, nat_cmp}
use Rattle.std.specs.Ordering.{ordering_then, ordering_reverse, is_le}
use Rattle.std.specs.Cmp.{nat_cmp_total}
use Rattle.std.specs.FinMap.{nat_cmp-IsAntisymmetric}
use Rattle.std.proofs.lemmas.Bool.{cases_lt, and_parts, and_from}
use Rattle.quilt_loc.proofs.Rising.{nat_less}
use Rattle.quilt_record.specs.declared.key.Key.{Key}
use Rattle.quilt_record.specs.declared.record.Record.{Record}
use Rattle.quilt_record.specs.Records.{key_cmp}
use Rattle.quilt_btree.specs.Lists.{is_from_to}
use Rattle.quilt_edits.proofs.Keys.{then_equal, nat_same}

-- the key with another item
abbrev pub item_key : Key → ℕ → Key
item_key k item = record { layer = k.layer; part = k.part; code = k.code; depth = k.depth; item = item }

-- two keys that agree but for their items
pub record AreAlike (a b : Key) : Type 0 where
  pub layer : a.layer ≡ b.layer
  pub part : a.part ≡ b.part
  pub code : a.code ≡ b.code
  pub depth : a.depth ≡ b.depth

-- what a number's neighbours squeeze
record IsSqueezed (a b : ℕ) (o p : Ordering) : Type 0 where
  same : a ≡ b
  under : is_le o ≡ true
  over : is_le p ≡ true

squeezed_by : (a b : ℕ) (o p c d : Ordering) → nat_cmp a b ≡ c → d ≡ ordering_reverse c → is_le (ordering_then c o) ≡ true
    → is_le (ordering_then d p) ≡ true → IsSqueezed a b o p
squeezed_by a b o p Less d e f h k = let no : is_le (ordering_then Greater p) ≡ true = subst (λ z. is_le (ordering_then z p) ≡ true) f k in cc
squeezed_by a b o p Equal d e f h k = record { same = nat_cmp-IsAntisymmetric a b e; under = h; over = subst (λ z. is_le (ordering_then z p) ≡ true) f k }
squeezed_by a b o p Greater d e f h k = cc

squeezed : (a b : ℕ) (o p : Ordering) → is_le (ordering_then (nat_cmp a b) o) ≡ true → is_le (ordering_then (nat_cmp b a) p) ≡ true → IsSqueezed a b o p
squeezed a b o p h k = squeezed_by a b o p (nat_cmp a b) (nat_cmp b a) refl (nat_cmp_total.antisymm b a) h k

-- a key between two that are alike is alike
pub between_alike : (low k : Key) (i j : ℕ) → is_le (key_cmp (item_key low i) k) ≡ true → is_le (key_cmp k (item_key low j)) ≡ true → AreAlike low k
between_alike low k i j h g =
    let a = squeezed low.layer k.layer _ _ h g in
    let b = squeezed low.part k.part _ _ a.under a.over in
    let c = squeezed low.code k.code _ _ b.under b.over in
    let d = squeezed low.depth k.depth _ _ c.under c.over in
    record { layer = a.same; part = b.same; code = c.same; depth = d.same }

-- keys that are alike by their items
pub by_item : (k : Key) (i j : ℕ) → key_cmp (item_key k i) (item_key k j) ≡ nat_cmp i j
by_item k i j =
    then_equal _ _ (nat_same k.layer k.layer refl) ∙ then_equal _ _ (nat_same k.part k.part refl) ∙ then_equal _ _ (nat_same k.code k.code refl)
    ∙ then_equal _ _ (nat_same k.depth k.depth refl)

pub le_item : (i j : ℕ) → i ≤ j → is_le (nat_cmp i j) ≡ true
le_item i j le = ⊎_elim (λ lt. ap is_le (nat_less i j lt)) (λ ge. ap is_le (nat_same i j (omega arith))) (cases_lt i j)

-- the range of all items has each key that is alike
pub in_range : (low : Key) (r : Record) (most : ℕ) → r.key ≡ item_key low r.key.item → r.key.item ≤ most
    → is_from_to (item_key low 0) (item_key low most) r ≡ true
in_range low r most e le =
    let k = r.key in
    let above : is_le (key_cmp (item_key low 0) k) ≡ true =
    ap (λ z. is_le (key_cmp (item_key low 0) z)) e ∙ ap is_le (by_item low 0 k.item) ∙ le_item 0 k.item (omega arith) in
    let below : is_le (key_cmp k (item_key low most)) ≡ true =
    ap (λ z. is_le (key_cmp z (item_key low most))) e ∙ ap is_le (by_item low k.item most) ∙ le_item k.item most le in
    and_from (is_le (key_cmp (item_key low 0) k)) (is_le (key_cmp k (item_key low most))) above below

pub range_alike : (low : Key) (r : Record) (most : ℕ) → is_from_to (item_key low 0) (item_key low most) r ≡ true → AreAlike low r.key
range_alike low r most t =
    let both = and_parts (is_le (key_cmp (item_key low 0) r.key)) (is_le (key_cmp r.key (item_key low most))) t in
    between_alike low r.key 0 most both.0 both.1
