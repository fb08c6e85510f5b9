use Rattle.std.proofs.Common.{◌≡◌, ℕ, zero, suc, ◌+◌, ◌-◌, ◌*◌, ◌<◌, ◌≤◌, true, [], ◌∷◌, ◌++◌, map, length, nat_cmp, refl, sym, ◌∙◌, ap, subst, arith}
use Rattle.std.specs.List.{range_with_len, insert}
use Rattle.std.specs.Ordering.{is_lt}
use Rattle.std.proofs.lemmas.Bool.Decides.{nat_tests}
use Rattle.std.proofs.lemmas.List.FromFn.{length-range_with_len, length-map-range_with_len, map-range_with_len_more}
use Rattle.quilt_record.specs.declared.key.Key.{Key}
use Rattle.quilt_node.specs.Pages.{Inner, is_ascending}
use Rattle.quilt_node.specs.Edits.{with_child}
use Rattle.quilt_node.proofs.Ascending.{and_both}
use Rattle.quilt_node.proofs.Leaves.{insert_last}
use Rattle.quilt_btree_tests.proofs.pages.inner_from.Goals as goal

abbrev item_key : ℕ → Key
item_key i = record { layer = 1; part = 4; code = 0; depth = 0; item = 2 * i }

lower : (x y : ℕ) → x < y → is_lt (nat_cmp x y) ≡ true
lower x y h = grind (arith, nat_tests)

keys_ascend : (first n : ℕ) → is_ascending (map item_key (range_with_len first n)) ≡ true
keys_ascend first zero = refl
keys_ascend first (suc zero) = refl
keys_ascend first (suc (suc n)) =
    and_both (is_lt (nat_cmp (2 * first) (2 * (first + 1)))) (is_ascending (map item_key (range_with_len (first + 1) (suc n))))
    (lower (2 * first) (2 * (first + 1)) (omega arith)) (keys_ascend (first + 1) (suc n))

more_range : (a n j : ℕ) → a + n ≡ j → range_with_len a (n + 1) ≡ range_with_len a n ++ j ∷ []
more_range a zero j e = let same : a ≡ j = omega arith in ap (λ x. x ∷ []) same
more_range a (suc n) j e = let m : suc n + 1 ≡ suc (n + 1) = omega arith in ap (range_with_len a) m ∙ ap (λ l. a ∷ l) (more_range (a + 1) n j (omega arith))

-- one more key
more_key : (first i j : ℕ) → first + 1 + i ≡ j
    → insert (map item_key (range_with_len (first + 1) i)) i (item_key j) ≡ map item_key (range_with_len (first + 1) (i + 1))
more_key first i j e =
    insert_last (map item_key (range_with_len (first + 1) i)) i (item_key j) (sym (length-map-range_with_len item_key (first + 1) i))
    ∙ sym (map-range_with_len_more item_key (first + 1) i j e)

-- and one more child
more_child : (first i j : ℕ) → first + 1 + i ≡ j → insert (range_with_len (first + 1) i) i j ≡ range_with_len (first + 1) (i + 1)
more_child first i j e = insert_last (range_with_len (first + 1) i) i j (sym (length-range_with_len (first + 1) i)) ∙ sym (more_range (first + 1) i j e)

abbrev page_of : ℕ → ℕ → Inner
page_of first i = record { height = 2; children = range_with_len (first + 1) i; keys = map item_key (range_with_len (first + 1) (i - 1)) }

-- the keys then
keys_more : (first i : ℕ) (inner : Inner) (k : Key) → 2 ≤ i → inner ≡ page_of first i → k ≡ item_key (first + i)
    → insert inner.keys (i - 1) k ≡ map item_key (range_with_len (first + 1) ((i + 1) - 1))
keys_more first i inner k two e f =
    let m : (i - 1) + 1 ≡ (i + 1) - 1 = omega arith in
    ap (λ (p : Inner). insert p.keys (i - 1) k) e ∙ ap (λ l. insert (map item_key (range_with_len (first + 1) (i - 1))) (i - 1) l) f
    ∙ more_key first (i - 1) (first + i) (omega arith)
    ∙ ap (λ n. map item_key (range_with_len (first + 1) n)) m

children_more : (first i : ℕ) (inner : Inner) → 2 ≤ i → inner ≡ page_of first i
    → insert inner.children (suc (i - 1)) (first + i + 1) ≡ range_with_len (first + 1) (i + 1)
children_more first i inner two e =
    let m : suc (i - 1) ≡ i = omega arith in
    ap (λ (p : Inner). insert p.children (suc (i - 1)) (first + i + 1)) e ∙ ap (λ n. insert (range_with_len (first + 1) i) n (first + i + 1)) m
    ∙ more_child first i (first + i + 1) (omega arith)

page_more : (first i : ℕ) (inner : Inner) (k : Key) → 2 ≤ i → inner ≡ page_of first i → k ≡ item_key (first + i)
    → with_child inner (i - 1) k (first + i + 1) ≡ page_of first (i + 1)
page_more first i inner k two e f =
    let a : inner.height ≡ 2 = ap (λ (p : Inner). p.height) e in
    let b = children_more first i inner two e in
    let d = keys_more first i inner k two e f in
    λ t. record { height = a t; children = b t; keys = d t }

children_many : (first i : ℕ) (inner : Inner) → inner ≡ page_of first i → length inner.children ≡ i
children_many first i inner e = ap (λ (p : Inner). length p.children) e ∙ length-range_with_len (first + 1) i

pub insert-requires-clause-room : goal.insert-requires-clause-room
insert-requires-clause-room c =
    let n = children_many c.args.first c.loop-i.i c.loop-i.inner c.loop-i.invariant in
    let few = c.requires.few in
    omega arith

pub insert-requires-clause-place : goal.insert-requires-clause-place
insert-requires-clause-place c =
    let n = children_many c.args.first c.loop-i.i c.loop-i.inner c.loop-i.invariant in
    omega arith

pub insert-requires-clause-order : goal.insert-requires-clause-order
insert-requires-clause-order c =
    subst (λ l. is_ascending l ≡ true)
    (sym (keys_more c.args.first c.loop-i.i c.loop-i.inner c.key-in-loop-i.result c.loop-i.auto.i c.loop-i.invariant c.key-in-loop-i.ensures))
    (keys_ascend (c.args.first + 1) ((c.loop-i.i + 1) - 1))

pub loop-i-preserved : goal.loop-i-preserved
loop-i-preserved c =
    c.insert.ensures ∙ page_more c.args.first c.loop-i.i c.loop-i.inner c.key-in-loop-i.result c.loop-i.auto.i c.loop-i.invariant c.key-in-loop-i.ensures
