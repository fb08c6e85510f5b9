use Rattle.std.proofs.Common.{◌≡◌, ℕ, zero, suc, ◌+◌, ◌*◌, ◌<◌, true, map, length, replicate, nat_cmp, refl, sym, ◌∙◌, ap, subst, arith}
use Rattle.std.specs.List.{range_with_len, insert}
use Rattle.std.specs.Ordering.{is_lt}
use Rattle.std.proofs.lemmas.Bool.Decides.{nat_tests}
use Rattle.std.proofs.lemmas.List.FromFn.{length-map-range_with_len, map-range_with_len_more}
use Rattle.quilt_record.specs.declared.key.Key.{Key}
use Rattle.quilt_record.specs.declared.record.Record.{Record}
use Rattle.quilt_node.specs.Pages.{is_ascending}
use Rattle.quilt_node.specs.Nodes.{keys_of}
use Rattle.quilt_node.proofs.Ascending.{and_both}
use Rattle.quilt_node.proofs.Leaves.{insert_last}
use Rattle.quilt_btree_tests.proofs.pages.leaf_from.Goals as goal

abbrev item_key : ℕ → Key
item_key i = record { layer = 1; part = 4; code = 0; depth = 0; item = 2 * i }

abbrev item_row : ℕ → Record
item_row i = record { key = item_key i; value = replicate 16 7 }

lower : (x y : ℕ) → x < y → is_lt (nat_cmp x y) ≡ true
lower x y h = grind (arith, nat_tests)

rows_ascend : (first n : ℕ) → is_ascending (keys_of (map item_row (range_with_len first n))) ≡ true
rows_ascend first zero = refl
rows_ascend first (suc zero) = refl
rows_ascend first (suc (suc n)) =
    and_both (is_lt (nat_cmp (2 * first) (2 * (first + 1)))) (is_ascending (keys_of (map item_row (range_with_len (first + 1) (suc n)))))
    (lower (2 * first) (2 * (first + 1)) (omega arith)) (rows_ascend (first + 1) (suc n))

one_more : (first i : ℕ) → insert (map item_row (range_with_len first i)) i (item_row (first + i)) ≡ map item_row (range_with_len first (i + 1))
one_more first i =
    insert_last (map item_row (range_with_len first i)) i (item_row (first + i)) (sym (length-map-range_with_len item_row first i))
    ∙ sym (map-range_with_len_more item_row first i (first + i) refl)

pub insert-requires-clause-room : goal.insert-requires-clause-room
insert-requires-clause-room c =
    let n = ap length c.loop-i.invariant ∙ length-map-range_with_len item_row c.args.first c.loop-i.i in
    let few = c.requires.few in
    omega arith

pub insert-requires-clause-place : goal.insert-requires-clause-place
insert-requires-clause-place c =
    let n = ap length c.loop-i.invariant ∙ length-map-range_with_len item_row c.args.first c.loop-i.i in
    omega arith

pub insert-requires-clause-order : goal.insert-requires-clause-order
insert-requires-clause-order c =
    let same : insert c.loop-i.leaf c.loop-i.i c.row-in-loop-i.result ≡ map item_row (range_with_len c.args.first (c.loop-i.i + 1)) =
    ap (λ l. insert l c.loop-i.i c.row-in-loop-i.result) c.loop-i.invariant
    ∙ ap (λ r. insert (map item_row (range_with_len c.args.first c.loop-i.i)) c.loop-i.i r) c.row-in-loop-i.ensures
    ∙ one_more c.args.first c.loop-i.i in
    subst (λ l. is_ascending (keys_of l) ≡ true) (sym same) (rows_ascend c.args.first (c.loop-i.i + 1))

pub loop-i-preserved : goal.loop-i-preserved
loop-i-preserved c =
    c.insert.ensures ∙ ap (λ l. insert l c.loop-i.i c.row-in-loop-i.result) c.loop-i.invariant
    ∙ ap (λ r. insert (map item_row (range_with_len c.args.first c.loop-i.i)) c.loop-i.i r) c.row-in-loop-i.ensures ∙ one_more c.args.first c.loop-i.i
