-- Keys that ascend are within bounds where the first and the last are.
use Rattle.std.proofs.Common.{◌≡◌, ℕ, zero, suc, ◌-◌, ◌≤◌, Bool, true, false, ◌&&◌, ◌||◌, nat_le, is_some}
use Rattle.std.proofs.Common.{List, [], ◌∷◌, length, Option, Some, None, refl, sym, ◌∙◌, ap, subst, arith}
use Rattle.std.specs.List.{list_all, slice_get}
use Rattle.std.specs.Ordering.{is_lt}
use Rattle.std.proofs.lemmas.List.{length-map}
use Rattle.std.proofs.lemmas.Bool.{and_from, and_parts}
use Rattle.quilt_record.specs.declared.key.Key.{Key}
use Rattle.quilt_record.specs.declared.record.Record.{Record}
use Rattle.quilt_record.specs.Records.{key_cmp}
use Rattle.quilt_record.proofs.Orders.{le_le, lt_lt, lt_to_le}
use Rattle.quilt_node.specs.Nodes.{keys_of, page_records}
use Rattle.quilt_node.specs.Pages.{leaf_of, is_ascending, short_at}
use Rattle.quilt_node.specs.Tree.{Bounds, Whole, Damaged, is_above, is_below, are_within, leaf_walk}
use Rattle.quilt_btree.proofs.subtrees.Walks.{if_true, if_false}
use Rattle.quilt_node.proofs.Ascending.{is_over, ascending_all}
use Rattle.quilt_node.proofs.Places.{leaf_records}
use Rattle.quilt_node.proofs.LeafReads.{keys_read, told}
use Rattle.quilt_audit.proofs.Walked.{from_to, key_of_record}
use Rattle.quilt_types.proofs.Truths.{and_true}

all_got : {X : Type 0} (p : X → Bool) (xs : List X) (i : ℕ) (x : X) → list_all p xs ≡ true → slice_get xs i ≡ Some x → p x ≡ true
all_got p [] zero x h at = cc
all_got p [] (suc i) x h at = cc
all_got p (y ∷ ys) zero x h at = let same : y ≡ x = cc in subst (λ z. p z ≡ true) same (and_parts (p y) (list_all p ys) h).0
all_got p (y ∷ ys) (suc i) x h at = all_got p ys i x (and_parts (p y) (list_all p ys) h).1 at

above_next : (low : Option Key) (k l : Key) → is_lt (key_cmp k l) ≡ true → is_above low k ≡ true → is_above low l ≡ true
above_next None k l h a = refl
above_next (Some m) k l h a = le_le m k l a (lt_to_le (key_cmp k l) h)

below_before : (high : Option Key) (k l : Key) → is_lt (key_cmp k l) ≡ true → is_below high l ≡ true → is_below high k ≡ true
below_before None k l h b = refl
below_before (Some m) k l h b = lt_lt k l m h b

both_ends : (a b c d : Bool) → (a ≡ true → c ≡ true) → (d ≡ true → b ≡ true) → (a && d) ≡ ((a && b) && (c && d))
both_ends false b c d f g = refl
both_ends true b false d f g = let e : false ≡ true = f refl in cc
both_ends true true true d f g = refl
both_ends true false true true f g = let e : false ≡ true = g refl in cc
both_ends true false true false f g = refl

ends_tell : (low high : Option Key) (ks : List Key) (first last : Key) (i : ℕ) → is_ascending ks ≡ true → slice_get ks 0 ≡ Some first
    → slice_get ks i ≡ Some last → length ks ≡ suc i → (is_above low first && is_below high last) ≡ are_within (from_to low high) ks
ends_tell low high [] first last i a f g long = absurd (omega arith)
ends_tell low high (k ∷ []) first last (suc i) a f g long = absurd (omega arith)
ends_tell low high (k ∷ l ∷ ks) first last zero a f g long = absurd (omega arith)
ends_tell low high (k ∷ []) first last zero a f g long =
    let start : k ≡ first = cc in
    let end : k ≡ last = cc in
    ap (λ x. is_above low x && is_below high last) (sym start) ∙ ap (λ x. is_above low k && is_below high x) (sym end)
    ∙ and_true (is_above low k && is_below high k)
ends_tell low high (k ∷ l ∷ ks) first last (suc i) a f g long =
    let t = and_parts (is_lt (key_cmp k l)) (is_ascending (l ∷ ks)) a in
    let start : k ≡ first = cc in
    let under = all_got (is_over k) (l ∷ ks) i last (ascending_all k (l ∷ ks) a) g in
    ap (λ x. is_above low x && is_below high last) (sym start)
    ∙ both_ends (is_above low k) (is_below high k) (is_above low l) (is_below high last) (above_next low k l t.0) (below_before high k last under)
    ∙ ap (λ z. (is_above low k && is_below high k) && z) (ends_tell low high (l ∷ ks) l last i t.1 refl g (omega arith))

some_is : {X : Type 0} (o : Option X) → is_some o ≡ true → (x : X) × (o ≡ Some x)
some_is None t = cc
some_is (Some x) t = (x, refl)

-- the records of a page that is a leaf are those that stand in its bytes
pub leaf_stands : (bytes : List ℕ) → is_some (leaf_of bytes) ≡ true → leaf_of bytes ≡ Some (page_records bytes)
leaf_stands bytes t = let s = some_is (leaf_of bytes) t in s.1 ∙ ap Some (sym (leaf_records bytes s.0 s.1))

-- the first and the last record of such a page
pub leaf_ends : (bytes : List ℕ) (low high : Option Key) (n : ℕ) (first last : Record) → is_some (leaf_of bytes) ≡ true → 1 ≤ n
    → n ≡ length (page_records bytes) → slice_get (page_records bytes) 0 ≡ Some first → slice_get (page_records bytes) (n - 1) ≡ Some last
    → (is_above low first.key && is_below high last.key) ≡ are_within (from_to low high) (keys_of (page_records bytes))
leaf_ends bytes low high n first last is some many f g =
    let rs = page_records bytes in
    let t = told bytes rs (leaf_stands bytes is) in
    let ascends = subst (λ (l : List Key). is_ascending l ≡ true) (keys_read bytes (short_at bytes 2) refl ∙ ap keys_of t.read) t.ascends in
    let long : length (keys_of rs) ≡ length rs = length-map rs (λ (r : Record). r.key) in
    ends_tell low high (keys_of rs) first.key last.key (n - 1) ascends (key_of_record rs 0 first f) (key_of_record rs (n - 1) last g) (omega arith)

not_both : (a b : Bool) → (a ≡ true → b ≡ false) → (a && b) ≡ false
not_both true b f = f refl
not_both false b f = refl

-- the walk at such a page goes on where it has its minimum and keeps its bounds
pub leaf_kept : (bytes : List ℕ) (is_root : Bool) (b : Bounds) (page : ℕ) (visited : List ℕ) → is_some (leaf_of bytes) ≡ true
    → (is_root || nat_le 72 (length (page_records bytes))) ≡ true → are_within b (keys_of (page_records bytes)) ≡ true
    → leaf_walk is_root b page visited (leaf_of bytes) ≡ Whole (page_records bytes) (page ∷ visited)
leaf_kept bytes is_root b page visited is enough within =
    ap (leaf_walk is_root b page visited) (leaf_stands bytes is) ∙ if_true _ _ _ (and_from _ _ enough within)

-- and stops elsewhere
pub leaf_left : (bytes : List ℕ) (is_root : Bool) (b : Bounds) (page : ℕ) (visited : List ℕ) → is_some (leaf_of bytes) ≡ true
    → ((is_root || nat_le 72 (length (page_records bytes))) ≡ true → are_within b (keys_of (page_records bytes)) ≡ false)
    → leaf_walk is_root b page visited (leaf_of bytes) ≡ Damaged page
leaf_left bytes is_root b page visited is f =
    ap (leaf_walk is_root b page visited) (leaf_stands bytes is) ∙ if_false _ _ _ (not_both _ _ f)
