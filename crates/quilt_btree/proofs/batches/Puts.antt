-- A run of edits that only puts records in.
use Rattle.std.proofs.Common.{◌≡◌, ℕ, suc, ◌+◌, ◌<◌, ◌≤◌, true, not, List, [], ◌∷◌, ◌++◌, length, take, Option, refl, sym, ◌∙◌, ap, subst, arith}
use Rattle.std.proofs.Common.{length-take-le}
use Rattle.std.proofs.lemmas.Bool.{and_from}
use Rattle.std.proofs.lemmas.List.{append_assoc, append-nil}
use Rattle.std.specs.List.{list_all, insert}
use Rattle.std.specs.Ordering.{is_lt}
use Rattle.quilt_record.specs.declared.key.Key.{Key}
use Rattle.quilt_record.specs.declared.record.Record.{Record}
use Rattle.quilt_record.specs.Records.{key_cmp}
use Rattle.quilt_record.specs.Lists.{put}
use Rattle.quilt_node.specs.Nodes.{keys_of}
use Rattle.quilt_node.specs.Pages.{is_ascending}
use Rattle.quilt_node.specs.Tree.{is_below}
use Rattle.quilt_node.proofs.Ascending.{all_at, all_take, ascending_take}
use Rattle.quilt_node.proofs.Leaves.{insert_last}
use Rattle.quilt_btree.specs.declared.edit.Edit.{Edit}
use Rattle.quilt_btree.specs.declared.edit.Edit.TheVariants as edit
use Rattle.quilt_btree.specs.Batches.{edit_keys, is_due, edit_all, are_due, records_put}
use Rattle.quilt_btree.specs.Placing.{PutsFirst, puts_one}
use Rattle.quilt_btree.proofs.batches.Below.{keys_take}
use Rattle.quilt_btree.proofs.batches.Leaves.{IsEdited, edit_at, taken}
use Rattle.quilt_btree.proofs.lists.Lists.{IsAmong, any_between, put_between}
use Rattle.quilt_btree.proofs.lists.Rising.{all_map}
use Rattle.quilt_btree.proofs.lists.Separators.{below_separator}
use Rattle.quilt_btree.proofs.subtrees.Trees.{keys_append}

pub puts_append : (xs ys : List Edit) → records_put (xs ++ ys) ≡ records_put xs ++ records_put ys
puts_append [] ys = refl
puts_append (edit.Remove k ∷ xs) ys = puts_append xs ys
puts_append (edit.Put r ∷ xs) ys = ap (λ l. r ∷ l) (puts_append xs ys)
puts_append (edit.Replace r ∷ xs) ys = ap (λ l. r ∷ l) (puts_append xs ys)

-- the keys of the records that come
pub puts_keys : (xs : List Edit) → list_all puts_one xs ≡ true → keys_of (records_put xs) ≡ edit_keys xs
puts_keys [] h = refl
puts_keys (edit.Remove k ∷ xs) h = cc
puts_keys (edit.Put r ∷ xs) h = ap (λ l. r.key ∷ l) (puts_keys xs h)
puts_keys (edit.Replace r ∷ xs) h = cc

pub puts_many : (xs : List Edit) → list_all puts_one xs ≡ true → length (records_put xs) ≡ length xs
puts_many [] h = refl
puts_many (edit.Remove k ∷ xs) h = cc
puts_many (edit.Put r ∷ xs) h = ap suc (puts_many xs h)
puts_many (edit.Replace r ∷ xs) h = cc

-- records that come behind all others
pub puts_behind : (xs : List Edit) (rs : List Record) → list_all puts_one xs ≡ true → is_ascending (keys_of rs ++ edit_keys xs) ≡ true
    → IsEdited rs (rs ++ records_put xs) xs
puts_behind [] rs h a = record { is = append-nil rs; due = refl }
puts_behind (edit.Remove k ∷ xs) rs h a = cc
puts_behind (edit.Put r ∷ xs) rs h a =
    let among : IsAmong r.key rs [] [] rs = record {
      records = sym (append-nil rs);
      lower = all_map (λ (s : Record). s.key) (λ l. is_lt (key_cmp l r.key)) rs (below_separator r.key (keys_of rs) (edit_keys xs) a);
      higher = refl;
    } in
    let is : put r rs ≡ rs ++ r ∷ [] = put_between r rs [] [] rs among in
    let next : keys_of (rs ++ r ∷ []) ++ edit_keys xs ≡ keys_of rs ++ r.key ∷ edit_keys xs =
    ap (λ l. l ++ edit_keys xs) (keys_append rs (r ∷ [])) ∙ append_assoc (keys_of rs) (r.key ∷ []) (edit_keys xs) in
    let more = puts_behind xs (rs ++ r ∷ []) h (subst (λ l. is_ascending l ≡ true) (sym next) a) in
    record {
      is = sym (append_assoc rs (r ∷ []) (records_put xs)) ∙ more.is ∙ ap (edit_all xs) (sym is);
      due = and_from (is_due (edit.Put r) rs) (are_due xs (put r rs)) (ap not (any_between r.key rs [] [] rs among))
          (subst (λ l. are_due xs l ≡ true) (sym is) more.due);
    }
puts_behind (edit.Replace r ∷ xs) rs h a = cc

-- a record and those of a run behind it
pub puts_all : (r : Record) (run : List Edit) → list_all puts_one run ≡ true → is_ascending (r.key ∷ edit_keys run) ≡ true
    → IsEdited [] (r ∷ records_put run) (edit.Put r ∷ run)
puts_all r run h a = puts_behind (edit.Put r ∷ run) [] h a

-- the first edits of a run that ascends behind a key
pub order_take : (k : Key) (n : ℕ) (run : List Edit) → is_ascending (k ∷ edit_keys run) ≡ true → is_ascending (k ∷ edit_keys (take n run)) ≡ true
order_take k n run a = ap (λ l. is_ascending (k ∷ l)) (keys_take n run) ∙ ascending_take (k ∷ edit_keys run) (suc n) a

-- each edit of the run puts a record in
pub put_at : (run : List Edit) (i : ℕ) → i < length run → list_all puts_one run ≡ true → ((r : Record) → edit_at run i ≡ edit.Put r → ⊥) → ⊥
put_at run i lt puts other =
    of (edit_at run i) refl (all_at puts_one run i (edit.Remove (record { layer = 0; part = 0; code = 0; depth = 0; item = 0 })) puts lt)
  where
    of : (e : Edit) → edit_at run i ≡ e → puts_one e ≡ true → ⊥
    of (edit.Remove k) e h = cc
    of (edit.Put r) e h = other r e
    of (edit.Replace r) e h = cc

-- the records that a leaf has, of a run that is put in behind one
module _ (r s : Record) (run : List Edit) (i : ℕ) (leaf : List Record) (is : leaf ≡ r ∷ records_put (take i run)) (lt : i < length run)
    (puts : list_all puts_one run ≡ true) where
  pub filled_room : length run ≤ 143 → length leaf < 144
  filled_room most =
      let many = ap length is ∙ ap suc (puts_many (take i run) (all_take puts_one run i puts)) in
      let long = length-take-le i run (omega arith) in
      omega (arith, many, long, lt, most)

  pub filled_next : edit_at run i ≡ edit.Put s → insert leaf (length leaf) s ≡ r ∷ records_put (take (i + 1) run)
  filled_next next =
      insert_last leaf (length leaf) s refl ∙ ap (λ l. l ++ s ∷ []) is
      ∙ ap (λ l. r ∷ l) (sym (ap records_put (taken run i lt ∙ ap (λ e. take i run ++ e ∷ []) next) ∙ puts_append (take i run) (edit.Put s ∷ [])))

  pub filled_order : edit_at run i ≡ edit.Put s → is_ascending (r.key ∷ edit_keys run) ≡ true
      → is_ascending (keys_of (insert leaf (length leaf) s)) ≡ true
  filled_order next a =
      let xs = take (i + 1) run in
      ap (λ l. is_ascending (keys_of l)) (filled_next next) ∙ ap (λ l. is_ascending (r.key ∷ l)) (puts_keys xs (all_take puts_one run (i + 1) puts))
      ∙ order_take r.key (i + 1) run a

-- so many of the first edits of a run put records in below a bound, and no more than fill a leaf with one before them
pub record AreComing (high : Option Key) (run : List Edit) (n : ℕ) : Type 0 where
  pub first : PutsFirst run n
  pub most : n ≤ 143
  pub under : list_all (is_below high) (edit_keys (take n run)) ≡ true
