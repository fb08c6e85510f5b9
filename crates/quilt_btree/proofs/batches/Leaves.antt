-- Edits that are made one after the other, in a leaf and in a list.
use Rattle.std.proofs.Common.{◌≡◌, ℕ, zero, suc, ◌+◌, ◌<◌, Bool, true, false, not, ◌&&◌, List, [], ◌∷◌, ◌++◌, length, take, drop, get_or}
use Rattle.std.proofs.lemmas.Bool.{and_from, and_parts}
use Rattle.std.proofs.Common.{Option, refl, sym, ◌∙◌, ap, subst, arith, add-one, take-append-drop}
use Rattle.std.specs.List.{list_all, insert, remove}
use Rattle.std.specs.Ordering.{is_lt}
use Rattle.quilt_record.specs.Records.{key_cmp}
use Rattle.std.proofs.lemmas.List.Edits.{length-remove}
use Rattle.quilt_record.specs.declared.key.Key.{Key}
use Rattle.quilt_record.specs.declared.record.Record.{Record}
use Rattle.quilt_record.specs.Lists.{put, without}
use Rattle.quilt_node.specs.Nodes.{IsFound, IsGap}
use Rattle.quilt_node.specs.Tree.{is_below}
use Rattle.quilt_btree.specs.declared.edit.Edit.{Edit}
use Rattle.quilt_btree.specs.declared.edit.Edit.TheVariants as edit
use Rattle.quilt_btree.specs.Batches.{key_of, edit_keys, is_due, edited, edit_all, are_due}
use Rattle.quilt_btree.proofs.lists.Lists.{IsAmong, put_between, without_between, any_between}
use Rattle.quilt_btree.proofs.removals.Drains.{AreAmong, head_among, rest_among}
use Rattle.quilt_btree.proofs.ways.Leaves.{put_gap, without_found}

-- the gap where a record was
take_remove : (rs : List Record) (i : ℕ) → take i (remove rs i) ≡ take i rs
take_remove [] zero = refl
take_remove [] (suc i) = refl
take_remove (r ∷ rs) zero = refl
take_remove (r ∷ rs) (suc i) = ap (λ l. r ∷ l) (take_remove rs i)

drop_remove : (rs : List Record) (i : ℕ) → drop i (remove rs i) ≡ drop (suc i) rs
drop_remove [] zero = refl
drop_remove [] (suc i) = refl
drop_remove (r ∷ rs) zero = refl
drop_remove (r ∷ rs) (suc i) = drop_remove rs i

pub gap_left : (k : Key) (rs : List Record) (i : ℕ) → IsFound k rs i → IsGap k (remove rs i) i
gap_left k rs i f = record {
  in_range = let e = length-remove rs i f.in_range in let h = f.in_range in omega (arith, e, h);
  before = subst (λ l. list_all (λ (r : Record). is_lt (key_cmp r.key k)) l ≡ true) (sym (take_remove rs i)) f.before;
  behind = subst (λ l. list_all (λ (r : Record). is_lt (key_cmp k r.key)) l ≡ true) (sym (drop_remove rs i)) f.behind;
}

pub put_over_many : (r : Record) (rs left : List Record) (i : ℕ) → IsFound r.key rs i → left ≡ remove rs i
    → insert left i r ≡ put r (without r.key rs)
put_over_many r rs left i f is =
    ap (λ l. insert l i r) is ∙ put_gap r (remove rs i) i (gap_left r.key rs i f) ∙ ap (put r) (without_found r.key rs i f.found f f.here)

-- two runs, one behind the other
pub edit_all-append : (xs ys : List Edit) (rs : List Record) → edit_all (xs ++ ys) rs ≡ edit_all ys (edit_all xs rs)
edit_all-append [] ys rs = refl
edit_all-append (x ∷ xs) ys rs = edit_all-append xs ys (edited x rs)

pub are_due-append : (xs ys : List Edit) (rs : List Record) → are_due (xs ++ ys) rs ≡ (are_due xs rs && are_due ys (edit_all xs rs))
are_due-append [] ys rs = refl
are_due-append (x ∷ xs) ys rs =
    ap (λ b. is_due x rs && b) (are_due-append xs ys (edited x rs))
    ∙ joined (is_due x rs) (are_due xs (edited x rs)) (are_due ys (edit_all xs (edited x rs)))
  where
    joined : (a b c : Bool) → (a && (b && c)) ≡ ((a && b) && c)
    joined true b c = refl
    joined false b c = refl

pub keys-append : (xs ys : List Edit) → edit_keys (xs ++ ys) ≡ edit_keys xs ++ edit_keys ys
keys-append [] ys = refl
keys-append (x ∷ xs) ys = ap (λ l. key_of x ∷ l) (keys-append xs ys)

-- the edit at a place of a run, and one of zeros behind its end
abbrev pub edit_at : List Edit → ℕ → Edit
edit_at run i = get_or run i (edit.Remove (record { layer = 0; part = 0; code = 0; depth = 0; item = 0 }))

pub taken : (xs : List Edit) (i : ℕ) → i < length xs → take (i + 1) xs ≡ take i xs ++ edit_at xs i ∷ []
taken xs i lt = ap (λ n. take n xs) (add-one i) ∙ step xs i lt
  where
    nearest : (i n : ℕ) → suc i < suc n → i < n
    nearest i n h = omega arith

    step : (xs : List Edit) (i : ℕ) → i < length xs → take (suc i) xs ≡ take i xs ++ edit_at xs i ∷ []
    step [] i lt = absurd (omega arith)
    step (x ∷ xs) zero lt = refl
    step (x ∷ xs) (suc i) lt = ap (λ l. x ∷ l) (step xs i (nearest i (length xs) lt))

-- how far a run is in a leaf
pub record IsEdited (leaf now : List Record) (run : List Edit) : Type 0 where
  pub is : now ≡ edit_all run leaf
  pub due : are_due run leaf ≡ true

module _ (leaf now : List Record) where
  pub edited_next : (new : List Record) (run : List Edit) (i : ℕ) → i < length run → IsEdited leaf now (take i run)
      → is_due (edit_at run i) now ≡ true → new ≡ edited (edit_at run i) now → IsEdited leaf new (take (i + 1) run)
  edited_next new run i lt d due is =
      let xs = take i run in
      let e = edit_at run i in
      subst (IsEdited leaf new) (sym (taken run i lt)) (record {
        is = is ∙ ap (edited e) d.is ∙ sym (edit_all-append xs (e ∷ []) leaf);
        due = are_due-append xs (e ∷ []) leaf ∙ and_from (are_due xs leaf) (is_due e (edit_all xs leaf) && true) d.due
            (and_from (is_due e (edit_all xs leaf)) true (subst (λ l. is_due e l ≡ true) d.is due) refl);
      })

  pub edited_fails : (run : List Edit) (i : ℕ) → i < length run → IsEdited leaf now (take i run) → is_due (edit_at run i) now ≡ false
      → are_due run leaf ≡ false
  edited_fails run i lt d not_due =
      let xs = take i run in
      let ys = drop (i + 1) run in
      let e = edit_at run i in
      ap (λ l. are_due l leaf) (sym (take-append-drop (i + 1) run) ∙ ap (λ l. l ++ ys) (taken run i lt))
      ∙ are_due-append (xs ++ e ∷ []) ys leaf ∙ ap (λ b. b && are_due ys (edit_all (xs ++ e ∷ []) leaf))
      (are_due-append xs (e ∷ []) leaf ∙ late (are_due xs leaf) (is_due e (edit_all xs leaf)) (subst (λ l. is_due e l ≡ false) d.is not_due))
    where
      late : (a b : Bool) → b ≡ false → (a && (b && true)) ≡ false
      late a b h = grind arith

-- edits among other records
edited_between : (x : Edit) (first here last rs : List Record) → IsAmong (key_of x) first here last rs
    → edited x rs ≡ first ++ (edited x here ++ last)
edited_between (edit.Remove k) first here last rs a = without_between k first here last rs a
edited_between (edit.Put r) first here last rs a = put_between r first here last rs a
edited_between (edit.Replace r) first here last rs a =
    put_between r first (without r.key here) last (without r.key rs)
    (record { records = without_between r.key first here last rs a; lower = a.lower; higher = a.higher })

due_between : (x : Edit) (first here last rs : List Record) → IsAmong (key_of x) first here last rs → is_due x rs ≡ is_due x here
due_between (edit.Remove k) first here last rs a = any_between k first here last rs a
due_between (edit.Put r) first here last rs a = ap not (any_between r.key first here last rs a)
due_between (edit.Replace r) first here last rs a = any_between r.key first here last rs a

pub edit_all_between : (first here last rs : List Record) (xs : List Edit) → rs ≡ first ++ (here ++ last) → AreAmong first last (edit_keys xs)
    → edit_all xs rs ≡ first ++ (edit_all xs here ++ last)
edit_all_between first here last rs [] e a = e
edit_all_between first here last rs (x ∷ xs) e a =
    edit_all_between first (edited x here) last (edited x rs) xs
    (edited_between x first here last rs (head_among first here last rs (key_of x) (edit_keys xs) e a))
    (rest_among first last (key_of x) (edit_keys xs) a)

pub are_due_between : (first here last rs : List Record) (xs : List Edit) → rs ≡ first ++ (here ++ last) → AreAmong first last (edit_keys xs)
    → are_due xs rs ≡ are_due xs here
are_due_between first here last rs [] e a = refl
are_due_between first here last rs (x ∷ xs) e a =
    let h = head_among first here last rs (key_of x) (edit_keys xs) e a in
    both (is_due x rs) (is_due x here) (are_due xs (edited x rs)) (are_due xs (edited x here)) (due_between x first here last rs h)
    (are_due_between first (edited x here) last (edited x rs) xs (edited_between x first here last rs h) (rest_among first last (key_of x) (edit_keys xs) a))
  where
    both : (a b c d : Bool) → a ≡ b → c ≡ d → (a && c) ≡ (b && d)
    both a b c d h g = cc

all_on : (p : Key → Bool) (xs : List Key) (x : Key) → list_all p xs ≡ true → p x ≡ true → list_all p (xs ++ x ∷ []) ≡ true
all_on p [] x h g = and_from (p x) true g refl
all_on p (y ∷ xs) x h g = let t = and_parts (p y) (list_all p xs) h in and_from (p y) (list_all p (xs ++ x ∷ [])) t.0 (all_on p xs x t.1 g)

pub seen_next : (high : Option Key) (run : List Edit) (i : ℕ) → i < length run → list_all (is_below high) (edit_keys (take i run)) ≡ true
    → is_below high (key_of (edit_at run i)) ≡ true → list_all (is_below high) (edit_keys (take (i + 1) run)) ≡ true
seen_next high run i lt h g =
    ap (λ l. list_all (is_below high) (edit_keys l)) (taken run i lt)
    ∙ ap (list_all (is_below high)) (keys-append (take i run) (edit_at run i ∷ []))
    ∙ all_on (is_below high) (edit_keys (take i run)) (key_of (edit_at run i)) h g
