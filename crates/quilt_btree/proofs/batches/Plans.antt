-- How many records a leaf has behind each edit of a run.
use Rattle.std.proofs.Common.{◌≡◌, ℕ, zero, suc, ◌+◌, ◌-◌, ◌<◌, ◌≤◌, true, List, [], ◌∷◌, ◌++◌, length, take, set}
use Rattle.std.proofs.lemmas.Bool.{and_parts}
use Rattle.std.proofs.Common.{Option, Some, refl, sym, ◌∙◌, ap, subst, arith}
use Rattle.std.specs.List.{list_all, insert, remove}
use Rattle.quilt_record.specs.declared.key.Key.{Key}
use Rattle.quilt_record.specs.declared.record.Record.{Record}
use Rattle.quilt_record.specs.Lists.{put, without}
use Rattle.quilt_node.specs.Nodes.{IsFound, keys_of}
use Rattle.quilt_node.specs.Pages.{is_ascending, leaf_of}
use Rattle.quilt_node.specs.Tree.{is_below}
use Rattle.quilt_btree.specs.declared.edit.Edit.{Edit}
use Rattle.quilt_btree.specs.Batches.{key_of, edit_keys, is_due, edited, edit_all, are_due, more_of, fewer_of, size_behind, size_after, HasRoom, HasRoomFor, EditsLeaf}
use Rattle.quilt_btree.proofs.batches.Leaves.{edit_at, taken, seen_next, IsEdited, edited_next, put_over_many}
use Rattle.quilt_btree.proofs.batches.Whole.{asc_edited, length_edited}
use Rattle.quilt_btree.proofs.subtrees.Trees.{leaf_list}

-- one edit more
pub size_on : (xs : List Edit) (e : Edit) (n : ℕ) → size_after (xs ++ e ∷ []) n ≡ size_behind e (size_after xs n)
size_on [] e n = refl
size_on (x ∷ xs) e n = size_on xs e (size_behind x n)

room_on : (xs : List Edit) (e : Edit) (n : ℕ) → HasRoomFor xs n → HasRoom e (size_after xs n) → HasRoomFor (xs ++ e ∷ []) n
room_on [] e n h r = (r, tt)
room_on (x ∷ xs) e n h r = (h.0, room_on xs e (size_behind x n) h.1 r)

nearest : (i n : ℕ) → suc i < suc n → i < n
nearest i n h = omega arith

pub room_at : (xs : List Edit) (i n : ℕ) → i < length xs → HasRoomFor xs n → HasRoom (edit_at xs i) (size_after (take i xs) n)
room_at [] i n lt h = absurd (omega arith)
room_at (x ∷ xs) zero n lt h = h.0
room_at (x ∷ xs) (suc i) n lt h = room_at xs i (size_behind x n) (nearest i (length xs) lt) h.1

-- the records of a leaf are so many behind a run
pub size_all : (xs : List Edit) (rs : List Record) → is_ascending (keys_of rs) ≡ true → are_due xs rs ≡ true
    → length (edit_all xs rs) ≡ size_after xs (length rs)
size_all [] rs a d = refl
size_all (x ∷ xs) rs a d =
    let t = and_parts (is_due x rs) (are_due xs (edited x rs)) d in
    size_all xs (edited x rs) (asc_edited x rs a t.0) t.1
    ∙ ap (size_after xs) (one (length (edited x rs)) (length rs) (more_of x) (fewer_of x) (length_edited x rs a t.0))
  where
    one : (a l m f : ℕ) → a + f ≡ l + m → a ≡ l + m - f
    one a l m f h = omega arith

-- how many edits of a run can be made in a leaf
pub record IsPlanned (high : Option Key) (run : List Edit) (n least i best count : ℕ) : Type 0 where
  pub nearer : best ≤ i
  pub most : count ≤ 144
  pub seen : list_all (is_below high) (edit_keys (take i run)) ≡ true
  pub under : list_all (is_below high) (edit_keys (take best run)) ≡ true
  pub count_is : count ≡ size_after (take i run) n
  pub so_far : HasRoomFor (take i run) n
  pub room : HasRoomFor (take best run) n
  pub enough : 1 ≤ best → least ≤ size_after (take best run) n

pub planned_none : (high : Option Key) (run : List Edit) (n least : ℕ) → n ≤ 144 → IsPlanned high run n least 0 0 n
planned_none high run n least h = record {
  nearer = omega arith;
  most = h;
  seen = refl;
  under = refl;
  count_is = refl;
  so_far = tt;
  room = tt;
  enough = λ one. absurd (omega arith);
}

-- the count behind one edit more
record IsNext (run : List Edit) (n i m : ℕ) : Type 0 where
  pub count_is : m ≡ size_after (take (i + 1) run) n
  pub room : HasRoomFor (take (i + 1) run) n

count_next : (run : List Edit) (n i : ℕ) {count m : ℕ} → i < length run → count ≡ size_after (take i run) n → HasRoomFor (take i run) n
    → HasRoom (edit_at run i) count → m ≡ size_behind (edit_at run i) count → IsNext run n i m
count_next run n i lt c h r e =
    let t = sym (taken run i lt) in
    record {
      count_is = e ∙ ap (size_behind (edit_at run i)) c ∙ sym (size_on (take i run) (edit_at run i) n) ∙ ap (λ l. size_after l n) t;
      room = subst (λ l. HasRoomFor l n) t (room_on (take i run) (edit_at run i) n h (subst (HasRoom (edit_at run i)) c r));
    }

module _ (high : Option Key) (run : List Edit) (n least i best count m : ℕ) (lt : i < length run) (p : IsPlanned high run n least i best count)
    (below : is_below high (key_of (edit_at run i)) ≡ true) (r : HasRoom (edit_at run i) count) (e : m ≡ size_behind (edit_at run i) count)
    (h : m ≤ 144) where
  pub planned_best : least ≤ m → IsPlanned high run n least (i + 1) (i + 1) m
  planned_best le =
      let s = seen_next high run i lt p.seen below in
      let x = count_next run n i lt p.count_is p.so_far r e in
      record {
        nearer = omega arith;
        most = h;
        seen = s;
        under = s;
        count_is = x.count_is;
        so_far = x.room;
        room = x.room;
        enough = λ one. subst (λ k. least ≤ k) x.count_is le;
      }

  pub planned_same : IsPlanned high run n least (i + 1) best m
  planned_same =
      let x = count_next run n i lt p.count_is p.so_far r e in
      record {
        nearer = let k = p.nearer in omega (arith, k);
        most = h;
        seen = seen_next high run i lt p.seen below;
        under = p.under;
        count_is = x.count_is;
        so_far = x.room;
        room = p.room;
        enough = p.enough;
      }

-- a record takes the place of one with its key
set_insert : (rs : List Record) (i : ℕ) (r : Record) → i < length rs → set rs i r ≡ insert (remove rs i) i r
set_insert [] i r lt = absurd (omega arith)
set_insert (x ∷ rs) zero r lt = refl
set_insert (x ∷ rs) (suc i) r lt = ap (λ l. x ∷ l) (set_insert rs i r (nearest i (length rs) lt))

pub set_over : (r : Record) (rs : List Record) (i : ℕ) → IsFound r.key rs i → set rs i r ≡ put r (without r.key rs)
set_over r rs i f = set_insert rs i r f.in_range ∙ put_over_many r rs (remove rs i) i f refl

-- how far a run is in the bytes of a leaf
pub record IsMade (bytes : List ℕ) (leaf : List Record) (run : List Edit) (i : ℕ) : Type 0 where
  pub now : List Record
  pub is_leaf : leaf_of bytes ≡ Some now
  pub edited : IsEdited leaf now (take i run)
  pub many : length now ≡ size_after (take i run) (length leaf)

pub made_none : (bytes : List ℕ) (leaf : List Record) (run : List Edit) → leaf_of bytes ≡ Some leaf → IsMade bytes leaf run 0
made_none bytes leaf run is = record { now = leaf; is_leaf = is; edited = record { is = refl; due = refl }; many = refl }

-- there is room for the next edit
pub room_next : (bytes : List ℕ) (leaf : List Record) (run : List Edit) (i : ℕ) → i < length run → HasRoomFor run (length leaf)
    → (m : IsMade bytes leaf run i) → HasRoom (edit_at run i) (length m.now)
room_next bytes leaf run i lt h m = subst (HasRoom (edit_at run i)) (sym m.many) (room_at run i (length leaf) lt h)

module _ (bytes new : List ℕ) (run : List Edit) where
  pub made_next : (first : List ℕ) (leaf : List Record) (i : ℕ) → leaf_of first ≡ Some leaf → i < length run → (m : IsMade bytes leaf run i)
      → is_due (edit_at run i) m.now ≡ true → leaf_of new ≡ Some (edited (edit_at run i) m.now) → IsMade new leaf run (i + 1)
  made_next first leaf i was lt m due is =
      let e = edited_next leaf m.now (edited (edit_at run i) m.now) run i lt m.edited due refl in
      record {
        now = edited (edit_at run i) m.now;
        is_leaf = is;
        edited = e;
        many = ap length e.is ∙ size_all (take (i + 1) run) leaf (leaf_list first leaf was).ascends e.due;
      }

  -- what the planned edits make of a leaf
  pub leaf_planned : (rs : List Record) (n many least : ℕ) → leaf_of bytes ≡ Some rs → many ≡ length rs
      → (1 ≤ n → least ≤ size_after (take n run) many) → (leaf_of new ≡ Some (edit_all (take n run) rs)) × (are_due (take n run) rs ≡ true)
      → EditsLeaf least run n rs new
  leaf_planned rs n many least was is enough made = record {
    is = made.0;
    due = made.1;
    enough = λ one. subst (λ k. least ≤ k) (ap (size_after (take n run)) is ∙ sym (size_all (take n run) rs (leaf_list bytes rs was).ascends made.1))
        (enough one);
  }
