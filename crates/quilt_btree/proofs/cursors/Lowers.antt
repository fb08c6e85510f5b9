-- The record of the greatest key below one, in a leaf and in a subtree, and the step of a cursor back over it.
use Rattle.std.proofs.Common.{◌≡◌, ◌≢◌, ℕ, suc, ◌-◌, ◌<◌, ◌≤◌, true, List, [], ◌∷◌, ◌++◌, length, take, drop, Option, Some, None}
use Rattle.std.proofs.lemmas.Bool.{and_from, and_parts}
use Rattle.std.proofs.Common.{refl, sym, ◌∙◌, ap, subst, append_assoc, slice_index, arith}
use Rattle.std.specs.Prelude.{slice_get}
use Rattle.std.specs.List.{list_all, last_or}
use Rattle.std.specs.Ordering.{is_le, is_lt}
use Rattle.quilt_record.specs.declared.key.Key.{Key}
use Rattle.quilt_record.specs.declared.record.Record.{Record}
use Rattle.quilt_record.specs.Records.{key_cmp}
use Rattle.quilt_node.specs.Pages.{Inner, leaf_of, is_ascending}
use Rattle.quilt_node.specs.Nodes.{page_records, keys_of}
use Rattle.quilt_node.proofs.Places.{leaf_records}
use Rattle.quilt_btree.specs.declared.tree.Tree.{Tree}
use Rattle.quilt_btree.specs.declared.cursor.Cursor.{Cursor}
use Rattle.quilt_btree.specs.Cursors.{StandsAt, StandsIn, IsSought, GoesBack, GoesBackTo}
use Rattle.quilt_btree.specs.Lists.{IsLast, IsLower}
use Rattle.quilt_btree.specs.Trees.{SpellsSubtree, IsTree}
use Rattle.quilt_btree.proofs.cursors.Stands.{take_at, drop_at, over_le}
use Rattle.quilt_btree.proofs.ranges.Ranges.{parts_same, no_both}
use Rattle.quilt_btree.proofs.lists.Rising.{all_append, all_map}
use Rattle.quilt_btree.proofs.subtrees.Descending.{AtFloor, leads_below, along_told}
use Rattle.quilt_btree.proofs.subtrees.Trees.{subtree_rises, ascending_first, keys_append}
use Rattle.quilt_btree.proofs.subtrees.Whole.{tree_spells}
use Rattle.quilt_btree.proofs.ways.Leaves.{cut_at, same_le}
use Rattle.quilt_btree.proofs.lists.Separators.{ascending_behind, below_separator}

-- in a leaf, where so many of its keys are below
pub none_lower : (k : Key) (rs : List Record) (n : ℕ) → n ≡ 0 → list_all (λ (r : Record). is_le (key_cmp k r.key)) (drop n rs) ≡ true
    → list_all (λ (r : Record). is_le (key_cmp k r.key)) rs ≡ true
none_lower k rs n e h = subst (λ m. list_all (λ (r : Record). is_le (key_cmp k r.key)) (drop m rs) ≡ true) e h

pub last_lower : (k : Key) (rs : List Record) (n : ℕ) (r : Record) → n ≢ 0 → slice_get rs (n - 1) ≡ Some r
    → list_all (λ (l : Record). is_lt (key_cmp l.key k)) (take n rs) ≡ true → list_all (λ (l : Record). is_le (key_cmp k l.key)) (drop n rs) ≡ true
    → IsLast k rs r
last_lower k rs n r ne is low high =
    let e : n ≡ suc (n - 1) = omega arith in
    record {
      before = take (n - 1) rs;
      behind = drop (suc (n - 1)) rs;
      records = cut_at rs (n - 1) r is;
      lower = subst (λ l. list_all (λ (l : Record). is_lt (key_cmp l.key k)) l ≡ true) (take_at rs (n - 1) r is)
          (subst (λ m. list_all (λ (l : Record). is_lt (key_cmp l.key k)) (take m rs) ≡ true) e low);
      higher = subst (λ m. list_all (λ (l : Record). is_le (key_cmp k l.key)) (drop m rs) ≡ true) e high;
    }

pub own_records : (bytes : List ℕ) (rs : List Record) → leaf_of bytes ≡ Some rs → leaf_of bytes ≡ Some (page_records bytes)
own_records bytes rs is = is ∙ ap Some (sym (leaf_records bytes rs is))

module _ {old new : Option (List (List ℕ))} {page height child i : ℕ} {k : Key} {inner : Inner} where
  -- in a subtree
  pub lower_here : (r : Record) → AtFloor old new page height child i k inner
      → ((rs : List Record) → SpellsSubtree new child (height - 1) rs → IsLast k rs r) → (rs : List Record) → SpellsSubtree old page height rs → IsLast k rs r
  lower_here r a f rs s =
      let at = leads_below old page height inner i k a.some a.above s a.reads a.place in
      let h = f at.here (subst (λ c. SpellsSubtree new c (height - 1) at.here) (sym a.is_child)
      (along_told old new (slice_index inner.children i) (height - 1) at.here a.told at.spells)) in
      record {
        before = at.first ++ h.before;
        behind = h.behind ++ at.last;
        records = at.among.records ∙ ap (λ m. at.first ++ (m ++ at.last)) h.records
            ∙ ap (λ m. at.first ++ m) (append_assoc h.before (r ∷ h.behind) at.last) ∙ sym (append_assoc at.first h.before (r ∷ (h.behind ++ at.last)));
        lower = subst (λ m. list_all (λ (l : Record). is_lt (key_cmp l.key k)) m ≡ true) (sym (append_assoc at.first h.before (r ∷ [])))
            (all_append (λ (l : Record). is_lt (key_cmp l.key k)) at.first (h.before ++ r ∷ []) at.among.lower h.lower);
        higher = all_append (λ (l : Record). is_le (key_cmp k l.key)) h.behind at.last h.higher (over_le k at.last at.among.higher);
      }

  pub lower_none : AtFloor old new page height child i k inner → i ≡ 0
      → ((rs : List Record) → SpellsSubtree new child (height - 1) rs → list_all (λ (r : Record). is_le (key_cmp k r.key)) rs ≡ true) → (rs : List Record)
      → SpellsSubtree old page height rs → list_all (λ (r : Record). is_le (key_cmp k r.key)) rs ≡ true
  lower_none a zero_place f rs s =
      let at = leads_below old page height inner i k a.some a.above s a.reads a.place in
      let h = f at.here (subst (λ c. SpellsSubtree new c (height - 1) at.here) (sym a.is_child)
      (along_told old new (slice_index inner.children i) (height - 1) at.here a.told at.spells)) in
      subst (λ l. list_all (λ (r : Record). is_le (key_cmp k r.key)) l ≡ true)
      (sym (at.among.records ∙ ap (λ l. l ++ (at.here ++ at.last)) (at.none_before zero_place)))
      (all_append (λ (r : Record). is_le (key_cmp k r.key)) at.here at.last h (over_le k at.last at.among.higher))

-- the last record of a list, and those before it
last_cut : (xs : List Record) (r : Record) → last_or None xs ≡ Some r → (init : List Record) × (xs ≡ init ++ r ∷ [])
last_cut [] r h = cc
last_cut (x ∷ []) r h = ([], cc)
last_cut (x ∷ y ∷ xs) r h = let m = last_cut (y ∷ xs) r h in (x ∷ m.0, ap (λ l. x ∷ l) m.1)

pub lower_before : {old new newer : Option (List (List ℕ))} {page height child prior i : ℕ} {k : Key} {inner : Inner} (r : Record)
    → AtFloor old new page height child i k inner → i ≢ 0 → newer ≡ old → prior ≡ slice_index inner.children (i - 1)
    → ((rs : List Record) → SpellsSubtree new child (height - 1) rs → list_all (λ (r : Record). is_le (key_cmp k r.key)) rs ≡ true)
    → ((rs : List Record) → SpellsSubtree newer prior (height - 1) rs → last_or None rs ≡ Some r) → {rs : List Record} → SpellsSubtree old page height rs
    → IsLast k rs r
lower_before {old = old} {new = new} {newer = newer} {page = page} {height = height} {i = i} {k = k} {inner = inner} r a some t is f g {rs = rs} s =
    let at = leads_below old page height inner i k a.some a.above s a.reads a.place in
    let h = f at.here (subst (λ c. SpellsSubtree new c (height - 1) at.here) (sym a.is_child)
    (along_told old new (slice_index inner.children i) (height - 1) at.here a.told at.spells)) in
    let n : i ≡ suc (i - 1) = omega arith in
    let b = at.before (i - 1) n in
    let c = last_cut b.1 r (g b.1 (subst (λ c. SpellsSubtree newer c (height - 1) b.1) (sym is)
    (along_told old newer (slice_index inner.children (i - 1)) (height - 1) b.1 t b.3))) in
    let front : at.first ≡ (b.0 ++ c.0) ++ r ∷ [] = b.2 ∙ ap (λ l. b.0 ++ l) c.1 ∙ sym (append_assoc b.0 c.0 (r ∷ [])) in
    record {
      before = b.0 ++ c.0;
      behind = at.here ++ at.last;
      records = at.among.records ∙ ap (λ l. l ++ (at.here ++ at.last)) front ∙ append_assoc (b.0 ++ c.0) (r ∷ []) (at.here ++ at.last);
      lower = subst (λ l. list_all (λ (l : Record). is_lt (key_cmp l.key k)) l ≡ true) front at.among.lower;
      higher = all_append (λ (r : Record). is_le (key_cmp k r.key)) at.here at.last h (over_le k at.last at.among.higher);
    }

-- the cursor goes back within its leaf
pub goes_back : {told : Option (List (List ℕ))} {t : Tree} (r : Record) {bytes : List ℕ} {place : ℕ} (low : ℕ) {high : Option Key}
    {before after : List Record} → place ≡ suc low → slice_get (page_records bytes) low ≡ Some r → StandsAt told t bytes place high before after
    → GoesBackTo told t r bytes low high before after
goes_back r {bytes = bytes} low e at s =
    let here = page_records bytes in
    record {
      rest = s.first ++ take low here;
      records = s.is_before ∙ ap (λ n. s.first ++ take n here) e ∙ ap (λ l. s.first ++ l) (take_at here low r at)
          ∙ sym (append_assoc s.first (take low here) (r ∷ []));
      stands = record {
        first = s.first;
        last = s.last;
        some = s.some;
        in_range = let h = s.in_range in omega arith;
        is_before = refl;
        is_after = ap (λ l. r ∷ l) (s.is_after ∙ ap (λ n. drop n here ++ s.last) e) ∙ sym (ap (λ l. l ++ s.last) (drop_at here low r at));
        further = s.further;
      };
    }

-- a list that ascends is parted by each of its keys
parted : (xs : List Record) (r : Record) (ys : List Record) → is_ascending (keys_of (xs ++ r ∷ ys)) ≡ true
    → (list_all (λ (l : Record). is_lt (key_cmp l.key r.key)) xs ≡ true) × (list_all (λ (l : Record). is_le (key_cmp r.key l.key)) (r ∷ ys) ≡ true)
parted xs r ys a =
    let cut = subst (λ l. is_ascending l ≡ true) (keys_append xs (r ∷ ys)) a in
    let behind = ascending_first r.key (keys_of ys) (ascending_behind (keys_of xs) (keys_of (r ∷ ys)) cut) in (
      all_map (λ (l : Record). l.key) (λ l. is_lt (key_cmp l r.key)) xs (below_separator r.key (keys_of xs) (keys_of ys) cut),
      and_from (is_le (key_cmp r.key r.key)) (list_all (λ (l : Record). is_le (key_cmp r.key l.key)) ys) (same_le r.key)
          (over_le r.key ys (all_map (λ (l : Record). l.key) (λ l. is_lt (key_cmp r.key l)) ys behind)),
    )

tree_ascends : (told : Option (List (List ℕ))) (t : Tree) (rs : List Record) → t.height ≢ 0 → IsTree told t rs → is_ascending (keys_of rs) ≡ true
tree_ascends told t rs ne is =
    let s = (tree_spells told t rs ne is).0 in
    (subtree_rises s.pages t.height s.is_root (t.root, s.bounds) rs s.used s.subtree).ascends

module _ (told : Option (List (List ℕ))) (t : Tree) (c : Cursor) (first : Record) (before after : List Record) where
  -- what stands around the first record of a leaf
  first_parts : t.height ≢ 0 → c.place ≡ 0 → (0 < length (page_records c.bytes) → slice_get (page_records c.bytes) 0 ≡ Some first)
      → IsTree told t (before ++ after) → StandsIn told t c before after
      → (list_all (λ (l : Record). is_lt (key_cmp l.key first.key)) before ≡ true) × (list_all (λ (l : Record). is_le (key_cmp first.key l.key)) after ≡ true)
  first_parts ne e at is s =
      let here = page_records c.bytes in
      let some = s.some in
      let front = drop_at here 0 first (at (omega arith)) in
      let behind : after ≡ first ∷ (drop 1 here ++ s.last) = s.is_after ∙ ap (λ n. drop n here ++ s.last) e ∙ ap (λ l. l ++ s.last) front in
      let p = parted before first (drop 1 here ++ s.last)
      (subst (λ l. is_ascending (keys_of (before ++ l)) ≡ true) behind (tree_ascends told t (before ++ after) ne is)) in
      (p.0, subst (λ l. list_all (λ (l : Record). is_le (key_cmp first.key l.key)) l ≡ true) (sym behind) p.1)

  -- no record stands before the first leaf
  pub none_back : 1 ≤ t.height → c.place ≡ 0 → (0 < length (page_records c.bytes) → slice_get (page_records c.bytes) 0 ≡ Some first)
      → ((rs : List Record) → SpellsSubtree told t.root t.height rs → IsLower first.key rs None) → IsTree told t (before ++ after)
      → StandsIn told t c before after → before ≡ []
  none_back some e at lower is s =
      let ne : t.height ≢ 0 = omega arith in
      let p = first_parts ne e at is s in
      empty before p.0 (lower (before ++ after) (tree_spells told t (before ++ after) ne is).0)
    where
      empty : (xs : List Record) → list_all (λ (l : Record). is_lt (key_cmp l.key first.key)) xs ≡ true
          → list_all (λ (l : Record). is_le (key_cmp first.key l.key)) (xs ++ after) ≡ true → xs ≡ []
      empty [] h g = refl
      empty (x ∷ xs) h g =
          absurd (no_both x.key first.key (and_parts (is_lt (key_cmp x.key first.key)) (list_all (λ (l : Record). is_lt (key_cmp l.key first.key)) xs) h).0
          (and_parts (is_le (key_cmp first.key x.key)) (list_all (λ (l : Record). is_le (key_cmp first.key l.key)) (xs ++ after)) g).0)

  -- the cursor goes back into another leaf
  pub back_over : (d : Cursor) {r : Record} → 1 ≤ t.height → c.place ≡ 0 → (0 < length (page_records c.bytes) → slice_get (page_records c.bytes) 0 ≡ Some first)
      → ((rs : List Record) → SpellsSubtree told t.root t.height rs → IsLast first.key rs r)
      → ((rs : List Record) → IsTree told t rs → IsSought told t d r.key rs)
      → IsTree told t (before ++ after) → StandsIn told t c before after → GoesBack told t r d before after
  back_over d {r} some e at lower sought is s =
      let ne : t.height ≢ 0 = omega arith in
      let p = first_parts ne e at is s in
      let l = lower (before ++ after) (tree_spells told t (before ++ after) ne is).0 in
      let records : before ++ after ≡ (l.before ++ r ∷ []) ++ l.behind = l.records ∙ sym (append_assoc l.before (r ∷ []) l.behind) in
      let same = parts_same first.key before after (l.before ++ r ∷ []) l.behind records p (l.lower, l.higher) in
      let q = parted l.before r l.behind (subst (λ m. is_ascending (keys_of m) ≡ true) l.records (tree_ascends told t (before ++ after) ne is)) in
      let found = sought (before ++ after) is in
      let there = parts_same r.key found.before found.after l.before (r ∷ l.behind) (sym found.records ∙ l.records) (found.lower, found.higher) q in
      record {
        rest = l.before;
        records = same.0;
        stands = subst (λ m. StandsIn told t d l.before (r ∷ m)) (sym same.1)
            (subst (λ m. StandsIn told t d l.before m) there.1 (subst (λ m. StandsIn told t d m found.after) there.0 found.stands));
      }
