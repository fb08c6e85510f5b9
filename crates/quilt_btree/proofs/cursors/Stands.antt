-- Where a cursor stands.
use Rattle.std.proofs.Common.{◌≡◌, ◌≢◌, ℕ, zero, suc, ◌+◌, ◌<◌, ◌≤◌, true, List, [], ◌∷◌, ◌++◌, length, take, drop, Option, Some, None}
use Rattle.std.proofs.lemmas.Bool.{and_from}
use Rattle.std.proofs.Common.{refl, sym, ◌∙◌, ap, subst, arith, add-one, take-append-drop}
use Rattle.std.specs.Prelude.{slice_get, slice_index_or, IfSome, MatchOption}
use Rattle.std.specs.List.{list_all}
use Rattle.std.specs.Ordering.{is_le, is_lt}
use Rattle.std.proofs.lemmas.List.{take_all, append-nil}
use Rattle.quilt_record.specs.declared.key.Key.{Key}
use Rattle.quilt_record.specs.declared.record.Record.{Record}
use Rattle.quilt_record.specs.Records.{key_cmp}
use Rattle.quilt_record.proofs.Orders.{lt_le, lt_to_le}
use Rattle.quilt_node.specs.Pages.{leaf_of}
use Rattle.quilt_node.specs.Nodes.{IsFound, page_records}
use Rattle.quilt_btree.specs.declared.tree.Tree.{Tree}
use Rattle.quilt_btree.specs.declared.cursor.Cursor.{Cursor}
use Rattle.quilt_btree.specs.Cursors.{IsParted, StandsAt, StandsIn, IsSoughtAt, GoesOverTo}
use Rattle.quilt_btree.specs.Arrivals.{Arrives}
use Rattle.quilt_btree.specs.Trees.{IsTree, LeadsToLeaf, IsCut, is_past}
use Rattle.quilt_btree.specs.Searches.{AreOf}
use Rattle.quilt_btree.proofs.lists.Rising.{all_follow, all_append}
use Rattle.quilt_btree.proofs.ranges.Ranges.{parts_same}
use Rattle.quilt_btree.proofs.ranges.Rests.{next_divides}
use Rattle.quilt_btree.proofs.subtrees.Whole.{tree_spells}
use Rattle.quilt_btree.proofs.ways.Forks.{are_of}
use Rattle.quilt_btree.proofs.ways.Leaves.{same_le}

pub drop_at : (rs : List Record) (i : ℕ) (r : Record) → slice_get rs i ≡ Some r → drop i rs ≡ r ∷ drop (suc i) rs
drop_at [] i r h = cc
drop_at (s ∷ rs) zero r h = let same : s ≡ r = cc in ap (λ x. x ∷ rs) same
drop_at (s ∷ rs) (suc i) r h = drop_at rs i r h

pub take_at : (rs : List Record) (i : ℕ) (r : Record) → slice_get rs i ≡ Some r → take (suc i) rs ≡ take i rs ++ r ∷ []
take_at [] i r h = cc
take_at (s ∷ rs) zero r h = let same : s ≡ r = cc in ap (λ x. x ∷ []) same
take_at (s ∷ rs) (suc i) r h = ap (λ l. s ∷ l) (take_at rs i r h)

drop_past : (rs : List Record) (i : ℕ) → length rs ≤ i → drop i rs ≡ []
drop_past [] zero h = refl
drop_past [] (suc i) h = refl
drop_past (r ∷ rs) zero h = absurd (omega arith)
drop_past (r ∷ rs) (suc i) h = drop_past rs i (fewer (length rs) i h)
  where
    fewer : (n i : ℕ) → suc n ≤ suc i → n ≤ i
    fewer n i h = omega arith

pub over_le : (k : Key) (xs : List Record) → list_all (λ r. is_lt (key_cmp k r.key)) xs ≡ true → list_all (λ r. is_le (key_cmp k r.key)) xs ≡ true
over_le k xs h = all_follow (λ (r : Record). is_lt (key_cmp k r.key)) (λ r. is_le (key_cmp k r.key)) (λ r g. lt_to_le (key_cmp k r.key) g) xs h

-- from a record that is found
pub found_from : (k : Key) (rs : List Record) (i : ℕ) → IsFound k rs i → list_all (λ r. is_le (key_cmp k r.key)) (drop i rs) ≡ true
found_from k rs i f =
    ap (list_all (λ (r : Record). is_le (key_cmp k r.key))) (drop_at rs i f.found f.here)
    ∙ and_from (is_le (key_cmp k f.found.key)) (list_all (λ (r : Record). is_le (key_cmp k r.key)) (drop (suc i) rs))
    (subst (λ m. is_le (key_cmp k m) ≡ true) (sym f.key) (same_le k)) (over_le k (drop (suc i) rs) f.behind)

assoc : (xs ys zs : List Record) → (xs ++ ys) ++ zs ≡ xs ++ (ys ++ zs)
assoc [] ys zs = refl
assoc (x ∷ xs) ys zs = ap (λ l. x ∷ l) (assoc xs ys zs)

-- the bytes of a page behind calls that only read are those that it had before
pub are_before : (old new : Option (List (List ℕ))) (page : ℕ) (bytes : List ℕ) → new ≡ old
    → IfSome new (λ pages. bytes ≡ slice_index_or pages page [])
    → AreOf old page bytes
are_before old new page bytes same shown = subst (λ o. AreOf o page bytes) same (are_of new page bytes shown)

module _ (told : Option (List (List ℕ))) (t : Tree) (k : Key) (rs : List Record) where
  -- what stands behind the leaf that a key leads to
  further_at : (here : List Record) (high : Option Key) (l : LeadsToLeaf k rs here None high) → IsCut told t.root t.height k None here high
      → IsTree told t rs → t.height ≢ 0 → MatchOption high (l.behind ≡ []) (λ h. IsParted told t h (l.before ++ here) l.behind)
  further_at here None l cut is ne = none l.behind l.bounded
    where
      none : (xs : List Record) → list_all (λ r. is_past None r.key) xs ≡ true → xs ≡ []
      none [] h = refl
      none (x ∷ xs) h = cc
  further_at here (Some h) l cut is ne =
      let s = tree_spells told t rs ne is in
      record {
        pages = is.pages;
        is_told = is.is_told;
        divides = next_divides is.pages t.height t.root (Some h) h refl (cut.ends is.pages rs s.0 is.is_told s.1 refl);
        lower = all_append (λ (r : Record). is_lt (key_cmp r.key h)) l.before here
            (all_follow (λ (r : Record). is_lt (key_cmp r.key k)) (λ r. is_lt (key_cmp r.key h))
            (λ r g. lt_le r.key k h g (lt_to_le (key_cmp k h) (l.key_under refl))) l.before l.lower) l.here_under;
        higher = l.bounded;
      }

  pub sought : {bytes : List ℕ} (place : ℕ) {high : Option Key} → Arrives told t.root t.height k None bytes high → 1 ≤ t.height → IsTree told t rs
      → place ≤ length (page_records bytes)
      → (leaf_of bytes ≡ Some (page_records bytes) → list_all (λ r. is_lt (key_cmp r.key k)) (take place (page_records bytes)) ≡ true)
      → (leaf_of bytes ≡ Some (page_records bytes) → list_all (λ r. is_le (key_cmp k r.key)) (drop place (page_records bytes)) ≡ true)
      → IsSoughtAt told t bytes place high k rs
  sought {bytes} place {high} a some is inside low up =
      let ne : t.height ≢ 0 = omega arith in
      let s = tree_spells told t rs ne is in
      let leaf = a.leaf rs s.0 in
      let l = a.leads rs s.0 s.1 in
      let here = page_records bytes in
      record {
        before = l.before ++ take place here;
        after = drop place here ++ l.behind;
        records = l.records ∙ ap (λ h. l.before ++ (h ++ l.behind)) (sym (take-append-drop place here))
            ∙ ap (λ h. l.before ++ h) (assoc (take place here) (drop place here) l.behind)
            ∙ sym (assoc l.before (take place here) (drop place here ++ l.behind));
        lower = all_append (λ (r : Record). is_lt (key_cmp r.key k)) l.before (take place here) l.lower (low leaf);
        higher = all_append (λ (r : Record). is_le (key_cmp k r.key)) (drop place here) l.behind (up leaf) (over_le k l.behind l.higher);
        stands = record {
          first = l.before;
          last = l.behind;
          some = a.least rs s.0;
          in_range = inside;
          is_before = refl;
          is_after = refl;
          further = further_at here high l a.cut is ne;
        };
      }

module _ (told : Option (List (List ℕ))) (t : Tree) where
  pub entered : (k : Key) (before after : List Record) {bytes : List ℕ} {high : Option Key} → Arrives told t.root t.height k None bytes high
      → 1 ≤ t.height → IsTree told t (before ++ after) → IsParted told t k before after → StandsAt told t bytes 0 high before after
  entered k before after {bytes} {high} a some is p =
      let ne : t.height ≢ 0 = omega arith in
      let s = tree_spells told t (before ++ after) ne is in
      let l = a.leads (before ++ after) s.0 s.1 in
      let here = page_records bytes in
      let from = a.cut.starts p.pages (before ++ after) p.is_told s.0 s.1 p.divides in
      let same = parts_same k before after l.before (here ++ l.behind) l.records (p.lower, p.higher)
      (l.lower, all_append (λ (r : Record). is_le (key_cmp k r.key)) here l.behind from (over_le k l.behind l.higher)) in
      record {
        first = l.before;
        last = l.behind;
        some = a.least (before ++ after) s.0;
        in_range = omega arith;
        is_before = same.0 ∙ sym (append-nil l.before);
        is_after = same.1;
        further = further_at told t k (before ++ after) here high l a.cut is ne;
      }

  pub goes_over : (r : Record) (bytes : List ℕ) (place : ℕ) {high : Option Key} {before after : List Record} → place < length (page_records bytes)
      → slice_get (page_records bytes) place ≡ Some r → StandsAt told t bytes place high before after
      → GoesOverTo told t r bytes (place + 1) high before after
  goes_over r bytes place lt at s =
      let here = page_records bytes in
      record {
        rest = drop (suc place) here ++ s.last;
        records = s.is_after ∙ ap (λ l. l ++ s.last) (drop_at here place r at);
        stands = record {
          first = s.first;
          last = s.last;
          some = s.some;
          in_range = omega arith;
          is_before = ap (λ b. b ++ r ∷ []) s.is_before ∙ assoc s.first (take place here) (r ∷ [])
              ∙ ap (λ l. s.first ++ l) (sym (ap (λ n. take n here) (add-one place) ∙ take_at here place r at));
          is_after = ap (λ n. drop n here ++ s.last) (sym (add-one place));
          further = s.further;
        };
      }

  pub stands_further : (c : Cursor) (k : Key) (before after : List Record) → length (page_records c.bytes) ≤ c.place → c.high ≡ Some k
      → StandsIn told t c before after → IsParted told t k before after
  stands_further c k before after le is s =
      let p : IsParted told t k (s.first ++ page_records c.bytes) s.last =
      subst (λ o. MatchOption o (s.last ≡ []) (λ k. IsParted told t k (s.first ++ page_records c.bytes) s.last)) is s.further in
      subst (λ l. IsParted told t k l after) (sym (s.is_before ∙ ap (λ l. s.first ++ l) (take_all c.place (page_records c.bytes) le)))
      (subst (λ l. IsParted told t k (s.first ++ page_records c.bytes) l) (sym (s.is_after ∙ ap (λ l. l ++ s.last) (drop_past (page_records c.bytes) c.place le))) p)
