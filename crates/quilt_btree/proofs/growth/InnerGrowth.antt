-- An inner page that was to be written is written, whole or in two.
use Rattle.std.proofs.Common.{◌≡◌, ℕ, suc, ◌+◌, ◌-◌, ◌≤◌, Bool, true, false, nat_le, List, [], ◌∷◌, ◌++◌, length, take, drop, Option, Some, slice_index_or}
use Rattle.std.proofs.Common.{slice_set, refl, sym, ◌∙◌, ap, subst, arith, take-append-drop, length-take-le, length-drop}
use Rattle.std.specs.Prelude.{slice_get, nat_lt, ◌&&◌}
use Rattle.quilt_record.specs.declared.key.Key.{Key}
use Rattle.quilt_record.specs.declared.record.Record.{Record}
use Rattle.quilt_node.specs.Pages.{Inner, inner_of, is_ascending}
use Rattle.quilt_node.specs.Nodes.{are_pages}
use Rattle.quilt_node.specs.Edits.{first_children, children_from}
use Rattle.quilt_node.specs.Tree.{Bounds, bounded, are_within}
use Rattle.quilt_node.proofs.Ascending.{all_take, all_drop}
use Rattle.quilt_btree.specs.Subtree.{Row, Subtree}
use Rattle.quilt_btree.specs.Edits.{multiplicity, Becomes, Separated}
use Rattle.quilt_btree.specs.Inserts.{IsPending, DidPut}
use Rattle.quilt_btree.specs.declared.outcomes.Inserted.TheVariants as inserted
use Rattle.quilt_btree.proofs.lists.Counts.{times-append}
use Rattle.quilt_btree.proofs.stores.Moves.{moves_order, used_not_free}
use Rattle.quilt_btree.proofs.lists.Rows.{row_parts}
use Rattle.quilt_btree.proofs.ways.Leaves.{cut_at}
use Rattle.quilt_btree.proofs.rows.Splices.{bounded_join, rows_stay, page_in, apart_above, parent_written}
use Rattle.quilt_btree.proofs.lists.Separators.{separated_at}
use Rattle.quilt_btree.proofs.growth.LeafGrowth.{at_least}
use Rattle.quilt_btree.proofs.stores.Writes.{WritesPage, WritesBoth, tells_at, all_told, both_written, both_same}

-- the bytes are this inner page in every file that has its children
abbrev pub IsWritten : List ℕ → Inner → Type 0
IsWritten bytes inner = (pages : ℕ) → are_pages pages inner.children ≡ true → inner_of pages bytes ≡ Some inner

pub pending_taken : {told : Option (List (List ℕ))} {free : ℕ → Bool} {page : ℕ} {is_root : Bool} {b : Bounds} {inner : Inner} {all : List Record}
    {under : List ℕ} → IsPending told free page is_root b inner all under → free page ≡ false
pending_taken {free = free} {page = page} {under = under} p = used_not_free free (under ++ page ∷ []) page p.apart (page_in page under)

pub put_done : {told now_told : Option (List (List ℕ))} {free now : ℕ → Bool} {size page height : ℕ} {inner : Inner} {bytes : List ℕ} {is_root : Bool}
    {b : Bounds} {all : List Record} {under : List ℕ} → WritesPage told now_told size page bytes → IsWritten bytes inner → inner.height ≡ height
    → now ≡ free → IsPending told free page is_root b inner all under → DidPut told now_told free now page height is_root b (under ++ page ∷ []) all inserted.Done
put_done {told} {now_told} {free} {now} {size} {page} {height} {inner} {bytes} {is_root} {b} {all} {under} w is tall same p =
    let written = tells_at (λ old new. new ≡ slice_set old page bytes) told now_told p.pages w.wrote p.is_told in
    let news = slice_set p.pages page bytes in
    let becomes : Becomes p.pages news free free page (suc (suc p.below)) is_root b (under ++ page ∷ []) all =
    parent_written under (all_told told size page p.pages w.many p.is_told w.inside)
    (record { is = is (length p.pages) p.in_range; is_height = p.is_height; enough = p.enough; within = p.within }) p.apart p.children in
    record {
      pages = p.pages;
      news = news;
      was = p.is_told;
      is = written.1 ∙ ap Some written.2;
      done = subst (λ h. Becomes p.pages news free now page h is_root b (under ++ page ∷ []) all) (sym p.is_height ∙ tall)
          (subst (λ f. Becomes p.pages news free f page (suc (suc p.below)) is_root b (under ++ page ∷ []) all) (sym same) becomes);
    }

-- the two pages that a full one becomes
pub record AreParts (inner : Inner) (left right : List ℕ) (key : Key) : Type 0 where
  pub full : length inner.children ≡ 255
  pub is_left : IsWritten left (first_children 127 inner)
  pub is_right : IsWritten right (children_from 127 inner)
  pub parts : slice_get inner.keys 126 ≡ Some key

counted : (p new page : ℕ) (under rest first : List ℕ) → under ≡ rest ++ first
    → multiplicity p ((rest ++ new ∷ []) ++ (first ++ page ∷ [])) ≡ multiplicity p (new ∷ (under ++ page ∷ []))
counted p new page under rest first e =
    order (multiplicity p rest) (multiplicity p (new ∷ [])) (multiplicity p first) (multiplicity p (page ∷ []))
    (parts (multiplicity p rest) (multiplicity p (new ∷ [])) (multiplicity p first) (multiplicity p (page ∷ []))
    (times-append p (rest ++ new ∷ []) (first ++ page ∷ [])) (times-append p rest (new ∷ [])) (times-append p first (page ∷ [])))
    (times-append p (new ∷ []) (under ++ page ∷ [])) (times-append p under (page ∷ [])) (ap (multiplicity p) e ∙ times-append p rest first)
  where
    parts : {t a b : ℕ} (r n f g : ℕ) → t ≡ a + b → a ≡ r + n → b ≡ f + g → t ≡ (r + n) + (f + g)
    parts r n f g e1 e2 e3 = omega arith

    order : {t s u v : ℕ} (r n f g : ℕ) → t ≡ (r + n) + (f + g) → s ≡ n + u → u ≡ v + g → v ≡ r + f → t ≡ s
    order r n f g e1 e2 e3 e4 = omega arith

none_each : (p : ℕ) (under rest first : List ℕ) → under ≡ rest ++ first → multiplicity p under ≡ 0 → (multiplicity p rest ≡ 0) × (multiplicity p first ≡ 0)
none_each p under rest first e h =
    let n = ap (multiplicity p) e ∙ times-append p rest first in
    (left (multiplicity p under) (multiplicity p rest) (multiplicity p first) n h, right (multiplicity p under) (multiplicity p rest) (multiplicity p first) n h)
  where
    left : (u r f : ℕ) → u ≡ r + f → u ≡ 0 → r ≡ 0
    left u r f e h = omega arith

    right : (u r f : ℕ) → u ≡ r + f → u ≡ 0 → f ≡ 0
    right u r f e h = omega arith

pub put_split : {told now_told : Option (List (List ℕ))} {free now : ℕ → Bool} {size page new height : ℕ} {inner : Inner} {left right : List ℕ} {key : Key}
    {is_root : Bool} {b : Bounds} {all : List Record} {under : List ℕ} → WritesBoth told now_told free now size page new left right
    → AreParts inner left right key → inner.height ≡ height → IsPending told free page is_root b inner all under
    → DidPut told now_told free now page height is_root b (under ++ page ∷ []) all (inserted.Split key new)
put_split {told} {now_told} {free} {now} {size} {page} {new} {inner} {left} {right} {key} {b} {all} {under} w h tall p =
    let pages = p.pages in
    let S = Subtree pages (suc p.below) false in
    let news = slice_set (slice_set pages page left) new right in
    let written = tells_at (λ old now. now ≡ slice_set (slice_set old page left) new right) told now_told pages w.wrote p.is_told in
    let both = both_written pages free now (under ++ page ∷ []) page new left right p.apart (page_in page under)
    (all_told told size page pages w.many p.is_told w.inside) (all_told told size new pages w.many p.is_told w.inside_new) w.was_free w.taken in
    let cs = inner.children in
    let ks = inner.keys in
    let key_cut : ks ≡ take 126 ks ++ key ∷ drop 127 ks = cut_at ks 126 key h.parts in
    let sides = separated_at b (take 126 ks) key (drop 127 ks) (subst (λ l. is_ascending l ≡ true) key_cut p.ascends)
    (subst (λ l. are_within b l ≡ true) key_cut p.within) in
    let long : length ks ≡ 254 = fewer (length cs) (length ks) h.full p.many in
    let left_long : length (take 127 cs) ≡ 127 = length-take-le 127 cs (at_most (length cs) h.full) in
    let keys_long : length (take 126 ks) ≡ 126 = length-take-le 126 ks (at_most_keys (length ks) long) in
    let right_long : 127 ≤ length (drop 127 cs) = enough (length cs) (length (drop 127 cs)) h.full (length-drop 127 cs) in
    let cut : bounded cs ks b ≡ bounded (take 127 cs) (take 126 ks) (record { low = b.low; high = Some key })
    ++ bounded (drop 127 cs) (drop 127 ks) (record { low = Some key; high = b.high }) =
    ap (λ l. bounded l ks b) (sym (take-append-drop 127 cs)) ∙ ap (λ l. bounded (take 127 cs ++ drop 127 cs) l b) key_cut
    ∙ bounded_join (take 127 cs) (drop 127 cs) (take 126 ks) (drop 127 ks) key b (one_more (length (take 127 cs)) (length (take 126 ks)) left_long keys_long) in
    let row = row_parts S (bounded (take 127 cs) (take 126 ks) (record { low = b.low; high = Some key }))
    (bounded (drop 127 cs) (drop 127 ks) (record { low = Some key; high = b.high })) all under
    (subst (λ l. Row S l all under) cut p.children) in
    let size_same : length news ≡ length pages = both.moves.size in
    let page_none = none_each page under row.rest_used row.first_used row.is_used (apart_above free under page p.apart) in
    let new_none = none_each new under row.rest_used row.first_used row.is_used
    (none_below (multiplicity new (under ++ page ∷ [])) (multiplicity new under) (multiplicity new (page ∷ [])) (times-append new under (page ∷ [])) both.unused) in
    let separated : Separated pages news free now page (suc (suc p.below)) b (under ++ page ∷ []) all key new = record {
      first = row.first;
      rest = row.rest;
      first_uses = row.first_used ++ page ∷ [];
      rest_uses = row.rest_used ++ new ∷ [];
      is_left = record {
        inner = first_children 127 inner;
        page = ap (λ n. inner_of n (slice_index_or news page [])) size_same ∙ ap (inner_of (length pages)) both.is_left
            ∙ h.is_left (length pages) (all_take (λ c. nat_le 1 c && nat_lt c (length pages)) cs 127 p.in_range);
        is_height = p.is_height;
        enough = at_least 127 (length (take 127 cs)) (same_least (length (take 127 cs)) left_long);
        within = sides.lower;
        under = row.first_used;
        children =
            rows_stay pages news p.below size_same (bounded (take 127 cs) (take 126 ks) (record { low = b.low; high = Some key })) row.first
            row.first_used
            (both_same pages free now (under ++ page ∷ []) page new left right news row.first_used both page_none.1 new_none.1) row.here;
        is_used = refl;
      };
      is_right = record {
        inner = children_from 127 inner;
        page = ap (λ n. inner_of n (slice_index_or news new [])) size_same ∙ ap (inner_of (length pages)) both.is_right
            ∙ h.is_right (length pages) (all_drop (λ c. nat_le 1 c && nat_lt c (length pages)) cs 127 p.in_range);
        is_height = p.is_height;
        enough = at_least 127 (length (drop 127 cs)) right_long;
        within = sides.higher;
        under = row.rest_used;
        children =
            rows_stay pages news p.below size_same (bounded (drop 127 cs) (drop 127 ks) (record { low = Some key; high = b.high })) row.rest
            row.rest_used
            (both_same pages free now (under ++ page ∷ []) page new left right news row.rest_used both page_none.0 new_none.0) row.after;
        is_used = refl;
      };
      records = row.records;
      low = sides.above;
      high = sides.below;
      moves = moves_order pages news free now (under ++ page ∷ []) (new ∷ (under ++ page ∷ [])) (under ++ page ∷ [])
          ((row.rest_used ++ new ∷ []) ++ (row.first_used ++ page ∷ [])) (λ q. refl)
          (λ q. counted q new page under row.rest_used row.first_used row.is_used) both.moves;
    } in
    record {
      pages = pages;
      news = news;
      was = p.is_told;
      is = written.1 ∙ ap Some written.2;
      done = subst (λ n. Separated pages news free now page n b (under ++ page ∷ []) all key new) (sym p.is_height ∙ tall) separated;
    }
  where
    fewer : (c k : ℕ) → c ≡ 255 → c ≡ suc k → k ≡ 254
    fewer c k e f = omega arith

    at_most : (c : ℕ) → c ≡ 255 → 127 ≤ c
    at_most c e = omega arith

    at_most_keys : (k : ℕ) → k ≡ 254 → 126 ≤ k
    at_most_keys k e = omega arith

    enough : (c d : ℕ) → c ≡ 255 → d ≡ c - 127 → 127 ≤ d
    enough c d e f = omega arith

    one_more : (a b : ℕ) → a ≡ 127 → b ≡ 126 → a ≡ suc b
    one_more a b e f = omega arith

    same_least : (n : ℕ) → n ≡ 127 → 127 ≤ n
    same_least n e = omega arith

    none_below : (t u m : ℕ) → t ≡ u + m → t ≡ 0 → u ≡ 0
    none_below t u m e f = omega arith
