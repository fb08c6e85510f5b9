-- A record put into a leaf, over a store's pages.
use Rattle.std.proofs.Common.{◌≡◌, ℕ, zero, suc, ◌+◌, ◌-◌, ◌<◌, ◌≤◌, Bool, true, false, ◌&&◌, ◌||◌, nat_le, List, [], ◌∷◌, ◌++◌, length, take, drop, Option}
use Rattle.std.proofs.lemmas.Bool.{and_from, and_parts}
use Rattle.std.proofs.Common.{Some, slice_index_or, slice_set, refl, sym, ◌∙◌, ap, subst, arith, take-append-drop, length-append, length-take-le, length-drop}
use Rattle.std.proofs.Common.{get_or-set_same}
use Rattle.std.specs.Prelude.{slice_get}
use Rattle.std.specs.List.{insert, list_all, list_any}
use Rattle.std.specs.Ordering.{is_lt, is_le}
use Rattle.std.proofs.lemmas.Bool.Decides.{nat_tests}
use Rattle.quilt_record.specs.declared.key.Key.{Key}
use Rattle.quilt_record.specs.declared.record.Record.{Record}
use Rattle.quilt_record.specs.Records.{key_cmp}
use Rattle.quilt_node.specs.Pages.{leaf_of, is_ascending}
use Rattle.quilt_node.specs.Nodes.{IsGap, IsFound, keys_of}
use Rattle.quilt_node.specs.Tree.{Bounds, is_above, is_below, are_within}
use Rattle.quilt_node.proofs.Ascending.{ascending_insert, all_take, all_drop}
use Rattle.quilt_store.specs.Store.{FreesOnly}
use Rattle.quilt_world.specs.Tale.{Goes}
use Rattle.quilt_record.specs.Lists.{has_key, put}
use Rattle.quilt_btree.specs.Edits.{multiplicity, KeepsAccount, Becomes, Separated, CanInsert, DidInsert}
use Rattle.quilt_btree.specs.declared.outcomes.Inserted.TheVariants as inserted
use Rattle.quilt_btree.proofs.lists.Counts.{once_here}
use Rattle.quilt_btree.proofs.stores.Moves.{moves_written, used_account}
use Rattle.quilt_btree.proofs.lists.Rising.{all_append, map_all}
use Rattle.quilt_btree.proofs.subtrees.Trees.{leaf_list, keys_append}
use Rattle.quilt_btree.proofs.ways.Leaves.{put_gap, gap_any, found_any, same_le}
use Rattle.quilt_btree.proofs.lists.Separators.{separated_at}
use Rattle.quilt_btree.proofs.stores.Writes.{tells_at, TellsAll, all_told, both_written}
use Rattle.quilt_btree.proofs.lists.Lists.{begins_with}

keys_insert : (rs : List Record) (i : ℕ) (r : Record) → keys_of (insert rs i r) ≡ insert (keys_of rs) i r.key
keys_insert rs zero r = refl
keys_insert [] (suc i) r = refl
keys_insert (s ∷ rs) (suc i) r = ap (λ l. s.key ∷ l) (keys_insert rs i r)

keys_take : (p : Key → Bool) (rs : List Record) (i : ℕ) → list_all (λ s. p s.key) (take i rs) ≡ true → list_all p (take i (keys_of rs)) ≡ true
keys_take p rs zero h = refl
keys_take p [] (suc i) h = refl
keys_take p (s ∷ rs) (suc i) h = let t = and_parts (p s.key) (list_all (λ (s : Record). p s.key) (take i rs)) h in
    and_from (p s.key) (list_all p (take i (keys_of rs))) t.0 (keys_take p rs i t.1)

keys_drop : (p : Key → Bool) (rs : List Record) (i : ℕ) → list_all (λ s. p s.key) (drop i rs) ≡ true → list_all p (drop i (keys_of rs)) ≡ true
keys_drop p rs zero h = map_all (λ (s : Record). s.key) p rs h
keys_drop p [] (suc i) h = refl
keys_drop p (s ∷ rs) (suc i) h = keys_drop p rs i h

-- a record at its gap keeps the order
pub gap_ascends : (r : Record) (rs : List Record) (i : ℕ) → is_ascending (keys_of rs) ≡ true → IsGap r.key rs i
    → is_ascending (keys_of (insert rs i r)) ≡ true
gap_ascends r rs i a g =
    subst (λ l. is_ascending l ≡ true) (sym (keys_insert rs i r))
    (ascending_insert r.key (keys_of rs) i a (keys_take (λ l. is_lt (key_cmp l r.key)) rs i g.before) (keys_drop (λ l. is_lt (key_cmp r.key l)) rs i g.behind))

within_insert : (b : Bounds) (r : Record) (rs : List Record) (i : ℕ) → is_above b.low r.key ≡ true → is_below b.high r.key ≡ true
    → are_within b (keys_of rs) ≡ true → are_within b (keys_of (insert rs i r)) ≡ true
within_insert b r rs i low high w =
    let p = λ (k : Key). is_above b.low k && is_below b.high k in
    subst (λ l. are_within b l ≡ true) (sym (keys_insert rs i r))
    (all_append p (take i (keys_of rs)) (r.key ∷ drop i (keys_of rs)) (all_take p (keys_of rs) i w)
    (and_from (is_above b.low r.key && is_below b.high r.key) (are_within b (drop i (keys_of rs)))
    (and_from (is_above b.low r.key) (is_below b.high r.key) low high) (all_drop p (keys_of rs) i w)))

length_insert : (rs : List Record) (i : ℕ) (r : Record) → i ≤ length rs → length (insert rs i r) ≡ suc (length rs)
length_insert rs i r h =
    let a = length-append (take i rs) (r ∷ drop i rs) in
    let b = length-take-le i rs h in
    let c = length-drop i rs in
    omega arith

more_enough : (is_root : Bool) (m n : ℕ) → n ≡ suc m → (is_root || nat_le 72 m) ≡ true → (is_root || nat_le 72 n) ≡ true
more_enough true m n e h = refl
more_enough false m n e h = grind (arith, nat_tests)

pub at_least : (m n : ℕ) → m ≤ n → (false || nat_le m n) ≡ true
at_least m n h = grind (arith, nat_tests)

-- what a leaf is that a record goes into
pub record IsGrowing (told : Option (List (List ℕ))) (size page : ℕ) (r : Record) (rs : List Record) (i : ℕ) : Type 0 where
  pub inside : page < size
  pub many : TellsAll told size
  pub gap : IsGap r.key rs i

-- the leaf and the one to its right
pub record AreHalves (r : Record) (rs : List Record) (i : ℕ) (left right : List ℕ) (key : Key) (start : Record) : Type 0 where
  pub full : length rs ≡ 144
  pub is_left : leaf_of left ≡ Some (take 72 (insert rs i r))
  pub is_right : leaf_of right ≡ Some (drop 72 (insert rs i r))
  pub begins : slice_get (drop 72 (insert rs i r)) 0 ≡ Some start
  pub is_key : key ≡ start.key

record HasHalves (b : Bounds) (xs : List Record) (n : ℕ) (key : Key) : Type 0 where
  above : is_above b.low key ≡ true
  below : is_below b.high key ≡ true
  lower : are_within (record { low = b.low; high = Some key }) (keys_of (take n xs)) ≡ true
  higher : are_within (record { low = Some key; high = b.high }) (keys_of (drop n xs)) ≡ true

halves : (b : Bounds) (xs : List Record) (n : ℕ) (start : Record) → is_ascending (keys_of xs) ≡ true → are_within b (keys_of xs) ≡ true
    → slice_get (drop n xs) 0 ≡ Some start → HasHalves b xs n start.key
halves b xs n start a w h =
    let rest = begins_with (drop n xs) start h in
    let cut : keys_of xs ≡ keys_of (take n xs) ++ start.key ∷ keys_of rest.0 =
    ap keys_of (sym (take-append-drop n xs)) ∙ keys_append (take n xs) (drop n xs) ∙ ap (λ l. keys_of (take n xs) ++ keys_of l) rest.1 in
    let parts =
    separated_at b (keys_of (take n xs)) start.key (keys_of rest.0) (subst (λ l. is_ascending l ≡ true) cut a)
    (subst (λ l. are_within b l ≡ true) cut w) in
    record {
      above = parts.above;
      below = parts.below;
      lower = parts.lower;
      higher = subst (λ l. are_within (record { low = Some start.key; high = b.high }) (keys_of l) ≡ true) (sym rest.1)
          (and_from (is_le (key_cmp start.key start.key) && is_below b.high start.key)
          (are_within (record { low = Some start.key; high = b.high }) (keys_of rest.0))
          (and_from (is_le (key_cmp start.key start.key)) (is_below b.high start.key) (same_le start.key) parts.below) parts.higher);
    }

-- the leaf was split
pub leaf_split : {told : Option (List (List ℕ))} {now_told : Option (List (List ℕ))} {free now : ℕ → Bool} {size page new : ℕ} {i : ℕ} {r : Record}
    {left right : List ℕ} {key : Key} {start : Record} {is_root : Bool} {b : Bounds} {rs : List Record} {used : List ℕ}
    → IsGrowing told size page r rs i → AreHalves r rs i left right key start → new < size → free new ≡ true → FreesOnly new false free now
    → Goes (λ old now. now ≡ slice_set (slice_set old page left) new right) told now_told → CanInsert told free size page 1 is_root b r.key rs used
    → DidInsert r told now_told free now page 1 is_root b rs used (inserted.Split key new)
leaf_split {told} {now_told} {free} {now} {size} {page} {new} {i} {r} {left} {right} {key} {start} {b} {rs} {used} is h inside_new t f wrote can =
    let pages = can.can_edit.pages in
    let told_is = can.can_edit.is_told in
    let s = can.can_edit.subtree in
    let xs = insert rs i r in
    let news = slice_set (slice_set pages page left) new right in
    let written = tells_at (λ old now. now ≡ slice_set (slice_set old page left) new right) told now_told pages wrote told_is in
    let here : 1 ≤ multiplicity page used = subst (λ u. 1 ≤ multiplicity page u) (sym s.is_used) (once_here page) in
    let both = both_written pages free now used page new left right can.can_edit.apart here (all_told told size page pages is.many told_is is.inside)
    (all_told told size new pages is.many told_is inside_new) t f in
    let old_list = leaf_list (slice_index_or pages page []) rs s.page in
    let sides = subst (HasHalves b xs 72) (sym h.is_key)
    (halves b xs 72 start (gap_ascends r rs i old_list.ascends is.gap) (within_insert b r rs i can.low can.high s.within) h.begins) in
    let long : length xs ≡ 145 = length_insert rs i r is.gap.in_range ∙ ap suc h.full in
    let first_many : 72 ≤ length (take 72 xs) = enough_left (length xs) (length (take 72 xs)) long (length-take-le 72 xs (most (length xs) long)) in
    let rest_many : 72 ≤ length (drop 72 xs) = enough_right (length xs) (length (drop 72 xs)) long (length-drop 72 xs) in
    let separated : Separated pages news free now page 1 b used xs key new = record {
      first = take 72 xs;
      rest = drop 72 xs;
      first_uses = page ∷ [];
      rest_uses = new ∷ [];
      is_left =
          record { page = ap leaf_of both.is_left ∙ h.is_left; enough = at_least 72 (length (take 72 xs)) first_many; within = sides.lower; is_used = refl };
      is_right =
          record { page = ap leaf_of both.is_right ∙ h.is_right; enough = at_least 72 (length (drop 72 xs)) rest_many; within = sides.higher; is_used = refl };
      records = sym (take-append-drop 72 xs);
      low = sides.above;
      high = sides.below;
      moves = subst (λ u. KeepsAccount pages news free now used (new ∷ u)) s.is_used both.moves;
    } in
    record {
      pages = pages;
      news = news;
      was = told_is;
      is = written.1 ∙ ap Some written.2;
      done = (gap_any r.key rs i is.gap, subst (λ l. Separated pages news free now page 1 b used l key new) (put_gap r rs i is.gap) separated);
    }
  where
    most : (n : ℕ) → n ≡ 145 → 72 ≤ n
    most n e = omega arith

    enough_left : (n t : ℕ) → n ≡ 145 → t ≡ 72 → 72 ≤ t
    enough_left n t e f = omega arith

    enough_right : (n t : ℕ) → n ≡ 145 → t ≡ n - 72 → 72 ≤ t
    enough_right n t e f = omega arith

module _ (told now_told : Option (List (List ℕ))) (free now : ℕ → Bool) (size page i : ℕ) (r : Record) (is_root : Bool) (b : Bounds)
    (rs : List Record) (used : List ℕ) where
  -- the one leaf was written
  pub leaf_done : (bytes : List ℕ) → IsGrowing told size page r rs i → leaf_of bytes ≡ Some (insert rs i r)
      → Goes (λ old new. new ≡ slice_set old page bytes) told now_told → now ≡ free → CanInsert told free size page 1 is_root b r.key rs used
      → DidInsert r told now_told free now page 1 is_root b rs used inserted.Done
  leaf_done bytes is leaf wrote same can =
      let pages = can.can_edit.pages in
      let s = can.can_edit.subtree in
      let written = tells_at (λ old new. new ≡ slice_set old page bytes) told now_told pages wrote can.can_edit.is_told in
      let here : 1 ≤ multiplicity page used = subst (λ u. 1 ≤ multiplicity page u) (sym s.is_used) (once_here page) in
      let puts_one : insert rs i r ≡ put r rs = put_gap r rs i is.gap in
      let grown : Becomes pages (slice_set pages page bytes) free free page 1 is_root b used (insert rs i r) = record {
        uses = used;
        subtree = record {
          page = ap leaf_of (get_or-set_same pages page bytes [] (all_told told size page pages is.many can.can_edit.is_told is.inside)) ∙ leaf;
          enough = more_enough is_root (length rs) (length (insert rs i r)) (length_insert rs i r is.gap.in_range) s.enough;
          within = within_insert b r rs i can.low can.high s.within;
          is_used = s.is_used;
        };
        moves = moves_written pages free used page bytes (used_account free used page here);
      } in
      record {
        pages = pages;
        news = slice_set pages page bytes;
        was = can.can_edit.is_told;
        is = written.1 ∙ ap Some written.2;
        done = (
          gap_any r.key rs i is.gap,
          subst (λ l. Becomes pages (slice_set pages page bytes) free now page 1 is_root b used l) puts_one
              (subst (λ f. Becomes pages (slice_set pages page bytes) free f page 1 is_root b used (insert rs i r)) (sym same) grown),
        );
      }
    where
      first : (t : ℕ) → t ≡ 1 + 0 → 1 ≤ t
      first t e = omega arith

  -- the key is there
  pub leaf_there : (leaf : List Record) → now_told ≡ told → leaf ≡ rs → IsFound r.key leaf i → CanInsert told free size page 1 is_root b r.key rs used
      → DidInsert r told now_told free now page 1 is_root b rs used inserted.There
  leaf_there leaf t same found can = record {
    pages = can.can_edit.pages;
    news = can.can_edit.pages;
    was = can.can_edit.is_told;
    is = t ∙ can.can_edit.is_told;
    done = subst (λ l. list_any (has_key r.key) l ≡ true) same (found_any r.key leaf i found.found found found.here);
  }
