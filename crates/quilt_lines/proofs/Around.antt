-- The last record at or before those of a pixel says whether a block around the pixel is one of the layer's, and is its last.
use Rattle.std.proofs.Common.{◌≡◌, ℕ, ◌-◌, ◌<◌, ◌≤◌, Bool, true, false, List, [], ◌∷◌, ◌++◌, Option, Some, None, length, filter, map, get_or, drop}
use Rattle.std.proofs.Common.{refl, sym, ◌∙◌, ap, subst, ⊎_elim, arith, Contains, Ordering, Less, Equal, Greater, nat_cmp}
use Rattle.std.specs.Prelude.{IfSome, MatchOption, ◌&&◌}
use Rattle.std.specs.Ordering.{is_le, is_lt, ordering_then, ordering_reverse}
use Rattle.std.specs.Cmp.{nat_cmp_total, tied_itself}
use Rattle.std.proofs.lemmas.Bool.{and_parts, and_from, cases_Bool, both_ways, cases_lt, cond-false}
use Rattle.std.proofs.lemmas.List.{take_all}
use Rattle.std.proofs.lemmas.List.Elements.{Contains-append_left, Contains-append_right, Contains-append_cases}
use Rattle.std.proofs.lemmas.Option.{same_Some}
use Rattle.quilt_types.specs.Sets as finset
use Rattle.quilt_types.specs.declared.plane.Block.{Block}
use Rattle.quilt_types.specs.declared.plane.Pixel.{Pixel}
use Rattle.quilt_types.specs.Plane.{in_block, corner, IsBlock}
use Rattle.quilt_types.specs.Layers.{SegMap, BlockSet}
use Rattle.quilt_types.specs.Facts.{Fact, IsOfKind, HasColour, HoldsPoint, HoldsNoPoint, IsSegment, IsMetBy, IsMetByNone, line_facts}
use Rattle.quilt_types.specs.Codes.{depth}
use Rattle.quilt_loc.specs.Codes.{code_at, code_from, Rises}
use Rattle.quilt_loc.proofs.Members.{Contains-nil, Contains-here, Contains-filter, Contains-filter_from, Contains-map_from, Contains-cons_cases}
use Rattle.quilt_loc.proofs.Blocks.{Holds-from, in_block-true, side_most}
use Rattle.quilt_loc.proofs.CodeLaws.{depth_is, pow_same}
use Rattle.quilt_loc.proofs.Intervals.{code_held, held_code}
use Rattle.quilt_loc.proofs.Nesting.{Holds-corner}
use Rattle.quilt_loc.proofs.PlaneOrders.{block_total}
use Rattle.quilt_loc.proofs.Rising.{same_rising, Rises-filter, Rises-append, nat_less}
use Rattle.quilt_record.specs.declared.key.Key.{Key}
use Rattle.quilt_record.specs.declared.record.Record.{Record}
use Rattle.quilt_record.specs.Records.{key_cmp}
use Rattle.quilt_record.proofs.Orders.{le_le, lt_le, is_Less, lt_to_le, key_total, key_equal}
use Rattle.quilt_btree.specs.Lists.{is_at_most, floor_of, is_from_to, range_of}
use Rattle.quilt_spell.specs.Written.{by_key}
use Rattle.quilt_spell.proofs.Lists.{Apart-rises, Apart-le}
use Rattle.quilt_spell.proofs.Written.{by_key_total}
use Rattle.quilt_spell.proofs.facts.FactKeys.{block_same}
use Rattle.quilt_edits.proofs.Keys.{then_equal, nat_same, le_layer, le_code, less_code, less_depth, less_part, Less≢Equal}
use Rattle.quilt_edits.proofs.Lasts.{last_is}
use Rattle.quilt_edits.proofs.Lookups.{find_at}
use Rattle.quilt_line_laws.specs.Lines.{IsLineFact}
use Rattle.quilt_line_laws.proofs.LineFacts.{on_block}
use Rattle.quilt_line_laws.proofs.SetLaws.{contains_is}
use Rattle.quilt_near.specs.Lines.{Lines, IsLines, meeting}
use Rattle.quilt_near.proofs.Reached.{one_holder}
use Rattle.quilt_btree.specs.declared.tree.Tree.{Tree}
use Rattle.quilt_btree.specs.Trees.{IsTree}
use Rattle.quilt_world.specs.Tale.{Goes}
use Rattle.quilt_lines.specs.Layers.{shown_facts, fact_record, SpellsLines, HasLines}
use Rattle.quilt_lines.specs.Reads.{block_records}
use Rattle.quilt_lines.specs.Said.{last_block_key}
use Rattle.quilt_lines.specs.Searches.{one_pixel, last_pixel_key, IsLastAt, IsLastIn, IsLineSearch, is_before}
use Rattle.quilt_lines.specs.declared.search.Look.{Look}
use Rattle.quilt_lines.specs.declared.search.Search.{Search}
use Rattle.quilt_lines.proofs.Floors.{some_fact}
use Rattle.quilt_lines.proofs.Found.{pixel_block, floor_there}
use Rattle.quilt_lines.proofs.Keys.{item_key, by_item, le_item, in_range, range_alike}
use Rattle.quilt_lines.proofs.Ranges.{range_block}
use Rattle.quilt_lines.proofs.Trees.{tree_rises, tree_few}
use Rattle.quilt_lines.proofs.Lookups.{if_some_at}
use Rattle.quilt_lines.proofs.Sums.{UpBy}
use Rattle.quilt_lines.proofs.Shown.{first_key, shown_says, block_shown, cover_block, small_id, alike_on}

-- ---- the keys of a block and of its pixels
same_keys : (a b : Key) → a.layer ≡ b.layer → a.part ≡ b.part → a.code ≡ b.code → a.depth ≡ b.depth → a.item ≡ b.item → is_le (key_cmp a b) ≡ true
same_keys a b l p c d i =
    ap is_le (then_equal _ _ (nat_same a.layer b.layer l) ∙ then_equal _ _ (nat_same a.part b.part p) ∙ then_equal _ _ (nat_same a.code b.code c)
    ∙ then_equal _ _ (nat_same a.depth b.depth d) ∙ nat_same a.item b.item i)

-- no record of a block is behind those of its pixels
pub under_pixel : (n layer : ℕ) (b : Block) (p : Pixel) → n ≤ 12 → IsBlock n b → in_block b p ≡ true
    → is_le (key_cmp (last_block_key n layer b) (last_pixel_key n layer p)) ≡ true
under_pixel n layer b p le hb held =
    let one = one_pixel p in
    let h = pixel_block n b p hb held in
    let c = code_held n b p hb le (Holds-from b p held) in
    let from = c.0 in
    let none : 0 ≡ h.level = pow_same 0 h.level h.size in
    let db = depth_is n b hb in
    let dp = depth_is n one h in
    let low = hb.low in
    ⊎_elim (λ lt. ap is_le (less_code (last_block_key n layer b) (last_pixel_key n layer p) refl refl lt))
    (λ ge.
    let code : code_from b ≡ code_at p = omega arith in
    ⊎_elim (λ lt. ap is_le (less_depth (last_block_key n layer b) (last_pixel_key n layer p) refl refl code lt))
    (λ far. same_keys (last_block_key n layer b) (last_pixel_key n layer p) refl refl code (let d : depth n b ≡ depth n one = omega arith in d) refl)
    (cases_lt (depth n b) (depth n one)))
    (cases_lt (code_from b) (code_at p))

same_code : (a b : Block) → a ≡ b → code_from a ≡ code_from b
same_code a b e = ap code_from e

-- a key of a later part is behind
not_behind : (k m : Key) → m.layer ≡ k.layer → m.part < k.part → is_le (key_cmp k m) ≡ true → ⊥
not_behind k m l p h =
    let same = is_Less (key_cmp m m) (lt_le m k m (ap is_lt (less_part m k l p)) h) in
    Less≢Equal (sym same ∙ tied_itself key_total m)

-- ---- the last record at a pixel
module _ (rs : List Record) (layer n t : ℕ) (segs : SegMap) (cover : BlockSet) (up : Rises by_key rs) (spells : SpellsLines rs layer n t segs cover)
    (le : n ≤ 12) (b : Block) (hb : IsBlock n b) (p : Pixel) (held : in_block b p ≡ true) where
  abbrev lowest : Key
  lowest = first_key n layer b

  abbrev highest : Key
  highest = item_key lowest 4294967295

  abbrev limit : Key
  limit = last_pixel_key n layer p

  -- a block of the layer that begins in one of its is this one
  same_around : (c : Block) → finset.contains cover b ≡ true → Contains (finset.items cover) c → code_from b ≤ code_from c → code_from c ≤ code_at p → b ≡ c
  same_around c is mc from to =
      let v = spells.valid in
      let l : Lines = record { segs = segs; cover = cover } in
      let lines : IsLines n l = record { inside = v.inside; each = v.each; once = v.once } in
      let hc = cover_block n layer t segs cover v c mc in
      let m = side_most n le in
      let end = (code_held n b p hb le (Holds-from b p held)).1 in
      let cx = hc.in_x in
      let cy = hc.in_y in
      let bx = hb.in_x in
      let by = hb.in_y in
      let inside = held_code n b (corner c) hb le (omega arith) (omega arith) (omega arith) (omega arith) from (omega arith) in
      one_holder n l lines (corner c) cx cy b c ((contains_is block_total block_same cover b).0 is) inside mc (Holds-corner n c hc)

  -- a record between the first of the block's and the pixel's last is one of the block's
  upper : finset.contains cover b ≡ true → (f : Fact) → IsLineFact t segs cover f → is_le (key_cmp lowest (fact_record n layer f).key) ≡ true
      → is_le (key_cmp (fact_record n layer f).key limit) ≡ true → is_le (key_cmp (fact_record n layer f).key highest) ≡ true
  upper is (IsMetBy c id) h from to =
      let k = (fact_record n layer (IsMetBy c id)).key in
      let same = same_around c is h.0 (le_code lowest k refl refl from) (le_code k limit refl refl to) in
      let small = small_id n layer t segs cover spells.valid id h.1.0 h.1.1 in
      subst (λ (z : Block). is_le (key_cmp (item_key (first_key n layer z) id) highest) ≡ true) same
      (ap is_le (by_item lowest id 4294967295) ∙ le_item id 4294967295 (omega arith))
  upper is (IsMetByNone c) h from to =
      let k = (fact_record n layer (IsMetByNone c)).key in
      let same = same_around c is h.0 (le_code lowest k refl refl from) (le_code k limit refl refl to) in
      subst (λ (z : Block). is_le (key_cmp (item_key (first_key n layer z) 0) highest) ≡ true) same
      (ap is_le (by_item lowest 0 4294967295) ∙ le_item 0 4294967295 (omega arith))
  upper is (IsSegment id s) h from to = absurd (not_behind (fact_record n layer (IsSegment id s)).key limit refl (omega arith) to)
  upper is (IsOfKind kind number) h from to =
      let k = (fact_record n layer (IsOfKind kind number)).key in
      let under = le_layer lowest k from in
      absurd (not_behind lowest k (let none : 0 ≡ layer = omega arith in none) (omega arith) from)
  upper is (HasColour c colour) h from to = absurd h
  upper is (HoldsPoint c q label) h from to = absurd h
  upper is (HoldsNoPoint c) h from to = absurd h

  within : finset.contains cover b ≡ true → (r : Record) → Contains rs r → is_le (key_cmp lowest r.key) ≡ true → is_le (key_cmp r.key limit) ≡ true
      → is_from_to lowest highest r ≡ true
  within is r c from to =
      let a = le_layer lowest r.key from in
      let d = le_layer r.key limit to in
      let m = Contains-map_from (fact_record n layer) (shown_facts segs cover) r (spells.only r c (omega arith)) in
      let back : (z : Record) → z ≡ r → is_le (key_cmp lowest z.key) ≡ true = λ z e. ap (λ (w : Record). is_le (key_cmp lowest w.key)) e ∙ from in
      let forth : (z : Record) → z ≡ r → is_le (key_cmp z.key limit) ≡ true = λ z e. ap (λ (w : Record). is_le (key_cmp w.key limit)) e ∙ to in
      let over = upper is m.0 (shown_says n layer t segs cover m.0 m.1) (back (fact_record n layer m.0) m.2) (forth (fact_record n layer m.0) m.2) in
      and_from (is_le (key_cmp lowest r.key)) (is_le (key_cmp r.key highest)) from
      (sym (ap (λ (w : Record). is_le (key_cmp w.key highest)) m.2) ∙ over)

  -- a block of the layer has the last record there
  floor_within : finset.contains cover b ≡ true → (r : Record) × (floor_of limit rs ≡ Some r) × (is_from_to lowest highest r ≡ true)
  unfolding floor_of
  floor_within is =
      let m = (contains_is block_total block_same cover b).0 is in
      let f = some_fact (IsMetByNone b) (map (λ e. IsMetBy b e.0) (meeting segs b)) in
      let s = fact_record n layer f.0 in
      let k = alike_on n layer t segs cover spells.valid b f.0 (on_block segs b f.0 f.1) in
      let range = and_parts (is_le (key_cmp lowest s.key)) (is_le (key_cmp s.key highest)) (in_range lowest s 4294967295 k.0 k.1) in
      let there = spells.each f.0 (block_shown n layer t segs cover b f.0 m f.1) in
      let under = le_le s.key highest limit range.1 (under_pixel n layer b p le hb held) in
      let at = Contains-filter (is_at_most limit) rs s there under in
      let l = last_is (filter (is_at_most limit) rs) s (Rises-filter by_key (is_at_most limit) rs up) at in
      let w = Contains-filter_from (is_at_most limit) rs l.0 (l.2).there in
      (l.0, l.1, within is l.0 w.0 (le_le lowest s.key l.0.key range.0 ((l.2).above s at)) w.1)

  pub not_there : (o : Option Record) → o ≡ floor_of limit rs → IfSome o (λ r. is_from_to lowest highest r ≡ false) → finset.contains cover b ≡ false
  not_there o floor away =
      ⊎_elim
      (λ yes.
      let f = floor_within yes in
      absurd (both_ways (is_from_to lowest highest f.0) (if_some_at o (λ r. is_from_to lowest highest r ≡ false) f.0 (floor ∙ f.1) away) f.2))
      (λ no. no) (cases_Bool (finset.contains cover b))

-- ---- the records of a block up to its last
less_or_more : (a i : ℕ) → 1 ≤ i → is_le (nat_cmp a (i - 1)) ≡ is_lt (nat_cmp a i)
less_or_more a i some =
    ⊎_elim (λ lt. le_item a (i - 1) (omega arith) ∙ sym (ap is_lt (nat_less a i lt)))
    (λ ge.
    ap is_le (nat_more a (i - 1) (omega arith))
    ∙ ⊎_elim (λ lt. sym (ap is_lt (nat_more a i lt))) (λ far. sym (ap is_lt (nat_same a i (omega arith)))) (cases_lt i a))
    (cases_lt a i)
  where
    nat_more : (x y : ℕ) → y < x → nat_cmp x y ≡ Greater
    nat_more x y lt = nat_cmp_total.antisymm x y ∙ ap ordering_reverse (nat_less y x lt)

then_same : (o x y : Ordering) → is_le x ≡ is_lt y → is_le (ordering_then o x) ≡ is_lt (ordering_then o y)
then_same Less x y e = refl
then_same Equal x y e = e
then_same Greater x y e = refl

-- a key is below another one where it is at most that of the item before
up_to_before : (q k : Key) → 1 ≤ k.item → is_le (key_cmp q (item_key k (k.item - 1))) ≡ is_lt (key_cmp q k)
up_to_before q k some =
    then_same (nat_cmp q.layer k.layer) _ _ (then_same (nat_cmp q.part k.part) _ _ (then_same (nat_cmp q.code k.code) _ _
    (then_same (nat_cmp q.depth k.depth) _ _ (less_or_more q.item k.item some))))

pub none_between : (low k : Key) (r : Record) → low ≡ k → is_before low k r ≡ false
none_between low k r e =
    ap (λ (z : Key). is_before low z r) (sym e) ∙ ap (λ o. is_le (key_cmp low r.key) && is_lt o) (key_total.antisymm r.key low)
    ∙ neither (key_cmp low r.key)
  where
    neither : (o : Ordering) → (is_le o && is_lt (ordering_reverse o)) ≡ false
    neither Less = refl
    neither Equal = refl
    neither Greater = refl

pub filter_empty : (p : Record → Bool) → ((r : Record) → p r ≡ false) → (rs : List Record) → filter p rs ≡ []
filter_empty p h [] = refl
filter_empty p h (r ∷ rs) = cond-false (p r) (r ∷ filter p rs) (filter p rs) (h r) ∙ filter_empty p h rs

module _ (rs : List Record) (up : Rises by_key rs) (few : length rs ≤ 4294967295) where
  all_few : (f : Record → Bool) → length (filter f rs) ≤ 4294967295
  all_few f =
      let le = Apart-le (filter f rs) rs (Apart-rises by_key by_key_total (filter f rs) (Rises-filter by_key f rs up))
      (λ r c. (Contains-filter_from f rs r c).0) in
      omega arith

  -- what a range that ends before a key has
  pub range_before : (low k : Key) → 1 ≤ k.item → range_of low (item_key k (k.item - 1)) 4294967295 rs ≡ filter (is_before low k) rs
  unfolding range_of
  range_before low k some =
      let f = is_from_to low (item_key k (k.item - 1)) in
      let same : (r : Record) → f r ≡ is_before low k r = λ r. ap (λ z. is_le (key_cmp low r.key) && z) (up_to_before r.key k some) in
      take_all 4294967295 (filter f rs) (all_few f) ∙ ap (λ (g : Record → Bool). filter g rs) (λ i r. same r i)

  record_same : (x r : Record) → Contains rs x → Contains rs r → x.key ≡ r.key → x ≡ r
  record_same x r cx cr e = same_Some x r (sym (find_at r.key rs x up cx e) ∙ find_at r.key rs r up cr refl)

  module _ (low high far : Key) (r : Record) (le : is_le (key_cmp high far) ≡ true) (floor : floor_of far rs ≡ Some r)
      (here : is_from_to low high r ≡ true) where
    abbrev before : List Record
    before = filter (is_before low r.key) rs

    at_most : (x : Record) → Contains rs x → is_le (key_cmp x.key far) ≡ true → is_le (by_key x r) ≡ true
    unfolding floor_of
    at_most x c u =
        let at = Contains-filter (is_at_most far) rs x c u in
        let l = last_is (filter (is_at_most far) rs) x (Rises-filter by_key (is_at_most far) rs up) at in
        let same : l.0 ≡ r = same_Some l.0 r (sym l.1 ∙ floor) in
        subst (λ (z : Record). is_le (by_key x z) ≡ true) same ((l.2).above x at)

    one_of_them : (x : Record) → Contains rs x → is_le (key_cmp low x.key) ≡ true → (o : Ordering) → key_cmp x.key r.key ≡ o → is_le o ≡ true
        → Contains (before ++ r ∷ []) x
    one_of_them x c from Less e u =
        Contains-append_left before (r ∷ []) x
        (Contains-filter (is_before low r.key) rs x c (and_from (is_le (key_cmp low x.key)) (is_lt (key_cmp x.key r.key)) from (ap is_lt e)))
    one_of_them x c from Equal e u =
        let same = record_same x r c (floor_there far rs r floor) (key_equal x.key r.key e) in
        Contains-append_right before (r ∷ []) x (subst (Contains (r ∷ [])) (sym same) (Contains-here r []))
    one_of_them x c from Greater e u = cc

    -- the records of a range up to its last one
    pub range_to : before ++ r ∷ [] ≡ range_of low high 4294967295 rs
    unfolding range_of
    range_to =
        let range = is_from_to low high in
        let own = and_parts (is_le (key_cmp low r.key)) (is_le (key_cmp r.key high)) here in
        same_rising by_key by_key_total (before ++ r ∷ []) (filter range rs)
        (Rises-append by_key before (r ∷ []) (Rises-filter by_key (is_before low r.key) rs up) (λ y c. absurd (Contains-nil y c), tt)
        (λ x y c d.
        let w = Contains-filter_from (is_before low r.key) rs x c in
        let less = is_Less (key_cmp x.key r.key) (and_parts (is_le (key_cmp low x.key)) (is_lt (key_cmp x.key r.key)) w.1).1 in
        let same : r ≡ y = ⊎_elim (λ e. e) (λ no. absurd (Contains-nil y no)) (Contains-cons_cases r [] y d) in
        subst (λ (z : Record). by_key x z ≡ Less) same less))
        (Rises-filter by_key range rs up)
        (λ x. (
          λ c. ⊎_elim
              (λ d.
              let w = Contains-filter_from (is_before low r.key) rs x d in
              let both = and_parts (is_le (key_cmp low x.key)) (is_lt (key_cmp x.key r.key)) w.1 in
              Contains-filter range rs x w.0 (and_from (is_le (key_cmp low x.key)) (is_le (key_cmp x.key high)) both.0
              (lt_to_le (key_cmp x.key high) (lt_le x.key r.key high both.1 own.1))))
              (λ d.
              let same : r ≡ x = ⊎_elim (λ e. e) (λ no. absurd (Contains-nil x no)) (Contains-cons_cases r [] x d) in
              subst (Contains (filter range rs)) same (Contains-filter range rs r (floor_there far rs r floor) here))
              (Contains-append_cases before (r ∷ []) x c),
          λ c.
              let w = Contains-filter_from range rs x c in
              let both = and_parts (is_le (key_cmp low x.key)) (is_le (key_cmp x.key high)) w.1 in
              one_of_them x w.0 both.0 (key_cmp x.key r.key) refl (at_most x w.0 (le_le x.key high far both.1 le)),
        ))
        ∙ sym (take_all 4294967295 (filter range rs) (all_few range))

-- ---- what is read of a tree that has the layer
zero_is : (n layer : ℕ) (b : Block) (low high : Key) (r : Record) → low ≡ first_key n layer b → high ≡ item_key low 4294967295
    → is_from_to low high r ≡ true → r.key.item ≡ 0 → low ≡ r.key
zero_is n layer b low high r first last here none =
    let f = first_key n layer b in
    let same : high ≡ item_key f 4294967295 = last ∙ ap (λ (k : Key). item_key k 4294967295) first in
    let at : is_from_to (item_key f 0) (item_key f 4294967295) r ≡ true =
    sym (ap (λ (k : Key). is_from_to low k r) same ∙ ap (λ (k : Key). is_from_to k (item_key f 4294967295) r) first) ∙ here in
    let a = range_alike f r 4294967295 at in
    let el = a.layer in let ep = a.part in let ec = a.code in let ed = a.depth in let ei = sym none in
    let one : f ≡ r.key = λ i. record { layer = el i; part = ep i; code = ec i; depth = ed i; item = ei i } in
    first ∙ one

-- the records of a block that were read up to its last
pub near_read : (told : Option (List (List ℕ))) (tree : Tree) (layer n t : ℕ) (segs : SegMap) (cover : BlockSet) (b : Block) (low high : Key)
    (o : Option Record) (r : Record) (items : List Record)
    → tree.height ≤ 3 → n ≤ 12 → IsBlock n b → low ≡ first_key n layer b → high ≡ item_key low 4294967295 → IsLastIn told tree n layer b o → o ≡ Some r
    → is_from_to low high r ≡ true
    → ((rs : List Record) → IsTree told tree rs → (r.key.item ≡ 0 → low ≡ r.key) → items ≡ filter (is_before low r.key) rs ++ r ∷ [])
    → HasLines told tree layer n t segs cover → items ≡ block_records n layer segs cover b
near_read told tree layer n t segs cover b low high o r items height le hb first last l is here read h =
    let far = last_pixel_key n layer l.at in
    let up = tree_rises told tree h.records h.is_tree in
    let few = tree_few told tree h.records height h.is_tree in
    let same : high ≡ last_block_key n layer b = last ∙ ap (λ (k : Key). item_key k 4294967295) first in
    let under : is_le (key_cmp high far) ≡ true = ap (λ (k : Key). is_le (key_cmp k far)) same ∙ under_pixel n layer b l.at le hb l.holds in
    let floor = sym (l.last h.records h.is_tree) ∙ is in
    read h.records h.is_tree (zero_is n layer b low high r first last here) ∙ range_to h.records up few low high far r under floor here
    ∙ ap (λ (k : Key). range_of k high 4294967295 h.records) first
    ∙ ap (λ (k : Key). range_of (first_key n layer b) k 4294967295 h.records) same
    ∙ range_block h.records layer n t segs cover up few h.spelled le b hb

-- none were read
pub near_none : (told : Option (List (List ℕ))) (tree : Tree) (layer n t : ℕ) (segs : SegMap) (cover : BlockSet) (b : Block) (low high : Key)
    (o : Option Record) (items : List Record) → items ≡ []
    → n ≤ 12 → IsBlock n b → low ≡ first_key n layer b → high ≡ item_key low 4294967295 → IsLastIn told tree n layer b o
    → IfSome o (λ r. is_from_to low high r ≡ false) → HasLines told tree layer n t segs cover → items ≡ block_records n layer segs cover b
near_none told tree layer n t segs cover b low high o items empty le hb first last l away h =
    let up = tree_rises told tree h.records h.is_tree in
    let same : high ≡ last_block_key n layer b = last ∙ ap (λ (k : Key). item_key k 4294967295) first in
    let none = not_there h.records layer n t segs cover up h.spelled le b hb l.at l.holds o (l.last h.records h.is_tree)
    (subst (λ (k : Key). IfSome o (λ r. is_from_to (first_key n layer b) k r ≡ false)) same
    (subst (λ (k : Key). IfSome o (λ r. is_from_to k high r ≡ false)) first away)) in
    empty ∙ sym (cond-false (finset.contains cover b) (map (fact_record n layer) (line_facts segs b)) [] none)

-- ---- the last of a list
no_end : (xs : List Record) (r : Record) → xs ++ r ∷ [] ≡ [] → ⊥
no_end [] r e = let l = ap length e in omega arith
no_end (x ∷ xs) r e = let l = ap length e in omega arith

one_end : (xs : List Record) (r x : Record) → xs ++ r ∷ [] ≡ x ∷ [] → r ≡ x
one_end [] r x e = ap (λ l. get_or l 0 r) e
one_end (y ∷ ys) r x e = absurd (no_end ys r (ap (drop 1) e))

-- how many pages a look and a range read, where it has the one record of an item of 0
pub reads_one : (items before : List Record) (r none : Record) (a b c : Option ℕ) → items ≡ before ++ r ∷ [] → none.key.item ≡ 0
    → Goes (UpBy 9) a b → (r.key.item ≡ 0 → Goes {A = ℕ} (λ old new. new ≤ old) b c) → items ≡ none ∷ [] → Goes (UpBy 9) a c
reads_one items before r none a b c is least p q e =
    let same = one_end before r none (sym is ∙ e) in
    still a b c p (q (ap (λ (z : Record). z.key.item) same ∙ least))
  where
    still : (a b c : Option ℕ) → Goes (UpBy 9) a b → Goes {A = ℕ} (λ old new. new ≤ old) b c → Goes (UpBy 9) a c
    still (Some x) (Some y) (Some z) p q = omega arith
    still (Some x) (Some y) None p q = absurd q
    still (Some x) None c p q = absurd p
    still None (Some y) c p q = absurd p
    still None None (Some z) p q = absurd q
    still None None None p q = tt

pub near_block : (told : Option (List (List ℕ))) (tree : Tree) (n layer : ℕ) (b : Block) (p : Pixel) (o : Option Record)
    → in_block b p ≡ true → IsLastAt told tree n layer p o → IsLastIn told tree n layer b o
near_block told tree n layer b p o held last = record { at = p; holds = held; last = last }

pub corner_held : (n : ℕ) (b : Block) → IsBlock n b → in_block b (corner b) ≡ true
corner_held n b hb = in_block-true b (corner b) (Holds-corner n b hb)

-- the block of a pixel of a block
pub pixel_of : (n : ℕ) (b : Block) (p : Pixel) → IsBlock n b → in_block b p ≡ true → (d : Block) → d.x ≡ p.x → d.y ≡ p.y → d.side ≡ 1 → IsBlock n d
pixel_of n b p hb held d ex ey es =
    let x = sym ex in let y = sym ey in let s = sym es in
    let same : one_pixel p ≡ d = λ i. record { y = y i; x = x i; side = s i } in
    subst (IsBlock n) same (pixel_block n b p hb held)

pub search_along : (old new : Option (List (List ℕ))) (tree : Tree) (n layer : ℕ) (s : Search) → new ≡ old
    → IsLineSearch old tree n layer s → IsLineSearch new tree n layer s
search_along old new tree n layer s e h = subst (λ (o : Option (List (List ℕ))). IsLineSearch o tree n layer s) (sym e) h

-- what was found at the pixel of a search
pub seen_record : (told : Option (List (List ℕ))) (tree : Tree) (n layer : ℕ) (at : Pixel) (home : Option Look) (r : Record)
    → MatchOption home ⊥ (λ l. l.last ≡ Some r) → IfSome home (λ l. IsLastAt told tree n layer at l.last)
    → (o : Option Record) × IsLastAt told tree n layer at o × (o ≡ Some r)
seen_record told tree n layer at None r m h = absurd m
seen_record told tree n layer at (Some l) r m h = (l.last, h, m)
