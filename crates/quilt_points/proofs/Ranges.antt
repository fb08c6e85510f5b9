-- The records between the first and the last key of a block are those of the facts on it.
use Rattle.std.proofs.Common.{◌≡◌, ℕ, ◌+◌, ◌-◌, ◌<◌, ◌≤◌, ◌^◌, Bool, ◌⊎◌, inl, inr, true, List, [], ◌∷◌, map, length, Option, refl, sym, ◌∙◌, ap, subst, ⊎_elim}
use Rattle.std.proofs.Common.{arith, Contains, filter, nat_cmp, leb-true}
use Rattle.std.specs.Ordering.{is_le, is_lt}
use Rattle.std.specs.FinMap as finmap
use Rattle.std.proofs.lemmas.Bool.{cases_lt, cases_Bool, cond-true, cond-false, and_parts, and_from, both_ways}
use Rattle.std.proofs.lemmas.List.Elements.{All-contains}
use Rattle.std.proofs.Math.Nat.{pow-le-pow_right}
use Rattle.std.specs.Prelude.{◌==◌}
use Rattle.std.proofs.lemmas.List.{length-map, take_all}
use Rattle.std.proofs.lemmas.List.Sums.{length-filter}
use Rattle.quilt_types.specs.declared.plane.Pixel.{Pixel}
use Rattle.quilt_types.specs.declared.plane.Block.{Block}
use Rattle.quilt_types.specs.Plane.{corner, in_block, is_pixel, IsBlock}
use Rattle.quilt_types.specs.Layers.{PointMap, IsPointMap}
use Rattle.quilt_types.specs.Facts.{Fact, HoldsPoint, HoldsNoPoint, or_none, point_facts}
use Rattle.quilt_types.specs.Quadtrees.{occupancy, point_blocks}
use Rattle.quilt_loc.specs.Codes.{Rises, code_at, code_from}
use Rattle.quilt_loc.proofs.Members.{Contains-here, Contains-map, Contains-map_from, Contains-filter, Contains-filter_from}
use Rattle.quilt_loc.proofs.Blocks.{side_most}
use Rattle.quilt_loc.proofs.CodeLaws.{code_alone, depth_is}
use Rattle.quilt_loc.proofs.Rising.{nat_less, Rises-filter}
use Rattle.quilt_record.specs.declared.key.Key.{Key}
use Rattle.quilt_record.specs.declared.record.Record.{Record}
use Rattle.quilt_record.specs.Records.{key_cmp}
use Rattle.quilt_btree.specs.declared.tree.Tree.{Tree}
use Rattle.quilt_btree.specs.Lists.{is_from_to, range_of}
use Rattle.quilt_btree.specs.Trees.{IsTree}
use Rattle.quilt_btree.proofs.lists.Lists.{gt_not_le}
use Rattle.quilt_edits.proofs.Lists.{taken_there}
use Rattle.quilt_edits.proofs.Keys.{then_equal, nat_same, le_layer, le_code, less_depth}
use Rattle.quilt_points.proofs.Trees.{tree_rises}
use Rattle.quilt_spell.specs.Written.{by_key}
use Rattle.quilt_spell.proofs.Lists.{Apart-rises, Apart-le}
use Rattle.quilt_spell.proofs.Written.{by_key_total}
use Rattle.quilt_point_laws.proofs.OnBlocks.{IsOn, on_from, on_is, OfBlock}
use Rattle.quilt_points.specs.Layers.{block_record, SpellsPoints, HasPoints}
use Rattle.quilt_points.specs.Reads.{AreRecordsOf}
use Rattle.quilt_points.proofs.Shapes.{block_is, block_from, IsKeyOf, key_is}
use Rattle.quilt_points.proofs.Records.{fact_there, fact_at}
use Rattle.quilt_points.proofs.Finds.{pixel_in}
use Rattle.quilt_blocks.proofs.Painting.{code_in}

-- ---- keys that differ by their items alone
-- two keys of one block
record AreAlike (a b : Key) : Type 0 where
  layer : a.layer ≡ b.layer
  part : a.part ≡ b.part
  code : a.code ≡ b.code
  depth : a.depth ≡ b.depth

by_item : (a b : Key) → AreAlike a b → key_cmp a b ≡ nat_cmp a.item b.item
by_item a b h = then_equal _ _ (nat_same a.layer b.layer h.layer) ∙ then_equal _ _ (nat_same a.part b.part h.part)
    ∙ then_equal _ _ (nat_same a.code b.code h.code) ∙ then_equal _ _ (nat_same a.depth b.depth h.depth)

le_alike : (a b : Key) → AreAlike a b → a.item ≤ b.item → is_le (key_cmp a b) ≡ true
le_alike a b h le = ap is_le (by_item a b h)
    ∙ ⊎_elim (λ lt. ap is_le (nat_less a.item b.item lt)) (λ ge. ap is_le (nat_same a.item b.item (omega arith))) (cases_lt a.item b.item)

le_depth : (a b : Key) → a.layer ≡ b.layer → a.part ≡ b.part → a.code ≡ b.code → is_le (key_cmp a b) ≡ true → a.depth ≤ b.depth
le_depth a b l p c h =
    ⊎_elim (λ lt. absurd (both_ways (is_le (key_cmp a b)) (gt_not_le b a (ap is_lt (less_depth b a (sym l) (sym p) (sym c) lt))) h)) (λ ge. ge)
    (cases_lt b.depth a.depth)

-- blocks of one corner and depth
pub same_block : (n : ℕ) (a b : Block) → n ≤ 12 → (ha : IsBlock n a) → (hb : IsBlock n b) → code_from a ≡ code_from b → n - ha.level ≡ n - hb.level → a ≡ b
same_block n a b le ha hb e f =
    let m = side_most n le in
    let ax = ha.in_x in
    let ay = ha.in_y in
    let bx = hb.in_x in
    let by = hb.in_y in
    let at : corner a ≡ corner b = code_alone (corner a) (corner b) (omega arith) (omega arith) (omega arith) (omega arith) e in
    let la = ha.low in
    let lb = hb.low in
    let level : ha.level ≡ hb.level = omega arith in
    let side = ha.size ∙ ap (λ k. 2 ^ k) level ∙ sym hb.size in
    λ i. record { y = (at i).y; x = (at i).x; side = side i }

module _ (rs : List Record) (layer n capacity : ℕ) (points : PointMap) (le : n ≤ 12) (up : Rises by_key rs)
    (spells : SpellsPoints rs layer n capacity points) where
  module _ (b : Block) (hb : IsBlock n b) (low high : Key) (first : low ≡ (block_record n capacity layer (HoldsNoPoint b)).key)
      (last : high ≡ record { layer = low.layer; part = low.part; code = low.code; depth = low.depth; item = 4294967295 }) where
    low_key : IsKeyOf n layer b low
    low_key =
        record {
          layer = ap (λ (k : Key). k.layer) first;
          part = ap (λ (k : Key). k.part) first;
          code = ap (λ (k : Key). k.code) first;
          depth = ap (λ (k : Key). k.depth) first;
        }

    high_key : IsKeyOf n layer b high
    high_key =
        let l = low_key in
        record {
          layer = ap (λ (k : Key). k.layer) last ∙ l.layer;
          part = ap (λ (k : Key). k.part) last ∙ l.part;
          code = ap (λ (k : Key). k.code) last ∙ l.code;
          depth = ap (λ (k : Key). k.depth) last ∙ l.depth;
        }

    alike : (x y : Key) → IsKeyOf n layer b x → IsKeyOf n layer b y → AreAlike x y
    alike x y hx hy = record { layer = hx.layer ∙ sym hy.layer; part = hx.part ∙ sym hy.part; code = hx.code ∙ sym hy.code; depth = hx.depth ∙ sym hy.depth }

    in_range : (f : Fact) → IsOn points b f → (block_record n capacity layer f).key.item ≤ 4294967295
        → is_from_to low high (block_record n capacity layer f) ≡ true
    in_range f o small =
        let k = (block_record n capacity layer f).key in
        let hk = key_is n capacity layer points b f o in
        let zero_item = ap (λ (z : Key). z.item) first in
        let most_item = ap (λ (z : Key). z.item) last in
        and_from (is_le (key_cmp low k)) (is_le (key_cmp k high)) (le_alike low k (alike low k low_key hk) (omega arith))
        (le_alike k high (alike k high hk high_key) (omega arith))

    -- a record of the range is one of a fact on the block
    of_block : (r : Record) → Contains rs r → is_from_to low high r ≡ true → (f : Fact) × OfBlock n capacity points f × IsOn points b f
        × (block_record n capacity layer f ≡ r)
    of_block r c t =
        let both = and_parts (is_le (key_cmp low r.key)) (is_le (key_cmp r.key high)) t in
        let hl = low_key in
        let hh = high_key in
        let ll = hl.layer in
        let hhl = hh.layer in
        let a = le_layer low r.key both.0 in
        let z = le_layer r.key high both.1 in
        let f = fact_at rs layer n capacity points spells r c (omega arith) in
        let w = f.1 in
        let k = key_is n capacity layer points w.block f.0 w.on in
        let back : (block_record n capacity layer f.0).key ≡ r.key = ap (λ (s : Record). s.key) f.2 in
        let under : is_le (key_cmp low (block_record n capacity layer f.0).key) ≡ true = ap (λ s. is_le (key_cmp low s)) back ∙ both.0 in
        let over : is_le (key_cmp (block_record n capacity layer f.0).key high) ≡ true = ap (λ s. is_le (key_cmp s high)) back ∙ both.1 in
        let key = (block_record n capacity layer f.0).key in
        let c1 = le_code low key (hl.layer ∙ sym k.layer) (hl.part ∙ sym k.part) under in
        let c2 = le_code key high (k.layer ∙ sym hh.layer) (k.part ∙ sym hh.part) over in
        let hc = hl.code in
        let hhc = hh.code in
        let kc = k.code in
        let code : low.code ≡ key.code = omega arith in
        let code' : key.code ≡ high.code = omega arith in
        let d1 = le_depth low key (hl.layer ∙ sym k.layer) (hl.part ∙ sym k.part) code under in
        let d2 = le_depth key high (k.layer ∙ sym hh.layer) (k.part ∙ sym hh.part) code' over in
        let hd = hl.depth in
        let hhd = hh.depth in
        let kd = k.depth in
        let hw = (w.maximal).block in
        let da = depth_is n w.block hw in
        let db = depth_is n b hb in
        let same : w.block ≡ b = same_block n w.block b le hw hb (omega arith) (omega arith) in
        (f.0, w, subst (λ (z : Block). IsOn points z f.0) same w.on, f.2)

    block_there : (r : Record) → Contains rs r → is_from_to low high r ≡ true → Contains (point_blocks n capacity points) b
    block_there r c t =
        let f = of_block r c t in
        let w = f.1 in
        subst (Contains (point_blocks n capacity points)) (same_on f.0 w.on f.2) (block_from n capacity points w.block w.maximal)
      where
        same_on : (f : Fact) → {c : Block} → IsOn points c f → IsOn points b f → c ≡ b
        same_on (HoldsPoint d q k) o p = sym o.0 ∙ p.0
        same_on (HoldsNoPoint d) o p = sym o.0 ∙ p.0
        same_on f o p = absurd o

    module _ (small : (f : Fact) → IsOn points b f → (block_record n capacity layer f).key.item ≤ 4294967295) where
      abbrev rows : List Record
      rows = filter (is_from_to low high) rs

      filtered : AreRecordsOf n capacity layer points b rows
      filtered = record {
        rises = Rises-filter by_key (is_from_to low high) rs up;
        members = λ r. (
          λ c.
              let w = Contains-filter_from (is_from_to low high) rs r c in
              let f = of_block r w.0 w.1 in (
                block_there r w.0 w.1,
                subst (Contains (map (block_record n capacity layer) (point_facts points b))) f.3
                    (Contains-map (block_record n capacity layer) (point_facts points b) f.0 (on_is points b f.0 f.2)),
              ),
          λ m.
              let f = Contains-map_from (block_record n capacity layer) (point_facts points b) r m.1 in
              let o = on_from points b f.0 f.1 in
              let there = fact_there rs layer n capacity points spells f.0 (record { block = b; maximal = block_is n capacity points b m.0; on = o }) in
              subst (Contains rows) f.2 (Contains-filter (is_from_to low high) rs (block_record n capacity layer f.0) there (in_range f.0 o (small f.0 o))),
        );
      }

      nothing : (xs : List Record) → ((r : Record) → Contains xs r → ⊥) → length xs ≡ 0
      nothing [] h = refl
      nothing (x ∷ xs) h = absurd (h x (Contains-here x xs))

      or_none_length : (none : Fact) (fs : List Fact) (most : ℕ) → 1 ≤ most → length fs ≤ most → length (or_none none fs) ≤ most
      or_none_length none [] most h k = omega arith
      or_none_length none (f ∷ fs) most h k = k

      facts_few : Contains (point_blocks n capacity points) b → length (point_facts points b) ≤ capacity
      facts_few mb =
          let fact : Pixel × ℕ → Fact = λ e. HoldsPoint b e.0 e.1 in
          let test : Pixel × ℕ → Bool = λ e. in_block b e.0 in
          let es = finmap.entries points in
          let few = leb-true (occupancy points b) capacity (block_is n capacity points b mb).passes in
          let many = length-filter test es in
          let mapped = length-map (filter test es) fact in
          or_none_length (HoldsNoPoint b) (map fact (filter test es)) capacity spells.valid.least (omega arith)

      rows_few : length rows ≤ capacity
      rows_few =
          ⊎_elim
          (λ e. let none : length rows ≡ 0 = e in omega arith)
          (λ some.
          let mb = block_there some.0 (Contains-filter_from (is_from_to low high) rs some.0 some.1).0
          (Contains-filter_from (is_from_to low high) rs some.0 some.1).1 in
          let le' = Apart-le rows (map (block_record n capacity layer) (point_facts points b)) (Apart-rises by_key by_key_total rows filtered.rises)
          (λ r c. ((filtered.members r).0 c).1) in
          let mapped = length-map (point_facts points b) (block_record n capacity layer) in
          let few = facts_few mb in
          omega arith)
          (none_or_one rows)
        where
          none_or_one : (xs : List Record) → (length xs ≡ 0) ⊎ ((r : Record) × Contains xs r)
          none_or_one [] = inl refl
          none_or_one (x ∷ xs) = inr (x, Contains-here x xs)

      pub range_rows : (most : ℕ) → most ≡ capacity → AreRecordsOf n capacity layer points b (range_of low high most rs)
      unfolding range_of
      range_rows most e = subst (AreRecordsOf n capacity layer points b) (sym (take_all most rows (let few = rows_few in omega arith))) filtered

-- the item of a point's key is small
pub item_small : (n capacity layer : ℕ) (points : PointMap) → n ≤ 12 → IsPointMap 2 n capacity points → (b : Block) (f : Fact) → IsOn points b f
    → (block_record n capacity layer f).key.item ≤ 4294967295
item_small n capacity layer points le valid b (HoldsPoint d q k) o =
    let e : Pixel × ℕ = (q, k) in
    let on = pixel_in n q (All-contains (λ (e : Pixel × ℕ). is_pixel n e.0 ≡ true) (finmap.entries points) e valid.inside o.1) in
    let below = code_in n q le on.0 on.1 in
    let p : 4 ^ n ≤ 4 ^ 12 = pow-le-pow_right {n = 4} (let some : 0 < 4 = omega arith in some) le in
    ⊎_elim (λ t. let z = cond-true (capacity == 1) 0 (code_at q + 1) t in omega arith) (λ f. let z =
    cond-false (capacity == 1) 0 (code_at q + 1) f in omega arith) (cases_Bool (capacity == 1))
item_small n capacity layer points le valid b (HoldsNoPoint d) o = omega arith
item_small n capacity layer points le valid b f o = absurd o

-- what is read of a tree that has the layer
pub rows_read : (told : Option (List (List ℕ))) (t : Tree) (layer n capacity : ℕ) (points : PointMap) (b : Block) (low high : Key)
    (items : List Record) (most : ℕ)
    → n ≤ 12 → IsBlock n b → low ≡ (block_record n capacity layer (HoldsNoPoint b)).key
    → high ≡ record { layer = low.layer; part = low.part; code = low.code; depth = low.depth; item = 4294967295 } → most ≡ capacity
    → ((rs : List Record) → IsTree told t rs → items ≡ range_of low high most rs) → HasPoints told t layer n capacity points
    → AreRecordsOf n capacity layer points b items
rows_read told t layer n capacity points b low high items most le hb first last room is h =
    subst (AreRecordsOf n capacity layer points b) (sym (is h.records h.tree))
    (range_rows h.records layer n capacity points le (tree_rises told t h.records h.tree) h.spelled b hb low high first last
    (item_small n capacity layer points le h.spelled.valid b) most room)

-- what is read of any tree is one of its records
pub range_there : (low high : Key) (most : ℕ) (rs : List Record) (r : Record) → Contains (range_of low high most rs) r → Contains rs r
unfolding range_of
range_there low high most rs r c =
    (Contains-filter_from (is_from_to low high) rs r (taken_there (filter (is_from_to low high) rs) most r c)).0
