-- No fact of a layer stands twice, and the keys of their records differ.
use Rattle.std.proofs.Common.{◌≡◌, ℕ, ◌+◌, ◌-◌, ◌≤◌, ◌^◌, Bool, true, nat_lt, ◌⊎◌, List, [], ◌∷◌, map, length, get_or, Some, refl, sym, ◌∙◌, ap, ap₂, inl, inr}
use Rattle.std.proofs.Common.{⊎_elim, arith, Contains, All, filter, flat_map, count_by, eqb, eqb-true, leb-true, ltb-true, nat_cmp, Ordering, Less, Equal}
use Rattle.std.proofs.Common.{Greater}
use Rattle.std.specs.Ordering.{ordering_then}
use Rattle.std.specs.Cmp.{nat_cmp_total, on_total}
use Rattle.std.specs.FinMap as finmap
use Rattle.std.specs.FinMap.{nat_cmp-IsAntisymmetric, IsAntisymmetric}
use Rattle.std.proofs.lemmas.Bool.{and_parts, cases_Bool, cond-false}
use Rattle.std.proofs.lemmas.List.{get_or_default}
use Rattle.std.proofs.lemmas.List.Sums.{length-filter}
use Rattle.std.proofs.lemmas.List.Elements.{All-contains, Contains-append_cases}
use Rattle.std.proofs.lemmas.Option.{same_Some}
use Rattle.quilt_types.specs.Sets as finset
use Rattle.quilt_types.specs.declared.plane.Block.{Block}
use Rattle.quilt_types.specs.declared.plane.Pixel.{Pixel}
use Rattle.quilt_types.specs.declared.plane.Seg.{Seg}
use Rattle.quilt_types.specs.Plane.{side, corner, in_block, IsBlock, pixel_cmp, block_cmp, is_pixel}
use Rattle.quilt_types.specs.Codes.{code, depth}
use Rattle.quilt_types.specs.Layers.{Layer, Region, Points, Lines, Grid, PointMap, SegMap, BlockSet, IsLayer, colour_at}
use Rattle.quilt_types.specs.Facts.{Fact, IsOfKind, HasColour, HoldsPoint, HoldsNoPoint, IsSegment, IsMetBy, IsMetByNone, or_none, point_facts, line_facts}
use Rattle.quilt_types.specs.Facts.{facts}
use Rattle.quilt_types.specs.Quadtrees.{maximal_blocks, is_uniform, coloured, leaves, holds_few, occupancy, point_blocks}
use Rattle.quilt_types.specs.Segments.{square, meets}
use Rattle.quilt_record.specs.declared.key.Key.{Key}
use Rattle.quilt_record.specs.Records.{capacity_of, record_of, point_item}
use Rattle.quilt_spell.specs.Apart.{Apart}
use Rattle.quilt_spell.specs.LayerFacts.{RegionSays, PointsSay, LinesSay}
use Rattle.quilt_loc.proofs.Members.{Contains-nil, Contains-map_from, Contains-filter, Contains-filter_from, Contains-flat_map_from}
use Rattle.quilt_loc.proofs.Blocks.{side_most}
use Rattle.quilt_loc.proofs.CodeLaws.{code_alone, depth_is}
use Rattle.quilt_loc.proofs.PlaneOrders.{pixel_total, block_total}
use Rattle.quilt_loc.proofs.InOrder.{Rises-maximal}
use Rattle.quilt_spell.proofs.Lists.{Apart-append, Apart-filter, Apart-map, Apart-flat_map, Apart-rises}
use Rattle.quilt_spell.proofs.Maps.{by_first, Rises-keys, Rises-entries, get_from_entry}
use Rattle.quilt_spell.proofs.facts.FactMembers.{layer_says, or_none_member}
use Rattle.quilt_record.proofs.Orders.{then_equal}

-- ---- orders of which only equals tie

pub pixel_same : IsAntisymmetric pixel_cmp
pixel_same p q e =
    let t = then_equal (nat_cmp p.y q.y) (nat_cmp p.x q.x) e in
    let y = nat_cmp-IsAntisymmetric p.y q.y t.0 in
    let x = nat_cmp-IsAntisymmetric p.x q.x t.1 in
    λ i. record { x = x i; y = y i }

pub block_same : IsAntisymmetric block_cmp
block_same a b e =
    let t = then_equal (nat_cmp a.y b.y) (ordering_then (nat_cmp a.x b.x) (nat_cmp a.side b.side)) e in
    let u = then_equal (nat_cmp a.x b.x) (nat_cmp a.side b.side) t.1 in
    let y = nat_cmp-IsAntisymmetric a.y b.y t.0 in
    let x = nat_cmp-IsAntisymmetric a.x b.x u.0 in
    let s = nat_cmp-IsAntisymmetric a.side b.side u.1 in
    λ i. record { x = x i; y = y i; side = s i }

-- a map has one value at a key
pub one_label : (points : PointMap) (p q : Pixel) (k l : ℕ) → Contains (finmap.entries points) (p, k) → Contains (finmap.entries points) (q, l) → p ≡ q → k ≡ l
one_label points p q k l c d e =
    same_Some k l (sym (get_from_entry pixel_cmp pixel_total pixel_same points (p, k) c) ∙ ap (finmap.get points) e
    ∙ get_from_entry pixel_cmp pixel_total pixel_same points (q, l) d)

pub one_seg : (segs : SegMap) (i j : ℕ) (s t : Seg) → Contains (finmap.entries segs) (i, s) → Contains (finmap.entries segs) (j, t) → i ≡ j → s ≡ t
one_seg segs i j s t c d e =
    same_Some s t (sym (get_from_entry nat_cmp nat_cmp_total nat_cmp-IsAntisymmetric segs (i, s) c) ∙ ap (finmap.get segs) e
    ∙ get_from_entry nat_cmp nat_cmp_total nat_cmp-IsAntisymmetric segs (j, t) d)

-- ---- at most one element passes
few_same : {X : Type 0} (xs : List X) (a b : X) → length xs ≤ 1 → Contains xs a → Contains xs b → a ≡ b
few_same xs a b le ca cb =
    let la = ca.1 in
    let lb = cb.1 in
    let same : ca.0 ≡ cb.0 = omega arith in
    sym ca.2 ∙ get_or_default xs ca.0 a b la ∙ ap (λ k. get_or xs k b) same ∙ cb.2

pub most_once : {X : Type 0} (p : X → Bool) (xs : List X) (a b : X) → count_by p xs ≤ 1 → Contains xs a → p a ≡ true → Contains xs b → p b ≡ true → a ≡ b
most_once p xs a b le ca pa cb pb =
    let e = length-filter p xs in
    few_same (filter p xs) a b (omega arith) (Contains-filter p xs a ca pa) (Contains-filter p xs b cb pb)

-- ---- keys
module _ (n : ℕ) (le : n ≤ 12) where
  pub block_alone : (a b : Block) → IsBlock n a → IsBlock n b → code a.x a.y ≡ code b.x b.y → depth n a ≡ depth n b → a ≡ b
  block_alone a b ha hb codes depths =
      let m = side_most n le in
      let ax = ha.in_x in
      let ay = ha.in_y in
      let bx = hb.in_x in
      let by = hb.in_y in
      let at : corner a ≡ corner b = code_alone (corner a) (corner b) (omega arith) (omega arith) (omega arith) (omega arith) codes in
      let deep : n - ha.level ≡ n - hb.level = sym (depth_is n a ha) ∙ depths ∙ depth_is n b hb in
      let al = ha.low in
      let bl = hb.low in
      let level : ha.level ≡ hb.level = omega arith in
      let side = ha.size ∙ ap (λ k. 2 ^ k) level ∙ sym hb.size in
      λ i. record { y = (at i).y; x = (at i).x; side = side i }

  module _ (name : List ℕ) (number : ℕ) (least : 1 ≤ number) where
    region_alone : (grid : Grid) (c : ℕ) (f g : Fact) → RegionSays n grid f → RegionSays n grid g
        → (record_of n c name number f).key ≡ (record_of n c name number g).key → f ≡ g
    region_alone grid c (IsOfKind i j) (IsOfKind k l) u v e = ap₂ IsOfKind (u.0 ∙ sym v.0) (u.1 ∙ sym v.1)
    region_alone grid c (IsOfKind i j) (HasColour b k) u v e = absurd (let z : 0 ≡ number = ap (λ (q : Key). q.layer) e in omega arith)
    region_alone grid c (HasColour b k) (IsOfKind i j) u v e = absurd (let z : number ≡ 0 = ap (λ (q : Key). q.layer) e in omega arith)
    region_alone grid c (HasColour b k) (HasColour d l) u v e =
        let same = block_alone b d u.0 v.0 (ap (λ (q : Key). q.code) e) (ap (λ (q : Key). q.depth) e) in
        ap₂ HasColour same (u.1 ∙ ap (λ (z : Block). colour_at n grid (corner z)) same ∙ sym v.1)
    region_alone grid c (IsOfKind i j) g u v e = absurd v
    region_alone grid c (HasColour b k) g u v e = absurd v
    region_alone grid c f g u v e = absurd u

    points_alone : (capacity : ℕ) (points : PointMap) → All (λ e. is_pixel n e.0 ≡ true) (finmap.entries points) → (f g : Fact)
        → PointsSay n capacity points f → PointsSay n capacity points g
        → (record_of n capacity name number f).key ≡ (record_of n capacity name number g).key → f ≡ g
    points_alone capacity points inside (IsOfKind i j) (IsOfKind k l) u v e = ap₂ IsOfKind (u.0 ∙ sym v.0) (u.1 ∙ sym v.1)
    points_alone capacity points inside (IsOfKind i j) (HoldsPoint b p k) u v e = absurd (let z : 0 ≡ number = ap (λ (q : Key). q.layer) e in omega arith)
    points_alone capacity points inside (IsOfKind i j) (HoldsNoPoint b) u v e = absurd (let z : 0 ≡ number = ap (λ (q : Key). q.layer) e in omega arith)
    points_alone capacity points inside (HoldsPoint b p k) (IsOfKind i j) u v e = absurd (let z : number ≡ 0 = ap (λ (q : Key). q.layer) e in omega arith)
    points_alone capacity points inside (HoldsNoPoint b) (IsOfKind i j) u v e = absurd (let z : number ≡ 0 = ap (λ (q : Key). q.layer) e in omega arith)
    points_alone capacity points inside (HoldsNoPoint b) (HoldsNoPoint d) u v e =
        ap HoldsNoPoint (block_alone b d u.0 v.0 (ap (λ (q : Key). q.code) e) (ap (λ (q : Key). q.depth) e))
    points_alone capacity points inside (HoldsNoPoint b) (HoldsPoint d p k) u v e =
        let same = block_alone b d u.0 v.0 (ap (λ (q : Key). q.code) e) (ap (λ (q : Key). q.depth) e) in
        absurd (u.1 p k v.2 (ap (λ z. in_block z p) same ∙ v.3))
    points_alone capacity points inside (HoldsPoint d p k) (HoldsNoPoint b) u v e =
        let same = block_alone d b u.0 v.0 (ap (λ (q : Key). q.code) e) (ap (λ (q : Key). q.depth) e) in
        absurd (v.1 p k u.2 (ap (λ z. in_block z p) (sym same) ∙ u.3))
    points_alone capacity points inside (HoldsPoint b p k) (HoldsPoint d q l) u v e =
        let same = block_alone b d u.0 v.0 (ap (λ (z : Key). z.code) e) (ap (λ (z : Key). z.depth) e) in
        let item : point_item capacity p ≡ point_item capacity q = ap (λ (z : Key). z.item) e in
        let at : p ≡ q =
        ⊎_elim
        (λ one.
        let is = eqb-true capacity 1 one in
        let few = leb-true (occupancy points b) capacity u.1 in
        let pair : ◌≡◌ {A = Pixel × ℕ} (p, k) (q, l) =
        most_once (λ (e : Pixel × ℕ). in_block b e.0) (finmap.entries points) (p, k) (q, l) (omega arith) u.2 u.3 v.2 (ap (λ z. in_block z q) same ∙ v.3) in
        ap (λ (w : Pixel × ℕ). w.0) pair)
        (λ more.
        let a : point_item capacity p ≡ code p.x p.y + 1 = cond-false (eqb capacity 1) 0 (code p.x p.y + 1) more in
        let b : point_item capacity q ≡ code q.x q.y + 1 = cond-false (eqb capacity 1) 0 (code q.x q.y + 1) more in
        let codes : code p.x p.y ≡ code q.x q.y = omega arith in
        let m = side_most n le in
        let hp = and_parts (nat_lt p.x (side n)) (nat_lt p.y (side n))
        (All-contains (λ (e : Pixel × ℕ). is_pixel n e.0 ≡ true) (finmap.entries points) (p, k) inside u.2) in
        let hq = and_parts (nat_lt q.x (side n)) (nat_lt q.y (side n))
        (All-contains (λ (e : Pixel × ℕ). is_pixel n e.0 ≡ true) (finmap.entries points) (q, l) inside v.2) in
        let px = ltb-true p.x (side n) hp.0 in
        let py = ltb-true p.y (side n) hp.1 in
        let qx = ltb-true q.x (side n) hq.0 in
        let qy = ltb-true q.y (side n) hq.1 in
        code_alone p q (omega arith) (omega arith) (omega arith) (omega arith) codes)
        (cases_Bool (eqb capacity 1)) in
        let label = one_label points p q k l u.2 v.2 at in
        λ i. HoldsPoint (same i) (at i) (label i)
    points_alone capacity points inside (IsOfKind i j) g u v e = absurd v
    points_alone capacity points inside (HoldsPoint b p k) g u v e = absurd v
    points_alone capacity points inside (HoldsNoPoint b) g u v e = absurd v
    points_alone capacity points inside f g u v e = absurd u

    lines_alone : (threshold c : ℕ) (segs : SegMap) (f g : Fact) → LinesSay n threshold segs f → LinesSay n threshold segs g
        → (record_of n c name number f).key ≡ (record_of n c name number g).key → f ≡ g
    lines_alone t c segs (IsOfKind i j) (IsOfKind k l) u v e = ap₂ IsOfKind (u.0 ∙ sym v.0) (u.1 ∙ sym v.1)
    lines_alone t c segs (IsOfKind i j) (IsSegment k s) u v e = absurd (let z : 0 ≡ number = ap (λ (q : Key). q.layer) e in omega arith)
    lines_alone t c segs (IsOfKind i j) (IsMetBy b k) u v e = absurd (let z : 0 ≡ number = ap (λ (q : Key). q.layer) e in omega arith)
    lines_alone t c segs (IsOfKind i j) (IsMetByNone b) u v e = absurd (let z : 0 ≡ number = ap (λ (q : Key). q.layer) e in omega arith)
    lines_alone t c segs (IsSegment k s) (IsOfKind i j) u v e = absurd (let z : number ≡ 0 = ap (λ (q : Key). q.layer) e in omega arith)
    lines_alone t c segs (IsSegment k s) (IsSegment j r) u v e =
        let id : k ≡ j = ap (λ (q : Key). q.item) e in
        ap₂ IsSegment id (one_seg segs k j s r u v id)
    lines_alone t c segs (IsSegment k s) (IsMetBy b i) u v e = absurd (let z : 4 ≡ 3 = ap (λ (q : Key). q.part) e in omega arith)
    lines_alone t c segs (IsSegment k s) (IsMetByNone b) u v e = absurd (let z : 4 ≡ 3 = ap (λ (q : Key). q.part) e in omega arith)
    lines_alone t c segs (IsMetBy b k) (IsOfKind i j) u v e = absurd (let z : number ≡ 0 = ap (λ (q : Key). q.layer) e in omega arith)
    lines_alone t c segs (IsMetBy b k) (IsSegment j r) u v e = absurd (let z : 3 ≡ 4 = ap (λ (q : Key). q.part) e in omega arith)
    lines_alone t c segs (IsMetBy b k) (IsMetBy d l) u v e =
        ap₂ IsMetBy (block_alone b d u.0 v.0 (ap (λ (q : Key). q.code) e) (ap (λ (q : Key). q.depth) e)) (ap (λ (q : Key). q.item) e)
    lines_alone t c segs (IsMetBy b k) (IsMetByNone d) u v e =
        let same = block_alone b d u.0 v.0 (ap (λ (q : Key). q.code) e) (ap (λ (q : Key). q.depth) e) in
        absurd (v.1 k u.1.0 u.1.1 (ap (λ (z : Block). meets u.1.0 (square z)) (sym same) ∙ u.1.2))
    lines_alone t c segs (IsMetByNone b) (IsOfKind i j) u v e = absurd (let z : number ≡ 0 = ap (λ (q : Key). q.layer) e in omega arith)
    lines_alone t c segs (IsMetByNone b) (IsSegment j r) u v e = absurd (let z : 3 ≡ 4 = ap (λ (q : Key). q.part) e in omega arith)
    lines_alone t c segs (IsMetByNone b) (IsMetBy d k) u v e =
        let same = block_alone b d u.0 v.0 (ap (λ (q : Key). q.code) e) (ap (λ (q : Key). q.depth) e) in
        absurd (u.1 k v.1.0 v.1.1 (ap (λ (z : Block). meets v.1.0 (square z)) same ∙ v.1.2))
    lines_alone t c segs (IsMetByNone b) (IsMetByNone d) u v e =
        ap IsMetByNone (block_alone b d u.0 v.0 (ap (λ (q : Key). q.code) e) (ap (λ (q : Key). q.depth) e))
    lines_alone t c segs (IsOfKind i j) g u v e = absurd v
    lines_alone t c segs (IsSegment k s) g u v e = absurd v
    lines_alone t c segs (IsMetBy b k) g u v e = absurd v
    lines_alone t c segs (IsMetByNone b) g u v e = absurd v
    lines_alone t c segs f g u v e = absurd u

    -- two facts of a layer with one key are one
    pub fact_alone : (form : ℕ) (layer : Layer) → IsLayer form n layer → (f g : Fact) → Contains (facts n layer) f → Contains (facts n layer) g
        → (record_of n (capacity_of layer) name number f).key ≡ (record_of n (capacity_of layer) name number g).key → f ≡ g
    fact_alone form (Region grid) h f g c d e =
        region_alone grid 0 f g (layer_says form n (Region grid) h f c) (layer_says form n (Region grid) h g d) e
    fact_alone form (Points capacity points) h f g c d e =
        points_alone capacity points h.inside f g (layer_says form n (Points capacity points) h f c) (layer_says form n (Points capacity points) h g d) e
    fact_alone form (Lines t segs cover) h f g c d e =
        lines_alone t 0 segs f g (layer_says form n (Lines t segs cover) h f c) (layer_says form n (Lines t segs cover) h g d) e

-- ---- no fact stands twice
pub or_none_apart : (none : Fact) (fs : List Fact) → Apart fs → Apart (or_none none fs)
or_none_apart none [] h = (λ c. Contains-nil none c, tt)
or_none_apart none (f ∷ fs) h = h

leaf_of : Block × ℕ → Fact
leaf_of e = HasColour e.0 e.1

region_apart : (n : ℕ) (grid : Grid) → Apart (facts n (Region grid))
unfolding leaves
region_apart n grid =
    let fact : Block × ℕ → Fact = λ leaf. HasColour leaf.0 leaf.1 in
    let mb = maximal_blocks n (is_uniform n grid) in (
      λ c. let m = Contains-map_from fact (leaves n grid) (IsOfKind 1 0) c in let e = m.2 in cc,
      Apart-map fact (leaves n grid) (λ a b _ _ e. let x : a.0 ≡ b.0 = cc in let y : a.1 ≡ b.1 = cc in λ i. (x i, y i))
          (Apart-map (coloured n grid) mb (λ a b _ _ e. ap (λ (w : Block × ℕ). w.0) e)
          (Apart-rises block_cmp block_total mb (Rises-maximal n (is_uniform n grid)))),
    )

-- which block a fact is on
block_in : Fact → Block → Block
block_in (HasColour b c) d = b
block_in (HoldsPoint b p l) d = b
block_in (HoldsNoPoint b) d = b
block_in (IsMetBy b i) d = b
block_in (IsMetByNone b) d = b
block_in f d = d

module _ {X : Type 0} (test : Block → X → Bool) (none : Block → Fact) (some : Block → X → Fact) (es : List X) (bs : List Block)
    (ofs : (b d : Block) (x y : X) → some b x ≡ some d y → b ≡ d) (nones : (b d : Block) → none b ≡ none d → b ≡ d)
    (mixed : (b d : Block) (x : X) → none b ≡ some d x → ⊥) (one : (b : Block) (x y : X) → Contains es x → Contains es y → some b x ≡ some b y → x ≡ y)
    (here : Apart es) (there : Apart bs) where
  abbrev on : Block → List Fact
  on b = or_none (none b) (map (some b) (filter (test b) es))

  pub on_from : (b : Block) (f : Fact) → Contains (on b) f → (f ≡ none b) ⊎ ((x : X) × (some b x ≡ f))
  on_from b f c =
      ⊎_elim (λ e. inl e.0) (λ d. let m = Contains-map_from (some b) (filter (test b) es) f d in inr (m.0, m.2))
      (or_none_member (none b) (map (some b) (filter (test b) es)) f c)

  one_block : (b d : Block) (f : Fact) → Contains (on b) f → Contains (on d) f → b ≡ d
  one_block b d f c k =
      ⊎_elim
      (λ e. ⊎_elim (λ g. nones b d (sym e ∙ g)) (λ y. absurd (mixed b d y.0 (sym e ∙ sym y.1))) (on_from d f k))
      (λ x. ⊎_elim (λ g. absurd (mixed d b x.0 (sym g ∙ sym x.1))) (λ y. ofs b d x.0 y.0 (x.1 ∙ sym y.1)) (on_from d f k))
      (on_from b f c)

  pub blocks_apart : Apart (flat_map on bs)
  blocks_apart =
      Apart-flat_map on bs there
      (λ b _. or_none_apart (none b) (map (some b) (filter (test b) es))
      (Apart-map (some b) (filter (test b) es)
      (λ x y c d e. one b x y (Contains-filter_from (test b) es x c).0 (Contains-filter_from (test b) es y d).0 e) (Apart-filter (test b) es here)))
      (λ b d f _ _ c k. one_block b d f c k)

points_apart : (n capacity : ℕ) (points : PointMap) → Apart (facts n (Points capacity points))
unfolding point_blocks
points_apart n capacity points =
    let test : Block → Pixel × ℕ → Bool = λ b e. in_block b e.0 in
    let some : Block → Pixel × ℕ → Fact = λ b e. HoldsPoint b e.0 e.1 in
    let es = finmap.entries points in
    let bs = maximal_blocks n (holds_few capacity points) in
    let ofs : (b d : Block) (x y : Pixel × ℕ) → some b x ≡ some d y → b ≡ d = λ b d x y e. cc in
    let nones : (b d : Block) → HoldsNoPoint b ≡ HoldsNoPoint d → b ≡ d = λ b d e. cc in
    let mixed : (b d : Block) (x : Pixel × ℕ) → HoldsNoPoint b ≡ some d x → ⊥ = λ b d x e. cc in
    let one : (b : Block) (x y : Pixel × ℕ) → Contains es x → Contains es y → some b x ≡ some b y → x ≡ y =
    λ b x y _ _ e. let p : x.0 ≡ y.0 = cc in let l : x.1 ≡ y.1 = cc in λ i. (p i, l i) in
    let here = Apart-rises (by_first pixel_cmp) (on_total (λ (e : Pixel × ℕ). e.0) pixel_total) es (Rises-entries pixel_cmp points) in
    let there = Apart-rises block_cmp block_total bs (Rises-maximal n (holds_few capacity points)) in (
      λ c.
          let m = Contains-flat_map_from (point_facts points) bs (IsOfKind 2 capacity) c in
          ⊎_elim (λ e. cc) (λ x. let e = x.1 in cc)
          (on_from test HoldsNoPoint some es bs ofs nones mixed one here there m.0 (IsOfKind 2 capacity) m.2),
      blocks_apart test HoldsNoPoint some es bs ofs nones mixed one here there,
    )

lines_apart : (n threshold : ℕ) (segs : SegMap) (cover : BlockSet) → Apart (facts n (Lines threshold segs cover))
lines_apart n threshold segs cover =
    let test : Block → ℕ × Seg → Bool = λ b e. meets e.1 (square b) in
    let some : Block → ℕ × Seg → Fact = λ b e. IsMetBy b e.0 in
    let seg : ℕ × Seg → Fact = λ e. IsSegment e.0 e.1 in
    let es = finmap.entries segs in
    let bs = finset.items cover in
    let ofs : (b d : Block) (x y : ℕ × Seg) → some b x ≡ some d y → b ≡ d = λ b d x y e. cc in
    let nones : (b d : Block) → IsMetByNone b ≡ IsMetByNone d → b ≡ d = λ b d e. cc in
    let mixed : (b d : Block) (x : ℕ × Seg) → IsMetByNone b ≡ some d x → ⊥ = λ b d x e. cc in
    let one : (b : Block) (x y : ℕ × Seg) → Contains es x → Contains es y → some b x ≡ some b y → x ≡ y =
    λ b x y c d e. let p : x.0 ≡ y.0 = cc in let l = one_seg segs x.0 y.0 x.1 y.1 c d p in λ i. (p i, l i) in
    let here = Apart-rises (by_first nat_cmp) (on_total (λ (e : ℕ × Seg). e.0) nat_cmp_total) es (Rises-entries nat_cmp segs) in
    let there = Apart-rises block_cmp block_total bs (Rises-keys block_cmp cover) in
    let of_block : (f : Fact) → Contains (flat_map (line_facts segs) bs) f → (b : Block) × ((f ≡ IsMetByNone b) ⊎ ((x : ℕ × Seg) × (some b x ≡ f))) =
    λ f c. let m = Contains-flat_map_from (line_facts segs) bs f c in (m.0, on_from test IsMetByNone some es bs ofs nones mixed one here there m.0 f m.2) in (
      λ c. ⊎_elim
          (λ s. let m = Contains-map_from seg es (IsOfKind 3 threshold) s in let e = m.2 in cc)
          (λ d. let m = of_block (IsOfKind 3 threshold) d in ⊎_elim (λ e. cc) (λ x. let e = x.1 in cc) m.1)
          (Contains-append_cases (map seg es) (flat_map (line_facts segs) bs) (IsOfKind 3 threshold) c),
      Apart-append (map seg es) (flat_map (line_facts segs) bs)
          (Apart-map seg es (λ x y _ _ e. let p : x.0 ≡ y.0 = cc in let l : x.1 ≡ y.1 = cc in λ i. (p i, l i)) here)
          (blocks_apart test IsMetByNone some es bs ofs nones mixed one here there)
          (λ f s d.
          let k = Contains-map_from seg es f s in
          let w = k.2 in
          let m = of_block f d in
          ⊎_elim (λ e. cc) (λ x. let e = x.1 in cc) m.1),
    )

-- no fact of a layer stands twice in its list
pub facts_apart : (n : ℕ) (layer : Layer) → Apart (facts n layer)
facts_apart n (Region grid) = region_apart n grid
facts_apart n (Points capacity points) = points_apart n capacity points
facts_apart n (Lines threshold segs cover) = lines_apart n threshold segs cover
