-- A layer is known by its facts.
use Rattle.std.proofs.Common.{◌≡◌, ◌↔◌, ℕ, ◌+◌, ◌*◌, ◌/◌, ◌%◌, ◌^◌, ◌<◌, ◌≤◌, Bool, true, nat_lt, List, [], ◌∷◌, ◌++◌, map, length, get_or, refl, sym, ◌∙◌, ap}
use Rattle.std.proofs.Common.{ap₂, subst, ⊎_elim, arith, Contains, filter, flat_map, eqb, eqb-true, eq-eqb, le-leb, ltb-true, Ordering, ext_get_or, pow_pos}
use Rattle.std.specs.Cmp.{IsTotalOrder, nat_cmp_total, on_total}
use Rattle.std.specs.FinMap as finmap
use Rattle.std.proofs.lemmas.Bool.{and_parts}
use Rattle.std.proofs.lemmas.Nat.{mod_below, div_below, div-add-mod'}
use Rattle.std.proofs.lemmas.List.Sums.{length-filter}
use Rattle.std.proofs.lemmas.List.Elements.{All-contains, Contains-append_left, Contains-append_right, Contains-append_cases}
use Rattle.quilt_types.specs.Sets as finset
use Rattle.quilt_types.specs.declared.plane.Block.{Block}
use Rattle.quilt_types.specs.declared.plane.Pixel.{Pixel}
use Rattle.quilt_types.specs.declared.plane.Seg.{Seg}
use Rattle.quilt_types.specs.Plane.{side, corner, pixels_of, in_block, Holds, pixel_cmp, is_pixel, pixel_at}
use Rattle.quilt_types.specs.Layers.{Layer, Region, Points, Lines, Grid, PointMap, SegMap, BlockSet, IsLayer, IsGrid, IsPointMap, IsLineMap, colour_at}
use Rattle.quilt_types.specs.Facts.{Fact, IsOfKind, HasColour, HoldsPoint, HoldsNoPoint, IsSegment, IsMetBy, IsMetByNone, or_none, point_facts, line_facts}
use Rattle.quilt_types.specs.Facts.{facts}
use Rattle.quilt_types.specs.Quadtrees.{maximal_blocks, is_uniform, coloured, leaves, holds_few, occupancy, point_blocks}
use Rattle.quilt_types.specs.Segments.{square, meets}
use Rattle.quilt_spell.specs.Apart.{Apart, SameMembers}
use Rattle.quilt_loc.proofs.Members.{Contains-nil, Contains-here, Contains-there, Contains-cons_cases, Contains-map, Contains-map_from, Contains-filter}
use Rattle.quilt_loc.proofs.Members.{Contains-filter_from, Contains-flat_map, Contains-flat_map_from, list_all-at, list_all-from}
use Rattle.quilt_loc.proofs.Rising.{same_rising}
use Rattle.quilt_loc.proofs.Blocks.{Contains-pixels_of, Contains-pixels_of_from, Holds-from, in_block-true}
use Rattle.quilt_loc.proofs.Nesting.{around}
use Rattle.quilt_loc.proofs.Around.{Holds-around}
use Rattle.quilt_spell.proofs.Holding.{held}
use Rattle.quilt_loc.proofs.PlaneOrders.{pixel_total, block_total}
use Rattle.quilt_spell.proofs.Lists.{Apart-filter, Apart-rises}
use Rattle.quilt_spell.proofs.Maps.{by_first, Rises-entries}
use Rattle.quilt_spell.proofs.facts.FactMembers.{layer_says, passing_block, or_none_member}
use Rattle.quilt_spell.proofs.facts.FactKeys.{one_label}
use Rattle.quilt_spell.proofs.OfLayer.{kind_there}

-- maps with the same entries
pub same_from_entries : {K X : Type 0} {R : K → K → Ordering} → IsTotalOrder R → (m n : finmap.FinMap R X)
    → SameMembers (finmap.entries m) (finmap.entries n) → m ≡ n
same_from_entries {R = R} o m n w =
    finmap.same_entries_map m n
    (same_rising (by_first R) (on_total (λ (e : _ × _). e.0) o) (finmap.entries m) (finmap.entries n) (Rises-entries R m) (Rises-entries R n) w)

-- ---- the pixel of a block of side 1
one_pixel : (p q : Pixel) → Holds (around (2 ^ 0) p) q → q ≡ p
one_pixel p q h =
    let on = Holds-around 0 p in
    let a = h.left in
    let b = h.right in
    let c = h.top in
    let d = h.bottom in
    let a' = on.left in
    let b' = on.right in
    let c' = on.top in
    let d' = on.bottom in
    let x : q.x ≡ p.x = omega arith in
    let y : q.y ≡ p.y = omega arith in
    λ i. record { x = x i; y = y i }

-- ---- regions
module _ (n : ℕ) (g : Grid) where
  uniform_says : (b : Block) (p : Pixel) → is_uniform n g b ≡ true → Holds b p → colour_at n g p ≡ colour_at n g (corner b)
  uniform_says b p u h =
      eqb-true (colour_at n g p) (colour_at n g (corner b))
      (list_all-at (λ q. eqb (colour_at n g q) (colour_at n g (corner b))) (pixels_of b) p u (Contains-pixels_of b p h))

  one_uniform : (p : Pixel) → is_uniform n g (around (2 ^ 0) p) ≡ true
  one_uniform p =
      let b = around (2 ^ 0) p in
      let on = Holds-around 0 p in
      let here : Holds b (corner b) =
      record { left = omega arith; right = omega arith; top = omega arith; bottom = omega arith } in
      list_all-from (λ q. eqb (colour_at n g q) (colour_at n g (corner b))) (pixels_of b)
      (λ q c. eq-eqb (colour_at n g q) (colour_at n g (corner b))
      (ap (colour_at n g) (one_pixel p q (Contains-pixels_of_from b q c) ∙ sym (one_pixel p (corner b) here))))

  leaf_says : (b : Block) (c : ℕ) → Contains (facts n (Region g)) (HasColour b c) → (is_uniform n g b ≡ true) × (c ≡ colour_at n g (corner b))
  unfolding leaves
  leaf_says b c k =
      let fact : Block × ℕ → Fact = λ leaf. HasColour leaf.0 leaf.1 in
      ⊎_elim (λ e. cc)
      (λ d.
      let l = Contains-map_from fact (leaves n g) (HasColour b c) d in
      let m = Contains-map_from (coloured n g) (maximal_blocks n (is_uniform n g)) l.0 l.1 in
      let is = passing_block n (is_uniform n g) m.0 m.1 in
      let same = ap fact m.2 ∙ l.2 in
      let x : m.0 ≡ b = cc in
      let y : colour_at n g (corner m.0) ≡ c = cc in
      (ap (is_uniform n g) (sym x) ∙ is.1, sym y ∙ ap (λ (z : Block). colour_at n g (corner z)) x))
      (Contains-cons_cases (IsOfKind 1 0) (map fact (leaves n g)) (HasColour b c) k)

  leaf_there : (b : Block) → Contains (maximal_blocks n (is_uniform n g)) b → Contains (facts n (Region g)) (HasColour b (colour_at n g (corner b)))
  unfolding leaves
  leaf_there b c =
      let fact : Block × ℕ → Fact = λ leaf. HasColour leaf.0 leaf.1 in
      Contains-there (IsOfKind 1 0) (map fact (leaves n g)) (HasColour b (colour_at n g (corner b)))
      (Contains-map fact (leaves n g) (coloured n g b) (Contains-map (coloured n g) (maximal_blocks n (is_uniform n g)) b c))

module _ (n : ℕ) (g h : Grid) (w : (f : Fact) → Contains (facts n (Region g)) f → Contains (facts n (Region h)) f) where
  same_colour : (p : Pixel) → p.x < 2 ^ n → p.y < 2 ^ n → colour_at n g p ≡ colour_at n h p
  same_colour p hx hy =
      let k = held n (is_uniform n g) p hx hy (one_uniform n g p) in
      let b = k.block in
      let there = leaf_there n g b k.maximal in
      let a = leaf_says n g b (colour_at n g (corner b)) there in
      let c = leaf_says n h b (colour_at n g (corner b)) (w (HasColour b (colour_at n g (corner b))) there) in
      uniform_says n g b p a.0 k.holds ∙ c.1 ∙ sym (uniform_says n h b p c.0 k.holds)

  region_same : (form : ℕ) → IsGrid form n g → IsGrid form n h → g ≡ h
  region_same form hg hh =
      let sg = hg.size in
      let sh = hh.size in
      let pos = pow_pos n in
      ext_get_or 0 g h (omega arith)
      (λ i lt.
      let inside : i < side n * side n = omega arith in
      let p = pixel_at n i in
      let e : i ≡ i / side n * side n + i % side n = sym (div-add-mod' i (side n)) in
      let c = same_colour p (mod_below i (side n) pos) (div_below i (side n) (side n) pos inside) in
      ap (λ k. get_or g k 0) e ∙ c ∙ ap (λ k. get_or h k 0) (sym e))

-- ---- points
pub few_if_one : {X : Type 0} (xs : List X) → Apart xs → ((x y : X) → Contains xs x → Contains xs y → x ≡ y) → length xs ≤ 1
few_if_one [] h one = omega arith
few_if_one (x ∷ []) h one = omega arith
few_if_one (x ∷ y ∷ ys) h one =
    absurd (h.0 (subst (Contains (y ∷ ys)) (one y x (Contains-there x (y ∷ ys) y (Contains-here y ys)) (Contains-here x (y ∷ ys))) (Contains-here y ys)))

module _ (n capacity : ℕ) (points : PointMap) where
  one_few : 1 ≤ capacity → (p : Pixel) → holds_few capacity points (around (2 ^ 0) p) ≡ true
  one_few least p =
      let b = around (2 ^ 0) p in
      let es = finmap.entries points in
      let test : Pixel × ℕ → Bool = λ e. in_block b e.0 in
      let apart = Apart-rises (by_first pixel_cmp) (on_total (λ (e : Pixel × ℕ). e.0) pixel_total) es (Rises-entries pixel_cmp points) in
      let few = few_if_one (filter test es) (Apart-filter test es apart)
      (λ d e c k.
      let u = Contains-filter_from test es d c in
      let v = Contains-filter_from test es e k in
      let at = one_pixel p d.0 (Holds-from b d.0 u.1) ∙ sym (one_pixel p e.0 (Holds-from b e.0 v.1)) in
      let label = one_label points d.0 e.0 d.1 e.1 u.0 v.0 at in
      λ i. (at i, label i)) in
      let count = length-filter test es in
      le-leb (occupancy points b) capacity (omega arith)

  point_there : 1 ≤ capacity → (e : Pixel × ℕ) → is_pixel n e.0 ≡ true → Contains (finmap.entries points) e
      → (b : Block) × Contains (facts n (Points capacity points)) (HoldsPoint b e.0 e.1)
  unfolding point_blocks
  point_there least e inside c =
      let p = e.0 in
      let in' = and_parts (nat_lt p.x (side n)) (nat_lt p.y (side n)) inside in
      let k = held n (holds_few capacity points) p (ltb-true p.x (side n) in'.0) (ltb-true p.y (side n) in'.1) (one_few least p) in
      let b = k.block in
      let test : Pixel × ℕ → Bool = λ e. in_block b e.0 in
      let fact : Pixel × ℕ → Fact = λ e. HoldsPoint b e.0 e.1 in
      let there = Contains-map fact (filter test (finmap.entries points)) e (Contains-filter test (finmap.entries points) e c (in_block-true b p k.holds)) in (
        b,
        Contains-there (IsOfKind 2 capacity) (flat_map (point_facts points) (point_blocks n capacity points)) (fact e)
            (Contains-flat_map (point_facts points) (point_blocks n capacity points) b (fact e) k.maximal
            (some_there (HoldsNoPoint b) (map fact (filter test (finmap.entries points))) (fact e) there)),
      )
    where
      some_there : (none : Fact) (fs : List Fact) (f : Fact) → Contains fs f → Contains (or_none none fs) f
      some_there none [] f c = absurd (Contains-nil f c)
      some_there none (g ∷ fs) f c = c

-- ---- lines
module _ (n threshold : ℕ) (segs : SegMap) (cover : BlockSet) where
  seg_there : (e : ℕ × Seg) → Contains (finmap.entries segs) e → Contains (facts n (Lines threshold segs cover)) (IsSegment e.0 e.1)
  seg_there e c =
      let seg : ℕ × Seg → Fact = λ e. IsSegment e.0 e.1 in
      Contains-there (IsOfKind 3 threshold) (map seg (finmap.entries segs) ++ flat_map (line_facts segs) (finset.items cover)) (seg e)
      (Contains-append_left (map seg (finmap.entries segs)) (flat_map (line_facts segs) (finset.items cover)) (seg e)
      (Contains-map seg (finmap.entries segs) e c))

  on_block : Fact → Block → Type 0
  on_block (IsMetBy d i) b = d ≡ b
  on_block (IsMetByNone d) b = d ≡ b
  on_block f b = ⊥

  line_fact_on : (b : Block) (f : Fact) → Contains (line_facts segs b) f → on_block f b
  unfolding on_block
  line_fact_on b f c =
      let test : ℕ × Seg → Bool = λ e. meets e.1 (square b) in
      let fact : ℕ × Seg → Fact = λ e. IsMetBy b e.0 in
      ⊎_elim (λ e. subst (λ g. on_block g b) (sym e.0) refl)
      (λ d. let m = Contains-map_from fact (filter test (finmap.entries segs)) f d in subst (λ g. on_block g b) m.2 refl)
      (or_none_member (IsMetByNone b) (map fact (filter test (finmap.entries segs))) f c)

  some_fact : (b : Block) → (f : Fact) × Contains (line_facts segs b) f
  some_fact b = first (IsMetByNone b) (map (λ e. IsMetBy b e.0) (filter (λ e. meets e.1 (square b)) (finmap.entries segs)))
    where
      first : (none : Fact) (fs : List Fact) → (f : Fact) × Contains (or_none none fs) f
      first none [] = (none, Contains-here none [])
      first none (g ∷ fs) = (g, Contains-here g fs)

  block_there : (b : Block) → Contains (finset.items cover) b → (f : Fact) × on_block f b × Contains (facts n (Lines threshold segs cover)) f
  block_there b c =
      let seg : ℕ × Seg → Fact = λ e. IsSegment e.0 e.1 in
      let s = some_fact b in (
        s.0,
        line_fact_on b s.0 s.1,
        Contains-there (IsOfKind 3 threshold) (map seg (finmap.entries segs) ++ flat_map (line_facts segs) (finset.items cover)) s.0
            (Contains-append_right (map seg (finmap.entries segs)) (flat_map (line_facts segs) (finset.items cover)) s.0
            (Contains-flat_map (line_facts segs) (finset.items cover) b s.0 c s.1)),
      )

  one_on : (f : Fact) (a b : Block) → on_block f a → on_block f b → a ≡ b
  unfolding on_block
  one_on (IsMetBy d i) a b h k = sym h ∙ k
  one_on (IsMetByNone d) a b h k = sym h ∙ k
  one_on f a b h k = absurd h

  block_from : (b : Block) (f : Fact) → on_block f b → Contains (facts n (Lines threshold segs cover)) f → Contains (finset.items cover) b
  unfolding on_block
  block_from b f h c =
      let seg : ℕ × Seg → Fact = λ e. IsSegment e.0 e.1 in
      ⊎_elim (λ e. absurd (subst (λ g. on_block g b) (sym e) h))
      (λ d. ⊎_elim
      (λ s. let m = Contains-map_from seg (finmap.entries segs) f s in absurd (subst (λ g. on_block g b) (sym m.2) h))
      (λ k.
      let m = Contains-flat_map_from (line_facts segs) (finset.items cover) f k in
      subst (Contains (finset.items cover)) (one_on f m.0 b (line_fact_on m.0 f m.2) h) m.1)
      (Contains-append_cases (map seg (finmap.entries segs)) (flat_map (line_facts segs) (finset.items cover)) f d))
      (Contains-cons_cases (IsOfKind 3 threshold) (map seg (finmap.entries segs) ++ flat_map (line_facts segs) (finset.items cover)) f c)

-- ---- layers with the same facts
Follows : ℕ → Layer → Layer → Type 0
Follows n l m = (f : Fact) → Contains (facts n l) f → Contains (facts n m) f

point_goes : (form n a b : ℕ) (points others : PointMap) → IsPointMap form n a points → IsPointMap form n b others
    → Follows n (Points a points) (Points b others)
    → (e : Pixel × ℕ) → Contains (finmap.entries points) e → Contains (finmap.entries others) e
unfolding Follows
point_goes form n a b points others h k w e c =
    let inside = All-contains (λ (e : Pixel × ℕ). is_pixel n e.0 ≡ true) (finmap.entries points) e h.inside c in
    let there = point_there n a points h.least e inside c in
    (layer_says form n (Points b others) k (HoldsPoint there.0 e.0 e.1) (w (HoldsPoint there.0 e.0 e.1) there.1)).2

seg_goes : (form n s t : ℕ) (segs others : SegMap) (cover blocks : BlockSet) → IsLineMap n t others blocks
    → Follows n (Lines s segs cover) (Lines t others blocks)
    → (e : ℕ × Seg) → Contains (finmap.entries segs) e → Contains (finmap.entries others) e
unfolding Follows
seg_goes form n s t segs others cover blocks k w e c =
    layer_says form n (Lines t others blocks) k (IsSegment e.0 e.1) (w (IsSegment e.0 e.1) (seg_there n s segs cover e c))

block_goes : (n s t : ℕ) (segs others : SegMap) (cover blocks : BlockSet) → Follows n (Lines s segs cover) (Lines t others blocks)
    → (b : Block) → Contains (finset.items cover) b → Contains (finset.items blocks) b
unfolding Follows on_block
block_goes n s t segs others cover blocks w b c =
    let k = block_there n s segs cover b c in
    block_from n t others blocks b k.0 k.1 (w k.0 k.2)

item_entry : (s : BlockSet) (e : Block × Unit {0}) → Contains (finmap.entries s) e ↔ Contains (finset.items s) e.0
item_entry s e = (
  λ c. Contains-map (λ (d : Block × Unit {0}). d.0) (finmap.entries s) e c,
  λ c.
      let m = Contains-map_from (λ (d : Block × Unit {0}). d.0) (finmap.entries s) e.0 c in
      let pair : m.0 ≡ e = λ i. (m.2 i, tt) in
      subst (Contains (finmap.entries s)) pair m.1,
)

abbrev pub kind_of : Layer → ℕ
kind_of (Region grid) = 1
kind_of (Points capacity points) = 2
kind_of (Lines threshold segs cover) = 3

kind_said : (form n : ℕ) (m : Layer) → IsLayer form n m → (i j : ℕ) → Contains (facts n m) (IsOfKind i j) → i ≡ kind_of m
kind_said form n (Region grid) h i j c = (layer_says form n (Region grid) h (IsOfKind i j) c).0
kind_said form n (Points capacity points) h i j c = (layer_says form n (Points capacity points) h (IsOfKind i j) c).0
kind_said form n (Lines threshold segs cover) h i j c = (layer_says form n (Lines threshold segs cover) h (IsOfKind i j) c).0

kinds_same : (form n : ℕ) (l m : Layer) → IsLayer form n m → Follows n l m → kind_of l ≡ kind_of m
unfolding Follows
kinds_same form n (Region grid) m h w = kind_said form n m h 1 0 (w (IsOfKind 1 0) (kind_there n (Region grid)))
kinds_same form n (Points capacity points) m h w = kind_said form n m h 2 capacity (w (IsOfKind 2 capacity) (kind_there n (Points capacity points)))
kinds_same form n (Lines threshold segs cover) m h w = kind_said form n m h 3 threshold (w (IsOfKind 3 threshold) (kind_there n (Lines threshold segs cover)))

-- a layer is known by its facts
pub layer_same : (form n : ℕ) (l m : Layer) → IsLayer form n l → IsLayer form n m → ((f : Fact) → Contains (facts n l) f → Contains (facts n m) f)
    → ((f : Fact) → Contains (facts n m) f → Contains (facts n l) f) → l ≡ m
unfolding Follows
layer_same form n (Region g) (Region h) hl hm w v = ap Region (region_same n g h w form hl hm)
layer_same form n (Points a points) (Points b others) hl hm w v =
    let capacity : a ≡ b = (layer_says form n (Points b others) hm (IsOfKind 2 a) (w (IsOfKind 2 a) (kind_there n (Points a points)))).1 in
    let same =
    same_from_entries pixel_total points others (λ e. (point_goes form n a b points others hl hm w e, point_goes form n b a others points hm hl v e)) in
    ap₂ Points capacity same
layer_same form n (Lines s segs cover) (Lines t others blocks) hl hm w v =
    let threshold : s ≡ t = (layer_says form n (Lines t others blocks) hm (IsOfKind 3 s) (w (IsOfKind 3 s) (kind_there n (Lines s segs cover)))).1 in
    let same = same_from_entries nat_cmp_total segs others
    (λ e. (seg_goes form n s t segs others cover blocks hm w e, seg_goes form n t s others segs blocks cover hl v e)) in
    let covers = same_from_entries block_total cover blocks
    (λ e. (
      λ c. (item_entry blocks e).1 (block_goes n s t segs others cover blocks w e.0 ((item_entry cover e).0 c)),
      λ c. (item_entry cover e).1 (block_goes n t s others segs blocks cover v e.0 ((item_entry blocks e).0 c)),
    )) in
    λ i. Lines (threshold i) (same i) (covers i)
layer_same form n l m hl hm w v = absurd (let z = kinds_same form n l m hm w in omega arith)
