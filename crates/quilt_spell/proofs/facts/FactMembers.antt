-- The facts of a layer: what each says, that none stands twice, and that the keys of their records differ.
use Rattle.std.proofs.Common.{◌≡◌, ℕ, Bool, true, not, ◌||◌, ◌⊎◌, List, [], ◌∷◌, ◌++◌, map, refl, sym, ◌∙◌, ap, subst, inl, inr, ⊎_elim, Contains, filter}
use Rattle.std.proofs.Common.{flat_map}
use Rattle.std.specs.FinMap as finmap
use Rattle.std.proofs.lemmas.Bool.{and_parts}
use Rattle.std.proofs.lemmas.List.Elements.{All-contains, Contains-append_cases}
use Rattle.quilt_types.specs.Sets as finset
use Rattle.quilt_types.specs.declared.plane.Block.{Block}
use Rattle.quilt_types.specs.declared.plane.Pixel.{Pixel}
use Rattle.quilt_types.specs.declared.plane.Seg.{Seg}
use Rattle.quilt_types.specs.Plane.{parent_of, blocks, in_block, IsBlock}
use Rattle.quilt_types.specs.Layers.{Layer, Region, Points, Lines, Grid, PointMap, SegMap, BlockSet, IsLayer, IsLineMap}
use Rattle.quilt_types.specs.Facts.{Fact, IsOfKind, HasColour, HoldsPoint, HoldsNoPoint, IsSegment, IsMetBy, IsMetByNone, or_none, point_facts, line_facts}
use Rattle.quilt_types.specs.Facts.{facts}
use Rattle.quilt_types.specs.Quadtrees.{is_whole, is_maximal, maximal_blocks, is_uniform, coloured, leaves, holds_few, point_blocks}
use Rattle.quilt_types.specs.Segments.{square, meets}
use Rattle.quilt_spell.specs.LayerFacts.{LayerSays, RegionSays, PointsSay, LinesSay}
use Rattle.quilt_loc.proofs.Members.{Contains-nil, Contains-here, Contains-cons_cases, Contains-map, Contains-map_from, Contains-filter, Contains-filter_from}
use Rattle.quilt_loc.proofs.Members.{Contains-flat_map_from}
use Rattle.quilt_loc.proofs.Blocks.{IsBlock-from}
use Rattle.quilt_types.proofs.Lists.{nothing_in}

-- ---- members
pub passing_block : (n : ℕ) (fits : Block → Bool) (b : Block) → Contains (maximal_blocks n fits) b → IsBlock n b × (fits b ≡ true)
unfolding maximal_blocks
passing_block n fits b c =
    let k = Contains-filter_from (is_maximal n fits) (blocks n) b c in
    (IsBlock-from n b k.0, (and_parts (fits b) (is_whole n b || not (fits (parent_of b))) k.1).0)

pub or_none_member : (none : Fact) (fs : List Fact) (f : Fact) → Contains (or_none none fs) f → ((f ≡ none) × (fs ≡ [])) ⊎ Contains fs f
or_none_member none [] f c = ⊎_elim (λ e. inl (sym e, refl)) (λ d. absurd (Contains-nil f d)) (Contains-cons_cases none [] f c)
or_none_member none (g ∷ fs) f c = inr c

pub or_none_some : (none : Fact) (fs : List Fact) (f : Fact) → Contains fs f → Contains (or_none none fs) f
or_none_some none [] f c = absurd (Contains-nil f c)
or_none_some none (g ∷ fs) f c = c

pub or_none_none : (none : Fact) (fs : List Fact) → ((f : Fact) → Contains fs f → ⊥) → Contains (or_none none fs) none
or_none_none none [] h = Contains-here none []
or_none_none none (g ∷ fs) h = absurd (h g (Contains-here g fs))

region_says : (n : ℕ) (grid : Grid) (f : Fact) → Contains (facts n (Region grid)) f → RegionSays n grid f
unfolding leaves
region_says n grid f c =
    let fact : Block × ℕ → Fact = λ leaf. HasColour leaf.0 leaf.1 in
    ⊎_elim
    (λ e. subst (RegionSays n grid) e (refl, refl))
    (λ d.
    let l = Contains-map_from fact (leaves n grid) f d in
    let b = Contains-map_from (coloured n grid) (maximal_blocks n (is_uniform n grid)) l.0 l.1 in
    let is = (passing_block n (is_uniform n grid) b.0 b.1).0 in
    let said : RegionSays n grid (fact (coloured n grid b.0)) = (is, refl) in
    subst (RegionSays n grid) (ap fact b.2 ∙ l.2) said)
    (Contains-cons_cases (IsOfKind 1 0) (map fact (leaves n grid)) f c)

points_say : (n capacity : ℕ) (points : PointMap) (f : Fact) → Contains (facts n (Points capacity points)) f → PointsSay n capacity points f
unfolding point_blocks
points_say n capacity points f c =
    let there = finmap.entries points in
    let fact : Block → Pixel × ℕ → Fact = λ b e. HoldsPoint b e.0 e.1 in
    ⊎_elim
    (λ e. subst (PointsSay n capacity points) e (refl, refl))
    (λ d.
    let m = Contains-flat_map_from (point_facts points) (point_blocks n capacity points) f d in
    let b = m.0 in
    let test : Pixel × ℕ → Bool = λ e. in_block b e.0 in
    let is = passing_block n (holds_few capacity points) b m.1 in
    ⊎_elim
    (λ no.
    let said : PointsSay n capacity points (HoldsNoPoint b) = (
      is.0,
      λ p label k t. nothing_in (map (fact b) (filter test there)) no.1 (fact b (p, label))
          (Contains-map (fact b) (filter test there) (p, label) (Contains-filter test there (p, label) k t)),
    ) in
    subst (PointsSay n capacity points) (sym no.0) said)
    (λ has.
    let e = Contains-map_from (fact b) (filter test there) f has in
    let k = Contains-filter_from test there e.0 e.1 in
    let said : PointsSay n capacity points (HoldsPoint b e.0.0 e.0.1) = (is.0, is.1, k.0, k.1) in
    subst (PointsSay n capacity points) e.2 said)
    (or_none_member (HoldsNoPoint b) (map (fact b) (filter test there)) f m.2))
    (Contains-cons_cases (IsOfKind 2 capacity) (flat_map (point_facts points) (point_blocks n capacity points)) f c)

lines_say : (n threshold : ℕ) (segs : SegMap) (cover : BlockSet) → IsLineMap n threshold segs cover → (f : Fact)
    → Contains (facts n (Lines threshold segs cover)) f → LinesSay n threshold segs f
lines_say n threshold segs cover h f c =
    let there = finmap.entries segs in
    let seg : ℕ × Seg → Fact = λ e. IsSegment e.0 e.1 in
    let fact : Block → ℕ × Seg → Fact = λ b e. IsMetBy b e.0 in
    ⊎_elim
    (λ e. subst (LinesSay n threshold segs) e (refl, refl))
    (λ d.
    ⊎_elim
    (λ s. let m = Contains-map_from seg there f s in let said : LinesSay n threshold segs (seg m.0) = m.1 in subst (LinesSay n threshold segs) m.2 said)
    (λ met.
    let m = Contains-flat_map_from (line_facts segs) (finset.items cover) f met in
    let b = m.0 in
    let test : ℕ × Seg → Bool = λ e. meets e.1 (square b) in
    let is = IsBlock-from n b (All-contains (Contains (blocks n)) (finset.items cover) b h.each m.1) in
    ⊎_elim
    (λ no.
    let said : LinesSay n threshold segs (IsMetByNone b) = (
      is,
      λ id s k t. nothing_in (map (fact b) (filter test there)) no.1 (fact b (id, s))
          (Contains-map (fact b) (filter test there) (id, s) (Contains-filter test there (id, s) k t)),
    ) in
    subst (LinesSay n threshold segs) (sym no.0) said)
    (λ has.
    let e = Contains-map_from (fact b) (filter test there) f has in
    let k = Contains-filter_from test there e.0 e.1 in
    let said : LinesSay n threshold segs (IsMetBy b e.0.0) = (is, (e.0.1, k.0, k.1)) in
    subst (LinesSay n threshold segs) e.2 said)
    (or_none_member (IsMetByNone b) (map (fact b) (filter test there)) f m.2))
    (Contains-append_cases (map seg there) (flat_map (line_facts segs) (finset.items cover)) f d))
    (Contains-cons_cases (IsOfKind 3 threshold) (map seg there ++ flat_map (line_facts segs) (finset.items cover)) f c)

pub layer_says : (form n : ℕ) (layer : Layer) → IsLayer form n layer → (f : Fact) → Contains (facts n layer) f → LayerSays n layer f
layer_says form n (Region grid) h f c = region_says n grid f c
layer_says form n (Points capacity points) h f c = points_say n capacity points f c
layer_says form n (Lines threshold segs cover) h f c = lines_say n threshold segs cover h f c
