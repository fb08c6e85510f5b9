-- The facts of a point layer: each is on one of its blocks, and says of it what is true.
use Rattle.std.proofs.Common.{◌≡◌, ℕ, ◌⊎◌, Bool, true, List, [], map, refl, sym, ◌∙◌, subst, inl, inr, ⊎_elim, Contains, filter, flat_map}
use Rattle.std.specs.FinMap as finmap
use Rattle.quilt_types.specs.declared.plane.Pixel.{Pixel}
use Rattle.quilt_types.specs.declared.plane.Block.{Block}
use Rattle.quilt_types.specs.Plane.{in_block}
use Rattle.quilt_types.specs.Layers.{Points, PointMap}
use Rattle.quilt_types.specs.Quadtrees.{holds_few, point_blocks}
use Rattle.quilt_types.specs.Facts.{Fact, IsOfKind, HoldsPoint, HoldsNoPoint, point_facts, facts}
use Rattle.quilt_loc.proofs.Members.{Contains-nil, Contains-here, Contains-there, Contains-cons_cases, Contains-map, Contains-map_from, Contains-filter}
use Rattle.quilt_loc.proofs.Members.{Contains-filter_from, Contains-flat_map, Contains-flat_map_from}
use Rattle.quilt_spell.proofs.facts.FactMembers.{or_none_member, or_none_some, or_none_none}
use Rattle.quilt_blocks.proofs.Maximal.{IsMaximal, IsMaximal-from, Contains-maximal}

-- no point of the block
abbrev pub IsBare : PointMap → Block → Type 0
IsBare points b = (q : Pixel) (k : ℕ) → Contains (finmap.entries points) (q, k) → in_block b q ≡ true → ⊥

-- the fact is one of the block's
abbrev pub IsOn : PointMap → Block → Fact → Type 0
IsOn points b (HoldsPoint d q k) = (d ≡ b) × Contains (finmap.entries points) (q, k) × (in_block b q ≡ true)
IsOn points b (HoldsNoPoint d) = (d ≡ b) × IsBare points b
IsOn points b f = ⊥

pub on_one : (points others : PointMap) (b d : Block) (f : Fact) → IsOn points b f → IsOn others d f → b ≡ d
on_one points others b d (HoldsPoint x q k) h g = sym h.0 ∙ g.0
on_one points others b d (HoldsNoPoint x) h g = sym h.0 ∙ g.0
on_one points others b d f h g = absurd h

nothing_in : (fs : List Fact) → fs ≡ [] → (f : Fact) → Contains fs f → ⊥
nothing_in fs e f c = Contains-nil f (subst (λ (l : List Fact). Contains l f) e c)

module _ (points : PointMap) (b : Block) where
  abbrev test : Pixel × ℕ → Bool
  test e = in_block b e.0

  abbrev fact : Pixel × ℕ → Fact
  fact e = HoldsPoint b e.0 e.1

  pub on_from : (f : Fact) → Contains (point_facts points b) f → IsOn points b f
  on_from f c =
      let es = finmap.entries points in
      ⊎_elim
      (λ no.
      let said : IsOn points b (HoldsNoPoint b) = (
        refl,
        λ q k m t. nothing_in (map fact (filter test es)) no.1 (HoldsPoint b q k)
            (Contains-map fact (filter test es) (q, k) (Contains-filter test es (q, k) m t)),
      ) in
      subst (IsOn points b) (sym no.0) said)
      (λ has.
      let e = Contains-map_from fact (filter test es) f has in
      let k = Contains-filter_from test es e.0 e.1 in
      let said : IsOn points b (fact e.0) = (refl, k.0, k.1) in
      subst (IsOn points b) e.2 said)
      (or_none_member (HoldsNoPoint b) (map fact (filter test es)) f c)

  pub on_is : (f : Fact) → IsOn points b f → Contains (point_facts points b) f
  on_is (HoldsPoint d q k) h =
      let es = finmap.entries points in
      subst (λ (z : Block). Contains (point_facts points b) (HoldsPoint z q k)) (sym h.0)
      (or_none_some (HoldsNoPoint b) (map fact (filter test es)) (HoldsPoint b q k)
      (Contains-map fact (filter test es) (q, k) (Contains-filter test es (q, k) h.1 h.2)))
  on_is (HoldsNoPoint d) h =
      let es = finmap.entries points in
      subst (λ (z : Block). Contains (point_facts points b) (HoldsNoPoint z)) (sym h.0)
      (or_none_none (HoldsNoPoint b) (map fact (filter test es)) (λ f c.
      let e = Contains-map_from fact (filter test es) f c in
      let k = Contains-filter_from test es e.0 e.1 in
      h.1 e.0.0 e.0.1 k.0 k.1))
  on_is f h = absurd h

-- a fact of the layer other than its kind
pub record OfBlock (n capacity : ℕ) (points : PointMap) (f : Fact) : Type 0 where
  pub block : Block
  pub maximal : IsMaximal n (holds_few capacity points) block
  pub on : IsOn points block f

module _ (n capacity : ℕ) (points : PointMap) where
  pub fact_from : (f : Fact) → Contains (facts n (Points capacity points)) f → (f ≡ IsOfKind 2 capacity) ⊎ OfBlock n capacity points f
  unfolding point_blocks
  fact_from f c =
      ⊎_elim (λ e. inl (sym e))
      (λ d.
      let m = Contains-flat_map_from (point_facts points) (point_blocks n capacity points) f d in
      inr (record { block = m.0; maximal = IsMaximal-from n (holds_few capacity points) m.0 m.1; on = on_from points m.0 f m.2 }))
      (Contains-cons_cases (IsOfKind 2 capacity) (flat_map (point_facts points) (point_blocks n capacity points)) f c)

  pub kind_is : (f : Fact) → f ≡ IsOfKind 2 capacity → Contains (facts n (Points capacity points)) f
  kind_is f e = subst (Contains (facts n (Points capacity points))) (sym e)
      (Contains-here (IsOfKind 2 capacity) (flat_map (point_facts points) (point_blocks n capacity points)))

  pub fact_is : (f : Fact) → OfBlock n capacity points f → Contains (facts n (Points capacity points)) f
  unfolding point_blocks
  fact_is f h =
      Contains-there (IsOfKind 2 capacity) (flat_map (point_facts points) (point_blocks n capacity points)) f
      (Contains-flat_map (point_facts points) (point_blocks n capacity points) h.block f
      (Contains-maximal n (holds_few capacity points) h.block h.maximal) (on_is points h.block f h.on))
