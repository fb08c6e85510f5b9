-- The blocks after an addition: quarters of those that are cut, and all others.
use Rattle.std.proofs.Common.{◌≡◌, ℕ, ◌<◌, ◌⊎◌, Bool, true, false, cond, ◌&&◌, List, [], ◌∷◌, flat_map, nat_lt, refl, sym, ap, ◌∙◌, subst, inl, inr, ⊎_elim}
use Rattle.std.proofs.Common.{arith, Contains, ltb-true}
use Rattle.std.proofs.lemmas.Bool.{and_parts, both_ways}
use Rattle.quilt_types.specs.Sets as sets
use Rattle.quilt_types.specs.declared.plane.Block.{Block}
use Rattle.quilt_types.specs.declared.plane.Seg.{Seg}
use Rattle.quilt_types.specs.Plane.{quarters_of, corner, Holds}
use Rattle.quilt_types.specs.Layers.{SegMap, BlockSet}
use Rattle.quilt_types.specs.Segments.{square, meets}
use Rattle.quilt_types.specs.Quadtrees.{is_split, segs_meeting, after_add}
use Rattle.quilt_loc.proofs.Members.{Contains-nil, Contains-here, Contains-cons_cases, Contains-flat_map, Contains-flat_map_from}
use Rattle.quilt_loc.proofs.Nesting.{Within-holds, Holds-corner}
use Rattle.quilt_loc.proofs.Quartered.{quarters_are}
use Rattle.quilt_loc.proofs.PlaneOrders.{block_total}
use Rattle.quilt_spell.proofs.facts.FactKeys.{block_same}
use Rattle.quilt_line_laws.proofs.SetLaws.{items-from_list}
use Rattle.quilt_line_laws.proofs.Merges.{IsBlockCover}

-- two blocks of a cover, of which one lies in the other
pub one_of : (n : ℕ) (cover : BlockSet) (a b : Block) → IsBlockCover n cover → Contains (sets.items cover) a → Contains (sets.items cover) b
    → Holds b (corner a) → a ≡ b
one_of n cover a b h ca cb on =
    let ha = h.only a ca in
    h.covers.one (corner a) ha.in_x ha.in_y a b ca (Holds-corner n a ha) cb on

-- no quarter of a block of a cover is one of its blocks
pub fresh : (n : ℕ) (cover : BlockSet) (b q : Block) → IsBlockCover n cover → Contains (sets.items cover) b → 1 < b.side → Contains (quarters_of b) q
    → Contains (sets.items cover) q → ⊥
fresh n cover b q h cb wide c cq =
    let i = quarters_are n b q (h.only b cb) wide c in
    let half = i.half in
    let same = one_of n cover q b h cq cb (Within-holds q b (corner q) i.within (Holds-corner n q i.block)) in
    let e : q.side ≡ b.side = ap (λ (z : Block). z.side) same in
    absurd (omega arith)

-- what a test of a cut says
pub record IsCut (t : ℕ) (now : SegMap) (s : Seg) (b : Block) : Type 0 where
  pub met : meets s (square b) ≡ true
  pub wide : 1 < b.side
  pub over : t < segs_meeting now b

pub cut_says : (t : ℕ) (now : SegMap) (s : Seg) (b : Block) → is_split t now s b ≡ true → IsCut t now s b
cut_says t now s b e =
    let both = and_parts (meets s (square b) && nat_lt 1 b.side) (nat_lt t (segs_meeting now b)) e in
    let two = and_parts (meets s (square b)) (nat_lt 1 b.side) both.0 in
    record { met = two.0; wide = ltb-true 1 b.side two.1; over = ltb-true t (segs_meeting now b) both.1 }

module _ (n t : ℕ) (now : SegMap) (cover : BlockSet) (s : Seg) (h : IsBlockCover n cover) where
  abbrev pieces : Block → List Block
  pieces b = cond (is_split t now s b) (quarters_of b) (b ∷ [])

  abbrev Origin : Block → Type 0
  Origin q = ((b : Block) × Contains (sets.items cover) b × (is_split t now s b ≡ true) × Contains (quarters_of b) q)
      ⊎ (Contains (sets.items cover) q × (is_split t now s q ≡ false))

  origin : (b q : Block) → Contains (sets.items cover) b → (u : Bool) → is_split t now s b ≡ u → Contains (cond u (quarters_of b) (b ∷ [])) q → Origin q
  origin b q cb true e c = inl (b, cb, e, c)
  origin b q cb false e c =
      let is = ⊎_elim (λ w. w) (λ d. absurd (Contains-nil q d)) (Contains-cons_cases b [] q c) in
      inr (subst (Contains (sets.items cover)) is cb, ap (is_split t now s) (sym is) ∙ e)

  pub after_from : (q : Block) → Contains (sets.items (after_add t now cover s)) q → Origin q
  unfolding after_add
  after_from q c =
      let r = Contains-flat_map_from pieces (sets.items cover) q ((items-from_list block_total block_same (flat_map pieces (sets.items cover)) q).0 c) in
      origin r.0 q r.1 (is_split t now s r.0) refl r.2

  after_piece : (b q : Block) → Contains (sets.items cover) b → Contains (pieces b) q → Contains (sets.items (after_add t now cover s)) q
  unfolding after_add
  after_piece b q cb c =
      (items-from_list block_total block_same (flat_map pieces (sets.items cover)) q).1 (Contains-flat_map pieces (sets.items cover) b q cb c)

  pub after_quarter : (b q : Block) → Contains (sets.items cover) b → is_split t now s b ≡ true → Contains (quarters_of b) q
      → Contains (sets.items (after_add t now cover s)) q
  after_quarter b q cb e c = after_piece b q cb (subst (λ (u : Bool). Contains (cond u (quarters_of b) (b ∷ [])) q) (sym e) c)

  pub after_stays : (b : Block) → Contains (sets.items cover) b → is_split t now s b ≡ false → Contains (sets.items (after_add t now cover s)) b
  after_stays b cb e = after_piece b b cb (subst (λ (u : Bool). Contains (cond u (quarters_of b) (b ∷ [])) b) (sym e) (Contains-here b []))

  -- a quarter of a cut block is new, and the cut block is gone
  pub quarter_new : (b q : Block) → Contains (sets.items cover) b → is_split t now s b ≡ true → Contains (quarters_of b) q → Contains (sets.items cover) q → ⊥
  quarter_new b q cb e c cq = fresh n cover b q h cb (cut_says t now s b e).wide c cq

  pub cut_gone : (b : Block) → Contains (sets.items cover) b → is_split t now s b ≡ true → Contains (sets.items (after_add t now cover s)) b → ⊥
  cut_gone b cb e c = ⊎_elim (λ w. quarter_new w.0 b w.1 w.2 w.3 cb) (λ w. both_ways (is_split t now s b) w.1 e) (after_from b c)
