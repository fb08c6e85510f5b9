-- The leaves of a grid, and what makes a list of coloured blocks have exactly them.
use Rattle.std.proofs.Common.{◌≡◌, ℕ, ◌+◌, ◌≤◌, true, ◌↔◌, List, map, refl, sym, ◌∙◌, ap, subst, arith, Contains, ⊎_elim, cond, All, ◌/◌}
use Rattle.std.proofs.lemmas.Bool.{cases_lt}
use Rattle.std.proofs.lemmas.List.Elements.{All-contains, All-from_recursion}
use Rattle.std.proofs.lemmas.List.Folds.{fold-map}
use Rattle.quilt_types.specs.declared.plane.Block.{Block}
use Rattle.quilt_types.specs.Plane.{blocks, in_block, quarters_of, corner, whole, IsBlock, Within}
use Rattle.quilt_types.specs.Layers.{Grid, colour_at}
use Rattle.quilt_types.specs.Quadtrees.{is_uniform, maximal_blocks, coloured, leaves}
use Rattle.quilt_blocks.specs.Cutting.{cut}
use Rattle.quilt_blocks.specs.Mosaic.{HasColour, IsMosaic}
use Rattle.quilt_loc.proofs.Members.{Contains-map, Contains-map_from}
use Rattle.quilt_loc.proofs.Blocks.{in_block-true, IsBlock-from}
use Rattle.quilt_loc.proofs.Nesting.{side_pos}
use Rattle.quilt_loc.proofs.Quartered.{quarters_are}
use Rattle.quilt_blocks.proofs.Colours.{HasColour-from_uniform, uniform-from_HasColour, HasColour-within, colour_is}
use Rattle.quilt_blocks.proofs.Maximal.{GoesDown, IsTiling, maximal_are, cut_is}

pub uniform_down : (n : ℕ) (g : Grid) → GoesDown n (is_uniform n g)
uniform_down n g = record {
  down = λ a b ha hb w u. uniform-from_HasColour n g a _ ha (HasColour-within n g a b (colour_at n g (corner b)) w (HasColour-from_uniform n g b u));
}

pub uniform_pixel : (n : ℕ) (g : Grid) (b : Block) → IsBlock n b → b.side ≡ 1 → is_uniform n g b ≡ true
uniform_pixel n g b hb e = uniform-from_HasColour n g b (colour_at n g (corner b)) hb (record {
  each = λ p h.
      let l = h.left in let r = h.right in let t = h.top in let d = h.bottom in
      let ex : p.x ≡ b.x = omega arith in
      let ey : p.y ≡ b.y = omega arith in
      λ i. colour_at n g (record { x = ex i; y = ey i });
})

-- what the recursion over quarters finds
pub cut_leaves : (n : ℕ) (g : Grid) (e : Block × ℕ) → Contains (map (coloured n g) (cut (is_uniform n g) n (whole n))) e ↔ Contains (leaves n g) e
unfolding leaves
cut_leaves n g e =
    let law = cut_is n (is_uniform n g) (uniform_down n g) (uniform_pixel n g) in
    let cuts = cut (is_uniform n g) n (whole n) in (
      λ c. let r = Contains-map_from (coloured n g) cuts e c in
          subst (Contains (leaves n g)) r.2 (Contains-map (coloured n g) (maximal_blocks n (is_uniform n g)) r.0 ((law r.0).0 r.1)),
      λ c. let r = Contains-map_from (coloured n g) (maximal_blocks n (is_uniform n g)) e c in
          subst (Contains (map (coloured n g) cuts)) r.2 (Contains-map (coloured n g) cuts r.0 ((law r.0).1 r.1)),
    )

-- a pixel has no quarters that are blocks
quarter_sides : (b : Block) → All (λ (z : Block). z.side ≡ b.side / 2) (quarters_of b)
quarter_sides b = All-from_recursion (λ (z : Block). z.side ≡ b.side / 2) (quarters_of b) (refl, (refl, (refl, (refl, tt))))

no_quarter : {n : ℕ} (b q : Block) → IsBlock n q → b.side ≤ 1 → Contains (quarters_of b) q → ⊥
no_quarter {n} b q hq thin c =
    let pos = side_pos n q hq in
    let s : q.side ≡ b.side / 2 = All-contains (λ (z : Block). z.side ≡ b.side / 2) (quarters_of b) q (quarter_sides b) c in
    omega arith

module _ (n : ℕ) (g : Grid) (es : List (Block × ℕ)) (m : IsMosaic n g es) where
  abbrev block_in : Block × ℕ → Block
  block_in e = e.0

  has : (e : Block × ℕ) → Contains es e → HasColour n g e.0 e.1
  has e c = record { each = λ p h. m.same_colour e c p (in_block-true e.0 p h) }

  is_coloured : (e : Block × ℕ) → Contains es e → coloured n g e.0 ≡ e
  is_coloured e c = let ce = colour_is n g e.0 e.1 (IsBlock-from n e.0 (m.blocks_only e c)) (has e c) in λ i. (e.0, ce i)

  tiling : IsTiling n (is_uniform n g) (map block_in es)
  tiling = record {
    blocks_only = λ b c. let r = Contains-map_from block_in es b c in subst (Contains (blocks n)) r.2 (m.blocks_only r.0 r.1);
    passing = λ b c.
        let r = Contains-map_from block_in es b c in
        subst (λ (z : Block). is_uniform n g z ≡ true) r.2
        (uniform-from_HasColour n g (r.0).0 (r.0).1 (IsBlock-from n (r.0).0 (m.blocks_only r.0 r.1)) (has r.0 r.1));
    cover = λ p h. fold-map (λ a b. a + cond (in_block b p) 1 0) block_in 0 es ∙ m.cover p h;
    unmerged = λ b cb u all.
        let hb = IsBlock-from n b cb in
        m.unmerged b (colour_at n g (corner b)) cb (λ q cq.
        let r = Contains-map_from block_in es q (all q cq) in
        let hr = IsBlock-from n (r.0).0 (m.blocks_only r.0 r.1) in
        let hq : IsBlock n q = subst (IsBlock n) r.2 hr in
        let w : Within q b = ⊎_elim (λ wide. (quarters_are n b q hb wide cq).within) (λ thin. absurd (no_quarter b q hq thin cq)) (cases_lt 1 b.side) in
        let ce : colour_at n g (corner q) ≡ colour_at n g (corner b) = colour_is n g q _ hq (HasColour-within n g q b _ w (HasColour-from_uniform n g b u)) in
        let is : r.0 ≡ (q, colour_at n g (corner b)) = sym (is_coloured r.0 r.1) ∙ ap (coloured n g) r.2 ∙ (λ i. (q, ce i)) in
        subst (Contains es) is r.1);
  }

  -- a mosaic has exactly the leaves
  pub leaves_are : (e : Block × ℕ) → Contains es e ↔ Contains (leaves n g) e
  unfolding leaves
  leaves_are e =
      let law = maximal_are n (is_uniform n g) (uniform_down n g) (map block_in es) tiling in (
        λ c. subst (Contains (leaves n g)) (is_coloured e c)
            (Contains-map (coloured n g) (maximal_blocks n (is_uniform n g)) e.0 ((law e.0).0 (Contains-map block_in es e c))),
        λ c.
            let r = Contains-map_from (coloured n g) (maximal_blocks n (is_uniform n g)) e c in
            let d = Contains-map_from block_in es r.0 ((law r.0).1 r.1) in
            subst (Contains es) (sym (is_coloured d.0 d.1) ∙ ap (coloured n g) d.2 ∙ r.2) d.1,
      )
