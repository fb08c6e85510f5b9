-- The recursion over quarters on a list of points gives the facts of the blocks that the definition has.
use Rattle.std.proofs.Common.{◌≡◌, ℕ, zero, suc, ◌^◌, Bool, true, false, cond, nat_le, List, [], ◌∷◌, ◌++◌, length, refl, sym, ◌∙◌, ap, arith}
use Rattle.std.proofs.Common.{filter, flat_map, pow-suc, pow_pos}
use Rattle.std.specs.FinMap as finmap
use Rattle.std.proofs.lemmas.List.Sums.{length-filter}
use Rattle.std.proofs.lemmas.List.Concat.{flat_map-append}
use Rattle.quilt_types.specs.declared.plane.Block.{Block}
use Rattle.quilt_types.specs.declared.plane.Pixel.{Pixel}
use Rattle.quilt_types.specs.Plane.{in_block, quarters_of, IsBlock, Within}
use Rattle.quilt_types.specs.Layers.{PointMap}
use Rattle.quilt_types.specs.Quadtrees.{holds_few}
use Rattle.quilt_types.specs.Facts.{point_facts}
use Rattle.quilt_blocks.specs.Cutting.{cut}
use Rattle.quilt_point_laws.specs.Spreading.{spread}
use Rattle.quilt_loc.proofs.Blocks.{Holds-from, in_block-true}
use Rattle.quilt_loc.proofs.Nesting.{Within-holds}
use Rattle.quilt_loc.proofs.Quartered.{quarters_are}
use Rattle.quilt_types.proofs.Lists.{filter_twice, flat_map_same}

flat_map_twice : {X Y Z : Type 0} (f : Y → List Z) (g : X → List Y) (xs : List X) → flat_map f (flat_map g xs) ≡ flat_map (λ x. flat_map f (g x)) xs
flat_map_twice f g [] = refl
flat_map_twice f g (x ∷ xs) = flat_map-append f (g x) (flat_map g xs) ∙ ap (λ l. flat_map f (g x) ++ l) (flat_map_twice f g xs)

append_nil : {Y : Type 0} (ys : List Y) → ys ++ [] ≡ ys
append_nil [] = refl
append_nil (y ∷ ys) = ap (λ l. y ∷ l) (append_nil ys)

module _ (n capacity : ℕ) (points : PointMap) where
  abbrev held : Block → List (Pixel × ℕ)
  held b = filter (λ e. in_block b e.0) (finmap.entries points)

  in_quarter : (b r : Block) → Within r b → filter (λ (e : Pixel × ℕ). in_block r e.0) (held b) ≡ held r
  in_quarter b r w = filter_twice (λ (e : Pixel × ℕ). in_block b e.0) (λ (e : Pixel × ℕ). in_block r e.0)
      (λ e t. in_block-true b e.0 (Within-holds r b e.0 w (Holds-from r e.0 t))) (finmap.entries points)

  spread_step : (k : ℕ) (b : Block) → IsBlock n b → b.side ≡ 2 ^ suc k
      → ((r : Block) → IsBlock n r → r.side ≡ 2 ^ k → spread capacity k r (held r) ≡ flat_map (point_facts points) (cut (holds_few capacity points) k r))
      → (t : Bool) → cond t (point_facts points b) (flat_map (λ r. spread capacity k r (filter (λ e. in_block r e.0) (held b))) (quarters_of b))
      ≡ flat_map (point_facts points) (cond t (b ∷ []) (flat_map (cut (holds_few capacity points) k) (quarters_of b)))
  spread_step k b hb s law true = sym (append_nil (point_facts points b))
  spread_step k b hb s law false =
      let p2 = pow-suc 2 k in
      let pos = pow_pos k in
      flat_map_same (λ r. spread capacity k r (filter (λ e. in_block r e.0) (held b)))
      (λ r. flat_map (point_facts points) (cut (holds_few capacity points) k r)) (quarters_of b)
      (λ r c.
      let q = quarters_are n b r hb (omega arith) c in
      let half = q.half in
      ap (spread capacity k r) (in_quarter b r q.within) ∙ law r q.block (omega arith))
      ∙ sym (flat_map_twice (point_facts points) (cut (holds_few capacity points) k) (quarters_of b))

  -- spreading the points of a block gives the facts of the blocks that it is cut into
  pub spread_is : (k : ℕ) (b : Block) → IsBlock n b → b.side ≡ 2 ^ k
      → spread capacity k b (held b) ≡ flat_map (point_facts points) (cut (holds_few capacity points) k b)
  spread_is zero b hb s = sym (append_nil (point_facts points b))
  spread_is (suc k) b hb s =
      let es = finmap.entries points in
      let test : Pixel × ℕ → Bool = λ e. in_block b e.0 in
      let few : nat_le (length (held b)) capacity ≡ holds_few capacity points b = ap (λ m. nat_le m capacity) (length-filter test es) in
      ap (λ t. cond t (point_facts points b) (flat_map (λ r. spread capacity k r (filter (λ e. in_block r e.0) (held b))) (quarters_of b))) few
      ∙ spread_step k b hb s (λ r hr sr. spread_is k r hr sr) (holds_few capacity points b)
