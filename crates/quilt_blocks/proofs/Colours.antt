-- What `is_uniform` says.
use Rattle.std.proofs.Common.{◌≡◌, ℕ, true, sym, ◌∙◌, eqb, eqb-true, eq-eqb}
use Rattle.quilt_types.specs.declared.plane.Block.{Block}
use Rattle.quilt_types.specs.Plane.{pixels_of, corner, IsBlock, Within}
use Rattle.quilt_types.specs.Layers.{Grid, colour_at}
use Rattle.quilt_types.specs.Quadtrees.{is_uniform}
use Rattle.quilt_blocks.specs.Mosaic.{HasColour}
use Rattle.quilt_loc.proofs.Members.{list_all-at, list_all-from}
use Rattle.quilt_loc.proofs.Blocks.{Contains-pixels_of, Contains-pixels_of_from}
use Rattle.quilt_loc.proofs.Nesting.{Within-holds, Holds-corner}

pub HasColour-from_uniform : (n : ℕ) (g : Grid) (b : Block) → is_uniform n g b ≡ true → HasColour n g b (colour_at n g (corner b))
HasColour-from_uniform n g b u = record {
  each = λ p h. eqb-true _ _ (list_all-at (λ q. eqb (colour_at n g q) (colour_at n g (corner b))) (pixels_of b) p u (Contains-pixels_of b p h));
}

pub uniform-from_HasColour : (n : ℕ) (g : Grid) (b : Block) (c : ℕ) → IsBlock n b → HasColour n g b c → is_uniform n g b ≡ true
uniform-from_HasColour n g b c i h =
    list_all-from (λ q. eqb (colour_at n g q) (colour_at n g (corner b))) (pixels_of b)
    (λ p m. eq-eqb _ _ (h.each p (Contains-pixels_of_from b p m) ∙ sym (h.each (corner b) (Holds-corner n b i))))

pub HasColour-within : (n : ℕ) (g : Grid) (a b : Block) (c : ℕ) → Within a b → HasColour n g b c → HasColour n g a c
HasColour-within n g a b c w h = record { each = λ p m. h.each p (Within-holds a b p w m) }

pub colour_is : (n : ℕ) (g : Grid) (b : Block) (c : ℕ) → IsBlock n b → HasColour n g b c → colour_at n g (corner b) ≡ c
colour_is n g b c i h = h.each (corner b) (Holds-corner n b i)
