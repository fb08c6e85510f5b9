use Rattle.std.proofs.Common.{◌≡◌, false, refl, ap, arith}
use Rattle.std.proofs.lemmas.Bool.{false_from_ne_true, both_ways}
use Rattle.quilt_types.specs.declared.plane.Block.{Block}
use Rattle.quilt_types.specs.Plane.{corner}
use Rattle.quilt_types.specs.Quadtrees.{is_uniform}
use Rattle.quilt_loc.proofs.Nesting.{nested, Holds-corner}
use Rattle.quilt_blocks.specs.Cutting.{leaf_pair}
use Rattle.quilt_blocks.specs.Mosaic.{HasColour}
use Rattle.quilt_blocks.proofs.Colours.{uniform-from_HasColour, HasColour-within}
use Rattle.quilt_blocks.proofs.Maximal.{alone}
use Rattle.quilt_blocks.proofs.Leaves.{uniform_down}
use Rattle.quilt_blocks.proofs.Cuts.{leaf_is, leaves_members}
use Rattle.quilt_blocks.proofs.list.LeafList.uniform_from.Goals as goal

pub returns-then-leaf-b-clause-none : goal.returns-then-leaf-b-clause-none
returns-then-leaf-b-clause-none c =
    let n = c.args.self.now.level in
    let g = c.args.self.now.grid in
    let b = c.args.b in
    let e = leaf_pair c.search-leaf.result in
    let lt = c.if-leaf-b.true in
    let leaf = leaf_is n g e ((leaves_members n g e).0 c.search-leaf.ensures.member) in
    let within = nested n e.0 b (corner b) leaf.maximal.block c.requires (omega arith) c.search-leaf.ensures.held (Holds-corner n b c.requires) in
    let no' : is_uniform n g b ≡ false =
    false_from_ne_true (is_uniform n g b) (λ u.
    let is = alone n (is_uniform n g) (uniform_down n g) e.0 b leaf.maximal c.requires u within in
    let same = ap (λ (z : Block). z.side) is in
    omega arith) in
    (λ _. no', λ _. refl)

has : (c : goal.After-result-1) → HasColour c.args.self.now.level c.args.self.now.grid c.args.b c.search-leaf.result.colour.0
has c =
    let n = c.args.self.now.level in
    let g = c.args.self.now.grid in
    let b = c.args.b in
    let e = leaf_pair c.search-leaf.result in
    let leaf = leaf_is n g e ((leaves_members n g e).0 c.search-leaf.ensures.member) in
    HasColour-within n g b e.0 e.1
    (nested n b e.0 (corner b) c.requires leaf.maximal.block c.if-leaf-b.false (Holds-corner n b c.requires) c.search-leaf.ensures.held) leaf.colour

pub returns-clause-none : goal.returns-clause-none
returns-clause-none c =
    let n = c.args.self.now.level in
    let g = c.args.self.now.grid in
    (λ t. cc, λ f. absurd (both_ways (is_uniform n g c.args.b) f (uniform-from_HasColour n g c.args.b _ c.requires (has c))))

pub returns-clause-colour : goal.returns-clause-colour
returns-clause-colour c = has c
