use Rattle.std.proofs.Common.{◌≡◌, ℕ, ◌+◌, ◌*◌, ◌^◌, length, refl, sym, ◌∙◌, ap, subst, arith}
use Rattle.quilt_types.specs.declared.plane.Pixel.{Pixel}
use Rattle.quilt_types.specs.declared.plane.Block.{Block}
use Rattle.quilt_types.specs.Plane.{side, IsBlock}
use Rattle.quilt_types.specs.Layers.{Grid}
use Rattle.quilt_loc.specs.Codes.{code_from, code_to}
use Rattle.quilt_loc.proofs.Intervals.{side_squared}
use Rattle.quilt_blocks.specs.Adding.{AddsColours}
use Rattle.quilt_blocks.specs.Cutting.{leaf_pair}
use Rattle.quilt_blocks.specs.Walk.{IsLeafAt}
use Rattle.quilt_blocks.proofs.Adding.{Adds-none}
use Rattle.quilt_par.specs.declared.part.Part.TheVariants.{Leaves}
use Rattle.quilt_par.specs.Parts.{moved_colour}
use Rattle.quilt_par.proofs.Moving.{moved, moved_is, Adds-moved}
use Rattle.quilt_par.proofs.part.put_leaves.Goals as goal

-- the leaf at which the walk is, in the list
here : (k j : ℕ) (g i : Grid) (at : ℕ) (e : Block × ℕ) → j ≡ k → i ≡ g → IsLeafAt j i at e → IsLeafAt k g at e
here k j g i at e level grid leaf = subst (λ (h : Grid). IsLeafAt k h at e) grid (subst (λ (l : ℕ). IsLeafAt l i at e) level leaf)

pub loop-leaf-init : goal.loop-leaf-init
loop-leaf-init c =
    let b = c.args.b in
    let m = c.args.maker.now in
    let f : Pixel → ℕ = moved_colour b (Leaves c.args.list.now) in
    let next = c.requires.next in
    let at = c.new-leaves.ensures.at in
    let end : length m.colours ≡ code_from b + c.new-leaves.result.at = omega arith in
    record {
      same_level = c.new-leaves.ensures.level;
      same_grid = c.new-leaves.ensures.grid;
      adds = subst (λ (k : ℕ). AddsColours m.level f k m m) end (Adds-none m.level f m);
    }

pub push-requires-clause-valid : goal.push-requires-clause-valid
push-requires-clause-valid c =
    let n = c.args.maker.now.level in
    let r = c.in-Some.leaf.block in
    let mv = moved_is n c.args.list.now.level c.args.b r c.requires.most c.requires.valid c.requires.wide
    (here c.args.list.now.level _ c.args.list.now.grid _ c.loop-leaf.leaves.at
    (leaf_pair c.in-Some.leaf) c.loop-leaf.invariant.same_level c.loop-leaf.invariant.same_grid c.in-Some.ensures.leaf).block in
    subst (λ (k : ℕ). IsBlock k (moved c.args.b r)) (sym c.loop-leaf.invariant.adds.level) mv.block

pub push-requires-clause-next : goal.push-requires-clause-next
push-requires-clause-next c =
    let n = c.args.maker.now.level in
    let leaf = here c.args.list.now.level _ c.args.list.now.grid _ c.loop-leaf.leaves.at
    (leaf_pair c.in-Some.leaf) c.loop-leaf.invariant.same_level c.loop-leaf.invariant.same_grid c.in-Some.ensures.leaf in
    let mv = moved_is n c.args.list.now.level c.args.b c.in-Some.leaf.block c.requires.most c.requires.valid c.requires.wide leaf.block in
    let from = mv.from in
    let begins = leaf.from in
    let long = c.loop-leaf.invariant.adds.long in
    omega arith

pub loop-leaf-preserved : goal.loop-leaf-preserved
loop-leaf-preserved c =
    let n = c.args.maker.now.level in
    let b = c.args.b in
    let list = c.args.list.now in
    let old = c.args.maker.now in
    let new = c.push.new.self in
    let leaf = c.in-Some.leaf in
    let inv = c.loop-leaf.invariant in
    let f : Pixel → ℕ = moved_colour b (Leaves list) in
    record {
      same_level = c.in-Some.ensures.level ∙ inv.same_level;
      same_grid = c.in-Some.ensures.grid ∙ inv.same_grid;
      adds = subst (λ (k : ℕ). AddsColours n f (code_from b + k) old new) (sym c.in-Some.ensures.at)
          (Adds-moved n b list leaf.block leaf.colour.0 c.loop-leaf.leaves.at old c.loop-leaf.maker new c.requires.most c.requires.valid
          c.requires.wide (here c.args.list.now.level _ c.args.list.now.grid _ c.loop-leaf.leaves.at (leaf_pair c.in-Some.leaf)
          c.loop-leaf.invariant.same_level c.loop-leaf.invariant.same_grid c.in-Some.ensures.leaf) c.requires.next inv.adds c.in_ok-push.ensures.ok);
    }

pub returns : goal.returns
returns c =
    let n = c.args.maker.now.level in
    let b = c.args.b in
    let list = c.args.list.now in
    let inv = c.loop-leaf.invariant in
    let f : Pixel → ℕ = moved_colour b (Leaves list) in
    let all = c.in_default.ensures.whole.0 refl in
    let level = ap (λ (k : ℕ). 4 ^ k) inv.same_level in
    let s = side_squared list.level in
    let square : b.side * b.side ≡ side list.level * side list.level = ap (λ z. z * z) c.requires.wide in
    let end : code_from b + c.loop-leaf.leaves.at ≡ code_to b = omega arith in
    subst (λ (k : ℕ). AddsColours n f k c.args.maker.now c.loop-leaf.maker) end inv.adds
