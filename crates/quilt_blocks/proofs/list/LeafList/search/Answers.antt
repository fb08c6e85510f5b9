use Rattle.std.proofs.Common.{◌≡◌, ◌∙◌, sym, ap, subst, arith, get_or, Contains}
use Rattle.std.proofs.lemmas.List.{length-map, get_or_default}
use Rattle.quilt_types.specs.Plane.{side, Holds}
use Rattle.quilt_loc.specs.Codes.{code_from}
use Rattle.quilt_loc.proofs.Blocks.{side_most}
use Rattle.quilt_blocks.specs.declared.leaf.Leaf.{Leaf}
use Rattle.quilt_blocks.specs.Raster.{Raster}
use Rattle.quilt_blocks.specs.Cutting.{leaves_by_code, leaf_pair}
use Rattle.quilt_blocks.specs.Listing.{leaf_pairs}
use Rattle.quilt_blocks.proofs.Cuts.{IsLeaf, leaf_is, leaves_members}
use Rattle.quilt_blocks.proofs.Listed.{some_leaf, listed_run, pair_member}
use Rattle.quilt_blocks.proofs.Places.{block_at_place, first_code, held_at}
use Rattle.quilt_blocks.proofs.list.LeafList.search.Goals as goal

pub code_of-code-requires-clause-in_x : goal.code_of-code-requires-clause-in_x
code_of-code-requires-clause-in_x c =
    let m = side_most c.self.inside.level c.self.invariant.most in
    let e = ap (λ (r : Raster). side r.level) c.self.view_is in
    let r = c.requires.in_x in
    omega arith

pub code_of-code-requires-clause-in_y : goal.code_of-code-requires-clause-in_y
code_of-code-requires-clause-in_y c =
    let m = side_most c.self.inside.level c.self.invariant.most in
    let e = ap (λ (r : Raster). side r.level) c.self.view_is in
    let r = c.requires.in_y in
    omega arith

pub loop-high-init : goal.loop-high-init
loop-high-init c =
    let n = c.self.inside.level in
    let items = c.self.inside.leaves.items in
    let l = length-map items leaf_pair in
    let some = some_leaf n (leaf_pairs items) (listed_run n (leaf_pairs items) c.self.invariant) in
    record {
      some = omega arith;
      inside = omega arith;
      from = λ d. let e = first_code n items c.self.invariant d (omega arith) in omega arith;
      to = λ d lt. absurd (omega arith);
    }

pub code_of-requires-clause-in_x : goal.code_of-requires-clause-in_x
code_of-requires-clause-in_x c =
    let n = c.self.inside.level in
    let inv = c.loop-high.invariant in
    let some = inv.some in
    let inside = inv.inside in
    let above = c.place_between-middle.ensures.above in
    let under = c.place_between-middle.ensures.below in
    let b = block_at_place n c.self.inside.leaves.items c.self.invariant c.place_between-middle.result c.index.result.now (omega arith) in
    let x = b.in_x in
    let e = ap (λ (z : Leaf). z.block.x) c.index.ensures in
    let m = side_most n c.self.invariant.most in
    omega arith

pub code_of-requires-clause-in_y : goal.code_of-requires-clause-in_y
code_of-requires-clause-in_y c =
    let n = c.self.inside.level in
    let inv = c.loop-high.invariant in
    let some = inv.some in
    let inside = inv.inside in
    let above = c.place_between-middle.ensures.above in
    let under = c.place_between-middle.ensures.below in
    let b = block_at_place n c.self.inside.leaves.items c.self.invariant c.place_between-middle.result c.index.result.now (omega arith) in
    let y = b.in_y in
    let e = ap (λ (z : Leaf). z.block.y) c.index.ensures in
    let m = side_most n c.self.invariant.most in
    omega arith

pub loop-high-preserved-then-code_of-code : goal.loop-high-preserved-then-code_of-code
loop-high-preserved-then-code_of-code c =
    let items = c.self.inside.leaves.items in
    let at = c.place_between-middle.result in
    let inv = c.loop-high.invariant in
    let some = inv.some in
    let inside = inv.inside in
    let above = c.place_between-middle.ensures.above in
    let under = c.place_between-middle.ensures.below in
    record {
      some = omega arith;
      inside = inv.inside;
      from = λ d.
          let e : get_or items at d ≡ c.index.result.now = get_or_default items at d c.index.result.now (omega arith) ∙ sym c.index.ensures in
          let f = ap (λ (z : Leaf). code_from z.block) e in
          let v = c.code_of.ensures.value in
          omega arith;
      to = inv.to;
    }

pub loop-high-preserved : goal.loop-high-preserved
loop-high-preserved c =
    let items = c.self.inside.leaves.items in
    let at = c.place_between-middle.result in
    let inv = c.loop-high.invariant in
    let some = inv.some in
    let inside = inv.inside in
    let above = c.place_between-middle.ensures.above in
    let under = c.place_between-middle.ensures.below in
    record {
      some = omega arith;
      inside = omega arith;
      from = inv.from;
      to = λ d lt.
          let e : get_or items at d ≡ c.index.result.now = get_or_default items at d c.index.result.now (omega arith) ∙ sym c.index.ensures in
          let f = ap (λ (z : Leaf). code_from z.block) e in
          let v = c.code_of.ensures.value in
          omega arith;
    }

pub returns-clause-member : goal.returns-clause-member
returns-clause-member c =
    let n = c.self.inside.level in
    let items = c.self.inside.leaves.items in
    let inv = c.loop-high.invariant in
    let some = inv.some in
    let inside = inv.inside in
    let found = pair_member items c.loop-high.low c.index-2.result.now (omega arith) (sym c.index-2.ensures) in
    subst (λ (r : Raster). Contains (leaves_by_code r.level r.grid) (leaf_pair c.index-2.result.now)) c.self.view_is
    (subst (λ l. Contains l (leaf_pair c.index-2.result.now)) c.self.invariant.ordered found)

pub returns-clause-held : goal.returns-clause-held
returns-clause-held c =
    let n = c.self.inside.level in
    let items = c.self.inside.leaves.items in
    let d = c.index-2.result.now in
    let inv = c.loop-high.invariant in
    let some = inv.some in
    let inside = inv.inside in
    let e = ap (λ (r : Raster). side r.level) c.self.view_is in
    let rx = c.requires.in_x in
    let ry = c.requires.in_y in
    let v = c.code_of-code.ensures.value in
    let f = inv.from d in
    let end = c.loop-high-test.false in
    subst (λ (z : Leaf). Holds z.block c.args.p) (sym c.index-2.ensures)
    (held_at n items c.self.invariant c.args.p c.loop-high.low c.loop-high.high d (omega arith) (omega arith) some (omega arith) inside (omega arith)
    (λ lt. let t = inv.to d lt in omega arith))

found : (c : goal.After-result-1) → IsLeaf c.args.self.now.level c.args.self.now.grid (leaf_pair c.index-2.result.now)
found c =
    let n = c.args.self.now.level in
    let g = c.args.self.now.grid in
    let e = leaf_pair c.index-2.result.now in
    leaf_is n g e ((leaves_members n g e).0 (returns-clause-member c))

pub returns-clause-block : goal.returns-clause-block
returns-clause-block c = (found c).maximal.block

pub returns-clause-colour : goal.returns-clause-colour
returns-clause-colour c = (found c).colour
