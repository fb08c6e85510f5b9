use Rattle.std.proofs.Common.{◌≡◌, ℕ, ◌+◌, ◌*◌, refl, sym, ◌∙◌, ap, ap₂, subst, arith}
use Rattle.quilt_types.specs.declared.plane.Block.{Block}
use Rattle.quilt_types.specs.Plane.{corner, Holds}
use Rattle.quilt_loc.specs.Codes.{code_from, code_to}
use Rattle.quilt_loc.proofs.Blocks.{side_most}
use Rattle.quilt_loc.proofs.Nesting.{nested, Holds-corner}
use Rattle.quilt_blocks.specs.Cutting.{leaf_pair}
use Rattle.quilt_blocks.proofs.Colours.{HasColour-within}
use Rattle.quilt_blocks.proofs.Squares.{block_room}
use Rattle.quilt_raster.specs.Painting.{ArePainted}
use Rattle.quilt_raster.proofs.Cells.{ArePainted-block}
use Rattle.quilt_raster.proofs.Places.{IsAt, IsAt-corner, IsAt-next, IsAt-some, code_room}
use Rattle.quilt_raster.proofs.paint.paint_leaves.Goals as goal

pub fill-requires-clause-in_x : goal.fill-requires-clause-in_x
fill-requires-clause-in_x c =
    let m = side_most c.args.list.now.level c.requires.most in
    let r = c.requires.room.in_x in
    omega arith

pub fill-requires-clause-in_y : goal.fill-requires-clause-in_y
fill-requires-clause-in_y c =
    let m = side_most c.args.list.now.level c.requires.most in
    let r = c.requires.room.in_y in
    omega arith

pub fill-requires-clause-block_x : goal.fill-requires-clause-block_x
fill-requires-clause-block_x c = (block_room c.args.list.now.level c.args.b c.requires.most c.requires.valid).0

pub fill-requires-clause-block_y : goal.fill-requires-clause-block_y
fill-requires-clause-block_y c = (block_room c.args.list.now.level c.args.b c.requires.most c.requires.valid).1

pub returns-then-block-b-clause-after : goal.returns-then-block-b-clause-after
returns-then-block-b-clause-after c =
    let n = c.args.list.now.level in
    let g = c.args.list.now.grid in
    let b = c.args.b in
    let leaf = c.leaf.result in
    let v = c.leaf.ensures in
    let held = subst (λ (z : Block × ℕ). Holds z.0 (corner b)) (sym v.value) (c.place_around-place.ensures.held (leaf_pair leaf)) in
    let larger = c.if-block-b.true in
    let inside = nested n b leaf.block (corner b) c.requires.valid v.block (omega arith) (Holds-corner n b c.requires.valid) held in
    ArePainted-block n g c.args.w b c.requires.most c.requires.valid c.requires.room.in_x c.requires.room.in_y leaf.colour.0 c.args.cells.now c.fill.new.cells
    (HasColour-within n g b leaf.block leaf.colour.0 inside v.colour) c.fill.ensures.inside c.fill.ensures.outside c.requires.before

pub loop-done-init : goal.loop-done-init
loop-done-init c =
    let n = c.args.list.now.level in
    let g = c.args.list.now.grid in
    let b = c.args.b in
    let leaf = c.leaf.result in
    let v = c.leaf.ensures in
    let held = subst (λ (z : Block × ℕ). Holds z.0 (corner b)) (sym v.value) (c.place_around-place.ensures.held (leaf_pair leaf)) in
    let small = c.if-block-b.false in
    let none : code_from b ≡ code_from b + 0 = omega arith in
    record {
      long = refl;
      at =
          subst (IsAt n g c.place_around-place.result) none
          (IsAt-corner n g c.requires.most b c.place_around-place.result (leaf_pair leaf) c.requires.valid v.block
          (omega arith) held c.place_around-place.ensures.inside v.value);
      painted = subst (λ (k : ℕ). ArePainted n g c.args.w k c.args.cells.now) none c.requires.before;
    }

pub leaf-requires-in-loop-done : goal.leaf-requires-in-loop-done
leaf-requires-in-loop-done c =
    let n = c.args.list.now.level in
    let b = c.args.b in
    let room = code_room n b c.requires.most c.requires.valid in
    let more = c.loop-done-test.true in
    let area : c.from.result * c.from-2.result ≡ b.side * b.side = ap₂ (λ x y. x * y) c.from.ensures c.from-2.ensures in
    IsAt-some n c.args.list.now.grid c.requires.most c.loop-done.place (code_from b + c.loop-done.done) (omega arith) c.loop-done.invariant.at

pub fill-requires-in-loop-done-clause-in_x : goal.fill-requires-in-loop-done-clause-in_x
fill-requires-in-loop-done-clause-in_x c =
    let m = side_most c.args.list.now.level c.requires.most in
    let r = c.requires.room.in_x in
    omega arith

pub fill-requires-in-loop-done-clause-in_y : goal.fill-requires-in-loop-done-clause-in_y
fill-requires-in-loop-done-clause-in_y c =
    let m = side_most c.args.list.now.level c.requires.most in
    let r = c.requires.room.in_y in
    omega arith

pub fill-requires-in-loop-done-clause-block_x : goal.fill-requires-in-loop-done-clause-block_x
fill-requires-in-loop-done-clause-block_x c =
    (block_room c.args.list.now.level c.leaf-in-loop-done.result.block c.requires.most c.leaf-in-loop-done.ensures.block).0

pub fill-requires-in-loop-done-clause-block_y : goal.fill-requires-in-loop-done-clause-block_y
fill-requires-in-loop-done-clause-block_y c =
    (block_room c.args.list.now.level c.leaf-in-loop-done.result.block c.requires.most c.leaf-in-loop-done.ensures.block).1

pub overflow_add-place : goal.overflow_add-place
overflow_add-place c =
    let few = c.place_around-place.ensures.few in
    let inside = c.loop-done.invariant.at.inside in
    let n = c.args.list.now.level in
    let b = c.args.b in
    let room = code_room n b c.requires.most c.requires.valid in
    let more = c.loop-done-test.true in
    let area : c.from.result * c.from-2.result ≡ b.side * b.side = ap₂ (λ x y. x * y) c.from.ensures c.from-2.ensures in
    let some = IsAt-some n c.args.list.now.grid c.requires.most c.loop-done.place (code_from b + c.loop-done.done) (omega arith) c.loop-done.invariant.at in
    omega arith

pub loop-done-preserved : goal.loop-done-preserved
loop-done-preserved c =
    let n = c.args.list.now.level in
    let g = c.args.list.now.grid in
    let w = c.args.w in
    let b = c.args.b in
    let leaf = c.leaf-in-loop-done.result in
    let v = c.leaf-in-loop-done.ensures in
    let inv = c.loop-done.invariant in
    let f = c.fill-in-loop-done in
    let place = c.loop-done.place in
    let at = code_from b + c.loop-done.done in
    let room = code_room n b c.requires.most c.requires.valid in
    let more = c.loop-done-test.true in
    let area : c.from.result * c.from-2.result ≡ b.side * b.side = ap₂ (λ x y. x * y) c.from.ensures c.from-2.ensures in
    let some = IsAt-some n g c.requires.most place at (omega arith) inv.at in
    let from : code_from leaf.block ≡ at = ap (λ (z : Block × ℕ). code_from z.0) v.value ∙ inv.at.begins (leaf_pair leaf) some in
    let size : c.from-in-loop-done.result * c.from-in-loop-done-2.result ≡ leaf.block.side * leaf.block.side =
    ap₂ (λ x y. x * y) c.from-in-loop-done.ensures c.from-in-loop-done-2.ensures in
    let end : at + leaf.block.side * leaf.block.side ≡ code_from b + (c.loop-done.done + c.from-in-loop-done.result * c.from-in-loop-done-2.result) =
    omega arith in
    let to : code_to leaf.block ≡ at + leaf.block.side * leaf.block.side = omega arith in
    let painted = ArePainted-block n g w leaf.block c.requires.most v.block c.requires.room.in_x c.requires.room.in_y leaf.colour.0 c.loop-done.cells
    f.new.cells v.colour f.ensures.inside f.ensures.outside
    (subst (λ (k : ℕ). ArePainted n g w k c.loop-done.cells) (sym from) inv.painted) in
    record {
      long = f.ensures.long ∙ inv.long;
      at = subst (IsAt n g (place + 1)) end (IsAt-next n g c.requires.most place at (leaf_pair leaf) some v.value inv.at);
      painted = subst (λ (k : ℕ). ArePainted n g w k f.new.cells) (to ∙ end) painted;
    }
