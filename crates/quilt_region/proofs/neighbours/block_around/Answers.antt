use Rattle.std.proofs.Common.{◌≡◌, ◌*◌, true, false, refl, sym, ap, subst, arith}
use Rattle.quilt_types.specs.declared.plane.Block.{Block}
use Rattle.quilt_types.specs.Plane.{IsBlock, Within}
use Rattle.quilt_loc.proofs.Blocks.{side_most}
use Rattle.quilt_loc.proofs.Nesting.{side_pos, IsBlock-parent_of}
use Rattle.quilt_region.proofs.Parts.{block_room, window_room}
use Rattle.quilt_region.proofs.Nearby.{whole_holds, not_whole, parent_least}
use Rattle.quilt_region.proofs.neighbours.block_around.Goals as goal

true_false : true ≡ false → ⊥
true_false e = cc

pub holds_window-requires-clause-width : goal.holds_window-requires-clause-width
holds_window-requires-clause-width c = (block_room c.args.level c.loop-w.b c.requires.level.1 c.loop-w.invariant.valid).0

pub holds_window-requires-clause-height : goal.holds_window-requires-clause-height
holds_window-requires-clause-height c = (block_room c.args.level c.loop-w.b c.requires.level.1 c.loop-w.invariant.valid).1

pub holds_window-requires-clause-window_width : goal.holds_window-requires-clause-window_width
holds_window-requires-clause-window_width c = (window_room c.args.level c.args.w c.requires.level.1 c.requires.window).0

pub holds_window-requires-clause-window_height : goal.holds_window-requires-clause-window_height
holds_window-requires-clause-window_height c = (window_room c.args.level c.args.w c.requires.level.1 c.requires.window).1

pub returns-in_default-clause-holds : goal.returns-in_default-clause-holds
returns-in_default-clause-holds c = whole_holds c.args.level c.loop-w.b c.args.w c.loop-w.invariant.valid c.requires.window (c.in_default.ensures.whole.0 refl)

pub loop-w-smaller : goal.loop-w-smaller
loop-w-smaller c =
    let n = c.args.level in
    let b = c.loop-w.b in
    let lt = not_whole n b c.loop-w.invariant.valid (λ e. true_false (c.in-Some.ensures.whole.1 e)) in
    let m = side_most n c.requires.level.1 in
    let pos = side_pos n b c.loop-w.invariant.valid in
    let size : c.in-Some.larger.side ≡ 2 * b.side = ap (λ (z : Block). z.side) c.in-Some.ensures.value in
    omega arith

pub loop-w-preserved : goal.loop-w-preserved
loop-w-preserved c =
    let n = c.args.level in
    let b = c.loop-w.b in
    let inv = c.loop-w.invariant in
    let lt = not_whole n b inv.valid (λ e. true_false (c.in-Some.ensures.whole.1 e)) in
    let is = c.in-Some.ensures.value in
    record {
      valid = subst (IsBlock n) (sym is) (IsBlock-parent_of n b inv.valid lt);
      least = λ a ha holds. subst (λ (z : Block). Within z a) (sym is)
          (parent_least n b a c.args.w inv.valid ha holds (c.holds_window.ensures.no c.loop-w-test.true) (inv.least a ha holds));
    }
