use Rattle.std.proofs.Common.{◌≤◌, length, sym, arith}
use Rattle.quilt_blocks.specs.Cutting.{leaf_pair}
use Rattle.quilt_blocks.proofs.Cuts.{leaf_is}
use Rattle.quilt_region.specs.Windows.{leaves_within}
use Rattle.quilt_region.proofs.Parts.{block_room, window_room}
use Rattle.quilt_region.proofs.Nearby.{window_in, leaf_cut, around_cut, one_within, more_within}
use Rattle.quilt_btree.proofs.Handed.{handed_on}
use Rattle.quilt_region.proofs.neighbours.block_with.Goals as goal

pub leaf_with-requires-clause-in_x : goal.leaf_with-requires-clause-in_x
leaf_with-requires-clause-in_x g c = let i = window_in c.args.level c.args.w c.requires.window in let a = i.wide in let b = i.right in omega arith

pub leaf_with-requires-clause-in_y : goal.leaf_with-requires-clause-in_y
leaf_with-requires-clause-in_y g c = let i = window_in c.args.level c.args.w c.requires.window in let a = i.high in let b = i.bottom in omega arith

pub holds_window-requires-clause-width : goal.holds_window-requires-clause-width
holds_window-requires-clause-width g c = (block_room c.args.level c.in_ok-leaf.leaf.block c.requires.level.1 c.in_ok-leaf.ensures.block).0

pub holds_window-requires-clause-height : goal.holds_window-requires-clause-height
holds_window-requires-clause-height g c = (block_room c.args.level c.in_ok-leaf.leaf.block c.requires.level.1 c.in_ok-leaf.ensures.block).1

pub holds_window-requires-clause-window_width : goal.holds_window-requires-clause-window_width
holds_window-requires-clause-window_width g c = (window_room c.args.level c.args.w c.requires.level.1 c.requires.window).0

pub holds_window-requires-clause-window_height : goal.holds_window-requires-clause-window_height
holds_window-requires-clause-window_height g c = (window_room c.args.level c.args.w c.requires.level.1 c.requires.window).1

pub returns-then-holds_window-clause-cut_out : goal.returns-then-holds_window-clause-cut_out
returns-then-holds_window-clause-cut_out g c grid h = leaf_cut c.args.level grid (leaf_pair c.in_ok-leaf.leaf) (c.in_ok-leaf.ensures.leaf grid h).member

pub returns-then-holds_window-clause-few : goal.returns-then-holds_window-clause-few
returns-then-holds_window-clause-few g c grid a h ha holds =
    let one = one_within c.args.level grid c.requires.level.1 (leaf_pair c.in_ok-leaf.leaf) (c.in_ok-leaf.ensures.leaf grid h).member in
    let one' : length (leaves_within c.args.level grid c.in_ok-leaf.leaf.block) ≤ 1 = one in
    omega arith

pub returns-clause-cut_out : goal.returns-clause-cut_out
returns-clause-cut_out g c grid h =
    around_cut c.args.level grid (leaf_pair c.in_ok-leaf.leaf) c.block_around.result c.args.w c.requires.window (c.in_ok-leaf.ensures.leaf grid h)
    (c.holds_window.ensures.no c.if-holds_window.false) c.block_around.ensures.valid c.block_around.ensures.holds

pub returns-clause-few : goal.returns-clause-few
returns-clause-few g c grid a h ha holds =
    let more =
    more_within c.args.level grid c.requires.level.1 c.block_around.result a c.block_around.ensures.valid ha (c.block_around.ensures.least a ha holds) in
    omega arith

pub returns-then-holds_window-clause-first : goal.returns-then-holds_window-clause-first
returns-then-holds_window-clause-first g c grid h =
    let l = c.in_ok-leaf.ensures.leaf grid h in
    sym ((leaf_is c.args.level grid (leaf_pair c.in_ok-leaf.leaf) l.member).colour.each _ l.holds)

pub returns-clause-first : goal.returns-clause-first
returns-clause-first g c grid h =
    let l = c.in_ok-leaf.ensures.leaf grid h in
    sym ((leaf_is c.args.level grid (leaf_pair c.in_ok-leaf.leaf) l.member).colour.each _ l.holds)

pub returns-in_err-leaf-clause-sound : goal.returns-in_err-leaf-clause-sound
returns-in_err-leaf-clause-sound g c = rw (handed_on c.from_residual.result c.from_residual.ensures.1) c.in_err-leaf.ensures.sound

pub returns-in_err-leaf-clause-zero : goal.returns-in_err-leaf-clause-zero
returns-in_err-leaf-clause-zero g c = rw (handed_on c.from_residual.result c.from_residual.ensures.1) c.in_err-leaf.ensures.zero

pub returns-in_err-leaf-clause-bad : goal.returns-in_err-leaf-clause-bad
returns-in_err-leaf-clause-bad g c = rw (handed_on c.from_residual.result c.from_residual.ensures.1) c.in_err-leaf.ensures.bad
