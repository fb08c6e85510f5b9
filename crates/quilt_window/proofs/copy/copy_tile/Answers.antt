use Rattle.std.proofs.Common.{ℕ, refl, subst, arith}
use Rattle.std.proofs.lemmas.Result.{on_ok_weaker}
use Rattle.quilt_types.specs.declared.plane.Window.{Window}
use Rattle.quilt_loc.specs.Codes.{code_to}
use Rattle.quilt_loc.proofs.Intervals.{held_code}
use Rattle.quilt_blocks.specs.Adding.{AddsColours}
use Rattle.quilt_blocks.proofs.Adding.{Adds-change}
use Rattle.quilt_raster.specs.Painting.{in_cells}
use Rattle.quilt_window.specs.Copying.{copied_colour}
use Rattle.quilt_loc.proofs.Blocks.{side_most}
use Rattle.quilt_window.proofs.Sources.{span_room, copied_cells}
use Rattle.quilt_window.proofs.copy.copy_tile.Goals as goal

pub source_of-left-requires-clause-there : goal.source_of-left-requires-clause-there
source_of-left-requires-clause-there c = (span_room c.args.a.now.level c.args.across c.requires.most c.requires.across).0

pub source_of-top-requires-clause-there : goal.source_of-top-requires-clause-there
source_of-top-requires-clause-there c = (span_room c.args.a.now.level c.args.down c.requires.most c.requires.down).0

pub returns-clause-copied : goal.returns-clause-copied
returns-clause-copied c =
    let n = c.args.a.now.level in
    let g = c.args.a.now.grid in
    let b = c.args.b in
    let cells = c.paint_window.new.cells in
    let w : Window = record { x = c.source_of-left.result; y = c.source_of-top.result; w = b.side; h = b.side } in
    let f = in_cells cells b in
    let to = copied_colour n g c.args.across c.args.down in
    let most = c.requires.most in
    let m = side_most n most in
    let in_x = c.requires.valid.in_x in
    let in_y = c.requires.valid.in_y in
    let next = c.requires.next in
    on_ok_weaker c.add_cells.result
    (λ a.
    Adds-change n f to (code_to b) c.args.maker.now c.add_cells.new.maker
    (λ p hx hy low high.
    copied_cells n g c.args.across c.args.down b w cells c.requires.left c.requires.right c.requires.top c.requires.bottom c.source_of-left.ensures
    c.source_of-top.ensures refl refl c.paint_window.ensures.painted p
    (held_code n b p c.requires.valid most (omega arith) (omega arith) (omega arith) (omega arith) (omega arith) high))
    (subst (λ (k : ℕ). AddsColours k f (code_to b) c.args.maker.now c.add_cells.new.maker) c.requires.level a)) c.add_cells.ensures
