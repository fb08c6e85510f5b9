use Rattle.std.proofs.lemmas.Option.{IfSome_then}
use Rattle.quilt_blocks.proofs.Squares.{block_room}
use Rattle.quilt_window.proofs.Sources.{span_room, copied_in}
use Rattle.quilt_window.proofs.copy.one_colour.Goals as goal

pub misses-requires-clause-here : goal.misses-requires-clause-here
misses-requires-clause-here c = (block_room c.args.a.now.level c.args.b c.requires.most c.requires.valid).0

pub misses-requires-clause-there : goal.misses-requires-clause-there
misses-requires-clause-there c = (span_room c.args.a.now.level c.args.across c.requires.most c.requires.across).1

pub misses-requires-else-misses-clause-here : goal.misses-requires-else-misses-clause-here
misses-requires-else-misses-clause-here c = (block_room c.args.a.now.level c.args.b c.requires.most c.requires.valid).1

pub misses-requires-else-misses-clause-there : goal.misses-requires-else-misses-clause-there
misses-requires-else-misses-clause-there c = (span_room c.args.a.now.level c.args.down c.requires.most c.requires.down).1

pub covers-requires-clause-here : goal.covers-requires-clause-here
covers-requires-clause-here c = (block_room c.args.a.now.level c.args.b c.requires.most c.requires.valid).0

pub covers-requires-clause-there : goal.covers-requires-clause-there
covers-requires-clause-there c = (span_room c.args.a.now.level c.args.across c.requires.most c.requires.across).1

pub covers-requires-else-not-covers-clause-here : goal.covers-requires-else-not-covers-clause-here
covers-requires-else-not-covers-clause-here c = (block_room c.args.a.now.level c.args.b c.requires.most c.requires.valid).1

pub covers-requires-else-not-covers-clause-there : goal.covers-requires-else-not-covers-clause-there
covers-requires-else-not-covers-clause-there c = (span_room c.args.a.now.level c.args.down c.requires.most c.requires.down).1

pub source_of-requires-clause-there : goal.source_of-requires-clause-there
source_of-requires-clause-there c = (span_room c.args.a.now.level c.args.across c.requires.most c.requires.across).0

pub source_of-requires-2-clause-there : goal.source_of-requires-2-clause-there
source_of-requires-2-clause-there c = (span_room c.args.a.now.level c.args.down c.requires.most c.requires.down).0

pub returns-clause-some : goal.returns-clause-some
returns-clause-some c =
    let n = c.args.a.now.level in
    let g = c.args.a.now.grid in
    let x = c.covers.ensures in
    let y = c.covers-else-not-covers.ensures in
    let inx = c.if-not-covers.false in
    let iny = c.if-not-covers-2.false in
    IfSome_then c.colour_around.result c.colour_around.ensures
    (λ k has. copied_in n g c.args.across c.args.down c.args.b (record { x = c.source_of.result; y = c.source_of-2.result }) k.0
    (x.left inx) (x.right inx) (y.left iny) (y.right iny) c.source_of.ensures c.source_of-2.ensures has)
