use Rattle.std.proofs.Common.{flat_map, take}
use Rattle.quilt_lang.proofs.Takes.{SoFar}
use Rattle.quilt_lang.proofs.items.items_in.Given as goal

abbrev pub invariant-loop-piece : goal.invariant-loop-piece
invariant-loop-piece l = SoFar l.level l.format l.lines l.items.items (flat_map (λ piece. piece.now) (take l.piece-index l.pieces))
