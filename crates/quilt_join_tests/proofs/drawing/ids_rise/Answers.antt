use Rattle.std.proofs.Common.{ℕ, ◌+◌, arith}
use Rattle.std.proofs.lemmas.List.{get_or-map, length-map}
use Rattle.quilt_types.specs.declared.plane.Seg.{Seg}
use Rattle.quilt_join_tests.proofs.drawing.ids_rise.Goals as goal

pub returns : goal.returns
returns c k within =
    let id = λ (e : ℕ × Seg). e.0 in
    let list = c.args.list.now in
    let none : ℕ × Seg = (0, record { x1 = 0; y1 = 0; x2 = 0; y2 = 0 }) in
    let long = length-map list id in
    let less = c.loop-place.invariant k none (omega arith) in
    omega (arith, less, get_or-map id list k none 0 (omega arith), get_or-map id list (k + 1) none 0 (omega arith))
