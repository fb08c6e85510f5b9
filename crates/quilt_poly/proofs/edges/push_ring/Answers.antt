use Rattle.std.proofs.Common.{◌++◌, map, sym, ◌∙◌, ap, arith, append-nil}
use Rattle.quilt_poly.specs.Edges.{edge_of}
use Rattle.quilt_poly.proofs.Listed.{edges_after-first, edges_after-last}
use Rattle.quilt_poly.proofs.edges.push_ring.Goals as goal

pub loop-i-init : goal.loop-i-init
loop-i-init c = ap (λ l. map edge_of c.args.edges.now.items ++ l) (edges_after-first c.args.ring.now)

pub returns : goal.returns
returns c =
    let edges = map edge_of c.loop-i.edges.items in
    sym (append-nil edges) ∙ ap (λ l. edges ++ l) (sym (edges_after-last c.args.ring.now c.loop-i.i (omega arith))) ∙ c.loop-i.invariant
