use Rattle.std.proofs.Common.{◌+◌, ◌∷◌, sym, ◌∙◌, ap, arith}
use Rattle.quilt_poly.specs.Edges.{edges_after}
use Rattle.quilt_poly.proofs.Listed.{inner_edge, last_edge}
use Rattle.quilt_poly.proofs.edges.edge_at.Goals as goal

pub returns-then-i-ring : goal.returns-then-i-ring
returns-then-i-ring c =
    let ring = c.args.ring.now in
    let i = c.args.i in
    inner_edge ring i (record { x = 0; y = 0 }) c.if-i-ring.true ∙ ap (λ e. e ∷ edges_after ring (i + 1)) (sym c.edge_between.ensures)

pub returns-else-i-ring : goal.returns-else-i-ring
returns-else-i-ring c =
    let ring = c.args.ring.now in
    let i = c.args.i in
    let lt = c.requires in
    let le = c.if-i-ring.false in
    last_edge ring i (record { x = 0; y = 0 }) (omega arith) ∙ ap (λ e. e ∷ edges_after ring (i + 1)) (sym c.edge_between-else-i-ring.ensures)
