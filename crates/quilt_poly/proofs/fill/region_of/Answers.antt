use Rattle.std.proofs.Common.{◌≡◌, ℕ, List, IfOk, count_by, ◌∙◌, ap, subst}
use Rattle.quilt_types.specs.Plane.{side}
use Rattle.quilt_types.specs.Layers.{Grid}
use Rattle.quilt_types.specs.Algebra.{grid_of}
use Rattle.quilt_types.specs.Polygons.{filled_rings}
use Rattle.quilt_poly.specs.declared.edges.RingEdge.{RingEdge}
use Rattle.quilt_poly.specs.Edges.{crosses}
use Rattle.quilt_poly.specs.Bits.{colour_in, HasParities}
use Rattle.quilt_poly.proofs.Fillings.{filled_is}
use Rattle.quilt_poly.proofs.fill.region_of.Goals as goal

pub returns : goal.returns
returns c =
    let n = c.args.level in
    let words = c.in_ok-words.words.items in
    let edges = c.in_ok-edges.edges.items in
    let odd = subst (λ (l : List RingEdge). HasParities (side n) (λ p. count_by (crosses p) l) words) c.deref.ensures.value c.in_ok-words.ensures.odd in
    let grid : grid_of n (colour_in c.deref-2.result.now (side n) c.args.c.0) ≡ filled_rings n c.args.rings.now c.args.c.0 =
    ap (λ (l : List ℕ). grid_of n (colour_in l (side n) c.args.c.0)) c.deref-2.ensures.value
    ∙ filled_is n words edges c.args.rings.now c.args.c.0 c.in_ok-edges.ensures odd in
    subst (λ (g : Grid). IfOk c.gathered.result (λ list. list ≡ record { level = n; grid = g })) grid c.gathered.ensures
