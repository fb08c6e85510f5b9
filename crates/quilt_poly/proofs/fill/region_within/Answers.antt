use Rattle.std.proofs.Common.{◌≡◌, ℕ, List, length, ⊎_elim, count_by, refl, sym, ◌∙◌, ap, subst, arith}
use Rattle.std.proofs.lemmas.Bool.{cases_lt, true≢false}
use Rattle.quilt_types.specs.Plane.{side}
use Rattle.quilt_types.specs.Layers.{Grid}
use Rattle.quilt_types.specs.Algebra.{grid_of}
use Rattle.quilt_types.specs.Polygons.{filled_rings}
use Rattle.quilt_blocks.specs.Cutting.{leaves_by_code}
use Rattle.quilt_poly.specs.declared.edges.RingEdge.{RingEdge}
use Rattle.quilt_poly.specs.Edges.{crosses}
use Rattle.quilt_poly.specs.Bits.{colour_in, HasParities}
use Rattle.quilt_poly.proofs.Fillings.{filled_is}
use Rattle.quilt_poly.proofs.fill.region_within.Goals as goal

pub returns-then-not-has_few_leaves-clause-none : goal.returns-then-not-has_few_leaves-clause-none
returns-then-not-has_few_leaves-clause-none c =
    let n = c.args.level in
    let words = c.in_ok-words.words.items in
    let odd = subst (λ (l : List RingEdge). HasParities (side n) (λ p. count_by (crosses p) l) words) c.deref.ensures.value c.in_ok-words.ensures.odd in
    let grid : grid_of n (colour_in c.deref-2.result.now (side n) c.args.c.0) ≡ filled_rings n c.args.rings.now c.args.c.0 =
    ap (λ (l : List ℕ). grid_of n (colour_in l (side n) c.args.c.0)) c.deref-2.ensures.value
    ∙ filled_is n words c.in_ok-edges.edges.items c.args.rings.now c.args.c.0 c.in_ok-edges.ensures odd in
    let count = ap (λ (g : Grid). length (leaves_by_code n g)) grid in
    let many = c.if-not-has_few_leaves.true in (
      λ none. ⊎_elim (λ lt. lt) (λ le. absurd (true≢false (sym (c.has_few_leaves.ensures.1 (omega arith)) ∙ many)))
          (cases_lt c.args.most (length (leaves_by_code n (filled_rings n c.args.rings.now c.args.c.0)))),
      λ over. refl,
    )

pub returns-clause-some : goal.returns-clause-some
returns-clause-some c =
    let n = c.args.level in
    let words = c.in_ok-words.words.items in
    let odd = subst (λ (l : List RingEdge). HasParities (side n) (λ p. count_by (crosses p) l) words) c.deref.ensures.value c.in_ok-words.ensures.odd in
    let grid : grid_of n (colour_in c.deref-3.result.now (side n) c.args.c.0) ≡ filled_rings n c.args.rings.now c.args.c.0 =
    ap (λ (l : List ℕ). grid_of n (colour_in l (side n) c.args.c.0)) c.deref-3.ensures.value
    ∙ filled_is n words c.in_ok-edges.edges.items c.args.rings.now c.args.c.0 c.in_ok-edges.ensures odd in
    subst (λ (g : Grid). c.in_ok-list.list ≡ record { level = n; grid = g }) grid c.in_ok-list.ensures

pub returns-clause-none : goal.returns-clause-none
returns-clause-none c =
    let n = c.args.level in
    let words = c.in_ok-words.words.items in
    let odd = subst (λ (l : List RingEdge). HasParities (side n) (λ p. count_by (crosses p) l) words) c.deref.ensures.value c.in_ok-words.ensures.odd in
    let grid : grid_of n (colour_in c.deref-2.result.now (side n) c.args.c.0) ≡ filled_rings n c.args.rings.now c.args.c.0 =
    ap (λ (l : List ℕ). grid_of n (colour_in l (side n) c.args.c.0)) c.deref-2.ensures.value
    ∙ filled_is n words c.in_ok-edges.edges.items c.args.rings.now c.args.c.0 c.in_ok-edges.ensures odd in
    let count = ap (λ (g : Grid). length (leaves_by_code n g)) grid in
    let few = c.has_few_leaves.ensures.0 c.if-not-has_few_leaves.false in
    (λ some. absurd (true≢false some), λ over. absurd (omega arith))
