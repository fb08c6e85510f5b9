use Rattle.std.proofs.Common.{◌≡◌, ℕ, ◌+◌, ◌*◌, ◌++◌, List, [], ◌∷◌, get_or, flat_map, ◌∙◌, ap, append_assoc, arith}
use Rattle.quilt_types.specs.Plane.{below}
use Rattle.quilt_raster.specs.Showing.{colour_digits, written_in}
use Rattle.quilt_raster.proofs.Rows.{flat_map_below}
use Rattle.quilt_raster.proofs.picture.push_rows.Goals as goal

pub loop-dy-preserved : goal.loop-dy-preserved
loop-dy-preserved c =
    let f = c.args.format in
    let dy = c.loop-dy.dy in
    let w = c.args.w.w in
    let row : ℕ → List ℕ = λ dy. flat_map (λ dx. colour_digits f (written_in f (get_or c.args.cells.now (dy * w + dx) 0))) (below w) in
    let line : ℕ → List ℕ = λ dy. row dy ++ 10 ∷ [] in
    let before = c.args.text.now ++ flat_map line (below dy) in
    c.in_ok-push.ensures.ok ∙ ap (λ l. l ++ 10 ∷ []) (c.in_ok-push_row.ensures ∙ ap (λ l. l ++ row dy) c.loop-dy.invariant)
    ∙ append_assoc before (row dy) (10 ∷ []) ∙ flat_map_below line c.args.text.now dy

pub returns : goal.returns
returns c =
    let f = c.args.format in
    let w = c.args.w.w in
    let line : ℕ → List ℕ = λ dy. flat_map (λ dx. colour_digits f (written_in f (get_or c.args.cells.now (dy * w + dx) 0))) (below w) ++ 10 ∷ [] in
    let all = c.loop-dy-test.false in
    let few = c.loop-dy.auto.dy-end in
    let is : c.loop-dy.dy ≡ c.args.w.h = omega arith in
    c.loop-dy.invariant ∙ ap (λ k. c.args.text.now ++ flat_map line (below k)) is
