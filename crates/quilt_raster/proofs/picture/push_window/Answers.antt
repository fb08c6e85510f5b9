use Rattle.std.proofs.Common.{◌≡◌, ℕ, ◌+◌, ◌*◌, List, [], ◌∷◌, ◌++◌, get_or, flat_map, map, ◌∙◌, ap, arith, append_assoc}
use Rattle.quilt_types.specs.Plane.{below}
use Rattle.quilt_raster.specs.Showing.{colour_digits, window_row, written_in}
use Rattle.quilt_raster.proofs.Rows.{row_painted, row_within, rows_joined}
use Rattle.quilt_raster.proofs.picture.push_window.Goals as goal

pub loop-done-preserved : goal.loop-done-preserved
loop-done-preserved c =
    let f = c.args.format in
    let n = c.args.list.now.level in
    let g = c.args.list.now.grid in
    let w = c.args.w in
    let s = c.strip_from-strip.result in
    let v = c.strip_from-strip.ensures in
    let y = v.y in
    let done = c.loop-done.done in
    let cells = c.paint_window.new.cells in
    let row : ℕ → List ℕ = λ dy. window_row f n (map (written_in f) g) w dy ++ 10 ∷ [] in
    let line : ℕ → List ℕ = λ dy. flat_map (λ dx. colour_digits f (written_in f (get_or cells (dy * s.w + dx) 0))) (below s.w) ++ 10 ∷ [] in
    record {
      inside = v.inside;
      long = c.paint_window.ensures.long ∙ c.loop-done.invariant.long;
      lines = c.in_ok-push_rows.ensures ∙ ap (λ l. l ++ flat_map line (below s.h)) c.loop-done.invariant.lines
          ∙ append_assoc c.args.text.now (flat_map row (below done)) (flat_map line (below s.h))
          ∙ ap (λ l. c.args.text.now ++ l)
          (rows_joined row line done s.h
          (λ i lt. ap (λ l. l ++ 10 ∷ []) (row_painted f n g s cells i lt c.paint_window.ensures.painted
          ∙ row_within f n (map (written_in f) g) s w i (done + i) v.x v.wide (omega arith))));
    }

pub returns : goal.returns
returns c =
    let row : ℕ → List ℕ = λ dy. window_row c.args.format c.args.list.now.level (map (written_in c.args.format) c.args.list.now.grid) c.args.w dy ++ 10 ∷ [] in
    let inside = c.loop-done.invariant.inside in
    let all = c.loop-done-test.false in
    let is : c.loop-done.done ≡ c.args.w.h = omega arith in
    c.loop-done.invariant.lines ∙ ap (λ k. c.args.text.now ++ flat_map row (below k)) is
