use Rattle.std.proofs.Common.{◌≡◌, ℕ, ◌*◌, ◌≤◌, List, [], ◌∷◌, ◌++◌, flat_map, map, sym, ◌∙◌, ap, arith}
use Rattle.std.proofs.Math.Nat.{mul-le-mul_left}
use Rattle.std.proofs.lemmas.List.Folds.{flat_map-map}
use Rattle.quilt_loc.proofs.Blocks.{side_most}
use Rattle.quilt_types.specs.Plane.{below}
use Rattle.quilt_types.specs.Layers.{Grid}
use Rattle.quilt_raster.specs.Showing.{window_row, written_in, shown}
use Rattle.quilt_raster.proofs.Written.{map-written}
use Rattle.quilt_raster.proofs.picture.render.Goals as goal

-- a line with its newline
abbrev ended : List ℕ → List ℕ
ended line = line ++ 10 ∷ []

pub push_window-requires-clause-rows : goal.push_window-requires-clause-rows
push_window-requires-clause-rows c =
    let m = side_most c.args.list.now.level c.level-level.ensures.raster.most in
    let y = c.requires.in_y in
    omega arith

pub push_window-requires-clause-room : goal.push_window-requires-clause-room
push_window-requires-clause-room c h le few =
    let v = c.in_ok-cells.ensures.len in
    let d = c.deref_mut.ensures.len in
    let rows = c.min.ensures in
    let r = c.from-2.ensures in
    let wide : c.args.w.w * h ≡ c.from.result * h = ap (λ z. z * h) (sym c.from.ensures) in
    let room = mul-le-mul_left c.from.result (let e : h ≤ c.from-2.result = omega arith in e) in
    omega arith

pub returns-clause-shown : goal.returns-clause-shown
unfolding shown
returns-clause-shown c =
    let row : ℕ → List ℕ = window_row c.args.format c.args.list.now.level (map (written_in c.args.format) c.args.list.now.grid) c.args.w in
    let lines = flat_map (λ dy. ended (row dy)) (below c.args.w.h) in
    c.in_ok-push_window.ensures ∙ ap (λ l. l ++ lines) c.new-text.ensures ∙ sym (flat_map-map ended row (below c.args.w.h))

pub returns-clause-rows : goal.returns-clause-rows
returns-clause-rows c grid =
    let f = c.args.format in
    let n = c.args.list.now.level in
    let g = c.args.list.now.grid in
    let w = c.args.w in
    let row : ℕ → List ℕ = window_row f n (map (written_in f) g) w in
    let lines = flat_map (λ dy. ended (row dy)) (below w.h) in
    c.in_ok-push_window.ensures ∙ ap (λ l. l ++ lines) c.new-text.ensures ∙ sym (flat_map-map ended row (below w.h))
    ∙ ap (λ (h : Grid). flat_map ended (map (window_row f n h w) (below w.h))) (map-written f g grid.colours)
