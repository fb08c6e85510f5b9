use Rattle.std.proofs.Common.{ℕ, ◌+◌, ◌*◌, ◌≤◌, ◌++◌, List, sym, ◌∙◌, ap, subst}
use Rattle.std.proofs.lemmas.Result.{err_from_is_err_and}
use Rattle.quilt_types.specs.declared.plane.Point.{Point}
use Rattle.quilt_types.specs.declared.plane.Block.{Block}
use Rattle.quilt_types.specs.Plane.{in_window, in_block, IsBlock}
use Rattle.quilt_loc.proofs.Quartered.{IsBlock-whole}
use Rattle.quilt_points.specs.Layers.{point_entries}
use Rattle.quilt_world.specs.Tale.{Goes}
use Rattle.quilt_points.specs.Windows.{visited}
use Rattle.quilt_points.specs.Reads.{ArePointsOf}
use Rattle.quilt_points.proofs.Windows.{open_whole, inside_whole, whole_pixel, rows_are}
use Rattle.quilt_btree.proofs.Handed.{handed_on}
use Rattle.quilt_points.proofs.window.within.Goals as goal

pub add_within-requires-clause-block : goal.add_within-requires-clause-block
add_within-requires-clause-block g c = subst (IsBlock c.args.level) (sym c.whole_square-whole.ensures) (IsBlock-whole c.args.level)

pub returns-in_err-add_within-clause-sound : goal.returns-in_err-add_within-clause-sound
returns-in_err-add_within-clause-sound g c =
    let p = err_from_is_err_and c.from_residual.result c.from_residual.ensures.1 in
    rw (p.1, p.2) (λ points h. c.in_err-add_within.ensures.sound points h (open_whole c.args.level c.args.bucket points c.whole_square-whole.result c.whole_square-whole.ensures))

pub returns-in-Ok-clause-points : goal.returns-in-Ok-clause-points
returns-in-Ok-clause-points g c points h =
    let f = c.in_ok-add_within.ensures.found points h (open_whole c.args.level c.args.bucket points c.whole_square-whole.result c.whole_square-whole.ensures) in
    rows_are points c.args.level (inside_whole c.args.level c.args.bucket points h.spelled.valid) c.args.w c.add_within.new.found.items
    c.whole_square-whole.result c.whole_square-whole.ensures
    (subst (λ (l : List Point). ArePointsOf points (in_window c.args.w) c.whole_square-whole.result (point_entries l))
    (sym (f.1 ∙ ap (λ (l : List Point). l ++ f.0) c.new-found.ensures.items)) f.2)
    c.in-Ok.list c.in-Ok.ensures.permutation c.in-Ok.ensures.sorted

pub returns-in-Ok-clause-covered : goal.returns-in-Ok-clause-covered
returns-in-Ok-clause-covered g c rs p is inside on =
    c.in_ok-add_within.ensures.covered rs p is inside (ap (λ (b : Block). in_block b p) c.whole_square-whole.ensures ∙ whole_pixel c.args.level p on)

pub returns-in-Ok-clause-reads : goal.returns-in-Ok-clause-reads
returns-in-Ok-clause-reads g c points h =
    subst (λ (b : Block). Goes {A = ℕ} (λ x y. y ≤ x + (6 + 3 * c.args.bucket) * visited c.args.level c.args.bucket points c.args.w b)
    (g.S.PageStore.reads c.args.store.now) (g.S.PageStore.reads c.add_within.new.store)) c.whole_square-whole.ensures
    (c.in_ok-add_within.ensures.reads points c.args.level h
    (open_whole c.args.level c.args.bucket points c.whole_square-whole.result c.whole_square-whole.ensures)
    (ap (λ (b : Block). b.side) c.whole_square-whole.ensures))

pub add_within-requires-clause-search : goal.add_within-requires-clause-search
add_within-requires-clause-search g c =
    c.new-search.ensures (g.S.PageStore.told c.args.store.now) c.args.tree.now c.args.level c.args.bucket c.args.layer

pub returns-in_err-add_within-clause-zero : goal.returns-in_err-add_within-clause-zero
returns-in_err-add_within-clause-zero g c = rw (handed_on c.from_residual.result c.from_residual.ensures.1) c.in_err-add_within.ensures.zero

pub returns-in_err-add_within-clause-bad : goal.returns-in_err-add_within-clause-bad
returns-in_err-add_within-clause-bad g c = rw (handed_on c.from_residual.result c.from_residual.ensures.1) c.in_err-add_within.ensures.bad
