use Rattle.std.proofs.Common.{◌≡◌, ℕ, ◌+◌, ◌*◌, ◌^◌, ◌≤◌, length, sym, ◌∙◌, ap, subst, arith}
use Rattle.std.specs.List.{sum_by}
use Rattle.quilt_world.specs.Tale.{Goes}
use Rattle.quilt_types.specs.declared.plane.Block.{Block}
use Rattle.quilt_loc.specs.Codes.{code_to}
use Rattle.quilt_blocks.specs.Painting.{Painted, grid_by_code}
use Rattle.quilt_blocks.proofs.Painting.{Paints-none, Paints-all}
use Rattle.quilt_blocks.proofs.Squares.{code_to-whole}
use Rattle.quilt_blocks.proofs.Adding.{whole_next}
use Rattle.quilt_region.specs.Painting.{HasColours}
use Rattle.quilt_region.specs.Windows.{leaves_within}
use Rattle.quilt_region.specs.Covers.{cover_of, cover_colour, cost_in}
use Rattle.quilt_world.proofs.ReadCounts.{reads_more}
use Rattle.quilt_region.proofs.Covers.{agrees_from, side_same, cost_whole}
use Rattle.quilt_region.proofs.Parts.{window_room}
use Rattle.quilt_btree.proofs.Handed.{handed_on}
use Rattle.quilt_region.proofs.window.read_window.Goals as goal

pub side_over-side-requires-clause-width : goal.side_over-side-requires-clause-width
side_over-side-requires-clause-width g c = let r = window_room c.args.level c.args.w c.requires.level.1 c.requires.window in let x = r.0 in omega arith

pub side_over-side-requires-clause-height : goal.side_over-side-requires-clause-height
side_over-side-requires-clause-height g c = let r = window_room c.args.level c.args.w c.requires.level.1 c.requires.window in let y = r.1 in omega arith

pub put_window-requires-clause-next : goal.put_window-requires-clause-next
put_window-requires-clause-next g c = sym (whole_next _ _ _ c.whole_square-whole.ensures c.new-maker.ensures)

pub finish-requires : goal.finish-requires
finish-requires g c =
    let n = c.args.level in
    c.in_ok-put_window.ensures.end ∙ ap code_to c.whole_square-whole.ensures ∙ code_to-whole n ∙ ap (λ (k : ℕ). 4 ^ k) (sym c.in_ok-put_window.ensures.level)

pub returns-clause-list : goal.returns-clause-list
returns-clause-list g c grid h =
    let n = c.args.level in
    let s = c.side_over-side.result in
    let f = cover_colour n grid s c.args.w in
    let none = ap (λ (m : Painted). m.colours) c.new-maker.ensures in
    let start = Paints-none n f in
    let empty : HasColours n f c.new-maker.result.colours = subst (HasColours n f) (sym none) (record { each = start.each }) in
    let has = c.in_ok-put_window.ensures.colours grid h empty in
    let end : length c.put_window.new.maker.colours ≡ 4 ^ n = c.in_ok-put_window.ensures.end ∙ ap code_to c.whole_square-whole.ensures ∙ code_to-whole n in
    agrees_from n s c.args.w grid c.finish.result.grid c.requires.window c.side_over-side.ensures.power
    (c.finish.ensures.value ∙ ap (λ (k : ℕ). grid_by_code k c.put_window.new.maker.colours) c.in_ok-put_window.ensures.level
    ∙ Paints-all n f c.put_window.new.maker.colours c.requires.level.1 end (record { each = has.each }))

pub returns-clause-reads : goal.returns-clause-reads
returns-clause-reads g c grid s h over =
    let n = c.args.level in
    let own : ℕ → ℕ = λ (t : ℕ). sum_by (λ (b : Block). 12 + 3 * length (leaves_within n grid b)) (cover_of t c.args.w) in
    let t = c.side_over-side.result in
    let same : t ≡ s = side_same c.args.w t s c.side_over-side.ensures over in
    let all = cost_whole n grid (cover_of t c.args.w) c.whole_square-whole.result in
    subst (λ (k : ℕ). Goes {A = ℕ} (λ old new. new ≤ old + own k) (g.S.PageStore.reads c.args.store.now) (g.S.PageStore.reads c.put_window.new.store)) same
    (reads_more (cost_in n grid (cover_of t c.args.w) c.whole_square-whole.result) (own t) _ _ all (c.in_ok-put_window.ensures.reads grid h))

pub returns-in_err-put_window-clause-sound : goal.returns-in_err-put_window-clause-sound
returns-in_err-put_window-clause-sound g c = rw (handed_on c.from_residual.result c.from_residual.ensures.1) c.in_err-put_window.ensures.sound

pub returns-in_err-put_window-clause-zero : goal.returns-in_err-put_window-clause-zero
returns-in_err-put_window-clause-zero g c = rw (handed_on c.from_residual.result c.from_residual.ensures.1) c.in_err-put_window.ensures.zero

pub returns-in_err-put_window-clause-bad : goal.returns-in_err-put_window-clause-bad
returns-in_err-put_window-clause-bad g c = rw (handed_on c.from_residual.result c.from_residual.ensures.1) c.in_err-put_window.ensures.bad
