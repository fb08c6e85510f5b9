use Rattle.std.proofs.Common.{◌≡◌, ◌≤◌, ◌+◌, ◌∙◌, ℕ, true, count_by, sym, ap, subst, arith}
use Rattle.std.proofs.lemmas.Result.{err_from_is_err_and}
use Rattle.quilt_world.specs.Tale.{Goes}
use Rattle.std.specs.Prelude.{◌==◌}
use Rattle.quilt_types.specs.declared.plane.Block.{Block}
use Rattle.quilt_types.specs.Plane.{side}
use Rattle.quilt_types.specs.Quadtrees.{is_reached}
use Rattle.quilt_near.proofs.Reached.{reached_whole}
use Rattle.quilt_lines.specs.Counting.{held_in, pages_in}
use Rattle.quilt_lines.proofs.Counts.{all_held, zeros_at, first_room}
use Rattle.quilt_btree.proofs.Handed.{handed_on}
use Rattle.quilt_lines.proofs.tally.block_counts.Goals as goal

pub count_in-requires-clause-room : goal.count_in-requires-clause-room
count_in-requires-clause-room g c j = first_room c.args.level _ c.requires.level.1 (zeros_at 13 j)

pub returns-in_err-count_in-clause-sound : goal.returns-in_err-count_in-clause-sound
returns-in_err-count_in-clause-sound g c =
    let p = err_from_is_err_and c.from_residual.result c.from_residual.ensures.1 in
    rw (p.1, p.2) (λ t segs cover h. let valid = h.spelled.valid in
    c.in_err-count_in.ensures.sound t segs cover h
    (subst (λ (b : Block). is_reached cover b ≡ true) (sym c.whole_square.ensures)
    (reached_whole c.args.level (record { segs = segs; cover = cover }) (record { inside = valid.inside; each = valid.each; once = valid.once }))))

pub returns-clause-counts : goal.returns-clause-counts
returns-clause-counts g c t segs cover h k small =
    let zero = zeros_at 13 k in
    let test = λ (b : Block). b.side == side k in
    let all = all_held c.args.level t segs cover h.spelled.valid test in
    let square = ap (λ (b : Block). count_by test (held_in cover c.args.level b)) c.whole_square.ensures in
    let count = c.in_ok-count_in.ensures.counts t segs cover h k in
    count ∙ ap (λ (m : ℕ). m + count_by test (held_in cover c.args.level c.whole_square.result)) zero
    ∙ (let e : 0 + count_by test (held_in cover c.args.level c.whole_square.result) ≡ count_by test
    (held_in cover c.args.level c.whole_square.result) = omega arith in e) ∙ square ∙ all

pub returns-clause-reads : goal.returns-clause-reads
returns-clause-reads g c t segs cover h =
    subst (λ (b : Block). Goes {A = ℕ} (λ old new. new ≤ old + pages_in cover c.args.level b) (g.S.PageStore.reads c.args.store.now)
    (g.S.PageStore.reads c.count_in.new.store)) c.whole_square.ensures (c.in_ok-count_in.ensures.reads t segs cover h)

pub returns-in_err-count_in-clause-zero : goal.returns-in_err-count_in-clause-zero
returns-in_err-count_in-clause-zero g c = rw (handed_on c.from_residual.result c.from_residual.ensures.1) c.in_err-count_in.ensures.zero
