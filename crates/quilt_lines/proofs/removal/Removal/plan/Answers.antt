use Rattle.std.proofs.Common.{◌≡◌, ◌≤◌, ◌+◌, true, sym, subst, ap}
use Rattle.std.proofs.lemmas.Result.{IfOk-weaker, IfErr-weaker, err_from_is_err_and}
use Rattle.quilt_types.specs.declared.plane.Block.{Block}
use Rattle.quilt_types.specs.Plane.{whole, IsBlock}
use Rattle.quilt_types.specs.Quadtrees.{is_reached, reach}
use Rattle.quilt_world.specs.Tale.{Goes}
use Rattle.quilt_near.proofs.Reached.{reached_whole}
use Rattle.quilt_loc.proofs.Quartered.{IsBlock-whole}
use Rattle.quilt_lines.specs.Merges.{SettlesBlock}
use Rattle.quilt_lines.specs.Bounds.{is_met_above, due}
use Rattle.quilt_lines.proofs.Costs.{due_whole, whole_above}
use Rattle.quilt_lines.proofs.Sums.{reads_more}
use Rattle.quilt_lines.proofs.Results.{if_ok_any}
use Rattle.quilt_btree.proofs.Handed.{handed_on}
use Rattle.quilt_lines.proofs.removal.Removal.plan.Goals as goal

pub settle-requires-clause-block : goal.settle-requires-clause-block
settle-requires-clause-block g c = subst (IsBlock c.args.self.now.level) (sym c.whole_square.ensures) (IsBlock-whole c.args.self.now.level)

pub returns-in_err-all-clause-sound : goal.returns-in_err-all-clause-sound
returns-in_err-all-clause-sound g c =
    let p = err_from_is_err_and c.from_residual.result c.from_residual.ensures.1 in
    rw (p.1, p.2) (λ segs cover h had. c.in_err-all.ensures.sound segs cover h)

pub returns-clause-plan : goal.returns-clause-plan
returns-clause-plan g c =
    let r = c.args.self.now in
    IfOk-weaker c.edits.result _ _ (λ e f segs cover h had.
    f segs cover h.spelled.valid had (subst (λ (b : Block). SettlesBlock r.level r.layer r.threshold r.id segs cover r.segment r.level b c.in_ok-all.all)
    c.whole_square.ensures
    (c.in_ok-all.ensures.settled r.level segs cover (ap (λ (b : Block). b.side) c.whole_square.ensures) h))) c.edits.ensures.plan

pub returns-clause-sound : goal.returns-clause-sound
returns-clause-sound g c =
    let r = c.args.self.now in
    IfErr-weaker c.edits.result _ _ (λ e f segs cover h had.
    f segs cover h.spelled.valid had (subst (λ (b : Block). SettlesBlock r.level r.layer r.threshold r.id segs cover r.segment r.level b c.in_ok-all.all)
    c.whole_square.ensures
    (c.in_ok-all.ensures.settled r.level segs cover (ap (λ (b : Block). b.side) c.whole_square.ensures) h))) c.edits.ensures.sound

pub returns-clause-reads : goal.returns-clause-reads
returns-clause-reads g c =
    let r = c.args.self.now in
    if_ok_any c.edits.result _ (λ e segs cover h.
    let valid = h.spelled.valid in
    let counts = is_met_above r.level r.segment in
    reads_more _ _ (due r.level counts segs cover (whole r.level)) (reach r.level segs cover counts) (due_whole r.level counts segs cover)
    (subst (λ (b : Block). Goes (λ old new. new ≤ old + due r.level counts segs cover b) (g.S.PageStore.reads c.args.store.now)
    (g.S.PageStore.reads c.settle.new.store)) c.whole_square.ensures
    (c.in_ok-all.ensures.reads segs cover h
    (subst (λ (b : Block). is_reached cover b ≡ true) (sym c.whole_square.ensures)
    (reached_whole r.level (record { segs = segs; cover = cover }) (record { inside = valid.inside; each = valid.each; once = valid.once })))
    (subst (λ (b : Block). counts b ≡ true) (sym c.whole_square.ensures) (whole_above r.level r.segment)))))

pub settle-requires-clause-search : goal.settle-requires-clause-search
settle-requires-clause-search g c =
    let r = c.args.self.now in
    c.new-search.ensures (g.S.PageStore.told c.args.store.now) c.args.tree.now r.level r.layer

pub returns-clause-zero : goal.returns-clause-zero
returns-clause-zero g c = IfErr-weaker c.edits.result _ _ (λ e zero rs is. zero) c.edits.ensures.zero

pub returns-in_err-all-clause-zero : goal.returns-in_err-all-clause-zero
returns-in_err-all-clause-zero g c = rw (handed_on c.from_residual.result c.from_residual.ensures.1) c.in_err-all.ensures.zero
