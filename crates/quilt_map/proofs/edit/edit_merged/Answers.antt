use Rattle.std.proofs.lemmas.Result.{err_from_is_err_and}
use Rattle.quilt_map.proofs.states.Edited.{edited_changed, edited_count, edited_left, edited_less, edited_none, edited_on, edited_room, edited_sound, edited_whole}
use Rattle.quilt_map.proofs.states.Going.{goes_both}
use Rattle.quilt_map.proofs.edit.edit_merged.Goals as goal

pub loop-part-init : goal.loop-part-init
loop-part-init g c = edited_none {D = g.W.Disk} c.args.removed.now c.args.added.now c.args.book.now

pub loop-part-preserved : goal.loop-part-preserved
loop-part-preserved g c =
    edited_on {D = g.W.Disk} c.args.removed.now c.args.added.now c.loop-part.goes.now c.loop-part.comes.now c.args.book.now c.loop-part.book
    c.loop-part.invariant c.in-Some.part.batch c.in-Some.part.goes.now c.in-Some.part.comes.now (rw c.in-Some.is at c.in_ok-part.ensures.part)
    c.apply.new.book
    (record {
      whole = c.in_ok-apply.ensures.edited;
      head = c.in_ok-apply.ensures.head;
      count = c.in_ok-apply.ensures.count;
      goes_on = c.in_ok-apply.ensures.goes_on;
      used = c.in_ok-apply.ensures.used;
      changed = c.in_ok-apply.ensures.changed;
      reads = c.in_ok-apply.ensures.reads;
      faults = c.in_ok-apply.ensures.cause.later;
    })

pub apply-requires : goal.apply-requires
apply-requires g c =
    edited_room {D = g.W.Disk} c.args.removed.now c.args.added.now c.loop-part.goes.now c.loop-part.comes.now c.args.book.now c.loop-part.book
    c.loop-part.invariant c.in-Some.part.batch c.in-Some.part.goes.now c.in-Some.part.comes.now (rw c.in-Some.is at c.in_ok-part.ensures.part)
    c.requires.room

pub returns-in_err-part-clause-sound : goal.returns-in_err-part-clause-sound
returns-in_err-part-clause-sound g c =
    let p = err_from_is_err_and c.from_residual.result c.from_residual.ensures.1 in
    rw (p.1, p.2) (λ rs whole old new each none.
    let left = edited_left {D = g.W.Disk} c.args.removed.now c.args.added.now c.loop-part.goes.now c.loop-part.comes.now c.args.book.now
    c.loop-part.book c.loop-part.invariant old new in
    c.in_err-part.ensures.sound left.0 left.1)

pub returns-in_err-part-clause-changed : goal.returns-in_err-part-clause-changed
returns-in_err-part-clause-changed g c =
    edited_changed {D = g.W.Disk} c.args.removed.now c.args.added.now c.loop-part.goes.now c.loop-part.comes.now c.args.book.now c.loop-part.book
    c.loop-part.invariant

pub returns-in_err-apply-clause-sound : goal.returns-in_err-apply-clause-sound
returns-in_err-apply-clause-sound g c =
    let p = err_from_is_err_and c.from_residual-in_err-apply.result c.from_residual-in_err-apply.ensures.1 in
    rw (p.1, p.2) (λ rs whole old new each none.
    edited_sound {D = g.W.Disk} c.args.removed.now c.args.added.now c.loop-part.goes.now c.loop-part.comes.now c.args.book.now c.loop-part.book
    c.loop-part.invariant c.in-Some.part.batch c.in-Some.part.goes.now c.in-Some.part.comes.now (rw c.in-Some.is at c.in_ok-part.ensures.part)
    _ c.in_err-apply.ensures.sound rs whole old each none)

pub returns-in_err-apply-clause-goes_on : goal.returns-in_err-apply-clause-goes_on
returns-in_err-apply-clause-goes_on g c =
    goes_both {D = g.W.Disk} c.args.book.now c.loop-part.book c.apply.new.book c.loop-part.invariant.made.goes_on c.apply.ensures.goes_on

pub returns-in_err-apply-clause-changed : goal.returns-in_err-apply-clause-changed
returns-in_err-apply-clause-changed g c =
    edited_less {D = g.W.Disk} c.args.removed.now c.args.added.now c.loop-part.goes.now c.loop-part.comes.now c.args.book.now c.loop-part.book
    c.loop-part.invariant c.in-Some.part.batch c.in-Some.part.goes.now c.in-Some.part.comes.now (rw c.in-Some.is at c.in_ok-part.ensures.part)
    c.apply.new.book c.apply.ensures.changed

pub returns-clause-edited : goal.returns-clause-edited
returns-clause-edited g c =
    edited_whole {D = g.W.Disk} c.args.removed.now c.args.added.now c.loop-part.goes.now c.loop-part.comes.now c.args.book.now c.loop-part.book
    c.loop-part.invariant (c.in_ok-part.ensures.none c.in_default.is)

pub returns-clause-count : goal.returns-clause-count
returns-clause-count g c =
    edited_count {D = g.W.Disk} c.args.removed.now c.args.added.now c.loop-part.goes.now c.loop-part.comes.now c.args.book.now c.loop-part.book
    c.loop-part.invariant (c.in_ok-part.ensures.none c.in_default.is)
