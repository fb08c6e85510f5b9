use Rattle.std.proofs.Common.{refl, sym}
use Rattle.std.proofs.lemmas.Result.{err_from_is_err_and}
use Rattle.quilt_node.specs.Nodes.{keys_of}
use Rattle.quilt_btree.specs.Runs.{put_all, without_all}
use Rattle.quilt_edition.specs.Books.{pages_of, work_of}
use Rattle.quilt_map.specs.Sessions.{told_of, free_of}
use Rattle.quilt_map.proofs.answers.Asked.{if_ok, if_err}
use Rattle.quilt_map.proofs.states.Going.{goes_both, whole_as}
use Rattle.quilt_map.proofs.states.Causes.{cause_then}
use Rattle.quilt_map.proofs.edit.edit_records.Goals as goal

pub returns-in_err-edit_merged-clause-sound : goal.returns-in_err-edit_merged-clause-sound
returns-in_err-edit_merged-clause-sound g c =
    let p = err_from_is_err_and c.from_residual.result c.from_residual.ensures.1 in
    rw (p.1, p.2) (λ rs whole old new each none. c.in_err-edit_merged.ensures.sound rs whole old refl each refl)

pub returns-clause-edited : goal.returns-clause-edited
returns-clause-edited g c =
    if_ok _ _ c.edit_merged-3.result (λ u p rs whole.
    let a = c.args.book.now in
    let b = c.edit_merged-2.new.book in
    let d = c.edit_merged-3.new.book in
    let left = without_all (keys_of c.args.removed.now) rs in
    let size = c.edit_merged-2.ensures.goes_on.0 in
    let gone = c.in_ok-edit_merged.ensures.edited rs whole in
    let there = whole_as (told_of b) (told_of b) (free_of b) (free_of b) (pages_of a) (pages_of b) (work_of b) (work_of b) left refl refl size refl gone in
    whole_as (told_of d) (told_of d) (free_of d) (free_of d) (pages_of b) (pages_of a) (work_of d) (work_of d) (put_all c.args.added.now left)
    refl refl (sym size) refl (p left there)) c.edit_merged-3.ensures.edited

pub returns-clause-sound : goal.returns-clause-sound
returns-clause-sound g c =
    if_err _ _ c.edit_merged-3.result (λ e p rs whole old new each none.
    let a = c.args.book.now in
    let b = c.edit_merged-2.new.book in
    let left = without_all (keys_of c.args.removed.now) rs in
    let size = c.edit_merged-2.ensures.goes_on.0 in
    let gone = c.in_ok-edit_merged.ensures.edited rs whole in
    let there = whole_as (told_of b) (told_of b) (free_of b) (free_of b) (pages_of a) (pages_of b) (work_of b) (work_of b) left refl refl size refl gone in
    p left there refl new refl none) c.edit_merged-3.ensures.sound

pub returns-clause-goes_on : goal.returns-clause-goes_on
returns-clause-goes_on g c =
    goes_both {D = g.W.Disk} c.args.book.now c.edit_merged-2.new.book c.edit_merged-3.new.book c.edit_merged-2.ensures.goes_on c.edit_merged-3.ensures.goes_on

pub returns-clause-cause : goal.returns-clause-cause
returns-clause-cause g c = cause_then c.edit_merged-2.ensures.cause c.edit_merged-3.ensures.cause
