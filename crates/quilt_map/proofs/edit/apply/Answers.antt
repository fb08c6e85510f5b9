use Rattle.std.proofs.Common.{refl, sym, ◌∙◌}
use Rattle.std.proofs.lemmas.Bool.{false≢true}
use Rattle.std.proofs.lemmas.Result.{err_from_is_err_and}
use Rattle.quilt_btree.specs.Batches.{edit_all}
use Rattle.quilt_edition.specs.Books.{work_of}
use Rattle.quilt_map.specs.Sessions.{told_of, free_of}
use Rattle.quilt_map.proofs.states.Going.{goes_of, goes_both, whole_as}
use Rattle.quilt_map.proofs.edit.apply.Goals as goal

pub returns-clause-goes_on : goal.returns-clause-goes_on
returns-clause-goes_on g c =
    let a = c.args.book.now in
    let d = c.apply.new.store in
    goes_both {D = g.W.Disk} a d c.set_tree.new.self (goes_of {D = g.W.Disk} a d c.apply.ensures.left.later) c.set_tree.ensures.goes_on

pub returns-clause-edited : goal.returns-clause-edited
returns-clause-edited g c = λ rs whole.
    let a = c.args.book.now in
    let d = c.apply.new.store in
    let e = c.set_tree.new.self in
    let before = whole_as (told_of a) (told_of a) (free_of a) (free_of a) a.journal.pages a.journal.pages a.work c.head-head.result rs refl refl refl
    c.head-head.ensures.work whole in
    let made = c.in_ok-apply.ensures.edited rs before in
    let tree = record (work_of d) { root = c.apply.new.self.root; height = c.apply.new.self.height; records = c.apply.new.self.records } in (
      made.0,
      whole_as (told_of d) (told_of e) (free_of d) (free_of e) a.journal.pages a.journal.pages tree e.work (edit_all c.args.batch.now rs)
          c.set_tree.ensures.told c.set_tree.ensures.free refl c.set_tree.ensures.work made.1,
    )

pub returns-in_err-apply-clause-sound : goal.returns-in_err-apply-clause-sound
returns-in_err-apply-clause-sound g c =
    let p = err_from_is_err_and c.from_residual.result c.from_residual.ensures.1 in
    rw (p.1, p.2) (λ rs whole due page is.
    let a = c.args.book.now in
    let before = whole_as (told_of a) (told_of a) (free_of a) (free_of a) a.journal.pages a.journal.pages a.work c.head-head.result rs refl refl refl
    c.head-head.ensures.work whole in
    false≢true (sym (c.in_err-apply.ensures.fails rs before page is).1 ∙ due))
