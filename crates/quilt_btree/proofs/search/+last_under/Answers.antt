use Rattle.quilt_store.proofs.Reading.{only_reads_then}
use Rattle.quilt_btree.proofs.ways.Looked.{read_of, leaf_sound}
use Rattle.quilt_btree.proofs.ways.Forks.{last_on, sound_last, touched_last, again_last}
use Rattle.quilt_btree.proofs.ways.Damage.{names_below}
use Rattle.quilt_btree.proofs.Handed.{handed_on}
use Rattle.quilt_btree.proofs.search.+last_under.Goals as goal

pub returns-then-height-eq1-clause-sound : goal.returns-then-height-eq1-clause-sound
returns-then-height-eq1-clause-sound g t c =
    leaf_sound (g.S.PageStore.told c.args.store.now) c.args.page c.args.height c.last_at.result c.if-height-eq1.true c.last_at.ensures.sound

pub returns-in_err-child-clause-sound : goal.returns-in_err-child-clause-sound
returns-in_err-child-clause-sound g t c =
    rw (handed_on c.from_residual.result c.from_residual.ensures.1)
    (λ rs s. c.in_err-child.ensures.sound c.args.height rs c.requires.height c.if-height-eq1.false s)

pub returns-in_err-child-clause-bad : goal.returns-in_err-child-clause-bad
returns-in_err-child-clause-bad g t c =
    rw (handed_on c.from_residual.result c.from_residual.ensures.1) (c.in_err-child.ensures.bad c.args.height c.requires.height c.if-height-eq1.false)

pub returns-clause-last : goal.returns-clause-last
returns-clause-last g t c =
    last_on (g.S.PageStore.told c.args.store.now) (g.S.PageStore.told c.last_child_at.new.store) c.args.page c.args.height
    (g.S.PageStore.size c.args.store.now) c.in_ok-child.ensures.shows.bytes c.in_ok-child.child c.last_under.result
    (read_of c.in_ok-child.ensures.looks c.requires.height c.if-height-eq1.false (g.met.S.PageStore.as_many c.args.store.now) c.in_ok-child.ensures.shows.are)
    c.in_ok-child.ensures.shows.last c.last_under.ensures.last

pub returns-clause-sound : goal.returns-clause-sound
returns-clause-sound g t c =
    sound_last (g.S.PageStore.told c.args.store.now) (g.S.PageStore.told c.last_child_at.new.store) c.args.page c.args.height
    (g.S.PageStore.size c.args.store.now) c.in_ok-child.ensures.shows.bytes c.in_ok-child.child c.last_under.result
    (read_of c.in_ok-child.ensures.looks c.requires.height c.if-height-eq1.false (g.met.S.PageStore.as_many c.args.store.now) c.in_ok-child.ensures.shows.are)
    c.in_ok-child.ensures.shows.last c.last_under.ensures.sound

pub returns-clause-touched : goal.returns-clause-touched
returns-clause-touched g t c = touched_last c.last_under.result
    (g.S.PageStore.held c.args.store.now) (g.S.PageStore.held c.last_child_at.new.store) (g.S.PageStore.held c.last_under.new.store)
    (read_of c.in_ok-child.ensures.looks c.requires.height c.if-height-eq1.false (g.met.S.PageStore.as_many c.args.store.now) c.in_ok-child.ensures.shows.are)
    c.in_ok-child.ensures.shows.last c.in_ok-child.ensures.looks.held c.last_under.ensures.touched

pub returns-clause-again : goal.returns-clause-again
returns-clause-again g t c = again_last (g.S.PageStore.told c.args.store.now)
    (g.S.PageStore.told c.last_child_at.new.store)
    c.args.page c.args.height (g.S.PageStore.size c.args.store.now) (g.S.PageStore.reads c.last_under.new.store)
    (read_of c.in_ok-child.ensures.looks c.requires.height c.if-height-eq1.false (g.met.S.PageStore.as_many c.args.store.now) c.in_ok-child.ensures.shows.are)
    c.in_ok-child.ensures.shows.last (record { touched = c.in_ok-child.ensures.looks.held; free = c.in_ok-child.ensures.looks.held_is_free }) c.last_under.ensures.again

pub returns-clause-bad : goal.returns-clause-bad
returns-clause-bad g t c =
    names_below c.last_under.result c.in_ok-child.child
    (read_of c.in_ok-child.ensures.looks c.requires.height c.if-height-eq1.false (g.met.S.PageStore.as_many c.args.store.now) c.in_ok-child.ensures.shows.are)
    c.in_ok-child.ensures.shows.stands c.last_under.ensures.bad

pub returns-clause-left : goal.returns-clause-left
returns-clause-left g t c = only_reads_then _ g.met.S.PageStore.goes_on _ _ _ c.in_ok-child.ensures.looks.left c.last_under.ensures.left
