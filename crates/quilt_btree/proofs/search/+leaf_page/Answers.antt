use Rattle.quilt_store.proofs.Reading.{only_reads_then}
use Rattle.quilt_btree.proofs.ways.Forks.{leaf_led, led_page, sound_on}
use Rattle.quilt_btree.proofs.ways.Damage.{names_below}
use Rattle.quilt_btree.proofs.ways.Looked.{read_of}
use Rattle.quilt_btree.proofs.Handed.{handed_on}
use Rattle.quilt_btree.proofs.search.+leaf_page.Goals as goal

pub returns-then-height-eq1-clause-leads : goal.returns-then-height-eq1-clause-leads
returns-then-height-eq1-clause-leads g t c = λ rs s bytes are.
    leaf_led c.args.page c.args.height bytes (g.S.PageStore.told c.args.store.now) c.args.k.now c.if-height-eq1.true are rs s

pub returns-in_err-fork-clause-sound : goal.returns-in_err-fork-clause-sound
returns-in_err-fork-clause-sound g t c =
    rw (handed_on c.from_residual.result c.from_residual.ensures.1)
    (λ rs s. c.in_err-fork.ensures.sound c.args.height rs c.requires.height c.if-height-eq1.false s)

pub returns-in_err-fork-clause-bad : goal.returns-in_err-fork-clause-bad
returns-in_err-fork-clause-bad g t c =
    rw (handed_on c.from_residual.result c.from_residual.ensures.1) (c.in_err-fork.ensures.bad c.args.height c.requires.height c.if-height-eq1.false)

pub returns-clause-leads : goal.returns-clause-leads
returns-clause-leads g t c =
    led_page (g.S.PageStore.told c.args.store.now) (g.S.PageStore.told c.fork_at.new.store) c.args.page c.args.height
    (g.S.PageStore.size c.args.store.now) c.in_ok-fork.ensures.shows.bytes c.args.k.now c.in_ok-fork.fork.child c.in_ok-fork.fork.prior c.leaf_page.result
    (read_of c.in_ok-fork.ensures.looks c.requires.height c.if-height-eq1.false (g.met.S.PageStore.as_many c.args.store.now) c.in_ok-fork.ensures.shows.are)
    c.in_ok-fork.ensures.shows.fork c.leaf_page.ensures.leads

pub returns-clause-sound : goal.returns-clause-sound
returns-clause-sound g t c =
    sound_on (g.S.PageStore.told c.args.store.now) (g.S.PageStore.told c.fork_at.new.store) c.args.page c.args.height
    (g.S.PageStore.size c.args.store.now) c.in_ok-fork.ensures.shows.bytes c.args.k.now c.in_ok-fork.fork.child c.in_ok-fork.fork.prior c.leaf_page.result
    (read_of c.in_ok-fork.ensures.looks c.requires.height c.if-height-eq1.false (g.met.S.PageStore.as_many c.args.store.now) c.in_ok-fork.ensures.shows.are)
    c.in_ok-fork.ensures.shows.fork c.leaf_page.ensures.sound

pub returns-clause-bad : goal.returns-clause-bad
returns-clause-bad g t c =
    names_below c.leaf_page.result c.in_ok-fork.fork.child
    (read_of c.in_ok-fork.ensures.looks c.requires.height c.if-height-eq1.false (g.met.S.PageStore.as_many c.args.store.now) c.in_ok-fork.ensures.shows.are)
    c.in_ok-fork.ensures.shows.stands c.leaf_page.ensures.bad

pub returns-clause-left : goal.returns-clause-left
returns-clause-left g t c = only_reads_then _ g.met.S.PageStore.goes_on _ _ _ c.in_ok-fork.ensures.looks.left c.leaf_page.ensures.left
