use Rattle.std.proofs.Common.{ℕ, List, ◌∙◌, ◌-◌}
use Rattle.quilt_record.specs.declared.record.Record.{Record}
use Rattle.quilt_btree.specs.Trees.{SpellsSubtree}
use Rattle.quilt_store.proofs.Reading.{only_reads_then, only_reads_ok, only_reads_err}
use Rattle.quilt_btree.proofs.stores.Looks.{only_reads_handed}
use Rattle.quilt_btree.proofs.subtrees.Descending.{along_told, floor_here, floor_none, floor_before}
use Rattle.quilt_btree.proofs.ways.Floors.{found_here, none_before}
use Rattle.quilt_btree.proofs.ways.Turns.{floor_touched, floor_again, floor_touched_more, floor_again_more, finds_here, finds_none, finds_before}
use Rattle.quilt_btree.proofs.ways.Forks.{Forked}
use Rattle.quilt_btree.proofs.ways.Looked.{read_of, read_on, fork_shown}
use Rattle.quilt_btree.proofs.ways.Damage.{bad_below, child_at}
use Rattle.quilt_btree.proofs.Handed.{handed_on}
use Rattle.quilt_btree.proofs.search.+floor_under.Given.{Over}
use Rattle.quilt_btree.proofs.search.+floor_under.Goals.{In_ok-fork}
use Rattle.quilt_btree.proofs.search.+floor_under.Goals as goal

-- where the page spells a list, the fork leads to the child under which the key belongs
shown : (g : Over) (t : ℕ) (c : In_ok-fork g t) (rs : List Record) → SpellsSubtree (g.S.PageStore.told c.args.store.now) c.args.page c.args.height rs
    → Forked (g.S.PageStore.told c.args.store.now) (g.S.PageStore.told c.fork_at.new.store) c.args.page c.args.height c.args.k.now
    c.in_ok-fork.fork.child c.in_ok-fork.fork.prior rs
shown g t c rs s =
    fork_shown c.in_ok-fork.ensures.looks c.requires.height c.if-height-eq1.false (g.met.S.PageStore.as_many c.args.store.now) c.in_ok-fork.ensures.shows s

pub returns-in_err-r-clause-sound : goal.returns-in_err-r-clause-sound
returns-in_err-r-clause-sound g t c =
    rw (handed_on c.from_residual-in_err-r.result c.from_residual-in_err-r.ensures.1) (λ rs s.
    let a = shown g t (goal.at.returns-in_err-r-clause-sound g t c).In_ok-fork rs s in
    c.in_err-r.ensures.sound a.here a.spells)

pub returns-in_err-r-clause-again : goal.returns-in_err-r-clause-again
returns-in_err-r-clause-again g t c = λ rs s.
    let a = shown g t (goal.at.returns-in_err-r-clause-again g t c).In_ok-fork rs s in
    floor_again (g.S.PageStore.reads c.floor_under.new.store) a.at a.number (record { touched = c.in_ok-fork.ensures.looks.held; free = c.in_ok-fork.ensures.looks.held_is_free }) (c.in_err-r.ensures.again a.here a.spells)

pub returns-in-Some-clause-floor : goal.returns-in-Some-clause-floor
returns-in-Some-clause-floor g t c = record {
  floor =
      λ rs s.
      let found = rw c.in-Some.is at c.in_ok-r.ensures.floor in
      let a = shown g t (goal.at.returns-in-Some-clause-floor g t c).In_ok-fork rs s in
      floor_here c.in-Some.r a.at found.floor rs s;
  found =
      λ rs s.
      let found = rw c.in-Some.is at c.in_ok-r.ensures.floor in
      let a = shown g t (goal.at.returns-in-Some-clause-floor g t c).In_ok-fork rs s in
      finds_here a.at a.number (found.found a.here a.spells);
}

pub returns-in-Some-clause-touched : goal.returns-in-Some-clause-touched
returns-in-Some-clause-touched g t c = λ rs s.
    let found = rw c.in-Some.is at c.in_ok-r.ensures.floor in
    let a = shown g t (goal.at.returns-in-Some-clause-touched g t c).In_ok-fork rs s in
    floor_touched (g.S.PageStore.held c.args.store.now) (g.S.PageStore.held c.fork_at.new.store)
    (g.S.PageStore.held c.floor_under.new.store) a.at a.number c.in_ok-fork.ensures.looks.held (c.in_ok-r.ensures.touched a.here a.spells)
    (λ pages is. found_here pages (c.args.height - 1) c.in_ok-fork.fork.child a.inner c.args.k.now a.i a.at.is_child (found.found a.here a.spells pages is))

pub returns-in-Some-clause-again : goal.returns-in-Some-clause-again
returns-in-Some-clause-again g t c = λ rs s.
    let a = shown g t (goal.at.returns-in-Some-clause-again g t c).In_ok-fork rs s in
    floor_again (g.S.PageStore.reads c.floor_under.new.store) a.at a.number (record { touched = c.in_ok-fork.ensures.looks.held; free = c.in_ok-fork.ensures.looks.held_is_free }) (c.in_ok-r.ensures.again a.here a.spells)

pub returns-in-None-prior-clause-floor : goal.returns-in-None-prior-clause-floor
returns-in-None-prior-clause-floor g t c = record {
  floor =
      λ rs s.
      let found = rw c.in-None.is at c.in_ok-r.ensures.floor in
      let a = shown g t (goal.at.returns-in-None-prior-clause-floor g t c).In_ok-fork rs s in
      floor_none a.at (a.first c.in-None-prior.is) found.floor rs s;
  found =
      λ rs s.
      let found = rw c.in-None.is at c.in_ok-r.ensures.floor in
      let a = shown g t (goal.at.returns-in-None-prior-clause-floor g t c).In_ok-fork rs s in
      finds_none a.at a.number (a.first c.in-None-prior.is) (found.found a.here a.spells);
}

pub returns-in-None-prior-clause-touched : goal.returns-in-None-prior-clause-touched
returns-in-None-prior-clause-touched g t c = λ rs s.
    let a = shown g t (goal.at.returns-in-None-prior-clause-touched g t c).In_ok-fork rs s in
    floor_touched (g.S.PageStore.held c.args.store.now) (g.S.PageStore.held c.fork_at.new.store)
    (g.S.PageStore.held c.floor_under.new.store) a.at a.number c.in_ok-fork.ensures.looks.held (c.in_ok-r.ensures.touched a.here a.spells)
    (λ pages is. none_before pages c.args.k.now (c.args.height - 1) a.i a.inner (a.first c.in-None-prior.is))

pub returns-in-None-prior-clause-again : goal.returns-in-None-prior-clause-again
returns-in-None-prior-clause-again g t c = λ rs s.
    let a = shown g t (goal.at.returns-in-None-prior-clause-again g t c).In_ok-fork rs s in
    floor_again (g.S.PageStore.reads c.floor_under.new.store) a.at a.number (record { touched = c.in_ok-fork.ensures.looks.held; free = c.in_ok-fork.ensures.looks.held_is_free }) (c.in_ok-r.ensures.again a.here a.spells)

pub returns-in_err-last_under-in-Some-prior-clause-sound : goal.returns-in_err-last_under-in-Some-prior-clause-sound
returns-in_err-last_under-in-Some-prior-clause-sound g t c =
    rw (handed_on c.from_residual-in_err-last_under-in-Some-prior.result c.from_residual-in_err-last_under-in-Some-prior.ensures.1) (λ rs s.
    let a = shown g t (goal.at.returns-in_err-last_under-in-Some-prior-clause-sound g t c).In_ok-fork rs s in
    let p = a.later c.in-Some-prior.prior c.in-Some-prior.is in
    let there = along_told _ _ _ _ _ (c.in_ok-r.ensures.left.told ∙ c.in_ok-fork.ensures.looks.left.told) p.spells in
    c.in_err-last_under-in-Some-prior.ensures.sound p.here there)

pub returns-in_err-last_under-in-Some-prior-clause-again : goal.returns-in_err-last_under-in-Some-prior-clause-again
returns-in_err-last_under-in-Some-prior-clause-again g t c = λ rs s.
    let found = rw c.in-None.is at c.in_ok-r.ensures.floor in
    let a = shown g t (goal.at.returns-in_err-last_under-in-Some-prior-clause-again g t c).In_ok-fork rs s in
    let p = a.later c.in-Some-prior.prior c.in-Some-prior.is in
    let there = along_told _ _ _ _ _ (c.in_ok-r.ensures.left.told ∙ c.in_ok-fork.ensures.looks.left.told) p.spells in
    floor_again_more (g.S.PageStore.held c.floor_under.new.store) (g.S.PageStore.reads c.floor_under.new.store) (g.S.PageStore.reads c.last_under.new.store)
    (record {
      at = a.at;
      place = a.number;
      some = p.some;
      told = c.in_ok-r.ensures.left.told ∙ c.in_ok-fork.ensures.looks.left.told;
      is_prior = p.is;
      lacks = found.found a.here a.spells;
    })
    (record { touched = c.in_ok-fork.ensures.looks.held; free = c.in_ok-fork.ensures.looks.held_is_free }) (c.in_ok-r.ensures.touched a.here a.spells) (c.in_ok-r.ensures.again a.here a.spells) (c.in_err-last_under-in-Some-prior.ensures.again p.here there)

pub returns-in_ok-last_under-in-Some-prior-clause-floor : goal.returns-in_ok-last_under-in-Some-prior-clause-floor
returns-in_ok-last_under-in-Some-prior-clause-floor g t c = record {
  floor =
      λ rs s.
      let found = rw c.in-None.is at c.in_ok-r.ensures.floor in
      let a = shown g t (goal.at.returns-in_ok-last_under-in-Some-prior-clause-floor g t c).In_ok-fork rs s in
      let p = a.later c.in-Some-prior.prior c.in-Some-prior.is in
      let there = along_told _ _ _ _ _ (c.in_ok-r.ensures.left.told ∙ c.in_ok-fork.ensures.looks.left.told) p.spells in
      floor_before c.in_ok-last_under-in-Some-prior.field-0 a.at p.some
      (c.in_ok-r.ensures.left.told ∙ c.in_ok-fork.ensures.looks.left.told) p.is found.floor c.in_ok-last_under-in-Some-prior.ensures.last s;
  found =
      λ rs s.
      let a = shown g t (goal.at.returns-in_ok-last_under-in-Some-prior-clause-floor g t c).In_ok-fork rs s in
      let p = a.later c.in-Some-prior.prior c.in-Some-prior.is in
      let there = along_told _ _ _ _ _ (c.in_ok-r.ensures.left.told ∙ c.in_ok-fork.ensures.looks.left.told) p.spells in
      finds_before a.at a.number p.some;
}

pub returns-in_ok-last_under-in-Some-prior-clause-touched : goal.returns-in_ok-last_under-in-Some-prior-clause-touched
returns-in_ok-last_under-in-Some-prior-clause-touched g t c = λ rs s.
    let found = rw c.in-None.is at c.in_ok-r.ensures.floor in
    let a = shown g t (goal.at.returns-in_ok-last_under-in-Some-prior-clause-touched g t c).In_ok-fork rs s in
    let p = a.later c.in-Some-prior.prior c.in-Some-prior.is in
    let there = along_told _ _ _ _ _ (c.in_ok-r.ensures.left.told ∙ c.in_ok-fork.ensures.looks.left.told) p.spells in
    floor_touched_more
    (g.S.PageStore.held c.args.store.now)
    (g.S.PageStore.held c.fork_at.new.store) (g.S.PageStore.held c.floor_under.new.store) (g.S.PageStore.held c.last_under.new.store)
    (record {
      at = a.at;
      place = a.number;
      some = p.some;
      told = c.in_ok-r.ensures.left.told ∙ c.in_ok-fork.ensures.looks.left.told;
      is_prior = p.is;
      lacks = found.found a.here a.spells;
    })
    c.in_ok-fork.ensures.looks.held
    (c.in_ok-r.ensures.touched a.here a.spells) (c.in_ok-last_under-in-Some-prior.ensures.touched p.here there)

pub returns-in_ok-last_under-in-Some-prior-clause-again : goal.returns-in_ok-last_under-in-Some-prior-clause-again
returns-in_ok-last_under-in-Some-prior-clause-again g t c = λ rs s.
    let found = rw c.in-None.is at c.in_ok-r.ensures.floor in
    let a = shown g t (goal.at.returns-in_ok-last_under-in-Some-prior-clause-again g t c).In_ok-fork rs s in
    let p = a.later c.in-Some-prior.prior c.in-Some-prior.is in
    let there = along_told _ _ _ _ _ (c.in_ok-r.ensures.left.told ∙ c.in_ok-fork.ensures.looks.left.told) p.spells in
    floor_again_more (g.S.PageStore.held c.floor_under.new.store) (g.S.PageStore.reads c.floor_under.new.store) (g.S.PageStore.reads c.last_under.new.store)
    (record {
      at = a.at;
      place = a.number;
      some = p.some;
      told = c.in_ok-r.ensures.left.told ∙ c.in_ok-fork.ensures.looks.left.told;
      is_prior = p.is;
      lacks = found.found a.here a.spells;
    })
    (record { touched = c.in_ok-fork.ensures.looks.held; free = c.in_ok-fork.ensures.looks.held_is_free }) (c.in_ok-r.ensures.touched a.here a.spells) (c.in_ok-r.ensures.again a.here a.spells) (c.in_ok-last_under-in-Some-prior.ensures.again p.here there)

pub returns-in_err-fork-clause-sound : goal.returns-in_err-fork-clause-sound
returns-in_err-fork-clause-sound g t c =
    rw (handed_on c.from_residual.result c.from_residual.ensures.1)
    (λ rs s. c.in_err-fork.ensures.sound c.args.height rs c.requires.height c.if-height-eq1.false s)

pub returns-in_err-fork-clause-bad : goal.returns-in_err-fork-clause-bad
returns-in_err-fork-clause-bad g t c =
    rw (handed_on c.from_residual.result c.from_residual.ensures.1) (c.in_err-fork.ensures.bad c.args.height c.requires.height c.if-height-eq1.false)

pub returns-in_err-r-clause-bad : goal.returns-in_err-r-clause-bad
returns-in_err-r-clause-bad g t c =
    rw (handed_on c.from_residual-in_err-r.result c.from_residual-in_err-r.ensures.1)
    (bad_below c.in_ok-fork.fork.child _
    (read_of c.in_ok-fork.ensures.looks c.requires.height c.if-height-eq1.false (g.met.S.PageStore.as_many c.args.store.now) c.in_ok-fork.ensures.shows.are)
    c.in_ok-fork.ensures.shows.stands c.in_err-r.ensures.bad)

pub returns-in_err-last_under-in-Some-prior-clause-bad : goal.returns-in_err-last_under-in-Some-prior-clause-bad
returns-in_err-last_under-in-Some-prior-clause-bad g t c =
    rw (handed_on c.from_residual-in_err-last_under-in-Some-prior.result c.from_residual-in_err-last_under-in-Some-prior.ensures.1)
    (bad_below c.in-Some-prior.prior _
    (read_on c.in_ok-r.ensures.left.told
    (read_of c.in_ok-fork.ensures.looks c.requires.height c.if-height-eq1.false (g.met.S.PageStore.as_many c.args.store.now) c.in_ok-fork.ensures.shows.are))
    (child_at (g.S.PageStore.size c.args.store.now) c.in_ok-fork.ensures.shows.bytes c.in_ok-fork.fork.prior c.in-Some-prior.prior c.in-Some-prior.is
    c.in_ok-fork.ensures.shows.prior_stands) c.in_err-last_under-in-Some-prior.ensures.bad)

pub returns-in_err-last_under-in-Some-prior-clause-left : goal.returns-in_err-last_under-in-Some-prior-clause-left
returns-in_err-last_under-in-Some-prior-clause-left g t c =
    rw (handed_on c.from_residual-in_err-last_under-in-Some-prior.result c.from_residual-in_err-last_under-in-Some-prior.ensures.1)
    (only_reads_err _ (only_reads_then _ g.met.S.PageStore.goes_on _ _ _ c.in_ok-fork.ensures.looks.left
    (only_reads_then _ g.met.S.PageStore.goes_on _ _ _ c.in_ok-r.ensures.left c.in_err-last_under-in-Some-prior.ensures.left)))

pub returns-in_ok-last_under-in-Some-prior-clause-left : goal.returns-in_ok-last_under-in-Some-prior-clause-left
returns-in_ok-last_under-in-Some-prior-clause-left g t c =
    only_reads_ok _ (only_reads_then _ g.met.S.PageStore.goes_on _ _ _ c.in_ok-fork.ensures.looks.left
    (only_reads_then _ g.met.S.PageStore.goes_on _ _ _ c.in_ok-r.ensures.left c.in_ok-last_under-in-Some-prior.ensures.left)) _

pub returns-in_err-r-clause-left : goal.returns-in_err-r-clause-left
returns-in_err-r-clause-left g t c =
    rw (handed_on c.from_residual-in_err-r.result c.from_residual-in_err-r.ensures.1)
    (only_reads_then _ g.met.S.PageStore.goes_on _ _ _ c.in_ok-fork.ensures.looks.left c.in_err-r.ensures.left)

pub returns-in-Some-clause-left : goal.returns-in-Some-clause-left
returns-in-Some-clause-left g t c =
    only_reads_ok _ (only_reads_then _ g.met.S.PageStore.goes_on _ _ _ c.in_ok-fork.ensures.looks.left c.in_ok-r.ensures.left) _

pub returns-in-None-prior-clause-left : goal.returns-in-None-prior-clause-left
returns-in-None-prior-clause-left g t c =
    only_reads_ok _ (only_reads_then _ g.met.S.PageStore.goes_on _ _ _ c.in_ok-fork.ensures.looks.left c.in_ok-r.ensures.left) _

pub returns-in_err-fork-clause-left : goal.returns-in_err-fork-clause-left
returns-in_err-fork-clause-left g t c = only_reads_handed _ c.from_residual.ensures.1 c.in_err-fork.ensures.looks.left
