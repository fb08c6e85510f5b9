use Rattle.std.proofs.Common.{◌≡◌, ℕ, ◌+◌, ◌≤◌, Option, sym, ◌∙◌, subst, arith}
use Rattle.std.proofs.lemmas.Result.{err_from_is_err_and}
use Rattle.std.specs.Option.{IfSome}
use Rattle.quilt_store.proofs.Reading.{only_reads_then, only_reads_same, read_on, only_reads_err}
use Rattle.quilt_types.specs.Fractions.{Fraction}
use Rattle.quilt_types.specs.Quadtrees.{reach}
use Rattle.quilt_world.specs.Tale.{Goes}
use Rattle.quilt_near.specs.Budgets.{is_close}
use Rattle.quilt_types.specs.Segments.{nearest}
use Rattle.quilt_near.specs.Lines.{Lines}
use Rattle.quilt_near.proofs.Leasts.{least_of}
use Rattle.quilt_near.proofs.Knowing.{knows_nothing, knows_where}
use Rattle.quilt_near.proofs.Goings.{going_start, going_on, going_end, going_stop, going_reads, first_valid, first_reached, less_left}
use Rattle.quilt_near.proofs.search.nearest.Goals as goal
use Rattle.quilt_near.proofs.search.nearest.Goals.{in-Some+then-is_past, in_default}

pub loop-distance-init : goal.loop-distance-init
loop-distance-init g c =
    record {
      going = going_start _ c.args.p (g.B.SegBlocks.shows c.args.blocks.now c.args.store.now)
          (g.met.B.SegBlocks.lines c.args.blocks.now c.args.store.now) (g.S.PageStore.reads c.args.store.now) _ c.in-Ok.ensures.first;
      left = only_reads_same _ tt _ (g.met.S.PageStore.same_time c.args.store.now);
      known = knows_nothing _ _ _ c.new-known.result c.new-known.ensures.block c.new-known.ensures.pairs c.new-known.ensures.ids
          c.new-known.ensures.segs;
    }

pub open-requires-clause-block : goal.open-requires-clause-block
open-requires-clause-block g c =
    first_valid _ c.args.p _ (g.met.B.SegBlocks.lines c.args.blocks.now c.args.store.now) (g.S.PageStore.reads c.args.store.now)
    (g.S.PageStore.reads c.loop-distance.store) c.loop-distance.queue c.pop.new.self
    c.loop-distance.best (c.in-Some.distance, c.in-Some.block) c.loop-distance.invariant.going c.in-Some.ensures.taken

pub open-requires-clause-reached : goal.open-requires-clause-reached
open-requires-clause-reached g c l s =
    first_reached _ c.args.p _ (g.met.B.SegBlocks.lines c.args.blocks.now c.args.store.now) (g.S.PageStore.reads c.args.store.now)
    (g.S.PageStore.reads c.loop-distance.store) c.loop-distance.queue c.pop.new.self
    c.loop-distance.best (c.in-Some.distance, c.in-Some.block) c.loop-distance.invariant.going c.in-Some.ensures.taken l
    (g.met.B.SegBlocks.same c.args.blocks.now c.loop-distance.store c.args.store.now l (sym c.loop-distance.invariant.left.told) s)

pub returns-in_err-best-clause-sound : goal.returns-in_err-best-clause-sound
returns-in_err-best-clause-sound g c =
    let p = err_from_is_err_and c.from_residual.result c.from_residual.ensures.1 in
    rw (p.1, p.2) (λ l s. c.in_err-best.ensures.sound l (g.met.B.SegBlocks.same c.args.blocks.now c.args.store.now c.loop-distance.store l c.loop-distance.invariant.left.told s))

pub loop-distance-smaller : goal.loop-distance-smaller
loop-distance-smaller g c =
    less_left _ c.args.p _ (g.met.B.SegBlocks.lines c.args.blocks.now c.args.store.now) (g.S.PageStore.reads c.args.store.now)
    (g.S.PageStore.reads c.loop-distance.store) c.loop-distance.queue c.pop.new.self
    c.loop-distance.best (c.in-Some.distance, c.in-Some.block) c.loop-distance.invariant.going c.in-Some.ensures.taken
    (g.S.PageStore.reads c.open.new.store) c.open.new.queue c.in_ok-best.best
    (g.B.SegBlocks.shows c.args.blocks.now c.loop-distance.store) c.in_ok-best.ensures.opened

pub loop-distance-preserved : goal.loop-distance-preserved
loop-distance-preserved g c =
    let i = c.loop-distance.invariant in
    record {
      going = going_on _ c.args.p _ (g.met.B.SegBlocks.lines c.args.blocks.now c.args.store.now) (g.S.PageStore.reads c.args.store.now)
          (g.S.PageStore.reads c.loop-distance.store) c.loop-distance.queue c.pop.new.self
          c.loop-distance.best (c.in-Some.distance, c.in-Some.block) i.going c.in-Some.ensures.taken (g.S.PageStore.reads c.open.new.store)
          c.open.new.queue c.in_ok-best.best
          (g.B.SegBlocks.shows c.args.blocks.now c.loop-distance.store)
          (λ l s. g.met.B.SegBlocks.same c.args.blocks.now c.args.store.now c.loop-distance.store l i.left.told s)
          c.in-Some.ensures.least (sym c.is_past.ensures ∙ c.if-is_past.false) c.in_ok-best.ensures.opened;
      left = read_on _ g.met.S.PageStore.goes_on c.args.store.now c.loop-distance.store c.open.new.store i.left c.open.ensures.left;
      known = knows_where _ (g.B.SegBlocks.shows c.args.blocks.now c.loop-distance.store) _ (g.B.SegBlocks.marked c.args.blocks.now c.loop-distance.store) _ c.open.new.known
          (λ l s. g.met.B.SegBlocks.same c.args.blocks.now c.open.new.store c.loop-distance.store l (sym c.open.ensures.left.told) s)
          (λ m s. g.met.B.SegBlocks.same_marks c.args.blocks.now c.loop-distance.store c.open.new.store m c.open.ensures.left.told s)
          c.in_ok-best.ensures.known;
    }

-- at either end the best so far is the answer
found : (g : _) (c : goal.After-drop-queue-inside-2 g) (l : Lines) → g.B.SegBlocks.shows c.args.blocks.now c.args.store.now l
    → c.loop-distance.best ≡ nearest l.segs c.args.p
found g c l s =
    let lines = g.met.B.SegBlocks.lines c.args.blocks.now c.args.store.now in
    let before = g.S.PageStore.reads c.args.store.now in
    let now = g.S.PageStore.reads c.loop-distance.store in
    let i = c.loop-distance.invariant.going in
    elim c.match-pop.branch [
      | in-Some+then-is_past w ↦ going_stop _ c.args.p _ lines before now c.loop-distance.queue c.pop.new.self c.loop-distance.best
          (w.in-Some.distance, w.in-Some.block) i w.in-Some.ensures.taken w.in-Some.ensures.least (sym w.is_past.ensures ∙ w.if-is_past.true) l s
      | in_default w ↦ going_end _ c.args.p _ lines before now c.loop-distance.queue c.loop-distance.best i w.in_default.ensures.none l s
    ]

pub returns-clause-nearest : goal.returns-clause-nearest
returns-clause-nearest g c l s = c.reduced.ensures ∙ found g c l s

pub returns-clause-reads : goal.returns-clause-reads
returns-clause-reads g c l s =
    subst
    (λ (answer : Option (ℕ × Fraction)).
    IfSome answer (λ a. Goes (λ old new. new ≤ old + reach (g.B.SegBlocks.level_of c.args.blocks.now) l.segs l.cover (is_close c.args.p a.1))
    (g.S.PageStore.reads c.args.store.now) (g.S.PageStore.reads c.loop-distance.store)))
    (sym c.reduced.ensures)
    (going_reads _ c.args.p _ (g.met.B.SegBlocks.lines c.args.blocks.now c.args.store.now) (g.S.PageStore.reads c.args.store.now)
    (g.S.PageStore.reads c.loop-distance.store) c.loop-distance.queue c.loop-distance.best c.loop-distance.invariant.going l s (found g c l s))

pub returns-in_err-best-clause-left : goal.returns-in_err-best-clause-left
returns-in_err-best-clause-left g c =
    let p = err_from_is_err_and c.from_residual.result c.from_residual.ensures.1 in
    rw (p.1, p.2) (only_reads_err _ (only_reads_then _ g.met.S.PageStore.goes_on _ _ _ c.loop-distance.invariant.left c.in_err-best.ensures.left))

pub returns-clause-least : goal.returns-clause-least
returns-clause-least g c l s = least_of l.segs c.args.p _ (c.reduced.ensures ∙ found g c l s)

pub returns-in-Err-clause-named : goal.returns-in-Err-clause-named
returns-in-Err-clause-named g c = g.met.B.SegBlocks.named_memory c.args.blocks.now c.args.store.now

pub returns-in_err-best-clause-named : goal.returns-in_err-best-clause-named
returns-in_err-best-clause-named g c =
    let p = err_from_is_err_and c.from_residual.result c.from_residual.ensures.1 in
    rw (p.1, p.2) (g.met.B.SegBlocks.same_named c.args.blocks.now c.loop-distance.store c.args.store.now _ (sym c.loop-distance.invariant.left.told) c.in_err-best.ensures.named)
