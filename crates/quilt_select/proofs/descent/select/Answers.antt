use Rattle.std.proofs.Common.{List, ◌∙◌, ap, sym, subst, refl, arith}
use Rattle.std.proofs.lemmas.Result.{err_from_is_err_and}
use Rattle.quilt_store.proofs.Reading.{only_reads_then, only_reads_same, read_on, only_reads_err}
use Rattle.quilt_types.specs.declared.plane.Window.{Window}
use Rattle.quilt_types.specs.Plane.{whole}
use Rattle.quilt_near.proofs.Knowing.{knows_nothing, knows_where}
use Rattle.quilt_select.specs.Descents.{IsBlockVisited}
use Rattle.quilt_select.proofs.Descending.{going_start, going_on, going_end, going_reads, first_valid, first_reached, less_left}
use Rattle.quilt_select.proofs.descent.select.Goals as goal

pub loop-block-init : goal.loop-block-init
loop-block-init g c =
    record {
      going = going_start _ c.args.windows.items c.requires (g.B.SegBlocks.shows c.args.blocks.now c.args.store.now)
          (g.met.B.SegBlocks.lines c.args.blocks.now c.args.store.now) (g.S.PageStore.reads c.args.store.now)
          c.push.new.self c.new-found.result.entries _ c.args.windows.items c.new-stack.result (c.whole_square.ensures ∙ ap whole c.level.ensures.value)
          refl c.new-stack.ensures c.in-Ok.ensures c.new-found.ensures.empty;
      left = only_reads_same _ tt _ (g.met.S.PageStore.same_time c.args.store.now);
      known = knows_nothing _ _ _ c.new-known.result c.new-known.ensures.block c.new-known.ensures.pairs c.new-known.ensures.ids
          c.new-known.ensures.segs;
    }

pub open-requires-clause-block : goal.open-requires-clause-block
open-requires-clause-block g c =
    first_valid _ c.args.windows.items c.requires (g.B.SegBlocks.shows c.args.blocks.now c.args.store.now)
    (g.met.B.SegBlocks.lines c.args.blocks.now c.args.store.now) (g.S.PageStore.reads c.args.store.now)
    (g.S.PageStore.reads c.loop-block.store) c.loop-block.stack (c.in-Some.block, c.in-Some.near.items) c.pop.new.self c.loop-block.found.entries
    c.loop-block.invariant.going c.in-Some.ensures.taken

pub open-requires-clause-reached : goal.open-requires-clause-reached
open-requires-clause-reached g c l s =
    first_reached _ c.args.windows.items c.requires (g.B.SegBlocks.shows c.args.blocks.now c.args.store.now)
    (g.met.B.SegBlocks.lines c.args.blocks.now c.args.store.now) (g.S.PageStore.reads c.args.store.now)
    (g.S.PageStore.reads c.loop-block.store) c.loop-block.stack (c.in-Some.block, c.in-Some.near.items) c.pop.new.self c.loop-block.found.entries
    c.loop-block.invariant.going c.in-Some.ensures.taken
    l (g.met.B.SegBlocks.same c.args.blocks.now c.loop-block.store c.args.store.now l (sym c.loop-block.invariant.left.told) s)

pub returns-in_err-open-clause-sound : goal.returns-in_err-open-clause-sound
returns-in_err-open-clause-sound g c =
    let p = err_from_is_err_and c.from_residual.result c.from_residual.ensures.1 in
    rw (p.1, p.2) (λ l s. c.in_err-open.ensures.sound l (g.met.B.SegBlocks.same c.args.blocks.now c.args.store.now c.loop-block.store l c.loop-block.invariant.left.told s))

pub loop-block-smaller : goal.loop-block-smaller
loop-block-smaller g c =
    less_left _ c.args.windows.items c.requires (g.B.SegBlocks.shows c.args.blocks.now c.args.store.now)
    (g.met.B.SegBlocks.lines c.args.blocks.now c.args.store.now) (g.S.PageStore.reads c.args.store.now)
    (g.S.PageStore.reads c.loop-block.store) c.loop-block.stack (c.in-Some.block, c.in-Some.near.items) c.pop.new.self c.loop-block.found.entries
    c.loop-block.invariant.going c.in-Some.ensures.taken
    (g.S.PageStore.reads c.open.new.store) c.open.new.stack c.open.new.found.entries (g.B.SegBlocks.shows c.args.blocks.now c.loop-block.store)
    (subst (λ (near : List Window). IsBlockVisited c.in-Some.block near (g.B.SegBlocks.shows c.args.blocks.now c.loop-block.store)
    c.pop.new.self c.open.new.stack c.loop-block.found.entries c.open.new.found.entries (g.S.PageStore.reads c.loop-block.store)
    (g.S.PageStore.reads c.open.new.store)) c.deref-in-Some.ensures.value c.in_ok-open.ensures.opened)

pub loop-block-preserved : goal.loop-block-preserved
loop-block-preserved g c =
    let i = c.loop-block.invariant in
    record {
      going = going_on _ c.args.windows.items c.requires (g.B.SegBlocks.shows c.args.blocks.now c.args.store.now)
          (g.met.B.SegBlocks.lines c.args.blocks.now c.args.store.now) (g.S.PageStore.reads c.args.store.now)
          (g.S.PageStore.reads c.loop-block.store) c.loop-block.stack (c.in-Some.block, c.in-Some.near.items)
          c.pop.new.self c.loop-block.found.entries c.loop-block.invariant.going c.in-Some.ensures.taken
          (g.S.PageStore.reads c.open.new.store) c.open.new.stack c.open.new.found.entries (g.B.SegBlocks.shows c.args.blocks.now c.loop-block.store)
          (λ l s. g.met.B.SegBlocks.same c.args.blocks.now c.args.store.now c.loop-block.store l i.left.told s)
          (subst (λ (near : List Window). IsBlockVisited c.in-Some.block near (g.B.SegBlocks.shows c.args.blocks.now c.loop-block.store)
          c.pop.new.self c.open.new.stack c.loop-block.found.entries c.open.new.found.entries (g.S.PageStore.reads c.loop-block.store)
          (g.S.PageStore.reads c.open.new.store)) c.deref-in-Some.ensures.value c.in_ok-open.ensures.opened);
      left = read_on _ g.met.S.PageStore.goes_on c.args.store.now c.loop-block.store c.open.new.store i.left c.open.ensures.left;
      known = knows_where _ (g.B.SegBlocks.shows c.args.blocks.now c.loop-block.store) _ (g.B.SegBlocks.marked c.args.blocks.now c.loop-block.store) _ c.open.new.known
          (λ l s. g.met.B.SegBlocks.same c.args.blocks.now c.open.new.store c.loop-block.store l (sym c.open.ensures.left.told) s)
          (λ m s. g.met.B.SegBlocks.same_marks c.args.blocks.now c.loop-block.store c.open.new.store m c.open.ensures.left.told s)
          c.in_ok-open.ensures.known;
    }

pub returns-clause-selected : goal.returns-clause-selected
returns-clause-selected g c l s =
    going_end _ c.args.windows.items c.requires (g.B.SegBlocks.shows c.args.blocks.now c.args.store.now)
    (g.met.B.SegBlocks.lines c.args.blocks.now c.args.store.now) (g.S.PageStore.reads c.args.store.now)
    (g.S.PageStore.reads c.loop-block.store) c.loop-block.stack c.loop-block.found.entries c.in-Ok-listed.list c.loop-block.invariant.going
    c.in_default.ensures.none c.in-Ok-listed.ensures.list c.in-Ok-listed.ensures.ordered l s

pub returns-clause-reads : goal.returns-clause-reads
returns-clause-reads g c l s =
    going_reads _ c.args.windows.items c.requires (g.B.SegBlocks.shows c.args.blocks.now c.args.store.now)
    (g.met.B.SegBlocks.lines c.args.blocks.now c.args.store.now) (g.S.PageStore.reads c.args.store.now)
    (g.S.PageStore.reads c.loop-block.store) c.loop-block.stack c.loop-block.found.entries c.loop-block.invariant.going l s

pub returns-in_err-open-clause-left : goal.returns-in_err-open-clause-left
returns-in_err-open-clause-left g c =
    let p = err_from_is_err_and c.from_residual.result c.from_residual.ensures.1 in
    rw (p.1, p.2) (only_reads_err _ (only_reads_then _ g.met.S.PageStore.goes_on _ _ _ c.loop-block.invariant.left c.in_err-open.ensures.left))

pub returns-in-Err-clause-named : goal.returns-in-Err-clause-named
returns-in-Err-clause-named g c = g.met.B.SegBlocks.named_memory c.args.blocks.now c.args.store.now

pub returns-in_err-open-clause-named : goal.returns-in_err-open-clause-named
returns-in_err-open-clause-named g c =
    let p = err_from_is_err_and c.from_residual.result c.from_residual.ensures.1 in
    rw (p.1, p.2) (g.met.B.SegBlocks.same_named _ _ _ _ (sym c.loop-block.invariant.left.told) c.in_err-open.ensures.named)

pub returns-in-Err-listed-clause-named : goal.returns-in-Err-listed-clause-named
returns-in-Err-listed-clause-named g c = g.met.B.SegBlocks.named_memory c.args.blocks.now c.args.store.now
