use Rattle.std.proofs.Common.{◌≡◌, ◌+◌, ◌≤◌, true, All, subst, sym}
use Rattle.std.specs.FinMap as finmap
use Rattle.std.proofs.lemmas.Result.{IfOk-weaker}
use Rattle.quilt_types.specs.Plane.{is_window}
use Rattle.quilt_types.specs.Quadtrees.{reach}
use Rattle.quilt_world.specs.Tale.{Goes}
use Rattle.quilt_select.specs.Shares.{holds_any}
use Rattle.quilt_select.proofs.Regions.{all_inside, over_found, over_reads}
use Rattle.quilt_select.proofs.selection.over.Goals as goal

pub select-requires : goal.select-requires
select-requires g c =
    subst (λ n. All (λ w. is_window n w ≡ true) c.in-Ok.windows.items) c.requires
    (all_inside c.args.list.now.level c.args.list.now.grid c.in-Ok.windows.items c.in-Ok.ensures)

pub returns-in-Ok-clause-over : goal.returns-in-Ok-clause-over
returns-in-Ok-clause-over g c =
    let small : c.args.list.now.level ≤ 12 = subst (λ n. n ≤ 12) (sym c.requires) c.select.ensures.level in
    IfOk-weaker c.select.result _ _
    (λ found h l s. over_found c.args.list.now.level c.args.list.now.grid small c.in-Ok.windows.items c.in-Ok.ensures (finmap.entries l.segs) found
    (h l s)) c.select.ensures.selected

pub returns-in-Ok-clause-reads : goal.returns-in-Ok-clause-reads
returns-in-Ok-clause-reads g c =
    let before = g.S.PageStore.reads c.args.store.now in
    let now = g.S.PageStore.reads c.select.new.store in
    IfOk-weaker c.select.result _ _
    (λ found h l s. over_reads c.args.list.now.level c.args.list.now.grid c.in-Ok.windows.items c.in-Ok.ensures l before now
    (subst (λ n. Goes (λ old new. new ≤ old + reach n l.segs l.cover (holds_any c.in-Ok.windows.items)) before now) (sym c.requires) (h l s)))
    c.select.ensures.reads

pub returns-in-Err-clause-named : goal.returns-in-Err-clause-named
returns-in-Err-clause-named g c = g.met.B.SegBlocks.named_memory c.args.blocks.now c.args.store.now
