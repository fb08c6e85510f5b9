use Rattle.std.proofs.Common.{◌≡◌, ◌++◌, ◌∷◌, [], List, ◌∙◌, ap}
use Rattle.std.specs.FinMap as finmap
use Rattle.std.proofs.lemmas.Result.{IfOk-weaker}
use Rattle.quilt_types.specs.declared.plane.Window.{Window}
use Rattle.quilt_select.proofs.Crossing.{crossed, crossed_reads}
use Rattle.quilt_select.proofs.selection.cross.Goals as goal

windows : (g : _) (c : goal.After-select g) → c.push.new.self.items ≡ c.args.w ∷ []
windows g c = c.in-Ok.ensures.items ∙ ap (λ (t : List Window). t ++ c.args.w ∷ []) c.new-windows.ensures.items

pub returns-clause-cross : goal.returns-clause-cross
returns-clause-cross g c =
    IfOk-weaker c.select.result _ _ (λ list h l s. crossed c.args.w c.push.new.self.items (finmap.entries l.segs) list (windows g c) (h l s))
    c.select.ensures.selected

pub returns-clause-reads : goal.returns-clause-reads
returns-clause-reads g c =
    IfOk-weaker c.select.result _ _
    (λ list h l s. crossed_reads _ c.args.w c.push.new.self.items l (g.S.PageStore.reads c.args.store.now) (g.S.PageStore.reads c.select.new.store)
    (windows g c) (h l s)) c.select.ensures.reads

pub returns-in-Err-clause-named : goal.returns-in-Err-clause-named
returns-in-Err-clause-named g c = g.met.B.SegBlocks.named_memory c.args.blocks.now c.args.store.now
