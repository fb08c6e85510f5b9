use Rattle.std.proofs.Common.{sym, ◌∙◌}
use Rattle.std.proofs.lemmas.Result.{IfOk-weaker, on_ok_weaker}
use Rattle.quilt_loc.proofs.Blocks.{IsBlock-up}
use Rattle.quilt_lines.proofs.Found.{cut_away}
use Rattle.quilt_lines.proofs.Sums.{reads_none}
use Rattle.quilt_lines.proofs.view.LineView.ids_known.Goals as goal

pub is_cut-requires : goal.is_cut-requires
is_cut-requires g c = IsBlock-up _ 12 _ c.args.self.now.has_level.1 c.requires.block

pub returns-then-is_cut-clause-ids : goal.returns-then-is_cut-clause-ids
returns-then-is_cut-clause-ids g c t segs cover h had =
    cut_away c.args.self.now.level t segs cover h.spelled.valid c.args.hint.now.block c.args.b c.requires.block (sym c.is_cut.ensures ∙ c.if-is_cut.true) had

pub returns-then-is_cut-clause-reads : goal.returns-then-is_cut-clause-reads
returns-then-is_cut-clause-reads g c = reads_none (g.S.PageStore.reads c.args.store.now) 12

pub returns-then-is_none-clause-ids : goal.returns-then-is_none-clause-ids
returns-then-is_none-clause-ids g c = IfOk-weaker c.ids_first.result _ _ (λ o f t segs cover h had. f t segs cover h) c.ids_first.ensures.ids

pub returns-then-is_none-clause-known : goal.returns-then-is_none-clause-known
returns-then-is_none-clause-known g c = on_ok_weaker c.ids_first.result (λ f t segs cover h had. f t segs cover h) c.ids_first.ensures.known

pub returns-clause-ids : goal.returns-clause-ids
returns-clause-ids g c = IfOk-weaker c.ids_from.result _ _ (λ o f t segs cover h had. f t segs cover h) c.ids_from.ensures.ids
