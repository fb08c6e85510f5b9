use Rattle.std.proofs.Common.{sym, ◌∙◌, arith}
use Rattle.std.proofs.lemmas.Result.{IfOk-weaker}
use Rattle.quilt_lines.specs.Searches.{is_before}
use Rattle.quilt_lines.proofs.Around.{filter_empty, none_between, range_before}
use Rattle.quilt_lines.proofs.Trees.{tree_rises, tree_few}
use Rattle.quilt_lines.proofs.view.LineView.records_before.Goals as goal

pub returns-then-k-eq0-clause-before : goal.returns-then-k-eq0-clause-before
returns-then-k-eq0-clause-before g c rs is same =
    c.new.ensures.items
    ∙ sym (filter_empty (is_before c.args.low.now c.args.k.now) (λ r. none_between c.args.low.now c.args.k.now r (same c.if-k-eq0.true)) rs)

pub returns-clause-before : goal.returns-clause-before
returns-clause-before g c =
    IfOk-weaker c.range_from.result _ _ (λ v f rs is same.
    f rs is
    ∙ range_before rs (tree_rises (g.S.PageStore.told c.args.store.now) c.args.self.now.tree rs is)
    (tree_few (g.S.PageStore.told c.args.store.now) c.args.self.now.tree rs c.requires.rooted.height is) c.args.low.now c.args.k.now
    (let some = c.if-k-eq0.false in omega arith)) c.range_from.ensures.range

pub returns-clause-bad : goal.returns-clause-bad
returns-clause-bad g c = c.range_from.ensures.stops.bad
