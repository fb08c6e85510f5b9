use Rattle.std.proofs.Common.{[], ◌∙◌, ap}
use Rattle.std.proofs.lemmas.Result.{IfOk-weaker, IfErr-weaker}
use Rattle.quilt_record.specs.declared.key.Key.{Key}
use Rattle.quilt_record.specs.declared.record.Record.{Record}
use Rattle.quilt_btree.specs.Lists.{floor_of}
use Rattle.quilt_lines.proofs.view.LineView.last_at.Goals as goal

pub returns-clause-last : goal.returns-clause-last
returns-clause-last g c =
    IfOk-weaker c.floor_from.result _ _ (λ o f rs is. f rs is ∙ ap (λ (k : Key). floor_of k rs) (ap (λ (r : Record). r.key) (c.pair_record.ensures.written [])))
    c.floor_from.ensures.floor

pub returns-clause-bad : goal.returns-clause-bad
returns-clause-bad g c = IfErr-weaker c.floor_from.result _ _ (λ e bad ne. bad) c.floor_from.ensures.bad
