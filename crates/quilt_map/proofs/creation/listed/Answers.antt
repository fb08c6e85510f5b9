use Rattle.std.proofs.Common.{◌∷◌, ◌++◌, List, [], take, ◌∙◌, ap, arith}
use Rattle.std.proofs.lemmas.List.{take_all}
use Rattle.quilt_record.specs.declared.record.Record.{Record}
use Rattle.quilt_map.proofs.creation.listed.Goals as goal

pub returns : goal.returns
returns c =
    let records = c.args.records.now in (
      c.catalog_record.result,
      c.loop-r.invariant ∙ ap (λ (l : List Record). l ++ take c.loop-r.r-index records)
          (c.in_ok-push.ensures.ok ∙ ap (λ (l : List Record). l ++ c.catalog_record.result ∷ []) c.new-all.ensures)
          ∙ ap (λ (l : List Record). c.catalog_record.result ∷ l) (take_all c.loop-r.r-index records (omega arith)),
      c.catalog_record.ensures,
    )
