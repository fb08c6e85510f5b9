use Rattle.std.proofs.Common.{◌++◌, ◌∷◌, List, [], map, take, sym, ◌∙◌, ap}
use Rattle.std.proofs.lemmas.List.{map-append, take_more}
use Rattle.quilt_record.specs.declared.record.Record.{Record}
use Rattle.quilt_spell.specs.Copying.{renumbered}
use Rattle.quilt_map.proofs.copy.moved_records.Goals as goal

pub loop-r-preserved : goal.loop-r-preserved
loop-r-preserved c =
    let records = c.args.records.now in
    let i = c.loop-r.r-index in
    let f = renumbered c.args.number in
    c.in_ok-push.ensures.items ∙ (λ j. c.loop-r.invariant j ++ c.moved_record.ensures j ∷ []) ∙ sym (map-append f (take i records) (_ ∷ []))
    ∙ ap (λ (l : List Record). map f l) (sym (take_more records i _ c.loop-r-test.true))
