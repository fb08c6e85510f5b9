use Rattle.std.proofs.Common.{◌++◌, [], ◌∷◌, List, length, sym, ◌∙◌, ap, eqb-true}
use Rattle.std.proofs.lemmas.Result.{on_ok_weaker}
use Rattle.quilt_record.specs.declared.record.Record.{Record}
use Rattle.quilt_points.proofs.Said.{nonzero}
use Rattle.quilt_points.proofs.plans.Deltas.{none_held, some_held}
use Rattle.quilt_points.proofs.delta.add_held.Goals as goal

pub returns-then-is_empty : goal.returns-then-is_empty
returns-then-is_empty c =
    c.in_ok-push.ensures.items ∙ ap (λ (l : List Record). c.args.records.now.items ++ l)
    (ap (λ (r : Record). r ∷ []) (c.point_record.ensures.written [])
    ∙ sym (none_held c.args.layer.level c.args.layer.bucket c.args.layer.number c.args.b c.args.points.now
    (eqb-true (length c.args.points.now) 0 (sym c.if-is_empty.ensures))))

pub returns : goal.returns
returns c =
    on_ok_weaker c.add_points.result
    (λ is. is ∙ ap (λ (l : List Record). c.args.records.now.items ++ l)
    (some_held c.args.layer.level c.args.layer.bucket c.args.layer.number c.args.b c.args.points.now
    (nonzero (length c.args.points.now) c.if-is_empty.ensures)))
    c.add_points.ensures
