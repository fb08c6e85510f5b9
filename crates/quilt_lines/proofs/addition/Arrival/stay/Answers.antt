use Rattle.std.proofs.Common.{◌++◌, [], ◌∷◌, ◌∙◌, ap}
use Rattle.quilt_types.specs.Facts.{IsMetBy}
use Rattle.quilt_lines.proofs.Rows.{follow_one, none_goes, none_stays}
use Rattle.quilt_lines.proofs.addition.Arrival.stay.Goals as goal
use Rattle.quilt_lines.proofs.addition.Arrival.stay.Goals.{then-is_empty+in_ok-push, else-is_empty}

pub returns-clause-gone : goal.returns-clause-gone
returns-clause-gone c =
    let view = c.args.self.now.view in
    elim c.if-is_empty.branch [
      | then-is_empty+in_ok-push w ↦
          none_goes view.level view.layer c.args.b c.args.change.now.gone.items c.if-is_empty.change.gone.items c.args.ids.now w.pair_record.result
          w.if-is_empty.ensures
          (ap (λ z. z.gone.items) w.change-is ∙ w.in_ok-push.ensures.items) (w.pair_record.ensures.written [])
      | else-is_empty w ↦
          none_stays view.level view.layer c.args.b c.args.change.now.gone.items c.if-is_empty.change.gone.items c.args.ids.now w.if-is_empty.ensures
          (ap (λ z. z.gone.items) w.change-is)
    ]

pub returns-clause-come : goal.returns-clause-come
returns-clause-come c =
    let view = c.args.self.now.view in
    elim c.if-is_empty.branch [
      | then-is_empty+in_ok-push w ↦
          follow_one view.level view.layer c.args.change.now.come.items c.push-2.new.self.items c.pair_record-2.result (IsMetBy c.args.b c.args.self.now.id)
          (c.in_ok-push-2.ensures.items ∙ ap (λ z. z.come.items ++ c.pair_record-2.result ∷ []) w.change-is) (c.pair_record-2.ensures.written [])
      | else-is_empty w ↦
          follow_one view.level view.layer c.args.change.now.come.items c.push-2.new.self.items c.pair_record-2.result (IsMetBy c.args.b c.args.self.now.id)
          (c.in_ok-push-2.ensures.items ∙ ap (λ z. z.come.items ++ c.pair_record-2.result ∷ []) w.change-is) (c.pair_record-2.ensures.written [])
    ]
