use Rattle.std.proofs.Common.{◌≡◌, true, false, not, List, Option, Some, None, refl, sym, ◌∙◌, ap, subst}
use Rattle.std.specs.List.{list_any}
use Rattle.quilt_types.specs.declared.plane.Point.{Point}
use Rattle.quilt_types.specs.Plane.{is_pixel}
use Rattle.quilt_types.specs.declared.code.Code.TheVariants as no
use Rattle.quilt_node.specs.declared.head.Head.{Head}
use Rattle.quilt_words.specs.declared.command.Command.TheVariants as commands
use Rattle.quilt_replies.specs.Answers.{Refused}
use Rattle.quilt_replies.specs.declared.reply.Reply.TheVariants as given
use Rattle.quilt_map.specs.Commanding.{Answered}
use Rattle.quilt_map.proofs.answers.Answered.{level_is, test_at, catalog_as}
use Rattle.quilt_map.proofs.answers.Asked.{if_ok, if_err}
use Rattle.quilt_map.proofs.states.ChangeSteps.{goes_here}
use Rattle.quilt_map.proofs.answers.Outcomes.{answered_same}
use Rattle.quilt_map.proofs.plans.PointPlans.{found_points}
use Rattle.quilt_map.proofs.layers.Scatters.{scatter_refused, scatter_rows, scatter_outside, scatter_answered, none_outside}
use Rattle.quilt_map.proofs.session.Session.scatter.Goals as goal

pub scatter_into-requires : goal.scatter_into-requires
scatter_into-requires g c =
    let level = c.args.self.now.book.work.level in
    let in_ = test_at (λ n. list_any (λ (q : Point). not (is_pixel n q.at)) c.items.result.now) c.head.result.level level c.has_outside.result false
    (ap (λ (h : Head). h.level) c.head.ensures.work) c.has_outside.ensures c.if-has_outside.false in
    record { pixels = none_outside level _ (subst (λ (ps : List Point). list_any (λ (q : Point). not (is_pixel level q.at)) ps ≡ false) c.items.ensures in_) }

pub returns-in-Err-clause-answer : goal.returns-in-Err-clause-answer
returns-in-Err-clause-answer g c = λ s at.
    let old = c.args.self.now in
    let name = c.args.name.now in
    let first = c.in-Err.ensures.refused s at.work.numbers (catalog_as {D = g.W.Disk} old s at c.entries.result.now c.entries.ensures.entries) in
    answered_same {D = g.W.Disk} s (commands.Scatter name c.args.points.now) old old (Refused c.in-Err.code) _
    (scatter_refused s name c.args.points.now c.in-Err.code first) refl refl refl at at

pub returns-in-Err-clause-goes_on : goal.returns-in-Err-clause-goes_on
returns-in-Err-clause-goes_on g c = goes_here {D = g.W.Disk} c.args.self.now.book

pub returns-in-None-clause-answer : goal.returns-in-None-clause-answer
returns-in-None-clause-answer g c = λ s at.
    let old = c.args.self.now in
    let name = c.args.name.now in
    let found = found_points {D = g.W.Disk} old s at name c.in-Ok.layer c.entries.result.now c.entries.ensures.entries c.in-Ok.ensures.found in
    subst (λ (l : Option (List Point)). Answered {D = g.W.Disk} s (commands.Scatter name l) old old (given.No no.Rows)) (sym c.in-None.is)
    (answered_same {D = g.W.Disk} s (commands.Scatter name None) old old (Refused no.Rows) (given.No no.Rows)
    (scatter_rows s name c.in-Ok.layer.bucket found.points found.is.got) refl refl refl at at)

pub returns-in-None-clause-goes_on : goal.returns-in-None-clause-goes_on
returns-in-None-clause-goes_on g c = goes_here {D = g.W.Disk} c.args.self.now.book

pub returns-then-has_outside-clause-answer : goal.returns-then-has_outside-clause-answer
returns-then-has_outside-clause-answer g c = λ s at.
    let old = c.args.self.now in
    let name = c.args.name.now in
    let found = found_points {D = g.W.Disk} old s at name c.in-Ok.layer c.entries.result.now c.entries.ensures.entries c.in-Ok.ensures.found in
    let out = test_at (λ n. list_any (λ (q : Point). not (is_pixel n q.at)) c.items.result.now) c.head.result.level s.last.level c.has_outside.result
    true (ap (λ (h : Head). h.level) c.head.ensures.work ∙ level_is {D = g.W.Disk} old s at) c.has_outside.ensures c.if-has_outside.true in
    let there = subst (λ (ps : List Point). list_any (λ (q : Point). not (is_pixel s.last.level q.at)) ps ≡ true) c.items.ensures out in
    subst (λ (l : Option (List Point)). Answered {D = g.W.Disk} s (commands.Scatter name l) old old (given.No no.Outside)) (sym c.in-Some.is)
    (answered_same {D = g.W.Disk} s (commands.Scatter name (Some _)) old old (Refused no.Outside) (given.No no.Outside)
    (scatter_outside s name c.in-Ok.layer.bucket found.points found.is.got _ there) refl refl refl at at)

pub returns-then-has_outside-clause-goes_on : goal.returns-then-has_outside-clause-goes_on
returns-then-has_outside-clause-goes_on g c = goes_here {D = g.W.Disk} c.args.self.now.book

pub returns-else-has_outside-clause-answer : goal.returns-else-has_outside-clause-answer
returns-else-has_outside-clause-answer g c =
    if_ok _ _ c.scatter_into.result (λ reply p s at.
    let old = c.args.self.now in
    let name = c.args.name.now in
    let found = found_points {D = g.W.Disk} old s at name c.in-Ok.layer c.entries.result.now c.entries.ensures.entries c.in-Ok.ensures.found in
    let in_ = test_at (λ n. list_any (λ (q : Point). not (is_pixel n q.at)) c.items.result.now) c.head.result.level s.last.level c.has_outside.result
    false (ap (λ (h : Head). h.level) c.head.ensures.work ∙ level_is {D = g.W.Disk} old s at) c.has_outside.ensures c.if-has_outside.false in
    let inside = subst (λ (ps : List Point). list_any (λ (q : Point). not (is_pixel s.last.level q.at)) ps ≡ false) c.items.ensures in_ in
    subst (λ (l : Option (List Point)). Answered {D = g.W.Disk} s (commands.Scatter name l) old c.scatter_into.new.self reply) (sym c.in-Some.is)
    (scatter_answered s name c.in-Ok.layer.bucket found.points found.is.got _ {D = g.W.Disk} old c.scatter_into.new.self reply inside
    (p s at name found.points found.is))) c.scatter_into.ensures.scattered

pub returns-else-has_outside-clause-sound : goal.returns-else-has_outside-clause-sound
returns-else-has_outside-clause-sound g c =
    if_err _ _ c.scatter_into.result (λ e p s at.
    let old = c.args.self.now in
    let found = found_points {D = g.W.Disk} old s at c.args.name.now c.in-Ok.layer c.entries.result.now c.entries.ensures.entries c.in-Ok.ensures.found in
    p s at c.args.name.now found.points found.is) c.scatter_into.ensures.sound
