use Rattle.std.proofs.Common.{◌≢◌, ℕ, ◌<◌, ◌==◌, ◌&&◌, nat_lt, true, false, List, [], ◌∷◌, length, All, Some, refl, sym, ◌∙◌, ap, subst}
use Rattle.quilt_types.specs.declared.code.Code.TheVariants as no
use Rattle.quilt_types.specs.declared.plane.Kind.{Kind}
use Rattle.quilt_types.specs.Layers.{Points}
use Rattle.quilt_node.specs.declared.head.Head.{Head}
use Rattle.quilt_record.specs.declared.entry.Entry.{Entry}
use Rattle.quilt_record.specs.declared.record.Record.{Record}
use Rattle.quilt_record.specs.Records.{record_of}
use Rattle.quilt_record.specs.Listing.{fact_of_kind}
use Rattle.quilt_words.specs.declared.command.Command.TheVariants as commands
use Rattle.quilt_replies.specs.Answers.{Refused}
use Rattle.quilt_replies.specs.declared.reply.Reply.TheVariants as given
use Rattle.quilt_map.specs.Copying.{BeginsWithEntry}
use Rattle.quilt_map.specs.Making.{AnsweredBy, layer_placed}
use Rattle.quilt_map.specs.Planning.{IsLayerPlan}
use Rattle.quilt_map.proofs.answers.Answered.{catalog_as, format_is, level_is, test_at}
use Rattle.quilt_map.proofs.answers.Asked.{if_ok, if_err}
use Rattle.quilt_map.proofs.states.ChangeSteps.{goes_here}
use Rattle.quilt_map.proofs.plans.NewPoints.{bare, points_refused, points_unwritten, points_given, points_plan}
use Rattle.quilt_map.proofs.answers.Outcomes.{answered_same}
use Rattle.quilt_map.proofs.answers.Placing.{answered_by, placed_none}
use Rattle.quilt_map.proofs.session.Session.make_points.Goals as goal

pub returns-in-Some-clause-answer : goal.returns-in-Some-clause-answer
returns-in-Some-clause-answer g c = λ s at range.
    let old = c.args.self.now in
    let name = c.args.name.now in
    let code = c.in-Some.code in
    let catalog = catalog_as {D = g.W.Disk} old s at c.entries.result.now c.entries.ensures.entries in
    answered_same {D = g.W.Disk} s (commands.Points name c.args.bucket) old old (Refused code) (given.No code)
    (points_refused s name c.args.bucket code (c.in-Some.ensures.refuses s at.work.numbers catalog)) refl refl refl at at

pub returns-in-Some-clause-goes_on : goal.returns-in-Some-clause-goes_on
returns-in-Some-clause-goes_on g c = goes_here {D = g.W.Disk} c.args.self.now.book

pub returns-then-is_unwritten-clause-answer : goal.returns-then-is_unwritten-clause-answer
returns-then-is_unwritten-clause-answer g c = λ s at range.
    let old = c.args.self.now in
    let name = c.args.name.now in
    let catalog = catalog_as {D = g.W.Disk} old s at c.entries.result.now c.entries.ensures.entries in
    let passes = c.in_default.ensures.passes refl s at.work.numbers catalog in
    let un = test_at (λ f. (f == 1) && nat_lt 1 c.args.bucket) c.head-head.result.format s.last.format c.is_unwritten.result true
    (ap (λ (h : Head). h.format) c.head-head.ensures.work ∙ format_is {D = g.W.Disk} old s at) c.is_unwritten.ensures c.if-is_unwritten.true in
    answered_same {D = g.W.Disk} s (commands.Points name c.args.bucket) old old (Refused no.Format) (given.No no.Format)
    (points_unwritten s name c.args.bucket passes un) refl refl refl at at

pub returns-then-is_unwritten-clause-goes_on : goal.returns-then-is_unwritten-clause-goes_on
returns-then-is_unwritten-clause-goes_on g c = goes_here {D = g.W.Disk} c.args.self.now.book

pub returns-clause-answer : goal.returns-clause-answer
returns-clause-answer g c =
    if_ok _ _ c.place.result (λ reply p s at range.
    let old = c.args.self.now in
    let name = c.args.name.now in
    let bucket = c.args.bucket in
    let e = c.new_entry-entry.ensures in
    let entry = c.new_entry-entry.result in
    let catalog = catalog_as {D = g.W.Disk} old s at c.entries.result.now c.entries.ensures.entries in
    let again = catalog_as {D = g.W.Disk} old s at c.entries-2.result.now c.entries-2.ensures.entries in
    let level = ap (λ (h : Head). h.level) c.head-head.ensures.work ∙ level_is {D = g.W.Disk} old s at in
    let written = test_at (λ f. (f == 1) && nat_lt 1 bucket) c.head-head.result.format s.last.format c.is_unwritten.result false
    (ap (λ (h : Head). h.format) c.head-head.ensures.work ∙ format_is {D = g.W.Disk} old s at) c.is_unwritten.ensures c.if-is_unwritten.false in
    let few = subst (λ (es : List Entry). length es < 255) c.entries.ensures.entries (c.in_default.ensures.few refl) in
    let others = subst (λ (es : List Entry). All (λ f. f.name ≢ name) es) c.entries.ensures.entries (c.in_default.ensures.new refl) in
    let planned = λ (all : List Record) (listed : BeginsWithEntry entry (c.first_record-first.result ∷ []) all).
    let first_is = λ (n k : ℕ). listed.2 n k ∙ ap (λ (b : List ℕ). record_of n k b entry.number (fact_of_kind entry.kind)) e.name
    ∙ ap (λ (x : Kind). record_of n k name entry.number (fact_of_kind x)) e.kind in
    let plan = points_plan {D = g.W.Disk} old s at name entry.number bucket c.head-head.result.level all level range.least range.most written
    e.named few others e.number.0 e.number.1
    (e.unused s.work at.work.numbers again at.work.spelled.numbering) listed.0 c.first_record-first.result
    listed.1 first_is c.first_record-first.ensures in
    subst (λ (b : List ℕ). IsLayerPlan s at.work.numbers b entry.number (Some (Points bucket bare)) [] all) (sym e.name) plan in
    let passes = c.in_default.ensures.passes refl s at.work.numbers catalog in
    answered_by {D = g.W.Disk} s (commands.Points name bucket) (layer_placed s name (Points bucket bare)) old c.place.new.self reply
    (points_given s name bucket passes written) (placed_none s name (Points bucket bare)) refl
    (subst (λ (b : List ℕ). AnsweredBy {D = g.W.Disk} s (layer_placed s b (Points bucket bare)) old c.place.new.self reply) e.name
    (p s at (Points bucket bare) e.kind planned))) c.place.ensures.placed

pub returns-clause-sound : goal.returns-clause-sound
returns-clause-sound g c =
    if_err _ _ c.place.result (λ err p s at range.
    let old = c.args.self.now in
    let name = c.args.name.now in
    let bucket = c.args.bucket in
    let e = c.new_entry-entry.ensures in
    let entry = c.new_entry-entry.result in
    let again = catalog_as {D = g.W.Disk} old s at c.entries-2.result.now c.entries-2.ensures.entries in
    let level = ap (λ (h : Head). h.level) c.head-head.ensures.work ∙ level_is {D = g.W.Disk} old s at in
    let written = test_at (λ f. (f == 1) && nat_lt 1 bucket) c.head-head.result.format s.last.format c.is_unwritten.result false
    (ap (λ (h : Head). h.format) c.head-head.ensures.work ∙ format_is {D = g.W.Disk} old s at) c.is_unwritten.ensures c.if-is_unwritten.false in
    let few = subst (λ (es : List Entry). length es < 255) c.entries.ensures.entries (c.in_default.ensures.few refl) in
    let others = subst (λ (es : List Entry). All (λ f. f.name ≢ name) es) c.entries.ensures.entries (c.in_default.ensures.new refl) in
    let planned = λ (all : List Record) (listed : BeginsWithEntry entry (c.first_record-first.result ∷ []) all).
    let first_is = λ (n k : ℕ). listed.2 n k ∙ ap (λ (b : List ℕ). record_of n k b entry.number (fact_of_kind entry.kind)) e.name
    ∙ ap (λ (x : Kind). record_of n k name entry.number (fact_of_kind x)) e.kind in
    let plan = points_plan {D = g.W.Disk} old s at name entry.number bucket c.head-head.result.level all level range.least range.most written
    e.named few others e.number.0 e.number.1
    (e.unused s.work at.work.numbers again at.work.spelled.numbering) listed.0 c.first_record-first.result
    listed.1 first_is c.first_record-first.ensures in
    subst (λ (b : List ℕ). IsLayerPlan s at.work.numbers b entry.number (Some (Points bucket bare)) [] all) (sym e.name) plan in
    p s at (Points bucket bare) planned) c.place.ensures.sound
