use Rattle.std.proofs.Common.{◌≡◌, [], sym, ◌∙◌, ap}
use Rattle.std.proofs.lemmas.Bool.{both_ways}
use Rattle.std.proofs.lemmas.Option.{some_pair_parts}
use Rattle.quilt_types.specs.Layers.{is_in_square}
use Rattle.quilt_lines.proofs.view.LineView.segment_said.Goals as goal

pub returns-in-Some-clause-one : goal.returns-in-Some-clause-one
returns-in-Some-clause-one c = λ id s e fits inside.
    sym c.in-Some.is ∙ c.read_segment.ensures.one c.args.self.now.level c.args.self.now.layer id s
    (record { least = c.args.self.now.has_layer.0; most = c.args.self.now.has_layer.1; fits = fits; written = λ name. e })

pub returns-in_default-clause-one : goal.returns-in_default-clause-one
returns-in_default-clause-one c = λ id s e fits inside.
    let is = sym c.in-Some.is ∙ c.read_segment.ensures.one c.args.self.now.level c.args.self.now.layer id s
    (record { least = c.args.self.now.has_layer.0; most = c.args.self.now.has_layer.1; fits = fits; written = λ name. e }) in
    let same : c.in-Some.s ≡ s = (some_pair_parts c.in-Some.id id c.in-Some.s s is).1 in
    absurd (both_ways (is_in_square c.args.self.now.level c.in-Some.s) (sym c.is_in_square.ensures ∙ c.if-is_in_square.false)
    (ap (is_in_square c.args.self.now.level) same ∙ inside))

pub returns-in_default-2-clause-one : goal.returns-in_default-2-clause-one
returns-in_default-2-clause-one c = λ id s e fits inside.
    sym c.in_default.is ∙ c.read_segment.ensures.one c.args.self.now.level c.args.self.now.layer id s
    (record { least = c.args.self.now.has_layer.0; most = c.args.self.now.has_layer.1; fits = fits; written = λ name. e })

pub returns-in-Some-clause-some : goal.returns-in-Some-clause-some
returns-in-Some-clause-some c = (c.in-Some.ensures.some c.args.self.now.level).written []
