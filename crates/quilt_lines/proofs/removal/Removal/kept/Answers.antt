use Rattle.std.proofs.Common.{ℕ, Bool, ◌&&◌, cond, List, [], ◌∷◌, length, refl, ◌∙◌, ap}
use Rattle.std.specs.Prelude.{◌==◌}
use Rattle.quilt_types.specs.Facts.{IsMetBy, IsMetByNone}
use Rattle.quilt_types.specs.Segments.{square, meets}
use Rattle.quilt_record.specs.declared.record.Record.{Record}
use Rattle.quilt_lines.specs.Layers.{fact_record}
use Rattle.quilt_lines.proofs.plans.MergeSteps.{kept_settles}
use Rattle.quilt_lines.proofs.removal.Removal.kept.Goals as goal

pub returns : goal.returns
returns c k segs cover at =
    let n = c.args.self.now.level in
    let layer = c.args.self.now.layer in
    let b = c.args.b in
    let row = λ (r : Record) (u : Bool). cond {A = List Record} u (r ∷ []) [] in
    kept_settles n layer c.args.self.now.threshold c.args.self.now.id segs cover c.args.self.now.segment k b c.args.ids.now _ at
    refl c.in_ok-others.ensures c.in_ok-parts.ensures c.new.ensures.items c.new-2.ensures.items
    (c.in_ok-staying.ensures ∙ ap (row (fact_record n layer (IsMetBy b c.args.self.now.id))) c.meets-met.ensures.value)
    (c.in_ok-emptied.ensures ∙ ap (row (fact_record n layer (IsMetByNone b))) c.meets_alone.ensures
    ∙ ap (λ (l : List ℕ). row (fact_record n layer (IsMetByNone b)) (meets c.args.self.now.segment (square b) && (length l == 0))) c.deref.ensures.value)
