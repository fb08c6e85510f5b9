use Rattle.std.proofs.Common.{[], ◌∷◌, List, sym, subst, Contains}
use Rattle.std.proofs.lemmas.Bool.{both_ways}
use Rattle.quilt_lines.specs.Merges.{AddsIds}
use Rattle.quilt_lines.proofs.plans.Merges.{adds_one}
use Rattle.quilt_lines.proofs.merge.add_id.Goals as goal

pub returns : goal.returns
returns c =
    subst (AddsIds c.args.most c.args.ids.now.items (c.args.id ∷ [])) (sym c.in_ok-push.ensures.items)
    (adds_one c.args.most c.args.id c.args.ids.now.items (λ m. both_ways c.has_id.result c.if-has_id.false
    (c.has_id.ensures.no (subst (λ (l : List _). Contains l c.args.id) (sym c.deref.ensures.value) m))))
