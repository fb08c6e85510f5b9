use Rattle.std.proofs.Common.{rules, ◌≡◌, ◌++◌, ℕ, List, OnOk, ◌∙◌, ap, subst}
use Rattle.std.proofs.lemmas.List.{map-append}
use Rattle.quilt_types.specs.declared.plane.Pixel.{Pixel}
use Rattle.quilt_points.specs.Layers.{point_entry, point_entries}
use Rattle.quilt_points.specs.Scattering.{AddsSpread}
use Rattle.quilt_points.proofs.delta.spread_all.Goals as goal

pub returns : goal.returns
returns c =
    let all : c.deref.result.now ≡ c.args.news.now ++ c.args.held.now = search rules in
    subst (λ (l : List (Pixel × ℕ)). OnOk c.spread.result
    (AddsSpread c.args.layer.level c.args.layer.number c.args.layer.bucket c.args.b l c.args.records.now.items c.spread.new.records.items))
    (ap point_entries all ∙ map-append point_entry c.args.news.now c.args.held.now) c.spread.ensures
