-- A list that spells a map spells each of its point layers.
use Rattle.std.proofs.Common.{◌≡◌, ℕ, ◌≤◌, Bool, true, false, cond, List, map, sym, ◌∙◌, ap, subst, ⊎_elim, arith, Contains, flat_map, eqb, ne_eqb}
use Rattle.std.specs.Prelude.{◌==◌}
use Rattle.std.proofs.lemmas.Bool.{cond-false}
use Rattle.quilt_types.specs.Layers.{Points, PointMap, IsPointMap}
use Rattle.quilt_types.specs.Facts.{Fact, IsOfKind, point_facts}
use Rattle.quilt_types.specs.Quadtrees.{point_blocks}
use Rattle.quilt_loc.proofs.Members.{Contains-there, Contains-cons_cases, Contains-map}
use Rattle.quilt_record.specs.declared.record.Record.{Record}
use Rattle.quilt_record.specs.Records.{record_of}
use Rattle.quilt_spell.specs.Written.{number_of, number_in}
use Rattle.quilt_spell.proofs.OfLayer.{layer_spelled}
use Rattle.quilt_spell.proofs.Written.{layer_record_from, number_fits, layer_fits}
use Rattle.quilt_points.specs.Layers.{block_record}
use Rattle.quilt_points.specs.Laws.{PointsLaw}
use Rattle.quilt_points.proofs.Shapes.{block_fact_from}
use Rattle.quilt_points.proofs.plans.Plans.{nameless}

-- a format allows no more than the later one
later_valid : (form n capacity : ℕ) (points : PointMap) → IsPointMap form n capacity points → IsPointMap 2 n capacity points
later_valid form n capacity points v = record { least = v.least; most = few_of (form == 1) capacity v.most; inside = v.inside; labels = v.labels }
  where
    few_of : (t : Bool) (capacity : ℕ) → capacity ≤ cond t 1 16 → capacity ≤ 16
    few_of true capacity le = omega arith
    few_of false capacity le = le

pub points_law : PointsLaw
points_law form n numbers rs layers name capacity points le s at told t tree =
    let k = number_of numbers name in
    let l = layer_spelled form n numbers rs layers le s name (Points capacity points) at in
    let least = (number_fits layers numbers s.numbering name (Points capacity points) at).0 in
    let fits = layer_fits form n numbers layers le s.map s.numbering name (Points capacity points) at in
    let others : List Fact = flat_map (point_facts points) (point_blocks n capacity points) in
    record {
      records = rs;
      tree = tree;
      spelled = record {
        valid = later_valid form n capacity points fits;
        each = λ f c.
            let w = block_fact_from n capacity points f c in
            subst (Contains rs) (nameless n capacity k name points w.block f w.on) (l.each f (Contains-there (IsOfKind 2 capacity) others f c));
        only = λ r c e.
            let number : number_in r.key ≡ k = cond-false (eqb r.key.layer 0) r.key.item r.key.layer (ne_eqb r.key.layer 0 (λ z. absurd (omega arith))) ∙ e in
            let m = layer_record_from n name k (Points capacity points) r (l.only r c number) in
            ⊎_elim
            (λ kind. let zero' : 0 ≡ k = ap (λ (f : Fact). (record_of n capacity name k f).key.layer) kind ∙ ap (λ (q : Record). q.key.layer) m.2
            ∙ e in absurd (omega arith))
            (λ d.
            let w = block_fact_from n capacity points m.0 d in
            subst (Contains (map (block_record n capacity k) others)) (sym (nameless n capacity k name points w.block m.0 w.on) ∙ m.2)
            (Contains-map (block_record n capacity k) others m.0 d))
            (Contains-cons_cases (IsOfKind 2 capacity) others m.0 m.1);
      };
    }
