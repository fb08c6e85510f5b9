-- A point layer that begins: the record of the catalog and that of the whole square.
use Rattle.std.proofs.Common.{◌≡◌, ℕ, ◌≤◌, [], ◌∷◌, Some, None, sym, ◌∙◌, ap, subst, ⊎_elim, arith, Less}
use Rattle.std.specs.FinMap as finmap
use Rattle.quilt_types.specs.declared.plane.Block.{Block}
use Rattle.quilt_types.specs.Plane.{whole}
use Rattle.quilt_types.specs.Layers.{Points}
use Rattle.quilt_types.specs.Facts.{IsOfKind, HoldsNoPoint}
use Rattle.quilt_loc.specs.Codes.{Rises}
use Rattle.quilt_loc.proofs.Members.{Contains-nil, Contains-cons_cases}
use Rattle.quilt_record.specs.declared.record.Record.{Record}
use Rattle.quilt_record.specs.Canonical.{IsRecordOf, point_fact}
use Rattle.quilt_record.specs.Records.{record_of}
use Rattle.quilt_spell.specs.Changing.{LeadsTo}
use Rattle.quilt_spell.specs.Written.{by_key}
use Rattle.quilt_edits.proofs.Ascents.{rises_ascend}
use Rattle.quilt_edits.proofs.Keys.{less_layer}
use Rattle.quilt_point_laws.proofs.Beginnings.{begin_law}
use Rattle.quilt_points.specs.Plans.{IsBeginning}

pub begins : (n number capacity : ℕ) (b : Block) (r : Record) → b ≡ whole n → 1 ≤ number → IsRecordOf n capacity r number (point_fact b None)
    → IsBeginning n number capacity r
begins n number capacity b r square least is = record {
  leads = λ name first kind.
      let second : r ≡ record_of n capacity name number (HoldsNoPoint (whole n)) =
      is.written name ∙ ap (λ (c : Block). record_of n capacity name number (HoldsNoPoint c)) square in
      subst (λ (z : Record). LeadsTo n name number None (Some (Points capacity finmap.empty)) [] (z ∷ r ∷ [])) (sym (kind n capacity))
      (subst (λ (z : Record). LeadsTo n name number None (Some (Points capacity finmap.empty)) []
      (record_of n capacity name number (IsOfKind 2 capacity) ∷ z ∷ [])) (sym second) (begin_law n name number capacity least));
  ascend = λ name first kind.
      let low = ap (λ (z : Record). z.key.layer) (kind n capacity) in
      let high = ap (λ (z : Record). z.key.layer) (is.written name) in
      let up : Rises by_key (first ∷ r ∷ []) = (
        λ z c. ⊎_elim (λ e. subst (λ (y : Record). by_key first y ≡ Less) e (less_layer first.key r.key (omega arith)))
            (λ d. absurd (Contains-nil z d)) (Contains-cons_cases r [] z c),
        (λ z c. absurd (Contains-nil z c), tt),
      ) in
      rises_ascend (first ∷ r ∷ []) up;
}
