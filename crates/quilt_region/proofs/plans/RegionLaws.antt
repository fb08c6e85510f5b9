-- What the plans of regions lead to, in the words in which the records of a map change.
use Rattle.std.proofs.Common.{◌≡◌, ℕ, ◌≤◌, List, [], ◌∷◌, map, filter, Some, None, refl, sym, ◌∙◌, ap, subst, ⊎_elim, arith, Contains}
use Rattle.quilt_types.specs.declared.plane.Block.{Block}
use Rattle.quilt_types.specs.Layers.{Region, Grid}
use Rattle.quilt_types.specs.Facts.{Fact, IsOfKind, HasColour}
use Rattle.quilt_types.specs.Quadtrees.{leaves}
use Rattle.quilt_loc.specs.Codes.{Rises}
use Rattle.quilt_loc.proofs.Members.{Contains-here, Contains-there, Contains-cons_cases, Contains-map, Contains-map_from}
use Rattle.quilt_loc.proofs.Rising.{Rises-filter, Rises-map}
use Rattle.quilt_record.specs.declared.record.Record.{Record}
use Rattle.quilt_record.specs.Records.{record_of}
use Rattle.quilt_spell.specs.Apart.{SameMembers}
use Rattle.quilt_spell.specs.Written.{layer_records}
use Rattle.quilt_spell.specs.Changing as changing
use Rattle.quilt_spell.specs.OfLayer.{kind_record, leaf_record}
use Rattle.quilt_spell.proofs.Lists.{Apart-rises}
use Rattle.quilt_spell.proofs.Written.{layer_record, layer_record_from, layer_fits}
use Rattle.quilt_spell.proofs.OfLayer.{kind_there, region_spelled}
use Rattle.quilt_spell.proofs.InKeyOrder.{leaf_less}
use Rattle.quilt_spell.proofs.Commands.{fresh_leads}
use Rattle.quilt_spell.proofs.RegionPlans.{region_plan}
use Rattle.quilt_blocks.specs.Cutting.{leaves_by_code, leaf_cmp}
use Rattle.quilt_blocks.proofs.Cuts.{leaves_rise, leaves_members}
use Rattle.quilt_region.specs.Regions.{region_records}
use Rattle.quilt_region.specs.Plans.{records_without}
use Rattle.quilt_region.specs.Laws.{IsRegionPlan, ReadLaw, ChangeLaw, FreshLaw}
use Rattle.quilt_spell.specs.Written.{by_key}
use Rattle.quilt_spell.proofs.Written.{by_key_total}
use Rattle.quilt_edits.proofs.Keys.{less_layer}
use Rattle.quilt_edits.proofs.Ascents.{rises_ascend}
use Rattle.quilt_region.proofs.Records.{records_rise, leaf_with, record_of_leaf}
use Rattle.quilt_region.proofs.Leaves.{only_test}
use Rattle.quilt_region.proofs.plans.LayerPlans.{entry_record}
use Rattle.quilt_region.proofs.GridsFit.{in_two}

-- ---- a tree has the regions of its map
pub reads_law : ReadLaw
reads_law form n numbers rs layers name g told t le s is at =
    let r = region_spelled form n numbers rs layers le s name g at in record {
      records = rs;
      tree = is;
      spelled = record { grid = in_two form n g (layer_fits form n numbers layers le s.map s.numbering name (Region g) at); each = r.each; only = r.only };
    }

-- ---- a region becomes another
module _ (n : ℕ) (number : ℕ) (g other : Grid) where
  only_are : records_without n number g other ≡ map (leaf_record n number) (filter (only_test n other) (leaves_by_code n g))
  unfolding records_without
  only_are = refl

  pub only_rises : n ≤ 12 → Rises by_key (records_without n number g other)
  only_rises le =
      subst (Rises by_key) (sym only_are)
      (Rises-map leaf_cmp by_key (leaf_record n number) (filter (only_test n other) (leaves_by_code n g)) (λ d e _ _ h. leaf_less n number d e h)
      (Rises-filter leaf_cmp (only_test n other) (leaves_by_code n g) (leaves_rise n g le)))

pub changes_law : ChangeLaw
changes_law form n name number g h edits le hg hh leads =
    let remove = leads.remove ∙ only_are n number g h in
    let add = leads.add ∙ only_are n number h g in
    let rises_at : (rs : List Record) (a b : Grid) → rs ≡ records_without n number a b → Rises by_key rs =
    λ rs a b e. subst (Rises by_key) (sym e) (only_rises n number a b le) in record {
      leads =
          subst (λ (rs : List Record). changing.LeadsTo n name number (Some (Region g)) (Some (Region h)) rs edits.add) (sym remove)
          (subst (λ (rs : List Record). changing.LeadsTo n name number (Some (Region g)) (Some (Region h))
          (map (leaf_record n number) (filter (only_test n h) (leaves_by_code n g))) rs) (sym add)
          (region_plan form n name number le g h hg hh (leaves_by_code n g) (leaves_by_code n h) (leaves_rise n g le) (leaves_members n g)
          (leaves_rise n h le) (leaves_members n h)));
      removed_ascend = rises_ascend edits.remove (rises_at edits.remove g h leads.remove);
      added_ascend = rises_ascend edits.add (rises_at edits.add h g leads.add);
    }

-- ---- a region comes
module _ (n : ℕ) (name : List ℕ) (number : ℕ) (g : Grid) where
  fact : Block × ℕ → Fact
  fact e = HasColour e.0 e.1

  fresh_members : SameMembers (kind_record n name number (Region g) ∷ region_records n number g) (layer_records n name number (Region g))
  unfolding fact
  fresh_members r = (
    λ c.
        ⊎_elim (λ e. subst (Contains (layer_records n name number (Region g))) e
        (layer_record n name number (Region g) (IsOfKind 1 0) (kind_there n (Region g))))
        (λ d.
        let l = leaf_with n number g r d in
        subst (Contains (layer_records n name number (Region g))) l.2
        (layer_record n name number (Region g) (fact l.0)
        (Contains-there (IsOfKind 1 0) (map fact (leaves n g)) (fact l.0) (Contains-map fact (leaves n g) l.0 ((leaves_members n g l.0).0 l.1)))))
        (Contains-cons_cases (kind_record n name number (Region g)) (region_records n number g) r c),
    λ c.
        let f = layer_record_from n name number (Region g) r c in
        ⊎_elim
        (λ kind. subst (Contains (kind_record n name number (Region g) ∷ region_records n number g)) (ap (record_of n 0 name number) kind ∙ f.2)
        (Contains-here (kind_record n name number (Region g)) (region_records n number g)))
        (λ leaf.
        let d = Contains-map_from fact (leaves n g) f.0 leaf in
        let is : leaf_record n number d.0 ≡ r = ap (record_of n 0 name number) d.2 ∙ f.2 in
        Contains-there (kind_record n name number (Region g)) (region_records n number g) r
        (subst (Contains (region_records n number g)) is (record_of_leaf n number g d.0 ((leaves_members n g d.0).1 d.1))))
        (Contains-cons_cases (IsOfKind 1 0) (map fact (leaves n g)) f.0 f.1),
  )

  fresh_rises : n ≤ 12 → 1 ≤ number → Rises by_key (kind_record n name number (Region g) ∷ region_records n number g)
  fresh_rises le some = (
    λ r c.
        let l = leaf_with n number g r c in
        let is = ap (λ (q : Record). q.key.layer) l.2 in
        less_layer (kind_record n name number (Region g)).key r.key (omega arith),
    records_rise n number g le,
  )

pub fresh_law : FreshLaw
fresh_law form n name number g r le some hg is =
    let up = fresh_rises n name number g le some in
    let all = kind_record n name number (Region g) ∷ region_records n number g in
    subst (λ (z : Record). IsRegionPlan n name number None (Some (Region g)) [] (z ∷ region_records n number g))
    (sym (entry_record n r name number (Region g) is)) (record {
      leads = fresh_leads n name number (Region g) all (fresh_members n name number g) (Apart-rises by_key by_key_total all up);
      removed_ascend = refl;
      added_ascend = rises_ascend all up;
    })
