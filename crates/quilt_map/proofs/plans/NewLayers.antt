-- A layer that comes, as a plan of the work.
use Rattle.std.proofs.Common.{◌≡◌, ◌≢◌, ℕ, ◌<◌, ◌≤◌, true, List, [], ◌∷◌, length, All, Option, Some, None, sym, ◌∙◌, ap, subst, arith}
use Rattle.std.specs.FinMap as finmap
use Rattle.quilt_types.specs.Layers.{Layer, Region, IsGrid, is_name}
use Rattle.quilt_world.specs.declared.disk.Disk as disk
use Rattle.quilt_record.specs.declared.record.Record.{Record}
use Rattle.quilt_spell.specs.Changing.{IsOne, KeepsCapacity, LeadsTo}
use Rattle.quilt_spell.specs.Stepping.{IsPlaced}
use Rattle.quilt_types.specs.declared.plane.Kind.TheVariants as Kind
use Rattle.quilt_record.specs.Records.{record_of}
use Rattle.quilt_record.specs.Listing.{fact_of_kind}
use Rattle.quilt_blocks.specs.Raster.{Raster}
use Rattle.quilt_region.specs.Laws as regions
use Rattle.quilt_region.specs.Regions.{region_records}
use Rattle.quilt_region.proofs.plans.RegionLaws.{fresh_law}
use Rattle.quilt_replies.specs.Answers.{State}
use Rattle.quilt_map.specs.Planning.{IsLayerPlan}
use Rattle.quilt_map.specs.Sessions.{IsAtState}
use Rattle.quilt_map.specs.declared.session.Session.{Session}
use Rattle.quilt_map.proofs.states.Catalogs.{no_layer, catalog_length}
use Rattle.quilt_map.proofs.states.ChangeSteps.{at_most}

module _ {W : Type 0} {D : disk.Ghosts W} (session : Session W D) (s : State) (at : IsAtState session s) where
  -- a new layer under a free number
  pub new_plan : (name : List ℕ) (number : ℕ) (layer : Layer) (added : List Record) → is_name name ≡ true → length session.catalog < 255
      → All (λ e. e.name ≢ name) session.catalog
      → 1 ≤ number → number ≤ 255 → ((other : List ℕ) → finmap.get at.work.numbers other ≢ Some number) → IsOne s.last.format s.last.level (Some layer)
      → regions.IsRegionPlan s.last.level name number None (Some layer) [] added → IsLayerPlan s at.work.numbers name number (Some layer) [] added
  new_plan name number layer added named few others least most free fits plan =
      let none = no_layer s.work at.work.numbers session.catalog name at.work.catalog others in
      let many = catalog_length s.work at.work.numbers session.catalog at.work.catalog in
      record {
        step = record {
          fits = fits;
          kept = subst (λ (o : Option Layer). KeepsCapacity o (Some layer)) (sym none) tt;
          placed = subst (λ (o : Option Layer). IsPlaced s.work at.work.numbers name number o) (sym none)
              (record { named = named; room = omega arith; least = least; most = most; free = free });
          leads = subst (λ (o : Option Layer). LeadsTo s.last.level name number o (Some layer) [] added) (sym none) plan.leads;
        };
        some = λ e n. some_none layer n;
        removed_ascend = plan.removed_ascend;
        added_ascend = plan.added_ascend;
      }
    where
      some_none : (l : Layer) → Some l ≡ None → ⊥
      some_none l e = cc

  -- a new region layer, whose records begin with that of the catalog
  pub region_plan : (name : List ℕ) (number : ℕ) (list : Raster) (added rest : List Record) → list.level ≡ s.last.level
      → IsGrid s.last.format s.last.level list.grid → is_name name ≡ true
      → length session.catalog < 255 → All (λ e. e.name ≢ name) session.catalog → 1 ≤ number → number ≤ 255
      → ((other : List ℕ) → finmap.get at.work.numbers other ≢ Some number)
      → (first : Record) → added ≡ first ∷ rest → ((n capacity : ℕ) → first ≡ record_of n capacity name number (fact_of_kind Kind.Region))
      → rest ≡ region_records list.level number list.grid
      → IsLayerPlan s at.work.numbers name number (Some (Region list.grid)) [] added
  region_plan name number list added rest level grid named few others least most free first is entry all =
      let fresh = fresh_law s.last.format s.last.level name number list.grid first (at_most session s at) least grid entry in
      let list_is : added ≡ first ∷ region_records s.last.level number list.grid =
      is ∙ ap (λ (l : List Record). first ∷ l) (all ∙ ap (λ n. region_records n number list.grid) level) in
      new_plan name number (Region list.grid) added named few others least most free grid
      (subst (λ (l : List Record). regions.IsRegionPlan s.last.level name number None (Some (Region list.grid)) [] l) (sym list_is) fresh)
