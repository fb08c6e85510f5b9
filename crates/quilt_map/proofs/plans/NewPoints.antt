-- A new point layer, as a plan of the work, and what its command is answered.
use Rattle.std.proofs.Common.{◌≡◌, ◌≢◌, ℕ, ◌<◌, ◌≤◌, Bool, true, false, cond, ◌&&◌, nat_lt, ◌==◌, ltb-false, List, [], ◌∷◌, length, All, Some, None, refl, sym}
use Rattle.std.proofs.Common.{◌∙◌, subst, arith}
use Rattle.std.specs.FinMap as finmap
use Rattle.quilt_types.specs.declared.code.Code.{Code}
use Rattle.quilt_types.specs.declared.code.Code.TheVariants as no
use Rattle.quilt_types.specs.Facts.{IsOfKind}
use Rattle.quilt_types.specs.Layers.{Points, PointMap, IsPointMap, is_name}
use Rattle.quilt_types.specs.Plane.{pixel_cmp}
use Rattle.quilt_world.specs.declared.disk.Disk as disk
use Rattle.quilt_words.specs.declared.command.Command.TheVariants as commands
use Rattle.quilt_record.specs.declared.record.Record.{Record}
use Rattle.quilt_record.specs.Records.{record_of}
use Rattle.quilt_points.specs.Plans.{IsBeginning}
use Rattle.quilt_region.specs.Laws as regions
use Rattle.quilt_replies.specs.Answers.{State, Outcome, Refused, answer, unless, exists, too_many, unless_written, full, with, changed}
use Rattle.quilt_map.specs.Making.{layer_placed, refused}
use Rattle.quilt_map.specs.Planning.{IsLayerPlan}
use Rattle.quilt_map.specs.Sessions.{IsAtState}
use Rattle.quilt_map.specs.declared.session.Session.{Session}
use Rattle.quilt_map.proofs.answers.FirstTests.{first_true, first_false}
use Rattle.quilt_map.proofs.plans.NewLayers.{new_plan}
use Rattle.quilt_map.proofs.answers.Outcomes.{nothing_done}

-- no points at all
abbrev pub bare : PointMap
bare = finmap.empty

-- ---- what the definition answers
module _ (s : State) (name : List ℕ) (bucket : ℕ) where
  pub points_refused : (code : Code)
      → ((rs : List (Bool × Code)) (done : Outcome) → unless (exists s name ∷ too_many s ∷ rs) s done ≡ refused s code)
      → answer s (commands.Points name bucket) ≡ nothing_done s (Refused code)
  unfolding answer
  points_refused code h = let work = with s name (Points bucket bare) in h (unless_written s bucket ∷ full s work ∷ []) (changed work)

  module _ (passes : ((exists s name).0 ≡ false) × ((too_many s).0 ≡ false)) where
    to_format : answer s (commands.Points name bucket) ≡ unless (unless_written s bucket ∷ full s (with s name (Points bucket bare)) ∷ []) s
        (changed (with s name (Points bucket bare)))
    unfolding answer
    to_format =
        let work = with s name (Points bucket bare) in
        first_false (exists s name).0 no.Exists (too_many s ∷ unless_written s bucket ∷ full s work ∷ []) s (changed work) passes.0
        ∙ first_false (too_many s).0 no.Layers (unless_written s bucket ∷ full s work ∷ []) s (changed work) passes.1

    pub points_unwritten : (unless_written s bucket).0 ≡ true → answer s (commands.Points name bucket) ≡ nothing_done s (Refused no.Format)
    points_unwritten un = let work =
        with s name (Points bucket bare) in to_format ∙ first_true (unless_written s bucket).0 no.Format (full s work ∷ []) s (changed work) un

    pub points_given : (unless_written s bucket).0 ≡ false → answer s (commands.Points name bucket) ≡ layer_placed s name (Points bucket bare)
    points_given is = let work =
        with s name (Points bucket bare) in to_format ∙ first_false (unless_written s bucket).0 no.Format (full s work ∷ []) s (changed work) is

-- ---- the plan
few_written : (b : Bool) (bucket : ℕ) → bucket ≤ 16 → (b && nat_lt 1 bucket) ≡ false → bucket ≤ cond b 1 16
few_written true bucket most e = let few = ltb-false 1 bucket e in omega arith
few_written false bucket most e = most

bare_fits : (form n bucket : ℕ) → 1 ≤ bucket → bucket ≤ 16 → ((form == 1) && nat_lt 1 bucket) ≡ false → IsPointMap form n bucket bare
bare_fits form n bucket least most written =
    let none : length (finmap.entries bare) ≡ 0 = sym (finmap.len-entries bare) ∙ finmap.len-empty pixel_cmp ℕ in
    record {
      least = least;
      most = few_written (form == 1) bucket most written;
      inside = λ k d lt. absurd (omega arith);
      labels = λ k d lt. absurd (omega arith);
    }

module _ {W : Type 0} {D : disk.Ghosts W} (session : Session W D) (s : State) (at : IsAtState session s) where
  -- a new point layer, whose records are that of the catalog and that of the whole square
  pub points_plan : (name : List ℕ) (number bucket level : ℕ) (added : List Record) → level ≡ s.last.level → 1 ≤ bucket → bucket ≤ 16
      → (unless_written s bucket).0 ≡ false → is_name name ≡ true
      → length session.catalog < 255 → All (λ e. e.name ≢ name) session.catalog → 1 ≤ number → number ≤ 255
      → ((other : List ℕ) → finmap.get at.work.numbers other ≢ Some number)
      → (first second : Record) → added ≡ first ∷ second ∷ [] → ((n capacity : ℕ) → first ≡ record_of n capacity name number (IsOfKind 2 bucket))
      → IsBeginning level number bucket second
      → IsLayerPlan s at.work.numbers name number (Some (Points bucket bare)) [] added
  points_plan name number bucket level added same least most written named few others low high free first second is kind begins =
      let here : IsBeginning s.last.level number bucket second = subst (λ (n : ℕ). IsBeginning n number bucket second) same begins in
      new_plan session s at name number (Points bucket bare) added named few others low high free
      (bare_fits s.last.format s.last.level bucket least most written)
      (subst (λ (rs : List Record). regions.IsRegionPlan s.last.level name number None (Some (Points bucket bare)) [] rs) (sym is)
      (record { leads = here.leads name first kind; removed_ascend = refl; added_ascend = here.ascend name first kind }))
