-- A region layer that is made of two others, and what its command is answered.
use Rattle.std.proofs.Common.{◌≡◌, ℕ, Bool, false, not, List, [], ◌∷◌, Option, Some, is_none, refl, ◌∙◌}
use Rattle.std.specs.FinMap as finmap
use Rattle.quilt_types.specs.declared.code.Code.{Code}
use Rattle.quilt_types.specs.declared.code.Code.TheVariants as no
use Rattle.quilt_types.specs.Layers.{Layer, Region, Grid, IsGrid}
use Rattle.quilt_world.specs.declared.disk.Disk as disk
use Rattle.quilt_blocks.specs.Raster.{Raster}
use Rattle.quilt_overlay.specs.Combining.{overlaid}
use Rattle.quilt_overlay.specs.declared.operation.Op.{Op}
use Rattle.quilt_overlay.specs.declared.operation.Op.TheVariants.{Union, Inter, Diff}
use Rattle.quilt_region.proofs.GridsFit.{fits_law}
use Rattle.quilt_replies.specs.Answers.{State, Outcome, Refused, answer, unless, unknown, unless_region, is_region, exists, too_many, full, makes, changed}
use Rattle.quilt_replies.specs.Answers.{with, grid, grid_in}
use Rattle.quilt_map.specs.Commanding.{Answered}
use Rattle.quilt_map.specs.Making.{AnsweredBy, layer_placed, refused}
use Rattle.quilt_map.specs.Overlaying.{overlay_command, AreRefusedFirst}
use Rattle.quilt_map.specs.Steps.{goes_back}
use Rattle.quilt_replies.specs.declared.reply.Reply.{Reply}
use Rattle.quilt_map.specs.declared.session.Session.{Session}
use Rattle.quilt_map.proofs.answers.FirstTests.{first_false}
use Rattle.quilt_map.proofs.answers.Outcomes.{nothing_done}
use Rattle.quilt_map.proofs.answers.Placing.{answered_by, placed_none}

-- both layers are there

module _ (s : State) (a b : List ℕ) where
  abbrev both : Option Layer → Option Layer → List (Bool × Code) → Outcome → Outcome
  both o p rs done = unless ((is_none o, no.Unknown) ∷ (is_none p, no.Unknown) ∷ (not (is_region o), no.Kind) ∷ (not (is_region p), no.Kind) ∷ rs) s done

  module _ (l m : Layer) (e : finmap.get s.work a ≡ Some l) (f : finmap.get s.work b ≡ Some m) where
    both_there : (rs : List (Bool × Code)) (done : Outcome)
        → unless (unknown s a ∷ unknown s b ∷ unless_region s a ∷ unless_region s b ∷ rs) s done ≡ both (Some l) (Some m) rs done
    both_there rs done = λ i. both (e i) (f i) rs done

-- ---- what the definition answers

abbrev overlaying : State → Op → List ℕ → List ℕ → List ℕ → Outcome
overlaying s op a b into =
    makes s (unknown s a ∷ unknown s b ∷ unless_region s a ∷ unless_region s b ∷ exists s into ∷ too_many s ∷ []) into
    (Region (overlaid op s.last.level (grid s a) (grid s b)))

overlay_is : (s : State) (op : Op) (a b into : List ℕ) → answer s (overlay_command op a b into) ≡ overlaying s op a b into
unfolding answer
overlay_is s Union a b into = refl
overlay_is s Inter a b into = refl
overlay_is s Diff a b into = refl

pub overlay_forward : (op : Op) (a b into : List ℕ) → goes_back (overlay_command op a b into) ≡ false
overlay_forward Union a b into = refl
overlay_forward Inter a b into = refl
overlay_forward Diff a b into = refl

module _ (s : State) (op : Op) (a b into : List ℕ) where
  pub overlay_refused : (code : Code) → AreRefusedFirst s a b code → answer s (overlay_command op a b into) ≡ nothing_done s (Refused code)
  overlay_refused code first =
      let work = with s into (Region (overlaid op s.last.level (grid s a) (grid s b))) in
      overlay_is s op a b into ∙ first (exists s into ∷ too_many s ∷ full s work ∷ []) (changed work)

  module _ (g h : Grid) (e : finmap.get s.work a ≡ Some (Region g)) (f : finmap.get s.work b ≡ Some (Region h)) where
    overlay_tests : let work = with s into (Region (overlaid op s.last.level (grid s a) (grid s b))) in
        answer s (overlay_command op a b into) ≡ unless (exists s into ∷ too_many s ∷ full s work ∷ []) s (changed work)
    overlay_tests =
        let work = with s into (Region (overlaid op s.last.level (grid s a) (grid s b))) in
        overlay_is s op a b into ∙ both_there s a b (Region g) (Region h) e f (exists s into ∷ too_many s ∷ full s work ∷ []) (changed work)

    pub overlay_taken : (code : Code) → ((rs : List (Bool × Code)) (done : Outcome) → unless (exists s into ∷ too_many s ∷ rs) s done ≡ refused s code)
        → answer s (overlay_command op a b into) ≡ nothing_done s (Refused code)
    overlay_taken code refuses = let work = with s into (Region (overlaid op s.last.level (grid s a) (grid s b))) in
        overlay_tests ∙ refuses (full s work ∷ []) (changed work)

    overlay_done : ((exists s into).0 ≡ false) × ((too_many s).0 ≡ false)
        → answer s (overlay_command op a b into) ≡ layer_placed s into (Region (overlaid op s.last.level g h))
    overlay_done passes =
        let work = with s into (Region (overlaid op s.last.level (grid s a) (grid s b))) in
        overlay_tests ∙ first_false (exists s into).0 no.Exists (too_many s ∷ full s work ∷ []) s (changed work) passes.0
        ∙ first_false (too_many s).0 no.Layers (full s work ∷ []) s (changed work) passes.1
        ∙ (λ i. layer_placed s into (Region (overlaid op s.last.level (grid_in (e i)) (grid_in (f i)))))

    pub overlay_answered : {W : Type 0} {D : disk.Ghosts W} (old new : Session W D) (reply : Reply) → ((exists s into).0 ≡ false) × ((too_many s).0 ≡ false)
        → AnsweredBy {D = D} s (layer_placed s into (Region (overlaid op s.last.level g h))) old new reply
        → Answered {D = D} s (overlay_command op a b into) old new reply
    overlay_answered {W} {D} old new reply passes by =
        let layer = Region (overlaid op s.last.level g h) in
        answered_by {D = D} s (overlay_command op a b into) (layer_placed s into layer) old new reply (overlay_done passes) (placed_none s into layer)
        (overlay_forward op a b into) by

-- ---- the grid that is made

pub overlaid_fits : (f n : ℕ) (op : Op) (g h : Grid) → IsGrid f n g → IsGrid f n h → IsGrid f n (overlaid op n g h)
overlaid_fits f n Union g h is_g is_h = fits_law.union_fits f n g h is_g is_h
overlaid_fits f n Inter g h is_g is_h = fits_law.intersection_fits f n g h is_g
overlaid_fits f n Diff g h is_g is_h = fits_law.difference_fits f n g h is_g

pub overlaid_as : (op : Op) (made l m : Raster) (n : ℕ) (g h : Grid) → made ≡ record { level = l.level; grid = overlaid op l.level l.grid m.grid }
    → l ≡ record { level = n; grid = g } → m ≡ record { level = n; grid = h } → made ≡ record { level = n; grid = overlaid op n g h }
overlaid_as op made l m n g h is first second =
    is ∙ (λ i. record { level = (first i).level; grid = overlaid op (first i).level (first i).grid (second i).grid })
