-- A region layer that is made of others, and what its command is answered.
use Rattle.std.proofs.Common.{◌≡◌, ℕ, ◌<◌, Bool, true, false, not, List, [], ◌∷◌, All, Option, Some, refl, sym, ◌∙◌, ap, subst}
use Rattle.std.specs.FinMap as finmap
use Rattle.std.proofs.lemmas.List.Elements.{All-nil, All-cons, All-head, All-tail}
use Rattle.std.proofs.lemmas.Option.{same_Some}
use Rattle.quilt_types.specs.declared.code.Code.{Code}
use Rattle.quilt_types.specs.declared.code.Code.TheVariants as no
use Rattle.quilt_types.specs.declared.plane.Colour.{Colour}
use Rattle.quilt_types.specs.declared.plane.Window.{Window}
use Rattle.quilt_types.specs.Layers.{Layer, Region, Grid, IsGrid, colours}
use Rattle.quilt_world.specs.declared.disk.Disk as disk
use Rattle.quilt_words.specs.declared.command.Command.{Command}
use Rattle.quilt_words.specs.declared.command.Command.TheVariants as commands
use Rattle.quilt_words.specs.Fitting.{IsColour}
use Rattle.quilt_words.specs.Table.{IsFitting}
use Rattle.quilt_blocks.specs.Raster.{Raster}
use Rattle.quilt_overlay.specs.Combining.{numbers_of}
use Rattle.quilt_region.specs.Regions.{HasRegion}
use Rattle.quilt_region.proofs.GridsFit.{fits_law}
use Rattle.quilt_replies.specs.Answers.{State, Outcome, Refused, answer, unless, unknown, unless_region, exists, too_many, full, makes, changed, with, grid}
use Rattle.quilt_replies.specs.Answers.{grid_in}
use Rattle.quilt_map.specs.Asking.{IsRefusedFirst}
use Rattle.quilt_map.specs.Commanding.{Answered}
use Rattle.quilt_map.specs.Derivation.{layers_derived, derived, window_is_inside}
use Rattle.quilt_map.specs.Making.{AnsweredBy, layer_placed, refused}
use Rattle.quilt_map.specs.Painting.{IsRegionIn}
use Rattle.quilt_map.specs.Sessions.{IsAtState, told_of, tree_in}
use Rattle.quilt_map.specs.Steps.{goes_back}
use Rattle.quilt_replies.specs.declared.reply.Reply.{Reply}
use Rattle.quilt_map.specs.declared.session.Session.{Session}
use Rattle.quilt_map.proofs.answers.Answered.{level_is}
use Rattle.quilt_map.proofs.answers.Asked.{layer_is}
use Rattle.quilt_map.proofs.states.ChangeSteps.{at_spelled}
use Rattle.quilt_map.proofs.answers.FirstTests.{region_refused, region_passes, first_true, first_false}
use Rattle.quilt_map.proofs.answers.Outcomes.{nothing_done}
use Rattle.quilt_map.proofs.plans.PaintPlans.{region_there}
use Rattle.quilt_map.proofs.answers.Placing.{answered_by, answered_from, placed_none}

-- ---- what the definition answers

-- the layer that the command makes, unless it is refused
abbrev deriving_of : State → Command → List ℕ → List ℕ → Outcome
deriving_of s command name into =
    makes s (unknown s name ∷ unless_region s name ∷ exists s into ∷ too_many s ∷ (not (window_is_inside s.last.level command), no.Outside) ∷ []) into
    (Region (derived command s.last.level (grid s name)))

derive_is : (s : State) (command : Command) (name into : List ℕ) → layers_derived command ≡ Some (name, into)
    → answer s command ≡ deriving_of s command name into
unfolding answer
derive_is s (commands.Recolour a c pairs) name into is =
    ap (λ (p : List ℕ × List ℕ). deriving_of s (commands.Recolour a c pairs) p.0 p.1) (same_Some (a, c) (name, into) is)
derive_is s (commands.Window a w c) name into is = ap (λ (p : List ℕ × List ℕ). deriving_of s (commands.Window a w c) p.0 p.1) (same_Some (a, c) (name, into) is)
derive_is s (commands.Shift a dx dy c) name into is =
    ap (λ (p : List ℕ × List ℕ). deriving_of s (commands.Shift a dx dy c) p.0 p.1) (same_Some (a, c) (name, into) is)
derive_is s (commands.Buffer a r c) name into is = ap (λ (p : List ℕ × List ℕ). deriving_of s (commands.Buffer a r c) p.0 p.1) (same_Some (a, c) (name, into) is)
derive_is s command name into is = cc

pub derive_forward : (command : Command) (name into : List ℕ) → layers_derived command ≡ Some (name, into) → goes_back command ≡ false
derive_forward (commands.Recolour a c pairs) name into is = refl
derive_forward (commands.Window a w c) name into is = refl
derive_forward (commands.Shift a dx dy c) name into is = refl
derive_forward (commands.Buffer a r c) name into is = refl
derive_forward command name into is = cc

-- one that cuts a window reads the layer that it names
pub cut_from : (command : Command) (name into a b : List ℕ) (w : Window) → layers_derived command ≡ Some (name, into) → command ≡ commands.Window a w b
    → name ≡ a
cut_from command name into a b w derives is =
    ap (λ (p : List ℕ × List ℕ). p.0) (same_Some (name, into) (a, b) (sym derives ∙ ap layers_derived is))

pub same_window : (a b c d : List ℕ) (v w : Window) → commands.Window a v b ≡ commands.Window c w d → v ≡ w
same_window a b c d v w e = cc

module _ (s : State) (command : Command) (name into : List ℕ) (is : layers_derived command ≡ Some (name, into)) where
  pub derive_refused : (code : Code) → IsRefusedFirst s name code → answer s command ≡ nothing_done s (Refused code)
  derive_refused code first =
      let work = with s into (Region (derived command s.last.level (grid s name))) in
      derive_is s command name into is
      ∙ region_refused s name code first (exists s into ∷ too_many s ∷ (not (window_is_inside s.last.level command), no.Outside) ∷ full s work ∷ []) (changed work)

  module _ (g : Grid) (got : finmap.get s.work name ≡ Some (Region g)) where
    derive_tests : let work = with s into (Region (derived command s.last.level (grid s name))) in
        answer s command ≡ unless (exists s into ∷ too_many s ∷ (not (window_is_inside s.last.level command), no.Outside) ∷ full s work ∷ []) s (changed work)
    derive_tests =
        let work = with s into (Region (derived command s.last.level (grid s name))) in
        derive_is s command name into is
        ∙ region_passes s name g (exists s into ∷ too_many s ∷ (not (window_is_inside s.last.level command), no.Outside) ∷ full s work ∷ []) (changed work) got

    pub derive_taken : (code : Code)
        → ((rs : List (Bool × Code)) (done : Outcome) → unless (exists s into ∷ too_many s ∷ rs) s done ≡ refused s code)
        → answer s command ≡ nothing_done s (Refused code)
    derive_taken code h =
        let work = with s into (Region (derived command s.last.level (grid s name))) in
        derive_tests ∙ h ((not (window_is_inside s.last.level command), no.Outside) ∷ full s work ∷ []) (changed work)

    module _ (passes : ((exists s into).0 ≡ false) × ((too_many s).0 ≡ false)) where
      derive_new : let work = with s into (Region (derived command s.last.level (grid s name))) in
          answer s command ≡ unless ((not (window_is_inside s.last.level command), no.Outside) ∷ full s work ∷ []) s (changed work)
      derive_new =
          let work = with s into (Region (derived command s.last.level (grid s name))) in
          let rest : List (Bool × Code) = (not (window_is_inside s.last.level command), no.Outside) ∷ full s work ∷ [] in
          derive_tests ∙ first_false (exists s into).0 no.Exists (too_many s ∷ rest) s (changed work) passes.0
          ∙ first_false (too_many s).0 no.Layers rest s (changed work) passes.1

      pub derive_outside : window_is_inside s.last.level command ≡ false → answer s command ≡ nothing_done s (Refused no.Outside)
      derive_outside out =
          let work = with s into (Region (derived command s.last.level (grid s name))) in
          derive_new ∙ first_true (not (window_is_inside s.last.level command)) no.Outside (full s work ∷ []) s (changed work) (ap not out)

      derive_done : window_is_inside s.last.level command ≡ true → answer s command ≡ layer_placed s into (Region (derived command s.last.level g))
      derive_done inside =
          let work = with s into (Region (derived command s.last.level (grid s name))) in
          derive_new ∙ first_false (not (window_is_inside s.last.level command)) no.Outside (full s work ∷ []) s (changed work) (ap not inside)
          ∙ ap (λ (o : Option Layer). layer_placed s into (Region (derived command s.last.level (grid_in o)))) got

      pub derive_answered : {W : Type 0} {D : disk.Ghosts W} (old new : Session W D) (reply : Reply) → window_is_inside s.last.level command ≡ true
          → AnsweredBy {D = D} s (layer_placed s into (Region (derived command s.last.level g))) old new reply → Answered {D = D} s command old new reply
      derive_answered {W} {D} old new reply inside by =
          let layer = Region (derived command s.last.level g) in
          answered_by {D = D} s command (layer_placed s into layer) old new reply (derive_done inside) (placed_none s into layer)
          (derive_forward command name into is) by

-- ---- the grid that is made

pairs_low : (f : ℕ) (pairs : List (Colour × Colour)) → All (λ pair. IsColour f pair.0 × IsColour f pair.1) pairs → All (λ q. q.1 < colours f) (numbers_of pairs)
pairs_low f [] are = All-nil (λ (q : ℕ × ℕ). q.1 < colours f)
pairs_low f (pair ∷ pairs) are =
    let P : Colour × Colour → Type 0 = λ (p : Colour × Colour). IsColour f p.0 × IsColour f p.1 in
    let one : P pair = All-head P pair pairs are in
    All-cons (λ (q : ℕ × ℕ). q.1 < colours f) (pair.0.0, pair.1.0) (numbers_of pairs) one.1 (pairs_low f pairs (All-tail P pair pairs are))

derived_fits : (f n : ℕ) (command : Command) (g : Grid) → IsFitting f n command → IsGrid f n g → IsGrid f n (derived command n g)
derived_fits f n (commands.Recolour a c pairs) g fits is = fits_law.recoloured_fits f n g (numbers_of pairs) is (pairs_low f pairs fits.2.each)
derived_fits f n (commands.Window a w c) g fits is = fits_law.cut_fits f n g w is
derived_fits f n (commands.Shift a dx dy c) g fits is = fits_law.shifted_fits f n g dx dy is
derived_fits f n (commands.Buffer a r c) g fits is = fits_law.buffered_fits f n g r
derived_fits f n command g fits is = is

module _ {W : Type 0} {D : disk.Ghosts W} where
  -- the layer that was made is the one of this grid
  pub made_answered : (old mid new : Session W D) (s : State) (into : List ℕ) (made : Raster) (h : Grid) (reply : Reply) → mid.changes ≡ old.changes
      → made ≡ record { level = s.last.level; grid = h }
      → AnsweredBy s (layer_placed s into (Region made.grid)) mid new reply → AnsweredBy s (layer_placed s into (Region h)) old new reply
  made_answered old mid new s into made h reply same is by =
      subst (λ (x : Grid). AnsweredBy s (layer_placed s into (Region x)) old new reply) (ap (λ (l : Raster). l.grid) is)
      (answered_from old mid new s (layer_placed s into (Region made.grid)) reply same by)

  module _ (session : Session W D) (s : State) (at : IsAtState session s) where
    -- the list of the leaves of a layer
    pub list_of : (name : List ℕ) (number : ℕ) (g : Grid) → IsRegionIn s.work session.catalog name number g → (l : Raster)
        → ((h : Grid) → HasRegion (told_of session.book) (tree_in session.book.work) number session.book.work.level h
        → l ≡ record { level = session.book.work.level; grid = h })
        → l ≡ record { level = s.last.level; grid = g }
    list_of name number g is l list =
        list g (region_there {D = D} session s at name number g is) ∙ ap (λ (n : ℕ). record { level = n; grid = g }) (level_is {D = D} session s at)

    -- what is made of what was read of a layer
    pub derived_of : (command : Command) (name : List ℕ) (number : ℕ) (g : Grid) → IsRegionIn s.work session.catalog name number g → (h : Grid)
        → ((k : Grid) → HasRegion (told_of session.book) (tree_in session.book.work) number session.book.work.level k
        → derived command session.book.work.level h ≡ derived command session.book.work.level k)
        → derived command s.last.level h ≡ derived command s.last.level g
    derived_of command name number g is h same =
        subst (λ (n : ℕ). derived command n h ≡ derived command n g) (level_is {D = D} session s at)
        (same g (region_there {D = D} session s at name number g is))

    -- its grid has the colours of the format
    pub grid_of_layer : (name : List ℕ) (number : ℕ) (g : Grid) → IsRegionIn s.work session.catalog name number g → IsGrid s.last.format s.last.level g
    grid_of_layer name number g is = layer_is s.last.format s.last.level s.work (at_spelled {D = D} session s at).map name (Region g) is.got

    pub derived_grid : (command : Command) (name : List ℕ) (number : ℕ) (g : Grid) → IsRegionIn s.work session.catalog name number g
        → IsFitting s.last.format s.last.level command
        → IsGrid s.last.format s.last.level (derived command s.last.level g)
    derived_grid command name number g is fits = derived_fits s.last.format s.last.level command g fits (grid_of_layer name number g is)

pub made_level : (made : Raster) (n : ℕ) (h : Grid) → made ≡ record { level = n; grid = h } → made.level ≡ n
made_level made n h is = ap (λ (l : Raster). l.level) is

pub made_fits : (f n : ℕ) (made : Raster) (h : Grid) → made ≡ record { level = n; grid = h } → IsGrid f n h → IsGrid f n made.grid
made_fits f n made h is fits = subst (IsGrid f n) (sym (ap (λ (l : Raster). l.grid) is)) fits

-- what is made of a list that gives the same as the layer
pub derived_as : (command : Command) (made l : Raster) (n : ℕ) (g : Grid) → made ≡ record { level = l.level; grid = derived command l.level l.grid }
    → l.level ≡ n → derived command n l.grid ≡ derived command n g
    → made ≡ record { level = n; grid = derived command n g }
derived_as command made l n g is level same =
    is ∙ ap (λ (k : ℕ). record { level = k; grid = derived command k l.grid }) level ∙ ap (λ (h : Grid). record { level = n; grid = h }) same
