-- What a command that measures a region layer is answered.
use Rattle.std.specs.Prelude.{decimal}
use Rattle.std.proofs.Common.{◌≡◌, ℕ, true, not, List, [], ◌∷◌, Option, Some, IfSome, is_none, refl, sym, ◌∙◌, ap, subst}
use Rattle.std.specs.FinMap as finmap
use Rattle.quilt_types.specs.declared.code.Code.{Code}
use Rattle.quilt_types.specs.declared.code.Code.TheVariants as no
use Rattle.quilt_types.specs.Layers.{Layer, Region, Grid}
use Rattle.quilt_world.specs.declared.disk.Disk as disk
use Rattle.quilt_words.specs.declared.command.Command.{Command}
use Rattle.quilt_words.specs.declared.command.Command.TheVariants as commands
use Rattle.quilt_blocks.specs.Raster.{Raster}
use Rattle.quilt_region.specs.Regions.{HasRegion}
use Rattle.quilt_replies.specs.Answers as answers
use Rattle.quilt_replies.specs.Answers.{State, Outcome, Done, Refused, answer, unless, unknown, unless_region, is_region, grid_in, grid}
use Rattle.quilt_map.specs.Asking.{IsRegionAt, IsRefusedFirst}
use Rattle.quilt_map.specs.Measuring.{layer_measured, measured}
use Rattle.quilt_replies.specs.Runs.{text_of}
use Rattle.quilt_map.specs.Sessions.{IsAtState, told_of, tree_in}
use Rattle.quilt_map.specs.Steps.{asks}
use Rattle.quilt_map.specs.declared.session.Session.{Session}
use Rattle.quilt_map.proofs.answers.Answered.{IsBodyOf, raster_is}

-- the measure of the layer
abbrev measuring : State → Command → List ℕ → Outcome
measuring s command name = unless (unknown s name ∷ unless_region s name ∷ []) s (answers.told s (decimal (measured command s.last.level (grid s name)) ∷ []))

-- what a command that measures answers, with no word of the others but of one, by which all are told apart
measure_at : (s : State) (command : Command) → IfSome (layer_measured command) (λ name. answer s command ≡ measuring s command name)
unfolding answer
measure_at s commands.Layers = tt
measure_at s command = search

measure_is : (s : State) (command : Command) (name : List ℕ) → layer_measured command ≡ Some name → answer s command ≡ measuring s command name
measure_is s command name is =
    subst (λ (o : Option (List ℕ)). IfSome o (λ a. answer s command ≡ measuring s command a)) is (measure_at s command)

pub measured_asks : (command : Command) (name : List ℕ) → layer_measured command ≡ Some name → asks command ≡ true
measured_asks commands.Layers name is = refl
measured_asks command name is = search

module _ (command : Command) (name : List ℕ) (is : layer_measured command ≡ Some name) where
  pub measure_refused : (s : State) (code : Code) → IsRefusedFirst s name code → (answer s command).reply ≡ Refused code
  measure_refused s code first =
      ap (λ (o : Outcome). o.reply) (measure_is s command name is) ∙ first [] (answers.told s (decimal (measured command s.last.level (grid s name)) ∷ []))

  measure_done : (s : State) (g : Grid) → finmap.get s.work name ≡ Some (Region g)
      → (answer s command).reply ≡ Done (decimal (measured command s.last.level g) ∷ [])
  measure_done s g got =
      ap (λ (o : Outcome). o.reply) (measure_is s command name is)
      ∙ ap (λ (o : Option Layer).
      (unless ((is_none o, no.Unknown) ∷ (not (is_region o), no.Kind) ∷ []) s
      (answers.told s (decimal (measured command s.last.level (grid_in o)) ∷ []))).reply) got

  module _ {W : Type 0} {D : disk.Ghosts W} (old : Session W D) (s : State) (at : IsAtState old s) where
    pub measure_body : (number : ℕ) (r : IsRegionAt s.work at.work.numbers name number) (l : Raster)
        → ((g : Grid) → HasRegion (told_of old.book) (tree_in old.book.work) number old.book.work.level g
        → l ≡ record { level = old.book.work.level; grid = g })
        → (k : ℕ) → k ≡ measured command l.level l.grid → (t : List ℕ) → t ≡ text_of (Done (decimal k ∷ [])) → IsBodyOf ((answer s command).reply) t
    measure_body number r l list k value t written = record {
      body = decimal (measured command s.last.level r.grid) ∷ [];
      answered = measure_done s r.grid r.got;
      written = written ∙ ap (λ (m : ℕ). text_of (Done (decimal m ∷ [])))
          (value ∙ ap (λ (x : Raster). measured command x.level x.grid) (raster_is {D = D} old s at name number r l list));
    }
