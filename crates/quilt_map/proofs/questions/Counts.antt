-- How many blocks a layer has of each side, and what the command that counts them is answered.
use Rattle.std.proofs.Common.{◌≡◌, ℕ, ◌≤◌, List, [], ◌∷◌, Option, Some, ◌∙◌, ap, subst}
use Rattle.std.specs.Prelude.{is_none, unwrap_or, option_map}
use Rattle.std.specs.FinMap as finmap
use Rattle.quilt_types.specs.declared.code.Code.TheVariants as no
use Rattle.quilt_types.specs.declared.plane.Kind.{Kind}
use Rattle.quilt_types.specs.Layers.{Layer}
use Rattle.quilt_world.specs.declared.disk.Disk as disk
use Rattle.quilt_words.specs.declared.command.Command.TheVariants as commands
use Rattle.quilt_spell.specs.Catalogued.{kind_of}
use Rattle.quilt_replies.specs.Answers as answers
use Rattle.quilt_replies.specs.Answers.{State, Done, answer, unless, block_lines, sides_of}
use Rattle.quilt_replies.specs.Bodies.{HasCounts}
use Rattle.quilt_replies.specs.Runs.{text_of}
use Rattle.quilt_map.specs.Asking.{IsLayerUnder}
use Rattle.quilt_map.specs.HeldLayers.{HoldsLayer}
use Rattle.quilt_map.specs.Sessions.{IsAtState}
use Rattle.quilt_map.specs.declared.session.Session.{Session}
use Rattle.quilt_map.proofs.answers.Answered.{IsBodyOf, level_is}
use Rattle.quilt_map.proofs.states.HeldLayers.{layer_there, layer_number}

-- what the definition answers
blocks_done : (s : State) (a : List ℕ) (layer : Layer) → finmap.get s.work a ≡ Some layer
    → (answer s (commands.Blocks a)).reply ≡ Done (block_lines s.last.level (sides_of s.last.level layer))
unfolding answer
blocks_done s a layer got =
    ap (λ (o : Option Layer).
    (unless ((is_none o, no.Unknown) ∷ []) s (answers.told s (block_lines s.last.level (unwrap_or (option_map (sides_of s.last.level) o) [])))).reply) got

module _ {W : Type 0} {D : disk.Ghosts W} (old : Session W D) (s : State) (at : IsAtState old s) (name : List ℕ) (number : ℕ) (kind : Kind)
    (under : IsLayerUnder s.work at.work.numbers name number kind) where
  pub under_there : HoldsLayer old.book number under.layer
  under_there = layer_there old s at name number under.layer under.got under.numbered

  pub under_number : 1 ≤ number
  under_number = layer_number old s at name number under.layer under.got under.numbered

  -- the text of the counts
  pub blocks_body : (counts : List ℕ) (level : ℕ)
      → ((layer : Layer) → kind ≡ kind_of layer → HoldsLayer old.book number layer → HasCounts counts (sides_of old.book.work.level layer))
      → level ≡ old.book.work.level → (t : List ℕ) → ((sides : List ℕ) → HasCounts counts sides → t ≡ text_of (Done (block_lines level sides)))
      → IsBodyOf ((answer s (commands.Blocks name)).reply) t
  blocks_body counts level has same t written =
      let n = level_is old s at in
      let counted = subst (λ (m : ℕ). HasCounts counts (sides_of m under.layer)) n (has under.layer under.kinded under_there) in record {
        body = block_lines s.last.level (sides_of s.last.level under.layer);
        answered = blocks_done s name under.layer under.got;
        written =
            written (sides_of s.last.level under.layer) counted ∙ ap (λ (m : ℕ). text_of (Done (block_lines m (sides_of s.last.level under.layer)))) (same ∙ n);
      }
