-- What the work's records say of a layer of it, whatever its kind.
use Rattle.std.proofs.Common.{◌≡◌, ℕ, ◌≤◌, List, Option, Some, sym, subst, arith}
use Rattle.std.specs.FinMap as finmap
use Rattle.quilt_types.specs.Layers.{Layer, Map, Region, Points, Lines, IsLayer}
use Rattle.quilt_world.specs.Disk.{Pages}
use Rattle.quilt_world.specs.declared.disk.Disk as disk
use Rattle.quilt_record.specs.declared.record.Record.{Record}
use Rattle.quilt_record.specs.Records.{Numbering}
use Rattle.quilt_node.specs.declared.head.Head.{Head}
use Rattle.quilt_btree.specs.declared.tree.Tree.{Tree}
use Rattle.quilt_btree.specs.Trees.{IsTree}
use Rattle.quilt_spell.specs.Spelled.{SpellsUnder}
use Rattle.quilt_spell.specs.Written.{number_of}
use Rattle.quilt_spell.proofs.Written.{number_fits}
use Rattle.quilt_points.proofs.Spelled.{points_law}
use Rattle.quilt_lines.proofs.Spelled.{lines_law}
use Rattle.quilt_replies.specs.Answers.{State}
use Rattle.quilt_map.specs.HeldLayers.{HoldsIn, HoldsLayer}
use Rattle.quilt_map.specs.Sessions.{IsAtState, told_of, tree_in}
use Rattle.quilt_map.specs.declared.session.Session.{Session}
use Rattle.quilt_map.proofs.answers.Asked.{layer_is, region_of}
use Rattle.quilt_map.proofs.states.ChangeSteps.{at_spelled}

-- records that spell a map spell each layer of it
holds_of : (form n : ℕ) (numbers : Numbering) (rs : List Record) (layers : Map) (name : List ℕ) (layer : Layer) (told : Option Pages) (t : Tree)
    → n ≤ 12 → SpellsUnder form n numbers rs layers → IsTree told t rs → finmap.get layers name ≡ Some layer → HoldsIn told t (number_of numbers name) n layer
holds_of form n numbers rs layers name (Region grid) told t le s is got = region_of form n numbers rs layers name grid told t le s is got
holds_of form n numbers rs layers name (Points capacity points) told t le s is got = points_law form n numbers rs layers name capacity points le s got told t is
holds_of form n numbers rs layers name (Lines threshold segs cover) told t le s is got =
    lines_law form n numbers rs layers name threshold segs cover le s got told t is

-- the tree and the level of the same header
pub held_as : (told : Option Pages) (number : ℕ) (layer : Layer) (h k : Head) (t : Tree) → h ≡ k → t ≡ tree_in h
    → HoldsIn told (tree_in k) number k.level layer → HoldsIn told t number h.level layer
held_as told number layer h k t same tree has =
    subst (λ (x : Tree). HoldsIn told x number h.level layer) (sym tree) (subst (λ (x : Head). HoldsIn told (tree_in x) number x.level layer) (sym same) has)

module _ {W : Type 0} {D : disk.Ghosts W} (session : Session W D) (s : State) (at : IsAtState session s)
    (name : List ℕ) (number : ℕ) (layer : Layer) (got : finmap.get s.work name ≡ Some layer) (same : number ≡ number_of at.work.numbers name) where
  pub layer_there : HoldsLayer session.book number layer
  layer_there =
      subst (λ (k : ℕ). HoldsIn (told_of session.book) (tree_in session.book.work) k session.book.work.level layer) (sym same)
      (subst (λ (o : Option Pages). HoldsIn o (tree_in session.book.work) (number_of at.work.numbers name) session.book.work.level layer) (sym at.pages_told)
      (holds_of session.book.work.format session.book.work.level at.work.numbers at.work.records s.work name layer (Some at.pages)
      (tree_in session.book.work) session.book.next.level.1 at.work.spelled at.work.whole.tree got))

  pub layer_number : 1 ≤ number
  layer_number = let least = (number_fits s.work at.work.numbers at.work.spelled.numbering name layer got).0 in omega arith

  pub layer_fits : IsLayer s.last.format s.last.level layer
  layer_fits = layer_is s.last.format s.last.level s.work (at_spelled session s at).map name layer got
