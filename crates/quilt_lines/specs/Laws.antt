-- What a map says of its line layers.
use Rattle.std.specs.Prelude.{◌≡◌, ℕ, ◌≤◌, List, Option, Some}
use Rattle.std.specs.FinMap as finmap
use Rattle.quilt_types.specs.Layers.{Lines, SegMap, BlockSet, Map}
use Rattle.quilt_record.specs.declared.record.Record.{Record}
use Rattle.quilt_record.specs.Records.{Numbering}
use Rattle.quilt_btree.specs.declared.tree.Tree.{Tree}
use Rattle.quilt_btree.specs.Trees.{IsTree}
use Rattle.quilt_spell.specs.Spelled.{SpellsUnder}
use Rattle.quilt_spell.specs.Written.{number_of}
use Rattle.quilt_lines.specs.Layers.{HasLines}

-- a tree whose records spell a map has each of its line layers
abbrev pub LinesLaw : Type 0
LinesLaw =
    (form n : ℕ) (numbers : Numbering) (rs : List Record) (layers : Map) (name : List ℕ) (t : ℕ) (segs : SegMap) (cover : BlockSet) → n ≤ 12
    → SpellsUnder form n numbers rs layers → finmap.get layers name ≡ Some (Lines t segs cover)
    → (told : Option (List (List ℕ))) (tree : Tree) → IsTree told tree rs → HasLines told tree (number_of numbers name) n t segs cover
