-- What a map says of its point layers.
use Rattle.std.specs.Prelude.{◌≡◌, ℕ, ◌≤◌, List, Option, Some}
use Rattle.std.specs.FinMap as finmap
use Rattle.quilt_types.specs.Layers.{Points, PointMap, Map}
use Rattle.quilt_record.specs.declared.record.Record.{Record}
use Rattle.quilt_record.specs.Records.{Numbering}
use Rattle.quilt_btree.specs.declared.tree.Tree.{Tree}
use Rattle.quilt_btree.specs.Trees.{IsTree}
use Rattle.quilt_spell.specs.Spelled.{SpellsUnder}
use Rattle.quilt_spell.specs.Written.{number_of}
use Rattle.quilt_points.specs.Layers.{HasPoints}

-- a tree whose records spell a map has each of its point layers
abbrev pub PointsLaw : Type 0
PointsLaw =
    (form n : ℕ) (numbers : Numbering) (rs : List Record) (layers : Map) (name : List ℕ) (capacity : ℕ) (points : PointMap) → n ≤ 12
    → SpellsUnder form n numbers rs layers → finmap.get layers name ≡ Some (Points capacity points)
    → (told : Option (List (List ℕ))) (t : Tree) → IsTree told t rs → HasPoints told t (number_of numbers name) n capacity points
