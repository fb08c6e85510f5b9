-- What plans are in the words in which the records of a map change, and which grids a command makes of grids of a format.
use Rattle.std.specs.Prelude.{◌≡◌, ℕ, ◌-◌, ◌^◌, ◌<◌, ◌≤◌, true, ℤ, List, [], ◌∷◌, map, length, All, Option, Some, None}
use Rattle.std.specs.FinMap as finmap
use Rattle.quilt_types.specs.declared.plane.Pixel.{Pixel}
use Rattle.quilt_types.specs.declared.plane.Window.{Window}
use Rattle.quilt_types.specs.declared.plane.Corner.{Corner}
use Rattle.quilt_types.specs.Layers.{Grid, Layer, Region, Map, IsGrid, colours}
use Rattle.quilt_types.specs.Algebra.{grid_of, uniform, painted, union, intersection, difference, recoloured, cut_to, shifted, buffered}
use Rattle.quilt_types.specs.Polygons.{filled_rings}
use Rattle.quilt_record.specs.declared.key.Key.{Key}
use Rattle.quilt_record.specs.declared.record.Record.{Record}
use Rattle.quilt_record.specs.declared.edits.Edits.{Edits}
use Rattle.quilt_record.specs.Records.{Numbering, record_of}
use Rattle.quilt_record.specs.Listing.{fact_of_kind}
use Rattle.quilt_node.specs.Pages.{is_ascending}
use Rattle.quilt_node.specs.Nodes.{keys_of}
use Rattle.quilt_spell.specs.Written.{number_of}
use Rattle.quilt_spell.specs.Spelled.{SpellsUnder}
use Rattle.quilt_spell.specs.Changing as changing
use Rattle.quilt_spell.specs.Catalogued.{kind_of}
use Rattle.quilt_spell.specs.Copying.{renumbered}
use Rattle.quilt_btree.specs.declared.tree.Tree.{Tree}
use Rattle.quilt_btree.specs.Lists.{range_of}
use Rattle.quilt_btree.specs.Trees.{IsTree}
use Rattle.quilt_region.specs.Regions.{HasRegion, region_records}
use Rattle.quilt_region.specs.Plans.{ReplacesGrid}

-- before each key of a record of the layer with this number
abbrev pub first_key : ℕ → Key
first_key number = record { layer = number; part = 0; code = 0; depth = 0; item = 0 }

-- and behind each
abbrev pub last_key : ℕ → Key
last_key number = record { layer = number; part = 255; code = 2 ^ 32 - 1; depth = 255; item = 2 ^ 32 - 1 }

-- what a range over the layer with this number gives: its records but that of the catalog
abbrev pub records_under : ℕ → ℕ → List Record → List Record
records_under number most rs = range_of (first_key number) (last_key number) most rs

-- the record of the catalog for this layer under the name and number
abbrev pub IsEntryRecord : Record → List ℕ → ℕ → Layer → Type 0
IsEntryRecord r name number layer = (n capacity : ℕ) → r ≡ record_of n capacity name number (fact_of_kind (kind_of layer))

-- The records to remove and to add lead from one layer to the other, or from none or to none, and each list ascends by
-- its keys, as a tree takes it.
pub record IsRegionPlan (n : ℕ) (name : List ℕ) (number : ℕ) (old new : Option Layer) (removed added : List Record) : Type 0 where
  pub leads : changing.LeadsTo n name number old new removed added
  pub removed_ascend : is_ascending (keys_of removed) ≡ true
  pub added_ascend : is_ascending (keys_of added) ≡ true

-- the numbers of layers
abbrev pub NumberLaw : Type 0
NumberLaw =
    (form n : ℕ) (numbers : Numbering) (rs : List Record) (layers : Map) (name : List ℕ) (layer : Layer)
    → SpellsUnder form n numbers rs layers → finmap.get layers name ≡ Some layer
    → (1 ≤ number_of numbers name) × (number_of numbers name ≤ 255)

-- a layer of any kind goes: its record of the catalog, and those of a range over it
abbrev pub DropLaw : Type 0
DropLaw =
    (form n : ℕ) (numbers : Numbering) (rs : List Record) (layers : Map) (name : List ℕ) (layer : Layer) (most : ℕ) (r : Record)
    → n ≤ 12 → SpellsUnder form n numbers rs layers → finmap.get layers name ≡ Some layer → length rs ≤ most
    → IsEntryRecord r name (number_of numbers name) layer
    → IsRegionPlan n name (number_of numbers name) (Some layer) None (r ∷ records_under (number_of numbers name) most rs) []

-- a layer of any kind comes under another name and number, as a copy
abbrev pub CopyLaw : Type 0
CopyLaw =
    (form n : ℕ) (numbers : Numbering) (rs : List Record) (layers : Map) (name : List ℕ) (layer : Layer) (most : ℕ)
    (other : List ℕ) (number : ℕ) (r : Record)
    → n ≤ 12 → SpellsUnder form n numbers rs layers → finmap.get layers name ≡ Some layer → length rs ≤ most → 1 ≤ number
    → IsEntryRecord r other number layer
    → IsRegionPlan n other number None (Some layer) [] (r ∷ map (renumbered number) (records_under (number_of numbers name) most rs))

-- a tree whose records spell a map has the map's region layers
abbrev pub ReadLaw : Type 0
ReadLaw =
    (form n : ℕ) (numbers : Numbering) (rs : List Record) (layers : Map) (name : List ℕ) (g : Grid)
    (told : Option (List (List ℕ))) (t : Tree)
    → n ≤ 12 → SpellsUnder form n numbers rs layers → IsTree told t rs → finmap.get layers name ≡ Some (Region g)
    → HasRegion told t (number_of numbers name) n g

-- a region layer becomes another grid
abbrev pub ChangeLaw : Type 0
ChangeLaw =
    (form n : ℕ) (name : List ℕ) (number : ℕ) (g h : Grid) (edits : Edits)
    → n ≤ 12 → IsGrid form n g → IsGrid form n h → ReplacesGrid n number g h edits
    → IsRegionPlan n name number (Some (Region g)) (Some (Region h)) edits.remove edits.add

-- a region layer comes: its record of the catalog, and those of its leaves
abbrev pub FreshLaw : Type 0
FreshLaw =
    (form n : ℕ) (name : List ℕ) (number : ℕ) (g : Grid) (r : Record)
    → n ≤ 12 → 1 ≤ number → IsGrid form n g → IsEntryRecord r name number (Region g)
    → IsRegionPlan n name number None (Some (Region g)) [] (r ∷ region_records n number g)

-- the grids of a format
pub record FitsLaw : Type 0 where
  pub in_two : (form n : ℕ) (g : Grid) → IsGrid form n g → IsGrid 2 n g
  pub in_form : (form n : ℕ) (g : Grid) → IsGrid 2 n g → All (λ c. c < colours form) g → IsGrid form n g
  pub by_pixels : (form n : ℕ) (f : Pixel → ℕ) → ((p : Pixel) → f p < colours form) → IsGrid form n (grid_of n f)
  pub uniform_fits : (form n c : ℕ) → c < colours form → IsGrid form n (uniform n c)
  pub painted_fits : (form n : ℕ) (g : Grid) (w : Window) (c : ℕ) → IsGrid form n g → c < colours form → IsGrid form n (painted n g w c)
  pub union_fits : (form n : ℕ) (g h : Grid) → IsGrid form n g → IsGrid form n h → IsGrid form n (union n g h)
  pub intersection_fits : (form n : ℕ) (g h : Grid) → IsGrid form n g → IsGrid form n (intersection n g h)
  pub difference_fits : (form n : ℕ) (g h : Grid) → IsGrid form n g → IsGrid form n (difference n g h)
  pub recoloured_fits : (form n : ℕ) (g : Grid) (pairs : List (ℕ × ℕ)) → IsGrid form n g → All (λ pair. pair.1 < colours form) pairs
      → IsGrid form n (recoloured n g pairs)
  pub cut_fits : (form n : ℕ) (g : Grid) (w : Window) → IsGrid form n g → IsGrid form n (cut_to n g w)
  pub shifted_fits : (form n : ℕ) (g : Grid) (dx dy : ℤ) → IsGrid form n g → IsGrid form n (shifted n g dx dy)
  pub buffered_fits : (form n : ℕ) (g : Grid) (r : ℕ) → IsGrid form n (buffered n g r)
  pub filled_fits : (form n : ℕ) (rings : List (List Corner)) (c : ℕ) → c < colours form → IsGrid form n (filled_rings n rings c)
