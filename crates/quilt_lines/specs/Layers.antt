-- A line layer as records of a tree.
use Rattle.std.specs.Prelude.{◌≡◌, ℕ, List, [], ◌++◌, length, map, flat_map, Contains, Option}
use Rattle.std.specs.FinMap as finmap
use Rattle.quilt_types.specs.Sets as finset
use Rattle.quilt_types.specs.Layers.{SegMap, BlockSet, IsLineMap}
use Rattle.quilt_types.specs.Facts.{Fact, IsSegment, line_facts}
use Rattle.quilt_record.specs.declared.record.Record.{Record}
use Rattle.quilt_record.specs.Records.{record_of}
use Rattle.quilt_btree.specs.declared.tree.Tree.{Tree}
use Rattle.quilt_btree.specs.Trees.{IsTree, IsRooted}
use Rattle.quilt_near.specs.Lines.{Lines}

-- the facts on its segments, by id
abbrev pub segment_facts : SegMap → List Fact
segment_facts segs = map (λ e. IsSegment e.0 e.1) (finmap.entries segs)

-- the facts on the layer's segments and blocks: all but that of its kind
abbrev pub shown_facts : SegMap → BlockSet → List Fact
shown_facts segs cover = segment_facts segs ++ flat_map (line_facts segs) (finset.items cover)

-- the record of a fact of the layer with this number
abbrev pub fact_record : ℕ → ℕ → Fact → Record
fact_record n layer f = record_of n 0 [] layer f

-- Those of the records that are of the layer with this number are exactly the records of the facts on its segments and
-- blocks.
pub record SpellsLines (rs : List Record) (layer n t : ℕ) (segs : SegMap) (cover : BlockSet) : Type 0 where
  pub valid : IsLineMap n t segs cover
  pub each : (f : Fact) → Contains (shown_facts segs cover) f → Contains rs (fact_record n layer f)
  pub only : (r : Record) → Contains rs r → r.key.layer ≡ layer → Contains (map (fact_record n layer) (shown_facts segs cover)) r

-- the store tells pages over which the tree has records that spell the layer as these segments and blocks
pub record HasLines (told : Option (List (List ℕ))) (tree : Tree) (layer n t : ℕ) (segs : SegMap) (cover : BlockSet) : Type 0 where
  pub records : List Record
  pub is_tree : IsTree told tree records
  pub spelled : SpellsLines records layer n t segs cover

-- what a view of a layer and a store stand for, where the view's tree may be one of the store
pub record ShowsLines (told : Option (List (List ℕ))) (tree : Tree) (layer n : ℕ) (l : Lines) : Type 0 where
  pub threshold : ℕ
  pub has : HasLines told tree layer n threshold l.segs l.cover
  pub rooted : IsRooted (length has.is_tree.pages) tree
