-- What is known of a line layer, and what its commands are answered once it was found.
use Rattle.std.specs.Prelude.{◌≡◌, ℕ, ◌∷◌, [], List, Bool, Some, is_some, is_none, unwrap_or}
use Rattle.std.specs.FinMap as finmap
use Rattle.quilt_types.specs.declared.code.Code.{Code}
use Rattle.quilt_types.specs.declared.code.Code.TheVariants as no
use Rattle.quilt_types.specs.declared.plane.Seg.{Seg}
use Rattle.quilt_types.specs.Layers.{Map, Layer, Lines, SegMap, BlockSet}
use Rattle.quilt_types.specs.Quadtrees.{after_add, after_remove}
use Rattle.quilt_world.specs.declared.disk.Disk as disk
use Rattle.quilt_record.specs.declared.entry.Entry.{Entry}
use Rattle.quilt_record.specs.Records.{Numbering}
use Rattle.quilt_spell.specs.Catalogued.{IsCatalogOf}
use Rattle.quilt_spell.specs.Written.{number_of}
use Rattle.quilt_lines.specs.Layers.{HasLines}
use Rattle.quilt_edition.specs.declared.book.Book.{Book}
use Rattle.quilt_replies.specs.Answers.{State, Outcome, Refused, unless, unknown, unless_lines, makes, changed, with}
use Rattle.quilt_map.specs.Sessions.{told_of, tree_in}
use Rattle.quilt_map.specs.declared.lines.LineLayer.{LineLayer}

-- the map has a line layer under the name, with this number and this splitting threshold
pub record IsLinesAt (layers : Map) (numbers : Numbering) (name : List ℕ) (layer : LineLayer) : Type 0 where
  pub segs : SegMap
  pub cover : BlockSet
  pub got : finmap.get layers name ≡ Some (Lines layer.threshold segs cover)
  pub numbered : layer.number ≡ number_of numbers name

-- the same with these segments and blocks, under each numbering that the entries give
pub record IsLinesIn (layers : Map) (entries : List Entry) (name : List ℕ) (layer : LineLayer) (segs : SegMap) (cover : BlockSet) : Type 0 where
  pub got : finmap.get layers name ≡ Some (Lines layer.threshold segs cover)
  pub numbered : (numbers : Numbering) → IsCatalogOf layers numbers entries → layer.number ≡ number_of numbers name

-- where the tests for a line layer come first, they refuse with the code
abbrev pub IsNoLines : State → List ℕ → Code → Type 0
IsNoLines s name code = (rs : List (Bool × Code)) (done : Outcome) → (unless (unknown s name ∷ unless_lines s name ∷ rs) s done).reply ≡ Refused code

module _ {W : Type 0} {D : disk.Ghosts W} where
  -- the work's records spell the layer as these segments and blocks
  abbrev pub HoldsLines : Book W D → LineLayer → SegMap → BlockSet → Type 0
  HoldsLines b layer segs cover = HasLines (told_of b) (tree_in b.work) layer.number b.work.level layer.threshold segs cover

-- the layer with the segment under the id too
abbrev pub with_segment : ℕ → SegMap → BlockSet → ℕ → Seg → Layer
with_segment t segs cover id seg = let later = finmap.insert segs id seg in Lines t later (after_add t later cover seg)

-- the layer, of a map of this level, without the segment of the id
abbrev pub without_segment : ℕ → ℕ → SegMap → BlockSet → ℕ → Seg → Layer
without_segment n t segs cover id seg = let later = finmap.remove segs id in Lines t later (after_remove n t later cover seg)

-- a segment comes to the layer under the id, unless one is there or the quota refuses it
abbrev pub segment_put : State → List ℕ → ℕ → SegMap → BlockSet → ℕ → Seg → Outcome
segment_put s name t segs cover id seg = makes s ((is_some (finmap.get segs id), no.Present) ∷ []) name (with_segment t segs cover id seg)

-- the segment of the id goes from the layer, unless none is there
abbrev pub segment_taken : State → List ℕ → ℕ → SegMap → BlockSet → ℕ → Outcome
segment_taken s name t segs cover id =
    let gone = finmap.get segs id in
    let seg = unwrap_or gone (record { x1 = 0; y1 = 0; x2 = 0; y2 = 0 }) in
    unless ((is_none gone, no.Absent) ∷ []) s (changed (with s name (without_segment s.last.level t segs cover id seg)))
