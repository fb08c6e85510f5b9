-- The records that go and come when the points of a layer become others.
use Rattle.std.specs.Prelude.{◌≡◌, ℕ, true, List, [], ◌∷◌, map, fold, Contains, Some, None}
use Rattle.std.specs.FinMap as finmap
use Rattle.quilt_types.specs.declared.plane.Point.{Point}
use Rattle.quilt_types.specs.Layers.{Points, PointMap, IsPointMap}
use Rattle.quilt_types.specs.Facts.{IsOfKind}
use Rattle.quilt_record.specs.declared.edits.Edits.{Edits}
use Rattle.quilt_record.specs.declared.record.Record.{Record}
use Rattle.quilt_record.specs.Records.{record_of}
use Rattle.quilt_node.specs.Nodes.{keys_of}
use Rattle.quilt_node.specs.Pages.{is_ascending}
use Rattle.quilt_spell.specs.Apart.{Apart}
use Rattle.quilt_spell.specs.Changing.{LeadsTo}

-- Under any name of the layer the edits take out the records of the facts that the old points alone have, and put in those
-- of the facts that the new points alone have, each once. The new points are those of a layer.
pub record IsPointPlan (n layer capacity : ℕ) (old new : PointMap) (edits : Edits) : Type 0 where
  pub valid : (form : ℕ) → IsPointMap form n capacity old → IsPointMap form n capacity new
  pub leads : (name : List ℕ) → LeadsTo n name layer (Some (Points capacity old)) (Some (Points capacity new)) edits.remove edits.add

-- The record, behind that of the catalog, makes a layer of no points under any name, and the two ascend by their keys.
pub record IsBeginning (n number capacity : ℕ) (r : Record) : Type 0 where
  pub leads : (name : List ℕ) (first : Record) → ((k c : ℕ) → first ≡ record_of k c name number (IsOfKind 2 capacity))
      → LeadsTo n name number None (Some (Points capacity finmap.empty)) [] (first ∷ r ∷ [])
  pub ascend : (name : List ℕ) (first : Record) → ((k c : ℕ) → first ≡ record_of k c name number (IsOfKind 2 capacity))
      → is_ascending (keys_of (first ∷ r ∷ [])) ≡ true

-- no two of the points share a pixel, and none is at a pixel that has a point
pub record AreNew (points : PointMap) (news : List Point) : Type 0 where
  pub differ : Apart (map (λ p. p.at) news)
  pub free : (p : Point) → Contains news p → finmap.get points p.at ≡ None

-- the map with these points too
abbrev pub points_with : PointMap → List Point → PointMap
points_with points news = fold (λ now p. finmap.insert now p.at p.label) points news
