-- What is known of a point layer, and what its commands are answered once it was found.
use Rattle.std.specs.Prelude.{◌≡◌, ℕ, ◌∷◌, [], List, Bool, Some, is_some, is_none}
use Rattle.std.specs.FinMap as finmap
use Rattle.quilt_types.specs.declared.code.Code.{Code}
use Rattle.quilt_types.specs.declared.code.Code.TheVariants as no
use Rattle.quilt_types.specs.declared.plane.Pixel.{Pixel}
use Rattle.quilt_types.specs.declared.plane.Point.{Point}
use Rattle.quilt_types.specs.Layers.{Map, Points, PointMap}
use Rattle.quilt_world.specs.declared.disk.Disk as disk
use Rattle.quilt_record.specs.declared.entry.Entry.{Entry}
use Rattle.quilt_record.specs.Records.{Numbering}
use Rattle.quilt_spell.specs.Catalogued.{IsCatalogOf}
use Rattle.quilt_spell.specs.Written.{number_of}
use Rattle.quilt_points.specs.Layers.{HasPoints}
use Rattle.quilt_edition.specs.declared.book.Book.{Book}
use Rattle.quilt_replies.specs.Answers.{State, Outcome, Refused, unless, unknown, unless_points, makes, changed, with, collide, with_points}
use Rattle.quilt_map.specs.Sessions.{told_of, tree_in}
use Rattle.quilt_map.specs.declared.points.PointLayer.{PointLayer}

-- the map has a point layer under the name, with this number and this many points in a block at most
pub record IsPointsAt (layers : Map) (numbers : Numbering) (name : List ℕ) (layer : PointLayer) : Type 0 where
  pub points : PointMap
  pub got : finmap.get layers name ≡ Some (Points layer.bucket points)
  pub numbered : layer.number ≡ number_of numbers name

-- the same with these points, under each numbering that the entries give
pub record IsPointsIn (layers : Map) (entries : List Entry) (name : List ℕ) (layer : PointLayer) (points : PointMap) : Type 0 where
  pub got : finmap.get layers name ≡ Some (Points layer.bucket points)
  pub numbered : (numbers : Numbering) → IsCatalogOf layers numbers entries → layer.number ≡ number_of numbers name

-- where the tests for a point layer come first, they refuse with the code
abbrev pub IsNoPoints : State → List ℕ → Code → Type 0
IsNoPoints s name code = (rs : List (Bool × Code)) (done : Outcome) → (unless (unknown s name ∷ unless_points s name ∷ rs) s done).reply ≡ Refused code

module _ {W : Type 0} {D : disk.Ghosts W} where
  -- the work's records spell the layer as these points
  abbrev pub HoldsPoints : Book W D → PointLayer → PointMap → Type 0
  HoldsPoints b layer points = HasPoints (told_of b) (tree_in b.work) layer.number b.work.level layer.bucket points

-- a point comes to the layer, unless one is there or the quota refuses it
abbrev pub points_put : State → List ℕ → ℕ → PointMap → Pixel → ℕ → Outcome
points_put s name capacity points at label = makes s ((is_some (finmap.get points at), no.Present) ∷ []) name (Points capacity (finmap.insert points at label))

-- these points come to the layer, unless one is there where one of them comes, two share a pixel, or the quota refuses them
abbrev pub points_scattered : State → List ℕ → ℕ → PointMap → List Point → Outcome
points_scattered s name capacity points news = makes s ((collide points news, no.Present) ∷ []) name (Points capacity (with_points points news))

-- the point at the pixel goes from the layer, unless none is there
abbrev pub points_del : State → List ℕ → ℕ → PointMap → Pixel → Outcome
points_del s name capacity points at =
    unless ((is_none (finmap.get points at), no.Absent) ∷ []) s (changed (with s name (Points capacity (finmap.remove points at))))
