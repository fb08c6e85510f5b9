-- What is kept of the segments that share a point with one.
use Rattle.std.specs.Prelude.{◌≡◌, ℕ, List, length, IfSome}
use Rattle.quilt_types.specs.declared.plane.Seg.{Seg}
use Rattle.quilt_join.specs.declared.rows.Row.{Row}
use Rattle.quilt_join.specs.Pairs.{ids_sharing}

-- the row of a segment among those of a list: how many share a point with it, and their ids where they are kept
pub record IsSharingRow (b : List (ℕ × Seg)) (e : ℕ × Seg) (row : Row) : Type 0 where
  pub id : row.id ≡ e.0
  pub segment : row.segment ≡ e.1
  pub count : row.count ≡ length (ids_sharing e.1 b)
  pub ids : IfSome row.ids (λ ids. ids.items ≡ ids_sharing e.1 b)
