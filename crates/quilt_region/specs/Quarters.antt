-- A window that is painted quarter by quarter of a block that has it.
use Rattle.std.specs.Prelude.{◌≡◌, ℕ, ◌+◌, ◌<◌, ◌≤◌, true, ◌&&◌, nat_le, nat_lt, List, filter}
use Rattle.quilt_types.specs.declared.plane.Pixel.{Pixel}
use Rattle.quilt_types.specs.declared.plane.Window.{Window}
use Rattle.quilt_types.specs.declared.plane.Block.{Block}
use Rattle.quilt_types.specs.Plane.{Holds}
use Rattle.quilt_types.specs.Layers.{Grid}
use Rattle.quilt_types.specs.Quadtrees.{is_uniform}
use Rattle.quilt_loc.specs.Codes.{code_from, code_to}
use Rattle.quilt_record.specs.declared.record.Record.{Record}
use Rattle.quilt_region.specs.Plans.{records_without}
use Rattle.quilt_region.specs.Windows.{HoldsWindow}

-- the pixel is one of the window's
pub record InWindow (w : Window) (p : Pixel) : Type 0 where
  pub left : w.x ≤ p.x
  pub right : p.x < w.x + w.w
  pub top : w.y ≤ p.y
  pub bottom : p.y < w.y + w.h

-- the window has the pixels that the other one and the block have in common
pub record IsCommonWindow (w : Window) (b : Block) (v : Window) : Type 0 where
  pub wide : 1 ≤ v.w
  pub high : 1 ≤ v.h
  pub holds : HoldsWindow b v
  pub left : w.x ≤ v.x
  pub right : v.x + v.w ≤ w.x + w.w
  pub top : w.y ≤ v.y
  pub bottom : v.y + v.h ≤ w.y + w.h
  pub all : (p : Pixel) → Holds b p → InWindow w p → InWindow v p

-- neither grid has one colour in the block
pub record AreSeveral (n : ℕ) (g h : Grid) (b : Block) : Type 0 where
  pub first : is_uniform n g b ≡ true → ⊥
  pub second : is_uniform n h b ≡ true → ⊥

-- the records of the leaves of one grid that are no leaves of the other and begin within a block, in the order of their codes
unfoldable pub records_without_in : ℕ → ℕ → Grid → Grid → Block → List Record
records_without_in n layer g other b = filter (λ r. nat_le (code_from b) r.key.code && nat_lt r.key.code (code_to b)) (records_without n layer g other)
