-- Blocks and rectangles of pixels.
use Rattle.std.specs.Prelude.{◌+◌, Bool, ◌&&◌, nat_le, nat_lt, List}
use Rattle.std.specs.List.{list_any}
use Rattle.quilt_types.specs.declared.plane.Block.{Block}
use Rattle.quilt_types.specs.declared.plane.Seg.{Seg}
use Rattle.quilt_types.specs.declared.plane.Window.{Window}
use Rattle.quilt_types.specs.Segments.{meets}

-- the block and the window have a pixel in common
abbrev pub shares_pixel : Block → Window → Bool
shares_pixel b w = nat_lt b.x (w.x + w.w) && nat_lt w.x (b.x + b.side) && nat_lt b.y (w.y + w.h) && nat_lt w.y (b.y + b.side)

-- the block has a pixel of one of the windows
abbrev pub holds_any : List Window → Block → Bool
holds_any ws b = list_any (shares_pixel b) ws

-- the segment meets the closed rectangle of one of the windows
abbrev pub meets_any : List Window → Seg → Bool
meets_any ws s = list_any (meets s) ws

-- the block's closed square meets the closed rectangle of the window
abbrev pub is_touching : Window → Block → Bool
is_touching w b = nat_le b.x (w.x + w.w) && nat_le w.x (b.x + b.side) && nat_le b.y (w.y + w.h) && nat_le w.y (b.y + b.side)
