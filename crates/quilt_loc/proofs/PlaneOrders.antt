-- The orders of pixels and of blocks are total.
use Rattle.std.specs.Cmp.{IsTotalOrder, nat_cmp_total, on_total, then_total}
use Rattle.quilt_types.specs.declared.plane.Pixel.{Pixel}
use Rattle.quilt_types.specs.declared.plane.Block.{Block}
use Rattle.quilt_types.specs.Plane.{pixel_cmp, block_cmp}

pub pixel_total : IsTotalOrder pixel_cmp
pixel_total = then_total (on_total (λ (p : Pixel). p.y) nat_cmp_total) (on_total (λ (p : Pixel). p.x) nat_cmp_total)

pub block_total : IsTotalOrder block_cmp
block_total =
    then_total (on_total (λ (b : Block). b.y) nat_cmp_total)
    (then_total (on_total (λ (b : Block). b.x) nat_cmp_total) (on_total (λ (b : Block). b.side) nat_cmp_total))
