-- The whole square as a block: all leaves begin within it.
use Rattle.std.proofs.Common.{◌≡◌, ℕ, ◌^◌, ◌<◌, ◌≤◌, List, map, length, sym, ◌∙◌, ap, arith}
use Rattle.quilt_types.specs.Plane.{whole}
use Rattle.quilt_types.specs.Layers.{Grid, IsGrid, colour_at}
use Rattle.quilt_loc.proofs.Intervals.{origin_code}
use Rattle.quilt_loc.proofs.Quartered.{IsBlock-whole}
use Rattle.quilt_loc.proofs.Rising.{same_rising}
use Rattle.quilt_loc.proofs.Rows.{grid_of-from, colour_at-pixel_at}
use Rattle.quilt_blocks.specs.Cutting.{leaves_by_code, leaf_cmp}
use Rattle.quilt_blocks.specs.Painting.{grid_by_code}
use Rattle.quilt_blocks.proofs.Chains.{member_pos}
use Rattle.quilt_blocks.proofs.Cuts.{leaf_is, leaf_total, leaves_rise, leaves_members}
use Rattle.quilt_blocks.proofs.Painting.{Paints-all}
use Rattle.quilt_blocks.proofs.Squares.{code_to-whole}
use Rattle.quilt_spell.specs.OfLayer.{leaf_record}
use Rattle.quilt_region.specs.Painting.{HasColours}
use Rattle.quilt_region.specs.Regions.{region_records}
use Rattle.quilt_region.specs.Windows.{IsCutOut, leaves_within, records_within}
use Rattle.quilt_region.proofs.InStep.{code_room}
use Rattle.quilt_region.proofs.Within.{within_from, within_at, within_rise}

whole_within : (n : ℕ) (g : Grid) → n ≤ 12 → leaves_within n g (whole n) ≡ leaves_by_code n g
whole_within n g le =
    let w = IsBlock-whole n in
    same_rising leaf_cmp leaf_total (leaves_within n g (whole n)) (leaves_by_code n g) (within_rise n g (whole n) le w) (leaves_rise n g le) (λ e. (
      λ c. (leaves_members n g e).1 (within_from n g (whole n) le w e c).0,
      λ c.
          let m = (leaves_members n g e).0 c in
          let block = (leaf_is n g e m).maximal.block in
          let room = code_room n e.0 le block in
          let pos = member_pos n e.0 block in
          let last = code_to-whole n in
          let first = origin_code in
          within_at n g (whole n) le w e m (omega arith) (omega arith),
    ))

pub whole_records : (n layer : ℕ) (g : Grid) → n ≤ 12 → region_records n layer g ≡ records_within n layer g (whole n)
unfolding region_records records_within
whole_records n layer g le = ap (map (leaf_record n layer)) (sym (whole_within n g le))

pub whole_cut : (n : ℕ) (g : Grid) → IsCutOut n g (whole n)
whole_cut n g = record { several = λ lt one. absurd (omega arith) }

-- colours of the whole square make the grid
pub whole_grid : (n : ℕ) (g : Grid) (colours : List ℕ) → n ≤ 12 → IsGrid 2 n g → length colours ≡ 4 ^ n → HasColours n (colour_at n g) colours
    → grid_by_code n colours ≡ g
whole_grid n g colours le is long has =
    Paints-all n (colour_at n g) colours le long (record { each = has.each })
    ∙ sym (grid_of-from n (colour_at n g) g is.size (λ k lt. sym (colour_at-pixel_at n g k)))
