-- Grids made pixel by pixel have the colours of a format where each pixel's is one.
use Rattle.std.proofs.Common.{ℕ, ◌+◌, ◌*◌, ◌<◌, ◌≤◌, Bool, true, false, List, [], ◌∷◌, map, length, Option, Some, None, sym, subst, ⊎_elim, arith, Contains}
use Rattle.std.proofs.Common.{eqb}
use Rattle.std.specs.Bool.{if◌then◌else◌}
use Rattle.std.proofs.lemmas.Bool.{cases_lt}
use Rattle.std.proofs.Math.ListN.{get_or-eq_default}
use Rattle.std.proofs.lemmas.List.Elements.{All-contains, All-weaker, All-get_or}
use Rattle.quilt_types.specs.declared.plane.Pixel.{Pixel}
use Rattle.quilt_types.specs.declared.plane.Window.{Window}
use Rattle.quilt_types.specs.Plane.{side, pixels, in_window}
use Rattle.quilt_types.specs.Layers.{Grid, IsGrid, colour_at, colours}
use Rattle.quilt_types.specs.Algebra.{grid_of, recoloured_by, moved, colour_from}
use Rattle.quilt_types.specs.Polygons.{filled_rings, is_inside}
use Rattle.quilt_loc.proofs.Members.{Contains-here, Contains-there, Contains-map_from}
use Rattle.quilt_loc.proofs.Rows.{length-grid_of}
use Rattle.quilt_spell.proofs.Spelling.{all_from}
use Rattle.quilt_region.specs.Covers.{window_meets, block_of, cover_colour}
use Rattle.quilt_region.specs.Laws.{FitsLaw}

-- how many colours a format has
many : (form : ℕ) → (256 ≤ colours form) × (colours form ≤ 65536)
many form = both (eqb form 1)
  where
    both : (b : Bool) → (256 ≤ (if b then 256 else 65536)) × ((if b then 256 else 65536) ≤ 65536)
    both true = (omega arith, omega arith)
    both false = (omega arith, omega arith)

either : (m : ℕ) (b : Bool) (x y : ℕ) → x < m → y < m → (if b then x else y) < m
either m true x y a b = a
either m false x y a b = b

pub in_two : (form n : ℕ) (g : Grid) → IsGrid form n g → IsGrid 2 n g
in_two form n g h =
    let m = (many form).1 in record {
      size = h.size;
      colours = All-weaker (λ c. c < colours form) (λ c. c < 65536) (λ c lt. omega arith) g h.colours;
    }

by_pixels : (form n : ℕ) (f : Pixel → ℕ) → ((p : Pixel) → f p < colours form) → IsGrid form n (grid_of n f)
unfolding grid_of
by_pixels form n f each = record {
  size = length-grid_of n f;
  colours = all_from (λ c. c < colours form) (map f (pixels n)) (λ c m. let p = Contains-map_from f (pixels n) c m in
      subst (λ (d : ℕ). d < colours form) p.2 (each p.0));
}

module _ (form n : ℕ) where
  zero_fits : 0 < colours form
  zero_fits = let m = (many form).0 in omega arith

  one_fits : 1 < colours form
  one_fits = let m = (many form).0 in omega arith

  fits_at : (g : Grid) → IsGrid form n g → (p : Pixel) → colour_at n g p < colours form
  fits_at g h p =
      let i = p.y * side n + p.x in
      ⊎_elim (λ lt. All-get_or (λ c. c < colours form) g i 0 lt h.colours)
      (λ over. subst (λ (c : ℕ). c < colours form) (sym (get_or-eq_default g 0 over)) zero_fits) (cases_lt i (length g))

  new_fits : (pairs : List (ℕ × ℕ)) (c : ℕ) → ((pair : ℕ × ℕ) → Contains pairs pair → pair.1 < colours form) → c < colours form
      → recoloured_by pairs c < colours form
  new_fits [] c h lt = lt
  new_fits (pair ∷ pairs) c h lt =
      either (colours form) (eqb pair.0 c) pair.1 (recoloured_by pairs c) (h pair (Contains-here pair pairs))
      (new_fits pairs c (λ q m. h q (Contains-there pair pairs q m)) lt)

  from_fits : (g : Grid) (x y : Option ℕ) → IsGrid form n g → colour_from n g x y < colours form
  from_fits g (Some x) (Some y) h = fits_at g h (record { x = x; y = y })
  from_fits g (Some x) None h = zero_fits
  from_fits g None y h = zero_fits

-- the blocks of a side that meet a window
pub cover_fits : (form n : ℕ) (g : Grid) (s : ℕ) (w : Window) → IsGrid form n g → IsGrid form n (grid_of n (cover_colour n g s w))
cover_fits form n g s w h =
    by_pixels form n (cover_colour n g s w)
    (λ p. either (colours form) (window_meets w (block_of s p)) (colour_at n g p) 0 (fits_at form n g h p) (zero_fits form n))

pub fits_law : FitsLaw
unfolding filled_rings
fits_law = record {
  in_two = in_two;
  in_form = λ form n g h all. record { size = h.size; colours = all };
  by_pixels = by_pixels;
  uniform_fits = λ form n c lt. by_pixels form n (λ p. c) (λ p. lt);
  painted_fits = λ form n g w c h lt. by_pixels form n (λ p. if in_window w p then c else colour_at n g p)
      (λ p. either (colours form) (in_window w p) c (colour_at n g p) lt (fits_at form n g h p));
  union_fits = λ form n g h a b. by_pixels form n _
      (λ p. either (colours form) (eqb (colour_at n g p) 0) (colour_at n h p) (colour_at n g p) (fits_at form n h b p) (fits_at form n g a p));
  intersection_fits =
      λ form n g h a. by_pixels form n _ (λ p. either (colours form) (eqb (colour_at n h p) 0) 0 (colour_at n g p) (zero_fits form n) (fits_at form n g a p));
  difference_fits =
      λ form n g h a. by_pixels form n _ (λ p. either (colours form) (eqb (colour_at n h p) 0) (colour_at n g p) 0 (fits_at form n g a p) (zero_fits form n));
  recoloured_fits = λ form n g pairs h all. by_pixels form n _
      (λ p. new_fits form n pairs (colour_at n g p) (λ pair c. All-contains (λ (q : ℕ × ℕ). q.1 < colours form) pairs pair all c) (fits_at form n g h p));
  cut_fits = λ form n g w h. by_pixels form n _ (λ p. either (colours form) (in_window w p) (colour_at n g p) 0 (fits_at form n g h p) (zero_fits form n));
  shifted_fits = λ form n g dx dy h. by_pixels form n _ (λ p. from_fits form n g (moved n p.x dx) (moved n p.y dy) h);
  buffered_fits = λ form n g r. by_pixels form n _ (λ p. either (colours form) _ 1 0 (one_fits form n) (zero_fits form n));
  filled_fits = λ form n rings c lt.
      by_pixels form n (λ p. if is_inside rings p then c else 0) (λ p. either (colours form) (is_inside rings p) c 0 lt (zero_fits form n));
}
