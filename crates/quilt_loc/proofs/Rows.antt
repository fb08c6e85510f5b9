-- The pixels of the square, their places, and the grid that has given colours.
use Rattle.std.proofs.Common.{◌≡◌, ℕ, zero, suc, ◌+◌, ◌*◌, ◌<◌, List, map, length, get_or, sym, ◌∙◌, ap, arith, Contains, flat_map, zero-mul, suc-mul}
use Rattle.std.proofs.Common.{length-append, get_or-append-add, pow_pos, ext_get_or}
use Rattle.std.specs.List.{range_with_len}
use Rattle.std.proofs.lemmas.List.{get_or-map, get_or_append_left, length-map}
use Rattle.std.proofs.lemmas.List.FromFn.{length-map-range_with_len, get_or-map-range_with_len}
use Rattle.std.proofs.lemmas.Nat.{mul-add-lt, div-add-mod', mod_below, div_below}
use Rattle.quilt_types.specs.declared.plane.Pixel.{Pixel}
use Rattle.quilt_types.specs.Plane.{side, below, pixels, pixel_at}
use Rattle.quilt_types.specs.Layers.{colour_at}
use Rattle.quilt_types.specs.Algebra.{grid_of}
use Rattle.quilt_types.proofs.Members.{Contains-map, Contains-map_from, Contains-flat_map, Contains-flat_map_from}
pub use Rattle.quilt_types.proofs.Members.{Contains-below, Contains-below_from}

pub Contains-pixels : (n : ℕ) (p : Pixel) → p.x < side n → p.y < side n → Contains (pixels n) p
unfolding pixels
Contains-pixels n p hx hy =
    let at : ℕ → ℕ → Pixel = λ y x. record { x = x; y = y } in
    Contains-flat_map (λ y. map (at y) (below (side n))) (below (side n)) p.y p (Contains-below (side n) p.y hy)
    (Contains-map (at p.y) (below (side n)) p.x (Contains-below (side n) p.x hx))

pub Contains-pixels_from : (n : ℕ) (p : Pixel) → Contains (pixels n) p → (p.x < side n) × (p.y < side n)
unfolding pixels
Contains-pixels_from n p c =
    let at : ℕ → ℕ → Pixel = λ y x. record { x = x; y = y } in
    let row = Contains-flat_map_from (λ y. map (at y) (below (side n))) (below (side n)) p c in
    let col = Contains-map_from (at row.0) (below (side n)) p row.2 in
    let hy = Contains-below_from (side n) row.0 row.1 in
    let hx = Contains-below_from (side n) col.0 col.1 in
    let ex : col.0 ≡ p.x = ap (λ (q : Pixel). q.x) col.2 in
    let ey : row.0 ≡ p.y = ap (λ (q : Pixel). q.y) col.2 in
    (omega arith, omega arith)

-- a table row by row
module _ {X : Type 0} (f : ℕ → ℕ → X) (w : ℕ) where
  abbrev pub table : ℕ → ℕ → List X
  table a h = flat_map (λ y. map (f y) (range_with_len 0 w)) (range_with_len a h)

  pub length-table : (a h : ℕ) → length (table a h) ≡ h * w
  length-table a zero = sym (zero-mul w)
  length-table a (suc h) =
      length-append (map (f a) (range_with_len 0 w)) (table (a + 1) h)
      ∙ (let e = length-map-range_with_len (f a) 0 w in let r = length-table (a + 1) h in let s = suc-mul h w in omega arith)

  pub get_or-table : (a h j x : ℕ) (d : X) → j < h → x < w → get_or (table a h) (j * w + x) d ≡ f (a + j) x
  get_or-table a zero j x d l m = absurd (omega arith)
  get_or-table a (suc h) zero x d l m =
      let e : zero * w + x ≡ x = omega (arith, zero-mul w) in
      let long = length-map-range_with_len (f a) 0 w in
      ap (λ k. get_or (table a (suc h)) k d) e
      ∙ get_or_append_left (map (f a) (range_with_len 0 w)) (table (a + 1) h) d x (omega arith)
      ∙ get_or-map-range_with_len (f a) 0 w x x d m (omega arith)
      ∙ (let z : a ≡ a + 0 = omega arith in ap (λ y. f y x) z)
  get_or-table a (suc h) (suc j) x d l m =
      let long = length-map-range_with_len (f a) 0 w in
      let s = suc-mul j w in
      let e : suc j * w + x ≡ length (map (f a) (range_with_len 0 w)) + (j * w + x) = omega arith in
      ap (λ k. get_or (table a (suc h)) k d) e
      ∙ get_or-append-add (map (f a) (range_with_len 0 w)) (table (a + 1) h) (j * w + x) d
      ∙ get_or-table (a + 1) h j x d (omega arith) m
      ∙ (let z : a + 1 + j ≡ a + suc j = omega arith in ap (λ y. f y x) z)

pub length-pixels : (n : ℕ) → length (pixels n) ≡ side n * side n
unfolding pixels
length-pixels n = length-table (λ y x. let p : Pixel = record { x = x; y = y } in p) (side n) 0 (side n)

-- the pixel at its place
pub get_or-pixels : (n : ℕ) (p d : Pixel) → p.x < side n → p.y < side n → get_or (pixels n) (p.y * side n + p.x) d ≡ p
unfolding pixels
get_or-pixels n p d hx hy =
    get_or-table (λ y x. let p : Pixel = record { x = x; y = y } in p) (side n) 0 (side n) p.y p.x d hy hx
    ∙ (let z : 0 + p.y ≡ p.y = omega arith in ap (λ y. let q : Pixel = record { x = p.x; y = y } in q) z)

pub length-grid_of : (n : ℕ) (f : Pixel → ℕ) → length (grid_of n f) ≡ side n * side n
unfolding grid_of
length-grid_of n f = length-map (pixels n) f ∙ length-pixels n

pub colour_at-grid_of : (n : ℕ) (f : Pixel → ℕ) (p : Pixel) → p.x < side n → p.y < side n → colour_at n (grid_of n f) p ≡ f p
unfolding grid_of
colour_at-grid_of n f p hx hy =
    let lt = mul-add-lt p.y (side n) p.x (side n) hy hx in
    let long = length-pixels n in
    get_or-map f (pixels n) (p.y * side n + p.x) p 0 (omega arith)
    ∙ ap f (get_or-pixels n p p hx hy)

pub colour_at-pixel_at : (n : ℕ) (g : List ℕ) (k : ℕ) → colour_at n g (pixel_at n k) ≡ get_or g k 0
colour_at-pixel_at n g k = ap (λ i. get_or g i 0) (div-add-mod' k (side n))

pub get_or-grid_of : (n : ℕ) (f : Pixel → ℕ) (k : ℕ) → k < side n * side n → get_or (grid_of n f) k 0 ≡ f (pixel_at n k)
get_or-grid_of n f k lt =
    sym (colour_at-pixel_at n (grid_of n f) k)
    ∙ colour_at-grid_of n f (pixel_at n k) (mod_below k (side n) (pow_pos n)) (div_below k (side n) (side n) (pow_pos n) lt)

pub grid_of-from : (n : ℕ) (f : Pixel → ℕ) (g : List ℕ) → length g ≡ side n * side n
    → ((k : ℕ) → k < side n * side n → get_or g k 0 ≡ f (pixel_at n k)) → g ≡ grid_of n f
grid_of-from n f g long each =
    ext_get_or 0 g (grid_of n f) (long ∙ sym (length-grid_of n f)) (λ k lt. each k (omega arith) ∙ sym (get_or-grid_of n f k (omega arith)))
