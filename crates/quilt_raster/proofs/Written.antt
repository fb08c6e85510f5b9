-- Colours as a format writes them.
use Rattle.std.proofs.Common.{◌≡◌, ◌≢◌, ℕ, ◌+◌, ◌*◌, ◌/◌, ◌%◌, ◌<◌, Bool, true, false, List, [], ◌∷◌, map, get_or, refl, sym, ◌∙◌, ap, ap₂, arith, All, cond}
use Rattle.std.specs.Bool.{◌==◌}
use Rattle.std.proofs.Math.ListN.{get_or-map}
use Rattle.std.proofs.lemmas.Bool.{ne_eqb}
use Rattle.std.proofs.lemmas.List.Elements.{All-head, All-tail}
use Rattle.quilt_types.specs.declared.plane.Pixel.{Pixel}
use Rattle.quilt_types.specs.Plane.{side}
use Rattle.quilt_types.specs.Layers.{Grid, colour_at, colours}
use Rattle.quilt_raster.specs.Showing.{digit_of_colour, colour_digits, written_in}

-- the background is written as it is
pub written_in-zero : (f : ℕ) → written_in f 0 ≡ 0
unfolding written_in
written_in-zero f = elim (f == 1) as (λ (b : Bool). cond b (0 % 256) 0 ≡ 0) [ true ↦ refl | false ↦ refl ]

-- and each colour of the format
pub written_in-small : (f c : ℕ) → c < colours f → written_in f c ≡ c
unfolding written_in
written_in-small f c = elim (f == 1) as (λ (b : Bool). c < cond b 256 65536 → cond b (c % 256) c ≡ c) [ true ↦ (λ lt. omega arith) | false ↦ (λ lt. refl) ]

pub colour_at-written : (f n : ℕ) (g : Grid) (p : Pixel) → colour_at n (map (written_in f) g) p ≡ written_in f (colour_at n g p)
colour_at-written f n g p =
    let i = p.y * side n + p.x in
    ap (λ d. get_or (map (written_in f) g) i d) (sym (written_in-zero f)) ∙ get_or-map (written_in f) g i 0

pub map-written : (f : ℕ) (g : Grid) → All (λ c. c < colours f) g → map (written_in f) g ≡ g
map-written f [] h = refl
map-written f (c ∷ g) h =
    ap₂ ◌∷◌ (written_in-small f c (All-head (λ c. c < colours f) c g h)) (map-written f g (All-tail (λ c. c < colours f) c g h))

-- the digits of a colour in format 1
pub two_digits : (f c : ℕ) → f ≡ 1 → colour_digits f (written_in f c) ≡ digit_of_colour (c % 256 / 16) ∷ digit_of_colour (c % 256 % 16) ∷ []
unfolding colour_digits written_in
two_digits f c is = ap (λ k. colour_digits k (written_in k c)) is

-- and in another
pub four_digits : (f c : ℕ) → f ≢ 1 → colour_digits f (written_in f c) ≡ digit_of_colour (c / 4096) ∷ digit_of_colour (c / 256 % 16) ∷ digit_of_colour (c / 16 % 16) ∷ digit_of_colour (c % 16) ∷ []
unfolding colour_digits written_in
four_digits f c is =
    let four : ℕ → List ℕ = λ d. digit_of_colour (d / 4096) ∷ digit_of_colour (d / 256 % 16) ∷ digit_of_colour (d / 16 % 16) ∷ digit_of_colour (d % 16) ∷ [] in
    ap (λ b. let d = cond b (c % 256) c in cond b (digit_of_colour (d / 16) ∷ digit_of_colour (d % 16) ∷ []) (four d)) (ne_eqb f 1 is)
