-- The quadrants of a square, and parts that stand for them.
use Rattle.std.proofs.Common.{◌≡◌, ℕ, zero, suc, ◌+◌, ◌-◌, ◌*◌, ◌/◌, ◌^◌, ◌<◌, ◌≤◌, List, [], ◌∷◌, length, get_or, refl, sym, ◌∙◌, ap, ap₂, subst, arith, Option, Some, IfSome}
use Rattle.std.proofs.Common.{pow-suc}
use Rattle.std.proofs.lemmas.List.{get_or_default}
use Rattle.quilt_types.specs.declared.plane.Pixel.{Pixel}
use Rattle.quilt_types.specs.declared.plane.Block.{Block}
use Rattle.quilt_types.specs.declared.plane.Colour.{Colour}
use Rattle.quilt_types.specs.Plane.{side, corner, whole, quarters_of, IsBlock}
use Rattle.quilt_types.specs.Layers.{Grid, colour_at}
use Rattle.quilt_loc.specs.Codes.{code_from, code_to}
use Rattle.quilt_loc.proofs.Blocks.{side_most}
use Rattle.quilt_loc.proofs.Quartered.{IsQuarter, IsBlock-whole, quarters_are, wide_side}
use Rattle.quilt_loc.proofs.Intervals.{origin_code, half_codes, held_code}
use Rattle.quilt_blocks.specs.Raster.{Raster}
use Rattle.quilt_blocks.specs.Adding.{AddsColours}
use Rattle.quilt_blocks.specs.Painting.{Painted, grid_by_code}
use Rattle.quilt_blocks.proofs.Painting.{code_in, colour_at-grid_by_code}
use Rattle.quilt_blocks.proofs.Adding.{part_at, Adds-then, Adds-change}
use Rattle.quilt_blocks.proofs.Squares.{code_to-whole}
use Rattle.quilt_blocks.specs.Cutting.{leaves_by_code}
use Rattle.quilt_raster.specs.Bytes.{from_corner}
use Rattle.quilt_tally.specs.declared.tally.Tally.TheVariants.{One}
use Rattle.quilt_tally.specs.Tallies.{HasPast, AreTallies}
use Rattle.quilt_tally.proofs.Joining.{part_over}
use Rattle.quilt_tally.proofs.Quarters.{whole_over}
use Rattle.quilt_par.specs.declared.part.Part.{Part}
use Rattle.quilt_par.specs.declared.part.CountedPart.{CountedPart}
use Rattle.quilt_par.specs.declared.part.Part.TheVariants.{Single, Leaves}
use Rattle.quilt_par.specs.Parts.{width_of, moved_colour, quadrant_at, part_in, ShowsBlock, IsCounted, ShowAll, at_corner}

abbrev nowhere : Block
nowhere = record { x = 0; y = 0; side = 0 }

pub quadrant_is : (n i : ℕ) → 1 ≤ n → i < 4 → IsQuarter n (whole n) (quadrant_at n i)
quadrant_is n i some lt =
    let qs = quarters_of (whole n) in
    let q = quadrant_at n i in
    quarters_are n (whole n) q (IsBlock-whole n) (wide_side n some) (i, lt, get_or_default qs i q nowhere lt)

-- where its codes begin and end
pub record HasCodes (n i : ℕ) (q : Block) : Type 0 where
  pub from : code_from q ≡ i * (side n / 2 * (side n / 2))
  pub to : code_to q ≡ (i + 1) * (side n / 2 * (side n / 2))

pub quadrant_codes : (n i : ℕ) → 1 ≤ n → n ≤ 12 → i < 4 → HasCodes n i (quadrant_at n i)
quadrant_codes n i some most lt =
    let p = part_at n (whole n) (quarters_of (whole n)) i nowhere most (IsBlock-whole n) (wide_side n some) (λ k. quarters_of (whole n)) lt in
    let z = origin_code in
    let f = p.from in
    let t = p.to in
    record { from = omega arith; to = omega arith }

pub four_squares : (n : ℕ) → 1 ≤ n → n ≤ 12 → 4 * (side n / 2 * (side n / 2)) ≡ 4 ^ n
four_squares n some most =
    let c = half_codes n (whole n) (IsBlock-whole n) most (wide_side n some) in
    let all = c.all in
    let z = origin_code in
    let w = code_to-whole n in
    omega arith

pub half_side : (n k s : ℕ) → n ≡ suc k → 2 * s ≡ side n → s ≡ side k
half_side n k s is half =
    let e : side n ≡ 2 ^ suc k = ap (λ z. 2 ^ z) is in
    let p = pow-suc 2 k in
    omega arith

-- a finished square shows the quadrant
pub Shows-square : (n k : ℕ) (g : Grid) (b : Block) (list : Raster) (m : Painted) → n ≡ suc k → n ≤ 12 → 2 * b.side ≡ side n
    → list ≡ record { level = k; grid = grid_by_code k m.colours }
    → AddsColours k (from_corner n g (corner b)) (4 ^ k) (record { level = k; colours = [] }) m → ShowsBlock n g b (Leaves list)
Shows-square n k g b list m is most half made adds =
    let colours = m.colours in
    let s = half_side n k b.side is half in
    let done : ShowsBlock n g b (Leaves (record { level = k; grid = grid_by_code k colours })) = record {
      wide = s;
      each = λ p h.
          let l = h.left in
          let r = h.right in
          let t = h.top in
          let d = h.bottom in
          let q : Pixel = record { x = p.x - b.x; y = p.y - b.y } in
          let hx : p.x - b.x < side k = omega arith in
          let hy : p.y - b.y < side k = omega arith in
          let c = code_in k q (omega arith) hx hy in
          let ex : b.x + (p.x - b.x) ≡ p.x = omega arith in
          let ey : b.y + (p.y - b.y) ≡ p.y = omega arith in
          colour_at-grid_by_code k colours q hx hy ∙ adds.each q hx hy (omega arith) c ∙ ap₂ (λ (x y : ℕ). colour_at n g (record { x = x; y = y })) ex ey;
    } in
    subst (λ (r : Raster). ShowsBlock n g b (Leaves r)) (sym made) done

-- one pixel does
pub Shows-pixel : (n : ℕ) (g : Grid) (b : Block) (c : Colour) (place : ℕ) → n ≡ 1 → 2 * b.side ≡ side n → place ≡ 2 * b.y + b.x
    → c.0 ≡ get_or g place 0 → ShowsBlock n g b (Single c)
Shows-pixel n g b c place is half at colour =
    let two : side n ≡ 2 = ap (λ z. 2 ^ z) is in
    record {
      wide = omega arith;
      each = λ p h.
          let l = h.left in
          let r = h.right in
          let t = h.top in
          let d = h.bottom in
          let row : p.y * side n ≡ p.y * 2 = ap (λ z. p.y * z) two in
          let same : place ≡ p.y * side n + p.x = omega arith in
          colour ∙ ap (λ z. get_or g z 0) same;
    }

-- a pixel, counted
pub Counted-pixel : (n : ℕ) (g : Grid) (b : Block) (c : Colour) (place : ℕ) → n ≡ 1 → 2 * b.side ≡ side n → place ≡ 2 * b.y + b.x
    → c.0 ≡ get_or g place 0 → IsCounted n g b (record { part = Single c; tally = One c })
Counted-pixel n g b c place is half at colour =
    let shows = Shows-pixel n g b c place is half at colour in
    record { shows = shows; tally = record { each = λ p h. sym (shows.each p h) } }

-- the square that lies at the corner of a quadrant is the quadrant
pub corner_whole : (n k : ℕ) (b w : Block) → n ≡ suc k → 2 * b.side ≡ side n → w ≡ whole k → at_corner (corner b) w ≡ b
corner_whole n k b w is half same =
    let s = half_side n k b.side is half in
    let x : b.x + 0 ≡ b.x = omega arith in
    let y : b.y + 0 ≡ b.y = omega arith in
    ap (at_corner (corner b)) same ∙ (λ i. record { x = x i; y = y i; side = sym s i })

-- where a quadrant has too many leaves, the list of the raster has
pub quadrant_past : (n i : ℕ) (g : Grid) (b : Block) (most : ℕ) → 1 ≤ n → i < 4 → b ≡ quadrant_at n i → HasPast n g b most → most < length (leaves_by_code n g)
quadrant_past n i g b most some lt is past =
    let q = quadrant_at n i in
    let over = (subst (λ (r : Block). HasPast n g r most) is past).over in
    whole_over n g (whole n) most refl (part_over n g (whole n) q most (IsBlock-whole n) (wide_side n some)
    (i, lt, get_or_default (quarters_of (whole n)) i q nowhere lt) over)

-- the tallies of all four
pub AreTallies-four : (n : ℕ) (g : Grid) (a b c d : CountedPart) → IsCounted n g (quadrant_at n 0) a → IsCounted n g (quadrant_at n 1) b
    → IsCounted n g (quadrant_at n 2) c → IsCounted n g (quadrant_at n 3) d → AreTallies n g (whole n) a.tally b.tally c.tally d.tally
AreTallies-four n g a b c d ha hb hc hd =
    record { upper_left = ha.tally; upper_right = hb.tally; lower_left = hc.tally; lower_right = hd.tally }

-- the pixel's place in the raster of level 1
pub pixel_place : (n : ℕ) (b : Block) → n ≡ 1 → IsBlock n b → 2 * b.y + b.x < side n * side n
pixel_place n b is h =
    let two : side n ≡ 2 = ap (λ z. 2 ^ z) is in
    let four : side n * side n ≡ 2 * 2 = ap (λ z. z * z) two in
    let x = h.in_x in
    let y = h.in_y in
    omega arith

-- a quadrant among the four quarters of the whole square
pub quadrant_found : (n i j : ℕ) (b : Block) (qs : List Block) → b ≡ whole n → qs ≡ quarters_of b → j ≡ i → get_or qs j nowhere ≡ quadrant_at n i
quadrant_found n i j b qs is are at = ap₂ (λ (l : List Block) (k : ℕ). get_or l k nowhere) (are ∙ ap quarters_of is) at

module _ (n : ℕ) (g : Grid) (a b c d : Part) (ha : ShowsBlock n g (quadrant_at n 0) a) (hb : ShowsBlock n g (quadrant_at n 1) b)
    (hc : ShowsBlock n g (quadrant_at n 2) c) (hd : ShowsBlock n g (quadrant_at n 3) d) where
  one_of_four : (i : ℕ) → i < 4 → ShowsBlock n g (quadrant_at n i) (part_in (a ∷ b ∷ c ∷ d ∷ []) i)
  one_of_four zero lt = ha
  one_of_four (suc zero) lt = hb
  one_of_four (suc (suc zero)) lt = hc
  one_of_four (suc (suc (suc zero))) lt = hd
  one_of_four (suc (suc (suc (suc i)))) lt = absurd (omega arith)

  pub ShowAll-four : ShowAll n g (a ∷ b ∷ c ∷ d ∷ [])
  ShowAll-four = record { each = one_of_four }

abbrev pub FourParts : Type 0
FourParts = (CountedPart × CountedPart) × (CountedPart × CountedPart)

-- four parts that are answered
pub ShowAll-answered : (n : ℕ) (g : Grid) (o : Option FourParts) (four : FourParts) → o ≡ Some four
    → IfSome o (λ p. IsCounted n g (quadrant_at n 0) (p.0).0) → IfSome o (λ p. IsCounted n g (quadrant_at n 1) (p.0).1)
    → IfSome o (λ p. IsCounted n g (quadrant_at n 2) (p.1).0) → IfSome o (λ p. IsCounted n g (quadrant_at n 3) (p.1).1)
    → ShowAll n g ((four.0).0.part ∷ (four.0).1.part ∷ (four.1).0.part ∷ (four.1).1.part ∷ [])
ShowAll-answered n g o four is a b c d =
    ShowAll-four n g (four.0).0.part (four.0).1.part (four.1).0.part (four.1).1.part
    (subst (λ (r : Option FourParts). IfSome r (λ p. IsCounted n g (quadrant_at n 0) (p.0).0)) is a).shows
    (subst (λ (r : Option FourParts). IfSome r (λ p. IsCounted n g (quadrant_at n 1) (p.0).1)) is b).shows
    (subst (λ (r : Option FourParts). IfSome r (λ p. IsCounted n g (quadrant_at n 2) (p.1).0)) is c).shows
    (subst (λ (r : Option FourParts). IfSome r (λ p. IsCounted n g (quadrant_at n 3) (p.1).1)) is d).shows

pub ShowAll-wide : (n : ℕ) (g : Grid) (parts : List Part) → 1 ≤ n → ShowAll n g parts → (i : ℕ) → i < 4 → 2 * width_of (part_in parts i) ≡ side n
ShowAll-wide n g parts some all i lt =
    let s = (all.each i lt).wide in
    let h = (quadrant_is n i some lt).half in
    omega arith

-- the part of a number, as the code has it
pub part_found : (parts : List Part) (i j : ℕ) (part : Part) → length parts ≡ 4 → i < 4 → j ≡ i → part ≡ get_or parts j part → part ≡ part_in parts i
part_found parts i j part four lt at is = is ∙ ap (λ k. get_or parts k part) at ∙ get_or_default parts i part (Single (record { 0 = 0 })) (omega arith)

-- one quadrant more
pub Adds-quadrant : (n i : ℕ) (g : Grid) (part : Part) (old m new : Painted) → 1 ≤ n → n ≤ 12 → i < 4 → length old.colours ≡ 0
    → ShowsBlock n g (quadrant_at n i) part → AddsColours n (colour_at n g) (i * (side n / 2 * (side n / 2))) old m
    → AddsColours n (moved_colour (quadrant_at n i) part) (code_to (quadrant_at n i)) m new → AddsColours n (colour_at n g) ((i + 1) * (side n / 2 * (side n / 2))) old new
Adds-quadrant n i g part old m new some most lt none shows before step =
    let q = quadrant_at n i in
    let h = (quadrant_is n i some lt).block in
    let codes = quadrant_codes n i some most lt in
    let from = codes.from in
    let to = codes.to in
    let long = before.long in
    let big = side_most n most in
    let ix = h.in_x in
    let iy = h.in_y in
    let changed : AddsColours n (colour_at n g) (code_to q) m new =
    Adds-change n (moved_colour q part) (colour_at n g) (code_to q) m new
    (λ p hx hy low high. shows.each p (held_code n q p h most (omega arith) (omega arith) (omega arith) (omega arith) (omega arith) high)) step in
    Adds-then n (colour_at n g) (i * (side n / 2 * (side n / 2))) ((i + 1) * (side n / 2 * (side n / 2))) old m new (omega arith) before
    (subst (λ (k : ℕ). AddsColours n (colour_at n g) k m new) to changed)
