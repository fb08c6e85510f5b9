-- Rows of a window out of its painted cells.
use Rattle.std.proofs.Common.{◌≡◌, ℕ, zero, suc, ◌+◌, ◌-◌, ◌*◌, ◌^◌, ◌<◌, ◌≤◌, List, [], ◌++◌, flat_map, map, get_or, refl, sym, ◌∙◌, ap, ap₂, subst}
use Rattle.std.proofs.Common.{arith, append_assoc}
use Rattle.std.proofs.Math.Nat.{mul-le-mul_right}
use Rattle.std.proofs.lemmas.List.{flat_map_more, append-nil}
use Rattle.quilt_types.specs.declared.plane.Pixel.{Pixel}
use Rattle.quilt_types.specs.declared.plane.Window.{Window}
use Rattle.quilt_types.specs.declared.plane.Block.{Block}
use Rattle.quilt_types.specs.Plane.{whole, below}
use Rattle.quilt_types.specs.Layers.{Grid, colour_at}
use Rattle.quilt_loc.specs.Codes.{code_from, code_to}
use Rattle.quilt_loc.proofs.Intervals.{origin_code}
use Rattle.quilt_blocks.proofs.Squares.{code_to-whole}
use Rattle.quilt_raster.specs.Painting.{IsIn, place_of, ArePainted}
use Rattle.quilt_raster.specs.Showing.{colour_digits, window_row, written_in}
use Rattle.quilt_raster.proofs.Points.{below_more}
use Rattle.quilt_raster.proofs.Written.{colour_at-written}

-- nothing is painted before the first code
pub ArePainted-none : (n k : ℕ) (g : Grid) (w : Window) (b : Block) (cells : List ℕ) → b ≡ whole k → ArePainted n g w (code_from b) cells
ArePainted-none n k g w b cells is = record { each = λ p i lt. let z : code_from b ≡ 0 = ap code_from is ∙ origin_code in absurd (omega arith) }

-- all codes of the square
pub ArePainted-all : (n k : ℕ) (g : Grid) (w : Window) (b : Block) (cells : List ℕ) → k ≡ n → b ≡ whole k → ArePainted n g w (code_to b) cells
    → ArePainted n g w (4 ^ n) cells
ArePainted-all n k g w b cells level is h =
    let end : code_to b ≡ 4 ^ n = ap code_to (is ∙ ap whole level) ∙ code_to-whole n in
    subst (λ (e : ℕ). ArePainted n g w e cells) end h

-- a place in a row of a window, and all rows
pub in_rows : (dy dx w h : ℕ) → dy < h → dx < w → dy * w + dx < w * h
in_rows dy dx w h lt in_row = let m : (dy + 1) * w ≤ h * w = mul-le-mul_right w (let e : dy + 1 ≤ h = omega arith in e) in omega arith

-- one number more
pub flat_map_below : (f : ℕ → List ℕ) (start : List ℕ) (k : ℕ) → (start ++ flat_map f (below k)) ++ f k ≡ start ++ flat_map f (below (k + 1))
flat_map_below f start k = flat_map_more f start (below k) k ∙ ap (λ l. start ++ flat_map f l) (sym (below_more k))

below_same : (f g : ℕ → List ℕ) (k : ℕ) → ((i : ℕ) → i < k → f i ≡ g i) → flat_map f (below k) ≡ flat_map g (below k)
below_same f g zero same = refl
below_same f g (suc k) same =
    let e : suc k ≡ k + 1 = omega arith in
    ap (λ j. flat_map f (below j)) e ∙ sym (flat_map_below f [] k)
    ∙ ap₂ (λ a b. a ++ b) (below_same f g k (λ i lt. same i (omega arith))) (same k (omega arith))
    ∙ flat_map_below g [] k ∙ ap (λ j. flat_map g (below j)) (sym e)

-- a row as its cells have it
pub row_painted : (f n : ℕ) (g : Grid) (w : Window) (cells : List ℕ) (dy : ℕ) → dy < w.h
    → ((p : Pixel) → IsIn w p → get_or cells (place_of w p) 0 ≡ colour_at n g p)
    → flat_map (λ dx. colour_digits f (written_in f (get_or cells (dy * w.w + dx) 0))) (below w.w) ≡ window_row f n (map (written_in f) g) w dy
unfolding window_row
row_painted f n g w cells dy lt painted =
    below_same (λ dx. colour_digits f (written_in f (get_or cells (dy * w.w + dx) 0)))
    (λ dx. colour_digits f (colour_at n (map (written_in f) g) (record { x = w.x + dx; y = w.y + dy }))) w.w
    (λ dx in_row.
    let p : Pixel = record { x = w.x + dx; y = w.y + dy } in
    let row : w.y + dy - w.y ≡ dy = omega arith in
    let column : w.x + dx - w.x ≡ dx = omega arith in
    let at : place_of w p ≡ dy * w.w + dx = ap₂ (λ a b. a * w.w + b) row column in
    let held : IsIn w p = record { left = omega arith; right = omega arith; top = omega arith; bottom = omega arith } in
    ap (λ c. colour_digits f (written_in f c)) (ap (λ k. get_or cells k 0) (sym at) ∙ painted p held)
    ∙ ap (colour_digits f) (sym (colour_at-written f n g p)))

-- a row of a window that stands in another
pub row_within : (f n : ℕ) (g : Grid) (s w : Window) (i j : ℕ) → s.x ≡ w.x → s.w ≡ w.w → s.y + i ≡ w.y + j → window_row f n g s i ≡ window_row f n g w j
unfolding window_row
row_within f n g s w i j ex ew ey = λ k. flat_map (λ dx. colour_digits f (colour_at n g (record { x = ex k + dx; y = ey k }))) (below (ew k))

-- rows behind others
pub rows_joined : (f g : ℕ → List ℕ) (a k : ℕ) → ((i : ℕ) → i < k → g i ≡ f (a + i))
    → flat_map f (below a) ++ flat_map g (below k) ≡ flat_map f (below (a + k))
rows_joined f g a zero same = append-nil (flat_map f (below a)) ∙ (let e : a ≡ a + 0 = omega arith in ap (λ j. flat_map f (below j)) e)
rows_joined f g a (suc k) same =
    let e : suc k ≡ k + 1 = omega arith in
    let next : a + k + 1 ≡ a + suc k = omega arith in
    ap (λ j. flat_map f (below a) ++ flat_map g (below j)) e
    ∙ ap (λ l. flat_map f (below a) ++ l) (sym (flat_map_below g [] k))
    ∙ sym (append_assoc (flat_map f (below a)) (flat_map g (below k)) (g k))
    ∙ ap₂ (λ (l m : List ℕ). l ++ m) (rows_joined f g a k (λ i lt. same i (omega arith))) (same k (omega arith))
    ∙ flat_map_below f [] (a + k) ∙ ap (λ j. flat_map f (below j)) next
