-- What is told of a window of a region layer depends on the pixels of the window alone.
use Rattle.std.proofs.Common.{◌≡◌, ℕ, ◌+◌, ◌<◌, Bool, true, List, [], ◌∷◌, ◌++◌, map, flat_map, refl, sym, ◌∙◌, ap, subst}
use Rattle.std.proofs.Common.{⊎_elim, Contains, arith}
use Rattle.std.specs.Prelude.{if◌then◌else◌}
use Rattle.std.proofs.lemmas.Bool.{cases_Bool, and_from, le-leb, lt-ltb}
use Rattle.quilt_types.specs.declared.plane.Window.{Window}
use Rattle.quilt_types.specs.Algebra.{cut_to}
use Rattle.quilt_types.specs.Layers.{Grid, colour_at}
use Rattle.quilt_types.specs.Plane.{below, in_window}
use Rattle.quilt_loc.proofs.Members.{Contains-here, Contains-there, Contains-below_from}
use Rattle.quilt_blocks.proofs.Squares.{grid_of-same}
use Rattle.quilt_region.specs.Covers.{AgreesIn}
use Rattle.quilt_replies.specs.Answers.{digits_of, row_line}

pub agrees_at : (m n : ℕ) (w : Window) (g h : Grid) → m ≡ n → AgreesIn m w g h → AgreesIn n w g h
agrees_at m n w g h same agrees = subst (λ (k : ℕ). AgreesIn k w g h) same agrees

-- ---- a layer that is cut to the window
pub cut_same : (n : ℕ) (w : Window) (g h : Grid) → AgreesIn n w g h → cut_to n h w ≡ cut_to n g w
cut_same n w g h agrees =
    grid_of-same n (λ p. if in_window w p then colour_at n h p else 0) (λ p. if in_window w p then colour_at n g p else 0)
    (λ p hx hy.
    ⊎_elim
    (λ t. ap (λ (b : Bool). if b then colour_at n h p else 0) t ∙ agrees.each p t ∙ sym (ap (λ (b : Bool). if b then colour_at n g p else 0) t))
    (λ f. ap (λ (b : Bool). if b then colour_at n h p else 0) f ∙ sym (ap (λ (b : Bool). if b then colour_at n g p else 0) f))
    (cases_Bool (in_window w p)))

-- ---- its rows
module _ {X : Type 0} where
  flat_map_same : {Y : Type 0} (f g : X → List Y) (xs : List X) → ((x : X) → Contains xs x → f x ≡ g x) → flat_map f xs ≡ flat_map g xs
  flat_map_same f g [] same = refl
  flat_map_same f g (x ∷ xs) same =
      let here = same x (Contains-here x xs) in
      let more = flat_map_same f g xs (λ y c. same y (Contains-there x xs y c)) in
      λ i. here i ++ more i

  map_same : {Y : Type 0} (f g : X → Y) (xs : List X) → ((x : X) → Contains xs x → f x ≡ g x) → map f xs ≡ map g xs
  map_same f g [] same = refl
  map_same f g (x ∷ xs) same =
      let here = same x (Contains-here x xs) in
      let more = map_same f g xs (λ y c. same y (Contains-there x xs y c)) in
      λ i. here i ∷ more i

in_window-at : (w : Window) (dx dy : ℕ) → dx < w.w → dy < w.h → in_window w (record { x = w.x + dx; y = w.y + dy }) ≡ true
in_window-at w dx dy hx hy =
    and_from _ _
    (and_from _ _ (and_from _ _ (le-leb w.x (w.x + dx) (omega arith)) (lt-ltb (w.x + dx) (w.x + w.w) (omega arith))) (le-leb w.y (w.y + dy) (omega arith)))
    (lt-ltb (w.y + dy) (w.y + w.h) (omega arith))

pub rows_same : (f n : ℕ) (w : Window) (g h : Grid) → AgreesIn n w g h → map (row_line f n h w) (below w.h) ≡ map (row_line f n g w) (below w.h)
rows_same f n w g h agrees =
    map_same (row_line f n h w) (row_line f n g w) (below w.h)
    (λ dy c. flat_map_same _ _ (below w.w)
    (λ dx d. ap (digits_of f) (agrees.each _ (in_window-at w dx dy (Contains-below_from w.w dx d) (Contains-below_from w.h dy c)))))
