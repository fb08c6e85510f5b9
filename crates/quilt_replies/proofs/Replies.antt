-- The texts of replies, line by line.
use Rattle.std.proofs.Common.{◌≡◌, ℕ, zero, suc, ◌+◌, ◌-◌, ◌/◌, ◌%◌, ◌^◌, ◌<◌, ◌≤◌, List, [], ◌∷◌, ◌++◌, map, flat_map, Result, Ok, Err, refl, sym, ◌∙◌, ap}
use Rattle.std.proofs.Common.{subst, arith, append_assoc}
use Rattle.std.specs.Prelude.{IfOk, reverse, count_by, codes, decimal, slice_index, ◌==◌, if◌then◌else◌}
use Rattle.std.specs.List.{range_with_len}
use Rattle.std.proofs.lemmas.List.{append-nil, reverse-append}
use Rattle.std.proofs.lemmas.Grind.{flat_map-append}
use Rattle.std.proofs.lemmas.Fmt.{decimal_step}
use Rattle.quilt_types.specs.declared.plane.Window.{Window}
use Rattle.quilt_types.specs.Layers.{Layer, Region, Points, Lines, Map, IsGrid, colour_at}
use Rattle.quilt_types.specs.Plane.{side, below}
use Rattle.quilt_record.specs.Records.{Numbering}
use Rattle.quilt_spell.specs.Catalogued.{kind_of, catalog_entry, IsCatalogOf}
use Rattle.std.specs.FinMap as finmap
use Rattle.quilt_record.specs.declared.entry.Entry.{Entry}
use Rattle.quilt_raster.specs.Showing as raster
use Rattle.quilt_lang.specs.Trials.{spaced}
use Rattle.quilt_replies.specs.Answers.{Done, block_lines, kind_words, layer_line, digits_of, row_line}
use Rattle.quilt_replies.specs.Bodies.{lines, words_of_kind, entry_line, HasCounts}
use Rattle.quilt_replies.specs.Runs.{text_of}
use Rattle.quilt_types.proofs.Lists.{range_more}

-- the text of a reply, where its body was put together
pub finished : {E : Type 0} (r : Result (List ℕ) E) (text : List ℕ) (body : List (List ℕ))
    → IfOk r (λ all. (b : List (List ℕ)) → text ≡ lines b → all ≡ text_of (Done b)) → text ≡ lines body → IfOk r (λ all. all ≡ text_of (Done body))
finished (Ok all) text body h is = h body is
finished (Err e) text body h is = tt

-- ---- a text that grew by pieces
pub grown_one : (t0 t1 a : List ℕ) → t0 ≡ [] → t1 ≡ t0 ++ a → t1 ≡ a
grown_one t0 t1 a e f = f ∙ ap (λ t. t ++ a) e

pub grown_more : (t0 t1 a b : List ℕ) → t0 ≡ a → t1 ≡ t0 ++ b → t1 ≡ a ++ b
grown_more t0 t1 a b e f = f ∙ ap (λ t. t ++ b) e

-- a number by another name
pub pushed : (t0 t1 : List ℕ) (m n : ℕ) → t1 ≡ t0 ++ decimal m → m ≡ n → t1 ≡ t0 ++ decimal n
pushed t0 t1 m n e same = e ∙ ap (λ k. t0 ++ decimal k) same

-- the digits of a number but the last, and the last
pub digit_more : (t0 t1 t2 : List ℕ) (n : ℕ) → 10 ≤ n → n < 2 ^ 64 → t1 ≡ t0 ++ decimal (n / 10) → t2 ≡ t1 ++ (48 + n % 10) ∷ [] → t2 ≡ t0 ++ decimal n
digit_more t0 t1 t2 n long small e f =
    f ∙ ap (λ t. t ++ (48 + n % 10) ∷ []) e ∙ append_assoc t0 (decimal (n / 10)) ((48 + n % 10) ∷ []) ∙ ap (λ t. t0 ++ t) (sym (decimal_step n long small))

pub one_line : (l : List ℕ) → lines (l ∷ []) ≡ l ++ 10 ∷ []
one_line l = append-nil (l ++ 10 ∷ [])

-- a text of one line
pub alone : (t0 t1 l : List ℕ) → t0 ≡ [] → t1 ≡ t0 ++ l ++ 10 ∷ [] → t1 ≡ lines (l ∷ [])
alone t0 t1 l e f = f ∙ ap (λ t. t ++ l ++ 10 ∷ []) e ∙ sym (one_line l)

pub number_line : (n : ℕ) (t0 t1 t2 : List ℕ) → t0 ≡ [] → t1 ≡ t0 ++ decimal n → t2 ≡ t1 ++ 10 ∷ [] → t2 ≡ lines (decimal n ∷ [])
number_line n t0 t1 t2 e f g = grown_more t1 t2 (decimal n) (10 ∷ []) (grown_one t0 t1 (decimal n) e f) g ∙ sym (one_line (decimal n))

pub edition_line : (n : ℕ) (t0 t1 t2 t3 : List ℕ) → t0 ≡ [] → t1 ≡ t0 ++ codes "edition " → t2 ≡ t1 ++ decimal n → t3 ≡ t2 ++ 10 ∷ []
    → t3 ≡ lines (spaced (codes "edition" ∷ decimal n ∷ []) ∷ [])
edition_line n t0 t1 t2 t3 e f g h =
    grown_more t2 t3 (codes "edition " ++ decimal n) (10 ∷ []) (grown_more t1 t2 (codes "edition ") (decimal n) (grown_one t0 t1 (codes "edition ") e f) g) h
    ∙ sym (one_line (spaced (codes "edition" ∷ decimal n ∷ [])))

pub records_line : (r q : ℕ) (t0 t1 t2 t3 t4 : List ℕ) → t0 ≡ [] → t1 ≡ t0 ++ decimal r → t2 ≡ t1 ++ codes " of " → t3 ≡ t2 ++ decimal q → t4 ≡ t3 ++ 10 ∷ []
    → t4 ≡ lines (spaced (decimal r ∷ codes "of" ∷ decimal q ∷ []) ∷ [])
records_line r q t0 t1 t2 t3 t4 e f g h k =
    grown_more t3 t4 ((decimal r ++ codes " of ") ++ decimal q) (10 ∷ [])
    (grown_more t2 t3 (decimal r ++ codes " of ") (decimal q) (grown_more t1 t2 (decimal r) (codes " of ") (grown_one t0 t1 (decimal r) e f) g) h) k
    ∙ ap (λ l. l ++ 10 ∷ []) (append_assoc (decimal r) (codes " of ") (decimal q))
    ∙ sym (one_line (spaced (decimal r ∷ codes "of" ∷ decimal q ∷ [])))

-- the line of a side that occurs
abbrev pub count_lines : ℕ → ℕ → List (List ℕ)
count_lines k count = if count == 0 then [] else spaced (decimal (side k) ∷ decimal count ∷ []) ∷ []

-- the lines of the sides from the greatest down to this one stand in the text
pub record IsCounting (level : ℕ) (counts : List ℕ) (k : ℕ) (text : List ℕ) : Type 0 where
  pub most : k ≤ level + 1
  pub rest : lines (flat_map (λ j. count_lines j (slice_index counts j)) (reverse (below (level + 1)))) ≡ text
      ++ lines (flat_map (λ j. count_lines j (slice_index counts j)) (reverse (below k)))

-- the numbers below a number from the greatest down
pub reverse_below : (k : ℕ) → reverse (below (suc k)) ≡ k ∷ reverse (below k)
reverse_below k =
    ap reverse (range_more 0 k ∙ (let e : 0 + k ≡ k = omega arith in ap (λ z. range_with_len 0 k ++ z ∷ []) e))
    ∙ reverse-append (range_with_len 0 k) (k ∷ [])

module _ (counts : List ℕ) where
  line_at : ℕ → List (List ℕ)
  line_at j = count_lines j (slice_index counts j)

  pub counting_starts : (level : ℕ) → IsCounting level counts (level + 1) []
  counting_starts level = record { most = omega arith; rest = refl }

  counting_step : (level j : ℕ) (text more : List ℕ) → IsCounting level counts (suc j) text
      → more ≡ text ++ lines (count_lines j (slice_index counts j)) → IsCounting level counts j more
  counting_step level j text more h is = record {
    most = (let m = h.most in omega arith);
    rest = h.rest ∙ ap (λ (ks : List ℕ). text ++ lines (flat_map (λ i. count_lines i (slice_index counts i)) ks)) (reverse_below j)
        ∙ ap (λ (l : List ℕ). text ++ l)
        (flat_map-append (λ l. l ++ 10 ∷ []) (count_lines j (slice_index counts j))
        (flat_map (λ i. count_lines i (slice_index counts i)) (reverse (below j))))
        ∙ sym (append_assoc text (lines (count_lines j (slice_index counts j)))
        (lines (flat_map (λ i. count_lines i (slice_index counts i)) (reverse (below j)))))
        ∙ ap (λ (l : List ℕ). l ++ lines (flat_map (λ i. count_lines i (slice_index counts i)) (reverse (below j)))) (sym is);
  }

  pub counting_more : (level k place : ℕ) (text more : List ℕ) → IsCounting level counts k text → 0 < k
      → more ≡ text ++ lines (count_lines (k - 1) (slice_index counts place)) → place ≡ k - 1 → IsCounting level counts (k - 1) more
  counting_more level zero place text more h some is at = absurd (let wrong : ⊥ = omega arith in wrong)
  counting_more level (suc j) place text more h some is at =
      let e : suc j - 1 ≡ j = omega arith in
      subst (λ (i : ℕ). IsCounting level counts i more) (sym e)
      (counting_step level j text more h
      (is ∙ ap (λ (i : ℕ). text ++ lines (count_lines (suc j - 1) (slice_index counts i))) at
      ∙ ap (λ (i : ℕ). text ++ lines (count_lines i (slice_index counts i))) e))

  module _ (sides : List ℕ) (h : HasCounts counts sides) where
    same_lines : (k : ℕ) → k ≤ 13 → flat_map (λ j. count_lines j (slice_index counts j)) (reverse (below k))
        ≡ flat_map (λ j. count_lines j (count_by (λ s. s == side j) sides)) (reverse (below k))
    same_lines zero le = refl
    same_lines (suc k) le =
        ap (flat_map (λ j. count_lines j (slice_index counts j))) (reverse_below k)
        ∙ (λ i. count_lines k (h.each k (omega arith) i) ++ same_lines k (omega arith) i)
        ∙ ap (flat_map (λ j. count_lines j (count_by (λ s. s == side j) sides))) (sym (reverse_below k))

    pub counted : (level : ℕ) (text : List ℕ) → level ≤ 12 → IsCounting level counts 0 text → text ≡ lines (block_lines level sides)
    counted level text le c =
        sym (append-nil text) ∙ sym c.rest ∙ ap lines (same_lines (level + 1) (omega arith))

module _ (counts : List ℕ) where
  -- the reply, once the text has the lines of all sides
  pub counted_reply : {E : Type 0} (r : Result (List ℕ) E) (level k : ℕ) (text : List ℕ)
      → IfOk r (λ all. (b : List (List ℕ)) → text ≡ lines b → all ≡ text_of (Done b)) → level ≤ 12 → IsCounting level counts k text → k ≤ 0
      → IfOk r (λ all. (sides : List ℕ) → HasCounts counts sides → all ≡ text_of (Done (block_lines level sides)))
  counted_reply (Ok all) level k text h le c none =
      λ sides is. let z : k ≡ 0 =
      omega arith in h (block_lines level sides) (counted counts sides is level text le (subst (λ (j : ℕ). IsCounting level counts j text) z c))
  counted_reply (Err e) level k text h le c none = tt

-- ---- the lines of layers
kind_line : (l : Layer) → words_of_kind (kind_of l) ≡ kind_words l
kind_line (Region grid) = refl
kind_line (Points capacity points) = refl
kind_line (Lines threshold segs cover) = refl

layer_line_is : (numbers : Numbering) (e : List ℕ × Layer) → entry_line (catalog_entry numbers e) ≡ layer_line e
layer_line_is numbers e = ap (λ (ws : List (List ℕ)). spaced (e.0 ∷ ws)) (kind_line e.1)

map_lines : (numbers : Numbering) (es : List (List ℕ × Layer)) → map entry_line (map (catalog_entry numbers) es) ≡ map layer_line es
map_lines numbers [] = refl
map_lines numbers (e ∷ es) = λ i. layer_line_is numbers e i ∷ map_lines numbers es i

pub listed_reply : {E : Type 0} (r : Result (List ℕ) E) (entries : List Entry) → IfOk r (λ all. all ≡ text_of (Done (map entry_line entries)))
    → IfOk r (λ all. (layers : Map) (numbers : Numbering) → IsCatalogOf layers numbers entries → all ≡ text_of (Done (map layer_line (finmap.entries layers))))
listed_reply (Ok all) entries h =
    λ layers numbers c. h ∙ ap (λ (b : List (List ℕ)). text_of (Done b)) (ap (map entry_line) c.each ∙ map_lines numbers (finmap.entries layers))
listed_reply (Err e) entries h = tt

-- ---- the rows of a window
same_digits : (f c : ℕ) → raster.colour_digits f c ≡ digits_of f c
unfolding raster.colour_digits
same_digits f c = refl

flat_map_same : (f g : ℕ → List ℕ) → ((x : ℕ) → f x ≡ g x) → (xs : List ℕ) → flat_map f xs ≡ flat_map g xs
flat_map_same f g h [] = refl
flat_map_same f g h (x ∷ xs) = λ i. h x i ++ flat_map_same f g h xs i

same_row : (f n : ℕ) (g : List ℕ) (w : Window) (dy : ℕ) → raster.window_row f n g w dy ≡ row_line f n g w dy
unfolding raster.window_row
same_row f n g w dy = flat_map_same _ _ (λ dx. same_digits f (colour_at n g (record { x = w.x + dx; y = w.y + dy }))) (below w.w)

same_rows : (f n : ℕ) (g : List ℕ) (w : Window) (ys : List ℕ) → map (raster.window_row f n g w) ys ≡ map (row_line f n g w) ys
same_rows f n g w [] = refl
same_rows f n g w (y ∷ ys) = λ i. same_row f n g w y i ∷ same_rows f n g w ys i

pub shown_reply : {E : Type 0} (r : Result (List ℕ) E) (text : List ℕ) (f n : ℕ) (g : List ℕ) (w : Window) (ys : List ℕ)
    → IfOk r (λ all. (b : List (List ℕ)) → text ≡ lines b → all ≡ text_of (Done b))
    → (IsGrid f n g → text ≡ lines (map (raster.window_row f n g w) ys)) → IfOk r (λ all. IsGrid f n g → all ≡ text_of (Done (map (row_line f n g w) ys)))
shown_reply (Ok all) text f n g w ys h is = λ grid. h (map (row_line f n g w) ys) (is grid ∙ ap lines (same_rows f n g w ys))
shown_reply (Err e) text f n g w ys h is = tt
