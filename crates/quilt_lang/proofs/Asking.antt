-- What lines ask for, and what they hold.
use Rattle.std.proofs.Common.{◌≡◌, ℕ, zero, suc, ◌^◌, ◌<◌, ◌≤◌, ◌==◌, ◌||◌, not, Bool, true, false, List, [], ◌∷◌, length, map, None, codes, cond, refl, sym}
use Rattle.std.proofs.Common.{◌∙◌, ap, subst, arith, inl, inr}
use Rattle.std.specs.List.{list_all}
use Rattle.std.specs.Str.{bytes_eq}
use Rattle.std.proofs.lemmas.Slice.Eq.{bytes_eq-Decides}
use Rattle.std.proofs.lemmas.Bool.{eqb-true, ne_eqb, or_parts, or_right, or_from, cases_Bool}
use Rattle.std.proofs.lemmas.List.{length-map}
use Rattle.std.proofs.Math.Nat.{pow-le-pow_right}
use Rattle.quilt_types.specs.Plane.{side}
use Rattle.quilt_words.specs.declared.item.Item.{Item}
use Rattle.quilt_words.specs.declared.item.Item.TheVariants.{Long, Line, Rows, PointLines, RingLines}
use Rattle.quilt_lang.specs.declared.asked.Asked.{Asked}
use Rattle.quilt_lang.specs.declared.asked.Asked.TheVariants as kinds
use Rattle.quilt_words.specs.Items.{Group, asked, asked_by, begins_with, held, held_as, is_long, is_plain, listed_by, words_of, rows_of, rows_joined, points_of}
use Rattle.quilt_words.specs.Items.{points_joined, rings_of, rings_joined}
use Rattle.quilt_lang.specs.Cutting.{IsAsked, grouped, holding}
use Rattle.quilt_lang.proofs.LineLaws.{asked_long}
use Rattle.quilt_lang.proofs.Long.{long_item, short_item}

-- a side that numbers of 64 bits have, and one that they have not
pub near_side : (n : ℕ) → n ≤ 63 → 2 ^ n < 2 ^ 64
near_side n few = let most : 2 ^ n ≤ 2 ^ 63 = pow-le-pow_right {n = 2} (omega arith) {i = n} {j = 63} few in omega (arith, most)

pub far_side : (n k : ℕ) → 63 < n → k < 2 ^ 64 → (k == 2 ^ n) ≡ false
far_side n k past small = let least : 2 ^ 64 ≤ 2 ^ n = pow-le-pow_right {n = 2} (omega arith) {i = 64} {j = n} (omega (arith, past)) in
    ne_eqb k (2 ^ n) (λ e. omega (arith, e, least, small))

-- the words of a raster, and others
pub asks_rows : (n : ℕ) (ws : List (List ℕ)) → begins_with ws (codes "raster") ≡ true → IsAsked n (asked_by n ws) ws kinds.Rows
asks_rows n [] first = absurd (let bad : false ≡ true = first in cc)
asks_rows n (w ∷ ws) first = record { number = ap (λ (b : Bool). cond {A = ℕ} b (side n) (listed_by (w ∷ ws))) first; kind = first }

asks_listed : (n : ℕ) (ws : List (List ℕ)) → begins_with ws (codes "raster") ≡ false → asked_by n ws ≡ listed_by ws
asks_listed n [] other = refl
asks_listed n (w ∷ ws) other = ap (λ (b : Bool). cond {A = ℕ} b (side n) (listed_by (w ∷ ws))) other

rings_word : (ws : List (List ℕ)) → 0 < listed_by ws → begins_with ws (codes "scatter") ≡ false → begins_with ws (codes "polygon") ≡ true
rings_word [] some other = absurd (omega (arith, some))
rings_word (w ∷ []) some other = absurd (omega (arith, some))
rings_word (w ∷ p ∷ []) some other = absurd (omega (arith, some))
rings_word (w ∷ p ∷ k ∷ []) some other = let none : 0 < 0 = rw other at some in absurd (omega (arith, none))
rings_word (w ∷ p ∷ c ∷ k ∷ []) some other = elim (cases_Bool (bytes_eq w (codes "polygon"))) [
  | inl is ↦ is
  | inr not_ ↦ let none : 0 < 0 = rw not_ at some in absurd (omega (arith, none))
]
rings_word (w ∷ p ∷ c ∷ k ∷ l ∷ ws) some other = absurd (omega (arith, some))

pub asks_none : (n : ℕ) (ws : List (List ℕ)) (k : ℕ) → begins_with ws (codes "raster") ≡ false → k ≡ listed_by ws → k ≡ 0
    → IsAsked n (asked_by n ws) ws kinds.Nothing
asks_none n ws k other is none = record { number = asks_listed n ws other ∙ sym is ∙ none; kind = tt }

pub asks_points : (n : ℕ) (ws : List (List ℕ)) (k : ℕ) → begins_with ws (codes "raster") ≡ false → k ≡ listed_by ws → 0 < k
    → begins_with ws (codes "scatter") ≡ true →
    IsAsked n (asked_by n ws) ws (kinds.Points k)
asks_points n ws k other is some first = record { number = asks_listed n ws other ∙ sym is; kind = (some, first) }

pub asks_rings : (n : ℕ) (ws : List (List ℕ)) (k : ℕ) → begins_with ws (codes "raster") ≡ false → k ≡ listed_by ws → 0 < k
    → begins_with ws (codes "scatter") ≡ false →
    IsAsked n (asked_by n ws) ws (kinds.Rings k)
asks_rings n ws k other is some no_list = record { number = asks_listed n ws other ∙ sym is; kind = (some, rings_word ws (omega (arith, is, some)) no_list) }

-- what a line asks for
pub line_long : (n : ℕ) (line : List ℕ) → is_long line ≡ true → IsAsked n (asked n line) (words_of line) kinds.Nothing
line_long n line long = record { number = asked_long n line long; kind = tt }

pub line_odd : (n : ℕ) (line : List ℕ) → list_all is_plain line ≡ false → IsAsked n (asked n line) (words_of line) kinds.Nothing
line_odd n line odd = record {
  number = ap (λ (b : Bool). cond {A = ℕ} b 0 (asked_by n (words_of line))) (or_right (is_long line) (not (list_all is_plain line)) (ap not odd));
  kind = tt;
}

pub line_asks : (n : ℕ) (line : List ℕ) (ws : List (List ℕ)) (what : Asked) → is_long line ≡ false → list_all is_plain line ≡ true
    → IsAsked n (asked_by n ws) ws what → ws ≡ words_of line →
    IsAsked n (asked n line) (words_of line) what
line_asks n line ws what short plain is same =
    let P : List (List ℕ) → Type 0 = λ (x : List (List ℕ)). IsAsked n (asked_by n x) x what in
    let by : IsAsked n (asked_by n (words_of line)) (words_of line) what = subst P same is in
    record {
      number = ap (λ (b : Bool). cond {A = ℕ} b 0 (asked_by n (words_of line)))
          (or_from (is_long line) (not (list_all is_plain line)) short (ap not plain)) ∙ by.number;
      kind = by.kind;
    }

-- a line whose first word asks for no further lines
none_listed : (w : List ℕ) (ws : List (List ℕ)) → bytes_eq w (codes "scatter") ≡ false → bytes_eq w (codes "polygon") ≡ false → listed_by (w ∷ ws) ≡ 0
none_listed w [] points rings = refl
none_listed w (p ∷ []) points rings = refl
none_listed w (p ∷ k ∷ []) points rings = rw points refl
none_listed w (p ∷ c ∷ k ∷ []) points rings = rw rings refl
none_listed w (p ∷ c ∷ k ∷ l ∷ ws) points rings = refl

pub none_asked : (n : ℕ) (ws : List (List ℕ)) →
    (begins_with ws (codes "raster") || begins_with ws (codes "scatter") || begins_with ws (codes "polygon")) ≡ false → asked_by n ws ≡ 0
none_asked n [] other = refl
none_asked n (w ∷ ws) other =
    let rings = or_parts (bytes_eq w (codes "raster") || bytes_eq w (codes "scatter")) (bytes_eq w (codes "polygon")) other in
    let points = or_parts (bytes_eq w (codes "raster")) (bytes_eq w (codes "scatter")) rings.0 in
    asks_listed n (w ∷ ws) points.0 ∙ none_listed w ws points.1 rings.1

zero_either : (b : Bool) (k : ℕ) → k ≡ 0 → cond {A = ℕ} b 0 k ≡ 0
zero_either true k none = refl
zero_either false k none = none

pub line_other : (n : ℕ) (line : List ℕ) →
    (begins_with (words_of line) (codes "raster") || begins_with (words_of line) (codes "scatter") || begins_with (words_of line) (codes "polygon")) ≡ false →
    IsAsked n (asked n line) (words_of line) kinds.Nothing
line_other n line other = record {
  number = zero_either (is_long line || not (list_all is_plain line)) (asked_by n (words_of line)) (none_asked n (words_of line) other);
  kind = tt;
}

-- a word that stands first, and another
pub other_word : (ws : List (List ℕ)) (a b : List ℕ) → begins_with ws a ≡ true → bytes_eq a b ≡ false → begins_with ws b ≡ false
other_word [] a b first other = refl
other_word (w ∷ ws) a b first other = let P : List ℕ → Type 0 = λ (x : List ℕ). bytes_eq x b ≡ false in subst P (sym ((bytes_eq-Decides w a).0 first)) other

-- what a line holds with its further lines
as_none : (f n k : ℕ) (group : Group) → k ≡ 0 → held_as f n k group ≡ Line group.line
as_none f n k group none = ap (λ (x : ℕ). held_as f n x group) none

as_rows : (f n k : ℕ) (group : Group) → 0 < k → begins_with (words_of group.line) (codes "raster") ≡ true
    → held_as f n k group ≡ Rows group.line (rows_of f n group.more)
as_rows f n zero group some first = absurd (omega (arith, some))
as_rows f n (suc k) group some first = rw first refl

as_points : (f n k : ℕ) (group : Group) → 0 < k → begins_with (words_of group.line) (codes "raster") ≡ false
    → begins_with (words_of group.line) (codes "scatter") ≡ true →
    held_as f n k group ≡ PointLines group.line (points_of k group.more)
as_points f n zero group some other first = absurd (omega (arith, some))
as_points f n (suc k) group some other first = rw (other, first) refl

as_rings : (f n k : ℕ) (group : Group) → 0 < k → begins_with (words_of group.line) (codes "raster") ≡ false
    → begins_with (words_of group.line) (codes "scatter") ≡ false →
    held_as f n k group ≡ RingLines group.line (rings_of k group.more)
as_rings f n zero group some other no_list = absurd (omega (arith, some))
as_rings f n (suc k) group some other no_list = rw (other, no_list) refl

pub some_side : (n : ℕ) → 0 < 2 ^ n
some_side n = let least : 2 ^ 0 ≤ 2 ^ n = pow-le-pow_right {n = 2} (omega arith) {i = 0} {j = n} (omega arith) in omega (arith, least)

as_holding : (f n k : ℕ) (group : Group) (what : Asked) → IsAsked n k (words_of group.line) what → held_as f n k group ≡ holding f n group.line group.more what
as_holding f n k group kinds.Nothing is = as_none f n k group is.number
as_holding f n k group kinds.Rows is = as_rows f n k group (omega (arith, is.number, some_side n)) is.kind
as_holding f n k group (kinds.Points m) is =
    as_points f n k group (omega (arith, is.number, is.kind.0)) (other_word (words_of group.line) (codes "scatter") (codes "raster") is.kind.1 refl) is.kind.1
    ∙ ap (λ (x : ℕ). PointLines group.line (points_of x group.more)) is.number
as_holding f n k group (kinds.Rings m) is =
    as_rings f n k group (omega (arith, is.number, is.kind.0)) (other_word (words_of group.line) (codes "polygon") (codes "raster") is.kind.1 refl)
    (other_word (words_of group.line) (codes "polygon") (codes "scatter") is.kind.1 refl)
    ∙ ap (λ (x : ℕ). RingLines group.line (rings_of x group.more)) is.number

pub holds_long : (f n : ℕ) (line : List ℕ) (more : List (List ℕ)) → is_long line ≡ true → Long ≡ held f n (grouped line more)
holds_long f n line more long = sym (long_item f n (grouped line more) long)

pub holds : (f n : ℕ) (line : List ℕ) (more : List (List ℕ)) (what : Asked) (item : Item) → is_long line ≡ false
    → IsAsked n (asked n line) (words_of line) what →
    item ≡ holding f n line more what → item ≡ held f n (grouped line more)
holds f n line more what item short asks is =
    is ∙ sym (short_item f n (grouped line more) short ∙ as_holding f n (asked n line) (grouped line more) what asks)

-- further lines that are all there, and others
pub rows_all : {X : Type 0} (f n : ℕ) (g : X → List ℕ) (xs : List X) → (length xs == side n) ≡ true
    → rows_joined f (length xs) (map g xs) ≡ rows_of f n (map g xs)
rows_all f n g xs all =
    let same : length xs ≡ side n = eqb-true (length xs) (side n) all in
    ap (λ (k : ℕ). rows_joined f k (map g xs)) same
    ∙ sym (ap (λ (b : Bool). cond b (rows_joined f (side n) (map g xs)) None) (ap (λ (k : ℕ). k == side n) (length-map xs g) ∙ all))

pub rows_other : {X : Type 0} (f n : ℕ) (g : X → List ℕ) (xs : List X) → (length xs == side n) ≡ false → None ≡ rows_of f n (map g xs)
rows_other f n g xs other = sym (ap (λ (b : Bool). cond b (rows_joined f (side n) (map g xs)) None) (ap (λ (k : ℕ). k == side n) (length-map xs g) ∙ other))

pub points_some : {X : Type 0} (k : ℕ) (g : X → List ℕ) (xs : List X) (b : Bool) → (length xs == k) ≡ b
    → points_of k (map g xs) ≡ cond b (points_joined (map g xs)) None
points_some k g xs b is = ap (λ (x : Bool). cond x (points_joined (map g xs)) None) (ap (λ (m : ℕ). m == k) (length-map xs g) ∙ is)

pub rings_some : {X : Type 0} (k : ℕ) (g : X → List ℕ) (xs : List X) (b : Bool) → (length xs == k) ≡ b
    → rings_of k (map g xs) ≡ cond b (rings_joined (map g xs)) None
rings_some k g xs b is = ap (λ (x : Bool). cond x (rings_joined (map g xs)) None) (ap (λ (m : ℕ). m == k) (length-map xs g) ∙ is)
