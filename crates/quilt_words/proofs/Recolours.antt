-- The pairs of a recolouring, as the table's arguments read them.
use Rattle.std.proofs.Common.{◌≡◌, ℕ, zero, suc, ◌+◌, ◌-◌, ◌*◌, ◌/◌, ◌<◌, true, List, [], ◌∷◌, ◌++◌, length, map, drop, get_or, append_assoc, drop-cons}
use Rattle.std.proofs.Common.{flat_map, Option, Some, None, Result, Ok, Err, option_map, refl, sym, ◌∙◌, ap, arith}
use Rattle.std.specs.List.{range_with_len}
use Rattle.quilt_types.specs.declared.plane.Colour.{Colour}
use Rattle.quilt_types.specs.declared.code.Code.{Code}
use Rattle.quilt_types.specs.declared.code.Code.TheVariants as codes_of
use Rattle.quilt_types.specs.Layers.{colours}
use Rattle.quilt_words.specs.declared.command.Command.{Command}
use Rattle.quilt_words.specs.declared.command.Command.TheVariants as commands
use Rattle.quilt_words.specs.Forms.{or_err, ◌>>=◌, argument_value, values_of}
use Rattle.quilt_words.specs.Table.{Argument, A_name, Value, Called, Number, Further, colour, pairs_of, recolour_command}
use Rattle.quilt_words.specs.Made.{recoloured_command, has_pairs}
use Rattle.std.proofs.lemmas.List.{length-map}
use Rattle.quilt_words.specs.Pairs.{pairs_in, ReadsPair}
use Rattle.quilt_words.specs.Spelling.{number, name}

-- the colours that so many pairs have
abbrev pub paired : ℕ → ℕ → ℕ → List Argument
paired f k m = flat_map (λ i. colour f ∷ colour f ∷ []) (range_with_len k m)

-- the values of pairs are the pairs that the words spell
abbrev SamePairs : Result (List Value) Code → Result (List (Colour × Colour)) Code → Type 0
SamePairs vs ps = (vs >>= λ v. Ok (pairs_of v)) ≡ ps

one_pair : (f : ℕ) (a b : Option ℕ) (vs : Result (List Value) Code) (ps : Result (List (Colour × Colour)) Code) → SamePairs vs ps →
    SamePairs
    (or_err codes_of.Number (option_map Number a) >>= λ v. (or_err codes_of.Number (option_map Number b) >>= λ w. vs >>= λ rest. Ok (w ∷ rest))
    >>= λ rest. Ok (v ∷ rest))
    (or_err codes_of.Number a >>= λ x. or_err codes_of.Number b >>= λ y. ps >>= λ rest. Ok ((record { 0 = x }, record { 0 = y }) ∷ rest))
one_pair f None b vs ps so = refl
one_pair f (Some x) None vs ps so = refl
one_pair f (Some x) (Some y) (Err e) ps so = rw (sym so) refl
one_pair f (Some x) (Some y) (Ok vs) ps so = rw (sym so) refl

pub same_pairs : (f k m : ℕ) (ws : List (List ℕ)) → length ws ≡ 2 * m → SamePairs (values_of (paired f k m) ws) (pairs_in f ws)
unfolding argument_value
same_pairs f k zero [] size = refl
same_pairs f k zero (w ∷ ws) size = absurd (omega (arith, size))
same_pairs f k (suc m) [] size = absurd (omega (arith, size))
same_pairs f k (suc m) (o ∷ []) size = absurd (omega (arith, size))
same_pairs f k (suc m) (o ∷ n ∷ ws) size =
    one_pair f (number 0 (colours f - 1) o) (number 0 (colours f - 1) n) (values_of (paired f (k + 1) m) ws) (pairs_in f ws)
    (same_pairs f (k + 1) m ws (omega (arith, size)))

-- two layers and pairs
abbrev pub recolours : ℕ → List ℕ → List ℕ → List (List ℕ) → Result Command Code
recolours f a c ws = or_err codes_of.Name (name a) >>= λ x. or_err codes_of.Name (name c) >>= λ y. pairs_in f ws >>= λ ps. Ok (commands.Recolour x y ps)

with_names : (f : ℕ) (more : Further) (a c : Option (List ℕ)) (vs : Result (List Value) Code) (ps : Result (List (Colour × Colour)) Code) → SamePairs vs ps →
    ((or_err codes_of.Name (option_map Called a) >>= λ v. (or_err codes_of.Name (option_map Called c) >>= λ w. vs >>= λ rest. Ok (w ∷ rest))
    >>= λ rest. Ok (v ∷ rest))
    >>= λ all. or_err codes_of.Word (recolour_command more all))
    ≡ (or_err codes_of.Name a >>= λ x. or_err codes_of.Name c >>= λ y. ps >>= λ pairs. Ok (commands.Recolour x y pairs))
with_names f more None c vs ps so = refl
with_names f more (Some x) None vs ps so = refl
with_names f more (Some x) (Some y) (Err e) ps so = rw (sym so) refl
with_names f more (Some x) (Some y) (Ok vs) ps so = rw (sym so) refl

-- an even number from 4 to 34 is two and twice some number
pub pair_number : (count : ℕ) → has_pairs count ≡ true → count ≡ 2 + 2 * ((count - 2) / 2)
pair_number count is = grind arith

pub recoloured_is : (f : ℕ) (more : Further) (a c : List ℕ) (ws : List (List ℕ)) → has_pairs (length (a ∷ c ∷ ws)) ≡ true →
    recoloured_command f more (a ∷ c ∷ ws) ≡ recolours f a c ws
unfolding argument_value
recoloured_is f more a c ws is =
    let pairs : ℕ = (length (a ∷ c ∷ ws) - 2) / 2 in
    let size : length ws ≡ 2 * pairs = omega (arith, pair_number (length (a ∷ c ∷ ws)) is) in
    rw is (with_names f more (name a) (name c) (values_of (paired f 0 pairs) ws) (pairs_in f ws) (same_pairs f 0 pairs ws size))

-- two words more, as two elements of a list say them
two_at : {X : Type 0} (g : X → List ℕ) (xs : List X) (i j k : ℕ) (d : X) → j ≡ suc i → k ≡ suc j → j < length xs →
    map g (drop i xs) ≡ g (get_or xs i d) ∷ g (get_or xs j d) ∷ map g (drop k xs)
two_at g xs i j k d second third within =
    let low : i < length xs = omega (arith, within, second) in
    let next : drop (suc i) xs ≡ get_or xs j d ∷ drop k xs = rw (sym second, third) (drop-cons xs j d within) in
    ap (map g) (drop-cons xs i d low) ∙ ap (λ ys. g (get_or xs i d) ∷ map g ys) next

two_more : {X : Type 0} (g : X → List ℕ) (xs : List X) (i : ℕ) (d : X) → i + 1 < length xs →
    map g (drop i xs) ≡ g (get_or xs i d) ∷ g (get_or xs (i + 1) d) ∷ map g (drop (i + 2) xs)
two_more g xs i d within = two_at g xs i (i + 1) (i + 2) d (omega arith) (omega arith) within

-- so far these pairs were read
abbrev pub SoFar : {X : Type 0} → ℕ → (X → List ℕ) → List X → ℕ → List (Colour × Colour) → Type 0
SoFar f g xs i pairs = pairs_in f (map g xs) ≡ (pairs_in f (map g (drop i xs)) >>= λ ps. Ok (pairs ++ ps))

no_pairs : (r : Result (List (Colour × Colour)) Code) → r ≡ (r >>= λ ps. Ok ([] ++ ps))
no_pairs (Ok ps) = refl
no_pairs (Err e) = refl

pub so_far_none : {X : Type 0} (f : ℕ) (g : X → List ℕ) (xs : List X) → SoFar f g xs 0 []
so_far_none f g xs = no_pairs (pairs_in f (map g xs))

pair_onto : (pairs : List (Colour × Colour)) (pair : Colour × Colour) (r : Result (List (Colour × Colour)) Code) →
    ((r >>= λ ps. Ok (pair ∷ ps)) >>= λ ps. Ok (pairs ++ ps)) ≡ (r >>= λ ps. Ok ((pairs ++ pair ∷ []) ++ ps))
pair_onto pairs pair (Ok ps) = ap Ok (sym (append_assoc pairs (pair ∷ []) ps))
pair_onto pairs pair (Err e) = refl

pub so_far_pair : {X : Type 0} (f : ℕ) (g : X → List ℕ) (xs : List X) (i : ℕ) (d : X) (pairs : List (Colour × Colour)) (pair : Colour × Colour)
    → i + 1 < length xs →
    SoFar f g xs i pairs → ReadsPair f (Ok pair) (g (get_or xs i d)) (g (get_or xs (i + 1) d)) → SoFar f g xs (i + 2) (pairs ++ pair ∷ [])
so_far_pair f g xs i d pairs pair within so reads =
    so
    ∙ ap (λ (ws : List (List ℕ)). pairs_in f ws >>= λ ps. Ok (pairs ++ ps)) (two_more g xs i d within)
    ∙ ap (λ (r : Result (List (Colour × Colour)) Code). r >>= λ ps. Ok (pairs ++ ps)) (reads (map g (drop (i + 2) xs)))
    ∙ pair_onto pairs pair (pairs_in f (map g (drop (i + 2) xs)))

pub so_far_err : {X : Type 0} (f : ℕ) (g : X → List ℕ) (xs : List X) (i : ℕ) (d : X) (pairs : List (Colour × Colour)) (e : Code) → i + 1 < length xs →
    SoFar f g xs i pairs → ReadsPair f (Err e) (g (get_or xs i d)) (g (get_or xs (i + 1) d))
    → pairs_in f (map g xs) ≡ Err e
so_far_err f g xs i d pairs e within so reads =
    so
    ∙ ap (λ (ws : List (List ℕ)). pairs_in f ws >>= λ ps. Ok (pairs ++ ps)) (two_more g xs i d within)
    ∙ ap (λ (r : Result (List (Colour × Colour)) Code). r >>= λ ps. Ok (pairs ++ ps)) (reads (map g (drop (i + 2) xs)))

pub words_are : {X : Type 0} (f : ℕ) (more : Further) (g : X → List ℕ) (xs : List X) (d : X) → has_pairs (length xs) ≡ true →
    recoloured_command f more (map g xs) ≡ recolours f (g (get_or xs 0 d)) (g (get_or xs 1 d)) (map g (drop 2 xs))
words_are f more g xs d is =
    let number : length xs ≡ 2 + 2 * ((length xs - 2) / 2) = pair_number (length xs) is in
    let same : map g xs ≡ g (get_or xs 0 d) ∷ g (get_or xs 1 d) ∷ map g (drop 2 xs) = two_more g xs 0 d (omega (arith, number)) in
    let size : length (g (get_or xs 0 d) ∷ g (get_or xs 1 d) ∷ map g (drop 2 xs)) ≡ length xs = ap length (sym same) ∙ length-map xs g in
    ap (recoloured_command f more) same ∙ recoloured_is f more (g (get_or xs 0 d)) (g (get_or xs 1 d)) (map g (drop 2 xs)) (ap has_pairs size ∙ is)

-- the name that a word spells is the argument's
called : (o : Option (List ℕ)) (a : List ℕ) → or_err codes_of.Name (option_map Called o) ≡ Ok (Called a) → or_err codes_of.Name o ≡ Ok a
called None a is = cc
called (Some x) a is = cc

named : (word a : List ℕ) → argument_value A_name word ≡ Ok (Called a) → or_err codes_of.Name (name word) ≡ Ok a
unfolding argument_value
named word a is = called (name word) a is

-- two layers' names, and the pairs
pub recolour_ok : {X : Type 0} (f : ℕ) (more : Further) (g : X → List ℕ) (xs : List X) (d : X) (a c : List ℕ) (pairs : List (Colour × Colour))
    → has_pairs (length xs) ≡ true →
    argument_value A_name (g (get_or xs 0 d)) ≡ Ok (Called a) → argument_value A_name (g (get_or xs 1 d)) ≡ Ok (Called c)
    → pairs_in f (map g (drop 2 xs)) ≡ Ok pairs →
    recoloured_command f more (map g xs) ≡ Ok (commands.Recolour a c pairs)
recolour_ok f more g xs d a c pairs is first second third = rw (words_are f more g xs d is, named _ a first, named _ c second, third) refl

pub recolour_err : {X : Type 0} (f : ℕ) (more : Further) (g : X → List ℕ) (xs : List X) (d : X) (a c : List ℕ) (e : Code) → has_pairs (length xs) ≡ true →
    argument_value A_name (g (get_or xs 0 d)) ≡ Ok (Called a) → argument_value A_name (g (get_or xs 1 d)) ≡ Ok (Called c) →
    pairs_in f (map g (drop 2 xs)) ≡ Err e → recoloured_command f more (map g xs) ≡ Err e
recolour_err f more g xs d a c e is first second third = rw (words_are f more g xs d is, named _ a first, named _ c second, third) refl
