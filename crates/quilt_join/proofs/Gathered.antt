-- What threads gave for each segment of a list, and the pairs that it makes together.
use Rattle.std.proofs.Common.{◌≡◌, ℕ, suc, ◌+◌, ◌<◌, ◌≤◌, List, [], ◌∷◌, ◌++◌}
use Rattle.std.proofs.Common.{length, map, filter, flat_map, sum, Ok, Err, Some, append_assoc, append-nil, refl, sym, ap, ap₂, ◌∙◌, subst, arith}
use Rattle.std.specs.Prelude.{IfOk, MatchResult}
use Rattle.std.specs.List.{AllZip}
use Rattle.std.specs.declared.result.Result.{Result}
use Rattle.std.proofs.Math.Nat.{le_trans, le-add_left}
use Rattle.std.proofs.lemmas.List.{length-append, map-append}
use Rattle.std.proofs.lemmas.List.Concat.{flat_map-append}
use Rattle.std.proofs.lemmas.List.Sums.{sum_by-cons, sum_by-append}
use Rattle.quilt_types.specs.declared.plane.Seg.{Seg}
use Rattle.std.specs.FinMap as finmap
use Rattle.quilt_types.specs.Layers.{SegMap}
use Rattle.quilt_types.specs.Crossings.{shares, crossings}
use Rattle.quilt_join.specs.declared.rows.Row.{Row}
use Rattle.quilt_join.specs.Pairs.{ids_sharing, pairs_with, crossings_of, most, IsPairAnswer}
use Rattle.quilt_join.specs.Rows.{IsSharingRow}

module _ {X Y : Type 0} (R : X → Y → Type 0) (E : Type 0) where
  values : (xs : List X) (ys : List Y) → AllZip (λ x (r : Result Y E). IfOk r (R x)) xs (map {A = Y} {B = Result Y E} Ok ys) → AllZip R xs ys
  values [] [] h = tt
  values [] (y ∷ ys) h = absurd h
  values (x ∷ xs) [] h = absurd h
  values (x ∷ xs) (y ∷ ys) h = (h.0, values xs ys h.1)

  -- all results are values
  pub all_values : (xs : List X) (rs : List (Result Y E)) (ys : List Y) → AllZip (λ x (r : Result Y E). IfOk r (R x)) xs rs →
      rs ≡ map {A = Y} {B = Result Y E} Ok ys → AllZip R xs ys
  all_values xs rs ys h e = values xs ys (subst (AllZip (λ x (r : Result Y E). IfOk r (R x)) xs) e h)

pub if_ok_then : {V E : Type 0} (r : Result V E) (P S : V → Type 0) (Q : E → Type 0) → ((v : V) → P v → S v) → MatchResult r P Q → IfOk r S
if_ok_then (Ok v) P S Q f m = f v m
if_ok_then (Err e) P S Q f m = tt

row_pairs : (id : ℕ) (fs : List (ℕ × Seg)) → pairs_with id (map (λ f. f.0) fs) ≡ map (λ f. (id, f.0)) fs
row_pairs id [] = refl
row_pairs id (f ∷ fs) = ap (λ l. (id, f.0) ∷ l) (row_pairs id fs)

-- the rows one behind the other
pub rows_joined : (a b : List (ℕ × Seg)) → flat_map (λ row. row) (map (λ e. pairs_with e.0 (ids_sharing e.1 b)) a) ≡ crossings_of a b
rows_joined [] b = refl
rows_joined (e ∷ a) b = ap₂ ◌++◌ (row_pairs e.0 (filter (λ f. shares e.1 f.1) b)) (rows_joined a b)

row_length : (id : ℕ) (fs : List (ℕ × Seg)) → length (map (λ f. f.0) fs) ≡ length {A = ℕ × ℕ} (map (λ f. (id, f.0)) fs)
row_length id [] = refl
row_length id (f ∷ fs) = ap suc (row_length id fs)

-- the numbers of the rows
pub rows_counted : (a b : List (ℕ × Seg)) → sum (map (λ e. length (ids_sharing e.1 b)) a) ≡ length (crossings_of a b)
rows_counted [] b = refl
rows_counted (e ∷ a) b =
    sum_by-cons (λ n. n) (length (ids_sharing e.1 b)) (map (λ f. length (ids_sharing f.1 b)) a)
    ∙ ap₂ ◌+◌ (row_length e.0 (filter (λ f. shares e.1 f.1) b)) (rows_counted a b)
    ∙ sym (length-append (map (λ f. (e.0, f.0)) (filter (λ f. shares e.1 f.1) b)) (crossings_of a b))

-- the pairs of two maps are those of their entries
pub crossings_are : (l m : SegMap) (a b : List (ℕ × Seg)) → finmap.entries l ≡ a → finmap.entries m ≡ b → crossings l m ≡ crossings_of a b
unfolding crossings
crossings_are l m a b e f = ap₂ crossings_of e f

-- what is given for each value and any that it goes with is so for the value
pub if_ok_all : {X V E : Type 0} (r : Result V E) (P : X → Type 0) (Q : V → X → Type 0) → ((x : X) → P x → IfOk r (λ v. Q v x)) → IfOk r (λ v. (x : X) → P x → Q v x)
if_ok_all (Ok v) P Q f = f
if_ok_all (Err e) P Q f = tt

-- two lists that go with a third, of which the second has what a function gives for the first
pub mapped_through : {X R Y : Type 0} (Is : X → R → Type 0) (f : X → Y) (xs : List X) (rs : List R) (ys : List Y) → AllZip Is xs rs
    → AllZip (λ r y. (x : X) → Is x r → y ≡ f x) rs ys → ys ≡ map f xs
mapped_through Is f [] [] [] h k = refl
mapped_through Is f [] [] (y ∷ ys) h k = absurd k
mapped_through Is f [] (r ∷ rs) ys h k = absurd h
mapped_through Is f (x ∷ xs) [] ys h k = absurd h
mapped_through Is f (x ∷ xs) (r ∷ rs) [] h k = absurd k
mapped_through Is f (x ∷ xs) (r ∷ rs) (y ∷ ys) h k = ap₂ ◌∷◌ (k.0 x h.0) (mapped_through Is f xs rs ys h.1 k.1)

-- the counts of rows
pub rows_count : (b a : List (ℕ × Seg)) (rows : List Row) → AllZip (IsSharingRow b) a rows → map (λ r. r.count) rows ≡ map (λ e. length (ids_sharing e.1 b)) a
rows_count b [] [] h = refl
rows_count b [] (r ∷ rows) h = absurd h
rows_count b (e ∷ a) [] h = absurd h
rows_count b (e ∷ a) (r ∷ rows) h = ap₂ ◌∷◌ h.0.count (rows_count b a rows h.1)

-- ---- one part more of a list: its rows are counted and then listed
module _ (b list rest part after : List (ℕ × Seg)) (are : rest ≡ part ++ after) where
  abbrev counts : List (ℕ × Seg) → List ℕ
  counts a = map (λ e. length (ids_sharing e.1 b)) a

  pub part_counted : (rows : List Row) (found : List ℕ) (total all : ℕ) → AllZip (IsSharingRow b) part rows → found ≡ map (λ r. r.count) rows
      → all ≡ total + sum found → total + sum (counts rest) ≡ sum (counts list) → all + sum (counts after) ≡ sum (counts list)
  part_counted rows found total all zip is sums so_far =
      let these : sum found ≡ sum (counts part) = ap sum (is ∙ rows_count b part rows zip) in
      let both : sum (counts rest) ≡ sum (counts part) + sum (counts after) =
      ap (λ (a : List (ℕ × Seg)). sum (counts a)) are ∙ ap sum (map-append (λ (e : ℕ × Seg). length (ids_sharing e.1 b)) part after)
      ∙ sum_by-append (λ (n : ℕ). n) (counts part) (counts after) in
      omega arith

  pub part_listed : (pairs new : List (ℕ × ℕ)) (lists : List (List (ℕ × ℕ))) → lists ≡ map (λ e. pairs_with e.0 (ids_sharing e.1 b)) part
      → new ≡ pairs ++ flat_map (λ row. row) lists → pairs ++ crossings_of rest b ≡ crossings_of list b
      → new ++ crossings_of after b ≡ crossings_of list b
  part_listed pairs new lists is longer so_far =
      let joined : flat_map (λ row. row) lists ≡ crossings_of part b = ap (flat_map (λ (row : List (ℕ × ℕ)). row)) is ∙ rows_joined part b in
      let both : crossings_of rest b ≡ crossings_of part b ++ crossings_of after b =
      ap (λ (a : List (ℕ × Seg)). crossings_of a b) are
      ∙ flat_map-append (λ (e : ℕ × Seg). map (λ (f : ℕ × Seg). (e.0, f.0)) (filter (λ (f : ℕ × Seg). shares e.1 f.1) b)) part after in
      ap (λ (l : List (ℕ × ℕ)). l ++ crossings_of after b) (longer ∙ ap (λ (l : List (ℕ × ℕ)). pairs ++ l) joined)
      ∙ append_assoc pairs (crossings_of part b) (crossings_of after b) ∙ ap (λ (l : List (ℕ × ℕ)). pairs ++ l) (sym both) ∙ so_far

-- too many in a part and those before it are too many in all
pub are_many : (a b : List (ℕ × Seg)) (all after : ℕ) → most < all → all + after ≡ sum (map (λ e. length (ids_sharing e.1 b)) a) → most < length (crossings_of a b)
are_many a b all after lt is = let e = rows_counted a b in omega arith

-- nothing is left
pub all_listed : (a b rest : List (ℕ × Seg)) (pairs : List (ℕ × ℕ)) (total : ℕ) → length rest ≡ 0 → total ≤ most
    → total + sum (map (λ e. length (ids_sharing e.1 b)) rest) ≡ sum (map (λ e. length (ids_sharing e.1 b)) a)
    → pairs ++ crossings_of rest b ≡ crossings_of a b → IsPairAnswer (crossings_of a b) (Some pairs)
all_listed a b [] pairs total none few counted listed =
    let e = rows_counted a b in (sym (append-nil pairs) ∙ listed, (omega arith))
all_listed a b (e ∷ rest) pairs total none few counted listed = absurd (omega arith)

-- the pairs of rows are no more than the total that they were added to
pub part_few : (rows : List Row) (found : List ℕ) (total all : ℕ) → found ≡ map (λ row. row.count) rows → all ≡ total + sum found → all ≤ most
    → sum (map (λ row. row.count) rows) ≤ most
part_few rows found total all same is few =
    subst (λ (counts : List ℕ). sum counts ≤ most) same (le_trans (le-add_left (sum found) total) (subst (λ (n : ℕ). n ≤ most) is few))
