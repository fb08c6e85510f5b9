-- An id with its distance that is added to a list, by the order of the set that the code keeps.
use Rattle.std.proofs.Common.{◌≡◌, ℕ, zero, suc, ◌-◌, ◌*◌, ◌<◌, Bool, true, false, cond, List, [], ◌∷◌, length, map, take, Contains, eqb, eqb-true, eq-eqb}
use Rattle.std.proofs.Common.{nat_lt, nat_le, not, ◌&&◌, ◌||◌, Ordering, Less, Equal, Greater, nat_cmp, Some, None, refl, sym, ◌∙◌, ap, subst, arith, leb-true}
use Rattle.std.proofs.Common.{leb-false, ltb-true, ltb-false, true≢false}
use Rattle.std.specs.Prelude.{slice_get}
use Rattle.std.specs.Bool.{OnTrue}
use Rattle.std.specs.Ordering.{match_ordering, MatchOrdering, ordering_then, ordering_reverse, is_lt, is_gt, is_ge}
use Rattle.std.specs.Cmp.{IsTotalOrder, nat_cmp_total, on_total, then_total, upto, ranked}
use Rattle.std.specs.BTreeSet.{insert_key}
use Rattle.std.proofs.lemmas.List.{take_all, length-map}
use Rattle.quilt_types.specs.Fractions.{Fraction}
use Rattle.quilt_types.specs.Ranking.{comes_first}
use Rattle.quilt_clip.specs.Compared.{compared}
use Rattle.quilt_clip.proofs.Compared.{compared_total, compared_is}
use Rattle.quilt_loc.proofs.Members.{Contains-here, Contains-there}
use Rattle.quilt_rank.specs.Ranks.{rank_cmp, added, last_far, is_past_ranks}
use Rattle.quilt_rank.proofs.Orders.{Rank, put}

-- ---- adding by the order and putting by the id are one among ranks of which one id has one
-- products of the distances and ids, and what is compared of them
decide : {X : Type 0} (x y z : X) (a b i j : ℕ) (u v : Ordering) (s t w same : Bool) → MatchOrdering u (a < b) (a ≡ b) (b < a)
    → MatchOrdering v (i < j) (i ≡ j) (j < i)
    → nat_lt a b ≡ s → nat_lt b a ≡ t → nat_le i j ≡ w → eqb j i ≡ same → (j ≡ i → a ≡ b)
    → match_ordering (ordering_then u v) x y z ≡ cond same y (cond (s || (not t && w)) x z)
decide x y z a b i j Equal Equal s t w true hu hv es et ew e one = refl
decide x y z a b i j Less v s t w true hu hv es et ew e one = absurd (let is = one (eqb-true j i e) in let no : ⊥ = omega arith in no)
decide x y z a b i j Greater v s t w true hu hv es et ew e one = absurd (let is = one (eqb-true j i e) in let no : ⊥ = omega arith in no)
decide x y z a b i j Equal Less s t w true hu hv es et ew e one = absurd (let is = eqb-true j i e in let no : ⊥ = omega arith in no)
decide x y z a b i j Equal Greater s t w true hu hv es et ew e one = absurd (let is = eqb-true j i e in let no : ⊥ = omega arith in no)
decide x y z a b i j Less v true t w false hu hv es et ew e one = refl
decide x y z a b i j Less v false t w false hu hv es et ew e one = absurd (let le = ltb-false a b es in let no : ⊥ = omega arith in no)
decide x y z a b i j Greater v true t w false hu hv es et ew e one = absurd (let lt = ltb-true a b es in let no : ⊥ = omega arith in no)
decide x y z a b i j Greater v false true w false hu hv es et ew e one = refl
decide x y z a b i j Greater v false false w false hu hv es et ew e one = absurd (let le = ltb-false b a et in let no : ⊥ = omega arith in no)
decide x y z a b i j Equal v true t w false hu hv es et ew e one = absurd (let lt = ltb-true a b es in let no : ⊥ = omega arith in no)
decide x y z a b i j Equal v false true w false hu hv es et ew e one = absurd (let lt = ltb-true b a et in let no : ⊥ = omega arith in no)
decide x y z a b i j Equal Less false false true false hu hv es et ew e one = refl
decide x y z a b i j Equal Less false false false false hu hv es et ew e one = absurd (let lt = leb-false i j ew in let no : ⊥ = omega arith in no)
decide x y z a b i j Equal Equal false false w false hu hv es et ew e one = absurd (true≢false (sym (eq-eqb j i (sym hv)) ∙ e))
decide x y z a b i j Equal Greater false false true false hu hv es et ew e one = absurd (let le = leb-true i j ew in let no : ⊥ = omega arith in no)
decide x y z a b i j Equal Greater false false false false hu hv es et ew e one = refl

module _ (all : Rank → Type 0) (positive : (a : Rank) → all a → 0 < a.1.den) (one : (a b : Rank) → all a → all b → a.0 ≡ b.0 → a ≡ b) where
  same_place : {X : Type 0} (x y z : X) (e f : Rank) → all e → all f → match_ordering (rank_cmp e f) x y z ≡ cond (eqb f.0 e.0) y (cond (comes_first e f) x z)
  same_place x y z e f ie if' =
      let a = e.1.num * f.1.den in
      let b = f.1.num * e.1.den in
      let own : f.0 ≡ e.0 → a ≡ b = λ is. let same = one f e if' ie is in subst (λ (r : Rank). e.1.num * r.1.den ≡ r.1.num * e.1.den) (sym same) refl in
      ap (λ u. match_ordering (ordering_then u (nat_cmp e.0 f.0)) x y z) (compared_is e.1 f.1 (positive e ie) (positive f if'))
      ∙ decide x y z a b e.0 f.0 (nat_cmp a b) (nat_cmp e.0 f.0) (nat_lt a b) (nat_lt b a) (nat_le e.0 f.0) (eqb f.0 e.0)
      (ranked a b (nat_cmp a b) refl) (ranked e.0 f.0 (nat_cmp e.0 f.0) refl) refl refl refl refl own

  pub added_put : (rs : List Rank) (e : Rank) → all e → ((z : Rank) → Contains rs z → all z) → added rs e ≡ put rs e
  added_put [] e ie in' = refl
  added_put (f ∷ fs) e ie in' =
      ap (λ (t : List Rank). match_ordering (rank_cmp e f) (e ∷ f ∷ fs) (f ∷ fs) (f ∷ t)) (added_put fs e ie (λ z c. in' z (Contains-there f fs z c)))
      ∙ same_place (e ∷ f ∷ fs) (f ∷ fs) (f ∷ put fs e) e f ie (in' f (Contains-here f fs))

-- ---- the keys of the set: the distance, and then the id
abbrev pub Key : Type 0
Key = Fraction × ℕ

abbrev pub turned : Key → Rank
turned r = (r.1, r.0)

abbrev pub key_cmp : Key → Key → Ordering
key_cmp x y = ordering_then (compared x.0 y.0) (nat_cmp x.1 y.1)

turned_by : (r : Ordering) (k x : Key) (xs ys : List Key) (zs : List Rank) → map turned ys ≡ zs
    → map turned (match_ordering r (k ∷ x ∷ xs) (x ∷ xs) (x ∷ ys)) ≡ match_ordering r (turned k ∷ turned x ∷ map turned xs)
    (turned x ∷ map turned xs) (turned x ∷ zs)
turned_by Less k x xs ys zs e = refl
turned_by Equal k x xs ys zs e = refl
turned_by Greater k x xs ys zs e = ap (λ (t : List Rank). turned x ∷ t) e

pub turned_added : (xs : List Key) (k : Key) → map turned (insert_key key_cmp xs k) ≡ added (map turned xs) (turned k)
turned_added [] k = refl
turned_added (x ∷ xs) k = turned_by (key_cmp k x) k x xs (insert_key key_cmp xs k) (added (map turned xs) (turned k)) (turned_added xs k)

-- ---- one that comes after all
key_total : IsTotalOrder key_cmp
key_total = then_total (on_total (λ (t : Key). t.0) compared_total) (on_total (λ (t : Key). t.1) nat_cmp_total)

turn_lt : (r : Ordering) → is_lt r ≡ false → is_gt (ordering_reverse r) ≡ false
turn_lt Less e = absurd (true≢false e)
turn_lt Equal e = refl
turn_lt Greater e = refl

turn_ge : (r : Ordering) → is_ge r ≡ true → is_gt (ordering_reverse r) ≡ false
turn_ge Less e = absurd (true≢false (sym e))
turn_ge Equal e = refl
turn_ge Greater e = refl

not_less : (s : Ordering) → is_gt s ≡ false → ordering_reverse s ≡ Less → ⊥
not_less Less e h = absurd (let no : Greater ≡ Less = h in cc)
not_less Equal e h = absurd (let no : Equal ≡ Less = h in cc)
not_less Greater e h = true≢false e

after_one : (e z q : Key) → is_ge (key_cmp e z) ≡ true → is_lt (key_cmp z q) ≡ false → key_cmp e q ≡ Less → ⊥
after_one e z q h k less =
    let low : is_gt (key_cmp q z) ≡ false = ap is_gt (key_total.antisymm q z) ∙ turn_lt (key_cmp z q) k in
    let high : is_gt (key_cmp z e) ≡ false = ap is_gt (key_total.antisymm z e) ∙ turn_ge (key_cmp e z) h in
    not_less (key_cmp q e) (upto key_total q z e low high) (sym (key_total.antisymm e q) ∙ less)

skip_by : (r : Ordering) (e x : Key) (xs more : List Key) → (r ≡ Less → ⊥) → take (length xs) more ≡ xs
    → take (suc (length xs)) (match_ordering r (e ∷ x ∷ xs) (x ∷ xs) (x ∷ more)) ≡ x ∷ xs
skip_by Less e x xs more not_so h = absurd (not_so refl)
skip_by Equal e x xs more not_so h = take_all (suc (length xs)) (x ∷ xs) (omega arith)
skip_by Greater e x xs more not_so h = ap (λ (t : List Key). x ∷ t) h

skip : (xs : List Key) (e z : Key) → is_ge (key_cmp e z) ≡ true → ((q : Key) → Contains xs q → is_lt (key_cmp z q) ≡ false)
    → take (length xs) (insert_key key_cmp xs e) ≡ xs
skip [] e z h all = refl
skip (x ∷ xs) e z h all =
    skip_by (key_cmp e x) e x xs (insert_key key_cmp xs e) (after_one e z x h (all x (Contains-here x xs)))
    (skip xs e z h (λ q c. all q (Contains-there x xs q c)))

take_turned : (k : ℕ) (xs : List Key) → take k (map turned xs) ≡ map turned (take k xs)
take_turned zero xs = refl
take_turned (suc k) [] = refl
take_turned (suc k) (x ∷ xs) = ap (λ (t : List Rank). turned x ∷ t) (take_turned k xs)

comes_after : (xs : List Key) (e z : Key) → is_ge (key_cmp e z) ≡ true → ((q : Key) → Contains xs q → is_lt (key_cmp z q) ≡ false)
    → take (length (map turned xs)) (added (map turned xs) (turned e)) ≡ map turned xs
comes_after xs e z h all =
    ap (λ k. take k (added (map turned xs) (turned e))) (length-map xs turned) ∙ ap (take (length xs)) (sym (turned_added xs e))
    ∙ take_turned (length xs) (insert_key key_cmp xs e) ∙ ap (map turned) (skip xs e z h all)

pub before_law : (xs : List Key) (rs : List Rank) (e z : Key) (b : Bool) → map turned xs ≡ rs → b ≡ is_ge (key_cmp e z)
    → ((q : Key) → Contains xs q → is_lt (key_cmp z q) ≡ false) → OnTrue b (take (length rs) (added rs (turned e)) ≡ rs)
before_law xs rs e z true view eb all = subst (λ (t : List Rank). take (length t) (added t (turned e)) ≡ t) view (comes_after xs e z (sym eb) all)
before_law xs rs e z false view eb all = tt

-- ---- the last
last_got : (xs : List Key) (r : Key) → slice_get xs (length xs - 1) ≡ Some r → last_far (map turned xs) ≡ r.0
last_got [] r e = absurd (let no : None ≡ Some r = e in cc)
last_got (x ∷ []) r e = let is : x ≡ r = (let s : Some x ≡ Some r = e in cc) in ap (λ (t : Key). t.0) is
last_got (x ∷ y ∷ xs) r e =
    let same : length (x ∷ y ∷ xs) - 1 ≡ suc (length (y ∷ xs) - 1) = omega arith in
    last_got (y ∷ xs) r (subst (λ k. slice_get (x ∷ y ∷ xs) k ≡ Some r) same e)

and_true : (a b : Bool) → a ≡ true → b ≡ (a && b)
and_true true b e = refl
and_true false b e = absurd (true≢false (sym e))

-- there are k, and the last is nearer than a whole number
pub past_law : (k : ℕ) (xs : List Key) (rs : List Rank) (r : Key) (d : ℕ) (b : Bool) → map turned xs ≡ rs → length xs ≡ k
    → slice_get xs (length xs - 1) ≡ Some r → b ≡ nat_lt r.0.num (d * r.0.den) → b ≡ is_past_ranks k rs d
past_law k xs rs r d b view long last eb =
    let full : eqb (length rs) k ≡ true = eq-eqb (length rs) k (ap length (sym view) ∙ length-map xs turned ∙ long) in
    let far : last_far rs ≡ r.0 = ap last_far (sym view) ∙ last_got xs r last in
    eb ∙ ap (λ (f : Fraction). nat_lt f.num (d * f.den)) (sym far) ∙ and_true (eqb (length rs) k) (nat_lt (last_far rs).num (d * (last_far rs).den)) full
