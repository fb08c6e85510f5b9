-- Lists of segments by id, and what passes a test in them.
use Rattle.std.proofs.Common.{◌≡◌, ℕ, ◌≤◌, Bool, true, false, cond, ◌&&◌, ◌||◌, ◌↔◌, ⊎_elim, List, [], ◌∷◌, filter, sum_by, Contains, Ordering, Less, nat_cmp}
use Rattle.std.proofs.Common.{refl, sym, ◌∙◌, ap₂, subst, arith}
use Rattle.std.specs.List.{AllByRecursion, list_any}
use Rattle.std.specs.List.Sorted.{IsStrictlySortedBy}
use Rattle.std.specs.Map.{keys_of}
use Rattle.std.specs.FinMap as finmap
use Rattle.std.specs.Cmp.{IsTotalOrder, nat_cmp_total, on_total}
use Rattle.std.proofs.lemmas.List.Sums.{sum_by-cons}
use Rattle.std.proofs.lemmas.Bool.{and_parts, and_from}
use Rattle.quilt_types.specs.declared.plane.Block.{Block}
use Rattle.quilt_types.specs.declared.plane.Seg.{Seg}
use Rattle.quilt_types.specs.Layers.{SegMap, BlockSet}
use Rattle.quilt_types.specs.Plane.{blocks, IsBlock}
use Rattle.quilt_types.specs.Quadtrees.{reach, is_reached}
use Rattle.quilt_loc.specs.Codes.{Rises}
use Rattle.quilt_loc.proofs.Blocks.{IsBlock-from}
use Rattle.quilt_loc.proofs.Members.{Contains-nil, Contains-here, Contains-there, Contains-cons_cases}
use Rattle.quilt_loc.proofs.Rising.{Rises-filter, same_rising, nat_less}
use Rattle.quilt_near.specs.Budgets.{price}
use Rattle.quilt_near.proofs.Leasts.{Rises as AreApart, rises_if_sorted, same_entry}

-- by id
abbrev by_id : ℕ × Seg → ℕ × Seg → Ordering
by_id a b = nat_cmp a.0 b.0

by_id_total : IsTotalOrder by_id
by_id_total = on_total (λ (e : ℕ × Seg). e.0) nat_cmp_total

each_after : (k : ℕ) (es : List (ℕ × Seg)) → AllByRecursion (λ y. nat_cmp k y ≡ Less) (keys_of es) → (z : ℕ × Seg) → Contains es z → nat_cmp k z.0 ≡ Less
each_after k [] h z c = absurd (Contains-nil z c)
each_after k (e ∷ es) h z c = ⊎_elim (λ is. subst (λ (y : ℕ × Seg). nat_cmp k y.0 ≡ Less) is h.0) (λ d. each_after k es h.1 z d) (Contains-cons_cases e es z c)

keys_rise : (es : List (ℕ × Seg)) → IsStrictlySortedBy nat_cmp (keys_of es) → Rises by_id es
unfolding IsStrictlySortedBy
keys_rise [] h = tt
keys_rise (e ∷ es) h = (each_after e.0 es h.0, keys_rise es h.1)

apart_rise : (es : List (ℕ × Seg)) → AreApart es → Rises by_id es
apart_rise [] h = tt
apart_rise (e ∷ es) h = (λ z c. nat_less e.0 z.0 (h.0 z c), apart_rise es h.1)

module _ (segs : SegMap) where
  -- an id stands once
  pub one_each : (a b : ℕ × Seg) → Contains (finmap.entries segs) a → Contains (finmap.entries segs) b → a.0 ≡ b.0 → a ≡ b
  one_each a b c d e = same_entry (finmap.entries segs) (rises_if_sorted (finmap.entries segs) (finmap.entries_sorted segs)) a b c d e

  -- a list by id of those that pass the test
  pub passing : (p : ℕ × Seg → Bool) (found : List (ℕ × Seg)) → IsStrictlySortedBy nat_cmp (keys_of found)
      → ((z : ℕ × Seg) → Contains found z ↔ Contains (filter p (finmap.entries segs)) z) → found ≡ filter p (finmap.entries segs)
  passing p found h same =
      same_rising by_id by_id_total found (filter p (finmap.entries segs)) (keys_rise found h)
      (Rises-filter by_id p (finmap.entries segs) (apart_rise (finmap.entries segs) (rises_if_sorted (finmap.entries segs) (finmap.entries_sorted segs)))) same

or_false : (b : Bool) → (b || false) ≡ b
or_false true = refl
or_false false = refl

pub any_of_one : {X : Type 0} (p : X → Bool) (x : X) → list_any p (x ∷ []) ≡ p x
any_of_one p x = or_false (p x)

pub filter_alike : {X : Type 0} (p q : X → Bool) (xs : List X) → ((x : X) → p x ≡ q x) → filter p xs ≡ filter q xs
filter_alike p q [] h = refl
filter_alike p q (x ∷ xs) h = ap₂ (λ b ys. cond b (x ∷ ys) ys) (h x) (filter_alike p q xs h)

module _ {X : Type 0} (v : X → ℕ) (p q : X → Bool) where
  kept_step : (x : X) (xs : List X) (a b : Bool) → p x ≡ a → q x ≡ b → (p x ≡ true → q x ≡ true) → sum_by v (filter p xs) ≤ sum_by v (filter q xs)
      → sum_by v (cond a (x ∷ filter p xs) (filter p xs)) ≤ sum_by v (cond b (x ∷ filter q xs) (filter q xs))
  kept_step x xs true true e f h r = omega (arith, r, sum_by-cons v x (filter p xs), sum_by-cons v x (filter q xs))
  kept_step x xs true false e f h r = absurd (let no : true ≡ false = sym (h e) ∙ f in cc)
  kept_step x xs false true e f h r = omega (arith, r, sum_by-cons v x (filter q xs))
  kept_step x xs false false e f h r = r

  filter_le : (xs : List X) → ((x : X) → Contains xs x → p x ≡ true → q x ≡ true) → sum_by v (filter p xs) ≤ sum_by v (filter q xs)
  filter_le [] h = omega arith
  filter_le (x ∷ xs) h = kept_step x xs (p x) (q x) refl refl (h x (Contains-here x xs)) (filter_le xs (λ z c. h z (Contains-there x xs z c)))

-- a test that more blocks pass
pub reach_more : (n : ℕ) (segs : SegMap) (cover : BlockSet) (p q : Block → Bool) → ((b : Block) → IsBlock n b → p b ≡ true → q b ≡ true)
    → reach n segs cover p ≤ reach n segs cover q
unfolding reach
reach_more n segs cover p q h =
    filter_le (price segs cover) (λ b. p b && is_reached cover b) (λ b. q b && is_reached cover b) (blocks n)
    (λ b c both. let w = and_parts (p b) (is_reached cover b) both in and_from (q b) (is_reached cover b) (h b (IsBlock-from n b c) w.0) w.1)
