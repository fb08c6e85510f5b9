-- The ids of the segments that share a point with one: those of its buckets, in order and each once.
use Rattle.std.proofs.Common.{◌≡◌, ℕ, zero, suc, ◌<◌, ◌↔◌, Bool, true, ◌&&◌, ⊎_elim, List}
use Rattle.std.proofs.Common.{[], ◌∷◌, map, filter, Contains, nat_cmp, Ordering, eqb, arith, sym, ◌∙◌, subst}
use Rattle.std.specs.List.{AllPairs, dedup}
use Rattle.std.specs.List.Sorted.{IsSorted, IsPermutation, IsStrictlyIncreasing}
use Rattle.std.proofs.lemmas.Bool.{cases_lt}
use Rattle.std.proofs.lemmas.Bool.Decides.{nat_tests}
use Rattle.std.proofs.lemmas.Cmp.{nat_cmp_total}
use Rattle.std.proofs.lemmas.List.Kept.{AllPairs-from_increasing, Contains-dedup_nat, Contains-from_dedup}
use Rattle.std.proofs.lemmas.List.Sorted.{Contains-permutation, IsPermutation-sym}
use Rattle.std.proofs.lemmas.List.Elements.{Contains-append_left, Contains-append_right, Contains-append_cases}
use Rattle.std.proofs.lemmas.Map.Keys.{IsStrictlyIncreasing-dedup}
use Rattle.quilt_types.specs.declared.plane.Seg.{Seg}
use Rattle.quilt_types.specs.Crossings.{shares, overlap}
use Rattle.quilt_loc.specs.Codes.{Rises}
use Rattle.quilt_loc.proofs.Members.{Contains-nil, Contains-map, Contains-map_from, Contains-filter, Contains-filter_from}
use Rattle.quilt_loc.proofs.Rising.{nat_less, Rises-filter, Rises-map, same_rising}
use Rattle.quilt_join.specs.declared.span.Span.{Span}
use Rattle.quilt_join.specs.Boxes.{span_at, count, number_at}
use Rattle.quilt_join.specs.Buckets.{bucket_at, AreFilled, ids_over}
use Rattle.quilt_join.specs.Pairs.{ids_sharing}
use Rattle.quilt_join.specs.Sides.{parts}
use Rattle.quilt_join.proofs.Turns.{shares_is}
use Rattle.quilt_join.proofs.Spans.{touched_at, touch_both}

rises_by_pairs : (xs : List ℕ) → AllPairs (λ x y. x < y) xs → Rises nat_cmp xs
rises_by_pairs [] h = tt
rises_by_pairs (x ∷ xs) h = (
  λ y c. let lt = c.1 in nat_less x y (subst (λ (z : ℕ). x < z) c.2 (h 0 (suc c.0) y (omega arith) (omega arith))),
  rises_by_pairs xs (λ i j d lt within. h (suc i) (suc j) d (omega arith) (omega arith)),
)

-- numbers of which each is below the next
pub rises_from : (xs : List ℕ) → IsStrictlyIncreasing xs → Rises nat_cmp xs
rises_from xs h = rises_by_pairs xs (AllPairs-from_increasing xs h)

abbrev by_id : ℕ × Seg → ℕ × Seg → Ordering
by_id e f = nat_cmp e.0 f.0

rises_by_id : (b : List (ℕ × Seg)) → Rises nat_cmp (map (λ e. e.0) b) → Rises by_id b
rises_by_id [] h = tt
rises_by_id (e ∷ b) h = (λ f c. h.0 f.0 (Contains-map (λ (g : ℕ × Seg). g.0) b f c), rises_by_id b h.1)

rises_sharing : (s : Seg) (b : List (ℕ × Seg)) → IsStrictlyIncreasing (map (λ e. e.0) b) → Rises nat_cmp (ids_sharing s b)
rises_sharing s b h =
    Rises-map by_id nat_cmp (λ (g : ℕ × Seg). g.0) (filter (λ f. shares s f.1) b) (λ e f _ _ less. less)
    (Rises-filter by_id (λ f. shares s f.1) b (rises_by_id b (rises_from _ h)))

-- what stands behind an id
sharing_from : (s : Seg) (b : List (ℕ × Seg)) (x : ℕ) → Contains (ids_sharing s b) x → (e : ℕ × Seg) × Contains b e × (shares s e.1 ≡ true) × (e.0 ≡ x)
sharing_from s b x h =
    let m = Contains-map_from (λ (g : ℕ × Seg). g.0) (filter (λ f. shares s f.1) b) x h in
    let k = Contains-filter_from (λ f. shares s f.1) b m.0 m.1 in
    (m.0, k.0, k.1, m.2)

sharing_has : (s : Seg) (b : List (ℕ × Seg)) (e : ℕ × Seg) → Contains b e → shares s e.1 ≡ true → Contains (ids_sharing s b) e.0
sharing_has s b e c is = Contains-map (λ (g : ℕ × Seg). g.0) (filter (λ f. shares s f.1) b) e (Contains-filter (λ f. shares s f.1) b e c is)

over_from : (s : Seg) (p : Span) (columns : ℕ) (lists : List (List (ℕ × Seg))) (k x : ℕ) → Contains (ids_over s p columns lists k) x →
    (i : ℕ) × Contains (ids_sharing s (bucket_at lists (number_at p columns i))) x
over_from s p columns lists zero x h = absurd (Contains-nil x h)
over_from s p columns lists (suc k) x h =
    ⊎_elim (λ c. over_from s p columns lists k x c) (λ c. (k, c))
    (Contains-append_cases (ids_over s p columns lists k) (ids_sharing s (bucket_at lists (number_at p columns k))) x h)

over_has : (s : Seg) (p : Span) (columns : ℕ) (lists : List (List (ℕ × Seg))) (k i x : ℕ) → i < k →
    Contains (ids_sharing s (bucket_at lists (number_at p columns i))) x →
    Contains (ids_over s p columns lists k) x
over_has s p columns lists zero i x lt h = absurd (omega arith)
over_has s p columns lists (suc k) i x lt h =
    let early = ids_over s p columns lists k in
    let last = ids_sharing s (bucket_at lists (number_at p columns k)) in
    ⊎_elim
    (λ less. Contains-append_left early last x (over_has s p columns lists k i x less h))
    (λ more.
    let same : i ≡ k = (let no = more in omega arith) in
    Contains-append_right early last x (subst (λ (j : ℕ). Contains (ids_sharing s (bucket_at lists (number_at p columns j))) x) same h))
    (cases_lt i k)

and_parts : (a b c d : Bool) → (a && b && c && d) ≡ true → (a ≡ true) × (b ≡ true)
and_parts a b c d h = (grind (arith, nat_tests), grind (arith, nat_tests))

-- the buckets of a segment's blocks have all segments that share a point with it
pub over_same : (w columns : ℕ) (lists : List (List (ℕ × Seg))) (b : List (ℕ × Seg)) (s : Seg) → AreFilled w columns lists b → (x : ℕ) →
    Contains (ids_over s (span_at w s) columns lists (count (span_at w s))) x ↔ Contains (ids_sharing s b) x
over_same w columns lists b s filled x = (
  λ c.
      let at = over_from s (span_at w s) columns lists (count (span_at w s)) x c in
      let e = sharing_from s (bucket_at lists (number_at (span_at w s) columns at.0)) x at.1 in
      subst (Contains (ids_sharing s b)) e.3 (sharing_has s b e.0 (filled.from _ e.0 e.1) e.2),
  λ c.
      let e = sharing_from s b x c in
      let r = e.0.1 in
      let boxes = and_parts (overlap s.x1 s.x2 r.x1 r.x2) (overlap s.y1 s.y2 r.y1 r.y2) (parts s r) (parts r s) (sym (shares_is s r) ∙ e.2) in
      let both = touch_both s r w columns filled.positive boxes.0 boxes.1 in
      let place = touched_at (span_at w s) columns both.0 both.1 in
      let held : Contains (bucket_at lists (number_at (span_at w s) columns place.0)) e.0 = subst (λ (m : ℕ). Contains (bucket_at lists m) e.0)
      (sym place.2) (filled.all e.0 both.0 e.1 both.2) in
      over_has s (span_at w s) columns lists (count (span_at w s)) place.0 x place.1 (subst (Contains (ids_sharing s (bucket_at lists (number_at
      (span_at w s) columns place.0)))) e.3 (sharing_has s _ e.0 held e.2)),
)

-- sorted, and each once
pub row_same : (w columns : ℕ) (lists : List (List (ℕ × Seg))) (b : List (ℕ × Seg)) (s : Seg) (sorted last : List ℕ) → AreFilled w columns lists b →
    IsStrictlyIncreasing (map (λ e. e.0) b) → IsPermutation (ids_over s (span_at w s) columns lists (count (span_at w s))) sorted → IsSorted nat_cmp sorted →
    last ≡ dedup eqb sorted → last ≡ ids_sharing s b
row_same w columns lists b s sorted last filled ids same order is =
    let over = ids_over s (span_at w s) columns lists (count (span_at w s)) in
    let rising = rises_from last (subst IsStrictlyIncreasing (sym is) (IsStrictlyIncreasing-dedup sorted order)) in
    same_rising nat_cmp nat_cmp_total last (ids_sharing s b) rising (rises_sharing s b ids) (λ x. (
      λ c. (over_same w columns lists b s filled x).0 (Contains-permutation sorted over x (IsPermutation-sym over sorted same)
          (Contains-from_dedup eqb sorted x (subst (λ (l : List ℕ). Contains l x) is c))),
      λ c. subst (λ (l : List ℕ). Contains l x) (sym is) (Contains-dedup_nat sorted x (Contains-permutation over sorted x same
          ((over_same w columns lists b s filled x).1 c))),
    ))
