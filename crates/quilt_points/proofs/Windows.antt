-- The points of a layer in a window.
use Rattle.std.proofs.Common.{◌≡◌, ℕ, zero, suc, ◌+◌, ◌-◌, ◌*◌, ◌^◌, pow-suc, lt-ltb, Option, ◌<◌, ◌≤◌, Bool, true, false, cond, ◌&&◌, nat_le, nat_lt, leb-true, ltb-true, List, [], ◌∷◌, ◌++◌, length, take}
use Rattle.std.proofs.Common.{get_or, refl, sym, ◌∙◌, ap, subst, ⊎_elim, arith, Contains, filter, Ordering, Less, Equal, Greater, Some, append_assoc}
use Rattle.std.specs.FinMap as finmap
use Rattle.std.specs.Ordering.{is_lt, ordering_reverse}
use Rattle.std.specs.Cmp.{IsTotalOrder, on_total}
use Rattle.std.specs.List.Sorted.{IsPermutation, IsSortedByKey}
use Rattle.std.proofs.lemmas.Bool.{cases_Bool, both_ways, and_parts, and_from}
use Rattle.std.proofs.lemmas.List.{map-append, take_all}
use Rattle.std.proofs.lemmas.List.Elements.{All-contains, Contains-append_cases}
use Rattle.std.proofs.lemmas.List.Sums.{sum_by_push, sum_by-take-le}
use Rattle.std.proofs.Math.Nat.{mul-add, mul-le-mul_left}
use Rattle.std.specs.List.{sum_by}
use Rattle.std.specs.Prelude.{if◌then◌else◌}
use Rattle.std.proofs.lemmas.Option.{same_Some}
use Rattle.quilt_types.specs.declared.plane.Pixel.{Pixel}
use Rattle.quilt_types.specs.declared.plane.Block.{Block}
use Rattle.quilt_types.specs.declared.plane.Point.{Point}
use Rattle.quilt_types.specs.declared.plane.Window.{Window}
use Rattle.quilt_types.specs.Plane.{whole, side, is_window, in_block, in_window, is_pixel, pixel_cmp, parent_of, quarters_of, IsBlock}
use Rattle.quilt_types.specs.Layers.{PointMap, IsPointMap}
use Rattle.quilt_types.specs.Quadtrees.{holds_few, point_blocks}
use Rattle.quilt_loc.specs.Codes.{Rises}
use Rattle.quilt_loc.proofs.Members.{Contains-nil, Contains-cons_cases, Contains-map, Contains-map_from, Contains-filter, Contains-filter_from}
use Rattle.quilt_loc.proofs.Blocks.{in_block-true, Holds-from}
use Rattle.quilt_loc.proofs.Rising.{Rises-filter, Rises-map, same_rising}
use Rattle.quilt_loc.proofs.PlaneOrders.{pixel_total}
use Rattle.quilt_loc.proofs.Quartered.{quarters_are, IsBlock-whole, halved}
use Rattle.quilt_point_laws.proofs.Fewer.{quarter_around}
use Rattle.quilt_record.specs.declared.record.Record.{Record}
use Rattle.quilt_loc.proofs.Nesting.{side_pos}
use Rattle.quilt_spell.specs.Apart.{Apart}
use Rattle.quilt_spell.proofs.Lists.{Apart-filter}
use Rattle.quilt_spell.proofs.Maps.{by_first, Rises-entries, get_from_entry}
use Rattle.quilt_spell.proofs.facts.FactKeys.{pixel_same}
use Rattle.quilt_point_laws.specs.Laws.{AreIn}
use Rattle.quilt_point_laws.proofs.Counts.{few_pixel}
use Rattle.quilt_points.specs.Layers.{point_entry, point_entries}
use Rattle.quilt_points.specs.Reads.{ArePointsOf, IsHeld}
use Rattle.quilt_points.specs.Windows.{IsVisited, IsCovered, meets_window, visited}
use Rattle.quilt_world.proofs.ReadCounts.{reads_then, reads_more}
use Rattle.quilt_world.specs.Tale.{Goes}
use Rattle.quilt_points.proofs.Finds.{pixel_in}
use Rattle.quilt_edits.proofs.Lists.{member_at, take_next}
use Rattle.quilt_points.proofs.Shapes.{block_from}
use Rattle.quilt_edits.proofs.Ascents.{permuted, next_at, apart_at}
use Rattle.quilt_points.proofs.Unions.{AreOfAll, all_next, all_quarters, quarter_before}
use Rattle.quilt_edits.proofs.Ascents as ascents

-- ---- what is found in one block
kept_entries : (p : Point) (ps : List Point) (rest : List (Pixel × ℕ)) (t : Bool) → point_entries ps ≡ rest
    → point_entries (cond t (p ∷ ps) ps) ≡ cond t (point_entry p ∷ rest) rest
kept_entries p ps rest true e = ap (λ l. point_entry p ∷ l) e
kept_entries p ps rest false e = e

entries-kept : (test : Pixel → Bool) (ps : List Point) → point_entries (filter (λ p. test p.at) ps) ≡ filter (λ e. test e.0) (point_entries ps)
entries-kept test [] = refl
entries-kept test (p ∷ ps) =
    kept_entries p (filter (λ (q : Point). test q.at) ps) (filter (λ (e : Pixel × ℕ). test e.0) (point_entries ps)) (test p.at) (entries-kept test ps)

pub kept_of : (points : PointMap) (test : Pixel → Bool) (b : Block) (held : List Point) → AreIn points b (point_entries held)
    → ArePointsOf points test b (point_entries (filter (λ p. test p.at) held))
kept_of points test b held are =
    let keep : Pixel × ℕ → Bool = λ e. test e.0 in
    let inside : Pixel × ℕ → Bool = λ e. in_block b e.0 in
    subst (ArePointsOf points test b) (sym (entries-kept test held)) (record {
      once = Apart-filter keep (point_entries held) are.once;
      members = λ e. (
        λ c.
            let w = Contains-filter_from keep (point_entries held) e c in
            let k = Contains-filter_from inside (finmap.entries points) e ((are.members e).0 w.0) in
            (k.0, w.1, k.1),
        λ w. Contains-filter keep (point_entries held) e ((are.members e).1 (Contains-filter inside (finmap.entries points) e w.0 w.2)) w.1,
      );
    })

-- what is added of a block's points
pub found_held : (n capacity : ℕ) (points : PointMap) (w : Window) (b : Block) (held old new : List Point) → IsHeld n capacity points b held
    → new ≡ old ++ filter (λ p. in_window w p.at) held → (here : List Point) × (new ≡ old ++ here) × ArePointsOf points (in_window w) b (point_entries here)
found_held n capacity points w b held old new h is = (filter (λ (p : Point). in_window w p.at) held, is, kept_of points (in_window w) b held h.are)

pub none_of : (points : PointMap) (test : Pixel → Bool) (b : Block) → ((p : Pixel) → in_block b p ≡ true → test p ≡ true → ⊥) → ArePointsOf points test b []
none_of points test b away = record { once = tt; members = λ e. (λ c. absurd (Contains-nil e c), λ w. absurd (away e.0 w.2 w.1)) }

-- ---- which blocks are come to
module _ (n capacity : ℕ) (points : PointMap) (b : Block) (h : IsVisited n capacity points b) (away : Contains (point_blocks n capacity points) b → ⊥) where
  pub open_many : holds_few capacity points b ≡ false
  open_many =
      ⊎_elim (λ t. absurd (away
      (block_from n capacity points b
      (record { block = h.block; passes = t; last = λ lt u. both_ways (holds_few capacity points (parent_of b)) (h.many lt) u })))) (λ f. f)
      (cases_Bool (holds_few capacity points b))

  pub open_pixel : 1 ≤ capacity → b.side ≤ 1 → ⊥
  open_pixel least small = let pos =
      side_pos n b h.block in both_ways (holds_few capacity points b) open_many (few_pixel n capacity points least b h.block (omega arith))

  pub open_quarter : 1 < b.side → (q : Block) → Contains (quarters_of b) q → IsVisited n capacity points q
  open_quarter wide q c = let r =
      quarters_are n b q h.block wide c in record { block = r.block; many = λ lt. ap (holds_few capacity points) r.parent ∙ open_many }

pub open_whole : (n capacity : ℕ) (points : PointMap) (b : Block) → b ≡ whole n → IsVisited n capacity points b
open_whole n capacity points b is =
    let s = ap (λ (z : Block). z.side) is in
    record { block = subst (IsBlock n) (sym is) (IsBlock-whole n); many = λ lt. absurd (omega arith) }

-- the next quarter's points
pub found_next : (points : PointMap) (test : Pixel → Bool) (n : ℕ) (b : Block) (qs : List Block) (i : ℕ) (d : Block) → IsBlock n b → 1 < b.side
    → qs ≡ quarters_of b → i < 4 → (first old new : List Point)
    → ((here : List Point) × (old ≡ first ++ here) × AreOfAll points test (take i qs) (point_entries here))
    → ((here : List Point) × (new ≡ old ++ here) × ArePointsOf points test (get_or qs i d) (point_entries here))
    → (here : List Point) × (new ≡ first ++ here) × AreOfAll points test (take (i + 1) qs) (point_entries here)
found_next points test n b qs i d hb wide are lt first old new h k =
    let four = ap length are in (
      h.0 ++ k.0,
      k.1 ∙ ap (λ (l : List Point). l ++ k.0) h.1 ∙ append_assoc first h.0 k.0,
      subst (λ (l : List Block). AreOfAll points test l (point_entries (h.0 ++ k.0))) (sym (take_next qs i d (omega arith)))
          (subst (AreOfAll points test (take i qs ++ get_or qs i d ∷ [])) (sym (map-append point_entry h.0 k.0))
          (all_next points test (take i qs) (get_or qs i d) (point_entries h.0) (point_entries k.0) h.2 k.2 (quarter_before n b qs i d hb wide are lt))),
    )

pub found_all : (points : PointMap) (test : Pixel → Bool) (n : ℕ) (b : Block) (qs : List Block) (i : ℕ) → IsBlock n b → 1 < b.side
    → qs ≡ quarters_of b → 4 ≤ i → (first all : List Point)
    → ((here : List Point) × (all ≡ first ++ here) × AreOfAll points test (take i qs) (point_entries here))
    → (here : List Point) × (all ≡ first ++ here) × ArePointsOf points test b (point_entries here)
found_all points test n b qs i hb wide are four first all h =
    let long = ap length are in (
      h.0,
      h.1,
      all_quarters points test n b (point_entries h.0) hb wide
          (subst (λ (l : List Block). AreOfAll points test l (point_entries h.0)) (take_all i qs (omega arith) ∙ are) h.2),
    )

-- ---- in rows
-- the points are in the square
abbrev pub IsInside : ℕ → PointMap → Type 0
IsInside n points = (e : Pixel × ℕ) → Contains (finmap.entries points) e → in_block (whole n) e.0 ≡ true

module _ {X : Type 0} (R : X → X → Ordering) (o : IsTotalOrder R) where
  tail_rises : (x y : X) (ys : List X) → R x y ≡ Less → Rises R (y ∷ ys) → (z : X) → Contains (y ∷ ys) z → R x z ≡ Less
  tail_rises x y ys less up z c = ⊎_elim (λ e. subst (λ (w : X). R x w ≡ Less) e less) (λ d. o.trans x y z less (up.0 z d)) (Contains-cons_cases y ys z c)

  pub steps_rise : (xs : List X) → ((k : ℕ) (d : X) → suc k < length xs → R (get_or xs k d) (get_or xs (suc k) d) ≡ Less) → Rises R xs
  steps_rise [] h = tt
  steps_rise (x ∷ []) h = (λ y c. absurd (Contains-nil y c), tt)
  steps_rise (x ∷ y ∷ xs) h =
      let rest = steps_rise (y ∷ xs) (λ k d lt. h (suc k) d (omega arith)) in
      (tail_rises x y xs (h 0 x (omega arith)) rest, rest)

module _ (points : PointMap) (n : ℕ) (inside : IsInside n points) (w : Window) (found : List Point) (b : Block) (is : b ≡ whole n)
    (are : ArePointsOf points (in_window w) b (point_entries found)) (list : List Point)
    (p : IsPermutation found list) (sorted : IsSortedByKey (λ q. q.at) pixel_cmp list) where
  there : (q : Point) → Contains list q → finmap.get points q.at ≡ Some q.label
  there q c = get_from_entry pixel_cmp pixel_total pixel_same points (point_entry q)
      (((are.members (point_entry q)).0 (Contains-map point_entry found q ((permuted found list p q).1 c))).0)

  once : Apart list
  once = ascents.Apart-permuted found list p (apart_back found are.once)
    where
      apart_back : (ps : List Point) → Apart (point_entries ps) → Apart ps
      apart_back [] h = tt
      apart_back (q ∷ ps) h = (λ c. h.0 (Contains-map point_entry ps q c), apart_back ps h.1)

  rises : Rises (λ q r. pixel_cmp q.at r.at) list
  rises = steps_rise (λ q r. pixel_cmp q.at r.at) (on_total (λ (q : Point). q.at) pixel_total) list (λ k d lt.
      let q = get_or list k d in
      let r = get_or list (suc k) d in
      let cq = member_at list k d (omega arith) in
      let cr = member_at list (suc k) d lt in
      let up = ap (λ (z : Point). is_lt (pixel_cmp z.at q.at)) (next_at list k d) ∙ sorted k d (omega arith) (omega arith) in
      less_from q.at r.at up (λ e.
      apart_at list k d once lt (same_point q r e (same_Some q.label r.label (sym (there q cq) ∙ ap (finmap.get points) e ∙ there r cr)))))
    where
      same_point : (q r : Point) → q.at ≡ r.at → q.label ≡ r.label → q ≡ r
      same_point q r at label = λ i. record { at = at i; label = label i }

      less_from : (a c : Pixel) → is_lt (pixel_cmp c a) ≡ false → (a ≡ c → ⊥) → pixel_cmp a c ≡ Less
      less_from a c down other = by_order (pixel_cmp a c) (pixel_cmp c a) (pixel_total.antisymm c a) refl down
        where
          by_order : (o r : Ordering) → r ≡ ordering_reverse o → o ≡ pixel_cmp a c → is_lt r ≡ false → o ≡ Less
          by_order Less r e is n = refl
          by_order Equal r e is n = absurd (other (pixel_same a c (sym is)))
          by_order Greater r e is n = absurd (both_ways (is_lt r) n (ap is_lt e))

  pub rows_are : point_entries list ≡ filter (λ e. in_window w e.0) (finmap.entries points)
  rows_are =
      same_rising (by_first pixel_cmp) (on_total (λ (e : Pixel × ℕ). e.0) pixel_total) (point_entries list)
      (filter (λ (e : Pixel × ℕ). in_window w e.0) (finmap.entries points))
      (Rises-map (λ (q r : Point). pixel_cmp q.at r.at) (by_first pixel_cmp) point_entry list (λ q r _ _ lt. lt) rises)
      (Rises-filter (by_first pixel_cmp) (λ (e : Pixel × ℕ). in_window w e.0) (finmap.entries points) (Rises-entries pixel_cmp points))
      (λ e. (
        λ c.
            let q = Contains-map_from point_entry list e c in
            let v = (are.members (point_entry q.0)).0 (Contains-map point_entry found q.0 ((permuted found list p q.0).1 q.1)) in
            subst (Contains (filter (λ (e : Pixel × ℕ). in_window w e.0) (finmap.entries points))) q.2
            (Contains-filter (λ (e : Pixel × ℕ). in_window w e.0) (finmap.entries points) (point_entry q.0) v.0 v.1),
        λ c.
            let v = Contains-filter_from (λ (e : Pixel × ℕ). in_window w e.0) (finmap.entries points) e c in
            let on = inside e v.0 in
            let q = Contains-map_from point_entry found e ((are.members e).1 (v.0, v.1, ap (λ (z : Block). in_block z e.0) is ∙ on)) in
            subst (Contains (point_entries list)) q.2 (Contains-map point_entry list q.0 ((permuted found list p q.0).0 q.1)),
      ))

-- each point is in the whole square
pub inside_whole : (n capacity : ℕ) (points : PointMap) → IsPointMap 2 n capacity points → IsInside n points
inside_whole n capacity points valid = λ e c.
    let on = pixel_in n e.0 (All-contains (λ (d : Pixel × ℕ). is_pixel n d.0 ≡ true) (finmap.entries points) e valid.inside c) in
    let x = on.0 in
    let y = on.1 in
    in_block-true (whole n) e.0 (record { left = omega arith; right = omega arith; top = omega arith; bottom = omega arith })

pub whole_pixel : (n : ℕ) (p : Pixel) → is_pixel n p ≡ true → in_block (whole n) p ≡ true
whole_pixel n p t =
    let on = pixel_in n p t in
    let x = on.0 in
    let y = on.1 in
    in_block-true (whole n) p (record { left = omega arith; right = omega arith; top = omega arith; bottom = omega arith })

-- where the pixels of a window are
pub record IsInWindow (w : Window) (p : Pixel) : Type 0 where
  pub left : w.x ≤ p.x
  pub right : p.x < w.x + w.w
  pub top : w.y ≤ p.y
  pub bottom : p.y < w.y + w.h

pub window_from : (w : Window) (p : Pixel) → in_window w p ≡ true → IsInWindow w p
window_from w p t =
    let a = nat_le w.x p.x in
    let b = nat_lt p.x (w.x + w.w) in
    let c = nat_le w.y p.y in
    let last = and_parts (a && b && c) (nat_lt p.y (w.y + w.h)) t in
    let third = and_parts (a && b) c last.0 in
    let second = and_parts a b third.0 in
    record {
      left = leb-true w.x p.x second.0;
      right = ltb-true p.x (w.x + w.w) second.1;
      top = leb-true w.y p.y third.1;
      bottom = ltb-true p.y (w.y + w.h) last.1;
    }

-- ---- over any records
-- a pixel of a block is one of a quarter's
pub quarter_pixel : (n : ℕ) (b : Block) (qs : List Block) (i : ℕ) (p : Pixel) → IsBlock n b → 1 < b.side → qs ≡ quarters_of b → 4 ≤ i
    → in_block b p ≡ true → (q : Block) × Contains (take i qs) q × (in_block q p ≡ true)
quarter_pixel n b qs i p hb wide are four on =
    let v = halved n b hb wide in
    let size = v.2 in
    let half = v.3 in
    let d = pow-suc 2 v.0 in
    let q = quarter_around b p (omega arith) (Holds-from b p on) in
    let long = ap length are in
    (q.0, subst (λ (l : List Block). Contains l q.0) (sym (take_all i qs (omega arith) ∙ are)) q.1, q.2)

pub covered_next : (n capacity number : ℕ) (rs : List Record) (p : Pixel) (qs : List Block) (i : ℕ) (d : Block) → i < length qs
    → ((q : Block) → Contains (take i qs) q → in_block q p ≡ true → IsCovered n capacity number rs p)
    → (in_block (get_or qs i d) p ≡ true → IsCovered n capacity number rs p)
    → (q : Block) → Contains (take (i + 1) qs) q → in_block q p ≡ true → IsCovered n capacity number rs p
covered_next n capacity number rs p qs i d lt before here q c on =
    ⊎_elim (λ m. before q m on)
    (λ m. here (subst (λ (b : Block). in_block b p ≡ true) (one_there (get_or qs i d) q m) on))
    (Contains-append_cases (take i qs) (get_or qs i d ∷ []) q (subst (λ (l : List Block). Contains l q) (take_next qs i d lt) c))
  where
    one_there : (x y : Block) → Contains (x ∷ []) y → y ≡ x
    one_there x y m = ⊎_elim (λ e. sym e) (λ no. absurd (Contains-nil y no)) (Contains-cons_cases x [] y m)

-- ---- what a block and a window have in common
iff_and : (p q r : Bool) → (p ≡ true → (q ≡ true) × (r ≡ true)) → (q ≡ true → r ≡ true → p ≡ true) → p ≡ (q && r)
iff_and true true true f g = refl
iff_and true true false f g = let h = (f refl).1 in cc
iff_and true false r f g = let h = (f refl).0 in cc
iff_and false true true f g = let h = g refl refl in cc
iff_and false true false f g = refl
iff_and false false r f g = refl

pub overlap_up : (a length b other : ℕ) → a ≤ b → 1 ≤ other → nat_lt (b - a) length ≡ (nat_lt b (a + length) && nat_lt a (b + other))
overlap_up a length b other le some =
    iff_and (nat_lt (b - a) length) (nat_lt b (a + length)) (nat_lt a (b + other))
    (λ t. let lt = ltb-true (b - a) length t in (lt-ltb b (a + length) (omega arith), lt-ltb a (b + other) (omega arith)))
    (λ t u. let lt = ltb-true b (a + length) t in lt-ltb (b - a) length (omega arith))

pub overlap_down : (a length b other : ℕ) → b < a → 1 ≤ length → nat_lt (a - b) other ≡ (nat_lt b (a + length) && nat_lt a (b + other))
overlap_down a length b other lt some =
    iff_and (nat_lt (a - b) other) (nat_lt b (a + length)) (nat_lt a (b + other))
    (λ t. let m = ltb-true (a - b) other t in (lt-ltb b (a + length) (omega arith), lt-ltb a (b + other) (omega arith)))
    (λ t u. let m = ltb-true a (b + other) u in lt-ltb (a - b) other (omega arith))

pub meets_pixel : (w : Window) (b : Block) (p : Pixel) → in_block b p ≡ true → in_window w p ≡ true → meets_window w b ≡ true
meets_pixel w b p on inside =
    let h = Holds-from b p on in
    let v = window_from w p inside in
    let l = h.left in
    let r = h.right in
    let t = h.top in
    let d = h.bottom in
    let vl = v.left in
    let vr = v.right in
    let vt = v.top in
    let vd = v.bottom in
    and_from (nat_lt w.x (b.x + b.side) && nat_lt b.x (w.x + w.w)) (nat_lt w.y (b.y + b.side) && nat_lt b.y (w.y + w.h))
    (and_from (nat_lt w.x (b.x + b.side)) (nat_lt b.x (w.x + w.w)) (lt-ltb w.x (b.x + b.side) (omega arith)) (lt-ltb b.x (w.x + w.w) (omega arith)))
    (and_from (nat_lt w.y (b.y + b.side)) (nat_lt b.y (w.y + w.h)) (lt-ltb w.y (b.y + b.side) (omega arith)) (lt-ltb b.y (w.y + w.h) (omega arith)))

pub meets_none : (w : Window) (b : Block) → meets_window w b ≡ false → (p : Pixel) → in_block b p ≡ true → in_window w p ≡ true → ⊥
meets_none w b none p on inside = both_ways (meets_window w b) none (meets_pixel w b p on inside)

-- ---- how many quadrants are visited
module _ (capacity : ℕ) (points : PointMap) (w : Window) where
  few_or : (t : Bool) (n : ℕ) → 1 ≤ (if t then 1 else 1 + n)
  few_or true n = omega arith
  few_or false n = omega arith

  visits_some : (k : ℕ) (b : Block) → meets_window w b ≡ true → 1 ≤ visited k capacity points w b
  visits_some zero b m = subst (λ (t : Bool). 1 ≤ (if t then 1 else 0)) (sym m) (let one : 1 ≤ 1 = omega arith in one)
  visits_some (suc k) b m =
      let n = sum_by (visited k capacity points w) (quarters_of b) in
      subst (λ (t : Bool). 1 ≤ (if t then (if holds_few capacity points b then 1 else 1 + n) else 0)) (sym m) (few_or (holds_few capacity points b) n)

  visits_inner : (k : ℕ) (b : Block) → meets_window w b ≡ true → holds_few capacity points b ≡ false
      → visited (suc k) capacity points w b ≡ 1 + sum_by (visited k capacity points w) (quarters_of b)
  visits_inner k b m f =
      let n = sum_by (visited k capacity points w) (quarters_of b) in
      ap (λ (t : Bool). if t then (if holds_few capacity points b then 1 else 1 + n) else 0) m ∙ ap (λ (t : Bool). if t then 1 else 1 + n) f

  pub reads_once : (r k : ℕ) (b : Block) (old new : Option ℕ) → meets_window w b ≡ true → Goes {A = ℕ} (λ x y. y ≤ x + r) old new
      → Goes {A = ℕ} (λ x y. y ≤ x + r * visited k capacity points w b) old new
  reads_once r k b old new m h =
      let le : r * 1 ≤ r * visited k capacity points w b = mul-le-mul_left r (visits_some k b m) in
      reads_more r (r * visited k capacity points w b) old new (omega arith) h

  pub reads_first : (r k : ℕ) (qs : List Block) (old new : Option ℕ) → Goes {A = ℕ} (λ x y. y ≤ x + r) old new
      → Goes {A = ℕ} (λ x y. y ≤ x + r * (1 + sum_by (visited k capacity points w) (take 0 qs))) old new
  reads_first r k qs old new h = reads_more r (r * (1 + 0)) old new (omega arith) h

  pub reads_next : (r k : ℕ) (qs : List Block) (i : ℕ) (d : Block) (old now new : Option ℕ) → i < length qs
      → Goes {A = ℕ} (λ x y. y ≤ x + r * (1 + sum_by (visited k capacity points w) (take i qs))) old now
      → Goes {A = ℕ} (λ x y. y ≤ x + r * visited k capacity points w (get_or qs i d)) now new
      → Goes {A = ℕ} (λ x y. y ≤ x + r * (1 + sum_by (visited k capacity points w) (take (i + 1) qs))) old new
  reads_next r k qs i d old now new lt h g =
      let f = visited k capacity points w in
      let s = sum_by f (take i qs) in
      let v = f (get_or qs i d) in
      let e : sum_by f (take (i + 1) qs) ≡ s + v = ap (sum_by f) (take_next qs i d lt) ∙ sum_by_push f (take i qs) (get_or qs i d) in
      let two : 1 + sum_by f (take (i + 1) qs) ≡ (1 + s) + v = omega arith in
      let m : r * (1 + sum_by f (take (i + 1) qs)) ≡ r * (1 + s) + r * v = ap (λ (n : ℕ). r * n) two ∙ mul-add r (1 + s) v in
      reads_then (r * (1 + s)) (r * v) (r * (1 + sum_by f (take (i + 1) qs))) old now new (omega arith) h g

  pub reads_within : (r k : ℕ) (b : Block) (qs : List Block) (i : ℕ) (old new : Option ℕ) → qs ≡ quarters_of b → meets_window w b ≡ true
      → holds_few capacity points b ≡ false
      → Goes {A = ℕ} (λ x y. y ≤ x + r * (1 + sum_by (visited k capacity points w) (take i qs))) old new
      → Goes {A = ℕ} (λ x y. y ≤ x + r * visited (suc k) capacity points w b) old new
  reads_within r k b qs i old new are m f h =
      let g = visited k capacity points w in
      let e = visits_inner k b m f in
      let all : sum_by g qs ≡ sum_by g (quarters_of b) = ap (sum_by g) are in
      let part = sum_by-take-le g qs i in
      let le : 1 + sum_by g (take i qs) ≤ visited (suc k) capacity points w b = omega arith in
      reads_more (r * (1 + sum_by g (take i qs))) (r * visited (suc k) capacity points w b) old new (mul-le-mul_left r le) h

pub quarter_side : (k s t : ℕ) → 2 * s ≡ t → t ≡ 2 ^ suc k → s ≡ 2 ^ k
quarter_side k s t half is = let p = pow-suc 2 k in omega arith

-- a side over 1 is 2 to the power of a successor
pub wide_power : (k s : ℕ) → 1 < s → s ≡ 2 ^ k → (j : ℕ) × (k ≡ suc j)
wide_power zero s lt is = absurd (omega arith)
wide_power (suc k) s lt is = (k, refl)

-- the sides of a window
pub window_sides : (n : ℕ) (w : Window) → is_window n w ≡ true → (1 ≤ w.w) × (1 ≤ w.h)
window_sides n w t =
    let last = and_parts (nat_le 1 w.w && nat_le 1 w.h && nat_le (w.x + w.w) (side n)) (nat_le (w.y + w.h) (side n)) t in
    let third = and_parts (nat_le 1 w.w && nat_le 1 w.h) (nat_le (w.x + w.w) (side n)) last.0 in
    let second = and_parts (nat_le 1 w.w) (nat_le 1 w.h) third.0 in
    (leb-true 1 w.w second.0, leb-true 1 w.h second.1)

pub window_corner : (n : ℕ) (w : Window) → is_window n w ≡ true → (w.x < side n) × (w.y < side n)
window_corner n w t =
    let last = and_parts (nat_le 1 w.w && nat_le 1 w.h && nat_le (w.x + w.w) (side n)) (nat_le (w.y + w.h) (side n)) t in
    let third = and_parts (nat_le 1 w.w && nat_le 1 w.h) (nat_le (w.x + w.w) (side n)) last.0 in
    let s = window_sides n w t in
    let some = s.0 in
    let more = s.1 in
    let x = leb-true (w.x + w.w) (side n) third.1 in
    let y = leb-true (w.y + w.h) (side n) last.1 in
    (omega arith, omega arith)
