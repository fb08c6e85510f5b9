-- Two segments share a point exactly where the signs of their cross products say so.
use Rattle.std.proofs.Common.{◌≡◌, ℕ, ◌+◌, ◌-◌, ◌≤◌, ◌↔◌, Bool, true, ◌&&◌, ⊎_elim, arith, sym, ◌∙◌}
use Rattle.std.proofs.lemmas.Bool.{cases_lt, or_cases}
use Rattle.std.proofs.lemmas.Bool.Decides.{nat_tests}
use Rattle.quilt_types.specs.declared.plane.Seg.{Seg}
use Rattle.quilt_types.specs.Crossings.{Share, shares, overlap}
use Rattle.quilt_join.specs.Sides.{left_products, right_products, is_turned, parts}
use Rattle.quilt_join.proofs.Turns.{shares_is}
use Rattle.quilt_join.proofs.SharedPoints.{shared_back, shared_parts, shared_overlap}
use Rattle.quilt_join.proofs.MeetingPoints.{crossed, beyond_shares, behind_shares}
use Rattle.quilt_join.proofs.Collinear.{level_shares}

turned_from : (u v s t : ℕ) → is_turned (u, v) (s, t) ≡ true → (u ≤ v) × (t ≤ s)
turned_from u v s t h = (grind (arith, nat_tests), grind (arith, nat_tests))

all_from : (a b c d : Bool) → (a && b && c && d) ≡ true → (a ≡ true) × (b ≡ true) × (c ≡ true) × (d ≡ true)
all_from a b c d h = (grind (arith, nat_tests), grind (arith, nat_tests), grind (arith, nat_tests), grind (arith, nat_tests))

all_of : (a b c d : Bool) → a ≡ true → b ≡ true → c ≡ true → d ≡ true → (a && b && c && d) ≡ true
all_of a b c d e f g h = grind (arith, nat_tests)

-- signs that agree with parallel lines alone
flat_share : (s r : Seg) → overlap s.x1 s.x2 r.x1 r.x2 ≡ true → overlap s.y1 s.y2 r.y1 r.y2 ≡ true →
    left_products s r.x1 r.y1 ≤ right_products s r.x1 r.y1 → right_products s r.x2 r.y2 ≤ left_products s r.x2 r.y2 →
    left_products r s.x1 s.y1 ≤ right_products r s.x1 s.y1 → right_products r s.x2 s.y2 ≤ left_products r s.x2 s.y2 → Share s r
flat_share s r x y first last other_first other_last =
    let same = crossed s r in
    level_shares s r (record {
      first = record { even = omega arith };
      last = record { even = omega arith };
      other_first = record { even = omega arith };
      other_last = record { even = omega arith };
    }) x y

flat_back : (s r : Seg) → overlap s.x1 s.x2 r.x1 r.x2 ≡ true → overlap s.y1 s.y2 r.y1 r.y2 ≡ true →
    right_products s r.x1 r.y1 ≤ left_products s r.x1 r.y1 → left_products s r.x2 r.y2 ≤ right_products s r.x2 r.y2 →
    right_products r s.x1 s.y1 ≤ left_products r s.x1 s.y1 → left_products r s.x2 s.y2 ≤ right_products r s.x2 s.y2 → Share s r
flat_back s r x y first last other_first other_last =
    let same = crossed s r in
    level_shares s r (record {
      first = record { even = omega arith };
      last = record { even = omega arith };
      other_first = record { even = omega arith };
      other_last = record { even = omega arith };
    }) x y

-- how far the ends lie from the lines of the other segment, on the one side or the other
crossed_share : (s r : Seg) → overlap s.x1 s.x2 r.x1 r.x2 ≡ true → overlap s.y1 s.y2 r.y1 r.y2 ≡ true →
    left_products s r.x1 r.y1 ≤ right_products s r.x1 r.y1 → right_products s r.x2 r.y2 ≤ left_products s r.x2 r.y2 →
    right_products r s.x1 s.y1 ≤ left_products r s.x1 s.y1 → left_products r s.x2 s.y2 ≤ right_products r s.x2 s.y2 → Share s r
crossed_share s r x y first last other_first other_last =
    let e = left_products r s.x1 s.y1 - right_products r s.x1 s.y1 in
    let f = right_products r s.x2 s.y2 - left_products r s.x2 s.y2 in
    let g = right_products s r.x1 r.y1 - left_products s r.x1 r.y1 in
    let h = left_products s r.x2 r.y2 - right_products s r.x2 r.y2 in
    ⊎_elim
    (λ pos. beyond_shares s r e f g h (record { first = omega arith; last = omega arith; other_first = omega arith; other_last = omega arith }) pos)
    (λ none. flat_share s r x y first last (omega arith) (omega arith))
    (cases_lt 0 (e + f))

crossed_back : (s r : Seg) → overlap s.x1 s.x2 r.x1 r.x2 ≡ true → overlap s.y1 s.y2 r.y1 r.y2 ≡ true →
    right_products s r.x1 r.y1 ≤ left_products s r.x1 r.y1 → left_products s r.x2 r.y2 ≤ right_products s r.x2 r.y2 →
    left_products r s.x1 s.y1 ≤ right_products r s.x1 s.y1 → right_products r s.x2 s.y2 ≤ left_products r s.x2 s.y2 → Share s r
crossed_back s r x y first last other_first other_last =
    let e = right_products r s.x1 s.y1 - left_products r s.x1 s.y1 in
    let f = left_products r s.x2 s.y2 - right_products r s.x2 s.y2 in
    let g = left_products s r.x1 r.y1 - right_products s r.x1 r.y1 in
    let h = right_products s r.x2 r.y2 - left_products s r.x2 r.y2 in
    ⊎_elim
    (λ pos. behind_shares s r e f g h (record { first = omega arith; last = omega arith; other_first = omega arith; other_last = omega arith }) pos)
    (λ none. flat_back s r x y first last (omega arith) (omega arith))
    (cases_lt 0 (e + f))

signs_share : (s r : Seg) → overlap s.x1 s.x2 r.x1 r.x2 ≡ true → overlap s.y1 s.y2 r.y1 r.y2 ≡ true → parts s r ≡ true → parts r s ≡ true → Share s r
signs_share s r x y p q =
    ⊎_elim
    (λ one.
    let ends = turned_from (left_products s r.x1 r.y1) (right_products s r.x1 r.y1) (left_products s r.x2 r.y2) (right_products s r.x2 r.y2) one in
    ⊎_elim
    (λ two.
    let others = turned_from (left_products r s.x1 s.y1) (right_products r s.x1 s.y1) (left_products r s.x2 s.y2) (right_products r s.x2 s.y2) two in
    flat_share s r x y ends.0 ends.1 others.0 others.1)
    (λ two.
    let others = turned_from (left_products r s.x2 s.y2) (right_products r s.x2 s.y2) (left_products r s.x1 s.y1) (right_products r s.x1 s.y1) two in
    crossed_share s r x y ends.0 ends.1 others.1 others.0)
    (or_cases _ _ q))
    (λ one.
    let ends = turned_from (left_products s r.x2 r.y2) (right_products s r.x2 r.y2) (left_products s r.x1 r.y1) (right_products s r.x1 r.y1) one in
    ⊎_elim
    (λ two.
    let others = turned_from (left_products r s.x1 s.y1) (right_products r s.x1 s.y1) (left_products r s.x2 s.y2) (right_products r s.x2 s.y2) two in
    crossed_back s r x y ends.1 ends.0 others.0 others.1)
    (λ two.
    let others = turned_from (left_products r s.x2 s.y2) (right_products r s.x2 s.y2) (left_products r s.x1 s.y1) (right_products r s.x1 s.y1) two in
    flat_back s r x y ends.1 ends.0 others.1 others.0)
    (or_cases _ _ q))
    (or_cases _ _ p)

-- the law in both directions, for what a test has found
pub sign_law : (found : Bool) (s r : Seg) → found ≡ shares s r → (found ≡ true) ↔ Share s r
sign_law found s r is = (
  λ yes.
      let all = all_from (overlap s.x1 s.x2 r.x1 r.x2) (overlap s.y1 s.y2 r.y1 r.y2) (parts s r) (parts r s) (sym (is ∙ shares_is s r) ∙ yes) in
      signs_share s r all.0 all.1 all.2 all.3,
  λ share.
      let boxes = shared_overlap s r share in
      is ∙ shares_is s r ∙ all_of (overlap s.x1 s.x2 r.x1 r.x2) (overlap s.y1 s.y2 r.y1 r.y2) (parts s r) (parts r s) boxes.0 boxes.1
      (shared_parts r s (shared_back s r share)) (shared_parts s r share),
)
