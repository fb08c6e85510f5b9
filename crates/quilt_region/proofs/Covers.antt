-- The blocks of a side that meet a window: what is read of them, and what colours they give.
use Rattle.std.proofs.Common.{◌≡◌, ℕ, suc, pow-suc, pow_pos, ◌+◌, ◌-◌, ◌*◌, ◌%◌, ◌/◌, ◌^◌, ◌<◌, ◌≤◌, Bool, true, false, ◌&&◌, nat_lt, nat_le, eqb, List, [], ◌∷◌}
use Rattle.std.proofs.Common.{map, take, get_or, length, refl, sym, ◌∙◌, ap, subst, ⊎_elim, Contains, arith, if◌then◌else◌}
use Rattle.std.specs.List.{sum_by}
use Rattle.std.proofs.Math.Nat.{pow-le-pow_right}
use Rattle.std.proofs.lemmas.List.Sums.{sum_by-cons, sum_by_push}
use Rattle.std.proofs.lemmas.Bool.{cases_lt, cases_Bool, and_parts, and_from, leb-true, ltb-true, lt-ltb, eqb-true, false_from_ne_true}
use Rattle.quilt_types.specs.declared.plane.Pixel.{Pixel}
use Rattle.quilt_types.specs.declared.plane.Window.{Window}
use Rattle.quilt_types.specs.declared.plane.Block.{Block}
use Rattle.quilt_types.specs.Plane.{side, corner, parent_of, quarters_of, is_window, in_window, in_block, Holds, IsBlock, Within}
use Rattle.quilt_types.specs.Layers.{Grid, IsGrid, colour_at}
use Rattle.quilt_types.specs.Algebra.{grid_of}
use Rattle.quilt_loc.proofs.Members.{Contains-nil, Contains-here, Contains-there, Contains-cons_cases, Contains-map, Contains-flat_map}
use Rattle.quilt_loc.proofs.Blocks.{Holds-from, in_block-true}
use Rattle.quilt_loc.proofs.Rows.{colour_at-grid_of}
use Rattle.quilt_loc.proofs.Steps.{start_is}
use Rattle.quilt_loc.proofs.Around.{IsBlock-around, Holds-around}
use Rattle.quilt_loc.proofs.Nesting.{around_is, Within-holds, Holds-corner, side_pos, nested, IsBlock-parent_of, Within-parent_of, Within-trans, parent_within}
use Rattle.quilt_loc.proofs.Quartered.{side_le, halved}
use Rattle.quilt_blocks.proofs.Cuts.{leaf_is}
use Rattle.quilt_blocks.proofs.Leaves.{uniform_down}
use Rattle.quilt_blocks.proofs.Listed.{held_in}
use Rattle.quilt_edits.proofs.Lists.{take_next}
use Rattle.quilt_region.specs.Windows.{IsLeafWith, IsCutOut, leaves_within}
use Rattle.quilt_region.specs.Covers.{AgreesIn, window_meets, start_of, starts, cover_of, IsSideOver, block_of, cover_colour, cost_in}
use Rattle.quilt_region.proofs.Beside.{true_false, held_not}
use Rattle.quilt_region.proofs.GridsFit.{cover_fits}
use Rattle.quilt_region.proofs.Nearby.{window_in, power_le}

-- ---- a window and a block that have a pixel in common
pub record Meets (w : Window) (b : Block) : Type 0 where
  pub left : b.x < w.x + w.w
  pub right : w.x < b.x + b.side
  pub top : b.y < w.y + w.h
  pub bottom : w.y < b.y + b.side

pub meets_from : (w : Window) (b : Block) → window_meets w b ≡ true → Meets w b
meets_from w b t =
    let p = nat_lt b.x (w.x + w.w) in
    let q = nat_lt w.x (b.x + b.side) in
    let r = nat_lt b.y (w.y + w.h) in
    let s = nat_lt w.y (b.y + b.side) in
    let last = and_parts (p && q && r) s t in
    let third = and_parts (p && q) r last.0 in
    let first = and_parts p q third.0 in
    record { left = ltb-true _ _ first.0; right = ltb-true _ _ first.1; top = ltb-true _ _ third.1; bottom = ltb-true _ _ last.1 }

pub meets_at : (w : Window) (b : Block) → Meets w b → window_meets w b ≡ true
meets_at w b m = and_from _ _ (and_from _ _ (and_from _ _ (lt-ltb _ _ m.left) (lt-ltb _ _ m.right)) (lt-ltb _ _ m.top)) (lt-ltb _ _ m.bottom)

-- a larger block meets it too
meets_more : (w : Window) (a b : Block) → Within a b → Meets w a → Meets w b
meets_more w a b within m =
    let wl = within.left in
    let wr = within.right in
    let wt = within.top in
    let wb = within.bottom in
    let l = m.left in
    let r = m.right in
    let t = m.top in
    let d = m.bottom in
    record { left = omega arith; right = omega arith; top = omega arith; bottom = omega arith }

-- a block that holds one of its pixels
meets_pixel : (w : Window) (b : Block) (p : Pixel) → in_window w p ≡ true → Holds b p → Meets w b
meets_pixel w b p t held =
    let i = nat_le w.x p.x in
    let j = nat_lt p.x (w.x + w.w) in
    let k = nat_le w.y p.y in
    let l = nat_lt p.y (w.y + w.h) in
    let last = and_parts (i && j && k) l t in
    let third = and_parts (i && j) k last.0 in
    let first = and_parts i j third.0 in
    let a = leb-true w.x p.x first.0 in
    let b' = ltb-true p.x (w.x + w.w) first.1 in
    let c = leb-true w.y p.y third.1 in
    let d = ltb-true p.y (w.y + w.h) last.1 in
    let hl = held.left in
    let hr = held.right in
    let ht = held.top in
    let hb = held.bottom in
    record { left = omega arith; right = omega arith; top = omega arith; bottom = omega arith }

-- ---- the colours
module _ (n : ℕ) (g : Grid) (s : ℕ) (w : Window) where
  -- in a block that does not meet the window
  pub beside_cover : (b : Block) (p : Pixel) → IsBlock n b → (k : ℕ) × (s ≡ 2 ^ k) → s ≤ b.side → window_meets w b ≡ false → Holds b p → cover_colour n g s w p ≡ 0
  beside_cover b p hb power wide apart held =
      let k = power.0 in
      let low = power_le k hb.level hb.size (let e = power.1 in let z : 2 ^ k ≤ b.side = omega arith in z) in
      let top = hb.low in
      let sq = held_in n b p hb held in
      let small : Block = block_of (2 ^ k) p in
      let here = Holds-around k p in
      let e = power.1 in
      let less : 2 ^ k ≤ b.side = omega arith in
      let within : Within small b = nested n small b p (IsBlock-around n k p (omega arith) sq.0 sq.1) hb less here held in
      let none : window_meets w small ≡ false = false_from_ne_true (window_meets w small) (λ t. true_false (sym (meets_at w b (meets_more w small b within (meets_from w small t))) ∙ apart)) in
      ap (λ (t : Bool). if t then colour_at n g p else 0) (ap (λ (z : ℕ). window_meets w (block_of z p)) e ∙ none)

  -- in one of the blocks that do
  pub met_cover : (b : Block) (p : Pixel) → IsBlock n b → b.side ≡ s → window_meets w b ≡ true → Holds b p → cover_colour n g s w p ≡ colour_at n g p
  met_cover b p hb size met held =
      let same : block_of s p ≡ b = ap (λ (z : ℕ). block_of z p) (sym size) ∙ around_is n b p hb held in
      ap (λ (t : Bool). if t then colour_at n g p else 0) (ap (window_meets w) same ∙ met)

  -- at the window's pixels
  pub window_cover : (p : Pixel) → (k : ℕ) × (s ≡ 2 ^ k) → in_window w p ≡ true → cover_colour n g s w p ≡ colour_at n g p
  window_cover p power t =
      let k = power.0 in
      let e = power.1 in
      let met = meets_at w (block_of (2 ^ k) p) (meets_pixel w (block_of (2 ^ k) p) p t (Holds-around k p)) in
      ap (λ (t : Bool). if t then colour_at n g p else 0) (ap (λ (z : ℕ). window_meets w (block_of z p)) e ∙ met)

-- a pixel of the window is one of the square
in_square : (n : ℕ) (w : Window) (p : Pixel) → is_window n w ≡ true → in_window w p ≡ true → (p.x < side n) × (p.y < side n)
in_square n w p t inside =
    let i = window_in n w t in
    let right = i.right in
    let bottom = i.bottom in
    let x = nat_le w.x p.x && nat_lt p.x (w.x + w.w) in
    let last = and_parts (x && nat_le w.y p.y) (nat_lt p.y (w.y + w.h)) inside in
    let third = and_parts x (nat_le w.y p.y) last.0 in
    let first = and_parts (nat_le w.x p.x) (nat_lt p.x (w.x + w.w)) third.0 in
    let a = ltb-true p.x (w.x + w.w) first.1 in
    let b = ltb-true p.y (w.y + w.h) last.1 in
    (omega arith, omega arith)

-- all of it
pub agrees_from : (n s : ℕ) (w : Window) (g h : Grid) → is_window n w ≡ true → (k : ℕ) × (s ≡ 2 ^ k) → h ≡ grid_of n (cover_colour n g s w) → AgreesIn n w g h
agrees_from n s w g h t power is = record {
  each = λ p inside.
      let at = in_square n w p t inside in
      ap (λ (x : Grid). colour_at n x p) is ∙ colour_at-grid_of n (cover_colour n g s w) p at.0 at.1 ∙ window_cover n g s w p power inside;
  fits = λ form fit. subst (IsGrid form n) (sym is) (cover_fits form n g s w fit);
}

-- ---- the leaf that holds a block's first pixel
-- where it is smaller, the block lies in no larger one of one colour
pub smaller_cut : (n : ℕ) (g : Grid) (e : Block × ℕ) (b : Block) → IsBlock n b → IsLeafWith n g (corner b) e → e.0.side < b.side → IsCutOut n g b
smaller_cut n g e b hb leaf less = record {
  several = λ lt u.
      let m = (leaf_is n g e leaf.member).maximal in
      let he = m.block in
      let small = side_le n b hb in
      let room : e.0.side < 2 ^ n = omega arith in
      let inside = parent_within n e.0 b (corner b) he hb less small leaf.holds (Holds-corner n b hb) in
      let all = Within-trans (parent_of e.0) b (parent_of b) inside (Within-parent_of n b hb lt) in
      m.last room ((uniform_down n g).down (parent_of e.0) (parent_of b) (IsBlock-parent_of n e.0 he room) (IsBlock-parent_of n b hb lt) all u);
}

-- where it is not, all of the block has its colour
pub larger_colour : (n : ℕ) (g : Grid) (e : Block × ℕ) (b : Block) (p : Pixel) → IsBlock n b → IsLeafWith n g (corner b) e → b.side ≤ e.0.side
    → Holds b p → colour_at n g p ≡ e.1
larger_colour n g e b p hb leaf le held =
    let is = leaf_is n g e leaf.member in
    let within = nested n b e.0 (corner b) hb is.maximal.block le (Holds-corner n b hb) leaf.holds in
    is.colour.each p (Within-holds b e.0 p within held)

-- ---- the cover
-- a block that meets the window begins where its first or its last number does
in_starts : (s first last at : ℕ) → 0 < s → at % s ≡ 0 → at ≤ last → first < at + s → last < first + s → Contains (starts s first last) at
in_starts s first last at pos on low high near =
    ⊎_elim
    (λ (late : first < at).
    let e : start_of s last ≡ at = start_is s at last pos on low (omega arith) in
    ⊎_elim
    (λ same. subst (λ l. Contains l at) (sym (chosen true same)) (subst (Contains (start_of s first ∷ [])) (eqb-true _ _ same ∙ e) (Contains-here (start_of s first) [])))
    (λ differ. subst (λ l. Contains l at) (sym (chosen false differ))
    (subst (Contains (start_of s first ∷ start_of s last ∷ [])) e (Contains-there (start_of s first) (start_of s last ∷ []) (start_of s last) (Contains-here (start_of s last) []))))
    (cases_Bool (eqb (start_of s first) (start_of s last))))
    (λ (early : at ≤ first).
    let e : start_of s first ≡ at = start_is s at first pos on early high in
    ⊎_elim
    (λ same. subst (λ l. Contains l at) (sym (chosen true same)) (subst (Contains (start_of s first ∷ [])) e (Contains-here (start_of s first) [])))
    (λ differ. subst (λ l. Contains l at) (sym (chosen false differ)) (subst (Contains (start_of s first ∷ start_of s last ∷ [])) e (Contains-here (start_of s first) (start_of s last ∷ []))))
    (cases_Bool (eqb (start_of s first) (start_of s last))))
    (cases_lt first at)
  where
    one : List ℕ
    one = start_of s first ∷ []

    two : List ℕ
    two = start_of s first ∷ start_of s last ∷ []

    chosen : (t : Bool) → eqb (start_of s first) (start_of s last) ≡ t → starts s first last ≡ (if t then one else two)
    chosen t e = ap (λ (u : Bool). if u then one else two) e

pub in_cover : (n s : ℕ) (w : Window) (b : Block) → is_window n w ≡ true → w.w ≤ s → w.h ≤ s → IsBlock n b → b.side ≡ s → window_meets w b ≡ true → Contains (cover_of s w) b
unfolding cover_of
in_cover n s w b t wide high hb size met =
    let i = window_in n w t in
    let some = i.wide in
    let any = i.high in
    let m = meets_from w b met in
    let left = m.left in
    let right = m.right in
    let top = m.top in
    let bottom = m.bottom in
    let pos = side_pos n b hb in
    let on_x : b.x % s ≡ 0 = ap (λ (z : ℕ). b.x % z) (sym size) ∙ hb.on_x in
    let on_y : b.y % s ≡ 0 = ap (λ (z : ℕ). b.y % z) (sym size) ∙ hb.on_y in
    let at_x = in_starts s w.x (w.x + w.w - 1) b.x (omega arith) on_x (omega arith) (omega arith) (omega arith) in
    let at_y = in_starts s w.y (w.y + w.h - 1) b.y (omega arith) on_y (omega arith) (omega arith) (omega arith) in
    let row = λ (y : ℕ). map (λ (x : ℕ). let c : Block = record { x = x; y = y; side = s } in c) (starts s w.x (w.x + w.w - 1)) in
    let there : Contains (cover_of s w) (record { x = b.x; y = b.y; side = s }) =
    Contains-flat_map row (starts s w.y (w.y + w.h - 1)) b.y _ at_y (Contains-map _ (starts s w.x (w.x + w.w - 1)) b.x at_x) in
    subst (λ (z : ℕ). Contains (cover_of s w) (record { x = b.x; y = b.y; side = z })) (sym size) there

-- a power of two that is less than another one
pub doubled_le : (s i k : ℕ) → s ≡ 2 ^ i → s < 2 ^ k → 2 * s ≤ 2 ^ k
doubled_le s i k e lt =
    ⊎_elim
    (λ (less : i < k). let p = pow-suc 2 i in let w : 2 ^ suc i ≤ 2 ^ k = pow-le-pow_right (let z : 0 < 2 = omega arith in z) less in omega arith)
    (λ (ge : k ≤ i). let w : 2 ^ k ≤ 2 ^ i = pow-le-pow_right (let z : 0 < 2 = omega arith in z) ge in absurd (omega arith)) (cases_lt i k)

-- a larger block has more than one pixel in a row, and its quarters are no smaller
pub wide_over : (s : ℕ) (b : Block) → (k : ℕ) × (s ≡ 2 ^ k) → s ≤ b.side → (b.side ≡ s → ⊥) → 1 < b.side
wide_over s b power le differ =
    let e = power.1 in
    let pos = pow_pos power.0 in
    ⊎_elim (λ lt. omega arith) (λ ge. absurd (differ (omega arith))) (cases_lt s b.side)

pub half_over : (n s : ℕ) (b : Block) → IsBlock n b → (k : ℕ) × (s ≡ 2 ^ k) → s ≤ b.side → (b.side ≡ s → ⊥) → (q : Block) → 2 * q.side ≡ b.side → s ≤ q.side
half_over n s b hb power le differ q half =
    let size = hb.size in
    ⊎_elim (λ (lt : s < b.side). let twice = doubled_le s power.0 hb.level power.1 (let z : s < 2 ^ hb.level = omega arith in z) in omega arith)
    (λ ge. absurd (differ (omega arith))) (cases_lt s b.side)

-- both are the least
pub side_same : (w : Window) (s t : ℕ) → IsSideOver w s → IsSideOver w t → s ≡ t
side_same w s t a b =
    let es = a.power.1 in
    let et = b.power.1 in
    let wa = a.wide in
    let ha = a.high in
    let wb = b.wide in
    let hb = b.high in
    let le = a.least b.power.0 (omega arith) (omega arith) in
    let ge = b.least a.power.0 (omega arith) (omega arith) in
    omega arith

-- ---- what is read
member_le : {X : Type 0} (f : X → ℕ) (xs : List X) (x : X) → Contains xs x → f x ≤ sum_by f xs
member_le f [] x c = absurd (Contains-nil x c)
member_le f (y ∷ ys) x c =
    let sum = sum_by-cons f y ys in
    ⊎_elim
    (λ same. let e = ap f same in omega arith)
    (λ later. let more = member_le f ys x later in omega arith)
    (Contains-cons_cases y ys x c)

sums_le : {X : Type 0} (f h : X → ℕ) (xs : List X) → ((x : X) → f x ≤ h x) → sum_by f xs ≤ sum_by h xs
sums_le f h [] each = omega arith
sums_le f h (x ∷ xs) each =
    let a = sum_by-cons f x xs in
    let b = sum_by-cons h x xs in
    let here = each x in
    let more = sums_le f h xs each in
    omega arith

four_le : {X : Type 0} (i j k l h : X → ℕ) (xs : List X) → ((x : X) → i x + j x + k x + l x ≤ h x)
    → sum_by i xs + sum_by j xs + sum_by k xs + sum_by l xs ≤ sum_by h xs
four_le i j k l h [] each = omega arith
four_le i j k l h (x ∷ xs) each =
    let a = sum_by-cons i x xs in
    let b = sum_by-cons j x xs in
    let c = sum_by-cons k x xs in
    let d = sum_by-cons l x xs in
    let e = sum_by-cons h x xs in
    let here = each x in
    let more = four_le i j k l h xs each in
    omega arith

-- one quarter after another
pub quarter_sum : (f : Block → ℕ) (b : Block) (qs : List Block) (i : ℕ) (d : Block) → qs ≡ quarters_of b → i < 4
    → sum_by f (take (i + 1) (quarters_of b)) ≡ sum_by f (take i (quarters_of b)) + f (get_or qs i d)
quarter_sum f b qs i d are lt =
    ap (sum_by f) (take_next (quarters_of b) i d lt) ∙ sum_by_push f (take i (quarters_of b)) (get_or (quarters_of b) i d)
    ∙ ap (λ (l : List Block). sum_by f (take i (quarters_of b)) + f (get_or l i d)) (sym are)

module _ (n : ℕ) (g : Grid) where
  abbrev own : Block → ℕ
  own c = 12 + 3 * length (leaves_within n g c)

  abbrev counted : Block → Block → ℕ
  counted b c = if in_block b (corner c) then own c else 0

  counted_in : (b c : Block) → Holds b (corner c) → counted b c ≡ own c
  counted_in b c held = ap (λ (t : Bool). if t then own c else 0) (in_block-true b (corner c) held)

  counted_out : (b c : Block) → (Holds b (corner c) → ⊥) → counted b c ≡ 0
  counted_out b c none = ap (λ (t : Bool). if t then own c else 0) (held_not b (corner c) none)

  counted_le : (b c : Block) → counted b c ≤ own c
  counted_le b c =
      ⊎_elim
      (λ t. let e = counted_in b c (Holds-from b (corner c) t) in omega arith)
      (λ f. let e : counted b c ≡ 0 = ap (λ (t : Bool). if t then own c else 0) f in omega arith)
      (cases_Bool (in_block b (corner c)))

  pub cost_whole : (bs : List Block) (b : Block) → cost_in n g bs b ≤ sum_by (λ c. 12 + 3 * length (leaves_within n g c)) bs
  cost_whole bs b = sums_le (counted b) own bs (counted_le b)

  pub cost_here : (bs : List Block) (b : Block) → IsBlock n b → Contains bs b → 12 + 3 * length (leaves_within n g b) ≤ cost_in n g bs b
  cost_here bs b hb c =
      let e = counted_in b b (Holds-corner n b hb) in
      let le = member_le (counted b) bs b c in
      omega arith

  -- the quarters of a block have no pixel in common
  quarters_le : (b c : Block) (h : ℕ) → b.side ≡ 2 * h
      → counted (record { x = b.x; y = b.y; side = h }) c + counted (record { x = b.x + h; y = b.y; side = h }) c
      + counted (record { x = b.x; y = b.y + h; side = h }) c + counted (record { x = b.x + h; y = b.y + h; side = h }) c ≤ counted b c
  quarters_le b c h twice =
      ⊎_elim (λ t. inside (Holds-from b (corner c) t)) (λ f. outside (λ held. true_false (sym (in_block-true b (corner c) held) ∙ f)))
      (cases_Bool (in_block b (corner c)))
    where
      q0 : Block
      q0 = record { x = b.x; y = b.y; side = h }

      q1 : Block
      q1 = record { x = b.x + h; y = b.y; side = h }

      q2 : Block
      q2 = record { x = b.x; y = b.y + h; side = h }

      q3 : Block
      q3 = record { x = b.x + h; y = b.y + h; side = h }

      outside : (Holds b (corner c) → ⊥) → counted q0 c + counted q1 c + counted q2 c + counted q3 c ≤ counted b c
      outside none =
          let more = λ (q : Block) (k : Holds q (corner c) → Holds b (corner c)). counted_out q c (λ held. none (k held)) in
          let e0 = more q0 (λ u. let l = u.left in let r = u.right in let t = u.top in let d = u.bottom in record { left = omega arith; right = omega arith; top = omega arith; bottom = omega arith }) in
          let e1 = more q1 (λ u. let l = u.left in let r = u.right in let t = u.top in let d = u.bottom in record { left = omega arith; right = omega arith; top = omega arith; bottom = omega arith }) in
          let e2 = more q2 (λ u. let l = u.left in let r = u.right in let t = u.top in let d = u.bottom in record { left = omega arith; right = omega arith; top = omega arith; bottom = omega arith }) in
          let e3 = more q3 (λ u. let l = u.left in let r = u.right in let t = u.top in let d = u.bottom in record { left = omega arith; right = omega arith; top = omega arith; bottom = omega arith }) in
          omega arith

      inside : Holds b (corner c) → counted q0 c + counted q1 c + counted q2 c + counted q3 c ≤ counted b c
      inside held =
          let e = counted_in b c held in
          ⊎_elim
          (λ up.
          let e2 = counted_out q2 c (λ u. let t = u.top in omega arith) in
          let e3 = counted_out q3 c (λ u. let t = u.top in omega arith) in
          ⊎_elim
          (λ west. let e1 = counted_out q1 c (λ u. let t = u.left in omega arith) in let le = counted_le q0 c in omega arith)
          (λ east. let e0 = counted_out q0 c (λ u. let t = u.right in omega arith) in let le = counted_le q1 c in omega arith) (cases_lt c.x (b.x + h)))
          (λ down.
          let e0 = counted_out q0 c (λ u. let t = u.bottom in omega arith) in
          let e1 = counted_out q1 c (λ u. let t = u.bottom in omega arith) in
          ⊎_elim
          (λ west. let e3 = counted_out q3 c (λ u. let t = u.left in omega arith) in let le = counted_le q2 c in omega arith)
          (λ east. let e2 = counted_out q2 c (λ u. let t = u.right in omega arith) in let le = counted_le q3 c in omega arith) (cases_lt c.x (b.x + h)))
          (cases_lt c.y (b.y + h))

  pub cost_quarters : (bs : List Block) (b : Block) → IsBlock n b → 1 < b.side → sum_by (cost_in n g bs) (quarters_of b) ≤ cost_in n g bs b
  cost_quarters bs b hb wide =
      let v = halved n b hb wide in
      let h = b.side / 2 in
      let p = pow-suc 2 v.0 in
      let size = v.2 in
      let half = v.3 in
      let twice : b.side ≡ 2 * h = omega arith in
      let q0 : Block = record { x = b.x; y = b.y; side = h } in
      let q1 : Block = record { x = b.x + h; y = b.y; side = h } in
      let q2 : Block = record { x = b.x; y = b.y + h; side = h } in
      let q3 : Block = record { x = b.x + h; y = b.y + h; side = h } in
      let le = four_le (counted q0) (counted q1) (counted q2) (counted q3) (counted b) bs (λ c. quarters_le b c h twice) in
      let sum : sum_by (cost_in n g bs) (quarters_of b) ≡ 0 + cost_in n g bs q0 + cost_in n g bs q1 + cost_in n g bs q2 + cost_in n g bs q3 = refl in
      omega arith
