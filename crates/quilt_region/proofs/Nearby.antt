-- Blocks around a window, and what the quarters of a block around another one say.
use Rattle.std.proofs.Common.{◌≡◌, ℕ, suc, pow-suc, ◌+◌, ◌*◌, ◌^◌, ◌<◌, ◌≤◌, true, false, ◌&&◌, [], ◌∷◌, length, get_or, refl, sym, ◌∙◌, ap, subst}
use Rattle.std.proofs.Common.{⊎_elim, Contains, arith, nat_le}
use Rattle.std.proofs.lemmas.Nat.{pow_below}
use Rattle.std.proofs.lemmas.Bool.{cases_lt, cases_Bool, and_parts, leb-true}
use Rattle.quilt_types.specs.declared.plane.Pixel.{Pixel}
use Rattle.quilt_types.specs.declared.plane.Block.{Block}
use Rattle.quilt_types.specs.declared.plane.Window.{Window}
use Rattle.quilt_types.specs.Plane.{side, corner, parent_of, quarters_of, is_window, in_block, Holds, IsBlock, Within}
use Rattle.quilt_types.specs.Layers.{Grid}
use Rattle.quilt_types.specs.Quadtrees.{is_uniform, leaves}
use Rattle.quilt_loc.specs.Codes.{code_from}
use Rattle.quilt_loc.proofs.Members.{Contains-here}
use Rattle.quilt_loc.proofs.Blocks.{Holds-from}
use Rattle.quilt_loc.proofs.Nesting.{around, Within-holds, Holds-corner, side_pos, nested, same_block_from, IsBlock-parent_of, Within-parent_of, parent_within}
use Rattle.quilt_loc.proofs.Intervals.{code_held}
use Rattle.quilt_loc.proofs.CodeLaws.{pow_same}
use Rattle.quilt_loc.proofs.Around.{IsBlock-around, Holds-around}
use Rattle.quilt_loc.proofs.Quartered.{side_le, whole_is, quarters_are, is_quarter}
use Rattle.quilt_blocks.specs.Mosaic.{HasColour}
use Rattle.quilt_blocks.specs.Cutting.{leaves_by_code}
use Rattle.quilt_blocks.proofs.Chains.{member_pos}
use Rattle.quilt_blocks.proofs.Colours.{uniform-from_HasColour}
use Rattle.quilt_blocks.proofs.Cuts.{leaf_is, leaf_total, leaves_run, leaves_members}
use Rattle.quilt_blocks.proofs.Inside.{smaller_inside}
use Rattle.quilt_blocks.proofs.Leaves.{uniform_down}
use Rattle.quilt_blocks.proofs.Listed.{held_in}
use Rattle.quilt_blocks.proofs.Maximal.{alone}
use Rattle.quilt_spell.proofs.Lists.{Apart-le, Apart-rises}
use Rattle.quilt_region.specs.Windows.{HoldsWindow, IsLeafWith, IsCutOut, HasAround, leaves_within}
use Rattle.quilt_region.proofs.Beside.{not_held, held_not}
use Rattle.quilt_region.proofs.Floors.{same_member}
use Rattle.quilt_region.proofs.Leaves.{is_leaf_from, maximal_leaf}
use Rattle.quilt_region.proofs.Within.{within_from, within_at, within_rise}

-- the room of a window
pub record IsIn (n : ℕ) (w : Window) : Type 0 where
  pub wide : 1 ≤ w.w
  pub high : 1 ≤ w.h
  pub right : w.x + w.w ≤ side n
  pub bottom : w.y + w.h ≤ side n

pub window_in : (n : ℕ) (w : Window) → is_window n w ≡ true → IsIn n w
window_in n w t =
    let a = nat_le 1 w.w in
    let b = nat_le 1 w.h in
    let c = nat_le (w.x + w.w) (side n) in
    let d = nat_le (w.y + w.h) (side n) in
    let last = and_parts (a && b && c) d t in
    let third = and_parts (a && b) c last.0 in
    let first = and_parts a b third.0 in
    record {
      wide = leb-true 1 w.w first.0;
      high = leb-true 1 w.h first.1;
      right = leb-true (w.x + w.w) (side n) third.1;
      bottom = leb-true (w.y + w.h) (side n) last.1;
    }

pub whole_holds : (n : ℕ) (b : Block) (w : Window) → IsBlock n b → is_window n w ≡ true → b.side ≡ side n → HoldsWindow b w
whole_holds n b w hb t e =
    let i = window_in n w t in
    let r = i.right in
    let d = i.bottom in
    let is = whole_is n b hb e in
    let x = ap (λ (a : Block). a.x) is in
    let y = ap (λ (a : Block). a.y) is in
    record { left = omega arith; right = omega arith; top = omega arith; bottom = omega arith }

pub not_whole : (n : ℕ) (b : Block) → IsBlock n b → (b.side ≡ side n → ⊥) → b.side < side n
not_whole n b hb differ = let s = side_le n b hb in ⊎_elim (λ lt. lt) (λ ge. absurd (differ (omega arith))) (cases_lt b.side (side n))

-- a block with the window holds the parent of a smaller one that does not
pub parent_least : (n : ℕ) (b a : Block) (w : Window) → IsBlock n b → IsBlock n a → HoldsWindow a w → (HoldsWindow b w → ⊥)
    → Within b a → Within (parent_of b) a
parent_least n b a w hb ha holds none within =
    let l = holds.left in
    let r = holds.right in
    let t = holds.top in
    let d = holds.bottom in
    let wl = within.left in
    let wr = within.right in
    let wt = within.top in
    let wb = within.bottom in
    let here = Holds-corner n b hb in
    ⊎_elim (λ lt. parent_within n b a (corner b) hb ha lt (side_le n a ha) here (Within-holds b a (corner b) within here))
    (λ ge. absurd (none (record { left = omega arith; right = omega arith; top = omega arith; bottom = omega arith }))) (cases_lt b.side a.side)

pub window_corner : (b : Block) (n : ℕ) (w : Window) → is_window n w ≡ true → HoldsWindow b w → Holds b (record { x = w.x; y = w.y })
window_corner b n w t h =
    let i = window_in n w t in
    let wide = i.wide in
    let high = i.high in
    let l = h.left in
    let r = h.right in
    let u = h.top in
    let d = h.bottom in
    record { left = l; right = omega arith; top = u; bottom = omega arith }

pub holds_more : (a b : Block) (w : Window) → Within a b → HoldsWindow a w → HoldsWindow b w
holds_more a b w within h =
    let l = h.left in
    let r = h.right in
    let t = h.top in
    let d = h.bottom in
    let wl = within.left in
    let wr = within.right in
    let wt = within.top in
    let wb = within.bottom in
    record { left = omega arith; right = omega arith; top = omega arith; bottom = omega arith }

-- ---- what lies in no larger block of one colour
pub leaf_cut : (n : ℕ) (g : Grid) (e : Block × ℕ) → Contains (leaves n g) e → IsCutOut n g e.0
leaf_cut n g e c = record { several = (leaf_is n g e c).maximal.last }

-- a block around a window that the leaf at its corner does not hold
pub around_cut : (n : ℕ) (g : Grid) (e : Block × ℕ) (b : Block) (w : Window) → is_window n w ≡ true → IsLeafWith n g (record { x = w.x; y = w.y }) e
    → (HoldsWindow e.0 w → ⊥) → IsBlock n b → HoldsWindow b w → IsCutOut n g b
around_cut n g e b w t leaf none hb holds = record {
  several = λ lt u.
      let m = (leaf_is n g e leaf.member).maximal in
      let he = m.block in
      let p : Pixel = record { x = w.x; y = w.y } in
      let larger = IsBlock-parent_of n b hb lt in
      let up = Within-parent_of n b hb lt in
      let in_b = window_corner b n w t holds in
      let in_larger = Within-holds b (parent_of b) p up in_b in
      ⊎_elim
      (λ less.
      let small = side_le n (parent_of b) larger in
      let inside = parent_within n e.0 (parent_of b) p he larger less small leaf.holds in_larger in
      let room : e.0.side < 2 ^ n = omega arith in
      m.last room ((uniform_down n g).down (parent_of e.0) (parent_of b) (IsBlock-parent_of n e.0 he room) larger inside u))
      (λ ge.
      let inside = nested n (parent_of b) e.0 p larger he ge in_larger leaf.holds in
      none (holds_more (parent_of b) e.0 w inside (holds_more b (parent_of b) w up holds)))
      (cases_lt e.0.side (parent_of b).side);
}

-- ---- how many leaves begin in it
module _ (n : ℕ) (g : Grid) (le : n ≤ 12) where
  pub one_within : (e : Block × ℕ) → Contains (leaves n g) e → length (leaves_within n g e.0) ≤ 1
  one_within e c =
      let he = (leaf_is n g e c).maximal.block in
      let run = leaves_run n g le in
      Apart-le (leaves_within n g e.0) (e ∷ []) (Apart-rises _ leaf_total (leaves_within n g e.0) (within_rise n g e.0 le he))
      (λ d k.
      let w = within_from n g e.0 le he d k in
      let same = same_member n 0 (leaves_by_code n g) e d run.follows ((leaves_members n g e).1 c) ((leaves_members n g d).1 w.0) w.1 w.2 in
      subst (Contains (e ∷ [])) same (Contains-here e []))

  pub more_within : (a b : Block) → IsBlock n a → IsBlock n b → Within a b → length (leaves_within n g a) ≤ length (leaves_within n g b)
  more_within a b ha hb within =
      let here = Holds-corner n a ha in
      let wl = within.left in
      let wr = within.right in
      let small : a.side ≤ b.side = omega arith in
      let pos = member_pos n a ha in
      let codes = code_held n b (corner a) hb le (Within-holds a b (corner a) within here) in
      let ends = (smaller_inside n a b (code_from a) le ha hb small (omega arith) (omega arith) codes.0 codes.1).1 in
      let first = codes.0 in
      Apart-le (leaves_within n g a) (leaves_within n g b) (Apart-rises _ leaf_total (leaves_within n g a) (within_rise n g a le ha))
      (λ d k.
      let w = within_from n g a le ha d k in
      let low = w.1 in
      let high = w.2 in
      within_at n g b le hb d w.0 (omega arith) (omega arith))

-- ---- two leaves that hold one pixel
pub leaf_same : (n : ℕ) (g : Grid) (p : Pixel) (d e : Block × ℕ) → IsLeafWith n g p d → IsLeafWith n g p e → d ≡ e
leaf_same n g p d e hd he =
    let a = leaf_is n g d hd.member in
    let b = leaf_is n g e he.member in
    let block : d.0 ≡ e.0 =
    ⊎_elim
    (λ lt. alone n (is_uniform n g) (uniform_down n g) d.0 e.0 a.maximal b.maximal.block b.maximal.passes
    (nested n d.0 e.0 p a.maximal.block b.maximal.block (let l : d.0.side ≤ e.0.side = omega arith in l) hd.holds he.holds))
    (λ ge. sym (alone n (is_uniform n g) (uniform_down n g) e.0 d.0 b.maximal a.maximal.block a.maximal.passes
    (nested n e.0 d.0 p b.maximal.block a.maximal.block ge he.holds hd.holds)))
    (cases_lt d.0.side e.0.side) in
    let colour : d.1 ≡ e.1 = sym (a.colour.each p hd.holds) ∙ b.colour.each p he.holds in
    λ i. (block i, colour i)

-- ---- the quarters around a block
-- a pixel of the larger block that is none of the smaller one's
pub outside_pixel : (n : ℕ) (b : Block) → IsBlock n b → b.side < 2 ^ n → (p : Pixel) × Holds (parent_of b) p × (in_block b p ≡ false)
outside_pixel n b hb lt =
    let up = Within-parent_of n b hb lt in
    let l = up.left in
    let r = up.right in
    let t = up.top in
    let d = up.bottom in
    let pos = side_pos n b hb in
    let s = b.side in
    let larger = parent_of b in
    let twice : larger.side ≡ 2 * s = refl in
    ⊎_elim
    (λ before.
    let p : Pixel = record { x = larger.x; y = b.y } in
    (p, record { left = omega arith; right = omega arith; top = omega arith; bottom = omega arith }, held_not b p (λ h. let k = h.left in omega arith)))
    (λ same.
    let p : Pixel = record { x = b.x + s; y = b.y } in
    (p, record { left = omega arith; right = omega arith; top = omega arith; bottom = omega arith }, held_not b p (λ h. let k = h.right in omega arith)))
    (cases_lt larger.x b.x)

module _ (n : ℕ) (b : Block) (hb : IsBlock n b) (lt : b.side < 2 ^ n) where
  -- the quarter that holds a pixel
  quarter_at : (p : Pixel) → Holds (parent_of b) p → (q : Block) × Contains (quarters_of (parent_of b)) q × Holds q p
  quarter_at p held =
      let larger = IsBlock-parent_of n b hb lt in
      let sq = held_in n (parent_of b) p larger held in
      let q = around (2 ^ hb.level) p in
      let hq = IsBlock-around n hb.level p hb.low sq.0 sq.1 in
      let on = Holds-around hb.level p in
      let size = hb.size in
      let inside = nested n q (parent_of b) p hq larger (omega arith) on held in
      (q, is_quarter n (parent_of b) q larger hq (omega arith) inside, on)

  wide : 1 < (parent_of b).side
  wide = let pos = side_pos n b hb in omega arith

  module _ (g : Grid) (c : ℕ) (others : (j : ℕ) (d : Block) → j < 4 → (get_or (quarters_of (parent_of b)) j d ≡ b → ⊥)
      → Contains (leaves n g) (get_or (quarters_of (parent_of b)) j d, c)) where
    other_leaf : (q : Block) → Contains (quarters_of (parent_of b)) q → (q ≡ b → ⊥) → Contains (leaves n g) (q, c)
    other_leaf q k differ = subst (λ (z : Block). Contains (leaves n g) (z, c)) k.2 (others k.0 q k.1 (λ e. differ (sym k.2 ∙ e)))

    pub around_has : HasAround n g (parent_of b) b c
    around_has = record {
      each = λ p held out.
          let q = quarter_at p held in
          let differ : q.0 ≡ b → ⊥ = λ e. not_held b p out (subst (λ (z : Block). Holds z p) e q.2) in
          (leaf_is n g (q.0, c) (other_leaf q.0 q.1 differ)).colour.each p q.2;
    }

    pub around_several : is_uniform n g (parent_of b) ≡ true → ⊥
    around_several u =
        let o = outside_pixel n b hb lt in
        let q = quarter_at o.0 o.1 in
        let differ : q.0 ≡ b → ⊥ = λ e. not_held b o.0 o.2 (subst (λ (z : Block). Holds z o.0) e q.2) in
        let m = (leaf_is n g (q.0, c) (other_leaf q.0 q.1 differ)).maximal in
        let r = quarters_are n (parent_of b) q.0 (IsBlock-parent_of n b hb lt) wide q.1 in
        let half = r.half in
        let top = side_le n (parent_of b) (IsBlock-parent_of n b hb lt) in
        let pos = side_pos n q.0 m.block in
        m.last (omega arith) (ap (is_uniform n g) r.parent ∙ u)

  -- where all around has the colour each other quarter is a leaf
  pub quarter_leaf : (g : Grid) (c : ℕ) (q : Block) → IsCutOut n g b → HasAround n g (parent_of b) b c → Contains (quarters_of (parent_of b)) q
      → (q ≡ b → ⊥) → Contains (leaves n g) (q, c)
  quarter_leaf g c q out has k differ =
      let larger = IsBlock-parent_of n b hb lt in
      let r = quarters_are n (parent_of b) q larger wide k in
      let half = r.half in
      let colour : HasColour n g q c = record {
        each = λ p held. has.each p (Within-holds q (parent_of b) p r.within held)
            (held_not b p (λ h. differ (same_block_from n q b p r.block hb (let s : q.side ≡ b.side = omega arith in s) held h)));
      } in
      is_leaf_from n g (q, c) (maximal_leaf n g q c (record {
        block = r.block;
        passes = uniform-from_HasColour n g q c r.block colour;
        last = λ less u. out.several lt (ap (is_uniform n g) (sym r.parent) ∙ u);
      }) colour)

-- two steps around a block
pub around_more : (n : ℕ) (g : Grid) (a b d : Block) (c : ℕ) → HasAround n g b a c → HasAround n g d b c → HasAround n g d a c
around_more n g a b d c inner outer = record {
  each = λ p held out.
      ⊎_elim (λ t. inner.each p (Holds-from b p t) out) (λ f. outer.each p held f) (cases_Bool (in_block b p));
}

pub around_self : (n : ℕ) (g : Grid) (b : Block) (c : ℕ) → HasAround n g b b c
around_self n g b c = record { each = λ p held out. absurd (not_held b p out held) }

-- the level of the larger block is one more
pub level_more : (n : ℕ) (b : Block) (hb : IsBlock n b) → b.side < 2 ^ n → (k : ℕ) → (parent_of b).side ≡ 2 ^ k → k ≡ hb.level + 1
level_more n b hb lt k e =
    let p = pow-suc 2 hb.level in
    let s = hb.size in
    let twice : (parent_of b).side ≡ 2 * b.side = refl in
    let add : hb.level + 1 ≡ suc hb.level = omega arith in
    pow_same k (hb.level + 1) (sym e ∙ (let z : (parent_of b).side ≡ 2 ^ (suc hb.level) = omega arith in z) ∙ ap (λ i. 2 ^ i) (sym add))

pub level_room : (n : ℕ) (b : Block) (hb : IsBlock n b) → b.side < 2 ^ n → hb.level + 1 ≤ n
level_room n b hb lt =
    let larger = IsBlock-parent_of n b hb lt in
    let e = level_more n b hb lt larger.level larger.size in
    let low = larger.low in
    omega arith

-- a window of one pixel
pub pixel_block : (n : ℕ) (w : Window) → is_window n w ≡ true → IsBlock n (record { y = w.y; x = w.x; side = 1 })
pixel_block n w t =
    let i = window_in n w t in
    let wide = i.wide in
    let high = i.high in
    let right = i.right in
    let bottom = i.bottom in
    record { level = 0; low = omega arith; size = refl; on_x = omega arith; on_y = omega arith; in_x = omega arith; in_y = omega arith }

-- a power of two that is at most another one
pub power_le : (i j : ℕ) {s : ℕ} → s ≡ 2 ^ j → 2 ^ i ≤ s → i ≤ j
power_le i j e h = ⊎_elim (λ lt. let w = pow_below j i lt in absurd (omega arith)) (λ ge. ge) (cases_lt j i)
