-- Blocks and windows that have a pixel in common, in inequalities.
use Rattle.std.proofs.Common.{◌≡◌, ℕ, ◌+◌, ◌^◌, ◌<◌, ◌≤◌, Bool, true, ◌&&◌, nat_le, nat_lt, arith, le-leb, lt-ltb, leb-true, ltb-true}
use Rattle.std.proofs.lemmas.Bool.{and_parts, and_from}
use Rattle.quilt_types.specs.declared.plane.Block.{Block}
use Rattle.quilt_types.specs.declared.plane.Pixel.{Pixel}
use Rattle.quilt_types.specs.declared.plane.Seg.{Seg}
use Rattle.quilt_types.specs.declared.plane.Window.{Window}
use Rattle.quilt_types.specs.Plane.{is_window, whole, Holds}
use Rattle.quilt_select.specs.Shares.{shares_pixel, is_touching}
use Rattle.quilt_select.proofs.Touching.{IsTouched}

pub four_parts : (a b c d : Bool) → (a && b && c && d) ≡ true → (a ≡ true) × (b ≡ true) × (c ≡ true) × (d ≡ true)
four_parts a b c d e =
    let abc = and_parts (a && b && c) d e in
    let ab = and_parts (a && b) c abc.0 in
    let one = and_parts a b ab.0 in
    (one.0, one.1, ab.1, abc.1)

pub four_true : (a b c d : Bool) → a ≡ true → b ≡ true → c ≡ true → d ≡ true → (a && b && c && d) ≡ true
four_true a b c d ha hb hc hd = and_from _ _ (and_from _ _ (and_from _ _ ha hb) hc) hd

-- a window of the square
pub record IsInside (n : ℕ) (w : Window) : Type 0 where
  pub wide : 1 ≤ w.w
  pub high : 1 ≤ w.h
  pub right : w.x + w.w ≤ 2 ^ n
  pub bottom : w.y + w.h ≤ 2 ^ n

pub window_inside : (n : ℕ) (w : Window) → is_window n w ≡ true → IsInside n w
window_inside n w h =
    let p = four_parts (nat_le 1 w.w) (nat_le 1 w.h) (nat_le (w.x + w.w) (2 ^ n)) (nat_le (w.y + w.h) (2 ^ n)) h in
    record { wide = leb-true 1 w.w p.0; high = leb-true 1 w.h p.1; right = leb-true (w.x + w.w) (2 ^ n) p.2; bottom = leb-true (w.y + w.h) (2 ^ n) p.3 }

shares_true : (b : Block) (w : Window) → b.x < w.x + w.w → w.x < b.x + b.side → b.y < w.y + w.h → w.y < b.y + b.side → shares_pixel b w ≡ true
shares_true b w l r t d = four_true _ _ _ _ (lt-ltb _ _ l) (lt-ltb _ _ r) (lt-ltb _ _ t) (lt-ltb _ _ d)

-- the whole square has all windows
pub whole_shares : (n : ℕ) (w : Window) → IsInside n w → shares_pixel (whole n) w ≡ true
whole_shares n w i = let a = i.wide in let b = i.high in let c = i.right in let d =
    i.bottom in shares_true (whole n) w (omega arith) (omega arith) (omega arith) (omega arith)

-- a block with a pixel of the window
pub pixel_shares : (s : Seg) (b : Block) (w : Window) (q : Pixel) → Holds b q → IsTouched s w q → shares_pixel b w ≡ true
pixel_shares s b w q h t =
    let l = h.left in let r = h.right in let u = h.top in let d = h.bottom in
    let wl = t.left in let wr = t.right in let wu = t.top in let wd = t.bottom in
    shares_true b w (omega arith) (omega arith) (omega arith) (omega arith)

-- a common pixel is a common point
pub shares_touches : (b : Block) (w : Window) → shares_pixel b w ≡ true → is_touching w b ≡ true
shares_touches b w h =
    let p = four_parts (nat_lt b.x (w.x + w.w)) (nat_lt w.x (b.x + b.side)) (nat_lt b.y (w.y + w.h)) (nat_lt w.y (b.y + b.side)) h in
    let l = ltb-true b.x (w.x + w.w) p.0 in
    let r = ltb-true w.x (b.x + b.side) p.1 in
    let t = ltb-true b.y (w.y + w.h) p.2 in
    let d = ltb-true w.y (b.y + b.side) p.3 in
    four_true _ _ _ _ (le-leb b.x (w.x + w.w) (omega arith)) (le-leb w.x (b.x + b.side) (omega arith)) (le-leb b.y (w.y + w.h) (omega arith))
    (le-leb w.y (b.y + b.side) (omega arith))
