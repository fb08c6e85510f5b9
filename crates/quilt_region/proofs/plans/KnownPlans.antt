-- Where the layer around a window is known, a list that is the layer there, and another colour elsewhere, has the same plan.
use Rattle.std.proofs.Common.{◌≡◌, ℕ, ◌+◌, ◌^◌, ◌<◌, ◌≤◌, Bool, true, false, ◌&&◌, inl, inr, sym, ◌∙◌, ap, ⊎_elim, arith, nat_le, nat_lt}
use Rattle.std.specs.Bool.{if◌then◌else◌}
use Rattle.std.proofs.lemmas.Bool.{cases_lt, cases_Bool, and_parts, and_from, leb-true, ltb-true, le-leb, lt-ltb, false_from_ne_true}
use Rattle.quilt_types.specs.declared.plane.Pixel.{Pixel}
use Rattle.quilt_types.specs.declared.plane.Block.{Block}
use Rattle.quilt_types.specs.declared.plane.Window.{Window}
use Rattle.quilt_types.specs.Plane.{side, corner, parent_of, in_block, in_window, is_window, Holds, IsBlock}
use Rattle.quilt_types.specs.Layers.{Grid, colour_at}
use Rattle.quilt_types.specs.Algebra.{grid_of, painted}
use Rattle.quilt_types.specs.Quadtrees.{is_uniform}
use Rattle.quilt_loc.proofs.Blocks.{in_block-true, Holds-from}
use Rattle.quilt_loc.proofs.Nesting.{Within-holds, Holds-corner, nested, parent_within, IsBlock-parent_of, Within-parent_of}
use Rattle.quilt_loc.proofs.Quartered.{side_le}
use Rattle.quilt_loc.proofs.Rows.{colour_at-grid_of}
use Rattle.quilt_blocks.proofs.Colours.{HasColour-from_uniform}
use Rattle.quilt_blocks.proofs.Leaves.{uniform_down}
use Rattle.quilt_blocks.proofs.Listed.{held_in}
use Rattle.quilt_region.specs.declared.known.Known.{Known}
use Rattle.quilt_region.specs.Plans.{records_without}
use Rattle.quilt_region.specs.Windows.{HoldsWindow, KnowsAround, known_colour}
use Rattle.quilt_region.proofs.Apart.{IsParted, AgreeOn, agree_back, records_same}
use Rattle.quilt_region.proofs.Beside.{not_held, held_not, read_colour}
use Rattle.quilt_region.proofs.Nearby.{window_in, window_corner, outside_pixel}

-- no block of one colour crosses the edge of one that lies in no larger one of one colour
pub parted_by : (n : ℕ) (top : Block) (a : Grid) → IsBlock n top → (top.side < side n → is_uniform n a (parent_of top) ≡ true → ⊥) → IsParted n (in_block top) a
parted_by n top a ht several = record {
  one = λ b hb u.
      let cb = Holds-corner n b hb in
      let ct = Holds-corner n top ht in
      let most = side_le n b hb in
      ⊎_elim
      (λ lt.
      inr (record {
        each = λ p held. held_not top p (λ h.
            let w = parent_within n top b p ht hb lt most h held in
            let small : top.side < 2 ^ n = omega arith in
            several small ((uniform_down n a).down (parent_of top) b (IsBlock-parent_of n top ht small) hb w u));
      }))
      (λ ge.
      ⊎_elim
      (λ t. inl (record {
        each = λ p held.
            in_block-true top p (Within-holds b top p (nested n b top (corner b) hb ht ge cb (Holds-from top (corner b) t)) held);
      }))
      (λ f. inr (record {
        each = λ p held.
            held_not top p (λ h. not_held top (corner b) f (Within-holds b top (corner b) (nested n b top p hb ht ge held h) cb));
      }))
      (cases_Bool (in_block top (corner b))))
      (cases_lt top.side b.side);
}

-- a pixel of a window
pub window_pixel : (w : Window) (b : Block) (p : Pixel) → HoldsWindow b w → in_window w p ≡ true → Holds b p
window_pixel w b p h t =
    let a = nat_le w.x p.x in
    let r = nat_lt p.x (w.x + w.w) in
    let u = nat_le w.y p.y in
    let d = nat_lt p.y (w.y + w.h) in
    let last = and_parts (a && r && u) d t in
    let third = and_parts (a && r) u last.0 in
    let first = and_parts a r third.0 in
    let la = leb-true w.x p.x first.0 in
    let lr = ltb-true p.x (w.x + w.w) first.1 in
    let lu = leb-true w.y p.y third.1 in
    let ld = ltb-true p.y (w.y + w.h) last.1 in
    let hl = h.left in
    let hr = h.right in
    let ht = h.top in
    let hb = h.bottom in
    record { left = omega arith; right = omega arith; top = omega arith; bottom = omega arith }

pub corner_in : (n : ℕ) (w : Window) → is_window n w ≡ true → in_window w (record { x = w.x; y = w.y }) ≡ true
corner_in n w t =
    let i = window_in n w t in
    let wide = i.wide in
    let high = i.high in
    and_from _ _ (and_from _ _ (and_from _ _ (le-leb w.x w.x (omega arith)) (lt-ltb w.x (w.x + w.w) (omega arith))) (le-leb w.y w.y (omega arith)))
    (lt-ltb w.y (w.y + w.h) (omega arith))

module _ (n : ℕ) (g : Grid) (w : Window) (k : Known) (le : n ≤ 12) (win : is_window n w ≡ true) (knows : KnowsAround n g w k) where
  abbrev c : ℕ
  c = k.around.0

  abbrev i : Grid
  i = grid_of n (known_colour n g k)

  abbrev h : Grid
  h = painted n g w c

  abbrev j : Grid
  j = painted n i w c

  ht : IsBlock n k.top
  ht = knows.blocks.top

  abbrev spot : Pixel
  spot = record { x = w.x; y = w.y }

  -- ---- what the grids are
  known_at : (p : Pixel) → p.x < side n → p.y < side n → colour_at n i p ≡ known_colour n g k p
  known_at p x y = colour_at-grid_of n (known_colour n g k) p x y

  painted_at : (a : Grid) (p : Pixel) → p.x < side n → p.y < side n → colour_at n (painted n a w c) p ≡ (if in_window w p then c else colour_at n a p)
  painted_at a p x y = colour_at-grid_of n (λ q. if in_window w q then c else colour_at n a q) p x y

  in_top : (p : Pixel) → Holds k.read p → Holds k.top p
  in_top p held = Within-holds k.read k.top p knows.blocks.inside held

  window_top : (p : Pixel) → in_window w p ≡ true → Holds k.top p
  window_top p t = in_top p (window_pixel w k.read p knows.holds t)

  out_of_window : (p : Pixel) → in_block k.top p ≡ false → in_window w p ≡ false
  out_of_window p f = false_from_ne_true (in_window w p) (λ t. not_held k.top p f (window_top p t))

  -- ---- where they agree
  same_inside : AgreeOn n (in_block k.top) true g i
  same_inside = record {
    each = λ p x y t.
        sym (known_at p x y
        ∙ ⊎_elim
        (λ r. read_colour n k g p (Holds-from k.read p r))
        (λ f.
        let other : ℕ = if in_block k.top p then k.around.0 else k.elsewhere.0 in
        ap (λ (s : Bool). if s then colour_at n g p else other) f ∙ ap (λ (s : Bool). if s then k.around.0 else k.elsewhere.0) t
        ∙ sym (knows.around.each p (Holds-from k.top p t) f))
        (cases_Bool (in_block k.read p)));
  }

  same_painted : AgreeOn n (in_block k.top) true h j
  same_painted = record {
    each = λ p x y t. painted_at g p x y ∙ ap (λ (d : ℕ). if in_window w p then c else d) (same_inside.each p x y t) ∙ sym (painted_at i p x y);
  }

  stays_outside : (a : Grid) → AgreeOn n (in_block k.top) false a (painted n a w c)
  stays_outside a = record { each = λ p x y f. sym (painted_at a p x y ∙ ap (λ (s : Bool). if s then c else colour_at n a p) (out_of_window p f)) }

  -- ---- the upper block lies in no larger one of one colour
  module _ (lt : k.top.side < side n) where
    abbrev larger : Block
    larger = parent_of k.top

    hl : IsBlock n larger
    hl = IsBlock-parent_of n k.top ht lt

    spot_in : Holds larger spot
    spot_in = Within-holds k.top larger spot (Within-parent_of n k.top ht lt) (in_top spot (window_corner k.read n w win knows.holds))

    painted_spot : (a : Grid) → colour_at n (painted n a w c) spot ≡ c
    painted_spot a =
        let sq = held_in n larger spot hl spot_in in
        painted_at a spot sq.0 sq.1 ∙ ap (λ (s : Bool). if s then c else colour_at n a spot) (corner_in n w win)

    -- one colour of a block is that of each of its pixels
    one_colour : (a : Grid) (p q : Pixel) → is_uniform n a larger ≡ true → Holds larger p → Holds larger q → colour_at n a p ≡ colour_at n a q
    one_colour a p q u hp hq = let has = HasColour-from_uniform n a larger u in has.each p hp ∙ sym (has.each q hq)

    several_painted : is_uniform n h larger ≡ true → ⊥
    several_painted u =
        knows.ends lt (record {
          each = λ p held f.
              let sq = held_in n larger p hl held in
              (stays_outside g).each p sq.0 sq.1 f ∙ one_colour h p spot u held spot_in ∙ painted_spot g;
        })

    outside_known : (p : Pixel) → Holds larger p → in_block k.top p ≡ false → colour_at n i p ≡ k.elsewhere.0
    outside_known p held f =
        let sq = held_in n larger p hl held in
        let other : ℕ = if in_block k.top p then k.around.0 else k.elsewhere.0 in
        known_at p sq.0 sq.1
        ∙ ap (λ (s : Bool). if s then colour_at n g p else other) (held_not k.read p (λ r. not_held k.top p f (in_top p r)))
        ∙ ap (λ (s : Bool). if s then k.around.0 else k.elsewhere.0) f

    several_known : is_uniform n i larger ≡ true → ⊥
    several_known u =
        let o = outside_pixel n k.top ht lt in
        let sq = held_in n larger spot hl spot_in in
        knows.first (sym (outside_known o.0 o.1 o.2) ∙ one_colour i o.0 spot u o.1 spot_in ∙ known_at spot sq.0 sq.1
        ∙ read_colour n k g spot (window_corner k.read n w win knows.holds))

    several_both : is_uniform n j larger ≡ true → ⊥
    several_both u =
        let o = outside_pixel n k.top ht lt in
        let sq = held_in n larger o.0 hl o.1 in
        knows.other (sym (outside_known o.0 o.1 o.2) ∙ (stays_outside i).each o.0 sq.0 sq.1 o.2 ∙ one_colour j o.0 spot u o.1 spot_in ∙ painted_spot i)

  parted_g : IsParted n (in_block k.top) g
  parted_g = parted_by n k.top g ht knows.top_cut.several

  parted_h : IsParted n (in_block k.top) h
  parted_h = parted_by n k.top h ht several_painted

  parted_i : IsParted n (in_block k.top) i
  parted_i = parted_by n k.top i ht several_known

  parted_j : IsParted n (in_block k.top) j
  parted_j = parted_by n k.top j ht several_both

  pub removes_same : (layer : ℕ)
      → records_without n layer g (painted n g w c) ≡ records_without n layer (grid_of n (known_colour n g k)) (painted n (grid_of n (known_colour n g k)) w c)
  removes_same layer =
      records_same n (in_block k.top) layer g h i j le same_inside same_painted (stays_outside g) (stays_outside i) parted_g parted_h parted_i parted_j

  pub adds_same : (layer : ℕ)
      → records_without n layer (painted n g w c) g ≡ records_without n layer (painted n (grid_of n (known_colour n g k)) w c) (grid_of n (known_colour n g k))
  adds_same layer =
      records_same n (in_block k.top) layer h g j i le same_painted same_inside (agree_back n (in_block k.top) false g h (stays_outside g))
      (agree_back n (in_block k.top) false i j (stays_outside i)) parted_h parted_g parted_j parted_i
