-- The squares of the coloured leaves hold the coloured pixels.
use Rattle.std.proofs.Common.{◌≡◌, ℕ, ◌+◌, ◌≤◌, ◌^◌, true, ◌&&◌, not, nat_lt, eqb, max, List, Option, filter, get_or, All, Contains, sym, ◌∙◌, ap, subst, arith}
use Rattle.std.proofs.Common.{le-leb, ltb-true}
use Rattle.std.specs.Cmp.{both_ways}
use Rattle.std.proofs.lemmas.Bool.{and_parts, and_from}
use Rattle.std.proofs.lemmas.List.{get_or_default}
use Rattle.quilt_types.specs.declared.plane.Pixel.{Pixel}
use Rattle.quilt_types.specs.declared.plane.Block.{Block}
use Rattle.quilt_types.specs.declared.plane.Seg.{Seg}
use Rattle.quilt_types.specs.declared.plane.Window.{Window}
use Rattle.quilt_types.specs.Plane.{pixels, pixels_of, is_window, Holds, IsBlock}
use Rattle.quilt_types.specs.Layers.{Grid}
use Rattle.quilt_types.specs.Segments.{meets, square}
use Rattle.quilt_types.specs.Quadtrees.{reach}
use Rattle.quilt_world.specs.Tale.{Goes}
use Rattle.quilt_loc.proofs.Blocks.{Contains-pixels_of}
use Rattle.quilt_loc.proofs.Rows.{Contains-pixels, Contains-pixels_from}
use Rattle.quilt_loc.proofs.Members.{Contains-map, Contains-map_from, Contains-filter, Contains-filter_from}
use Rattle.quilt_loc.proofs.Nesting.{side_pos}
use Rattle.quilt_loc.proofs.Quartered.{Within-whole}
use Rattle.quilt_blocks.specs.Cutting.{leaves_by_code}
use Rattle.quilt_blocks.proofs.Cuts.{leaves_members, leaf_is}
use Rattle.quilt_blocks.proofs.Listed.{held_in}
use Rattle.quilt_blocks.proofs.PixelLeaves.{leaf_at}
use Rattle.quilt_near.specs.Lines.{Lines}
use Rattle.quilt_near.proofs.Reached.{list_any-true, list_any-from}
use Rattle.quilt_near.proofs.Telling.{tells_weaker}
use Rattle.quilt_select.specs.Regions.{is_coloured_at, is_over_grid, has_coloured, is_coloured, coloured_windows}
use Rattle.quilt_select.specs.Shares.{shares_pixel, holds_any, meets_any}
use Rattle.quilt_select.proofs.Touching.{touched}
use Rattle.quilt_select.proofs.Sharing.{four_parts, four_true}
use Rattle.quilt_select.proofs.Filters.{filter_alike, reach_more}

All-from : {X : Type 0} (P : X → Type 0) (xs : List X) → ((x : X) → Contains xs x → P x) → All P xs
All-from P xs h k d lt = h (get_or xs k d) (k, lt, get_or_default xs k (get_or xs k d) d lt)

module _ (n : ℕ) (g : Grid) where
  abbrev leaf_windows : List Window
  leaf_windows = coloured_windows (leaves_by_code n g)

  -- a block of the square without background
  record IsColoured (w : Window) : Type 0 where
    block : Block
    is : square block ≡ w
    valid : IsBlock n block
    each : (p : Pixel) → Holds block p → is_coloured_at n g p ≡ true

  coloured_from : (w : Window) → Contains leaf_windows w → IsColoured w
  coloured_from w c =
      let f = Contains-map_from (λ (z : Block × ℕ). square z.0) (filter is_coloured (leaves_by_code n g)) w c in
      let k = Contains-filter_from is_coloured (leaves_by_code n g) f.0 f.1 in
      let leaf = leaf_is n g f.0 ((leaves_members n g f.0).0 k.0) in
      record { block = f.0.0; is = f.2; valid = leaf.maximal.block; each = λ p h. ap (λ c. not (eqb c 0)) (leaf.colour.each p h) ∙ k.1 }

  inside_by : (b : Block) → IsBlock n b → is_window n (square b) ≡ true
  inside_by b h =
      let some = side_pos n b h in
      let w = Within-whole n b h in
      let r = w.right in let d = w.bottom in
      four_true _ _ _ _ (le-leb 1 b.side (omega arith)) (le-leb 1 b.side (omega arith)) (le-leb (b.x + b.side) (2 ^ n) (omega arith))
      (le-leb (b.y + b.side) (2 ^ n) (omega arith))

  pub all_inside : (ws : List Window) → ws ≡ coloured_windows (leaves_by_code n g) → All (λ w. is_window n w ≡ true) ws
  all_inside ws e =
      subst (All (λ w. is_window n w ≡ true)) (sym e)
      (All-from (λ w. is_window n w ≡ true) leaf_windows (λ w c. let k =
      coloured_from w c in subst (λ (z : Window). is_window n z ≡ true) k.is (inside_by k.block k.valid)))

  to_over : (s : Seg) → meets_any leaf_windows s ≡ true → is_over_grid n g s ≡ true
  to_over s e =
      let m = list_any-from (meets s) leaf_windows e in
      let k = coloured_from m.0 m.1 in
      let b = k.block in
      let some = side_pos n b k.valid in
      let at = touched s (square b) some some (subst (λ (z : Window). meets s z ≡ true) (sym k.is) m.2) in
      let q = at.0 in
      let l = at.1.left in let r = at.1.right in let t = at.1.top in let d = at.1.bottom in
      let held : Holds b q = record { left = l; right = r; top = t; bottom = d } in
      let inside = held_in n b q k.valid held in
      let one : Block = record { x = q.x; y = q.y; side = 1 } in
      let here : Holds one q = record { left = omega arith; right = omega arith; top = omega arith; bottom = omega arith } in
      list_any-true (λ p. is_coloured_at n g p && meets s (record { x = p.x; y = p.y; w = 1; h = 1 })) (pixels n) q
      (Contains-pixels n q inside.0 inside.1) (and_from _ _ (k.each q held) (at.1.each one here))

  from_over : n ≤ 12 → (s : Seg) → is_over_grid n g s ≡ true → meets_any leaf_windows s ≡ true
  from_over le s e =
      let m = list_any-from (λ p. is_coloured_at n g p && meets s (record { x = p.x; y = p.y; w = 1; h = 1 })) (pixels n) e in
      let q = m.0 in
      let inside = Contains-pixels_from n q m.1 in
      let unit : Window = record { x = q.x; y = q.y; w = 1; h = 1 } in
      let t = and_parts (is_coloured_at n g q) (meets s unit) m.2 in
      let w = leaf_at n g q le inside.0 inside.1 in
      let h = w.1 in
      let b = w.0.0 in
      let held = h.holds in
      let coloured : is_coloured w.0 ≡ true = ap (λ c. not (eqb c 0)) (sym (h.leaf.colour.each q held)) ∙ t.0 in
      let member = Contains-map (λ (z : Block × ℕ). square z.0) (filter is_coloured (leaves_by_code n g)) w.0
      (Contains-filter is_coloured (leaves_by_code n g) w.0 ((leaves_members n g w.0).1 h.member) coloured) in
      let at = touched s unit (omega arith) (omega arith) t.1 in
      let al = at.1.left in let ar = at.1.right in let au = at.1.top in let ad = at.1.bottom in
      let hl = held.left in let hr = held.right in let hu = held.top in let hd = held.bottom in
      list_any-true (meets s) leaf_windows (square b) member
      (at.1.each b (record { left = omega arith; right = omega arith; top = omega arith; bottom = omega arith }))

  pub over_found : n ≤ 12 → (ws : List Window) → ws ≡ coloured_windows (leaves_by_code n g) → (es list : List (ℕ × Seg))
      → list ≡ filter (λ e. meets_any ws e.1) es → list ≡ filter (λ e. is_over_grid n g e.1) es
  over_found le ws e es list h =
      h ∙ filter_alike (λ z. meets_any ws z.1) (λ z. is_over_grid n g z.1) es
      (λ z. ap (λ (t : List Window). meets_any t z.1) e ∙ both_ways (meets_any leaf_windows z.1) (is_over_grid n g z.1) (to_over z.1) (from_over le z.1))

  -- a block with a pixel of such a leaf
  shares_coloured : (b : Block) → IsBlock n b → holds_any leaf_windows b ≡ true → has_coloured n g b ≡ true
  shares_coloured b h e =
      let m = list_any-from (shares_pixel b) leaf_windows e in
      let k = coloured_from m.0 m.1 in
      let c = k.block in
      let p4 = four_parts (nat_lt b.x (c.x + c.side)) (nat_lt c.x (b.x + b.side)) (nat_lt b.y (c.y + c.side)) (nat_lt c.y (b.y + b.side))
      (subst (λ (z : Window). shares_pixel b z ≡ true) (sym k.is) m.2) in
      let l = ltb-true b.x (c.x + c.side) p4.0 in
      let r = ltb-true c.x (b.x + b.side) p4.1 in
      let t = ltb-true b.y (c.y + c.side) p4.2 in
      let d = ltb-true c.y (b.y + b.side) p4.3 in
      let sb = side_pos n b h in
      let sc = side_pos n c k.valid in
      let p : Pixel = record { x = max b.x c.x; y = max b.y c.y } in
      let hb : Holds b p = record { left = omega arith; right = omega arith; top = omega arith; bottom = omega arith } in
      let hc : Holds c p = record { left = omega arith; right = omega arith; top = omega arith; bottom = omega arith } in
      list_any-true (is_coloured_at n g) (pixels_of b) p (Contains-pixels_of b p hb) (k.each p hc)

  pub over_reads : (ws : List Window) → ws ≡ coloured_windows (leaves_by_code n g) → (l : Lines) (before now : Option ℕ)
      → Goes (λ old new. new ≤ old + reach n l.segs l.cover (holds_any ws)) before now
      → Goes (λ old new. new ≤ old + reach n l.segs l.cover (has_coloured n g)) before now
  over_reads ws e l before now h =
      let more = reach_more n l.segs l.cover (holds_any ws) (has_coloured n g)
      (λ b i k. shares_coloured b i (subst (λ (t : List Window). holds_any t b ≡ true) e k)) in
      tells_weaker (λ x y. y ≤ x + reach n l.segs l.cover (holds_any ws)) (λ x y. y ≤ x + reach n l.segs l.cover (has_coloured n g))
      (λ x y a. omega arith) before now h
