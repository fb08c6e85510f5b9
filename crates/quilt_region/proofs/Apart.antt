-- Leaves on both sides of a line that no block of one colour crosses: each side depends on its own colours alone.
use Rattle.std.proofs.Common.{◌≡◌, ◌⊎◌, ℕ, ◌<◌, ◌≤◌, Bool, true, false, sym, ◌∙◌, subst, ⊎_elim, Contains}
use Rattle.std.proofs.lemmas.Bool.{false_from_ne_true}
use Rattle.quilt_types.specs.declared.plane.Pixel.{Pixel}
use Rattle.quilt_types.specs.declared.plane.Block.{Block}
use Rattle.quilt_types.specs.Plane.{side, corner, parent_of, Holds, IsBlock}
use Rattle.quilt_types.specs.Layers.{Grid, colour_at}
use Rattle.quilt_types.specs.Quadtrees.{is_uniform, leaves}
use Rattle.quilt_loc.proofs.Nesting.{Within-holds, Holds-corner, IsBlock-parent_of, Within-parent_of}
use Rattle.quilt_loc.proofs.Rising.{same_rising}
use Rattle.quilt_record.specs.declared.record.Record.{Record}
use Rattle.quilt_blocks.specs.Mosaic.{HasColour}
use Rattle.quilt_blocks.proofs.Colours.{HasColour-from_uniform, uniform-from_HasColour}
use Rattle.quilt_blocks.proofs.Maximal.{IsMaximal}
use Rattle.quilt_blocks.proofs.Cuts.{leaf_is}
use Rattle.quilt_blocks.proofs.Listed.{held_in}
use Rattle.quilt_region.specs.Plans.{is_leaf, records_without}
use Rattle.quilt_spell.specs.Written.{by_key}
use Rattle.quilt_spell.proofs.Written.{by_key_total}
use Rattle.quilt_region.proofs.Leaves.{is_leaf_from, is_leaf_at, maximal_leaf, only_leaf}
use Rattle.quilt_region.proofs.Edited.{only_in}
use Rattle.quilt_region.proofs.plans.RegionLaws.{only_rises}

-- all pixels of the block are on this side
pub record LiesOn (side_of : Pixel → Bool) (t : Bool) (b : Block) : Type 0 where
  pub each : (p : Pixel) → Holds b p → side_of p ≡ t

-- each block of one colour lies on one of the two sides
pub record IsParted (n : ℕ) (side_of : Pixel → Bool) (g : Grid) : Type 0 where
  pub one : (b : Block) → IsBlock n b → is_uniform n g b ≡ true → LiesOn side_of true b ⊎ LiesOn side_of false b

-- both grids have the same colours on this side
pub record AgreeOn (n : ℕ) (side_of : Pixel → Bool) (t : Bool) (g h : Grid) : Type 0 where
  pub each : (p : Pixel) → p.x < side n → p.y < side n → side_of p ≡ t → colour_at n g p ≡ colour_at n h p

pub agree_back : (n : ℕ) (side_of : Pixel → Bool) (t : Bool) (g h : Grid) → AgreeOn n side_of t g h → AgreeOn n side_of t h g
agree_back n side_of t g h a = record { each = λ p x y e. sym (a.each p x y e) }

module _ (n : ℕ) (side_of : Pixel → Bool) where
  -- which side it is, from one pixel
  pub side_from : (t : Bool) (b : Block) (p : Pixel) → Holds b p → side_of p ≡ t → LiesOn side_of true b ⊎ LiesOn side_of false b → LiesOn side_of t b
  side_from t b p held e one =
      ⊎_elim
      (λ (l : LiesOn side_of true b). subst (λ (u : Bool). LiesOn side_of u b) (sym (l.each p held) ∙ e) l)
      (λ (l : LiesOn side_of false b). subst (λ (u : Bool). LiesOn side_of u b) (sym (l.each p held) ∙ e) l) one

  colour_kept : (t : Bool) (g h : Grid) (b : Block) (c : ℕ) → AgreeOn n side_of t g h → IsBlock n b → LiesOn side_of t b → HasColour n g b c → HasColour n h b c
  colour_kept t g h b c a hb on has = record {
    each = λ p held. let sq = held_in n b p hb held in sym (a.each p sq.0 sq.1 (on.each p held)) ∙ has.each p held;
  }

  uniform_kept : (t : Bool) (g h : Grid) (b : Block) → AgreeOn n side_of t g h → IsBlock n b → LiesOn side_of t b → is_uniform n g b ≡ true
      → is_uniform n h b ≡ true
  uniform_kept t g h b a hb on u = uniform-from_HasColour n h b _ hb (colour_kept t g h b _ a hb on (HasColour-from_uniform n g b u))

  -- a leaf on a side on which the grids agree
  pub leaf_kept : (t : Bool) (g h : Grid) (e : Block × ℕ) → AgreeOn n side_of t g h → IsParted n side_of h → LiesOn side_of t e.0
      → Contains (leaves n g) e → Contains (leaves n h) e
  leaf_kept t g h e a parted on c =
      let leaf = leaf_is n g e c in
      let m = leaf.maximal in
      let hb = m.block in
      let maximal : IsMaximal n (is_uniform n h) e.0 = record {
        block = hb;
        passes = uniform_kept t g h e.0 a hb on m.passes;
        last = λ lt u.
            let larger = IsBlock-parent_of n e.0 hb lt in
            let w = Within-parent_of n e.0 hb lt in
            let here = Holds-corner n e.0 hb in
            let on_side = side_from t (parent_of e.0) (corner e.0) (Within-holds e.0 (parent_of e.0) (corner e.0) w here) (on.each (corner e.0) here)
            (parted.one (parent_of e.0) larger u) in
            m.last lt (uniform_kept t h g (parent_of e.0) (agree_back n side_of t g h a) larger on_side u);
      } in
      is_leaf_from n h e (maximal_leaf n h e.0 e.1 maximal (colour_kept t g h e.0 e.1 a hb on leaf.colour))

  module _ (layer : ℕ) (g h i j : Grid) (le : n ≤ 12) (gi : AgreeOn n side_of true g i) (hj : AgreeOn n side_of true h j) (gh : AgreeOn n side_of false g h)
      (parted_g : IsParted n side_of g) (parted_h : IsParted n side_of h) (parted_i : IsParted n side_of i) where
    moved_over : (r : Record) → Contains (records_without n layer g h) r → Contains (records_without n layer i j) r
    moved_over r c =
        let o = only_leaf n layer g h r c in
        let e = o.0 in
        let leaf = o.1 in
        ⊎_elim
        (λ on.
        let there = leaf_kept true g i e gi parted_i on o.2 in
        let none = false_from_ne_true (is_leaf n j e) (λ t.
        let back = leaf_kept true j h e (agree_back n side_of true h j hj) parted_h on (is_leaf_from n j e t) in
        let no : true ≡ false = sym (is_leaf_at n h e back) ∙ o.3 in cc) in
        subst (Contains (records_without n layer i j)) o.4 (only_in n layer i j e there none))
        (λ off.
        let there = leaf_kept false g h e gh parted_h off o.2 in
        let no : true ≡ false = sym (is_leaf_at n h e there) ∙ o.3 in cc)
        (parted_g.one e.0 leaf.maximal.block leaf.maximal.passes)

-- Two pairs of grids that agree on one side, where each pair agrees on the other, differ by the same records.
pub records_same : (n : ℕ) (side_of : Pixel → Bool) (layer : ℕ) (g h i j : Grid) → n ≤ 12 → AgreeOn n side_of true g i → AgreeOn n side_of true h j
    → AgreeOn n side_of false g h → AgreeOn n side_of false i j
    → IsParted n side_of g → IsParted n side_of h → IsParted n side_of i → IsParted n side_of j → records_without n layer g h ≡ records_without n layer i j
records_same n side_of layer g h i j le gi hj gh ij pg ph pi pj =
    same_rising by_key by_key_total (records_without n layer g h) (records_without n layer i j) (only_rises n layer g h le) (only_rises n layer i j le)
    (λ r. (
      moved_over n side_of layer g h i j le gi hj gh pg ph pi r,
      moved_over n side_of layer i j g h le (agree_back n side_of true g i gi)
          (agree_back n side_of true h j hj) ij pi pj pg r,
    ))
