-- What changes where a window is painted, quarter by quarter of a block that has it.
use Rattle.std.proofs.Common.{◌≡◌, ℕ, ◌+◌, ◌/◌, ◌<◌, ◌≤◌, Bool, true, false, ◌&&◌, List, [], ◌∷◌, length, filter, flat_map, refl, sym, ◌∙◌, ap, subst, ⊎_elim}
use Rattle.std.proofs.Common.{arith, Contains, Ordering, Less, nat_le, nat_lt}
use Rattle.std.specs.List.{sum_by}
use Rattle.std.proofs.lemmas.List.Concat.{length-flat_map}
use Rattle.std.proofs.lemmas.List.Elements.{Contains-append_cases}
use Rattle.std.proofs.lemmas.Bool.{cases_lt, and_parts, and_from, leb-true, ltb-true, le-leb, lt-ltb, false_from_ne_true}
use Rattle.quilt_types.specs.declared.plane.Pixel.{Pixel}
use Rattle.quilt_types.specs.declared.plane.Block.{Block}
use Rattle.quilt_types.specs.Plane.{corner, parent_of, quarters_of, in_block, Holds, IsBlock}
use Rattle.quilt_types.specs.Layers.{Grid}
use Rattle.quilt_types.specs.Quadtrees.{is_uniform, leaves}
use Rattle.quilt_loc.specs.Codes.{code_from, code_to, Rises}
use Rattle.quilt_loc.proofs.Blocks.{in_block-true, Holds-from}
use Rattle.quilt_loc.proofs.Intervals.{code_held}
use Rattle.quilt_loc.proofs.Members.{Contains-nil, Contains-here, Contains-filter, Contains-filter_from, Contains-flat_map, Contains-flat_map_from}
use Rattle.quilt_loc.proofs.Nesting.{Within-holds, Holds-corner, IsBlock-parent_of, Within-parent_of}
use Rattle.quilt_loc.proofs.Quartered.{quarters_are}
use Rattle.quilt_loc.proofs.Rising.{nat_less, same_rising, Rises-filter, Rises-append}
use Rattle.quilt_record.specs.declared.record.Record.{Record}
use Rattle.quilt_blocks.specs.Cutting.{leaf_cmp}
use Rattle.quilt_blocks.proofs.Adding.{part_at}
use Rattle.quilt_blocks.proofs.Cuts.{leaf_is, leaf_total}
use Rattle.quilt_blocks.proofs.Inside.{smaller_inside}
use Rattle.quilt_blocks.proofs.Leaves.{uniform_down}
use Rattle.quilt_spell.specs.Written.{by_key}
use Rattle.quilt_spell.proofs.Written.{by_key_total}
use Rattle.quilt_spell.proofs.Lists.{Apart-le, Apart-rises}
use Rattle.quilt_edits.proofs.Keys.{less_code}
use Rattle.quilt_spell.specs.OfLayer.{leaf_record}
use Rattle.quilt_region.specs.Plans.{is_leaf, records_without}
use Rattle.quilt_region.specs.Quarters.{records_without_in}
use Rattle.quilt_region.specs.Windows.{leaves_within}
use Rattle.quilt_region.proofs.Apart.{LiesOn, IsParted, AgreeOn, agree_back, side_from, leaf_kept}
use Rattle.quilt_region.proofs.Beside.{true_false}
use Rattle.quilt_region.proofs.Edited.{only_in}
use Rattle.quilt_region.proofs.plans.KnownPlans.{parted_by}
use Rattle.quilt_region.proofs.Leaves.{is_leaf_from, is_leaf_at, only_leaf}
use Rattle.quilt_region.proofs.plans.RegionLaws.{only_rises}
use Rattle.quilt_region.proofs.Within.{corner_in, within_from, within_at, within_rise}

-- ---- lists of blocks one behind the other
pub Chained : ℕ → ℕ → List Block → Type 0
Chained n at [] = Unit {0}
Chained n at (q ∷ qs) = IsBlock n q × (at ≤ code_from q) × Chained n (code_to q) qs

module _ {X : Type 0} (n : ℕ) (R : X → X → Ordering) (code : X → ℕ) (f : Block → List X) (rises : (q : Block) → IsBlock n q → Rises R (f q))
    (inside : (q : Block) (x : X) → IsBlock n q → Contains (f q) x → (code_from q ≤ code x) × (code x < code_to q))
    (less : (p q : Block) (x y : X) → Contains (f p) x → Contains (f q) y → code x < code y → R x y ≡ Less) where
  behind : (at : ℕ) (qs : List Block) (x : X) → Chained n at qs → Contains (flat_map f qs) x → at ≤ code x
  unfolding Chained
  behind at [] x h c = absurd (Contains-nil x c)
  behind at (q ∷ qs) x h c =
      let first = h.1 in
      ⊎_elim
      (λ d. let i = (inside q x h.0 d).0 in omega arith)
      (λ d. let b = behind (code_to q) qs x h.2 d in omega arith)
      (Contains-append_cases (f q) (flat_map f qs) x c)

  pub chained_rise : (at : ℕ) (qs : List Block) → Chained n at qs → Rises R (flat_map f qs)
  unfolding Chained
  chained_rise at [] h = tt
  chained_rise at (q ∷ qs) h =
      Rises-append R (f q) (flat_map f qs) (rises q h.0) (chained_rise (code_to q) qs h.2)
      (λ x y c d.
      let m = Contains-flat_map_from f qs y d in
      let high = (inside q x h.0 c).1 in
      let low = behind (code_to q) qs y h.2 d in
      less q m.0 x y c m.2 (omega arith))

-- ---- the quarters of a block
module _ (n : ℕ) (b : Block) (le : n ≤ 12) (hb : IsBlock n b) (wide : 1 < b.side) where
  -- they are such a list
  pub quarters_chained : Chained n (code_from b) (quarters_of b)
  unfolding Chained
  quarters_chained =
      let d : Block = record { y = 0; x = 0; side = 0 } in
      let r = part_at n b (quarters_of b) 0 d le hb wide refl (omega arith) in
      let s = part_at n b (quarters_of b) 1 d le hb wide refl (omega arith) in
      let t = part_at n b (quarters_of b) 2 d le hb wide refl (omega arith) in
      let u = part_at n b (quarters_of b) 3 d le hb wide refl (omega arith) in
      let r0 = r.from in
      let r1 = r.to in
      let s0 = s.from in
      let s1 = s.to in
      let t0 = t.from in
      let t1 = t.to in
      let u0 = u.from in
      (r.block, omega arith, (s.block, omega arith, (t.block, omega arith, (u.block, omega arith, tt))))

  -- each pixel of the block is in one of them
  pub quarter_with : (p : Pixel) → Holds b p → (q : Block) × Contains (quarters_of b) q × Holds q p
  quarter_with p held =
      let h = b.side / 2 in
      let half = (quarters_are n b (record { y = b.y; x = b.x; side = h }) hb wide (0, omega arith, refl)).half in
      let l = held.left in
      let r = held.right in
      let t = held.top in
      let d = held.bottom in
      ⊎_elim
      (λ up.
      ⊎_elim
      (λ west. (
        record { y = b.y; x = b.x; side = h },
        (0, omega arith, refl),
        record { left = omega arith; right = omega arith; top = omega arith; bottom = omega arith },
      ))
      (λ east. (
        record { y = b.y; x = b.x + h; side = h },
        (1, omega arith, refl),
        record { left = omega arith; right = omega arith; top = omega arith; bottom = omega arith },
      ))
      (cases_lt p.x (b.x + h)))
      (λ down.
      ⊎_elim
      (λ west. (
        record { y = b.y + h; x = b.x; side = h },
        (2, omega arith, refl),
        record { left = omega arith; right = omega arith; top = omega arith; bottom = omega arith },
      ))
      (λ east. (
        record { y = b.y + h; x = b.x + h; side = h },
        (3, omega arith, refl),
        record { left = omega arith; right = omega arith; top = omega arith; bottom = omega arith },
      ))
      (cases_lt p.x (b.x + h)))
      (cases_lt p.y (b.y + h))

  -- and each has its codes among those of the block
  quarter_codes : (q : Block) → Contains (quarters_of b) q → (code_from b ≤ code_from q) × (code_to q ≤ code_to b)
  quarter_codes q c =
      let r = quarters_are n b q hb wide c in
      let half = r.half in
      let here = Holds-corner n q r.block in
      let from = code_held n b (corner q) hb le (Within-holds q b (corner q) r.within here) in
      let own = code_held n q (corner q) r.block le here in
      let low = from.0 in
      let high = from.1 in
      smaller_inside n q b (code_from q) le r.block hb (omega arith) (omega arith) own.1 low high

  -- no more leaves begin in the quarters than in the block
  pub few_in_quarters : (g : Grid) → sum_by (λ (q : Block). length (leaves_within n g q)) (quarters_of b) ≤ length (leaves_within n g b)
  few_in_quarters g =
      let f : Block → List (Block × ℕ) = λ q. leaves_within n g q in
      let rise =
      chained_rise n leaf_cmp (λ (e : Block × ℕ). code_from e.0) f (λ q hq. within_rise n g q le hq) (λ q e hq c. let w =
      within_from n g q le hq e c in (w.1, w.2))
      (λ p q x y _ _ lt. nat_less (code_from x.0) (code_from y.0) lt) (code_from b) (quarters_of b) quarters_chained in
      let few =
      Apart-le (flat_map f (quarters_of b)) (leaves_within n g b) (Apart-rises leaf_cmp leaf_total (flat_map f (quarters_of b)) rise)
      (λ e c.
      let m = Contains-flat_map_from f (quarters_of b) e c in
      let r = quarters_are n b m.0 hb wide m.1 in
      let w = within_from n g m.0 le r.block e m.2 in
      let low = w.1 in
      let high = w.2 in
      let i = quarter_codes m.0 m.1 in
      let from = i.0 in
      let to = i.1 in
      within_at n g b le hb e w.0 (omega arith) (omega arith)) in
      subst (λ (k : ℕ). k ≤ length (leaves_within n g b)) (length-flat_map f (quarters_of b)) few

-- ---- the records that one of two grids has in a block
module _ (n layer : ℕ) (g h : Grid) (q : Block) where
  in_codes : Record → Bool
  in_codes r = nat_le (code_from q) r.key.code && nat_lt r.key.code (code_to q)

  in_is : records_without_in n layer g h q ≡ filter in_codes (records_without n layer g h)
  unfolding records_without_in in_codes
  in_is = refl

  pub in_from : (r : Record) → Contains (records_without_in n layer g h q) r → Contains (records_without n layer g h) r × (code_from q ≤ r.key.code)
      × (r.key.code < code_to q)
  unfolding in_codes
  in_from r c =
      let k = Contains-filter_from in_codes (records_without n layer g h) r (subst (λ (l : List Record). Contains l r) in_is c) in
      let both = and_parts (nat_le (code_from q) r.key.code) (nat_lt r.key.code (code_to q)) k.1 in
      (k.0, leb-true (code_from q) r.key.code both.0, ltb-true r.key.code (code_to q) both.1)

  pub in_at : (r : Record) → Contains (records_without n layer g h) r → code_from q ≤ r.key.code → r.key.code < code_to q
      → Contains (records_without_in n layer g h q) r
  unfolding in_codes
  in_at r c low high =
      subst (λ (l : List Record). Contains l r) (sym in_is)
      (Contains-filter in_codes (records_without n layer g h) r c
      (and_from (nat_le (code_from q) r.key.code) (nat_lt r.key.code (code_to q)) (le-leb (code_from q) r.key.code low) (lt-ltb r.key.code (code_to q) high)))

  pub in_rises : n ≤ 12 → Rises by_key (records_without_in n layer g h q)
  in_rises le = subst (Rises by_key) (sym in_is) (Rises-filter by_key in_codes (records_without n layer g h) (only_rises n layer g h le))

-- a list without members
none_in : {X : Type 0} (xs : List X) → ((x : X) → Contains xs x → ⊥) → xs ≡ []
none_in [] f = refl
none_in (x ∷ xs) f = absurd (f x (Contains-here x xs))

module _ (n layer : ℕ) (q : Block) (le : n ≤ 12) (hq : IsBlock n q) where
  -- a leaf lies in the block where it begins in it
  begins_on : (a : Grid) (e : Block × ℕ) → IsParted n (in_block q) a → Contains (leaves n a) e → code_from q ≤ code_from e.0
      → code_from e.0 < code_to q → LiesOn (in_block q) true e.0
  begins_on a e parted c low high =
      let m = (leaf_is n a e c).maximal in
      let here = corner_in n e.0 q le m.block hq low high in
      side_from n (in_block q) true e.0 (corner e.0) (Holds-corner n e.0 m.block) (in_block-true q (corner e.0) here) (parted.one e.0 m.block m.passes)

  begins_at : (e : Block × ℕ) → IsBlock n e.0 → LiesOn (in_block q) true e.0 → (code_from q ≤ code_from e.0) × (code_from e.0 < code_to q)
  begins_at e he on = code_held n q (corner e.0) hq le (Holds-from q (corner e.0) (on.each (corner e.0) (Holds-corner n e.0 he)))

  module _ (a d : Grid) (parted_a : IsParted n (in_block q) a) (parted_d : IsParted n (in_block q) d) where
    -- Grids that agree in a block have the same leaves in it.
    pub none_without : AgreeOn n (in_block q) true a d → records_without_in n layer a d q ≡ []
    none_without ad =
        none_in (records_without_in n layer a d q) (λ r c.
        let k = in_from n layer a d q r c in
        let o = only_leaf n layer a d r k.0 in
        let code = ap (λ (z : Record). z.key.code) o.4 in
        let low = k.1 in
        let high = k.2 in
        let on = begins_on a o.0 parted_a o.2 (omega arith) (omega arith) in
        true_false (sym (is_leaf_at n d o.0 (leaf_kept n (in_block q) true a d o.0 ad parted_d on o.2)) ∙ o.3))

    -- Two pairs of grids that agree in a block, of which one agrees elsewhere, differ in the block as the latter does.
    pub without_same : (i j : Grid) → IsParted n (in_block q) i → IsParted n (in_block q) j → AgreeOn n (in_block q) true a i
        → AgreeOn n (in_block q) true d j → AgreeOn n (in_block q) false i j
        → records_without_in n layer a d q ≡ records_without n layer i j
    without_same i j parted_i parted_j ai dj ij =
        same_rising by_key by_key_total (records_without_in n layer a d q) (records_without n layer i j) (in_rises n layer a d q le) (only_rises n layer i j le)
        (λ r. (
          λ c.
              let k = in_from n layer a d q r c in
              let o = only_leaf n layer a d r k.0 in
              let code = ap (λ (z : Record). z.key.code) o.4 in
              let low = k.1 in
              let high = k.2 in
              let on = begins_on a o.0 parted_a o.2 (omega arith) (omega arith) in
              let there = leaf_kept n (in_block q) true a i o.0 ai parted_i on o.2 in
              let none = false_from_ne_true (is_leaf n j o.0) (λ t.
              let back = leaf_kept n (in_block q) true j d o.0 (agree_back n (in_block q) true d j dj) parted_d on (is_leaf_from n j o.0 t) in
              true_false (sym (is_leaf_at n d o.0 back) ∙ o.3)) in
              subst (Contains (records_without n layer i j)) o.4 (only_in n layer i j o.0 there none),
          λ c.
              let o = only_leaf n layer i j r c in
              let m = (o.1).maximal in
              let code = ap (λ (z : Record). z.key.code) o.4 in
              ⊎_elim
              (λ on.
              let there = leaf_kept n (in_block q) true i a o.0 (agree_back n (in_block q) true a i ai) parted_a on o.2 in
              let none = false_from_ne_true (is_leaf n d o.0) (λ t.
              let back = leaf_kept n (in_block q) true d j o.0 dj parted_j on (is_leaf_from n d o.0 t) in
              true_false (sym (is_leaf_at n j o.0 back) ∙ o.3)) in
              let w = begins_at o.0 m.block on in
              let low = w.0 in
              let high = w.1 in
              in_at n layer a d q r (subst (Contains (records_without n layer a d)) o.4 (only_in n layer a d o.0 there none)) (omega arith) (omega arith))
              (λ off. absurd (true_false (sym (is_leaf_at n j o.0 (leaf_kept n (in_block q) false i j o.0 ij parted_j off o.2)) ∙ o.3)))
              (parted_i.one (o.0).0 m.block m.passes),
        ))

-- ---- what the quarters of a block have, where the grids have several colours in it and agree outside of it
module _ (n layer : ℕ) (b : Block) (le : n ≤ 12) (hb : IsBlock n b) (wide : 1 < b.side) where
  pub quarter_parted : (a : Grid) (q : Block) → Contains (quarters_of b) q → (is_uniform n a b ≡ true → ⊥) → IsParted n (in_block q) a
  quarter_parted a q c several =
      let r = quarters_are n b q hb wide c in
      parted_by n q a r.block (λ lt u. several (ap (is_uniform n a) (sym r.parent) ∙ u))

  block_parted : (a : Grid) → (is_uniform n a b ≡ true → ⊥) → IsParted n (in_block b) a
  block_parted a several =
      parted_by n b a hb (λ lt u. several ((uniform_down n a).down b (parent_of b) hb (IsBlock-parent_of n b hb lt) (Within-parent_of n b hb lt) u))

  pub all_quarters : (a d : Grid) → (is_uniform n a b ≡ true → ⊥) → (is_uniform n d b ≡ true → ⊥) → AgreeOn n (in_block b) false a d
      → flat_map (records_without_in n layer a d) (quarters_of b) ≡ records_without n layer a d
  all_quarters a d sa sd ad =
      let f : Block → List Record = records_without_in n layer a d in
      let rise =
      chained_rise n by_key (λ (r : Record). r.key.code) f (λ q hq. in_rises n layer a d q le) (λ q r hq c. let k = in_from n layer a d q r c in (k.1, k.2))
      (λ p q x y c e lt. less p q x y c e lt) (code_from b) (quarters_of b) (quarters_chained n b le hb wide) in
      same_rising by_key by_key_total (flat_map f (quarters_of b)) (records_without n layer a d) rise (only_rises n layer a d le)
      (λ r. (
        λ c. let m = Contains-flat_map_from f (quarters_of b) r c in (in_from n layer a d m.0 r m.2).0,
        λ c.
            let o = only_leaf n layer a d r c in
            let m = (o.1).maximal in
            let code = ap (λ (z : Record). z.key.code) o.4 in
            ⊎_elim
            (λ on.
            let here = Holds-from b (corner (o.0).0) (on.each (corner (o.0).0) (Holds-corner n (o.0).0 m.block)) in
            let q = quarter_with n b le hb wide (corner (o.0).0) here in
            let w = code_held n q.0 (corner (o.0).0) (quarters_are n b q.0 hb wide q.1).block le q.2 in
            let low = w.0 in
            let high = w.1 in
            Contains-flat_map f (quarters_of b) q.0 r q.1 (in_at n layer a d q.0 r c (omega arith) (omega arith)))
            (λ off. absurd (true_false (sym (is_leaf_at n d o.0 (leaf_kept n (in_block b) false a d o.0 ad (block_parted d sd) off o.2)) ∙ o.3)))
            ((block_parted a sa).one (o.0).0 m.block m.passes),
      ))
    where
      less : (p q : Block) (x y : Record) → Contains (records_without_in n layer a d p) x → Contains (records_without_in n layer a d q) y
          → x.key.code < y.key.code → by_key x y ≡ Less
      less p q x y c e lt =
          let o = only_leaf n layer a d x (in_from n layer a d p x c).0 in
          let u = only_leaf n layer a d y (in_from n layer a d q y e).0 in
          let kx = ap (λ (z : Record). z.key.code) o.4 in
          let ky = ap (λ (z : Record). z.key.code) u.4 in
          subst (λ (z : Record). by_key z y ≡ Less) o.4
          (subst (λ (z : Record). by_key (leaf_record n layer o.0) z ≡ Less) u.4
          (less_code (leaf_record n layer o.0).key (leaf_record n layer u.0).key refl refl (omega arith)))
