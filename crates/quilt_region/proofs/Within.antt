-- The leaves within a block: they stand one behind the other from its first code to its last.
use Rattle.std.proofs.Common.{◌≡◌, ◌↔◌, ℕ, ◌+◌, ◌*◌, ◌^◌, ◌<◌, ◌≤◌, Bool, ◌&&◌, List, ◌++◌, map, filter, length, take, get_or, Option, Some, None, refl, sym}
use Rattle.std.proofs.Common.{◌∙◌, ap, subst, ⊎_elim, Contains, arith, nat_le, nat_lt, replicate}
use Rattle.std.proofs.lemmas.Bool.{cases_lt, and_parts, and_from, ltb-true, leb-true, le-leb, lt-ltb}
use Rattle.std.proofs.lemmas.List.{length-map, get_or-map, take_all}
use Rattle.std.proofs.lemmas.List.Elements.{Contains-get_or}
use Rattle.std.proofs.lemmas.Option.{same_Some, none-some}
use Rattle.quilt_types.specs.declared.plane.Pixel.{Pixel}
use Rattle.quilt_types.specs.declared.plane.Block.{Block}
use Rattle.quilt_types.specs.declared.plane.Colour.{Colour}
use Rattle.quilt_types.specs.Plane.{corner, parent_of, whole, Holds, IsBlock, Within}
use Rattle.quilt_types.specs.Layers.{Grid, colour_at}
use Rattle.quilt_types.specs.Quadtrees.{is_uniform, maximal_blocks, coloured, leaves}
use Rattle.quilt_loc.specs.Codes.{code_from, code_to, Rises}
use Rattle.quilt_loc.proofs.Members.{Contains-map, Contains-map_from, Contains-filter, Contains-filter_from}
use Rattle.quilt_loc.proofs.Blocks.{side_most}
use Rattle.quilt_loc.proofs.Intervals.{code_held, held_code}
use Rattle.quilt_loc.proofs.Nesting.{Within-holds, Holds-corner, nested, parent_within, IsBlock-parent_of}
use Rattle.quilt_loc.proofs.Quartered.{side_le}
use Rattle.quilt_loc.proofs.Rising.{same_rising, Rises-filter}
use Rattle.quilt_record.specs.declared.record.Record.{Record}
use Rattle.quilt_blocks.specs.declared.leaf.Leaf.{Leaf}
use Rattle.quilt_blocks.specs.Cutting.{cut, leaves_by_code, leaf_cmp, leaf_pair}
use Rattle.quilt_blocks.specs.Mosaic.{HasColour}
use Rattle.quilt_blocks.specs.Walk.{pixel_count}
use Rattle.quilt_blocks.proofs.Chains.{Follows-rises, Follows-place, size_of-take_more, member_pos}
use Rattle.quilt_blocks.proofs.Leaves.{uniform_down, uniform_pixel}
use Rattle.quilt_blocks.proofs.Maximal.{IsMaximal-from, Contains-maximal, cut_law}
use Rattle.quilt_blocks.proofs.Cuts.{Runs, cut_runs, leaf_total, leaf_is, leaves_rise, leaves_members}
use Rattle.quilt_blocks.proofs.Inside.{smaller_inside, codes_inside}
use Rattle.quilt_region.specs.Painting.{HasColours}
use Rattle.quilt_spell.specs.OfLayer.{leaf_record}
use Rattle.quilt_region.specs.Windows.{IsCutOut, leaves_within, records_within}
use Rattle.quilt_region.proofs.Parts.{HasColours-push}

-- a block holds the corner of one that begins within its codes
pub corner_in : (n : ℕ) (a b : Block) → n ≤ 12 → IsBlock n a → IsBlock n b → code_from b ≤ code_from a → code_from a < code_to b → Holds b (corner a)
corner_in n a b le ha hb low high =
    let m = side_most n le in
    let ax = ha.in_x in
    let ay = ha.in_y in
    let bx = hb.in_x in
    let by' = hb.in_y in
    held_code n b (corner a) hb le (omega arith) (omega arith) (omega arith) (omega arith) low high

module _ (n : ℕ) (g : Grid) (b : Block) (le : n ≤ 12) (hb : IsBlock n b) where
  begins_in : Block × ℕ → Bool
  begins_in e = nat_le (code_from b) (code_from e.0) && nat_lt (code_from e.0) (code_to b)

  within_is : leaves_within n g b ≡ filter begins_in (leaves_by_code n g)
  unfolding begins_in
  within_is = refl

  pub within_from : (e : Block × ℕ) → Contains (leaves_within n g b) e → Contains (leaves n g) e × (code_from b ≤ code_from e.0) × (code_from e.0 < code_to b)
  unfolding begins_in
  within_from e c =
      let k = Contains-filter_from begins_in (leaves_by_code n g) e c in
      let both = and_parts (nat_le (code_from b) (code_from e.0)) (nat_lt (code_from e.0) (code_to b)) k.1 in
      ((leaves_members n g e).0 k.0, leb-true (code_from b) (code_from e.0) both.0, ltb-true (code_from e.0) (code_to b) both.1)

  pub within_at : (e : Block × ℕ) → Contains (leaves n g) e → code_from b ≤ code_from e.0 → code_from e.0 < code_to b → Contains (leaves_within n g b) e
  unfolding begins_in
  within_at e c low high =
      Contains-filter begins_in (leaves_by_code n g) e ((leaves_members n g e).1 c)
      (and_from (nat_le (code_from b) (code_from e.0)) (nat_lt (code_from e.0) (code_to b)) (le-leb (code_from b) (code_from e.0) low)
      (lt-ltb (code_from e.0) (code_to b) high))

  pub within_rise : Rises leaf_cmp (leaves_within n g b)
  within_rise = subst (Rises leaf_cmp) (sym within_is) (Rises-filter leaf_cmp begins_in (leaves_by_code n g) (leaves_rise n g le))

  -- a leaf that begins within a block lies in it, where no larger one has one colour
  pub leaf_inside : IsCutOut n g b → (e : Block × ℕ) → Contains (leaves n g) e → code_from b ≤ code_from e.0 → code_from e.0 < code_to b → Within e.0 b
  leaf_inside cut_out e c low high =
      let m = (leaf_is n g e c).maximal in
      let he = m.block in
      let here = Holds-corner n e.0 he in
      let there = corner_in n e.0 b le he hb low high in
      let top = side_le n e.0 he in
      ⊎_elim
      (λ lt.
      let w = parent_within n b e.0 (corner e.0) hb he lt top there here in
      let small : b.side < 2 ^ n = omega arith in
      absurd (cut_out.several small ((uniform_down n g).down (parent_of b) e.0 (IsBlock-parent_of n b hb small) he w m.passes)))
      (λ ge. nested n e.0 b (corner e.0) he hb ge here there) (cases_lt b.side e.0.side)

  -- the leaves of the cut of a block
  cut_leaves : List (Block × ℕ)
  cut_leaves = map (coloured n g) (cut (is_uniform n g) hb.level b)

  cut_members : IsCutOut n g b → (e : Block × ℕ) → Contains cut_leaves e ↔ Contains (leaves_within n g b) e
  unfolding cut_leaves leaves
  cut_members cut_out e =
      let law = cut_law n (is_uniform n g) (uniform_down n g) (uniform_pixel n g) hb.level b hb hb.size cut_out.several in (
        λ c.
            let r = Contains-map_from (coloured n g) (cut (is_uniform n g) hb.level b) e c in
            let m = (law r.0).0 r.1 in
            let leaf : Contains (leaves n g) (coloured n g r.0) =
            Contains-map (coloured n g) (maximal_blocks n (is_uniform n g)) r.0 (Contains-maximal n (is_uniform n g) r.0 m.0) in
            let codes = code_held n b (corner r.0) hb le (Within-holds r.0 b (corner r.0) m.1 (Holds-corner n r.0 (m.0).block)) in
            subst (Contains (leaves_within n g b)) r.2 (within_at (coloured n g r.0) leaf codes.0 codes.1),
        λ c.
            let w = within_from e c in
            let r = Contains-map_from (coloured n g) (maximal_blocks n (is_uniform n g)) e w.0 in
            let inside = leaf_inside cut_out e w.0 w.1 w.2 in
            let inside' : Within r.0 b = subst (λ (d : Block × ℕ). Within d.0 b) (sym r.2) inside in
            subst (Contains cut_leaves) r.2
            (Contains-map (coloured n g) (cut (is_uniform n g) hb.level b) r.0 ((law r.0).1 (IsMaximal-from n (is_uniform n g) r.0 r.1, inside'))),
      )

  pub within_runs : IsCutOut n g b → Runs n (code_from b) (code_to b) (leaves_within n g b)
  unfolding cut_leaves
  within_runs cut_out =
      let run = cut_runs n g le (is_uniform n g) hb.level b hb hb.size hb.low in
      subst (Runs n (code_from b) (code_to b))
      (same_rising leaf_cmp leaf_total cut_leaves (leaves_within n g b) (Follows-rises n (code_from b) cut_leaves run.follows) within_rise
      (cut_members cut_out)) run

-- ---- the records within a block, one after another
pub record IsNth (n layer : ℕ) (g : Grid) (b : Block) (i : ℕ) (r : Record) : Type 0 where
  pub leaf : Block × ℕ
  pub member : Contains (leaves_within n g b) leaf
  pub is : r ≡ leaf_record n layer leaf
  pub block : IsBlock n leaf.0
  pub colour : HasColour n g leaf.0 leaf.1
  pub more : pixel_count (take (i + 1) (leaves_within n g b)) ≡ pixel_count (take i (leaves_within n g b)) + leaf.0.side * leaf.0.side
  pub from : IsCutOut n g b → code_from leaf.0 ≡ code_from b + pixel_count (take i (leaves_within n g b))

pub nth_leaf : (n layer : ℕ) (g : Grid) (b : Block) (records : List Record) (i : ℕ) (d : Record) → n ≤ 12 → IsBlock n b
    → records ≡ records_within n layer g b → i < length records → IsNth n layer g b i (get_or records i d)
unfolding records_within
nth_leaf n layer g b records i d le hb is lt =
    let es = leaves_within n g b in
    let long : length records ≡ length es = ap length is ∙ length-map es (leaf_record n layer) in
    let z : Block × ℕ = (whole n, 0) in
    let e = get_or es i z in
    let c = Contains-get_or es i z (omega arith) in
    let w = within_from n g b le hb e c in
    let leaf = leaf_is n g e w.0 in
    record {
      leaf = e;
      member = c;
      is = ap (λ l. get_or l i d) is ∙ get_or-map (leaf_record n layer) es i z d (omega arith);
      block = leaf.maximal.block;
      colour = leaf.colour;
      more = size_of-take_more es i z (omega arith);
      from = λ out. Follows-place n (code_from b) es i z (within_runs n g b le hb out).follows (omega arith);
    }

-- all of them are read
pub all_read : (n layer : ℕ) (g : Grid) (b : Block) (records : List Record) (i : ℕ) → n ≤ 12 → IsBlock n b → records ≡ records_within n layer g b
    → length records ≤ i → IsCutOut n g b → code_from b + pixel_count (take i (leaves_within n g b)) ≡ code_to b
unfolding records_within
all_read n layer g b records i le hb is all out =
    let es = leaves_within n g b in
    let long : length records ≡ length es = ap length is ∙ length-map es (leaf_record n layer) in
    let run = within_runs n g b le hb out in
    let size = run.size in
    let t = ap pixel_count (take_all i es (omega arith)) in
    omega arith

-- the leaf that was read of a record
module _ (n layer : ℕ) (g : Grid) (b : Block) (records : List Record) (i : ℕ) (d : Record) (read : Option Leaf) (least : 1 ≤ layer) (le : n ≤ 12)
    (hb : IsBlock n b) (is : records ≡ records_within n layer g b) (lt : i < length records)
    (one : (b : Block) (c : Colour) → 1 ≤ layer → IsBlock n b → get_or records i d ≡ leaf_record n layer (b, c.0)
    → read ≡ Some (record { block = b; colour = c })) where
  abbrev nth : IsNth n layer g b i (get_or records i d)
  nth = nth_leaf n layer g b records i d le hb is lt

  abbrev nth_read : Leaf
  nth_read = record { block = nth.leaf.0; colour = record { 0 = nth.leaf.1 } }

  is_read : read ≡ Some nth_read
  is_read = one nth.leaf.0 (record { 0 = nth.leaf.1 }) least nth.block nth.is

  pub nth_some : read ≡ None → ⊥
  nth_some none = none-some nth_read (sym none ∙ is_read)

  pub nth_same : (l : Leaf) → read ≡ Some l → leaf_pair l ≡ nth.leaf
  nth_same l e = ap leaf_pair (sym (same_Some nth_read l (sym is_read ∙ e)))

-- where the leaf begins and ends
pub nth_codes : (n layer : ℕ) (g : Grid) (b : Block) (i end : ℕ) (r : Record) (l : Leaf) (nth : IsNth n layer g b i r) → n ≤ 12 → IsBlock n b
    → IsCutOut n g b → leaf_pair l ≡ nth.leaf → end ≡ code_from b + pixel_count (take i (leaves_within n g b))
    → (code_from l.block ≡ end) × (code_to l.block ≡ code_from b + pixel_count (take (i + 1) (leaves_within n g b))) × (code_to l.block ≤ code_to b)
nth_codes n layer g b i end r l nth le hb out same at =
    let from = nth.from out in
    let more = nth.more in
    let w = within_from n g b le hb nth.leaf nth.member in
    let inside = leaf_inside n g b le hb out nth.leaf w.0 w.1 w.2 in
    let here = Holds-corner n nth.leaf.0 nth.block in
    let fb = ap (λ (d : Block × ℕ). code_from d.0) same in
    let tb = ap (λ (d : Block × ℕ). code_to d.0) same in
    let small : nth.leaf.0.side ≤ b.side = (let r = inside.right in let l' = inside.left in let h = here.right in omega arith) in
    let pos = member_pos n nth.leaf.0 nth.block in
    let ends = (smaller_inside n nth.leaf.0 b (code_from nth.leaf.0) le nth.block hb small (omega arith) (omega arith) w.1 w.2).1 in
    (omega arith, omega arith, omega arith)

-- its pixels are put down with the grid's colour
pub nth_push : (n layer : ℕ) (g : Grid) (b : Block) (i : ℕ) (r : Record) (l : Leaf) (nth : IsNth n layer g b i r) → n ≤ 12 → IsBlock n b
    → leaf_pair l ≡ nth.leaf → IsBlock n l.block → code_from b ≤ code_from l.block → code_to l.block ≤ code_to b
    → (f : Pixel → ℕ) → ((p : Pixel) → Holds b p → f p ≡ colour_at n g p) → (old new : List ℕ) → code_from l.block ≡ length old
    → new ≡ old ++ replicate (l.block.side * l.block.side) l.colour.0 → HasColours n f old → HasColours n f new
nth_push n layer g b i r l nth le hb same block low high f is old new at made has =
    let colour : HasColour n g l.block l.colour.0 = subst (λ (d : Block × ℕ). HasColour n g d.0 d.1) (sym same) nth.colour in
    HasColours-push n f old new l.block l.colour.0 le block at
    (λ p held. is p (codes_inside n l.block b p le block hb low high held) ∙ colour.each p held) made has
