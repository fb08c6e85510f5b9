-- The records of a layer's leaves: in which order they stand, which leaf each is, and how many there are.
use Rattle.std.proofs.Common.{◌≡◌, ℕ, ◌-◌, ◌*◌, ◌+◌, ◌^◌, ◌<◌, ◌≤◌, true, List, [], ◌∷◌, length, filter, take, Option, refl, sym, ◌∙◌, ap, subst, arith}
use Rattle.std.proofs.Common.{Contains, slice_index, ◌%◌, ◌/◌}
use Rattle.std.proofs.Math.Nat.{pow-le-pow_right}
use Rattle.std.proofs.lemmas.Bool.{and_parts, and_from}
use Rattle.std.proofs.lemmas.List.{length-map, take_all}
use Rattle.std.specs.Ordering.{is_le}
use Rattle.quilt_types.specs.declared.plane.Block.{Block}
use Rattle.quilt_types.specs.Plane.{corner, IsBlock}
use Rattle.quilt_types.specs.Layers.{Grid}
use Rattle.quilt_types.specs.Facts.{HasColour}
use Rattle.quilt_types.specs.Quadtrees.{leaves}
use Rattle.quilt_loc.specs.Codes.{code_from, Rises}
use Rattle.quilt_loc.proofs.Members.{Contains-map, Contains-map_from, Contains-filter, Contains-filter_from}
use Rattle.quilt_loc.proofs.Blocks.{side_most}
use Rattle.quilt_loc.proofs.CodeLaws.{code_alone, depth_is}
use Rattle.quilt_loc.proofs.Rising.{nat_less_from, same_rising, Rises-map, Rises-filter}
use Rattle.quilt_record.specs.declared.key.Key.{Key}
use Rattle.quilt_record.specs.declared.record.Record.{Record}
use Rattle.quilt_record.specs.Records.{key_cmp}
use Rattle.quilt_record.specs.Canonical.{IsRecordOf}
use Rattle.quilt_blocks.specs.Cutting.{leaves_by_code, leaf_cmp}
use Rattle.quilt_blocks.specs.Walk.{pixel_count}
use Rattle.quilt_blocks.specs.Listing.{Follows}
use Rattle.quilt_blocks.proofs.Chains.{size_of-cons, member_pos}
use Rattle.quilt_blocks.proofs.Cuts.{leaves_run, leaves_rise, leaves_members}
use Rattle.quilt_btree.specs.declared.tree.Tree.{Tree}
use Rattle.quilt_btree.specs.Lists.{is_from_to, range_of}
use Rattle.quilt_btree.specs.Trees.{IsTree}
use Rattle.quilt_spell.specs.OfLayer.{leaf_record}
use Rattle.quilt_region.specs.Regions.{region_records, SpellsGrid, HasRegion}
use Rattle.quilt_spell.specs.Written.{by_key}
use Rattle.quilt_spell.proofs.Written.{by_key_total}
use Rattle.quilt_edits.proofs.Keys.{le_layer, less_part, less_code}
use Rattle.quilt_region.proofs.Trees.{tree_rises}

pub leaf_is_record : (n layer : ℕ) (b : Block) (c : ℕ) → 1 ≤ layer → layer ≤ 255 → IsBlock n b
    → IsRecordOf n 0 (leaf_record n layer (b, c)) layer (HasColour b c)
leaf_is_record n layer b c least most h = record { least = least; most = most; fits = h; written = λ name. refl }

pub records_rise : (n layer : ℕ) (g : Grid) → n ≤ 12 → Rises by_key (region_records n layer g)
unfolding region_records
records_rise n layer g le =
    Rises-map leaf_cmp by_key (leaf_record n layer) (leaves_by_code n g)
    (λ d e cd ce lt. less_code (leaf_record n layer d).key (leaf_record n layer e).key refl refl (nat_less_from (code_from d.0) (code_from e.0) lt))
    (leaves_rise n g le)

-- the leaf that a record of the layer is
pub leaf_with : (n layer : ℕ) (g : Grid) (r : Record) → Contains (region_records n layer g) r → (e : Block × ℕ) × Contains (leaves_by_code n g) e
    × (leaf_record n layer e ≡ r)
unfolding region_records
leaf_with n layer g r c = Contains-map_from (leaf_record n layer) (leaves_by_code n g) r c

pub record_of_leaf : (n layer : ℕ) (g : Grid) (e : Block × ℕ) → Contains (leaves_by_code n g) e → Contains (region_records n layer g) (leaf_record n layer e)
unfolding region_records
record_of_leaf n layer g e c = Contains-map (leaf_record n layer) (leaves_by_code n g) e c

-- two leaves with one record
pub leaf_alone : (n layer : ℕ) (d e : Block × ℕ) → n ≤ 12 → IsBlock n d.0 → IsBlock n e.0 → leaf_record n layer d ≡ leaf_record n layer e → d ≡ e
leaf_alone n layer d e le hd he same =
    let m = side_most n le in
    let dx = hd.in_x in
    let dy = hd.in_y in
    let ex = he.in_x in
    let ey = he.in_y in
    let at : corner d.0 ≡ corner e.0 =
    code_alone (corner d.0) (corner e.0) (omega arith) (omega arith) (omega arith) (omega arith) (ap (λ (r : Record). r.key.code) same) in
    let deep : n - hd.level ≡ n - he.level = sym (depth_is n d.0 hd) ∙ ap (λ (r : Record). r.key.depth) same ∙ depth_is n e.0 he in
    let dl = hd.low in
    let el = he.low in
    let level : hd.level ≡ he.level = omega arith in
    let side = hd.size ∙ ap (λ k. 2 ^ k) level ∙ sym he.size in
    let colour = by_bytes d.1 e.1 (ap (λ (r : Record). slice_index r.value 0) same) (ap (λ (r : Record). slice_index r.value 1) same) in
    λ i. (record { y = (at i).y; x = (at i).x; side = side i }, colour i)
  where
    by_bytes : (a b : ℕ) → a % 256 ≡ b % 256 → a / 256 ≡ b / 256 → a ≡ b
    by_bytes a b e f = omega arith

-- how many there are
many : (n at : ℕ) (es : List (Block × ℕ)) → Follows n at es → length es ≤ pixel_count es
many n at [] h = omega arith
many n at (e ∷ es) h =
    let s = size_of-cons e es in
    let p = member_pos n e.0 h.0 in
    let m = many n (at + e.0.side * e.0.side) es h.2 in
    omega arith

pub region_length : (n layer : ℕ) (g : Grid) → length (region_records n layer g) ≡ length (leaves_by_code n g)
unfolding region_records
region_length n layer g = length-map (leaves_by_code n g) (leaf_record n layer)

pub region_small : (n layer : ℕ) (g : Grid) → n ≤ 12 → length (region_records n layer g) ≤ 16777216
region_small n layer g le =
    let r = leaves_run n g le in
    let s = r.size in
    let m = many n 0 (leaves_by_code n g) r.follows in
    let l = region_length n layer g in
    let p : 4 ^ n ≤ 4 ^ 12 = pow-le-pow_right {n = 4} (let some : 0 < 4 = omega arith in some) le in
    omega arith

-- what a range over the whole layer gives
module _ (rs : List Record) (layer n : ℕ) (g : Grid) (le : n ≤ 12) (up : Rises by_key rs) (spells : SpellsGrid rs layer n g) where
  -- the record of the layer is that of a leaf
  pub spelled_leaf : (r : Record) → Contains rs r → r.key.layer ≡ layer → (e : Block × ℕ) × Contains (leaves n g) e × (leaf_record n layer e ≡ r)
  spelled_leaf r c is = Contains-map_from (leaf_record n layer) (leaves n g) r (spells.only r c is)

  module _ (low high : Key) (low_layer : low.layer ≡ layer) (low_part : low.part ≡ 0) (high_layer : high.layer ≡ layer) (high_part : high.part ≡ 255) where
    pub in_range : (e : Block × ℕ) → is_from_to low high (leaf_record n layer e) ≡ true
    in_range e =
        let k = (leaf_record n layer e).key in
        and_from (is_le (key_cmp low k)) (is_le (key_cmp k high)) (ap is_le (less_part low k low_layer (omega arith)))
        (ap is_le (less_part k high (sym high_layer) (omega arith)))

    of_layer : (r : Record) → is_from_to low high r ≡ true → r.key.layer ≡ layer
    of_layer r t =
        let both = and_parts (is_le (key_cmp low r.key)) (is_le (key_cmp r.key high)) t in
        let a = le_layer low r.key both.0 in
        let b = le_layer r.key high both.1 in
        omega arith

    pub range_filter : filter (is_from_to low high) rs ≡ region_records n layer g
    range_filter =
        same_rising by_key by_key_total (filter (is_from_to low high) rs) (region_records n layer g)
        (Rises-filter by_key (is_from_to low high) rs up) (records_rise n layer g le)
        (λ r. (
          λ c.
              let k = Contains-filter_from (is_from_to low high) rs r c in
              let l = spelled_leaf r k.0 (of_layer r k.1) in
              subst (Contains (region_records n layer g)) l.2 (record_of_leaf n layer g l.0 ((leaves_members n g l.0).1 l.1)),
          λ c.
              let l = leaf_with n layer g r c in
              subst (Contains (filter (is_from_to low high) rs)) l.2
              (Contains-filter (is_from_to low high) rs (leaf_record n layer l.0) (spells.each l.0 ((leaves_members n g l.0).0 l.1)) (in_range l.0)),
        ))

    pub range_all : (most : ℕ) → 16777216 ≤ most → range_of low high most rs ≡ region_records n layer g
    unfolding range_of
    range_all most room =
        let s = region_small n layer g le in
        ap (take most) range_filter ∙ take_all most (region_records n layer g) (omega arith)

-- what is read of a tree that has the layer
pub range_read : (told : Option (List (List ℕ))) (t : Tree) (layer n : ℕ) (g : Grid) (low high : Key) (items : List Record) (most : ℕ)
    → n ≤ 12 → low.layer ≡ layer → low.part ≡ 0 → high.layer ≡ layer → high.part ≡ 255 → 16777216 ≤ most
    → ((rs : List Record) → IsTree told t rs → items ≡ range_of low high most rs) → HasRegion told t layer n g → items ≡ region_records n layer g
range_read told t layer n g low high items most le a b c d room is h =
    is h.records h.tree ∙ range_all h.records layer n g le (tree_rises told t h.records h.tree) h.spelled low high a b c d most room
