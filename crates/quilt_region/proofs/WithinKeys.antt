-- A range over the keys of a block gives the records of the leaves that begin in it.
use Rattle.std.proofs.Common.{◌≡◌, ℕ, zero, suc, ◌+◌, ◌<◌, ◌≤◌, true, List, map, length, filter, take, Option, refl, sym, ◌∙◌, ap, subst, ⊎_elim, Contains}
use Rattle.std.proofs.Common.{arith}
use Rattle.std.specs.Cmp.{tied_itself}
use Rattle.std.specs.Ordering.{is_le}
use Rattle.std.proofs.lemmas.Bool.{cases_lt, and_parts, and_from}
use Rattle.std.proofs.lemmas.List.{length-map, take_all}
use Rattle.quilt_types.specs.declared.plane.Block.{Block}
use Rattle.quilt_types.specs.Plane.{IsBlock}
use Rattle.quilt_types.specs.Layers.{Grid}
use Rattle.quilt_types.specs.Quadtrees.{leaves}
use Rattle.quilt_loc.specs.Codes.{code_from, code_to, Rises}
use Rattle.quilt_loc.proofs.CodeLaws.{depth_is}
use Rattle.quilt_loc.proofs.Members.{Contains-map, Contains-map_from, Contains-filter, Contains-filter_from}
use Rattle.quilt_loc.proofs.Rising.{nat_less_from, same_rising, Rises-filter, Rises-map}
use Rattle.quilt_record.specs.declared.key.Key.{Key}
use Rattle.quilt_record.specs.declared.record.Record.{Record}
use Rattle.quilt_record.specs.Records.{key_cmp}
use Rattle.quilt_record.proofs.Orders.{key_total}
use Rattle.quilt_spell.proofs.Lists.{Apart-rises}
use Rattle.quilt_blocks.specs.Cutting.{leaves_by_code, leaf_cmp}
use Rattle.quilt_blocks.proofs.Cuts.{leaf_is, leaf_total, leaves_rise}
use Rattle.quilt_btree.specs.declared.tree.Tree.{Tree}
use Rattle.quilt_btree.specs.Lists.{is_from_to, range_of}
use Rattle.quilt_btree.specs.Trees.{IsTree}
use Rattle.quilt_spell.specs.OfLayer.{leaf_record}
use Rattle.quilt_region.specs.Regions.{SpellsGrid, HasRegion}
use Rattle.quilt_region.specs.Windows.{leaves_within, records_within}
use Rattle.quilt_spell.specs.Written.{by_key}
use Rattle.quilt_spell.proofs.Written.{by_key_total}
use Rattle.quilt_edits.proofs.Keys.{le_layer, le_code, less_code, less_depth}
use Rattle.quilt_region.proofs.plans.LayerPlans.{shorter}
use Rattle.quilt_region.proofs.Records.{region_small, region_length, spelled_leaf}
use Rattle.quilt_region.proofs.Trees.{tree_rises}
use Rattle.quilt_region.proofs.Within.{within_from, within_at, within_rise}

-- the first and the last key of a block of a layer
pub record AreEnds (n layer : ℕ) (b : Block) (low high : Key) : Type 0 where
  pub low_layer : low.layer ≡ layer
  pub low_part : low.part ≡ 1
  pub low_code : low.code ≡ code_from b
  pub low_depth : low.depth ≡ 0
  pub low_item : low.item ≡ 0
  pub high_layer : high.layer ≡ layer
  pub high_part : high.part ≡ 1
  pub high_code : high.code + 1 ≡ code_to b
  pub high_depth : high.depth ≡ 255

pub length_within : (n layer : ℕ) (g : Grid) (b : Block) → length (records_within n layer g b) ≡ length (leaves_within n g b)
unfolding records_within
length_within n layer g b = length-map (leaves_within n g b) (leaf_record n layer)

pub few_within : (n layer : ℕ) (g : Grid) (b : Block) → n ≤ 12 → length (records_within n layer g b) ≤ 16777216
few_within n layer g b le =
    let small = region_small n layer g le in
    let all = region_length n layer g in
    let own = length_within n layer g b in
    let less = shorter _ (leaves_by_code n g) (Apart-rises leaf_cmp leaf_total (leaves_by_code n g) (leaves_rise n g le)) in
    let less' : length (leaves_within n g b) ≤ length (leaves_by_code n g) = less in
    omega arith

module _ (rs : List Record) (layer n : ℕ) (g : Grid) (le : n ≤ 12) (up : Rises by_key rs) (spells : SpellsGrid rs layer n g) (b : Block)
    (hb : IsBlock n b) (low high : Key) (ends : AreEnds n layer b low high) where
  low_le : (e : Block × ℕ) → IsBlock n e.0 → code_from b ≤ code_from e.0 → is_le (key_cmp low (leaf_record n layer e).key) ≡ true
  low_le e he from =
      let k = (leaf_record n layer e).key in
      ⊎_elim
      (λ lt. ap is_le (less_code low k ends.low_layer ends.low_part (let c = ends.low_code in omega arith)))
      (λ ge. at_depth k.depth refl ge) (cases_lt (code_from b) (code_from e.0))
    where
      at_depth : (d : ℕ) → (leaf_record n layer e).key.depth ≡ d → code_from e.0 ≤ code_from b → is_le (key_cmp low (leaf_record n layer e).key) ≡ true
      at_depth zero is ge =
          let a = ends.low_layer in
          let p = ends.low_part in
          let c : low.code ≡ code_from e.0 = (let z = ends.low_code in omega arith) in
          let d : low.depth ≡ (leaf_record n layer e).key.depth = ends.low_depth ∙ sym is in
          let i = ends.low_item in
          let same : low ≡ (leaf_record n layer e).key = λ j. record { layer = a j; part = p j; code = c j; depth = d j; item = i j } in
          ap (λ (z : Key). is_le (key_cmp low z)) (sym same) ∙ ap is_le (tied_itself key_total low)
      at_depth (suc d) is ge =
          ap is_le (less_depth low (leaf_record n layer e).key ends.low_layer ends.low_part (let z = ends.low_code in omega arith)
          (let z = ends.low_depth in omega arith))

  high_le : (e : Block × ℕ) → IsBlock n e.0 → code_from e.0 < code_to b → is_le (key_cmp (leaf_record n layer e).key high) ≡ true
  high_le e he to =
      let k = (leaf_record n layer e).key in
      let c = ends.high_code in
      let d = ends.high_depth in
      let deep = depth_is n e.0 he in
      ⊎_elim
      (λ lt. ap is_le (less_code k high (sym ends.high_layer) (sym ends.high_part) lt))
      (λ ge. ap is_le (less_depth k high (sym ends.high_layer) (sym ends.high_part) (omega arith) (omega arith)))
      (cases_lt (code_from e.0) high.code)

  layer_of : (r : Record) → is_from_to low high r ≡ true → r.key.layer ≡ layer
  layer_of r t =
      let both = and_parts (is_le (key_cmp low r.key)) (is_le (key_cmp r.key high)) t in
      let a = le_layer low r.key both.0 in
      let c = le_layer r.key high both.1 in
      let x = ends.low_layer in
      let y = ends.high_layer in
      omega arith

  leaf_within : (e : Block × ℕ) → Contains (leaves n g) e → is_from_to low high (leaf_record n layer e) ≡ true → Contains (leaves_within n g b) e
  leaf_within e c t =
      let k = (leaf_record n layer e).key in
      let both = and_parts (is_le (key_cmp low k)) (is_le (key_cmp k high)) t in
      let a = le_code low k ends.low_layer ends.low_part both.0 in
      let z = le_code k high (sym ends.high_layer) (sym ends.high_part) both.1 in
      let x = ends.low_code in
      let y = ends.high_code in
      within_at n g b le hb e c (omega arith) (omega arith)

  within_rises : Rises by_key (records_within n layer g b)
  unfolding records_within
  within_rises =
      Rises-map leaf_cmp by_key (leaf_record n layer) (leaves_within n g b)
      (λ d e _ _ lt. less_code (leaf_record n layer d).key (leaf_record n layer e).key refl refl (nat_less_from (code_from d.0) (code_from e.0) lt))
      (within_rise n g b le hb)

  range_filter : filter (is_from_to low high) rs ≡ records_within n layer g b
  unfolding records_within
  range_filter =
      same_rising by_key by_key_total (filter (is_from_to low high) rs) (records_within n layer g b)
      (Rises-filter by_key (is_from_to low high) rs up) within_rises
      (λ r. (
        λ c.
            let k = Contains-filter_from (is_from_to low high) rs r c in
            let l = spelled_leaf rs layer n g le up spells r k.0 (layer_of r k.1) in
            let t = ap (is_from_to low high) l.2 ∙ k.1 in
            subst (Contains (map (leaf_record n layer) (leaves_within n g b))) l.2
            (Contains-map (leaf_record n layer) (leaves_within n g b) l.0 (leaf_within l.0 l.1 t)),
        λ c.
            let m = Contains-map_from (leaf_record n layer) (leaves_within n g b) r c in
            let w = within_from n g b le hb m.0 m.1 in
            let he = (leaf_is n g m.0 w.0).maximal.block in
            subst (Contains (filter (is_from_to low high) rs)) m.2
            (Contains-filter (is_from_to low high) rs (leaf_record n layer m.0) (spells.each m.0 w.0)
            (and_from (is_le (key_cmp low (leaf_record n layer m.0).key)) (is_le (key_cmp (leaf_record n layer m.0).key high)) (low_le m.0 he w.1)
            (high_le m.0 he w.2))),
      ))

  pub range_within : (most : ℕ) → 16777216 ≤ most → range_of low high most rs ≡ records_within n layer g b
  unfolding range_of
  range_within most room =
      let s = few_within n layer g b le in
      ap (take most) range_filter ∙ take_all most (records_within n layer g b) (omega arith)

-- what is read of a tree that has the layer
pub read_within : (told : Option (List (List ℕ))) (t : Tree) (layer n : ℕ) (g : Grid) (b : Block) (low high : Key) (items : List Record) (most : ℕ)
    → n ≤ 12 → IsBlock n b → AreEnds n layer b low high → 16777216 ≤ most
    → ((rs : List Record) → IsTree told t rs → items ≡ range_of low high most rs) → HasRegion told t layer n g → items ≡ records_within n layer g b
read_within told t layer n g b low high items most le hb ends room is h =
    is h.records h.tree ∙ range_within h.records layer n g le (tree_rises told t h.records h.tree) h.spelled b hb low high ends most room
