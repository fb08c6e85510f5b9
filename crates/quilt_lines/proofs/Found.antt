-- What a record of the layer's blocks, found anywhere, says of them.
use Rattle.std.proofs.Common.{◌≡◌, ℕ, ◌≤◌, ◌&&◌, nat_lt, true, false, List, [], Option, Some, None, refl, sym, ◌∙◌, ap, subst, arith, Contains, filter, ⊎_elim}
use Rattle.std.proofs.Common.{true≢false, ltb-true}
use Rattle.std.proofs.lemmas.Bool.{and_parts, cases_Bool}
use Rattle.std.proofs.lemmas.Option.{none-some}
use Rattle.quilt_types.specs.Sets as finset
use Rattle.quilt_types.specs.declared.plane.Block.{Block}
use Rattle.quilt_types.specs.declared.plane.Pixel.{Pixel}
use Rattle.quilt_types.specs.Plane.{in_block, corner, IsBlock}
use Rattle.quilt_types.specs.Layers.{SegMap, BlockSet, IsLineMap}
use Rattle.quilt_loc.proofs.Members.{Contains-filter_from, Contains-map_from}
use Rattle.quilt_loc.proofs.Blocks.{Holds-from}
use Rattle.quilt_loc.proofs.Nesting.{Holds-corner}
use Rattle.quilt_loc.proofs.PlaneOrders.{block_total}
use Rattle.quilt_loc.proofs.Quartered.{Within-whole}
use Rattle.quilt_record.specs.declared.key.Key.{Key}
use Rattle.quilt_record.specs.declared.record.Record.{Record}
use Rattle.quilt_record.specs.Canonical.{IsRecordOf, pair_fact}
use Rattle.quilt_btree.specs.declared.tree.Tree.{Tree}
use Rattle.quilt_btree.specs.Trees.{IsTree}
use Rattle.quilt_btree.specs.Lists.{is_at_most, floor_of}
use Rattle.quilt_spell.proofs.facts.FactKeys.{block_same}
use Rattle.quilt_line_laws.proofs.SetLaws.{contains_is}
use Rattle.quilt_near.specs.Lines.{Lines, IsLines}
use Rattle.quilt_near.proofs.Reached.{each_block, one_holder}
use Rattle.quilt_lines.specs.Layers.{shown_facts, fact_record, SpellsLines, HasLines}
use Rattle.quilt_lines.specs.Hints.{is_cut, IsOfCover}
use Rattle.quilt_lines.proofs.Floors.{last_there}
use Rattle.quilt_lines.proofs.Keys.{AreAlike}
use Rattle.quilt_lines.proofs.Shown.{first_key, shown_says, on_alike}

-- the pixel that a block of the level holds is one of it
pub pixel_block : (n : ℕ) (b : Block) (p : Pixel) → IsBlock n b → in_block b p ≡ true
    → (let one : Block = record { x = p.x; y = p.y; side = 1 } in IsBlock n one)
pixel_block n b p h e =
    let i = Holds-from b p e in
    let w = Within-whole n b h in
    let r = i.right in let t = i.bottom in let wr = w.right in let wb = w.bottom in
    record { level = 0; low = omega arith; size = refl; on_x = omega arith; on_y = omega arith; in_x = omega arith; in_y = omega arith }

-- the floor of a key is one of the records
pub floor_there : (k : Key) (rs : List Record) (r : Record) → floor_of k rs ≡ Some r → Contains rs r
unfolding floor_of
floor_there k rs r e =
    let c = ⊎_elim (λ d. d) (λ no. absurd (none-some r no)) (last_there None (filter (is_at_most k) rs) r e) in
    (Contains-filter_from (is_at_most k) rs r c).0

module _ (rs : List Record) (layer n t : ℕ) (segs : SegMap) (cover : BlockSet) (spells : SpellsLines rs layer n t segs cover) (le : n ≤ 12) (r : Record)
    (listed : Contains rs r) (of : r.key.layer ≡ layer) where
  under : (b : Block) (item : ℕ) → IsBlock n b → r.key.part ≡ 3 → r.key.code ≡ (first_key n layer b).code → r.key.depth ≡ (first_key n layer b).depth
      → finset.contains cover b ≡ true
  under b item hb part code depth =
      let m = Contains-map_from (fact_record n layer) (shown_facts segs cover) r (spells.only r listed of) in
      let alike : AreAlike (first_key n layer b) r.key = record { layer = sym of; part = sym part; code = sym code; depth = sym depth } in
      (contains_is block_total block_same cover b).1
      (on_alike n layer t segs cover spells.valid le b hb m.0 (shown_says n layer t segs cover m.0 m.1)
      (subst (λ (z : Record). AreAlike (first_key n layer b) z.key) (sym m.2) alike)).0

  -- a block that a record of the layer is of is one of the layer's
  pub pair_there : (b : Block) (o : Option ℕ) → IsRecordOf n 0 r r.key.layer (pair_fact b o) → finset.contains cover b ≡ true
  pair_there b None is =
      let w = is.written [] in
      under b 0 is.fits (ap (λ (z : Record). z.key.part) w) (ap (λ (z : Record). z.key.code) w) (ap (λ (z : Record). z.key.depth) w)
  pair_there b (Some id) is =
      let w = is.written [] in
      under b id is.fits.0 (ap (λ (z : Record). z.key.part) w) (ap (λ (z : Record). z.key.code) w) (ap (λ (z : Record). z.key.depth) w)

-- a block that holds a smaller one of the layer is none of the layer's
pub cut_away : (n t : ℕ) (segs : SegMap) (cover : BlockSet) → IsLineMap n t segs cover → (o : Option Block) (b : Block) → IsBlock n b → is_cut o b ≡ true
    → IsOfCover cover o → finset.contains cover b ≡ false
cut_away n t segs cover valid None b hb e is = absurd (true≢false (sym e))
cut_away n t segs cover valid (Some c) b hb e is =
    let l : Lines = record { segs = segs; cover = cover } in
    let lines : IsLines n l = record { inside = valid.inside; each = valid.each; once = valid.once } in
    let first = and_parts (nat_lt 1 b.side && nat_lt c.side b.side) (in_block b (corner c)) e in
    let small = ltb-true c.side b.side (and_parts (nat_lt 1 b.side) (nat_lt c.side b.side) first.0).1 in
    let held = Holds-from b (corner c) first.1 in
    let listed = (contains_is block_total block_same cover c).0 is in
    let hc = each_block n l lines c listed in
    let x = hc.in_x in
    let y = hc.in_y in
    ⊎_elim
    (λ yes.
    let same : b ≡ c = one_holder n l lines (corner c) x y b c ((contains_is block_total block_same cover b).0 yes) held listed (Holds-corner n c hc) in
    let sides : b.side ≡ c.side = ap (λ (z : Block). z.side) same in
    absurd (omega arith))
    (λ no. no) (cases_Bool (finset.contains cover b))

-- a known block is one of the layer's, by the record at the floor of a key
pub floor_known : (told : Option (List (List ℕ))) (tree : Tree) (layer n t : ℕ) (segs : SegMap) (cover : BlockSet) (k : Key) (o : Option Record) (r : Record)
    (block : Option Block)
    → ((rs : List Record) → IsTree told tree rs → o ≡ floor_of k rs) → o ≡ Some r
    → ((t : ℕ) (segs : SegMap) (cover : BlockSet) (rs : List Record) → SpellsLines rs layer n t segs cover → Contains rs r → IsOfCover cover block)
    → HasLines told tree layer n t segs cover → IsOfCover cover block
floor_known told tree layer n t segs cover k o r block floor some says h =
    says t segs cover h.records h.spelled (floor_there k h.records r (sym (floor h.records h.is_tree) ∙ some))
