-- The records of a block, and those of the segments, as a range of the tree's.
use Rattle.std.proofs.Common.{◌≡◌, ℕ, ◌≤◌, Bool, true, false, cond, List, [], ◌∷◌, map, filter, length, Option, refl, sym, ◌∙◌, ap, subst}
use Rattle.std.proofs.Common.{arith, Contains, nat_cmp, Ordering}
use Rattle.std.specs.FinMap as finmap
use Rattle.std.proofs.lemmas.Bool.{both_ways}
use Rattle.std.proofs.lemmas.List.{take_all}
use Rattle.quilt_types.specs.Sets as finset
use Rattle.quilt_types.specs.declared.plane.Block.{Block}
use Rattle.quilt_types.specs.declared.plane.Seg.{Seg}
use Rattle.quilt_types.specs.Plane.{IsBlock}
use Rattle.quilt_types.specs.Layers.{SegMap, BlockSet}
use Rattle.quilt_types.specs.Segments.{square, meets}
use Rattle.quilt_types.specs.Facts.{Fact, IsSegment, IsMetBy, IsMetByNone, or_none, line_facts}
use Rattle.quilt_loc.specs.Codes.{Rises}
use Rattle.quilt_loc.proofs.Members.{Contains-nil, Contains-map, Contains-map_from, Contains-filter, Contains-filter_from}
use Rattle.quilt_loc.proofs.PlaneOrders.{block_total}
use Rattle.quilt_loc.proofs.Rising.{same_rising, Rises-filter, Rises-map}
use Rattle.quilt_record.specs.declared.key.Key.{Key}
use Rattle.quilt_record.specs.declared.record.Record.{Record}
use Rattle.quilt_btree.specs.declared.tree.Tree.{Tree}
use Rattle.quilt_btree.specs.Lists.{is_from_to, range_of}
use Rattle.quilt_btree.specs.Trees.{IsTree}
use Rattle.quilt_spell.specs.Written.{by_key}
use Rattle.quilt_spell.proofs.facts.FactKeys.{block_same}
use Rattle.quilt_spell.proofs.Lists.{Apart-rises, Apart-le}
use Rattle.quilt_spell.proofs.Maps.{by_first, Rises-entries}
use Rattle.quilt_spell.proofs.Written.{by_key_total}
use Rattle.quilt_line_laws.proofs.LineFacts.{on_block, block_on, got, entry}
use Rattle.quilt_line_laws.proofs.SetLaws.{contains_is}
use Rattle.quilt_near.specs.Lines.{meeting}
use Rattle.quilt_lines.specs.Layers.{segment_facts, shown_facts, fact_record, SpellsLines, HasLines}
use Rattle.quilt_lines.specs.Reads.{segment_key, block_records}
use Rattle.quilt_lines.proofs.Keys.{item_key, AreAlike, by_item, in_range, range_alike}
use Rattle.quilt_lines.proofs.Shown.{first_key, shown_says, segment_shown, block_shown, small_id, on_alike, alike_on, segment_alike}
use Rattle.quilt_lines.proofs.Trees.{tree_rises, tree_few}

-- facts in the order of their records
abbrev by_record : ℕ → ℕ → Fact → Fact → Ordering
by_record n layer f g = by_key (fact_record n layer f) (fact_record n layer g)

records_rise : (n layer : ℕ) (fs : List Fact) → Rises (by_record n layer) fs → Rises by_key (map (fact_record n layer) fs)
records_rise n layer fs h = Rises-map (by_record n layer) by_key (fact_record n layer) fs (λ f g _ _ e. e) h

or_none_rises : (n layer : ℕ) (none : Fact) (fs : List Fact) → Rises (by_record n layer) fs → Rises (by_record n layer) (or_none none fs)
or_none_rises n layer none [] h = (λ y c. absurd (Contains-nil y c), tt)
or_none_rises n layer none (f ∷ fs) h = h

block_facts_rise : (n layer : ℕ) (segs : SegMap) (b : Block) → Rises (by_record n layer) (line_facts segs b)
block_facts_rise n layer segs b =
    or_none_rises n layer (IsMetByNone b) (map (λ (e : ℕ × Seg). IsMetBy b e.0) (meeting segs b))
    (Rises-map (by_first nat_cmp) (by_record n layer) (λ (e : ℕ × Seg). IsMetBy b e.0) (meeting segs b) (λ d e _ _ h. by_item (first_key n layer b) d.0 e.0 ∙ h)
    (Rises-filter (by_first nat_cmp) (λ (e : ℕ × Seg). meets e.1 (square b)) (finmap.entries segs) (Rises-entries nat_cmp segs)))

segment_facts_rise : (n layer : ℕ) (segs : SegMap) → Rises (by_record n layer) (segment_facts segs)
segment_facts_rise n layer segs =
    Rises-map (by_first nat_cmp) (by_record n layer) (λ (e : ℕ × Seg). IsSegment e.0 e.1) (finmap.entries segs)
    (λ d e _ _ h. by_item (segment_key layer 0) d.0 e.0 ∙ h) (Rises-entries nat_cmp segs)

-- a fact of the list: it is one of the layer's, and its record has a key of the range
record IsRanged (n layer : ℕ) (segs : SegMap) (cover : BlockSet) (low : Key) (f : Fact) : Type 0 where
  shown : Contains (shown_facts segs cover) f
  alike : (fact_record n layer f).key ≡ item_key low (fact_record n layer f).key.item
  small : (fact_record n layer f).key.item ≤ 4294967295

module _ (rs : List Record) (layer n t : ℕ) (segs : SegMap) (cover : BlockSet) (up : Rises by_key rs) (few : length rs ≤ 4294967295)
    (spells : SpellsLines rs layer n t segs cover) where
  abbrev within : Key → List Record
  within low = filter (is_from_to (item_key low 0) (item_key low 4294967295)) rs

  within_few : (low : Key) → length (within low) ≤ 4294967295
  within_few low =
      let range = is_from_to (item_key low 0) (item_key low 4294967295) in
      let le = Apart-le (within low) rs (Apart-rises by_key by_key_total (within low) (Rises-filter by_key range rs up))
      (λ r c. (Contains-filter_from range rs r c).0) in
      omega arith

  -- the records of the range are those of the facts whose keys are in it
  range_is : (low : Key) (fs : List Fact) → low.layer ≡ layer → Rises (by_record n layer) fs
      → ((f : Fact) → Contains (shown_facts segs cover) f → AreAlike low (fact_record n layer f).key → Contains fs f)
      → ((f : Fact) → Contains fs f → IsRanged n layer segs cover low f)
      → range_of (item_key low 0) (item_key low 4294967295) 4294967295 rs ≡ map (fact_record n layer) fs
  unfolding range_of
  range_is low fs here rise each only =
      let range = is_from_to (item_key low 0) (item_key low 4294967295) in
      take_all 4294967295 (within low) (within_few low)
      ∙ same_rising by_key by_key_total (within low) (map (fact_record n layer) fs) (Rises-filter by_key range rs up) (records_rise n layer fs rise)
      (λ r. (
        λ c.
            let k = Contains-filter_from range rs r c in
            let a = range_alike low r 4294967295 k.1 in
            let m = Contains-map_from (fact_record n layer) (shown_facts segs cover) r (spells.only r k.0 (sym a.layer ∙ here)) in
            subst (Contains (map (fact_record n layer) fs)) m.2
            (Contains-map (fact_record n layer) fs m.0 (each m.0 m.1 (subst (λ (z : Record). AreAlike low z.key) (sym m.2) a))),
        λ c.
            let m = Contains-map_from (fact_record n layer) fs r c in
            let w = only m.0 m.1 in
            subst (Contains (within low)) m.2
            (Contains-filter range rs (fact_record n layer m.0) (spells.each m.0 w.shown) (in_range low (fact_record n layer m.0) 4294967295 w.alike w.small)),
      ))

  module _ (le : n ≤ 12) where
    range_block_if : (b : Block) → IsBlock n b → (there : Bool) → finset.contains cover b ≡ there
        → range_of (item_key (first_key n layer b) 0) (item_key (first_key n layer b) 4294967295) 4294967295 rs
        ≡ map (fact_record n layer) (cond there (line_facts segs b) [])
    range_block_if b hb true is =
        let m = (contains_is block_total block_same cover b).0 is in
        range_is (first_key n layer b) (line_facts segs b) refl (block_facts_rise n layer segs b)
        (λ f c a. block_on segs b f (on_alike n layer t segs cover spells.valid le b hb f (shown_says n layer t segs cover f c) a).1)
        (λ f c.
        let k = alike_on n layer t segs cover spells.valid b f (on_block segs b f c) in
        record { shown = block_shown n layer t segs cover b f m c; alike = k.0; small = k.1 })
    range_block_if b hb false is =
        range_is (first_key n layer b) [] refl tt
        (λ f c a.
        absurd (both_ways (finset.contains cover b) is
        ((contains_is block_total block_same cover b).1 (on_alike n layer t segs cover spells.valid le b hb f (shown_says n layer t segs cover f c) a).0)))
        (λ f c. absurd (Contains-nil f c))

    if_map : (there : Bool) (fs : List Fact) → map (fact_record n layer) (cond there fs []) ≡ cond there (map (fact_record n layer) fs) []
    if_map true fs = refl
    if_map false fs = refl

    pub range_block : (b : Block) → IsBlock n b
        → range_of (item_key (first_key n layer b) 0) (item_key (first_key n layer b) 4294967295) 4294967295 rs ≡ block_records n layer segs cover b
    range_block b hb = range_block_if b hb (finset.contains cover b) refl ∙ if_map (finset.contains cover b) (line_facts segs b)

  pub range_segments : range_of (segment_key layer 0) (segment_key layer 4294967295) 4294967295 rs ≡ map (fact_record n layer) (segment_facts segs)
  range_segments =
      range_is (segment_key layer 0) (segment_facts segs) refl (segment_facts_rise n layer segs)
      (λ f c a.
      let s = segment_alike n layer t segs cover 0 f (shown_says n layer t segs cover f c) a in
      subst (Contains (segment_facts segs)) (sym s.1)
      (Contains-map (λ (e : ℕ × Seg). IsSegment e.0 e.1) (finmap.entries segs) s.0 (entry segs s.0.0 s.0.1 s.2)))
      (λ f c.
      let m = Contains-map_from (λ (e : ℕ × Seg). IsSegment e.0 e.1) (finmap.entries segs) f c in
      let g = got segs m.0 m.1 in
      let small = small_id n layer t segs cover spells.valid m.0.0 m.0.1 g in
      subst (IsRanged n layer segs cover (segment_key layer 0)) m.2
      (record { shown = segment_shown n layer t segs cover m.0.0 m.0.1 g; alike = refl; small = omega arith }))

-- ---- what is read of a tree that has the layer
module _ (told : Option (List (List ℕ))) (tree : Tree) (layer n t : ℕ) (segs : SegMap) (cover : BlockSet) (low high : Key)
    (items : List Record) (few : tree.height ≤ 3)
    (range : (rs : List Record) → IsTree told tree rs → items ≡ range_of low high 4294967295 rs) (h : HasLines told tree layer n t segs cover) where
  pub block_read : n ≤ 12 → (b : Block) → IsBlock n b → low ≡ first_key n layer b → high ≡ item_key low 4294967295 → items ≡ block_records n layer segs cover b
  block_read le b hb first last =
      range h.records h.is_tree
      ∙ ap (λ (k : Key). range_of k high 4294967295 h.records) first
      ∙ ap (λ (k : Key). range_of (first_key n layer b) k 4294967295 h.records) (last ∙ ap (λ (k : Key). item_key k 4294967295) first)
      ∙ range_block h.records layer n t segs cover (tree_rises told tree h.records h.is_tree) (tree_few told tree h.records few h.is_tree) h.spelled le b hb

  pub segments_read : low ≡ segment_key layer 0 → high ≡ segment_key layer 4294967295 → items ≡ map (fact_record n layer) (segment_facts segs)
  segments_read first last =
      range h.records h.is_tree
      ∙ ap (λ (k : Key). range_of k high 4294967295 h.records) first
      ∙ ap (λ (k : Key). range_of (segment_key layer 0) k 4294967295 h.records) last
      ∙ range_segments h.records layer n t segs cover (tree_rises told tree h.records h.is_tree) (tree_few told tree h.records few h.is_tree) h.spelled
