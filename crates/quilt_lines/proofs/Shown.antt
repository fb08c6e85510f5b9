-- The facts on the segments and the blocks of a line layer, and their records.
use Rattle.std.proofs.Common.{◌≡◌, ℕ, ◌<◌, ◌≤◌, ◌^◌, true, flat_map, Some, refl, sym, ap, subst, ⊎_elim, arith, Contains, nat_lt}
use Rattle.std.proofs.Common.{ltb-true}
use Rattle.std.specs.FinMap as finmap
use Rattle.std.proofs.lemmas.Bool.{and_parts}
use Rattle.std.proofs.lemmas.List.Elements.{All-contains, Contains-append_left, Contains-append_right, Contains-append_cases}
use Rattle.quilt_types.specs.Sets as finset
use Rattle.quilt_types.specs.declared.plane.Block.{Block}
use Rattle.quilt_types.specs.declared.plane.Seg.{Seg}
use Rattle.quilt_types.specs.Plane.{side, is_pixel, blocks, IsBlock}
use Rattle.quilt_types.specs.Layers.{SegMap, BlockSet, IsLineMap, is_in_square}
use Rattle.quilt_types.specs.Facts.{Fact, IsOfKind, HasColour, HoldsPoint, HoldsNoPoint, IsSegment, IsMetBy, IsMetByNone, line_facts}
use Rattle.quilt_loc.proofs.Members.{Contains-there, Contains-map, Contains-map_from, Contains-flat_map, Contains-flat_map_from}
use Rattle.quilt_loc.proofs.Blocks.{IsBlock-from, side_most}
use Rattle.quilt_record.specs.declared.key.Key.{Key}
use Rattle.quilt_record.specs.Records.{block_key}
use Rattle.quilt_record.specs.Canonical.{FactFits}
use Rattle.quilt_spell.proofs.facts.FactKeys.{block_alone}
use Rattle.quilt_line_laws.specs.Lines.{IsMet, IsLineFact, IsOnBlock}
use Rattle.quilt_line_laws.proofs.LineFacts.{entry, on_block, says}
use Rattle.quilt_lines.specs.Layers.{segment_facts, shown_facts, fact_record}
use Rattle.quilt_lines.specs.Reads.{segment_key}
use Rattle.quilt_lines.proofs.Keys.{item_key, AreAlike}

-- the key of the first record of a block
abbrev pub first_key : ℕ → ℕ → Block → Key
first_key n layer b = block_key n layer 3 b 0

-- no fact of the kind is among them
pub no_kind : (segs : SegMap) (cover : BlockSet) (kind number : ℕ) → Contains (shown_facts segs cover) (IsOfKind kind number) → ⊥
no_kind segs cover kind number c =
    ⊎_elim
    (λ s. let m = Contains-map_from (λ (e : ℕ × Seg). IsSegment e.0 e.1) (finmap.entries segs) (IsOfKind kind number) s in other m.0.0 m.0.1 m.2)
    (λ d. let m = Contains-flat_map_from (line_facts segs) (finset.items cover) (IsOfKind kind number) d in on_block segs m.0 (IsOfKind kind number) m.2)
    (Contains-append_cases (segment_facts segs) (flat_map (line_facts segs) (finset.items cover)) (IsOfKind kind number) c)
  where
    other : (id : ℕ) (s : Seg) → IsSegment id s ≡ IsOfKind kind number → ⊥
    other id s e = cc

module _ (n layer t : ℕ) (segs : SegMap) (cover : BlockSet) where
  pub shown_says : (f : Fact) → Contains (shown_facts segs cover) f → IsLineFact t segs cover f
  shown_says f c = says n t segs cover f (Contains-there (IsOfKind 3 t) (shown_facts segs cover) f c)

  pub segment_shown : (id : ℕ) (s : Seg) → finmap.get segs id ≡ Some s → Contains (shown_facts segs cover) (IsSegment id s)
  segment_shown id s h =
      Contains-append_left (segment_facts segs) (flat_map (line_facts segs) (finset.items cover)) (IsSegment id s)
      (Contains-map (λ (e : ℕ × Seg). IsSegment e.0 e.1) (finmap.entries segs) (id, s) (entry segs id s h))

  pub block_shown : (b : Block) (f : Fact) → Contains (finset.items cover) b → Contains (line_facts segs b) f → Contains (shown_facts segs cover) f
  block_shown b f m c =
      Contains-append_right (segment_facts segs) (flat_map (line_facts segs) (finset.items cover)) f
      (Contains-flat_map (line_facts segs) (finset.items cover) b f m c)

  module _ (valid : IsLineMap n t segs cover) where
    pub cover_block : (b : Block) → Contains (finset.items cover) b → IsBlock n b
    cover_block b m = IsBlock-from n b (All-contains (Contains (blocks n)) (finset.items cover) b valid.each m)

    pub small_id : (id : ℕ) (s : Seg) → finmap.get segs id ≡ Some s → id < 2 ^ 32
    small_id id s h = All-contains (λ (e : ℕ × Seg). e.0 < 2 ^ 32) (finmap.entries segs) (id, s) valid.ids (entry segs id s h)

    module _ (le : n ≤ 12) where
      same_there : (b c : Block) → IsBlock n b → Contains (finset.items cover) c → AreAlike (first_key n layer b) (block_key n layer 3 c 0) → c ≡ b
      same_there b c hb m a = block_alone n le c b (cover_block c m) hb (sym a.code) (sym a.depth)

      -- a fact whose key is one of the block's
      pub on_alike : (b : Block) → IsBlock n b → (f : Fact) → IsLineFact t segs cover f → AreAlike (first_key n layer b) (fact_record n layer f).key
          → Contains (finset.items cover) b × IsOnBlock segs b f
      on_alike b hb (IsMetBy c id) h a =
          let is = same_there b c hb h.0 (record { layer = a.layer; part = a.part; code = a.code; depth = a.depth }) in
          (subst (Contains (finset.items cover)) is h.0, (sym is, subst (λ (z : Block). IsMet segs z id) is h.1))
      on_alike b hb (IsMetByNone c) h a =
          let is = same_there b c hb h.0 (record { layer = a.layer; part = a.part; code = a.code; depth = a.depth }) in
          (subst (Contains (finset.items cover)) is h.0, (sym is, subst (λ (z : Block). (id : ℕ) → IsMet segs z id → ⊥) is h.1))
      on_alike b hb (IsOfKind kind number) h a = absurd (let e = a.part in omega arith)
      on_alike b hb (IsSegment id s) h a = absurd (let e = a.part in omega arith)
      on_alike b hb (HasColour c colour) h a = absurd h
      on_alike b hb (HoldsPoint c p label) h a = absurd h
      on_alike b hb (HoldsNoPoint c) h a = absurd h

    -- a fact on the block has a key of its
    pub alike_on : (b : Block) (f : Fact) → IsOnBlock segs b f
        → ((fact_record n layer f).key ≡ item_key (first_key n layer b) (fact_record n layer f).key.item) × ((fact_record n layer f).key.item ≤ 4294967295)
    alike_on b (IsMetBy c id) h =
        let small = small_id id h.1.0 h.1.1 in
        (ap (λ (z : Block). block_key n layer 3 z id) (sym h.0), omega arith)
    alike_on b (IsMetByNone c) h = (ap (λ (z : Block). block_key n layer 3 z 0) (sym h.0), omega arith)
    alike_on b (IsOfKind kind number) h = absurd h
    alike_on b (IsSegment id s) h = absurd h
    alike_on b (HasColour c colour) h = absurd h
    alike_on b (HoldsPoint c p label) h = absurd h
    alike_on b (HoldsNoPoint c) h = absurd h

  -- a fact whose key is a segment's
  pub segment_alike : (i : ℕ) (f : Fact) → IsLineFact t segs cover f → AreAlike (segment_key layer i) (fact_record n layer f).key
      → (e : ℕ × Seg) × (f ≡ IsSegment e.0 e.1) × (finmap.get segs e.0 ≡ Some e.1)
  segment_alike i (IsSegment id s) h a = ((id, s), refl, h)
  segment_alike i (IsMetBy c id) h a = absurd (let e = a.part in omega arith)
  segment_alike i (IsMetByNone c) h a = absurd (let e = a.part in omega arith)
  segment_alike i (IsOfKind kind number) h a = absurd (let e = a.part in omega arith)
  segment_alike i (HasColour c colour) h a = absurd h
  segment_alike i (HoldsPoint c p label) h a = absurd h
  segment_alike i (HoldsNoPoint c) h a = absurd h

-- what a segment of the layer is
pub record IsLaid (n id : ℕ) (s : Seg) : Type 0 where
  pub fits : FactFits n (IsSegment id s)
  pub inside : is_in_square n s ≡ true

pub segment_laid : (n layer t : ℕ) (segs : SegMap) (cover : BlockSet) → IsLineMap n t segs cover → n ≤ 12 → (id : ℕ) (s : Seg)
    → finmap.get segs id ≡ Some s → IsLaid n id s
segment_laid n layer t segs cover valid le id s h =
    let inside = All-contains (λ (e : ℕ × Seg). is_in_square n e.1 ≡ true) (finmap.entries segs) (id, s) valid.inside (entry segs id s h) in
    let ends = and_parts (is_pixel n (record { x = s.x1; y = s.y1 })) (is_pixel n (record { x = s.x2; y = s.y2 })) inside in
    let first = and_parts (nat_lt s.x1 (side n)) (nat_lt s.y1 (side n)) ends.0 in
    let last = and_parts (nat_lt s.x2 (side n)) (nat_lt s.y2 (side n)) ends.1 in
    let most = side_most n le in
    let x1 = ltb-true s.x1 (side n) first.0 in
    let y1 = ltb-true s.y1 (side n) first.1 in
    let x2 = ltb-true s.x2 (side n) last.0 in
    let y2 = ltb-true s.y2 (side n) last.1 in
    let small = small_id n layer t segs cover valid id s h in
    record { fits = (omega arith, omega arith, omega arith, omega arith, omega arith); inside = inside }
