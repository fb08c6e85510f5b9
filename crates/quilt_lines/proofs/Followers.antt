-- The records of segments whose ids follow one another, as a range of the tree's.
use Rattle.std.proofs.Common.{◌≡◌, ℕ, ◌+◌, ◌-◌, ◌<◌, ◌≤◌, ◌&&◌, nat_le, leb-true, le-leb, true, List, map, filter, length, Some, sym, ◌∙◌, ap, subst, arith}
use Rattle.std.proofs.Common.{Bool, false, not, cond, count_by, suc, None, [], ◌∷◌, ◌*◌, Contains, nat_cmp, get_or, take, refl, Option}
use Rattle.std.specs.Cmp.{nat_cmp_total}
use Rattle.std.specs.FinMap as finmap
use Rattle.std.specs.Option.{is_none}
use Rattle.std.proofs.lemmas.List.Sums.{length-filter, count_by_more_yes, count_by_more_no}
use Rattle.std.specs.List.{range_with_len}
use Rattle.std.specs.Ordering.{is_le}
use Rattle.std.proofs.lemmas.Bool.{and_parts, and_from}
use Rattle.std.proofs.lemmas.List.{get_or-map, length-map, take_all, take-map}
use Rattle.std.proofs.lemmas.List.FromFn.{length-range_with_len, get_or-range_with_len}
use Rattle.std.proofs.lemmas.Map.Keys.{le_from_is_le}
use Rattle.quilt_types.specs.declared.plane.Seg.{Seg}
use Rattle.quilt_types.specs.Layers.{SegMap, BlockSet, is_in_square}
use Rattle.quilt_types.specs.Facts.{IsSegment}
use Rattle.quilt_loc.specs.Codes.{Rises}
use Rattle.quilt_loc.proofs.Members.{Contains-map, Contains-map_from, Contains-filter, Contains-filter_from, Contains-range, Contains-range_from}
use Rattle.quilt_loc.proofs.Rising.{same_rising, Rises-filter, Rises-map, Rises-range}
use Rattle.quilt_record.specs.declared.key.Key.{Key}
use Rattle.quilt_record.specs.declared.record.Record.{Record}
use Rattle.quilt_record.specs.Canonical.{FactFits}
use Rattle.quilt_record.specs.Records.{key_cmp}
use Rattle.quilt_btree.specs.declared.tree.Tree.{Tree}
use Rattle.quilt_btree.specs.Lists.{is_from_to, range_of}
use Rattle.quilt_btree.specs.Trees.{IsTree}
use Rattle.quilt_edits.proofs.Lists.{member_at, taken_there}
use Rattle.quilt_world.specs.Tale.{Goes}
use Rattle.quilt_near.proofs.Telling.{tells_weaker}
use Rattle.quilt_spell.proofs.Lists.{Apart-rises, Apart-le}
use Rattle.quilt_lines.proofs.Sums.{UpBy, reads_sum}
use Rattle.quilt_spell.specs.Written.{by_key}
use Rattle.quilt_spell.proofs.Maps.{by_first, Rises-entries}
use Rattle.quilt_spell.proofs.Written.{by_key_total}
use Rattle.quilt_line_laws.proofs.LineFacts.{got, entry}
use Rattle.quilt_lines.specs.Layers.{shown_facts, fact_record, SpellsLines, HasLines}
use Rattle.quilt_lines.specs.Reads.{segment_key, ids_of}
use Rattle.quilt_lines.proofs.Keys.{AreAlike, between_alike, by_item, le_item}
use Rattle.quilt_lines.proofs.Shown.{shown_says, segment_shown, segment_alike}
use Rattle.quilt_lines.proofs.Trees.{tree_rises}
use Rattle.quilt_lines.proofs.Scans.{row, no_segment, row_said}

-- a segment whose id is one of those from a to last
pub record IsOfRun (n layer : ℕ) (segs : SegMap) (a last : ℕ) (r : Record) : Type 0 where
  pub seg : ℕ × Seg
  pub got : finmap.get segs seg.0 ≡ Some seg.1
  pub is : r ≡ row n layer seg
  pub from : a ≤ seg.0
  pub upto : seg.0 ≤ last

module _ (rs : List Record) (layer n t : ℕ) (segs : SegMap) (cover : BlockSet) (up : Rises by_key rs) (spells : SpellsLines rs layer n t segs cover) where
  -- a record of the range is one of them
  pub of_run : (a last : ℕ) (r : Record) → Contains rs r → is_from_to (segment_key layer a) (segment_key layer last) r ≡ true → IsOfRun n layer segs a last r
  of_run a last r c in' =
      let low = segment_key layer 0 in
      let both = and_parts (is_le (key_cmp (segment_key layer a) r.key)) (is_le (key_cmp r.key (segment_key layer last))) in' in
      let alike = between_alike low r.key a last both.0 both.1 in
      let m = Contains-map_from (fact_record n layer) (shown_facts segs cover) r (spells.only r c (sym alike.layer)) in
      let s = segment_alike n layer t segs cover 0 m.0 (shown_says n layer t segs cover m.0 m.1) (subst (λ (z : Record). AreAlike low z.key) (sym m.2) alike) in
      let is : r ≡ row n layer s.0 = sym m.2 ∙ ap (fact_record n layer) s.1 in
      record {
        seg = s.0;
        got = s.2;
        is = is;
        from = le_from_is_le a s.0.0 (sym (ap is_le (by_item low a s.0.0)) ∙ ap (λ (z : Record). is_le (key_cmp (segment_key layer a) z.key)) (sym is) ∙ both.0);
        upto = le_from_is_le s.0.0 last (sym (ap is_le (by_item low s.0.0 last)) ∙ ap (λ (z : Record). is_le (key_cmp z.key (segment_key layer last))) (sym is) ∙ both.1);
      }

  in_run : (a last : ℕ) (e : ℕ × Seg) → a ≤ e.0 → e.0 ≤ last → is_from_to (segment_key layer a) (segment_key layer last) (row n layer e) ≡ true
  in_run a last e from upto =
      let low = segment_key layer 0 in
      and_from (is_le (key_cmp (segment_key layer a) (row n layer e).key)) (is_le (key_cmp (row n layer e).key (segment_key layer last)))
      (ap is_le (by_item low a e.0) ∙ le_item a e.0 from) (ap is_le (by_item low e.0 last) ∙ le_item e.0 last upto)

  -- the segments with these ids
  abbrev chosen : ℕ → ℕ → List (ℕ × Seg)
  chosen a last = filter (λ e. nat_le a e.0 && nat_le e.0 last) (finmap.entries segs)

  chosen_rise : (a last : ℕ) → Rises (by_first nat_cmp) (chosen a last)
  chosen_rise a last = Rises-filter (by_first nat_cmp) (λ (e : ℕ × Seg). nat_le a e.0 && nat_le e.0 last) (finmap.entries segs) (Rises-entries nat_cmp segs)

  chosen_at : (a last : ℕ) (e : ℕ × Seg) → finmap.get segs e.0 ≡ Some e.1 → a ≤ e.0 → e.0 ≤ last → Contains (chosen a last) e
  chosen_at a last e h from upto =
      Contains-filter (λ (z : ℕ × Seg). nat_le a z.0 && nat_le z.0 last) (finmap.entries segs) e (entry segs e.0 e.1 h)
      (and_from (nat_le a e.0) (nat_le e.0 last) (le-leb a e.0 from) (le-leb e.0 last upto))

  record IsChosen (a last : ℕ) (e : ℕ × Seg) : Type 0 where
    got : finmap.get segs e.0 ≡ Some e.1
    from : a ≤ e.0
    upto : e.0 ≤ last

  chosen_from : (a last : ℕ) (e : ℕ × Seg) → Contains (chosen a last) e → IsChosen a last e
  chosen_from a last e c =
      let w = Contains-filter_from (λ (z : ℕ × Seg). nat_le a z.0 && nat_le z.0 last) (finmap.entries segs) e c in
      let both = and_parts (nat_le a e.0) (nat_le e.0 last) w.1 in
      record { got = got segs e w.0; from = leb-true a e.0 both.0; upto = leb-true e.0 last both.1 }

  -- the records of the range are theirs
  range_is : (a last : ℕ) → filter (is_from_to (segment_key layer a) (segment_key layer last)) rs ≡ map (row n layer) (chosen a last)
  range_is a last =
      let range = is_from_to (segment_key layer a) (segment_key layer last) in
      same_rising by_key by_key_total (filter range rs) (map (row n layer) (chosen a last)) (Rises-filter by_key range rs up)
      (Rises-map (by_first nat_cmp) by_key (row n layer) (chosen a last) (λ d e _ _ h. by_item (segment_key layer 0) d.0 e.0 ∙ h) (chosen_rise a last))
      (λ r. (
        λ c.
            let k = Contains-filter_from range rs r c in
            let w = of_run a last r k.0 k.1 in
            subst (Contains (map (row n layer) (chosen a last))) (sym w.is)
            (Contains-map (row n layer) (chosen a last) w.seg (chosen_at a last w.seg w.got w.from w.upto)),
        λ c.
            let m = Contains-map_from (row n layer) (chosen a last) r c in
            let w = chosen_from a last m.0 m.1 in
            subst (Contains (filter range rs)) m.2
            (Contains-filter range rs (row n layer m.0) (spells.each (IsSegment m.0.0 m.0.1) (segment_shown n layer t segs cover m.0.0 m.0.1 w.got))
            (in_run a last m.0 w.from w.upto)),
      ))

  -- and where each id has a segment, these are their ids
  chosen_ids : (a count : ℕ) → 1 ≤ count → ((id : ℕ) → a ≤ id → id < a + count → (s : Seg) × (finmap.get segs id ≡ Some s))
      → ids_of (chosen a (a + count - 1)) ≡ range_with_len a count
  chosen_ids a count some there =
      let last = a + count - 1 in
      same_rising nat_cmp nat_cmp_total (ids_of (chosen a last)) (range_with_len a count)
      (Rises-map (by_first nat_cmp) nat_cmp (λ (e : ℕ × Seg). e.0) (chosen a last) (λ d e _ _ h. h) (chosen_rise a last)) (Rises-range a count)
      (λ id. (
        λ c.
            let m = Contains-map_from (λ (e : ℕ × Seg). e.0) (chosen a last) id c in
            let w = chosen_from a last m.0 m.1 in
            let from = w.from in
            let upto = w.upto in
            let is = m.2 in
            Contains-range a count id (omega arith) (omega arith),
        λ c.
            let w = Contains-range_from a count id c in
            let s = there id (omega arith) (omega arith) in
            Contains-map (λ (e : ℕ × Seg). e.0) (chosen a last) (id, s.0) (chosen_at a last (id, s.0) s.1 (omega arith) (omega arith)),
      ))

-- ---- what is read of a tree that has the layer
module _ (told : Option (List (List ℕ))) (tree : Tree) (layer n t : ℕ) (segs : SegMap) (cover : BlockSet) (a count : ℕ) (low high : Key) (items : List Record)
    (first : low ≡ segment_key layer a) (last : high ≡ segment_key layer (a + count - 1))
    (range : (rs : List Record) → IsTree told tree rs → items ≡ range_of low high count rs) (le : n ≤ 12) (h : HasLines told tree layer n t segs cover) where
  rises : Rises by_key h.records
  rises = tree_rises told tree h.records h.is_tree

  items_are : items ≡ take count (filter (is_from_to (segment_key layer a) (segment_key layer (a + count - 1))) h.records)
  unfolding range_of
  items_are =
      range h.records h.is_tree ∙ ap (λ (k : Key). take count (filter (is_from_to k high) h.records)) first
      ∙ ap (λ (k : Key). take count (filter (is_from_to (segment_key layer a) k) h.records)) last

  abbrev es : List (ℕ × Seg)
  es = chosen h.records layer n t segs cover rises h.spelled a (a + count - 1)

  rows_are : items ≡ map (row n layer) (take count es)
  rows_are = items_are ∙ ap (take count) (range_is h.records layer n t segs cover rises h.spelled a (a + count - 1)) ∙ take-map (row n layer) count es

  es_there : (e : ℕ × Seg) → Contains (take count es) e → finmap.get segs e.0 ≡ Some e.1
  es_there e c = (chosen_from h.records layer n t segs cover rises h.spelled a (a + count - 1) e (taken_there es count e c)).got

  module _ (i : ℕ) (d : Record) (lt : i < length items) (said : Option (ℕ × Seg))
      (reads : (id : ℕ) (s : Seg) → get_or items i d ≡ fact_record n layer (IsSegment id s) → FactFits n (IsSegment id s) → is_in_square n s ≡ true
      → said ≡ Some (id, s)) where
    said_at : said ≡ Some (get_or (take count es) i no_segment)
    said_at = row_said n layer t segs cover h.spelled.valid le (take count es) es_there items rows_are i d lt said reads

    in_es : i < length (take count es)
    in_es = let long = ap length rows_are ∙ length-map (take count es) (row n layer) in omega arith

    -- what a record of the range says is a segment of the layer
    pub said_is : (e : ℕ × Seg) × (finmap.get segs e.0 ≡ Some e.1) × (said ≡ Some e)
    said_is =
        let e = get_or (take count es) i no_segment in
        (e, es_there e (member_at (take count es) i no_segment in_es), said_at)

  module _ (some : 1 ≤ count) (there : (id : ℕ) → a ≤ id → id < a + count → (s : Seg) × (finmap.get segs id ≡ Some s)) where
    ids_are : ids_of (take count es) ≡ range_with_len a count
    ids_are =
        let ids = chosen_ids h.records layer n t segs cover rises h.spelled a count some there in
        let many = sym (length-map es (λ (e : ℕ × Seg). e.0)) ∙ ap length ids ∙ length-range_with_len a count in
        ap ids_of (take_all count es (omega arith)) ∙ ids

    -- the range has as many records as there are ids
    pub run_whole : length items ≡ count
    run_whole =
        ap length rows_are ∙ length-map (take count es) (row n layer) ∙ sym (length-map (take count es) (λ (e : ℕ × Seg). e.0)) ∙ ap length ids_are
        ∙ length-range_with_len a count

    -- and the next says the next of them
    pub run_next : (i : ℕ) (d : Record) → i < length items → (said : Option (ℕ × Seg))
        → ((id : ℕ) (s : Seg) → get_or items i d ≡ fact_record n layer (IsSegment id s) → FactFits n (IsSegment id s) → is_in_square n s ≡ true
        → said ≡ Some (id, s)) → (s : Seg) × (said ≡ Some (a + i, s))
    run_next i d lt said reads =
        let e = get_or (take count es) i no_segment in
        let whole = run_whole in
        let id : e.0 ≡ a + i =
        sym (get_or-map (λ (z : ℕ × Seg). z.0) (take count es) i no_segment 0 (in_es i d lt said reads)) ∙ ap (λ (l : List ℕ). get_or l i 0) ids_are
        ∙ get_or-range_with_len a count i 0 (omega arith) in
        (e.1, said_at i d lt said reads ∙ ap (λ (z : ℕ). Some (z, e.1)) id)

-- ---- what is read for ids of which some are known
-- one id more: it is read only where it was not known
pub unknown_more : (was now : ℕ → Option Seg) (ids : List ℕ) (i d : ℕ) → i < length ids
    → (let id = get_or ids i d in (s : Seg) → was id ≡ Some s → now id ≡ Some s) → (x y z : Option ℕ)
    → Goes (λ old new. new ≤ old + 3 * count_by (λ id. is_none (was id)) (take i ids)) x y
    → Goes (λ old new. new ≤ old + 3) y z → (is_none (now (get_or ids i d)) ≡ false → Goes (λ old new. new ≤ old) y z)
    → Goes (λ old new. new ≤ old + 3 * count_by (λ id. is_none (was id)) (take (i + 1) ids)) x z
unknown_more was now ids i d lt stays x y z p q again =
    let test = λ (id : ℕ). is_none (was id) in
    let id = get_or ids i d in
    let k = count_by test (take i ids) in
    elim (was id) as (λ o. was id ≡ o → Goes (UpBy (3 * count_by test (take (i + 1) ids))) x z) [
      | None ↦ λ e.
          let more = count_by_more_yes test ids i d lt (ap is_none e) in
          reads_sum x y z (3 * k) 3 (3 * count_by test (take (i + 1) ids)) (omega arith) p q
      | (Some s) ↦ λ e.
          let more = count_by_more_no test ids i d lt (ap is_none e) in
          let known : is_none (now id) ≡ false = ap is_none (stays s e) in
          reads_sum x y z (3 * k) 0 (3 * count_by test (take (i + 1) ids)) (omega arith) p
          (tells_weaker (λ old new. new ≤ old) (UpBy 0) (λ old new le. omega arith) y z (again known))
    ] refl

-- those that pass and those that do not are all
parted : (p : ℕ → Bool) (xs : List ℕ) → length (filter p xs) + length (filter (λ x. not (p x)) xs) ≡ length xs
parted p [] = refl
parted p (x ∷ xs) =
    let r = parted p xs in
    let rest = filter (λ y. not (p y)) xs in
    elim (p x) as (λ b. length (cond b (x ∷ filter p xs) (filter p xs)) + length (cond (not b) (x ∷ rest) rest) ≡ suc (length xs)) [
      | true ↦ omega arith
      | false ↦ omega arith
    ]

-- a run of ids that are known is not read
pub run_known : (known : ℕ → Option Seg) (ids : List ℕ) (a b : ℕ) → a ≤ b
    → ((q : ℕ) → a ≤ q → q ≤ b → Contains ids q × ((s : Seg) × (known q ≡ Some s)))
    → count_by (λ id. is_none (known id)) ids + (b + 1 - a) ≤ length ids
run_known known ids a b le each =
    let test = λ (id : ℕ). is_none (known id) in
    let run = range_with_len a (b + 1 - a) in
    let rest = filter (λ (id : ℕ). not (test id)) ids in
    let long = length-range_with_len a (b + 1 - a) in
    let few : length run ≤ length rest =
    Apart-le run rest (Apart-rises nat_cmp nat_cmp_total run (Rises-range a (b + 1 - a))) (λ q c.
    let w = Contains-range_from a (b + 1 - a) q c in
    let e = each q w.0 (omega arith) in
    Contains-filter (λ (id : ℕ). not (test id)) ids q e.0 (ap (λ (o : Option Seg). not (is_none o)) e.1.1)) in
    let all = parted test ids in
    let same = length-filter test ids in
    omega arith
