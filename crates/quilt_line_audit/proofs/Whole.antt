-- The records of a line layer that are all, and those that are not.
use Rattle.std.proofs.Common.{◌≡◌, ◌⊎◌, ℕ, ◌<◌, ◌≤◌, ◌^◌, true, T, List, [], ◌∷◌, ◌++◌, map, filter, flat_map, refl, sym, ◌∙◌, ap, subst}
use Rattle.std.proofs.Common.{inl, inr, ⊎_elim, Contains, Ordering, Less, append-nil, nat_cmp}
use Rattle.std.specs.Ordering.{is_lt}
use Rattle.std.specs.FinMap as finmap
use Rattle.std.specs.FinMap.Entries as sorted
use Rattle.std.proofs.lemmas.List.Elements.{filter-append, Contains-append_left, Contains-append_right, Contains-append_cases}
use Rattle.quilt_types.specs.Sets as finset
use Rattle.quilt_types.specs.declared.plane.Block.{Block}
use Rattle.quilt_types.specs.declared.plane.Seg.{Seg}
use Rattle.quilt_types.specs.declared.plane.Kind.TheVariants as kinds
use Rattle.quilt_types.specs.Plane.{whole, blocks, IsBlock}
use Rattle.quilt_types.specs.Layers.{Lines, SegMap, BlockSet, IsLineMap, is_in_square}
use Rattle.quilt_types.specs.Facts.{Fact, IsOfKind, IsSegment, line_facts, facts}
use Rattle.quilt_loc.specs.Codes.{Rises}
use Rattle.quilt_loc.proofs.Blocks.{Contains-blocks}
use Rattle.quilt_loc.proofs.Members.{Contains-here, Contains-there, Contains-cons_cases, Contains-map, Contains-map_from, Contains-filter, Contains-filter_from}
use Rattle.quilt_loc.proofs.Members.{Contains-flat_map, Contains-flat_map_from}
use Rattle.quilt_loc.proofs.PlaneOrders.{block_total}
use Rattle.quilt_loc.proofs.Quartered.{IsBlock-whole}
use Rattle.quilt_loc.proofs.Rising.{Rises-filter}
use Rattle.quilt_record.specs.declared.record.Record.{Record}
use Rattle.quilt_record.specs.Records.{record_of}
use Rattle.quilt_spell.specs.Written.{by_key}
use Rattle.quilt_spell.proofs.facts.FactKeys.{block_same}
use Rattle.quilt_spell.proofs.Maps.{by_first}
use Rattle.quilt_spell.proofs.Spelling.{all_from}
use Rattle.quilt_line_laws.proofs.Adding.{cover_of}
use Rattle.quilt_line_laws.proofs.Covers.{is_cover-true}
use Rattle.quilt_line_laws.proofs.SetLaws.{items-from_list}
use Rattle.quilt_line_audit.specs.declared.pair.Pair.{Pair}
use Rattle.quilt_line_audit.specs.declared.run.LineRun.{LineRun}
use Rattle.quilt_line_audit.specs.Layers.{SpellsOne, IsLayerOf, IsShort}
use Rattle.quilt_line_audit.specs.Pairs.{pairs_on, BeginsWithPairs}
use Rattle.quilt_line_audit.specs.Runs.{pair_record, segment_record, is_of_part, IsLineRun, IsLined}
use Rattle.quilt_line_audit.proofs.Keys.{filter_none, part_true, part_false, pair_alone, segment_alone, segments_by_id, map_alone}
use Rattle.quilt_line_audit.proofs.Facts.{fact_of, pairs_facts, with_lines, pair_block, cover_block, small_id, inside}
use Rattle.quilt_line_audit.proofs.Cuts.{IsCutInto, cut_into, cover_from}
use Rattle.quilt_line_audit.proofs.Ordered.{ordered_are, begins_in}
use Rattle.quilt_line_audit.proofs.Canonical.{Rises-unmap, blocks_here, pairs_here, segments_here}
use Rattle.quilt_types.proofs.Truths.{T-both}

-- ---- a map of a list whose keys rise

less : (o : Ordering) → o ≡ Less → T (is_lt o)
less o e = subst (λ (z : Ordering). T (is_lt z)) (sym e) tt

below_from : (k : ℕ) (es : List (ℕ × Seg)) → ((e : ℕ × Seg) → Contains es e → nat_cmp k e.0 ≡ Less) → T (sorted.below_all nat_cmp k es)
below_from k [] h = tt
below_from k (e ∷ es) h = T-both _ _ (less (nat_cmp k e.0) (h e (Contains-here e es))) (below_from k es (λ d c. h d (Contains-there e es d c)))

sorted_from : (es : List (ℕ × Seg)) → Rises (by_first nat_cmp) es → T (sorted.is_sorted nat_cmp es)
sorted_from [] h = tt
sorted_from (e ∷ es) h = T-both _ _ (below_from e.0 es h.0) (sorted_from es h.1)

-- ---- the records of a layer that are all
module _ (form n : ℕ) (rs : List Record) (layer t : ℕ) (run : LineRun) (le : n ≤ 12) (some : 1 ≤ layer) (h : IsLineRun n rs layer t run)
    (lined : IsLined n run) (up : Rises by_key rs) where
  abbrev list : List (ℕ × Seg)
  list = run.segs.items

  ids_rise : Rises (by_first nat_cmp) list
  ids_rise =
      Rises-unmap (by_first nat_cmp) by_key (segment_record n layer) (λ d e lt. sym (segments_by_id n layer d e) ∙ lt) list
      (subst (Rises by_key) h.segs (Rises-filter by_key (is_of_part layer 4) rs up))

  abbrev segs : SegMap
  segs = finmap.from_sorted {R = nat_cmp} list

  entries_are : finmap.entries segs ≡ list
  entries_are = finmap.entries-from_sorted nat_cmp list (sorted_from list ids_rise)

  cut : IsCutInto n list (whole n) run.pairs.items []
  cut = cut_into list n le n (whole n) run.pairs.items [] (IsBlock-whole n) refl lined

  abbrev cover : BlockSet
  cover = finset.from_list cut.blocks

  pairs_are : run.pairs.items ≡ flat_map (pairs_on list) cut.blocks
  pairs_are = cut.are ∙ append-nil (flat_map (pairs_on list) cut.blocks)

  in_cover : (b : Block) → Contains (finset.items cover) b → Contains cut.blocks b
  in_cover b c = (items-from_list block_total block_same cut.blocks b).0 c

  of_cover : (b : Block) → Contains cut.blocks b → Contains (finset.items cover) b
  of_cover b c = (items-from_list block_total block_same cut.blocks b).1 c

  valid : IsLineMap n t segs cover
  valid =
      let is = cover_from n le cut.blocks cut.runs in
      let there = λ (e : ℕ × Seg) (c : Contains (finmap.entries segs) e). h.inside e (subst (λ (l : List (ℕ × Seg)). Contains l e) entries_are c) in
      record {
        least = h.least;
        most = h.most;
        ids = all_from (λ (e : ℕ × Seg). e.0 < 2 ^ 32) (finmap.entries segs) (λ e c. (there e c).0);
        inside = all_from (λ (e : ℕ × Seg). is_in_square n e.1 ≡ true) (finmap.entries segs) (λ e c. (there e c).1);
        each = all_from (Contains (blocks n)) (finset.items cover) (λ b c. Contains-blocks n b (is.only b c));
        once = is_cover-true n cover is.covers;
      }

  facts_on : (b : Block) → map fact_of (pairs_on list b) ≡ line_facts segs b
  facts_on b = ap (λ (l : List (ℕ × Seg)). map fact_of (pairs_on l b)) (sym entries_are) ∙ pairs_facts segs b

  pair_there : (p : Pair) → Contains run.pairs.items p → Contains rs (pair_record n layer p)
  pair_there p c =
      (Contains-filter_from (is_of_part layer 3) rs (pair_record n layer p)
      (subst (λ (l : List Record). Contains l (pair_record n layer p)) (sym h.pairs) (Contains-map (pair_record n layer) run.pairs.items p c))).0

  segment_there : (e : ℕ × Seg) → Contains list e → Contains rs (segment_record n layer e)
  segment_there e c =
      (Contains-filter_from (is_of_part layer 4) rs (segment_record n layer e)
      (subst (λ (l : List Record). Contains l (segment_record n layer e)) (sym h.segs) (Contains-map (segment_record n layer) list e c))).0

  abbrev segment_fact : ℕ × Seg → Fact
  segment_fact e = IsSegment e.0 e.1

  abbrev on_segments : List Fact
  on_segments = map segment_fact (finmap.entries segs)

  abbrev on_blocks : List Fact
  on_blocks = flat_map (line_facts segs) (finset.items cover)

  each_there : (f : Fact) → Contains (facts n (Lines t segs cover)) f → (f ≡ IsOfKind 3 t) ⊎ Contains rs (record_of n 0 [] layer f)
  each_there f c =
      ⊎_elim (λ kind. inl (sym kind))
      (λ d.
      ⊎_elim
      (λ seg.
      let m = Contains-map_from segment_fact (finmap.entries segs) f seg in
      inr (subst (λ (g : Fact). Contains rs (record_of n 0 [] layer g)) m.2
      (segment_there m.0 (subst (λ (l : List (ℕ × Seg)). Contains l m.0) entries_are m.1))))
      (λ met.
      let m = Contains-flat_map_from (line_facts segs) (finset.items cover) f met in
      let p = Contains-map_from fact_of (pairs_on list m.0) f (subst (λ (l : List Fact). Contains l f) (sym (facts_on m.0)) m.2) in
      let c = subst (λ (l : List Pair). Contains l p.0) (sym pairs_are) (Contains-flat_map (pairs_on list) cut.blocks m.0 p.0 (in_cover m.0 m.1) p.1) in
      inr (subst (λ (g : Fact). Contains rs (record_of n 0 [] layer g)) p.2 (pair_there p.0 c)))
      (Contains-append_cases on_segments on_blocks f d))
      (Contains-cons_cases (IsOfKind 3 t) (on_segments ++ on_blocks) f c)

  only_those : (r : Record) → Contains rs r → r.key.layer ≡ layer → (f : Fact) × Contains (facts n (Lines t segs cover)) f × (record_of n 0 [] layer f ≡ r)
  only_those r c is =
      ⊎_elim
      (λ three.
      let m = Contains-filter (is_of_part layer 3) rs r c (part_true layer 3 r is three) in
      let p = Contains-map_from (pair_record n layer) run.pairs.items r (subst (λ (l : List Record). Contains l r) h.pairs m) in
      let b = Contains-flat_map_from (pairs_on list) cut.blocks p.0 (subst (λ (l : List Pair). Contains l p.0) pairs_are p.1) in
      let f = fact_of p.0 in
      let on = subst (λ (l : List Fact). Contains l f) (facts_on b.0) (Contains-map fact_of (pairs_on list b.0) p.0 b.2) in (
        f,
        Contains-there (IsOfKind 3 t) (on_segments ++ on_blocks) f
            (Contains-append_right on_segments on_blocks f (Contains-flat_map (line_facts segs) (finset.items cover) b.0 f (of_cover b.0 b.1) on)),
        p.2,
      ))
      (λ four.
      let m = Contains-filter (is_of_part layer 4) rs r c (part_true layer 4 r is four) in
      let e = Contains-map_from (segment_record n layer) list r (subst (λ (l : List Record). Contains l r) h.segs m) in
      let f = segment_fact e.0 in (
        f,
        Contains-there (IsOfKind 3 t) (on_segments ++ on_blocks) f
            (Contains-append_left on_segments on_blocks f
            (Contains-map segment_fact (finmap.entries segs) e.0 (subst (λ (l : List (ℕ × Seg)). Contains l e.0) (sym entries_are) e.1))),
        e.2,
      ))
      (h.only r c is)

  pub whole_lines : IsLayerOf form n rs layer (kinds.Lines t)
  whole_lines = record { layer = Lines t segs cover; is = refl; spelled = record { fits = valid; each = each_there; only = only_those } }

-- ---- those that are not all
module _ (form n : ℕ) (rs : List Record) (layer t : ℕ) (run : LineRun) (le : n ≤ 12) (some : 1 ≤ layer) (h : IsLineRun n rs layer t run) where
  same_part : (part : ℕ) (rest : List Record) → ((r : Record) → Contains rest r → r.key.layer ≡ layer → ⊥)
      → filter (is_of_part layer part) (rs ++ rest) ≡ filter (is_of_part layer part) rs
  same_part part rest past =
      filter-append (is_of_part layer part) rs rest
      ∙ ap (λ (l : List Record). filter (is_of_part layer part) rs ++ l)
      (filter_none (is_of_part layer part) rest (λ r c. part_false layer part r (λ is _. past r c is)))
      ∙ append-nil (filter (is_of_part layer part) rs)

  module _ (segs : SegMap) (cover : BlockSet) (rest : List Record) (past : (r : Record) → Contains rest r → r.key.layer ≡ layer → ⊥)
      (up : Rises by_key (rs ++ rest))
      (s : SpellsOne form n (rs ++ rest) layer (Lines t segs cover)) where
    abbrev es : List (ℕ × Seg)
    es = finmap.entries segs

    abbrev bs : List Block
    bs = blocks_here form n layer t segs cover (rs ++ rest) le some s up

    segments_same : run.segs.items ≡ es
    segments_same =
        map_alone (segment_record n layer) (λ (e : ℕ × Seg). (e.0 < 2 ^ 32) × (is_in_square n e.1 ≡ true))
        (λ d e hd he same. segment_alone n layer le d e hd he same)
        run.segs.items es h.inside
        (λ e c. (small_id form n layer t segs cover (rs ++ rest) some s e c, inside form n layer t segs cover (rs ++ rest) some s e c))
        (sym h.segs ∙ sym (same_part 4 rest past) ∙ segments_here form n layer t segs cover (rs ++ rest) le some s up)

    pairs_same : run.pairs.items ≡ flat_map (pairs_on es) bs
    pairs_same =
        let members = ordered_are n cover (cover_of n t segs cover s.fits) in
        map_alone (pair_record n layer) (λ (p : Pair). IsBlock n p.block) (λ p q hp hq same. pair_alone n layer le p q hp hq same)
        run.pairs.items (flat_map (pairs_on es) bs) h.blocks
        (λ p c.
        let b = Contains-flat_map_from (pairs_on es) bs p c in
        subst (IsBlock n) (sym (pair_block es b.0 p b.2)) (cover_block form n layer t segs cover (rs ++ rest) some s b.0 ((members b.0).0 b.1)))
        (sym h.pairs ∙ sym (same_part 3 rest past) ∙ pairs_here form n layer t segs cover (rs ++ rest) le some s up)

    lined_here : IsLined n run
    lined_here =
        subst (λ (l : List (ℕ × Seg)). BeginsWithPairs l n (whole n) run.pairs.items []) (sym segments_same)
        (subst (λ (l : List Pair). BeginsWithPairs es n (whole n) l []) (append-nil (flat_map (pairs_on es) bs) ∙ sym pairs_same) (begins_in es cover n (whole n) []))

  pub short_lines : (IsLined n run → ⊥) → IsShort form n rs layer (kinds.Lines t)
  short_lines none rest l kind past up s = with_lines form n (rs ++ rest) layer t ⊥ (λ segs cover u. none (lined_here segs cover rest past up u)) l kind s
