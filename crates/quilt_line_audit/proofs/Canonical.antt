-- The records of a line layer in the order of their keys: its pairs block by block, and its segments by id.
use Rattle.std.proofs.Common.{◌≡◌, ℕ, ◌≤◌, List, [], ◌∷◌, map, filter, flat_map, ◌∙◌, ap, subst, ⊎_elim, arith, Contains, Ordering, Less, nat_cmp}
use Rattle.std.specs.FinMap as finmap
use Rattle.quilt_types.specs.declared.plane.Block.{Block}
use Rattle.quilt_types.specs.declared.plane.Seg.{Seg}
use Rattle.quilt_types.specs.Plane.{whole}
use Rattle.quilt_types.specs.Layers.{Lines, SegMap, BlockSet}
use Rattle.quilt_types.specs.Segments.{square, meets}
use Rattle.quilt_loc.specs.Codes.{Rises, code_from, code_cmp}
use Rattle.quilt_loc.proofs.Members.{Contains-nil, Contains-map, Contains-map_from, Contains-filter, Contains-filter_from, Contains-flat_map}
use Rattle.quilt_loc.proofs.Members.{Contains-flat_map_from}
use Rattle.quilt_loc.proofs.Rising.{same_rising, Rises-filter, Rises-map, Rises-flat_map_at, nat_less_from}
use Rattle.quilt_record.specs.declared.record.Record.{Record}
use Rattle.quilt_blocks.specs.Cutting.{leaf_cmp}
use Rattle.quilt_blocks.proofs.Chains.{Follows-rises}
use Rattle.quilt_spell.specs.Written.{by_key}
use Rattle.quilt_spell.proofs.Maps.{by_first, Rises-entries}
use Rattle.quilt_spell.proofs.Written.{by_key_total}
use Rattle.quilt_line_laws.specs.Merging.{blocks_in}
use Rattle.quilt_line_laws.proofs.Adding.{cover_of}
use Rattle.quilt_line_audit.specs.declared.pair.Pair.{Pair}
use Rattle.quilt_line_audit.specs.Layers.{SpellsOne}
use Rattle.quilt_line_audit.specs.Pairs.{pair_on, block_pairs, pairs_on}
use Rattle.quilt_line_audit.specs.Runs.{pair_record, segment_record, is_of_part}
use Rattle.quilt_line_audit.proofs.Keys.{part_true, part_says, pair_key, segment_key, pairs_by_code, pairs_by_id, segments_by_id}
use Rattle.quilt_line_audit.proofs.Facts.{record_says, segment_there, pair_there, pair_block}
use Rattle.quilt_line_audit.proofs.Cuts.{plain, from_zero}
use Rattle.quilt_line_audit.proofs.Ordered.{ordered_are, ordered_in}

pub Rises-unmap : {X Y : Type 0} (R : X → X → Ordering) (S : Y → Y → Ordering) (f : X → Y) → ((a b : X) → S (f a) (f b) ≡ Less → R a b ≡ Less)
    → (xs : List X) → Rises S (map f xs) → Rises R xs
Rises-unmap R S f keeps [] h = tt
Rises-unmap R S f keeps (x ∷ xs) h = (λ y c. keeps x y (h.0 (f y) (Contains-map f xs y c)), Rises-unmap R S f keeps xs h.1)

module _ (n layer : ℕ) where
  abbrev by_pair : Pair → Pair → Ordering
  by_pair p q = by_key (pair_record n layer p) (pair_record n layer q)

  block_rises : (b : Block) (ms : List (ℕ × Seg)) → Rises (by_first nat_cmp) ms → Rises by_pair (block_pairs b ms)
  block_rises b [] h = (λ y c. absurd (Contains-nil y c), tt)
  block_rises b (m ∷ ms) h = Rises-map (by_first nat_cmp) by_pair (pair_on b) (m ∷ ms) (λ d e _ _ lt. pairs_by_id n layer b d.0 e.0 ∙ lt) h

  pairs_rise : (segs : SegMap) (bs : List Block) → Rises code_cmp bs → Rises by_key (map (pair_record n layer) (flat_map (pairs_on (finmap.entries segs)) bs))
  pairs_rise segs bs h =
      let es = finmap.entries segs in
      Rises-map by_pair by_key (pair_record n layer) (flat_map (pairs_on es) bs) (λ p q _ _ e. e)
      (Rises-flat_map_at code_cmp by_pair (pairs_on es) bs h
      (λ b c. block_rises b (filter (λ (e : ℕ × Seg). meets e.1 (square b)) es)
      (Rises-filter (by_first nat_cmp) (λ (e : ℕ × Seg). meets e.1 (square b)) es (Rises-entries nat_cmp segs)))
      (λ a b ca cb lt u v cu cv.
      let ua = ap (λ (z : Block). code_from z) (pair_block es a u cu) in
      let vb = ap (λ (z : Block). code_from z) (pair_block es b v cv) in
      let less = nat_less_from (code_from a) (code_from b) lt in
      pairs_by_code n layer u v (omega arith)))

  segments_rise : (segs : SegMap) → Rises by_key (map (segment_record n layer) (finmap.entries segs))
  segments_rise segs =
      Rises-map (by_first nat_cmp) by_key (segment_record n layer) (finmap.entries segs) (λ d e _ _ lt. segments_by_id n layer d e ∙ lt)
      (Rises-entries nat_cmp segs)

module _ (form n layer t : ℕ) (segs : SegMap) (cover : BlockSet) (rs : List Record) (le : n ≤ 12) (some : 1 ≤ layer)
    (s : SpellsOne form n rs layer (Lines t segs cover)) (up : Rises by_key rs) where
  abbrev es : List (ℕ × Seg)
  es = finmap.entries segs

  abbrev pub blocks_here : List Block
  blocks_here = blocks_in cover n (whole n)

  codes_rise : Rises code_cmp blocks_here
  codes_rise = Rises-unmap code_cmp leaf_cmp plain (λ a b e. e) blocks_here
      (Follows-rises n 0 (map plain blocks_here) (from_zero n le blocks_here (ordered_in n le cover)).follows)

  pub pairs_here : filter (is_of_part layer 3) rs ≡ map (pair_record n layer) (flat_map (pairs_on es) blocks_here)
  pairs_here =
      let members = ordered_are n cover (cover_of n t segs cover s.fits) in
      same_rising by_key by_key_total (filter (is_of_part layer 3) rs) (map (pair_record n layer) (flat_map (pairs_on es) blocks_here))
      (Rises-filter by_key (is_of_part layer 3) rs up) (pairs_rise n layer segs blocks_here codes_rise)
      (λ r. (
        λ c.
            let k = Contains-filter_from (is_of_part layer 3) rs r c in
            let w = part_says layer 3 r k.1 in
            ⊎_elim
            (λ seg. let four = (segment_key n layer seg.0).part_is in let same = ap (λ (z : Record). z.key.part) seg.2 in let three = w.1 in
            absurd (omega arith))
            (λ pair. subst (Contains (map (pair_record n layer) (flat_map (pairs_on es) blocks_here))) pair.4
            (Contains-map (pair_record n layer) (flat_map (pairs_on es) blocks_here) pair.1
            (Contains-flat_map (pairs_on es) blocks_here pair.0 pair.1 ((members pair.0).1 pair.2) pair.3)))
            (record_says form n layer t segs cover rs some s r k.0 w.0),
        λ c.
            let p = Contains-map_from (pair_record n layer) (flat_map (pairs_on es) blocks_here) r c in
            let b = Contains-flat_map_from (pairs_on es) blocks_here p.0 p.1 in
            let k = pair_key n layer p.0 in
            subst (Contains (filter (is_of_part layer 3) rs)) p.2
            (Contains-filter (is_of_part layer 3) rs (pair_record n layer p.0)
            (pair_there form n layer t segs cover rs some s b.0 p.0 ((members b.0).0 b.1) b.2)
            (part_true layer 3 (pair_record n layer p.0) k.layer_is k.part_is)),
      ))

  pub segments_here : filter (is_of_part layer 4) rs ≡ map (segment_record n layer) es
  segments_here =
      same_rising by_key by_key_total (filter (is_of_part layer 4) rs) (map (segment_record n layer) es)
      (Rises-filter by_key (is_of_part layer 4) rs up) (segments_rise n layer segs)
      (λ r. (
        λ c.
            let k = Contains-filter_from (is_of_part layer 4) rs r c in
            let w = part_says layer 4 r k.1 in
            ⊎_elim (λ seg. subst (Contains (map (segment_record n layer) es)) seg.2 (Contains-map (segment_record n layer) es seg.0 seg.1))
            (λ pair. let three = (pair_key n layer pair.1).part_is in let same = ap (λ (z : Record). z.key.part) pair.4 in let four = w.1 in
            absurd (omega arith))
            (record_says form n layer t segs cover rs some s r k.0 w.0),
        λ c.
            let e = Contains-map_from (segment_record n layer) es r c in
            let k = segment_key n layer e.0 in
            subst (Contains (filter (is_of_part layer 4) rs)) e.2
            (Contains-filter (is_of_part layer 4) rs (segment_record n layer e.0) (segment_there form n layer t segs cover rs some s e.0 e.1)
            (part_true layer 4 (segment_record n layer e.0) k.layer_is k.part_is)),
      ))
