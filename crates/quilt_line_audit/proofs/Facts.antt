-- The records of a line layer: each is that of a pair of one of its blocks or of one of its segments.
use Rattle.std.proofs.Common.{◌≡◌, ◌⊎◌, ℕ, ◌<◌, ◌≤◌, ◌^◌, true, List, [], ◌∷◌, ◌++◌, map, filter, flat_map, Option, Some, None, refl, sym, ◌∙◌, ap, subst, inl}
use Rattle.std.proofs.Common.{inr, ⊎_elim, arith, Contains}
use Rattle.std.specs.FinMap as finmap
use Rattle.std.proofs.lemmas.List.Elements.{All-contains, Contains-append_left, Contains-append_right, Contains-append_cases}
use Rattle.quilt_types.specs.Sets as finset
use Rattle.quilt_types.specs.declared.plane.Block.{Block}
use Rattle.quilt_types.specs.declared.plane.Seg.{Seg}
use Rattle.quilt_types.specs.declared.plane.Kind.TheVariants as kinds
use Rattle.quilt_types.specs.Plane.{blocks, IsBlock}
use Rattle.quilt_types.specs.Layers.{Layer, Region, Points, Lines, SegMap, BlockSet, is_in_square}
use Rattle.quilt_types.specs.Segments.{square, meets}
use Rattle.quilt_types.specs.Facts.{Fact, IsOfKind, IsSegment, IsMetBy, IsMetByNone, or_none, line_facts}
use Rattle.quilt_loc.proofs.Members.{Contains-nil, Contains-here, Contains-there, Contains-cons_cases, Contains-map, Contains-map_from, Contains-filter_from}
use Rattle.quilt_loc.proofs.Members.{Contains-flat_map, Contains-flat_map_from}
use Rattle.quilt_loc.proofs.Blocks.{IsBlock-from}
use Rattle.quilt_record.specs.declared.record.Record.{Record}
use Rattle.quilt_record.specs.Records.{record_of}
use Rattle.quilt_record.specs.Canonical.{FactFits, pair_fact}
use Rattle.quilt_spell.specs.Catalogued.{kind_of}
use Rattle.quilt_line_audit.specs.declared.pair.Pair.{Pair}
use Rattle.quilt_line_audit.specs.Layers.{SpellsOne}
use Rattle.quilt_line_audit.specs.Pairs.{none_pair, pair_on, block_pairs, pairs_on}
use Rattle.quilt_line_audit.specs.Runs.{pair_record, segment_record}

-- ---- a layer of lines
same_threshold : (a b : ℕ) → kinds.Lines a ≡ kinds.Lines b → a ≡ b
same_threshold a b e = cc

pub with_lines : (form n : ℕ) (rs : List Record) (layer t : ℕ) (P : Type 0)
    → ((segs : SegMap) (cover : BlockSet) → SpellsOne form n rs layer (Lines t segs cover) → P)
    → (l : Layer) → kind_of l ≡ kinds.Lines t → SpellsOne form n rs layer l → P
with_lines form n rs layer t P f (Region grid) e s = absurd (let z : kinds.Region ≡ kinds.Lines t = e in cc)
with_lines form n rs layer t P f (Points capacity points) e s = absurd (let z : kinds.Points capacity ≡ kinds.Lines t = e in cc)
with_lines form n rs layer t P f (Lines threshold segs cover) e s =
    f segs cover (subst (λ (u : ℕ). SpellsOne form n rs layer (Lines u segs cover)) (same_threshold threshold t e) s)

-- ---- the pairs of a block and its facts
abbrev pub fact_of : Pair → Fact
fact_of p = pair_fact p.block p.id

map_twice : {X Y Z : Type 0} (f : Y → Z) (g : X → Y) (h : X → Z) → ((x : X) → f (g x) ≡ h x) → (xs : List X) → map f (map g xs) ≡ map h xs
map_twice f g h e [] = refl
map_twice f g h e (x ∷ xs) = ap (λ z. z ∷ map f (map g xs)) (e x) ∙ ap (λ l. h x ∷ l) (map_twice f g h e xs)

facts_of_pairs : (b : Block) (es : List (ℕ × Seg)) → map fact_of (block_pairs b es) ≡ or_none (IsMetByNone b) (map (λ e. IsMetBy b e.0) es)
facts_of_pairs b [] = refl
facts_of_pairs b (e ∷ es) = ap (λ l. IsMetBy b e.0 ∷ l) (map_twice fact_of (pair_on b) (λ (d : ℕ × Seg). IsMetBy b d.0) (λ d. refl) es)

pub pairs_facts : (segs : SegMap) (b : Block) → map fact_of (pairs_on (finmap.entries segs) b) ≡ line_facts segs b
pairs_facts segs b = facts_of_pairs b (filter (λ (e : ℕ × Seg). meets e.1 (square b)) (finmap.entries segs))

on_block : (b : Block) (es : List (ℕ × Seg)) (p : Pair) → Contains (block_pairs b es) p → p.block ≡ b
on_block b [] p c = ⊎_elim (λ e. ap (λ (q : Pair). q.block) (sym e)) (λ d. absurd (Contains-nil p d)) (Contains-cons_cases (none_pair b) [] p c)
on_block b (e ∷ es) p c = let m = Contains-map_from (pair_on b) (e ∷ es) p c in ap (λ (q : Pair). q.block) (sym m.2)

pub pair_block : (segs : List (ℕ × Seg)) (b : Block) (p : Pair) → Contains (pairs_on segs b) p → p.block ≡ b
pair_block segs b p c = on_block b (filter (λ (e : ℕ × Seg). meets e.1 (square b)) segs) p c

-- ---- the records of a layer
module _ (form n layer t : ℕ) (segs : SegMap) (cover : BlockSet) (rs : List Record) (some : 1 ≤ layer)
    (s : SpellsOne form n rs layer (Lines t segs cover)) where
  abbrev es : List (ℕ × Seg)
  es = finmap.entries segs

  abbrev segment_fact : ℕ × Seg → Fact
  segment_fact e = IsSegment e.0 e.1

  -- a record of the layer is one of a pair or one of a segment
  abbrev pub IsPairOf : Record → Type 0
  IsPairOf r = (b : Block) × (p : Pair) × Contains (finset.items cover) b × Contains (pairs_on es b) p × (pair_record n layer p ≡ r)

  abbrev pub IsSegmentOf : Record → Type 0
  IsSegmentOf r = (e : ℕ × Seg) × Contains es e × (segment_record n layer e ≡ r)

  pub record_says : (r : Record) → Contains rs r → r.key.layer ≡ layer → IsSegmentOf r ⊎ IsPairOf r
  record_says r c is =
      let w = s.only r c is in
      let f = w.0 in
      ⊎_elim
      (λ kind. let z : 0 ≡ layer = ap (λ (g : Fact). (record_of n 0 [] layer g).key.layer) kind ∙ ap (λ (q : Record). q.key.layer) w.2 ∙ is in
      absurd (omega arith))
      (λ d.
      ⊎_elim
      (λ seg. let m = Contains-map_from segment_fact es f seg in inl (m.0, m.1, ap (λ (g : Fact). record_of n 0 [] layer g) m.2 ∙ w.2))
      (λ met.
      let m = Contains-flat_map_from (line_facts segs) (finset.items cover) f met in
      let p = Contains-map_from fact_of (pairs_on es m.0) f (subst (λ (l : List Fact). Contains l f) (sym (pairs_facts segs m.0)) m.2) in
      inr (m.0, p.0, m.1, p.1, ap (λ (g : Fact). record_of n 0 [] layer g) p.2 ∙ w.2))
      (Contains-append_cases (map segment_fact es) (flat_map (line_facts segs) (finset.items cover)) f d))
      (Contains-cons_cases (IsOfKind 3 t) (map segment_fact es ++ flat_map (line_facts segs) (finset.items cover)) f w.1)

  there : (f : Fact) → (f ≡ IsOfKind 3 t → ⊥) → Contains (map segment_fact es ++ flat_map (line_facts segs) (finset.items cover)) f
      → Contains rs (record_of n 0 [] layer f)
  there f other c =
      ⊎_elim (λ e. absurd (other e)) (λ d. d)
      (s.each f (Contains-there (IsOfKind 3 t) (map segment_fact es ++ flat_map (line_facts segs) (finset.items cover)) f c))

  pub segment_there : (e : ℕ × Seg) → Contains es e → Contains rs (segment_record n layer e)
  segment_there e c =
      there (segment_fact e) (λ same. cc)
      (Contains-append_left (map segment_fact es) (flat_map (line_facts segs) (finset.items cover)) (segment_fact e) (Contains-map segment_fact es e c))

  no_kind : (b : Block) (id : Option ℕ) → pair_fact b id ≡ IsOfKind 3 t → ⊥
  no_kind b None e = cc
  no_kind b (Some id) e = cc

  pub pair_there : (b : Block) (p : Pair) → Contains (finset.items cover) b → Contains (pairs_on es b) p → Contains rs (pair_record n layer p)
  pair_there b p m c =
      there (fact_of p) (no_kind p.block p.id)
      (Contains-append_right (map segment_fact es) (flat_map (line_facts segs) (finset.items cover)) (fact_of p)
      (Contains-flat_map (line_facts segs) (finset.items cover) b (fact_of p) m
      (subst (λ (l : List Fact). Contains l (fact_of p)) (pairs_facts segs b) (Contains-map fact_of (pairs_on es b) p c))))

  -- ---- what the layer's blocks and segments are
  pub cover_block : (b : Block) → Contains (finset.items cover) b → IsBlock n b
  cover_block b m = IsBlock-from n b (All-contains (Contains (blocks n)) (finset.items cover) b s.fits.each m)

  pub small_id : (e : ℕ × Seg) → Contains es e → e.0 < 2 ^ 32
  small_id e c = All-contains (λ (d : ℕ × Seg). d.0 < 2 ^ 32) es e s.fits.ids c

  pub inside : (e : ℕ × Seg) → Contains es e → is_in_square n e.1 ≡ true
  inside e c = All-contains (λ (d : ℕ × Seg). is_in_square n d.1 ≡ true) es e s.fits.inside c

  fits_of : (b : Block) (ms : List (ℕ × Seg)) (p : Pair) → IsBlock n b → ((e : ℕ × Seg) → Contains ms e → e.0 < 2 ^ 32) → Contains (block_pairs b ms) p
      → FactFits n (fact_of p)
  fits_of b [] p hb small c =
      ⊎_elim (λ e. subst (λ (q : Pair). FactFits n (fact_of q)) e hb) (λ d. absurd (Contains-nil p d)) (Contains-cons_cases (none_pair b) [] p c)
  fits_of b (m ∷ ms) p hb small c =
      let w = Contains-map_from (pair_on b) (m ∷ ms) p c in
      subst (λ (q : Pair). FactFits n (fact_of q)) w.2 (hb, small w.0 w.1)

  pub pair_fits : (b : Block) (p : Pair) → Contains (finset.items cover) b → Contains (pairs_on es b) p → FactFits n (fact_of p)
  pair_fits b p m c =
      fits_of b (filter (λ (e : ℕ × Seg). meets e.1 (square b)) es) p (cover_block b m)
      (λ e d. small_id e (Contains-filter_from (λ (x : ℕ × Seg). meets x.1 (square b)) es e d).0) c

-- a block has a pair
pub first_pair : (b : Block) (segs : List (ℕ × Seg)) → (p : Pair) × Contains (pairs_on segs b) p
first_pair b segs = of_those (filter (λ (e : ℕ × Seg). meets e.1 (square b)) segs)
  where
    of_those : (ms : List (ℕ × Seg)) → (p : Pair) × Contains (block_pairs b ms) p
    of_those [] = (none_pair b, Contains-here (none_pair b) [])
    of_those (m ∷ ms) = (pair_on b m, Contains-here (pair_on b m) (map (pair_on b) ms))
