-- Counts of segments and of facts at a removal.
use Rattle.std.proofs.Common.{◌≡◌, ◌↔◌, ℕ, ◌≤◌, Bool, true, false, cond, not, ◌||◌, List, [], ◌∷◌, map, filter, flat_map, length, length-append, eqb}
use Rattle.std.proofs.Common.{refl, sym, ap, ◌∙◌, subst, arith, Contains}
use Rattle.std.specs.FinMap as finmap
use Rattle.std.proofs.lemmas.Bool.{both_ways}
use Rattle.std.proofs.lemmas.List.{length-map}
use Rattle.std.proofs.lemmas.List.Sums.{length-filter}
use Rattle.std.proofs.lemmas.List.Concat.{flat_map-append}
use Rattle.quilt_types.specs.Sets as finset
use Rattle.quilt_types.specs.declared.plane.Block.{Block}
use Rattle.quilt_types.specs.declared.plane.Seg.{Seg}
use Rattle.quilt_types.specs.Plane.{side, quarters_of, whole, IsBlock}
use Rattle.quilt_types.specs.Layers.{SegMap, BlockSet}
use Rattle.quilt_types.specs.Segments.{square, meets}
use Rattle.quilt_types.specs.Quadtrees.{segs_meeting}
use Rattle.quilt_types.specs.Facts.{Fact, IsMetBy, IsMetByNone, or_none, line_facts}
use Rattle.quilt_spell.specs.Apart.{Apart}
use Rattle.quilt_loc.proofs.Members.{Contains-nil, Contains-here, Contains-there, Contains-map, Contains-map_from, Contains-filter, Contains-filter_from}
use Rattle.quilt_loc.proofs.Members.{Contains-flat_map}
use Rattle.quilt_spell.proofs.Lists.{Apart-filter, Apart-map, Apart-le, same_length}
use Rattle.quilt_loc.proofs.Quartered.{quarters_are, IsBlock-whole}
use Rattle.quilt_line_laws.proofs.Merges.{IsBlockCover}
use Rattle.quilt_line_laws.specs.Lines.{IsMet, none_on}
use Rattle.quilt_line_laws.specs.Merging.{is_one, becomes_one, blocks_in, coming_in, going_in, staying_in}
use Rattle.quilt_line_laws.specs.Counting.{gone_of_quarter, SegmentCountLaw, ThroughLaw, MergedLaw, FewerLaw}
use Rattle.quilt_line_laws.proofs.Meeting.{meets_within, meets_quarter}
use Rattle.quilt_line_laws.proofs.LineFacts.{entry, got, meeting, met_by}
use Rattle.quilt_line_laws.proofs.Adding.{cover_of}
use Rattle.quilt_line_laws.proofs.Removing.{met_before}
use Rattle.quilt_line_laws.proofs.OneSide.{IsBig, wide, smaller}
use Rattle.quilt_line_laws.proofs.Levels.{first_quarter, is_first, becomes_says, one_inside}
use Rattle.quilt_line_laws.proofs.Descent.{blocks_in_law}
use Rattle.quilt_line_laws.proofs.NoneTwice.{entries_apart, same_entry}
use Rattle.quilt_types.proofs.Lists.{flat_map_same}

-- ---- the ids of a block
first : ℕ × Seg → ℕ
first e = e.0

pub ids_of : SegMap → Block → List ℕ
unfolding first
ids_of segs b = map first (filter (meeting b) (finmap.entries segs))

module _ (segs : SegMap) (b : Block) where
  ids_apart : Apart (ids_of segs b)
  unfolding first ids_of
  ids_apart =
      Apart-map first (filter (meeting b) (finmap.entries segs))
      (λ d e cd ce same. same_entry segs d e (Contains-filter_from (meeting b) (finmap.entries segs) d cd).0
      (Contains-filter_from (meeting b) (finmap.entries segs) e ce).0 same)
      (Apart-filter (meeting b) (finmap.entries segs) (entries_apart segs))

  pub ids_are : (id : ℕ) → Contains (ids_of segs b) id ↔ IsMet segs b id
  unfolding first ids_of
  ids_are id = (
    λ c.
        let e = Contains-map_from first (filter (meeting b) (finmap.entries segs)) id c in
        let k = Contains-filter_from (meeting b) (finmap.entries segs) e.0 e.1 in
        (e.0.1, ap (finmap.get segs) (sym e.2) ∙ got segs e.0 k.0, k.1),
    λ m. Contains-map first (filter (meeting b) (finmap.entries segs)) (id, m.0)
        (Contains-filter (meeting b) (finmap.entries segs) (id, m.0) (entry segs id m.0 m.1) m.2),
  )

  ids_number : length (ids_of segs b) ≡ segs_meeting segs b
  unfolding first ids_of
  ids_number = length-map (filter (meeting b) (finmap.entries segs)) first ∙ length-filter (meeting b) (finmap.entries segs)

pub count_law : SegmentCountLaw
count_law segs b ids apart are =
    same_length ids (ids_of segs b) apart (ids_apart segs b)
    (λ id. let w = ids_are segs b id in let v = are id in (λ c. w.1 (v.0 c), λ c. v.1 (w.0 c))) ∙ ids_number segs b

-- ---- segments through blocks
module _ (n t : ℕ) (segs : SegMap) (cover : BlockSet) (s : Seg) (h : IsBlockCover n cover) (others : SegMap) (id : ℕ) where
  -- through a block that is none of the set and has four quarters that are one
  through_quarters : (k : ℕ) (b : Block) → IsBlock n b → b.side ≡ side (ℕ.suc k)
      → ((r : Block) → Contains (quarters_of b) r → IsBlock n r → r.side ≡ side k → IsMet others r id
      → (c : Block) × Contains (blocks_in cover k r) c × IsMet others c id)
      → IsMet others b id → (c : Block) × Contains (flat_map (blocks_in cover k) (quarters_of b)) c × IsMet others c id
  through_quarters k b hb e below m =
      let big : IsBig t segs s n k b = record { block = hb; size = e } in
      let lt = wide t segs s n k b big in
      let q = meets_quarter n m.0 b hb lt m.2 in
      let r = below q.0 q.1 (quarters_are n b q.0 hb lt q.1).block (smaller t segs s n k b q.0 big q.1) (m.0, m.1, q.2) in
      (r.0, Contains-flat_map (blocks_in cover k) (quarters_of b) q.0 r.0 q.1 r.1, r.2)

  through_by : (k : ℕ) (b : Block) → IsBlock n b → b.side ≡ side (ℕ.suc k) → is_one t segs cover s (ℕ.suc k) b ≡ true
      → ((r : Block) → IsBlock n r → r.side ≡ side k → is_one t segs cover s k r ≡ true → IsMet others r id
      → (c : Block) × Contains (blocks_in cover k r) c × IsMet others c id)
      → (u : Bool) → finset.contains cover b ≡ u → IsMet others b id
      → (c : Block) × Contains (cond {A = List Block} u (b ∷ []) (flat_map (blocks_in cover k) (quarters_of b))) c × IsMet others c id
  through_by k b hb e o below true eu m = (b, Contains-here b [], m)
  through_by k b hb e o below false eu m =
      let is = becomes_says n t segs cover s k b (subst (λ (z : Bool). (z || becomes_one t segs cover s k b) ≡ true) eu o) in
      through_quarters k b hb e (λ r c hr er x. below r hr er (is.all r c) x) m

  pub through : (k : ℕ) (b : Block) → IsBlock n b → b.side ≡ side k → is_one t segs cover s k b ≡ true → IsMet others b id
      → (c : Block) × Contains (blocks_in cover k b) c × IsMet others c id
  through ℕ.zero b hb e o m = (b, Contains-here b [], m)
  through (ℕ.suc k) b hb e o m = through_by k b hb e o (λ r hr er u x. through k r hr er u x) (finset.contains cover b) refl m

  pub through_back : (k : ℕ) (b : Block) → IsBlock n b → b.side ≡ side k → is_one t segs cover s k b ≡ true → (c : Block)
      → Contains (blocks_in cover k b) c → IsMet others c id → IsMet others b id
  through_back k b hb e o c m x =
      let w = (blocks_in_law n t segs cover s h k b c hb e o).0 m in (x.0, x.1, meets_within x.0 c b w.0 x.2)

pub through_law : ThroughLaw
through_law n t known segs cover s k b others id h hb e o =
    let c = cover_of n t known cover h in (
      λ m. through n t segs cover s c others id k b hb e o m,
      λ w. through_back n t segs cover s c others id k b hb e o w.0 w.1 w.2,
    )

-- ---- what goes where four quarters merge

going_merged : (t : ℕ) (segs : SegMap) (cover : BlockSet) (s : Seg) (k : ℕ) (q : Block) (u m v : Bool) → u ≡ false → m ≡ true → v ≡ true → (xs ys : List Block)
    → cond {A = List Block} (u || not m) [] (cond {A = List Block} v xs ys) ≡ xs
going_merged t segs cover s k q true m v a b c xs ys = absurd (both_ways true a refl)
going_merged t segs cover s k q false true true a b c xs ys = refl
going_merged t segs cover s k q false false v a b c xs ys = absurd (both_ways false refl b)
going_merged t segs cover s k q false true false a b c xs ys = absurd (both_ways false refl c)

pub quarter_gone : (n t : ℕ) (segs : SegMap) (cover : BlockSet) (s : Seg) (k : ℕ) (q : Block) → is_one t segs cover s k q ≡ true
    → blocks_in cover k q ≡ gone_of_quarter t segs cover s k q
quarter_gone n t segs cover s ℕ.zero q o = sym (ap (λ (u : Bool). cond {A = List Block} u (q ∷ []) []) o)
quarter_gone n t segs cover s (ℕ.suc k) q o = by_case (finset.contains cover q) refl
  where
    by_case : (u : Bool) → finset.contains cover q ≡ u
        → cond {A = List Block} u (q ∷ []) (flat_map (blocks_in cover k) (quarters_of q))
        ≡ cond {A = List Block} u (q ∷ []) (going_in t segs cover s (ℕ.suc k) q)
    by_case true e = refl
    by_case false e =
        let one : becomes_one t segs cover s k q ≡ true = subst (λ (z : Bool). (z || becomes_one t segs cover s k q) ≡ true) e o in
        sym (going_merged t segs cover s k q (finset.contains cover q) (meets s (square q)) (becomes_one t segs cover s k q) e
        (becomes_says n t segs cover s k q one).met one
        (flat_map (blocks_in cover k) (quarters_of q)) (flat_map (going_in t segs cover s k) (quarters_of q)))

pub merged_law : MergedLaw
merged_law t segs cover s k b e =
    flat_map_same (blocks_in cover k) (gone_of_quarter t segs cover s k) (quarters_of b)
    (λ q c. quarter_gone 0 t segs cover s k q ((becomes_says 0 t segs cover s k b e).all q c))

-- ---- how many facts there are
at_most : (none : Fact) (fs : List Fact) (k : ℕ) → length fs ≤ k → 1 ≤ k → length (or_none none fs) ≤ k
at_most none [] k h one = one
at_most none (f ∷ fs) k h one = h

at_least : (none : Fact) (fs : List Fact) → length fs ≤ length (or_none none fs)
at_least none [] = omega arith
at_least none (f ∷ fs) = omega arith

some_fact : (none : Fact) (fs : List Fact) → 1 ≤ length (or_none none fs)
some_fact none [] = omega arith
some_fact none (f ∷ fs) = omega arith

module _ (segs : SegMap) where
  pairs : (b : Block) → length (map (met_by b) (filter (meeting b) (finmap.entries segs))) ≡ length (ids_of segs b)
  unfolding first ids_of
  pairs b = length-map (filter (meeting b) (finmap.entries segs)) (met_by b) ∙ sym (length-map (filter (meeting b) (finmap.entries segs)) first)

  ids_fewer : (cs : List Block) → length (flat_map (ids_of segs) cs) ≤ length (flat_map (line_facts segs) cs)
  ids_fewer [] = omega arith
  ids_fewer (c ∷ cs) =
      let a = length-append (ids_of segs c) (flat_map (ids_of segs) cs) in
      let b = length-append (line_facts segs c) (flat_map (line_facts segs) cs) in
      let r = ids_fewer cs in
      let p = pairs c in
      let l = at_least (IsMetByNone c) (map (met_by c) (filter (meeting c) (finmap.entries segs))) in
      omega arith

  some_facts : (cs : List Block) (c : Block) → Contains cs c → 1 ≤ length (flat_map (line_facts segs) cs)
  some_facts [] c m = absurd (Contains-nil c m)
  some_facts (b ∷ cs) c m =
      let a = length-append (line_facts segs b) (flat_map (line_facts segs) cs) in
      let l = some_fact (IsMetByNone b) (map (met_by b) (filter (meeting b) (finmap.entries segs))) in
      omega arith

-- the facts on a block are no more than those on blocks of which each segment that meets it meets one
pub block_fewer : (now segs : SegMap) (b : Block) (cs : List Block) (c : Block) → Contains cs c
    → ((id : ℕ) → IsMet now b id → (d : Block) × Contains cs d × IsMet segs d id)
    → length (line_facts now b) ≤ length (flat_map (line_facts segs) cs)
block_fewer now segs b cs c m each =
    let few = Apart-le (ids_of now b) (flat_map (ids_of segs) cs) (ids_apart now b)
    (λ id x. let w = each id ((ids_are now b id).0 x) in Contains-flat_map (ids_of segs) cs w.0 id w.1 ((ids_are segs w.0 id).1 w.2)) in
    let p = pairs now b in
    let l = ids_fewer segs cs in
    at_most (IsMetByNone b) (map (met_by b) (filter (meeting b) (finmap.entries now))) (length (flat_map (line_facts segs) cs)) (omega arith)
    (some_facts segs cs c m)

-- by quarters
sum_fewer : (now segs : SegMap) (f g : Block → List Block) (qs : List Block)
    → ((q : Block) → Contains qs q → length (flat_map (line_facts now) (f q)) ≤ length (flat_map (line_facts segs) (g q)))
    → length (flat_map (line_facts now) (flat_map f qs)) ≤ length (flat_map (line_facts segs) (flat_map g qs))
sum_fewer now segs f g [] h = omega arith
sum_fewer now segs f g (q ∷ qs) h =
    let here = h q (Contains-here q qs) in
    let rest = sum_fewer now segs f g qs (λ z c. h z (Contains-there q qs z c)) in
    let a = ap (λ (l : List Fact). length l) (flat_map-append (line_facts now) (f q) (flat_map f qs)) in
    let b = ap (λ (l : List Fact). length l) (flat_map-append (line_facts segs) (g q) (flat_map g qs)) in
    let c = length-append (flat_map (line_facts now) (f q)) (flat_map (line_facts now) (flat_map f qs)) in
    let d = length-append (flat_map (line_facts segs) (g q)) (flat_map (line_facts segs) (flat_map g qs)) in
    omega arith

module _ (n t : ℕ) (now segs : SegMap) (cover : BlockSet) (s : Seg) (h : IsBlockCover n cover) (weaker : (b : Block) (id : ℕ)
    → IsMet now b id → IsMet segs b id) where
  fewer_by : (k : ℕ) (b : Block) → IsBlock n b → b.side ≡ side (ℕ.suc k)
      → ((r : Block) → IsBlock n r → r.side ≡ side k
      → length (flat_map (line_facts now) (coming_in t now cover s k r)) ≤ length (flat_map (line_facts segs) (going_in t now cover s k r)))
      → (u v : Bool) → becomes_one t now cover s k b ≡ v
      → length (flat_map (line_facts now)
      (cond {A = List Block} u [] (cond {A = List Block} v (b ∷ []) (flat_map (coming_in t now cover s k) (quarters_of b)))))
      ≤ length (flat_map (line_facts segs)
      (cond {A = List Block} u []
      (cond {A = List Block} v (flat_map (blocks_in cover k) (quarters_of b)) (flat_map (going_in t now cover s k) (quarters_of b)))))
  fewer_by k b hb e below true v ev = omega arith
  fewer_by k b hb e below false true ev =
      let is = becomes_says n t now cover s k b ev in
      let big : IsBig t now s n k b = record { block = hb; size = e } in
      let lt = wide t now s n k b big in
      let q = first_quarter b in
      let i = quarters_are n b q hb lt (is_first b) in
      let eq = smaller t now s n k b q big (is_first b) in
      let c = one_inside n t now cover s k q i.block eq (is.all q (is_first b)) in
      let some = Contains-flat_map (blocks_in cover k) (quarters_of b) q c.0 (is_first b)
      ((blocks_in_law n t now cover s h k q c.0 i.block eq (is.all q (is_first b))).1 (c.2, c.1)) in
      let a = length-append (line_facts now b) [] in
      let w = block_fewer now segs b (flat_map (blocks_in cover k) (quarters_of b)) c.0 some
      (λ id m.
      let r = through_quarters n t now cover s h now id k b hb e (λ r x hr er y. through n t now cover s h now id k r hr er (is.all r x) y) m in
      (r.0, r.1, weaker r.0 id r.2)) in
      omega arith
  fewer_by k b hb e below false false ev =
      let big : IsBig t now s n k b = record { block = hb; size = e } in
      let lt = wide t now s n k b big in
      sum_fewer now segs (coming_in t now cover s k) (going_in t now cover s k) (quarters_of b)
      (λ q c. below q (quarters_are n b q hb lt c).block (smaller t now s n k b q big c))

  pub fewer : (k : ℕ) (b : Block) → IsBlock n b → b.side ≡ side k
      → length (flat_map (line_facts now) (coming_in t now cover s k b)) ≤ length (flat_map (line_facts segs) (going_in t now cover s k b))
  fewer ℕ.zero b hb e = omega arith
  fewer (ℕ.suc k) b hb e =
      fewer_by k b hb e (λ r hr er. fewer k r hr er) (finset.contains cover b || not (meets s (square b))) (becomes_one t now cover s k b) refl

none_by_number : (u : Bool) (b : Block) → length (cond {A = List Fact} u (IsMetByNone b ∷ []) []) ≤ 1
none_by_number true b = omega arith
none_by_number false b = omega arith

none_number : (now : SegMap) (bs : List Block) → length (flat_map (none_on now) bs) ≤ length bs
none_number now [] = omega arith
none_number now (b ∷ bs) =
    let a = length-append (none_on now b) (flat_map (none_on now) bs) in
    let one = none_by_number (eqb (segs_meeting now b) 0) b in
    let r = none_number now bs in
    omega arith

pub fewer_law : FewerLaw
fewer_law n t segs cover id s h had =
    let now = finmap.remove segs id in
    let k = cover_of n t segs cover h in
    let co = coming_in t now cover s n (whole n) in
    let go = going_in t now cover s n (whole n) in
    let st = staying_in t now cover s n (whole n) in
    let lost : Block → Fact = λ b. IsMetBy b id in
    let w = fewer n t now segs cover s k (λ b i m. met_before segs id s had b i m) n (whole n) (IsBlock-whole n) refl in
    let x = none_number now st in
    let y = length-map st lost in
    let a = length-append (flat_map (line_facts now) co) (flat_map (none_on now) st) in
    let b = length-append (flat_map (line_facts segs) go) (map lost st) in
    omega arith
