-- The segments of a layer, read one after the other by their ids.
use Rattle.std.proofs.Common.{◌≡◌, ℕ, zero, suc, ◌+◌, ◌<◌, ◌≤◌, true, List, [], ◌∷◌, ◌++◌, map, length, get_or, take, All, Option, Some, sym, ◌∙◌}
use Rattle.std.proofs.Common.{ap, subst, ⊎_elim, arith, Contains, Ordering, Less, nat_cmp}
use Rattle.std.specs.FinMap as finmap
use Rattle.std.proofs.lemmas.List.{get_or-map, length-map, map-append}
use Rattle.std.proofs.lemmas.List.Elements.{All-append, All-contains, Contains-append_right}
use Rattle.quilt_types.specs.declared.plane.Seg.{Seg}
use Rattle.quilt_types.specs.Layers.{SegMap, BlockSet, IsLineMap, is_in_square}
use Rattle.quilt_types.specs.Facts.{IsSegment}
use Rattle.quilt_loc.specs.Codes.{Rises}
use Rattle.quilt_loc.proofs.Members.{Contains-nil, Contains-here, Contains-cons_cases, Contains-map_from}
use Rattle.quilt_loc.proofs.Rising.{Rises-append, nat_less, nat_less_from}
use Rattle.quilt_record.specs.declared.record.Record.{Record}
use Rattle.quilt_record.specs.Canonical.{FactFits}
use Rattle.quilt_edits.proofs.Lists.{member_at, take_next}
use Rattle.quilt_spell.proofs.Maps.{by_first, Rises-entries}
use Rattle.quilt_spell.proofs.Spelling.{all_from}
use Rattle.quilt_line_laws.proofs.LineFacts.{got}
use Rattle.quilt_lines.specs.Layers.{fact_record, segment_facts}
use Rattle.quilt_lines.specs.Reads.{ids_of}
use Rattle.quilt_lines.proofs.Listed.{all_one, map_twice}
use Rattle.quilt_lines.proofs.Shown.{segment_laid}

-- ---- one id more
module _ (list : List (ℕ × Seg)) (id least : ℕ) (s : Seg) (below : All (λ e. e.0 < least) list) (le : least ≤ id) where
  only : (x : ℕ) → Contains (id ∷ []) x → id ≡ x
  only x c = ⊎_elim (λ e. e) (λ d. absurd (Contains-nil x d)) (Contains-cons_cases id [] x c)

  pub order_more : Rises nat_cmp (ids_of list) → Rises nat_cmp (ids_of (list ++ (id, s) ∷ []))
  order_more h =
      subst (Rises nat_cmp) (sym (map-append (λ (e : ℕ × Seg). e.0) list ((id, s) ∷ [])))
      (Rises-append nat_cmp (ids_of list) (id ∷ []) h (λ y c. absurd (Contains-nil y c), tt)
      (λ x y c d.
      let m = Contains-map_from (λ (e : ℕ × Seg). e.0) list x c in
      let lt : m.0.0 < least = All-contains (λ (e : ℕ × Seg). e.0 < least) list m.0 below m.1 in
      let is = m.2 in
      let same = only y d in
      nat_less x y (omega arith)))

  pub below_more : All (λ e. e.0 < id + 1) (list ++ (id, s) ∷ [])
  below_more =
      All-append (λ (e : ℕ × Seg). e.0 < id + 1) list ((id, s) ∷ [])
      (all_from (λ (e : ℕ × Seg). e.0 < id + 1) list (λ e c. let lt : e.0 < least = All-contains (λ (d : ℕ × Seg). d.0 < least) list e below c in omega arith))
      (all_one (λ (e : ℕ × Seg). e.0 < id + 1) (id, s) (omega arith))

pub smallest_more : (list : List (ℕ × Seg)) (id : ℕ) (s : Seg) (k : ℕ) → All (λ e. e.0 < k) (list ++ (id, s) ∷ []) → id + 1 ≤ k
smallest_more list id s k all =
    let lt : id < k = All-contains (λ (e : ℕ × Seg). e.0 < k) (list ++ (id, s) ∷ []) (id, s) all
    (Contains-append_right list ((id, s) ∷ []) (id, s) (Contains-here (id, s) [])) in
    omega arith

-- ---- what the records of segments say
-- the record of a segment with its id
abbrev pub row : ℕ → ℕ → ℕ × Seg → Record
row n layer e = fact_record n layer (IsSegment e.0 e.1)

abbrev pub no_segment : ℕ × Seg
no_segment = (0, record { y2 = 0; x2 = 0; y1 = 0; x1 = 0 })

-- the record at a place says the segment there, where the segments are some of a layer's
pub row_said : (n layer t : ℕ) (segs : SegMap) (cover : BlockSet) → IsLineMap n t segs cover → n ≤ 12 → (es : List (ℕ × Seg))
    → ((e : ℕ × Seg) → Contains es e → finmap.get segs e.0 ≡ Some e.1) → (records : List Record) → records ≡ map (row n layer) es → (i : ℕ) (d : Record)
    → i < length records → (said : Option (ℕ × Seg)) → ((id : ℕ) (s : Seg) → get_or records i d ≡ fact_record n layer (IsSegment id s)
    → FactFits n (IsSegment id s) → is_in_square n s ≡ true → said ≡ Some (id, s)) → said ≡ Some (get_or es i no_segment)
row_said n layer t segs cover valid le es there records are i d lt said reads =
    let many = length-map es (row n layer) in
    let same = ap length are in
    let here : i < length es = omega arith in
    let e = get_or es i no_segment in
    let laid = segment_laid n layer t segs cover valid le e.0 e.1 (there e (member_at es i no_segment here)) in
    reads e.0 e.1 (ap (λ (l : List Record). get_or l i d) are ∙ get_or-map (row n layer) es i no_segment d here) laid.fits laid.inside

-- ---- the next segment
rising_take : {X : Type 0} (R : X → X → Ordering) (xs : List X) (i : ℕ) (d : X) → Rises R xs → i < length xs → (x : X) → Contains (take i xs) x
    → R x (get_or xs i d) ≡ Less
rising_take R [] i d h lt x c = absurd (omega arith)
rising_take R (y ∷ ys) zero d h lt x c = absurd (Contains-nil x c)
rising_take R (y ∷ ys) (suc i) d h lt x c =
    ⊎_elim
    (λ e. subst (λ (z : _). R z (get_or ys i d) ≡ Less) e (h.0 (get_or ys i d) (member_at ys i d (omega arith))))
    (λ m. rising_take R ys i d h.1 (omega arith) x m)
    (Contains-cons_cases y (take i ys) x c)

-- the segment that the record at a place is
pub record IsNext (n layer : ℕ) (segs : SegMap) (records : List Record) (i : ℕ) (d : Record) (said : Option (ℕ × Seg)) : Type 0 where
  pub next : ℕ × Seg
  pub is_said : said ≡ Some next
  pub longer : take (i + 1) (finmap.entries segs) ≡ take i (finmap.entries segs) ++ next ∷ []
  pub later : All (λ e. e.0 < next.0) (take i (finmap.entries segs))

pub next_at : (n layer t : ℕ) (segs : SegMap) (cover : BlockSet) → IsLineMap n t segs cover → n ≤ 12 → (records : List Record) (i : ℕ) (d : Record)
    → i < length records → records ≡ map (fact_record n layer) (segment_facts segs)
    → (said : Option (ℕ × Seg)) → ((id : ℕ) (s : Seg) → get_or records i d ≡ fact_record n layer (IsSegment id s) → FactFits n (IsSegment id s)
    → is_in_square n s ≡ true → said ≡ Some (id, s)) → IsNext n layer segs records i d said
next_at n layer t segs cover valid le records i d lt is said reads =
    let es = finmap.entries segs in
    let rows : records ≡ map (row n layer) es = is ∙ map_twice (fact_record n layer) (λ (e : ℕ × Seg). IsSegment e.0 e.1) es in
    let many = length-map es (row n layer) in
    let same = ap length rows in
    let here : i < length es = omega arith in
    let e = get_or es i no_segment in
    record {
      next = e;
      is_said = row_said n layer t segs cover valid le es (got segs) records rows i d lt said reads;
      longer = take_next es i no_segment here;
      later = all_from (λ (x : ℕ × Seg). x.0 < e.0) (take i es)
          (λ x m. nat_less_from x.0 e.0 (rising_take (by_first nat_cmp) es i no_segment (Rises-entries nat_cmp segs) here x m));
    }

pub all_read : (n layer : ℕ) (segs : SegMap) (records : List Record) → records ≡ map (fact_record n layer) (segment_facts segs)
    → length records ≡ length (finmap.entries segs)
all_read n layer segs records is =
    ap length (is ∙ map_twice (fact_record n layer) (λ (e : ℕ × Seg). IsSegment e.0 e.1) (finmap.entries segs))
    ∙ length-map (finmap.entries segs) (λ (e : ℕ × Seg). fact_record n layer (IsSegment e.0 e.1))
