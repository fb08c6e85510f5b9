-- What the records of a block say.
use Rattle.std.proofs.Common.{◌≡◌, ℕ, zero, suc, ◌<◌, ◌≤◌, ◌&&◌, nat_le, leb-true, Bool, true, false, cond, List, [], ◌∷◌, map, length, get_or, All, Some, drop}
use Rattle.std.proofs.Common.{refl, sym, ◌∙◌, ap, ap₂, subst, ⊎_elim, ◌⊎◌, inl, inr, arith, Contains}
use Rattle.std.specs.Prelude.{slice_index, ◌==◌}
use Rattle.std.specs.FinMap as finmap
use Rattle.std.proofs.lemmas.Bool.{and_parts, both_ways}
use Rattle.std.proofs.lemmas.List.Elements.{All-contains}
use Rattle.std.proofs.lemmas.List.{get_or-map, length-map}
use Rattle.quilt_types.specs.Sets as finset
use Rattle.quilt_types.specs.declared.plane.Block.{Block}
use Rattle.quilt_types.specs.declared.plane.Seg.{Seg}
use Rattle.quilt_types.specs.Plane.{in_block, IsBlock}
use Rattle.quilt_types.specs.Quadtrees.{is_reached}
use Rattle.quilt_types.specs.Layers.{SegMap, BlockSet, IsLineMap}
use Rattle.quilt_types.specs.Segments.{square, meets}
use Rattle.quilt_types.specs.Facts.{IsMetBy, IsMetByNone, or_none, line_facts}
use Rattle.quilt_loc.proofs.Members.{Contains-nil, Contains-here, Contains-there, Contains-cons_cases, Contains-filter_from, Contains-map_from}
use Rattle.quilt_loc.proofs.Blocks.{Holds-from}
use Rattle.quilt_loc.proofs.Nesting.{side_pos}
use Rattle.quilt_loc.proofs.PlaneOrders.{block_total}
use Rattle.quilt_record.specs.declared.record.Record.{Record}
use Rattle.quilt_spell.proofs.Spelling.{all_from}
use Rattle.quilt_spell.proofs.facts.FactKeys.{block_same}
use Rattle.quilt_spell.proofs.facts.SameFacts.{any_member}
use Rattle.quilt_line_laws.proofs.LineFacts.{got}
use Rattle.quilt_line_laws.proofs.SetLaws.{contains_is}
use Rattle.quilt_near.specs.Lines.{meeting}
use Rattle.quilt_lines.specs.Layers.{fact_record}
use Rattle.quilt_lines.specs.Reads.{ids_of, pair_of, none_of, block_records, AreIdsAt}
use Rattle.quilt_lines.proofs.Shown.{cover_block}

-- ---- lists
pub only_one : {X : Type 0} (xs : List X) (x d : X) → length xs ≡ 1 → get_or xs 0 d ≡ x → xs ≡ x ∷ []
only_one [] x d e f = absurd (omega arith)
only_one (y ∷ []) x d e f = ap (λ z. z ∷ []) f
only_one (y ∷ z ∷ ys) x d e f = absurd (omega arith)

pub first_of : {X : Type 0} (xs : List X) (x d : X) → xs ≡ x ∷ [] → get_or xs 0 d ≡ x
first_of xs x d e = ap (λ (l : List _). get_or l 0 d) e

pub all_one : {X : Type 0} (P : X → Type 0) (x : X) → P x → All P (x ∷ [])
all_one P x p = all_from P (x ∷ []) (λ y c. subst P (⊎_elim (λ e. e) (λ d. absurd (Contains-nil y d)) (Contains-cons_cases x [] y c)) p)

pub map_twice : {X Y Z : Type 0} (f : Y → Z) (g : X → Y) (xs : List X) → map f (map g xs) ≡ map (λ x. f (g x)) xs
map_twice f g [] = refl
map_twice f g (x ∷ xs) = ap (λ l. f (g x) ∷ l) (map_twice f g xs)

map_same : {X : Type 0} (f : X → X) → ((x : X) → f x ≡ x) → (xs : List X) → map f xs ≡ xs
map_same f h [] = refl
map_same f h (x ∷ xs) = ap (λ z. z ∷ map f xs) (h x) ∙ ap (λ l. x ∷ l) (map_same f h xs)

one_zero : ◌≡◌ {A = ℕ} 1 0 → ⊥
one_zero e = omega arith

pub some_there : (n : ℕ) → false ≡ (n == 0) → n ≡ 0 → ⊥
some_there zero e z = cc
some_there (suc n) e z = omega arith

one_more : (n : ℕ) → 0 ≡ suc n → ⊥
one_more n e = omega arith

-- a record that is none of a list
pub missed : (f : ℕ → Record) (records : List Record) (ids : List ℕ) (i : ℕ) (d : Record) → records ≡ map f ids → i < length records
    → ((id : ℕ) → get_or records i d ≡ f id → ⊥) → ⊥
missed f records ids i d e lt away =
    let many = length-map ids f in
    let same = ap length e in
    away (get_or ids i 0) (ap (λ l. get_or l i d) e ∙ get_or-map f ids i 0 d (omega arith))

-- ---- one block
module _ (n layer : ℕ) (b : Block) where
  -- the ids of a list of pairs
  pub pairs_alone : (ids others : List ℕ) → map (pair_of n layer b) ids ≡ map (pair_of n layer b) others → ids ≡ others
  pairs_alone ids others e =
      let item : Record → ℕ = λ r. r.key.item in
      sym (map_twice item (pair_of n layer b) ids ∙ map_same (λ i. item (pair_of n layer b i)) (λ i. refl) ids) ∙ ap (map item) e
      ∙ map_twice item (pair_of n layer b) others ∙ map_same (λ i. item (pair_of n layer b i)) (λ i. refl) others

  none_first : (id : ℕ) → pair_of n layer b id ≡ none_of n layer b → ⊥
  none_first id e = one_zero (ap (λ (r : Record). slice_index r.value 0) e)

  abbrev head : (rs : List Record) → Record
  head [] = none_of n layer b
  head (r ∷ rs) = r

  record Rows (ms : List (ℕ × Seg)) (rs : List Record) : Type 0 where
    none : ms ≡ [] → rs ≡ none_of n layer b ∷ []
    pairs : (ms ≡ [] → ⊥) → rs ≡ map (pair_of n layer b) (ids_of ms)

  facts_rows : (ms : List (ℕ × Seg)) → Rows ms (map (fact_record n layer) (or_none (IsMetByNone b) (map (λ e. IsMetBy b e.0) ms)))
  facts_rows [] = record { none = λ e. refl; pairs = λ no. absurd (no refl) }
  facts_rows (m ∷ ms) = record {
    none = λ e. absurd (let l = ap length e in omega arith);
    pairs =
        λ no. map_twice (fact_record n layer) (λ (e : ℕ × Seg). IsMetBy b e.0) (m ∷ ms) ∙ sym (map_twice (pair_of n layer b) (λ (e : ℕ × Seg). e.0) (m ∷ ms));
  }

  empty_or : (ms : List (ℕ × Seg)) → (ms ≡ []) ⊎ (ms ≡ [] → ⊥)
  empty_or [] = inl refl
  empty_or (m ∷ ms) = inr (λ e. let l = ap length e in omega arith)

  -- the one record of a block that nothing meets
  none_if : (segs : SegMap) (there : Bool) (records : List Record) → records ≡ none_of n layer b ∷ []
      → records ≡ cond there (map (fact_record n layer) (line_facts segs b)) [] → (there ≡ true) × (meeting segs b ≡ [])
  none_if segs false records one is = absurd (one_zero (ap length (sym one ∙ is)))
  none_if segs true records one is = (
    refl,
    ⊎_elim (λ e. e)
        (λ no.
        let rows = (facts_rows (meeting segs b)).pairs no in
        absurd (first_pair (ids_of (meeting segs b)) (sym one ∙ is ∙ rows)))
        (empty_or (meeting segs b)),
  )
    where
      first_pair : (ids : List ℕ) → none_of n layer b ∷ [] ≡ map (pair_of n layer b) ids → ⊥
      first_pair [] e = let l = ap length e in omega arith
      first_pair (id ∷ ids) e = none_first id (sym (ap head e))

  pub none_said : (segs : SegMap) (cover : BlockSet) (records : List Record) (ids : List ℕ) → records ≡ none_of n layer b ∷ [] → ids ≡ []
      → records ≡ block_records n layer segs cover b → AreIdsAt segs cover b ids
  none_said segs cover records ids one none is =
      let w = none_if segs (finset.contains cover b) records one is in
      record { there = w.0; are = none ∙ sym (ap ids_of w.1) }

  -- its records, where they are not that one
  pairs_if : (segs : SegMap) (there : Bool) (records : List Record) → (length records ≡ 0 → ⊥) → (records ≡ none_of n layer b ∷ [] → ⊥)
      → records ≡ cond there (map (fact_record n layer) (line_facts segs b)) []
      → (there ≡ true) × (records ≡ map (pair_of n layer b) (ids_of (meeting segs b)))
  pairs_if segs false records some more is = absurd (some (ap length is))
  pairs_if segs true records some more is = (
    refl,
    ⊎_elim (λ e. absurd (more (is ∙ (facts_rows (meeting segs b)).none e))) (λ no. is ∙ (facts_rows (meeting segs b)).pairs no) (empty_or (meeting segs b)),
  )

  pub pairs_said : (segs : SegMap) (cover : BlockSet) (records : List Record) → (length records ≡ 0 → ⊥) → (records ≡ none_of n layer b ∷ [] → ⊥)
      → records ≡ block_records n layer segs cover b
      → (finset.contains cover b ≡ true) × (records ≡ map (pair_of n layer b) (ids_of (meeting segs b)))
  pairs_said segs cover records some more is = pairs_if segs (finset.contains cover b) records some more is

-- ---- segments by their ids
module _ (segs : SegMap) where
  abbrev IsThere : ℕ × Seg → Type 0
  IsThere e = finmap.get segs e.0 ≡ Some e.1

  one_seg : (s t : Seg) → Some s ≡ Some t → s ≡ t
  one_seg s t e = cc

  pub same_segments : (xs ys : List (ℕ × Seg)) → ids_of xs ≡ ids_of ys → All IsThere xs → All IsThere ys → xs ≡ ys
  same_segments [] [] e h k = refl
  same_segments [] (y ∷ ys) e h k = absurd (one_more (length ys) (ap length e ∙ ap suc (length-map ys (λ (d : ℕ × Seg). d.0))))
  same_segments (x ∷ xs) [] e h k = absurd (one_more (length xs) (sym (ap length e) ∙ ap suc (length-map xs (λ (d : ℕ × Seg). d.0))))
  same_segments (x ∷ xs) (y ∷ ys) e h k =
      let id : x.0 ≡ y.0 = ap (λ (l : List ℕ). get_or l 0 0) e in
      let hx : finmap.get segs x.0 ≡ Some x.1 = All-contains IsThere (x ∷ xs) x h (Contains-here x xs) in
      let hy : finmap.get segs y.0 ≡ Some y.1 = All-contains IsThere (y ∷ ys) y k (Contains-here y ys) in
      let seg : x.1 ≡ y.1 = one_seg x.1 y.1 (sym hx ∙ ap (finmap.get segs) id ∙ hy) in
      let same : x ≡ y = λ i. (id i, seg i) in
      ap₂ ◌∷◌ same
      (same_segments xs ys (ap (λ (l : List ℕ). drop 1 l) e) (all_from IsThere xs (λ z c. All-contains IsThere (x ∷ xs) z h (Contains-there x xs z c)))
      (all_from IsThere ys (λ z c. All-contains IsThere (y ∷ ys) z k (Contains-there y ys z c))))

  pub all_there : (b : Block) → All IsThere (meeting segs b)
  all_there b = all_from IsThere (meeting segs b) (λ e c. got segs e (Contains-filter_from (λ (d : ℕ × Seg). meets d.1 (square b)) (finmap.entries segs) e c).0)

  pub each_there : (b : Block) (id : ℕ) → Contains (ids_of (meeting segs b)) id → (s : Seg) × (finmap.get segs id ≡ Some s)
  each_there b id c =
      let m = Contains-map_from (λ (e : ℕ × Seg). e.0) (meeting segs b) id c in
      (m.0.1, ap (finmap.get segs) (sym m.2) ∙ All-contains IsThere (meeting segs b) m.0 (all_there b) m.1)

-- ---- blocks of one pixel
pub one_pixel : (n layer t : ℕ) (segs : SegMap) (cover : BlockSet) (b : Block) → IsLineMap n t segs cover → IsBlock n b → b.side ≤ 1
    → is_reached cover b ≡ true → finset.contains cover b ≡ false → ⊥
one_pixel n layer t segs cover b valid hb small reached away =
    let test : Block → Bool = λ c. in_block b (record { x = c.x; y = c.y }) && nat_le c.side b.side in
    let w = any_member test (finset.items cover) reached in
    let c = w.0 in
    let both = and_parts (in_block b (record { x = c.x; y = c.y })) (nat_le c.side b.side) w.2 in
    let on = Holds-from b (record { x = c.x; y = c.y }) both.0 in
    let le = leb-true c.side b.side both.1 in
    let pos = side_pos n c (cover_block n layer t segs cover valid c w.1) in
    let own = side_pos n b hb in
    let left = on.left in
    let right = on.right in
    let top = on.top in
    let bottom = on.bottom in
    let ex : c.x ≡ b.x = omega arith in
    let ey : c.y ≡ b.y = omega arith in
    let es : c.side ≡ b.side = omega arith in
    let same : c ≡ b = λ i. record { y = ey i; x = ex i; side = es i } in
    both_ways (finset.contains cover b) away ((contains_is block_total block_same cover b).1 (subst (Contains (finset.items cover)) same w.1))
