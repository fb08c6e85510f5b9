-- What is found at a pixel of a point layer.
use Rattle.std.proofs.Common.{◌≡◌, ℕ, ◌+◌, ◌<◌, ◌≤◌, ◌^◌, Bool, true, false, List, [], ◌∷◌, length, Option, Some, None, refl, sym, ◌∙◌, ap, subst, ⊎_elim}
use Rattle.std.proofs.Common.{arith, Contains, ◌⊎◌, inl, inr, filter, leb-true, eqb-true, ne_eqb, nat_lt, ltb-true, lt-ltb}
use Rattle.std.specs.Prelude.{MatchOption, IfSome, ◌==◌}
use Rattle.std.specs.FinMap as finmap
use Rattle.std.proofs.lemmas.Bool.{cases_Bool, cond-true, cond-false, and_parts, and_from}
use Rattle.std.proofs.lemmas.List.Elements.{All-contains}
use Rattle.std.proofs.lemmas.List.Sums.{length-filter}
use Rattle.std.proofs.lemmas.Option.{none-some, same_Some}
use Rattle.quilt_types.specs.declared.plane.Pixel.{Pixel}
use Rattle.quilt_types.specs.declared.plane.Block.{Block}
use Rattle.quilt_types.specs.declared.plane.Point.{Point}
use Rattle.quilt_types.specs.Plane.{side, in_block, is_pixel, pixel_cmp}
use Rattle.quilt_types.specs.Layers.{PointMap}
use Rattle.quilt_types.specs.Facts.{Fact, HoldsPoint, HoldsNoPoint, same_pixel}
use Rattle.quilt_types.specs.Quadtrees.{occupancy, point_blocks}
use Rattle.quilt_loc.specs.Codes.{code_at, Rises}
use Rattle.quilt_loc.proofs.Members.{Contains-nil, Contains-cons_cases, Contains-filter}
use Rattle.quilt_loc.proofs.Blocks.{in_block-true, side_most}
use Rattle.quilt_loc.proofs.CodeLaws.{code_alone}
use Rattle.quilt_loc.proofs.PlaneOrders.{pixel_total}
use Rattle.quilt_record.specs.declared.key.Key.{Key}
use Rattle.quilt_record.specs.declared.record.Record.{Record}
use Rattle.quilt_record.specs.Records.{point_item}
use Rattle.quilt_record.specs.Canonical.{IsRecordOf, point_fact}
use Rattle.quilt_btree.specs.Lists.{value_in, value_at_key}
use Rattle.quilt_btree.specs.declared.tree.Tree.{Tree}
use Rattle.quilt_btree.specs.Lists.{floor_of}
use Rattle.quilt_btree.specs.Trees.{IsTree}
use Rattle.quilt_spell.specs.Written.{by_key}
use Rattle.quilt_points.proofs.Trees.{tree_rises}
use Rattle.quilt_edits.proofs.Lookups.{find_away, find_at}
use Rattle.quilt_spell.proofs.Maps.{entry_from_get, get_from_entry}
use Rattle.quilt_spell.proofs.facts.FactKeys.{pixel_same}
use Rattle.quilt_point_laws.proofs.OnBlocks.{OfBlock}
use Rattle.quilt_points.specs.Layers.{block_facts, block_record, point_pixel_key, SpellsPoints, HasPoints}
use Rattle.quilt_points.specs.Reads.{IsBlockRead, IsRow, IsLabelIn, label_key, label_at}
use Rattle.quilt_points.proofs.Shapes.{block_is, block_fact_from, block_fact_is, shaped, point_record_is, block_from}
use Rattle.quilt_points.proofs.Records.{fact_there, fact_at}
use Rattle.quilt_points.proofs.Floors.{IsAround, floor_around}

pub none_or_some : {X : Type 0} (o : Option X) → (o ≡ None) ⊎ ((x : X) × (o ≡ Some x))
none_or_some None = inl refl
none_or_some (Some x) = inr (x, refl)

pub false_true : false ≡ true → ⊥
false_true e = cc

-- ---- the block of a pixel, as it is read
pub block_read : (told : Option (List (List ℕ))) (t : Tree) (layer n capacity : ℕ) (points : PointMap) (p : Pixel) (k : Key) (found : Option Record)
    → n ≤ 12 → p.x < side n → p.y < side n → k ≡ point_pixel_key layer p
    → ((rs : List Record) → IsTree told t rs → found ≡ floor_of k rs) → HasPoints told t layer n capacity points → IsAround n capacity layer points p found
block_read told t layer n capacity points p k found le hx hy key is h =
    let a = floor_around h.records layer n capacity points le (tree_rises told t h.records h.tree) h.spelled p hx hy k key in
    record { fact = a.fact; of = a.of; holds = a.holds; is = is h.records h.tree ∙ a.is }

-- what is read of that record
pub record IsRead (n capacity : ℕ) (points : PointMap) (p : Pixel) (read : Option (Block × Option Point)) : Type 0 where
  pub block : Block
  pub held : Option Point
  pub is : read ≡ Some (block, held)
  pub holds : in_block block p ≡ true
  pub said : IsBlockRead n capacity points block held

pub around_read : (told : Option (List (List ℕ))) (t : Tree) (layer n capacity : ℕ) (points : PointMap) (p : Pixel) (k : Key) (found : Option Record)
    (r : Record) (read : Option (Block × Option Point))
    → 1 ≤ layer → layer ≤ 255 → n ≤ 12 → p.x < side n → p.y < side n → k ≡ point_pixel_key layer p
    → ((rs : List Record) → IsTree told t rs → found ≡ floor_of k rs) → found ≡ Some r
    → ((b : Block) (held : Option Point) → IsRecordOf n capacity r layer (point_fact b held) → read ≡ Some (b, held))
    → HasPoints told t layer n capacity points → IsRead n capacity points p read
around_read told t layer n capacity points p k found r read least most le hx hy key is some one h =
    let a = block_read told t layer n capacity points p k found le hx hy key is h in
    let w = a.of in
    let s = shaped n capacity points h.spelled.valid a.fact w in
    let same : block_record n capacity layer a.fact ≡ r = sym (same_Some r (block_record n capacity layer a.fact) (sym some ∙ a.is)) in
    let row = point_record_is n capacity layer w.block s.held least most s.fits in
    let here : block_record n capacity layer (point_fact w.block s.held) ≡ r = ap (block_record n capacity layer) (sym s.is) ∙ same in
    record {
      block = w.block;
      held = s.held;
      is = one w.block s.held (subst (λ (z : Record). IsRecordOf n capacity z layer (point_fact w.block s.held)) here row);
      holds = in_block-true w.block p a.holds;
      said =
          record {
            block = block_from n capacity points w.block w.maximal;
            fact = subst (Contains (block_facts n capacity points)) s.is (block_fact_is n capacity points a.fact w);
          };
    }

-- what was read is that
pub read_same : (n capacity : ℕ) (points : PointMap) (p : Pixel) (read : Option (Block × Option Point)) (b : Block) (held : Option Point)
    → read ≡ Some (b, held) → IsRead n capacity points p read → IsBlockRead n capacity points b held
read_same n capacity points p read b held e i =
    let pair : (i.block, i.held) ≡ (b, held) = same_Some (i.block, i.held) (b, held) (sym i.is ∙ e) in
    subst (λ (z : Block × Option Point). IsBlockRead n capacity points z.0 z.1) pair i.said

pub read_holds : (n capacity : ℕ) (points : PointMap) (p : Pixel) (read : Option (Block × Option Point)) (b : Block) (held : Option Point)
    → read ≡ Some (b, held) → IsRead n capacity points p read → in_block b p ≡ true
read_holds n capacity points p read b held e i =
    let pair : (i.block, i.held) ≡ (b, held) = same_Some (i.block, i.held) (b, held) (sym i.is ∙ e) in
    subst (λ (z : Block × Option Point). in_block z.0 p ≡ true) pair i.holds

-- ---- a bucket of one point
pub one_of : {X : Type 0} (xs : List X) (a b : X) → length xs ≤ 1 → Contains xs a → Contains xs b → a ≡ b
one_of [] a b le c d = absurd (Contains-nil a c)
one_of (x ∷ []) a b le c d =
    let first : x ≡ a = ⊎_elim (λ e. e) (λ no. absurd (Contains-nil a no)) (Contains-cons_cases x [] a c) in
    let second : x ≡ b = ⊎_elim (λ e. e) (λ no. absurd (Contains-nil b no)) (Contains-cons_cases x [] b d) in
    sym first ∙ second
one_of (x ∷ y ∷ xs) a b le c d = absurd (omega arith)

pub pixel_in : (n : ℕ) (p : Pixel) → is_pixel n p ≡ true → (p.x < side n) × (p.y < side n)
pixel_in n p t = let w = and_parts (nat_lt p.x (side n)) (nat_lt p.y (side n)) t in (ltb-true p.x (side n) w.0, ltb-true p.y (side n) w.1)

pub pixel_from : (n : ℕ) (p : Pixel) → p.x < side n → p.y < side n → is_pixel n p ≡ true
pixel_from n p hx hy = and_from (nat_lt p.x (side n)) (nat_lt p.y (side n)) (lt-ltb p.x (side n) hx) (lt-ltb p.y (side n) hy)

pub same_pixel_is : (p q : Pixel) → same_pixel p q ≡ true → p ≡ q
same_pixel_is p q t =
    let w = and_parts (p.x == q.x) (p.y == q.y) t in
    let x : p.x ≡ q.x = eqb-true p.x q.x w.0 in
    let y : p.y ≡ q.y = eqb-true p.y q.y w.1 in
    λ i. record { y = y i; x = x i }

pub same_pixel_self : (p q : Pixel) → p ≡ q → same_pixel p q ≡ true
same_pixel_self p q e = ap (λ z. same_pixel z q) e ∙ all_same q
  where
    all_same : (q : Pixel) → same_pixel q q ≡ true
    all_same q = grind arith

module _ (n : ℕ) (points : PointMap) (b : Block) (at : Pixel) (holds : in_block b at ≡ true) where
  one_label : (held : Option Point) → IsBlockRead n 1 points b held → (o : Option ℕ) → finmap.get points at ≡ o → label_at held at ≡ o
  one_label None r None e = refl
  one_label None r (Some l) e =
      let w = block_fact_from n 1 points (HoldsNoPoint b) r.fact in
      let same = (w.on).0 in
      absurd ((w.on).1 at l (entry_from_get pixel_cmp pixel_total pixel_same points at l e) (ap (λ (z : Block). in_block z at) (sym same) ∙ holds))
  one_label (Some p) r None e =
      let w = block_fact_from n 1 points (HoldsPoint b p.at p.label) r.fact in
      cond-false (same_pixel p.at at) (Some p.label) None (⊎_elim
      (λ t.
      let there = get_from_entry pixel_cmp pixel_total pixel_same points (p.at, p.label) (w.on).1 in
      absurd (none-some p.label (sym e ∙ ap (finmap.get points) (sym (same_pixel_is p.at at t)) ∙ there)))
      (λ f. f) (cases_Bool (same_pixel p.at at)))
  one_label (Some p) r (Some l) e =
      let w = block_fact_from n 1 points (HoldsPoint b p.at p.label) r.fact in
      let test : Pixel × ℕ → Bool = λ d. in_block b d.0 in
      let es = finmap.entries points in
      let few = leb-true (occupancy points b) 1 (block_is n 1 points b r.block).passes in
      let many = length-filter test es in
      let same = (w.on).0 in
      let here : Contains (filter test es) (p.at, p.label) =
      Contains-filter test es (p.at, p.label) (w.on).1 (ap (λ (z : Block). in_block z p.at) same ∙ (w.on).2) in
      let there : Contains (filter test es) (at, l) = Contains-filter test es (at, l) (entry_from_get pixel_cmp pixel_total pixel_same points at l e) holds in
      let one = one_of (filter test es) (p.at, p.label) (at, l) (omega arith) here there in
      cond-true (same_pixel p.at at) (Some p.label) None (same_pixel_self p.at at (ap (λ (z : Pixel × ℕ). z.0) one)) ∙ ap Some (ap (λ (z : Pixel × ℕ). z.1) one)

  pub one_found : (held : Option Point) → IsBlockRead n 1 points b held → label_at held at ≡ finmap.get points at
  one_found held r = one_label held r (finmap.get points at) refl

  pub one_found_at : (capacity : ℕ) (held : Option Point) → capacity ≡ 1 → IsBlockRead n capacity points b held → label_at held at ≡ finmap.get points at
  one_found_at capacity held e r = one_found held (subst (λ (z : ℕ). IsBlockRead n z points b held) e r)

-- ---- a bucket of more
value_none : (k : Key) (rs : List Record) → ((r : Record) → Contains rs r → r.key ≡ k → ⊥) → value_at_key k rs ≡ None
unfolding value_at_key
value_none k rs away = ap value_in (find_away k rs away)

value_some : (k : Key) (rs : List Record) (r : Record) → Rises by_key rs → Contains rs r → r.key ≡ k → value_at_key k rs ≡ Some r.value
unfolding value_at_key
value_some k rs r up c e = ap value_in (find_at k rs r up c e)

-- what a search for the key of the pixel in its block has to give
module _ (rs : List Record) (layer n capacity : ℕ) (points : PointMap) (le : n ≤ 12) (more : 1 < capacity) (up : Rises by_key rs)
    (spells : SpellsPoints rs layer n capacity points)
    (b : Block) (mb : Contains (point_blocks n capacity points) b) (at : Pixel) (on : is_pixel n at ≡ true) (holds : in_block b at ≡ true) where
  abbrev here : ℕ → Fact
  here l = HoldsPoint b at l

  -- the item tells the pixel
  item_is : (q : Pixel) → is_pixel n q ≡ true → point_item capacity q ≡ point_item capacity at → q ≡ at
  item_is q oq e =
      let a = cond-false (capacity == 1) 0 (code_at q + 1) (ne_eqb capacity 1 (λ z. absurd (omega arith))) in
      let c = cond-false (capacity == 1) 0 (code_at at + 1) (ne_eqb capacity 1 (λ z. absurd (omega arith))) in
      let m = side_most n le in
      let qs = pixel_in n q oq in
      let ps = pixel_in n at on in
      let qx = qs.0 in
      let qy = qs.1 in
      let px = ps.0 in
      let py = ps.1 in
      code_alone q at (omega arith) (omega arith) (omega arith) (omega arith) (omega arith)

  some_item : point_item capacity at ≡ 0 → ⊥
  some_item e = let c = cond-false (capacity == 1) 0 (code_at at + 1) (ne_eqb capacity 1 (λ z. absurd (omega arith))) in omega arith

  by_fact : (l : ℕ) (f : Fact) (w : OfBlock n capacity points f)
      → (block_record n capacity layer f).key ≡ (block_record n capacity layer (here l)).key → (m : ℕ) × (finmap.get points at ≡ Some m)
  by_fact l (HoldsPoint d q m) w e =
      let v = spells.valid in
      let inside = All-contains (λ (z : Pixel × ℕ). is_pixel n z.0 ≡ true) (finmap.entries points) (q, m) v.inside (w.on).1 in
      let is = item_is q inside (ap (λ (k : Key). k.item) e) in
      (m, ap (finmap.get points) (sym is) ∙ get_from_entry pixel_cmp pixel_total pixel_same points (q, m) (w.on).1)
  by_fact l (HoldsNoPoint d) w e = absurd (some_item (sym (ap (λ (k : Key). k.item) e)))
  by_fact l f w e = absurd (w.on)

  -- no record where there is no point
  pub absent : (k : Key) → k ≡ (block_record n capacity layer (here 0)).key → finmap.get points at ≡ None → value_at_key k rs ≡ None
  absent k is none =
      value_none k rs (λ r c e.
      let f = fact_at rs layer n capacity points spells r c (ap (λ (z : Key). z.layer) (e ∙ is)) in
      let g = by_fact 0 f.0 f.1 (ap (λ (z : Record). z.key) f.2 ∙ e ∙ is) in
      none-some g.0 (sym none ∙ g.1))

  pub fact_here : (l : ℕ) → finmap.get points at ≡ Some l → OfBlock n capacity points (here l)
  fact_here l some =
      record { block = b; maximal = block_is n capacity points b mb; on = (refl, entry_from_get pixel_cmp pixel_total pixel_same points at l some, holds) }

  -- the record of the point that is there
  pub present : (k : Key) (l : ℕ) → k ≡ (block_record n capacity layer (here 0)).key → finmap.get points at ≡ Some l
      → value_at_key k rs ≡ Some (block_record n capacity layer (here l)).value
  present k l is some =
      value_some k rs (block_record n capacity layer (here l)) up (fact_there rs layer n capacity points spells (here l) (fact_here l some)) (sym is)

-- what is read of the record that has the pixel's key
pub record IsLabelRead (points : PointMap) (at : Pixel) (read : Option Point) : Type 0 where
  pub label : ℕ
  pub there : finmap.get points at ≡ Some label
  pub is : read ≡ Some (record { at = at; label = label })

module _ (told : Option (List (List ℕ))) (t : Tree) (layer n capacity : ℕ) (points : PointMap) (b : Block) (at : Pixel) (k : Key) (found : Option (List ℕ))
    (least : 1 ≤ layer) (most : layer ≤ 255) (le : n ≤ 12) (more : 1 < capacity) (key : k ≡ (block_record n capacity layer (HoldsPoint b at 0)).key)
    (is : (rs : List Record) → IsTree told t rs → found ≡ value_at_key k rs) (h : HasPoints told t layer n capacity points)
    (mb : Contains (point_blocks n capacity points) b) (on : is_pixel n at ≡ true) (holds : in_block b at ≡ true) where
  abbrev up : Rises by_key h.records
  up = tree_rises told t h.records h.tree

  pub none_read : found ≡ None → None ≡ finmap.get points at
  none_read e =
      ⊎_elim (λ n. sym n)
      (λ s. absurd (none-some _ (sym e ∙ is h.records h.tree ∙ present h.records layer n capacity points le more up h.spelled b mb at on holds k s.0 key s.1)))
      (none_or_some (finmap.get points at))

  pub label_read : (value : List ℕ) → found ≡ Some value → (read : Option Point)
      → ((c : Block) (p : Point) → IsRecordOf n capacity (record { key = k; value = value }) layer (point_fact c (Some p)) → read ≡ Some p)
      → IsLabelRead points at read
  label_read value e read one =
      ⊎_elim
      (λ none. absurd (none-some value (sym (absent h.records layer n capacity points le more up h.spelled b mb at on holds k key none)
      ∙ sym (is h.records h.tree) ∙ e)))
      (λ s.
      let row : Record = block_record n capacity layer (HoldsPoint b at s.0) in
      let same : value ≡ row.value = same_Some value row.value
      (sym e ∙ is h.records h.tree ∙ present h.records layer n capacity points le more up h.spelled b mb at on holds k s.0 key s.1) in
      let whole : row ≡ record { key = k; value = value } = λ i. record { key = key_turned i; value = sym same i } in
      let held : Point = record { at = at; label = s.0 } in
      let small = All-contains (λ (z : Pixel × ℕ). z.1 < 2 ^ 32) (finmap.entries points) (at, s.0) h.spelled.valid.labels
      (entry_from_get pixel_cmp pixel_total pixel_same points at s.0 s.1) in
      let fits = point_record_is n capacity layer b (Some held) least most ((block_is n capacity points b mb).block, on, small) in
      record { label = s.0; there = s.1; is = one b held (subst (λ (r : Record). IsRecordOf n capacity r layer (HoldsPoint b at s.0)) whole fits) })
      (none_or_some (finmap.get points at))
    where
      key_turned : (block_record n capacity layer (HoldsPoint b at 0)).key ≡ k
      key_turned = sym key

pub label_same : (points : PointMap) (at : Pixel) (read : Option Point) (p : Point) → read ≡ Some p → (i : IsLabelRead points at read)
    → Some p.label ≡ finmap.get points at
label_same points at read p e i =
    let same : record { at = at; label = i.label } ≡ p = same_Some (record { at = at; label = i.label }) p (sym i.is ∙ e) in
    ap Some (sym (ap (λ (q : Point). q.label) same)) ∙ sym i.there

-- what a store tells after a call that left it
pub has_along : (old new : Option (List (List ℕ))) (t : Tree) (layer n capacity : ℕ) (points : PointMap) → new ≡ old
    → HasPoints old t layer n capacity points → HasPoints new t layer n capacity points
has_along old new t layer n capacity points e h = subst (λ (z : Option (List (List ℕ))). HasPoints z t layer n capacity points) (sym e) h

-- ---- answers that may be none
pub if_some_weaker : {X : Type 0} (o : Option X) (P Q : X → Type 0) → ((x : X) → P x → Q x) → IfSome o P → IfSome o Q
if_some_weaker None P Q f h = tt
if_some_weaker (Some x) P Q f h = f x h

pub if_some_at : {X : Type 0} (o : Option X) (P : X → Type 0) (x : X) → o ≡ Some x → IfSome o P → P x
if_some_at None P x e h = absurd (none-some x e)
if_some_at (Some y) P x e h = subst P (same_Some y x e) h

-- ---- what any records say
-- a point that is read is said by the record
pub row_of : (n capacity number : ℕ) (r : Record) (b : Block) (held : Option Point) → IsRow n capacity number b held r
    → IfSome held (λ p. (d : Block) × IsRow n capacity number d (Some p) r)
row_of n capacity number r b None h = tt
row_of n capacity number r b (Some p) h = (b, h)

pub label_none : (n capacity number : ℕ) (rs : List Record) (b : Block) (p : Pixel) (k : Key) (read : Option (List ℕ)) (label : Option ℕ)
    → label ≡ None → k ≡ label_key n capacity number b p → read ≡ value_at_key k rs → read ≡ None → IsLabelIn n capacity number rs b p label
label_none n capacity number rs b p k read label absent key is none =
    let e : value_at_key (label_key n capacity number b p) rs ≡ None = ap (λ (j : Key). value_at_key j rs) (sym key) ∙ sym is ∙ none in
    subst (λ (o : Option (List ℕ)). MatchOption o (label ≡ None) (λ v. (d : Block) × (q : Point)
    × IsRow n capacity number d (Some q) (record { key = label_key n capacity number b p; value = v }) × (label ≡ Some q.label))) (sym e) absent

pub label_some : (n capacity number : ℕ) (rs : List Record) (b : Block) (p : Pixel) (k : Key) (read : Option (List ℕ)) (v : List ℕ) (q : Point)
    → k ≡ label_key n capacity number b p → read ≡ value_at_key k rs → read ≡ Some v
    → ((d : Block) × IsRow n capacity number d (Some q) (record { key = k; value = v })) → IsLabelIn n capacity number rs b p (Some q.label)
label_some n capacity number rs b p k read v q key is some row =
    let e : value_at_key (label_key n capacity number b p) rs ≡ Some v = ap (λ (j : Key). value_at_key j rs) (sym key) ∙ sym is ∙ some in
    subst (λ (o : Option (List ℕ)). MatchOption o (Some q.label ≡ None) (λ v. (d : Block) × (s : Point)
    × IsRow n capacity number d (Some s) (record { key = label_key n capacity number b p; value = v }) × (Some q.label ≡ Some s.label))) (sym e)
    (row.0, q, subst (λ (j : Key). IsRow n capacity number row.0 (Some q) (record { key = j; value = v })) key row.1, refl)
