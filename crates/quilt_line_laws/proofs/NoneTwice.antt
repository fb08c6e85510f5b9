-- Of the lists of facts that come and go none has a fact twice.
use Rattle.std.proofs.Common.{◌≡◌, ℕ, ◌+◌, ◌/◌, ◌<◌, Bool, true, false, cond, not, ◌&&◌, ◌||◌, List, [], ◌∷◌, map, filter, flat_map, refl, sym, ap, ◌∙◌, subst}
use Rattle.std.proofs.Common.{⊎_elim, arith, Contains, pow_pos}
use Rattle.std.specs.FinMap as finmap
use Rattle.std.specs.Ordering.{nat_cmp}
use Rattle.std.specs.Cmp.{nat_cmp_total, on_total}
use Rattle.quilt_types.specs.Sets as finset
use Rattle.quilt_types.specs.declared.plane.Block.{Block}
use Rattle.quilt_types.specs.declared.plane.Seg.{Seg}
use Rattle.quilt_types.specs.Plane.{side, corner, quarters_of, parent_of, whole, IsBlock, Within}
use Rattle.quilt_types.specs.Layers.{SegMap, BlockSet}
use Rattle.quilt_types.specs.Segments.{square, meets}
use Rattle.quilt_types.specs.Facts.{Fact, IsOfKind, HasColour, HoldsPoint, HoldsNoPoint, IsSegment, IsMetBy, IsMetByNone, line_facts}
use Rattle.quilt_spell.specs.Apart.{Apart}
use Rattle.quilt_loc.proofs.Members.{Contains-nil, Contains-cons_cases, Contains-filter_from}
use Rattle.quilt_spell.proofs.Lists.{Apart-filter, Apart-rises, Apart-map, Apart-flat_map}
use Rattle.quilt_spell.proofs.Maps.{by_first, Rises-entries}
use Rattle.quilt_loc.proofs.Nesting.{Within-holds, Holds-corner, same_block_from}
use Rattle.quilt_loc.proofs.Quartered.{quarters_are, halved}
use Rattle.quilt_line_laws.proofs.Merges.{IsBlockCover}
use Rattle.quilt_line_laws.specs.Lines.{IsOnBlock}
use Rattle.quilt_line_laws.specs.Merging.{is_one, becomes_one, blocks_in, coming_in, going_in, staying_in}
use Rattle.quilt_line_laws.proofs.LineFacts.{got, meeting, met_by, on_block}
use Rattle.quilt_line_laws.proofs.OneSide.{IsBig, wide, smaller}
use Rattle.quilt_line_laws.proofs.Levels.{becomes_says}
use Rattle.quilt_line_laws.proofs.Adding.{same_seg_value}
use Rattle.quilt_line_laws.proofs.Descent.{IsFree, come_law, go_law, stay_law, blocks_in_law, goes_on, quarter_free, not_one, all_free, later_cover}
use Rattle.quilt_spell.proofs.facts.FactKeys.{or_none_apart}

-- ---- facts on blocks
pub entries_apart : (segs : SegMap) → Apart (finmap.entries segs)
entries_apart segs = Apart-rises (by_first nat_cmp) (on_total (λ (e : ℕ × Seg). e.0) nat_cmp_total) (finmap.entries segs) (Rises-entries nat_cmp segs)

id_of : Fact → ℕ
id_of (IsMetBy b id) = id
id_of (IsOfKind kind number) = 0
id_of (IsSegment id s) = 0
id_of (HasColour b colour) = 0
id_of (HoldsPoint b p label) = 0
id_of (HoldsNoPoint b) = 0
id_of (IsMetByNone b) = 0

same_ids : (b c : Block) (i j : ℕ) → IsMetBy b i ≡ IsMetBy c j → i ≡ j
unfolding id_of
same_ids b c i j e = ap id_of e

pub same_entry : (segs : SegMap) (d e : ℕ × Seg) → Contains (finmap.entries segs) d → Contains (finmap.entries segs) e → d.0 ≡ e.0 → d ≡ e
same_entry segs d e cd ce same =
    let w = same_seg_value d.1 e.1 (sym (got segs d cd) ∙ ap (finmap.get segs) same ∙ got segs e ce) in
    λ i. (same i, w i)

pub line_facts_apart : (segs : SegMap) (b : Block) → Apart (line_facts segs b)
line_facts_apart segs b =
    or_none_apart (IsMetByNone b) (map (met_by b) (filter (meeting b) (finmap.entries segs)))
    (Apart-map (met_by b) (filter (meeting b) (finmap.entries segs))
    (λ d e cd ce same. same_entry segs d e (Contains-filter_from (meeting b) (finmap.entries segs) d cd).0
    (Contains-filter_from (meeting b) (finmap.entries segs) e ce).0 (same_ids b b d.0 e.0 same))
    (Apart-filter (meeting b) (finmap.entries segs) (entries_apart segs)))

-- a fact is on one block
block_is : (m r : SegMap) (b c : Block) (f : Fact) → IsOnBlock m b f → IsOnBlock r c f → b ≡ c
block_is m r b c (IsMetBy d id) x y = x.0 ∙ sym y.0
block_is m r b c (IsMetByNone d) x y = x.0 ∙ sym y.0
block_is m r b c (IsOfKind kind number) x y = absurd x
block_is m r b c (IsSegment id s) x y = absurd x
block_is m r b c (HasColour d colour) x y = absurd x
block_is m r b c (HoldsPoint d p label) x y = absurd x
block_is m r b c (HoldsNoPoint d) x y = absurd x

pub facts_on_apart : (segs : SegMap) (bs : List Block) → Apart bs → Apart (flat_map (line_facts segs) bs)
facts_on_apart segs bs h =
    Apart-flat_map (line_facts segs) bs h (λ b _. line_facts_apart segs b)
    (λ b c f _ _ x y. block_is segs segs b c f (on_block segs b f x) (on_block segs c f y))

-- ---- quarters
same_x : (a b : Block) → a ≡ b → a.x ≡ b.x
same_x a b e = ap (λ (z : Block). z.x) e

same_y : (a b : Block) → a ≡ b → a.y ≡ b.y
same_y a b e = ap (λ (z : Block). z.y) e

four_apart : (x y h : ℕ) → 0 < h → (a b c d : Block) → a.x ≡ x → a.y ≡ y → b.x ≡ x + h → b.y ≡ y → c.x ≡ x → c.y ≡ y + h → d.x ≡ x + h → d.y ≡ y + h
    → Apart (a ∷ b ∷ c ∷ d ∷ [])
four_apart x y h p a b c d ax ay bx by cx cy dx dy = (
  λ m. ⊎_elim (λ e. let w = same_x b a e in absurd (omega arith)) (λ m1. ⊎_elim (λ e. let w = same_y c a e in absurd (omega arith))
      (λ m2. ⊎_elim (λ e. let w = same_x d a e in absurd (omega arith)) (λ m3. Contains-nil a m3) (Contains-cons_cases d [] a m2))
      (Contains-cons_cases c (d ∷ []) a m1)) (Contains-cons_cases b (c ∷ d ∷ []) a m),
  (
    λ m. ⊎_elim (λ e. let w = same_x c b e in absurd (omega arith))
        (λ m2. ⊎_elim (λ e. let w = same_y d b e in absurd (omega arith)) (λ m3. Contains-nil b m3) (Contains-cons_cases d [] b m2))
        (Contains-cons_cases c (d ∷ []) b m),
    (
      λ m. ⊎_elim (λ e. let w = same_x d c e in absurd (omega arith)) (λ m3. Contains-nil c m3) (Contains-cons_cases d [] c m),
      (λ m. Contains-nil d m, tt),
    ),
  ),
)

pub quarters_apart : (n : ℕ) (b : Block) → IsBlock n b → 1 < b.side → Apart (quarters_of b)
quarters_apart n b hb wide' =
    let h = b.side / 2 in
    let v = halved n b hb wide' in
    let half = v.3 in
    let pos = pow_pos v.0 in
    let one = λ (x y : ℕ). let q : Block = record { x = x; y = y; side = h } in q in
    four_apart b.x b.y h (omega arith) (one b.x b.y) (one (b.x + h) b.y) (one b.x (b.y + h)) (one (b.x + h) (b.y + h)) refl refl refl refl refl refl refl refl

-- lists over quarters whose members lie in theirs
pub over_quarters : (n t : ℕ) (segs : SegMap) (s : Seg) (k : ℕ) (b : Block) (f : Block → List Block) → IsBlock n b → b.side ≡ side (ℕ.suc k)
    → ((r : Block) → Contains (quarters_of b) r → IsBlock n r → r.side ≡ side k → parent_of r ≡ b
    → Apart (f r) × ((q : Block) → Contains (f r) q → IsBlock n q × Within q r))
    → Apart (flat_map f (quarters_of b))
over_quarters n t segs s k b f hb e each =
    let big : IsBig t segs s n k b = record { block = hb; size = e } in
    let lt = wide t segs s n k b big in
    let at = λ (r : Block) (c : Contains (quarters_of b) r). let i = quarters_are n b r hb lt c in each r c i.block (smaller t segs s n k b r big c) i.parent in
    Apart-flat_map f (quarters_of b) (quarters_apart n b hb lt) (λ r c. (at r c).0)
    (λ r p q cr cp x y.
    let u = (at r cr).1 q x in
    let v = (at p cp).1 q y in
    let on = Holds-corner n q u.0 in
    let er = smaller t segs s n k b r big cr in
    let ep = smaller t segs s n k b p big cp in
    same_block_from n r p (corner q) (quarters_are n b r hb lt cr).block (quarters_are n b p hb lt cp).block (er ∙ sym ep)
    (Within-holds q r (corner q) u.1 on) (Within-holds q p (corner q) v.1 on))

pub single_apart : (b : Block) → Apart (b ∷ [])
single_apart b = (λ c. Contains-nil b c, tt)

module _ (n t : ℕ) (segs : SegMap) (cover : BlockSet) (s : Seg) (h : IsBlockCover n cover) where
  blocks_apart_step : (k : ℕ) (b : Block) → IsBlock n b → b.side ≡ side (ℕ.suc k)
      → ((r : Block) → Contains (quarters_of b) r → is_one t segs cover s k r ≡ true)
      → ((r : Block) → IsBlock n r → r.side ≡ side k → is_one t segs cover s k r ≡ true → Apart (blocks_in cover k r))
      → Apart (flat_map (blocks_in cover k) (quarters_of b))
  blocks_apart_step k b hb e ones below =
      over_quarters n t segs s k b (blocks_in cover k) hb e
      (λ r c hr er _. (below r hr er (ones r c), λ q m. let w = (blocks_in_law n t segs cover s h k r q hr er (ones r c)).0 m in (h.only q w.1, w.0)))

  blocks_apart_by : (k : ℕ) (b : Block) → IsBlock n b → b.side ≡ side (ℕ.suc k) → is_one t segs cover s (ℕ.suc k) b ≡ true
      → ((r : Block) → IsBlock n r → r.side ≡ side k → is_one t segs cover s k r ≡ true → Apart (blocks_in cover k r))
      → (u : Bool) → finset.contains cover b ≡ u → Apart (cond {A = List Block} u (b ∷ []) (flat_map (blocks_in cover k) (quarters_of b)))
  blocks_apart_by k b hb e o below true eu = single_apart b
  blocks_apart_by k b hb e o below false eu =
      blocks_apart_step k b hb e ((becomes_says n t segs cover s k b (subst (λ (z : Bool). (z || becomes_one t segs cover s k b) ≡ true) eu o)).all) below

  blocks_apart : (k : ℕ) (b : Block) → IsBlock n b → b.side ≡ side k → is_one t segs cover s k b ≡ true → Apart (blocks_in cover k b)
  blocks_apart ℕ.zero b hb e o = single_apart b
  blocks_apart (ℕ.suc k) b hb e o = blocks_apart_by k b hb e o (λ r hr er u. blocks_apart k r hr er u) (finset.contains cover b) refl

  abbrev Free : ℕ → Block → Type 0
  Free k b = IsFree n t segs cover s h k b

  come_apart_by : (k : ℕ) (b : Block) → Free (ℕ.suc k) b → ((r : Block) → Free k r → Apart (coming_in t segs cover s k r))
      → (u v : Bool) → (finset.contains cover b || not (meets s (square b))) ≡ u → becomes_one t segs cover s k b ≡ v
      → Apart (cond {A = List Block} u [] (cond {A = List Block} v (b ∷ []) (flat_map (coming_in t segs cover s k) (quarters_of b))))
  come_apart_by k b g below true v eu ev = tt
  come_apart_by k b g below false true eu ev = single_apart b
  come_apart_by k b g below false false eu ev =
      let away = not_one n t segs cover s h k b (goes_on n t segs cover s h k b eu) ev in
      over_quarters n t segs s k b (coming_in t segs cover s k) g.block g.size
      (λ r c hr er p.
      let f = quarter_free n t segs cover s h k b r away hr er p in
      (below r f, λ q m. let w = (come_law n t segs cover s h k r q f).0 m in ((later_cover n t segs cover s h).only q w.1.0, w.0)))

  come_apart : (k : ℕ) (b : Block) → Free k b → Apart (coming_in t segs cover s k b)
  come_apart ℕ.zero b g = tt
  come_apart (ℕ.suc k) b g =
      come_apart_by k b g (λ r f. come_apart k r f) (finset.contains cover b || not (meets s (square b))) (becomes_one t segs cover s k b) refl refl

  go_apart_by : (k : ℕ) (b : Block) → Free (ℕ.suc k) b → ((r : Block) → Free k r → Apart (going_in t segs cover s k r))
      → (u v : Bool) → (finset.contains cover b || not (meets s (square b))) ≡ u → becomes_one t segs cover s k b ≡ v
      → Apart (cond {A = List Block} u []
      (cond {A = List Block} v (flat_map (blocks_in cover k) (quarters_of b)) (flat_map (going_in t segs cover s k) (quarters_of b))))
  go_apart_by k b g below true v eu ev = tt
  go_apart_by k b g below false true eu ev =
      blocks_apart_step k b g.block g.size (becomes_says n t segs cover s k b ev).all (λ r hr er u. blocks_apart k r hr er u)
  go_apart_by k b g below false false eu ev =
      let away = not_one n t segs cover s h k b (goes_on n t segs cover s h k b eu) ev in
      over_quarters n t segs s k b (going_in t segs cover s k) g.block g.size
      (λ r c hr er p.
      let f = quarter_free n t segs cover s h k b r away hr er p in
      (below r f, λ q m. let w = (go_law n t segs cover s h k r q f).0 m in (h.only q w.1.0, w.0)))

  go_apart : (k : ℕ) (b : Block) → Free k b → Apart (going_in t segs cover s k b)
  go_apart ℕ.zero b g = tt
  go_apart (ℕ.suc k) b g =
      go_apart_by k b g (λ r f. go_apart k r f) (finset.contains cover b || not (meets s (square b))) (becomes_one t segs cover s k b) refl refl

  stay_tiny_apart : (b : Block) (u : Bool) → Apart (cond {A = List Block} u (b ∷ []) [])
  stay_tiny_apart b true = single_apart b
  stay_tiny_apart b false = tt

  stay_apart_by : (k : ℕ) (b : Block) → Free (ℕ.suc k) b → ((r : Block) → Free k r → Apart (staying_in t segs cover s k r))
      → (m u v : Bool) → not (meets s (square b)) ≡ m → finset.contains cover b ≡ u → becomes_one t segs cover s k b ≡ v
      → Apart (cond {A = List Block} m []
      (cond {A = List Block} u (b ∷ []) (cond {A = List Block} v [] (flat_map (staying_in t segs cover s k) (quarters_of b)))))
  stay_apart_by k b g below true u v em eu ev = tt
  stay_apart_by k b g below false true v em eu ev = single_apart b
  stay_apart_by k b g below false false true em eu ev = tt
  stay_apart_by k b g below false false false em eu ev =
      over_quarters n t segs s k b (staying_in t segs cover s k) g.block g.size
      (λ r c hr er p.
      let f = quarter_free n t segs cover s h k b r (not_one n t segs cover s h k b eu ev) hr er p in
      (below r f, λ q m. let w = (stay_law n t segs cover s h k r q f).0 m in (h.only q w.1.0, w.0)))

  stay_apart : (k : ℕ) (b : Block) → Free k b → Apart (staying_in t segs cover s k b)
  stay_apart ℕ.zero b g = stay_tiny_apart b (finset.contains cover b && meets s (square b))
  stay_apart (ℕ.suc k) b g =
      stay_apart_by k b g (λ r f. stay_apart k r f) (not (meets s (square b))) (finset.contains cover b) (becomes_one t segs cover s k b) refl refl refl

  -- the blocks that a removal makes, takes and leaves stand once each
  pub descent_apart : Apart (coming_in t segs cover s n (whole n)) × Apart (going_in t segs cover s n (whole n)) × Apart (staying_in t segs cover s n (whole n))
  descent_apart =
      let f = all_free n t segs cover s h in (come_apart n (whole n) f, go_apart n (whole n) f, stay_apart n (whole n) f)
