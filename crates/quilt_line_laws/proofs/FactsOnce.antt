-- Of the facts that come and go with an edit none stands twice.
use Rattle.std.proofs.Common.{◌≡◌, ℕ, Bool, true, false, cond, List, [], ◌∷◌, map, flat_map, eqb, refl, sym, ◌∙◌, subst, ⊎_elim, Contains}
use Rattle.std.specs.FinMap as finmap
use Rattle.std.proofs.lemmas.List.Elements.{Contains-append_cases}
use Rattle.quilt_types.specs.Sets as finset
use Rattle.quilt_types.specs.declared.plane.Block.{Block}
use Rattle.quilt_types.specs.declared.plane.Seg.{Seg}
use Rattle.quilt_types.specs.Plane.{corner, quarters_of, whole, IsBlock, Holds}
use Rattle.quilt_types.specs.Layers.{SegMap, BlockSet}
use Rattle.quilt_types.specs.Quadtrees.{is_split, segs_meeting, after_remove}
use Rattle.quilt_types.specs.Facts.{Fact, IsOfKind, HasColour, HoldsPoint, HoldsNoPoint, IsSegment, IsMetBy, IsMetByNone, line_facts}
use Rattle.quilt_spell.specs.Apart.{Apart}
use Rattle.quilt_loc.proofs.Members.{Contains-nil, Contains-cons_cases, Contains-map_from, Contains-flat_map_from}
use Rattle.quilt_spell.proofs.Lists.{Apart-append, Apart-map, Apart-flat_map}
use Rattle.quilt_loc.proofs.Nesting.{Within-holds, Holds-corner}
use Rattle.quilt_loc.proofs.Quartered.{quarters_are}
use Rattle.quilt_line_laws.proofs.Merges.{IsBlockCover}
use Rattle.quilt_line_laws.specs.Lines.{IsOnBlock, none_on, IsMetList, added_on, removed_on, facts_added, facts_removed}
use Rattle.quilt_line_laws.specs.Merging.{IsChange, coming_in, going_in, staying_in}
use Rattle.quilt_line_laws.specs.Removing.{facts_back, facts_gone}
use Rattle.quilt_line_laws.specs.Once.{AddOnceLaw, RemoveOnceLaw}
use Rattle.quilt_line_laws.proofs.LineFacts.{on_block, none_on_from}
use Rattle.quilt_line_laws.proofs.Cutting.{cut_says}
use Rattle.quilt_line_laws.proofs.Adding.{cover_of}
use Rattle.quilt_line_laws.proofs.Removing.{descent_change}
use Rattle.quilt_line_laws.proofs.NoneTwice.{line_facts_apart, facts_on_apart, quarters_apart, descent_apart}

-- the fact is on the block
abbrev IsOf : Block → Fact → Type 0
IsOf b (IsMetBy c id) = b ≡ c
IsOf b (IsMetByNone c) = b ≡ c
IsOf b (IsOfKind kind number) = ⊥
IsOf b (IsSegment id s) = ⊥
IsOf b (HasColour c colour) = ⊥
IsOf b (HoldsPoint c p label) = ⊥
IsOf b (HoldsNoPoint c) = ⊥

is_of : (m : SegMap) (b : Block) (f : Fact) → IsOnBlock m b f → IsOf b f
is_of m b (IsMetBy c id) h = h.0
is_of m b (IsMetByNone c) h = h.0
is_of m b (IsOfKind kind number) h = absurd h
is_of m b (IsSegment id s) h = absurd h
is_of m b (HasColour c colour) h = absurd h
is_of m b (HoldsPoint c p label) h = absurd h
is_of m b (HoldsNoPoint c) h = absurd h

one_block : (b c : Block) (f : Fact) → IsOf b f → IsOf c f → b ≡ c
one_block b c (IsMetBy d id) x y = x ∙ sym y
one_block b c (IsMetByNone d) x y = x ∙ sym y
one_block b c (IsOfKind kind number) x y = absurd x
one_block b c (IsSegment id s) x y = absurd x
one_block b c (HasColour d colour) x y = absurd x
one_block b c (HoldsPoint d p label) x y = absurd x
one_block b c (HoldsNoPoint d) x y = absurd x

none_by_apart : (u : Bool) (b : Block) → Apart (cond {A = List Fact} u (IsMetByNone b ∷ []) [])
none_by_apart true b = (λ c. Contains-nil (IsMetByNone b) c, tt)
none_by_apart false b = tt

none_apart : (segs : SegMap) (b : Block) → Apart (none_on segs b)
none_apart segs b = none_by_apart (eqb (segs_meeting segs b) 0) b

none_of : (segs : SegMap) (b : Block) (f : Fact) → Contains (none_on segs b) f → IsOf b f
none_of segs b f c = subst (IsOf b) (none_on_from segs b f c).0 refl

line_of : (segs : SegMap) (b : Block) (f : Fact) → Contains (line_facts segs b) f → IsOf b f
line_of segs b f c = is_of segs b f (on_block segs b f c)

module _ (n t : ℕ) (segs : SegMap) (cover : BlockSet) (id : ℕ) (s : Seg) (h : IsBlockCover n cover) (met : List Block) (list : IsMetList cover s met) where
  abbrev now : SegMap
  now = finmap.insert segs id s

  in_cover : (b : Block) → Contains met b → Contains (finset.items cover) b
  in_cover b c = ((list.are b).0 c).0

  -- where a fact that comes is
  place : (b : Block) (f : Fact) → Contains (finset.items cover) b → (u : Bool) → is_split t now s b ≡ u
      → Contains (cond {A = List Fact} u (flat_map (line_facts now) (quarters_of b)) (IsMetBy b id ∷ [])) f → (q : Block) × IsOf q f × IsBlock n q
      × Holds b (corner q)
  place b f cb true e c =
      let q = Contains-flat_map_from (line_facts now) (quarters_of b) f c in
      let i = quarters_are n b q.0 (h.only b cb) (cut_says t now s b e).wide q.1 in
      (q.0, line_of now q.0 f q.2, i.block, Within-holds q.0 b (corner q.0) i.within (Holds-corner n q.0 i.block))
  place b f cb false e c =
      let same = ⊎_elim (λ w. w) (λ d. absurd (Contains-nil f d)) (Contains-cons_cases (IsMetBy b id) [] f c) in
      (b, subst (IsOf b) same refl, h.only b cb, Holds-corner n b (h.only b cb))

  add_each : (b : Block) → Contains (finset.items cover) b → (u : Bool) → is_split t now s b ≡ u
      → Apart (cond {A = List Fact} u (flat_map (line_facts now) (quarters_of b)) (IsMetBy b id ∷ []))
  add_each b cb true e = facts_on_apart now (quarters_of b) (quarters_apart n b (h.only b cb) (cut_says t now s b e).wide)
  add_each b cb false e = (λ c. Contains-nil (IsMetBy b id) c, tt)

  added_apart : Apart (facts_added t segs id s met)
  added_apart = (
    λ c.
        let b = Contains-flat_map_from (added_on t now id s) met (IsSegment id s) c in
        let p = place b.0 (IsSegment id s) (in_cover b.0 b.1) (is_split t now s b.0) refl b.2 in
        absurd p.1,
    Apart-flat_map (added_on t now id s) met list.once (λ b c. add_each b (in_cover b c) (is_split t now s b) refl)
        (λ a b f ca cb x y.
        let p = place a f (in_cover a ca) (is_split t now s a) refl x in
        let q = place b f (in_cover b cb) (is_split t now s b) refl y in
        let same = one_block p.0 q.0 f p.1 q.1 in
        h.covers.one (corner p.0) p.2.in_x p.2.in_y a b (in_cover a ca) p.3 (in_cover b cb) (subst (λ (z : Block). Holds b (corner z)) (sym same) q.3)),
  )

  remove_each : (b : Block) (u : Bool) → Apart (cond {A = List Fact} u (line_facts segs b) (none_on segs b))
  remove_each b true = line_facts_apart segs b
  remove_each b false = none_apart segs b

  removed_of : (b : Block) (f : Fact) (u : Bool) → Contains (cond {A = List Fact} u (line_facts segs b) (none_on segs b)) f → IsOf b f
  removed_of b f true c = line_of segs b f c
  removed_of b f false c = none_of segs b f c

  removed_apart : Apart (facts_removed t segs id s met)
  removed_apart =
      Apart-flat_map (removed_on t segs now s) met list.once (λ b _. remove_each b (is_split t now s b))
      (λ a b f _ _ x y. one_block a b f (removed_of a f (is_split t now s a) x) (removed_of b f (is_split t now s b) y))

pub add_once_law : AddOnceLaw
add_once_law n t segs cover id s met h new list =
    let k = cover_of n t segs cover h in (added_apart n t segs cover id s k met list, removed_apart n t segs cover id s k met list)

-- ---- a removal
abbrev lost_meeting : ℕ → Block → Fact
lost_meeting id b = IsMetBy b id

lost_block : (id : ℕ) (a b : Block) → IsMetBy a id ≡ IsMetBy b id → a ≡ b
lost_block id a b e = one_block a b (IsMetBy b id) (subst (IsOf a) e refl) refl

module _ (segs : SegMap) (id : ℕ) (s : Seg) (cover later : BlockSet) (coming going staying : List Block)
    (change : IsChange cover later s coming going staying) where
  abbrev rest : SegMap
  rest = finmap.remove segs id

  back_apart : Apart coming → Apart staying → Apart (facts_back segs id coming staying)
  back_apart hc hs =
      Apart-append (flat_map (line_facts rest) coming) (flat_map (none_on rest) staying) (facts_on_apart rest coming hc)
      (Apart-flat_map (none_on rest) staying hs (λ b _. none_apart rest b) (λ a b f _ _ x y. one_block a b f (none_of rest a f x) (none_of rest b f y)))
      (λ f c d.
      let a = Contains-flat_map_from (line_facts rest) coming f c in
      let b = Contains-flat_map_from (none_on rest) staying f d in
      let same = one_block a.0 b.0 f (line_of rest a.0 f a.2) (none_of rest b.0 f b.2) in
      ((change.come a.0).0 a.1).1 (subst (Contains (finset.items cover)) (sym same) ((change.stay b.0).0 b.1).0))

  gone_apart : Apart going → Apart staying → Apart (facts_gone segs id s going staying)
  gone_apart hg hs = (
    λ c.
        ⊎_elim
        (λ d. let a = Contains-flat_map_from (line_facts segs) going (IsSegment id s) d in line_of segs a.0 (IsSegment id s) a.2)
        (λ d. let b = Contains-map_from (lost_meeting id) staying (IsSegment id s) d in subst (IsOf b.0) b.2 refl)
        (Contains-append_cases (flat_map (line_facts segs) going) (map (lost_meeting id) staying) (IsSegment id s) c),
    Apart-append (flat_map (line_facts segs) going) (map (lost_meeting id) staying) (facts_on_apart segs going hg)
        (Apart-map (lost_meeting id) staying (λ a b _ _ e. lost_block id a b e) hs)
        (λ f c d.
        let a = Contains-flat_map_from (line_facts segs) going f c in
        let b = Contains-map_from (lost_meeting id) staying f d in
        let same = one_block a.0 b.0 f (line_of segs a.0 f a.2) (subst (IsOf b.0) b.2 refl) in
        ((change.go a.0).0 a.1).1 (subst (Contains (finset.items later)) (sym same) ((change.stay b.0).0 b.1).1)),
  )

pub remove_once_law : RemoveOnceLaw
remove_once_law n t segs cover id s h had =
    let m = finmap.remove segs id in
    let k = cover_of n t segs cover h in
    let later' = after_remove n t m cover s in
    let co = coming_in t m cover s n (whole n) in
    let go = going_in t m cover s n (whole n) in
    let st = staying_in t m cover s n (whole n) in
    let change = descent_change n t m cover s k in
    let once = descent_apart n t m cover s k in
    (back_apart segs id s cover later' co go st change once.0 once.2, gone_apart segs id s cover later' co go st change once.1 once.2)
