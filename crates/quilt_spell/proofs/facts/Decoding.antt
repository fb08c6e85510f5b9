-- A record says which fact it is.
use Rattle.std.proofs.Common.{◌≡◌, ℕ, ◌/◌, ◌%◌, ◌<◌, ◌≤◌, ◌^◌, true, List, ◌∷◌, ◌++◌, take, drop, refl, sym, ◌∙◌, ap, ap₂, arith, Contains, nat_lt, ltb-true}
use Rattle.std.specs.Prelude.{slice_index}
use Rattle.std.specs.Int.{to_be_bytes, from_be_bytes, w16, w32}
use Rattle.std.specs.FinMap as finmap
use Rattle.std.proofs.lemmas.Bool.{and_parts}
use Rattle.std.proofs.lemmas.Nat.{from_be_bytes-to_be_bytes_2, from_be_bytes-to_be_bytes_4}
use Rattle.std.proofs.lemmas.List.Elements.{All-contains}
use Rattle.quilt_types.specs.declared.plane.Block.{Block}
use Rattle.quilt_types.specs.declared.plane.Pixel.{Pixel}
use Rattle.quilt_types.specs.declared.plane.Seg.{Seg}
use Rattle.quilt_types.specs.Plane.{side, IsBlock, is_pixel}
use Rattle.quilt_types.specs.Codes.{code, depth}
use Rattle.quilt_types.specs.Layers.{Layer, Region, Points, Lines, IsLayer, is_in_square}
use Rattle.quilt_types.specs.Facts.{Fact, IsOfKind, HasColour, HoldsPoint, HoldsNoPoint, IsSegment, IsMetBy, IsMetByNone, facts}
use Rattle.quilt_record.specs.declared.record.Record.{Record}
use Rattle.quilt_types.specs.Bytes.{filled}
use Rattle.quilt_record.specs.Records.{record_of}
use Rattle.quilt_spell.specs.LayerFacts.{LayerSays}
use Rattle.quilt_record.specs.Canonical.{FactFits}
use Rattle.quilt_loc.proofs.Blocks.{side_most}
use Rattle.quilt_spell.proofs.facts.FactKeys.{block_alone}
use Rattle.quilt_spell.proofs.facts.FactMembers.{layer_says}

two_bytes : (a b : ℕ) → a < 2 ^ 16 → b < 2 ^ 16 → to_be_bytes w16 a ≡ to_be_bytes w16 b → a ≡ b
two_bytes a b ha hb e = sym (from_be_bytes-to_be_bytes_2 a ha) ∙ ap (from_be_bytes w16) e ∙ from_be_bytes-to_be_bytes_2 b hb

pub four_bytes : (a b : ℕ) → a < 2 ^ 32 → b < 2 ^ 32 → to_be_bytes w32 a ≡ to_be_bytes w32 b → a ≡ b
four_bytes a b ha hb e = sym (from_be_bytes-to_be_bytes_4 a ha) ∙ ap (from_be_bytes w32) e ∙ from_be_bytes-to_be_bytes_4 b hb

abbrev point_value : Pixel → ℕ → List ℕ
point_value p label = filled 16 (1 ∷ to_be_bytes w16 p.x ++ to_be_bytes w16 p.y ++ to_be_bytes w32 label)

abbrev seg_value : Seg → List ℕ
seg_value s = filled 16 (to_be_bytes w16 s.x1 ++ to_be_bytes w16 s.y1 ++ to_be_bytes w16 s.x2 ++ to_be_bytes w16 s.y2)

point_x : (p : Pixel) (label : ℕ) → take 2 (drop 1 (point_value p label)) ≡ to_be_bytes w16 p.x
point_x p label = refl

point_y : (p : Pixel) (label : ℕ) → take 2 (drop 3 (point_value p label)) ≡ to_be_bytes w16 p.y
point_y p label = refl

point_label : (p : Pixel) (label : ℕ) → take 4 (drop 5 (point_value p label)) ≡ to_be_bytes w32 label
point_label p label = refl

seg_x1 : (s : Seg) → take 2 (seg_value s) ≡ to_be_bytes w16 s.x1
seg_x1 s = refl

seg_y1 : (s : Seg) → take 2 (drop 2 (seg_value s)) ≡ to_be_bytes w16 s.y1
seg_y1 s = refl

seg_x2 : (s : Seg) → take 2 (drop 4 (seg_value s)) ≡ to_be_bytes w16 s.x2
seg_x2 s = refl

seg_y2 : (s : Seg) → take 2 (drop 6 (seg_value s)) ≡ to_be_bytes w16 s.y2
seg_y2 s = refl

colour_is : (p q : ℕ) → p % 256 ≡ q % 256 → p / 256 ≡ q / 256 → p ≡ q
colour_is p q e f = omega arith

point_is : (p q : Pixel) (l m : ℕ) → p.x < 2 ^ 16 → p.y < 2 ^ 16 → l < 2 ^ 32 → q.x < 2 ^ 16 → q.y < 2 ^ 16 → m < 2 ^ 32
    → point_value p l ≡ point_value q m → (p ≡ q) × (l ≡ m)
point_is p q l m px py pl qx qy ql e =
    let x = two_bytes p.x q.x px qx (sym (point_x p l) ∙ ap (λ (v : List ℕ). take 2 (drop 1 v)) e ∙ point_x q m) in
    let y = two_bytes p.y q.y py qy (sym (point_y p l) ∙ ap (λ (v : List ℕ). take 2 (drop 3 v)) e ∙ point_y q m) in
    let z = four_bytes l m pl ql (sym (point_label p l) ∙ ap (λ (v : List ℕ). take 4 (drop 5 v)) e ∙ point_label q m) in
    ((λ i. record { x = x i; y = y i }), z)

seg_is : (s t : Seg) → s.x1 < 2 ^ 16 → s.y1 < 2 ^ 16 → s.x2 < 2 ^ 16 → s.y2 < 2 ^ 16 → t.x1 < 2 ^ 16 → t.y1 < 2 ^ 16 → t.x2 < 2 ^ 16 → t.y2 < 2 ^ 16
    → seg_value s ≡ seg_value t → s ≡ t
seg_is s t a b c d a' b' c' d' e =
    let x1 = two_bytes s.x1 t.x1 a a' (sym (seg_x1 s) ∙ ap (λ (v : List ℕ). take 2 v) e ∙ seg_x1 t) in
    let y1 = two_bytes s.y1 t.y1 b b' (sym (seg_y1 s) ∙ ap (λ (v : List ℕ). take 2 (drop 2 v)) e ∙ seg_y1 t) in
    let x2 = two_bytes s.x2 t.x2 c c' (sym (seg_x2 s) ∙ ap (λ (v : List ℕ). take 2 (drop 4 v)) e ∙ seg_x2 t) in
    let y2 = two_bytes s.y2 t.y2 d d' (sym (seg_y2 s) ∙ ap (λ (v : List ℕ). take 2 (drop 6 v)) e ∙ seg_y2 t) in
    λ i. record { x1 = x1 i; y1 = y1 i; x2 = x2 i; y2 = y2 i }

first_byte : Record → ℕ
first_byte r = slice_index r.value 0

second_byte : Record → ℕ
second_byte r = slice_index r.value 1

module _ (n : ℕ) (le : n ≤ 12) where
  small : (x : ℕ) → nat_lt x (side n) ≡ true → x < 2 ^ 16
  small x h = let m = side_most n le in let l = ltb-true x (side n) h in omega arith

  small_pixel : (p : Pixel) → is_pixel n p ≡ true → (p.x < 2 ^ 16) × (p.y < 2 ^ 16)
  small_pixel p h = let both = and_parts (nat_lt p.x (side n)) (nat_lt p.y (side n)) h in (small p.x both.0, small p.y both.1)

  same_place : (r s : Record) (b d : Block) → r ≡ s → r.key.code ≡ code b.x b.y → s.key.code ≡ code d.x d.y → r.key.depth ≡ depth n b
      → s.key.depth ≡ depth n d → IsBlock n b → IsBlock n d → b ≡ d
  same_place r s b d e cb cd db dd hb hd =
      block_alone n le b d hb hd (sym cb ∙ ap (λ (q : Record). q.key.code) e ∙ cd) (sym db ∙ ap (λ (q : Record). q.key.depth) e ∙ dd)

  -- two facts with one record are one, but for those that tell of kinds
  pub fact_of : (c d k : ℕ) (a b : List ℕ) (f g : Fact) → FactFits n f → FactFits n g → 1 ≤ (record_of n c a k f).key.part
      → record_of n c a k f ≡ record_of n d b k g → f ≡ g
  unfolding first_byte second_byte
  fact_of c d k a b (IsOfKind i j) g u v h e = absurd (omega arith)
  fact_of c d k a b (HasColour x p) (HasColour y q) u v h e =
      ap₂ HasColour (same_place _ _ x y e refl refl refl refl u v) (colour_is p q (ap first_byte e) (ap second_byte e))
  fact_of c d k a b (HoldsPoint x p l) (HoldsPoint y q m) u v h e =
      let at = same_place _ _ x y e refl refl refl refl u.0 v.0 in
      let first = small_pixel p u.1 in
      let second = small_pixel q v.1 in
      let both = point_is p q l m first.0 first.1 u.2 second.0 second.1 v.2 (ap (λ (r : Record). r.value) e) in
      let w = both.0 in
      let z = both.1 in
      λ i. HoldsPoint (at i) (w i) (z i)
  fact_of c d k a b (HoldsPoint x p l) (HoldsNoPoint y) u v h e = absurd (let z : 1 ≡ 0 = ap first_byte e in omega arith)
  fact_of c d k a b (HoldsNoPoint y) (HoldsPoint x p l) u v h e = absurd (let z : 0 ≡ 1 = ap first_byte e in omega arith)
  fact_of c d k a b (HoldsNoPoint x) (HoldsNoPoint y) u v h e = ap HoldsNoPoint (same_place _ _ x y e refl refl refl refl u v)
  fact_of c d k a b (IsSegment i s) (IsSegment j t) u v h e =
      ap₂ IsSegment (ap (λ (r : Record). r.key.item) e) (seg_is s t u.1 u.2 u.3 u.4 v.1 v.2 v.3 v.4 (ap (λ (r : Record). r.value) e))
  fact_of c d k a b (IsMetBy x i) (IsMetBy y j) u v h e =
      ap₂ IsMetBy (same_place _ _ x y e refl refl refl refl u.0 v.0) (ap (λ (r : Record). r.key.item) e)
  fact_of c d k a b (IsMetBy x i) (IsMetByNone y) u v h e = absurd (let z : 1 ≡ 0 = ap first_byte e in omega arith)
  fact_of c d k a b (IsMetByNone x) (IsMetBy y j) u v h e = absurd (let z : 0 ≡ 1 = ap first_byte e in omega arith)
  fact_of c d k a b (IsMetByNone x) (IsMetByNone y) u v h e = ap IsMetByNone (same_place _ _ x y e refl refl refl refl u v)
  fact_of c d k a b f g u v h e =
      let p : (record_of n c a k f).key.part ≡ (record_of n d b k g).key.part = ap (λ (r : Record). r.key.part) e in
      absurd (omega arith)

  -- the facts of a layer fit
  pub facts_fit : (form : ℕ) (l : Layer) → IsLayer form n l → (f : Fact) → Contains (facts n l) f → FactFits n f
  facts_fit form l h f c = fit l h f c (layer_says form n l h f c)
    where
      fit : (l : Layer) → IsLayer form n l → (f : Fact) → Contains (facts n l) f → LayerSays n l f → FactFits n f
      fit l h (IsOfKind i j) c w = tt
      fit (Region grid) h (HasColour b d) c w = w.0
      fit (Region grid) h f c w = absurd w
      fit (Points capacity points) h (HoldsPoint b p label) c w = (
        w.0,
        All-contains (λ (e : Pixel × ℕ). is_pixel n e.0 ≡ true) (finmap.entries points) (p, label) h.inside w.2,
        All-contains
            (λ (e : Pixel × ℕ). e.1 < 2 ^ 32) (finmap.entries points) (p, label) h.labels w.2,
      )
      fit (Points capacity points) h (HoldsNoPoint b) c w = w.0
      fit (Points capacity points) h f c w = absurd w
      fit (Lines threshold segs cover) h (IsSegment id s) c w =
          let first : Pixel = record { x = s.x1; y = s.y1 } in
          let last : Pixel = record { x = s.x2; y = s.y2 } in
          let both = and_parts (is_pixel n first) (is_pixel n last)
          (All-contains (λ (e : ℕ × Seg). is_in_square n e.1 ≡ true) (finmap.entries segs) (id, s) h.inside w) in
          let a = and_parts (nat_lt s.x1 (side n)) (nat_lt s.y1 (side n)) both.0 in
          let b = and_parts (nat_lt s.x2 (side n)) (nat_lt s.y2 (side n)) both.1 in
          (All-contains (λ (e : ℕ × Seg). e.0 < 2 ^ 32) (finmap.entries segs) (id, s) h.ids w, small s.x1 a.0, small s.y1 a.1, small s.x2 b.0, small s.y2 b.1)
      fit (Lines threshold segs cover) h (IsMetBy b id) c w =
          (w.0, All-contains (λ (e : ℕ × Seg). e.0 < 2 ^ 32) (finmap.entries segs) (id, w.1.0) h.ids w.1.1)
      fit (Lines threshold segs cover) h (IsMetByNone b) c w = w.0
      fit (Lines threshold segs cover) h f c w = absurd w
