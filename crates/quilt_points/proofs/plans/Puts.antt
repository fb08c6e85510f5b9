-- A point that comes into a block, and one that goes.
use Rattle.std.proofs.Common.{◌≡◌, ℕ, ◌+◌, ◌<◌, ◌≤◌, ◌^◌, true, cond, nat_lt, nat_le, List, [], ◌∷◌, map, length, Option, Some, None, refl, sym, ◌∙◌, ap, subst}
use Rattle.std.proofs.Common.{⊎_elim, arith, Contains, leb-true, le-leb, ltb-true, lt-ltb}
use Rattle.std.specs.Prelude.{IsSome, ◌==◌}
use Rattle.std.specs.FinMap as finmap
use Rattle.std.specs.List.Sorted.{IsPermutation}
use Rattle.std.proofs.lemmas.Bool.{cases_Bool, both_ways}
use Rattle.std.proofs.lemmas.Option.{none-some}
use Rattle.quilt_types.specs.declared.plane.Pixel.{Pixel}
use Rattle.quilt_types.specs.declared.plane.Block.{Block}
use Rattle.quilt_types.specs.declared.plane.Point.{Point}
use Rattle.quilt_types.specs.Plane.{in_block, is_pixel, pixel_cmp}
use Rattle.quilt_types.specs.Layers.{Points, PointMap, IsPointMap}
use Rattle.quilt_types.specs.Facts.{HoldsPoint, HoldsNoPoint, facts}
use Rattle.quilt_loc.proofs.Members.{Contains-map, Contains-map_from, Contains-filter, Contains-filter_from}
use Rattle.quilt_loc.proofs.Blocks.{Holds-from}
use Rattle.quilt_loc.proofs.PlaneOrders.{pixel_total}
use Rattle.quilt_record.specs.declared.record.Record.{Record}
use Rattle.quilt_record.specs.declared.edits.Edits.{Edits}
use Rattle.quilt_spell.proofs.Maps.{entry_from_get, get_from_entry}
use Rattle.quilt_spell.proofs.facts.FactKeys.{pixel_same}
use Rattle.quilt_point_laws.specs.Laws.{AreIn}
use Rattle.quilt_point_laws.specs.Plans.{without_it, with_it}
use Rattle.quilt_point_laws.specs.Spreading.{held_facts, spread}
use Rattle.quilt_point_laws.proofs.Counts.{Comes, put_comes}
use Rattle.quilt_point_laws.proofs.Plans.{Changes, one_more, put_valid}
use Rattle.quilt_points.specs.Layers.{point_entry, point_entries, block_record}
use Rattle.quilt_points.specs.Reads.{IsHeld}
use Rattle.quilt_point_laws.specs.Growing.{gone_of, come_of}
use Rattle.quilt_edits.specs.Edits.{CanBeEdits}
use Rattle.quilt_points.specs.Plans.{IsPointPlan}
use Rattle.quilt_points.proofs.Finds.{none_or_some}
use Rattle.quilt_points.proofs.Shapes.{block_is}
use Rattle.quilt_points.proofs.plans.Plans as plans

-- ---- one point more as the laws have it
room_test : (m capacity : ℕ) → nat_le (m + 1) capacity ≡ nat_lt m capacity
room_test m capacity =
    ⊎_elim
    (λ t. let few = ltb-true m capacity t in le-leb (m + 1) capacity (omega arith) ∙ sym t)
    (λ f. ⊎_elim (λ t. let few = leb-true (m + 1) capacity t in absurd (both_ways (nat_lt m capacity) f (lt-ltb m capacity (omega arith))))
    (λ g. g ∙ sym f) (cases_Bool (nat_le (m + 1) capacity)))
    (cases_Bool (nat_lt m capacity))

pub one_gone : (capacity : ℕ) (b : Block) (held : List (Pixel × ℕ)) (e : Pixel × ℕ) → gone_of capacity b held (e ∷ []) ≡ without_it capacity b held
one_gone capacity b held e = ap (λ t. cond t (cond (length held == 0) (HoldsNoPoint b ∷ []) []) (held_facts b held)) (room_test (length held) capacity)

pub one_come : (capacity k : ℕ) (b : Block) (held : List (Pixel × ℕ)) (p : Pixel) (label : ℕ)
    → come_of capacity k b held ((p, label) ∷ []) ≡ with_it capacity k b held p label
one_come capacity k b held p label = ap (λ t. cond t (HoldsPoint b p label ∷ []) (spread capacity k b ((p, label) ∷ held))) (room_test (length held) capacity)

-- the point at a pixel of a block is one of the block's
pub point_held : (n capacity : ℕ) (points : PointMap) (b : Block) (held : List Point) (at : Pixel) (label : ℕ) → AreIn points b (point_entries held)
    → in_block b at ≡ true → finmap.get points at ≡ Some label → (p : Point) × Contains held p × (p.at ≡ at) × (p.label ≡ label)
point_held n capacity points b held at label are on some =
    let e : Pixel × ℕ = (at, label) in
    let c =
    (are.members e).1 (Contains-filter (λ (d : Pixel × ℕ). in_block b d.0) (finmap.entries points) e
    (entry_from_get pixel_cmp pixel_total pixel_same points at label some) on) in
    let p = Contains-map_from point_entry held e c in
    (p.0, p.1, ap (λ (d : Pixel × ℕ). d.0) p.2, ap (λ (d : Pixel × ℕ). d.1) p.2)

pub held_point : (points : PointMap) (b : Block) (held : List Point) (p : Point) → AreIn points b (point_entries held) → Contains held p
    → finmap.get points p.at ≡ Some p.label
held_point points b held p are c =
    let w = Contains-filter_from (λ (d : Pixel × ℕ). in_block b d.0) (finmap.entries points) (point_entry p)
    ((are.members (point_entry p)).0 (Contains-map point_entry held p c)) in
    get_from_entry pixel_cmp pixel_total pixel_same points (point_entry p) w.0

pub is_some_from : {X : Type 0} (o : Option X) (x : X) → o ≡ Some x → IsSome o
is_some_from None x e = absurd (none-some x e)
is_some_from (Some y) x e = refl

-- no point at a pixel of the block where none of the block's is
pub free_from : (n capacity : ℕ) (points : PointMap) (b : Block) (held : List Point) (at : Pixel) → AreIn points b (point_entries held)
    → in_block b at ≡ true → ((p : Point) → Contains held p → p.at ≡ at → ⊥) → finmap.get points at ≡ None
free_from n capacity points b held at are on away =
    ⊎_elim (λ none. none) (λ s. let p = point_held n capacity points b held at s.0 are on s.1 in absurd (away p.0 p.1 p.2))
    (none_or_some (finmap.get points at))

pub taken_from : (points : PointMap) (b : Block) (held : List Point) (at : Pixel) → AreIn points b (point_entries held) → (p : Point) → Contains held p
    → p.at ≡ at → IsSome (finmap.get points at)
taken_from points b held at are p c e = is_some_from (finmap.get points at) p.label (ap (finmap.get points) (sym e) ∙ held_point points b held p are c)

pub not_some : {X : Type 0} (o : Option X) → o ≡ None → IsSome o → ⊥
not_some None e h = cc
not_some (Some x) e h = absurd (none-some x (sym e))

-- ---- a put
module _ (n capacity number : ℕ) (le : n ≤ 12) (least : 1 ≤ number) (most : number ≤ 255) (points : PointMap) (valid : IsPointMap 2 n capacity points)
    (b : Block) (held : List Point) (is : IsHeld n capacity points b held) (p : Point) (on : in_block b p.at ≡ true)
    (inside : is_pixel n p.at ≡ true) (small : p.label < 2 ^ 32)
    (free : finmap.get points p.at ≡ None) (k : ℕ) (s : b.side ≡ 2 ^ k) (gone come : List Record)
    (gone_is : gone ≡ map (block_record n capacity number) (gone_of capacity b (point_entries held) (point_entries (p ∷ []))))
    (come_is : come ≡ map (block_record n capacity number) (come_of capacity k b (point_entries held) (point_entries (p ∷ [])))) where
  after : PointMap
  after = finmap.insert points p.at p.label

  comes : Comes points (finmap.insert points p.at p.label) p.at p.label
  comes = put_comes points p.at p.label free

  changes : Changes (facts n (Points capacity points)) (facts n (Points capacity (finmap.insert points p.at p.label)))
      (without_it capacity b (point_entries held)) (with_it capacity k b (point_entries held) p.at p.label)
  changes = one_more points (finmap.insert points p.at p.label) p.at p.label comes n capacity valid.least b (block_is n capacity points b is.block)
      (Holds-from b p.at on) k s (point_entries held) is.are

  now_valid : (form : ℕ) → IsPointMap form n capacity points → IsPointMap form n capacity (finmap.insert points p.at p.label)
  now_valid form v = put_valid form n capacity points (finmap.insert points p.at p.label) p.at p.label comes v inside small

  gone_rows : map (block_record n capacity number) (without_it capacity b (point_entries held)) ≡ gone
  gone_rows = ap (map (block_record n capacity number)) (sym (one_gone capacity b (point_entries held) (point_entry p))) ∙ sym gone_is

  come_rows : map (block_record n capacity number) (with_it capacity k b (point_entries held) p.at p.label) ≡ come
  come_rows = ap (map (block_record n capacity number)) (sym (one_come capacity k b (point_entries held) p.at p.label)) ∙ sym come_is

  pub put_can : CanBeEdits gone come
  put_can =
      subst (λ (rs : List Record). CanBeEdits rs come) gone_rows
      (subst (CanBeEdits (map (block_record n capacity number) (without_it capacity b (point_entries held)))) come_rows
      (plans.can n capacity number le least most points (finmap.insert points p.at p.label) valid (now_valid 2 valid)
      (without_it capacity b (point_entries held)) (with_it capacity k b (point_entries held) p.at p.label) changes.swaps changes.gone_once changes.come_once))

  pub put_plan : (edits : Edits) → IsPermutation gone edits.remove → IsPermutation come edits.add
      → IsPointPlan n number capacity points (finmap.insert points p.at p.label) edits
  put_plan edits pr pa =
      plans.plan n capacity number le least most points (finmap.insert points p.at p.label) valid (now_valid 2 valid)
      (without_it capacity b (point_entries held)) (with_it capacity k b (point_entries held) p.at p.label) changes.swaps changes.gone_once changes.come_once
      now_valid edits
      (subst (λ (rs : List Record). IsPermutation rs edits.remove) (sym gone_rows) pr)
      (subst (λ (rs : List Record). IsPermutation rs edits.add) (sym come_rows) pa)
