-- A point that goes.
use Rattle.std.proofs.Common.{◌≡◌, ℕ, ◌^◌, ◌≤◌, Bool, true, false, cond, not, List, [], ◌∷◌, map, Option, Some, None, refl, sym, ◌∙◌, ap, subst, ⊎_elim, inl}
use Rattle.std.proofs.Common.{Contains, filter}
use Rattle.std.specs.Prelude.{IsNone}
use Rattle.std.specs.FinMap as finmap
use Rattle.std.specs.List.Sorted.{IsPermutation}
use Rattle.std.proofs.lemmas.Option.{none-some}
use Rattle.quilt_types.specs.declared.plane.Pixel.{Pixel}
use Rattle.quilt_types.specs.declared.plane.Block.{Block}
use Rattle.quilt_types.specs.declared.plane.Point.{Point}
use Rattle.quilt_types.specs.Plane.{in_block}
use Rattle.quilt_types.specs.Layers.{Points, PointMap, IsPointMap}
use Rattle.quilt_types.specs.Quadtrees.{point_blocks}
use Rattle.quilt_types.specs.Facts.{facts, same_pixel}
use Rattle.quilt_loc.proofs.Members.{Contains-filter, Contains-filter_from}
use Rattle.quilt_loc.proofs.Blocks.{Holds-from}
use Rattle.quilt_record.specs.declared.record.Record.{Record}
use Rattle.quilt_record.specs.declared.edits.Edits.{Edits}
use Rattle.quilt_blocks.proofs.Maximal.{Within-self}
use Rattle.quilt_spell.proofs.Lists.{Apart-filter}
use Rattle.quilt_point_laws.specs.Laws.{AreIn}
use Rattle.quilt_point_laws.specs.Plans.{without_it, with_it}
use Rattle.quilt_point_laws.proofs.Counts.{Comes, del_comes, few_narrows}
use Rattle.quilt_point_laws.proofs.Plans.{Changes, one_less, del_valid}
use Rattle.quilt_points.specs.Layers.{point_entry, point_entries, block_record}
use Rattle.quilt_points.specs.Reads.{IsHeld}
use Rattle.quilt_points.specs.Climbing.{IsOnWay}
use Rattle.quilt_point_laws.specs.Growing.{gone_of, come_of}
use Rattle.quilt_edits.specs.Edits.{CanBeEdits}
use Rattle.quilt_points.specs.Plans.{IsPointPlan}
use Rattle.quilt_points.proofs.Finds.{same_pixel_is, same_pixel_self}
use Rattle.quilt_points.proofs.Shapes.{block_is}
use Rattle.quilt_points.proofs.plans.Puts.{one_gone, one_come}
use Rattle.quilt_points.proofs.Ways.{way_holds}
use Rattle.quilt_points.proofs.plans.Plans as plans

-- ---- the other points of a block
others_kept : (p : Point) (ps : List Point) (rest : List (Pixel × ℕ)) (t : Bool) → point_entries ps ≡ rest
    → point_entries (cond t (p ∷ ps) ps) ≡ cond t (point_entry p ∷ rest) rest
others_kept p ps rest true e = ap (λ l. point_entry p ∷ l) e
others_kept p ps rest false e = e

entries-others : (at : Pixel) (ps : List Point) → point_entries (filter (λ p. not (same_pixel p.at at)) ps) ≡ filter (λ e. not (same_pixel e.0 at)) (point_entries ps)
entries-others at [] = refl
entries-others at (p ∷ ps) = others_kept p (filter (λ (q : Point). not (same_pixel q.at at)) ps)
    (filter (λ (e : Pixel × ℕ). not (same_pixel e.0 at)) (point_entries ps)) (not (same_pixel p.at at)) (entries-others at ps)

not_true : (t : Bool) → not t ≡ true → t ≡ true → ⊥
not_true true h k = cc
not_true false h k = cc

not_from : (t : Bool) → (t ≡ true → ⊥) → not t ≡ true
not_from true f = absurd (f refl)
not_from false f = refl

module _ (points : PointMap) (at : Pixel) (label : ℕ) (some : finmap.get points at ≡ Some label) where
  comes : Comes (finmap.remove points at) points at label
  comes = del_comes points at label some

  pub others_are : (b : Block) (held : List Point) → AreIn points b (point_entries held)
      → AreIn (finmap.remove points at) b (point_entries (filter (λ p. not (same_pixel p.at at)) held))
  others_are b held are =
      let away : Pixel × ℕ → Bool = λ e. not (same_pixel e.0 at) in
      let test : Pixel × ℕ → Bool = λ e. in_block b e.0 in
      subst (AreIn (finmap.remove points at) b) (sym (entries-others at held)) (record {
        once = Apart-filter away (point_entries held) are.once;
        members = λ e. (
          λ c.
              let w = Contains-filter_from away (point_entries held) e c in
              let k = Contains-filter_from test (finmap.entries points) e ((are.members e).0 w.0) in
              ⊎_elim (λ o. Contains-filter test (finmap.entries (finmap.remove points at)) e o k.1)
              (λ is. absurd (not_true (same_pixel e.0 at) w.1 (same_pixel_self e.0 at (ap (λ (z : Pixel × ℕ). z.0) is))))
              ((comes.members e).0 k.0),
          λ c.
              let k = Contains-filter_from test (finmap.entries (finmap.remove points at)) e c in
              Contains-filter away (point_entries held) e ((are.members e).1 (Contains-filter test (finmap.entries points) e ((comes.members e).1 (inl k.0)) k.1))
              (not_from (same_pixel e.0 at)
              (λ t. comes.fresh e.1 (subst (λ (z : Pixel). Contains (finmap.entries (finmap.remove points at)) (z, e.1)) (same_pixel_is e.0 at t) k.0))),
        );
      })

  pub way_first : (n capacity : ℕ) (b : Block) (held : List Point) → IsHeld n capacity points b held → in_block b at ≡ true → (rest : List Point)
      → rest ≡ filter (λ p. not (same_pixel p.at at)) held → IsOnWay n capacity points at b rest
  way_first n capacity b held is on rest are =
      let g = block_is n capacity points b is.block in
      record {
        base = b;
        base_block = is.block;
        base_holds = Holds-from b at on;
        within = Within-self b;
        block = g.block;
        few = (few_narrows (finmap.remove points at) points at label comes capacity).less b g.passes;
        are = subst (λ (l : List Point). AreIn (finmap.remove points at) b (point_entries l)) (sym are) (others_are b held is.are);
      }

-- ---- a del
module _ (n capacity number : ℕ) (le : n ≤ 12) (least : 1 ≤ number) (most : number ≤ 255) (points : PointMap) (valid : IsPointMap 2 n capacity points)
    (b : Block) (held : List Point) (p : Point) (some : finmap.get points p.at ≡ Some p.label) (way : IsOnWay n capacity points p.at b held)
    (mb : Contains (point_blocks n capacity (finmap.remove points p.at)) b) (k : ℕ) (s : b.side ≡ 2 ^ k) (gone come : List Record)
    (come_is : come ≡ map (block_record n capacity number) (gone_of capacity b (point_entries held) (point_entries (p ∷ []))))
    (gone_is : gone ≡ map (block_record n capacity number) (come_of capacity k b (point_entries held) (point_entries (p ∷ [])))) where
  goes : Comes (finmap.remove points p.at) points p.at p.label
  goes = del_comes points p.at p.label some

  changes : Changes (facts n (Points capacity points)) (facts n (Points capacity (finmap.remove points p.at)))
      (with_it capacity k b (point_entries held) p.at p.label) (without_it capacity b (point_entries held))
  changes = one_less (finmap.remove points p.at) points p.at p.label goes n capacity valid.least b
      (block_is n capacity (finmap.remove points p.at) b mb) (way_holds n capacity points p.at p.label some b held way) k s (point_entries held) way.are

  now_valid : (form : ℕ) → IsPointMap form n capacity points → IsPointMap form n capacity (finmap.remove points p.at)
  now_valid form v = del_valid form n capacity (finmap.remove points p.at) points p.at p.label goes v

  come_rows : map (block_record n capacity number) (without_it capacity b (point_entries held)) ≡ come
  come_rows = ap (map (block_record n capacity number)) (sym (one_gone capacity b (point_entries held) (point_entry p))) ∙ sym come_is

  gone_rows : map (block_record n capacity number) (with_it capacity k b (point_entries held) p.at p.label) ≡ gone
  gone_rows = ap (map (block_record n capacity number)) (sym (one_come capacity k b (point_entries held) p.at p.label)) ∙ sym gone_is

  pub del_can : CanBeEdits gone come
  del_can =
      subst (λ (rs : List Record). CanBeEdits rs come) gone_rows
      (subst (CanBeEdits (map (block_record n capacity number) (with_it capacity k b (point_entries held) p.at p.label))) come_rows
      (plans.can n capacity number le least most points (finmap.remove points p.at) valid (now_valid 2 valid)
      (with_it capacity k b (point_entries held) p.at p.label) (without_it capacity b (point_entries held)) changes.swaps changes.gone_once changes.come_once))

  pub del_plan : (edits : Edits) → IsPermutation gone edits.remove → IsPermutation come edits.add
      → IsPointPlan n number capacity points (finmap.remove points p.at) edits
  del_plan edits pr pa =
      plans.plan n capacity number le least most points (finmap.remove points p.at) valid (now_valid 2 valid)
      (with_it capacity k b (point_entries held) p.at p.label) (without_it capacity b (point_entries held)) changes.swaps changes.gone_once changes.come_once
      now_valid edits
      (subst (λ (rs : List Record). IsPermutation rs edits.remove) (sym gone_rows) pr)
      (subst (λ (rs : List Record). IsPermutation rs edits.add) (sym come_rows) pa)

pub is_none_from : {X : Type 0} (o : Option X) → o ≡ None → IsNone o
is_none_from None e = refl
is_none_from (Some x) e = absurd (none-some x (sym e))

pub none_is : {X : Type 0} (o : Option X) → IsNone o → o ≡ None
none_is None h = refl
none_is (Some x) h = cc
