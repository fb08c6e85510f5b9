-- Points that come at once into a point layer, block by block, and what they make of the layer.
use Rattle.std.proofs.Common.{◌≡◌, ◌↔◌, ◌⊎◌, ℕ, zero, suc, ◌+◌, ◌<◌, ◌≤◌, ◌^◌, true, false, List, [], ◌∷◌, ◌++◌, map, take, drop, length, get_or, flat_map, None, refl}
use Rattle.std.proofs.Common.{sym, ◌∙◌, ap, subst, ⊎_elim, inl, inr, arith, Contains, All}
use Rattle.std.specs.FinMap as finmap
use Rattle.std.specs.List.Sorted.{IsPermutation}
use Rattle.std.proofs.lemmas.Bool.{cases_lt, both_ways}
use Rattle.std.proofs.lemmas.List.{map-append, append-nil}
use Rattle.std.proofs.lemmas.Grind.{flat_map-append}
use Rattle.std.proofs.lemmas.List.Elements.{Contains-append_left, Contains-append_right, Contains-append_cases, All-weaker}
use Rattle.std.proofs.lemmas.List.Sorted.{IsPermutation-map, IsPermutation-sym}
use Rattle.quilt_types.specs.declared.plane.Pixel.{Pixel}
use Rattle.quilt_types.specs.declared.plane.Block.{Block}
use Rattle.quilt_types.specs.declared.plane.Point.{Point}
use Rattle.quilt_types.specs.Plane.{in_block, is_pixel, pixel_cmp, IsBlock}
use Rattle.quilt_types.specs.Layers.{Points, PointMap, IsPointMap}
use Rattle.quilt_types.specs.Quadtrees.{holds_few}
use Rattle.quilt_types.specs.Facts.{Fact, facts}
use Rattle.quilt_loc.specs.Codes.{Rises, code_at, code_from}
use Rattle.quilt_loc.proofs.Members.{Contains-nil, Contains-here, Contains-there, Contains-cons_cases, Contains-map, Contains-map_from}
use Rattle.quilt_loc.proofs.Blocks.{Holds-from, side_most}
use Rattle.quilt_loc.proofs.Intervals.{code_held}
use Rattle.quilt_loc.proofs.PlaneOrders.{pixel_total}
use Rattle.quilt_record.specs.declared.record.Record.{Record}
use Rattle.quilt_record.specs.declared.edits.Edits.{Edits}
use Rattle.quilt_spell.specs.Apart.{Apart}
use Rattle.quilt_spell.proofs.Lists.{Apart-append}
use Rattle.quilt_spell.proofs.Maps.{get_others}
use Rattle.quilt_spell.proofs.facts.FactKeys.{pixel_same}
use Rattle.quilt_edits.specs.Edits.{CanBeEdits}
use Rattle.quilt_edits.proofs.Lists.{member_at, take_next, taken_there}
use Rattle.quilt_edits.proofs.Ascents.{permuted, Apart-permuted}
use Rattle.quilt_point_laws.specs.Growing.{Gain, gone_in, come_in, IsGain}
use Rattle.quilt_point_laws.proofs.Narrowing.{one_maximal}
use Rattle.quilt_point_laws.proofs.Counts.{put_comes, few_down}
use Rattle.quilt_point_laws.proofs.Cuts.{Apart-one}
use Rattle.quilt_point_laws.proofs.Plans.{Changes, put_valid}
use Rattle.quilt_point_laws.proofs.Gains.{Gains, all_changed}
use Rattle.quilt_points.specs.Layers.{point_entry, point_entries, block_record}
use Rattle.quilt_points.specs.Plans.{IsPointPlan, AreNew, points_with}
use Rattle.quilt_points.specs.Coding.{by_code, AreInCodeOrder}
use Rattle.quilt_points.specs.Scattering.{IsTaken, IsGrown}
use Rattle.quilt_points.proofs.Finds.{pixel_in, pixel_from}
use Rattle.quilt_points.proofs.Shapes.{block_is}
use Rattle.quilt_points.proofs.Codings.{dropped_there, first_least, pixels_apart}
use Rattle.quilt_points.proofs.plans.Parts.{outside}
use Rattle.quilt_points.proofs.plans.Plans as plans

-- ---- the points of one block
-- those of them that are in the block around the first
module _ (n : ℕ) (le : n ≤ 12) (points : List Point) (up : Rises by_code points) (pixels : All (λ p. is_pixel n p.at ≡ true) points) (b : Block)
    (hb : IsBlock n b) (d : Point) (on : in_block b (get_or points 0 d).at ≡ true) where
  -- none is before the block
  from_block : All (λ p. code_from b ≤ code_at p.at) points
  from_block = λ k e lt.
      let held = (code_held n b (get_or points 0 d).at hb le (Holds-from b (get_or points 0 d).at on)).0 in
      let least = first_least points d (get_or points k e) up (member_at points k e lt) in
      omega arith

  pub block_order : AreInCodeOrder b points
  block_order = record { rises = up; least = from_block }

  module _ (count : ℕ) (behind : count < length points → (e : Point) → in_block b (get_or points count e).at ≡ false) where
    pub some_taken : 0 < length points → 0 < count
    some_taken some =
        ⊎_elim (λ lt. lt) (λ none. let zero_is : count ≡ 0 = omega arith in
        absurd (both_ways (in_block b (get_or points count d).at) (behind (omega arith) d) (ap (λ k. in_block b (get_or points k d).at) zero_is ∙ on)))
        (cases_lt 0 count)

    pub left_outside : (p : Point) → Contains (drop count points) p → in_block b p.at ≡ true → ⊥
    left_outside p c t = both_ways (in_block b p.at) (outside n le points pixels b hb block_order count behind p c) t

pub pixels_up : (n : ℕ) → n ≤ 12 → (ps : List Point) → All (λ p. is_pixel n p.at ≡ true) ps → All (λ p. is_pixel 12 p.at ≡ true) ps
pixels_up n le ps h =
    All-weaker (λ (p : Point). is_pixel n p.at ≡ true) (λ (p : Point). is_pixel 12 p.at ≡ true) (λ p t.
    let xy = pixel_in n p.at t in
    let m = side_most n le in
    let x = xy.0 in
    let y = xy.1 in
    pixel_from 12 p.at (omega arith) (omega arith)) ps h

-- no pixel in common with one more either
pub common_next : (held news : List Point) (i : ℕ) (d : Point) → i < length news
    → ((p q : Point) → Contains (take i news) p → Contains held q → q.at ≡ p.at → ⊥) → ((q : Point) → Contains held q → q.at ≡ (get_or news i d).at → ⊥)
    → (p q : Point) → Contains (take (i + 1) news) p → Contains held q → q.at ≡ p.at → ⊥
common_next held news i d lt before here p q cp cq e =
    ⊎_elim (λ m. before p q m cq e)
    (λ m. ⊎_elim (λ is. here q cq (e ∙ ap (λ (z : Point). z.at) (sym is))) (λ none. absurd (Contains-nil p none))
    (Contains-cons_cases (get_or news i d) [] p m))
    (Contains-append_cases (take i news) (get_or news i d ∷ []) p (subst (λ (l : List Point). Contains l p) (take_next news i d lt) cp))

-- ---- block by block
pub grown_none : (n number capacity : ℕ) (old : PointMap) (rest : List Point) → IsGrown n number capacity old [] rest [] []
grown_none n number capacity old rest = record {
  gains = [];
  once = tt;
  own = λ g h c. absurd (Contains-nil g c);
  each = λ g c. absurd (Contains-nil g c);
  covered = λ p c. absurd (Contains-nil p c);
  apart = λ g p c. absurd (Contains-nil g c);
  free = λ p c. absurd (Contains-nil p c);
  gone = refl;
  come = refl;
}

first_taken : (xs : List Point) (k : ℕ) → 0 < k → k ≤ length xs → (p : Point) × Contains (take k xs) p
first_taken xs zero lt le = absurd (omega arith)
first_taken [] (suc k) lt le = absurd (omega arith)
first_taken (x ∷ xs) (suc k) lt le = (x, Contains-here x (take k xs))

pub entries_apart : (ps : List Point) → Apart (map (λ p. p.at) ps) → Apart (point_entries ps)
entries_apart [] h = tt
entries_apart (p ∷ ps) h = (
  λ c.
      let q = Contains-map_from point_entry ps (point_entry p) c in
      h.0 (subst (Contains (map (λ (z : Point). z.at) ps)) (ap (λ (e : Pixel × ℕ). e.0) q.2) (Contains-map (λ (z : Point). z.at) ps q.0 q.1)),
  entries_apart ps h.1,
)

module _ (n number capacity : ℕ) (old : PointMap) (done rest : List Point) (without with without_now with_now : List Record) (count : ℕ)
    (h : IsGrown n number capacity old done rest without with)
    (t : IsTaken n number capacity old rest count without without_now with with_now) (some : 0 < count) (most : count ≤ length rest)
    (alone : Apart (point_entries (take count rest))) where
  abbrev run : List Point
  run = take count rest

  abbrev new : Gain
  new = record { block = t.block; held = point_entries t.held; news = point_entries (take count rest) }

  one : (p : Point) × Contains (take count rest) p
  one = first_taken rest count some most

  apart_new : (g : Gain) → Contains h.gains g → g.block ≡ t.block → ⊥
  apart_new g c e = h.apart g one.0 c (taken_there rest count one.0 one.1) (ap (λ (z : Block). in_block z (one.0).at) e ∙ t.inside one.0 one.1)

  done_out : (p : Point) → Contains done p → in_block t.block p.at ≡ true → ⊥
  done_out p c on =
      let g = h.covered p c in
      let w = h.each g.0 g.1 in
      apart_new g.0 g.1
      (one_maximal n (holds_few capacity old) (few_down n capacity old) (g.0).block t.block p.at (block_is n capacity old (g.0).block w.block)
      (block_is n capacity old t.block (t.is).block) (Holds-from (g.0).block p.at g.2) (Holds-from t.block p.at on))

  all_entries : (e : Pixel × ℕ) → Contains (point_entries (done ++ take count rest)) e → ((p : Point) × Contains done p × (point_entry p ≡ e))
      ⊎ ((p : Point) × Contains (take count rest) p × (point_entry p ≡ e))
  all_entries e c =
      let p = Contains-map_from point_entry (done ++ take count rest) e c in
      ⊎_elim (λ d. inl (p.0, d, p.2)) (λ d. inr (p.0, d, p.2)) (Contains-append_cases done (take count rest) p.0 p.1)

  one_new : (g : Gain) → Contains (new ∷ []) g → new ≡ g
  one_new g c = ⊎_elim (λ e. e) (λ d. absurd (Contains-nil g d)) (Contains-cons_cases new [] g c)

  old_gain : (g : Gain) → Contains h.gains g → IsGain n capacity old (point_entries (done ++ take count rest)) g
  old_gain g c =
      let w = h.each g c in record {
        block = w.block;
        held = w.held;
        once = w.once;
        among = λ e. (
          λ m.
              let k = (w.among e).0 m in
              let p = Contains-map_from point_entry done e k.0 in (
                subst (Contains (point_entries (done ++ take count rest))) p.2
                    (Contains-map point_entry (done ++ take count rest) p.0 (Contains-append_left done (take count rest) p.0 p.1)),
                k.1,
              ),
          λ k. ⊎_elim
              (λ p. (w.among e).1 (subst (Contains (point_entries done)) p.2 (Contains-map point_entry done p.0 p.1), k.1))
              (λ p. absurd (h.apart g p.0 c (taken_there rest count p.0 p.1) (ap (λ (z : Pixel × ℕ). in_block g.block z.0) p.2 ∙ k.1)))
              (all_entries e k.0),
        );
        some = w.some;
      }

  new_gain : IsGain n capacity old (point_entries (done ++ take count rest)) new
  new_gain = record {
    block = (t.is).block;
    held = (t.is).are;
    once = alone;
    among = λ e. (
      λ m.
          let p = Contains-map_from point_entry (take count rest) e m in (
            subst (Contains (point_entries (done ++ take count rest))) p.2
                (Contains-map point_entry (done ++ take count rest) p.0 (Contains-append_right done (take count rest) p.0 p.1)),
            ap (λ (z : Pixel × ℕ). in_block t.block z.0) (sym p.2) ∙ t.inside p.0 p.1,
          ),
      λ k. ⊎_elim
          (λ p. absurd (done_out p.0 p.1 (ap (λ (z : Pixel × ℕ). in_block t.block z.0) p.2 ∙ k.1)))
          (λ p. subst (Contains (point_entries (take count rest))) p.2 (Contains-map point_entry (take count rest) p.0 p.1))
          (all_entries e k.0),
    );
    some = (point_entry one.0, Contains-map point_entry (take count rest) one.0 one.1);
  }

  -- the records behind those before
  behind_all : (f : Gain → List Fact) (first now : List Record) → first ≡ map (block_record n capacity number) (flat_map f h.gains)
      → now ≡ first ++ map (block_record n capacity number) (f new) → now ≡ map (block_record n capacity number) (flat_map f (h.gains ++ new ∷ []))
  behind_all f first now has is =
      let row = map (block_record n capacity number) in
      is ∙ ap (λ (l : List Record). l ++ row (f new)) has
      ∙ sym (map-append (block_record n capacity number) (flat_map f h.gains) (f new))
      ∙ ap (λ (l : List Fact). row (flat_map f h.gains ++ l)) (sym (append-nil (f new)))
      ∙ ap row (sym (flat_map-append f h.gains (new ∷ [])))

  pub grown_next : IsGrown n number capacity old (done ++ take count rest) (drop count rest) without_now with_now
  grown_next = record {
    gains = h.gains ++ new ∷ [];
    once = Apart-append h.gains (new ∷ []) h.once (Apart-one new) (λ g c d. apart_new g c (ap (λ (z : Gain). z.block) (sym (one_new g d))));
    own = λ g k cg ck e. ⊎_elim
        (λ c. ⊎_elim (λ d. h.own g k c d e) (λ d. absurd (apart_new g c (e ∙ ap (λ (z : Gain). z.block) (sym (one_new k d)))))
        (Contains-append_cases h.gains (new ∷ []) k ck))
        (λ c. ⊎_elim (λ d. absurd (apart_new k d (sym e ∙ ap (λ (z : Gain). z.block) (sym (one_new g c))))) (λ d. sym (one_new g c) ∙ one_new k d)
        (Contains-append_cases h.gains (new ∷ []) k ck))
        (Contains-append_cases h.gains (new ∷ []) g cg);
    each = λ g c. ⊎_elim (λ d. old_gain g d) (λ d. subst (IsGain n capacity old (point_entries (done ++ take count rest))) (one_new g d) new_gain)
        (Contains-append_cases h.gains (new ∷ []) g c);
    covered = λ p c. ⊎_elim
        (λ d. let g = h.covered p d in (g.0, Contains-append_left h.gains (new ∷ []) g.0 g.1, g.2))
        (λ d. (new, Contains-append_right h.gains (new ∷ []) new (Contains-here new []), t.inside p d))
        (Contains-append_cases done (take count rest) p c);
    apart = λ g p c m on. ⊎_elim
        (λ d. h.apart g p d (dropped_there rest count p m) on)
        (λ d. t.outside p m (ap (λ (z : Gain). in_block z.block p.at) (one_new g d) ∙ on))
        (Contains-append_cases h.gains (new ∷ []) g c);
    free = λ p c. ⊎_elim (λ d. h.free p d) (λ d. t.free p d) (Contains-append_cases done (take count rest) p c);
    gone = behind_all (gone_in capacity) without without_now h.gone t.gone;
    come = behind_all (come_in n capacity) with with_now h.come t.come;
  }

-- ---- the layer with these points
pub new_rest : (points : PointMap) (p : Point) (ps : List Point) → AreNew points (p ∷ ps)
    → (finmap.get points p.at ≡ None) × AreNew (finmap.insert points p.at p.label) ps
new_rest points p ps new = (
  new.free p (Contains-here p ps),
  record {
    differ = (new.differ).1;
    free = λ q c.
        get_others pixel_cmp pixel_total pixel_same points p.at p.label q.at
        (λ e. (new.differ).0 (subst (Contains (map (λ (z : Point). z.at) ps)) e (Contains-map (λ (z : Point). z.at) ps q c)))
        ∙ new.free q (Contains-there p ps q c);
  },
)

with_gains : (points : PointMap) (ps : List Point) → AreNew points ps → Gains points (points_with points ps) (point_entries ps)
with_gains points [] h =
    record { members = λ e. (λ c. inl c, λ s. ⊎_elim (λ c. c) (λ c. absurd (Contains-nil e c)) s); fresh = λ q k l c. absurd (Contains-nil (q, k) c) }
with_gains points (p ∷ ps) new =
    let w = new_rest points p ps new in
    let mid = finmap.insert points p.at p.label in
    let comes = put_comes points p.at p.label w.0 in
    let all = with_gains mid ps w.1 in record {
      members = λ e. (
        λ c. ⊎_elim
            (λ m. ⊎_elim (λ o. inl o)
            (λ is. inr (subst (Contains (point_entry p ∷ point_entries ps)) (sym is) (Contains-here (point_entry p) (point_entries ps)))) ((comes.members e).0 m))
            (λ d. inr (Contains-there (point_entry p) (point_entries ps) e d))
            ((all.members e).0 c),
        λ s. ⊎_elim
            (λ o. (all.members e).1 (inl ((comes.members e).1 (inl o))))
            (λ c. ⊎_elim (λ is. (all.members e).1 (inl ((comes.members e).1 (inr (sym is))))) (λ d. (all.members e).1 (inr d))
            (Contains-cons_cases (point_entry p) (point_entries ps) e c)) s,
      );
      fresh = λ q k l c o. ⊎_elim
          (λ is. comes.fresh l (subst (λ (z : Pixel). Contains (finmap.entries points) (z, l)) (sym (ap (λ (e : Pixel × ℕ). e.0) is)) o))
          (λ d. all.fresh q k l d ((comes.members (q, l)).1 (inl o)))
          (Contains-cons_cases (point_entry p) (point_entries ps) (q, k) c);
    }

with_valid : (form n capacity : ℕ) (points : PointMap) (ps : List Point) → AreNew points ps → All (λ p. is_pixel n p.at ≡ true) ps
    → All (λ p. p.label < 2 ^ 32) ps → IsPointMap form n capacity points → IsPointMap form n capacity (points_with points ps)
with_valid form n capacity points [] new inside labels v = v
with_valid form n capacity points (p ∷ ps) new inside labels v =
    let w = new_rest points p ps new in
    with_valid form n capacity (finmap.insert points p.at p.label) ps w.1 (λ k d lt. inside (suc k) d (omega arith)) (λ k d lt. labels (suc k) d (omega arith))
    (put_valid form n capacity points (finmap.insert points p.at p.label) p.at p.label (put_comes points p.at p.label w.0) v
    (inside 0 p (omega arith)) (labels 0 p (omega arith)))

-- ---- all of them
module _ (n capacity number : ℕ) (le : n ≤ 12) (least : 1 ≤ number) (most : number ≤ 255) (old : PointMap) (valid : IsPointMap 2 n capacity old)
    (ps qs : List Point) (perm : IsPermutation ps qs) (up : Rises by_code qs)
    (inside : All (λ p. is_pixel n p.at ≡ true) ps) (labels : All (λ p. p.label < 2 ^ 32) ps) (without with : List Record)
    (h : IsGrown n number capacity old qs [] without with) where
  pub all_new : AreNew old ps
  all_new = record {
    differ = Apart-permuted (map (λ (p : Point). p.at) qs) (map (λ (p : Point). p.at) ps)
        (IsPermutation-map (λ (p : Point). p.at) qs ps (IsPermutation-sym ps qs perm)) (pixels_apart qs up);
    free = λ p c. h.free p ((permuted ps qs perm p).0 c);
  }

  entry_there : (e : Pixel × ℕ) → Contains (point_entries ps) e ↔ Contains (point_entries qs) e
  entry_there e = (
    λ c. let p = Contains-map_from point_entry ps e c in subst (Contains (point_entries qs)) p.2 (Contains-map point_entry qs p.0 ((permuted ps qs perm p.0).0 p.1)),
    λ c. let p = Contains-map_from point_entry qs e c in subst (Contains (point_entries ps)) p.2 (Contains-map point_entry ps p.0 ((permuted ps qs perm p.0).1 p.1)),
  )

  gained : Gains old (points_with old ps) (point_entries qs)
  gained =
      let all = with_gains old ps all_new in record {
        members = λ e. (
          λ c. ⊎_elim (λ o. inl o) (λ d. inr ((entry_there e).0 d)) ((all.members e).0 c),
          λ s. ⊎_elim (λ o. (all.members e).1 (inl o)) (λ d. (all.members e).1 (inr ((entry_there e).1 d))) s,
        );
        fresh = λ q k l c o. all.fresh q k l ((entry_there (q, k)).1 c) o;
      }

  covered : (e : Pixel × ℕ) → Contains (point_entries qs) e → (g : Gain) × Contains h.gains g × (in_block g.block e.0 ≡ true)
  covered e c =
      let p = Contains-map_from point_entry qs e c in
      let g = h.covered p.0 p.1 in
      (g.0, g.1, ap (λ (z : Pixel × ℕ). in_block (g.0).block z.0) (sym p.2) ∙ g.2)

  changes : Changes (facts n (Points capacity old)) (facts n (Points capacity (points_with old ps))) (flat_map (gone_in capacity) h.gains)
      (flat_map (come_in n capacity) h.gains)
  changes = all_changed old (points_with old ps) (point_entries qs) gained n capacity valid.least h.gains h.each h.own h.once covered

  now_valid : (form : ℕ) → IsPointMap form n capacity old → IsPointMap form n capacity (points_with old ps)
  now_valid form v = with_valid form n capacity old ps all_new inside labels v

  pub scatter_can : CanBeEdits without with
  scatter_can =
      subst (λ (rs : List Record). CanBeEdits rs with) (sym h.gone)
      (subst (CanBeEdits (map (block_record n capacity number) (flat_map (gone_in capacity) h.gains))) (sym h.come)
      (plans.can n capacity number le least most old (points_with old ps) valid (now_valid 2 valid) (flat_map (gone_in capacity) h.gains)
      (flat_map (come_in n capacity) h.gains) changes.swaps changes.gone_once changes.come_once))

  pub scatter_plan : (edits : Edits) → IsPermutation without edits.remove → IsPermutation with edits.add
      → IsPointPlan n number capacity old (points_with old ps) edits
  scatter_plan edits pr pa =
      plans.plan n capacity number le least most old (points_with old ps) valid (now_valid 2 valid) (flat_map (gone_in capacity) h.gains)
      (flat_map (come_in n capacity) h.gains) changes.swaps changes.gone_once changes.come_once
      now_valid edits
      (subst (λ (rs : List Record). IsPermutation rs edits.remove) h.gone pr) (subst (λ (rs : List Record). IsPermutation rs edits.add) h.come pa)
