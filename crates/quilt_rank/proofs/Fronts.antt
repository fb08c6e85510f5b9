-- The search for the first k: those so far and the blocks that wait stand for all segments.
use Rattle.std.proofs.Common.{◌≡◌, ℕ, ◌*◌, ◌<◌, ◌≤◌, true, false, ◌⊎◌, inl, inr, ⊎_elim, List, [], ◌∷◌, ◌++◌, fold, map, length, All, Contains, eqb, eqb-true}
use Rattle.std.proofs.Common.{nat_lt, sym, subst, arith, ap, ltb-true, IsPermutation}
use Rattle.std.specs.FinMap as finmap
use Rattle.std.proofs.Math.Nat.{mul-le-mul_right}
use Rattle.std.proofs.lemmas.Bool.{and_parts}
use Rattle.quilt_types.specs.Sets as finset
use Rattle.quilt_types.specs.declared.plane.Pixel.{Pixel}
use Rattle.quilt_types.specs.declared.plane.Block.{Block}
use Rattle.quilt_types.specs.declared.plane.Seg.{Seg}
use Rattle.quilt_types.specs.Plane.{quarters_of, whole}
use Rattle.quilt_types.specs.Fractions.{Fraction, is_less}
use Rattle.quilt_types.specs.Segments.{square_distance, meets, square}
use Rattle.quilt_types.specs.Ranking.{ranked}
use Rattle.quilt_clip.specs.Fractions.{UpTo}
use Rattle.quilt_clip.proofs.Orders.{up_to_trans, up_to_if_less}
use Rattle.quilt_loc.proofs.Members.{Contains-nil, Contains-filter}
use Rattle.quilt_loc.proofs.Members.{Contains-filter_from}
use Rattle.quilt_near.specs.Lines.{Lines, IsLines, meeting}
use Rattle.quilt_near.specs.Nearness.{IsNearPixel}
use Rattle.quilt_near.specs.Choices.{placed_at}
use Rattle.quilt_near.proofs.NearPixels.{near_pixel, farther}
use Rattle.quilt_near.proofs.Leading.{far_of}
use Rattle.quilt_near.proofs.Waiting.{Waits, IsHeld, all_rest, came_out, least_of_all, waits_first, held_first, waits_split, held_rest, held_split}
use Rattle.quilt_rank.specs.Ranks.{with_ranked, last_far, is_past_ranks}
use Rattle.quilt_rank.proofs.Orders.{Rank, Ahead, AreRanked, IsSettled}
use Rattle.quilt_rank.proofs.Ranking.{last_is, IsRank, rank_of, rank_positive, ranking_from, steps}

-- Each segment is settled, or each pixel where it is nearest is held by a block that waits.
pub record Front (n : ℕ) (p : Pixel) (k : ℕ) (l : Lines) (queue : List (ℕ × Block)) (rs : List Rank) : Type 0 where
  pub waits : (e : ℕ × Block) → Contains queue e → Waits n p l e
  pub order : AreRanked rs
  pub real : (z : Rank) → Contains rs z → IsRank p l.segs z
  pub few : length rs ≤ k
  pub seen : (e : ℕ × Seg) → Contains (finmap.entries l.segs) e → (q : Pixel) → IsNearPixel p e.1 (square_distance p e.1) q
      → IsSettled k rs (far_of p e) ⊎ IsHeld queue q

module _ (n : ℕ) (p : Pixel) (k : ℕ) (l : Lines) (is : IsLines n l) where
  pub start : (queue : List (ℕ × Block)) → IsPermutation (placed_at p (whole n) ∷ []) queue → Front n p k l queue []
  start queue h =
      record {
        waits = waits_first n p l is queue h;
        order = tt;
        real = λ z c. absurd (Contains-nil z c);
        few = omega arith;
        seen = λ e c q near. inr (held_first n p l is queue h e c q near);
      }

  -- a block of the cover is opened
  pub leaf_step : (queue rest : List (ℕ × Block)) (rs : List Rank) (e : ℕ × Block) (list : List (ℕ × Seg)) → Front n p k l queue rs
      → IsPermutation queue (e ∷ rest) → list ≡ meeting l.segs e.1
      → Front n p k l rest (fold (with_ranked p k) rs list)
  leaf_step queue rest rs e list f h same =
      let es = finmap.entries l.segs in
      let test = λ (z : ℕ × Seg). meets z.1 (square e.1) in
      let s = steps p l.segs k rs list (λ z c. (Contains-filter_from test es z (subst (λ (t : List (ℕ × Seg)). Contains t z) same c)).0) f.order f.real f.few in
      record {
        waits = all_rest (Waits n p l) queue rest e h f.waits;
        order = s.order;
        real = s.real;
        few = s.few;
        seen = λ z c q near.
            ⊎_elim (λ done. inl (s.kept (far_of p z) (rank_of p l.segs z c) done))
            (λ held. ⊎_elim
            (λ here. inl (s.here z (subst (λ (t : List (ℕ × Seg)). Contains t z) (sym same) (Contains-filter test es z c (near.meets e.1 here)))))
            (λ on. inr on)
            (held_rest queue rest e q h held))
            (f.seen z c q near);
      }

  -- a block that is cut further is opened
  pub split_step : (queue rest new : List (ℕ × Block)) (rs : List Rank) (e : ℕ × Block) → Front n p k l queue rs → IsPermutation queue (e ∷ rest) → 1 < e.1.side
      → finset.contains l.cover e.1 ≡ false → IsPermutation (map (placed_at p) (quarters_of e.1) ++ rest) new → Front n p k l new rs
  split_step queue rest new rs e f h wide cut h' =
      let here = f.waits e (came_out queue rest e h) in
      record {
        waits = waits_split n p l is queue rest new e f.waits h wide cut h';
        order = f.order;
        real = f.real;
        few = f.few;
        seen = λ z c q near. ⊎_elim (λ done. inl done) (λ held. inr (held_split n p queue rest new e q here.block wide h h' held)) (f.seen z c q near);
      }

  settled_of : (rs : List Rank) → ((z : ℕ × Seg) → Contains (finmap.entries l.segs) z → IsSettled k rs (far_of p z)) → (z : Rank)
      → IsRank p l.segs z → IsSettled k rs z
  settled_of rs h z i =
      let e : ℕ × Seg = (z.0, i.seg) in
      subst (IsSettled k rs) (ap (λ (t : Fraction). let r : Rank = (z.0, t) in r) i.distance) (h e i.listed)

  finish : (queue : List (ℕ × Block)) (rs : List Rank) → Front n p k l queue rs
      → ((z : ℕ × Seg) → Contains (finmap.entries l.segs) z → IsSettled k rs (far_of p z)) → rs ≡ ranked l.segs p k
  finish queue rs f h = ranking_from p l.segs k rs f.few (record { order = f.order; real = f.real; settled = settled_of rs h })

  -- Nothing waits.
  pub at_end : (rs : List Rank) → Front n p k l [] rs → rs ≡ ranked l.segs p k
  at_end rs f =
      finish [] rs f (λ z c. let at = near_pixel p z.1 in ⊎_elim (λ done. done) (λ held. absurd (Contains-nil held.by held.listed)) (f.seen z c at.0 at.1))

  -- what is strictly farther than the last comes after all
  past_parts : (rs : List Rank) (d : ℕ) → is_past_ranks k rs d ≡ true → (length rs ≡ k) × ((last_far rs).num < d * (last_far rs).den)
  past_parts rs d h =
      let w = and_parts (eqb (length rs) k) (nat_lt (last_far rs).num (d * (last_far rs).den)) h in
      (eqb-true (length rs) k w.0, ltb-true _ _ w.1)

  after_all : (rs : List Rank) (z : Rank) → AreRanked rs → ((y : Rank) → Contains rs y → IsRank p l.segs y) → IsRank p l.segs z → 0 < length rs
      → is_less (last_far rs) z.1 ≡ true → (y : Rank) → Contains rs y → Ahead y z
  after_all rs z order real iz some less y c =
      let last = last_is rs order some in
      let lt : is_less last.0.1 z.1 ≡ true = subst (λ (t : Fraction). is_less t z.1 ≡ true) (sym last.1.far) less in
      let pl = rank_positive p l.segs last.0 (real last.0 last.1.listed) in
      let py = rank_positive p l.segs y (real y c) in
      let pz = rank_positive p l.segs z iz in
      let up = last.1.most y c in
      let over = ltb-true (last.0.1.num * z.1.den) (z.1.num * last.0.1.den) lt in
      let back = λ (u : UpTo z.1 y.1). let v = (up_to_trans z.1 y.1 last.0.1 py u up).cross in let no : ⊥ = omega arith in no in
      record {
        leads = record { near = up_to_trans y.1 last.0.1 z.1 pl up (up_to_if_less last.0.1 z.1 lt); first = λ u. absurd (back u) };
        not_back = λ b. back b.near;
      }

  -- What waits is strictly farther than the last of k.
  pub at_stop : (queue rest : List (ℕ × Block)) (rs : List Rank) (e : ℕ × Block) → 1 ≤ k → Front n p k l queue rs → IsPermutation queue (e ∷ rest)
      → All (λ z. e.0 ≤ z.0) rest → is_past_ranks k rs e.0 ≡ true → rs ≡ ranked l.segs p k
  at_stop queue rest rs e some f h least past =
      let w = past_parts rs e.0 past in
      let long = w.0 in
      finish queue rs f
      (λ z c.
      let at = near_pixel p z.1 in
      ⊎_elim (λ done. done)
      (λ held.
      let a = f.waits held.by held.listed in
      let le = least_of_all queue rest e h least held.by held.listed in
      let up = mul-le-mul_right (last_far rs).den (subst (λ t. e.0 ≤ t) a.distance le) in
      let more = w.1 in
      inr (
        long,
        after_all rs (far_of p z) f.order f.real (rank_of p l.segs z c) (omega arith)
            (farther p z.1 at.0 held.by.1 (last_far rs) at.1 held.holds (omega arith)),
      ))
      (f.seen z c at.0 at.1))
