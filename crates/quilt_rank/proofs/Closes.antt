-- A block that is opened is no farther than the last of the first k.
use Rattle.std.proofs.Common.{◌≡◌, ℕ, ◌*◌, ◌≤◌, true, false, Bool, ◌⊎◌, inl, inr, ⊎_elim, List, [], ◌∷◌, length, All, Contains, eqb, eq-eqb, nat_lt, ◌&&◌, sym}
use Rattle.std.proofs.Common.{◌∙◌, subst, arith, ap, ltb-false, IsPermutation}
use Rattle.std.proofs.Math.Nat.{mul-le-mul_right}
use Rattle.quilt_types.specs.declared.plane.Pixel.{Pixel}
use Rattle.quilt_types.specs.declared.plane.Block.{Block}
use Rattle.quilt_types.specs.declared.plane.Seg.{Seg}
use Rattle.quilt_types.specs.Fractions.{Fraction}
use Rattle.quilt_types.specs.Segments.{square_distance}
use Rattle.quilt_types.specs.Ranking.{ranked}
use Rattle.quilt_clip.proofs.Orders.{cross_trans}
use Rattle.quilt_loc.proofs.Members.{Contains-nil, Contains-here, Contains-there, Contains-cons_cases}
use Rattle.quilt_near.specs.Lines.{Lines, IsLines}
use Rattle.quilt_near.proofs.NearPixels.{near_pixel}
use Rattle.quilt_near.proofs.Leading.{far_of}
use Rattle.quilt_near.proofs.Waiting.{least_of_all}
use Rattle.quilt_rank.specs.Ranks.{last_far, is_past_ranks}
use Rattle.quilt_rank.proofs.Orders.{Rank, Ahead, IsSettled, sub_same, not_itself, not_both}
use Rattle.quilt_rank.proofs.Ranking.{last_is, IsRank, rank_positive, IsRanking, ranking_is}
use Rattle.quilt_rank.proofs.Fronts.{Front}

not_past : (long : Bool) (a b : ℕ) → long ≡ true → (long && nat_lt a b) ≡ false → b ≤ a
not_past true a b l h = ltb-false a b h
not_past false a b l h = cc

module _ (n : ℕ) (p : Pixel) (k : ℕ) (l : Lines) (is : IsLines n l) (queue rest : List (ℕ × Block)) (rs : List Rank) (e : ℕ × Block)
    (f : Front n p k l queue rs) (h : IsPermutation queue (e ∷ rest)) (least : All (λ z. e.0 ≤ z.0) rest) where
  -- a segment that a block holds is no nearer than the block that comes out
  Near : Rank → Type 0
  Near z = e.0 * z.1.den ≤ z.1.num

  AllAhead : Rank → Type 0
  AllAhead z = (length rs ≡ k) × ((y : Rank) → Contains rs y → Ahead y z)

  look : (z : Rank) → IsRank p l.segs z → (Contains rs z ⊎ AllAhead z) ⊎ Near z
  unfolding Near AllAhead
  look z i =
      let s : ℕ × Seg = (z.0, i.seg) in
      let same : far_of p s ≡ z = ap (λ (t : Fraction). let r : Rank = (z.0, t) in r) i.distance in
      let at = near_pixel p i.seg in
      ⊎_elim (λ done. inl (subst (IsSettled k rs) same done))
      (λ held.
      let w = f.waits held.by held.listed in
      let le = least_of_all queue rest e h least held.by held.listed in
      let near = at.1.near held.by.1 held.holds in
      let at_by : held.by.0 * (square_distance p i.seg).den ≤ (square_distance p i.seg).num =
      subst (λ t. t * (square_distance p i.seg).den ≤ (square_distance p i.seg).num) (sym w.distance) near in
      let up = mul-le-mul_right (square_distance p i.seg).den le in
      let own : e.0 * (square_distance p i.seg).den ≤ (square_distance p i.seg).num = omega arith in
      inr (subst (λ (t : Fraction). e.0 * t.den ≤ t.num) i.distance own))
      (f.seen s i.listed at.0 at.1)

  -- all of a list are among those so far, or one is not and the block is no farther than it, or all so far are ahead of one
  look_all : (fs : List Rank) → ((z : Rank) → Contains fs z → IsRank p l.segs z) → ((z : Rank) → Contains fs z → Contains rs z)
      ⊎ ((z : Rank) × Contains fs z × (AllAhead z ⊎ Near z))
  look_all [] real = inl (λ z c. absurd (Contains-nil z c))
  look_all (x ∷ xs) real =
      ⊎_elim
      (λ done. ⊎_elim
      (λ here. ⊎_elim
      (λ all. inl (λ z c. ⊎_elim (λ i. subst (Contains rs) i here) (λ d. all z d) (Contains-cons_cases x xs z c)))
      (λ w. inr (w.0, Contains-there x xs w.0 w.1, w.2))
      (look_all xs (λ z c. real z (Contains-there x xs z c))))
      (λ a. inr (x, Contains-here x xs, inl a)) done)
      (λ near. inr (x, Contains-here x xs, inr near))
      (look x (real x (Contains-here x xs)))

  -- no k so far are all ahead of one of the first k
  not_ahead : (fs : List Rank) → IsRanking p l.segs k fs → length fs ≡ k → (z : Rank) → Contains fs z → AllAhead z → ⊥
  unfolding AllAhead
  not_ahead fs r long z c a =
      let le = a.0 in
      let in' =
      λ (y : Rank) (d : Contains rs y). ⊎_elim {C = Contains fs y} (λ i. i) (λ w. absurd (not_both y z (a.1 y d) (w.1 z c))) (r.settled y (f.real y d)) in
      let same = sub_same rs fs f.order r.order in' (omega arith) in
      not_itself z (a.1 z (subst (λ (t : List Rank). Contains t z) (sym same) c))

  pub close : (fs : List Rank) → 1 ≤ k → fs ≡ ranked l.segs p k → length fs ≡ k → is_past_ranks k rs e.0 ≡ false → e.0 * (last_far fs).den ≤ (last_far fs).num
  unfolding Near
  close fs some answer long past =
      let r : IsRanking p l.segs k fs = subst (IsRanking p l.segs k) (sym answer) (ranking_is p l.segs k) in
      let last = last_is fs r.order (omega arith) in
      let most = last.1.most in
      let pl = rank_positive p l.segs last.0 (r.real last.0 last.1.listed) in
      let by = λ (z : Rank) (c : Contains fs z) (near : e.0 * z.1.den ≤ z.1.num).
      let u = (most z c).cross in
      let pz = rank_positive p l.segs z (r.real z c) in
      let t = cross_trans e.0 1 z.1.num z.1.den last.0.1.num last.0.1.den pz (omega arith) u in
      subst (λ (t : Fraction). e.0 * t.den ≤ t.num) last.1.far (let o : e.0 * last.0.1.den ≤ last.0.1.num = omega arith in o) in
      ⊎_elim
      (λ all.
      let few = f.few in
      let same : fs ≡ rs = sub_same fs rs r.order f.order all (omega arith) in
      let full : length rs ≡ k = ap length (sym same) ∙ long in
      let b = not_past (eqb (length rs) k) (last_far rs).num (e.0 * (last_far rs).den) (eq-eqb (length rs) k full) past in
      subst (λ (t : List Rank). e.0 * (last_far t).den ≤ (last_far t).num) (sym same) b)
      (λ w. ⊎_elim (λ a. absurd (not_ahead fs r long w.0 w.1 a)) (λ near. by w.0 w.1 near) w.2)
      (look_all fs r.real)
