-- What the ranking says of a list that it is, in the words of the public call.
use Rattle.std.proofs.Common.{◌≡◌, ℕ, ◌<◌, ◌≤◌, ◌⊎◌, ⊎_elim, inl, inr, List, [], ◌∷◌, length, Contains, Option, Some, None, refl, sym, ap, subst, arith}
use Rattle.std.specs.Prelude.{slice_get}
use Rattle.std.specs.FinMap as finmap
use Rattle.std.proofs.lemmas.Bool.{cases_lt}
use Rattle.quilt_types.specs.declared.plane.Pixel.{Pixel}
use Rattle.quilt_types.specs.declared.plane.Seg.{Seg}
use Rattle.quilt_types.specs.Layers.{SegMap}
use Rattle.quilt_types.specs.Fractions.{Fraction}
use Rattle.quilt_types.specs.Segments.{square_distance, nearest}
use Rattle.quilt_types.specs.Ranking.{ranked}
use Rattle.quilt_clip.specs.Fractions.{UpTo}
use Rattle.quilt_clip.proofs.Orders.{up_to_itself}
use Rattle.quilt_loc.proofs.Members.{Contains-nil, Contains-here, Contains-cons_cases}
use Rattle.quilt_near.specs.Nearest.{IsNearest}
use Rattle.quilt_near.proofs.Leading.{far_of}
use Rattle.quilt_near.proofs.Leasts.{nearest_from, nearest_is}
use Rattle.quilt_rank.specs.Firsts.{ComesBefore, AreInOrder, AreFirst}
use Rattle.quilt_rank.proofs.Orders.{Rank, Ahead, AreRanked}
use Rattle.quilt_rank.proofs.Ranking.{IsRanking, ranking_is, ranking_few, rank_of}

before : (a b : Rank) → Ahead a b → ComesBefore a b
before a b h = record {
  near = h.leads.near;
  first = λ back. let le = h.leads.first back in
      ⊎_elim (λ lt. lt) (λ ge. absurd (h.not_back (record { near = back; first = λ again. ge }))) (cases_lt a.0 b.0);
}

in_order : (rs : List Rank) → AreRanked rs → AreInOrder rs
in_order [] h = tt
in_order (r ∷ rs) h = (λ s c. before r s (h.0 s c), in_order rs h.1)

-- the ranking has the first k in order
pub first_are : (segs : SegMap) (p : Pixel) (k : ℕ) (rs : List Rank) → rs ≡ ranked segs p k → AreFirst p k (finmap.entries segs) rs
first_are segs p k rs same =
    let h : IsRanking p segs k rs = subst (IsRanking p segs k) (sym same) (ranking_is p segs k) in
    record {
      order = in_order rs h.order;
      few = subst (λ (t : List Rank). length t ≤ k) (sym same) (ranking_few p segs k);
      real = λ r c. let i = h.real r c in record { seg = i.seg; listed = i.listed; distance = i.distance };
      all = λ e c. ⊎_elim (λ d. inl d) (λ w. inr (w.0, λ r d. before r (far_of p e) (w.1 r d))) (h.settled (far_of p e) (rank_of p segs e c));
    }

module _ (p : Pixel) (k : ℕ) (es : List (ℕ × Seg)) (x : Rank) (xs : List Rank) (h : AreFirst p k es (x ∷ xs)) where
  -- the first one is a segment or comes before it
  leads : (e : ℕ × Seg) → Contains es e → (x ≡ far_of p e) ⊎ ComesBefore x (far_of p e)
  leads e c =
      ⊎_elim
      (λ d. ⊎_elim (λ is. inl is) (λ there. inr (h.order.0 (far_of p e) there)) (Contains-cons_cases x xs (far_of p e) d))
      (λ w. inr (w.1 x (Contains-here x xs))) (h.all e c)

  is_nearest : IsNearest p es x
  is_nearest =
      let real = h.real x (Contains-here x xs) in
      record {
        seg = real.seg;
        listed = real.listed;
        distance = real.distance;
        least = λ e c. ⊎_elim (λ is. subst (λ (r : Rank). UpTo x.1 r.1) is (up_to_itself x.1)) (λ b. b.near) (leads e c);
        first = λ e c back. ⊎_elim (λ is. let same : x.0 ≡ e.0 = ap (λ (r : Rank). r.0) is in omega arith)
            (λ b. let lt = b.first back in omega arith) (leads e c);
      }

no_nearest : (segs : SegMap) (p : Pixel) → ((e : ℕ × Seg) → Contains (finmap.entries segs) e → ⊥) → (o : Option Rank) → nearest segs p ≡ o → None ≡ o
no_nearest segs p none None is = refl
no_nearest segs p none (Some r) is = let n = nearest_is segs p r is in absurd (none (r.0, n.seg) n.listed)

-- the first of them is the nearest
pub first_is : (segs : SegMap) (p : Pixel) (k : ℕ) (rs : List Rank) → 1 ≤ k → AreFirst p k (finmap.entries segs) rs → slice_get rs 0 ≡ nearest segs p
first_is segs p k [] some h =
    no_nearest segs p (λ e c. ⊎_elim (λ d. Contains-nil (far_of p e) d) (λ w. let is = w.0 in omega arith) (h.all e c)) (nearest segs p) refl
first_is segs p k (x ∷ xs) some h = sym (nearest_from segs p x (is_nearest p k (finmap.entries segs) x xs h))
