-- The first k of the ranking, kept as segments come.
use Rattle.std.proofs.Common.{◌≡◌, ℕ, zero, suc, ◌<◌, ◌≤◌, true, false, cond, inl, inr, ⊎_elim, List, [], ◌∷◌, length, take, fold, Contains, Bool, eqb, refl}
use Rattle.std.proofs.Common.{sym, ◌∙◌, ap, subst, arith}
use Rattle.std.specs.FinMap as finmap
use Rattle.std.proofs.lemmas.Bool.{cases_lt, eqb-false}
use Rattle.std.proofs.lemmas.List.{take_all, length-take-le}
use Rattle.quilt_types.specs.declared.plane.Pixel.{Pixel}
use Rattle.quilt_types.specs.declared.plane.Seg.{Seg}
use Rattle.quilt_types.specs.Layers.{SegMap}
use Rattle.quilt_types.specs.Fractions.{Fraction}
use Rattle.quilt_types.specs.Segments.{square_distance}
use Rattle.quilt_types.specs.Ranking.{comes_first, placed, ranked}
use Rattle.quilt_clip.specs.Fractions.{UpTo}
use Rattle.quilt_clip.proofs.Orders.{up_to_itself}
use Rattle.quilt_loc.proofs.Members.{Contains-nil, Contains-here, Contains-there, Contains-cons_cases}
use Rattle.quilt_near.proofs.Leasts.{Rises, rises_if_sorted, same_entry}
use Rattle.quilt_near.proofs.Leading.{IsOne, far_of, real_positive}
use Rattle.quilt_rank.specs.Ranks.{added, with_ranked, last_far}
use Rattle.quilt_rank.proofs.Orders.{Rank, put, Ahead, AreRanked, ahead_trans, first_ahead, Puts, puts, placed_put, in_take, take_ranked, take_few}
use Rattle.quilt_rank.proofs.Orders.{IsSettled, take_settled, sub_length, first_of}
use Rattle.quilt_rank.proofs.Adding.{added_put}

-- the last of a ranked list is as far as any
pub record IsLast (rs : List Rank) (r : Rank) : Type 0 where
  pub listed : Contains rs r
  pub far : r.1 ≡ last_far rs
  pub most : (y : Rank) → Contains rs y → UpTo y.1 r.1

pub last_is : (rs : List Rank) → AreRanked rs → 0 < length rs → (r : Rank) × IsLast rs r
last_is [] h some = absurd (let no : ⊥ = omega arith in no)
last_is (x ∷ []) h some = (
  x,
  record {
    listed = Contains-here x [];
    far = refl;
    most = λ y c. ⊎_elim (λ is. subst (λ (z : Rank). UpTo z.1 x.1) is (up_to_itself x.1)) (λ d. absurd (Contains-nil y d)) (Contains-cons_cases x [] y c);
  },
)
last_is (x ∷ z ∷ zs) h some =
    let r = last_is (z ∷ zs) h.1 (omega arith) in (
      r.0,
      record {
        listed = Contains-there x (z ∷ zs) r.0 r.1.listed;
        far = r.1.far;
        most = λ y c. ⊎_elim (λ is. subst (λ (t : Rank). UpTo t.1 r.0.1) is (h.0 r.0 r.1.listed).leads.near) (λ d. r.1.most y d)
            (Contains-cons_cases x (z ∷ zs) y c);
      },
    )

module _ (p : Pixel) (segs : SegMap) where
  es : List (ℕ × Seg)
  es = finmap.entries segs

  abbrev pub IsRank : Rank → Type 0
  IsRank r = IsOne p (finmap.entries segs) r

  pub rank_of : (e : ℕ × Seg) → Contains (finmap.entries segs) e → IsRank (far_of p e)
  rank_of e c = record { seg = e.1; listed = c; distance = refl }

  apart : Rises (finmap.entries segs)
  apart = rises_if_sorted (finmap.entries segs) (finmap.entries_sorted segs)

  pub one_rank : (a b : Rank) → IsRank a → IsRank b → a.0 ≡ b.0 → a ≡ b
  one_rank a b h k is =
      let e : ℕ × Seg = (a.0, h.seg) in
      let f : ℕ × Seg = (b.0, k.seg) in
      let same = same_entry (finmap.entries segs) apart e f h.listed k.listed is in
      let ia : far_of p e ≡ a = ap (λ (t : Fraction). let r : Rank = (a.0, t) in r) h.distance in
      let ib : far_of p f ≡ b = ap (λ (t : Fraction). let r : Rank = (b.0, t) in r) k.distance in
      sym ia ∙ ap (far_of p) same ∙ ib

  pub rank_positive : (a : Rank) → IsRank a → 0 < a.1.den
  rank_positive a h = real_positive p (finmap.entries segs) a h

  pub ahead : (a b c : Rank) → IsRank a → IsRank b → IsRank c → Ahead a b → Ahead b c → Ahead a c
  ahead a b c = ahead_trans IsRank rank_positive one_rank a b c

  pub put_is : (rs : List Rank) (e : Rank) → IsRank e → ((z : Rank) → Contains rs z → IsRank z) → AreRanked rs
      → Puts IsRank rank_positive one_rank rs e (put rs e)
  put_is rs e = puts IsRank rank_positive one_rank rs e

  -- ---- all in order
  record Sorts (done : List Rank) (fs : List (ℕ × Seg)) (now : List Rank) : Type 0 where
    ranked_is : AreRanked now
    real : (z : Rank) → Contains now z → IsRank z
    here : (e : ℕ × Seg) → Contains fs e → Contains now (far_of p e)
    kept : (z : Rank) → Contains done z → Contains now z

  sorts : (done : List Rank) (fs : List (ℕ × Seg)) → AreRanked done → ((z : Rank) → Contains done z → IsRank z)
      → ((e : ℕ × Seg) → Contains fs e → Contains (finmap.entries segs) e)
      → ((z : Rank) → Contains done z → (e : ℕ × Seg) → Contains fs e → z.0 ≡ e.0 → ⊥) → Rises fs
      → Sorts done fs (fold (λ rs e. placed rs (e.0, square_distance p e.1)) done fs)
  sorts done [] r real in' off rises = record { ranked_is = r; real = real; here = λ e c. absurd (Contains-nil e c); kept = λ z c. c }
  sorts done (x ∷ xs) r real in' off rises =
      let e = far_of p x in
      let i = rank_of x (in' x (Contains-here x xs)) in
      let u = put_is done e i real r in
      let same : placed done e ≡ put done e = placed_put IsRank rank_positive one_rank done e (λ z c is. off z c x (Contains-here x xs) is) in
      let step = subst (λ (t : List Rank). Puts IsRank rank_positive one_rank done e t) (sym same) u in
      let more = sorts (placed done e) xs step.ranked
      (λ z c. ⊎_elim (λ is. subst IsRank is i) (λ d. real z d) (step.real z c))
      (λ y c. in' y (Contains-there x xs y c))
      (λ z c y d is. ⊎_elim (λ ez. let lt = rises.0 y d in let j : x.0 ≡ z.0 = ap (λ (t : Rank). t.0) ez in omega arith)
      (λ k. off z k y (Contains-there x xs y d) is) (step.real z c))
      rises.1 in
      record {
        ranked_is = more.ranked_is;
        real = more.real;
        here =
            λ y c. ⊎_elim (λ is. subst (λ (t : ℕ × Seg). Contains (fold (λ rs f. placed rs (f.0, square_distance p f.1)) (placed done e) xs)
            (far_of p t)) is (more.kept e step.here)) (λ d. more.here y d) (Contains-cons_cases x xs y c);
        kept = λ z c. more.kept z (step.kept z c);
      }

  all_in_order : List Rank
  all_in_order = fold (λ rs e. placed rs (e.0, square_distance p e.1)) [] (finmap.entries segs)

  sorted_is : Sorts [] (finmap.entries segs) all_in_order
  unfolding all_in_order
  sorted_is = sorts [] (finmap.entries segs) tt (λ z c. absurd (Contains-nil z c)) (λ e c. c) (λ z c. absurd (Contains-nil z c)) apart

  ranked_take : (k : ℕ) → ranked segs p k ≡ take k all_in_order
  unfolding ranked all_in_order
  ranked_take k = refl

  in_order : (z : Rank) → IsRank z → Contains all_in_order z
  in_order z h =
      let e : ℕ × Seg = (z.0, h.seg) in
      subst (Contains all_in_order) (ap (λ (t : Fraction). let r : Rank = (z.0, t) in r) h.distance) (sorted_is.here e h.listed)

  -- what the ranking is
  pub record IsRanking (k : ℕ) (fs : List Rank) : Type 0 where
    pub order : AreRanked fs
    pub real : (z : Rank) → Contains fs z → IsRank z
    pub settled : (z : Rank) → IsRank z → IsSettled k fs z

  pub ranking_is : (k : ℕ) → IsRanking k (ranked segs p k)
  ranking_is k =
      subst (IsRanking k) (sym (ranked_take k)) (record {
        order = take_ranked k all_in_order sorted_is.ranked_is;
        real = λ z c. sorted_is.real z (in_take k all_in_order z c);
        settled = λ z h. take_settled k all_in_order sorted_is.ranked_is z (in_order z h);
      })

  pub ranking_few : (k : ℕ) → length (ranked segs p k) ≤ k
  ranking_few k = subst (λ (t : List Rank). length t ≤ k) (sym (ranked_take k)) (take_few k all_in_order)

  pub ranking_from : (k : ℕ) (rs : List Rank) → length rs ≤ k → IsRanking k rs → rs ≡ ranked segs p k
  ranking_from k rs few h =
      let s = sorted_is in
      let first = first_of rs all_in_order h.order s.ranked_is (λ z c. in_order z (h.real z c))
      (λ z c. ⊎_elim (λ d. inl d) (λ w. inr w.1) (h.settled z (s.real z c))) in
      ⊎_elim
      (λ lt.
      let all = λ (z : Rank) (c : Contains all_in_order z). ⊎_elim {C = Contains rs z} (λ d. d) (λ w. absurd (let l = w.0 in omega arith))
      (h.settled z (s.real z c)) in
      let le = sub_length all_in_order rs s.ranked_is h.order all in
      first ∙ take_all (length rs) all_in_order le ∙ sym (take_all k all_in_order (omega arith)) ∙ sym (ranked_take k))
      (λ ge. first ∙ ap (λ j. take j all_in_order) (let e : length rs ≡ k = omega arith in e) ∙ sym (ranked_take k))
      (cases_lt (length rs) k)

  -- ---- one more segment
  -- where k are ahead of z, k are after one more came
  record AllAhead (k : ℕ) (rs : List Rank) (z : Rank) : Type 0 where
    full : length rs ≡ k
    each : (y : Rank) → Contains rs y → Ahead y z

  cut_by : (f : Rank) (fs : List Rank) (x z : Rank) (k : ℕ) (same before : Bool) → eqb f.0 x.0 ≡ same → comes_first x f ≡ before → IsRank x
      → IsRank z → ((y : Rank) → Contains (f ∷ fs) y → IsRank y) → length fs ≡ k
      → ((y : Rank) → Contains (f ∷ fs) y → Ahead y z) → AllAhead k (take k (put fs x)) z
      → AllAhead (suc k) (take (suc k) (cond same (f ∷ fs) (cond before (x ∷ f ∷ fs) (f ∷ put fs x)))) z
  cut_by f fs x z k true before es eb ix iz real long each rest =
      let l = length-take-le k fs (omega arith) in
      record { full = omega arith; each = λ y c. each y (in_take (suc k) (f ∷ fs) y c) }
  cut_by f fs x z k false true es eb ix iz real long each rest =
      let l = length-take-le k (f ∷ fs) (omega arith) in
      let before = first_ahead IsRank rank_positive one_rank x f (eqb-false f.0 x.0 es) eb in
      let own = ahead x f z ix (real f (Contains-here f fs)) iz before (each f (Contains-here f fs)) in
      record {
        full = omega arith;
        each = λ y c. ⊎_elim (λ is. subst (λ (t : Rank). Ahead t z) is own) (λ d. each y (in_take k (f ∷ fs) y d))
            (Contains-cons_cases x (take k (f ∷ fs)) y c);
      }
  cut_by f fs x z k false false es eb ix iz real long each rest =
      let l = rest.full in
      record {
        full = omega arith;
        each = λ y c. ⊎_elim (λ is. subst (λ (t : Rank). Ahead t z) is (each f (Contains-here f fs))) (λ d. rest.each y d)
            (Contains-cons_cases f (take k (put fs x)) y c);
      }

  cut_put : (k : ℕ) (rs : List Rank) (x z : Rank) → IsRank x → IsRank z → ((y : Rank) → Contains rs y → IsRank y) → length rs ≡ k
      → ((y : Rank) → Contains rs y → Ahead y z) → AllAhead k (take k (put rs x)) z
  cut_put zero rs x z ix iz real long each = record { full = refl; each = λ y c. absurd (Contains-nil y c) }
  cut_put (suc k) [] x z ix iz real long each = absurd (let no : ⊥ = omega arith in no)
  cut_put (suc k) (f ∷ fs) x z ix iz real long each =
      cut_by f fs x z k (eqb f.0 x.0) (comes_first x f) refl refl ix iz real (omega arith) each
      (cut_put k fs x z ix iz (λ y c. real y (Contains-there f fs y c)) (omega arith) (λ y c. each y (Contains-there f fs y c)))

  -- what a list of segments does to the first k
  pub record Steps (k : ℕ) (rs : List Rank) (list : List (ℕ × Seg)) (now : List Rank) : Type 0 where
    pub order : AreRanked now
    pub real : (z : Rank) → Contains now z → IsRank z
    pub few : length now ≤ k
    pub here : (e : ℕ × Seg) → Contains list e → IsSettled k now (far_of p e)
    pub kept : (z : Rank) → IsRank z → IsSettled k rs z → IsSettled k now z

  pub steps : (k : ℕ) (rs : List Rank) (list : List (ℕ × Seg)) → ((e : ℕ × Seg) → Contains list e → Contains (finmap.entries segs) e) → AreRanked rs
      → ((z : Rank) → Contains rs z → IsRank z) → length rs ≤ k
      → Steps k rs list (fold (with_ranked p k) rs list)
  steps k rs [] in' order real few = record { order = order; real = real; few = few; here = λ e c. absurd (Contains-nil e c); kept = λ z i s. s }
  steps k rs (x ∷ xs) in' order real few =
      let e = far_of p x in
      let i = rank_of x (in' x (Contains-here x xs)) in
      let u = put_is rs e i real order in
      let now = take k (put rs e) in
      let now_real = λ (z : Rank) (c : Contains now z). ⊎_elim {C = IsRank z} (λ is. subst IsRank is i) (λ d. real z d) (u.real z (in_take k (put rs e) z c)) in
      let keeps = λ (z : Rank) (iz : IsRank z) (s : IsSettled k rs z). ⊎_elim {C = IsSettled k now z}
      (λ c. take_settled k (put rs e) u.ranked z (u.kept z c)) (λ w. let a = cut_put k rs e z i iz real w.0 w.1 in inr (a.full, a.each)) s in
      let more = steps k now xs (λ y c. in' y (Contains-there x xs y c)) (take_ranked k (put rs e) u.ranked) now_real (take_few k (put rs e)) in
      let same : added rs e ≡ put rs e = added_put IsRank rank_positive one_rank rs e i real in
      subst (λ (t : List Rank). Steps k rs (x ∷ xs) (fold (with_ranked p k) (take k t) xs)) (sym same)
      (record {
        order = more.order;
        real = more.real;
        few = more.few;
        here =
            λ y c. ⊎_elim (λ is. more.kept (far_of p y) (rank_of y (in' y c))
            (subst (λ (t : ℕ × Seg). IsSettled k now (far_of p t)) is (take_settled k (put rs e) u.ranked e u.here))) (λ d. more.here y d)
            (Contains-cons_cases x xs y c);
        kept = λ z iz s. more.kept z iz (keeps z iz s);
      })
