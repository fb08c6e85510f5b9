-- What `clip_range` and `meets` say: the laws.
use Rattle.std.proofs.Common.{◌≡◌, ℕ, ◌+◌, ◌-◌, ◌*◌, ◌<◌, ◌≤◌, ◌⊎◌, inl, inr, ⊎_elim, ◌↔◌, Bool, true, cond, List, [], ◌∷◌, ◌++◌, Some, None, refl, ap, ◌∙◌}
use Rattle.std.proofs.Common.{subst, arith, Contains, All, filter}
use Rattle.std.specs.Prelude.{is_some}
use Rattle.std.proofs.lemmas.Bool.{cond_both, and_parts, and_from, ltb-true, leb-true, le-leb, lt-ltb}
use Rattle.std.proofs.lemmas.List.Elements.{All-nil, All-cons, All-append, All-contains, All-filter, All-weaker, All-head, All-tail, Contains-append_left}
use Rattle.std.proofs.lemmas.List.Elements.{Contains-append_right}
use Rattle.quilt_types.specs.declared.plane.Window.{Window}
use Rattle.quilt_types.specs.declared.plane.Seg.{Seg}
use Rattle.quilt_types.specs.Fractions.{Fraction, lowest, is_less}
use Rattle.quilt_types.specs.Segments.{crossing, stops, is_in, least_of, greatest_of, ends_of, clip_range, meets, Meets, is_on, IsClipRange}
use Rattle.quilt_clip.specs.Fractions.{IsReduced, UpTo}
use Rattle.quilt_clip.specs.Spans.{IsOn, Above, Below, Inside}
use Rattle.quilt_types.proofs.Members.{Contains-nil, Contains-here, Contains-there, Contains-cons_cases, Contains-filter, Contains-filter_from}
use Rattle.quilt_clip.proofs.Orders.{up_to_itself, up_to_trans, up_to_if_less, up_to_unless_less}
use Rattle.quilt_clip.proofs.Lowest.{lowest_is, lowest_reduced, reduced_same}
use Rattle.quilt_clip.proofs.Stretches.{Stretch, start, finish, start_on, finish_on, lowest_on, stretch_both, stretch_weaker}
use Rattle.quilt_clip.proofs.Sides.{stretch_above, stretch_below}

-- ---- the point at t is in the window
pub inside_if : (s : Seg) (w : Window) (t : Fraction) → is_in s w t ≡ true → Inside s w t
inside_if s w t h =
    let both = and_parts _ _ h in
    let x = and_parts _ _ both.0 in
    let y = and_parts _ _ both.1 in
    record {
      left = record { fact = leb-true _ _ x.0 };
      right = record { fact = leb-true _ _ x.1 };
      top = record { fact = leb-true _ _ y.0 };
      bottom = record { fact = leb-true _ _ y.1 };
    }

pub inside_then : (s : Seg) (w : Window) (t : Fraction) → Inside s w t → is_in s w t ≡ true
inside_then s w t h =
    and_from _ _ (and_from _ _ (le-leb _ _ h.left.fact) (le-leb _ _ h.right.fact)) (and_from _ _ (le-leb _ _ h.top.fact) (le-leb _ _ h.bottom.fact))

-- ---- stops
-- a fraction from 0 to 1 in lowest terms
pub record IsPoint (t : Fraction) : Type 0 where
  pub on : IsOn t
  pub reduced : IsReduced t

pub lowest_point : (m k : ℕ) → 0 < k → m ≤ k → IsPoint (lowest m k)
lowest_point m k pos small = record { on = lowest_on m k pos small; reduced = lowest_reduced m k (lowest m k) pos (lowest_is m k pos) }

start_point : IsPoint start
start_point = record {
  on = start_on;
  reduced = lowest_reduced 0 1 start (omega arith) (record { same = refl; positive = omega arith; least = λ n d pos e. omega arith });
}

finish_point : IsPoint finish
finish_point = record {
  on = finish_on;
  reduced = lowest_reduced 1 1 finish (omega arith) (record { same = refl; positive = omega arith; least = λ n d pos e. omega arith });
}

crossing_points : (a b c : ℕ) → All IsPoint (crossing a b c)
crossing_points a b c =
    cond_both _ _ _ (All IsPoint)
    (λ h. let p = and_parts _ _ h in let q = and_parts _ _ p.0 in let ab = ltb-true a b q.0 in let ac = leb-true a c q.1 in let cb = leb-true c b p.1 in
    All-cons IsPoint _ [] (lowest_point (c - a) (b - a) (omega arith) (omega arith)) (All-nil IsPoint))
    (λ _. cond_both _ _ _ (All IsPoint)
    (λ h. let p = and_parts _ _ h in let q = and_parts _ _ p.0 in let ab = ltb-true b a q.0 in let ac = leb-true b c q.1 in let cb = leb-true c a p.1 in
    All-cons IsPoint _ [] (lowest_point (a - c) (a - b) (omega arith) (omega arith)) (All-nil IsPoint))
    (λ _. All-nil IsPoint))

pub stops_points : (s : Seg) (w : Window) → All IsPoint (stops s w)
stops_points s w =
    let c1 = crossing s.x1 s.x2 w.x in
    let c2 = crossing s.x1 s.x2 (w.x + w.w) in
    let c3 = crossing s.y1 s.y2 w.y in
    let c4 = crossing s.y1 s.y2 (w.y + w.h) in
    All-append IsPoint (start ∷ finish ∷ c1 ++ c2 ++ c3) c4
    (All-append IsPoint (start ∷ finish ∷ c1 ++ c2) c3
    (All-append IsPoint (start ∷ finish ∷ c1) c2
    (All-cons IsPoint start (finish ∷ c1) start_point (All-cons IsPoint finish c1 finish_point (crossing_points s.x1 s.x2 w.x)))
    (crossing_points s.x1 s.x2 (w.x + w.w)))
    (crossing_points s.y1 s.y2 w.y))
    (crossing_points s.y1 s.y2 (w.y + w.h))

-- where each piece of the list of stops lies in it
module _ (c1 c2 c3 c4 : List Fraction) (f : Fraction) where
  early : (x : Fraction) → Contains (start ∷ finish ∷ c1) x → Contains (start ∷ finish ∷ c1 ++ c2 ++ c3 ++ c4) x
  early x h = Contains-append_left (start ∷ finish ∷ c1 ++ c2 ++ c3) c4 x
      (Contains-append_left (start ∷ finish ∷ c1 ++ c2) c3 x (Contains-append_left (start ∷ finish ∷ c1) c2 x h))

  listed_start : Contains (start ∷ finish ∷ c1 ++ c2 ++ c3 ++ c4) start
  listed_start = early start (Contains-here start (finish ∷ c1))

  listed_finish : Contains (start ∷ finish ∷ c1 ++ c2 ++ c3 ++ c4) finish
  listed_finish = early finish (Contains-there start (finish ∷ c1) finish (Contains-here finish c1))

  listed_1 : Contains c1 f → Contains (start ∷ finish ∷ c1 ++ c2 ++ c3 ++ c4) f
  listed_1 h = early f (Contains-there start (finish ∷ c1) f (Contains-there finish c1 f h))

  listed_2 : Contains c2 f → Contains (start ∷ finish ∷ c1 ++ c2 ++ c3 ++ c4) f
  listed_2 h = Contains-append_left (start ∷ finish ∷ c1 ++ c2 ++ c3) c4 f
      (Contains-append_left (start ∷ finish ∷ c1 ++ c2) c3 f (Contains-append_right (start ∷ finish ∷ c1) c2 f h))

  listed_3 : Contains c3 f → Contains (start ∷ finish ∷ c1 ++ c2 ++ c3 ++ c4) f
  listed_3 h = Contains-append_left (start ∷ finish ∷ c1 ++ c2 ++ c3) c4 f (Contains-append_right (start ∷ finish ∷ c1 ++ c2) c3 f h)

  listed_4 : Contains c4 f → Contains (start ∷ finish ∷ c1 ++ c2 ++ c3 ++ c4) f
  listed_4 h = Contains-append_right (start ∷ finish ∷ c1 ++ c2 ++ c3) c4 f h

-- round a point in the window, a stretch between stops is in it
pub stretch_inside : (s : Seg) (w : Window) (t : Fraction) → IsOn t → Inside s w t → Stretch (stops s w) (Inside s w) t
stretch_inside s w t on h =
    let c1 = crossing s.x1 s.x2 w.x in
    let c2 = crossing s.x1 s.x2 (w.x + w.w) in
    let c3 = crossing s.y1 s.y2 w.y in
    let c4 = crossing s.y1 s.y2 (w.y + w.h) in
    let S = stops s w in
    let zero_in = listed_start c1 c2 c3 c4 start in
    let one_in = listed_finish c1 c2 c3 c4 start in
    let A = Above s.x1 s.x2 w.x in
    let B = Below s.x1 s.x2 (w.x + w.w) in
    let C = Above s.y1 s.y2 w.y in
    let D = Below s.y1 s.y2 (w.y + w.h) in
    let a = stretch_above S zero_in one_in t on s.x1 s.x2 w.x (listed_1 c1 c2 c3 c4) h.left in
    let b = stretch_below S zero_in one_in t on s.x1 s.x2 (w.x + w.w) (listed_2 c1 c2 c3 c4) h.right in
    let c = stretch_above S zero_in one_in t on s.y1 s.y2 w.y (listed_3 c1 c2 c3 c4) h.top in
    let d = stretch_below S zero_in one_in t on s.y1 s.y2 (w.y + w.h) (listed_4 c1 c2 c3 c4) h.bottom in
    let AB : Fraction → Type 0 = λ v. A v × B v in
    let CD : Fraction → Type 0 = λ v. C v × D v in
    stretch_weaker S (λ v. AB v × CD v) (Inside s w) t (λ v o p. record { left = p.0.0; right = p.0.1; top = p.1.0; bottom = p.1.1 })
    (stretch_both S AB CD t (stretch_both S A B t a b) (stretch_both S C D t c d))

-- ---- the least and the greatest of a list
record IsLeast (xs : List Fraction) (r : Fraction) : Type 0 where
  listed : Contains xs r
  below : (x : Fraction) → Contains xs x → UpTo r x

record IsGreatest (xs : List Fraction) (r : Fraction) : Type 0 where
  listed : Contains xs r
  above : (x : Fraction) → Contains xs x → UpTo x r

abbrev Positive : Fraction → Type 0
Positive x = 0 < x.den

record Lower (t x u : Fraction) : Type 0 where
  one : (t ≡ u) ⊎ (x ≡ u)
  first : UpTo u t
  second : UpTo u x

lower : (t x : Fraction) → Lower t x (cond (is_less x t) x t)
lower t x = cond_both (is_less x t) x t (Lower t x)
    (λ h. record { one = inr refl; first = up_to_if_less x t h; second = up_to_itself x })
    (λ h. record { one = inl refl; first = up_to_itself t; second = up_to_unless_less x t h })

record Upper (t x u : Fraction) : Type 0 where
  one : (t ≡ u) ⊎ (x ≡ u)
  first : UpTo t u
  second : UpTo x u

upper : (t x : Fraction) → Upper t x (cond (is_less t x) x t)
upper t x = cond_both (is_less t x) x t (Upper t x)
    (λ h. record { one = inr refl; first = up_to_if_less t x h; second = up_to_itself x })
    (λ h. record { one = inl refl; first = up_to_itself t; second = up_to_unless_less t x h })

least_more : (t x u : Fraction) (xs : List Fraction) (r : Fraction) → Positive u → Lower t x u → IsLeast (u ∷ xs) r → IsLeast (t ∷ x ∷ xs) r
least_more t x u xs r pos p ih =
    let at_u : UpTo r u = ih.below u (Contains-here u xs) in
    record {
      listed = ⊎_elim
          (λ e. ⊎_elim (λ tu. subst (Contains (t ∷ x ∷ xs)) (tu ∙ e) (Contains-here t (x ∷ xs)))
          (λ xu. Contains-there t (x ∷ xs) r (subst (Contains (x ∷ xs)) (xu ∙ e) (Contains-here x xs))) p.one)
          (λ c. Contains-there t (x ∷ xs) r (Contains-there x xs r c))
          (Contains-cons_cases u xs r ih.listed);
      below = λ y c. ⊎_elim
          (λ e. subst (UpTo r) e (up_to_trans r u t pos at_u p.first))
          (λ d. ⊎_elim (λ e. subst (UpTo r) e (up_to_trans r u x pos at_u p.second)) (λ k. ih.below y (Contains-there u xs y k)) (Contains-cons_cases x xs y d))
          (Contains-cons_cases t (x ∷ xs) y c);
    }

picked_positive : (b : Bool) (t x : Fraction) (xs : List Fraction) → All Positive (t ∷ x ∷ xs) → All Positive (cond b x t ∷ xs)
picked_positive b t x xs h =
    let rest = All-tail Positive t (x ∷ xs) h in
    All-cons Positive (cond b x t) xs (cond_both b x t Positive (λ _. All-head Positive x xs rest) (λ _. All-head Positive t (x ∷ xs) h))
    (All-tail Positive x xs rest)

least_is : (t : Fraction) (ts : List Fraction) → All Positive (t ∷ ts) → IsLeast (t ∷ ts) (least_of t ts)
least_is t [] pos = record {
  listed = Contains-here t [];
  below = λ x c. ⊎_elim (λ e. subst (UpTo t) e (up_to_itself t)) (λ d. absurd (Contains-nil x d)) (Contains-cons_cases t [] x c);
}
least_is t (x ∷ xs) pos =
    let u = cond (is_less x t) x t in
    let kept = picked_positive (is_less x t) t x xs pos in
    least_more t x u xs (least_of u xs) (All-head Positive u xs kept) (lower t x) (least_is u xs kept)

greatest_more : (t x u : Fraction) (xs : List Fraction) (r : Fraction) → Positive u → Upper t x u → IsGreatest (u ∷ xs) r → IsGreatest (t ∷ x ∷ xs) r
greatest_more t x u xs r pos p ih =
    let at_u : UpTo u r = ih.above u (Contains-here u xs) in
    record {
      listed = ⊎_elim
          (λ e. ⊎_elim (λ tu. subst (Contains (t ∷ x ∷ xs)) (tu ∙ e) (Contains-here t (x ∷ xs)))
          (λ xu. Contains-there t (x ∷ xs) r (subst (Contains (x ∷ xs)) (xu ∙ e) (Contains-here x xs))) p.one)
          (λ c. Contains-there t (x ∷ xs) r (Contains-there x xs r c))
          (Contains-cons_cases u xs r ih.listed);
      above = λ y c. ⊎_elim
          (λ e. subst (λ (z : Fraction). UpTo z r) e (up_to_trans t u r pos p.first at_u))
          (λ d. ⊎_elim (λ e. subst (λ (z : Fraction). UpTo z r) e (up_to_trans x u r pos p.second at_u)) (λ k. ih.above y (Contains-there u xs y k))
          (Contains-cons_cases x xs y d))
          (Contains-cons_cases t (x ∷ xs) y c);
    }

greatest_is : (t : Fraction) (ts : List Fraction) → All Positive (t ∷ ts) → IsGreatest (t ∷ ts) (greatest_of t ts)
greatest_is t [] pos = record {
  listed = Contains-here t [];
  above = λ x c. ⊎_elim (λ e. subst (λ (z : Fraction). UpTo z t) e (up_to_itself t)) (λ d. absurd (Contains-nil x d)) (Contains-cons_cases t [] x c);
}
greatest_is t (x ∷ xs) pos =
    let u = cond (is_less t x) x t in
    let kept = picked_positive (is_less t x) t x xs pos in
    greatest_more t x u xs (greatest_of u xs) (All-head Positive u xs kept) (upper t x) (greatest_is u xs kept)

-- ---- the laws
-- Both ends are fractions from 0 to 1 in lowest terms whose points lie in the window, and each point of the segment that does lies between them.
pub record IsClip (s : Seg) (w : Window) (ends : Fraction × Fraction) : Type 0 where
  pub first : IsPoint ends.0
  pub last : IsPoint ends.1
  pub first_in : is_in s w ends.0 ≡ true
  pub last_in : is_in s w ends.1 ≡ true
  pub between : (t : Fraction) → IsOn t → is_in s w t ≡ true → UpTo ends.0 t × UpTo t ends.1

-- the stops in the window
abbrev stops_in : Seg → Window → List Fraction
stops_in s w = filter (is_in s w) (stops s w)

record Ends (xs : List Fraction) (ends : Fraction × Fraction) : Type 0 where
  least : IsLeast xs ends.0
  greatest : IsGreatest xs ends.1

ends_some : (xs : List Fraction) (ends : Fraction × Fraction) → All Positive xs → ends_of xs ≡ Some ends → Ends xs ends
ends_some [] ends pos e = absurd (cc)
ends_some (t ∷ ts) ends pos e =
    let same : (least_of t ts, greatest_of t ts) ≡ ends = cc in
    subst (Ends (t ∷ ts)) same (record { least = least_is t ts pos; greatest = greatest_is t ts pos })

ends_none : (xs : List Fraction) (x : Fraction) → ends_of xs ≡ None → Contains xs x → ⊥
ends_none [] x e c = Contains-nil x c
ends_none (t ∷ ts) x e c = cc

pub on_if : (t : Fraction) → is_on t ≡ true → IsOn t
on_if t h = let p = and_parts _ _ h in record { positive = ltb-true _ _ p.0; within = leb-true _ _ p.1 }

pub on_then : (t : Fraction) → IsOn t → is_on t ≡ true
on_then t h = and_from _ _ (lt-ltb _ _ h.positive) (le-leb _ _ h.within)

stops_positive : (s : Seg) (w : Window) → All Positive (stops_in s w)
stops_positive s w = All-filter (is_in s w) Positive (stops s w) (All-weaker IsPoint Positive (λ x r. r.on.positive) (stops s w) (stops_points s w))

-- a stop in the window is one of those
stop_is_in : (s : Seg) (w : Window) (t : Fraction) → Contains (stops s w) t → Inside s w t → Contains (stops_in s w) t
stop_is_in s w t c h = Contains-filter (is_in s w) (stops s w) t c (inside_then s w t h)

clip_from_ends : (s : Seg) (w : Window) (ends : Fraction × Fraction) → Ends (stops_in s w) ends → IsClip s w ends
clip_from_ends s w ends e =
    let a = Contains-filter_from (is_in s w) (stops s w) ends.0 e.least.listed in
    let b = Contains-filter_from (is_in s w) (stops s w) ends.1 e.greatest.listed in
    let ra : IsPoint ends.0 = All-contains IsPoint (stops s w) ends.0 (stops_points s w) a.0 in
    let rb : IsPoint ends.1 = All-contains IsPoint (stops s w) ends.1 (stops_points s w) b.0 in
    record {
      first = ra;
      last = rb;
      first_in = a.1;
      last_in = b.1;
      between = λ t on h.
          let x = stretch_inside s w t on (inside_if s w t h) in
          let low : Inside s w x.low = x.keeps x.low x.low_on (up_to_itself x.low) (up_to_trans x.low t x.high on.positive x.begins x.ends) in
          let high : Inside s w x.high = x.keeps x.high x.high_on (up_to_trans x.low t x.high on.positive x.begins x.ends) (up_to_itself x.high) in (
            up_to_trans ends.0 x.low t x.low_on.positive (e.least.below x.low (stop_is_in s w x.low x.low_listed low)) x.begins,
            up_to_trans t x.high ends.1 x.high_on.positive x.ends (e.greatest.above x.high (stop_is_in s w x.high x.high_listed high)),
          );
    }

-- what `clip_range` gives is the clip
pub clip_some : (s : Seg) (w : Window) (ends : Fraction × Fraction) → clip_range s w ≡ Some ends → IsClip s w ends
unfolding clip_range
clip_some s w ends e = clip_from_ends s w ends (ends_some (stops_in s w) ends (stops_positive s w) e)

-- where it gives none no point of the segment lies in the window
pub clip_none : (s : Seg) (w : Window) → clip_range s w ≡ None → (t : Fraction) → IsOn t → is_in s w t ≡ true → ⊥
unfolding clip_range
clip_none s w e t on h =
    let x = stretch_inside s w t on (inside_if s w t h) in
    let low : Inside s w x.low = x.keeps x.low x.low_on (up_to_itself x.low) (up_to_trans x.low t x.high on.positive x.begins x.ends) in
    ends_none (stops_in s w) x.low e (stop_is_in s w x.low x.low_listed low)

points_same : (a b : Fraction) → IsPoint a → IsPoint b → UpTo a b → UpTo b a → a ≡ b
points_same a b pa pb ab ba =
    let cross : a.num * b.den ≡ b.num * a.den = (let x = ab.cross in let y = ba.cross in omega arith) in
    reduced_same a b pa.reduced pb.reduced cross

-- there is one clip at most
pub clip_same : (s : Seg) (w : Window) (e f : Fraction × Fraction) → IsClip s w e → IsClip s w f → e ≡ f
clip_same s w e f a b =
    let p = a.between f.0 b.first.on b.first_in in
    let q = b.between e.0 a.first.on a.first_in in
    let r = a.between f.1 b.last.on b.last_in in
    let t = b.between e.1 a.last.on a.last_in in
    let firsts : e.0 ≡ f.0 = points_same e.0 f.0 a.first b.first p.0 q.0 in
    let lasts : e.1 ≡ f.1 = points_same e.1 f.1 a.last b.last t.1 r.1 in
    let left : e ≡ (f.0, e.1) = ap (λ (z : Fraction). let pair : Fraction × Fraction = (z, e.1) in pair) firsts in
    let right : (f.0, e.1) ≡ f = ap (λ (z : Fraction). let pair : Fraction × Fraction = (f.0, z) in pair) lasts in
    left ∙ right

-- so whatever is the clip is what `clip_range` gives
pub clip_range_from : (s : Seg) (w : Window) (ends : Fraction × Fraction) → IsClip s w ends → clip_range s w ≡ Some ends
clip_range_from s w ends h =
    elim (clip_range s w) as (λ o. clip_range s w ≡ o → o ≡ Some ends) [
      | None ↦ λ e. absurd (clip_none s w e ends.0 h.first.on h.first_in)
      | Some f ↦ λ e. ap (λ (z : Fraction × Fraction). Some z) (clip_same s w f ends (clip_some s w f e) h)
    ] refl

pub clip_range_none : (s : Seg) (w : Window) → ((t : Fraction) → IsOn t → is_in s w t ≡ true → ⊥) → clip_range s w ≡ None
clip_range_none s w h =
    elim (clip_range s w) as (λ o. clip_range s w ≡ o → o ≡ None) [
      | None ↦ λ e. refl
      | Some f ↦ λ e. let c = clip_some s w f e in absurd (h f.0 c.first.on c.first_in)
    ] refl

-- `meets` is `Meets`
pub meets_law : (s : Seg) (w : Window) → (meets s w ≡ true) ↔ Meets s w
meets_law s w = (
  λ h. elim (clip_range s w) as (λ o. clip_range s w ≡ o → is_some o ≡ true → Meets s w) [
    | None ↦ λ e b. absurd (cc)
    | Some f ↦ λ e b. let c = clip_some s w f e in (f.0, on_then f.0 c.first.on, c.first_in)
  ] refl h,
  λ m. elim (clip_range s w) as (λ o. clip_range s w ≡ o → is_some o ≡ true) [
    | None ↦ λ e. absurd (clip_none s w e m.0 (on_if m.0 m.1) m.2)
    | Some f ↦ λ e. refl
  ] refl,
)

-- ---- the same, in the words of specs/
point_from : (t : Fraction) → IsOn t → t ≡ lowest t.num t.den → IsPoint t
point_from t on e = record { on = on; reduced = record { positive = on.positive; lowest_terms = e } }

pub is_clip_range : (s : Seg) (w : Window) (ends : Fraction × Fraction) → clip_range s w ≡ Some ends → IsClipRange s w ends
is_clip_range s w ends e =
    let c = clip_some s w ends e in
    record {
      first = record { on = on_then ends.0 c.first.on; lowest_terms = c.first.reduced.lowest_terms; inside = c.first_in };
      last = record { on = on_then ends.1 c.last.on; lowest_terms = c.last.reduced.lowest_terms; inside = c.last_in };
      between = λ t on h. let b = c.between t (on_if t on) h in (b.0.cross, b.1.cross);
    }

pub from_is_clip_range : (s : Seg) (w : Window) (ends : Fraction × Fraction) → IsClipRange s w ends → clip_range s w ≡ Some ends
from_is_clip_range s w ends h = clip_range_from s w ends (record {
  first = point_from ends.0 (on_if ends.0 h.first.on) h.first.lowest_terms;
  last = point_from ends.1 (on_if ends.1 h.last.on) h.last.lowest_terms;
  first_in = h.first.inside;
  last_in = h.last.inside;
  between = λ t on e. let b = h.between t (on_then t on) e in (record { cross = b.0 }, record { cross = b.1 });
})

pub clip_range-none : (s : Seg) (w : Window) → (clip_range s w ≡ None) ↔ (Meets s w → ⊥)
clip_range-none s w = (λ e m. clip_none s w e m.0 (on_if m.0 m.1) m.2, λ h. clip_range_none s w (λ t on i. h (t, on_then t on, i)))
