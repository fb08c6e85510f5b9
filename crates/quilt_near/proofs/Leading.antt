-- The best so far, by distance and then id, against the segments that were seen.
use Rattle.std.proofs.Common.{◌≡◌, ℕ, ◌<◌, ◌≤◌, Bool, true, false, cond, ⊎_elim, List, [], ◌∷◌, Option, Some, None, fold, Contains, nat_le, not, ◌&&◌, ◌||◌}
use Rattle.std.proofs.Common.{refl, sym, subst, arith, leb-true, leb-false, ltb-true}
use Rattle.std.specs.FinMap as finmap
use Rattle.quilt_types.specs.declared.plane.Pixel.{Pixel}
use Rattle.quilt_types.specs.declared.plane.Seg.{Seg}
use Rattle.quilt_types.specs.Layers.{SegMap}
use Rattle.quilt_types.specs.Fractions.{Fraction, is_less}
use Rattle.quilt_types.specs.Segments.{square_distance, nearest}
use Rattle.quilt_clip.specs.Fractions.{UpTo}
use Rattle.quilt_types.proofs.Members.{Contains-nil, Contains-here, Contains-there, Contains-cons_cases}
use Rattle.quilt_clip.proofs.Orders.{up_to_itself, up_to_trans, up_to_if_less, up_to_unless_less}
use Rattle.quilt_types.specs.Ranking.{comes_first}
use Rattle.quilt_near.specs.Choices.{better_seg}
use Rattle.quilt_near.proofs.Bounds.{nearest_point}
use Rattle.quilt_near.proofs.Leasts.{nearest_from, nearest_is}

-- a comes before b, by distance and then id
pub record Leads (a b : ℕ × Fraction) : Type 0 where
  pub near : UpTo a.1 b.1
  pub first : UpTo b.1 a.1 → a.0 ≤ b.0

abbrev pub IsLed : Option (ℕ × Fraction) → ℕ × Fraction → Type 0
IsLed None b = ⊥
IsLed (Some a) b = Leads a b

-- it is one of the segments with its distance
pub record IsOne (p : Pixel) (es : List (ℕ × Seg)) (r : ℕ × Fraction) : Type 0 where
  pub seg : Seg
  pub listed : Contains es (r.0, seg)
  pub distance : square_distance p seg ≡ r.1

abbrev pub IsReal : Pixel → List (ℕ × Seg) → Option (ℕ × Fraction) → Type 0
IsReal p es None = Unit {0}
IsReal p es (Some r) = IsOne p es r

abbrev pub far_of : Pixel → ℕ × Seg → ℕ × Fraction
far_of p e = (e.0, square_distance p e.1)

pub positive : (p : Pixel) (s : Seg) → 0 < (square_distance p s).den
positive p s = (nearest_point p s).1.positive

pub real_positive : (p : Pixel) (es : List (ℕ × Seg)) (r : ℕ × Fraction) → IsOne p es r → 0 < r.1.den
real_positive p es r h = subst (λ (z : Fraction). 0 < z.den) h.distance (positive p h.seg)

not_less : (a b : Fraction) → is_less a b ≡ true → UpTo b a → ⊥
not_less a b h u = let lt = ltb-true _ _ h in let c = u.cross in omega arith

pub leads_itself : (a : ℕ × Fraction) → Leads a a
leads_itself a = record { near = up_to_itself a.1; first = λ _. omega arith }

pub leads_trans : (a b c : ℕ × Fraction) → 0 < a.1.den → 0 < b.1.den → 0 < c.1.den → Leads a b → Leads b c → Leads a c
leads_trans a b c pa pb pc h k = record {
  near = up_to_trans a.1 b.1 c.1 pb h.near k.near;
  first = λ u.
      let ba = up_to_trans b.1 c.1 a.1 pc k.near u in
      let cb = up_to_trans c.1 a.1 b.1 pa u h.near in
      let i = h.first ba in
      let j = k.first cb in
      omega arith;
}

pub first_leads : (a b : ℕ × Fraction) (s t u : Bool) → is_less a.1 b.1 ≡ s → is_less b.1 a.1 ≡ t → nat_le a.0 b.0 ≡ u → (s || (not t && u)) ≡ true → Leads a b
first_leads a b true t u e f g h = record { near = up_to_if_less a.1 b.1 e; first = λ k. absurd (not_less a.1 b.1 e k) }
first_leads a b false false true e f g h = record { near = up_to_unless_less b.1 a.1 f; first = λ _. leb-true a.0 b.0 g }
first_leads a b false false false e f g h = cc
first_leads a b false true u e f g h = cc

pub last_leads : (a b : ℕ × Fraction) (s t u : Bool) → is_less a.1 b.1 ≡ s → is_less b.1 a.1 ≡ t → nat_le a.0 b.0 ≡ u → (s || (not t && u)) ≡ false → Leads b a
last_leads a b true t u e f g h = cc
last_leads a b false true u e f g h = record { near = up_to_unless_less a.1 b.1 e; first = λ k. absurd (not_less b.1 a.1 f k) }
last_leads a b false false false e f g h = record { near = up_to_unless_less a.1 b.1 e; first = λ _. let l = leb-false a.0 b.0 g in omega arith }
last_leads a b false false true e f g h = cc

-- what one more segment does to the best so far
pub record Improves (p : Pixel) (es : List (ℕ × Seg)) (old : Option (ℕ × Fraction)) (seen : List (ℕ × Seg)) (new : Option (ℕ × Fraction)) : Type 0 where
  pub real : IsReal p es new
  pub here : (e : ℕ × Seg) → Contains seen e → IsLed new (far_of p e)
  pub kept : (e : ℕ × Seg) → IsLed old (far_of p e) → IsLed new (far_of p e)

one_real : (p : Pixel) (es : List (ℕ × Seg)) (e : ℕ × Seg) → Contains es e → IsOne p es (far_of p e)
one_real p es e c = record { seg = e.1; listed = c; distance = refl }

record Step (p : Pixel) (es : List (ℕ × Seg)) (old : Option (ℕ × Fraction)) (e : ℕ × Seg) (new : Option (ℕ × Fraction)) : Type 0 where
  real : IsReal p es new
  here : IsLed new (far_of p e)
  kept : (f : ℕ × Seg) → IsLed old (far_of p f) → IsLed new (far_of p f)

step : (p : Pixel) (es : List (ℕ × Seg)) (old : Option (ℕ × Fraction)) (e : ℕ × Seg) → Contains es e → IsReal p es old → Step p es old e (better_seg p old e)
step p es None e c h = record { real = one_real p es e c; here = leads_itself (far_of p e); kept = λ f k. absurd k }
step p es (Some b) e c h =
    elim (comes_first (far_of p e) b) as (λ t. comes_first (far_of p e) b ≡ t → Step p es (Some b) e (cond t (Some (far_of p e)) (Some b))) [
      | true ↦ λ t. let l = first_leads (far_of p e) b _ _ _ refl refl refl t in
          record {
            real = one_real p es e c;
            here = leads_itself (far_of p e);
            kept = λ f k. leads_trans (far_of p e) b (far_of p f) (positive p e.1) (real_positive p es b h) (positive p f.1) l k;
          }
      | false ↦ λ t. record { real = h; here = last_leads (far_of p e) b _ _ _ refl refl refl t; kept = λ f k. k }
    ] refl

-- and what a list of them does
pub improves : (p : Pixel) (es : List (ℕ × Seg)) (old : Option (ℕ × Fraction)) (seen : List (ℕ × Seg))
    → ((e : ℕ × Seg) → Contains seen e → Contains es e) → IsReal p es old → Improves p es old seen (fold (better_seg p) old seen)
improves p es old [] all h = record { real = h; here = λ e c. absurd (Contains-nil e c); kept = λ e k. k }
improves p es old (x ∷ xs) all h =
    let s = step p es old x (all x (Contains-here x xs)) h in
    let r = improves p es (better_seg p old x) xs (λ e c. all e (Contains-there x xs e c)) s.real in
    record {
      real = r.real;
      here = λ e c. ⊎_elim (λ is. subst (λ (z : ℕ × Seg). IsLed (fold (better_seg p) old (x ∷ xs)) (far_of p z)) is (r.kept x s.here))
          (λ d. r.here e d) (Contains-cons_cases x xs e c);
      kept = λ e k. r.kept e (s.kept e k);
    }

-- where it leads all of them it is the nearest
pub all_led : (segs : SegMap) (p : Pixel) (best : Option (ℕ × Fraction)) → IsReal p (finmap.entries segs) best
    → ((e : ℕ × Seg) → Contains (finmap.entries segs) e → IsLed best (far_of p e)) → best ≡ nearest segs p
all_led segs p (Some r) h led =
    sym (nearest_from segs p r
    (record { seg = h.seg; listed = h.listed; distance = h.distance; least = λ e c. (led e c).near; first = λ e c u. (led e c).first u }))
all_led segs p None h led = by (nearest segs p) refl
  where
    by : (o : Option (ℕ × Fraction)) → nearest segs p ≡ o → None ≡ nearest segs p
    by None e = sym e
    by (Some r) e = let n = nearest_is segs p r e in absurd (led (r.0, n.seg) n.listed)

pub less_leads : (a b : ℕ × Fraction) → is_less a.1 b.1 ≡ true → Leads a b
less_leads a b e = record { near = up_to_if_less a.1 b.1 e; first = λ k. absurd (not_less a.1 b.1 e k) }
