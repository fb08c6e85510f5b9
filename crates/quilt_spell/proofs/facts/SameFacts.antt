-- `same_fact` and `is_fact_of` test what they say.
use Rattle.std.proofs.Common.{◌≡◌, ℕ, Bool, true, false, ◌&&◌, ◌||◌, List, [], ◌∷◌, refl, sym, ◌∙◌, ap, ap₂, subst, ⊎_elim, Contains, eqb, eqb-true, eq-eqb}
use Rattle.std.specs.List.{list_any}
use Rattle.std.specs.Str.{bytes_eq}
use Rattle.std.proofs.lemmas.Bool.{and_parts, and_from, cases_Bool}
use Rattle.std.proofs.lemmas.Slice.Eq.{bytes_eq-Decides}
use Rattle.quilt_types.specs.declared.plane.Block.{Block}
use Rattle.quilt_types.specs.declared.plane.Pixel.{Pixel}
use Rattle.quilt_types.specs.declared.plane.Seg.{Seg}
use Rattle.quilt_types.specs.Facts.{Fact, IsOfKind, HasColour, HoldsPoint, HoldsNoPoint, IsSegment, IsMetBy, IsMetByNone, same_block, same_pixel, same_seg}
use Rattle.quilt_types.specs.Facts.{same_fact, is_fact_of}
use Rattle.quilt_spell.specs.Changing.{is_among}
use Rattle.quilt_loc.proofs.Members.{Contains-nil, Contains-here, Contains-there, Contains-cons_cases}

pub itself : (a : ℕ) → eqb a a ≡ true
itself a = eq-eqb a a refl

pub block_is : (a b : Block) → same_block a b ≡ true → a ≡ b
block_is a b h =
    let u = and_parts (eqb a.x b.x && eqb a.y b.y) (eqb a.side b.side) h in
    let v = and_parts (eqb a.x b.x) (eqb a.y b.y) u.0 in
    let x = eqb-true a.x b.x v.0 in
    let y = eqb-true a.y b.y v.1 in
    let s = eqb-true a.side b.side u.1 in
    λ i. record { x = x i; y = y i; side = s i }

pub block_itself : (a : Block) → same_block a a ≡ true
block_itself a = and_from _ _ (and_from _ _ (itself a.x) (itself a.y)) (itself a.side)

pixel_is : (a b : Pixel) → same_pixel a b ≡ true → a ≡ b
pixel_is a b h =
    let v = and_parts (eqb a.x b.x) (eqb a.y b.y) h in
    let x = eqb-true a.x b.x v.0 in
    let y = eqb-true a.y b.y v.1 in
    λ i. record { x = x i; y = y i }

pixel_itself : (a : Pixel) → same_pixel a a ≡ true
pixel_itself a = and_from _ _ (itself a.x) (itself a.y)

seg_is : (s t : Seg) → same_seg s t ≡ true → s ≡ t
seg_is s t h =
    let u = and_parts (eqb s.x1 t.x1 && eqb s.y1 t.y1 && eqb s.x2 t.x2) (eqb s.y2 t.y2) h in
    let v = and_parts (eqb s.x1 t.x1 && eqb s.y1 t.y1) (eqb s.x2 t.x2) u.0 in
    let w = and_parts (eqb s.x1 t.x1) (eqb s.y1 t.y1) v.0 in
    let a = eqb-true s.x1 t.x1 w.0 in
    let b = eqb-true s.y1 t.y1 w.1 in
    let c = eqb-true s.x2 t.x2 v.1 in
    let d = eqb-true s.y2 t.y2 u.1 in
    λ i. record { x1 = a i; y1 = b i; x2 = c i; y2 = d i }

seg_itself : (s : Seg) → same_seg s s ≡ true
seg_itself s = and_from _ _ (and_from _ _ (and_from _ _ (itself s.x1) (itself s.y1)) (itself s.x2)) (itself s.y2)

pub fact_is : (f g : Fact) → same_fact f g ≡ true → f ≡ g
fact_is (IsOfKind k t) (IsOfKind l u) h = let v = and_parts (eqb k l) (eqb t u) h in ap₂ IsOfKind (eqb-true k l v.0) (eqb-true t u v.1)
fact_is (HasColour a c) (HasColour b d) h = let v = and_parts (same_block a b) (eqb c d) h in ap₂ HasColour (block_is a b v.0) (eqb-true c d v.1)
fact_is (HoldsPoint a p k) (HoldsPoint b q l) h =
    let u = and_parts (same_block a b && same_pixel p q) (eqb k l) h in
    let v = and_parts (same_block a b) (same_pixel p q) u.0 in
    let x = block_is a b v.0 in
    let y = pixel_is p q v.1 in
    let z = eqb-true k l u.1 in
    λ i. HoldsPoint (x i) (y i) (z i)
fact_is (HoldsNoPoint a) (HoldsNoPoint b) h = ap HoldsNoPoint (block_is a b h)
fact_is (IsSegment i s) (IsSegment j t) h = let v = and_parts (eqb i j) (same_seg s t) h in ap₂ IsSegment (eqb-true i j v.0) (seg_is s t v.1)
fact_is (IsMetBy a i) (IsMetBy b j) h = let v = and_parts (same_block a b) (eqb i j) h in ap₂ IsMetBy (block_is a b v.0) (eqb-true i j v.1)
fact_is (IsMetByNone a) (IsMetByNone b) h = ap IsMetByNone (block_is a b h)
fact_is f g h = cc

pub fact_itself : (f : Fact) → same_fact f f ≡ true
fact_itself (IsOfKind k t) = and_from _ _ (itself k) (itself t)
fact_itself (HasColour a c) = and_from _ _ (block_itself a) (itself c)
fact_itself (HoldsPoint a p k) = and_from _ _ (and_from _ _ (block_itself a) (pixel_itself p)) (itself k)
fact_itself (HoldsNoPoint a) = block_itself a
fact_itself (IsSegment i s) = and_from _ _ (itself i) (seg_itself s)
fact_itself (IsMetBy a i) = and_from _ _ (block_itself a) (itself i)
fact_itself (IsMetByNone a) = block_itself a

-- what `list_any` tests
pub any_member : {X : Type 0} (p : X → Bool) (xs : List X) → list_any p xs ≡ true → (x : X) × Contains xs x × (p x ≡ true)
any_member p [] h = cc
any_member p (x ∷ xs) h =
    ⊎_elim (λ t. (x, Contains-here x xs, t))
    (λ f. let r = any_member p xs (sym (ap (λ (b : Bool). b || list_any p xs) f) ∙ h) in (r.0, Contains-there x xs r.0 r.1, r.2))
    (cases_Bool (p x))

pub member_any : {X : Type 0} (p : X → Bool) (xs : List X) (x : X) → Contains xs x → p x ≡ true → list_any p xs ≡ true
member_any p [] x c h = absurd (Contains-nil x c)
member_any p (y ∷ ys) x c h =
    ⊎_elim (λ e. ap (λ (b : Bool). b || list_any p ys) (ap p e ∙ h))
    (λ d. ap (λ (b : Bool). p y || b) (member_any p ys x d h) ∙ right (p y)) (Contains-cons_cases y ys x c)
  where
    right : (b : Bool) → b || true ≡ true
    right true = refl
    right false = refl

pub among_from : (fs : List Fact) (f : Fact) → is_among fs f ≡ true → Contains fs f
among_from fs f h = let m = any_member (same_fact f) fs h in subst (Contains fs) (sym (fact_is f m.0 m.2)) m.1

pub among_is : (fs : List Fact) (f : Fact) → Contains fs f → is_among fs f ≡ true
among_is fs f c = member_any (same_fact f) fs f c (fact_itself f)

pub fact_of_from : (fs : List (List ℕ × Fact)) (f : List ℕ × Fact) → is_fact_of fs f ≡ true → Contains fs f
fact_of_from fs f h =
    let test : List ℕ × Fact → Bool = λ g. bytes_eq f.0 g.0 && same_fact f.1 g.1 in
    let m = any_member test fs h in
    let u = and_parts (bytes_eq f.0 m.0.0) (same_fact f.1 m.0.1) m.2 in
    let name = (bytes_eq-Decides f.0 m.0.0).0 u.0 in
    let fact = fact_is f.1 m.0.1 u.1 in
    let pair : m.0 ≡ f = λ i. (sym name i, sym fact i) in
    subst (Contains fs) pair m.1

pub fact_of_is : (fs : List (List ℕ × Fact)) (f : List ℕ × Fact) → Contains fs f → is_fact_of fs f ≡ true
fact_of_is fs f c =
    member_any (λ (g : List ℕ × Fact). bytes_eq f.0 g.0 && same_fact f.1 g.1) fs f c
    (and_from (bytes_eq f.0 f.0) (same_fact f.1 f.1) ((bytes_eq-Decides f.0 f.0).1 refl) (fact_itself f.1))
