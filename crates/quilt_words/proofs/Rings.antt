-- Rings as they grow.
use Rattle.std.proofs.Common.{◌≡◌, ℕ, ◌+◌, ◌<◌, List, [], ◌∷◌, ◌++◌, length, take, get_or, refl, sym, ◌∙◌, ap, Some, slice_get}
use Rattle.std.proofs.lemmas.List.{take_more}
use Rattle.std.proofs.lemmas.Option.{get_or_from_slice_get, slice_get_within}
use Rattle.quilt_types.specs.declared.plane.Corner.{Corner}
use Rattle.quilt_types.specs.Rings.{with_corner}

-- a corner more in the last ring
pub corner_more : (rings : List (List Corner)) (ring : List Corner) (c : Corner) → with_corner (rings ++ ring ∷ []) c ≡ rings ++ (ring ++ c ∷ []) ∷ []
corner_more [] ring c = refl
corner_more (r ∷ []) ring c = refl
corner_more (r ∷ s ∷ rings) ring c = ap (λ (l : List (List Corner)). r ∷ l) (corner_more (s ∷ rings) ring c)

-- the ring with one corner more of those that it is to have
pub ring_more : (old all rings : List (List Corner)) (corners : List Corner) (i : ℕ) (d : Corner) → i < length corners → old ≡ rings ++ take i corners ∷ [] →
    all ≡ with_corner old (get_or corners i d) → all ≡ rings ++ take (i + 1) corners ∷ []
ring_more old all rings corners i d within is more =
    more ∙ ap (λ (l : List (List Corner)). with_corner l (get_or corners i d)) is ∙ corner_more rings (take i corners) (get_or corners i d)
    ∙ ap (λ (r : List Corner). rings ++ r ∷ []) (sym (take_more corners i d within))

-- the rings copied so far, with one more
pub copied_more : (rings copy new : List (List Corner)) (i : ℕ) (ring : List Corner) → slice_get rings i ≡ Some ring → copy ≡ take i rings
    → new ≡ copy ++ ring ∷ [] → new ≡ take (i + 1) rings
copied_more rings copy new i ring there so more =
    more ∙ ap (λ (l : List (List Corner)). l ++ ring ∷ []) so
    ∙ ap (λ (r : List Corner). take i rings ++ r ∷ []) (sym (get_or_from_slice_get rings i ring ring there))
    ∙ sym (take_more rings i ring (slice_get_within rings i ring there))
