-- The edges of rings, one after another.
use Rattle.std.proofs.Common.{◌≡◌, ℕ, zero, suc, ◌+◌, ◌<◌, List, [], ◌∷◌, ◌++◌, length, get_or, take, drop, map, flat_map, refl, sym, ◌∙◌, ap, ap₂, arith}
use Rattle.std.proofs.Common.{add-one, append_assoc, append-nil}
use Rattle.std.proofs.Math.Seq.{drop-length}
use Rattle.std.proofs.lemmas.List.{map-append, take_more}
use Rattle.std.proofs.lemmas.Grind.{flat_map-append}
use Rattle.quilt_types.specs.declared.plane.Corner.{Corner}
use Rattle.quilt_types.specs.Polygons.{Edge, edge, edges_from, ring_edges}
use Rattle.quilt_poly.specs.declared.edges.RingEdge.{RingEdge}
use Rattle.quilt_poly.specs.Edges.{edge_of, edges_after}

inner_from : (first : Corner) (ring : List Corner) (i : ℕ) (d : Corner) → suc i < length ring
    → edges_from first (drop i ring) ≡ edge (get_or ring i d) (get_or ring (suc i) d) ∷ edges_from first (drop (suc i) ring)
inner_from first [] i d lt = absurd (omega arith)
inner_from first (c ∷ []) i d lt = absurd (omega arith)
inner_from first (c ∷ e ∷ cs) zero d lt = refl
inner_from first (c ∷ e ∷ cs) (suc i) d lt = inner_from first (e ∷ cs) i d (omega arith)

last_from : (first : Corner) (ring : List Corner) (i : ℕ) (d : Corner) → suc i ≡ length ring
    → edges_from first (drop i ring) ≡ edge (get_or ring i d) first ∷ edges_from first (drop (suc i) ring)
last_from first [] i d is = absurd (omega arith)
last_from first (c ∷ []) zero d is = refl
last_from first (c ∷ []) (suc i) d is = absurd (omega arith)
last_from first (c ∷ e ∷ cs) zero d is = absurd (omega arith)
last_from first (c ∷ e ∷ cs) (suc i) d is = last_from first (e ∷ cs) i d (omega arith)

pub inner_edge : (ring : List Corner) (i : ℕ) (d : Corner) → i + 1 < length ring
    → edges_after ring i ≡ edge (get_or ring i d) (get_or ring (i + 1) d) ∷ edges_after ring (i + 1)
unfolding edges_after
inner_edge [] i d lt = absurd (omega arith)
inner_edge (c ∷ cs) i d lt =
    inner_from c (c ∷ cs) i d (omega arith)
    ∙ sym (ap (λ j. edge (get_or (c ∷ cs) i d) (get_or (c ∷ cs) j d) ∷ edges_from c (drop j (c ∷ cs))) (add-one i))

pub last_edge : (ring : List Corner) (i : ℕ) (d : Corner) → i + 1 ≡ length ring → edges_after ring i ≡ edge (get_or ring i d) (get_or ring 0 d)
    ∷ edges_after ring (i + 1)
unfolding edges_after
last_edge [] i d is = absurd (omega arith)
last_edge (c ∷ cs) i d is =
    last_from c (c ∷ cs) i d (omega arith) ∙ sym (ap (λ j. edge (get_or (c ∷ cs) i d) c ∷ edges_from c (drop j (c ∷ cs))) (add-one i))

-- all of them, and none
pub edges_after-first : (ring : List Corner) → edges_after ring 0 ≡ ring_edges ring
unfolding edges_after
edges_after-first [] = refl
edges_after-first (c ∷ cs) = refl

pub edges_after-last : (ring : List Corner) (i : ℕ) → i ≡ length ring → edges_after ring i ≡ []
unfolding edges_after
edges_after-last [] i is = refl
edges_after-last (c ∷ cs) i is = ap (λ j. edges_from c (drop j (c ∷ cs))) is ∙ ap (edges_from c) (drop-length (c ∷ cs))

-- one more edge
pub next_edge : (edges : List RingEdge) (e : RingEdge) (old : List Edge) (ring : List Corner) (i : ℕ) (new : List RingEdge)
    → map edge_of edges ++ edges_after ring i ≡ old
    → edges_after ring i ≡ edge_of e ∷ edges_after ring (i + 1) → new ≡ edges ++ e ∷ [] → map edge_of new ++ edges_after ring (i + 1) ≡ old
next_edge edges e old ring i new all first is =
    ap (λ l. map edge_of l ++ edges_after ring (i + 1)) is
    ∙ ap (λ l. l ++ edges_after ring (i + 1)) (map-append edge_of edges (e ∷ []))
    ∙ append_assoc (map edge_of edges) (edge_of e ∷ []) (edges_after ring (i + 1))
    ∙ ap (λ l. map edge_of edges ++ l) (sym first) ∙ all

-- one more ring
pub next_ring : (edges new : List RingEdge) (rings : List (List Corner)) (i : ℕ) (ring : List Corner) → i < length rings → get_or rings i ring ≡ ring
    → map edge_of edges ≡ flat_map ring_edges (take i rings)
    → map edge_of new ≡ map edge_of edges ++ ring_edges ring → map edge_of new ≡ flat_map ring_edges (take (i + 1) rings)
next_ring edges new rings i ring lt is so more =
    more ∙ ap₂ (λ a b. a ++ b) so (sym (append-nil (ring_edges ring)))
    ∙ sym (flat_map-append ring_edges (take i rings) (ring ∷ []))
    ∙ ap (flat_map ring_edges) (sym (take_more rings i ring lt ∙ ap (λ r. take i rings ++ r ∷ []) is))
