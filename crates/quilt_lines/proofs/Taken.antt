-- The segments of ids, taken one after the other.
use Rattle.std.proofs.Common.{◌≡◌, ℕ, ◌+◌, ◌<◌, true, Some, [], ◌∷◌, ◌++◌, List, All, length, get_or, take, sym, ◌∙◌, ap, subst}
use Rattle.std.specs.FinMap as finmap
use Rattle.std.proofs.lemmas.List.{map-append}
use Rattle.std.proofs.lemmas.List.Elements.{All-append}
use Rattle.quilt_types.specs.declared.plane.Seg.{Seg}
use Rattle.quilt_types.specs.Layers.{SegMap, is_in_square}
use Rattle.quilt_edits.proofs.Lists.{take_next}
use Rattle.quilt_lines.specs.Reads.{ids_of}
use Rattle.quilt_lines.proofs.Listed.{all_one}

-- the list has a segment of the square for each of the ids: the one that it has in each layer that may be there
pub record AreTaken {X : Type 0} (n : ℕ) (May : X → Type 0) (segs_of : X → SegMap) (wanted : List ℕ) (list : List (ℕ × Seg)) : Type 0 where
  pub ids : ids_of list ≡ wanted
  pub inside : All (λ e. is_in_square n e.1 ≡ true) list
  pub found : (x : X) → May x → All (λ e. finmap.get (segs_of x) e.0 ≡ Some e.1) list

-- one more
pub taken_more : {X : Type 0} {n : ℕ} {May : X → Type 0} {segs_of : X → SegMap} {list : List (ℕ × Seg)} (all : List ℕ) (i d : ℕ) (s : Seg)
    (new : List (ℕ × Seg)) → AreTaken n May segs_of (take i all) list → i < length all → new ≡ list ++ (get_or all i d, s) ∷ [] → is_in_square n s ≡ true
    → ((x : X) → May x → finmap.get (segs_of x) (get_or all i d) ≡ Some s) → AreTaken n May segs_of (take (i + 1) all) new
taken_more {n = n} {segs_of = segs_of} {list = list} all i d s new taken lt is inside found =
    let id = get_or all i d in
    let more : List (ℕ × Seg) = (id, s) ∷ [] in
    record {
      ids = ap ids_of is ∙ map-append (λ (e : ℕ × Seg). e.0) list more ∙ ap (λ (l : List ℕ). l ++ id ∷ []) taken.ids ∙ sym (take_next all i d lt);
      inside =
          let P = λ (e : ℕ × Seg). is_in_square n e.1 ≡ true in
          subst (All P) (sym is) (All-append P list more taken.inside (all_one P (id, s) inside));
      found = λ x may.
          let P = λ (e : ℕ × Seg). finmap.get (segs_of x) e.0 ≡ Some e.1 in
          subst (All P) (sym is) (All-append P list more (taken.found x may) (all_one P (id, s) (found x may)));
    }
