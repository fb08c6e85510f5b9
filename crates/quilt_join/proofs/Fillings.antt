-- Segments come into the buckets of the blocks of their spans.
use Rattle.std.proofs.Common.{◌≡◌, ℕ, zero, suc, ◌+◌, ◌-◌, ◌*◌, ◌^◌, ◌<◌, ◌≤◌, ◌⊎◌, inl, inr}
use Rattle.std.proofs.Common.{⊎_elim, List, [], ◌∷◌, ◌++◌, length, pow-add, Contains, arith, ap, sym, ◌∙◌, refl, subst}
use Rattle.std.specs.Prelude.{slice_set}
use Rattle.std.proofs.lemmas.Bool.{cases_eq}
use Rattle.std.proofs.lemmas.List.{get_or-set_same, get_or-set_other, length-set}
use Rattle.std.proofs.lemmas.List.Elements.{Contains-push, Contains-push_cases, Contains-append_left}
use Rattle.quilt_types.specs.declared.plane.Seg.{Seg}
use Rattle.quilt_types.specs.Plane.{side}
use Rattle.quilt_loc.proofs.Members.{Contains-nil}
use Rattle.quilt_join.specs.declared.span.Span.{Span}
use Rattle.quilt_join.specs.Boxes.{span_at, count, number_at, IsInSpan}
use Rattle.quilt_join.specs.Buckets.{bucket_at, AreFilled, HasBucketed}
use Rattle.quilt_join.proofs.Spans.{touched_at}

-- one more empty bucket
pub empty_more : (lists : List (List (ℕ × Seg))) → ((n : ℕ) → bucket_at lists n ≡ []) → (n : ℕ) → bucket_at (lists ++ [] ∷ []) n ≡ []
empty_more [] h zero = refl
empty_more [] h (suc n) = refl
empty_more (x ∷ xs) h zero = h zero
empty_more (x ∷ xs) h (suc n) = empty_more xs (λ m. h (suc m)) n

-- the buckets after a segment came into one of them
abbrev pub with_one : List (List (ℕ × Seg)) → ℕ → ℕ × Seg → List (List (ℕ × Seg))
with_one lists at e = slice_set lists at (bucket_at lists at ++ e ∷ [])

one_here : (lists : List (List (ℕ × Seg))) (at : ℕ) (e : ℕ × Seg) (n : ℕ) → at < length lists → n ≡ at →
    bucket_at (with_one lists at e) n ≡ bucket_at lists n ++ e ∷ []
one_here lists at e n within same =
    ap (λ m. bucket_at (with_one lists at e) m) same ∙ get_or-set_same lists at (bucket_at lists at ++ e ∷ []) [] within ∙ ap
    (λ m. bucket_at lists m ++ e ∷ []) (sym same)

one_from : (lists : List (List (ℕ × Seg))) (at : ℕ) (e : ℕ × Seg) (n : ℕ) (f : ℕ × Seg) → at < length lists →
    Contains (bucket_at (with_one lists at e) n) f → Contains (bucket_at lists n) f ⊎ (f ≡ e)
one_from lists at e n f within h =
    ⊎_elim
    (λ same. ⊎_elim (λ c. inl c) (λ is. inr (sym is)) (Contains-push_cases (bucket_at lists n) e f (subst (λ (l : List (ℕ × Seg)). Contains l f)
    (one_here lists at e n within same) h)))
    (λ differ. inl (subst (λ (l : List (ℕ × Seg)). Contains l f) (get_or-set_other lists at n (bucket_at lists at ++ e ∷ []) [] differ) h))
    (cases_eq n at)

one_kept : (lists : List (List (ℕ × Seg))) (at : ℕ) (e : ℕ × Seg) (n : ℕ) (f : ℕ × Seg) → at < length lists → Contains (bucket_at lists n) f →
    Contains (bucket_at (with_one lists at e) n) f
one_kept lists at e n f within h =
    ⊎_elim
    (λ same. subst (λ (l : List (ℕ × Seg)). Contains l f) (sym (one_here lists at e n within same)) (Contains-append_left (bucket_at lists n) (e ∷ []) f h))
    (λ differ. subst (λ (l : List (ℕ × Seg)). Contains l f) (sym (get_or-set_other lists at n (bucket_at lists at ++ e ∷ []) [] differ)) h)
    (cases_eq n at)

one_put : (lists : List (List (ℕ × Seg))) (at : ℕ) (e : ℕ × Seg) → at < length lists → Contains (bucket_at (with_one lists at e) at) e
one_put lists at e within =
    subst (λ (l : List (ℕ × Seg)). Contains l e) (sym (one_here lists at e at within refl)) (Contains-push (bucket_at lists at) e)

pub put_none : (p : Span) (columns : ℕ) (lists : List (List (ℕ × Seg))) (e : ℕ × Seg) → HasBucketed p columns 0 lists lists e
put_none p columns lists e = record {
  size = refl;
  from = λ n f h. inl h;
  kept = λ n f h. h;
  put = λ i lt. absurd (omega arith);
}

pub put_more : (p : Span) (columns k : ℕ) (old mid new : List (List (ℕ × Seg))) (e : ℕ × Seg) → HasBucketed p columns k old mid e →
    number_at p columns k < length mid →
    new ≡ with_one mid (number_at p columns k) e → HasBucketed p columns (k + 1) old new e
put_more p columns k old mid new e h within is =
    let at = number_at p columns k in
    subst (λ (l : List (List (ℕ × Seg))). HasBucketed p columns (k + 1) old l e) (sym is) (record {
      size = length-set mid at (bucket_at mid at ++ e ∷ []) ∙ h.size;
      from = λ n f c. ⊎_elim (λ d. h.from n f d) (λ is. inr is) (one_from mid at e n f within c);
      kept = λ n f c. one_kept mid at e n f within (h.kept n f c);
      put = λ i lt. ⊎_elim
          (λ same. subst (λ (m : ℕ). Contains (bucket_at (with_one mid at e) (number_at p columns m)) e) (sym same) (one_put mid at e within))
          (λ differ. one_kept mid at e (number_at p columns i) e within (h.put i (omega arith)))
          (cases_eq i k);
    })

-- no segment is in empty buckets
pub filled_none : (w columns : ℕ) (lists : List (List (ℕ × Seg))) → 0 < w → length lists ≡ columns * columns → ((n : ℕ) → bucket_at lists n ≡ []) →
    AreFilled w columns lists []
filled_none w columns lists pos size empty = record {
  positive = pos;
  size = size;
  from = λ n e c. absurd (Contains-nil e (subst (λ (l : List (ℕ × Seg)). Contains l e) (empty n) c));
  all = λ e n c t. absurd (Contains-nil e c);
}

-- one more segment
pub filled_more : (w columns : ℕ) (old new : List (List (ℕ × Seg))) (taken : List (ℕ × Seg)) (e : ℕ × Seg) → AreFilled w columns old taken →
    HasBucketed (span_at w e.1) columns (count (span_at w e.1)) old new e → AreFilled w columns new (taken ++ e ∷ [])
filled_more w columns old new taken e h put = record {
  positive = h.positive;
  size = put.size ∙ h.size;
  from = λ n f c. ⊎_elim
      (λ d. Contains-append_left taken (e ∷ []) f (h.from n f d))
      (λ is. subst (Contains (taken ++ e ∷ [])) (sym is) (Contains-push taken e))
      (put.from n f c);
  all = λ f n c t. ⊎_elim
      (λ d. put.kept n f (h.all f n d t))
      (λ is.
      let place = touched_at (span_at w e.1) columns n (subst (λ (g : ℕ × Seg). IsInSpan (span_at w g.1) columns n) (sym is) t) in
      subst (λ (g : ℕ × Seg). Contains (bucket_at new n) g) is (subst (λ (m : ℕ). Contains (bucket_at new m) e) place.2 (put.put place.0 place.1)))
      (Contains-push_cases taken e f c);
}

-- the number of a row's blocks and their side make the side of the square
pub whole_row : (n k : ℕ) → k ≤ n → 2 ^ (n - k) * 2 ^ k ≡ side n
whole_row n k h = sym (pow-add 2 (n - k) k) ∙ ap (λ m. 2 ^ m) (omega arith)
