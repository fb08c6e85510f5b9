-- Rows of places: parts of them, and what keeps them.
use Rattle.std.proofs.Common.{◌≡◌, ℕ, zero, suc, Bool, true, false, ◌==◌, List, [], ◌∷◌, ◌++◌, length, slice_index_or, refl, sym, ◌∙◌, ap, subst}
use Rattle.std.proofs.lemmas.Bool.{or_left, or_right}
use Rattle.std.proofs.Common.{append_assoc, arith}
use Rattle.std.specs.List.{list_any}
use Rattle.std.proofs.lemmas.List.{append-nil}
use Rattle.std.proofs.lemmas.List.Folds.{list_any-append}
use Rattle.quilt_record.specs.declared.record.Record.{Record}
use Rattle.quilt_node.specs.Pages.{leaf_of, inner_of}
use Rattle.quilt_node.specs.Tree.{Bounds, bounded}
use Rattle.quilt_btree.specs.Subtree.{Reading, InTurn, Row, Subtree}

-- the page is one of these
abbrev pub is_in : ℕ → List ℕ → Bool
is_in p used = list_any (λ v. v == p) used

-- each of these pages has the same bytes in both
abbrev pub SameOn : List (List ℕ) → List (List ℕ) → List ℕ → Type 0
SameOn pages news used = (p : ℕ) → is_in p used ≡ true → slice_index_or news p [] ≡ slice_index_or pages p []

same_late : (pages news : List (List ℕ)) (late early : List ℕ) → SameOn pages news (late ++ early) → SameOn pages news late
same_late pages news late early same p h = same p (list_any-append (λ v. v == p) late early ∙ or_left _ _ h)

same_early : (pages news : List (List ℕ)) (late early : List ℕ) → SameOn pages news (late ++ early) → SameOn pages news early
same_early pages news late early same p h = same p (list_any-append (λ v. v == p) late early ∙ or_right _ _ h)

pub is_in_first : (p : ℕ) → is_in p (p ∷ []) ≡ true
is_in_first p = grind arith

module _ (pages news : List (List ℕ)) where
  pub row_stays : (S T : Reading) → ((c : ℕ × Bounds) (rs : List Record) (used : List ℕ) → SameOn pages news used → S c rs used → T c rs used)
      → (cs : List (ℕ × Bounds)) (rs : List Record) (used : List ℕ) → SameOn pages news used → Row S cs rs used → Row T cs rs used
  row_stays S T one [] rs used same row = row
  row_stays S T one (c ∷ cs) rs used same row =
      let parts = subst (SameOn pages news) row.is_used same in
      record {
        first = row.first;
        rest = row.rest;
        first_used = row.first_used;
        rest_used = row.rest_used;
        here = one c row.first row.first_used (same_early pages news row.rest_used row.first_used parts) row.here;
        after = row_stays S T one cs row.rest row.rest_used (same_late pages news row.rest_used row.first_used parts) row.after;
        records = row.records;
        is_used = row.is_used;
      }

  -- A subtree stays as it is where its pages do.
  pub subtree_stays : length news ≡ length pages → (height : ℕ) (is_root : Bool) (at : ℕ × Bounds) (rs : List Record) (used : List ℕ)
      → SameOn pages news used → Subtree pages height is_root at rs used → Subtree news height is_root at rs used
  subtree_stays size zero is_root at rs used same s = s
  subtree_stays size (suc zero) is_root at rs used same s =
      let here : slice_index_or news at.0 [] ≡ slice_index_or pages at.0 [] = subst (SameOn pages news) s.is_used same at.0 (is_in_first at.0) in
      record { page = ap leaf_of here ∙ s.page; enough = s.enough; within = s.within; is_used = s.is_used }
  subtree_stays size (suc (suc height)) is_root at rs used same s =
      let parts = subst (SameOn pages news) s.is_used same in
      let here : slice_index_or news at.0 [] ≡ slice_index_or pages at.0 [] = same_early pages news s.under (at.0 ∷ []) parts at.0 (is_in_first at.0) in
      record {
        inner = s.inner;
        page = ap (λ n. inner_of n (slice_index_or news at.0 [])) size ∙ ap (inner_of (length pages)) here ∙ s.page;
        is_height = s.is_height;
        enough = s.enough;
        within = s.within;
        under = s.under;
        children = row_stays (Subtree pages (suc height) false) (Subtree news (suc height) false)
            (λ c ss u e t. subtree_stays size (suc height) false c ss u e t) (bounded s.inner.children s.inner.keys at.1) rs s.under
            (same_late pages news s.under (at.0 ∷ []) parts) s.children;
        is_used = s.is_used;
      }

-- a row in two parts
pub row_parts : (S : Reading) (cs ds : List (ℕ × Bounds)) (rs : List Record) (used : List ℕ) → Row S (cs ++ ds) rs used → InTurn (Row S cs)
    (Row S ds) rs used
row_parts S [] ds rs used row = record {
  first = [];
  rest = rs;
  first_used = [];
  rest_used = used;
  here = (refl, refl);
  after = row;
  records = refl;
  is_used = sym (append-nil used);
}
row_parts S (c ∷ cs) ds rs used row =
    let more = row_parts S cs ds row.rest row.rest_used row.after in
    record {
      first = row.first ++ more.first;
      rest = more.rest;
      first_used = more.first_used ++ row.first_used;
      rest_used = more.rest_used;
      here =
          record {
            first = row.first;
            rest = more.first;
            first_used = row.first_used;
            rest_used = more.first_used;
            here = row.here;
            after = more.here;
            records = refl;
            is_used = refl;
          };
      after = more.after;
      records = row.records ∙ ap (λ l. row.first ++ l) more.records ∙ sym (append_assoc row.first more.first more.rest);
      is_used = row.is_used ∙ ap (λ l. l ++ row.first_used) more.is_used ∙ append_assoc more.rest_used more.first_used row.first_used;
    }

pub row_join : (S : Reading) (cs ds : List (ℕ × Bounds)) (rs : List Record) (used : List ℕ) → InTurn (Row S cs) (Row S ds) rs used
    → Row S (cs ++ ds) rs used
row_join S [] ds rs used parts =
    let here = parts.here in
    subst (λ l. Row S ds l used) (sym (parts.records ∙ ap (λ l. l ++ parts.rest) here.0))
    (subst (λ l. Row S ds parts.rest l) (sym (parts.is_used ∙ ap (λ l. parts.rest_used ++ l) here.1 ∙ append-nil parts.rest_used)) parts.after)
row_join S (c ∷ cs) ds rs used parts =
    let here = parts.here in
    record {
      first = here.first;
      rest = here.rest ++ parts.rest;
      first_used = here.first_used;
      rest_used = parts.rest_used ++ here.rest_used;
      here = here.here;
      after = row_join S cs ds (here.rest ++ parts.rest) (parts.rest_used ++ here.rest_used)
          (record {
            first = here.rest;
            rest = parts.rest;
            first_used = here.rest_used;
            rest_used = parts.rest_used;
            here = here.after;
            after = parts.after;
            records = refl;
            is_used = refl;
          });
      records = parts.records ∙ ap (λ l. l ++ parts.rest) here.records ∙ append_assoc here.first here.rest parts.rest;
      is_used = parts.is_used ∙ ap (λ l. parts.rest_used ++ l) here.is_used ∙ sym (append_assoc parts.rest_used here.rest_used here.first_used);
    }
