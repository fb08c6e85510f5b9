-- The records of a leaf from one place up to another.
use Rattle.std.proofs.Common.{◌≡◌, ℕ, zero, suc, ◌+◌, ◌-◌, ◌<◌, ◌≤◌, Bool, true, false, ◌&&◌, not, List, [], ◌∷◌, ◌++◌, length, take, drop, filter, Some}
use Rattle.std.proofs.Common.{Result, Ok, Err, OnOk, refl, sym, ◌∙◌, ap, subst, arith, take_all, take-append-drop, drop_of_length-le}
use Rattle.std.specs.Prelude.{slice_get}
use Rattle.std.specs.List.{list_all}
use Rattle.std.specs.Ordering.{is_lt, is_le}
use Rattle.std.proofs.lemmas.List.{append-nil}
use Rattle.std.proofs.lemmas.List.Elements.{filter-append}
use Rattle.quilt_record.specs.declared.key.Key.{Key}
use Rattle.quilt_record.specs.declared.record.Record.{Record}
use Rattle.quilt_record.specs.Records.{key_cmp}
use Rattle.quilt_node.specs.Pages.{leaf_of}
use Rattle.quilt_node.specs.Nodes.{page_records}
use Rattle.quilt_node.proofs.Ascending.{all_drop}
use Rattle.quilt_node.proofs.Places.{leaf_records}
use Rattle.quilt_btree.specs.Lists.{is_from_to}
use Rattle.quilt_btree.proofs.lists.Lists.{filter_none, gt_not_le}
use Rattle.quilt_btree.proofs.ranges.Ranges.{add_record, skip_record, none_below}
use Rattle.quilt_btree.proofs.lists.Rising.{all_follow}

-- from the first place up to the last
abbrev pub part : ℕ → ℕ → List Record → List Record
part first last rs = take (last - first) (drop first rs)

get_drop : (rs : List Record) (first i : ℕ) (r : Record) → first ≤ i → slice_get rs i ≡ Some r → slice_get (drop first rs) (i - first) ≡ Some r
get_drop rs zero i r le h = let e : i - 0 ≡ i = omega arith in subst (λ n. slice_get rs n ≡ Some r) (sym e) h
get_drop [] (suc first) i r le h = cc
get_drop (x ∷ rs) (suc first) zero r le h = absurd (omega arith)
get_drop (x ∷ rs) (suc first) (suc i) r le h =
    let e : suc i - suc first ≡ i - first = omega arith in
    subst (λ n. slice_get (drop first rs) n ≡ Some r) (sym e) (get_drop rs first i r (omega arith) h)

get_take : (rs : List Record) (n i : ℕ) (r : Record) → i < n → slice_get rs i ≡ Some r → slice_get (take n rs) i ≡ Some r
get_take rs zero i r lt h = absurd (omega arith)
get_take [] (suc n) i r lt h = h
get_take (x ∷ rs) (suc n) zero r lt h = h
get_take (x ∷ rs) (suc n) (suc i) r lt h = get_take rs n i r (omega arith) h

part_at : (rs : List Record) (first last i : ℕ) (r : Record) → first ≤ i → i < last → slice_get rs i ≡ Some r
    → slice_get (part first last rs) (i - first) ≡ Some r
part_at rs first last i r le lt h = get_take (drop first rs) (last - first) (i - first) r (omega arith) (get_drop rs first i r le h)

module _ (p : Record → Bool) (n first last i : ℕ) (old items rs : List Record) (r : Record) (le : first ≤ i) (lt : i < last) where
  pub add_place : slice_get rs i ≡ Some r → items ≡ take n (old ++ filter p (take (i - first) (part first last rs))) → length items < n → p r ≡ true
      → items ++ r ∷ [] ≡ take n (old ++ filter p (take ((i + 1) - first) (part first last rs)))
  add_place at is room passes =
      let e : (i + 1) - first ≡ (i - first) + 1 = omega arith in
      add_record p n (i - first) old items (part first last rs) r (part_at rs first last i r le lt at) is room passes
      ∙ ap (λ m. take n (old ++ filter p (take m (part first last rs)))) (sym e)

  pub skip_place : slice_get rs i ≡ Some r → items ≡ take n (old ++ filter p (take (i - first) (part first last rs))) → p r ≡ false
      → items ≡ take n (old ++ filter p (take ((i + 1) - first) (part first last rs)))
  skip_place at is fails =
      let e : (i + 1) - first ≡ (i - first) + 1 = omega arith in
      skip_record p n (i - first) old items (part first last rs) r (part_at rs first last i r le lt at) is fails
      ∙ ap (λ m. take n (old ++ filter p (take m (part first last rs)))) (sym e)

pub no_place : (p : Record → Bool) (n first last : ℕ) (old rs : List Record) → length old ≤ n
    → old ≡ take n (old ++ filter p (take (first - first) (part first last rs)))
no_place p n first last old rs le =
    let e : first - first ≡ 0 = omega arith in
    sym (ap (λ m. take n (old ++ filter p (take m (part first last rs)))) e ∙ ap (take n) (append-nil old) ∙ take_all n old le)

-- behind both places
all_behind : (q : Record → Bool) (first last : ℕ) (rs : List Record) → list_all q (drop last rs) ≡ true
    → list_all q (drop (last - first) (drop first rs)) ≡ true
all_behind q zero last rs h = let e : last - 0 ≡ last = omega arith in subst (λ n. list_all q (drop n rs) ≡ true) (sym e) h
all_behind q (suc first) last [] h = all_drop q [] (last - suc first) refl
all_behind q (suc first) zero (r ∷ rs) h =
    let e : zero - suc first ≡ 0 = omega arith in
    subst (λ n. list_all q (drop n (drop first rs)) ≡ true) (sym e) (all_drop q (r ∷ rs) (suc first) h)
all_behind q (suc first) (suc last) (r ∷ rs) h =
    let e : suc last - suc first ≡ last - first = omega arith in
    subst (λ n. list_all q (drop n (drop first rs)) ≡ true) (sym e) (all_behind q first last rs h)

none_above : (low high : Key) (rs : List Record) → list_all (λ (r : Record). is_lt (key_cmp high r.key)) rs ≡ true
    → filter (is_from_to low high) rs ≡ []
none_above low high rs h =
    filter_none (is_from_to low high) rs
    (all_follow (λ (r : Record). is_lt (key_cmp high r.key)) (λ r. not (is_from_to low high r))
    (λ r g. ap (λ b. not (is_le (key_cmp low r.key) && b)) (gt_not_le high r.key g) ∙ ap not (and_false (is_le (key_cmp low r.key)))) rs h)
  where
    and_false : (b : Bool) → (b && false) ≡ false
    and_false true = refl
    and_false false = refl

module _ (low high : Key) (first last : ℕ) where
  -- no others are in the range
  part_filter : (rs : List Record) → list_all (λ (r : Record). is_lt (key_cmp r.key low)) (take first rs) ≡ true
      → list_all (λ (r : Record). is_lt (key_cmp high r.key)) (drop last rs) ≡ true → filter (is_from_to low high)
      (part first last rs) ≡ filter (is_from_to low high) rs
  part_filter rs below above =
      let P = is_from_to low high in
      let front : filter P rs ≡ filter P (drop first rs) =
      ap (filter P) (sym (take-append-drop first rs)) ∙ filter-append P (take first rs) (drop first rs)
      ∙ ap (λ l. l ++ filter P (drop first rs)) (none_below low high (take first rs) below) in
      let back : filter P (drop first rs) ≡ filter P (part first last rs) =
      ap (filter P) (sym (take-append-drop (last - first) (drop first rs))) ∙ filter-append P (part first last rs)
      (drop (last - first) (drop first rs))
      ∙ ap (λ l. filter P (part first last rs) ++ l)
      (none_above low high (drop (last - first) (drop first rs)) (all_behind (λ (r : Record). is_lt (key_cmp high r.key)) first last rs above))
      ∙ append-nil (filter P (part first last rs)) in
      sym (front ∙ back)

  pub part_added : {T E : Type 0} (result : Result T E) (most : ℕ) (bytes : List ℕ) (old new : List Record)
      → ((rs : List Record) → leaf_of bytes ≡ Some rs → list_all (λ r. is_lt (key_cmp r.key low)) (take first rs) ≡ true)
      → ((rs : List Record) → leaf_of bytes ≡ Some rs → list_all (λ r. is_lt (key_cmp high r.key)) (drop last rs) ≡ true)
      → OnOk result (new ≡ take most (old ++ filter (is_from_to low high) (part first last (page_records bytes))))
      → OnOk result ((some : List Record) × (new ≡ take most (old ++ filter (is_from_to low high) some)) × ((rs : List Record) → leaf_of bytes ≡ Some rs
      → filter (is_from_to low high) some ≡ filter (is_from_to low high) rs))
  part_added (Err e) most bytes old new below above is = is
  part_added (Ok v) most bytes old new below above is = (
    part first last (page_records bytes),
    is,
    λ rs l. ap (λ xs. filter (is_from_to low high) (part first last xs)) (leaf_records bytes rs l) ∙ part_filter rs (below rs l) (above rs l),
  )

pub past_place : (q : Record → Bool) (i : ℕ) (rs : List Record) → list_all q (drop (suc i) rs) ≡ true → list_all q (drop (i + 1) rs) ≡ true
past_place q i rs h = let e : i + 1 ≡ suc i = omega arith in subst (λ n. list_all q (drop n rs) ≡ true) (sym e) h

pub past_all : (q : Record → Bool) (n : ℕ) (rs : List Record) → n ≡ length rs → list_all q (drop n rs) ≡ true
past_all q n rs e = ap (list_all q) (drop_of_length-le rs (omega arith))
