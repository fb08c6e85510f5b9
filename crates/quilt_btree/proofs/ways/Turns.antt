-- What a store tells of the pages that a floor reads, step by step as it goes down.
use Rattle.std.proofs.Common.{◌≡◌, ◌≢◌, ℕ, ◌-◌, ◌≤◌, Bool, true, false, ◌||◌, nat_lt, List, [], ◌∷◌, ◌++◌, length, Option, Some, Result, Ok, Err, OnOk}
use Rattle.std.proofs.Common.{slice_index, refl, ◌∙◌, ap, arith}
use Rattle.std.proofs.lemmas.List.{append-nil}
use Rattle.std.proofs.lemmas.Bool.Decides.{nat_tests}
use Rattle.std.proofs.lemmas.Bool.{or_right}
use Rattle.quilt_record.specs.declared.key.Key.{Key}
use Rattle.quilt_record.specs.declared.record.Record.{Record}
use Rattle.quilt_node.specs.Pages.{Inner}
use Rattle.quilt_store.specs.Store.{Touches}
use Rattle.quilt_world.specs.Tale.{Goes}
use Rattle.quilt_types.specs.declared.stop.Stop.{Stop}
use Rattle.quilt_btree.specs.Trees.{ReadsInner}
use Rattle.quilt_btree.specs.Floors.{last_pages, finds_floor, floor_pages, before_child, child_place, TouchesInTurn, HoldsFirst, ReadsNone}
use Rattle.quilt_btree.proofs.subtrees.Descending.{AtFloor}
use Rattle.quilt_btree.proofs.stores.Held.{IsTouched, one_turn, more_turns, turns_first, one_touched, part_free, more_free}
use Rattle.quilt_btree.proofs.ways.Floors.{last_splits, floor_splits, finds_splits, child_before, length_floor}

-- the last child
pub record AtLast (old new : Option (List (List ℕ))) (page height child n : ℕ) (inner : Inner) : Type 0 where
  pub told : new ≡ old
  pub some : 1 ≤ height
  pub above : height ≢ 1
  pub reads : ReadsInner old page inner
  pub many : n ≡ length inner.children
  pub is_child : child ≡ slice_index inner.children (n - 1)

module _ (old new : Option (List (List ℕ))) (page height child n : ℕ) (inner : Inner) where
  last_parts : AtLast old new page height child n inner → (pages : List (List ℕ)) → old ≡ Some pages
      → last_pages pages height page ≡ page ∷ last_pages pages (height - 1) child
  last_parts a pages is = last_splits pages height child inner page n a.some a.above (a.reads pages is) a.many a.is_child

  pub last_again : {h0 h1 : Option (List ℕ)} {a b : Option ℕ} (c : Option ℕ) → AtLast old new page height child n inner → IsTouched page h0 h1 a b
      → ReadsNone (λ pages. last_pages pages (height - 1) child) new h1 b c
      → ReadsNone (λ pages. last_pages pages height page) old h0 a c
  last_again c at t g = λ pages is.
      more_free (last_pages pages height page) (page ∷ []) (last_pages pages (height - 1) child) c (last_parts at pages is) (one_touched t)
      (g pages (at.told ∙ is))

pub last_touched : (r : Result Record Stop) {old new : Option (List (List ℕ))} {page height child n : ℕ} {inner : Inner} (h0 h1 h2 : Option (List ℕ))
    → AtLast old new page height child n inner → Goes (Touches page) h0 h1
    → OnOk r (TouchesInTurn (λ pages. last_pages pages (height - 1) child) new h1 h2)
    → OnOk r (TouchesInTurn (λ pages. last_pages pages height page) old h0 h2)
last_touched (Err e) h0 h1 h2 a t f = f
last_touched (Ok x) {old = old} {new = new} {page = page} {height = height} {child = child} {n = n} {inner = inner} h0 h1 h2 a t f = λ pages is.
    more_turns (last_pages pages height page) (page ∷ []) (last_pages pages (height - 1) child) h0 h1 h2
    (last_parts old new page height child n inner a pages is)
    (one_turn (page ∷ []) page h0 h1 refl t) (f pages (a.told ∙ is))

-- the child to which the key leads
abbrev before_in : List (List ℕ) → Key → ℕ → Inner → ℕ → List ℕ
before_in pages k height inner i = before_child (finds_floor pages k (height - 1)) (last_pages pages (height - 1)) inner i

module _ {old new : Option (List (List ℕ))} {page height child i : ℕ} {k : Key} {inner : Inner} where
  floor_parts : AtFloor old new page height child i k inner → i ≡ child_place k inner → (pages : List (List ℕ)) → old ≡ Some pages
      → floor_pages pages k height page ≡ page ∷ (floor_pages pages k (height - 1) child ++ before_in pages k height inner i)
  floor_parts a place pages is =
      floor_splits pages k height page child i inner a.some a.above (a.reads pages is) place a.is_child

  -- no more is read than under it
  pub floor_touched : (h0 h1 h2 : Option (List ℕ)) → AtFloor old new page height child i k inner → i ≡ child_place k inner → Goes (Touches page) h0 h1
      → TouchesInTurn (λ pages. floor_pages pages k (height - 1) child) new h1 h2
      → ((pages : List (List ℕ)) → new ≡ Some pages → before_in pages k height inner i ≡ [])
      → TouchesInTurn (λ pages. floor_pages pages k height page) old h0 h2
  floor_touched h0 h1 h2 a place t f none = λ pages is.
      let under = floor_pages pages k (height - 1) child in
      let parts : floor_pages pages k height page ≡ page ∷ under = floor_parts a place pages is
      ∙ ap (λ l. page ∷ (under ++ l)) (none pages (a.told ∙ is)) ∙ ap (λ l. page ∷ l) (append-nil under) in
      more_turns (floor_pages pages k height page) (page ∷ []) under h0 h1 h2 parts (one_turn (page ∷ []) page h0 h1 refl t) (f pages (a.told ∙ is))

  pub floor_again : {h0 h1 : Option (List ℕ)} {a b : Option ℕ} (c : Option ℕ) → AtFloor old new page height child i k inner → i ≡ child_place k inner
      → IsTouched page h0 h1 a b → ReadsNone (λ pages. floor_pages pages k (height - 1) child) new h1 b c
      → ReadsNone (λ pages. floor_pages pages k height page) old h0 a c
  floor_again {h1 = h1} {b = b} c at place t g = λ pages is.
      let under = floor_pages pages k (height - 1) child in
      let more = before_in pages k height inner i in
      more_free (floor_pages pages k height page) (page ∷ []) (under ++ more) c (floor_parts at place pages is) (one_touched t)
      (part_free (under ++ more) under more h1 b c refl (g pages (at.told ∙ is)))

-- the child to which the key leads has no floor, and another stands before it
pub record GoesBefore (old new newer : Option (List (List ℕ))) (page height child prior i : ℕ) (k : Key) (inner : Inner) : Type 0 where
  pub at : AtFloor old new page height child i k inner
  pub place : i ≡ child_place k inner
  pub some : i ≢ 0
  pub told : newer ≡ old
  pub is_prior : prior ≡ slice_index inner.children (i - 1)
  pub lacks : (pages : List (List ℕ)) → new ≡ Some pages → finds_floor pages k (height - 1) child ≡ false

-- the last record before it too
before_parts : {old new newer : Option (List (List ℕ))} {page height child prior i : ℕ} {k : Key} {inner : Inner}
    → GoesBefore old new newer page height child prior i k inner → (pages : List (List ℕ)) → old ≡ Some pages
    → floor_pages pages k height page ≡ page ∷ (floor_pages pages k (height - 1) child ++ last_pages pages (height - 1) prior)
before_parts {page = page} {height = height} {child = child} {prior = prior} {i = i} {k = k} {inner = inner} a pages is =
    floor_parts a.at a.place pages is
    ∙ ap (λ l. page ∷ (floor_pages pages k (height - 1) child ++ l))
    (child_before pages k (height - 1) child prior i inner a.at.is_child a.is_prior (a.lacks pages (a.at.told ∙ is)) a.some)

pub floor_touched_more : {old new newer : Option (List (List ℕ))} {page height child prior i : ℕ} {k : Key} {inner : Inner}
    (h0 h1 h2 h3 : Option (List ℕ)) → GoesBefore old new newer page height child prior i k inner → Goes (Touches page) h0 h1
    → TouchesInTurn (λ pages. floor_pages pages k (height - 1) child) new h1 h2
    → TouchesInTurn (λ pages. last_pages pages (height - 1) prior) newer h2 h3 → TouchesInTurn (λ pages. floor_pages pages k height page) old h0 h3
floor_touched_more {page = page} {height = height} {child = child} {prior = prior} {k = k} h0 h1 h2 h3 a t f g = λ pages is.
    let under = floor_pages pages k (height - 1) child in
    let more = last_pages pages (height - 1) prior in
    more_turns (floor_pages pages k height page) (page ∷ []) (under ++ more) h0 h1 h3 (before_parts a pages is) (one_turn (page ∷ []) page h0 h1 refl t)
    (more_turns (under ++ more) under more h1 h2 h3 refl (f pages (a.at.told ∙ is)) (g pages (a.told ∙ is)))

pub floor_again_more : {old new newer : Option (List (List ℕ))} {page height child prior i : ℕ} {k : Key} {inner : Inner} {h0 h1 : Option (List ℕ)}
    (h2 : Option (List ℕ)) {a b : Option ℕ} (c d : Option ℕ) → GoesBefore old new newer page height child prior i k inner → IsTouched page h0 h1 a b
    → TouchesInTurn (λ pages. floor_pages pages k (height - 1) child) new h1 h2
    → ReadsNone (λ pages. floor_pages pages k (height - 1) child) new h1 b c → ReadsNone (λ pages. last_pages pages (height - 1) prior) newer h2 c d
    → ReadsNone (λ pages. floor_pages pages k height page) old h0 a d
floor_again_more {page = page} {height = height} {child = child} {prior = prior} {k = k} {h1 = h1} h2 {b = b} c d at t s g l = λ pages is.
    let under = floor_pages pages k (height - 1) child in
    let more = last_pages pages (height - 1) prior in
    more_free (floor_pages pages k height page) (page ∷ []) (under ++ more) d (before_parts at pages is) (one_touched t)
    (more_free (under ++ more) under more {held = h1} {now = h2} {a = b} {b = c} d refl
    (record { touched = s pages (at.at.told ∙ is); free = g pages (at.at.told ∙ is) }) (l pages (at.told ∙ is)))

-- whether it comes to a record
abbrev pub Finds : Option (List (List ℕ)) → Key → ℕ → ℕ → Bool → Type 0
Finds told k height page b = (pages : List (List ℕ)) → told ≡ Some pages → finds_floor pages k height page ≡ b

module _ {old new : Option (List (List ℕ))} {page height child i : ℕ} {k : Key} {inner : Inner} (a : AtFloor old new page height child i k inner)
    (place : i ≡ child_place k inner) where
  finds_parts : (pages : List (List ℕ)) → old ≡ Some pages → finds_floor pages k height page ≡ (nat_lt 0 i || finds_floor pages k (height - 1) child)
  finds_parts pages is =
      finds_splits pages k height page child i inner a.some a.above (a.reads pages is) place a.is_child

  pub finds_here : Finds new k (height - 1) child true → Finds old k height page true
  finds_here f = λ pages is. finds_parts pages is
      ∙ or_right (nat_lt 0 i) (finds_floor pages k (height - 1) child) (f pages (a.told ∙ is))

  pub finds_none : i ≡ 0 → Finds new k (height - 1) child false → Finds old k height page false
  finds_none e f = λ pages is.
      finds_parts pages is ∙ ap (λ j. nat_lt 0 j || finds_floor pages k (height - 1) child) e ∙ f pages (a.told ∙ is)

  pub finds_before : i ≢ 0 → Finds old k height page true
  finds_before ne =
      λ pages is. finds_parts pages is ∙ ap (λ b. b || finds_floor pages k (height - 1) child) (some i ne)
    where
      some : (i : ℕ) → i ≢ 0 → nat_lt 0 i ≡ true
      some i ne = grind (arith, nat_tests)

-- from the root
pub root_first : (told : Option (List (List ℕ))) (k : Key) (height root : ℕ) (old new : Option (List ℕ)) → height ≤ 3
    → TouchesInTurn (λ pages. floor_pages pages k height root) told old new → HoldsFirst (λ pages. floor_pages pages k height root) told old new
root_first told k height root old new le f = λ pages is.
    let few = length_floor pages k height root le in
    turns_first (floor_pages pages k height root) old new (omega arith) (f pages is)
