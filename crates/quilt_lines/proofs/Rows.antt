-- The records of facts that are pushed one behind the other.
use Rattle.std.proofs.Common.{◌≡◌, ℕ, ◌+◌, ◌<◌, ◌≤◌, true, false, cond, List, [], ◌∷◌, ◌++◌}
use Rattle.std.proofs.Common.{map, flat_map, length, take, get_or, refl, sym, ◌∙◌, ap, arith, append_assoc, eqb, eqb-true}
use Rattle.std.proofs.lemmas.List.{map-append, append-nil, take_all}
use Rattle.std.proofs.lemmas.Grind.{flat_map-append}
use Rattle.quilt_types.specs.declared.plane.Block.{Block}
use Rattle.quilt_types.specs.Facts.{Fact, IsMetBy, IsMetByNone}
use Rattle.quilt_record.specs.declared.record.Record.{Record}
use Rattle.quilt_edits.proofs.Lists.{take_next}
use Rattle.quilt_lines.specs.Layers.{fact_record}
use Rattle.quilt_lines.specs.Adding.{facts_by, Follow}

module _ (n layer : ℕ) where
  pub follow_append : (first old new : List Record) (fs gs : List Fact) → Follow n layer first old fs → Follow n layer old new gs
      → Follow n layer first new (fs ++ gs)
  follow_append first old new fs gs h k =
      k ∙ ap (λ (rs : List Record). rs ++ map (fact_record n layer) gs) h ∙ append_assoc first (map (fact_record n layer) fs) (map (fact_record n layer) gs)
      ∙ ap (λ (rs : List Record). first ++ rs) (sym (map-append (fact_record n layer) fs gs))

  pub follow_one : (old new : List Record) (r : Record) (f : Fact) → new ≡ old ++ r ∷ [] → r ≡ fact_record n layer f → Follow n layer old new (f ∷ [])
  follow_one old new r f h e = h ∙ ap (λ (z : Record). old ++ z ∷ []) e

  pub follow_none : (old : List Record) → Follow n layer old old []
  follow_none old = sym (append-nil old)

  -- ---- the facts on one block
  module _ (b : Block) where
    abbrev met : ℕ → Fact
    met id = IsMetBy b id

    pub ids_next : (first old new : List Record) (ids : List ℕ) (i d : ℕ) (r : Record) → Follow n layer first old (map met (take i ids))
        → new ≡ old ++ r ∷ [] → i < length ids
        → r ≡ fact_record n layer (IsMetBy b (get_or ids i d)) → Follow n layer first new (map met (take (i + 1) ids))
    ids_next first old new ids i d r has is lt row =
        follow_append first old new (map met (take i ids)) (IsMetBy b (get_or ids i d) ∷ []) has (follow_one old new r (IsMetBy b (get_or ids i d)) is row)
        ∙ ap (λ (fs : List Fact). first ++ map (fact_record n layer) fs)
        (sym (map-append met (take i ids) (get_or ids i d ∷ [])) ∙ ap (map met) (sym (take_next ids i d lt)))

    some_by : (ids : List ℕ) → false ≡ eqb (length ids) 0 → map met ids ≡ facts_by b ids
    some_by [] e = cc
    some_by (id ∷ ids) e = refl

    none_by : (ids : List ℕ) → true ≡ eqb (length ids) 0 → facts_by b ids ≡ IsMetByNone b ∷ []
    none_by [] e = refl
    none_by (id ∷ ids) e = absurd (let no = eqb-true (length (id ∷ ids)) 0 (sym e) in omega arith)

    pub ids_all : (first all : List Record) (ids : List ℕ) (i : ℕ) → false ≡ eqb (length ids) 0 → Follow n layer first all (map met (take i ids))
        → length ids ≤ i → Follow n layer first all (facts_by b ids)
    ids_all first all ids i some has le = has
        ∙ ap (λ (fs : List Fact). first ++ map (fact_record n layer) fs) (ap (map met) (take_all i ids le) ∙ some_by ids some)

    pub ids_none : (old new : List Record) (ids : List ℕ) (r : Record) → true ≡ eqb (length ids) 0 → new ≡ old ++ r ∷ []
        → r ≡ fact_record n layer (IsMetByNone b) → Follow n layer old new (facts_by b ids)
    ids_none old new ids r none h e = follow_one old new r (IsMetByNone b) h e
        ∙ ap (λ (fs : List Fact). old ++ map (fact_record n layer) fs) (sym (none_by ids none))

    -- the fact that nothing meets the block goes where something does
    pub none_goes : (old new : List Record) (ids : List ℕ) (r : Record) → true ≡ eqb (length ids) 0 → new ≡ old ++ r ∷ []
        → r ≡ fact_record n layer (IsMetByNone b)
        → Follow n layer old new (cond (eqb (length ids) 0) (IsMetByNone b ∷ []) [])
    none_goes old new ids r none h e = follow_one old new r (IsMetByNone b) h e
        ∙ ap (λ u. old ++ map (fact_record n layer) (cond {A = List Fact} u (IsMetByNone b ∷ []) [])) none

    pub none_stays : (old new : List Record) (ids : List ℕ) → false ≡ eqb (length ids) 0 → new ≡ old
        → Follow n layer old new (cond (eqb (length ids) 0) (IsMetByNone b ∷ []) [])
    none_stays old new ids some h = h ∙ follow_none old ∙ ap (λ u. old ++ map (fact_record n layer) (cond {A = List Fact} u (IsMetByNone b ∷ []) [])) some

  -- ---- the facts on several
  module _ (f : Block → List Fact) where
    pub blocks_next : (first old new : List Record) (bs : List Block) (i : ℕ) (d : Block) → Follow n layer first old (flat_map f (take i bs))
        → i < length bs → Follow n layer old new (f (get_or bs i d)) → Follow n layer first new (flat_map f (take (i + 1) bs))
    blocks_next first old new bs i d has lt more =
        follow_append first old new (flat_map f (take i bs)) (f (get_or bs i d)) has more
        ∙ ap (λ (fs : List Fact). first ++ map (fact_record n layer) fs)
        (ap (λ (fs : List Fact). flat_map f (take i bs) ++ fs) (sym (append-nil (f (get_or bs i d))))
        ∙ sym (flat_map-append f (take i bs) (get_or bs i d ∷ [])) ∙ ap (flat_map f) (sym (take_next bs i d lt)))

    pub blocks_all : (first all : List Record) (bs : List Block) (i : ℕ) → Follow n layer first all (flat_map f (take i bs)) → length bs ≤ i
        → Follow n layer first all (flat_map f bs)
    blocks_all first all bs i has le = has ∙ ap (λ (l : List Block). first ++ map (fact_record n layer) (flat_map f l)) (take_all i bs le)
