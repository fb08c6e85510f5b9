-- The records of a layer of any kind as a range gives them, and that they lead from the layer to none, or from none to its copy.
use Rattle.std.proofs.Common.{◌≡◌, ◌↔◌, ℕ, ◌≤◌, Bool, true, false, List, [], ◌∷◌, map, length, filter, Some, None, refl, sym, ◌∙◌, ap, subst, ⊎_elim, arith}
use Rattle.std.proofs.Common.{Contains, Less, nat_cmp, eqb, eqb-true, ne_eqb, eq-eqb}
use Rattle.std.specs.FinMap as finmap
use Rattle.std.specs.Ordering.{is_le, ordering_then}
use Rattle.std.proofs.lemmas.Bool.{cases_Bool, cond-false, and_parts, and_from}
use Rattle.std.proofs.lemmas.List.{take_all}
use Rattle.quilt_types.specs.Layers.{Layer, Region, Points, Lines, Map, IsLayer}
use Rattle.quilt_types.specs.Facts.{Fact, IsOfKind, HasColour, HoldsPoint, HoldsNoPoint, IsSegment, IsMetBy, IsMetByNone}
use Rattle.quilt_loc.specs.Codes.{Rises}
use Rattle.quilt_loc.proofs.Members.{Contains-here, Contains-there, Contains-cons_cases, Contains-map_from, Contains-filter, Contains-filter_from}
use Rattle.quilt_loc.proofs.Rising.{Rises-filter, Rises-map}
use Rattle.quilt_record.specs.declared.record.Record.{Record}
use Rattle.quilt_record.specs.Records.{Numbering, capacity_of, key_cmp, record_of}
use Rattle.quilt_spell.specs.Apart.{Apart, SameMembers}
use Rattle.quilt_spell.specs.Written.{number_of, number_in, layer_records}
use Rattle.quilt_spell.specs.Spelled.{SpellsUnder}
use Rattle.quilt_spell.specs.OfLayer.{kind_fact, kind_record}
use Rattle.quilt_spell.specs.Copying.{renumbered}
use Rattle.quilt_spell.proofs.Lists.{Apart-le, Apart-filter, Apart-rises}
use Rattle.quilt_spell.proofs.Written.{layer_record, layer_record_from, number_fits, layer_fits}
use Rattle.quilt_spell.proofs.OfLayer.{kind_there, kind_only, layer_spelled}
use Rattle.quilt_spell.proofs.facts.OneMap.{kind_layer}
use Rattle.quilt_spell.proofs.Copying.{moved_is, copy_leads}
use Rattle.quilt_spell.proofs.Commands.{drop_leads}
use Rattle.quilt_btree.specs.Lists.{is_from_to, range_of}
use Rattle.quilt_region.specs.Laws.{first_key, last_key, records_under, IsEntryRecord, IsRegionPlan, NumberLaw, DropLaw, CopyLaw}
use Rattle.quilt_spell.specs.Written.{by_key}
use Rattle.quilt_spell.proofs.Written.{by_key_total}
use Rattle.quilt_edits.proofs.Keys.{then_equal, nat_same, le_layer, less_layer, less_part}
use Rattle.quilt_edits.proofs.Ascents.{rises_ascend}

-- the catalog's record for a layer, in both words
pub entry_record : (n : ℕ) (r : Record) (name : List ℕ) (number : ℕ) (l : Layer) → IsEntryRecord r name number l → r ≡ kind_record n name number l
entry_record n r name number (Region g) e = e n 0
entry_record n r name number (Points capacity points) e = e n capacity
entry_record n r name number (Lines threshold segs cover) e = e n 0

-- the part of a record that stands under its layer's number
parts_of : (n c k : ℕ) (name : List ℕ) (f : Fact) → ((record_of n c name k f).key.layer ≡ 0 → ⊥) → (1 ≤ (record_of n c name k f).key.part)
    × ((record_of n c name k f).key.part ≤ 4)
parts_of n c k name (IsOfKind x y) h = absurd (h refl)
parts_of n c k name (HasColour x y) h = (omega arith, omega arith)
parts_of n c k name (HoldsPoint x y z) h = (omega arith, omega arith)
parts_of n c k name (HoldsNoPoint x) h = (omega arith, omega arith)
parts_of n c k name (IsSegment x y) h = (omega arith, omega arith)
parts_of n c k name (IsMetBy x y) h = (omega arith, omega arith)
parts_of n c k name (IsMetByNone x) h = (omega arith, omega arith)

-- the keys of a range over a layer
abbrev pub is_under : ℕ → Record → Bool
is_under k r = is_from_to (first_key k) (last_key k) r

of_layer : (k : ℕ) (r : Record) → is_under k r ≡ true → r.key.layer ≡ k
of_layer k r t =
    let both = and_parts (is_le (key_cmp (first_key k) r.key)) (is_le (key_cmp r.key (last_key k))) t in
    let a = le_layer (first_key k) r.key both.0 in
    let b = le_layer r.key (last_key k) both.1 in
    omega arith

in_range : (k : ℕ) (r : Record) → r.key.layer ≡ k → 1 ≤ r.key.part → r.key.part ≤ 4 → is_under k r ≡ true
in_range k r is low high =
    and_from (is_le (key_cmp (first_key k) r.key)) (is_le (key_cmp r.key (last_key k)))
    (ap is_le (less_part (first_key k) r.key (sym is) (omega arith))) (ap is_le (less_part r.key (last_key k) is (omega arith)))

-- records by their keys under another number stand in the same order
moved_less : (j k : ℕ) (r s : Record) → r.key.layer ≡ k → s.key.layer ≡ k → by_key r s ≡ Less → by_key (renumbered j r) (renumbered j s) ≡ Less
moved_less j k r s a b less =
    let rest = ordering_then (nat_cmp r.key.part s.key.part)
    (ordering_then (nat_cmp r.key.code s.key.code) (ordering_then (nat_cmp r.key.depth s.key.depth) (nat_cmp r.key.item s.key.item))) in
    then_equal (nat_cmp j j) rest (nat_same j j refl)
    ∙ sym (then_equal (nat_cmp r.key.layer s.key.layer) rest (nat_same r.key.layer s.key.layer (a ∙ sym b))) ∙ less

pub shorter : {X : Type 0} (p : X → Bool) (xs : List X) (R : Apart xs) → length (filter p xs) ≤ length xs
shorter p xs once = Apart-le (filter p xs) xs (Apart-filter p xs once) (λ x c. (Contains-filter_from p xs x c).0)

module _ (form n : ℕ) (numbers : Numbering) (rs : List Record) (layers : Map) (name : List ℕ) (l : Layer) (le : n ≤ 12)
    (s : SpellsUnder form n numbers rs layers) (at : finmap.get layers name ≡ Some l) (most : ℕ) (room : length rs ≤ most) where
  abbrev k : ℕ
  k = number_of numbers name

  least : 1 ≤ k
  least = (number_fits layers numbers s.numbering name l at).0

  fits : IsLayer form n l
  fits = layer_fits form n numbers layers le s.map s.numbering name l at

  range_is : records_under k most rs ≡ filter (is_under k) rs
  unfolding range_of
  range_is =
      let less = shorter (is_under k) rs (Apart-rises by_key by_key_total rs s.ascending) in
      take_all most (filter (is_under k) rs) (omega arith)

  range_rises : Rises by_key (records_under k most rs)
  range_rises = subst (Rises by_key) (sym range_is) (Rises-filter by_key (is_under k) rs s.ascending)

  range_members : (r : Record) → Contains (records_under k most rs) r ↔ (Contains (layer_records n name k l) r × (r.key.layer ≡ k))
  range_members r = (
    λ c.
        let w = Contains-filter_from (is_under k) rs r (subst (λ (z : List Record). Contains z r) range_is c) in
        let e = of_layer k r w.1 in
        let least' = least in
        let number : number_in r.key ≡ k = cond-false (eqb r.key.layer 0) r.key.item r.key.layer (ne_eqb r.key.layer 0 (λ z. absurd (omega arith))) ∙ e in
        ((layer_spelled form n numbers rs layers le s name l at).only r w.0 number, e),
    λ w.
        let f = layer_record_from n name k l r w.0 in
        let least' = least in
        let part = parts_of n (capacity_of l) k name f.0 (λ z. let zero' : 0 ≡ k = sym z ∙ ap (λ (q : Record). q.key.layer) f.2 ∙ w.1 in omega arith) in
        let is = ap (λ (q : Record). q.key.part) f.2 in
        let low = part.0 in
        let high = part.1 in
        let there = subst (Contains rs) f.2 ((layer_spelled form n numbers rs layers le s name l at).each f.0 f.1) in
        subst (λ (z : List Record). Contains z r) (sym range_is) (Contains-filter (is_under k) rs r there (in_range k r w.1 (omega arith) (omega arith))),
  )

  range_layer : (r : Record) → Contains (records_under k most rs) r → r.key.layer ≡ k
  range_layer r c = ((range_members r).0 c).1

  -- the catalog's record stands before
  first_rises : (j : ℕ) (other : List ℕ) (more : List Record) → 1 ≤ j → ((r : Record) → Contains more r → r.key.layer ≡ j) → Rises by_key more
      → Rises by_key (kind_record n other j l ∷ more)
  first_rises j other more some of up = (
    λ r c.
        let zero' = kind_layer n other j l in
        let is = of r c in
        less_layer (kind_record n other j l).key r.key (omega arith),
    up,
  )

  drop_rises : Rises by_key (kind_record n name k l ∷ records_under k most rs)
  drop_rises = first_rises k name (records_under k most rs) least range_layer range_rises

  drop_members : SameMembers (kind_record n name k l ∷ records_under k most rs) (layer_records n name k l)
  drop_members r = (
    λ c.
        ⊎_elim (λ e. subst (Contains (layer_records n name k l)) e (layer_record n name k l (kind_fact l) (kind_there n l)))
        (λ d. ((range_members r).0 d).0) (Contains-cons_cases (kind_record n name k l) (records_under k most rs) r c),
    λ c.
        let f = layer_record_from n name k l r c in
        let old = record_of n (capacity_of l) name k f.0 in
        ⊎_elim
        (λ t.
        let kind = kind_only form n l (capacity_of l) k name f.0 fits least f.1 (eqb-true old.key.layer 0 t) in
        subst (Contains (kind_record n name k l ∷ records_under k most rs)) (ap (record_of n (capacity_of l) name k) (sym kind) ∙ f.2)
        (Contains-here (kind_record n name k l) (records_under k most rs)))
        (λ no.
        let is = moved_is n (capacity_of l) k k name name f.0 (λ z. let t = eq-eqb old.key.layer 0 z in let w : true ≡ false = sym t ∙ no in cc) in
        Contains-there (kind_record n name k l) (records_under k most rs) r ((range_members r).1 (c, ap (λ (q : Record). q.key.layer) (sym f.2) ∙ is.1)))
        (cases_Bool (eqb old.key.layer 0)),
  )

  drop_plan : (r : Record) → r ≡ kind_record n name k l → IsRegionPlan n name k (Some l) None (r ∷ records_under k most rs) []
  drop_plan r is =
      subst (λ (z : Record). IsRegionPlan n name k (Some l) None (z ∷ records_under k most rs) []) (sym is) (record {
        leads = drop_leads n name k l (kind_record n name k l ∷ records_under k most rs) drop_members
            (Apart-rises by_key by_key_total (kind_record n name k l ∷ records_under k most rs) drop_rises);
        removed_ascend = rises_ascend (kind_record n name k l ∷ records_under k most rs) drop_rises;
        added_ascend = refl;
      })

  module _ (other : List ℕ) (j : ℕ) (some : 1 ≤ j) where
    copy_rises : Rises by_key (kind_record n other j l ∷ map (renumbered j) (records_under k most rs))
    copy_rises =
        first_rises j other (map (renumbered j) (records_under k most rs)) some
        (λ r c. let m = Contains-map_from (renumbered j) (records_under k most rs) r c in ap (λ (q : Record). q.key.layer) (sym m.2))
        (Rises-map by_key by_key (renumbered j) (records_under k most rs) (λ r t c d less. moved_less j k r t (range_layer r c) (range_layer t d) less) range_rises)

    copy_plan : (r : Record) → r ≡ kind_record n other j l → IsRegionPlan n other j None (Some l) [] (r ∷ map (renumbered j) (records_under k most rs))
    copy_plan r is =
        subst (λ (z : Record). IsRegionPlan n other j None (Some l) [] (z ∷ map (renumbered j) (records_under k most rs))) (sym is) (record {
          leads = copy_leads form n l fits name other k j least some (records_under k most rs)
              (Apart-rises by_key by_key_total (records_under k most rs) range_rises) range_members;
          removed_ascend = refl;
          added_ascend = rises_ascend (kind_record n other j l ∷ map (renumbered j) (records_under k most rs)) copy_rises;
        })

pub numbers_law : NumberLaw
numbers_law form n numbers rs layers name layer s at = number_fits layers numbers s.numbering name layer at

pub drops_law : DropLaw
drops_law form n numbers rs layers name layer most r le s at room is =
    drop_plan form n numbers rs layers name layer le s at most room r (entry_record n r name (number_of numbers name) layer is)

pub copies_law : CopyLaw
copies_law form n numbers rs layers name layer most other number r le s at room some is =
    copy_plan form n numbers rs layers name layer le s at most room other number some r (entry_record n r other number layer is)
