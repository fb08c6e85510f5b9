-- One map at most is spelled by one list of records.
use Rattle.std.proofs.Common.{◌≡◌, ℕ, ◌≤◌, true, false, List, [], ◌∷◌, ◌++◌, take, Option, Some, None, refl, sym, ◌∙◌, ap, subst, ⊎_elim, arith, Contains, eqb}
use Rattle.std.proofs.Common.{eqb-true, eq-eqb}
use Rattle.std.specs.Prelude.{slice_index}
use Rattle.std.specs.Cmp.Lexicographic.{nat_list_cmp_total}
use Rattle.std.specs.FinMap as finmap
use Rattle.std.proofs.lemmas.Bool.{cases_Bool, cond-true, cond-false}
use Rattle.quilt_types.specs.Layers.{Layer, Region, Points, Lines, Map, IsLayer}
use Rattle.quilt_types.specs.Facts.{Fact, IsOfKind, HasColour, HoldsPoint, HoldsNoPoint, IsSegment, IsMetBy, IsMetByNone, facts}
use Rattle.quilt_record.specs.declared.record.Record.{Record}
use Rattle.quilt_types.specs.Bytes.{filled}
use Rattle.quilt_record.specs.Records.{Numbering, Spells, capacity_of, kind_number, record_of}
use Rattle.quilt_spell.specs.Written.{number_of}
use Rattle.quilt_spell.specs.Spelled.{SpellsUnder}
use Rattle.quilt_spell.specs.OfLayer.{kind_fact, kind_record, SpellsLayer}
use Rattle.quilt_spell.proofs.Written.{name_same, number_fits, layer_fits, number_in_key, layer_record_from}
use Rattle.quilt_spell.proofs.Spelling.{spells_under}
use Rattle.quilt_spell.proofs.Session.{name_fits}
use Rattle.quilt_spell.proofs.OfLayer.{kind_there, layer_spelled, catalog_each, catalog_only, kind_only}
use Rattle.quilt_spell.proofs.facts.Decoding.{fact_of, facts_fit}
use Rattle.quilt_spell.proofs.facts.LayerAlone.{kind_of, layer_same}
use Rattle.quilt_record.proofs.Names as names

-- the number beside the kind
abbrev pub extent_of : Layer → ℕ
extent_of (Region grid) = 0
extent_of (Points capacity points) = capacity
extent_of (Lines threshold segs cover) = threshold

pub kind_value : (n : ℕ) (name : List ℕ) (k : ℕ) (l : Layer) → (kind_record n name k l).value ≡ filled 12 name ++ kind_of l
    ∷ kind_number (kind_of l) (extent_of l) ∷ 0 ∷ 0 ∷ []
kind_value n name k (Region grid) = refl
kind_value n name k (Points capacity points) = refl
kind_value n name k (Lines threshold segs cover) = refl

kind_item : (n : ℕ) (name : List ℕ) (k : ℕ) (l : Layer) → (kind_record n name k l).key.item ≡ k
kind_item n name k (Region grid) = refl
kind_item n name k (Points capacity points) = refl
kind_item n name k (Lines threshold segs cover) = refl

pub kind_layer : (n : ℕ) (name : List ℕ) (k : ℕ) (l : Layer) → (kind_record n name k l).key.layer ≡ 0
kind_layer n name k (Region grid) = refl
kind_layer n name k (Points capacity points) = refl
kind_layer n name k (Lines threshold segs cover) = refl

-- a capacity of 1 and no other is written as 0
capacity_alone : (a b : ℕ) → 1 ≤ a → 1 ≤ b → kind_number 2 a ≡ kind_number 2 b → a ≡ b
capacity_alone a b la lb e =
    ⊎_elim
    (λ s. ⊎_elim (λ t. eqb-true a 1 s ∙ sym (eqb-true b 1 t))
    (λ f. absurd (let z = sym (cond-true (eqb a 1) 0 a s) ∙ e ∙ cond-false (eqb b 1) 0 b f in omega arith)) (cases_Bool (eqb b 1)))
    (λ g. ⊎_elim (λ t. absurd (let z = sym (cond-false (eqb a 1) 0 a g) ∙ e ∙ cond-true (eqb b 1) 0 b t in omega arith))
    (λ f. sym (cond-false (eqb a 1) 0 a g) ∙ e ∙ cond-false (eqb b 1) 0 b f) (cases_Bool (eqb b 1)))
    (cases_Bool (eqb a 1))

-- layers of which the catalog says the same
pub kinds_alone : (form n : ℕ) (l m : Layer) → IsLayer form n l → IsLayer form n m → kind_of l ≡ kind_of m
    → kind_number (kind_of l) (extent_of l) ≡ kind_number (kind_of m) (extent_of m) → kind_fact l ≡ kind_fact m
kinds_alone form n (Region g) (Region h) hl hm e x = refl
kinds_alone form n (Points a p) (Points b q) hl hm e x = ap (IsOfKind 2) (capacity_alone a b hl.least hm.least x)
kinds_alone form n (Lines s p c) (Lines t q d) hl hm e x = ap (IsOfKind 3) x
kinds_alone form n l m hl hm e x = absurd (omega arith)

pub some_part : (n c k : ℕ) (name : List ℕ) (f : Fact) → ((record_of n c name k f).key.layer ≡ 0 → ⊥) → 1 ≤ (record_of n c name k f).key.part
some_part n c k name (IsOfKind i j) h = absurd (h refl)
some_part n c k name (HasColour b d) h = omega arith
some_part n c k name (HoldsPoint b p d) h = omega arith
some_part n c k name (HoldsNoPoint b) h = omega arith
some_part n c k name (IsSegment i s) h = omega arith
some_part n c k name (IsMetBy b i) h = omega arith
some_part n c k name (IsMetByNone b) h = omega arith

module _ (form n : ℕ) (rs : List Record) (le : n ≤ 12) where
  carry : (l m : Layer) (name other : List ℕ) (k j : ℕ) → IsLayer form n l → IsLayer form n m → 1 ≤ k → k ≡ j → kind_fact l ≡ kind_fact m
      → SpellsLayer n rs name k l → SpellsLayer n rs other j m
      → (f : Fact) → Contains (facts n l) f → Contains (facts n m) f
  carry l m name other k j hl hm least same kinds sl sm f c =
      let r = record_of n (capacity_of l) name k f in
      let d = layer_record_from n other j m r (sm.only r (sl.each f c) (number_in_key n (capacity_of l) k name f least ∙ same)) in
      ⊎_elim
      (λ t. subst (Contains (facts n m)) (sym (kind_only form n l (capacity_of l) k name f hl least c (eqb-true r.key.layer 0 t) ∙ kinds)) (kind_there n m))
      (λ no.
      let part = some_part n (capacity_of l) k name f (λ e. let t = eq-eqb r.key.layer 0 e in let z : true ≡ false = sym t ∙ no in cc) in
      let one = fact_of n le (capacity_of l) (capacity_of m) k name other f d.0 (facts_fit n le form l hl f c) (facts_fit n le form m hm d.0 d.1) part
      (sym d.2 ∙ ap (λ (i : ℕ). record_of n (capacity_of m) other i d.0) (sym same)) in
      subst (Contains (facts n m)) (sym one) d.1)
      (cases_Bool (eqb r.key.layer 0))

  module _ (numbers others : Numbering) (a b : Map) (s : SpellsUnder form n numbers rs a) (t : SpellsUnder form n others rs b) where
    pub half : (name : List ℕ) (l : Layer) → finmap.get a name ≡ Some l → finmap.get b name ≡ Some l
    half name l at =
        let k = number_of numbers name in
        let c = kind_record n name k l in
        let q = catalog_only form n others rs b le t c (catalog_each form n numbers rs a le s name l at) (kind_layer n name k l) in
        let other = q.0 in
        let m = q.1 in
        let j = number_of others other in
        let same : k ≡ j = sym (kind_item n name k l) ∙ ap (λ (r : Record). r.key.item) q.3 ∙ kind_item n other j m in
        let value = sym (kind_value n name k l) ∙ ap (λ (r : Record). r.value) q.3 ∙ kind_value n other j m in
        let rest_l = kind_of l ∷ kind_number (kind_of l) (extent_of l) ∷ 0 ∷ 0 ∷ [] in
        let rest_m = kind_of m ∷ kind_number (kind_of m) (extent_of m) ∷ 0 ∷ 0 ∷ [] in
        let named = name_fits form n a s.map name l at in
        let named' = name_fits form n b t.map other m q.2 in
        let long = names.name_long name named in
        let long' = names.name_long other named' in
        let is : name ≡ other =
        names.name_alone name other named named' (sym (names.first_twelve (filled 12 name) rest_l long) ∙ ap (take 12) value
        ∙ names.first_twelve (filled 12 other) rest_m long') in
        let kind : kind_of l ≡ kind_of m =
        sym (names.place_behind (filled 12 name) rest_l 0 long) ∙ ap (λ (v : List ℕ). slice_index v 12) value
        ∙ names.place_behind (filled 12 other) rest_m 0 long' in
        let extent : kind_number (kind_of l) (extent_of l) ≡ kind_number (kind_of m) (extent_of m) =
        sym (names.place_behind (filled 12 name) rest_l 1 long) ∙ ap (λ (v : List ℕ). slice_index v 13) value
        ∙ names.place_behind (filled 12 other) rest_m 1 long' in
        let hl = layer_fits form n numbers a le s.map s.numbering name l at in
        let hm = layer_fits form n others b le t.map t.numbering other m q.2 in
        let kinds = kinds_alone form n l m hl hm kind extent in
        let sl = layer_spelled form n numbers rs a le s name l at in
        let sm = layer_spelled form n others rs b le t other m q.2 in
        let least = (number_fits a numbers s.numbering name l at).0 in
        let least' = (number_fits b others t.numbering other m q.2).0 in
        let layers = layer_same form n l m hl hm
        (carry l m name other k j hl hm least same kinds sl sm)
        (carry m l other name j k hm hl least' (sym same) (sym kinds) sm sl) in
        ap (finmap.get b) is ∙ q.2 ∙ ap Some (sym layers)

none_or_same : (x y : Option Layer) → ((l : Layer) → x ≡ Some l → y ≡ Some l) → ((l : Layer) → y ≡ Some l → x ≡ Some l) → x ≡ y
none_or_same None None f g = refl
none_or_same None (Some m) f g = g m refl
none_or_same (Some l) y f g = sym (f l refl)

-- one map at most
pub one_map : (form n : ℕ) (rs : List Record) (a b : Map) → n ≤ 12 → Spells form n rs a → Spells form n rs b → a ≡ b
one_map form n rs a b le s t =
    let u = spells_under form n rs a le s in
    let v = spells_under form n rs b le t in
    finmap.same_map nat_list_cmp_total name_same a b
    (λ name. none_or_same (finmap.get a name) (finmap.get b name) (half form n rs le s.numbers t.numbers a b u v name)
    (half form n rs le t.numbers s.numbers b a v u name))
