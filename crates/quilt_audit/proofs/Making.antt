-- Records of which all is known spell a map.
use Rattle.std.proofs.Common.{◌≡◌, ℕ, suc, ◌≤◌, true, T, List, [], ◌∷◌, map, length, Some, refl, sym, ◌∙◌, ap, ap₂, subst, ⊎_elim, arith}
use Rattle.std.proofs.Common.{Contains, Ordering, Less}
use Rattle.std.specs.Ordering.{is_lt, nat_cmp}
use Rattle.std.specs.Cmp.Lexicographic.{slice_cmp, nat_list_cmp_total}
use Rattle.std.specs.FinMap as finmap
use Rattle.std.specs.FinMap.Entries as sorted
use Rattle.std.proofs.lemmas.Bool.{cases_lt}
use Rattle.quilt_types.specs.Layers.{Layer, Map, IsLayer, IsMap, is_name}
use Rattle.quilt_types.specs.Facts.{Fact}
use Rattle.quilt_loc.specs.Codes.{Rises}
use Rattle.quilt_loc.proofs.Members.{Contains-nil, Contains-here, Contains-there, Contains-cons_cases, Contains-map, Contains-map_from, list_all-at}
use Rattle.quilt_types.specs.declared.plane.Kind.{Kind}
use Rattle.quilt_record.specs.declared.record.Record.{Record}
use Rattle.quilt_record.specs.declared.entry.Entry.{Entry}
use Rattle.quilt_record.specs.Catalogs.{IsCatalog, NamesAscend, name_cmp}
use Rattle.quilt_record.specs.Records.{Numbering, capacity_of, record_of}
use Rattle.quilt_record.proofs.Orders.{is_Less}
use Rattle.quilt_spell.specs.Written.{by_key, number_of, layer_records, IsWritten, IsNumbering}
use Rattle.quilt_spell.specs.Catalogued.{catalog_entry, kind_of}
use Rattle.quilt_spell.specs.OfLayer.{kind_fact, kind_record}
use Rattle.quilt_spell.proofs.Maps.{entry_from_get, get_from_entry}
use Rattle.quilt_spell.proofs.OfLayer.{kind_there, kind_only}
use Rattle.quilt_spell.proofs.Spelling.{all_from}
use Rattle.quilt_spell.proofs.Written.{name_same, layer_record, layer_record_from, number_at}
use Rattle.quilt_audit.specs.declared.run.Run.{Run}
use Rattle.quilt_line_audit.specs.Layers.{IsLayerOf}
use Rattle.quilt_audit.specs.Checking.{entry_record, IsSoFar, SpellsSomeMap}
use Rattle.quilt_audit.proofs.Catalog.{kind_record_is, free_or_kind}
use Rattle.quilt_types.proofs.Truths.{T-both}

-- ---- lists in the order of names

below_from : {X : Type 0} (k : List ℕ) (xs : List (List ℕ × X)) → ((x : List ℕ × X) → Contains xs x → slice_cmp nat_cmp k x.0 ≡ Less)
    → T (sorted.below_all (slice_cmp nat_cmp) k xs)
below_from k [] h = tt
below_from k (x ∷ xs) h =
    T-both (is_lt (slice_cmp nat_cmp k x.0)) (sorted.below_all (slice_cmp nat_cmp) k xs)
    (subst (λ (o : Ordering). T (is_lt o)) (sym (h x (Contains-here x xs))) tt) (below_from k xs (λ y c. h y (Contains-there x xs y c)))

abbrev numbered : Entry → List ℕ × ℕ
numbered e = (e.name, e.number)

numbers_sorted : (es : List Entry) → NamesAscend es → T (sorted.is_sorted (slice_cmp nat_cmp) (map numbered es))
numbers_sorted [] h = tt
numbers_sorted (e ∷ es) h =
    T-both (sorted.below_all (slice_cmp nat_cmp) e.name (map numbered es)) (sorted.is_sorted (slice_cmp nat_cmp) (map numbered es))
    (below_from e.name (map numbered es) (λ x c.
    let w = Contains-map_from numbered es x c in
    subst (λ (y : List ℕ × ℕ). slice_cmp nat_cmp e.name y.0 ≡ Less) w.2
    (is_Less (name_cmp e.name w.0.name) (list_all-at (λ (g : Entry). is_lt (name_cmp e.name g.name)) es w.0 h.0 w.1))))
    (numbers_sorted es h.1)

module _ (form n : ℕ) (rs : List Record) where
  -- the layers under their names
  layers_of : (es : List Entry) → ((e : Entry) → Contains es e → IsLayerOf form n rs e.number e.kind) → List (List ℕ × Layer)
  layers_of [] cover = []
  layers_of (e ∷ es) cover = (e.name, (cover e (Contains-here e es)).layer) ∷ layers_of es (λ d c. cover d (Contains-there e es d c))

  -- what stands there
  record IsMade (es : List Entry) (x : List ℕ × Layer) : Type 0 where
    entry : Entry
    member : Contains es entry
    covered : IsLayerOf form n rs entry.number entry.kind
    is : x ≡ (entry.name, covered.layer)

  made_from : (es : List Entry) (cover : (e : Entry) → Contains es e → IsLayerOf form n rs e.number e.kind) (x : List ℕ × Layer)
      → Contains (layers_of es cover) x → IsMade es x
  unfolding layers_of
  made_from [] cover x c = absurd (Contains-nil x c)
  made_from (e ∷ es) cover x c =
      ⊎_elim
      (λ same. record { entry = e; member = Contains-here e es; covered = cover e (Contains-here e es); is = sym same })
      (λ d.
      let m = made_from es (λ d c. cover d (Contains-there e es d c)) x d in
      record { entry = m.entry; member = Contains-there e es m.entry m.member; covered = m.covered; is = m.is })
      (Contains-cons_cases (e.name, (cover e (Contains-here e es)).layer) (layers_of es (λ d c. cover d (Contains-there e es d c))) x c)

  made_there : (es : List Entry) (cover : (e : Entry) → Contains es e → IsLayerOf form n rs e.number e.kind) (e : Entry) → Contains es e
      → (h : IsLayerOf form n rs e.number e.kind) × Contains (layers_of es cover) (e.name, h.layer)
  unfolding layers_of
  made_there [] cover e c = absurd (Contains-nil e c)
  made_there (f ∷ es) cover e c =
      ⊎_elim
      (λ same. subst (λ (x : Entry). (h : IsLayerOf form n rs x.number x.kind) × Contains (layers_of (f ∷ es) cover) (x.name, h.layer)) same
      (cover f (Contains-here f es), Contains-here _ _))
      (λ d. let m = made_there es (λ d c. cover d (Contains-there f es d c)) e d in (m.0, Contains-there _ _ _ m.1))
      (Contains-cons_cases f es e c)

  made_length : (es : List Entry) (cover : (e : Entry) → Contains es e → IsLayerOf form n rs e.number e.kind) → length (layers_of es cover) ≡ length es
  unfolding layers_of
  made_length [] cover = refl
  made_length (e ∷ es) cover = ap (λ k. suc k) (made_length es (λ d c. cover d (Contains-there e es d c)))

  made_sorted : (es : List Entry) (cover : (e : Entry) → Contains es e → IsLayerOf form n rs e.number e.kind) → NamesAscend es
      → T (sorted.is_sorted (slice_cmp nat_cmp) (layers_of es cover))
  unfolding layers_of
  made_sorted [] cover h = tt
  made_sorted (e ∷ es) cover h =
      let rest = layers_of es (λ d c. cover d (Contains-there e es d c)) in
      T-both (sorted.below_all (slice_cmp nat_cmp) e.name rest) (sorted.is_sorted (slice_cmp nat_cmp) rest)
      (below_from e.name rest (λ x c.
      let w = made_from es (λ d c. cover d (Contains-there e es d c)) x c in
      subst (λ (y : List ℕ × Layer). slice_cmp nat_cmp e.name y.0 ≡ Less) (sym w.is)
      (is_Less (name_cmp e.name w.entry.name) (list_all-at (λ (g : Entry). is_lt (name_cmp e.name g.name)) es w.entry h.0 w.member))))
      (made_sorted es (λ d c. cover d (Contains-there e es d c)) h.1)

  -- the catalog of these layers
  made_catalog : (numbers : Numbering) (es : List Entry) (cover : (e : Entry) → Contains es e → IsLayerOf form n rs e.number e.kind)
      → ((e : Entry) → Contains es e → number_of numbers e.name ≡ e.number) → es ≡ map (catalog_entry numbers) (layers_of es cover)
  unfolding layers_of
  made_catalog numbers [] cover are = refl
  made_catalog numbers (e ∷ es) cover are =
      ap₂ ◌∷◌ (one e (cover e (Contains-here e es)).layer (cover e (Contains-here e es)).is (are e (Contains-here e es)))
      (made_catalog numbers es (λ d c. cover d (Contains-there e es d c)) (λ d c. are d (Contains-there e es d c)))
    where
      one : (d : Entry) (l : Layer) → kind_of l ≡ d.kind → number_of numbers d.name ≡ d.number
          → d ≡ record { number = number_of numbers d.name; name = d.name; kind = kind_of l }
      one d l k m = λ i. record { number = sym m i; name = d.name; kind = sym k i }

module _ (form n : ℕ) (rs : List Record) (least : 1 ≤ n) (le : n ≤ 12) (es : List Entry) (last layer : ℕ) (run : Run) (f : IsSoFar form n es last layer run rs)
    (most : last ≤ 255) (order : IsCatalog es) (cover : (e : Entry) → Contains es e → IsLayerOf form n rs e.number e.kind) (up : Rises by_key rs) where
  abbrev names : List ℕ → List ℕ → Ordering
  names = slice_cmp nat_cmp

  made : Map
  made = finmap.from_sorted {R = names} (layers_of form n rs es cover)

  numbers : Numbering
  numbers = finmap.from_sorted {R = names} (map numbered es)

  entries_are : finmap.entries made ≡ layers_of form n rs es cover
  unfolding made
  entries_are = finmap.entries-from_sorted names (layers_of form n rs es cover) (made_sorted form n rs es cover order.order)

  numbers_are : finmap.entries numbers ≡ map numbered es
  unfolding numbers
  numbers_are = finmap.entries-from_sorted names (map numbered es) (numbers_sorted es order.order)

  layer_there : (e : Entry) → Contains es e → (h : IsLayerOf form n rs e.number e.kind) × (finmap.get made e.name ≡ Some (h.layer))
  layer_there e c =
      let m = made_there form n rs es cover e c in (
        m.0,
        get_from_entry names nat_list_cmp_total name_same made (e.name, m.0.layer)
            (subst (λ (l : List (List ℕ × Layer)). Contains l (e.name, m.0.layer)) (sym entries_are) m.1),
      )

  layer_got : (name : List ℕ) (l : Layer) → finmap.get made name ≡ Some l → IsMade form n rs es (name, l)
  layer_got name l at =
      made_from form n rs es cover (name, l)
      (subst (λ (ls : List (List ℕ × Layer)). Contains ls (name, l)) entries_are (entry_from_get names nat_list_cmp_total name_same made name l at))

  number_there : (e : Entry) → Contains es e → finmap.get numbers e.name ≡ Some e.number
  number_there e c =
      get_from_entry names nat_list_cmp_total name_same numbers (numbered e)
      (subst (λ (l : List (List ℕ × ℕ)). Contains l (numbered e)) (sym numbers_are) (Contains-map numbered es e c))

  number_got : (name : List ℕ) (k : ℕ) → finmap.get numbers name ≡ Some k → (e : Entry) × Contains es e × (e.name ≡ name) × (e.number ≡ k)
  number_got name k at =
      let w = Contains-map_from numbered es (name, k)
      (subst (λ (l : List (List ℕ × ℕ)). Contains l (name, k)) numbers_are (entry_from_get names nat_list_cmp_total name_same numbers name k at)) in
      (w.0, w.1, ap (λ (x : List ℕ × ℕ). x.0) w.2, ap (λ (x : List ℕ × ℕ). x.1) w.2)

  number_is : (e : Entry) → Contains es e → number_of numbers e.name ≡ e.number
  number_is e c = number_at numbers e.name e.number (number_there e c)

  -- the two entries with one number
  same_entry : (d e : Entry) → Contains es d → Contains es e → d.number ≡ e.number → d.name ≡ e.name
  same_entry d e c k same = ap (λ (x : Entry). x.name) (f.differ d e c k same)

  numbering : IsNumbering made numbers
  numbering = record {
    has = λ name l at.
        let m = layer_got name l at in
        (m.entry.number, ap (finmap.get numbers) (ap (λ (x : List ℕ × Layer). x.0) m.is) ∙ number_there m.entry m.member);
    only = λ name k at.
        let w = number_got name k at in
        let l = layer_there w.0 w.1 in
        (l.0.layer, ap (finmap.get made) (sym w.2) ∙ l.1);
    in_range = λ name k at.
        let w = number_got name k at in
        let a = f.least w.0 w.1 in
        let b = f.most w.0 w.1 in
        let e = w.3 in
        (omega arith, omega arith);
    differ = λ a b k at bt.
        let v = number_got a k at in
        let w = number_got b k bt in
        sym v.2 ∙ same_entry v.0 w.0 v.1 w.1 (v.3 ∙ sym w.3) ∙ w.2;
  }

  entry_got : (x : List ℕ × Layer) → Contains (finmap.entries made) x → IsMade form n rs es x
  entry_got x c = made_from form n rs es cover x (subst (λ (ls : List (List ℕ × Layer)). Contains ls x) entries_are c)

  is_map : IsMap form n made
  is_map =
      let few = finmap.len-entries made ∙ ap length entries_are ∙ made_length form n rs es cover in
      let bound = order.few in
      record {
        few = omega arith;
        named = all_from (λ (x : List ℕ × Layer). is_name x.0 ≡ true) (finmap.entries made)
            (λ x c. let m = entry_got x c in ap (λ (y : List ℕ × Layer). is_name y.0) m.is ∙ f.named m.entry m.member);
        each = all_from (λ (x : List ℕ × Layer). IsLayer form n x.1) (finmap.entries made)
            (λ x c. let m = entry_got x c in subst (λ (y : List ℕ × Layer). IsLayer form n y.1) (sym m.is) m.covered.spelled.fits);
      }

  -- the record of the catalog for an entry is that of its layer's kind
  kind_is : (e : Entry) (h : IsLayerOf form n rs e.number e.kind) → entry_record n e ≡ kind_record n e.name e.number h.layer
  kind_is e h = sym (kind_record_is n e.name e.number h.layer ∙ ap (λ (k : Kind). entry_record n (record { number = e.number; name = e.name; kind = k })) h.is)

  -- a record of the layer, under the name of an entry
  written_as : (e : Entry) (c : Contains es e) (l : Layer) (r : Record) → Contains (layer_records n e.name e.number l) r
      → finmap.get made e.name ≡ Some l → IsWritten n numbers made r
  written_as e c l r w at =
      record { name = e.name; layer = l; at = at; written = subst (λ (k : ℕ). Contains (layer_records n e.name k l) r) (sym (number_is e c)) w }

  -- each record is written
  record_written : (r : Record) → Contains rs r → IsWritten n numbers made r
  record_written r c =
      ⊎_elim
      (λ some.
      let w = (f.layers_only r c some).1 in
      let e = w.0 in
      let l = layer_there e w.1 in
      let h = l.0 in
      let cap = capacity_of h.layer in
      let m = h.spelled.only r c (sym w.2) in
      let number = w.2 in
      written_as e w.1 h.layer r
      (⊎_elim (λ zero'. let k = ap (λ (q : Record). q.key.layer) m.2 in absurd (omega arith))
      (λ same. subst (Contains (layer_records n e.name e.number h.layer)) (sym same ∙ m.2) (layer_record n e.name e.number h.layer m.0 m.1))
      (free_or_kind n cap e.number [] e.name m.0)) l.1)
      (λ none.
      let w = f.entries_only r c (let z : r.key.layer ≡ 0 = omega arith in z) in
      let e = w.0 in
      let l = layer_there e w.1 in
      let h = l.0 in
      written_as e w.1 h.layer r
      (subst (Contains (layer_records n e.name e.number h.layer)) (sym (w.2 ∙ kind_is e h))
      (layer_record n e.name e.number h.layer (kind_fact h.layer) (kind_there n h.layer))) l.1)
      (cases_lt 0 r.key.layer)

  -- and each that is written is there
  written_there : (e : Entry) → Contains es e → (h : IsLayerOf form n rs e.number e.kind) (r : Record)
      → Contains (layer_records n e.name e.number h.layer) r → Contains rs r
  written_there e c h r w =
      let cap = capacity_of h.layer in
      let m = layer_record_from n e.name e.number h.layer r w in
      let listed : m.0 ≡ kind_fact h.layer → Contains rs r = λ kind.
      subst (Contains rs) (kind_is e h ∙ ap (λ (x : Fact). record_of n cap e.name e.number x) (sym kind) ∙ m.2) (f.listed e c) in
      ⊎_elim
      (λ zero'. listed (kind_only form n h.layer cap e.number e.name m.0 h.spelled.fits (f.least e c) m.1 zero'))
      (λ same. ⊎_elim listed (λ there. subst (Contains rs) (sym same ∙ m.2) there) (h.spelled.each m.0 m.1))
      (free_or_kind n cap e.number e.name [] m.0)

  written_record : (r : Record) → IsWritten n numbers made r → Contains rs r
  written_record r w =
      let m = layer_got w.name w.layer w.at in
      let name = ap (λ (x : List ℕ × Layer). x.0) m.is in
      let value = ap (λ (x : List ℕ × Layer). x.1) m.is in
      let number = ap (number_of numbers) name ∙ number_is m.entry m.member in
      let a = subst (λ (k : ℕ). Contains (layer_records n w.name k w.layer) r) number w.written in
      let b = subst (λ (z : List ℕ). Contains (layer_records n z m.entry.number w.layer) r) name a in
      let d = subst (λ (z : Layer). Contains (layer_records n m.entry.name m.entry.number z) r) value b in
      written_there m.entry m.member m.covered r d

  pub is_spelled : SpellsSomeMap form n es rs
  is_spelled = record {
    numbers = numbers;
    layers = made;
    spelled = record {
      map = is_map;
      numbering = numbering;
      ascending = up;
      written = λ r. (record_written r, written_record r);
    };
    catalogued = record { each = made_catalog form n rs numbers es cover number_is ∙ ap (map (catalog_entry numbers)) (sym entries_are) };
  }
