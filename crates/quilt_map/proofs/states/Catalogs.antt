-- The entries of a catalog and the layers of its map.
use Rattle.std.proofs.Common.{◌≡◌, ◌≢◌, ◌↔◌, ℕ, zero, suc, ◌+◌, ◌<◌, ◌≤◌, Bool, true, false, cond, ◌⊎◌, List, [], ◌∷◌, ◌++◌, map, length, take, get_or, Option}
use Rattle.std.proofs.Common.{Some, None, refl, sym, ◌∙◌, ap, subst, inl, inr, ⊎_elim, arith, All, Contains, nat_cmp, Less, Equal, Greater, eqb-true, eq-eqb}
use Rattle.std.specs.Prelude.{unwrap_or, ◌==◌, not, position, nat_eq, IsNone, IfSome}
use Rattle.std.specs.List.{list_any, remove, position_or_len, range_with_len}
use Rattle.std.specs.Ordering.{is_lt, ordering_reverse}
use Rattle.std.specs.Cmp.{IsTotalOrder, on_total, tied_itself, nat_cmp_total}
use Rattle.std.specs.Cmp.Lexicographic.{slice_cmp, nat_list_cmp_total, pointwise}
use Rattle.std.specs.declared.cmp.Ordering.{Ordering}
use Rattle.std.specs.FinMap as finmap
use Rattle.std.proofs.lemmas.Bool.{cases_lt, cond-false}
use Rattle.std.proofs.lemmas.List.{length-map, get_or_default, take_more}
use Rattle.std.proofs.lemmas.List.FromFn.{length-range_with_len}
use Rattle.std.proofs.lemmas.List.Elements.{All-contains, All-weaker, All-nil, All-cons, Contains-get_or}
use Rattle.std.proofs.lemmas.List.Quantifiers.{position-Some}
use Rattle.std.proofs.lemmas.Slice.Eq.{bytes_eq-Decides}
use Rattle.std.proofs.lemmas.Option.{none-some, same_Some}
use Rattle.quilt_types.specs.declared.plane.Kind.TheVariants as kinds
use Rattle.quilt_types.specs.Layers.{Layer, Map}
use Rattle.quilt_record.specs.declared.entry.Entry.{Entry}
use Rattle.quilt_record.specs.Catalogs.{IsCatalog, NamesAscend, name_cmp, with_entry}
use Rattle.quilt_record.specs.Records.{Numbering}
use Rattle.quilt_record.proofs.Entries.{place_last}
use Rattle.quilt_loc.specs.Codes.{Rises}
use Rattle.quilt_loc.proofs.Members.{Contains-nil, Contains-here, Contains-there, Contains-cons_cases, Contains-map, Contains-map_from, Contains-range_from}
use Rattle.quilt_loc.proofs.Members.{list_all-at}
use Rattle.quilt_loc.proofs.Rising.{same_rising, Rises-map, Rises-range}
use Rattle.quilt_spell.specs.Written.{number_of, IsNumbering}
use Rattle.quilt_spell.specs.Changing.{with_layer, with_number}
use Rattle.quilt_spell.specs.Catalogued.{kind_of, catalog_entry, IsCatalogOf}
use Rattle.quilt_spell.proofs.Maps.{by_first, Rises-entries, entry_from_get, get_from_entry, get_inserted, get_others, get_kept, same_or_not}
use Rattle.quilt_spell.proofs.Changes.{got_here, got_there}
use Rattle.quilt_spell.proofs.Lists.{Apart-rises, Apart-le}
use Rattle.quilt_spell.proofs.facts.SameFacts.{any_member, member_any}
use Rattle.quilt_spell.proofs.Spelling.{all_from}
use Rattle.quilt_spell.proofs.Written.{name_same, number_at}
use Rattle.quilt_map.specs.Lookups.{IsLayerAt}

-- entries by their names
abbrev pub by_name : Entry → Entry → Ordering
by_name d e = name_cmp d.name e.name

by_name_total : IsTotalOrder by_name
by_name_total = on_total (λ (e : Entry). e.name) nat_list_cmp_total

module _ (layers : Map) (numbers : Numbering) where
  -- a layer has an entry, and an entry has a layer
  pub entry_there : (entries : List Entry) → IsCatalogOf layers numbers entries → (name : List ℕ) (layer : Layer)
      → finmap.get layers name ≡ Some layer → Contains entries (catalog_entry numbers (name, layer))
  entry_there entries c name layer at =
      subst (λ (es : List Entry). Contains es (catalog_entry numbers (name, layer))) (sym c.each)
      (Contains-map (catalog_entry numbers) (finmap.entries layers) (name, layer)
      (entry_from_get (slice_cmp nat_cmp) nat_list_cmp_total name_same layers name layer at))

  pub layer_there : (entries : List Entry) → IsCatalogOf layers numbers entries → (e : Entry) → Contains entries e
      → (layer : Layer) × (finmap.get layers e.name ≡ Some layer) × (e ≡ catalog_entry numbers (e.name, layer))
  layer_there entries c e there =
      let m = Contains-map_from (catalog_entry numbers) (finmap.entries layers) e (subst (λ (es : List Entry). Contains es e) c.each there) in
      let at = get_from_entry (slice_cmp nat_cmp) nat_list_cmp_total name_same layers m.0 m.1 in
      let name : m.0.0 ≡ e.name = ap (λ (d : Entry). d.name) m.2 in
      (m.0.1, ap (finmap.get layers) (sym name) ∙ at, sym m.2 ∙ ap (λ (b : List ℕ). catalog_entry numbers (b, m.0.1)) name)

  -- ---- what a look-up says
  pub no_layer : (entries : List Entry) (name : List ℕ) → IsCatalogOf layers numbers entries → All (λ e. e.name ≢ name) entries → finmap.get layers name ≡ None
  no_layer entries name c others = by_case (finmap.get layers name) refl
    where
      by_case : (o : Option Layer) → finmap.get layers name ≡ o → o ≡ None
      by_case None e = refl
      by_case (Some l) e =
          absurd (All-contains (λ (d : Entry). d.name ≢ name) entries (catalog_entry numbers (name, l)) others (entry_there entries c name l e) refl)

  pub layer_at : (entries : List Entry) (name : List ℕ) (i : ℕ) (d : Entry) → IsCatalogOf layers numbers entries → i < length entries
      → (get_or entries i d).name ≡ name → IsLayerAt layers numbers entries name i
  layer_at entries name i d c lt named =
      let l = layer_there entries c (get_or entries i d) (Contains-get_or entries i d lt) in record {
        layer = l.0;
        got = ap (finmap.get layers) (sym named) ∙ l.1;
        inside = lt;
        entry = λ e. get_or_default entries i e d lt ∙ l.2 ∙ ap (λ (b : List ℕ). catalog_entry numbers (b, l.0)) named;
      }

  -- ---- the order of the names
  pub catalog_rises : (entries : List Entry) → IsCatalogOf layers numbers entries → Rises by_name entries
  catalog_rises entries c =
      subst (Rises by_name) (sym c.each)
      (Rises-map (by_first (slice_cmp nat_cmp)) by_name (catalog_entry numbers) (finmap.entries layers) (λ a b _ _ h. h) (Rises-entries (slice_cmp nat_cmp) layers))

  -- rising entries are the catalog where each layer has one and each is a layer's
  pub catalog_from : (entries : List Entry) → Rises by_name entries
      → ((name : List ℕ) (layer : Layer) → finmap.get layers name ≡ Some layer → Contains entries (catalog_entry numbers (name, layer)))
      → ((e : Entry) → Contains entries e → (layer : Layer) × (finmap.get layers e.name ≡ Some layer) × (e ≡ catalog_entry numbers (e.name, layer)))
      → IsCatalogOf layers numbers entries
  catalog_from entries up has only =
      let all = map (catalog_entry numbers) (finmap.entries layers) in
      let made : IsCatalogOf layers numbers all = record { each = refl } in record {
        each = same_rising by_name by_name_total entries all up (catalog_rises all made) (λ e. (
          λ c. let l = only e c in subst (Contains all) (sym l.2) (entry_there all made e.name l.0 l.1),
          λ c. let l = layer_there all made e c in subst (Contains entries) (sym l.2) (has e.name l.0 l.1),
        ));
      }

  -- as many entries as layers
  pub catalog_length : (entries : List Entry) → IsCatalogOf layers numbers entries → length entries ≡ finmap.len layers
  catalog_length entries c = ap length c.each ∙ length-map (finmap.entries layers) (catalog_entry numbers) ∙ sym (finmap.len-entries layers)

-- ---- a search by name
pub is_none : {X : Type 0} (o : Option X) → IsNone o → o ≡ None
is_none None h = refl
is_none (Some x) h = let no : true ≡ false = h in cc

pub if_some : {X : Type 0} (P : X → Type 0) (o : Option X) → ((x : X) → o ≡ Some x → P x) → IfSome o P
if_some P None f = tt
if_some P (Some x) f = f x refl

-- where the first place that passes is the length, none passes
none_passes : {X : Type 0} (p : X → Bool) (xs : List X) → length xs ≡ position_or_len p xs → All (λ x. p x ≡ false) xs
none_passes p [] e = All-nil (λ x. p x ≡ false)
none_passes p (x ∷ xs) e = by_case (p x) refl e (none_passes p xs)
  where
    by_case : (b : Bool) → p x ≡ b → suc (length xs) ≡ cond (not b) (1 + position_or_len p xs) 0
        → (length xs ≡ position_or_len p xs → All (λ y. p y ≡ false) xs) → All (λ y. p y ≡ false) (x ∷ xs)
    by_case true t h rest = absurd (let no : ⊥ = omega arith in no)
    by_case false t h rest = All-cons (λ y. p y ≡ false) x xs t (rest (omega arith))

module _ (entries : List Entry) (name : List ℕ) where
  has_name : Entry → Bool
  has_name e = pointwise nat_eq name e.name

  pub none_named : (o : Option ℕ) → o ≡ position (λ e. pointwise nat_eq name e.name) entries → IsNone o → All (λ e. e.name ≢ name) entries
  none_named o is none =
      All-weaker (λ (e : Entry). pointwise nat_eq name e.name ≡ false) (λ e. e.name ≢ name)
      (λ e no same. let t = (bytes_eq-Decides name e.name).1 (sym same) in let z : true ≡ false = sym t ∙ no in cc) entries
      (none_passes (λ e. pointwise nat_eq name e.name) entries (place_last (λ e. pointwise nat_eq name e.name) entries (sym is ∙ is_none o none)))

  pub one_named : (o : Option ℕ) → o ≡ position (λ e. pointwise nat_eq name e.name) entries → (i : ℕ) → o ≡ Some i → (d : Entry)
      → (i < length entries) × ((get_or entries i d).name ≡ name)
  one_named o is i at d =
      let p = position-Some (λ (e : Entry). pointwise nat_eq name e.name) entries i d (sym is ∙ at) in
      (p.0, sym ((bytes_eq-Decides name (get_or entries i d).name).0 p.1))

-- some entry
pub some_entry : Entry
some_entry = record { number = 1; name = []; kind = kinds.Region }

-- ---- numbers
module _ (entries : List Entry) where
  -- no entry has a number that none is found to have
  pub none_numbered : (k : ℕ) → list_any (λ e. e.number == k) entries ≡ false → All (λ e. e.number ≢ k) entries
  none_numbered k none i d lt same =
      let t =
      member_any (λ (e : Entry). e.number == k) entries (get_or entries i d) (Contains-get_or entries i d lt) (eq-eqb (get_or entries i d).number k same) in
      let z : true ≡ false = sym t ∙ none in cc

  numbered : (k : ℕ) → list_any (λ e. e.number == k) entries ≡ true → Contains (map (λ (e : Entry). e.number) entries) k
  numbered k any =
      let m = any_member (λ (e : Entry). e.number == k) entries any in
      subst (Contains (map (λ (e : Entry). e.number) entries)) (eqb-true m.0.number k m.2) (Contains-map (λ (e : Entry). e.number) entries m.0 m.1)

  -- fewer than 255 entries do not have all numbers from 1 to 255
  pub last_free : length entries < 255 → ((k : ℕ) → 1 ≤ k → k < 255 → list_any (λ e. e.number == k) entries ≡ true)
      → list_any (λ e. e.number == 255) entries ≡ false
  last_free few all = by_case (list_any (λ e. e.number == 255) entries) refl
    where
      each : list_any (λ e. e.number == 255) entries ≡ true → (k : ℕ) → Contains (range_with_len 1 255) k → Contains (map (λ (e : Entry). e.number) entries) k
      each last k c =
          let r = Contains-range_from 1 255 k c in
          ⊎_elim (λ lt. numbered k (all k r.0 lt)) (λ e. numbered k (subst (λ (j : ℕ). list_any (λ e. e.number == j) entries ≡ true) e last))
          (let which : (k < 255) ⊎ (255 ≡ k) = ⊎_elim (λ lt. inl lt) (λ ge. inr (omega arith)) (cases_lt k 255) in which)

      by_case : (b : Bool) → list_any (λ e. e.number == 255) entries ≡ b → b ≡ false
      by_case false e = refl
      by_case true e =
          let long = Apart-le (range_with_len 1 255) (map (λ (e : Entry). e.number) entries)
          (Apart-rises nat_cmp nat_cmp_total (range_with_len 1 255) (Rises-range 1 255)) (each e) in
          let many = length-range_with_len 1 255 in
          let short = length-map entries (λ (e : Entry). e.number) in
          absurd (omega arith)

  -- no name has the number in the map
  pub unused_number : (k : ℕ) → list_any (λ e. e.number == k) entries ≡ false → (layers : Map) (numbers : Numbering)
      → IsCatalogOf layers numbers entries → IsNumbering layers numbers → (name : List ℕ) → finmap.get numbers name ≢ Some k
  unused_number k none layers numbers is num name at =
      let l = num.only name k at in
      let there = entry_there layers numbers entries is name l.0 l.1 in
      let t = member_any (λ (e : Entry). e.number == k) entries (catalog_entry numbers (name, l.0)) there
      (eq-eqb (number_of numbers name) k (number_at numbers name k at)) in
      let z : true ≡ false = sym t ∙ none in cc

-- ---- the same entries again
-- so many of the entries of a catalog stand in the copy
pub record IsCopied (copy entries : List Entry) (i : ℕ) : Type 0 where
  pub front : copy ≡ take i entries
  pub is : IsCatalog entries

-- an entry that none follows comes last
with_last : (e : Entry) (fs : List Entry) → ((f : Entry) → Contains fs f → is_lt (name_cmp e.name f.name) ≡ false) → with_entry e fs ≡ fs ++ e ∷ []
with_last e [] h = refl
with_last e (f ∷ fs) h =
    cond-false (is_lt (name_cmp e.name f.name)) (e ∷ f ∷ fs) (f ∷ with_entry e fs) (h f (Contains-here f fs))
    ∙ ap (λ (rest : List Entry). f ∷ rest) (with_last e fs (λ g c. h g (Contains-there f fs g c)))

less_is : (o : Ordering) → is_lt o ≡ true → o ≡ Less
less_is Less h = refl
less_is Equal h = cc
less_is Greater h = cc

-- the entries before a place have names before its name
names_before : (entries : List Entry) (i : ℕ) (d : Entry) → NamesAscend entries → i < length entries → (f : Entry) → Contains (take i entries) f
    → name_cmp f.name (get_or entries i d).name ≡ Less
names_before [] i d order lt f c = absurd (let no : ⊥ = omega arith in no)
names_before (e ∷ es) zero d order lt f c = absurd (Contains-nil f c)
names_before (e ∷ es) (suc i) d order lt f c =
    let inside : i < length es = omega arith in
    ⊎_elim
    (λ same. subst (λ (g : Entry). name_cmp g.name (get_or es i d).name ≡ Less) same
    (less_is (name_cmp e.name (get_or es i d).name)
    (list_all-at (λ (g : Entry). is_lt (name_cmp e.name g.name)) es (get_or es i d) order.0 (Contains-get_or es i d inside))))
    (λ there. names_before es i d order.1 inside f there)
    (Contains-cons_cases e (take i es) f c)

pub copied_new : (copy entries : List Entry) (i : ℕ) (e : Entry) → IsCopied copy entries i → i < length entries → e ≡ get_or entries i e
    → All (λ f. f.name ≢ e.name) copy
copied_new copy entries i e h lt at =
    subst (All (λ (f : Entry). f.name ≢ e.name)) (sym h.front)
    (all_from (λ (f : Entry). f.name ≢ e.name) (take i entries) (λ f c same.
    let less = names_before entries i e h.is.order lt f c in
    let tie : name_cmp f.name f.name ≡ Less = ap (name_cmp f.name) (same ∙ ap (λ (g : Entry). g.name) at) ∙ less in
    let no : Equal ≡ Less = sym (tied_itself nat_list_cmp_total f.name) ∙ tie in
    cc))

pub copied_more : (copy entries : List Entry) (i : ℕ) (e : Entry) → IsCopied copy entries i → i < length entries → e ≡ get_or entries i e
    → IsCopied (with_entry e copy) entries (i + 1)
copied_more copy entries i e h lt at = record {
  front = ap (with_entry e) h.front
      ∙ with_last e (take i entries) (λ f c.
      let less : name_cmp f.name e.name ≡ Less = ap (λ (g : Entry). name_cmp f.name g.name) at ∙ names_before entries i e h.is.order lt f c in
      ap is_lt (nat_list_cmp_total.antisymm e.name f.name ∙ ap ordering_reverse less))
      ∙ ap (λ (g : Entry). take i entries ++ g ∷ []) at ∙ sym (take_more entries i e lt);
  is = h.is;
}

-- what an element that was read is, by another name
pub same_read : (entries : List Entry) (i : ℕ) (e f : Entry) → e ≡ get_or entries i e → f ≡ e → f ≡ get_or entries i f
same_read entries i e f at same = subst (λ (g : Entry). g ≡ get_or entries i g) (sym same) at

-- ---- an entry comes
module _ (e : Entry) where
  pub with_members : (es : List Entry) (f : Entry) → Contains (with_entry e es) f ↔ ((f ≡ e) ⊎ Contains es f)
  with_members [] f = (
    λ c. ⊎_elim (λ same. inl (sym same)) (λ none. inr none) (Contains-cons_cases e [] f c),
    λ w. ⊎_elim (λ same. subst (Contains (e ∷ [])) (sym same) (Contains-here e [])) (λ none. absurd (Contains-nil f none)) w,
  )
  with_members (g ∷ gs) f = by_case (is_lt (name_cmp e.name g.name)) (with_members gs f)
    where
      by_case : (b : Bool) → (Contains (with_entry e gs) f ↔ ((f ≡ e) ⊎ Contains gs f)) → Contains (cond b (e ∷ g ∷ gs) (g ∷ with_entry e gs)) f
          ↔ ((f ≡ e) ⊎ Contains (g ∷ gs) f)
      by_case true rest = (
        λ c. ⊎_elim (λ same. inl (sym same)) (λ there. inr there) (Contains-cons_cases e (g ∷ gs) f c),
        λ w. ⊎_elim (λ same. subst (Contains (e ∷ g ∷ gs)) (sym same) (Contains-here e (g ∷ gs))) (λ there. Contains-there e (g ∷ gs) f there) w,
      )
      by_case false rest = (
        λ c. ⊎_elim (λ same. inr (subst (Contains (g ∷ gs)) same (Contains-here g gs)))
            (λ there. ⊎_elim (λ same. inl same) (λ in_gs. inr (Contains-there g gs f in_gs)) (rest.0 there))
            (Contains-cons_cases g (with_entry e gs) f c),
        λ w. ⊎_elim (λ same. Contains-there g (with_entry e gs) f (rest.1 (inl same)))
            (λ there. ⊎_elim (λ same. subst (Contains (g ∷ with_entry e gs)) same (Contains-here g (with_entry e gs)))
            (λ in_gs. Contains-there g (with_entry e gs) f (rest.1 (inr in_gs)))
            (Contains-cons_cases g gs f there)) w,
      )

  -- of two names one is first
  first_name : (f : Entry) → (f.name ≡ e.name → ⊥) → is_lt (name_cmp e.name f.name) ≡ false → name_cmp f.name e.name ≡ Less
  first_name f differ after = by_case (name_cmp e.name f.name) refl after
    where
      by_case : (o : Ordering) → name_cmp e.name f.name ≡ o → is_lt o ≡ false → name_cmp f.name e.name ≡ Less
      by_case Less is h = cc
      by_case Equal is h = absurd (differ (sym (name_same e.name f.name is)))
      by_case Greater is h = nat_list_cmp_total.antisymm f.name e.name ∙ ap ordering_reverse is

  pub with_rises : (es : List Entry) → Rises by_name es → ((f : Entry) → Contains es f → f.name ≡ e.name → ⊥) → Rises by_name (with_entry e es)
  with_rises [] up new = (λ f c. absurd (Contains-nil f c), tt)
  with_rises (g ∷ gs) up new = by_case (is_lt (name_cmp e.name g.name)) refl (with_rises gs up.1 (λ f c. new f (Contains-there g gs f c)))
    where
      by_case : (b : Bool) → is_lt (name_cmp e.name g.name) ≡ b → Rises by_name (with_entry e gs) → Rises by_name (cond b (e ∷ g ∷ gs) (g ∷ with_entry e gs))
      by_case true is rest =
          let first = less_is (name_cmp e.name g.name) is in (
            λ f c. ⊎_elim (λ same. subst (λ (h : Entry). by_name e h ≡ Less) same first)
                (λ there. nat_list_cmp_total.trans e.name g.name f.name first (up.0 f there)) (Contains-cons_cases g gs f c),
            up,
          )
      by_case false is rest = (
        λ f c. ⊎_elim (λ same. subst (λ (h : Entry). by_name g h ≡ Less) (sym same) (first_name g (new g (Contains-here g gs)) is))
            (λ there. up.0 f there) ((with_members gs f).0 c),
        rest,
      )

-- ---- an entry goes
pub without_members : (es : List Entry) (i : ℕ) (d : Entry) (name : List ℕ) → Rises by_name es → i < length es → (get_or es i d).name ≡ name
    → (f : Entry) → Contains (remove es i) f ↔ (Contains es f × (f.name ≡ name → ⊥))
without_members [] i d name up lt at f = absurd (let no : ⊥ = omega arith in no)
without_members (g ∷ gs) zero d name up lt at f = (
  λ c. (Contains-there g gs f c, λ same. let less : name_cmp g.name g.name ≡ Less = ap (name_cmp g.name) (at ∙ sym same) ∙ up.0 f c in never_less g.name less),
  λ p. ⊎_elim (λ same. absurd (p.1 (ap (λ (h : Entry). h.name) (sym same) ∙ at))) (λ there. there) (Contains-cons_cases g gs f p.0),
)
  where
    never_less : (a : List ℕ) → name_cmp a a ≡ Less → ⊥
    never_less a less = let no : Equal ≡ Less = sym (tied_itself nat_list_cmp_total a) ∙ less in cc
without_members (g ∷ gs) (suc i) d name up lt at f =
    let inside : i < length gs = omega arith in
    let rest = without_members gs i d name up.1 inside at f in (
      λ c. ⊎_elim
          (λ same. (
            subst (Contains (g ∷ gs)) same (Contains-here g gs),
            λ named.
                let less : name_cmp f.name f.name ≡ Less = ap (λ (h : Entry). name_cmp h.name f.name) (sym same)
                ∙ ap (name_cmp g.name) (named ∙ sym at) ∙ up.0 (get_or gs i d) (Contains-get_or gs i d inside) in
                let no : Equal ≡ Less = sym (tied_itself nat_list_cmp_total f.name) ∙ less in cc,
          ))
          (λ there. let r = rest.0 there in (Contains-there g gs f r.0, r.1)) (Contains-cons_cases g (remove gs i) f c),
      λ p. ⊎_elim (λ same. subst (Contains (g ∷ remove gs i)) same (Contains-here g (remove gs i)))
          (λ there. Contains-there g (remove gs i) f (rest.1 (there, p.1))) (Contains-cons_cases g gs f p.0),
    )

pub without_rises : (es : List Entry) (i : ℕ) (d : Entry) (name : List ℕ) → Rises by_name es → i < length es → (get_or es i d).name ≡ name
    → Rises by_name (remove es i)
without_rises [] i d name up lt at = absurd (let no : ⊥ = omega arith in no)
without_rises (g ∷ gs) zero d name up lt at = up.1
without_rises (g ∷ gs) (suc i) d name up lt at =
    let inside : i < length gs = omega arith in
    (λ f c. up.0 f ((without_members gs i d name up.1 inside at f).0 c).0, without_rises gs i d name up.1 inside at)

-- ---- what a command does to the catalog
same_entry : (m n : Numbering) (name : List ℕ) (layer : Layer) → number_of m name ≡ number_of n name → catalog_entry m (name, layer) ≡ catalog_entry n (name, layer)
same_entry m n name layer same = ap (λ (k : ℕ). record { number = k; name = name; kind = kind_of layer }) same

module _ (layers : Map) (numbers : Numbering) (entries : List Entry) (c : IsCatalogOf layers numbers entries) (name : List ℕ) where
  which : (b : List ℕ) → (b ≡ name) ⊎ (b ≡ name → ⊥)
  which b = same_or_not (slice_cmp nat_cmp) nat_list_cmp_total name_same b name

  -- the numbers of the other names stay
  number_there : (number : ℕ) (new : Option Layer) (b : List ℕ) → (b ≡ name → ⊥) → number_of (with_number numbers name number new) b ≡ number_of numbers b
  number_there number None b d = ap (λ (o : Option ℕ). unwrap_or o 0) (get_kept (slice_cmp nat_cmp) nat_list_cmp_total name_same numbers name b d)
  number_there number (Some l) b d = ap (λ (o : Option ℕ). unwrap_or o 0) (get_others (slice_cmp nat_cmp) nat_list_cmp_total name_same numbers name number b d)

  number_here : (number : ℕ) (l : Layer) → number_of (with_number numbers name number (Some l)) name ≡ number
  number_here number l =
      number_at (finmap.insert numbers name number) name number (get_inserted (slice_cmp nat_cmp) nat_list_cmp_total name_same numbers name number)

  -- a layer comes, under a number
  pub catalog_comes : (new : Layer) (number : ℕ) (e : Entry) → All (λ f. f.name ≢ name) entries
      → e ≡ record { number = number; name = name; kind = kind_of new }
      → IsCatalogOf (with_layer layers name (Some new)) (with_number numbers name number (Some new)) (with_entry e entries)
  catalog_comes new number e others is =
      let after = with_layer layers name (Some new) in
      let numbered = with_number numbers name number (Some new) in
      let named : e.name ≡ name = ap (λ (f : Entry). f.name) is in
      let made : catalog_entry numbered (name, new) ≡ e = ap (λ (k : ℕ). record { number = k; name = name; kind = kind_of new }) (number_here number new) ∙ sym is in
      let apart = λ (f : Entry) (there : Contains entries f). All-contains (λ (g : Entry). g.name ≢ name) entries f others there in
      catalog_from after numbered (with_entry e entries)
      (with_rises e entries (catalog_rises layers numbers entries c) (λ f there same. apart f there (same ∙ named)))
      (λ b l at. ⊎_elim
      (λ same.
      let value : new ≡ l = same_Some new l (sym (got_here layers name (Some new)) ∙ ap (finmap.get after) (sym same) ∙ at) in
      let pair : e ≡ catalog_entry numbered (b, l) = sym made ∙ (λ i. catalog_entry numbered (sym same i, value i)) in
      (with_members e entries (catalog_entry numbered (b, l))).1 (inl (sym pair)))
      (λ d.
      let was = entry_there layers numbers entries c b l (sym (got_there layers name (Some new) b d) ∙ at) in
      (with_members e entries (catalog_entry numbered (b, l))).1
      (inr (subst (Contains entries) (same_entry numbers numbered b l (sym (number_there number (Some new) b d))) was)))
      (which b))
      (λ f there. ⊎_elim
      (λ same.
      let fname : f.name ≡ name = ap (λ (g : Entry). g.name) same ∙ named in
      (new, ap (finmap.get after) fname ∙ got_here layers name (Some new), same ∙ sym made ∙ (λ i. catalog_entry numbered (sym fname i, new))))
      (λ was.
      let l = layer_there layers numbers entries c f was in
      let d = apart f was in
      (l.0, got_there layers name (Some new) f.name d ∙ l.1, l.2 ∙ same_entry numbers numbered f.name l.0 (sym (number_there number (Some new) f.name d))))
      ((with_members e entries f).0 there))

  -- a layer goes
  pub catalog_goes : (number : ℕ) (i : ℕ) (d : Entry) → i < length entries → (get_or entries i d).name ≡ name
      → IsCatalogOf (with_layer layers name None) (with_number numbers name number None) (remove entries i)
  catalog_goes number i d lt at =
      let after = with_layer layers name None in
      let numbered = with_number numbers name number None in
      let up = catalog_rises layers numbers entries c in
      let members = without_members entries i d name up lt at in
      catalog_from after numbered (remove entries i)
      (without_rises entries i d name up lt at)
      (λ b l got. ⊎_elim
      (λ same. absurd (none-some l (sym (got_here layers name None) ∙ ap (finmap.get after) (sym same) ∙ got)))
      (λ differ.
      let was = entry_there layers numbers entries c b l (sym (got_there layers name None b differ) ∙ got) in
      (members (catalog_entry numbered (b, l))).1 (subst (Contains entries) (same_entry numbers numbered b l (sym (number_there number None b differ))) was, differ))
      (which b))
      (λ f there.
      let r = (members f).0 there in
      let l = layer_there layers numbers entries c f r.0 in
      (l.0, got_there layers name None f.name r.1 ∙ l.1, l.2 ∙ same_entry numbers numbered f.name l.0 (sym (number_there number None f.name r.1))))

  -- a layer becomes another of its kind, under its number
  pub catalog_stays : (old new : Layer) (number : ℕ) → finmap.get layers name ≡ Some old → kind_of old ≡ kind_of new → number_of numbers name ≡ number
      → IsCatalogOf (with_layer layers name (Some new)) (with_number numbers name number (Some new)) entries
  catalog_stays old new number was kinds_same num =
      let after = with_layer layers name (Some new) in
      let numbered = with_number numbers name number (Some new) in
      let here : catalog_entry numbers (name, old) ≡ catalog_entry numbered (name, new) =
      λ i. record { number = (num ∙ sym (number_here number new)) i; name = name; kind = kinds_same i } in
      catalog_from after numbered entries (catalog_rises layers numbers entries c)
      (λ b l at. ⊎_elim
      (λ same.
      let value : new ≡ l = same_Some new l (sym (got_here layers name (Some new)) ∙ ap (finmap.get after) (sym same) ∙ at) in
      let pair : catalog_entry numbered (name, new) ≡ catalog_entry numbered (b, l) = λ i. catalog_entry numbered (sym same i, value i) in
      subst (Contains entries) (here ∙ pair) (entry_there layers numbers entries c name old was))
      (λ d. subst (Contains entries) (same_entry numbers numbered b l (sym (number_there number (Some new) b d)))
      (entry_there layers numbers entries c b l (sym (got_there layers name (Some new) b d) ∙ at)))
      (which b))
      (λ f there.
      let l = layer_there layers numbers entries c f there in
      ⊎_elim
      (λ same.
      let value : l.0 ≡ old = same_Some l.0 old (sym l.1 ∙ ap (finmap.get layers) same ∙ was) in
      let is : catalog_entry numbers (f.name, l.0) ≡ catalog_entry numbers (name, old) = λ i. catalog_entry numbers (same i, value i) in
      (new, ap (finmap.get after) same ∙ got_here layers name (Some new), l.2 ∙ is ∙ here ∙ (λ i. catalog_entry numbered (sym same i, new))))
      (λ d. (
        l.0,
        got_there layers name (Some new) f.name d ∙ l.1,
        l.2
            ∙ same_entry numbers numbered f.name l.0 (sym (number_there number (Some new) f.name d)),
      ))
      (which f.name))
