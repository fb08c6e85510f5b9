-- What one command does to a list that spells the map: a layer becomes another, comes, or goes.
use Rattle.std.proofs.Common.{◌≡◌, ℕ, ◌+◌, ◌-◌, ◌≤◌, Bool, true, false, cond, ◌⊎◌, List, Option, Some, None, refl, sym, ◌∙◌, ap, subst, inl, inr, ⊎_elim, arith}
use Rattle.std.proofs.Common.{All, nat_cmp}
use Rattle.std.specs.Prelude.{unwrap_or, is_some}
use Rattle.std.specs.Cmp.Lexicographic.{slice_cmp, nat_list_cmp_total}
use Rattle.std.specs.FinMap as finmap
use Rattle.std.proofs.lemmas.List.Elements.{All-contains}
use Rattle.quilt_types.specs.Layers.{Layer, Map, IsMap, IsLayer, is_name}
use Rattle.quilt_record.specs.declared.record.Record.{Record}
use Rattle.quilt_record.specs.Records.{Numbering, capacity_of}
use Rattle.quilt_loc.specs.Codes.{Rises}
use Rattle.quilt_spell.specs.Written.{number_of, by_key, IsNumbering}
use Rattle.quilt_spell.specs.Spelled.{SpellsUnder}
use Rattle.quilt_spell.specs.Changing.{with_layer, KeepsCapacity, LeadsTo, IsEdited}
use Rattle.quilt_spell.proofs.Maps.{same_or_not, get_inserted, get_others, get_removed, get_kept, entry_from_get, get_from_entry}
use Rattle.quilt_spell.proofs.Spelling.{all_from}
use Rattle.quilt_spell.proofs.Changes.{got_here, got_there}
use Rattle.quilt_spell.proofs.Written.{name_same, number_fits, number_at}
use Rattle.quilt_spell.proofs.Edits.{edited_members}

-- ---- what stays of a map
module _ (form n : ℕ) (layers : Map) (h : IsMap form n layers) where
  pub name_fits : (name : List ℕ) (l : Layer) → finmap.get layers name ≡ Some l → is_name name ≡ true
  name_fits name l at =
      All-contains (λ (e : List ℕ × Layer). is_name e.0 ≡ true) (finmap.entries layers) (name, l) h.named
      (entry_from_get (slice_cmp nat_cmp) nat_list_cmp_total name_same layers name l at)

  one_fits : (name : List ℕ) (l : Layer) → finmap.get layers name ≡ Some l → IsLayer form n l
  one_fits name l at =
      All-contains (λ (e : List ℕ × Layer). IsLayer form n e.1) (finmap.entries layers) (name, l) h.each
      (entry_from_get (slice_cmp nat_cmp) nat_list_cmp_total name_same layers name l at)

  module _ (name : List ℕ) where
    few_more : (l : Layer) (o : Option Layer) → finmap.get layers name ≡ o → (o ≡ None → finmap.len layers ≤ 254)
        → finmap.len (finmap.insert layers name l) ≤ 255
    few_more l None e room =
        let k =
        finmap.len-insert nat_list_cmp_total layers name l ∙ ap (λ (o : Option Layer). cond (is_some o) (finmap.len layers) (finmap.len layers + 1)) e in
        let r = room refl in
        omega arith
    few_more l (Some m) e room =
        let k =
        finmap.len-insert nat_list_cmp_total layers name l ∙ ap (λ (o : Option Layer). cond (is_some o) (finmap.len layers) (finmap.len layers + 1)) e in
        let f = h.few in
        omega arith

    less_or_same : (b : Bool) (a : ℕ) → cond b (a - 1) a ≤ a
    less_or_same true a = omega arith
    less_or_same false a = omega arith

    few_fewer : finmap.len (finmap.remove layers name) ≤ 255
    few_fewer =
        let k = finmap.len-remove nat_list_cmp_total layers name in
        let m = less_or_same (is_some (finmap.get layers name)) (finmap.len layers) in
        let f = h.few in
        omega arith

    -- what holds of the layer that comes and of those that stay
    each_entry : (P : List ℕ × Layer → Type 0) (new : Option Layer) → ((l : Layer) → new ≡ Some l → P (name, l))
        → ((b : List ℕ) (l : Layer) → finmap.get layers b ≡ Some l → P (b, l)) → All P (finmap.entries (with_layer layers name new))
    each_entry P new here there =
        all_from P (finmap.entries (with_layer layers name new))
        (λ e c.
        let at = get_from_entry (slice_cmp nat_cmp) nat_list_cmp_total name_same (with_layer layers name new) e c in
        ⊎_elim
        (λ same.
        let is : new ≡ Some e.1 = sym (got_here layers name new) ∙ ap (finmap.get (with_layer layers name new)) (sym same) ∙ at in
        let pair : ◌≡◌ {A = List ℕ × Layer} (name, e.1) e = λ i. (sym same i, e.1) in
        subst P pair (here e.1 is))
        (λ d. there e.0 e.1 (sym (got_there layers name new e.0 d) ∙ at))
        (same_or_not (slice_cmp nat_cmp) nat_list_cmp_total name_same e.0 name))

    pub map_with : (l : Layer) → is_name name ≡ true → IsLayer form n l → (finmap.get layers name ≡ None → finmap.len layers ≤ 254)
        → IsMap form n (finmap.insert layers name l)
    map_with l named fits room = record {
      few = few_more l (finmap.get layers name) refl room;
      named = each_entry (λ e. is_name e.0 ≡ true) (Some l) (λ m _. named) (λ b m at. name_fits b m at);
      each = each_entry (λ e. IsLayer form n e.1) (Some l) (λ m e. subst (IsLayer form n) (some_same l m e) fits) (λ b m at. one_fits b m at);
    }
      where
        some_same : (x y : Layer) → Some x ≡ Some y → x ≡ y
        some_same x y e = cc

    pub map_without : IsMap form n (finmap.remove layers name)
    map_without = record {
      few = few_fewer;
      named = each_entry (λ e. is_name e.0 ≡ true) None (λ m e. let no : None ≡ Some m = e in cc) (λ b m at. name_fits b m at);
      each = each_entry (λ e. IsLayer form n e.1) None (λ m e. let no : None ≡ Some m = e in cc) (λ b m at. one_fits b m at);
    }

-- ---- what stays of a numbering
module _ (layers : Map) (numbers : Numbering) (num : IsNumbering layers numbers) (name : List ℕ) where
  eq_number : (a b : ℕ) → Some a ≡ Some b → a ≡ b
  eq_number a b e = cc

  -- another layer under a name that has one
  pub numbers_kept : (old new : Layer) → finmap.get layers name ≡ Some old → IsNumbering (finmap.insert layers name new) numbers
  numbers_kept old new was = record {
    has = λ b l at. ⊎_elim
        (λ e. num.has b old (ap (finmap.get layers) e ∙ was))
        (λ d. num.has b l (sym (got_there layers name (Some new) b d) ∙ at))
        (same_or_not (slice_cmp nat_cmp) nat_list_cmp_total name_same b name);
    only = λ b k at. ⊎_elim
        (λ e. (new, ap (finmap.get (finmap.insert layers name new)) e ∙ got_here layers name (Some new)))
        (λ d. let l = num.only b k at in (l.0, got_there layers name (Some new) b d ∙ l.1))
        (same_or_not (slice_cmp nat_cmp) nat_list_cmp_total name_same b name);
    in_range = num.in_range;
    differ = num.differ;
  }

  -- a name with a number that no other has
  pub numbers_with : (new : Layer) (number : ℕ) → 1 ≤ number → number ≤ 255 → ((b : List ℕ) → finmap.get numbers b ≡ Some number → ⊥)
      → IsNumbering (finmap.insert layers name new) (finmap.insert numbers name number)
  numbers_with new number least most free =
      let after = finmap.insert numbers name number in
      let here = get_inserted (slice_cmp nat_cmp) nat_list_cmp_total name_same numbers name number in
      let there = get_others (slice_cmp nat_cmp) nat_list_cmp_total name_same numbers name number in
      let which = λ (b : List ℕ). same_or_not (slice_cmp nat_cmp) nat_list_cmp_total name_same b name in
      let at_name = λ (b : List ℕ) (k : ℕ) (at : finmap.get after b ≡ Some k) (e : b ≡ name). eq_number number k
      (sym here ∙ ap (finmap.get after) (sym e) ∙ at) in record {
        has = λ b l at. ⊎_elim
            (λ e. (number, ap (finmap.get after) e ∙ here))
            (λ d. let k = num.has b l (sym (got_there layers name (Some new) b d) ∙ at) in (k.0, there b d ∙ k.1)) (which b);
        only = λ b k at. ⊎_elim
            (λ e. (new, ap (finmap.get (finmap.insert layers name new)) e ∙ got_here layers name (Some new)))
            (λ d. let l = num.only b k (sym (there b d) ∙ at) in (l.0, got_there layers name (Some new) b d ∙ l.1)) (which b);
        in_range = λ b k at. ⊎_elim
            (λ e. let same = at_name b k at e in (omega arith, omega arith))
            (λ d. num.in_range b k (sym (there b d) ∙ at)) (which b);
        differ = λ a b k at bt. ⊎_elim
            (λ e. ⊎_elim (λ f. e ∙ sym f) (λ d. let same = at_name a k at e in absurd (free b (sym (there b d) ∙ bt ∙ ap Some (sym same)))) (which b))
            (λ d. ⊎_elim (λ f. let same = at_name b k bt f in absurd (free a (sym (there a d) ∙ at ∙ ap Some (sym same))))
            (λ g. num.differ a b k (sym (there a d) ∙ at) (sym (there b g) ∙ bt)) (which b))
            (which a);
      }

  pub numbers_without : IsNumbering (finmap.remove layers name) (finmap.remove numbers name)
  numbers_without =
      let after = finmap.remove numbers name in
      let here = get_removed (slice_cmp nat_cmp) nat_list_cmp_total name_same numbers name in
      let there = get_kept (slice_cmp nat_cmp) nat_list_cmp_total name_same numbers name in
      let which = λ (b : List ℕ). same_or_not (slice_cmp nat_cmp) nat_list_cmp_total name_same b name in
      let back = λ (b : List ℕ) (k : ℕ) (at : finmap.get after b ≡ Some k). still (which b) at in record {
        has = λ b l at. ⊎_elim
            (λ e. let no : None ≡ Some l = sym (got_here layers name None) ∙ ap (finmap.get (finmap.remove layers name)) (sym e) ∙ at in cc)
            (λ d. let k = num.has b l (sym (got_there layers name None b d) ∙ at) in (k.0, there b d ∙ k.1)) (which b);
        only = λ b k at. ⊎_elim
            (λ e. let no : None ≡ Some k = sym here ∙ ap (finmap.get after) (sym e) ∙ at in cc)
            (λ d. let l = num.only b k (sym (there b d) ∙ at) in (l.0, got_there layers name None b d ∙ l.1)) (which b);
        in_range = λ b k at. num.in_range b k (back b k at);
        differ = λ a b k at bt. num.differ a b k (back a k at) (back b k bt);
      }
    where
      still : {b : List ℕ} {k : ℕ} → (b ≡ name) ⊎ (b ≡ name → ⊥) → finmap.get (finmap.remove numbers name) b ≡ Some k → finmap.get numbers b ≡ Some k
      still {b} {k} (inl e) at = let no : None ≡ Some k =
          sym (get_removed (slice_cmp nat_cmp) nat_list_cmp_total name_same numbers name) ∙ ap (finmap.get (finmap.remove numbers name)) (sym e) ∙ at in cc
      still {b} {k} (inr d) at = sym (get_kept (slice_cmp nat_cmp) nat_list_cmp_total name_same numbers name b d) ∙ at

-- ---- the three laws
module _ (form n : ℕ) (numbers : Numbering) (rs now : List Record) (layers : Map) (le : n ≤ 12) (s : SpellsUnder form n numbers rs layers) (name : List ℕ)
    (removed added : List Record) (up : Rises by_key now) (edited : IsEdited rs removed added now) where
  -- a layer becomes another, under its number
  pub layer_becomes : (old new : Layer) → finmap.get layers name ≡ Some old → IsLayer form n new → capacity_of old ≡ capacity_of new
      → LeadsTo n name (number_of numbers name) (Some old) (Some new) removed added → SpellsUnder form n numbers now (finmap.insert layers name new)
  layer_becomes old new was fits kept leads =
      let number = number_of numbers name in record {
        map = map_with form n layers s.map name new (name_fits form n layers s.map name old was) fits (λ none. let no : None ≡ Some old = sym none ∙ was in cc);
        numbering = numbers_kept layers numbers s.numbering name old new was;
        ascending = up;
        written =
            edited_members form n layers numbers numbers name number (Some new) le (number_fits layers numbers s.numbering name old was).0 s.map s.numbering
            (λ l _. refl) (λ l _. refl) (λ b _. refl)
            (subst (λ (o : Option Layer). KeepsCapacity o (Some new)) (sym was) kept) removed added
            (subst (λ (o : Option Layer). LeadsTo n name number o (Some new) removed added) (sym was) leads)
            rs now s.written edited;
      }

  -- a layer comes, under a number that no other has
  pub layer_comes : (new : Layer) (number : ℕ) → finmap.get layers name ≡ None → is_name name ≡ true → finmap.len layers ≤ 254 → IsLayer form n new
      → 1 ≤ number → number ≤ 255 → ((b : List ℕ) → finmap.get numbers b ≡ Some number → ⊥)
      → LeadsTo n name number None (Some new) removed added → SpellsUnder form n (finmap.insert numbers name number) now (finmap.insert layers name new)
  layer_comes new number was named room fits least most free leads = record {
    map = map_with form n layers s.map name new named fits (λ _. room);
    numbering = numbers_with layers numbers s.numbering name new number least most free;
    ascending = up;
    written =
        edited_members form n layers numbers (finmap.insert numbers name number) name number (Some new) le least s.map s.numbering
        (λ l e. let no : None ≡ Some l = sym was ∙ e in cc)
        (λ l _. number_at (finmap.insert numbers name number) name number (get_inserted (slice_cmp nat_cmp) nat_list_cmp_total name_same numbers name number))
        (λ b d. ap (λ o. unwrap_or o 0) (get_others (slice_cmp nat_cmp) nat_list_cmp_total name_same numbers name number b d))
        (subst (λ (o : Option Layer). KeepsCapacity o (Some new)) (sym was) tt) removed added
        (subst (λ (o : Option Layer). LeadsTo n name number o (Some new) removed added) (sym was) leads)
        rs now s.written edited;
  }

  -- a layer goes, and its number
  pub layer_goes : (old : Layer) → finmap.get layers name ≡ Some old → LeadsTo n name (number_of numbers name) (Some old) None removed added
      → SpellsUnder form n (finmap.remove numbers name) now (finmap.remove layers name)
  layer_goes old was leads =
      let number = number_of numbers name in record {
        map = map_without form n layers s.map name;
        numbering = numbers_without layers numbers s.numbering name;
        ascending = up;
        written =
            edited_members form n layers numbers (finmap.remove numbers name) name number None le
            (number_fits layers numbers s.numbering name old was).0 s.map s.numbering
            (λ l _. refl) (λ l e. let no : None ≡ Some l = e in cc)
            (λ b d. ap (λ o. unwrap_or o 0) (get_kept (slice_cmp nat_cmp) nat_list_cmp_total name_same numbers name b d))
            (subst (λ (o : Option Layer). KeepsCapacity o None) (sym was) tt) removed added
            (subst (λ (o : Option Layer). LeadsTo n name number o None removed added) (sym was) leads)
            rs now s.written edited;
      }
