-- The one law of a command: the list that spelled the map spells the new map after the edits, and the counts agree.
use Rattle.std.proofs.Common.{◌≡◌, ℕ, ◌+◌, ◌≤◌, List, [], ◌∷◌, length, Option, Some, None, refl, sym, ◌∙◌, ap, subst, ⊎_elim, arith, Contains}
use Rattle.std.proofs.Common.{nat_cmp}
use Rattle.std.specs.Prelude.{unwrap_or}
use Rattle.std.specs.Cmp.Lexicographic.{slice_cmp, nat_list_cmp_total}
use Rattle.std.specs.FinMap as finmap
use Rattle.quilt_types.specs.Layers.{Layer, Map}
use Rattle.quilt_types.specs.Facts.{records, changes}
use Rattle.quilt_record.specs.declared.record.Record.{Record}
use Rattle.quilt_record.specs.Records.{Numbering}
use Rattle.quilt_loc.specs.Codes.{Rises}
use Rattle.quilt_spell.specs.Written.{number_of, by_key}
use Rattle.quilt_spell.specs.Spelled.{SpellsUnder}
use Rattle.quilt_spell.specs.Changing.{with_layer, with_number, KeepsCapacity, IsOne, LeadsTo, IsEdited}
use Rattle.quilt_spell.specs.Stepping.{IsPlaced, IsStep}
use Rattle.quilt_spell.proofs.Maps.{get_inserted, get_others, get_kept, same_or_not}
use Rattle.quilt_spell.proofs.Written.{name_same, number_is, number_fits, layer_fits, records_count}
use Rattle.quilt_spell.proofs.Spelling.{spelled_are}
use Rattle.quilt_spell.proofs.Edits.{removed_there, edits_count, edits_records}
use Rattle.quilt_spell.proofs.Session.{layer_becomes, layer_comes, layer_goes}
use Rattle.quilt_spell.proofs.OfLayer.{added_apart}

-- how many records there are
pub spelled_count : (form n : ℕ) (numbers : Numbering) (rs : List Record) (layers : Map) → n ≤ 12 → SpellsUnder form n numbers rs layers
    → length rs ≡ records n layers
spelled_count form n numbers rs layers le s =
    ap length (spelled_are form n rs layers le numbers s) ∙ records_count form n numbers layers le s.map s.numbering

-- a number that a name has already
pub same_number : (numbers : Numbering) (name : List ℕ) (number : ℕ) → finmap.get numbers name ≡ Some number → finmap.insert numbers name number ≡ numbers
same_number numbers name number e =
    finmap.same_map nat_list_cmp_total name_same (finmap.insert numbers name number) numbers
    (λ q. ⊎_elim
    (λ is. ap (finmap.get (finmap.insert numbers name number)) is ∙ get_inserted (slice_cmp nat_cmp) nat_list_cmp_total name_same numbers name number
    ∙ sym e ∙ ap (finmap.get numbers) (sym is))
    (λ d. get_others (slice_cmp nat_cmp) nat_list_cmp_total name_same numbers name number q d)
    (same_or_not (slice_cmp nat_cmp) nat_list_cmp_total name_same q name))

module _ (form n : ℕ) (numbers : Numbering) (rs : List Record) (layers : Map) (le : n ≤ 12) (s : SpellsUnder form n numbers rs layers)
    (name : List ℕ) (number : ℕ)
    (new : Option Layer) (removed added : List Record) where
  pub old_fits : (o : Option Layer) → finmap.get layers name ≡ o → IsOne form n o
  old_fits None e = tt
  old_fits (Some l) e = layer_fits form n numbers layers le s.map s.numbering name l e

  pub least_of : (o : Option Layer) → finmap.get layers name ≡ o → IsPlaced layers numbers name number o → 1 ≤ number
  least_of None e p = p.least
  least_of (Some l) e p = let f = (number_fits layers numbers s.numbering name l e).0 in omega arith

  module _ (step : IsStep form n layers numbers name number new removed added) where
    pub step_least : 1 ≤ number
    step_least = least_of (finmap.get layers name) refl step.placed

    step_was : (l : Layer) → finmap.get layers name ≡ Some l → number_of numbers name ≡ number
    step_was l e = let p = subst (IsPlaced layers numbers name number) e step.placed in sym p

    step_free : finmap.get layers name ≡ None → (b : List ℕ) → finmap.get numbers b ≡ Some number → ⊥
    step_free e = let p = subst (IsPlaced layers numbers name number) e step.placed in p.free

    -- the records in the edits are what a publish counts
    pub step_changes : changes n layers (with_layer layers name new) ≡ length removed + length added
    step_changes = edits_count form n layers name number new le step_least (old_fits (finmap.get layers name) refl) step.fits removed added step.leads

    -- what the quota asks
    pub step_records : records n (with_layer layers name new) + length removed ≡ length rs + length added
    step_records =
        let r = edits_records form n layers name number new le step_least (old_fits (finmap.get layers name) refl) step.fits removed added step.leads in
        let c = spelled_count form n numbers rs layers le s in
        omega arith

    -- each record to remove is there
    pub step_there : (r : Record) → Contains removed r → Contains rs r
    step_there r c =
        (s.written r).1
        (removed_there form n layers numbers (with_number numbers name number new) name number new le step_least s.map s.numbering step_was after_is
        after_others step.kept removed added step.leads r c)
      where
        after_is : (l : Layer) → new ≡ Some l → number_of (with_number numbers name number new) name ≡ number
        after_is l e = ap (λ (o : Option Layer). number_of (with_number numbers name number o) name) e
            ∙ ap (λ o. unwrap_or o 0) (get_inserted (slice_cmp nat_cmp) nat_list_cmp_total name_same numbers name number)

        others : (o : Option Layer) (b : List ℕ) → (b ≡ name → ⊥) → number_of (with_number numbers name number o) b ≡ number_of numbers b
        others None b d = ap (λ o. unwrap_or o 0) (get_kept (slice_cmp nat_cmp) nat_list_cmp_total name_same numbers name b d)
        others (Some l) b d = ap (λ o. unwrap_or o 0) (get_others (slice_cmp nat_cmp) nat_list_cmp_total name_same numbers name number b d)

        after_others : (b : List ℕ) → (b ≡ name → ⊥) → number_of (with_number numbers name number new) b ≡ number_of numbers b
        after_others b d = others new b d

    -- the key of a record to add is that of no record that stays
    pub step_apart : (r t : Record) → Contains added r → Contains rs t → (Contains removed t → ⊥) → r.key ≡ t.key → ⊥
    step_apart r t c d stays e =
        added_apart form n layers numbers name number new le step_least s.numbering step.fits step_was step_free step.kept removed added step.leads r
        t c ((s.written t).0 d) stays e

  -- the list after the edits
  pub step_spells : (now : List Record) → (finmap.get layers name ≡ None → new ≡ None → ⊥)
      → IsStep form n layers numbers name number new removed added → Rises by_key now → IsEdited rs removed added now
      → SpellsUnder form n (with_number numbers name number new) now (with_layer layers name new)
  step_spells now some step up edited = by_case (finmap.get layers name) new refl some step
    where
      by_case : (o new : Option Layer) → finmap.get layers name ≡ o → (finmap.get layers name ≡ None → new ≡ None → ⊥)
          → IsStep form n layers numbers name number new removed added
          → SpellsUnder form n (with_number numbers name number new) now (with_layer layers name new)
      by_case None None e some step = absurd (some e refl)
      by_case None (Some m) e some step =
          let p = subst (IsPlaced layers numbers name number) e step.placed in
          layer_comes form n numbers rs now layers le s name removed added up edited m number e p.named p.room step.fits p.least p.most p.free
          (subst (λ (o : Option Layer). LeadsTo n name number o (Some m) removed added) e step.leads)
      by_case (Some l) None e some step =
          let p = subst (IsPlaced layers numbers name number) e step.placed in
          layer_goes form n numbers rs now layers le s name removed added up edited l e
          (subst (λ (k : ℕ). LeadsTo n name k (Some l) None removed added) p
          (subst (λ (o : Option Layer). LeadsTo n name number o None removed added) e step.leads))
      by_case (Some l) (Some m) e some step =
          let p = subst (IsPlaced layers numbers name number) e step.placed in
          let kept = subst (λ (o : Option Layer). KeepsCapacity o (Some m)) e step.kept in
          let done = layer_becomes form n numbers rs now layers le s name removed added up edited l m e step.fits kept
          (subst (λ (k : ℕ). LeadsTo n name k (Some l) (Some m) removed added) p
          (subst (λ (o : Option Layer). LeadsTo n name number o (Some m) removed added) e step.leads)) in
          let at = number_is layers numbers s.numbering name l e ∙ ap Some (sym p) in
          subst (λ (w : Numbering). SpellsUnder form n w now (finmap.insert layers name m)) (sym (same_number numbers name number at)) done
