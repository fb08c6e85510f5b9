-- What the next record is, or what is there at the end, where the records are those of a map.
use Rattle.std.proofs.Common.{◌≡◌, ℕ, ◌<◌, ◌≤◌, ◌⊎◌, List, [], ◌∷◌, ◌++◌, sym, ◌∙◌, ap, subst, inl, inr, ⊎_elim, arith, Contains}
use Rattle.std.proofs.lemmas.Bool.{cases_lt}
use Rattle.std.proofs.lemmas.List.{append-nil}
use Rattle.std.proofs.lemmas.List.Elements.{Contains-append_right}
use Rattle.quilt_types.specs.Layers.{Map}
use Rattle.quilt_loc.proofs.Members.{Contains-nil, Contains-here, Contains-cons_cases}
use Rattle.quilt_loc.proofs.Rising.{nat_less_from}
use Rattle.quilt_record.specs.declared.record.Record.{Record}
use Rattle.quilt_record.specs.declared.entry.Entry.{Entry}
use Rattle.quilt_record.specs.Records.{Numbering}
use Rattle.quilt_record.specs.Listing.{IsEntryOf}
use Rattle.quilt_spell.specs.Spelled.{SpellsUnder}
use Rattle.quilt_spell.specs.Written.{by_key, number_of}
use Rattle.quilt_audit.specs.declared.run.Run.{Run}
use Rattle.quilt_line_audit.specs.Layers.{RefusesRecord}
use Rattle.quilt_audit.specs.Runs.{IsRun, IsRunFinished}
use Rattle.quilt_audit.specs.Checking.{entry_record, IsSoFar, HasBegun}
use Rattle.quilt_audit.proofs.Lists.{rises_behind}
use Rattle.quilt_audit.proofs.Catalog.{named_entry}
use Rattle.quilt_audit.proofs.ahead.Ahead.{key_layers, catalog_record, number_range, layer_record_of}
use Rattle.quilt_audit.proofs.ahead.Ahead.{in_order, entry_layer, all_listed, behind, current_spelled}
use Rattle.quilt_audit.proofs.runs.Runs.{short}

-- a record of the catalog that may come next
pub record NextEntry (form : ℕ) (es : List Entry) (last layer : ℕ) (r : Record) : Type 0 where
  pub entry : Entry
  pub is : IsEntryOf form r entry
  pub first : layer ≡ 0
  pub above : last < entry.number
  pub fresh : (e : Entry) → Contains es e → e.name ≡ entry.name → ⊥

-- the layer of a record that may come next
pub record NextLayer (n : ℕ) (es : List Entry) (layer : ℕ) (run : Run) (number : ℕ) : Type 0 where
  pub most : number ≤ 255
  pub below : layer ≤ number
  pub covered : layer < number → 1 ≤ layer → (IsRunFinished n run → ⊥) → ⊥
  pub listed : (e : Entry) × Contains es e × (e.number ≡ number)
  pub between : (e : Entry) → Contains es e → (e.number ≤ layer) ⊎ (number ≤ e.number)

module _ (form n : ℕ) (least : 1 ≤ n) (le : n ≤ 12) (es : List Entry) (last layer : ℕ) (run : Run) (rs : List Record)
    (f : IsSoFar form n es last layer run rs) (top : last ≤ 255)
    (rest : List Record) (numbers : Numbering) (layers : Map) where
  module _ (r : Record) (s : SpellsUnder form n numbers (rs ++ r ∷ rest) layers) where
    here : Contains (rs ++ r ∷ rest) r
    here = Contains-append_right rs (r ∷ rest) r (Contains-here r rest)

    pub next_entry : HasBegun layer rs → r.key.layer ≡ 0 → NextEntry form es last layer r
    next_entry begun zero' =
        let w = catalog_record form n numbers layers rs (r ∷ rest) le s r here zero' in
        let number = number_of numbers w.name in
        let above : last < number =
        ⊎_elim (λ none. let range = number_range form n numbers layers rs (r ∷ rest) le s w.name w.layer w.at in let one = range.0 in omega arith)
        (λ reached.
        let before = in_order form n numbers layers rs (r ∷ rest) le s (entry_record n reached.0) r (f.listed reached.0 reached.1) (Contains-here r rest) in
        let lt : reached.0.number < number =
        nat_less_from reached.0.number number (sym (ap (λ (z : Record). by_key (entry_record n reached.0) z) (w.entry.written 0 0)) ∙ before) in
        let same = reached.2 in
        omega arith) f.reached in
        record {
          entry = named_entry w.name number w.layer;
          is = w.entry;
          first = ⊎_elim
              (λ some.
              let x = begun some in
              let k = key_layers x.0 r (in_order form n numbers layers rs (r ∷ rest) le s x.0 r x.1 (Contains-here r rest)) in
              let e = x.2 in
              absurd (omega arith)) (λ none. omega arith) (cases_lt 0 layer);
          above = above;
          fresh = λ e c same.
              let l = entry_layer form n numbers layers rs (r ∷ rest) le s es last layer run f top e c in
              let same_number : e.number ≡ number = sym l.number ∙ ap (λ (z : List ℕ). number_of numbers z) same in
              let m = f.most e c in
              absurd (omega arith);
        }

    -- each record that comes is of this layer or of a later one
    later : (x : Record) → Contains (r ∷ rest) x → r.key.layer ≤ x.key.layer
    later x c =
        ⊎_elim (λ e. let k = ap (λ (z : Record). z.key.layer) e in omega arith)
        (λ d. key_layers r x ((rises_behind by_key rs (r ∷ rest) s.ascending).0 x d)) (Contains-cons_cases r rest x c)

    pub next_layer : HasBegun layer rs → 1 ≤ r.key.layer → NextLayer n es layer run r.key.layer
    next_layer begun some =
        let w = layer_record_of form n numbers layers rs (r ∷ rest) le s r here some in
        let range = number_range form n numbers layers rs (r ∷ rest) le s w.name w.layer w.at in
        let range_most = range.1 in
        let number = w.number in
        let a = all_listed form n numbers layers rs (r ∷ rest) le s es last layer run f top (λ x c. let k = later x c in omega arith) w.name w.layer w.at in
        record {
          most = omega arith;
          below = ⊎_elim
              (λ lt.
              let x = begun (omega arith) in
              let k = key_layers x.0 r (in_order form n numbers layers rs (r ∷ rest) le s x.0 r x.1 (Contains-here r rest)) in
              let e = x.2 in
              absurd (omega arith)) (λ ge. ge) (cases_lt r.key.layer layer);
          covered = λ lt one open_.
              let c = f.current one in
              let l = entry_layer form n numbers layers rs (r ∷ rest) le s es last layer run f top c.0 c.1 in
              short form n least le rs layer one (c.0).kind run c.3 open_ (r ∷ rest) l.value l.kind (λ x m is. let k = later x m in omega arith) s.ascending
              (current_spelled form n numbers layers rs (r ∷ rest) le s es last layer run f top c.0 c.1 c.2 l);
          listed = (a.0, a.1, a.3 ∙ number);
          between = λ e c. ⊎_elim
              (λ lt.
              let b = behind form n numbers layers rs (r ∷ rest) le s es last layer run f top e c lt in
              let k = later b.0 b.1 in
              let same = b.2 in
              inr (omega arith)) (λ ge. inl ge) (cases_lt layer e.number);
        }

    -- a record that is refused in its layer does not come
    pub next_taken : (some : 1 ≤ layer) → r.key.layer ≡ layer
        → ((e : Entry) → Contains es e → e.number ≡ layer → IsRun form n rs layer e.kind run → RefusesRecord form n rs layer e.kind r) → ⊥
    next_taken some is refused =
        let c = f.current some in
        let l = entry_layer form n numbers layers rs (r ∷ rest) le s es last layer run f top c.0 c.1 in
        refused c.0 c.1 c.2 c.3 rest l.value l.kind s.ascending (current_spelled form n numbers layers rs (r ∷ rest) le s es last layer run f top c.0 c.1 c.2 l)

-- at the end
module _ (form n : ℕ) (least : 1 ≤ n) (le : n ≤ 12) (es : List Entry) (last layer : ℕ) (run : Run) (rs : List Record)
    (f : IsSoFar form n es last layer run rs) (top : last ≤ 255)
    (numbers : Numbering) (layers : Map) (s : SpellsUnder form n numbers rs layers) where
  with_none : SpellsUnder form n numbers (rs ++ []) layers
  with_none = subst (λ (l : List Record). SpellsUnder form n numbers l layers) (sym (append-nil rs)) s

  pub end_covered : 1 ≤ layer → (IsRunFinished n run → ⊥) → ⊥
  end_covered some open_ =
      let c = f.current some in
      let l = entry_layer form n numbers layers rs [] le with_none es last layer run f top c.0 c.1 in
      short form n least le rs layer some (c.0).kind run c.3 open_ [] l.value l.kind (λ x m is. Contains-nil x m) with_none.ascending
      (current_spelled form n numbers layers rs [] le with_none es last layer run f top c.0 c.1 c.2 l)

  pub end_listed : (e : Entry) → Contains es e → e.number ≤ layer
  end_listed e c =
      ⊎_elim (λ lt. let b = behind form n numbers layers rs [] le with_none es last layer run f top e c lt in absurd (Contains-nil b.0 b.1))
      (λ ge. ge) (cases_lt layer e.number)
