-- What the steps of the checker do and find, over the numbers that it keeps.
use Rattle.std.proofs.Common.{◌≡◌, ℕ, ◌+◌, ◌-◌, ◌<◌, ◌≤◌, ◌⊎◌, Bool, true, false, List, [], ◌∷◌, ◌++◌, length, Option, Some, None}
use Rattle.std.proofs.Common.{sym, ◌∙◌, ap, subst, ⊎_elim, arith, Contains, append_assoc, length-append}
use Rattle.std.specs.Bool.{OnTrue, OnFalse}
use Rattle.std.proofs.lemmas.Bool.{cases_Bool, cases_lt, OnTrue_at, OnFalse_at}
use Rattle.std.proofs.lemmas.List.{append-nil}
use Rattle.quilt_types.specs.declared.plane.Kind.{Kind}
use Rattle.quilt_types.specs.Layers.{Map}
use Rattle.quilt_loc.specs.Codes.{Rises}
use Rattle.quilt_record.specs.declared.record.Record.{Record}
use Rattle.quilt_record.specs.declared.entry.Entry.{Entry}
use Rattle.quilt_record.specs.Catalogs.{IsCatalog}
use Rattle.quilt_record.specs.Listing.{IsEntryOf}
use Rattle.quilt_record.specs.Records.{Numbering}
use Rattle.quilt_spell.specs.Spelled.{SpellsUnder}
use Rattle.quilt_spell.specs.Written.{by_key}
use Rattle.quilt_audit.specs.declared.checker.Checker.{Checker}
use Rattle.quilt_audit.specs.declared.run.Run.{Run}
use Rattle.quilt_line_audit.specs.Layers.{RefusesRecord}
use Rattle.quilt_audit.specs.Runs.{IsRun, IsRunFinished}
use Rattle.quilt_audit.specs.Surveys.{AreNumbered}
use Rattle.quilt_audit.specs.Checking.{IsSoFar, HasBegun, Stops, MayList, IsComplete, AreRefused, IsFed, SpellsSomeMap}
use Rattle.quilt_audit.proofs.ahead.Next.{NextEntry, NextLayer, next_entry, next_layer, next_taken, end_covered, end_listed}
use Rattle.quilt_audit.proofs.Steps.{all_covered}
use Rattle.quilt_audit.proofs.Making.{is_spelled}

module _ (form n : ℕ) (least : 1 ≤ n) (le : n ≤ 12) (es : List Entry) (last layer : ℕ) (run : Run) (top : last ≤ 255) where
  -- ---- the layer of the next record
  pub layer_no : (number : ℕ) → 1 ≤ number → (NextLayer n es layer run number → ⊥)
      → (rs : List Record) (r : Record) → IsSoFar form n es last layer run rs → HasBegun layer rs → r.key.layer ≡ number → Stops form n rs r
  layer_no number some none rs r f begun is rest numbers layers s =
      none (subst (NextLayer n es layer run) is (next_layer form n least le es last layer run rs f top rest numbers layers r s begun (omega arith)))

  -- ---- a record of the catalog
  pub entry_no : (r : Record) → r.key.layer ≡ 0 → (NextEntry form es last layer r → ⊥) → (rs : List Record) → IsSoFar form n es last layer run rs
      → HasBegun layer rs → Stops form n rs r
  entry_no r zero' none rs f begun rest numbers layers s = none (next_entry form n least le es last layer run rs f top rest numbers layers r s begun zero')

  -- ---- a record of the layer that comes
  pub record_no : (r : Record) (rs : List Record) → 1 ≤ layer → r.key.layer ≡ layer
      → ((kind : Kind) → IsRun form n rs layer kind run → RefusesRecord form n rs layer kind r)
      → IsSoFar form n es last layer run rs → Stops form n rs r
  record_no r rs some is refused f rest numbers layers s =
      next_taken form n least le es last layer run rs f top rest numbers layers r s some is (λ e c same h. refused e.kind h)

-- a record of the catalog that may come next is read
pub entry_read : (form last layer : ℕ) (es : List Entry) (r : Record) (o : Option Entry) → o ≡ None → ((e : Entry) → IsEntryOf form r e → o ≡ Some e)
    → NextEntry form es last layer r → ⊥
entry_read form last layer es r o none one w = let clash : None ≡ Some w.entry = sym none ∙ one w.entry w.is in cc

pub entry_same : (form last layer : ℕ) (es : List Entry) (r : Record) (o : Option Entry) (e : Entry) → o ≡ Some e
    → ((d : Entry) → IsEntryOf form r d → o ≡ Some d) → (w : NextEntry form es last layer r) → w.entry ≡ e
entry_same form last layer es r o e is one w = let same : Some w.entry ≡ Some e = sym (one w.entry w.is) ∙ is in cc

-- the next number of the catalog is that of the layer that comes
pub next_reached : (n : ℕ) (entries es : List Entry) (layer : ℕ) (run : Run) (number next : ℕ) → entries ≡ es → layer < number → layer < next
    → (next ≡ 256) ⊎ ((e : Entry) × Contains entries e × (e.number ≡ next))
    → ((e : Entry) → Contains entries e → (e.number ≤ layer) ⊎ ((next ≤ e.number) × (e.number ≤ 255)))
    → NextLayer n es layer run number → next ≡ number
next_reached n entries es layer run number next is lt over reached below w =
    let l = w.listed in
    let at = below l.0 (subst (λ (xs : List Entry). Contains xs l.0) (sym is) l.1) in
    let e = l.2 in
    let small = w.most in
    let le : next ≤ number = ⊎_elim (λ low. absurd (omega arith)) (λ high. let a = high.0 in omega arith) at in
    ⊎_elim (λ none. absurd (omega arith))
    (λ some.
    let g = some.2 in
    ⊎_elim (λ low. absurd (omega arith)) (λ high. omega arith) (w.between some.0 (subst (λ (xs : List Entry). Contains xs some.0) is some.1))) reached

-- ---- the end
module _ (c : Checker) (total : ℕ) (rs : List Record) (fed : IsFed total c rs) where
  pub whole_spelled : IsCatalog c.catalog → IsComplete c → Rises by_key rs → SpellsSomeMap c.format c.level c.catalog rs × (length rs ≡ total)
  whole_spelled order w up =
      let s = fed.sound w.sound in
      let d = w.none_due in
      let e = s.2 in (
        is_spelled c.format c.level rs c.level_least c.level_most c.catalog c.last c.layer c.run s.0 c.last_most order
            (all_covered c.format c.level c.catalog c.last c.layer c.run rs s.0 c.level_least c.level_most w.covered up w.reached) up,
        omega arith,
      )

  pub whole_numbered : IsComplete c → AreNumbered c.format c.catalog
  whole_numbered w =
      let f = (fed.sound w.sound).0 in
      record {
        least = f.least;
        most = λ e m. let a = f.most e m in let b = c.last_most in omega arith;
        differ = f.differ;
        kinds = f.fitting;
      }

  pub not_whole : (IsComplete c → ⊥) → (numbers : Numbering) (layers : Map) → SpellsUnder c.format c.level numbers rs layers → length rs ≡ total → ⊥
  not_whole none numbers layers s long =
      ⊎_elim
      (λ t.
      let k = fed.sound t in
      let e = k.2 in
      let reached = end_listed c.format c.level c.level_least c.level_most c.catalog c.last c.layer c.run rs k.0 c.last_most numbers layers s in
      let but : ((1 ≤ c.layer → IsRunFinished c.level c.run) → ⊥) =
      λ covered. none (record { sound = t; none_due = omega arith; covered = covered; reached = reached }) in
      ⊎_elim (λ some. end_covered c.format c.level c.level_least c.level_most c.catalog c.last c.layer c.run rs k.0 c.last_most numbers layers s some
      (λ done. but (λ one. done)))
      (λ zero'. but (λ some. absurd (omega arith))) (cases_lt 0 c.layer))
      (λ f.
      fed.unsound f [] numbers layers (subst (λ (l : List Record). SpellsUnder c.format c.level numbers l layers) (sym (append-nil rs)) s)
      (ap length (append-nil rs) ∙ long))
      (cases_Bool c.sound)

-- ---- a record is taken or refused behind a turn
module _ (form n form' n' layer k : ℕ) (same_form : form' ≡ form) (same_level : n' ≡ n) (here : layer ≡ k) (rs : List Record) (r : Record)
    (kind : Kind) (run : Run) where
  pub no_moved : (IsRun form' n' rs k kind run → RefusesRecord form' n' rs k kind r) → IsRun form n rs layer kind run → RefusesRecord form n rs layer kind r
  no_moved f =
      subst (λ (z : ℕ). IsRun z n rs layer kind run → RefusesRecord z n rs layer kind r) same_form
      (subst (λ (z : ℕ). IsRun form' z rs layer kind run → RefusesRecord form' z rs layer kind r) same_level
      (subst (λ (z : ℕ). IsRun form' n' rs z kind run → RefusesRecord form' n' rs z kind r) (sym here) f))

  pub run_moved : (next : Run) → (IsRun form' n' rs k kind run → IsRun form' n' (rs ++ r ∷ []) k kind next) → IsRun form n rs layer kind run
      → IsRun form n (rs ++ r ∷ []) layer kind next
  run_moved next f =
      subst (λ (z : ℕ). IsRun z n rs layer kind run → IsRun z n (rs ++ r ∷ []) layer kind next) same_form
      (subst (λ (z : ℕ). IsRun form' z rs layer kind run → IsRun form' z (rs ++ r ∷ []) layer kind next) same_level
      (subst (λ (z : ℕ). IsRun form' n' rs z kind run → IsRun form' n' (rs ++ r ∷ []) z kind next) (sym here) f))

-- ---- what is asked of an entry
pub may_from : (form : ℕ) (c : Checker) (r : Record) (e : Entry) (w : NextEntry form c.catalog c.last c.layer r) → w.entry ≡ e → MayList c e
may_from form c r e w same = subst (MayList c) same (record { first = w.first; above = w.above; fresh = w.fresh })

-- ---- a record is pushed
module _ (total : ℕ) (before : List Record) (r : Record) (old : Checker) (fed : IsFed total old before) (was : old.sound ≡ true) (some : old.due ≡ 0
    → ⊥) (level format : ℕ) (sound : Bool)
    (same_level : level ≡ old.level) (same_format : format ≡ old.format) where
  pub push_sound : (due : ℕ) (es : List Entry) (last layer : ℕ) (run : Run) → due ≡ old.due - 1
      → ((rs : List Record) → IsSoFar old.format old.level old.catalog old.last old.layer old.run rs
      → OnTrue sound (IsSoFar old.format old.level es last layer run (rs ++ r ∷ []) × HasBegun layer (rs ++ r ∷ [])))
      → sound ≡ true → IsSoFar format level es last layer run (before ++ r ∷ []) × HasBegun layer (before ++ r ∷ []) × (length (before ++ r ∷ []) + due ≡ total)
  push_sound due es last layer run less taken t =
      let k = fed.sound was in
      let all = k.2 in
      let w = OnTrue_at t (taken before k.0) in
      let long = length-append before (r ∷ []) in (
        subst (λ (z : ℕ). IsSoFar z level es last layer run (before ++ r ∷ [])) (sym same_format)
            (subst (λ (z : ℕ). IsSoFar old.format z es last layer run (before ++ r ∷ [])) (sym same_level) w.0),
        w.1,
        omega arith,
      )

  pub push_refused : ((rs : List Record) → IsSoFar old.format old.level old.catalog old.last old.layer old.run rs → HasBegun old.layer rs
      → OnFalse sound (Stops old.format old.level rs r))
      → sound ≡ false → AreRefused format level total (before ++ r ∷ [])
  push_refused refused f =
      let k = fed.sound was in
      let stops = OnFalse_at f (refused before k.0 k.1) in
      subst (λ (z : ℕ). AreRefused z level total (before ++ r ∷ [])) (sym same_format)
      (subst (λ (z : ℕ). AreRefused old.format z total (before ++ r ∷ [])) (sym same_level)
      (λ rest numbers layers s long.
      stops rest numbers layers (subst (λ (l : List Record). SpellsUnder old.format old.level numbers l layers) (append_assoc before (r ∷ []) rest) s)))
