-- A new line layer, as a plan of the work, and what its command is answered.
use Rattle.std.proofs.Common.{◌≡◌, ◌≢◌, ℕ, ◌<◌, ◌≤◌, Bool, true, false, List, [], ◌∷◌, length, All, Some, None, refl, sym, ◌∙◌, ap, subst}
use Rattle.std.specs.FinMap as finmap
use Rattle.quilt_types.specs.declared.code.Code.{Code}
use Rattle.quilt_types.specs.declared.plane.Kind.{Kind}
use Rattle.quilt_types.specs.declared.plane.Kind.TheVariants as kinds
use Rattle.quilt_types.specs.Layers.{Layer, Lines, is_name}
use Rattle.quilt_world.specs.declared.disk.Disk as disk
use Rattle.quilt_words.specs.declared.command.Command.TheVariants as commands
use Rattle.quilt_record.specs.declared.entry.Entry.{Entry}
use Rattle.quilt_record.specs.declared.record.Record.{Record}
use Rattle.quilt_record.specs.Listing.{fact_of_kind}
use Rattle.quilt_record.specs.Records.{record_of}
use Rattle.quilt_line_laws.proofs.Lawful.{new_law}
use Rattle.quilt_lines.specs.Plans.{IsLineBeginning, one_block}
use Rattle.quilt_region.specs.Laws as regions
use Rattle.quilt_replies.specs.Answers.{State, Outcome, Refused, answer, unless, exists, too_many, full, with, changed}
use Rattle.quilt_map.specs.Making.{layer_placed, refused}
use Rattle.quilt_map.specs.Planning.{IsLayerPlan}
use Rattle.quilt_map.specs.Sessions.{IsAtState}
use Rattle.quilt_map.specs.declared.session.Session.{Session}
use Rattle.quilt_map.proofs.answers.FirstTests.{new_passes}
use Rattle.quilt_map.proofs.plans.NewLayers.{new_plan}
use Rattle.quilt_map.proofs.answers.Outcomes.{nothing_done}

-- no segments at all, and one block
abbrev pub bare_lines : ℕ → ℕ → Layer
bare_lines n t = Lines t finmap.empty (one_block n)

-- ---- what the definition answers
module _ (s : State) (name : List ℕ) (t : ℕ) where
  pub lines_refused : (code : Code) → ((rs : List (Bool × Code)) (done : Outcome) → unless (exists s name ∷ too_many s ∷ rs) s done ≡ refused s code)
      → answer s (commands.Lines name t) ≡ nothing_done s (Refused code)
  unfolding answer
  lines_refused code h = let work = with s name (bare_lines s.last.level t) in h (full s work ∷ []) (changed work)

  pub lines_given : ((exists s name).0 ≡ false) × ((too_many s).0 ≡ false) → answer s (commands.Lines name t) ≡ layer_placed s name (bare_lines s.last.level t)
  unfolding answer
  lines_given passes = let work = with s name (bare_lines s.last.level t) in new_passes s name (full s work ∷ []) (changed work) passes

-- ---- the plan
module _ {W : Type 0} {D : disk.Ghosts W} (session : Session W D) (s : State) (at : IsAtState session s) where
  -- a new line layer, whose records are that of the catalog, for this entry, and that of the whole square
  pub lines_plan : (entry : Entry) (name : List ℕ) (t level : ℕ) (added : List Record) → level ≡ s.last.level → 1 ≤ t → t ≤ 32
      → (entries : List Entry) → entries ≡ session.catalog → length entries < 255 → All (λ e. e.name ≢ name) entries
      → entry.name ≡ name → is_name name ≡ true → entry.kind ≡ kinds.Lines t → 1 ≤ entry.number → entry.number ≤ 255
      → ((other : List ℕ) → finmap.get at.work.numbers other ≢ Some entry.number)
      → (first second : Record) → added ≡ first ∷ second ∷ []
      → ((n capacity : ℕ) → first ≡ record_of n capacity entry.name entry.number (fact_of_kind entry.kind)) → IsLineBeginning level entry.number t second
      → IsLayerPlan s at.work.numbers entry.name entry.number (Some (bare_lines s.last.level t)) [] added
  lines_plan entry name t level added same least most entries catalog few others called named kind low high free first second is written begins =
      let n = s.last.level in
      let here : IsLineBeginning n entry.number t second = subst (λ (m : ℕ). IsLineBeginning m entry.number t second) same begins in
      let first_is = λ (m k : ℕ). written m k ∙ ap (λ (x : Kind). record_of m k entry.name entry.number (fact_of_kind x)) kind in
      new_plan session s at entry.name entry.number (bare_lines n t) added (subst (λ (b : List ℕ). is_name b ≡ true) (sym called) named)
      (subst (λ (es : List Entry). length es < 255) catalog few)
      (subst (λ (b : List ℕ). All (λ (e : Entry). e.name ≢ b) session.catalog) (sym called)
      (subst (λ (es : List Entry). All (λ (e : Entry). e.name ≢ name) es) catalog others)) low high free (new_law n t least most)
      (subst (λ (rs : List Record). regions.IsRegionPlan n entry.name entry.number None (Some (bare_lines n t)) [] rs) (sym is)
      (record { leads = here.leads entry.name first first_is; removed_ascend = refl; added_ascend = here.ascend entry.name first first_is }))
