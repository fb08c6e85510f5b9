-- What the program promises of a run over a file, told or not, whichever source its commands come from.
use Rattle.std.proofs.Common.{◌≡◌, inl, inr, ℕ, ◌≤◌, true, List, [], ◌∷◌, length, Option, Some, None, Result, Ok, Err, refl, sym, ◌∙◌}
use Rattle.std.proofs.Common.{subst, arith, append-nil}
use Rattle.std.specs.Option.{IfSome}
use Rattle.quilt_types.specs.Layers.{Edition}
use Rattle.quilt_types.specs.declared.stop.Stop.{Stop}
use Rattle.quilt_types.specs.declared.stop.Stop.TheVariants as stops
use Rattle.quilt_world.specs.Disk.{Pages, Log, CanLeave}
use Rattle.quilt_world.specs.Doors.{OpensAt, attached}
use Rattle.quilt_world.specs.Home.{IsMapFile, home}
use Rattle.quilt_world.specs.Tale.{Tale, Goes, Begins}
use Rattle.quilt_world.specs.declared.disk.Fault.{Fault}
use Rattle.quilt_world.specs.declared.world.Attached.{Attached}
use Rattle.quilt_world.specs.declared.disk.Door.{Door}
use Rattle.quilt_world.specs.declared.disk.Door.TheVariants as doors
use Rattle.quilt_edition.specs.Stands.{Stands, IsDamagePage}
use Rattle.quilt_edition.proofs.OneEdition.{stands_once, home_length}
use Rattle.quilt_replies.specs.Answers.{State}
use Rattle.quilt_map.specs.Sessions.{first_state}
use Rattle.quilt_top.specs.declared.orders.Source.{Source}
use Rattle.quilt_top.specs.declared.orders.Source.TheVariants as sources
use Rattle.quilt_top.specs.declared.run.End.{End}
use Rattle.quilt_top.specs.declared.run.End.TheVariants as ends
use Rattle.quilt_top.specs.Headline.{IsOneOf, RunsInput, RunsTrial, IsNoMap, OpensSafely, FindsFile, may_end_run, may_end_trial}
use Rattle.quilt_top.specs.Headline.{HasEndCause, KeepsPromises, WhereTold}
use Rattle.quilt_top.specs.Meanings.{run_from}
use Rattle.quilt_top.specs.Openings.{Keeps, RunsTo, run_ends, is_run_end, end_of_stop}
use Rattle.quilt_top.specs.TextRun.{IsUntold}
use Rattle.quilt_top.specs.Trying.{trial_run, TriesTo}
use Rattle.quilt_top.specs.Words.{Run as RunText}
use Rattle.quilt_top.proofs.Concluding.{quiet_try, runs_trial, opens_tried}
use Rattle.quilt_top.proofs.openings.Damages.{damage_page}
use Rattle.quilt_top.proofs.openings.Found.{IsFoundDamaged}
use Rattle.quilt_top.proofs.Running.{stands_as, home_kept, opened_untold, no_start_end, run_end, apart, number, runs_input, quiet_run, opens_quiet}
use Rattle.quilt_top.proofs.Running.{opens_map, finds_opened}

-- ---- the causes

allowed_trial : (end : End) → may_end_run end ≡ true → (end ≡ ends.TooMuch → ⊥) → may_end_trial end ≡ true
allowed_trial ends.Done is short = refl
allowed_trial ends.Refused is short = refl
allowed_trial ends.Usage is short = is
allowed_trial ends.Device is short = refl
allowed_trial ends.Memory is short = refl
allowed_trial ends.NotMap is short = refl
allowed_trial ends.Missing is short = refl
allowed_trial ends.Taken is short = is
allowed_trial ends.TooMuch is short = absurd (short refl)
allowed_trial (ends.Damaged page) is short = refl

-- the causes of an end are the same for both sources, where the input was not too much
pub cause_by : (source : Source) (path : List ℕ) (pool before now : ℕ) (door : Door) (end : End)
    → HasEndCause (Some (RunText path pool)) before now door end → (end ≡ ends.TooMuch → source ≡ sources.Input)
    → HasEndCause (Some (run_from source path pool)) before now door end
cause_by sources.Input path pool before now door end cause short = cause
cause_by (sources.Trial seed count) path pool before now door end cause short = record {
  later = cause.later;
  device = cause.device;
  missing = cause.missing;
  taken = cause.taken;
  failed = cause.failed;
  shut = cause.shut;
  doors = cause.doors;
  ends = allowed_trial end cause.ends (λ much. let is : ◌≡◌ {A = Source} (sources.Trial seed count) sources.Input = short much in cc);
}

-- ---- what is promised

abbrev pub Promise : Source → List ℕ → ℕ → Type 0 → Door → End → Tale → Tale → Type 0
Promise source path pool rose now end = KeepsPromises (Some (run_from source path pool)) rose now end

-- of a file that stands for an edition
abbrev Runs : Source → ℕ → Edition → Type 0 → End → Tale → Tale → Type 0
Runs sources.Input pages first rose end before after = RunsInput pages first before.input rose end after
Runs (sources.Trial seed count) pages first rose end before after = RunsTrial pages first seed count rose end before after

promised : (source : Source) (path : List ℕ) (pool : ℕ) (rose : Type 0) (now : Door) (end : End) (t w : Tale) → FindsFile path now end t w
    → (now ≡ doors.Ready → OpensSafely end w)
    → (now ≡ doors.Ready → (pages : ℕ) (first : Edition) → IsMapFile w.start pages → Stands w.start first → Runs source pages first rose end t w)
    → Promise source path pool rose now end t w
promised sources.Input path pool rose now end t w finds opens runs = (finds, opens, runs)
promised (sources.Trial seed count) path pool rose now end t w finds opens runs = (finds, opens, runs)

not_made : (door : Door) → door ≡ doors.Ready → door ≡ doors.Made → ⊥
not_made door is e = let f : ◌≡◌ {A = Door} doors.Ready doors.Made = sym is ∙ e in cc

not_taken : (door : Door) → door ≡ doors.Ready → door ≡ doors.Taken → ⊥
not_taken door is e = let f : ◌≡◌ {A = Door} doors.Ready doors.Taken = sym is ∙ e in cc

pub one_size : (image : Pages) (n m : ℕ) → IsMapFile image n → IsMapFile image m → n ≡ m
one_size image n m a b = omega (arith, a.size, b.size)

home_few : (start : Pages) (n : ℕ) → IsMapFile start n → length (home start n) ≤ 30000
home_few start n file = omega (arith, home_length start n, file.most)

one_run : (end : End) → IsOneOf end (ends.Device ∷ ends.Memory ∷ []) → IsOneOf end run_ends
one_run end (inl e) = inr (inr (inl e))
one_run end (inr (inl e)) = inr (inr (inr (inl e)))
one_run end (inr (inr e)) = absurd e

-- where the file was not opened
not_ready : (source : Source) (path : List ℕ) (pool : ℕ) (rose : Type 0) (now : Door) (end : End) (o n : Option Tale) → (now ≡ doors.Ready → ⊥)
    → (now ≡ doors.Made → ⊥) → (now ≡ doors.Taken → ⊥) → Goes (OpensAt path now) o n
    → WhereTold (Promise source path pool rose now end) o n
not_ready source path pool rose now end None n nr nm nt opens = tt
not_ready source path pool rose now end (Some t) None nr nm nt opens = absurd opens
not_ready source path pool rose now end (Some t) (Some u) nr nm nt opens =
    promised source path pool rose now end t u (finds_opened path now now end t u u refl nm nt opens (λ is. opens.fresh.log))
    (λ e. absurd (nr e)) (λ e. absurd (nr e))

pub attach_failed : (source : Source) (path : List ℕ) (pool : ℕ) (rose : Type 0) (now : Door) (end : End) (r : Result Attached Fault)
    (o n : Option Tale) → now ≡ attached r → ((a : Attached) → r ≡ Ok a → ⊥) → Goes (OpensAt path now) o n
    → WhereTold (Promise source path pool rose now end) o n
attach_failed source path pool rose now end (Ok a) o n door failed opens = absurd (failed a refl)
attach_failed source path pool rose now end (Err e) o n door failed opens =
    not_ready source path pool rose now end o n (λ x. let f : ◌≡◌ {A = Door} doors.Failed doors.Ready = sym door ∙ x in cc)
    (λ x. let f : ◌≡◌ {A = Door} doors.Failed doors.Made = sym door ∙ x in cc)
    (λ x. let f : ◌≡◌ {A = Door} doors.Failed doors.Taken = sym door ∙ x in cc) opens

pub file_missing : (source : Source) (path : List ℕ) (pool : ℕ) (rose : Type 0) (now : Door) (end : End) (o n : Option Tale) → now ≡ doors.Missing
    → Goes (OpensAt path now) o n → WhereTold (Promise source path pool rose now end) o n
file_missing source path pool rose now end o n door opens =
    not_ready source path pool rose now end o n (λ x. let f : ◌≡◌ {A = Door} doors.Missing doors.Ready = sym door ∙ x in cc)
    (λ x. let f : ◌≡◌ {A = Door} doors.Missing doors.Made = sym door ∙ x in cc)
    (λ x. let f : ◌≡◌ {A = Door} doors.Missing doors.Taken = sym door ∙ x in cc) opens

-- a run that was not begun
quiet : (source : Source) (pages : ℕ) (first : Edition) (rose : Type 0) (end : End) (t v : Tale) → v.input ≡ t.input → IsUntold v → Stands v.start first
    → ((so_far : Log) (image : Pages) → Begins v.log so_far → CanLeave v.start so_far image → Stands image first) → number end ≡ 5
    → IsOneOf end run_ends → (end ≡ ends.Device → rose) → Runs source pages first rose end t v
quiet sources.Input pages first rose end t v input untold stands early other one device =
    subst (λ (i : List ℕ). RunsInput pages first i rose end v) input
    (runs_input pages first end v v
    (quiet_run pages first end v v.start stands untold (λ image left. early v.log image ([], sym (append-nil v.log)) left)
    (λ x. apart end ends.Done 5 0 other refl (λ f. cc) x) (λ x. apart end ends.Refused 5 1 other refl (λ f. cc) x)
    (λ x. apart end ends.TooMuch 5 2 other refl (λ f. cc) x))
    untold early rose one device)
quiet (sources.Trial seed count) pages first rose end t v input untold stands early other one device =
    runs_trial pages first seed count end v v untold
    (quiet_try pages first seed count end v (λ image left. early v.log image ([], sym (append-nil v.log)) left)
    (λ x. apart end ends.Done 5 0 other refl (λ f. cc) x) (λ x. apart end ends.Refused 5 1 other refl (λ f. cc) x))
    early rose t input one device

module _ (source : Source) (path : List ℕ) (pool : ℕ) (rose : Type 0) (door now : Door) (ready : door ≡ doors.Ready) (same : now ≡ door) where
  finds : (end : End) (t u w : Tale) → OpensAt path door t u → (IsOneOf end (ends.Missing ∷ ends.Taken ∷ ends.NotMap ∷ []) → w.log ≡ [])
      → FindsFile path now end t w
  finds end t u w opens unwritten = finds_opened path door now end t u w same (not_made door ready) (not_taken door ready) opens unwritten

  -- a device fault, or no memory
  gave_up : (end : End) (t u v : Tale) → is_run_end end ≡ true → number end ≡ 5 → IsOneOf end (ends.Device ∷ ends.Memory ∷ [])
      → (end ≡ ends.Device → rose) → OpensAt path door t u → Keeps u v → Promise source path pool rose now end t v
  gave_up end t u v is other one device opens keeps =
      let new = opens.fresh.log in
      let start = keeps.pages.file.start in
      let untold = opened_untold u v new keeps in
      let early =
      λ (pages : ℕ) (first : Edition) (file : IsMapFile v.start pages) (stands : Stands v.start first) (so_far : Log) (image : Pages)
      (front : Begins v.log so_far) (left : CanLeave v.start so_far image).
      stands_as pages u.start image first (subst (λ (p : Pages). IsMapFile p pages) start file) (subst (λ (p : Pages). Stands p first) start stands)
      (home_kept u v pages new keeps (subst (λ (p : Pages). IsMapFile p pages) start file) so_far image front left) in
      promised source path pool rose now end t v
      (finds end t u v opens (λ e. absurd (no_start_end end is e)))
      (λ e. opens_quiet end u v new keeps
      (record { only = λ x. absurd (apart end ends.NotMap 5 3 other refl (λ f. cc) x); always = λ none. inr one })
      (λ page x. absurd (apart end (ends.Damaged page) 5 4 other refl (λ f. cc) x))
      (λ pages file none. let some = damage_page (home v.start pages) (home_few v.start pages file) in (some.0, some.1, inr one))
      (λ x. apart end ends.TooMuch 5 2 other refl (λ f. cc) x))
      (λ e pages first file stands. quiet source pages first rose end t v (keeps.input ∙ opens.fresh.input) untold stands
      (early pages first file stands) other (one_run end one) device)

  -- no map file
  not_a_map : (t u v : Tale) → OpensAt path door t u → Keeps u v → IsNoMap u.start → Promise source path pool rose now ends.NotMap t v
  not_a_map t u v opens keeps none_u =
      let new = opens.fresh.log in
      let none : IsNoMap v.start = subst IsNoMap (sym keeps.pages.file.start) none_u in
      promised source path pool rose now ends.NotMap t v
      (finds ends.NotMap t u v opens (λ is. keeps.other none_u ∙ new))
      (λ e. opens_quiet ends.NotMap u v new keeps (record { only = λ is. none; always = λ no_. inl refl })
      (λ page is. absurd (let f : ◌≡◌ {A = End} ends.NotMap (ends.Damaged page) = is in cc))
      (λ pages file nothing. absurd (none pages file)) (λ is. let f : ◌≡◌ {A = End} ends.NotMap ends.TooMuch = is in cc))
      (λ e pages first file stands. absurd (none pages file))

  -- a file that stands for nothing
  damaged : (page : ℕ) (t u v : Tale) → OpensAt path door t u → Keeps u v → IsFoundDamaged u.start page
      → Promise source path pool rose now (ends.Damaged page) t v
  damaged page t u v opens keeps found_u =
      let new = opens.fresh.log in
      let found : IsFoundDamaged v.start page = subst (λ (p : Pages). IsFoundDamaged p page) (sym keeps.pages.file.start) found_u in
      promised source path pool rose now (ends.Damaged page) t v
      (finds (ends.Damaged page) t u v opens (λ e. absurd (no_start_end (ends.Damaged page) refl e)))
      (λ e. opens_quiet (ends.Damaged page) u v new keeps
      (record { only = λ is. absurd (let f : ◌≡◌ {A = End} (ends.Damaged page) ends.NotMap = is in cc); always = λ none. absurd (none found.0 found.1) })
      (λ other is. found.3)
      (λ pages file none. (page, subst (λ n. IsDamagePage (home v.start n) page) (one_size v.start found.0 pages found.1 file) found.2, inl refl))
      (λ is. let f : ◌≡◌ {A = End} (ends.Damaged page) ends.TooMuch = is in cc))
      (λ e pages first file stands. absurd (found.3 first stands))

  stopped_at : (stop : Stop) (t u v : Tale) → (stop ≡ stops.Device → rose) → OpensAt path door t u → Keeps u v
      → ((page : ℕ) → stop ≡ stops.Damaged page → IsFoundDamaged u.start page) → Promise source path pool rose now (end_of_stop stop) t v
  stopped_at stops.Device t u v device opens keeps found = gave_up ends.Device t u v refl refl (inl refl) (λ e. device refl) opens keeps
  stopped_at stops.Memory t u v device opens keeps found =
      gave_up ends.Memory t u v refl refl (inr (inl refl)) (λ e. absurd (let f : ◌≡◌ {A = End} ends.Memory ends.Device = e in cc)) opens keeps
  stopped_at (stops.Damaged page) t u v device opens keeps found = damaged page t u v opens keeps (found page refl)

  pub open_stopped : (stop : Stop) (o m n : Option Tale) → (stop ≡ stops.Device → rose) → Goes (OpensAt path door) o m → Goes Keeps m n
      → IfSome m (λ t. (page : ℕ) → stop ≡ stops.Damaged page → IsFoundDamaged t.start page)
      → WhereTold (Promise source path pool rose now (end_of_stop stop)) o n
  open_stopped stop None m n device opens keeps found = tt
  open_stopped stop (Some t) None n device opens keeps found = absurd opens
  open_stopped stop (Some t) (Some u) None device opens keeps found = absurd keeps
  open_stopped stop (Some t) (Some u) (Some v) device opens keeps found = stopped_at stop t u v device opens keeps found

  pub found_no_map : (o m n : Option Tale) → Goes (OpensAt path door) o m → Goes Keeps m n → IfSome m (λ t. IsNoMap t.start)
      → WhereTold (Promise source path pool rose now ends.NotMap) o n
  found_no_map None m n opens keeps none = tt
  found_no_map (Some t) None n opens keeps none = absurd opens
  found_no_map (Some t) (Some u) None opens keeps none = absurd keeps
  found_no_map (Some t) (Some u) (Some v) opens keeps none = not_a_map t u v opens keeps none

-- ---- over a session that stands for what the file does

-- how the commands of a source ran over a session
abbrev Ends : Source → ℕ → State → End → Tale → Tale → Type 0
Ends sources.Input n s end old new = RunsTo n s end old new
Ends (sources.Trial seed count) n s end old new = TriesTo n (trial_run n s seed count) end old new

-- what early stops leave
abbrev Early : Edition → Tale → Type 0
Early E v = (so_far : Log) (image : Pages) → Begins v.log so_far → CanLeave v.start so_far image → Stands image E

opens_by : (source : Source) (n : ℕ) (E : Edition) (end : End) (v w : Tale) → (end ≡ ends.TooMuch → source ≡ sources.Input)
    → Ends source E.level (first_state n E) end v w → IsUntold v → Early E v → IsMapFile w.start n
    → Stands w.start E → IsOneOf end run_ends → OpensSafely end w
opens_by sources.Input n E end v w short so untold early file stands one = opens_map n E end v w so untold file stands one
opens_by (sources.Trial seed count) n E end v w short so untold early file stands one =
    opens_tried n E seed count end v w untold so early file stands (run_end end one) one
    (λ much. let is : ◌≡◌ {A = Source} (sources.Trial seed count) sources.Input = short much in cc)

runs_by : (source : Source) (n : ℕ) (E : Edition) (end : End) (rose : Type 0) (t v w : Tale) → Ends source E.level (first_state n E) end v w
    → IsUntold v → Early E v → v.input ≡ t.input → IsOneOf end run_ends → (end ≡ ends.Device → rose)
    → Runs source n E rose end t w
runs_by sources.Input n E end rose t v w so untold early input one device =
    subst (λ (i : List ℕ). RunsInput n E i rose end w) input (runs_input n E end v w so untold early rose one device)
runs_by (sources.Trial seed count) n E end rose t v w so untold early input one device =
    runs_trial n E seed count end v w untold so early rose t input one device

module _ (path : List ℕ) (pool : ℕ) (rose : Type 0) (door now : Door) (ready : door ≡ doors.Ready) (same : now ≡ door) where
  ran_over : (source : Source) (end : End) (n : ℕ) (E : Edition) (t u v w : Tale) → (end ≡ ends.Device → rose)
      → (end ≡ ends.TooMuch → source ≡ sources.Input) → IsOneOf end run_ends → OpensAt path door t u → Keeps u v → IsMapFile u.start n
      → Stands u.start E → w.start ≡ v.start → Ends source E.level (first_state n E) end v w → Promise source path pool rose now end t w
  ran_over source end n E t u v w device short one opens keeps file stands kept so =
      let new = opens.fresh.log in
      let untold = opened_untold u v new keeps in
      let input = keeps.input ∙ opens.fresh.input in
      let start = kept ∙ keeps.pages.file.start in
      let file_w : IsMapFile w.start n = subst (λ (p : Pages). IsMapFile p n) (sym start) file in
      let stands_w : Stands w.start E = subst (λ (p : Pages). Stands p E) (sym start) stands in
      let early : Early E v = λ so_far image front left. stands_as n u.start image E file stands (home_kept u v n new keeps file so_far image front left) in
      promised source path pool rose now end t w
      (finds source path pool rose door now ready same end t u w opens (λ is. absurd (no_start_end end (run_end end one) is)))
      (λ e. opens_by source n E end v w short so untold early file_w stands_w one)
      (λ e pages first its stands_too. subst (λ k. Runs source k first rose end t w) (one_size w.start n pages file_w its)
      (subst (λ (f : Edition). Runs source n f rose end t w) (stands_once w.start E first stands_w stands_too)
      (runs_by source n E end rose t v w so untold early input one device)))

  module _ (At : State → Type 0) (level : ℕ) (leveled : (s : State) → At s → s.last.level ≡ level) where
    -- what opening found
    abbrev Found : Option Tale → Type 0
    Found m = IfSome m (λ t. (k : ℕ) × IsMapFile t.start k × (e : Edition) × Stands t.start e × At (first_state k e))

    pub ran : (end : End) (o m n p : Option Tale) → (end ≡ ends.Device → rose) → ((s : State) → At s → IsOneOf end run_ends)
        → Goes (OpensAt path door) o m → Goes Keeps m n → Found m
        → ((s : State) → At s → Goes (RunsTo level s end) n p) → WhereTold (Promise sources.Input path pool rose now end) o p
    ran end None m n p device one opens keeps found runs = tt
    ran end (Some t) None n p device one opens keeps found runs = absurd opens
    ran end (Some t) (Some u) None p device one opens keeps found runs = absurd keeps
    ran end (Some t) (Some u) (Some v) None device one opens keeps found runs = absurd (runs (first_state found.0 found.2) found.4)
    ran end (Some t) (Some u) (Some v) (Some w) device one opens keeps found runs =
        let s = first_state found.0 found.2 in
        let so : RunsTo found.2.level s end v w = subst (λ n. RunsTo n s end v w) (sym (leveled s found.4)) (runs s found.4) in
        ran_over sources.Input end found.0 found.2 t u v w device (λ much. refl) (one s found.4) opens keeps found.1 found.3 so.runs.file.start so

    pub tried : (seed count : ℕ) (end : End) (o m n p : Option Tale) → (end ≡ ends.Device → rose) → (end ≡ ends.TooMuch → ⊥)
        → ((s : State) → At s → IsOneOf end run_ends) → Goes (OpensAt path door) o m → Goes Keeps m n → Found m
        → ((s : State) → At s → Goes (TriesTo level (trial_run level s seed count) end) n p)
        → WhereTold (Promise (sources.Trial seed count) path pool rose now end) o p
    tried seed count end None m n p device short one opens keeps found tries = tt
    tried seed count end (Some t) None n p device short one opens keeps found tries = absurd opens
    tried seed count end (Some t) (Some u) None p device short one opens keeps found tries = absurd keeps
    tried seed count end (Some t) (Some u) (Some v) None device short one opens keeps found tries = absurd (tries (first_state found.0 found.2) found.4)
    tried seed count end (Some t) (Some u) (Some v) (Some w) device short one opens keeps found tries =
        let s = first_state found.0 found.2 in
        let so : TriesTo found.2.level (trial_run found.2.level s seed count) end v w =
        subst (λ n. TriesTo n (trial_run n s seed count) end v w) (sym (leveled s found.4)) (tries s found.4) in
        ran_over (sources.Trial seed count) end found.0 found.2 t u v w device (λ much. absurd (short much)) (one s found.4) opens keeps found.1 found.3
        (so.front.concludes.text.file.start ∙ so.front.concludes.tries.pages.file.start) so
