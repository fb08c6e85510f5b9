-- What the program promises beyond the headline, told or not: each edition in its turn, and where want of memory may come.
use Rattle.std.proofs.Common.{◌≡◌, ℕ, List, [], ◌++◌, Option, Some, None, Result, Ok, Err, refl, sym, ◌∙◌, ap, subst, append-nil}
use Rattle.std.specs.Option.{IfSome}
use Rattle.quilt_types.specs.Facts.{quota}
use Rattle.quilt_types.specs.Layers.{Edition}
use Rattle.quilt_types.specs.declared.stop.Stop.{Stop}
use Rattle.quilt_types.specs.declared.stop.Stop.TheVariants as stops
use Rattle.quilt_world.specs.Disk.{Pages, Log, CanLeave}
use Rattle.quilt_world.specs.Doors.{OpensAt, MakesAt, attached}
use Rattle.quilt_world.specs.Home.{IsMapFile}
use Rattle.quilt_world.specs.Tale.{Tale, Goes, Begins, put_bytes, taken_bytes}
use Rattle.quilt_world.specs.declared.disk.Fault.{Fault}
use Rattle.quilt_world.specs.declared.world.Attached.{Attached}
use Rattle.quilt_world.specs.declared.disk.Door.{Door}
use Rattle.quilt_world.specs.declared.disk.Door.TheVariants as doors
use Rattle.quilt_edition.specs.Stands.{Stands}
use Rattle.quilt_edition.proofs.OneEdition.{stands_once}
use Rattle.quilt_replies.specs.Answers.{State}
use Rattle.quilt_replies.specs.Runs.{run}
use Rattle.quilt_map.specs.Sessions.{first_state}
use Rattle.quilt_top.specs.declared.orders.Source.{Source}
use Rattle.quilt_top.specs.declared.orders.Source.TheVariants as sources
use Rattle.quilt_top.specs.declared.run.End.{End}
use Rattle.quilt_top.specs.declared.run.End.TheVariants as ends
use Rattle.quilt_top.specs.Headline.{IsNoMap, KeepsPromises, WhereTold}
use Rattle.quilt_top.specs.Meanings.{run_from}
use Rattle.quilt_top.specs.Openings.{Keeps, RunsTo, end_of_stop}
use Rattle.quilt_top.specs.Stronger.{RunsInTurn, TrialsInTurn, KeepsMore}
use Rattle.quilt_top.specs.Trying.{trial_run, TriesTo}
use Rattle.quilt_top.specs.Words.{Order, New, Run as RunText, Trial}
use Rattle.quilt_top.proofs.Promises.{one_size}
use Rattle.quilt_top.proofs.Running.{stands_as, home_kept, opened_untold, apart, number, quiet_run, runs_turn}
use Rattle.quilt_top.proofs.logs.Events.{put_bytes-append, pages_unput}
use Rattle.quilt_top.proofs.openings.Found.{IsFoundDamaged}

-- ---- where nothing was done

-- behind a shut door
pub shut_more : (order : Option Order) (door : Door) (end : End) (o : Option Tale) → door ≡ doors.Shut → IfSome o (λ t. taken_bytes t.log ≡ [])
    → WhereTold (KeepsMore order door end) o o
shut_more order door end None shut untaken = tt
shut_more None door end (Some t) shut untaken = tt
shut_more (Some (New file pages level)) door end (Some t) shut untaken =
    (λ memory. shut, refl, untaken, λ failed. absurd (let e : ◌≡◌ {A = Door} doors.Shut doors.Failed = sym shut ∙ failed in cc))
shut_more (Some (RunText file pool)) door end (Some t) shut untaken =
    λ ready. absurd (let e : ◌≡◌ {A = Door} doors.Shut doors.Ready = sym shut ∙ ready in cc)
shut_more (Some (Trial file seed count pool)) door end (Some t) shut untaken =
    λ ready. absurd (let e : ◌≡◌ {A = Door} doors.Shut doors.Ready = sym shut ∙ ready in cc)

-- ---- a new file

-- where the call that makes it was the last
pub making_more : (path : List ℕ) (pages level size : ℕ) (door : Door) (end : End) (o n : Option Tale) → (end ≡ ends.Memory → ⊥)
    → Goes (MakesAt path size door) o n → WhereTold (KeepsMore (Some (New path pages level)) door end) o n
making_more path pages level size door end None n other makes = tt
making_more path pages level size door end (Some t) None other makes = absurd makes
making_more path pages level size door end (Some t) (Some u) other makes =
    (λ memory. absurd (other memory), makes.fresh.input, ap taken_bytes makes.fresh.log, λ failed. ap put_bytes makes.fresh.log)

-- where it was made
pub made_more : (path : List ℕ) (pages level : ℕ) (rose : Type 0) (door : Door) (end : End) (o n : Option Tale) → door ≡ doors.Made
    → (end ≡ ends.Memory → ⊥) → WhereTold (KeepsPromises (Some (New path pages level)) rose door end) o n
    → WhereTold (KeepsMore (Some (New path pages level)) door end) o n
made_more path pages level rose door end None n made other promises = tt
made_more path pages level rose door end (Some t) None made other promises = absurd promises
made_more path pages level rose door end (Some t) (Some u) made other promises =
    let untouched = (promises.1 made).untouched in (
      λ memory. absurd (other memory),
      untouched.0,
      untouched.1,
      λ failed. absurd (let e : ◌≡◌ {A = Door} doors.Made doors.Failed = sym made ∙ failed in cc),
    )

-- ---- a run over a file

abbrev pub More : Source → List ℕ → ℕ → Door → End → Tale → Tale → Type 0
More source path pool now end = KeepsMore (Some (run_from source path pool)) now end

-- what is promised of a file that was opened
abbrev InTurn : Source → End → Tale → Tale → Type 0
InTurn sources.Input end t w =
    (pages : ℕ) (first : Edition) → IsMapFile w.start pages → Stands w.start first → RunsInTurn (run (quota pages) first t.input) end w
InTurn (sources.Trial seed count) end t w = TrialsInTurn end w

in_turn : (source : Source) (path : List ℕ) (pool : ℕ) (now : Door) (end : End) (t w : Tale) → (now ≡ doors.Ready → InTurn source end t w)
    → More source path pool now end t w
in_turn sources.Input path pool now end t w so = so
in_turn (sources.Trial seed count) path pool now end t w so = so

-- where it was not opened
pub unopened_more : (source : Source) (path : List ℕ) (pool : ℕ) (now : Door) (end : End) (o n : Option Tale) → (now ≡ doors.Ready → ⊥)
    → Goes (OpensAt path now) o n → WhereTold (More source path pool now end) o n
unopened_more source path pool now end None n other opens = tt
unopened_more source path pool now end (Some t) None other opens = absurd opens
unopened_more source path pool now end (Some t) (Some u) other opens = in_turn source path pool now end t u (λ ready. absurd (other ready))

pub failed_shut : (now : Door) (r : Result Attached Fault) → now ≡ attached r → ((a : Attached) → r ≡ Ok a → ⊥) → now ≡ doors.Ready → ⊥
failed_shut now (Ok a) door failed = λ ready. failed a refl
failed_shut now (Err e) door failed = λ ready. let f : ◌≡◌ {A = Door} doors.Failed doors.Ready = sym door ∙ ready in cc

pub missing_shut : (now : Door) → now ≡ doors.Missing → now ≡ doors.Ready → ⊥
missing_shut now missing ready = let f : ◌≡◌ {A = Door} doors.Missing doors.Ready = sym missing ∙ ready in cc

-- what early stops leave
early : (pages : ℕ) (first : Edition) (u v : Tale) → u.log ≡ [] → Keeps u v → IsMapFile u.start pages → Stands u.start first
    → (so_far : Log) (image : Pages) → Begins v.log so_far → CanLeave v.start so_far image → Stands image first
early pages first u v new keeps file stands so_far image front left =
    stands_as pages u.start image first file stands (home_kept u v pages new keeps file so_far image front left)

module _ (path : List ℕ) (door : Door) where
  -- a run that was not begun
  quiet_turn : (end : End) (t u v : Tale) → number end ≡ 5 → OpensAt path door t u → Keeps u v → (source : Source) → InTurn source end t v
  quiet_turn end t u v other opens keeps sources.Input = λ pages first file stands.
      let new = opens.fresh.log in
      let start = keeps.pages.file.start in
      let untold = opened_untold u v new keeps in
      let before = early pages first u v new keeps (subst (λ (p : Pages). IsMapFile p pages) start file) (subst (λ (p : Pages). Stands p first) start stands) in
      subst (λ (i : List ℕ). RunsInTurn (run (quota pages) first i) end v) (keeps.input ∙ opens.fresh.input)
      (runs_turn pages first end v v
      (quiet_run pages first end v _ stands untold (λ image left. before v.log image ([], sym (append-nil v.log)) left)
      (λ x. apart end ends.Done 5 0 other refl (λ f. cc) x) (λ x. apart end ends.Refused 5 1 other refl (λ f. cc) x)
      (λ x. apart end ends.TooMuch 5 2 other refl (λ f. cc) x)) untold before)
  quiet_turn end t u v other opens keeps (sources.Trial seed count) = λ memory. pages_unput v.log (opened_untold u v opens.fresh.log keeps)

  -- a file that stands for nothing
  damaged_turn : (page : ℕ) (t u v : Tale) → Keeps u v → IsFoundDamaged u.start page → (source : Source) → InTurn source (ends.Damaged page) t v
  damaged_turn page t u v keeps found sources.Input = λ pages first file stands.
      absurd (found.3 first (subst (λ (p : Pages). Stands p first) keeps.pages.file.start stands))
  damaged_turn page t u v keeps found (sources.Trial seed count) = λ memory. absurd (let e : ◌≡◌ {A = End} (ends.Damaged page) ends.Memory = memory in cc)

  no_map_turn : (t u v : Tale) → Keeps u v → IsNoMap u.start → (source : Source) → InTurn source ends.NotMap t v
  no_map_turn t u v keeps none sources.Input = λ pages first file stands.
      absurd (none pages (subst (λ (p : Pages). IsMapFile p pages) keeps.pages.file.start file))
  no_map_turn t u v keeps none (sources.Trial seed count) = λ memory. absurd (let e : ◌≡◌ {A = End} ends.NotMap ends.Memory = memory in cc)

  stopped_turn : (stop : Stop) (t u v : Tale) → OpensAt path door t u → Keeps u v → ((page : ℕ) → stop ≡ stops.Damaged page → IsFoundDamaged u.start page)
      → (source : Source) → InTurn source (end_of_stop stop) t v
  stopped_turn stops.Device t u v opens keeps found source = quiet_turn ends.Device t u v refl opens keeps source
  stopped_turn stops.Memory t u v opens keeps found source = quiet_turn ends.Memory t u v refl opens keeps source
  stopped_turn (stops.Damaged page) t u v opens keeps found source = damaged_turn page t u v keeps (found page refl) source

  module _ (source : Source) (pool : ℕ) (now : Door) where
    pub stopped_more : (stop : Stop) (o m n : Option Tale) → Goes (OpensAt path door) o m → Goes Keeps m n
        → IfSome m (λ t. (page : ℕ) → stop ≡ stops.Damaged page → IsFoundDamaged t.start page)
        → WhereTold (More source path pool now (end_of_stop stop)) o n
    stopped_more stop None m n opens keeps found = tt
    stopped_more stop (Some t) None n opens keeps found = absurd opens
    stopped_more stop (Some t) (Some u) None opens keeps found = absurd keeps
    stopped_more stop (Some t) (Some u) (Some v) opens keeps found =
        in_turn source path pool now (end_of_stop stop) t v (λ ready. stopped_turn stop t u v opens keeps found source)

    pub no_map_more : (o m n : Option Tale) → Goes (OpensAt path door) o m → Goes Keeps m n → IfSome m (λ t. IsNoMap t.start)
        → WhereTold (More source path pool now ends.NotMap) o n
    no_map_more None m n opens keeps none = tt
    no_map_more (Some t) None n opens keeps none = absurd opens
    no_map_more (Some t) (Some u) None opens keeps none = absurd keeps
    no_map_more (Some t) (Some u) (Some v) opens keeps none = in_turn source path pool now ends.NotMap t v (λ ready. no_map_turn t u v keeps none source)

  -- ---- over a session that stands for what the file does

  ran_turn : (n : ℕ) (E : Edition) (end : End) (t u v w : Tale) → OpensAt path door t u → Keeps u v → IsMapFile u.start n → Stands u.start E
      → RunsTo E.level (first_state n E) end v w → InTurn sources.Input end t w
  ran_turn n E end t u v w opens keeps file stands so = λ pages first its stands_too.
      let new = opens.fresh.log in
      let start = so.runs.file.start ∙ keeps.pages.file.start in
      let file_w : IsMapFile w.start n = subst (λ (p : Pages). IsMapFile p n) (sym start) file in
      let stands_w : Stands w.start E = subst (λ (p : Pages). Stands p E) (sym start) stands in
      subst (λ k. RunsInTurn (run (quota k) first t.input) end w) (one_size w.start n pages file_w its)
      (subst (λ (f : Edition). RunsInTurn (run (quota n) f t.input) end w) (stands_once w.start E first stands_w stands_too)
      (subst (λ (i : List ℕ). RunsInTurn (run (quota n) E i) end w) (keeps.input ∙ opens.fresh.input)
      (runs_turn n E end v w so (opened_untold u v new keeps) (early n E u v new keeps file stands))))

  tried_turn : (u v w : Tale) (end : End) (n : ℕ) (r : _) → u.log ≡ [] → Keeps u v → TriesTo n r end v w → TrialsInTurn end w
  tried_turn u v w end n r new keeps so memory =
      let pages = so.unsaid memory in
      ap put_bytes pages.log ∙ put_bytes-append v.log pages.events
      ∙ ap (λ (l : List ℕ). l ++ put_bytes pages.events) (pages_unput v.log (opened_untold u v new keeps)) ∙ pages_unput pages.events pages.only

  module _ (pool : ℕ) (now : Door) (At : State → Type 0) (level : ℕ) (leveled : (s : State) → At s → s.last.level ≡ level) where
    -- what opening found
    abbrev pub Found : Option Tale → Type 0
    Found m = IfSome m (λ t. (k : ℕ) × IsMapFile t.start k × (e : Edition) × Stands t.start e × At (first_state k e))

    pub ran_more : (end : End) (o m n p : Option Tale) → Goes (OpensAt path door) o m → Goes Keeps m n → Found m
        → ((s : State) → At s → Goes (RunsTo level s end) n p) → WhereTold (More sources.Input path pool now end) o p
    ran_more end None m n p opens keeps found runs = tt
    ran_more end (Some t) None n p opens keeps found runs = absurd opens
    ran_more end (Some t) (Some u) None p opens keeps found runs = absurd keeps
    ran_more end (Some t) (Some u) (Some v) None opens keeps found runs = absurd (runs (first_state found.0 found.2) found.4)
    ran_more end (Some t) (Some u) (Some v) (Some w) opens keeps found runs =
        let s = first_state found.0 found.2 in
        let so : RunsTo found.2.level s end v w = subst (λ n. RunsTo n s end v w) (sym (leveled s found.4)) (runs s found.4) in
        λ ready. ran_turn found.0 found.2 end t u v w opens keeps found.1 found.3 so

    pub tried_more : (seed count : ℕ) (end : End) (o m n p : Option Tale) → Goes (OpensAt path door) o m → Goes Keeps m n → Found m
        → ((s : State) → At s → Goes (TriesTo level (trial_run level s seed count) end) n p)
        → WhereTold (More (sources.Trial seed count) path pool now end) o p
    tried_more seed count end None m n p opens keeps found tries = tt
    tried_more seed count end (Some t) None n p opens keeps found tries = absurd opens
    tried_more seed count end (Some t) (Some u) None p opens keeps found tries = absurd keeps
    tried_more seed count end (Some t) (Some u) (Some v) None opens keeps found tries = absurd (tries (first_state found.0 found.2) found.4)
    tried_more seed count end (Some t) (Some u) (Some v) (Some w) opens keeps found tries =
        λ ready. tried_turn u v w end level (trial_run level (first_state found.0 found.2) seed count) opens.fresh.log keeps
        (tries (first_state found.0 found.2) found.4)
