-- What a run over a file promises, by what opening and the text did.
use Rattle.std.proofs.Common.{◌≡◌, inl, inr, ◌+◌, ◌<◌, ◌≤◌, ℕ, Bool, true, false, cond, List, [], ◌∷◌, ◌++◌, length, length-append, take, Option, Some, None, Result}
use Rattle.std.proofs.Common.{Ok, Err, IfOk, IfErr, refl, sym, ◌∙◌, ap, subst, arith}
use Rattle.std.specs.List.{All}
use Rattle.std.proofs.lemmas.List.{take_at}
use Rattle.quilt_types.specs.Facts.{quota}
use Rattle.quilt_types.specs.Layers.{Edition}
use Rattle.quilt_types.specs.declared.stop.Stop.TheVariants as stops
use Rattle.quilt_world.specs.Added.{Only, AtEachTook, is_of_pages}
use Rattle.quilt_world.specs.Disk.{Pages, Log, CanLeave}
use Rattle.quilt_world.specs.Doors.{OpensAt}
use Rattle.quilt_world.specs.Home.{IsMapFile, home}
use Rattle.quilt_world.specs.Stops.{LeavesNow}
use Rattle.quilt_world.specs.Tale.{Tale, Goes, put_bytes, taken_bytes, Begins}
use Rattle.quilt_world.specs.declared.event.Event.{Event}
use Rattle.quilt_world.specs.declared.disk.Door.{Door}
use Rattle.quilt_world.specs.declared.disk.Door.TheVariants as doors
use Rattle.quilt_journal.specs.Kept.{HasHome}
use Rattle.quilt_edition.specs.Stands.{HoldsEdition, Stands, IsDamagePage}
use Rattle.quilt_words.specs.Items.{items_of}
use Rattle.quilt_replies.specs.Answers.{State}
use Rattle.quilt_replies.specs.Runs.{Run, Published, run, publishes, replies_of, output, told_within, editions_told}
use Rattle.quilt_map.proofs.answers.Orderly.{IsReadAt}
use Rattle.quilt_map.specs.Sessions.{first_state}
use Rattle.quilt_top.specs.Stronger.{PutsWhole, RunsInTurn, gives_next, touches_page}
use Rattle.quilt_top.specs.TextRun.{run_in, publishes_in, IsUntold, IsFine, RunsFrom, RunsWhole, Overruns, EndsBetween}
use Rattle.quilt_top.proofs.logs.Events.{put_bytes-append, nothing_taken, pages_untaken, pages_unput}
use Rattle.quilt_top.proofs.logs.Prefixes.{front_split, only_front}
use Rattle.quilt_top.proofs.turns.Places.{told_none, fine_last}
use Rattle.quilt_top.proofs.turns.Between.{event_split, none_whole, as_whole}
use Rattle.quilt_top.proofs.turns.Runs.{reading_first, runs_now, ends_now}
use Rattle.quilt_top.specs.declared.halt.Halt.{Halt}
use Rattle.quilt_top.specs.declared.halt.Halt.TheVariants as halts
use Rattle.quilt_top.specs.declared.run.End.{End}
use Rattle.quilt_top.specs.declared.run.End.TheVariants as ends
use Rattle.quilt_top.specs.Headline.{IsOneOf, ComesExactly, IsStop, IsEdition, WritesFew, all_done, RunsText, IsPrompt, input_limit, told_by_replies, RunsInput}
use Rattle.quilt_top.specs.Headline.{IsNoMap, StandsForNothing, OpensSafely, FindsFile}
use Rattle.quilt_top.specs.Openings.{Keeps, IsNoFault, RunsTo, run_ends, is_run_end, end_of}

-- ---- what opening leaves

pub stands_as : (n : ℕ) (start image : Pages) (E : Edition) → IsMapFile start n → Stands start E → HasHome n (home start n) image → Stands image E
stands_as n start image E file stands has =
    let size : stands.pages ≡ n = omega (arith, stands.file.size, file.size) in
    record {
      pages = n;
      file = has.file;
      holds = subst (λ (p : Pages). HoldsEdition p E) (sym has.same) (subst (λ k. HoldsEdition (home start k) E) size stands.holds);
    }

-- each image that a stop may leave so far has the home pages of the start
pub home_kept : (u v : Tale) (n : ℕ) → u.log ≡ [] → Keeps u v → IsMapFile u.start n → (so_far : Log) (image : Pages) → Begins v.log so_far
    → CanLeave v.start so_far image → HasHome n (home u.start n) image
home_kept u v n new keeps file so_far image front left =
    let since = keeps.homes n file in
    let k = length so_far in
    let is : take k v.log ≡ so_far = ap (take k) front.1 ∙ take_at so_far front.0 k refl in
    since.each k (omega (arith, ap length new)) image
    (subst (λ (l : Log). CanLeave u.start l image) (sym is) (subst (λ (p : Pages). CanLeave p so_far image) since.file.start left))

pub opened_untold : (u v : Tale) → u.log ≡ [] → Keeps u v → IsUntold v
opened_untold u v new keeps = subst (λ (l : Log). Only is_of_pages l) (sym (keeps.pages.log ∙ ap (λ (l : Log). l ++ keeps.pages.events) new)) keeps.pages.only

-- ---- the ends

pub other_end : (end other : End) → is_run_end end ≡ true → is_run_end other ≡ false → end ≡ other → ⊥
other_end end other one not_ is = let b = ap is_run_end is in cc

pub no_start_end : (end : End) → is_run_end end ≡ true → IsOneOf end (ends.Missing ∷ ends.Taken ∷ ends.NotMap ∷ []) → ⊥
no_start_end end one (inl e) = other_end end ends.Missing one refl e
no_start_end end one (inr (inl e)) = other_end end ends.Taken one refl e
no_start_end end one (inr (inr (inl e))) = other_end end ends.NotMap one refl e
no_start_end end one (inr (inr (inr e))) = e

pub run_end : (end : End) → IsOneOf end run_ends → is_run_end end ≡ true
run_end end (inl e) = ap is_run_end e
run_end end (inr (inl e)) = ap is_run_end e
run_end end (inr (inr (inl e))) = ap is_run_end e
run_end end (inr (inr (inr (inl e)))) = ap is_run_end e
run_end end (inr (inr (inr (inr (inl e))))) = ap is_run_end e
run_end end (inr (inr (inr (inr (inr e))))) = absurd e

-- of a run over an edition no page is damaged
pub not_damaged : (end : End) (page : ℕ) → IsOneOf end run_ends → end ≡ ends.Damaged page → ⊥
not_damaged end page (inl e) is = let f : ◌≡◌ {A = End} ends.Done (ends.Damaged page) = sym e ∙ is in cc
not_damaged end page (inr (inl e)) is = let f : ◌≡◌ {A = End} ends.Refused (ends.Damaged page) = sym e ∙ is in cc
not_damaged end page (inr (inr (inl e))) is = let f : ◌≡◌ {A = End} ends.Device (ends.Damaged page) = sym e ∙ is in cc
not_damaged end page (inr (inr (inr (inl e)))) is = let f : ◌≡◌ {A = End} ends.Memory (ends.Damaged page) = sym e ∙ is in cc
not_damaged end page (inr (inr (inr (inr (inl e))))) is = let f : ◌≡◌ {A = End} ends.TooMuch (ends.Damaged page) = sym e ∙ is in cc
not_damaged end page (inr (inr (inr (inr (inr e))))) is = e

pub given_up : (end : End) (rose : Type 0) → IsOneOf end run_ends → (end ≡ ends.Device → rose) → (rose → ⊥)
    → IsOneOf end (ends.Done ∷ ends.Refused ∷ ends.Memory ∷ ends.TooMuch ∷ [])
given_up end rose (inl e) device calm = inl e
given_up end rose (inr (inl e)) device calm = inr (inl e)
given_up end rose (inr (inr (inl e))) device calm = absurd (calm (device e))
given_up end rose (inr (inr (inr (inl e)))) device calm = inr (inr (inl e))
given_up end rose (inr (inr (inr (inr (inl e))))) device calm = inr (inr (inr (inl e)))
given_up end rose (inr (inr (inr (inr (inr e))))) device calm = absurd e

-- ---- the run

pub run_is : (pages : ℕ) (first : Edition) (text : List ℕ) → run_in (first_state pages first) (items_of first.level text) ≡ run (quota pages) first text
unfolding run
run_is pages first text = refl

publishes_are : (pages : ℕ) (first : Edition) (text : List ℕ)
    → publishes_in (first_state pages first) (items_of first.level text) ≡ publishes (quota pages) first text
unfolding publishes
publishes_are pages first text = refl

told_is : (r : Run) (so_far : Log) → told_by_replies r so_far ≡ told_within r.steps (put_bytes so_far) 0
unfolding editions_told
told_is r so_far = refl

one_at_most : (b : Bool) → cond {A = ℕ} b 1 0 ≤ 1
one_at_most true = omega arith
one_at_most false = omega arith

module _ (pages : ℕ) (first : Edition) (end : End) (v w : Tale) (so : RunsTo first.level (first_state pages first) end v w) (untold : IsUntold v) where
  abbrev r : Run
  r = run (quota pages) first v.input

  whole_of : IsOneOf end (ends.Done ∷ ends.Refused ∷ []) → (flag : Bool) × RunsWhole first.level flag (first_state pages first) v w
  whole_of (inl e) = (true, so.done e)
  whole_of (inr (inl e)) = (false, so.refused e)
  whole_of (inr (inr e)) = absurd e

  module _ (early : (so_far : Log) (image : Pages) → Begins v.log so_far → CanLeave v.start so_far image → Stands image first) where
    fine_at : (so_far : Log) (image : Pages) → IsStop w so_far image → IsFine r (put_bytes so_far) image
    fine_at so_far image stop =
        let gs = items_of first.level v.input in
        let left : CanLeave v.start so_far image = subst (λ (p : Pages). CanLeave p so_far image) so.runs.file.start stop.left in
        elim (front_split v.log so.runs.events so_far (stop.front.0, sym so.runs.log ∙ stop.front.1)) [
          | inl within ↦
              let none = pages_unput so_far (only_front is_of_pages v.log so_far within untold) in
              subst (λ (p : List ℕ). IsFine r p image) (sym none)
              (subst (λ (x : Run). IsFine x [] image) (run_is pages first v.input)
              (fine_last (first_state pages first) gs [] image (told_none (first_state pages first) gs) (early so_far image within left)))
          | inr past ↦
              let put : put_bytes so_far ≡ put_bytes past.0 =
              ap put_bytes past.1 ∙ put_bytes-append v.log past.0 ∙ ap (λ (l : List ℕ). l ++ put_bytes past.0) (pages_unput v.log untold) in
              subst (λ (p : List ℕ). IsFine r p image) (sym put)
              (subst (λ (x : Run). IsFine x (put_bytes past.0) image) (run_is pages first v.input)
              (so.runs.stops past.0 image past.2 (subst (λ (l : Log). CanLeave v.start l image) past.1 left)))
        ]

    runs_text : (rose : Type 0) → IsOneOf end run_ends → (end ≡ ends.Device → rose) → RunsText r (output (replies_of r)) (told_by_replies r) rose end w
    runs_text rose one device = record {
      front = subst (λ (x : Run). Begins (output (replies_of x)) (put_bytes w.log)) (run_is pages first v.input) so.runs.front;
      whole = λ is. (whole_of is).1.whole ∙ ap (λ (x : Run). output (replies_of x)) (run_is pages first v.input);
      last = λ is. subst (λ (x : Run). (k : ℕ) × (k + 1 ≡ length x.editions) × IsEdition x k w.seen) (run_is pages first v.input) (whole_of is).1.last;
      done = λ is. ap all_done (sym (run_is pages first v.input)) ∙ sym (so.done is).done;
      refused = λ is. ap all_done (sym (run_is pages first v.input)) ∙ sym (so.refused is).done;
      crash = λ so_far image stop. let fine =
          fine_at so_far image stop in (fine.place, (let e = told_is r so_far in let f = fine.least in omega arith), fine.edition);
      complete = λ calm. given_up end rose one device calm;
    }

    pub runs_input : (rose : Type 0) → IsOneOf end run_ends → (end ≡ ends.Device → rose) → RunsInput pages first v.input rose end w
    runs_input rose one device = record {
      text = runs_text rose one device;
      prompt = subst (λ (x : Run). AtEachTook (IsPrompt first.level x) w.log) (run_is pages first v.input) so.runs.prompt;
      taken = λ is. (whole_of is).1.taken;
      newest = λ so_far image stop.
          let fine = fine_at so_far image stop in
          let e = told_is r so_far in
          let one = one_at_most (gives_next r (put_bytes so_far)) in
          (fine.place, (let f = fine.most in omega arith), (let f = fine.least in omega arith), fine.edition);
      short = λ fits is. let past = (so.too_much is).past in let all = ap length so.runs.input in let sum =
          length-append (taken_bytes w.log) w.input in omega arith;
      bounded = so.runs.bounded;
      unanswered = λ is. let over = so.too_much is in (over.so_far, over.piece, over.last);
      writes = subst (λ (ps : List Published). All (WritesFew r w.log) ps) (publishes_are pages first v.input)
          (subst (λ (x : Run). All (WritesFew x w.log) (publishes_in (first_state pages first) (items_of first.level v.input)))
          (run_is pages first v.input) so.runs.writes);
    }

    -- a page is written between replies alone
    written_between : (so_far rest : Log) (e : Event) → w.log ≡ so_far ++ e ∷ rest → touches_page e ≡ true → PutsWhole r so_far
    written_between so_far rest e is touches = elim (event_split v.log so.runs.events so_far rest e (sym so.runs.log ∙ is)) [
      | inl within ↦ none_whole r so_far (pages_unput so_far (only_front is_of_pages v.log so_far (e ∷ within.0, within.1) untold))
      | inr past ↦
          let put : put_bytes so_far ≡ put_bytes past.0 =
          ap put_bytes past.1 ∙ put_bytes-append v.log past.0 ∙ ap (λ (l : List ℕ). l ++ put_bytes past.0) (pages_unput v.log untold) in
          as_whole r past.0 so_far put
          (subst (λ (x : Run). PutsWhole x past.0) (run_is pages first v.input) (so.runs.between past.0 rest e past.2 touches))
    ]

    ends_between : IsOneOf end (ends.Done ∷ ends.Refused ∷ ends.Memory ∷ ends.TooMuch ∷ []) → EndsBetween r w
    ends_between is = subst (λ (x : Run). EndsBetween x w) (run_is pages first v.input) (so.between is)

    pub runs_turn : RunsInTurn r end w
    runs_turn = record {
      turn = λ so_far image stop.
          let fine = fine_at so_far image stop in
          let told = told_is r so_far in (
            fine.place,
            subst (λ k. k ≤ fine.place) (sym told) fine.least,
            subst (λ k. fine.place ≤ k + cond (gives_next r (put_bytes so_far)) 1 0) (sym told) fine.most,
            fine.edition,
          );
      between = λ so_far rest e is touches taken. written_between so_far rest e is touches;
      left = λ is image left. subst (λ k. IsEdition r k image) (sym (told_is r w.log)) ((ends_between is).left image left);
      whole = λ is. (ends_between (inr (inr is))).whole;
    }

  past_is : IsOneOf end run_ends → input_limit < length (taken_bytes w.log) → IsOneOf end (ends.TooMuch ∷ ends.Device ∷ ends.Memory ∷ [])
  past_is (inl e) past = absurd (let few = (so.done e).few in omega arith)
  past_is (inr (inl e)) past = absurd (let few = (so.refused e).few in omega arith)
  past_is (inr (inr (inl e))) past = inr (inl e)
  past_is (inr (inr (inr (inl e)))) past = inr (inr (inl e))
  past_is (inr (inr (inr (inr (inl e))))) past = inl e
  past_is (inr (inr (inr (inr (inr e))))) past = absurd e

  pub opens_map : IsMapFile w.start pages → Stands w.start first → IsOneOf end run_ends → OpensSafely end w
  opens_map file stands one = record {
    not_map = record { only = λ is. absurd (other_end end ends.NotMap (run_end end one) refl is); always = λ none. absurd (none pages file) };
    damaged = λ page is. absurd (not_damaged end page one is);
    is_damaged = λ n f none. absurd (none first stands);
    quiet = λ none. absurd (none first stands);
    kept = λ n f none. absurd (none first stands);
    unwritten = λ none. absurd (none pages file);
    too_much = record { only = λ is. (so.too_much is).past; always = past_is one };
  }

-- ---- a run that was not begun

pub quiet_run : (pages : ℕ) (first : Edition) (end : End) (v : Tale) (image : Pages) → Stands image first → IsUntold v → LeavesNow v (λ image. Stands image first) → (end ≡ ends.Done → ⊥)
    → (end ≡ ends.Refused → ⊥) → (end ≡ ends.TooMuch → ⊥)
    → RunsTo first.level (first_state pages first) end v v
quiet_run pages first end v image stands untold leaves not_done not_refused not_much =
    let s = first_state pages first in
    let at : IsReadAt first.level first = (refl, omega (arith, stands.holds.format, stands.holds.header.numbers.format.1)) in
    let reading = reading_first first.level s at 0 v refl untold leaves in record {
      runs = runs_now first.level s at 0 true s 0 [] v v (omega arith) reading;
      done = λ is. absurd (not_done is);
      refused = λ is. absurd (not_refused is);
      too_much = λ is. absurd (not_much is);
      between = λ is. ends_now first.level s at 0 true s 0 [] v v reading leaves;
    }

pub opens_quiet : (end : End) (u v : Tale) → u.log ≡ [] → Keeps u v → ComesExactly end ends.NotMap (IsNoMap v.start)
    → ((page : ℕ) → end ≡ ends.Damaged page → StandsForNothing v.start)
    → ((pages : ℕ) → IsMapFile v.start pages → StandsForNothing v.start → (page : ℕ) × IsDamagePage (home v.start pages) page
    × IsOneOf end (ends.Damaged page ∷ ends.Device ∷ ends.Memory ∷ []))
    → (end ≡ ends.TooMuch → ⊥) → OpensSafely end v
opens_quiet end u v new keeps not_map damaged is_damaged not_much =
    let untold = opened_untold u v new keeps in
    let start = keeps.pages.file.start in
    let none_taken = nothing_taken v.log (pages_untaken v.log untold) in
    record {
      not_map = not_map;
      damaged = damaged;
      is_damaged = is_damaged;
      quiet = λ none. (pages_unput v.log untold, none_taken);
      kept = λ pages file none so_far image stop.
          (home_kept u v pages new keeps (subst (λ (p : Pages). IsMapFile p pages) start file) so_far image stop.front stop.left).same
          ∙ ap (λ (p : Pages). home p pages) (sym start);
      unwritten = λ none. keeps.other (subst IsNoMap start none) ∙ new;
      too_much = record { only = λ is. absurd (not_much is); always = λ past. absurd (let e = ap length none_taken in omega arith) };
    }

pub finds_opened : (path : List ℕ) (door now : Door) (end : End) (t u w : Tale) → now ≡ door → (door ≡ doors.Made → ⊥)
    → (door ≡ doors.Taken → ⊥) → OpensAt path door t u →
    (IsOneOf end (ends.Missing ∷ ends.Taken ∷ ends.NotMap ∷ []) → w.log ≡ []) → FindsFile path now end t w
finds_opened path door now end t u w same not_made not_taken opens quiet = record {
  ready = λ e. opens.ready (sym same ∙ e);
  missing = λ e. opens.missing (sym same ∙ e);
  made = λ e. absurd (not_made (sym same ∙ e));
  taken = λ e. absurd (not_taken (sym same ∙ e));
  nothing_done = quiet;
}

-- ---- ends told apart

-- ends of a run are told apart by their numbers
abbrev pub number : End → ℕ
number ends.Done = 0
number ends.Refused = 1
number ends.TooMuch = 2
number ends.NotMap = 3
number (ends.Damaged page) = 4
number end = 5

pub apart : (a b : End) (n m : ℕ) → number a ≡ n → number b ≡ m → (n ≡ m → ⊥) → a ≡ b → ⊥
apart a b n m x y other is = other (sym x ∙ ap number is ∙ y)

-- ---- a run of the text over a session

stopped_to : (n : ℕ) (s : State) (old w : Tale) (end : End) → RunsFrom n s old w → (end ≡ ends.Done → ⊥) → (end ≡ ends.Refused → ⊥)
    → (end ≡ ends.TooMuch → ⊥)
    → (IsOneOf end (ends.Done ∷ ends.Refused ∷ ends.Memory ∷ ends.TooMuch ∷ []) → EndsBetween (run_in s (items_of n old.input)) w) → RunsTo n s end old w
stopped_to n s old w end runs a b c between =
    record { runs = runs; done = λ e. absurd (a e); refused = λ e. absurd (b e); too_much = λ e. absurd (c e); between = between }

not_between : (end : End) → (end ≡ ends.Done → ⊥) → (end ≡ ends.Refused → ⊥) → (end ≡ ends.Memory → ⊥) → (end ≡ ends.TooMuch → ⊥)
    → IsOneOf end (ends.Done ∷ ends.Refused ∷ ends.Memory ∷ ends.TooMuch ∷ []) → ⊥
not_between end a b c d (inl e) = a e
not_between end a b c d (inr (inl e)) = b e
not_between end a b c d (inr (inr (inl e))) = c e
not_between end a b c d (inr (inr (inr (inl e)))) = d e
not_between end a b c d (inr (inr (inr (inr e)))) = e

module _ (n : ℕ) (s : State) (old w : Tale) (runs : RunsFrom n s old w) where
  runs_at : (outcome : Result Bool Halt) → IfOk outcome (λ d. RunsWhole n d s old w) → IfErr outcome (λ e. e ≡ halts.TooMuch → Overruns w)
      → IfErr outcome (λ e. IsNoFault e → EndsBetween (run_in s (items_of n old.input)) w) → RunsTo n s (end_of outcome) old w
  runs_at (Ok true) whole much between =
      record {
        runs = runs;
        done = λ is. whole;
        refused = λ e. absurd (apart ends.Done ends.Refused 0 1 refl refl (λ f. cc) e);
        too_much = λ e. absurd (apart ends.Done ends.TooMuch 0 2 refl refl (λ f. cc) e);
        between = λ is. whole.ends;
      }
  runs_at (Ok false) whole much between =
      record {
        runs = runs;
        done = λ e. absurd (apart ends.Refused ends.Done 1 0 refl refl (λ f. cc) e);
        refused = λ is. whole;
        too_much = λ e. absurd (apart ends.Refused ends.TooMuch 1 2 refl refl (λ f. cc) e);
        between = λ is. whole.ends;
      }
  runs_at (Err (halts.Stopped stops.Device)) whole much between =
      stopped_to n s old w ends.Device runs (λ e. apart ends.Device ends.Done 5 0 refl refl (λ f. cc) e)
      (λ e. apart ends.Device ends.Refused 5 1 refl refl (λ f. cc) e) (λ e. apart ends.Device ends.TooMuch 5 2 refl refl (λ f. cc) e)
      (λ is. absurd (not_between ends.Device (λ e. cc) (λ e. cc) (λ e. cc) (λ e. cc) is))
  runs_at (Err (halts.Stopped stops.Memory)) whole much between =
      stopped_to n s old w ends.Memory runs (λ e. apart ends.Memory ends.Done 5 0 refl refl (λ f. cc) e)
      (λ e. apart ends.Memory ends.Refused 5 1 refl refl (λ f. cc) e) (λ e. apart ends.Memory ends.TooMuch 5 2 refl refl (λ f. cc) e)
      (λ is. between (inr refl))
  runs_at (Err (halts.Stopped (stops.Damaged page))) whole much between =
      stopped_to n s old w (ends.Damaged page) runs (λ e. apart (ends.Damaged page) ends.Done 4 0 refl refl (λ f. cc) e)
      (λ e. apart (ends.Damaged page) ends.Refused 4 1 refl refl (λ f. cc) e)
      (λ e. apart (ends.Damaged page) ends.TooMuch 4 2 refl refl (λ f. cc) e)
      (λ is. absurd (not_between (ends.Damaged page) (λ e. cc) (λ e. cc) (λ e. cc) (λ e. cc) is))
  runs_at (Err halts.TooMuch) whole much between =
      record {
        runs = runs;
        done = λ e. absurd (apart ends.TooMuch ends.Done 2 0 refl refl (λ f. cc) e);
        refused = λ e. absurd (apart ends.TooMuch ends.Refused 2 1 refl refl (λ f. cc) e);
        too_much = λ is. much refl;
        between = λ is. between (inl refl);
      }

pub runs_goes : (n : ℕ) (s : State) (outcome : Result Bool Halt) (o m : Option Tale) → Goes (RunsFrom n s) o m →
    IfOk outcome (λ d. Goes (RunsWhole n d s) o m) → IfErr outcome (λ e. e ≡ halts.TooMuch → Goes (λ old new. Overruns new) o m)
    → IfErr outcome (λ e. IsNoFault e → Goes (λ old new. EndsBetween (run_in s (items_of n old.input)) new) o m)
    → Goes (RunsTo n s (end_of outcome)) o m
runs_goes n s outcome None None runs whole much between = tt
runs_goes n s outcome None (Some w) runs whole much between = runs
runs_goes n s outcome (Some t) None runs whole much between = runs
runs_goes n s outcome (Some t) (Some w) runs whole much between = runs_at n s t w runs outcome whole much between

pub is_end : (outcome : Result Bool Halt) → is_run_end (end_of outcome) ≡ true
is_end (Ok true) = refl
is_end (Ok false) = refl
is_end (Err (halts.Stopped stops.Device)) = refl
is_end (Err (halts.Stopped stops.Memory)) = refl
is_end (Err (halts.Stopped (stops.Damaged page))) = refl
is_end (Err halts.TooMuch) = refl

-- where the session stands for a state
module _ {A : Type 0} (At : A → Type 0) (s : A) (at : At s) where
  pub err_first : (outcome : Result Bool Halt) (Q : Halt → Type 0) (P : A → Type 0) → IfErr outcome (λ e. Q e → (t : A) → At t → P t)
      → IfErr outcome (λ e. Q e → P s)
  err_first (Ok d) Q P all = tt
  err_first (Err e) Q P all = λ is. all is s at

  pub end_of_run : (outcome : Result Bool Halt) → IfErr outcome (λ e. (page : ℕ) → e ≡ halts.Stopped (stops.Damaged page) → (t : A) → At t → ⊥)
      → IsOneOf (end_of outcome) run_ends
  end_of_run (Ok true) sound = inl refl
  end_of_run (Ok false) sound = inr (inl refl)
  end_of_run (Err (halts.Stopped stops.Device)) sound = inr (inr (inl refl))
  end_of_run (Err (halts.Stopped stops.Memory)) sound = inr (inr (inr (inl refl)))
  end_of_run (Err (halts.Stopped (stops.Damaged page))) sound = absurd (sound page refl s at)
  end_of_run (Err halts.TooMuch) sound = inr (inr (inr (inr (inl refl))))
