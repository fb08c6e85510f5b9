-- What a trial promises, by what opening and its commands did.
use Rattle.std.proofs.Common.{◌≡◌, inl, inr, ℕ, Bool, true, false, List, [], ◌∷◌, ◌++◌, length, Option, Some, None, Result, Ok, Err, IfOk}
use Rattle.std.proofs.Common.{IfErr, refl, sym, ◌∙◌, ap, subst, arith, append-nil, append_assoc}
use Rattle.std.specs.Option.{IfSome}
use Rattle.quilt_types.specs.Layers.{Edition}
use Rattle.quilt_types.specs.declared.stop.Stop.TheVariants as stops
use Rattle.quilt_world.specs.Added.{AddsOnly, is_of_pages, is_of_text}
use Rattle.quilt_world.specs.Disk.{Pages, Log, CanLeave}
use Rattle.quilt_world.specs.Home.{IsMapFile}
use Rattle.quilt_world.specs.Stops.{LeavesNow}
use Rattle.quilt_world.specs.Tale.{Tale, Goes, put_bytes, taken_bytes, Begins}
use Rattle.quilt_world.proofs.AddedLaws.{adds_only_none}
use Rattle.quilt_world.proofs.TextLaws.{text_leaves}
use Rattle.quilt_world.proofs.Told.{goes_weaker}
use Rattle.quilt_edition.specs.Stands.{Stands}
use Rattle.quilt_words.specs.Items.{items_of}
use Rattle.quilt_lang.specs.Trials.{trial_text}
use Rattle.quilt_replies.specs.Answers.{State}
use Rattle.quilt_replies.specs.Runs.{Run}
use Rattle.quilt_map.specs.Sessions.{first_state}
use Rattle.quilt_top.specs.declared.halt.Halt.{Halt}
use Rattle.quilt_top.specs.declared.halt.Halt.TheVariants as halts
use Rattle.quilt_top.specs.declared.run.End.{End}
use Rattle.quilt_top.specs.declared.trial_run.Tally.{Tally}
use Rattle.quilt_top.specs.declared.run.End.TheVariants as ends
use Rattle.quilt_top.specs.Headline.{IsOneOf, IsStop, all_done, RunsText, summary, RunsTrial, OpensSafely}
use Rattle.quilt_top.specs.Openings.{run_ends, is_run_end, end_of}
use Rattle.quilt_top.specs.Saying.{Says, SaysPrefix}
use Rattle.quilt_top.specs.TextRun.{IsUntold, run_in}
use Rattle.quilt_top.specs.Trying.{StandsForOne, StandsForLast, TriesCommands, Tried, trial_run, Concludes, TriesPrefix, TriesWhole, TriesTo}
use Rattle.quilt_top.proofs.logs.Events.{put_bytes-append, taken_bytes-append, nothing_taken, pages_untaken, pages_unput}
use Rattle.quilt_top.proofs.turns.Fine.{moved}
use Rattle.quilt_top.proofs.logs.Prefixes.{front_split, only_front, same_events, stops_at}
use Rattle.quilt_top.proofs.Running.{apart, given_up, not_damaged, other_end, run_is}
use Rattle.quilt_top.proofs.logs.Said.{says_nothing}
use Rattle.quilt_top.proofs.turns.Trials.{tries_none, one_first}

-- ---- what is put

concludes_none : (r : Run) (t u : Tale) → TriesCommands r t u → Concludes r [] t u
concludes_none r t u tries = record { middle = u; tries = tries; left = λ some. absurd (some refl); says = says_nothing u; text = adds_only_none is_of_text u }

-- nothing of the summary is put
front_none : (n : ℕ) (r : Run) (t u : Tale) → TriesCommands r t u → TriesPrefix n r t u
front_none n r t u tries = record { said = []; front = (summary n r, refl); concludes = concludes_none r t u tries }

-- where pages alone were written
pub tries_pages : (r : Run) (o m : Option Tale) → Goes (TriesCommands r) o m → Goes (AddsOnly is_of_pages) o m
tries_pages r o m tries = goes_weaker (TriesCommands r) (AddsOnly is_of_pages) o m tries (λ t u so. so.pages)

pub goes_none : (n : ℕ) (r : Run) (o m : Option Tale) → Goes (TriesCommands r) o m → Goes (TriesPrefix n r) o m
goes_none n r o m tries = goes_weaker _ _ o m tries (λ t u so. front_none n r t u so)

pub goes_part : (n : ℕ) (r : Run) (all : List ℕ) (o m k : Option Tale) → all ≡ summary n r → Goes (TriesCommands r) o m
    → IfSome m (λ t. LeavesNow t (StandsForLast r)) → Goes (SaysPrefix all) m k → Goes (AddsOnly is_of_text) m k
    → Goes (TriesPrefix n r) o k
goes_part n r all None None None is tries leaves says text = tt
goes_part n r all None None (Some v) is tries leaves says text = says
goes_part n r all None (Some u) k is tries leaves says text = absurd tries
goes_part n r all (Some t) None k is tries leaves says text = absurd tries
goes_part n r all (Some t) (Some u) None is tries leaves says text = says
goes_part n r all (Some t) (Some u) (Some v) is tries leaves says text = record {
  said = says.said;
  front = (says.front.0, sym is ∙ says.front.1);
  concludes = record { middle = u; tries = tries; left = λ some. leaves; says = says.says; text = text };
}

pub goes_whole : (n : ℕ) (r : Run) (flag : Bool) (all : List ℕ) (o m k : Option Tale) → all ≡ summary n r → flag ≡ all_done r → Goes (TriesCommands r) o m
    → IfSome m (λ t. LeavesNow t (StandsForLast r)) → Goes (Says all) m k
    → Goes (AddsOnly is_of_text) m k → IfSome k (λ t. StandsForLast r t.seen) → Goes (TriesWhole n r flag) o k
goes_whole n r flag all None None None is done tries leaves says text last = tt
goes_whole n r flag all None None (Some v) is done tries leaves says text last = says
goes_whole n r flag all None (Some u) k is done tries leaves says text last = absurd tries
goes_whole n r flag all (Some t) None k is done tries leaves says text last = absurd tries
goes_whole n r flag all (Some t) (Some u) None is done tries leaves says text last = says
goes_whole n r flag all (Some t) (Some u) (Some v) is done tries leaves says text last = record {
  concludes = record { middle = u; tries = tries; left = λ some. leaves; says = subst (λ (l : List ℕ). Says l u v) is says; text = text };
  last = last;
  done = done;
}

whole_front : (n : ℕ) (r : Run) (flag : Bool) (t u : Tale) → TriesWhole n r flag t u → TriesPrefix n r t u
whole_front n r flag t u whole = record { said = summary n r; front = ([], sym (append-nil (summary n r))); concludes = whole.concludes }

pub goes_front : (n : ℕ) (r : Run) (flag : Bool) (o m : Option Tale) → Goes (TriesWhole n r flag) o m → Goes (TriesPrefix n r) o m
goes_front n r flag o m whole = goes_weaker _ _ o m whole (λ t u so. whole_front n r flag t u so)

-- ---- the text of the trial, by the items that its commands were read from

module _ (n k seed count : ℕ) (text : List ℕ) (level : k ≡ n) (is : text ≡ trial_text seed count n) where
  -- what holds of the level and the text
  same_text : (P : ℕ → List ℕ → Type 0) → P k text → P n (trial_text seed count n)
  same_text P p = subst (λ (l : List ℕ). P n l) is (subst (λ j. P j text) level p)

  pub tries_as : (s : State) (o m : Option Tale) → Goes (TriesCommands (run_in s (items_of k text))) o m → Goes (TriesCommands (trial_run n s seed count)) o m
  tries_as s o m tries = same_text (λ j l. Goes (TriesCommands (run_in s (items_of j l))) o m) tries

  pub tried_as : (s now : State) (tally : Tally) → Tried k text [] s now tally → Tried n (trial_text seed count n) [] s now tally
  tried_as s now tally tried = same_text (λ j l. Tried j l [] s now tally) tried

  pub counted_as : (m : ℕ) → m ≡ length (items_of k text) → m ≡ length (items_of n (trial_text seed count n))
  counted_as m counted = same_text (λ j l. m ≡ length (items_of j l)) counted

-- ---- over a session

stopped_to : (n : ℕ) (r : Run) (old w : Tale) (end : End) → TriesPrefix n r old w → (end ≡ ends.Done → ⊥) → (end ≡ ends.Refused → ⊥)
    → (end ≡ ends.Memory → AddsOnly is_of_pages old w) → TriesTo n r end old w
stopped_to n r old w end front a b unsaid = record { front = front; done = λ e. absurd (a e); refused = λ e. absurd (b e); unsaid = unsaid }

module _ (n : ℕ) (r : Run) (old w : Tale) (front : TriesPrefix n r old w) where
  tries_at : (outcome : Result Bool Halt) → IfOk outcome (λ d. TriesWhole n r d old w)
      → IfErr outcome (λ e. e ≡ halts.Stopped stops.Memory → AddsOnly is_of_pages old w) → TriesTo n r (end_of outcome) old w
  tries_at (Ok true) whole unsaid = record {
    front = front;
    done = λ is. whole;
    refused = λ e. absurd (apart ends.Done ends.Refused 0 1 refl refl (λ f. cc) e);
    unsaid = λ e. absurd (apart ends.Done ends.Memory 0 5 refl refl (λ f. cc) e);
  }
  tries_at (Ok false) whole unsaid = record {
    front = front;
    done = λ e. absurd (apart ends.Refused ends.Done 1 0 refl refl (λ f. cc) e);
    refused = λ is. whole;
    unsaid = λ e. absurd (apart ends.Refused ends.Memory 1 5 refl refl (λ f. cc) e);
  }
  tries_at (Err (halts.Stopped stops.Device)) whole unsaid =
      stopped_to n r old w ends.Device front (λ e. apart ends.Device ends.Done 5 0 refl refl (λ f. cc) e)
      (λ e. apart ends.Device ends.Refused 5 1 refl refl (λ f. cc) e) (λ e. absurd (cc))
  tries_at (Err (halts.Stopped stops.Memory)) whole unsaid =
      stopped_to n r old w ends.Memory front (λ e. apart ends.Memory ends.Done 5 0 refl refl (λ f. cc) e)
      (λ e. apart ends.Memory ends.Refused 5 1 refl refl (λ f. cc) e) (λ e. unsaid refl)
  tries_at (Err (halts.Stopped (stops.Damaged page))) whole unsaid =
      stopped_to n r old w (ends.Damaged page) front (λ e. apart (ends.Damaged page) ends.Done 4 0 refl refl (λ f. cc) e)
      (λ e. apart (ends.Damaged page) ends.Refused 4 1 refl refl (λ f. cc) e) (λ e. absurd (cc))
  tries_at (Err halts.TooMuch) whole unsaid =
      stopped_to n r old w ends.TooMuch front (λ e. apart ends.TooMuch ends.Done 2 0 refl refl (λ f. cc) e)
      (λ e. apart ends.TooMuch ends.Refused 2 1 refl refl (λ f. cc) e) (λ e. absurd (cc))

pub tries_goes : (n : ℕ) (r : Run) (outcome : Result Bool Halt) (o m : Option Tale) → Goes (TriesPrefix n r) o m
    → IfOk outcome (λ d. Goes (TriesWhole n r d) o m) → IfErr outcome (λ e. e ≡ halts.Stopped stops.Memory → Goes (AddsOnly is_of_pages) o m)
    → Goes (TriesTo n r (end_of outcome)) o m
tries_goes n r outcome None None front whole unsaid = tt
tries_goes n r outcome None (Some w) front whole unsaid = front
tries_goes n r outcome (Some t) None front whole unsaid = front
tries_goes n r outcome (Some t) (Some w) front whole unsaid = tries_at n r t w front outcome whole unsaid

pub not_much : (outcome : Result Bool Halt) → IfErr outcome (λ e. e ≡ halts.TooMuch → ⊥) → end_of outcome ≡ ends.TooMuch → ⊥
not_much (Ok true) short is = apart ends.Done ends.TooMuch 0 2 refl refl (λ f. cc) is
not_much (Ok false) short is = apart ends.Refused ends.TooMuch 1 2 refl refl (λ f. cc) is
not_much (Err (halts.Stopped stops.Device)) short is = apart ends.Device ends.TooMuch 5 2 refl refl (λ f. cc) is
not_much (Err (halts.Stopped stops.Memory)) short is = apart ends.Memory ends.TooMuch 5 2 refl refl (λ f. cc) is
not_much (Err (halts.Stopped (stops.Damaged page))) short is = apart (ends.Damaged page) ends.TooMuch 4 2 refl refl (λ f. cc) is
not_much (Err halts.TooMuch) short is = short refl

-- ---- what a stop leaves

summary_some : (n : ℕ) (r : Run) → summary n r ≡ [] → ⊥
summary_some n r is = let size = ap length is in omega arith

-- an image left where these bytes were put
pub record IsLeft (n : ℕ) (r : Run) (put : List ℕ) (image : Pages) : Type 0 where
  pub one : StandsForOne r image
  pub last : put ≡ summary n r → StandsForLast r image

left_before : (n : ℕ) (r : Run) (image : Pages) (put : List ℕ) → put ≡ [] → StandsForOne r image → IsLeft n r put image
left_before n r image put none one = record { one = one; last = λ is. absurd (summary_some n r (sym is ∙ none)) }

no_front : (a b : List ℕ) → a ++ b ≡ [] → a ≡ []
no_front [] b e = refl
no_front (x ∷ a) b e = absurd (cc)

module _ (n : ℕ) (r : Run) (v w : Tale) (untold : IsUntold v) (said : List ℕ) (so : Concludes r said v w) where
  at_front : (front rest : Log) (image : Pages) → so.tries.pages.events ≡ front ++ rest → CanLeave v.start (v.log ++ front) image → StandsForOne r image
  at_front front rest image is left =
      stops_at (StandsForOne r) v so.middle front rest so.tries.stops (so.tries.pages.log ∙ ap (λ (l : Log). v.log ++ l) is) image left

  -- while the summary is put
  putting : (front rest : Log) (image : Pages) → so.text.events ≡ front ++ rest → CanLeave so.middle.start (so.middle.log ++ front) image
      → IsLeft n r (put_bytes front) image
  putting front rest image is left =
      let only = only_front is_of_text so.text.events front (rest, is) so.text.only in
      let here = text_leaves so.middle.start so.middle.log front image only left in
      let one : StandsForOne r image =
      at_front so.tries.pages.events [] image (sym (append-nil so.tries.pages.events))
      (subst (λ (p : Pages). CanLeave p (v.log ++ so.tries.pages.events) image) so.tries.pages.file.start
      (subst (λ (l : Log). CanLeave so.middle.start l image) so.tries.pages.log here)) in
      let puts : said ≡ put_bytes front ++ put_bytes rest =
      sym so.says.put ∙ ap put_bytes (same_events so.middle w so.says.events so.text.events so.says.log so.text.log ∙ is) ∙ put_bytes-append front rest in
      record {
        one = one;
        last = λ whole. so.left (λ none. summary_some n r (sym whole ∙ no_front (put_bytes front) (put_bytes rest) (sym puts ∙ none))) image here;
      }

  pub left_at : ((so_far : Log) (image : Pages) → Begins v.log so_far → CanLeave v.start so_far image → StandsForOne r image)
      → (so_far : Log) (image : Pages) → IsStop w so_far image → IsLeft n r (put_bytes so_far) image
  left_at early so_far image stop =
      let start : w.start ≡ v.start = so.text.file.start ∙ so.tries.pages.file.start in
      let left : CanLeave v.start so_far image = subst (λ (p : Pages). CanLeave p so_far image) start stop.left in
      let pages_ = so.tries.pages.events in
      let log : w.log ≡ v.log ++ (pages_ ++ so.text.events) =
      so.text.log ∙ ap (λ (l : Log). l ++ so.text.events) so.tries.pages.log ∙ append_assoc v.log pages_ so.text.events in
      elim (front_split v.log (pages_ ++ so.text.events) so_far (stop.front.0, sym log ∙ stop.front.1)) [
        | inl within ↦
            left_before n r image (put_bytes so_far) (pages_unput so_far (only_front is_of_pages v.log so_far within untold)) (early so_far image within left)
        | inr past ↦
            let can = subst (λ (l : Log). CanLeave v.start l image) past.1 left in
            let put : put_bytes so_far ≡ put_bytes past.0 =
            ap put_bytes past.1 ∙ put_bytes-append v.log past.0 ∙ ap (λ (l : List ℕ). l ++ put_bytes past.0) (pages_unput v.log untold) in
            elim (front_split pages_ so.text.events past.0 past.2) [
              | inl within ↦
                  left_before n r image (put_bytes so_far)
                  (put ∙ pages_unput past.0 (only_front is_of_pages pages_ past.0 within so.tries.pages.only)) (at_front past.0 within.0 image within.1 can)
              | inr further ↦
                  let same : put_bytes so_far ≡ put_bytes further.0 =
                  put ∙ ap put_bytes further.1 ∙ put_bytes-append pages_ further.0
                  ∙ ap (λ (l : List ℕ). l ++ put_bytes further.0) (pages_unput pages_ so.tries.pages.only) in
                  let there = moved v so.middle pages_ further.0 image so.tries.pages.file.start so.tries.pages.log
                  (subst (λ (l : Log). CanLeave v.start (v.log ++ l) image) further.1 can) in
                  subst (λ (p : List ℕ). IsLeft n r p image) (sym same) (putting further.0 further.2.0 image further.2.1 there)
            ]
      ]

  -- what is put, and what is taken
  pub put_is : put_bytes w.log ≡ said
  put_is =
      ap put_bytes (so.says.log ∙ ap (λ (l : Log). l ++ so.says.events) so.tries.pages.log)
      ∙ put_bytes-append (v.log ++ so.tries.pages.events) so.says.events
      ∙ ap (λ (l : List ℕ). l ++ put_bytes so.says.events) (put_bytes-append v.log so.tries.pages.events)
      ∙ ap (λ (l : List ℕ). (l ++ put_bytes so.tries.pages.events) ++ put_bytes so.says.events) (pages_unput v.log untold)
      ∙ ap (λ (l : List ℕ). l ++ put_bytes so.says.events) (pages_unput so.tries.pages.events so.tries.pages.only) ∙ so.says.put

  pub taken_is : taken_bytes w.log ≡ []
  taken_is =
      ap taken_bytes (so.says.log ∙ ap (λ (l : Log). l ++ so.says.events) so.tries.pages.log)
      ∙ taken_bytes-append (v.log ++ so.tries.pages.events) so.says.events
      ∙ ap (λ (l : List ℕ). l ++ taken_bytes so.says.events) (taken_bytes-append v.log so.tries.pages.events)
      ∙ ap (λ (l : List ℕ). (l ++ taken_bytes so.tries.pages.events) ++ taken_bytes so.says.events) (nothing_taken v.log (pages_untaken v.log untold))
      ∙ ap (λ (l : List ℕ). l ++ taken_bytes so.says.events)
      (nothing_taken so.tries.pages.events (pages_untaken so.tries.pages.events so.tries.pages.only)) ∙ nothing_taken so.says.events so.says.untaken

  pub input_is : w.input ≡ v.input
  input_is = so.says.input ∙ so.tries.stops.input

-- ---- the trial

module _ (pages : ℕ) (first : Edition) (seed count : ℕ) (end : End) (v w : Tale) (untold : IsUntold v)
    (so : TriesTo first.level (trial_run first.level (first_state pages first) seed count) end v w) where
  abbrev n : ℕ
  n = first.level

  abbrev r : Run
  r = trial_run n (first_state pages first) seed count

  module _ (early : (so_far : Log) (image : Pages) → Begins v.log so_far → CanLeave v.start so_far image → Stands image first) where
    early_one : (so_far : Log) (image : Pages) → Begins v.log so_far → CanLeave v.start so_far image → StandsForOne r image
    early_one so_far image front left = one_first (first_state pages first) (items_of n (trial_text seed count n)) image (early so_far image front left)

    at_stop : (so_far : Log) (image : Pages) → IsStop w so_far image → IsLeft n r (put_bytes so_far) image
    at_stop = left_at n r v w untold so.front.said so.front.concludes early_one

    whole_of : IsOneOf end (ends.Done ∷ ends.Refused ∷ []) → (flag : Bool) × TriesWhole n r flag v w
    whole_of (inl e) = (true, so.done e)
    whole_of (inr (inl e)) = (false, so.refused e)
    whole_of (inr (inr e)) = absurd e

    trial_text_runs : (rose : Type 0) → IsOneOf end run_ends → (end ≡ ends.Device → rose) → RunsText r (summary n r) (λ so_far. 0) rose end w
    trial_text_runs rose one device = record {
      front = subst (λ (p : List ℕ). Begins (summary n r) p) (sym (put_is n r v w untold so.front.said so.front.concludes)) so.front.front;
      whole = λ is. put_is n r v w untold (summary n r) (whole_of is).1.concludes;
      last = λ is. (whole_of is).1.last;
      done = λ is. sym (so.done is).done;
      refused = λ is. sym (so.refused is).done;
      crash = λ so_far image stop. let here = at_stop so_far image stop in (here.one.0, (omega arith), here.one.1);
      complete = λ calm. given_up end rose one device calm;
    }

    pub runs_trial : (rose : Type 0) (before : Tale) → v.input ≡ before.input → IsOneOf end run_ends → (end ≡ ends.Device → rose)
        → RunsTrial pages first seed count rose end before w
    runs_trial rose before input one device =
        let is = run_is pages first (trial_text seed count n) in record {
          text = subst (λ (x : Run). RunsText x (summary n x) (λ so_far. 0) rose end w) is (trial_text_runs rose one device);
          told = subst (λ (x : Run). (so_far : Log) (image : Pages) → IsStop w so_far image → put_bytes so_far ≡ summary n x → StandsForLast x image)
              is (λ so_far image stop whole. (at_stop so_far image stop).last whole);
          untouched = (input_is n r v w untold so.front.said so.front.concludes ∙ input, taken_is n r v w untold so.front.said so.front.concludes);
        }

    pub opens_tried : IsMapFile w.start pages → Stands w.start first → is_run_end end ≡ true → IsOneOf end run_ends
        → (end ≡ ends.TooMuch → ⊥) → OpensSafely end w
    opens_tried file stands is one short = record {
      not_map = record { only = λ x. absurd (other_end end ends.NotMap is refl x); always = λ none. absurd (none pages file) };
      damaged = λ page x. absurd (not_damaged end page one x);
      is_damaged = λ k f none. absurd (none first stands);
      quiet = λ none. absurd (none first stands);
      kept = λ k f none. absurd (none first stands);
      unwritten = λ none. absurd (none pages file);
      too_much =
          record {
            only = λ x. absurd (short x);
            always = λ past. absurd (let none = ap length (taken_is n r v w untold so.front.said so.front.concludes) in omega arith);
          };
    }

-- a trial that was not begun
pub quiet_try : (pages : ℕ) (first : Edition) (seed count : ℕ) (end : End) (v : Tale) → LeavesNow v (λ image. Stands image first)
    → (end ≡ ends.Done → ⊥) → (end ≡ ends.Refused → ⊥)
    → TriesTo first.level (trial_run first.level (first_state pages first) seed count) end v v
quiet_try pages first seed count end v leaves not_done not_refused =
    let s = first_state pages first in
    let r = trial_run first.level s seed count in
    stopped_to first.level r v v end
    (front_none first.level r v v
    (tries_none r v (λ image left. one_first s (items_of first.level (trial_text seed count first.level)) image (leaves image left)))) not_done not_refused
    (λ e. adds_only_none is_of_pages v)
