-- What a stop leaves in a run of items: one edition of the run, the last that was told or the one behind it.
use Rattle.std.proofs.Common.{◌≡◌, ◌⊎◌, inl, inr, ℕ, List, [], ◌∷◌, ◌++◌, Option, Some, None, refl, sym, ◌∙◌, ap, subst, append_assoc, append-nil}
use Rattle.quilt_types.specs.Layers.{Edition}
use Rattle.quilt_world.specs.Added.{AddsOnly, is_of_pages, is_of_text}
use Rattle.quilt_world.specs.Disk.{Pages, Log, CanLeave}
use Rattle.quilt_world.specs.Stops.{LeavesNow}
use Rattle.quilt_world.specs.Tale.{Tale, IsSameFile, Begins, put_bytes}
use Rattle.quilt_world.proofs.TextLaws.{text_leaves, leaves_text}
use Rattle.quilt_world.proofs.StopLaws.{same_file}
use Rattle.quilt_edition.specs.Stands.{Stands}
use Rattle.quilt_words.specs.Items.{Group}
use Rattle.quilt_replies.specs.Answers.{State}
use Rattle.quilt_replies.specs.Runs.{Run, text_of}
use Rattle.quilt_map.specs.Steps.{StandsForNew}
use Rattle.quilt_top.specs.Answering.{StandsForItem, Answers, Step, Steps, PartStep, changes_then, changes_all}
use Rattle.quilt_top.specs.Replies.{held_at, outcome, reply_to, state_then, state_after}
use Rattle.quilt_top.specs.Saying.{is_took}
use Rattle.quilt_top.specs.TextRun.{run_in, IsFine, AreFine}
use Rattle.quilt_top.proofs.logs.Events.{put_bytes-append, pages_unput}
use Rattle.quilt_top.proofs.logs.Prefixes.{front_split, only_front, took_text_only, took_unput, same_events, events_then, stops_at}
use Rattle.quilt_top.proofs.turns.Places.{text_some, none_or_some, told_none, told_short, next_none, next_short, fine_last, fine_new, fine_then, fine_behind}

-- a tale goes on from another
pub record Grows (t u : Tale) : Type 0 where
  pub events : Log
  pub log : u.log ≡ t.log ++ events
  pub file : IsSameFile t u

pub grows_by : (sort : _) (t u : Tale) → AddsOnly sort t u → Grows t u
grows_by sort t u adds = record { events = adds.events; log = adds.log; file = adds.file }

pub grows_then : (t u v : Tale) → Grows t u → Grows u v → Grows t v
grows_then t u v a b = record {
  events = a.events ++ b.events;
  log = b.log ∙ ap (λ (l : Log). l ++ b.events) a.log ∙ append_assoc t.log a.events b.events;
  file = same_file t u v a.file b.file;
}

pub answer_grows : (s : State) (i : _) (c : ℕ) (said : List ℕ) (t u : Tale) → Answers s i c said t u → Grows t u
answer_grows s i c said t u a = grows_then t a.middle u (grows_by is_of_pages t a.middle a.applies.pages) (grows_by is_of_text a.middle u a.text)

pub step_grows : (s : State) (i : _) (c : ℕ) (t u : Tale) → Step s i c t u → Grows t u
step_grows s i c t u a = grows_then t a.first u (grows_by is_took t a.first a.takes) (answer_grows s i c (text_of (reply_to s i)) a.first u a.answers)

pub steps_grow : (gs : List Group) (s : State) (c : ℕ) (t u : Tale) → Steps s c gs t u → Grows t u
steps_grow [] s c t u steps = grows_by is_took t u steps
steps_grow (g ∷ gs) s c t u steps =
    grows_then t steps.0 u (step_grows s (held_at s g) c t steps.0 steps.1)
    (steps_grow gs (state_then s (held_at s g)) (changes_then s (held_at s g) c) steps.0 u steps.2)

pub part_grows : (next : List Group) (s : State) (c : ℕ) (t u : Tale) → PartStep s c next t u → Grows t u
part_grows [] s c t u part = record { events = []; log = part.log; file = part.file }
part_grows (g ∷ gs) s c t u part = answer_grows s (held_at s g) c part.said t u part.answers

-- an image left at a log that goes on
pub moved : (t u : Tale) (events more : Log) (image : Pages) → u.start ≡ t.start → u.log ≡ t.log ++ events
    → CanLeave t.start (t.log ++ (events ++ more)) image → CanLeave u.start (u.log ++ more) image
moved t u events more image start log left =
    subst (λ (p : Pages). CanLeave p (u.log ++ more) image) (sym start)
    (subst (λ (l : Log). CanLeave t.start l image) (sym (ap (λ (l : Log). l ++ more) log ∙ append_assoc t.log events more)) left)

-- ---- where input is taken

pub took_then : (r : Run) (t u : Tale) (takes : AddsOnly is_took t u) (rest : Log) → ((image : Pages) → CanLeave t.start t.log image → IsFine r [] image)
    → AreFine r u.start u.log rest → AreFine r t.start t.log (takes.events ++ rest)
took_then r t u takes rest here later = λ so_far image front left. elim (front_split takes.events rest so_far front) [
  | inl within ↦
      let only = only_front is_took takes.events so_far within takes.only in
      subst (λ (p : List ℕ). IsFine r p image) (sym (took_unput so_far only))
      (here image (text_leaves t.start t.log so_far image (took_text_only so_far only) left))
  | inr past ↦
      let can = moved t u takes.events past.0 image takes.file.start takes.log (subst (λ (l : Log). CanLeave t.start (t.log ++ l) image) past.1 left) in
      let put : put_bytes so_far ≡ put_bytes past.0 =
      ap put_bytes past.1 ∙ put_bytes-append takes.events past.0 ∙ ap (λ (l : List ℕ). l ++ put_bytes past.0) (took_unput takes.events takes.only) in
      subst (λ (p : List ℕ). IsFine r p image) (sym put) (later past.0 image past.2 can)
]

-- ---- where an item is answered

module _ (s : State) (g : Group) (gs : List Group) where
  -- before its reply
  pub fine_either : (o : Option Edition) → (outcome s (held_at s g)).published ≡ o → (image : Pages) → Stands image s.last ⊎ StandsForNew o image
      → IsFine (run_in s (g ∷ gs)) [] image
  fine_either o is image (inl stands) = fine_last s (g ∷ gs) [] image (told_none s (g ∷ gs)) stands
  fine_either None is image (inr stands) = absurd stands
  fine_either (Some e) is image (inr stands) = fine_new s g gs [] image e (told_none s (g ∷ gs)) (next_none s g gs) is stands

  -- with a part of it put, or all of it
  fine_part : (p rest : List ℕ) (image : Pages) → text_of (reply_to s (held_at s g)) ≡ p ++ rest → Stands image (state_then s (held_at s g)).last
      → IsFine (run_in s (g ∷ gs)) p image
  fine_part p [] image text stands =
      subst (λ (l : List ℕ). IsFine (run_in s (g ∷ gs)) l image) (append-nil (text_of (reply_to s (held_at s g))) ∙ text ∙ append-nil p)
      (fine_behind s g gs [] image (fine_last (state_then s (held_at s g)) gs [] image (told_none (state_then s (held_at s g)) gs) stands))
  fine_part p (c ∷ cs) image text stands = fine_then s g gs p image (told_short s g gs p c cs text) (next_short s g gs p c cs text) stands

  module _ (c : ℕ) (said : List ℕ) (t v : Tale) (a : Answers s (held_at s g) c said t v) (front : Begins (text_of (reply_to s (held_at s g))) said) where
    -- while its command is applied
    fine_applying : (so rest : Log) (image : Pages) → a.applies.pages.events ≡ so ++ rest → CanLeave t.start (t.log ++ so) image
        → IsFine (run_in s (g ∷ gs)) [] image
    fine_applying so rest image is left =
        fine_either (outcome s (held_at s g)).published refl image
        (stops_at (StandsForItem s (held_at s g)) t a.middle so rest a.applies.stops (a.applies.pages.log ∙ ap (λ (l : Log). t.log ++ l) is) image left)

    -- while its reply is put
    fine_putting : (so rest : Log) (image : Pages) → a.text.events ≡ so ++ rest → CanLeave a.middle.start (a.middle.log ++ so) image → (p : List ℕ)
        → put_bytes so ≡ p → IsFine (run_in s (g ∷ gs)) p image
    fine_putting so rest image is left [] none =
        let only = only_front is_of_text a.text.events so (rest, is) a.text.only in
        let here = text_leaves a.middle.start a.middle.log so image only left in
        fine_applying a.applies.pages.events [] image (sym (append-nil a.applies.pages.events))
        (subst (λ (p : Pages). CanLeave p (t.log ++ a.applies.pages.events) image) a.applies.pages.file.start
        (subst (λ (l : Log). CanLeave a.middle.start l image) a.applies.pages.log here))
    fine_putting so rest image is left (x ∷ xs) some =
        let only = only_front is_of_text a.text.events so (rest, is) a.text.only in
        let here = text_leaves a.middle.start a.middle.log so image only left in
        let puts : said ≡ (x ∷ xs) ++ put_bytes rest =
        sym a.says.put ∙ ap put_bytes (same_events a.middle v a.says.events a.text.events a.says.log a.text.log ∙ is) ∙ put_bytes-append so rest
        ∙ ap (λ (l : List ℕ). l ++ put_bytes rest) some in
        let stands = a.left (λ none. let e : ◌≡◌ {A = List ℕ} [] (x ∷ (xs ++ put_bytes rest)) = sym none ∙ puts in cc) image here in
        fine_part (x ∷ xs) (put_bytes rest ++ front.0) image
        (front.1 ∙ ap (λ (l : List ℕ). l ++ front.0) puts ∙ append_assoc (x ∷ xs) (put_bytes rest) front.0) stands

    pub answer_fine : (E : Log) → v.log ≡ t.log ++ E → AreFine (run_in s (g ∷ gs)) t.start t.log E
    answer_fine E is = λ so_far image begins left.
        let pages = a.applies.pages.events in
        let events : E ≡ pages ++ a.text.events = events_then t a.middle v pages a.text.events E a.applies.pages.log a.text.log is in
        elim (front_split pages a.text.events so_far (subst (λ (l : Log). Begins l so_far) events begins)) [
          | inl within ↦
              let none = pages_unput so_far (only_front is_of_pages pages so_far within a.applies.pages.only) in
              subst (λ (p : List ℕ). IsFine (run_in s (g ∷ gs)) p image) (sym none) (fine_applying so_far within.0 image within.1 left)
          | inr past ↦
              let can = moved t a.middle pages past.0 image a.applies.pages.file.start a.applies.pages.log
              (subst (λ (l : Log). CanLeave t.start (t.log ++ l) image) past.1 left) in
              let put : put_bytes so_far ≡ put_bytes past.0 =
              ap put_bytes past.1 ∙ put_bytes-append pages past.0 ∙ ap (λ (l : List ℕ). l ++ put_bytes past.0) (pages_unput pages a.applies.pages.only) in
              subst (λ (p : List ℕ). IsFine (run_in s (g ∷ gs)) p image) (sym put) (fine_putting past.0 past.2.0 image past.2.1 can (put_bytes past.0) refl)
        ]

    -- what is put
    pub answer_puts : (E : Log) → v.log ≡ t.log ++ E → put_bytes E ≡ said
    answer_puts E is =
        let pages = a.applies.pages.events in
        ap put_bytes (events_then t a.middle v pages a.says.events E a.applies.pages.log a.says.log is) ∙ put_bytes-append pages a.says.events
        ∙ ap (λ (l : List ℕ). l ++ put_bytes a.says.events) (pages_unput pages a.applies.pages.only) ∙ a.says.put

-- a whole answer leaves the last edition that comes of it
pub answer_leaves : (s : State) (g : Group) (c : ℕ) (t v : Tale) → Answers s (held_at s g) c (text_of (reply_to s (held_at s g))) t v
    → LeavesNow v (λ image. Stands image (state_then s (held_at s g)).last)
answer_leaves s g c t v a =
    leaves_text a.middle v (λ image. Stands image (state_then s (held_at s g)).last) a.text
    (a.left (none_or_some (text_of (reply_to s (held_at s g))) (text_some (reply_to s (held_at s g)))))

-- ---- items, and a part of the next

fine_begins : (s : State) (gs : List Group) (t : Tale) → LeavesNow t (λ image. Stands image s.last) → (image : Pages) → CanLeave t.start t.log image
    → IsFine (run_in s gs) [] image
fine_begins s gs t leaves image left = fine_last s gs [] image (told_none s gs) (leaves image left)

none_fine : (r : Run) (t : Tale) → ((image : Pages) → CanLeave t.start t.log image → IsFine r [] image) → (E : Log) → E ≡ [] → AreFine r t.start t.log E
none_fine r t here E is = λ so_far image front left.
    let none : so_far ≡ [] = nil_front so_far front.0 (sym front.1 ∙ is) in
    subst (λ (p : List ℕ). IsFine r p image) (sym (ap put_bytes none))
    (here image (subst (λ (l : Log). CanLeave t.start l image) (append-nil t.log) (subst (λ (l : Log). CanLeave t.start (t.log ++ l) image) none left)))
  where
    nil_front : (a b : Log) → a ++ b ≡ [] → a ≡ []
    nil_front [] b e = refl
    nil_front (x ∷ a) b e = absurd (cc)

part_fine : (next h : List Group) (s : State) (c : ℕ) (t v : Tale) → PartStep s c next t v → LeavesNow t (λ image. Stands image s.last) → (E : Log)
    → v.log ≡ t.log ++ E → AreFine (run_in s (next ++ h)) t.start t.log E
part_fine [] h s c t v part leaves E is =
    none_fine (run_in s h) t (fine_begins s h t leaves) E (same_events t v E [] is part.log)
part_fine (g ∷ gs) h s c t v part leaves E is = answer_fine s g (gs ++ h) c part.said t v part.answers part.front E is

pub steps_fine : (gs next h : List Group) (s : State) (c : ℕ) (t u v : Tale) → Steps s c gs t u
    → PartStep (state_after s gs) (changes_all s c gs) next u v → LeavesNow t (λ image. Stands image s.last)
    → (E : Log) → v.log ≡ t.log ++ E → AreFine (run_in s (gs ++ (next ++ h))) t.start t.log E
steps_fine [] next h s c t u v steps part leaves E is =
    let grows = part_grows next s c u v part in
    let events : E ≡ steps.events ++ grows.events = events_then t u v steps.events grows.events E steps.log grows.log is in
    let here = leaves_text t u (λ image. Stands image s.last)
    (record { file = steps.file; events = steps.events; log = steps.log; only = took_text_only steps.events steps.only }) leaves in
    subst (λ (l : Log). AreFine (run_in s (next ++ h)) t.start t.log l) (sym events)
    (took_then (run_in s (next ++ h)) t u steps grows.events (fine_begins s (next ++ h) t leaves) (part_fine next h s c u v part here grows.events grows.log))
steps_fine (g ∷ gs) next h s c t u v steps part leaves E is =
    let item = held_at s g in
    let text = text_of (reply_to s item) in
    let all = gs ++ (next ++ h) in
    let step = steps.1 in
    let first = step.first in
    let mid = steps.0 in
    let one = answer_grows s item c text first mid step.answers in
    let rest = grows_then mid u v (steps_grow gs (state_then s item) (changes_then s item c) mid u steps.2)
    (part_grows next (state_after s (g ∷ gs)) (changes_all s c (g ∷ gs)) u v part) in
    let later : Log = one.events ++ rest.events in
    let later_log : v.log ≡ first.log ++ later = rest.log ∙ ap (λ (l : Log). l ++ rest.events) one.log ∙ append_assoc first.log one.events rest.events in
    let events : E ≡ step.takes.events ++ later = events_then t first v step.takes.events later E step.takes.log later_log is in
    let behind = steps_fine gs next h (state_then s item) (changes_then s item c) mid u v steps.2 part (answer_leaves s g c first mid step.answers)
    rest.events rest.log in
    let both : AreFine (run_in s (g ∷ all)) first.start first.log (one.events ++ rest.events) =
    λ so_far image begins left. elim (front_split one.events rest.events so_far begins) [
      | inl within ↦ answer_fine s g all c text first mid step.answers ([], sym (append-nil text)) one.events one.log so_far image within left
      | inr past ↦
          let can =
          moved first mid one.events past.0 image one.file.start one.log (subst (λ (l : Log). CanLeave first.start (first.log ++ l) image) past.1 left) in
          let put : put_bytes so_far ≡ text ++ put_bytes past.0 =
          ap put_bytes past.1 ∙ put_bytes-append one.events past.0
          ∙ ap (λ (l : List ℕ). l ++ put_bytes past.0) (answer_puts s g all c text first mid step.answers ([], sym (append-nil text)) one.events one.log) in
          subst (λ (p : List ℕ). IsFine (run_in s (g ∷ all)) p image) (sym put) (fine_behind s g all (put_bytes past.0) image (behind past.0 image past.2 can))
    ] in
    subst (λ (l : Log). AreFine (run_in s (g ∷ all)) t.start t.log l) (sym events)
    (took_then (run_in s (g ∷ all)) t first step.takes later (fine_begins s (g ∷ all) t leaves) both)
