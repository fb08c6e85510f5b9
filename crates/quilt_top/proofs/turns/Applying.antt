-- What applying the command of an item does, and putting its reply.
use Rattle.std.proofs.Common.{◌≡◌, ◌⊎◌, inl, inr, ℕ, ◌+◌, ◌*◌, Bool, true, false, List, [], ◌++◌, Option, Some, None, is_some, Result, Ok, Err, refl, sym, ◌∙◌, ap, subst, arith}
use Rattle.std.proofs.Common.{append_assoc, append-nil}
use Rattle.std.specs.Option.{IfSome}
use Rattle.quilt_types.specs.declared.code.Code.{Code}
use Rattle.quilt_world.specs.Added.{AddsOnly, is_of_pages, is_of_text}
use Rattle.quilt_world.specs.Disk.{Pages, Log, CanLeave}
use Rattle.quilt_world.specs.Stops.{Since, LeavesNow}
use Rattle.quilt_world.specs.Tale.{Tale, Adds, Goes, put_bytes}
use Rattle.quilt_world.specs.declared.disk.Disk as disk
use Rattle.quilt_world.proofs.AddedLaws.{adds_only_none, only-append}
use Rattle.quilt_world.proofs.StopLaws.{since_here, since_weaker, same_file}
use Rattle.quilt_journal.proofs.Writes.{writing_nothing}
use Rattle.quilt_edition.specs.Stands.{Stands}
use Rattle.quilt_words.specs.declared.command.Command.{Command}
use Rattle.quilt_words.specs.declared.item.Item.{Item}
use Rattle.quilt_words.specs.Forms.{form}
use Rattle.quilt_types.specs.Layers.{Edition}
use Rattle.quilt_replies.specs.Answers.{State, answer}
use Rattle.quilt_replies.specs.Runs.{outcome_of, text_of}
use Rattle.quilt_map.specs.Sessions.{IsAt, session_world}
use Rattle.quilt_map.specs.Steps.{LeavesEdition, CommandWritesFew, StandsFor, StandsForNew, gives_edition}
use Rattle.quilt_map.specs.declared.session.Session.{Session}
use Rattle.quilt_map.proofs.Laws.{at_told}
use Rattle.quilt_map.proofs.answers.Orderly.{quiet_none}
use Rattle.quilt_top.specs.Answering.{StandsForItem, Applies, Answers, AnswersPrefix, PutsNone, changes_by, changes_then}
use Rattle.quilt_top.specs.Replies.{reply_to, state_then}
use Rattle.quilt_top.specs.Saying.{takes_none, Says, SaysPrefix}
use Rattle.quilt_top.proofs.logs.Events.{put_bytes-append, pages_unput, pages_untaken}
use Rattle.quilt_top.proofs.logs.Prefixes.{stops_at}
use Rattle.quilt_top.proofs.logs.Said.{says_nothing}

-- ---- what a session stands for, in its tale

pub leaves_told : {W : Type 0} {D : disk.Ghosts W} (session : Session W D) (s : State) → IsAt session s
    → IfSome (D.told (session_world session)) (λ t. LeavesNow t (λ image. Stands image s.last))
leaves_told {D = D} session s at =
    let told = at_told session s at in
    subst (λ (o : Option Tale). IfSome o (λ t. LeavesNow t (λ image. Stands image s.last))) (sym told.1) told.2

pub seen_told : {W : Type 0} {D : disk.Ghosts W} (session : Session W D) (s : State) → IsAt session s
    → IfSome (D.told (session_world session)) (λ t. Stands t.seen s.last)
seen_told {D = D} session s at =
    let told = at_told session s at in subst (λ (o : Option Tale). IfSome o (λ t. Stands t.seen s.last)) (sym told.1) told.3

pub both_told : {W : Type 0} {D : disk.Ghosts W} (session : Session W D) (s : State) → IsAt session s
    → IfSome (D.told (session_world session)) (λ t. Stands t.seen s.last × LeavesNow t (λ image. Stands image s.last))
both_told {D = D} session s at =
    let told = at_told session s at in
    subst (λ (o : Option Tale). IfSome o (λ t. Stands t.seen s.last × LeavesNow t (λ image. Stands image s.last))) (sym told.1) (told.3, told.2)

-- ---- the command

nothing_added : (t : Tale) → Adds [] t t
nothing_added t = record { file = record { start = refl; path = refl; was_there = refl }; log = sym (append-nil t.log); input = refl }

applies_none : (s : State) (item : Item) (c : ℕ) (t : Tale) → LeavesNow t (λ image. Stands image s.last) → Applies s item c t t
applies_none s item c t leaves = record {
  pages = adds_only_none is_of_pages t;
  stops = since_here t (StandsForItem s item) (λ image left. inl (leaves image left));
  few = λ some. writing_nothing (18 * c + 8) t t (omega arith) (nothing_added t);
}

-- where no command is applied
pub applies_nothing : (s : State) (item : Item) (c : ℕ) (o : Option Tale) → IfSome o (λ t. LeavesNow t (λ image. Stands image s.last))
    → Goes (Applies s item c) o o
applies_nothing s item c None leaves = tt
applies_nothing s item c (Some t) leaves = applies_none s item c t leaves

new_as : (s : State) (r q : Result Command Code) (image : Pages) → q ≡ r → StandsForNew (outcome_of s r).published image
    → StandsForNew (outcome_of s q).published image
new_as s r q image is stands = subst (λ (p : Result Command Code). StandsForNew (outcome_of s p).published image) (sym is) stands

applies_one : (s : State) (item : Item) (command : Command) (c : ℕ) (t u : Tale) → form s.last.format item ≡ Ok command → AddsOnly is_of_pages t u
    → LeavesEdition s command t u → CommandWritesFew s command c t u → Applies s item c t u
applies_one s item command c t u is pages leaves few = record {
  pages = pages;
  stops = since_weaker t u (StandsFor s command) (StandsForItem s item) leaves.since (λ image stands. elim stands [
    | inl old ↦ inl old
    | inr new ↦ inr (new_as s (Ok command) (form s.last.format item) image is new)
  ]);
  few = λ some. few (subst (λ (r : Result Command Code). is_some (outcome_of s r).published ≡ true) is some);
}

pub applies_command : (s : State) (item : Item) (command : Command) (c : ℕ) (o n : Option Tale) → form s.last.format item ≡ Ok command
    → Goes (AddsOnly is_of_pages) o n → Goes (LeavesEdition s command) o n → Goes (CommandWritesFew s command c) o n
    → Goes (Applies s item c) o n
applies_command s item command c None None is pages leaves few = tt
applies_command s item command c None (Some u) is pages leaves few = pages
applies_command s item command c (Some t) None is pages leaves few = pages
applies_command s item command c (Some t) (Some u) is pages leaves few = applies_one s item command c t u is pages leaves few

-- ---- where memory was wanted

since_now : (t u : Tale) (P : Pages → Type 0) → Since t u P → LeavesNow u P
since_now t u P since = λ image left.
    stops_at P t u since.added [] since (since.log ∙ ap (λ (l : Log). t.log ++ l) (sym (append-nil since.added))) image
    (subst (λ (l : Log). CanLeave t.start l image) since.log (subst (λ (p : Pages). CanLeave p u.log image) since.file.start left))

-- a command that gives no edition leaves the last one
unchanged : (s : State) (o : Option Edition) (image : Pages) → o ≡ None → Stands image s.last ⊎ StandsForNew o image → Stands image s.last
unchanged s o image none (inl stands) = stands
unchanged s o image none (inr stands) = absurd (subst (λ (p : Option Edition). StandsForNew p image) none stands)

quiet_leaves : (s : State) (command : Command) (o n : Option Tale) → (answer s command).published ≡ None → Goes (LeavesEdition s command) o n
    → IfSome n (λ t. LeavesNow t (λ image. Stands image s.last))
quiet_leaves s command None None none leaves = tt
quiet_leaves s command None (Some u) none leaves = absurd leaves
quiet_leaves s command (Some t) None none leaves = tt
quiet_leaves s command (Some t) (Some u) none leaves = λ image left.
    unchanged s (answer s command).published image none (since_now t u (StandsFor s command) leaves.since image left)

-- A command that gave none, or that called no device: its edition is the last one still.
pub leaves_last : (s : State) (command : Command) (o n : Option Tale) → (gives_edition command ≡ true → n ≡ o) → Goes (LeavesEdition s command) o n
    → IfSome o (λ t. LeavesNow t (λ image. Stands image s.last)) → IfSome n (λ t. LeavesNow t (λ image. Stands image s.last))
leaves_last s command o n quiet leaves before = by (gives_edition command) refl
  where
    by : (b : Bool) → gives_edition command ≡ b → IfSome n (λ t. LeavesNow t (λ image. Stands image s.last))
    by true gives = subst (λ (p : Option Tale). IfSome p (λ t. LeavesNow t (λ image. Stands image s.last))) (sym (quiet gives)) before
    by false gives = quiet_leaves s command o n (quiet_none s command gives) leaves

-- pages alone were written
pages_say : (s : State) (item : Item) (c : ℕ) (t u : Tale) → Applies s item c t u → Says [] t u
pages_say s item c t u a = record {
  file = a.pages.file;
  input = a.stops.input;
  events = a.pages.events;
  log = a.pages.log;
  untaken = pages_untaken a.pages.events a.pages.only;
  put = pages_unput a.pages.events a.pages.only;
}

pub puts_none : (s : State) (item : Item) (c : ℕ) (o n : Option Tale) → Goes (Applies s item c) o n
    → IfSome n (λ t. LeavesNow t (λ image. Stands image s.last)) → Goes (PutsNone s) o n
puts_none s item c None None applies leaves = tt
puts_none s item c None (Some u) applies leaves = applies
puts_none s item c (Some t) None applies leaves = applies
puts_none s item c (Some t) (Some u) applies leaves = record { says = pages_say s item c t u applies; left = leaves }

-- ---- the count of changes

pub changes_no : (s : State) (item : Item) (code : Code) (c : ℕ) → form s.last.format item ≡ Err code → changes_then s item c ≡ c
unfolding changes_then
changes_no s item code c is = ap (λ (r : Result Command Code). changes_by s r c) is

pub changes_is : (s : State) (item : Item) (command : Command) (c : ℕ) → form s.last.format item ≡ Ok command
    → changes_then s item c ≡ changes_by s (Ok command) c
unfolding changes_then
changes_is s item command c is = ap (λ (r : Result Command Code). changes_by s r c) is

-- ---- the reply

-- nothing of it is put
pub none_put : (s : State) (item : Item) (c : ℕ) (t u : Tale) → Applies s item c t u → AnswersPrefix s item c t u
none_put s item c t u applies = record {
  said = [];
  front = (text_of (reply_to s item), refl);
  answers = record { middle = u; applies = applies; left = λ some. absurd (some refl); says = says_nothing u; text = adds_only_none is_of_text u };
}

-- these bytes are put
pub answers_put : (s : State) (item : Item) (c : ℕ) (said : List ℕ) (o m n : Option Tale) → Goes (Applies s item c) o m
    → IfSome m (λ t. LeavesNow t (λ image. Stands image (state_then s item).last))
    → Goes (Says said) m n → Goes (AddsOnly is_of_text) m n → Goes (Answers s item c said) o n
answers_put s item c said None None None applies leaves says text = tt
answers_put s item c said None None (Some v) applies leaves says text = says
answers_put s item c said None (Some u) n applies leaves says text = absurd applies
answers_put s item c said (Some t) None n applies leaves says text = absurd applies
answers_put s item c said (Some t) (Some u) None applies leaves says text = says
answers_put s item c said (Some t) (Some u) (Some v) applies leaves says text =
    record { middle = u; applies = applies; left = λ some. leaves; says = says; text = text }

pub part_put : (s : State) (item : Item) (c : ℕ) (all : List ℕ) (o m n : Option Tale) → all ≡ text_of (reply_to s item) → Goes (Applies s item c) o m
    → IfSome m (λ t. LeavesNow t (λ image. Stands image (state_then s item).last))
    → Goes (SaysPrefix all) m n → Goes (AddsOnly is_of_text) m n → Goes (AnswersPrefix s item c) o n
part_put s item c all None None None is applies leaves says text = tt
part_put s item c all None None (Some v) is applies leaves says text = says
part_put s item c all None (Some u) n is applies leaves says text = absurd applies
part_put s item c all (Some t) None n is applies leaves says text = absurd applies
part_put s item c all (Some t) (Some u) None is applies leaves says text = says
part_put s item c all (Some t) (Some u) (Some v) is applies leaves says text = record {
  said = says.said;
  front = (says.front.0, sym is ∙ says.front.1);
  answers = record { middle = u; applies = applies; left = λ some. leaves; says = says.says; text = text };
}

-- what is put by answering
pub answer_says : (s : State) (item : Item) (c : ℕ) (said : List ℕ) (t v : Tale) → Answers s item c said t v → Says said t v
answer_says s item c said t v a =
    let pages = a.applies.pages.events in record {
      file = same_file t a.middle v a.applies.pages.file a.says.file;
      input = a.says.input ∙ a.applies.stops.input;
      events = pages ++ a.says.events;
      log = a.says.log ∙ ap (λ (l : Log). l ++ a.says.events) a.applies.pages.log ∙ append_assoc t.log pages a.says.events;
      untaken = only-append takes_none pages a.says.events (pages_untaken pages a.applies.pages.only) a.says.untaken;
      put = put_bytes-append pages a.says.events ∙ ap (λ (l : List ℕ). l ++ put_bytes a.says.events) (pages_unput pages a.applies.pages.only) ∙ a.says.put;
    }

pub part_says : (s : State) (item : Item) (c : ℕ) (t v : Tale) → AnswersPrefix s item c t v → SaysPrefix (text_of (reply_to s item)) t v
part_says s item c t v part = record { said = part.said; front = part.front; says = answer_says s item c part.said t v part.answers }
