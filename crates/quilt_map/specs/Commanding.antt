-- What a command is answered, and what it leaves of a session.
use Rattle.std.specs.Prelude.{◌≡◌, ℕ, ◌≤◌, true, ◌||◌, Result, IfOk, IfErr, OnOk}
use Rattle.quilt_types.specs.declared.stop.Stop.{Stop}
use Rattle.quilt_types.specs.declared.stop.Stop.TheVariants as stops
use Rattle.quilt_world.specs.Added.{AddsOnly, is_of_pages}
use Rattle.quilt_world.specs.Causes.{Rose}
use Rattle.quilt_world.specs.Tale.{Goes}
use Rattle.quilt_world.specs.declared.disk.Disk as disk
use Rattle.quilt_words.specs.declared.command.Command.{Command}
use Rattle.quilt_words.specs.declared.command.Command.TheVariants as commands
use Rattle.quilt_replies.specs.Answers.{State, answer}
use Rattle.quilt_map.specs.Reading.{IsPromised, ReadsFew}
use Rattle.quilt_map.specs.Sessions.{IsAt, IsAtState, IsSessionReady, session_world, format_of, level_of, head_of, changes_of, reads_of}
use Rattle.quilt_replies.specs.States.{Tells, IsRefusal, after}
use Rattle.quilt_map.specs.Steps.{LeavesEdition, CommandWritesFew, asks, changes_after, gives_edition, goes_back}
use Rattle.quilt_replies.specs.declared.reply.Reply.{Reply}
use Rattle.quilt_map.specs.declared.session.Session.{Session}

module _ {W : Type 0} {D : disk.Ghosts W} where
  -- the reply, the state and the count of changes are those of the definition
  pub record Answered (s : State) (command : Command) (old new : Session W D) (reply : Reply) : Type 0 where
    pub tells : Tells reply (answer s command).reply
    pub at : IsAtState new (after s command)
    pub count : new.changes ≡ changes_after s command old.changes

  -- where the reply refuses, the work's header and the count of changes are as before
  abbrev pub Refuses : Session W D → Session W D → Reply → Type 0
  Refuses old new reply = IsRefusal reply → (new.book.work ≡ old.book.work) × (new.changes ≡ old.changes)

  -- nothing but the last pixel that was asked for has changed, and the session stands where it stood
  pub record IsWholeBy (At : Session W D → State → Type 0) (old new : Session W D) : Type 0 where
    pub book : new.book ≡ old.book
    pub catalog : new.catalog ≡ old.catalog
    pub last : new.last ≡ old.last
    pub changes : new.changes ≡ old.changes
    pub at : (s : State) → At old s → At new s

  -- all that is promised of the answer to a command, where this relation says what a session stands for
  pub record IsAppliedBy (At : Session W D → State → Type 0) (command : Command) (old new : Session W D) (r : Result Reply Stop) : Type 0 where
    pub answer : IfOk r (λ reply. (s : State) → At old s → Tells reply (answer s command).reply × At new (after s command))
    pub refused : IfOk r (λ reply. IsRefusal reply → (s : State) → At old s → At new s)
    pub changes : IfOk r (λ reply. (s : State) → At old s → changes_of new ≡ changes_after s command (changes_of old))
    pub level : OnOk r (level_of new ≡ level_of old)
    pub later : D.faults (session_world old) ≤ D.faults (session_world new)
    pub device : IfErr r (λ stop. stop ≡ stops.Device → Rose (D.faults (session_world old)) (D.faults (session_world new)))
    pub damaged : IfErr r (λ stop. (page : ℕ) → stop ≡ stops.Damaged page → (s : State) → At old s → ⊥)
    pub door : D.door (session_world new) ≡ D.door (session_world old)
    pub events : Goes (AddsOnly is_of_pages) (D.told (session_world old)) (D.told (session_world new))
    pub input : Goes (λ before now. now.input ≡ before.input) (D.told (session_world old)) (D.told (session_world new))
    pub crash : (s : State) → At old s → Goes (LeavesEdition s command) (D.told (session_world old)) (D.told (session_world new))
    pub writes : (s : State) → At old s → Goes (CommandWritesFew s command (changes_of old)) (D.told (session_world old)) (D.told (session_world new))
    pub reads : (s : State) → At old s → IsPromised s command r → ReadsFew s command (reads_of old) (reads_of new)
    pub ready : OnOk r (IsSessionReady new)
    pub kept : IfOk r (λ reply. IsRefusal reply → (head_of new ≡ head_of old) × (format_of new ≡ format_of old) × (changes_of new ≡ changes_of old))
    pub stays : asks command ≡ true → (s : State) → At old s → At new s
    pub whole : IfErr r (λ stop. stop ≡ stops.Memory → (gives_edition command || goes_back command) ≡ true → IsWholeBy At old new)
    pub quiet : IfErr r (λ stop. stop ≡ stops.Memory → gives_edition command ≡ true → session_world new ≡ session_world old)
    pub back : command ≡ commands.Revert → session_world new ≡ session_world old

  -- the same of what a session stands for above this crate
  abbrev pub IsWholeStep : Session W D → Session W D → Type 0
  IsWholeStep old new = IsWholeBy IsAt old new

  abbrev pub IsApplied : Command → Session W D → Session W D → Result Reply Stop → Type 0
  IsApplied command old new r = IsAppliedBy IsAt command old new r
