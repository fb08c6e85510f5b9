-- What the call for a command promises is all that is promised of the answer: one law for a question, one for an edit and two for editions.
use Rattle.std.proofs.Common.{◌≡◌, ℕ, ◌+◌, ◌*◌, Bool, false, true, List, Option, is_some, Result, Ok, Err, IfOk, IfErr, OnOk, OnErr, refl, sym, ◌∙◌, ap, subst}
use Rattle.std.proofs.Common.{arith}
use Rattle.std.proofs.lemmas.Bool.{both_ways}
use Rattle.quilt_types.specs.declared.plane.Pixel.{Pixel}
use Rattle.quilt_types.specs.declared.stop.Stop.{Stop}
use Rattle.quilt_types.specs.declared.stop.Stop.TheVariants as stops
use Rattle.quilt_world.specs.Tale.{Goes}
use Rattle.quilt_world.specs.declared.disk.Disk as disk
use Rattle.quilt_words.specs.Forms.{Spelled}
use Rattle.quilt_words.specs.Table.{IsFitting}
use Rattle.quilt_words.specs.declared.command.Command.{Command}
use Rattle.quilt_words.specs.declared.command.Command.TheVariants as commands
use Rattle.quilt_journal.specs.Writing.{Writing}
use Rattle.quilt_store.specs.Stops.{HasStopCause, IsNotDamage}
use Rattle.quilt_edition.specs.Books as books
use Rattle.quilt_replies.specs.Answers.{State}
use Rattle.quilt_replies.specs.declared.reply.Reply.{Reply}
use Rattle.quilt_map.specs.Asking.{KeepsAll, reads_in}
use Rattle.quilt_map.specs.Commanding.{Answered, IsApplied, IsAppliedBy, Refuses}
use Rattle.quilt_map.specs.Derivation.{layers_derived}
use Rattle.quilt_map.specs.Measuring.{layer_measured}
use Rattle.quilt_map.specs.Reading.{IsPromised, ReadsFew, warm_left}
use Rattle.quilt_map.specs.Selecting.{layer_asked}
use Rattle.quilt_map.specs.Serving.{IsLastPixelIn, IsServed, ReadsNoneAgain}
use Rattle.quilt_map.specs.Sessions.{IsAtState}
use Rattle.quilt_map.specs.Steps.{LeavesEdition, asks, gives_edition, goes_back}
use Rattle.quilt_map.specs.declared.session.Session.{Session}
use Rattle.quilt_map.proofs.answers.Answered.{keeps_here}
use Rattle.quilt_map.proofs.answers.Asked.{if_ok, if_err}
use Rattle.quilt_map.proofs.answers.Commanded.{WritesPages, applied_asking, applied_giving, applied_going, applied_warm, fitting_of, sound_at}
use Rattle.quilt_map.proofs.questions.Bounded.{warm_none}
use Rattle.quilt_map.proofs.questions.Warming.{cold}
use Rattle.quilt_map.proofs.states.Moving.{IsLawful}

-- the command is an `at`, behind which a pixel is kept
abbrev pub is_at : Command → Bool
is_at (commands.At a p) = true
is_at command = false

-- whether a command gives an edition, goes back to one, asks, and is an `at`
abbrev pub Traits : Type 0
Traits = Bool × Bool × Bool × Bool

abbrev pub traits : Command → Traits
traits command = (gives_edition command, goes_back command, asks command, is_at command)

abbrev pub an_edit : Traits
an_edit = (false, false, false, false)

abbrev pub a_question : Traits
a_question = (false, false, true, false)

-- what one call answers for several commands
pub derived_edits : (c : Command) → is_some (layers_derived c) ≡ true → traits c ≡ an_edit
derived_edits commands.Layers is = cc
derived_edits c is = search

pub measured_questions : (c : Command) → is_some (layer_measured c) ≡ true → traits c ≡ a_question
measured_questions commands.Layers is = refl
measured_questions c is = search

pub lines_questions : (c : Command) → is_some (layer_asked c) ≡ true → traits c ≡ a_question
lines_questions commands.Layers is = refl
lines_questions c is = search

module _ {W : Type 0} {D : disk.Ghosts W} (old new : Session W D) where
  cold_again : (c : Command) → is_at c ≡ false → ReadsNoneAgain c old new
  cold_again (commands.At a p) not_at = absurd (both_ways true not_at refl)
  cold_again c not_at = tt

  -- the call speaks of a command that is the one to be answered
  module _ {command other : Command} (is : command ≡ other) {r : Result Reply Stop} (ready : books.IsReady old.book)
      (cause : HasStopCause (D.faults old.book.world) (D.faults new.book.world) r) where
    served : IsLastPixelIn (warm_left other r) new → ReadsNoneAgain other old new → IsAppliedBy IsAtState command old new r → IsServed command old new r
    served held again applied = record {
      applied = applied;
      held = subst (λ (x : Command). IsLastPixelIn (warm_left x r) new) (sym is) held;
      again = subst (λ (x : Command). ReadsNoneAgain x old new) (sym is) again;
    }

    forgetting : is_at other ≡ false → IsAppliedBy IsAtState command old new r → IsServed command old new r
    forgetting not_at =
        served (subst (λ (w : Option (List ℕ × Pixel)). IsLastPixelIn w new)
        (warm_none other r (λ a p at. both_ways (is_at other) not_at (ap is_at at))) (cold _ _ _ _)) (cold_again other not_at)

    -- what a call says, in the words of its clauses
    abbrev Reads : Command → Type 0
    Reads c = (s : State) → IsAtState old s → IsPromised s c r → ReadsFew s c (reads_in old.book) (reads_in new.book)

    abbrev IsUnbounded : Type 0
    IsUnbounded = (s : State) → IsPromised s other r → ⊥

    abbrev Says : Type 0
    Says = IfOk r (λ reply. (s : State) → IsAtState old s → Answered s other old new reply)

    abbrev IsSound : Type 0
    IsSound = IfErr r (λ e. (s : State) → IsAtState old s → IsNotDamage e)

    abbrev IsServedAsked : Type 0 → Type 0
    IsServedAsked T = ((w : W) → IsLawful (D.size w) (D.told w)) → Says → IsSound → KeepsAll old new → T

    abbrev IsServedEdited : Type 0
    IsServedEdited = IfOk r (Refuses old new) → books.GoesOn old.book new.book → IsServed command old new r

    abbrev IsServedFitting : Type 1
    IsServedFitting = Spelled old.book.work.format old.book.last.level command → (Fits : State → Type 0)
        → ((s : State) → IsFitting s.last.format s.last.level other → Fits s)
        → IfOk r (λ reply. (s : State) → IsAtState old s → Fits s → Answered s other old new reply)
        → IfErr r (λ e. (s : State) → IsAtState old s → Fits s → IsNotDamage e) → IsServedEdited

    unbounded : IsUnbounded → Reads other
    unbounded never = λ s at promised. absurd (never s promised)

    asking : asks other ≡ true → Reads other → IsServedAsked (IsAppliedBy IsAtState command old new r)
    asking it reads law answers sound keeps =
        applied_asking old new command other is r it ready (law new.book.world) answers sound cause keeps (subst Reads (sym is) reads)

    -- a question behind which a pixel is kept, one with a bound on the pages that it reads, and one with none
    pub asked_pixel : asks other ≡ true → Reads other
        → IsServedAsked (IsLastPixelIn (warm_left other r) new → ReadsNoneAgain other old new → IsServed command old new r)
    asked_pixel it reads law answers sound keeps held again = served held again (asking it reads law answers sound keeps)

    pub asked_within : traits other ≡ a_question → Reads other → IsServedAsked (IsServed command old new r)
    asked_within kind reads law answers sound keeps =
        forgetting (ap (λ (t : Traits). t.3) kind) (asking (ap (λ (t : Traits). t.2) kind) reads law answers sound keeps)

    pub asked : traits other ≡ a_question → IsUnbounded → IsServedAsked (IsServed command old new r)
    asked kind never = asked_within kind (unbounded never)

    -- what gives no edition and asks nothing
    going : (back : Bool) → traits other ≡ (false, back, false, false) → (back ≡ true → (new.book.world ≡ old.book.world) × OnErr r (new ≡ old))
        → Reads other → Says → IsSound → IsServedEdited
    going back kind whole reads answers sound refuses goes =
        let here : traits command ≡ (false, back, false, false) = ap traits is ∙ kind in
        forgetting (ap (λ (t : Traits). t.3) kind)
        (applied_going old new command other (sym is) r answers sound cause (subst Reads (sym is) reads) refuses ready goes
        (ap (λ (t : Traits). t.0) here) (λ to. whole (sym (ap (λ (t : Traits). t.1) here) ∙ to))
        (λ asking_. absurd (both_ways (asks command) (ap (λ (t : Traits). t.2) here) asking_)))

    edited_within : traits other ≡ an_edit → Reads other → Says → IsSound → IsServedEdited
    edited_within kind = going false kind (λ wrong. absurd (both_ways false refl wrong))

    -- an edit with no bound on the pages that it reads
    pub edited : traits other ≡ an_edit → IsUnbounded → Says → IsSound → IsServedEdited
    edited kind never = edited_within kind (unbounded never)

    -- an edit whose call speaks of what is spelled in the format of the map, with a bound and with none
    pub fitted_within : traits other ≡ an_edit → Reads other → IsServedFitting
    fitted_within kind reads spelled Fits part answers sound =
        let fits = λ (s : State) (at : IsAtState old s). part s (fitting_of old command other spelled is s at) in
        edited_within kind reads (if_ok _ _ r (λ reply p s at. p s at (fits s at)) answers) (if_err _ _ r (λ e p s at. p s at (fits s at)) sound)

    pub fitted : traits other ≡ an_edit → IsUnbounded → IsServedFitting
    fitted kind never = fitted_within kind (unbounded never)

    -- the last edition again
    pub reverted : traits other ≡ (false, true, false, false) → IsUnbounded → Says → IfErr r IsNotDamage → new.book.world ≡ old.book.world
        → OnErr r (new ≡ old) → IsServedEdited
    reverted kind never answers sound world whole = going true kind (λ back. (world, whole)) (unbounded never) answers (sound_at (IsAtState old) r sound)

    -- another edition
    pub published : traits other ≡ (true, false, false, false) → IsUnbounded → Says → IfErr r IsNotDamage
        → IfOk r (Refuses old new) → OnOk r (books.IsReady new.book) → IfErr r (λ stop. stop ≡ stops.Memory → new ≡ old)
        → OnOk r (new.book.last.level ≡ old.book.last.level) → D.door new.book.world ≡ D.door old.book.world
        → WritesPages (D.told old.book.world) (D.told new.book.world)
        → ((s : State) → IsAtState old s → Goes (LeavesEdition s other) (D.told old.book.world) (D.told new.book.world))
        → ((s : State) → IsAtState old s → Goes (Writing (18 * old.changes + 8)) (D.told old.book.world) (D.told new.book.world))
        → IsServed command old new r
    published kind never answers sound refuses again whole level door events crash writes =
        forgetting (ap (λ (t : Traits). t.3) kind)
        (applied_giving old new command other (sym is) r answers (sound_at (IsAtState old) r sound) cause (subst Reads (sym is) (unbounded never)) refuses
        (ap (λ (t : Traits). t.0) (ap traits is ∙ kind)) again whole level door events crash writes)

memory_sound : {T : Type 0} (r : Result T Stop) → IfErr r (λ stop. stop ≡ stops.Memory) → IfErr r IsNotDamage
memory_sound (Ok x) is = tt
memory_sound (Err e) is = λ page damaged. let bad : stops.Memory ≡ stops.Damaged page = sym is ∙ damaged in cc

memory_cause : (n : ℕ) (r : Result Reply Stop) → IfErr r (λ stop. stop ≡ stops.Memory) → HasStopCause n n r
memory_cause n (Ok x) is = record { later = omega arith; device = λ device. absurd (cc) }
memory_cause n (Err e) is = record {
  later = omega arith;
  device = λ device. let bad : Err stops.Memory ≡ Err stops.Device = ap Err (sym is) ∙ device in absurd (cc);
}

-- a question that looks at no page
module _ {W : Type 0} {D : disk.Ghosts W} {old : Session W D} {command other : Command} (is : command ≡ other) {r : Result Reply Stop} where
  pub told_served : books.IsReady old.book → traits other ≡ a_question → ((s : State) → IsPromised s other r → ⊥)
      → ((w : W) → IsLawful (D.size w) (D.told w)) → IfOk r (λ reply. (s : State) → IsAtState old s → Answered s other old old reply)
      → IfErr r (λ stop. stop ≡ stops.Memory) → IsServed command old old r
  told_served ready kind never law answers memory =
      asked old old is ready (memory_cause (D.faults old.book.world) r memory) kind never law answers (sound_at (IsAtState old) r (memory_sound r memory))
      (keeps_here old old.warm)

-- the pixel that was asked for is kept behind it
module _ {W : Type 0} {D : disk.Ghosts W} (old new : Session W D) (w : Option (List ℕ × Pixel)) (command : Command) (r : Result Reply Stop) where
  pub served_warm : w ≡ warm_left command r → IsServed command old new r
      → IsApplied command old (record { book = new.book; catalog = new.catalog; last = new.last; changes = new.changes; warm = w; alloc = new.alloc }) r
  served_warm is served =
      applied_warm old new w command r (subst (λ (x : Option (List ℕ × Pixel)). IsLastPixelIn x new) (sym is) served.held) served.applied
