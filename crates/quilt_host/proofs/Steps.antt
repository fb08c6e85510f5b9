-- What each call of the system leaves of what holds behind a door, and adds to the tale.
use Rattle.std.proofs.Common.{◌≡◌, ◌⊎◌, inl, inr, ℕ, ◌<◌, Bool, true, false, cond, List, [], ◌∷◌, ◌++◌, length, refl, sym, ◌∙◌, ap, subst, arith}
use Rattle.quilt_world.specs.Disk.{Log}
use Rattle.quilt_world.specs.Doors.{TakesFrom}
use Rattle.quilt_world.specs.Tale.{Tale, Adds}
use Rattle.quilt_world.specs.declared.event.Event.TheVariants as events
use Rattle.quilt_world.specs.declared.disk.Door.{Door}
use Rattle.quilt_host.specs.declared.act.Act.TheVariants.{Synced, Took, Ended, Put}
use Rattle.quilt_host.specs.Story.{Story}
use Rattle.quilt_host.specs.Acts.{draft_of, closed, log_of}
use Rattle.quilt_host.specs.Calls.{Syncs, TakesInput, Puts, took}
use Rattle.quilt_host.specs.Worlds.{is_open_door, tale_of, IsSoundStory}
use Rattle.quilt_host.proofs.DraftLaws.{after_synced, after_took, after_put, after_ended}
use Rattle.quilt_host.proofs.Soundness.{KeepsSound, KeepsTale, sound_spared, sound_kept, adds_of}

-- ---- a sync

pub sound_synced : (door : Door) (pages : ℕ) (s u : Story) → IsSoundStory door pages s → Syncs s u → IsSoundStory door pages u
sound_synced door pages s u sound is =
    subst (λ (v : Story). IsSoundStory door pages v) (sym is)
    (sound_spared door pages s (record s { acts = Synced ∷ s.acts }) events.Synced (λ i. tt)
    (record { is_there = refl; was_there = refl; settled = refl; owes = refl; said = refl; says = refl }) refl (after_synced (draft_of s.acts)) sound)

pub adds_synced : (door : Door) (pages reads writes : ℕ) (s u : Story) → is_open_door door ≡ true → Syncs s u
    → Adds (events.Synced ∷ []) (tale_of door pages reads writes s) (tale_of door pages reads writes u)
adds_synced door pages reads writes s u opens is =
    subst (λ (v : Story). Adds (events.Synced ∷ []) (tale_of door pages reads writes s) (tale_of door pages reads writes v)) (sym is)
    (adds_of door pages reads writes reads writes s (record s { acts = Synced ∷ s.acts }) (events.Synced ∷ []) opens
    (record { settled = refl; path = refl; was_there = refl; input = refl }) (after_synced (draft_of s.acts)))

-- ---- a put

pub sound_put : (door : Door) (pages : ℕ) (bytes : List ℕ) (s u : Story) → IsSoundStory door pages s → Puts bytes s u → IsSoundStory door pages u
sound_put door pages bytes s u sound is =
    subst (λ (v : Story). IsSoundStory door pages v) (sym is)
    (sound_spared door pages s (record s { acts = Put bytes ∷ s.acts }) (events.Put bytes) (λ i. tt)
    (record { is_there = refl; was_there = refl; settled = refl; owes = refl; said = refl; says = refl }) refl (after_put (draft_of s.acts) bytes) sound)

pub adds_put : (door : Door) (pages reads writes : ℕ) (bytes : List ℕ) (s u : Story) → is_open_door door ≡ true → Puts bytes s u
    → Adds (events.Put bytes ∷ []) (tale_of door pages reads writes s) (tale_of door pages reads writes u)
adds_put door pages reads writes bytes s u opens is =
    subst (λ (v : Story). Adds (events.Put bytes ∷ []) (tale_of door pages reads writes s) (tale_of door pages reads writes v)) (sym is)
    (adds_of door pages reads writes reads writes s (record s { acts = Put bytes ∷ s.acts }) (events.Put bytes ∷ []) opens
    (record { settled = refl; path = refl; was_there = refl; input = refl }) (after_put (draft_of s.acts) bytes))

-- ---- a take

pub sound_took : (door : Door) (pages : ℕ) (bytes : List ℕ) (s u : Story) → IsSoundStory door pages s → TakesInput bytes s u → IsSoundStory door pages u
sound_took door pages [] s u sound is =
    subst (λ (v : Story). IsSoundStory door pages v) (sym is.now)
    (sound_kept door pages s (record s { input = is.rest; acts = Ended ∷ s.acts })
    (record { is_there = refl; was_there = refl; settled = refl; owes = refl; said = refl; says = refl }) refl (ap closed (after_ended (draft_of s.acts))) sound)
sound_took door pages (b ∷ bytes) s u sound is =
    subst (λ (v : Story). IsSoundStory door pages v) (sym is.now)
    (sound_spared door pages s (record s { input = is.rest; acts = Took (b ∷ bytes) ∷ s.acts }) (events.Took (b ∷ bytes)) (λ i. tt)
    (record { is_there = refl; was_there = refl; settled = refl; owes = refl; said = refl; says = refl }) refl (after_took (draft_of s.acts) (b ∷ bytes)) sound)

pub takes_from : (door : Door) (pages reads writes : ℕ) (bytes : List ℕ) (s u : Story) → is_open_door door ≡ true → TakesInput bytes s u
    → TakesFrom bytes (tale_of door pages reads writes s) (tale_of door pages reads writes u)
takes_from door pages reads writes [] s u opens is =
    subst (λ (v : Story). TakesFrom [] (tale_of door pages reads writes s) (tale_of door pages reads writes v)) (sym is.now)
    (record {
      next = is.next;
      end = is.end;
      log = λ some. absurd (omega arith);
      same = λ none. ap (λ d. cond (is_open_door door) (closed d) []) (after_ended (draft_of s.acts));
      file = record { start = refl; path = refl; was_there = refl };
      reads = refl;
      writes = refl;
    })
takes_from door pages reads writes (b ∷ bytes) s u opens is =
    subst (λ (v : Story). TakesFrom (b ∷ bytes) (tale_of door pages reads writes s) (tale_of door pages reads writes v)) (sym is.now)
    (record {
      next = is.next;
      end = is.end;
      log = λ some.
          ap (λ x. cond x (log_of (Took (b ∷ bytes) ∷ s.acts)) []) opens
          ∙ after_took (draft_of s.acts) (b ∷ bytes)
          ∙ ap (λ x. cond x (log_of s.acts) [] ++ events.Took (b ∷ bytes) ∷ []) (sym opens);
      same = λ none. absurd (cc);
      file = record { start = refl; path = refl; was_there = refl };
      reads = refl;
      writes = refl;
    })
