-- What each call leaves of what holds of a story behind a door, and of its tale.
use Rattle.std.proofs.Common.{◌≡◌, ◌≢◌, ◌⊎◌, inl, inr, ℕ, ◌+◌, ◌*◌, ◌<◌, ◌≤◌, Bool, true, false, cond, List, [], ◌∷◌, ◌++◌, length, Option, Some, None, refl, sym, ◌∙◌, ap, subst, arith}
use Rattle.std.proofs.lemmas.Bool.{cases_eq}
use Rattle.std.proofs.lemmas.List.{append-nil}
use Rattle.std.proofs.lemmas.Option.{same_Some}
use Rattle.quilt_world.specs.Disk.{Log}
use Rattle.quilt_world.specs.PageBytes.{last_bytes, Spares}
use Rattle.quilt_world.specs.Tale.{Tale, Adds}
use Rattle.quilt_world.specs.declared.event.Event.{Event}
use Rattle.quilt_world.specs.declared.event.Event.TheVariants.{Wrote, Tore, Synced, Took, Put}
use Rattle.quilt_world.specs.declared.disk.Door.{Door}
use Rattle.quilt_world.specs.declared.disk.Door.TheVariants as doors
use Rattle.quilt_world.proofs.PageLaws.{last-spared, last-Wrote, last-Tore}
use Rattle.quilt_host.specs.Story.{Story}
use Rattle.quilt_host.specs.Acts.{log_of}
use Rattle.quilt_host.specs.Bytes.{patched, page_at, file_pages}
use Rattle.quilt_host.specs.Paging.{KeepsRest, WritesPage, TearsPage}
use Rattle.quilt_host.specs.Worlds.{is_open_door, tale_of, IsSoundStory, IsFileKept}
use Rattle.quilt_host.proofs.ByteLaws.{length-overlaid_least, page-overlaid_other, page-overlaid_same}

-- what soundness and tales ask of a step, beside the bytes and the events
pub record KeepsSound (s u : Story) : Type 0 where
  pub is_there : u.is_there ≡ s.is_there
  pub was_there : u.was_there ≡ s.was_there
  pub settled : u.settled ≡ s.settled
  pub owes : u.owes ≡ s.owes
  pub said : u.said ≡ s.said
  pub says : u.says ≡ s.says

-- what is kept goes on
kept_on : (door : Door) (s u : Story) → KeepsSound s u → IsFileKept door s → IsFileKept door u
kept_on door s u keeps kept = record {
  there = λ was. keeps.is_there ∙ kept.there (sym keeps.was_there ∙ was);
  owes = λ apart. keeps.owes ∙ kept.owes apart;
  said = keeps.said ∙ kept.said;
  says = keeps.says ∙ kept.says;
}

pub record KeepsTale (s u : Story) : Type 0 where
  pub settled : u.settled ≡ s.settled
  pub path : u.path ≡ s.path
  pub was_there : u.was_there ≡ s.was_there
  pub input : u.input ≡ s.input

-- ---- doors

pub open_with_pages : (door : Door) (pages : ℕ) → (door ≢ doors.Ready → door ≢ doors.Made → pages ≡ 0) → 0 < pages → is_open_door door ≡ true
open_with_pages doors.Ready pages none some = refl
open_with_pages doors.Made pages none some = refl
open_with_pages doors.Shut pages none some = absurd (let zero : pages ≡ 0 = none (λ e. cc) (λ e. cc) in omega arith)
open_with_pages doors.Missing pages none some = absurd (let zero : pages ≡ 0 = none (λ e. cc) (λ e. cc) in omega arith)
open_with_pages doors.Taken pages none some = absurd (let zero : pages ≡ 0 = none (λ e. cc) (λ e. cc) in omega arith)
open_with_pages doors.Failed pages none some = absurd (let zero : pages ≡ 0 = none (λ e. cc) (λ e. cc) in omega arith)

pub open_either : (door : Door) → (door ≡ doors.Ready) ⊎ (door ≡ doors.Made) → is_open_door door ≡ true
open_either door (inl ready) = ap is_open_door ready
open_either door (inr made) = ap is_open_door made

-- ---- one event more

moved_last : (pages : ℕ) (s u : Story) (e : Event) (j : ℕ) (b : List ℕ) → u.settled ≡ s.settled → log_of u.acts ≡ log_of s.acts ++ e ∷ []
    → last_bytes (file_pages u.settled pages) (log_of u.acts) j ≡ Some b → last_bytes (file_pages s.settled pages) (log_of s.acts ++ e ∷ []) j ≡ Some b
moved_last pages s u e j b settled log is =
    ap (λ (l : Log). last_bytes (file_pages s.settled pages) l j) (sym log) ∙ ap (λ z. last_bytes (file_pages z pages) (log_of u.acts) j) (sym settled) ∙ is

-- an event that is no write, with the same bytes
pub sound_spared : (door : Door) (pages : ℕ) (s u : Story) (e : Event) → ((i : ℕ) → Spares i e) → KeepsSound s u → u.bytes ≡ s.bytes
    → log_of u.acts ≡ log_of s.acts ++ e ∷ [] → IsSoundStory door pages s → IsSoundStory door pages u
sound_spared door pages s u e spares keeps bytes log sound = record {
  first = λ shut. keeps.is_there ∙ sound.first shut ∙ sym keeps.was_there;
  within = omega (arith, sound.within, ap length bytes);
  reads = λ opens j b lt is.
      ap (λ l. page_at l j) bytes
      ∙ sound.reads opens j b lt (sym (last-spared (file_pages s.settled pages) (log_of s.acts) e j (spares j)) ∙ moved_last pages s u e j b keeps.settled log is);
  kept = kept_on door s u keeps sound.kept;
}

-- nothing that is seen
pub sound_kept : (door : Door) (pages : ℕ) (s u : Story) → KeepsSound s u → u.bytes ≡ s.bytes → log_of u.acts ≡ log_of s.acts → IsSoundStory door pages s
    → IsSoundStory door pages u
sound_kept door pages s u keeps bytes log sound = record {
  first = λ shut. keeps.is_there ∙ sound.first shut ∙ sym keeps.was_there;
  within = omega (arith, sound.within, ap length bytes);
  reads = λ opens j b lt is.
      ap (λ l. page_at l j) bytes
      ∙ sound.reads opens j b lt (ap (λ (l : Log). last_bytes (file_pages s.settled pages) l j) (sym log)
      ∙ ap (λ z. last_bytes (file_pages z pages) (log_of u.acts) j) (sym keeps.settled) ∙ is);
  kept = kept_on door s u keeps sound.kept;
}

-- what a write, whole or torn, keeps
keeps_rest : (s u : Story) → KeepsRest s u → u.owes ≡ s.owes → KeepsSound s u
keeps_rest s u rest owes = record {
  is_there = rest.is_there;
  was_there = rest.was_there;
  settled = rest.settled;
  owes = owes;
  said = rest.said;
  says = rest.says;
}

pub sound_wrote : (door : Door) (pages i : ℕ) (page : List ℕ) (s u : Story) → i < pages → length page ≡ 4096 → IsSoundStory door pages s → WritesPage i page s u
    → IsSoundStory door pages u
sound_wrote door pages i page s u low size sound w = record {
  first = λ shut. w.rest.is_there ∙ sound.first shut ∙ sym w.rest.was_there;
  within = omega (arith, sound.within, ap length w.bytes, length-overlaid_least s.bytes (i * 4096) page);
  reads = λ opens j b lt is.
      let moved = moved_last pages s u (Wrote i page) j b w.rest.settled w.log is in
      ap (λ l. page_at l j) w.bytes
      ∙ elim (cases_eq i j) [
        | inl here ↦
            let at : last_bytes (file_pages s.settled pages) (log_of s.acts ++ Wrote i page ∷ []) i ≡ Some b =
            subst (λ k. last_bytes (file_pages s.settled pages) (log_of s.acts ++ Wrote i page ∷ []) k ≡ Some b) (sym here) moved in
            subst (λ k. page_at (patched s.bytes (i * 4096) page) k ≡ b) here
            (page-overlaid_same s.bytes i page size ∙ same_Some page b (sym (last-Wrote (file_pages s.settled pages) (log_of s.acts) i page) ∙ at))
        | inr apart ↦
            page-overlaid_other s.bytes i j page apart (omega arith) (omega (arith, sound.within))
            ∙ sound.reads opens j b lt (sym (last-spared (file_pages s.settled pages) (log_of s.acts) (Wrote i page) j apart) ∙ moved)
      ];
  kept = kept_on door s u (keeps_rest s u w.rest w.owes) sound.kept;
}

pub sound_tore : (door : Door) (pages i : ℕ) (s u : Story) → i < pages → IsSoundStory door pages s → TearsPage i s u ⊎ (u ≡ s) → IsSoundStory door pages u
sound_tore door pages i s u low sound (inr same) = subst (IsSoundStory door pages) (sym same) sound
sound_tore door pages i s u low sound (inl w) = record {
  first = λ shut. w.rest.is_there ∙ sound.first shut ∙ sym w.rest.was_there;
  within = omega (arith, sound.within, ap length w.bytes, length-overlaid_least s.bytes (i * 4096) w.left);
  reads = λ opens j b lt is.
      let moved = moved_last pages s u (Tore i) j b w.rest.settled w.log is in
      ap (λ l. page_at l j) w.bytes
      ∙ elim (cases_eq i j) [
        | inl here ↦ absurd (let no : ◌≡◌ {A = Option (List ℕ)} None (Some b) =
            sym (last-Tore (file_pages s.settled pages) (log_of s.acts) i)
            ∙ subst (λ k. last_bytes (file_pages s.settled pages) (log_of s.acts ++ Tore i ∷ []) k ≡ Some b) (sym here) moved in cc)
        | inr apart ↦
            page-overlaid_other s.bytes i j w.left apart w.few (omega (arith, sound.within))
            ∙ sound.reads opens j b lt (sym (last-spared (file_pages s.settled pages) (log_of s.acts) (Tore i) j apart) ∙ moved)
      ];
  kept = kept_on door s u (keeps_rest s u w.rest w.owes) sound.kept;
}

-- ---- tales

-- the tale has these events more
pub adds_of : (door : Door) (pages reads writes reads' writes' : ℕ) (s u : Story) (events : Log) → is_open_door door ≡ true → KeepsTale s u
    → log_of u.acts ≡ log_of s.acts ++ events → Adds events (tale_of door pages reads writes s) (tale_of door pages reads' writes' u)
adds_of door pages reads writes reads' writes' s u events opens keeps log = record {
  file = record { start = ap (λ z. file_pages z pages) keeps.settled; path = keeps.path; was_there = keeps.was_there };
  log = ap (λ b. cond b (log_of u.acts) []) opens ∙ log ∙ ap (λ b. cond b (log_of s.acts) [] ++ events) (sym opens);
  input = keeps.input;
}

-- nothing is added
pub adds_none : (door : Door) (pages reads writes reads' writes' : ℕ) (s : Story)
    → Adds [] (tale_of door pages reads writes s) (tale_of door pages reads' writes' s)
adds_none door pages reads writes reads' writes' s =
    record { file = record { start = refl; path = refl; was_there = refl }; log = sym (append-nil (cond (is_open_door door) (log_of s.acts) [])); input = refl }

pub adds_wrote : (door : Door) (pages reads writes reads' writes' i : ℕ) (page : List ℕ) (s u : Story) → is_open_door door ≡ true → WritesPage i page s u
    → Adds (Wrote i page ∷ []) (tale_of door pages reads writes s) (tale_of door pages reads' writes' u)
adds_wrote door pages reads writes reads' writes' i page s u opens w =
    adds_of door pages reads writes reads' writes' s u (Wrote i page ∷ []) opens
    (record { settled = w.rest.settled; path = w.rest.path; was_there = w.rest.was_there; input = w.rest.input }) w.log

pub adds_tore : (door : Door) (pages reads writes reads' writes' i : ℕ) (s u : Story) → is_open_door door ≡ true → TearsPage i s u ⊎ (u ≡ s)
    → Adds (Tore i ∷ []) (tale_of door pages reads writes s) (tale_of door pages reads' writes' u)
    ⊎ Adds [] (tale_of door pages reads writes s) (tale_of door pages reads' writes' u)
adds_tore door pages reads writes reads' writes' i s u opens (inl w) =
    inl (adds_of door pages reads writes reads' writes' s u (Tore i ∷ []) opens
    (record { settled = w.rest.settled; path = w.rest.path; was_there = w.rest.was_there; input = w.rest.input }) w.log)
adds_tore door pages reads writes reads' writes' i s u opens (inr same) =
    inr (subst (λ (v : Story). Adds [] (tale_of door pages reads writes s) (tale_of door pages reads' writes' v)) (sym same)
    (adds_none door pages reads writes reads' writes' s))
