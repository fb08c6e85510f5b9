-- What the contracts of commands say of all commands.
use Rattle.std.proofs.Common.{◌≡◌, ◌⊎◌, inl, ℕ, ◌+◌, ◌*◌, ◌≤◌, Bool, true, false, ◌||◌, List, [], ◌∷◌, Option, Some, None, is_some, Result, Ok, Err, IfOk, IfErr, OnOk}
use Rattle.std.proofs.Common.{OnErr, refl, sym, ◌∙◌, ap, subst}
use Rattle.std.specs.List.{list_all}
use Rattle.std.proofs.lemmas.Bool.{and_parts, both_ways}
use Rattle.quilt_types.specs.declared.plane.Pixel.{Pixel}
use Rattle.quilt_types.specs.declared.stop.Stop.{Stop}
use Rattle.quilt_types.specs.declared.stop.Stop.TheVariants as stops
use Rattle.quilt_types.specs.Layers.{Edition}
use Rattle.quilt_world.specs.Added.{AddsOnly, Only, is_of_pages, is_write}
use Rattle.quilt_world.specs.Disk.{Pages}
use Rattle.quilt_world.specs.Home.{home}
use Rattle.quilt_world.specs.Stops.{LeavesNow}
use Rattle.quilt_world.specs.declared.event.Event.{Event}
use Rattle.quilt_world.specs.declared.event.Event.TheVariants as event
use Rattle.quilt_world.specs.Causes.{Rose}
use Rattle.quilt_world.specs.Tale.{Tale, IsConsistent, Goes}
use Rattle.quilt_world.specs.declared.disk.Disk as disk
use Rattle.quilt_world.proofs.StopLaws.{since_weaker}
use Rattle.quilt_words.specs.Table.{IsFitting}
use Rattle.quilt_words.specs.Forms.{Spelled}
use Rattle.quilt_words.proofs.SpelledLaws.{spelled_fits}
use Rattle.quilt_words.specs.declared.command.Command.{Command}
use Rattle.quilt_words.specs.declared.command.Command.TheVariants as commands
use Rattle.quilt_journal.specs.Kept.{HasHome}
use Rattle.quilt_journal.specs.Writing.{Writing}
use Rattle.quilt_store.specs.Stops.{HasStopCause, IsNotDamage}
use Rattle.quilt_edition.specs.Books as books
use Rattle.quilt_edition.specs.Keeping.{IsLater}
use Rattle.quilt_edition.proofs.Steps.{seen_home}
use Rattle.quilt_node.specs.declared.head.Head.{Head}
use Rattle.quilt_record.specs.declared.entry.Entry.{Entry}
use Rattle.quilt_replies.specs.Answers.{State, answer}
use Rattle.quilt_map.specs.Commanding.{Answered, IsApplied, IsAppliedBy, IsWholeBy, Refuses}
use Rattle.quilt_map.specs.Asking.{KeepsAll, reads_in}
use Rattle.quilt_map.specs.Reading.{IsPromised, ReadsFew}
use Rattle.quilt_map.specs.Sessions.{IsAt, IsAtState, IsSessionReady, IsSpelled, IsWarm, IsPublishedAs, session_world, format_of, level_of, head_of, changes_of, reads_of}
use Rattle.quilt_map.specs.Sessions.{free_of, changed_of, last_count}
use Rattle.quilt_replies.specs.States.{Tells, IsRefusal, after}
use Rattle.quilt_map.specs.Steps.{LeavesEdition, StandsFor, CommandWritesFew, asks, changes_after, gives_edition, goes_back}
use Rattle.quilt_replies.specs.declared.reply.Reply.{Reply}
use Rattle.quilt_replies.specs.declared.reply.Reply.TheVariants as given
use Rattle.quilt_map.specs.declared.session.Session.{Session}
use Rattle.quilt_map.proofs.answers.Answered.{format_is, keeps_at, warm_at}
use Rattle.quilt_map.proofs.answers.Asked.{if_ok, if_err}
use Rattle.quilt_map.proofs.states.Keeping.{book_idle, book_leaves, book_stands}
use Rattle.quilt_map.proofs.answers.Orderly.{asks_only, gives_else, quiet_none, refused_after}
use Rattle.quilt_map.proofs.states.Going.{goes_of}
use Rattle.quilt_map.proofs.states.Moving.{IsLawful}

goes_map : (R S : Tale → Tale → Type 0) (a b : Option Tale) → ((t u : Tale) → a ≡ Some t → R t u → S t u) → Goes R a b → Goes S a b
goes_map R S None None f g = tt
goes_map R S None (Some u) f g = absurd g
goes_map R S (Some t) None f g = absurd g
goes_map R S (Some t) (Some u) f g = f t u refl g

write_of_pages : (e : Event) → is_write e ≡ true → is_of_pages e ≡ true
write_of_pages (event.Took bytes) is = absurd (cc)
write_of_pages (event.Put bytes) is = absurd (cc)
write_of_pages (event.Wrote page bytes) is = refl
write_of_pages (event.Tore page) is = refl
write_of_pages event.Synced is = refl

only_pages : (added : List Event) → Only is_write added → Only is_of_pages added
only_pages [] only = refl
only_pages (e ∷ es) only = let parts = and_parts (is_write e) (list_all is_write es) only in rw (write_of_pages e parts.0) (only_pages es parts.1)

damaged_of : {T : Type 0} (At : State → Type 0) (r : Result T Stop) → IfErr r (λ e. (s : State) → At s → IsNotDamage e)
    → IfErr r (λ stop. (page : ℕ) → stop ≡ stops.Damaged page → (s : State) → At s → ⊥)
damaged_of At (Ok x) h = tt
damaged_of At (Err e) h = λ page is s at. h s at page is

device_of : {T : Type 0} (before now : ℕ) (r : Result T Stop) → HasStopCause before now r → IfErr r (λ stop. stop ≡ stops.Device → Rose before now)
device_of before now (Ok x) h = tt
device_of before now (Err e) h = λ is. h.device (ap Err is)

-- what a command has that is spelled is of the format and the level of the work, and so of the last edition
module _ {W : Type 0} {D : disk.Ghosts W} where
  pub fitting_here : (old : Session W D) (command other : Command) → Spelled old.book.work.format old.book.last.level command → command ≡ other
      → IsFitting old.book.work.format old.book.last.level other
  fitting_here old command other spelled is =
      let format = old.book.work.format in
      subst (IsFitting format old.book.last.level) is (spelled_fits format old.book.last.level command old.book.next.format.0 old.book.next.format.1 spelled)

  pub fitting_of : (old : Session W D) (command other : Command) → Spelled old.book.work.format old.book.last.level command → command ≡ other
      → (s : State) → IsAtState old s → IsFitting s.last.format s.last.level other
  fitting_of old command other spelled is s at =
      subst (λ (f : ℕ). IsFitting f s.last.level other) (format_is old s at)
      (subst (λ (n : ℕ). IsFitting old.book.work.format n other) (sym at.last.head.level) (fitting_here old command other spelled is))

  module _ (old new : Session W D) (command other : Command) (same : other ≡ command) where
    abbrev Says : Reply → Type 0
    Says reply = (s : State) → IsAtState old s → Answered s other old new reply

    answer_of : (r : Result Reply Stop) → IfOk r Says
        → IfOk r (λ reply. (s : State) → IsAtState old s → Tells reply (answer s command).reply × IsAtState new (after s command))
    answer_of (Err e) h = tt
    answer_of (Ok reply) h = λ s at. let a = subst (λ (x : Command). Answered s x old new reply) same (h s at) in (a.tells, a.at)

    changes_are : (r : Result Reply Stop) → IfOk r Says
        → IfOk r (λ reply. (s : State) → IsAtState old s → changes_of new ≡ changes_after s command (changes_of old))
    unfolding changes_of
    changes_are (Err e) h = tt
    changes_are (Ok reply) h = λ s at. let a = subst (λ (x : Command). Answered s x old new reply) same (h s at) in a.count

    refused_keeps : (r : Result Reply Stop) → IfOk r Says → IfOk r (λ reply. IsRefusal reply → (s : State) → IsAtState old s → IsAtState new s)
    refused_keeps (Err e) h = tt
    refused_keeps (Ok (given.Ok text)) h = λ no_. absurd no_
    refused_keeps (Ok (given.No code)) h = λ refused s at.
        let a = subst (λ (x : Command). Answered s x old new (given.No code)) same (h s at) in
        subst (λ (x : State). IsAtState new x) (refused_after s command code a.tells) a.at

  -- ---- what is left as it was
  pub refused_still : (old new : Session W D) (r : Result Reply Stop) → KeepsAll old new → IfOk r (Refuses old new)
  refused_still old new (Ok reply) keeps = λ no_. (keeps.book.later.2.1, keeps.changes)
  refused_still old new (Err e) keeps = tt

  pub keeps_state : (old new : Session W D) → IsLawful (D.size new.book.world) (D.told new.book.world) → KeepsAll old new → (s : State)
      → IsAtState old s → IsAtState new s
  keeps_state old new law keeps s at =
      let r = keeps_at old new.book new.warm s keeps.book law at in
      record {
        tale = r.tale;
        told = r.told;
        lawful = r.lawful;
        ready = r.ready;
        last = subst (λ (es : List Entry). IsPublishedAs new.book r.tale es s.last) (sym keeps.last) r.last;
        pages = r.pages;
        pages_told = r.pages_told;
        work = subst (λ (es : List Entry).
            IsSpelled (Some r.pages) (free_of new.book) (books.pages_of new.book) (books.work_of new.book) es s.work) (sym keeps.catalog) r.work;
        format = r.format;
        level = r.level;
        quota = r.quota;
        few = subst (λ k. (changed_of new.book ≤ 9 * k) ⊎ (k ≡ last_count)) (sym keeps.changes) r.few;
        bounded = subst (λ k. k ≤ last_count) (sym keeps.changes) r.bounded;
      }

  module _ (old new : Session W D) where
    whole_of : new ≡ old → IsWholeBy IsAtState old new
    whole_of e = record {
      book = ap (λ (x : Session W D). x.book) e;
      catalog = ap (λ (x : Session W D). x.catalog) e;
      last = ap (λ (x : Session W D). x.last) e;
      changes = ap (λ (x : Session W D). x.changes) e;
      at = λ s at. subst (λ (x : Session W D). IsAtState x s) (sym e) at;
    }

    -- it is whole where it gives an edition
    whole_giving : (c : Command) (r : Result Reply Stop) → IfErr r (λ stop. stop ≡ stops.Memory → new ≡ old)
        → IfErr r (λ stop. stop ≡ stops.Memory → (gives_edition c || goes_back c) ≡ true → IsWholeBy IsAtState old new)
    whole_giving c (Ok reply) h = tt
    whole_giving c (Err e) h = λ is some. whole_of (h is)

    quiet_giving : (c : Command) (r : Result Reply Stop) → IfErr r (λ stop. stop ≡ stops.Memory → new ≡ old)
        → IfErr r (λ stop. stop ≡ stops.Memory → gives_edition c ≡ true → new.book.world ≡ old.book.world)
    quiet_giving c (Ok reply) h = tt
    quiet_giving c (Err e) h = λ is some. ap (λ (x : Session W D). x.book.world) (h is)

    -- and where it goes back
    whole_going : (c : Command) (r : Result Reply Stop) → gives_edition c ≡ false → (goes_back c ≡ true → OnErr r (new ≡ old))
        → IfErr r (λ stop. stop ≡ stops.Memory → (gives_edition c || goes_back c) ≡ true → IsWholeBy IsAtState old new)
    whole_going c (Ok reply) quiet h = tt
    whole_going c (Err e) quiet h = λ is some. whole_of (h (subst (λ (b : Bool). (b || goes_back c) ≡ true) quiet some))

    quiet_going : (c : Command) (r : Result Reply Stop) → gives_edition c ≡ false
        → IfErr r (λ stop. stop ≡ stops.Memory → gives_edition c ≡ true → new.book.world ≡ old.book.world)
    quiet_going c (Ok reply) quiet = tt
    quiet_going c (Err e) quiet = λ is some. absurd (both_ways (gives_edition c) quiet some)

    kept_head : (r : Result Reply Stop) → IfOk r (Refuses old new)
        → IfOk r (λ reply. IsRefusal reply → (head_of new ≡ head_of old) × (format_of new ≡ format_of old) × (changes_of new ≡ changes_of old))
    unfolding head_of format_of changes_of
    kept_head (Ok reply) h = λ no_. let k = h no_ in (k.0, ap (λ (x : Head). x.format) k.0, k.1)
    kept_head (Err e) h = tt

    ready_on : books.IsReady old.book → books.GoesOn old.book new.book → IsSessionReady new
    unfolding IsSessionReady
    ready_on ready goes = goes.1 ∙ ready

  -- ---- a book that goes on
  module _ (old new : Session W D) (goes : books.GoesOn old.book new.book) where
    level_on : level_of new ≡ level_of old
    unfolding level_of
    level_on = ap (λ (h : Head). h.level) goes.2

    events_on : Goes (AddsOnly is_of_pages) (D.told (session_world old)) (D.told (session_world new))
    unfolding session_world
    events_on =
        goes_map (IsLater old.book.journal.pages) (AddsOnly is_of_pages) (D.told old.book.world) (D.told new.book.world)
        (λ t u is l. record { file = l.tries.file; events = l.tries.added; log = l.tries.log; only = only_pages l.tries.added l.tries.only }) goes.4

    input_on : Goes (λ old new. new.input ≡ old.input) (D.told (session_world old)) (D.told (session_world new))
    unfolding session_world
    input_on =
        goes_map (IsLater old.book.journal.pages) (λ t u. u.input ≡ t.input) (D.told old.book.world) (D.told new.book.world) (λ t u is l. l.tries.input) goes.4

    leaves_from : (command : Command) (s : State) → IsAtState old s → (t u : Tale) → D.told old.book.world ≡ Some t
        → IsLater old.book.journal.pages t u → LeavesEdition s command t u
    leaves_from command s at t u told later =
        let n = old.book.journal.pages in
        let same : at.tale ≡ t = let e : Some at.tale ≡ Some t = sym at.told ∙ told in cc in
        let law = subst (λ (x : Tale). IsConsistent x) same at.lawful in
        let last = subst (λ (x : Tale). IsPublishedAs old.book x old.last s.last) same at.last in
        let home_is = seen_home n old.book.journal.changed t law (book_idle old.book t told at.ready).work.idle in
        let stays = later.stays (subst (λ (p : Pages). LeavesNow t (HasHome n p)) (sym home_is) (book_leaves old.book t told at.ready)) in
        record {
          since = since_weaker t u (HasHome n (home t.seen n)) (StandsFor s command) stays
              (λ image has. inl (book_stands old.book t told at.ready old.last s.last image last (subst (λ (p : Pages). HasHome n p image) home_is has)));
        }

    leaves_on : (command : Command) (s : State) → IsAtState old s → Goes (LeavesEdition s command) (D.told (session_world old)) (D.told (session_world new))
    unfolding session_world
    leaves_on command s at = goes_map (IsLater old.book.journal.pages) (LeavesEdition s command) (D.told old.book.world) (D.told new.book.world)
        (λ t u is l. leaves_from command s at t u is l) goes.4

    few_on : (command : Command) → gives_edition command ≡ false → (s : State)
        → Goes (CommandWritesFew s command (changes_of old)) (D.told (session_world old)) (D.told (session_world new))
    unfolding session_world changes_of
    few_on command quiet s =
        goes_map (IsLater old.book.journal.pages) (CommandWritesFew s command old.changes) (D.told old.book.world) (D.told new.book.world)
        (λ t u is l some. absurd (let no_ : false ≡ true = sym (ap (λ (o : Option Edition). is_some o) (quiet_none s command quiet)) ∙ some in cc)) goes.4

-- ---- a session that may give an edition
abbrev pub WritesPages : Option Tale → Option Tale → Type 0
WritesPages a b = Goes (λ old new. (most : ℕ) × Writing most old new) a b

writing_events : (a b : Option Tale) → WritesPages a b → Goes (AddsOnly is_of_pages) a b
writing_events a b w = goes_map (λ old new. (most : ℕ) × Writing most old new) (AddsOnly is_of_pages) a b
    (λ t u is x. record { file = x.1.file; events = x.1.added; log = x.1.log; only = x.1.only }) w

writing_input : (a b : Option Tale) → WritesPages a b → Goes (λ old new. new.input ≡ old.input) a b
writing_input a b w = goes_map (λ old new. (most : ℕ) × Writing most old new) (λ t u. u.input ≡ t.input) a b (λ t u is x. x.1.input) w

writing_few : (a b : Option Tale) (s : State) (command : Command) (k : ℕ) → Goes (Writing (18 * k + 8)) a b → Goes (CommandWritesFew s command k) a b
writing_few a b s command k w = goes_map (Writing (18 * k + 8)) (CommandWritesFew s command k) a b (λ t u is x some. x) w

on_ok : {T E : Type 0} (P : Type 0) (r : Result T E) → P → OnOk r P
on_ok P (Ok x) h = h
on_ok P (Err e) h = tt

pub sound_at : {T : Type 0} (At : State → Type 0) (r : Result T Stop) → IfErr r IsNotDamage → IfErr r (λ e. (s : State) → At s → IsNotDamage e)
sound_at At (Ok x) h = tt
sound_at At (Err e) h = λ s at. h

module _ {W : Type 0} {D : disk.Ghosts W} (old new : Session W D) (command other : Command) (same : other ≡ command) (r : Result Reply Stop)
    (answers : IfOk r (λ reply. (s : State) → IsAtState old s → Answered s other old new reply))
    (sound : IfErr r (λ e. (s : State) → IsAtState old s → IsNotDamage e))
    (cause : HasStopCause (D.faults old.book.world) (D.faults new.book.world) r)
    (reads : (s : State) → IsAtState old s → IsPromised s command r → ReadsFew s command (reads_in old.book) (reads_in new.book))
    (refuses : IfOk r (Refuses old new)) where
  -- a command that gives no edition: a revert calls no device, and a question leaves the state
  pub applied_going : books.IsReady old.book → books.GoesOn old.book new.book → gives_edition command ≡ false
      → (goes_back command ≡ true → (new.book.world ≡ old.book.world) × OnErr r (new ≡ old))
      → (asks command ≡ true → (s : State) → IsAtState old s → IsAtState new s) → IsAppliedBy IsAtState command old new r
  unfolding session_world reads_of
  applied_going ready goes quiet back stays = record {
    answer = answer_of old new command other same r answers;
    refused = refused_keeps old new command other same r answers;
    changes = changes_are old new command other same r answers;
    level = on_ok (level_of new ≡ level_of old) r (level_on old new goes);
    later = cause.later;
    device = device_of (D.faults old.book.world) (D.faults new.book.world) r cause;
    damaged = damaged_of (IsAtState old) r sound;
    door = goes.3;
    events = events_on old new goes;
    input = input_on old new goes;
    crash = leaves_on old new goes command;
    writes = λ s at. few_on old new goes command quiet s;
    reads = reads;
    ready = on_ok (IsSessionReady new) r (ready_on old new ready goes);
    kept = kept_head old new r refuses;
    stays = stays;
    whole = whole_going old new command r quiet (λ is. (back is).1);
    quiet = quiet_going old new command r quiet;
    back = λ is. (back (ap goes_back is)).0;
  }

  -- and one that may give one
  pub applied_giving : gives_edition command ≡ true → OnOk r (books.IsReady new.book) → IfErr r (λ stop. stop ≡ stops.Memory → new ≡ old)
      → OnOk r (new.book.last.level ≡ old.book.last.level) → D.door new.book.world ≡ D.door old.book.world
      → WritesPages (D.told old.book.world) (D.told new.book.world)
      → ((s : State) → IsAtState old s → Goes (LeavesEdition s other) (D.told old.book.world) (D.told new.book.world))
      → ((s : State) → IsAtState old s → Goes (Writing (18 * old.changes + 8)) (D.told old.book.world) (D.told new.book.world))
      → IsAppliedBy IsAtState command old new r
  unfolding session_world level_of changes_of reads_of IsSessionReady
  applied_giving gives ready whole level door events crash writes = record {
    answer = answer_of old new command other same r answers;
    refused = refused_keeps old new command other same r answers;
    changes = changes_are old new command other same r answers;
    level = level;
    later = cause.later;
    device = device_of (D.faults old.book.world) (D.faults new.book.world) r cause;
    damaged = damaged_of (IsAtState old) r sound;
    door = door;
    events = writing_events (D.told old.book.world) (D.told new.book.world) events;
    input = writing_input (D.told old.book.world) (D.told new.book.world) events;
    crash = λ s at. subst (λ (c : Command). Goes (LeavesEdition s c) (D.told old.book.world) (D.told new.book.world)) same (crash s at);
    writes = λ s at. writing_few (D.told old.book.world) (D.told new.book.world) s command old.changes (writes s at);
    reads = reads;
    ready = ready;
    kept = kept_head old new r refuses;
    stays = λ is. absurd (both_ways (asks command) (gives_else command gives).1 is);
    whole = whole_giving old new command r whole;
    quiet = quiet_giving old new command r whole;
    back = λ is. absurd (both_ways (goes_back command) (gives_else command gives).0 (ap goes_back is));
  }

-- a command that only asks: all of the session stays but the last pixel, and the pages that its answer reads are few
module _ {W : Type 0} {D : disk.Ghosts W} (old new : Session W D) (command other : Command) (is : command ≡ other) (r : Result Reply Stop) where
  pub applied_asking : asks other ≡ true → books.IsReady old.book → IsLawful (D.size new.book.world) (D.told new.book.world)
      → IfOk r (λ reply. (s : State) → IsAtState old s → Answered s other old new reply) → IfErr r (λ e. (s : State) → IsAtState old s → IsNotDamage e)
      → HasStopCause (D.faults old.book.world) (D.faults new.book.world) r → KeepsAll old new
      → ((s : State) → IsAtState old s → IsPromised s command r → ReadsFew s command (reads_in old.book) (reads_in new.book))
      → IsAppliedBy IsAtState command old new r
  applied_asking asking ready law answers sound cause keeps reads =
      let only = asks_only command (ap asks is ∙ asking) in
      applied_going old new command other (sym is) r answers sound cause reads (refused_still old new r keeps) ready
      (goes_of old.book new.book keeps.book.later) only.0 (λ back. absurd (both_ways (goes_back command) only.1 back)) (λ is. keeps_state old new law keeps)

-- behind the pages of another last pixel, which are held, it is what is promised above this crate
module _ {W : Type 0} {D : disk.Ghosts W} (old new : Session W D) (w : Option (List ℕ × Pixel)) where
  pub applied_warm : (command : Command) (r : Result Reply Stop)
      → IsWarm (record { book = new.book; catalog = new.catalog; last = new.last; changes = new.changes; warm = w; alloc = new.alloc })
      → IsAppliedBy IsAtState command old new r
      → IsApplied command old (record { book = new.book; catalog = new.catalog; last = new.last; changes = new.changes; warm = w; alloc = new.alloc }) r
  unfolding IsAt session_world level_of head_of format_of changes_of reads_of IsSessionReady
  applied_warm command r warm h = record {
    answer = if_ok _ _ r (λ reply p s at. let a = p s at.at in (a.0, record { at = warm_at {D = D} new w (after s command) a.1; warm = warm })) h.answer;
    refused = if_ok _ _ r (λ reply p no_ s at. record { at = warm_at {D = D} new w s (p no_ s at.at); warm = warm }) h.refused;
    changes = if_ok _ _ r (λ reply p s at. p s at.at) h.changes;
    level = h.level;
    later = h.later;
    device = h.device;
    damaged = if_err _ _ r (λ e p page is s at. p page is s at.at) h.damaged;
    door = h.door;
    events = h.events;
    input = h.input;
    crash = λ s at. h.crash s at.at;
    writes = λ s at. h.writes s at.at;
    reads = λ s at. h.reads s at.at;
    ready = h.ready;
    kept = h.kept;
    stays = λ is s at. record { at = warm_at {D = D} new w s (h.stays is s at.at); warm = warm };
    whole = if_err _ _ r (λ e p is some. let k = p is some in record {
      book = k.book;
      catalog = k.catalog;
      last = k.last;
      changes = k.changes;
      at = λ s at. record { at = warm_at {D = D} new w s (k.at s at.at); warm = warm };
    }) h.whole;
    quiet = h.quiet;
    back = h.back;
  }
