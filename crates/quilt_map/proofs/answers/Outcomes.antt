-- Commands that are refused or change nothing, and those that give an edition.
use Rattle.std.specs.Prelude.{if◌then◌else◌, codes, decimal}
use Rattle.std.proofs.Common.{◌≡◌, ◌⊎◌, inl, inr, ⊎_elim, ℕ, ◌+◌, ◌*◌, ◌≤◌, ◌==◌, min, Bool, true, false, ◌||◌, List, [], ◌∷◌, Option, Some, None, is_some}
use Rattle.std.proofs.Common.{IfSome, refl, sym, ◌∙◌, ap, subst, arith}
use Rattle.std.proofs.Math.Nat.{min-eq_left}
use Rattle.std.proofs.lemmas.Bool.{cases_Bool, cases_lt, eqb-false}
use Rattle.quilt_btree.proofs.subtrees.Walks.{same_number}
use Rattle.quilt_types.specs.Facts.{changes, quota}
use Rattle.quilt_types.specs.Layers.{Edition}
use Rattle.quilt_types.specs.declared.code.Code.TheVariants as no
use Rattle.quilt_world.specs.Tale.{Tale, Goes}
use Rattle.quilt_world.specs.declared.disk.Disk as disk
use Rattle.quilt_world.proofs.StopLaws.{since_here, since_weaker}
use Rattle.quilt_words.specs.declared.command.Command.{Command}
use Rattle.quilt_words.specs.declared.command.Command.TheVariants as commands
use Rattle.quilt_spell.proofs.Commands.{upgrade_spells}
use Rattle.quilt_spell.proofs.Looping.{changes_none}
use Rattle.quilt_journal.specs.Kept.{published}
use Rattle.quilt_record.specs.declared.entry.Entry.{Entry}
use Rattle.quilt_node.specs.declared.head.Head.{Head}
use Rattle.quilt_spell.specs.Spelled.{SpellsUnder}
use Rattle.quilt_edition.specs.declared.book.Book.{Book}
use Rattle.quilt_edition.specs.Books as books
use Rattle.quilt_edition.specs.Stands.{Stands}
use Rattle.quilt_replies.specs.Answers.{State, Outcome, Reply, Refused, Done, answer, unless, no_more_editions, edition_after, upgraded, publishes_it}
use Rattle.quilt_map.specs.Commanding.{Answered}
use Rattle.quilt_map.specs.Renewing.{CanPublish, IsRenewed, LeavesEither}
use Rattle.quilt_map.specs.Sessions.{IsAtState, IsSpelled, told_of, free_of, changed_of, last_count}
use Rattle.quilt_replies.specs.States.{Tells, after, after_outcome}
use Rattle.quilt_map.specs.Steps.{LeavesEdition, StandsFor, StandsForNew, changes_after, goes_back}
use Rattle.quilt_replies.specs.Runs.{text_of}
use Rattle.quilt_lang.specs.Trials.{spaced}
use Rattle.quilt_replies.specs.declared.reply.Reply as replies
use Rattle.quilt_replies.specs.declared.reply.Reply.TheVariants as given
use Rattle.quilt_map.specs.declared.session.Session.{Session}
use Rattle.quilt_map.proofs.states.Keeping.{book_leaves, book_stands}
use Rattle.quilt_map.proofs.states.Moving.{published_as, spelled_as, with_book, whole_free}

-- ---- an outcome that changes nothing

abbrev pub nothing_done : State → Reply → Outcome
nothing_done s r = record { reply = r; work = s.work; published = None }

module _ (s : State) (command : Command) (r : Reply) (e : answer s command ≡ nothing_done s r) where
  pub same_after : after s command ≡ s
  same_after = ap (λ (o : Outcome). after_outcome s o) e

  pub same_reply : (answer s command).reply ≡ r
  same_reply = ap (λ (o : Outcome). o.reply) e

  pub same_count : (c : ℕ) → goes_back command ≡ false → c ≤ last_count → changes_after s command c ≡ c
  same_count c forward low =
      ap (λ (b : Bool). if b then 0 else min (c + changes s.last.level s.work (answer s command).work) last_count)
      (ap (λ (o : Outcome). is_some o.published || goes_back command) e ∙ forward)
      ∙ ap (λ (o : Outcome). min (c + changes s.last.level s.work o.work) last_count) e
      ∙ ap (λ k. min (c + k) last_count) (changes_none s.last.level s.work)
      ∙ min-eq_left {n = c + 0} {m = last_count} (omega arith) ∙ omega arith

-- ---- publish and upgrade

pub not_equal : (a b : ℕ) → (a ≡ b → ⊥) → (a == b) ≡ false
not_equal a b apart = ⊎_elim (λ t. absurd (apart (same_number a b t))) (λ f. f) (cases_Bool (a == b))

pub publish_full : (s : State) → (s.last.number == 4294967295) ≡ true → answer s commands.Publish ≡ nothing_done s (Refused no.Editions)
unfolding answer
publish_full s e = ap (λ (b : Bool). unless ((b, no.Editions) ∷ []) s (publishes_it s (edition_after s))) e

pub publish_gives : (s : State) → (s.last.number == 4294967295) ≡ false → answer s commands.Publish ≡ publishes_it s (edition_after s)
unfolding answer
publish_gives s e = ap (λ (b : Bool). unless ((b, no.Editions) ∷ []) s (publishes_it s (edition_after s))) e

pub upgrade_again : (s : State) → (s.last.format == 2) ≡ true → answer s commands.Upgrade ≡ nothing_done s (Refused no.Format)
unfolding answer
upgrade_again s e = ap (λ (b : Bool). unless ((b, no.Format) ∷ no_more_editions s ∷ []) s (publishes_it s (upgraded s))) e

pub upgrade_full : (s : State) → (s.last.format == 2) ≡ false → (s.last.number == 4294967295) ≡ true
    → answer s commands.Upgrade ≡ nothing_done s (Refused no.Editions)
unfolding answer
upgrade_full s f e =
    ap (λ (b : Bool). unless ((b, no.Format) ∷ no_more_editions s ∷ []) s (publishes_it s (upgraded s))) f
    ∙ ap (λ (b : Bool). unless ((b, no.Editions) ∷ []) s (publishes_it s (upgraded s))) e

pub upgrade_gives : (s : State) → (s.last.format == 2) ≡ false → (s.last.number == 4294967295) ≡ false → answer s commands.Upgrade ≡ publishes_it s (upgraded s)
unfolding answer
upgrade_gives s f e =
    ap (λ (b : Bool). unless ((b, no.Format) ∷ no_more_editions s ∷ []) s (publishes_it s (upgraded s))) f
    ∙ ap (λ (b : Bool). unless ((b, no.Editions) ∷ []) s (publishes_it s (upgraded s))) e

-- where the command gives an edition
pub leaves_given : (s : State) (command : Command) (e : Edition) (a b : Option Tale) → (answer s command).published ≡ Some e
    → Goes (LeavesEither s.last e) a b → Goes (LeavesEdition s command) a b
leaves_given s command e None None is goes = tt
leaves_given s command e None (Some u) is goes = absurd goes
leaves_given s command e (Some t) None is goes = absurd goes
leaves_given s command e (Some t) (Some u) is goes = record {
  since = since_weaker t u (λ image. Stands image s.last ⊎ Stands image e) (StandsFor s command) goes.since
      (λ image. ⊎_elim (λ l. inl l) (λ r. inr (subst (λ (o : Option Edition). StandsForNew o image) (sym is) r)));
}

pub tells_edition : (s : State) (e : Edition) (text : List ℕ) (k : ℕ) → k ≡ e.number
    → text ≡ text_of (Done (spaced (codes "edition" ∷ decimal k ∷ []) ∷ [])) → Tells (given.Ok text) (publishes_it s e).reply
tells_edition s e text k number is = (is ∙ ap (λ m. text_of (Done (spaced (codes "edition" ∷ decimal m ∷ []) ∷ []))) number, refl)

is_one : (a b : ℕ) → a ≡ b → (1 ≤ b) × (b ≤ 2) → (a ≡ 2 → ⊥) → b ≡ 1
is_one a b same range apart = ⊎_elim (λ more. absurd (apart (omega arith))) (λ less. omega arith) (cases_lt 1 b)

module _ {W : Type 0} {D : disk.Ghosts W} where
  -- a session that was not touched, where the command changes nothing
  pub answered_same : (s : State) (command : Command) (old new : Session W D) (r : Reply) (given : replies.Reply)
      → answer s command ≡ nothing_done s r → goes_back command ≡ false
      → Tells given r → new.changes ≡ old.changes → IsAtState old s → IsAtState new s → Answered s command old new given
  answered_same s command old new r given e forward tells count was at = record {
    tells = subst (λ (x : Reply). Tells given x) (sym (same_reply s command r e)) tells;
    at = subst (λ (x : State). IsAtState new x) (sym (same_after s command r e)) at;
    count = count ∙ sym (same_count s command r e old.changes forward was.bounded);
  }

  -- a stop leaves the last edition
  pub leaves_last : (session : Session W D) (s : State) (command : Command) → IsAtState session s
      → Goes (LeavesEdition s command) (D.told session.book.world) (D.told session.book.world)
  leaves_last session s command at =
      let leaves = book_leaves session.book at.tale at.told at.ready in
      subst (λ (o : Option Tale). Goes (LeavesEdition s command) o o) (sym at.told) (record {
        since = since_here at.tale (StandsFor s command)
            (λ image left. inl (book_stands session.book at.tale at.told at.ready session.last s.last image at.last (leaves image left)));
      })

  -- what may become the next edition
  pub can_publish : (session : Session W D) (s : State) → IsAtState session s → CanPublish session s (edition_after s)
  can_publish session s at = record {
    tale = at.tale;
    told = at.told;
    lawful = at.lawful;
    ready = at.ready;
    last = at.last;
    pages = at.pages;
    pages_told = at.pages_told;
    work = at.work;
    head = record {
      format = at.last.head.format ∙ sym at.format;
      number = ap (λ k. k + 1) at.last.head.number;
      level = at.last.head.level ∙ sym at.level;
    };
    layers = refl;
    quota = at.quota;
    few = at.few;
  }

  pub answered_given : (s : State) (command : Command) (e : Edition) (old new : Session W D) (given : replies.Reply)
      → answer s command ≡ publishes_it s e → Tells given (publishes_it s e).reply
      → IsRenewed new s e → Answered s command old new given
  answered_given s command e old new given is tells renewed = record {
    tells = subst (λ (o : Outcome). Tells given o.reply) (sym is) tells;
    at = subst (λ (o : Outcome). IsAtState new (after_outcome s o)) (sym is) renewed.at;
    count =
        renewed.count
        ∙ sym (ap (λ (o : Outcome). if is_some o.published || goes_back command then 0
        else min (old.changes + changes s.last.level s.work o.work) last_count) is);
  }

  -- the work may become the next edition in format 2, once the header is raised
  pub can_upgrade : (session : Session W D) (b : Book W D) (s : State) → (at : IsAtState session s) → (s.last.format == 2) ≡ false
      → b.work ≡ record session.book.work { format = 2 } → b.last ≡ session.book.last
      → books.published_free b ≡ books.published_free session.book → free_of b ≡ free_of session.book → changed_of b ≡ changed_of session.book
      → b.world ≡ session.book.world
      → books.GoesOn session.book b → told_of b ≡ told_of session.book → CanPublish (with_book session b) s (upgraded s)
  can_upgrade session b s at first work last used free changed world goes told =
      let size = goes.0 in
      let one = is_one s.last.format session.book.last.format at.last.head.format session.book.published.format (eqb-false s.last.format 2 first) in
      let old_one : session.book.work.format ≡ 1 = at.format ∙ one in
      let spelled = upgrade_spells session.book.work.level at.work.numbers at.work.records s.work
      (subst (λ f. SpellsUnder f session.book.work.level at.work.numbers at.work.records s.work) old_one at.work.spelled) in
      let raised : IsSpelled (Some at.pages) (free_of session.book) session.book.journal.pages (record session.book.work { format = 2 })
      session.catalog s.work = record {
        numbers = at.work.numbers;
        records = at.work.records;
        whole = at.work.whole;
        spelled = spelled;
        catalog = at.work.catalog;
      } in
      record {
        tale = at.tale;
        told = ap (λ (w : W). D.told w) world ∙ at.told;
        lawful = at.lawful;
        ready = goes.1 ∙ at.ready;
        last = published_as session.book b at.tale at.tale session.last s.last size last used (ap (λ n. published at.tale n) size) at.last;
        pages = at.pages;
        pages_told = told ∙ at.pages_told;
        work = spelled_as _ _ _ _ _ _ _ _ session.catalog s.work refl free size work raised;
        head = record {
          format = sym (ap (λ (h : Head). h.format) work);
          number = ap (λ k. k + 1) (at.last.head.number ∙ sym (ap (λ (h : Head). h.edition) last));
          level = at.last.head.level ∙ sym at.level ∙ sym (ap (λ (h : Head). h.level) work);
        };
        layers = refl;
        quota = at.quota ∙ sym (ap quota size);
        few = subst (λ k. (k ≤ 9 * session.changes) ⊎ (session.changes ≡ last_count)) (sym changed) at.few;
      }

  -- the work is the last edition again
  pub is_reverted : (session : Session W D) (b : Book W D) (s : State) (entries : List Entry) → IsAtState session s → entries ≡ session.last
      → b.work ≡ session.book.last → b.last ≡ session.book.last
      → ((page : ℕ) → free_of b page ≡ books.published_free session.book page) → books.published_free b ≡ books.published_free session.book
      → changed_of b ≡ 0 → b.world ≡ session.book.world
      → books.GoesOn session.book b → IfSome (D.told b.world) (λ t. told_of b ≡ Some (published t b.journal.pages))
      → IsAtState (record { book = b; catalog = entries; last = session.last; changes = 0; warm = session.warm; alloc = session.alloc })
      (record { quota = s.quota; last = s.last; work = s.last.layers })
  is_reverted session b s entries at same work last free used changed world goes told =
      let size = goes.0 in
      let tale = ap (λ (w : W). D.told w) world ∙ at.told in
      let pages = ap (λ n. published at.tale n) size in
      let spelled = at.last.spelled in
      let again : IsSpelled (Some (published at.tale session.book.journal.pages))
      (free_of b) session.book.journal.pages session.book.last session.last s.last.layers = record {
        numbers = spelled.numbers;
        records = spelled.records;
        whole = whole_free (Some (published at.tale session.book.journal.pages)) (books.published_free session.book)
            (free_of b) session.book.journal.pages _ spelled.records free spelled.whole;
        spelled = spelled.spelled;
        catalog = spelled.catalog;
      } in
      record {
        tale = at.tale;
        told = tale;
        lawful = at.lawful;
        ready = goes.1 ∙ at.ready;
        last = published_as session.book b at.tale at.tale session.last s.last size last used pages at.last;
        pages = published at.tale b.journal.pages;
        pages_told = subst (λ (o : Option Tale). IfSome o (λ t. told_of b ≡ Some (published t b.journal.pages))) tale told;
        work = subst (λ (es : List Entry). IsSpelled (Some (published at.tale b.journal.pages)) (free_of b) b.journal.pages b.work es s.last.layers) (sym same)
            (spelled_as _ _ _ _ _ _ _ _ session.last s.last.layers (ap Some pages) refl size work again);
        format = ap (λ (h : Head). h.format) work ∙ sym (ap (λ (h : Head). h.format) last);
        level = ap (λ (h : Head). h.level) work ∙ sym (ap (λ (h : Head). h.level) last);
        quota = at.quota ∙ sym (ap quota size);
        few = inl (omega arith);
        bounded = omega arith;
      }

pub revert_is : (s : State) → answer s commands.Revert ≡ record { reply = Done []; work = s.last.layers; published = None }
unfolding answer
revert_is s = refl

pub reverted_count : (s : State) (c : ℕ) → changes_after s commands.Revert c ≡ 0
reverted_count s c =
    ap (λ (o : Outcome). if is_some o.published || goes_back commands.Revert then 0 else min (c + changes s.last.level s.work o.work) last_count) (revert_is s)

module _ {W : Type 0} {D : disk.Ghosts W} where
  pub answered_reverted : (s : State) (old new : Session W D) (text : List ℕ) → text ≡ text_of (Done [])
      → IsAtState new (record { quota = s.quota; last = s.last; work = s.last.layers }) → new.changes ≡ 0
      → Answered s commands.Revert old new (given.Ok text)
  answered_reverted s old new text is at none = record {
    tells = subst (λ (o : Outcome). Tells (given.Ok text) o.reply) (sym (revert_is s)) (is, refl);
    at = subst (λ (o : Outcome). IsAtState new (after_outcome s o)) (sym (revert_is s)) at;
    count = none ∙ sym (reverted_count s old.changes);
  }
