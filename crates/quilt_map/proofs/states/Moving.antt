-- A session whose book goes on stands for what it stood for.
use Rattle.std.proofs.Common.{◌≡◌, ◌⊎◌, inl, inr, ⊎_elim, ℕ, ◌+◌, ◌*◌, ◌≤◌, Bool, cond, List, length, Option, Some, None, IfSome, refl, sym, ◌∙◌, ap, subst}
use Rattle.std.proofs.Common.{arith}
use Rattle.quilt_types.specs.Facts.{quota}
use Rattle.quilt_types.specs.Layers.{Map, Edition}
use Rattle.quilt_world.specs.Added.{AddsOnly, is_of_text}
use Rattle.quilt_world.specs.Disk.{Pages}
use Rattle.quilt_world.specs.Tale.{Tale, IsConsistent, Goes}
use Rattle.quilt_world.specs.declared.disk.Disk as disk
use Rattle.quilt_journal.specs.Changed.{View}
use Rattle.quilt_journal.specs.Kept.{published}
use Rattle.quilt_journal.specs.declared.journal.State.TheVariants.{Idle}
use Rattle.quilt_journal.proofs.TextSteps.{kept_text}
use Rattle.quilt_record.specs.declared.entry.Entry.{Entry}
use Rattle.quilt_record.specs.declared.record.Record.{Record}
use Rattle.quilt_node.specs.declared.head.Head.{Head}
use Rattle.quilt_btree.specs.declared.tree.Tree.{Tree}
use Rattle.quilt_btree.specs.Edits.{IsWhole, multiplicity}
use Rattle.quilt_spell.specs.Spelled.{SpellsUnder}
use Rattle.quilt_pool.specs.Views.{entries_of}
use Rattle.quilt_pool.specs.declared.pool.Pool.{Pool}
use Rattle.quilt_edition.specs.declared.book.Book.{Book}
use Rattle.quilt_edition.specs.Books as books
use Rattle.quilt_edition.specs.Keeping.{IsLater, is_left_out, is_free, marked_count}
use Rattle.quilt_replies.specs.Answers.{State}
use Rattle.quilt_map.specs.Sessions.{IsHeadOf, IsSpelled, IsPublishedAs, IsAtWith, IsAtState, IsLaterBook, IsOpened, first_state, tree_in, told_of, free_of}
use Rattle.quilt_map.specs.Sessions.{changed_of, last_count}
use Rattle.quilt_map.specs.declared.session.Session.{Session}
use Rattle.quilt_map.proofs.states.Keeping.{book_idle, published_on}

-- ---- tales

goes_from : (R : Tale → Tale → Type 0) (t : Tale) (b : Option Tale) → Goes R (Some t) b → (u : Tale) × (b ≡ Some u) × R t u
goes_from R t (Some u) goes = (u, refl, goes)
goes_from R t None goes = absurd goes

-- where the world tells its tale, it goes on telling
pub goes_to : (R : Tale → Tale → Type 0) (a b : Option Tale) (t : Tale) → a ≡ Some t → Goes R a b → (u : Tale) × (b ≡ Some u) × R t u
goes_to R a b t e goes = goes_from R t b (subst (λ (o : Option Tale). Goes R o b) e goes)

-- what the law of a disk says of the tale that it tells
abbrev pub IsLawful : ℕ → Option Tale → Type 0
IsLawful size told = IfSome told (λ t. IsConsistent t × (length t.start ≡ size))

pub law_of : (size : ℕ) (told : Option Tale) (t : Tale) → told ≡ Some t → IsLawful size told → IsConsistent t
law_of size told t e law = (subst (λ (o : Option Tale). IsLawful size o) e law).0

-- ---- what is spelled

pub spelled_as : (told now_told : Option Pages) (free now_free : ℕ → Bool) (n m : ℕ) (h k : Head) (entries : List Entry) (layers : Map)
    → now_told ≡ told → now_free ≡ free → m ≡ n → k ≡ h → IsSpelled told free n h entries layers → IsSpelled now_told now_free m k entries layers
spelled_as told now_told free now_free n m h k entries layers told_is free_is size_is head_is spelled =
    subst (λ (o : Option Pages). IsSpelled o now_free m k entries layers) (sym told_is)
    (subst (λ (f : ℕ → Bool). IsSpelled told f m k entries layers) (sym free_is)
    (subst (λ i. IsSpelled told free i k entries layers) (sym size_is)
    (subst (λ (x : Head). IsSpelled told free n x entries layers) (sym head_is) spelled)))

-- a whole tree stays where the same pages are free
pub whole_free : (told : Option Pages) (free now : ℕ → Bool) (n : ℕ) (t : Tree) (rs : List Record) → ((p : ℕ) → now p ≡ free p)
    → IsWhole told free n t rs → IsWhole told now n t rs
whole_free told free now n t rs same whole = record {
  tree = whole.tree;
  number = whole.number;
  balance = λ p low high. ap (λ b. cond b 1 0 + multiplicity p whole.tree.visited) (same p) ∙ whole.balance p low high;
}

module _ {W : Type 0} {D : disk.Ghosts W} where
  -- the session with another book
  abbrev pub with_book : Session W D → Book W D → Session W D
  with_book s b = record { book = b; catalog = s.catalog; last = s.last; changes = s.changes; warm = s.warm; alloc = s.alloc }

  pub published_as : (a b : Book W D) (t u : Tale) (entries : List Entry) (e : Edition) → b.journal.pages ≡ a.journal.pages → b.last ≡ a.last
      → books.published_free b ≡ books.published_free a → published u b.journal.pages ≡ published t a.journal.pages → IsPublishedAs a t entries e
      → IsPublishedAs b u entries e
  published_as a b t u entries e size last free same holds = record {
    head = subst (λ (h : Head). IsHeadOf h e) (sym last) holds.head;
    spelled = spelled_as _ _ _ _ _ _ _ _ entries e.layers (ap Some same) free size last holds.spelled;
  }

  pub free_as : (a b : Book W D) → b.journal.pages ≡ a.journal.pages → b.used ≡ a.used → books.published_free b ≡ books.published_free a
  free_as a b size used = ap (λ n. is_left_out n b.used) size ∙ ap (λ bits. is_left_out a.journal.pages bits) used

  pub counted_as : (a b : Book W D) → b.journal.pages ≡ a.journal.pages → b.pool ≡ a.pool → b.journal.changed ≡ a.journal.changed → changed_of b ≡ changed_of a
  counted_as a b size pool changed =
      ap (λ n. marked_count n (entries_of b.pool) b.journal.changed) size
      ∙ ap (λ (p : Pool). marked_count a.journal.pages (entries_of p) b.journal.changed) pool
      ∙ ap (λ bits. marked_count a.journal.pages (entries_of a.pool) bits) changed

  -- bytes that are taken or put leave the state
  pub text_at : (session : Session W D) (b : Book W D) (s : State) → books.SameBut session.book b → told_of b ≡ told_of session.book
      → Goes (AddsOnly is_of_text) (D.told session.book.world) (D.told b.world) → IsLawful (D.size b.world) (D.told b.world) → IsAtState session s
      → IsAtState (with_book session b) s
  text_at session b s same told goes law at =
      let a = session.book in
      let new = goes_to (AddsOnly is_of_text) (D.told a.world) (D.told b.world) at.tale at.told goes in
      let size : b.journal.pages ≡ a.journal.pages = ap (λ (j : View). j.pages) same.journal in
      let idle = book_idle a at.tale at.told at.ready in
      let pages : published new.0 b.journal.pages ≡ published at.tale a.journal.pages =
      ap (λ n. published new.0 n) size ∙ (kept_text a.journal.pages a.journal.changed at.tale new.0 new.2 Idle idle.work.idle).1 in
      record {
        tale = new.0;
        told = new.1;
        lawful = law_of (D.size b.world) (D.told b.world) new.0 new.1 law;
        ready = ap (λ (j : View). j.state) same.journal ∙ at.ready;
        last = published_as a b at.tale new.0 session.last s.last size same.last (free_as a b size same.used) pages at.last;
        pages = at.pages;
        pages_told = told ∙ at.pages_told;
        work = spelled_as _ _ _ _ _ _ _ _ session.catalog s.work refl
            (ap (λ n. is_free n b.free) size ∙ ap (λ bits. is_free a.journal.pages bits) same.free) size same.work at.work;
        format = ap (λ (h : Head). h.format) same.work ∙ at.format ∙ sym (ap (λ (h : Head). h.format) same.last);
        level = ap (λ (h : Head). h.level) same.work ∙ at.level ∙ sym (ap (λ (h : Head). h.level) same.last);
        quota = at.quota ∙ sym (ap quota size);
        few = subst (λ k. (k ≤ 9 * session.changes) ⊎ (session.changes ≡ last_count))
            (sym (counted_as a b size same.pool (ap (λ (j : View). j.changed) same.journal))) at.few;
        bounded = at.bounded;
      }

  -- calls on the book that leave its pages, the free ones and the heads leave the state
  pub later_at : (session : Session W D) (b : Book W D) (entries : List Entry) (s : State) → IsLaterBook session.book b
      → told_of b ≡ told_of session.book → free_of b ≡ free_of session.book
      → changed_of b ≤ changed_of session.book → IsLawful (D.size b.world) (D.told b.world) → IsAtWith session entries s
      → IsAtWith (with_book session b) entries s
  later_at session b entries s later told free changed law at =
      let a = session.book in
      let size = later.0 in
      let new = goes_to (IsLater a.journal.pages) (D.told a.world) (D.told b.world) at.tale at.told later.4 in
      let lawful = law_of (D.size b.world) (D.told b.world) new.0 new.1 law in
      let ready = later.1 ∙ at.ready in
      record {
        tale = new.0;
        told = new.1;
        lawful = lawful;
        ready = ready;
        last = published_as a b at.tale new.0 session.last s.last size later.2.0 (free_as a b size later.2.2)
            (published_on a b at.tale new.0 at.told new.1 at.ready ready at.lawful lawful size new.2) at.last;
        pages = at.pages;
        pages_told = told ∙ at.pages_told;
        work = spelled_as _ _ _ _ _ _ _ _ entries s.work refl free size later.2.1 at.work;
        format = ap (λ (h : Head). h.format) later.2.1 ∙ at.format ∙ sym (ap (λ (h : Head). h.format) later.2.0);
        level = ap (λ (h : Head). h.level) later.2.1 ∙ at.level ∙ sym (ap (λ (h : Head). h.level) later.2.0);
        quota = at.quota ∙ sym (ap quota size);
        few = ⊎_elim (λ le. inl (omega arith)) (λ e. inr e) at.few;
        bounded = at.bounded;
      }

  -- a session over a book that was just opened
  pub opened_at : (session : Session W D) (e : Edition) → session.last ≡ session.catalog → books.IsReady session.book → changed_of session.book ≡ 0
      → session.book.work ≡ session.book.last → ((page : ℕ) → free_of session.book page ≡ books.published_free session.book page) → session.changes ≡ 0
      → IsOpened session.book session.catalog e → IsAtState session (first_state session.book.journal.pages e)
  opened_at session e catalog ready count heads free none opened =
      let n = session.book.journal.pages in
      let spelled = opened.holds.spelled in
      record {
        tale = opened.tale;
        told = opened.told;
        lawful = opened.lawful;
        ready = ready;
        last = record {
          head = opened.holds.head;
          spelled =
              subst (λ (es : List Entry).
              IsSpelled (Some (published opened.tale n)) (books.published_free session.book) n session.book.last es e.layers) (sym catalog) spelled;
        };
        pages = published opened.tale n;
        pages_told = opened.pages;
        work = record {
          numbers = spelled.numbers;
          records = spelled.records;
          whole = subst (λ (h : Head). IsWhole (Some (published opened.tale n)) (free_of session.book) n (tree_in h) spelled.records) (sym heads)
              (whole_free (Some (published opened.tale n)) (books.published_free session.book) (free_of session.book) n
              (tree_in session.book.last) spelled.records free spelled.whole);
          spelled = subst (λ (h : Head). SpellsUnder h.format h.level spelled.numbers spelled.records e.layers) (sym heads) spelled.spelled;
          catalog = spelled.catalog;
        };
        format = ap (λ (h : Head). h.format) heads;
        level = ap (λ (h : Head). h.level) heads;
        quota = refl;
        few = inl (omega arith);
        bounded = omega arith;
      }
