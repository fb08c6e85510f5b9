-- What a publish leaves of the state, and what a stop leaves while it goes on.
use Rattle.std.proofs.Common.{◌≡◌, ◌⊎◌, inl, inr, ⊎_elim, ℕ, ◌+◌, ◌*◌, ◌<◌, ◌≤◌, Bool, List, [], length, set, Option, Some, None, IfSome, refl, sym, ◌∙◌, ap}
use Rattle.std.proofs.Common.{subst, arith}
use Rattle.std.proofs.lemmas.List.{get_or-set_same}
use Rattle.std.proofs.lemmas.List.FromFn.{length-range_with_len}
use Rattle.std.proofs.lemmas.List.Sums.{length-filter, count_by-le-length}
use Rattle.quilt_types.specs.Facts.{quota}
use Rattle.quilt_types.specs.Plane.{below}
use Rattle.quilt_types.specs.Layers.{Map, Edition}
use Rattle.quilt_world.specs.Disk.{Pages}
use Rattle.quilt_world.specs.Home.{page_of}
use Rattle.quilt_world.specs.Tale.{Tale, Goes}
use Rattle.quilt_world.specs.declared.disk.Disk as disk
use Rattle.quilt_world.proofs.StopLaws.{since_weaker}
use Rattle.quilt_journal.specs.Kept.{HasHome, published}
use Rattle.quilt_journal.specs.Writing.{Writing}
use Rattle.quilt_record.specs.declared.entry.Entry.{Entry}
use Rattle.quilt_record.proofs.Names.{some_same}
use Rattle.quilt_node.specs.declared.head.Head.{Head}
use Rattle.quilt_node.specs.Pages.{IsHeader, header_bytes}
use Rattle.quilt_pool.specs.Views.{entries_of}
use Rattle.quilt_pool.specs.Entries.{Entries, is_marked}
use Rattle.quilt_edition.specs.declared.book.Book.{Book}
use Rattle.quilt_edition.specs.Books as books
use Rattle.quilt_edition.specs.Keeping.{told_pages, work_pages, marked_count}
use Rattle.quilt_edition.specs.Laws.{told_many}
use Rattle.quilt_edition.specs.Publishing.{next_pages}
use Rattle.quilt_edition.specs.Stands.{Stands}
use Rattle.quilt_edition.proofs.Publishing.{goes_more_writes}
use Rattle.quilt_edition.proofs.Steps.{told_idle}
use Rattle.quilt_replies.specs.Answers.{State}
use Rattle.quilt_map.specs.Renewing.{CanPublish, IsRenewed, LeavesEither}
use Rattle.quilt_map.specs.Sessions.{IsHeadOf, IsSpelled, told_of, free_of, changed_of}
use Rattle.quilt_map.specs.declared.session.Session.{Session}
use Rattle.quilt_map.proofs.states.Holding.{stands_with}
use Rattle.quilt_map.proofs.states.Keeping.{book_stands}
use Rattle.quilt_map.proofs.states.Moving.{goes_to, law_of, IsLawful, spelled_as}
use Rattle.quilt_map.proofs.states.ZeroPage.{whole_over}

tells_from : (R : Pages → Pages → Type 0) (t : Pages) (b : Option Pages) → Goes R (Some t) b → (u : Pages) × (b ≡ Some u) × R t u
tells_from R t (Some u) step = (u, refl, step)
tells_from R t None step = absurd step

pub tells_to : (R : Pages → Pages → Type 0) (a b : Option Pages) (t : Pages) → a ≡ Some t → Goes R a b → (u : Pages) × (b ≡ Some u) × R t u
tells_to R a b t e step = tells_from R t b (subst (λ (o : Option Pages). Goes R o b) e step)

-- the same map under another header with the same tree, over pages with another page 0
pub spelled_over : (pages : Pages) (free now : ℕ → Bool) (n : ℕ) (h k : Head) (entries : List Entry) (e : Edition) (bytes : List ℕ)
    → (1 ≤ h.height → 1 ≤ h.root)
    → ((p : ℕ) → now p ≡ free p) → k ≡ record h { edition = k.edition } → (s : IsSpelled (Some pages) free n h entries e.layers)
    → IsSpelled (Some (set pages 0 bytes)) now n k entries e.layers
spelled_over pages free now n h k entries e bytes some same is s =
    subst (λ (x : Head). IsSpelled (Some (set pages 0 bytes)) now n x entries e.layers) (sym is) (record {
      numbers = s.numbers;
      records = s.records;
      whole = whole_over pages free now n (record { root = h.root; height = h.height; records = h.records }) s.records bytes some same s.whole;
      spelled = s.spelled;
      catalog = s.catalog;
    })

marked_most : (n : ℕ) (es : Entries) (changed : List Bool) → marked_count n es changed ≤ n
unfolding marked_count
marked_most n es changed = let few = length-filter (is_marked es changed) (below n) in let all = length-range_with_len 0 n in
    let most = count_by-le-length (is_marked es changed) (below n) in omega arith

module _ {W : Type 0} {D : disk.Ghosts W} (session : Session W D) (s : State) (e : Edition) (can : CanPublish session s e) where
  abbrev n : ℕ
  n = session.book.journal.pages

  abbrev next : Head
  next = record session.book.work { edition = session.book.last.edition + 1 }

  work_is : can.pages ≡ work_pages session.book.journal (entries_of session.book.pool) can.tale
  work_is =
      some_same can.pages (work_pages session.book.journal (entries_of session.book.pool) can.tale)
      (sym can.pages_told ∙ ap (λ (o : Option Tale). told_pages session.book.journal (entries_of session.book.pool) o) can.told
      ∙ told_idle session.book.journal (entries_of session.book.pool) can.tale can.ready)

  next_is : (header : List ℕ) → next_pages n (entries_of session.book.pool) session.book.journal.changed header can.tale ≡ set can.pages 0 header
  unfolding next_pages work_pages
  next_is header = ap (λ (ps : Pages). set ps 0 header) (sym work_is)

  long : length can.pages ≡ n
  long = subst (λ (o : Option Pages). IfSome o (λ pages. length pages ≡ n)) can.pages_told
      (told_many session.book.journal (entries_of session.book.pool) (D.told session.book.world))

  rooted : 1 ≤ session.book.work.height → 1 ≤ session.book.work.root
  rooted some = (session.book.next.tree some).0

  -- the next header, on page 0
  headed : session.book.last.edition < 4294967295 → IsHeader n (page_of (set can.pages 0 (header_bytes next)) 0) next
  headed small = record {
    numbers = record {
      format = session.book.next.format;
      edition = omega arith;
      level = session.book.next.level;
      height = session.book.next.height;
      no_tree = session.book.next.no_tree;
      tree = session.book.next.tree;
      records = session.book.next.records;
    };
    written = get_or-set_same can.pages 0 (header_bytes next) [] (let l = long in let least = session.book.least in omega arith);
  }

  -- the work under the next header, where these pages are free
  spelled_next : (now : ℕ → Bool) → ((p : ℕ) → now p ≡ free_of session.book p)
      → IsSpelled (Some (set can.pages 0 (header_bytes next))) now n next session.catalog e.layers
  spelled_next now same =
      spelled_over can.pages (free_of session.book) now n session.book.work next session.catalog e (header_bytes next) rooted same refl
      (subst (λ (m : Map). IsSpelled (Some can.pages) (free_of session.book) n session.book.work session.catalog m) (sym can.layers) can.work)

  -- at each event a stop leaves the last edition or the next one
  pub leaves_either : (told : Option Tale) → session.book.last.edition < 4294967295 → Goes (books.Publishes session.book) (D.told session.book.world) told
      → Goes (LeavesEither s.last e) (D.told session.book.world) told
  leaves_either told small goes =
      let to = goes_to (books.Publishes session.book) (D.told session.book.world) told can.tale can.told goes in
      subst (λ (o : Option Tale). Goes (LeavesEither s.last e) o told) (sym can.told)
      (subst (λ (o : Option Tale). Goes (LeavesEither s.last e) (Some can.tale) o) (sym to.1) (record {
        since = since_weaker can.tale to.0 _ (λ image. Stands image s.last ⊎ Stands image e) to.2.since (λ image.
            ⊎_elim
            (λ (has : HasHome n (published can.tale n) image).
            inl (book_stands session.book can.tale can.told can.ready session.last s.last image can.last has))
            (λ (has : HasHome n (next_pages n (entries_of session.book.pool) session.book.journal.changed (header_bytes next) can.tale) image).
            inr (stands_with n (set can.pages 0 (header_bytes next)) image (free_of session.book) next session.catalog e (headed small) can.head
            (spelled_next (free_of session.book) (λ p. refl))
            (subst (λ (ps : Pages). HasHome n ps image) (next_is (header_bytes next)) has))));
      }))

  -- it writes few pages
  pub writes_few : (told : Option Tale) → Goes (Writing (2 * changed_of session.book + 5)) (D.told session.book.world) told
      → Goes (Writing (18 * session.changes + 8)) (D.told session.book.world) told
  writes_few told goes =
      goes_more_writes (2 * changed_of session.book + 5) (18 * session.changes + 8) (D.told session.book.world) told
      (⊎_elim (λ few. omega arith) (λ last. let most = marked_most n (entries_of session.book.pool) session.book.journal.changed in
      let b = session.book.most in omega arith) can.few) goes

  -- and then the edition is the last one
  pub is_renewed : (b : Book W D) (last : List Entry) → last ≡ session.catalog → books.IsReady b → b.journal.pages ≡ n → b.last ≡ next
      → b.work ≡ next → changed_of b ≡ 0
      → Goes (λ old new. new ≡ set old 0 (header_bytes next)) (told_of session.book) (told_of b) → free_of b ≡ free_of session.book
      → ((p : ℕ) → books.published_free b p ≡ free_of session.book p) → Goes (books.HasPublished session.book b) (D.told session.book.world) (D.told b.world)
      → IsLawful (D.size b.world) (D.told b.world)
      → IsRenewed (record { book = b; catalog = session.catalog; last = last; changes = 0; warm = session.warm; alloc = session.alloc }) s e
  is_renewed b last catalog ready size last_is work_is_next count told free used goes law =
      let tale = goes_to (books.HasPublished session.book b) (D.told session.book.world) (D.told b.world) can.tale can.told goes in
      let news = tells_to (λ old new. new ≡ set old 0 (header_bytes next)) (told_of session.book) (told_of b) can.pages can.pages_told told in
      let home : published tale.0 b.journal.pages ≡ set can.pages 0 (header_bytes next) =
      ap (λ k. published tale.0 k) size ∙ tale.2.home ∙ next_is (header_bytes next) in
      record {
        at = record {
          tale = tale.0;
          told = tale.1;
          lawful = law_of (D.size b.world) (D.told b.world) tale.0 tale.1 law;
          ready = ready;
          last = record {
            head = subst (λ (h : Head). IsHeadOf h e) (sym last_is) can.head;
            spelled =
                subst (λ (es : List Entry).
                IsSpelled (Some (published tale.0 b.journal.pages)) (books.published_free b) b.journal.pages b.last es e.layers) (sym catalog)
                (spelled_as _ _ _ _ _ _ _ _ session.catalog e.layers (ap Some home) refl size last_is (spelled_next (books.published_free b) used));
          };
          pages = news.0;
          pages_told = news.1;
          work = subst (λ (m : Map). IsSpelled (Some news.0) (free_of b) b.journal.pages b.work session.catalog m) can.layers
              (spelled_as _ _ _ _ _ _ _ _ session.catalog e.layers (ap Some news.2) refl size work_is_next
              (spelled_next (free_of b) (λ p. ap (λ (f : ℕ → Bool). f p) free)));
          format = ap (λ (h : Head). h.format) work_is_next ∙ sym (ap (λ (h : Head). h.format) last_is);
          level = ap (λ (h : Head). h.level) work_is_next ∙ sym (ap (λ (h : Head). h.level) last_is);
          quota = can.quota ∙ sym (ap quota size);
          few = inl (omega arith);
          bounded = omega arith;
        };
        count = refl;
      }
