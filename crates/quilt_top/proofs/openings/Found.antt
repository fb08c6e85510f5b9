-- What opening a file leaves, and what it finds.
use Rattle.std.proofs.Common.{◌≡◌, ℕ, ◌<◌, ◌≤◌, true, [], length, length-append, get_or, Option, Some, None, refl, sym, ◌∙◌, ap, subst, arith, append-nil}
use Rattle.std.specs.Option.{IfSome}
use Rattle.std.proofs.lemmas.List.{same_lists, get_or_default, take_all}
use Rattle.quilt_types.specs.declared.stop.Stop.{Stop}
use Rattle.quilt_types.specs.declared.stop.Stop.TheVariants as stops
use Rattle.quilt_world.specs.Added.{is_of_pages, is_write}
use Rattle.quilt_world.specs.Disk.{Pages, Log, CanLeave}
use Rattle.quilt_world.specs.Home.{IsMapFile, home, page_of}
use Rattle.quilt_world.specs.PageBytes.{last_bytes, fixed_bytes}
use Rattle.quilt_world.specs.Stops.{Since, Leaves, LeavesNow}
use Rattle.quilt_world.specs.Tale.{Tale, IsConsistent, Goes}
use Rattle.quilt_world.specs.declared.disk.Disk as disk
use Rattle.quilt_world.specs.declared.event.Event.{Event}
use Rattle.quilt_world.specs.declared.event.Event.TheVariants.{Took, Put, Wrote, Tore, Synced}
use Rattle.quilt_world.proofs.AddedLaws.{adds_only_both, only_wider}
use Rattle.quilt_world.proofs.PageLaws.{seen_left}
use Rattle.quilt_world.proofs.StopLaws.{since_both}
use Rattle.quilt_journal.specs.Beginning.{NoneFree, Redoes}
use Rattle.quilt_journal.specs.Changed.{View}
use Rattle.quilt_journal.specs.Kept.{HasHome, published}
use Rattle.quilt_journal.specs.declared.journal.State.TheVariants.{Idle}
use Rattle.quilt_record.specs.Records.{Spells}
use Rattle.quilt_node.specs.declared.head.Head.{Head}
use Rattle.quilt_node.specs.Pages.{IsHeader}
use Rattle.quilt_node.specs.Tree.{walk_of}
use Rattle.quilt_pool.specs.Entries.{Entries}
use Rattle.quilt_edition.specs.Keeping.{IsKeptBy, IsLater}
use Rattle.quilt_edition.specs.Stands.{HoldsEdition, IsDamagePage, page_of_walk}
use Rattle.quilt_edition.specs.Starting.{Opened as BookOpened, HasNoHeader, IsNoMapFile, StopCause}
use Rattle.quilt_edition.proofs.OneEdition.{one_head, home_length}
use Rattle.quilt_audit.specs.Surveys.{IsDamage}
use Rattle.quilt_top.specs.declared.opened.Opened.{Opened}
use Rattle.quilt_top.specs.declared.opened.Opened.TheVariants as opened
use Rattle.quilt_top.specs.Headline.{IsNoMap, StandsForNothing}
use Rattle.quilt_top.specs.Openings.{HasNoEvents, Keeps, HoldsAs, FindsAt}
use Rattle.quilt_top.proofs.openings.Surveys.{home_read}

-- what the law of a disk says of the tale that it tells
abbrev pub Lawful : ℕ → Option Tale → Type 0
Lawful size told = IfSome told (λ t. IsConsistent t × (length t.start ≡ size))

-- ---- before anything was done

first_fixed : (start : Pages) (i : ℕ) → fixed_bytes start [] i ≡ Some (get_or start i [])
unfolding fixed_bytes last_bytes
first_fixed start i = refl

pub none_free : (o : Option Tale) → IfSome o HasNoEvents → IfSome o NoneFree
none_free None new = tt
none_free (Some t) new = record { each = λ i lt. (get_or t.start i [], ap (λ (l : Log). fixed_bytes t.start l i) new.log ∙ first_fixed t.start i) }

only_start : (start image : Pages) → CanLeave start [] image → image ≡ start
only_start start image left =
    same_lists image start left.size (λ k d lt.
    let within : k < length start = omega (arith, lt, left.size) in
    get_or_default image k d [] lt ∙ left.kept k within refl ∙ sym (get_or_default start k d [] within))

pub seen_first : (t : Tale) → t.log ≡ [] → IsConsistent t → t.seen ≡ t.start
seen_first t log law =
    only_start t.start t.seen (subst (λ (l : Log). CanLeave t.start l t.seen) log (seen_left t.start t.log t.seen law.size law.last))

file_first : (t : Tale) (n : ℕ) → t.log ≡ [] → IsConsistent t → IsMapFile t.start n → IsMapFile t.seen n
file_first t n log law file = subst (λ (p : Pages). IsMapFile p n) (sym (seen_first t log law)) file

one_size : (image : Pages) (n m : ℕ) → IsMapFile image n → IsMapFile image m → n ≡ m
one_size image n m a b = omega (arith, a.size, b.size)

-- ---- what is kept

write_of_pages : (e : Event) → is_write e ≡ true → is_of_pages e ≡ true
write_of_pages (Took bytes) is = is
write_of_pages (Put bytes) is = is
write_of_pages (Wrote page bytes) is = refl
write_of_pages (Tore page) is = refl
write_of_pages Synced is = refl

begun_keeps : (t u : Tale) → HasNoEvents t → IsConsistent t → Redoes t u → Keeps t u
begun_keeps t u new law redoes = record {
  input = redoes.alone.input;
  pages = record { file = redoes.alone.file; events = redoes.alone.added; log = redoes.alone.log; only = redoes.alone.only };
  homes = λ n file. subst (λ (p : Pages). Since t u (HasHome n (home p n))) (seen_first t new.log law) (redoes.map n (file_first t n new.log law file)).since;
  other = λ none. (redoes.other (λ n file. none n (subst (λ (p : Pages). IsMapFile p n) (seen_first t new.log law) file))).log ∙ append-nil t.log;
}

pub goes_begun : (size : ℕ) (o m : Option Tale) → IfSome o HasNoEvents → Lawful size o → Goes Redoes o m → Goes Keeps o m
goes_begun size None None new law redoes = tt
goes_begun size None (Some u) new law redoes = redoes
goes_begun size (Some t) None new law redoes = redoes
goes_begun size (Some t) (Some u) new law redoes = begun_keeps t u new law.0 redoes

since_last : (a b : Tale) (P : Pages → Type 0) → Since a b P → LeavesNow b P
since_last a b P since =
    let long : length a.log ≤ length b.log = subst (λ (l : Log). length a.log ≤ length l) (sym since.log) (omega (arith, length-append a.log since.added)) in
    let whole : Leaves a.start b.log P =
    subst (λ (l : Log). Leaves a.start l P) (take_all (length b.log) b.log (omega arith)) (since.each (length b.log) long) in
    subst (λ (s : Pages). Leaves s b.log P) (sym since.file.start) whole

later_keeps : (t u w : Tale) (n : ℕ) → IsMapFile t.start n → home u.seen n ≡ home t.start n → Keeps t u → IsLater n u w → Keeps t w
later_keeps t u w n file same keeps later = record {
  input = later.tries.input ∙ keeps.input;
  pages = adds_only_both is_of_pages t u w keeps.pages
      (record {
        file = later.tries.file;
        events = later.tries.added;
        log = later.tries.log;
        only = only_wider is_write is_of_pages later.tries.added write_of_pages later.tries.only;
      });
  homes = λ m other.
      let is : n ≡ m = one_size t.start n m file other in
      let first = keeps.homes n file in
      let here : LeavesNow u (HasHome n (home u.seen n)) =
      subst (λ (h : Pages). LeavesNow u (HasHome n h)) (sym same) (since_last t u (HasHome n (home t.start n)) first) in
      let both = since_both t u w (HasHome n (home t.start n)) first (subst (λ (h : Pages). Since u w (HasHome n h)) same (later.stays here)) in
      subst (λ k. Since t w (HasHome k (home t.start k))) is both;
  other = λ none. absurd (none n file);
}

-- ---- what is found

module _ (start : Pages) (n : ℕ) (file : IsMapFile start n) where
  size_is : length (home start n) ≡ n
  size_is = home_length start n

  -- no edition is held where no tree of this header spells one
  damage_found : (last : Head) (page : ℕ) → IsHeader n (page_of (home start n) 0) last → IsDamage (home start n) last page
      → IsDamagePage (home start n) page × StandsForNothing start
  damage_found last page header damage =
      let pages = home start n in
      let here : IsHeader (length pages) (page_of pages 0) last = subst (λ m. IsHeader m (page_of pages 0) last) (sym size_is) header in
      let most : length pages ≤ 30000 = omega (arith, size_is, file.most) in (
        record {
          no_header = λ none. absurd (none last here);
          header = λ h so. damage.first
              ∙ ap (λ (k : Head). page_of_walk (walk_of pages k.root k.height)) (one_head (length pages) most (page_of pages 0) last h here so);
        },
        λ E so.
            let holds = subst (λ m. HoldsEdition (home start m) E) (one_size start so.pages n so.file file) so.holds in
            let is = one_head (length pages) most (page_of pages 0) holds.head last holds.header here in
            damage.none holds.records holds.visited E.layers
            (ap (λ (k : Head). walk_of pages k.root k.height) (sym is) ∙ holds.tree)
            (subst (λ (k : Head). Spells k.format k.level holds.records E.layers) is holds.spelled) (holds.count ∙ ap (λ (k : Head). k.records) is),
      )

  -- where no header is well formed
  none_found : (page : ℕ) → page ≡ 0 → ((h : Head) → IsHeader n (page_of (home start n) 0) h → ⊥) → IsDamagePage (home start n) page × StandsForNothing start
  none_found page first none = (
    record {
      no_header = λ none_. first;
      header = λ h so. absurd (none h (subst (λ m. IsHeader m (page_of (home start n) 0) h) size_is so));
    },
    λ E so.
        let holds = subst (λ m. HoldsEdition (home start m) E) (one_size start so.pages n so.file file) so.holds in
        none holds.head (subst (λ m. IsHeader m (page_of (home start n) 0) holds.head) size_is holds.header),
  )

same_damage : (p q : ℕ) → stops.Damaged p ≡ stops.Damaged q → p ≡ q
same_damage p q e = cc

-- what is said of the page where opening stopped
abbrev pub IsFoundDamaged : Pages → ℕ → Type 0
IsFoundDamaged start page = (n : ℕ) × IsMapFile start n × IsDamagePage (home start n) page × StandsForNothing start

no_header : (t u : Tale) (page : ℕ) → HasNoEvents t → IsConsistent t → page ≡ 0 → HasNoHeader t u → IsFoundDamaged t.start page
no_header t u page new law first none =
    let seen = seen_first t new.log law in
    let file : IsMapFile t.start none.pages = subst (λ (p : Pages). IsMapFile p none.pages) seen none.file in
    let both = none_found t.start none.pages file page first
    (λ h so. none.none h (subst (λ (p : Pages). IsHeader none.pages (page_of (home p none.pages) 0) h) (sym seen) so)) in
    (none.pages, file, both.0, both.1)

pub stop_found : (stop : Stop) (before now size : ℕ) (o m : Option Tale) → IfSome o HasNoEvents → Lawful size o → StopCause stop before now o m
    → IfSome o (λ t. (page : ℕ) → stop ≡ stops.Damaged page → IsFoundDamaged t.start page)
stop_found stops.Device before now size None m new law cause = tt
stop_found stops.Device before now size (Some t) m new law cause = λ page is. absurd (let e : ◌≡◌ {A = Stop} stops.Device (stops.Damaged page) = is in cc)
stop_found stops.Memory before now size None m new law cause = tt
stop_found stops.Memory before now size (Some t) m new law cause = λ page is. absurd (let e : ◌≡◌ {A = Stop} stops.Memory (stops.Damaged page) = is in cc)
stop_found (stops.Damaged p) before now size None m new law cause = tt
stop_found (stops.Damaged p) before now size (Some t) None new law cause = absurd cause.1
stop_found (stops.Damaged p) before now size (Some t) (Some u) new law cause =
    λ page is. no_header t u page new law.0 (sym (same_damage p page is) ∙ cause.0) cause.1

pub not_map_found : (size : ℕ) (o m : Option Tale) → IfSome o HasNoEvents → Lawful size o → Goes IsNoMapFile o m → IfSome o (λ t. IsNoMap t.start)
not_map_found size None m new law none = tt
not_map_found size (Some t) None new law none = absurd none
not_map_found size (Some t) (Some u) new law none = λ n file. none.none n (file_first t n new.log law.0 file)

-- ---- behind a book

module _ (j : View) (es : Entries) (last : Head) (idle : j.state ≡ Idle) where
  book_home : (t u : Tale) → HasNoEvents t → IsConsistent t → IsConsistent u → IsKeptBy j es last (Some u) → BookOpened j.pages last t u
      → home u.seen j.pages ≡ home t.start j.pages
  book_home t u new law_t law_u kept found =
      home_read j es last u idle law_u kept ∙ found.same ∙ ap (λ (p : Pages). home p j.pages) (seen_first t new.log law_t)

  pub book_keeps : (s1 s2 : ℕ) (o m n : Option Tale) → IfSome o HasNoEvents → Lawful s1 o → Lawful s2 m → IsKeptBy j es last m → Goes Redoes o m
      → Goes (BookOpened j.pages last) o m → Goes (IsLater j.pages) m n → Goes Keeps o n
  book_keeps s1 s2 None None None new law_o law_m kept redoes found later = tt
  book_keeps s1 s2 None None (Some w) new law_o law_m kept redoes found later = later
  book_keeps s1 s2 None (Some u) n new law_o law_m kept redoes found later = absurd redoes
  book_keeps s1 s2 (Some t) None n new law_o law_m kept redoes found later = absurd redoes
  book_keeps s1 s2 (Some t) (Some u) None new law_o law_m kept redoes found later = later
  book_keeps s1 s2 (Some t) (Some u) (Some w) new law_o law_m kept redoes found later =
      let file = subst (λ (p : Pages). IsMapFile p j.pages) (seen_first t new.log law_o.0) found.file in
      later_keeps t u w j.pages file (book_home t u new law_o.0 law_m.0 kept found) (begun_keeps t u new law_o.0 redoes) later

  module _ {W : Type 0} {D : disk.Ghosts W} where
    one_found : (result : Opened W D) (t u : Tale) → HasNoEvents t → IsConsistent t → BookOpened j.pages last t u
        → HoldsAs j.pages last (published u j.pages) result → FindsAt t.start result
    one_found (opened.Map book catalog) t u new law found holds =
        let seen = seen_first t new.log law in
        let file = subst (λ (p : Pages). IsMapFile p j.pages) seen found.file in
        let pages : published u j.pages ≡ home t.start j.pages = found.same ∙ ap (λ (p : Pages). home p j.pages) seen in (
          j.pages,
          file,
          holds.0,
          record { pages = j.pages; file = file; holds = subst (λ (p : Pages). HoldsEdition p holds.0) pages holds.1 },
          holds.2,
        )
    one_found (opened.NotMap world) t u new law found holds = absurd holds
    one_found (opened.Stopped world stop) t u new law found holds = λ page is.
        let seen = seen_first t new.log law in
        let file = subst (λ (p : Pages). IsMapFile p j.pages) seen found.file in
        let pages : published u j.pages ≡ home t.start j.pages = found.same ∙ ap (λ (p : Pages). home p j.pages) seen in
        let header : IsHeader j.pages (page_of (home t.start j.pages) 0) last =
        subst (λ (p : Pages). IsHeader j.pages (page_of (home p j.pages) 0) last) seen found.header in
        let both = damage_found t.start j.pages file last page header (subst (λ (p : Pages). IsDamage p last page) pages (holds page is)) in
        (j.pages, file, both.0, both.1)

    pub book_finds : (result : Opened W D) (s1 : ℕ) (o m : Option Tale) → IfSome o HasNoEvents → Lawful s1 o → Goes (BookOpened j.pages last) o m
        → IfSome m (λ u. HoldsAs j.pages last (published u j.pages) result) → IfSome o (λ t. FindsAt t.start result)
    book_finds result s1 None m new law found holds = tt
    book_finds result s1 (Some t) None new law found holds = absurd found
    book_finds result s1 (Some t) (Some u) new law found holds = one_found result t u new law.0 found holds
