-- A book that was just opened, and what an audit finds of it.
use Rattle.std.proofs.Common.{◌≡◌, ℕ, zero, suc, ◌+◌, ◌<◌, ◌≤◌, nat_eq, nat_le, nat_lt, ◌==◌, Bool, true, false, ◌&&◌, not, ◌||◌, cond, List, [], ◌∷◌, length}
use Rattle.std.proofs.Common.{map, replicate, Option, Some, None, refl, sym, ◌∙◌, ap, subst, arith, append-nil}
use Rattle.std.specs.Option.{IfSome}
use Rattle.std.specs.List.{list_all, list_any, IsDistinct, AllByRecursion, Contains}
use Rattle.std.proofs.lemmas.Bool.{false≢true, eqb-true, le-leb, lt-ltb, and_from, and_parts}
use Rattle.std.proofs.lemmas.List.FromFn.{length-map-range_with_len}
use Rattle.std.specs.Ordering.{is_lt}
use Rattle.std.proofs.lemmas.Map.Text.{is_eq-slice_cmp}
use Rattle.std.proofs.lemmas.Slice.Eq.{bytes_eq-Decides}
use Rattle.quilt_types.specs.declared.plane.Kind.{Kind}
use Rattle.quilt_types.specs.declared.plane.Kind.TheVariants as kinds
use Rattle.quilt_types.specs.declared.stop.Stop.{Stop}
use Rattle.quilt_types.specs.declared.stop.Stop.TheVariants as stops
use Rattle.quilt_types.specs.Layers.{Map, Edition}
use Rattle.quilt_world.specs.Disk.{Pages}
use Rattle.quilt_world.specs.Home.{home, page_of}
use Rattle.quilt_world.specs.Tale.{Tale, IsConsistent, Goes}
use Rattle.quilt_journal.specs.Changed.{View, has_bit}
use Rattle.quilt_journal.specs.Kept.{IsIdle, published, home_page, work}
use Rattle.quilt_journal.specs.declared.journal.State.TheVariants.{Idle}
use Rattle.quilt_journal.proofs.Clearing.{idle_none}
use Rattle.quilt_journal.proofs.Homes.{published_at}
use Rattle.quilt_record.specs.declared.entry.Entry.{Entry}
use Rattle.quilt_record.specs.declared.record.Record.{Record}
use Rattle.quilt_record.specs.Catalogs.{IsCatalog, NamesAscend, name_cmp}
use Rattle.quilt_record.specs.Listing.{KindFits}
use Rattle.quilt_types.proofs.Members.{Contains-here, Contains-there}
use Rattle.quilt_record.proofs.Orders.{lt_not_eq}
use Rattle.quilt_spell.proofs.Spelling.{all_from}
use Rattle.quilt_node.specs.declared.head.Head.{Head}
use Rattle.quilt_node.specs.Pages.{IsHeader}
use Rattle.quilt_node.specs.Tree.{Whole, walk_of}
use Rattle.quilt_btree.specs.Edits.{multiplicity, account}
use Rattle.quilt_btree.specs.Subtree.{AreFreshPages}
use Rattle.quilt_btree.proofs.lists.Counts.{none_there}
use Rattle.quilt_btree.proofs.subtrees.Walks.{walk_found}
use Rattle.quilt_pool.specs.Entries.{Entries}
use Rattle.quilt_edition.specs.Keeping.{IsKeptBy, IsLater, told_pages, is_left_out}
use Rattle.quilt_edition.specs.Stands.{HoldsEdition}
use Rattle.quilt_edition.proofs.Publishing.{told_reverted}
use Rattle.quilt_edition.proofs.Steps.{kept_idle, seen_home}
use Rattle.quilt_spell.proofs.Laws.{members}
use Rattle.quilt_audit.specs.Bits as bits
use Rattle.quilt_audit.specs.Surveys.{OnDamaged, IsSurvey, AreNumbered}
use Rattle.quilt_world.specs.declared.disk.Disk as disk
use Rattle.quilt_pool.specs.Views.{entries_of}
use Rattle.quilt_edition.specs.declared.book.Book.{Book}
use Rattle.quilt_edition.specs.Books as books
use Rattle.quilt_map.specs.Sessions.{IsNumbered, IsHeadOf, IsSpelled, IsOpened, told_of, first_state, tree_in}
use Rattle.quilt_replies.specs.Answers.{State}
use Rattle.quilt_map.specs.Sessions as sessions
use Rattle.quilt_top.specs.Openings.{IsFirstState}

-- ---- what a book with nothing in it tells

pub told_fresh : (j : View) (es : Entries) (last : Head) (t : Tale) → j.state ≡ Idle → es ≡ [] → j.changed ≡ replicate j.pages false
    → IsKeptBy j es last (Some t) → told_pages j es (Some t) ≡ Some (published t j.pages)
told_fresh j es last t idle empty changed kept =
    told_reverted j j es es last (Some t) idle refl refl empty kept (λ u is.
    subst (λ (c : List Bool). IsIdle j.pages c u × (work u j.pages c ≡ published u j.pages)) (sym changed) (idle_none j.pages j.changed u is))

pub fresh_header : (j : View) (es : Entries) (last : Head) (t : Tale) → 16 ≤ j.pages → j.state ≡ Idle → IsKeptBy j es last (Some t)
    → IsHeader j.pages (page_of (published t j.pages) 0) last
fresh_header j es last t some idle kept =
    subst (λ (bytes : List ℕ). IsHeader j.pages bytes last) (sym (published_at t j.pages 0 (omega arith))) (kept_idle j es last (Some t) idle kept).header

length-published : (t : Tale) (n : ℕ) → length (published t n) ≡ n
unfolding published
length-published t n = length-map-range_with_len (home_page t) 0 n

pub home_read : (j : View) (es : Entries) (last : Head) (t : Tale) → j.state ≡ Idle → IsConsistent t → IsKeptBy j es last (Some t)
    → home t.seen j.pages ≡ published t j.pages
home_read j es last t idle law kept = seen_home j.pages j.changed t law (kept_idle j es last (Some t) idle kept).work.idle

-- ---- the page that is said to be damaged

same_page : (p q : ℕ) → stops.Damaged p ≡ stops.Damaged q → p ≡ q
same_page p q e = cc

pub on_damaged : (P : ℕ → Type 0) (stop : Stop) → OnDamaged P stop → (page : ℕ) → stop ≡ stops.Damaged page → P page
on_damaged P stops.Device so page is = absurd (let e : ◌≡◌ {A = Stop} stops.Device (stops.Damaged page) = is in cc)
on_damaged P stops.Memory so page is = absurd (let e : ◌≡◌ {A = Stop} stops.Memory (stops.Damaged page) = is in cc)
on_damaged P (stops.Damaged p) so page is = subst P (same_page p page is) so

-- ---- the numbers of a catalog

not_before_itself : (name : List ℕ) → is_lt (name_cmp name name) ≡ true → ⊥
not_before_itself name lt =
    false≢true (sym (lt_not_eq (name_cmp name name) lt) ∙ is_eq-slice_cmp name name ∙ (bytes_eq-Decides name name).1 refl)

number_differs : (a b : ℕ) → (t : Bool) → nat_eq a b ≡ t → (a ≡ b → ⊥) → nat_eq a b ≡ false
number_differs a b false is ne = is
number_differs a b true is ne = absurd (ne (eqb-true a b is))

-- an entry's number is not among those behind it
behind_differs : (e : Entry) (es : List Entry) → list_all (λ (f : Entry). is_lt (name_cmp e.name f.name)) es ≡ true
    → ((f : Entry) → Contains es f → e.number ≡ f.number → e ≡ f)
    → AllByRecursion (λ y. nat_eq e.number y ≡ false) (map (λ (f : Entry). f.number) es)
behind_differs e [] order once = tt
behind_differs e (f ∷ fs) order once =
    let parts = and_parts (is_lt (name_cmp e.name f.name)) (list_all (λ (f : Entry). is_lt (name_cmp e.name f.name)) fs) order in (
      number_differs e.number f.number (nat_eq e.number f.number) refl (λ same.
          let is : e ≡ f = once f (Contains-here f fs) same in
          not_before_itself f.name (subst (λ (x : Entry). is_lt (name_cmp x.name f.name) ≡ true) is parts.0)),
      behind_differs e fs parts.1 (λ x there same. once x (Contains-there f fs x there) same),
    )

numbers_differ : (es : List Entry) → NamesAscend es → ((d e : Entry) → Contains es d → Contains es e → d.number ≡ e.number → d ≡ e)
    → IsDistinct nat_eq (map (λ (e : Entry). e.number) es)
unfolding IsDistinct
numbers_differ [] order once = tt
numbers_differ (e ∷ es) order once = (
  behind_differs e es order.0 (λ f there same. once e f (Contains-here e es) (Contains-there e es f there) same),
  numbers_differ es order.1 (λ d f a b same. once d f (Contains-there e es d a) (Contains-there e es f b) same),
)

kind_fits : (format : ℕ) (kind : Kind) → KindFits format kind → sessions.KindInRange kind
kind_fits format kinds.Region fits = tt
kind_fits format (kinds.Points bucket) fits = (fits.0, most (format == 1) fits.1)
  where
    most : (b : Bool) → bucket ≤ cond b 1 16 → bucket ≤ 16
    most true le = omega arith
    most false le = le
kind_fits format (kinds.Lines threshold) fits = fits

pub is_numbered : (format : ℕ) (entries : List Entry) → IsCatalog entries → AreNumbered format entries → IsNumbered entries
is_numbered format entries catalog are = record {
  least = all_from (λ (e : Entry). 1 ≤ e.number) entries are.least;
  differ = numbers_differ entries catalog.order are.differ;
  kinds = all_from (λ (e : Entry). sessions.KindInRange e.kind) entries (λ e there. kind_fits format e.kind (are.kinds e there));
}

-- ---- the pages of a tree

times_by : (q p : ℕ) (used : List ℕ) (b : Bool) → (q == p) ≡ b → list_any (λ v. v == q) used ≡ false
    → multiplicity p used ≡ cond {A = ℕ} (list_any (λ v. v == p) used) 1 0
    → cond {A = ℕ} b 1 0 + multiplicity p used ≡ cond {A = ℕ} (b || list_any (λ v. v == p) used) 1 0
times_by q p used true is none later =
    let same : q ≡ p = eqb-true q p is in
    let zero_ : multiplicity p used ≡ 0 = subst (λ (n : ℕ). multiplicity n used ≡ 0) same (none_there q used none) in
    omega arith
times_by q p used false is none later = omega arith

fresh_times : (p : ℕ) (used : List ℕ) → AreFreshPages used [] → multiplicity p used ≡ cond {A = ℕ} (list_any (λ v. v == p) used) 1 0
fresh_times p [] fresh = refl
fresh_times p (q ∷ used) fresh =
    times_by q p used (q == p) refl (subst (λ (l : List ℕ). list_any (λ v. v == q) l ≡ false) (append-nil used) fresh.0) (fresh_times p used fresh.1)

walk_times : (pages : Pages) (root height : ℕ) (rs : List Record) (visited : List ℕ) (p : ℕ) → walk_of pages root height ≡ Whole rs visited
    → multiplicity p visited ≡ cond {A = ℕ} (list_any (λ v. v == p) visited) 1 0
unfolding walk_of
walk_times pages root zero rs visited p is =
    let none : [] ≡ visited = cc in subst (λ (l : List ℕ). multiplicity p l ≡ cond {A = ℕ} (list_any (λ v. v == p) l) 1 0) none refl
walk_times pages root (suc h) rs visited p is =
    let found = walk_found pages (suc h) true (root, record { low = None; high = None }) [] rs visited is in
    subst (λ (l : List ℕ). multiplicity p l ≡ cond {A = ℕ} (list_any (λ v. v == p) l) 1 0) (sym (found.is_now ∙ append-nil found.used))
    (fresh_times p found.used found.fresh)

one_of : (b : Bool) → cond {A = ℕ} (not b) 1 0 + cond {A = ℕ} b 1 0 ≡ 1
one_of true = refl
one_of false = refl

-- the pages that an audit found, and no others, are spoken for by the tree
balanced : (n : ℕ) (used visited : List ℕ) (free : ℕ → Bool) (p : ℕ) → ((q : ℕ) → free q ≡ is_left_out n used q) → bits.Marks used visited
    → multiplicity p visited ≡ cond {A = ℕ} (list_any (λ v. v == p) visited) 1 0 → 1 ≤ p → p < n → account free visited p ≡ 1
balanced n used visited free p is marks once low high =
    let within : (nat_le 1 p && nat_lt p n) ≡ true = and_from (nat_le 1 p) (nat_lt p n) (le-leb 1 p low) (lt-ltb p n high) in
    let out : is_left_out n used p ≡ not (list_any (λ v. v == p) visited) =
    ap (λ b. b && not (has_bit used p)) within ∙ ap not (marks.each p) in
    ap (λ b. cond {A = ℕ} b 1 0 + multiplicity p visited) (is p ∙ out) ∙ ap (λ m. cond {A = ℕ} (not (list_any (λ v. v == p) visited)) 1 0 + m) once
    ∙ one_of (list_any (λ v. v == p) visited)

-- ---- what is found

abbrev pub edition_in : Head → Map → Edition
edition_in h layers = record { format = h.format; number = h.edition; level = h.level; layers = layers }

module _ (pages : Pages) (n : ℕ) (h : Head) (catalog : List Entry) (used : List ℕ) (survey : IsSurvey pages h catalog used) where
  pub survey_spelled : (free : ℕ → Bool) → ((q : ℕ) → free q ≡ is_left_out n used q) → IsSpelled (Some pages) free n h catalog survey.layers
  survey_spelled free is = record {
    numbers = survey.numbers;
    records = survey.records;
    whole = record {
      tree = record { pages = pages; is_told = refl; visited = survey.visited; walk = survey.tree };
      number = survey.count;
      balance = λ p low high.
          balanced n used survey.visited free p is survey.marks (walk_times pages h.root h.height survey.records survey.visited p survey.tree) low high;
    };
    spelled = survey.spelled;
    catalog = survey.catalogued;
  }

  pub survey_holds : length pages ≡ n → IsHeader n (page_of pages 0) h → HoldsEdition pages (edition_in h survey.layers)
  survey_holds size header = record {
    head = h;
    header = subst (λ m. IsHeader m (page_of pages 0) h) (sym size) header;
    format = refl;
    number = refl;
    level = refl;
    records = survey.records;
    visited = survey.visited;
    tree = survey.tree;
    count = survey.count;
    spelled = (members h.format h.level survey.records survey.layers header.numbers.level.1).1 (survey.numbers, survey.spelled);
  }

-- ---- the session over it

goes_from : (R : Tale → Tale → Type 0) (t : Tale) (o : Option Tale) → Goes R (Some t) o → (u : Tale) × (o ≡ Some u) × R t u
goes_from R t (Some u) goes = (u, refl, goes)
goes_from R t None goes = absurd goes

law_at : (size : ℕ) (o : Option Tale) (t : Tale) → o ≡ Some t → IfSome o (λ t. IsConsistent t × (length t.start ≡ size)) → IsConsistent t
law_at size o t is law = (subst (λ (x : Option Tale). IfSome x (λ t. IsConsistent t × (length t.start ≡ size))) is law).0

module _ {W : Type 0} {D : disk.Ghosts W} (a b : Book W D) (catalog : List Entry) (used : List ℕ) (s1 s2 : ℕ)
    (ready : books.IsReady a) (size : b.journal.pages ≡ a.journal.pages)
    (state : b.journal.state ≡ a.journal.state) (last : b.last ≡ a.last) (free : (q : ℕ)
    → books.published_free b q ≡ is_left_out a.journal.pages used q) (told : told_of b ≡ told_of a)
    (tale : Goes (IsLater a.journal.pages) (D.told a.world) (D.told b.world)) (law_a : IfSome (D.told a.world) (λ t. IsConsistent t × (length t.start ≡ s1)))
    (law_b : IfSome (D.told b.world) (λ t. IsConsistent t × (length t.start ≡ s2))) where
  map_found : (t : Tale) → D.told a.world ≡ Some t → told_of a ≡ Some (published t a.journal.pages) → IsSurvey (published t a.journal.pages) a.last catalog used
      → (e : Edition) × HoldsEdition (published t a.journal.pages) e × IsFirstState b catalog (first_state a.journal.pages e)
  map_found t is pages survey =
      let n = a.journal.pages in
      let es = entries_of a.pool in
      let kept : IsKeptBy a.journal es a.last (Some t) = subst (λ (o : Option Tale). IsKeptBy a.journal es a.last o) is a.kept in
      let next = goes_from (IsLater n) t (D.told b.world) (subst (λ (o : Option Tale). Goes (IsLater n) o (D.told b.world)) is tale) in
      let u = next.0 in
      let kept_b : IsKeptBy b.journal (entries_of b.pool) b.last (Some u) =
      subst (λ (o : Option Tale). IsKeptBy b.journal (entries_of b.pool) b.last o) next.1 b.kept in
      let law_u = law_at s2 (D.told b.world) u next.1 law_b in
      let read_a = home_read a.journal es a.last t ready (law_at s1 (D.told a.world) t is law_a) kept in
      let read_b = home_read b.journal (entries_of b.pool) b.last u (state ∙ ready) law_u kept_b in
      let same : published t n ≡ published u b.journal.pages = sym read_a ∙ sym next.2.same ∙ ap (λ k. home u.seen k) (sym size) ∙ read_b in
      let e = edition_in a.last survey.layers in
      let spelled = survey_spelled (published t n) n a.last catalog used survey (books.published_free b) free in
      let opened : IsOpened b catalog e = record {
        tale = u;
        told = next.1;
        lawful = law_u;
        pages = told ∙ pages ∙ ap Some same;
        holds = record {
          head =
              record {
                format = sym (ap (λ (h : Head). h.format) last);
                number = sym (ap (λ (h : Head). h.edition) last);
                level = sym (ap (λ (h : Head). h.level) last);
              };
          spelled = subst (λ (p : Pages). IsSpelled (Some p) (books.published_free b) b.journal.pages b.last catalog survey.layers) same
              (subst (λ k. IsSpelled (Some (published t n)) (books.published_free b) k b.last catalog survey.layers) (sym size)
              (subst (λ (h : Head). IsSpelled (Some (published t n)) (books.published_free b) n h catalog survey.layers) (sym last) spelled));
        };
      } in (
        e,
        survey_holds (published t n) n a.last catalog used survey (length-published t n) (fresh_header a.journal es a.last t a.least ready kept),
        record { edition = e; opened = opened; state = ap (λ k. first_state k e) (sym size) },
      )

-- where it is told
pub when_told : (P : Tale → Type 0) (o : Option Tale) → ((t : Tale) → o ≡ Some t → P t) → IfSome o P
when_told P None so = tt
when_told P (Some t) so = so t refl

module _ {W : Type 0} {D : disk.Ghosts W} (a b : Book W D) (catalog : List Entry) (used : List ℕ) (s1 s2 : ℕ) where
  pub map_holds : books.IsReady a → b.journal.pages ≡ a.journal.pages → b.journal.state ≡ a.journal.state → b.last ≡ a.last
      → ((q : ℕ) → books.published_free b q ≡ is_left_out a.journal.pages used q) → told_of b ≡ told_of a
      → Goes (IsLater a.journal.pages) (D.told a.world) (D.told b.world) → IfSome (D.told a.world) (λ t. IsConsistent t × (length t.start ≡ s1))
      → IfSome (D.told b.world) (λ t. IsConsistent t × (length t.start ≡ s2))
      → ((t : Tale) → D.told a.world ≡ Some t → told_of a ≡ Some (published t a.journal.pages))
      → (h : Head) → h ≡ a.last → ((told : Pages) → told_of a ≡ Some told → IsSurvey told h catalog used)
      → IfSome (D.told a.world) (λ t. (e : Edition) × HoldsEdition (published t a.journal.pages) e × IsFirstState b catalog (first_state a.journal.pages e))
  map_holds ready size state last free told tale law_a law_b pages h is survey =
      when_told _ (D.told a.world) (λ t now. map_found a b catalog used s1 s2 ready size state last free told tale law_a law_b t now (pages t now)
      (subst (λ (k : Head). IsSurvey (published t a.journal.pages) k catalog used) is (survey (published t a.journal.pages) (pages t now))))

-- the level of the state over a book that was just opened is that of its last edition
module _ {W : Type 0} {D : disk.Ghosts W} (book : Book W D) (catalog : List Entry) where
  pub first_level : (s : State) → IsFirstState book catalog s → s.last.level ≡ (books.last_of book).level
  first_level s first = ap (λ (x : State). x.last.level) first.state ∙ first.opened.holds.head.level
