-- What each call of a book keeps, and what it tells after it.
use Rattle.quilt_store.specs.declared.store.StoreErr.{StoreErr}
use Rattle.std.proofs.Common.{Result, Ok, Err, OnOk, OnErr, IsSome, ◌||◌, ◌≡◌, inl, inr, ℕ, ◌+◌, ◌<◌, ◌≤◌, Bool, true, false, cond, nat_eq, List, [], ◌∷◌, map}
use Rattle.std.proofs.Common.{length, Option, Some, None, get_or, set, refl, sym, ◌∙◌, ap, subst, arith, get_or-set_same, get_or-set_other}
use Rattle.std.specs.Option.{IfSome}
use Rattle.std.specs.Map.{keys_of}
use Rattle.std.specs.List.{list_any}
use Rattle.std.proofs.Math.ListN.{length-set}
use Rattle.std.proofs.lemmas.Bool.{cases_Bool, cases_eq, eq-eqb, ne_eqb, false≢true}
use Rattle.std.proofs.lemmas.List.FromFn.{length-map-range_with_len, get_or-map-range_with_len, fill_by_all}
use Rattle.quilt_types.specs.Plane.{below}
use Rattle.quilt_world.specs.Disk.{Pages}
use Rattle.quilt_world.specs.Home.{home}
use Rattle.quilt_world.specs.Stops.{Since}
use Rattle.quilt_world.specs.Tale.{Tale, IsConsistent, Goes}
use Rattle.quilt_world.proofs.StopLaws.{seen_page, last_from}
use Rattle.quilt_journal.specs.Changed.{View}
use Rattle.quilt_journal.specs.Kept.{IsIdle, HasHome, home_page, published, work, is_open_page}
use Rattle.quilt_journal.specs.declared.journal.State.TheVariants.{Idle}
use Rattle.quilt_journal.proofs.Homes.{map_same, home_shut, published_is, published_at}
use Rattle.quilt_node.specs.declared.head.Head.{Head}
use Rattle.quilt_node.specs.Pages.{IsHeader}
use Rattle.quilt_pool.specs.Entries.{Entries, frame_at, page_over}
use Rattle.quilt_pool.specs.Keeping.{IsWork, KeepsWork, Changes}
use Rattle.quilt_edition.specs.Keeping.{IsBook, IsKeptBy, WhileIdle, told_pages, told_in, work_pages, tale_reads, IsLater, KeepsPublished}

-- what the law of a disk says of its tale
abbrev pub IsLawful : ℕ → Tale → Type 0
IsLawful size t = IsConsistent t × (length t.start ≡ size)

-- ---- while the journal is idle

pub kept_idle : (j : View) (es : Entries) (last : Head) (told : Option Tale) → j.state ≡ Idle → IsKeptBy j es last told → IfSome told (IsBook j es last)
kept_idle j es last None idle kept = tt
kept_idle j es last (Some t) idle kept = subst (λ s. WhileIdle s (IsBook j es last t)) idle kept

pub idle_kept : (j : View) (es : Entries) (last : Head) (told : Option Tale) → j.state ≡ Idle → IfSome told (IsBook j es last) → IsKeptBy j es last told
idle_kept j es last None idle kept = tt
idle_kept j es last (Some t) idle kept = subst (λ s. WhileIdle s (IsBook j es last t)) (sym idle) kept

pub work_idle : (j : View) (es : Entries) (last : Head) (told : Option Tale) → j.state ≡ Idle → IsKeptBy j es last told
    → IfSome told (IsWork j.pages es j.changed)
work_idle j es last None idle kept = tt
work_idle j es last (Some t) idle kept = (subst (λ s. WhileIdle s (IsBook j es last t)) idle kept).work

pub told_idle : (j : View) (es : Entries) (t : Tale) → j.state ≡ Idle → told_pages j es (Some t) ≡ Some (work_pages j es t)
told_idle j es t idle = ap (λ s. told_in s (work_pages j es t)) idle

-- an idle disk reads as the published pages
pub seen_home : (n : ℕ) (c : List Bool) (t : Tale) → IsConsistent t → IsIdle n c t → home t.seen n ≡ published t n
seen_home n c t law idle =
    home_shut t.seen n (home_page t)
    (ap is_open_page (seen_page t 1 idle.gate.bytes law (omega (arith, idle.file.size)) (last_from t 1 idle.gate.bytes idle.gate.there)) ∙ idle.gate.opens)
    (λ i lt. seen_page t (3 + i) (home_page t i) law (omega (arith, idle.file.size)) (last_from t (3 + i) (home_page t i) (idle.homes.each i lt)))
    ∙ sym (published_is t n)

-- ---- one call

pub of_keeps : (n : ℕ) (es fs : Entries) (c d : List Bool) (o t : Tale) → KeepsWork n es fs c d o t → KeepsPublished n fs d o t
of_keeps n es fs c d o t k = record { is = k.is; home = k.home; tries = k.tries; since = k.since }

pub of_changes : (n page : ℕ) (x : List ℕ) (es fs : Entries) (c d : List Bool) (o t : Tale) → Changes n page x es fs c d o t → KeepsPublished n fs d o t
of_changes n page x es fs c d o t k = record { is = k.is; home = k.home; tries = k.tries; since = k.since }

module _ (j k : View) (es fs : Entries) (last : Head) (idle : j.state ≡ Idle) (pages : k.pages ≡ j.pages) (state : k.state ≡ j.state) where
  is_later : (o t : Tale) → IsConsistent o → IsConsistent t → IsBook j es last o → KeepsPublished j.pages fs k.changed o t → IsLater j.pages o t
  is_later o t lo lt book moves =
      let before = seen_home j.pages j.changed o lo book.work.idle in
      record {
        tries = moves.tries;
        same = seen_home j.pages k.changed t lt moves.is.idle ∙ moves.home ∙ sym before;
        stays = λ leaves. subst (λ (h : Pages). Since o t (HasHome j.pages h)) (sym before) moves.since;
      }

  is_book : (o t : Tale) → IsBook j es last o → KeepsPublished j.pages fs k.changed o t → IsBook k fs last t
  is_book o t book moves =
      let some : 0 < j.pages = omega (arith, book.work.idle.file.least) in
      let header : home_page t 0 ≡ home_page o 0 =
      sym (published_at t j.pages 0 some) ∙ ap (λ (h : Pages). get_or h 0 []) moves.home ∙ published_at o j.pages 0 some in
      record {
        work = subst (λ n. IsWork n fs k.changed t) (sym pages) moves.is;
        header = subst (λ n. IsHeader n (home_page t 0) last) (sym pages) (subst (λ b. IsHeader j.pages b last) (sym header) book.header);
      }

  pub later_moves : (a b : ℕ) (o t : Option Tale) → IfSome o (IsLawful a) → IfSome t (IsLawful b) → IsKeptBy j es last o
      → Goes (KeepsPublished j.pages fs k.changed) o t → Goes (IsLater j.pages) o t
  later_moves a b None None lo lt kept moves = tt
  later_moves a b None (Some t) lo lt kept moves = moves
  later_moves a b (Some o) None lo lt kept moves = moves
  later_moves a b (Some o) (Some t) lo lt kept moves = is_later o t lo.0 lt.0 (kept_idle j es last (Some o) idle kept) moves

  pub kept_moves : (o t : Option Tale) → IsKeptBy j es last o → Goes (KeepsPublished j.pages fs k.changed) o t → IsKeptBy k fs last t
  kept_moves None None kept moves = tt
  kept_moves None (Some t) kept moves = absurd moves
  kept_moves (Some o) None kept moves = tt
  kept_moves (Some o) (Some t) kept moves = idle_kept k fs last (Some t) (state ∙ idle) (is_book o t (kept_idle j es last (Some o) idle kept) moves)

  pub told_same : (o t : Option Tale) → Goes (KeepsWork j.pages es fs j.changed k.changed) o t → told_pages k fs t ≡ told_pages j es o
  unfolding work_pages
  told_same None None keeps = refl
  told_same None (Some t) keeps = absurd keeps
  told_same (Some o) None keeps = absurd keeps
  told_same (Some o) (Some t) keeps =
      told_idle k fs t (state ∙ idle)
      ∙ ap (λ n. Some (map (page_over fs (work t n k.changed)) (below n))) pages
      ∙ ap Some (map_same (page_over fs (work t j.pages k.changed)) (page_over es (work o j.pages j.changed)) j.pages (λ i lt. keeps.pages i))
      ∙ sym (told_idle j es o idle)

  set_pages : (page : ℕ) (x : List ℕ) (o t : Tale) → page < j.pages
      → ((i : ℕ) → page_over fs (work t j.pages k.changed) i ≡ cond (nat_eq i page) x (page_over es (work o j.pages j.changed) i))
      → map (page_over fs (work t j.pages k.changed)) (below j.pages) ≡ set (map (page_over es (work o j.pages j.changed)) (below j.pages)) page x
  set_pages page x o t within each =
      let old : Pages = map (page_over es (work o j.pages j.changed)) (below j.pages) in
      let size : length old ≡ j.pages = length-map-range_with_len (page_over es (work o j.pages j.changed)) 0 j.pages in
      sym (fill_by_all (page_over fs (work t j.pages k.changed)) (set old page x) j.pages [] (length-set old page x ∙ size) (λ i lt. elim (cases_eq i page) [
        | inl same ↦
            subst (λ q. get_or (set old page x) q [] ≡ page_over fs (work t j.pages k.changed) q) (sym same)
            (get_or-set_same old page x [] (omega (arith, size, within))
            ∙ sym (each page ∙ ap (λ b. cond b x (page_over es (work o j.pages j.changed) page)) (eq-eqb page page refl)))
        | inr ne ↦
            get_or-set_other old page i x [] ne
            ∙ get_or-map-range_with_len (page_over es (work o j.pages j.changed)) 0 j.pages i i [] lt (omega arith)
            ∙ sym (each i ∙ ap (λ b. cond b x (page_over es (work o j.pages j.changed) i)) (ne_eqb i page ne))
      ]))

  pub told_set : (page : ℕ) (x : List ℕ) (o t : Option Tale) → page < j.pages → Goes (Changes j.pages page x es fs j.changed k.changed) o t
      → Goes (λ (old new : Pages). new ≡ set old page x) (told_pages j es o) (told_pages k fs t)
  unfolding work_pages
  told_set page x None None within changes = tt
  told_set page x None (Some t) within changes = absurd changes
  told_set page x (Some o) None within changes = absurd changes
  told_set page x (Some o) (Some t) within changes =
      rw (told_idle j es o idle, told_idle k fs t (state ∙ idle))
      (ap (λ n. map (page_over fs (work t n k.changed)) (below n)) pages ∙ set_pages page x o t within changes.pages)

-- what a read gives
pub told_bytes : (j : View) (es : Entries) (page : ℕ) (into : List ℕ) (o : Option Tale) → j.state ≡ Idle → page < j.pages
    → IfSome o (λ t. into ≡ page_over es (work t j.pages j.changed) page) → IfSome (told_pages j es o) (λ pages. into ≡ get_or pages page [])
unfolding work_pages
told_bytes j es page into None idle within is = tt
told_bytes j es page into (Some t) idle within is =
    rw (told_idle j es t idle) (is ∙ sym (get_or-map-range_with_len (page_over es (work t j.pages j.changed)) 0 j.pages page page [] within (omega arith)))

pub either : (r : Result (Unit {0}) StoreErr) (P Q R : Type 0) → OnOk r P → OnErr r Q → (P → R) → (Q → R) → R
either (Ok x) P Q R p q f h = f p
either (Err e) P Q R p q f h = h q

-- ---- what is held

key_at : (k : ℕ) (e : ℕ) (b : Bool) → (nat_eq e k || b) ≡ true → nat_eq k e ≡ false → b ≡ true
key_at k e b h ne = elim (cases_eq e k) [
  | inl same ↦ absurd (false≢true (sym ne ∙ eq-eqb k e (sym same)))
  | inr apart ↦ sym (ap (λ c. c || b) (ne_eqb e k apart)) ∙ h
]

pub key_found : (k : ℕ) (es : Entries) → list_any (λ p. nat_eq p k) (keys_of es) ≡ true → IsSome (frame_at es k)
key_found k [] h = absurd (false≢true h)
key_found k (e ∷ es) h = elim (cases_Bool (nat_eq k e.0)) [
  | inl t ↦ rw t refl
  | inr f ↦ rw f (key_found k es (key_at k e.0 (list_any (λ p. nat_eq p k) (keys_of es)) h f))
]

pub tells_reads : (o t : Option Tale) → Goes (λ old new. new.reads ≤ old.reads) o t → Goes (λ (old new : ℕ). new ≤ old) (tale_reads o) (tale_reads t)
tells_reads None None goes = goes
tells_reads None (Some t) goes = goes
tells_reads (Some o) None goes = goes
tells_reads (Some o) (Some t) goes = goes
