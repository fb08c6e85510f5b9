-- What a book that was just opened keeps.
use Rattle.std.proofs.Common.{inl, inr, ◌+◌, length, ◌≡◌, ℕ, ◌<◌, ◌≤◌, List, [], Option, Some, None, get_or, refl, sym, ◌∙◌, ap, subst, arith}
use Rattle.std.specs.Option.{IfSome}
use Rattle.quilt_world.specs.Disk.{Pages}
use Rattle.quilt_world.specs.Tale.{Tale, Goes}
use Rattle.quilt_journal.specs.Beginning.{FitsFile, IsBegunOver, IsNewJournal, Opens}
use Rattle.quilt_journal.specs.Changed.{View}
use Rattle.quilt_journal.specs.Kept.{IsIdle, IsKept, home_page, published, work}
use Rattle.quilt_journal.specs.declared.journal.Begun.{Begun}
use Rattle.quilt_journal.specs.declared.journal.Begun.TheVariants as begun
use Rattle.quilt_journal.proofs.Clearing.{idle_none}
use Rattle.quilt_journal.proofs.Homes.{published_at}
use Rattle.quilt_node.specs.declared.head.Head.{Head}
use Rattle.quilt_node.specs.Pages.{IsHeader}
use Rattle.quilt_pool.specs.Entries.{Entries, IsClean}
use Rattle.quilt_edition.specs.Keeping.{IsBook, IsKeptBy}
use Rattle.std.proofs.lemmas.Bool.{cases_lt}
use Rattle.std.proofs.lemmas.List.{append-nil}
use Rattle.quilt_world.specs.Home.{home}
use Rattle.quilt_world.specs.Tale.{Adds, IsConsistent}
use Rattle.quilt_world.proofs.StopLaws.{same_file, since_nothing}
use Rattle.quilt_journal.specs.Beginning.{NoneFree, Redoes, redo_count}
use Rattle.quilt_journal.specs.Kept.{HasHome}
use Rattle.quilt_journal.specs.Writing.{Writing}
use Rattle.quilt_journal.proofs.RedoSteps.{Read, whole_seen, untouched_first, untouched_redone}
use Rattle.quilt_journal.proofs.Writes.{writing_both, writing_more, writing_none, writing_nothing}
use Rattle.quilt_node.specs.Nodes.{HeadFits}
use Rattle.quilt_node.specs.Pages.{IsHead}
use Rattle.quilt_world.specs.Causes.{next_count}
use Rattle.quilt_world.proofs.Told.{goes_then, goes_and}
use Rattle.quilt_edition.specs.Starting.{Opened, HasNoHeader, header_page}
use Rattle.quilt_edition.proofs.Steps.{idle_kept}
use Rattle.quilt_pool.proofs.Entering.{none_some}

no_entries : (pages : Pages) → IsClean [] pages
no_entries pages = record { each = λ i f there none. absurd (none_some f there) }

is_begun : (size : ℕ) (j : View) (head : Head) (bytes : List ℕ) (a b : Tale) → IsNewJournal size j → IsKept j.state j.pages j.changed b
    × (published b j.pages ≡ published a j.pages) × (work b j.pages j.changed ≡ work a j.pages j.changed)
    → bytes ≡ get_or (work a j.pages j.changed) 0 [] → IsHeader j.pages bytes head → IsBook j [] head b
is_begun size j head bytes a b new kept read header =
    let some : 0 < j.pages = omega (arith, new.least) in
    let idle : IsIdle j.pages j.changed b = subst (λ s. IsKept s j.pages j.changed b) new.state kept.0 in
    let none = idle_none j.pages j.changed b idle in
    let works : work b j.pages j.changed ≡ published b j.pages = ap (λ d. work b j.pages d) new.changed ∙ none.1 in
    let first : home_page b 0 ≡ bytes = sym (published_at b j.pages 0 some) ∙ ap (λ (p : Pages). get_or p 0 []) (sym works ∙ kept.2) ∙ sym read in
    record {
      work = record { idle = idle; clean = no_entries (work b j.pages j.changed) };
      header = subst (λ x. IsHeader j.pages x head) (sym first) header;
    }

pub kept_begun : (size : ℕ) (found : Begun) (j : View) (es : Entries) (head : Head) (bytes : List ℕ) (a b : Option Tale) → found ≡ begun.Journal j
    → FitsFile size found → es ≡ []
    → Goes (λ x y. IsKept j.state j.pages j.changed y × (published y j.pages ≡ published x j.pages) × (work y j.pages j.changed ≡ work x j.pages j.changed)) a b
    → IfSome a (λ x. bytes ≡ get_or (work x j.pages j.changed) 0 []) → IsHeader j.pages bytes head → IsKeptBy j es head b
kept_begun size found j es head bytes None None is gives empty goes read header = tt
kept_begun size found j es head bytes None (Some b) is gives empty goes read header = absurd goes
kept_begun size found j es head bytes (Some a) None is gives empty goes read header = tt
kept_begun size found j es head bytes (Some a) (Some b) is gives empty goes read header =
    let new : IsNewJournal size j = subst (FitsFile size) is gives in
    idle_kept j es head (Some b) new.state (subst (λ l. IsBook j l head b) (sym empty) (is_begun size j head bytes a b new goes read header))

-- ---- the numbers of a header

pub head_fits : (pages : ℕ) (h : Head) → pages ≤ 30000 → IsHead pages h → HeadFits h
head_fits pages h most is = record {
  edition = is.edition;
  root = elim (cases_lt 0 h.height) [
    | inl tree ↦ omega (arith, (is.tree tree).1, most)
    | inr none ↦ omega (arith, (is.no_tree (omega (arith, none))).0)
  ];
  records = omega (arith, is.records, most);
}

-- ---- what opening leaves, with a read behind it

adds_nothing : (o m n : Tale) → Adds [] o m → Adds [] m n → Adds [] o n
adds_nothing o m n p q = record { file = same_file o m n p.file q.file; log = q.log ∙ append-nil m.log ∙ p.log; input = q.input ∙ p.input }

writing_read : (k : ℕ) (o m n : Tale) → Writing k o m → Adds [] m n → n.writes ≡ m.writes → Writing k o n
writing_read k o m n writing adds same =
    writing_more (k + 0) k o n (omega arith) (writing_both k 0 o m n writing (writing_nothing 0 m n (omega (arith, same)) adds))

pub redoes_read : (o m n : Tale) → Redoes o m → Read m n → Redoes o n
redoes_read o m n redoes (adds, counts) = record {
  map = λ pages file. record {
    since = since_nothing o m n (HasHome pages (home o.seen pages)) (redoes.map pages file).since adds;
    writing = writing_read (redo_count o.seen pages) o m n (redoes.map pages file).writing adds counts.1;
  };
  other = λ none. adds_nothing o m n (redoes.other none) adds;
  alone = writing_read (length o.start) o m n redoes.alone adds counts.1;
}

-- ---- what opening finds

abbrev pub IsRead : View → Tale → Tale → Type 0
IsRead j m n = IsKept j.state j.pages j.changed n × (published n j.pages ≡ published m j.pages) × (work n j.pages j.changed ≡ work m j.pages j.changed)

-- the header's page of the file that was opened
page_found : (size : ℕ) (j : View) (bytes : List ℕ) (o m : Tale) → IsNewJournal size j → Opens j o m → bytes ≡ get_or (work m j.pages j.changed) 0 []
    → bytes ≡ header_page j.pages o.seen
page_found size j bytes o m new opens read =
    let works : work m j.pages j.changed ≡ published m j.pages = ap (λ d. work m j.pages d) new.changed ∙ (idle_none j.pages j.changed m opens.idle).1 in
    read ∙ ap (λ (p : Pages). get_or p 0 []) (works ∙ opens.same)

pub opened : (size : ℕ) (j : View) (head : Head) (bytes : List ℕ) (o m n : Tale) → IsNewJournal size j → Opens j o m
    → bytes ≡ get_or (work m j.pages j.changed) 0 [] → IsRead j m n → IsHeader j.pages bytes head → Opened j.pages head o n
opened size j head bytes o m n new opens read kept header = record {
  file = opens.file;
  same = kept.1 ∙ opens.same;
  header = subst (λ b. IsHeader j.pages b head) (page_found size j bytes o m new opens read) header;
}

pub no_header : (size : ℕ) (j : View) (bytes : List ℕ) (o m n : Tale) → IsNewJournal size j → Opens j o m → bytes ≡ get_or (work m j.pages j.changed) 0 []
    → ((h : Head) → HeadFits h → IsHeader j.pages bytes h → ⊥) → HasNoHeader o n
no_header size j bytes o m n new opens read none = record {
  pages = j.pages;
  file = opens.file;
  none = λ h is. none h (head_fits j.pages h new.most is.numbers) (subst (λ b. IsHeader j.pages b h) (sym (page_found size j bytes o m new opens read)) is);
}

-- two calls, told or not, with what the second read
pub goes_found : (P : Tale → Type 0) (R S T : Tale → Tale → Type 0) (a b c : Option Tale) → Goes R a b → Goes S b c → IfSome b P
    → ((o m n : Tale) → R o m → P m → S m n → T o n) → Goes T a c
goes_found P R S T None None None r s p step = tt
goes_found P R S T None None (Some n) r s p step = s
goes_found P R S T None (Some m) c r s p step = absurd r
goes_found P R S T (Some o) None c r s p step = absurd r
goes_found P R S T (Some o) (Some m) None r s p step = s
goes_found P R S T (Some o) (Some m) (Some n) r s p step = step o m n r p s

-- ---- the answers

module _ (size : ℕ) (found : Begun) (j : View) (bytes : List ℕ) (a b c : Option Tale) (is : found ≡ begun.Journal j) (gives : FitsFile size found)
    (answers : Goes (IsBegunOver found) a b)
    (kept : Goes (IsRead j) b c) (read : IfSome b (λ t. bytes ≡ get_or (work t j.pages j.changed) 0 [])) where
  new : IsNewJournal size j
  new = subst (FitsFile size) is gives

  opens : Goes (Opens j) a b
  opens = subst (λ f. Goes (IsBegunOver f) a b) is answers

  pub goes_opened : (head : Head) → IsHeader j.pages bytes head → Goes (Opened j.pages head) a c
  goes_opened head header = goes_found (λ t. bytes ≡ get_or (work t j.pages j.changed) 0 []) (Opens j) (IsRead j) (Opened j.pages head) a b c opens kept read
      (λ o m n opens r kept. opened size j head bytes o m n new opens r kept header)

  pub goes_no_header : ((h : Head) → HeadFits h → IsHeader j.pages bytes h → ⊥) → Goes HasNoHeader a c
  goes_no_header none = goes_found (λ t. bytes ≡ get_or (work t j.pages j.changed) 0 []) (Opens j) (IsRead j) HasNoHeader a b c opens kept read
      (λ o m n opens r kept. no_header size j bytes o m n new opens r none)

pub goes_redone : (a b c : Option Tale) → Goes Redoes a b → Goes (Adds []) b c
    → Goes (λ old new. (new.reads ≡ next_count old.reads) × (new.writes ≡ old.writes)) b c → Goes Redoes a c
goes_redone a b c redone nothing counts =
    goes_then Redoes Read Redoes a b c redone
    (goes_and (Adds []) (λ old new. (new.reads ≡ next_count old.reads) × (new.writes ≡ old.writes)) b c nothing counts) redoes_read

-- a world to which nothing was done
pub none_redoes : (o : Tale) → IsConsistent o → NoneFree o → Redoes o o
none_redoes o so none = record {
  map = λ pages file. untouched_redone pages o o (untouched_first pages o file (whole_seen o so none) (writing_none o));
  other = λ other. record { file = record { start = refl; path = refl; was_there = refl }; log = sym (append-nil o.log); input = refl };
  alone = writing_more 0 (length o.start) o o (omega arith) (writing_none o);
}
