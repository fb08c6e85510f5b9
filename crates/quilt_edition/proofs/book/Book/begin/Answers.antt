use Rattle.std.proofs.Common.{ℕ, false, replicate, refl, sym, ◌∙◌, ap, subst}
use Rattle.quilt_journal.specs.Beginning.{FitsFile, IsNewJournal, NoneFree, Redoes}
use Rattle.quilt_journal.specs.Changed.{View}
use Rattle.quilt_journal.proofs.Calls.{goes_here}
use Rattle.quilt_pool.specs.declared.pool.Pool.{Pool}
use Rattle.lru.specs.LruCache.{LruCache}
use Rattle.quilt_node.specs.Pages.{IsHeader}
use Rattle.quilt_node.specs.Nodes.{HeadFits}
use Rattle.quilt_node.specs.declared.head.Head.{Head}
use Rattle.quilt_pool.specs.declared.frame.Frame.{Frame}
use Rattle.quilt_edition.proofs.Starting.{kept_begun, goes_opened, goes_no_header, goes_redone, none_redoes}
use Rattle.quilt_edition.proofs.book.Book.begin.Goals as goal

pub returns-in_default-clause-crash : goal.returns-in_default-clause-crash
returns-in_default-clause-crash g c =
    goes_here _ NoneFree Redoes _ (g.met.W.Disk.is_consistent c.args.world) c.requires.whole (λ o so long none. none_redoes o so none)

pub over-requires-clause-kept : goal.over-requires-clause-kept
over-requires-clause-kept g c =
    let j = c.in-Journal.journal in
    kept_begun (g.W.Disk.size c.args.world) c.in-Ok-begin.begun j c.in-Ok.empty.table.entries c.in-Some.head c.read_page.new.into _ _
    c.in-Journal.is c.in-Ok-begin.ensures.gives
    (ap (λ (x : LruCache ℕ Frame). x.entries) c.in-Ok.ensures) c.read_page.ensures.kept c.in-Ok-read_page.ensures.bytes
    (subst (λ n. IsHeader n c.read_page.new.into c.in-Some.head) c.pages.ensures.pages c.in-Some.ensures)

pub over-requires-clause-numbers : goal.over-requires-clause-numbers
over-requires-clause-numbers g c = (subst (λ n. IsHeader n c.read_page.new.into c.in-Some.head) c.pages.ensures.pages c.in-Some.ensures).numbers

pub returns-clause-fresh : goal.returns-clause-fresh
returns-clause-fresh g c =
    let new : IsNewJournal (g.W.Disk.size c.args.world) c.in-Journal.journal = subst (FitsFile (g.W.Disk.size c.args.world)) c.in-Journal.is c.in-Ok-begin.ensures.gives in
    let same = c.over.ensures.journal in (
      ap (λ (v : View). v.state) same ∙ new.state,
      c.over.ensures.heads.1 ∙ sym c.over.ensures.heads.0,
      ap (λ (v : View). v.changed) same ∙ new.changed ∙ ap (λ n. replicate n false) (sym (ap (λ (v : View). v.pages) same)),
      c.over.ensures.used,
      ap (λ (p : Pool). p.table) c.over.ensures.pool ∙ c.in-Ok.ensures,
    )

pub returns-clause-crash : goal.returns-clause-crash
returns-clause-crash g c = rw c.over.ensures.world (goes_redone _ _ _ c.begin.ensures.crash c.read_page.ensures.nothing c.read_page.ensures.counts)

pub returns-clause-cause : goal.returns-clause-cause
returns-clause-cause g c =
    rw (c.over.ensures.journal, c.over.ensures.heads.0, c.over.ensures.world)
    (goes_opened (g.W.Disk.size c.args.world) c.in-Ok-begin.begun c.in-Journal.journal c.read_page.new.into _ _ _ c.in-Journal.is c.in-Ok-begin.ensures.gives
    c.in-Ok-begin.ensures.answer c.read_page.ensures.kept c.in-Ok-read_page.ensures.bytes
    c.in-Some.head (subst (λ n. IsHeader n c.read_page.new.into c.in-Some.head) c.pages.ensures.pages c.in-Some.ensures))

pub returns-in_default-read_page-clause-crash : goal.returns-in_default-read_page-clause-crash
returns-in_default-read_page-clause-crash g c = goes_redone _ _ _ c.begin.ensures.crash c.read_page.ensures.nothing c.read_page.ensures.counts

pub returns-in_default-header_of-clause-crash : goal.returns-in_default-header_of-clause-crash
returns-in_default-header_of-clause-crash g c = goes_redone _ _ _ c.begin.ensures.crash c.read_page.ensures.nothing c.read_page.ensures.counts

pub returns-in_default-header_of-clause-cause : goal.returns-in_default-header_of-clause-cause
returns-in_default-header_of-clause-cause g c = (
  refl,
  goes_no_header (g.W.Disk.size c.args.world) c.in-Ok-begin.begun c.in-Journal.journal c.read_page.new.into _ _ _ c.in-Journal.is c.in-Ok-begin.ensures.gives
      c.in-Ok-begin.ensures.answer c.read_page.ensures.kept c.in-Ok-read_page.ensures.bytes
      (subst (λ n. (h : Head) → HeadFits h → IsHeader n c.read_page.new.into h → ⊥) c.pages.ensures.pages c.in_default-header_of.ensures),
)
