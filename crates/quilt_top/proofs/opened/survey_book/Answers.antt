use Rattle.std.proofs.Common.{◌≡◌, ◌∙◌, ℕ, Some, sym, ap, subst}
use Rattle.quilt_types.specs.declared.stop.Stop.TheVariants as stops
use Rattle.quilt_world.specs.Disk.{Pages}
use Rattle.quilt_world.specs.Tale.{Tale}
use Rattle.quilt_journal.specs.Kept.{published}
use Rattle.quilt_node.specs.declared.head.Head.{Head}
use Rattle.quilt_edition.specs.Books as books
use Rattle.quilt_edition.specs.Keeping.{is_left_out}
use Rattle.quilt_edition.specs.Laws.{later_on}
use Rattle.quilt_audit.specs.Surveys.{IsDamage, OnDamaged}
use Rattle.quilt_map.specs.Sessions.{told_of}
use Rattle.quilt_top.proofs.openings.Surveys.{is_numbered, map_holds, on_damaged, when_told}
use Rattle.quilt_top.proofs.opened.survey_book.Goals as goal

pub returns-in-Ok-clause-unchanged : goal.returns-in-Ok-clause-unchanged
returns-in-Ok-clause-unchanged g c =
    let is = c.deref_mut-opened.ensures.value in
    let ready : books.IsReady c.deref_mut-opened.result.now = rw is c.requires.ready in
    let heads : books.work_of c.deref_mut-opened.result.now ≡ books.last_of c.deref_mut-opened.result.now = rw is c.requires.heads in
    record {
      ready = c.set_used.ensures.goes_on.1 ∙ c.audit.ensures.left.later.1 ∙ ready;
      numbered = is_numbered _ _ c.entries.ensures.is c.in-Ok.ensures.numbered;
      unchanged = c.set_used.ensures.changed;
      heads = c.set_used.ensures.heads.1 ∙ c.audit.ensures.left.later.2.1 ∙ heads
          ∙ sym (c.set_used.ensures.heads.0 ∙ c.audit.ensures.left.later.2.0);
      free = λ page. c.set_used.ensures.free page ∙ sym (c.set_used.ensures.used page);
    }

pub returns-in-Ok-clause-later : goal.returns-in-Ok-clause-later
returns-in-Ok-clause-later g c = rw (sym c.deref_mut-opened.ensures.value, c.set_used.ensures.world) c.audit.ensures.left.faults

pub returns-in-Ok-clause-tale : goal.returns-in-Ok-clause-tale
returns-in-Ok-clause-tale g c =
    rw (sym c.deref_mut-opened.ensures.value)
    (later_on (books.pages_of c.deref_mut-opened.result.now) _ _ _ _ c.audit.ensures.left.later.0 c.audit.ensures.left.later.4 c.set_used.ensures.goes_on.4)

pub returns-in-Ok-clause-holds : goal.returns-in-Ok-clause-holds
returns-in-Ok-clause-holds g c =
    let is = c.deref_mut-opened.ensures.value in
    let book = c.deref_mut-opened.result.now in
    let n = books.pages_of book in
    let ready : books.IsReady book = rw is c.requires.ready in
    let heads : books.work_of book ≡ books.last_of book = rw is c.requires.heads in
    let tale = later_on n _ _ _ _ c.audit.ensures.left.later.0 c.audit.ensures.left.later.4 c.set_used.ensures.goes_on.4 in
    rw (sym is)
    (map_holds book c.set_used.new.self c.in-Ok.survey.catalog c.in-Ok.survey.used _ _ ready
    (c.set_used.ensures.goes_on.0 ∙ c.audit.ensures.left.later.0) (c.set_used.ensures.goes_on.1 ∙ c.audit.ensures.left.later.1)
    (c.set_used.ensures.goes_on.2 ∙ c.audit.ensures.left.later.2.0)
    (λ q. c.set_used.ensures.used q ∙ ap (λ m. is_left_out m c.in-Ok.survey.used q) c.audit.ensures.left.later.0)
    (c.set_used.ensures.told ∙ c.audit.ensures.left.told) tale
    (g.met.W.Disk.is_consistent (books.world_of book)) (g.met.W.Disk.is_consistent (books.world_of c.set_used.new.self))
    (rw is c.requires.pages) c.head-head.result (c.head-head.ensures.work ∙ heads) c.in-Ok.ensures.survey)

pub returns-in-Err-clause-holds : goal.returns-in-Err-clause-holds
returns-in-Err-clause-holds g c =
    let is = c.deref_mut-opened.ensures.value in
    let book = c.args.book.value in
    let n = books.pages_of book in
    let heads : books.work_of c.deref_mut-opened.result.now ≡ books.last_of c.deref_mut-opened.result.now = rw is c.requires.heads in
    let damaged = subst (λ (b : _). OnDamaged (λ p. (told : Pages) → told_of b ≡ Some told → IsDamage told c.head-head.result p) c.in-Err.stop)
    is c.in-Err.ensures.damaged in
    let Is = λ (t : Tale). (page : ℕ) → c.in-Err.stop ≡ stops.Damaged page → IsDamage (published t n) (books.last_of book) page in
    let each : (t : Tale) → g.W.Disk.told (books.world_of book) ≡ Some t → Is t = λ t now page is_page.
    subst (λ (h : Head). IsDamage (published t n) h page) (c.head-head.ensures.work ∙ heads ∙ ap (λ (b : _). books.last_of b) is)
    (on_damaged (λ p. (told : Pages) → told_of book ≡ Some told → IsDamage told c.head-head.result p) c.in-Err.stop damaged
    page is_page (published t n) (c.requires.pages t now)) in
    when_told Is (g.W.Disk.told (books.world_of book)) each
