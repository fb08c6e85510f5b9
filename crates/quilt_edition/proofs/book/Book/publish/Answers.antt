use Rattle.std.proofs.Common.{◌+◌, ◌*◌, ◌≤◌, refl, sym, ◌∙◌, ap, subst, arith}
use Rattle.quilt_pool.specs.Entries.{AreBelow}
use Rattle.quilt_edition.proofs.Heads.{next_head}
use Rattle.quilt_edition.specs.Keeping.{is_free, is_left_out}
use Rattle.quilt_edition.proofs.Tallying.{tally_at, left_tally_at, tally_same, left_complement}
use Rattle.quilt_edition.proofs.Publishing.{kept_left, kept_published, none_marked, told_published}
use Rattle.quilt_node.specs.Pages.{IsHead}
use Rattle.quilt_edition.proofs.book.Book.publish.Goals as goal

pub invariant_of-self : goal.invariant_of-self
invariant_of-self g c =
    let s = c.args.self.now in
    let pages = c.publish_pages.ensures.pages in
    record {
      least = subst (λ n. 16 ≤ n) (sym pages) s.least;
      most = subst (λ n. n ≤ 30000) (sym pages) s.most;
      bits = c.publish_pages.ensures.bits;
      size = c.publish_pages.ensures.device.size ∙ s.size ∙ ap (λ n. 3 + 2 * n) (sym pages);
      below = subst (λ n. AreBelow n c.publish_pages.new.pool.table.entries) (sym pages) c.publish_pages.ensures.below;
      kept = kept_left s.journal c.publish_pages.new.journal s.pool.table.entries c.publish_pages.new.pool.table.entries s.last _ _ c.requires.ready
          pages s.kept c.in_err-publish_pages.ensures.left;
      published = subst (λ n. IsHead n s.last) (sym pages) s.published;
      next = subst (λ n. IsHead n s.work) (sym pages) s.next;
      edition = s.edition;
      level = s.level;
      counted = tally_at c.publish_pages.new.journal.pages s.journal.pages s.free s.tally pages s.counted;
      last_counted = left_tally_at c.publish_pages.new.journal.pages s.journal.pages s.used s.last_tally pages s.last_counted;
    }

pub invariant_of-self-2 : goal.invariant_of-self-2
invariant_of-self-2 g c =
    let s = c.args.self.now in
    let pages = c.publish_pages.ensures.pages in
    record {
      least = subst (λ n. 16 ≤ n) (sym pages) s.least;
      most = subst (λ n. n ≤ 30000) (sym pages) s.most;
      bits = c.publish_pages.ensures.bits;
      size = c.publish_pages.ensures.device.size ∙ s.size ∙ ap (λ n. 3 + 2 * n) (sym pages);
      below = subst (λ n. AreBelow n c.publish_pages.new.pool.table.entries) (sym pages) c.publish_pages.ensures.below;
      kept = kept_published s.journal.pages c.publish_pages.new.journal s.pool.table.entries c.publish_pages.new.pool.table.entries s.journal.changed
          c.header_bytes-header.result _ _ _ pages c.in_ok-publish_pages.ensures.state c.in_ok-publish_pages.ensures.changed (omega (arith, s.least))
          (c.header_bytes-header.ensures.again s.journal.pages
          (next_head s.journal.pages s.work (s.last.edition + 1) s.next (omega (arith, c.requires.number)))) c.in_ok-publish_pages.ensures.published;
      published = subst (λ n. IsHead n (record s.work { edition = s.last.edition + 1 })) (sym pages)
          (next_head s.journal.pages s.work (s.last.edition + 1) s.next (omega (arith, c.requires.number)));
      next = subst (λ n. IsHead n (record s.work { edition = s.last.edition + 1 })) (sym pages)
          (next_head s.journal.pages s.work (s.last.edition + 1) s.next (omega (arith, c.requires.number)));
      edition = refl;
      level = refl;
      counted = tally_at c.publish_pages.new.journal.pages s.journal.pages s.free s.tally pages s.counted;
      last_counted =
          left_tally_at c.publish_pages.new.journal.pages s.journal.pages c.complement_of-self.result s.tally pages
          (tally_same s.journal.pages (is_free s.journal.pages s.free) (is_left_out s.journal.pages c.complement_of-self.result) s.tally
          (left_complement s.journal.pages s.most s.free c.complement_of-self.result c.complement_of-self.ensures) s.counted);
    }

pub returns-clause-changed : goal.returns-clause-changed
returns-clause-changed g c = none_marked c.args.self.now.journal.pages c.publish_pages.new.journal.pages c.publish_pages.new.pool.table.entries
    c.publish_pages.new.journal.changed c.in_ok-publish_pages.ensures.changed c.in_ok-publish_pages.ensures.clean

pub returns-clause-told : goal.returns-clause-told
returns-clause-told g c =
    let s = c.args.self.now in
    rw (← c.header_bytes-header.ensures.written)
    (told_published s.journal c.publish_pages.new.journal s.pool.table.entries c.publish_pages.new.pool.table.entries
    c.header_bytes-header.result _ _ c.requires.ready c.publish_pages.ensures.pages c.in_ok-publish_pages.ensures.state
    c.in_ok-publish_pages.ensures.changed c.in_ok-publish_pages.ensures.clean c.in_ok-publish_pages.ensures.published)

pub returns-clause-used : goal.returns-clause-used
returns-clause-used g c =
    let n = c.publish_pages.new.journal.pages in
    let s = c.args.self.now in
    let pages = c.publish_pages.ensures.pages in
    λ page. left_complement n (subst (λ k. k ≤ 30000) (sym pages) s.most) s.free c.complement_of-self.result c.complement_of-self.ensures page
    ∙ ap (λ k. is_free k s.free page) pages
