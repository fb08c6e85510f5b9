use Rattle.std.proofs.Common.{take, ◌∙◌}
use Rattle.quilt_edition.proofs.TextSteps.{put, kept_by_text, told_text}
use Rattle.quilt_edition.proofs.book.Book.put.Goals as goal

pub invariant_of-self : goal.invariant_of-self
invariant_of-self g c =
    let s = c.args.self.now in
    let adds = put c.put.result (λ n. take n c.args.bytes.now) (g.W.Disk.told s.world) (g.W.Disk.told c.put.new.self) c.put.ensures.put c.put.ensures.nothing in
    record {
      least = s.least;
      most = s.most;
      bits = s.bits;
      size = c.put.ensures.size ∙ s.size;
      below = s.below;
      kept = kept_by_text s.journal s.pool.table.entries s.last (g.W.Disk.told s.world) (g.W.Disk.told c.put.new.self) adds s.kept;
      published = s.published;
      next = s.next;
      edition = s.edition;
      level = s.level;
      counted = s.counted;
      last_counted = s.last_counted;
    }

pub returns-clause-told : goal.returns-clause-told
returns-clause-told g c =
    let s = c.args.self.now in
    told_text s.journal s.pool.table.entries s.last (g.W.Disk.told s.world) (g.W.Disk.told c.put.new.self)
    (put c.put.result (λ n. take n c.args.bytes.now) (g.W.Disk.told s.world) (g.W.Disk.told c.put.new.self) c.put.ensures.put c.put.ensures.nothing) s.kept
