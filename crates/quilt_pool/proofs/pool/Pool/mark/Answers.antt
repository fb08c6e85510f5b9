use Rattle.std.proofs.Common.{true}
use Rattle.quilt_pool.proofs.Dirt.{some_frame, listed_marked}
use Rattle.quilt_pool.specs.Entries.{frame_at}
use Rattle.quilt_pool.proofs.pool.Pool.mark.Goals as goal

pub invariant_of-self-clause-least : goal.invariant_of-self-clause-least
invariant_of-self-clause-least c =
    let s = c.args.self.now in
    let found = some_frame (frame_at s.table.entries c.args.page) c.requires.there in
    rw (c.mark_frame.ensures.entries found.0 found.1) s.least

pub invariant_of-self-clause-listed : goal.invariant_of-self-clause-listed
invariant_of-self-clause-listed c = λ i d.
    let s = c.args.self.now in
    let found = some_frame (frame_at s.table.entries c.args.page) c.requires.there in
    listed_marked s.dirty c.list_page.new.bits c.args.page c.list_page.ensures s.table (record { bytes = found.0.bytes; is_dirty = true }) i c.requires.there
    s.listed (rw (c.mark_frame.ensures.entries found.0 found.1) at d)
