use Rattle.std.proofs.Common.{ℕ, nat_eq, subst}
use Rattle.lru.specs.LruCache.{LruCache, IsValid}
use Rattle.quilt_pool.specs.declared.frame.Frame.{Frame}
use Rattle.quilt_pool.specs.Frames.{frame_in}
use Rattle.quilt_pool.proofs.Framing.{framed_valid}
use Rattle.quilt_pool.proofs.table.Table.len.Goals as goal

pub returns-clause-valid : goal.returns-clause-valid
returns-clause-valid c =
    let t = c.self.inside in
    subst (λ (v : LruCache ℕ Frame). IsValid nat_eq v) c.self.view_is (framed_valid (frame_in t.frames.items t.dirty.items) t.places c.len.ensures.valid)
