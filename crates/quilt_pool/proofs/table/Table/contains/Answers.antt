use Rattle.std.proofs.Common.{◌≡◌, ℕ, sym, ◌∙◌, subst}
use Rattle.std.specs.Option.{is_some}
use Rattle.lru.specs.LruCache.{LruCache}
use Rattle.quilt_pool.specs.declared.frame.Frame.{Frame}
use Rattle.quilt_pool.specs.Entries.{frame_at}
use Rattle.quilt_pool.specs.Frames.{frame_in}
use Rattle.quilt_pool.proofs.Framing.{there_same}
use Rattle.quilt_pool.proofs.table.Table.contains.Goals as goal

pub returns : goal.returns
returns c =
    let t = c.self.inside in
    subst (λ (v : LruCache ℕ Frame). c.contains.result ≡ is_some (frame_at v.entries c.args.page)) c.self.view_is
    (c.contains.ensures ∙ sym (there_same (frame_in t.frames.items t.dirty.items) c.args.page t.places.entries))
