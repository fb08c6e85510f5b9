use Rattle.std.proofs.Common.{ℕ, length, sym, ◌∙◌, ap, arith}
use Rattle.lru.specs.LruCache.{LruCache, lru_cache}
use Rattle.quilt_pool.specs.Frames.{frame_in, framed}
use Rattle.quilt_pool.proofs.Sharing.{shared_removed, removed_none, some_free}
use Rattle.quilt_pool.proofs.Tables.{seen_removed, pushed}
use Rattle.quilt_pool.proofs.table.drop_frame.Goals.{in-Some, in_default}
use Rattle.quilt_pool.proofs.table.drop_frame.Goals as goal

pub invariant_of-table : goal.invariant_of-table
invariant_of-table c =
    let t = c.table.inside in
    let i = c.table.invariant in
    let is = sym c.in-Some.ensures.value in
    let some = some_free (length t.frames.items) t.places.entries t.free.items i.0 c.args.page c.in-Some.at is in
    let ok = c.push.ensures.succeeds (omega (arith, t.free.ok.0, some, i.2, i.5)) in
    rw (c.pop.ensures.entries, pushed c.push.result t.free.items c.push.new.self.items c.in-Some.at ok c.push.ensures.items) (
      shared_removed (length t.frames.items) t.places.entries t.free.items i.0 c.args.page c.in-Some.at is,
      i.1,
      i.2,
      i.3,
      i.4,
      omega (arith, i.5, c.push.ensures.capacity),
    )

pub invariant_of-table-in_default : goal.invariant_of-table-in_default
invariant_of-table-in_default c =
    let t = c.table.inside in
    let none = sym c.pop.ensures.value ∙ c.in_default.is in
    rw (c.pop.ensures.entries, removed_none c.args.page t.places.entries none) c.table.invariant

pub returns-clause-entries : goal.returns-clause-entries
returns-clause-entries c =
    let t = c.table.inside in
    let f = frame_in t.frames.items t.dirty.items in
    let seen = seen_removed t.places.entries f t.places.cap _ c.table.view_is c.args.page in
    elim c.match-pop.branch [
      | in-Some w ↦ w.table-is ∙ ap (λ (p : LruCache ℕ ℕ). lru_cache (framed f p.entries) p.cap) c.pop.ensures.entries ∙ seen
      | in_default w ↦ w.table-is ∙ ap (λ (p : LruCache ℕ ℕ). lru_cache (framed f p.entries) p.cap) c.pop.ensures.entries ∙ seen
    ]
