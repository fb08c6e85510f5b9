use Rattle.std.proofs.Common.{◌<◌, Some, None, length, sym, ◌∙◌, subst}
use Rattle.quilt_pool.specs.Entries.{has_frame}
use Rattle.quilt_pool.specs.Frames.{frame_in}
use Rattle.quilt_pool.proofs.Sharing.{held_below, shared_promoted}
use Rattle.quilt_pool.proofs.Looks.{promoted_none}
use Rattle.quilt_pool.proofs.Tables.{seen_at, seen_promoted, bytes_of}
use Rattle.quilt_pool.proofs.table.find_frame.Goals as goal

pub index-requires : goal.index-requires
index-requires c =
    let t = c.table.inside in
    subst (λ n. c.in-Some.at < n) (sym t.frames.ok.0)
    (held_below (length t.frames.items) t.places.entries t.free.items c.table.invariant.0 c.args.page c.in-Some.at
    (sym c.front_place.ensures.value ∙ c.in-Some.is))

pub invariant_of-table : goal.invariant_of-table
invariant_of-table c =
    let t = c.table.inside in
    rw c.front_place.ensures.entries (
      shared_promoted (length t.frames.items) t.places.entries t.free.items c.table.invariant.0 c.args.page,
      c.table.invariant.1,
      c.table.invariant.2,
      c.table.invariant.3,
      c.table.invariant.4,
      c.table.invariant.5,
    )

pub invariant_of-table-2 : goal.invariant_of-table-2
invariant_of-table-2 c =
    let t = c.table.inside in
    rw c.front_place.ensures.entries (
      shared_promoted (length t.frames.items) t.places.entries t.free.items c.table.invariant.0 c.args.page,
      c.table.invariant.1,
      c.table.invariant.2,
      c.table.invariant.3,
      c.table.invariant.4,
      c.table.invariant.5,
    )

pub returns-in-Some-clause-found : goal.returns-in-Some-clause-found
returns-in-Some-clause-found c = λ _.
    let t = c.table.inside in
    let at = c.in-Some.at in
    let is = sym c.front_place.ensures.value ∙ c.in-Some.is in
    let within = held_below (length t.frames.items) t.places.entries t.free.items c.table.invariant.0 c.args.page at is in
    let found = seen_at t.places.entries (frame_in t.frames.items t.dirty.items) t.places.cap _ c.table.view_is c.args.page (Some at) is in
    subst (λ o. has_frame o c.index.result.now) (sym found) (bytes_of t.frames.items at c.index.result.now within c.index.ensures)

pub returns-in-Some-clause-entries : goal.returns-in-Some-clause-entries
returns-in-Some-clause-entries c = λ _.
    let t = c.table.inside in
    rw c.front_place.ensures.entries
    (seen_promoted t.places.entries (frame_in t.frames.items t.dirty.items) t.places.cap _ c.table.view_is c.args.page)

pub returns-clause-lost : goal.returns-clause-lost
returns-clause-lost c = λ _.
    let t = c.table.inside in
    let f = frame_in t.frames.items t.dirty.items in
    let none = sym c.front_place.ensures.value ∙ c.in_default.is in (
      seen_at t.places.entries f t.places.cap _ c.table.view_is c.args.page None none,
      rw (c.front_place.ensures.entries, promoted_none c.args.page t.places.entries none) c.table.view_is,
    )
