use Rattle.std.proofs.Common.{None, length, sym, ◌∙◌, ap}
use Rattle.std.specs.Option.{is_some}
use Rattle.quilt_pool.specs.Frames.{frame_in}
use Rattle.quilt_pool.proofs.Sharing.{shared_promoted}
use Rattle.quilt_pool.proofs.Framing.{same_some, none_from}
use Rattle.quilt_pool.proofs.Looks.{promoted_none}
use Rattle.quilt_pool.proofs.Tables.{seen_at, seen_promoted}
use Rattle.quilt_pool.proofs.table.touch_frame.Goals as goal

pub invariant_of-table : goal.invariant_of-table
invariant_of-table c =
    let t = c.table.inside in
    rw c.front_place.ensures.entries (
      shared_promoted (length t.frames.items) t.places.entries t.free.items c.table.invariant.0 c.args.page,
      c.table.invariant.1,
      c.table.invariant.2,
      c.table.invariant.3,
      c.table.invariant.4,
      c.table.invariant.5,
    )

pub returns-clause-found : goal.returns-clause-found
returns-clause-found c = λ is.
    let t = c.table.inside in
    let f = frame_in t.frames.items t.dirty.items in
    ap is_some (seen_at t.places.entries f t.places.cap _ c.table.view_is c.args.page c.front_place.result (sym c.front_place.ensures.value))
    ∙ same_some f c.front_place.result ∙ sym c.is_some-is_there.ensures ∙ is

pub returns-clause-entries : goal.returns-clause-entries
returns-clause-entries c = λ _.
    let t = c.table.inside in
    rw c.front_place.ensures.entries
    (seen_promoted t.places.entries (frame_in t.frames.items t.dirty.items) t.places.cap _ c.table.view_is c.args.page)

pub returns-clause-lost : goal.returns-clause-lost
returns-clause-lost c = λ is.
    let t = c.table.inside in
    let f = frame_in t.frames.items t.dirty.items in
    let none = sym c.front_place.ensures.value ∙ none_from c.front_place.result (sym c.is_some-is_there.ensures ∙ is) in (
      seen_at t.places.entries f t.places.cap _ c.table.view_is c.args.page None none,
      rw (c.front_place.ensures.entries, promoted_none c.args.page t.places.entries none) c.table.view_is,
    )
