use Rattle.std.proofs.Common.{◌<◌, [], Some, length, set, refl, sym, ◌∙◌, ap, subst}
use Rattle.std.specs.Option.{is_some}
use Rattle.quilt_pool.specs.Entries.{bytes_or, is_dirty}
use Rattle.quilt_pool.specs.Frames.{frame_in}
use Rattle.quilt_pool.proofs.Sharing.{held_below, held_once}
use Rattle.quilt_pool.proofs.Tables.{there_place, seen_at, seen_set, bytes_of, bytes_here, bytes_others}
use Rattle.quilt_pool.specs.Entries.{has_dirt}
use Rattle.quilt_pool.proofs.table.TableLending.edit_frame.Goals as goal

pub unwrap-at-requires : goal.unwrap-at-requires
unwrap-at-requires c =
    let t = c.self.inside in
    ap is_some c.place_of.ensures
    ∙ there_place t.places.entries (frame_in t.frames.items t.dirty.items) t.places.cap _ c.self.view_is c.args.page c.requires.there

pub index_mut-requires : goal.index_mut-requires
index_mut-requires c =
    let t = c.self.inside in
    subst (λ n. c.unwrap-at.result < n) (sym t.frames.ok.0)
    (held_below (length t.frames.items) t.places.entries t.free.items c.self.invariant.0 c.args.page c.unwrap-at.result
    (sym c.place_of.ensures ∙ c.unwrap-at.ensures))

pub returns : goal.returns
returns c =
    let t = c.self.inside in
    let at = c.unwrap-at.result in
    let f = frame_in t.frames.items t.dirty.items in
    let is = sym c.place_of.ensures ∙ c.unwrap-at.ensures in
    let within = held_below (length t.frames.items) t.places.entries t.free.items c.self.invariant.0 c.args.page at is in
    let once = held_once (length t.frames.items) t.places.entries t.free.items c.self.invariant.0 at in
    let found = seen_at t.places.entries f t.places.cap _ c.self.view_is c.args.page (Some at) is in (
      (
        refl,
        λ w.
            seen_set t.places.entries f t.places.cap _ c.self.view_is (frame_in (set t.frames.items at w) t.dirty.items) at
            (bytes_others t.frames.items t.dirty.items at w) (record { bytes = w; is_dirty = is_dirty c.args.self.now.entries c.args.page })
            (bytes_here t.frames.items t.dirty.items at w within ∙ ap (λ o. record { bytes = w; is_dirty = has_dirt o }) (sym found)) c.args.page is once,
      ),
      record { writes_back = tt; bytes = bytes_of t.frames.items at c.index_mut.result.now within c.index_mut.ensures.value ∙ sym (ap (bytes_or []) found) },
    )
