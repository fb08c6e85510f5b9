use Rattle.std.proofs.Common.{◌<◌, [], Some, length, sym, ◌∙◌, ap, subst}
use Rattle.std.specs.Option.{is_some}
use Rattle.quilt_pool.specs.Entries.{bytes_or}
use Rattle.quilt_pool.specs.Frames.{frame_in}
use Rattle.quilt_pool.proofs.Sharing.{held_below}
use Rattle.quilt_pool.proofs.Tables.{there_place, seen_at, bytes_of}
use Rattle.quilt_pool.proofs.table.lent_frame.Goals as goal

pub unwrap-at-requires : goal.unwrap-at-requires
unwrap-at-requires c =
    let t = c.table.inside in
    ap is_some c.place_of.ensures
    ∙ there_place t.places.entries (frame_in t.frames.items t.dirty.items) t.places.cap _ c.table.view_is c.args.page c.requires.there

pub index-requires : goal.index-requires
index-requires c =
    let t = c.table.inside in
    subst (λ n. c.unwrap-at.result < n) (sym t.frames.ok.0)
    (held_below (length t.frames.items) t.places.entries t.free.items c.table.invariant.0 c.args.page c.unwrap-at.result
    (sym c.place_of.ensures ∙ c.unwrap-at.ensures))

pub returns : goal.returns
returns c =
    let t = c.table.inside in
    let at = c.unwrap-at.result in
    let is = sym c.place_of.ensures ∙ c.unwrap-at.ensures in
    let within = held_below (length t.frames.items) t.places.entries t.free.items c.table.invariant.0 c.args.page at is in
    let found = seen_at t.places.entries (frame_in t.frames.items t.dirty.items) t.places.cap _ c.table.view_is c.args.page (Some at) is in
    record { bytes = bytes_of t.frames.items at c.index.result.now within c.index.ensures ∙ sym (ap (bytes_or []) found) }
