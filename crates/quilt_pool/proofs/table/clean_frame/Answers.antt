use Rattle.std.proofs.Common.{◌≡◌, ℕ, ◌<◌, false, List, [], Some, None, length, set, get_or, sym, ◌∙◌, ap, subst}
use Rattle.quilt_pool.specs.Entries.{bytes_or}
use Rattle.quilt_pool.specs.Frames.{frame_in}
use Rattle.quilt_pool.proofs.Sharing.{held_below, held_once}
use Rattle.quilt_pool.proofs.Tables.{seen_at, seen_set, dirt_here, dirt_others}
use Rattle.quilt_pool.proofs.table.clean_frame.Goals.{in-Some, in_default}
use Rattle.quilt_pool.proofs.table.clean_frame.Goals as goal

pub index_mut-requires : goal.index_mut-requires
index_mut-requires c =
    let t = c.table.inside in
    subst (λ n. c.in-Some.at < n) (sym (t.dirty.ok.0 ∙ c.table.invariant.1))
    (held_below (length t.frames.items) t.places.entries t.free.items c.table.invariant.0 c.args.page c.in-Some.at
    (sym c.place_of.ensures ∙ c.in-Some.is))

pub returns-clause-entries : goal.returns-clause-entries
returns-clause-entries c = λ g there.
    let t = c.table.inside in
    let n = length t.frames.items in
    let f = frame_in t.frames.items t.dirty.items in
    elim c.match-place_of.branch [
      | in-Some w ↦
          let at = w.in-Some.at in
          let is = sym c.place_of.ensures ∙ w.in-Some.is in
          let below = held_below n t.places.entries t.free.items c.table.invariant.0 c.args.page at is in
          let within : at < length t.dirty.items = subst (λ m. at < m) (sym c.table.invariant.1) below in
          let bytes : get_or t.frames.items at [] ≡ g.bytes =
          ap (bytes_or []) (sym (seen_at t.places.entries f t.places.cap _ c.table.view_is c.args.page (Some at) is) ∙ there) in
          w.table-is
          ∙ seen_set t.places.entries f t.places.cap _ c.table.view_is (frame_in t.frames.items (set t.dirty.items at false)) at
          (dirt_others t.frames.items t.dirty.items at false) (record { bytes = g.bytes; is_dirty = false })
          (dirt_here t.frames.items t.dirty.items at false within ∙ ap (λ (b : List ℕ). record { bytes = b; is_dirty = false }) bytes) c.args.page is
          (held_once n t.places.entries t.free.items c.table.invariant.0 at)
      | in_default w ↦
          let none = sym c.place_of.ensures ∙ w.in_default.is in
          let both : None ≡ Some g = sym (seen_at t.places.entries f t.places.cap _ c.table.view_is c.args.page None none) ∙ there in
          absurd cc
    ]
