use Rattle.std.proofs.Common.{◌<◌, Some, None, length, sym, ◌∙◌, ap, subst}
use Rattle.quilt_pool.specs.Frames.{frame_in}
use Rattle.quilt_pool.proofs.Sharing.{held_below}
use Rattle.quilt_pool.proofs.Tables.{seen_at, frame_of}
use Rattle.quilt_pool.proofs.table.Table.peek.Goals as goal

pub index-requires : goal.index-requires
index-requires c =
    let t = c.self.inside in
    subst (λ n. c.in-Some.at.now < n) (sym t.frames.ok.0)
    (held_below (length t.frames.items) t.places.entries t.free.items c.self.invariant.0 c.args.page c.in-Some.at.now (sym c.in-Some.ensures))

pub index-requires-in-Some : goal.index-requires-in-Some
index-requires-in-Some c =
    let t = c.self.inside in
    subst (λ n. c.in-Some.at.now < n) (sym (t.dirty.ok.0 ∙ c.self.invariant.1))
    (held_below (length t.frames.items) t.places.entries t.free.items c.self.invariant.0 c.args.page c.in-Some.at.now (sym c.in-Some.ensures))

pub returns-in-Some : goal.returns-in-Some
returns-in-Some c =
    let t = c.self.inside in
    let at = c.in-Some.at.now in
    let within = held_below (length t.frames.items) t.places.entries t.free.items c.self.invariant.0 c.args.page at (sym c.in-Some.ensures) in
    ap Some (frame_of t.frames.items t.dirty.items at c.index.result.now c.index-in-Some.result.now within c.self.invariant.1 c.index.ensures
    c.index-in-Some.ensures)
    ∙ sym (seen_at t.places.entries (frame_in t.frames.items t.dirty.items) t.places.cap _ c.self.view_is c.args.page (Some at) (sym c.in-Some.ensures))

pub returns-in-None : goal.returns-in-None
returns-in-None c =
    let t = c.self.inside in
    sym (seen_at t.places.entries (frame_in t.frames.items t.dirty.items) t.places.cap _ c.self.view_is c.args.page None (sym c.in-None.ensures))
