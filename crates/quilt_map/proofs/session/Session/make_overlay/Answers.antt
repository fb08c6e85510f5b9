use Rattle.std.proofs.Common.{refl}
use Rattle.std.proofs.lemmas.Result.{err_from_is_err_and}
use Rattle.quilt_overlay.specs.Combining.{overlaid}
use Rattle.quilt_map.proofs.plans.Amends.{mid_at}
use Rattle.quilt_map.proofs.answers.Answered.{has_number}
use Rattle.quilt_map.proofs.answers.Asked.{if_ok, if_err}
use Rattle.quilt_map.proofs.layers.Derives.{list_of, grid_of_layer, made_level, made_fits, made_answered}
use Rattle.quilt_map.proofs.states.Going.{goes_of, goes_both}
use Rattle.quilt_map.proofs.states.Moving.{with_book}
use Rattle.quilt_map.proofs.layers.Overlays.{overlaid_as, overlaid_fits}
use Rattle.quilt_map.proofs.plans.PaintPlans.{as_region, region_there}
use Rattle.quilt_map.proofs.states.Causes.{cause_then}
use Rattle.quilt_map.proofs.session.Session.make_overlay.Goals as goal

pub returns-in_err-below-clause-sound : goal.returns-in_err-below-clause-sound
returns-in_err-below-clause-sound g c =
    let p = err_from_is_err_and c.from_residual.result c.from_residual.ensures.1 in
    rw (p.1, p.2) (λ s at a b below above is_a is_b.
    let old = c.args.self.now in
    c.in_err-below.ensures.sound below (has_number {D = g.W.Disk} old s at a c.args.first (as_region {D = g.W.Disk} old s at a c.args.first below is_a))
    (region_there {D = g.W.Disk} old s at a c.args.first below is_a))

pub returns-in_err-above-clause-sound : goal.returns-in_err-above-clause-sound
returns-in_err-above-clause-sound g c =
    let p = err_from_is_err_and c.from_residual-in_err-above.result c.from_residual-in_err-above.ensures.1 in
    rw (p.1, p.2) (λ s at a b below above is_a is_b.
    let old = c.args.self.now in
    let book = c.read_region.new.book in
    let mid = with_book {D = g.W.Disk} old book in
    let there = mid_at {D = g.W.Disk} old s at book c.read_region.ensures.still (g.met.W.Disk.is_consistent book.world) in
    c.in_err-above.ensures.sound above
    (has_number {D = g.W.Disk} mid s there b c.args.second (as_region {D = g.W.Disk} mid s there b c.args.second above is_b))
    (region_there {D = g.W.Disk} mid s there b c.args.second above is_b))

pub returns-in_err-above-clause-goes_on : goal.returns-in_err-above-clause-goes_on
returns-in_err-above-clause-goes_on g c =
    let old = c.args.self.now.book in
    let book = c.read_region.new.book in
    let last = c.read_region-2.new.book in
    goes_both {D = g.W.Disk} old book last (goes_of {D = g.W.Disk} old book c.read_region.ensures.still.later)
    (goes_of {D = g.W.Disk} book last c.read_region-2.ensures.still.later)

pub returns-in_default-clause-goes_on : goal.returns-in_default-clause-goes_on
returns-in_default-clause-goes_on g c =
    let old = c.args.self.now.book in
    let book = c.read_region.new.book in
    let last = c.read_region-2.new.book in
    goes_both {D = g.W.Disk} old book last (goes_of {D = g.W.Disk} old book c.read_region.ensures.still.later)
    (goes_of {D = g.W.Disk} book last c.read_region-2.ensures.still.later)

pub returns-clause-made : goal.returns-clause-made
returns-clause-made g c =
    if_ok _ _ c.make_region.result (λ reply p s at a b below above is_a is_b.
    let old = c.args.self.now in
    let book = c.read_region.new.book in
    let mid = with_book {D = g.W.Disk} old book in
    let there = mid_at {D = g.W.Disk} old s at book c.read_region.ensures.still (g.met.W.Disk.is_consistent book.world) in
    let last = c.read_region-2.new.book in
    let then = mid_at {D = g.W.Disk} mid s there last c.read_region-2.ensures.still (g.met.W.Disk.is_consistent last.world) in
    let first = list_of {D = g.W.Disk} old s at a c.args.first below is_a c.in_ok-below.below c.in_ok-below.ensures.list in
    let second = list_of {D = g.W.Disk} mid s there b c.args.second above is_b c.in_ok-above.above c.in_ok-above.ensures.list in
    let h = overlaid c.args.op s.last.level below above in
    let list = c.in-Ok.made in
    let made = overlaid_as c.args.op list c.in_ok-below.below c.in_ok-above.above s.last.level below above c.in-Ok.ensures first second in
    let grid = overlaid_fits s.last.format s.last.level c.args.op below above (grid_of_layer {D = g.W.Disk} old s at a c.args.first below is_a)
    (grid_of_layer {D = g.W.Disk} old s at b c.args.second above is_b) in
    made_answered {D = g.W.Disk} old (with_book {D = g.W.Disk} mid last) c.make_region.new.self s c.args.into.now list h reply refl made
    (p s then (made_level list s.last.level h made) (made_fits s.last.format s.last.level list h made grid))) c.make_region.ensures.made

pub returns-clause-sound : goal.returns-clause-sound
returns-clause-sound g c =
    if_err _ _ c.make_region.result (λ e p s at a b below above is_a is_b.
    let old = c.args.self.now in
    let book = c.read_region.new.book in
    let mid = with_book {D = g.W.Disk} old book in
    let there = mid_at {D = g.W.Disk} old s at book c.read_region.ensures.still (g.met.W.Disk.is_consistent book.world) in
    let last = c.read_region-2.new.book in
    let then = mid_at {D = g.W.Disk} mid s there last c.read_region-2.ensures.still (g.met.W.Disk.is_consistent last.world) in
    let first = list_of {D = g.W.Disk} old s at a c.args.first below is_a c.in_ok-below.below c.in_ok-below.ensures.list in
    let second = list_of {D = g.W.Disk} mid s there b c.args.second above is_b c.in_ok-above.above c.in_ok-above.ensures.list in
    let h = overlaid c.args.op s.last.level below above in
    let list = c.in-Ok.made in
    let made = overlaid_as c.args.op list c.in_ok-below.below c.in_ok-above.above s.last.level below above c.in-Ok.ensures first second in
    let grid = overlaid_fits s.last.format s.last.level c.args.op below above (grid_of_layer {D = g.W.Disk} old s at a c.args.first below is_a)
    (grid_of_layer {D = g.W.Disk} old s at b c.args.second above is_b) in
    p s then (made_level list s.last.level h made) (made_fits s.last.format s.last.level list h made grid)) c.make_region.ensures.sound

pub returns-clause-goes_on : goal.returns-clause-goes_on
returns-clause-goes_on g c =
    let old = c.args.self.now.book in
    let book = c.read_region.new.book in
    let last = c.read_region-2.new.book in
    goes_both {D = g.W.Disk} old book c.make_region.new.self.book (goes_of {D = g.W.Disk} old book c.read_region.ensures.still.later)
    (goes_both {D = g.W.Disk} book last c.make_region.new.self.book (goes_of {D = g.W.Disk} book last c.read_region-2.ensures.still.later)
    c.make_region.ensures.goes_on)

pub returns-clause-cause : goal.returns-clause-cause
returns-clause-cause g c = cause_then c.read_region.ensures.cause (cause_then c.read_region-2.ensures.cause c.make_region.ensures.cause)
