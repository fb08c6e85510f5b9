use Rattle.std.proofs.Common.{ℕ, ◌+◌, ◌*◌, length, refl, ◌∙◌, ap}
use Rattle.std.proofs.lemmas.Result.{err_from_is_err_and}
use Rattle.quilt_words.specs.declared.command.Command.{Command}
use Rattle.quilt_blocks.specs.Cutting.{leaves_by_code}
use Rattle.quilt_blocks.specs.Raster.{Raster}
use Rattle.quilt_map.specs.Asking.{reads_in}
use Rattle.quilt_map.specs.Costs.{show_pages, cut_pages}
use Rattle.quilt_map.specs.Derivation.{derived}
use Rattle.quilt_map.proofs.plans.Amends.{mid_at}
use Rattle.quilt_map.proofs.answers.Answered.{has_number, level_is}
use Rattle.quilt_map.proofs.answers.Asked.{if_ok, if_err}
use Rattle.quilt_map.proofs.layers.Derives.{derived_of, derived_as, derived_grid, made_level, made_fits, made_answered}
use Rattle.quilt_map.proofs.questions.Costs.{costs_as, both_costs}
use Rattle.quilt_map.proofs.states.Going.{goes_of, goes_both}
use Rattle.quilt_map.proofs.states.Moving.{with_book}
use Rattle.quilt_map.proofs.plans.PaintPlans.{as_region, region_there}
use Rattle.quilt_map.proofs.session.Session.make_derived.Goals as goal

pub returns-in_err-list-clause-sound : goal.returns-in_err-list-clause-sound
returns-in_err-list-clause-sound g c =
    let p = err_from_is_err_and c.from_residual.result c.from_residual.ensures.1 in
    rw (p.1, p.2) (λ s at name grid is fits.
    let old = c.args.self.now in
    c.in_err-list.ensures.sound grid
    (has_number {D = g.W.Disk} old s at name c.args.number (as_region {D = g.W.Disk} old s at name c.args.number grid is))
    (region_there {D = g.W.Disk} old s at name c.args.number grid is))

pub returns-clause-made : goal.returns-clause-made
returns-clause-made g c =
    if_ok _ _ c.make_region.result (λ reply p s at name grid is fits.
    let old = c.args.self.now in
    let book = c.read_derived.new.book in
    let command = c.args.command.now in
    let there = mid_at {D = g.W.Disk} old s at book c.read_derived.ensures.still (g.met.W.Disk.is_consistent book.world) in
    let same = derived_of {D = g.W.Disk} old s at command name c.args.number grid is c.in_ok-list.list.grid c.in_ok-list.ensures.list in
    let h = derived command s.last.level grid in
    let made = derived_as command c.in-Ok.made c.in_ok-list.list s.last.level grid c.in-Ok.ensures
    (c.in_ok-list.ensures.level ∙ level_is {D = g.W.Disk} old s at) same in
    let fit =
    made_fits s.last.format s.last.level c.in-Ok.made h made (derived_grid {D = g.W.Disk} old s at command name c.args.number grid is fits) in
    made_answered {D = g.W.Disk} old (with_book {D = g.W.Disk} old book) c.make_region.new.self s c.args.into.now c.in-Ok.made h reply refl made
    (p s there (made_level c.in-Ok.made s.last.level h made) fit)) c.make_region.ensures.made

pub returns-clause-sound : goal.returns-clause-sound
returns-clause-sound g c =
    if_err _ _ c.make_region.result (λ e p s at name grid is fits.
    let old = c.args.self.now in
    let book = c.read_derived.new.book in
    let command = c.args.command.now in
    let there = mid_at {D = g.W.Disk} old s at book c.read_derived.ensures.still (g.met.W.Disk.is_consistent book.world) in
    let same = derived_of {D = g.W.Disk} old s at command name c.args.number grid is c.in_ok-list.list.grid c.in_ok-list.ensures.list in
    let h = derived command s.last.level grid in
    let made = derived_as command c.in-Ok.made c.in_ok-list.list s.last.level grid c.in-Ok.ensures
    (c.in_ok-list.ensures.level ∙ level_is {D = g.W.Disk} old s at) same in
    let fit =
    made_fits s.last.format s.last.level c.in-Ok.made h made (derived_grid {D = g.W.Disk} old s at command name c.args.number grid is fits) in
    p s there (made_level c.in-Ok.made s.last.level h made) fit) c.make_region.ensures.sound

pub returns-clause-goes_on : goal.returns-clause-goes_on
returns-clause-goes_on g c =
    let old = c.args.self.now.book in
    let book = c.read_derived.new.book in
    goes_both {D = g.W.Disk} old book c.make_region.new.self.book (goes_of {D = g.W.Disk} old book c.read_derived.ensures.still.later)
    c.make_region.ensures.goes_on

pub returns-clause-reads : goal.returns-clause-reads
returns-clause-reads g c =
    if_ok _ _ c.make_region.result (λ reply p s at name grid is side a b w cuts over.
    let old = c.args.self.now in
    let book = c.read_derived.new.book in
    let command = c.args.command.now in
    let n = s.last.level in
    let list = c.in-Ok.made in
    let same = derived_of {D = g.W.Disk} old s at command name c.args.number grid is c.in_ok-list.list.grid c.in_ok-list.ensures.list in
    let made = derived_as command list c.in_ok-list.list n grid c.in-Ok.ensures (c.in_ok-list.ensures.level ∙ level_is {D = g.W.Disk} old s at) same in
    let count = ap (λ (l : Raster). length (leaves_by_code l.level l.grid)) made
    ∙ ap (λ (x : Command). length (leaves_by_code n (derived x n grid))) cuts in
    costs_as (show_pages old.book.work.level grid side w + (6 + 6 * length (leaves_by_code list.level list.grid))) (cut_pages n grid side w)
    (reads_in {D = g.W.Disk} old.book) (reads_in {D = g.W.Disk} c.make_region.new.self.book)
    (ap (λ (m : ℕ). show_pages m grid side w + (6 + 6 * length (leaves_by_code list.level list.grid))) (level_is {D = g.W.Disk} old s at)
    ∙ ap (λ (m : ℕ). show_pages n grid side w + (6 + 6 * m)) count)
    (both_costs (show_pages old.book.work.level grid side w) (6 + 6 * length (leaves_by_code list.level list.grid)) (reads_in {D = g.W.Disk} old.book)
    (reads_in {D = g.W.Disk} book) (reads_in {D = g.W.Disk} c.make_region.new.self.book)
    (c.in_ok-list.ensures.reads grid side a b w cuts over (region_there {D = g.W.Disk} old s at name c.args.number grid is)) p)) c.make_region.ensures.reads
