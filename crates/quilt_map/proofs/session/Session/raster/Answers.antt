use Rattle.std.proofs.Common.{◌≡◌, Some, is_some, refl, sym, ◌∙◌, ap}
use Rattle.quilt_blocks.specs.Raster.{Raster}
use Rattle.quilt_map.proofs.plans.Planned.{some_of}
use Rattle.quilt_types.specs.declared.code.Code.TheVariants as no
use Rattle.quilt_words.specs.declared.command.Command.TheVariants as commands
use Rattle.quilt_replies.specs.Answers.{Refused}
use Rattle.quilt_node.specs.declared.head.Head.{Head}
use Rattle.quilt_raster.specs.Bytes.{cell_colours}
use Rattle.quilt_map.proofs.answers.Answered.{catalog_as, level_is}
use Rattle.quilt_map.proofs.answers.Asked.{if_ok, if_err}
use Rattle.quilt_map.proofs.answers.PastQuota.{past_refused}
use Rattle.quilt_map.proofs.states.ChangeSteps.{goes_here}
use Rattle.quilt_map.proofs.answers.Outcomes.{answered_same}
use Rattle.quilt_map.proofs.plans.PaintPlans.{region_in}
use Rattle.quilt_map.proofs.layers.Rasters.{raster_refused, raster_missing, raster_answered, rows_at, same_colours, some_rows, list_grid}
use Rattle.quilt_map.proofs.session.Session.raster.Goals as goal

pub returns-in-Err-clause-answer : goal.returns-in-Err-clause-answer
returns-in-Err-clause-answer g c = λ s at.
    let old = c.args.self.now in
    let name = c.args.name.now in
    let first = c.in-Err.ensures.refused s at.work.numbers (catalog_as {D = g.W.Disk} old s at c.entries.result.now c.entries.ensures.entries) in
    answered_same {D = g.W.Disk} s (commands.Raster name c.args.rows.now) old old (Refused c.in-Err.code) _
    (raster_refused s name c.args.rows.now c.in-Err.code first) refl refl refl at at

pub returns-in-Err-clause-goes_on : goal.returns-in-Err-clause-goes_on
returns-in-Err-clause-goes_on g c = goes_here {D = g.W.Disk} c.args.self.now.book

pub returns-in_default-clause-answer : goal.returns-in_default-clause-answer
returns-in_default-clause-answer g c = λ s at.
    let old = c.args.self.now in
    let name = c.args.name.now in
    let region = c.in-Ok.ensures.found s.work at.work.numbers (catalog_as {D = g.W.Disk} old s at c.entries.result.now c.entries.ensures.entries) in
    answered_same {D = g.W.Disk} s (commands.Raster name c.args.rows.now) old old (Refused no.Rows) _
    (raster_missing s name region.grid region.got c.args.rows.now c.in_default.is) refl refl refl at at

pub returns-in_default-clause-goes_on : goal.returns-in_default-clause-goes_on
returns-in_default-clause-goes_on g c = goes_here {D = g.W.Disk} c.args.self.now.book

pub returns-in-Ok-None-clause-goes_on : goal.returns-in-Ok-None-clause-goes_on
returns-in-Ok-None-clause-goes_on g c = goes_here {D = g.W.Disk} c.args.self.now.book

pub returns-in-Ok-None-clause-answer : goal.returns-in-Ok-None-clause-answer
returns-in-Ok-None-clause-answer g c = λ s at.
    let old = c.args.self.now in
    let name = c.args.name.now in
    let region =
    region_in s.work at.work.numbers c.entries.result.now old.catalog name c.in-Ok.number c.entries.ensures.entries at.work.catalog c.in-Ok.ensures.found in
    let bytes = c.bytes-colours.result.now in
    let there = c.in-Some.is ∙ ap Some (sym c.bytes-colours.ensures) in
    let level = ap (λ (h : Head). h.level) c.head-level.ensures.work ∙ level_is {D = g.W.Disk} old s at in
    raster_answered {D = g.W.Disk} old old s name bytes c.args.rows.now region.0 (cell_colours bytes) _ region.1.got there (same_colours bytes)
    (past_refused {D = g.W.Disk} old s at name (cell_colours bytes) c.head-level.result.level c.quota_of-most.result c.quota_of-most.ensures level
    (c.in-Ok-None.ensures.none.0 (ap is_some c.in-Ok-None.field-0-is)))

pub returns-in-Err-few_leaves_of_par-clause-goes_on : goal.returns-in-Err-few_leaves_of_par-clause-goes_on
returns-in-Err-few_leaves_of_par-clause-goes_on g c = goes_here {D = g.W.Disk} c.args.self.now.book

pub returns-in-Ok-Some-clause-answer : goal.returns-in-Ok-Some-clause-answer
returns-in-Ok-Some-clause-answer g c =
    if_ok _ _ c.redraw.result (λ reply p s at.
    let old = c.args.self.now in
    let name = c.args.name.now in
    let region =
    region_in s.work at.work.numbers c.entries.result.now old.catalog name c.in-Ok.number c.entries.ensures.entries at.work.catalog c.in-Ok.ensures.found in
    let bytes = c.bytes-colours.result.now in
    let there = c.in-Some.is ∙ ap Some (sym c.bytes-colours.ensures) in
    let list = c.in-Ok-Some.list in
    let n = c.head-level.result.level in
    let same = list_grid list n bytes
    (some_of (λ (l : Raster). l ≡ record { level = n; grid = cell_colours bytes }) c.in-Ok-Some.field-0 list c.in-Ok-Some.field-0-is c.in-Ok-Some.ensures.some) in
    let are = some_rows old.book.work.format old.book.last.level c.args.rows.now bytes there c.requires.rows in
    raster_answered {D = g.W.Disk} old c.redraw.new.self s name bytes c.args.rows.now region.0 list.grid reply region.1.got there same
    (p s at name region.0 region.1 (rows_at {D = g.W.Disk} old s bytes list.grid at are same))) c.redraw.ensures.redrawn

pub returns-in-Ok-Some-clause-sound : goal.returns-in-Ok-Some-clause-sound
returns-in-Ok-Some-clause-sound g c =
    if_err _ _ c.redraw.result (λ e p s at.
    let old = c.args.self.now in
    let name = c.args.name.now in
    let region =
    region_in s.work at.work.numbers c.entries.result.now old.catalog name c.in-Ok.number c.entries.ensures.entries at.work.catalog c.in-Ok.ensures.found in
    let bytes = c.bytes-colours.result.now in
    let there = c.in-Some.is ∙ ap Some (sym c.bytes-colours.ensures) in
    let list = c.in-Ok-Some.list in
    let n = c.head-level.result.level in
    let same = list_grid list n bytes
    (some_of (λ (l : Raster). l ≡ record { level = n; grid = cell_colours bytes }) c.in-Ok-Some.field-0 list c.in-Ok-Some.field-0-is c.in-Ok-Some.ensures.some) in
    let are = some_rows old.book.work.format old.book.last.level c.args.rows.now bytes there c.requires.rows in
    p s at name region.0 region.1 (rows_at {D = g.W.Disk} old s bytes list.grid at are same)) c.redraw.ensures.sound
