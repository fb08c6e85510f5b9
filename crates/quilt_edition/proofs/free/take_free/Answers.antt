use Rattle.std.proofs.Common.{false, refl, arith}
use Rattle.quilt_edition.specs.Keeping.{is_free}
use Rattle.quilt_edition.specs.Laws.{free_within}
use Rattle.quilt_edition.proofs.Frees.{frees_only}
use Rattle.quilt_edition.proofs.Tallying.{tally_taken}
use Rattle.quilt_edition.proofs.free.take_free.Goals as goal

pub first_free-page-requires-clause-range : goal.first_free-page-requires-clause-range
first_free-page-requires-clause-range c = (c.requires.tally.least, c.requires.range.0, c.requires.range.1)

pub unlist_page-requires : goal.unlist_page-requires
unlist_page-requires c =
    let within = free_within c.args.pages c.args.free.now c.first_free-page.result c.first_free-page.ensures.page in
    omega (arith, within, c.requires.range)

pub overflow_sub-tally : goal.overflow_sub-tally
overflow_sub-tally c = omega (arith, c.requires.some, c.requires.tally.counted)

pub overflow_add-tally : goal.overflow_add-tally
overflow_add-tally c =
    let within = free_within c.args.pages c.args.free.now c.first_free-page.result c.first_free-page.ensures.page in
    omega (arith, within, c.requires.range)

pub returns-clause-free : goal.returns-clause-free
returns-clause-free c =
    let within = free_within c.args.pages c.args.free.now c.first_free-page.result c.first_free-page.ensures.page in
    frees_only c.args.pages c.args.free.now c.unlist_page.new.bits c.first_free-page.result false within.0 within.1 c.unlist_page.ensures

pub returns-clause-tally : goal.returns-clause-tally
returns-clause-tally c =
    let n = c.args.pages in
    let page = c.first_free-page.result in
    let old = c.args.free.now in
    let within = free_within n old page c.first_free-page.ensures.page in
    tally_taken n (is_free n old) (is_free n c.unlist_page.new.bits) page within.0 within.1 c.args.tally.now _ c.requires.tally c.first_free-page.ensures.page
    (frees_only n old c.unlist_page.new.bits page false within.0 within.1 c.unlist_page.ensures) c.first_free-page.ensures.first refl refl
