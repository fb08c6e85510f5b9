use Rattle.std.proofs.Common.{◌≡◌, ◌-◌, true, arith, refl}
use Rattle.quilt_edition.specs.Keeping.{is_free}
use Rattle.quilt_edition.proofs.Counts.{count_most}
use Rattle.quilt_edition.proofs.Frees.{frees_only}
use Rattle.quilt_edition.proofs.Tallying.{tally_given}
use Rattle.quilt_edition.proofs.free.give_free.Goals as goal

pub overflow_add-tally : goal.overflow_add-tally
overflow_add-tally c =
    let most = count_most (is_free c.args.pages c.args.free.now) 1 (c.args.pages - 1) in
    omega (arith, most, c.requires.range, c.requires.tally.counted)

pub returns-clause-free : goal.returns-clause-free
returns-clause-free c =
    frees_only c.args.pages c.args.free.now c.list_page.new.bits c.args.page true c.requires.range.0 c.requires.range.1 c.list_page.ensures

pub returns-clause-tally : goal.returns-clause-tally
returns-clause-tally c =
    let n = c.args.pages in
    let old = c.args.free.now in
    let only = frees_only n old c.list_page.new.bits c.args.page true c.requires.range.0 c.requires.range.1 c.list_page.ensures in
    tally_given n (is_free n old) (is_free n c.list_page.new.bits) c.args.page c.requires.range.0 c.requires.range.1 c.args.tally.now _ c.requires.tally
    c.requires.taken only refl c.lower_of-tally.ensures.least c.lower_of-tally.ensures.other c.lower_of-tally.ensures.page
