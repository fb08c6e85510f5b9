use Rattle.std.proofs.Common.{◌∙◌, sym}
use Rattle.quilt_btree.proofs.lists.Fitting.{fits_if, fits_not}
use Rattle.quilt_btree.proofs.insertion.fits.Goals as goal

pub returns-then-is_over : goal.returns-then-is_over
returns-then-is_over c =
    c.is_under.ensures ∙ fits_if c.args.inner.now.keys c.args.i c.args.k.now c.len.ensures.is.ascends (sym c.is_over.ensures ∙ c.if-is_over.true)

pub returns-else-is_over : goal.returns-else-is_over
returns-else-is_over c =
    c.if-is_over.false ∙ fits_not c.args.inner.now.keys c.args.i c.args.k.now c.len.ensures.is.ascends (sym c.is_over.ensures ∙ c.if-is_over.false)
