use Rattle.std.proofs.Common.{◌∙◌, sym, arith, eqb, eqb-true, w8}
use Rattle.std.proofs.lemmas.Bool.{not-true, not-false, eqb-false}
use Rattle.std.proofs.lemmas.Simd.{bitmask_splat}
use Rattle.quilt_lang.proofs.spelled.has_other.Goals as goal

pub returns-clause-yes : goal.returns-clause-yes
returns-clause-yes c is none = eqb-false _ _ (not-true _ is) (bitmask_splat w8 eqb c.args.values 16 16 c.fits-values.0 (omega arith) ∙ none)

pub returns-clause-no : goal.returns-clause-no
returns-clause-no c is = sym (bitmask_splat w8 eqb c.args.values 16 16 c.fits-values.0 (omega arith)) ∙ eqb-true _ _ (not-false _ is)
