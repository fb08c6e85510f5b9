use Rattle.std.proofs.Common.{◌≡◌, ◌<◌, ℕ, map, Some, eqb, sym, ◌∙◌, ap, subst, option_map, arith}
use Rattle.quilt_words.specs.Items.{colour_bytes}
use Rattle.quilt_lang.specs.Spelled.{wide_pairs}
use Rattle.quilt_lang.proofs.Sixteens.{value, one_missing, few_values, all_there}
use lib.Lanes.{mask_l, Each1}
use Rattle.quilt_lang.proofs.spelled.wide_sixteen.Goals as goal

pub returns-then-has_other-clause-is : goal.returns-then-has_other-clause-is
returns-then-has_other-clause-is c =
    sym (ap (option_map (colour_bytes 1)) (one_missing c.args.digits (rw c.digit_values-values.ensures at (c.has_other.ensures.yes c.if-has_other.true))))

pub returns-clause-is : goal.returns-clause-is
returns-clause-is c =
    let none : mask_l (map (λ v. eqb v 16) (map value c.args.digits)) ≡ 0 = rw c.digit_values-values.ensures at (c.has_other.ensures.no c.if-has_other.false) in
    let few = few_values c.args.digits none in
    ap Some (c.paired.ensures (subst (Each1 (λ (v : ℕ). v < 16)) (sym c.digit_values-values.ensures) few) ∙ ap wide_pairs c.digit_values-values.ensures)
    ∙ all_there c.args.digits (omega (arith, c.fits-digits.0)) none
