use Rattle.std.proofs.Common.{◌+◌, ◌%◌, arith, refl}
use Rattle.quilt_lang.proofs.Digits.{digit_is, other_is}
use Rattle.quilt_lang.proofs.spelled.digit_value.Goals as goal

pub returns-then-digit-le9 : goal.returns-then-digit-le9
returns-then-digit-le9 c = digit_is c.args.c ((c.args.c + 208) % 256) c.ranges.c.fits refl (omega arith)

pub returns-else-digit-le9 : goal.returns-else-digit-le9
returns-else-digit-le9 c =
    other_is c.args.c ((c.args.c + 208) % 256) ((c.args.c + 159) % 256) ((c.args.c + 191) % 256) (c.min.result + 10) c.ranges.c.fits refl (omega arith) refl refl
    (omega (arith, c.min-letter.ensures, c.min.ensures))
