use Rattle.std.proofs.Common.{refl}
use Rattle.quilt_lang.proofs.asked.begins_asking.Goals as goal

pub returns-in-Some : goal.returns-in-Some
returns-in-Some c = rw (rw c.in-Some.is at c.first_word.ensures.is) c.is_asking.ensures

pub returns-in-None : goal.returns-in-None
returns-in-None c = rw (rw c.in-None.is at c.first_word.ensures.is) refl
