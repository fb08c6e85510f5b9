use Rattle.std.proofs.Common.{◌≡◌, nat_le, take}
use Rattle.std.specs.List.{list_all}
use Rattle.quilt_words.specs.Items.{is_plain}
use Rattle.quilt_words.proofs.words.are_plain.Given as goal

abbrev pub invariant-loop-c : goal.invariant-loop-c
invariant-loop-c l = nat_le l.most 94 ≡ list_all is_plain (take l.c-index l.bytes)
