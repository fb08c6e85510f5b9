use Rattle.std.proofs.Common.{length}
use Rattle.quilt_words.specs.Items.{items_of}
use Rattle.quilt_lang.specs.Taking.{Gave}
use Rattle.quilt_lang.proofs.items.take_items.Given as goal

abbrev pub invariant-loop-item : goal.invariant-loop-item
invariant-loop-item l = Gave l.ended l.format l.initial.lines l.lines l.initial.items.items l.items.items

abbrev pub decreases-loop-item : goal.decreases-loop-item
decreases-loop-item l = length (items_of l.lines.level l.lines.rest)
