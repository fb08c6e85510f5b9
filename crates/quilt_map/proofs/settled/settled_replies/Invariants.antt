use Rattle.std.proofs.Common.{◌≡◌, false, List, length}
use Rattle.quilt_words.specs.Items.{Group, items_of}
use Rattle.quilt_lang.specs.Reading.{Gives}
use Rattle.quilt_map.proofs.settled.settled_replies.Given as goal

abbrev pub invariant-items : goal.invariant-items
invariant-items l = record {
  level : l.lines.level ≡ l.level;
  given : (groups : List Group) × (length groups ≡ length l.items.items) × Gives false l.level groups l.text l.lines.rest;
}

abbrev pub decreases-items : goal.decreases-items
decreases-items l = length (items_of l.lines.level l.lines.rest)
