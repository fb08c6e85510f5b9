-- What edits of the work leave of its header.
use Rattle.std.specs.Prelude.{◌≡◌}
use Rattle.quilt_node.specs.declared.head.Head.{Head}

-- the second header is the first with another tree
pub record SameButTree (old new : Head) : Type 0 where
  pub format : new.format ≡ old.format
  pub edition : new.edition ≡ old.edition
  pub level : new.level ≡ old.level
