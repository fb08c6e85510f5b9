-- Items taken from a reader, one after another.
use Rattle.std.specs.Prelude.{◌≡◌, ℕ, Bool, List, ◌++◌, map}
use Rattle.quilt_words.specs.declared.item.Item.{Item}
use Rattle.quilt_words.specs.Items.{Group, held}
use Rattle.quilt_lang.specs.Reading.{Unread, Gives, HasNone}

-- these items were given and put behind the ones before, each read in the format
pub record Gave (ended : Bool) (f : ℕ) (old new : Unread) (before after : List Item) : Type 0 where
  pub level : new.level ≡ old.level
  pub items : List Group
  pub gives : Gives ended old.level items old.rest new.rest
  pub put : after ≡ before ++ map (held f old.level) items

-- and there are no more
pub record Takes (ended : Bool) (f : ℕ) (old new : Unread) (before after : List Item) : Type 0 where
  pub gave : Gave ended f old new before after
  pub none : HasNone ended old.level new.rest
