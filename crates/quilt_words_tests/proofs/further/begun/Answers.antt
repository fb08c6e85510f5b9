use Rattle.std.proofs.Common.{◌≡◌, ℕ, [], refl}
use Rattle.quilt_words.specs.Items.{whole_items, whole_lines}
use Rattle.quilt_words_tests.proofs.further.begun.Goals as goal

none_whole : (n : ℕ) → whole_items n [] ≡ []
unfolding whole_items whole_lines
none_whole n = refl

pub feed-requires : goal.feed-requires
feed-requires c = rw c.new-lines.ensures.empty (none_whole _)
