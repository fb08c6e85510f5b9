use Rattle.quilt_map.proofs.answers.TextLaws.{whole_empty}
use Rattle.quilt_session_tests.proofs.opening.command_of.Goals as goal

pub feed-requires : goal.feed-requires
feed-requires c = rw c.new-lines.ensures.empty (whole_empty _)
