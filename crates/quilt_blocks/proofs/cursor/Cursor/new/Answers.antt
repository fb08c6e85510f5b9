use Rattle.quilt_blocks.proofs.Chains.{size_of-nil}
use Rattle.quilt_blocks.proofs.cursor.Cursor.new.Goals as goal

pub returns-clause-at : goal.returns-clause-at
returns-clause-at c = size_of-nil
