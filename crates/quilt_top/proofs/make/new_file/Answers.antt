use Rattle.std.proofs.Common.{Some}
use Rattle.quilt_top.specs.Words.{New}
use Rattle.quilt_top.proofs.InTurn.{shut_more}
use Rattle.quilt_top.proofs.make.new_file.Goals as goal

pub returns-in_default-clause-more : goal.returns-in_default-clause-more
returns-in_default-clause-more g c =
    shut_more (Some (New c.args.file.path.now c.args.file.pages c.args.file.level)) _ _ _ c.requires.door c.requires.untaken
