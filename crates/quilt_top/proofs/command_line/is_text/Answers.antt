use Rattle.quilt_top.proofs.command_line.is_text.Goals as goal

pub returns : goal.returns
returns c = c.utf8.word
