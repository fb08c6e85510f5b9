use Rattle.std.proofs.Common.{◌∙◌}
use Rattle.quilt_words.proofs.Table.{found_first, spelled_some}
use Rattle.quilt_words.proofs.command.Word.of.Goals as goal

pub returns-in-len1-up-clause-found : goal.returns-in-len1-up-clause-found
returns-in-len1-up-clause-found c =
    c.look_among.ensures ∙ found_first c.args.bytes.now _ c.begun_by.result.now c.in-len1-up.len_at_least c.begun_by.ensures

pub returns-in-len1-up-clause-spelled : goal.returns-in-len1-up-clause-spelled
returns-in-len1-up-clause-spelled c = spelled_some c.args.bytes.now c.look_among.result (returns-in-len1-up-clause-found c)
