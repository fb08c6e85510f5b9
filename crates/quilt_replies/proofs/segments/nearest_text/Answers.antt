use Rattle.std.proofs.Common.{[], ◌∷◌}
use Rattle.quilt_replies.specs.Answers.{ranked_line}
use Rattle.quilt_replies.proofs.Replies.{finished, alone}
use Rattle.quilt_replies.proofs.segments.nearest_text.Goals as goal

pub returns : goal.returns
returns c = let line = ranked_line (c.args.id, c.args.far) in
    finished c.finish.result c.push_rank.new.text (line ∷ []) c.finish.ensures
    (alone c.new-text.result c.push_rank.new.text line c.new-text.ensures c.in_ok-push_rank.ensures)
