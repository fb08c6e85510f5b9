use Rattle.std.proofs.Common.{sym, eqb-true}
use Rattle.quilt_lines.proofs.Found.{pair_there}
use Rattle.quilt_lines.proofs.view.LineView.block_of.Goals as goal

pub returns-in-Some : goal.returns-in-Some
returns-in-Some c t segs cover rs spells listed =
    pair_there rs c.args.self.now.layer c.args.self.now.level t segs cover spells c.args.self.now.has_level.1 c.args.r.now listed
    (eqb-true c.args.r.now.key.layer c.args.self.now.layer (sym c.if-not-is_of.ensures)) c.in-Some.b c.in-Some.field-0-1 (c.in-Some.ensures.some)
