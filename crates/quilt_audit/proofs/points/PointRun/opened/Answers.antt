use Rattle.std.proofs.Common.{refl, sym}
use Rattle.quilt_loc.proofs.Blocks.{IsBlock-up}
use Rattle.quilt_audit.specs.Points.{no_tally}
use Rattle.quilt_audit.proofs.runs.PointRuns.{shifted_three}
use Rattle.quilt_audit.proofs.points.PointRun.opened.Goals as goal

pub end_from-requires-clause-block : goal.end_from-requires-clause-block
end_from-requires-clause-block c = IsBlock-up c.args.level 12 c.args.block c.requires.level.1 c.requires.block

pub returns : goal.returns
returns c = record {
  bucket = refl;
  end = c.end_from.ensures;
  recent = λ three. sym (shifted_three c.args.self.now.recent no_tally c.args.self.now.last three);
  tail = refl;
  least = c.least_of.ensures;
}
