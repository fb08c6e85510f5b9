use Rattle.quilt_lines.specs.Reads.{pair_of}
use Rattle.quilt_lines.proofs.Listed.{missed}
use Rattle.quilt_lines.proofs.view.LineView.all_ids.Goals as goal

pub returns-in_default-clause-sound : goal.returns-in_default-clause-sound
returns-in_default-clause-sound c ids e page p =
    missed (pair_of c.args.self.now.level c.args.self.now.layer c.args.b) c.args.records.now ids c.loop-r.r-index _ e c.loop-r-test.true
    (c.id_said.ensures.none c.in_default.is)
