use Rattle.std.proofs.Common.{◌<◌}
use Rattle.quilt_world.specs.Tale.{Goes}
use Rattle.quilt_host.proofs.Pieces.{Writing}
use Rattle.quilt_host.proofs.pages.write_page.Given as goal

abbrev pub invariant-pieces : goal.invariant-pieces
invariant-pieces g l = record {
  few : l.done < 4096;
  wrote : Goes (Writing l.i l.page l.done) (g.S.System.told l.initial.system) (g.S.System.told l.system);
}
