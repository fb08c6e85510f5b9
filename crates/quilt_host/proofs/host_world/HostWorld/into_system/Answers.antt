use Rattle.quilt_host.proofs.Openings.{if_kept}
use Rattle.quilt_host.proofs.host_world.HostWorld.into_system.Goals as goal

pub returns-clause-kept : goal.returns-clause-kept
returns-clause-kept g c = if_kept _ _ _ c.args.self.sound
