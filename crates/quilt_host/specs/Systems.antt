-- The system below a world, and the world's counts of calls.
use Rattle.std.specs.Prelude.{ℕ}
use Rattle.quilt_host.specs.declared.host_world.HostWorld.{HostWorld}
use Rattle.quilt_host.specs.declared.system.System as systems

module _ {S : Type 0} {g : systems.Ghosts S} where
  abbrev pub system_of : HostWorld S g → S
  system_of w = w.system

  abbrev pub host_reads : HostWorld S g → ℕ
  host_reads w = w.reads

  abbrev pub writes_of : HostWorld S g → ℕ
  writes_of w = w.writes
