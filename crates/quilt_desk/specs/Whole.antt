-- Writes of whole pages.
use Rattle.std.specs.Prelude.{Bool, true, length, ◌==◌}
use Rattle.quilt_world.specs.declared.event.Event.{Event}
use Rattle.quilt_world.specs.declared.event.Event.TheVariants.{Took, Put, Wrote, Tore, Synced}

-- what an event says it wrote is a page
abbrev pub is_whole_page : Event → Bool
is_whole_page (Wrote page bytes) = length bytes == 4096
is_whole_page (Tore page) = true
is_whole_page Synced = true
is_whole_page (Took bytes) = true
is_whole_page (Put bytes) = true
