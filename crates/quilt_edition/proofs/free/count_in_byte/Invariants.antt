use Rattle.std.proofs.Common.{◌≡◌, ◌*◌, ◌-◌, length, filter}
use Rattle.std.specs.List.{range_with_len}
use Rattle.quilt_edition.specs.Keeping.{is_free}
use Rattle.quilt_edition.proofs.free.count_in_byte.Given as goal

abbrev pub invariant-loop-page : goal.invariant-loop-page
invariant-loop-page l = l.count ≡ length (filter (is_free l.pages l.free) (range_with_len (8 * l.byte) (l.page - 8 * l.byte)))
