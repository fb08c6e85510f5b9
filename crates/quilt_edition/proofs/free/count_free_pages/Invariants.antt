use Rattle.std.proofs.Common.{◌≡◌, ◌*◌, length, filter}
use Rattle.std.specs.List.{range_with_len}
use Rattle.quilt_edition.specs.Keeping.{is_free}
use Rattle.quilt_edition.proofs.free.count_free_pages.Given as goal

abbrev pub invariant-loop-byte : goal.invariant-loop-byte
invariant-loop-byte l = l.count ≡ length (filter (is_free l.pages l.free) (range_with_len 0 (8 * l.byte)))
