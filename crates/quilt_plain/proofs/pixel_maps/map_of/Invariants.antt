use Rattle.std.proofs.Common.{◌≡◌, length}
use Rattle.quilt_plain.proofs.pixel_maps.map_of.Given as goal

abbrev pub invariant-loop-code : goal.invariant-loop-code
invariant-loop-code l = record {
  level : l.maker.level ≡ l.level;
  long : length l.maker.colours ≡ l.code;
}
