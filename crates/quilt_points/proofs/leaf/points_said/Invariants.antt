use Rattle.std.proofs.Common.{◌≡◌, ◌<◌, true, All, take}
use Rattle.quilt_types.specs.Plane.{is_pixel}
use Rattle.quilt_points.specs.Reads.{AreSaid}
use Rattle.quilt_points.specs.Windows.{HasRow}
use Rattle.quilt_points.proofs.leaf.points_said.Given as goal

abbrev pub invariant-loop-r : goal.invariant-loop-r
invariant-loop-r l = record {
  said : AreSaid l.layer.level l.layer.bucket l.layer.number l.b (take l.r-index l.records) l.points.items;
  row : 0 < l.r-index → HasRow l.layer.level l.layer.bucket l.layer.number l.records l.b;
  pixels : All (λ p. is_pixel l.layer.level p.at ≡ true) l.points.items;
}
