use Rattle.std.proofs.Common.{ℕ, ◌+◌, ◌*◌, ◌≤◌, All, List, take, length}
use Rattle.quilt_types.specs.Layers.{SegMap, BlockSet}
use Rattle.quilt_store.specs.Calls.{IsOnlyRead}
use Rattle.quilt_world.specs.Tale.{Goes}
use Rattle.quilt_record.specs.declared.record.Record.{Record}
use Rattle.quilt_btree.specs.Spots.{IsSpotIf}
use Rattle.quilt_btree.specs.Trees.{IsTree}
use Rattle.quilt_lines.specs.Layers.{HasLines}
use Rattle.quilt_lines.specs.Said.{SaySegment}
use Rattle.quilt_lines.proofs.Taken.{AreTaken}
use Rattle.quilt_lines.proofs.view.LineView.segments.Given as goal

abbrev pub invariant-loop-id : goal.invariant-loop-id
invariant-loop-id g l = record {
  taken : AreTaken {X = ℕ × SegMap × BlockSet} l.self.level
      (λ x. HasLines (g.S.PageStore.told l.initial.store) l.self.tree l.self.layer l.self.level x.0 x.1 x.2) (λ x. x.1) (take l.id-index l.ids) l.list;
  said : (rs : List Record) → IsTree (g.S.PageStore.told l.initial.store) l.self.tree rs → All (λ e. SaySegment l.self.level l.self.layer rs e.0 e.1) l.list;
  spot : IsSpotIf (g.S.PageStore.told l.initial.store) l.self.tree l.spot;
  left : IsOnlyRead g.S.PageStore l.initial.store l.store;
  reads : Goes (λ old new. new ≤ old + 3 * length l.list) (g.S.PageStore.reads l.initial.store) (g.S.PageStore.reads l.store);
}
