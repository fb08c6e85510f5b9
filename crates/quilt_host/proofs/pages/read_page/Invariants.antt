use Rattle.std.specs.Prelude.{IfSome}
use Rattle.std.proofs.Common.{◌≡◌, ◌≤◌, length, take}
use Rattle.quilt_host.specs.Bytes.{page_at}
use Rattle.quilt_host.proofs.pages.read_page.Given as goal

abbrev pub invariant-pieces : goal.invariant-pieces
invariant-pieces g l = record {
  size : length l.into ≡ 4096;
  few : l.done ≤ 4096;
  same : g.S.System.told l.system ≡ g.S.System.told l.initial.system;
  front : IfSome (g.S.System.told l.initial.system) (λ s. take l.done l.into ≡ take l.done (page_at s.bytes l.i));
}
