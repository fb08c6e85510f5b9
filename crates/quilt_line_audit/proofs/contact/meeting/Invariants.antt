use Rattle.std.proofs.Common.{◌≡◌, ℕ, filter, take}
use Rattle.quilt_types.specs.declared.plane.Seg.{Seg}
use Rattle.quilt_types.specs.Segments.{square, meets}
use Rattle.quilt_line_audit.proofs.contact.meeting.Given as goal

abbrev pub invariant-loop-id : goal.invariant-loop-id
invariant-loop-id l = l.near.items ≡ filter (λ (e : ℕ × Seg). meets e.1 (square l.block)) (take l.id-index l.segs)
