use Rattle.std.proofs.Common.{sym, inl, inr}
use Rattle.quilt_types.specs.Segments.{square}
use Rattle.quilt_line_audit.proofs.Asides.{first_in, last_in, misses}
use Rattle.quilt_line_audit.proofs.contact.is_met.Goals.{then-are_beyond-via-then-are_beyond, then-are_beyond-via-else-are_beyond+then-are_beyond-2}
use Rattle.quilt_line_audit.proofs.contact.is_met.Goals as goal

pub returns-then-is_between-2 : goal.returns-then-is_between-2
returns-then-is_between-2 c =
    let x = c.is_between.ensures c.if-is_between.true in
    let y = c.is_between-then-is_between.ensures c.if-is_between-2.true in
    sym (first_in c.args.s (square c.args.block) (record { left = x.0; right = x.1; top = y.0; bottom = y.1 }))

pub returns-then-are_beyond : goal.returns-then-are_beyond
returns-then-are_beyond c =
    sym (misses c.args.s (square c.args.block) (elim c.then-are_beyond.branch [
      | then-are_beyond-via-then-are_beyond w ↦ inl (c.are_beyond.ensures w.if-are_beyond.true)
      | then-are_beyond-via-else-are_beyond+then-are_beyond-2 w ↦ inr (w.are_beyond-else-are_beyond.ensures w.if-are_beyond-2.true)
    ]))

pub returns-then-is_between-4 : goal.returns-then-is_between-4
returns-then-is_between-4 c =
    let x = c.is_between-2.ensures c.if-is_between-3.true in
    let y = c.is_between-then-is_between-3.ensures c.if-is_between-4.true in
    sym (last_in c.args.s (square c.args.block) (record { left = x.0; right = x.1; top = y.0; bottom = y.1 }))
