use Rattle.std.proofs.Common.{◌+◌, ◌≤◌, Some, None, length, eqb-true, refl, sym, ◌∙◌, arith}
use Rattle.quilt_loc.proofs.Blocks.{IsBlock-up}
use Rattle.quilt_near.proofs.Telling.{tells_same}
use Rattle.quilt_select.proofs.Descending.{some_length, wide_part}
use Rattle.quilt_select.proofs.descent.open.Goals as goal

pub returns-then-is_empty-clause-opened : goal.returns-then-is_empty-clause-opened
returns-then-is_empty-clause-opened g c = record {
  part = None;
  found = λ l s. tt;
  after = (eqb-true (length c.args.near.now) 0 (sym c.is_empty.ensures ∙ c.if-is_empty.true), refl, refl);
  reads = tells_same (λ x y. y ≤ x + 0) (λ x. omega arith) (g.S.PageStore.reads c.args.store.now);
}

pub take_part-requires-clause-some : goal.take_part-requires-clause-some
take_part-requires-clause-some g c = some_length (length c.args.near.now) (sym c.is_empty.ensures ∙ c.if-is_empty.false)

pub take_part-requires-clause-valid : goal.take_part-requires-clause-valid
take_part-requires-clause-valid g c = IsBlock-up _ 12 _ c.requires.low c.requires.block

pub take_part-requires-clause-wide : goal.take_part-requires-clause-wide
take_part-requires-clause-wide g c = wide_part _ c.args.b _ c.in_ok-part.ensures.part_of

pub returns-in-Ok-clause-opened : goal.returns-in-Ok-clause-opened
returns-in-Ok-clause-opened g c = record {
  part = Some c.in_ok-part.part;
  found = c.in_ok-part.ensures.part;
  after = c.in-Ok.ensures;
  reads = c.in_ok-part.ensures.reads;
}

pub returns-in-Err-clause-named : goal.returns-in-Err-clause-named
returns-in-Err-clause-named g c = g.met.B.SegBlocks.named_memory c.args.blocks.now c.args.store.now
