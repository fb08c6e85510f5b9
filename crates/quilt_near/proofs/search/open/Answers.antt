use Rattle.std.proofs.Common.{◌≡◌, All, true, sym, subst}
use Rattle.quilt_types.specs.Layers.{is_in_square}
use Rattle.quilt_loc.proofs.Blocks.{IsBlock-up}
use Rattle.quilt_near.specs.Parts.{PartFits}
use Rattle.quilt_near.specs.declared.part.Part.{Part}
use Rattle.quilt_near.proofs.Ends.{ends_small}
use Rattle.quilt_near.proofs.search.open.Goals as goal

pub best_of-requires-clause-ends : goal.best_of-requires-clause-ends
best_of-requires-clause-ends g c =
    let h = subst (λ (part : Part). PartFits (g.B.SegBlocks.level_of c.args.blocks.now) c.args.b part) c.in-Leaf.is c.in_ok-list.ensures.part_of in
    ends_small _ _ c.requires.low (subst (All (λ e. is_in_square (g.B.SegBlocks.level_of c.args.blocks.now) e.1 ≡ true)) (sym c.items.ensures) h)

pub push_quarters-requires-clause-valid : goal.push_quarters-requires-clause-valid
push_quarters-requires-clause-valid g c = IsBlock-up _ 12 _ c.requires.low c.requires.block

pub returns-in-Err-clause-named : goal.returns-in-Err-clause-named
returns-in-Err-clause-named g c = g.met.B.SegBlocks.named_memory c.args.blocks.now c.args.store.now
