use Rattle.std.proofs.Common.{◌∙◌, ap}
use Rattle.std.specs.FinMap as finmap
use Rattle.quilt_select.specs.Clips.{clips_of as clips_of_list}
use Rattle.quilt_select.proofs.Clipping.{clipped_all}
use Rattle.quilt_select.proofs.selection.clipped.Goals as goal

pub returns-clause-clipped : goal.returns-clause-clipped
returns-clause-clipped g c l s =
    clipped_all c.args.w (finmap.entries l.segs) c.in_ok-list.list c.in-Ok.clips
    (c.in-Ok.ensures ∙ ap (clips_of_list c.args.w) c.items.ensures) (c.in_ok-list.ensures.cross l s)

pub returns-in-Err-clause-named : goal.returns-in-Err-clause-named
returns-in-Err-clause-named g c = g.met.B.SegBlocks.named_memory c.args.blocks.now c.args.store.now
