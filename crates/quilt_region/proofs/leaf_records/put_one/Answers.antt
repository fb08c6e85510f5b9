use Rattle.std.proofs.Common.{sym, ap}
use Rattle.quilt_blocks.specs.Painting.{Painted}
use Rattle.quilt_region.proofs.Parts.{HasColours-push}
use Rattle.quilt_region.proofs.leaf_records.put_one.Goals as goal

pub returns-in-Ok-clause-colours : goal.returns-in-Ok-clause-colours
returns-in-Ok-clause-colours c f same has =
    HasColours-push c.args.maker.now.level f c.args.maker.now.colours c.push.new.self.colours c.args.b c.args.c.0 c.requires.most c.requires.block
    (sym c.requires.next) same (ap (λ (m : Painted). m.colours) c.in-Ok.ensures.ok) has
