use Rattle.std.proofs.Common.{◌^◌, length, sym, ◌∙◌, ap}
use Rattle.quilt_blocks.specs.Painting.{Painted}
use Rattle.quilt_blocks.specs.Listing.{leaf_pairs}
use Rattle.quilt_blocks.proofs.Leaves.{leaves_are}
use Rattle.quilt_blocks.proofs.Listed.{IsListed-made}
use Rattle.quilt_blocks.proofs.maker.Maker.finish.Goals as goal

pub returns-clause-law : goal.returns-clause-law
returns-clause-law c n g es m = leaves_are n g es m

pub of-requires : goal.of-requires
of-requires c =
    IsListed-made c.self.inside.level (leaf_pairs c.self.inside.leaves.items) c.self.invariant
    (ap (λ (m : Painted). length m.colours) c.self.view_is ∙ c.requires ∙ ap (λ (m : Painted). 4 ^ m.level) (sym c.self.view_is))
