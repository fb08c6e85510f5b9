-- The quarters of a block at their places.
use Rattle.std.proofs.Common.{◌≡◌, ℕ, ◌<◌, List, length, get_or, ap, subst, arith, Contains}
use Rattle.quilt_types.specs.declared.plane.Block.{Block}
use Rattle.quilt_types.specs.Plane.{quarters_of, IsBlock}
use Rattle.quilt_loc.proofs.Quartered.{IsQuarter, quarters_are}
use Rattle.quilt_edits.proofs.Lists.{member_at}

pub quarter_at : (n : ℕ) (b : Block) (qs : List Block) (i : ℕ) (d : Block) → IsBlock n b → 1 < b.side → qs ≡ quarters_of b → i < 4
    → IsQuarter n b (get_or qs i d)
quarter_at n b qs i d h wide are lt =
    let four = ap length are in
    quarters_are n b (get_or qs i d) h wide (subst (λ (l : List Block). Contains l (get_or qs i d)) are (member_at qs i d (omega arith)))
