-- A block that begins within another one ends within it.
use Rattle.std.proofs.Common.{ℕ, ◌<◌, ◌≤◌, ⊎_elim, arith}
use Rattle.std.proofs.lemmas.Bool.{cases_lt}
use Rattle.quilt_types.specs.declared.plane.Block.{Block}
use Rattle.quilt_types.specs.Plane.{IsBlock}
use Rattle.quilt_loc.specs.Codes.{code_from, code_to}
use Rattle.quilt_blocks.proofs.Inside.{smaller_inside}

-- a block that begins within another one, and not at its first code, ends within it
pub ends_within : (n : ℕ) (a b : Block) → n ≤ 12 → IsBlock n a → IsBlock n b → code_from b < code_from a → code_from a < code_to a
    → code_from a < code_to b → code_to a ≤ code_to b
ends_within n a b le ha hb low some high =
    ⊎_elim
    (λ lt. (smaller_inside n a b (code_from a) le ha hb (omega arith) (omega arith) some (omega arith) high).1)
    (λ ge. let r = (smaller_inside n b a (code_from a) le hb ha ge (omega arith) high (omega arith) some).0 in absurd (omega arith))
    (cases_lt a.side b.side)
