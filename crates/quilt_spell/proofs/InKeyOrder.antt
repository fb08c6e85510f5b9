-- The records of a layer's number, as they stand in a list that spells the map: in the order of their keys.
use Rattle.std.proofs.Common.{◌≡◌, ◌↔◌, ℕ, ◌+◌, ◌≤◌, map, ◌∙◌, ap, arith, nat_lt, nat_cmp}
use Rattle.std.proofs.Common.{Ordering, Less}
use Rattle.std.specs.Prelude.{◌==◌}
use Rattle.std.specs.Ordering.{ordering_then}
use Rattle.std.specs.Cmp.{nat_cmp_total, tied_itself}
use Rattle.std.proofs.lemmas.Bool.Decides.{nat_tests}
use Rattle.quilt_types.specs.declared.plane.Block.{Block}
use Rattle.quilt_types.specs.Codes.{depth}
use Rattle.quilt_types.specs.Quadtrees.{leaves}
use Rattle.quilt_types.specs.Facts.{records}
use Rattle.quilt_loc.specs.Codes.{code_from}
use Rattle.quilt_spell.specs.Written.{by_key}
use Rattle.quilt_spell.specs.OfLayer.{leaf_record}

-- leaves by the codes of their blocks
abbrev pub by_code : Block × ℕ → Block × ℕ → Ordering
by_code d e = nat_cmp (code_from d.0) (code_from e.0)

same_then : (a : ℕ) (o : Ordering) → ordering_then (nat_cmp a a) o ≡ o
same_then a o = ap (λ q. ordering_then q o) (tied_itself nat_cmp_total a)

pub leaf_less : (n k : ℕ) (d e : Block × ℕ) → by_code d e ≡ Less → by_key (leaf_record n k d) (leaf_record n k e) ≡ Less
leaf_less n k d e h =
    let rest = ordering_then (nat_cmp (code_from d.0) (code_from e.0)) (ordering_then (nat_cmp (depth n d.0) (depth n e.0)) (nat_cmp 0 0)) in
    same_then k (ordering_then (nat_cmp 1 1) rest) ∙ same_then 1 rest
    ∙ ap (λ o. ordering_then o (ordering_then (nat_cmp (depth n d.0) (depth n e.0)) (nat_cmp 0 0))) h

same_test : (q a b c d : ℕ) → a + c ≡ b + d → nat_lt q a ≡ nat_lt (q + c) (b + d)
same_test q a b c d e = grind (arith, nat_tests)
