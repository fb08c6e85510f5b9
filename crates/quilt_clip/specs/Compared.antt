-- The order of fractions that need not be in lowest terms.
use Rattle.std.specs.Prelude.{ℕ, ◌*◌, max}
use Rattle.std.specs.Ordering.{nat_cmp}
use Rattle.std.specs.declared.cmp.Ordering.{Ordering}
use Rattle.quilt_types.specs.Fractions.{Fraction}

-- a denominator, where 0 counts as 1
abbrev pub denominator_of : Fraction → ℕ
denominator_of f = max 1 f.den

-- which of two fractions is the greater, by their cross products
unfoldable pub compared : Fraction → Fraction → Ordering
compared a b = nat_cmp (a.num * denominator_of b) (b.num * denominator_of a)
