-- The codes of pixels and of blocks, and lists in their order.
use Rattle.std.specs.Prelude.{◌≡◌, ℕ, ◌+◌, ◌*◌, ◌≤◌, List, [], ◌∷◌, Contains}
use Rattle.std.specs.Ordering.{nat_cmp}
use Rattle.std.specs.declared.cmp.Ordering.{Ordering}
use Rattle.std.specs.declared.cmp.Ordering.TheVariants.{Less}
use Rattle.quilt_types.specs.declared.plane.Block.{Block}
use Rattle.quilt_types.specs.Plane.{side}
use Rattle.quilt_types.specs.Codes.{code}
pub use Rattle.quilt_types.specs.Codes.{code_at}

-- the first code of a block is that of its upper left pixel
abbrev pub code_from : Block → ℕ
code_from b = code b.x b.y

-- the code after the last one of a block
abbrev pub code_to : Block → ℕ
code_to b = code_from b + b.side * b.side

-- a side of a block: a power of two up to 4096
pub record IsSide (s : ℕ) : Type 0 where
  pub level : ℕ
  pub low : level ≤ 12
  pub size : s ≡ side level

-- blocks by their codes
abbrev pub code_cmp : Block → Block → Ordering
code_cmp a b = nat_cmp (code_from a) (code_from b)

-- each is less than each after it
abbrev pub Rises : {X : Type 0} → (X → X → Ordering) → List X → Type 0
Rises R [] = Unit {0}
Rises {X} R (x ∷ xs) = ((y : X) → Contains xs y → R x y ≡ Less) × Rises R xs
