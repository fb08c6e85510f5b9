-- A world with a page has a file.
use Rattle.std.proofs.Common.{◌≡◌, ◌≢◌, ◌⊎◌, inl, inr, refl, ℕ, ◌<◌, arith}
use Rattle.quilt_world.specs.declared.disk.Door.{Door}
use Rattle.quilt_world.specs.declared.disk.Door.TheVariants.{Shut, Ready, Made, Missing, Taken, Failed}

pub is_open : (door : Door) (pages : ℕ) → (door ≢ Ready → door ≢ Made → pages ≡ 0) → 0 < pages → (door ≡ Ready) ⊎ (door ≡ Made)
is_open Ready pages law some = inl refl
is_open Made pages law some = inr refl
is_open Shut pages law some = absurd (let z : pages ≡ 0 = law (λ e. cc) (λ e. cc) in omega arith)
is_open Missing pages law some = absurd (let z : pages ≡ 0 = law (λ e. cc) (λ e. cc) in omega arith)
is_open Taken pages law some = absurd (let z : pages ≡ 0 = law (λ e. cc) (λ e. cc) in omega arith)
is_open Failed pages law some = absurd (let z : pages ≡ 0 = law (λ e. cc) (λ e. cc) in omega arith)
