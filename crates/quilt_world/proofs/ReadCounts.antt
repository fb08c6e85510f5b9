-- How many pages calls read, one behind the other.
use Rattle.std.proofs.Common.{ℕ, ◌+◌, ◌≤◌, Option, Some, None, arith}
use Rattle.quilt_world.specs.Tale.{Goes}

pub reads_then : (i j k : ℕ) (a b c : Option ℕ) → i + j ≤ k → Goes {A = ℕ} (λ old new. new ≤ old + i) a b
    → Goes {A = ℕ} (λ old new. new ≤ old + j) b c → Goes {A = ℕ} (λ old new. new ≤ old + k) a c
reads_then i j k (Some a) (Some b) (Some c) h x y = omega arith
reads_then i j k (Some a) (Some b) None h x y = absurd y
reads_then i j k (Some a) None c h x y = absurd x
reads_then i j k None (Some b) c h x y = absurd x
reads_then i j k None None (Some c) h x y = absurd y
reads_then i j k None None None h x y = tt

pub reads_more : (i k : ℕ) (a b : Option ℕ) → i ≤ k → Goes {A = ℕ} (λ old new. new ≤ old + i) a b → Goes {A = ℕ} (λ old new. new ≤ old + k) a b
reads_more i k (Some a) (Some b) h x = omega arith
reads_more i k (Some a) None h x = absurd x
reads_more i k None (Some b) h x = absurd x
reads_more i k None None h x = tt

pub reads_none : (k : ℕ) (a : Option ℕ) → Goes {A = ℕ} (λ old new. new ≤ old + k) a a
reads_none k (Some a) = omega arith
reads_none k None = tt
