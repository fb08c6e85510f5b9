-- How many pages calls read, one after another.
use Rattle.std.proofs.Common.{ℕ, ◌+◌, ◌≤◌, Option, Some, None, arith}
use Rattle.quilt_world.specs.Tale.{Goes}

pub reads_plain : (i j : ℕ) (a b : Option ℕ) → Goes {A = ℕ} (λ old new. new ≤ old + i + j) a b → Goes {A = ℕ} (λ old new. new ≤ old + (i + j)) a b
reads_plain i j (Some a) (Some b) x = omega arith
reads_plain i j (Some a) None x = absurd x
reads_plain i j None (Some b) x = absurd x
reads_plain i j None None x = tt

-- ---- where some of what may be read was not
pub saved_then : (s i j k : ℕ) (a b c : Option ℕ) → i + j ≤ k → Goes {A = ℕ} (λ old new. new + s ≤ old + i) a b
    → Goes {A = ℕ} (λ old new. new ≤ old + j) b c → Goes {A = ℕ} (λ old new. new + s ≤ old + k) a c
saved_then s i j k (Some a) (Some b) (Some c) h x y = omega arith
saved_then s i j k (Some a) (Some b) None h x y = absurd y
saved_then s i j k (Some a) None c h x y = absurd x
saved_then s i j k None (Some b) c h x y = absurd x
saved_then s i j k None None (Some c) h x y = absurd y
saved_then s i j k None None None h x y = tt

pub then_saved : (s i j k : ℕ) (a b c : Option ℕ) → i + j ≤ k → Goes {A = ℕ} (λ old new. new ≤ old + i) a b
    → Goes {A = ℕ} (λ old new. new + s ≤ old + j) b c → Goes {A = ℕ} (λ old new. new + s ≤ old + k) a c
then_saved s i j k (Some a) (Some b) (Some c) h x y = omega arith
then_saved s i j k (Some a) (Some b) None h x y = absurd y
then_saved s i j k (Some a) None c h x y = absurd x
then_saved s i j k None (Some b) c h x y = absurd x
then_saved s i j k None None (Some c) h x y = absurd y
then_saved s i j k None None None h x y = tt

pub saved_more : (s t i k : ℕ) (a b : Option ℕ) → t + i ≤ s + k → Goes {A = ℕ} (λ old new. new + s ≤ old + i) a b
    → Goes {A = ℕ} (λ old new. new + t ≤ old + k) a b
saved_more s t i k (Some a) (Some b) h x = omega arith
saved_more s t i k (Some a) None h x = absurd x
saved_more s t i k None (Some b) h x = absurd x
saved_more s t i k None None h x = tt

pub saved_less : (s i k : ℕ) (a b : Option ℕ) → i ≤ s + k → Goes {A = ℕ} (λ old new. new + s ≤ old + i) a b → Goes {A = ℕ} (λ old new. new ≤ old + k) a b
saved_less s i k (Some a) (Some b) h x = omega arith
saved_less s i k (Some a) None h x = absurd x
saved_less s i k None (Some b) h x = absurd x
saved_less s i k None None h x = tt

pub saved_none : (s k : ℕ) (a : Option ℕ) → s ≤ k → Goes {A = ℕ} (λ old new. new + s ≤ old + k) a a
saved_none s k (Some a) h = omega arith
saved_none s k None h = tt
