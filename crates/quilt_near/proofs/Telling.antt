-- What two counts that may not be told say of each other.
use Rattle.std.proofs.Common.{ℕ, Option, Some, None}
use Rattle.quilt_world.specs.Tale.{Goes}

pub tells_same : (P : ℕ → ℕ → Type 0) → ((x : ℕ) → P x x) → (o : Option ℕ) → Goes P o o
tells_same P h (Some x) = h x
tells_same P h None = tt

pub tells_then : (P Q R : ℕ → ℕ → Type 0) → ((x y z : ℕ) → P x y → Q y z → R x z) → (a b c : Option ℕ) → Goes P a b → Goes Q b c → Goes R a c
tells_then P Q R h (Some x) (Some y) (Some z) p q = h x y z p q
tells_then P Q R h (Some x) (Some y) None p q = absurd q
tells_then P Q R h (Some x) None c p q = absurd p
tells_then P Q R h None (Some y) c p q = absurd p
tells_then P Q R h None None (Some z) p q = absurd q
tells_then P Q R h None None None p q = tt

pub tells_weaker : (P Q : ℕ → ℕ → Type 0) → ((x y : ℕ) → P x y → Q x y) → (a b : Option ℕ) → Goes P a b → Goes Q a b
tells_weaker P Q h (Some x) (Some y) p = h x y p
tells_weaker P Q h (Some x) None p = p
tells_weaker P Q h None (Some y) p = p
tells_weaker P Q h None None p = p
