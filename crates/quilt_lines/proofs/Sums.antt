-- How many pages calls read together.
use Rattle.std.proofs.Common.{◌≡◌, ℕ, ◌+◌, ◌*◌, ◌≤◌, List, [], length, Option, Some, None, arith, ap}
use Rattle.std.specs.Prelude.{MatchOption, unwrap_or}
use Rattle.std.specs.Option.{option_map}
use Rattle.quilt_world.specs.Tale.{Goes}
use Rattle.quilt_near.proofs.Telling.{tells_weaker}

-- at most so many more
abbrev pub UpBy : ℕ → ℕ → ℕ → Type 0
UpBy k old new = new ≤ old + k

pub reads_none : (a : Option ℕ) (k : ℕ) → Goes (UpBy k) a a
reads_none (Some x) k = omega arith
reads_none None k = tt

pub reads_sum : (a b c : Option ℕ) (j k m : ℕ) → j + k ≤ m → Goes (UpBy j) a b → Goes (UpBy k) b c → Goes (UpBy m) a c
reads_sum (Some x) (Some y) (Some z) j k m le p q = omega arith
reads_sum (Some x) (Some y) None j k m le p q = absurd q
reads_sum (Some x) None c j k m le p q = absurd p
reads_sum None (Some y) c j k m le p q = absurd p
reads_sum None None (Some z) j k m le p q = absurd q
reads_sum None None None j k m le p q = tt

pub reads_more : (a b : Option ℕ) (j m : ℕ) → j ≤ m → Goes (UpBy j) a b → Goes (UpBy m) a b
reads_more a b j m le p = reads_sum a b b j 0 m (omega arith) p (reads_none b 0)

-- a range of a block's records, by the ids that they say
pub reads_ids : {X R : Type 0} (len : X → ℕ) (Says : X → Type 0) (records : List R) (a b : Option ℕ) (o : Option X) → MatchOption o (records ≡ []) Says
    → length records ≤ 1 + unwrap_or (option_map len o) 0 → Goes (λ old new. new ≤ old + 6 + 3 * length records) a b
    → MatchOption o (Goes (UpBy 6) a b) (λ x. Goes (UpBy (9 + 3 * len x)) a b)
reads_ids len Says records a b None said few p =
    let none = ap length said in tells_weaker (λ x y. y ≤ x + 6 + 3 * length records) (UpBy 6) (λ x y le. omega arith) a b p
reads_ids len Says records a b (Some ids) said few p =
    tells_weaker (λ x y. y ≤ x + 6 + 3 * length records) (UpBy (9 + 3 * len ids)) (λ x y le. omega arith) a b p
