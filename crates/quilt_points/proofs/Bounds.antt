-- How many pages calls read, one behind the other.
use Rattle.std.proofs.Common.{◌≡◌, ℕ, ◌+◌, ◌*◌, ◌^◌, ◌<◌, ◌≤◌, Option, Some, None, Result, Ok, Err, IfOk, sym, ◌∙◌, ap, subst, ⊎_elim, arith}
use Rattle.std.proofs.Common.{pow-suc, add-one}
use Rattle.std.proofs.Math.Nat.{mul-add, mul-le-mul_left}
use Rattle.std.proofs.lemmas.Bool.{cases_lt}
use Rattle.quilt_types.specs.declared.plane.Block.{Block}
use Rattle.quilt_types.specs.Plane.{IsBlock}
use Rattle.quilt_types.proofs.CodeLaws.{pow_same}
use Rattle.quilt_world.specs.Tale.{Goes}
use Rattle.quilt_world.proofs.ReadCounts.{reads_then, reads_more}

pub if_ok_of : {T E P : Type 0} (r : Result T E) → P → IfOk r (λ x. P)
if_ok_of (Ok x) p = p
if_ok_of (Err e) p = tt

-- a range of so many records at most
pub reads_range : (n most : ℕ) (a b : Option ℕ) → n ≤ most → Goes {A = ℕ} (λ old new. new ≤ old + 6 + 3 * n) a b
    → Goes {A = ℕ} (λ old new. new ≤ old + (6 + 3 * most)) a b
reads_range n most (Some a) (Some b) h x = omega arith
reads_range n most (Some a) None h x = absurd x
reads_range n most None (Some b) h x = absurd x
reads_range n most None None h x = tt

-- ---- the same for each of several looks
pub times_next : (r i : ℕ) (a b c : Option ℕ) → Goes {A = ℕ} (λ old new. new ≤ old + r * i) a b → Goes {A = ℕ} (λ old new. new ≤ old + r) b c
    → Goes {A = ℕ} (λ old new. new ≤ old + r * (i + 1)) a c
times_next r i a b c x y = let e : r * (i + 1) ≡ r * i + r * 1 = mul-add r i 1 in reads_then (r * i) r (r * (i + 1)) a b c (omega arith) x y

-- of several looks one was spared
saved_then : (s i j k : ℕ) (a b c : Option ℕ) → i + j ≤ k → Goes {A = ℕ} (λ old new. new + s ≤ old + i) a b
    → Goes {A = ℕ} (λ old new. new ≤ old + j) b c → Goes {A = ℕ} (λ old new. new + s ≤ old + k) a c
saved_then s i j k (Some a) (Some b) (Some c) h x y = omega arith
saved_then s i j k (Some a) (Some b) None h x y = absurd y
saved_then s i j k (Some a) None c h x y = absurd x
saved_then s i j k None (Some b) c h x y = absurd x
saved_then s i j k None None (Some c) h x y = absurd y
saved_then s i j k None None None h x y = tt

pub spared_next : (r i : ℕ) (a b c : Option ℕ) → Goes {A = ℕ} (λ old new. new + r ≤ old + r * i) a b → Goes {A = ℕ} (λ old new. new ≤ old + r) b c
    → Goes {A = ℕ} (λ old new. new + r ≤ old + r * (i + 1)) a c
spared_next r i a b c x y = let e : r * (i + 1) ≡ r * i + r * 1 = mul-add r i 1 in saved_then r (r * i) r (r * (i + 1)) a b c (omega arith) x y

spares_now : (r i k : ℕ) (a b c : Option ℕ) → i + r ≤ k → Goes {A = ℕ} (λ old new. new ≤ old + i) a b → Goes {A = ℕ} (λ old new. new ≤ old) b c
    → Goes {A = ℕ} (λ old new. new + r ≤ old + k) a c
spares_now r i k (Some a) (Some b) (Some c) h x y = omega arith
spares_now r i k (Some a) (Some b) None h x y = absurd y
spares_now r i k (Some a) None c h x y = absurd x
spares_now r i k None (Some b) c h x y = absurd x
spares_now r i k None None (Some c) h x y = absurd y
spares_now r i k None None None h x y = tt

pub spares : (r i : ℕ) (a b c : Option ℕ) → Goes {A = ℕ} (λ old new. new ≤ old + r * i) a b → Goes {A = ℕ} (λ old new. new ≤ old) b c
    → Goes {A = ℕ} (λ old new. new + r ≤ old + r * (i + 1)) a c
spares r i a b c x y = let e : r * (i + 1) ≡ r * i + r * 1 = mul-add r i 1 in spares_now r (r * i) (r * (i + 1)) a b c (omega arith) x y

saved_less : (s i k : ℕ) (a b : Option ℕ) → i ≤ s + k → Goes {A = ℕ} (λ old new. new + s ≤ old + i) a b → Goes {A = ℕ} (λ old new. new ≤ old + k) a b
saved_less s i k (Some a) (Some b) h x = omega arith
saved_less s i k (Some a) None h x = absurd x
saved_less s i k None (Some b) h x = absurd x
saved_less s i k None None h x = tt

-- four looks of which one is spared are three
pub spared_end : (r i : ℕ) (a b : Option ℕ) → i ≤ 4 → Goes {A = ℕ} (λ old new. new + r ≤ old + r * i) a b → Goes {A = ℕ} (λ old new. new ≤ old + r * 3) a b
spared_end r i a b few x =
    let e : r * 4 ≡ r * 3 + r * 1 = mul-add r 3 1 in
    let most : r * i ≤ r * 4 = mul-le-mul_left r few in
    saved_less r (r * i) (r * 3) a b (omega arith) x

-- and also where it ends before the fourth, since that or one before was spared
pub spared_here : (r i j : ℕ) (a b c : Option ℕ) → j < 4 → i < 4 → Goes {A = ℕ} (λ old new. new ≤ old + r * i) a b
    → (j < i → Goes {A = ℕ} (λ old new. new + r ≤ old + r * i) a b) → Goes {A = ℕ} (λ old new. new ≤ old + r) b c
    → (j ≡ i → Goes {A = ℕ} (λ old new. new ≤ old) b c) → Goes {A = ℕ} (λ old new. new ≤ old + r * 3) a c
spared_here r i j a b c jl il x spared y known =
    ⊎_elim (λ less. spared_end r (i + 1) a c (omega arith) (spared_next r i a b c (spared less) y))
    (λ ge.
    ⊎_elim (λ more.
    let few : i + 1 ≤ 3 = omega arith in
    let most : r * (i + 1) ≤ r * 3 = mul-le-mul_left r few in
    reads_more (r * (i + 1)) (r * 3) a c most (times_next r i a b c x y))
    (λ le.
    let at : j ≡ i = omega arith in
    spared_end r (i + 1) a c (omega arith) (spares r i a b c x (known at))) (cases_lt i j))
    (cases_lt j i)

-- ---- level by level
pub level_up : (n : ℕ) (b up : Block) (hb : IsBlock n b) (hu : IsBlock n up) → up.side ≡ 2 * b.side → hu.level ≡ hb.level + 1
level_up n b up hb hu twice =
    let p = pow-suc 2 hb.level in
    let size = hb.size in
    let more = hu.size in
    let one : 2 ^ (hb.level + 1) ≡ 2 ^ hb.level * 2 = ap (λ (k : ℕ). 2 ^ k) (add-one hb.level) ∙ p in
    pow_same hu.level (hb.level + 1) (omega arith)

pub times_up : (r i j : ℕ) (a b c : Option ℕ) → j ≡ i + 1 → Goes {A = ℕ} (λ old new. new ≤ old + r * i) a b
    → Goes {A = ℕ} (λ old new. new ≤ old + r) b c → Goes {A = ℕ} (λ old new. new ≤ old + r * j) a c
times_up r i j a b c e x y = subst (λ (k : ℕ). Goes {A = ℕ} (λ old new. new ≤ old + r * k) a c) (sym e) (times_next r i a b c x y)

pub times_most : (r i n : ℕ) (a b c : Option ℕ) → i < n → Goes {A = ℕ} (λ old new. new ≤ old + r * i) a b
    → Goes {A = ℕ} (λ old new. new ≤ old + r) b c → Goes {A = ℕ} (λ old new. new ≤ old + r * n) a c
times_most r i n a b c lt x y =
    let le : i + 1 ≤ n = omega arith in reads_more (r * (i + 1)) (r * n) a c (mul-le-mul_left r le) (times_next r i a b c x y)

reads_zero : (a b : Option ℕ) → Goes {A = ℕ} (λ old new. new ≤ old) a b → Goes {A = ℕ} (λ old new. new ≤ old + 0) a b
reads_zero (Some a) (Some b) x = omega arith
reads_zero (Some a) None x = absurd x
reads_zero None (Some b) x = absurd x
reads_zero None None x = tt

pub times_here : (r i n : ℕ) (a b c : Option ℕ) → i ≤ n → Goes {A = ℕ} (λ old new. new ≤ old + r * i) a b
    → Goes {A = ℕ} (λ old new. new ≤ old) b c → Goes {A = ℕ} (λ old new. new ≤ old + r * n) a c
times_here r i n a b c le x y = reads_then (r * i) 0 (r * n) a b c (let m = mul-le-mul_left r le in omega arith) x (reads_zero b c y)

pub same_level : {i n : ℕ} → i ≤ n → n ≤ i → i ≡ n
same_level le ge = omega arith

-- ---- block by block, each for one point at least
pub blocks_next : (r i n : ℕ) (a b c : Option ℕ) → 0 < n → Goes {A = ℕ} (λ old new. new ≤ old + r * i) a b
    → Goes {A = ℕ} (λ old new. new ≤ old + r) b c → Goes {A = ℕ} (λ old new. new ≤ old + r * (i + n)) a c
blocks_next r i n a b c some x y =
    let e = mul-add r i n in
    let le : r * 1 ≤ r * n = mul-le-mul_left r some in
    reads_then (r * i) r (r * (i + n)) a b c (omega arith) x y

pub blocks_all : (r i n : ℕ) (a b : Option ℕ) → i ≤ n → Goes {A = ℕ} (λ old new. new ≤ old + r * i) a b → Goes {A = ℕ} (λ old new. new ≤ old + r * n) a b
blocks_all r i n a b le x = reads_more (r * i) (r * n) a b (mul-le-mul_left r le) x
