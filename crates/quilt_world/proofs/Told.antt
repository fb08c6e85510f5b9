-- A run of calls, told or not.
use Rattle.std.proofs.Common.{◌≡◌, ℕ, ◌<◌, ◌∙◌, arith, List, [], get_or, length, Option, Some, None, refl, subst}
use Rattle.std.specs.Option.{IfSome}
use Rattle.quilt_world.specs.Tale.{Tale, IsConsistent, Adds, Goes}
use Rattle.quilt_world.specs.Stops.{latest}
use Rattle.quilt_world.proofs.StopLaws.{last_kept, seen_page}

-- before the first call
pub goes_first : (P : Tale → Type 0) (R : Tale → Tale → Type 0) (o : Option Tale) → IfSome o P → ((t : Tale) → o ≡ Some t → P t → R t t) → Goes R o o
goes_first P R None kept step = tt
goes_first P R (Some t) kept step = step t refl kept

-- a told fact, with the size
pub told_first : (P : Tale → Type 0) (R : Tale → Tale → Type 0) (size : ℕ) (o : Option Tale)
    → IfSome o (λ t. IsConsistent t × (length t.start ≡ size)) → IfSome o P → ((t : Tale) → length t.start ≡ size → P t → R t t) → Goes R o o
told_first P R size None law kept step = tt
told_first P R size (Some t) law kept step = step t law.1 kept

-- one call more
pub goes_then : (R S T : Tale → Tale → Type 0) (o m n : Option Tale) → Goes R o m → Goes S m n → ((t u v : Tale) → R t u → S u v → T t v) → Goes T o n
goes_then R S T None None None r s step = tt
goes_then R S T None None (Some v) r s step = s
goes_then R S T None (Some u) n r s step = absurd r
goes_then R S T (Some t) None n r s step = absurd r
goes_then R S T (Some t) (Some u) None r s step = s
goes_then R S T (Some t) (Some u) (Some v) r s step = step t u v r s

-- a read more, and what it gave
pub goes_read : (i size : ℕ) (into : List ℕ) (R S T : Tale → Tale → Type 0) (o m n : Option Tale) → Goes R o m → Goes S m n
    → IfSome n (λ t. IsConsistent t × (length t.start ≡ size)) → i < size → IfSome n (λ t. into ≡ get_or t.seen i [])
    → ((t u v : Tale) → R t u → S u v → ((b : List ℕ) → latest v i ≡ Some b → into ≡ b) → T t v) → Goes T o n
goes_read i size into R S T None None None r s law within reads step = tt
goes_read i size into R S T None None (Some v) r s law within reads step = s
goes_read i size into R S T None (Some u) n r s law within reads step = absurd r
goes_read i size into R S T (Some t) None n r s law within reads step = absurd r
goes_read i size into R S T (Some t) (Some u) None r s law within reads step = s
goes_read i size into R S T (Some t) (Some u) (Some v) r s law within reads step =
    step t u v r s (λ b is. reads ∙ seen_page v i b law.0 (omega (arith, law.1)) is)

-- what holds of the tale now
pub goes_now : (R : Tale → Tale → Type 0) (Q : Tale → Type 0) (o n : Option Tale) → Goes R o n → ((t u : Tale) → R t u → Q u) → IfSome n Q
goes_now R Q None None r so = tt
goes_now R Q None (Some u) r so = absurd r
goes_now R Q (Some t) None r so = tt
goes_now R Q (Some t) (Some u) r so = so t u r

pub goes_weaker : (R T : Tale → Tale → Type 0) (o n : Option Tale) → Goes R o n → ((t u : Tale) → R t u → T t u) → Goes T o n
goes_weaker R T None None r step = tt
goes_weaker R T None (Some u) r step = r
goes_weaker R T (Some t) None r step = r
goes_weaker R T (Some t) (Some u) r step = step t u r

pub goes_and : (R S : Tale → Tale → Type 0) (o n : Option Tale) → Goes R o n → Goes S o n → Goes (λ t u. R t u × S t u) o n
goes_and R S None None r s = tt
goes_and R S None (Some u) r s = r
goes_and R S (Some t) None r s = r
goes_and R S (Some t) (Some u) r s = (r, s)

-- with what is known of the first tale
pub goes_with : (P : Tale → Type 0) (R : Tale → Tale → Type 0) (o n : Option Tale) → ((t : Tale) → o ≡ Some t → P t) → Goes R o n
    → Goes (λ t u. P t × R t u) o n
goes_with P R None None known r = tt
goes_with P R None (Some u) known r = r
goes_with P R (Some t) None known r = r
goes_with P R (Some t) (Some u) known r = (known t refl, r)

pub if_some_and : (P Q R : Tale → Type 0) (o : Option Tale) → IfSome o P → IfSome o Q → ((t : Tale) → P t → Q t → R t) → IfSome o R
if_some_and P Q R None p q both = tt
if_some_and P Q R (Some t) p q both = both t p q

-- the start image has as many pages as the disk
pub start_size : (o : Option Tale) (n : ℕ) (t : Tale) → IfSome o (λ t. IsConsistent t × (length t.start ≡ n)) → o ≡ Some t → length t.start ≡ n
start_size o n t law is = (subst (λ x. IfSome x (λ t. IsConsistent t × (length t.start ≡ n))) is law).1

-- what a read gives: the page's last bytes, where it has them
pub read_gives : (i size : ℕ) (into : List ℕ) (S : Tale → Tale → Type 0) (o n : Option Tale) → ((t u : Tale) → S t u → Adds [] t u) → Goes S o n
    → IfSome n (λ t. IsConsistent t × (length t.start ≡ size)) → i < size → IfSome n (λ t. into ≡ get_or t.seen i [])
    → IfSome o (λ t. (b : List ℕ) → latest t i ≡ Some b → into ≡ b)
read_gives i size into S None n adds goes law within reads = tt
read_gives i size into S (Some t) None adds goes law within reads = absurd goes
read_gives i size into S (Some t) (Some u) adds goes law within reads = λ b is.
    reads ∙ seen_page u i b law.0 (omega (arith, law.1)) (last_kept [] t u i b (adds t u goes) tt is)
