use Rattle.std.proofs.Common.{◌≡◌, ℕ, ◌+◌, refl, subst, arith}
use Rattle.quilt_tally.specs.Tallies.{size_of, HasLeaves}
use Rattle.quilt_tally.proofs.Joining.{joined_one, joined_mixed, joined_leaves, joined_count}
use Rattle.quilt_tally.proofs.tally.joined.Goals as goal

pub returns-in-Some-clause-some : goal.returns-in-Some-clause-some
returns-in-Some-clause-some c n g b le hb wide ts =
    let is = c.in-Some.ensures.some in
    joined_one n g b hb wide c.args.first c.args.second c.args.third c.args.last ts c.in-Some.colour is.0 is.1 is.2 is.3

pub returns-then-count-from-clause-none : goal.returns-then-count-from-clause-none
returns-then-count-from-clause-none c n g b le hb wide ts none =
    let first = c.args.first in
    let second = c.args.second in
    let third = c.args.third in
    let last = c.args.last in
    let mixed = joined_mixed n g b hb wide first second third last ts (c.in_default.ensures.none refl) in
    let over = c.if-count-from.true in
    let e0 : c.from.result ≡ c.leaves_in.result = c.from.ensures in
    let e1 : c.from-2.result ≡ c.leaves_in-2.result = c.from-2.ensures in
    let e2 : c.from-3.result ≡ c.leaves_in-3.result = c.from-3.ensures in
    let e3 : c.from-4.result ≡ c.leaves_in-4.result = c.from-4.ensures in
    let e4 : c.from-5.result ≡ c.args.most = c.from-5.ensures in
    let s0 : c.leaves_in.result ≡ size_of first = c.leaves_in.ensures in
    let s1 : c.leaves_in-2.result ≡ size_of second = c.leaves_in-2.ensures in
    let s2 : c.leaves_in-3.result ≡ size_of third = c.leaves_in-3.ensures in
    let s3 : c.leaves_in-4.result ≡ size_of last = c.leaves_in-4.ensures in
    record { mixed = mixed; over = λ k has. let is = joined_count n g b hb wide first second third last ts k mixed has in omega arith }

pub returns-else-count-from-clause-some : goal.returns-else-count-from-clause-some
returns-else-count-from-clause-some c n g b le hb wide ts =
    let first = c.args.first in
    let second = c.args.second in
    let third = c.args.third in
    let last = c.args.last in
    let mixed = joined_mixed n g b hb wide first second third last ts (c.in_default.ensures.none refl) in
    let e0 : c.from.result ≡ c.leaves_in.result = c.from.ensures in
    let e1 : c.from-2.result ≡ c.leaves_in-2.result = c.from-2.ensures in
    let e2 : c.from-3.result ≡ c.leaves_in-3.result = c.from-3.ensures in
    let e3 : c.from-4.result ≡ c.leaves_in-4.result = c.from-4.ensures in
    let s0 : c.leaves_in.result ≡ size_of first = c.leaves_in.ensures in
    let s1 : c.leaves_in-2.result ≡ size_of second = c.leaves_in-2.ensures in
    let s2 : c.leaves_in-3.result ≡ size_of third = c.leaves_in-3.ensures in
    let s3 : c.leaves_in-4.result ≡ size_of last = c.leaves_in-4.ensures in
    let sum : size_of first + size_of second + size_of third + size_of last ≡ c.from.result + c.from-2.result + c.from-3.result + c.from-4.result = omega arith in
    record { mixed = mixed; leaves = subst (λ (k : ℕ). HasLeaves n g b k) sum (joined_leaves n g b hb wide first second third last ts mixed) }
