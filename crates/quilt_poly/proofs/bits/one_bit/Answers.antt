use Rattle.std.proofs.Common.{◌≡◌, ℕ, ◌+◌, ◌-◌, ◌%◌, ◌≤◌, ap₂, sym, ◌∙◌, subst, arith}
use Rattle.quilt_poly.specs.Bits.{bit_in}
use Rattle.quilt_poly.proofs.Words.{block_in_word}
use Rattle.quilt_poly.proofs.bits.one_bit.Goals as goal

pub bits_from-first-requires-clause-one_word : goal.bits_from-first-requires-clause-one_word
bits_from-first-requires-clause-one_word c =
    let x : c.from-x.result ≡ c.args.b.x = c.from-x.ensures in
    subst (λ (k : ℕ). k % 64 + c.args.b.side ≤ 64) (sym x) (block_in_word 12 c.args.b c.requires.valid c.if-b-gt32.false)

pub bits_from-requires-clause-one_word : goal.bits_from-requires-clause-one_word
bits_from-requires-clause-one_word c =
    let x : c.from-x.result ≡ c.args.b.x = c.from-x.ensures in
    subst (λ (k : ℕ). k % 64 + c.args.b.side ≤ 64) (sym x) (block_in_word 12 c.args.b c.requires.valid c.if-b-gt32.false)

pub returns-clause-some : goal.returns-clause-some
returns-clause-some c p h =
    let b = c.args.b in
    let x : c.from-x.result ≡ b.x = c.from-x.ensures in
    let y : c.from-y.result ≡ b.y = c.from-y.ensures in
    let long : c.from-dy-end.result ≡ b.side = c.from-dy-end.ensures in
    let end = c.loop-dy-test.false in
    let l = h.left in
    let r = h.right in
    let t = h.top in
    let d = h.bottom in
    let row : p.y ≡ c.from-y.result + (p.y - b.y) = omega arith in
    let column : p.x ≡ c.from-x.result + (p.x - b.x) = omega arith in
    ap₂ (λ (j i : ℕ). bit_in c.args.words.now c.args.side j i) row column
    ∙ c.loop-dy.invariant (p.y - b.y) (p.x - b.x) (omega arith) (omega arith)
    ∙ c.in_ok-inside.ensures.some (p.x - b.x) (omega arith)
