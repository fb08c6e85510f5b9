use Rattle.std.proofs.Common.{ℕ, ◌+◌, ◌*◌, ◌&&◌, nat_le, nat_lt, Bool, sym, subst}
use Rattle.quilt_node.specs.Pages.{word_at}
use Rattle.quilt_node.proofs.Searches.{PassBefore, pass_first, pass_next, pass_last}
use Rattle.quilt_node.proofs.inner.children_are_pages.Goals as goal

pub loop-i-init : goal.loop-i-init
loop-i-init c = pass_first (λ n. nat_le 1 n && nat_lt n c.args.pages) (λ i. word_at c.args.bytes.now (8 + 4 * i)) c.args.n

pub loop-i-preserved : goal.loop-i-preserved
loop-i-preserved c =
    let p : ℕ → Bool = λ n. nat_le 1 n && nat_lt n c.args.pages in
    let f : ℕ → ℕ = λ i. word_at c.args.bytes.now (8 + 4 * i) in
    subst (λ m. PassBefore p f c.args.n (c.loop-i.i + 1) (c.loop-i.all && p m)) (sym c.word_in-child.ensures)
    (pass_next p f c.args.n c.loop-i.i c.loop-i.all c.loop-i-test.true c.loop-i.invariant)

pub returns : goal.returns
returns c = pass_last (λ n. nat_le 1 n && nat_lt n c.args.pages) (λ i. word_at c.args.bytes.now (8 + 4 * i))
    c.args.n c.loop-i.i c.loop-i.all c.loop-i-test.false c.loop-i.invariant
