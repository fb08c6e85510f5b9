use Rattle.std.proofs.Common.{◌≡◌, ◌+◌, ◌∙◌, ap, length, arith}
use Rattle.quilt_node.specs.Pages.{Inner, read_inner}
use Rattle.quilt_node.proofs.Inners.{count_is}
use Rattle.quilt_node.proofs.inner.InnerPage.len.Goals as goal

pub returns-clause-length : goal.returns-clause-length
returns-clause-length c = c.count_in.ensures ∙ count_is _ _ c.self.invariant ∙ ap (λ (p : Inner). length p.children) c.self.view_is

pub returns-clause-range : goal.returns-clause-range
returns-clause-range c =
    let e : c.count_in.result ≡ length (read_inner c.self.inside.bytes).children = c.count_in.ensures ∙ count_is _ _ c.self.invariant in
    (omega (arith, e, c.self.invariant.is_inner.least), omega (arith, e, c.self.invariant.is_inner.most))

pub returns-clause-keys : goal.returns-clause-keys
returns-clause-keys c =
    let e : c.count_in.result ≡ length (read_inner c.self.inside.bytes).keys + 1 =
    omega (arith, c.count_in.ensures ∙ count_is _ _ c.self.invariant, c.self.invariant.is_inner.between) in
    e ∙ ap (λ (p : Inner). length p.keys + 1) c.self.view_is
