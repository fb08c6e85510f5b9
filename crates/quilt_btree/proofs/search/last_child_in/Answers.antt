use Rattle.std.proofs.Common.{◌-◌, ◌<◌, ◌∙◌, ap, length, Some, slice_index, arith}
use Rattle.quilt_btree.proofs.ways.Forks.{inside, no_page}
use Rattle.quilt_btree.proofs.search.last_child_in.Goals as goal

pub returns-then-child-lt1-clause-last : goal.returns-then-child-lt1-clause-last
returns-then-child-lt1-clause-last c = λ inner is.
    let h = c.child_count_in-n.ensures.length c.args.pages inner is in
    let lt : c.child_count_in-n.result - 1 < length inner.children = omega (arith, h.0, h.1) in
    let p = inside c.args.pages c.args.bytes.now inner (c.child_count_in-n.result - 1) c.child_in-child.result is lt
    (c.child_in-child.ensures.inner c.args.pages inner is) in
    absurd (no_page c.args.pages c.child_in-child.result c.then-child-lt1.either p.least p.most)

pub returns-clause-last : goal.returns-clause-last
returns-clause-last c = λ inner is.
    let h = c.child_count_in-n.ensures.length c.args.pages inner is in
    let lt : c.child_count_in-n.result - 1 < length inner.children = omega (arith, h.0, h.1) in
    ap Some (c.child_in-child.ensures.inner c.args.pages inner is lt ∙ ap (λ n. slice_index inner.children (n - 1)) h.0)
