use Rattle.std.proofs.Common.{◌≡◌, ℕ, ◌&&◌, ◌+◌, ◌-◌, length, Some, sym, ap, subst, ◌∙◌, arith}
use Rattle.std.specs.Prelude.{slice_get}
use Rattle.std.specs.Ordering.{is_lt}
use Rattle.quilt_record.specs.Records.{key_cmp}
use Rattle.quilt_btree.proofs.lists.Ascents.{inners_test}
use Rattle.quilt_btree.proofs.balance.inners_ascend.Goals as goal

one_less : (m n : ℕ) → m ≡ n + 1 → m - 2 ≡ n - 1
one_less m n e = omega arith

pub returns-then-precedes : goal.returns-then-precedes
returns-then-precedes c =
    let last = subst (λ i. slice_get c.args.left.now.keys i ≡ Some c.key-last.result)
    (one_less c.len-2.result (length c.args.left.now.keys) c.len-2.ensures.keys) c.key-last.ensures in
    let test = inners_test c.args.left.now.keys c.args.right.now.keys c.args.key.now last c.key-first.ensures
    c.len-2.ensures.is.ascends c.len.ensures.is.ascends in
    c.precedes-then-precedes.ensures
    ∙ sym (test ∙ ap (λ b. b && is_lt (key_cmp c.args.key.now c.key-first.result)) (sym c.precedes.ensures ∙ c.if-precedes.true))

pub returns-else-precedes : goal.returns-else-precedes
returns-else-precedes c =
    let last = subst (λ i. slice_get c.args.left.now.keys i ≡ Some c.key-last.result)
    (one_less c.len-2.result (length c.args.left.now.keys) c.len-2.ensures.keys) c.key-last.ensures in
    let test = inners_test c.args.left.now.keys c.args.right.now.keys c.args.key.now last c.key-first.ensures
    c.len-2.ensures.is.ascends c.len.ensures.is.ascends in
    c.if-precedes.false ∙ sym (test ∙ ap (λ b. b && is_lt (key_cmp c.args.key.now c.key-first.result)) (sym c.precedes.ensures ∙ c.if-precedes.false))
