use Rattle.std.proofs.Common.{false, refl, sym, ◌∙◌, subst, arith, Contains}
use Rattle.quilt_edits.proofs.Lists.{member_at}
use Rattle.std.proofs.lemmas.Bool.{both_ways}
use Rattle.quilt_edits.proofs.Ascents.{ascending_rises, first_passed, second_passed, none_ahead}
use Rattle.quilt_edits.proofs.edits.are_apart.Goals as goal

pub loop-i-init : goal.loop-i-init
loop-i-init c = λ r ca cb. (ca, cb)

pub returns-then-is_same-clause-no : goal.returns-then-is_same-clause-no
returns-then-is_same-clause-no c apart =
    absurd (apart _ (member_at c.args.a.now c.loop-i.i _ c.loop-i-test.true)
    (subst (Contains c.args.b.now) (sym (c.is_same.ensures.yes c.if-is_same.true)) (member_at c.args.b.now c.loop-i.j _ c.if-j-b.true)))

pub loop-i-preserved-then-is_before : goal.loop-i-preserved-then-is_before
loop-i-preserved-then-is_before c =
    first_passed c.args.a.now c.args.b.now c.loop-i.i c.loop-i.j _ _ c.loop-i-test.true c.if-j-b.true (ascending_rises c.args.a.now c.requires.first)
    (ascending_rises c.args.b.now c.requires.second) c.loop-i.invariant (sym c.if-is_before.ensures)

pub loop-i-smaller : goal.loop-i-smaller
loop-i-smaller c = let i = c.loop-i-test.true in let j = c.if-j-b.true in omega arith

pub loop-i-preserved : goal.loop-i-preserved
loop-i-preserved c =
    second_passed c.args.a.now c.args.b.now c.loop-i.i c.loop-i.j _ _ c.loop-i-test.true c.if-j-b.true
    (ascending_rises c.args.a.now c.requires.first) (ascending_rises c.args.b.now c.requires.second) c.loop-i.invariant (sym c.if-is_before.ensures)
    (λ e. both_ways false refl (sym c.if-is_same.false ∙ c.is_same.ensures.no e))

pub returns-else-j-b-clause-yes : goal.returns-else-j-b-clause-yes
returns-else-j-b-clause-yes c _ r ca cb = none_ahead c.args.b.now c.loop-i.j r c.if-j-b.false (c.loop-i.invariant r ca cb).1

pub returns-after-loop-i-clause-yes : goal.returns-after-loop-i-clause-yes
returns-after-loop-i-clause-yes c _ r ca cb = none_ahead c.args.a.now c.loop-i.i r c.loop-i-test.false (c.loop-i.invariant r ca cb).0
