use Rattle.std.proofs.Common.{◌≡◌, ◌-◌, ◌∷◌, ◌∙◌, length, ap, arith, length-take-le, length-drop}
use Rattle.std.specs.List.{insert}
use Rattle.quilt_node.specs.Pages.{Inner, is_ascending}
use Rattle.quilt_node.specs.Edits.{with_child, first_children, children_from}
use Rattle.quilt_node.proofs.InnerSplits.{low_left, low_right, low_key, low_order, high_left, high_right, high_key, high_order, middle_right, middle_key}
use Rattle.quilt_node.proofs.InnerSplits.{middle_order}
use Rattle.quilt_node.proofs.inner.InnerPage.insert_split.Goals as goal

first_126 : (inner now : Inner) → now ≡ first_children 126 inner → length inner.children ≡ 254 → length now.children ≡ 126
first_126 inner now e h = ap (λ (p : Inner). length p.children) e ∙ length-take-le 126 inner.children (omega (arith, h))

from_127 : (inner now : Inner) → now ≡ children_from 127 inner → length inner.children ≡ 254 → length now.children ≡ 127
from_127 inner now e h = ap (λ (p : Inner). length p.children) e ∙ length-drop 127 inner.children ∙ omega (arith, h)

pub insert-requires-clause-room : goal.insert-requires-clause-room
insert-requires-clause-room c = omega (arith, first_126 c.args.self.now c.split_off-right.new.self c.split_off-right.ensures.left c.requires.full)

pub insert-requires-clause-place : goal.insert-requires-clause-place
insert-requires-clause-place c =
    omega (arith, first_126 c.args.self.now c.split_off-right.new.self c.split_off-right.ensures.left c.requires.full, c.if-i-lt126.true)

pub insert-requires-clause-order : goal.insert-requires-clause-order
insert-requires-clause-order c =
    ap (λ (p : Inner). is_ascending (insert p.keys c.args.i c.args.k.now)) c.split_off-right.ensures.left
    ∙ low_order c.args.self.now.keys c.args.i c.args.k.now c.if-i-lt126.true c.requires.order

pub returns-then-i-lt126-clause-left : goal.returns-then-i-lt126-clause-left
returns-then-i-lt126-clause-left c =
    c.insert.ensures ∙ ap (λ (p : Inner). with_child p c.args.i c.args.k.now c.args.child) c.split_off-right.ensures.left
    ∙ low_left c.args.self.now c.args.i c.args.child c.args.k.now c.if-i-lt126.true

pub returns-then-i-lt126-clause-right : goal.returns-then-i-lt126-clause-right
returns-then-i-lt126-clause-right c = c.split_off-right.ensures.right ∙ low_right c.args.self.now c.args.i c.args.child c.args.k.now c.if-i-lt126.true

pub returns-then-i-lt126-clause-key : goal.returns-then-i-lt126-clause-key
returns-then-i-lt126-clause-key c = low_key c.args.self.now.keys c.args.i c.args.k.now c.if-i-lt126.true ∙ c.split_off-right.ensures.key

pub put_both-requires-clause-room : goal.put_both-requires-clause-room
put_both-requires-clause-room c =
    omega (arith, from_127 c.args.self.now c.split_off-right-then-i-eq126.result.1 c.split_off-right-then-i-eq126.ensures.right c.requires.full)

pub put_both-requires-clause-order : goal.put_both-requires-clause-order
put_both-requires-clause-order c =
    ap (λ (p : Inner). is_ascending (c.split_off-right-then-i-eq126.result.0 ∷ p.keys)) c.split_off-right-then-i-eq126.ensures.right
    ∙ middle_order c.args.self.now.keys c.args.i c.args.k.now c.split_off-right-then-i-eq126.result.0 c.if-i-eq126.true
    c.split_off-right-then-i-eq126.ensures.key c.requires.order

pub returns-then-i-eq126-clause-left : goal.returns-then-i-eq126-clause-left
returns-then-i-eq126-clause-left c =
    let e = c.split_off-right-then-i-eq126.ensures in
    e.left ∙ high_left c.args.self.now c.args.i c.args.child c.args.k.now (omega (arith, c.if-i-eq126.true)) (omega (arith, c.requires.full))
    (omega (arith, c.requires.full, e.is.between))

pub returns-then-i-eq126-clause-right : goal.returns-then-i-eq126-clause-right
returns-then-i-eq126-clause-right c =
    let e = c.split_off-right-then-i-eq126.ensures in
    c.put_both.ensures
    ∙ ap (λ (p : Inner). record { height = p.height; children = c.args.child ∷ p.children; keys = c.split_off-right-then-i-eq126.result.0 ∷ p.keys }) e.right
    ∙ middle_right c.args.self.now c.args.i c.args.child c.args.k.now c.split_off-right-then-i-eq126.result.0 c.if-i-eq126.true
    (omega (arith, c.requires.full)) e.key

pub returns-then-i-eq126-clause-key : goal.returns-then-i-eq126-clause-key
returns-then-i-eq126-clause-key c =
    middle_key c.args.self.now.keys c.args.i c.args.k.now c.if-i-eq126.true (omega (arith, c.requires.full, c.split_off-right-then-i-eq126.ensures.is.between))

pub insert-requires-else-i-eq126-clause-room : goal.insert-requires-else-i-eq126-clause-room
insert-requires-else-i-eq126-clause-room c =
    omega (arith, from_127 c.args.self.now c.split_off-right-else-i-eq126.result.1 c.split_off-right-else-i-eq126.ensures.right c.requires.full)

pub insert-requires-else-i-eq126-clause-place : goal.insert-requires-else-i-eq126-clause-place
insert-requires-else-i-eq126-clause-place c =
    omega (
      arith,
      from_127 c.args.self.now c.split_off-right-else-i-eq126.result.1 c.split_off-right-else-i-eq126.ensures.right
          c.requires.full,
      c.requires.place,
      c.requires.full,
    )

pub insert-requires-else-i-eq126-clause-order : goal.insert-requires-else-i-eq126-clause-order
insert-requires-else-i-eq126-clause-order c =
    let e = c.split_off-right-else-i-eq126.ensures in
    ap (λ (p : Inner). is_ascending (insert p.keys (c.args.i - 127) c.args.k.now)) e.right
    ∙ high_order c.args.self.now.keys c.args.i (c.args.i - 127) c.args.k.now (omega (arith, c.if-i-lt126.false, c.if-i-eq126.false))
    (omega (arith, c.requires.full, e.is.between)) c.requires.order

pub returns-else-i-eq126-clause-left : goal.returns-else-i-eq126-clause-left
returns-else-i-eq126-clause-left c =
    let e = c.split_off-right-else-i-eq126.ensures in
    e.left ∙ high_left c.args.self.now c.args.i c.args.child c.args.k.now c.if-i-lt126.false (omega (arith, c.requires.full))
    (omega (arith, c.requires.full, e.is.between))

pub returns-else-i-eq126-clause-right : goal.returns-else-i-eq126-clause-right
returns-else-i-eq126-clause-right c =
    let e = c.split_off-right-else-i-eq126.ensures in
    c.insert-else-i-eq126.ensures ∙ ap (λ (p : Inner). with_child p (c.args.i - 127) c.args.k.now c.args.child) e.right
    ∙ high_right c.args.self.now c.args.i (c.args.i - 127) c.args.child c.args.k.now (omega (arith, c.if-i-lt126.false, c.if-i-eq126.false))
    (omega (arith, c.requires.full)) (omega (arith, c.requires.full, e.is.between))

pub returns-else-i-eq126-clause-key : goal.returns-else-i-eq126-clause-key
returns-else-i-eq126-clause-key c =
    let e = c.split_off-right-else-i-eq126.ensures in
    high_key c.args.self.now.keys c.args.i c.args.k.now (omega (arith, c.if-i-lt126.false, c.if-i-eq126.false))
    (omega (arith, c.requires.full, e.is.between)) ∙ e.key
