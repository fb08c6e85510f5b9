use Rattle.quilt_types.specs.declared.plane.Block.{Block}
use Rattle.quilt_loc.proofs.Blocks.{IsBlock-up}
use Rattle.quilt_audit.proofs.runs.FourLeaves.{IsParent, parent_is, siblings_alike, siblings_from, siblings_are}
use Rattle.quilt_audit.proofs.siblings.are_siblings.Goals as goal

found : (c : goal.In-Some) → IsParent c.args.level c.args.d.block c.in-Some.block
found c = parent_is c.args.level c.args.d.block c.in-Some.block c.requires.block (λ e. let f = c.in-Some.ensures.whole.1 e in cc) c.in-Some.ensures.value

pub quarters-requires-clause-valid : goal.quarters-requires-clause-valid
quarters-requires-clause-valid c = IsBlock-up c.args.level 12 c.in-Some.block c.requires.level.1 (found c).block

pub returns-then-are-clause-yes : goal.returns-then-are-clause-yes
returns-then-are-clause-yes c t =
    let z : Block = record { y = 0; x = 0; side = 0 } in
    let p = parent_is c.args.level c.args.d.block c.in-Some.block c.requires.block (λ e. let f = c.in-Some.ensures.whole.1 e in cc) c.in-Some.ensures.value in
    let one = c.are.ensures.yes c.if-are.true in
    let two = c.are-then-are.ensures.yes t in (
      (c.in-Some.block, c.args.d.colour.0),
      siblings_from c.args.level c.args.a c.args.b c.args.c c.args.d c.in-Some.block c.quarters.result z p
          c.quarters.ensures.value one.0 one.1 two.0 two.1,
    )

pub returns-then-are-clause-no : goal.returns-then-are-clause-no
returns-then-are-clause-no c f w s =
    let z : Block = record { y = 0; x = 0; side = 0 } in
    let these = siblings_are c.args.level c.args.a c.args.b c.args.c c.args.d w c.in-Some.block c.quarters.result z s c.in-Some.ensures.value
    c.quarters.ensures.value in
    let t = c.are-then-are.ensures.no these.third these.fourth in
    cc

pub returns-else-are-clause-no : goal.returns-else-are-clause-no
returns-else-are-clause-no c f w s =
    let z : Block = record { y = 0; x = 0; side = 0 } in
    let these = siblings_are c.args.level c.args.a c.args.b c.args.c c.args.d w c.in-Some.block c.quarters.result z s c.in-Some.ensures.value
    c.quarters.ensures.value in
    let t = c.are.ensures.no these.first these.second in
    cc

pub returns-then-not-is_alike-clause-no : goal.returns-then-not-is_alike-clause-no
returns-then-not-is_alike-clause-no c f w s =
    let alike = siblings_alike c.args.level c.args.a c.args.b c.args.c c.args.d w s in
    c.is_alike.ensures c.if-not-is_alike.true alike.0 alike.1
