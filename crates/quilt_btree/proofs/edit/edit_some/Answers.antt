use Rattle.std.proofs.Common.{take, refl, subst, arith}
use Rattle.quilt_btree.specs.Batches.{HasRoomFor}
use Rattle.quilt_btree.proofs.batches.Plans.{leaf_planned}
use Rattle.quilt_btree.proofs.edit.edit_some.Goals as goal

pub returns-then-n-eq0-clause-made : goal.returns-then-n-eq0-clause-made
returns-then-n-eq0-clause-made c rs is = record { is = is; due = refl; enough = λ one. absurd (omega arith) }

pub returns-then-edit_in-clause-made : goal.returns-then-edit_in-clause-made
returns-then-edit_in-clause-made c rs is =
    let many = (c.records_in.ensures.length rs is).0 in
    leaf_planned c.args.bytes.now c.edit_in.new.bytes c.args.run.now rs c.planned-n.result c.records_in.result c.args.least is many
    c.planned-n.ensures.enough
    (c.edit_in.ensures.made rs is (subst (HasRoomFor (take c.planned-n.result c.args.run.now)) many c.planned-n.ensures.room) c.if-edit_in.true)

pub returns-else-edit_in-clause-fails : goal.returns-else-edit_in-clause-fails
returns-else-edit_in-clause-fails c none rs is =
    let many = (c.records_in.ensures.length rs is).0 in
    record {
      number = c.planned-n.result;
      missing = c.edit_in.ensures.fails rs is (subst (HasRoomFor (take c.planned-n.result c.args.run.now)) many c.planned-n.ensures.room)
          c.if-edit_in.false;
      under = c.planned-n.ensures.under;
    }
