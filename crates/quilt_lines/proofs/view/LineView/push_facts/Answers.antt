use Rattle.std.proofs.Common.{[], arith}
use Rattle.quilt_lines.proofs.Rows.{ids_next, ids_all, ids_none, follow_none}
use Rattle.quilt_lines.proofs.view.LineView.push_facts.Goals as goal

pub returns-then-is_empty : goal.returns-then-is_empty
returns-then-is_empty c =
    ids_none c.args.self.now.level c.args.self.now.layer c.args.b c.args.records.now.items c.push.new.self.items c.args.ids.now c.pair_record.result
    c.if-is_empty.ensures c.in_ok-push.ensures.items (c.pair_record.ensures.written [])

pub loop-id-init : goal.loop-id-init
loop-id-init c = follow_none c.args.self.now.level c.args.self.now.layer c.args.records.now.items

pub loop-id-preserved : goal.loop-id-preserved
loop-id-preserved c =
    ids_next c.args.self.now.level c.args.self.now.layer c.args.b c.args.records.now.items c.loop-id.records.items c.push-in-loop-id.new.self.items
    c.args.ids.now c.loop-id.id-index 0 c.pair_record-in-loop-id.result c.loop-id.invariant c.in_ok-push-2.ensures.items c.loop-id-test.true
    (c.pair_record-in-loop-id.ensures.written [])

pub returns : goal.returns
returns c =
    ids_all c.args.self.now.level c.args.self.now.layer c.args.b c.args.records.now.items c.loop-id.records.items c.args.ids.now c.loop-id.id-index
    c.if-is_empty.ensures c.loop-id.invariant (omega arith)
