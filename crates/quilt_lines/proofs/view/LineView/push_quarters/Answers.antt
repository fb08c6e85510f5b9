use Rattle.std.proofs.Common.{ℕ, List, ◌++◌, ◌∙◌, length, map, flat_map, get_or, ap, subst, arith}
use Rattle.quilt_types.specs.declared.plane.Block.{Block}
use Rattle.quilt_loc.proofs.Blocks.{IsBlock-up}
use Rattle.quilt_lines.specs.Layers.{fact_record}
use Rattle.quilt_lines.specs.Adding.{facts_by, ids_meeting, Follow}
use Rattle.quilt_lines.proofs.Quarters.{quarter_at}
use Rattle.quilt_lines.proofs.Rows.{blocks_next, blocks_all, follow_none}
use Rattle.quilt_lines.proofs.view.LineView.push_quarters.Goals as goal

pub quarters-q-items-requires-clause-valid : goal.quarters-q-items-requires-clause-valid
quarters-q-items-requires-clause-valid c = IsBlock-up c.args.self.now.level 12 c.args.b c.args.self.now.has_level.1 c.requires.block

pub push_facts-requires : goal.push_facts-requires
push_facts-requires c =
    (quarter_at c.args.self.now.level c.args.b c.quarters-q-items.result c.loop-q.q-index (record { y = 0; x = 0; side = 0 }) c.requires.block
    c.requires.wide c.quarters-q-items.ensures.value c.loop-q-test.true).block

pub loop-q-init : goal.loop-q-init
loop-q-init c = follow_none c.args.self.now.level c.args.self.now.layer c.args.records.now.items

pub loop-q-preserved : goal.loop-q-preserved
loop-q-preserved c =
    let q = get_or c.quarters-q-items.result c.loop-q.q-index (record { y = 0; x = 0; side = 0 }) in
    let four = ap length c.quarters-q-items.ensures.value in
    blocks_next c.args.self.now.level c.args.self.now.layer (λ r. facts_by r (ids_meeting c.args.list.now r)) c.args.records.now.items
    c.loop-q.records.items c.push_facts.new.records.items c.quarters-q-items.result c.loop-q.q-index (record { y = 0; x = 0; side = 0 })
    c.loop-q.invariant (let lt = c.loop-q-test.true in omega arith)
    (c.in_ok-push_facts.ensures ∙ ap (λ (ids : List ℕ). c.loop-q.records.items ++ map (fact_record c.args.self.now.level c.args.self.now.layer)
    (facts_by q ids)) (c.deref.ensures.value ∙ c.in_ok-ids.ensures))

pub returns : goal.returns
returns c =
    let four = ap length c.quarters-q-items.ensures.value in
    subst (λ (bs : List Block). Follow c.args.self.now.level c.args.self.now.layer c.args.records.now.items c.loop-q.records.items
    (flat_map (λ q. facts_by q (ids_meeting c.args.list.now q)) bs)) c.quarters-q-items.ensures.value
    (blocks_all c.args.self.now.level c.args.self.now.layer (λ r. facts_by r (ids_meeting c.args.list.now r)) c.args.records.now.items
    c.loop-q.records.items c.quarters-q-items.result c.loop-q.q-index
    c.loop-q.invariant (let end = c.loop-q-test.false in omega arith))
