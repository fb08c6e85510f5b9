use Rattle.std.proofs.Common.{inl, inr, arith}
use Rattle.quilt_lines.proofs.plans.Additions.{added_kept, added_cut}
use Rattle.quilt_lines.proofs.Results.{on_ok_both}
use Rattle.quilt_lines.proofs.addition.Arrival.add_block.Goals as goal
use Rattle.quilt_lines.proofs.addition.Arrival.add_block.Goals.{else-b-gt1-via-then-b-gt1+else-ids-from, else-b-gt1-via-else-b-gt1}

pub returns-then-ids-from-clause-added : goal.returns-then-ids-from-clause-added
returns-then-ids-from-clause-added g c =
    on_ok_both c.split.result _ _ _ (λ gone come segs cover h new are m.
    added_cut c.args.self.now.view.level c.args.self.now.view.layer c.args.self.now.t segs c.args.self.now.id c.args.self.now.s new c.args.b c.args.ids.now
    c.requires.block are m c.if-b-gt1.true (let many = c.if-ids-from.true in let same = c.from.ensures in omega arith)
    c.args.change.now.gone.items c.split.new.change.gone.items c.args.change.now.come.items c.split.new.change.come.items gone (come segs cover h are))
    c.split.ensures.gone c.split.ensures.come

pub returns-in-Ok-clause-added : goal.returns-in-Ok-clause-added
returns-in-Ok-clause-added g c segs cover h new are m =
    added_kept c.args.self.now.view.level c.args.self.now.view.layer c.args.self.now.t segs c.args.self.now.id c.args.self.now.s new c.args.b
    c.args.ids.now are m
    (elim c.else-b-gt1.branch [
      | else-b-gt1-via-then-b-gt1+else-ids-from w ↦ let few = w.if-ids-from.false in let same = w.from.ensures in inr (omega arith)
      | else-b-gt1-via-else-b-gt1 w ↦ inl w.if-b-gt1.false
    ])
    c.args.change.now.gone.items c.stay.new.change.gone.items c.args.change.now.come.items c.stay.new.change.come.items c.in-Ok.ensures.gone
    c.in-Ok.ensures.come
