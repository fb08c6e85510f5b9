use Rattle.std.proofs.Common.{◌∙◌, sym, ap, map, arith}
use Rattle.std.proofs.lemmas.List.{take_all}
use Rattle.quilt_lines.specs.Reads.{pair_of}
use Rattle.quilt_lines.proofs.plans.Merges.{some_pairs}
use Rattle.quilt_lines.proofs.removal.Removal.pairs.Goals as goal

pub returns : goal.returns
returns c =
    let past = c.loop-id-test.false in
    c.loop-id.invariant ∙ ap (map (pair_of c.args.self.now.level c.args.self.now.layer c.args.b)) (take_all c.loop-id.id-index c.args.ids.now (omega arith))
    ∙ sym (some_pairs c.args.self.now.level c.args.self.now.layer c.args.b c.args.ids.now c.if-is_empty.ensures)
