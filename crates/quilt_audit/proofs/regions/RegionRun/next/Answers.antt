use Rattle.std.proofs.Common.{sym, ◌∙◌}
use Rattle.quilt_loc.proofs.Blocks.{IsBlock-up}
use Rattle.quilt_audit.specs.Regions.{nothing}
use Rattle.quilt_audit.proofs.runs.RegionRuns.{code_refused, siblings_refused, leaf_taken}
use Rattle.quilt_audit.proofs.regions.RegionRun.next.Goals as goal

pub returns-then-code-self-clause-none : goal.returns-then-code-self-clause-none
returns-then-code-self-clause-none c form layer rs some g =
    let s = c.args.self.now in
    code_refused form c.args.level c.requires.level.0 c.requires.level.1 layer some rs s.end s.recent g c.args.leaf nothing c.requires.block
    (λ e. c.if-code-self.true (c.requires.code ∙ e))

pub returns-then-are_siblings-clause-none : goal.returns-then-are_siblings-clause-none
returns-then-are_siblings-clause-none c form layer rs some g =
    let s = c.args.self.now in
    let w = c.are_siblings.ensures.yes c.if-are_siblings.true in
    siblings_refused form c.args.level c.requires.level.0 c.requires.level.1 layer some rs s.end s.recent g c.args.leaf nothing c.requires.block w.0 w.1

pub end_from-requires-clause-block : goal.end_from-requires-clause-block
end_from-requires-clause-block c = IsBlock-up c.args.level 12 c.args.leaf.block c.requires.level.1 c.requires.block

pub returns-clause-some : goal.returns-clause-some
returns-clause-some c form layer rs some small g =
    let s = c.args.self.now in
    leaf_taken form c.args.level c.requires.level.0 c.requires.level.1 layer some rs s.end s.recent g c.args.leaf nothing c.requires.block
    (sym c.requires.code ∙ c.if-code-self.false) small
    c.end_from.result c.end_from.ensures (c.are_siblings.ensures.no c.if-are_siblings.false)
