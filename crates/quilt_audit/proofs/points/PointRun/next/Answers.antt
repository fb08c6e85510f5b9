use Rattle.std.proofs.Common.{ℕ, sym, ◌∙◌, subst, arith}
use Rattle.quilt_loc.proofs.Blocks.{IsBlock-up}
use Rattle.quilt_audit.specs.Points.{IsBlockBegun}
use Rattle.quilt_audit.proofs.runs.PointRuns.{outside_refused, more_refused, code_refused, enough_refused, more_taken, opened_taken}
use Rattle.quilt_audit.proofs.points.PointRun.next.Goals.{then-code-self-via-then-code-self, then-code-self-via-else-code-self+then-from-self}
use Rattle.quilt_line_audit.proofs.Descents.{some_map, none_map}
use Rattle.quilt_audit.proofs.points.PointRun.next.Goals as goal

pub is_in-requires : goal.is_in-requires
is_in-requires c = IsBlock-up c.args.level 12 c.args.block c.requires.level.1 c.requires.block

pub returns-then-not-is_in-clause-none : goal.returns-then-not-is_in-clause-none
returns-then-not-is_in-clause-none c form layer rs some h =
    outside_refused form c.args.level c.requires.level.0 c.requires.level.1 c.args.self.now layer some rs h c.args.block c.requires.block
    c.args.held c.requires.fits
    (c.is_in.ensures.no c.if-not-is_in.true)

pub returns-then-is_same-clause-some : goal.returns-then-is_same-clause-some
returns-then-is_same-clause-some c =
    some_map c.more.result
    (λ next m form layer rs some h.
    more_taken form c.args.level c.requires.level.0 c.requires.level.1 c.args.self.now layer some rs h c.args.block c.requires.block c.args.held c.requires.fits
    (c.is_in.ensures.yes c.if-not-is_in.false) (c.is_same.ensures.yes c.if-is_same.true) next m.0 m.1 m.2 m.3)
    c.more.ensures.some

pub returns-then-is_same-clause-none : goal.returns-then-is_same-clause-none
returns-then-is_same-clause-none c =
    none_map c.more.result
    (λ m form layer rs some h.
    more_refused form c.args.level c.requires.level.0 c.requires.level.1 c.args.self.now layer some rs h c.args.block c.requires.block
    c.args.held c.requires.fits
    (c.is_same.ensures.yes c.if-is_same.true) m)
    c.more.ensures.none

pub returns-then-code-self-clause-none : goal.returns-then-code-self-clause-none
returns-then-code-self-clause-none c form layer rs some h =
    elim c.then-code-self.branch [
      | then-code-self-via-then-code-self w ↦
          code_refused form c.args.level c.requires.level.0 c.requires.level.1 c.args.self.now layer some rs h c.args.block c.requires.block
          c.args.held c.requires.fits
          (c.is_same.ensures.no c.if-is_same.false) (λ e. w.if-code-self.true (c.requires.code ∙ e))
      | then-code-self-via-else-code-self+then-from-self w ↦
          enough_refused form c.args.level c.requires.level.0 c.requires.level.1 c.args.self.now layer some rs h c.args.block c.requires.block
          c.args.held c.requires.fits
          (sym c.requires.code ∙ w.if-code-self.false) (let e = w.from.ensures in let lt = w.if-from-self.true in omega arith)
    ]

pub returns-clause-some : goal.returns-clause-some
returns-clause-some c form layer rs some h =
    opened_taken form c.args.level c.requires.level.0 c.requires.level.1 c.args.self.now layer some rs h c.args.block c.requires.block
    c.args.held c.requires.fits
    (c.is_in.ensures.yes c.if-not-is_in.false) (sym c.requires.code ∙ c.if-code-self.false) (let e = c.from.ensures in
    let ge = c.if-from-self.false in omega arith)
    c.opened.result (subst (λ (k : ℕ). IsBlockBegun c.args.level c.args.self.now c.args.block k c.opened.result) c.count_of.ensures c.opened.ensures)
