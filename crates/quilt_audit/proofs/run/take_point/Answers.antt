use Rattle.std.proofs.Common.{◌≡◌, ◌++◌, ◌∷◌, [], Option, Some, None, sym, ◌∙◌, ap, subst}
use Rattle.quilt_types.specs.declared.plane.Block.{Block}
use Rattle.quilt_types.specs.declared.plane.Point.{Point}
use Rattle.quilt_types.specs.declared.plane.Kind.{Kind}
use Rattle.quilt_types.specs.declared.plane.Kind.TheVariants as kinds
use Rattle.quilt_record.specs.declared.record.Record.{Record}
use Rattle.quilt_audit.specs.declared.run.Run.TheVariants as runs
use Rattle.quilt_line_audit.specs.Layers.{RefusesRecord}
use Rattle.quilt_audit.specs.Points.{IsPointRun}
use Rattle.quilt_audit.specs.Runs.{IsRun}
use Rattle.quilt_audit.proofs.runs.Runs.{by_points}
use Rattle.quilt_audit.proofs.runs.PointRuns.{unread_refused, point_code}
use Rattle.quilt_audit.proofs.run.take_point.Goals as goal

pub returns-in_default-clause-no : goal.returns-in_default-clause-no
returns-in_default-clause-no c form rs kind h =
    let r = c.args.r.now in
    by_points form c.args.level rs r.key.layer (λ (z : Kind). RefusesRecord form c.args.level rs r.key.layer z r) c.args.run.now
    (λ g. unread_refused form c.args.level c.requires.level.1 rs c.args.run.now.bucket r c.requires.layer.0 c.requires.layer.1
    (λ b held is. let clash : ◌≡◌ {A = Option (Block × Option Point)} None (Some (b, held)) =
    sym c.in_default.is ∙ c.read_point.ensures.one r.key.layer b held is in cc)) kind h

pub next-requires-clause-code : goal.next-requires-clause-code
next-requires-clause-code c = ap (λ (q : Record). q.key.code) (c.in-Some.ensures.some.written [])
    ∙ point_code c.args.level c.args.run.now.bucket c.args.r.now.key.layer c.in-Some.block c.in-Some.held

pub returns-in_default-next-clause-no : goal.returns-in_default-next-clause-no
returns-in_default-next-clause-no c form rs kind h =
    let r = c.args.r.now in
    by_points form c.args.level rs r.key.layer (λ (z : Kind). RefusesRecord form c.args.level rs r.key.layer z r) c.args.run.now
    (λ g. subst (λ (q : Record). RefusesRecord form c.args.level rs r.key.layer (kinds.Points c.args.run.now.bucket) q) (sym (c.in-Some.ensures.some.written []))
    (c.in_default-next.ensures.none form r.key.layer rs c.requires.layer.0 g)) kind h

pub returns-clause-yes : goal.returns-clause-yes
returns-clause-yes c form rs kind h =
    let r = c.args.r.now in
    let next = c.in-Some-next.next in
    by_points form c.args.level rs r.key.layer (λ (z : Kind). IsRun form c.args.level (rs ++ r ∷ []) r.key.layer z (runs.Points next)) c.args.run.now
    (λ g. subst (λ (q : Record). IsPointRun form c.args.level (rs ++ q ∷ []) r.key.layer c.args.run.now.bucket next) (sym (c.in-Some.ensures.some.written []))
    (c.in-Some-next.ensures.some form r.key.layer rs c.requires.layer.0 g)) kind h
