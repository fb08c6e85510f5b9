use Rattle.std.proofs.Common.{◌≡◌, ◌++◌, ◌∷◌, [], Option, Some, None, sym, ◌∙◌, ap, subst}
use Rattle.quilt_types.specs.declared.plane.Block.{Block}
use Rattle.quilt_types.specs.declared.plane.Colour.{Colour}
use Rattle.quilt_types.specs.declared.plane.Kind.{Kind}
use Rattle.quilt_types.specs.declared.plane.Kind.TheVariants as kinds
use Rattle.quilt_record.specs.declared.record.Record.{Record}
use Rattle.quilt_audit.specs.declared.run.Run.TheVariants as runs
use Rattle.quilt_line_audit.specs.Layers.{RefusesRecord}
use Rattle.quilt_audit.specs.Regions.{IsGoing}
use Rattle.quilt_audit.specs.Runs.{IsRun}
use Rattle.quilt_audit.proofs.runs.Runs.{by_region}
use Rattle.quilt_audit.proofs.runs.RegionRuns.{unread_refused}
use Rattle.quilt_audit.proofs.run.take_leaf.Goals as goal

pub returns-in_default-clause-no : goal.returns-in_default-clause-no
returns-in_default-clause-no c rs kind h =
    let r = c.args.r.now in
    by_region c.args.format c.args.level rs r.key.layer (λ (z : Kind). RefusesRecord c.args.format c.args.level rs r.key.layer z r) c.args.run.now
    (λ g. unread_refused c.args.format c.args.level c.requires.level.1 rs r c.requires.layer.0 c.requires.layer.1
    (λ b col small is. let clash : ◌≡◌ {A = Option (Block × Colour)} None (Some (b, col)) =
    sym c.in_default.is ∙ c.read_region.ensures.one r.key.layer b col small is in cc)) kind h

pub next-requires-clause-code : goal.next-requires-clause-code
next-requires-clause-code c = ap (λ (q : Record). q.key.code) (c.in-Some.ensures.some.written [])

pub returns-in_default-next-clause-no : goal.returns-in_default-next-clause-no
returns-in_default-next-clause-no c rs kind h =
    let r = c.args.r.now in
    by_region c.args.format c.args.level rs r.key.layer (λ (z : Kind). RefusesRecord c.args.format c.args.level rs r.key.layer z r) c.args.run.now
    (λ g. subst (λ (q : Record). RefusesRecord c.args.format c.args.level rs r.key.layer kinds.Region q) (sym (c.in-Some.ensures.some.written []))
    (c.in_default-next.ensures.none c.args.format r.key.layer rs c.requires.layer.0 g)) kind h

pub returns-clause-yes : goal.returns-clause-yes
returns-clause-yes c rs kind h =
    let r = c.args.r.now in
    let next = c.in-Some-next.next in
    by_region c.args.format c.args.level rs r.key.layer
    (λ (z : Kind). IsRun c.args.format c.args.level (rs ++ r ∷ []) r.key.layer z (runs.Region next)) c.args.run.now
    (λ g. subst (λ (q : Record). IsGoing c.args.format c.args.level (rs ++ q ∷ []) r.key.layer next.end next.recent) (sym (c.in-Some.ensures.some.written []))
    (c.in-Some-next.ensures.some c.args.format r.key.layer rs c.requires.layer.0 c.in-Some.ensures.colour g)) kind h
