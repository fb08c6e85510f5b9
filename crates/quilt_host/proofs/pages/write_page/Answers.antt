use Rattle.std.proofs.Common.{◌≡◌, ◌+◌, Err, arith, rules, ap}
use Rattle.std.proofs.lemmas.Grind.{common_steps}
use Rattle.quilt_host.proofs.Pieces.{room_of, writing_more, writing_all, writing_lost, writing_stops}
use Rattle.quilt_host.proofs.StoryLaws.{steps_then, steps_to, steps_weaker}
use Rattle.quilt_host.proofs.pages.write_page.Goals as goal
use Rattle.quilt_host.proofs.pages.write_page.Goals.{in-Ok+else-done-page, in-Err-Interrupted}

pub returns-in-Ok-eq0-clause-tore : goal.returns-in-Ok-eq0-clause-tore
returns-in-Ok-eq0-clause-tore g c =
    let same : g.S.System.told c.write_at.new.self ≡ g.S.System.told c.pieces.system = first_of (search rules, grind (arith, common_steps)) in
    steps_to _ _ _ _ same
    (steps_weaker _ _ _ _ c.pieces.invariant.wrote
    (λ t u w. writing_stops c.args.i c.args.page.now c.requires c.pieces.done c.pieces.invariant.few t u w))

pub returns-then-done-page-clause-wrote : goal.returns-then-done-page-clause-wrote
returns-then-done-page-clause-wrote g c =
    steps_then _ _ _ _ _ _ c.pieces.invariant.wrote (c.in-Ok.ensures.wrote (omega arith)) (λ t u v w p.
    writing_all c.args.i c.args.page.now c.requires (c.pieces.done + c.in-Ok.n) (omega arith) t v
    (writing_more c.args.i c.args.page.now c.requires c.pieces.done c.in-Ok.n _ c.pieces.invariant.few (omega arith) c.in-Ok.ensures.count t u v w p
    (omega (arith, c.from-start.ensures))))

pub returns-in-Err : goal.returns-in-Err
returns-in-Err g c = record {
  wrote = tt;
  tore = steps_then _ _ _ _ _ _ c.pieces.invariant.wrote c.in-Err.ensures.lost (λ t u v w p.
      writing_lost c.args.i c.args.page.now c.requires c.pieces.done _ c.pieces.invariant.few t u v w p (omega (arith, c.from-start.ensures)));
}

pub returns-clause-tore : goal.returns-clause-tore
returns-clause-tore g c =
    steps_weaker _ _ _ _ c.pieces.invariant.wrote
    (λ t u w. writing_stops c.args.i c.args.page.now c.requires c.pieces.done c.pieces.invariant.few t u w)

pub pieces-preserved : goal.pieces-preserved
pieces-preserved g c = elim c.match-write_at.branch [
  | in-Ok+else-done-page w ↦ rw w.done-is (record {
    few = omega (arith, room_of c.args.page.now c.pieces.done, w.in-Ok.ensures.count, w.if-done-page.false);
    wrote = steps_then _ _ _ _ _ _ c.pieces.invariant.wrote (w.in-Ok.ensures.wrote (omega arith)) (λ t u v h p.
        writing_more c.args.i c.args.page.now c.requires c.pieces.done w.in-Ok.n _ c.pieces.invariant.few (omega arith) w.in-Ok.ensures.count t u v h p
        (omega (arith, c.from-start.ensures)));
  })
  | in-Err-Interrupted w ↦ rw w.done-is (record {
    few = c.pieces.invariant.few;
    wrote = steps_to _ _ _ _ (w.in-Err-Interrupted.ensures.interrupted (ap (λ f. Err f) w.in-Err-Interrupted.field-0-is)) c.pieces.invariant.wrote;
  })
]
