use Rattle.std.proofs.Common.{Ok, ◌∙◌, sym, ap, subst, arith}
use Rattle.quilt_world.specs.Causes.{Rose}
use Rattle.quilt_world.specs.Doors.{attached}
use Rattle.quilt_edition.specs.Books as books
use Rattle.quilt_top.specs.declared.orders.Source.{Source}
use Rattle.quilt_top.specs.declared.run.End.{End}
use Rattle.quilt_top.specs.Headline.{WhereTold}
use Rattle.quilt_top.specs.Openings.{IsFirstState}
use Rattle.quilt_top.proofs.Promises.{Promise, attach_failed, file_missing, open_stopped, found_no_map, ran, tried}
use Rattle.quilt_top.proofs.InTurn.{More, unopened_more, failed_shut, missing_shut, stopped_more, no_map_more, ran_more, tried_more}
use Rattle.quilt_top.proofs.openings.Surveys.{first_level}
use Rattle.quilt_top.proofs.file_run.run_file.Goals as goal

pub returns-in_default-clause-promises : goal.returns-in_default-clause-promises
returns-in_default-clause-promises g c =
    attach_failed c.args.file.source c.args.file.path.now c.args.file.pool _ _ _ c.attach.result _ _ c.attach.ensures.door
    c.in_default.not-Ok c.attach.ensures.tale

pub returns-in-Missing-clause-promises : goal.returns-in-Missing-clause-promises
returns-in-Missing-clause-promises g c =
    let missing = c.in-Ok.ensures.door ∙ ap (λ a. attached (Ok a)) c.in-Missing.is in
    file_missing c.args.file.source c.args.file.path.now c.args.file.pool _ _ _ _ _ missing c.attach.ensures.tale

pub returns-in-Input-clause-promises : goal.returns-in-Input-clause-promises
returns-in-Input-clause-promises g c =
    let ready = c.in-Ok.ensures.door ∙ ap (λ a. attached (Ok a)) c.in-Ready.is in
    let rose = Rose (g.W.Disk.faults c.args.world) (g.W.Disk.faults c.run_session.result.1) in
    let now = g.W.Disk.door c.run_session.result.1 in
    let end = c.run_session.result.0 in
    subst (λ (source : Source). WhereTold (Promise source c.args.file.path.now c.args.file.pool rose now end) (g.W.Disk.told c.args.world)
    (g.W.Disk.told c.run_session.result.1)) (sym c.in-Input.is)
    (ran c.args.file.path.now c.args.file.pool rose _ now ready (c.run_session.ensures.door ∙ c.in-Map.ensures.door) (IsFirstState c.in-Map.book.value c.in-Map.catalog) (books.last_of c.in-Map.book.value).level (first_level c.in-Map.book.value c.in-Map.catalog) end _ _ _ _
    (λ e. let risen = c.run_session.ensures.device e in omega (arith, c.attach.ensures.cause.later, c.in-Map.ensures.later, risen))
    c.run_session.ensures.sound c.attach.ensures.tale c.in-Map.ensures.keeps c.in-Map.ensures.finds c.run_session.ensures.runs)

pub returns-in-Trial-clause-promises : goal.returns-in-Trial-clause-promises
returns-in-Trial-clause-promises g c =
    let ready = c.in-Ok.ensures.door ∙ ap (λ a. attached (Ok a)) c.in-Ready.is in
    let rose = Rose (g.W.Disk.faults c.args.world) (g.W.Disk.faults c.try_session.result.1) in
    let now = g.W.Disk.door c.try_session.result.1 in
    let end = c.try_session.result.0 in
    subst (λ (source : Source). WhereTold (Promise source c.args.file.path.now c.args.file.pool rose now end) (g.W.Disk.told c.args.world)
    (g.W.Disk.told c.try_session.result.1)) (sym c.in-Trial.is)
    (tried c.args.file.path.now c.args.file.pool rose _ now ready (c.try_session.ensures.door ∙ c.in-Map.ensures.door) (IsFirstState c.in-Map.book.value c.in-Map.catalog) (books.last_of c.in-Map.book.value).level (first_level c.in-Map.book.value c.in-Map.catalog) _ _ end _ _ _ _
    (λ e. let risen = c.try_session.ensures.device e in omega (arith, c.attach.ensures.cause.later, c.in-Map.ensures.later, risen))
    c.try_session.ensures.short c.try_session.ensures.sound c.attach.ensures.tale c.in-Map.ensures.keeps c.in-Map.ensures.finds c.try_session.ensures.tries)

pub returns-in-NotMap-clause-promises : goal.returns-in-NotMap-clause-promises
returns-in-NotMap-clause-promises g c =
    let ready = c.in-Ok.ensures.door ∙ ap (λ a. attached (Ok a)) c.in-Ready.is in
    found_no_map c.args.file.source c.args.file.path.now c.args.file.pool _ _ _ ready c.in-NotMap.ensures.door _ _ _ c.attach.ensures.tale
    c.in-NotMap.ensures.keeps c.in-NotMap.ensures.finds

pub returns-in-Stopped-clause-promises : goal.returns-in-Stopped-clause-promises
returns-in-Stopped-clause-promises g c =
    let ready = c.in-Ok.ensures.door ∙ ap (λ a. attached (Ok a)) c.in-Ready.is in
    let rose = Rose (g.W.Disk.faults c.args.world) (g.W.Disk.faults c.in-Stopped.world) in
    let now = g.W.Disk.door c.in-Stopped.world in
    subst (λ (e : End). WhereTold (Promise c.args.file.source c.args.file.path.now c.args.file.pool rose now e) (g.W.Disk.told c.args.world)
    (g.W.Disk.told c.in-Stopped.world)) (sym c.of_stop.ensures)
    (open_stopped c.args.file.source c.args.file.path.now c.args.file.pool rose _ now ready c.in-Stopped.ensures.door c.in-Stopped.stop _ _ _
    (λ e. let risen = c.in-Stopped.ensures.cause e in omega (arith, c.attach.ensures.cause.later, risen))
    c.attach.ensures.tale c.in-Stopped.ensures.keeps c.in-Stopped.ensures.finds)

-- ---- beyond the headline

pub returns-in_default-clause-more : goal.returns-in_default-clause-more
returns-in_default-clause-more g c =
    unopened_more c.args.file.source c.args.file.path.now c.args.file.pool _ _ _ _
    (failed_shut _ c.attach.result c.attach.ensures.door c.in_default.not-Ok) c.attach.ensures.tale

pub returns-in-Missing-clause-more : goal.returns-in-Missing-clause-more
returns-in-Missing-clause-more g c =
    unopened_more c.args.file.source c.args.file.path.now c.args.file.pool _ _ _ _
    (missing_shut _ (c.in-Ok.ensures.door ∙ ap (λ a. attached (Ok a)) c.in-Missing.is)) c.attach.ensures.tale

pub returns-in-Input-clause-more : goal.returns-in-Input-clause-more
returns-in-Input-clause-more g c =
    let now = g.W.Disk.door c.run_session.result.1 in
    let end = c.run_session.result.0 in
    subst (λ (source : Source). WhereTold (More source c.args.file.path.now c.args.file.pool now end) (g.W.Disk.told c.args.world)
    (g.W.Disk.told c.run_session.result.1)) (sym c.in-Input.is)
    (ran_more c.args.file.path.now _ c.args.file.pool now (IsFirstState c.in-Map.book.value c.in-Map.catalog) (books.last_of c.in-Map.book.value).level (first_level c.in-Map.book.value c.in-Map.catalog) end _ _ _ _ c.attach.ensures.tale c.in-Map.ensures.keeps
    c.in-Map.ensures.finds c.run_session.ensures.runs)

pub returns-in-Trial-clause-more : goal.returns-in-Trial-clause-more
returns-in-Trial-clause-more g c =
    let now = g.W.Disk.door c.try_session.result.1 in
    let end = c.try_session.result.0 in
    subst (λ (source : Source). WhereTold (More source c.args.file.path.now c.args.file.pool now end) (g.W.Disk.told c.args.world)
    (g.W.Disk.told c.try_session.result.1)) (sym c.in-Trial.is)
    (tried_more c.args.file.path.now _ c.args.file.pool now (IsFirstState c.in-Map.book.value c.in-Map.catalog) (books.last_of c.in-Map.book.value).level (first_level c.in-Map.book.value c.in-Map.catalog) _ _ end _ _ _ _ c.attach.ensures.tale c.in-Map.ensures.keeps
    c.in-Map.ensures.finds c.try_session.ensures.tries)

pub returns-in-NotMap-clause-more : goal.returns-in-NotMap-clause-more
returns-in-NotMap-clause-more g c =
    no_map_more c.args.file.path.now _ c.args.file.source c.args.file.pool _ _ _ _ c.attach.ensures.tale c.in-NotMap.ensures.keeps c.in-NotMap.ensures.finds

pub returns-in-Stopped-clause-more : goal.returns-in-Stopped-clause-more
returns-in-Stopped-clause-more g c =
    let now = g.W.Disk.door c.in-Stopped.world in
    subst (λ (e : End). WhereTold (More c.args.file.source c.args.file.path.now c.args.file.pool now e) (g.W.Disk.told c.args.world)
    (g.W.Disk.told c.in-Stopped.world)) (sym c.of_stop.ensures)
    (stopped_more c.args.file.path.now _ c.args.file.source c.args.file.pool now c.in-Stopped.stop _ _ _ c.attach.ensures.tale c.in-Stopped.ensures.keeps
    c.in-Stopped.ensures.finds)
