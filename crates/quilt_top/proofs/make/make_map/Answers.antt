use Rattle.std.proofs.Common.{ℕ, ◌+◌, ◌*◌, List, Ok, ◌∙◌, ap, subst, arith}
use Rattle.quilt_world.specs.Causes.{Rose}
use Rattle.quilt_world.specs.Doors.{made}
use Rattle.quilt_world.specs.Tale.{Goes}
use Rattle.quilt_world.specs.Added.{AddsOnly, is_of_text}
use Rattle.quilt_world.proofs.Told.{goes_now, goes_and}
use Rattle.quilt_top.specs.Headline.{new_line}
use Rattle.quilt_edition.specs.Creating.{IsBlank}
use Rattle.quilt_top.specs.Saying.{Says, SaysPrefix}
use Rattle.quilt_top.proofs.openings.Making.{made_blank, create_stopped, put_stopped, all_done, where_not_ok}
use Rattle.quilt_top.proofs.InTurn.{making_more, made_more}
use Rattle.quilt_top.proofs.make.make_map.Goals as goal

pub create-requires-clause-blank : goal.create-requires-clause-blank
create-requires-clause-blank g c =
    let is = c.in-Ok.ensures.door ∙ ap (λ m. made (Ok m)) c.in-Ready.is in
    goes_now _ IsBlank _ _ (rw c.file_pages.ensures at c.make.ensures.tale) (λ t u makes. made_blank c.args.path.now (3 + 2 * c.args.pages) _ t u is makes)

pub returns-in_default-create-clause-promises : goal.returns-in_default-create-clause-promises
returns-in_default-create-clause-promises g c =
    let is = c.in-Ok.ensures.door ∙ ap (λ m. made (Ok m)) c.in-Ready.is in
    let rose : Rose _ _ = where_not_ok _ _ c.create.ensures.cause.failed c.in_default-create.not-Ok in
    create_stopped c.args.path.now c.args.pages c.args.level _ is _ _ c.create.ensures.device.door (omega (arith, c.make.ensures.cause.later, rose)) _ _ _
    (rw c.file_pages.ensures at c.make.ensures.tale) c.create.ensures.crash

pub returns-in_default-put_all-clause-promises : goal.returns-in_default-put_all-clause-promises
returns-in_default-put_all-clause-promises g c =
    let is = c.in-Ok.ensures.door ∙ ap (λ m. made (Ok m)) c.in-Ready.is in
    let rose : Rose _ _ = where_not_ok _ _ c.put_all.ensures.cause.failed c.in_default-put_all.not-Ok in
    let part = where_not_ok _ _ c.put_all.ensures.part c.in_default-put_all.not-Ok in
    let says = subst (λ (line : List ℕ). Goes (SaysPrefix line) (g.W.Disk.told c.create.new.disk) (g.W.Disk.told c.put_all.new.world)) c.requires.line part in
    let both = goes_and (SaysPrefix (new_line c.args.pages c.args.level)) (AddsOnly is_of_text) _ _ says c.put_all.ensures.text in
    put_stopped c.args.path.now c.args.pages c.args.level _ is _ _ (c.put_all.ensures.door ∙ c.create.ensures.device.door)
    (omega (arith, c.make.ensures.cause.later, c.create.ensures.cause.later, rose)) _ _ _ _
    (rw c.file_pages.ensures at c.make.ensures.tale) c.create.ensures.crash c.in-Ok-create.ensures.created both

pub returns-clause-promises : goal.returns-clause-promises
returns-clause-promises g c =
    let is = c.in-Ok.ensures.door ∙ ap (λ m. made (Ok m)) c.in-Ready.is in
    let says = subst (λ (line : List ℕ). Goes (Says line) (g.W.Disk.told c.create.new.disk) (g.W.Disk.told c.put_all.new.world))
    c.requires.line c.in-Ok-put_all.ensures.said in
    let both = goes_and (Says (new_line c.args.pages c.args.level)) (AddsOnly is_of_text) _ _ says c.put_all.ensures.text in
    all_done c.args.path.now c.args.pages c.args.level _ is _ _ _ (c.put_all.ensures.door ∙ c.create.ensures.device.door) _ _ _ _
    (rw c.file_pages.ensures at c.make.ensures.tale) c.create.ensures.crash c.in-Ok-create.ensures.created both (g.met.W.Disk.is_consistent c.put_all.new.world)

-- ---- beyond the headline

pub returns-in_default-clause-more : goal.returns-in_default-clause-more
returns-in_default-clause-more g c = making_more c.args.path.now c.args.pages c.args.level _ _ _ _ _ (λ e. cc) c.make.ensures.tale

pub returns-in-Taken-clause-more : goal.returns-in-Taken-clause-more
returns-in-Taken-clause-more g c = making_more c.args.path.now c.args.pages c.args.level _ _ _ _ _ (λ e. cc) c.make.ensures.tale

pub returns-in_default-create-clause-more : goal.returns-in_default-create-clause-more
returns-in_default-create-clause-more g c =
    let is = c.in-Ok.ensures.door ∙ ap (λ m. made (Ok m)) c.in-Ready.is in
    made_more c.args.path.now c.args.pages c.args.level _ _ _ _ _ (c.create.ensures.device.door ∙ is) (λ e. cc)
    (returns-in_default-create-clause-promises g c)

pub returns-in_default-put_all-clause-more : goal.returns-in_default-put_all-clause-more
returns-in_default-put_all-clause-more g c =
    let is = c.in-Ok.ensures.door ∙ ap (λ m. made (Ok m)) c.in-Ready.is in
    made_more c.args.path.now c.args.pages c.args.level _ _ _ _ _ (c.put_all.ensures.door ∙ c.create.ensures.device.door ∙ is) (λ e. cc)
    (returns-in_default-put_all-clause-promises g c)

pub returns-clause-more : goal.returns-clause-more
returns-clause-more g c =
    let is = c.in-Ok.ensures.door ∙ ap (λ m. made (Ok m)) c.in-Ready.is in
    made_more c.args.path.now c.args.pages c.args.level _ _ _ _ _ (c.put_all.ensures.door ∙ c.create.ensures.device.door ∙ is) (λ e. cc)
    (returns-clause-promises g c)
