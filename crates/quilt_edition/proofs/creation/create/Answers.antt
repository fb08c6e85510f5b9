use Rattle.std.proofs.Common.{sym, ◌∙◌, subst}
use Rattle.quilt_edition.specs.Creating.{HasMapSize}
use Rattle.quilt_edition.proofs.Creations.{either_way, on_ok, told_header_stopped, told_header, told_label, told_label_stopped, told_creates, told_created}
use Rattle.quilt_edition.proofs.creation.create.Goals as goal

pub returns-in_err-write_synced-clause-crash : goal.returns-in_err-write_synced-clause-crash
returns-in_err-write_synced-clause-crash g c =
    told_header_stopped c.args.level _ c.requires.size _ _ _ (g.met.D.Disk.is_consistent c.args.disk.now) c.requires.blank c.in_err-write_synced.ensures.failed

pub returns-clause-crash : goal.returns-clause-crash
returns-clause-crash g c =
    let ready = told_header c.args.level _ c.requires.size _ _ (g.met.D.Disk.is_consistent c.args.disk.now) c.requires.blank
    (rw c.header_page.ensures at c.in_ok-write_synced.ensures.wrote) in
    either_way _ _ _ _ c.write_synced-2.ensures.wrote c.write_synced-2.ensures.failed
    (λ wrote. told_creates c.args.level _ _ (told_label c.args.level c.requires.level.1 _ _ _ _ c.label_page.ensures ready wrote))
    (λ stopped. told_label_stopped c.args.level c.requires.level.1 _ _ _ _ ready stopped)

pub returns-clause-created : goal.returns-clause-created
returns-clause-created g c =
    let ready = told_header c.args.level _ c.requires.size _ _ (g.met.D.Disk.is_consistent c.args.disk.now) c.requires.blank
    (rw c.header_page.ensures at c.in_ok-write_synced.ensures.wrote) in
    on_ok _ _ _ c.write_synced-2.ensures.wrote (λ wrote.
    told_created c.args.level _
    (subst (λ size. HasMapSize size) (sym (c.write_synced-2.ensures.device.size ∙ c.in_ok-write_synced.ensures.device.size)) c.requires.size)
    _ _ c.requires.level (g.met.D.Disk.is_consistent c.write_synced-2.new.disk)
    (told_label c.args.level c.requires.level.1 _ _ _ _ c.label_page.ensures ready wrote))
