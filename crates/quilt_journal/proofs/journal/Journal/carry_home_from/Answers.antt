use Rattle.std.proofs.Common.{◌≡◌, [], ◌∷◌, subst, sym}
use Rattle.std.specs.Option.{IfSome}
use Rattle.quilt_world.specs.Stops.{Since}
use Rattle.quilt_world.specs.Tale.{Adds, Goes}
use Rattle.quilt_world.specs.declared.event.Event.TheVariants.{Synced}
use Rattle.quilt_world.proofs.StopLaws.{since_nothing}
use Rattle.quilt_world.proofs.Told.{goes_then, goes_and, goes_weaker}
use Rattle.quilt_journal.specs.Changed.{View}
use Rattle.quilt_journal.specs.Copying.{Copying}
use Rattle.quilt_journal.specs.Kept.{HasHome, IsCarried, HoldsWork, work}
use Rattle.quilt_journal.proofs.CarrySteps.{Carried, carried_synced}
use Rattle.quilt_journal.proofs.Views.{seen_size}
use Rattle.quilt_journal.proofs.journal.Journal.carry_home_from.Goals as goal

pub copy_slots-requires-clause-held : goal.copy_slots-requires-clause-held
copy_slots-requires-clause-held g c =
    subst (λ (v : View). IfSome (g.D.Disk.told c.args.disk.now) (HoldsWork v.pages v.changed (g.H.Held.bytes c.args.held.now))) (sym c.self.view_is)
    c.requires.held

pub returns-in_err-settle-clause-crash : goal.returns-in_err-settle-clause-crash
returns-in_err-settle-clause-crash g c =
    let crash =
    subst (λ (v : View). Goes (λ o n. Since o n (HasHome v.pages (work o v.pages v.changed))) (g.D.Disk.told c.args.disk.now)
    (g.D.Disk.told c.copy_slots.new.disk)) c.self.view_is c.copy_slots.ensures.crash in
    goes_then _ _ _ _ _ _ crash c.in_err-settle.ensures.nothing (λ o m n since none. since_nothing o m n _ since none)

pub returns-clause-writes : goal.returns-clause-writes
returns-clause-writes g c =
    let old = c.args.self.now in
    let size = seen_size c.self.inside.pages c.self.inside.changed c.self.inside.state old c.self.view_is in
    let copied = subst (λ (v : View). Goes (Copying v.pages v.changed v.pages) (g.D.Disk.told c.args.disk.now) (g.D.Disk.told c.copy_slots.new.disk))
    c.self.view_is c.in_ok-copy_slots.ensures.copied in
    goes_then _ _ _ _ _ _ copied (goes_and _ _ _ _ c.in_ok-settle.ensures.synced c.settle.ensures.counts)
    (λ o m n h s. (carried_synced old.pages old.changed o m n size h s.0 s.1.0).writing)

pub returns-clause-counts : goal.returns-clause-counts
returns-clause-counts g c =
    let old = c.args.self.now in
    let size = seen_size c.self.inside.pages c.self.inside.changed c.self.inside.state old c.self.view_is in
    let copied = subst (λ (v : View). Goes (Copying v.pages v.changed v.pages) (g.D.Disk.told c.args.disk.now) (g.D.Disk.told c.copy_slots.new.disk))
    c.self.view_is c.in_ok-copy_slots.ensures.copied in
    goes_then _ _ _ _ _ _ copied (goes_and _ _ _ _ c.in_ok-settle.ensures.synced c.settle.ensures.counts)
    (λ o m n h s. (carried_synced old.pages old.changed o m n size h s.0 s.1.0).writes)

pub returns-clause-kept : goal.returns-clause-kept
returns-clause-kept g c =
    let old = c.args.self.now in
    let size = seen_size c.self.inside.pages c.self.inside.changed c.self.inside.state old c.self.view_is in
    let copied = subst (λ (v : View). Goes (Copying v.pages v.changed v.pages) (g.D.Disk.told c.args.disk.now) (g.D.Disk.told c.copy_slots.new.disk))
    c.self.view_is c.in_ok-copy_slots.ensures.copied in
    let synced = goes_and _ _ _ _ c.in_ok-settle.ensures.synced c.settle.ensures.counts in
    let done = goes_then _ (λ m n. Adds (Synced ∷ []) m n × ((n.writes ≡ m.writes) × (n.reads ≡ m.reads)))
    (Carried old.pages old.changed) _ _ _ copied synced (λ o m n h s. carried_synced old.pages old.changed o m n size h s.0 s.1.0) in
    goes_weaker (Carried old.pages old.changed)
    (λ o n. IsCarried old.pages old.changed n × (work n old.pages old.changed ≡ work o old.pages old.changed)) _ _ done (λ o n is. (is.is_carried, is.same))

pub returns-clause-crash : goal.returns-clause-crash
returns-clause-crash g c =
    let old = c.args.self.now in
    let size = seen_size c.self.inside.pages c.self.inside.changed c.self.inside.state old c.self.view_is in
    let copied = subst (λ (v : View). Goes (Copying v.pages v.changed v.pages) (g.D.Disk.told c.args.disk.now) (g.D.Disk.told c.copy_slots.new.disk))
    c.self.view_is c.in_ok-copy_slots.ensures.copied in
    goes_then _ _ _ _ _ _ copied (goes_and _ _ _ _ c.in_ok-settle.ensures.synced c.settle.ensures.counts)
    (λ o m n h s. (carried_synced old.pages old.changed o m n size h s.0 s.1.0).since)
