use Rattle.std.proofs.Common.{◌≡◌, [], ◌∷◌, ◌++◌, rules, sym, subst, refl}
use Rattle.std.proofs.lemmas.List.{append-nil}
use Rattle.quilt_world.specs.declared.event.Event.TheVariants.{Synced}
use Rattle.quilt_desk.specs.Reads.{Reads}
use Rattle.quilt_desk.proofs.DeskLaws.{not_shut, put_bytes-push, whole-push}
use Rattle.quilt_desk.proofs.ReadLaws.{reads_synced}
use Rattle.quilt_desk.proofs.desk.world.DeskDisk.sync.Goals as goal

pub invariant_of-self-else-is_err : goal.invariant_of-self-else-is_err
invariant_of-self-else-is_err c =
    let log : c.add_event.new.log.items ≡ c.args.self.now.log.items ++ Synced ∷ [] = search rules in
    record {
      reading = subst (λ l. Reads c.args.self.now.start l c.args.self.now.current) (sym log) (reads_synced _ _ _ c.args.self.now.reading);
      unopened = λ shut. not_shut _ _ _ c.args.self.now.no_pages c.requires shut;
      shelved = c.args.self.now.shelved;
      no_pages = c.args.self.now.no_pages;
      put = rw (log, put_bytes-push c.args.self.now.log.items Synced, append-nil) c.args.self.now.put;
      some = c.args.self.now.some;
      whole = rw log (whole-push c.args.self.now.log.items Synced c.args.self.now.whole refl);
    }
