use Rattle.std.proofs.Common.{◌≡◌, [], ◌∷◌, ◌++◌, rules, sym, subst, refl}
use Rattle.std.proofs.lemmas.List.{append-nil}
use Rattle.quilt_world.specs.declared.event.Event.TheVariants.{Took}
use Rattle.quilt_desk.specs.Reads.{Reads}
use Rattle.quilt_desk.proofs.DeskLaws.{open_not_shut, put_bytes-push, whole-push}
use Rattle.quilt_desk.proofs.ReadLaws.{reads_took}
use Rattle.quilt_desk.proofs.desk.world.DeskWorld.take.Goals as goal

pub invariant_of-self-2 : goal.invariant_of-self-2
invariant_of-self-2 c =
    let log : c.add_event.new.log.items ≡ c.args.self.now.log.items ++ Took c.push.new.self ∷ [] = search rules in
    record {
      reading = subst (λ l. Reads c.args.self.now.start l c.args.self.now.current) (sym log) (reads_took _ _ _ _ c.args.self.now.reading);
      unopened = λ shut. open_not_shut _ _ c.requires.open shut;
      shelved = c.args.self.now.shelved;
      no_pages = c.args.self.now.no_pages;
      put = rw (log, put_bytes-push c.args.self.now.log.items (Took c.push.new.self), append-nil) c.args.self.now.put;
      some = c.args.self.now.some;
      whole = rw log (whole-push c.args.self.now.log.items (Took c.push.new.self) c.args.self.now.whole refl);
    }
