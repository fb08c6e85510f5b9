use Rattle.std.proofs.Common.{length, ◌≡◌, [], ◌∷◌, ◌++◌, rules, arith, refl}
use Rattle.std.proofs.lemmas.Bool.{eq-eqb}
use Rattle.std.proofs.lemmas.List.{append-nil}
use Rattle.quilt_world.specs.declared.event.Event.TheVariants.{Wrote, Tore}
use Rattle.quilt_desk.proofs.DeskLaws.{not_shut, put_bytes-push, whole-push}
use Rattle.quilt_desk.proofs.ReadLaws.{reads_torn, reads_wrote}
use Rattle.quilt_desk.proofs.desk.world.DeskDisk.write_page.Goals as goal

pub invariant_of-self : goal.invariant_of-self
invariant_of-self c =
    let log : c.push.new.self.items ≡ c.args.self.now.log.items ++ Tore c.args.i ∷ [] = search rules in
    record {
      reading = rw (log, c.set_page.ensures) (reads_torn _ _ _ _ _ c.args.self.now.reading);
      unopened = λ shut. not_shut _ _ _ c.args.self.now.no_pages (omega arith) shut;
      shelved = c.args.self.now.shelved;
      no_pages = c.args.self.now.no_pages;
      put = rw (log, put_bytes-push c.args.self.now.log.items (Tore c.args.i), append-nil) c.args.self.now.put;
      some = c.args.self.now.some;
      whole = rw log (whole-push c.args.self.now.log.items (Tore c.args.i) c.args.self.now.whole refl);
    }

pub invariant_of-self-2 : goal.invariant_of-self-2
invariant_of-self-2 c =
    let log : c.add_event.new.log.items ≡ c.args.self.now.log.items ++ Wrote c.args.i c.args.bytes.now ∷ [] = search rules in
    record {
      reading = rw (log, c.set_page-2.ensures) (reads_wrote _ _ _ _ _ c.requires c.args.self.now.reading);
      unopened = λ shut. not_shut _ _ _ c.args.self.now.no_pages (omega arith) shut;
      shelved = c.args.self.now.shelved;
      no_pages = c.args.self.now.no_pages;
      put = rw (log, put_bytes-push c.args.self.now.log.items (Wrote c.args.i c.args.bytes.now), append-nil) c.args.self.now.put;
      some = c.args.self.now.some;
      whole =
          rw log (whole-push c.args.self.now.log.items (Wrote c.args.i c.args.bytes.now) c.args.self.now.whole
          (eq-eqb (length c.args.bytes.now) 4096 c.told-bytes));
    }
