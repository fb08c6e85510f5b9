use Rattle.std.proofs.Common.{◌≡◌, [], refl, sym, ◌∙◌, arith, true, false}
use Rattle.std.proofs.lemmas.Grind.{common_steps}
use Rattle.quilt_world.specs.declared.disk.Door.TheVariants.{Ready, Shut, Missing}
use Rattle.quilt_desk.proofs.DeskLaws.{no_events}
use Rattle.quilt_desk.proofs.ReadLaws.{reads_first}
use Rattle.quilt_desk.proofs.desk.world.DeskWorld.attach.Goals as goal

pub returns-then-not-is_same-clause-tale : goal.returns-then-not-is_same-clause-tale
returns-then-not-is_same-clause-tale c = record {
  fresh = record { log = no_events _ (c.args.self.now.unopened c.requires); reads = refl; writes = refl; input = refl; path = refl; was_there = refl };
  ready = λ ready. let e : Missing ≡ Ready = ready in cc;
  missing = λ missing same. let differ = c.if-not-is_same.ensures in let no : false ≡ true = differ.1 (c.deref.ensures ∙ sym same) in cc;
}

pub returns-in-None-clause-tale : goal.returns-in-None-clause-tale
returns-in-None-clause-tale c = record {
  fresh = record { log = no_events _ (c.args.self.now.unopened c.requires); reads = refl; writes = refl; input = refl; path = refl; was_there = refl };
  ready = λ ready. let e : Missing ≡ Ready = ready in cc;
  missing = λ missing same. grind (arith, common_steps, c.args.self.now.shelved c.requires);
}

pub invariant_of-self-in-Some : goal.invariant_of-self-in-Some
invariant_of-self-in-Some c =
    let log : c.args.self.now.log.items ≡ [] = no_events _ (c.args.self.now.unopened c.requires) in
    record {
      reading = rw log (reads_first _ _ c.in-Some.copies.same);
      unopened = λ shut. let e : Ready ≡ Shut = shut in cc;
      shelved = λ shut. let e : Ready ≡ Shut = shut in cc;
      no_pages = λ not_ready not_made. absurd (not_ready refl);
      put = c.args.self.now.put;
      some = c.args.self.now.some;
      whole = c.args.self.now.whole;
    }

pub returns-in-Some-clause-tale : goal.returns-in-Some-clause-tale
returns-in-Some-clause-tale c = record {
  fresh = record { log = no_events _ (c.args.self.now.unopened c.requires); reads = refl; writes = refl; input = refl; path = refl; was_there = refl };
  ready = λ ready. (grind (arith, common_steps), grind (arith, common_steps, c.args.self.now.shelved c.requires));
  missing = λ missing. let e : Ready ≡ Missing = missing in cc;
}
