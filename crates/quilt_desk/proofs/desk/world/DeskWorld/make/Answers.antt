use Rattle.std.proofs.Common.{◌≡◌, [], refl, sym, ◌∙◌, rules, arith, true, false}
use Rattle.std.proofs.lemmas.Grind.{common_steps}
use Rattle.quilt_world.specs.declared.disk.Door.TheVariants.{Made, Shut, Taken}
use Rattle.quilt_desk.proofs.DeskLaws.{no_events}
use Rattle.quilt_desk.proofs.ReadLaws.{reads_first}
use Rattle.quilt_desk.proofs.desk.world.DeskWorld.make.Goals as goal
use Rattle.quilt_desk.proofs.desk.world.DeskWorld.make.Goals.{then-self-via-then-self, then-self-via-else-self+then-not-is_same}

pub returns-then-self-clause-tale : goal.returns-then-self-clause-tale
returns-then-self-clause-tale c = record {
  fresh = record { log = no_events _ (c.args.self.now.unopened c.requires); reads = refl; writes = refl; input = refl; path = refl; was_there = refl };
  ready = λ made. let e : Taken ≡ Made = made in cc;
  zero = λ made. let e : Taken ≡ Made = made in cc;
  taken = λ taken same. elim c.then-self.branch [
    | then-self-via-then-self w ↦ w.if-self.true
    | then-self-via-else-self+then-not-is_same w ↦ let differ = w.if-not-is_same.ensures in let no : false ≡ true = differ.1 (w.deref.ensures ∙ sym same) in cc
  ];
}

pub invariant_of-self-in-Ok : goal.invariant_of-self-in-Ok
invariant_of-self-in-Ok c =
    let log : c.args.self.now.log.items ≡ [] = no_events _ (c.args.self.now.unopened c.requires) in
    record {
      reading = rw log (reads_first _ _ c.in-Ok.copies.same);
      unopened = λ shut. let e : Made ≡ Shut = shut in cc;
      shelved = λ shut. let e : Made ≡ Shut = shut in cc;
      no_pages = λ not_ready not_made. absurd (not_made refl);
      put = c.args.self.now.put;
      some = c.args.self.now.some;
      whole = c.args.self.now.whole;
    }

pub returns-in-Ok-clause-tale : goal.returns-in-Ok-clause-tale
returns-in-Ok-clause-tale c = record {
  fresh = record { log = no_events _ (c.args.self.now.unopened c.requires); reads = refl; writes = refl; input = refl; path = refl; was_there = refl };
  ready = λ made. (grind (arith, common_steps), search rules);
  zero = λ made. c.in-Ok.ensures.start;
  taken = λ taken. let e : Made ≡ Taken = taken in cc;
}
