use Rattle.std.proofs.Common.{◌≡◌, [], ◌∷◌, ◌++◌, ◌∙◌, rules, sym, subst, take, length, ap, List, ℕ, refl}
use Rattle.std.proofs.Math.Seq.{take-append_seam}
use Rattle.quilt_world.specs.Tale.{put_bytes}
use Rattle.quilt_world.specs.declared.event.Event.TheVariants.{Put}
use Rattle.quilt_desk.specs.Reads.{Reads}
use Rattle.quilt_desk.proofs.DeskLaws.{open_not_shut, put_bytes-push, whole-push}
use Rattle.quilt_desk.proofs.ReadLaws.{reads_put}
use Rattle.quilt_desk.proofs.desk.world.DeskWorld.put.Goals as goal

pub invariant_of-self-else-is_err-3 : goal.invariant_of-self-else-is_err-3
invariant_of-self-else-is_err-3 c =
    let log : c.add_event.new.log.items ≡ c.args.self.now.log.items ++ Put c.push.new.self ∷ [] = search rules in
    let text : c.push.new.self ≡ take c.min-n.result c.args.bytes.now = search rules in
    let out : c.extend_from_slice.new.self.items ≡ c.args.self.now.output.items ++ take c.min-n.result c.args.bytes.now = search rules in
    record {
      reading = subst (λ l. Reads c.args.self.now.start l c.args.self.now.current) (sym log) (reads_put _ _ _ _ c.args.self.now.reading);
      unopened = λ shut. open_not_shut _ _ c.requires.open shut;
      shelved = c.args.self.now.shelved;
      no_pages = c.args.self.now.no_pages;
      put = rw (log, put_bytes-push c.args.self.now.log.items (Put c.push.new.self), text, out)
          (ap (λ (l : List ℕ). l ++ take c.min-n.result c.args.bytes.now) c.args.self.now.put);
      some = c.args.self.now.some;
      whole = rw log (whole-push c.args.self.now.log.items (Put c.push.new.self) c.args.self.now.whole refl);
    }

pub invariant_of-self-then-is_err-3-clause-reading : goal.invariant_of-self-then-is_err-3-clause-reading
invariant_of-self-then-is_err-3-clause-reading c =
    let log : c.add_event.new.log.items ≡ c.args.self.now.log.items = search rules in
    subst (λ l. Reads c.args.self.now.start l c.args.self.now.current) (sym log) c.args.self.now.reading

pub invariant_of-self-then-is_err-3-clause-whole : goal.invariant_of-self-then-is_err-3-clause-whole
invariant_of-self-then-is_err-3-clause-whole c =
    let log : c.add_event.new.log.items ≡ c.args.self.now.log.items = search rules in
    rw log c.args.self.now.whole

pub invariant_of-self-then-is_err-3-clause-put : goal.invariant_of-self-then-is_err-3-clause-put
invariant_of-self-then-is_err-3-clause-put c =
    let log : c.add_event.new.log.items ≡ c.args.self.now.log.items = search rules in
    let out : c.extend_from_slice.new.self.items ≡ c.args.self.now.output.items ++ take c.min-n.result c.args.bytes.now = search rules in
    let start : c.len-before.result ≡ length c.args.self.now.output.items = search rules in
    c.truncate.ensures.items ∙ ap (take c.len-before.result) out
    ∙ ap (λ n. take n (c.args.self.now.output.items ++ take c.min-n.result c.args.bytes.now)) start
    ∙ take-append_seam c.args.self.now.output.items (take c.min-n.result c.args.bytes.now) ∙ c.args.self.now.put ∙ ap put_bytes (sym log)
