use Rattle.std.proofs.Common.{◌≡◌, ◌+◌, ◌<◌, ◌++◌, List, ℕ, length, take, drop, sym, ◌∙◌, ap, rules, arith}
use Rattle.std.proofs.lemmas.Grind.{common_steps}
use Rattle.std.proofs.lemmas.List.{places, take-append-drop, drop-drop, length-take, length-drop}
use Rattle.quilt_memory.proofs.Making.{takes_as}
use Rattle.quilt_memory.proofs.memory.system.MemorySystem.take.Goals as goal

pub returns-clause-took : goal.returns-clause-took
returns-clause-took c =
    let s = c.args.self.now in
    let n = c.min-n.result in
    let left : List ℕ = drop s.taken s.input.items in
    let x : List ℕ = take n left in
    let is : take n (c.copy_from_slice.new.self ++ drop n c.args.into.now) ≡ x = first_of (grind (arith, common_steps), search (rules, places)) in
    let some : 0 < length x = omega (arith, length-take n left, length-drop s.taken s.input.items, s.within) in
    let next : left ≡ x ++ drop (s.taken + n) s.input.items =
    sym (take-append-drop n left) ∙ ap (λ l. take n left ++ l) (drop-drop n s.taken s.input.items) in
    takes_as x _ (drop (s.taken + n) s.input.items) _ _ is some next (first_of (search rules, grind (arith, common_steps)))
