-- The first number that no entry has, or the last one.
use Rattle.std.proofs.Common.{rules, arith, ◌≡◌, ◌==◌, false}
use Rattle.std.specs.List.{list_any}
use Rattle.quilt_map.proofs.states.Catalogs.{none_numbered, last_free, unused_number}
use Rattle.quilt_map.proofs.entries.free_number.Goals as goal

pub returns-then-not-has_number-clause-unused : goal.returns-then-not-has_number-clause-unused
returns-then-not-has_number-clause-unused c layers numbers is num name =
    let none : list_any (λ e. e.number == c.loop-number.number) c.args.entries.now ≡ false = search rules in
    unused_number c.args.entries.now c.loop-number.number none layers numbers is num name

pub returns-clause-free : goal.returns-clause-free
returns-clause-free c =
    none_numbered c.args.entries.now 255 (last_free c.args.entries.now c.requires (λ k least lt. c.loop-number.invariant k least (omega arith)))

pub returns-clause-unused : goal.returns-clause-unused
returns-clause-unused c =
    unused_number c.args.entries.now 255 (last_free c.args.entries.now c.requires (λ k least lt. c.loop-number.invariant k least (omega arith)))
