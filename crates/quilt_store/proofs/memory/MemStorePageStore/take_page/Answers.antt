use Rattle.std.proofs.Common.{◌≡◌, ◌∙◌, ◌+◌, ℕ, Bool, List, Option, Some, sym, ap, length, arith, false, length-set}
use Rattle.std.specs.Prelude.{drop}
use Rattle.std.specs.List.{position}
use Rattle.quilt_store.proofs.Counts.{IsLowest, NoneBelow, count_of_free, found, lowest_at, none_below, taken}
use Rattle.quilt_store.proofs.memory.MemStorePageStore.take_page.Goals as goal

is_first : (free l : List Bool) (n i : ℕ) (o : Option ℕ) → NoneBelow free n → l ≡ free → o ≡ position (λ b. b) (drop n l) → o ≡ Some i
    → IsLowest free (n + i)
is_first free l n i o below same is some = lowest_at free n i below (ap (λ l. position (λ b. b) (drop n l)) (sym same) ∙ sym is ∙ some)

pub unwrap-ahead-requires : goal.unwrap-ahead-requires
unwrap-ahead-requires c =
    let s = c.args.self.now in
    rw (c.first_from.ensures, c.deref.ensures.value)
    (found s.free.items (length s.pages.items) s.lowest s.from_one s.below s.tests (omega (arith, s.least)) c.requires)

pub overflow_add-page : goal.overflow_add-page
overflow_add-page c =
    let s = c.args.self.now in
    let first = is_first s.free.items _ s.lowest c.unwrap-ahead.result _ s.below c.deref.ensures.value c.first_from.ensures c.unwrap-ahead.ensures in
    let lt = first.in_range in
    omega (arith, s.tests, s.most)

pub overflow_sub-self : goal.overflow_sub-self
overflow_sub-self c =
    let s = c.args.self.now in
    omega (arith, s.counted, count_of_free s.free.items (length s.pages.items) s.from_one s.tests (omega (arith, s.least)), c.requires)

pub invariant_of-self : goal.invariant_of-self
invariant_of-self c =
    let s = c.args.self.now in
    let page = s.lowest + c.unwrap-ahead.result in
    let first = is_first s.free.items _ s.lowest c.unwrap-ahead.result _ s.below c.deref.ensures.value c.first_from.ensures c.unwrap-ahead.ensures in
    let t = taken s.free.items (length s.pages.items) page s.count s.from_one first.is s.counted in
    let long = length-set s.free.items page false in
    record {
      least = s.least;
      most = s.most;
      tests = long ∙ s.tests;
      from_one = t.0;
      counted = t.1;
      reaches = let lt = first.in_range in omega arith;
      below = none_below s.free.items page page page false first.below (omega arith) (omega arith);
    }

pub returns-clause-page : goal.returns-clause-page
returns-clause-page c =
    let s = c.args.self.now in
    (is_first s.free.items _ s.lowest c.unwrap-ahead.result _ s.below c.deref.ensures.value c.first_from.ensures c.unwrap-ahead.ensures).is
