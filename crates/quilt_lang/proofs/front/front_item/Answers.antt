use Rattle.std.proofs.Common.{take, map}
use Rattle.quilt_lang.specs.Cutting.{grouped}
use Rattle.quilt_lang.proofs.front.front_item.Goals as goal

pub returns-clause-gives : goal.returns-clause-gives
returns-clause-gives c = record {
  group = grouped (take c.args.line c.args.text.now) (map (λ w. w.now) c.in_ok-more.more.items);
  is = rw c.deref.ensures.value at c.in_ok-item.ensures;
  gives = c.in_ok-more.ensures.gives;
}
