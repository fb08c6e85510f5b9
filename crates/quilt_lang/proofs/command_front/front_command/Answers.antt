use Rattle.std.proofs.Common.{take, map, refl}
use Rattle.quilt_words.specs.Items.{held}
use Rattle.quilt_lang.specs.Cutting.{grouped}
use Rattle.quilt_lang.proofs.command_front.front_command.Goals as goal

pub returns-clause-gives : goal.returns-clause-gives
returns-clause-gives c =
    let group = grouped (take c.args.line c.args.text.now) (map (λ w. w.now) c.in_ok-more.more.items) in
    record {
      item = held c.args.format c.args.level group;
      gives = record { group = group; is = refl; gives = c.in_ok-more.ensures.gives };
      is = rw c.deref.ensures.value at c.in_ok-command.ensures;
    }
