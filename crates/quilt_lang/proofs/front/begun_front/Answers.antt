use Rattle.quilt_lang.proofs.Counts.{count_first}
use Rattle.quilt_lang.proofs.front.begun_front.Goals as goal

pub waiting_front-requires : goal.waiting_front-requires
waiting_front-requires c = record {
  first = record {
    within = c.in-Some.ensures.within;
    whole = c.in-Some.ensures.whole;
    cuts = c.in-Some.ensures.found;
    front = c.in-Some.ensures.front;
    loud = c.in-Some.ensures.loud;
    asks = c.in_ok-what.ensures c.args.level;
  };
  further = count_first _ _;
}
