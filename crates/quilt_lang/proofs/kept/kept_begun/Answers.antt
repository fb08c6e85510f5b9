use Rattle.std.proofs.Common.{◌∙◌, sym, arith, false, List, ℕ}
use Rattle.quilt_lang.specs.Reading.{HasNewline, IsLine}
use Rattle.quilt_lang.proofs.Counts.{count_first, front_newline}
use Rattle.quilt_lang.proofs.Groups.{cuts_newline}
use Rattle.quilt_lang.proofs.Enough.{kept_begun}
use Rattle.quilt_lang.proofs.Pieces.{begins_cut}
use Rattle.quilt_lang.proofs.kept.kept_begun.Goals as goal

pub returns-in_default : goal.returns-in_default
returns-in_default c =
    let none : IsLine c.args.rest.now = rw c.in_default.is at c.newline_behind.ensures in
    kept_begun c.args.level c.min.result c.args.rest.now none c.min.ensures

pub kept_waiting-requires-clause-cut : goal.kept_waiting-requires-clause-cut
kept_waiting-requires-clause-cut c =
    let rest : List ℕ = c.args.rest.now in
    let k = c.in-Some.line in
    let at : HasNewline rest k = rw c.in-Some.is at c.newline_behind.ensures in
    record {
      first = record {
        within = omega (arith, at.within);
        whole = λ open_. at.within;
        cuts = cuts_newline false rest k at;
        front = λ open_. front_newline rest k at;
        loud = sym (begins_cut rest k at) ∙ c.requires.loud;
        asks = c.in_ok-what.ensures c.args.level;
      };
      further = count_first _ _;
    }
