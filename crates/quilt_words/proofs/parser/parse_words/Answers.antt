use Rattle.std.proofs.Common.{[], ◌∙◌, sym}
use Rattle.quilt_words.specs.Made.{spelled_by}
use Rattle.quilt_words.proofs.Forming.{formed_is}
use Rattle.quilt_words.proofs.Slices.{map_first}
use Rattle.quilt_words.proofs.Table.{unspelled}
use Rattle.quilt_words.proofs.parser.parse_words.Goals as goal

pub returns-in_default-of : goal.returns-in_default-of
returns-in_default-of c =
    rw (map_first (λ w. w.now) c.args.words.now (record { ref_ptr = (0, 0); now = [] }) c.in-len1-up.len_at_least)
    (unspelled c.args.format (spelled_by c.args.further.now) _ _ (sym c.of.ensures.found ∙ c.in_default-of.is))

pub returns : goal.returns
returns c =
    let same = rw c.in-Some.is at c.of.ensures.spelled in
    rw (map_first (λ w. w.now) c.args.words.now (record { ref_ptr = (0, 0); now = [] }) c.in-len1-up.len_at_least)
    (rw (formed_is c.args.format (spelled_by c.args.further.now) _ _, same) c.command.ensures)
