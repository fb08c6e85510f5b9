use Rattle.quilt_words.proofs.Slices.{behind}
use Rattle.quilt_lang.proofs.Counts.{cut_none, cut_some}
use Rattle.quilt_lang.proofs.first_line.newline_behind.Goals as goal

pub returns-in-Some : goal.returns-in-Some
returns-in-Some c = cut_some c.args.bytes.now _ c.args.scanned c.in-Some.k c.requires (behind c.args.scanned c.args.bytes.now) c.in-Some.ensures

pub returns-in-None : goal.returns-in-None
returns-in-None c = cut_none c.args.bytes.now _ c.args.scanned c.requires (behind c.args.scanned c.args.bytes.now) c.in-None.ensures
