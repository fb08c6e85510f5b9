use Rattle.std.proofs.Common.{rules}
use Rattle.quilt_words.specs.Forms.{form}
use Rattle.quilt_words.specs.Parsing.{IsParsedAs}
use Rattle.quilt_words.proofs.Holding.{spelled}
use Rattle.quilt_words.proofs.SpelledLaws.{fitting}
use Rattle.quilt_words.proofs.parser.parse.Goals as goal

pub returns-in_ok-further-in-Line-clause-spelled : goal.returns-in_ok-further-in-Line-clause-spelled
unfolding form
returns-in_ok-further-in-Line-clause-spelled c =
    let is : IsParsedAs c.parse_line.result (form c.args.format c.args.item.now) = search rules in
    spelled c.args.format c.args.item.now c.parse_line.result is

pub returns-in_ok-further-in-Line-clause-fitting : goal.returns-in_ok-further-in-Line-clause-fitting
unfolding form
returns-in_ok-further-in-Line-clause-fitting c =
    let is : IsParsedAs c.parse_line.result (form c.args.format c.args.item.now) = search rules in
    fitting c.args.format c.args.item.now c.parse_line.result is
