use Rattle.std.proofs.Common.{◌∙◌, sym, ap, subst}
use Rattle.quilt_node.specs.Pages.{IsHead, header_bytes}
use Rattle.quilt_node.proofs.Heads.{other_bytes}
use Rattle.quilt_node.proofs.Headers.{same_head}
use Rattle.quilt_node.proofs.header.header_of.Goals as goal

pub returns-then-not-is_head : goal.returns-then-not-is_head
returns-then-not-is_head c h f p =
    c.is_head.ensures.no c.if-not-is_head.true
    (subst (IsHead c.args.pages) (sym (c.numbers_in-h.ensures ∙ same_head c.args.pages c.args.bytes.now h f p)) p.numbers)

pub returns-then-ne : goal.returns-then-ne
returns-then-ne c h f p =
    other_bytes c.page_of.result c.args.bytes.now (sym c.ne.ensures ∙ c.if-ne.true)
    (c.page_of.ensures ∙ ap header_bytes (c.numbers_in-h.ensures ∙ same_head c.args.pages c.args.bytes.now h f p) ∙ sym p.written)
