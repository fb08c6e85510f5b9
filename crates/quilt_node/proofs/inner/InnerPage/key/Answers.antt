use Rattle.std.proofs.Common.{◌∙◌, sym, ap, subst, Some}
use Rattle.std.proofs.lemmas.Option.{slice_get-get_or}
use Rattle.quilt_node.specs.Nodes.{IsInnerPage}
use Rattle.quilt_node.proofs.Inners.{key_is}
use Rattle.quilt_node.proofs.inner.InnerPage.key.Goals as goal

pub returns : goal.returns
returns c =
    slice_get-get_or c.args.self.now.keys c.args.i c.key_in.result c.requires
    ∙ ap Some (sym (c.key_in.ensures.key ∙ key_is c.self.inside.bytes c.args.self.now c.args.i c.key_in.result
    (subst (IsInnerPage c.self.inside.bytes) c.self.view_is c.self.invariant) c.requires))
