use Rattle.std.proofs.Common.{◌∙◌, sym, ap, subst, Some}
use Rattle.std.proofs.lemmas.Option.{slice_get-get_or}
use Rattle.quilt_node.specs.Nodes.{IsLeafPage}
use Rattle.quilt_node.proofs.Leaves.{record_is}
use Rattle.quilt_node.proofs.leaf.LeafPage.rec.Goals as goal

pub returns : goal.returns
returns c =
    slice_get-get_or c.args.self.now c.args.i c.record_in.result c.requires
    ∙ ap Some (sym (record_is c.self.inside.bytes c.args.self.now c.args.i c.record_in.result
    (subst (IsLeafPage c.self.inside.bytes) c.self.view_is c.self.invariant) c.requires) ∙ sym c.record_in.ensures)
