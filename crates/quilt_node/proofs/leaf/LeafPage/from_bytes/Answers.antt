use Rattle.std.proofs.Common.{◌≡◌, length, rules}
use Rattle.quilt_node.specs.Pages.{read_leaf}
use Rattle.quilt_node.specs.Nodes.{IsLeafPage}
use Rattle.quilt_node.proofs.Spelled.{AreBytes}
use Rattle.quilt_node.proofs.Leaves.{leaf_of_page}
use Rattle.quilt_node.proofs.LeafReads.{well_formed}
use Rattle.quilt_node.proofs.leaf.LeafPage.from_bytes.Goals as goal

whole : (c : goal.Start) → length c.args.bytes ≡ 4096
whole c = search rules

fits : (c : goal.Start) → AreBytes c.args.bytes
fits c = search rules

page : (c : goal.Start) → IsLeafPage c.args.bytes (read_leaf c.args.bytes)
page c = well_formed c.args.bytes (fits c) (whole c) c.requires

pub invariant_of-result : goal.invariant_of-result
invariant_of-result c = page c

pub returns : goal.returns
returns c = leaf_of_page c.args.bytes _ (page c)
