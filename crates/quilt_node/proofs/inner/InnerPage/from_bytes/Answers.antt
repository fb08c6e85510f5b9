use Rattle.std.proofs.Common.{◌≡◌, true, length, refl, rules}
use Rattle.quilt_node.specs.Pages.{short_at, read_inner}
use Rattle.quilt_node.specs.Nodes.{IsInnerPage, are_pages}
use Rattle.quilt_node.proofs.Spelled.{AreBytes}
use Rattle.quilt_node.proofs.Inners.{inner_of_page}
use Rattle.quilt_node.proofs.InnerReads.{well_formed, accepted, read_children}
use Rattle.quilt_node.proofs.inner.InnerPage.from_bytes.Goals as goal

whole : (c : goal.Start) → length c.args.bytes ≡ 4096
whole c = search rules

fits : (c : goal.Start) → AreBytes c.args.bytes
fits c = search rules

page : (c : goal.Start) → IsInnerPage c.args.bytes (read_inner c.args.bytes)
page c =
    accepted c.args.pages c.args.bytes (short_at c.args.bytes 2) (fits c) (whole c) refl c.ranges.pages.fits (well_formed c.args.pages c.args.bytes c.requires)

children : (c : goal.Start) → are_pages c.args.pages (read_inner c.args.bytes).children ≡ true
children c = read_children c.args.pages c.args.bytes (short_at c.args.bytes 2) refl (well_formed c.args.pages c.args.bytes c.requires)

pub invariant_of-result : goal.invariant_of-result
invariant_of-result c = page c

pub returns-clause-inner : goal.returns-clause-inner
returns-clause-inner c = inner_of_page c.args.pages c.args.bytes (read_inner c.args.bytes) (page c) (children c)

pub returns-clause-children : goal.returns-clause-children
returns-clause-children c = children c
