-- The header of the next edition.
use Rattle.std.proofs.Common.{ℕ, ◌<◌, ◌^◌}
use Rattle.quilt_node.specs.declared.head.Head.{Head}
use Rattle.quilt_node.specs.Pages.{IsHead}

-- its number is one more, and the rest is as in the work
pub next_head : (pages : ℕ) (h : Head) (number : ℕ) → IsHead pages h → number < 2 ^ 32 → IsHead pages (record h { edition = number })
next_head pages h number is within = record {
  format = is.format;
  edition = within;
  level = is.level;
  height = is.height;
  no_tree = is.no_tree;
  tree = is.tree;
  records = is.records;
}
