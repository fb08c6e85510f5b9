use Rattle.std.proofs.Common.{lit<, lit≤, refl, arith}
use Rattle.quilt_edition.proofs.pages.header_page.Goals as goal

pub header_bytes-requires : goal.header_bytes-requires
header_bytes-requires c = record {
  pages = 16;
  least = lit≤ tt;
  most = lit≤ tt;
  numbers = record {
    format = (lit≤ tt, lit≤ tt);
    edition = lit< tt;
    level = c.requires;
    height = lit≤ tt;
    no_tree = λ none. (refl, refl);
    tree = λ one. absurd (omega arith);
    records = lit≤ tt;
  };
}
