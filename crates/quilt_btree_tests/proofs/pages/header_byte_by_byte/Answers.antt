use Rattle.std.proofs.Common.{◌≡◌, ℕ, lit<, lit≤, arith}
use Rattle.quilt_btree_tests.proofs.pages.header_byte_by_byte.Goals as goal

pub header_bytes-page-requires : goal.header_bytes-page-requires
header_bytes-page-requires g c = record {
  pages = 18;
  least = lit≤ tt;
  most = lit≤ tt;
  numbers = record {
    format = (lit≤ tt, lit≤ tt);
    edition = lit< tt;
    level = (lit≤ tt, lit≤ tt);
    height = lit≤ tt;
    no_tree = λ h. absurd (one_zero h);
    tree = λ h. (lit≤ tt, lit< tt, lit≤ tt);
    records = lit≤ tt;
  };
}
  where
    one_zero : ◌≡◌ {A = ℕ} 1 0 → ⊥
    one_zero h = omega (arith, h)
