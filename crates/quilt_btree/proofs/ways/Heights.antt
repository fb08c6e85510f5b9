-- Where the height of an inner page stands.
use Rattle.std.proofs.Common.{◌≡◌, ℕ, ◌&&◌, nat_le, nat_lt, List, length, Some, slice_index, ap}
use Rattle.std.specs.List.{list_all}
use Rattle.std.specs.Str.{bytes_eq}
use Rattle.quilt_node.specs.Pages.{Inner, inner_bytes, inner_of, is_ascending, read_inner}
use Rattle.quilt_btree.proofs.subtrees.Trees.{some_if}

pub inner_height : (pages : ℕ) (bytes : List ℕ) (inner : Inner) → inner_of pages bytes ≡ Some inner → slice_index bytes 1 ≡ inner.height
unfolding inner_of
inner_height pages bytes inner h =
    let page = read_inner bytes in
    ap (λ (x : Inner). x.height) (some_if (nat_le 2 page.height && nat_le page.height 3
    && nat_le 2 (length page.children) && nat_le (length page.children) 254
    && list_all (λ c. nat_le 1 c && nat_lt c pages) page.children
    && is_ascending page.keys && bytes_eq (inner_bytes page.height page.children page.keys) bytes) page inner h).1
