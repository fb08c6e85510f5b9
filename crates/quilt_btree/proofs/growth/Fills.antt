-- A subtree that takes records of a run into one leaf.
use Rattle.std.proofs.Common.{◌≡◌, Bool, true, false, ◌&&◌, List, [], ◌∷◌}
use Rattle.std.proofs.lemmas.Bool.{and_from, and_parts}
use Rattle.std.proofs.Common.{refl}
use Rattle.std.specs.Prelude.{if◌then◌else◌}
use Rattle.std.specs.List.{list_all}
use Rattle.std.specs.Ordering.{is_lt}
use Rattle.quilt_record.specs.declared.key.Key.{Key}
use Rattle.quilt_record.specs.declared.record.Record.{Record}
use Rattle.quilt_record.specs.Records.{key_cmp}
use Rattle.quilt_node.specs.Nodes.{keys_of}
use Rattle.quilt_node.specs.Tree.{Bounds, is_above, is_below, are_within}
use Rattle.quilt_record.specs.Lists.{put}
use Rattle.quilt_btree.proofs.rows.Places.{head_bounds}
use Rattle.quilt_btree.proofs.lists.Rising.{below_on}

pub within_put : (p : Key → Bool) (r : Record) (rs : List Record) → p r.key ≡ true → list_all p (keys_of rs) ≡ true → list_all p (keys_of (put r rs)) ≡ true
within_put p r [] h w = and_from (p r.key) true h refl
within_put p r (s ∷ rs) h w =
    let t = and_parts (p s.key) (list_all p (keys_of rs)) w in
    at (is_lt (key_cmp r.key s.key)) (and_from (p s.key) (list_all p (keys_of (put r rs))) t.0 (within_put p r rs h t.1))
  where
    at : (b : Bool) → (p s.key && list_all p (keys_of (put r rs))) ≡ true → list_all p (keys_of (if b then r ∷ s ∷ rs else s ∷ put r rs)) ≡ true
    at true e = and_from (p r.key) (p s.key && list_all p (keys_of rs)) h w
    at false e = e

-- a key below the child's bound is below the page's own
pub nearer : (ks : List Key) (b : Bounds) → are_within b ks ≡ true → (m : Key) → is_below (head_bounds ks b).high m ≡ true → is_below b.high m ≡ true
nearer [] b w m h = h
nearer (k ∷ ks) b w m h =
    let t = and_parts (is_above b.low k && is_below b.high k) (are_within b ks) w in
    below_on b.high k m (and_parts (is_above b.low k) (is_below b.high k) t.0).1 h
