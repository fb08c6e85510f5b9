-- Where a look-up was last in a tree: the page of a leaf, and the keys that lead to it.
use Rattle.std.specs.Prelude.{◌≡◌, ◌≢◌, ℕ, ◌+◌, ◌<◌, ◌≤◌, true, List, ◌++◌, Option, Some, None, IfSome, IfOk, IfErr, OnOk, Result}
use Rattle.std.specs.List.{list_all}
use Rattle.std.specs.Ordering.{is_le, is_lt}
use Rattle.quilt_record.specs.declared.key.Key.{Key}
use Rattle.quilt_record.specs.declared.record.Record.{Record}
use Rattle.quilt_record.specs.Records.{key_cmp}
use Rattle.quilt_node.specs.Pages.{leaf_of}
use Rattle.quilt_node.specs.Tree.{is_below}
use Rattle.quilt_types.specs.declared.stop.Stop.{Stop}
use Rattle.quilt_types.specs.declared.stop.Stop.TheVariants.{Damaged}
use Rattle.quilt_world.specs.Tale.{Goes}
use Rattle.quilt_btree.specs.declared.spot.Spot.{Spot}
use Rattle.quilt_btree.specs.declared.tree.Tree.{Tree}
use Rattle.quilt_btree.specs.Damage.{NamesBad}
use Rattle.quilt_btree.specs.Lists.{is_from_to}
use Rattle.quilt_btree.specs.Searches.{AreOf}
use Rattle.quilt_btree.specs.Stops.{NamesPage}
use Rattle.quilt_btree.specs.Trees.{IsTree, IsBound, is_past}

-- The page is a leaf, whose records stand among these. Those before it are below the one key, and those behind it from the other on, which parts two
-- children of the tree.
pub record HoldsKeys (told : Option (List (List ℕ))) (t : Tree) (page : ℕ) (low : Key) (high : Option Key) (rs : List Record) : Type 0 where
  pub own : List Record
  pub is_leaf : (bytes : List ℕ) → AreOf told page bytes → leaf_of bytes ≡ Some own
  pub before : List Record
  pub behind : List Record
  pub records : rs ≡ before ++ (own ++ behind)
  pub lower : list_all (λ r. is_lt (key_cmp r.key low)) before ≡ true
  pub bounded : list_all (λ r. is_past high r.key) behind ≡ true
  pub here_under : list_all (λ r. is_below high r.key) own ≡ true
  pub bound : (pages : List (List ℕ)) → told ≡ Some pages → IsBound pages t.height t.root None high

-- the page is the leaf of the tree for keys from the one on and below the other
abbrev pub IsLeafFrom : Option (List (List ℕ)) → Tree → ℕ → Key → Option Key → Type 0
IsLeafFrom told t page low high = (rs : List Record) → IsTree told t rs → HoldsKeys told t page low high rs

-- the spot's page is the leaf of the tree for its keys
abbrev pub IsSpot : Option (List (List ℕ)) → Tree → Spot → Type 0
IsSpot told t s = IsLeafFrom told t s.page s.low s.high

-- the spot, if there is one, is in the tree
abbrev pub IsSpotIf : Option (List (List ℕ)) → Tree → Option Spot → Type 0
IsSpotIf told t o = IfSome o (IsSpot told t)

-- the key is one of the spot's, whose page is one of a store of so many
abbrev pub IsAtKey : ℕ → Key → Spot → Type 0
IsAtKey size k s = (1 ≤ s.page) × (s.page < size) × (is_le (key_cmp s.low k) ≡ true) × (is_below s.high k ≡ true)

-- there is a spot, and the key is one of its keys
abbrev pub IsAtSpot : ℕ → Option Spot → Key → Type 0
IsAtSpot size None k = ⊥
IsAtSpot size (Some s) k = IsAtKey size k s

-- the spot that leads to a key: its page is one of a store of so many and in the tree, and the key is one of its keys
pub record LeadsFrom (told : Option (List (List ℕ))) (size : ℕ) (t : Tree) (k : Key) (result : Result Spot Stop) : Type 0 where
  pub page : IfOk result (λ s. (1 ≤ s.page) × (s.page < size))
  pub spot : IfOk result (IsSpot told t)
  pub keys : IfOk result (λ s. (is_le (key_cmp s.low k) ≡ true) × (is_below s.high k ≡ true))

-- what a spot is good for: a look for one of its keys reads one page at most, and the key is then one of the spot's
pub record LooksFrom {T : Type 0} (size : ℕ) (t : Tree) (k : Key) (old new : Option Spot) (before now : Option ℕ) (result : Result T Stop) : Type 0 where
  pub here : IsAtSpot size old k → Goes (λ old new. new ≤ old + 1) before now
  pub placed : OnOk result (1 ≤ t.height → IsAtSpot size new k)

-- the same for all keys from one to another
pub record RangesFrom {T : Type 0} (size : ℕ) (t : Tree) (low high : Key) (old new : Option Spot) (before now : Option ℕ)
    (result : Result T Stop) : Type 0 where
  pub here : IsAtSpot size old low → IsAtSpot size old high → Goes (λ old new. new ≤ old + 1) before now
  pub placed : OnOk result (1 ≤ t.height → IsAtSpot size new low)

-- so many records are as many as are wanted at most, and all of them are in the range
pub record FitsRange (low high : Key) (most count : ℕ) (items : List Record) : Type 0 where
  pub number : count ≤ most
  pub within : list_all (is_from_to low high) items ≡ true

-- a page that is said to be damaged is one of a store of so many, and one over 0 is bad itself
pub record StopsAtBad {T : Type 0} (told : Option (List (List ℕ))) (size : ℕ) (t : Tree) (result : Result T Stop) : Type 0 where
  pub names : IfErr result (NamesPage size)
  pub bad : IfErr result (λ e. e ≢ Damaged 0 → NamesBad told t.height t.root e)
