-- What a batch of edits makes of the records of a tree.
use Rattle.std.specs.Prelude.{IfErr, IfOk, OnOk, Result, ◌≡◌, ℕ, ◌+◌, ◌-◌, ◌<◌, ◌≤◌, Bool, true, false, not, ◌&&◌, List, [], ◌∷◌, length, map, take, Option, Some}
use Rattle.std.specs.List.{list_any, list_all}
use Rattle.quilt_record.specs.declared.key.Key.{Key}
use Rattle.quilt_record.specs.declared.record.Record.{Record}
use Rattle.quilt_record.specs.Lists.{has_key, put, without}
use Rattle.quilt_node.specs.Pages.{leaf_of}
use Rattle.quilt_node.specs.Tree.{Bounds, is_below}
use Rattle.quilt_btree.specs.declared.edit.Edit.{Edit}
use Rattle.quilt_btree.specs.declared.edit.Edit.TheVariants as edit
use Rattle.quilt_btree.specs.Edits.{Becomes}
use Rattle.quilt_types.specs.declared.stop.Stop.{Stop}
use Rattle.quilt_store.specs.declared.store.PageStore.{Ghosts}
use Rattle.quilt_store.specs.Stops.{HasStopCause}
use Rattle.quilt_world.specs.Tale.{Goes}
use Rattle.quilt_btree.specs.Trees.{IsRooted}
use Rattle.quilt_btree.specs.declared.tree.Tree.{Tree}

-- the key that the edit concerns
abbrev pub key_of : Edit → Key
key_of (edit.Remove k) = k
key_of (edit.Put r) = r.key
key_of (edit.Replace r) = r.key

abbrev pub edit_keys : List Edit → List Key
edit_keys run = map key_of run

-- the records are such that the edit is to be made
abbrev pub is_due : Edit → List Record → Bool
is_due (edit.Remove k) rs = list_any (has_key k) rs
is_due (edit.Put r) rs = not (list_any (has_key r.key) rs)
is_due (edit.Replace r) rs = list_any (has_key r.key) rs

-- the records behind the edit
abbrev pub edited : Edit → List Record → List Record
edited (edit.Remove k) rs = without k rs
edited (edit.Put r) rs = put r rs
edited (edit.Replace r) rs = put r (without r.key rs)

-- the edits made one after the other
abbrev pub edit_all : List Edit → List Record → List Record
edit_all [] rs = rs
edit_all (e ∷ run) rs = edit_all run (edited e rs)

-- each edit is due when its turn comes
abbrev pub are_due : List Edit → List Record → Bool
are_due [] rs = true
are_due (e ∷ run) rs = is_due e rs && are_due run (edited e rs)

-- how many records the edits add and take, how many pages they may change, and how many they may read
abbrev pub more_of : Edit → ℕ
more_of (edit.Remove k) = 0
more_of (edit.Put r) = 1
more_of (edit.Replace r) = 0

abbrev pub fewer_of : Edit → ℕ
fewer_of (edit.Remove k) = 1
fewer_of (edit.Put r) = 0
fewer_of (edit.Replace r) = 0

abbrev pub cost_of : Edit → ℕ
cost_of (edit.Remove k) = 7
cost_of (edit.Put r) = 6
cost_of (edit.Replace r) = 13

abbrev pub looks_of : Edit → ℕ
looks_of (edit.Remove k) = 10
looks_of (edit.Put r) = 6
looks_of (edit.Replace r) = 16

abbrev pub more : List Edit → ℕ
more [] = 0
more (e ∷ run) = more_of e + more run

abbrev pub fewer : List Edit → ℕ
fewer [] = 0
fewer (e ∷ run) = fewer_of e + fewer run

abbrev pub cost : List Edit → ℕ
cost [] = 0
cost (e ∷ run) = cost_of e + cost run

abbrev pub looks : List Edit → ℕ
looks [] = 0
looks (e ∷ run) = looks_of e + looks run

-- a leaf of so many records is a leaf behind the edit
abbrev pub HasRoom : Edit → ℕ → Type 0
HasRoom (edit.Remove k) n = 1 < n
HasRoom (edit.Put r) n = n < 144
HasRoom (edit.Replace r) n = Unit {0}

-- how many records a leaf of so many has behind an edit, and behind a run of them
abbrev pub size_behind : Edit → ℕ → ℕ
size_behind e n = n + more_of e - fewer_of e

abbrev pub size_after : List Edit → ℕ → ℕ
size_after [] n = n
size_after (e ∷ run) n = size_after run (size_behind e n)

-- a leaf of so many records stays one behind each edit of a run
abbrev pub HasRoomFor : List Edit → ℕ → Type 0
HasRoomFor [] n = Unit {0}
HasRoomFor (e ∷ run) n = HasRoom e n × HasRoomFor run (size_behind e n)

-- the bytes are a leaf behind the first edits of a run, each of which was due, with enough records where there is such an edit
pub record EditsLeaf (least : ℕ) (run : List Edit) (n : ℕ) (leaf : List Record) (bytes : List ℕ) : Type 0 where
  pub is : leaf_of bytes ≡ Some (edit_all (take n run) leaf)
  pub due : are_due (take n run) leaf ≡ true
  pub enough : 1 ≤ n → least ≤ length (edit_all (take n run) leaf)

-- one of the first edits of a run, whose keys are all below a bound, is not due
pub record Fails (run : List Edit) (high : Option Key) (rs : List Record) : Type 0 where
  pub number : ℕ
  pub missing : are_due (take number run) rs ≡ false
  pub under : list_all (is_below high) (edit_keys (take number run)) ≡ true

-- a subtree has been edited so, and each edit was due
pub record DidEdit (run : List Edit) (told now_told : Option (List (List ℕ))) (free now : ℕ → Bool) (page height : ℕ) (is_root : Bool) (b : Bounds)
    (rs : List Record) (used : List ℕ) : Type 0 where
  pub pages : List (List ℕ)
  pub news : List (List ℕ)
  pub was : told ≡ Some pages
  pub is : now_told ≡ Some news
  pub due : are_due run rs ≡ true
  pub under : list_all (is_below b.high) (edit_keys run) ≡ true
  pub becomes : Becomes pages news free now page height is_root b used (edit_all run rs)

-- the keys whose records go
abbrev pub removed : List Edit → List Key
removed [] = []
removed (edit.Remove k ∷ run) = k ∷ removed run
removed (edit.Put r ∷ run) = removed run
removed (edit.Replace r ∷ run) = r.key ∷ removed run

-- the records that come
abbrev pub records_put : List Edit → List Record
records_put [] = []
records_put (edit.Remove k ∷ run) = records_put run
records_put (edit.Put r ∷ run) = r ∷ records_put run
records_put (edit.Replace r ∷ run) = r ∷ records_put run

-- the answer is how many of the first edits of a run were made, and where it is none nothing was written
pub record TakesFirst {S : Type 0} (g : Ghosts S) (run : List Edit) (old new : S) (result : Result ℕ Stop) : Type 0 where
  pub number : IfOk result (λ n. n ≤ length run)
  pub stays : IfOk result (λ n. n ≡ 0 → (g.told new ≡ g.told old) × (g.free new ≡ g.free old))

-- the answer is how many of the first edits of a run were made, one at least, and the tree's numbers are those behind them
pub record CountsFirst (size : ℕ) (run : List Edit) (t u : Tree) (result : Result ℕ Stop) : Type 0 where
  pub number : IfOk result (λ n. (1 ≤ n) × (n ≤ length run))
  pub rooted : OnOk result (IsRooted size u)
  pub count : IfOk result (λ n. u.records + fewer (take n run) ≡ t.records + more (take n run))

-- What the first edits of a run leave of a store: as many pages, later, and `Device` only where the count of faults rose. They change at most as many pages as
-- they may cost, less what is spared, and read as many, less what is spared, where they answer.
pub record EditsFirst {S : Type 0} (g : Ghosts S) (spared unread : ℕ) (run : List Edit) (old new : S) (result : Result ℕ Stop) : Type 0 where
  pub cause : HasStopCause (g.faults old) (g.faults new) result
  pub size : g.size new ≡ g.size old
  pub later : g.later old new
  pub changed : IfOk result (λ n. g.changed new + spared ≤ g.changed old + cost (take n run))
  pub less : IfErr result (λ e. g.changed new + spared ≤ g.changed old + cost run)
  pub reads : IfOk result (λ n. Goes (λ before now. now + unread ≤ before + looks (take n run)) (g.reads old) (g.reads new))
