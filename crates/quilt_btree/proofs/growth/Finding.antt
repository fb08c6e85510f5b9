-- Whether an edit finds a key: as a search in the list of a tree does, whatever pages are free.
use Rattle.std.proofs.Common.{◌≡◌, ◌≢◌, ℕ, ◌-◌, Bool, true, false, List, Option, Result, Ok, Err, IfOk, slice_index, refl, sym, ◌∙◌, ap, subst}
use Rattle.std.specs.List.{list_any}
use Rattle.quilt_types.specs.declared.stop.Stop.{Stop}
use Rattle.quilt_record.specs.declared.key.Key.{Key}
use Rattle.quilt_record.specs.declared.record.Record.{Record}
use Rattle.quilt_node.specs.Pages.{Inner}
use Rattle.quilt_node.specs.Nodes.{IsFound, IsGap}
use Rattle.quilt_btree.specs.declared.tree.Tree.{Tree}
use Rattle.quilt_btree.specs.declared.outcomes.Inserted.{Inserted}
use Rattle.quilt_btree.specs.declared.outcomes.Inserted.TheVariants.{There, Done, Split}
use Rattle.quilt_btree.specs.declared.outcomes.Removed.{Removed}
use Rattle.quilt_btree.specs.declared.outcomes.Removed.TheVariants as removed
use Rattle.quilt_record.specs.Lists.{has_key}
use Rattle.quilt_btree.specs.Outcomes.{was_there, was_found}
use Rattle.quilt_btree.specs.Trees.{SpellsSubtree, ReadsLeaf, IsTree}
use Rattle.quilt_btree.proofs.subtrees.Descending.{AtFloor, leaf_spells, leads_below, along_told}
use Rattle.quilt_btree.proofs.ways.Leaves.{found_any, gap_any}
use Rattle.quilt_btree.proofs.lists.Lists.{any_between}
use Rattle.quilt_btree.proofs.subtrees.Whole.{tree_spells, no_records}

-- the answer is whether the key is in the subtree's list
abbrev pub Finds : Option (List (List ℕ)) → ℕ → ℕ → Key → Bool → Type 0
Finds told page height k b = (rs : List Record) → SpellsSubtree told page height rs → b ≡ list_any (has_key k) rs

module _ (told : Option (List (List ℕ))) (page height i : ℕ) (k : Key) (leaf : List Record) (reads : ReadsLeaf told page leaf) where
  -- a search in a leaf
  pub finds_here : IsFound k leaf i → height ≡ 1 → Finds told page height k true
  finds_here f one rs s =
      sym (found_any k leaf i f.found f f.here) ∙ ap (list_any (has_key k)) (leaf_spells told page height rs leaf one s reads)

  pub finds_none : IsGap k leaf i → height ≡ 1 → Finds told page height k false
  finds_none g one rs s =
      sym (gap_any k leaf i g) ∙ ap (list_any (has_key k)) (leaf_spells told page height rs leaf one s reads)

-- a search below an inner page
pub finds_below : {told then_told : Option (List (List ℕ))} {k : Key} {b : Bool} {page height child i : ℕ} {inner : Inner}
    → AtFloor told then_told page height child i k inner → Finds then_told child (height - 1) k b → Finds told page height k b
finds_below {told = told} {then_told = then_told} {k = k} {page = page} {height = height} {i = i} {inner = inner} l f rs s =
    let low = leads_below told page height inner i k l.some l.above s l.reads l.place in
    f low.here (subst (λ c. SpellsSubtree then_told c (height - 1) low.here) (sym l.is_child)
    (along_told told then_told (slice_index inner.children i) (height - 1) low.here l.told low.spells))
    ∙ sym (any_between k low.first low.here low.last rs low.among)

module _ (told : Option (List (List ℕ))) (k : Key) (b : Bool) where
  -- a search in the whole tree
  pub finds_root : (t : Tree) (rs : List Record) → t.height ≢ 0 → Finds told t.root t.height k b → IsTree told t rs → b ≡ list_any (has_key k) rs
  finds_root t rs ne f is = f rs (tree_spells told t rs ne is).0

pub finds_empty : (told : Option (List (List ℕ))) (t : Tree) (k : Key) (rs : List Record) → t.height ≡ 0 → IsTree told t rs
    → false ≡ list_any (has_key k) rs
finds_empty told t k rs e is = sym (ap (list_any (has_key k)) (no_records told t rs e is))

-- an insertion
pub not_there : (o : Inserted) → o ≢ There → was_there o ≡ false
not_there There h = absurd (h refl)
not_there Done h = refl
not_there (Split key right) h = refl

pub new_finds : (r : Result Inserted Stop) (A : List Record → Type 0) (k : Key) → IfOk r (λ o. o ≢ There)
    → ((rs : List Record) → A rs → false ≡ list_any (has_key k) rs)
    → IfOk r (λ o. (rs : List Record) → A rs → was_there o ≡ list_any (has_key k) rs)
new_finds (Err e) A k new f = new
new_finds (Ok o) A k new f = λ rs a. not_there o new ∙ f rs a

pub new_in_leaf : (r : Result Inserted Stop) (told : Option (List (List ℕ))) (page : ℕ) (k : Key) → IfOk r (λ o. o ≢ There)
    → ((height : ℕ) → height ≡ 1 → Finds told page height k false)
    → IfOk r (λ o. (height : ℕ) (rs : List Record) → height ≡ 1 → SpellsSubtree told page height rs → was_there o ≡ list_any (has_key k) rs)
new_in_leaf (Err e) told page k new f = new
new_in_leaf (Ok o) told page k new f = λ height rs one s. not_there o new ∙ f height one rs s

pub there_in_leaf : (r : Result Inserted Stop) (told : Option (List (List ℕ))) (page height : ℕ) (k : Key) → height ≡ 1
    → IfOk r (λ o. (h : ℕ) (rs : List Record) → h ≡ 1 → SpellsSubtree told page h rs → was_there o ≡ list_any (has_key k) rs)
    → IfOk r (λ o. Finds told page height k (was_there o))
there_in_leaf (Err e) told page height k one f = f
there_in_leaf (Ok o) told page height k one f = λ rs s. f height rs one s

-- a removal
pub not_missing : (o : Removed) → (o ≡ removed.Missing → ⊥) → was_found o ≡ true
not_missing removed.Missing h = absurd (h refl)
not_missing removed.Done h = refl
not_missing removed.Underfull h = refl
not_missing removed.Emptied h = refl
not_missing (removed.Only child) h = refl

pub found_finds : (r : Result Removed Stop) (told : Option (List (List ℕ))) (page height : ℕ) (k : Key) → IfOk r (λ o. o ≡ removed.Missing → ⊥)
    → Finds told page height k true
    → IfOk r (λ o. Finds told page height k (was_found o))
found_finds (Err e) told page height k some f = some
found_finds (Ok o) told page height k some f = λ rs s. not_missing o some ∙ f rs s

pub found_in_leaf : (r : Result Removed Stop) (told : Option (List (List ℕ))) (page height : ℕ) (k : Key) → height ≡ 1
    → IfOk r (λ o. (h : ℕ) (rs : List Record) → h ≡ 1 → SpellsSubtree told page h rs → was_found o ≡ list_any (has_key k) rs)
    → IfOk r (λ o. Finds told page height k (was_found o))
found_in_leaf (Err e) told page height k one f = f
found_in_leaf (Ok o) told page height k one f = λ rs s. f height rs one s

-- the answer of a removal, once the tree has its new numbers
pub shrunk_answer : (r : Result Bool Stop) (told : Option (List (List ℕ))) (t : Tree) (k : Key) → IfOk r (λ o. o ≡ true)
    → ((rs : List Record) → IsTree told t rs → true ≡ list_any (has_key k) rs)
    → IfOk r (λ o. (rs : List Record) → IsTree told t rs → o ≡ list_any (has_key k) rs)
shrunk_answer (Err e) told t k out f = out
shrunk_answer (Ok o) told t k out f = λ rs is. out ∙ f rs is
