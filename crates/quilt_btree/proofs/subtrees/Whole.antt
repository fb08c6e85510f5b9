-- The whole tree from its root.
use Rattle.std.proofs.Common.{◌≡◌, ◌≢◌, ℕ, zero, suc, ◌≤◌, true, List, [], Option, None, Result, Ok, Err, IfOk, IfErr, refl, sym, ap, subst, arith}
use Rattle.quilt_record.specs.declared.key.Key.{Key}
use Rattle.quilt_record.specs.declared.record.Record.{Record}
use Rattle.quilt_node.specs.Tree.{Whole, walk_of}
use Rattle.quilt_types.specs.declared.stop.Stop.{Stop}
use Rattle.quilt_btree.specs.declared.tree.Tree.{Tree}
use Rattle.quilt_btree.specs.Lists.{value_at_key, floor_of}
use Rattle.quilt_store.specs.Stops.{IsNotDamage}
use Rattle.quilt_btree.specs.Subtree.{Subtree}
use Rattle.quilt_btree.specs.Trees.{SpellsSubtree, IsTree}
use Rattle.quilt_btree.proofs.subtrees.Walks.{walk_found}

whole_spells : (told : Option (List (List ℕ))) (t : Tree) (rs : List Record) (height : ℕ) → t.height ≡ height → 1 ≤ height → IsTree told t rs
    → (s : SpellsSubtree told t.root t.height rs) × (s.bounds.high ≡ None)
unfolding walk_of
whole_spells told t rs zero e some is = absurd (omega arith)
whole_spells told t rs (suc h) e some is =
    let found = walk_found is.pages (suc h) true (t.root, record { low = None; high = None }) [] rs is.visited
    (subst (λ n. walk_of is.pages t.root n ≡ Whole rs is.visited) e is.walk) in (
      record {
        pages = is.pages;
        is_told = is.is_told;
        is_root = true;
        bounds = record { low = None; high = None };
        used = found.used;
        subtree = subst (λ n. Subtree is.pages n true (t.root, record { low = None; high = None }) rs found.used) (sym e) found.spells;
      },
      refl,
    )

pub tree_spells : (told : Option (List (List ℕ))) (t : Tree) (rs : List Record) → t.height ≢ 0 → IsTree told t rs
    → (s : SpellsSubtree told t.root t.height rs) × (s.bounds.high ≡ None)
tree_spells told t rs ne is = let some : 1 ≤ t.height = omega arith in whole_spells told t rs t.height refl some is

pub no_records : (told : Option (List (List ℕ))) (t : Tree) (rs : List Record) → t.height ≡ 0 → IsTree told t rs → rs ≡ []
unfolding walk_of
no_records told t rs e is = let h = subst (λ n. walk_of is.pages t.root n ≡ Whole rs is.visited) e is.walk in cc

pub no_value : (told : Option (List (List ℕ))) (t : Tree) (rs : List Record) (k : Key) → t.height ≡ 0 → IsTree told t rs → None ≡ value_at_key k rs
unfolding value_at_key
no_value told t rs k e is = sym (ap (value_at_key k) (no_records told t rs e is))

pub no_floor : (told : Option (List (List ℕ))) (t : Tree) (rs : List Record) (k : Key) → t.height ≡ 0 → IsTree told t rs → None ≡ floor_of k rs
unfolding floor_of
no_floor told t rs k e is = sym (ap (floor_of k) (no_records told t rs e is))

pub sound_whole : (e : Stop) (told : Option (List (List ℕ))) (t : Tree) → t.height ≢ 0
    → ((rs : List Record) → SpellsSubtree told t.root t.height rs → IsNotDamage e) → (rs : List Record) → IsTree told t rs → IsNotDamage e
sound_whole e told t ne f rs is = f rs (tree_spells told t rs ne is).0

pub sound_result : {T : Type 0} (r : Result T Stop) (told : Option (List (List ℕ))) (t : Tree) → t.height ≢ 0
    → IfErr r (λ e. (rs : List Record) → SpellsSubtree told t.root t.height rs → IsNotDamage e) → IfErr r (λ e. (rs : List Record) → IsTree told t rs → IsNotDamage e)
sound_result (Ok x) told t ne f = f
sound_result (Err e) told t ne f = sound_whole e told t ne f

pub floor_whole : (r : Result (Option Record) Stop) (told : Option (List (List ℕ))) (t : Tree) (k : Key) → t.height ≢ 0
    → IfOk r (λ v. (rs : List Record) → SpellsSubtree told t.root t.height rs → v ≡ floor_of k rs)
    → IfOk r (λ v. (rs : List Record) → IsTree told t rs → v ≡ floor_of k rs)
floor_whole (Err e) told t k ne f = f
floor_whole (Ok v) told t k ne f = λ rs is. f rs (tree_spells told t rs ne is).0
