-- What is said of a store is said of one that tells the same pages, of which the same are free.
use Rattle.std.proofs.Common.{◌≡◌, ℕ, Bool, List, Option, Result, Ok, Err, IfErr, sym, subst}
use Rattle.quilt_record.specs.declared.key.Key.{Key}
use Rattle.quilt_record.specs.declared.record.Record.{Record}
use Rattle.quilt_node.specs.Tree.{Bounds}
use Rattle.quilt_types.specs.declared.stop.Stop.{Stop}
use Rattle.quilt_store.specs.Stops.{IsNotDamage}
use Rattle.quilt_btree.specs.Edits.{CanInsert}

-- the same pages, the same of them free, and as many
pub record IsSame (told then_told : Option (List (List ℕ))) (free then_free : ℕ → Bool) (size then_size : ℕ) : Type 0 where
  pub same_pages : then_told ≡ told
  pub same_free : then_free ≡ free
  pub same_size : then_size ≡ size

module _ (told then_told : Option (List (List ℕ))) (free then_free : ℕ → Bool) (size then_size page height : ℕ) (is_root : Bool) (b : Bounds)
    (rs : List Record) (used : List ℕ) where
  pub can_along : (k : Key) → IsSame told then_told free then_free size then_size → CanInsert told free size page height is_root b k rs used
      → CanInsert then_told then_free then_size page height is_root b k rs used
  can_along k is can =
      subst (λ t. CanInsert t then_free then_size page height is_root b k rs used) (sym is.same_pages)
      (subst (λ f. CanInsert told f then_size page height is_root b k rs used) (sym is.same_free)
      (subst (λ n. CanInsert told free n page height is_root b k rs used) (sym is.same_size) can))

-- an error behind a call that changed nothing
pub sound_along : {T : Type 0} (result : Result T Stop) {told then_told : Option (List (List ℕ))} {free then_free : ℕ → Bool}
    {size then_size : ℕ} (page height : ℕ) (k : Key)
    → IsSame told then_told free then_free size then_size
    → IfErr result (λ e. (is_root : Bool) (b : Bounds) (rs : List Record) (used : List ℕ)
    → CanInsert then_told then_free then_size page height is_root b k rs used → IsNotDamage e)
    → IfErr result (λ e. (is_root : Bool) (b : Bounds) (rs : List Record) (used : List ℕ)
    → CanInsert told free size page height is_root b k rs used → IsNotDamage e)
sound_along (Ok x) page height k is f = f
sound_along (Err e) {told} {then_told} {free} {then_free} {size} {then_size} page height k is f =
    λ is_root b rs used can. f is_root b rs used (can_along told then_told free then_free size then_size page height is_root b rs used k is can)
