-- What is answered of the records of a layer, said of a tree that has the layer.
use Rattle.std.proofs.Common.{◌≡◌, ℕ, List, Option, Result, Ok, Err, IfOk, IfErr}
use Rattle.std.specs.Prelude.{IsErrOf}
use Rattle.std.specs.Result.{IsErrAnd}
use Rattle.quilt_types.specs.declared.stop.Stop.{Stop}
use Rattle.quilt_types.specs.declared.stop.Stop.TheVariants.{Device}
use Rattle.quilt_types.specs.Layers.{Grid, IsGrid}
use Rattle.quilt_record.specs.declared.record.Record.{Record}
use Rattle.quilt_blocks.specs.Raster.{Raster}
use Rattle.quilt_btree.specs.declared.tree.Tree.{Tree}
use Rattle.quilt_store.specs.declared.store.PageStore.{Ghosts}
use Rattle.quilt_store.specs.Calls.{OnlyReads}
use Rattle.quilt_store.specs.Stops.{IsNotDamage}
use Rattle.quilt_store.proofs.Reading.{only_reads_free}
use Rattle.quilt_region.specs.Regions.{region_records, HasRegion}

module _ (told : Option (List (List ℕ))) (t : Tree) (layer n : ℕ) (items : List Record) (read : (g : Grid) → HasRegion told t layer n g
    → items ≡ region_records n layer g) where
  pub list_whole : (r : Result Raster Stop) → IfOk r (λ l. (g : Grid) → IsGrid 2 n g → items ≡ region_records n layer g → l ≡ record { level = n; grid = g })
      → IfOk r (λ l. (g : Grid) → HasRegion told t layer n g → l ≡ record { level = n; grid = g })
  list_whole (Ok l) f = λ g h. f g h.spelled.grid (read g h)
  list_whole (Err e) f = f

  pub sound_whole : {T : Type 0} (r : Result T Stop) → IfErr r (λ e. (g : Grid) → items ≡ region_records n layer g → IsNotDamage e)
      → IfErr r (λ e. (g : Grid) → HasRegion told t layer n g → IsNotDamage e)
  sound_whole (Ok l) f = f
  sound_whole (Err e) f = λ g h. f g (read g h)

-- whatever is answered
pub if_ok : {T U : Type 0} (r : Result T U) (P : Type 0) → P → IfOk r (λ x. P)
if_ok (Ok x) P p = p
if_ok (Err e) P p = tt

-- what follows from two things that are said of an answer
pub if_ok_from : {T E : Type 0} {P Q R : T → Type 0} (r : Result T E) → IfOk r P → IfOk r Q → ((x : T) → P x → Q x → R x) → IfOk r R
if_ok_from (Ok x) p q f = f x p q
if_ok_from (Err e) p q f = tt

-- a call, and behind it an error handed on that is no fault of the device
pub only_reads_no_fault : {S T U V : Type 0} (g : Ghosts S) {s t : S} {first : Result T Stop} {e : Stop} (r : Result V Stop) → IsErrAnd r (λ y. y ≡ e)
    → (IsErrOf {T = U} {E = Stop} (Err e) Device → ⊥) → OnlyReads g s t first → OnlyReads g s t r
only_reads_no_fault g (Ok v) on never a = absurd on
only_reads_no_fault g {e = e} (Err y) on never a = only_reads_free g (Err y) a (λ is. never (same e y on is))
  where
    same : {T U : Type 0} (x z : Stop) → z ≡ x → IsErrOf {T = U} {E = Stop} (Err z) Device → IsErrOf {T = T} {E = Stop} (Err x) Device
    same {T} {U} x z e is = cc
