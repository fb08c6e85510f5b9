-- What a book keeps has one proof at most, so a ghost field can keep it.
use Rattle.std.specs.Prelude.{◌≡◌, ℕ, Bool, List, [], Option, Some, None}
use Rattle.std.proofs.Common.{◌∙◌, sym, ap, unwrap_or}
use Rattle.std.proofs.Props.{props}
use mathlib.Core.HLevel.{Unit-prop, Σ_prop_path}
use Rattle.quilt_world.specs.Stops.{fixed}
use Rattle.quilt_world.specs.Tale.{Tale}
use Rattle.quilt_journal.specs.Changed.{View}
use Rattle.quilt_journal.specs.Kept.{GateIs, IsIdle, is_open_page}
use Rattle.quilt_journal.specs.declared.journal.State.TheVariants.{Idle, Sealed, Carried}
use Rattle.quilt_node.specs.declared.head.Head.{Head}
use Rattle.quilt_node.specs.Pages.{IsHead}
use Rattle.quilt_pool.specs.Entries.{Entries, IsClean, AreBelow}
use Rattle.quilt_edition.specs.Keeping.{IsBook, IsKeptBy, WhileIdle}

-- there is one proof at most of how the gate stands
pub GateIs-prop : (b : Bool) (t : Tale) → IsProp (GateIs b t)
GateIs-prop b t =
    λ x y.
    let S : Type 0 = (bytes : List ℕ) × ((fixed t 1 ≡ Some bytes) × (is_open_page bytes ≡ b)) in
    let u : S = (x.bytes, (x.there, x.opens)) in
    let v : S = (y.bytes, (y.there, y.opens)) in
    let same : x.bytes ≡ y.bytes = ap (λ (o : Option (List ℕ)). unwrap_or o []) (sym x.there ∙ y.there) in
    let both : u ≡ v = Σ_prop_path (λ (bytes : List ℕ). Prim.hlevel props) {u = u} {v = v} same in
    ap (λ (s : S). record { bytes = s.0; there = s.1.0; opens = s.1.1 }) both

-- there is one proof at most that the journal is idle over the disk
pub IsIdle-prop : (n : ℕ) (changed : List Bool) (t : Tale) → IsProp (IsIdle n changed t)
IsIdle-prop n changed t = Prim.hlevel (props, GateIs-prop)

-- there is one proof at most that the entries that are not dirty have the bytes of the pages
pub IsClean-prop : (es : Entries) (pages : List (List ℕ)) → IsProp (IsClean es pages)
IsClean-prop es pages = Prim.hlevel props

-- there is one proof at most that all entries are of home pages other than the header
pub AreBelow-prop : (n : ℕ) (es : Entries) → IsProp (AreBelow n es)
AreBelow-prop n es = Prim.hlevel props

-- there is one proof at most of what a book keeps of a disk
pub IsBook-prop : (j : View) (es : Entries) (last : Head) (t : Tale) → IsProp (IsBook j es last t)
IsBook-prop j es last t = Prim.hlevel (props, IsIdle-prop, IsClean-prop)

-- there is one proof at most of what a book keeps of a world, told or not
pub IsKeptBy-prop : (j : View) (es : Entries) (last : Head) (told : Option Tale) → IsProp (IsKeptBy j es last told)
IsKeptBy-prop j es last None = Unit-prop
IsKeptBy-prop j es last (Some t) =
    (elim j.state as (λ s. IsProp (WhileIdle s (IsBook j es last t))) [ Idle ↦ IsBook-prop j es last t | Sealed ↦ Unit-prop | Carried ↦ Unit-prop ])

-- there is one proof at most that the numbers of a header are in their ranges
pub IsHead-prop : (n : ℕ) (h : Head) → IsProp (IsHead n h)
IsHead-prop n h = Prim.hlevel props
