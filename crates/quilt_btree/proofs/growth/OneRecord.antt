-- A record put in below an inner page, which is a run of one.
use Rattle.std.proofs.Common.{◌≡◌, ℕ, ◌+◌, ◌-◌, ◌<◌, ◌≤◌, Bool, true, false, not, ◌&&◌, List, [], ◌∷◌, ◌++◌, length, Option, Some}
use Rattle.std.proofs.Common.{Result, Ok, Err, IfOk, IfErr, refl, ap}
use Rattle.std.proofs.lemmas.Bool.{and_from}
use Rattle.std.specs.Prelude.{slice_get}
use Rattle.std.specs.List.{list_any}
use Rattle.std.specs.Option.{option_or}
use Rattle.std.specs.Ordering.{is_le}
use Rattle.quilt_record.specs.declared.key.Key.{Key}
use Rattle.quilt_record.specs.declared.record.Record.{Record}
use Rattle.quilt_record.specs.Records.{key_cmp}
use Rattle.quilt_record.specs.Lists.{has_key}
use Rattle.quilt_types.specs.declared.stop.Stop.{Stop}
use Rattle.quilt_node.specs.Pages.{Inner, inner_of}
use Rattle.quilt_node.specs.Edits.{with_child}
use Rattle.quilt_node.specs.Tree.{Bounds, is_below}
use Rattle.quilt_store.specs.Store.{count_free}
use Rattle.quilt_store.specs.Stops.{IsNotDamage}
use Rattle.quilt_btree.specs.declared.edit.Edit.TheVariants as edit
use Rattle.quilt_btree.specs.declared.outcomes.Inserted.{Inserted}
use Rattle.quilt_btree.specs.declared.outcomes.Inserted.TheVariants as inserted
use Rattle.quilt_btree.specs.Edits.{HasInserted, CanInsert, DidInsert}
use Rattle.quilt_btree.specs.Inserts.{IsPending, DidPut, AreFew}
use Rattle.quilt_btree.specs.Placing.{HasPlaced, DidPlace}
use Rattle.quilt_btree.specs.Trees.{SpellsSubtree}
use Rattle.quilt_btree.proofs.growth.Below.{LeadsToChild, edit_spells}
use Rattle.quilt_btree.proofs.growth.UnderGrowth.{Places, RunLeads, IsLedIn, under_there, under_done, page_took, page_sound}
use Rattle.quilt_btree.proofs.stores.Writes.{TellsAll}
use Rattle.quilt_btree.proofs.ways.Leaves.{same_le}

module _ (told now_told : Option (List (List ℕ))) (free now : ℕ → Bool) (size page height : ℕ) where
  -- what an insertion does to the subtree at a page
  abbrev pub Inserts : Record → Inserted → Type 0
  Inserts r o =
      (is_root : Bool) (b : Bounds) (rs : List Record) (used : List ℕ) → CanInsert told free size page height is_root b r.key rs used
      → DidInsert r told now_told free now page height is_root b rs used o

-- a record that is put in is a run of one
none_there : (t : Bool) → (not t && true) ≡ true → t ≡ false
none_there true h = cc
none_there false h = refl

is_there : (t : Bool) → (not t && true) ≡ false → t ≡ true
is_there true h = refl
is_there false h = cc

module _ (r : Record) (pages news : List (List ℕ)) (free now : ℕ → Bool) (page height : ℕ) (is_root : Bool) (b : Bounds) (rs : List Record)
    (used : List ℕ) where
  is_placed : (o : Inserted) → HasInserted r pages news free now page height is_root b rs used o
      → HasPlaced (edit.Put r ∷ []) pages news free now page height is_root b rs used o
  is_placed inserted.There h = ap (λ t. not t && true) h
  is_placed inserted.Done h = (ap (λ t. not t && true) h.0, h.1)
  is_placed (inserted.Split key right) h = (ap (λ t. not t && true) h.0, h.1)

  is_inserted : (o : Inserted) → HasPlaced (edit.Put r ∷ []) pages news free now page height is_root b rs used o
      → HasInserted r pages news free now page height is_root b rs used o
  is_inserted inserted.There h = is_there (list_any (has_key r.key) rs) h
  is_inserted inserted.Done h = (none_there (list_any (has_key r.key) rs) h.0, h.1)
  is_inserted (inserted.Split key right) h = (none_there (list_any (has_key r.key) rs) h.0, h.1)

module _ {r : Record} {told now_told : Option (List (List ℕ))} {free now : ℕ → Bool} {page height : ℕ} {is_root : Bool} {b : Bounds}
    {rs : List Record} {used : List ℕ} {o : Inserted} where
  pub placed_one : DidInsert r told now_told free now page height is_root b rs used o → is_below b.high r.key ≡ true
      → DidPlace (edit.Put r ∷ []) told now_told free now page height is_root b rs used o
  placed_one did below = record {
    pages = did.pages;
    news = did.news;
    was = did.was;
    is = did.is;
    under = and_from (is_below b.high r.key) true below refl;
    done = is_placed r did.pages did.news free now page height is_root b rs used o did.done;
  }

  pub inserted_one : DidPlace (edit.Put r ∷ []) told now_told free now page height is_root b rs used o
      → DidInsert r told now_told free now page height is_root b rs used o
  inserted_one did = record {
    pages = did.pages;
    news = did.news;
    was = did.was;
    is = did.is;
    done = is_inserted r did.pages did.news free now page height is_root b rs used o did.done;
  }

-- what is said of a record, said of the run
pub places_one : {r : Record} {told now_told : Option (List (List ℕ))} {free now : ℕ → Bool} {size page height : ℕ} (high : Option Key) (o : Inserted)
    → Inserts told now_told free now size page height r o → Places told now_told free now size page height (edit.Put r ∷ []) r.key high o
places_one high o f = λ is_root b rs used top can. placed_one (f is_root b rs used can) can.high

leads_one : (r : Record) (inner : Inner) (i : ℕ) (high : Option Key)
    → RunLeads (edit.Put r ∷ []) r.key inner i high (option_or (slice_get inner.keys i) high)
leads_one r inner i high = record { is_next = refl; from = and_from (is_le (key_cmp r.key r.key)) true (same_le r.key) refl }

module _ {r : Record} {told then_told now_told : Option (List (List ℕ))} {free then_free now : ℕ → Bool} {size then_size page height child i : ℕ}
    {inner : Inner} {is_root : Bool} {b : Bounds} {rs : List Record} {used : List ℕ}
    (l : LeadsToChild told then_told free then_free size then_size page height child i r.key inner)
    (can : CanInsert told free size page height is_root b r.key rs used) where
  pub one_there : Inserts then_told now_told then_free now then_size child (height - 1) r inserted.There
      → DidInsert r told now_told free now page height is_root b rs used inserted.There
  one_there f =
      inserted_one (under_there l (leads_one r inner i b.high) refl can (places_one (option_or (slice_get inner.keys i) b.high) inserted.There f))

  pub one_done : Inserts then_told now_told then_free now then_size child (height - 1) r inserted.Done
      → DidInsert r told now_told free now page height is_root b rs used inserted.Done
  one_done f =
      inserted_one (under_done l (leads_one r inner i b.high) refl can (places_one (option_or (slice_get inner.keys i) b.high) inserted.Done f))

module _ {r : Record} {told then_told mid_told : Option (List (List ℕ))} {free then_free mid : ℕ → Bool} {size then_size page height child i : ℕ}
    {key : Key} {right n : ℕ} {bytes : List ℕ}
    (leads : (rs : List Record) → SpellsSubtree told page height rs
    → IsLedIn told then_told free then_free size then_size page height child i r.key n bytes)
    (many : TellsAll told size) (in_range : (1 ≤ right) × (right < size))
    (f : Inserts then_told mid_told then_free mid then_size child (height - 1) r (inserted.Split key right)) where
  -- the page took it
  pub took_child : (result : Result Inserted Stop) (now_told : Option (List (List ℕ))) (now : ℕ → Bool)
      → IfOk result (λ o. (inner : Inner) → inner_of n bytes ≡ Some inner → (is_root : Bool) (b : Bounds) (all : List Record) (under : List ℕ)
      → IsPending mid_told mid page is_root b (with_child inner i key right) all under → DidPut mid_told now_told mid now page inner.height is_root b (under ++ page ∷ []) all o)
      → IfOk result (λ o. (is_root : Bool) (b : Bounds) (rs : List Record) (used : List ℕ) → CanInsert told free size page height is_root b r.key rs used
      → DidInsert r told now_told free now page height is_root b rs used o)
  took_child (Err e) now_told now g = g
  took_child (Ok o) now_told now g =
      λ is_root b rs used can.
      let d = leads rs (edit_spells can.can_edit) in
      inserted_one (page_took d.leads (leads_one r d.inner i b.high) many in_range
      (places_one (option_or (slice_get d.inner.keys i) b.high) (inserted.Split key right) f) refl can
      o now_told now (g d.inner d.is is_root b))

  -- where the page does not take it, no page is damaged
  pub sound_child : (result : Result Inserted Stop) (mid_size : ℕ) → mid_size ≡ size → count_free free size ≤ count_free mid size + (height - 1)
      → IfErr result (λ e. (inner : Inner) → inner_of n bytes ≡ Some inner → inner.height ≡ height
      → (is_root : Bool) (b : Bounds) (all : List Record) (under : List ℕ)
      → IsPending mid_told mid page is_root b (with_child inner i key right) all under → 0 < count_free mid mid_size → (inner.height ≡ 3
      → length inner.children < 254) → IsNotDamage e)
      → IfErr result (λ e. (is_root : Bool) (b : Bounds) (rs : List Record) (used : List ℕ) → CanInsert told free size page height is_root b r.key rs used
      → AreFew rs → IsNotDamage e)
  sound_child (Ok o) mid_size same few g = g
  sound_child (Err e) mid_size same few g =
      λ is_root b rs used can small.
      let d = leads rs (edit_spells can.can_edit) in
      page_sound d.leads (leads_one r d.inner i b.high) many in_range
      (places_one (option_or (slice_get d.inner.keys i) b.high) (inserted.Split key right) f) refl can
      e mid_size same few small (g d.inner d.is d.is_height is_root b)
