-- A page above the leaves that was looked at where it lies.
use Rattle.std.proofs.Common.{◌≡◌, ◌≢◌, ℕ, ◌-◌, ◌≤◌, List, [], length, Option, Some, None, Result, Ok, Err, IfErr, IfSome, slice_index, slice_index_or, refl, sym, ◌∙◌, subst}
use Rattle.std.specs.List.{last_or}
use Rattle.quilt_types.specs.declared.stop.Stop.TheVariants.{Damaged}
use Rattle.quilt_node.specs.Pages.{Inner, leaf_of, inner_of}
use Rattle.quilt_store.specs.Stops.{IsNotDamage}
use Rattle.quilt_types.specs.declared.stop.Stop.{Stop}
use Rattle.quilt_record.specs.declared.key.Key.{Key}
use Rattle.quilt_record.specs.declared.record.Record.{Record}
use Rattle.quilt_btree.specs.Damage.{HasChild, NamesBad}
use Rattle.quilt_store.specs.declared.store.PageStore.{Ghosts}
use Rattle.quilt_btree.specs.Looks.{LooksAt, ShowsFork, ShowsStep, ShowsLast}
use Rattle.quilt_btree.specs.Searches.{AreOf, IsFork, IsStepDown}
use Rattle.quilt_btree.specs.Trees.{SpellsSubtree}
use Rattle.quilt_btree.proofs.ways.Damage.{bad_inner, bad_last}
use Rattle.quilt_btree.proofs.ways.Forks.{IsRead, Forked, forked, forks, are_of, leaf_here, leaf_has_last}

-- a page above the leaves that a call looked at
module _ {S T : Type 0} {g : Ghosts S} {page height size : ℕ} {old new : S} {result : Result T Stop} (looks : LooksAt g page old new result)
    (some : 1 ≤ height) (above : height ≢ 1) (many : IfSome (g.told old) (λ pages. length pages ≡ size)) where
  pub read_of : {bytes : List ℕ} → AreOf (g.told old) page bytes → IsRead (g.told old) (g.told new) page height size bytes
  read_of are = record { some = some; above = above; told = looks.left.told; many = many; are = are }

  pub fork_shown : {k : Key} {child : ℕ} {prior : Option ℕ} {rs : List Record} → ShowsFork (g.told old) page size k child prior
      → SpellsSubtree (g.told old) page height rs → Forked (g.told old) (g.told new) page height k child prior rs
  fork_shown {k} {child} {prior} {rs} f s = forked (g.told old) (g.told new) page height size f.bytes k child prior rs (read_of f.are) f.fork s

-- and then another call, which left the pages as they were
pub read_on : {old new newer : Option (List (List ℕ))} {page height size : ℕ} {bytes : List ℕ} → newer ≡ new → IsRead old new page height size bytes
    → IsRead old newer page height size bytes
read_on e r = record { some = r.some; above = r.above; told = e ∙ r.told; many = r.many; are = r.are }

module _ (told : Option (List (List ℕ))) (page n size : ℕ) (bytes : List ℕ) where
  -- what a look at the bytes shows of the page
  pub shows_fork : (k : Key) (child : ℕ) (prior : Option ℕ) → n ≡ size → IfSome told (λ pages. bytes ≡ slice_index_or pages page [])
      → HasChild n bytes child × IfSome prior (HasChild n bytes) → ((inner : Inner) → inner_of n bytes ≡ Some inner → IsFork k inner child prior)
      → ShowsFork told page size k child prior
  shows_fork k child prior e shown h f =
      subst (λ m. ShowsFork told page m k child prior) e
      (record { bytes = bytes; are = are_of told page bytes shown; stands = h.0; prior_stands = h.1; fork = f })

  pub shows_step : (k : Key) (high : Option Key) (child : ℕ) (next : Option Key) → n ≡ size
      → IfSome told (λ pages. bytes ≡ slice_index_or pages page []) → HasChild n bytes child
      → ((inner : Inner) → inner_of n bytes ≡ Some inner → IsStepDown k inner high child next) → ShowsStep told page size k high child next
  shows_step k high child next e shown h f =
      subst (λ m. ShowsStep told page m k high child next) e (record { bytes = bytes; are = are_of told page bytes shown; stands = h; step = f })

  pub shows_last : (child : ℕ) → n ≡ size → IfSome told (λ pages. bytes ≡ slice_index_or pages page []) → HasChild n bytes child
      → ((inner : Inner) → inner_of n bytes ≡ Some inner → Some child ≡ Some (slice_index inner.children (length inner.children - 1)))
      → ShowsLast told page size child
  shows_last child e shown h f =
      subst (λ m. ShowsLast told page m child) e (record { bytes = bytes; are = are_of told page bytes shown; stands = h; last = f })

-- bytes that are no inner page
abbrev pub AreNoInner : ℕ → List ℕ → Type 0
AreNoInner size bytes = (inner : Inner) → inner_of size bytes ≡ Some inner → ⊥

pub no_child : (size : ℕ) (bytes : List ℕ)
    → ((inner : Inner) → inner_of size bytes ≡ Some inner → None ≡ Some (slice_index inner.children (length inner.children - 1))) → AreNoInner size bytes
no_child size bytes f inner is = differ (slice_index inner.children (length inner.children - 1)) (f inner is)
  where
    differ : (c : ℕ) → None ≡ Some c → ⊥
    differ c h = cc

module _ (told : Option (List (List ℕ))) (page : ℕ) (bytes : List ℕ) where
  -- a leaf that has no last record
  pub end_sound : (e : Stop) → IfSome told (λ pages. bytes ≡ slice_index_or pages page [])
      → ((rs : List Record) → leaf_of bytes ≡ Some rs → None ≡ last_or None rs) → (height : ℕ) (rs : List Record) → height ≡ 1
      → SpellsSubtree told page height rs → IsNotDamage e
  end_sound e shown f height rs one s =
      absurd (leaf_has_last bytes f rs (leaf_here told page height bytes rs one (are_of told page bytes shown) s))

  pub end_bad : IfSome told (λ pages. bytes ≡ slice_index_or pages page []) → ((rs : List Record) → leaf_of bytes ≡ Some rs → None ≡ last_or None rs)
      → (height : ℕ) → height ≡ 1 → NamesBad told height page (Damaged page)
  end_bad shown f height one = bad_last told page height bytes one (are_of told page bytes shown) f

module _ (told : Option (List (List ℕ))) (page height : ℕ) where
  read_at : (n size : ℕ) (bytes : List ℕ) → 1 ≤ height → height ≢ 1 → n ≡ size → IfSome told (λ pages. length pages ≡ size)
      → IfSome told (λ pages. bytes ≡ slice_index_or pages page []) → IsRead told told page height n bytes
  read_at n size bytes some above e many shown = record {
    some = some;
    above = above;
    told = refl;
    many = subst (λ m. IfSome told (λ pages. length pages ≡ m)) (sym e) many;
    are = are_of told page bytes shown;
  }

  pub leaf_sound : {T : Type 0} (r : Result T Stop) → height ≡ 1
      → IfErr r (λ e. (height : ℕ) (rs : List Record) → height ≡ 1 → SpellsSubtree told page height rs → IsNotDamage e)
      → IfErr r (λ e. (rs : List Record) → SpellsSubtree told page height rs → IsNotDamage e)
  leaf_sound (Ok v) one f = f
  leaf_sound (Err e) one f = λ rs s. f height rs one s

module _ (told : Option (List (List ℕ))) (page n size : ℕ) (bytes : List ℕ) (same : n ≡ size) (many : IfSome told (λ pages. length pages ≡ size))
    (shown : IfSome told (λ pages. bytes ≡ slice_index_or pages page [])) where
  pub inner_sound : (e : Stop) → AreNoInner n bytes → (height : ℕ) (rs : List Record) → 1 ≤ height → height ≢ 1 → SpellsSubtree told page height rs
      → IsNotDamage e
  inner_sound e none height rs some above s =
      forks told told page height n bytes e (read_at told page height n size bytes some above same many shown) none rs s

  pub inner_bad : AreNoInner n bytes → (height : ℕ) → 1 ≤ height → height ≢ 1 → NamesBad told height page (Damaged page)
  inner_bad none height some above =
      bad_inner told told page height n bytes (read_at told page height n size bytes some above same many shown) none
