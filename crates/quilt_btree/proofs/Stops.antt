-- The page that a stop names, and that of a stop that is handed on.
use Rattle.std.proofs.Common.{◌≡◌, ◌≢◌, refl, ℕ, List, Option, Result, IfErr, sym, subst, arith}
use Rattle.std.specs.Result.{IsErrAnd}
use Rattle.std.proofs.lemmas.Result.{IfErr-weaker}
use Rattle.quilt_types.specs.declared.stop.Stop.{Stop}
use Rattle.quilt_types.specs.declared.stop.Stop.TheVariants.{Device, Memory, Damaged}
use Rattle.quilt_record.specs.declared.record.Record.{Record}
use Rattle.quilt_store.specs.Stops.{IsNotDamage}
use Rattle.quilt_btree.specs.declared.tree.Tree.{Tree}
use Rattle.quilt_btree.specs.Damage.{NamesBad}
use Rattle.quilt_btree.specs.Stops.{NamesPage}
use Rattle.quilt_btree.specs.Trees.{IsTree}
use Rattle.quilt_btree.proofs.Handed.{handed_on}

-- what is no damage names no page but 0
pub sound_zero : (e : Stop) → IsNotDamage e → NamesPage 1 e
sound_zero Device sound = tt
sound_zero Memory sound = tt
sound_zero (Damaged page) sound = absurd (sound page refl)

-- nor does what names page 0 alone
pub zero_page : (e : Stop) → ((page : ℕ) → e ≡ Damaged page → page ≡ 0) → NamesPage 1 e
zero_page Device zero = tt
zero_page Memory zero = tt
zero_page (Damaged page) zero = let is = zero page refl in omega arith

-- a tree has the same records where the store tells the same
pub tree_along : (old new : Option (List (List ℕ))) (t : Tree) (rs : List Record) → new ≡ old → IsTree old t rs → IsTree new t rs
tree_along old new t rs same is = subst (λ (told : Option (List (List ℕ))). IsTree told t rs) (sym same) is

-- what an answer says of its page, where the store tells the same as before
pub zero_along : {T : Type 0} {old new : Option (List (List ℕ))} (t : Tree) (r : Result T Stop) → new ≡ old
    → IfErr r (λ e. (rs : List Record) → IsTree new t rs → NamesPage 1 e) → IfErr r (λ e. (rs : List Record) → IsTree old t rs → NamesPage 1 e)
zero_along {old = old} {new = new} t r same = IfErr-weaker r _ _ (λ e zero rs is. zero rs (tree_along old new t rs same is))

-- an answer whose stop is handed on
pub sound_handed : {T : Type 0} {e : Stop} {P : List Record → Type 0} (r : Result T Stop) → IsErrAnd r (λ y. y ≡ e)
    → ((rs : List Record) → P rs → IsNotDamage e) → IfErr r (λ e. (rs : List Record) → P rs → NamesPage 1 e)
sound_handed {e = e} r on sound = rw (handed_on r on) (λ rs is. sound_zero e (sound rs is))

module _ {T : Type 0} {old new : Option (List (List ℕ))} (e : Stop) (r : Result T Stop) (on : IsErrAnd r (λ y. y ≡ e)) (t : Tree) (same : new ≡ old) where
  pub zero_handed : ((rs : List Record) → IsTree new t rs → NamesPage 1 e) → IfErr r (λ e. (rs : List Record) → IsTree old t rs → NamesPage 1 e)
  zero_handed zero = rw (handed_on r on) (λ rs is. zero rs (tree_along old new t rs same is))

  pub bad_handed : (e ≢ Damaged 0 → NamesBad new t.height t.root e) → IfErr r (λ e. e ≢ Damaged 0 → NamesBad old t.height t.root e)
  bad_handed bad = rw (handed_on r on) (λ ne. subst (λ (told : Option (List (List ℕ))). NamesBad told t.height t.root e) same (bad ne))
