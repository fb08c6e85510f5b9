-- A plan of records as the tree takes it, and the work that it makes.
use Rattle.std.proofs.Common.{◌≡◌, ℕ, ◌≤◌, true, false, List, [], ◌∷◌, Option, None, Contains, refl, sym, ◌∙◌, ap, subst}
use Rattle.std.specs.FinMap as finmap
use Rattle.std.specs.List.{list_any}
use Rattle.std.proofs.lemmas.Bool.{and_from, or_from}
use Rattle.quilt_types.specs.Layers.{Layer, Map}
use Rattle.quilt_loc.proofs.Members.{Contains-here, Contains-there}
use Rattle.quilt_record.specs.declared.record.Record.{Record}
use Rattle.quilt_record.specs.Records.{Numbering}
use Rattle.quilt_record.specs.Lists.{has_key, put, without}
use Rattle.quilt_node.specs.Nodes.{keys_of}
use Rattle.quilt_btree.specs.Runs.{put_all, has_any, without_all, has_each}
use Rattle.quilt_spell.specs.Applying.{taken, given}
use Rattle.quilt_spell.specs.Laws.{IsStepped}
use Rattle.quilt_spell.specs.Spelled.{SpellsUnder}
use Rattle.quilt_spell.specs.Stepping.{IsStep}
use Rattle.quilt_spell.proofs.Applying.{taken_members}
use Rattle.quilt_spell.proofs.Laws.{step}
use Rattle.quilt_spell.proofs.Looping.{has_some, has_none}
use Rattle.quilt_spell.proofs.Stepping.{step_there, step_apart}

-- ---- lists

-- the tree's words for records taken out and put in, and those of spelling
pub taken_as : (removed rs : List Record) → without_all (keys_of removed) rs ≡ taken rs removed
taken_as [] rs = refl
taken_as (r ∷ removed) rs = taken_as removed (without r.key rs)

pub given_as : (added rs : List Record) → put_all added rs ≡ given rs added
given_as [] rs = refl
given_as (r ∷ added) rs = given_as added (put r rs)

pub each_of : (rs removed : List Record) → ((r : Record) → Contains removed r → Contains rs r) → has_each (keys_of removed) rs ≡ true
each_of rs [] there = refl
each_of rs (r ∷ removed) there =
    and_from (list_any (has_key r.key) rs) (has_each (keys_of removed) rs) (has_some rs r (there r (Contains-here r removed)))
    (each_of rs removed (λ s c. there s (Contains-there r removed s c)))

pub none_of : (left added : List Record) → ((r s : Record) → Contains added r → Contains left s → r.key ≡ s.key → ⊥) → has_any added left ≡ false
none_of left [] apart = refl
none_of left (r ∷ added) apart =
    or_from (list_any (has_key r.key) left) (has_any added left) (has_none r.key left (λ s c. apart r s (Contains-here r added) c))
    (none_of left added (λ q s c. apart q s (Contains-there r added q c)))

-- ---- a plan

module _ (form n : ℕ) (numbers : Numbering) (rs : List Record) (layers : Map) (le : n ≤ 12) (s : SpellsUnder form n numbers rs layers)
    (name : List ℕ) (number : ℕ)
    (new : Option Layer) (removed added : List Record) (is : IsStep form n layers numbers name number new removed added) where
  pub plan_there : has_each (keys_of removed) rs ≡ true
  plan_there = each_of rs removed (step_there form n numbers rs layers le s name number new removed added is)

  pub plan_new : has_any added (without_all (keys_of removed) rs) ≡ false
  plan_new =
      subst (λ (l : List Record). has_any added l ≡ false) (sym (taken_as removed rs))
      (none_of (taken rs removed) added (λ r t c d e.
      let m = (taken_members rs removed s.ascending is.leads.remove_once (step_there form n numbers rs layers le s name number new removed added is) t).0 d in
      step_apart form n numbers rs layers le s name number new removed added is r t c m.0 m.1 e))

  pub plan_stepped : (finmap.get layers name ≡ None → new ≡ None → ⊥) → IsStepped form n layers numbers rs name number new removed added
  plan_stepped some = step form n layers numbers rs name number new removed added le s is some

  pub plan_list : put_all added (without_all (keys_of removed) rs) ≡ given (taken rs removed) added
  plan_list = given_as added (without_all (keys_of removed) rs) ∙ ap (λ (l : List Record). given l added) (taken_as removed rs)
