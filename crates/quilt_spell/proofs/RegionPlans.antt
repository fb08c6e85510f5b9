-- The landed plan of a region, by filters of the leaves in the order of their codes, is a plan.
use Rattle.std.proofs.Common.{◌≡◌, ℕ, ◌≤◌, Bool, true, not, ◌&&◌, List, map, filter, Some, subst, Contains, eqb, eqb-true}
use Rattle.std.specs.Prelude.{◌==◌}
use Rattle.std.specs.List.{list_any}
use Rattle.std.specs.Cmp.{nat_cmp_total, on_total}
use Rattle.std.proofs.lemmas.Bool.{and_parts, and_from}
use Rattle.quilt_types.specs.declared.plane.Block.{Block}
use Rattle.quilt_types.specs.Layers.{Region, Grid, IsGrid}
use Rattle.quilt_types.specs.Facts.{same_block}
use Rattle.quilt_types.specs.Quadtrees.{leaves}
use Rattle.quilt_loc.specs.Codes.{Rises, code_from}
use Rattle.quilt_spell.specs.Apart.{SameMembers}
use Rattle.quilt_spell.specs.OfLayer.{leaf_record}
use Rattle.quilt_spell.specs.Changing.{LeadsTo}
use Rattle.quilt_loc.proofs.Members.{Contains-filter, Contains-filter_from}
use Rattle.quilt_spell.proofs.Lists.{Apart-filter, Apart-rises}
use Rattle.quilt_spell.proofs.facts.SameFacts.{itself, block_is, block_itself, any_member, member_any}
use Rattle.quilt_spell.proofs.Changes.{not_true, not_from}
use Rattle.quilt_spell.proofs.InKeyOrder.{by_code}
use Rattle.quilt_spell.proofs.Commands.{IsAlone, region_leads}

-- as in quilt_region
abbrev pub is_leaf : ℕ → Grid → Block × ℕ → Bool
is_leaf n g e = list_any (λ d. same_block d.0 e.0 && (d.1 == e.1)) (leaves n g)

module _ (n : ℕ) (g : Grid) (e : Block × ℕ) where
  test : Block × ℕ → Bool
  test d = same_block d.0 e.0 && (d.1 == e.1)

  leaf_from : is_leaf n g e ≡ true → Contains (leaves n g) e
  unfolding test
  leaf_from t =
      let m = any_member test (leaves n g) t in
      let both = and_parts (same_block m.0.0 e.0) (eqb m.0.1 e.1) m.2 in
      let b = block_is m.0.0 e.0 both.0 in
      let c = eqb-true m.0.1 e.1 both.1 in
      let pair : m.0 ≡ e = λ i. (b i, c i) in
      subst (Contains (leaves n g)) pair m.1

  leaf_true : Contains (leaves n g) e → is_leaf n g e ≡ true
  unfolding test
  leaf_true c = member_any test (leaves n g) e c (and_from (same_block e.0 e.0) (eqb e.1 e.1) (block_itself e.0) (itself e.1))

-- the leaves in the order of their codes that are none of the other grid's
pub alone_from_filter : (n : ℕ) (g other : Grid) (es : List (Block × ℕ)) → Rises by_code es → SameMembers es (leaves n g)
    → IsAlone n g other (filter (λ e. not (is_leaf n other e)) es)
alone_from_filter n g other es up are =
    let out : Block × ℕ → Bool = λ e. not (is_leaf n other e) in record {
      once = Apart-filter out es (Apart-rises by_code (on_total (λ (e : Block × ℕ). code_from e.0) nat_cmp_total) es up);
      only = λ e c.
          let w = Contains-filter_from out es e c in
          ((are e).0 w.0, λ k. not_true (is_leaf n other e) w.1 (leaf_true n other e k));
      all = λ e c away. Contains-filter out es e ((are e).1 c) (not_from (is_leaf n other e) (λ t. away (leaf_from n other e t)));
    }

-- es and fs: the leaves of both grids in the order of their codes
pub region_plan : (form n : ℕ) (name : List ℕ) (number : ℕ) → n ≤ 12 → (g h : Grid) → IsGrid form n g → IsGrid form n h → (es fs : List (Block × ℕ))
    → Rises by_code es → SameMembers es (leaves n g) → Rises by_code fs → SameMembers fs (leaves n h)
    → LeadsTo n name number (Some (Region g)) (Some (Region h)) (map (leaf_record n number) (filter (λ e. not (is_leaf n h e)) es))
    (map (leaf_record n number) (filter (λ e. not (is_leaf n g e)) fs))
region_plan form n name number le g h hg hh es fs ue ae uf af =
    region_leads form n name number le g h hg hh (filter (λ e. not (is_leaf n h e)) es) (filter (λ e. not (is_leaf n g e)) fs)
    (alone_from_filter n g h es ue ae) (alone_from_filter n h g fs uf af)
