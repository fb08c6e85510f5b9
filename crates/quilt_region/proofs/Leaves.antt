-- Which leaves a grid has, and the records of those that only one of two grids has.
use Rattle.std.proofs.Common.{◌≡◌, ℕ, ◌≤◌, Bool, true, false, ◌&&◌, ◌==◌, not, cond, List, [], ◌∷◌, ◌++◌, map, filter, refl, sym, ◌∙◌, ap, subst, ⊎_elim}
use Rattle.std.proofs.Common.{Contains, eq-eqb, eqb-true, append_assoc}
use Rattle.std.specs.List.{list_any}
use Rattle.std.proofs.lemmas.Bool.{and_parts, and_from, or_cases, or_left, or_right, not-true}
use Rattle.quilt_types.specs.declared.plane.Block.{Block}
use Rattle.quilt_types.specs.Layers.{Grid}
use Rattle.quilt_types.specs.Facts.{same_block}
use Rattle.quilt_types.specs.Quadtrees.{is_uniform, coloured, maximal_blocks, leaves}
use Rattle.quilt_loc.proofs.Members.{Contains-nil, Contains-here, Contains-there, Contains-cons_cases, Contains-map, Contains-map_from, Contains-filter_from}
use Rattle.quilt_record.specs.declared.record.Record.{Record}
use Rattle.quilt_blocks.specs.Cutting.{leaves_by_code}
use Rattle.quilt_blocks.specs.Mosaic.{HasColour}
use Rattle.quilt_blocks.proofs.Colours.{colour_is}
use Rattle.quilt_blocks.proofs.Maximal.{IsMaximal, Contains-maximal}
use Rattle.quilt_blocks.proofs.Cuts.{IsLeaf, leaf_is, leaves_members}
use Rattle.quilt_spell.specs.OfLayer.{leaf_record}
use Rattle.quilt_region.specs.Regions.{region_records}
use Rattle.quilt_region.specs.Plans.{is_leaf, records_without}
use Rattle.quilt_region.proofs.Records.{leaf_alone}

true_false : true ≡ false → ⊥
true_false e = cc

any_from : {X : Type 0} (p : X → Bool) (xs : List X) → list_any p xs ≡ true → (x : X) × Contains xs x × (p x ≡ true)
any_from p [] h = absurd (true_false (sym h))
any_from p (x ∷ xs) h =
    ⊎_elim (λ t. (x, Contains-here x xs, t)) (λ t. let r = any_from p xs t in (r.0, Contains-there x xs r.0 r.1, r.2)) (or_cases (p x) (list_any p xs) h)

any_at : {X : Type 0} (p : X → Bool) (xs : List X) (x : X) → Contains xs x → p x ≡ true → list_any p xs ≡ true
any_at p [] x c t = absurd (Contains-nil x c)
any_at p (y ∷ xs) x c t =
    ⊎_elim (λ is. or_left (p y) (list_any p xs) (ap p is ∙ t)) (λ d. or_right (p y) (list_any p xs) (any_at p xs x d t)) (Contains-cons_cases y xs x c)

abbrev same_leaf : Block × ℕ → Block × ℕ → Bool
same_leaf d e = same_block d.0 e.0 && (d.1 == e.1)

same_is : (d e : Block × ℕ) → same_leaf d e ≡ true → d ≡ e
same_is d e t =
    let both = and_parts (same_block d.0 e.0) (d.1 == e.1) t in
    let block = and_parts (((d.0).x == (e.0).x) && ((d.0).y == (e.0).y)) ((d.0).side == (e.0).side) both.0 in
    let at = and_parts ((d.0).x == (e.0).x) ((d.0).y == (e.0).y) block.0 in
    let x = eqb-true (d.0).x (e.0).x at.0 in
    let y = eqb-true (d.0).y (e.0).y at.1 in
    let size = eqb-true (d.0).side (e.0).side block.1 in
    let colour = eqb-true d.1 e.1 both.1 in
    λ i. (record { y = y i; x = x i; side = size i }, colour i)

same_self : (e : Block × ℕ) → same_leaf e e ≡ true
same_self e =
    let at = and_from ((e.0).x == (e.0).x) ((e.0).y == (e.0).y) (eq-eqb (e.0).x (e.0).x refl) (eq-eqb (e.0).y (e.0).y refl) in
    and_from (same_block e.0 e.0) (e.1 == e.1)
    (and_from (((e.0).x == (e.0).x) && ((e.0).y == (e.0).y)) ((e.0).side == (e.0).side) at (eq-eqb (e.0).side (e.0).side refl)) (eq-eqb e.1 e.1 refl)

pub is_leaf_from : (n : ℕ) (g : Grid) (e : Block × ℕ) → is_leaf n g e ≡ true → Contains (leaves n g) e
is_leaf_from n g e t = let r = any_from (λ d. same_leaf d e) (leaves n g) t in subst (Contains (leaves n g)) (same_is r.0 e r.2) r.1

pub is_leaf_at : (n : ℕ) (g : Grid) (e : Block × ℕ) → Contains (leaves n g) e → is_leaf n g e ≡ true
is_leaf_at n g e c = any_at (λ d. same_leaf d e) (leaves n g) e c (same_self e)

-- a maximal block of one colour is a leaf
pub maximal_leaf : (n : ℕ) (g : Grid) (b : Block) (c : ℕ) → IsMaximal n (is_uniform n g) b → HasColour n g b c → is_leaf n g (b, c) ≡ true
unfolding leaves
maximal_leaf n g b c m has =
    let same = colour_is n g b c m.block has in
    is_leaf_at n g (b, c) (subst (Contains (leaves n g)) (let e : coloured n g b ≡ (b, c) = λ i. (b, same i) in e)
    (Contains-map (coloured n g) (maximal_blocks n (is_uniform n g)) b (Contains-maximal n (is_uniform n g) b m)))

-- A list of records that grows along the leaves that pass a test.
module _ (n layer : ℕ) (p : Block × ℕ → Bool) (done all : List Record) (e : Block × ℕ) (rest : List (Block × ℕ)) where
  abbrev made : List (Block × ℕ) → List Record
  made es = map (leaf_record n layer) es

  kept : (b : Bool) → p e ≡ b → filter p (e ∷ rest) ≡ cond b (e ∷ filter p rest) (filter p rest)
  kept b t = ap (λ c. cond c (e ∷ filter p rest) (filter p rest)) t

  pub passed_in : p e ≡ true → done ++ made (filter p (e ∷ rest)) ≡ all → (done ++ leaf_record n layer e ∷ []) ++ made (filter p rest) ≡ all
  passed_in t h = append_assoc done (leaf_record n layer e ∷ []) (made (filter p rest)) ∙ ap (λ l. done ++ made l) (sym (kept true t)) ∙ h

  pub passed_over : p e ≡ false → done ++ made (filter p (e ∷ rest)) ≡ all → done ++ made (filter p rest) ≡ all
  passed_over t h = ap (λ l. done ++ made l) (sym (kept false t)) ∙ h

-- the leaf whose record stands in the records that only one of the grids has
pub only_leaf : (n layer : ℕ) (g other : Grid) (r : Record) → Contains (records_without n layer g other) r
    → (e : Block × ℕ) × IsLeaf n g e × Contains (leaves n g) e × (is_leaf n other e ≡ false) × (leaf_record n layer e ≡ r)
unfolding records_without
only_leaf n layer g other r c =
    let test : Block × ℕ → Bool = λ e. not (is_leaf n other e) in
    let m = Contains-map_from (leaf_record n layer) (filter test (leaves_by_code n g)) r c in
    let k = Contains-filter_from test (leaves_by_code n g) m.0 m.1 in
    let l = (leaves_members n g m.0).0 k.0 in
    (m.0, leaf_is n g m.0 l, l, not-true (is_leaf n other m.0) k.1, m.2)

-- no record is in both
pub only_apart : (n layer : ℕ) (g other : Grid) (r : Record) → n ≤ 12 → Contains (records_without n layer g other) r
    → Contains (records_without n layer other g) r → ⊥
only_apart n layer g other r le c d =
    let a = only_leaf n layer g other r c in
    let b = only_leaf n layer other g r d in
    let same = leaf_alone n layer a.0 b.0 le (a.1).maximal.block (b.1).maximal.block (a.4 ∙ sym b.4) in
    true_false (sym (is_leaf_at n g a.0 a.2) ∙ ap (is_leaf n g) same ∙ b.3)

abbrev pub only_test : ℕ → Grid → Block × ℕ → Bool
only_test n other e = not (is_leaf n other e)

-- the records of the leaves that the other grid does not have, before the first
pub none_yet : (n layer : ℕ) (g other : Grid) (done : List Record) (rest : List (Block × ℕ)) → done ≡ [] → rest ≡ leaves_by_code n g
    → done ++ map (leaf_record n layer) (filter (only_test n other) rest) ≡ records_without n layer g other
unfolding records_without
none_yet n layer g other done rest e f =
    ap (λ l. l ++ map (leaf_record n layer) (filter (only_test n other) rest)) e ∙ ap (λ l. map (leaf_record n layer) (filter (only_test n other) l)) f

-- and of all leaves
pub none_made : (n layer : ℕ) (g : Grid) (done : List Record) (rest : List (Block × ℕ)) → done ≡ [] → rest ≡ leaves_by_code n g
    → done ++ map (leaf_record n layer) rest ≡ region_records n layer g
unfolding region_records
none_made n layer g done rest e f = ap (λ l. l ++ map (leaf_record n layer) rest) e ∙ ap (map (leaf_record n layer)) f

pub one_made : (n layer : ℕ) (old new all : List Record) (r : Record) (e : Block × ℕ) (before rest : List (Block × ℕ)) → new ≡ old ++ r ∷ []
    → r ≡ leaf_record n layer e → before ≡ e ∷ rest
    → old ++ map (leaf_record n layer) before ≡ all → new ++ map (leaf_record n layer) rest ≡ all
one_made n layer old new all r e before rest is record_is first h =
    ap (λ l. l ++ map (leaf_record n layer) rest) (is ∙ ap (λ s. old ++ s ∷ []) record_is)
    ∙ append_assoc old (leaf_record n layer e ∷ []) (map (leaf_record n layer) rest)
    ∙ ap (λ l. old ++ map (leaf_record n layer) l) (sym first) ∙ h
