-- Two walks in step: which leaves are in one list alone.
use Rattle.std.proofs.Common.{◌≡◌, ℕ, ◌+◌, ◌*◌, ◌^◌, ◌<◌, ◌≤◌, Bool, true, false, not, List, [], ◌∷◌, ◌++◌, map, filter, Contains, ◌↔◌, ◌⊎◌, Option}
use Rattle.std.proofs.Common.{Some, None, IfSome, IsNone, refl, sym, ◌∙◌, ap, subst, ⊎_elim, arith, eqb, eqb-true, eq-eqb, ◌&&◌, append-nil}
use Rattle.std.specs.Option.{option_zip, is_some}
use Rattle.quilt_types.specs.declared.plane.Block.{Block}
use Rattle.quilt_types.specs.Plane.{IsBlock, corner, whole}
use Rattle.quilt_types.specs.Layers.{Grid}
use Rattle.quilt_types.specs.Quadtrees.{leaves}
use Rattle.quilt_loc.specs.Codes.{code_from, code_to}
use Rattle.quilt_loc.proofs.Blocks.{side_most}
use Rattle.quilt_loc.proofs.Intervals.{origin_code}
use Rattle.quilt_loc.proofs.CodeLaws.{code_below}
use Rattle.quilt_loc.proofs.Quartered.{IsBlock-whole, side_le}
use Rattle.quilt_record.specs.declared.record.Record.{Record}
use Rattle.quilt_blocks.specs.Cutting.{leaves_by_code, leaf_pair}
use Rattle.quilt_blocks.specs.declared.leaf.Leaf.{Leaf}
use Rattle.quilt_blocks.specs.Walk.{LeafWalk, IsLeafAt}
use Rattle.quilt_blocks.proofs.Chains.{member_pos}
use Rattle.quilt_blocks.proofs.Inside.{smaller_inside}
use Rattle.quilt_blocks.proofs.Paired.{zip_none, at_some}
use Rattle.std.proofs.Math.Nat.{mul-le-mul_left, mul-le-mul_right}
use Rattle.quilt_blocks.proofs.Squares.{code_to-whole}
use Rattle.quilt_blocks.proofs.Painting.{code_in}
use Rattle.quilt_blocks.proofs.Cuts.{leaves_run, leaves_members}
use Rattle.quilt_spell.specs.OfLayer.{leaf_record}
use Rattle.quilt_region.specs.Plans.{is_leaf, records_without, AreSoFar, GoOnWithin}
use Rattle.quilt_region.proofs.Floors.{same_member}
use Rattle.quilt_region.proofs.Leaves.{is_leaf_from, is_leaf_at, only_test, none_yet, passed_in, passed_over}
use Rattle.std.proofs.lemmas.Bool.{false_from_ne_true, and_parts, and_from}

-- a leaf that begins within a leaf of the other grid, and is not that one, is none of the other grid's
pub inside_alone : (n : ℕ) (h : Grid) (e f : Block × ℕ) → n ≤ 12 → Contains (leaves n h) f → code_from f.0 ≤ code_from e.0
    → code_from e.0 < code_to f.0 → (e ≡ f → ⊥) → only_test n h e ≡ true
inside_alone n h e f le c low high differ =
    let run = leaves_run n h le in
    ap not (false_from_ne_true (is_leaf n h e) (λ t.
    let d = is_leaf_from n h e t in
    differ (sym (same_member n 0 (leaves_by_code n h) f e run.follows ((leaves_members n h f).1 c) ((leaves_members n h e).1 d) low high))))

-- a leaf of both grids passes neither list
pub both_have : (n : ℕ) (h : Grid) (e : Block × ℕ) → Contains (leaves n h) e → only_test n h e ≡ false
both_have n h e c = ap not (is_leaf_at n h e c)

pub side_small : (n : ℕ) (b : Block) → n ≤ 12 → IsBlock n b → b.side ≤ 4096
side_small n b le h = let s = side_le n b h in let m = side_most n le in omega arith

-- a block ends at the end of the square or before
pub code_room : (n : ℕ) (b : Block) → n ≤ 12 → IsBlock n b → code_to b ≤ 4 ^ n
code_room n b le h =
    let p = member_pos n b h in
    let w = IsBlock-whole n in
    let last = code_to-whole n in
    let room = code_in n (corner b) le h.in_x h.in_y in
    let z = origin_code in
    let inside = (smaller_inside n b (whole n) (code_from b) le h w (side_le n b h) (omega arith) (omega arith) (omega arith) (omega arith)).1 in
    omega arith

pub squares : (a b : ℕ) → a ≤ b → a * a ≤ b * b
squares a b h = let l = mul-le-mul_left a h in let r = mul-le-mul_right b h in omega arith

-- a leaf of a walk at a level and grid that are others by their names alone
pub at_same : (m n : ℕ) (g h : Grid) (at : ℕ) (e : Block × ℕ) → m ≡ n → g ≡ h → IsLeafAt m g at e → IsLeafAt n h at e
at_same m n g h at e a b l = subst (λ (i : Grid). IsLeafAt n i at e) b (subst (λ (k : ℕ). IsLeafAt k g at e) a l)

-- the records so far, with one leaf more that passes or does not
pub one_passes : (n layer : ℕ) (p : Block × ℕ → Bool) (old new all : List Record) (r : Record) (e : Block × ℕ) (before rest : List (Block × ℕ))
    → new ≡ old ++ r ∷ [] → r ≡ leaf_record n layer e → before ≡ e ∷ rest → p e ≡ true
    → AreSoFar n layer p old before all → AreSoFar n layer p new rest all
one_passes n layer p old new all r e before rest is record_is first test h =
    ap (λ l. l ++ map (leaf_record n layer) (filter p rest)) (is ∙ ap (λ s. old ++ s ∷ []) record_is)
    ∙ passed_in n layer p old all e rest test (ap (λ l. old ++ map (leaf_record n layer) (filter p l)) (sym first) ∙ h)

pub one_fails : (n layer : ℕ) (p : Block × ℕ → Bool) (old all : List Record) (e : Block × ℕ) (before rest : List (Block × ℕ)) → before ≡ e ∷ rest
    → p e ≡ false → AreSoFar n layer p old before all → AreSoFar n layer p old rest all
one_fails n layer p old all e before rest first test h =
    passed_over n layer p old all e rest test (ap (λ l. old ++ map (leaf_record n layer) (filter p l)) (sym first) ∙ h)

-- the first leaf is to come, and none has
pub none_so_far : (n layer : ℕ) (g other : Grid) (records : List Record) (rest : List (Block × ℕ)) → records ≡ [] → rest ≡ leaves_by_code n g
    → AreSoFar n layer (only_test n other) records rest (records_without n layer g other)
none_so_far n layer g other records rest e f = none_yet n layer g other records rest e f

-- ---- two walks that go on together
-- a walk that has passed a leaf
pub record HasPassed (n : ℕ) (g : Grid) (old new : LeafWalk) (l : Leaf) : Type 0 where
  pub level : new.level ≡ n
  pub grid : new.grid ≡ g
  pub rest : old.rest ≡ leaf_pair l ∷ new.rest
  pub leaf : IsLeafAt n g old.at (leaf_pair l)
  pub at : new.at ≡ old.at + l.block.side * l.block.side
  pub more : old.at < new.at
  pub room : old.at < 4 ^ 12

pub has_passed : (n : ℕ) (g : Grid) (old new : LeafWalk) (o : Option Leaf) (l : Leaf) → n ≤ 12 → o ≡ Some l → old.level ≡ n → old.grid ≡ g
    → IfSome o (λ l. old.rest ≡ leaf_pair l ∷ new.rest) → IfSome o (λ l. IsLeafAt old.level old.grid old.at (leaf_pair l))
    → IfSome o (λ l. new.at ≡ old.at + l.block.side * l.block.side)
    → new.level ≡ old.level → new.grid ≡ old.grid → HasPassed n g old new l
has_passed n g old new o l le e el eg first leaf at level grid =
    let here = at_same old.level n old.grid g old.at (leaf_pair l) el eg (at_some (λ l. IsLeafAt old.level old.grid old.at (leaf_pair l)) o l e leaf) in
    let next = at_some (λ l. new.at ≡ old.at + l.block.side * l.block.side) o l e at in
    let wide = member_pos n l.block here.block in
    let from = here.from in
    let b = here.block in
    let low = code_below l.block.x l.block.y in
    record {
      level = level ∙ el;
      grid = grid ∙ eg;
      rest = at_some (λ l. old.rest ≡ leaf_pair l ∷ new.rest) o l e first;
      leaf = here;
      at = next;
      more = omega arith;
      room = omega arith;
    }

-- both walks have come to their end, where one has
pub both_end : (n : ℕ) (a b : LeafWalk) (p q : Option Leaf) → option_zip p q ≡ None → a.level ≡ n → b.level ≡ n → a.at ≡ b.at
    → IsNone p ↔ (a.rest ≡ []) → IsNone p ↔ (a.at ≡ 4 ^ a.level) → IsNone q ↔ (b.rest ≡ []) → IsNone q ↔ (b.at ≡ 4 ^ b.level) → (a.rest ≡ []) × (b.rest ≡ [])
both_end n a b p q z ea eb place end_a whole_a end_b whole_b =
    let pa = ap (λ (k : ℕ). 4 ^ k) ea in
    let pb = ap (λ (k : ℕ). 4 ^ k) eb in
    ⊎_elim
    (λ e.
    let none : IsNone p = ap is_some e in
    let at = whole_a.0 none in
    (end_a.0 none, end_b.0 (whole_b.1 (sym place ∙ at ∙ pa ∙ sym pb))))
    (λ e.
    let none : IsNone q = ap is_some e in
    let at = whole_b.0 none in
    (end_a.0 (whole_a.1 (place ∙ at ∙ pb ∙ sym pa)), end_b.0 none))
    (zip_none p q z)

-- no leaf is still to come
pub none_left : (n layer : ℕ) (p : Block × ℕ → Bool) (records all : List Record) (rest : List (Block × ℕ)) → rest ≡ []
    → AreSoFar n layer p records rest all → records ≡ all
none_left n layer p records all rest e h = sym (append-nil records) ∙ ap (λ l. records ++ map (leaf_record n layer) (filter p l)) (sym e) ∙ h

-- what the test of two leaves says
abbrev pub same_leaves : Leaf → Leaf → Bool
same_leaves a b = (eqb a.block.y b.block.y && (eqb a.block.x b.block.x && eqb a.block.side b.block.side)) && eqb a.colour.0 b.colour.0

to_true : (t : Bool) → false ≡ not t → t ≡ true
to_true true h = refl
to_true false h = cc

pub leaves_are : (a b : Leaf) → same_leaves a b ≡ true → leaf_pair a ≡ leaf_pair b
leaves_are a b h =
    let both = and_parts (eqb a.block.y b.block.y && (eqb a.block.x b.block.x && eqb a.block.side b.block.side)) (eqb a.colour.0 b.colour.0) h in
    let block = and_parts (eqb a.block.y b.block.y) (eqb a.block.x b.block.x && eqb a.block.side b.block.side) both.0 in
    let last = and_parts (eqb a.block.x b.block.x) (eqb a.block.side b.block.side) block.1 in
    let y = eqb-true a.block.y b.block.y block.0 in
    let x = eqb-true a.block.x b.block.x last.0 in
    let size = eqb-true a.block.side b.block.side last.1 in
    let colour = eqb-true a.colour.0 b.colour.0 both.1 in
    λ i. (record { y = y i; x = x i; side = size i }, colour i)

pub leaves_equal : (a b : Leaf) → false ≡ not (same_leaves a b) → leaf_pair a ≡ leaf_pair b
leaves_equal a b h = leaves_are a b (to_true (same_leaves a b) h)

pub leaves_test : (a b : Leaf) → leaf_pair a ≡ leaf_pair b → same_leaves a b ≡ true
leaves_test a b e =
    let y = eq-eqb a.block.y b.block.y (ap (λ (d : Block × ℕ). d.0.y) e) in
    let x = eq-eqb a.block.x b.block.x (ap (λ (d : Block × ℕ). d.0.x) e) in
    let size = eq-eqb a.block.side b.block.side (ap (λ (d : Block × ℕ). d.0.side) e) in
    let colour = eq-eqb a.colour.0 b.colour.0 (ap (λ (d : Block × ℕ). d.1) e) in
    and_from _ _ (and_from _ _ y (and_from _ _ x size)) colour

pub leaves_differ : (a b : Leaf) → true ≡ not (same_leaves a b) → leaf_pair a ≡ leaf_pair b → ⊥
leaves_differ a b h e = let no : true ≡ false = h ∙ ap not (leaves_test a b e) in cc

module _ (n : ℕ) (g h : Grid) (le : n ≤ 12) (at : ℕ) (a b : Leaf) (first : IsLeafAt n g at (leaf_pair a)) (second : IsLeafAt n h at (leaf_pair b)) where
  -- one leaf is in both
  pub same_pass : leaf_pair a ≡ leaf_pair b → (only_test n h (leaf_pair a) ≡ false) × (only_test n g (leaf_pair b) ≡ false)
  same_pass e = (
    both_have n h (leaf_pair a) (subst (Contains (leaves n h)) (sym e) second.member),
    both_have n g (leaf_pair b)
        (subst (Contains (leaves n g)) e first.member),
  )

  module _ (differ : leaf_pair a ≡ leaf_pair b → ⊥) where
    pub first_alone : only_test n h (leaf_pair a) ≡ true
    first_alone =
        let f = first.from in
        let s = second.from in
        let wide = member_pos n b.block second.block in
        inside_alone n h (leaf_pair a) (leaf_pair b) le second.member (omega arith) (omega arith) differ

    pub second_alone : only_test n g (leaf_pair b) ≡ true
    second_alone =
        let f = first.from in
        let s = second.from in
        let wide = member_pos n a.block first.block in
        inside_alone n g (leaf_pair b) (leaf_pair a) le first.member (omega arith) (omega arith) (λ e. differ (sym e))

-- and so are those that begin within it, not at its first code
pub within_alone : (n : ℕ) (h : Grid) (at : ℕ) (b : Leaf) → n ≤ 12 → IsLeafAt n h at (leaf_pair b) → (e : Block × ℕ)
    → code_from b.block < code_from e.0 → code_from e.0 < code_to b.block → only_test n h e ≡ true
within_alone n h at b le leaf e low high =
    inside_alone n h e (leaf_pair b) le leaf.member (omega arith) high (λ same. let z = ap (λ (d : Block × ℕ). code_from d.0) same in absurd (omega arith))

-- of two leaves at one code, one of each grid, the larger block
module _ (n : ℕ) (g h : Grid) (le : n ≤ 12) (at : ℕ) (a b : Leaf) (first : IsLeafAt n g at (leaf_pair a)) (second : IsLeafAt n h at (leaf_pair b))
    (whole : Block) (one : (whole ≡ a.block) ⊎ (whole ≡ b.block)) where
  pub larger_from : code_from whole ≡ at
  larger_from = ⊎_elim (λ e. ap code_from e ∙ first.from) (λ e. ap code_from e ∙ second.from) one

  pub larger_block : IsBlock n whole
  larger_block = ⊎_elim (λ e. subst (IsBlock n) (sym e) first.block) (λ e. subst (IsBlock n) (sym e) second.block) one

  -- what begins within it, not at its first code, is in one list alone
  pub larger_alone : (e : Block × ℕ) → Contains (leaves n g) e → code_from whole < code_from e.0 → code_from e.0 < code_to whole → only_test n h e ≡ true
  larger_alone e member low high =
      ⊎_elim
      (λ is. let own = within_alone n g at a le first e (subst (λ (w : Block). code_from w < code_from e.0) is low)
      (subst (λ (w : Block). code_from e.0 < code_to w) is high) in
      let no : true ≡ false = sym own ∙ both_have n g e member in cc)
      (λ is. within_alone n h at b le second e (subst (λ (w : Block). code_from w < code_from e.0) is low)
      (subst (λ (w : Block). code_from e.0 < code_to w) is high))
      one

-- the level and the grid go by other names
pub go_on_at : (k n layer : ℕ) (g h : Grid) (b : Block) (old new : List Record) (before rest : List (Block × ℕ)) → k ≡ n → g ≡ h
    → GoOnWithin k layer g b old new before rest → GoOnWithin n layer h b old new before rest
go_on_at k n layer g h b old new before rest e f go =
    subst (λ (i : Grid). GoOnWithin n layer i b old new before rest) f (subst (λ (j : ℕ). GoOnWithin j layer g b old new before rest) e go)
