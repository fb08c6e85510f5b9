-- A range over a whole tree, from one of its leaves to the next.
use Rattle.std.proofs.Common.{◌≡◌, ◌≢◌, inl, inr, ℕ, ◌+◌, ◌*◌, ◌<◌, ◌≤◌, Bool, true, false, List, [], ◌++◌, length, filter, take, Option, Some, None, Result}
use Rattle.std.proofs.Common.{Ok, Err, OnOk, zero, suc, refl, sym, ◌∙◌, ap, subst, arith}
use Rattle.std.specs.Prelude.{IfSome, MatchOption}
use Rattle.std.specs.Result.{is_err}
use Rattle.quilt_world.specs.Tale.{Goes}
use Rattle.std.specs.Ordering.{is_le}
use Rattle.quilt_record.specs.declared.key.Key.{Key}
use Rattle.quilt_record.specs.declared.record.Record.{Record}
use Rattle.quilt_record.specs.Records.{key_cmp}
use Rattle.quilt_node.specs.Nodes.{page_records}
use Rattle.quilt_types.specs.declared.stop.Stop.{Stop}
use Rattle.quilt_store.specs.Stops.{IsNotDamage}
use Rattle.quilt_btree.specs.declared.tree.Tree.{Tree}
use Rattle.quilt_btree.specs.Arrivals.{Arrives}
use Rattle.quilt_btree.specs.Lists.{is_from_to, range_of}
use Rattle.quilt_btree.specs.Looks.{AddsFrom}
use Rattle.quilt_btree.specs.Searches.{AreOf}
use Rattle.quilt_btree.specs.Trees.{SpellsSubtree, IsTree, LeadsToLeaf, IsCut, IsBound, Divides, Before}
use Rattle.quilt_btree.proofs.subtrees.Whole.{tree_spells, no_records}
use Rattle.quilt_btree.proofs.ranges.Ranges.{range_more, range_next, range_ends, range_fills, adds_some}
use Rattle.quilt_btree.proofs.ranges.Spans.{le_on}

-- the leaf that a search for the key came to, and what of it was added to the list
pub record CameTo (told : Option (List (List ℕ))) (t : Tree) (from high : Key) (most : ℕ) (leaf old new : List Record) (up : Option Key) : Type 0 where
  pub some : t.height ≢ 0
  pub leads : (rs : List Record) (s : SpellsSubtree told t.root t.height rs) → s.bounds.high ≡ None → LeadsToLeaf from rs leaf None up
  pub cut : IsCut told t.root t.height from None leaf up
  pub seen : List Record
  pub added : new ≡ take most (old ++ filter (is_from_to from high) seen)
  pub same : (rs : List Record) → SpellsSubtree told t.root t.height rs → filter (is_from_to from high) seen ≡ filter (is_from_to from high) leaf

-- what a look at the leaf in these bytes adds
pub came_to : {told now : Option (List (List ℕ))} {t : Tree} {page : ℕ} {from high : Key} {most : ℕ} {old new : List Record} {up : Option Key}
    → t.height ≢ 0 → now ≡ told → (a : AddsFrom now page from high most old new)
    → ((bytes : List ℕ) → AreOf told page bytes → Arrives told t.root t.height from None bytes up)
    → CameTo told t from high most (page_records a.bytes) old new up
came_to {page = page} some same a arrives =
    let at = arrives a.bytes (subst (λ o. AreOf o page a.bytes) same a.are) in
    record { some = some; leads = at.leads; cut = at.cut; seen = a.some; added = a.added; same = λ rs s. a.same (page_records a.bytes) (at.leaf rs s) }

module _ (told : Option (List (List ℕ))) (t : Tree) (from high : Key) where
  -- the records of the leaf were added, where the tree is sound
  leaf_added : (most : ℕ) (leaf old new rs : List Record) (up : Option Key) (c : CameTo told t from high most leaf old new up)
      → SpellsSubtree told t.root t.height rs → new ≡ take most (old ++ filter (is_from_to from high) leaf)
  leaf_added most leaf old new rs up c s = c.added ∙ ap (λ l. take most (old ++ l)) (c.same rs s)

  -- each leaf but the first adds a record, where the range goes on
  pub rest_adds : {low next : Key} {most : ℕ} {leaf old new rs : List Record} {up : Option Key} → CameTo told t from high most leaf old new up
      → IsTree told t rs → Before told t low high most from rs old → (up ≡ Some next) × (is_le (key_cmp next high) ≡ true) → 1 ≤ length leaf
      → length old ≤ most → (length new ≡ most → ⊥) → length new ≡ length old → ⊥
  rest_adds {most} {leaf} {old} {new} {rs} {up} c is b on some room ne same =
      let s = tree_spells told t rs c.some is in
      let l = subst (λ o. LeadsToLeaf from rs leaf None o) on.0 (c.leads rs s.0 s.1) in
      adds_some most old leaf (record { some = some; starts = c.cut.starts b.0 rs b.1 s.0 s.1 b.2; ends = l.here_under; in_range = on.1 })
      (leaf_added most leaf old new rs up c s.0) room ne same

module _ (told : Option (List (List ℕ))) (t : Tree) (low from high : Key) (most : ℕ) (leaf old new rs : List Record) (up : Option Key)
    (c : CameTo told t from high most leaf old new up) (is : IsTree told t rs) (b : Before told t low high most from rs old) where
  pub rest_so_far : (l : LeadsToLeaf from rs leaf None up) × (new ≡ range_of low high most (l.before ++ leaf))
  rest_so_far =
      let s = tree_spells told t rs c.some is in
      let l = c.leads rs s.0 s.1 in (
        l,
        range_more low from high most rs leaf new None old up l (c.cut.starts b.0 rs b.1 s.0 s.1 b.2) b.3 b.4
            (leaf_added told t from high most leaf old new rs up c s.0),
      )

  pub rest_ends : ((next : Key) → up ≡ Some next → is_le (key_cmp next high) ≡ false) → new ≡ range_of low high most rs
  rest_ends over =
      let l = rest_so_far in range_ends low from high most rs leaf new None up l.0 over l.1

  pub rest_fills : length new ≡ most → new ≡ range_of low high most rs
  rest_fills full =
      let l = rest_so_far in range_fills low from high most rs leaf new None up l.0 full l.1

pub next_divides : (pages : List (List ℕ)) (height page : ℕ) (up : Option Key) (next : Key) → up ≡ Some next → IsBound pages height page None up
    → Divides pages height page next
next_divides pages height page up next e (inl none) = cc
next_divides pages height page up next e (inr q) = let is = q.1 in let same : q.0 ≡ next = cc in subst (λ k. Divides pages height page k) same q.2

-- and it goes on from the next key
pub rest_next : {told : Option (List (List ℕ))} {t : Tree} (low : Key) {from high : Key} {next : Key} {most : ℕ} {leaf old new : List Record}
    {rs : List Record} {up : Option Key} (c : CameTo told t from high most leaf old new up) (is : IsTree told t rs)
    → Before told t low high most from rs old → up ≡ Some next → Before told t low high most next rs new
rest_next {told} {t} low {from} {high} {next} {most} {leaf} {old} {new} {rs} {up} c is b e =
    let s = tree_spells told t rs c.some is in
    let l = rest_so_far told t low from high most leaf old new rs up c is b in
    let on = subst (λ o. (l : LeadsToLeaf from rs leaf None o) × (new ≡ range_of low high most (l.before ++ leaf))) e l in (
      is.pages,
      is.is_told,
      next_divides is.pages t.height t.root up next e (c.cut.ends is.pages rs s.0 is.is_told s.1 refl),
      le_on low from next b.3 (on.0.key_under refl),
      range_next low from high most rs leaf new None next on.0 refl on.1,
    )

pub from_not_err : {T E P : Type 0} (r : Result T E) (b : Bool) → b ≡ is_err r → b ≡ false → OnOk r P → P
from_not_err (Ok x) b e f p = p
from_not_err (Err x) b e f p = cc

module _ (told now : Option (List (List ℕ))) (t : Tree) where
  pub along_tree : (rs : List Record) → now ≡ told → IsTree told t rs → IsTree now t rs
  along_tree rs e is = record { pages = is.pages; is_told = e ∙ is.is_told; visited = is.visited; walk = is.walk }

  along_before : (low high : Key) (most : ℕ) (from : Key) (rs old : List Record) → now ≡ told → Before told t low high most from rs old
      → Before now t low high most from rs old
  along_before low high most from rs old e b = (b.0, e ∙ b.1, b.2, b.3, b.4)

-- no key is left, where none is from the leaf's upper bound to the last
pub none_over : (r up : Option Key) (high : Key)
    → MatchOption r ((k : Key) → up ≡ Some k → is_le (key_cmp k high) ≡ false) (λ k. (up ≡ Some k) × (is_le (key_cmp k high) ≡ true))
    → r ≡ None → (k : Key) → up ≡ Some k → is_le (key_cmp k high) ≡ false
none_over None up high m e = m
none_over (Some k) up high m e = cc

pub if_some : (o : Option Key) (k : Key) (P : Type 0) → o ≡ Some k → IfSome o (λ x. P) → P
if_some None k P e p = cc
if_some (Some j) k P e p = p

pub none_is : (o : Option Key) → ((k : Key) → o ≡ Some k → ⊥) → o ≡ None
none_is None f = refl
none_is (Some k) f = absurd (f k refl)

-- what the list is before one key makes it what it is before another
abbrev pub GoesAsFar : Option (List (List ℕ)) → Tree → Key → ℕ → Key → List Record → Key → List Record → Type 0
GoesAsFar told t high most from old next new =
    (low : Key) (rs : List Record) → IsTree told t rs → Before told t low high most from rs old → Before told t low high most next rs new

-- what the list is before a key makes it the whole range
abbrev pub GoesToEnd : Option (List (List ℕ)) → Tree → Key → ℕ → Key → List Record → List Record → Type 0
GoesToEnd told t high most from old new =
    (low : Key) (rs : List Record) → IsTree told t rs → Before told t low high most from rs old → new ≡ range_of low high most rs

-- an end is no damage, where the list is what it is to be before a key
abbrev pub StopsSound : Option (List (List ℕ)) → Tree → Key → ℕ → Key → List Record → Stop → Type 0
StopsSound told t high most from old e =
    (low : Key) (rs : List Record) → IsTree told t rs → Before told t low high most from rs old → IsNotDamage e

-- one leaf after those so far, of which the first is the one at `start`
pub loop_goes_on : {o : Option Key} {told now : Option (List (List ℕ))} {t : Tree} {high start from next : Key} {most : ℕ} {first old : List Record}
    (new : List Record) → now ≡ told → o ≡ Some next → GoesAsFar told t high most start first from old
    → IfSome o (λ k. GoesAsFar now t high most from old k new) → GoesAsFar told t high most start first next new
loop_goes_on {o = None} new same is s f = cc
loop_goes_on {o = (Some k)} {told} {now} {t} {high} {from} {next} {most} {old} new same is s f = λ low rs tree b.
    let e : k ≡ next = cc in
    subst (λ n. Before told t low high most n rs new) e
    (along_before now told t low high most k rs new (sym same)
    (f low rs (along_tree told now t rs same tree) (along_before told now t low high most from rs old same (s low rs tree b))))

pub loop_ends : {o : Option Key} {told now : Option (List (List ℕ))} {t : Tree} {high start from : Key} {most : ℕ} {first old : List Record}
    (new : List Record) → now ≡ told → o ≡ None → GoesAsFar told t high most start first from old → (o ≡ None → GoesToEnd now t high most from old new)
    → GoesToEnd told t high most start first new
loop_ends {told} {now} {t} {high} {from} {most} {old} new same is s f = λ low rs tree b.
    f is low rs (along_tree told now t rs same tree) (along_before told now t low high most from rs old same (s low rs tree b))

pub loop_sound : (e : Stop) {told now : Option (List (List ℕ))} {t : Tree} {high start from : Key} {most : ℕ} {first old : List Record} → now ≡ told
    → GoesAsFar told t high most start first from old → StopsSound now t high most from old e → StopsSound told t high most start first e
loop_sound e {told} {now} {t} {high} {from} {most} {old} same s f = λ low rs tree b.
    f low rs (along_tree told now t rs same tree) (along_before told now t low high most from rs old same (s low rs tree b))

-- three reads more, for at least one record more
pub loop_reads : (a b c : Option ℕ) (first old : ℕ) → Goes (λ x y. y + 3 * first ≤ x + 3 * old) a b → Goes (λ x y. y ≤ x + 3) b c
    → Goes (λ x y. y + 3 * first ≤ x + 3 * (old + 1)) a c
loop_reads (Some a) (Some b) (Some c) first old f g = omega arith
loop_reads (Some a) (Some b) None first old f g = g
loop_reads (Some a) None c first old f g = absurd f
loop_reads None (Some b) c first old f g = absurd f
loop_reads None None (Some c) first old f g = g
loop_reads None None None first old f g = f

pub more_reads : (a b : Option ℕ) (first old new : ℕ) → old < new → Goes (λ x y. y + 3 * first ≤ x + 3 * (old + 1)) a b
    → Goes (λ x y. y + 3 * first ≤ x + 3 * new) a b
more_reads (Some a) (Some b) first old new more f = omega arith
more_reads (Some a) None first old new more f = f
more_reads None (Some b) first old new more f = f
more_reads None None first old new more f = f

pub no_range : (told : Option (List (List ℕ))) (t : Tree) (rs : List Record) (low high : Key) (most : ℕ) → t.height ≡ 0 → IsTree told t rs
    → [] ≡ range_of low high most rs
unfolding range_of
no_range told t rs low high most e is = sym (ap (λ l. take most (filter (is_from_to low high) l)) (no_records told t rs e is) ∙ take_nothing most)
  where
    take_nothing : (n : ℕ) → take {A = Record} n [] ≡ []
    take_nothing zero = refl
    take_nothing (suc n) = refl
