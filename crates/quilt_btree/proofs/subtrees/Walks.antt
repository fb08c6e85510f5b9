-- The walk of a subtree, and what it has found.
use Rattle.std.proofs.Common.{◌≡◌, ℕ, zero, suc, Bool, true, false, ◌&&◌, ◌||◌, ◌==◌, nat_le, List, [], ◌∷◌, ◌++◌, length, map, Option, Some, None}
use Rattle.std.proofs.lemmas.Bool.{and_from, and_parts}
use Rattle.std.proofs.Common.{slice_index_or, refl, sym, ◌∙◌, ap, subst, append_assoc, arith}
use Rattle.std.specs.List.{list_any}
use Rattle.std.specs.Prelude.{if◌then◌else◌}
use Rattle.std.proofs.lemmas.List.{append-nil}
use Rattle.std.proofs.lemmas.Bool.Decides.{nat_tests}
use Rattle.quilt_record.specs.declared.record.Record.{Record}
use Rattle.quilt_node.specs.Pages.{Inner, leaf_of, inner_of}
use Rattle.quilt_node.specs.Tree.{Bounds, Walk, Whole, Damaged, are_within, bounded, and_then, each_child, leaf_walk, inner_walk, walk}
use Rattle.quilt_btree.specs.Subtree.{Reading, IsLeafPlace, Row, IsInnerPlace, Subtree, AreFreshPages}

-- what a walk added to what was visited before
pub record Found (S : List Record → List ℕ → Type 0) (visited : List ℕ) (rs : List Record) (now : List ℕ) : Type 0 where
  pub used : List ℕ
  pub spells : S rs used
  pub fresh : AreFreshPages used visited
  pub is_now : now ≡ used ++ visited

-- the same behind records that were found before
pub record FoundBehind (S : List Record → List ℕ → Type 0) (before : List Record) (visited : List ℕ) (rs : List Record) (now : List ℕ) : Type 0 where
  pub more : List Record
  pub is_rs : rs ≡ before ++ more
  pub found : Found S visited more now

pub then_whole : (b : Bool) (w : Walk) (p : ℕ) (rs : List Record) (now : List ℕ)
    → (if b then w else Damaged p) ≡ Whole rs now → (b ≡ true) × (w ≡ Whole rs now)
then_whole true w p rs now h = (refl, h)
then_whole false w p rs now h = cc

pub else_whole : (b : Bool) (w : Walk) (p : ℕ) (rs : List Record) (now : List ℕ)
    → (if b then Damaged p else w) ≡ Whole rs now → (b ≡ false) × (w ≡ Whole rs now)
else_whole true w p rs now h = cc
else_whole false w p rs now h = (refl, h)

damaged_stays : (visit : ℕ × Bounds → List ℕ → Walk) (cs : List (ℕ × Bounds)) (p : ℕ) → each_child visit cs (Damaged p) ≡ Damaged p
damaged_stays visit [] p = refl
damaged_stays visit (c ∷ cs) p = damaged_stays visit cs p

pub along_list : {X : Type 0} (P : List X → Type 0) → {xs ys : List X} → xs ≡ ys → P xs → P ys
along_list P e p = subst P e p

pub fresh_join : (late early visited : List ℕ) → AreFreshPages late (early ++ visited) → AreFreshPages early visited → AreFreshPages (late ++ early) visited
fresh_join [] early visited f g = g
fresh_join (p ∷ late) early visited f g =
    (along_list (λ l. list_any (λ v. v == p) l ≡ false) (sym (append_assoc late early visited)) f.0, fresh_join late early visited f.1 g)

pub fresh_late : (late early visited : List ℕ) → AreFreshPages (late ++ early) visited → AreFreshPages late (early ++ visited)
fresh_late [] early visited f = tt
fresh_late (p ∷ late) early visited f =
    (along_list (λ l. list_any (λ v. v == p) l ≡ false) (append_assoc late early visited) f.0, fresh_late late early visited f.1)

pub fresh_early : (late early visited : List ℕ) → AreFreshPages (late ++ early) visited → AreFreshPages early visited
fresh_early [] early visited f = f
fresh_early (p ∷ late) early visited f = fresh_early late early visited f.1

leaf_found : (pages : List (List ℕ)) (is_root : Bool) (at : ℕ × Bounds) (visited : List ℕ) {rs : List Record} {now : List ℕ}
    {o : Option (List Record)} → leaf_of (slice_index_or pages at.0 []) ≡ o
    → list_any (λ v. v == at.0) visited ≡ false
    → leaf_walk is_root at.1 at.0 visited o ≡ Whole rs now → Found (IsLeafPlace pages is_root at) visited rs now
leaf_found pages is_root at visited {o = None} page seen h = cc
leaf_found pages is_root at visited {rs} {now} {o = (Some ss)} page seen h =
    let t = then_whole ((is_root || nat_le 72 (length ss)) && are_within at.1 (map (λ r. r.key) ss)) (Whole ss (at.0 ∷ visited)) at.0 rs now h in
    let both = and_parts (is_root || nat_le 72 (length ss)) (are_within at.1 (map (λ r. r.key) ss)) t.0 in
    let found = t.1 in
    let same : rs ≡ ss = cc in
    let later : now ≡ at.0 ∷ visited = cc in
    record {
      used = at.0 ∷ [];
      spells = record { page = page ∙ ap Some (sym same); enough = rw same both.0; within = rw same both.1; is_used = refl };
      fresh = (seen, tt);
      is_now = later;
    }

module _ (S : Reading) (visit : ℕ × Bounds → List ℕ → Walk) where
  row_step : (c : ℕ × Bounds) (cs : List (ℕ × Bounds)) (before : List Record) (visited : List ℕ) {rs : List Record} {now : List ℕ}
      → ((ss : List Record) (later : List ℕ) → visit c visited ≡ Whole ss later → Found (S c) visited ss later)
      → ((ss : List Record) (later : List ℕ) → each_child visit cs (Whole ss later) ≡ Whole rs now → FoundBehind (Row S cs) ss later rs now)
      → {w : Walk} → visit c visited ≡ w → each_child visit cs (and_then (Whole before visited) (λ v. w)) ≡ Whole rs now
      → FoundBehind (Row S (c ∷ cs)) before visited rs now
  row_step c cs before visited one others {w = (Damaged p)} e h =
      let stays = damaged_stays visit cs p in cc
  row_step c cs before visited one others {w = (Whole ss later)} e h =
      let first = one ss later e in
      let rest = others (before ++ ss) later h in
      record {
        more = ss ++ rest.more;
        is_rs = rest.is_rs ∙ append_assoc before ss rest.more;
        found = record {
          used = rest.found.used ++ first.used;
          spells = record {
            first = ss;
            rest = rest.more;
            first_used = first.used;
            rest_used = rest.found.used;
            here = first.spells;
            after = rest.found.spells;
            records = refl;
            is_used = refl;
          };
          fresh = fresh_join _ _ _ (along_list (λ l. AreFreshPages rest.found.used l) first.is_now rest.found.fresh) first.fresh;
          is_now = rest.found.is_now ∙ ap (λ v. rest.found.used ++ v) first.is_now ∙ sym (append_assoc rest.found.used first.used visited);
        };
      }

  row_found : ((c : ℕ × Bounds) (visited : List ℕ) (rs : List Record) (now : List ℕ) → visit c visited ≡ Whole rs now → Found (S c) visited rs now)
      → (cs : List (ℕ × Bounds)) (before : List Record) (visited : List ℕ) (rs : List Record) (now : List ℕ)
      → each_child visit cs (Whole before visited) ≡ Whole rs now → FoundBehind (Row S cs) before visited rs now
  row_found one [] before visited rs now h =
      let same : rs ≡ before = cc in
      let later : now ≡ visited = cc in
      record { more = []; is_rs = same ∙ sym (append-nil before); found = record { used = []; spells = (refl, refl); fresh = tt; is_now = later } }
  row_found one (c ∷ cs) before visited rs now h =
      row_step c cs before visited (one c visited) (λ ss later e. row_found one cs ss later rs now e) refl h

pub same_number : (m n : ℕ) → (m == n) ≡ true → m ≡ n
same_number m n h = grind (arith, nat_tests)

pub number_test : (m n : ℕ) → m ≡ n → (m == n) ≡ true
number_test m n h = grind (arith, nat_tests)

module _ (S : Reading) (visit : ℕ × Bounds → List ℕ → Walk) where
  inner_found : (pages : List (List ℕ)) (height : ℕ) (is_root : Bool) (at : ℕ × Bounds) {visited : List ℕ} {rs : List Record} {now : List ℕ}
      → ((c : ℕ × Bounds) (v : List ℕ) (ss : List Record) (later : List ℕ) → visit c v ≡ Whole ss later → Found (S c) v ss later) → {o : Option Inner}
      → inner_of (length pages) (slice_index_or pages at.0 []) ≡ o → list_any (λ v. v == at.0) visited ≡ false
      → inner_walk visit height is_root at.1 at.0 visited o ≡ Whole rs now → Found (IsInnerPlace S pages height is_root at) visited rs now
  inner_found pages height is_root at one {o = None} page seen h = cc
  inner_found pages height is_root at {visited} {rs} {now} one {o = (Some inner)} page seen h =
      let t = then_whole _ _ _ _ _ h in
      let all = and_parts ((inner.height == height) && (is_root || nat_le 127 (length inner.children))) (are_within at.1 inner.keys) t.0 in
      let both = and_parts (inner.height == height) (is_root || nat_le 127 (length inner.children)) all.0 in
      let row = row_found S visit one (bounded inner.children inner.keys at.1) [] (at.0 ∷ visited) rs now t.1 in
      let same : rs ≡ row.more = row.is_rs in
      record {
        used = row.found.used ++ at.0 ∷ [];
        spells = record {
          inner = inner;
          page = page;
          is_height = same_number inner.height height both.0;
          enough = both.1;
          within = all.1;
          under = row.found.used;
          children = along_list (λ l. Row S (bounded inner.children inner.keys at.1) l row.found.used) (sym same) row.found.spells;
          is_used = refl;
        };
        fresh = fresh_join row.found.used (at.0 ∷ []) visited row.found.fresh (seen, tt);
        is_now = row.found.is_now ∙ sym (append_assoc row.found.used (at.0 ∷ []) visited);
      }

  row_walked : ((c : ℕ × Bounds) (visited : List ℕ) (rs : List Record) (used : List ℕ) → S c rs used → AreFreshPages used visited → visit c visited ≡ Whole rs (used ++ visited))
      → (cs : List (ℕ × Bounds)) (before : List Record) (visited : List ℕ) (rs : List Record) (used : List ℕ) → Row S cs rs used
      → AreFreshPages used visited → each_child visit cs (Whole before visited) ≡ Whole (before ++ rs) (used ++ visited)
  row_walked one [] before visited rs used row fresh = rw (row.0, row.1, append-nil) refl
  row_walked one (c ∷ cs) before visited rs used row fresh =
      let parts : AreFreshPages (row.rest_used ++ row.first_used) visited = rw row.is_used at fresh in
      let here : visit c visited ≡ Whole row.first (row.first_used ++ visited) = one c visited row.first row.first_used row.here (fresh_early _ _ _ parts) in
      let after = row_walked one cs (before ++ row.first) (row.first_used ++ visited) row.rest row.rest_used row.after (fresh_late _ _ _ parts) in
      ap (λ w. each_child visit cs (and_then (Whole before visited) (λ v. w))) here ∙ after
      ∙ ap (λ l. Whole l (row.rest_used ++ (row.first_used ++ visited))) (append_assoc before row.first row.rest ∙ ap (λ l. before ++ l) (sym row.records))
      ∙ ap (λ l. Whole (before ++ rs) l) (sym (append_assoc row.rest_used row.first_used visited) ∙ ap (λ l. l ++ visited) (sym row.is_used))

-- What a walk has found whole is a subtree, of pages that were not visited before.
pub walk_found : (pages : List (List ℕ)) (height : ℕ) (is_root : Bool) (at : ℕ × Bounds) (visited : List ℕ) (rs : List Record) (now : List ℕ)
    → walk pages height is_root at visited ≡ Whole rs now → Found (Subtree pages height is_root at) visited rs now
walk_found pages zero is_root at visited rs now h = cc
walk_found pages (suc zero) is_root at visited rs now h =
    let t = else_whole _ _ _ _ _ h in
    leaf_found pages is_root at visited refl t.0 t.1
walk_found pages (suc (suc height)) is_root at visited rs now h =
    let t = else_whole _ _ _ _ _ h in
    inner_found (Subtree pages (suc height) false) (walk pages (suc height) false) pages (suc (suc height)) is_root at
    (λ c v ss later e. walk_found pages (suc height) false c v ss later e) refl t.0 t.1

pub if_true : (b : Bool) (v w : Walk) → b ≡ true → (if b then v else w) ≡ v
if_true true v w h = refl
if_true false v w h = cc

pub if_false : (b : Bool) (v w : Walk) → b ≡ false → (if b then v else w) ≡ w
if_false true v w h = cc
if_false false v w h = refl

-- and a subtree of such pages is found whole
pub walk_again : (pages : List (List ℕ)) (height : ℕ) (is_root : Bool) (at : ℕ × Bounds) (visited : List ℕ) {rs : List Record} (used : List ℕ)
    → Subtree pages height is_root at rs used → AreFreshPages used visited → walk pages height is_root at visited ≡ Whole rs (used ++ visited)
walk_again pages zero is_root at visited used s fresh = absurd s
walk_again pages (suc zero) is_root at visited used s fresh =
    let new : AreFreshPages (at.0 ∷ []) visited = rw s.is_used at fresh in
    if_false _ _ _ new.0 ∙ ap (leaf_walk is_root at.1 at.0 visited) s.page ∙ if_true _ _ _ (and_from _ _ s.enough s.within)
    ∙ rw s.is_used refl
walk_again pages (suc (suc height)) is_root at visited {rs} used s fresh =
    let new : AreFreshPages (s.under ++ at.0 ∷ []) visited = rw s.is_used at fresh in
    if_false _ _ _ (fresh_early s.under (at.0 ∷ []) visited new).0
    ∙ ap (inner_walk (walk pages (suc height) false) (suc (suc height)) is_root at.1 at.0 visited) s.page
    ∙ if_true _ _ _ (and_from _ _ (and_from _ _ (number_test s.inner.height (suc (suc height)) s.is_height) s.enough) s.within)
    ∙ row_walked (Subtree pages (suc height) false) (walk pages (suc height) false) (λ c v ss u t f. walk_again pages (suc height) false c v u t f)
    (bounded s.inner.children s.inner.keys at.1) [] (at.0 ∷ visited) rs s.under s.children (fresh_late s.under (at.0 ∷ []) visited new)
    ∙ ap (λ l. Whole rs l) (sym (append_assoc s.under (at.0 ∷ []) visited) ∙ ap (λ l. l ++ visited) (sym s.is_used))
