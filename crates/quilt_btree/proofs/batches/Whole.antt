-- A whole tree behind edits.
use Rattle.std.proofs.Common.{◌≡◌, ◌≢◌, ℕ, zero, suc, ◌+◌, ◌-◌, ◌<◌, ◌≤◌, Bool, true, false, not, ◌&&◌, ◌||◌, filter, List, [], ◌∷◌, ◌++◌, length, take, drop}
use Rattle.std.proofs.lemmas.Bool.{and_from, and_parts, or_parts, not-true, and_right}
use Rattle.std.proofs.Common.{Option, None, Result, Ok, Err, IfOk, IfErr, refl, sym, ◌∙◌, ap, subst, arith, take-append-drop, length-drop}
use Rattle.std.proofs.Common.{◌*◌}
use Rattle.std.proofs.Common.{Ordering, Less, Equal, Greater}
use Rattle.std.specs.Prelude.{if◌then◌else◌}
use Rattle.std.specs.List.{list_all, list_any}
use Rattle.std.specs.Ordering.{is_lt, is_eq, ordering_reverse}
use Rattle.std.proofs.Math.Seq.{take-add}
use Rattle.std.proofs.lemmas.List.{take_rest, take_all}
use Rattle.quilt_types.specs.Facts.{quota}
use Rattle.quilt_types.specs.declared.stop.Stop.{Stop}
use Rattle.quilt_types.specs.declared.stop.Stop.TheVariants.{Damaged}
use Rattle.quilt_record.specs.declared.key.Key.{Key}
use Rattle.quilt_record.specs.declared.record.Record.{Record}
use Rattle.quilt_record.specs.Records.{key_cmp}
use Rattle.quilt_record.specs.Lists.{has_key, put, without}
use Rattle.quilt_record.proofs.Orders.{key_total}
use Rattle.quilt_node.specs.Pages.{is_ascending}
use Rattle.quilt_node.specs.Nodes.{keys_of}
use Rattle.quilt_node.specs.Tree.{Bounds, is_above}
use Rattle.quilt_node.proofs.Ascending.{ascending_cons}
use Rattle.quilt_btree.specs.declared.tree.Tree.{Tree}
use Rattle.quilt_btree.specs.declared.edit.Edit.{Edit}
use Rattle.quilt_btree.specs.declared.edit.Edit.TheVariants as edit
use Rattle.quilt_btree.specs.Batches.{edit_keys, is_due, edited, edit_all, are_due, more_of, fewer_of, cost_of, looks_of, more, fewer, cost, looks, removed, records_put, Fails, DidEdit, key_of}
use Rattle.quilt_btree.specs.Edits.{CanEdit, IsWhole}
use Rattle.quilt_btree.specs.Trees.{IsRooted}
use Rattle.quilt_btree.proofs.batches.Leaves.{edit_at, taken, edit_all-append, are_due-append}
use Rattle.quilt_btree.proofs.growth.Fills.{within_put}
use Rattle.quilt_btree.proofs.growth.TreeGrowth.{length-put, everywhere, whole_again}
use Rattle.quilt_btree.proofs.lists.Lists.{filter_cond}
use Rattle.quilt_btree.proofs.lists.Withouts.{without_one_fewer}
use Rattle.quilt_btree.proofs.removals.Drains.{asc_without}
use Rattle.quilt_btree.proofs.removals.TreeRemovals.{IsRemoving, at_root}
use Rattle.quilt_btree.proofs.subtrees.Along.{IsSame}
use Rattle.quilt_btree.proofs.subtrees.Holdings.{subtree_some}
use Rattle.quilt_btree.proofs.subtrees.Trees.{subtree_rises, ascending_first, ascending_rest}
use Rattle.quilt_btree.proofs.lists.Separators.{ascending_behind}

-- counts of runs
pub more-append : (xs ys : List Edit) → more (xs ++ ys) ≡ more xs + more ys
more-append [] ys = omega arith
more-append (x ∷ xs) ys = let h = more-append xs ys in omega arith

pub fewer-append : (xs ys : List Edit) → fewer (xs ++ ys) ≡ fewer xs + fewer ys
fewer-append [] ys = omega arith
fewer-append (x ∷ xs) ys = let h = fewer-append xs ys in omega arith

pub cost-append : (xs ys : List Edit) → cost (xs ++ ys) ≡ cost xs + cost ys
cost-append [] ys = omega arith
cost-append (x ∷ xs) ys = let h = cost-append xs ys in omega arith

pub more_take : (n : ℕ) (run : List Edit) → more (take n run) + more (drop n run) ≡ more run
more_take n run = sym (more-append (take n run) (drop n run)) ∙ ap more (take-append-drop n run)

pub cost_take : (n : ℕ) (run : List Edit) → cost (take n run) + cost (drop n run) ≡ cost run
cost_take n run = sym (cost-append (take n run) (drop n run)) ∙ ap cost (take-append-drop n run)

pub looks-append : (xs ys : List Edit) → looks (xs ++ ys) ≡ looks xs + looks ys
looks-append [] ys = omega arith
looks-append (x ∷ xs) ys = let h = looks-append xs ys in omega arith

pub looks_take : (n : ℕ) (run : List Edit) → looks (take n run) + looks (drop n run) ≡ looks run
looks_take n run = sym (looks-append (take n run) (drop n run)) ∙ ap looks (take-append-drop n run)

-- an edit may look at 6 pages at least
pub least_looks : (e : Edit) → 6 ≤ looks_of e
least_looks (edit.Remove k) = omega arith
least_looks (edit.Put r) = omega arith
least_looks (edit.Replace r) = omega arith

pub some_looks : (run : List Edit) (n : ℕ) → 1 ≤ n → n ≤ length run → 6 ≤ looks (take n run)
some_looks [] n some le = absurd (omega arith)
some_looks (e ∷ run) zero some le = absurd (omega arith)
some_looks (e ∷ run) (suc n) some le = let l = least_looks e in omega arith

-- a run of one edit costs 6 at least
pub least_cost : (e : Edit) → 6 ≤ cost_of e
least_cost (edit.Remove k) = omega arith
least_cost (edit.Put r) = omega arith
least_cost (edit.Replace r) = omega arith

pub some_cost : (run : List Edit) → 1 ≤ length run → 1 ≤ cost run
some_cost [] h = absurd (omega arith)
some_cost (e ∷ run) h = let l = least_cost e in omega arith

-- the list ascends behind an edit that was due
other_path : (a b : Key) → is_lt (key_cmp a b) ≡ false → is_eq (key_cmp b a) ≡ false → is_lt (key_cmp b a) ≡ true
other_path a b h g = on (key_cmp a b) (key_cmp b a) (key_total.antisymm a b) h g
  where
    on : (o p : Ordering) → o ≡ ordering_reverse p → is_lt o ≡ false → is_eq p ≡ false → is_lt p ≡ true
    on o Less e h g = refl
    on o Equal e h g = cc
    on o Greater e h g = absurd (no (is_lt o) (ap is_lt e) h)
      where
        no : (b : Bool) → b ≡ true → b ≡ false → ⊥
        no true h g = cc
        no false h g = cc

asc_step : (r s : Record) (rs : List Record) (b : Bool) → is_lt (key_cmp r.key s.key) ≡ b → is_ascending (keys_of (s ∷ rs)) ≡ true
    → list_any (has_key r.key) (s ∷ rs) ≡ false → is_ascending (keys_of (put r rs)) ≡ true
    → is_ascending (keys_of (if b then r ∷ s ∷ rs else s ∷ put r rs)) ≡ true
asc_step r s rs true e a none h = and_from (is_lt (key_cmp r.key s.key)) (is_ascending (keys_of (s ∷ rs))) e a
asc_step r s rs false e a none h =
    let n = or_parts (has_key r.key s) (list_any (has_key r.key) rs) none in
    ascending_cons s.key (keys_of (put r rs))
    (within_put (λ m. is_lt (key_cmp s.key m)) r rs (other_path r.key s.key e n.0) (ascending_first s.key (keys_of rs) a)) h

pub asc_put : (r : Record) (rs : List Record) → is_ascending (keys_of rs) ≡ true → list_any (has_key r.key) rs ≡ false
    → is_ascending (keys_of (put r rs)) ≡ true
asc_put r [] a none = refl
asc_put r (s ∷ rs) a none =
    asc_step r s rs (is_lt (key_cmp r.key s.key)) refl a none
    (asc_put r rs (ascending_rest s.key (keys_of rs) a) (or_parts (has_key r.key s) (list_any (has_key r.key) rs) none).1)

pub gone : (k : Key) (rs : List Record) → list_any (has_key k) (without k rs) ≡ false
unfolding without
gone k [] = refl
gone k (r ∷ rs) = step (has_key k r) refl (gone k rs)
  where
    step : (b : Bool) → has_key k r ≡ b → list_any (has_key k) (filter (λ s. not (has_key k s)) rs) ≡ false
        → list_any (has_key k) (filter (λ s. not (has_key k s)) (r ∷ rs)) ≡ false
    step true e h =
        ap (λ l. list_any (has_key k) l) (filter_cond (λ s. not (has_key k s)) r (filter (λ s. not (has_key k s)) rs)
        (filter (λ s. not (has_key k s)) rs) false (ap not e)) ∙ h
    step false e h =
        ap (λ l. list_any (has_key k) l) (filter_cond (λ s. not (has_key k s)) r (filter (λ s. not (has_key k s)) rs)
        (filter (λ s. not (has_key k s)) rs) true (ap not e)) ∙ ap (λ b. b || list_any (has_key k) (filter (λ s. not (has_key k s)) rs)) e ∙ h

pub asc_edited : (x : Edit) (rs : List Record) → is_ascending (keys_of rs) ≡ true → is_due x rs ≡ true → is_ascending (keys_of (edited x rs)) ≡ true
asc_edited (edit.Remove k) rs a d = asc_without k rs a
asc_edited (edit.Put r) rs a d = asc_put r rs a (not-true (list_any (has_key r.key) rs) d)
asc_edited (edit.Replace r) rs a d = asc_put r (without r.key rs) (asc_without r.key rs a) (gone r.key rs)

pub length_edited : (x : Edit) (rs : List Record) → is_ascending (keys_of rs) ≡ true → is_due x rs ≡ true
    → length (edited x rs) + fewer_of x ≡ length rs + more_of x
length_edited (edit.Remove k) rs a d = let h = without_one_fewer k rs a d in omega arith
length_edited (edit.Put r) rs a d = let h = length-put r rs in omega arith
length_edited (edit.Replace r) rs a d = let h = without_one_fewer r.key rs a d in let g = length-put r (without r.key rs) in omega arith

pub length_all : (xs : List Edit) (rs : List Record) → is_ascending (keys_of rs) ≡ true → are_due xs rs ≡ true
    → length (edit_all xs rs) + fewer xs ≡ length rs + more xs
length_all [] rs a d = refl
length_all (x ∷ xs) rs a d =
    let t = and_parts (is_due x rs) (are_due xs (edited x rs)) d in
    let h = length_all xs (edited x rs) (asc_edited x rs a t.0) t.1 in
    let g = length_edited x rs a t.0 in
    omega arith

-- the tree at its root
abbrev pub AtRootEdits : (run xs : List Edit) → (told now_told : Option (List (List ℕ))) (free now : ℕ → Bool) → Tree → Type 0
AtRootEdits run xs told now_told free now t =
    (b : Bounds) (rs : List Record) (used : List ℕ) → b.high ≡ None → list_all (is_above b.low) (edit_keys run) ≡ true
    → CanEdit told free t.root t.height true b rs used → DidEdit xs told now_told free now t.root t.height true b rs used

all_over_none : (ks : List Key) → list_all (is_above None) ks ≡ true
all_over_none [] = refl
all_over_none (k ∷ ks) = all_over_none ks

module _ (told now_told : Option (List (List ℕ))) (free now : ℕ → Bool) (size : ℕ) where
  pub some_left : (t : Tree) (rs : List Record) (run xs : List Edit) → IsRemoving free size t → AtRootEdits run xs told now_told free now t
      → IsWhole told free size t rs → fewer xs < t.records + more xs
  some_left t rs run xs i f w =
      let a = at_root told free size t rs i w in
      let did = f everywhere rs a.used refl (all_over_none (edit_keys run)) a.can in
      let rises = subtree_rises a.can.pages t.height true (t.root, everywhere) rs a.used a.can.subtree in
      let left = subtree_some did.news t.height true (t.root, everywhere) (edit_all xs rs) did.becomes.uses did.becomes.subtree in
      enough (fewer xs) (more xs) (ap length left.is)
      (length_all xs rs rises.ascends did.due) w.number
    where
      enough : {a m : ℕ} (f p : ℕ) {l r : ℕ} → a ≡ suc m → a + f ≡ l + p → l ≡ r → f < r + p
      enough f p e g h = omega arith

  pub whole_edited : (records : ℕ) (t : Tree) {rs : List Record} (run : List Edit) {xs : List Edit} → IsRemoving free size t
      → records + fewer xs ≡ t.records + more xs → AtRootEdits run xs told now_told free now t → IsWhole told free size t rs
      → (are_due xs rs ≡ true) × IsWhole now_told now size (record { root = t.root; height = t.height; records = records }) (edit_all xs rs)
  whole_edited records t {rs} run {xs} i count f w =
      let a = at_root told free size t rs i w in
      let did = f everywhere rs a.used refl (all_over_none (edit_keys run)) a.can in
      let rises = subtree_rises a.can.pages t.height true (t.root, everywhere) rs a.used a.can.subtree in
      let tall : 1 ≤ t.height = let ne = i.above in omega arith in
      let number : length (edit_all xs rs) ≡ records =
      same (fewer xs) (more xs) (length_all xs rs rises.ascends did.due) w.number count in (
        did.due,
        whole_again t.root did.is tall did.becomes.subtree did.becomes.moves a.can.apart a.balance number,
      )
    where
      same : {a : ℕ} (f p : ℕ) {l r n : ℕ} → a + f ≡ l + p → l ≡ r → n + f ≡ r + p → a ≡ n
      same f p g h c = omega arith

-- a run is not due where its first edits are not
pub undue_first : (n : ℕ) (run : List Edit) (rs : List Record) → are_due (take n run) rs ≡ false → are_due run rs ≡ false
undue_first n run rs missing =
    ap (λ m. are_due m rs) (sym (take-append-drop n run)) ∙ are_due-append (take n run) (drop n run) rs
    ∙ ap (λ b. b && are_due (drop n run) (edit_all (take n run) rs)) missing

-- where nothing changed before
pub whole_along : {told mid : Option (List (List ℕ))} {free was : ℕ → Bool} {size at : ℕ} (t : Tree) (rs : List Record) → IsSame told mid free was size at
    → IsWhole told free size t rs → IsWhole mid was at t rs
whole_along {told} {mid} {free} {was} {size} t rs is w =
    subst (λ m. IsWhole mid was m t rs) (sym is.same_size)
    (subst (λ (h : ℕ → Bool). IsWhole mid h size t rs) (sym is.same_free) (subst (λ o. IsWhole o free size t rs) (sym is.same_pages) w))

pub stays_edited : (r : Result ℕ Stop) {told mid : Option (List (List ℕ))} (now_told : Option (List (List ℕ))) {free was : ℕ → Bool} (now : ℕ → Bool)
    {size at : ℕ} (t u : Tree) (run : List Edit) → IsSame told mid free was size at
    → IfOk r (λ n. (rs : List Record) → IsWhole mid was at t rs → (are_due (take n run) rs ≡ true) × IsWhole now_told now at u (edit_all (take n run) rs))
    → IfOk r (λ n. (rs : List Record) → IsWhole told free size t rs
    → (are_due (take n run) rs ≡ true) × IsWhole now_told now size u (edit_all (take n run) rs))
stays_edited (Err e) now_told now t u run is f = f
stays_edited (Ok n) now_told now t u run is f = λ rs w.
    let g = f rs (whole_along t rs is w) in
    (g.0, subst (λ m. IsWhole now_told now m u (edit_all (take n run) rs)) is.same_size g.1)

-- an end that names a page of a whole tree names page 0, where an edit of the run is not due
abbrev pub NamesUndue : Stop → Option (List (List ℕ)) → (ℕ → Bool) → ℕ → Tree → List Edit → Type 0
NamesUndue e told free size t run =
    (rs : List Record) → IsWhole told free size t rs → (page : ℕ) → e ≡ Damaged page → (page ≡ 0) × (are_due run rs ≡ false)

pub stays_failed : (r : Result ℕ Stop) {told mid : Option (List (List ℕ))} {free was : ℕ → Bool} {size at : ℕ} (t : Tree) (run : List Edit)
    → IsSame told mid free was size at → IfErr r (λ e. NamesUndue e mid was at t run) → IfErr r (λ e. NamesUndue e told free size t run)
stays_failed (Ok v) t run is f = f
stays_failed (Err e) t run is f = λ rs w. f rs (whole_along t rs is w)

-- how far a run is made
pub record IsMade (told now_told : Option (List (List ℕ))) (free now : ℕ → Bool) (size : ℕ) (t u : Tree) (run : List Edit) : Type 0 where
  pub rooted : IsRooted size u
  pub count : u.records + fewer run ≡ t.records + more run
  pub whole : (rs : List Record) → IsWhole told free size t rs → (are_due run rs ≡ true) × IsWhole now_told now size u (edit_all run rs)

-- the rest of the run as a slice
abbrev pub rest : List Edit → ℕ → List Edit
rest run i = take (length run - i) (drop i run)

-- a run is its first edit and the rest
pub first_rest : (run : List Edit) {e : Edit} → 1 ≤ length run → edit_at run 0 ≡ e → run ≡ e ∷ rest run 1
first_rest [] some is = absurd (omega arith)
first_rest (f ∷ run) some is = ap (λ l. f ∷ l) (sym (take_rest (f ∷ run) 1)) ∙ ap (λ x. x ∷ rest (f ∷ run) 1) is

pub rest_long : (run : List Edit) (i n : ℕ) → i < length run → n ≤ length (rest run i) → i + n ≤ length run
rest_long run i n lt le = let e = ap (λ (l : List Edit). length l) (take_rest run i) ∙ length-drop i run in omega arith

keys_drop : (i : ℕ) (run : List Edit) → edit_keys (drop i run) ≡ drop i (edit_keys run)
keys_drop zero run = refl
keys_drop (suc i) [] = refl
keys_drop (suc i) (e ∷ run) = keys_drop i run

pub rest_ascends : (run : List Edit) (i : ℕ) → is_ascending (edit_keys run) ≡ true → is_ascending (edit_keys (rest run i)) ≡ true
rest_ascends run i a =
    subst (λ l. is_ascending (edit_keys l) ≡ true) (sym (take_rest run i)) (subst (λ l. is_ascending l ≡ true) (sym (keys_drop i run))
    (ascending_behind (take i (edit_keys run)) (drop i (edit_keys run))
    (subst (λ l. is_ascending l ≡ true) (sym (take-append-drop i (edit_keys run))) a)))

pub made_rest : {told mid now_told : Option (List (List ℕ))} {free was now : ℕ → Bool} {size at : ℕ} (i n : ℕ) {t u v : Tree} (run : List Edit)
    → at ≡ size
    → IsMade told mid free was size t u (take i run) → IsRooted at v
    → v.records + fewer (take n (rest run i)) ≡ u.records + more (take n (rest run i))
    → ((rs : List Record) → IsWhole mid was at u rs → (are_due (take n (rest run i)) rs ≡ true)
    × IsWhole now_told now at v (edit_all (take n (rest run i)) rs))
    → IsMade told now_told free now size t v (take (i + n) run)
made_rest {told} {mid} {now_told} {free} {was} {now} {size} i n {t} {u} {v} run same made rooted count f =
    let xs = take i run in
    let ys = take n (rest run i) in
    let cut : take (i + n) run ≡ xs ++ ys = take-add i n run ∙ ap (λ l. xs ++ take n l) (sym (take_rest run i)) in
    subst (IsMade told now_told free now size t v) (sym cut) (record {
      rooted = subst (λ m. IsRooted m v) same rooted;
      count = let a = more-append xs ys in let b = fewer-append xs ys in let c = made.count in omega (arith, a, b, c, count);
      whole = λ rs w.
          let h = made.whole rs w in
          let g = f (edit_all xs rs) (subst (λ m. IsWhole mid was m u (edit_all xs rs)) (sym same) h.1) in (
            are_due-append xs ys rs ∙ and_from (are_due xs rs) (are_due ys (edit_all xs rs)) h.0 g.0,
            subst (λ l. IsWhole now_told now size v l) (sym (edit_all-append xs ys rs))
                (subst (λ m. IsWhole now_told now m v (edit_all ys (edit_all xs rs))) same g.1),
          );
    })

pub rest_fails : (e : Stop) {told mid : Option (List (List ℕ))} {free was : ℕ → Bool} {size at : ℕ} (i : ℕ) {t u : Tree} (run : List Edit) → at ≡ size
    → IsMade told mid free was size t u (take i run) → NamesUndue e mid was at u (rest run i) → NamesUndue e told free size t run
rest_fails e {mid = mid} {was = was} i {u = u} run same made f = λ rs w page is.
    let xs = take i run in
    let h = f (edit_all xs rs) (subst (λ m. IsWhole mid was m u (edit_all xs rs)) (sym same) (made.whole rs w).1) page is in (
      h.0,
      ap (λ l. are_due l rs) (sym (take-append-drop i run)) ∙ are_due-append xs (drop i run) rs
          ∙ and_right (are_due xs rs) (are_due (drop i run) (edit_all xs rs)) (ap (λ l. are_due l (edit_all xs rs)) (sym (take_rest run i)) ∙ h.1),
    )

pub rest_cost : (run : List Edit) (i n : ℕ) → cost (take (i + n) run) ≡ cost (take i run) + cost (take n (rest run i))
rest_cost run i n =
    ap cost (take-add i n run) ∙ cost-append (take i run) (take n (drop i run)) ∙ ap (λ l. cost (take i run) + cost (take n l))
    (sym (take_rest run i))

pub rest_looks : (run : List Edit) (i n : ℕ) → looks (take (i + n) run) ≡ looks (take i run) + looks (take n (rest run i))
rest_looks run i n =
    ap looks (take-add i n run) ∙ looks-append (take i run) (take n (drop i run)) ∙ ap (λ l. looks (take i run) + looks (take n l))
    (sym (take_rest run i))

pub rest_cost_all : (run : List Edit) (i : ℕ) → cost (take i run) + cost (rest run i) ≡ cost run
rest_cost_all run i = ap (λ l. cost (take i run) + cost l) (take_rest run i) ∙ cost_take i run

module _ (told : Option (List (List ℕ))) (free : ℕ → Bool) (size : ℕ) (t : Tree) (run : List Edit) where
  pub whole_fails : (e : Stop) (rs : List Record) → IsRemoving free size t
      → ((b : Bounds) (rs : List Record) (used : List ℕ) → b.high ≡ None → CanEdit told free t.root t.height true b rs used → (q : ℕ) → e ≡ Damaged q
      → (q ≡ 0) × Fails run b.high rs)
      → IsWhole told free size t rs → (q : ℕ) → e ≡ Damaged q → (q ≡ 0) × (are_due run rs ≡ false)
  whole_fails e rs i f w q is =
      let a = at_root told free size t rs i w in
      let h = f everywhere rs a.used refl a.can q is in
      (h.0, undue_first h.1.number run rs h.1.missing)

  pub made_all : (now_told : Option (List (List ℕ))) (now : ℕ → Bool) (i : ℕ) (u : Tree) → length run ≤ i
      → IsMade told now_told free now size t u (take i run) → IsMade told now_told free now size t u run
  made_all now_told now i u le made = subst (IsMade told now_told free now size t u) (take_all i run le) made

  pub rest_room : (mid : Option (List (List ℕ))) (was : ℕ → Bool) (i : ℕ) (u : Tree) → IsMade told mid free was size t u (take i run)
      → t.records + more run ≤ quota size → u.records + more (rest run i) ≤ quota size
  rest_room mid was i u made room =
      enough u.records (more (rest run i)) t.records (fewer (take i run)) (more (take i run)) (quota size) made.count
      (subst (λ m. t.records + m ≤ quota size) (sym (ap (λ l. more (take i run) + more l) (take_rest run i) ∙ more_take i run)) room)
    where
      enough : (u r t f a q : ℕ) → u + f ≡ t + a → t + (a + r) ≤ q → u + r ≤ q
      enough u r t f a q e h = omega arith

pub more_next : (run : List Edit) (i : ℕ) → i < length run → more (take (i + 1) run) ≡ more (take i run) + more_of (edit_at run i)
more_next run i lt =
    let e = ap more (taken run i lt) ∙ more-append (take i run) (edit_at run i ∷ []) in omega arith

pub fewer_next : (run : List Edit) (i : ℕ) → i < length run → fewer (take (i + 1) run) ≡ fewer (take i run) + fewer_of (edit_at run i)
fewer_next run i lt =
    let e = ap fewer (taken run i lt) ∙ fewer-append (take i run) (edit_at run i ∷ []) in omega arith

-- the first edit alone
pub first_one : (run : List Edit) → 1 ≤ length run → take 1 run ≡ edit_at run 0 ∷ []
first_one [] some = absurd (omega arith)
first_one (e ∷ run) some = refl

pub first_fails : (run : List Edit) (rs : List Record) → 1 ≤ length run → is_due (edit_at run 0) rs ≡ false → are_due run rs ≡ false
first_fails [] rs some h = absurd (omega arith)
first_fails (e ∷ run) rs some h = ap (λ b. b && are_due run (edited e rs)) h

pub few_enough : (r a b m n : ℕ) → a + b ≡ m → r + m ≤ quota n → n ≤ 30000 → r + a < 4294967296
few_enough r a b m n e h g = omega arith

-- there is room for the first edits where there is for all
pub first_room : (r a b m q : ℕ) → a + b ≡ m → r + m ≤ q → r + a ≤ q
first_room r a b m q e h = omega arith

pub still_rooted : {size m : ℕ} (a f : ℕ) {t : Tree} → IsRooted size t → t.height ≢ 0 → m + f ≡ t.records + a → 1 ≤ m → t.records + a ≤ quota size
    → IsRooted size (record { root = t.root; height = t.height; records = m })
still_rooted {size} {m} a f {t} r ne e some room = record {
  height = r.height;
  records = enough m f t.records a (quota size) e room;
  tree = λ tall. let s = r.tree tall in (s.0, s.1, some);
  none = λ z. absurd (ne z);
}
  where
    enough : (m f r a q : ℕ) → m + f ≡ r + a → r + a ≤ q → m ≤ q
    enough m f r a q e h = omega arith

-- a key stands above those of a run where it is above the last
follows_last : (e : Edit) (run : List Edit) (k : Key) → is_ascending (edit_keys (e ∷ run)) ≡ true
    → is_ascending (edit_keys (e ∷ run) ++ k ∷ []) ≡ is_lt (key_cmp (key_of (edit_at (e ∷ run) (length run))) k)
follows_last e [] k h = alone (is_lt (key_cmp (key_of e) k))
  where
    alone : (b : Bool) → (b && true) ≡ b
    alone true = refl
    alone false = refl
follows_last e (f ∷ run) k h =
    let t = and_parts (is_lt (key_cmp (key_of e) (key_of f))) (is_ascending (edit_keys (f ∷ run))) h in
    ap (λ b. b && is_ascending (edit_keys (f ∷ run) ++ k ∷ [])) t.0 ∙ follows_last f run k t.1

pub follows_all : (run : List Edit) (k l : Key) (b : Bool) → length run ≢ 0 → is_ascending (edit_keys run) ≡ true
    → l ≡ key_of (edit_at run (length run - 1)) → b ≡ is_lt (key_cmp l k) → b ≡ is_ascending (edit_keys run ++ k ∷ [])
follows_all [] k l b some a is test = absurd (some refl)
follows_all (e ∷ run) k l b some a is test =
    test ∙ ap (λ m. is_lt (key_cmp m k)) (is ∙ ap (λ n. key_of (edit_at (e ∷ run) n)) (less (length run))) ∙ sym (follows_last e run k a)
  where
    less : (n : ℕ) → suc n - 1 ≡ n
    less n = omega arith

pub looks_are : (run : List Edit) → looks run ≡ 10 * length (removed run) + 6 * length (records_put run)
looks_are [] = refl
looks_are (edit.Remove k ∷ run) = let h = looks_are run in omega arith
looks_are (edit.Put r ∷ run) = let h = looks_are run in omega arith
looks_are (edit.Replace r ∷ run) = let h = looks_are run in omega arith

pub cost_is : (run : List Edit) → cost run ≡ 7 * length (removed run) + 6 * length (records_put run)
cost_is [] = refl
cost_is (edit.Remove k ∷ run) = let h = cost_is run in omega arith
cost_is (edit.Put r ∷ run) = let h = cost_is run in omega arith
cost_is (edit.Replace r ∷ run) = let h = cost_is run in omega arith
