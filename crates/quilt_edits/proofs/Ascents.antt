-- Lists of records whose keys ascend.
use Rattle.std.proofs.Common.{◌≡◌, ℕ, zero, suc, ◌+◌, ◌-◌, ◌<◌, ◌≤◌, true, false, List, [], ◌∷◌, ◌++◌, length, drop, get_or, refl, sym, ◌∙◌, ap, subst, ⊎_elim}
use Rattle.std.proofs.Common.{◌⊎◌, inl, inr, arith, Contains, Ordering, Less, Equal, Greater, length-append}
use Rattle.std.specs.Ordering.{is_lt, ordering_reverse}
use Rattle.std.specs.Cmp.{tied_itself}
use Rattle.std.proofs.lemmas.List.Elements.{Contains-append_left, Contains-append_right, Contains-append_cases}
use Rattle.std.specs.List.Sorted.{IsPermutation, IsSortedByKey}
use Rattle.std.proofs.lemmas.Bool.{cases_lt, and_parts, and_from, both_ways}
use Rattle.std.proofs.lemmas.List.{get_or_default, drop_more}
use Rattle.std.proofs.lemmas.List.Sorted.{Contains-permutation, IsPermutation-sym, length_permutation}
use Rattle.quilt_loc.specs.Codes.{Rises}
use Rattle.quilt_loc.proofs.Members.{Contains-nil, Contains-here, Contains-there, Contains-cons_cases}
use Rattle.quilt_record.specs.declared.key.Key.{Key}
use Rattle.quilt_record.specs.declared.record.Record.{Record}
use Rattle.quilt_record.specs.Records.{key_cmp}
use Rattle.quilt_record.proofs.Orders.{is_Less, key_equal, lt_lt, key_total}
use Rattle.quilt_node.specs.Pages.{is_ascending}
use Rattle.quilt_node.specs.Nodes.{keys_of}
use Rattle.quilt_spell.specs.Apart.{Apart, SameMembers}
use Rattle.quilt_spell.specs.Written.{by_key}
use Rattle.quilt_spell.proofs.Lists.{split_at, Apart-le}
use Rattle.quilt_edits.specs.Edits.{HaveOwnKeys}
use Rattle.quilt_edits.proofs.Lists.{member_at}

-- each record's key is less than the next one's
abbrev pub IsStepwise : List Record → Type 0
IsStepwise xs = (k : ℕ) (d : Record) → suc k < length xs → is_lt (key_cmp (get_or xs k d).key (get_or xs (suc k) d).key) ≡ true

pub next_at : {X : Type 0} (xs : List X) (k : ℕ) (d : X) → get_or xs (suc k) d ≡ get_or xs (k + 1) d
next_at xs k d = let e : suc k ≡ k + 1 = omega arith in ap (λ n. get_or xs n d) e

step_tail : (x : Record) (xs : List Record) → IsStepwise (x ∷ xs) → IsStepwise xs
step_tail x xs h = λ k d lt. h (suc k) d (omega arith)

pub ascending_from : (xs : List Record) → IsStepwise xs → is_ascending (keys_of xs) ≡ true
ascending_from [] h = refl
ascending_from (x ∷ []) h = refl
ascending_from (x ∷ y ∷ xs) h =
    and_from (is_lt (key_cmp x.key y.key)) (is_ascending (keys_of (y ∷ xs))) (h 0 x (omega arith)) (ascending_from (y ∷ xs) (step_tail x (y ∷ xs) h))

pub ascending_at : (xs : List Record) → is_ascending (keys_of xs) ≡ true → IsStepwise xs
ascending_at [] h = λ k d lt. absurd (omega arith)
ascending_at (x ∷ []) h = λ k d lt. absurd (omega arith)
ascending_at (x ∷ y ∷ xs) h = λ k d lt.
    let w = and_parts (is_lt (key_cmp x.key y.key)) (is_ascending (keys_of (y ∷ xs))) h in
    step_at k d lt w.0 (ascending_at (y ∷ xs) w.1)
  where
    step_at : (k : ℕ) (d : Record) → suc k < length (x ∷ y ∷ xs) → is_lt (key_cmp x.key y.key) ≡ true → IsStepwise (y ∷ xs)
        → is_lt (key_cmp (get_or (x ∷ y ∷ xs) k d).key (get_or (x ∷ y ∷ xs) (suc k) d).key) ≡ true
    step_at zero d lt first rest = first
    step_at (suc k) d lt first rest = rest k d (omega arith)

pub ascending_rises : (xs : List Record) → is_ascending (keys_of xs) ≡ true → Rises by_key xs
ascending_rises [] h = tt
ascending_rises (x ∷ []) h = (λ y c. absurd (Contains-nil y c), tt)
ascending_rises (x ∷ y ∷ xs) h =
    let w = and_parts (is_lt (key_cmp x.key y.key)) (is_ascending (keys_of (y ∷ xs))) h in
    let rest = ascending_rises (y ∷ xs) w.1 in (
      λ z c. ⊎_elim (λ e. subst (λ (s : Record). by_key x s ≡ Less) e (is_Less (key_cmp x.key y.key) w.0))
          (λ d. is_Less (key_cmp x.key z.key) (lt_lt x.key y.key z.key w.0 (ap is_lt (rest.0 z d)))) (Contains-cons_cases y xs z c),
      rest,
    )

pub rises_ascend : (xs : List Record) → Rises by_key xs → is_ascending (keys_of xs) ≡ true
rises_ascend [] h = refl
rises_ascend (x ∷ []) h = refl
rises_ascend (x ∷ y ∷ xs) h =
    and_from (is_lt (key_cmp x.key y.key)) (is_ascending (keys_of (y ∷ xs))) (ap is_lt (h.0 y (Contains-here y xs))) (rises_ascend (y ∷ xs) h.1)

-- ---- what a sort gives
-- no element stands twice in a list that is as long and has the same elements
pub Apart-shuffled : {X : Type 0} (xs ys : List X) → Apart xs → length ys ≤ length xs → SameMembers xs ys → Apart ys
Apart-shuffled xs [] h le same = tt
Apart-shuffled {X} xs (y ∷ ys) h le same =
    let s = split_at xs y ((same y).1 (Contains-here y ys)) in
    let p = s.before in
    let q = s.behind in
    let parts = removed_apart p q y (subst (λ (l : List X). Apart l) s.whole h) in
    let whole = ap length s.whole in
    let a = length-append p (y ∷ q) in
    let b = length-append p q in
    let away : Contains ys y → ⊥ = λ c.
    let l = Apart-le xs ys h (λ z m. ⊎_elim (λ e. subst (Contains ys) e c) (λ d. d) (Contains-cons_cases y ys z ((same z).0 m))) in
    absurd (omega arith) in (
      away,
      Apart-shuffled (p ++ q) ys parts.0 (omega arith) (λ z. (
        λ m. ⊎_elim (λ e. absurd (parts.1 (subst (Contains (p ++ q)) (sym e) m))) (λ d. d)
            (Contains-cons_cases y ys z ((same z).0 (subst (λ (l : List X). Contains l z) (sym s.whole) (with_one p q y z m)))),
        λ m. without_one p q y z (subst (λ (l : List X). Contains l z) s.whole ((same z).1 (Contains-there y ys z m)))
            (λ e. away (subst (Contains ys) (sym e) m)),
      )),
    )
  where
    with_one : {X : Type 0} (p q : List X) (y z : X) → Contains (p ++ q) z → Contains (p ++ y ∷ q) z
    with_one p q y z m =
        ⊎_elim (λ d. Contains-append_left p (y ∷ q) z d) (λ d. Contains-append_right p (y ∷ q) z (Contains-there y q z d)) (Contains-append_cases p q z m)

    without_one : {X : Type 0} (p q : List X) (y z : X) → Contains (p ++ y ∷ q) z → (y ≡ z → ⊥) → Contains (p ++ q) z
    without_one p q y z m other =
        ⊎_elim (λ d. Contains-append_left p q z d)
        (λ d. ⊎_elim (λ e. absurd (other e)) (λ f. Contains-append_right p q z f) (Contains-cons_cases y q z d)) (Contains-append_cases p (y ∷ q) z m)

    removed_apart : {X : Type 0} (p q : List X) (y : X) → Apart (p ++ y ∷ q) → Apart (p ++ q) × (Contains (p ++ q) y → ⊥)
    removed_apart [] q y h = (h.1, h.0)
    removed_apart (x ∷ p) q y h =
        let r = removed_apart p q y h.1 in (
          (λ m. h.0 (with_one p q y x m), r.0),
          λ m.
              ⊎_elim (λ e. h.0 (subst (Contains (p ++ y ∷ q)) (sym e) (Contains-append_right p (y ∷ q) y (Contains-here y q)))) (λ d. r.1 d)
              (Contains-cons_cases x (p ++ q) y m),
        )

pub permuted : {X : Type 0} (xs ys : List X) → IsPermutation xs ys → SameMembers xs ys
permuted xs ys p z = (λ m. Contains-permutation xs ys z p m, λ m. Contains-permutation ys xs z (IsPermutation-sym xs ys p) m)

pub Apart-permuted : {X : Type 0} (xs ys : List X) → IsPermutation xs ys → Apart xs → Apart ys
Apart-permuted xs ys p h = let l = length_permutation xs ys p in Apart-shuffled xs ys h (omega arith) (permuted xs ys p)

-- elements at two places of such a list differ
pub apart_at : {X : Type 0} (xs : List X) (k : ℕ) (d : X) → Apart xs → suc k < length xs → get_or xs k d ≡ get_or xs (suc k) d → ⊥
apart_at [] k d h lt e = absurd (omega arith)
apart_at (x ∷ []) k d h lt e = absurd (omega arith)
apart_at (x ∷ y ∷ xs) zero d h lt e = h.0 (subst (Contains (y ∷ xs)) (sym e) (Contains-here y xs))
apart_at (x ∷ y ∷ xs) (suc k) d h lt e = apart_at (y ∷ xs) k d h.1 (omega arith) e

-- sorted records with keys of their own ascend
pub sorted_ascends : (xs ys : List Record) → IsPermutation xs ys → IsSortedByKey (λ r. r.key) key_cmp ys → HaveOwnKeys xs → is_ascending (keys_of ys) ≡ true
sorted_ascends xs ys p sorted own =
    let same = permuted xs ys p in
    let once = Apart-permuted xs ys p own.once in
    ascending_from ys (λ k d lt.
    let r = get_or ys k d in
    let s = get_or ys (suc k) d in
    let cr = member_at ys k d (omega arith) in
    let cs = member_at ys (suc k) d lt in
    let up = ap (λ (z : Record). is_lt (key_cmp z.key r.key)) (next_at ys k d) ∙ sorted k d (omega arith) (omega arith) in
    less_from r.key s.key up (λ e. apart_at ys k d once lt (own.keys r s ((same r).1 cr) ((same s).1 cs) e)))
  where
    less_from : (a b : Key) → is_lt (key_cmp b a) ≡ false → (a ≡ b → ⊥) → is_lt (key_cmp a b) ≡ true
    less_from a b down other = by_order (key_cmp a b) (key_cmp b a) (key_total.antisymm b a) refl down
      where
        by_order : (o r : Ordering) → r ≡ ordering_reverse o → o ≡ key_cmp a b → is_lt r ≡ false → is_lt o ≡ true
        by_order Less r e is n = refl
        by_order Equal r e is n = absurd (other (key_equal a b (sym is)))
        by_order Greater r e is n = absurd (both_ways (is_lt r) n (ap is_lt e))

-- ---- a walk through two such lists
drop_rises : (xs : List Record) (i : ℕ) → Rises by_key xs → Rises by_key (drop i xs)
drop_rises xs zero h = h
drop_rises [] (suc i) h = tt
drop_rises (x ∷ xs) (suc i) h = drop_rises xs i h.1

-- the common records are in what is left of both
abbrev pub AreAhead : List Record → List Record → ℕ → ℕ → Type 0
AreAhead a b i j = (r : Record) → Contains a r → Contains b r → Contains (drop i a) r × Contains (drop j b) r

-- a record that is left is the next, or behind it
next_or_behind : (xs : List Record) (i : ℕ) (d : Record) → i < length xs → Rises by_key xs → (r : Record) → Contains (drop i xs) r
    → (get_or xs i d ≡ r) ⊎ (Contains (drop (i + 1) xs) r × (by_key (get_or xs i d) r ≡ Less))
next_or_behind xs i d lt up r c =
    let whole = drop_more xs i d lt in
    let rises = subst (Rises by_key) whole (drop_rises xs i up) in
    ⊎_elim (λ e. inl e) (λ m. inr (m, rises.0 r m))
    (Contains-cons_cases (get_or xs i d) (drop (i + 1) xs) r (subst (λ (l : List Record). Contains l r) whole c))

module _ (a b : List Record) (i j : ℕ) (d e : Record) (li : i < length a) (lj : j < length b) (ua : Rises by_key a) (ub : Rises by_key b)
    (ahead : AreAhead a b i j) where
  pub first_passed : is_lt (key_cmp (get_or a i d).key (get_or b j e).key) ≡ true → AreAhead a b (i + 1) j
  first_passed less r ca cb =
      let w = ahead r ca cb in
      ⊎_elim
      (λ is. ⊎_elim
      (λ js. absurd (not_self r.key
      (subst (λ (z : Key). is_lt (key_cmp z r.key) ≡ true) (ap (λ (s : Record). s.key) is)
      (ap (λ (s : Record). is_lt (key_cmp (get_or a i d).key s.key)) (sym js) ∙ less))))
      (λ behind. absurd (not_self r.key
      (subst (λ (z : Key). is_lt (key_cmp z r.key) ≡ true) (ap (λ (s : Record). s.key) is)
      (lt_lt (get_or a i d).key (get_or b j e).key r.key less (ap is_lt behind.1)))))
      (next_or_behind b j e lj ub r w.1))
      (λ m. (m.0, w.1))
      (next_or_behind a i d li ua r w.0)
    where
      not_self : (k : Key) → is_lt (key_cmp k k) ≡ true → ⊥
      not_self k h = let f : is_lt (key_cmp k k) ≡ false = ap is_lt (tied_itself key_total k) in both_ways (is_lt (key_cmp k k)) f h

  pub second_passed : is_lt (key_cmp (get_or a i d).key (get_or b j e).key) ≡ false → (get_or a i d ≡ get_or b j e → ⊥) → AreAhead a b i (j + 1)
  second_passed not_less other r ca cb =
      let w = ahead r ca cb in
      ⊎_elim
      (λ js. ⊎_elim
      (λ is. absurd (other (is ∙ sym js)))
      (λ behind. absurd (both_ways (is_lt (key_cmp (get_or a i d).key (get_or b j e).key)) not_less
      (ap is_lt (ap (λ (s : Record). key_cmp (get_or a i d).key s.key) js ∙ behind.1))))
      (next_or_behind a i d li ua r w.0))
      (λ m. (w.0, m.0))
      (next_or_behind b j e lj ub r w.1)

pub none_ahead : (xs : List Record) (i : ℕ) (r : Record) → length xs ≤ i → Contains (drop i xs) r → ⊥
none_ahead xs i r le c = Contains-nil r (subst (λ (l : List Record). Contains l r) (all_dropped xs i le) c)
  where
    all_dropped : {X : Type 0} (xs : List X) (i : ℕ) → length xs ≤ i → drop i xs ≡ []
    all_dropped [] zero h = refl
    all_dropped [] (suc i) h = refl
    all_dropped (x ∷ xs) zero h = absurd (omega arith)
    all_dropped (x ∷ xs) (suc i) h = all_dropped xs i (omega arith)

-- the step before a place
pub step_before : (xs : List Record) (i : ℕ) (d : Record) → 1 ≤ i → i < length xs → IsStepwise xs
    → is_lt (key_cmp (get_or xs (i - 1) d).key (get_or xs i d).key) ≡ true
step_before xs i d least lt h = let e : suc (i - 1) ≡ i =
    omega arith in ap (λ n. is_lt (key_cmp (get_or xs (i - 1) d).key (get_or xs n d).key)) (sym e) ∙ h (i - 1) d (omega arith)

-- one step more
pub step_more : (xs : List Record) (i : ℕ) (e : Record) → 1 ≤ i → i < length xs → true ≡ is_lt (key_cmp (get_or xs (i - 1) e).key (get_or xs i e).key)
    → ((k : ℕ) (d : Record) → suc k < i → is_lt (key_cmp (get_or xs k d).key (get_or xs (suc k) d).key) ≡ true)
    → (k : ℕ) (d : Record) → suc k < i + 1 → is_lt (key_cmp (get_or xs k d).key (get_or xs (suc k) d).key) ≡ true
step_more xs i e least lt here before k d le =
    ⊎_elim (λ less. before k d less)
    (λ same.
    let at : k ≡ i - 1 = omega arith in
    let next : suc k ≡ i = omega arith in
    let first : get_or xs k d ≡ get_or xs (i - 1) e = get_or_default xs k d e (omega arith) ∙ ap (λ n. get_or xs n e) at in
    let second : get_or xs (suc k) d ≡ get_or xs i e = get_or_default xs (suc k) d e (omega arith) ∙ ap (λ n. get_or xs n e) next in
    ap (λ (r : Record). is_lt (key_cmp r.key (get_or xs (suc k) d).key)) first
    ∙ ap (λ (r : Record). is_lt (key_cmp (get_or xs (i - 1) e).key r.key)) second ∙ sym here)
    (cases_lt (suc k) i)
