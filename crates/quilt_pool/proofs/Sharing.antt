-- Which places are in use.
use Rattle.std.proofs.Common.{◌≡◌, ◌≢◌, inl, inr, ℕ, zero, suc, ◌+◌, ◌-◌, ◌<◌, ◌≤◌, cond, nat_eq, List, [], ◌∷◌, ◌++◌, Option, Some, None, length, take, get_or, slice_get, refl, sym, ◌∙◌, ap, subst, arith}
use Rattle.std.specs.Map.{lookup, lookup_entry, remove_entry}
use Rattle.std.specs.Option.{option_map_or}
use Rattle.std.proofs.lemmas.Bool.{cases_Bool, cases_eq, cases_lt, eq-eqb, ne_eqb}
use Rattle.std.proofs.lemmas.List.{take_all, length-append}
use Rattle.std.proofs.lemmas.Option.{slice_get-get_or}
use Rattle.lru.specs.LruCache.{promoted, last_entry}
use Rattle.quilt_pool.specs.Frames.{Places, hit, times, holders, IsShared}
use Rattle.quilt_pool.proofs.Looks.{found_value}

pub hit_here : (p q : ℕ) → p ≡ q → hit p q ≡ 1
hit_here p q same = rw (eq-eqb p q same) refl

pub hit_other : (p q : ℕ) → p ≢ q → hit p q ≡ 0
hit_other p q ne = rw (ne_eqb p q ne) refl

-- a place that a page has is held
pub held_place : (k at : ℕ) (es : Places) → lookup (nat_eq k) es ≡ Some at → 1 ≤ holders at es
held_place k at [] is = absurd cc
held_place k at (e ∷ es) is = elim (cases_Bool (nat_eq k e.0)) [
  | inl t ↦
      let found : Some e.1 ≡ Some at = rw t at is in
      let same : e.1 ≡ at = cc in
      omega (arith, hit_here at e.1 (sym same))
  | inr n ↦ let on = held_place k at es (rw n at is) in omega (arith, on)
]

holders_removed : (k at : ℕ) (es : Places) (p : ℕ) → lookup (nat_eq k) es ≡ Some at → holders p (remove_entry (nat_eq k) es) + hit p at ≡ holders p es
holders_removed k at [] p is = absurd cc
holders_removed k at (e ∷ es) p is = elim (cases_Bool (nat_eq k e.0)) [
  | inl t ↦
      let found : Some e.1 ≡ Some at = rw t at is in
      let same : e.1 ≡ at = cc in
      let one : hit p e.1 ≡ hit p at = ap (hit p) same in
      rw t (omega (arith, one))
  | inr n ↦ let on = holders_removed k at es p (rw n at is) in rw n (omega (arith, on))
]

length_removed : (k at : ℕ) (es : Places) → lookup (nat_eq k) es ≡ Some at → length (remove_entry (nat_eq k) es) + 1 ≡ length es
length_removed k at [] is = absurd cc
length_removed k at (e ∷ es) is = elim (cases_Bool (nat_eq k e.0)) [
  | inl t ↦ rw t (omega arith)
  | inr n ↦ let on = length_removed k at es (rw n at is) in rw n (omega (arith, on))
]

pub removed_none : (k : ℕ) (es : Places) → lookup (nat_eq k) es ≡ None → remove_entry (nat_eq k) es ≡ es
removed_none k [] none = refl
removed_none k (e ∷ es) none = elim (cases_Bool (nat_eq k e.0)) [
  | inl t ↦ let h : Some e.1 ≡ None = rw t at none in absurd cc
  | inr n ↦ rw n (ap (λ (l : Places). e ∷ l) (removed_none k es (rw n at none)))
]

moved_holders : (k : ℕ) (es : Places) (p : ℕ) (o : Option (ℕ × ℕ)) → lookup_entry (nat_eq k) es ≡ o
    → holders p (option_map_or (λ e. e ∷ remove_entry (nat_eq k) es) o es) ≡ holders p es
moved_holders k es p None h = refl
moved_holders k es p (Some e) h = let on = holders_removed k e.1 es p (found_value k es e h) in omega (arith, on)

pub holders_promoted : (k : ℕ) (es : Places) (p : ℕ) → holders p (promoted (nat_eq k) es) ≡ holders p es
holders_promoted k es p = moved_holders k es p (lookup_entry (nat_eq k) es) refl

moved_length : (k : ℕ) (es : Places) (o : Option (ℕ × ℕ)) → lookup_entry (nat_eq k) es ≡ o
    → length (option_map_or (λ e. e ∷ remove_entry (nat_eq k) es) o es) ≡ length es
moved_length k es None h = refl
moved_length k es (Some e) h = let on = length_removed k e.1 es (found_value k es e h) in omega (arith, on)

length_promoted : (k : ℕ) (es : Places) → length (promoted (nat_eq k) es) ≡ length es
length_promoted k es = moved_length k es (lookup_entry (nat_eq k) es) refl

-- the last of a list
holders_last : (m : ℕ) (es : Places) (j at p : ℕ) → length es ≡ suc m → slice_get es m ≡ Some (j, at) → holders p (take m es) + hit p at ≡ holders p es
holders_last m [] j at p size is = absurd (omega (arith, size))
holders_last zero (e ∷ []) j at p size is =
    let here : e ≡ (j, at) = cc in
    let one : hit p e.1 ≡ hit p at = ap (λ (x : ℕ × ℕ). hit p x.1) here in
    omega (arith, one)
holders_last zero (e ∷ d ∷ es) j at p size is = absurd (omega (arith, size))
holders_last (suc m) (e ∷ es) j at p size is = let on = holders_last m es j at p (omega (arith, size)) is in omega (arith, on)

times_last : (m : ℕ) (qs : List ℕ) (at p : ℕ) → length qs ≡ suc m → slice_get qs m ≡ Some at → times p (take m qs) + hit p at ≡ times p qs
times_last m [] at p size is = absurd (omega (arith, size))
times_last zero (q ∷ []) at p size is =
    let here : q ≡ at = cc in
    let one : hit p q ≡ hit p at = ap (hit p) here in
    omega (arith, one)
times_last zero (q ∷ r ∷ qs) at p size is = absurd (omega (arith, size))
times_last (suc m) (q ∷ qs) at p size is = let on = times_last m qs at p (omega (arith, size)) is in omega (arith, on)

times_push : (qs : List ℕ) (at p : ℕ) → times p (qs ++ at ∷ []) ≡ times p qs + hit p at
times_push [] at p = omega arith
times_push (q ∷ qs) at p = let on = times_push qs at p in omega (arith, on)

length_front : {A : Type 0} (m : ℕ) (xs : List A) → length xs ≡ suc m → length (take m xs) ≡ m
length_front zero xs size = refl
length_front (suc m) [] size = absurd (omega (arith, size))
length_front (suc m) (x ∷ xs) size = let on = length_front m xs (omega (arith, size)) in omega (arith, on)

last_size : {A : Type 0} (xs : List A) (x : A) → slice_get xs (length xs - 1) ≡ Some x → length xs ≡ suc (length xs - 1)
last_size [] x is = absurd cc
last_size (y ∷ xs) x is = omega arith

pub last_none : {A : Type 0} (xs : List A) → slice_get xs (length xs - 1) ≡ None → xs ≡ []
last_none [] is = refl
last_none (x ∷ xs) is =
    let some = slice_get-get_or (x ∷ xs) (length (x ∷ xs) - 1) x (omega arith) in
    let both : None ≡ Some (get_or (x ∷ xs) (length (x ∷ xs) - 1) x) = sym is ∙ some in
    absurd cc

pub shared_if : (n at : ℕ) (es : Places) (free : List ℕ) → at < n → IsShared n es free → IsShared (cond (nat_eq at n) (n + 1) n) es free
shared_if n at es free lt shared = rw (ne_eqb at n (λ same. absurd (omega (arith, lt, same)))) shared

pub count_kept : (n at : ℕ) → at < n → cond {A = ℕ} (nat_eq at n) (n + 1) n ≡ n
count_kept n at lt = rw (ne_eqb at n (λ same. absurd (omega (arith, lt, same)))) refl

pub shared_if_end : (n : ℕ) (es : Places) (free : List ℕ) → IsShared (n + 1) es free → IsShared (cond (nat_eq n n) (n + 1) n) es free
shared_if_end n es free shared = rw (eq-eqb n n refl) shared

-- ---- each frame is of one page, or free

pub shared_empty : IsShared 0 [] []
shared_empty = record { one = λ p lt. absurd (omega (arith, lt)); none = λ p le. refl; all = refl }

module _ (n : ℕ) (es : Places) (free : List ℕ) (shared : IsShared n es free) where
  -- a place that is in use lies below
  in_use : (p : ℕ) → 1 ≤ holders p es + times p free → p < n
  in_use p some = elim (cases_lt p n) [
    | inl lt ↦ lt
    | inr le ↦ absurd (omega (arith, some, shared.none p le))
  ]

  pub held_below : (k at : ℕ) → lookup (nat_eq k) es ≡ Some at → at < n
  held_below k at is = let some = held_place k at es is in in_use at (omega (arith, some))

  pub end_below : (j at : ℕ) → last_entry es ≡ Some (j, at) → at < n
  end_below j at last =
      let on = holders_last (length es - 1) es j at at (last_size es (j, at) last) last in
      in_use at (omega (arith, on, hit_here at at refl))

  pub held_once : (p : ℕ) → holders p es ≤ 1
  held_once p = elim (cases_lt p n) [
    | inl lt ↦ let one = shared.one p lt in omega (arith, one)
    | inr le ↦ let none = shared.none p le in omega (arith, none)
  ]

  -- the same uses of each place, in another order
  pub shared_as : (ns : Places) (left : List ℕ) → ((p : ℕ) → holders p ns + times p left ≡ holders p es + times p free)
      → length ns + length left ≡ length es + length free → IsShared n ns left
  shared_as ns left same size = record {
    one = λ p lt. same p ∙ shared.one p lt;
    none = λ p le. same p ∙ shared.none p le;
    all = size ∙ shared.all;
  }

  pub shared_promoted : (k : ℕ) → IsShared n (promoted (nat_eq k) es) free
  shared_promoted k = shared_as (promoted (nat_eq k) es) free
      (λ p. ap (λ (h : ℕ). h + times p free) (holders_promoted k es p)) (ap (λ (h : ℕ). h + length free) (length_promoted k es))

  -- a page goes, and its frame is free
  pub shared_removed : (k at : ℕ) → lookup (nat_eq k) es ≡ Some at → IsShared n (remove_entry (nat_eq k) es) (free ++ at ∷ [])
  shared_removed k at is = shared_as (remove_entry (nat_eq k) es) (free ++ at ∷ [])
      (λ p. omega (arith, holders_removed k at es p is, times_push free at p))
      (omega (arith, length_removed k at es is, length-append free (at ∷ [])))

  pub some_free : (k at : ℕ) → lookup (nat_eq k) es ≡ Some at → length free < n
  some_free k at is = omega (arith, length_removed k at es is, shared.all)

  -- a page comes in

  module _ (cap : ℕ) (fits : n ≤ cap) (k at : ℕ) where
    -- at the place of the last of a full table
    module _ (j : ℕ) (full : length es ≡ cap) (last : last_entry es ≡ Some (j, at)) where
      size : length es ≡ suc (cap - 1)
      size = let some = last_size es (j, at) last in omega (arith, some, full)

      at_end : slice_get es (cap - 1) ≡ Some (j, at)
      at_end = subst (λ m. slice_get es (m - 1) ≡ Some (j, at)) full last

      pub last_apart : holders at (take (cap - 1) es) ≡ 0
      last_apart =
          let on = holders_last (cap - 1) es j at at size at_end in
          let once = held_once at in
          omega (arith, on, once, hit_here at at refl)

      pub last_below : at < n
      last_below =
          let on = holders_last (cap - 1) es j at at size at_end in
          in_use at (omega (arith, on, hit_here at at refl))

      pub shared_last : IsShared n ((k, at) ∷ take (cap - 1) es) free
      shared_last = shared_as ((k, at) ∷ take (cap - 1) es) free
          (λ p. omega (arith, holders_last (cap - 1) es j at p size at_end))
          (omega (arith, length_front (cap - 1) es size, size))

    -- where there is room
    module _ (room : length es < cap) where
      all_stay : take (cap - 1) es ≡ es
      all_stay = take_all (cap - 1) es (omega (arith, room))

      -- at the last free place
      module _ (last : slice_get free (length free - 1) ≡ Some at) where
        free_uses : (p : ℕ) → times p (take (length free - 1) free) + hit p at ≡ times p free
        free_uses p = times_last (length free - 1) free at p (last_size free at last) last

        pub free_below : at < n
        free_below = in_use at (omega (arith, free_uses at, hit_here at at refl))

        pub free_apart : holders at (take (cap - 1) es) ≡ 0
        free_apart = rw all_stay (omega (arith, free_uses at, hit_here at at refl, shared.one at free_below))

        pub shared_free : IsShared n ((k, at) ∷ take (cap - 1) es) (take (length free - 1) free)
        shared_free = rw all_stay (shared_as ((k, at) ∷ es) (take (length free - 1) free)
            (λ p. omega (arith, free_uses p))
            (omega (arith, length_front (length free - 1) free (last_size free at last), last_size free at last)))

      -- at the place behind all
      module _ (none_free : free ≡ []) where
        pub end_apart : holders n (take (cap - 1) es) ≡ 0
        end_apart = rw all_stay (let none = shared.none n (omega arith) in omega (arith, none))

        pub shared_end : IsShared (n + 1) ((k, n) ∷ take (cap - 1) es) free
        shared_end = rw all_stay (record {
          one = λ p lt. elim (cases_eq p n) [
            | inl same ↦
                let none = shared.none p (omega (arith, same)) in
                omega (arith, none, hit_here p n same)
            | inr ne ↦
                let one = shared.one p (omega (arith, lt, ne)) in
                omega (arith, one, hit_other p n ne)
          ];
          none = λ p le.
              let none = shared.none p (omega (arith, le)) in
              let ne : p ≢ n = λ same. absurd (omega (arith, le, same)) in
              omega (arith, none, hit_other p n ne);
          all = omega (arith, shared.all);
        })

        pub end_room : n < cap
        end_room = let all = shared.all in let zero_free : length free ≡ 0 = ap (λ (l : List ℕ). length l) none_free in omega (arith, all, zero_free, room)
