-- A run of keys whose records are taken out one after the other.
use Rattle.std.proofs.Common.{◌≡◌, ℕ, Bool, true, false, not, cond, ◌||◌, ◌&&◌, List, [], ◌∷◌, filter}
use Rattle.std.proofs.lemmas.Bool.{and_parts}
use Rattle.std.proofs.Common.{get_or, refl, sym, ◌∙◌, ap, subst, Less, Equal, Greater, Ordering}
use Rattle.std.specs.List.{list_any, list_all}
use Rattle.std.specs.Ordering.{is_lt, is_eq, is_le, ordering_reverse}
use Rattle.quilt_record.specs.declared.key.Key.{Key}
use Rattle.quilt_record.specs.declared.record.Record.{Record}
use Rattle.quilt_record.specs.Records.{key_cmp}
use Rattle.quilt_record.specs.Lists.{has_key, without}
use Rattle.quilt_btree.specs.Runs.{without_all, has_each}
use Rattle.quilt_btree.proofs.lists.Lists.{filter_cond}
use Rattle.quilt_record.proofs.Orders.{key_total, key_equal, lt_le, lt_not_eq, gt_not_eq}

-- a record with another key stays
other_key : (j k : Key) (r : Record) → is_lt (key_cmp j k) ≡ true → has_key k r ≡ true → has_key j r ≡ false
other_key j k r lt h = gt_not_eq j r.key (lt_le j k r.key lt (turned (key_cmp r.key k) (key_cmp k r.key) (key_total.antisymm k r.key) h))
  where
    turned : (o p : Ordering) → p ≡ ordering_reverse o → is_eq o ≡ true → is_le p ≡ true
    turned Less p e h = cc
    turned Equal p e h = ap is_le e
    turned Greater p e h = cc

module _ (p q : Record → Bool) where
  other_step : (r : Record) (rs : List Record) (b c : Bool) → q r ≡ b → p r ≡ c → (p r ≡ true → q r ≡ true) → list_any p (filter q rs) ≡ list_any p rs
      → list_any p (cond (q r) (r ∷ filter q rs) (filter q rs)) ≡ (p r || list_any p rs)
  other_step r rs true c e g f h = ap (λ l. list_any p l) (filter_cond q r (filter q rs) (filter q rs) true e) ∙ ap (λ b. p r || b) h
  other_step r rs false true e g f h = let k = f g in cc
  other_step r rs false false e g f h =
      ap (λ l. list_any p l) (filter_cond q r (filter q rs) (filter q rs) false e) ∙ h ∙ sym (ap (λ b. b || list_any p rs) g)

  any_filter_other : (rs : List Record) → ((r : Record) → p r ≡ true → q r ≡ true) → list_any p (filter q rs) ≡ list_any p rs
  any_filter_other [] f = refl
  any_filter_other (r ∷ rs) f = other_step r rs (q r) (p r) refl refl (f r) (any_filter_other rs f)

any_without_other : (j k : Key) (rs : List Record) → is_lt (key_cmp j k) ≡ true → list_any (has_key k) (without j rs) ≡ list_any (has_key k) rs
unfolding without
any_without_other j k rs lt = any_filter_other (has_key k) (λ r. not (has_key j r)) rs (λ r h. ap not (other_key j k r lt h))

-- a record of an earlier key stays
pub any_without_above : (j k : Key) (rs : List Record) → is_lt (key_cmp k j) ≡ true → list_any (has_key k) (without j rs) ≡ list_any (has_key k) rs
unfolding without
any_without_above j k rs lt = any_filter_other (has_key k) (λ r. not (has_key j r)) rs (λ r h. ap not (earlier_key j k r lt h))
  where
    equal : (o : Ordering) → is_eq o ≡ true → o ≡ Equal
    equal Less h = cc
    equal Equal h = refl
    equal Greater h = cc

    earlier_key : (j k : Key) (r : Record) → is_lt (key_cmp k j) ≡ true → has_key k r ≡ true → has_key j r ≡ false
    earlier_key j k r lt h = lt_not_eq (key_cmp r.key j)
        (subst (λ l. is_lt (key_cmp l j) ≡ true) (sym (key_equal r.key k (equal (key_cmp r.key k) h))) lt)

pub any_without_below : (k : Key) (xs : List Key) (rs : List Record) → list_all (λ m. is_lt (key_cmp m k)) xs ≡ true
    → list_any (has_key k) (without_all xs rs) ≡ list_any (has_key k) rs
any_without_below k [] rs h = refl
any_without_below k (x ∷ xs) rs h =
    let t = and_parts (is_lt (key_cmp x k)) (list_all (λ m. is_lt (key_cmp m k)) xs) h in
    any_without_below k xs (without x rs) t.1 ∙ any_without_other x k rs t.0

pub each_after : (ys xs : List Key) (rs : List Record) → list_all (λ y. list_all (λ m. is_lt (key_cmp m y)) xs) ys ≡ true
    → has_each ys (without_all xs rs) ≡ has_each ys rs
each_after [] xs rs h = refl
each_after (y ∷ ys) xs rs h =
    let t = and_parts (list_all (λ m. is_lt (key_cmp m y)) xs) (list_all (λ y. list_all (λ m. is_lt (key_cmp m y)) xs) ys) h in
    both (list_any (has_key y) (without_all xs rs)) (list_any (has_key y) rs) (has_each ys (without_all xs rs)) (has_each ys rs)
    (any_without_below y xs rs t.0) (each_after ys xs rs t.1)
  where
    both : (a b c d : Bool) → a ≡ b → c ≡ d → (a && c) ≡ (b && d)
    both a b c d e f = cc

-- the key at a place of a run, and one of zeros behind its end
abbrev pub key_at : List Key → ℕ → Key
key_at run i = get_or run i (record { layer = 0; part = 0; code = 0; depth = 0; item = 0 })
