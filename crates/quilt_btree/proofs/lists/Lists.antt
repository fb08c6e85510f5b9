-- What is looked for, put in or taken out concerns one part of an ascending list alone.
use Rattle.std.proofs.Common.{◌≡◌, Bool, true, false, ◌||◌, not, cond, List, [], ◌∷◌, ◌++◌, filter, Option, Some, None, refl, ◌∙◌, ap}
use Rattle.std.proofs.lemmas.Bool.{and_parts, not-true}
use Rattle.std.specs.Prelude.{if◌then◌else◌, slice_get}
use Rattle.std.specs.List.{list_any, list_all, find, last_or}
use Rattle.std.specs.Ordering.{is_lt, is_le, ordering_reverse}
use Rattle.std.specs.Option.{option_or}
use Rattle.std.proofs.lemmas.List.{append-nil}
use Rattle.std.proofs.lemmas.List.Elements.{filter-append}
use Rattle.std.proofs.lemmas.List.Folds.{find-append}
use Rattle.quilt_record.specs.declared.key.Key.{Key}
use Rattle.quilt_record.specs.declared.record.Record.{Record}
use Rattle.quilt_record.specs.Records.{key_cmp}
use Rattle.quilt_record.specs.Lists.{has_key, put, without}
use Rattle.quilt_btree.specs.Lists.{value_in, value_at_key, is_at_most, floor_of}
use Rattle.quilt_record.proofs.Orders.{key_total, is_Less, lt_not_eq, gt_not_eq, lt_to_le}
use Rattle.quilt_btree.proofs.lists.Rising.{all_follow}

-- all of these have smaller keys, or greater ones
abbrev pub AreBelow : Key → List Record → Type 0
AreBelow k rs = list_all (λ (r : Record). is_lt (key_cmp r.key k)) rs ≡ true

abbrev pub AreAbove : Key → List Record → Type 0
AreAbove k rs = list_all (λ (r : Record). is_lt (key_cmp k r.key)) rs ≡ true

-- a list in three parts, the key among the second
pub record IsAmong (k : Key) (before here behind rs : List Record) : Type 0 where
  pub records : rs ≡ before ++ (here ++ behind)
  pub lower : AreBelow k before
  pub higher : AreAbove k behind

pub true_false : (b : Bool) → b ≡ true → b ≡ false → ⊥
true_false true h g = cc
true_false false h g = cc

-- a list from its first element on
pub begins_with : (rs : List Record) (r : Record) → slice_get rs 0 ≡ Some r → (rest : List Record) × (rs ≡ r ∷ rest)
begins_with [] r h = cc
begins_with (x ∷ xs) r h = (xs, cc)

pub filter_cond : {X : Type 0} (p : X → Bool) (x : X) (xs ys : List X) (b : Bool) → p x ≡ b → cond (p x) (x ∷ xs) ys ≡ cond b (x ∷ xs) ys
filter_cond p x xs ys b e = ap (λ c. cond c (x ∷ xs) ys) e

pub filter_all : {X : Type 0} (p : X → Bool) (xs : List X) → list_all p xs ≡ true → filter p xs ≡ xs
filter_all p [] h = refl
filter_all p (x ∷ xs) h =
    let t = and_parts (p x) (list_all p xs) h in
    filter_cond p x (filter p xs) (filter p xs) true t.0 ∙ ap (λ l. x ∷ l) (filter_all p xs t.1)

pub filter_none : {X : Type 0} (p : X → Bool) (xs : List X) → list_all (λ x. not (p x)) xs ≡ true → filter p xs ≡ []
filter_none p [] h = refl
filter_none p (x ∷ xs) h =
    let t = and_parts (not (p x)) (list_all (λ y. not (p y)) xs) h in
    filter_cond p x (filter p xs) (filter p xs) false (not-true (p x) t.0) ∙ filter_none p xs t.1

pub find_none : {X : Type 0} (p : X → Bool) (xs : List X) → list_all (λ x. not (p x)) xs ≡ true → find p xs ≡ None
find_none p [] h = refl
find_none p (x ∷ xs) h =
    let t = and_parts (not (p x)) (list_all (λ y. not (p y)) xs) h in
    ap (λ c. cond c (Some x) (find p xs)) (not-true (p x) t.0) ∙ find_none p xs t.1

pub any_none : {X : Type 0} (p : X → Bool) (xs : List X) → list_all (λ x. not (p x)) xs ≡ true → list_any p xs ≡ false
any_none p [] h = refl
any_none p (x ∷ xs) h =
    let t = and_parts (not (p x)) (list_all (λ y. not (p y)) xs) h in
    ap (λ c. c || list_any p xs) (not-true (p x) t.0) ∙ any_none p xs t.1

any_append : {X : Type 0} (p : X → Bool) (xs ys : List X) → list_any p (xs ++ ys) ≡ (list_any p xs || list_any p ys)
any_append p [] ys = refl
any_append p (x ∷ xs) ys = ap (λ b. p x || b) (any_append p xs ys) ∙ joined (p x) (list_any p xs) (list_any p ys)
  where
    joined : (a b c : Bool) → (a || (b || c)) ≡ ((a || b) || c)
    joined true b c = refl
    joined false b c = refl

or_false : (b : Bool) → (b || false) ≡ b
or_false true = refl
or_false false = refl

option_or_none : {X : Type 0} (o : Option X) → option_or o None ≡ o
option_or_none None = refl
option_or_none (Some x) = refl

pub last_append : {X : Type 0} (o : Option X) (xs ys : List X) → last_or o (xs ++ ys) ≡ last_or (last_or o xs) ys
last_append o [] ys = refl
last_append o (x ∷ xs) ys = last_append (Some x) xs ys

-- what is below the key does not have it, and is at most it; what is above neither
pub below_other : (k : Key) (rs : List Record) → AreBelow k rs → list_all (λ r. not (has_key k r)) rs ≡ true
below_other k rs h = all_follow (λ (r : Record). is_lt (key_cmp r.key k)) (λ r. not (has_key k r)) (λ r g. ap not (lt_not_eq (key_cmp r.key k) g)) rs h

pub above_other : (k : Key) (rs : List Record) → AreAbove k rs → list_all (λ r. not (has_key k r)) rs ≡ true
above_other k rs h = all_follow (λ (r : Record). is_lt (key_cmp k r.key)) (λ r. not (has_key k r)) (λ r g. ap not (gt_not_eq k r.key g)) rs h

pub below_at_most : (k : Key) (rs : List Record) → AreBelow k rs → list_all (is_at_most k) rs ≡ true
below_at_most k rs h = all_follow (λ (r : Record). is_lt (key_cmp r.key k)) (is_at_most k) (λ r g. lt_to_le (key_cmp r.key k) g) rs h

pub gt_not_le : (a b : Key) → is_lt (key_cmp a b) ≡ true → is_le (key_cmp b a) ≡ false
gt_not_le a b h = ap is_le (key_total.antisymm b a ∙ ap ordering_reverse (is_Less (key_cmp a b) h))

pub above_not_at_most : (k : Key) (rs : List Record) → AreAbove k rs → list_all (λ r. not (is_at_most k r)) rs ≡ true
above_not_at_most k rs h = all_follow (λ (r : Record). is_lt (key_cmp k r.key)) (λ r. not (is_at_most k r)) (λ r g. ap not (gt_not_le k r.key g)) rs h

pub find_between : {X : Type 0} (p : X → Bool) (before here behind : List X) → list_all (λ x. not (p x)) before ≡ true → list_all (λ x. not (p x)) behind ≡ true
    → find p (before ++ (here ++ behind)) ≡ find p here
find_between p before here behind f g =
    find-append p before (here ++ behind) ∙ ap (λ o. option_or o (find p (here ++ behind))) (find_none p before f)
    ∙ find-append p here behind ∙ ap (λ o. option_or (find p here) o) (find_none p behind g) ∙ option_or_none (find p here)

pub value_between : (k : Key) (before here behind rs : List Record) → IsAmong k before here behind rs → value_at_key k rs ≡ value_at_key k here
unfolding value_at_key
value_between k before here behind rs h =
    ap value_in
    (ap (find (has_key k)) h.records ∙ find_between (has_key k) before here behind (below_other k before h.lower) (above_other k behind h.higher))

pub any_between : (k : Key) (before here behind rs : List Record) → IsAmong k before here behind rs → list_any (has_key k) rs ≡ list_any (has_key k) here
any_between k before here behind rs h =
    ap (list_any (has_key k)) h.records ∙ any_append (has_key k) before (here ++ behind)
    ∙ ap (λ b. b || list_any (has_key k) (here ++ behind)) (any_none (has_key k) before (below_other k before h.lower))
    ∙ any_append (has_key k) here behind ∙ ap (λ b. list_any (has_key k) here || b) (any_none (has_key k) behind (above_other k behind h.higher))
    ∙ or_false (list_any (has_key k) here)

at_most_between : (k : Key) (before here behind rs : List Record) → IsAmong k before here behind rs
    → filter (is_at_most k) rs ≡ before ++ filter (is_at_most k) here
at_most_between k before here behind rs h =
    ap (filter (is_at_most k)) h.records ∙ filter-append (is_at_most k) before (here ++ behind)
    ∙ ap (λ l. l ++ filter (is_at_most k) (here ++ behind)) (filter_all (is_at_most k) before (below_at_most k before h.lower))
    ∙ ap (λ l. before ++ l) (filter-append (is_at_most k) here behind
    ∙ ap (λ l. filter (is_at_most k) here ++ l) (filter_none (is_at_most k) behind (above_not_at_most k behind h.higher))
    ∙ append-nil (filter (is_at_most k) here))

-- the floor is here, or else the last record before
pub floor_between : (k : Key) (before here behind rs : List Record) → IsAmong k before here behind rs
    → floor_of k rs ≡ option_or (floor_of k here) (last_or None before)
unfolding floor_of
floor_between k before here behind rs h =
    ap (last_or None) (at_most_between k before here behind rs h) ∙ last_append None before (filter (is_at_most k) here)
    ∙ last_or_is (last_or None before) (filter (is_at_most k) here)
  where
    some_last : {X : Type 0} (o : Option X) (x : X) (xs : List X) → last_or (Some x) xs ≡ option_or (last_or (Some x) xs) o
    some_last o x [] = refl
    some_last o x (y ∷ xs) = some_last o y xs

    last_or_is : {X : Type 0} (o : Option X) (xs : List X) → last_or o xs ≡ option_or (last_or None xs) o
    last_or_is None [] = refl
    last_or_is (Some x) [] = refl
    last_or_is o (x ∷ xs) = some_last o x xs

-- a record goes to its place behind those with smaller keys
put_cond : (r s : Record) (rs more : List Record) (b : Bool) → is_lt (key_cmp r.key s.key) ≡ b
    → (if is_lt (key_cmp r.key s.key) then r ∷ s ∷ rs else s ∷ more) ≡ (if b then r ∷ s ∷ rs else s ∷ more)
put_cond r s rs more b e = ap (λ c. if c then r ∷ s ∷ rs else s ∷ more) e

pub later_not : (a b : Key) → is_lt (key_cmp a b) ≡ true → is_lt (key_cmp b a) ≡ false
later_not a b h = ap is_lt (key_total.antisymm b a ∙ ap ordering_reverse (is_Less (key_cmp a b) h))

pub put_behind : (r : Record) (first rest : List Record) → AreBelow r.key first → put r (first ++ rest) ≡ first ++ put r rest
put_behind r [] rest h = refl
put_behind r (s ∷ first) rest h =
    let t = and_parts (is_lt (key_cmp s.key r.key)) (list_all (λ (u : Record). is_lt (key_cmp u.key r.key)) first) h in
    put_cond r s (first ++ rest) (put r (first ++ rest)) false (later_not s.key r.key t.0) ∙ ap (λ l. s ∷ l) (put_behind r first rest t.1)

pub put_last : (r : Record) (last : List Record) → AreAbove r.key last → put r last ≡ r ∷ last
put_last r [] h = refl
put_last r (s ∷ last) h =
    put_cond r s last (put r last) true (and_parts (is_lt (key_cmp r.key s.key)) (list_all (λ (u : Record). is_lt (key_cmp r.key u.key)) last) h).0

pub put_before : (r : Record) (here last : List Record) → AreAbove r.key last → put r (here ++ last) ≡ put r here ++ last
put_before r [] last h = put_last r last h
put_before r (s ∷ here) last h = put_here r s here last (is_lt (key_cmp r.key s.key)) (put_before r here last h)
  where
    put_here : (r s : Record) (here last : List Record) (b : Bool) → put r (here ++ last) ≡ put r here ++ last
        → (if b then r ∷ s ∷ here ++ last else s ∷ put r (here ++ last)) ≡ (if b then r ∷ s ∷ here else s ∷ put r here) ++ last
    put_here r s here last true h = refl
    put_here r s here last false h = ap (λ l. s ∷ l) h

pub put_between : (r : Record) (before here behind rs : List Record) → IsAmong r.key before here behind rs → put r rs ≡ before ++ (put r here ++ behind)
put_between r before here behind rs h =
    ap (put r) h.records ∙ put_behind r before (here ++ behind) h.lower ∙ ap (λ l. before ++ l) (put_before r here behind h.higher)

pub without_between : (k : Key) (before here behind rs : List Record) → IsAmong k before here behind rs → without k rs ≡ before ++ (without k here ++ behind)
unfolding without
without_between k before here behind rs h =
    ap (filter (λ r. not (has_key k r))) h.records ∙ filter-append (λ r. not (has_key k r)) before (here ++ behind)
    ∙ ap (λ l. l ++ filter (λ r. not (has_key k r)) (here ++ behind)) (filter_all (λ r. not (has_key k r)) before (below_other k before h.lower))
    ∙ ap (λ l. before ++ l) (filter-append (λ r. not (has_key k r)) here behind
    ∙ ap (λ l. filter (λ r. not (has_key k r)) here ++ l) (filter_all (λ r. not (has_key k r)) behind (above_other k behind h.higher)))
