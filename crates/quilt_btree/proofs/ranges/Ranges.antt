-- The records of a range, leaf by leaf.
use Rattle.std.proofs.Common.{◌≡◌, ℕ, zero, suc, ◌+◌, ◌<◌, ◌≤◌, Bool, true, false, ◌&&◌, not, cond, List, [], ◌∷◌, ◌++◌, length, take, drop, filter, Option}
use Rattle.std.proofs.lemmas.Bool.{and_from, and_parts}
use Rattle.std.proofs.Common.{Some, None, refl, sym, ◌∙◌, ap, subst, append_assoc, arith, length-append, length-take, add-one, take_all, take-append-drop, min}
use Rattle.std.specs.Prelude.{slice_get}
use Rattle.std.specs.List.{list_all}
use Rattle.std.specs.Ordering.{is_lt, is_le}
use Rattle.std.proofs.lemmas.List.{append-nil, take-append-le}
use Rattle.std.proofs.lemmas.List.Elements.{filter-append}
use Rattle.quilt_record.specs.declared.key.Key.{Key}
use Rattle.quilt_record.specs.declared.record.Record.{Record}
use Rattle.quilt_record.specs.Records.{key_cmp}
use Rattle.quilt_btree.specs.Lists.{is_from_to, range_of}
use Rattle.quilt_node.specs.Tree.{is_below}
use Rattle.quilt_btree.specs.Trees.{LeadsToLeaf, IsAsFar, is_past}
use Rattle.quilt_record.proofs.Orders.{lt_le, le_le, lt_to_le, not_le}
use Rattle.quilt_btree.proofs.lists.Rising.{all_follow, all_append}
use Rattle.quilt_btree.proofs.lists.Lists.{AreBelow, filter_none, filter_cond, gt_not_le, true_false}

pub take_next : {X : Type 0} (xs : List X) (i : ℕ) (x : X) → slice_get xs i ≡ Some x → take (i + 1) xs ≡ take i xs ++ x ∷ []
take_next xs i x h = ap (λ n. take n xs) (add-one i) ∙ next xs i x h
  where
    next : {X : Type 0} (xs : List X) (i : ℕ) (x : X) → slice_get xs i ≡ Some x → take (suc i) xs ≡ take i xs ++ x ∷ []
    next [] i x h = cc
    next (y ∷ xs) zero x h = let same : y ≡ x = cc in ap (λ z. z ∷ []) same
    next (y ∷ xs) (suc i) x h = ap (λ l. y ∷ l) (next xs i x h)

underfull_take : {X : Type 0} (n : ℕ) (xs : List X) → length (take n xs) < n → length xs < n
underfull_take n xs h = shorter n (length xs) (subst (λ m. m < n) (length-take n xs) h)
  where
    shorter : (n m : ℕ) → min n m < n → m < n
    shorter n m h = omega arith

-- one more, where there is room
pub take_push : {X : Type 0} (n : ℕ) (xs : List X) (x : X) → length (take n xs) < n → take n (xs ++ x ∷ []) ≡ take n xs ++ x ∷ []
take_push n xs x h =
    let underfull = underfull_take n xs h in
    let long : length (xs ++ x ∷ []) ≤ n = let e = length-append xs (x ∷ []) in omega arith in
    take_all n (xs ++ x ∷ []) long ∙ ap (λ l. l ++ x ∷ []) (sym (take_all n xs (omega arith)))

-- and none more, where there is none
pub take_full : {X : Type 0} (n : ℕ) (xs ys : List X) → length (take n xs) ≡ n → take n (xs ++ ys) ≡ take n xs
take_full n xs ys h = take-append-le n xs ys (longer n (length xs) (sym (length-take n xs) ∙ h))
  where
    longer : (n m : ℕ) → min n m ≡ n → n ≤ m
    longer n m h = omega arith

pub take_again : {X : Type 0} (n : ℕ) (xs ys : List X) → take n (take n xs ++ ys) ≡ take n (xs ++ ys)
take_again zero xs ys = refl
take_again (suc n) [] ys = refl
take_again (suc n) (x ∷ xs) ys = ap (λ l. x ∷ l) (take_again n xs ys)

module _ (p : Record → Bool) (n i : ℕ) (old items leaf : List Record) (r : Record) where
  pub add_record : slice_get leaf i ≡ Some r → items ≡ take n (old ++ filter p (take i leaf)) → length items < n → p r ≡ true
      → items ++ r ∷ [] ≡ take n (old ++ filter p (take (i + 1) leaf))
  add_record at is room passes =
      let more : filter p (take (i + 1) leaf) ≡ filter p (take i leaf) ++ r ∷ [] =
      ap (filter p) (take_next leaf i r at) ∙ filter-append p (take i leaf) (r ∷ [])
      ∙ ap (λ l. filter p (take i leaf) ++ l) (filter_cond p r [] [] true passes) in
      ap (λ l. l ++ r ∷ []) is ∙ sym (take_push n (old ++ filter p (take i leaf)) r (subst (λ l. length l < n) is room))
      ∙ ap (take n) (append_assoc old (filter p (take i leaf)) (r ∷ []) ∙ ap (λ l. old ++ l) (sym more))

  pub skip_record : slice_get leaf i ≡ Some r → items ≡ take n (old ++ filter p (take i leaf)) → p r ≡ false
      → items ≡ take n (old ++ filter p (take (i + 1) leaf))
  skip_record at is fails =
      is ∙ ap (λ l. take n (old ++ l)) (sym (ap (filter p) (take_next leaf i r at) ∙ filter-append p (take i leaf) (r ∷ [])
      ∙ ap (λ l. filter p (take i leaf) ++ l) (filter_cond p r [] [] false fails) ∙ append-nil (filter p (take i leaf))))

pub full_list : (p : Record → Bool) (n i : ℕ) (old items leaf : List Record) → items ≡ take n (old ++ filter p (take i leaf)) → length items ≡ n
    → items ≡ take n (old ++ filter p leaf)
full_list p n i old items leaf is full =
    let whole : filter p leaf ≡ filter p (take i leaf) ++ filter p (drop i leaf) =
    ap (filter p) (sym (take-append-drop i leaf)) ∙ filter-append p (take i leaf) (drop i leaf) in
    is ∙ sym (ap (take n) (ap (λ l. old ++ l) whole ∙ sym (append_assoc old (filter p (take i leaf)) (filter p (drop i leaf))))
    ∙ take_full n (old ++ filter p (take i leaf)) (filter p (drop i leaf)) (subst (λ l. length l ≡ n) is full))

-- a key stands between the records of two lists
abbrev pub StandsBetween : Key → List Record → List Record → Type 0
StandsBetween k before behind = AreBelow k before × (list_all (λ (r : Record). is_le (key_cmp k r.key)) behind ≡ true)

pub no_both : (a b : Key) → is_lt (key_cmp a b) ≡ true → is_le (key_cmp b a) ≡ true → ⊥
no_both a b h g = true_false (is_le (key_cmp b a)) g (gt_not_le a b h)

-- a key parts a list at one place
pub parts_same : (k : Key) (xs ys us vs : List Record) → xs ++ ys ≡ us ++ vs → StandsBetween k xs ys → StandsBetween k us vs → (xs ≡ us) × (ys ≡ vs)
parts_same k [] ys [] vs e p q = (refl, e)
parts_same k [] [] (u ∷ us) vs e p q = cc
parts_same k [] (y ∷ ys) (u ∷ us) vs e p q =
    let same : y ≡ u = cc in
    absurd (no_both u.key k (and_parts (is_lt (key_cmp u.key k)) (list_all (λ (r : Record). is_lt (key_cmp r.key k)) us) q.0).0
    (subst (λ (r : Record). is_le (key_cmp k r.key) ≡ true) same (and_parts (is_le (key_cmp k y.key)) (list_all (λ (r : Record). is_le (key_cmp k r.key)) ys) p.1).0))
parts_same k (x ∷ xs) ys [] [] e p q = cc
parts_same k (x ∷ xs) ys [] (v ∷ vs) e p q =
    let same : v ≡ x = cc in
    absurd (no_both x.key k (and_parts (is_lt (key_cmp x.key k)) (list_all (λ (r : Record). is_lt (key_cmp r.key k)) xs) p.0).0
    (subst (λ (r : Record). is_le (key_cmp k r.key) ≡ true) same (and_parts (is_le (key_cmp k v.key)) (list_all (λ (r : Record). is_le (key_cmp k r.key)) vs) q.1).0))
parts_same k (x ∷ xs) ys (u ∷ us) vs e p q =
    let same : x ≡ u = cc in
    let tails : xs ++ ys ≡ us ++ vs = cc in
    let h = parts_same k xs ys us vs tails
    ((and_parts (is_lt (key_cmp x.key k)) (list_all (λ (r : Record). is_lt (key_cmp r.key k)) xs) p.0).1, p.1)
    ((and_parts (is_lt (key_cmp u.key k)) (list_all (λ (r : Record). is_lt (key_cmp r.key k)) us) q.0).1, q.1) in
    (cc, h.1)

filter_same : (p q t : Record → Bool) → ((r : Record) → t r ≡ true → p r ≡ q r) → (rs : List Record) → list_all t rs ≡ true
    → filter p rs ≡ filter q rs
filter_same p q t f [] h = refl
filter_same p q t f (r ∷ rs) h =
    let u = and_parts (t r) (list_all t rs) h in
    ap (λ b. cond b (r ∷ filter p rs) (filter p rs)) (f r u.0) ∙ ap (λ l. cond (q r) (r ∷ l) l) (filter_same p q t f rs u.1)

-- from a later key on, the same records are in the range
from_later : (low from high : Key) (rs : List Record) → is_le (key_cmp low from) ≡ true
    → list_all (λ (r : Record). is_le (key_cmp from r.key)) rs ≡ true → filter (is_from_to from high) rs ≡ filter (is_from_to low high) rs
from_later low from high rs le h =
    filter_same (is_from_to from high) (is_from_to low high) (λ r. is_le (key_cmp from r.key))
    (λ r g. ap (λ b. b && is_le (key_cmp r.key high)) (g ∙ sym (le_le low from r.key le g))) rs h

-- what a search came to, all of it from the key on
pub all_from : (k : Key) (rs leaf : List Record) (start high : Option Key) (l : LeadsToLeaf k rs leaf start high)
    → list_all (λ (r : Record). is_le (key_cmp k r.key)) leaf ≡ true
    → list_all (λ (r : Record). is_le (key_cmp k r.key)) (leaf ++ l.behind) ≡ true
all_from k rs leaf start high l h =
    all_append (λ (r : Record). is_le (key_cmp k r.key)) leaf l.behind h
    (all_follow (λ (r : Record). is_lt (key_cmp k r.key)) (λ r. is_le (key_cmp k r.key)) (λ r g. lt_to_le (key_cmp k r.key) g) l.behind l.higher)

module _ (low high : Key) where
  pub none_below : (rs : List Record) → AreBelow low rs → filter (is_from_to low high) rs ≡ []
  none_below rs h =
      filter_none (is_from_to low high) rs
      (all_follow (λ (r : Record). is_lt (key_cmp r.key low)) (λ r. not (is_from_to low high r))
      (λ r g. ap (λ b. not (b && is_le (key_cmp r.key high))) (gt_not_le r.key low g)) rs h)

  pub range_first : (most : ℕ) (rs leaf new : List Record) (start up : Option Key) (l : LeadsToLeaf low rs leaf start up)
      → new ≡ take most ([] ++ filter (is_from_to low high) leaf) → new ≡ range_of low high most (l.before ++ leaf)
  unfolding range_of
  range_first most rs leaf new start up l is =
      is ∙ ap (take most) (sym
      (filter-append (is_from_to low high) l.before leaf ∙ ap (λ x. x ++ filter (is_from_to low high) leaf) (none_below l.before l.lower)))

module _ (low from high : Key) (most : ℕ) (rs leaf new : List Record) (start : Option Key) where
  pub range_more : (old : List Record) (up : Option Key) (l : LeadsToLeaf from rs leaf start up)
      → list_all (λ (r : Record). is_le (key_cmp from r.key)) leaf ≡ true → is_le (key_cmp low from) ≡ true → IsAsFar low high most from rs old
      → new ≡ take most (old ++ filter (is_from_to from high) leaf) → new ≡ range_of low high most (l.before ++ leaf)
  unfolding range_of
  range_more old up l starts le far is =
      let same = (parts_same from far.done far.rest l.before (leaf ++ l.behind) (sym far.records ∙ l.records) (far.lower, far.from_here)
      (l.lower, all_from from rs leaf start up l starts)).0 in
      let P = is_from_to low high in
      is ∙ ap (λ x. take most (x ++ filter (is_from_to from high) leaf)) (far.items_are ∙ ap (λ d. take most (filter P d)) same)
      ∙ take_again most (filter P l.before) (filter (is_from_to from high) leaf)
      ∙ ap (λ x. take most (filter P l.before ++ x)) (from_later low from high leaf le starts)
      ∙ ap (take most) (sym (filter-append P l.before leaf))

  -- the range goes on from the next key
  pub range_next : (next : Key) (l : LeadsToLeaf from rs leaf start (Some next)) → is_below start from ≡ true
      → new ≡ range_of low high most (l.before ++ leaf) → IsAsFar low high most next rs new
  range_next next l under is = record {
    done = l.before ++ leaf;
    rest = l.behind;
    records = l.records ∙ sym (append_assoc l.before leaf l.behind);
    lower = all_append (λ (r : Record). is_lt (key_cmp r.key next)) l.before leaf
        (all_follow (λ (r : Record). is_lt (key_cmp r.key from)) (λ r. is_lt (key_cmp r.key next))
        (λ r h. lt_le r.key from next h (lt_to_le (key_cmp from next) (l.key_under under))) l.before l.lower) l.here_under;
    from_here = l.bounded;
    items_are = is;
  }

module _ (low high : Key) (most : ℕ) (rs front behind new : List Record) (e : rs ≡ front ++ behind) where
  whole_range : filter (is_from_to low high) behind ≡ [] → new ≡ range_of low high most front → new ≡ range_of low high most rs
  unfolding range_of
  whole_range none is =
      is ∙ ap (take most) (sym (ap (filter (is_from_to low high)) e ∙ filter-append (is_from_to low high) front behind
      ∙ ap (λ x. filter (is_from_to low high) front ++ x) none ∙ append-nil (filter (is_from_to low high) front)))

  full_range : length new ≡ most → new ≡ range_of low high most front → new ≡ range_of low high most rs
  unfolding range_of
  full_range full is =
      is ∙ sym (ap (take most) (ap (filter (is_from_to low high)) e ∙ filter-append (is_from_to low high) front behind)
      ∙ take_full most (filter (is_from_to low high) front) (filter (is_from_to low high) behind) (subst (λ l. length l ≡ most) is full))

past_none : (low high : Key) (up : Option Key) (rs : List Record) → ((next : Key) → up ≡ Some next → is_le (key_cmp next high) ≡ false)
    → list_all (λ (r : Record). is_past up r.key) rs ≡ true → filter (is_from_to low high) rs ≡ []
past_none low high None rs f h =
    filter_none (is_from_to low high) rs (all_follow (λ (r : Record). false) (λ r. not (is_from_to low high r)) (λ r g. cc) rs h)
past_none low high (Some next) rs f h =
    filter_none (is_from_to low high) rs
    (all_follow (λ (r : Record). is_le (key_cmp next r.key)) (λ r. not (is_from_to low high r))
    (λ r g. ap (λ b. not (is_le (key_cmp low r.key) && b)) (gt_not_le high r.key (lt_le high next r.key (not_le next high (f next refl)) g))
    ∙ ap not (and_false (is_le (key_cmp low r.key)))) rs h)
  where
    and_false : (b : Bool) → (b && false) ≡ false
    and_false true = refl
    and_false false = refl

module _ (low from high : Key) (most : ℕ) (rs leaf new : List Record) (start up : Option Key) (l : LeadsToLeaf from rs leaf start up) where
  -- the range ends here
  pub range_ends : ((next : Key) → up ≡ Some next → is_le (key_cmp next high) ≡ false) → new ≡ range_of low high most (l.before ++ leaf)
      → new ≡ range_of low high most rs
  range_ends over is =
      whole_range low high most rs (l.before ++ leaf) l.behind new (l.records ∙ sym (append_assoc l.before leaf l.behind))
      (past_none low high up l.behind over l.bounded) is

  pub range_fills : length new ≡ most → new ≡ range_of low high most (l.before ++ leaf) → new ≡ range_of low high most rs
  range_fills full is =
      full_range low high most rs (l.before ++ leaf) l.behind new (l.records ∙ sym (append_assoc l.before leaf l.behind)) full is

pub below_most : (n : ℕ) (xs items : List Record) → items ≡ take n xs → (length items ≡ n → ⊥) → length items < n
below_most n xs items e ne =
    let m : length items ≡ min n (length xs) = ap length e ∙ length-take n xs in
    omega arith

-- a leaf of some records lies from one key on and below another, which is at most a third
pub record LiesBetween (from next high : Key) (leaf : List Record) : Type 0 where
  pub some : 1 ≤ length leaf
  pub starts : list_all (λ (r : Record). is_le (key_cmp from r.key)) leaf ≡ true
  pub ends : list_all (λ (r : Record). is_lt (key_cmp r.key next)) leaf ≡ true
  pub in_range : is_le (key_cmp next high) ≡ true

-- so it adds to the list where there is room
pub adds_some : {from high next : Key} (n : ℕ) {new : List Record} (old leaf : List Record) → LiesBetween from next high leaf
    → new ≡ take n (old ++ filter (is_from_to from high) leaf) → length old ≤ n → (length new ≡ n → ⊥) → length new ≡ length old → ⊥
adds_some n old [] l e room ne same = let some = l.some in omega arith
adds_some {from} {high} {next} n {new} old (r ∷ leaf) l e room ne same =
    let a = (and_parts (is_le (key_cmp from r.key)) (list_all (λ (s : Record). is_le (key_cmp from s.key)) leaf) l.starts).0 in
    let b = (and_parts (is_lt (key_cmp r.key next)) (list_all (λ (s : Record). is_lt (key_cmp s.key next)) leaf) l.ends).0 in
    let passes : is_from_to from high r ≡ true =
    and_from (is_le (key_cmp from r.key)) (is_le (key_cmp r.key high)) a (lt_to_le (key_cmp r.key high) (lt_le r.key next high b l.in_range)) in
    let more : filter (is_from_to from high) (r ∷ leaf) ≡ r ∷ filter (is_from_to from high) leaf =
    filter_cond (is_from_to from high) r (filter (is_from_to from high) leaf) (filter (is_from_to from high) leaf) true passes in
    let m : length new ≡ min n (length (old ++ r ∷ filter (is_from_to from high) leaf)) =
    ap length (e ∙ ap (λ l. take n (old ++ l)) more) ∙ length-take n (old ++ r ∷ filter (is_from_to from high) leaf) in
    let k = length-append old (r ∷ filter (is_from_to from high) leaf) in
    omega arith
