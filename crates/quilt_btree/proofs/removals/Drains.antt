-- A subtree that gives records of a run of keys out of one leaf.
use Rattle.std.proofs.Common.{◌≡◌, ℕ, suc, ◌-◌, ◌≤◌, Bool, true, false, not, cond, ◌||◌, nat_le, List, [], ◌∷◌, ◌++◌, length, take, drop}
use Rattle.std.proofs.lemmas.Bool.{and_from, and_parts}
use Rattle.std.proofs.Common.{filter, Option, refl, sym, ◌∙◌, ap, subst, arith}
use Rattle.std.proofs.Common.{take-append-drop}
use Rattle.std.specs.Prelude.{slice_get, if◌then◌else◌}
use Rattle.std.specs.List.{list_all}
use Rattle.std.specs.Option.{option_or}
use Rattle.std.specs.Ordering.{is_lt, is_le}
use Rattle.std.proofs.lemmas.Bool.Decides.{nat_tests}
use Rattle.quilt_node.proofs.Ascending.{ascending_cons}
use Rattle.quilt_record.specs.declared.key.Key.{Key}
use Rattle.quilt_record.specs.declared.record.Record.{Record}
use Rattle.quilt_record.specs.Records.{key_cmp}
use Rattle.quilt_node.specs.Pages.{Inner, is_ascending}
use Rattle.quilt_node.specs.Nodes.{keys_of}
use Rattle.quilt_node.specs.Tree.{Bounds, is_below, are_within}
use Rattle.quilt_record.specs.Lists.{has_key, without}
use Rattle.quilt_btree.specs.Subtree.{Subtree}
use Rattle.quilt_btree.specs.Edits.{CanEdit}
use Rattle.quilt_btree.specs.Trees.{is_past}
use Rattle.quilt_btree.proofs.growth.Below.{LeadsToChild, IsBelow, go_below, child_edit}
use Rattle.quilt_btree.proofs.subtrees.Descending.{head_high}
use Rattle.quilt_btree.proofs.subtrees.Descents.{child_bounds, keys_behind, tail_past, tail_many}
use Rattle.quilt_btree.proofs.growth.Fills.{nearer}
use Rattle.quilt_btree.proofs.ways.Leaves.{same_le}
use Rattle.quilt_btree.proofs.lists.Lists.{IsAmong, filter_cond}
use Rattle.quilt_record.proofs.Orders.{lt_le, lt_to_le}
use Rattle.quilt_btree.proofs.rows.Places.{from_keys, Rises, high_from}
use Rattle.quilt_btree.proofs.lists.Rising.{all_follow}
use Rattle.quilt_btree.proofs.removals.Takings.{key_at}
use Rattle.quilt_btree.proofs.subtrees.Trees.{subtree_rises, ascending_first, ascending_rest}
use Rattle.quilt_btree.proofs.cursors.Fingers.{under_past}

-- what stays of a leaf is within its bounds
kept_step : (p : Key → Bool) (q : Record → Bool) (r : Record) (rs : List Record) (b : Bool) → q r ≡ b → p r.key ≡ true
    → list_all p (keys_of (filter q rs)) ≡ true → list_all p (keys_of (cond (q r) (r ∷ filter q rs) (filter q rs))) ≡ true
kept_step p q r rs true e h g =
    ap (λ l. list_all p (keys_of l)) (filter_cond q r (filter q rs) (filter q rs) true e) ∙ and_from (p r.key) (list_all p (keys_of (filter q rs))) h
    g
kept_step p q r rs false e h g = ap (λ l. list_all p (keys_of l)) (filter_cond q r (filter q rs) (filter q rs) false e) ∙ g

kept_filter : (p : Key → Bool) (q : Record → Bool) (rs : List Record) → list_all p (keys_of rs) ≡ true → list_all p (keys_of (filter q rs)) ≡ true
kept_filter p q [] h = refl
kept_filter p q (r ∷ rs) h = let t = and_parts (p r.key) (list_all p (keys_of rs)) h in kept_step p q r rs (q r) refl t.0 (kept_filter p q rs t.1)

pub kept_without : (p : Key → Bool) (k : Key) (rs : List Record) → list_all p (keys_of rs) ≡ true → list_all p (keys_of (without k rs)) ≡ true
unfolding without
kept_without p k rs h = kept_filter p (λ r. not (has_key k r)) rs h

pub still_enough : (is_root : Bool) (n : ℕ) → (if is_root then 1 else 72) ≤ n → (is_root || nat_le 72 n) ≡ true
still_enough true n h = refl
still_enough false n h = grind (arith, nat_tests)

-- each of the keys lies between these
pub record AreAmong (first last : List Record) (xs : List Key) : Type 0 where
  pub lower : list_all (λ x. list_all (λ r. is_lt (key_cmp r.key x)) first) xs ≡ true
  pub higher : list_all (λ x. list_all (λ r. is_lt (key_cmp x r.key)) last) xs ≡ true

pub head_among : (first here last rs : List Record) (x : Key) (xs : List Key) → rs ≡ first ++ (here ++ last) → AreAmong first last (x ∷ xs)
    → IsAmong x first here last rs
head_among first here last rs x xs e a = record {
  records = e;
  lower =
      (and_parts (list_all (λ (r : Record). is_lt (key_cmp r.key x)) first)
      (list_all (λ (x : Key). list_all (λ (r : Record). is_lt (key_cmp r.key x)) first) xs) a.lower).0;
  higher =
      (and_parts (list_all (λ (r : Record). is_lt (key_cmp x r.key)) last)
      (list_all (λ (x : Key). list_all (λ (r : Record). is_lt (key_cmp x r.key)) last) xs) a.higher).0;
}

pub rest_among : (first last : List Record) (x : Key) (xs : List Key) → AreAmong first last (x ∷ xs) → AreAmong first last xs
rest_among first last x xs a = record {
  lower =
      (and_parts (list_all (λ (r : Record). is_lt (key_cmp r.key x)) first)
      (list_all (λ (x : Key). list_all (λ (r : Record). is_lt (key_cmp r.key x)) first) xs) a.lower).1;
  higher =
      (and_parts (list_all (λ (r : Record). is_lt (key_cmp x r.key)) last)
      (list_all (λ (x : Key). list_all (λ (r : Record). is_lt (key_cmp x r.key)) last) xs) a.higher).1;
}

pub all_lower : (k : Key) (first : List Record) (xs : List Key) → list_all (λ r. is_lt (key_cmp r.key k)) first ≡ true
    → list_all (λ x. is_le (key_cmp k x)) xs ≡ true → list_all (λ x. list_all (λ r. is_lt (key_cmp r.key x)) first) xs ≡ true
all_lower k first xs l h =
    all_follow (λ x. is_le (key_cmp k x)) (λ x. list_all (λ (r : Record). is_lt (key_cmp r.key x)) first)
    (λ x g. all_follow (λ (r : Record). is_lt (key_cmp r.key k)) (λ r. is_lt (key_cmp r.key x)) (λ r e. lt_le r.key k x e g) first l) xs h

pub all_higher : (o : Option Key) (last : List Record) (xs : List Key) → list_all (λ r. is_past o r.key) last ≡ true → list_all (is_below o) xs ≡ true
    → list_all (λ x. list_all (λ r. is_lt (key_cmp x r.key)) last) xs ≡ true
all_higher o last xs l h =
    all_follow (is_below o) (λ x. list_all (λ (r : Record). is_lt (key_cmp x r.key)) last)
    (λ x g. all_follow (λ (r : Record). is_past o r.key) (λ r. is_lt (key_cmp x r.key)) (λ r e. under_past o x r.key g e) last l) xs h

-- what stands around the child to which a run leads
pub record AtRun (told then_told : Option (List (List ℕ))) (free then_free : ℕ → Bool) (page height child i : ℕ) (k : Key) (inner : Inner)
    (next : Option Key) (is_root : Bool) (b : Bounds) (rs : List Record) (used : List ℕ) : Type 0 where
  pub x : IsBelow told free page height is_root b k rs used inner i
  pub top : (child_bounds inner b i).high ≡ next
  pub can : CanEdit then_told then_free child (height - 1) false (child_bounds inner b i) x.at.here x.at.here_used
  pub past : list_all (λ r. is_past next r.key) x.at.last ≡ true
  pub nearer_high : (m : Key) → is_below next m ≡ true → is_below b.high m ≡ true

pub at_run : {told then_told : Option (List (List ℕ))} {free then_free : ℕ → Bool} {size then_size page height child i : ℕ} {k : Key} {inner : Inner}
    (high next : Option Key) {is_root : Bool} {b : Bounds} {rs : List Record} {used : List ℕ}
    → LeadsToChild told then_told free then_free size then_size page height child i k inner → next ≡ option_or (slice_get inner.keys i) high
    → b.high ≡ high → CanEdit told free page height is_root b rs used
    → AtRun told then_told free then_free page height child i k inner next is_root b rs used
at_run {i = i} {inner = inner} high next {b = b} l is_next top can =
    let x = go_below l can in
    let ka = take i inner.keys in
    let kb = drop i inner.keys in
    let cb = child_bounds inner b i in
    let S = Subtree x.pages (suc x.below) false in
    let rises : Rises S = λ c ss u t. subtree_rises x.pages (suc x.below) false c ss u t in
    let order = keys_behind ka kb b (subst (λ l. is_ascending l ≡ true) (sym (take-append-drop i inner.keys)) x.list.ascends)
    (subst (λ l. are_within b l ≡ true) (sym (take-append-drop i inner.keys)) x.within) in
    let past : list_all (λ (r : Record). is_past cb.high r.key) x.at.last ≡ true = tail_past rises (drop (suc i) inner.children) kb
    (from_keys ka b) x.at.last x.at.last_used
    (record { many = tail_many inner.children inner.keys i x.list.keys; ascends = order.ascend; within = order.within }) x.at.row_behind in
    let child_top : cb.high ≡ next =
    head_high inner.keys i (from_keys ka b) ∙ ap (λ o. option_or (slice_get inner.keys i) o) (high_from ka b ∙ top) ∙ sym is_next in
    record {
      x = x;
      top = child_top;
      can = child_edit l x;
      past = subst (λ o. list_all (λ (r : Record). is_past o r.key) x.at.last ≡ true) child_top past;
      nearer_high = λ m h. subst (λ o. is_below o m ≡ true) (high_from ka b)
          (nearer kb (from_keys ka b) order.within m (subst (λ o. is_below o m ≡ true) (sym child_top) h));
    }

-- keys that lie among what stands around a child, and below a bound
pub record LieBetween (first last : List Record) (high : Option Key) (xs : List Key) : Type 0 where
  pub among : AreAmong first last xs
  pub under : list_all (is_below high) xs ≡ true

-- those from the key on that leads to the child, and below the child's bound
pub lie_between : {told then_told : Option (List (List ℕ))} {free then_free : ℕ → Bool} {page height child i : ℕ} {k : Key} {inner : Inner}
    {next : Option Key} {is_root : Bool} {b : Bounds} {rs : List Record} {used : List ℕ}
    (a : AtRun told then_told free then_free page height child i k inner next is_root b rs used) (xs : List Key)
    → list_all (λ x. is_le (key_cmp k x)) xs ≡ true → list_all (is_below (child_bounds inner b i).high) xs ≡ true
    → LieBetween a.x.at.first a.x.at.last b.high xs
lie_between {k = k} {next = next} {b = b} a xs from under =
    let below : list_all (is_below next) xs ≡ true = subst (λ o. list_all (is_below o) xs ≡ true) a.top under in
    record {
      among = record {
        lower = all_lower k a.x.at.first xs a.x.among.lower from;
        higher = all_higher next a.x.at.last xs a.past below;
      };
      under = all_follow (is_below next) (is_below b.high) a.nearer_high xs below;
    }

pub first_least : (run : List Key) → is_ascending run ≡ true → 1 ≤ length run → list_all (λ x. is_le (key_cmp (key_at run 0) x)) run ≡ true
first_least [] a some = absurd (omega arith)
first_least (k ∷ run) a some =
    and_from (is_le (key_cmp k k)) (list_all (λ x. is_le (key_cmp k x)) run) (same_le k)
    (all_follow (λ m. is_lt (key_cmp k m)) (λ m. is_le (key_cmp k m)) (λ m h. lt_to_le (key_cmp k m) h) run (ascending_first k run a))

-- how many records are left
asc_step : (q : Record → Bool) (r : Record) (rs : List Record) (b : Bool) → q r ≡ b → is_ascending (keys_of (filter q rs)) ≡ true
    → list_all (λ m. is_lt (key_cmp r.key m)) (keys_of (filter q rs)) ≡ true
    → is_ascending (keys_of (cond (q r) (r ∷ filter q rs) (filter q rs))) ≡ true
asc_step q r rs true e a over =
    ap (λ l. is_ascending (keys_of l)) (filter_cond q r (filter q rs) (filter q rs) true e) ∙ ascending_cons r.key (keys_of (filter q rs)) over a
asc_step q r rs false e a over = ap (λ l. is_ascending (keys_of l)) (filter_cond q r (filter q rs) (filter q rs) false e) ∙ a

asc_filter : (q : Record → Bool) (rs : List Record) → is_ascending (keys_of rs) ≡ true → is_ascending (keys_of (filter q rs)) ≡ true
asc_filter q [] a = refl
asc_filter q (r ∷ rs) a = asc_step q r rs (q r) refl (asc_filter q rs (ascending_rest r.key (keys_of rs) a))
    (kept_filter (λ m. is_lt (key_cmp r.key m)) q rs (ascending_first r.key (keys_of rs) a))

pub asc_without : (k : Key) (rs : List Record) → is_ascending (keys_of rs) ≡ true → is_ascending (keys_of (without k rs)) ≡ true
unfolding without
asc_without k rs a = asc_filter (λ r. not (has_key k r)) rs a
