-- A child's place among the others of its page.
use Rattle.std.proofs.Common.{◌≡◌, ℕ, suc, ◌+◌, Bool, true, false, not, ◌&&◌, List, [], ◌∷◌, ◌++◌, length, map, Some, refl, sym, ◌∙◌, ap, subst, arith}
use Rattle.std.proofs.lemmas.Bool.{and_parts, not-true}
use Rattle.std.specs.List.{list_all}
use Rattle.std.specs.Ordering.{is_lt, is_le}
use Rattle.std.proofs.lemmas.List.{append-nil}
use Rattle.quilt_record.specs.declared.key.Key.{Key}
use Rattle.quilt_record.specs.declared.record.Record.{Record}
use Rattle.quilt_record.specs.Records.{key_cmp}
use Rattle.quilt_node.specs.Tree.{Bounds, bounded, is_above, is_below}
use Rattle.quilt_btree.specs.Subtree.{Reading, Row}
use Rattle.quilt_btree.proofs.lists.Rising.{IsRising, all_follow, all_append, all_map}
use Rattle.quilt_btree.proofs.lists.Rows.{row_parts, row_join}
use Rattle.quilt_btree.proofs.subtrees.Trees.{KeysFit, row_rises, ascending_rest, within_rest}

-- children that each have a key behind them, with their bounds
abbrev pub front : List ℕ → List Key → Bounds → List (ℕ × Bounds)
front [] ks b = []
front (c ∷ cs) [] b = []
front (c ∷ cs) (k ∷ ks) b = (c, record { low = b.low; high = Some k }) ∷ front cs ks (record { low = Some k; high = b.high })

-- the bounds behind these keys
abbrev pub from_keys : List Key → Bounds → Bounds
from_keys [] b = b
from_keys (k ∷ ks) b = from_keys ks (record { low = Some k; high = b.high })

-- the bounds of the first child, and the places of the others
abbrev pub head_bounds : List Key → Bounds → Bounds
head_bounds [] b = b
head_bounds (k ∷ ks) b = record { low = b.low; high = Some k }

pub head_low : (ks : List Key) (b : Bounds) → (head_bounds ks b).low ≡ b.low
head_low [] b = refl
head_low (k ∷ ks) b = refl

abbrev pub tail_places : List ℕ → List Key → Bounds → List (ℕ × Bounds)
tail_places cs [] b = bounded cs [] b
tail_places cs (k ∷ ks) b = bounded cs ks (record { low = Some k; high = b.high })

pub fewer : (m n : ℕ) → suc m ≡ suc n → m ≡ n
fewer m n h = omega arith

pub bounded_front : (ca cs : List ℕ) (ka ks : List Key) (b : Bounds) → length ca ≡ length ka
    → bounded (ca ++ cs) (ka ++ ks) b ≡ front ca ka b ++ bounded cs ks (from_keys ka b)
bounded_front [] cs [] ks b n = refl
bounded_front [] cs (k ∷ ka) ks b n = absurd (omega arith)
bounded_front (c ∷ ca) cs [] ks b n = absurd (omega arith)
bounded_front (c ∷ ca) cs (k ∷ ka) ks b n =
    ap (λ l. (c, record { low = b.low; high = Some k }) ∷ l)
    (bounded_front ca cs ka ks (record { low = Some k; high = b.high }) (fewer (length ca) (length ka) n))

pub bounded_head : (c : ℕ) (cs : List ℕ) (ks : List Key) (b : Bounds) → bounded (c ∷ cs) ks b ≡ (c, head_bounds ks b) ∷ tail_places cs ks b
bounded_head c cs [] b = refl
bounded_head c cs (k ∷ ks) b = refl

pub high_from : (ks : List Key) (b : Bounds) → (from_keys ks b).high ≡ b.high
high_from [] b = refl
high_from (k ∷ ks) b = high_from ks (record { low = Some k; high = b.high })

-- a child in the middle
pub bounded_at : (ca : List ℕ) (c : ℕ) (cb : List ℕ) (ka kb : List Key) (b : Bounds) → length ca ≡ length ka
    → bounded (ca ++ c ∷ cb) (ka ++ kb) b ≡ front ca ka b ++ (c, head_bounds kb (from_keys ka b)) ∷ tail_places cb kb (from_keys ka b)
bounded_at ca c cb ka kb b n = bounded_front ca (c ∷ cb) ka kb b n ∙ ap (λ l. front ca ka b ++ l) (bounded_head c cb kb (from_keys ka b))

-- what the children before, at and behind a place spell
pub record AtPlace (S : Reading) (before middle behind : List (ℕ × Bounds)) (rs : List Record) (used : List ℕ) : Type 0 where
  pub first : List Record
  pub here : List Record
  pub last : List Record
  pub first_used : List ℕ
  pub here_used : List ℕ
  pub last_used : List ℕ
  pub row_before : Row S before first first_used
  pub row_here : Row S middle here here_used
  pub row_behind : Row S behind last last_used
  pub records : rs ≡ first ++ (here ++ last)
  pub is_used : used ≡ (last_used ++ here_used) ++ first_used

pub at_place : (S : Reading) (before middle behind : List (ℕ × Bounds)) (rs : List Record) (used : List ℕ)
    → Row S (before ++ (middle ++ behind)) rs used → AtPlace S before middle behind rs used
at_place S before middle behind rs used row =
    let parts = row_parts S before (middle ++ behind) rs used row in
    let rest = row_parts S middle behind parts.rest parts.rest_used parts.after in
    record {
      first = parts.first;
      here = rest.first;
      last = rest.rest;
      first_used = parts.first_used;
      here_used = rest.first_used;
      last_used = rest.rest_used;
      row_before = parts.here;
      row_here = rest.here;
      row_behind = rest.after;
      records = parts.records ∙ ap (λ l. parts.first ++ l) rest.records;
      is_used = parts.is_used ∙ ap (λ l. l ++ parts.first_used) rest.is_used;
    }

-- other places in its stead
pub place_back : (S : Reading) (before middle behind : List (ℕ × Bounds)) (rs : List Record) (used : List ℕ) → AtPlace S before middle behind rs used
    → Row S (before ++ (middle ++ behind)) rs used
place_back S before middle behind rs used at =
    row_join S before (middle ++ behind) rs used (record {
      first = at.first;
      rest = at.here ++ at.last;
      first_used = at.first_used;
      rest_used = at.last_used ++ at.here_used;
      here = at.row_before;
      after = row_join S middle behind (at.here ++ at.last) (at.last_used ++ at.here_used) (record {
        first = at.here;
        rest = at.last;
        first_used = at.here_used;
        rest_used = at.last_used;
        here = at.row_here;
        after = at.row_behind;
        records = refl;
        is_used = refl;
      });
      records = at.records;
      is_used = at.is_used;
    })

-- a row of one place
pub row_one : (S : Reading) (c : ℕ × Bounds) (rs : List Record) (used : List ℕ) → S c rs used → Row S (c ∷ []) rs used
row_one S c rs used s =
    record { first = rs; rest = []; first_used = used; rest_used = []; here = s; after = (refl, refl); records = sym (append-nil rs); is_used = refl }

pub one_row : (S : Reading) (c : ℕ × Bounds) (rs : List Record) (used : List ℕ) → Row S (c ∷ []) rs used → S c rs used
one_row S c rs used row =
    let no_more = row.after in
    let same : rs ≡ row.first = row.records ∙ ap (λ l. row.first ++ l) no_more.0 ∙ append-nil row.first in
    let pages : used ≡ row.first_used = row.is_used ∙ ap (λ l. l ++ row.first_used) no_more.1 in
    subst (λ l. S c l used) (sym same) (subst (λ u. S c row.first u) (sym pages) row.here)

-- Which keys a search passes by: what is below one of them comes before, and what is above one that is not passed is not passed.
pub record IsSide (past before : Key → Bool) : Type 0 where
  pub down : (l m : Key) → past l ≡ true → is_lt (key_cmp m l) ≡ true → before m ≡ true
  pub up : (l m : Key) → past l ≡ false → is_le (key_cmp l m) ≡ true → past m ≡ false

-- each subtree rises
abbrev pub Rises : Reading → Type 0
Rises S = (c : ℕ × Bounds) (rs : List Record) (used : List ℕ) → S c rs used → IsRising c.1 (map (λ r. r.key) rs)

module _ (S : Reading) (one : Rises S) (past before : Key → Bool) (side : IsSide past before) where
  -- records before keys that are passed
  pub front_before : (ca : List ℕ) (ka : List Key) (b : Bounds) (rs : List Record) (used : List ℕ) → list_all past ka ≡ true
      → Row S (front ca ka b) rs used → list_all (λ r. before r.key) rs ≡ true
  front_before [] ka b rs used h row = subst (λ l. list_all (λ (r : Record). before r.key) l ≡ true) (sym row.0) refl
  front_before (c ∷ ca) [] b rs used h row = subst (λ l. list_all (λ (r : Record). before r.key) l ≡ true) (sym row.0) refl
  front_before (c ∷ ca) (k ∷ ka) b rs used h row =
      let t = and_parts (past k) (list_all past ka) h in
      let first = one (c, record { low = b.low; high = Some k }) row.first row.first_used row.here in
      subst (λ l. list_all (λ (r : Record). before r.key) l ≡ true) (sym row.records)
      (all_append (λ (r : Record). before r.key) row.first row.rest
      (all_map (λ (r : Record). r.key) before row.first
      (all_follow (λ m. is_above b.low m && is_lt (key_cmp m k)) before
      (λ m g. side.down k m t.0 (and_parts (is_above b.low m) (is_lt (key_cmp m k)) g).1) (map (λ r. r.key) row.first) first.within))
      (front_before ca ka (record { low = Some k; high = b.high }) row.rest row.rest_used t.1 row.after))

  -- records behind keys that are not passed
  pub tail_behind : (cs : List ℕ) (ks : List Key) (b : Bounds) (rs : List Record) (used : List ℕ) → KeysFit (suc (length cs)) ks b
      → list_all (λ l. not (past l)) ks ≡ true → Row S (tail_places cs ks b) rs used
      → list_all (λ r. not (past r.key)) rs ≡ true
  tail_behind [] [] b rs used f h row = subst (λ l. list_all (λ (r : Record). not (past r.key)) l ≡ true) (sym row.0) refl
  tail_behind (c ∷ cs) [] b rs used f h row = absurd (let n = f.many in omega arith)
  tail_behind cs (k ∷ ks) b rs used f h row =
      let t = and_parts (not (past k)) (list_all (λ l. not (past l)) ks) h in
      let rises = row_rises one cs ks (record { low = Some k; high = b.high }) rs used
      (record { many = more (length cs) (length ks) f.many; ascends = ascending_rest k ks f.ascends; within = within_rest b k ks f.ascends f.within }) row in
      all_map (λ (r : Record). r.key) (λ m. not (past m)) rs
      (all_follow (λ m. is_le (key_cmp k m) && is_below b.high m) (λ m. not (past m))
      (λ m g. ap not (side.up k m (not-true (past k) t.0) (and_parts (is_le (key_cmp k m)) (is_below b.high m) g).0)) (map (λ r. r.key) rs) rises.within)
    where
      more : (m n : ℕ) → suc m ≡ suc n + 1 → m ≡ n + 1
      more m n h = omega arith
