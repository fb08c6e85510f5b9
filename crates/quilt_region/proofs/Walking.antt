-- The records of a layer as a cursor goes over them, and the leaves that they are as these are counted.
use Rattle.std.proofs.Common.{◌≡◌, ℕ, ◌+◌, ◌*◌, ◌^◌, ◌<◌, ◌≤◌, Bool, true, false, cond, List, [], ◌∷◌, ◌++◌, length, get_or, set, drop, map, filter, count_by}
use Rattle.std.proofs.Common.{Option, Some, None, Contains, ◌⊎◌, inl, inr, replicate, eq-eqb, eqb-true, append_assoc, refl, sym, ◌∙◌, ap, subst, ⊎_elim, arith}
use Rattle.std.specs.Prelude.{◌==◌, MatchOption}
use Rattle.std.specs.List.{list_all}
use Rattle.std.specs.Ordering.{is_le, is_lt}
use Rattle.std.proofs.lemmas.Bool.{cases_lt, and_parts, and_from, false_from_ne_true}
use Rattle.std.proofs.Math.Nat.{pow-le-pow_right}
use Rattle.std.proofs.lemmas.List.{get_or-set_same, get_or-set_other, get_or-replicate}
use Rattle.std.proofs.lemmas.List.Elements.{filter-append, Contains-append_right}
use Rattle.std.proofs.lemmas.List.Sums.{sum_by-cons}
use Rattle.std.proofs.lemmas.Option.{same_Some, none-some}
use Rattle.quilt_types.specs.declared.plane.Block.{Block}
use Rattle.quilt_types.specs.declared.plane.Colour.{Colour}
use Rattle.quilt_types.specs.Plane.{side, whole, IsBlock}
use Rattle.quilt_types.specs.Layers.{Grid}
use Rattle.quilt_loc.specs.Codes.{code_from, code_to, Rises}
use Rattle.quilt_loc.proofs.Members.{Contains-nil, Contains-here, Contains-there, Contains-cons_cases}
use Rattle.quilt_loc.proofs.CodeLaws.{pow_same}
use Rattle.quilt_record.specs.declared.key.Key.{Key}
use Rattle.quilt_record.specs.declared.record.Record.{Record}
use Rattle.quilt_record.specs.Records.{key_cmp}
use Rattle.quilt_record.proofs.Orders.{lt_le, lt_to_le}
use Rattle.quilt_blocks.specs.declared.leaf.Leaf.{Leaf}
use Rattle.quilt_blocks.specs.Cutting.{leaves_by_code}
use Rattle.quilt_blocks.specs.Listing.{Follows}
use Rattle.quilt_blocks.proofs.Chains.{size_of-nil, size_of-cons, member_pos}
use Rattle.quilt_blocks.proofs.Cuts.{Runs, leaves_run, leaves_members}
use Rattle.quilt_blocks.proofs.Squares.{code_to-whole}
use Rattle.quilt_world.specs.Tale.{Goes}
use Rattle.quilt_spell.specs.Written.{by_key}
use Rattle.quilt_btree.specs.declared.tree.Tree.{Tree}
use Rattle.quilt_btree.specs.declared.cursor.Cursor.{Cursor}
use Rattle.quilt_btree.specs.Cursors.{IsSought, GoesOver}
use Rattle.quilt_btree.specs.Lists.{is_from_to}
use Rattle.quilt_btree.specs.Trees.{IsTree}
use Rattle.quilt_btree.proofs.ranges.Ranges.{none_below}
use Rattle.quilt_btree.proofs.subtrees.Whole.{no_records}
use Rattle.quilt_region.specs.Laws.{first_key, last_key}
use Rattle.quilt_spell.specs.OfLayer.{leaf_record}
use Rattle.quilt_region.specs.Regions.{region_records, HasRegion}
use Rattle.quilt_region.specs.Walks.{IsAhead, StandsInTree}
use Rattle.quilt_region.proofs.Counting.{saved_then, saved_more, saved_less, saved_none}
use Rattle.quilt_region.proofs.Records.{range_filter, spelled_leaf, in_range}
use Rattle.quilt_region.proofs.Trees.{tree_rises}

-- ---- records that rise from a key on: those up to another key, and behind them none that is
record IsCutAt (low high : Key) (rs : List Record) : Type 0 where
  behind : List Record
  are : rs ≡ filter (is_from_to low high) rs ++ behind
  past : (r : Record) → Contains behind r → is_from_to low high r ≡ true → ⊥

none_kept : (p : Record → Bool) (xs : List Record) → ((s : Record) → Contains xs s → p s ≡ true → ⊥) → filter p xs ≡ []
none_kept p [] h = refl
none_kept p (x ∷ xs) h =
    ap (λ t. cond t (x ∷ filter p xs) (filter p xs)) (false_from_ne_true (p x) (h x (Contains-here x xs)))
    ∙ none_kept p xs (λ s c. h s (Contains-there x xs s c))

cut_at : (low high : Key) (rs : List Record) → list_all (λ r. is_le (key_cmp low r.key)) rs ≡ true → Rises by_key rs → IsCutAt low high rs
cut_at low high [] from up = record { behind = []; are = refl; past = λ r c. absurd (Contains-nil r c) }
cut_at low high (r ∷ rs) from up = by_test (is_from_to low high r) refl (cut_at low high rs parts.1 up.1)
  where
    parts : (is_le (key_cmp low r.key) ≡ true) × (list_all (λ s. is_le (key_cmp low s.key)) rs ≡ true)
    parts = and_parts (is_le (key_cmp low r.key)) (list_all (λ s. is_le (key_cmp low s.key)) rs) from

    kept : (b : Bool) → is_from_to low high r ≡ b → filter (is_from_to low high) (r ∷ rs) ≡ cond b (r ∷ filter (is_from_to low high) rs) (filter (is_from_to low high) rs)
    kept b e = ap (λ t. cond t (r ∷ filter (is_from_to low high) rs) (filter (is_from_to low high) rs)) e

    -- behind a record that is past the second key all are
    all_past : is_from_to low high r ≡ false → (s : Record) → Contains (r ∷ rs) s → is_from_to low high s ≡ true → ⊥
    all_past e s c t =
        let two = and_parts (is_le (key_cmp low s.key)) (is_le (key_cmp s.key high)) t in
        let at : is_le (key_cmp r.key high) ≡ true =
        ⊎_elim (λ is. subst (λ (x : Record). is_le (key_cmp x.key high) ≡ true) (sym is) two.1)
        (λ d. lt_to_le (key_cmp r.key high) (lt_le r.key s.key high (ap is_lt (up.0 s d)) two.1)) (Contains-cons_cases r rs s c) in
        let both = and_from (is_le (key_cmp low r.key)) (is_le (key_cmp r.key high)) parts.0 at in
        let no_ : false ≡ true = sym e ∙ both in
        cc

    by_test : (b : Bool) → is_from_to low high r ≡ b → IsCutAt low high rs → IsCutAt low high (r ∷ rs)
    by_test true e rest =
        record {
          behind = rest.behind;
          are = ap (λ l. r ∷ l) rest.are ∙ ap (λ l. l ++ rest.behind) (sym (kept true e));
          past = rest.past;
        }
    by_test false e rest =
        record {
          behind = r ∷ rs;
          are = sym (ap (λ l. l ++ r ∷ rs) (none_kept (is_from_to low high) (r ∷ rs) (all_past e)));
          past = all_past e;
        }

rises_behind : (xs ys : List Record) → Rises by_key (xs ++ ys) → Rises by_key ys
rises_behind [] ys up = up
rises_behind (x ∷ xs) ys up = rises_behind xs ys up.1

-- ---- where a walk begins
module _ (told : Option (List (List ℕ))) (t : Tree) (layer n : ℕ) (g : Grid) (le : n ≤ 12) (h : HasRegion told t layer n g) where
  -- the tree has records
  pub some_records : t.height ≡ 0 → ⊥
  some_records none =
      let run = leaves_run n g le in
      let first = first_of (leaves_by_code n g) run in
      let there = h.spelled.each first.0 ((leaves_members n g first.0).0 first.1) in
      Contains-nil (leaf_record n layer first.0) (subst (λ rs. Contains rs (leaf_record n layer first.0)) (no_records told t h.records none h.tree) there)
    where
      first_of : (es : List (Block × ℕ)) → Runs n 0 (4 ^ n) es → (e : Block × ℕ) × Contains es e
      first_of [] r = let s = r.size in let z = size_of-nil in let p : 4 ^ 0 ≤ 4 ^ n = pow-le-pow_right {n = 4} (let some : 0 < 4 = omega arith in some) (let least : 0 ≤ n = omega arith in least) in absurd (omega arith)
      first_of (e ∷ es) r = (e, Contains-here e es)

  pub walk_begins : (c : Cursor) (k : Key) → k ≡ first_key layer → IsSought told t c k h.records → IsAhead told t c layer n (leaves_by_code n g)
  unfolding region_records
  walk_begins c k is sought =
      let low = first_key layer in
      let high = last_key layer in
      let up = tree_rises told t h.records h.tree in
      let lower : list_all (λ r. is_lt (key_cmp r.key low)) sought.before ≡ true =
      subst (λ (x : Key). list_all (λ r. is_lt (key_cmp r.key x)) sought.before ≡ true) is sought.lower in
      let higher : list_all (λ r. is_le (key_cmp low r.key)) sought.after ≡ true =
      subst (λ (x : Key). list_all (λ r. is_le (key_cmp x r.key)) sought.after ≡ true) is sought.higher in
      let cut = cut_at low high sought.after higher (rises_behind sought.before sought.after (subst (Rises by_key) sought.records up)) in
      let whole = range_filter h.records layer n g le up h.spelled low high refl refl refl refl in
      let same : filter (is_from_to low high) sought.after ≡ region_records n layer g =
      sym (ap (λ l. l ++ filter (is_from_to low high) sought.after) (none_below low high sought.before lower))
      ∙ sym (filter-append (is_from_to low high) sought.before sought.after)
      ∙ sym (ap (filter (is_from_to low high)) sought.records) ∙ whole in
      record {
        before = sought.before;
        after = sought.after;
        behind = cut.behind;
        tree = subst (IsTree told t) sought.records h.tree;
        stands = sought.stands;
        are = cut.are ∙ ap (λ l. l ++ cut.behind) same;
        elsewhere = λ r c of_layer.
            let kept = filter (is_from_to low high) sought.after in
            let there = Contains-append_right sought.before (kept ++ cut.behind) r (Contains-append_right kept cut.behind r c) in
            let leaf = spelled_leaf h.records layer n g le up h.spelled r
            (subst (λ rs. Contains rs r) (ap (λ l. sought.before ++ l) (sym cut.are) ∙ sym sought.records) there) of_layer in
            cut.past r c (subst (λ (x : Record). is_from_to low high x ≡ true) leaf.2 (in_range h.records layer n g le up h.spelled low high refl refl refl refl leaf.0));
      }

-- ---- a step
module _ (told : Option (List (List ℕ))) (t : Tree) (c later : Cursor) (layer n : ℕ) where
  -- the cursor goes over the record of the first leaf
  pub goes_over : (e : Block × ℕ) (rest : List (Block × ℕ)) (h : IsAhead told t c layer n (e ∷ rest)) (o : Option Record)
      → MatchOption o (h.after ≡ []) (λ r. GoesOver told t r later h.before h.after)
      → (o ≡ Some (leaf_record n layer e)) × IsAhead told t later layer n rest
  goes_over e rest h None none = let no_ : leaf_record n layer e ∷ (map (leaf_record n layer) rest ++ h.behind) ≡ [] = sym h.are ∙ none in cc
  goes_over e rest h (Some r) over =
      let same : r ∷ over.rest ≡ leaf_record n layer e ∷ (map (leaf_record n layer) rest ++ h.behind) = sym over.records ∙ h.are in (
        ap (λ (rs : List Record). first_in rs) same,
        record {
          before = h.before ++ r ∷ [];
          after = over.rest;
          behind = h.behind;
          tree = subst (IsTree told t) (ap (λ l. h.before ++ l) over.records ∙ sym (append_assoc h.before (r ∷ []) over.rest)) h.tree;
          stands = over.stands;
          are = ap (λ (rs : List Record). drop 1 rs) same;
          elsewhere = h.elsewhere;
        },
      )
    where
      first_in : List Record → Option Record
      first_in [] = None
      first_in (x ∷ xs) = Some x

  -- behind the last leaf it goes over no record of the layer
  pub goes_out : (h : IsAhead told t c layer n []) (o : Option Record) (r : Record) → MatchOption o (h.after ≡ []) (λ x. GoesOver told t x later h.before h.after)
      → o ≡ Some r → r.key.layer ≡ layer → ⊥
  goes_out h None r none is of_layer = none-some r is
  goes_out h (Some x) r over is of_layer =
      let same = same_Some x r is in
      h.elsewhere r (subst (λ rs. Contains rs r) (sym over.records ∙ h.are) (subst (λ (y : Record). Contains (y ∷ over.rest) r) (sym same) (Contains-here r over.rest))) of_layer

-- the next record is read as the leaf
pub read_over : (layer n : ℕ) (e : Block × ℕ) (o : Option Record) (r : Record) (read : Option Leaf) → 1 ≤ layer → IsBlock n e.0 → o ≡ Some (leaf_record n layer e) → o ≡ Some r
    → ((b : Block) (k : Colour) → 1 ≤ layer → IsBlock n b → r ≡ leaf_record n layer (b, k.0) → read ≡ Some (record { block = b; colour = k }))
    → read ≡ Some (record { block = e.0; colour = record { 0 = e.1 } })
read_over layer n e o r read least block is has one = one e.0 (record { 0 = e.1 }) least block (same_Some r (leaf_record n layer e) (sym has ∙ is))

-- where the square ends
pub square_end : (n : ℕ) (b : Block) (end : ℕ) → n ≤ 12 → b ≡ whole n → end ≡ code_to b → (end ≡ 4 ^ n) × (end ≤ 16777216)
square_end n b end le is at =
    let e = ap code_to is ∙ code_to-whole n in
    let p : 4 ^ n ≤ 4 ^ 12 = pow-le-pow_right {n = 4} (let some : 0 < 4 = omega arith in some) le in
    (omega arith, omega arith)

-- what a store tells after a call that left it
pub ahead_along : (told now : Option (List (List ℕ))) (t : Tree) (c : Cursor) (layer n : ℕ) (rest : List (Block × ℕ)) → now ≡ told
    → IsAhead told t c layer n rest → IsAhead now t c layer n rest
ahead_along told now t c layer n rest e h = subst (λ (z : Option (List (List ℕ))). IsAhead z t c layer n rest) (sym e) h

-- ---- between which records the cursor stands
pub stands_along : (told now : Option (List (List ℕ))) (t : Tree) (c : Cursor) → now ≡ told → StandsInTree told t c → StandsInTree now t c
stands_along told now t c e h = subst (λ (z : Option (List (List ℕ))). StandsInTree z t c) (sym e) h

pub stands_sought : (told : Option (List (List ℕ))) (t : Tree) (c : Cursor) (k : Key) (rs : List Record) → IsTree told t rs → IsSought told t c k rs
    → StandsInTree told t c
stands_sought told t c k rs is sought =
    record { before = sought.before; after = sought.after; tree = subst (IsTree told t) sought.records is; stands = sought.stands }

pub stands_over : (told : Option (List (List ℕ))) (t : Tree) (c later : Cursor) (h : StandsInTree told t c) (o : Option Record) (r : Record)
    → MatchOption o (h.after ≡ []) (λ x. GoesOver told t x later h.before h.after) → o ≡ Some r → StandsInTree told t later
stands_over told t c later h None r none is = absurd (none-some r is)
stands_over told t c later h (Some x) r over is =
    record {
      before = h.before ++ x ∷ [];
      after = over.rest;
      tree = subst (IsTree told t) (ap (λ l. h.before ++ l) over.records ∙ sym (append_assoc h.before (x ∷ []) over.rest)) h.tree;
      stands = over.stands;
    }

-- ---- how many leaves of a side there are
abbrev pub has_side : ℕ → Block × ℕ → Bool
has_side k e = e.0.side == side k

-- the leaves that are ahead, and those of the counts, which are the others
pub record IsCounted (told : Option (List (List ℕ))) (t : Tree) (c : Cursor) (layer n : ℕ) (es : List (Block × ℕ)) (code : ℕ) (counts : List ℕ)
    (before now : Option ℕ) : Type 0 where
  pub rest : List (Block × ℕ)
  pub ahead : IsAhead told t c layer n rest
  pub runs : Runs n code (4 ^ n) rest
  pub counted : (k : ℕ) → k ≤ 12 → get_or counts k 0 + count_by (has_side k) rest ≡ count_by (has_side k) es
  pub few : Goes {A = ℕ} (λ old new. new + 3 * length rest ≤ old + 3 * length es) before now

-- one of the counts is one more
set_at : (counts : List ℕ) (j k : ℕ) → j < length counts
    → ((k ≡ j) × (get_or (set counts j (get_or counts j 0 + 1)) k 0 ≡ get_or counts k 0 + 1))
    ⊎ ((k ≡ j → ⊥) × (get_or (set counts j (get_or counts j 0 + 1)) k 0 ≡ get_or counts k 0))
set_at counts j k room =
    ⊎_elim (λ lt. other (λ q. omega arith)) (λ ge. ⊎_elim (λ lt. other (λ q. omega arith)) (λ le. same (omega arith)) (cases_lt j k)) (cases_lt k j)
  where
    same : k ≡ j → ((k ≡ j) × (get_or (set counts j (get_or counts j 0 + 1)) k 0 ≡ get_or counts k 0 + 1))
        ⊎ ((k ≡ j → ⊥) × (get_or (set counts j (get_or counts j 0 + 1)) k 0 ≡ get_or counts k 0))
    same q =
        inl (
          q,
          ap (λ m. get_or (set counts j (get_or counts j 0 + 1)) m 0) q ∙ get_or-set_same counts j (get_or counts j 0 + 1) 0 room
              ∙ ap (λ m. get_or counts m 0 + 1) (sym q),
        )

    other : (k ≡ j → ⊥) → ((k ≡ j) × (get_or (set counts j (get_or counts j 0 + 1)) k 0 ≡ get_or counts k 0 + 1))
        ⊎ ((k ≡ j → ⊥) × (get_or (set counts j (get_or counts j 0 + 1)) k 0 ≡ get_or counts k 0))
    other q = inr (q, get_or-set_other counts j k (get_or counts j 0 + 1) 0 q)

pub counts_most : (counts : List ℕ) (j k code to : ℕ) → j < length counts → code < to → get_or counts k 0 ≤ code
    → get_or (set counts j (get_or counts j 0 + 1)) k 0 ≤ to
counts_most counts j k code to room lt most =
    ⊎_elim (λ w. let value = w.1 in omega arith) (λ w. let value = w.1 in omega arith) (set_at counts j k room)

one_counted : (e : Block × ℕ) (rest : List (Block × ℕ)) (counts : List ℕ) (j k total : ℕ) → j < length counts → e.0.side ≡ side j
    → get_or counts k 0 + count_by (has_side k) (e ∷ rest) ≡ total
    → get_or (set counts j (get_or counts j 0 + 1)) k 0 + count_by (has_side k) rest ≡ total
one_counted e rest counts j k total room size old =
    ⊎_elim
    (λ w.
    let t : has_side k e ≡ true = eq-eqb e.0.side (side k) (size ∙ ap side (sym w.0)) in
    let one = all ∙ ap (λ (z : Bool). cond z 1 0 + count_by (has_side k) rest) t in
    let value = w.1 in
    omega arith)
    (λ w.
    let f : has_side k e ≡ false = false_from_ne_true (has_side k e) (λ t. w.0 (pow_same k j (sym (eqb-true e.0.side (side k) t) ∙ size))) in
    let none = all ∙ ap (λ (z : Bool). cond z 1 0 + count_by (has_side k) rest) f in
    let value = w.1 in
    omega arith) (set_at counts j k room)
  where
    all : count_by (has_side k) (e ∷ rest) ≡ cond (has_side k e) 1 0 + count_by (has_side k) rest
    all = sum_by-cons (λ (d : Block × ℕ). cond (has_side k d) 1 0) e rest

module _ (told : Option (List (List ℕ))) (t : Tree) (layer n : ℕ) (le : n ≤ 12) where
  pub none_counted : (c : Cursor) (g : Grid) (now : Option ℕ) → IsAhead told t c layer n (leaves_by_code n g)
      → IsCounted told t c layer n (leaves_by_code n g) 0 (replicate 13 0) now now
  none_counted c g now ahead =
      record {
        rest = leaves_by_code n g;
        ahead = ahead;
        runs = leaves_run n g le;
        counted = λ k small. (let z : get_or (replicate {A = ℕ} 13 0) k 0 ≡ 0 = get_or-replicate 13 k 0 0 (omega arith) in omega arith);
        few = saved_none (3 * length (leaves_by_code n g)) (3 * length (leaves_by_code n g)) now (omega arith);
      }

  module _ (c : Cursor) (es : List (Block × ℕ)) (code : ℕ) (counts : List ℕ) (before now : Option ℕ) (h : IsCounted told t c layer n es code counts before now) where
    -- before the end of the square a leaf is ahead
    pub leaf_ahead : (T : Type 0) → code < 4 ^ n
        → ((e : Block × ℕ) (rest : List (Block × ℕ)) → h.rest ≡ e ∷ rest → IsBlock n e.0 → code_from e.0 ≡ code → IsAhead told t c layer n (e ∷ rest) → T) → T
    leaf_ahead T lt f = by_cases h.rest refl h.ahead h.runs
      where
        by_cases : (rest : List (Block × ℕ)) → h.rest ≡ rest → IsAhead told t c layer n rest → Runs n code (4 ^ n) rest → T
        by_cases [] is ahead runs = let s = runs.size in let z = size_of-nil in absurd (omega arith)
        by_cases (e ∷ rest) is ahead runs = f e rest is runs.follows.0 runs.follows.1 ahead

    -- the leaf that the cursor goes over is counted
    pub count_next : (l : Block) (later : Cursor) (j to : ℕ) (after : Option ℕ) → code < 4 ^ n
        → ((e : Block × ℕ) (rest : List (Block × ℕ)) → IsBlock n e.0 → IsAhead told t c layer n (e ∷ rest) → (l ≡ e.0) × IsAhead told t later layer n rest)
        → j < length counts → l.side ≡ side j → to ≡ code_to l → Goes {A = ℕ} (λ old new. new ≤ old + 3) now after
        → IsCounted told t later layer n es to (set counts j (get_or counts j 0 + 1)) before after
    count_next l later j to after lt next room size is_to reads = by_cases h.rest h.ahead h.runs h.counted h.few
      where
        by_cases : (rest : List (Block × ℕ)) → IsAhead told t c layer n rest → Runs n code (4 ^ n) rest
            → ((k : ℕ) → k ≤ 12 → get_or counts k 0 + count_by (has_side k) rest ≡ count_by (has_side k) es)
            → Goes {A = ℕ} (λ old new. new + 3 * length rest ≤ old + 3 * length es) before now
            → IsCounted told t later layer n es to (set counts j (get_or counts j 0 + 1)) before after
        by_cases [] ahead runs counted few = let s = runs.size in let z = size_of-nil in absurd (omega arith)
        by_cases (e ∷ rest) ahead runs counted few =
            let step = next e rest runs.follows.0 ahead in
            let from = runs.follows.1 in
            let s = runs.size in
            let more = size_of-cons e rest in
            let ends = ap code_to step.0 in
            let to_is : code + e.0.side * e.0.side ≡ to = omega arith in
            let fewer = saved_then (3 * length (e ∷ rest)) (3 * length es) 3 (3 * length es + 3) before now after (omega arith) few reads in
            record {
              rest = rest;
              ahead = step.1;
              runs = record { follows = subst (λ (z : ℕ). Follows n z rest) to_is runs.follows.2; size = omega arith };
              counted = λ k small. one_counted e rest counts j k (count_by (has_side k) es) room (ap (λ (b : Block). b.side) (sym step.0) ∙ size) (counted k small);
              few = saved_more (3 * length (e ∷ rest)) (3 * length rest) (3 * length es + 3) (3 * length es) before after (omega arith) fewer;
            }

    -- at the end of the square all are counted
    pub all_counted : 4 ^ n ≤ code → IsAhead told t c layer n []
        × ((k : ℕ) → k ≤ 12 → get_or counts k 0 ≡ count_by (has_side k) es)
        × Goes {A = ℕ} (λ old new. new ≤ old + 3 * length es) before now
    all_counted end = by_cases h.rest h.ahead h.runs h.counted h.few
      where
        by_cases : (rest : List (Block × ℕ)) → IsAhead told t c layer n rest → Runs n code (4 ^ n) rest
            → ((k : ℕ) → k ≤ 12 → get_or counts k 0 + count_by (has_side k) rest ≡ count_by (has_side k) es)
            → Goes {A = ℕ} (λ old new. new + 3 * length rest ≤ old + 3 * length es) before now
            → IsAhead told t c layer n []
            × ((k : ℕ) → k ≤ 12 → get_or counts k 0 ≡ count_by (has_side k) es)
            × Goes {A = ℕ} (λ old new. new ≤ old + 3 * length es) before now
        by_cases [] ahead runs counted few =
            (ahead, λ k small. (let all = counted k small in omega arith), saved_less 0 (3 * length es) (3 * length es) before now (omega arith) few)
        by_cases (e ∷ rest) ahead runs counted few =
            let s = runs.size in
            let more = size_of-cons e rest in
            let some = member_pos n e.0 runs.follows.0 in
            absurd (omega arith)
