-- Records put into the whole tree.
use Rattle.std.proofs.Common.{◌≡◌, ◌≢◌, ℕ, zero, suc, ◌+◌, ◌-◌, ◌<◌, ◌≤◌, Bool, true, false, ◌&&◌, not, nat_le, cond, List, [], ◌∷◌, ◌++◌, length, Option, Some}
use Rattle.std.proofs.lemmas.Bool.{and_from}
use Rattle.std.proofs.Common.{None, slice_set, refl, sym, ◌∙◌, ap, subst, arith, length-append, get_or-set_same}
use Rattle.std.specs.Prelude.{nat_lt, if◌then◌else◌}
use Rattle.std.specs.List.{list_any}
use Rattle.std.specs.Ordering.{is_lt}
use Rattle.std.proofs.lemmas.Bool.Decides.{nat_tests}
use Rattle.std.proofs.lemmas.List.{append-nil}
use Rattle.quilt_types.specs.Facts.{quota}
use Rattle.quilt_types.specs.declared.stop.Stop.{Stop}
use Rattle.quilt_record.specs.declared.key.Key.{Key}
use Rattle.quilt_record.specs.declared.record.Record.{Record}
use Rattle.quilt_record.specs.Records.{key_cmp}
use Rattle.quilt_node.specs.Pages.{Inner, leaf_of}
use Rattle.quilt_node.specs.Nodes.{are_pages}
use Rattle.quilt_node.specs.Tree.{Bounds, Whole, walk_of, bounded}
use Rattle.quilt_store.specs.Store.{FreesOnly, count_free}
use Rattle.quilt_world.specs.Tale.{Goes}
use Rattle.quilt_btree.specs.declared.tree.Tree.{Tree}
use Rattle.quilt_record.specs.Lists.{has_key, put}
use Rattle.quilt_store.specs.Stops.{IsNotDamage}
use Rattle.quilt_btree.specs.Subtree.{Row, Subtree, AreFreshPages}
use Rattle.quilt_btree.specs.Trees.{IsRooted, IsTree}
use Rattle.quilt_btree.specs.Edits.{Becomes, multiplicity, account, KeepsAccount, Separated, CanInsert, IsWhole}
use Rattle.quilt_btree.specs.Inserts.{AreFew}
use Rattle.quilt_btree.specs.declared.edit.Edit.{Edit}
use Rattle.quilt_btree.specs.Batches.{edit_all, are_due}
use Rattle.quilt_btree.specs.Placing.{DidPlace}
use Rattle.quilt_btree.specs.declared.outcomes.Inserted.{Inserted}
use Rattle.quilt_btree.specs.declared.outcomes.Inserted.TheVariants as inserted
use Rattle.quilt_btree.proofs.lists.Counts.{times-append, once_from_fresh, fresh_from_once, times_here}
use Rattle.quilt_btree.proofs.subtrees.Density.{third_filled, root_is_dense, pages_left}
use Rattle.quilt_btree.proofs.growth.InnerGrowth.{IsWritten}
use Rattle.quilt_btree.proofs.stores.Moves.{AreApart, moves_then, moves_taken, moves_written, moves_order, apart_then, used_account}
use Rattle.quilt_btree.proofs.rows.Places.{row_one}
use Rattle.quilt_btree.proofs.stores.Room.{count_left}
use Rattle.quilt_btree.proofs.rows.Splices.{parent_written}
use Rattle.quilt_btree.proofs.subtrees.Walks.{Found, walk_found, walk_again}
use Rattle.quilt_btree.proofs.subtrees.Whole.{no_records}
use Rattle.quilt_btree.proofs.stores.Writes.{tells_at, if_some_at, TellsAll, all_told}

-- the bounds of a root
abbrev pub everywhere : Bounds
everywhere = record { low = None; high = None }

-- only pages from 1 on are free
abbrev pub FreeIn : (ℕ → Bool) → ℕ → Type 0
FreeIn free size = (page : ℕ) → free page ≡ true → (1 ≤ page) × (page < size)

pub root_found : (pages : List (List ℕ)) (root height : ℕ) (rs : List Record) (visited : List ℕ) → 1 ≤ height
    → walk_of pages root height ≡ Whole rs visited → Found (Subtree pages height true (root, everywhere)) [] rs visited
unfolding walk_of
root_found pages root zero rs visited some w = absurd (omega arith)
root_found pages root (suc h) rs visited some w = walk_found pages (suc h) true (root, everywhere) [] rs visited w

pub root_again : (pages : List (List ℕ)) (root height : ℕ) (rs : List Record) (used : List ℕ) → 1 ≤ height
    → Subtree pages height true (root, everywhere) rs used → AreFreshPages used [] → walk_of pages root height ≡ Whole rs (used ++ [])
unfolding walk_of
root_again pages root zero rs used some s fresh = absurd (omega arith)
root_again pages root (suc h) rs used some s fresh = walk_again pages (suc h) true (root, everywhere) [] used s fresh

-- the whole tree as a subtree, and what is free beside it
pub record IsWholeFrom (told : Option (List (List ℕ))) (free : ℕ → Bool) (size root height : ℕ) (rs : List Record) : Type 0 where
  pub pages : List (List ℕ)
  pub is_told : told ≡ Some pages
  pub used : List ℕ
  pub subtree : Subtree pages height true (root, everywhere) rs used
  pub balance : (p : ℕ) → 1 ≤ p → p < size → account free used p ≡ 1
  pub apart : AreApart free used
  pub left : 6 ≤ count_free free size

at_most_one : (free : ℕ → Bool) (used : List ℕ) (size : ℕ) → FreeIn free size → ((p : ℕ) → multiplicity p used ≤ 1)
    → ((p : ℕ) → 1 ≤ p → p < size → account free used p ≡ 1) → AreApart free used
at_most_one free used size inside once balance p = by_case (free p) refl
  where
    same : (a : ℕ) → a ≡ 1 → a ≤ 1
    same a e = omega arith

    nothing : (c t : ℕ) → c ≡ 0 → t ≤ 1 → c + t ≤ 1
    nothing c t e h = omega arith

    by_case : (b : Bool) → free p ≡ b → account free used p ≤ 1
    by_case true e = let range = inside p e in same (account free used p) (balance p range.0 range.1)
    by_case false e = nothing (cond {A = ℕ} (free p) 1 0) (multiplicity p used) (ap (λ b. cond {A = ℕ} b 1 0) e) (once p)

-- a subtree whose pages are apart is a tree
unfoldable pub tree_again : (news : List (List ℕ)) (now_told : Option (List (List ℕ))) (now : ℕ → Bool) (root height records : ℕ)
    (uses : List ℕ) (all : List Record)
    → now_told ≡ Some news → 1 ≤ height → Subtree news height true (root, everywhere) all uses → AreApart now uses
    → IsTree now_told (record { root = root; height = height; records = records }) all
tree_again news now_told now root height records uses all is some s apart = record {
  pages = news;
  is_told = is;
  visited = uses ++ [];
  walk = root_again news root height all uses some s (fresh_from_once uses (λ p. once (cond {A = ℕ} (now p) 1 0) (multiplicity p uses) (apart p)));
}
  where
    once : (c t : ℕ) → c + t ≤ 1 → t ≤ 1
    once c t h = omega arith

-- A subtree that has come of a whole tree by an edit is the whole tree.
pub whole_again : {pages news : List (List ℕ)} {now_told : Option (List (List ℕ))} {free now : ℕ → Bool} {size : ℕ} (root : ℕ) {height records : ℕ}
    {used uses : List ℕ} {all : List Record} → now_told ≡ Some news → 1 ≤ height → Subtree news height true (root, everywhere) all uses
    → KeepsAccount pages news free now used uses → AreApart free used → ((p : ℕ) → 1 ≤ p → p < size → account free used p ≡ 1) → length all ≡ records
    → IsWhole now_told now size (record { root = root; height = height; records = records }) all
unfolding tree_again
whole_again {pages = pages} {news = news} {now_told = now_told} {free = free} {now = now} root {height} {records} {used = used} {uses = uses} {all} is some s m apart
    balance number = record {
      tree = tree_again news now_told now root height records uses all is some s (apart_then pages news free now used uses m apart);
      number = number;
      balance = λ p low high. ap (λ u. account now u p) (append-nil uses) ∙ m.balance p ∙ balance p low high;
    }

module _ (told : Option (List (List ℕ))) (free : ℕ → Bool) (size : ℕ) where
  pub whole_from : (t : Tree) (rs : List Record) → IsRooted size t → 1 ≤ t.height → 16 ≤ size → FreeIn free size → IsWhole told free size t rs
      → IsWholeFrom told free size t.root t.height rs
  whole_from t rs rooted some least inside w =
      let found = root_found w.tree.pages t.root t.height rs w.tree.visited some w.tree.walk in
      let same : w.tree.visited ≡ found.used = found.is_now ∙ append-nil found.used in
      let balance : (p : ℕ) → 1 ≤ p → p < size → account free found.used p ≡ 1 = λ p low high. subst (λ u. account free u p ≡ 1) same (w.balance p low high) in
      let dense = root_is_dense w.tree.pages t.height (t.root, everywhere) rs found.used rooted.height found.spells in
      let few : length rs ≤ quota size = subst (λ n. n ≤ quota size) (sym w.number) rooted.records in
      let one : 1 ≤ size = omega arith in
      record {
        pages = w.tree.pages;
        is_told = w.tree.is_told;
        used = found.used;
        subtree = found.spells;
        balance = balance;
        apart = at_most_one free found.used size inside (once_from_fresh found.used found.fresh) balance;
        left = enough size (count_free free size) (length found.used) (count_left free found.used size one balance)
            (pages_left size (length found.used) (length rs) least few dense);
      }
    where
      enough : (s c u : ℕ) → s ≤ c + u + 1 → u + 6 < s → 6 ≤ c
      enough s c u e f = omega arith

  pub whole_can : (root height : ℕ) (k : Key) (rs : List Record) → height ≤ 3 → (x : IsWholeFrom told free size root height rs)
      → CanInsert told free size root height true everywhere k rs x.used
  whole_can root height k rs low x = record {
    can_edit = record { pages = x.pages; is_told = x.is_told; subtree = x.subtree; apart = x.apart };
    low = refl;
    high = refl;
    room = enough height (count_free free size) low x.left;
  }
    where
      enough : (h c : ℕ) → h ≤ 3 → 6 ≤ c → h ≤ c
      enough h c e f = omega arith

put_step : (r s : Record) (rs : List Record) (b : Bool) → length (put r rs) ≡ suc (length rs)
    → length (if b then r ∷ s ∷ rs else s ∷ put r rs) ≡ suc (suc (length rs))
put_step r s rs true h = refl
put_step r s rs false h = ap suc h

pub length-put : (r : Record) (rs : List Record) → length (put r rs) ≡ suc (length rs)
length-put r [] = refl
length-put r (s ∷ rs) = put_step r s rs (is_lt (key_cmp r.key s.key)) (length-put r rs)

pub more_records : (r : Record) (rs : List Record) (n : ℕ) → length rs ≡ n → length (put r rs) ≡ n + 1
more_records r rs n e = let l = length-put r rs in omega arith

-- the store and the tree of an insertion
pub record IsInserting (told : Option (List (List ℕ))) (free : ℕ → Bool) (size : ℕ) (t : Tree) : Type 0 where
  pub rooted : IsRooted size t
  pub room : t.records < quota size
  pub least : 16 ≤ size
  pub most : size ≤ 30000
  pub inside : FreeIn free size
  pub many : TellsAll told size

pub some_height : (h : ℕ) → h ≢ 0 → 1 ≤ h
some_height h ne = omega arith

pub insert_from : (told : Option (List (List ℕ))) (free : ℕ → Bool) (size : ℕ) (t : Tree) (rs : List Record) → IsInserting told free size t
    → t.height ≢ 0 → IsWhole told free size t rs → IsWholeFrom told free size t.root t.height rs
insert_from told free size t rs i ne w = whole_from told free size t rs i.rooted (some_height t.height ne) i.least i.inside w

module _ (k : Key) (run : List Edit) (told now_told : Option (List (List ℕ))) (free now : ℕ → Bool) (size : ℕ) (t : Tree) where
  -- what putting the records of a run in, whose first key is this, says of the subtree at the root
  abbrev pub UnderRoot : Inserted → Type 0
  UnderRoot o =
      (is_root : Bool) (b : Bounds) (rs : List Record) (used : List ℕ) → b.high ≡ None → CanInsert told free size t.root t.height is_root b k rs used
      → DidPlace run told now_told free now t.root t.height is_root b rs used o

-- a run of one edit is due where the edit is
pub one_due : (b : Bool) {c : Bool} → (b && true) ≡ c → c ≡ b
one_due true e = sym e
one_due false e = sym e

-- a tree within its quota has few records
pub few_records : (size records : ℕ) (rs : List Record) → length rs ≡ records → records < quota size → size ≤ 30000 → AreFew rs
few_records size records rs is room most = below size (length rs) records is room most
  where
    below : (n l m : ℕ) → l ≡ m → m < quota n → n ≤ 30000 → l < 2322576
    below n l m e h most = omega arith

pub sound_root : (e : Stop) {told : Option (List (List ℕ))} {free : ℕ → Bool} {size : ℕ} {t : Tree} (k : Key) {rs : List Record}
    → IsInserting told free size t → t.height ≢ 0
    → ((is_root : Bool) (b : Bounds) (rs : List Record) (used : List ℕ) → b.high ≡ None → CanInsert told free size t.root t.height is_root b k rs used
    → AreFew rs → IsNotDamage e)
    → IsWhole told free size t rs → IsNotDamage e
sound_root e {told = told} {free = free} {size = size} {t = t} k {rs = rs} i ne f w =
    let x = insert_from told free size t rs i ne w in
    f true everywhere rs x.used refl (whole_can told free size t.root t.height k rs i.rooted.height x)
    (few_records size t.records rs w.number i.room i.most)

-- a subtree of the greatest height is not split within the quota: its two halves have more records
two_thirds : {p a b : ℕ} → p ≡ a + b → 1161288 ≤ a → 1161288 ≤ b → 2322576 ≤ p
two_thirds e f g = omega arith

too_many : (n p : ℕ) → 2322576 ≤ p → p ≤ quota n → n ≤ 30000 → ⊥
too_many n p e few most = omega arith

pub never_split : {pages news : List (List ℕ)} {free now : ℕ → Bool} {page height : ℕ} {b : Bounds} {used : List ℕ} {all : List Record} {key : Key}
    {right : ℕ} (size : ℕ) → height ≡ 3 → Separated pages news free now page height b used all key right → length all ≤ quota size → size ≤ 30000 → ⊥
never_split {news = news} {page = page} {b = b} {all = all} {key = key} {right = right} size tall s few most =
    let left = third_filled news (page, record { low = b.low; high = Some key }) s.first s.first_uses
    (subst (λ h. Subtree news h false (page, record { low = b.low; high = Some key }) s.first s.first_uses) tall s.is_left) in
    let last = third_filled news (right, record { low = Some key; high = b.high }) s.rest s.rest_uses
    (subst (λ h. Subtree news h false (right, record { low = Some key; high = b.high }) s.rest s.rest_uses) tall s.is_right) in
    too_many size (length all) (two_thirds (ap length s.records ∙ length-append s.first s.rest) left last) few most

module _ {told : Option (List (List ℕ))} {free : ℕ → Bool} {size : ℕ} (now : ℕ → Bool) (mid_size : ℕ) (t : Tree) (rs : List Record) where
  -- a page is left for a new root
  pub root_room : IsInserting told free size t → t.height ≢ 0 → mid_size ≡ size → count_free free size ≤ count_free now size + t.height
      → IsWhole told free size t rs → 0 < count_free now mid_size
  root_room i ne same few w =
      let x = insert_from told free size t rs i ne w in
      subst (λ n. 0 < count_free now n) (sym same) (left (count_free free size) (count_free now size) t.height few x.left i.rooted.height)
    where
      left : (c d h : ℕ) → c ≤ d + h → 6 ≤ c → h ≤ 3 → 0 < d
      left c d h e f g = omega arith

module _ {told : Option (List (List ℕ))} {free : ℕ → Bool} {size : ℕ} {t : Tree} {rs : List Record} (k : Key) (run : List Edit)
    (now_told : Option (List (List ℕ))) (now : ℕ → Bool) (i : IsInserting told free size t) (ne : t.height ≢ 0) (w : IsWhole told free size t rs) where
  -- what the call below the root says of the whole tree
  at_root : (o : Inserted) (x : IsWholeFrom told free size t.root t.height rs) → UnderRoot k run told now_told free now size t o
      → DidPlace run told now_told free now t.root t.height true everywhere rs x.used o
  at_root o x f = f true everywhere rs x.used refl (whole_can told free size t.root t.height k rs i.rooted.height x)

  pub not_due : UnderRoot k run told now_told free now size t inserted.There → are_due run rs ≡ false
  not_due f = (at_root inserted.There (insert_from told free size t rs i ne w) f).done

  pub whole_done : (records : ℕ) → length (edit_all run rs) ≡ records → UnderRoot k run told now_told free now size t inserted.Done
      → (are_due run rs ≡ true) × IsWhole now_told now size (record { root = t.root; height = t.height; records = records }) (edit_all run rs)
  whole_done records number f =
      let x = insert_from told free size t rs i ne w in
      let did = at_root inserted.Done x f in
      let grown = did.done.1 in
      (did.done.0, whole_again t.root did.is (some_height t.height ne) grown.subtree grown.moves x.apart x.balance number)

  -- a root of the greatest height is not split within the quota
  pub not_split : (key : Key) (right : ℕ) → t.height ≡ 3 → length (edit_all run rs) ≤ quota size
      → UnderRoot k run told now_told free now size t (inserted.Split key right) → ⊥
  not_split key right tall few f =
      let x = insert_from told free size t rs i ne w in
      never_split size tall (at_root (inserted.Split key right) x f).done.1 few i.most

-- a new root was written above the two pages that the root has become
pub record IsNewRoot (t : Tree) (mid_told now_told : Option (List (List ℕ))) (mid now : ℕ → Bool) (size : ℕ) (key : Key) (right new : ℕ)
    (bytes : List ℕ) : Type 0 where
  pub is_written : IsWritten bytes (record { height = t.height + 1; children = t.root ∷ right ∷ []; keys = key ∷ [] })
  pub right_in : (1 ≤ right) × (right < size)
  pub new_in : (1 ≤ new) × (new < size)
  pub was_free : mid new ≡ true
  pub taken : FreesOnly new false mid now
  pub wrote : Goes (λ old news. news ≡ slice_set old new bytes) mid_told now_told

two_pages : (n size a b : ℕ) → n ≡ size → (1 ≤ a) × (a < size) → (1 ≤ b) × (b < size) → are_pages n (a ∷ b ∷ []) ≡ true
two_pages n size a b e h g =
    and_from (nat_le 1 a && nat_lt a n) ((nat_le 1 b && nat_lt b n) && true) (one a h) (and_from (nat_le 1 b && nat_lt b n) true (one b g) refl)
  where
    test : (a n size : ℕ) → n ≡ size → 1 ≤ a → a < size → (nat_le 1 a && nat_lt a n) ≡ true
    test a n size e low high = grind (arith, nat_tests)

    one : (a : ℕ) → (1 ≤ a) × (a < size) → (nat_le 1 a && nat_lt a n) ≡ true
    one a h = test a n size e h.0 h.1

behind_all : (p new : ℕ) (used : List ℕ) → multiplicity p (used ++ new ∷ []) ≡ multiplicity p (new ∷ used)
behind_all p new used = turn (multiplicity p (used ++ new ∷ [])) (multiplicity p used) (multiplicity p (new ∷ [])) (multiplicity p (new ∷ used)) (times-append p used (new ∷ []))
    (times-append p (new ∷ []) used)
  where
    turn : (t u n s : ℕ) → t ≡ u + n → s ≡ n + u → t ≡ s
    turn t u n s e f = omega arith

-- the root and what it has become, once a root was written above it
pub record IsRegrown (pages : List (List ℕ)) (now_told : Option (List (List ℕ))) (free now : ℕ → Bool) (root height : ℕ) (used : List ℕ)
    (all : List Record) : Type 0 where
  pub news : List (List ℕ)
  pub is : now_told ≡ Some news
  pub uses : List ℕ
  pub subtree : Subtree news height true (root, everywhere) all uses
  pub moves : KeepsAccount pages news free now used uses

pub regrown_split : {told mid_told now_told : Option (List (List ℕ))} {pages mids : List (List ℕ)} {free mid now : ℕ → Bool} {size : ℕ} {t : Tree}
    {all : List Record} {used : List ℕ} {key : Key} {right new : ℕ} {bytes : List ℕ} {h : ℕ} → IsRooted size t → TellsAll told size → t.height ≡ suc h
    → told ≡ Some pages → mid_told ≡ Some mids → Separated pages mids free mid t.root t.height everywhere used all key right → AreApart free used
    → IsNewRoot t mid_told now_told mid now size key right new bytes → IsRegrown pages now_told free now new (t.height + 1) used all
regrown_split {told} {mid_told} {now_told} {pages} {mids} {free} {mid} {now} {size} {t} {all} {used} {key} {right} {new} {bytes} {h} rooted many tall was mid_is separated apart is =
    let some : 1 ≤ t.height = omega arith in
    let S = Subtree mids (suc h) false in
    let U = separated.rest_uses ++ separated.first_uses in
    let inner : Inner = record { height = t.height + 1; children = t.root ∷ right ∷ []; keys = key ∷ [] } in
    let taller : t.height + 1 ≡ suc (suc h) = omega arith in
    let left = subst (λ n. Subtree mids n false (t.root, record { low = None; high = Some key }) separated.first separated.first_uses) tall
    separated.is_left in
    let last = subst (λ n. Subtree mids n false (right, record { low = Some key; high = None }) separated.rest separated.rest_uses) tall
    separated.is_right in
    let row : Row S (bounded (t.root ∷ right ∷ []) (key ∷ []) everywhere) all U = record {
      first = separated.first;
      rest = separated.rest;
      first_used = separated.first_uses;
      rest_used = separated.rest_uses;
      here = left;
      after = row_one S (right, record { low = Some key; high = None }) separated.rest separated.rest_uses last;
      records = separated.records;
      is_used = refl;
    } in
    let told_long : length pages ≡ size = if_some_at (λ pages. length pages ≡ size) told pages many was in
    let long : length mids ≡ size = separated.moves.size ∙ told_long in
    let inside : new < length mids = subst (λ n. new < n) (sym long) is.new_in.1 in
    let root_in = rooted.tree some in
    let written = tells_at (λ old news. news ≡ slice_set old new bytes) mid_told now_told mids is.wrote mid_is in
    let apart_mid = apart_then pages mids free mid used U separated.moves apart in
    let taken = moves_order mids mids mid now U (new ∷ U) U (U ++ new ∷ []) (λ p. refl) (λ p. behind_all p new U)
    (moves_taken mids mid now U new is.was_free is.taken) in
    let apart_now = apart_then mids mids mid now U (U ++ new ∷ []) taken apart_mid in
    let news = slice_set mids new bytes in
    let grown : Becomes mids news now now new (suc (suc h)) true everywhere (U ++ new ∷ []) all = parent_written U inside
    (record {
      is = is.is_written (length mids) (two_pages (length mids) size t.root right long (root_in.0, root_in.1) is.right_in);
      is_height = taller;
      enough = refl;
      within = refl;
    }) apart_now row in
    record {
      news = news;
      is = written.1 ∙ ap Some written.2;
      uses = grown.uses;
      subtree = subst (λ n. Subtree news n true (new, everywhere) all grown.uses) (sym taller) grown.subtree;
      moves = moves_then
          (moves_then separated.moves taken) grown.moves;
    }

-- the first record of a tree
pub empty_room : (told : Option (List (List ℕ))) (free : ℕ → Bool) (size : ℕ) (t : Tree) (rs : List Record) → IsInserting told free size t
    → t.height ≡ 0 → IsWhole told free size t rs → 0 < count_free free size
unfolding walk_of
empty_room told free size t rs i none w =
    let h = subst (λ n. walk_of w.tree.pages t.root n ≡ Whole rs w.tree.visited) none w.tree.walk in
    let empty : w.tree.visited ≡ [] = cc in
    let one : 1 ≤ size = let l = i.least in omega arith in
    enough size (count_free free size) (length w.tree.visited) i.least (ap length empty) (count_left free w.tree.visited size one w.balance)
  where
    enough : (s c u : ℕ) → 16 ≤ s → u ≡ 0 → s ≤ c + u + 1 → 0 < c
    enough s c u e f g = omega arith

module _ {told mid_told now_told : Option (List (List ℕ))} {free mid now : ℕ → Bool} {size : ℕ} {t : Tree} {rs : List Record} {key : Key}
    {right new : ℕ} {bytes : List ℕ} (k : Key) (run : List Edit) where
  -- the whole tree once its root was split
  pub whole_split : IsInserting told free size t → t.height ≢ 0 → IsWhole told free size t rs
      → (records : ℕ) → length (edit_all run rs) ≡ records → UnderRoot k run told mid_told free mid size t (inserted.Split key right)
      → IsNewRoot t mid_told now_told mid now size key right new bytes
      → (are_due run rs ≡ true) × IsWhole now_told now size (record { root = new; height = t.height + 1; records = records }) (edit_all run rs)
  whole_split i ne w records number f is =
      let x = insert_from _ _ _ t _ i ne w in
      let did = at_root k run mid_told mid i ne w (inserted.Split key right) x f in
      let tall : t.height ≡ suc (t.height - 1) = omega arith in
      let grown = regrown_split i.rooted i.many tall did.was did.is did.done.1 x.apart is in
      let some_now : 1 ≤ t.height + 1 = omega arith in
      (did.done.0, whole_again new grown.is some_now grown.subtree grown.moves x.apart x.balance number)

module _ (r : Record) (told now_told : Option (List (List ℕ))) (free now : ℕ → Bool) (size : ℕ) (t : Tree) (rs : List Record) (new : ℕ)
    (bytes : List ℕ) (i : IsInserting told free size t) (w : IsWhole told free size t rs) where
  pub whole_first : t.height ≡ 0 → leaf_of bytes ≡ Some (r ∷ []) → (1 ≤ new) × (new < size) → free new ≡ true → FreesOnly new false free now
      → Goes (λ old news. news ≡ slice_set old new bytes) told now_told
      → (true ≡ not (list_any (has_key r.key) rs)) × IsWhole now_told now size (record { root = new; height = 1; records = 1 }) (put r rs)
  unfolding walk_of
  whole_first none leaf range was_free taken wrote =
      let h = subst (λ n. walk_of w.tree.pages t.root n ≡ Whole rs w.tree.visited) none w.tree.walk in
      let no_pages : w.tree.visited ≡ [] = cc in
      let no_rs : rs ≡ [] = no_records told t rs none w.tree in
      let pages = w.tree.pages in
      let written = tells_at (λ old news. news ≡ slice_set old new bytes) told now_told pages wrote w.tree.is_told in
      let news = slice_set pages new bytes in
      let inside = all_told told size new pages i.many w.tree.is_told range.1 in
      let balance : (p : ℕ) → 1 ≤ p → p < size → account free [] p ≡ 1 = λ p low high. subst (λ u. account free u p ≡ 1) no_pages (w.balance p low high) in
      let apart = at_most_one free [] size i.inside (λ p. nothing) balance in
      let one : 1 ≤ 1 = omega arith in
      let here : 1 ≤ multiplicity new (new ∷ []) = first (multiplicity new (new ∷ [])) (times_here new []) in
      let moves = moves_then (moves_taken pages free now [] new was_free taken)
      (moves_written pages now (new ∷ []) new bytes (used_account now (new ∷ []) new here)) in (
        sym (ap (λ l. not (list_any (has_key r.key) l)) no_rs),
        whole_again new (written.1 ∙ ap Some written.2) one
            (subst (λ l. Subtree news 1 true (new, everywhere) (put r l) (new ∷ [])) (sym no_rs)
            (record { page = ap leaf_of (get_or-set_same pages new bytes [] inside) ∙ leaf; enough = refl; within = refl; is_used = refl }))
            moves apart balance (ap (λ l. length (put r l)) no_rs),
      )
    where
      nothing : 0 ≤ 1
      nothing = omega arith

      first : (t : ℕ) → t ≡ 1 + 0 → 1 ≤ t
      first t e = omega arith
