-- A record taken out of the whole tree.
use Rattle.std.proofs.Common.{◌≡◌, ◌≢◌, ℕ, suc, ◌-◌, ◌<◌, ◌≤◌, Bool, true, false, List, [], ◌∷◌, ◌++◌, length, Option, Some, Result, Ok, Err, IfOk, IfErr, OnOk}
use Rattle.std.proofs.Common.{refl, sym, ◌∙◌, ap, subst, arith}
use Rattle.std.specs.List.{list_any}
use Rattle.quilt_types.specs.declared.stop.Stop.{Stop}
use Rattle.quilt_record.specs.declared.key.Key.{Key}
use Rattle.quilt_record.specs.declared.record.Record.{Record}
use Rattle.quilt_node.specs.Tree.{Bounds, Whole, walk_of}
use Rattle.quilt_store.specs.Store.{FreesOnly}
use Rattle.quilt_world.specs.Tale.{Goes}
use Rattle.quilt_btree.specs.declared.tree.Tree.{Tree}
use Rattle.quilt_btree.specs.declared.outcomes.Removed.{Removed}
use Rattle.quilt_btree.specs.declared.outcomes.Removed.TheVariants as removed
use Rattle.quilt_record.specs.Lists.{has_key, without}
use Rattle.quilt_store.specs.Stops.{IsNotDamage}
use Rattle.quilt_btree.specs.Subtree.{Subtree}
use Rattle.quilt_btree.specs.Trees.{IsRooted}
use Rattle.quilt_btree.specs.Edits.{multiplicity, account, Becomes, OnlyChild, CanEdit, DidRemove, IsWhole}
use Rattle.quilt_btree.specs.Rebalancing.{HasGiven}
use Rattle.quilt_btree.proofs.lists.Counts.{times-append, times_here, in_times, some_not_none}
use Rattle.quilt_btree.proofs.stores.Moves.{AreApart, moves_then, moves_given, moves_order, apart_then, used_not_free}
use Rattle.quilt_btree.proofs.lists.Rows.{SameOn, subtree_stays}
use Rattle.quilt_btree.proofs.subtrees.Trees.{subtree_rises}
use Rattle.quilt_btree.proofs.subtrees.Whole.{no_records}
use Rattle.quilt_btree.proofs.removals.LeafRemovals.{tells_on}
use Rattle.quilt_btree.proofs.subtrees.Holdings.{subtree_some}
use Rattle.quilt_btree.proofs.removals.Underfulls.{any_root, page_used}
use Rattle.quilt_btree.proofs.growth.TreeGrowth.{everywhere, FreeIn, IsRegrown, whole_from, whole_again, some_height}
use Rattle.quilt_btree.proofs.lists.Withouts.{without_missing, without_one_fewer, without_none}

-- the tree and the store of a removal
pub record IsRemoving (free : ℕ → Bool) (size : ℕ) (t : Tree) : Type 0 where
  pub rooted : IsRooted size t
  pub least : 16 ≤ size
  pub inside : FreeIn free size
  pub above : t.height ≢ 0

-- what a removal below the root says
abbrev pub UnderRoot : Key → (told now_told : Option (List (List ℕ))) (free now : ℕ → Bool) → Tree → Removed → Type 0
UnderRoot k told now_told free now t o =
    (is_root : Bool) (b : Bounds) (rs : List Record) (used : List ℕ) → CanEdit told free t.root t.height is_root b rs used
    → DidRemove k told now_told free now t.root t.height is_root b rs used o

-- the tree as a subtree that can be edited
pub record AtRoot (told : Option (List (List ℕ))) (free : ℕ → Bool) (size : ℕ) (t : Tree) (rs : List Record) : Type 0 where
  pub used : List ℕ
  pub can : CanEdit told free t.root t.height true everywhere rs used
  pub balance : (p : ℕ) → 1 ≤ p → p < size → account free used p ≡ 1
  pub fewer : (k : Key) → list_any (has_key k) rs ≡ true → length (without k rs) ≡ t.records - 1
  pub exact : (k : Key) → list_any (has_key k) rs ≡ true → suc (length (without k rs)) ≡ t.records

pub at_root : (told : Option (List (List ℕ))) (free : ℕ → Bool) (size : ℕ) (t : Tree) (rs : List Record) → IsRemoving free size t
    → IsWhole told free size t rs → AtRoot told free size t rs
at_root told free size t rs i w =
    let x = whole_from told free size t rs i.rooted (some_height t.height i.above) i.least i.inside w in
    let rises = subtree_rises x.pages t.height true (t.root, everywhere) rs x.used x.subtree in
    record {
      used = x.used;
      can = record { pages = x.pages; is_told = x.is_told; subtree = x.subtree; apart = x.apart };
      balance = x.balance;
      fewer = λ k h. less (length (without k rs)) (length rs) t.records (without_one_fewer k rs rises.ascends h) w.number;
      exact = λ k h. without_one_fewer k rs rises.ascends h ∙ w.number;
    }
  where
    less : (a l n : ℕ) → suc a ≡ l → l ≡ n → a ≡ n - 1
    less a l n e f = omega arith

module _ (k : Key) (told now_told : Option (List (List ℕ))) (free now : ℕ → Bool) (size : ℕ) (t : Tree) (rs : List Record) where
  pub whole_missing : IsRemoving free size t → UnderRoot k told now_told free now t removed.Missing → now_told ≡ told → now ≡ free
      → IsWhole told free size t rs → (false ≡ list_any (has_key k) rs) × IsWhole now_told now size t (without k rs)
  whole_missing i f same same_free w =
      let a = at_root told free size t rs i w in
      let none = f true everywhere rs a.used a.can in (
        sym none,
        subst (λ l. IsWhole now_told now size t l) (sym (without_missing k rs none))
            (subst (λ o. IsWhole o now size t rs) (sym same) (subst (λ g. IsWhole told g size t rs) (sym same_free) w)),
      )

  -- the root is as it was, or has one record or child fewer
  root_became : (a : AtRoot told free size t rs) (pages news : List (List ℕ)) → t.height ≢ 0 → list_any (has_key k) rs ≡ true → now_told ≡ Some news
      → Becomes pages news free now t.root t.height true everywhere a.used (without k rs)
      → (true ≡ list_any (has_key k) rs) × IsWhole now_told now size (record { root = t.root; height = t.height; records = t.records - 1 })
      (without k rs)
  root_became a pages news ne had is becomes = (
    sym had,
    whole_again t.root is
        (some_height t.height ne) becomes.subtree becomes.moves a.can.apart a.balance (a.fewer k had),
  )

  pub whole_done : IsRemoving free size t → UnderRoot k told now_told free now t removed.Done → IsWhole told free size t rs
      → (true ≡ list_any (has_key k) rs) × IsWhole now_told now size (record { root = t.root; height = t.height; records = t.records - 1 })
      (without k rs)
  whole_done i f w =
      let a = at_root told free size t rs i w in
      let did = f true everywhere rs a.used a.can in
      root_became a did.1.pages did.1.news i.above did.0 did.1.is did.1.left

  pub whole_underfull : IsRemoving free size t → UnderRoot k told now_told free now t removed.Underfull → IsWhole told free size t rs
      → (true ≡ list_any (has_key k) rs) × IsWhole now_told now size (record { root = t.root; height = t.height; records = t.records - 1 })
      (without k rs)
  whole_underfull i f w =
      let a = at_root told free size t rs i w in
      let did = f true everywhere rs a.used a.can in
      let left = did.1.left in
      root_became a did.1.pages did.1.news i.above did.0 did.1.is left.1

-- a record is left
pub two_left : (news : List (List ℕ)) (height : ℕ) (r : Bool) (at : ℕ × Bounds) (rs : List Record) (used : List ℕ) {n : ℕ}
    → Subtree news height r at rs used → suc (length rs) ≡ n → 2 ≤ n
two_left news height r at rs used {n} s e = let some = subtree_some news height r at rs used s in many (length rs) (length some.more) n (ap length some.is) e
  where
    many : (a m n : ℕ) → a ≡ suc m → suc a ≡ n → 2 ≤ n
    many a m n e f = omega arith

module _ (k : Key) (told now_told : Option (List (List ℕ))) (free now : ℕ → Bool) (size : ℕ) (t : Tree) (rs : List Record)
    (i : IsRemoving free size t) where
  pub many_done : UnderRoot k told now_told free now t removed.Done → IsWhole told free size t rs → 2 ≤ t.records
  many_done f w =
      let a = at_root told free size t rs i w in
      let did = f true everywhere rs a.used a.can in
      two_left did.1.news t.height true (t.root, everywhere) (without k rs) did.1.left.uses did.1.left.subtree (a.exact k did.0)

  pub many_underfull : UnderRoot k told now_told free now t removed.Underfull → IsWhole told free size t rs → 2 ≤ t.records
  many_underfull f w =
      let a = at_root told free size t rs i w in
      let did = f true everywhere rs a.used a.can in
      let left = did.1.left in
      two_left did.1.news t.height true (t.root, everywhere) (without k rs) left.1.uses left.1.subtree (a.exact k did.0)

  -- the root's one record was taken out
  pub one_emptied : UnderRoot k told now_told free now t removed.Emptied → IsWhole told free size t rs → (now t.root ≡ false) × (t.records ≡ 1)
  one_emptied f w =
      let a = at_root told free size t rs i w in
      let did = f true everywhere rs a.used a.can in
      let left = did.1.left in (
        ap (λ g. g t.root) left.frees
            ∙ used_not_free free a.used t.root a.can.apart (page_used a.can.pages t.height true (t.root, everywhere) rs a.used a.can.subtree),
        sym (a.exact k did.0) ∙ ap (λ l. suc (length l)) left.none,
      )

pub empty_walk : (pages : List (List ℕ)) → walk_of pages 0 0 ≡ Whole [] []
unfolding walk_of
empty_walk pages = refl

-- the root had one child left
pub last_used : (p : ℕ) (uses : List ℕ) → multiplicity p (uses ++ p ∷ []) ≡ suc (multiplicity p uses)
last_used p uses = let e = times-append p uses (p ∷ []) in let f = times_here p [] in omega arith

no_subtree : (pages : List (List ℕ)) (height : ℕ) (r : Bool) (at : ℕ × Bounds) (rs : List Record) (used : List ℕ) → height ≡ 0
    → Subtree pages height r at rs used → ⊥
no_subtree pages height r at rs used e s = subst (λ h. Subtree pages h r at rs used) e s

given_same : (pages news : List (List ℕ)) (page : ℕ) (uses : List ℕ) → HasGiven page pages news → multiplicity page uses ≡ 0 → SameOn pages news uses
given_same pages news page uses given none p inside =
    given.others p (λ e. some_not_none (multiplicity page uses) (subst (λ q. 1 ≤ multiplicity q uses) e (in_times p uses inside)) none)

-- the one child that the root had is the root
pub tall_above : (news : List (List ℕ)) (height child : ℕ) (rs : List Record) (below : ℕ) (uses : List ℕ) → height ≡ suc below
    → Subtree news below false (child, everywhere) rs uses → 1 ≤ height - 1
tall_above news height child rs below uses e s =
    some_height (height - 1) (λ z. no_subtree news below false (child, everywhere) rs uses (down height below e z) s)
  where
    down : (h below : ℕ) → h ≡ suc below → h - 1 ≡ 0 → below ≡ 0
    down h below e f = omega arith

pub regrown_only : (told : Option (List (List ℕ))) {mid : Option (List (List ℕ))} (now_told : Option (List (List ℕ))) {pages mids : List (List ℕ)}
    {free between now : ℕ → Bool} (t : Tree) {all : List Record} {used : List ℕ} {child : ℕ} → mid ≡ Some mids
    → OnlyChild pages mids free between t.root t.height everywhere used all child → AreApart free used → Goes (HasGiven t.root) mid now_told
    → FreesOnly t.root true between now → IsRegrown pages now_told free now child (t.height - 1) used all
regrown_only told {mid = mid} now_told {pages = pages} {mids = mids} {free = free} {between = between} {now = now} t {all = all} {used = used} {child = child} mid_is only apart_used tells frees =
    let on = tells_on (HasGiven t.root) mid now_told mids mid_is tells in
    let apart = apart_then pages mids free between used (only.uses ++ t.root ∷ []) only.moves apart_used in
    let is_used = used_not_free between (only.uses ++ t.root ∷ []) t.root apart
    (some (multiplicity t.root (only.uses ++ t.root ∷ [])) (multiplicity t.root only.uses) (last_used t.root only.uses)) in
    let none : multiplicity t.root only.uses ≡ 0 = nothing between (only.uses ++ t.root ∷ []) (multiplicity t.root only.uses) (last_used t.root only.uses) (apart t.root) in
    let given = moves_order mids on.0 between now (t.root ∷ only.uses) only.uses (only.uses ++ t.root ∷ []) only.uses (λ p. turned p only.uses)
    (λ p. refl)
    (moves_given mids on.0 between now only.uses t.root on.2.size on.2.others is_used frees) in
    let s =
    subtree_stays mids on.0 on.2.size only.below false (child, everywhere) all only.uses (given_same mids on.0 t.root only.uses on.2 none)
    only.subtree in
    let height : only.below ≡ t.height - 1 = down t.height only.below only.is_height in
    record {
      news = on.0;
      is = on.1;
      uses = only.uses;
      subtree = subst (λ h. Subtree on.0 h true (child, everywhere) all only.uses) height
          (any_root on.0 only.below true (child, everywhere) all only.uses s);
      moves = moves_then only.moves given;
    }
  where
    some : (n m : ℕ) → n ≡ suc m → 1 ≤ n
    some n m e = omega arith

    nothing : (g : ℕ → Bool) (used : List ℕ) (n : ℕ) → multiplicity t.root used ≡ suc n → account g used t.root ≤ 1 → n ≡ 0
    nothing g used n e h = omega arith

    turned : (p : ℕ) (uses : List ℕ) → multiplicity p (uses ++ t.root ∷ []) ≡ multiplicity p (t.root ∷ uses)
    turned p uses = let e = times-append p uses (t.root ∷ []) in let d = times-append p (t.root ∷ []) uses in omega arith

    down : (h below : ℕ) → h ≡ suc below → below ≡ h - 1
    down h below e = omega arith

module _ (k : Key) (told mid now_told : Option (List (List ℕ))) (free between now : ℕ → Bool) (size : ℕ) where
  pub whole_emptied : (t : Tree) (rs : List Record) → IsRemoving free size t → UnderRoot k told mid free between t removed.Emptied
      → Goes (HasGiven t.root) mid now_told → FreesOnly t.root true between now → IsWhole told free size t rs
      → (true ≡ list_any (has_key k) rs) × IsWhole now_told now size (record { root = 0; height = 0; records = t.records - 1 }) (without k rs)
  whole_emptied t rs i f tells frees w =
      let a = at_root told free size t rs i w in
      let did = f true everywhere rs a.used a.can in
      let left = did.1.left in
      let one = one_emptied k told mid free between size t rs i f w in
      let on = tells_on (HasGiven t.root) mid now_told did.1.news did.1.is tells in
      let moves = moves_given did.1.news on.0 between now [] t.root on.2.size on.2.others one.0 frees in (
        sym did.0,
        record {
          tree = record { pages = on.0; is_told = on.1; visited = []; walk = empty_walk on.0 ∙ ap (λ l. Whole l []) (sym left.none) };
          number = a.fewer k did.0;
          balance = λ p low high. moves.balance p ∙ ap (λ g. account g (t.root ∷ []) p) left.frees ∙ ap (λ u. account free u p) (sym left.is_used)
              ∙ a.balance p low high;
        },
      )

  pub whole_only : (child : ℕ) (t : Tree) (rs : List Record) → IsRemoving free size t → UnderRoot k told mid free between t (removed.Only child)
      → Goes (HasGiven t.root) mid now_told → FreesOnly t.root true between now → IsWhole told free size t rs
      → (true ≡ list_any (has_key k) rs) × IsWhole now_told now size (record { root = child; height = t.height - 1; records = t.records - 1 })
      (without k rs)
  whole_only child t rs i f tells frees w =
      let a = at_root told free size t rs i w in
      let did = f true everywhere rs a.used a.can in
      let only = did.1.left.1 in
      let grown = regrown_only told now_told t did.1.is only a.can.apart tells
      frees in (
        sym did.0,
        whole_again child grown.is
            (tall_above did.1.news t.height child (without k rs) only.below only.uses only.is_height only.subtree)
            grown.subtree grown.moves a.can.apart a.balance (a.fewer k did.0),
      )

module _ (k : Key) (told : Option (List (List ℕ))) (free : ℕ → Bool) (size : ℕ) (t : Tree) where
  -- no tree
  pub whole_none : (rs : List Record) → t.height ≡ 0 → IsWhole told free size t rs
      → (false ≡ list_any (has_key k) rs) × IsWhole told free size t (without k rs)
  whole_none rs e w =
      let none = no_records told t rs e w.tree in
      (sym (ap (list_any (has_key k)) none), subst (λ l. IsWhole told free size t l) (none ∙ sym (without_none k) ∙ ap (without k) (sym none)) w)

  -- the tree with one record fewer
  pub shrunk : (r : Result Bool Stop) (now_told : Option (List (List ℕ))) (now : ℕ → Bool) (new less : Tree) → OnOk r (new ≡ less)
      → IfOk r (λ o. o ≡ true)
      → ((rs : List Record) → IsWhole told free size t rs → (true ≡ list_any (has_key k) rs) × IsWhole now_told now size less (without k rs))
      → IfOk r (λ o. (rs : List Record) → IsWhole told free size t rs → (o ≡ list_any (has_key k) rs) × IsWhole now_told now size new (without k rs))
  shrunk (Err e) now_told now new less is out f = out
  shrunk (Ok o) now_told now new less is out f = λ rs w.
      let d = f rs w in (out ∙ d.0, subst (λ x. IsWhole now_told now size x (without k rs)) (sym is) d.1)

module _ (told : Option (List (List ℕ))) (free : ℕ → Bool) (size : ℕ) (t : Tree) where
  pub sound_root : (e : Stop) (rs : List Record) → IsRemoving free size t
      → ((is_root : Bool) (b : Bounds) (rs : List Record) (used : List ℕ) → CanEdit told free t.root t.height is_root b rs used → IsNotDamage e)
      → IsWhole told free size t rs → IsNotDamage e
  sound_root e rs i f w = let a = at_root told free size t rs i w in f true everywhere rs a.used a.can

  pub one_only : (k : Key) (now_told : Option (List (List ℕ))) (now : ℕ → Bool) (child : ℕ) (rs : List Record) → IsRemoving free size t
      → UnderRoot k told now_told free now t (removed.Only child) → IsWhole told free size t rs
      → (now t.root ≡ false) × (2 ≤ t.records) × (t.height - 1 ≢ 0)
  one_only k now_told now child rs i f w =
      let a = at_root told free size t rs i w in
      let did = f true everywhere rs a.used a.can in
      let only = did.1.left.1 in
      let apart = apart_then did.1.pages did.1.news free now a.used (only.uses ++ t.root ∷ []) only.moves a.can.apart in (
        used_not_free now (only.uses ++ t.root ∷ []) t.root apart
            (some (multiplicity t.root (only.uses ++ t.root ∷ [])) (multiplicity t.root only.uses) (last_used t.root only.uses)),
        two_left did.1.news only.below false (child, everywhere) (without k rs) only.uses only.subtree (a.exact k did.0),
        λ e. no_subtree did.1.news only.below false (child, everywhere) (without k rs) only.uses (down t.height only.below only.is_height e)
            only.subtree,
      )
    where
      some : (n m : ℕ) → n ≡ suc m → 1 ≤ n
      some n m e = omega arith

      down : (h below : ℕ) → h ≡ suc below → h - 1 ≡ 0 → below ≡ 0
      down h below e f = omega arith

  pub shrunk_sound : (r : Result Bool Stop) (A B : Type 0) → IfErr r (λ e. A → B → IsNotDamage e)
      → ((rs : List Record) → IsWhole told free size t rs → A × B) → IfErr r (λ e. (rs : List Record) → IsWhole told free size t rs → IsNotDamage e)
  shrunk_sound (Ok o) A B s f = s
  shrunk_sound (Err e) A B s f = λ rs w. let d = f rs w in s d.0 d.1
