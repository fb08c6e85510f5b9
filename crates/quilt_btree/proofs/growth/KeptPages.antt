-- A record put into, or taken out of, a tree none of whose pages is free.
use Rattle.std.proofs.Common.{◌≡◌, ◌≢◌, ℕ, suc, ◌+◌, ◌-◌, ◌<◌, ◌≤◌, Bool, true, false, cond, List, [], ◌∷◌, ◌++◌, length, Option, Some, Result, Ok, Err, IfOk}
use Rattle.std.proofs.Common.{IfErr, OnOk, slice_set, refl, sym, ◌∙◌, ap, subst, arith, get_or-set_same}
use Rattle.std.specs.List.{list_any}
use Rattle.std.proofs.lemmas.List.{append-nil}
use Rattle.quilt_types.specs.Facts.{quota}
use Rattle.quilt_types.specs.declared.stop.Stop.{Stop}
use Rattle.quilt_record.specs.declared.key.Key.{Key}
use Rattle.quilt_record.specs.declared.record.Record.{Record}
use Rattle.quilt_node.specs.Pages.{leaf_of}
use Rattle.quilt_node.specs.Tree.{Bounds, Whole}
use Rattle.quilt_store.specs.Store.{FreesOnly, count_free}
use Rattle.quilt_world.specs.Tale.{Goes}
use Rattle.quilt_btree.specs.declared.tree.Tree.{Tree}
use Rattle.quilt_btree.specs.declared.edit.Edit.TheVariants as edit
use Rattle.quilt_btree.specs.declared.outcomes.Inserted.TheVariants as inserted
use Rattle.quilt_btree.specs.declared.outcomes.Removed.TheVariants as removed
use Rattle.quilt_record.specs.Lists.{has_key, put, without}
use Rattle.quilt_store.specs.Stops.{IsNotDamage}
use Rattle.quilt_btree.specs.Subtree.{Subtree}
use Rattle.quilt_btree.specs.Trees.{IsRooted}
use Rattle.quilt_btree.specs.Edits.{multiplicity, account, KeepsAccount, Becomes, CanEdit, CanInsert, HasItsPages}
use Rattle.quilt_btree.specs.Inserts.{AreFew}
use Rattle.quilt_btree.specs.Rebalancing.{HasGiven}
use Rattle.quilt_btree.proofs.lists.Counts.{times_here}
use Rattle.quilt_btree.proofs.removals.LeafRemovals.{tells_on}
use Rattle.quilt_btree.proofs.stores.Moves.{AreApart, apart_then, moves_then, moves_taken, moves_written, used_account, used_not_free}
use Rattle.quilt_btree.proofs.removals.Underfulls.{page_used}
use Rattle.quilt_btree.proofs.subtrees.Trees.{subtree_rises}
use Rattle.quilt_btree.proofs.subtrees.Whole.{no_records}
use Rattle.quilt_btree.proofs.lists.Withouts.{without_missing, without_one_fewer, without_none}
use Rattle.quilt_btree.proofs.stores.Writes.{WritesPage, tells_at, TellsAll, all_told}
use Rattle.quilt_btree.proofs.growth.TreeGrowth.{everywhere, root_found, tree_again, length-put, never_split, UnderRoot, IsNewRoot, regrown_split, some_height}
use Rattle.quilt_btree.proofs.removals.TreeRemovals as removals

-- the tree as a subtree that can be edited
pub record AtRoot (told : Option (List (List ℕ))) (free : ℕ → Bool) (t : Tree) (rs : List Record) : Type 0 where
  pub used : List ℕ
  pub can : CanEdit told free t.root t.height true everywhere rs used

pub at_root : (told : Option (List (List ℕ))) (free : ℕ → Bool) (t : Tree) (rs : List Record) → t.height ≢ 0
    → HasItsPages told free t rs → AtRoot told free t rs
at_root told free t rs ne w =
    let found = root_found w.tree.pages t.root t.height rs w.tree.visited (some_height t.height ne) w.tree.walk in
    let same : w.tree.visited ≡ found.used = found.is_now ∙ append-nil found.used in
    record {
      used = found.used;
      can = record
          { pages = w.tree.pages; is_told = w.tree.is_told; subtree = found.spells; apart = λ p. subst (λ u. account free u p ≤ 1) same (w.apart p) };
    }

-- a subtree that has come of a tree by an edit is the tree
pub kept_again : {pages news : List (List ℕ)} {now_told : Option (List (List ℕ))} {free now : ℕ → Bool} (root height records : ℕ) {used uses : List ℕ}
    {all : List Record} → now_told ≡ Some news → 1 ≤ height → Subtree news height true (root, everywhere) all uses
    → KeepsAccount pages news free now used uses → AreApart free used
    → HasItsPages now_told now (record { root = root; height = height; records = records }) all
unfolding tree_again
kept_again {pages} {news} {now_told} {free} {now} root height records {used} {uses} {all} is some s m apart =
    let still = apart_then pages news free now used uses m apart in
    record {
      tree = tree_again news now_told now root height records uses all is some s still;
      apart = λ p. subst (λ u. account now u p ≤ 1) (sym (append-nil uses)) (still p);
    }

-- An insertion.
pub insert_can : (told : Option (List (List ℕ))) (free : ℕ → Bool) (size : ℕ) (t : Tree) (k : Key) (rs : List Record)
    → t.height < count_free free size → (a : AtRoot told free t rs) → CanInsert told free size t.root t.height true everywhere k rs a.used
insert_can told free size t k rs room a = record { can_edit = a.can; low = refl; high = refl; room = omega arith }

module _ (told : Option (List (List ℕ))) (free : ℕ → Bool) (t : Tree) (rs : List Record) where
  pub same_tree : (now_told : Option (List (List ℕ))) (now : ℕ → Bool) → now_told ≡ told → now ≡ free → HasItsPages told free t rs
      → HasItsPages now_told now t rs
  same_tree now_told now p q w = subst (λ o. HasItsPages o now t rs) (sym p) (subst (λ g. HasItsPages told g t rs) (sym q) w)

  pub sound_kept : (e : Stop) (size : ℕ) (k : Key) → t.height ≢ 0
      → ((is_root : Bool) (b : Bounds) (rs : List Record) (used : List ℕ) → CanInsert told free size t.root t.height is_root b k rs used → AreFew rs → IsNotDamage e)
      → AreFew rs → t.height < count_free free size → HasItsPages told free t rs → IsNotDamage e
  sound_kept e size k ne f few room w =
      let a = at_root told free t rs ne w in
      f true everywhere rs a.used (insert_can told free size t k rs room a) few

pub kept_split : (r : Record) {told : Option (List (List ℕ))} {mid_told now_told : Option (List (List ℕ))} {free : ℕ → Bool} {mid now : ℕ → Bool}
    {size : ℕ} {t : Tree} {rs : List Record} {key : Key} {right new : ℕ} {bytes : List ℕ} {h : ℕ} → IsRooted size t → TellsAll told size
    → t.height ≡ suc h → UnderRoot r.key (edit.Put r ∷ []) told mid_told free mid size t (inserted.Split key right)
    → IsNewRoot t mid_told now_told mid now size key right new bytes → t.height < count_free free size → HasItsPages told free t rs
    → HasItsPages now_told now (record { root = new; height = t.height + 1; records = t.records + 1 }) (put r rs)
kept_split r {told} {free} {size} {t} {rs} {new} {h} rooted many tall f is room w =
    let ne : t.height ≢ 0 = omega arith in
    let a = at_root told free t rs ne w in
    let did = f true everywhere rs a.used refl (insert_can told free size t r.key rs room a) in
    let grown = regrown_split rooted many tall did.was did.is did.done.1 a.can.apart is in
    let some : 1 ≤ t.height + 1 = omega arith in
    kept_again new (t.height + 1) (t.records + 1)
    grown.is some grown.subtree grown.moves a.can.apart

module _ (r : Record) (told now_told : Option (List (List ℕ))) (free now : ℕ → Bool) (size : ℕ) (t : Tree) (rs : List Record) where
  pub kept_done : t.height ≢ 0 → UnderRoot r.key (edit.Put r ∷ []) told now_told free now size t inserted.Done → t.height < count_free free size
      → HasItsPages told free t rs → HasItsPages now_told now (record { root = t.root; height = t.height; records = t.records + 1 }) (put r rs)
  kept_done ne f room w =
      let a = at_root told free t rs ne w in
      let did = f true everywhere rs a.used refl (insert_can told free size t r.key rs room a) in
      let grown = did.done.1 in
      kept_again t.root t.height (t.records + 1) did.is
      (some_height t.height ne) grown.subtree grown.moves a.can.apart

  pub kept_first : (new : ℕ) (bytes : List ℕ) → WritesPage told now_told size new bytes → t.height ≡ 0 → leaf_of bytes ≡ Some (r ∷ [])
      → free new ≡ true → FreesOnly new false free now → HasItsPages told free t rs
      → HasItsPages now_told now (record { root = new; height = 1; records = 1 }) (put r rs)
  kept_first new bytes one none leaf was_free taken w =
      let no_rs : rs ≡ [] = no_records told t rs none w.tree in
      let pages = w.tree.pages in
      let written = tells_at (λ old news. news ≡ slice_set old new bytes) told now_told pages one.wrote w.tree.is_told in
      let news = slice_set pages new bytes in
      let inside = all_told told size new pages one.many w.tree.is_told one.inside in
      let least : 1 ≤ 1 = omega arith in
      let here : 1 ≤ multiplicity new (new ∷ []) = first (multiplicity new (new ∷ [])) (times_here new []) in
      let moves = moves_then (moves_taken pages free now [] new was_free taken)
      (moves_written pages now (new ∷ []) new bytes (used_account now (new ∷ []) new here)) in
      kept_again new 1 1 (written.1 ∙ ap Some written.2) least
      (subst (λ l. Subtree news 1 true (new, everywhere) (put r l) (new ∷ [])) (sym no_rs)
      (record { page = ap leaf_of (get_or-set_same pages new bytes [] inside) ∙ leaf; enough = refl; within = refl; is_used = refl }))
      moves (λ p. none_used (free p))
    where
      none_used : (b : Bool) → cond {A = ℕ} b 1 0 + 0 ≤ 1
      none_used true = omega arith
      none_used false = omega arith

      first : (t : ℕ) → t ≡ 1 + 0 → 1 ≤ t
      first t e = omega arith

pub room_left : (free now : ℕ → Bool) (size mid_size height : ℕ) → mid_size ≡ size → count_free free size ≤ count_free now size + height
    → height < count_free free size → 0 < count_free now mid_size
room_left free now size mid_size height same few room =
    subst (λ n. 0 < count_free now n) (sym same) (left (count_free free size) (count_free now size) height few room)
  where
    left : (c d h : ℕ) → c ≤ d + h → h < c → 0 < d
    left c d h e f = omega arith

-- a root of the greatest height is not split within the quota
pub kept_low : (r : Record) {told : Option (List (List ℕ))} {now_told : Option (List (List ℕ))} {free : ℕ → Bool} {now : ℕ → Bool} {size : ℕ}
    {t : Tree} {rs : List Record} {key : Key} {right : ℕ} → t.records < quota size → size ≤ 30000 → t.height ≡ 3
    → UnderRoot r.key (edit.Put r ∷ []) told now_told free now size t (inserted.Split key right) → t.height < count_free free size → length rs ≡ t.records
    → HasItsPages told free t rs → ⊥
kept_low r {told} {free} {size} {t} {rs} {key} {right} few most tall f room number w =
    let ne : t.height ≢ 0 = omega arith in
    let a = at_root told free t rs ne w in
    let did = f true everywhere rs a.used refl (insert_can told free size t r.key rs room a) in
    never_split size tall did.done.1 (more (length (put r rs)) (length rs) t.records (quota size) (length-put r rs) number few) most
  where
    more : (a b n q : ℕ) → a ≡ suc b → b ≡ n → n < q → a ≤ q
    more a b n q e f g = omega arith

pub out_none : (k : Key) (told : Option (List (List ℕ))) (free : ℕ → Bool) (t : Tree) (rs : List Record) → t.height ≡ 0 → HasItsPages told free t rs
    → HasItsPages told free t (without k rs)
out_none k told free t rs e w =
    let none = no_records told t rs e w.tree in
    subst (λ l. HasItsPages told free t l) (none ∙ sym (without_none k) ∙ ap (without k) (sym none)) w

module _ (k : Key) (told now_told : Option (List (List ℕ))) (free now : ℕ → Bool) (t : Tree) (rs : List Record) where
  pub out_missing : t.height ≢ 0 → removals.UnderRoot k told now_told free now t removed.Missing → now_told ≡ told → now ≡ free
      → HasItsPages told free t rs → HasItsPages now_told now t (without k rs)
  out_missing ne f same same_free w =
      let a = at_root told free t rs ne w in
      let none = f true everywhere rs a.used a.can in
      subst (λ l. HasItsPages now_told now t l) (sym (without_missing k rs none)) (same_tree told free t rs now_told now same same_free w)

  became : (a : AtRoot told free t rs) (pages news : List (List ℕ)) → t.height ≢ 0 → now_told ≡ Some news
      → Becomes pages news free now t.root t.height true everywhere a.used (without k rs)
      → HasItsPages now_told now (record { root = t.root; height = t.height; records = t.records - 1 }) (without k rs)
  became a pages news ne is b =
      kept_again t.root t.height (t.records - 1) is
      (some_height t.height ne) b.subtree b.moves a.can.apart

  pub out_done : t.height ≢ 0 → removals.UnderRoot k told now_told free now t removed.Done → HasItsPages told free t rs
      → HasItsPages now_told now (record { root = t.root; height = t.height; records = t.records - 1 }) (without k rs)
  out_done ne f w =
      let a = at_root told free t rs ne w in
      let did = f true everywhere rs a.used a.can in
      became a did.1.pages did.1.news ne did.1.is did.1.left

  pub out_underfull : t.height ≢ 0 → removals.UnderRoot k told now_told free now t removed.Underfull → HasItsPages told free t rs
      → HasItsPages now_told now (record { root = t.root; height = t.height; records = t.records - 1 }) (without k rs)
  out_underfull ne f w =
      let a = at_root told free t rs ne w in
      let did = f true everywhere rs a.used a.can in
      let left = did.1.left in
      became a did.1.pages did.1.news ne did.1.is left.1

module _ (k : Key) (told mid now_told : Option (List (List ℕ))) (free between now : ℕ → Bool) where
  pub out_emptied : (t : Tree) (rs : List Record) → t.height ≢ 0 → removals.UnderRoot k told mid free between t removed.Emptied
      → Goes (HasGiven t.root) mid now_told → HasItsPages told free t rs
      → HasItsPages now_told now (record { root = 0; height = 0; records = t.records - 1 }) (without k rs)
  out_emptied t rs ne f tells w =
      let a = at_root told free t rs ne w in
      let did = f true everywhere rs a.used a.can in
      let left = did.1.left in
      let on = tells_on (HasGiven t.root) mid now_told did.1.news did.1.is tells in
      record {
        tree = record { pages = on.0; is_told = on.1; visited = []; walk = removals.empty_walk on.0 ∙ ap (λ l. Whole l []) (sym left.none) };
        apart = λ p. none_used (now p);
      }
    where
      none_used : (b : Bool) → cond {A = ℕ} b 1 0 + 0 ≤ 1
      none_used true = omega arith
      none_used false = omega arith

  pub out_only : (child : ℕ) (t : Tree) (rs : List Record) → t.height ≢ 0 → removals.UnderRoot k told mid free between t (removed.Only child)
      → Goes (HasGiven t.root) mid now_told → FreesOnly t.root true between now → HasItsPages told free t rs
      → HasItsPages now_told now (record { root = child; height = t.height - 1; records = t.records - 1 }) (without k rs)
  out_only child t rs ne f tells frees w =
      let a = at_root told free t rs ne w in
      let did = f true everywhere rs a.used a.can in
      let only = did.1.left.1 in
      let grown =
      removals.regrown_only told now_told t did.1.is only a.can.apart tells
      frees in
      kept_again child (t.height - 1) (t.records - 1) grown.is
      (removals.tall_above did.1.news t.height child (without k rs) only.below only.uses only.is_height only.subtree) grown.subtree grown.moves a.can.apart

module _ (told : Option (List (List ℕ))) (free : ℕ → Bool) (t : Tree) where
  -- A removal.
  pub sound_out : (e : Stop) (rs : List Record) → t.height ≢ 0
      → ((is_root : Bool) (b : Bounds) (rs : List Record) (used : List ℕ) → CanEdit told free t.root t.height is_root b rs used → IsNotDamage e)
      → HasItsPages told free t rs → IsNotDamage e
  sound_out e rs ne f w = let a = at_root told free t rs ne w in f true everywhere rs a.used a.can

  pub out_shrunk : (r : Result Bool Stop) (k : Key) (now_told : Option (List (List ℕ))) (now : ℕ → Bool) (new less : Tree) → OnOk r (new ≡ less)
      → ((rs : List Record) → HasItsPages told free t rs → HasItsPages now_told now less (without k rs))
      → IfOk r (λ o. (rs : List Record) → HasItsPages told free t rs → HasItsPages now_told now new (without k rs))
  out_shrunk (Err e) k now_told now new less is f = is
  out_shrunk (Ok o) k now_told now new less is f = λ rs w. subst (λ x. HasItsPages now_told now x (without k rs)) (sym is) (f rs w)

-- the numbers fit together after a removal, where they did before
exact : (told : Option (List (List ℕ))) (free : ℕ → Bool) (t : Tree) (rs : List Record) (k : Key) → AtRoot told free t rs → length rs ≡ t.records
    → list_any (has_key k) rs ≡ true → suc (length (without k rs)) ≡ t.records
exact told free t rs k a number h =
    let rises = subtree_rises a.can.pages t.height true (t.root, everywhere) rs a.used a.can.subtree in
    without_one_fewer k rs rises.ascends h ∙ number

module _ (k : Key) (told now_told : Option (List (List ℕ))) (free now : ℕ → Bool) where
  pub two_done : (t : Tree) (rs : List Record) → t.height ≢ 0 → removals.UnderRoot k told now_told free now t removed.Done → length rs ≡ t.records
      → HasItsPages told free t rs → 2 ≤ t.records
  two_done t rs ne f number w =
      let a = at_root told free t rs ne w in
      let did = f true everywhere rs a.used a.can in
      removals.two_left did.1.news t.height true (t.root, everywhere) (without k rs) did.1.left.uses did.1.left.subtree
      (exact told free t rs k a number did.0)

  pub two_underfull : (t : Tree) (rs : List Record) → t.height ≢ 0 → removals.UnderRoot k told now_told free now t removed.Underfull
      → length rs ≡ t.records → HasItsPages told free t rs → 2 ≤ t.records
  two_underfull t rs ne f number w =
      let a = at_root told free t rs ne w in
      let did = f true everywhere rs a.used a.can in
      let left = did.1.left in
      removals.two_left did.1.news t.height true (t.root, everywhere) (without k rs) left.1.uses left.1.subtree
      (exact told free t rs k a number did.0)

  pub one_empty : (t : Tree) (rs : List Record) → t.height ≢ 0 → removals.UnderRoot k told now_told free now t removed.Emptied → length rs ≡ t.records
      → HasItsPages told free t rs → (now t.root ≡ false) × (t.records ≡ 1)
  one_empty t rs ne f number w =
      let a = at_root told free t rs ne w in
      let did = f true everywhere rs a.used a.can in
      let left = did.1.left in (
        ap (λ g. g t.root) left.frees
            ∙ used_not_free free a.used t.root a.can.apart (page_used a.can.pages t.height true (t.root, everywhere) rs a.used a.can.subtree),
        sym (exact told free t rs k a number did.0) ∙ ap (λ l. suc (length l)) left.none,
      )

  pub two_only : (child : ℕ) (t : Tree) (rs : List Record) → t.height ≢ 0 → removals.UnderRoot k told now_told free now t (removed.Only child)
      → length rs ≡ t.records → HasItsPages told free t rs → (now t.root ≡ false) × (2 ≤ t.records) × (1 ≤ t.height - 1)
  two_only child t rs ne f number w =
      let a = at_root told free t rs ne w in
      let did = f true everywhere rs a.used a.can in
      let only = did.1.left.1 in
      let apart = apart_then did.1.pages did.1.news free now a.used (only.uses ++ t.root ∷ []) only.moves a.can.apart in (
        used_not_free now (only.uses ++ t.root ∷ []) t.root apart
            (some (multiplicity t.root (only.uses ++ t.root ∷ [])) (multiplicity t.root only.uses) (removals.last_used t.root only.uses)),
        removals.two_left did.1.news only.below false (child, everywhere) (without k rs) only.uses only.subtree
            (exact told free t rs k a number did.0),
        removals.tall_above did.1.news t.height child (without k rs) only.below only.uses only.is_height only.subtree,
      )
    where
      some : (n m : ℕ) → n ≡ suc m → 1 ≤ n
      some n m e = omega arith

pub out_sound : (r : Result Bool Stop) (told : Option (List (List ℕ))) (free : ℕ → Bool) (t : Tree) (A B : Type 0) → IfErr r (λ e. A → B → IsNotDamage e)
    → ((rs : List Record) → HasItsPages told free t rs → length rs ≡ t.records → A × B)
    → IfErr r (λ e. (rs : List Record) → HasItsPages told free t rs → length rs ≡ t.records → IsNotDamage e)
out_sound (Ok o) told free t A B s f = s
out_sound (Err e) told free t A B s f = λ rs w n. let d = f rs w n in s d.0 d.1
