-- A run of records put in together below an inner page.
use Rattle.std.proofs.Common.{◌≡◌, ◌≢◌, ℕ, suc, ◌+◌, ◌-◌, ◌<◌, ◌≤◌, Bool, true, false, ◌&&◌, ◌||◌, nat_le, List, [], ◌∷◌, ◌++◌, length, take, drop, Option}
use Rattle.std.proofs.lemmas.Bool.{and_from}
use Rattle.std.proofs.Common.{Some, Result, Ok, Err, IfErr, slice_index, refl, sym, ◌∙◌, ap, subst, arith, length-append}
use Rattle.std.specs.Prelude.{nat_lt, slice_get}
use Rattle.std.specs.List.{insert, list_all}
use Rattle.std.specs.Option.{option_or}
use Rattle.std.specs.Ordering.{is_le}
use Rattle.std.proofs.lemmas.Bool.Decides.{nat_tests}
use Rattle.std.proofs.lemmas.List.Edits.{length-insert}
use Rattle.quilt_record.specs.declared.key.Key.{Key}
use Rattle.quilt_record.specs.declared.record.Record.{Record}
use Rattle.quilt_record.specs.Records.{key_cmp}
use Rattle.quilt_types.specs.declared.stop.Stop.{Stop}
use Rattle.quilt_node.specs.Pages.{Inner, inner_of}
use Rattle.quilt_node.specs.Nodes.{are_pages}
use Rattle.quilt_node.specs.Edits.{with_child}
use Rattle.quilt_node.specs.Tree.{Bounds, bounded, is_below}
use Rattle.quilt_node.proofs.Ascending.{all_take, all_drop}
use Rattle.quilt_store.specs.declared.store.PageStore.{Ghosts}
use Rattle.quilt_store.specs.Calls.{OnlyReads}
use Rattle.quilt_store.specs.Store.{count_free}
use Rattle.quilt_store.specs.Stops.{IsNotDamage}
use Rattle.quilt_btree.specs.declared.edit.Edit.{Edit}
use Rattle.quilt_btree.specs.Batches.{edit_keys, edit_all, are_due}
use Rattle.quilt_btree.specs.Placing.{HasPlaced, DidPlace}
use Rattle.quilt_btree.specs.Subtree.{Row, Subtree}
use Rattle.quilt_btree.specs.Searches.{IsHigh, IsPath}
use Rattle.quilt_btree.specs.Trees.{ReadsInner}
use Rattle.quilt_btree.specs.Edits.{KeepsAccount, CanInsert}
use Rattle.quilt_btree.specs.Inserts.{HasPut, IsPending, DidPut, AreFew}
use Rattle.quilt_btree.specs.declared.outcomes.Inserted.{Inserted}
use Rattle.quilt_btree.specs.declared.outcomes.Inserted.TheVariants as inserted
use Rattle.quilt_btree.proofs.growth.Below.{LeadsToChild, leads_to, IsBelow, child_edit, child_before, parent_becomes, child_above, child_below}
use Rattle.quilt_btree.proofs.subtrees.Density.{few_children}
use Rattle.quilt_btree.proofs.subtrees.Descents.{child_bounds}
use Rattle.quilt_btree.proofs.batches.Leaves.{are_due_between, edit_all_between}
use Rattle.quilt_btree.proofs.removals.Drains.{at_run, lie_between}
use Rattle.quilt_btree.proofs.stores.Moves.{apart_then, moves_then}
use Rattle.quilt_btree.proofs.growth.NewChild.{two_places, bounded_next, is_fitting}
use Rattle.quilt_btree.proofs.rows.NewKeys.{strictly_above}
use Rattle.quilt_btree.proofs.rows.Places.{row_one}
use Rattle.quilt_btree.proofs.lists.Rising.{all_append}
use Rattle.quilt_btree.proofs.rows.Middles.{RowChanged}
use Rattle.quilt_btree.proofs.rows.Splices.{middle_moved, becomes_then}
use Rattle.quilt_btree.proofs.stores.Writes.{TellsAll, if_some_at}
use Rattle.quilt_btree.proofs.ways.Forks.{place_inside}

module _ {told then_told : Option (List (List ℕ))} {free then_free : ℕ → Bool} {size then_size page height child i : ℕ} {k : Key} {inner : Inner}
    {is_root : Bool} {b : Bounds} {rs : List Record} {used : List ℕ}
    (l : LeadsToChild told then_told free then_free size then_size page height child i k inner)
    (can : CanInsert told free size page height is_root b k rs used) where
  child_can : (x : IsBelow told free page height is_root b k rs used inner i)
      → CanInsert then_told then_free then_size child (height - 1) false (child_bounds inner b i) k x.at.here x.at.here_used
  child_can x =
      record {
        can_edit = child_edit l x;
        low = child_above inner b i k l.at.place can.low;
        high = child_below inner b i k l.at.place can.high;
        room = fewer height (count_free then_free then_size) (subst (λ (f : ℕ → Bool). height ≤ count_free f then_size) (sym l.same.same_free)
            (subst (λ n. height ≤ count_free free n) (sym l.same.same_size) can.room));
      }
    where
      fewer : (h c : ℕ) → h ≤ c → h - 1 ≤ c
      fewer h c e = omega arith

module _ (told now_told : Option (List (List ℕ))) (free now : ℕ → Bool) (size page height : ℕ) where
  -- what a run from a key on does to the subtree at a page, where its keys stay below a bound
  abbrev pub Places : List Edit → Key → Option Key → Inserted → Type 0
  Places run k high o =
      (is_root : Bool) (b : Bounds) (rs : List Record) (used : List ℕ) → b.high ≡ high → CanInsert told free size page height is_root b k rs used
      → DidPlace run told now_told free now page height is_root b rs used o

-- a run from the key on that leads to a child, and the bounds below which the keys of the page and of the child stay
pub record RunLeads (run : List Edit) (k : Key) (inner : Inner) (i : ℕ) (high next : Option Key) : Type 0 where
  pub is_next : next ≡ option_or (slice_get inner.keys i) high
  pub from : list_all (λ x. is_le (key_cmp k x)) (edit_keys run) ≡ true

-- what became of the child, in the pages that were told before, and how the run is made around it
pub record ChildDid (run : List Edit) (told now_told : Option (List (List ℕ))) (free now : ℕ → Bool) (page height : ℕ) (is_root : Bool) (b : Bounds)
    (k : Key) (rs : List Record) (used : List ℕ) (inner : Inner) (i : ℕ) (o : Inserted) : Type 0 where
  pub x : IsBelow told free page height is_root b k rs used inner i
  pub news : List (List ℕ)
  pub is : now_told ≡ Some news
  pub under : list_all (is_below b.high) (edit_keys run) ≡ true
  pub due : are_due run rs ≡ are_due run x.at.here
  pub all : edit_all run rs ≡ x.at.first ++ (edit_all run x.at.here ++ x.at.last)
  pub done : HasPlaced run x.pages news free now (slice_index inner.children i) (suc x.below) false (child_bounds inner b i) x.at.here x.at.here_used o

module _ {run : List Edit} {told then_told now_told : Option (List (List ℕ))} {free then_free now : ℕ → Bool} {size then_size page height child i : ℕ}
    {k : Key} {inner : Inner} {high next : Option Key} {is_root : Bool} {b : Bounds} {rs : List Record} {used : List ℕ}
    (l : LeadsToChild told then_told free then_free size then_size page height child i k inner) (w : RunLeads run k inner i high next)
    (top : b.high ≡ high) (can : CanInsert told free size page height is_root b k rs used) where
  child_did : (o : Inserted) → Places then_told now_told then_free now then_size child (height - 1) run k next o
      → ChildDid run told now_told free now page height is_root b k rs used inner i o
  child_did o f =
      let a = at_run high next l w.is_next top can.can_edit in
      let x = a.x in
      let cb = child_bounds inner b i in
      let did = f false cb x.at.here x.at.here_used a.top (child_can l can x) in
      let lies = lie_between a (edit_keys run) w.from did.under in
      record {
        x = x;
        news = did.news;
        is = did.is;
        under = lies.under;
        due = are_due_between x.at.first x.at.here x.at.last rs run x.among.records lies.among;
        all = edit_all_between x.at.first x.at.here x.at.last rs run x.among.records lies.among;
        done = child_before l (λ p g c n. HasPlaced run p did.news g now c n false cb x.at.here x.at.here_used o) x did.was did.done;
      }

  -- a key was there
  pub under_there : Places then_told now_told then_free now then_size child (height - 1) run k next inserted.There
      → DidPlace run told now_told free now page height is_root b rs used inserted.There
  under_there f =
      let did = child_did inserted.There f in
      record { pages = did.x.pages; news = did.news; was = did.x.is_told; is = did.is; under = did.under; done = did.due ∙ did.done }

  -- the child took the run
  pub under_done : Places then_told now_told then_free now then_size child (height - 1) run k next inserted.Done
      → DidPlace run told now_told free now page height is_root b rs used inserted.Done
  under_done f =
      let did = child_did inserted.Done f in
      record {
        pages = did.x.pages;
        news = did.news;
        was = did.x.is_told;
        is = did.is;
        under = did.under;
        done = (did.due ∙ did.done.0, parent_becomes did.x did.all did.done.1);
      }

page_test : (right size n : ℕ) → 1 ≤ right → right < size → n ≡ size → (nat_le 1 right && nat_lt right n) ≡ true
page_test right size n low high e = grind (arith, nat_tests)

pages_with : (n : ℕ) (cs : List ℕ) (i right : ℕ) → are_pages n cs ≡ true → (nat_le 1 right && nat_lt right n) ≡ true
    → are_pages n (insert cs i right) ≡ true
pages_with n cs i right h g =
    all_append (λ c. nat_le 1 c && nat_lt c n) (take i cs) (right ∷ drop i cs) (all_take (λ c. nat_le 1 c && nat_lt c n) cs i h)
    (and_from (nat_le 1 right && nat_lt right n) (are_pages n (drop i cs)) g (all_drop (λ c. nat_le 1 c && nat_lt c n) cs i h))

still_enough : (is_root : Bool) (m n : ℕ) → n ≡ m + 1 → (is_root || nat_le 127 m) ≡ true → (is_root || nat_le 127 n) ≡ true
still_enough true m n e h = refl
still_enough false m n e h = grind (arith, nat_tests)

-- the child was split, and the page is to take the new one
pub record IsToTake (run : List Edit) (told now_told : Option (List (List ℕ))) (free now : ℕ → Bool) (page height : ℕ) (is_root : Bool) (b : Bounds)
    (rs : List Record) (used : List ℕ) (inner : Inner) (i : ℕ) (key : Key) (right : ℕ) : Type 0 where
  pub pages : List (List ℕ)
  pub news : List (List ℕ)
  pub was : told ≡ Some pages
  pub is : now_told ≡ Some news
  pub under : list_all (is_below b.high) (edit_keys run) ≡ true
  pub due : are_due run rs ≡ true
  pub uses : List ℕ
  pub pending : IsPending now_told now page is_root b (with_child inner i key right) (edit_all run rs) uses
  pub moves : KeepsAccount pages news free now used (uses ++ page ∷ [])
  pub tall : inner.height ≡ height

-- a page of height 3 has a place for another child
few_under : {told : Option (List (List ℕ))} {free : ℕ → Bool} {size page height : ℕ} {is_root : Bool} {b : Bounds} {k : Key} {rs : List Record}
    {used : List ℕ} (inner : Inner) → ReadsInner told page inner → CanInsert told free size page height is_root b k rs used → AreFew rs → height ≡ 3
    → length inner.children < 254
few_under {page = page} {is_root = is_root} {b = b} {rs = rs} {used = used} inner reads can few three =
    let e = can.can_edit in
    few_children e.pages (page, b) inner (subst (λ h. Subtree e.pages h is_root (page, b) rs used) three e.subtree)
    (reads e.pages e.is_told) few

module _ {run : List Edit} {told then_told mid_told : Option (List (List ℕ))} {free then_free mid : ℕ → Bool}
    {size then_size page height child i right : ℕ} {k key : Key} {inner : Inner} {high next : Option Key} {is_root : Bool} {b : Bounds}
    {rs : List Record} {used : List ℕ}
    (l : LeadsToChild told then_told free then_free size then_size page height child i k inner) (w : RunLeads run k inner i high next)
    (many : TellsAll told size) (in_range : (1 ≤ right) × (right < size))
    (f : Places then_told mid_told then_free mid then_size child (height - 1) run k next (inserted.Split key right)) (top : b.high ≡ high)
    (can : CanInsert told free size page height is_root b k rs used) where
  under_takes : IsToTake run told mid_told free mid page height is_root b rs used inner i key right
  under_takes =
      let did = child_did l w top can (inserted.Split key right) f in
      let x = did.x in
      let separated = did.done.1 in
      let all = edit_all run x.at.here in
      let c = slice_index inner.children i in
      let cb = child_bounds inner b i in
      let S = Subtree did.news (suc x.below) false in
      let places = two_places c right key cb in
      let row : Row S places all (separated.rest_uses ++ separated.first_uses) = record {
        first = separated.first;
        rest = separated.rest;
        first_used = separated.first_uses;
        rest_used = separated.rest_uses;
        here = separated.is_left;
        after = row_one S (right, record { low = Some key; high = cb.high }) separated.rest separated.rest_uses separated.is_right;
        records = separated.records;
        is_used = refl;
      } in
      let moved = middle_moved x.pages did.news x.below page places all x.apart x.at row separated.moves in
      let row_next = subst (λ (cs : List (ℕ × Bounds)). RowChanged S x.pages did.news free mid page cs (x.at.first ++ (all ++ x.at.last)) x.under)
      (sym (bounded_next inner b i key right x.in_range x.list.keys)) moved in
      let fitting = is_fitting inner b i key x.list.ascends x.within
      (strictly_above did.news (suc x.below) c cb.low key separated.first separated.first_uses separated.is_left)
      separated.low separated.high in
      let long : length did.news ≡ size = moved.moves.size ∙ if_some_at (λ pages. length pages ≡ size) told x.pages many x.is_told in
      let children_more : length (insert inner.children (suc i) right) ≡ length inner.children + 1 =
      length-insert inner.children (suc i) right (next_in i (length inner.children) x.in_range) in
      let keys_more : length (insert inner.keys i key) ≡ length inner.keys + 1 = length-insert inner.keys i key l.at.place.in_range in
      record {
        pages = x.pages;
        news = did.news;
        was = x.is_told;
        is = did.is;
        under = did.under;
        due = did.due ∙ did.done.0;
        uses = row_next.uses;
        pending = record {
          pages = did.news;
          is_told = did.is;
          below = x.below;
          is_height = x.inner_height;
          in_range = pages_with (length did.news) inner.children (suc i) right
              (subst (λ n. are_pages n inner.children ≡ true) (sym moved.moves.size) x.list.in_range)
              (page_test right size (length did.news) in_range.0 in_range.1 long);
          many = as_many (length (insert inner.children (suc i) right)) (length inner.children) (length (insert inner.keys i key))
              (length inner.keys) children_more keys_more x.list.keys;
          enough = still_enough is_root (length inner.children) (length (insert inner.children (suc i) right)) children_more x.enough;
          ascends = fitting.ascends;
          within = fitting.within;
          children = subst (λ m. Row S (bounded (insert inner.children (suc i) right) (insert inner.keys i key) b) m row_next.uses)
              (sym did.all) row_next.row;
          apart = apart_then x.pages did.news free mid (x.under ++ page ∷ []) (row_next.uses ++ page ∷ []) row_next.moves x.apart;
        };
        moves = subst (λ u. KeepsAccount x.pages did.news free mid u (row_next.uses ++ page ∷ [])) (sym x.is_used) row_next.moves;
        tall = x.inner_height ∙ sym x.is_height;
      }
    where
      next_in : (i n : ℕ) → i < n → suc i ≤ n
      next_in i n h = omega arith

      as_many : (c d k l : ℕ) → c ≡ d + 1 → k ≡ l + 1 → d ≡ l + 1 → c ≡ suc k
      as_many c d k l e f g = omega arith

  -- the page took it
  pub page_took : (o : Inserted) (now_told : Option (List (List ℕ))) (now : ℕ → Bool)
      → ((all : List Record) (under : List ℕ) → IsPending mid_told mid page is_root b (with_child inner i key right) all under
      → DidPut mid_told now_told mid now page inner.height is_root b (under ++ page ∷ []) all o)
      → DidPlace run told now_told free now page height is_root b rs used o
  page_took o now_told now g =
      let x = under_takes in
      let did = g (edit_all run rs) x.uses x.pending in
      let was = did.was in
      let mine = x.is in
      let same : did.pages ≡ x.news = cc in
      record {
        pages = x.pages;
        news = did.news;
        was = x.was;
        is = did.is;
        under = x.under;
        done = has_put did.news o x.due x.moves
            (subst (λ p. HasPut p did.news mid now page height is_root b (x.uses ++ page ∷ []) (edit_all run rs) o) same
            (subst (λ n. HasPut did.pages did.news mid now page n is_root b (x.uses ++ page ∷ []) (edit_all run rs) o) x.tall did.done));
      }
    where
      has_put : {pages mids : List (List ℕ)} (news : List (List ℕ)) {more : List ℕ} (o : Inserted) → are_due run rs ≡ true
          → KeepsAccount pages mids free mid used more → HasPut mids news mid now page height is_root b more (edit_all run rs) o
          → HasPlaced run pages news free now page height is_root b rs used o
      has_put news inserted.There due m h = absurd h
      has_put news inserted.Done due m h = (due, becomes_then m h)
      has_put news (inserted.Split key right) due m h = (
        due,
        record {
          first = h.first;
          rest = h.rest;
          first_uses = h.first_uses;
          rest_uses = h.rest_uses;
          is_left = h.is_left;
          is_right = h.is_right;
          records = h.records;
          low = h.low;
          high = h.high;
          moves = moves_then m h.moves;
        },
      )

  -- where the page does not take it, no page is damaged
  pub page_sound : (e : Stop) (mid_size : ℕ) → mid_size ≡ size → count_free free size ≤ count_free mid size + (height - 1) → AreFew rs
      → ((all : List Record) (under : List ℕ) → IsPending mid_told mid page is_root b (with_child inner i key right) all under → 0 < count_free mid mid_size
      → (inner.height ≡ 3 → length inner.children < 254) → IsNotDamage e)
      → IsNotDamage e
  page_sound e mid_size same few small g =
      let x = under_takes in
      g (edit_all run rs) x.uses x.pending
      (subst (λ n. 0 < count_free mid n) (sym same) (left (count_free free size) (count_free mid size) height l.at.some few can.room))
      (λ three. few_under inner l.at.reads can small (sym x.tall ∙ three))
    where
      left : (c d h : ℕ) → 1 ≤ h → c ≤ d + (h - 1) → h ≤ c → 0 < d
      left c d h some e f = omega arith

-- where the page spells a list, it is an inner page in these bytes, and the key leads to the child
pub record IsLedIn (told then_told : Option (List (List ℕ))) (free then_free : ℕ → Bool) (size then_size page height child i : ℕ) (k : Key) (n : ℕ)
    (bytes : List ℕ) : Type 0 where
  pub inner : Inner
  pub is : inner_of n bytes ≡ Some inner
  pub is_height : inner.height ≡ height
  pub leads : LeadsToChild told then_told free then_free size then_size page height child i k inner

pub led_in : {S T : Type 0} {g : Ghosts S} {old new : S} {result : Result T Stop} {page height child i n : ℕ} {k : Key} {bytes : List ℕ}
    → OnlyReads g old new result → 1 ≤ height → height ≢ 1 → IsHigh (g.size old) bytes height
    → ((inner : Inner) → inner_of (g.size old) bytes ≡ Some inner → IsPath (g.told old) page k i child inner) → n ≡ g.size old
    → IsLedIn (g.told old) (g.told new) (g.free old) (g.free new) (g.size old) (g.size new) page height child i k n bytes
led_in {bytes = bytes} left some above h path same = record {
  inner = h.inner;
  is = subst (λ n. inner_of n bytes ≡ Some h.inner) (sym same) h.is;
  is_height = h.is_height;
  leads = leads_to left some above (path h.inner h.is);
}

-- the place to which the key leads is one of a child
pub path_inside : (size : ℕ) (bytes : List ℕ) {told : Option (List (List ℕ))} {page child i n : ℕ} {k : Key}
    → ((inner : Inner) → inner_of size bytes ≡ Some inner → IsPath told page k i child inner) → n ≡ size → (inner : Inner)
    → inner_of n bytes ≡ Some inner → i < length inner.children
path_inside size bytes {i = i} {k = k} path same inner is =
    let there = subst (λ m. inner_of m bytes ≡ Some inner) same is in
    place_inside size bytes inner k i there (path inner there).is_place

-- how many pages were taken since a look, and so since before it
pub room_since : {S T : Type 0} {g : Ghosts S} {old new : S} {result : Result T Stop} → OnlyReads g old new result → (mid : ℕ → Bool) (height : ℕ)
    → count_free (g.free new) (g.size new) ≤ count_free mid (g.size new) + (height - 1)
    → count_free (g.free old) (g.size old) ≤ count_free mid (g.size old) + (height - 1)
room_since {g = g} {old = old} {new = new} left mid height room =
    subst (λ f. count_free f (g.size old) ≤ count_free mid (g.size old) + (height - 1)) left.free
    (subst (λ n. count_free (g.free new) n ≤ count_free mid n + (height - 1)) left.size room)

-- an error of the child
pub sound_below : (e : Stop) {told then_told : Option (List (List ℕ))} {free then_free : ℕ → Bool} {size then_size page height child i : ℕ} {k : Key}
    {inner : Inner} {high next : Option Key} {is_root : Bool} {b : Bounds} {rs : List Record} {used : List ℕ}
    → LeadsToChild told then_told free then_free size then_size page height child i k inner → next ≡ option_or (slice_get inner.keys i) high
    → ((is_root : Bool) (b : Bounds) (rs : List Record) (used : List ℕ) → b.high ≡ next
    → CanInsert then_told then_free then_size child (height - 1) is_root b k rs used → AreFew rs → IsNotDamage e)
    → b.high ≡ high → CanInsert told free size page height is_root b k rs used → AreFew rs → IsNotDamage e
sound_below e {i = i} {inner = inner} {high = high} {next = next} {b = b} {rs = rs} l is_next f top can few =
    let a = at_run high next l is_next top can.can_edit in
    let x = a.x in
    f false (child_bounds inner b i) x.at.here x.at.here_used a.top (child_can l can x)
    (fewer (length rs) (length x.at.first) (length x.at.here) (length x.at.last)
    (ap length x.among.records ∙ length-append x.at.first (x.at.here ++ x.at.last) ∙ ap (λ n. length x.at.first + n) (length-append x.at.here x.at.last)) few)
  where
    fewer : (n f h l : ℕ) → n ≡ f + (h + l) → n < 2322576 → h < 2322576
    fewer n f h l e lt = omega arith

-- a leaf at height 1
pub sound_leaf : {T : Type 0} (result : Result T Stop) (told : Option (List (List ℕ))) (free : ℕ → Bool) (size page : ℕ) {height : ℕ} (k : Key) → height ≡ 1
    → IfErr result (λ e. (is_root : Bool) (b : Bounds) (rs : List Record) (used : List ℕ) → CanInsert told free size page 1 is_root b k rs used → IsNotDamage e)
    → IfErr result (λ e. (is_root : Bool) (b : Bounds) (rs : List Record) (used : List ℕ) → CanInsert told free size page height is_root b k rs used → AreFew rs
    → IsNotDamage e)
sound_leaf (Ok o) told free size page k one f = f
sound_leaf (Err e) told free size page k one f =
    λ is_root b rs used can few. f is_root b rs used (subst (λ h. CanInsert told free size page h is_root b k rs used) one can)

module _ (told : Option (List (List ℕ))) (free : ℕ → Bool) (size page : ℕ) (k : Key) (high : Option Key) where
  -- and where its keys stay below a bound
  pub sound_leaf_below : {T : Type 0} (result : Result T Stop) {height : ℕ} → height ≡ 1
      → IfErr result (λ e. (is_root : Bool) (b : Bounds) (rs : List Record) (used : List ℕ) → CanInsert told free size page 1 is_root b k rs used
      → IsNotDamage e)
      → IfErr result (λ e. (is_root : Bool) (b : Bounds) (rs : List Record) (used : List ℕ) → b.high ≡ high
      → CanInsert told free size page height is_root b k rs used → AreFew rs → IsNotDamage e)
  sound_leaf_below (Ok o) one f = f
  sound_leaf_below {T} (Err e) one f = λ is_root b rs used top. sound_leaf {T = T} (Err e) told free size page k one f is_root b rs used
