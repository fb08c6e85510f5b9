-- An inner page of which two neighbouring children were rebalanced.
use Rattle.std.proofs.Common.{◌≡◌, ℕ, suc, ◌+◌, ◌<◌, ◌≤◌, Bool, true, false, ◌||◌, nat_le, List, [], ◌∷◌, ◌++◌, length, Option, Some, slice_index}
use Rattle.std.proofs.Common.{slice_index_or, slice_set, refl, sym, ◌∙◌, ap, subst, arith, get_or-set_same, length-set}
use Rattle.std.specs.List.{remove}
use Rattle.std.proofs.lemmas.Option.{same_Some}
use Rattle.quilt_record.specs.declared.key.Key.{Key}
use Rattle.quilt_record.specs.declared.record.Record.{Record}
use Rattle.quilt_node.specs.Pages.{Inner, inner_of}
use Rattle.quilt_node.specs.Edits.{with_key, without_child}
use Rattle.quilt_node.specs.Tree.{Bounds, bounded, are_within}
use Rattle.quilt_btree.specs.declared.outcomes.Rebalanced.{Rebalanced}
use Rattle.quilt_btree.specs.declared.outcomes.Rebalanced.TheVariants as rebalanced
use Rattle.quilt_btree.specs.declared.outcomes.Removed.{Removed}
use Rattle.quilt_btree.specs.declared.outcomes.Removed.TheVariants as removed
use Rattle.quilt_btree.specs.Subtree.{Row, Subtree}
use Rattle.quilt_btree.specs.Edits.{KeepsAccount, Becomes, IsNearlyFull, DidLeave}
use Rattle.quilt_btree.specs.Rebalancing.{HasRebalanced, DidRebalance, WritesInner, HasDropped}
use Rattle.quilt_btree.proofs.stores.Moves.{AreApart, apart_then, used_not_free}
use Rattle.quilt_btree.proofs.rows.Splices.{parent_written, becomes_then, page_in}
use Rattle.quilt_btree.proofs.rows.Places.{front, row_one, one_row}
use Rattle.quilt_btree.proofs.removals.LeafRemovals.{few_root, not_root, many_enough, one_fewer}
use Rattle.quilt_btree.proofs.rows.Middles.{rear, gap_bounds, bounded_one, bounded_two, StandsAround, middle_changed, row_two, remove_middle, remove_second, set_middle}
use Rattle.quilt_btree.proofs.rows.NewKeys.{FitsBetween, fits_between, within_less, strictly_above}
use Rattle.quilt_btree.proofs.removals.Underfulls.{Neighbours}

-- the pages after a rebalancing
pub record Rebalances (told mid : Option (List (List ℕ))) (free between : ℕ → Bool) (pages : List (List ℕ)) (height left right : ℕ) (b : Bounds)
    (rs : List Record) (used : List ℕ) (o : Rebalanced) : Type 0 where
  pub news : List (List ℕ)
  pub is : mid ≡ Some news
  pub done : HasRebalanced pages news free between height left right b rs used o

pub rebalances : {told mid : Option (List (List ℕ))} {free between : ℕ → Bool} (pages : List (List ℕ)) {height left right : ℕ} {b : Bounds}
    {rs : List Record} {used : List ℕ} {o : Rebalanced} → told ≡ Some pages → DidRebalance told mid free between height left right b rs used o
    → Rebalances told mid free between pages height left right b rs used o
rebalances {free = free} {between = between} pages {height = height} {left = left} {right = right} {b = b} {rs = rs} {used = used} {o = o} e d =
    let same : d.pages ≡ pages = same_Some d.pages pages (sym d.was ∙ e) in
    record { news = d.news; is = d.is; done = subst (λ p. HasRebalanced p d.news free between height left right b rs used o) same d.done }

-- the children of the page, rebalanced, with the page still as it was
pub record ChildrenRebalanced (mid : Option (List (List ℕ))) (free between : ℕ → Bool) (page below : ℕ) (pages : List (List ℕ)) (inner : Inner)
    (b : Bounds) (rs : List Record) (used : List ℕ) : Type 0 where
  pub news : List (List ℕ)
  pub is : mid ≡ Some news
  pub uses : List ℕ
  pub row : Row (Subtree news (suc below) false) (bounded inner.children inner.keys b) rs uses
  pub moves : KeepsAccount pages news free between used (uses ++ page ∷ [])
  pub apart : AreApart between (uses ++ page ∷ [])
  pub within : are_within b inner.keys ≡ true
  pub is_height : inner.height ≡ suc (suc below)

module _ (told mid : Option (List (List ℕ))) (free between : ℕ → Bool) (page below : ℕ) (inner : Inner) (j left : ℕ) (key : Key) (right : ℕ)
    (is_root : Bool) (b : Bounds) (rs : List Record) (used : List ℕ) where
  pub joined_children : (n : Neighbours told free page below inner j left key right is_root b rs used)
      → DidRebalance told mid free between (suc below) left right (gap_bounds n.cut.ka n.cut.kb b) n.here n.here_used rebalanced.Joined
      → ChildrenRebalanced mid free between page below n.pages (without_child inner j) b rs used
  joined_children n d =
      let gap = gap_bounds n.cut.ka n.cut.kb b in
      let m = rebalances n.pages n.is_told d in
      let apart = subst (AreApart free) n.is_used n.apart in
      let S = Subtree m.news (suc below) false in
      let beside : StandsAround (Subtree n.pages (suc below) false) free page (front n.cut.ca n.cut.ka b) (rear n.cut.cb n.cut.kb b.high) n.first n.last
      n.here_used n.under = record {
        first_used = n.first_used;
        last_used = n.last_used;
        row_before = n.row_before;
        row_behind = n.row_behind;
        is_under = n.is_under;
        apart = apart;
      } in
      let changed = middle_changed S below (λ c ss u s. s) ((left, gap) ∷ []) n.here beside
      (row_one S (left, gap) n.here m.done.uses m.done.subtree) m.done.moves in
      let kids : remove inner.children (suc j) ≡ n.cut.ca ++ left ∷ n.cut.cb =
      ap (λ x. remove x (suc j)) n.cut.children ∙ remove_second n.cut.ca left right n.cut.cb j (n.cut.before ∙ n.cut.place) in
      let keys : remove inner.keys j ≡ n.cut.ka ++ n.cut.kb = ap (λ x. remove x j) n.cut.keys ∙ remove_middle n.cut.ka key n.cut.kb j n.cut.place in
      let row = subst (λ x. Row S x (n.first ++ (n.here ++ n.last)) changed.uses)
      (sym (bounded_one n.cut.ca left n.cut.cb n.cut.ka n.cut.kb b n.cut.before n.cut.behind)) changed.row in
      record {
        news = m.news;
        is = m.is;
        uses = changed.uses;
        row = subst (λ x. Row S (bounded x (remove inner.keys j) b) rs changed.uses) (sym kids)
            (subst (λ x. Row S (bounded (n.cut.ca ++ left ∷ n.cut.cb) x b) rs changed.uses) (sym keys)
            (subst (λ x. Row S (bounded (n.cut.ca ++ left ∷ n.cut.cb) (n.cut.ka ++ n.cut.kb) b) x changed.uses) (sym n.records) row));
        moves = subst (λ u. KeepsAccount n.pages m.news free between u (changed.uses ++ page ∷ [])) (sym n.is_used) changed.moves;
        apart = apart_then n.pages m.news free between (n.under ++ page ∷ []) (changed.uses ++ page ∷ []) changed.moves apart;
        within = subst (λ x. are_within b x ≡ true) (sym keys) (within_less n.cut.ka key n.cut.kb b n.within);
        is_height = n.inner_height;
      }

  -- the keys ascend with the new one
  pub separated_ascends : (separator : Key) (n : Neighbours told free page below inner j left key right is_root b rs used)
      → DidRebalance told mid free between (suc below) left right (gap_bounds n.cut.ka n.cut.kb b) n.here n.here_used (rebalanced.Redistributed separator)
      → FitsBetween n.cut.ka separator n.cut.kb b
  separated_ascends separator n d =
      let gap = gap_bounds n.cut.ka n.cut.kb b in
      let m = rebalances n.pages n.is_told d in
      fits_between n.cut.ka key separator n.cut.kb b n.ascends n.within
      (strictly_above m.news (suc below) left gap.low separator m.done.first m.done.first_uses m.done.is_left) m.done.low m.done.high

module _ (told : Option (List (List ℕ))) (free : ℕ → Bool) (page below : ℕ) (inner : Inner) (j left : ℕ) (key : Key) (right : ℕ) (is_root : Bool)
    (b : Bounds) (rs : List Record) (used : List ℕ) (separator : Key) (n : Neighbours told free page below inner j left key right is_root b rs used)
  where
    pub set_is : slice_set inner.keys j separator ≡ n.cut.ka ++ separator ∷ n.cut.kb
    set_is =
        ap (λ x. slice_set x j separator) n.cut.keys ∙ set_middle n.cut.ka key separator n.cut.kb j n.cut.place

    pub separated_children : (mid : Option (List (List ℕ))) (between : ℕ → Bool)
        → DidRebalance told mid free between (suc below) left right (gap_bounds n.cut.ka n.cut.kb b) n.here n.here_used (rebalanced.Redistributed separator)
        → ChildrenRebalanced mid free between page below n.pages (with_key inner j separator) b rs used
    separated_children mid between d =
        let gap = gap_bounds n.cut.ka n.cut.kb b in
        let m = rebalances n.pages n.is_told d in
        let apart = subst (AreApart free) n.is_used n.apart in
        let S = Subtree m.news (suc below) false in
        let low : ℕ × Bounds = (left, record { low = gap.low; high = Some separator }) in
        let high : ℕ × Bounds = (right, record { low = Some separator; high = gap.high }) in
        let uses = m.done.rest_uses ++ m.done.first_uses in
        let two : Row S (low ∷ high ∷ []) n.here uses = row_two S low high n.here uses
        (record {
          first = m.done.first;
          rest = m.done.rest;
          first_used = m.done.first_uses;
          rest_used = m.done.rest_uses;
          here = m.done.is_left;
          after = m.done.is_right;
          records = m.done.records;
          is_used = refl;
        }) in
        let beside : StandsAround (Subtree n.pages (suc below) false) free page (front n.cut.ca n.cut.ka b) (rear n.cut.cb n.cut.kb b.high) n.first n.last
        n.here_used n.under = record {
          first_used = n.first_used;
          last_used = n.last_used;
          row_before = n.row_before;
          row_behind = n.row_behind;
          is_under = n.is_under;
          apart = apart;
        } in
        let changed = middle_changed S below (λ c ss u s. s) (low ∷ high ∷ []) n.here beside two m.done.moves in
        let keys = set_is in
        let fits = separated_ascends told mid free between page below inner j left key right is_root b rs used separator n d in
        let row = subst (λ x. Row S x (n.first ++ (n.here ++ n.last)) changed.uses)
        (sym (bounded_two n.cut.ca left right n.cut.cb n.cut.ka separator n.cut.kb b n.cut.before n.cut.behind)) changed.row in
        record {
          news = m.news;
          is = m.is;
          uses = changed.uses;
          row = subst (λ x. Row S (bounded x (slice_set inner.keys j separator) b) rs changed.uses) (sym n.cut.children)
              (subst (λ x. Row S (bounded (n.cut.ca ++ left ∷ right ∷ n.cut.cb) x b) rs changed.uses) (sym keys)
              (subst (λ x. Row S (bounded (n.cut.ca ++ left ∷ right ∷ n.cut.cb) (n.cut.ka ++ separator ∷ n.cut.kb) b) x changed.uses) (sym n.records) row));
          moves = subst (λ u. KeepsAccount n.pages m.news free between u (changed.uses ++ page ∷ [])) (sym n.is_used) changed.moves;
          apart = apart_then n.pages m.news free between (n.under ++ page ∷ []) (changed.uses ++ page ∷ []) changed.moves apart;
          within = subst (λ x. are_within b x ≡ true) (sym keys) fits.within;
          is_height = n.inner_height;
        }

-- the page, written with its children rebalanced
pub record PageRebalanced (now_told : Option (List (List ℕ))) (free now : ℕ → Bool) (page below : ℕ) (r : Bool) (pages : List (List ℕ))
    (inner : Inner) (b : Bounds) (rs : List Record) (used : List ℕ) : Type 0 where
  pub news : List (List ℕ)
  pub is : now_told ≡ Some news
  pub becomes : Becomes pages news free now page (suc (suc below)) r b used rs
  pub page_is : inner_of (length news) (slice_index_or news page []) ≡ Some inner

module _ (mid : Option (List (List ℕ))) (free between : ℕ → Bool) (page below : ℕ) (pages : List (List ℕ)) (inner : Inner) (b : Bounds)
    (rs : List Record) (used : List ℕ) where
  pub page_rebalanced : (now_told : Option (List (List ℕ))) (now : ℕ → Bool) (r : Bool)
      → ChildrenRebalanced mid free between page below pages inner b rs used → WritesInner page inner mid now_told → now ≡ between → page < length pages
      → (r || nat_le 127 (length inner.children)) ≡ true → PageRebalanced now_told free now page below r pages inner b rs used
  page_rebalanced now_told now r m writes f inside enough =
      let w = writes m.news m.is in
      let there : page < length m.news = subst (λ n. page < n) (sym m.moves.size) inside in
      let news = slice_set m.news page w.bytes in
      let becomes : Becomes m.news news between between page (suc (suc below)) r b (m.uses ++ page ∷ []) rs =
      parent_written m.uses there (record { is = w.inner_is; is_height = m.is_height; enough = enough; within = m.within }) m.apart m.row in
      record {
        news = news;
        is = w.is;
        becomes = subst (λ g. Becomes pages news free g page (suc (suc below)) r b used rs) (sym f)
            (becomes_then m.moves becomes);
        page_is = ap (λ n. inner_of n (slice_index_or news page [])) (length-set m.news page w.bytes)
            ∙ ap (inner_of (length m.news)) (get_or-set_same m.news page w.bytes [] there) ∙ w.inner_is;
      }

  pub page_taken : ChildrenRebalanced mid free between page below pages inner b rs used → between page ≡ false
  page_taken m = used_not_free between (m.uses ++ page ∷ []) page m.apart (page_in page m.uses)

one_child : (cs : List ℕ) (ks : List Key) (b : Bounds) (c : ℕ) → length cs ≡ 1 → length ks ≡ 0 → c ≡ slice_index cs 0 → bounded cs ks b ≡ (c, b) ∷ []
one_child [] ks b c n m e = absurd (omega arith)
one_child (d ∷ []) [] b c n m e = ap (λ x. (x, b) ∷ []) (sym e)
one_child (d ∷ []) (k ∷ ks) b c n m e = absurd (omega arith)
one_child (d ∷ f ∷ cs) ks b c n m e = absurd (omega arith)

first_stays : (cs : List ℕ) (i : ℕ) → suc i < length cs → slice_index (remove cs (suc i)) 0 ≡ slice_index cs 0
first_stays [] i h = absurd (omega arith)
first_stays (c ∷ cs) i h = refl

module _ (told mid now_told : Option (List (List ℕ))) (free between now : ℕ → Bool) (page height below : ℕ) (inner : Inner) (j left : ℕ) (key : Key)
    (right : ℕ) (is_root : Bool) (b : Bounds) (rs : List Record) (used : List ℕ) where
  -- what is left of the page after a join
  pub left_joined : (o : Removed) → height ≡ suc (suc below) → (n : Neighbours told free page below inner j left key right is_root b rs used)
      → ChildrenRebalanced mid free between page below n.pages (without_child inner j) b rs used
      → (length inner.children ≡ length inner.keys + 1) × (j < length inner.keys) → page < length n.pages → now ≡ between → HasDropped page inner j mid now_told o
      → DidLeave told now_told free now page height is_root b used rs o
  left_joined removed.Missing e n m counts inside f d = absurd d
  left_joined removed.Emptied e n m counts inside f d = absurd d
  left_joined removed.Done e n m counts inside f d =
      let there : suc j < length inner.children = let many = counts.0 in let place = counts.1 in omega arith in
      let fewer = one_fewer inner.children (suc j) there in
      let enough =
      many_enough is_root 127 (length (remove inner.children (suc j)))
      (less (length (remove inner.children (suc j))) (length inner.children) fewer d.0) in
      let p = page_rebalanced mid free between page below n.pages (without_child inner j) b rs used now_told now is_root m d.1 f inside enough in
      subst (λ h. DidLeave told now_told free now page h is_root b used rs removed.Done) (sym e)
      (record { pages = n.pages; news = p.news; was = n.is_told; is = p.is; left = p.becomes })
    where
      less : (a c : ℕ) → suc a ≡ c → 128 ≤ c → 127 ≤ a
      less a c g h = omega arith
  left_joined removed.Underfull e n m counts inside f d =
      let there : suc j < length inner.children = let many = counts.0 in let place = counts.1 in omega arith in
      let fewer = one_fewer inner.children (suc j) there in
      let p = page_rebalanced mid free between page below n.pages (without_child inner j) b rs used now_told now true m d.1 f inside refl in
      let nearly : is_root ≡ false → IsNearlyFull p.news (suc (suc below)) page = λ root i is.
      let same : i ≡ without_child inner j = same_Some i (without_child inner j) (sym is ∙ p.page_is) in
      let full = not_root is_root 127 (length inner.children) n.enough root in
      subst (λ (x : Inner). 126 ≤ length x.children) (sym same) (less_one (length (remove inner.children (suc j))) (length inner.children) fewer full) in
      subst (λ h. DidLeave told now_told free now page h is_root b used rs removed.Underfull) (sym e)
      (record { pages = n.pages; news = p.news; was = n.is_told; is = p.is; left = (nearly, p.becomes) })
    where
      less_one : (a c : ℕ) → suc a ≡ c → 127 ≤ c → 126 ≤ a
      less_one a c g h = omega arith
  left_joined (removed.Only child) e n m counts inside f d =
      let there : suc j < length inner.children = let many = counts.0 in let place = counts.1 in omega arith in
      let kids : length (remove inner.children (suc j)) ≡ 1 =
      one (length (remove inner.children (suc j))) (length inner.children) (one_fewer inner.children (suc j) there) d.0 in
      let keys : length (remove inner.keys j) ≡ 0 =
      none (length (remove inner.keys j)) (length inner.keys) (length inner.children) (one_fewer inner.keys j counts.1) counts.0 d.0 in
      let only = one_child (remove inner.children (suc j)) (remove inner.keys j) b child kids keys (d.1 ∙ sym (first_stays inner.children j there)) in
      let S = Subtree m.news (suc below) false in
      let root = few_root is_root 127 (length inner.children) n.enough (two_few (length inner.children) d.0) in
      record {
        pages = n.pages;
        news = m.news;
        was = n.is_told;
        is = d.2 ∙ m.is;
        left = (
          root,
          record {
            below = suc below;
            is_height = e;
            uses = m.uses;
            subtree = one_row S (child, b) rs m.uses (subst (λ x. Row S x rs m.uses) only m.row);
            moves = subst (λ g. KeepsAccount n.pages m.news free g used (m.uses ++ page ∷ [])) (sym f) m.moves;
          },
        );
      }
    where
      one : (a c : ℕ) → suc a ≡ c → c ≡ 2 → a ≡ 1
      one a c g h = omega arith

      none : (a k c : ℕ) → suc a ≡ k → c ≡ k + 1 → c ≡ 2 → a ≡ 0
      none a k c g h i = omega arith

      two_few : (c : ℕ) → c ≡ 2 → c < 127
      two_few c h = omega arith

  -- and after a move
  pub left_separated : (separator : Key) → height ≡ suc (suc below) → (n : Neighbours told free page below inner j left key right is_root b rs used)
      → ChildrenRebalanced mid free between page below n.pages (with_key inner j separator) b rs used → page < length n.pages → now ≡ between
      → WritesInner page (with_key inner j separator) mid now_told → DidLeave told now_told free now page height is_root b used rs removed.Done
  left_separated separator e n m inside f writes =
      let p = page_rebalanced mid free between page below n.pages (with_key inner j separator) b rs used now_told now is_root m writes f inside
      n.enough in
      subst (λ h. DidLeave told now_told free now page h is_root b used rs removed.Done) (sym e)
      (record { pages = n.pages; news = p.news; was = n.is_told; is = p.is; left = p.becomes })
