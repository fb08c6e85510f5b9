-- Two neighbouring inner pages are joined, or their children are redistributed.
use Rattle.std.proofs.Common.{◌≡◌, ℕ, zero, suc, ◌+◌, ◌<◌, ◌≤◌, Bool, true, false, ◌&&◌, nat_le, nat_lt, List, [], ◌∷◌, ◌++◌, length, Option, Some, IfSome}
use Rattle.std.proofs.lemmas.Bool.{and_from}
use Rattle.std.proofs.Common.{slice_index_or, slice_set, refl, sym, ◌∙◌, ap, subst, arith, length-append}
use Rattle.quilt_record.specs.declared.key.Key.{Key}
use Rattle.quilt_record.specs.declared.record.Record.{Record}
use Rattle.quilt_record.specs.Records.{key_cmp}
use Rattle.std.specs.Ordering.{is_le}
use Rattle.std.proofs.lemmas.Option.{same_Some}
use Rattle.quilt_node.specs.Pages.{Inner, inner_of, is_ascending}
use Rattle.quilt_node.specs.Nodes.{are_pages}
use Rattle.quilt_node.specs.Edits.{joined}
use Rattle.quilt_node.specs.Tree.{Bounds, bounded, are_within, is_below}
use Rattle.quilt_store.specs.Store.{FreesOnly}
use Rattle.quilt_world.specs.Tale.{Goes}
use Rattle.quilt_btree.specs.declared.outcomes.Rebalanced.TheVariants as rebalanced
use Rattle.quilt_btree.specs.Subtree.{Row, Subtree}
use Rattle.quilt_btree.specs.Trees.{ReadsInner}
use Rattle.quilt_btree.specs.Edits.{multiplicity, KeepsAccount}
use Rattle.quilt_btree.specs.Rebalancing.{CanRebalance, DidRebalance, HasGiven}
use Rattle.quilt_btree.proofs.lists.Counts.{times-append}
use Rattle.quilt_btree.proofs.stores.Moves.{AreApart}
use Rattle.quilt_btree.proofs.lists.Rows.{row_join, row_parts}
use Rattle.quilt_btree.proofs.rows.Splices.{bounded_join, rows_stay}
use Rattle.quilt_btree.proofs.ways.Leaves.{same_le}
use Rattle.quilt_btree.proofs.lists.Rising.{IsRising, rising_join, all_append, all_parts}
use Rattle.quilt_btree.proofs.subtrees.Trees.{inner_list}
use Rattle.quilt_btree.proofs.subtrees.Holdings.{ascends_from}
use Rattle.quilt_btree.proofs.stores.Pairs.{ArePair, pair_apart, is_joined, are_written, under_stays, pair_moves, left_taken, right_taken}
use Rattle.quilt_btree.proofs.lists.RisingApart.{rises_apart}
use Rattle.quilt_btree.proofs.removals.LeafRemovals.{tells_on, has_many, many_enough}

pub two_above : (height : ℕ) → 2 ≤ height → (h : ℕ) × (height ≡ suc (suc h))
two_above zero h = absurd (omega arith)
two_above (suc zero) h = absurd (omega arith)
two_above (suc (suc n)) h = (n, refl)

-- the pages that two neighbours use
pair_count : (p : ℕ) (late early : List ℕ) (left right : ℕ)
    → multiplicity p ((late ++ right ∷ []) ++ (early ++ left ∷ [])) ≡ multiplicity p (late ++ early) + multiplicity p (right ∷ left ∷ [])
pair_count p late early left right =
    sums (multiplicity p late) (multiplicity p (right ∷ [])) (multiplicity p early) (multiplicity p (left ∷ []))
    (parts (multiplicity p late) (multiplicity p (right ∷ [])) (multiplicity p early) (multiplicity p (left ∷ []))
    (times-append p (late ++ right ∷ []) (early ++ left ∷ [])) (times-append p late (right ∷ [])) (times-append p early (left ∷ [])))
    (times-append p late early) (times-append p (right ∷ []) (left ∷ []))
  where
    parts : {all x y : ℕ} (l r e f : ℕ) → all ≡ x + y → x ≡ l + r → y ≡ e + f → all ≡ (l + r) + (e + f)
    parts l r e f a b c = omega arith

    sums : {all m t : ℕ} (l r e f : ℕ) → all ≡ (l + r) + (e + f) → m ≡ l + e → t ≡ r + f → all ≡ m + t
    sums l r e f a b c = omega arith

-- the two inner pages, as they were read
pub record AreInners (told : Option (List (List ℕ))) (free : ℕ → Bool) (h left : ℕ) (key : Key) (right : ℕ) (b : Bounds) (rs : List Record)
    (used : List ℕ) (m : CanRebalance told free (suc (suc h)) left key right b rs used) (l r : Inner) : Type 0 where
  pub under : List ℕ
  pub row : Row (Subtree m.pages (suc h) false) (bounded (l.children ++ r.children) (l.keys ++ key ∷ r.keys) b) rs under
  pub rises : IsRising b (l.keys ++ key ∷ r.keys)
  pub first_many : 126 ≤ length l.children
  pub rest_many : 126 ≤ length r.children
  pub pair : ArePair left right under used
  pub apart : AreApart free (right ∷ left ∷ [])

pub are_inners : {told : Option (List (List ℕ))} {free : ℕ → Bool} {h left : ℕ} {key : Key} {right : ℕ} {b : Bounds} {rs : List Record}
    {used : List ℕ} (m : CanRebalance told free (suc (suc h)) left key right b rs used) (l r : Inner)
    → ReadsInner told left l → ReadsInner told right r → AreInners told free h left key right b rs used m l r
are_inners {free} {h} {left} {key} {right} {b} {rs} {used} m l r reads also =
    let S = Subtree m.pages (suc h) false in
    let below : Bounds = record { low = b.low; high = Some key } in
    let above : Bounds = record { low = Some key; high = b.high } in
    let s : Subtree m.pages (suc (suc h)) true (left, below) m.first m.first_used = m.is_left.subtree in
    let t : Subtree m.pages (suc (suc h)) true (right, above) m.rest m.rest_used = m.is_right.subtree in
    let there = reads m.pages m.is_told in
    let other = also m.pages m.is_told in
    let first : s.inner ≡ l = same_Some s.inner l (sym s.page ∙ there) in
    let rest : t.inner ≡ r = same_Some t.inner r (sym t.page ∙ other) in
    let list = inner_list (length m.pages) (slice_index_or m.pages left []) l there in
    let list_too = inner_list (length m.pages) (slice_index_or m.pages right []) r other in
    let row_l = subst (λ (i : Inner). Row S (bounded i.children i.keys below) m.first s.under) first s.children in
    let row_r = subst (λ (i : Inner). Row S (bounded i.children i.keys above) m.rest t.under) rest t.children in
    let within_l = subst (λ (i : Inner). are_within below i.keys ≡ true) first s.within in
    let within_r = subst (λ (i : Inner). are_within above i.keys ≡ true) rest t.within in
    let from : is_ascending (key ∷ r.keys) ≡ true =
    ascends_from m.pages h r.children r.keys key b.high {rs = m.rest} (let n = list_too.least in omega arith, list_too.ascends)
    (record { used = t.under; row = row_r }) in
    let pair : ArePair left right (t.under ++ s.under) used = record {
      count = λ p. ap (multiplicity p) (m.is_used ∙ ap (λ u. u ++ m.first_used) t.is_used ∙ ap (λ u. (t.under ++ right ∷ []) ++ u) s.is_used)
          ∙ pair_count p t.under s.under left right;
    } in
    record {
      under = t.under ++ s.under;
      row = subst (λ c. Row S c rs (t.under ++ s.under))
          (sym (bounded_join l.children r.children l.keys r.keys key b (one_more (length l.children) (length l.keys) list.keys)))
          (row_join S (bounded l.children l.keys below) (bounded r.children r.keys above) rs (t.under ++ s.under)
          (record {
            first = m.first;
            rest = m.rest;
            first_used = s.under;
            rest_used = t.under;
            here = row_l;
            after = row_r;
            records = m.records;
            is_used = refl;
          }));
      rises = rising_join b key l.keys (key ∷ r.keys) m.low m.high (record { ascends = list.ascends; within = within_l })
          (record {
            ascends = from;
            within = and_from (is_le (key_cmp key key) && is_below b.high key) (are_within above r.keys)
                (and_from (is_le (key_cmp key key)) (is_below b.high key) (same_le key) m.high) within_r;
          });
      first_many = m.is_left.nearly l there;
      rest_many = m.is_right.nearly r other;
      pair = pair;
      apart = pair_apart free left right (t.under ++ s.under) used pair m.apart;
    }
  where
    one_more : (m n : ℕ) → m ≡ n + 1 → m ≡ suc n
    one_more m n e = omega arith

one_inner : {pages : List (List ℕ)} {h : ℕ} (page : ℕ) {bytes : List ℕ} {b : Bounds} {inner : Inner} {all : List Record} (under : List ℕ)
    → slice_index_or pages page [] ≡ bytes → inner_of (length pages) bytes ≡ Some inner → inner.height ≡ suc (suc h)
    → 127 ≤ length inner.children → are_within b inner.keys ≡ true →
    Row (Subtree pages (suc h) false) (bounded inner.children inner.keys b) all under → Subtree pages (suc (suc h)) false (page, b) all
    (under ++ page ∷ [])
one_inner {pages} page {inner} under here is height many within row = record {
  inner = inner;
  page = ap (inner_of (length pages)) here ∙ is;
  is_height = height;
  enough = many_enough false 127 (length inner.children) many;
  within = within;
  under = under;
  children = row;
  is_used = refl;
}

pub all_pages : (size : ℕ) (cs ds : List ℕ) → are_pages size cs ≡ true → are_pages size ds ≡ true → are_pages size (cs ++ ds) ≡ true
all_pages size cs ds h g = all_append (λ c. nat_le 1 c && nat_lt c size) cs ds h g

-- what is known of a call that joins two inner pages
pub record InnersJoin (told mid now_told : Option (List (List ℕ))) (free was now : ℕ → Bool) (size height left : ℕ) (key : Key) (right : ℕ)
    (l r all : Inner) (bytes : List ℕ) : Type 0 where
  pub above : 2 ≤ height
  pub reads : ReadsInner told left l
  pub also : ReadsInner told right r
  pub is_height : l.height ≡ height
  pub inside : left < size
  pub many : IfSome told (λ x. length x ≡ size)
  pub children : are_pages size l.children ≡ true
  pub children_too : are_pages size r.children ≡ true
  pub all_is : all ≡ joined l key r
  pub written : (n : ℕ) → are_pages n all.children ≡ true → inner_of n bytes ≡ Some all
  pub is_mid : mid ≡ told
  pub tells : Goes (λ old new. HasGiven right (slice_set old left bytes) new) mid now_told
  pub is_free : was ≡ free
  pub frees : FreesOnly right true was now

if_told : (told : Option (List (List ℕ))) (pages : List (List ℕ)) (size : ℕ) → IfSome told (λ x. length x ≡ size) → told ≡ Some pages
    → length pages ≡ size
if_told told pages size many e = subst (λ o. IfSome o (λ x. length x ≡ size)) e many

-- what is known of a call that parts the children of two inner pages
pub record InnersPart (told mid now_told : Option (List (List ℕ))) (free now : ℕ → Bool) (size height left : ℕ) (key : Key) (right : ℕ)
    (l r first rest : Inner) (separator : Key) (bytes others : List ℕ) : Type 0 where
  pub above : 2 ≤ height
  pub reads : ReadsInner told left l
  pub also : ReadsInner told right r
  pub is_height : l.height ≡ height
  pub inside : left < size
  pub inside_too : right < size
  pub many : IfSome told (λ x. length x ≡ size)
  pub children_are : are_pages size l.children ≡ true
  pub children_are_too : are_pages size r.children ≡ true
  pub children : first.children ++ rest.children ≡ l.children ++ r.children
  pub keys : first.keys ++ separator ∷ rest.keys ≡ l.keys ++ key ∷ r.keys
  pub heights : (first.height ≡ l.height) × (rest.height ≡ l.height)
  pub enough : 126 ≤ length l.children → 126 ≤ length r.children → (127 ≤ length first.children) × (127 ≤ length rest.children)
  pub between : length first.children ≡ suc (length first.keys)
  pub written : (n : ℕ) → are_pages n first.children ≡ true → inner_of n bytes ≡ Some first
  pub written_too : (n : ℕ) → are_pages n rest.children ≡ true → inner_of n others ≡ Some rest
  pub is_mid : mid ≡ told
  pub tells : Goes (λ old new. new ≡ slice_set (slice_set old left bytes) right others) mid now_told
  pub frees : now ≡ free

module _ (told mid now_told : Option (List (List ℕ))) (free now : ℕ → Bool) (size height left : ℕ) (key : Key) (right : ℕ) (b : Bounds)
    (rs : List Record) (used : List ℕ) (l r : Inner) (bytes : List ℕ) where
  pub inners_joined : (was : ℕ → Bool) (all : Inner) → InnersJoin told mid now_told free was now size height left key right l r all bytes
      → CanRebalance told free height left key right b rs used → DidRebalance told now_told free now height left right b rs used rebalanced.Joined
  inners_joined was all c can =
      let n = two_above height c.above in
      let h = n.0 in
      let m = subst (λ x. CanRebalance told free x left key right b rs used) n.1 can in
      let a = are_inners m l r c.reads c.also in
      let on = tells_on (λ old new. HasGiven right (slice_set old left bytes) new) mid now_told m.pages (c.is_mid ∙ m.is_told) c.tells in
      let news = on.0 in
      let j = is_joined m.pages free left right bytes news now a.apart (has_many told m.pages size left c.many m.is_told c.inside) on.2
      (subst (λ f. FreesOnly right true f now) c.is_free c.frees) in
      let long : length news ≡ size = j.size ∙ if_told told m.pages size c.many m.is_told in
      let kids : all.children ≡ l.children ++ r.children = ap (λ (i : Inner). i.children) c.all_is in
      let keys : all.keys ≡ l.keys ++ key ∷ r.keys = ap (λ (i : Inner). i.keys) c.all_is in
      let is : inner_of (length news) bytes ≡ Some all = ap (λ x. inner_of x bytes) long
      ∙ c.written size (subst (λ x. are_pages size x ≡ true) (sym kids) (all_pages size l.children r.children c.children c.children_too)) in
      let same = under_stays m.pages news free now left right (left ∷ []) a.under used a.pair m.apart j.moves in
      let row = rows_stay m.pages news h j.size (bounded (l.children ++ r.children) (l.keys ++ key ∷ r.keys) b) rs a.under same a.row in
      let there : Row (Subtree news (suc h) false) (bounded all.children all.keys b) rs a.under =
      subst (λ x. Row (Subtree news (suc h) false) (bounded x all.keys b) rs a.under) (sym kids)
      (subst (λ x. Row (Subtree news (suc h) false) (bounded (l.children ++ r.children) x b) rs a.under) (sym keys) row) in
      let many : 127 ≤ length all.children =
      enough (length all.children) (length l.children) (length r.children) (ap length kids ∙ length-append l.children r.children) a.first_many
      a.rest_many in
      subst (λ x. DidRebalance told now_told free now x left right b rs used rebalanced.Joined) (sym n.1) (record {
        pages = m.pages;
        news = news;
        was = m.is_told;
        is = on.1;
        done = record {
          uses = a.under ++ left ∷ [];
          subtree = one_inner left a.under j.here is (ap (λ (i : Inner). i.height) c.all_is ∙ c.is_height ∙ n.1) many
              (subst (λ x. are_within b x ≡ true) (sym keys) a.rises.within) there;
          moves = pair_moves m.pages news free now left right (left ∷ []) a.under used (a.under ++ left ∷ []) a.pair
              (λ p. times-append p a.under (left ∷ [])) j.moves;
        };
      })
    where
      enough : (n x y : ℕ) → n ≡ x + y → 126 ≤ x → 126 ≤ y → 127 ≤ n
      enough n x y e f g = omega arith

  pub inners_separated : (first rest : Inner) (separator : Key) (others : List ℕ)
      → InnersPart told mid now_told free now size height left key right l r first rest separator bytes others
      → CanRebalance told free height left key right b rs used
      → DidRebalance told now_told free now height left right b rs used (rebalanced.Redistributed separator)
  inners_separated first rest separator others c can =
      let n = two_above height c.above in
      let h = n.0 in
      let m = subst (λ x. CanRebalance told free x left key right b rs used) n.1 can in
      let a = are_inners m l r c.reads c.also in
      let on = tells_on (λ old new. new ≡ slice_set (slice_set old left bytes) right others) mid now_told m.pages (c.is_mid ∙ m.is_told) c.tells in
      let w = are_written m.pages free left right bytes others a.apart (has_many told m.pages size left c.many m.is_told c.inside)
      (has_many told m.pages size right c.many m.is_told c.inside_too) in
      let news = slice_set (slice_set m.pages left bytes) right others in
      let S = Subtree news (suc h) false in
      let below : Bounds = record { low = b.low; high = Some separator } in
      let above : Bounds = record { low = Some separator; high = b.high } in
      let long : length news ≡ size = w.size ∙ if_told told m.pages size c.many m.is_told in
      let kids = all_parts (λ x. nat_le 1 x && nat_lt x size) first.children rest.children
      (subst (λ x. are_pages size x ≡ true) (sym c.children) (all_pages size l.children r.children c.children_are c.children_are_too)) in
      let is : inner_of (length news) bytes ≡ Some first = ap (λ x. inner_of x bytes) long ∙ c.written size kids.0 in
      let is_too : inner_of (length news) others ≡ Some rest = ap (λ x. inner_of x others) long ∙ c.written_too size kids.1 in
      let same = under_stays m.pages news free free left right (right ∷ left ∷ []) a.under used a.pair m.apart w.moves in
      let row = rows_stay m.pages news h w.size (bounded (l.children ++ r.children) (l.keys ++ key ∷ r.keys) b) rs a.under same a.row in
      let there : Row S (bounded (first.children ++ rest.children) (first.keys ++ separator ∷ rest.keys) b) rs a.under =
      subst (λ x. Row S (bounded x (first.keys ++ separator ∷ rest.keys) b) rs a.under) (sym c.children)
      (subst (λ x. Row S (bounded (l.children ++ r.children) x b) rs a.under) (sym c.keys) row) in
      let two = row_parts S (bounded first.children first.keys below) (bounded rest.children rest.keys above) rs a.under
      (subst (λ x. Row S x rs a.under) (bounded_join first.children rest.children first.keys rest.keys separator b c.between) there) in
      let parts = rises_apart b first.keys separator rest.keys (subst (IsRising b) (sym c.keys) a.rises) in
      let enough = c.enough a.first_many a.rest_many in
      let moves : KeepsAccount m.pages news free free used ((two.rest_used ++ right ∷ []) ++ (two.first_used ++ left ∷ [])) =
      pair_moves m.pages news free free left right (right ∷ left ∷ []) a.under used ((two.rest_used ++ right ∷ []) ++ (two.first_used ++ left ∷ []))
      a.pair
      (λ p. pair_count p two.rest_used two.first_used left right ∙ ap (λ u. multiplicity p u + multiplicity p (right ∷ left ∷ [])) (sym two.is_used)) w.moves in
      subst (λ x. DidRebalance told now_told free now x left right b rs used (rebalanced.Redistributed separator)) (sym n.1) (record {
        pages = m.pages;
        news = news;
        was = m.is_told;
        is = on.1 ∙ ap Some on.2;
        done = record {
          first = two.first;
          rest = two.rest;
          first_uses = two.first_used ++ left ∷ [];
          rest_uses = two.rest_used ++ right ∷ [];
          is_left =
              one_inner left two.first_used w.here is (c.heights.0 ∙ c.is_height ∙ n.1) enough.0
              parts.before.within two.here;
          is_right = one_inner right two.rest_used w.there is_too
              (c.heights.1 ∙ c.is_height ∙ n.1) enough.1 parts.behind.within two.after;
          records = two.records;
          low = parts.low;
          high = parts.high;
          moves = subst (λ f. KeepsAccount m.pages news free f used ((two.rest_used ++ right ∷ []) ++ (two.first_used ++ left ∷ []))) (sym c.frees) moves;
        };
      })

module _ (told : Option (List (List ℕ))) (free : ℕ → Bool) (height left : ℕ) (key : Key) (right : ℕ) (b : Bounds) (rs : List Record) (used : List ℕ)
    (l r : Inner) where
  pub not_inners : (test : Bool) → 2 ≤ height → ReadsInner told left l → ReadsInner told right r → test ≡ is_ascending (l.keys ++ key ∷ r.keys)
      → test ≡ false → CanRebalance told free height left key right b rs used → ⊥
  not_inners test above reads also e fails can =
      let n = two_above height above in
      let a = are_inners (subst (λ x. CanRebalance told free x left key right b rs used) n.1 can) l r reads
      also in
      never test (is_ascending (l.keys ++ key ∷ r.keys)) e fails a.rises.ascends
    where
      never : (x y : Bool) → x ≡ y → x ≡ false → y ≡ true → ⊥
      never x y e f g = cc

  pub inners_taken : (was : ℕ → Bool) → 2 ≤ height → ReadsInner told left l → ReadsInner told right r → was ≡ free
      → CanRebalance told free height left key right b rs used → (was left ≡ false) × (was right ≡ false)
  inners_taken was above reads also e can =
      let n = two_above height above in
      let a = are_inners (subst (λ x. CanRebalance told free x left key right b rs used) n.1 can) l r reads
      also in
      (ap (λ f. f left) e ∙ left_taken free left right a.apart, ap (λ f. f right) e ∙ right_taken free left right a.apart)
