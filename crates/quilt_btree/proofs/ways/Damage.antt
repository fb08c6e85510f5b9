-- The page that a way down names as damaged is bad itself.
use Rattle.std.proofs.Common.{◌≡◌, ◌≢◌, ◌⊎◌, inl, inr, ℕ, zero, suc, ◌+◌, ◌-◌, ◌<◌, ◌≤◌, List}
use Rattle.std.proofs.Common.{[], length, Option, Some, None, Result, Ok, Err, IfOk, IfErr, IfSome, slice_index, false, ◌==◌}
use Rattle.std.proofs.Common.{slice_index_or, slice_set, refl, sym, ◌∙◌, ap, subst, arith, get_or-set_other}
use Rattle.std.specs.Prelude.{if◌then◌else◌, IsErrOf, is_some, min}
use Rattle.std.specs.List.{last_or}
use Rattle.std.proofs.lemmas.Bool.{false≢true}
use Rattle.std.proofs.lemmas.Option.{none-some}
use Rattle.quilt_record.specs.declared.record.Record.{Record}
use Rattle.quilt_node.specs.Pages.{Inner, leaf_of, inner_of}
use Rattle.quilt_types.specs.declared.stop.Stop.{Stop}
use Rattle.quilt_types.specs.declared.stop.Stop.TheVariants.{Device, Memory, Damaged}
use Rattle.quilt_world.specs.Causes.{Rose}
use Rattle.quilt_world.specs.Causes as causes
use Rattle.quilt_btree.specs.declared.tree.Tree.{Tree}
use Rattle.quilt_btree.specs.declared.step.Found.{Found}
use Rattle.quilt_world.specs.Tale.{Goes}
use Rattle.quilt_btree.specs.Damage.{HasChild, IsBadUnder, NamesBad, OthersStay, NamesSpare, IsBeside, NamesBeside}
use Rattle.quilt_node.proofs.Places as places
use Rattle.quilt_btree.specs.Searches.{AreOf}
use Rattle.quilt_store.specs.Stops.{HasStopCause, IsNotDamage}
use Rattle.quilt_btree.specs.Stops.{unnamed, NamesPage}
use Rattle.quilt_btree.proofs.lists.Counts.{other_test}
use Rattle.quilt_btree.proofs.subtrees.Descending.{height_above}
use Rattle.quilt_btree.proofs.stores.Writes.{tells_at}
use Rattle.quilt_btree.proofs.subtrees.Trees.{inner_list, one_less}
use Rattle.quilt_btree.proofs.ways.Forks.{IsRead, leaf_has_last, child_page}

not_some : {A : Type 0} (o : Option A) → ((x : A) → o ≡ Some x → ⊥) → o ≡ None
not_some None f = refl
not_some (Some x) f = absurd (f x refl)

-- what is not some is none
pub none_of : {A : Type 0} (o : Option A) → is_some o ≡ false → o ≡ None
none_of None e = refl
none_of (Some x) e = absurd (false≢true (sym e))

-- a page above the leaves that is no inner page
pub bad_inner : (old new : Option (List (List ℕ))) (page height size : ℕ) (bytes : List ℕ) → IsRead old new page height size bytes
    → ((inner : Inner) → inner_of size bytes ≡ Some inner → ⊥)
    → NamesBad old height page (Damaged page)
bad_inner old new page height size bytes r f = λ pages is.
    let n = height_above height r.some r.above in
    let same : bytes ≡ slice_index_or pages page [] = r.are pages is in
    let long : length pages ≡ size = subst (λ o. IfSome o (λ pages. length pages ≡ size)) is r.many in
    let none : inner_of size bytes ≡ None = not_some (inner_of size bytes) f in
    let there : inner_of (length pages) (slice_index_or pages page []) ≡ None =
    ap (λ m. inner_of m (slice_index_or pages page [])) long ∙ ap (inner_of size) (sym same) ∙ none in
    subst (λ h. IsBadUnder pages h page page) (sym n.1) (inl (refl, there))

-- a leaf that is none
pub bad_leaf : (told : Option (List (List ℕ))) (page height : ℕ) (bytes : List ℕ) → height ≡ 1 → AreOf told page bytes → leaf_of bytes ≡ None
    → NamesBad told height page (Damaged page)
bad_leaf told page height bytes one are none = λ pages is.
    subst (λ h. IsBadUnder pages h page page) (sym one) (refl, ap leaf_of (sym (are pages is)) ∙ none)

pub bad_last : (told : Option (List (List ℕ))) (page height : ℕ) (bytes : List ℕ) → height ≡ 1 → AreOf told page bytes
    → ((rs : List Record) → leaf_of bytes ≡ Some rs → None ≡ last_or None rs) → NamesBad told height page (Damaged page)
bad_last told page height bytes one are f = bad_leaf told page height bytes one are (not_some (leaf_of bytes) (leaf_has_last bytes f))

pub child_at : (size : ℕ) (bytes : List ℕ) (o : Option ℕ) (child : ℕ) → o ≡ Some child → IfSome o (HasChild size bytes) → HasChild size bytes child
child_at size bytes o child e h = subst (λ p. IfSome p (HasChild size bytes)) e h

module _ (told : Option (List (List ℕ))) (height page : ℕ) where
  -- what names no page names no good one
  pub sound_names : (e : Stop) → IsNotDamage e → NamesBad told height page e
  sound_names Device s = tt
  sound_names Memory s = tt
  sound_names (Damaged q) s = absurd (s q refl)

  -- page 0, or one that is bad for this reason
  pub fault_named : (at q : ℕ) (P : Type 0) → ((q ≡ 0) ⊎ ((q ≡ at) × P)) → (P → NamesBad told height page (Damaged at)) → Damaged q ≢ Damaged 0
      → NamesBad told height page (Damaged q)
  fault_named at q P (inl e) f ne = absurd (ne (ap Damaged e))
  fault_named at q P (inr e) f ne = subst (λ q. NamesBad told height page (Damaged q)) (sym e.0) (f e.1)

not_none : {A : Type 0} (o : Option A) → o ≡ None → (x : A) → o ≡ Some x → ⊥
not_none o none x is = none-some x (sym none ∙ is)

none_below_one : (q : ℕ) → q < 1 → q ≡ 0
none_below_one q lt = omega arith

-- what names no page over 0 names no good one
pub zero_names : (told : Option (List (List ℕ))) (height page : ℕ) (e : Stop) → NamesPage 1 e → e ≢ Damaged 0 → NamesBad told height page e
zero_names told height page Device h ne = tt
zero_names told height page Memory h ne = tt
zero_names told height page (Damaged q) h ne = absurd (ne (ap Damaged (none_below_one q h)))

pub zero_named : {T : Type 0} (r : Result T Stop) (told : Option (List (List ℕ))) (height page : ℕ) → IfErr r (NamesPage 1)
    → IfErr r (λ e. e ≢ Damaged 0 → NamesBad told height page e)
zero_named (Ok v) told height page f = f
zero_named (Err e) told height page f = zero_names told height page e f

-- one of so many pages is one of more
pub names_more : (n m : ℕ) (e : Stop) → n ≤ m → NamesPage n e → NamesPage m e
names_more n m Device le h = tt
names_more n m Memory le h = tt
names_more n m (Damaged q) le h = omega arith

pub named_more : {T : Type 0} (r : Result T Stop) (n m : ℕ) → n ≤ m → IfErr r (NamesPage n) → IfErr r (NamesPage m)
named_more (Ok v) n m le f = f
named_more (Err e) n m le f = names_more n m e le f

-- page 0, or one of a store of so many
pub fault_names : {T : Type 0} (r : Result T Stop) (size page : ℕ) (P : Type 0) → page < size
    → IfErr r (λ e. (q : ℕ) → e ≡ Damaged q → (q ≡ 0) ⊎ ((q ≡ page) × P)) → IfErr r (NamesPage size)
fault_names (Ok v) size page P lt f = f
fault_names (Err Device) size page P lt f = tt
fault_names (Err Memory) size page P lt f = tt
fault_names (Err (Damaged q)) size page P lt f = at (f q refl)
  where
    at : ((q ≡ 0) ⊎ ((q ≡ page) × P)) → q < size
    at (inl none) = omega arith
    at (inr is) = let same = is.0 in omega arith

pub zero_faults : {T : Type 0} (r : Result T Stop) (P : ℕ → Type 0) → IfErr r (NamesPage 1) → IfErr r (λ e. (q : ℕ) → e ≡ Damaged q → (q ≡ 0) ⊎ P q)
zero_faults (Ok v) P f = f
zero_faults (Err e) P f = λ q is. inl (none_below_one q (subst (NamesPage 1) is f))

-- what is named at a leaf
pub named_leaf : {T : Type 0} (r : Result T Stop) (told : Option (List (List ℕ))) (height page : ℕ) → height ≡ 1
    → IfErr r (λ e. e ≢ Damaged 0 → NamesBad told 1 page e) → IfErr r (λ e. e ≢ Damaged 0 → NamesBad told height page e)
named_leaf r told height page one f = subst (λ h. IfErr r (λ e. e ≢ Damaged 0 → NamesBad told h page e)) (sym one) f

module _ {old new : Option (List (List ℕ))} {page height size : ℕ} {bytes : List ℕ} where
  -- what is bad under a child is bad under its page
  pub bad_below : (child : ℕ) (e : Stop) → IsRead old new page height size bytes → HasChild size bytes child → NamesBad new (height - 1) child e
      → NamesBad old height page e
  bad_below child Device r c f = tt
  bad_below child Memory r c f = tt
  bad_below child (Damaged q) r c f = λ pages is.
      let n = height_above height r.some r.above in
      let same : bytes ≡ slice_index_or pages page [] = r.are pages is in
      let long : length pages ≡ size = subst (λ o. IfSome o (λ pages. length pages ≡ size)) is r.many in
      let less : height - 1 ≡ suc n.0 = one_less height n.0 n.1 in
      let under : IsBadUnder pages (suc n.0) child q = subst (λ h. IsBadUnder pages h child q) less (f pages (r.told ∙ is)) in
      let here : HasChild (length pages) (slice_index_or pages page []) child =
      subst (λ m. HasChild m (slice_index_or pages page []) child) (sym long) (subst (λ b. HasChild size b child) same c) in
      subst (λ h. IsBadUnder pages h page q) (sym n.1) (inr (child, here, under))

  pub names_below : {T : Type 0} (r : Result T Stop) (child : ℕ) → IsRead old new page height size bytes → HasChild size bytes child
      → IfErr r (NamesBad new (height - 1) child) → IfErr r (NamesBad old height page)
  names_below (Ok v) child r c f = f
  names_below (Err e) child r c f = bad_below child e r c f

  -- the page of the bytes that the search came to
  pub spoilt_below : (r : Result Found Stop) (child : ℕ) → IsRead old new page height size bytes → HasChild size bytes child
      → IfOk r (λ found. (last : List ℕ) → AreOf new found.page last → leaf_of last ≡ None → NamesBad new (height - 1) child (Damaged found.page))
      → IfOk r (λ found. (last : List ℕ) → AreOf old found.page last → leaf_of last ≡ None → NamesBad old height page (Damaged found.page))
  spoilt_below (Err e) child r c f = f
  spoilt_below (Ok v) child r c f = λ last are none.
      bad_below child (Damaged v.page) r c (f last (λ pages is. are pages (sym r.told ∙ is)) none)

  -- page 0, or a page above the leaves that is no inner page
  pub inner_fault : (q : ℕ) → IsRead old new page height size bytes → ((q ≡ 0) ⊎ ((q ≡ page) × (inner_of size bytes ≡ None))) → Damaged q ≢ Damaged 0
      → NamesBad old height page (Damaged q)
  inner_fault q r f =
      fault_named old height page page q (inner_of size bytes ≡ None) f
      (λ none. bad_inner old new page height size bytes r (not_none (inner_of size bytes) none))

  pub inner_faults : {T : Type 0} (r : Result T Stop) → IsRead old new page height size bytes
      → IfErr r (λ e. (q : ℕ) → e ≡ Damaged q → (q ≡ 0) ⊎ ((q ≡ page) × (inner_of size bytes ≡ None))) → IfErr r (λ e. e ≢ Damaged 0 → NamesBad old height page e)
  inner_faults (Ok v) r f = f
  inner_faults (Err Device) r f = λ ne. tt
  inner_faults (Err Memory) r f = λ ne. tt
  inner_faults (Err (Damaged q)) r f = inner_fault q r (f q refl)

  -- where the store tells the same, and the way has come to a child
  pub named_below : {T : Type 0} (r : Result T Stop) (child : ℕ) → IsRead old new page height size bytes → HasChild size bytes child
      → IfErr r (λ e. e ≢ Damaged 0 → NamesBad new (height - 1) child e) → IfErr r (λ e. e ≢ Damaged 0 → NamesBad old height page e)
  named_below (Ok v) child r c f = f
  named_below (Err e) child r c f = λ ne. bad_below child e r c (f ne)

-- what a run says of why it stops, where one of its steps has stopped for that reason
pub record StopsBehind (e stop : Stop) (done : ℕ) : Type 0 where
  pub first : done ≡ 0 → stop ≡ e
  pub names : (size : ℕ) → 0 < size → NamesPage size e → NamesPage size stop
  pub device : stop ≡ Device → e ≡ Device
  pub damaged : (page : ℕ) → stop ≡ Damaged page → (q : ℕ) × (e ≡ Damaged q) × ((page ≡ q) ⊎ (page ≡ 0))
  pub later : 0 < done → NamesPage 1 stop

unnamed_behind : (e : Stop) (done : ℕ) → 0 < done → StopsBehind e (unnamed e) done
unnamed_behind Device done some =
    record { first = λ z. refl; names = λ size lt h. tt; device = λ d. refl; damaged = λ page is. (page, is, inl refl); later = λ lt. tt }
unnamed_behind Memory done some =
    record { first = λ z. refl; names = λ size lt h. tt; device = λ d. d; damaged = λ page is. (page, is, inl refl); later = λ lt. tt }
unnamed_behind (Damaged q) done some = record {
  first = λ z. absurd (omega arith);
  names = λ size lt h. lt;
  device = λ d. absurd (other d);
  damaged = λ page is. (q, refl, inr (same page is));
  later = λ lt. omega arith;
}
  where
    other : Damaged 0 ≡ Device → ⊥
    other h = cc

    same : (page : ℕ) → Damaged 0 ≡ Damaged page → page ≡ 0
    same page h = cc

pub stops_behind : (e stop : Stop) (done : ℕ) → stop ≡ (if done == 0 then e else unnamed e) → StopsBehind e stop done
stops_behind e stop zero is = record {
  first = λ z. is;
  names = λ size lt h. subst (λ s. NamesPage size s) (sym is) h;
  device = λ d. sym is ∙ d;
  damaged = λ page p. (page, sym is ∙ p, inl refl);
  later = λ lt. absurd (omega arith);
}
stops_behind e stop (suc n) is =
    let some : (suc n == 0) ≡ false = other_test (suc n) 0 (λ h. omega arith) in
    let same : stop ≡ unnamed e = is ∙ ap (λ b. if b then e else unnamed e) some in
    subst (λ s. StopsBehind e s (suc n)) (sym same) (unnamed_behind e (suc n) (omega arith))

pub run_zero : (P : Type 0) (e stop : Stop) (done : ℕ) → StopsBehind e stop done → ((page : ℕ) → e ≡ Damaged page → (page ≡ 0) × P)
    → (page : ℕ) → stop ≡ Damaged page → (page ≡ 0) × P
run_zero P e stop done s f page is =
    let d = s.damaged page is in
    let z = f d.0 d.1 in
    (at d.0 page z.0 d.2, z.1)
  where
    at : (q page : ℕ) → q ≡ 0 → ((page ≡ q) ⊎ (page ≡ 0)) → page ≡ 0
    at q page none (inl same) = same ∙ none
    at q page none (inr is) = is

-- the first step of a run judges the store as it was, and what a later one says names no page over 0
pub run_names : {e stop : Stop} {done : ℕ} (told mid : Option (List (List ℕ))) (t u : Tree) → StopsBehind e stop done
    → (done ≡ 0 → (mid ≡ told) × (u ≡ t)) → (e ≢ Damaged 0 → NamesBad mid u.height u.root e) → stop ≢ Damaged 0 → NamesBad told t.height t.root stop
run_names {e = e} {done = zero} told mid t u s start f ne =
    let is = s.first refl in
    subst (λ x. NamesBad told t.height t.root x) (sym is)
    (subst (λ (x : Tree). NamesBad told x.height x.root e) (start refl).1
    (subst (λ o. NamesBad o u.height u.root e) (start refl).0 (f (λ z. ne (is ∙ z)))))
run_names {stop = stop} {done = (suc n)} told mid t u s start f ne = zero_names told t.height t.root stop (s.later (omega arith)) ne

least_rises : (top before mid now : ℕ) → before ≤ mid → min (mid + 1) top ≤ now → min (before + 1) top ≤ now
least_rises top before mid now le h = omega arith

rose : (before mid now : ℕ) → before ≤ mid → Rose mid now → Rose before now
rose before mid now le h = least_rises causes.last before mid now le h

pub run_cause : {T U : Type 0} {e stop : Stop} {done : ℕ} (before : ℕ) {mid now : ℕ} → StopsBehind e stop done → before ≤ mid
    → HasStopCause {T = U} mid now (Err e) → HasStopCause {T = T} before now (Err stop)
run_cause {e = e} {stop = stop} before {mid = mid} {now = now} s le c = record {
  later = let m = c.later in omega arith;
  device = λ d. rose before mid now le (c.device (onto e (s.device (from stop d))));
}
  where
    from : {T : Type 0} (x : Stop) → IsErrOf {T = T} {E = Stop} (Err x) Device → x ≡ Device
    from x h = cc

    onto : {T : Type 0} (x : Stop) → x ≡ Device → IsErrOf {T = T} {E = Stop} (Err x) Device
    onto x h = ap Err h

-- where the store tells the same
pub named_along : {T : Type 0} (r : Result T Stop) (told now : Option (List (List ℕ))) (height page : ℕ) → now ≡ told
    → IfErr r (λ e. e ≢ Damaged 0 → NamesBad now height page e) → IfErr r (λ e. e ≢ Damaged 0 → NamesBad told height page e)
named_along r told now height page same f = subst (λ t. IfErr r (λ e. e ≢ Damaged 0 → NamesBad t height page e)) same f

module _ (told now : Option (List (List ℕ))) (height page : ℕ) (e : Stop) (same : now ≡ told) where
  -- where the store tells the same
  pub names_along : (e ≢ Damaged 0 → NamesBad now height page e) → e ≢ Damaged 0 → NamesBad told height page e
  names_along f = subst (λ t. e ≢ Damaged 0 → NamesBad t height page e) same f

  pub names_spare : (named spare : ℕ) → 1 ≤ page → ((named ≡ 0) ⊎ ((named ≡ page) × (page ≡ spare))) → NamesPage (named + 1) e
      → (named ≡ page → NamesBad now 1 page e) → height ≡ 1 → NamesSpare told height spare e
  names_spare named spare some (inl z) n b one = λ q is ne. absurd (ne (zero q named z (subst (NamesPage (named + 1)) is n)))
    where
      zero : (q m : ℕ) → m ≡ 0 → q < m + 1 → q ≡ 0
      zero q m z lt = omega arith
  names_spare named spare some (inr p) n b one = λ q is ne. (
    one,
    over page spare p.1 some,
    subst (λ s. NamesBad told 1 s e) p.1 (subst (λ t. NamesBad t 1 page e) same (b p.0)),
  )
    where
      over : (m n : ℕ) → m ≡ n → 1 ≤ m → n ≢ 0
      over m n e le = λ z. omega arith

pub no_spare : (told : Option (List (List ℕ))) (height spare : ℕ) (e : Stop) → NamesPage 1 e → NamesSpare told height spare e
no_spare told height spare e n = λ q is ne. absurd (ne (none_below_one q (subst (NamesPage 1) is n)))

pub no_spares : {T : Type 0} (r : Result T Stop) (told : Option (List (List ℕ))) (height spare : ℕ) → IfErr r (NamesPage 1)
    → IfErr r (NamesSpare told height spare)
no_spares (Ok v) told height spare f = f
no_spares (Err e) told height spare f = no_spare told height spare e f

pub no_besides : {T : Type 0} (r : Result T Stop) (told : Option (List (List ℕ))) (height : ℕ) (inner : Inner) (i : ℕ) → IfErr r (NamesPage 1)
    → IfErr r (NamesBeside told height inner i)
no_besides (Ok v) told height inner i f = f
no_besides (Err e) told height inner i f = no_beside told height inner i e f
  where
    no_beside : (told : Option (List (List ℕ))) (height : ℕ) (inner : Inner) (i : ℕ) (e : Stop) → NamesPage 1 e → NamesBeside told height inner i e
    no_beside told height inner i e n = λ q is ne. absurd (ne (none_below_one q (subst (NamesPage 1) is n)))

-- two neighbours among the children of a page, and one of its children
pub record AreNeighbours (inner : Inner) (i j left right child : ℕ) : Type 0 where
  pub in_range : j + 1 < length inner.children
  pub is_left : left ≡ slice_index inner.children j
  pub is_right : right ≡ slice_index inner.children (j + 1)
  pub is_child : child ≡ slice_index inner.children i

-- the leaf beside a child
pub names_beside : {told : Option (List (List ℕ))} {height : ℕ} {inner : Inner} {i j left right child : ℕ} (spare : ℕ) (e : Stop) → 2 ≤ height
    → AreNeighbours inner i j left right child → (spare ≢ 0 → ((spare ≡ left) ⊎ (spare ≡ right)) × (spare ≢ child)) → NamesSpare told (height - 1) spare e
    → NamesBeside told height inner i e
names_beside {told} {height} {inner} {i} {j} {left} {right} {child} spare e many two other names = λ q is ne.
    let n = names q is ne in
    let o = other n.1 in
    let tall : height ≡ 2 = let h = n.0 in omega arith in
    at o.0 tall o.1 n.2
  where
    at : ((spare ≡ left) ⊎ (spare ≡ right)) → height ≡ 2 → spare ≢ child → NamesBad told 1 spare e → IsBeside told height inner i e
    at (inl same) tall apart bad = record {
      two = tall;
      place = j;
      in_range = let lt = two.in_range in omega arith;
      other = λ z. apart (same ∙ two.is_left ∙ z ∙ sym two.is_child);
      bad = subst (λ s. NamesBad told 1 s e) (same ∙ two.is_left) bad;
    }
    at (inr same) tall apart bad = record {
      two = tall;
      place = j + 1;
      in_range = two.in_range;
      other = λ z. apart (same ∙ two.is_right ∙ z ∙ sym two.is_child);
      bad = subst (λ s. NamesBad told 1 s e) (same ∙ two.is_right) bad;
    }

-- and it is bad at the call, since it was not written
pub beside_named : {T : Type 0} (result : Result T Stop) {told mid : Option (List (List ℕ))} (now : Option (List (List ℕ))) {page height size : ℕ}
    (i : ℕ) {child : ℕ} {bytes : List ℕ} {inner : Inner} → IsRead told mid page height size bytes → inner_of size bytes ≡ Some inner
    → child ≡ slice_index inner.children i → (height - 1 ≡ 1 → Goes (OthersStay child) mid now) → IfErr result (NamesBeside now height inner i)
    → IfErr result (λ e. e ≢ Damaged 0 → NamesBad told height page e)
beside_named (Ok v) now i r is c others f = f
beside_named (Err Device) now i r is c others f = λ ne. tt
beside_named (Err Memory) now i r is c others f = λ ne. tt
beside_named (Err (Damaged q)) {told = told} {mid = mid} now {page = page} {height = height} {size = size} i {child = child} {bytes = bytes} {inner} r is c others f
    = λ ne.
    let b = f q refl (λ z. ne (ap Damaged z)) in
    let one : height - 1 ≡ 1 = let t = b.two in omega arith in
    let l = inner_list size bytes inner is in
    let in_store = child_page size inner.children b.place l.in_range b.in_range in
    bad_below (slice_index inner.children b.place) (Damaged q) r
    (record {
      place = b.place;
      in_range = let m = l.most in let lt = b.in_range in omega arith;
      stands = sym (places.child_at size bytes inner b.place is b.in_range);
      least = in_store.0;
      most = in_store.1;
    })
    (subst (λ h. NamesBad mid h (slice_index inner.children b.place) (Damaged q)) (sym one) (λ pages t.
    let n = tells_at (OthersStay child) mid now pages (others one) t in
    let bad = b.bad n.0 n.1 in
    (bad.0, ap leaf_of (sym (n.2 (slice_index inner.children b.place) (λ z. b.other (z ∙ c)))) ∙ bad.1)))

-- where all pages are as they were, and where one was written
pub same_others : (page : ℕ) (old new : Option (List (List ℕ))) → new ≡ old → Goes (OthersStay page) old new
same_others page old new same = subst (λ n. Goes (OthersStay page) old n) (sym same) (at old)
  where
    at : (o : Option (List (List ℕ))) → Goes (OthersStay page) o o
    at None = tt
    at (Some pages) = λ q ne. refl

pub wrote_others : (page : ℕ) (bytes : List ℕ) (old mid new : Option (List (List ℕ))) → mid ≡ old
    → Goes (λ before now. now ≡ slice_set before page bytes) mid new → Goes (OthersStay page) old new
wrote_others page bytes old mid new same wrote = at old new (subst (λ o. Goes (λ before now. now ≡ slice_set before page bytes) o new) same wrote)
  where
    at : (a b : Option (List (List ℕ))) → Goes (λ before now. now ≡ slice_set before page bytes) a b → Goes (OthersStay page) a b
    at None None h = tt
    at None (Some y) h = h
    at (Some x) None h = h
    at (Some x) (Some y) h = λ q ne. ap (λ pages. slice_index_or pages q []) h ∙ get_or-set_other x page q bytes [] ne
