-- Tests of the keys of a page, and the children of one with their bounds.
use Rattle.std.proofs.Common.{◌≡◌, ℕ, zero, suc, ◌+◌, ◌-◌, ◌<◌, ◌≤◌, Bool, true, false, ◌&&◌, List, [], ◌∷◌, ◌++◌, map, length, take, drop}
use Rattle.std.proofs.Common.{Option, Some, None, refl, sym, ◌∙◌, ap, subst, arith, slice_index, slice_index_or, cond, eqb, eq-eqb, ⊎_elim}
use Rattle.std.proofs.Common.{Result, Ok, Err, OnOk, OnErr, IfErr}
use Rattle.std.specs.Prelude.{◌==◌}
use Rattle.std.specs.List.{list_all, list_any, slice_get, range_with_len}
use Rattle.std.proofs.lemmas.List.FromFn.{length-range_with_len}
use Rattle.std.specs.Option.{option_or, option_map}
use Rattle.std.proofs.lemmas.Option.{slice_get-map, slice_get_within, get_or_from_slice_get}
use Rattle.std.proofs.lemmas.List.{take_more}
use Rattle.quilt_record.specs.declared.key.Key.{Key}
use Rattle.quilt_record.specs.declared.record.Record.{Record}
use Rattle.quilt_loc.proofs.Members.{Contains-nil, Contains-cons_cases, Contains-range}
use Rattle.quilt_node.specs.Pages.{leaf_of, inner_of}
use Rattle.quilt_node.specs.Tree.{Bounds, Walk, Whole, Damaged, bounded, behind, each_child, leaf_walk, inner_walk, walk}
use Rattle.quilt_world.specs.Tale.{Goes}
use Rattle.quilt_btree.proofs.subtrees.Walks.{if_false}
use Rattle.quilt_types.specs.declared.stop.Stop.{Stop}
use Rattle.quilt_types.specs.declared.stop.Stop.TheVariants.{Device, Memory, Damaged as Says}
use Rattle.quilt_audit.specs.Surveys.{OnDamaged}
use Rattle.quilt_audit.specs.Checking.{TakesRecords}
use Rattle.quilt_audit.specs.declared.progress.Surveying.{Surveying}
use Rattle.quilt_types.specs.Bits.{has_bit}
use Rattle.quilt_audit.specs.Bits.{Marks}
use Rattle.quilt_audit.specs.Walking.{Spent, SpentSome, Added, Found, Reached}
use Rattle.quilt_spell.proofs.Lists.{Apart-le}
use Rattle.quilt_spell.proofs.facts.SameFacts.{member_any}
use Rattle.quilt_audit.proofs.Bits.{Marks-more, AreWithin-more}
use Rattle.quilt_audit.proofs.Feeding.{Takes-none, Takes-then}

-- a page that has no bit was not visited
pub unlisted : (bits visited : List ℕ) (page : ℕ) (b : Bool) → Marks bits visited → b ≡ has_bit bits page → b ≡ false
    → list_any (λ v. v == page) visited ≡ false
unlisted bits visited page b m is unset = sym (m.each page) ∙ sym is ∙ unset

all_append : {X : Type 0} (p : X → Bool) (xs : List X) (x : X) → list_all p xs ≡ true → p x ≡ true → list_all p (xs ++ x ∷ []) ≡ true
all_append p [] x h t = both (p x) t
  where
    both : (b : Bool) → b ≡ true → (b && true) ≡ true
    both true e = refl
    both false e = cc
all_append p (y ∷ ys) x h t = step (p y) h (λ r. all_append p ys x r t)
  where
    step : (b : Bool) → (b && list_all p ys) ≡ true → (list_all p ys ≡ true → list_all p (ys ++ x ∷ []) ≡ true) → (b && list_all p (ys ++ x ∷ [])) ≡ true
    step true g f = f g
    step false g f = cc

pub all_more : {X : Type 0} (p : X → Bool) (xs : List X) (i : ℕ) (x : X) → slice_get xs i ≡ Some x → list_all p (take i xs) ≡ true → p x ≡ true
    → list_all p (take (i + 1) xs) ≡ true
all_more p xs i x at h t =
    let e = take_more xs i x (slice_get_within xs i x at) ∙ ap (λ z. take i xs ++ z ∷ []) (get_or_from_slice_get xs i x x at) in
    ap (list_all p) e ∙ all_append p (take i xs) x h t

pub all_stops : {X : Type 0} (p : X → Bool) (xs : List X) (i : ℕ) (x : X) → slice_get xs i ≡ Some x → p x ≡ false → false ≡ list_all p xs
all_stops p [] zero x at f = cc
all_stops p [] (suc i) x at f = cc
all_stops p (y ∷ ys) zero x at f = let same : y ≡ x = cc in first (p y) (ap p same ∙ f)
  where
    first : (b : Bool) → b ≡ false → false ≡ (b && list_all p ys)
    first true e = cc
    first false e = refl
all_stops p (y ∷ ys) (suc i) x at f = later (p y) (all_stops p ys i x at f)
  where
    later : (b : Bool) → false ≡ list_all p ys → false ≡ (b && list_all p ys)
    later true e = e
    later false e = refl

pub key_of_record : (rs : List Record) (i : ℕ) (r : Record) → slice_get rs i ≡ Some r → slice_get (map (λ (s : Record). s.key) rs) i ≡ Some r.key
key_of_record rs i r at = slice_get-map (λ (s : Record). s.key) rs i ∙ ap (option_map (λ (s : Record). s.key)) at

-- ---- what a walk adds
pub tells_same : (v : ℕ) (o : Option ℕ) → Goes {A = ℕ} (λ was is. is + v ≤ was + v) o o
tells_same v None = tt
tells_same v (Some n) = omega arith

pub tells_then : (u v w : ℕ) (a b c : Option ℕ) → Goes {A = ℕ} (λ was is. is + u ≤ was + v) a b → Goes {A = ℕ} (λ was is. is + v ≤ was + w) b c
    → Goes {A = ℕ} (λ was is. is + u ≤ was + w) a c
tells_then u v w None None None h k = tt
tells_then u v w (Some m) (Some n) (Some o) h k = omega arith
tells_then u v w None None (Some o) h k = absurd k
tells_then u v w None (Some n) c h k = absurd h
tells_then u v w (Some m) None c h k = absurd h
tells_then u v w (Some m) (Some n) None h k = absurd k

pub tells_one : (v : ℕ) (a b : Option ℕ) → Goes {A = ℕ} (λ was is. is ≤ was + 1) a b → Goes {A = ℕ} (λ was is. is + v ≤ was + suc v) a b
tells_one v None None h = tt
tells_one v (Some m) (Some n) h = omega arith
tells_one v None (Some n) h = absurd h
tells_one v (Some m) None h = absurd h

pub Spent-none : (size : ℕ) (visited : List ℕ) (reads : Option ℕ) → Spent size visited visited reads reads
Spent-none size visited reads = record { apart = λ a. a; in_store = λ h. h; reads = tells_same (length visited) reads }

pub Spent-then : (size : ℕ) (visited now later : List ℕ) (x y z : Option ℕ) → Spent size visited now x y → Spent size now later y z
    → Spent size visited later x z
Spent-then size visited now later x y z h k = record {
  apart = λ a. k.apart (h.apart a);
  in_store = λ w. k.in_store (h.in_store w);
  reads = tells_then (length visited) (length now) (length later) x y z h.reads k.reads;
}

-- one page that was not visited before
pub Spent-page : (size : ℕ) (visited : List ℕ) (before after : Option ℕ) (page : ℕ) → 1 ≤ page → page < size
    → list_any (λ v. v == page) visited ≡ false → Goes {A = ℕ} (λ was is. is ≤ was + 1) before after
    → Spent size visited (page ∷ visited) before after
Spent-page size visited before after page low high fresh reads = record {
  apart = λ a. ((λ c. let t = member_any (λ v. v == page) visited page c (eq-eqb page page refl) in let clash : false ≡ true = sym fresh ∙ t in cc), a);
  in_store = λ w p c. ⊎_elim (λ same. (omega arith, omega arith)) (λ d. w p d) (Contains-cons_cases page visited p c);
  reads = tells_one (length visited) before after reads;
}

-- fewer pages than the store has
pub spent_few : (size : ℕ) (now : List ℕ) (before after : Option ℕ) → 16 ≤ size → Spent size [] now before after
    → Goes {A = ℕ} (λ was is. is < was + size) before after
spent_few size now before after some h =
    let all = Apart-le now (range_with_len 1 (size - 1)) (h.apart tt) (λ p c. let w = h.in_store (λ q d. absurd (Contains-nil q d)) p c in
    let a = w.0 in let b = w.1 in Contains-range 1 (size - 1) p (omega arith) (omega arith)) in
    let long = length-range_with_len 1 (size - 1) in
    below (length now) before after (omega arith) h.reads
  where
    below : (n : ℕ) (a b : Option ℕ) → n < size → Goes {A = ℕ} (λ was is. is + 0 ≤ was + n) a b → Goes {A = ℕ} (λ was is. is < was + size) a b
    below n None None lt r = tt
    below n (Some x) (Some y) lt r = omega arith
    below n None (Some y) lt r = absurd r
    below n (Some x) None lt r = absurd r

pub Added-none : (size : ℕ) (visited : List ℕ) (s : Surveying) (reads : Option ℕ) → Marks s.used visited → Added size visited s s reads reads [] visited
Added-none size visited s reads m = record { takes = Takes-none s.checker; marks = m; within = λ h. h; spent = Spent-none size visited reads }

pub Added-then : (size : ℕ) (visited now later : List ℕ) (a b c : Surveying) (x y z : Option ℕ) (rs ss : List Record)
    → Added size visited a b x y rs now → Added size now b c y z ss later → Added size visited a c x z (rs ++ ss) later
Added-then size visited now later a b c x y z rs ss h k = record {
  takes = Takes-then a.checker b.checker c.checker rs ss h.takes k.takes;
  marks = k.marks;
  within = λ w. k.within (h.within w);
  spent = Spent-then size visited now later x y z h.spent k.spent;
}

-- ---- the children from left to right
pub damaged_stays : (visit : ℕ × Bounds → List ℕ → Walk) (cs : List (ℕ × Bounds)) (p : ℕ) → each_child visit cs (Damaged p) ≡ Damaged p
damaged_stays visit [] p = refl
damaged_stays visit (c ∷ cs) p = damaged_stays visit cs p

abbrev pub from_to : Option Key → Option Key → Bounds
from_to low high = record { low = low; high = high }

-- the next child, and those behind it
pub bounded_at : (children : List ℕ) (keys : List Key) (i c : ℕ) (low high : Option Key) → i < length children → length children ≡ suc (length keys)
    → c ≡ slice_index children i
    → bounded (drop i children) (drop i keys) (from_to low high)
    ≡ (c, from_to low (option_or (slice_get keys i) high))
    ∷ bounded (drop (suc i) children) (drop (suc i) keys) (from_to (option_or (slice_get keys i) high) high)
bounded_at [] keys i c low high lt long is = absurd (omega arith)
bounded_at (d ∷ []) [] zero c low high lt long is = ap (λ z. (z, from_to low high) ∷ []) (sym is)
bounded_at (d ∷ e ∷ ds) [] zero c low high lt long is = absurd (omega arith)
bounded_at (d ∷ ds) [] (suc i) c low high lt long is = absurd (omega arith)
bounded_at (d ∷ ds) (k ∷ ks) zero c low high lt long is = ap (λ z. (z, from_to low (Some k)) ∷ bounded ds ks (from_to (Some k) high)) (sym is)
bounded_at (d ∷ ds) (k ∷ ks) (suc i) c low high lt long is = bounded_at ds ks i c low high (omega arith) (omega arith) is

module _ (size : ℕ) (told : Option (List (List ℕ))) (height : ℕ) (children : List ℕ) (keys : List Key) (low high : Option Key) where
  -- the walk of all children, and of those from a place on
  abbrev pub of_all : List ℕ → List (List ℕ) → Walk
  of_all visited pages = each_child (walk pages height false) (bounded children keys (from_to low high)) (Whole [] visited)

  abbrev pub of_rest : ℕ → Option Key → List (List ℕ) → List Record → List ℕ → Walk
  of_rest i from pages rs now = each_child (walk pages height false) (bounded (drop i children) (drop i keys) (from_to from high)) (Whole rs now)

  pub reached_first : (visited : List ℕ) (s : Surveying) (reads : Option ℕ) → Marks s.used visited
      → Reached size told (of_all visited) (of_rest 0 low) visited s s reads reads
  reached_first visited s reads m = record { rs = []; now = visited; added = Added-none size visited s reads m; walks = λ pages e. refl }

  module _ (i c : ℕ) (from : Option Key) (lt : i < length children) (long : length children ≡ suc (length keys)) (is : c ≡ slice_index children i) where
    pub reached_next : (visited : List ℕ) (old mid new : Surveying) (x y z : Option ℕ) (to : Option Key) (now_told : Option (List (List ℕ)))
        (now_size : ℕ) → now_told ≡ told → now_size ≡ size → to ≡ option_or (slice_get keys i) high
        → (h : Reached size told (of_all visited) (of_rest i from) visited old mid x y)
        → Found now_size now_told (λ pages. walk pages height false (c, from_to from to) h.now) h.now mid new y z
        → Reached size told (of_all visited) (of_rest (i + 1) to) visited old new x z
    reached_next visited old mid new x y z to now_told now_size same_told same_size to_is h f = record {
      rs = h.rs ++ f.rs;
      now = f.now;
      added =
          Added-then size visited h.now f.now old mid new x y z h.rs f.rs h.added (subst (λ (k : ℕ). Added k h.now mid new y z f.rs f.now) same_size f.added);
      walks = λ pages e. h.walks pages e ∙ step pages (f.walks pages (same_told ∙ e));
    }
      where
        step : (pages : List (List ℕ)) → walk pages height false (c, from_to from to) h.now ≡ Whole f.rs f.now
            → of_rest i from pages h.rs h.now ≡ of_rest (i + 1) to pages (h.rs ++ f.rs) f.now
        step pages w =
            let visit = walk pages height false in
            let w' = subst (λ (o : Option Key). walk pages height false (c, from_to from o) h.now ≡ Whole f.rs f.now) to_is w in
            ap (λ l. each_child visit l (Whole h.rs h.now)) (bounded_at children keys i c from high lt long is)
            ∙ ap (λ v. each_child visit (bounded (drop (suc i) children) (drop (suc i) keys) (from_to (option_or (slice_get keys i) high) high))
            (behind h.rs v)) w'
            ∙ ap (λ o. each_child visit (bounded (drop (suc i) children) (drop (suc i) keys) (from_to o high)) (Whole (h.rs ++ f.rs) f.now)) (sym to_is)
            ∙ ap (λ j. each_child visit (bounded (drop j children) (drop j keys) (from_to to high)) (Whole (h.rs ++ f.rs) f.now))
            (let k : suc i ≡ i + 1 = omega arith in k)

    pub reached_stop : (visited : List ℕ) (old mid : Surveying) (x y : Option ℕ) (to : Option Key) (p : ℕ) (pages : List (List ℕ))
        → told ≡ Some pages → to ≡ option_or (slice_get keys i) high
        → (h : Reached size told (of_all visited) (of_rest i from) visited old mid x y)
        → walk pages height false (c, from_to from to) h.now ≡ Damaged p → of_all visited pages ≡ Damaged p
    reached_stop visited old mid x y to p pages e to_is h w =
        let visit = walk pages height false in
        let rest = bounded (drop (suc i) children) (drop (suc i) keys) (from_to (option_or (slice_get keys i) high) high) in
        let w' = subst (λ (o : Option Key). walk pages height false (c, from_to from o) h.now ≡ Damaged p) to_is w in
        h.walks pages e
        ∙ ap (λ l. each_child visit l (Whole h.rs h.now)) (bounded_at children keys i c from high lt long is)
        ∙ ap (λ v. each_child visit rest (behind h.rs v)) w' ∙ damaged_stays visit rest p

pub walk_leaf : (pages : List (List ℕ)) (is_root : Bool) (at : ℕ × Bounds) (visited : List ℕ) → list_any (λ v. v == at.0) visited ≡ false
    → walk pages 1 is_root at visited ≡ leaf_walk is_root at.1 at.0 visited (leaf_of (slice_index_or pages at.0 []))
walk_leaf pages is_root at visited f = if_false _ _ _ f

pub walk_inner : (pages : List (List ℕ)) (height : ℕ) (is_root : Bool) (at : ℕ × Bounds) (visited : List ℕ) → 2 ≤ height
    → list_any (λ v. v == at.0) visited ≡ false
    → walk pages height is_root at visited ≡ inner_walk (walk pages (height - 1) false) height is_root at.1 at.0 visited
    (inner_of (length pages) (slice_index_or pages at.0 []))
walk_inner pages zero is_root at visited few f = absurd (omega arith)
walk_inner pages (suc zero) is_root at visited few f = absurd (omega arith)
walk_inner pages (suc (suc h)) is_root at visited few f =
    if_false _ _ _ f
    ∙ ap (λ k. inner_walk (walk pages k false) (suc (suc h)) is_root at.1 at.0 visited (inner_of (length pages) (slice_index_or pages at.0 [])))
    (let e : suc h ≡ suc (suc h) - 1 = omega arith in e)

-- a page that was marked, and the records that it gave
pub Added-page : (size : ℕ) (visited : List ℕ) (old new : Surveying) (before after : Option ℕ) (page : ℕ) (rs : List Record) → 1 ≤ page → page < size
    → Marks old.used visited → list_any (λ v. v == page) visited ≡ false
    → ((j : ℕ) → has_bit new.used j ≡ cond (eqb j page) true (has_bit old.used j)) → TakesRecords old.checker rs new.checker
    → Goes {A = ℕ} (λ was is. is ≤ was + 1) before after
    → Added size visited old new before after rs (page ∷ visited)
Added-page size visited old new before after page rs low high m fresh one t reads = record {
  takes = t;
  marks = Marks-more old.used new.used visited page m one;
  within = AreWithin-more size old.used new.used page low high one;
  spent = Spent-page size visited before after page low high fresh reads;
}

-- ---- what is answered
pub on_ok_map : {T E : Type 0} (r : Result T E) (P Q : Type 0) → (P → Q) → OnOk r P → OnOk r Q
on_ok_map (Ok x) P Q f h = f h
on_ok_map (Err e) P Q f h = tt

pub damaged_map : {T : Type 0} (r : Result T Stop) (P Q : ℕ → Type 0) → ((p : ℕ) → P p → Q p) → IfErr r (OnDamaged P) → IfErr r (OnDamaged Q)
damaged_map (Ok x) P Q f h = tt
damaged_map (Err Device) P Q f h = tt
damaged_map (Err Memory) P Q f h = tt
damaged_map (Err (Says page)) P Q f h = f page h

pub stop_map : (e : Stop) (P Q : ℕ → Type 0) → ((p : ℕ) → P p → Q p) → OnDamaged P e → OnDamaged Q e
stop_map Device P Q f h = tt
stop_map Memory P Q f h = tt
stop_map (Says page) P Q f h = f page h

-- an inner page, and then its children
pub page_found : (size : ℕ) (told : Option (List (List ℕ))) (height : ℕ) (is_root : Bool) (page : ℕ) (b : Bounds) (visited : List ℕ)
    (old mid new : Surveying) (x y z : Option ℕ) (children : List ℕ) (keys : List Key)
    (now_size : ℕ) (now_told : Option (List (List ℕ))) → now_size ≡ size → now_told ≡ told → 2 ≤ height → list_any (λ v. v == page) visited ≡ false
    → Added size visited old mid x y [] (page ∷ visited)
    → ((pages : List (List ℕ)) (visit : ℕ × Bounds → List ℕ → Walk) → told ≡ Some pages
    → inner_walk visit height is_root b page visited (inner_of (length pages) (slice_index_or pages page []))
    ≡ each_child visit (bounded children keys b) (Whole [] (page ∷ visited)))
    → Found now_size now_told (λ pages. each_child (walk pages (height - 1) false) (bounded children keys b) (Whole [] (page ∷ visited)))
    (page ∷ visited) mid new y z
    → Found size told (λ pages. walk pages height is_root (page, b) visited) visited old new x z
page_found size told height is_root page b visited old mid new x y z children keys now_size now_told same_size same_told few fresh a read f = record {
  rs = f.rs;
  now = f.now;
  added = Added-then size visited (page ∷ visited) f.now old mid new x y z [] f.rs a
      (subst (λ (k : ℕ). Added k (page ∷ visited) mid new y z f.rs f.now) same_size f.added);
  walks = λ pages e. walk_inner pages height is_root (page, b) visited few fresh ∙ read pages (walk pages (height - 1) false) e ∙ f.walks pages (same_told ∙ e);
}

pub on_err_map : {T E : Type 0} (r : Result T E) (P Q : Type 0) → (P → Q) → OnErr r P → OnErr r Q
on_err_map (Ok x) P Q f h = tt
on_err_map (Err e) P Q f h = f h

-- what was read before some more
pub SpentSome-then : (size : ℕ) (visited now : List ℕ) (x y z : Option ℕ) (now_size : ℕ) → now_size ≡ size → Spent size visited now x y
    → SpentSome now_size now y z → SpentSome size visited x z
SpentSome-then size visited now x y z now_size same h k =
    record { now = k.now; spent = Spent-then size visited now k.now x y z h (subst (λ (n : ℕ). Spent n now k.now y z) same k.spent) }
