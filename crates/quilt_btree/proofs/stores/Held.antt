-- The first of the pages that a store holds, while pages are read one after another.
use Rattle.std.proofs.Common.{IfSome, IsTrue, ◌≡◌, ◌≢◌, ℕ, zero, suc, ◌+◌, ◌≤◌, Bool, true, false, cond, not, ◌&&◌, ◌||◌, ◌==◌, List, [], ◌∷◌, ◌++◌, length}
use Rattle.std.proofs.Common.{take, Option, Some, None, refl, sym, ◌∙◌, ap, subst, arith}
use Rattle.std.specs.List.{list_all, list_any, filter}
use Rattle.std.proofs.lemmas.List.{take-take}
use Rattle.std.proofs.lemmas.Bool.Decides.{nat_tests}
use Rattle.std.proofs.lemmas.Bool.{and_from}
use Rattle.quilt_store.specs.Store.{Touches, first_eight}
use Rattle.quilt_world.specs.Tale.{Goes}
use Rattle.quilt_btree.specs.Floors.{TouchesEach, AreAmongFirst}
use Rattle.quilt_btree.proofs.lists.Counts.{self_test, other_pages}

-- the page is one of these
abbrev pub is_in : ℕ → List ℕ → Bool
is_in p xs = list_any (λ q. q == p) xs

-- the other pages
abbrev pub but : ℕ → List ℕ → List ℕ
but p xs = filter (λ q. not (q == p)) xs

either_way : (a b c : Bool) → (a || b) ≡ true → (b ≡ true → c ≡ true) → (a || c) ≡ true
either_way true b c h f = refl
either_way false b c h f = f h

-- one of the first is one of more
pub in_more : (q m n : ℕ) (xs : List ℕ) → m ≤ n → is_in q (take m xs) ≡ true → is_in q (take n xs) ≡ true
in_more q zero n xs le h = cc
in_more q (suc m) n [] le h = cc
in_more q (suc m) zero (x ∷ xs) le h = absurd (omega arith)
in_more q (suc m) (suc n) (x ∷ xs) le h = either_way (x == q) (is_in q (take m xs)) (is_in q (take n xs)) h (in_more q m n xs (omega arith))

-- a page that is one number is not another
another : (x p q : ℕ) → q ≢ p → (x == p) ≡ true → (x == q) ≡ false
another x p q ne h = grind (arith, nat_tests)

not_first : (a b : Bool) → (a || b) ≡ true → a ≡ false → b ≡ true
not_first true b h e = cc
not_first false b h e = h

-- and one of all
pub in_whole : (q n : ℕ) (xs : List ℕ) → is_in q (take n xs) ≡ true → is_in q xs ≡ true
in_whole q zero xs h = cc
in_whole q (suc n) [] h = h
in_whole q (suc n) (x ∷ xs) h = either_way (x == q) (is_in q (take n xs)) (is_in q xs) h (in_whole q n xs)

-- where another page is left out, a page comes no farther behind
pub nearer : (p q n : ℕ) (xs : List ℕ) → q ≢ p → is_in q (take n xs) ≡ true → is_in q (take n (but p xs)) ≡ true
nearer p q zero xs ne h = cc
nearer p q (suc n) [] ne h = cc
nearer p q (suc n) (x ∷ xs) ne h = by_test (x == p) refl (nearer p q n xs ne)
  where
    by_test : (b : Bool) → (x == p) ≡ b → (is_in q (take n xs) ≡ true → is_in q (take n (but p xs)) ≡ true)
        → is_in q (take (suc n) (cond (not b) (x ∷ but p xs) (but p xs))) ≡ true
    by_test true e f =
        let here = not_first (x == q) (is_in q (take n xs)) h (another x p q ne e) in
        in_more q n (suc n) (but p xs) (omega arith) (f here)
    by_test false e f = either_way (x == q) (is_in q (take n xs)) (is_in q (take n (but p xs))) h f

-- a page of the first comes to the front, and the others stay among these
pub stays : (p q n : ℕ) (xs : List ℕ) → q ≢ p → is_in p (take (suc n) xs) ≡ true → is_in q (take (suc n) xs) ≡ true
    → is_in q (take n (but p xs)) ≡ true
stays p q n [] ne hp hq = cc
stays p q zero (x ∷ xs) ne hp hq = by_test (x == p) refl
  where
    by_test : (b : Bool) → (x == p) ≡ b → is_in q (take 0 (cond (not b) (x ∷ but p xs) (but p xs))) ≡ true
    by_test true e = let no = not_first (x == q) false hq (another x p q ne e) in cc
    by_test false e = let no = not_first (x == p) false hp e in cc
stays p q (suc m) (x ∷ xs) ne hp hq = by_test (x == p) refl (stays p q m xs ne)
  where
    by_test : (b : Bool) → (x == p) ≡ b → (is_in p (take (suc m) xs) ≡ true → is_in q (take (suc m) xs) ≡ true → is_in q (take m (but p xs)) ≡ true)
        → is_in q (take (suc m) (cond (not b) (x ∷ but p xs) (but p xs))) ≡ true
    by_test true e f = nearer p q (suc m) xs ne (not_first (x == q) (is_in q (take (suc m) xs)) hq (another x p q ne e))
    by_test false e f =
        either_way (x == q) (is_in q (take (suc m) xs)) (is_in q (take m (but p xs))) hq (f (not_first (x == p) (is_in p (take (suc m) xs)) hp e))

-- the first pages after one is read
touched_take : (p n : ℕ) (old new : List ℕ) → n ≤ 8 → Touches p old new → take n new ≡ take n (p ∷ but p old)
touched_take p n old new le t = sym (take-take n 8 new le) ∙ ap (take n) t ∙ take-take n 8 (p ∷ but p old) le

-- a page that is read is the first
pub front_first : (p : ℕ) (old new : List ℕ) → Touches p old new → is_in p (take 1 new) ≡ true
front_first p old new t = subst (λ l. is_in p l ≡ true) (sym (touched_take p 1 old new (omega arith) t)) (either (p == p) (self_test p))
  where
    either : (a : Bool) → a ≡ true → (a || false) ≡ true
    either true h = refl
    either false h = h

by_page : (p q : ℕ) (b c : Bool) → (p == q) ≡ b → (q ≢ p → c ≡ true) → (b || c) ≡ true
by_page p q true c e f = refl
by_page p q false c e f = f (other_pages p q e)

-- each page that is read puts a page farther behind by one place at most
pub one_behind : (p q n : ℕ) (old new : List ℕ) → suc n ≤ 8 → Touches p old new → is_in q (take n old) ≡ true → is_in q (take (suc n) new) ≡ true
one_behind p q n old new le t h =
    subst (λ l. is_in q l ≡ true) (sym (touched_take p (suc n) old new le t))
    (by_page p q (p == q) (is_in q (take n (but p old))) refl (λ ne. nearer p q n old ne h))

-- where a page of the first is read, the others stay among the first
pub stays_first : (p q : ℕ) (old new : List ℕ) → Touches p old new → is_in p (first_eight old) ≡ true → is_in q (first_eight old) ≡ true
    → is_in q (first_eight new) ≡ true
stays_first p q old new t hp hq =
    subst (λ l. is_in q l ≡ true) (sym t) (by_page p q (p == q) (is_in q (take 7 (but p old))) refl (λ ne. stays p q 7 old ne hp hq))

-- all of these are among the first eight
abbrev pub all_first : List ℕ → List ℕ → Bool
all_first ps held = list_all (λ p. list_any (λ q. q == p) (first_eight held)) ps

left_of : (a b : Bool) → (a && b) ≡ true → a ≡ true
left_of a b h = grind arith

right_of : (a b : Bool) → (a && b) ≡ true → b ≡ true
right_of a b h = grind arith

-- a page of the first n is among the first eight after no more than eight less n are read
far_behind : (ps : List ℕ) (q n : ℕ) (old new : List ℕ) → n + length ps ≤ 8 → TouchesEach ps old new → is_in q (take n old) ≡ true
    → is_in q (first_eight new) ≡ true
far_behind [] q n old new le t h = subst (λ l. is_in q (first_eight l) ≡ true) (sym t) (in_more q n 8 old (omega arith) h)
far_behind (p ∷ ps) q n old new le t h = far_behind ps q (suc n) t.0 new (omega arith) t.2 (one_behind p q n old t.0 (omega arith) t.1 h)

all_touched : (ps old new : List ℕ) → length ps ≤ 8 → TouchesEach ps old new → all_first ps new ≡ true
all_touched [] old new le t = refl
all_touched (p ∷ ps) old new le t =
    and_from (is_in p (first_eight new)) (all_first ps new) (far_behind ps p 1 t.0 new (omega arith) t.2 (front_first p old t.0 t.1))
    (all_touched ps t.0 new (omega arith) t.2)

all_stay : (p : ℕ) (qs old new : List ℕ) → Touches p old new → is_in p (first_eight old) ≡ true → all_first qs old ≡ true → all_first qs new ≡ true
all_stay p [] old new t hp h = refl
all_stay p (q ∷ qs) old new t hp h =
    let a = left_of (is_in q (first_eight old)) (all_first qs old) h in
    let b = right_of (is_in q (first_eight old)) (all_first qs old) h in
    and_from (is_in q (first_eight new)) (all_first qs new) (stays_first p q old new t hp a) (all_stay p qs old new t hp b)

-- where pages of the first are read, the others stay among the first
rest_first : (ps qs old new : List ℕ) → TouchesEach ps old new → all_first (ps ++ qs) old ≡ true → all_first qs new ≡ true
rest_first [] qs old new t h = subst (λ l. all_first qs l ≡ true) (sym t) h
rest_first (p ∷ ps) qs old new t h =
    let a = left_of (is_in p (first_eight old)) (all_first (ps ++ qs) old) h in
    let b = right_of (is_in p (first_eight old)) (all_first (ps ++ qs) old) h in
    rest_first ps qs t.0 new t.2 (all_stay p (ps ++ qs) old t.0 t.1 a b)

part_first : (ps qs old : List ℕ) → all_first (ps ++ qs) old ≡ true → all_first ps old ≡ true
part_first [] qs old h = refl
part_first (p ∷ ps) qs old h =
    let a = left_of (is_in p (first_eight old)) (all_first (ps ++ qs) old) h in
    let b = right_of (is_in p (first_eight old)) (all_first (ps ++ qs) old) h in
    and_from (is_in p (first_eight old)) (all_first ps old) a (part_first ps qs old b)

turns_append : (ps qs a b c : List ℕ) → TouchesEach ps a b → TouchesEach qs b c → TouchesEach (ps ++ qs) a c
turns_append [] qs a b c s t = subst (λ l. TouchesEach qs l c) s t
turns_append (p ∷ ps) qs a b c s t = (s.0, s.1, turns_append ps qs s.0 b c s.2 t)

-- What a store tells of it.

pub turns_first : (ps : List ℕ) (old new : Option (List ℕ)) → length ps ≤ 8 → Goes (TouchesEach ps) old new
    → Goes (λ before now. AreAmongFirst ps now) old new
turns_first ps (Some old) (Some new) le t = record { each = all_touched ps old new le t }
turns_first ps (Some old) None le t = t
turns_first ps None (Some new) le t = t
turns_first ps None None le t = t

pub one_turn : (ps : List ℕ) (page : ℕ) (old new : Option (List ℕ)) → ps ≡ page ∷ [] → Goes (Touches page) old new → Goes (TouchesEach ps) old new
one_turn ps page (Some old) (Some new) e t = subst (λ l. TouchesEach l old new) (sym e) (new, t, refl)
one_turn ps page (Some old) None e t = t
one_turn ps page None (Some new) e t = t
one_turn ps page None None e t = t

-- the device below is not read where the pages are among the first
abbrev pub Free : List ℕ → Option (List ℕ) → Option ℕ → Option ℕ → Type 0
Free ps held old new = IfSome held (λ first. AreAmongFirst ps first → Goes (λ before now. now ≤ before) old new)

-- the call of the store says so of one page that it holds
abbrev pub OneFree : ℕ → Option (List ℕ) → Option ℕ → Option ℕ → Type 0
OneFree page held old new = IfSome held (λ pages. IsTrue (list_any (λ p. p == page) pages) → Goes (λ before now. now ≤ before) old new)

no_more : (a b c : Option ℕ) → Goes (λ before now. now ≤ before) a b → Goes (λ before now. now ≤ before) b c → Goes (λ before now. now ≤ before) a c
no_more (Some a) (Some b) (Some c) s t = omega arith
no_more (Some a) (Some b) None s t = t
no_more (Some a) None c s t = absurd s
no_more None (Some b) c s t = absurd s
no_more None None (Some c) s t = t
no_more None None None s t = t

pub one_free : (ps rest : List ℕ) (page : ℕ) (held : Option (List ℕ)) (a b : Option ℕ) → ps ≡ page ∷ rest → OneFree page held a b → Free ps held a b
one_free ps rest page None a b e f = f
one_free ps rest page (Some held) a b e f = λ h.
    let all = subst (λ l. all_first l held ≡ true) e h.each in
    f (in_whole page 8 held (left_of (is_in page (first_eight held)) (all_first rest held) all))

pub part_free : (ps qs rest : List ℕ) (held : Option (List ℕ)) (a b : Option ℕ) → ps ≡ qs ++ rest → Free qs held a b → Free ps held a b
part_free ps qs rest None a b e f = f
part_free ps qs rest (Some held) a b e f = λ h.
    f (record { each = part_first qs rest held (subst (λ l. all_first l held ≡ true) e h.each) })

-- a page comes to the front of those that are held, and the device below is not read where it was held
pub record IsTouched (page : ℕ) (held now : Option (List ℕ)) (a b : Option ℕ) : Type 0 where
  pub touched : Goes (Touches page) held now
  pub free : OneFree page held a b

-- so do some pages, one after the other
pub record AreTouched (ps : List ℕ) (held now : Option (List ℕ)) (a b : Option ℕ) : Type 0 where
  pub touched : Goes (TouchesEach ps) held now
  pub free : Free ps held a b

pub one_touched : {page : ℕ} {held now : Option (List ℕ)} {a b : Option ℕ} → IsTouched page held now a b → AreTouched (page ∷ []) held now a b
one_touched {page} {held} {now} {a} {b} t =
    record { touched = one_turn (page ∷ []) page held now refl t.touched; free = one_free (page ∷ []) [] page held a b refl t.free }

module _ (ps qs rest : List ℕ) where
  pub more_turns : (a b c : Option (List ℕ)) → ps ≡ qs ++ rest → Goes (TouchesEach qs) a b → Goes (TouchesEach rest) b c → Goes (TouchesEach ps) a c
  more_turns (Some a) (Some b) (Some c) e s t = subst (λ l. TouchesEach l a c) (sym e) (turns_append qs rest a b c s t)
  more_turns (Some a) (Some b) None e s t = t
  more_turns (Some a) None c e s t = absurd s
  more_turns None (Some b) c e s t = absurd s
  more_turns None None (Some c) e s t = t
  more_turns None None None e s t = t

  pub more_free : {held now : Option (List ℕ)} {a b : Option ℕ} (c : Option ℕ) → ps ≡ qs ++ rest → AreTouched qs held now a b → Free rest now b c
      → Free ps held a c
  more_free {held = None} {now = None} c e t g = t.free
  more_free {held = None} {now = (Some now)} c e t g = absurd t.touched
  more_free {held = (Some held)} {now = None} c e t g = absurd t.touched
  more_free {held = (Some held)} {now = (Some now)} {a} {b} c e t g = λ h.
      let all = subst (λ l. all_first l held ≡ true) e h.each in
      no_more a b c (t.free (record { each = part_first qs rest held all })) (g (record { each = rest_first qs rest held now t.touched all }))
