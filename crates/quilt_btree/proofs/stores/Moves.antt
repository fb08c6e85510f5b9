-- What an edit does to the used pages and to the free ones.
use Rattle.std.proofs.Common.{◌≡◌, ◌≢◌, ℕ, ◌+◌, ◌≤◌, Bool, true, false, ◌==◌, cond, List, [], ◌∷◌, length, slice_index_or, slice_set, refl, sym, ◌∙◌, ap}
use Rattle.std.proofs.Common.{subst, arith, length-set, get_or-set_other}
use Rattle.quilt_store.specs.Store.{FreesOnly}
use Rattle.quilt_btree.specs.Edits.{multiplicity, account, KeepsAccount}
use Rattle.quilt_btree.proofs.lists.Counts.{times_here, equal_pages, other_pages, in_times, some_not_none}
use Rattle.quilt_btree.proofs.lists.Rows.{SameOn}

-- no page is used twice, and none that is used is free
abbrev pub AreApart : (ℕ → Bool) → List ℕ → Type 0
AreApart free used = (p : ℕ) → account free used p ≤ 1

one_if : (b : Bool) → b ≡ true → cond {A = ℕ} b 1 0 ≡ 1
one_if b e = ap (λ c. cond {A = ℕ} c 1 0) e

none_if : (b : Bool) → b ≡ false → cond {A = ℕ} b 1 0 ≡ 0
none_if b e = ap (λ c. cond {A = ℕ} c 1 0) e

-- a page that is spoken for is another than one that is not
pub is_other : (free : ℕ → Bool) (used : List ℕ) (p q : ℕ) → 1 ≤ account free used q → account free used p ≡ 0 → p ≢ q
is_other free used p q some none = λ e. some_not_none (account free used q) some (subst (λ n. account free used n ≡ 0) e none)

-- a page that is spoken for is written
pub moves_written : (pages : List (List ℕ)) (free : ℕ → Bool) (used : List ℕ) (page : ℕ) (bytes : List ℕ) → 1 ≤ account free used page
    → KeepsAccount pages (slice_set pages page bytes) free free used used
moves_written pages free used page bytes some = record {
  size = length-set pages page bytes;
  others = λ p none. get_or-set_other pages page p bytes [] (is_other free used p page some none);
  balance = λ p. refl;
}

pub used_account : (free : ℕ → Bool) (used : List ℕ) (page : ℕ) → 1 ≤ multiplicity page used → 1 ≤ account free used page
used_account free used page h = at_least (cond {A = ℕ} (free page) 1 0) (multiplicity page used) h
  where
    at_least : (a b : ℕ) → 1 ≤ b → 1 ≤ a + b
    at_least a b h = omega arith

module _ (free now : ℕ → Bool) (page p : ℕ) (used : List ℕ) where
  taken_step : (b : Bool) → FreesOnly page false free now → free page ≡ true → (page == p) ≡ b
      → cond (now p) 1 0 + (cond b 1 0 + multiplicity p used) ≡ account free used p
  taken_step true f t e =
      let same : page ≡ p = equal_pages page p e in
      let now_not : cond {A = ℕ} (now p) 1 0 ≡ 0 = none_if (now p) (ap now (sym same) ∙ f.here) in
      let was : cond {A = ℕ} (free p) 1 0 ≡ 1 = one_if (free p) (ap free (sym same) ∙ t) in
      omega arith
  taken_step false f t e =
      let still : cond {A = ℕ} (now p) 1 0 ≡ cond {A = ℕ} (free p) 1 0 = ap (λ b. cond {A = ℕ} b 1 0) (f.others p (other_pages page p e)) in
      omega arith

  given_step : (b : Bool) → FreesOnly page true free now → free page ≡ false → (page == p) ≡ b
      → account now used p ≡ cond (free p) 1 0 + (cond b 1 0 + multiplicity p used)
  given_step true f t e =
      let same : page ≡ p = equal_pages page p e in
      let is_now : cond {A = ℕ} (now p) 1 0 ≡ 1 = one_if (now p) (ap now (sym same) ∙ f.here) in
      let was_not : cond {A = ℕ} (free p) 1 0 ≡ 0 = none_if (free p) (ap free (sym same) ∙ t) in
      omega arith
  given_step false f t e =
      let still : cond {A = ℕ} (now p) 1 0 ≡ cond {A = ℕ} (free p) 1 0 = ap (λ b. cond {A = ℕ} b 1 0) (f.others p (other_pages page p e)) in
      omega arith

-- a free page is taken, and counts as used
pub moves_taken : (pages : List (List ℕ)) (free now : ℕ → Bool) (used : List ℕ) (page : ℕ) → free page ≡ true → FreesOnly page false free now
    → KeepsAccount pages pages free now used (page ∷ used)
moves_taken pages free now used page t f = record {
  size = refl;
  others = λ p none. refl;
  balance = λ p. taken_step free now page p used (page == p) f t refl;
}

-- one edit behind the other
pub moves_then : {pages mid news : List (List ℕ)} {free between now : ℕ → Bool} {used more uses : List ℕ} → KeepsAccount pages mid free between used more
    → KeepsAccount mid news between now more uses → KeepsAccount pages news free now used uses
moves_then a b = record {
  size = b.size ∙ a.size;
  others = λ p none. b.others p (a.balance p ∙ none) ∙ a.others p none;
  balance = λ p. b.balance p ∙ a.balance p;
}

module _ (pages news : List (List ℕ)) (free now : ℕ → Bool) (used uses all alls : List ℕ) where
  -- The same edit among further used pages: each page is used as often more often, before and after.
  pub moves_among : (more : ℕ → ℕ) → ((p : ℕ) → multiplicity p all ≡ more p + multiplicity p used) → ((p : ℕ) → multiplicity p alls ≡ more p + multiplicity p uses)
      → KeepsAccount pages news free now used uses → KeepsAccount pages news free now all alls
  moves_among more e f m = record {
    size = m.size;
    others = λ p none. m.others p (fewer (cond {A = ℕ} (free p) 1 0) (multiplicity p used) (multiplicity p all) (more p) (e p) none);
    balance = λ p. summed (cond {A = ℕ} (now p) 1 0) (cond {A = ℕ} (free p) 1 0) (multiplicity p uses) (multiplicity p used) (more p) (f p) (e p) (m.balance p);
  }
    where
      fewer : (c u a m : ℕ) → a ≡ m + u → c + a ≡ 0 → c + u ≡ 0
      fewer c u a m e h = omega arith

      summed : (n c v u : ℕ) {b a : ℕ} (m : ℕ) → b ≡ m + v → a ≡ m + u → n + v ≡ c + u → n + b ≡ c + a
      summed n c v u m e f h = omega arith

  -- the used pages in another order
  pub moves_order : ((p : ℕ) → multiplicity p all ≡ multiplicity p used) → ((p : ℕ) → multiplicity p alls ≡ multiplicity p uses) → KeepsAccount pages news free now used uses
      → KeepsAccount pages news free now all alls
  moves_order e f m =
      moves_among (λ p. 0) (λ p. e p ∙ nothing (multiplicity p used)) (λ p. f p ∙ nothing (multiplicity p uses)) m
    where
      nothing : (n : ℕ) → n ≡ 0 + n
      nothing n = omega arith

-- behind an edit no page is used twice or free either
pub apart_then : (pages news : List (List ℕ)) (free now : ℕ → Bool) (used uses : List ℕ) → KeepsAccount pages news free now used uses
    → AreApart free used → AreApart now uses
apart_then pages news free now used uses m apart p = subst (λ n. n ≤ 1) (sym (m.balance p)) (apart p)

-- some of the used pages
pub apart_some : (free : ℕ → Bool) (here used : List ℕ) → ((p : ℕ) → multiplicity p here ≤ multiplicity p used) → AreApart free used → AreApart free here
apart_some free here used inside apart p = less (cond {A = ℕ} (free p) 1 0) (multiplicity p here) (multiplicity p used) (inside p) (apart p)
  where
    less : (c h u : ℕ) → h ≤ u → c + u ≤ 1 → c + h ≤ 1
    less c h u a b = omega arith

module _ (pages news : List (List ℕ)) (free now : ℕ → Bool) where
  -- a used page is given back, and may hold anything
  pub moves_given : (used : List ℕ) (page : ℕ) → length news ≡ length pages
      → ((q : ℕ) → q ≢ page → slice_index_or news q [] ≡ slice_index_or pages q []) → free page ≡ false → FreesOnly page true free now
      → KeepsAccount pages news free now (page ∷ used) used
  moves_given used page size same t f = record {
    size = size;
    others =
        λ p none. same p (is_other free (page ∷ used) p page
        (used_account free (page ∷ used) page (some (multiplicity page used) (multiplicity page (page ∷ used)) (times_here page used))) none);
    balance = λ p. given_step free now page p used (page == p) f t refl;
  }
    where
      some : (n m : ℕ) → m ≡ 1 + n → 1 ≤ m
      some n m e = omega arith

  -- an edit of some of the used pages leaves the others as they are
  pub stays_on : (here uses others used : List ℕ) → KeepsAccount pages news free now here uses → AreApart free used
      → ((p : ℕ) → multiplicity p here + multiplicity p others ≤ multiplicity p used) → SameOn pages news others
  stays_on here uses others used moves apart parts p inside =
      moves.others p
      (nothing (cond {A = ℕ} (free p) 1 0) (multiplicity p here) (multiplicity p others) (multiplicity p used) (in_times p others inside) (apart p) (parts p))
    where
      nothing : (f h o u : ℕ) → 1 ≤ o → f + u ≤ 1 → h + o ≤ u → f + h ≡ 0
      nothing f h o u a b c = omega arith

-- a page that is used is not free, and one that is free is not used
pub used_not_free : (free : ℕ → Bool) (used : List ℕ) (page : ℕ) → AreApart free used → 1 ≤ multiplicity page used → free page ≡ false
used_not_free free used page apart h = not_true (free page) refl
  where
    both : (c t : ℕ) → c ≡ 1 → 1 ≤ t → c + t ≤ 1 → ⊥
    both c t a b d = omega arith

    not_true : (b : Bool) → free page ≡ b → b ≡ false
    not_true true e = absurd (both (cond {A = ℕ} (free page) 1 0) (multiplicity page used) (one_if (free page) e) h (apart page))
    not_true false e = refl

pub free_not_used : (free : ℕ → Bool) (used : List ℕ) (page : ℕ) → AreApart free used → free page ≡ true → multiplicity page used ≡ 0
free_not_used free used page apart h = nothing (cond {A = ℕ} (free page) 1 0) (multiplicity page used) (one_if (free page) h) (apart page)
  where
    nothing : (c t : ℕ) → c ≡ 1 → c + t ≤ 1 → t ≡ 0
    nothing c t a b = omega arith
