-- What a list in order is after records were taken out and put in one after another.
use Rattle.std.proofs.Common.{◌≡◌, ℕ, ◌↔◌, Bool, true, false, not, cond, ◌⊎◌, List, [], ◌∷◌, refl, sym, ◌∙◌, ap, subst, inl, inr, ⊎_elim, Contains}
use Rattle.std.proofs.Common.{Ordering, Less, Equal, Greater}
use Rattle.std.specs.Ordering.{is_lt, is_eq, ordering_reverse}
use Rattle.std.specs.Cmp.{tied_itself}
use Rattle.quilt_record.specs.declared.key.Key.{Key}
use Rattle.quilt_record.specs.declared.record.Record.{Record}
use Rattle.quilt_record.specs.Records.{key_cmp}
use Rattle.quilt_loc.specs.Codes.{Rises}
use Rattle.quilt_spell.specs.Apart.{Apart}
use Rattle.quilt_spell.specs.Written.{by_key}
use Rattle.quilt_spell.specs.Changing.{IsEdited}
use Rattle.quilt_record.specs.Lists.{has_key, put, without}
use Rattle.quilt_spell.specs.Applying.{taken, given}
use Rattle.quilt_loc.proofs.Members.{Contains-nil, Contains-here, Contains-there, Contains-cons_cases, Contains-filter, Contains-filter_from}
use Rattle.quilt_loc.proofs.Rising.{Rises-filter}
use Rattle.quilt_record.proofs.Orders.{key_total, is_Equal, is_Less}
use Rattle.quilt_spell.proofs.Changes.{not_true, not_from}
use Rattle.quilt_spell.proofs.Written.{key_same}

rank : Ordering → ℕ
rank Less = 0
rank Equal = 1
rank Greater = 2

not_less : (o : Ordering) → o ≡ Less → o ≡ Equal → ⊥
not_less o a b = cc

-- records of a list in order with one key are one
pub rising_alone : (rs : List Record) → Rises by_key rs → (r s : Record) → Contains rs r → Contains rs s → r.key ≡ s.key → r ≡ s
rising_alone [] h r s c d e = absurd (Contains-nil r c)
rising_alone (t ∷ ts) h r s c d e =
    ⊎_elim
    (λ x. ⊎_elim (λ y. sym x ∙ y)
    (λ y. absurd (not_less (key_cmp t.key s.key) (h.0 s y) (ap (key_cmp t.key) (sym (ap (λ (q : Record). q.key) x ∙ e)) ∙ tied_itself key_total t.key)))
    (Contains-cons_cases t ts s d))
    (λ x. ⊎_elim
    (λ y. absurd (not_less (key_cmp t.key r.key) (h.0 r x) (ap (key_cmp t.key) (sym (ap (λ (q : Record). q.key) y ∙ sym e)) ∙ tied_itself key_total t.key)))
    (λ y. rising_alone ts h.1 r s x y e) (Contains-cons_cases t ts s d))
    (Contains-cons_cases t ts r c)

module _ (rs : List Record) (up : Rises by_key rs) where
  pub without_rises : (k : Key) → Rises by_key (without k rs)
  unfolding without
  without_rises k = Rises-filter by_key (λ r. not (has_key k r)) rs up

  pub without_members : (r : Record) → Contains rs r → (s : Record) → Contains (without r.key rs) s ↔ (Contains rs s × (s ≡ r → ⊥))
  unfolding without
  without_members r there s = (
    λ c.
        let w = Contains-filter_from (λ t. not (has_key r.key t)) rs s c in
        (w.0, λ e. not_true (has_key r.key s) w.1 (ap is_eq (ap (λ (q : Record). key_cmp q.key r.key) e ∙ tied_itself key_total r.key))),
    λ w. Contains-filter (λ t. not (has_key r.key t)) rs s w.0
        (not_from (has_key r.key s) (λ t. w.1 (rising_alone rs up s r w.0 there (key_same s.key r.key (is_Equal (key_cmp s.key r.key) t))))),
  )

-- a record at its place
pub put_members : (r : Record) (rs : List Record) (s : Record) → Contains (put r rs) s ↔ ((s ≡ r) ⊎ Contains rs s)
put_members r [] s = (
  λ c. ⊎_elim (λ e. inl (sym e)) (λ d. absurd (Contains-nil s d)) (Contains-cons_cases r [] s c),
  λ w. ⊎_elim (λ e. subst (Contains (r ∷ [])) (sym e) (Contains-here r [])) (λ d. absurd (Contains-nil s d)) w,
)
put_members r (t ∷ ts) s = by_case (is_lt (key_cmp r.key t.key)) (put_members r ts s)
  where
    by_case : (b : Bool) → (Contains (put r ts) s ↔ ((s ≡ r) ⊎ Contains ts s)) → Contains (cond b (r ∷ t ∷ ts) (t ∷ put r ts)) s
        ↔ ((s ≡ r) ⊎ Contains (t ∷ ts) s)
    by_case true ih = (
      λ c. ⊎_elim (λ e. inl (sym e)) (λ d. inr d) (Contains-cons_cases r (t ∷ ts) s c),
      λ w. ⊎_elim (λ e. subst (Contains (r ∷ t ∷ ts)) (sym e) (Contains-here r (t ∷ ts))) (λ d. Contains-there r (t ∷ ts) s d) w,
    )
    by_case false ih = (
      λ c. ⊎_elim (λ e. inr (subst (Contains (t ∷ ts)) e (Contains-here t ts)))
          (λ d. ⊎_elim (λ e. inl e) (λ m. inr (Contains-there t ts s m)) (ih.0 d)) (Contains-cons_cases t (put r ts) s c),
      λ w. ⊎_elim (λ e. Contains-there t (put r ts) s (ih.1 (inl e)))
          (λ d. ⊎_elim (λ e. subst (Contains (t ∷ put r ts)) e (Contains-here t (put r ts))) (λ m. Contains-there t (put r ts) s (ih.1 (inr m)))
          (Contains-cons_cases t ts s d)) w,
    )

-- of two keys that differ one is first
other_way : (a b : Key) → (a ≡ b → ⊥) → is_lt (key_cmp a b) ≡ false → key_cmp b a ≡ Less
other_way a b d h = key_total.antisymm b a ∙ turned (key_cmp a b) refl h
  where
    turned : (o : Ordering) → key_cmp a b ≡ o → is_lt o ≡ false → ordering_reverse o ≡ Less
    turned Less e g = cc
    turned Equal e g = absurd (d (key_same a b e))
    turned Greater e g = refl

pub put_rises : (r : Record) (rs : List Record) → Rises by_key rs → ((s : Record) → Contains rs s → r.key ≡ s.key → ⊥) → Rises by_key (put r rs)
put_rises r [] h fresh = (λ s c. absurd (Contains-nil s c), tt)
put_rises r (t ∷ ts) h fresh = by_case (is_lt (key_cmp r.key t.key)) refl (put_rises r ts h.1 (λ s c. fresh s (Contains-there t ts s c)))
  where
    by_case : (b : Bool) → is_lt (key_cmp r.key t.key) ≡ b → Rises by_key (put r ts) → Rises by_key (cond b (r ∷ t ∷ ts) (t ∷ put r ts))
    by_case true e ih =
        let first = is_Less (key_cmp r.key t.key) e in (
          λ s c. ⊎_elim (λ same. subst (λ (q : Record). by_key r q ≡ Less) same first)
              (λ d. key_total.trans r.key t.key s.key first (h.0 s d)) (Contains-cons_cases t ts s c),
          h,
        )
    by_case false e ih = (
      λ s c. ⊎_elim
          (λ same. ap (λ (q : Record). key_cmp t.key q.key) same ∙ other_way r.key t.key (fresh t (Contains-here t ts)) e)
          (λ d. h.0 s d) ((put_members r ts s).0 c),
      ih,
    )

-- ---- one after another
pub taken_rises : (rs removed : List Record) → Rises by_key rs → Rises by_key (taken rs removed)
taken_rises rs [] up = up
taken_rises rs (r ∷ removed) up = taken_rises (without r.key rs) removed (without_rises rs up r.key)

pub taken_members : (rs removed : List Record) → Rises by_key rs → Apart removed → ((r : Record) → Contains removed r → Contains rs r) → (s : Record)
    → Contains (taken rs removed) s ↔ (Contains rs s × (Contains removed s → ⊥))
taken_members rs [] up once there s = (λ c. (c, λ d. Contains-nil s d), λ w. w.0)
taken_members rs (r ∷ removed) up once there s =
    let one = without_members rs up r (there r (Contains-here r removed)) in
    let rest = taken_members (without r.key rs) removed (without_rises rs up r.key) once.1
    (λ t c. (one t).1 (there t (Contains-there r removed t c), λ e. once.0 (subst (Contains removed) e c))) s in (
      λ c.
          let w = rest.0 c in
          let v = (one s).0 w.0 in
          (v.0, λ d. ⊎_elim (λ e. v.1 (sym e)) (λ m. w.1 m) (Contains-cons_cases r removed s d)),
      λ w. rest.1 ((one s).1 (w.0, λ e. w.1 (subst (Contains (r ∷ removed)) (sym e) (Contains-here r removed))), λ m. w.1 (Contains-there r removed s m)),
    )

pub given_members : (rs added : List Record) (s : Record) → Contains (given rs added) s ↔ (Contains rs s ⊎ Contains added s)
given_members rs [] s = (λ c. inl c, λ w. ⊎_elim (λ c. c) (λ d. absurd (Contains-nil s d)) w)
given_members rs (r ∷ added) s =
    let one = put_members r rs s in
    let rest = given_members (put r rs) added s in (
      λ c. ⊎_elim (λ p. ⊎_elim (λ e. inr (subst (Contains (r ∷ added)) (sym e) (Contains-here r added))) (λ d. inl d) (one.0 p))
          (λ m. inr (Contains-there r added s m)) (rest.0 c),
      λ w. ⊎_elim (λ d. rest.1 (inl (one.1 (inr d))))
          (λ m. ⊎_elim (λ e. rest.1 (inl (one.1 (inl (sym e))))) (λ k. rest.1 (inr k)) (Contains-cons_cases r added s m)) w,
    )

-- keys of which none stands twice
abbrev pub KeysApart : List Record → Type 0
KeysApart [] = Unit {0}
KeysApart (r ∷ rs) = ((s : Record) → Contains rs s → r.key ≡ s.key → ⊥) × KeysApart rs

pub given_rises : (rs added : List Record) → Rises by_key rs → KeysApart added
    → ((r s : Record) → Contains added r → Contains rs s → r.key ≡ s.key → ⊥) → Rises by_key (given rs added)
given_rises rs [] up once fresh = up
given_rises rs (r ∷ added) up once fresh =
    given_rises (put r rs) added (put_rises r rs up (λ s c. fresh r s (Contains-here r added) c)) once.1
    (λ a s c d e. ⊎_elim (λ is. once.0 a c (ap (λ (q : Record). q.key) (sym is) ∙ sym e)) (λ m. fresh a s (Contains-there r added a c) m e)
    ((put_members r rs s).0 d))

-- removed one after another, and added one after another
module _ (rs removed added : List Record) (up : Rises by_key rs) (once : Apart removed) (there : (r : Record) → Contains removed r → Contains rs r) where
  pub edits_edited : IsEdited rs removed added (given (taken rs removed) added)
  edits_edited s =
      let t = taken_members rs removed up once there s in
      let g = given_members (taken rs removed) added s in (
        λ c. ⊎_elim (λ d. inl (t.0 d)) (λ m. inr m) (g.0 c),
        λ w. ⊎_elim (λ d. g.1 (inl (t.1 d))) (λ m. g.1 (inr m)) w,
      )

  pub edits_rise : KeysApart added → ((r s : Record) → Contains added r → Contains rs s → (Contains removed s → ⊥) → r.key ≡ s.key → ⊥)
      → Rises by_key (given (taken rs removed) added)
  edits_rise keys fresh =
      given_rises (taken rs removed) added (taken_rises rs removed up) keys
      (λ r s c d e. let w = (taken_members rs removed up once there s).0 d in fresh r s c w.0 w.1 e)
