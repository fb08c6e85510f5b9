-- How a word looks, to the table and to the reader of the command.
use Rattle.std.proofs.Common.{◌≡◌, ◌≢◌, ℕ, Bool, true, false, ◌||◌, not, cond, ◌+◌, ◌<◌, nat_eq, List, [], ◌∷◌, ◌++◌, length, take, drop, get_or, Option, Some}
use Rattle.std.proofs.Common.{None, codes, refl, sym, ◌∙◌, ap, subst, arith, ◌==◌, inl, inr}
use Rattle.std.specs.Prelude.{option_and_then}
use Rattle.std.specs.List.{starts_with, list_any, position_or_len, before_first, after_first}
use Rattle.std.specs.Str.{bytes_eq}
use Rattle.std.proofs.lemmas.Bool.{eqb-true, lt-ltb, ne_eqb, cases_eq, false_from_ne_true, and_left}
use Rattle.std.proofs.lemmas.List.{take-append-drop, take_all}
use Rattle.std.proofs.lemmas.List.Sums.{split_at_first, passes_at_first}
use Rattle.std.proofs.lemmas.Slice.Eq.{bytes_eq-Decides}
use Rattle.clap.specs.Lexer.{long_of, long_of_rest, short_of, short_of_rest, strip_byte, has_byte, name_and_value}
use Rattle.quilt_top.specs.Words.{is_dashed}

-- a word that is read by its place
pub record LooksPlain (w : List ℕ) : Type 0 where
  pub dashed : is_dashed w ≡ false
  pub ends : bytes_eq w (codes "--") ≡ false
  pub long : long_of w ≡ None
  pub short : short_of w ≡ None

-- `--`
pub record LooksLast (w : List ℕ) : Type 0 where
  pub dashed : is_dashed w ≡ true
  pub ends : bytes_eq w (codes "--") ≡ true

-- `--pool=` and a value
pub record LooksValued (w : List ℕ) : Type 0 where
  pub dashed : is_dashed w ≡ true
  pub ends : bytes_eq w (codes "--") ≡ false
  pub valued : starts_with nat_eq w (codes "--pool=") ≡ true
  pub long : long_of w ≡ Some (codes "pool", Some (drop 7 w))

-- `--pool`
pub record LooksBare (w : List ℕ) : Type 0 where
  pub dashed : is_dashed w ≡ true
  pub ends : bytes_eq w (codes "--") ≡ false
  pub valued : starts_with nat_eq w (codes "--pool=") ≡ false
  pub bare : bytes_eq w (codes "--pool") ≡ true
  pub long : long_of w ≡ Some (codes "pool", None)

-- two dashes before any other name
pub record LooksStrange (w : List ℕ) : Type 0 where
  pub dashed : is_dashed w ≡ true
  pub ends : bytes_eq w (codes "--") ≡ false
  pub valued : starts_with nat_eq w (codes "--pool=") ≡ false
  pub bare : bytes_eq w (codes "--pool") ≡ false
  pub name : List ℕ
  pub value : Option (List ℕ)
  pub long : long_of w ≡ Some (name, value)
  pub other : bytes_eq (codes "pool") name ≡ false

-- one dash before something else
pub record LooksShort (w : List ℕ) : Type 0 where
  pub dashed : is_dashed w ≡ true
  pub ends : bytes_eq w (codes "--") ≡ false
  pub valued : starts_with nat_eq w (codes "--pool=") ≡ false
  pub bare : bytes_eq w (codes "--pool") ≡ false
  pub long : long_of w ≡ None
  pub flag : ℕ
  pub flags : List ℕ
  pub short : short_of w ≡ Some (flag ∷ flags)
  pub is : w ≡ 45 ∷ flag ∷ flags

pub data Looks (w : List ℕ) : Type 0 where
  plain : LooksPlain w → Looks w
  last : LooksLast w → Looks w
  valued : LooksValued w → Looks w
  bare : LooksBare w → Looks w
  strange : LooksStrange w → Looks w
  short : LooksShort w → Looks w

abbrev is_equals : ℕ → Bool
is_equals x = x == 61

is_found : (p : ℕ → Bool) (xs : List ℕ) → list_any p xs ≡ true → position_or_len p xs < length xs
is_found p [] any = absurd (cc)
is_found p (x ∷ xs) any = by (p x) any (is_found p xs)
  where
    by : (b : Bool) → (b || list_any p xs) ≡ true → (list_any p xs ≡ true → position_or_len p xs < length xs)
        → cond (not b) (1 + position_or_len p xs) 0 < length (x ∷ xs)
    by true any rest = omega arith
    by false any rest = omega (arith, rest any)

not_found : (p : ℕ → Bool) (xs : List ℕ) → list_any p xs ≡ false → position_or_len p xs ≡ length xs
not_found p [] none = refl
not_found p (x ∷ xs) none = by (p x) none (not_found p xs)
  where
    by : (b : Bool) → (b || list_any p xs) ≡ false → (list_any p xs ≡ false → position_or_len p xs ≡ length xs)
        → cond (not b) (1 + position_or_len p xs) 0 ≡ length (x ∷ xs)
    by true none rest = absurd (cc)
    by false none rest = omega (arith, rest none)

-- a text that has the byte is cut at the first
cut_at : (xs : List ℕ) → has_byte 61 xs ≡ true → xs ≡ before_first is_equals xs ++ 61 ∷ after_first is_equals xs
cut_at xs any =
    let lt = is_found is_equals xs any in
    let at : get_or xs (position_or_len is_equals xs) 0 ≡ 61 = eqb-true _ _ (passes_at_first is_equals xs 0 lt) in
    split_at_first is_equals xs 0 lt ∙ ap (λ x. before_first is_equals xs ++ x ∷ after_first is_equals xs) at

uncut : (xs : List ℕ) → has_byte 61 xs ≡ false → before_first is_equals xs ≡ xs
uncut xs none = take_all (position_or_len is_equals xs) xs (omega (arith, not_found is_equals xs none))

-- a word with this front
front : (w p : List ℕ) → starts_with nat_eq w p ≡ true → w ≡ p ++ drop (length p) w
front w p starts =
    let is : p ≡ take (length p) w = (bytes_eq-Decides p (take (length p) w)).0 starts in
    sym (take-append-drop (length p) w) ∙ ap (λ q. q ++ drop (length p) w) (sym is)

abbrev dashes : List ℕ → List ℕ
dashes rest = 45 ∷ 45 ∷ rest

is_dashed-two : (y : ℕ) (ys : List ℕ) → is_dashed (45 ∷ y ∷ ys) ≡ true
is_dashed-two y ys = lt-ltb 1 (length (45 ∷ y ∷ ys)) (omega arith)

look_valued : (rest : List ℕ) → Looks (dashes (codes "pool" ++ 61 ∷ rest))
look_valued rest = valued (record { dashed = is_dashed-two 45 (codes "pool" ++ 61 ∷ rest); ends = refl; valued = refl; long = refl })

look_bare : Looks (codes "--pool")
look_bare = bare (record { dashed = refl; ends = refl; valued = refl; bare = refl; long = refl })

-- a name that is not the option's
look_strange : (z : ℕ) (zs : List ℕ) → (has_byte 61 (z ∷ zs) ≡ true → before_first is_equals (z ∷ zs) ≢ codes "pool")
    → (has_byte 61 (z ∷ zs) ≡ false → z ∷ zs ≢ codes "pool")
    → Looks (dashes (z ∷ zs))
look_strange z zs with_value with_none = strange (record {
  dashed = is_dashed-two 45 (z ∷ zs);
  ends = refl;
  valued = false_from_ne_true _ (λ starts.
      let e : z ∷ zs ≡ codes "pool=" ++ drop 7 (dashes (z ∷ zs)) = ap (drop 2) (front (dashes (z ∷ zs)) (codes "--pool=") starts) in
      with_value (ap (has_byte 61) e) (ap (before_first is_equals) e));
  bare = false_from_ne_true _ (λ is.
      let e : z ∷ zs ≡ codes "pool" = ap (drop 2) ((bytes_eq-Decides (dashes (z ∷ zs)) (codes "--pool")).0 is) in
      with_none (ap (has_byte 61) e) e);
  name = before_first is_equals (z ∷ zs);
  value = (name_and_value (z ∷ zs)).1;
  long = refl;
  other = false_from_ne_true _ (λ is. by (has_byte 61 (z ∷ zs)) refl ((bytes_eq-Decides (codes "pool") (before_first is_equals (z ∷ zs))).0 is));
})
  where
    by : (b : Bool) → has_byte 61 (z ∷ zs) ≡ b → codes "pool" ≡ before_first is_equals (z ∷ zs) → ⊥
    by true has e = with_value has (sym e)
    by false has e = with_none has (sym (uncut (z ∷ zs) has) ∙ sym e)

ne_from_false : (xs ys : List ℕ) → bytes_eq ys xs ≡ false → xs ≢ ys
ne_from_false xs ys unequal e =
    let yes : bytes_eq ys xs ≡ true = (bytes_eq-Decides ys xs).1 (sym e) in
    cc

look_two : (z : ℕ) (zs : List ℕ) → Looks (dashes (z ∷ zs))
look_two z zs = by (has_byte 61 (z ∷ zs)) refl
  where
    with_value : (b : Bool) → bytes_eq (codes "pool") (before_first is_equals (z ∷ zs)) ≡ b → has_byte 61 (z ∷ zs) ≡ true → Looks (dashes (z ∷ zs))
    with_value true is has =
        let e : codes "pool" ≡ before_first is_equals (z ∷ zs) = (bytes_eq-Decides (codes "pool") (before_first is_equals (z ∷ zs))).0 is in
        subst (λ l. Looks (dashes l)) (ap (λ l. l ++ 61 ∷ after_first is_equals (z ∷ zs)) e ∙ sym (cut_at (z ∷ zs) has))
        (look_valued (after_first is_equals (z ∷ zs)))
    with_value false is has = look_strange z zs (λ h. ne_from_false (before_first is_equals (z ∷ zs)) (codes "pool") is) (λ h. absurd (cc))

    with_none : (b : Bool) → bytes_eq (codes "pool") (z ∷ zs) ≡ b → has_byte 61 (z ∷ zs) ≡ false → Looks (dashes (z ∷ zs))
    with_none true is has = subst (λ l. Looks (dashes l)) ((bytes_eq-Decides (codes "pool") (z ∷ zs)).0 is) look_bare
    with_none false is has = look_strange z zs (λ h. absurd (cc)) (λ h. ne_from_false (z ∷ zs) (codes "pool") is)

    by : (b : Bool) → has_byte 61 (z ∷ zs) ≡ b → Looks (dashes (z ∷ zs))
    by true has = with_value (bytes_eq (codes "pool") (before_first is_equals (z ∷ zs))) refl has
    by false has = with_none (bytes_eq (codes "pool") (z ∷ zs)) refl has

look_one : (y : ℕ) (ys : List ℕ) → y ≢ 45 → Looks (45 ∷ y ∷ ys)
look_one y ys other =
    let unequal = ne_eqb y 45 other in
    let on : nat_eq 45 y ≡ false = ne_eqb 45 y (λ e. other (sym e)) in
    short (record {
      dashed = is_dashed-two y ys;
      ends = and_left (nat_eq y 45) _ unequal;
      valued = and_left (nat_eq 45 y) _ on;
      bare = and_left (nat_eq y 45) _ unequal;
      long = ap (λ b. option_and_then long_of_rest (cond b (Some ys) None)) unequal;
      flag = y;
      flags = ys;
      short = ap (λ b. cond b None (Some (y ∷ ys))) unequal;
      is = refl;
    })

look_dash : (ys : List ℕ) → Looks (45 ∷ ys)
look_dash [] = plain (record { dashed = refl; ends = refl; long = refl; short = refl })
look_dash (y ∷ []) = elim (cases_eq y 45) [
  | inl is ↦ subst (λ z. Looks (45 ∷ z ∷ [])) (sym is) (last (record { dashed = refl; ends = refl }))
  | inr other ↦ look_one y [] other
]
look_dash (y ∷ z ∷ zs) = elim (cases_eq y 45) [
  | inl is ↦ subst (λ v. Looks (45 ∷ v ∷ z ∷ zs)) (sym is) (look_two z zs)
  | inr other ↦ look_one y (z ∷ zs) other
]

look_other : (x : ℕ) (xs : List ℕ) → x ≢ 45 → Looks (x ∷ xs)
look_other x xs other =
    let unequal = ne_eqb x 45 other in
    let on : nat_eq 45 x ≡ false = ne_eqb 45 x (λ e. other (sym e)) in
    plain (record {
      dashed = and_left (starts_with nat_eq (x ∷ xs) (codes "-")) _ (and_left (nat_eq 45 x) _ on);
      ends = and_left (nat_eq x 45) _ unequal;
      long = ap (λ b. option_and_then long_of_rest (option_and_then (strip_byte 45) (cond b (Some xs) None))) unequal;
      short = ap (λ b. option_and_then short_of_rest (cond b (Some xs) None)) unequal;
    })

pub look : (w : List ℕ) → Looks w
look [] = plain (record { dashed = refl; ends = refl; long = refl; short = refl })
look (x ∷ xs) = elim (cases_eq x 45) [
  | inl is ↦ subst (λ v. Looks (v ∷ xs)) (sym is) (look_dash xs)
  | inr other ↦ look_other x xs other
]
