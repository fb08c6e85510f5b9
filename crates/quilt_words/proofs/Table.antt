-- The words and the table of forms.
use Rattle.std.proofs.Common.{◌≡◌, inl, inr, ℕ, ◌≤◌, Bool, true, false, List, [], ◌∷◌}
use Rattle.std.proofs.Common.{Option, Some, None, Err, refl, sym, ◌∙◌, ap, subst, codes, filter, find, length, get_or, arith, IfSome}
use Rattle.std.specs.List.{list_any, list_all}
use Rattle.std.specs.Str.{bytes_eq}
use Rattle.std.proofs.lemmas.Bool.{eq-eqb, cases_Bool}
use Rattle.std.proofs.lemmas.Slice.Eq.{bytes_eq-Decides}
use Rattle.quilt_words.specs.declared.command.Word.{Word}
use Rattle.quilt_types.specs.declared.code.Code.TheVariants as codes_of
use Rattle.quilt_words.specs.Table.{first_is, spelling, all_words, Further, Entry, table}
use Rattle.quilt_words.specs.Forms.{form_of_words}

pub find_holds : {X : Type 0} (p : X → Bool) (xs : List X) (x : X) → find p xs ≡ Some x → p x ≡ true
find_holds p [] x is = cc
find_holds p (y ∷ ys) x is = elim (cases_Bool (p y)) [
  | inl holds ↦ let e : Some y ≡ Some x = rw holds at is in let same : y ≡ x = cc in subst (λ z. p z ≡ true) same holds
  | inr not_ ↦ find_holds p ys x (rw not_ at is)
]

-- bytes that spell no word are other bytes than those of each word
other_bytes : (bs w : List ℕ) (xs : List Word) → find (λ v. bytes_eq (spelling v) bs) xs ≡ None
    → list_any (λ v. bytes_eq (spelling v) w) xs ≡ true → bytes_eq w bs ≡ false
other_bytes bs w [] none some = cc
other_bytes bs w (x ∷ xs) none some = elim (cases_Bool (bytes_eq (spelling x) bs)) [
  | inl there ↦ let e : Some x ≡ None = rw there at none in absurd (cc)
  | inr not_ ↦ elim (cases_Bool (bytes_eq (spelling x) w)) [
    | inl same ↦ subst (λ (v : List ℕ). bytes_eq v bs ≡ false) ((bytes_eq-Decides (spelling x) w).0 same) not_
    | inr other ↦ other_bytes bs w xs (rw not_ at none) (rw other at some)
  ]
]

not_equal : (bs w : List ℕ) → bytes_eq w bs ≡ false → bytes_eq bs w ≡ false
not_equal bs w other = elim (cases_Bool (bytes_eq bs w)) [
  | inl same ↦ let e : bs ≡ w = (bytes_eq-Decides bs w).0 same in let bad : true ≡ false = sym ((bytes_eq-Decides w bs).1 (sym e)) ∙ other in absurd (cc)
  | inr not_ ↦ not_
]

-- no row of a table of words has them
no_row : (bs : List ℕ) (xs : List Word) (es : List Entry) → find (λ v. bytes_eq (spelling v) bs) xs ≡ None
    → list_all (λ e. list_any (λ v. bytes_eq (spelling v) e.word) xs) es ≡ true → find (λ e. bytes_eq e.word bs) es ≡ None
no_row bs xs [] none part = refl
no_row bs xs (e ∷ es) none part = elim (cases_Bool (list_any (λ v. bytes_eq (spelling v) e.word) xs)) [
  | inl there ↦ rw (other_bytes bs e.word xs none there) (no_row bs xs es none (rw there at part))
  | inr missing ↦ let bad : false ≡ true = rw missing at part in absurd (cc)
]

-- bytes that are no word have no form
pub unspelled : (f : ℕ) (more : Further) (bs : List ℕ) (args : List (List ℕ)) → find (λ v. bytes_eq (spelling v) bs) all_words ≡ None →
    form_of_words f more (bs ∷ args) ≡ Err codes_of.Word
unfolding form_of_words
unspelled f more bs args none =
    rw (not_equal bs (codes "recolour") (other_bytes bs (codes "recolour") all_words none refl))
    (rw (not_equal bs (codes "points") (other_bytes bs (codes "points") all_words none refl)) (rw (no_row bs all_words (table f) none refl) refl))

-- the bytes are the word's
pub spelled_is : (bs : List ℕ) (w : Word) → find (λ v. bytes_eq (spelling v) bs) all_words ≡ Some w → bs ≡ spelling w
spelled_is bs w is = sym ((bytes_eq-Decides (spelling w) bs).0 (find_holds (λ v. bytes_eq (spelling v) bs) all_words w is))

pub spelled_some : (bs : List ℕ) (w : Option Word) → w ≡ find (λ v. bytes_eq (spelling v) bs) all_words → IfSome w (λ v. bs ≡ spelling v)
spelled_some bs None is = tt
spelled_some bs (Some w) is = spelled_is bs w (sym is)

-- bytes that begin with a byte are found among the words that begin with it
pub found_among : (c : ℕ) (cs : List ℕ) (xs : List Word) →
    find (λ w. bytes_eq (spelling w) (c ∷ cs)) (filter (λ w. first_is c (spelling w)) xs) ≡ find (λ w. bytes_eq (spelling w) (c ∷ cs)) xs
found_among c cs [] = refl
found_among c cs (x ∷ xs) = elim (cases_Bool (bytes_eq (spelling x) (c ∷ cs))) [
  | inl same ↦
      let is : spelling x ≡ c ∷ cs = (bytes_eq-Decides (spelling x) (c ∷ cs)).0 same in
      let first : first_is c (spelling x) ≡ true = ap (first_is c) is ∙ eq-eqb c c refl in
      rw first (rw same refl)
  | inr other ↦ elim (cases_Bool (first_is c (spelling x))) [
    | inl first ↦ rw (first, other) (found_among c cs xs)
    | inr not_ ↦ rw (not_, other) (found_among c cs xs)
  ]
]

pub found_first : (bytes : List ℕ) (d : ℕ) (ws : List Word) → 1 ≤ length bytes → ws ≡ filter (λ w. first_is (get_or bytes 0 d) (spelling w)) all_words →
    find (λ w. bytes_eq (spelling w) bytes) ws ≡ find (λ w. bytes_eq (spelling w) bytes) all_words
found_first [] d ws some is = absurd (omega (arith, some))
found_first (c ∷ cs) d ws some is = ap (find (λ w. bytes_eq (spelling w) (c ∷ cs))) is ∙ found_among c cs all_words
