-- The loops that take records out of a tree and put records in, one step on.
use Rattle.std.proofs.Common.{◌≡◌, ℕ, ◌+◌, ◌<◌, Bool, true, false, not, ◌||◌, ◌⊎◌, List, [], ◌∷◌, ◌++◌, length, take, get_or, refl, sym, ◌∙◌, ap}
use Rattle.std.proofs.Common.{⊎_elim, arith, Contains, filter, count_by}
use Rattle.std.specs.Ordering.{is_eq}
use Rattle.std.specs.List.{list_any}
use Rattle.std.specs.Cmp.{tied_itself}
use Rattle.std.proofs.lemmas.Bool.{cases_Bool}
use Rattle.std.proofs.lemmas.List.{take_more}
use Rattle.quilt_record.specs.declared.key.Key.{Key}
use Rattle.quilt_record.specs.declared.record.Record.{Record}
use Rattle.quilt_record.specs.Records.{key_cmp}
use Rattle.quilt_types.specs.Layers.{Map}
use Rattle.quilt_types.specs.Facts.{all_facts, is_fact_of, changes}
use Rattle.quilt_spell.specs.Changing.{lost}
use Rattle.quilt_record.specs.Lists.{has_key, put, without}
use Rattle.quilt_spell.specs.Applying.{taken}
use Rattle.quilt_loc.proofs.Members.{Contains-nil, Contains-here, Contains-there, Contains-cons_cases, Contains-filter_from}
use Rattle.quilt_record.proofs.Orders.{key_total, is_Equal}
use Rattle.std.proofs.lemmas.List.Sums.{length-filter}
use Rattle.quilt_spell.proofs.Written.{key_same}
use Rattle.quilt_spell.proofs.facts.SameFacts.{fact_of_is}
use Rattle.quilt_spell.proofs.Changes.{not_true, changes_are}

-- ---- one more
taken_push : (rs xs : List Record) (x : Record) → taken rs (xs ++ x ∷ []) ≡ without x.key (taken rs xs)
taken_push rs [] x = refl
taken_push rs (y ∷ ys) x = taken_push (without y.key rs) ys x

pub taken_more : (rs removed : List Record) (i : ℕ) (d : Record) → i < length removed
    → taken rs (take (i + 1) removed) ≡ without (get_or removed i d).key (taken rs (take i removed))
taken_more rs removed i d lt = ap (taken rs) (take_more removed i d lt) ∙ taken_push rs (take i removed) (get_or removed i d)

-- ---- what the tree asks and answers
pub has_some : (rs : List Record) (r : Record) → Contains rs r → list_any (has_key r.key) rs ≡ true
has_some [] r c = absurd (Contains-nil r c)
has_some (s ∷ rs) r c =
    ⊎_elim (λ e. ap (λ (b : Bool). b || list_any (has_key r.key) rs) (ap is_eq (ap (λ (q : Record). key_cmp q.key r.key) e ∙ tied_itself key_total r.key)))
    (λ d. ap (λ (b : Bool). has_key r.key s || b) (has_some rs r d) ∙ right (has_key r.key s)) (Contains-cons_cases s rs r c)
  where
    right : (b : Bool) → b || true ≡ true
    right true = refl
    right false = refl

pub has_none : (k : Key) (rs : List Record) → ((s : Record) → Contains rs s → k ≡ s.key → ⊥) → list_any (has_key k) rs ≡ false
has_none k [] h = refl
has_none k (s ∷ rs) h =
    ⊎_elim (λ t. absurd (h s (Contains-here s rs) (sym (key_same s.key k (is_Equal (key_cmp s.key k) t)))))
    (λ f. ap (λ (b : Bool). b || list_any (has_key k) rs) f ∙ has_none k rs (λ t c. h t (Contains-there s rs t c)))
    (cases_Bool (has_key k s))

-- ---- a command that changes nothing
none_pass : {X : Type 0} (p : X → Bool) (xs : List X) → ((x : X) → Contains xs x → p x ≡ true → ⊥) → count_by p xs ≡ 0
none_pass p xs h = sym (length-filter p xs) ∙ empty (filter p xs) (λ x c. let w = Contains-filter_from p xs x c in h x w.0 w.1)
  where
    empty : {Y : Type 0} (ys : List Y) → ((y : Y) → Contains ys y → ⊥) → length ys ≡ 0
    empty [] g = refl
    empty (y ∷ ys) g = absurd (g y (Contains-here y ys))

pub changes_none : (n : ℕ) (layers : Map) → changes n layers layers ≡ 0
unfolding lost
changes_none n layers =
    let z : lost n layers layers ≡ 0 = none_pass (λ f. not (is_fact_of (all_facts n layers) f)) (all_facts n layers)
    (λ f c t. not_true (is_fact_of (all_facts n layers) f) t (fact_of_is (all_facts n layers) f c)) in
    let c = changes_are n layers layers in
    omega arith
