-- The words, read from the first to the last, and that the table reads them alike.
use Rattle.std.proofs.Common.{◌≡◌, ℕ, Bool, true, false, ◌||◌, not, cond, ◌≤◌, ◌-◌, ◌^◌, nat_eq, nat_lt, List, [], ◌∷◌, ◌++◌, length, length-append, get_or}
use Rattle.std.proofs.Common.{drop, Option, Some, None, codes, refl, sym, ◌∙◌, ap, subst, arith, append_assoc}
use Rattle.std.specs.Prelude.{is_none, if◌then◌else◌, option_and_then}
use Rattle.std.specs.List.{starts_with}
use Rattle.std.specs.Str.{bytes_eq}
use Rattle.std.proofs.lemmas.Bool.{and_parts, and_right, ltb-false}
use Rattle.std.proofs.lemmas.Slice.Eq.{bytes_eq-Decides}
use Rattle.std.proofs.lemmas.List.{append-nil}
use Rattle.quilt_words.specs.Spelling.{number}
use Rattle.quilt_top.specs.Words.{Order, Parts, is_dashed, with_word, with_pool, parts_of, run_order, new_order, trial_order, order_of_words, order_of}
use Rattle.quilt_top.specs.Words.{asked_for}

-- where the reading stands: between two words, behind `--pool`, or at words that are refused
pub data Place : Type 0 where
  between : (ended : Bool) (alone : List (List ℕ)) (pool : Option (List ℕ)) → Place
  wants : (alone : List (List ℕ)) (pool : Option (List ℕ)) → Place
  lost : Place

-- at most four words stand alone
abbrev pub placing : Bool → List (List ℕ) → Option (List ℕ) → List ℕ → Place
placing ended alone pool w = if nat_lt (length alone) 4 then between ended (alone ++ w ∷ []) pool else lost

abbrev pub pooling : List (List ℕ) → Option (List ℕ) → List ℕ → Place
pooling alone None v = between false alone (Some v)
pooling alone (Some u) v = lost

abbrev pub step : Place → List ℕ → Place
step (between ended alone pool) w =
    if ended || not (is_dashed w) then placing ended alone pool w
    else if bytes_eq w (codes "--") then between true alone pool
    else if starts_with nat_eq w (codes "--pool=") then pooling alone pool (drop 7 w)
    else if bytes_eq w (codes "--pool") then wants alone pool else lost
step (wants alone pool) w = if is_dashed w then lost else pooling alone pool w
step lost w = lost

abbrev pub ends : Place → Option Order
ends (between ended alone pool) = order_of_words pool alone
ends (wants alone pool) = None
ends lost = None

abbrev pub scan : Place → List (List ℕ) → Option Order
scan at [] = ends at
scan at (w ∷ ws) = scan (step at w) ws

pub scan-lost : (ws : List (List ℕ)) → scan lost ws ≡ None
scan-lost [] = refl
scan-lost (w ∷ ws) = scan-lost ws

-- what the table says, behind words that were read
abbrev after : List (List ℕ) → Option (List ℕ) → Option Parts → Option Order
after alone pool None = None
after alone None (Some p) = order_of_words p.pool (alone ++ p.alone)
after alone (Some v) (Some p) = if is_none p.pool then order_of_words (Some v) (alone ++ p.alone) else None

abbrev nothing : Option Order
nothing = None

cond_none : (b : Bool) → cond b nothing nothing ≡ nothing
cond_none true = refl
cond_none false = refl

too_many : (pool : Option (List ℕ)) (ws : List (List ℕ)) → 5 ≤ length ws → order_of_words pool ws ≡ None
too_many pool [] size = absurd (omega arith)
too_many pool (a ∷ []) size = absurd (omega arith)
too_many pool (a ∷ b ∷ []) size = absurd (omega arith)
too_many pool (a ∷ b ∷ c ∷ []) size = absurd (omega arith)
too_many pool (a ∷ b ∷ c ∷ d ∷ []) size = absurd (omega arith)
too_many pool (a ∷ b ∷ c ∷ d ∷ e ∷ ws) size = refl

no_number : (v : List ℕ) → is_dashed v ≡ true → number 8 4096 v ≡ None
unfolding number
no_number [] is = absurd (cc)
no_number (x ∷ []) is =
    let long : false ≡ true = (and_parts (starts_with nat_eq (x ∷ []) (codes "-")) false is).1 in
    absurd (cc)
no_number (x ∷ y ∷ ys) is =
    let starts = (and_parts (starts_with nat_eq (x ∷ y ∷ ys) (codes "-")) (nat_lt 1 (length (x ∷ y ∷ ys))) is).0 in
    let dash : codes "-" ≡ x ∷ [] = (bytes_eq-Decides (codes "-") (x ∷ [])).0 starts in
    subst (λ z. number 8 4096 (z ∷ y ∷ ys) ≡ None) (ap (λ l. get_or l 0 0) dash) refl

no_trial : (file : List ℕ) (seed count : Option ℕ) → trial_order file seed count None ≡ None
no_trial file None count = refl
no_trial file (Some seed) None = refl
no_trial file (Some seed) (Some count) = refl

dashed_pool : (v : List ℕ) (ws : List (List ℕ)) → number 8 4096 v ≡ None → order_of_words (Some v) ws ≡ None
dashed_pool v [] is = refl
dashed_pool v (a ∷ []) is = refl
dashed_pool v (a ∷ b ∷ []) is = ap (λ p. cond (bytes_eq a (codes "run")) (run_order b p) None) is ∙ cond_none (bytes_eq a (codes "run"))
dashed_pool v (a ∷ b ∷ c ∷ []) is = refl
dashed_pool v (a ∷ b ∷ c ∷ d ∷ []) is =
    let trial = bytes_eq a (codes "trial") in
    let seed = number 0 (2 ^ 64 - 1) c in
    let count = number 1 1000000 d in
    ap (λ t. cond t (new_order b (number 16 30000 c) (number 1 12 d)) (cond trial (trial_order b seed count (number 8 4096 v)) None))
    (and_right (bytes_eq a (codes "new")) false refl)
    ∙ ap (λ p. cond trial (trial_order b seed count p) None) is ∙ ap (λ o. cond trial o None) (no_trial b seed count) ∙ cond_none trial
dashed_pool v (a ∷ b ∷ c ∷ d ∷ e ∷ ws) is = refl

after-word : (alone : List (List ℕ)) (pool : Option (List ℕ)) (w : List ℕ) (o : Option Parts)
    → after (alone ++ w ∷ []) pool o ≡ after alone pool (with_word w o)
after-word alone pool w None = refl
after-word alone None w (Some p) = ap (order_of_words p.pool) (append_assoc alone (w ∷ []) p.alone)
after-word alone (Some v) w (Some p) = ap (λ ws. cond (is_none p.pool) (order_of_words (Some v) ws) None) (append_assoc alone (w ∷ []) p.alone)

after-many : (alone : List (List ℕ)) (pool : Option (List ℕ)) (w : List ℕ) (o : Option Parts) → 4 ≤ length alone → after alone pool (with_word w o) ≡ None
after-many alone pool w None many = refl
after-many alone None w (Some p) many = too_many p.pool (alone ++ w ∷ p.alone) (omega (arith, length-append alone (w ∷ p.alone)))
after-many alone (Some v) w (Some p) many = ap (λ o. cond (is_none p.pool) o None)
    (too_many (Some v) (alone ++ w ∷ p.alone) (omega (arith, length-append alone (w ∷ p.alone)))) ∙ cond_none (is_none p.pool)

after-pool : (alone : List (List ℕ)) (v : List ℕ) (o : Option Parts) → after alone (Some v) o ≡ after alone None (with_pool v o)
after-pool alone v None = refl
after-pool alone v (Some p) = by p.pool
  where
    by : (pool : Option (List ℕ)) → cond (is_none pool) (order_of_words (Some v) (alone ++ p.alone)) None
        ≡ after alone None (cond (is_none pool) (Some (record p { pool = Some v })) None)
    by None = refl
    by (Some u) = refl

after-twice : (alone : List (List ℕ)) (u v : List ℕ) (o : Option Parts) → after alone (Some u) (with_pool v o) ≡ None
after-twice alone u v None = refl
after-twice alone u v (Some p) = by p.pool
  where
    by : (pool : Option (List ℕ)) → after alone (Some u) (cond (is_none pool) (Some (record p { pool = Some v })) None) ≡ None
    by None = refl
    by (Some w) = refl

after-dashed : (alone : List (List ℕ)) (pool : Option (List ℕ)) (v : List ℕ) (o : Option Parts) → number 8 4096 v ≡ None
    → after alone pool (with_pool v o) ≡ None
after-dashed alone (Some u) v o is = after-twice alone u v o
after-dashed alone None v None is = refl
after-dashed alone None v (Some p) is =
    sym (after-pool alone v (Some p)) ∙ ap (λ o. cond (is_none p.pool) o None) (dashed_pool v (alone ++ p.alone) is) ∙ cond_none (is_none p.pool)

abbrev Agrees : List (List ℕ) → Bool → Type 0
Agrees ws ended = (alone : List (List ℕ)) (pool : Option (List ℕ)) → scan (between ended alone pool) ws ≡ after alone pool (parts_of ended ws)

places : (w : List ℕ) (ws : List (List ℕ)) (ended : Bool) → Agrees ws ended → (alone : List (List ℕ)) (pool : Option (List ℕ))
    → scan (placing ended alone pool w) ws ≡ after alone pool (with_word w (parts_of ended ws))
places w ws ended rest alone pool = by (nat_lt (length alone) 4) refl
  where
    by : (b : Bool) → nat_lt (length alone) 4 ≡ b
        → scan (cond b (between ended (alone ++ w ∷ []) pool) lost) ws ≡ after alone pool (with_word w (parts_of ended ws))
    by true few = rest (alone ++ w ∷ []) pool ∙ after-word alone pool w (parts_of ended ws)
    by false many = scan-lost ws ∙ sym (after-many alone pool w (parts_of ended ws) (ltb-false _ _ many))

pools : (v : List ℕ) (ws : List (List ℕ)) → Agrees ws false → (alone : List (List ℕ)) (pool : Option (List ℕ))
    → scan (pooling alone pool v) ws ≡ after alone pool (with_pool v (parts_of false ws))
pools v ws rest alone None = rest alone (Some v) ∙ after-pool alone v (parts_of false ws)
pools v ws rest alone (Some u) = scan-lost ws ∙ sym (after-twice alone u v (parts_of false ws))

wanted : (v : List ℕ) (ws : List (List ℕ)) → Agrees ws false → (alone : List (List ℕ)) (pool : Option (List ℕ))
    → scan (wants alone pool) (v ∷ ws) ≡ after alone pool (with_pool v (parts_of false ws))
wanted v ws rest alone pool = by (is_dashed v) refl
  where
    by : (b : Bool) → is_dashed v ≡ b → scan (cond b lost (pooling alone pool v)) ws ≡ after alone pool (with_pool v (parts_of false ws))
    by true is = scan-lost ws ∙ sym (after-dashed alone pool v (parts_of false ws) (no_number v is))
    by false is = pools v ws rest alone pool

-- one of four ways, or none
ways : (alone : List (List ℕ)) (pool : Option (List ℕ)) (ws : List (List ℕ)) (a b c d : Place) (p q r s : Option Parts)
    → scan a ws ≡ after alone pool p → scan b ws ≡ after alone pool q → scan c ws ≡ after alone pool r → scan d ws ≡ after alone pool s
    → (t u v w : Bool) → scan (cond t a (cond u b (cond v c (cond w d lost)))) ws ≡ after alone pool (cond t p (cond u q (cond v r (cond w s None))))
ways alone pool ws a b c d p q r s ap bq cr ds true u v w = ap
ways alone pool ws a b c d p q r s ap bq cr ds false true v w = bq
ways alone pool ws a b c d p q r s ap bq cr ds false false true w = cr
ways alone pool ws a b c d p q r s ap bq cr ds false false false true = ds
ways alone pool ws a b c d p q r s ap bq cr ds false false false false = scan-lost ws

abbrev no_parts : Option Parts
no_parts = None

cond_same : (b : Bool) → cond b no_parts no_parts ≡ no_parts
cond_same true = refl
cond_same false = refl

ends_agree : (ended : Bool) → Agrees [] ended
ends_agree ended alone None = ap (order_of_words None) (sym (append-nil alone))
ends_agree ended alone (Some v) = ap (order_of_words (Some v)) (sym (append-nil alone))

pub scans : (ws : List (List ℕ)) (ended : Bool) → Agrees ws ended
scans [] ended alone pool = ends_agree ended alone pool
scans (w ∷ []) true alone pool = places w [] true (ends_agree true) alone pool
scans (w ∷ v ∷ ws) true alone pool = places w (v ∷ ws) true (scans (v ∷ ws) true) alone pool
scans (w ∷ []) false alone pool =
    let rest = ends_agree false in
    ways alone pool [] (placing false alone pool w) (between true alone pool) (pooling alone pool (drop 7 w)) (wants alone pool)
    (with_word w (parts_of false [])) (parts_of true []) (with_pool (drop 7 w) (parts_of false [])) None
    (places w [] false rest alone pool) (ends_agree true alone pool) (pools (drop 7 w) [] rest alone pool) refl
    (not (is_dashed w)) (bytes_eq w (codes "--")) (starts_with nat_eq w (codes "--pool=")) (bytes_eq w (codes "--pool"))
    ∙ ap (λ o. after alone pool (cond (not (is_dashed w)) (with_word w (parts_of false [])) (cond (bytes_eq w (codes "--")) (parts_of true [])
    (cond (starts_with nat_eq w (codes "--pool=")) (with_pool (drop 7 w) (parts_of false [])) o)))) (cond_same (bytes_eq w (codes "--pool")))
scans (w ∷ v ∷ ws) false alone pool =
    let rest = scans (v ∷ ws) false in
    ways alone pool (v ∷ ws) (placing false alone pool w) (between true alone pool) (pooling alone pool (drop 7 w)) (wants alone pool)
    (with_word w (parts_of false (v ∷ ws))) (parts_of true (v ∷ ws)) (with_pool (drop 7 w) (parts_of false (v ∷ ws))) (with_pool v (parts_of false ws))
    (places w (v ∷ ws) false rest alone pool) (scans (v ∷ ws) true alone pool) (pools (drop 7 w) (v ∷ ws) rest alone pool)
    (wanted v ws (scans ws false) alone pool)
    (not (is_dashed w)) (bytes_eq w (codes "--")) (starts_with nat_eq w (codes "--pool=")) (bytes_eq w (codes "--pool"))

pub asked_for-scans : (ws : List (List ℕ)) → asked_for ws ≡ scan (between false [] None) ws
unfolding asked_for
asked_for-scans ws = whole (parts_of false ws) ∙ sym (scans ws false [] None)
  where
    whole : (o : Option Parts) → option_and_then order_of o ≡ after [] None o
    whole None = refl
    whole (Some p) = refl
