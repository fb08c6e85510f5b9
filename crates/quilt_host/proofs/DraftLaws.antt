-- What each act does to the draft.
use Rattle.std.proofs.Common.{◌≡◌, ◌≢◌, inl, inr, ℕ, ◌+◌, ◌*◌, ◌/◌, ◌%◌, ◌<◌, ◌≤◌, Bool, true, false, cond, ◌&&◌, List, [], ◌∷◌, ◌++◌, length, map, refl, sym, ◌∙◌, ap, arith, eqb, eq-eqb, add-zero}
use Rattle.std.specs.Prelude.{nat_lt, nat_le, ◌==◌}
use Rattle.std.proofs.lemmas.Bool.{ne_eqb, and_from, and_left}
use Rattle.std.proofs.lemmas.Bool.Decides.{nat_tests}
use Rattle.quilt_types.specs.Plane.{below}
use Rattle.quilt_world.specs.Disk.{Log}
use Rattle.quilt_world.specs.declared.event.Event.{Event}
use Rattle.quilt_world.specs.declared.event.Event.TheVariants as events
use Rattle.quilt_host.specs.declared.act.Act.{Act}
use Rattle.quilt_host.specs.declared.act.Act.TheVariants.{Opened, Created, Wrote, Lost, Synced, Linked, Took, Ended, Put}
use Rattle.quilt_host.specs.Acts.{Draft, drafted, closed, fronted, begins, goes_on, tears, drafted_after}

-- ---- closing

pub closed_none : (d : Draft) → length d.front ≡ 0 → closed d ≡ d.log
unfolding closed
closed_none d none = ap (λ b. cond b d.log (d.log ++ events.Tore d.page ∷ [])) (eq-eqb (length d.front) 0 none)

pub closed_some : (d : Draft) → 0 < length d.front → closed d ≡ d.log ++ events.Tore d.page ∷ []
unfolding closed
closed_some d some = ap (λ b. cond b d.log (d.log ++ events.Tore d.page ∷ [])) (ne_eqb (length d.front) 0 (λ e. omega arith))

pub closed_drafted : (log : Log) → closed (drafted log) ≡ log
closed_drafted log = closed_none (drafted log) refl

-- ---- a front

pub fronted_whole : (page : ℕ) (front : List ℕ) (log : Log) → length front ≡ 4096 → fronted page front log ≡ drafted (log ++ events.Wrote page front ∷ [])
unfolding fronted
fronted_whole page front log is =
    ap (λ b. cond b (drafted (log ++ events.Wrote page front ∷ [])) (record { log = log; page = page; front = front })) (eq-eqb (length front) 4096 is)

pub fronted_part : (page : ℕ) (front : List ℕ) (log : Log) → length front < 4096
    → fronted page front log ≡ record { log = log; page = page; front = front }
unfolding fronted
fronted_part page front log few =
    ap (λ b. cond b (drafted (log ++ events.Wrote page front ∷ [])) (record { log = log; page = page; front = front }))
    (ne_eqb (length front) 4096 (λ e. omega arith))

-- ---- where a write lies

begins_true : (i n : ℕ) → n ≤ 4096 → begins (i * 4096) n ≡ true
begins_true i n few = and_from _ _ (eq-eqb (i * 4096 % 4096) 0 (omega arith)) (grind (arith, nat_tests))

begins_false : (i m n : ℕ) → 0 < m → m < 4096 → begins (i * 4096 + m) n ≡ false
begins_false i m n some few = and_left _ _ (ne_eqb ((i * 4096 + m) % 4096) 0 (λ e. omega arith))

goes_on_true : (d : Draft) (at n : ℕ) → at ≡ d.page * 4096 + length d.front → 0 < length d.front → length d.front < 4096 → length d.front + n ≤ 4096
    → goes_on d at n ≡ true
goes_on_true d at n is some few fits =
    and_from _ _ (and_from _ _ (let past : 0 < at % 4096 = omega arith in grind (arith, nat_tests)) (eq-eqb at (d.page * 4096 + length d.front) is)) (grind (arith, nat_tests))

goes_on_false : (d : Draft) (i n : ℕ) → goes_on d (i * 4096) n ≡ false
goes_on_false d i n =
    let none : i * 4096 % 4096 ≡ 0 = omega arith in
    and_left _ _ (and_left _ _ (let test : nat_lt 0 (i * 4096 % 4096) ≡ false = grind (arith, nat_tests) in test))

-- one page is torn
tears_one : (i m n : ℕ) → 1 ≤ n → m + n ≤ 4096 → tears (i * 4096 + m) n ≡ events.Tore i ∷ []
unfolding tears
tears_one i m n some fits =
    let count : ((i * 4096 + m) % 4096 + n + 4095) / 4096 ≡ 1 = omega arith in
    let page : (i * 4096 + m) / 4096 ≡ i = omega arith in
    ap (λ k. map (λ j. events.Tore ((i * 4096 + m) / 4096 + j)) (below k)) count ∙ ap (λ p. events.Tore (p + 0) ∷ []) page ∙ ap (λ p. events.Tore p ∷ []) (add-zero i)

-- ---- writes

-- a page begins
pub after_first : (d : Draft) (i : ℕ) (x : List ℕ) → length x ≤ 4096 → drafted_after d (Wrote (i * 4096) x) ≡ fronted i x (closed d)
unfolding drafted_after
after_first d i x few =
    ap (λ b. cond b (fronted (i * 4096 / 4096) x (closed d))
    (cond (goes_on d (i * 4096) (length x)) (fronted d.page (d.front ++ x) d.log) (drafted (closed d ++ tears (i * 4096) (length x)))))
    (begins_true i (length x) few)
    ∙ (let page : i * 4096 / 4096 ≡ i = omega arith in ap (λ p. fronted p x (closed d)) page)

-- a page goes on
pub after_next : (i m : ℕ) (front x : List ℕ) (log : Log) → length front ≡ m → 0 < m → m < 4096 → m + length x ≤ 4096
    → drafted_after (record { log = log; page = i; front = front }) (Wrote (i * 4096 + m) x) ≡ fronted i (front ++ x) log
unfolding drafted_after
after_next i m front x log is some few fits =
    let d : Draft = record { log = log; page = i; front = front } in
    let at : ℕ = i * 4096 + m in
    ap (λ b. cond b (fronted (at / 4096) x (closed d)) (cond (goes_on d at (length x)) (fronted i (front ++ x) log) (drafted (closed d ++ tears at (length x)))))
    (begins_false i m (length x) some few)
    ∙ ap (λ b. cond b (fronted i (front ++ x) log) (drafted (closed d ++ tears at (length x))))
    (goes_on_true d at (length x) (omega arith) (omega arith) (omega arith) (omega arith))

-- a write that begins a page is lost
pub after_lost_first : (d : Draft) (i n : ℕ) → 1 ≤ n → n ≤ 4096 → closed (drafted_after d (Lost (i * 4096) n)) ≡ closed d ++ events.Tore i ∷ []
unfolding drafted_after
after_lost_first d i n some few =
    closed_drafted _
    ∙ ap (λ b. cond b d.log (closed d) ++ tears (i * 4096) n) (goes_on_false d i n)
    ∙ ap (λ a. closed d ++ tears a n) (sym (add-zero (i * 4096)))
    ∙ ap (λ t. closed d ++ t) (tears_one i 0 n some (omega arith))

-- a write that goes on is lost
pub after_lost_next : (i m n : ℕ) (front : List ℕ) (log : Log) → length front ≡ m → 0 < m → m < 4096 → 1 ≤ n → m + n ≤ 4096
    → closed (drafted_after (record { log = log; page = i; front = front }) (Lost (i * 4096 + m) n)) ≡ log ++ events.Tore i ∷ []
unfolding drafted_after
after_lost_next i m n front log is some few one fits =
    let d : Draft = record { log = log; page = i; front = front } in
    closed_drafted _
    ∙ ap (λ b. cond b log (closed d) ++ tears (i * 4096 + m) n) (goes_on_true d (i * 4096 + m) n (omega arith) (omega arith) (omega arith) (omega arith))
    ∙ ap (λ t. log ++ t) (tears_one i m n one fits)

-- ---- the others

pub after_synced : (d : Draft) → closed (drafted_after d Synced) ≡ closed d ++ events.Synced ∷ []
unfolding drafted_after
after_synced d = closed_drafted _

pub after_took : (d : Draft) (bytes : List ℕ) → closed (drafted_after d (Took bytes)) ≡ closed d ++ events.Took bytes ∷ []
unfolding drafted_after
after_took d bytes = closed_drafted _

pub after_put : (d : Draft) (bytes : List ℕ) → closed (drafted_after d (Put bytes)) ≡ closed d ++ events.Put bytes ∷ []
unfolding drafted_after
after_put d bytes = closed_drafted _

pub after_ended : (d : Draft) → drafted_after d Ended ≡ d
unfolding drafted_after
after_ended d = refl

pub after_opened : (d : Draft) → closed (drafted_after d Opened) ≡ []
unfolding drafted_after
after_opened d = closed_drafted _

pub after_linked : (d : Draft) → closed (drafted_after d Linked) ≡ []
unfolding drafted_after
after_linked d = closed_drafted _
