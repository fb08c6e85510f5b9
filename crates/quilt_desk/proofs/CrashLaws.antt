-- A page's state is what the log says of the page, so what a crash leaves can be left.
use Rattle.std.specs.List.{list_all, list_any, fold}
use Rattle.std.specs.Prelude.{unwrap_or, slice_index, ◌||◌, ◌&&◌, ◌==◌, drop}
use Rattle.std.proofs.Common.{◌≡◌, inl, inr, true, false, Bool, cond, ℕ, ◌+◌, ◌<◌, ◌≤◌, List, [], ◌∷◌, Option, Some, None, length, get_or, set, take, refl, sym}
use Rattle.std.proofs.Common.{◌∙◌, ap, subst, arith, get_or-set_same, get_or-set_other}
use Rattle.std.proofs.Math.ListN.{length-set}
use Rattle.std.proofs.lemmas.List.{take-append-drop}
use Rattle.std.proofs.lemmas.Bool.{cases_lt, cases_Bool, false≢true, or_parts, and_parts}
use Rattle.std.proofs.lemmas.List.Folds.{list_all_at, list_all-append}
use Rattle.std.proofs.lemmas.List.Sums.{fold_more}
use Rattle.quilt_world.specs.Disk.{Pages, Log, Mark, Untouched, Written, Torn, marked, mark_from, unsynced_after, unsynced_from, is_unsynced, CanLeave}
use Rattle.quilt_world.specs.PageBytes.{bytes_by, last_bytes, fixed_bytes}
use Rattle.quilt_world.specs.declared.event.Event.{Event}
use Rattle.quilt_world.specs.declared.event.Event.TheVariants.{Took, Put, Wrote, Tore, Synced}
use Rattle.quilt_world.proofs.PageLaws.{left_from_pages}
use Rattle.quilt_desk.specs.declared.page_state.PageState.{PageState}
use Rattle.quilt_desk.specs.Crash.{is_sync, until_sync, since_sync, written_after, last_written, chosen, left_by, page_filled, IsLeftBy}
use Rattle.quilt_desk.specs.PageStates.{first_page_state, page_state_after, state_of, kept_of, chosen_of, left_of}
use Rattle.quilt_desk.specs.Whole.{is_whole_page}

-- ---- one event more

pub state_of-more : (page : ℕ) (first : List ℕ) (log : Log) (i : ℕ) (e : Event) → i < length log → e ≡ get_or log i e
    → page_state_after page (state_of page first (take i log)) e ≡ state_of page first (take (i + 1) log)
unfolding state_of
state_of-more page first log i e within is =
    ap (λ (x : Event). page_state_after page (fold (page_state_after page) (first_page_state first) (take i log)) x) is
    ∙ sym (fold_more (page_state_after page) (first_page_state first) log i e within)

pub whole_at : (log : Log) (i : ℕ) (e : Event) → i < length log → e ≡ get_or log i e → list_all is_whole_page log ≡ true → is_whole_page e ≡ true
whole_at log i e within is all = elim (cases_Bool (is_whole_page e)) [
  | inl whole ↦ whole
  | inr part ↦ let none : list_all is_whole_page log ≡ false = list_all_at is_whole_page log i e within (ap is_whole_page (sym is) ∙ part) in
      let no : true ≡ false = sym all ∙ none in cc
]

-- ---- a state and a mark

last_step : (page : ℕ) (first : List ℕ) (s : PageState) (m : Mark) (e : Event) → s.last ≡ bytes_by m first
    → (page_state_after page s e).last ≡ bytes_by (marked page m e) first
last_step page first s m (Wrote at bytes) same = wrote (at == page)
  where
    wrote : (b : Bool) → (cond b (record { last = Some bytes; synced = s.synced; written = Some bytes; is_unsynced = true }) s).last
        ≡ bytes_by (cond b (Written bytes) m) first
    wrote true = refl
    wrote false = same
last_step page first s m (Tore at) same = tore (at == page)
  where
    tore : (b : Bool) → (cond b (record { last = None; synced = s.synced; written = s.written; is_unsynced = true }) s).last ≡ bytes_by (cond b Torn m) first
    tore true = refl
    tore false = same
last_step page first s m Synced same = same
last_step page first s m (Took bytes) same = same
last_step page first s m (Put bytes) same = same

or_true : (u : Bool) → true ≡ u || true
or_true true = refl
or_true false = refl

or_false : (u : Bool) → u ≡ u || false
or_false true = refl
or_false false = refl

unsynced_step : (page : ℕ) (s : PageState) (e : Event) → (page_state_after page s e).is_unsynced ≡ unsynced_after page s.is_unsynced e
unsynced_step page s (Wrote at bytes) = wrote (at == page)
  where
    wrote : (b : Bool) → (cond b (record { last = Some bytes; synced = s.synced; written = Some bytes; is_unsynced = true }) s).is_unsynced ≡ s.is_unsynced || b
    wrote true = or_true s.is_unsynced
    wrote false = or_false s.is_unsynced
unsynced_step page s (Tore at) = tore (at == page)
  where
    tore : (b : Bool) → (cond b (record { last = None; synced = s.synced; written = s.written; is_unsynced = true }) s).is_unsynced ≡ s.is_unsynced || b
    tore true = or_true s.is_unsynced
    tore false = or_false s.is_unsynced
unsynced_step page s Synced = refl
unsynced_step page s (Took bytes) = refl
unsynced_step page s (Put bytes) = refl

last_from : (page : ℕ) (first : List ℕ) (log : Log) (s : PageState) (m : Mark) → s.last ≡ bytes_by m first
    → (fold (page_state_after page) s log).last ≡ bytes_by (mark_from page m log) first
last_from page first [] s m same = same
last_from page first (e ∷ log) s m same = last_from page first log (page_state_after page s e) (marked page m e) (last_step page first s m e same)

unsynced_along : (page : ℕ) (log : Log) (s : PageState) (u : Bool) → s.is_unsynced ≡ u → (fold (page_state_after page) s log).is_unsynced ≡ unsynced_from page u log
unsynced_along page [] s u same = same
unsynced_along page (e ∷ log) s u same =
    unsynced_along page log (page_state_after page s e) (unsynced_after page u e) (unsynced_step page s e ∙ ap (λ t. unsynced_after page t e) same)

-- what is kept is what is in each image that a stop may leave
kept-state_of : (start : Pages) (log : Log) (i : ℕ) → kept_of (state_of i (get_or start i []) log) ≡ fixed_bytes start log i
unfolding state_of fixed_bytes last_bytes
kept-state_of start log i =
    let s : PageState = fold (page_state_after i) (first_page_state (get_or start i [])) log in
    ap (λ u. cond u None s.last) (unsynced_along i log (first_page_state (get_or start i [])) false refl)
    ∙ ap (λ l. cond (is_unsynced i log) None l) (last_from i (get_or start i []) log (first_page_state (get_or start i [])) Untouched refl)

-- ---- the last sync

no_until : (log : Log) → list_any is_sync log ≡ false → until_sync log ≡ []
no_until [] none = refl
no_until (e ∷ log) none = rw (or_parts (is_sync e) (list_any is_sync log) none).0 (rw (or_parts (is_sync e) (list_any is_sync log) none).1 refl)

no_since : (log : Log) → list_any is_sync log ≡ false → since_sync log ≡ log
no_since [] none = refl
no_since (e ∷ log) none = rw (or_parts (is_sync e) (list_any is_sync log) none).0 (rw (or_parts (is_sync e) (list_any is_sync log) none).1 refl)

-- after one more event that is no sync, what was synced stays
synced_stays : (page : ℕ) (s : PageState) (e : Event) → is_sync e ≡ false → (page_state_after page s e).synced ≡ s.synced
synced_stays page s (Wrote at bytes) none = wrote (at == page)
  where
    wrote : (b : Bool) → (cond b (record { last = Some bytes; synced = s.synced; written = Some bytes; is_unsynced = true }) s).synced ≡ s.synced
    wrote true = refl
    wrote false = refl
synced_stays page s (Tore at) none = tore (at == page)
  where
    tore : (b : Bool) → (cond b (record { last = None; synced = s.synced; written = s.written; is_unsynced = true }) s).synced ≡ s.synced
    tore true = refl
    tore false = refl
synced_stays page s Synced none = absurd (false≢true (sym none))
synced_stays page s (Took bytes) none = refl
synced_stays page s (Put bytes) none = refl

written_goes : (page : ℕ) (s : PageState) (e : Event) → is_sync e ≡ false → (page_state_after page s e).written ≡ written_after page s.written e
written_goes page s (Wrote at bytes) none = wrote (at == page)
  where
    wrote : (b : Bool) → (cond b (record { last = Some bytes; synced = s.synced; written = Some bytes; is_unsynced = true }) s).written
        ≡ cond b (Some bytes) s.written
    wrote true = refl
    wrote false = refl
written_goes page s (Tore at) none = tore (at == page)
  where
    tore : (b : Bool) → (cond b (record { last = None; synced = s.synced; written = s.written; is_unsynced = true }) s).written ≡ s.written
    tore true = refl
    tore false = refl
written_goes page s Synced none = absurd (false≢true (sym none))
written_goes page s (Took bytes) none = refl
written_goes page s (Put bytes) none = refl

at_sync_event : (e : Event) → is_sync e ≡ true → e ≡ Synced
at_sync_event (Took bytes) is = absurd (false≢true is)
at_sync_event (Put bytes) is = absurd (false≢true is)
at_sync_event (Wrote page bytes) is = absurd (false≢true is)
at_sync_event (Tore page) is = absurd (false≢true is)
at_sync_event Synced is = refl

-- what was synced is the last at the last sync
synced_step : (page : ℕ) (s : PageState) (e : Event) (front : Log) (more here : Bool) → is_sync e ≡ here
    → cond more (fold (page_state_after page) (page_state_after page s e) front).last (page_state_after page s e).synced
    ≡ cond (here || more) (fold (page_state_after page) s (cond more (e ∷ front) (cond here (e ∷ []) []))).last s.synced
synced_step page s e front true true is = refl
synced_step page s e front true false is = refl
synced_step page s e front false true is =
    ap (λ (x : Event). (page_state_after page s x).synced) (at_sync_event e is) ∙ sym (ap (λ (x : Event). (page_state_after page s x).last) (at_sync_event e is))
synced_step page s e front false false is = synced_stays page s e is

synced_along : (page : ℕ) (log : Log) (s : PageState)
    → (fold (page_state_after page) s log).synced ≡ cond (list_any is_sync log) (fold (page_state_after page) s (until_sync log)).last s.synced
synced_along page [] s = refl
synced_along page (e ∷ log) s = synced_along page log (page_state_after page s e) ∙ synced_step page s e (until_sync log) (list_any is_sync log) (is_sync e) refl

-- what was written is the last write since
written_step : (page : ℕ) (s : PageState) (e : Event) (log back : Log) (more here : Bool) → is_sync e ≡ here
    → cond more (last_written page back) (fold (written_after page) (page_state_after page s e).written log)
    ≡ cond (here || more) (last_written page (cond more back (cond here log (e ∷ log)))) (fold (written_after page) (written_after page s.written e) log)
written_step page s e log back true true is = refl
written_step page s e log back true false is = refl
written_step page s e log back false true is = ap (λ (x : Event). fold (written_after page) (page_state_after page s x).written log) (at_sync_event e is)
written_step page s e log back false false is = ap (λ (o : Option (List ℕ)). fold (written_after page) o log) (written_goes page s e is)

written_along : (page : ℕ) (log : Log) (s : PageState)
    → (fold (page_state_after page) s log).written ≡ cond (list_any is_sync log) (last_written page (since_sync log)) (fold (written_after page) s.written log)
written_along page [] s = refl
written_along page (e ∷ log) s =
    written_along page log (page_state_after page s e) ∙ written_step page s e log (since_sync log) (list_any is_sync log) (is_sync e) refl

module _ (start : Pages) (log : Log) (i : ℕ) where
  synced_is : (state_of i (get_or start i []) log).synced ≡ last_bytes start (until_sync log) i
  unfolding state_of last_bytes
  synced_is =
      let first = first_page_state (get_or start i []) in
      synced_along i log first
      ∙ elim (cases_Bool (list_any is_sync log)) [
        | inl some ↦ ap (λ b. cond b (fold (page_state_after i) first (until_sync log)).last first.synced) some
            ∙ last_from i (get_or start i []) (until_sync log) first Untouched refl
        | inr none ↦ ap (λ b. cond b (fold (page_state_after i) first (until_sync log)).last first.synced) none
            ∙ sym (ap (λ (l : Log). bytes_by (mark_from i Untouched l) (get_or start i [])) (no_until log none))
      ]

  written_is : (state_of i (get_or start i []) log).written ≡ last_written i (since_sync log)
  unfolding state_of
  written_is =
      let first = first_page_state (get_or start i []) in
      written_along i log first
      ∙ elim (cases_Bool (list_any is_sync log)) [
        | inl some ↦ ap (λ b. cond b (last_written i (since_sync log)) (fold (written_after i) None log)) some
        | inr none ↦ ap (λ b. cond b (last_written i (since_sync log)) (fold (written_after i) None log)) none ∙ sym (ap (last_written i) (no_since log none))
      ]

  -- what a page's state leaves is what its events say
  pub left_same : (choice : ℕ) → left_of (state_of i (get_or start i []) log) choice ≡ left_by start log i choice
  left_same choice =
      let s = state_of i (get_or start i []) log in
      ap (λ o. unwrap_or o (chosen_of s choice)) (kept-state_of start log i)
      ∙ ap (λ b. unwrap_or (fixed_bytes start log i) (chosen_from b s.written choice)) synced_is
      ∙ ap (λ w. unwrap_or (fixed_bytes start log i) (chosen_from (last_bytes start (until_sync log) i) w choice)) written_is
    where
      chosen_from : Option (List ℕ) → Option (List ℕ) → ℕ → List ℕ
      chosen_from synced written choice =
          cond (choice == 0) (unwrap_or synced (page_filled 0)) (cond (choice == 1) (unwrap_or written (unwrap_or synced (page_filled 0))) (page_filled choice))

pub left_can : (start : Pages) (log : Log) (choice : List ℕ) (image : Pages) → IsLeftBy start log choice image → CanLeave start log image
left_can start log choice image by = left_from_pages start log image by.size (λ i b within is.
    by.each i within ∙ ap (λ o. unwrap_or o (chosen start log i (slice_index choice i))) is)

-- ---- pages one after another

-- the first pages of the image are as they are left
pub record LeftBelow (start : Pages) (log : Log) (choice : List ℕ) (image : Pages) (n : ℕ) : Type 0 where
  pub size : length image ≡ length start
  pub each : (i : ℕ) → i < n → get_or image i [] ≡ left_of (state_of i (get_or start i []) log) (slice_index choice i)

pub left_none : (start : Pages) (log : Log) (choice : List ℕ) (image : Pages) → image ≡ start → LeftBelow start log choice image 0
left_none start log choice image same = record { size = ap length same; each = λ i none. absurd (omega arith) }

pub left_more : (start : Pages) (log : Log) (choice : List ℕ) (image : Pages) (n : ℕ) (bytes : List ℕ) → LeftBelow start log choice image n
    → n < length start → bytes ≡ left_of (state_of n (get_or start n []) log) (slice_index choice n) → LeftBelow start log choice (set image n bytes) (n + 1)
left_more start log choice image n bytes below within is = record {
  size = length-set image n bytes ∙ below.size;
  each = λ i lt. elim (cases_lt i n) [
    | inl before ↦ get_or-set_other image n i bytes [] (omega arith) ∙ below.each i before
    | inr here ↦
        let same : n ≡ i = omega arith in
        subst (λ k. get_or (set image n bytes) k [] ≡ left_of (state_of k (get_or start k []) log) (slice_index choice k)) same
        (get_or-set_same image n bytes [] (omega (arith, below.size)) ∙ is)
  ];
}

pub left_all : (start : Pages) (log : Log) (choice : List ℕ) (image : Pages) (n : ℕ) → LeftBelow start log choice image n → length start ≤ n
    → IsLeftBy start log choice image
left_all start log choice image n below all =
    record { size = below.size; each = λ i within. below.each i (omega arith) ∙ left_same start log i (slice_index choice i) }

pub whole-take : (n : ℕ) (log : Log) → list_all is_whole_page log ≡ true → list_all is_whole_page (take n log) ≡ true
whole-take n log all =
    (and_parts (list_all is_whole_page (take n log)) (list_all is_whole_page (drop n log))
    (sym (list_all-append is_whole_page (take n log) (drop n log)) ∙ ap (λ (l : Log). list_all is_whole_page l) (take-append-drop n log) ∙ all)).0
