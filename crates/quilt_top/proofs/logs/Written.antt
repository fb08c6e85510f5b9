-- How many pages a log writes where just these bytes were put.
use Rattle.std.proofs.Common.{◌≡◌, ◌≢◌, ℕ, ◌+◌, ◌<◌, ◌≤◌, Bool, true, false, ◌&&◌, ◌||◌, cond, List, [], ◌∷◌, ◌++◌, length, length-append, take, Some, refl}
use Rattle.std.proofs.Common.{sym, ◌∙◌, ap, arith, append_assoc, append-nil}
use Rattle.std.specs.Prelude.{slice_get}
use Rattle.std.specs.List.{list_any, count_by, range_with_len}
use Rattle.std.specs.Str.{bytes_eq}
use Rattle.std.proofs.lemmas.List.Folds.{list_any-append}
use Rattle.std.proofs.lemmas.List.Sums.{sum_by-cons}
use Rattle.std.proofs.lemmas.Slice.Eq.{bytes_eq-Decides}
use Rattle.std.proofs.Math.Seq.{take-append_seam}
use Rattle.quilt_world.specs.Added.{Only, is_of_pages, is_of_text}
use Rattle.quilt_world.specs.Disk.{Log}
use Rattle.quilt_world.specs.Tale.{put_by, put_bytes}
use Rattle.quilt_world.specs.declared.event.Event.{Event}
use Rattle.quilt_world.specs.declared.event.Event.TheVariants.{Took, Put, Wrote, Tore, Synced}
use Rattle.quilt_journal.specs.Writing.{wrote_count}
use Rattle.quilt_top.specs.Headline.{is_wrote, is_written_at}
use Rattle.quilt_top.specs.Saying.{is_took}
use Rattle.quilt_top.proofs.logs.Events.{put_bytes-append}

-- these events, where input was taken before them or not and these bytes were put
abbrev pub written : List ℕ → Bool → List ℕ → Log → ℕ
written put took before [] = 0
written put took before (e ∷ es) = cond (is_wrote (Some e) && took && bytes_eq before put) 1 0 + written put (took || is_took e) (before ++ put_by e) es

-- ---- the count

at_seam : (pre : Log) (e : Event) (log : Log) → slice_get (pre ++ e ∷ log) (length pre) ≡ Some e
at_seam [] e log = refl
at_seam (x ∷ pre) e log = at_seam pre e log

or_false : (b : Bool) → (b || false) ≡ b
or_false true = refl
or_false false = refl

took_more : (pre : Log) (e : Event) → list_any is_took (pre ++ e ∷ []) ≡ (list_any is_took pre || is_took e)
took_more pre e = list_any-append is_took pre (e ∷ []) ∙ ap (λ b. list_any is_took pre || b) (or_false (is_took e))

put_more : (pre : Log) (e : Event) → put_bytes (pre ++ e ∷ []) ≡ put_bytes pre ++ put_by e
put_more pre e = put_bytes-append pre (e ∷ []) ∙ ap (λ (l : List ℕ). put_bytes pre ++ l) (append-nil (put_by e))

count_is : (put : List ℕ) (log pre : Log)
    → count_by (is_written_at put (pre ++ log)) (range_with_len (length pre) (length log)) ≡ written put (list_any is_took pre) (put_bytes pre) log
count_is put [] pre = refl
count_is put (e ∷ log) pre =
    let whole = pre ++ e ∷ log in
    let more = pre ++ e ∷ [] in
    let here : is_written_at put whole (length pre) ≡ (is_wrote (Some e) && list_any is_took pre && bytes_eq (put_bytes pre) put) =
    ap (λ o. is_wrote o && list_any is_took (take (length pre) whole) && bytes_eq (put_bytes (take (length pre) whole)) put) (at_seam pre e log)
    ∙ ap (λ (l : Log). is_wrote (Some e) && list_any is_took l && bytes_eq (put_bytes l) put) (take-append_seam pre (e ∷ log)) in
    let size : length pre + 1 ≡ length more = sym (length-append pre (e ∷ [])) in
    let later : count_by (is_written_at put whole) (range_with_len (length pre + 1) (length log)) ≡ written put (list_any is_took pre || is_took e)
    (put_bytes pre ++ put_by e) log =
    ap (λ n. count_by (is_written_at put whole) (range_with_len n (length log))) size
    ∙ ap (λ (l : Log). count_by (is_written_at put l) (range_with_len (length more) (length log))) (sym (append_assoc pre (e ∷ []) log))
    ∙ count_is put log more
    ∙ ap (λ b. written put b (put_bytes more) log) (took_more pre e)
    ∙ ap (λ (l : List ℕ). written put (list_any is_took pre || is_took e) l log) (put_more pre e) in
    sum_by-cons (λ i. cond (is_written_at put whole i) 1 0) (length pre) (range_with_len (length pre + 1) (length log))
    ∙ ap (λ n. cond (is_written_at put whole (length pre)) 1 0 + n) later
    ∙ ap (λ b. cond b 1 0 + written put (list_any is_took pre || is_took e) (put_bytes pre ++ put_by e) log) here

-- of a whole log
abbrev pub written_in : List ℕ → Log → ℕ
written_in put log = written put false [] log

pub counted_in : (put : List ℕ) (log : Log) → count_by (is_written_at put log) (range_with_len 0 (length log)) ≡ written_in put log
counted_in put log = count_is put log []

-- ---- logs one behind another

or_assoc : (a b c : Bool) → ((a || b) || c) ≡ (a || (b || c))
or_assoc true b c = refl
or_assoc false b c = refl

pub written-append : (put : List ℕ) (a b : Log) (took : Bool) (before : List ℕ)
    → written put took before (a ++ b) ≡ written put took before a + written put (took || list_any is_took a) (before ++ put_bytes a) b
written-append put [] b took before =
    ap (λ t. written put t before b) (sym (or_false took)) ∙ ap (λ (l : List ℕ). written put (took || false) l b) (sym (append-nil before)) ∙ zero_before _
  where
    zero_before : (n : ℕ) → n ≡ 0 + n
    zero_before n = omega arith
written-append put (e ∷ a) b took before =
    let here : ℕ = cond {A = ℕ} (is_wrote (Some e) && took && bytes_eq before put) 1 0 in
    let first = written put (took || is_took e) (before ++ put_by e) a in
    let same : written put ((took || is_took e) || list_any is_took a) ((before ++ put_by e) ++ put_bytes a) b
    ≡ written put (took || (is_took e || list_any is_took a)) (before ++ (put_by e ++ put_bytes a)) b =
    ap (λ t. written put t ((before ++ put_by e) ++ put_bytes a) b) (or_assoc took (is_took e) (list_any is_took a))
    ∙ ap (λ (l : List ℕ). written put (took || (is_took e || list_any is_took a)) l b) (append_assoc before (put_by e) (put_bytes a)) in
    let more = written-append put a b (took || is_took e) (before ++ put_by e) in
    omega (arith, more, same)

-- ---- which events write

at_most_one : (b : Bool) → cond b 1 0 ≤ 1
at_most_one true = omega arith
at_most_one false = omega arith

pub wrote_most : (put : List ℕ) (log : Log) (took : Bool) (before : List ℕ) → Only is_of_pages log → written put took before log ≤ wrote_count log
wrote_most put [] took before only = omega arith
wrote_most put (Took bytes ∷ log) took before only = absurd (cc)
wrote_most put (Put bytes ∷ log) took before only = absurd (cc)
wrote_most put (Wrote page bytes ∷ log) took before only =
    omega (arith, at_most_one (is_wrote (Some (Wrote page bytes)) && took && bytes_eq before put), wrote_most put log (took || false) (before ++ []) only)
wrote_most put (Tore page ∷ log) took before only = omega (arith, wrote_most put log (took || false) (before ++ []) only)
wrote_most put (Synced ∷ log) took before only = omega (arith, wrote_most put log (took || false) (before ++ []) only)

pub text_none : (put : List ℕ) (log : Log) (took : Bool) (before : List ℕ) → Only is_of_text log → written put took before log ≡ 0
text_none put [] took before only = refl
text_none put (Took bytes ∷ log) took before only = omega (arith, text_none put log (took || true) (before ++ []) only)
text_none put (Put bytes ∷ log) took before only = omega (arith, text_none put log (took || false) (before ++ bytes) only)
text_none put (Wrote page bytes ∷ log) took before only = absurd (cc)
text_none put (Tore page ∷ log) took before only = absurd (cc)
text_none put (Synced ∷ log) took before only = absurd (cc)

not_same : (a b : List ℕ) → a ≢ b → bytes_eq a b ≡ false
not_same a b ne = by_test (bytes_eq a b) (bytes_eq-Decides a b).0
  where
    by_test : (t : Bool) → (t ≡ true → a ≡ b) → t ≡ false
    by_test true so = absurd (ne (so refl))
    by_test false so = refl

and_false : (a b : Bool) → (a && b && false) ≡ false
and_false true true = refl
and_false true false = refl
and_false false b = refl

unwritten : (e : Event) (took : Bool) (before put : List ℕ) → before ≢ put → ◌≡◌ {A = ℕ} (cond {A = ℕ} (is_wrote (Some e) && took && bytes_eq before put) 1 0) 0
unwritten e took before put ne =
    ap (λ b. cond {A = ℕ} (is_wrote (Some e) && took && b) 1 0) (not_same before put ne) ∙ ap (λ b. cond {A = ℕ} b 1 0) (and_false (is_wrote (Some e)) took)

-- other bytes were put before pages are written
pub apart_none : (put : List ℕ) (log : Log) (took : Bool) (before : List ℕ) → Only is_of_pages log → before ≢ put → written put took before log ≡ 0
apart_none put [] took before only ne = refl
apart_none put (Took bytes ∷ log) took before only ne = absurd (cc)
apart_none put (Put bytes ∷ log) took before only ne = absurd (cc)
apart_none put (Wrote page bytes ∷ log) took before only ne =
    omega (
      arith,
      unwritten (Wrote page bytes) took before put ne,
      apart_none put log (took || false) (before ++ []) only
          (λ e. ne (sym (append-nil before) ∙ e)),
    )
apart_none put (Tore page ∷ log) took before only ne =
    omega (arith, apart_none put log (took || false) (before ++ []) only (λ e. ne (sym (append-nil before) ∙ e)))
apart_none put (Synced ∷ log) took before only ne =
    omega (arith, apart_none put log (took || false) (before ++ []) only (λ e. ne (sym (append-nil before) ∙ e)))

-- more bytes were put
pub past_none : (put : List ℕ) (log : Log) (took : Bool) (before : List ℕ) → length put < length before → written put took before log ≡ 0
past_none put [] took before more = refl
past_none put (e ∷ log) took before more =
    omega (
      arith,
      unwritten e took before put (λ same. let n = ap length same in omega arith),
      past_none put log (took || is_took e) (before ++ put_by e) (omega (arith, length-append before (put_by e))),
    )
