-- What each publish of a run writes.
use Rattle.std.proofs.Common.{◌≡◌, ℕ, ◌+◌, ◌*◌, ◌<◌, ◌≤◌, min, Bool, true, false, ◌||◌, cond, List, [], ◌∷◌, ◌++◌, length, length-append, take, is_some}
use Rattle.std.proofs.Common.{unwrap_or, Result, Ok, Err, refl, sym, ◌∙◌, ap, subst, arith, append_assoc, append-nil}
use Rattle.std.specs.List.{All, list_any}
use Rattle.std.proofs.lemmas.List.{take_at}
use Rattle.std.proofs.lemmas.List.Elements.{All-cons}
use Rattle.quilt_types.specs.Facts.{changes}
use Rattle.quilt_types.specs.declared.code.Code.{Code}
use Rattle.quilt_world.specs.Added.{AddsOnly}
use Rattle.quilt_world.specs.Disk.{Log}
use Rattle.quilt_world.specs.Tale.{Tale, put_bytes}
use Rattle.quilt_journal.specs.Writing.{wrote_count}
use Rattle.quilt_words.specs.declared.command.Command.{Command}
use Rattle.quilt_words.specs.declared.command.Command.TheVariants as commands
use Rattle.quilt_words.specs.declared.item.Item.{Item}
use Rattle.quilt_words.specs.Items.{Group}
use Rattle.quilt_words.specs.Forms.{form}
use Rattle.quilt_replies.specs.Answers.{State, Reply, answer}
use Rattle.quilt_replies.specs.Runs.{Run, Published, replies_of, publishes_of, outcome_of, output, text_of, is_revert}
use Rattle.quilt_map.specs.Sessions.{last_count}
use Rattle.quilt_map.specs.Steps.{changes_after, goes_back as reverts}
use Rattle.quilt_top.specs.Answering.{Answers, Steps, PartStep, changes_by, changes_then, changes_all}
use Rattle.quilt_top.specs.Headline.{WritesFew}
use Rattle.quilt_top.specs.Replies.{held_at, outcome, reply_to, state_then, state_after, replies_from}
use Rattle.quilt_top.specs.Saying.{is_took}
use Rattle.quilt_top.proofs.logs.Events.{put_bytes-append, pages_unput}
use Rattle.quilt_top.proofs.turns.Fine.{steps_grow, part_grows, grows_then}
use Rattle.quilt_top.proofs.logs.Prefixes.{took_text_only, took_unput, same_events}
use Rattle.quilt_top.proofs.turns.Places.{text_some}
use Rattle.quilt_top.proofs.logs.Said.{output-append}
use Rattle.quilt_top.proofs.logs.Written.{written, written_in, counted_in, written-append, wrote_most, text_none, apart_none, past_none}

-- ---- how many records were changed

same_revert : (c : Command) → reverts c ≡ is_revert (Ok c)
same_revert commands.Revert = refl
same_revert c = refl

fewer : (b : Bool) (c k x : ℕ) → c ≤ x → cond {A = ℕ} b 0 (min (c + k) last_count) ≤ cond {A = ℕ} b 0 (x + k)
fewer true c k x le = omega arith
fewer false c k x le = omega arith

-- the count that a session keeps is at most that of the definition
abbrev exactly : State → Result Command Code → ℕ → ℕ
exactly s r x = cond {A = ℕ} (is_some (outcome_of s r).published || is_revert r) 0 (x + changes s.last.level s.work (outcome_of s r).work)

changes_less : (s : State) (r : Result Command Code) (c x : ℕ) → c ≤ x → changes_by s r c ≤ exactly s r x
changes_less s (Ok command) c x le =
    subst (λ b. changes_after s command c ≤ cond {A = ℕ} (is_some (answer s command).published || b) 0
    (x + changes s.last.level s.work (answer s command).work)) (same_revert command)
    (fewer (is_some (answer s command).published || reverts command) c (changes s.last.level s.work (answer s command).work) x le)
changes_less s (Err code) c x le = omega arith

less_then : (s : State) (item : Item) (c x : ℕ) → c ≤ x → changes_then s item c ≤ exactly s (form s.last.format item) x
unfolding changes_then
less_then s item c x le = changes_less s (form s.last.format item) c x le

-- ---- one publish

few_at : (r : Run) (log : Log) (p : Published) (put : List ℕ) → output (take p.before (replies_of r)) ≡ put
    → written_in put log ≤ 18 * p.changed + 8 → WritesFew r log p
few_at r log p put is few = omega (arith, ap (λ (l : List ℕ). written_in l log) is, counted_in (output (take p.before (replies_of r))) log)

before_is : (r : Run) (front rest : List Reply) → replies_of r ≡ front ++ rest → output (take (length front) (replies_of r)) ≡ output front
before_is r front rest is = ap (λ (l : List Reply). output (take (length front) l)) is ∙ ap output (take_at front rest (length front) refl)

all_if : (P : Published → Type 0) (b : Bool) (p : Published) (ps : List Published) → (b ≡ true → P p) → All P ps → All P (cond b (p ∷ ps) ps)
all_if P true p ps here later = All-cons P p ps (here refl) later
all_if P false p ps here later = later

-- one reply more
one_more : (front : List Reply) (r : Reply) → length front + 1 ≡ length (front ++ r ∷ [])
one_more front r = sym (length-append front (r ∷ []))

said_more : (front : List Reply) (r : Reply) → output (front ++ r ∷ []) ≡ output front ++ text_of r
said_more front r = output-append front (r ∷ []) ∙ ap (λ (l : List ℕ). output front ++ l) (append-nil (text_of r))

longer : (front : List Reply) (r : Reply) → length (output (front ++ r ∷ [])) ≡ length (output front) + length (text_of r)
longer front r = ap length (said_more front r) ∙ length-append (output front) (text_of r)

replies_on : (r : Run) (front : List Reply) (reply : Reply) (rest : List Reply) → replies_of r ≡ front ++ reply ∷ rest
    → replies_of r ≡ (front ++ reply ∷ []) ++ rest
replies_on r front reply rest is = is ∙ sym (append_assoc front (reply ∷ []) rest)

-- the publishes of a run from one item on
abbrev those : State → ℕ → ℕ → List Group → List Published
those s before x items = publishes_of s.quota s.last s.work (record { before = before; changed = x }) items

module _ (r : Run) (log : Log) where
  next_few : (s : State) (g : Group) (gs : List Group) (x : ℕ) (front : List Reply)
      → (is_some (outcome s (held_at s g)).published ≡ true → WritesFew r log (record { before = length front; changed = x }))
      → All (WritesFew r log)
      (those (state_then s (held_at s g)) (length (front ++ reply_to s (held_at s g) ∷ [])) (exactly s (form s.last.format (held_at s g)) x) gs)
      → All (WritesFew r log) (those s (length front) x (g ∷ gs))
  unfolding state_then reply_to
  next_few s g gs x front here later =
      let out = outcome s (held_at s g) in
      all_if (WritesFew r log) (is_some out.published) (record { before = length front; changed = x })
      (publishes_of s.quota (unwrap_or out.published s.last) out.work
      (record { before = length front + 1; changed = exactly s (form s.last.format (held_at s g)) x }) gs)
      here
      (subst (λ (n : ℕ). All (WritesFew r log)
      (publishes_of s.quota (unwrap_or out.published s.last) out.work (record { before = n; changed = exactly s (form s.last.format (held_at s g)) x }) gs))
      (sym (one_more front out.reply)) later)

  -- where nothing was written behind so many bytes
  none_later : (items : List Group) (s : State) (x : ℕ) (front : List Reply) → replies_of r ≡ front ++ replies_from s items
      → ((put : List ℕ) → length (output front) ≤ length put → written_in put log ≡ 0)
      → All (WritesFew r log) (those s (length front) x items)
  none_later [] s x front is none = λ k d lt. absurd (omega arith)
  none_later (g ∷ gs) s x front is none =
      let item = held_at s g in
      let reply = reply_to s item in
      let rest = replies_from (state_then s item) gs in
      next_few s g gs x front
      (λ given. few_at r log (record { before = length front; changed = x }) (output front) (before_is r front (reply ∷ rest) is)
      (let e = none (output front) (omega arith) in omega arith))
      (none_later gs (state_then s item) (exactly s (form s.last.format item) x) (front ++ reply ∷ []) (replies_on r front reply rest is)
      (λ put long. none put (omega (arith, longer front reply))))

-- ---- what was written so far

-- nothing was written where what is put now was put, or more
pub record IsFresh (t : Tale) : Type 0 where
  pub none : (put : List ℕ) → length (put_bytes t.log) ≤ length put → written_in put t.log ≡ 0

split_log : (put : List ℕ) (t u : Tale) (events : Log) → u.log ≡ t.log ++ events
    → written_in put u.log ≡ written_in put t.log + written put (list_any is_took t.log) (put_bytes t.log) events
split_log put t u events log = ap (λ (l : Log). written_in put l) log ∙ written-append put t.log events false []

took_fresh : (t u : Tale) → AddsOnly is_took t u → IsFresh t → IsFresh u × (put_bytes u.log ≡ put_bytes t.log)
took_fresh t u takes fresh =
    let same : put_bytes u.log ≡ put_bytes t.log =
    ap put_bytes takes.log ∙ put_bytes-append t.log takes.events ∙ ap (λ (l : List ℕ). put_bytes t.log ++ l) (took_unput takes.events takes.only)
    ∙ append-nil (put_bytes t.log) in (
      record {
        none = λ put long.
            let old = fresh.none put (omega (arith, ap length same)) in
            let new = text_none put takes.events (list_any is_took t.log) (put_bytes t.log) (took_text_only takes.events takes.only) in
            omega (arith, split_log put t u takes.events takes.log);
      },
      same,
    )

module _ (s : State) (g : Group) (c : ℕ) (said : List ℕ) (t v : Tale) (a : Answers s (held_at s g) c said t v) (fresh : IsFresh t) where
  middle_put : put_bytes a.middle.log ≡ put_bytes t.log
  middle_put =
      ap put_bytes a.applies.pages.log ∙ put_bytes-append t.log a.applies.pages.events
      ∙ ap (λ (l : List ℕ). put_bytes t.log ++ l) (pages_unput a.applies.pages.events a.applies.pages.only) ∙ append-nil (put_bytes t.log)

  pub answer_put : put_bytes v.log ≡ put_bytes t.log ++ said
  answer_put = ap put_bytes a.says.log ∙ put_bytes-append a.middle.log a.says.events ∙ ap (λ (l : List ℕ). l ++ put_bytes a.says.events) middle_put
      ∙ ap (λ (l : List ℕ). put_bytes t.log ++ l) a.says.put

  both_logs : (put : List ℕ) → written_in put v.log ≡ written_in put t.log + written put (list_any is_took t.log) (put_bytes t.log) a.applies.pages.events
  both_logs put =
      let first = split_log put t a.middle a.applies.pages.events a.applies.pages.log in
      let second = split_log put a.middle v a.text.events a.text.log in
      let none = text_none put a.text.events (list_any is_took a.middle.log) (put_bytes a.middle.log) a.text.only in
      omega arith

  -- where the item gives an edition
  writes_here : is_some (outcome s (held_at s g)).published ≡ true → written_in (put_bytes t.log) v.log ≤ 18 * c + 8
  writes_here given =
      let few = a.applies.few given in
      let none = fresh.none (put_bytes t.log) (omega arith) in
      let same : wrote_count few.added ≡ wrote_count a.applies.pages.events =
      ap wrote_count (same_events t a.middle few.added a.applies.pages.events few.log a.applies.pages.log) in
      let most = wrote_most (put_bytes t.log) a.applies.pages.events (list_any is_took t.log) (put_bytes t.log) a.applies.pages.only in
      omega (arith, both_logs (put_bytes t.log), few.few)

  -- where more was put than stood there
  writes_past : (put : List ℕ) → length (put_bytes t.log) < length put → written_in put v.log ≡ 0
  writes_past put more =
      let none = fresh.none put (omega arith) in
      let apart = apart_none put a.applies.pages.events (list_any is_took t.log) (put_bytes t.log) a.applies.pages.only
      (λ same. let n = ap length same in omega arith) in
      omega (arith, both_logs put)

  answer_fresh : 1 ≤ length said → IsFresh v
  answer_fresh some = record { none = λ put long. writes_past put (omega (arith, ap length answer_put, length-append (put_bytes t.log) said)) }

-- what follows writes nothing where less was put
less_later : (put : List ℕ) (t u : Tale) (events : Log) → u.log ≡ t.log ++ events → length put < length (put_bytes t.log)
    → written_in put u.log ≡ written_in put t.log
less_later put t u events log less =
    let none = past_none put events (list_any is_took t.log) (put_bytes t.log) less in
    omega (arith, split_log put t u events log)

-- ---- items, and a part of the next

part_writes : (next h : List Group) (s : State) (c x : ℕ) (t v : Tale) (r : Run) (front : List Reply) → PartStep s c next t v → IsFresh t → c ≤ x
    → put_bytes t.log ≡ output front → replies_of r ≡ front ++ replies_from s (next ++ h)
    → All (WritesFew r v.log) (those s (length front) x (next ++ h))
part_writes [] h s c x t v r front part fresh le put is =
    none_later r v.log h s x front is (λ some long. ap (λ (l : Log). written_in some l) (part.log ∙ append-nil t.log)
    ∙ fresh.none some (omega (arith, ap length put)))
part_writes (g ∷ gs) h s c x t v r front part fresh le put is =
    let item = held_at s g in
    let reply = reply_to s item in
    let rest = replies_from (state_then s item) (gs ++ h) in
    next_few r v.log s g (gs ++ h) x front
    (λ given. few_at r v.log (record { before = length front; changed = x }) (put_bytes t.log) (before_is r front (reply ∷ rest) is ∙ sym put)
    (let e = writes_here s g c part.said t v part.answers fresh given in omega arith))
    (none_later r v.log (gs ++ h) (state_then s item) (exactly s (form s.last.format item) x) (front ++ reply ∷ []) (replies_on r front reply rest is)
    (λ some long. writes_past s g c part.said t v part.answers fresh some (omega (arith, longer front reply, text_some reply, ap length put))))

pub steps_writes : (gs next h : List Group) (s : State) (c x : ℕ) (t u v : Tale) (r : Run) (front : List Reply) → Steps s c gs t u
    → PartStep (state_after s gs) (changes_all s c gs) next u v → IsFresh t → c ≤ x
    → put_bytes t.log ≡ output front → replies_of r ≡ front ++ replies_from s (gs ++ (next ++ h))
    → All (WritesFew r v.log) (those s (length front) x (gs ++ (next ++ h)))
steps_writes [] next h s c x t u v r front steps part fresh le put is =
    let now = took_fresh t u steps fresh in part_writes next h s c x u v r front part now.0 le (now.1 ∙ put) is
steps_writes (g ∷ gs) next h s c x t u v r front steps part fresh le put is =
    let item = held_at s g in
    let reply = reply_to s item in
    let all = gs ++ (next ++ h) in
    let rest = replies_from (state_then s item) all in
    let step = steps.1 in
    let first = step.first in
    let mid = steps.0 in
    let now = took_fresh t first step.takes fresh in
    let some = text_some reply in
    let said = answer_put s g c (text_of reply) first mid step.answers now.0 in
    let more = grows_then mid u v (steps_grow gs (state_then s item) (changes_then s item c) mid u steps.2)
    (part_grows next (state_after s (g ∷ gs)) (changes_all s c (g ∷ gs)) u v part) in
    let put_mid : put_bytes mid.log ≡ output (front ++ reply ∷ []) =
    said ∙ ap (λ (l : List ℕ). l ++ text_of reply) (now.1 ∙ put) ∙ sym (said_more front reply) in
    next_few r v.log s g all x front
    (λ given. few_at r v.log (record { before = length front; changed = x }) (put_bytes first.log) (before_is r front (reply ∷ rest) is ∙ sym (now.1 ∙ put))
    (let e = writes_here s g c (text_of reply) first mid step.answers now.0 given in
    let same = less_later (put_bytes first.log) mid v more.events more.log
    (omega (arith, some, ap length said, length-append (put_bytes first.log) (text_of reply))) in omega arith))
    (steps_writes gs next h (state_then s item) (changes_then s item c) (exactly s (form s.last.format item) x) mid u v r (front ++ reply ∷ []) steps.2 part
    (answer_fresh s g c (text_of reply) first mid step.answers now.0 some) (less_then s item c x le) put_mid (replies_on r front reply rest is))
