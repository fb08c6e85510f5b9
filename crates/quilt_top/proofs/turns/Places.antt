-- The place of an edition in a run, by what was put.
use Rattle.std.proofs.Common.{◌≡◌, ℕ, suc, ◌+◌, ◌≤◌, Bool, true, false, ◌&&◌, cond, List, [], ◌∷◌, ◌++◌, length, length-append, drop, Option, Some, None}
use Rattle.std.proofs.Common.{is_some, unwrap_or, codes, take, refl, sym, ◌∙◌, ap, subst, arith}
use Rattle.std.specs.Prelude.{slice_get, flat_map}
use Rattle.std.proofs.lemmas.Bool.{eq-eqb}
use Rattle.std.proofs.lemmas.List.{drop_at, take_at}
use Rattle.quilt_types.specs.Layers.{Map, Edition}
use Rattle.quilt_world.specs.Disk.{Pages, Log}
use Rattle.quilt_world.specs.Tale.{put_bytes}
use Rattle.quilt_edition.specs.Stands.{Stands}
use Rattle.quilt_words.specs.Items.{Group}
use Rattle.quilt_replies.specs.Answers.{State, Reply, Done, Refused}
use Rattle.quilt_replies.specs.Runs.{run_of, text_of, code_text, prefix_of, told_within, with_first, form_in, outcome_of, replies_of, output}
use Rattle.quilt_top.specs.Replies.{held_at, outcome, reply_to, state_then, state_after, replies_from, said_for}
use Rattle.quilt_top.specs.Stronger.{answered_within, gives, gives_next, PutsWhole}
use Rattle.quilt_top.specs.TextRun.{run_in, IsFine}
use Rattle.quilt_top.proofs.logs.Said.{said_none, said_one, said-append, replies-append, length-replies, run_replies}

-- ---- the text of a reply

some_behind : (a : List ℕ) → 1 ≤ length (a ++ 10 ∷ [])
some_behind a = omega (arith, length-append a (10 ∷ []))

pub text_some : (r : Reply) → 1 ≤ length (text_of r)
text_some (Done body) = some_behind (flat_map (λ (l : List ℕ). l ++ 10 ∷ []) body ++ codes "ok")
text_some (Refused code) = some_behind (codes "no " ++ code_text code)

pub none_or_some : (text : List ℕ) → 1 ≤ length text → (text ≡ [] → ⊥)
none_or_some text some is = let e = ap length is in omega arith

prefix_none : (text : List ℕ) → 1 ≤ length text → prefix_of text [] ≡ false
prefix_none [] some = absurd (omega arith)
prefix_none (c ∷ cs) some = refl

prefix_whole : (a b : List ℕ) → prefix_of a (a ++ b) ≡ true
prefix_whole [] b = refl
prefix_whole (x ∷ a) b = ap (λ (t : Bool). t && prefix_of a (a ++ b)) (eq-eqb x x refl) ∙ prefix_whole a b

prefix_short : (p : List ℕ) (c : ℕ) (cs : List ℕ) → prefix_of (p ++ c ∷ cs) p ≡ false
prefix_short [] c cs = refl
prefix_short (x ∷ p) c cs = ap (λ (t : Bool). t && prefix_of (p ++ c ∷ cs) p) (eq-eqb x x refl) ∙ prefix_short p c cs

-- ---- how many editions are told

bumped : (b : Bool) (n : ℕ) → cond b (n + 1) n ≡ n + cond b (0 + 1) 0
bumped true n = omega arith
bumped false n = omega arith

told_from : (steps : List (Reply × Bool)) (put : List ℕ) (n : ℕ) → told_within steps put n ≡ n + told_within steps put 0
told_from [] put n = omega arith
told_from (r ∷ rs) put n = either (prefix_of (text_of r.0) put) (told_from rs (drop (length (text_of r.0)) put))
  where
    either : (b : Bool) → ((m : ℕ) → told_within rs (drop (length (text_of r.0)) put) m ≡ m + told_within rs (drop (length (text_of r.0)) put) 0)
        → cond b (told_within rs (drop (length (text_of r.0)) put) (cond r.1 (n + 1) n)) n ≡ n
        + cond b (told_within rs (drop (length (text_of r.0)) put) (cond r.1 (0 + 1) 0)) 0
    either true more = omega (arith, more (cond r.1 (n + 1) n), more (cond r.1 (0 + 1) 0), bumped r.1 n)
    either false more = omega arith

-- a reply that gave an edition
abbrev bump : Option Edition → ℕ
bump None = 0
bump (Some e) = 1

bump_is : (o : Option Edition) → cond (is_some o) (0 + 1) 0 ≡ bump o
bump_is None = refl
bump_is (Some e) = refl

-- nothing was put
pub told_none : (s : State) (gs : List Group) → told_within (run_in s gs).steps [] 0 ≡ 0
told_none s [] = refl
told_none s (g ∷ gs) =
    ap (λ b. cond b (told_within (run_in (state_after_of g) gs).steps (drop (length (text_of (outcome s (held_at s g)).reply)) [])
    (cond (is_some (outcome s (held_at s g)).published) (0 + 1) 0)) 0)
    (prefix_none (text_of (outcome s (held_at s g)).reply) (text_some (outcome s (held_at s g)).reply))
  where
    state_after_of : Group → State
    state_after_of i = record { quota = s.quota; last = unwrap_or (outcome s (held_at s i)).published s.last; work = (outcome s (held_at s i)).work }

-- less than the first reply was put
pub told_short : (s : State) (g : Group) (gs : List Group) (p : List ℕ) (c : ℕ) (cs : List ℕ) → text_of (reply_to s (held_at s g)) ≡ p ++ c ∷ cs
    → told_within (run_in s (g ∷ gs)).steps p 0 ≡ 0
unfolding reply_to
told_short s g gs p c cs text =
    let out = outcome s (held_at s g) in
    let short : prefix_of (text_of out.reply) p ≡ false = ap (λ (t : List ℕ). prefix_of t p) text ∙ prefix_short p c cs in
    ap (λ b. cond b (told_within (run_of s.quota (unwrap_or out.published s.last) out.work gs).steps (drop (length (text_of out.reply)) p)
    (cond (is_some out.published) (0 + 1) 0)) 0) short

-- the first reply was put, and then more
told_behind : (s : State) (g : Group) (gs : List Group) (put : List ℕ) →
    told_within (run_in s (g ∷ gs)).steps (text_of (reply_to s (held_at s g)) ++ put) 0 ≡ bump (outcome s (held_at s g)).published
    + told_within (run_in (state_then s (held_at s g)) gs).steps put 0
unfolding reply_to state_then
told_behind s g gs put =
    let out = outcome s (held_at s g) in
    let text = text_of out.reply in
    let rest = (run_of s.quota (unwrap_or out.published s.last) out.work gs).steps in
    ap (λ b. cond b (told_within rest (drop (length text) (text ++ put)) (cond (is_some out.published) (0 + 1) 0)) 0) (prefix_whole text put)
    ∙ ap (λ (l : List ℕ). told_within rest l (cond (is_some out.published) (0 + 1) 0)) (drop_at text put (length text) refl)
    ∙ told_from rest put (cond (is_some out.published) (0 + 1) 0)
    ∙ ap (λ n. n + told_within rest put 0) (bump_is out.published)

-- ---- whether the reply that comes next gives an edition

answered_from : (steps : List (Reply × Bool)) (put : List ℕ) (n : ℕ) → answered_within steps put n ≡ n + answered_within steps put 0
answered_from [] put n = omega arith
answered_from (r ∷ rs) put n = either (prefix_of (text_of r.0) put) (answered_from rs (drop (length (text_of r.0)) put))
  where
    either : (b : Bool) → ((m : ℕ) → answered_within rs (drop (length (text_of r.0)) put) m ≡ m + answered_within rs (drop (length (text_of r.0)) put) 0)
        → cond b (answered_within rs (drop (length (text_of r.0)) put) (n + 1)) n ≡ n + cond b (answered_within rs (drop (length (text_of r.0)) put) (0 + 1)) 0
    either true more = omega (arith, more (n + 1), more (0 + 1))
    either false more = omega arith

-- it is that of the first item, where nothing was put
pub next_none : (s : State) (g : Group) (gs : List Group) → gives_next (run_in s (g ∷ gs)) [] ≡ is_some (outcome s (held_at s g)).published
unfolding gives_next
next_none s g gs =
    let out = outcome s (held_at s g) in
    let rest = (run_of s.quota (unwrap_or out.published s.last) out.work gs).steps in
    ap (λ b. gives (slice_get ((out.reply, is_some out.published) ∷ rest) (cond b (answered_within rest (drop (length (text_of out.reply)) []) (0 + 1)) 0)))
    (prefix_none (text_of out.reply) (text_some out.reply))

-- and where less than its reply was put
pub next_short : (s : State) (g : Group) (gs : List Group) (p : List ℕ) (c : ℕ) (cs : List ℕ) → text_of (reply_to s (held_at s g)) ≡ p ++ c ∷ cs
    → gives_next (run_in s (g ∷ gs)) p ≡ is_some (outcome s (held_at s g)).published
unfolding gives_next reply_to
next_short s g gs p c cs text =
    let out = outcome s (held_at s g) in
    let short : prefix_of (text_of out.reply) p ≡ false = ap (λ (t : List ℕ). prefix_of t p) text ∙ prefix_short p c cs in
    let rest = (run_of s.quota (unwrap_or out.published s.last) out.work gs).steps in
    ap (λ b. gives (slice_get ((out.reply, is_some out.published) ∷ rest) (cond b (answered_within rest (drop (length (text_of out.reply)) p) (0 + 1)) 0))) short

-- behind the first reply it is that of the others
pub next_behind : (s : State) (g : Group) (gs : List Group) (put : List ℕ) →
    gives_next (run_in s (g ∷ gs)) (text_of (reply_to s (held_at s g)) ++ put) ≡ gives_next (run_in (state_then s (held_at s g)) gs) put
unfolding gives_next reply_to state_then
next_behind s g gs put =
    let out = outcome s (held_at s g) in
    let text = text_of out.reply in
    let rest = (run_of s.quota (unwrap_or out.published s.last) out.work gs).steps in
    let steps : List (Reply × Bool) = (out.reply, is_some out.published) ∷ rest in
    let next : answered_within rest put (0 + 1) ≡ suc (answered_within rest put 0) = omega (arith, answered_from rest put (0 + 1)) in
    ap (λ b. gives (slice_get steps (cond b (answered_within rest (drop (length text) (text ++ put)) (0 + 1)) 0))) (prefix_whole text put)
    ∙ ap (λ (l : List ℕ). gives (slice_get steps (answered_within rest l (0 + 1)))) (drop_at text put (length text) refl)
    ∙ ap (λ k. gives (slice_get steps k)) next

-- ---- whole replies

-- behind the first reply
pub whole_behind : (s : State) (g : Group) (gs : List Group) (log more : Log) → put_bytes log ≡ text_of (reply_to s (held_at s g)) ++ put_bytes more
    → PutsWhole (run_in (state_then s (held_at s g)) gs) more → PutsWhole (run_in s (g ∷ gs)) log
unfolding reply_to state_then
whole_behind s g gs log more is whole =
    (suc whole.0, is ∙ ap (λ (l : List ℕ). text_of (outcome s (held_at s g)).reply ++ l) whole.1)

-- the replies to the first items
pub whole_said : (s : State) (gs h : List Group) (log : Log) → put_bytes log ≡ said_for s gs → PutsWhole (run_in s (gs ++ h)) log
unfolding said_for
whole_said s gs h log put =
    let front : take (length gs) (replies_of (run_in s (gs ++ h))) ≡ replies_from s gs =
    ap (take (length gs)) (run_replies s (gs ++ h) ∙ replies-append s gs h)
    ∙ take_at (replies_from s gs) (replies_from (state_after s gs) h) (length gs) (length-replies s gs) in
    (length gs, put ∙ ap output (sym front))

-- ---- the editions

first_of : (last : Edition) (o : Option Edition) (es : List Edition) → slice_get es 0 ≡ Some (unwrap_or o last) → slice_get (with_first last o es) 0 ≡ Some last
first_of last None es is = is
first_of last (Some e) es is = refl

pub edition_first : (q : ℕ) (last : Edition) (work : Map) (gs : List Group) → slice_get (run_of q last work gs).editions 0 ≡ Some last
edition_first q last work [] = refl
edition_first q last work (g ∷ gs) =
    let out = outcome_of (record { quota = q; last = last; work = work }) (form_in last g) in
    first_of last out.published (run_of q (unwrap_or out.published last) out.work gs).editions (edition_first q (unwrap_or out.published last) out.work gs)

shifted : (last : Edition) (o : Option Edition) (es : List Edition) (k : ℕ) → slice_get (with_first last o es) (bump o + k) ≡ slice_get es k
shifted last None es k = ap (slice_get es) (let e : 0 + k ≡ k = omega arith in e)
shifted last (Some e) es k = ap (slice_get (last ∷ es)) (let e : 1 + k ≡ suc k = omega arith in e)

-- the last place
counted : (last : Edition) (o : Option Edition) (es : List Edition) → length (with_first last o es) ≡ bump o + length es
counted last None es = omega arith
counted last (Some e) es = omega arith

pub edition_last : (s : State) (gs : List Group) → (k : ℕ) × (k + 1 ≡ length (run_in s gs).editions)
    × (slice_get (run_in s gs).editions k ≡ Some (state_after s gs).last)
unfolding state_then
edition_last s [] = (0, refl, refl)
edition_last s (g ∷ gs) =
    let out = outcome s (held_at s g) in
    let es = (run_of s.quota (unwrap_or out.published s.last) out.work gs).editions in
    let so = edition_last (state_then s (held_at s g)) gs in (
      bump out.published + so.0,
      (let e = so.1 in omega (arith, counted s.last out.published es)),
      shifted s.last out.published es so.0 ∙ so.2,
    )

-- with one item before them
told_later : (s : State) (g : Group) (gs h : List Group)
    → slice_get (run_in (state_then s (held_at s g)) (gs ++ h)).editions
    (told_within (run_in (state_then s (held_at s g)) (gs ++ h)).steps (said_for (state_then s (held_at s g)) gs) 0)
    ≡ Some (state_after (state_then s (held_at s g)) gs).last
    → slice_get (run_in s (g ∷ (gs ++ h))).editions (told_within (run_in s (g ∷ (gs ++ h))).steps (said_for s (g ∷ gs)) 0) ≡ Some (state_after s (g ∷ gs)).last
unfolding state_then
told_later s g gs h so =
    let later = state_then s (held_at s g) in
    let out = outcome s (held_at s g) in
    let r = run_in s (g ∷ (gs ++ h)) in
    let es = (run_of s.quota (unwrap_or out.published s.last) out.work (gs ++ h)).editions in
    let put : said_for s (g ∷ gs) ≡ text_of (reply_to s (held_at s g)) ++ said_for later gs =
    said-append s (g ∷ []) gs ∙ ap (λ (l : List ℕ). l ++ said_for later gs) (said_one s g) in
    ap (λ (p : List ℕ). slice_get r.editions (told_within r.steps p 0)) put
    ∙ ap (slice_get r.editions) (told_behind s g (gs ++ h) (said_for later gs))
    ∙ shifted s.last out.published es (told_within (run_in later (gs ++ h)).steps (said_for later gs) 0) ∙ so

-- where the replies to the first items were put, the edition that they tell is the last one behind them
pub edition_told : (s : State) (gs h : List Group)
    → slice_get (run_in s (gs ++ h)).editions (told_within (run_in s (gs ++ h)).steps (said_for s gs) 0) ≡ Some (state_after s gs).last
edition_told s [] h =
    let r = run_in s h in
    ap (λ (p : List ℕ). slice_get r.editions (told_within r.steps p 0)) (said_none s) ∙ ap (slice_get r.editions) (told_none s h)
    ∙ edition_first s.quota s.last s.work h
edition_told s (g ∷ gs) h = told_later s g gs h (edition_told (state_then s (held_at s g)) gs h)

-- ---- an image

-- it stands for the last edition, and no further one is told
pub fine_last : (s : State) (gs : List Group) (put : List ℕ) (image : Pages) → told_within (run_in s gs).steps put 0 ≡ 0 → Stands image s.last
    → IsFine (run_in s gs) put image
fine_last s gs put image told stands = record {
  place = 0;
  least = omega arith;
  most = omega arith;
  edition = record { edition = s.last; is = edition_first s.quota s.last s.work gs; stands = stands };
}

-- it stands for the edition that the first item gives
pub fine_new : (s : State) (g : Group) (gs : List Group) (put : List ℕ) (image : Pages) (e : Edition)
    → told_within (run_in s (g ∷ gs)).steps put 0 ≡ 0 → gives_next (run_in s (g ∷ gs)) put ≡ is_some (outcome s (held_at s g)).published
    → (outcome s (held_at s g)).published ≡ Some e → Stands image e → IsFine (run_in s (g ∷ gs)) put image
fine_new s g gs put image e told next given stands =
    let out = outcome s (held_at s g) in
    let es = (run_of s.quota (unwrap_or out.published s.last) out.work gs).editions in
    let second : slice_get (with_first s.last out.published es) 1 ≡ Some (unwrap_or out.published s.last) =
    ap (λ (o : Option Edition). slice_get (with_first s.last o es) 1) given ∙ edition_first s.quota (unwrap_or out.published s.last) out.work gs in
    let turn : cond {A = ℕ} (gives_next (run_in s (g ∷ gs)) put) 1 0 ≡ 1 = ap (λ b. cond {A = ℕ} b 1 0) (next ∙ ap is_some given) in
    record {
      place = 1;
      least = omega arith;
      most = omega (arith, turn);
      edition = record { edition = e; is = second ∙ ap (λ (o : Option Edition). Some (unwrap_or o s.last)) given; stands = stands };
    }

-- it stands for the last edition after the first item
pub fine_then : (s : State) (g : Group) (gs : List Group) (put : List ℕ) (image : Pages) → told_within (run_in s (g ∷ gs)).steps put 0 ≡ 0
    → gives_next (run_in s (g ∷ gs)) put ≡ is_some (outcome s (held_at s g)).published
    → Stands image (state_then s (held_at s g)).last → IsFine (run_in s (g ∷ gs)) put image
unfolding state_then
fine_then s g gs put image told next stands = by_given (outcome s (held_at s g)).published refl stands
  where
    by_given : (o : Option Edition) → (outcome s (held_at s g)).published ≡ o → Stands image (unwrap_or (outcome s (held_at s g)).published s.last)
        → IsFine (run_in s (g ∷ gs)) put image
    by_given None none stands = fine_last s (g ∷ gs) put image told (subst (λ (o : Option Edition). Stands image (unwrap_or o s.last)) none stands)
    by_given (Some e) given stands = fine_new s g gs put image e told next given (subst (λ (o : Option Edition). Stands image (unwrap_or o s.last)) given stands)

-- behind the first reply
pub fine_behind : (s : State) (g : Group) (gs : List Group) (put : List ℕ) (image : Pages)
    → IsFine (run_in (state_then s (held_at s g)) gs) put image → IsFine (run_in s (g ∷ gs)) (text_of (reply_to s (held_at s g)) ++ put) image
unfolding state_then
fine_behind s g gs put image so =
    let out = outcome s (held_at s g) in
    let told = told_behind s g gs put in
    let turn = ap (λ b. cond {A = ℕ} b 1 0) (next_behind s g gs put) in record {
      place = bump out.published + so.place;
      least = omega (arith, told, so.least);
      most = omega (arith, told, turn, so.most);
      edition = record {
        edition = so.edition.edition;
        is = shifted s.last out.published (run_in (state_then s (held_at s g)) gs).editions so.place ∙ so.edition.is;
        stands = so.edition.stands;
      };
    }
