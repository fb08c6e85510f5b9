-- A whole run: the replies to all items of a text, the work at the end, and the editions on the way.
use Rattle.std.specs.Prelude.{ℕ, ◌+◌, Bool, true, false, ◌&&◌, ◌||◌, ◌==◌, if◌then◌else◌, List, [], ◌∷◌, ◌++◌, map, flat_map, Option, Some, None, Result, Ok}
use Rattle.std.specs.Prelude.{Err, codes, length, unwrap_or, is_some, drop}
use Rattle.quilt_types.specs.Layers.{Map, Edition}
use Rattle.quilt_types.specs.declared.code.Code.{Code}
use Rattle.quilt_types.specs.declared.code.Code.TheVariants as no
use Rattle.quilt_words.specs.declared.command.Command.{Command}
use Rattle.quilt_words.specs.declared.command.Command.TheVariants as commands
use Rattle.quilt_types.specs.Facts.{changes}
use Rattle.quilt_words.specs.Items.{Group, held, items_of}
use Rattle.quilt_words.specs.Forms.{form}
use Rattle.quilt_replies.specs.Answers.{Reply, Done, Refused, Outcome, State, answer}

-- the number and the word of a refusal, with a space between them
abbrev pub code_text : Code → List ℕ
code_text no.Word = codes "1 word"
code_text no.Count = codes "2 count"
code_text no.Number = codes "3 number"
code_text no.Name = codes "4 name"
code_text no.Unknown = codes "5 unknown"
code_text no.Kind = codes "6 kind"
code_text no.Exists = codes "7 exists"
code_text no.Outside = codes "8 outside"
code_text no.Absent = codes "9 absent"
code_text no.Present = codes "10 present"
code_text no.Full = codes "11 full"
code_text no.Layers = codes "12 layers"
code_text no.Long = codes "13 long"
code_text no.Rows = codes "14 rows"
code_text no.Format = codes "15 format"
code_text no.Editions = codes "16 editions"
code_text no.Bytes = codes "17 bytes"
code_text no.Many = codes "18 many"

-- the text of a reply: its body and `ok`, or the refusal
abbrev pub text_of : Reply → List ℕ
text_of (Done body) = flat_map (λ l. l ++ 10 ∷ []) body ++ codes "ok" ++ 10 ∷ []
text_of (Refused code) = codes "no " ++ code_text code ++ 10 ∷ []

-- what an item comes to: that of its command, or the refusal of an item that spells none, which changes nothing
abbrev pub outcome_of : State → Result Command Code → Outcome
outcome_of s (Ok command) = answer s command
outcome_of s (Err code) = record { reply = Refused code; work = s.work; published = None }

-- what an item spells in the format of the last edition
abbrev pub form_in : Edition → Group → Result Command Code
form_in last item = form last.format (held last.format last.level item)

-- each reply with whether it gave an edition, the work at the end, and the editions from the first on
pub record Run : Type 0 where
  pub steps : List (Reply × Bool)
  pub work : Map
  pub editions : List Edition

-- the replies of a run, in order
abbrev pub replies_of : Run → List Reply
replies_of r = map (λ step. step.0) r.steps

-- the editions from this one on, where a new one came or did not
abbrev pub with_first : Edition → Option Edition → List Edition → List Edition
with_first e None es = es
with_first e (Some new) es = e ∷ es

-- the run of these items
abbrev pub run_of : ℕ → Edition → Map → List Group → Run
run_of quota last work [] = record { steps = []; work = work; editions = last ∷ [] }
run_of quota last work (item ∷ items) =
    let out = outcome_of (record { quota = quota; last = last; work = work }) (form_in last item) in
    let rest = run_of quota (unwrap_or out.published last) out.work items in
    record {
      steps = (out.reply, is_some out.published) ∷ rest.steps;
      work = rest.work;
      editions = with_first last out.published rest.editions;
    }

-- the run of a text, from the edition's map as the first work
unfoldable pub run : ℕ → Edition → List ℕ → Run
run quota first text = run_of quota first first.layers (items_of first.level text)

-- the text of these replies
abbrev pub output : List Reply → List ℕ
output replies = flat_map text_of replies

-- the reply is no refusal
abbrev pub is_done : Reply → Bool
is_done (Done body) = true
is_done (Refused code) = false

-- the second list begins with the first
abbrev pub prefix_of : List ℕ → List ℕ → Bool
prefix_of [] ys = true
prefix_of (x ∷ xs) [] = false
prefix_of (x ∷ xs) (y ∷ ys) = (x == y) && prefix_of xs ys

-- How many editions were answered, where these bytes were put: the replies up to the one that gave an edition stand in them.
abbrev pub told_within : List (Reply × Bool) → List ℕ → ℕ → ℕ
told_within [] put n = n
told_within (r ∷ rs) put n =
    if prefix_of (text_of r.0) put then told_within rs (drop (length (text_of r.0)) put) (if r.1 then n + 1 else n) else n

-- how many editions of a run were answered, where these bytes were put
unfoldable pub editions_told : Run → List ℕ → ℕ
editions_told r put = told_within r.steps put 0

-- A publish that gave an edition: how many replies stand before its own, and how many records were removed and added
-- since the file was opened or since the last publish or revert.
pub record Published : Type 0 where
  pub before : ℕ
  pub changed : ℕ

-- the item spells `revert`
abbrev pub is_revert : Result Command Code → Bool
is_revert (Ok commands.Revert) = true
is_revert r = false

-- the publishes of these items, where so many replies stand before them and so many records were changed so far
abbrev pub publishes_of : ℕ → Edition → Map → Published → List Group → List Published
publishes_of quota last work so_far [] = []
publishes_of quota last work so_far (item ∷ items) =
    let out = outcome_of (record { quota = quota; last = last; work = work }) (form_in last item) in
    let next : Published = record {
      before = so_far.before + 1;
      changed = if is_some out.published || is_revert (form_in last item) then 0 else so_far.changed + changes last.level work out.work;
    } in
    let rest = publishes_of quota (unwrap_or out.published last) out.work next items in
    if is_some out.published then so_far ∷ rest else rest

-- the publishes of a text
unfoldable pub publishes : ℕ → Edition → List ℕ → List Published
publishes quota first text =
    publishes_of quota first first.layers (record { before = 0; changed = 0 }) (items_of first.level text)
