-- What a command that was not refused before its quota is answered.
use Rattle.std.specs.Prelude.{if◌then◌else◌}
use Rattle.std.proofs.Common.{◌≡◌, ℕ, ◌+◌, ◌<◌, ◌≤◌, min, nat_lt, Bool, true, false, ◌||◌, List, [], ◌∷◌, Option, Some, None, is_some, refl, sym, ◌∙◌, ap}
use Rattle.std.proofs.Common.{subst, arith}
use Rattle.std.proofs.Math.Nat.{min-eq_left}
use Rattle.std.proofs.lemmas.Bool.{lt-ltb, le-ltb}
use Rattle.quilt_types.specs.Facts.{records, changes}
use Rattle.quilt_types.specs.Layers.{Layer, Map, Edition}
use Rattle.quilt_types.specs.declared.code.Code.{Code}
use Rattle.quilt_types.specs.declared.code.Code.TheVariants as no
use Rattle.quilt_world.specs.declared.disk.Disk as disk
use Rattle.quilt_record.specs.declared.entry.Entry.{Entry}
use Rattle.quilt_spell.proofs.Looping.{changes_none}
use Rattle.quilt_words.specs.declared.command.Command.{Command}
use Rattle.quilt_replies.specs.Answers.{State, Outcome, Refused, Done, answer, unless, changed, with}
use Rattle.quilt_map.specs.Commanding.{Answered}
use Rattle.quilt_map.specs.Making.{AnsweredBy, layer_placed}
use Rattle.quilt_map.specs.Planning.{HasLayer, IsFull, changed_state}
use Rattle.quilt_replies.specs.Runs.{text_of}
use Rattle.quilt_map.specs.Sessions.{IsAtWith, IsAtState, last_count}
use Rattle.quilt_replies.specs.States.{Tells, after_outcome}
use Rattle.quilt_map.specs.Steps.{goes_back}
use Rattle.quilt_replies.specs.declared.reply.Reply as replies
use Rattle.quilt_replies.specs.declared.reply.Reply.TheVariants as given
use Rattle.quilt_map.specs.declared.session.Session.{Session}
use Rattle.quilt_map.proofs.answers.Outcomes.{nothing_done}

abbrev by_quota : State → Map → Bool → Outcome
by_quota s work b = unless ((b, no.Full) ∷ []) s (changed work)

pub placed_full : (s : State) (name : List ℕ) (layer : Layer) → s.quota < records s.last.level (with s name layer)
    → layer_placed s name layer ≡ nothing_done s (Refused no.Full)
placed_full s name layer past = ap (by_quota s (with s name layer)) (lt-ltb s.quota (records s.last.level (with s name layer)) past)

pub placed_within : (s : State) (name : List ℕ) (layer : Layer) → records s.last.level (with s name layer) ≤ s.quota
    → layer_placed s name layer ≡ changed (with s name layer)
placed_within s name layer within = ap (by_quota s (with s name layer)) (le-ltb s.quota (records s.last.level (with s name layer)) within)

none_given : (s : State) (work : Map) (b : Bool) → (by_quota s work b).published ≡ None
none_given s work true = refl
none_given s work false = refl

pub placed_none : (s : State) (name : List ℕ) (layer : Layer) → (layer_placed s name layer).published ≡ None
placed_none s name layer = none_given s (with s name layer) (nat_lt s.quota (records s.last.level (with s name layer)))

module _ {W : Type 0} {D : disk.Ghosts W} where
  -- from a session with as many changes
  pub answered_from : (old mid new : Session W D) (s : State) (out : Outcome) (reply : replies.Reply) → mid.changes ≡ old.changes
      → AnsweredBy s out mid new reply → AnsweredBy s out old new reply
  answered_from old mid new s out reply same by = record {
    tells = by.tells;
    at = by.at;
    count = by.count ∙ ap (λ k. min (k + changes s.last.level s.work out.work) last_count) same;
  }

  -- a refusal, which leaves the state
  pub refused_by : (old new : Session W D) (s : State) (code : Code) → old.changes ≤ last_count → IsAtState new s → new.changes ≡ old.changes
      → AnsweredBy s (nothing_done s (Refused code)) old new (given.No code)
  refused_by old new s code bounded at count = record {
    tells = refl;
    at = at;
    count = count ∙ sym (ap (λ k. min (old.changes + k) last_count) (changes_none s.last.level s.work)
        ∙ min-eq_left {n = old.changes + 0} {m = last_count} (omega arith) ∙ omega arith);
  }

  -- the quota refuses
  pub full_answer : (old new : Session W D) (s : State) (name : List ℕ) (layer : Layer) → IsAtState old s → IsFull old new s name (Some layer)
      → AnsweredBy s (layer_placed s name layer) old new (given.No no.Full)
  full_answer old new s name layer was is =
      subst (λ (o : Outcome). AnsweredBy s o old new (given.No no.Full)) (sym (placed_full s name layer is.past))
      (refused_by old new s no.Full was.bounded is.at is.count)

  -- the layer stands under the name, with its catalog renewed
  pub placed_answer : (old mid new : Session W D) (s : State) (name : List ℕ) (layer : Layer) (entries : List Entry) (text : List ℕ)
      → HasLayer old mid s name (Some layer) entries
      → new ≡ record mid { catalog = entries } → text ≡ text_of (Done []) → AnsweredBy s (layer_placed s name layer) old new (given.Ok text)
  placed_answer old mid new s name layer entries text has is told =
      subst (λ (o : Outcome). AnsweredBy s o old new (given.Ok text)) (sym (placed_within s name layer has.within)) (record {
        tells = (told, refl);
        at = subst (λ (x : Session W D). IsAtState x (changed_state s name (Some layer))) (sym is)
            (renewed mid entries (changed_state s name (Some layer)) has.at);
        count = ap (λ (x : Session W D). x.changes) is ∙ has.count;
      })
    where
      renewed : (m : Session W D) (es : List Entry) (t : State) → IsAtWith m es t → IsAtState (record m { catalog = es }) t
      renewed m es t at = record {
        tale = at.tale;
        told = at.told;
        lawful = at.lawful;
        ready = at.ready;
        last = at.last;
        pages = at.pages;
        pages_told = at.pages_told;
        work = at.work;
        format = at.format;
        level = at.level;
        quota = at.quota;
        few = at.few;
        bounded = at.bounded;
      }

  -- the answer of a command that has this outcome
  pub answered_by : (s : State) (command : Command) (out : Outcome) (old new : Session W D) (reply : replies.Reply) → answer s command ≡ out
      → out.published ≡ None → goes_back command ≡ false
      → AnsweredBy s out old new reply → Answered s command old new reply
  answered_by s command out old new reply is none forward by = record {
    tells = subst (λ (o : Outcome). Tells reply o.reply) (sym is) by.tells;
    at = subst (λ (o : Outcome). IsAtState new (after_outcome s o)) (sym is) by.at;
    count =
        by.count
        ∙ sym (ap (λ (o : Outcome). if is_some o.published || goes_back command then 0
        else min (old.changes + changes s.last.level s.work o.work) last_count) is
        ∙ ap (λ (b : Bool). if b then 0 else min (old.changes + changes s.last.level s.work out.work) last_count)
        (ap (λ (o : Option Edition). is_some o || goes_back command) none ∙ forward));
  }
