-- What a command gives is orderly: a refusal changes nothing, and an edition has the level of the last one, and its format or 2.
use Rattle.std.proofs.Common.{◌≡◌, ◌≤◌, ◌⊎◌, inl, inr, arith, ℕ, Bool, true, false, cond, List, Option, Some, None}
use Rattle.std.proofs.Common.{unwrap_or, Result, Ok, Err, refl, sym, ◌∙◌, ap, subst}
use Rattle.std.proofs.lemmas.Bool.{both_ways}
use Rattle.quilt_types.specs.Layers.{Map, Edition}
use Rattle.quilt_types.specs.declared.code.Code.{Code}
use Rattle.quilt_words.specs.declared.command.Command.{Command}
use Rattle.quilt_words.specs.declared.command.Command.TheVariants as commands
use Rattle.quilt_replies.specs.Answers.{State, Outcome, Refused, Done, answer}
use Rattle.quilt_replies.specs.Runs.{outcome_of}
use Rattle.quilt_replies.specs.States.{after}
use Rattle.quilt_map.specs.Steps.{asks, gives_edition, goes_back}
use Rattle.quilt_map.proofs.answers.Outcomes.{nothing_done}

-- the edition has this level, where there is one
abbrev pub HasLevel : ℕ → Option Edition → Type 0
HasLevel n None = Unit {0}
HasLevel n (Some e) = e.level ≡ n

-- the edition has this format or 2, where there is one
abbrev pub HasFormat : ℕ → Option Edition → Type 0
HasFormat f None = Unit {0}
HasFormat f (Some e) = (e.format ≡ f) ⊎ (e.format ≡ 2)

-- the edition has this level, and a format that there is
abbrev pub IsReadAt : ℕ → Edition → Type 0
IsReadAt n e = (e.level ≡ n) × (e.format ≤ 2)

-- A refusal changes nothing, and only what gives editions gives one, which has the level of the last one, and its format or 2. What asks only tells.
record IsOrderly (gives asking : Bool) (s : State) (o : Outcome) : Type 0 where
  pub level : HasLevel s.last.level o.published
  pub format : HasFormat s.last.format o.published
  pub quiet : gives ≡ false → o.published ≡ None
  pub refused : (code : Code) → o.reply ≡ Refused code → (o.work ≡ s.work) × (o.published ≡ None)
  pub tells : asking ≡ true → o ≡ nothing_done s o.reply

-- what is done behind a test is orderly, where it is done alone
behind_test : (gives asking : Bool) (s : State) (b : Bool) (code : Code) (done : Outcome) → IsOrderly gives asking s done
    → IsOrderly gives asking s (cond b (nothing_done s (Refused code)) done)
behind_test gives asking s true code done so =
    record { level = tt; format = tt; quiet = λ none. refl; refused = λ other is. (refl, refl); tells = λ is. refl }
behind_test gives asking s false code done so = so

not_refused : (body : List (List ℕ)) (code : Code) → Done body ≡ Refused code → ⊥
not_refused body code is = cc

a_work : (s : State) (body : List (List ℕ)) (work : Map) → IsOrderly false false s (record { reply = Done body; work = work; published = None })
a_work s body work = record {
  level = tt;
  format = tt;
  quiet = λ none. refl;
  refused = λ code is. absurd (not_refused body code is);
  tells = λ is. absurd (both_ways false refl is);
}

a_body : (s : State) (body : List (List ℕ)) → IsOrderly false true s (nothing_done s (Done body))
a_body s body = record { level = tt; format = tt; quiet = λ none. refl; refused = λ code is. absurd (not_refused body code is); tells = λ is. refl }

module _ (s : State) (body : List (List ℕ)) (number : ℕ) (layers work : Map) where
  edition_in : (format : ℕ) → (format ≡ s.last.format) ⊎ (format ≡ 2) → IsOrderly true false s
      (record { reply = Done body; work = work; published = Some (record { format = format; number = number; level = s.last.level; layers = layers }) })
  edition_in format either = record {
    level = refl;
    format = either;
    quiet = λ is. absurd (both_ways true is refl);
    refused = λ code is. absurd (not_refused body code is);
    tells = λ is. absurd (both_ways false refl is);
  }

  an_edition : IsOrderly true false s
      (record { reply = Done body; work = work; published = Some (record { format = s.last.format; number = number; level = s.last.level; layers = layers }) })
  an_edition = edition_in s.last.format (inl refl)

  an_upgrade : IsOrderly true false s
      (record { reply = Done body; work = work; published = Some (record { format = 2; number = number; level = s.last.level; layers = layers }) })
  an_upgrade = edition_in 2 (inr refl)

-- No command is told of alone: each is some tests, and behind them a body, with a work or without one, or an edition.
answer_orderly : (s : State) (c : Command) → IsOrderly (gives_edition c) (asks c) s (answer s c)
unfolding answer
answer_orderly s commands.Publish = search (behind_test, an_edition)
answer_orderly s commands.Upgrade = search (behind_test, an_upgrade)
answer_orderly s c = search (behind_test, a_work, a_body) depth 10

-- a command that gives an edition does not go back, and asks nothing
pub gives_else : (c : Command) → gives_edition c ≡ true → (goes_back c ≡ false) × (asks c ≡ false)
gives_else commands.Publish gives = (refl, refl)
gives_else commands.Upgrade gives = (refl, refl)
gives_else c gives = absurd (both_ways (gives_edition c) refl gives)

-- a command that only asks gives no edition and does not go back, and changes nothing
pub asks_only : (c : Command) → asks c ≡ true → (gives_edition c ≡ false) × (goes_back c ≡ false)
asks_only commands.Publish is = absurd (both_ways false refl is)
asks_only commands.Upgrade is = absurd (both_ways false refl is)
asks_only commands.Revert is = absurd (both_ways false refl is)
asks_only c is = (refl, refl)

pub only_tells : (s : State) (c : Command) → asks c ≡ true → answer s c ≡ nothing_done s ((answer s c).reply)
only_tells s c is = (answer_orderly s c).tells is

-- a command that gives no edition
pub quiet_none : (s : State) (c : Command) → gives_edition c ≡ false → (answer s c).published ≡ None
quiet_none s c quiet = (answer_orderly s c).quiet quiet

-- a refusal leaves the state
pub refused_after : (s : State) (c : Command) (code : Code) → (answer s c).reply ≡ Refused code → after s c ≡ s
refused_after s c code is =
    let same = (answer_orderly s c).refused code is in
    ap (λ (w : Map). record { quota = s.quota; last = unwrap_or (answer s c).published s.last; work = w }) same.0
    ∙ ap (λ (o : Option Edition). record { quota = s.quota; last = unwrap_or o s.last; work = s.work }) same.1

outcome_level : (s : State) (r : Result Command Code) → HasLevel s.last.level (outcome_of s r).published
outcome_level s (Ok c) = (answer_orderly s c).level
outcome_level s (Err code) = tt

outcome_format : (s : State) (r : Result Command Code) → HasFormat s.last.format (outcome_of s r).published
outcome_format s (Ok c) = (answer_orderly s c).format
outcome_format s (Err code) = tt

-- the last edition afterwards has the same level
level_then : (n : ℕ) (last : Edition) (o : Option Edition) → last.level ≡ n → HasLevel last.level o → (unwrap_or o last).level ≡ n
level_then n last None at so = at
level_then n last (Some e) at so = subst (λ m. e.level ≡ m) at so

-- and a format that there is
format_then : (last : Edition) (o : Option Edition) → last.format ≤ 2 → HasFormat last.format o → (unwrap_or o last).format ≤ 2
format_then last None low so = low
format_then last (Some e) low (inl same) = omega (arith, same, low)
format_then last (Some e) low (inr two) = omega (arith, two)

pub read_then : (n : ℕ) (s : State) (r : Result Command Code) → IsReadAt n s.last → IsReadAt n (unwrap_or (outcome_of s r).published s.last)
read_then n s r at = (
  level_then n s.last (outcome_of s r).published at.0 (outcome_level s r),
  format_then s.last (outcome_of s r).published at.1 (outcome_format s r),
)
