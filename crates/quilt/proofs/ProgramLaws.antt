-- What a run of the program comes to, by what is promised of a world over its system.
use Rattle.std.specs.Option.{option_map}
use Rattle.std.specs.Prelude.{IfSome, OnOk, OnErr, Result, Ok, Err}
use Rattle.std.proofs.Common.{◌≡◌, ◌≢◌, ◌⊎◌, inl, inr, ℕ, true, List, [], ◌++◌, drop, Option, Some, None, refl, sym, ◌∙◌, ap, subst, arith}
use Rattle.std.proofs.lemmas.Option.{same_Some}
use Rattle.quilt_world.specs.Causes.{Rose, next_count}
use Rattle.quilt_world.specs.Tale.{Tale, Begins, taken_bytes, Goes}
use Rattle.quilt_world.specs.declared.disk.Door.{Door}
use Rattle.quilt_world.specs.declared.disk.Door.TheVariants as doors
use Rattle.quilt_top.specs.declared.run.End.{End}
use Rattle.quilt_top.specs.declared.run.End.TheVariants as ends
use Rattle.quilt_top.specs.Words.{Order, New, Run as RunText, Trial, asked_for}
use Rattle.quilt_top.specs.Stronger.{KeepsMore}
use Rattle.quilt_top.proofs.InTurn.{shut_more}
use Rattle.quilt_top.specs.Headline.{KeepsPromises, WhereTold, FindsFile, IsUsage, IsDoorOf, allowed_doors, is_allowed, HasEndCause}
use Rattle.quilt_host.specs.Story.{Story}
use Rattle.quilt_host.specs.Calls.{SaysLine, SaysFront}
use Rattle.quilt_host.specs.Worlds.{tale_of, IsUnasked, IsFileKept}
use Rattle.quilt.specs.Program.{line_of, lines_of_end, order_of_call, IfTold, Does, unsaid, Runs}

-- ---- a world over the system

-- before the first call nothing of the input was taken
pub untaken_first : (o : Option Story) → IfSome (option_map (tale_of doors.Shut 0 0 0) o) (λ t. taken_bytes t.log ≡ [])
untaken_first None = tt
untaken_first (Some s) = refl

-- what is promised of the tale of the world is promised of the story that it was read off
pub does_of_tales : (order : Option Order) (end : End) (o n : Option Story) (told now : Option Tale) (before faults : ℕ) (door : Door) (pages reads writes : ℕ)
    → told ≡ option_map (tale_of doors.Shut 0 0 0) o → now ≡ option_map (tale_of door pages reads writes) n → before ≡ 0 → IfSome n (IsFileKept door)
    → IsUsage order end → (order ≡ None → n ≡ o) → HasEndCause order before faults door end
    → WhereTold (KeepsPromises order (Rose before faults) door end) told now → WhereTold (KeepsMore order door end) told now → IfTold (Does order end) o n
does_of_tales order end None n told now before faults door pages reads writes is_told is_now zero kept usage untouched cause promises more = tt
does_of_tales order end (Some s) None told now before faults door pages reads writes is_told is_now zero kept usage untouched cause promises more =
    let here = subst (λ (t : Option Tale). WhereTold (KeepsPromises order (Rose before faults) door end) t now) is_told promises in
    let none : ⊥ = subst (λ (t : Option Tale). WhereTold (KeepsPromises order (Rose before faults) door end) (Some (tale_of doors.Shut 0 0 0 s)) t) is_now here in
    none
does_of_tales order end (Some s) (Some u) told now before faults door pages reads writes is_told is_now zero kept usage untouched cause promises more =
    let here = subst (λ (t : Option Tale). WhereTold (KeepsPromises order (Rose before faults) door end) t now) is_told promises in
    let there = subst (λ (t : Option Tale). WhereTold (KeepsPromises order (Rose before faults) door end) (Some (tale_of doors.Shut 0 0 0 s)) t) is_now here in
    record {
      door = door;
      pages = pages;
      reads = reads;
      writes = writes;
      faults = faults;
      usage = usage;
      untouched = λ none. same_Some u s (untouched none);
      cause = subst (λ k. HasEndCause order k faults door end) zero cause;
      promises = subst (λ k. KeepsPromises order (Rose k faults) door end (tale_of doors.Shut 0 0 0 s) (tale_of door pages reads writes u)) zero there;
      more = subst (λ (t : Option Tale). WhereTold (KeepsMore order door end) (Some (tale_of doors.Shut 0 0 0 s)) t) is_now
          (subst (λ (t : Option Tale). WhereTold (KeepsMore order door end) t now) is_told more);
      kept = kept;
    }

-- ---- nothing is done

-- the file of an order, where nothing was done for want of memory
finds_nothing : (file : List ℕ) (t u : Tale) → FindsFile file doors.Shut ends.Memory t u
finds_nothing file t u = record {
  ready = λ e. absurd (let no : doors.Shut ≡ doors.Ready = e in cc);
  missing = λ e. absurd (let no : doors.Shut ≡ doors.Missing = e in cc);
  made = λ e. absurd (let no : doors.Shut ≡ doors.Made = e in cc);
  taken = λ e. absurd (let no : doors.Shut ≡ doors.Taken = e in cc);
  nothing_done = λ one. elim one [
    | inl e ↦ absurd (let no : ends.Memory ≡ ends.Missing = e in cc)
    | inr more ↦ elim more [
      | inl e ↦ absurd (let no : ends.Memory ≡ ends.Taken = e in cc)
      | inr last ↦ elim last [ inl e ↦ absurd (let no : ends.Memory ≡ ends.NotMap = e in cc) | inr none ↦ absurd none ]
    ]
  ];
}

promises_nothing : (order : Option Order) (rose : Type 0) (t u : Tale) → KeepsPromises order rose doors.Shut ends.Memory t u
promises_nothing None rose t u = tt
promises_nothing (Some (New file pages level)) rose t u = (finds_nothing file t u, λ e. absurd (let no : doors.Shut ≡ doors.Made = e in cc))
promises_nothing (Some (RunText file pool)) rose t u = (
  finds_nothing file t u,
  λ e. absurd (let no : doors.Shut ≡ doors.Ready = e in cc),
  λ e. absurd (let no : doors.Shut ≡ doors.Ready = e in cc),
)
promises_nothing (Some (Trial file seed count pool)) rose t u = (
  finds_nothing file t u,
  λ e. absurd (let no : doors.Shut ≡ doors.Ready = e in cc),
  λ e. absurd (let no : doors.Shut ≡ doors.Ready = e in cc),
)

usage_memory : (order : Option Order) → IsUsage order ends.Memory
usage_memory None = inr (inl refl)
usage_memory (Some order) = λ e. (let no : ends.Memory ≡ ends.Usage = e in cc)

shut_first : (order : Option Order) → IsDoorOf doors.Shut (allowed_doors order)
shut_first None = inl refl
shut_first (Some (New file pages level)) = inl refl
shut_first (Some (RunText file pool)) = inl refl
shut_first (Some (Trial file seed count pool)) = inl refl

memory_allowed : (order : Option Order) → is_allowed order ends.Memory ≡ true
memory_allowed None = refl
memory_allowed (Some (New file pages level)) = refl
memory_allowed (Some (RunText file pool)) = refl
memory_allowed (Some (Trial file seed count pool)) = refl

cause_memory : (order : Option Order) → HasEndCause order 0 0 doors.Shut ends.Memory
cause_memory order = record {
  later = omega arith;
  device = λ e. absurd (let no : ends.Memory ≡ ends.Device = e in cc);
  missing = (λ e. absurd (let no : ends.Memory ≡ ends.Missing = e in cc), λ e. absurd (let no : doors.Shut ≡ doors.Missing = e in cc));
  taken = (λ e. absurd (let no : ends.Memory ≡ ends.Taken = e in cc), λ e. absurd (let no : doors.Shut ≡ doors.Taken = e in cc));
  failed = λ e. absurd (let no : doors.Shut ≡ doors.Failed = e in cc);
  shut = λ e. inr (inl refl);
  doors = shut_first order;
  ends = memory_allowed order;
}

cause_usage : HasEndCause None 0 0 doors.Shut ends.Usage
cause_usage = record {
  later = omega arith;
  device = λ e. absurd (let no : ends.Usage ≡ ends.Device = e in cc);
  missing = (λ e. absurd (let no : ends.Usage ≡ ends.Missing = e in cc), λ e. absurd (let no : doors.Shut ≡ doors.Missing = e in cc));
  taken = (λ e. absurd (let no : ends.Usage ≡ ends.Taken = e in cc), λ e. absurd (let no : doors.Shut ≡ doors.Taken = e in cc));
  failed = λ e. absurd (let no : doors.Shut ≡ doors.Failed = e in cc);
  shut = λ e. inl refl;
  doors = inl refl;
  ends = refl;
}

-- what holds before the first call
kept_first : (s : Story) → IsUnasked s → IsFileKept doors.Shut s
kept_first s fresh = record {
  there = λ was. fresh.file ∙ was;
  owes = λ apart. fresh.owes;
  said = fresh.said;
  says = fresh.says;
}

pub memory_at_once : (order : Option Order) (s : Story) → IsUnasked s → Does order ends.Memory s s
memory_at_once order s fresh = record {
  door = doors.Shut;
  pages = 0;
  reads = 0;
  writes = 0;
  faults = 0;
  usage = usage_memory order;
  untouched = λ none. refl;
  cause = cause_memory order;
  promises = promises_nothing order (Rose 0 0) (tale_of doors.Shut 0 0 0 s) (tale_of doors.Shut 0 0 0 s);
  more = shut_more order doors.Shut ends.Memory (Some (tale_of doors.Shut 0 0 0 s)) refl refl;
  kept = kept_first s fresh;
}

pub usage_at_once : (s : Story) → IsUnasked s → Does None ends.Usage s s
usage_at_once s fresh = record {
  door = doors.Shut;
  pages = 0;
  reads = 0;
  writes = 0;
  faults = 0;
  usage = inl refl;
  untouched = λ none. refl;
  cause = cause_usage;
  promises = tt;
  more = tt;
  kept = kept_first s fresh;
}

-- where nothing was done
pub told_at_once : (step : Story → Story → Type 0) (o n : Option Story) → IfSome o IsUnasked → n ≡ o → ((s : Story) → IsUnasked s → step s s) → IfTold step o n
told_at_once step None n fresh same here = tt
told_at_once step (Some s) n fresh same here = subst (λ (m : Option Story). IfTold step (Some s) m) (sym same) (here s fresh)

-- the words are those of the call
pub told_words : (words : List (List ℕ)) (end : End) (o m n : Option Story) → m ≡ o → IfSome o (λ s. s.words ≡ Some words)
    → IfTold (Does (asked_for (drop 1 words)) end) m n → IfTold (λ s. Does (order_of_call s.words) end s) o n
told_words words end None m n same are does = tt
told_words words end (Some s) m n same are does =
    let here : IfTold (Does (asked_for (drop 1 words)) end) (Some s) n = subst (λ (x : Option Story). IfTold (Does (asked_for (drop 1 words)) end) x n) same does in
    by_after n here
  where
    by_after : (n : Option Story) → IfTold (Does (asked_for (drop 1 words)) end) (Some s) n → IfTold (λ s. Does (order_of_call s.words) end s) (Some s) n
    by_after None none = none
    by_after (Some u) does = subst (λ (w : Option (List (List ℕ))). Does (order_of_call w) end s u) (sym are) does

-- no text
pub usage_told : (o n : Option Story) → IfSome o IsUnasked → n ≡ o → IfSome o (λ s. s.words ≡ None) → IfTold (λ s. Does (order_of_call s.words) ends.Usage s) o n
usage_told None n fresh same none = tt
usage_told (Some s) n fresh same none =
    subst (λ (m : Option Story). IfTold (λ (x : Story). Does (order_of_call x.words) ends.Usage x) (Some s) m) (sym same)
    (subst (λ (w : Option (List (List ℕ))). Does (order_of_call w) ends.Usage s s) (sym none) (usage_at_once s fresh))

pub memory_told : (o n : Option Story) → IfSome o IsUnasked → n ≡ o → IfTold (λ s. Does (order_of_call s.words) ends.Memory s) o n
memory_told o n fresh same = told_at_once (λ s. Does (order_of_call s.words) ends.Memory s) o n fresh same (λ s first. memory_at_once (order_of_call s.words) s first)

-- ---- the line of the end

-- an end has one line, or none
lined : (end : End) → ((line_of end ≡ []) × (lines_of_end end ≡ 0)) ⊎ ((line_of end ≢ []) × (lines_of_end end ≡ 1))
lined ends.Done = inl (refl, refl)
lined ends.Refused = inl (refl, refl)
lined ends.Usage = inr (λ e. (let no : line_of ends.Usage ≡ [] = e in cc), refl)
lined ends.Device = inr (λ e. (let no : line_of ends.Device ≡ [] = e in cc), refl)
lined ends.Memory = inr (λ e. (let no : line_of ends.Memory ≡ [] = e in cc), refl)
lined ends.NotMap = inr (λ e. (let no : line_of ends.NotMap ≡ [] = e in cc), refl)
lined ends.Missing = inr (λ e. (let no : line_of ends.Missing ≡ [] = e in cc), refl)
lined ends.Taken = inr (λ e. (let no : line_of ends.Taken ≡ [] = e in cc), refl)
lined ends.TooMuch = inr (λ e. (let no : line_of ends.TooMuch ≡ [] = e in cc), refl)
lined (ends.Damaged page) = inr (λ e. (let no : line_of (ends.Damaged page) ≡ [] = e in cc), refl)

-- a story in which nothing was written
unsaid_first : (u : Story) → u.said ≡ [] → u.says ≡ 0 → u ≡ unsaid u
unsaid_first u said says = ap (λ (l : List ℕ). record u { said = l; says = u.says }) said ∙ ap (λ (n : ℕ). record u { said = []; says = n }) says

any_ok : {T E : Type 0} (r : Result T E) (P : Type 0) → P → OnOk r P
any_ok (Ok x) P p = p
any_ok (Err e) P p = tt

any_err : {T E : Type 0} (r : Result T E) (P : Type 0) → P → OnErr r P
any_err (Ok x) P p = tt
any_err (Err e) P p = p

-- no line is written
runs_silent : {T E : Type 0} (end : End) (said : Result T E) (s u : Story) → line_of end ≡ [] → lines_of_end end ≡ 0 → Does (order_of_call s.words) end s u
    → Runs end said s u
runs_silent end said s u none zero does = record {
  does = subst (λ (x : Story). Does (order_of_call s.words) end s x) (unsaid_first u does.kept.said does.kept.says) does;
  line = any_ok said (u.said ≡ line_of end) (does.kept.said ∙ sym none);
  front = any_err said (Begins (line_of end) u.said) (line_of end, ap (λ l. l ++ line_of end) (sym does.kept.said));
  once = does.kept.says ∙ sym zero;
}

-- the story before a line that was written, or a front of one
unsaid_written : (order : Option Order) (end : End) (front : List ℕ) (s u v : Story) → Does order end s u
    → v ≡ record u { said = u.said ++ front; says = next_count u.says } → Does order end s (unsaid v)
unsaid_written order end front s u v does now =
    subst (λ (x : Story). Does order end s x) (unsaid_first u does.kept.said does.kept.says ∙ sym (ap unsaid now)) does

said_written : (end : End) (front : List ℕ) (order : Option Order) (s u v : Story) → Does order end s u
    → v ≡ record u { said = u.said ++ front; says = next_count u.says } → v.said ≡ front
said_written end front order s u v does now = ap (λ (x : Story). x.said) now ∙ ap (λ l. l ++ front) does.kept.said

says_written : (end : End) (front : List ℕ) (order : Option Order) (s u v : Story) → Does order end s u
    → v ≡ record u { said = u.said ++ front; says = next_count u.says } → v.says ≡ 1
says_written end front order s u v does now = ap (λ (x : Story). x.says) now ∙ ap next_count does.kept.says

-- the line is written, or a front of it
runs_written : {T E : Type 0} (end : End) (said : Result T E) (s u : Story) (n : Option Story) → lines_of_end end ≡ 1 → Does (order_of_call s.words) end s u
    → OnOk said (Goes (SaysLine (line_of end)) (Some u) n) → OnErr said (Goes (SaysFront (line_of end)) (Some u) n) → IfTold (Runs end said) (Some s) n
runs_written end (Ok x) s u None one does line front = line
runs_written end (Err e) s u None one does line front = front
runs_written end (Ok x) s u (Some v) one does line front = record {
  does = unsaid_written (order_of_call s.words) end (line_of end) s u v does line;
  line = said_written end (line_of end) (order_of_call s.words) s u v does line;
  front = tt;
  once = says_written end (line_of end) (order_of_call s.words) s u v does line ∙ sym one;
}
runs_written end (Err e) s u (Some v) one does line w = record {
  does = unsaid_written (order_of_call s.words) end w.front s u v does w.now;
  line = tt;
  front = (w.rest, w.said ∙ ap (λ l. l ++ w.rest) (sym (said_written end w.front (order_of_call s.words) s u v does w.now)));
  once = says_written end w.front (order_of_call s.words) s u v does w.now ∙ sym one;
}

pub runs_of : {T E : Type 0} (end : End) (said : Result T E) (o m n : Option Story) → IfTold (λ s. Does (order_of_call s.words) end s) o m
    → (line_of end ≡ [] → n ≡ m) → (line_of end ≢ [] → OnOk said (Goes (SaysLine (line_of end)) m n)) → OnErr said (Goes (SaysFront (line_of end)) m n)
    → IfTold (Runs end said) o n
runs_of end said None m n does none line front = tt
runs_of end said (Some s) None n does none line front = absurd does
runs_of end said (Some s) (Some u) n does none line front = elim (lined end) [
  | inl silent ↦ subst (λ (x : Option Story). IfTold (Runs end said) (Some s) x) (sym (none silent.0)) (runs_silent end said s u silent.0 silent.1 does)
  | inr some ↦ runs_written end said s u n some.1 does (line some.0) front
]
