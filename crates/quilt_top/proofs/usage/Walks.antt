-- How the command walks over the words, beside the reading of the table.
use Rattle.std.proofs.Common.{◌≡◌, ◌⊎◌, inl, inr, ℕ, suc, Bool, true, false, ◌&&◌, ◌||◌, not, cond, ◌+◌, ◌<◌, ◌≤◌, nat_eq, List, [], ◌∷◌, ◌++◌, length, drop}
use Rattle.std.proofs.Common.{Option, Some, None, length-append, codes, refl, sym, ◌∙◌, ap, ap₂, subst, arith}
use Rattle.std.specs.Prelude.{fold, option_map, option_and_then, slice_get, is_some, encode_utf8_all, IsUtf8}
use Rattle.std.specs.Char.{encode_utf8}
use Rattle.std.specs.Option.{option_map_or}
use Rattle.std.specs.List.{starts_with, list_all}
use Rattle.std.specs.Str.{bytes_eq, chars}
use Rattle.std.proofs.lemmas.Bool.{and_parts, and_right, cond-true, cond-false, lt-ltb, or_right}
use Rattle.std.proofs.lemmas.Str.{encodes-chars, IsUtf8-past_char}
use Rattle.clap.specs.Words.{Row, Rule, Text, Kinds, fault_of, matches_of}
use Rattle.clap.specs.Facts.{explicit_source}
use Rattle.clap.proofs.SimpleLemmas.{is_nil}
use Rattle.clap.specs.Lexer.{long_of}
use Rattle.clap.specs.Kinds.{or_else}
use Rattle.clap.specs.Values.{reading_of}
use Rattle.clap.specs.declared.builder.value_parser.ValueParser.TheVariants as vp
use Rattle.clap.specs.declared.parser.matches.ValueSource.TheVariants.{CommandLine}
use Rattle.clap.specs.Walk.{Held, Step, Waiting, Walk, idle, option, next, trailing, value, positional, after_step, walked, walk_from, nothing_held, is_empty}
use Rattle.clap.specs.Walk.{settled, settled_rows, subcommand_met, word_met, reacted, long_or_other, short_or_plain, subcommand_or_other, finished}
use Rattle.clap.specs.Walk.{with_default, default_rows, reading_by, has_row, used, pushed, with_values, without, takes_several, positional_held, is_pending}
use Rattle.clap.specs.Walk.{first_of}
use Rattle.clap.specs.Faults.{settle_fault, word_fault, other_fault, flag_word_fault, step_fault, positional_fault, turn_fault, walk_fault, flags_fault}
use Rattle.clap.specs.Faults.{bundle_fault, bundle_step_fault, long_fault, default_fault, defaults_fault, check_fault, react_fault, given_default_fault}
use Rattle.clap.specs.declared.error.kind.ErrorKind.TheVariants as kind
use Rattle.quilt_top.specs.Words.{Order, asked_for, is_dashed, order_of_words}
use Rattle.quilt_top.specs.CommandLine.{order_of_found, order_by, reader}
use Rattle.quilt_top.proofs.usage.Commands.{at_place, pool_rule, rules, shape, fault_is, rows_are}
use Rattle.quilt_top.proofs.usage.Looks.{Looks, LooksPlain, LooksLast, LooksValued, LooksBare, LooksStrange}
use Rattle.quilt_top.proofs.usage.Looks.{LooksShort, plain, last, valued, bare, strange, short}
use Rattle.quilt_top.proofs.usage.Looks.{look}
use Rattle.quilt_top.proofs.usage.Rows.{row, found, Shows, shows_nothing, shows_word, shows_pool, next_free, id_at, added, has_row-found}
use Rattle.quilt_top.proofs.usage.Scans.{Place, between, wants, lost, placing, pooling, step, ends, scan, scan-lost, asked_for-scans}

-- ---- where the walk stands

abbrev held_at : List Row → Option (Text × List Text) → Held
held_at rows pending = record { rows = rows; pending = pending; skip = 0 }

abbrev walk_at : Bool → Waiting → ℕ → List Row → Option (Text × List Text) → Walk
walk_at ended waiting position rows pending = record {
  held = held_at rows pending;
  waiting = waiting;
  position = position;
  is_trailing = ended;
  stopped = None;
}

abbrev sound : List Row → Option (Text × List Text) → Kinds
sound rows pending = settle_fault rules false (held_at rows pending)

-- between two words, with these words read
record Between (ended : Bool) (alone : List Text) (pool : Option Text) (w : Walk) : Type 0 where
  rows : List Row
  pending : Option (Text × List Text)
  is : w ≡ walk_at ended idle (length alone + 1) rows pending
  few : length alone ≤ 4
  settles : sound rows pending ≡ []
  shows : Shows (settled_rows rules pending rows) alone pool

-- behind `--pool`
record Wants (alone : List Text) (pool : Option Text) (w : Walk) : Type 0 where
  rows : List Row
  is : w ≡ walk_at false (option (codes "pool")) (length alone + 1) rows (Some (codes "pool", []))
  few : length alone ≤ 4
  shows : Shows rows alone pool

-- at an argument that will be refused
record Lost (w : Walk) : Type 0 where
  ended : Bool
  waiting : Waiting
  position : ℕ
  rows : List Row
  pending : Option (Text × List Text)
  is : w ≡ walk_at ended waiting position rows pending
  unsettled : sound rows pending ≡ [] → ⊥
  quiet : (ended ≡ true) ⊎ (waiting ≡ idle)

abbrev Fits : Place → Walk → Type 0
Fits (between ended alone pool) w = Between ended alone pool w
Fits (wants alone pool) w = Wants alone pool w
Fits lost w = Lost w

-- a word goes on, or is refused
data Turn (at : Place) (w : Walk) (word : Text) : Type 0 where
  goes : turn_fault shape [] w word ≡ [] → Fits (step at word) (walked rules [] w word) → Turn at w word
  fails : (turn_fault shape [] w word ≡ [] → ⊥) → step at word ≡ lost → Turn at w word

-- what a word is, and its fault
record Meets (ended : Bool) (waiting : Waiting) (position : ℕ) (word : Text) (h : Held) (next_held : Held) (taken : Step) (kinds : Kinds) : Type 0 where
  met : word_met rules [] ended waiting position word h ≡ (next_held, taken)
  fault : word_fault shape [] ended waiting word h ≡ kinds

turn_is : {ended : Bool} {waiting : Waiting} {position : ℕ} {word : Text} {rows : List Row} {pending : Option (Text × List Text)} {next_held : Held}
    {taken : Step} {kinds : Kinds}
    → Meets ended waiting position word (held_at rows pending) next_held taken kinds
    → turn_fault shape [] (walk_at ended waiting position rows pending) word ≡ or_else kinds (step_fault shape position next_held taken)
turn_is {position = position} m = ap₂ (λ k (p : Held × Step). or_else k (step_fault shape position p.0 p.1)) m.fault m.met

walked_is : {ended : Bool} {waiting : Waiting} {position : ℕ} {word : Text} {rows : List Row} {pending : Option (Text × List Text)}
    {next_held : Held} {taken : Step} {kinds : Kinds}
    → Meets ended waiting position word (held_at rows pending) next_held taken kinds
    → walked rules [] (walk_at ended waiting position rows pending) word ≡ after_step rules word (walk_at ended waiting position rows pending) next_held taken
unfolding walked
walked_is {ended = ended} {waiting = waiting} {position = position} {word = word} {rows = rows} {pending = pending} m =
    ap (λ (p : Held × Step). after_step rules word (walk_at ended waiting position rows pending) p.0 p.1) m.met

-- ---- each look of a word

meets_ended : (waiting : Waiting) (position : ℕ) (word : Text) (h : Held) → Meets true waiting position word h h value []
meets_ended waiting position word h = record { met = refl; fault = refl }

meets_plain : (position : ℕ) (word : Text) (h : Held) → LooksPlain word → Meets false idle position word h h value []
meets_plain position word h l = record {
  met = ap (λ b. cond b (h, trailing position) (long_or_other rules idle word (long_of word) h)) l.ends
      ∙ ap (λ o. long_or_other rules idle word o h) l.long ∙ ap (λ o. short_or_plain rules idle word o h) l.short;
  fault = ap (λ b. cond b [] (flag_word_fault rules false (long_of word) word h)) l.ends
      ∙ ap (λ o. flag_word_fault rules false o word h) l.long ∙ ap (λ o. option_map_or (λ flags. bundle_fault rules false flags h) o []) l.short;
}

no_subcommand : (waiting : Waiting) (word : Text) → subcommand_met [] waiting word ≡ None
no_subcommand idle word = refl
no_subcommand (option id) word = refl
no_subcommand positional word = refl

met_other : (waiting : Waiting) (position : ℕ) (word : Text) (h : Held)
    → word_met rules [] false waiting position word h ≡ cond (bytes_eq word (codes "--")) (h, trailing position)
    (long_or_other rules waiting word (long_of word) h)
met_other waiting position word h = ap (λ o. subcommand_or_other rules o waiting position word h) (no_subcommand waiting word)

fault_other : (waiting : Waiting) (word : Text) (h : Held)
    → word_fault shape [] false waiting word h ≡ cond (bytes_eq word (codes "--")) [] (flag_word_fault rules false (long_of word) word h)
fault_other waiting word h = ap (λ o. other_fault shape o word h) (no_subcommand waiting word)

meets_last : (waiting : Waiting) (position : ℕ) (word : Text) (h : Held) → LooksLast word → Meets false waiting position word h h (trailing position) []
meets_last waiting position word h l = record {
  met = met_other waiting position word h ∙ ap (λ b. cond b (h, trailing position) (long_or_other rules waiting word (long_of word) h)) l.ends;
  fault = fault_other waiting word h ∙ ap (λ b. cond b [] (flag_word_fault rules false (long_of word) word h)) l.ends;
}

-- a word that begins with a dash, and is not `--`
met_dashed : (waiting : Waiting) (position : ℕ) (word : Text) (h : Held) (o : Option (Text × Option Text))
    → bytes_eq word (codes "--") ≡ false → long_of word ≡ o
    → word_met rules [] false waiting position word h ≡ long_or_other rules waiting word o h
met_dashed waiting position word h o other long =
    met_other waiting position word h ∙ ap (λ b. cond b (h, trailing position) (long_or_other rules waiting word (long_of word) h)) other
    ∙ ap (λ p. long_or_other rules waiting word p h) long

fault_dashed : (waiting : Waiting) (word : Text) (h : Held) (o : Option (Text × Option Text)) → bytes_eq word (codes "--") ≡ false → long_of word ≡ o
    → word_fault shape [] false waiting word h ≡ flag_word_fault rules false o word h
fault_dashed waiting word h o other long =
    fault_other waiting word h ∙ ap (λ b. cond b [] (flag_word_fault rules false (long_of word) word h)) other
    ∙ ap (λ p. flag_word_fault rules false p word h) long

meets_valued : (waiting : Waiting) (position : ℕ) (word : Text) (h : Held) → LooksValued word
    → Meets false waiting position word h (reacted rules pool_rule (drop 7 word ∷ []) h) (next idle) (react_fault rules false pool_rule (drop 7 word ∷ []) h)
meets_valued waiting position word h l = record {
  met = met_dashed waiting position word h _ l.ends l.long;
  fault = fault_dashed waiting word h _ l.ends l.long;
}

meets_bare : (waiting : Waiting) (position : ℕ) (word : Text) (h : Held) → LooksBare word
    → Meets false waiting position word h (record (settled rules h) { pending = Some (codes "pool", []) }) (next (option (codes "pool")))
    (settle_fault rules false h)
meets_bare waiting position word h l = record {
  met = met_dashed waiting position word h _ l.ends l.long;
  fault = fault_dashed waiting word h _ l.ends l.long;
}

abbrev unknown : Kinds
unknown = kind.UnknownArgument ∷ []

fault_strange : (waiting : Waiting) (word : Text) (h : Held) → LooksStrange word → word_fault shape [] false waiting word h ≡ unknown
fault_strange waiting word h l =
    fault_dashed waiting word h _ l.ends l.long ∙ ap (λ b. long_fault rules false (cond (b || false) (Some pool_rule) None) l.value h) l.other

first_char : (cs flags : List ℕ) (flag : ℕ) → encode_utf8_all cs ≡ flag ∷ flags → (x : ℕ) × (slice_get cs 0 ≡ Some x)
first_char [] flags flag is = absurd (cc)
first_char (x ∷ cs) flags flag is = (x, refl)

flags_unknown : (h : Held) (k : ℕ) (flags : Text) (x : ℕ) → slice_get (chars flags) 0 ≡ Some x → flags_fault rules false (suc k) flags 0 h ≡ unknown
unfolding flags_fault
flags_unknown h k flags x is = ap (λ o. bundle_step_fault rules false o flags 0 h (flags_fault rules false k)) is

rest_is_text : (flags : List ℕ) → IsUtf8 (45 ∷ flags) → IsUtf8 flags
unfolding encode_utf8
rest_is_text flags text = IsUtf8-past_char (45 ∷ flags) flags 45 text refl

fault_short : (waiting : Waiting) (word : Text) (rows : List Row) (pending : Option (Text × List Text)) → IsUtf8 word → LooksShort word
    → word_fault shape [] false waiting word (held_at rows pending) ≡ unknown
fault_short waiting word rows pending text l =
    let h = held_at rows pending in
    let u = rest_is_text (l.flag ∷ l.flags) (subst IsUtf8 l.is text) in
    let x = first_char (chars (l.flag ∷ l.flags)) l.flags l.flag (encodes-chars (l.flag ∷ l.flags) u) in
    fault_dashed waiting word h _ l.ends l.long ∙ ap (λ o. option_map_or (λ flags. bundle_fault rules false flags h) o []) l.short
    ∙ flags_unknown h (length l.flags) (l.flag ∷ l.flags) x.0 x.1

-- ---- lists of kinds

first_none : (a b : Kinds) → or_else a b ≡ [] → a ≡ []
first_none [] b none = refl
first_none (k ∷ a) b none = absurd (cc)

both_none : (a b : Kinds) → a ≡ [] → b ≡ [] → or_else a b ≡ []
both_none a b first second = ap (λ k. or_else k b) first ∙ second

not_unknown : {a : Kinds} → a ≡ unknown → a ≡ [] → ⊥
not_unknown is none =
    let bad : unknown ≡ [] = sym is ∙ none in
    cc

-- a word with a fault
refused : (ended : Bool) (waiting : Waiting) (position : ℕ) (word : Text) (rows : List Row) (pending : Option (Text × List Text))
    → (word_fault shape [] ended waiting word (held_at rows pending) ≡ [] → ⊥)
    → turn_fault shape [] (walk_at ended waiting position rows pending) word ≡ [] → ⊥
refused ended waiting position word rows pending fault none = fault (first_none _ _ none)

second_none : (a b : Kinds) → or_else a b ≡ [] → b ≡ []
second_none [] b none = none
second_none (k ∷ a) b none = absurd (cc)

-- ---- one use of an argument

-- the value of an argument that has no row yet
settles_fresh : (id : Text) (rows : List Row) (v : Text) → found id rows ≡ None
    → or_else (cond (has_row id rows && true) (kind.ArgumentConflict ∷ []) []) [] ≡ []
settles_fresh id rows v none = ap (λ b. or_else (cond (b && true) (kind.ArgumentConflict ∷ []) []) []) (has_row-found id rows ∙ ap is_some none)

settles_again : (id : Text) (rows : List Row) (u : Text) → found id rows ≡ Some (row id u)
    → or_else (cond (has_row id rows && true) (kind.ArgumentConflict ∷ []) []) [] ≡ [] → ⊥
settles_again id rows u some none =
    let bad : kind.ArgumentConflict ∷ [] ≡ [] =
    sym (ap (λ b. or_else (cond (b && true) (kind.ArgumentConflict ∷ []) []) []) (has_row-found id rows ∙ ap is_some some)) ∙ none in
    cc

-- ---- a word at its place

record Placed (id : Text) (ended : Bool) (position : ℕ) (rows : List Row) (pending : Option (Text × List Text)) (word : Text) : Type 0 where
  step_none : step_fault shape position (held_at rows pending) value ≡ []
  after : after_step rules word (walk_at ended idle position rows pending) (held_at rows pending) value
      ≡ walk_at ended idle (position + 1) (settled_rows rules pending rows) (Some (id, word ∷ []))
  settles : sound (settled_rows rules pending rows) (Some (id, word ∷ [])) ≡ []
  row_more : settled_rows rules (Some (id, word ∷ [])) (settled_rows rules pending rows) ≡ settled_rows rules pending rows ++ row id word ∷ []

or_false : (b : Bool) → (b || false) ≡ b
or_false true = refl
or_false false = refl

to_place : (a : Rule) (word : Text) (rows : List Row) (pending : Option (Text × List Text)) → takes_several a ≡ false
    → positional_held rules a word (held_at rows pending) ≡ held_at (settled_rows rules pending rows) (Some (a.id, word ∷ []))
to_place a word rows pending one =
    ap (λ b. pushed a.id word (cond b (held_at rows pending) (settled rules (held_at rows pending)))) (and_right (is_pending a pending) (takes_several a) one)

abbrev walk_with : Bool → Held → ℕ → Walk
walk_with ended h position = record { held = h; waiting = idle; position = position; is_trailing = ended; stopped = None }

placed_by : (a : Rule) (ended : Bool) (position : ℕ) (rows : List Row) (pending : Option (Text × List Text)) (word : Text) → takes_several a ≡ false
    → step_fault shape position (held_at rows pending) value ≡ positional_fault rules false a (held_at rows pending)
    → after_step rules word (walk_at ended idle position rows pending) (held_at rows pending) value
    ≡ walk_with (ended || false) (positional_held rules a word (held_at rows pending)) (position + 1)
    → sound (settled_rows rules pending rows) (Some (a.id, word ∷ []))
    ≡ or_else (cond (has_row a.id (settled_rows rules pending rows) && true) (kind.ArgumentConflict ∷ []) []) []
    → settled_rows rules (Some (a.id, word ∷ [])) (settled_rows rules pending rows)
    ≡ with_values a.id (reading_of vp.String) CommandLine (word ∷ []) (without a.id (settled_rows rules pending rows))
    → sound rows pending ≡ [] → found a.id (settled_rows rules pending rows) ≡ None → Placed a.id ended position rows pending word
placed_by a ended position rows pending word one faults after use_is rows_is settles free = record {
  step_none = faults ∙ ap (λ b. cond b [] (sound rows pending)) (and_right (is_pending a pending) (takes_several a) one) ∙ settles;
  after = after ∙ ap₂ (λ t h. walk_with t h (position + 1)) (or_false ended) (to_place a word rows pending one);
  settles = use_is ∙ settles_fresh a.id (settled_rows rules pending rows) word free;
  row_more = rows_is ∙ added a.id word (settled_rows rules pending rows) free;
}

places : (alone : List Text) (ended : Bool) (rows : List Row) (pending : Option (Text × List Text)) (word : Text) → length alone < 4
    → sound rows pending ≡ [] → found (id_at alone) (settled_rows rules pending rows) ≡ None → Placed (id_at alone) ended (length alone + 1) rows pending word
places [] ended rows pending word few = placed_by (at_place (codes "mode") true 1) ended 1 rows pending word refl refl refl refl refl
places (a ∷ []) ended rows pending word few = placed_by (at_place (codes "file") true 2) ended 2 rows pending word refl refl refl refl refl
places (a ∷ b ∷ []) ended rows pending word few = placed_by (at_place (codes "first") false 3) ended 3 rows pending word refl refl refl refl refl
places (a ∷ b ∷ c ∷ []) ended rows pending word few = placed_by (at_place (codes "second") false 4) ended 4 rows pending word refl refl refl refl refl
places (a ∷ b ∷ c ∷ d ∷ rest) ended rows pending word few = absurd (omega arith)

-- ---- a word between two others

value_goes : (alone : List Text) (pool : Option Text) (ended : Bool) (rows : List Row) (pending : Option (Text × List Text)) (word : Text) → length alone < 4
    → sound rows pending ≡ [] → Shows (settled_rows rules pending rows) alone pool
    → Meets ended idle (length alone + 1) word (held_at rows pending) (held_at rows pending) value []
    → step (between ended alone pool) word ≡ placing ended alone pool word
    → Turn (between ended alone pool) (walk_at ended idle (length alone + 1) rows pending) word
value_goes alone pool ended rows pending word few settles shows m is =
    let now = settled_rows rules pending rows in
    let p = places alone ended rows pending word few settles (next_free now alone pool few shows) in
    let more : length (alone ++ word ∷ []) ≡ length alone + 1 = omega (arith, length-append alone (word ∷ [])) in
    let at : step (between ended alone pool) word ≡ between ended (alone ++ word ∷ []) pool =
    is ∙ ap (λ b. cond b (between ended (alone ++ word ∷ []) pool) lost) (lt-ltb (length alone) 4 few) in
    let fits : Between ended (alone ++ word ∷ []) pool (walked rules [] (walk_at ended idle (length alone + 1) rows pending) word) = record {
      rows = now;
      pending = Some (id_at alone, word ∷ []);
      is = walked_is m ∙ p.after ∙ ap (λ n. walk_at ended idle (n + 1) now (Some (id_at alone, word ∷ []))) (sym more);
      few = omega (arith, more);
      settles = p.settles;
      shows = subst (λ r. Shows r (alone ++ word ∷ []) pool) (sym p.row_more) (shows_word now alone pool word few shows);
    } in
    goes (turn_is m ∙ p.step_none) (subst (λ q. Fits q (walked rules [] (walk_at ended idle (length alone + 1) rows pending) word)) (sym at) fits)

value_turn : (alone : List Text) (pool : Option Text) (ended : Bool) (rows : List Row) (pending : Option (Text × List Text)) (word : Text) → length alone ≤ 4
    → sound rows pending ≡ [] → Shows (settled_rows rules pending rows) alone pool
    → Meets ended idle (length alone + 1) word (held_at rows pending) (held_at rows pending) value []
    → step (between ended alone pool) word ≡ placing ended alone pool word
    → Turn (between ended alone pool) (walk_at ended idle (length alone + 1) rows pending) word
value_turn [] pool ended rows pending word few settles shows m is = value_goes [] pool ended rows pending word (omega arith) settles shows m is
value_turn (a ∷ []) pool ended rows pending word few settles shows m is = value_goes (a ∷ []) pool ended rows pending word (omega arith) settles shows m is
value_turn (a ∷ b ∷ []) pool ended rows pending word few settles shows m is =
    value_goes (a ∷ b ∷ []) pool ended rows pending word (omega arith) settles shows m is
value_turn (a ∷ b ∷ c ∷ []) pool ended rows pending word few settles shows m is =
    value_goes (a ∷ b ∷ c ∷ []) pool ended rows pending word (omega arith) settles shows m is
value_turn (a ∷ b ∷ c ∷ d ∷ []) pool ended rows pending word few settles shows m is = fails (not_unknown (turn_is m)) is
value_turn (a ∷ b ∷ c ∷ d ∷ e ∷ rest) pool ended rows pending word few settles shows m is = absurd (omega arith)

-- the ways of the table's reading, where the word begins with a dash
past_dash : (alone : List Text) (pool : Option Text) (word : Text) → is_dashed word ≡ true → step (between false alone pool) word
    ≡ cond (bytes_eq word (codes "--")) (between true alone pool)
    (cond (starts_with nat_eq word (codes "--pool=")) (pooling alone pool (drop 7 word)) (cond (bytes_eq word (codes "--pool")) (wants alone pool) lost))
past_dash alone pool word dashed = ap (λ b. cond (not b) (placing false alone pool word) (cond (bytes_eq word (codes "--")) (between true alone pool)
    (cond (starts_with nat_eq word (codes "--pool=")) (pooling alone pool (drop 7 word))
    (cond (bytes_eq word (codes "--pool")) (wants alone pool) lost)))) dashed

step_refused : (alone : List Text) (pool : Option Text) (word : Text) → is_dashed word ≡ true → bytes_eq word (codes "--") ≡ false
    → starts_with nat_eq word (codes "--pool=") ≡ false → bytes_eq word (codes "--pool") ≡ false → step (between false alone pool) word ≡ lost
step_refused alone pool word dashed at_end with_value alone_named =
    past_dash alone pool word dashed ∙ cond-false _ _ _ at_end ∙ cond-false _ _ _ with_value ∙ cond-false _ _ _ alone_named

module _ (alone : List Text) (pool : Option Text) (rows : List Row) (pending : Option (Text × List Text)) (word : Text) (few : length alone ≤ 4)
    (settles : sound rows pending ≡ []) (shows : Shows (settled_rows rules pending rows) alone pool) where
  turn_last : LooksLast word → Turn (between false alone pool) (walk_at false idle (length alone + 1) rows pending) word
  turn_last l =
      let m = meets_last idle (length alone + 1) word (held_at rows pending) l in
      let at : step (between false alone pool) word ≡ between true alone pool = past_dash alone pool word l.dashed ∙ cond-true _ _ _ l.ends in
      let fits : Between true alone pool (walked rules [] (walk_at false idle (length alone + 1) rows pending) word) = record {
        rows = rows;
        pending = pending;
        is = walked_is m;
        few = few;
        settles = settles;
        shows = shows;
      } in
      goes (turn_is m) (subst (λ q. Fits q (walked rules [] (walk_at false idle (length alone + 1) rows pending) word)) (sym at) fits)

  turn_bare : LooksBare word → Turn (between false alone pool) (walk_at false idle (length alone + 1) rows pending) word
  turn_bare l =
      let m = meets_bare idle (length alone + 1) word (held_at rows pending) l in
      let at : step (between false alone pool) word ≡ wants alone pool =
      past_dash alone pool word l.dashed ∙ cond-false _ _ _ l.ends ∙ cond-false _ _ _ l.valued ∙ cond-true _ _ _ l.bare in
      let fits : Wants alone pool (walked rules [] (walk_at false idle (length alone + 1) rows pending) word) = record {
        rows = settled_rows rules pending rows;
        is = walked_is m;
        few = few;
        shows = shows;
      } in
      goes (turn_is m ∙ both_none _ [] settles refl)
      (subst (λ q. Fits q (walked rules [] (walk_at false idle (length alone + 1) rows pending) word)) (sym at) fits)

-- the option's word, where there is one already or none yet
module _ (alone : List Text) (rows : List Row) (pending : Option (Text × List Text)) (word : Text) (l : LooksValued word) where
  valued_step : (pool : Option Text) → step (between false alone pool) word ≡ pooling alone pool (drop 7 word)
  valued_step pool = past_dash alone pool word l.dashed ∙ cond-false _ _ _ l.ends ∙ cond-true _ _ _ l.valued

  turn_first : length alone ≤ 4 → sound rows pending ≡ [] → Shows (settled_rows rules pending rows) alone None
      → Turn (between false alone None) (walk_at false idle (length alone + 1) rows pending) word
  turn_first few settles shows =
      let now = settled_rows rules pending rows in
      let m = meets_valued idle (length alone + 1) word (held_at rows pending) l in
      let fits : Between false alone (Some (drop 7 word)) (walked rules [] (walk_at false idle (length alone + 1) rows pending) word) = record {
        rows = used pool_rule (drop 7 word ∷ []) now;
        pending = None;
        is = walked_is m;
        few = few;
        settles = refl;
        shows = subst (λ r. Shows r alone (Some (drop 7 word))) (sym (added (codes "pool") (drop 7 word) now shows.option))
            (shows_pool now alone (drop 7 word) shows);
      } in
      goes (turn_is m ∙ both_none _ [] (both_none _ _ settles (settles_fresh (codes "pool") now (drop 7 word) shows.option)) refl)
      (subst (λ q. Fits q (walked rules [] (walk_at false idle (length alone + 1) rows pending) word)) (sym (valued_step None)) fits)

  turn_again : (u : Text) → Shows (settled_rows rules pending rows) alone (Some u)
      → Turn (between false alone (Some u)) (walk_at false idle (length alone + 1) rows pending) word
  turn_again u shows =
      let now = settled_rows rules pending rows in
      let m = meets_valued idle (length alone + 1) word (held_at rows pending) l in
      fails (λ none. settles_again (codes "pool") now u shows.option (second_none _ _ (first_none _ _ (sym (turn_is m) ∙ none)))) (valued_step (Some u))

turn_valued : (alone : List Text) (pool : Option Text) (rows : List Row) (pending : Option (Text × List Text)) (word : Text) → length alone ≤ 4
    → sound rows pending ≡ [] → Shows (settled_rows rules pending rows) alone pool → LooksValued word
    → Turn (between false alone pool) (walk_at false idle (length alone + 1) rows pending) word
turn_valued alone None rows pending word few settles shows l = turn_first alone rows pending word l few settles shows
turn_valued alone (Some u) rows pending word few settles shows l = turn_again alone rows pending word l u shows

between_at : (alone : List Text) (pool : Option Text) (rows : List Row) (pending : Option (Text × List Text)) (word : Text) → IsUtf8 word → length alone ≤ 4
    → sound rows pending ≡ [] → Shows (settled_rows rules pending rows) alone pool → Looks word
    → Turn (between false alone pool) (walk_at false idle (length alone + 1) rows pending) word
between_at alone pool rows pending word text few settles shows (plain l) =
    value_turn alone pool false rows pending word few settles shows (meets_plain (length alone + 1) word (held_at rows pending) l)
    (ap (λ b. cond (not b) (placing false alone pool word) (cond (bytes_eq word (codes "--")) (between true alone pool)
    (cond (starts_with nat_eq word (codes "--pool=")) (pooling alone pool (drop 7 word))
    (cond (bytes_eq word (codes "--pool")) (wants alone pool) lost)))) l.dashed)
between_at alone pool rows pending word text few settles shows (last l) = turn_last alone pool rows pending word few settles shows l
between_at alone pool rows pending word text few settles shows (valued l) = turn_valued alone pool rows pending word few settles shows l
between_at alone pool rows pending word text few settles shows (bare l) = turn_bare alone pool rows pending word few settles shows l
between_at alone pool rows pending word text few settles shows (strange l) =
    fails (refused false idle (length alone + 1) word rows pending (not_unknown (fault_strange idle word (held_at rows pending) l)))
    (step_refused alone pool word l.dashed l.ends l.valued l.bare)
between_at alone pool rows pending word text few settles shows (short l) =
    fails (refused false idle (length alone + 1) word rows pending (not_unknown (fault_short idle word rows pending text l)))
    (step_refused alone pool word l.dashed l.ends l.valued l.bare)

between_turn : (ended : Bool) (alone : List Text) (pool : Option Text) (w : Walk) (word : Text) → IsUtf8 word → Between ended alone pool w
    → Turn (between ended alone pool) w word
between_turn true alone pool w word text f = subst (λ v. Turn (between true alone pool) v word) (sym f.is)
    (value_turn alone pool true f.rows f.pending word f.few f.settles f.shows (meets_ended idle (length alone + 1) word (held_at f.rows f.pending)) refl)
between_turn false alone pool w word text f = subst (λ v. Turn (between false alone pool) v word) (sym f.is)
    (between_at alone pool f.rows f.pending word text f.few f.settles f.shows (look word))

-- ---- a word behind `--pool`

abbrev behind : Waiting
behind = option (codes "pool")

meets_word : (position : ℕ) (word : Text) (rows : List Row) → LooksPlain word
    → Meets false behind position word (held_at rows (Some (codes "pool", []))) (held_at rows (Some (codes "pool", word ∷ []))) (next idle) []
meets_word position word rows l =
    let h = held_at rows (Some (codes "pool", [])) in
    record {
      met = met_other behind position word h ∙ ap (λ b. cond b (h, trailing position) (long_or_other rules behind word (long_of word) h)) l.ends
          ∙ ap (λ o. long_or_other rules behind word o h) l.long ∙ ap (λ o. short_or_plain rules behind word o h) l.short;
      fault = fault_other behind word h ∙ ap (λ b. cond b [] (flag_word_fault rules false (long_of word) word h)) l.ends
          ∙ ap (λ o. flag_word_fault rules false o word h) l.long ∙ ap (λ o. option_map_or (λ flags. bundle_fault rules false flags h) o []) l.short;
    }

wants_dashed : (alone : List Text) (pool : Option Text) (word : Text) → is_dashed word ≡ true → step (wants alone pool) word ≡ lost
wants_dashed alone pool word dashed = cond-true _ _ _ dashed

wants_word : (alone : List Text) (pool : Option Text) (rows : List Row) (word : Text) → length alone ≤ 4 → Shows rows alone pool → LooksPlain word
    → Turn (wants alone pool) (walk_at false behind (length alone + 1) rows (Some (codes "pool", []))) word
wants_word alone None rows word few shows l =
    let w = walk_at false behind (length alone + 1) rows (Some (codes "pool", [])) in
    let m = meets_word (length alone + 1) word rows l in
    let fits : Between false alone (Some word) (walked rules [] w word) = record {
      rows = rows;
      pending = Some (codes "pool", word ∷ []);
      is = walked_is m;
      few = few;
      settles = settles_fresh (codes "pool") rows word shows.option;
      shows = subst (λ r. Shows r alone (Some word)) (sym (added (codes "pool") word rows shows.option)) (shows_pool rows alone word shows);
    } in
    goes (turn_is m) (subst (λ q. Fits q (walked rules [] w word)) (sym (cond-false _ _ _ l.dashed)) fits)
wants_word alone (Some u) rows word few shows l =
    let w = walk_at false behind (length alone + 1) rows (Some (codes "pool", [])) in
    let m = meets_word (length alone + 1) word rows l in
    let fits : Lost (walked rules [] w word) = record {
      ended = false;
      waiting = idle;
      position = length alone + 1;
      rows = rows;
      pending = Some (codes "pool", word ∷ []);
      is = walked_is m;
      unsettled = settles_again (codes "pool") rows u shows.option;
      quiet = inr refl;
    } in
    goes (turn_is m) (subst (λ q. Fits q (walked rules [] w word)) (sym (cond-false _ _ _ l.dashed)) fits)

wants_at : (alone : List Text) (pool : Option Text) (rows : List Row) (word : Text) → IsUtf8 word → length alone ≤ 4 → Shows rows alone pool → Looks word
    → Turn (wants alone pool) (walk_at false behind (length alone + 1) rows (Some (codes "pool", []))) word
wants_at alone pool rows word text few shows (plain l) = wants_word alone pool rows word few shows l
wants_at alone pool rows word text few shows (last l) =
    let w = walk_at false behind (length alone + 1) rows (Some (codes "pool", [])) in
    let m = meets_last behind (length alone + 1) word (held_at rows (Some (codes "pool", []))) l in
    let fits : Lost (walked rules [] w word) = record {
      ended = true;
      waiting = behind;
      position = length alone + 1;
      rows = rows;
      pending = Some (codes "pool", []);
      is = walked_is m;
      unsettled = λ none. cc;
      quiet = inl refl;
    } in
    goes (turn_is m) (subst (λ q. Fits q (walked rules [] w word)) (sym (wants_dashed alone pool word l.dashed)) fits)
wants_at alone pool rows word text few shows (valued l) =
    let m = meets_valued behind (length alone + 1) word (held_at rows (Some (codes "pool", []))) l in
    fails (λ none. let bad : kind.InvalidValue ∷ [] ≡ [] = sym (turn_is m) ∙ none in cc) (wants_dashed alone pool word l.dashed)
wants_at alone pool rows word text few shows (bare l) =
    let m = meets_bare behind (length alone + 1) word (held_at rows (Some (codes "pool", []))) l in
    fails (λ none. let bad : kind.InvalidValue ∷ [] ≡ [] = sym (turn_is m) ∙ none in cc) (wants_dashed alone pool word l.dashed)
wants_at alone pool rows word text few shows (strange l) =
    fails (refused false behind (length alone + 1) word rows _ (not_unknown (fault_strange behind word (held_at rows (Some (codes "pool", []))) l)))
    (wants_dashed alone pool word l.dashed)
wants_at alone pool rows word text few shows (short l) =
    fails (refused false behind (length alone + 1) word rows _ (not_unknown (fault_short behind word rows _ text l))) (wants_dashed alone pool word l.dashed)

-- ---- a word where an argument will be refused

unsettled_value : (a : Rule) (rows : List Row) (pending : Option (Text × List Text)) → takes_several a ≡ false → (sound rows pending ≡ [] → ⊥)
    → positional_fault rules false a (held_at rows pending) ≡ [] → ⊥
unsettled_value a rows pending one unsettled none =
    unsettled (sym (ap (λ b. cond b [] (sound rows pending)) (and_right (is_pending a pending) (takes_several a) one)) ∙ none)

stuck_value : (position : ℕ) (rows : List Row) (pending : Option (Text × List Text)) → (sound rows pending ≡ [] → ⊥)
    → step_fault shape position (held_at rows pending) value ≡ [] → ⊥
stuck_value position rows pending unsettled = by (nat_eq 1 position) (nat_eq 2 position) (nat_eq 3 position) (nat_eq 4 position)
  where
    by : (b c d e : Bool) → option_map_or (λ a. positional_fault rules false a (held_at rows pending)) (cond b (Some (at_place (codes "mode") true 1))
        (cond c (Some (at_place (codes "file") true 2))
        (cond d (Some (at_place (codes "first") false 3)) (cond e (Some (at_place (codes "second") false 4)) None)))) unknown ≡ [] → ⊥
    by true c d e = unsettled_value (at_place (codes "mode") true 1) rows pending refl unsettled
    by false true d e = unsettled_value (at_place (codes "file") true 2) rows pending refl unsettled
    by false false true e = unsettled_value (at_place (codes "first") false 3) rows pending refl unsettled
    by false false false true = unsettled_value (at_place (codes "second") false 4) rows pending refl unsettled
    by false false false false = λ none. cc

lost_value : (ended : Bool) (waiting : Waiting) (position : ℕ) (rows : List Row) (pending : Option (Text × List Text)) (word : Text)
    → (sound rows pending ≡ [] → ⊥)
    → Meets ended waiting position word (held_at rows pending) (held_at rows pending) value [] → Turn lost (walk_at ended waiting position rows pending) word
lost_value ended waiting position rows pending word unsettled m = fails (λ none. stuck_value position rows pending unsettled (sym (turn_is m) ∙ none)) refl

lost_at : (position : ℕ) (rows : List Row) (pending : Option (Text × List Text)) (word : Text) → IsUtf8 word → (sound rows pending ≡ [] → ⊥) → Looks word
    → Turn lost (walk_at false idle position rows pending) word
lost_at position rows pending word text unsettled (plain l) =
    lost_value false idle position rows pending word unsettled (meets_plain position word (held_at rows pending) l)
lost_at position rows pending word text unsettled (last l) =
    let m = meets_last idle position word (held_at rows pending) l in
    goes (turn_is m) (record {
      ended = true;
      waiting = idle;
      position = position;
      rows = rows;
      pending = pending;
      is = walked_is m;
      unsettled = unsettled;
      quiet = inl refl;
    })
lost_at position rows pending word text unsettled (valued l) =
    let m = meets_valued idle position word (held_at rows pending) l in
    fails (λ none. unsettled (first_none _ _ (first_none _ _ (sym (turn_is m) ∙ none)))) refl
lost_at position rows pending word text unsettled (bare l) =
    let m = meets_bare idle position word (held_at rows pending) l in
    fails (λ none. unsettled (first_none _ _ (sym (turn_is m) ∙ none))) refl
lost_at position rows pending word text unsettled (strange l) =
    fails (refused false idle position word rows pending (not_unknown (fault_strange idle word (held_at rows pending) l))) refl
lost_at position rows pending word text unsettled (short l) =
    fails (refused false idle position word rows pending (not_unknown (fault_short idle word rows pending text l))) refl

lost_quiet : (ended : Bool) (waiting : Waiting) (position : ℕ) (rows : List Row) (pending : Option (Text × List Text)) (word : Text) → IsUtf8 word
    → (sound rows pending ≡ [] → ⊥)
    → (ended ≡ true) ⊎ (waiting ≡ idle) → Turn lost (walk_at ended waiting position rows pending) word
lost_quiet true waiting position rows pending word text unsettled quiet =
    lost_value true waiting position rows pending word unsettled (meets_ended waiting position word (held_at rows pending))
lost_quiet false waiting position rows pending word text unsettled (inl bad) = absurd (cc)
lost_quiet false waiting position rows pending word text unsettled (inr is) =
    subst (λ v. Turn lost (walk_at false v position rows pending) word) (sym is) (lost_at position rows pending word text unsettled (look word))

-- each word, wherever the reading stands
turn : (at : Place) (w : Walk) (word : Text) → IsUtf8 word → Fits at w → Turn at w word
turn (between ended alone pool) w word text f = between_turn ended alone pool w word text f
turn (wants alone pool) w word text f = subst (λ v. Turn (wants alone pool) v word) (sym f.is) (wants_at alone pool f.rows word text f.few f.shows (look word))
turn lost w word text f = subst (λ v. Turn lost v word) (sym f.is) (lost_quiet f.ended f.waiting f.position f.rows f.pending word text f.unsettled f.quiet)

-- ---- behind the last word

same_rows : (b : Bool) (rows : List Row) → cond b rows rows ≡ rows
same_rows true rows = refl
same_rows false rows = refl

-- arguments with no default leave the rows as they are
no_defaults : (rows : List Row) (rs : List Rule) → list_all (λ a. is_empty a.defaults) rs ≡ true
    → (defaults_fault rows rs ≡ []) × (fold with_default rows rs ≡ rows)
unfolding defaults_fault
no_defaults rows [] none = (refl, refl)
no_defaults rows (a ∷ rs) none =
    let parts = and_parts (is_empty a.defaults) (list_all (λ b. is_empty b.defaults) rs) none in
    let empty = is_nil a.defaults parts.0 in
    let left : with_default rows a ≡ rows =
    ap (λ ds. cond (has_row a.id rows) rows (default_rows a.id (reading_by a) ds rows)) empty ∙ same_rows (has_row a.id rows) rows in
    let fault : default_fault rows a ≡ [] =
    ap (λ b. cond b [] (given_default_fault a a.defaults)) (or_right (has_row a.id rows) (is_empty a.defaults) parts.0) in
    let rest = no_defaults rows rs parts.1 in
    (both_none _ _ fault (ap (λ r. defaults_fault r rs) left ∙ rest.0), ap (λ r. fold with_default r rs) left ∙ rest.1)

abbrev text_of : Option Row → Option Text
text_of o = option_and_then (λ r. slice_get r.values 0) o

abbrev is_there : Option Row → Bool
is_there o = option_map_or (λ r. explicit_source r.source) o false

abbrev missing : Option Row → Option Row → Kinds
missing mode file = cond (not (is_there mode) || (not (is_there file) || false)) (kind.MissingRequiredArgument ∷ []) []

-- what is asked for, where there is no fault
abbrev pub read : Kinds → Option Order → Option Order
read [] order = order
read (k ∷ kinds) order = None

abbrev ending : Option Row → Option Row → Option Row → Option Row → Option Row → Option Order
ending mode file first second pool = read (missing mode file) (order_of_found (text_of mode) (text_of file) (text_of first) (text_of second) (text_of pool))

abbrev by_rows : List Row → Option Order
by_rows rows =
    ending (found (codes "mode") rows) (found (codes "file") rows) (found (codes "first") rows) (found (codes "second") rows) (found (codes "pool") rows)

pool_text : (pool : Option Text) → text_of (option_map (row (codes "pool")) pool) ≡ pool
pool_text None = refl
pool_text (Some v) = refl

ending_is : (alone : List Text) (pool : Option Text) → length alone ≤ 4
    → ending (option_map (row (codes "mode")) (slice_get alone 0)) (option_map (row (codes "file")) (slice_get alone 1))
    (option_map (row (codes "first")) (slice_get alone 2))
    (option_map (row (codes "second")) (slice_get alone 3)) (option_map (row (codes "pool")) pool) ≡ order_of_words pool alone
ending_is [] pool few = refl
ending_is (a ∷ []) pool few = refl
ending_is (a ∷ b ∷ []) pool few = ap (λ p. order_of_words p (a ∷ b ∷ [])) (pool_text pool)
ending_is (a ∷ b ∷ c ∷ []) pool few = refl
ending_is (a ∷ b ∷ c ∷ d ∷ []) pool few = ap (λ p. order_of_words p (a ∷ b ∷ c ∷ d ∷ [])) (pool_text pool)
ending_is (a ∷ b ∷ c ∷ d ∷ e ∷ rest) pool few = absurd (omega arith)

by_rows_is : (rows : List Row) (alone : List Text) (pool : Option Text) → length alone ≤ 4 → Shows rows alone pool → by_rows rows ≡ order_of_words pool alone
by_rows_is rows alone pool few s =
    ap₂ (λ a b. ending a b (found (codes "first") rows) (found (codes "second") rows) (found (codes "pool") rows)) s.mode s.file
    ∙ ap₂ (λ a b. ending (option_map (row (codes "mode")) (slice_get alone 0)) (option_map (row (codes "file")) (slice_get alone 1)) a b
    (found (codes "pool") rows)) s.first s.second
    ∙ ap (λ a. ending (option_map (row (codes "mode")) (slice_get alone 0)) (option_map (row (codes "file")) (slice_get alone 1))
    (option_map (row (codes "first")) (slice_get alone 2)) (option_map (row (codes "second")) (slice_get alone 3)) a) s.option
    ∙ ending_is alone pool few

-- the faults behind the last word
abbrev last_fault : Held → Kinds
last_fault h = or_else (settle_fault rules false h) (or_else (defaults_fault (settled rules h).rows rules) (check_fault shape (finished rules h) false))

-- what the command makes of the words that are left
abbrev pub outcome : Walk → List Text → Option Order
outcome w ws =
    let h = (fold (walked rules []) w ws).held in
    read (or_else (walk_fault shape [] w ws) (last_fault h)) (order_by (λ id. first_of id (finished rules h)))

abbrev closing : Held → Option Order
closing h = read (last_fault h) (order_by (λ id. first_of id (finished rules h)))

closes : (rows : List Row) (pending : Option (Text × List Text)) → sound rows pending ≡ []
    → closing (held_at rows pending) ≡ by_rows (settled_rows rules pending rows)
closes rows pending settles =
    let now = settled_rows rules pending rows in
    let none = no_defaults now rules refl in
    ap (λ k. read (or_else k (or_else (defaults_fault now rules) (check_fault shape (fold with_default now rules) false)))
    (order_by (λ id. first_of id (fold with_default now rules)))) settles
    ∙ ap (λ k. read (or_else k (check_fault shape (fold with_default now rules) false)) (order_by (λ id. first_of id (fold with_default now rules)))) none.0
    ∙ ap (λ r. read (check_fault shape r false) (order_by (λ id. first_of id r))) none.1

closes_not : (rows : List Row) (pending : Option (Text × List Text)) → (sound rows pending ≡ [] → ⊥) → closing (held_at rows pending) ≡ None
closes_not rows pending unsettled = by (sound rows pending) unsettled
  where
    by : (k : Kinds) → (k ≡ [] → ⊥)
        → read (or_else k (or_else (defaults_fault (settled_rows rules pending rows) rules) (check_fault shape (finished rules (held_at rows pending)) false)))
        (order_by (λ id. first_of id (finished rules (held_at rows pending)))) ≡ None
    by [] unequal = absurd (unequal refl)
    by (x ∷ k) unequal = refl

close : (at : Place) (w : Walk) → Fits at w → closing w.held ≡ ends at
close (between ended alone pool) w f = ap (λ (v : Walk). closing v.held) f.is ∙ closes f.rows f.pending f.settles ∙ by_rows_is _ alone pool f.few f.shows
close (wants alone pool) w f = ap (λ (v : Walk). closing v.held) f.is ∙ closes_not f.rows (Some (codes "pool", [])) (λ none. cc)
close lost w f = ap (λ (v : Walk). closing v.held) f.is ∙ closes_not f.rows f.pending f.unsettled

-- ---- all the words

abbrev pub AreTexts : List Text → Type 0
AreTexts [] = Unit {0}
AreTexts (w ∷ ws) = IsUtf8 w × AreTexts ws

read_none : (a b c : Kinds) (order : Option Order) → (a ≡ [] → ⊥) → read (or_else (or_else a b) c) order ≡ None
read_none [] b c order unequal = absurd (unequal refl)
read_none (k ∷ a) b c order unequal = refl

follows : (ws : List Text) (at : Place) (w : Walk) → AreTexts ws → Fits at w → outcome w ws ≡ scan at ws
unfolding walk_fault
follows [] at w texts f = close at w f
follows (word ∷ ws) at w texts f = elim (turn at w word texts.0 f) [
  | goes none fits ↦
      ap (λ k. read (or_else (or_else k (walk_fault shape [] (walked rules [] w word) ws))
      (last_fault (fold (walked rules []) (walked rules [] w word) ws).held))
      (order_by (λ id. first_of id (finished rules (fold (walked rules []) (walked rules [] w word) ws).held)))) none
      ∙ follows ws (step at word) (walked rules [] w word) texts.1 fits
  | fails some is ↦ read_none _ _ _ _ some ∙ sym (ap (λ q. scan q ws) is ∙ scan-lost ws)
]

starts : Between false [] None (walk_from nothing_held)
starts = record { rows = []; pending = None; is = refl; few = omega arith; settles = refl; shows = shows_nothing }

-- the command takes the words of the table, and finds in them what the table does
pub reads : (ws : List Text) → AreTexts ws → read (fault_of reader ws) (order_by (λ id. first_of id (matches_of reader ws))) ≡ asked_for ws
reads ws texts =
    ap₂ (λ k rows. read k (order_by (λ id. first_of id rows))) (fault_is ws) (rows_are ws)
    ∙ follows ws (between false [] None) (walk_from nothing_held) texts starts ∙ sym (asked_for-scans ws)
