-- What is found for each argument, as rows are added.
use Rattle.std.proofs.Common.{◌≡◌, Bool, true, false, ◌||◌, cond, ◌<◌, List, [], ◌∷◌, ◌++◌, length, Option, Some, None, codes, refl, ◌∙◌, ap, arith}
use Rattle.std.specs.Prelude.{find, option_map, slice_get, is_some}
use Rattle.std.specs.Option.{option_or}
use Rattle.std.specs.Str.{bytes_eq}
use Rattle.std.proofs.lemmas.List.Folds.{find-append}
use Rattle.clap.specs.Words.{Row, Text}
use Rattle.clap.specs.Walk.{with_values, without, has_row, more_values}
use Rattle.clap.specs.Values.{reading_of}
use Rattle.clap.specs.declared.builder.value_parser.ValueParser.TheVariants as vp
use Rattle.clap.specs.declared.parser.matches.ValueSource.TheVariants.{CommandLine}

-- a word that was read for an argument
abbrev pub row : Text → Text → Row
row id v = record {
  id = id;
  values = v ∷ [];
  count = None;
  source = Some CommandLine;
  reading = reading_of vp.String;
}

abbrev pub found : Text → List Row → Option Row
found id rows = find (λ r. bytes_eq r.id id) rows

-- the rows of the words at the four places and of the option's word
pub record Shows (rows : List Row) (alone : List Text) (pool : Option Text) : Type 0 where
  pub mode : found (codes "mode") rows ≡ option_map (row (codes "mode")) (slice_get alone 0)
  pub file : found (codes "file") rows ≡ option_map (row (codes "file")) (slice_get alone 1)
  pub first : found (codes "first") rows ≡ option_map (row (codes "first")) (slice_get alone 2)
  pub second : found (codes "second") rows ≡ option_map (row (codes "second")) (slice_get alone 3)
  pub option : found (codes "pool") rows ≡ option_map (row (codes "pool")) pool

pub shows_nothing : Shows [] [] None
shows_nothing = record { mode = refl; file = refl; first = refl; second = refl; option = refl }

-- where no row has the id, its row is added at the end
pub added : (id v : Text) (rows : List Row) → found id rows ≡ None
    → with_values id (reading_of vp.String) CommandLine (v ∷ []) (without id rows) ≡ rows ++ row id v ∷ []
added id v [] none = refl
added id v (r ∷ rows) none = by (bytes_eq r.id id) refl none (added id v rows)
  where
    by : (b : Bool) → bytes_eq r.id id ≡ b → cond b (Some r) (found id rows) ≡ None
        → (found id rows ≡ None → with_values id (reading_of vp.String) CommandLine (v ∷ []) (without id rows) ≡ rows ++ row id v ∷ [])
        → with_values id (reading_of vp.String) CommandLine (v ∷ []) (cond b rows (r ∷ without id rows)) ≡ r ∷ rows ++ row id v ∷ []
    by true is none rest = absurd (cc)
    by false is none rest =
        ap (λ (b : Bool). cond b (more_values CommandLine (v ∷ []) r ++ without id rows)
        (r ∷ with_values id (reading_of vp.String) CommandLine (v ∷ []) (without id rows))) is ∙ ap (λ l. r ∷ l) (rest none)

pub has_row-found : (id : Text) (rows : List Row) → has_row id rows ≡ is_some (found id rows)
has_row-found id [] = refl
has_row-found id (r ∷ rows) = by (bytes_eq r.id id) (has_row-found id rows)
  where
    by : (b : Bool) → has_row id rows ≡ is_some (found id rows) → (b || has_row id rows) ≡ is_some (cond b (Some r) (found id rows))
    by true rest = refl
    by false rest = rest

-- one row more
pushed : (id other v : Text) (rows : List Row)
    → found other (rows ++ row id v ∷ []) ≡ option_or (found other rows) (cond (bytes_eq id other) (Some (row id v)) None)
pushed id other v rows = find-append (λ r. bytes_eq r.id other) rows (row id v ∷ [])

-- the word at the next place
abbrev pub id_at : List Text → Text
id_at [] = codes "mode"
id_at (a ∷ []) = codes "file"
id_at (a ∷ b ∷ []) = codes "first"
id_at (a ∷ b ∷ c ∷ rest) = codes "second"

row_more : (id other v : Text) (rows : List Row) (o : Option Row) → found other rows ≡ o
    → found other (rows ++ row id v ∷ []) ≡ option_or o (cond (bytes_eq id other) (Some (row id v)) None)
row_more id other v rows o is = pushed id other v rows ∙ ap (λ x. option_or x (cond (bytes_eq id other) (Some (row id v)) None)) is

option_or-none : (o : Option Row) → option_or o None ≡ o
option_or-none None = refl
option_or-none (Some r) = refl

pub shows_word : (rows : List Row) (alone : List Text) (pool : Option Text) (w : Text) → length alone < 4 → Shows rows alone pool
    → Shows (rows ++ row (id_at alone) w ∷ []) (alone ++ w ∷ []) pool
shows_word rows [] pool w few s = record {
  mode = row_more _ _ w rows _ s.mode;
  file = row_more _ _ w rows _ s.file;
  first = row_more _ _ w rows _ s.first;
  second = row_more _ _ w rows _ s.second;
  option = row_more _ _ w rows _ s.option ∙ option_or-none _;
}
shows_word rows (a ∷ []) pool w few s = record {
  mode = row_more _ _ w rows _ s.mode;
  file = row_more _ _ w rows _ s.file;
  first = row_more _ _ w rows _ s.first;
  second = row_more _ _ w rows _ s.second;
  option = row_more _ _ w rows _ s.option ∙ option_or-none _;
}
shows_word rows (a ∷ b ∷ []) pool w few s = record {
  mode = row_more _ _ w rows _ s.mode;
  file = row_more _ _ w rows _ s.file;
  first = row_more _ _ w rows _ s.first;
  second = row_more _ _ w rows _ s.second;
  option = row_more _ _ w rows _ s.option ∙ option_or-none _;
}
shows_word rows (a ∷ b ∷ c ∷ []) pool w few s = record {
  mode = row_more _ _ w rows _ s.mode;
  file = row_more _ _ w rows _ s.file;
  first = row_more _ _ w rows _ s.first;
  second = row_more _ _ w rows _ s.second;
  option = row_more _ _ w rows _ s.option ∙ option_or-none _;
}
shows_word rows (a ∷ b ∷ c ∷ d ∷ rest) pool w few s = absurd (omega arith)

pub shows_pool : (rows : List Row) (alone : List Text) (v : Text) → Shows rows alone None → Shows (rows ++ row (codes "pool") v ∷ []) alone (Some v)
shows_pool rows alone v s = record {
  mode = row_more _ _ v rows _ s.mode ∙ option_or-none _;
  file = row_more _ _ v rows _ s.file ∙ option_or-none _;
  first = row_more _ _ v rows _ s.first ∙ option_or-none _;
  second = row_more _ _ v rows _ s.second ∙ option_or-none _;
  option = row_more _ _ v rows _ s.option;
}

-- no row has the id of the next place
pub next_free : (rows : List Row) (alone : List Text) (pool : Option Text) → length alone < 4 → Shows rows alone pool → found (id_at alone) rows ≡ None
next_free rows [] pool few s = s.mode
next_free rows (a ∷ []) pool few s = s.file
next_free rows (a ∷ b ∷ []) pool few s = s.first
next_free rows (a ∷ b ∷ c ∷ []) pool few s = s.second
next_free rows (a ∷ b ∷ c ∷ d ∷ rest) pool few s = absurd (omega arith)
