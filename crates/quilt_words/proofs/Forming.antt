-- What a word and the words behind it spell is what the word's row of the table makes.
use Rattle.std.proofs.Common.{◌≡◌, inl, inr, ℕ, ◌-◌, ◌/◌, ◌==◌, Bool, true, false, List, ◌∷◌, length, Option, Some, None, Ok, Err, codes, cond, find, refl}
use Rattle.std.specs.Str.{bytes_eq}
use Rattle.std.proofs.lemmas.Bool.{cases_Bool}
use Rattle.quilt_types.specs.declared.code.Code.TheVariants as codes_of
use Rattle.quilt_words.specs.Forms.{or_err, ◌>>=◌, values_of, with_count, form_of_words}
use Rattle.quilt_words.specs.Table.{Further, Entry, table, recolour_entry, points_entry}
use Rattle.quilt_words.specs.Made.{command_made, row_formed, has_pairs, formed}

-- the number of words is looked at before the first of them
counted_first : (b : Bool) (e : Entry) (more : Further) (ws : List (List ℕ)) →
    (cond b (Ok e) (Err codes_of.Count) >>= λ (x : Entry). values_of x.arguments ws >>= λ vs. or_err codes_of.Word (x.command more vs))
    ≡ (cond b (values_of e.arguments ws) (Err codes_of.Count) >>= λ vs. or_err codes_of.Word (e.command more vs))
counted_first true e more ws = refl
counted_first false e more ws = refl

row : (e : Entry) (more : Further) (ws : List (List ℕ)) →
    (with_count (length ws) e >>= λ (x : Entry). values_of x.arguments ws >>= λ vs. or_err codes_of.Word (x.command more vs))
    ≡ command_made e.arguments e.command more ws
row e more ws = counted_first (length e.arguments == length ws) e more ws

paired : (b : Bool) (e : Entry) (more : Further) (ws : List (List ℕ)) →
    (cond b (Ok e) (Err codes_of.Count) >>= λ (x : Entry). values_of x.arguments ws >>= λ vs. or_err codes_of.Word (x.command more vs))
    ≡ cond b (values_of e.arguments ws >>= λ vs. or_err codes_of.Word (e.command more vs)) (Err codes_of.Count)
paired true e more ws = refl
paired false e more ws = refl

some_row : (o : Option Entry) (more : Further) (ws : List (List ℕ)) →
    ((or_err codes_of.Word o >>= with_count (length ws)) >>= λ (x : Entry). values_of x.arguments ws >>= λ vs. or_err codes_of.Word (x.command more vs))
    ≡ row_formed o more ws
some_row None more ws = refl
some_row (Some e) more ws = row e more ws

pub formed_is : (f : ℕ) (more : Further) (bs : List ℕ) (ws : List (List ℕ)) → form_of_words f more (bs ∷ ws) ≡ formed f more bs ws
unfolding form_of_words
formed_is f more bs ws = elim (cases_Bool (bytes_eq bs (codes "recolour"))) [
  | inl same ↦ rw same (paired (has_pairs (length ws)) (recolour_entry f ((length ws - 2) / 2)) more ws)
  | inr other ↦ elim (cases_Bool (bytes_eq bs (codes "points"))) [
    | inl same ↦ rw (other, same) (row (points_entry (length ws)) more ws)
    | inr not_ ↦ rw (other, not_) (some_row (find (λ e. bytes_eq e.word bs) (table f)) more ws)
  ]
]
