-- Public laws of items that are read in pieces: of groups of lines that hold the same items, and of what is given one after another.
use Rattle.std.proofs.Common.{◌≡◌, ℕ, ◌<◌, Bool, true, false, List, [], ◌∷◌, ◌++◌, length, map, refl, sym, ◌∙◌, ap, subst, arith, append_assoc, append-nil}
use Rattle.std.proofs.Common.{unwrap_or, is_some, Result}
use Rattle.std.proofs.lemmas.List.{map-append, length-map}
use Rattle.std.specs.Prelude.{if◌then◌else◌, ◌+◌, ◌||◌}
use Rattle.quilt_types.specs.Facts.{changes}
use Rattle.quilt_types.specs.Layers.{Map, Edition}
use Rattle.quilt_types.specs.declared.code.Code.{Code}
use Rattle.quilt_words.specs.declared.command.Command.{Command}
use Rattle.quilt_words.specs.Items.{Group, held, items_of, whole_items, whole_lines}
use Rattle.quilt_lang.specs.Reading.{Same, Gives, MayFollow}
use Rattle.quilt_words.specs.Forms.{form}
use Rattle.quilt_replies.specs.Answers.{State}
use Rattle.quilt_replies.specs.Runs.{Run, Published, run_of, outcome_of, form_in, with_first, is_revert, publishes_of}
use Rattle.quilt_map.proofs.answers.Orderly.{IsReadAt, read_then}

-- the run of an item that spells this, and of more
abbrev step : ℕ → Edition → Map → Result Command Code → (Edition → Map → Run) → Run
step q last work r later =
    let out = outcome_of (record { quota = q; last = last; work = work }) r in
    let rest = later (unwrap_or out.published last) out.work in
    record {
      steps = (out.reply, is_some out.published) ∷ rest.steps;
      work = rest.work;
      editions = with_first last out.published rest.editions;
    }

abbrev more : ℕ → Edition → Map → Result Command Code → Run → Run
more q last work r rest =
    let out = outcome_of (record { quota = q; last = last; work = work }) r in
    record {
      steps = (out.reply, is_some out.published) ∷ rest.steps;
      work = rest.work;
      editions = with_first last out.published rest.editions;
    }

pub run_same : (q : ℕ) (last : Edition) (work : Map) (n : ℕ) (g h : List Group) → IsReadAt n last → Same n g h → run_of q last work g ≡ run_of q last work h
run_same q last work n [] [] at same = refl
run_same q last work n [] (j ∷ h) at same = absurd (let e : [] ≡ held 1 n j ∷ map (held 1 n) h = same 1 (omega arith) in cc)
run_same q last work n (i ∷ g) [] at same = absurd (let e : held 1 n i ∷ map (held 1 n) g ≡ [] = same 1 (omega arith) in cc)
run_same q last work n (i ∷ g) (j ∷ h) at same =
    let s : State = record { quota = q; last = last; work = work } in
    let here : held last.format n i ≡ held last.format n j =
    let e : held last.format n i ∷ map (held last.format n) g ≡ held last.format n j ∷ map (held last.format n) h = same last.format at.1 in cc in
    let tails : Same n g h = λ f low. let e : held f n i ∷ map (held f n) g ≡ held f n j ∷ map (held f n) h = same f low in cc in
    let alike : form_in last i ≡ form_in last j = ap (form last.format) (subst (λ m. held last.format m i ≡ held last.format m j) (sym at.0) here) in
    let out = outcome_of s (form_in last j) in
    let after : IsReadAt n (unwrap_or out.published last) = read_then n s (form_in last j) at in
    ap (λ (r : Result Command Code). step q last work r (λ e m. run_of q e m g)) alike
    ∙ ap (more q last work (form_in last j)) (run_same q (unwrap_or out.published last) out.work n g h after tails)

-- the publishes of an item that spells this, and of more
abbrev publishing : ℕ → Edition → Map → Published → Result Command Code → (Edition → Map → Published → List Published) → List Published
publishing q last work so_far r later =
    let out = outcome_of (record { quota = q; last = last; work = work }) r in
    let next : Published = record {
      before = so_far.before + 1;
      changed = if is_some out.published || is_revert r then 0 else so_far.changed + changes last.level work out.work;
    } in
    let rest = later (unwrap_or out.published last) out.work next in
    if is_some out.published then so_far ∷ rest else rest

pub publishes_same : (q : ℕ) (last : Edition) (work : Map) (so_far : Published) (n : ℕ) (g h : List Group) → IsReadAt n last → Same n g h
    → publishes_of q last work so_far g ≡ publishes_of q last work so_far h
publishes_same q last work so_far n [] [] at same = refl
publishes_same q last work so_far n [] (j ∷ h) at same = absurd (let e : [] ≡ held 1 n j ∷ map (held 1 n) h = same 1 (omega arith) in cc)
publishes_same q last work so_far n (i ∷ g) [] at same = absurd (let e : held 1 n i ∷ map (held 1 n) g ≡ [] = same 1 (omega arith) in cc)
publishes_same q last work so_far n (i ∷ g) (j ∷ h) at same =
    let s : State = record { quota = q; last = last; work = work } in
    let here : held last.format n i ≡ held last.format n j =
    let e : held last.format n i ∷ map (held last.format n) g ≡ held last.format n j ∷ map (held last.format n) h = same last.format at.1 in cc in
    let tails : Same n g h = λ f low. let e : held f n i ∷ map (held f n) g ≡ held f n j ∷ map (held f n) h = same f low in cc in
    let alike : form_in last i ≡ form_in last j = ap (form last.format) (subst (λ m. held last.format m i ≡ held last.format m j) (sym at.0) here) in
    let out = outcome_of s (form_in last j) in
    let after : IsReadAt n (unwrap_or out.published last) = read_then n s (form_in last j) at in
    let next : Published = record {
      before = so_far.before + 1;
      changed = if is_some out.published || is_revert (form_in last j) then 0 else so_far.changed + changes last.level work out.work;
    } in
    ap (λ (r : Result Command Code). publishing q last work so_far r (λ e m p. publishes_of q e m p g)) alike
    ∙ ap (λ (l : List Published). if is_some out.published then so_far ∷ l else l)
    (publishes_same q (unwrap_or out.published last) out.work next n g h after tails)

-- ---- what is given, one after another

pub gives_none : (ended : Bool) (n : ℕ) (a : List ℕ) → Gives ended n [] a a
gives_none ended n a = record { all = λ v may f low. refl; whole = λ open_ v f low. refl }

pub then_same : (n : ℕ) (g h x y z : List Group) → Same n x (g ++ y) → Same n y (h ++ z) → Same n x ((g ++ h) ++ z)
then_same n g h x y z first second = λ f low.
    first f low ∙ map-append (held f n) g y ∙ ap (λ l. map (held f n) g ++ l) (second f low)
    ∙ sym (ap (map (held f n)) (append_assoc g h z) ∙ map-append (held f n) g (h ++ z))

pub gives_then : (ended : Bool) (n : ℕ) (g h : List Group) (a b c : List ℕ) → Gives ended n g a b → Gives ended n h b c → Gives ended n (g ++ h) a c
gives_then ended n g h a b c first second = record {
  all = λ v may. then_same n g h (items_of n (a ++ v)) (items_of n (b ++ v)) (items_of n (c ++ v)) (first.all v may) (second.all v may);
  whole = λ open_ v. then_same n g h (whole_items n (a ++ v)) (whole_items n (b ++ v)) (whole_items n (c ++ v)) (first.whole open_ v) (second.whole open_ v);
}

none_follows : (b : Bool) → MayFollow b []
none_follows true = refl
none_follows false = tt

pub fewer_left : (ended : Bool) (n : ℕ) (i : Group) (a b : List ℕ) → Gives ended n (i ∷ []) a b → length (items_of n b) < length (items_of n a)
fewer_left ended n i a b gives =
    let all : map (held 1 n) (items_of n (a ++ [])) ≡ held 1 n i ∷ map (held 1 n) (items_of n (b ++ [])) = gives.all [] (none_follows ended) 1 (omega arith) in
    let before : length (items_of n (a ++ [])) ≡ length (items_of n a) = ap (λ (t : List ℕ). length (items_of n t)) (append-nil a) in
    let after : length (items_of n (b ++ [])) ≡ length (items_of n b) = ap (λ (t : List ℕ). length (items_of n t)) (append-nil b) in
    omega (arith, ap length all, length-map (items_of n (a ++ [])) (held 1 n), length-map (items_of n (b ++ [])) (held 1 n), before, after)

pub whole_empty : (n : ℕ) → whole_items n [] ≡ []
unfolding whole_items whole_lines
whole_empty n = refl

-- how many whole items there were
pub settled_count : (n : ℕ) (u rest : List ℕ) (items : List Group) → Gives false n items u rest → whole_items n rest ≡ []
    → length (whole_items n u) ≡ length items
settled_count n u rest items gives none =
    let same : map (held 1 n) (whole_items n (u ++ [])) ≡ map (held 1 n) (items ++ whole_items n (rest ++ [])) = gives.whole refl [] 1 (omega arith) in
    let sizes : length (whole_items n (u ++ [])) ≡ length (items ++ whole_items n (rest ++ [])) =
    sym (length-map (whole_items n (u ++ [])) (held 1 n)) ∙ ap length same ∙ length-map (items ++ whole_items n (rest ++ [])) (held 1 n) in
    ap (λ (t : List ℕ). length (whole_items n t)) (sym (append-nil u)) ∙ sizes
    ∙ ap (λ (t : List ℕ). length (items ++ whole_items n t)) (append-nil rest) ∙ ap (λ (w : List Group). length (items ++ w)) none
    ∙ ap length (append-nil items)
