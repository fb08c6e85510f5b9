-- The replies to items, and then to more.
use Rattle.std.proofs.Common.{◌≡◌, ℕ, suc, List, [], ◌∷◌, ◌++◌, length, length-append, take, refl, sym, ◌∙◌, ap, arith, append-nil, unwrap_or}
use Rattle.std.proofs.lemmas.List.{take_at}
use Rattle.quilt_types.specs.Layers.{Map, Edition}
use Rattle.quilt_world.specs.Tale.{Begins}
use Rattle.quilt_words.specs.Items.{Group, items_of, whole_items}
use Rattle.quilt_replies.specs.Answers.{Reply}
use Rattle.quilt_replies.specs.Runs.{run, run_of, replies_of, outcome_of, form_in}
use Rattle.quilt_map.specs.Settled.{IsSettled, SettledLaw}
use Rattle.quilt_map.proofs.answers.WholeItems.{whole_front}

length-replies : (q : ℕ) (last : Edition) (work : Map) (g : List Group) → length (replies_of (run_of q last work g)) ≡ length g
length-replies q last work [] = refl
length-replies q last work (i ∷ g) =
    let out = outcome_of (record { quota = q; last = last; work = work }) (form_in last i) in
    ap suc (length-replies q (unwrap_or out.published last) out.work g)

replies-append : (q : ℕ) (last : Edition) (work : Map) (g h : List Group)
    → Begins (replies_of (run_of q last work (g ++ h))) (replies_of (run_of q last work g))
replies-append q last work [] h = (replies_of (run_of q last work h), refl)
replies-append q last work (i ∷ g) h =
    let out = outcome_of (record { quota = q; last = last; work = work }) (form_in last i) in
    let later = replies-append q (unwrap_or out.published last) out.work g h in
    (later.0, ap (λ (l : List Reply). out.reply ∷ l) later.1)

-- of two lists of items that begin with these
settled : (q : ℕ) (first : Edition) (work : Map) (g h k : List Group) → IsSettled (length g) (run_of q first work (g ++ h)) (run_of q first work (g ++ k))
settled q first work g h k =
    let replies = replies_of (run_of q first work g) in
    let one = replies-append q first work g h in
    let other = replies-append q first work g k in
    let size : length replies ≡ length g = length-replies q first work g in
    let front : take (length g) (replies_of (run_of q first work (g ++ h))) ≡ replies = ap (take (length g)) one.1 ∙ take_at replies one.0 (length g) size in
    record {
      there = omega (arith, ap length one.1, size, length-append replies one.0);
      front = (other.0, other.1 ∙ ap (λ (l : List Reply). l ++ other.0) (sym front));
    }

-- ---- a text that may go on

pub settled_text : SettledLaw
unfolding run
settled_text n q first at text more =
    let here = whole_front n text [] in
    let longer = whole_front n text more in
    let ran = λ (items : List Group). run_of q first first.layers items in
    let one : ran (items_of first.level text) ≡ ran (whole_items n text ++ here.0) =
    ap (λ m. ran (items_of m text)) at ∙ ap (λ (t : List ℕ). ran (items_of n t)) (sym (append-nil text)) ∙ ap ran here.1 in
    let other : ran (items_of first.level (text ++ more)) ≡ ran (whole_items n text ++ longer.0) =
    ap (λ m. ran (items_of m (text ++ more))) at ∙ ap ran longer.1 in
    rw (one, other) (settled q first first.layers (whole_items n text) here.0 longer.0)
