-- What a text gives, line by line and piece by piece.
use Rattle.std.proofs.Common.{◌≡◌, ℕ, min, nat_lt, subst, inl, inr, ◌+◌, ◌<◌, ◌≤◌, Bool, true, false, List, [], ◌∷◌, ◌++◌, length, take, drop, refl, sym, ◌∙◌}
use Rattle.std.proofs.Common.{ap, arith, append_assoc, map}
use Rattle.std.proofs.lemmas.List.{drop_all, drop-drop}
use Rattle.std.proofs.lemmas.Bool.{ltb-true, ltb-false, cases_Bool}
use Rattle.quilt_words.specs.declared.item.Item.{Item}
use Rattle.quilt_words.specs.Items.{Group, is_silent, items_of, whole_items, held}
use Rattle.quilt_lang.specs.Reading.{MayFollow, Gives, GivesItem, Same, HasNone, HasNewline, IsLine, begins_silent}
use Rattle.quilt_lang.proofs.LineLaws.{silent_next, whole_silent_next, whole_part, last_silent, begins_line}

-- lists that hold the same
pub same_is : (n : ℕ) (xs ys : List Group) → xs ≡ ys → Same n xs ys
same_is n xs ys is = λ f low. ap (map (held f n)) is

pub same_then : (n : ℕ) (xs ys zs : List Group) → Same n xs ys → Same n ys zs → Same n xs zs
same_then n xs ys zs first second = λ f low. first f low ∙ second f low

pub same_onto : (n : ℕ) (gs xs ys : List Group) → Same n xs ys → Same n (gs ++ xs) (gs ++ ys)
same_onto n [] xs ys so = so
same_onto n (g ∷ gs) xs ys so = λ f low. ap (λ (l : List Item). held f n g ∷ l) (same_onto n gs xs ys so f low)

-- what equations carry
pub same_by : (n : ℕ) (a xs b ys : List Group) → a ≡ xs → b ≡ ys → Same n xs ys → Same n a b
same_by n a xs b ys first second so = λ f low. ap (map (held f n)) first ∙ so f low ∙ sym (ap (map (held f n)) second)

pub gives_none : (e : Bool) (n : ℕ) (a : List ℕ) → Gives e n [] a a
gives_none e n a = record { all = λ v may f low. refl; whole = λ open_ v f low. refl }

pub gives_then : (e : Bool) (n : ℕ) (g h : List Group) (a b c : List ℕ) → Gives e n g a b → Gives e n h b c → Gives e n (g ++ h) a c
gives_then e n g h a b c first second = record {
  all = λ v may. same_then n _ _ _ (first.all v may)
      (same_then n _ _ _ (same_onto n g _ _ (second.all v may)) (same_is n _ _ (sym (append_assoc g h (items_of n (c ++ v))))));
  whole = λ open_ v. same_then n _ _ _ (first.whole open_ v)
      (same_then n _ _ _ (same_onto n g _ _ (second.whole open_ v)) (same_is n _ _ (sym (append_assoc g h (whole_items n (c ++ v))))));
}

-- from equations of lists of lines
pub gives_of : (e : Bool) (n : ℕ) (g : List Group) (a b : List ℕ) → ((v : List ℕ) → MayFollow e v → items_of n (a ++ v) ≡ g ++ items_of n (b ++ v)) →
    (e ≡ false → (v : List ℕ) → whole_items n (a ++ v) ≡ g ++ whole_items n (b ++ v)) → Gives e n g a b
gives_of e n g a b all whole = record { all = λ v may. same_is n _ _ (all v may); whole = λ open_ v. same_is n _ _ (whole open_ v) }

-- what holds whatever follows holds where nothing follows
pub gives_ended : (e : Bool) (n : ℕ) (g : List Group) (a b : List ℕ) → Gives false n g a b → Gives e n g a b
gives_ended e n g a b so = record { all = λ v may. so.all v tt; whole = λ open_ v. so.whole refl v }

pub gives_silent : (n : ℕ) (line u : List ℕ) → IsLine line → is_silent line ≡ true → Gives false n [] (line ++ 10 ∷ u) u
gives_silent n line u none silent =
    gives_of false n [] (line ++ 10 ∷ u) u
    (λ v may. rw (append_assoc line (10 ∷ u) v) (silent_next n line (u ++ v) none silent))
    (λ open_ v. rw (append_assoc line (10 ∷ u) v) (whole_silent_next n line (u ++ v) none silent))

moved_back : (n : ℕ) (g : List Group) (a b c : List ℕ) → a ≡ b → Gives false n g b c → Gives false n g a c
moved_back n g a b c is so = let P : List ℕ → Type 0 = λ (t : List ℕ). Gives false n g t c in subst P (sym is) so

-- a text that begins with a line's bytes and a newline
pub gives_cut_silent : (n : ℕ) (text : List ℕ) (k : ℕ) → HasNewline text k → is_silent (take k text) ≡ true → Gives false n [] text (drop (k + 1) text)
gives_cut_silent n text k at silent =
    let so = gives_silent n (take k text) (drop (k + 1) text) at.before silent in
    moved_back n _ text (take k text ++ 10 ∷ drop (k + 1) text) (drop (k + 1) text) at.is so

pub begins_cut : (text : List ℕ) (k : ℕ) → HasNewline text k → begins_silent text ≡ is_silent (take k text)
begins_cut text k at = ap begins_silent at.is ∙ begins_line (take k text) (drop (k + 1) text) at.before

-- a piece more
pub gives_fed : (n : ℕ) (g : List Group) (a b p : List ℕ) → Gives false n g a b → Gives false n g (a ++ p) (b ++ p)
gives_fed n g a b p so = record {
  all = λ v may f low. rw (append_assoc a p v, append_assoc b p v) (so.all (p ++ v) tt f low);
  whole = λ open_ v f low. rw (append_assoc a p v, append_assoc b p v) (so.whole refl (p ++ v) f low);
}

pub none_open : (n : ℕ) (text : List ℕ) → IsLine text → HasNone false n text
none_open n text none = whole_part n text none

pub none_ended : (e : Bool) (n : ℕ) (text : List ℕ) → IsLine text → is_silent text ≡ true → HasNone e n text
none_ended true n text none silent = last_silent n text none silent
none_ended false n text none silent = whole_part n text none

pub drop_min : (m : ℕ) (l : List ℕ) → drop (min (length l) m) l ≡ drop m l
drop_min m l = elim (cases_Bool (nat_lt (length l) m)) [
  | inl past ↦ let over : length l < m = ltb-true (length l) m past in rw (drop_all m l (omega arith)) (drop_all (min (length l) m) l (omega arith))
  | inr within ↦ let under : m ≤ length l = ltb-false (length l) m within in let same : min (length l) m ≡ m = omega arith in rw same refl
]

-- what stands behind so many bytes, and behind the lines there that begin no item
pub passed : (rest bytes behind : List ℕ) (from m j : ℕ) → drop from bytes ≡ rest → behind ≡ drop (from + m) bytes
    → ((n : ℕ) → Gives false n [] behind (drop j behind)) → (n : ℕ) → Gives false n [] (drop m rest) (drop (from + m + j) bytes)
passed rest bytes behind from m j is back silent = λ n.
    let same : behind ≡ drop m rest = back ∙ sym (drop-drop m from bytes) ∙ ap (drop m) is in
    let new : drop j behind ≡ drop (from + m + j) bytes = ap (drop j) back ∙ drop-drop j (from + m) bytes in
    let P : List ℕ → Type 0 = λ (l : List ℕ). Gives false n [] l (drop (from + m + j) bytes) in
    let R : List ℕ → Type 0 = λ (l : List ℕ). Gives false n [] behind l in
    subst P same (subst R new (silent n))

-- the next item, and the lines behind it that begin none
pub given : (e : Bool) (n f : ℕ) (i : Item) (old behind new : List ℕ) → GivesItem e n f i old behind
    → ((n : ℕ) → Gives false n [] behind new) → GivesItem e n f i old new
given e n f i old behind new one silent = record {
  group = one.group;
  is = one.is;
  gives = gives_then e n (one.group ∷ []) [] old behind new one.gives (gives_ended e n [] behind new (silent n));
}
