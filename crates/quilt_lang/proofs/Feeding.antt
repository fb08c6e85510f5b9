-- A piece put behind what is kept of a rest.
use Rattle.std.proofs.Common.{◌≡◌, ℕ, ◌-◌, ◌≤◌, false, List, [], ◌++◌, length, take, Option, Some, None, sym, ◌∙◌, ap, subst, arith, refl}
use Rattle.quilt_words.specs.Items.{asked, whole_lines}
use Rattle.quilt_lang.specs.declared.progress.Progress.{Progress}
use Rattle.quilt_lang.specs.declared.progress.Progress.TheVariants as progresses
use Rattle.quilt_lang.specs.Reading.{Gives}
use Rattle.quilt_lang.specs.Progress.{KeepsUnfinished, told_len}
use Rattle.quilt_lang.specs.Shortening.{IsTextPart, KeepsShort, Misses, bounds_of}
use Rattle.quilt_lang.proofs.Pieces.{gives_none, gives_then, gives_fed}

part_gives : (o : Option (ℕ × ℕ)) (n : ℕ) (text piece new : List ℕ) → ((b : ℕ × ℕ) → o ≡ Some b → Misses n b.0 b.1 text) → IsTextPart o piece new
    → Gives false n [] (text ++ piece) (text ++ new)
part_gives None n text piece new misses is = subst (λ (l : List ℕ). Gives false n [] (text ++ l) (text ++ new)) is (gives_none false n (text ++ new))
part_gives (Some b) n text piece new misses is = is.gives n text (misses b refl)

-- whatever follows, the items are those of the old rest and the piece
pub fed_part : (n : ℕ) (progress : Progress) (rest piece new joined : List ℕ) → KeepsUnfinished n rest progress → joined ≡ take (told_len progress) rest ++ new
    → IsTextPart (bounds_of n progress) piece new → Gives false n [] (rest ++ piece) joined
fed_part n progress rest piece new joined kept put is =
    let text : List ℕ = take (told_len progress) rest in
    subst (λ (l : List ℕ). Gives false n [] (rest ++ piece) l) (sym put)
    (gives_then false n [] [] (rest ++ piece) (text ++ piece) (text ++ new) (gives_fed n [] rest text piece kept.gives)
    (part_gives (bounds_of n progress) n text piece new kept.misses is))

-- it has no more bytes than the piece
pub part_few : (o : Option (ℕ × ℕ)) (piece new : List ℕ) → IsTextPart o piece new → length new ≤ length piece
part_few None piece new is = omega (arith, ap length is)
part_few (Some b) piece new is = is.few

-- and of further lines no more than shows that they are too long
pub part_short : (n : ℕ) (progress : Progress) (rest piece new joined : List ℕ) → KeepsUnfinished n rest progress → joined ≡ take (told_len progress) rest ++ new
    → IsTextPart (bounds_of n progress) piece new → KeepsShort n rest joined
part_short n progress rest piece new joined kept put is = λ line more most lines limited.
    let text : List ℕ = take (told_len progress) rest in
    let b : ℕ × ℕ = (most, asked n line - length more) in
    let bound : bounds_of n progress ≡ Some b = kept.bounds line more most lines limited in
    let part : IsTextPart (Some b) piece new = subst (λ o. IsTextPart o piece new) bound is in
    let short = part.lines text (kept.part b bound) in
    record {
      behind = short.behind;
      are = ap whole_lines put ∙ short.are ∙ ap (λ (l : List (List ℕ)). l ++ short.behind) kept.lines;
      short = short.short;
    }

-- where no further line waits there is none to keep short
pub begun_short : (n scanned : ℕ) (rest new : List ℕ) → KeepsUnfinished n rest (progresses.Begun scanned) → KeepsShort n rest new
begun_short n scanned rest new kept = λ line more most lines limited.
    absurd (let bad : None ≡ Some (most, asked n line - length more) = kept.bounds line more most lines limited in cc)
