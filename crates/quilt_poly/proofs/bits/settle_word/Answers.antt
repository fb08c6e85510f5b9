use Rattle.std.proofs.Common.{◌≡◌, ◌+◌, ◌*◌, length, set, ◌∙◌, ap, arith}
use Rattle.std.specs.Int.{bit_at}
use Rattle.std.proofs.lemmas.List.{get_or-set_same}
use Rattle.std.proofs.lemmas.Nat.{mul-add-lt}
use Rattle.quilt_poly.specs.Bits.{strips}
use Rattle.quilt_poly.proofs.Words.{bit_in-word, settled_word}
use Rattle.quilt_poly.proofs.bits.settle_word.Goals as goal

pub returns-clause-done : goal.returns-clause-done
returns-clause-done c i lt =
    let words = c.args.words.now in
    let s = c.args.side in
    let y = c.args.y in
    let strip = c.args.strip in
    let room : length words ≡ strips s * s = c.requires.room in
    let place = mul-add-lt strip s y (strips s) c.requires.strip c.requires.in_y in
    bit_in-word (set words (strip * s + y) c.odd_above.result) s y strip i lt
    ∙ ap (λ w. bit_at w i) (get_or-set_same words (strip * s + y) c.odd_above.result 0 (omega arith))
    ∙ settled_word words s y strip c.bit_right_of-next.result (bit_at c.odd_above.result i) i c.bit_right_of-next.ensures lt (c.odd_above.ensures i lt)
