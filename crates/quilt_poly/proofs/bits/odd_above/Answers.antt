use Rattle.std.proofs.Common.{◌/◌, ◌%◌, ◌∙◌, ap}
use Rattle.std.specs.Int.Bits.{bit_xor}
use Rattle.quilt_poly.proofs.Words.{one_each, twice_each, up_to_word}
use Rattle.quilt_poly.proofs.bits.odd_above.Goals as goal

pub returns : goal.returns
returns c i lt =
    let w = c.args.word in
    let a = bit_xor w (w / 2) in
    let b = bit_xor a (a / 4) in
    let d = bit_xor b (b / 16) in
    let e = bit_xor d (d / 256) in
    let f = bit_xor e (e / 65536) in
    twice_each w f 32 (twice_each w e 16 (twice_each w d 8 (twice_each w b 4 (twice_each w a 2 (twice_each w w 1 (one_each w)))))) i
    ∙ ap (λ k. k % 2) (up_to_word w i c.ranges.word.fits lt)
