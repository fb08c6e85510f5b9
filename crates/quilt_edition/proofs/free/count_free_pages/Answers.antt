use Rattle.std.proofs.Common.{◌≡◌, ◌+◌, ◌*◌, length, filter, ap, ◌∙◌, arith}
use Rattle.std.specs.List.{range_with_len}
use Rattle.quilt_edition.specs.Keeping.{is_free}
use Rattle.quilt_edition.proofs.Counts.{count_most, count_split, count_inside}
use Rattle.quilt_edition.proofs.Frees.{first_taken, past_taken}
use Rattle.quilt_edition.proofs.free.count_free_pages.Goals as goal

pub overflow_add-count : goal.overflow_add-count
overflow_add-count c =
    let f = is_free c.args.pages c.args.free.now in
    let most = count_most f 0 (8 * c.loop-byte.byte) in
    let more = count_most f (8 * c.loop-byte.byte) 8 in
    omega (arith, most, more, c.loop-byte.invariant, c.count_in_byte-count.ensures, c.requires, c.loop-byte-test.true)

pub loop-byte-preserved : goal.loop-byte-preserved
loop-byte-preserved c =
    let f = is_free c.args.pages c.args.free.now in
    let from = 8 * c.loop-byte.byte in
    let same : 0 + from ≡ from = omega arith in
    let step : length (filter f (range_with_len 0 (8 * (c.loop-byte.byte + 1)))) ≡ length (filter f (range_with_len 0 from))
    + length (filter f (range_with_len from 8)) =
    count_split f 0 from 8 (8 * (c.loop-byte.byte + 1)) (omega arith)
    ∙ ap (λ i. length (filter f (range_with_len 0 from)) + length (filter f (range_with_len i 8))) same in
    let more : c.count_in_byte-count.result ≡ length (filter f (range_with_len from 8)) = c.count_in_byte-count.ensures in
    omega (arith, step, c.loop-byte.invariant, more)

pub returns : goal.returns
returns c =
    c.loop-byte.invariant
    ∙ count_inside (is_free c.args.pages c.args.free.now) c.args.pages (8 * c.loop-byte.byte) (first_taken c.args.pages c.args.free.now)
    (past_taken c.args.pages c.args.free.now) c.requires.0 (omega (arith, c.requires, c.loop-byte-test.false))
