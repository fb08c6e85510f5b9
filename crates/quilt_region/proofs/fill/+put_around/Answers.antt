use Rattle.std.proofs.Common.{◌≡◌, ℕ, ◌+◌, ◌*◌, ◌/◌, sym, ◌∙◌, ap, subst, arith}
use Rattle.std.proofs.lemmas.Result.{on_ok_weaker}
use Rattle.quilt_types.specs.declared.plane.Block.{Block}
use Rattle.quilt_types.specs.Plane.{corner, Holds, IsBlock}
use Rattle.quilt_loc.specs.Codes.{code_from}
use Rattle.quilt_loc.proofs.Blocks.{IsBlock-up, Holds-from}
use Rattle.quilt_loc.proofs.Intervals.{half_codes}
use Rattle.quilt_loc.proofs.Nesting.{side_pos, twice_le}
use Rattle.quilt_blocks.proofs.Adding.{part_at}
use Rattle.quilt_region.specs.Windows.{IsCutOut, known_colour, records_within}
use Rattle.quilt_region.proofs.Beside.{wider, read_colour, beside_colour, blocks_equal, blocks_differ, if_err_weaker}
use Rattle.quilt_region.proofs.Parts.{HasColours-added}
use Rattle.quilt_region.proofs.fill.+put_around.Goals as goal

pub returns-then-eq-clause-colours : goal.returns-then-eq-clause-colours
returns-then-eq-clause-colours t c =
    let n = c.args.level in
    let k = c.args.known.now in
    let same = blocks_equal c.args.b k.read (c.if-eq.ensures {u = tt}) in
    on_ok_weaker c.put_records.result
    (λ law g is has. law g (known_colour n g k) (is ∙ ap (records_within n c.args.layer g) (sym same))
    (λ p held. read_colour n k g p (subst (λ (b : Block). Holds b p) same held)) has)
    c.put_records.ensures.colours

pub returns-then-eq-clause-sound : goal.returns-then-eq-clause-sound
returns-then-eq-clause-sound t c =
    let n = c.args.level in
    let k = c.args.known.now in
    let same = blocks_equal c.args.b k.read (c.if-eq.ensures {u = tt}) in
    if_err_weaker c.put_records.result
    (λ e law g is out. law g (is ∙ ap (records_within n c.args.layer g) (sym same)) (subst (IsCutOut n g) (sym same) out))
    c.put_records.ensures.sound

pub covers-requires : goal.covers-requires
covers-requires t c = IsBlock-up c.args.level 12 c.args.b c.requires.level.1 c.requires.block

pub quarters-q-items-requires-clause-valid : goal.quarters-q-items-requires-clause-valid
quarters-q-items-requires-clause-valid t c = IsBlock-up c.args.level 12 c.args.b c.requires.level.1 c.requires.block

pub quarters-q-items-requires-clause-wide : goal.quarters-q-items-requires-clause-wide
quarters-q-items-requires-clause-wide t c =
    let n = c.args.level in
    let k = c.args.known.now in
    let lt = wider n c.args.b k.read c.requires.block c.requires.known.read c.requires.wide
    (Holds-from c.args.b (corner k.read) (sym (c.if-not-covers.ensures {u = tt}))) (blocks_differ c.args.b k.read (c.if-eq.ensures {u = tt})) in
    let pos = side_pos n k.read c.requires.known.read in
    omega arith

pub put_around-requires : goal.put_around-requires
put_around-requires t c =
    let n = c.args.level in
    let k = c.args.known.now in
    let inv = c.loop-q.invariant in
    let lt = wider n c.args.b k.read c.requires.block c.requires.known.read c.requires.wide
    (Holds-from c.args.b (corner k.read) (sym (c.if-not-covers.ensures {u = tt}))) (blocks_differ c.args.b k.read (c.if-eq.ensures {u = tt})) in
    let pos = side_pos n k.read c.requires.known.read in
    let twice = twice_le n k.read c.args.b c.requires.known.read c.requires.block lt in
    let q = part_at n c.args.b c.quarters-q-items.result c.loop-q.q-index (record { y = 0; x = 0; side = 0 }) c.requires.level.1 c.requires.block
    (omega arith) c.quarters-q-items.ensures.value c.loop-q-test.true in
    let smaller = q.smaller in
    let half = q.half in
    (omega arith, (c.requires.layer, (c.requires.level, (c.requires.known, (inv.level, (q.block, (omega arith, inv.long ∙ sym q.from)))))))

pub loop-q-preserved : goal.loop-q-preserved
loop-q-preserved t c =
    let n = c.args.level in
    let k = c.args.known.now in
    let inv = c.loop-q.invariant in
    let lt = wider n c.args.b k.read c.requires.block c.requires.known.read c.requires.wide
    (Holds-from c.args.b (corner k.read) (sym (c.if-not-covers.ensures {u = tt}))) (blocks_differ c.args.b k.read (c.if-eq.ensures {u = tt})) in
    let pos = side_pos n k.read c.requires.known.read in
    let q = part_at n c.args.b c.quarters-q-items.result c.loop-q.q-index (record { y = 0; x = 0; side = 0 }) c.requires.level.1 c.requires.block
    (omega arith) c.quarters-q-items.ensures.value c.loop-q-test.true in
    let more = c.in_ok-put_around.ensures in
    record {
      level = more.level;
      long = more.end ∙ q.to;
      colours = λ g is has. more.colours g is (inv.colours g is has);
    }

pub returns-clause-end : goal.returns-clause-end
returns-clause-end t c =
    let n = c.args.level in
    let k = c.args.known.now in
    let b = c.args.b in
    let lt = wider n b k.read c.requires.block c.requires.known.read c.requires.wide
    (Holds-from b (corner k.read) (sym (c.if-not-covers.ensures {u = tt}))) (blocks_differ b k.read (c.if-eq.ensures {u = tt})) in
    let pos = side_pos n k.read c.requires.known.read in
    let four : c.loop-q.q-index ≡ 4 = omega arith in
    let codes = half_codes n b c.requires.block c.requires.level.1 (omega arith) in
    let all = codes.all in
    c.loop-q.invariant.long ∙ ap (λ i. code_from b + i * (b.side / 2 * (b.side / 2))) four ∙ sym all

pub colour_beside-requires : goal.colour_beside-requires
colour_beside-requires t c = IsBlock-up c.args.level 12 c.args.known.now.top c.requires.level.1 c.requires.known.top

pub put_one-requires-clause-block : goal.put_one-requires-clause-block
put_one-requires-clause-block t c = subst (λ (n : ℕ). IsBlock n c.args.b) (sym c.requires.same_level) c.requires.block

pub returns-then-not-covers-clause-colours : goal.returns-then-not-covers-clause-colours
returns-then-not-covers-clause-colours t c =
    let n = c.args.level in
    let k = c.args.known.now in
    on_ok_weaker c.put_one.result
    (λ law g is.
    HasColours-added _ _ (known_colour n g k) c.args.maker.now.colours c.put_one.new.maker.colours c.requires.same_level
    (law (known_colour n g k) (λ p held. beside_colour n k c.args.b c.requires.known c.requires.block c.requires.wide
    (sym (c.if-not-covers.ensures {u = tt})) g p held ∙ sym c.colour_beside.ensures)))
    c.put_one.ensures.colours

pub returns-then-not-covers-clause-sound : goal.returns-then-not-covers-clause-sound
returns-then-not-covers-clause-sound t c = if_err_weaker c.put_one.result (λ e law g is out. law) c.put_one.ensures.sound
