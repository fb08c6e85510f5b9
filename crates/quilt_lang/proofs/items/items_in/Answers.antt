use Rattle.std.proofs.Common.{arith, [], flat_map, map, ℕ, ◌≡◌, ◌==◌, false, ◌∙◌, ap}
use Rattle.std.proofs.lemmas.List.{take_all}
use Rattle.std.proofs.lemmas.List.Elements.{All-nil}
use Rattle.std.proofs.lemmas.Grind.{common_steps}
use Rattle.quilt_words.specs.Items.{held, items_of}
use Rattle.quilt_lang.proofs.LineLaws.{whole_part}
use Rattle.quilt_lang.proofs.Takes.{so_far_first, so_far_next, all_of_it}
use Rattle.quilt_lang.proofs.items.items_in.Goals as goal

pub loop-piece-init : goal.loop-piece-init
loop-piece-init c =
    rw c.new-items.ensures.items
    (so_far_first c.args.level c.args.format c.new-lines.result (whole_part c.args.level [] (All-nil (λ (x : ℕ). (x == 10) ≡ false)))
    c.new-lines.ensures.level c.new-lines.ensures.empty)

pub loop-piece-preserved : goal.loop-piece-preserved
loop-piece-preserved c =
    let pieces = c.args.pieces.now in
    let next = so_far_next c.args.level c.args.format _ _ _ _ _ _ _ c.loop-piece.invariant c.in_ok-feed.ensures.level c.in_ok-feed.ensures.fed
    c.in_ok-take_items.ensures in
    grind (arith, common_steps, next)

pub returns : goal.returns
returns c = λ low.
    let pieces = c.args.pieces.now in
    all_of_it c.args.level c.args.format _ _ _ _ _ low c.loop-piece.invariant c.in_ok-take_items-2.ensures
    ∙ ap (λ ps. map (held c.args.format c.args.level) (items_of c.args.level (flat_map (λ piece. piece.now) ps)))
    (take_all c.loop-piece.piece-index pieces (omega arith))
