use Rattle.std.proofs.Common.{◌-◌, ◌≤◌, length, get_or, subst, arith}
use Rattle.quilt_loc.proofs.Blocks.{IsBlock-up, side_most}
use Rattle.quilt_loc.proofs.Quartered.{side_le}
use Rattle.std.proofs.lemmas.List.{length-map}
use Rattle.quilt_blocks.specs.declared.leaf.Leaf.{Leaf}
use Rattle.quilt_blocks.specs.Cutting.{leaf_pair}
use Rattle.quilt_blocks.specs.Listing.{leaf_pairs, EndsInQuarters}
use Rattle.quilt_blocks.proofs.Places.{followed_block}
use Rattle.quilt_blocks.proofs.LastQuarter.{made_of, ends_in, is_alike, place, alike_from, last_from, same_from}
use Rattle.quilt_blocks.proofs.maker.whole_of_last.Goals.{else-is_alike-via-then-is_alike+then-is_alike-2+else-is_alike-3}
use Rattle.quilt_blocks.proofs.maker.whole_of_last.Goals.{else-is_alike-via-then-is_alike+else-is_alike-2, else-is_alike-via-else-is_alike}
use Rattle.quilt_blocks.proofs.maker.whole_of_last.Goals as goal

abbrev none : Leaf
none = record { block = record { y = 0; x = 0; side = 0 }; colour = record { 0 = 0 } }

pub is_last_quarter-requires : goal.is_last_quarter-requires
is_last_quarter-requires c =
    let items = c.args.leaves.now in
    let i = length items - 1 in
    IsBlock-up c.args.level 12 (get_or items i none).block c.requires.most (followed_block c.args.level items i none c.requires.follows (omega arith))

pub overflow_mul-block : goal.overflow_mul-block
overflow_mul-block c =
    let items = c.args.leaves.now in
    let i = length items - 1 in
    let top = side_le c.args.level (get_or items i none).block (followed_block c.args.level items i none c.requires.follows (omega arith)) in
    let most = side_most c.args.level c.requires.most in
    omega arith

pub returns-then-is_alike-3-clause-some : goal.returns-then-is_alike-3-clause-some
returns-then-is_alike-3-clause-some c =
    let n = c.args.level in
    let items = c.args.leaves.now in
    let k = length items - 4 in
    let l = length-map items leaf_pair in
    let long : 4 ≤ length items = omega arith in
    let last = c.is_last_quarter.ensures.0 (let f = c.if-not-is_last_quarter.false in cc) in
    let a = alike_from items none long last (c.is_alike.ensures.0 c.if-is_alike.true) (c.is_alike-then-is_alike.ensures.0 c.if-is_alike-2.true)
    (c.is_alike-then-is_alike-2.ensures.0 c.if-is_alike-3.true) in
    subst (λ z. EndsInQuarters n (leaf_pairs items) (made_of z)) (place items none long 1 3 (omega arith) (omega arith))
    (ends_in n c.requires.most (leaf_pairs items) (leaf_pair none) k (omega arith) c.requires.follows a)

pub returns-then-not-is_last_quarter-clause-none : goal.returns-then-not-is_last_quarter-clause-none
returns-then-not-is_last_quarter-clause-none c _ e ends =
    let items = c.args.leaves.now in
    let l = length-map items leaf_pair in
    let a = is_alike c.args.level (leaf_pairs items) e (leaf_pair none) (length items - 4) (omega arith) ends in
    let t = c.is_last_quarter.ensures.1 (last_from items none (omega arith) a) in
    let f = c.if-not-is_last_quarter.true in cc

pub returns-else-is_alike-clause-none : goal.returns-else-is_alike-clause-none
returns-else-is_alike-clause-none c _ e ends =
    let items = c.args.leaves.now in
    let l = length-map items leaf_pair in
    let long : 4 ≤ length items = omega arith in
    let a = is_alike c.args.level (leaf_pairs items) e (leaf_pair none) (length items - 4) (omega arith) ends in
    elim c.else-is_alike.branch [
      | else-is_alike-via-then-is_alike+then-is_alike-2+else-is_alike-3 w ↦ let t =
          w.is_alike-then-is_alike-2.ensures.1 (same_from items none long 4 0 (omega arith) (omega arith) a) in let f = w.if-is_alike-3.false in cc
      | else-is_alike-via-then-is_alike+else-is_alike-2 w ↦ let t =
          w.is_alike-then-is_alike.ensures.1 (same_from items none long 3 1 (omega arith) (omega arith) a) in let f = w.if-is_alike-2.false in cc
      | else-is_alike-via-else-is_alike w ↦ let t = c.is_alike.ensures.1 (same_from items none long 2 2 (omega arith) (omega arith) a) in
          let f = w.if-is_alike.false in cc
    ]
