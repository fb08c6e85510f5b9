use Rattle.std.proofs.Common.{ℕ, ◌^◌, ◌<◌, List, [], ◌∷◌, ◌++◌, refl, sym, subst, ◌∙◌, ap, arith}
use Rattle.quilt_blocks.specs.Cutting.{leaf_pair}
use Rattle.quilt_loc.specs.Codes.{code_from, code_to}
use Rattle.quilt_blocks.proofs.Chains.{member_pos}
use Rattle.quilt_record.specs.declared.record.Record.{Record}
use Rattle.quilt_region.specs.Plans.{AreSoFar}
use Rattle.quilt_region.proofs.Nested.{ends_within}
use Rattle.quilt_region.proofs.InStep.{side_small, code_room, squares, at_same, one_passes}
use Rattle.quilt_region.proofs.comparison.add_up_to.Goals as goal

pub area_of-size-requires : goal.area_of-size-requires
area_of-size-requires c = side_small c.args.level c.args.whole c.requires.level.1 c.requires.block

pub area_of-done-requires : goal.area_of-done-requires
area_of-done-requires c = let s = side_small c.args.level c.args.whole c.requires.level.1 c.requires.block in let i = c.requires.inside in omega arith

pub loop-done-init : goal.loop-done-init
loop-done-init c =
    let first = member_pos c.args.level c.args.first.block c.requires.leaf in
    let less = squares c.args.first.block.side c.args.whole.side c.requires.inside in
    let size = c.area_of-size.ensures in
    let done = c.area_of-done.ensures in
    let at = c.requires.at in
    record {
      level = refl;
      grid = refl;
      some = omega arith;
      most = omega arith;
      at = omega arith;
      made = λ p all each so.
          subst (λ (l : List Record). AreSoFar c.args.level c.args.layer p l c.args.leaves.now.rest all)
          (sym (c.in_ok-push.ensures.ok ∙ ap (λ (r : Record). c.args.records.now ++ r ∷ []) (c.region_record.ensures.written []))) so;
    }

pub returns-in_default-clause-at : goal.returns-in_default-clause-at
returns-in_default-clause-at c =
    let n = c.args.level in
    let inv = c.loop-done.invariant in
    let end = c.in_default.ensures.whole.0 refl ∙ ap (λ (k : ℕ). 4 ^ k) (inv.level ∙ c.requires.same_level) in
    let room = code_room n c.args.whole c.requires.level.1 c.requires.block in
    let size = c.area_of-size.ensures in
    let at = inv.at in
    absurd (omega arith)

pub region_record-requires-in-loop-done-clause-block : goal.region_record-requires-in-loop-done-clause-block
region_record-requires-in-loop-done-clause-block c =
    let inv = c.loop-done.invariant in
    (at_same c.loop-done.leaves.level c.args.level c.loop-done.leaves.grid c.args.leaves.now.grid c.loop-done.leaves.at (leaf_pair c.in-Some.leaf)
    (inv.level ∙ c.requires.same_level) inv.grid c.in-Some.ensures.leaf).block

pub area_of-done-requires-in-loop-done : goal.area_of-done-requires-in-loop-done
area_of-done-requires-in-loop-done c =
    let inv = c.loop-done.invariant in
    side_small c.args.level c.in-Some.leaf.block c.requires.level.1
    (at_same c.loop-done.leaves.level c.args.level c.loop-done.leaves.grid c.args.leaves.now.grid c.loop-done.leaves.at (leaf_pair c.in-Some.leaf)
    (inv.level ∙ c.requires.same_level) inv.grid c.in-Some.ensures.leaf).block

pub loop-done-preserved : goal.loop-done-preserved
loop-done-preserved c =
    let n = c.args.level in
    let whole = c.args.whole in
    let inv = c.loop-done.invariant in
    let e = leaf_pair c.in-Some.leaf in
    let here = at_same c.loop-done.leaves.level n c.loop-done.leaves.grid c.args.leaves.now.grid c.loop-done.leaves.at e
    (inv.level ∙ c.requires.same_level) inv.grid c.in-Some.ensures.leaf in
    let from = here.from in
    let at = inv.at in
    let some = inv.some in
    let size = c.area_of-size.ensures in
    let area = c.area_of-done-in-loop-done.ensures in
    let wide = member_pos n e.0 here.block in
    let low : code_from whole < code_from e.0 = omega arith in
    let high : code_from e.0 < code_to whole = omega arith in
    let ends = ends_within n e.0 whole c.requires.level.1 here.block c.requires.block low (omega arith) high in
    let next = c.in-Some.ensures.at in
    record {
      level = c.in-Some.ensures.level ∙ inv.level;
      grid = c.in-Some.ensures.grid ∙ inv.grid;
      some = omega arith;
      most = omega arith;
      at = omega arith;
      made = λ p all each so.
          one_passes n c.args.layer p c.loop-done.records c.push-in-loop-done.new.self all c.region_record-in-loop-done.result e c.loop-done.leaves.rest c.next.new.self.rest
          c.in_ok-push-2.ensures.ok (c.region_record-in-loop-done.ensures.written [])
          c.in-Some.ensures.first (each e here.member low high) (inv.made p all each so);
    }
