use Rattle.std.proofs.Common.{ℕ, ◌+◌, ◌*◌, [], ◌∷◌, ◌++◌, List, Contains, inl, inr, ⊎_elim, arith, refl, subst, sym, ◌∙◌, ap}
use Rattle.quilt_types.specs.declared.plane.Block.{Block}
use Rattle.quilt_types.specs.Plane.{IsBlock}
use Rattle.quilt_blocks.specs.Cutting.{leaves_by_code, leaf_pair}
use Rattle.quilt_blocks.specs.Walk.{IsLeafAt}
use Rattle.quilt_blocks.proofs.Paired.{zip_some}
use Rattle.quilt_blocks.proofs.Chains.{member_pos}
use Rattle.quilt_record.specs.declared.record.Record.{Record}
use Rattle.quilt_spell.specs.OfLayer.{leaf_record}
use Rattle.quilt_region.proofs.Leaves.{only_test, only_apart}
use Rattle.quilt_region.proofs.InStep.{has_passed, both_end, none_left, none_so_far, one_passes, one_fails, same_pass, first_alone, second_alone}
use Rattle.quilt_region.proofs.InStep.{larger_from, larger_block, larger_alone, go_on_at, leaves_equal, leaves_differ}
use Rattle.quilt_region.proofs.comparison.edits_between.Goals as goal

pub loop-a-init : goal.loop-a-init
loop-a-init c =
    let n = c.args.old.now.level in record {
      old_level = c.new-olds.ensures.level;
      old_grid = c.new-olds.ensures.grid;
      new_level = c.new-news.ensures.level ∙ sym c.requires.level;
      new_grid = c.new-news.ensures.grid;
      place = c.new-olds.ensures.at ∙ sym c.new-news.ensures.at;
      removed = none_so_far n c.args.layer c.args.old.now.grid c.args.new.now.grid c.new-remove.result c.new-olds.result.rest c.new-remove.ensures
          c.new-olds.ensures.rest;
      added = none_so_far n c.args.layer c.args.new.now.grid c.args.old.now.grid c.new-add.result c.new-news.result.rest c.new-add.ensures
          (c.new-news.ensures.rest ∙ ap (λ (k : ℕ). leaves_by_code k c.args.new.now.grid) (sym c.requires.level));
    }

pub loop-a-smaller : goal.loop-a-smaller
loop-a-smaller c =
    let n = c.args.old.now.level in
    let inv = c.loop-a.invariant in
    let e = zip_some c.next.result c.next-in-loop-a.result c.in-Some.a c.in-Some.b (sym c.zip.ensures ∙ c.in-Some.is) in
    let p = has_passed n c.args.old.now.grid c.loop-a.olds c.next.new.self c.next.result c.in-Some.a c.level-level.ensures.raster.most e.0
    inv.old_level inv.old_grid c.next.ensures.first c.next.ensures.leaf c.next.ensures.at c.next.ensures.level c.next.ensures.grid in
    let more = p.more in
    let room = p.room in
    omega arith

pub loop-a-preserved : goal.loop-a-preserved
loop-a-preserved c =
    let n = c.args.old.now.level in
    let g = c.args.old.now.grid in
    let h = c.args.new.now.grid in
    let le = c.level-level.ensures.raster.most in
    let inv = c.loop-a.invariant in
    let a = c.in-Some.a in
    let b = c.in-Some.b in
    let e = zip_some c.next.result c.next-in-loop-a.result a b (sym c.zip.ensures ∙ c.in-Some.is) in
    let p = has_passed n g c.loop-a.olds c.next.new.self c.next.result a le e.0 inv.old_level inv.old_grid c.next.ensures.first c.next.ensures.leaf
    c.next.ensures.at c.next.ensures.level c.next.ensures.grid in
    let q = has_passed n h c.loop-a.news c.next-in-loop-a.new.self c.next-in-loop-a.result b le e.1 inv.new_level inv.new_grid
    c.next-in-loop-a.ensures.first c.next-in-loop-a.ensures.leaf c.next-in-loop-a.ensures.at c.next-in-loop-a.ensures.level c.next-in-loop-a.ensures.grid in
    let same = leaves_equal a b (c.if-ne.ensures {u = tt}) in
    let second = subst (λ (i : ℕ). IsLeafAt n h i (leaf_pair b)) (sym inv.place) q.leaf in
    let both = same_pass n g h le c.loop-a.olds.at a b p.leaf second same in
    record {
      old_level = p.level;
      old_grid = p.grid;
      new_level = q.level;
      new_grid = q.grid;
      place = p.at ∙ ap (λ (d : Block × ℕ). c.loop-a.olds.at + d.0.side * d.0.side) same ∙ ap (λ i. i + b.block.side * b.block.side) inv.place ∙ sym q.at;
      removed = one_fails n c.args.layer (only_test n h) c.loop-a.remove _ (leaf_pair a) c.loop-a.olds.rest c.next.new.self.rest p.rest both.0 inv.removed;
      added = one_fails n c.args.layer (only_test n g) c.loop-a.add _ (leaf_pair b) c.loop-a.news.rest c.next-in-loop-a.new.self.rest q.rest both.1 inv.added;
    }

pub add_up_to-requires-clause-block : goal.add_up_to-requires-clause-block
add_up_to-requires-clause-block c =
    let n = c.args.old.now.level in
    let g = c.args.old.now.grid in
    let h = c.args.new.now.grid in
    let le = c.level-level.ensures.raster.most in
    let inv = c.loop-a.invariant in
    let a = c.in-Some.a in
    let b = c.in-Some.b in
    let e = zip_some c.next.result c.next-in-loop-a.result a b (sym c.zip.ensures ∙ c.in-Some.is) in
    let p = has_passed n g c.loop-a.olds c.next.new.self c.next.result a le e.0 inv.old_level inv.old_grid c.next.ensures.first c.next.ensures.leaf
    c.next.ensures.at c.next.ensures.level c.next.ensures.grid in
    let q = has_passed n h c.loop-a.news c.next-in-loop-a.new.self c.next-in-loop-a.result b le e.1 inv.new_level inv.new_grid
    c.next-in-loop-a.ensures.first c.next-in-loop-a.ensures.leaf c.next-in-loop-a.ensures.at c.next-in-loop-a.ensures.level c.next-in-loop-a.ensures.grid in
    let second = subst (λ (i : ℕ). IsLeafAt n h i (leaf_pair b)) (sym inv.place) q.leaf in
    subst (λ (k : ℕ). IsBlock k c.larger_of-whole.result) (sym c.level-level.ensures.value)
    (larger_block n g h le c.loop-a.olds.at a b p.leaf second c.larger_of-whole.result c.larger_of-whole.ensures.one)

pub add_up_to-requires-clause-at : goal.add_up_to-requires-clause-at
add_up_to-requires-clause-at c =
    let n = c.args.old.now.level in
    let g = c.args.old.now.grid in
    let h = c.args.new.now.grid in
    let le = c.level-level.ensures.raster.most in
    let inv = c.loop-a.invariant in
    let a = c.in-Some.a in
    let b = c.in-Some.b in
    let e = zip_some c.next.result c.next-in-loop-a.result a b (sym c.zip.ensures ∙ c.in-Some.is) in
    let p = has_passed n g c.loop-a.olds c.next.new.self c.next.result a le e.0 inv.old_level inv.old_grid c.next.ensures.first c.next.ensures.leaf
    c.next.ensures.at c.next.ensures.level c.next.ensures.grid in
    let q = has_passed n h c.loop-a.news c.next-in-loop-a.new.self c.next-in-loop-a.result b le e.1 inv.new_level inv.new_grid
    c.next-in-loop-a.ensures.first c.next-in-loop-a.ensures.leaf c.next-in-loop-a.ensures.at c.next-in-loop-a.ensures.level c.next-in-loop-a.ensures.grid in
    let second = subst (λ (i : ℕ). IsLeafAt n h i (leaf_pair b)) (sym inv.place) q.leaf in
    p.at ∙ ap (λ i. i + a.block.side * a.block.side) (sym (larger_from n g h le c.loop-a.olds.at a b p.leaf second c.larger_of-whole.result c.larger_of-whole.ensures.one))

pub add_up_to-requires-then-ne-clause-at : goal.add_up_to-requires-then-ne-clause-at
add_up_to-requires-then-ne-clause-at c =
    let n = c.args.old.now.level in
    let g = c.args.old.now.grid in
    let h = c.args.new.now.grid in
    let le = c.level-level.ensures.raster.most in
    let inv = c.loop-a.invariant in
    let a = c.in-Some.a in
    let b = c.in-Some.b in
    let e = zip_some c.next.result c.next-in-loop-a.result a b (sym c.zip.ensures ∙ c.in-Some.is) in
    let p = has_passed n g c.loop-a.olds c.next.new.self c.next.result a le e.0 inv.old_level inv.old_grid c.next.ensures.first c.next.ensures.leaf
    c.next.ensures.at c.next.ensures.level c.next.ensures.grid in
    let q = has_passed n h c.loop-a.news c.next-in-loop-a.new.self c.next-in-loop-a.result b le e.1 inv.new_level inv.new_grid
    c.next-in-loop-a.ensures.first c.next-in-loop-a.ensures.leaf c.next-in-loop-a.ensures.at c.next-in-loop-a.ensures.level c.next-in-loop-a.ensures.grid in
    let second = subst (λ (i : ℕ). IsLeafAt n h i (leaf_pair b)) (sym inv.place) q.leaf in
    q.at ∙ ap (λ i. i + b.block.side * b.block.side) (sym (larger_from n g h le c.loop-a.olds.at a b p.leaf second c.larger_of-whole.result c.larger_of-whole.ensures.one ∙ inv.place))

pub loop-a-smaller-in-Continue-branch-2 : goal.loop-a-smaller-in-Continue-branch-2
loop-a-smaller-in-Continue-branch-2 c =
    let n = c.args.old.now.level in
    let g = c.args.old.now.grid in
    let h = c.args.new.now.grid in
    let le = c.level-level.ensures.raster.most in
    let inv = c.loop-a.invariant in
    let a = c.in-Some.a in
    let b = c.in-Some.b in
    let e = zip_some c.next.result c.next-in-loop-a.result a b (sym c.zip.ensures ∙ c.in-Some.is) in
    let p = has_passed n g c.loop-a.olds c.next.new.self c.next.result a le e.0 inv.old_level inv.old_grid c.next.ensures.first c.next.ensures.leaf
    c.next.ensures.at c.next.ensures.level c.next.ensures.grid in
    let q = has_passed n h c.loop-a.news c.next-in-loop-a.new.self c.next-in-loop-a.result b le e.1 inv.new_level inv.new_grid
    c.next-in-loop-a.ensures.first c.next-in-loop-a.ensures.leaf c.next-in-loop-a.ensures.at c.next-in-loop-a.ensures.level c.next-in-loop-a.ensures.grid in
    let second = subst (λ (i : ℕ). IsLeafAt n h i (leaf_pair b)) (sym inv.place) q.leaf in
    let from = larger_from n g h le c.loop-a.olds.at a b p.leaf second c.larger_of-whole.result c.larger_of-whole.ensures.one in
    let wide = larger_block n g h le c.loop-a.olds.at a b p.leaf second c.larger_of-whole.result c.larger_of-whole.ensures.one in
    let some = member_pos n c.larger_of-whole.result wide in
    let end = c.in_ok-add_up_to.ensures.at in
    let room = p.room in
    omega arith

pub loop-a-preserved-in-Continue-branch-2 : goal.loop-a-preserved-in-Continue-branch-2
loop-a-preserved-in-Continue-branch-2 c =
    let n = c.args.old.now.level in
    let g = c.args.old.now.grid in
    let h = c.args.new.now.grid in
    let le = c.level-level.ensures.raster.most in
    let inv = c.loop-a.invariant in
    let a = c.in-Some.a in
    let b = c.in-Some.b in
    let e = zip_some c.next.result c.next-in-loop-a.result a b (sym c.zip.ensures ∙ c.in-Some.is) in
    let p = has_passed n g c.loop-a.olds c.next.new.self c.next.result a le e.0 inv.old_level inv.old_grid c.next.ensures.first c.next.ensures.leaf
    c.next.ensures.at c.next.ensures.level c.next.ensures.grid in
    let q = has_passed n h c.loop-a.news c.next-in-loop-a.new.self c.next-in-loop-a.result b le e.1 inv.new_level inv.new_grid
    c.next-in-loop-a.ensures.first c.next-in-loop-a.ensures.leaf c.next-in-loop-a.ensures.at c.next-in-loop-a.ensures.level c.next-in-loop-a.ensures.grid in
    let second = subst (λ (i : ℕ). IsLeafAt n h i (leaf_pair b)) (sym inv.place) q.leaf in
    let layer = c.args.layer in
    let level = c.level-level.ensures.value in
    let differ = leaves_differ a b (c.if-ne.ensures {u = tt}) in
    let whole = c.larger_of-whole.result in
    let one = c.larger_of-whole.ensures.one in
    let old_more = c.in_ok-add_up_to.ensures in
    let new_more = c.in_ok-add_up_to-2.ensures in
    let old_go = go_on_at c.level-level.result n layer c.next.new.self.grid g whole (c.loop-a.remove ++ leaf_record c.level-level.result layer (leaf_pair a) ∷ [])
    c.add_up_to.new.records c.next.new.self.rest c.add_up_to.new.leaves.rest level p.grid old_more.records in
    let new_go = go_on_at c.level-level.result n layer c.next-in-loop-a.new.self.grid h whole (c.loop-a.add ++ leaf_record c.level-level.result layer (leaf_pair b) ∷ [])
    c.add_up_to-then-ne.new.records c.next-in-loop-a.new.self.rest c.add_up_to-then-ne.new.leaves.rest level q.grid new_more.records in
    let old_record = ap (λ (k : ℕ). leaf_record k layer (leaf_pair a)) level in
    let new_record = ap (λ (k : ℕ). leaf_record k layer (leaf_pair b)) level in
    record {
      old_level = old_more.level ∙ p.level;
      old_grid = old_more.grid ∙ p.grid;
      new_level = new_more.level ∙ q.level;
      new_grid = new_more.grid ∙ q.grid;
      place = old_more.at ∙ sym new_more.at;
      removed =
          old_go (only_test n h) _ (larger_alone n g h le c.loop-a.olds.at a b p.leaf second whole one)
          (one_passes n layer (only_test n h) c.loop-a.remove _ _ _ (leaf_pair a) c.loop-a.olds.rest c.next.new.self.rest refl old_record p.rest
          (first_alone n g h le c.loop-a.olds.at a b p.leaf second differ) inv.removed);
      added =
          new_go (only_test n g) _ (larger_alone n h g le c.loop-a.olds.at b a second p.leaf whole (⊎_elim inr inl one))
          (one_passes n layer (only_test n g) c.loop-a.add _ _ _ (leaf_pair b) c.loop-a.news.rest c.next-in-loop-a.new.self.rest refl new_record q.rest
          (second_alone n g h le c.loop-a.olds.at a b p.leaf second differ) inv.added);
    }

pub invariant_of-result : goal.invariant_of-result
invariant_of-result c =
    let n = c.args.old.now.level in
    let layer = c.args.layer in
    let g = c.args.old.now.grid in
    let h = c.args.new.now.grid in
    let inv = c.loop-a.invariant in
    let end = both_end n c.loop-a.olds c.loop-a.news c.next.result c.next-in-loop-a.result (sym c.zip.ensures ∙ c.in_default.is)
    inv.old_level inv.new_level inv.place c.next.ensures.end c.next.ensures.whole c.next-in-loop-a.ensures.end c.next-in-loop-a.ensures.whole in
    let removed = none_left n layer (only_test n h) c.loop-a.remove _ c.loop-a.olds.rest end.0 inv.removed in
    let added = none_left n layer (only_test n g) c.loop-a.add _ c.loop-a.news.rest end.1 inv.added in
    record {
      apart = λ r x y. only_apart n layer g h r c.level-level.ensures.raster.most (subst (λ (l : List Record). Contains l r) removed x)
          (subst (λ (l : List Record). Contains l r) added y);
    }

pub returns : goal.returns
returns c =
    let n = c.args.old.now.level in
    let layer = c.args.layer in
    let g = c.args.old.now.grid in
    let h = c.args.new.now.grid in
    let inv = c.loop-a.invariant in
    let end = both_end n c.loop-a.olds c.loop-a.news c.next.result c.next-in-loop-a.result (sym c.zip.ensures ∙ c.in_default.is)
    inv.old_level inv.new_level inv.place c.next.ensures.end c.next.ensures.whole c.next-in-loop-a.ensures.end c.next-in-loop-a.ensures.whole in
    record {
      remove = none_left n layer (only_test n h) c.loop-a.remove _ c.loop-a.olds.rest end.0 inv.removed;
      add = none_left n layer (only_test n g) c.loop-a.add _ c.loop-a.news.rest end.1 inv.added;
    }
