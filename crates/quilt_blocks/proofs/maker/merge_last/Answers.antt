use Rattle.std.proofs.Common.{◌≡◌, ◌+◌, ◌-◌, List, [], ◌∷◌, ◌++◌, length, set, refl, sym, ◌∙◌, ap, subst, arith, length-append}
use Rattle.quilt_blocks.specs.declared.leaf.Leaf.{Leaf}
use Rattle.quilt_blocks.specs.Cutting.{leaf_pair}
use Rattle.quilt_blocks.specs.Painting.{colours_of}
use Rattle.quilt_blocks.specs.Listing.{IsGrowing, EndsInQuarters, leaf_pairs}
use Rattle.quilt_blocks.proofs.Merging.{IsGrowing-merge, IsUnmerged-end, colours_of-siblings, siblings}
use Rattle.std.proofs.lemmas.List.{length-map}
use Rattle.quilt_blocks.proofs.Places.{merged_items}
use Rattle.quilt_blocks.proofs.maker.merge_last.Goals as goal

pub loop-whole-preserved : goal.loop-whole-preserved
loop-whole-preserved c =
    let n = c.args.level in
    let items = c.loop-whole.leaves.items in
    let w = leaf_pair c.in-Some.whole in
    let k = c.len-first.result - 4 in
    let d = c.deref.ensures.value in
    let q : EndsInQuarters n (leaf_pairs items) w = subst (λ (l : List Leaf). EndsInQuarters n (leaf_pairs l) w) d c.in-Some.ensures.some in
    let long : length (leaf_pairs items) ≡ length q.front + 4 = ap length q.split ∙ length-append q.front (siblings w) in
    let l = length-map items leaf_pair in
    let e : leaf_pairs (set c.truncate.new.self.items k c.in-Some.whole) ≡ q.front ++ w ∷ [] =
    ap (λ (l : List Leaf). leaf_pairs (set l k c.in-Some.whole)) c.truncate.ensures.items ∙ merged_items n items c.in-Some.whole k (omega arith) q in
    record {
      growing = subst (IsGrowing n) (sym e) (IsGrowing-merge n (leaf_pairs items) w c.loop-whole.invariant.growing q);
      colours = ap colours_of e ∙ sym (colours_of-siblings n w q.front q.block q.wide) ∙ ap colours_of (sym q.split) ∙ c.loop-whole.invariant.colours;
    }

pub returns-clause-making : goal.returns-clause-making
returns-clause-making c =
    let n = c.args.level in
    let items = c.loop-whole.leaves.items in
    let g = c.loop-whole.invariant.growing in
    record {
      least = c.requires.least;
      most = c.requires.most;
      colours = g.colours;
      follows = g.follows;
      unmerged = IsUnmerged-end n c.requires.most (leaf_pairs items) g
          (λ w q. c.in_default.ensures.none refl w (subst (λ (l : List Leaf). EndsInQuarters n (leaf_pairs l) w) (sym c.deref.ensures.value) q));
    }
