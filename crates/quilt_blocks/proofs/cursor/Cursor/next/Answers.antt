use Rattle.std.proofs.Common.{◌≡◌, ℕ, ◌+◌, ◌^◌, ◌<◌, refl, sym, ◌∙◌, ap, ap₂, subst, arith, take}
use Rattle.std.proofs.lemmas.List.{take_all}
use Rattle.quilt_types.specs.declared.plane.Block.{Block}
use Rattle.quilt_loc.specs.Codes.{code_from}
use Rattle.quilt_blocks.specs.Cutting.{leaves_by_code, leaf_pair}
use Rattle.quilt_blocks.specs.Walk.{LeafWalk, IsLeafAt, pixel_count}
use Rattle.quilt_blocks.proofs.Chains.{size_of-take_more, pixels_in, Follows-place, Follows-member, member_pos}
use Rattle.quilt_blocks.proofs.Cuts.{leaves_run, leaves_members}
use Rattle.quilt_blocks.proofs.cursor.Cursor.next.Goals as goal

pub returns-then-self-len-clause-whole : goal.returns-then-self-len-clause-whole
returns-then-self-len-clause-whole c =
    let n = c.self.inside.list.now.level in
    let g = c.self.inside.list.now.grid in
    let r = c.len.ensures.raster in
    let run = leaves_run n g r.most in
    let s = run.size in
    let all : take c.self.inside.place (leaves_by_code n g) ≡ leaves_by_code n g = take_all c.self.inside.place (leaves_by_code n g) (omega arith) in
    let at : pixel_count (take c.self.inside.place (leaves_by_code n g)) ≡ 4 ^ n = ap pixel_count all ∙ omega arith in
    let e = subst (λ (w : LeafWalk). w.at ≡ 4 ^ w.level) c.self.view_is at in
    (λ _. e, λ _. refl)

here : (c : goal.After-self-1)
    → IsLeafAt c.self.inside.list.now.level c.self.inside.list.now.grid
    (pixel_count (take c.self.inside.place (leaves_by_code c.self.inside.list.now.level c.self.inside.list.now.grid))) (leaf_pair c.leaf-leaf.result)
here c =
    let n = c.self.inside.list.now.level in
    let g = c.self.inside.list.now.grid in
    let k = c.self.inside.place in
    let e = leaf_pair c.leaf-leaf.result in
    let v = c.leaf-leaf.ensures.value in
    let inv = c.self.invariant in
    let l = c.len.ensures.value in
    let r = c.len.ensures.raster in
    let run = leaves_run n g r.most in
    let from = Follows-place n 0 (leaves_by_code n g) k e run.follows (omega arith) in
    record {
      member = (leaves_members n g e).0 (k, omega arith, sym v);
      block = c.leaf-leaf.ensures.block;
      from = ap (λ (z : Block × ℕ). code_from z.0) v ∙ from ∙ (omega arith);
      colour = c.leaf-leaf.ensures.colour;
    }

pub returns-clause-leaf : goal.returns-clause-leaf
returns-clause-leaf c = subst (λ (w : LeafWalk). IsLeafAt w.level w.grid w.at (leaf_pair c.leaf-leaf.result)) c.self.view_is (here c)

pub returns-clause-whole : goal.returns-clause-whole
returns-clause-whole c =
    let n = c.self.inside.list.now.level in
    let g = c.self.inside.list.now.grid in
    let k = c.self.inside.place in
    let e = leaf_pair c.leaf-leaf.result in
    let h = here c in
    let f = h.from in
    let v = c.leaf-leaf.ensures.value in
    let l = c.len.ensures.value in
    let r = c.len.ensures.raster in
    let inv = c.self.invariant in
    let run = leaves_run n g r.most in
    let s = run.size in
    let m = Follows-member n 0 (leaves_by_code n g) e run.follows (k, omega arith, sym v) in
    let to = m.to in
    let p = member_pos n e.0 m.block in
    let less : pixel_count (take k (leaves_by_code n g)) < 4 ^ n = omega arith in
    let less' = subst (λ (w : LeafWalk). w.at < 4 ^ w.level) c.self.view_is less in
    (λ t. cc, λ t. absurd (omega arith))

pub returns-clause-at : goal.returns-clause-at
returns-clause-at c =
    let n = c.self.inside.list.now.level in
    let g = c.self.inside.list.now.grid in
    let k = c.self.inside.place in
    let e = leaf_pair c.leaf-leaf.result in
    let v = c.leaf-leaf.ensures.value in
    let l = c.len.ensures.value in
    let inv = c.self.invariant in
    size_of-take_more (leaves_by_code n g) k e (omega arith)
    ∙ ap₂ (λ a b. a + b) (ap (λ (w : LeafWalk). w.at) c.self.view_is) (ap pixels_in (sym v))
