use Rattle.std.proofs.Common.{◌≡◌, ℕ, ◌*◌, List, [], ◌∷◌, ◌++◌, length, replicate, sym, ◌∙◌, ap, ap₂, subst, arith, length-append}
use Rattle.std.proofs.lemmas.List.{map-append, append-nil, length-replicate}
use Rattle.quilt_types.specs.declared.plane.Block.{Block}
use Rattle.quilt_types.specs.Plane.{IsBlock}
use Rattle.quilt_blocks.specs.declared.leaf.Leaf.{Leaf}
use Rattle.quilt_blocks.specs.Cutting.{leaf_pair}
use Rattle.quilt_blocks.specs.Painting.{Painted, colours_of}
use Rattle.quilt_blocks.specs.Listing.{IsGrowing, leaf_pairs}
use Rattle.quilt_blocks.proofs.Chains.{length-colours_of, colours_of-append}
use Rattle.quilt_blocks.proofs.Merging.{IsGrowing-push}
use Rattle.quilt_blocks.proofs.maker.Maker.push.Goals as goal

pub merge_last-requires-clause-growing : goal.merge_last-requires-clause-growing
merge_last-requires-clause-growing c =
    let n = c.self.inside.level in
    let items = c.self.inside.leaves.items in
    let e : Block × ℕ = (c.args.b, c.args.c.0) in
    let leaf : Leaf = record { block = c.args.b; colour = c.args.c } in
    let view = ap (λ (m : Painted). length m.colours) c.self.view_is in
    let long = length-colours_of (leaf_pairs items) in
    let next = c.requires.next in
    let same = ap (λ (m : Painted). m.level) c.self.view_is in
    let valid = subst (λ (k : ℕ). IsBlock k c.args.b) (sym same) c.requires.valid in
    subst (IsGrowing n) (sym (ap leaf_pairs c.in_ok-push.ensures.items ∙ map-append leaf_pair items (leaf ∷ [])))
    (IsGrowing-push n (leaf_pairs items) e c.self.invariant valid (omega arith) (omega arith))

painted : (c : goal.After-merge_last) → colours_of (leaf_pairs c.merge_last.new.leaves.items) ≡ c.args.self.now.colours
    ++ replicate (c.args.b.side * c.args.b.side) c.args.c.0
unfolding colours_of
painted c =
    let items = c.self.inside.leaves.items in
    let leaf : Leaf = record { block = c.args.b; colour = c.args.c } in
    c.merge_last.ensures.colours ∙ ap (λ (l : List Leaf). colours_of (leaf_pairs l)) c.in_ok-push.ensures.items
    ∙ ap colours_of (map-append leaf_pair items (leaf ∷ []))
    ∙ colours_of-append (leaf_pairs items) (leaf_pair leaf ∷ [])
    ∙ ap₂ (λ a b. a ++ b) (ap (λ (m : Painted). m.colours) c.self.view_is) (append-nil (replicate (c.args.b.side * c.args.b.side) c.args.c.0))

pub returns-clause-ok : goal.returns-clause-ok
returns-clause-ok c =
    let l = ap (λ (m : Painted). m.level) c.self.view_is in
    let p = painted c in
    λ i. record { level = l i; colours = p i }

pub returns-clause-end : goal.returns-clause-end
returns-clause-end c =
    let p = ap length (painted c) in
    let a = length-append c.args.self.now.colours (replicate (c.args.b.side * c.args.b.side) c.args.c.0) in
    let r = length-replicate (c.args.b.side * c.args.b.side) c.args.c.0 in
    let next = c.requires.next in
    omega arith
