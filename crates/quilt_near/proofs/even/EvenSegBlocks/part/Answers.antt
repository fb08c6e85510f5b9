use Rattle.std.proofs.Common.{◌≡◌, ℕ, List, All, true, filter, sym, ◌∙◌, ap, subst}
use Rattle.quilt_types.specs.declared.plane.Seg.{Seg}
use Rattle.quilt_types.specs.Layers.{is_in_square}
use Rattle.quilt_types.specs.Segments.{meets, square}
use Rattle.quilt_near.proofs.Evens.{leaf_is, kept_inside}
use Rattle.quilt_near.proofs.even.EvenSegBlocks.part.Goals as goal

pub returns-in-Ok-clause-part : goal.returns-in-Ok-clause-part
returns-in-Ok-clause-part g c l s = (
  leaf_is _ _ _ l c.args.b s c.requires.block (c.requires.reached l s) c.if-self-b.false,
  c.in-Ok.ensures ∙ ap (λ (es : List (ℕ × Seg)). filter (λ e. meets e.1 (square c.args.b)) es) (sym s.listed),
)

pub returns-in-Ok-clause-part_of : goal.returns-in-Ok-clause-part_of
returns-in-Ok-clause-part_of g c =
    let P = λ (e : ℕ × Seg). is_in_square c.args.self.now.level e.1 ≡ true in
    subst (All P) (sym c.in-Ok.ensures) (kept_inside P (λ e. meets e.1 (square c.args.b)) c.args.self.now.segs c.args.self.now.inside)
