use Rattle.std.proofs.Common.{◌≡◌, ◌∙◌, ℕ, ap, arith, codes, refl, subst, sym}
use Rattle.std.proofs.lemmas.Result.{IfOk-weaker}
use Rattle.quilt_lang.specs.Trials.{Drawn, draw, drawn, drawn_line, small_line}
use Rattle.quilt_trial.specs.Drawing.{IsDrawn}
use Rattle.quilt_trial.proofs.draws.draw_line.Goals as goal

pub returns-in-0-clause-line : goal.returns-in-0-clause-line
returns-in-0-clause-line c = IfOk-weaker c.draw_rect.result _ _ (λ text so. so refl) c.draw_rect.ensures.line

pub returns-in-1-clause-line : goal.returns-in-1-clause-line
returns-in-1-clause-line c = IfOk-weaker c.draw_rect-in-1.result _ _ (λ text so. so refl) c.draw_rect-in-1.ensures.line

pub returns-in-2-clause-line : goal.returns-in-2-clause-line
returns-in-2-clause-line c = IfOk-weaker c.draw_numbered.result _ _ (λ text so. so refl refl) c.draw_numbered.ensures.line

pub returns-in-3-clause-line : goal.returns-in-3-clause-line
returns-in-3-clause-line c = IfOk-weaker c.draw_numbered-in-3.result _ _ (λ text so. so refl refl) c.draw_numbered-in-3.ensures.line

pub returns-in_default-clause-is : goal.returns-in_default-clause-is
returns-in_default-clause-is c =
    let s = c.args.side in
    let y = c.draw.new.self.state in
    let nine : c.draw.result ≡ 9 = omega arith in
    let is : draw 10 c.args.generator.now.state (drawn_line s) ≡ small_line (codes "area") (codes "ta") 4 y =
    ap (λ (z : ℕ). drawn_line s (drawn z 10) z) (sym c.draw.ensures.state) ∙ ap (λ (k : ℕ). drawn_line s k y) (sym c.draw.ensures.is ∙ nine) in
    IfOk-weaker c.draw_small-in_default.result _ _
    (λ text so. subst (λ (d : Drawn). IsDrawn text c.draw_small-in_default.new.generator.state d) (sym is) so) c.draw_small-in_default.ensures.is
