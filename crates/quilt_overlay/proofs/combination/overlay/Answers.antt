use Rattle.std.proofs.Common.{◌≡◌, ℕ, ◌^◌, inl, inr, ⊎_elim, length, refl, sym, ◌∙◌, ap, subst, arith}
use Rattle.quilt_types.specs.declared.plane.Pixel.{Pixel}
use Rattle.quilt_types.specs.Plane.{IsBlock}
use Rattle.quilt_types.specs.Layers.{Grid, colour_at}
use Rattle.quilt_loc.specs.Codes.{code_from, code_to}
use Rattle.quilt_loc.proofs.CodeLaws.{code_below}
use Rattle.quilt_blocks.specs.Painting.{Painted}
use Rattle.quilt_blocks.proofs.Painting.{Paints, Paints-push}
use Rattle.quilt_blocks.proofs.Paired.{at_some}
use Rattle.quilt_overlay.specs.Combining.{combined}
use Rattle.quilt_overlay.proofs.Finished.{finished}
use Rattle.quilt_overlay.proofs.Fronts.{step_of, colour_of, passed_first, passed_second, both_over, IsFront-at, overlaid_is}
use Rattle.quilt_overlay.proofs.combination.overlay.Goals as goal

pub push-requires-clause-valid : goal.push-requires-clause-valid
push-requires-clause-valid c = subst (λ (k : ℕ). IsBlock k c.smaller_of-block.result) (sym c.loop-p.invariant.level)
    (step_of c.args.a.now.level c.args.a.now.grid c.args.b.now.grid (length c.loop-p.maker.colours) c.loop-p.first c.loop-p.second c.loop-p.firsts
    c.loop-p.seconds c.level.ensures.raster.most c.loop-p.invariant.firsts c.loop-p.invariant.seconds c.loop-p.invariant.starts c.in-Some.p
    c.in-Some.q (sym c.in-Some.ensures) c.smaller_of-block.result c.smaller_of-block.ensures.one c.smaller_of-block.ensures.first
    c.smaller_of-block.ensures.second).block

pub push-requires-clause-next : goal.push-requires-clause-next
push-requires-clause-next c =
    (step_of c.args.a.now.level c.args.a.now.grid c.args.b.now.grid (length c.loop-p.maker.colours) c.loop-p.first c.loop-p.second c.loop-p.firsts
    c.loop-p.seconds c.level.ensures.raster.most c.loop-p.invariant.firsts c.loop-p.invariant.seconds c.loop-p.invariant.starts c.in-Some.p
    c.in-Some.q (sym c.in-Some.ensures) c.smaller_of-block.result c.smaller_of-block.ensures.one c.smaller_of-block.ensures.first
    c.smaller_of-block.ensures.second).begins

pub leaf_after-first-requires-clause-last : goal.leaf_after-first-requires-clause-last
leaf_after-first-requires-clause-last c =
    let inv = c.loop-p.invariant in
    passed_first c.args.a.now.level c.args.a.now.grid c.args.b.now.grid (length c.loop-p.maker.colours)
    c.loop-p.first c.loop-p.second c.loop-p.firsts c.loop-p.seconds c.level.ensures.raster.most inv.firsts inv.seconds inv.starts
    c.in-Some.p c.in-Some.q (sym c.in-Some.ensures) c.smaller_of-block.result _ refl
    (step_of c.args.a.now.level c.args.a.now.grid c.args.b.now.grid (length c.loop-p.maker.colours) c.loop-p.first c.loop-p.second
    c.loop-p.firsts c.loop-p.seconds c.level.ensures.raster.most c.loop-p.invariant.firsts c.loop-p.invariant.seconds c.loop-p.invariant.starts
    c.in-Some.p c.in-Some.q (sym c.in-Some.ensures) c.smaller_of-block.result c.smaller_of-block.ensures.one c.smaller_of-block.ensures.first
    c.smaller_of-block.ensures.second)

pub leaf_after-second-requires-clause-last : goal.leaf_after-second-requires-clause-last
leaf_after-second-requires-clause-last c =
    let inv = c.loop-p.invariant in
    passed_second c.args.a.now.level c.args.a.now.grid c.args.b.now.grid (length c.loop-p.maker.colours)
    c.loop-p.first c.loop-p.second c.loop-p.firsts c.loop-p.seconds c.level.ensures.raster.most inv.firsts inv.seconds inv.starts
    c.in-Some.p c.in-Some.q (sym c.in-Some.ensures) c.smaller_of-block.result _ refl
    (step_of c.args.a.now.level c.args.a.now.grid c.args.b.now.grid (length c.loop-p.maker.colours) c.loop-p.first c.loop-p.second
    c.loop-p.firsts c.loop-p.seconds c.level.ensures.raster.most c.loop-p.invariant.firsts c.loop-p.invariant.seconds c.loop-p.invariant.starts
    c.in-Some.p c.in-Some.q (sym c.in-Some.ensures) c.smaller_of-block.result c.smaller_of-block.ensures.one c.smaller_of-block.ensures.first
    c.smaller_of-block.ensures.second)

pub leaf_after-first-requires-clause-block : goal.leaf_after-first-requires-clause-block
leaf_after-first-requires-clause-block c = subst (λ (k : ℕ). IsBlock k c.smaller_of-block.result) (sym c.loop-p.invariant.firsts.level)
    (step_of c.args.a.now.level c.args.a.now.grid c.args.b.now.grid (length c.loop-p.maker.colours) c.loop-p.first c.loop-p.second c.loop-p.firsts
    c.loop-p.seconds c.level.ensures.raster.most c.loop-p.invariant.firsts c.loop-p.invariant.seconds c.loop-p.invariant.starts c.in-Some.p
    c.in-Some.q (sym c.in-Some.ensures) c.smaller_of-block.result c.smaller_of-block.ensures.one c.smaller_of-block.ensures.first
    c.smaller_of-block.ensures.second).block

pub leaf_after-second-requires-clause-block : goal.leaf_after-second-requires-clause-block
leaf_after-second-requires-clause-block c = subst (λ (k : ℕ). IsBlock k c.smaller_of-block.result) (sym c.loop-p.invariant.seconds.level)
    (step_of c.args.a.now.level c.args.a.now.grid c.args.b.now.grid (length c.loop-p.maker.colours) c.loop-p.first c.loop-p.second c.loop-p.firsts
    c.loop-p.seconds c.level.ensures.raster.most c.loop-p.invariant.firsts c.loop-p.invariant.seconds c.loop-p.invariant.starts c.in-Some.p
    c.in-Some.q (sym c.in-Some.ensures) c.smaller_of-block.result c.smaller_of-block.ensures.one c.smaller_of-block.ensures.first
    c.smaller_of-block.ensures.second).block

pub loop-p-preserved : goal.loop-p-preserved
loop-p-preserved c =
    let n = c.args.a.now.level in
    let ga = c.args.a.now.grid in
    let gb = c.args.b.now.grid in
    let inv = c.loop-p.invariant in
    let s = c.smaller_of-block.result in
    let p = c.in-Some.p in
    let q = c.in-Some.q in
    let most = c.level.ensures.raster.most in
    let st =
    step_of c.args.a.now.level c.args.a.now.grid c.args.b.now.grid (length c.loop-p.maker.colours) c.loop-p.first c.loop-p.second c.loop-p.firsts
    c.loop-p.seconds c.level.ensures.raster.most c.loop-p.invariant.firsts c.loop-p.invariant.seconds c.loop-p.invariant.starts c.in-Some.p
    c.in-Some.q (sym c.in-Some.ensures) c.smaller_of-block.result c.smaller_of-block.ensures.one c.smaller_of-block.ensures.first
    c.smaller_of-block.ensures.second in
    let f : Pixel → ℕ = λ x. combined c.args.op (colour_at n ga x) (colour_at n gb x) in
    let ok = c.in_ok-push.ensures.ok in
    let long = sym c.in_ok-push.ensures.end in
    let after_p = c.leaf_after-first.ensures in
    let after_q = c.leaf_after-second.ensures in
    record {
      level = ap (λ (m : Painted). m.level) ok ∙ inv.level;
      paints = subst (Paints n f) (sym (ap (λ (m : Painted). m.colours) ok))
          (Paints-push n f c.loop-p.maker.colours s _ most st.block st.begins
          (colour_of n ga gb (length c.loop-p.maker.colours) c.loop-p.first c.loop-p.second c.loop-p.firsts c.loop-p.seconds most inv.firsts
          inv.seconds inv.starts p q (sym c.in-Some.ensures) c.args.op s _ st c.combine.ensures) inv.paints);
      firsts = IsFront-at _ _ _ _ _ _ _ _ inv.firsts.level inv.firsts.grid long after_p.front;
      seconds = IsFront-at _ _ _ _ _ _ _ _ inv.seconds.level inv.seconds.grid long after_q.front;
      starts = λ u v eu ev. ⊎_elim
          (λ e. inl (at_some (λ l. code_from l.block ≡ code_to s) c.leaf_after-first.result u eu (after_p.start e) ∙ long))
          (λ e. inr (at_some (λ l. code_from l.block ≡ code_to s) c.leaf_after-second.result v ev (after_q.start e) ∙ long)) st.ends;
    }

pub loop-p-smaller : goal.loop-p-smaller
loop-p-smaller c =
    let st =
    (step_of c.args.a.now.level c.args.a.now.grid c.args.b.now.grid (length c.loop-p.maker.colours) c.loop-p.first c.loop-p.second
    c.loop-p.firsts c.loop-p.seconds c.level.ensures.raster.most c.loop-p.invariant.firsts c.loop-p.invariant.seconds c.loop-p.invariant.starts
    c.in-Some.p c.in-Some.q (sym c.in-Some.ensures) c.smaller_of-block.result c.smaller_of-block.ensures.one c.smaller_of-block.ensures.first
    c.smaller_of-block.ensures.second) in
    let more = st.more in
    let begins = st.begins in
    let below = code_below c.smaller_of-block.result.x c.smaller_of-block.result.y in
    let end = c.in_ok-push.ensures.end in
    omega arith

pub returns : goal.returns
returns c =
    let n = c.args.a.now.level in
    let ga = c.args.a.now.grid in
    let gb = c.args.b.now.grid in
    let inv = c.loop-p.invariant in
    finished n _ c.loop-p.maker _ c.level.ensures.raster.most inv.level
    (both_over n ga gb (length c.loop-p.maker.colours) c.loop-p.first c.loop-p.second c.loop-p.firsts c.loop-p.seconds c.level.ensures.raster.most
    inv.firsts inv.seconds inv.starts (sym c.in_default.ensures)) inv.paints c.finish.ensures.level c.finish.ensures.value
    ∙ ap (λ (g : Grid). record { level = n; grid = g }) (overlaid_is c.args.op n ga gb)
