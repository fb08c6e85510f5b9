use Rattle.std.proofs.Common.{ℕ, [], ◌∷◌, List, Contains, take, get_or, ⊎_elim, sym, ◌∙◌, ap, subst, arith}
use Rattle.std.proofs.lemmas.List.Elements.{Contains-append_left, Contains-append_right}
use Rattle.quilt_loc.proofs.Members.{Contains-here}
use Rattle.quilt_near.specs.Knowing.{known_seg}
use Rattle.quilt_edits.proofs.Lists.{take_next, taken_there}
use Rattle.quilt_lines.proofs.runs.run_of.Goals as goal

pub returns-in-None-clause-each : goal.returns-in-None-clause-each
returns-in-None-clause-each c q from upto =
    let w = c.loop-id.invariant.each q from upto in
    (taken_there c.args.ids.now c.loop-id.id-index q w.0, w.1)

pub loop-id-preserved : goal.loop-id-preserved
loop-id-preserved c =
    let ids = c.args.ids.now in
    let i = c.loop-id.id-index in
    let id = get_or ids i _ in
    let next = take_next ids i _ c.loop-id-test.true in
    let most = c.in-Some.ensures.most in
    let few = c.loop-id.invariant.few in
    record {
      each = λ q from upto. ⊎_elim
          (λ h. (
            subst (λ (l : List ℕ). Contains l q) (sym next) (Contains-append_right (take i ids) (id ∷ []) q
                (subst (Contains (id ∷ [])) h.0 (Contains-here id []))),
            ap (known_seg c.args.known.now) (sym h.0) ∙ h.1,
          ))
          (λ h. let w = c.loop-id.invariant.each q h.0 h.1 in
          (subst (λ (l : List ℕ). Contains l q) (sym next) (Contains-append_left (take i ids) (id ∷ []) q w.0), w.1)) (c.in-Some.ensures.each q from upto);
      few = omega arith;
      order = c.in-Some.ensures.size.0;
      size = c.in-Some.ensures.size.1;
    }

pub returns-then-run-clause-each : goal.returns-then-run-clause-each
returns-then-run-clause-each c q from upto =
    let w = c.loop-id.invariant.each q from upto in
    (taken_there c.args.ids.now c.loop-id.id-index q w.0, w.1)
