use Rattle.std.specs.Prelude.{map, string_bytes}
use Rattle.std.proofs.Common.{◌≡◌, ◌∙◌, drop, sym, ap, subst, refl, Global}
use Rattle.std.proofs.lemmas.List.{drop-map}
use Rattle.quilt_top.specs.declared.run.End.TheVariants as ends
use Rattle.quilt_top.specs.Words.{asked_for}
use Rattle.quilt.specs.Program.{Does, IfTold}
use Rattle.quilt.proofs.ProgramLaws.{told_at_once, memory_at_once}
use Rattle.quilt.proofs.run.run_words.Goals as goal

pub returns-in_default : goal.returns-in_default
returns-in_default g c =
    let order = asked_for (drop 1 (map (string_bytes {Z = Global}) c.args.words.now)) in
    told_at_once (Does order ends.Memory) _ _ c.requires refl (memory_at_once order)

pub returns : goal.returns
returns g c =
    let are : map (λ w. w.now) c.deref.result.now ≡ drop 1 (map (string_bytes {Z = Global}) c.args.words.now) =
    ap (map (λ w. w.now)) c.deref.ensures.value ∙ c.in-Ok.ensures ∙ ap (map (string_bytes {Z = Global})) c.behind_first.ensures
    ∙ sym (drop-map (string_bytes {Z = Global}) 1 c.args.words.now) in
    subst (λ ws. IfTold (Does (asked_for ws) c.run_texts.result.0) (g.S.System.told c.args.system) (g.S.System.told c.run_texts.result.1)) are
    c.run_texts.ensures
