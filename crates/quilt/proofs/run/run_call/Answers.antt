use Rattle.std.specs.Prelude.{map, string_bytes, IfSome}
use Rattle.std.proofs.Common.{◌≡◌, Some, Err, sym, ap, subst, Global}
use Rattle.quilt_host.specs.Story.{Story}
use Rattle.quilt.proofs.ProgramLaws.{told_words, usage_told, memory_told}
use Rattle.quilt.proofs.run.run_call.Goals as goal

pub returns-in-Ok : goal.returns-in-Ok
returns-in-Ok g c =
    let words = subst (λ l. IfSome (g.S.System.told c.args.system) (λ (s : Story). s.words ≡ Some (map (string_bytes {Z = Global}) l))) (sym c.deref.ensures.value)
    c.in-Ok.ensures.words in
    told_words _ _ _ _ _ c.words.ensures.nothing words c.run_words.ensures

pub returns-in-Err-NotText : goal.returns-in-Err-NotText
returns-in-Err-NotText g c =
    usage_told _ _ c.requires c.words.ensures.nothing (c.in-Err-NotText.ensures.no_text (ap (λ f. Err f) c.in-Err-NotText.field-0-is))

pub returns-in-Err : goal.returns-in-Err
returns-in-Err g c = memory_told _ _ c.requires c.words.ensures.nothing
