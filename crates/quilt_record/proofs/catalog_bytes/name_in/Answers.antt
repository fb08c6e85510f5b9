use Rattle.std.proofs.Common.{◌≡◌, ◌∙◌, sym, ap, subst, Some}
use Rattle.std.specs.Str.{IsUtf8}
use Rattle.std.proofs.lemmas.Str.{IsUtf8-from_ascii}
use Rattle.quilt_types.specs.Layers.{is_name}
use Rattle.quilt_record.proofs.Names.{name_first, name_ascii, some_is}
use Rattle.quilt_record.proofs.catalog_bytes.name_in.Goals as goal

pub returns-in-Ok-clause-one : goal.returns-in-Ok-clause-one
returns-in-Ok-clause-one c n h e =
    let word : c.in-Ok.word.now ≡ n = c.in-Ok.ensures.cases.0 ∙ c.before_zero.ensures ∙ name_first n c.args.bytes.now h e in
    some_is c.of.result c.in-Ok.word.now (c.of.ensures.is_one.1 (ap is_name word ∙ h)) c.of.ensures.name ∙ ap Some word

pub returns-in-Err-clause-one : goal.returns-in-Err-clause-one
returns-in-Err-clause-one c n h e =
    absurd (c.in-Err.ensures.cases.0 (subst IsUtf8 (sym (c.before_zero.ensures ∙ name_first n c.args.bytes.now h e)) (IsUtf8-from_ascii n (name_ascii n h))))
