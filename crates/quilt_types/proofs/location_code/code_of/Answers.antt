use Rattle.std.proofs.Common.{◌∙◌, arith}
use Rattle.quilt_types.specs.Codes.{code}
use Rattle.quilt_types.proofs.CodeLaws.{code_below, code_alone}
use Rattle.quilt_types.proofs.CodeTables.{interleaved_bytes}
use Rattle.quilt_types.proofs.location_code.code_of.Goals as goal

pub returns-clause-value : goal.returns-clause-value
unfolding code
returns-clause-value c =
    let low = c.byte_code.ensures.value in
    let high = c.byte_code-2.ensures.value in
    let both = interleaved_bytes c.args.p.x c.args.p.y c.requires.in_x c.requires.in_y in omega arith

pub returns-clause-below : goal.returns-clause-below
returns-clause-below c =
    let v = returns-clause-value c in
    let b = code_below c.args.p.x c.args.p.y in
    omega arith

pub returns-clause-alone : goal.returns-clause-alone
returns-clause-alone c q hx hy e =
    let r = c.requires in
    code_alone q c.args.p hx hy r.in_x r.in_y (e ∙ returns-clause-value c)
