use Rattle.std.proofs.Common.{◌≡◌, Some, sym, ◌∙◌, ap, arith}
use Rattle.std.proofs.lemmas.Option.{same_Some, none-some}
use Rattle.quilt_loc.specs.Codes.{code_from}
use Rattle.quilt_record.specs.declared.record.Record.{Record}
use Rattle.quilt_blocks.specs.declared.leaf.Leaf.{Leaf}
use Rattle.quilt_region.proofs.Walking.{read_over}
use Rattle.quilt_region.proofs.walk.leaf_at.Goals as goal

pub returns-in_default-clause-sound : goal.returns-in_default-clause-sound
returns-in_default-clause-sound c e block from is page same = none-some _ (sym c.in_default.is ∙ is)

pub returns-in-Some-leaf_of-clause-begins : goal.returns-in-Some-leaf_of-clause-begins
returns-in-Some-leaf_of-clause-begins c = let code = c.in-Some-leaf_of.ensures.code in omega arith

pub returns-in-Some-leaf_of-clause-row : goal.returns-in-Some-leaf_of-clause-row
returns-in-Some-leaf_of-clause-row c = c.in-Some.is ∙ ap (λ (r : Record). Some r) c.in-Some-leaf_of.ensures.record

pub returns-in-Some-leaf_of-clause-next : goal.returns-in-Some-leaf_of-clause-next
returns-in-Some-leaf_of-clause-next c e block is =
    let read = read_over c.args.layer c.args.level e _ c.in-Some.r c.leaf_of.result c.requires.layer block is c.in-Some.is c.leaf_of.ensures.one in
    ap (λ (l : Leaf). l.block) (same_Some _ _ (sym c.in-Some-leaf_of.is ∙ read))

pub returns-in_default-leaf_of-clause-sound : goal.returns-in_default-leaf_of-clause-sound
returns-in_default-leaf_of-clause-sound c e block from is page same =
    let code : c.in-Some.r.key.code ≡ code_from e.0 = ap (λ (r : Record). r.key.code) (same_Some _ _ (sym c.in-Some.is ∙ is)) in
    c.if-r-code.false (code ∙ from)

pub returns-in_default-leaf_of-2-clause-sound : goal.returns-in_default-leaf_of-2-clause-sound
returns-in_default-leaf_of-2-clause-sound c e block from is page same =
    let read = read_over c.args.layer c.args.level e _ c.in-Some.r c.leaf_of.result c.requires.layer block is c.in-Some.is c.leaf_of.ensures.one in
    none-some _ (sym c.in_default-leaf_of.is ∙ read)
