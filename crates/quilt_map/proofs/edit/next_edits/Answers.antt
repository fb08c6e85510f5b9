use Rattle.std.proofs.Common.{◌≡◌, ◌⊎◌, ⊎_elim, ◌+◌, ◌<◌, ◌≤◌, List, [], length, ap, arith}
use Rattle.std.proofs.lemmas.List.{nil_from_length}
use Rattle.quilt_record.specs.declared.record.Record.{Record}
use Rattle.quilt_btree.specs.declared.edit.Edit.{Edit}
use Rattle.quilt_batch.specs.Merges.{IsMergePart}
use Rattle.quilt_batch.proofs.Parts.{part_sizes, run_size}
use Rattle.quilt_map.proofs.edit.next_edits.Goals as goal

-- where something was left, less is left behind a part
fewer_left : (old new : List Record) (run : List Edit) (goes comes : List Record) → IsMergePart old new run goes comes → 1 ≤ length old + length new
    → ((goes ≡ []) × (comes ≡ [])) ⊎ (length run ≡ 2048) → length goes + length comes < length old + length new
fewer_left old new run goes comes p some full =
    let sizes = part_sizes old new run goes comes p in
    let few = run_size run in
    ⊎_elim (λ none. let g = ap length none.0 in let c = ap length none.1 in omega (arith, g, c, some)) (λ e. omega (arith, sizes, few, e)) full

pub returns-then-left-eq0-clause-none : goal.returns-then-left-eq0-clause-none
returns-then-left-eq0-clause-none c none =
    (nil_from_length c.args.goes.now (let h = c.if-left-eq0.true in omega arith), nil_from_length c.args.comes.now (let h = c.if-left-eq0.true in omega arith))

pub returns-in-Ok-Some-clause-fewer : goal.returns-in-Ok-Some-clause-fewer
returns-in-Ok-Some-clause-fewer c =
    fewer_left c.args.goes.now c.args.comes.now c.in-Ok-Some.part.batch c.in-Ok-Some.part.goes.now c.in-Ok-Some.part.comes.now
    (rw c.in-Ok-Some.field-0-is at c.in-Ok-Some.ensures.part) (let h = c.if-left-eq0.false in omega arith)
    (rw c.in-Ok-Some.field-0-is at c.in-Ok-Some.ensures.many)
