use Rattle.std.proofs.Common.{◌≡◌, ◌≤◌, true, false, Some, ◌∙◌, sym, subst}
use Rattle.quilt_record.proofs.Names.{some_same, entry_number, entry_kind, entry_byte, entry_name, entry_again}
use Rattle.quilt_record.proofs.catalog_bytes.read_catalog.Goals as goal

true_false : true ≡ false → ⊥
true_false e = cc

pub returns-in_default-clause-one : goal.returns-in_default-clause-one
returns-in_default-clause-one c e f =
    let same = entry_number c.args.format c.args.r.now e f in
    absurd (c.in_default.not-Some c.args.r.now.key.item
    (c.number_in.ensures.one (subst (λ n. 1 ≤ n) (sym same) f.least) (subst (λ n. n ≤ 255) (sym same) f.most)))

pub returns-in_default-kind_in-clause-one : goal.returns-in_default-kind_in-clause-one
returns-in_default-kind_in-clause-one c e f =
    absurd (c.in_default-kind_in.not-Some e.kind
    (c.kind_in.ensures.one e.kind f.kind (sym (entry_kind c.args.format c.args.r.now e f)) (sym (entry_byte c.args.format c.args.r.now e f))))

pub returns-in_default-name_in-clause-one : goal.returns-in_default-name_in-clause-one
returns-in_default-name_in-clause-one c e f =
    absurd (c.in_default-name_in.not-Some e.name (c.name_in.ensures.one e.name f.named (entry_name c.args.format c.args.r.now e f)))

pub returns-then-not-is_same-clause-one : goal.returns-then-not-is_same-clause-one
returns-then-not-is_same-clause-one c e f =
    let same = entry_number c.args.format c.args.r.now e f in
    let number = some_same c.in-Some.number c.args.r.now.key.item
    (sym c.in-Some.is ∙ c.number_in.ensures.one (subst (λ n. 1 ≤ n) (sym same) f.least) (subst (λ n. n ≤ 255) (sym same) f.most)) ∙ same in
    let kind =
    some_same c.in-Some-kind_in.kind e.kind (sym c.in-Some-kind_in.is
    ∙ c.kind_in.ensures.one e.kind f.kind (sym (entry_kind c.args.format c.args.r.now e f)) (sym (entry_byte c.args.format c.args.r.now e f))) in
    let name =
    some_same c.in-Some-name_in.name e.name (sym c.in-Some-name_in.is ∙ c.name_in.ensures.one e.name f.named (entry_name c.args.format c.args.r.now e f)) in
    absurd (true_false (sym
    (c.is_same.ensures.no (entry_again c.args.format c.args.r.now e f c.catalog_record.result c.in-Some.number c.in-Some-name_in.name
    c.in-Some-kind_in.kind number name kind (c.catalog_record.ensures 0 0))) ∙ c.if-not-is_same.true))

pub returns-clause-some : goal.returns-clause-some
returns-clause-some c = record {
  least = c.in-Some.ensures.some.0;
  most = c.in-Some.ensures.some.1;
  named = c.in-Some-name_in.ensures.some;
  kind = c.in-Some-kind_in.ensures.some;
  written = λ n capacity. sym (c.is_same.ensures.yes c.if-not-is_same.false) ∙ c.catalog_record.ensures n capacity;
}

pub returns-clause-one : goal.returns-clause-one
returns-clause-one c e f =
    let same = entry_number c.args.format c.args.r.now e f in
    let number = some_same c.in-Some.number c.args.r.now.key.item
    (sym c.in-Some.is ∙ c.number_in.ensures.one (subst (λ n. 1 ≤ n) (sym same) f.least) (subst (λ n. n ≤ 255) (sym same) f.most)) ∙ same in
    let kind =
    some_same c.in-Some-kind_in.kind e.kind (sym c.in-Some-kind_in.is
    ∙ c.kind_in.ensures.one e.kind f.kind (sym (entry_kind c.args.format c.args.r.now e f)) (sym (entry_byte c.args.format c.args.r.now e f))) in
    let name =
    some_same c.in-Some-name_in.name e.name (sym c.in-Some-name_in.is ∙ c.name_in.ensures.one e.name f.named (entry_name c.args.format c.args.r.now e f)) in
    λ i. Some (record { number = number i; name = name i; kind = kind i })
