use Rattle.std.proofs.Common.{◌≡◌, ◌∷◌, true, sym, ◌∙◌, arith}
use Rattle.quilt_types.specs.declared.code.Code.TheVariants as no
use Rattle.quilt_replies.specs.Answers.{exists, too_many}
use Rattle.quilt_map.proofs.states.Catalogs.{catalog_length}
use Rattle.quilt_map.proofs.answers.FirstTests.{first_true, first_false, exists_not, few_layers, many_layers}
use Rattle.quilt_map.proofs.refusals.why_not_new.Goals as goal

pub returns-then-entries-ge-LAYER_LIMIT-clause-refuses : goal.returns-then-entries-ge-LAYER_LIMIT-clause-refuses
returns-then-entries-ge-LAYER_LIMIT-clause-refuses c = λ s numbers catalog rs done.
    let none = sym c.if-is_some.ensures in
    let away = exists_not s c.args.name.now (c.index_of.ensures.none none s.work numbers catalog) in
    let many = catalog_length s.work numbers c.args.entries.now catalog in
    let full : (too_many s).0 ≡ true = many_layers s (let m = c.if-entries-ge-LAYER_LIMIT.true in omega arith) in
    first_false (exists s c.args.name.now).0 no.Exists (too_many s ∷ rs) s done away ∙ first_true (too_many s).0 no.Layers rs s done full

pub returns-else-entries-ge-LAYER_LIMIT-clause-passes : goal.returns-else-entries-ge-LAYER_LIMIT-clause-passes
returns-else-entries-ge-LAYER_LIMIT-clause-passes c = λ e s numbers catalog.
    let none = sym c.if-is_some.ensures in
    let many = catalog_length s.work numbers c.args.entries.now catalog in (
      exists_not s c.args.name.now (c.index_of.ensures.none none s.work numbers catalog),
      few_layers s
          (let m = c.if-entries-ge-LAYER_LIMIT.false in omega arith),
    )
