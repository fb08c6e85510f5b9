use Rattle.std.proofs.Common.{◌≡◌, ℕ, ◌≤◌, inl, inr, ⊎_elim, length, sym, ◌∙◌, ap, arith}
use Rattle.std.proofs.lemmas.Result.{err_from_is_err_and}
use Rattle.std.proofs.lemmas.List.{length-map}
use Rattle.std.proofs.lemmas.Bool.{both_ways, cases_lt}
use Rattle.quilt_near.specs.Lines.{meeting}
use Rattle.quilt_lines.specs.Reads.{ids_of, pair_of}
use Rattle.quilt_lines.proofs.Listed.{some_there, none_said, pairs_said, pairs_alone}
use Rattle.quilt_lines.proofs.view.LineView.ids_said.Goals as goal

pub returns-then-says_none-clause-ids : goal.returns-then-says_none-clause-ids
returns-then-says_none-clause-ids c segs cover is =
    none_said c.args.self.now.level c.args.self.now.layer c.args.b segs cover c.args.records.now c.new.result.items
    (c.says_none.ensures.yes c.if-says_none.true) c.new.ensures.items is

pub returns-in_err-ids-clause-sound : goal.returns-in_err-ids-clause-sound
returns-in_err-ids-clause-sound c =
    let p = err_from_is_err_and c.from_residual.result c.from_residual.ensures.1 in
    rw (p.1, p.2) (λ segs cover is. let w = pairs_said c.args.self.now.level c.args.self.now.layer c.args.b segs cover c.args.records.now
    (some_there (length c.args.records.now) c.if-is_empty.ensures) (λ e. both_ways c.says_none.result c.if-says_none.false (c.says_none.ensures.no e)) is in
    c.in_err-ids.ensures.sound (ids_of (meeting segs c.args.b)) w.1)

pub returns-clause-ids : goal.returns-clause-ids
returns-clause-ids c segs cover is =
    let w = pairs_said c.args.self.now.level c.args.self.now.layer c.args.b segs cover c.args.records.now
    (some_there (length c.args.records.now) c.if-is_empty.ensures) (λ e. both_ways c.says_none.result c.if-says_none.false (c.says_none.ensures.no e)) is in
    record {
      there = w.0;
      are = pairs_alone c.args.self.now.level c.args.self.now.layer c.args.b c.in_ok-ids.ids.items (ids_of (meeting segs c.args.b))
          (sym c.in_ok-ids.ensures.ids ∙ w.1);
    }

pub returns-then-says_none-clause-said : goal.returns-then-says_none-clause-said
returns-then-says_none-clause-said c = inl (c.says_none.ensures.yes c.if-says_none.true, c.new.ensures.items)

pub returns-clause-said : goal.returns-clause-said
returns-clause-said c =
    let some = some_there (length c.args.records.now) c.if-is_empty.ensures in
    inr (
      c.in_ok-ids.ensures.ids,
      some_ids (length c.args.records.now) (length c.in_ok-ids.ids.items) some
          (ap length c.in_ok-ids.ensures.ids ∙ length-map c.in_ok-ids.ids.items (pair_of c.args.self.now.level c.args.self.now.layer c.args.b)),
    )
  where
    some_ids : (n m : ℕ) → (n ≡ 0 → ⊥) → n ≡ m → 1 ≤ m
    some_ids n m some e = ⊎_elim (λ lt. absurd (some (omega arith))) (λ ge. omega arith) (cases_lt m 1)
