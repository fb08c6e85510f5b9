use Rattle.std.proofs.Common.{◌≡◌, inl, inr, ◌-◌, false, ◌&&◌, nat_le, nat_lt, ap, ◌∙◌, arith}
use Rattle.std.proofs.lemmas.Bool.{cases_lt}
use Rattle.quilt_edition.specs.Keeping.{is_free}
use Rattle.quilt_edition.proofs.Counts.{count_none}
use Rattle.quilt_edition.proofs.Frees.{free_at, none_and}
use Rattle.quilt_edition.proofs.free.first_free.Goals as goal

pub returns-in-Some : goal.returns-in-Some
returns-in-Some c =
    let n = c.args.pages in
    let bits = c.args.free.now in
    let next = c.in-Some.ensures.some in
    record {
      page = free_at n bits c.in-Some.page (omega (arith, next.least, c.requires.range)) next.most ∙ next.is;
      first = λ i lt. elim (cases_lt i c.args.from) [
        | inl below ↦ c.requires.before i below
        | inr le ↦ ap (λ b. (nat_le 1 i && nat_lt i n) && b) (next.before i le lt) ∙ none_and (nat_le 1 i && nat_lt i n)
      ];
    }

pub returns-in-None : goal.returns-in-None
returns-in-None c =
    let n = c.args.pages in
    let none = count_none (is_free n c.args.free.now) 1 (n - 1) (λ i low high. elim (cases_lt i c.args.from) [
      | inl below ↦ c.requires.before i below
      | inr le ↦
          ap (λ b. (nat_le 1 i && nat_lt i n) && b) (c.next_listed.ensures.none c.in-None.is i le (omega (arith, high, c.requires.range)))
          ∙ none_and (nat_le 1 i && nat_lt i n)
    ]) in
    absurd (omega (arith, none, c.requires.some))
