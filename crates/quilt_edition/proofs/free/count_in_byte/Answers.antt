use Rattle.std.proofs.Common.{◌≡◌, ◌+◌, ◌-◌, ◌*◌, cond, ℕ, length, filter, ap, sym, ◌∙◌, arith}
use Rattle.std.specs.List.{range_with_len}
use Rattle.quilt_edition.specs.Keeping.{is_free}
use Rattle.quilt_edition.proofs.Counts.{count_more, count_most, count_none, count_all}
use Rattle.quilt_edition.proofs.Frees.{none_in, all_in}
use Rattle.quilt_edition.proofs.free.count_in_byte.Goals as goal
use Rattle.quilt_edition.proofs.free.count_in_byte.Goals.{then-is_free_at, else-is_free_at}

pub overflow_add-count : goal.overflow_add-count
overflow_add-count c =
    let most = count_most (is_free c.args.pages c.args.free.now) (8 * c.args.byte) (c.loop-page.page - 8 * c.args.byte) in
    omega (arith, most, c.loop-page.invariant, c.requires)

pub loop-page-preserved : goal.loop-page-preserved
loop-page-preserved c =
    let f = is_free c.args.pages c.args.free.now in
    let page = c.loop-page.page in
    let from = 8 * c.args.byte in
    let back : page + 1 - from ≡ (page - from) + 1 = omega arith in
    let here : from + (page - from) ≡ page = omega arith in
    let step = ap (λ k. length (filter f (range_with_len from k))) back ∙ count_more f from (page - from)
    ∙ ap (λ i. length (filter f (range_with_len from (page - from))) + cond {A = ℕ} (f i) 1 0) here in
    elim c.if-is_free_at.branch [
      | then-is_free_at w ↦ w.count-is ∙ ap (λ n. n + 1) c.loop-page.invariant
          ∙ sym (step ∙ ap (λ b. length (filter f (range_with_len from (page - from))) + cond {A = ℕ} b 1 0) (sym c.is_free_at.ensures ∙ w.if-is_free_at.true))
      | else-is_free_at w ↦ w.count-is ∙ c.loop-page.invariant
          ∙ sym (step ∙ ap (λ b. length (filter f (range_with_len from (page - from))) + cond {A = ℕ} b 1 0)
          (sym c.is_free_at.ensures ∙ w.if-is_free_at.false) ∙ omega arith)
    ]

pub returns-then-bits-eq0 : goal.returns-then-bits-eq0
returns-then-bits-eq0 c =
    sym (count_none (is_free c.args.pages c.args.free.now) (8 * c.args.byte) 8
    (λ i from to. none_in c.args.pages c.args.byte c.args.free.now i from to c.if-bits-eq0.true))

pub returns-then-byte-pages : goal.returns-then-byte-pages
returns-then-byte-pages c =
    sym (count_all (is_free c.args.pages c.args.free.now) (8 * c.args.byte) 8
    (λ i from to. all_in c.args.pages c.args.byte c.args.free.now i from to c.if-byte-ge1.true c.if-byte-pages.true c.if-bits.true))

pub returns : goal.returns
returns c =
    let whole : c.loop-page.page - 8 * c.args.byte ≡ 8 = omega (arith, c.loop-page-test.false, c.loop-page.auto.page-end) in
    c.loop-page.invariant ∙ ap (λ k. length (filter (is_free c.args.pages c.args.free.now) (range_with_len (8 * c.args.byte) k))) whole
