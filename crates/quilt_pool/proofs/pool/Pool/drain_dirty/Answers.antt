use Rattle.std.proofs.Common.{◌≡◌, inl, inr, ℕ, ◌+◌, ◌-◌, cond, false, length, filter, refl, sym, ◌∙◌, ap, subst, arith}
use Rattle.std.specs.List.{range_with_len}
use Rattle.std.proofs.lemmas.Bool.{cases_eq, cases_lt, false≢true, ne_eqb}
use Rattle.quilt_journal.specs.Changed.{has_bit}
use Rattle.quilt_journal.specs.Writing.{Writing}
use Rattle.quilt_world.specs.Tale.{Goes}
use Rattle.quilt_pool.specs.Entries.{is_dirty, AreBelow}
use Rattle.quilt_pool.proofs.Saving.{goes_none}
use Rattle.quilt_pool.proofs.Dirt.{not_listed}
use Rattle.quilt_pool.proofs.Draining.{goes_no_write, goes_drained, goes_written_too, count_page, count_to, count_upto, no_zero, none_past}
use Rattle.quilt_pool.proofs.pool.Pool.drain_dirty.Goals as goal

pub bits-init : goal.bits-init
bits-init g c = record {
  device = record { size = refl; door = refl };
  faults = omega arith;
  low = omega arith;
  high = omega (arith, c.requires.range, c.pages-pages.ensures.pages);
  pages = refl;
  state = refl;
  bits = refl;
  below = c.requires.below;
  order = refl;
  bytes = λ i. refl;
  cap = refl;
  marked = λ i. refl;
  drained = no_zero c.args.journal.now.pages c.args.self.now.table.entries c.requires.below;
  others = λ i le. refl;
  kept = goes_none _ _ _ _ c.requires.kept;
  writes = goes_no_write _ _ c.requires.kept;
}

pub drain_page-requires-clause-page : goal.drain_page-requires-clause-page
drain_page-requires-clause-page g c =
    let next = c.in-Some.ensures.some in
    let i = c.bits.invariant in
    (omega (arith, next.least, i.low), omega (arith, next.most, i.pages, c.pages-pages.ensures.pages))

pub returns-in_err-drain_page-clause-kept : goal.returns-in_err-drain_page-clause-kept
returns-in_err-drain_page-clause-kept g c = goes_drained _ _ _ _ _ _ _ _ _ _ _ c.bits.invariant.pages c.bits.invariant.kept c.drain_page.ensures.kept

pub returns-in_err-drain_page-clause-writes : goal.returns-in_err-drain_page-clause-writes
returns-in_err-drain_page-clause-writes g c =
    let i = c.bits.invariant in
    let next = c.in-Some.ensures.some in
    let f = is_dirty c.args.self.now.table.entries in
    let page = c.in-Some.page in
    let same : cond {A = ℕ} (is_dirty c.bits.self.table.entries page) 1 0 ≡ cond {A = ℕ} (f page) 1 0 =
    ap (λ b. cond {A = ℕ} b 1 0) (i.others page next.least) in
    let gap = count_to f c.bits.from page i.low next.least
    (λ q le lt. sym (i.others q le) ∙ not_listed c.bits.self.table.entries c.bits.self.dirty q c.bits.self.listed (next.before q le lt)) in
    let step = count_page f page (omega (arith, i.low, next.least)) in
    let most = count_upto f 1 (page + 1 - 1) (c.args.journal.now.pages - 1) (omega (arith, next.most, c.pages-pages.ensures.pages)) in
    goes_written_too (length (filter f (range_with_len 1 (c.bits.from - 1)))) (cond {A = ℕ} (is_dirty c.bits.self.table.entries page) 1 0)
    (length (filter f (range_with_len 1 (c.args.journal.now.pages - 1)))) _ _ _
    (omega (arith, same, gap, step, most)) i.writes c.drain_page.ensures.writes

pub bits-preserved : goal.bits-preserved
bits-preserved g c =
    let i = c.bits.invariant in
    let next = c.in-Some.ensures.some in
    let e = c.drain_page.ensures in
    let f = is_dirty c.args.self.now.table.entries in
    let page = c.in-Some.page in
    let same : cond {A = ℕ} (is_dirty c.bits.self.table.entries page) 1 0 ≡ cond {A = ℕ} (f page) 1 0 =
    ap (λ b. cond {A = ℕ} b 1 0) (i.others page next.least) in
    let gap = count_to f c.bits.from page i.low next.least
    (λ q le lt. sym (i.others q le) ∙ not_listed c.bits.self.table.entries c.bits.self.dirty q c.bits.self.listed (next.before q le lt)) in
    let step = count_page f page (omega (arith, i.low, next.least)) in
    record {
      device = record { size = e.device.size ∙ i.device.size; door = e.device.door ∙ i.device.door };
      faults = omega (arith, e.cause.later, i.faults);
      low = omega arith;
      high = omega (arith, next.most);
      pages = e.journal.0 ∙ i.pages;
      state = e.journal.1 ∙ i.state;
      bits = e.journal.2 ∙ i.bits;
      below = subst (λ n. AreBelow n c.drain_page.new.self.table.entries) i.pages e.below;
      order = e.order ∙ i.order;
      bytes = λ q. e.bytes q ∙ i.bytes q;
      cap = e.cap ∙ i.cap;
      marked = λ q. e.marked q ∙ i.marked q;
      drained = λ q lt. elim (cases_eq q page) [
        | inl here ↦ subst (λ p. is_dirty c.drain_page.new.self.table.entries p ≡ false) (sym here) c.in_ok-drain_page.ensures.drained
        | inr ne ↦ e.others q ne ∙ elim (cases_lt q c.bits.from) [
          | inl before ↦ i.drained q before
          | inr le ↦ not_listed c.bits.self.table.entries c.bits.self.dirty q c.bits.self.listed (next.before q le (omega (arith, lt, ne)))
        ]
      ];
      others = λ q le. e.others q (omega (arith, le)) ∙ i.others q (omega (arith, le, next.least));
      kept = goes_drained _ _ _ _ _ _ _ _ _ _ _ i.pages i.kept e.kept;
      writes = goes_written_too (length (filter f (range_with_len 1 (c.bits.from - 1)))) (cond {A = ℕ} (is_dirty c.bits.self.table.entries page) 1 0)
          (length (filter f (range_with_len 1 (page + 1 - 1)))) _ _ _ (omega (arith, same, gap, step)) i.writes e.writes;
    }

pub returns-clause-writes : goal.returns-clause-writes
returns-clause-writes g c =
    let i = c.bits.invariant in
    let f = is_dirty c.args.self.now.table.entries in
    let n = c.args.journal.now.pages in
    let gap = count_to f c.bits.from c.pages-pages.result i.low i.high
    (λ q le lt. sym (i.others q le)
    ∙ not_listed c.bits.self.table.entries c.bits.self.dirty q c.bits.self.listed (c.next_listed.ensures.none c.in_default.is q le lt)) in
    let all : length (filter f (range_with_len 1 (c.bits.from - 1))) ≡ length (filter f (range_with_len 1 (n - 1))) =
    sym gap ∙ ap (λ k. length (filter f (range_with_len 1 (k - 1)))) c.pages-pages.ensures.pages in
    subst (λ k. Goes (Writing k) (g.D.Disk.told c.args.disk.now) (g.D.Disk.told c.bits.disk)) all i.writes

pub returns-clause-drained : goal.returns-clause-drained
returns-clause-drained g c = λ q. elim (cases_lt q c.bits.from) [
  | inl before ↦ c.bits.invariant.drained q before
  | inr le ↦ elim (cases_lt q c.pages-pages.result) [
    | inl lt ↦ not_listed c.bits.self.table.entries c.bits.self.dirty q c.bits.self.listed (c.next_listed.ensures.none c.in_default.is q le lt)
    | inr past ↦
        none_past c.args.journal.now.pages c.bits.self.table.entries c.bits.invariant.below q (omega (arith, past, c.pages-pages.ensures.pages))
  ]
]

pub unlist_page-requires : goal.unlist_page-requires
unlist_page-requires g c =
    let next = c.in-Some.ensures.some in
    omega (arith, next.most, c.requires.range, c.pages-pages.ensures.pages)

pub invariant_of-self-clause-listed : goal.invariant_of-self-clause-listed
invariant_of-self-clause-listed g c = λ q dirty. elim (cases_eq q c.in-Some.page) [
  | inl here ↦
      absurd (false≢true (sym (subst (λ p. is_dirty c.drain_page.new.self.table.entries p ≡ false) (sym here) c.in_ok-drain_page.ensures.drained) ∙ dirty))
  | inr ne ↦
      c.unlist_page.ensures q ∙ ap (λ b. cond b false (has_bit c.drain_page.new.self.dirty q)) (ne_eqb q c.in-Some.page ne)
      ∙ c.drain_page.new.self.listed q dirty
]
