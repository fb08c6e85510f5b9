use Rattle.std.proofs.Common.{◌≡◌, ℕ, ◌+◌, ◌<◌, true, All, List, [], ◌∷◌, ◌++◌, length, length-append, map, take, sym, ◌∙◌, ap, subst, arith}
use Rattle.std.specs.FinMap as finmap
use Rattle.std.specs.Ordering.{nat_cmp}
use Rattle.std.proofs.lemmas.List.{take_all}
use Rattle.std.proofs.lemmas.List.Elements.{All-append}
use Rattle.std.proofs.lemmas.Option.{none-some, same_Some}
use Rattle.quilt_types.specs.declared.plane.Seg.{Seg}
use Rattle.quilt_types.specs.Layers.{is_in_square}
use Rattle.quilt_loc.specs.Codes.{Rises}
use Rattle.quilt_types.specs.Facts.{IsSegment}
use Rattle.quilt_record.specs.declared.record.Record.{Record}
use Rattle.quilt_edits.proofs.Lists.{take_next}
use Rattle.quilt_lines.specs.Layers.{fact_record}
use Rattle.quilt_lines.specs.Reads.{ids_of}
use Rattle.quilt_lines.proofs.Saying.{says_more}
use Rattle.quilt_lines.proofs.Listed.{all_one}
use Rattle.quilt_lines.proofs.Scans.{order_more, below_more, smallest_more, next_at, all_read}
use Rattle.quilt_lines.proofs.view.LineView.all_segments.Goals as goal

pub loop-r-init : goal.loop-r-init
loop-r-init c = record {
  segments = λ t segs cover valid is. c.new-list.ensures;
  inside = λ k d lt. let none = ap length c.new-list.ensures in absurd (omega arith);
  order = subst (λ (l : List (ℕ × Seg)). Rises nat_cmp (ids_of l)) (sym c.new-list.ensures) tt;
  below = λ k d lt. let none = ap length c.new-list.ensures in absurd (omega arith);
  smallest = λ k all. omega arith;
  said = λ of. ap (map (λ (e : ℕ × Seg). fact_record c.args.self.now.level c.args.self.now.layer (IsSegment e.0 e.1))) (sym c.new-list.ensures);
  many = ap length c.new-list.ensures;
}

pub returns-in_default-clause-sound : goal.returns-in_default-clause-sound
returns-in_default-clause-sound c t segs cover valid is page e =
    let w = next_at c.args.self.now.level c.args.self.now.layer t segs cover valid c.args.self.now.has_level.1 c.args.records.now c.loop-r.r-index _
    c.loop-r-test.true is c.segment_said.result c.segment_said.ensures.one in
    none-some w.next (sym c.in_default.is ∙ w.is_said)

pub returns-then-from-least-clause-sound : goal.returns-then-from-least-clause-sound
returns-then-from-least-clause-sound c t segs cover valid is page e =
    let w = next_at c.args.self.now.level c.args.self.now.layer t segs cover valid c.args.self.now.has_level.1 c.args.records.now c.loop-r.r-index _
    c.loop-r-test.true is c.segment_said.result c.segment_said.ensures.one in
    let same = same_Some (c.in-Some.id, c.in-Some.s) w.next (sym c.in-Some.is ∙ w.is_said) in
    let id : c.in-Some.id ≡ w.next.0 = ap (λ (d : ℕ × Seg). d.0) same in
    let le = c.loop-r.invariant.smallest w.next.0
    (subst (All (λ (d : ℕ × Seg). d.0 < w.next.0)) (sym (c.loop-r.invariant.segments t segs cover valid is)) w.later) in
    let lt = c.if-from-least.true in
    let from = c.from.ensures in
    omega arith

pub loop-r-preserved : goal.loop-r-preserved
loop-r-preserved c =
    let from = c.from.ensures in
    let ge = c.if-from-least.false in
    let more : List (ℕ × Seg) = (c.in-Some.id, c.in-Some.s) ∷ [] in
    let new = c.in-Ok.ensures.ok in
    let next : c.from-least.result ≡ c.in-Some.id = c.from-least.ensures in
    record {
      segments = λ t segs cover valid is.
          let w = next_at c.args.self.now.level c.args.self.now.layer t segs cover valid c.args.self.now.has_level.1 c.args.records.now
          c.loop-r.r-index _ c.loop-r-test.true is c.segment_said.result c.segment_said.ensures.one in
          let same = same_Some (c.in-Some.id, c.in-Some.s) w.next (sym c.in-Some.is ∙ w.is_said) in
          new ∙ ap (λ (l : List (ℕ × Seg)). l ++ more) (c.loop-r.invariant.segments t segs cover valid is)
          ∙ ap (λ (d : ℕ × Seg). take c.loop-r.r-index (finmap.entries segs) ++ d ∷ []) same ∙ sym w.longer;
      inside =
          let P = λ (e : ℕ × Seg). is_in_square c.args.self.now.level e.1 ≡ true in
          subst (All P) (sym new) (All-append P c.loop-r.list more c.loop-r.invariant.inside (all_one P (c.in-Some.id, c.in-Some.s) c.in-Some.ensures.inside));
      order = subst (λ (l : List (ℕ × Seg)). Rises nat_cmp (ids_of l)) (sym new)
          (order_more c.loop-r.list c.in-Some.id c.loop-r.least c.in-Some.s c.loop-r.invariant.below (omega arith) c.loop-r.invariant.order);
      below =
          let small = below_more c.loop-r.list c.in-Some.id c.loop-r.least c.in-Some.s c.loop-r.invariant.below (omega arith) in
          subst (λ (l : List (ℕ × Seg)). All (λ e. e.0 < c.from-least.result + 1) l) (sym new)
          (subst (λ (z : ℕ). All (λ (e : ℕ × Seg). e.0 < z + 1) (c.loop-r.list ++ more)) (sym next) small);
      smallest = λ k all.
          let le = smallest_more c.loop-r.list c.in-Some.id c.in-Some.s k (subst (All (λ (e : ℕ × Seg). e.0 < k)) new all) in
          omega arith;
      said = λ of.
          let row : ℕ × Seg → Record = λ e. fact_record c.args.self.now.level c.args.self.now.layer (IsSegment e.0 e.1) in
          take_next c.args.records.now c.loop-r.r-index _ c.loop-r-test.true
          ∙ says_more c.args.self.now.level c.args.self.now.layer (take c.loop-r.r-index c.args.records.now) _ c.loop-r.list (c.in-Some.id, c.in-Some.s)
          (of c.loop-r.r-index _ c.loop-r-test.true) (c.loop-r.invariant.said of) c.in-Some.ensures.some
          ∙ ap (map row) (sym new);
      many = let longer = ap length new ∙ length-append c.loop-r.list more in let was = c.loop-r.invariant.many in omega arith;
    }

pub returns-clause-segments : goal.returns-clause-segments
returns-clause-segments c t segs cover valid is =
    let all = all_read c.args.self.now.level c.args.self.now.layer segs c.args.records.now is in
    c.loop-r.invariant.segments t segs cover valid is ∙ take_all c.loop-r.r-index (finmap.entries segs) (omega arith)

pub returns-clause-inside : goal.returns-clause-inside
returns-clause-inside c = c.loop-r.invariant.inside

pub returns-clause-order : goal.returns-clause-order
returns-clause-order c = c.loop-r.invariant.order

pub returns-clause-said : goal.returns-clause-said
returns-clause-said c of = sym (take_all c.loop-r.r-index c.args.records.now (omega arith)) ∙ c.loop-r.invariant.said of

pub returns-clause-many : goal.returns-clause-many
returns-clause-many c =
    let many = c.loop-r.invariant.many in let past = c.loop-r-test.false in let end = c.loop-r.auto.r-index-end in omega arith
