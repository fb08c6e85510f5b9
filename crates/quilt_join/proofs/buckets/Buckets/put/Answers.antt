use Rattle.std.proofs.Common.{◌≡◌, ℕ, ◌<◌, ◌^◌, rules, ap₂, arith, subst, ◌∙◌}
use Rattle.quilt_join.specs.declared.span.Span.{Span}
use Rattle.quilt_join.specs.Boxes.{span_at, count, number_at}
use Rattle.quilt_join.proofs.Fillings.{put_more, with_one}
use Rattle.quilt_join.proofs.buckets.Buckets.put.Goals as goal

pub loop-place-preserved : goal.loop-place-preserved
loop-place-preserved c =
    let i = c.loop-place.invariant in
    let p = span_at (2 ^ c.args.self.now.shift) c.args.s in
    let mid = c.loop-place.self.lists.items in
    let number : c.number-number.result ≡ number_at p c.args.self.now.columns c.loop-place.place =
    c.number-number.ensures ∙ ap₂ (λ (q : Span) (m : ℕ). number_at q m c.loop-place.place) c.of-span.ensures.value i.columns in
    let before : c.loop-place.place < count p = search rules in
    let within = c.requires.fits c.loop-place.place before in
    record {
      shift = c.put_at.ensures.shift ∙ i.shift;
      columns = c.put_at.ensures.columns ∙ i.columns;
      put = put_more p c.args.self.now.columns c.loop-place.place c.args.self.now.lists.items mid c.put_at.new.self.lists.items (c.args.id, c.args.s) i.put
          (omega (arith, i.put.size))
          (subst (λ (m : ℕ). c.put_at.new.self.lists.items ≡ with_one mid m (c.args.id, c.args.s)) number c.in_ok-put_at.ensures.put);
    }
