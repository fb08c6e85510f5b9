use Rattle.std.proofs.Common.{◌≡◌, ℕ, replicate, get_or, ◌+◌, ◌*◌, [], ◌∷◌, length, sym, ◌∙◌, arith}
use Rattle.std.proofs.lemmas.List.{length-set, length-replicate, get_or-replicate}
use Rattle.quilt_store.proofs.Reading.{only_reads_then, only_reads_same, read_on, only_reads_err, only_reads_ok}
use Rattle.quilt_blocks.specs.Cutting.{leaves_by_code}
use Rattle.quilt_loc.proofs.Blocks.{IsBlock-up}
use Rattle.quilt_blocks.proofs.Chains.{member_pos}
use Rattle.quilt_world.proofs.ReadCounts.{reads_then}
use Rattle.quilt_region.proofs.Walking.{ahead_along, square_end, none_counted, leaf_ahead, count_next, all_counted, counts_most, stands_along}
use Rattle.quilt_btree.proofs.Handed.{handed_on}
use Rattle.quilt_btree.proofs.Stops.{bad_handed}
use Rattle.quilt_region.proofs.walk.count_ahead.Goals as goal

pub loop-code-init : goal.loop-code-init
loop-code-init g c = record {
  long = length-replicate {A = ℕ} 13 0;
  most = λ k small. (let z : get_or (replicate {A = ℕ} 13 0) k 0 ≡ 0 = get_or-replicate 13 k 0 0 (omega arith) in omega arith);
  seen = λ grid ahead. none_counted (g.S.PageStore.told c.args.store.now) c.args.tree.now c.args.layer c.args.level c.requires.level.1 c.args.cursor.now grid
      (g.S.PageStore.reads c.args.store.now) ahead;
  stands = λ h. h;
  left = only_reads_same _ tt _ (g.met.S.PageStore.same_time _);
}

pub returns-in_err-leaf-clause-sound : goal.returns-in_err-leaf-clause-sound
returns-in_err-leaf-clause-sound g c =
    rw (handed_on c.from_residual.result c.from_residual.ensures.1) (λ grid ahead. let inv = c.loop-code.invariant in
    let e = square_end c.args.level c.whole_square.result c.end_of-end.result c.requires.level.1 c.whole_square.ensures c.end_of-end.ensures.value in
    let lt = c.loop-code-test.true in
    let is = e.0 in
    leaf_ahead _ _ _ c.args.level c.requires.level.1 _ _ _ _ _ _ (inv.seen grid ahead) _ (omega arith)
    (λ d rest same block from h. c.in_err-leaf.ensures.sound d rest block from (ahead_along _ _ _ _ _ _ (d ∷ rest) inv.left.told h)))

pub returns-in_err-leaf-clause-left : goal.returns-in_err-leaf-clause-left
returns-in_err-leaf-clause-left g c =
    rw (handed_on c.from_residual.result c.from_residual.ensures.1)
    (only_reads_err _ (only_reads_then _ g.met.S.PageStore.goes_on _ _ _ c.loop-code.invariant.left c.in_err-leaf.ensures.left))

pub overflow_add-counts : goal.overflow_add-counts
overflow_add-counts g c =
    let inv = c.loop-code.invariant in
    let e = square_end c.args.level c.whole_square.result c.end_of-end.result c.requires.level.1 c.whole_square.ensures c.end_of-end.ensures.value in
    let lt = c.loop-code-test.true in
    let few = inv.most c.exponent_of.result c.exponent_of.ensures.most in
    let small = e.1 in
    omega arith

pub loop-code-preserved : goal.loop-code-preserved
loop-code-preserved g c =
    let inv = c.loop-code.invariant in
    let e = square_end c.args.level c.whole_square.result c.end_of-end.result c.requires.level.1 c.whole_square.ensures c.end_of-end.ensures.value in
    let lt = c.loop-code-test.true in
    let is = e.0 in
    let long = inv.long in
    let small = c.exponent_of.ensures.most in
    let from = c.in_ok-leaf.ensures.begins in
    let to = c.end_of-code.ensures.value in
    let some = member_pos c.args.level c.in_ok-leaf.leaf.block c.in_ok-leaf.ensures.block in
    record {
      long = length-set {A = ℕ} _ _ _ ∙ inv.long;
      most = λ k le. counts_most c.loop-code.counts c.exponent_of.result k c.loop-code.code c.end_of-code.result (omega arith) (omega arith) (inv.most k le);
      seen = λ grid ahead.
          count_next (g.S.PageStore.told c.args.store.now) c.args.tree.now c.args.layer c.args.level c.requires.level.1 c.loop-code.cursor
          (leaves_by_code c.args.level grid) c.loop-code.code c.loop-code.counts (g.S.PageStore.reads c.args.store.now)
          (g.S.PageStore.reads c.loop-code.store) (inv.seen grid ahead) c.in_ok-leaf.leaf.block _ c.exponent_of.result c.end_of-code.result _ (omega arith)
          (λ d rest block h.
          let step = c.in_ok-leaf.ensures.next d rest block (ahead_along _ _ _ _ _ _ (d ∷ rest) inv.left.told h) in
          (step.0, ahead_along _ _ _ _ _ _ rest (sym inv.left.told) step.1))
          (omega arith) c.exponent_of.ensures.value to c.in_ok-leaf.ensures.reads;
      stands = λ h. stands_along _ _ _ _ (sym inv.left.told) (c.in_ok-leaf.ensures.stays (stands_along _ _ _ _ inv.left.told (inv.stands h)));
      left = read_on _ g.met.S.PageStore.goes_on _ _ _ inv.left c.in_ok-leaf.ensures.left;
    }

pub returns-in_err-end_layer-clause-sound : goal.returns-in_err-end_layer-clause-sound
returns-in_err-end_layer-clause-sound g c =
    rw (handed_on c.from_residual-in_err-end_layer.result c.from_residual-in_err-end_layer.ensures.1) (λ grid ahead. let inv = c.loop-code.invariant in
    let e = square_end c.args.level c.whole_square.result c.end_of-end.result c.requires.level.1 c.whole_square.ensures c.end_of-end.ensures.value in
    let past = c.loop-code-test.false in
    let is = e.0 in
    let all = all_counted _ _ _ c.args.level c.requires.level.1 _ _ _ _ _ _ (inv.seen grid ahead) (omega arith) in
    c.in_err-end_layer.ensures.sound c.args.level (ahead_along _ _ _ _ _ _ [] inv.left.told all.0))

pub returns-in_err-end_layer-clause-left : goal.returns-in_err-end_layer-clause-left
returns-in_err-end_layer-clause-left g c =
    rw (handed_on c.from_residual-in_err-end_layer.result c.from_residual-in_err-end_layer.ensures.1)
    (only_reads_err _ (only_reads_then _ g.met.S.PageStore.goes_on _ _ _ c.loop-code.invariant.left c.in_err-end_layer.ensures.left))

pub returns-clause-counts : goal.returns-clause-counts
returns-clause-counts g c grid ahead k le =
    let inv = c.loop-code.invariant in
    let e = square_end c.args.level c.whole_square.result c.end_of-end.result c.requires.level.1 c.whole_square.ensures c.end_of-end.ensures.value in
    let past = c.loop-code-test.false in
    let is = e.0 in
    (all_counted _ _ _ c.args.level c.requires.level.1 _ _ _ _ _ _ (inv.seen grid ahead) (omega arith)).1 k le

pub returns-clause-left : goal.returns-clause-left
returns-clause-left g c = only_reads_ok _ (only_reads_then _ g.met.S.PageStore.goes_on _ _ _ c.loop-code.invariant.left c.end_layer.ensures.left) _

pub returns-clause-reads : goal.returns-clause-reads
returns-clause-reads g c grid ahead =
    let inv = c.loop-code.invariant in
    let e = square_end c.args.level c.whole_square.result c.end_of-end.result c.requires.level.1 c.whole_square.ensures c.end_of-end.ensures.value in
    let past = c.loop-code-test.false in
    let is = e.0 in
    let all = all_counted _ _ _ c.args.level c.requires.level.1 _ _ _ _ _ _ (inv.seen grid ahead) (omega arith) in
    reads_then (3 * length (leaves_by_code c.args.level grid)) 3 (3 + 3 * length (leaves_by_code c.args.level grid)) _ _ _ (omega arith) all.2 c.end_layer.ensures.reads

pub end_of-code-requires : goal.end_of-code-requires
end_of-code-requires g c = IsBlock-up c.args.level 12 c.in_ok-leaf.leaf.block c.requires.level.1 c.in_ok-leaf.ensures.block

pub returns-in_err-leaf-clause-zero : goal.returns-in_err-leaf-clause-zero
returns-in_err-leaf-clause-zero g c =
    let inv = c.loop-code.invariant in
    rw (handed_on c.from_residual.result c.from_residual.ensures.1) (λ h. c.in_err-leaf.ensures.zero (stands_along _ _ _ _ inv.left.told (inv.stands h)))

pub returns-in_err-end_layer-clause-zero : goal.returns-in_err-end_layer-clause-zero
returns-in_err-end_layer-clause-zero g c =
    let inv = c.loop-code.invariant in
    rw (handed_on c.from_residual-in_err-end_layer.result c.from_residual-in_err-end_layer.ensures.1)
    (λ h. c.in_err-end_layer.ensures.zero (stands_along _ _ _ _ inv.left.told (inv.stands h)))

pub returns-in_err-leaf-clause-bad : goal.returns-in_err-leaf-clause-bad
returns-in_err-leaf-clause-bad g c =
    bad_handed _ c.from_residual.result c.from_residual.ensures.1 c.args.tree.now c.loop-code.invariant.left.told c.in_err-leaf.ensures.bad

pub returns-in_err-end_layer-clause-bad : goal.returns-in_err-end_layer-clause-bad
returns-in_err-end_layer-clause-bad g c =
    bad_handed _ c.from_residual-in_err-end_layer.result c.from_residual-in_err-end_layer.ensures.1
    c.args.tree.now c.loop-code.invariant.left.told c.in_err-end_layer.ensures.bad
