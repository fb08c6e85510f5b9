use Rattle.std.proofs.Common.{◌≤◌, ◌+◌, length, sym, ◌∙◌, arith}
use Rattle.quilt_btree.proofs.lists.Ascents.{not_fits, fits_behind, fits_last, known_past, first_past}
use Rattle.quilt_btree.proofs.balance.key_fits.Goals.{else-i-gt0-via-then-i-gt0+else-not-precedes, else-i-gt0-via-else-i-gt0}
use Rattle.quilt_btree.proofs.balance.key_fits.Goals as goal

pub returns-then-not-precedes : goal.returns-then-not-precedes
returns-then-not-precedes c =
    not_fits c.args.inner.now.keys c.args.key.now c.args.i c.key.result c.requires c.len-n.ensures.is.ascends c.if-i-gt0.true c.key.ensures
    (sym c.precedes.ensures ∙ c.if-not-precedes.true)

pub returns-then-i-n : goal.returns-then-i-n
returns-then-i-n c = elim c.else-i-gt0.branch [
  | else-i-gt0-via-then-i-gt0+else-not-precedes w ↦
      c.precedes-then-i-n.ensures
      ∙ fits_behind c.args.inner.now.keys c.args.key.now c.args.i (c.args.i + 1) c.key-then-i-n.result c.requires c.len-n.ensures.is.ascends
      (known_past c.args.inner.now.keys c.args.i c.args.key.now w.key.result w.key.ensures (sym w.precedes.ensures ∙ w.if-not-precedes.false))
      (omega arith) c.key-then-i-n.ensures
  | else-i-gt0-via-else-i-gt0 w ↦
      c.precedes-then-i-n.ensures
      ∙ fits_behind c.args.inner.now.keys c.args.key.now c.args.i (c.args.i + 1) c.key-then-i-n.result c.requires c.len-n.ensures.is.ascends
      (first_past c.args.inner.now.keys c.args.i c.args.key.now (let h = w.if-i-gt0.false in omega arith)) (omega arith) c.key-then-i-n.ensures
]

pub returns-else-i-n : goal.returns-else-i-n
returns-else-i-n c =
    let end : length c.args.inner.now.keys ≤ 1 + c.args.i = let a = c.len-n.ensures.keys in let b = c.if-i-n.false in omega arith in
    elim c.else-i-gt0.branch [
      | else-i-gt0-via-then-i-gt0+else-not-precedes w ↦
          fits_last c.args.inner.now.keys c.args.i c.args.key.now c.requires c.len-n.ensures.is.ascends
          (known_past c.args.inner.now.keys c.args.i c.args.key.now w.key.result w.key.ensures (sym w.precedes.ensures ∙ w.if-not-precedes.false)) (omega arith)
      | else-i-gt0-via-else-i-gt0 w ↦
          fits_last c.args.inner.now.keys c.args.i c.args.key.now c.requires c.len-n.ensures.is.ascends
          (first_past c.args.inner.now.keys c.args.i c.args.key.now (let h = w.if-i-gt0.false in omega arith)) (omega arith)
    ]
