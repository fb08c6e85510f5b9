use Rattle.std.proofs.Common.{sym, ◌∙◌, ap, subst, List, arith}
use Rattle.std.proofs.lemmas.Result.{IfOk-weaker, IfErr-weaker}
use Rattle.quilt_record.specs.declared.key.Key.{Key}
use Rattle.quilt_record.specs.declared.record.Record.{Record}
use Rattle.quilt_store.proofs.Reading.{only_reads_free}
use Rattle.quilt_btree.specs.Lists.{floor_of}
use Rattle.quilt_btree.specs.Trees.{IsTree}
use Rattle.quilt_btree.specs.Floors.{floor_pages, HoldsFirst, ReadsNone}
use Rattle.quilt_loc.proofs.Blocks.{side_most}
use Rattle.quilt_btree.proofs.Handed.{handed_on}
use Rattle.quilt_btree.proofs.Stops.{sound_handed}
use Rattle.quilt_btree.proofs.ways.Damage.{zero_named}
use Rattle.quilt_region.proofs.lookup.leaf_with.Goals as goal

pub key_with-k-requires-clause-in_x : goal.key_with-k-requires-clause-in_x
key_with-k-requires-clause-in_x g c = let m = side_most c.args.level c.requires.level.1 in let x = c.requires.in_x in omega arith

pub key_with-k-requires-clause-in_y : goal.key_with-k-requires-clause-in_y
key_with-k-requires-clause-in_y g c = let m = side_most c.args.level c.requires.level.1 in let y = c.requires.in_y in omega arith

pub returns-in_err-found-clause-sound : goal.returns-in_err-found-clause-sound
returns-in_err-found-clause-sound g c =
    rw (handed_on c.from_residual.result c.from_residual.ensures.1) (λ grid h. c.in_err-found.ensures.sound h.records h.tree)

pub returns-in_err-found-clause-zero : goal.returns-in_err-found-clause-zero
returns-in_err-found-clause-zero g c = sound_handed c.from_residual.result c.from_residual.ensures.1 c.in_err-found.ensures.sound

pub returns-in_err-found-clause-bad : goal.returns-in_err-found-clause-bad
returns-in_err-found-clause-bad g c =
    rw (handed_on c.from_residual.result c.from_residual.ensures.1) (λ other. c.in_err-found.ensures.bad)

pub returns-in_err-found-clause-again : goal.returns-in_err-found-clause-again
returns-in_err-found-clause-again g c =
    subst (λ k. (rs : List Record) → IsTree (g.S.PageStore.told c.args.store.now) c.args.tree.now rs
    → ReadsNone (λ pages. floor_pages pages k c.args.tree.now.height c.args.tree.now.root) (g.S.PageStore.told c.args.store.now)
    (g.S.PageStore.held c.args.store.now) (g.S.PageStore.reads c.args.store.now) (g.S.PageStore.reads c.floor.new.store))
    c.key_with-k.ensures c.in_err-found.ensures.again

pub returns-clause-again : goal.returns-clause-again
returns-clause-again g c =
    subst (λ k. (rs : List Record) → IsTree (g.S.PageStore.told c.args.store.now) c.args.tree.now rs
    → ReadsNone (λ pages. floor_pages pages k c.args.tree.now.height c.args.tree.now.root) (g.S.PageStore.told c.args.store.now)
    (g.S.PageStore.held c.args.store.now) (g.S.PageStore.reads c.args.store.now) (g.S.PageStore.reads c.floor.new.store))
    c.key_with-k.ensures c.in_ok-found.ensures.again

pub returns-clause-held : goal.returns-clause-held
returns-clause-held g c =
    IfOk-weaker c.leaf_said.result _ _
    (λ l block. subst (λ k. (rs : List Record) → IsTree (g.S.PageStore.told c.args.store.now) c.args.tree.now rs
    → HoldsFirst (λ pages. floor_pages pages k c.args.tree.now.height c.args.tree.now.root) (g.S.PageStore.told c.args.store.now)
    (g.S.PageStore.held c.args.store.now) (g.S.PageStore.held c.floor.new.store))
    c.key_with-k.ensures c.in_ok-found.ensures.held) c.leaf_said.ensures.block

pub returns-clause-leaf : goal.returns-clause-leaf
returns-clause-leaf g c =
    IfOk-weaker c.leaf_said.result _ _
    (λ l law grid h. law (g.S.PageStore.told c.args.store.now) c.args.tree.now grid
    (λ rs is. c.in_ok-found.ensures.floor rs is ∙ ap (λ (k : Key). floor_of k rs) c.key_with-k.ensures) h) c.leaf_said.ensures.leaf

pub returns-clause-row : goal.returns-clause-row
returns-clause-row g c =
    IfOk-weaker c.leaf_said.result _ _
    (λ l said rs is. sym (c.in_ok-found.ensures.floor rs is ∙ ap (λ (k : Key). floor_of k rs) c.key_with-k.ensures) ∙ said) c.leaf_said.ensures.row

pub returns-clause-sound : goal.returns-clause-sound
returns-clause-sound g c =
    IfErr-weaker c.leaf_said.result _ _
    (λ e law grid h. law (g.S.PageStore.told c.args.store.now) c.args.tree.now grid
    (λ rs is. c.in_ok-found.ensures.floor rs is ∙ ap (λ (k : Key). floor_of k rs) c.key_with-k.ensures) h) c.leaf_said.ensures.sound

pub returns-clause-zero : goal.returns-clause-zero
returns-clause-zero g c = IfErr-weaker c.leaf_said.result _ _ (λ e zero rs is. zero) c.leaf_said.ensures.zero

pub returns-clause-bad : goal.returns-clause-bad
returns-clause-bad g c = zero_named c.leaf_said.result _ _ _ c.leaf_said.ensures.zero

pub returns-clause-left : goal.returns-clause-left
returns-clause-left g c = only_reads_free _ c.leaf_said.result c.in_ok-found.ensures.left c.leaf_said.ensures.no_fault
