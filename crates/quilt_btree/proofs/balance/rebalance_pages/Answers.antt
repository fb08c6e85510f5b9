use Rattle.std.proofs.Common.{◌≡◌, ℕ, Bool, Option, List, Result, Ok, Err, IfErr, arith}
use Rattle.quilt_record.specs.declared.key.Key.{Key}
use Rattle.quilt_record.specs.declared.record.Record.{Record}
use Rattle.quilt_node.specs.Tree.{Bounds}
use Rattle.quilt_types.specs.declared.stop.Stop.{Stop}
use Rattle.quilt_store.specs.Stops.{IsNotDamage}
use Rattle.quilt_btree.specs.Rebalancing.{CanRebalance}
use Rattle.quilt_btree.specs.Damage.{NamesSpare}
use Rattle.quilt_btree.proofs.ways.Damage.{no_spares, named_more}
use Rattle.quilt_btree.proofs.balance.rebalance_pages.Goals as goal

sound_one : {T : Type 0} (r : Result T Stop) (told : Option (List (List ℕ))) (free : ℕ → Bool) {height : ℕ} (left : ℕ) (key : Key) (right : ℕ) → height ≡ 1
    → IfErr r (λ e. (h : ℕ) (b : Bounds) (rs : List Record) (used : List ℕ) → h ≡ 1 → CanRebalance told free h left key right b rs used → IsNotDamage e)
    → IfErr r (λ e. (b : Bounds) (rs : List Record) (used : List ℕ) → CanRebalance told free height left key right b rs used → IsNotDamage e)
sound_one (Ok v) told free left key right one f = f
sound_one (Err e) told free {height} left key right one f = λ b rs used m. f height b rs used one m

pub returns-then-height-eq1-clause-sound : goal.returns-then-height-eq1-clause-sound
returns-then-height-eq1-clause-sound g c =
    sound_one c.rebalance_leaves.result (g.S.PageStore.told c.args.store.now) (g.S.PageStore.free c.args.store.now)
    c.args.left c.args.key.now c.args.right c.if-height-eq1.true c.rebalance_leaves.ensures.sound

spare_one : {T : Type 0} (r : Result T Stop) (told : Option (List (List ℕ))) (height spare : ℕ) → height ≡ 1
    → IfErr r (λ e. (h : ℕ) → h ≡ 1 → NamesSpare told h spare e) → IfErr r (NamesSpare told height spare)
spare_one (Ok v) told height spare one f = f
spare_one (Err e) told height spare one f = f height one

pub returns-then-height-eq1-clause-bad : goal.returns-then-height-eq1-clause-bad
returns-then-height-eq1-clause-bad g c =
    spare_one c.rebalance_leaves.result (g.S.PageStore.told c.args.store.now) c.args.height c.args.spare c.if-height-eq1.true c.rebalance_leaves.ensures.bad

pub returns-else-height-eq1-clause-bad : goal.returns-else-height-eq1-clause-bad
returns-else-height-eq1-clause-bad g c =
    no_spares c.rebalance_inners.result (g.S.PageStore.told c.args.store.now) c.args.height c.args.spare c.rebalance_inners.ensures.names

pub returns-else-height-eq1-clause-names : goal.returns-else-height-eq1-clause-names
returns-else-height-eq1-clause-names g c =
    named_more c.rebalance_inners.result 1 (g.S.PageStore.size c.args.store.now) (let lt = c.requires.left.1 in omega arith) c.rebalance_inners.ensures.names
