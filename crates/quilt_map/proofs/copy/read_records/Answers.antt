use Rattle.std.proofs.Common.{List, IfErr, subst}
use Rattle.quilt_record.specs.declared.record.Record.{Record}
use Rattle.quilt_node.specs.declared.head.Head.{Head}
use Rattle.quilt_store.specs.Stops.{IsNotDamage}
use Rattle.quilt_btree.specs.Trees.{IsTree}
use Rattle.quilt_map.specs.Sessions.{told_of, tree_in}
use Rattle.quilt_map.proofs.copy.read_records.Goals as goal

pub returns-clause-sound : goal.returns-clause-sound
returns-clause-sound g c =
    subst (λ (h : Head). IfErr c.range.result (λ e. (rs : List Record) → IsTree (told_of {D = g.W.Disk} c.args.book.now) (tree_in h) rs → IsNotDamage e))
    c.head-head.ensures.work c.range.ensures.sound
