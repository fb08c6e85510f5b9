use Rattle.std.proofs.Common.{length, filter, set, true, ◌+◌, ◌*◌, ◌-◌, ◌≤◌, ◌≡◌, refl, ◌∙◌, ap, arith}
use Rattle.quilt_edition.proofs.Publishing.{drain_stops, moves_drained, moves_torn, on_err_if, goes_drained, goes_old_stops, goes_listed, goes_opening}
use Rattle.quilt_edition.proofs.Publishing.{goes_opened, goes_new_stops, goes_carried, goes_finished, goes_held}
use Rattle.std.specs.List.{range_with_len}
use Rattle.quilt_journal.specs.Changed.{changed_count}
use Rattle.quilt_journal.proofs.Counts.{count_set}
use Rattle.quilt_pool.specs.Entries.{is_dirty}
use Rattle.quilt_pool.proofs.Draining.{goes_written_too}
use Rattle.quilt_edition.specs.Keeping.{marked_count}
use Rattle.quilt_edition.proofs.Counts.{marked_kept}
use Rattle.quilt_edition.proofs.Publishing.{dirty_most, changed_most, goes_more_writes}
use Rattle.quilt_edition.proofs.publish.publish_pages.Goals as goal

pub returns-in_err-drain_dirty-clause-crash : goal.returns-in_err-drain_dirty-clause-crash
returns-in_err-drain_dirty-clause-crash g c = drain_stops _ _ _ _ _ _ _ _ c.drain_dirty.ensures.kept

pub returns-in_err-write_slot-clause-crash : goal.returns-in_err-write_slot-clause-crash
returns-in_err-write_slot-clause-crash g c =
    let n = c.args.journal.now.pages in
    let es = c.args.pool.now.table.entries in
    let old = c.args.journal.now.changed in
    let h = c.args.header.now in
    let fs = c.drain_dirty.new.self.table.entries in
    let a0 = g.W.Disk.told c.args.world.now in
    let a1 = g.W.Disk.told c.drain_dirty.new.disk in
    let a2 = g.W.Disk.told c.write_slot.new.disk in
    let j1 = c.drain_dirty.new.journal in
    let p1 = c.drain_dirty.ensures.journal.0 in
    let at1 = goes_drained n es old h fs a0 a1 a1 n refl j1.changed c.in_ok-drain_dirty.ensures.drained c.drain_dirty.ensures.kept in
    goes_old_stops n es old h fs a0 a1 a2 j1.pages p1 j1.changed _ at1 c.write_slot.ensures.crash

pub returns-in_err-seal-clause-crash : goal.returns-in_err-seal-clause-crash
returns-in_err-seal-clause-crash g c =
    let n = c.args.journal.now.pages in
    let es = c.args.pool.now.table.entries in
    let old = c.args.journal.now.changed in
    let h = c.args.header.now in
    let fs = c.drain_dirty.new.self.table.entries in
    let a0 = g.W.Disk.told c.args.world.now in
    let a1 = g.W.Disk.told c.drain_dirty.new.disk in
    let a2 = g.W.Disk.told c.write_slot.new.disk in
    let j1 = c.drain_dirty.new.journal in
    let p1 = c.drain_dirty.ensures.journal.0 in
    let at1 = goes_drained n es old h fs a0 a1 a1 n refl j1.changed c.in_ok-drain_dirty.ensures.drained c.drain_dirty.ensures.kept in
    let j2 = c.write_slot.new.self in
    let p2 = c.write_slot.ensures.same.0 ∙ p1 in
    let at2 = goes_listed n es old h fs a0 a1 a2 j1.pages p1 c.drain_dirty.ensures.below j1.changed j2.changed at1 c.in_ok-write_slot.ensures.changed
    c.write_slot.ensures.crash c.in_ok-write_slot.ensures.kept in
    let a3 = g.W.Disk.told c.seal.new.disk in
    goes_opening n es old h fs a0 a2 a3 j2.pages p2 j2.changed at2 c.seal.ensures.crash

pub carry_home_from-requires-clause-held : goal.carry_home_from-requires-clause-held
carry_home_from-requires-clause-held g c =
    let n = c.args.journal.now.pages in
    let es = c.args.pool.now.table.entries in
    let old = c.args.journal.now.changed in
    let h = c.args.header.now in
    let fs = c.drain_dirty.new.self.table.entries in
    let a0 = g.W.Disk.told c.args.world.now in
    let a1 = g.W.Disk.told c.drain_dirty.new.disk in
    let a2 = g.W.Disk.told c.write_slot.new.disk in
    let j1 = c.drain_dirty.new.journal in
    let p1 = c.drain_dirty.ensures.journal.0 in
    let at1 = goes_drained n es old h fs a0 a1 a1 n refl j1.changed c.in_ok-drain_dirty.ensures.drained c.drain_dirty.ensures.kept in
    let j2 = c.write_slot.new.self in
    let p2 = c.write_slot.ensures.same.0 ∙ p1 in
    let at2 = goes_listed n es old h fs a0 a1 a2 j1.pages p1 c.drain_dirty.ensures.below j1.changed j2.changed at1 c.in_ok-write_slot.ensures.changed
    c.write_slot.ensures.crash c.in_ok-write_slot.ensures.kept in
    let a3 = g.W.Disk.told c.seal.new.disk in
    let j3 = c.seal.new.self in
    let p3 = c.seal.ensures.same.0 ∙ p2 in
    let at3 = goes_opened n es old h fs a0 a2 a3 j2.pages p2 j2.changed j3.changed c.seal.ensures.same.1 at2 c.seal.ensures.crash c.in_ok-seal.ensures.kept in
    goes_held n es old h fs j3.pages j3.changed a0 a3 p3 (omega (arith, c.requires.range)) c.in_ok-drain_dirty.ensures.drained at3

pub returns-in_err-carry_home_from-clause-crash : goal.returns-in_err-carry_home_from-clause-crash
returns-in_err-carry_home_from-clause-crash g c =
    let n = c.args.journal.now.pages in
    let es = c.args.pool.now.table.entries in
    let old = c.args.journal.now.changed in
    let h = c.args.header.now in
    let fs = c.drain_dirty.new.self.table.entries in
    let a0 = g.W.Disk.told c.args.world.now in
    let a1 = g.W.Disk.told c.drain_dirty.new.disk in
    let a2 = g.W.Disk.told c.write_slot.new.disk in
    let j1 = c.drain_dirty.new.journal in
    let p1 = c.drain_dirty.ensures.journal.0 in
    let at1 = goes_drained n es old h fs a0 a1 a1 n refl j1.changed c.in_ok-drain_dirty.ensures.drained c.drain_dirty.ensures.kept in
    let j2 = c.write_slot.new.self in
    let p2 = c.write_slot.ensures.same.0 ∙ p1 in
    let at2 = goes_listed n es old h fs a0 a1 a2 j1.pages p1 c.drain_dirty.ensures.below j1.changed j2.changed at1 c.in_ok-write_slot.ensures.changed
    c.write_slot.ensures.crash c.in_ok-write_slot.ensures.kept in
    let a3 = g.W.Disk.told c.seal.new.disk in
    let j3 = c.seal.new.self in
    let p3 = c.seal.ensures.same.0 ∙ p2 in
    let at3 = goes_opened n es old h fs a0 a2 a3 j2.pages p2 j2.changed j3.changed c.seal.ensures.same.1 at2 c.seal.ensures.crash c.in_ok-seal.ensures.kept in
    let a4 = g.W.Disk.told c.carry_home_from.new.disk in
    goes_new_stops n es old h fs a0 a3 a4 j3.pages p3 j3.changed at3 c.carry_home_from.ensures.crash

pub returns-in_err-unseal-clause-crash : goal.returns-in_err-unseal-clause-crash
returns-in_err-unseal-clause-crash g c =
    let n = c.args.journal.now.pages in
    let es = c.args.pool.now.table.entries in
    let old = c.args.journal.now.changed in
    let h = c.args.header.now in
    let fs = c.drain_dirty.new.self.table.entries in
    let a0 = g.W.Disk.told c.args.world.now in
    let a1 = g.W.Disk.told c.drain_dirty.new.disk in
    let a2 = g.W.Disk.told c.write_slot.new.disk in
    let j1 = c.drain_dirty.new.journal in
    let p1 = c.drain_dirty.ensures.journal.0 in
    let at1 = goes_drained n es old h fs a0 a1 a1 n refl j1.changed c.in_ok-drain_dirty.ensures.drained c.drain_dirty.ensures.kept in
    let j2 = c.write_slot.new.self in
    let p2 = c.write_slot.ensures.same.0 ∙ p1 in
    let at2 = goes_listed n es old h fs a0 a1 a2 j1.pages p1 c.drain_dirty.ensures.below j1.changed j2.changed at1 c.in_ok-write_slot.ensures.changed
    c.write_slot.ensures.crash c.in_ok-write_slot.ensures.kept in
    let a3 = g.W.Disk.told c.seal.new.disk in
    let j3 = c.seal.new.self in
    let p3 = c.seal.ensures.same.0 ∙ p2 in
    let at3 = goes_opened n es old h fs a0 a2 a3 j2.pages p2 j2.changed j3.changed c.seal.ensures.same.1 at2 c.seal.ensures.crash c.in_ok-seal.ensures.kept in
    let a4 = g.W.Disk.told c.carry_home_from.new.disk in
    let j4 = c.carry_home_from.new.self in
    let p4 = c.carry_home_from.ensures.same.0 ∙ p3 in
    let at4 = goes_carried n es old h fs a0 a3 a4 j3.pages p3 j3.changed j4.changed c.carry_home_from.ensures.same.1 at3 c.carry_home_from.ensures.crash
    c.in_ok-carry_home_from.ensures.kept in
    let a5 = g.W.Disk.told c.unseal.new.disk in
    goes_new_stops n es old h fs a0 a4 a5 j4.pages p4 j4.changed at4 c.unseal.ensures.crash

pub returns-clause-crash : goal.returns-clause-crash
returns-clause-crash g c =
    let n = c.args.journal.now.pages in
    let es = c.args.pool.now.table.entries in
    let old = c.args.journal.now.changed in
    let h = c.args.header.now in
    let fs = c.drain_dirty.new.self.table.entries in
    let a0 = g.W.Disk.told c.args.world.now in
    let a1 = g.W.Disk.told c.drain_dirty.new.disk in
    let a2 = g.W.Disk.told c.write_slot.new.disk in
    let j1 = c.drain_dirty.new.journal in
    let p1 = c.drain_dirty.ensures.journal.0 in
    let at1 = goes_drained n es old h fs a0 a1 a1 n refl j1.changed c.in_ok-drain_dirty.ensures.drained c.drain_dirty.ensures.kept in
    let j2 = c.write_slot.new.self in
    let p2 = c.write_slot.ensures.same.0 ∙ p1 in
    let at2 = goes_listed n es old h fs a0 a1 a2 j1.pages p1 c.drain_dirty.ensures.below j1.changed j2.changed at1 c.in_ok-write_slot.ensures.changed
    c.write_slot.ensures.crash c.in_ok-write_slot.ensures.kept in
    let a3 = g.W.Disk.told c.seal.new.disk in
    let j3 = c.seal.new.self in
    let p3 = c.seal.ensures.same.0 ∙ p2 in
    let at3 = goes_opened n es old h fs a0 a2 a3 j2.pages p2 j2.changed j3.changed c.seal.ensures.same.1 at2 c.seal.ensures.crash c.in_ok-seal.ensures.kept in
    let a4 = g.W.Disk.told c.carry_home_from.new.disk in
    let j4 = c.carry_home_from.new.self in
    let p4 = c.carry_home_from.ensures.same.0 ∙ p3 in
    let at4 = goes_carried n es old h fs a0 a3 a4 j3.pages p3 j3.changed j4.changed c.carry_home_from.ensures.same.1 at3 c.carry_home_from.ensures.crash
    c.in_ok-carry_home_from.ensures.kept in
    let a5 = g.W.Disk.told c.unseal.new.disk in
    goes_new_stops n es old h fs a0 a4 a5 j4.pages p4 j4.changed at4 c.unseal.ensures.crash

pub returns-clause-published : goal.returns-clause-published
returns-clause-published g c =
    let n = c.args.journal.now.pages in
    let es = c.args.pool.now.table.entries in
    let old = c.args.journal.now.changed in
    let h = c.args.header.now in
    let fs = c.drain_dirty.new.self.table.entries in
    let a0 = g.W.Disk.told c.args.world.now in
    let a1 = g.W.Disk.told c.drain_dirty.new.disk in
    let a2 = g.W.Disk.told c.write_slot.new.disk in
    let j1 = c.drain_dirty.new.journal in
    let p1 = c.drain_dirty.ensures.journal.0 in
    let at1 = goes_drained n es old h fs a0 a1 a1 n refl j1.changed c.in_ok-drain_dirty.ensures.drained c.drain_dirty.ensures.kept in
    let j2 = c.write_slot.new.self in
    let p2 = c.write_slot.ensures.same.0 ∙ p1 in
    let at2 = goes_listed n es old h fs a0 a1 a2 j1.pages p1 c.drain_dirty.ensures.below j1.changed j2.changed at1 c.in_ok-write_slot.ensures.changed
    c.write_slot.ensures.crash c.in_ok-write_slot.ensures.kept in
    let a3 = g.W.Disk.told c.seal.new.disk in
    let j3 = c.seal.new.self in
    let p3 = c.seal.ensures.same.0 ∙ p2 in
    let at3 = goes_opened n es old h fs a0 a2 a3 j2.pages p2 j2.changed j3.changed c.seal.ensures.same.1 at2 c.seal.ensures.crash c.in_ok-seal.ensures.kept in
    let a4 = g.W.Disk.told c.carry_home_from.new.disk in
    let j4 = c.carry_home_from.new.self in
    let p4 = c.carry_home_from.ensures.same.0 ∙ p3 in
    let at4 = goes_carried n es old h fs a0 a3 a4 j3.pages p3 j3.changed j4.changed c.carry_home_from.ensures.same.1 at3 c.carry_home_from.ensures.crash
    c.in_ok-carry_home_from.ensures.kept in
    let a5 = g.W.Disk.told c.unseal.new.disk in
    goes_finished n es old h fs a0 a4 a5 j4.pages p4 j4.changed at4 c.in_ok-unseal.ensures.kept

pub returns-in_err-drain_dirty-clause-left : goal.returns-in_err-drain_dirty-clause-left
returns-in_err-drain_dirty-clause-left g c = on_err_if _ _ _ (moves_drained _ _ _ _ _ _ _ c.drain_dirty.ensures.kept)

pub returns-in_err-write_slot-clause-left : goal.returns-in_err-write_slot-clause-left
returns-in_err-write_slot-clause-left g c =
    on_err_if _ _ _ (moves_torn c.args.journal.now.pages c.drain_dirty.new.journal.pages c.args.pool.now.table.entries
    c.drain_dirty.new.self.table.entries c.args.journal.now.changed c.drain_dirty.new.journal.changed c.write_slot.new.self.changed _ _ _
    c.drain_dirty.ensures.journal.0 c.in_err-write_slot.ensures.unlisted c.drain_dirty.ensures.below c.drain_dirty.ensures.kept
    c.in_err-write_slot.ensures.given_up c.in_err-write_slot.ensures.tore c.write_slot.ensures.crash)

pub returns-in_err-drain_dirty-clause-writes : goal.returns-in_err-drain_dirty-clause-writes
returns-in_err-drain_dirty-clause-writes g c =
    let n = c.args.journal.now.pages in
    let es = c.args.pool.now.table.entries in
    let old = c.args.journal.now.changed in
    let m = marked_count n es old in
    let d = length (filter (is_dirty es) (range_with_len 1 (n - 1))) in
    let most : d ≤ m = dirty_most n es old (omega (arith, c.requires.range)) in
    let w1 = c.drain_dirty.ensures.writes in
    goes_more_writes d (2 * m + 5) _ _ (omega (arith, most)) w1

pub returns-in_err-write_slot-clause-writes : goal.returns-in_err-write_slot-clause-writes
returns-in_err-write_slot-clause-writes g c =
    let n = c.args.journal.now.pages in
    let es = c.args.pool.now.table.entries in
    let old = c.args.journal.now.changed in
    let m = marked_count n es old in
    let d = length (filter (is_dirty es) (range_with_len 1 (n - 1))) in
    let most : d ≤ m = dirty_most n es old (omega (arith, c.requires.range)) in
    let w1 = c.drain_dirty.ensures.writes in
    goes_written_too d 1 (2 * m + 5) _ _ _ (omega (arith, most)) w1 c.write_slot.ensures.writes

pub returns-in_err-seal-clause-writes : goal.returns-in_err-seal-clause-writes
returns-in_err-seal-clause-writes g c =
    let n = c.args.journal.now.pages in
    let es = c.args.pool.now.table.entries in
    let old = c.args.journal.now.changed in
    let m = marked_count n es old in
    let d = length (filter (is_dirty es) (range_with_len 1 (n - 1))) in
    let most : d ≤ m = dirty_most n es old (omega (arith, c.requires.range)) in
    let w1 = c.drain_dirty.ensures.writes in
    let w2 = goes_written_too d 1 (d + 1) _ _ _ (omega arith) w1 c.write_slot.ensures.writes in
    goes_written_too (d + 1) 2 (2 * m + 5) _ _ _ (omega (arith, most)) w2 c.seal.ensures.writes

pub returns-in_err-carry_home_from-clause-writes : goal.returns-in_err-carry_home_from-clause-writes
returns-in_err-carry_home_from-clause-writes g c =
    let n = c.args.journal.now.pages in
    let es = c.args.pool.now.table.entries in
    let old = c.args.journal.now.changed in
    let m = marked_count n es old in
    let d = length (filter (is_dirty es) (range_with_len 1 (n - 1))) in
    let most : d ≤ m = dirty_most n es old (omega (arith, c.requires.range)) in
    let w1 = c.drain_dirty.ensures.writes in
    let w2 = goes_written_too d 1 (d + 1) _ _ _ (omega arith) w1 c.write_slot.ensures.writes in
    let w3 = goes_written_too (d + 1) 2 (d + 3) _ _ _ (omega arith) w2 c.seal.ensures.writes in
    let fs = c.drain_dirty.new.self.table.entries in
    let j1 = c.drain_dirty.new.journal in
    let kept = marked_kept n es fs old j1.changed c.drain_dirty.ensures.marked in
    let first = changed_most n fs j1.changed (c.drain_dirty.ensures.journal.2 ∙ c.requires.bits) in
    let more = count_set j1.changed 0 in
    let k = changed_count c.seal.new.self.changed in
    let same : k ≡ changed_count (set j1.changed 0 true) = ap changed_count (c.seal.ensures.same.1 ∙ c.in_ok-write_slot.ensures.changed) in
    goes_written_too (d + 3) k (2 * m + 5) _ _ _ (omega (arith, most, kept, first, more, same)) w3 c.carry_home_from.ensures.writes

pub returns-in_err-unseal-clause-writes : goal.returns-in_err-unseal-clause-writes
returns-in_err-unseal-clause-writes g c =
    let n = c.args.journal.now.pages in
    let es = c.args.pool.now.table.entries in
    let old = c.args.journal.now.changed in
    let m = marked_count n es old in
    let d = length (filter (is_dirty es) (range_with_len 1 (n - 1))) in
    let most : d ≤ m = dirty_most n es old (omega (arith, c.requires.range)) in
    let w1 = c.drain_dirty.ensures.writes in
    let w2 = goes_written_too d 1 (d + 1) _ _ _ (omega arith) w1 c.write_slot.ensures.writes in
    let w3 = goes_written_too (d + 1) 2 (d + 3) _ _ _ (omega arith) w2 c.seal.ensures.writes in
    let fs = c.drain_dirty.new.self.table.entries in
    let j1 = c.drain_dirty.new.journal in
    let kept = marked_kept n es fs old j1.changed c.drain_dirty.ensures.marked in
    let first = changed_most n fs j1.changed (c.drain_dirty.ensures.journal.2 ∙ c.requires.bits) in
    let more = count_set j1.changed 0 in
    let k = changed_count c.seal.new.self.changed in
    let same : k ≡ changed_count (set j1.changed 0 true) = ap changed_count (c.seal.ensures.same.1 ∙ c.in_ok-write_slot.ensures.changed) in
    let w4 = goes_written_too (d + 3) k (d + 3 + k) _ _ _ (omega arith) w3 c.carry_home_from.ensures.writes in
    goes_written_too (d + 3 + k) 1 (2 * m + 5) _ _ _ (omega (arith, most, kept, first, more, same)) w4 c.unseal.ensures.writes

pub returns-clause-writes : goal.returns-clause-writes
returns-clause-writes g c =
    let n = c.args.journal.now.pages in
    let es = c.args.pool.now.table.entries in
    let old = c.args.journal.now.changed in
    let m = marked_count n es old in
    let d = length (filter (is_dirty es) (range_with_len 1 (n - 1))) in
    let most : d ≤ m = dirty_most n es old (omega (arith, c.requires.range)) in
    let w1 = c.drain_dirty.ensures.writes in
    let w2 = goes_written_too d 1 (d + 1) _ _ _ (omega arith) w1 c.write_slot.ensures.writes in
    let w3 = goes_written_too (d + 1) 2 (d + 3) _ _ _ (omega arith) w2 c.seal.ensures.writes in
    let fs = c.drain_dirty.new.self.table.entries in
    let j1 = c.drain_dirty.new.journal in
    let kept = marked_kept n es fs old j1.changed c.drain_dirty.ensures.marked in
    let first = changed_most n fs j1.changed (c.drain_dirty.ensures.journal.2 ∙ c.requires.bits) in
    let more = count_set j1.changed 0 in
    let k = changed_count c.seal.new.self.changed in
    let same : k ≡ changed_count (set j1.changed 0 true) = ap changed_count (c.seal.ensures.same.1 ∙ c.in_ok-write_slot.ensures.changed) in
    let w4 = goes_written_too (d + 3) k (d + 3 + k) _ _ _ (omega arith) w3 c.carry_home_from.ensures.writes in
    goes_written_too (d + 3 + k) 1 (2 * m + 5) _ _ _ (omega (arith, most, kept, first, more, same)) w4 c.unseal.ensures.writes
