use Rattle.std.proofs.Common.{◌≡◌, ℕ, ◌+◌, ◌≤◌, ◌<◌, Bool, Option, List, ◌∷◌, take, subst, sym, ◌∙◌, ap, arith}
use Rattle.quilt_types.specs.Facts.{quota}
use Rattle.quilt_types.specs.declared.stop.Stop.TheVariants.{Damaged}
use Rattle.quilt_node.specs.Pages.{Inner}
use Rattle.quilt_btree.specs.declared.edit.Edit.TheVariants as edit
use Rattle.quilt_btree.specs.declared.outcomes.Inserted.{Inserted}
use Rattle.quilt_btree.specs.declared.outcomes.Inserted.TheVariants as inserted
use Rattle.quilt_btree.proofs.stores.Leaves.{edits_on, edits_damaged, inserts_tree, inserts_low}
use Rattle.quilt_btree.proofs.batches.Costs.{within_ok, first_only, first_none}
use Rattle.quilt_btree.proofs.batches.Additions.{first_taken, placed_adds, placed_room, placed_counts}
use Rattle.quilt_btree.proofs.batches.Whole.{undue_first}
use Rattle.quilt_btree.proofs.growth.InnerGrowth.{IsWritten}
use Rattle.quilt_btree.proofs.growth.TreeGrowth.{IsInserting, UnderRoot, sound_root, not_due, whole_done, not_split, root_room, whole_split}
use Rattle.quilt_btree.proofs.Handed.{handed_on}
use Rattle.quilt_btree.proofs.tree.Tree.place.Given.{Over}
use Rattle.quilt_btree.proofs.tree.Tree.place.Goals.{Start}
use Rattle.quilt_btree.proofs.tree.Tree.place.Goals as goal

-- the tree and its store
placing : (g : Over) (c : Start g) → IsInserting (g.S.PageStore.told c.args.store.now) (g.S.PageStore.free c.args.store.now)
    (g.S.PageStore.size c.args.store.now) c.args.self.now
placing g c = record {
  rooted = c.requires.rooted;
  room = let q = c.requires.room in omega arith;
  least = (g.met.S.PageStore.in_range c.args.store.now).0;
  most = (g.met.S.PageStore.in_range c.args.store.now).1;
  inside = g.met.S.PageStore.free_pages_are c.args.store.now;
  many = g.met.S.PageStore.as_many c.args.store.now;
}

-- what is said of the first edits of a run
under : (g : Over) (c : Start g) (n : ℕ) (now_told : Option (List (List ℕ))) (now : ℕ → Bool) (o : Inserted)
    → UnderRoot c.args.r.now.key (edit.Put c.args.r.now ∷ take n c.args.behind.now) (g.S.PageStore.told c.args.store.now) now_told
    (g.S.PageStore.free c.args.store.now) now (g.S.PageStore.size c.args.store.now) c.args.self.now o
    → UnderRoot c.args.r.now.key (take (n + 1) (edit.Put c.args.r.now ∷ c.args.behind.now)) (g.S.PageStore.told c.args.store.now) now_told
    (g.S.PageStore.free c.args.store.now) now (g.S.PageStore.size c.args.store.now) c.args.self.now o
under g c n now_told now o f =
    subst (λ l. UnderRoot c.args.r.now.key l (g.S.PageStore.told c.args.store.now) now_told (g.S.PageStore.free c.args.store.now) now
    (g.S.PageStore.size c.args.store.now) c.args.self.now o) (sym (first_taken (edit.Put c.args.r.now) c.args.behind.now n)) f

-- page 0 is named
zero_page : {page : ℕ} → Damaged 0 ≡ Damaged page → page ≡ 0
zero_page is = cc

pub returns-in_err-placed-clause-fails : goal.returns-in_err-placed-clause-fails
returns-in_err-placed-clause-fails g c =
    rw (handed_on c.from_residual.result c.from_residual.ensures.1)
    (λ rs w page is. absurd (sound_root _ c.args.r.now.key (placing g (goal.at.returns-in_err-placed-clause-fails g c).Start) c.requires.some
    c.in_err-placed.ensures.sound w page is))

pub overflow_cast-records : goal.overflow_cast-records
overflow_cast-records g c =
    let n = placed_room c.args.r.now c.args.behind.now c.in_ok-placed.placed.more c.in_ok-placed.ensures.puts
    c.args.self.now.records (quota (g.S.PageStore.size c.args.store.now)) c.requires.room in
    let q = (g.met.S.PageStore.in_range c.args.store.now).1 in
    omega arith

pub overflow_add-records : goal.overflow_add-records
overflow_add-records g c =
    let n = placed_room c.args.r.now c.args.behind.now c.in_ok-placed.placed.more c.in_ok-placed.ensures.puts
    c.args.self.now.records (quota (g.S.PageStore.size c.args.store.now)) c.requires.room in
    let q = (g.met.S.PageStore.in_range c.args.store.now).1 in
    omega arith

pub returns-then-self-eq3-clause-fails : goal.returns-then-self-eq3-clause-fails
returns-then-self-eq3-clause-fails g c rs w page is =
    let n = c.in_ok-placed.placed.more in
    let run = take (n + 1) (edit.Put c.args.r.now ∷ c.args.behind.now) in
    let adds = placed_adds c.args.r.now c.args.behind.now c.in_ok-placed.placed.more c.in_ok-placed.ensures.puts in
    let room = placed_room c.args.r.now c.args.behind.now c.in_ok-placed.placed.more c.in_ok-placed.ensures.puts
    c.args.self.now.records (quota (g.S.PageStore.size c.args.store.now)) c.requires.room in
    absurd (not_split c.args.r.now.key run (g.S.PageStore.told c.place_under.new.store) (g.S.PageStore.free c.place_under.new.store)
    (placing g (goal.at.returns-then-self-eq3-clause-fails g c).Start) c.requires.some w c.in-Split.key c.in-Split.right c.if-self-eq3.true
    (let m = w.number in let a = adds.grows rs in omega arith)
    (under g (goal.at.returns-then-self-eq3-clause-fails g c).Start n
    (g.S.PageStore.told c.place_under.new.store) (g.S.PageStore.free c.place_under.new.store)
    (inserted.Split c.in-Split.key c.in-Split.right) (rw c.in-Split.is at c.in_ok-placed.ensures.placed)))

pub returns-in_err-root-in-Split-clause-fails : goal.returns-in_err-root-in-Split-clause-fails
returns-in_err-root-in-Split-clause-fails g c =
    rw (handed_on c.from_residual-in_err-root-in-Split.result c.from_residual-in_err-root-in-Split.ensures.1)
    (λ rs w page is. absurd (c.in_err-root-in-Split.ensures.sound (root_room (g.S.PageStore.free c.place_under.new.store)
    (g.S.PageStore.size c.place_under.new.store) c.args.self.now rs (placing g (goal.at.returns-in_err-root-in-Split-clause-fails g c).Start)
    c.requires.some c.in_ok-placed.ensures.left.size c.in_ok-placed.ensures.leaves.room w) page is))

pub returns-in-There-clause-fails : goal.returns-in-There-clause-fails
returns-in-There-clause-fails g c rs w page is =
    let n = c.in_ok-placed.placed.more in (
      zero_page is,
      undue_first (n + 1) (edit.Put c.args.r.now ∷ c.args.behind.now) rs
          (not_due c.args.r.now.key (take (n + 1) (edit.Put c.args.r.now ∷ c.args.behind.now)) (g.S.PageStore.told c.place_under.new.store)
          (g.S.PageStore.free c.place_under.new.store) (placing g (goal.at.returns-in-There-clause-fails g c).Start) c.requires.some w
          (under g (goal.at.returns-in-There-clause-fails g c).Start n (g.S.PageStore.told c.place_under.new.store)
          (g.S.PageStore.free c.place_under.new.store) inserted.There (rw c.in-There.is at c.in_ok-placed.ensures.placed))),
    )

pub returns-in-Done-clause-counts : goal.returns-in-Done-clause-counts
returns-in-Done-clause-counts g c =
    let t = c.args.self.now in
    let in_range = c.requires.rooted.tree (let h = c.requires.some in omega arith) in
    placed_counts c.args.r.now c.args.behind.now c.in_ok-placed.placed.more c.in_ok-placed.ensures.puts t.root t.height c.requires.rooted.height
    c.requires.some (in_range.0, in_range.1) c.requires.room

pub returns-in-Done-clause-edited : goal.returns-in-Done-clause-edited
returns-in-Done-clause-edited g c rs w =
    let n = c.in_ok-placed.placed.more in
    let adds = placed_adds c.args.r.now c.args.behind.now n c.in_ok-placed.ensures.puts in
    whole_done c.args.r.now.key (take (n + 1) (edit.Put c.args.r.now ∷ c.args.behind.now)) (g.S.PageStore.told c.place_under.new.store)
    (g.S.PageStore.free c.place_under.new.store) (placing g (goal.at.returns-in-Done-clause-edited g c).Start) c.requires.some w
    (c.args.self.now.records + (n + 1)) (adds.grows rs ∙ ap (λ m. m + (n + 1)) w.number)
    (under g (goal.at.returns-in-Done-clause-edited g c).Start n (g.S.PageStore.told c.place_under.new.store) (g.S.PageStore.free c.place_under.new.store)
    inserted.Done (rw c.in-Done.is at c.in_ok-placed.ensures.placed))

pub returns-in_ok-root-in-Split-clause-counts : goal.returns-in_ok-root-in-Split-clause-counts
returns-in_ok-root-in-Split-clause-counts g c =
    let t = c.args.self.now in
    placed_counts c.args.r.now c.args.behind.now c.in_ok-placed.placed.more c.in_ok-placed.ensures.puts c.in_ok-root-in-Split.root (t.height + 1)
    (let h = c.requires.rooted.height in let l = c.if-self-eq3.false in omega arith) (omega arith)
    (subst (λ n. (1 ≤ c.in_ok-root-in-Split.root) × (c.in_ok-root-in-Split.root < n)) c.in_ok-placed.ensures.left.size c.in_ok-root-in-Split.ensures.page)
    c.requires.room

pub returns-in_ok-root-in-Split-clause-edited : goal.returns-in_ok-root-in-Split-clause-edited
returns-in_ok-root-in-Split-clause-edited g c rs w =
    let n = c.in_ok-placed.placed.more in
    let adds = placed_adds c.args.r.now c.args.behind.now n c.in_ok-placed.ensures.puts in
    let right_in : (1 ≤ c.in-Split.right) × (c.in-Split.right < g.S.PageStore.size c.args.store.now) =
    rw c.in-Split.is at c.in_ok-placed.ensures.leaves.right in
    whole_split {mid_told = g.S.PageStore.told c.place_under.new.store} {mid = g.S.PageStore.free c.place_under.new.store} {key = c.in-Split.key}
    {right = c.in-Split.right} c.args.r.now.key (take (n + 1) (edit.Put c.args.r.now ∷ c.args.behind.now))
    (placing g (goal.at.returns-in_ok-root-in-Split-clause-edited g c).Start) c.requires.some w (c.args.self.now.records + (n + 1))
    (adds.grows rs ∙ ap (λ m. m + (n + 1)) w.number)
    (under g (goal.at.returns-in_ok-root-in-Split-clause-edited g c).Start n (g.S.PageStore.told c.place_under.new.store)
    (g.S.PageStore.free c.place_under.new.store) (inserted.Split c.in-Split.key c.in-Split.right) (rw c.in-Split.is at c.in_ok-placed.ensures.placed))
    (record {
      is_written = subst (λ (x : Inner). IsWritten c.bytes.result.now x) c.pair-page.ensures c.bytes.ensures.inner;
      right_in = right_in;
      new_in = subst (λ n. (1 ≤ c.in_ok-root-in-Split.root) × (c.in_ok-root-in-Split.root < n)) c.in_ok-placed.ensures.left.size
          c.in_ok-root-in-Split.ensures.page;
      was_free = c.in_ok-root-in-Split.ensures.free;
      taken = c.in_ok-root-in-Split.ensures.taken;
      wrote = c.in_ok-root-in-Split.ensures.told;
    })

pub returns-in_err-placed-clause-left : goal.returns-in_err-placed-clause-left
returns-in_err-placed-clause-left g c =
    rw (handed_on c.from_residual.result c.from_residual.ensures.1)
    (first_none _ (edit.Put c.args.r.now ∷ c.args.behind.now) _ (omega arith)
    (within_ok _ (inserts_tree _ c.args.self.now.height c.requires.rooted.height c.in_err-placed.ensures.less c.in_err-placed.ensures.left)))

pub returns-in-There-clause-left : goal.returns-in-There-clause-left
returns-in-There-clause-left g c =
    first_none _ {T = ℕ} (edit.Put c.args.r.now ∷ c.args.behind.now) _ (omega arith) (within_ok _ (edits_damaged _ 0
    (inserts_tree _ c.args.self.now.height c.requires.rooted.height c.in_ok-placed.ensures.less c.in_ok-placed.ensures.left)))

pub returns-in-Done-clause-left : goal.returns-in-Done-clause-left
returns-in-Done-clause-left g c =
    first_only _ (edit.Put c.args.r.now ∷ c.args.behind.now) (c.in_ok-placed.placed.more + 1) (omega arith) (omega arith)
    (within_ok _ (inserts_tree _ c.args.self.now.height c.requires.rooted.height c.in_ok-placed.ensures.less c.in_ok-placed.ensures.left))

pub returns-then-self-eq3-clause-left : goal.returns-then-self-eq3-clause-left
returns-then-self-eq3-clause-left g c =
    first_none _ {T = ℕ} (edit.Put c.args.r.now ∷ c.args.behind.now) _ (omega arith) (within_ok _ (edits_damaged _ 0
    (inserts_tree _ c.args.self.now.height c.requires.rooted.height c.in_ok-placed.ensures.less c.in_ok-placed.ensures.left)))

pub returns-in_err-root-in-Split-clause-left : goal.returns-in_err-root-in-Split-clause-left
returns-in_err-root-in-Split-clause-left g c =
    rw (handed_on c.from_residual-in_err-root-in-Split.result c.from_residual-in_err-root-in-Split.ensures.1)
    (first_none _ (edit.Put c.args.r.now ∷ c.args.behind.now) _ (omega arith) (within_ok _ (edits_on _ g.met.S.PageStore.goes_on
    (inserts_low _ c.args.self.now.height c.requires.rooted.height c.if-self-eq3.false c.in_ok-placed.ensures.left) c.in_err-root-in-Split.ensures.left)))

pub returns-in_ok-root-in-Split-clause-left : goal.returns-in_ok-root-in-Split-clause-left
returns-in_ok-root-in-Split-clause-left g c =
    first_only _ (edit.Put c.args.r.now ∷ c.args.behind.now) (c.in_ok-placed.placed.more + 1) (omega arith) (omega arith)
    (within_ok _ (edits_on _ g.met.S.PageStore.goes_on
    (inserts_low _ c.args.self.now.height c.requires.rooted.height c.if-self-eq3.false c.in_ok-placed.ensures.left) c.in_ok-root-in-Split.ensures.left))
