-- How many records a run adds that only puts records in.
use Rattle.std.proofs.Common.{◌≡◌, ◌≢◌, ℕ, ◌+◌, ◌<◌, ◌≤◌, true, List, [], ◌∷◌, length, take, drop, Ok, refl, sym, ◌∙◌, ap, subst, arith, add-one, length-take-le}
use Rattle.std.specs.List.{list_all}
use Rattle.std.proofs.lemmas.Bool.{false≢true}
use Rattle.quilt_types.specs.Facts.{quota}
use Rattle.quilt_record.specs.declared.record.Record.{Record}
use Rattle.quilt_record.specs.Lists.{put}
use Rattle.quilt_btree.specs.declared.edit.Edit.{Edit}
use Rattle.quilt_btree.specs.declared.edit.Edit.TheVariants as edit
use Rattle.quilt_btree.specs.declared.tree.Tree.{Tree}
use Rattle.quilt_btree.specs.Batches.{edit_all, more, fewer, CountsFirst}
use Rattle.quilt_btree.specs.Placing.{PutsFirst, puts_one}
use Rattle.quilt_btree.proofs.batches.Whole.{more_take, first_room}
use Rattle.quilt_btree.proofs.growth.TreeGrowth.{length-put}

-- so many records come by a run, and none goes
pub record Adds (run : List Edit) (n : ℕ) : Type 0 where
  pub adds : more run ≡ n
  pub takes : fewer run ≡ 0
  pub grows : (rs : List Record) → length (edit_all run rs) ≡ length rs + n

pub puts_add : (run : List Edit) → list_all puts_one run ≡ true → Adds run (length run)
puts_add [] puts = record { adds = refl; takes = refl; grows = λ rs. omega arith }
puts_add (edit.Put r ∷ run) puts =
    let h = puts_add run puts in
    record {
      adds = let e = h.adds in omega arith;
      takes = let e = h.takes in omega arith;
      grows = λ rs. let e = h.grows (put r rs) in let l = length-put r rs in omega arith;
    }
puts_add (edit.Remove k ∷ run) puts = absurd (false≢true puts)
puts_add (edit.Replace r ∷ run) puts = absurd (false≢true puts)

-- the first edits of a run
pub first_taken : (e : Edit) (behind : List Edit) (n : ℕ) → take (n + 1) (e ∷ behind) ≡ e ∷ take n behind
first_taken e behind n = ap (λ m. take m (e ∷ behind)) (add-one n)

module _ (r : Record) (behind : List Edit) (n : ℕ) (first : PutsFirst behind n) where
  -- a record, and those of a run behind it
  pub placed_adds : Adds (take (n + 1) (edit.Put r ∷ behind)) (n + 1)
  placed_adds =
      let e = length-take-le n behind first.number in
      let long : length (edit.Put r ∷ take n behind) ≡ n + 1 = omega arith in
      subst (λ l. Adds l (n + 1)) (sym (first_taken (edit.Put r) behind n))
      (subst (Adds (edit.Put r ∷ take n behind)) long (puts_add (edit.Put r ∷ take n behind) first.puts))

  pub placed_room : (records q : ℕ) → records + more (edit.Put r ∷ behind) ≤ q → records + (n + 1) ≤ q
  placed_room records q room =
      let run = edit.Put r ∷ behind in
      first_room records (n + 1) (more (drop (n + 1) run)) (more run) q
      (ap (λ m. m + more (drop (n + 1) run)) (sym placed_adds.adds) ∙ more_take (n + 1) run) room

  pub placed_counts : {size : ℕ} {t : Tree} (root height : ℕ) → height ≤ 3 → height ≢ 0 → (1 ≤ root) × (root < size)
      → t.records + more (edit.Put r ∷ behind) ≤ quota size
      → CountsFirst size (edit.Put r ∷ behind) t (record { root = root; height = height; records = t.records + (n + 1) }) (Ok (n + 1))
  placed_counts {size = size} {t = t} root height low some in_range room = record {
    number = let l = first.number in (omega arith, omega arith);
    rooted = record {
      height = low;
      records = placed_room t.records (quota size) room;
      tree = λ tall. (in_range.0, in_range.1, omega arith);
      none = λ none. absurd (some none);
    };
    count = let a = placed_adds.adds in let b = placed_adds.takes in omega arith;
  }
