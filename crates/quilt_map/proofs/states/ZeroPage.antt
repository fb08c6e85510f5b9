-- Home page 0 stands in no tree, so a tree stays while its bytes change.
use Rattle.std.proofs.Common.{◌≡◌, ℕ, zero, suc, ◌≤◌, ◌==◌, Bool, true, false, ◌&&◌, ◌||◌, nat_le, nat_lt, List, [], ◌∷◌, ◌++◌, ◌+◌, cond, length, set, Some}
use Rattle.std.proofs.Common.{refl, sym, ◌∙◌, ap, subst, ⊎_elim, arith, append-nil}
use Rattle.std.specs.List.{list_any, list_all}
use Rattle.std.proofs.lemmas.Bool.{cases_Bool, leb-true, false≢true, and_parts}
use Rattle.std.proofs.lemmas.List.{get_or-set_other}
use Rattle.std.proofs.Math.ListN.{length-set}
use Rattle.std.proofs.lemmas.List.Folds.{list_any-append}
use Rattle.quilt_world.specs.Disk.{Pages}
use Rattle.quilt_record.specs.declared.key.Key.{Key}
use Rattle.quilt_record.specs.declared.record.Record.{Record}
use Rattle.quilt_record.proofs.Names.{some_same}
use Rattle.quilt_node.specs.Tree.{Bounds, bounded, Whole, walk_of}
use Rattle.quilt_btree.specs.declared.tree.Tree.{Tree}
use Rattle.quilt_btree.specs.Subtree.{Reading, Row, Subtree}
use Rattle.quilt_btree.specs.Edits.{IsWhole, multiplicity}
use Rattle.quilt_btree.proofs.growth.TreeGrowth.{root_found}
use Rattle.quilt_btree.proofs.subtrees.Trees.{inner_list}
use Rattle.quilt_btree.proofs.subtrees.Walks.{same_number}
use Rattle.quilt_edition.proofs.SameEdition.{same_walk}

abbrev has_zero : List ℕ → Bool
has_zero used = list_any (λ v. v == 0) used

-- these places are at pages from 1 on
abbrev FromOne : List (ℕ × Bounds) → Type 0
FromOne [] = Unit {0}
FromOne (c ∷ cs) = (1 ≤ c.0) × FromOne cs

bounded_from : (n : ℕ) (cs : List ℕ) (ks : List Key) (b : Bounds) → list_all (λ c. nat_le 1 c && nat_lt c n) cs ≡ true → FromOne (bounded cs ks b)
bounded_from n [] ks b h = tt
bounded_from n (c ∷ cs) [] b h =
    let p = and_parts (nat_le 1 c && nat_lt c n) (list_all (λ d. nat_le 1 d && nat_lt d n) cs) h in
    (leb-true 1 c (and_parts (nat_le 1 c) (nat_lt c n) p.0).0, bounded_from n cs [] b p.1)
bounded_from n (c ∷ cs) (k ∷ ks) b h =
    let p = and_parts (nat_le 1 c && nat_lt c n) (list_all (λ d. nat_le 1 d && nat_lt d n) cs) h in
    (leb-true 1 c (and_parts (nat_le 1 c) (nat_lt c n) p.0).0, bounded_from n cs ks (record { low = Some k; high = b.high }) p.1)

neither : (xs ys : List ℕ) → has_zero xs ≡ false → has_zero ys ≡ false → has_zero (xs ++ ys) ≡ false
neither xs ys p q = list_any-append (λ v. v == 0) xs ys ∙ ap (λ b. b || has_zero ys) p ∙ q

row_from : (S : Reading) → ((c : ℕ × Bounds) (rs : List Record) (used : List ℕ) → 1 ≤ c.0 → S c rs used → has_zero used ≡ false)
    → (cs : List (ℕ × Bounds)) (rs : List Record) (used : List ℕ) → FromOne cs → Row S cs rs used → has_zero used ≡ false
row_from S each [] rs used from row = ap has_zero row.1
row_from S each (c ∷ cs) rs used from row =
    ap has_zero row.is_used
    ∙ neither row.rest_used row.first_used (row_from S each cs row.rest row.rest_used from.1 row.after) (each c row.first row.first_used from.0 row.here)

not_zero : (p : ℕ) → 1 ≤ p → (p == 0) ≡ false
not_zero p some = ⊎_elim (λ t. absurd (let e = same_number p 0 t in omega arith)) (λ f. f) (cases_Bool (p == 0))

subtree_from : (pages : Pages) (height : ℕ) (is_root : Bool) (at : ℕ × Bounds) (rs : List Record) (used : List ℕ) → 1 ≤ at.0
    → Subtree pages height is_root at rs used → has_zero used ≡ false
subtree_from pages zero is_root at rs used some s = absurd s
subtree_from pages (suc zero) is_root at rs used some s = ap has_zero s.is_used ∙ ap (λ b. b || false) (not_zero at.0 some)
subtree_from pages (suc (suc h)) is_root at rs used some s =
    let list = inner_list (length pages) _ s.inner s.page in
    let under = row_from (Subtree pages (suc h) false) (λ c ss us one t. subtree_from pages (suc h) false c ss us one t)
    (bounded s.inner.children s.inner.keys at.1) rs s.under
    (bounded_from (length pages) s.inner.children s.inner.keys at.1 list.in_range) s.children in
    ap has_zero s.is_used ∙ neither s.under (at.0 ∷ []) under (ap (λ b. b || false) (not_zero at.0 some))

visited_from : (pages : Pages) (root height : ℕ) (rs : List Record) (visited : List ℕ) → (1 ≤ height → 1 ≤ root)
    → walk_of pages root height ≡ Whole rs visited → has_zero visited ≡ false
unfolding walk_of
visited_from pages root zero rs visited some w = let e : [] ≡ visited = cc in ap has_zero (sym e)
visited_from pages root (suc h) rs visited some w =
    let found = root_found pages root (suc h) rs visited (omega arith) w in
    let used = subtree_from pages (suc h) true (root, record { low = _; high = _ }) rs found.used (some (omega arith)) found.spells in
    ap has_zero (found.is_now ∙ append-nil found.used) ∙ used

-- A whole tree stays whole where page 0 has other bytes, and where the same pages are free.
pub whole_over : (pages : Pages) (free now : ℕ → Bool) (n : ℕ) (t : Tree) (rs : List Record) (bytes : List ℕ) → (1 ≤ t.height → 1 ≤ t.root)
    → ((p : ℕ) → now p ≡ free p) → IsWhole (Some pages) free n t rs → IsWhole (Some (set pages 0 bytes)) now n t rs
whole_over pages free now n t rs bytes some same whole =
    let tree = whole.tree in
    let are : tree.pages ≡ pages = sym (some_same pages tree.pages tree.is_told) in
    let walk = subst (λ (ps : Pages). walk_of ps t.root t.height ≡ Whole rs tree.visited) are tree.walk in
    let none = visited_from pages t.root t.height rs tree.visited some walk in
    record {
      tree = record {
        pages = set pages 0 bytes;
        is_told = refl;
        visited = tree.visited;
        walk = same_walk (set pages 0 bytes) pages (length-set pages 0 bytes) t.root t.height rs tree.visited
            (λ p is. get_or-set_other pages 0 p bytes [] (λ e. false≢true (sym none ∙ ap (λ q. list_any (λ v. v == q) tree.visited) (sym e) ∙ is))) walk;
      };
      number = whole.number;
      balance = λ p low high. ap (λ b. cond b 1 0 + multiplicity p tree.visited) (same p) ∙ whole.balance p low high;
    }
