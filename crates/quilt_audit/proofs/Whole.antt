-- The whole tree, and what its records spell.
use Rattle.std.proofs.Common.{◌≡◌, ℕ, zero, suc, ◌+◌, ◌<◌, ◌≤◌, true, List, [], length, replicate, Option, Some, None, refl, sym, ◌∙◌, ap, subst, arith}
use Rattle.quilt_types.specs.Layers.{Map}
use Rattle.quilt_loc.specs.Codes.{Rises}
use Rattle.quilt_record.specs.declared.record.Record.{Record}
use Rattle.quilt_record.specs.declared.entry.Entry.{Entry}
use Rattle.quilt_record.specs.Records.{Numbering}
use Rattle.quilt_node.specs.declared.head.Head.{Head}
use Rattle.quilt_node.specs.Pages.{IsHead}
use Rattle.quilt_node.specs.Tree.{Whole, Damaged, walk, walk_of, page_of_walk}
use Rattle.quilt_world.specs.Tale.{Goes}
use Rattle.quilt_btree.specs.declared.tree.Tree.{Tree}
use Rattle.quilt_spell.specs.Spelled.{SpellsUnder}
use Rattle.quilt_spell.specs.Written.{by_key}
use Rattle.quilt_spell.proofs.Laws.{members}
use Rattle.quilt_region.proofs.Trees.{tree_rises}
use Rattle.quilt_audit.specs.declared.progress.Surveying.{Surveying}
use Rattle.quilt_audit.specs.Bits.{Marks, AreWithin}
use Rattle.quilt_audit.specs.Surveys.{IsSurvey, IsDamage}
use Rattle.quilt_audit.specs.Checking.{IsFed, SpellsSomeMap}
use Rattle.quilt_audit.specs.Walking.{Found, IsWalked}
use Rattle.quilt_audit.proofs.Bits.{Marks-none, AreWithin-none}
use Rattle.quilt_audit.proofs.Walked.{from_to, spent_few}

-- ---- the tree and the walk of its root
pub tree_of_none : (pages : List (List ℕ)) (root height : ℕ) → height ≡ 0 → walk_of pages root height ≡ Whole [] []
unfolding walk_of
tree_of_none pages root zero e = refl
tree_of_none pages root (suc h) e = absurd (omega arith)

pub tree_of_root : (pages : List (List ℕ)) (root height : ℕ) → (height ≡ 0 → ⊥)
    → walk_of pages root height ≡ walk pages height true (root, from_to None None) []
unfolding walk_of
tree_of_root pages root zero ne = absurd (ne refl)
tree_of_root pages root (suc h) ne = refl

reads_same : (o : Option ℕ) → Goes {A = ℕ} (λ was is. is ≤ was + 0) o o
reads_same None = tt
reads_same (Some n) = omega arith

few_same : (size : ℕ) (o : Option ℕ) → 16 ≤ size → Goes {A = ℕ} (λ was is. is < was + size) o o
few_same size None room = tt
few_same size (Some n) room = omega arith

reads_new : (n : ℕ) (a b : Option ℕ) → Goes {A = ℕ} (λ was is. is + 0 ≤ was + n) a b → Goes {A = ℕ} (λ was is. is ≤ was + n) a b
reads_new n None None h = tt
reads_new n (Some x) (Some y) h = omega arith
reads_new n None (Some y) h = absurd h
reads_new n (Some x) None h = absurd h

pub unmarked : (used : List ℕ) → used ≡ replicate 3750 0 → Marks used []
unmarked used e = subst (λ (l : List ℕ). Marks l []) (sym e) (Marks-none 3750)

-- no tree
pub walked_none : (size : ℕ) → 16 ≤ size → (told : Option (List (List ℕ))) (head : Head) (s : Surveying) (reads : Option ℕ) → head.height ≡ 0
    → s.used ≡ replicate 3750 0 → s.checker.format ≡ head.format → s.checker.level ≡ head.level
    → IsFed head.records s.checker [] → IsWalked size told head s reads reads
walked_none size room told head s reads none used format level fed = record {
  rs = [];
  now = [];
  format = format;
  level = level;
  fed = fed;
  marks = subst (λ (l : List ℕ). Marks l []) (sym used) (Marks-none 3750);
  within = subst (AreWithin size) (sym used) (AreWithin-none size 3750);
  reads = reads_same reads;
  few = few_same size reads room;
  walks = λ pages e. tree_of_none pages head.root head.height none;
}

-- a tree from its root on
pub walked_root : (size : ℕ) → 16 ≤ size → (told : Option (List (List ℕ))) (head : Head) (old new : Surveying) (before after : Option ℕ)
    → (head.height ≡ 0 → ⊥) → old.used ≡ replicate 3750 0 → old.checker.format ≡ head.format → old.checker.level ≡ head.level
    → IsFed head.records old.checker []
    → ((visited : List ℕ) → Marks old.used visited
    → Found size told (λ pages. walk pages head.height true (head.root, from_to None None) visited) visited old new before after)
    → IsWalked size told head new before after
walked_root size room told head old new before after some used format level fed found =
    let f = found [] (subst (λ (l : List ℕ). Marks l []) (sym used) (Marks-none 3750)) in
    record {
      rs = f.rs;
      now = f.now;
      format = f.added.takes.format ∙ format;
      level = f.added.takes.level ∙ level;
      fed = f.added.takes.fed head.records [] fed;
      marks = f.added.marks;
      within = f.added.within (subst (AreWithin size) (sym used) (AreWithin-none size 3750));
      reads = reads_new (length f.now) before after f.added.spent.reads;
      few = spent_few size f.now before after room f.added.spent;
      walks = λ pages e. tree_of_root pages head.root head.height some ∙ f.walks pages e;
    }

-- ---- the records of a whole tree
whole_same : (rs ss : List Record) (u v : List ℕ) → Whole rs u ≡ Whole ss v → (rs ≡ ss) × (u ≡ v)
whole_same rs ss u v e = (let a : rs ≡ ss = cc in a, let b : u ≡ v = cc in b)

pub records_rise : (pages : List (List ℕ)) (head : Head) (rs : List Record) (now : List ℕ)
    → walk_of pages head.root head.height ≡ Whole rs now → Rises by_key rs
records_rise pages head rs now w =
    let t : Tree = record { root = head.root; height = head.height; records = head.records } in
    tree_rises (Some pages) t rs (record { pages = pages; is_told = refl; visited = now; walk = w })

module _ (size : ℕ) (told : Option (List (List ℕ))) (head : Head) (s : Surveying) (before after : Option ℕ)
    (h : IsWalked size told head s before after) (ok : IsHead size head) (pages : List (List ℕ)) (is_told : told ≡ Some pages) where
  pub survey_from : (entries : List Entry)
      → ((total : ℕ) (rs : List Record) → IsFed total s.checker rs → Rises by_key rs → SpellsSomeMap s.checker.format s.checker.level entries rs
      × (length rs ≡ total)) → IsSurvey pages head entries s.used
  survey_from entries spelled =
      let w = spelled head.records h.rs h.fed (records_rise pages head h.rs h.now (h.walks pages is_told)) in
      let g = w.0 in
      record {
        records = h.rs;
        visited = h.now;
        tree = h.walks pages is_told;
        count = w.1;
        numbers = g.numbers;
        layers = g.layers;
        spelled = subst (λ (f : ℕ). SpellsUnder f head.level g.numbers h.rs g.layers) h.format
            (subst (λ (n : ℕ). SpellsUnder s.checker.format n g.numbers h.rs g.layers) h.level g.spelled);
        catalogued = g.catalogued;
        marks = h.marks;
      }

  pub damage_from : ((total : ℕ) (rs : List Record) → IsFed total s.checker rs → (numbers : Numbering) (layers : Map)
      → SpellsUnder s.checker.format s.checker.level numbers rs layers → length rs ≡ total → ⊥) → IsDamage pages head 0
  damage_from refused = record {
    first = sym (ap page_of_walk (h.walks pages is_told));
    none = λ records visited layers w spells count.
        let same = (whole_same h.rs records h.now visited (sym (h.walks pages is_told) ∙ w)).0 in
        let m = (members head.format head.level records layers ok.level.1).0 spells in
        let under = subst (λ (l : List Record). SpellsUnder head.format head.level m.0 l layers) (sym same) m.1 in
        refused head.records h.rs h.fed m.0 layers
        (subst (λ (f : ℕ). SpellsUnder f s.checker.level m.0 h.rs layers) (sym h.format)
        (subst (λ (n : ℕ). SpellsUnder head.format n m.0 h.rs layers) (sym h.level) under))
        (ap length same ∙ count);
  }

-- where a page is damaged
pub damage_at : (pages : List (List ℕ)) (head : Head) (page : ℕ) → walk_of pages head.root head.height ≡ Damaged page → IsDamage pages head page
damage_at pages head page w = record {
  first = sym (ap page_of_walk w);
  none = λ records visited layers v spells count. let clash : Damaged page ≡ Whole records visited = sym w ∙ v in cc;
}
