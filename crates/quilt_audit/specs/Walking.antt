-- A walk over the pages of a tree that marks each of them and hands on their records.
use Rattle.std.specs.Prelude.{◌≡◌, ℕ, ◌+◌, ◌<◌, ◌≤◌, List, length, Option, Some, Contains}
use Rattle.quilt_record.specs.declared.record.Record.{Record}
use Rattle.quilt_node.specs.Tree.{Walk, Whole, walk_of}
use Rattle.quilt_node.specs.declared.head.Head.{Head}
use Rattle.quilt_world.specs.Tale.{Goes}
use Rattle.quilt_spell.specs.Apart.{Apart}
use Rattle.quilt_audit.specs.declared.progress.Surveying.{Surveying}
use Rattle.quilt_audit.specs.Bits.{Marks, AreWithin}
use Rattle.quilt_audit.specs.Checking.{TakesRecords, IsFed}

-- Each page that was read is another one of the store, and none of those that were visited before.
pub record Spent (size : ℕ) (visited now : List ℕ) (before after : Option ℕ) : Type 0 where
  pub apart : Apart visited → Apart now
  pub in_store : ((p : ℕ) → Contains visited p → (1 ≤ p) × (p < size)) → (p : ℕ) → Contains now p → (1 ≤ p) × (p < size)
  pub reads : Goes (λ was is. is + length visited ≤ was + length now) before after

-- some such pages
pub record SpentSome (size : ℕ) (visited : List ℕ) (before after : Option ℕ) : Type 0 where
  pub now : List ℕ
  pub spent : Spent size visited now before after

-- these records were handed on, and these pages are marked now
pub record Added (size : ℕ) (visited : List ℕ) (old new : Surveying) (before after : Option ℕ) (rs : List Record) (now : List ℕ) : Type 0 where
  pub takes : TakesRecords old.checker rs new.checker
  pub marks : Marks new.used now
  pub within : AreWithin size old.used → AreWithin size new.used
  pub spent : Spent size visited now before after

-- a walk whose result is this, where the pages are told, has found what it added
pub record Found (size : ℕ) (told : Option (List (List ℕ))) (found : List (List ℕ) → Walk) (visited : List ℕ) (old new : Surveying)
    (before after : Option ℕ) : Type 0 where
  pub rs : List Record
  pub now : List ℕ
  pub added : Added size visited old new before after rs now
  pub walks : (pages : List (List ℕ)) → told ≡ Some pages → found pages ≡ Whole rs now

-- As far as a row of children was visited: where the pages are told, the walk of all is that of the rest behind what was found.
pub record Reached (size : ℕ) (told : Option (List (List ℕ))) (all : List (List ℕ) → Walk) (rest : List (List ℕ) → List Record → List ℕ → Walk)
    (visited : List ℕ) (old new : Surveying) (before after : Option ℕ) : Type 0 where
  pub rs : List Record
  pub now : List ℕ
  pub added : Added size visited old new before after rs now
  pub walks : (pages : List (List ℕ)) → told ≡ Some pages → all pages ≡ rest pages rs now

-- The whole tree was visited: these bits are those of its pages, and the checker was given its records.
pub record IsWalked (size : ℕ) (told : Option (List (List ℕ))) (head : Head) (s : Surveying) (before after : Option ℕ) : Type 0 where
  pub rs : List Record
  pub now : List ℕ
  pub format : s.checker.format ≡ head.format
  pub level : s.checker.level ≡ head.level
  pub fed : IsFed head.records s.checker rs
  pub marks : Marks s.used now
  pub within : AreWithin size s.used
  pub reads : Goes (λ was is. is ≤ was + length now) before after
  pub few : Goes (λ was is. is < was + size) before after
  pub walks : (pages : List (List ℕ)) → told ≡ Some pages → walk_of pages head.root head.height ≡ Whole rs now
