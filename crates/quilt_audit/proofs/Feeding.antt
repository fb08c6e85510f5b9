-- Records that a checker takes one after another.
use Rattle.std.proofs.Common.{◌≡◌, ℕ, ◌+◌, ◌≤◌, List, [], ◌∷◌, ◌++◌, length, take, Some, refl, sym, ◌∙◌, ap, subst, append_assoc}
use Rattle.std.specs.List.{slice_get}
use Rattle.std.proofs.lemmas.List.{append-nil, take_more, take_all}
use Rattle.std.proofs.lemmas.Option.{slice_get_within, get_or_from_slice_get}
use Rattle.quilt_record.specs.declared.record.Record.{Record}
use Rattle.quilt_audit.specs.declared.checker.Checker.{Checker}
use Rattle.quilt_audit.specs.Checking.{IsFed, TakesRecords}

pub Takes-none : (c : Checker) → TakesRecords c [] c
Takes-none c = record {
  level = refl;
  format = refl;
  fed = λ total before f. subst (IsFed total c) (sym (append-nil before)) f;
}

pub Takes-then : (a b c : Checker) (rs ss : List Record) → TakesRecords a rs b → TakesRecords b ss c → TakesRecords a (rs ++ ss) c
Takes-then a b c rs ss h k = record {
  level = k.level ∙ h.level;
  format = k.format ∙ h.format;
  fed = λ total before f. subst (IsFed total c) (append_assoc before rs ss) (k.fed total (before ++ rs) (h.fed total before f));
}

-- the first records of a list, and one more
pub Takes-more : (a b c : Checker) (rs : List Record) (i : ℕ) (r : Record) → slice_get rs i ≡ Some r → TakesRecords a (take i rs) b → TakesRecords b (r ∷ []) c
    → TakesRecords a (take (i + 1) rs) c
Takes-more a b c rs i r at h k =
    let e : take (i + 1) rs ≡ take i rs ++ r ∷ [] =
    take_more rs i r (slice_get_within rs i r at) ∙ ap (λ z. take i rs ++ z ∷ []) (get_or_from_slice_get rs i r r at) in
    subst (λ (l : List Record). TakesRecords a l c) (sym e) (Takes-then a b c (take i rs) (r ∷ []) h k)

pub Takes-all : (a c : Checker) (rs : List Record) (i : ℕ) → length rs ≤ i → TakesRecords a (take i rs) c → TakesRecords a rs c
Takes-all a c rs i le h = subst (λ (l : List Record). TakesRecords a l c) (take_all i rs le) h
