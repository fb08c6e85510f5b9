-- The records of the catalog, and the layers of a map by their kinds.
use Rattle.std.proofs.Common.{◌≡◌, ℕ, ◌≤◌, ◌⊎◌, true, cond, List, refl, sym, ◌∙◌, ap, subst, inl, inr, ⊎_elim, arith, eqb, eqb-true}
use Rattle.std.proofs.lemmas.Bool.{cases_Bool, cond-true, cond-false}
use Rattle.quilt_types.specs.declared.plane.Kind.{Kind}
use Rattle.quilt_types.specs.declared.plane.Kind.TheVariants as kinds
use Rattle.quilt_types.specs.Layers.{Layer, Region, Points, Lines, IsLayer, is_name}
use Rattle.quilt_types.specs.Facts.{Fact, IsOfKind, HasColour, HoldsPoint, HoldsNoPoint, IsSegment, IsMetBy, IsMetByNone}
use Rattle.quilt_record.specs.declared.record.Record.{Record}
use Rattle.quilt_record.specs.declared.entry.Entry.{Entry}
use Rattle.quilt_record.specs.Records.{record_of, kind_number}
use Rattle.quilt_record.specs.Listing.{IsEntryOf, KindFits, number_of_kind, number_beside}
use Rattle.quilt_record.proofs.Names.{entry_name, entry_kind, entry_byte, name_alone}
use Rattle.quilt_spell.specs.Catalogued.{kind_of}
use Rattle.quilt_spell.specs.OfLayer.{kind_record}
use Rattle.quilt_audit.specs.Checking.{entry_record}

-- the entry of a layer
abbrev pub named_entry : List ℕ → ℕ → Layer → Entry
named_entry name k l = record { number = k; name = name; kind = kind_of l }

pub kind_record_is : (n : ℕ) (name : List ℕ) (k : ℕ) (l : Layer) → kind_record n name k l ≡ entry_record n (named_entry name k l)
kind_record_is n name k (Region grid) = refl
kind_record_is n name k (Points capacity points) = refl
kind_record_is n name k (Lines threshold segs cover) = refl

kind_fits : (form n : ℕ) (l : Layer) → IsLayer form n l → KindFits form (kind_of l)
kind_fits form n (Region grid) v = tt
kind_fits form n (Points capacity points) v = (v.least, v.most)
kind_fits form n (Lines threshold segs cover) v = (v.least, v.most)

-- an entry is read of its record
pub entry_is : (form n : ℕ) (e : Entry) → 1 ≤ e.number → e.number ≤ 255 → is_name e.name ≡ true → KindFits form e.kind → IsEntryOf form (entry_record n e) e
entry_is form n e least most named kind = record { least = least; most = most; named = named; kind = kind; written = λ m capacity. refl }

pub named_entry_is : (form n : ℕ) (r : Record) (name : List ℕ) (k : ℕ) (l : Layer) → 1 ≤ k → k ≤ 255 → is_name name ≡ true → IsLayer form n l
    → r ≡ kind_record n name k l → IsEntryOf form r (named_entry name k l)
named_entry_is form n r name k l least most named fits is =
    subst (λ (q : Record). IsEntryOf form q (named_entry name k l)) (sym (is ∙ kind_record_is n name k l))
    (entry_is form n (named_entry name k l) least most named (kind_fits form n l fits))

-- ---- what is read of a record of the catalog is one entry
beside_cases : (x : ℕ) → ((x ≡ 1) × (cond (eqb x 1) 0 x ≡ 0)) ⊎ (cond (eqb x 1) 0 x ≡ x)
beside_cases x =
    ⊎_elim (λ t. inl (eqb-true x 1 t, cond-true (eqb x 1) 0 x t)) (λ f. inr (cond-false (eqb x 1) 0 x f)) (cases_Bool (eqb x 1))

beside_same : (x y : ℕ) → 1 ≤ x → 1 ≤ y → cond (eqb x 1) 0 x ≡ cond (eqb y 1) 0 y → x ≡ y
beside_same x y hx hy e =
    ⊎_elim
    (λ a. ⊎_elim (λ b. a.0 ∙ sym b.0) (λ b. let c = a.1 in absurd (omega arith)) (beside_cases y))
    (λ a. ⊎_elim (λ b. let c = b.1 in absurd (omega arith)) (λ b. sym a ∙ e ∙ b) (beside_cases y))
    (beside_cases x)

kind_alone : (form : ℕ) (a b : Kind) → KindFits form a → KindFits form b → number_of_kind a ≡ number_of_kind b
    → kind_number (number_of_kind a) (number_beside a) ≡ kind_number (number_of_kind b) (number_beside b) → a ≡ b
kind_alone form kinds.Region kinds.Region u v e f = refl
kind_alone form (kinds.Points x) (kinds.Points y) u v e f = ap (λ (z : ℕ). kinds.Points z) (beside_same x y u.0 v.0 f)
kind_alone form (kinds.Lines x) (kinds.Lines y) u v e f = ap (λ (z : ℕ). kinds.Lines z) f
kind_alone form kinds.Region (kinds.Points y) u v e f = absurd (omega arith)
kind_alone form kinds.Region (kinds.Lines y) u v e f = absurd (omega arith)
kind_alone form (kinds.Points x) kinds.Region u v e f = absurd (omega arith)
kind_alone form (kinds.Points x) (kinds.Lines y) u v e f = absurd (omega arith)
kind_alone form (kinds.Lines x) kinds.Region u v e f = absurd (omega arith)
kind_alone form (kinds.Lines x) (kinds.Points y) u v e f = absurd (omega arith)

pub entry_alone : (form : ℕ) (r : Record) (d e : Entry) → IsEntryOf form r d → IsEntryOf form r e → d ≡ e
entry_alone form r d e f g =
    let name = name_alone d.name e.name f.named g.named (sym (entry_name form r d f) ∙ entry_name form r e g) in
    let number = sym (ap (λ (s : Record). s.key.item) (f.written 0 0)) ∙ ap (λ (s : Record). s.key.item) (g.written 0 0) in
    let kind = kind_alone form d.kind e.kind f.kind g.kind (sym (entry_kind form r d f) ∙ entry_kind form r e g)
    (sym (entry_byte form r d f) ∙ entry_byte form r e g) in
    λ i. record { number = number i; name = name i; kind = kind i }

-- ---- the name of a layer stands in the record of its kind alone
pub free_or_kind : (n c k : ℕ) (a b : List ℕ) (f : Fact) → ((record_of n c a k f).key.layer ≡ 0) ⊎ (record_of n c a k f ≡ record_of n c b k f)
free_or_kind n c k a b (IsOfKind i j) = inl refl
free_or_kind n c k a b (HasColour d x) = inr refl
free_or_kind n c k a b (HoldsPoint d p l) = inr refl
free_or_kind n c k a b (HoldsNoPoint d) = inr refl
free_or_kind n c k a b (IsSegment i s) = inr refl
free_or_kind n c k a b (IsMetBy d i) = inr refl
free_or_kind n c k a b (IsMetByNone d) = inr refl
