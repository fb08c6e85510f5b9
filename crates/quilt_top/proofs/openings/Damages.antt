-- Home pages have a header or none, and so a page that is named where they hold no edition.
use Rattle.std.proofs.Common.{◌≡◌, ◌⊎◌, inl, inr, ⊎_elim, ℕ, ◌<◌, ◌≤◌, ◌^◌, List, length, refl, sym, ◌∙◌, ap, subst, arith}
use Rattle.std.specs.Str.{bytes_eq}
use Rattle.std.proofs.lemmas.Bool.{cases_lt, cases_eq, cases_Bool, false≢true}
use Rattle.std.proofs.lemmas.Slice.Eq.{bytes_eq-Decides}
use Rattle.quilt_types.specs.Facts.{quota}
use Rattle.quilt_world.specs.Disk.{Pages}
use Rattle.quilt_world.specs.Home.{page_of}
use Rattle.quilt_node.specs.declared.head.Head.{Head}
use Rattle.quilt_node.specs.Nodes.{read_head}
use Rattle.quilt_node.specs.Pages.{header_bytes, IsHead, IsHeader}
use Rattle.quilt_node.specs.Tree.{walk_of}
use Rattle.quilt_node.proofs.Headers.{same_head}
use Rattle.quilt_edition.proofs.OneEdition.{one_head}
use Rattle.quilt_edition.proofs.Starting.{head_fits}
use Rattle.quilt_edition.specs.Stands.{IsDamagePage, page_of_walk}

-- it holds, or it does not
abbrev Either : Type 0 → Type 0
Either P = P ⊎ (P → ⊥)

both : (P Q : Type 0) → Either P → Either Q → Either (P × Q)
both P Q (inl p) (inl q) = inl (p, q)
both P Q (inl p) (inr no_) = inr (λ pq. no_ pq.1)
both P Q (inr no_) q = inr (λ pq. no_ pq.0)

turned : (P Q : Type 0) → (P → Q) → (Q → P) → Either P → Either Q
turned P Q to from (inl p) = inl (to p)
turned P Q to from (inr no_) = inr (λ q. no_ (from q))

less : (a b : ℕ) → Either (a < b)
less a b = elim (cases_lt a b) [ inl lt ↦ inl lt | inr le ↦ inr (λ lt. omega arith) ]

at_most : (a b : ℕ) → Either (a ≤ b)
at_most a b = elim (cases_lt b a) [ inl lt ↦ inr (λ le. omega arith) | inr le ↦ inl le ]

same : (a b : ℕ) → Either (a ≡ b)
same a b = elim (cases_eq a b) [ inl e ↦ inl e | inr ne ↦ inr ne ]

same_bytes : (a b : List ℕ) → Either (a ≡ b)
same_bytes a b = elim (cases_Bool (bytes_eq a b)) [
  | inl yes_ ↦ inl ((bytes_eq-Decides a b).0 yes_)
  | inr no_ ↦ inr (λ e. false≢true (sym no_ ∙ (bytes_eq-Decides a b).1 e))
]

-- the numbers of a header but those of its tree
abbrev Numbers : ℕ → Head → Type 0
Numbers n h = (1 ≤ h.format) × (h.format ≤ 2) × (h.edition < 2 ^ 32) × (1 ≤ h.level) × (h.level ≤ 12) × (h.height ≤ 3) × (h.records ≤ quota n)

numbers : (n : ℕ) (h : Head) → Either (Numbers n h)
numbers n h =
    turned (((1 ≤ h.format) × (h.format ≤ 2))
    × (((h.edition < 2 ^ 32) × (1 ≤ h.level)) × (((h.level ≤ 12) × (h.height ≤ 3)) × (h.records ≤ quota n)))) (Numbers n h)
    (λ p. (p.0.0, p.0.1, p.1.0.0, p.1.0.1, p.1.1.0.0, p.1.1.0.1, p.1.1.1)) (λ p. ((p.0, p.1), ((p.2, p.3), ((p.4, p.5), p.6))))
    (both _ _ (both _ _ (at_most 1 h.format) (at_most h.format 2))
    (both _ _ (both _ _ (less h.edition (2 ^ 32)) (at_most 1 h.level))
    (both _ _ (both _ _ (at_most h.level 12) (at_most h.height 3)) (at_most h.records (quota n)))))

-- with no tree, and with one
head_none : (n : ℕ) (h : Head) → h.height ≡ 0 → Either (IsHead n h)
head_none n h none =
    turned (Numbers n h × ((h.root ≡ 0) × (h.records ≡ 0))) (IsHead n h)
    (λ p. record {
      format = (p.0.0, p.0.1);
      edition = p.0.2;
      level = (p.0.3, p.0.4);
      height = p.0.5;
      no_tree = λ e. p.1;
      tree = λ some. absurd (omega arith);
      records = p.0.6;
    })
    (λ is. ((is.format.0, is.format.1, is.edition, is.level.0, is.level.1, is.height, is.records), is.no_tree none))
    (both _ _ (numbers n h) (both _ _ (same h.root 0) (same h.records 0)))

head_some : (n : ℕ) (h : Head) → (h.height ≡ 0 → ⊥) → Either (IsHead n h)
head_some n h some =
    turned (Numbers n h × ((1 ≤ h.root) × ((h.root < n) × (1 ≤ h.records)))) (IsHead n h)
    (λ p. record {
      format = (p.0.0, p.0.1);
      edition = p.0.2;
      level = (p.0.3, p.0.4);
      height = p.0.5;
      no_tree = λ e. absurd (some e);
      tree = λ le. (p.1.0, p.1.1.0, p.1.1.1);
      records = p.0.6;
    })
    (λ is. let t = is.tree (one_up h.height some) in ((is.format.0, is.format.1, is.edition, is.level.0, is.level.1, is.height, is.records), (t.0, (t.1, t.2))))
    (both _ _ (numbers n h) (both _ _ (at_most 1 h.root) (both _ _ (less h.root n) (at_most 1 h.records))))
  where
    one_up : (k : ℕ) → (k ≡ 0 → ⊥) → 1 ≤ k
    one_up k ne = elim (cases_lt 0 k) [ inl lt ↦ omega arith | inr le ↦ absurd (ne (omega arith)) ]

is_head : (n : ℕ) (h : Head) → Either (IsHead n h)
is_head n h = ⊎_elim (head_none n h) (head_some n h) (same h.height 0)

header_or_none : (n : ℕ) (bytes : List ℕ) → n ≤ 30000 → ((h : Head) × IsHeader n bytes h) ⊎ ((h : Head) → IsHeader n bytes h → ⊥)
header_or_none n bytes most =
    let k = read_head bytes in
    ⊎_elim (λ p. inl (k, record { numbers = p.0; written = p.1 }))
    (λ none. inr (λ h is.
    let read : k ≡ h = same_head n bytes h (head_fits n h most is.numbers) is in
    none (subst (λ (x : Head). IsHead n x × (bytes ≡ header_bytes x)) (sym read) (is.numbers, is.written))))
    (both (IsHead n k) (bytes ≡ header_bytes k) (is_head n k) (same_bytes bytes (header_bytes k)))

pub damage_page : (pages : Pages) → length pages ≤ 30000 → (page : ℕ) × IsDamagePage pages page
damage_page pages most =
    ⊎_elim (λ so. (
      page_of_walk (walk_of pages so.0.root so.0.height),
      record {
        no_header = λ none. absurd (none so.0 so.1);
        header = λ h is. ap (λ (x : Head). page_of_walk (walk_of pages x.root x.height)) (one_head (length pages) most (page_of pages 0) so.0 h so.1 is);
      },
    ))
    (λ none. (0, record { no_header = λ x. refl; header = λ h is. absurd (none h is) }))
    (header_or_none (length pages) (page_of pages 0) most)
