-- A region layer of more leaves than there may be records: the quota refuses it, whatever the other layers are.
use Rattle.std.proofs.Common.{◌≡◌, ℕ, suc, ◌<◌, ◌≤◌, List, [], ◌∷◌, length, map, sum_by, Some, Contains, refl, sym, ◌∙◌, ap, subst, ⊎_elim, arith, nat_cmp}
use Rattle.std.specs.Cmp.Lexicographic.{slice_cmp, nat_list_cmp_total}
use Rattle.std.specs.FinMap as finmap
use Rattle.std.proofs.lemmas.List.{length-map}
use Rattle.std.proofs.lemmas.List.Sums.{sum_by-cons}
use Rattle.quilt_types.specs.declared.plane.Block.{Block}
use Rattle.quilt_types.specs.Facts.{HasColour, facts, records, quota}
use Rattle.quilt_types.specs.Layers.{Grid, Layer, Map, Region}
use Rattle.quilt_types.specs.Quadtrees.{leaves}
use Rattle.quilt_types.specs.declared.code.Code.TheVariants as no
use Rattle.quilt_loc.proofs.Members.{Contains-nil, Contains-cons_cases}
use Rattle.quilt_world.specs.declared.disk.Disk as disk
use Rattle.quilt_blocks.specs.Cutting.{leaves_by_code}
use Rattle.quilt_measure.proofs.Parts.{same_leaves}
use Rattle.quilt_spell.proofs.Changes.{got_here}
use Rattle.quilt_spell.proofs.Maps.{entry_from_get}
use Rattle.quilt_spell.proofs.Written.{name_same}
use Rattle.quilt_replies.specs.Answers.{State}
use Rattle.quilt_replies.specs.declared.reply.Reply.TheVariants as given
use Rattle.quilt_map.specs.Making.{AnsweredBy, layer_placed}
use Rattle.quilt_map.specs.Planning.{IsFull}
use Rattle.quilt_map.specs.Sessions.{IsAtState}
use Rattle.quilt_map.specs.declared.session.Session.{Session}
use Rattle.quilt_map.proofs.answers.Placing.{full_answer}
use Rattle.quilt_map.proofs.states.ChangeSteps.{at_most}

-- a part of a sum is no more than the sum
part_of_sum : {X : Type 0} (f : X → ℕ) (xs : List X) (x : X) → Contains xs x → f x ≤ sum_by f xs
part_of_sum f [] x c = absurd (Contains-nil x c)
part_of_sum f (y ∷ ys) x c =
    let sum = sum_by-cons f y ys in
    ⊎_elim (λ is. let same = ap f is in omega arith) (λ more. let le = part_of_sum f ys x more in omega arith) (Contains-cons_cases y ys x c)

sum_of_ones : {X : Type 0} (xs : List X) → sum_by (λ _. 1) xs ≡ length xs
sum_of_ones [] = refl
sum_of_ones (x ∷ xs) =
    let sum = sum_by-cons (λ _. 1) x xs in
    let rest = sum_of_ones xs in
    let more : length (x ∷ xs) ≡ suc (length xs) = refl in
    omega arith

-- as many leaves in both orders
leaves_length : (n : ℕ) (g : Grid) → n ≤ 12 → length (leaves_by_code n g) ≡ length (leaves n g)
leaves_length n g le =
    sym (sum_of_ones (leaves_by_code n g)) ∙ same_leaves n g (λ (e : Block × ℕ). 1) le ∙ sum_of_ones (leaves n g)

-- a map with the layer has a record for each of its leaves
leaves_least : (n : ℕ) (layers : Map) (name : List ℕ) (g : Grid) → n ≤ 12
    → length (leaves_by_code n g) ≤ records n (finmap.insert layers name (Region g))
leaves_least n layers name g le =
    let work = finmap.insert layers name (Region g) in
    let there = entry_from_get (slice_cmp nat_cmp) nat_list_cmp_total name_same work name (Region g) (got_here layers name (Some (Region g))) in
    let part = part_of_sum (λ (e : List ℕ × Layer). length (facts n e.1)) (finmap.entries work) (name, Region g) there in
    let long = leaves_length n g le in
    let mapped = length-map (leaves n g) (λ (leaf : Block × ℕ). HasColour leaf.0 leaf.1) in
    let kind : length (facts n (Region g)) ≡ suc (length (map (λ (leaf : Block × ℕ). HasColour leaf.0 leaf.1) (leaves n g))) = refl in
    omega arith

module _ {W : Type 0} {D : disk.Ghosts W} (session : Session W D) (s : State) (at : IsAtState session s) where
  past_full : (name : List ℕ) (g : Grid) → s.quota < length (leaves_by_code s.last.level g) → IsFull session session s name (Some (Region g))
  past_full name g over = record {
    at = at;
    past = let least = leaves_least s.last.level s.work name g (at_most {D = D} session s at) in omega arith;
    count = refl;
  }

  -- the layer of these colours is refused
  pub past_refused : (name : List ℕ) (g : Grid) (n q : ℕ) → q ≡ quota session.book.journal.pages → n ≡ s.last.level → q < length (leaves_by_code n g)
      → AnsweredBy s (layer_placed s name (Region g)) session session (given.No no.Full)
  past_refused name g n q is level over =
      let same = at.quota in
      let here : q < length (leaves_by_code s.last.level g) = subst (λ (m : ℕ). q < length (leaves_by_code m g)) level over in
      full_answer {D = D} session session s name (Region g) at (past_full name g (omega arith))
