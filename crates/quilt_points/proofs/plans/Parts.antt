-- Points in the order of their codes: those in a quarter of a block are a part of the list, behind those in the quarters before.
use Rattle.std.proofs.Common.{◌≡◌, ℕ, zero, suc, ◌+◌, ◌<◌, ◌≤◌, Bool, true, false, not, List, ◌∷◌, ◌++◌, take, drop, length, get_or, filter, sym, ◌∙◌, ap, ap₂, subst, ⊎_elim}
use Rattle.std.proofs.Common.{arith, Contains, All}
use Rattle.std.specs.List.{AllWithin}
use Rattle.std.specs.List.Sorted.{IsPartitionedBy}
use Rattle.std.proofs.lemmas.Bool.{cases_lt, cases_Bool, both_ways}
use Rattle.std.proofs.lemmas.List.{append-nil, take-append-drop, drop_more, drop_all, length-drop, length-take-le, get_or-take}
use Rattle.std.proofs.lemmas.List.Elements.{filter-append, All-contains, All-weaker, All-append, All-drop}
use Rattle.quilt_types.specs.declared.plane.Block.{Block}
use Rattle.quilt_types.specs.declared.plane.Point.{Point}
use Rattle.quilt_types.specs.Plane.{in_block, is_pixel, quarters_of, IsBlock}
use Rattle.quilt_loc.specs.Codes.{Rises, code_at, code_from, code_to}
use Rattle.quilt_loc.proofs.Members.{Contains-nil, list_all-from}
use Rattle.quilt_loc.proofs.Blocks.{Holds-from, in_block-true, side_most}
use Rattle.quilt_loc.proofs.Intervals.{code_held, held_code, half_codes}
use Rattle.quilt_edits.proofs.Lists.{member_at}
use Rattle.quilt_btree.proofs.lists.Lists.{filter_all, filter_none}
use Rattle.quilt_points.specs.Coding.{by_code, AreInCodeOrder}
use Rattle.quilt_points.proofs.Finds.{pixel_in}
use Rattle.quilt_points.proofs.Codings.{Rises-drop, first_least, codes_up, take_further, drop_further}
use Rattle.quilt_points.proofs.Quarters.{quarter_at}

-- ---- a test that a part of a list passes
module _ {X : Type 0} (p : X → Bool) (xs : List X) where
  -- the first k pass, and no others
  kept_first : (k : ℕ) → ((x : X) → Contains (take k xs) x → p x ≡ true) → ((x : X) → Contains (drop k xs) x → p x ≡ false) → filter p xs ≡ take k xs
  kept_first k here beyond =
      ap (filter p) (sym (take-append-drop k xs)) ∙ filter-append p (take k xs) (drop k xs)
      ∙ ap₂ (λ (l m : List X). l ++ m) (filter_all p (take k xs) (list_all-from p (take k xs) here))
      (filter_none p (drop k xs) (list_all-from (λ x. not (p x)) (drop k xs) (λ x c. ap not (beyond x c))))
      ∙ append-nil (take k xs)

  -- the first i do not
  kept_behind : (i : ℕ) → ((x : X) → Contains (take i xs) x → p x ≡ false) → filter p xs ≡ filter p (drop i xs)
  kept_behind i before =
      ap (filter p) (sym (take-append-drop i xs)) ∙ filter-append p (take i xs) (drop i xs)
      ∙ ap (λ (l : List X). l ++ filter p (drop i xs))
      (filter_none p (take i xs) (list_all-from (λ x. not (p x)) (take i xs) (λ x c. ap not (before x c))))

-- what holds of each up to a place holds of the first ones
pub taken_pass : {X : Type 0} (P : X → Type 0) (xs : List X) (i : ℕ) → i ≤ length xs → AllWithin P xs 0 i → All P (take i xs)
taken_pass P xs i most h = λ k d lt.
    let l = length-take-le i xs most in
    let less : k < i = omega arith in
    subst P (sym (get_or-take i xs k d less)) (h k d (omega arith) less)

-- ---- the points of a block
module _ (n : ℕ) (le : n ≤ 12) (points : List Point) (pixels : All (λ p. is_pixel n p.at ≡ true) points) (b : Block) (hb : IsBlock n b) (order : AreInCodeOrder b points) where
  inside : (p : Point) → Contains points p → code_at p.at < code_to b → in_block b p.at ≡ true
  inside p c lt =
      let from = All-contains (λ (q : Point). code_from b ≤ code_at q.at) points p order.least c in
      let xy = pixel_in n p.at (All-contains (λ (q : Point). is_pixel n q.at ≡ true) points p pixels c) in
      let m = side_most n le in
      let x = xy.0 in
      let y = xy.1 in
      let bx = hb.in_x in
      let by = hb.in_y in
      in_block-true b p.at (held_code n b p.at hb le (omega arith) (omega arith) (omega arith) (omega arith) (omega arith) (omega arith))

  -- they are before the others
  pub block_parted : IsPartitionedBy (λ p. in_block b p.at) points
  block_parted i j d below lt t =
      let up = codes_up points i j d order.rises below lt in
      let under = (code_held n b (get_or points j d).at hb le (Holds-from b (get_or points j d).at t)).1 in
      inside (get_or points i d) (member_at points i d (omega arith)) (omega arith)

-- so many of them are in it, and the next one is not
module _ (n : ℕ) (le : n ≤ 12) (points : List Point) (pixels : All (λ p. is_pixel n p.at ≡ true) points) (b : Block) (hb : IsBlock n b) (order : AreInCodeOrder b points)
    (count : ℕ) (behind : count < length points → (e : Point) → in_block b (get_or points count e).at ≡ false) where
  -- the others have codes from its end on
  pub past_end : (p : Point) → Contains (drop count points) p → code_to b ≤ code_at p.at
  past_end p c =
      ⊎_elim
      (λ lt.
      let q = get_or points count p in
      let out : code_to b ≤ code_at q.at =
      ⊎_elim (λ low. absurd (both_ways (in_block b q.at) (behind lt p) (inside n le points pixels b hb order q (member_at points count p lt) low))) (λ ge. ge)
      (cases_lt (code_at q.at) (code_to b)) in
      let rest = drop_more points count p lt in
      let first = first_least (q ∷ drop (count + 1) points) p p (subst (Rises by_code) rest (Rises-drop by_code count points order.rises))
      (subst (λ (l : List Point). Contains l p) rest c) in
      omega arith)
      (λ ge. absurd (Contains-nil p (subst (λ (l : List Point). Contains l p) (drop_all count points ge) c)))
      (cases_lt count (length points))

  pub outside : (p : Point) → Contains (drop count points) p → in_block b p.at ≡ false
  outside p c =
      let end = past_end p c in
      ⊎_elim (λ t. let under = (code_held n b p.at hb le (Holds-from b p.at t)).1 in absurd (omega arith)) (λ f. f) (cases_Bool (in_block b p.at))

-- ---- the quarters one after the other
-- each begins where the one before it ends
quarter_next : (n : ℕ) (b : Block) → IsBlock n b → n ≤ 12 → 1 < b.side → (i : ℕ) (d e : Block) → suc i < 4
    → code_from (get_or (quarters_of b) (suc i) e) ≡ code_to (get_or (quarters_of b) i d)
quarter_next n b h le wide zero d e lt = (half_codes n b h le wide).right
quarter_next n b h le wide (suc zero) d e lt = let c = half_codes n b h le wide in let r = c.right in let s = c.below in omega arith
quarter_next n b h le wide (suc (suc zero)) d e lt = let c = half_codes n b h le wide in let r = c.below in let s = c.across in omega arith
quarter_next n b h le wide (suc (suc (suc i))) d e lt = absurd (omega arith)

-- The codes of so many points are below that at which the quarter at a place begins, and those of the others are not.
pub record IsSplit (qs : List Block) (i : ℕ) (points : List Point) (done : ℕ) : Type 0 where
  pub edge : ℕ
  pub next : (d : Block) → i < 4 → code_from (get_or qs i d) ≡ edge
  pub before : All (λ p. code_at p.at < edge) (take done points)
  pub from : All (λ p. edge ≤ code_at p.at) (drop done points)
  pub most : done ≤ length points

pub split_none : (b : Block) (qs : List Block) (points : List Point) → qs ≡ quarters_of b → All (λ p. code_from b ≤ code_at p.at) points → IsSplit qs 0 points 0
split_none b qs points are least = record {
  edge = code_from b;
  next = λ d lt. ap (λ (l : List Block). code_from (get_or l 0 d)) are;
  before = λ k d lt. absurd (omega arith);
  from = least;
  most = omega arith;
}

module _ (n : ℕ) (le : n ≤ 12) (b : Block) (hb : IsBlock n b) (wide : 1 < b.side) (qs : List Block) (are : qs ≡ quarters_of b) (i : ℕ) (lt : i < 4) (d : Block)
    (points : List Point) (up : Rises by_code points) (pixels : All (λ p. is_pixel n p.at ≡ true) points) (done : ℕ) (s : IsSplit qs i points done) where
  -- what is left has no code before the quarter
  pub rest_order : AreInCodeOrder (get_or qs i d) (drop done points)
  rest_order = record {
    rises = Rises-drop by_code done points up;
    least = subst (λ c. All (λ (p : Point). c ≤ code_at p.at) (drop done points)) (sym (s.next d lt)) s.from;
  }

  module _ (count : ℕ) (most : count ≤ length (drop done points)) (here : All (λ p. in_block (get_or qs i d) p.at ≡ true) (take count (drop done points)))
      (behind : count < length (drop done points) → (e : Point) → in_block (get_or qs i d) (get_or (drop done points) count e).at ≡ false) where
    block : IsBlock n (get_or qs i d)
    block = (quarter_at n b qs i d hb wide are lt).block

    rest_pixels : All (λ p. is_pixel n p.at ≡ true) (drop done points)
    rest_pixels = All-drop (λ (p : Point). is_pixel n p.at ≡ true) done points pixels

    before_quarter : (p : Point) → Contains (take done points) p → in_block (get_or qs i d) p.at ≡ false
    before_quarter p c =
        let under = All-contains (λ (q : Point). code_at q.at < s.edge) (take done points) p s.before c in
        let edge = s.next d lt in
        ⊎_elim (λ t. let from = (code_held n (get_or qs i d) p.at block le (Holds-from (get_or qs i d) p.at t)).0 in absurd (omega arith)) (λ f. f)
        (cases_Bool (in_block (get_or qs i d) p.at))

    -- the next ones are those in the quarter
    pub part_is : take count (drop done points) ≡ filter (λ p. in_block (get_or qs i d) p.at) points
    part_is =
        let test : Point → Bool = λ p. in_block (get_or qs i d) p.at in
        sym (kept_behind test points done before_quarter
        ∙ kept_first test (drop done points) count (λ p c. All-contains (λ (q : Point). test q ≡ true) (take count (drop done points)) p here c)
        (outside n le (drop done points) rest_pixels (get_or qs i d) block rest_order count behind))

    pub split_next : IsSplit qs (i + 1) points (done + count)
    split_next =
        let q = get_or qs i d in
        let edge = s.next d lt in
        record {
          edge = code_to q;
          next = λ e less.
              let next : i + 1 ≡ suc i = omega arith in
              ap (λ k. code_from (get_or qs k e)) next
              ∙ ap (λ (l : List Block). code_from (get_or l (suc i) e)) are
              ∙ quarter_next n b hb le wide i d e (omega arith)
              ∙ ap (λ (l : List Block). code_to (get_or l i d)) (sym are);
          before = subst (All (λ (p : Point). code_at p.at < code_to q)) (take_further done count points)
              (All-append (λ (p : Point). code_at p.at < code_to q) (take done points) (take count (drop done points))
              (All-weaker (λ (p : Point). code_at p.at < s.edge) (λ (p : Point). code_at p.at < code_to q) (λ p under. omega arith) (take done points) s.before)
              (All-weaker (λ (p : Point). in_block q p.at ≡ true) (λ (p : Point). code_at p.at < code_to q)
              (λ p t. (code_held n q p.at block le (Holds-from q p.at t)).1) (take count (drop done points)) here));
          from = subst (All (λ (p : Point). code_to q ≤ code_at p.at)) (drop_further done count points)
              (λ k e less. past_end n le (drop done points) rest_pixels q block rest_order count behind
              (get_or (drop count (drop done points)) k e) (member_at (drop count (drop done points)) k e less));
          most = let l = length-drop done points in let m = s.most in omega arith;
        }
