-- What a question knows as it goes on.
use Rattle.std.proofs.Common.{◌≡◌, ◌≢◌, ℕ, true, Option, Some, None, IfSome, sym, ◌∙◌, ap, subst, ⊎_elim}
use Rattle.std.proofs.lemmas.Bool.{cases_eq}
use Rattle.std.specs.FinMap as finmap
use Rattle.std.specs.Ordering.{nat_cmp}
use Rattle.std.specs.BTreeMap.{get}
use Rattle.quilt_types.specs.declared.plane.Block.{Block}
use Rattle.quilt_types.specs.declared.plane.Seg.{Seg}
use Rattle.quilt_types.specs.Sets as finset
use Rattle.quilt_types.specs.Layers.{is_in_square}
use Rattle.quilt_near.specs.Lines.{Lines}
use Rattle.quilt_near.specs.Knowing.{known_seg, Knows, StaysKnown}
use Rattle.quilt_near.specs.declared.known.Known.{Known}
use Rattle.quilt_near.specs.declared.known.Mark.{Mark}

none_known : (s : Seg) (o : Option Seg) → o ≡ None → o ≡ Some s → ⊥
none_known s o none some = let no : None ≡ Some s = sym none ∙ some in cc

-- at first it knows nothing
pub knows_nothing : (n : ℕ) (shown : Lines → Type 0) (marked : Mark → Type 0) (k : Known) → k.block ≡ None → k.pairs ≡ None → k.ids ≡ None
    → ((id : ℕ) → known_seg k id ≡ None) → Knows n shown marked k
knows_nothing n shown marked k no_block no_pairs no_ids none = record {
  inside = λ id s some. absurd (none_known s (known_seg k id) (none id) some);
  segs = λ l h id s some. absurd (none_known s (known_seg k id) (none id) some);
  block = λ l h. subst (λ (o : Option Block). IfSome o (λ b. finset.contains l.cover b ≡ true)) (sym no_block) tt;
  pairs = subst (λ (o : Option Mark). IfSome o marked) (sym no_pairs) tt;
  ids = subst (λ (o : Option Mark). IfSome o marked) (sym no_ids) tt;
}

-- what each place is, if it is one, it is elsewhere too
pub if_marked : (o : Option Mark) (marked marked' : Mark → Type 0) → ((m : Mark) → marked m → marked' m) → IfSome o marked → IfSome o marked'
if_marked None marked marked' f h = h
if_marked (Some m) marked marked' f h = f m h

-- and what it knows is so wherever the layer shows the same
pub knows_where : (n : ℕ) (shown shown' : Lines → Type 0) (marked marked' : Mark → Type 0) (k : Known) → ((l : Lines) → shown' l → shown l)
    → ((m : Mark) → marked m → marked' m) → Knows n shown marked k → Knows n shown' marked' k
knows_where n shown shown' marked marked' k same kept h = record {
  inside = h.inside;
  segs = λ l s. h.segs l (same l s);
  block = λ l s. h.block l (same l s);
  pairs = if_marked k.pairs marked marked' kept h.pairs;
  ids = if_marked k.ids marked marked' kept h.ids;
}

same_seg : (s t : Seg) → Some s ≡ Some t → s ≡ t
same_seg s t e = cc

-- one segment more is known
module _ (old new : Known) (id : ℕ) (s : Seg) (here : known_seg new id ≡ Some s)
    (others : (other : ℕ) → other ≢ id → known_seg new other ≡ known_seg old other) where
  -- what is so of it and of each that was known is so of each that is known
  each_known : (P : ℕ → Seg → Type 0) → P id s → ((q : ℕ) (t : Seg) → known_seg old q ≡ Some t → P q t) → (q : ℕ) (t : Seg) → known_seg new q ≡ Some t → P q t
  each_known P is was q t e =
      ⊎_elim
      (λ same.
      let seg : s ≡ t = same_seg s t (sym here ∙ ap (known_seg new) (sym same) ∙ e) in
      subst (λ (z : ℕ). P z t) (sym same) (subst (P id) seg is))
      (λ apart. was q t (sym (others q apart) ∙ e)) (cases_eq q id)

  pub knows_more : (n : ℕ) (shown : Lines → Type 0) (marked : Mark → Type 0) → Knows n shown marked old → new.block ≡ old.block
      → new.pairs ≡ old.pairs → new.ids ≡ old.ids → is_in_square n s ≡ true
      → ((l : Lines) → shown l → finmap.get l.segs id ≡ Some s) → Knows n shown marked new
  knows_more n shown marked h block pairs ids inside is = record {
    inside = each_known (λ q t. is_in_square n t ≡ true) inside h.inside;
    segs = λ l w. each_known (λ q t. finmap.get l.segs q ≡ Some t) (is l w) (h.segs l w);
    block = λ l w. subst (λ (o : Option Block). IfSome o (λ b. finset.contains l.cover b ≡ true)) (sym block) (h.block l w);
    pairs = subst (λ (o : Option Mark). IfSome o marked) (sym pairs) h.pairs;
    ids = subst (λ (o : Option Mark). IfSome o marked) (sym ids) h.ids;
  }

  pub stays_more : known_seg old id ≡ None → StaysKnown old new
  stays_more none q t e =
      ⊎_elim (λ same. absurd (none_known t (known_seg old id) none (ap (known_seg old) (sym same) ∙ e))) (λ apart. others q apart ∙ e) (cases_eq q id)

-- another block and other places may be known
pub knows_block : (n : ℕ) (shown : Lines → Type 0) (marked : Mark → Type 0) (old new : Known) → new.segs ≡ old.segs
    → ((l : Lines) → shown l → IfSome new.block (λ b. finset.contains l.cover b ≡ true)) → IfSome new.pairs marked → IfSome new.ids marked
    → Knows n shown marked old → Knows n shown marked new
knows_block n shown marked old new same block pairs ids h = record {
  inside = λ id s e. h.inside id s (ap (λ m. get nat_cmp m id) (sym same) ∙ e);
  segs = λ l w id s e. h.segs l w id s (ap (λ m. get nat_cmp m id) (sym same) ∙ e);
  block = block;
  pairs = pairs;
  ids = ids;
}
