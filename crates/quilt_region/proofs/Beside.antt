-- The colour of a block beside the one that was read.
use Rattle.std.proofs.Common.{◌≡◌, ℕ, ◌<◌, ◌≤◌, Bool, true, false, sym, ◌∙◌, ap, ⊎_elim, arith, eqb, eqb-true, eq-eqb, ◌&&◌, Result, Ok, Err, IfOk, IfErr}
use Rattle.std.specs.Bool.{if◌then◌else◌}
use Rattle.std.proofs.lemmas.Bool.{cases_lt, cases_Bool, false_from_ne_true, and_parts, and_from}
use Rattle.quilt_types.specs.declared.plane.Pixel.{Pixel}
use Rattle.quilt_types.specs.declared.plane.Block.{Block}
use Rattle.quilt_types.specs.Plane.{corner, in_block, Holds, IsBlock, Within}
use Rattle.quilt_types.specs.Layers.{Grid, colour_at}
use Rattle.quilt_loc.proofs.Blocks.{Holds-from, in_block-true}
use Rattle.quilt_loc.proofs.Nesting.{Within-holds, Within-trans, Holds-corner, nested, same_block_from}
use Rattle.quilt_region.specs.declared.known.Known.{Known}
use Rattle.quilt_region.specs.Windows.{IsKnown, known_colour}

pub true_false : true ≡ false → ⊥
true_false e = cc

-- a pixel that is none of a block's
pub not_held : (b : Block) (p : Pixel) → in_block b p ≡ false → Holds b p → ⊥
not_held b p f held = true_false (sym (in_block-true b p held) ∙ f)

pub held_not : (b : Block) (p : Pixel) → (Holds b p → ⊥) → in_block b p ≡ false
held_not b p none = false_from_ne_true (in_block b p) (λ t. none (Holds-from b p t))

module _ (n : ℕ) (k : Known) (b : Block) (known : IsKnown n k) (hb : IsBlock n b) (wide : k.read.side ≤ b.side)
    (apart : in_block b (corner k.read) ≡ false) where
  read_apart : Within k.read b → ⊥
  read_apart w = not_held b (corner k.read) apart (Within-holds k.read b (corner k.read) w (Holds-corner n k.read known.read))

  top_apart : Within k.top b → ⊥
  top_apart w = read_apart (Within-trans k.read k.top b known.inside w)

  pub not_read : (p : Pixel) → Holds b p → in_block k.read p ≡ false
  not_read p held = held_not k.read p (λ h. read_apart (nested n k.read b p known.read hb wide h held))

  -- the block lies in the top or beside it
  top_same : (p : Pixel) → Holds b p → in_block k.top p ≡ in_block k.top (corner b)
  top_same p held =
      let here = Holds-corner n b hb in
      ⊎_elim
      (λ lt. absurd_or k.top p (corner b) (λ h. top_apart (nested n k.top b p known.top hb (omega arith) h held))
      (λ h. top_apart (nested n k.top b (corner b) known.top hb (omega arith) h here)))
      (λ ge.
      both k.top p (corner b)
      (λ h. Within-holds b k.top (corner b) (nested n b k.top p hb known.top ge held h) here)
      (λ h. Within-holds b k.top p (nested n b k.top (corner b) hb known.top ge here h) held))
      (cases_lt k.top.side b.side)
    where
      absurd_or : (t : Block) (p q : Pixel) → (Holds t p → ⊥) → (Holds t q → ⊥) → in_block t p ≡ in_block t q
      absurd_or t p q u v = held_not t p u ∙ sym (held_not t q v)

      both : (t : Block) (p q : Pixel) → (Holds t p → Holds t q) → (Holds t q → Holds t p) → in_block t p ≡ in_block t q
      both t p q u v =
          ⊎_elim (λ y. y ∙ sym (in_block-true t q (u (Holds-from t p y))))
          (λ f. f ∙ sym (held_not t q (λ h. not_held t p f (v h)))) (cases_Bool (in_block t p))

  pub beside_colour : (g : Grid) (p : Pixel) → Holds b p → known_colour n g k p ≡ (if in_block k.top (corner b) then k.around.0 else k.elsewhere.0)
  beside_colour g p held =
      let other : ℕ = if in_block k.top p then k.around.0 else k.elsewhere.0 in
      ap (λ (t : Bool). if t then colour_at n g p else other) (not_read p held) ∙ ap (λ (t : Bool). if t then k.around.0 else k.elsewhere.0) (top_same p held)

-- and that of a pixel of the block that was read
pub read_colour : (n : ℕ) (k : Known) (g : Grid) (p : Pixel) → Holds k.read p → known_colour n g k p ≡ colour_at n g p
read_colour n k g p held =
    ap (λ (t : Bool). if t then colour_at n g p else (if in_block k.top p then k.around.0 else k.elsewhere.0)) (in_block-true k.read p held)

-- of two blocks that are not one the one that holds the other's corner is the larger, and so are its quarters
pub wider : (n : ℕ) (b read : Block) → IsBlock n b → IsBlock n read → read.side ≤ b.side → Holds b (corner read) → (b ≡ read → ⊥) → read.side < b.side
wider n b read hb hr wide held differ =
    ⊎_elim (λ lt. lt)
    (λ ge. absurd (differ (sym (same_block_from n read b (corner read) hr hb (omega arith) (Holds-corner n read hr) held)))) (cases_lt read.side b.side)

-- what the test of two blocks says
abbrev same_blocks : Block → Block → Bool
same_blocks a b = eqb a.y b.y && (eqb a.x b.x && eqb a.side b.side)

pub blocks_equal : (a b : Block) → true ≡ same_blocks a b → a ≡ b
blocks_equal a b h =
    let both = and_parts (eqb a.y b.y) (eqb a.x b.x && eqb a.side b.side) (sym h) in
    let last = and_parts (eqb a.x b.x) (eqb a.side b.side) both.1 in
    let y = eqb-true a.y b.y both.0 in
    let x = eqb-true a.x b.x last.0 in
    let size = eqb-true a.side b.side last.1 in
    λ i. record { y = y i; x = x i; side = size i }

pub blocks_differ : (a b : Block) → false ≡ same_blocks a b → a ≡ b → ⊥
blocks_differ a b h e =
    let t : same_blocks a b ≡ true = and_from _ _ (eq-eqb a.y b.y (ap (λ (d : Block). d.y) e))
    (and_from _ _ (eq-eqb a.x b.x (ap (λ (d : Block). d.x) e)) (eq-eqb a.side b.side (ap (λ (d : Block). d.side) e))) in
    true_false (sym t ∙ sym h)

pub if_err_weaker : {T E : Type 0} {P Q : E → Type 0} (r : Result T E) → ((e : E) → P e → Q e) → IfErr r P → IfErr r Q
if_err_weaker (Ok x) f h = tt
if_err_weaker (Err e) f h = f e h

pub if_ok_weaker : {T E : Type 0} {P Q : T → Type 0} (r : Result T E) → ((x : T) → P x → Q x) → IfOk r P → IfOk r Q
if_ok_weaker (Ok x) f h = f x h
if_ok_weaker (Err e) f h = tt
