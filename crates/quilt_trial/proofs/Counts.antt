-- How many lines the text of a trial has.
use Rattle.std.proofs.Common.{◌≡◌, ℕ, zero, suc, ◌+◌, ◌-◌, ◌*◌, ◌/◌, ◌%◌, ◌^◌, ◌≤◌, ◌<◌, ◌==◌, ◌&&◌, not, cond, Bool, true, false, List, [], ◌∷◌, ◌++◌}
use Rattle.std.proofs.Common.{if◌then◌else◌, codes, refl, ◌∙◌, ap, arith}
use Rattle.std.specs.Fmt.{decimal}
use Rattle.std.proofs.Math.Nat.{mod-le}
use Rattle.std.proofs.lemmas.List.Sums.{sum_by-append}
use Rattle.quilt_types.specs.Plane.{side}
use Rattle.quilt_lang.specs.Trials.{Drawn, drawn, stepped, spaced, line, draw, rect_line, numbered_line, pixel_line, small_line, segment_command, drawn_line}
use Rattle.quilt_lang.specs.Trials.{lines_from, trial_text}
use Rattle.quilt_trial.specs.Drawing.{has_no_newline}
use Rattle.quilt_trial.specs.Rest.{newlines}
use Rattle.quilt_trial.proofs.Bytes.{plain_joined, plain_number}

newlines-append : (a b : List ℕ) → newlines (a ++ b) ≡ newlines a + newlines b
newlines-append a b = sum_by-append (λ c. cond {A = ℕ} (c == 10) 1 0) a b

plain_none : (a : List ℕ) → has_no_newline a ≡ true → newlines a ≡ 0
plain_none [] plain = refl
plain_none (c ∷ a) plain = newlines-append (c ∷ []) a ∙ by (c == 10) plain (plain_none a)
  where
    by : (is : Bool) → (not is && has_no_newline a) ≡ true → (has_no_newline a ≡ true → newlines a ≡ 0) → (0 + cond {A = ℕ} is 1 0) + newlines a ≡ 0
    by true plain rest = absurd (cc)
    by false plain rest = omega (arith, rest plain)

-- a word with no newline
pub record IsPlain (w : List ℕ) : Type 0 where
  pub none : has_no_newline w ≡ true

-- such words, one behind another
pub data Plain : List (List ℕ) → Type 0 where
  one : {w : List ℕ} → IsPlain w → Plain (w ∷ [])
  behind : {w v : List ℕ} {ws : List (List ℕ)} → IsPlain w → Plain (v ∷ ws) → Plain (w ∷ v ∷ ws)

plain_spaced : (ws : List (List ℕ)) → Plain ws → has_no_newline (spaced ws) ≡ true
plain_spaced ws (one plain) = plain.none
plain_spaced ws (behind {w = w} {v = v} {ws = vs} plain rest) = plain_joined w (32 ∷ spaced (v ∷ vs)) plain.none (plain_spaced (v ∷ vs) rest)

one_line : {ws : List (List ℕ)} → Plain ws → newlines (line ws) ≡ 1
one_line {ws} plain = newlines-append (spaced ws) (10 ∷ []) ∙ ap (λ n. n + 1) (plain_none (spaced ws) (plain_spaced ws plain))

word : (w : List ℕ) → has_no_newline w ≡ true → IsPlain w
word w none = record { none = none }

-- ---- the numbers that are drawn

drawn_few : (x m : ℕ) → drawn (stepped x) m < 2 ^ 63
drawn_few x m = omega (arith, mod-le (stepped x / 2 ^ 33) m)

number : (m x : ℕ) → IsPlain (decimal (drawn (stepped x) m))
number m x = record { none = plain_number (drawn (stepped x) m) (omega (arith, drawn_few x m)) }

more : (m x : ℕ) → IsPlain (decimal (1 + drawn (stepped x) m))
more m x = record { none = plain_number (1 + drawn (stepped x) m) (omega (arith, drawn_few x m)) }

-- ---- the lines that are drawn

rect_one : (a : List ℕ) (s x : ℕ) → IsPlain a → newlines (rect_line a s x).text ≡ 1
rect_one a s x plain =
    let y = stepped x in
    let z = stepped y in
    let u = drawn y s in
    let v = drawn z s in
    one_line (behind (word (codes "rect") refl) (behind plain (behind (number s x) (behind (number s y)
    (behind (more (s - u) z) (behind (more (s - v) (stepped z)) (one (number 4 (stepped (stepped z))))))))))

numbered_one : (w a : List ℕ) (m s x : ℕ) → IsPlain w → IsPlain a → newlines (numbered_line w a m s x).text ≡ 1
numbered_one w a m s x first second =
    one_line (behind first (behind second (behind (number s x) (behind (number s (stepped x)) (one (number m (stepped (stepped x))))))))

pixel_one : (w a : List ℕ) (s x : ℕ) → IsPlain w → IsPlain a → newlines (pixel_line w a s x).text ≡ 1
pixel_one w a s x first second = one_line (behind first (behind second (behind (number s x) (one (number s (stepped x))))))

small_one : (w a : List ℕ) (m x : ℕ) → IsPlain w → IsPlain a → newlines (small_line w a m x).text ≡ 1
small_one w a m x first second = one_line (behind first (behind second (one (number m x))))

seg_one : (s x : ℕ) → newlines (segment_command s x).text ≡ 1
seg_one s x =
    let y = stepped x in
    let z = stepped (stepped y) in
    one_line (behind (word (codes "line") refl) (behind (word (codes "tl") refl) (behind (number 1000 x) (behind (number s y)
    (behind (number s (stepped y)) (behind (number s z) (one (number s (stepped z)))))))))

-- one of two
either_one : (b : Bool) (d e : Drawn) → newlines d.text ≡ 1 → newlines e.text ≡ 1 → newlines (cond b d e).text ≡ 1
either_one true d e first second = first
either_one false d e first second = second

drawn_one : (s k x : ℕ) → newlines (drawn_line s k x).text ≡ 1
drawn_one s k x =
    let ta = word (codes "ta") refl in
    let tp = word (codes "tp") refl in
    let tl = word (codes "tl") refl in
    either_one (k == 0) _ _ (rect_one (codes "ta") s x ta)
    (either_one (k == 1) _ _ (rect_one (codes "tb") s x (word (codes "tb") refl))
    (either_one (k == 2) _ _ (numbered_one (codes "set") (codes "ta") 4 s x (word (codes "set") refl) ta)
    (either_one (k == 3) _ _ (numbered_one (codes "put") (codes "tp") 1000 s x (word (codes "put") refl) tp)
    (either_one (k == 4) _ _ (pixel_one (codes "del") (codes "tp") s x (word (codes "del") refl) tp)
    (either_one (k == 5) _ _ (seg_one s x)
    (either_one (k == 6) _ _ (small_one (codes "unline") (codes "tl") 1000 x (word (codes "unline") refl) tl)
    (either_one (k == 7) _ _ (pixel_one (codes "at") (codes "ta") s x (word (codes "at") refl) ta)
    (either_one (k == 8) _ _ (pixel_one (codes "nearest") (codes "tl") s x (word (codes "nearest") refl) tl)
    (small_one (codes "area") (codes "ta") 4 x (word (codes "area") refl) ta)))))))))

-- ---- the whole text

publish_few : (b : Bool) → newlines (cond b (line (codes "publish" ∷ [])) []) ≤ 1
publish_few true = omega arith
publish_few false = omega arith

from_few : (left i s x : ℕ) → newlines (lines_from left i s x) ≤ 2 * left + 1
from_few zero i s x = omega arith
from_few (suc left) i s x =
    let next = draw 10 x (drawn_line s) in
    let publish : List ℕ = if i % 64 == 0 then line (codes "publish" ∷ []) else [] in
    let rest = lines_from left (i + 1) s next.state in
    let first : newlines next.text ≡ 1 = drawn_one s (drawn (stepped x) 10) (stepped x) in
    omega (
      arith,
      newlines-append (next.text ++ publish) rest,
      newlines-append next.text publish,
      first,
      publish_few
          (i % 64 == 0),
      from_few left (i + 1) s next.state,
    )

pub text_few : (seed count n : ℕ) → newlines (trial_text seed count n) ≤ 2 * count + 5
unfolding trial_text
text_few seed count n =
    let rest = lines_from count 1 (side n) seed in
    let region : List ℕ → List ℕ = λ a. line (codes "region" ∷ a ∷ codes "0" ∷ []) in
    let points = line (codes "points" ∷ codes "tp" ∷ []) in
    let layers = line (codes "lines" ∷ codes "tl" ∷ codes "4" ∷ []) in
    omega (
      arith,
      newlines-append (((region (codes "ta") ++ region (codes "tb")) ++ points) ++ layers) rest,
      newlines-append ((region (codes "ta") ++ region (codes "tb")) ++ points) layers,
      newlines-append (region (codes "ta") ++ region (codes "tb")) points,
      newlines-append (region (codes "ta")) (region (codes "tb")),
      from_few count 1 (side n) seed,
    )
