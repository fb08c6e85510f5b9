-- Numbers, keys and records in the bytes of a page.
use Rattle.std.proofs.Common.{◌≡◌, ℕ, zero, suc, ◌+◌, ◌-◌, ◌*◌, ◌<◌, ◌≤◌, ◌^◌, List, [], ◌∷◌, ◌++◌, length, take, drop, get_or, slice_index, slice_range, refl}
use Rattle.std.proofs.Common.{sym, ◌∙◌, ap, subst, arith, length-drop, length-take-le, lit<}
use Rattle.std.proofs.Math.Seq.{drop-append-add, take-append_seam, take-add}
use Rattle.std.proofs.lemmas.List.{get_or-append-add, get_or-drop, take-append-drop, drop-drop}
use Rattle.std.specs.Int.{to_be_bytes, from_be_bytes, w16, w32}
use Rattle.std.proofs.lemmas.Nat.{from_be_bytes-to_be_bytes_2, from_be_bytes-to_be_bytes_4, be_bytes_2, be_bytes_4}
use Rattle.quilt_record.specs.declared.key.Key.{Key}
use Rattle.quilt_record.specs.declared.record.Record.{Record}
use Rattle.quilt_record.specs.Records.{key_bytes, record_bytes}
use Rattle.quilt_record.specs.Fits.{KeyFits, RecordFits, AllFit}
use Rattle.quilt_node.specs.Pages.{short_at, word_at, key_at, record_at}
use Rattle.quilt_node.proofs.Rows.{Stands, slice_stands, Wide}

drop_behind : (pre xs : List ℕ) (k n : ℕ) → n ≡ length pre + k → drop n (pre ++ xs) ≡ drop k xs
drop_behind pre xs k n e = ap (λ m. drop m (pre ++ xs)) e ∙ drop-append-add pre xs k

index_behind : (pre xs : List ℕ) (k n : ℕ) → n ≡ length pre + k → slice_index (pre ++ xs) n ≡ slice_index xs k
index_behind pre xs k n e = ap (λ m. slice_index (pre ++ xs) m) e ∙ get_or-append-add pre xs k 0

pub part_behind : (pre xs : List ℕ) (k n m : ℕ) → n ≡ length pre + k → slice_range (pre ++ xs) n (n + m) ≡ slice_range xs k (k + m)
part_behind pre xs k n m e =
    let d : n + m - n ≡ m = omega arith in
    let f : k + m - k ≡ m = omega arith in
    ap (λ l. take (n + m - n) l) (drop_behind pre xs k n e) ∙ ap (λ l. take l (drop k xs)) (d ∙ sym f)

pub key_behind : (pre xs : List ℕ) (at : ℕ) → at ≡ length pre → key_at (pre ++ xs) at ≡ key_at xs 0
key_behind pre xs at e =
    let layer = ap (from_be_bytes w16) (part_behind pre xs 0 at 2 (omega arith)) in
    let part = index_behind pre xs 2 (at + 2) (omega arith) in
    let code = ap (from_be_bytes w32) (part_behind pre xs 3 (at + 3) 4 (omega arith)) in
    let depth = index_behind pre xs 7 (at + 7) (omega arith) in
    let item = ap (from_be_bytes w32) (part_behind pre xs 8 (at + 8) 4 (omega arith)) in
    λ i. record { layer = layer i; part = part i; code = code i; depth = depth i; item = item i }

written_key : (k : Key) (post : List ℕ) → KeyFits k → key_at (key_bytes k ++ post) 0 ≡ k
written_key k post f =
    let layer : short_at (key_bytes k ++ post) 0 ≡ k.layer = from_be_bytes-to_be_bytes_2 k.layer f.layer in
    let code : word_at (key_bytes k ++ post) 3 ≡ k.code = from_be_bytes-to_be_bytes_4 k.code f.code in
    let item : word_at (key_bytes k ++ post) 8 ≡ k.item = from_be_bytes-to_be_bytes_4 k.item f.item in
    λ i. record { layer = layer i; part = k.part; code = code i; depth = k.depth; item = item i }

-- Where a key's bytes stand, that key is read.
pub key_stands : (k : Key) (bytes : List ℕ) (at : ℕ) → KeyFits k → Stands (key_bytes k) bytes at → key_at bytes at ≡ k
key_stands k bytes at f s =
    ap (λ l. key_at l at) s.shape ∙ key_behind s.before (key_bytes k ++ s.behind) at s.place ∙ written_key k s.behind f

pub record_stands : (r : Record) (bytes : List ℕ) (at : ℕ) → RecordFits r → Stands (record_bytes r) bytes at → record_at bytes at ≡ r
record_stands r bytes at f s =
    let key : key_at bytes at ≡ r.key =
    key_stands r.key bytes at f.key (record { before = s.before; behind = r.value ++ s.behind; shape = s.shape; place = s.place }) in
    let end : at + 28 ≡ at + 12 + 16 = omega arith in
    let value : slice_range bytes (at + 12) (at + 28) ≡ r.value =
    ap (λ l. slice_range l (at + 12) (at + 28)) s.shape
    ∙ ap (slice_range (s.before ++ (record_bytes r ++ s.behind)) (at + 12)) end
    ∙ part_behind s.before (record_bytes r ++ s.behind) 12 (at + 12) 16 (ap (λ n. n + 12) s.place)
    ∙ ap (λ n. take n (r.value ++ s.behind)) (sym f.value) ∙ take-append_seam r.value s.behind in
    λ i. record { key = key i; value = value i }

pub word_stands : (n : ℕ) (bytes : List ℕ) (at : ℕ) → n < 2 ^ 32 → Stands (to_be_bytes w32 n) bytes at → word_at bytes at ≡ n
word_stands n bytes at f s =
    ap (λ l. word_at l at) s.shape ∙ ap (from_be_bytes w32) (part_behind s.before (to_be_bytes w32 n ++ s.behind) 0 at 4 (s.place ∙ omega arith))
    ∙ from_be_bytes-to_be_bytes_4 n f

-- What a key's 12 bytes spell is what is read there.
pub key_spelled : (k : Key) (bytes piece : List ℕ) (at : ℕ) → KeyFits k → at + 12 ≤ length bytes → piece ≡ slice_range bytes at (at + 12)
    → key_bytes k ≡ piece → k ≡ key_at bytes at
key_spelled k bytes piece at f room e g =
    sym (key_stands k bytes at f (subst (λ l. Stands l bytes at) (sym (g ∙ e)) (slice_stands bytes at 12 room)))

pub wide_records : (rs : List Record) → AllFit rs → Wide record_bytes 28 rs
wide_records [] f = tt
wide_records (r ∷ rs) f = (twelve_more (length r.value) f.0.value, wide_records rs f.1)
  where
    twelve_more : (n : ℕ) → n ≡ 16 → suc (suc (suc (suc (suc (suc (suc (suc (suc (suc (suc (suc n))))))))))) ≡ 28
    twelve_more n h = omega arith

pub wide_keys : (ks : List Key) → Wide key_bytes 12 ks
wide_keys [] = tt
wide_keys (k ∷ ks) = (refl, wide_keys ks)

pub wide_words : (ns : List ℕ) → Wide (to_be_bytes w32) 4 ns
wide_words [] = tt
wide_words (n ∷ ns) = (refl, wide_words ns)

-- each is a byte
abbrev pub AreBytes : List ℕ → Type 0
AreBytes bytes = (i : ℕ) → get_or bytes i 0 < 256

are_behind : (bytes : List ℕ) (at : ℕ) → AreBytes bytes → AreBytes (drop at bytes)
are_behind bytes at f i = subst (λ n. n < 256) (sym (get_or-drop at bytes i 0)) (f (at + i))

bytes_of_two : (x y : ℕ) → x < 256 → y < 256 → AreBytes (x ∷ y ∷ [])
bytes_of_two x y f g zero = f
bytes_of_two x y f g (suc zero) = g
bytes_of_two x y f g (suc (suc i)) = lit< tt

bytes_of_four : (x y z w : ℕ) → x < 256 → y < 256 → z < 256 → w < 256 → AreBytes (x ∷ y ∷ z ∷ w ∷ [])
bytes_of_four x y z w f g h k zero = f
bytes_of_four x y z w f g h k (suc zero) = g
bytes_of_four x y z w f g h k (suc (suc zero)) = h
bytes_of_four x y z w f g h k (suc (suc (suc zero))) = k
bytes_of_four x y z w f g h k (suc (suc (suc (suc i)))) = lit< tt

front_key : (xs : List ℕ) → AreBytes xs → 12 ≤ length xs → key_bytes (key_at xs 0) ≡ take 12 xs
front_key (a ∷ b ∷ p ∷ c ∷ d ∷ e ∷ f ∷ q ∷ g ∷ h ∷ i ∷ j ∷ xs) are lt =
    let layer : to_be_bytes w16 (a * 256 + b) ≡ a ∷ b ∷ [] = be_bytes_2 (a ∷ b ∷ []) (a * 256 + b) refl (bytes_of_two a b (are 0) (are 1)) refl in
    let code : to_be_bytes w32 (c * 16777216 + d * 65536 + e * 256 + f) ≡ c ∷ d ∷ e ∷ f ∷ [] =
    be_bytes_4 (c ∷ d ∷ e ∷ f ∷ []) (c * 16777216 + d * 65536 + e * 256 + f) refl (bytes_of_four c d e f (are 3) (are 4) (are 5) (are 6)) refl in
    let item : to_be_bytes w32 (g * 16777216 + h * 65536 + i * 256 + j) ≡ g ∷ h ∷ i ∷ j ∷ [] =
    be_bytes_4 (g ∷ h ∷ i ∷ j ∷ []) (g * 16777216 + h * 65536 + i * 256 + j) refl (bytes_of_four g h i j (are 8) (are 9) (are 10) (are 11)) refl in
    ap (λ l. l ++ (p ∷ to_be_bytes w32 (c * 16777216 + d * 65536 + e * 256 + f)) ++ (q ∷ to_be_bytes w32 (g * 16777216 + h * 65536 + i * 256 + j))) layer
    ∙ ap (λ l. a ∷ b ∷ [] ++ (p ∷ l) ++ (q ∷ to_be_bytes w32 (g * 16777216 + h * 65536 + i * 256 + j))) code
    ∙ ap (λ l. a ∷ b ∷ [] ++ (p ∷ c ∷ d ∷ e ∷ f ∷ []) ++ (q ∷ l)) item
front_key xs are lt = absurd (omega arith)

-- The first four bytes, by the numbers that stand there.
pub first_four : (bytes : List ℕ) → AreBytes bytes → 4 ≤ length bytes
    → take 4 bytes ≡ slice_index bytes 0 ∷ slice_index bytes 1 ∷ to_be_bytes w16 (short_at bytes 2)
first_four (a ∷ b ∷ c ∷ d ∷ xs) are lt = ap (λ l. a ∷ b ∷ l) (sym (be_bytes_2 (c ∷ d ∷ []) (c * 256 + d) refl (bytes_of_two c d (are 2) (are 3)) refl))
first_four xs are lt = absurd (omega arith)

front_word : (xs : List ℕ) → AreBytes xs → 4 ≤ length xs → to_be_bytes w32 (word_at xs 0) ≡ take 4 xs
front_word (c ∷ d ∷ e ∷ f ∷ xs) are lt =
    be_bytes_4 (c ∷ d ∷ e ∷ f ∷ []) (c * 16777216 + d * 65536 + e * 256 + f) refl (bytes_of_four c d e f (are 0) (are 1) (are 2) (are 3)) refl
front_word xs are lt = absurd (omega arith)

-- A key that is read at a place, written again.
pub key_again : (bytes : List ℕ) (at : ℕ) → AreBytes bytes → at + 12 ≤ length bytes → key_bytes (key_at bytes at) ≡ take 12 (drop at bytes)
key_again bytes at f room =
    ap (λ l. key_bytes (key_at l at)) (sym (take-append-drop at bytes))
    ∙ ap key_bytes (key_behind (take at bytes) (drop at bytes) at (sym (length-take-le at bytes (omega arith))))
    ∙ front_key (drop at bytes) (are_behind bytes at f) (omega (arith, length-drop at bytes))

pub word_again : (bytes : List ℕ) (at : ℕ) → AreBytes bytes → at + 4 ≤ length bytes → to_be_bytes w32 (word_at bytes at) ≡ take 4 (drop at bytes)
word_again bytes at f room =
    ap (λ l. to_be_bytes w32 (word_at l at)) (sym (take-append-drop at bytes))
    ∙ ap (λ l. to_be_bytes w32 (from_be_bytes w32 l))
    (part_behind (take at bytes) (drop at bytes) 0 at 4 (sym (length-take-le at bytes (omega arith)) ∙ omega arith))
    ∙ front_word (drop at bytes) (are_behind bytes at f) (omega (arith, length-drop at bytes))

pub record_again : (bytes : List ℕ) (at : ℕ) → AreBytes bytes → at + 28 ≤ length bytes → record_bytes (record_at bytes at) ≡ take 28 (drop at bytes)
record_again bytes at f room =
    let n : at + 28 - (at + 12) ≡ 16 = omega arith in
    ap (λ l. l ++ slice_range bytes (at + 12) (at + 28)) (key_again bytes at f (omega arith))
    ∙ ap (λ m. take 12 (drop at bytes) ++ take m (drop (at + 12) bytes)) n
    ∙ ap (λ l. take 12 (drop at bytes) ++ take 16 l) (sym (drop-drop 12 at bytes))
    ∙ sym (take-add 12 16 (drop at bytes))

front_fits : (xs : List ℕ) → AreBytes xs → 12 ≤ length xs → KeyFits (key_at xs 0)
front_fits (a ∷ b ∷ p ∷ c ∷ d ∷ e ∷ f ∷ q ∷ g ∷ h ∷ i ∷ j ∷ xs) are lt = record {
  layer = omega (arith, are 0, are 1);
  code = omega (arith, are 3, are 4, are 5, are 6);
  item = omega (arith, are 8, are 9, are 10, are 11);
}
front_fits xs are lt = absurd (omega arith)

pub key_fits : (bytes : List ℕ) (at : ℕ) → AreBytes bytes → at + 12 ≤ length bytes → KeyFits (key_at bytes at)
key_fits bytes at f room =
    subst KeyFits (sym (ap (λ l. key_at l at) (sym (take-append-drop at bytes))
    ∙ key_behind (take at bytes) (drop at bytes) at (sym (length-take-le at bytes (omega arith)))))
    (front_fits (drop at bytes) (are_behind bytes at f) (omega (arith, length-drop at bytes)))

pub record_fits : (bytes : List ℕ) (at : ℕ) → AreBytes bytes → at + 28 ≤ length bytes → RecordFits (record_at bytes at)
record_fits bytes at f room =
    let n : at + 28 - (at + 12) ≡ 16 = omega arith in
    record {
      key = key_fits bytes at f (omega arith);
      value = ap (λ m. length (take m (drop (at + 12) bytes))) n ∙ length-take-le 16 (drop (at + 12) bytes) (omega (arith, length-drop (at + 12) bytes));
    }
