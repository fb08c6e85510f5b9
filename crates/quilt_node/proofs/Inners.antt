-- An inner page over its bytes: what is read in it, and what edits of the bytes make of its children and keys.
use Rattle.std.proofs.Common.{◌≡◌, ℕ, zero, suc, ◌+◌, ◌-◌, ◌*◌, ◌<◌, ◌≤◌, ◌^◌, Bool, true, false, ◌&&◌, nat_le, nat_lt, Some, None, List, [], ◌∷◌, ◌++◌, length}
use Rattle.std.proofs.Common.{map, take, drop, get_or, set, slice_index, refl, sym, ◌∙◌, ap, subst, append_assoc, arith, replicate, flat_map, length-append}
use Rattle.std.specs.Prelude.{if◌then◌else◌}
use Rattle.std.specs.Str.{bytes_eq}
use Rattle.std.specs.List.{list_all, range_with_len}
use Rattle.std.specs.Int.{to_be_bytes, w16, w32}
use Rattle.std.proofs.lemmas.Nat.{from_be_bytes-to_be_bytes_2}
use Rattle.std.proofs.Math.Seq.{drop-append-add}
use Rattle.std.proofs.lemmas.List.{append-nil, drop-replicate, length-replicate, replicate-append-replicate}
use Rattle.std.proofs.lemmas.List.FromFn.{fill_by_all}
use Rattle.std.proofs.lemmas.Slice.Eq.{bytes_eq-Decides}
use Rattle.std.proofs.lemmas.Bool.Decides.{nat_tests}
use Rattle.std.proofs.lemmas.Bool.{lt-ltb, ltb-true, leb-true, le-leb, and_parts, and_from}
use Rattle.quilt_record.specs.declared.key.Key.{Key}
use Rattle.quilt_types.specs.Bytes.{filled}
use Rattle.quilt_record.specs.Records.{key_bytes}
use Rattle.quilt_record.specs.Fits.{KeyFits, KeysFit}
use Rattle.quilt_node.specs.Pages.{short_at, word_at, key_at, Inner, read_inner, inner_bytes, inner_of, is_ascending}
use Rattle.quilt_node.specs.Nodes.{IsInner, IsInnerPage, are_pages, inner_head}
use Rattle.quilt_node.proofs.Rows.{HasArea, area, row_stands, cut_front, wide_length}
use Rattle.quilt_node.proofs.Spelled.{key_stands, word_stands, wide_keys, wide_words}
use Rattle.quilt_node.proofs.Ascending.{all_at}

abbrev pub child_area : List ℕ → List ℕ
child_area cs = area (to_be_bytes w32) 4 1016 cs

abbrev pub key_area : List Key → List ℕ
key_area ks = area key_bytes 12 3072 ks

-- the bytes are the head of an inner page with n children, these children and these keys
pub record IsShaped (height n : ℕ) (bytes : List ℕ) (cs : List ℕ) (ks : List Key) : Type 0 where
  pub few : length cs ≤ 254
  pub fewer : length ks ≤ 253
  pub shape : bytes ≡ inner_head height n ++ (child_area cs ++ key_area ks)

pub children_of : (height n : ℕ) (bytes cs : List ℕ) (ks : List Key) → IsShaped height n bytes cs ks
    → HasArea (to_be_bytes w32) 4 1016 (inner_head height n) (key_area ks) bytes cs
children_of height n bytes cs ks s = record { wide = wide_words cs; fits = omega (arith, s.few); shape = s.shape }

pub with_children : (height n : ℕ) (bytes cs : List ℕ) (ks : List Key)
    → HasArea (to_be_bytes w32) 4 1016 (inner_head height n) (key_area ks) bytes cs → length ks ≤ 253 → IsShaped height n bytes cs ks
with_children height n bytes cs ks h fewer = record { few = omega (arith, h.fits); fewer = fewer; shape = h.shape }

pub key_start : (height n : ℕ) (cs : List ℕ) → length cs ≤ 254 → length (inner_head height n ++ child_area cs) ≡ 1024
key_start height n cs few =
    let rows = wide_length (to_be_bytes w32) 4 cs (wide_words cs) in
    let zeros = length-replicate {A = ℕ} (1016 - 4 * length cs) 0 in
    let whole = length-append (flat_map (to_be_bytes w32) cs) (replicate {A = ℕ} (1016 - 4 * length cs) 0) in
    length-append (inner_head height n) (child_area cs) ∙ ap (λ m. 8 + m) (sized (length cs) _ _ _ whole rows zeros few)
  where
    sized : (n a b c : ℕ) → c ≡ a + b → a ≡ 4 * n → b ≡ 1016 - 4 * n → n ≤ 254 → c ≡ 1016
    sized n a b c e f g h = omega arith

pub keys_of_page : (height n : ℕ) (bytes cs : List ℕ) (ks : List Key) → IsShaped height n bytes cs ks
    → HasArea key_bytes 12 3072 (inner_head height n ++ child_area cs) [] bytes ks
keys_of_page height n bytes cs ks s = record {
  wide = wide_keys ks;
  fits = omega (arith, s.fewer);
  shape = s.shape ∙ ap (λ l. inner_head height n ++ (child_area cs ++ l)) (sym (append-nil (key_area ks)))
      ∙ sym (append_assoc (inner_head height n) (child_area cs) (key_area ks ++ []));
}

pub with_keys : (height n : ℕ) (bytes cs : List ℕ) (ks : List Key) → HasArea key_bytes 12 3072 (inner_head height n ++ child_area cs) [] bytes ks
    → length cs ≤ 254 → length ks ≤ 253 → IsShaped height n bytes cs ks
with_keys height n bytes cs ks h few fewer = record {
  few = few;
  fewer = fewer;
  shape = h.shape ∙ append_assoc (inner_head height n) (child_area cs) (key_area ks ++ [])
      ∙ ap (λ l. inner_head height n ++ (child_area cs ++ l)) (append-nil (key_area ks));
}

pub recounted : (height n m : ℕ) (bytes new cs : List ℕ) (ks : List Key) → IsShaped height n bytes cs ks
    → new ≡ take 2 bytes ++ (to_be_bytes w16 m ++ drop 4 bytes) → IsShaped height m new cs ks
recounted height n m bytes new cs ks s e = record {
  few = s.few;
  fewer = s.fewer;
  shape = e ∙ ap (λ l. take 2 l ++ (to_be_bytes w16 m ++ drop 4 l)) s.shape;
}

pub inner_shape : (height : ℕ) (cs : List ℕ) (ks : List Key) → length cs ≤ 254
    → inner_bytes height cs ks ≡ inner_head height (length cs) ++ (child_area cs ++ key_area ks)
unfolding inner_bytes
inner_shape height cs ks few =
    let head = inner_head height (length cs) in
    let rows = flat_map (to_be_bytes w32) cs in
    let first : length (head ++ rows) ≡ 8 + 4 * length cs = length-append head rows ∙ ap (λ n. 8 + n) (wide_length (to_be_bytes w32) 4 cs (wide_words cs)) in
    let front : filled 1024 (head ++ rows) ≡ head ++ child_area cs =
    append_assoc head rows (replicate (1024 - length (head ++ rows)) 0)
    ∙ ap (λ m. head ++ (rows ++ replicate m 0)) (left (length cs) (length (head ++ rows)) first) in
    let keys = flat_map key_bytes ks in
    let whole : length ((head ++ child_area cs) ++ keys) ≡ 1024 + 12 * length ks =
    length-append (head ++ child_area cs) keys ∙ ap (λ n. n + length keys) (key_start height (length cs) cs few)
    ∙ ap (λ n. 1024 + n) (wide_length key_bytes 12 ks (wide_keys ks)) in
    ap (λ l. filled 4096 (l ++ keys)) front
    ∙ append_assoc (head ++ child_area cs) keys (replicate (4096 - length ((head ++ child_area cs) ++ keys)) 0)
    ∙ ap (λ m. (head ++ child_area cs) ++ (keys ++ replicate m 0)) (rest (length ks) (length ((head ++ child_area cs) ++ keys)) whole)
    ∙ append_assoc head (child_area cs) (key_area ks)
  where
    left : (n m : ℕ) → m ≡ 8 + 4 * n → 1024 - m ≡ 1016 - 4 * n
    left n m h = omega arith

    rest : (n m : ℕ) → m ≡ 1024 + 12 * n → 4096 - m ≡ 3072 - 12 * n
    rest n m h = omega arith

pub shape_of : (bytes : List ℕ) (inner : Inner) → IsInnerPage bytes inner → IsShaped inner.height (length inner.children) bytes inner.children inner.keys
shape_of bytes inner p = record {
  few = p.is_inner.most;
  fewer = omega (arith, p.is_inner.between, p.is_inner.most);
  shape = p.written ∙ inner_shape inner.height inner.children inner.keys p.is_inner.most;
}

pub inner_page_of : (n : ℕ) (bytes : List ℕ) (inner : Inner) → n ≡ length inner.children → IsInner inner
    → IsShaped inner.height n bytes inner.children inner.keys → IsInnerPage bytes inner
inner_page_of n bytes inner e is s = record {
  is_inner = is;
  written = s.shape ∙ ap (λ m. inner_head inner.height m ++ (child_area inner.children ++ key_area inner.keys)) e
      ∙ sym (inner_shape inner.height inner.children inner.keys is.most);
}

pub count_is : (bytes : List ℕ) (inner : Inner) → IsInnerPage bytes inner → short_at bytes 2 ≡ length inner.children
count_is bytes inner p =
    let small : length inner.children < 2 ^ 16 = omega (arith, p.is_inner.most) in
    ap (λ l. short_at l 2) (shape_of bytes inner p).shape ∙ from_be_bytes-to_be_bytes_2 (length inner.children) small

pub height_is : (bytes : List ℕ) (inner : Inner) → IsInnerPage bytes inner → slice_index bytes 1 ≡ inner.height
height_is bytes inner p = ap (λ l. slice_index l 1) (shape_of bytes inner p).shape

below_word : (n : ℕ) → nat_le 1 n && nat_lt n (2 ^ 32) ≡ true → (1 ≤ n) × (n < 2 ^ 32)
below_word n h =
    let t = and_parts (nat_le 1 n) (nat_lt n (2 ^ 32)) h in
    (leb-true 1 n t.0, ltb-true n (2 ^ 32) t.1)

pub child_within : (inner : Inner) (i : ℕ) → IsInner inner → i < length inner.children → (1 ≤ slice_index inner.children i)
    × (slice_index inner.children i < 2 ^ 32)
child_within inner i is lt = below_word (slice_index inner.children i) (all_at (λ c. nat_le 1 c && nat_lt c (2 ^ 32)) inner.children i 0 is.children lt)

pub child_is : (bytes : List ℕ) (inner : Inner) (i : ℕ) → IsInnerPage bytes inner → i < length inner.children
    → word_at bytes (8 + 4 * i) ≡ slice_index inner.children i
child_is bytes inner i p lt =
    word_stands (slice_index inner.children i) bytes (8 + 4 * i) (child_within inner i p.is_inner lt).1
    (row_stands (to_be_bytes w32) 4 1016 (inner_head inner.height (length inner.children)) (key_area inner.keys) bytes inner.children i (8 + 4 * i) 0
    (children_of inner.height (length inner.children) bytes inner.children inner.keys (shape_of bytes inner p)) lt refl)

key_fit_at : (ks : List Key) (i : ℕ) (d : Key) → KeysFit ks → i < length ks → KeyFits (get_or ks i d)
key_fit_at [] i d f lt = absurd (omega arith)
key_fit_at (k ∷ ks) zero d f lt = f.0
key_fit_at (k ∷ ks) (suc i) d f lt = key_fit_at ks i d f.1 (omega arith)

pub key_is : (bytes : List ℕ) (inner : Inner) (i : ℕ) (d : Key) → IsInnerPage bytes inner → i < length inner.keys
    → key_at bytes (1024 + 12 * i) ≡ get_or inner.keys i d
key_is bytes inner i d p lt =
    let n = length inner.children in
    let start = key_start inner.height n inner.children p.is_inner.most in
    key_stands (get_or inner.keys i d) bytes (1024 + 12 * i) (key_fit_at inner.keys i d p.is_inner.fit lt)
    (row_stands key_bytes 12 3072 (inner_head inner.height n ++ child_area inner.children) [] bytes inner.keys i (1024 + 12 * i) d
    (keys_of_page inner.height n bytes inner.children inner.keys (shape_of bytes inner p)) lt (ap (λ m. m + 12 * i) (sym start)))

abbrev no_key : Key
no_key = record { layer = 0; part = 0; code = 0; depth = 0; item = 0 }

-- An inner page reads as its height, children and keys.
pub read_back : (bytes : List ℕ) (inner : Inner) → IsInnerPage bytes inner → read_inner bytes ≡ inner
read_back bytes inner p =
    let count = count_is bytes inner p in
    let one_less : short_at bytes 2 - 1 ≡ length inner.keys = omega (arith, count, p.is_inner.between) in
    let height = height_is bytes inner p in
    let children : map (λ i. word_at bytes (8 + 4 * i)) (range_with_len 0 (short_at bytes 2)) ≡ inner.children =
    sym (fill_by_all (λ i. word_at bytes (8 + 4 * i)) inner.children (short_at bytes 2) 0 (sym count)
    (λ k lt. sym (child_is bytes inner k p (subst (λ m. k < m) count lt)))) in
    let keys : map (λ i. key_at bytes (1024 + 12 * i)) (range_with_len 0 (short_at bytes 2 - 1)) ≡ inner.keys =
    sym (fill_by_all (λ i. key_at bytes (1024 + 12 * i)) inner.keys (short_at bytes 2 - 1) no_key (sym one_less)
    (λ k lt. sym (key_is bytes inner k no_key p (subst (λ m. k < m) one_less lt)))) in
    λ i. record { height = height i; children = children i; keys = keys i }

pub read_again : (bytes : List ℕ) (inner : Inner) → IsInnerPage bytes inner → IsInnerPage bytes (read_inner bytes)
read_again bytes inner p = subst (IsInnerPage bytes) (sym (read_back bytes inner p)) p

pub keys_append : (ks ls : List Key) → KeysFit ks → KeysFit ls → KeysFit (ks ++ ls)
keys_append [] ls f g = g
keys_append (k ∷ ks) ls f g = (f.0, keys_append ks ls f.1 g)

pub keys_take : (ks : List Key) (i : ℕ) → KeysFit ks → KeysFit (take i ks)
keys_take ks zero f = tt
keys_take [] (suc i) f = tt
keys_take (k ∷ ks) (suc i) f = (f.0, keys_take ks i f.1)

pub keys_drop : (ks : List Key) (i : ℕ) → KeysFit ks → KeysFit (drop i ks)
keys_drop ks zero f = f
keys_drop [] (suc i) f = tt
keys_drop (k ∷ ks) (suc i) f = keys_drop ks i f.1

pub keys_set : (ks : List Key) (i : ℕ) (k : Key) → KeysFit ks → KeyFits k → KeysFit (set ks i k)
keys_set [] i k f g = tt
keys_set (l ∷ ks) zero k f g = (g, f.1)
keys_set (l ∷ ks) (suc i) k f g = (f.0, keys_set ks i k f.1 g)

abbrev pub is_page : ℕ → Bool
is_page c = nat_le 1 c && nat_lt c (2 ^ 32)

pub page_test : (c : ℕ) → 1 ≤ c → c < 2 ^ 32 → is_page c ≡ true
page_test c h g = and_from (nat_le 1 c) (nat_lt c (2 ^ 32)) (le-leb 1 c h) (lt-ltb c (2 ^ 32) g)

-- A page is filled behind its first bytes.
pub filled_inner : (height n : ℕ) (start mid new cs : List ℕ) → start ≡ 2 ∷ height ∷ to_be_bytes w16 n → length cs ≤ 1016
    → mid ≡ take 0 (replicate {A = ℕ} 4096 0) ++ (start ++ drop (0 + length start) (replicate {A = ℕ} 4096 0))
    → new ≡ take 8 mid ++ (cs ++ drop (8 + length cs) mid)
    → new ≡ inner_head height n ++ ((cs ++ replicate (1016 - length cs) 0) ++ replicate 3072 0)
filled_inner height n start mid new cs s few m e =
    let head = inner_head height n in
    let shape : mid ≡ head ++ replicate {A = ℕ} 4088 0 =
    m ∙ ap (λ l. l ++ drop (0 + length l) (replicate {A = ℕ} 4096 0)) s
    ∙ ap (λ l. (2 ∷ height ∷ to_be_bytes w16 n) ++ l) (drop-replicate 4 4096 0 ∙ sym (replicate-append-replicate 4 4088 0))
    ∙ sym (append_assoc (2 ∷ height ∷ to_be_bytes w16 n) (replicate 4 0) (replicate 4088 0)) in
    let zeros : 4088 - length cs ≡ (1016 - length cs) + 3072 = omega (arith, few) in
    e ∙ ap (λ l. take 8 l ++ (cs ++ drop (8 + length cs) l)) shape
    ∙ ap (λ l. l ++ (cs ++ drop (8 + length cs) (head ++ replicate {A = ℕ} 4088 0))) (cut_front head (replicate 4088 0) 8 refl)
    ∙ ap (λ l. head ++ (cs ++ l)) (drop-append-add head (replicate {A = ℕ} 4088 0) (length cs) ∙ drop-replicate (length cs) 4088 0
    ∙ ap (λ k. replicate {A = ℕ} k 0) zeros ∙ sym (replicate-append-replicate (1016 - length cs) 3072 0))
    ∙ ap (λ l. head ++ l) (sym (append_assoc cs (replicate (1016 - length cs) 0) (replicate 3072 0)))

passed_all : {X : Type 0} (a b c d e f g : Bool) (x : X) → a ≡ true → b ≡ true → c ≡ true → d ≡ true → e ≡ true → f ≡ true → g ≡ true
    → (if a && b && c && d && e && f && g then Some x else None) ≡ Some x
passed_all true true true true true true true x p q r s t u v = refl
passed_all true true true true true true false x p q r s t u v = cc
passed_all true true true true true false g x p q r s t u v = cc
passed_all true true true true false f g x p q r s t u v = cc
passed_all true true true false e f g x p q r s t u v = cc
passed_all true true false d e f g x p q r s t u v = cc
passed_all true false c d e f g x p q r s t u v = cc
passed_all false b c d e f g x p q r s t u v = cc

-- The bytes of an inner page are well formed where its children are pages, and are its height, children and keys.
pub inner_of_page : (pages : ℕ) (bytes : List ℕ) (inner : Inner) → IsInnerPage bytes inner → are_pages pages inner.children ≡ true
    → inner_of pages bytes ≡ Some inner
unfolding inner_of
inner_of_page pages bytes inner p h =
    let same = read_back bytes inner p in
    let q = read_inner bytes in
    let is = p.is_inner in
    passed_all (nat_le 2 q.height) (nat_le q.height 3) (nat_le 2 (length q.children)) (nat_le (length q.children) 254)
    (list_all (λ c. nat_le 1 c && nat_lt c pages) q.children)
    (is_ascending q.keys) (bytes_eq (inner_bytes q.height q.children q.keys) bytes) q
    (ap (λ (l : Inner). nat_le 2 l.height) same ∙ le-leb 2 inner.height is.low)
    (ap (λ (l : Inner). nat_le l.height 3) same ∙ le-leb inner.height 3 is.high)
    (ap (λ (l : Inner). nat_le 2 (length l.children)) same ∙ le-leb 2 (length inner.children) is.least)
    (ap (λ (l : Inner). nat_le (length l.children) 254) same ∙ le-leb (length inner.children) 254 is.most)
    (ap (λ (l : Inner). are_pages pages l.children) same ∙ h)
    (ap (λ (l : Inner). is_ascending l.keys) same ∙ is.ascends)
    ((bytes_eq-Decides (inner_bytes q.height q.children q.keys) bytes).1 (ap (λ (l : Inner). inner_bytes l.height l.children l.keys) same ∙ sym p.written))
    ∙ ap Some same
