-- Bytes that are written at an offset, and the pages of a file.
use Rattle.std.proofs.Common.{◌≡◌, ◌≢◌, ◌⊎◌, inl, inr, ℕ, ◌+◌, ◌-◌, ◌*◌, ◌<◌, ◌≤◌, min, List, [], ◌∷◌, ◌++◌, length, get_or, take, drop, map, replicate, refl, sym, ◌∙◌, ap, subst, arith, append_assoc, le_refl}
use Rattle.std.proofs.lemmas.Bool.{cases_lt}
use Rattle.std.proofs.lemmas.List.{append-nil, length-append, length-take, length-take-le, length-drop, length-replicate, take-append-le, take-append-drop, take_all, drop-append-le, drop-drop, drop_all, take-replicate, drop-replicate, replicate-append-replicate, ext_get_or, get_or-replicate}
use Rattle.std.proofs.Math.Seq.{take-append_seam, drop-append_seam, drop-append-add}
use Rattle.std.proofs.lemmas.List.FromFn.{get_or-map-range_with_len, length-map-range_with_len}
use Rattle.quilt_types.specs.Plane.{below}
use Rattle.quilt_host.specs.Bytes.{padded, patched, page_at, file_pages}

-- ---- bytes at an offset

pub length-padded : (f : List ℕ) (n : ℕ) → length (padded f n) ≡ n
unfolding padded
length-padded f n = omega (arith, length-append (take n f) (replicate (n - length f) 0), length-take n f, length-replicate {A = ℕ} (n - length f) 0)

pub padded_within : (f : List ℕ) (n : ℕ) → n ≤ length f → padded f n ≡ take n f
unfolding padded
padded_within f n within =
    let none : n - length f ≡ 0 = omega arith in
    ap (λ z. take n f ++ replicate z 0) none ∙ append-nil (take n f)

pub length-overlaid : (f : List ℕ) (at : ℕ) (x : List ℕ) → length (patched f at x) ≡ at + length x + (length f - (at + length x))
unfolding patched
length-overlaid f at x =
    omega (arith, length-append (padded f at ++ x) (drop (at + length x) f), length-append (padded f at) x, length-padded f at, length-drop (at + length x) f)

pub length-overlaid_least : (f : List ℕ) (at : ℕ) (x : List ℕ) → length f ≤ length (patched f at x)
length-overlaid_least f at x = omega (arith, length-overlaid f at x)

-- the first bytes, up to the end of those that were written
overlaid_front : (f : List ℕ) (at : ℕ) (x : List ℕ) (n : ℕ) → at + length x ≡ n → take n (patched f at x) ≡ padded f at ++ x
unfolding patched
overlaid_front f at x n is =
    let len : length (padded f at ++ x) ≡ n = omega (arith, length-append (padded f at) x, length-padded f at) in
    ap (λ m. take m ((padded f at ++ x) ++ drop (at + length x) f)) (sym len) ∙ take-append_seam (padded f at ++ x) (drop (at + length x) f)

-- the bytes behind those that were written
overlaid_back : (f : List ℕ) (at : ℕ) (x : List ℕ) (n : ℕ) → at + length x ≤ n → drop n (patched f at x) ≡ drop n f
unfolding patched
overlaid_back f at x n past =
    let len : length (padded f at ++ x) ≡ at + length x = omega (arith, length-append (padded f at) x, length-padded f at) in
    let rest = drop (at + length x) f in
    let k = n - (at + length x) in
    let is : length (padded f at ++ x) + k ≡ n = omega arith in
    let again : at + length x + k ≡ n = omega arith in
    ap (λ m. drop m ((padded f at ++ x) ++ rest)) (sym is) ∙ drop-append-add (padded f at ++ x) rest k ∙ drop-drop k (at + length x) f ∙ ap (λ m. drop m f) again

-- bytes behind bytes are written as one
pub overlaid-overlaid : (f : List ℕ) (at : ℕ) (x : List ℕ) (next : ℕ) (y : List ℕ) → at + length x ≡ next
    → patched (patched f at x) next y ≡ patched f at (x ++ y)
unfolding patched
overlaid-overlaid f at x next y is =
    let g = patched f at x in
    let within : next ≤ length g = omega (arith, length-overlaid f at x) in
    let front : padded g next ≡ padded f at ++ x = padded_within g next within ∙ overlaid_front f at x next is in
    let back : drop (next + length y) g ≡ drop (next + length y) f = overlaid_back f at x (next + length y) (omega arith) in
    let end : next + length y ≡ at + length (x ++ y) = omega (arith, length-append x y) in
    ap (λ t. t ++ y ++ drop (next + length y) g) front
    ∙ ap (λ d. padded f at ++ x ++ y ++ d) back
    ∙ ap (λ t. t ++ drop (next + length y) f) (append_assoc (padded f at) x y)
    ∙ ap (λ n. padded f at ++ (x ++ y) ++ drop n f) end

-- ---- pieces

front_piece : (n b : ℕ) (a rest : List ℕ) → b + n ≤ length a → take n (drop b (a ++ rest)) ≡ take n (drop b a)
front_piece n b a rest within =
    ap (take n) (drop-append-le b a rest (omega arith)) ∙ take-append-le n (drop b a) rest (omega (arith, length-drop b a))

piece_before : (n : ℕ) (f : List ℕ) (at b : ℕ) (x : List ℕ) → at ≤ length f → b + n ≤ at → take n (drop b (patched f at x)) ≡ take n (drop b f)
unfolding patched
piece_before n f at b x within before =
    let a = take at f in
    let len : length a ≡ at = length-take-le at f within in
    ap (λ p. take n (drop b (p ++ x ++ drop (at + length x) f))) (padded_within f at within)
    ∙ ap (λ l. take n (drop b l)) (append_assoc a x (drop (at + length x) f))
    ∙ front_piece n b a (x ++ drop (at + length x) f) (omega arith)
    ∙ sym (front_piece n b a (drop at f) (omega arith))
    ∙ ap (λ l. take n (drop b l)) (take-append-drop at f)

piece_of : (n : ℕ) (f : List ℕ) (at : ℕ) (x : List ℕ) → length x ≡ n → take n (drop at (patched f at x)) ≡ x
unfolding patched
piece_of n f at x is =
    let p = padded f at in
    let rest = drop (at + length x) f in
    ap (λ l. take n (drop at l)) (append_assoc p x rest)
    ∙ ap (λ m. take n (drop m (p ++ (x ++ rest)))) (sym (length-padded f at))
    ∙ ap (take n) (drop-append_seam p (x ++ rest))
    ∙ ap (λ m. take m (x ++ rest)) (sym is)
    ∙ take-append_seam x rest

-- ---- pages

pub length-pages_of : (f : List ℕ) (n : ℕ) → length (file_pages f n) ≡ n
unfolding file_pages
length-pages_of f n = length-map-range_with_len (page_at f) 0 n

pub get-pages_of : (f : List ℕ) (n i : ℕ) → i < n → get_or (file_pages f n) i [] ≡ page_at f i
unfolding file_pages
get-pages_of f n i within = get_or-map-range_with_len (page_at f) 0 n i i [] within (omega arith)

-- the other pages stay
pub page-overlaid_other : (f : List ℕ) (i j : ℕ) (x : List ℕ) → i ≢ j → length x ≤ 4096 → i * 4096 ≤ length f → page_at (patched f (i * 4096) x) j ≡ page_at f j
unfolding page_at
page-overlaid_other f i j x apart few within = elim (cases_lt i j) [
  | inl behind ↦ ap (λ l. take 4096 l) (overlaid_back f (i * 4096) x (j * 4096) (omega arith))
  | inr before ↦ piece_before 4096 f (i * 4096) (j * 4096) x within (omega arith)
]

-- a page that is written whole reads so
pub page-overlaid_same : (f : List ℕ) (i : ℕ) (x : List ℕ) → length x ≡ 4096 → page_at (patched f (i * 4096) x) i ≡ x
unfolding page_at
page-overlaid_same f i x is = piece_of 4096 f (i * 4096) x is

-- ---- zeros

pub overlaid_end : (f : List ℕ) (at : ℕ) (x : List ℕ) → length f ≡ at → patched f at x ≡ f ++ x
unfolding patched
overlaid_end f at x is =
    ap (λ p. p ++ x ++ drop (at + length x) f) (padded_within f at (omega arith) ∙ take_all at f (omega arith))
    ∙ ap (λ d. f ++ x ++ d) (drop_all (at + length x) f (omega arith))
    ∙ append-nil (f ++ x)

pub zeros_more : (i n : ℕ) → i + 1 ≡ n → patched (replicate (i * 4096) 0) (i * 4096) (replicate 4096 0) ≡ replicate (n * 4096) 0
zeros_more i n is = more 4096 (i * 4096) (n * 4096) (omega arith)
  where
    more : (size at end : ℕ) → at + size ≡ end → patched (replicate at 0) at (replicate size 0) ≡ replicate end 0
    more size at end total =
        overlaid_end (replicate at 0) at (replicate size 0) (length-replicate at 0)
        ∙ replicate-append-replicate at size 0
        ∙ ap (λ m. replicate m 0) total

pub pages_of-zeros : (n : ℕ) → file_pages (replicate (n * 4096) 0) n ≡ replicate n (replicate 4096 0)
unfolding page_at
pages_of-zeros n = ext_get_or [] _ _
    (length-pages_of (replicate (n * 4096) 0) n ∙ sym (length-replicate n (replicate {A = ℕ} 4096 0)))
    (λ i within.
    let low : i < n = omega (arith, length-pages_of (replicate (n * 4096) 0) n) in
    get-pages_of (replicate (n * 4096) 0) n i low ∙ zero_page i low ∙ sym (get_or-replicate n i (replicate {A = ℕ} 4096 0) [] low))
  where
    zero_piece : (size at end : ℕ) → at + size ≤ end → take {A = ℕ} size (drop at (replicate end 0)) ≡ replicate size 0
    zero_piece size at end within = ap (take {A = ℕ} size) (drop-replicate at end 0) ∙ take-replicate size (end - at) 0 (omega arith)

    zero_page : (i : ℕ) → i < n → page_at (replicate (n * 4096) 0) i ≡ replicate 4096 0
    zero_page i low = zero_piece 4096 (i * 4096) (n * 4096) (omega arith)
