-- Rows of one width in the bytes of a page, with zeros behind them up to a fixed size, and what edits of the bytes make of the rows.
use Rattle.std.proofs.Common.{◌≡◌, ℕ, zero, suc, ◌+◌, ◌-◌, ◌*◌, ◌<◌, ◌≤◌, List, [], ◌∷◌, ◌++◌, length, map, take, drop, get_or, set, slice_range, refl, sym}
use Rattle.std.proofs.Common.{◌∙◌, ap, subst, append_assoc, arith, replicate, flat_map, length-append, length-drop, length-take-le, add-one}
use Rattle.std.specs.List.{insert, remove, range_with_len}
use Rattle.std.proofs.Math.Nat.{mul-suc, mul-zero, mul-add, mul-le-mul_left}
use Rattle.std.proofs.Math.Seq.{take-append_seam, drop-append_seam, drop-cons, take-add, take-length}
use Rattle.std.proofs.lemmas.List.{take-append-drop, drop-drop, replicate-append-replicate, length-replicate, take-set, drop-set, length-set}
use Rattle.std.proofs.lemmas.Grind.{flat_map-append}

-- each row has this width
abbrev pub Wide : {X : Type 0} → (X → List ℕ) → ℕ → List X → Type 0
Wide f w [] = Unit {0}
Wide f w (x ∷ xs) = (length (f x) ≡ w) × Wide f w xs

-- the rows, and zeros up to a size
abbrev pub area : {X : Type 0} → (X → List ℕ) → ℕ → ℕ → List X → List ℕ
area f w size xs = flat_map f xs ++ replicate (size - w * length xs) 0

-- a page with such an area between others
pub record HasArea {X : Type 0} (f : X → List ℕ) (w size : ℕ) (pre post bytes : List ℕ) (xs : List X) : Type 0 where
  pub wide : Wide f w xs
  pub fits : w * length xs ≤ size
  pub shape : bytes ≡ pre ++ (area f w size xs ++ post)

pub cut_front : (p q : List ℕ) (at : ℕ) → at ≡ length p → take at (p ++ q) ≡ p
cut_front p q at e = ap (λ n. take n (p ++ q)) e ∙ take-append_seam p q

pub cut_back : (p q : List ℕ) (at : ℕ) → at ≡ length p → drop at (p ++ q) ≡ q
cut_back p q at e = ap (λ n. drop n (p ++ q)) e ∙ drop-append_seam p q

pub cut_mid : (p m q : List ℕ) (at end : ℕ) → at ≡ length p → end ≡ length p + length m → slice_range (p ++ (m ++ q)) at end ≡ m
cut_mid p m q at end e f =
    let w : end - at ≡ length m = omega arith in
    ap (take (end - at)) (cut_back p (m ++ q) at e) ∙ ap (λ n. take n (m ++ q)) w ∙ take-append_seam m q

pub cut_end : (p m q : List ℕ) (end : ℕ) → end ≡ length p + length m → drop end (p ++ (m ++ q)) ≡ q
cut_end p m q end f = ap (drop end) (sym (append_assoc p m q)) ∙ cut_back (p ++ m) q end (f ∙ sym (length-append p m))

pub wide_length : {X : Type 0} (f : X → List ℕ) (w : ℕ) (xs : List X) → Wide f w xs → length (flat_map f xs) ≡ w * length xs
wide_length f w [] h = sym (mul-zero w)
wide_length f w (x ∷ xs) h =
    let rest = wide_length f w xs h.1 in
    omega (arith, h.0, rest, length-append (f x) (flat_map f xs), mul-suc w (length xs))

pub wide_take : {X : Type 0} (f : X → List ℕ) (w : ℕ) (xs : List X) (i : ℕ) → Wide f w xs → Wide f w (take i xs)
wide_take f w xs zero h = tt
wide_take f w [] (suc i) h = tt
wide_take f w (x ∷ xs) (suc i) h = (h.0, wide_take f w xs i h.1)

pub wide_drop : {X : Type 0} (f : X → List ℕ) (w : ℕ) (xs : List X) (i : ℕ) → Wide f w xs → Wide f w (drop i xs)
wide_drop f w xs zero h = h
wide_drop f w [] (suc i) h = tt
wide_drop f w (x ∷ xs) (suc i) h = wide_drop f w xs i h.1

pub wide_append : {X : Type 0} (f : X → List ℕ) (w : ℕ) (xs ys : List X) → Wide f w xs → Wide f w ys → Wide f w (xs ++ ys)
wide_append f w [] ys h g = g
wide_append f w (x ∷ xs) ys h g = (h.0, wide_append f w xs ys h.1 g)

-- the rows in front of a place, and those from it on
pub split_rows : {X : Type 0} (f : X → List ℕ) (xs : List X) (i : ℕ) → flat_map f xs ≡ flat_map f (take i xs) ++ flat_map f (drop i xs)
split_rows f xs i = ap (flat_map f) (sym (take-append-drop i xs)) ∙ flat_map-append f (take i xs) (drop i xs)

pub length_insert : {X : Type 0} (xs : List X) (i : ℕ) (x : X) → length (insert xs i x) ≡ suc (length xs)
length_insert xs zero x = refl
length_insert [] (suc i) x = refl
length_insert (y ∷ xs) (suc i) x = ap suc (length_insert xs i x)

pub length_remove : {X : Type 0} (xs : List X) (i : ℕ) → i < length xs → suc (length (remove xs i)) ≡ length xs
length_remove [] i h = absurd (omega arith)
length_remove (x ∷ xs) zero h = refl
length_remove (x ∷ xs) (suc i) h = ap suc (length_remove xs i (omega arith))

-- A page is cut at a place of its rows.
pub record IsCut (bytes p m q : List ℕ) (at end : ℕ) : Type 0 where
  pub shape : bytes ≡ p ++ (m ++ q)
  pub front : at ≡ length p
  pub back : end ≡ length p + length m

pub cut_at : {X : Type 0} (f : X → List ℕ) (w size : ℕ) (pre post bytes : List ℕ) (xs : List X) (i at end : ℕ) → HasArea f w size pre post bytes xs
    → i ≤ length xs → at ≡ length pre + w * i → end ≡ length pre + w * length xs
    → IsCut bytes (pre ++ flat_map f (take i xs)) (flat_map f (drop i xs)) (replicate (size - w * length xs) 0 ++ post) at end
cut_at f w size pre post bytes xs i at end h place e g =
    let front : length (flat_map f (take i xs)) ≡ w * i =
    wide_length f w (take i xs) (wide_take f w xs i h.wide) ∙ ap (λ n. w * n) (length-take-le i xs place) in
    let whole : length (flat_map f (take i xs)) + length (flat_map f (drop i xs)) ≡ w * length xs =
    sym (length-append (flat_map f (take i xs)) (flat_map f (drop i xs))) ∙ ap length (sym (split_rows f xs i)) ∙ wide_length f w xs h.wide in
    let pre_length = length-append pre (flat_map f (take i xs)) in
    record {
      shape = h.shape ∙ ap (λ l. pre ++ ((l ++ replicate (size - w * length xs) 0) ++ post)) (split_rows f xs i)
          ∙ simp append_assoc refl;
      front = omega arith;
      back = omega arith;
    }

zeros_split : (w size n : ℕ) → w * suc n ≤ size → replicate {A = ℕ} (size - w * n) 0 ≡ replicate w 0 ++ replicate (size - w * suc n) 0
zeros_split w size n h =
    let more : size - w * n ≡ w + (size - w * suc n) = omega (arith, mul-suc w n, h) in
    ap (λ m. replicate {A = ℕ} m 0) more ∙ sym (replicate-append-replicate w (size - w * suc n) 0)

-- a row is put in at a place, and those behind it move on
pub put_row : {X : Type 0} (f : X → List ℕ) (w size : ℕ) (pre post bytes new piece : List ℕ) (xs : List X) (i at end : ℕ) (x : X)
    → HasArea f w size pre post bytes xs
    → length (f x) ≡ w → i ≤ length xs → w * suc (length xs) ≤ size → at ≡ length pre + w * i → end ≡ length pre + w * length xs → piece ≡ f x
    → new ≡ take at bytes ++ (piece ++ (slice_range bytes at end ++ drop (end + w) bytes))
    → HasArea f w size pre post new (insert xs i x)
put_row f w size pre post bytes new piece xs i at end x h wide place room e g row made =
    let c = cut_at f w size pre post bytes xs i at end h place e g in
    let p = pre ++ flat_map f (take i xs) in
    let m = flat_map f (drop i xs) in
    let left = replicate {A = ℕ} (size - w * suc (length xs)) 0 in
    let whole : bytes ≡ p ++ ((m ++ replicate w 0) ++ (left ++ post)) =
    c.shape ∙ ap (λ l. p ++ (m ++ (l ++ post))) (zeros_split w size (length xs) room) ∙ simp append_assoc refl in
    let last : end + w ≡ length p + length (m ++ replicate {A = ℕ} w 0) =
    omega (arith, c.back, length-append m (replicate {A = ℕ} w 0), length-replicate {A = ℕ} w 0) in
    record {
      wide = wide_append f w (take i xs) (x ∷ drop i xs) (wide_take f w xs i h.wide) (wide, wide_drop f w xs i h.wide);
      fits = subst (λ n. w * n ≤ size) (sym (length_insert xs i x)) room;
      shape = made
          ∙ ap (λ l. l ++ (piece ++ (slice_range bytes at end ++ drop (end + w) bytes))) (ap (take at) c.shape ∙ cut_front p _ at c.front)
          ∙ ap (λ l. p ++ (piece ++ (l ++ drop (end + w) bytes))) (ap (λ l. slice_range l at end) c.shape ∙ cut_mid p m _ at end c.front c.back)
          ∙ ap (λ l. p ++ (piece ++ (m ++ l))) (ap (drop (end + w)) whole ∙ cut_end p (m ++ replicate w 0) (left ++ post) (end + w) last)
          ∙ ap (λ l. p ++ (l ++ (m ++ (left ++ post)))) row
          ∙ simp append_assoc refl
          ∙ ap (λ l. pre ++ (l ++ (left ++ post))) (sym (flat_map-append f (take i xs) (x ∷ drop i xs)))
          ∙ ap (λ n. pre ++ (flat_map f (insert xs i x) ++ (replicate (size - w * n) 0 ++ post))) (sym (length_insert xs i x))
          ∙ ap (λ l. pre ++ l) (sym (append_assoc (flat_map f (insert xs i x)) (replicate (size - w * length (insert xs i x)) 0) post));
    }

pub wide_remove : {X : Type 0} (f : X → List ℕ) (w : ℕ) (xs : List X) (i : ℕ) → Wide f w xs → Wide f w (remove xs i)
wide_remove f w xs i h = wide_append f w (take i xs) (drop (suc i) xs) (wide_take f w xs i h) (wide_drop f w xs (suc i) h)

row_of_wide : {X : Type 0} (f : X → List ℕ) (w : ℕ) (xs : List X) (i : ℕ) (d : X) → Wide f w xs → i < length xs → length (f (get_or xs i d)) ≡ w
row_of_wide f w [] i d h lt = absurd (omega arith)
row_of_wide f w (x ∷ xs) zero d h lt = h.0
row_of_wide f w (x ∷ xs) (suc i) d h lt = row_of_wide f w xs i d h.1 (omega arith)

-- the row at a place, between those before and behind it
pub split_at_row : {X : Type 0} (f : X → List ℕ) (xs : List X) (i : ℕ) (d : X) → i < length xs
    → flat_map f (drop i xs) ≡ f (get_or xs i d) ++ flat_map f (drop (suc i) xs)
split_at_row f xs i d lt = ap (flat_map f) (drop-cons xs i d lt)

-- a row is taken out, those behind it move back, and zeros stand behind them
pub take_row : {X : Type 0} (f : X → List ℕ) (w size : ℕ) (pre post bytes new : List ℕ) (xs : List X) (i at end : ℕ) (d : X)
    → HasArea f w size pre post bytes xs
    → i < length xs → at ≡ length pre + w * i → end ≡ length pre + w * length xs
    → new ≡ take at bytes ++ (slice_range bytes (at + w) end ++ (replicate w 0 ++ drop end bytes))
    → HasArea f w size pre post new (remove xs i)
take_row f w size pre post bytes new xs i at end d h place e g made =
    let c = cut_at f w size pre post bytes xs i at end h (omega arith) e g in
    let p = pre ++ flat_map f (take i xs) in
    let row = f (get_or xs i d) in
    let m = flat_map f (drop (suc i) xs) in
    let q = replicate {A = ℕ} (size - w * length xs) 0 ++ post in
    let one : length row ≡ w = row_of_wide f w xs i d h.wide place in
    let cut : flat_map f (drop i xs) ≡ row ++ m = split_at_row f xs i d place in
    let whole : bytes ≡ (p ++ row) ++ (m ++ q) = c.shape ∙ ap (λ l. p ++ (l ++ q)) cut ∙ simp append_assoc refl in
    let rest_length : length (flat_map f (drop i xs)) ≡ w + length m = ap length cut ∙ length-append row m ∙ ap (λ n. n + length m) one in
    let front : at + w ≡ length (p ++ row) = omega (arith, c.front, length-append p row, one) in
    let back : end ≡ length (p ++ row) + length m = omega (arith, c.back, c.front, front, rest_length) in
    let fewer = length_remove xs i place in
    let less : w * length xs ≡ w * length (remove xs i) + w = ap (λ n. w * n) (sym fewer) ∙ mul-suc w (length (remove xs i)) in
    let room : w * suc (length (remove xs i)) ≤ size = subst (λ n. w * n ≤ size) (sym fewer) h.fits in
    record {
      wide = wide_remove f w xs i h.wide;
      fits = omega (arith, less, h.fits);
      shape = made
          ∙ ap (λ l. l ++ (slice_range bytes (at + w) end ++ (replicate w 0 ++ drop end bytes))) (ap (take at) c.shape ∙ cut_front p _ at c.front)
          ∙ ap (λ l. p ++ (l ++ (replicate w 0 ++ drop end bytes)))
          (ap (λ l. slice_range l (at + w) end) whole ∙ cut_mid (p ++ row) m q (at + w) end front back)
          ∙ ap (λ l. p ++ (m ++ (replicate w 0 ++ l))) (ap (drop end) whole ∙ cut_end (p ++ row) m q end back)
          ∙ simp append_assoc refl
          ∙ ap (λ l. pre ++ (l ++ (replicate w 0 ++ q))) (sym (flat_map-append f (take i xs) (drop (suc i) xs)))
          ∙ ap (λ n. pre ++ (flat_map f (remove xs i) ++ (replicate w 0 ++ (replicate (size - w * n) 0 ++ post)))) (sym fewer)
          ∙ ap (λ l. pre ++ (flat_map f (remove xs i) ++ l)) (sym (append_assoc (replicate w 0) (replicate (size - w * suc (length (remove xs i))) 0) post))
          ∙ ap (λ l. pre ++ (flat_map f (remove xs i) ++ (l ++ post))) (sym (zeros_split w size (length (remove xs i)) room))
          ∙ ap (λ l. pre ++ l) (sym (append_assoc (flat_map f (remove xs i)) (replicate (size - w * length (remove xs i)) 0) post));
    }

-- rows are added behind the last
pub add_rows : {X : Type 0} (f : X → List ℕ) (w size : ℕ) (pre post bytes new piece : List ℕ) (xs ys : List X) (end : ℕ) → HasArea f w size pre post bytes xs
    → Wide f w ys → w * length (xs ++ ys) ≤ size → end ≡ length pre + w * length xs → piece ≡ flat_map f ys
    → new ≡ take end bytes ++ (piece ++ drop (end + length piece) bytes)
    → HasArea f w size pre post new (xs ++ ys)
add_rows f w size pre post bytes new piece xs ys end h wide room g rows made =
    let p = pre ++ flat_map f xs in
    let many = length-append xs ys in
    let piece_length : length piece ≡ w * length ys = ap length rows ∙ wide_length f w ys wide in
    let both : w * length (xs ++ ys) ≡ w * length xs + w * length ys = ap (λ n. w * n) many ∙ mul-add w (length xs) (length ys) in
    let z : size - w * length xs ≡ w * length ys + (size - w * length (xs ++ ys)) = omega (arith, both, room) in
    let left = replicate {A = ℕ} (size - w * length (xs ++ ys)) 0 in
    let whole : bytes ≡ p ++ (replicate (w * length ys) 0 ++ (left ++ post)) =
    h.shape ∙ ap (λ n. pre ++ ((flat_map f xs ++ replicate n 0) ++ post)) z
    ∙ ap (λ l. pre ++ ((flat_map f xs ++ l) ++ post)) (sym (replicate-append-replicate (w * length ys) (size - w * length (xs ++ ys)) 0))
    ∙ simp append_assoc refl in
    let front : end ≡ length p = omega (arith, g, length-append pre (flat_map f xs), wide_length f w xs h.wide) in
    let back : end + length piece ≡ length p + length (replicate {A = ℕ} (w * length ys) 0) =
    omega (arith, front, piece_length, length-replicate {A = ℕ} (w * length ys) 0) in
    record {
      wide = wide_append f w xs ys h.wide wide;
      fits = room;
      shape = made
          ∙ ap (λ l. l ++ (piece ++ drop (end + length piece) bytes)) (ap (take end) whole ∙ cut_front p _ end front)
          ∙ ap (λ l. p ++ (piece ++ l))
          (ap (drop (end + length piece)) whole ∙ cut_end p (replicate (w * length ys) 0) (left ++ post) (end + length piece) back)
          ∙ ap (λ l. p ++ (l ++ (left ++ post))) rows
          ∙ simp append_assoc refl
          ∙ ap (λ l. pre ++ (l ++ (left ++ post))) (sym (flat_map-append f xs ys))
          ∙ ap (λ l. pre ++ l) (sym (append_assoc (flat_map f (xs ++ ys)) left post));
    }

-- only the first rows stay
pub cut_rows : {X : Type 0} (f : X → List ℕ) (w size : ℕ) (pre post bytes new : List ℕ) (xs : List X) (i at end : ℕ) → HasArea f w size pre post bytes xs
    → i ≤ length xs → at ≡ length pre + w * i → end ≡ length pre + w * length xs
    → new ≡ take at bytes ++ (replicate (end - at) 0 ++ drop end bytes)
    → HasArea f w size pre post new (take i xs)
cut_rows f w size pre post bytes new xs i at end h place e g made =
    let c = cut_at f w size pre post bytes xs i at end h place e g in
    let p = pre ++ flat_map f (take i xs) in
    let q = replicate {A = ℕ} (size - w * length xs) 0 ++ post in
    let many = length-take-le i xs place in
    let most : w * i ≤ w * length xs = mul-le-mul_left w place in
    let z : size - w * i ≡ (end - at) + (size - w * length xs) = omega (arith, e, g, most, h.fits) in
    record {
      wide = wide_take f w xs i h.wide;
      fits = subst (λ n. w * n ≤ size) (sym many) (omega (arith, most, h.fits));
      shape = made
          ∙ ap (λ l. l ++ (replicate (end - at) 0 ++ drop end bytes)) (ap (take at) c.shape ∙ cut_front p _ at c.front)
          ∙ ap (λ l. p ++ (replicate (end - at) 0 ++ l)) (ap (drop end) c.shape ∙ cut_end p (flat_map f (drop i xs)) q end c.back)
          ∙ ap (λ l. p ++ l) (sym (append_assoc (replicate (end - at) 0) (replicate (size - w * length xs) 0) post))
          ∙ ap (λ l. p ++ (l ++ post)) (replicate-append-replicate (end - at) (size - w * length xs) 0 ∙ ap (λ n. replicate {A = ℕ} n 0) (sym z))
          ∙ simp append_assoc refl
          ∙ ap (λ n. pre ++ (flat_map f (take i xs) ++ (replicate (size - w * n) 0 ++ post))) (sym many)
          ∙ ap (λ l. pre ++ l) (sym (append_assoc (flat_map f (take i xs)) (replicate (size - w * length (take i xs)) 0) post));
    }

-- the bytes from a place on are the rows from there on
pub rows_from : {X : Type 0} (f : X → List ℕ) (w size : ℕ) (pre post bytes : List ℕ) (xs : List X) (i at end : ℕ) → HasArea f w size pre post bytes xs
    → i ≤ length xs → at ≡ length pre + w * i → end ≡ length pre + w * length xs → slice_range bytes at end ≡ flat_map f (drop i xs)
rows_from f w size pre post bytes xs i at end h place e g =
    let c = cut_at f w size pre post bytes xs i at end h place e g in
    ap (λ l. slice_range l at end) c.shape ∙ cut_mid (pre ++ flat_map f (take i xs)) (flat_map f (drop i xs)) _ at end c.front c.back

-- A row stands at a place of the bytes.
pub record Stands (row bytes : List ℕ) (at : ℕ) : Type 0 where
  pub before : List ℕ
  pub behind : List ℕ
  pub shape : bytes ≡ before ++ (row ++ behind)
  pub place : at ≡ length before

pub row_stands : {X : Type 0} (f : X → List ℕ) (w size : ℕ) (pre post bytes : List ℕ) (xs : List X) (i at : ℕ) (d : X) → HasArea f w size pre post bytes xs
    → i < length xs → at ≡ length pre + w * i → Stands (f (get_or xs i d)) bytes at
row_stands f w size pre post bytes xs i at d h place e =
    let c = cut_at f w size pre post bytes xs i at (length pre + w * length xs) h (omega arith) e refl in
    record {
      before = pre ++ flat_map f (take i xs);
      behind = flat_map f (drop (suc i) xs) ++ (replicate (size - w * length xs) 0 ++ post);
      shape = c.shape ∙ ap (λ l. (pre ++ flat_map f (take i xs)) ++ (l ++ (replicate (size - w * length xs) 0 ++ post)))
          (split_at_row f xs i d place) ∙ simp append_assoc refl;
      place = c.front;
    }

-- a row is written over another
pub set_row : {X : Type 0} (f : X → List ℕ) (w size : ℕ) (pre post bytes new piece : List ℕ) (xs : List X) (i at : ℕ) (x : X)
    → HasArea f w size pre post bytes xs
    → length (f x) ≡ w → i < length xs → at ≡ length pre + w * i → piece ≡ f x
    → new ≡ take at bytes ++ (piece ++ drop (at + length piece) bytes)
    → HasArea f w size pre post new (set xs i x)
set_row f w size pre post bytes new piece xs i at x h wide place e row made =
    let p = pre ++ flat_map f (take i xs) in
    let q = replicate {A = ℕ} (size - w * length xs) 0 ++ post in
    let rest = flat_map f (drop (suc i) xs) ++ q in
    let c = cut_at f w size pre post bytes xs i at (length pre + w * length xs) h (omega arith) e refl in
    let shape : bytes ≡ p ++ (f (get_or xs i x) ++ rest) = c.shape ∙ ap (λ l. p ++ (l ++ q)) (split_at_row f xs i x place) ∙ simp append_assoc refl in
    let one : length (f (get_or xs i x)) ≡ w = row_of_wide f w xs i x h.wide place in
    let piece_length : length piece ≡ w = ap length row ∙ wide in
    let back : at + length piece ≡ length p + length (f (get_or xs i x)) = omega (arith, c.front, one, piece_length) in
    let as_two : set xs i x ≡ take i xs ++ x ∷ drop (suc i) xs =
    sym (take-append-drop i (set xs i x)) ∙ ap (λ l. l ++ drop i (set xs i x)) (take-set xs i x)
    ∙ ap (λ l. take i xs ++ l) (drop-set xs i x place ∙ ap (λ n. x ∷ drop n xs) (add-one i)) in
    record {
      wide =
          subst (Wide f w) (sym as_two) (wide_append f w (take i xs) (x ∷ drop (suc i) xs) (wide_take f w xs i h.wide) (wide, wide_drop f w xs (suc i) h.wide));
      fits = subst (λ n. w * n ≤ size) (sym (length-set xs i x)) h.fits;
      shape = made
          ∙ ap (λ l. l ++ (piece ++ drop (at + length piece) bytes)) (ap (take at) shape ∙ cut_front p _ at c.front)
          ∙ ap (λ l. p ++ (piece ++ l)) (ap (drop (at + length piece)) shape ∙ cut_end p (f (get_or xs i x)) rest (at + length piece) back)
          ∙ ap (λ l. p ++ (l ++ rest)) row
          ∙ simp append_assoc refl
          ∙ ap (λ l. pre ++ (l ++ q)) (sym (flat_map-append f (take i xs) (x ∷ drop (suc i) xs)))
          ∙ ap (λ l. pre ++ (flat_map f l ++ q)) (sym as_two)
          ∙ ap (λ n. pre ++ (flat_map f (set xs i x) ++ (replicate (size - w * n) 0 ++ post))) (sym (length-set xs i x))
          ∙ ap (λ l. pre ++ l) (sym (append_assoc (flat_map f (set xs i x)) (replicate (size - w * length (set xs i x)) 0) post));
    }

pub slice_stands : (bytes : List ℕ) (at w : ℕ) → at + w ≤ length bytes → Stands (slice_range bytes at (at + w)) bytes at
slice_stands bytes at w h =
    let n : at + w - at ≡ w = omega arith in
    record {
      before = take at bytes;
      behind = drop w (drop at bytes);
      shape = sym (take-append-drop at bytes)
          ∙ ap (λ l. take at bytes ++ l) (sym (take-append-drop w (drop at bytes)) ∙ ap (λ m. take m (drop at bytes) ++ drop w (drop at bytes)) (sym n));
      place = sym (length-take-le at bytes (omega arith));
    }

-- Rows that are read from n places on, written again, are the bytes there.
pub rows_again : {X : Type 0} (f : X → List ℕ) (read : ℕ → X) (w at : ℕ) (bytes : List ℕ) (n a : ℕ)
    → ((i : ℕ) → i < a + n → f (read i) ≡ take w (drop (at + w * i) bytes))
    → flat_map f (map read (range_with_len a n)) ≡ take (w * n) (drop (at + w * a) bytes)
rows_again f read w at bytes zero a each = ap (λ m. take m (drop (at + w * a) bytes)) (sym (mul-zero w))
rows_again f read w at bytes (suc n) a each =
    let one_on : a + 1 ≡ suc a = omega arith in
    let first = each a (omega arith) in
    let rest = rows_again f read w at bytes n (suc a) (λ i h. each i (omega arith)) in
    let on : at + w * suc a ≡ at + w * a + w = omega (arith, mul-suc w a) in
    let wide : w * suc n ≡ w + w * n = omega (arith, mul-suc w n) in
    ap (λ l. l ++ flat_map f (map read (range_with_len (a + 1) n))) first
    ∙ ap (λ b. take w (drop (at + w * a) bytes) ++ flat_map f (map read (range_with_len b n))) one_on
    ∙ ap (λ l. take w (drop (at + w * a) bytes) ++ l)
    (rest ∙ ap (λ m. take (w * n) (drop m bytes)) on ∙ ap (take (w * n)) (sym (drop-drop w (at + w * a) bytes)))
    ∙ sym (ap (λ m. take m (drop (at + w * a) bytes)) wide ∙ take-add w (w * n) (drop (at + w * a) bytes))

-- Bytes from a place on are those up to another, and those from there on.
pub two_parts : (bytes : List ℕ) (at end : ℕ) → at ≤ end → drop at bytes ≡ slice_range bytes at end ++ drop end bytes
two_parts bytes at end h =
    let on : at + (end - at) ≡ end = omega (arith, h) in
    sym (take-append-drop (end - at) (drop at bytes)) ∙ ap (λ l. slice_range bytes at end ++ l) (drop-drop (end - at) at bytes ∙ ap (λ n. drop n bytes) on)

pub three_parts : (bytes : List ℕ) (at end : ℕ) → at ≤ end → bytes ≡ take at bytes ++ (slice_range bytes at end ++ drop end bytes)
three_parts bytes at end h = sym (take-append-drop at bytes) ∙ ap (λ l. take at bytes ++ l) (two_parts bytes at end h)

pub to_end : (bytes : List ℕ) (at end : ℕ) → length bytes ≡ end → slice_range bytes at end ≡ drop at bytes
to_end bytes at end e = ap (λ n. take n (drop at bytes)) (sym (length-drop at bytes ∙ ap (λ n. n - at) e)) ∙ take-length (drop at bytes)

pub slice_length : (bytes : List ℕ) (at end n : ℕ) → end ≤ length bytes → end - at ≡ n → length (slice_range bytes at end) ≡ n
slice_length bytes at end n h e = length-take-le (end - at) (drop at bytes) (omega (arith, h, length-drop at bytes)) ∙ e
