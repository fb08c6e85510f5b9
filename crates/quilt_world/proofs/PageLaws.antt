-- The bytes of each page after one more event, and the images that a stop may leave.
use Rattle.std.proofs.Common.{◌≡◌, inl, inr, ℕ, ◌<◌, Bool, false, cond, List, [], ◌∷◌, ◌++◌, Option, Some, None, length, get_or, refl, sym, ◌∙◌, ap}
use Rattle.std.proofs.lemmas.Bool.{eq-eqb, ne_eqb, cases_Bool}
use Rattle.std.proofs.lemmas.Option.{same_Some}
use Rattle.quilt_world.specs.Disk.{Pages, Log, Mark, Untouched, Written, Torn, marked, mark_from, mark_of, unsynced_after, unsynced_from, is_unsynced, holds}
use Rattle.quilt_world.specs.Disk.{CanLeave}
use Rattle.quilt_world.specs.PageBytes.{bytes_by, last_bytes, fixed_bytes, Spares}
use Rattle.quilt_world.specs.declared.event.Event.{Event}
use Rattle.quilt_world.specs.declared.event.Event.TheVariants.{Took, Put, Wrote, Tore, Synced}

-- ---- one more event

pub mark_from-push : (i : ℕ) (m : Mark) (log : Log) (e : Event) → mark_from i m (log ++ e ∷ []) ≡ marked i (mark_from i m log) e
mark_from-push i m [] e = refl
mark_from-push i m (x ∷ log) e = mark_from-push i (marked i m x) log e

pub unsynced_from-push : (i : ℕ) (b : Bool) (log : Log) (e : Event) → unsynced_from i b (log ++ e ∷ []) ≡ unsynced_after i (unsynced_from i b log) e
unsynced_from-push i b [] e = refl
unsynced_from-push i b (x ∷ log) e = unsynced_from-push i (unsynced_after i b x) log e

marked_spared : (i : ℕ) (m : Mark) (e : Event) → Spares i e → marked i m e ≡ m
marked_spared i m (Wrote at bytes) ne = ap (λ t. cond t (Written bytes) m) (ne_eqb at i ne)
marked_spared i m (Tore at) ne = ap (λ t. cond t Torn m) (ne_eqb at i ne)
marked_spared i m Synced ne = refl
marked_spared i m (Took bytes) ne = refl
marked_spared i m (Put bytes) ne = refl

unsynced_spared : (i : ℕ) (e : Event) → Spares i e → unsynced_after i false e ≡ false
unsynced_spared i (Wrote at bytes) ne = ne_eqb at i ne
unsynced_spared i (Tore at) ne = ne_eqb at i ne
unsynced_spared i Synced ne = refl
unsynced_spared i (Took bytes) ne = refl
unsynced_spared i (Put bytes) ne = refl

-- ---- the last bytes

pub last-spared : (start : Pages) (log : Log) (e : Event) (i : ℕ) → Spares i e → last_bytes start (log ++ e ∷ []) i ≡ last_bytes start log i
unfolding last_bytes
last-spared start log e i ne = ap (λ m. bytes_by m (get_or start i [])) (mark_from-push i Untouched log e ∙ marked_spared i (mark_of i log) e ne)

pub last-Wrote : (start : Pages) (log : Log) (i : ℕ) (b : List ℕ) → last_bytes start (log ++ Wrote i b ∷ []) i ≡ Some b
unfolding last_bytes
last-Wrote start log i b =
    ap (λ m. bytes_by m (get_or start i [])) (mark_from-push i Untouched log (Wrote i b) ∙ ap (λ t. cond t (Written b) (mark_of i log)) (eq-eqb i i refl))

pub last-Tore : (start : Pages) (log : Log) (i : ℕ) → last_bytes start (log ++ Tore i ∷ []) i ≡ None
unfolding last_bytes
last-Tore start log i =
    ap (λ m. bytes_by m (get_or start i [])) (mark_from-push i Untouched log (Tore i) ∙ ap (λ t. cond t Torn (mark_of i log)) (eq-eqb i i refl))

-- ---- the bytes in each image

fixed_parts : (start : Pages) (log : Log) (i : ℕ) (b : List ℕ) → fixed_bytes start log i ≡ Some b
    → (is_unsynced i log ≡ false) × (last_bytes start log i ≡ Some b)
unfolding fixed_bytes
fixed_parts start log i b is = elim (cases_Bool (is_unsynced i log)) [
  | inl torn ↦ absurd (let e : ◌≡◌ {A = Option (List ℕ)} None (Some b) = sym (ap (λ t. cond t None (last_bytes start log i)) torn) ∙ is in cc)
  | inr synced ↦ (synced, sym (ap (λ t. cond t None (last_bytes start log i)) synced) ∙ is)
]

fixed_from : (start : Pages) (log : Log) (i : ℕ) → is_unsynced i log ≡ false → fixed_bytes start log i ≡ last_bytes start log i
unfolding fixed_bytes
fixed_from start log i synced = ap (λ t. cond t None (last_bytes start log i)) synced

-- what is in each image is there to be read
pub last_from_fixed : (start : Pages) (log : Log) (i : ℕ) (b : List ℕ) → fixed_bytes start log i ≡ Some b → last_bytes start log i ≡ Some b
last_from_fixed start log i b is = (fixed_parts start log i b is).1

pub fixed-spared : (start : Pages) (log : Log) (e : Event) (i : ℕ) (b : List ℕ) → Spares i e → fixed_bytes start log i ≡ Some b
    → fixed_bytes start (log ++ e ∷ []) i ≡ Some b
fixed-spared start log e i b ne is =
    let parts = fixed_parts start log i b is in
    let synced_yet : is_unsynced i (log ++ e ∷ []) ≡ false =
    unsynced_from-push i false log e ∙ ap (λ t. unsynced_after i t e) parts.0 ∙ unsynced_spared i e ne in
    fixed_from start (log ++ e ∷ []) i synced_yet ∙ last-spared start log e i ne ∙ parts.1

pub fixed-Synced : (start : Pages) (log : Log) (i : ℕ) → fixed_bytes start (log ++ Synced ∷ []) i ≡ last_bytes start log i
fixed-Synced start log i =
    fixed_from start (log ++ Synced ∷ []) i (unsynced_from-push i false log Synced) ∙ last-spared start log Synced i tt

-- ---- the images

-- a page that is not free has its bytes
pub left_page : (start : Pages) (log : Log) (image : Pages) (i : ℕ) (b : List ℕ) → CanLeave start log image → i < length start
    → fixed_bytes start log i ≡ Some b → get_or image i [] ≡ b
unfolding last_bytes
left_page start log image i b left within is =
    let parts = fixed_parts start log i b is in
    left_at (mark_of i log) (get_or start i []) (get_or image i []) b (left.kept i within parts.0) parts.1
  where
    left_at : (m : Mark) (first now b : List ℕ) → holds m first now → bytes_by m first ≡ Some b → now ≡ b
    left_at Untouched first now b h e = h ∙ same_Some first b e
    left_at (Written bytes) first now b h e = h ∙ same_Some bytes b e
    left_at Torn first now b h e = absurd (let e2 : ◌≡◌ {A = Option (List ℕ)} None (Some b) = e in cc)

-- and an image where each such page has them can be left
pub left_from_pages : (start : Pages) (log : Log) (image : Pages) → length image ≡ length start
    → ((i : ℕ) (b : List ℕ) → i < length start → fixed_bytes start log i ≡ Some b → get_or image i [] ≡ b) → CanLeave start log image
unfolding last_bytes
left_from_pages start log image size each = record {
  size = size;
  kept = λ i within synced. holds_at (mark_of i log) (get_or start i []) (get_or image i []) (λ b is. each i b within (fixed_from start log i synced ∙ is));
}
  where
    holds_at : (m : Mark) (first now : List ℕ) → ((b : List ℕ) → bytes_by m first ≡ Some b → now ≡ b) → holds m first now
    holds_at Untouched first now each = each first refl
    holds_at (Written bytes) first now each = each bytes refl
    holds_at Torn first now each = tt

-- what the disk reads is one of the images that a stop may leave
pub seen_left : (start : Pages) (log : Log) (seen : Pages) → length seen ≡ length start
    → ((i : ℕ) (b : List ℕ) → i < length start → last_bytes start log i ≡ Some b → get_or seen i [] ≡ b) → CanLeave start log seen
seen_left start log seen size each = left_from_pages start log seen size (λ i b within is. each i b within (last_from_fixed start log i b is))
