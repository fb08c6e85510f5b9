-- Items taken one after another, and piece after piece.
use Rattle.std.proofs.Common.{◌≡◌, ℕ, ◌<◌, ◌≤◌, Bool, true, false, List, [], ◌∷◌, ◌++◌, length, refl, sym, ◌∙◌, ap, subst, arith, append_assoc, append-nil, map}
use Rattle.std.proofs.lemmas.List.{length-map, map-append}
use Rattle.quilt_words.specs.declared.item.Item.{Item}
use Rattle.quilt_words.specs.Items.{Group, held, items_of, whole_items}
use Rattle.quilt_lang.specs.Reading.{Unread, Gives, GivesItem, MayFollow, BeginWith, Same}
use Rattle.quilt_lang.specs.Taking.{Gave, Takes}
use Rattle.quilt_lang.proofs.Pieces.{gives_none, gives_then, gives_fed, same_then, same_onto}

pub gave_none : (e : Bool) (f : ℕ) (s : Unread) (before : List Item) → Gave e f s s before before
gave_none e f s before = record { level = refl; items = []; gives = gives_none e s.level s.rest; put = sym (append-nil before) }

pub gave_next : (e : Bool) (f : ℕ) (s t u : Unread) (before after : List Item) (i : Item) → Gave e f s t before after → u.level ≡ t.level
    → GivesItem e t.level f i t.rest u.rest →
    Gave e f s u before (after ++ i ∷ [])
gave_next e f s t u before after i so same next =
    let n = s.level in
    let P : ℕ → Type 0 = λ (m : ℕ). Gives e m (next.group ∷ []) t.rest u.rest in
    let Q : ℕ → Type 0 = λ (m : ℕ). i ≡ held f m next.group in
    let is : i ≡ held f n next.group = subst Q so.level next.is in
    record {
      level = same ∙ so.level;
      items = so.items ++ next.group ∷ [];
      gives = gives_then e n so.items (next.group ∷ []) s.rest t.rest u.rest so.gives (subst P so.level next.gives);
      put =
          ap (λ (l : List Item). l ++ i ∷ []) so.put ∙ append_assoc before (map (held f n) so.items) (i ∷ [])
          ∙ ap (λ (l : List Item). before ++ l)
          (ap (λ (x : Item). map (held f n) so.items ++ x ∷ []) is ∙ sym (map-append (held f n) so.items (next.group ∷ [])));
    }

-- with each item there are fewer
pub fewer : (e : Bool) (n f : ℕ) (i : Item) (a b : List ℕ) → MayFollow e [] → GivesItem e n f i a b → length (items_of n b) < length (items_of n a)
fewer e n f i a b may so =
    let all : map (held 1 n) (items_of n a) ≡ map (held 1 n) (so.group ∷ items_of n b) = rw (append-nil a, append-nil b) at (so.gives.all [] may 1 (omega arith)) in
    omega (arith, ap length all, length-map (items_of n a) (held 1 n), length-map (items_of n b) (held 1 n))

pub may_end : (e : Bool) → MayFollow e []
may_end true = refl
may_end false = tt

-- so far these items were taken from these bytes
pub record SoFar (n f : ℕ) (s : Unread) (items : List Item) (bytes : List ℕ) : Type 0 where
  pub level : s.level ≡ n
  pub groups : List Group
  pub are : items ≡ map (held f n) groups
  pub gives : Gives false n groups bytes s.rest
  pub none : whole_items n s.rest ≡ []

pub so_far_first : (n f : ℕ) (s : Unread) (none : whole_items n [] ≡ []) → s.level ≡ n → s.rest ≡ [] → SoFar n f s [] []
so_far_first n f s none level rest = record {
  level = level;
  groups = [];
  are = refl;
  gives = rw rest (gives_none false n []);
  none = rw rest none;
}

pub so_far_next : (n f : ℕ) (s t u : Unread) (before after : List Item) (bytes piece : List ℕ) → SoFar n f s before bytes → t.level ≡ s.level →
    Gives false s.level [] (s.rest ++ piece) t.rest → Takes false f t u before after → SoFar n f u after (bytes ++ piece)
so_far_next n f s t u before after bytes piece so same fed took =
    let at : t.level ≡ n = same ∙ so.level in
    let groups : List Group = took.gave.items in
    let P : ℕ → Type 0 = λ (m : ℕ). Gives false m [] (s.rest ++ piece) t.rest in
    let Q : ℕ → Type 0 = λ (m : ℕ). Gives false m groups t.rest u.rest in
    let R : ℕ → Type 0 = λ (m : ℕ). after ≡ before ++ map (held f m) groups in
    let S : ℕ → Type 0 = λ (m : ℕ). whole_items m u.rest ≡ [] in
    let first : Gives false n so.groups (bytes ++ piece) (s.rest ++ piece) = gives_fed n so.groups bytes s.rest piece so.gives in
    let second : Gives false n groups (s.rest ++ piece) u.rest =
    gives_then false n [] groups (s.rest ++ piece) t.rest u.rest (subst P so.level fed) (subst Q at took.gave.gives) in
    record {
      level = took.gave.level ∙ at;
      groups = so.groups ++ groups;
      are = subst R at took.gave.put ∙ ap (λ (l : List Item). l ++ map (held f n) groups) so.are ∙ sym (map-append (held f n) so.groups groups);
      gives = gives_then false n so.groups groups (bytes ++ piece) (s.rest ++ piece) u.rest first second;
      none = subst S at took.none;
    }

-- where no item is left, those given are the items of all bytes
pub all_of_it : (n f : ℕ) (s u : Unread) (before after : List Item) (bytes : List ℕ) → f ≤ 2 → SoFar n f s before bytes → Takes true f s u before after →
    after ≡ map (held f n) (items_of n bytes)
all_of_it n f s u before after bytes low so took =
    let groups : List Group = took.gave.items in
    let P : ℕ → Type 0 = λ (m : ℕ). Gives true m groups s.rest u.rest in
    let R : ℕ → Type 0 = λ (m : ℕ). after ≡ before ++ map (held f m) groups in
    let S : ℕ → Type 0 = λ (m : ℕ). items_of m u.rest ≡ [] in
    let none : items_of n u.rest ≡ [] = subst S so.level took.none in
    let first : Same n (items_of n bytes) (so.groups ++ items_of n s.rest) = rw (append-nil bytes, append-nil s.rest) at (so.gives.all [] tt) in
    let gave : Gives true n groups s.rest u.rest = subst P so.level took.gave.gives in
    let second : Same n (items_of n s.rest) (groups ++ items_of n u.rest) = rw (append-nil s.rest, append-nil u.rest) at (gave.all [] refl) in
    let behind : Same n (items_of n s.rest) groups =
    λ g few. second g few ∙ ap (λ (l : List Group). map (held g n) (groups ++ l)) none ∙ ap (map (held g n)) (append-nil groups) in
    subst R so.level took.gave.put ∙ ap (λ (l : List Item). l ++ map (held f n) groups) so.are ∙ sym (map-append (held f n) so.groups groups)
    ∙ sym (same_then n (items_of n bytes) (so.groups ++ items_of n s.rest) (so.groups ++ groups) first
    (same_onto n so.groups (items_of n s.rest) groups behind) f low)

-- where no whole item is left, those given are the whole items, and stand at the front whatever follows
pub whole_of_it : (n f : ℕ) (s : Unread) (items : List Item) (bytes : List ℕ) → f ≤ 2 → SoFar n f s items bytes → items ≡ map (held f n) (whole_items n bytes)
whole_of_it n f s items bytes low so =
    let whole : Same n (whole_items n bytes) (so.groups ++ whole_items n s.rest) = rw (append-nil bytes, append-nil s.rest) at (so.gives.whole refl []) in
    so.are ∙ sym (whole f low ∙ ap (λ (l : List Group). map (held f n) (so.groups ++ l)) so.none ∙ ap (map (held f n)) (append-nil so.groups))

pub front_of_it : (n f : ℕ) (s : Unread) (items : List Item) (bytes v : List ℕ) → f ≤ 2 → SoFar n f s items bytes
    → BeginWith (map (held f n) (items_of n (bytes ++ v))) items
front_of_it n f s items bytes v low so = (
  map (held f n) (items_of n (s.rest ++ v)),
  so.gives.all v tt f low ∙ map-append (held f n) so.groups (items_of n (s.rest ++ v))
      ∙ ap (λ (l : List Item). l ++ map (held f n) (items_of n (s.rest ++ v))) (sym so.are),
)
