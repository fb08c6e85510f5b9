-- What holds at each Took of a log that grows.
use Rattle.std.proofs.Common.{◌≡◌, ℕ, Bool, true, false, ◌&&◌, List, [], ◌∷◌, ◌++◌, refl, ap, subst}
use Rattle.std.specs.List.{list_all}
use Rattle.quilt_world.specs.Disk.{Log}
use Rattle.quilt_world.specs.declared.event.Event.{Event}
use Rattle.quilt_world.specs.declared.event.Event.TheVariants.{Took}
use Rattle.quilt_world.specs.Added.{Only, AtEachTook}
use Rattle.quilt_top.specs.Saying.{takes_none}

tail_is : (e f : Event) (a b : Log) → e ∷ a ≡ f ∷ b → a ≡ b
tail_is e f a b is = cc

head_is : (e f : Event) (a b : Log) → e ∷ a ≡ f ∷ b → e ≡ f
head_is e f a b is = cc

took_later : (P : Log → Type 0) (e : Event) (log : Log) → AtEachTook P (e ∷ log) → AtEachTook (λ so_far. P (e ∷ so_far)) log
took_later P e log each = λ so_far rest bytes is. each (e ∷ so_far) rest bytes (ap (λ (l : Log). e ∷ l) is)

no_took : (log so_far rest : Log) (bytes : List ℕ) → Only takes_none log → log ≡ so_far ++ Took bytes ∷ rest → ⊥
no_took [] [] rest bytes none is = cc
no_took [] (f ∷ so_far) rest bytes none is = cc
no_took (e ∷ log) [] rest bytes none is =
    let first = head_is e (Took bytes) log rest is in
    let t : (false && list_all takes_none log) ≡ true = subst (λ (x : Event). (takes_none x && list_all takes_none log) ≡ true) first none in cc
no_took (e ∷ log) (f ∷ so_far) rest bytes none is =
    no_took log so_far rest bytes (later (takes_none e) (list_all takes_none log) none) (tail_is e f log (so_far ++ Took bytes ∷ rest) is)
  where
    later : (a b : Bool) → (a && b) ≡ true → b ≡ true
    later true b h = h
    later false b h = absurd (cc)

pub each_none : (P : Log → Type 0) (log : Log) → Only takes_none log → AtEachTook P log
each_none P log none = λ so_far rest bytes is. absurd (no_took log so_far rest bytes none is)

cons_case : (P : Log → Type 0) (e : Event) (log whole : Log) → AtEachTook P (e ∷ log) → AtEachTook (λ so_far. P (e ∷ so_far)) whole →
    (so_far rest : Log) (bytes : List ℕ) → e ∷ whole ≡ so_far ++ Took bytes ∷ rest → P so_far
cons_case P e log whole each later [] rest bytes is = each [] log bytes (ap (λ (x : Event). x ∷ log) (head_is e (Took bytes) whole rest is))
cons_case P e log whole each later (f ∷ so_far) rest bytes is =
    subst (λ (x : Event). P (x ∷ so_far)) (head_is e f whole (so_far ++ Took bytes ∷ rest) is)
    (later so_far rest bytes (tail_is e f whole (so_far ++ Took bytes ∷ rest) is))

pub each_more : (P : Log → Type 0) (log events : Log) → AtEachTook P log → Only takes_none events → AtEachTook P (log ++ events)
each_more P [] events each none = each_none P events none
each_more P (e ∷ log) events each none =
    cons_case P e log (log ++ events) each (each_more (λ so_far. P (e ∷ so_far)) log events (took_later P e log each) none)

one_case : (P : Log → Type 0) (b : List ℕ) → P [] → (so_far rest : Log) (bytes : List ℕ) → Took b ∷ [] ≡ so_far ++ Took bytes ∷ rest → P so_far
one_case P b here [] rest bytes is = here
one_case P b here (f ∷ so_far) rest bytes is = absurd (no_took [] so_far rest bytes refl (tail_is (Took b) f [] (so_far ++ Took bytes ∷ rest) is))

pub each_took : (P : Log → Type 0) (log : Log) (b : List ℕ) → AtEachTook P log → P log → AtEachTook P (log ++ Took b ∷ [])
each_took P [] b each here = one_case P b here
each_took P (e ∷ log) b each here =
    cons_case P e log (log ++ Took b ∷ []) each (each_took (λ so_far. P (e ∷ so_far)) log b (took_later P e log each) here)
