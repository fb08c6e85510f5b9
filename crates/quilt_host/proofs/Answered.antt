-- What a call gave, and what it gives where each failure is a fault.
use Rattle.std.proofs.Common.{◌≡◌, Option, Result, Ok, Err, refl, subst}
use Rattle.std.specs.Prelude.{OnOk, OnErr, IfOk, IsErr}
use Rattle.std.specs.Option.{ForSome}
use Rattle.std.proofs.lemmas.Bool.{false≢true}
use Rattle.quilt_world.specs.Tale.{Goes}
use Rattle.quilt_host.specs.Story.{Story}
use Rattle.quilt_host.proofs.StoryLaws.{known_then, known_same}

pub on_ok : {T E F : Type 0} (a : Result T E) (b : Result T F) (P Q : Type 0) → (IsErr a → IsErr b) → OnOk a P → (P → Q) → OnOk b Q
on_ok (Ok x) (Ok y) P Q err p step = step p
on_ok (Ok x) (Err f) P Q err p step = tt
on_ok (Err e) (Ok y) P Q err p step = absurd (false≢true (err refl))
on_ok (Err e) (Err f) P Q err p step = tt

pub on_err : {T E F : Type 0} (a : Result T E) (b : Result T F) (P Q : Type 0) → IfOk a (λ v. b ≡ Ok v) → OnErr a P → (P → Q) → OnErr b Q
on_err (Ok x) (Ok y) P Q ok p step = tt
on_err {F = F} (Ok x) (Err f) P Q ok p step = absurd (let no : ◌≡◌ {A = Result _ F} (Err f) (Ok x) = ok in cc)
on_err (Err e) (Ok y) P Q ok p step = tt
on_err (Err e) (Err f) P Q ok p step = step p

pub if_ok : {T E F : Type 0} (a : Result T E) (b : Result T F) (P Q : T → Type 0) → IfOk a (λ v. b ≡ Ok v) → (IsErr a → IsErr b) → IfOk a P
    → ((v : T) → P v → Q v) → IfOk b Q
if_ok {F = F} (Ok x) (Ok y) P Q ok err p step = let same : x ≡ y = (let e : ◌≡◌ {A = Result _ F} (Ok y) (Ok x) = ok in cc) in step y (subst P same p)
if_ok (Ok x) (Err f) P Q ok err p step = tt
if_ok (Err e) (Ok y) P Q ok err p step = absurd (false≢true (err refl))
if_ok (Err e) (Err f) P Q ok err p step = tt

-- what holds behind a door after a call that goes on, or changes nothing
pub known_by : {T E : Type 0} (a : Result T E) (R : Story → Story → Type 0) (P : Story → Type 0) (o n : Option Story) → OnOk a (Goes R o n) → OnErr a (n ≡ o)
    → ForSome o P → ((s u : Story) → P s → R s u → P u) → ForSome n P
known_by (Ok x) R P o n ok err known step = known_then P P R o n known ok step
known_by (Err e) R P o n ok err known step = known_same P P o n known err (λ s p. p)

pub known_if_ok : {T E : Type 0} (a : Result T E) (R : T → Story → Story → Type 0) (P : Story → Type 0) (o n : Option Story) → IfOk a (λ v. Goes (R v) o n)
    → OnErr a (n ≡ o) → ForSome o P → ((v : T) (s u : Story) → P s → R v s u → P u) → ForSome n P
known_if_ok (Ok x) R P o n ok err known step = known_then P P (R x) o n known ok (step x)
known_if_ok (Err e) R P o n ok err known step = known_same P P o n known err (λ s p. p)

pub known_either : {T E : Type 0} (a : Result T E) (R S : Story → Story → Type 0) (P : Story → Type 0) (o n : Option Story) → OnOk a (Goes R o n)
    → OnErr a (Goes S o n) → ForSome o P → ((s u : Story) → P s → R s u → P u) → ((s u : Story) → P s → S s u → P u) → ForSome n P
known_either (Ok x) R S P o n ok err known step stop = known_then P P R o n known ok step
known_either (Err e) R S P o n ok err known step stop = known_then P P S o n known err stop
