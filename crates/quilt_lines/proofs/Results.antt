-- Two clauses of a result as one, and answers for want of memory.
use Rattle.std.proofs.Common.{◌≡◌, Result, Ok, Err, IfOk, OnOk, sym, ◌∙◌}
use Rattle.quilt_types.specs.declared.stop.Stop.{Stop}
use Rattle.quilt_types.specs.declared.stop.Stop.TheVariants.{Memory, Damaged}
use Rattle.quilt_store.specs.Stops.{IsNotDamage}

pub on_ok_both : {T E : Type 0} (r : Result T E) (P Q R : Type 0) → (P → Q → R) → OnOk r P → OnOk r Q → OnOk r R
on_ok_both (Ok v) P Q R f p q = f p q
on_ok_both (Err e) P Q R f p q = tt

pub if_ok_both : {T E : Type 0} (r : Result T E) (P Q R : T → Type 0) → ((x : T) → P x → Q x → R x) → IfOk r P → IfOk r Q → IfOk r R
if_ok_both (Ok x) P Q R f p q = f x p q
if_ok_both (Err e) P Q R f p q = tt

pub if_ok_any : {T E : Type 0} (r : Result T E) (P : T → Type 0) → ((x : T) → P x) → IfOk r P
if_ok_any (Ok x) P f = f x
if_ok_any (Err e) P f = tt

pub on_ok_any : {T E : Type 0} (r : Result T E) (P : Type 0) → P → OnOk r P
on_ok_any (Ok x) P p = p
on_ok_any (Err e) P p = tt

-- no page is damaged where memory is wanting
pub memory_sound : (e : Stop) → e ≡ Memory → IsNotDamage e
memory_sound e is page damaged = let other : Memory ≡ Damaged page = sym is ∙ damaged in cc
