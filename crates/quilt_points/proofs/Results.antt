-- Answers with two clauses, and answers for want of memory.
use Rattle.std.proofs.Common.{◌≡◌, Result, Ok, Err, IfOk, IfErr, sym, ◌∙◌, subst}
use Rattle.quilt_types.specs.declared.stop.Stop.{Stop}
use Rattle.quilt_types.specs.declared.stop.Stop.TheVariants.{Device, Memory, Damaged}
use Rattle.quilt_store.specs.declared.store.PageStore.{Ghosts}
use Rattle.quilt_store.specs.Calls.{OnlyReads}
use Rattle.quilt_store.specs.Stops.{IsNotDamage}
use Rattle.quilt_store.proofs.Reading.{only_reads_ok, only_reads_free}
use Rattle.quilt_btree.specs.Stops.{NamesPage}

-- where two things are said of what is answered
pub if_ok_both : {T E : Type 0} (r : Result T E) (P Q R : T → Type 0) → ((x : T) → P x → Q x → R x) → IfOk r P → IfOk r Q → IfOk r R
if_ok_both (Ok x) P Q R f p q = f x p q
if_ok_both (Err e) P Q R f p q = tt

-- no page is damaged where memory is wanting
pub memory_sound : (e : Stop) → e ≡ Memory → IsNotDamage e
memory_sound e is page damaged = let other : Memory ≡ Damaged page = sym is ∙ damaged in cc

pub memory_zero : (e : Stop) → e ≡ Memory → NamesPage 1 e
memory_zero e is = subst (NamesPage 1) (sym is) tt

-- a call, and behind it an answer that wants memory at most
pub only_reads_memory : {S T U : Type 0} (g : Ghosts S) {s t : S} {first : Result T Stop} (r : Result U Stop) → IfErr r (λ e. e ≡ Memory)
    → OnlyReads g s t first → OnlyReads g s t r
only_reads_memory g (Ok v) memory a = only_reads_ok g a v
only_reads_memory g (Err e) memory a = only_reads_free g (Err e) a (λ is. cc)
