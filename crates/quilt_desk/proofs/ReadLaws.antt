-- What each call leaves to be read.
use Rattle.std.proofs.Common.{◌≡◌, ◌≢◌, inl, inr, ℕ, ◌+◌, ◌<◌, replicate, List, [], ◌∷◌, ◌++◌, Option, Some, None, length, get_or, set, sym, ◌∙◌, ap, subst}
use Rattle.std.proofs.Common.{arith, get_or-set_same, get_or-set_other}
use Rattle.std.proofs.Math.ListN.{length-set}
use Rattle.std.proofs.lemmas.List.{replicate-append-replicate}
use Rattle.std.proofs.lemmas.Bool.{cases_eq}
use Rattle.std.proofs.lemmas.Option.{same_Some}
use Rattle.quilt_world.specs.Disk.{Pages, Log}
use Rattle.quilt_world.specs.PageBytes.{last_bytes}
use Rattle.quilt_world.specs.declared.event.Event.TheVariants.{Wrote, Tore, Synced, Took, Put}
use Rattle.quilt_world.proofs.PageLaws.{last-spared, last-Wrote, last-Tore}
use Rattle.quilt_desk.specs.Reads.{Reads}

pub reads_synced : (start : Pages) (log : Log) (seen : Pages) → Reads start log seen → Reads start (log ++ Synced ∷ []) seen
reads_synced start log seen reads = record {
  size = reads.size;
  last = λ i b lt is. reads.last i b lt (sym (last-spared start log Synced i tt) ∙ is);
}

pub reads_torn : (start : Pages) (log : Log) (seen : Pages) (at : ℕ) (bytes : List ℕ) → Reads start log seen
    → Reads start (log ++ Tore at ∷ []) (set seen at bytes)
reads_torn start log seen at bytes reads = record {
  size = length-set seen at bytes ∙ reads.size;
  last = λ i b lt is. elim (cases_eq at i) [
    | inl same ↦ absurd (let e : ◌≡◌ {A = Option (List ℕ)} None (Some b) =
        sym (last-Tore start log at) ∙ subst (λ k. last_bytes start (log ++ Tore at ∷ []) k ≡ Some b) (sym same) is in cc)
    | inr apart ↦
        let apart_too : i ≢ at = omega arith in
        get_or-set_other seen at i bytes [] apart_too ∙ reads.last i b lt (sym (last-spared start log (Tore at) i apart) ∙ is)
  ];
}

pub reads_wrote : (start : Pages) (log : Log) (seen : Pages) (at : ℕ) (bytes : List ℕ) → at < length start → Reads start log seen
    → Reads start (log ++ Wrote at bytes ∷ []) (set seen at bytes)
reads_wrote start log seen at bytes within reads = record {
  size = length-set seen at bytes ∙ reads.size;
  last = λ i b lt is. elim (cases_eq at i) [
    | inl same ↦
        let read : get_or (set seen at bytes) at [] ≡ bytes = get_or-set_same seen at bytes [] (omega (arith, reads.size)) in
        let there : bytes ≡ b =
        same_Some bytes b (sym (last-Wrote start log at bytes) ∙ subst (λ k. last_bytes start (log ++ Wrote at bytes ∷ []) k ≡ Some b) (sym same) is) in
        subst (λ k. get_or (set seen at bytes) k [] ≡ b) same (read ∙ there)
    | inr apart ↦
        let apart_too : i ≢ at = omega arith in
        get_or-set_other seen at i bytes [] apart_too ∙ reads.last i b lt (sym (last-spared start log (Wrote at bytes) i apart) ∙ is)
  ];
}

pub replicate_more : {X : Type 0} (n : ℕ) (x : X) → replicate n x ++ x ∷ [] ≡ replicate (n + 1) x
replicate_more n x = replicate-append-replicate n 1 x

pub reads_first : (start seen : Pages) → seen ≡ start → Reads start [] seen
unfolding last_bytes
reads_first start seen same = record {
  size = ap length same;
  last = λ i b lt is. ap (λ (l : Pages). get_or l i []) same ∙ same_Some _ b is;
}

pub reads_took : (start : Pages) (log : Log) (seen : Pages) (bytes : List ℕ) → Reads start log seen → Reads start (log ++ Took bytes ∷ []) seen
reads_took start log seen bytes reads = record {
  size = reads.size;
  last = λ i b lt is. reads.last i b lt (sym (last-spared start log (Took bytes) i tt) ∙ is);
}

pub reads_put : (start : Pages) (log : Log) (seen : Pages) (bytes : List ℕ) → Reads start log seen → Reads start (log ++ Put bytes ∷ []) seen
reads_put start log seen bytes reads = record {
  size = reads.size;
  last = λ i b lt is. reads.last i b lt (sym (last-spared start log (Put bytes) i tt) ∙ is);
}
