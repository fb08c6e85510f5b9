-- What is known of the records so far after one more.
use Rattle.std.proofs.Common.{◌≡◌, ℕ, ◌<◌, ◌≤◌, ◌⊎◌, Bool, true, false, List, [], ◌∷◌, ◌++◌, refl, sym, ◌∙◌, ap, subst, inl, inr, ⊎_elim, arith}
use Rattle.std.proofs.Common.{Contains}
use Rattle.std.specs.Prelude.{if◌then◌else◌}
use Rattle.std.specs.Ordering.{is_lt}
use Rattle.std.proofs.lemmas.Bool.{cases_lt}
use Rattle.quilt_types.specs.Layers.{is_name}
use Rattle.quilt_loc.specs.Codes.{Rises}
use Rattle.quilt_loc.proofs.Members.{Contains-nil, Contains-here, Contains-there, Contains-cons_cases}
use Rattle.quilt_types.specs.declared.plane.Kind.{Kind}
use Rattle.quilt_record.specs.declared.record.Record.{Record}
use Rattle.quilt_record.specs.declared.entry.Entry.{Entry}
use Rattle.quilt_record.specs.Catalogs.{name_cmp, with_entry}
use Rattle.quilt_record.specs.Listing.{IsEntryOf, KindFits}
use Rattle.quilt_spell.specs.Written.{by_key}
use Rattle.quilt_audit.specs.declared.run.Run.{Run}
use Rattle.quilt_line_audit.specs.Layers.{IsLayerOf}
use Rattle.quilt_audit.specs.Runs.{IsRun, IsRunFinished, Starts}
use Rattle.quilt_audit.specs.Checking.{entry_record, IsSoFar}
use Rattle.quilt_audit.proofs.Lists.{last_cases, in_front, at_last, rises_front}
use Rattle.quilt_audit.proofs.runs.Runs.{finished}

-- ---- the entries with one more
pub with_from : (e : Entry) (es : List Entry) (x : Entry) → Contains (with_entry e es) x → (e ≡ x) ⊎ Contains es x
with_from e [] x c = ⊎_elim (λ is. inl is) (λ d. absurd (Contains-nil x d)) (Contains-cons_cases e [] x c)
with_from e (f ∷ es) x c = by_case (is_lt (name_cmp e.name f.name)) c (λ d. with_from e es x d)
  where
    by_case : (b : Bool) → Contains (if b then e ∷ f ∷ es else f ∷ with_entry e es) x → (Contains (with_entry e es) x → (e ≡ x) ⊎ Contains es x)
        → (e ≡ x) ⊎ Contains (f ∷ es) x
    by_case true c h = Contains-cons_cases e (f ∷ es) x c
    by_case false c h =
        ⊎_elim (λ is. inr (subst (Contains (f ∷ es)) is (Contains-here f es)))
        (λ d. ⊎_elim (λ is. inl is) (λ m. inr (Contains-there f es x m)) (h d)) (Contains-cons_cases f (with_entry e es) x c)

pub with_here : (e : Entry) (es : List Entry) → Contains (with_entry e es) e
with_here e [] = Contains-here e []
with_here e (f ∷ es) = by_case (is_lt (name_cmp e.name f.name)) (with_here e es)
  where
    by_case : (b : Bool) → Contains (with_entry e es) e → Contains (if b then e ∷ f ∷ es else f ∷ with_entry e es) e
    by_case true h = Contains-here e (f ∷ es)
    by_case false h = Contains-there f (with_entry e es) e h

pub with_there : (e : Entry) (es : List Entry) (x : Entry) → Contains es x → Contains (with_entry e es) x
with_there e [] x c = absurd (Contains-nil x c)
with_there e (f ∷ es) x c = by_case (is_lt (name_cmp e.name f.name)) (λ d. with_there e es x d)
  where
    by_case : (b : Bool) → (Contains es x → Contains (with_entry e es) x) → Contains (if b then e ∷ f ∷ es else f ∷ with_entry e es) x
    by_case true h = Contains-there e (f ∷ es) x c
    by_case false h = ⊎_elim (λ is. subst (Contains (f ∷ with_entry e es)) is (Contains-here f (with_entry e es)))
        (λ d. Contains-there f (with_entry e es) x (h d)) (Contains-cons_cases f es x c)

-- ---- no record yet
pub IsSoFar-none : (form n : ℕ) (run : Run) → IsSoFar form n [] 0 0 run []
IsSoFar-none form n run = record {
  listed = λ e c. absurd (Contains-nil e c);
  named = λ e c. absurd (Contains-nil e c);
  fitting = λ e c. absurd (Contains-nil e c);
  least = λ e c. absurd (Contains-nil e c);
  most = λ e c. absurd (Contains-nil e c);
  differ = λ d e c k same. absurd (Contains-nil d c);
  reached = inl refl;
  entries_only = λ r c zero'. absurd (Contains-nil r c);
  layers_only = λ r c some. absurd (Contains-nil r c);
  whole = λ e c lt up. absurd (Contains-nil e c);
  current = λ some. absurd (omega arith);
}

-- a layer with a record of another one behind
IsLayerOf-other : (form n : ℕ) (rs : List Record) (k : ℕ) (kind : Kind) (r : Record) → (r.key.layer ≡ k → ⊥) → IsLayerOf form n rs k kind
    → IsLayerOf form n (rs ++ r ∷ []) k kind
IsLayerOf-other form n rs k kind r apart h = record {
  layer = h.layer;
  is = h.is;
  spelled = record {
    fits = h.spelled.fits;
    each = λ f c. ⊎_elim (λ e. inl e) (λ d. inr (in_front rs r _ d)) (h.spelled.each f c);
    only = λ x c is. ⊎_elim (λ d. h.spelled.only x d is) (λ e. absurd (apart (ap (λ (z : Record). z.key.layer) e ∙ is))) (last_cases rs r x c);
  };
}

module _ (form n : ℕ) (es : List Entry) (last layer : ℕ) (run : Run) (rs : List Record) (f : IsSoFar form n es last layer run rs) where
  -- ---- an entry more
  pub IsSoFar-entry : (r : Record) (e : Entry) → IsEntryOf form r e → layer ≡ 0 → last < e.number
      → IsSoFar form n (with_entry e es) e.number layer run (rs ++ r ∷ [])
  IsSoFar-entry r e is first above =
      let record_is : r ≡ entry_record n e = is.written n 0 in
      let zero' : r.key.layer ≡ 0 = ap (λ (s : Record). s.key.layer) record_is in
      record {
        listed =
            λ d c. ⊎_elim (λ same. subst (λ (x : Entry). Contains (rs ++ r ∷ []) (entry_record n x)) same
            (subst (Contains (rs ++ r ∷ [])) record_is (at_last rs r)))
            (λ m. in_front rs r (entry_record n d) (f.listed d m)) (with_from e es d c);
        named = λ d c. ⊎_elim (λ same. ap (λ (x : Entry). is_name x.name) (sym same) ∙ is.named) (λ m. f.named d m) (with_from e es d c);
        fitting = λ d c. ⊎_elim (λ same. subst (λ (x : Entry). KindFits form x.kind) same is.kind) (λ m. f.fitting d m) (with_from e es d c);
        least = λ d c. ⊎_elim (λ same. let k = ap (λ (x : Entry). x.number) same in let l = is.least in omega arith) (λ m. f.least d m) (with_from e es d c);
        most = λ d c. ⊎_elim (λ same. let k = ap (λ (x : Entry). x.number) same in omega arith) (λ m. let k = f.most d m in omega arith) (with_from e es d c);
        differ = λ d g c k same.
            ⊎_elim
            (λ id. ⊎_elim (λ ig. sym id ∙ ig) (λ mg. let i = ap (λ (x : Entry). x.number) id in let m = f.most g mg in absurd (omega arith))
            (with_from e es g k))
            (λ md. ⊎_elim (λ ig. let i = ap (λ (x : Entry). x.number) ig in let m = f.most d md in absurd (omega arith))
            (λ mg. f.differ d g md mg same) (with_from e es g k))
            (with_from e es d c);
        reached = inr (e, with_here e es, refl);
        entries_only = λ x c z. ⊎_elim (λ m. let w = f.entries_only x m z in (w.0, with_there e es w.0 w.1, w.2))
            (λ same. (e, with_here e es, sym same ∙ record_is)) (last_cases rs r x c);
        layers_only = λ x c some.
            ⊎_elim (λ m. let w = f.layers_only x m some in (w.0, (w.1.0, with_there e es w.1.0 w.1.1, w.1.2)))
            (λ same. let k = ap (λ (s : Record). s.key.layer) same in absurd (omega arith)) (last_cases rs r x c);
        whole = λ d c lt up. absurd (omega arith);
        current = λ some. absurd (omega arith);
      }

  -- ---- the next layer
  module _ (n_least : 1 ≤ n) (n_most : n ≤ 12) (full : 1 ≤ layer → IsRunFinished n run) where
    covered_now : Rises by_key rs → (e : Entry) → Contains es e → e.number ≤ layer → IsLayerOf form n rs e.number e.kind
    covered_now up e c low =
        ⊎_elim (λ lt. f.whole e c lt up)
        (λ ge.
        let least = f.least e c in
        let g = f.current (omega arith) in
        let same : layer ≡ e.number = omega arith in
        let one : g.0 ≡ e = f.differ g.0 e g.1 c (g.2 ∙ same) in
        subst (λ (x : Entry). IsLayerOf form n rs x.number x.kind) one
        (subst (λ (k : ℕ). IsLayerOf form n rs k g.0.kind) (sym g.2)
        (finished form n n_least n_most rs layer (omega arith) g.0.kind run g.3 (full (omega arith)) up)))
        (cases_lt e.number layer)

    pub all_covered : Rises by_key rs → ((e : Entry) → Contains es e → e.number ≤ layer) → (e : Entry) → Contains es e → IsLayerOf form n rs e.number e.kind
    all_covered up low e c = covered_now up e c (low e c)

    pub IsSoFar-turn : (k : ℕ) (next : Run) → layer < k → (e : Entry) → Contains es e → e.number ≡ k → Starts e.kind next
        → ((d : Entry) → Contains es d → (d.number ≤ layer) ⊎ (k ≤ d.number))
        → IsSoFar form n es last k next rs
    IsSoFar-turn k next lt e c same starts between = record {
      listed = f.listed;
      named = f.named;
      fitting = f.fitting;
      least = f.least;
      most = f.most;
      differ = f.differ;
      reached = f.reached;
      entries_only = f.entries_only;
      layers_only = λ r m some. let w = f.layers_only r m some in let l = w.0 in (omega arith, w.1);
      whole = λ d m below up. ⊎_elim (λ low. covered_now up d m low) (λ high. absurd (omega arith)) (between d m);
      current = λ some. (e, c, same, starts form n rs k (f.fitting e c) (λ r m is. let w = (f.layers_only r m (omega arith)).0 in omega arith));
    }

  -- ---- a record more of the layer that comes
  pub IsSoFar-more : (r : Record) (next : Run) → 1 ≤ layer → r.key.layer ≡ layer
      → ((kind : Kind) → IsRun form n rs layer kind run → IsRun form n (rs ++ r ∷ []) layer kind next)
      → IsSoFar form n es last layer next (rs ++ r ∷ [])
  IsSoFar-more r next some is steps =
      let now = f.current some in record {
        listed = λ e m. in_front rs r (entry_record n e) (f.listed e m);
        named = f.named;
        fitting = f.fitting;
        least = f.least;
        most = f.most;
        differ = f.differ;
        reached = f.reached;
        entries_only =
            λ x m z. ⊎_elim (λ d. f.entries_only x d z) (λ same. let k = ap (λ (s : Record). s.key.layer) same in absurd (omega arith)) (last_cases rs r x m);
        layers_only = λ x m one. ⊎_elim (λ d. f.layers_only x d one)
            (λ same. let k = ap (λ (s : Record). s.key.layer) same in (omega arith, (now.0, now.1, now.2 ∙ sym is ∙ k))) (last_cases rs r x m);
        whole = λ e m lt up. IsLayerOf-other form n rs e.number e.kind r (λ same. omega arith) (f.whole e m lt (rises_front by_key rs (r ∷ []) up));
        current = λ one. (now.0, now.1, now.2, steps now.0.kind now.3);
      }
