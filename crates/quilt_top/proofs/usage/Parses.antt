-- What a parse of the words gives, where it takes them and where it does not.
use Rattle.std.proofs.Common.{◌≡◌, inl, inr, suc, true, List, [], ◌∷◌, map, All, Option, None, refl, sym, ◌∙◌, ap, ap₂, subst, arith}
use Rattle.std.specs.Borrow.{Bor}
use Rattle.std.specs.Str.{IsUtf8}
use Rattle.std.proofs.lemmas.Bool.{and_parts}
use Rattle.clap.specs.Words.{App, HasKind, HasMatchesOf, IsAmong, Kinds, Row, Text, fault_of, first_of, first_value, found_of, is_simple, is_simple_and_free}
use Rattle.clap.specs.Words.{kind_of, matches_of, rows_of}
use Rattle.clap.specs.Faults.{is_free_app}
use Rattle.clap.specs.Simple.{built}
use Rattle.clap.specs.declared.parser.matches.ArgMatches.{ArgMatches}
use Rattle.clap.specs.declared.error.Error.{Error}
use Rattle.clap.specs.declared.error.kind.ErrorKind.TheVariants.{OutOfMemory}
use Rattle.clap.proofs.WalkLemmas.{first_value-rows}
use Rattle.quilt_top.specs.Words.{Order, asked_for}
use Rattle.quilt_top.specs.CommandLine.{order_by, reader}
use Rattle.quilt_top.proofs.usage.Commands.{reads_simply}
use Rattle.quilt_top.proofs.usage.Walks.{AreTexts, read, reads}

pub texts_are : (ws : List (Bor Text)) → All (λ w. IsUtf8 w.now) ws → AreTexts (map (λ w. w.now) ws)
texts_are [] texts = tt
texts_are (w ∷ ws) texts = (texts 0 w (omega arith), texts_are ws (λ k d lt. texts (suc k) d (omega arith)))

simple : (a : App) → a ≡ reader → is_simple a ≡ true
simple a is = ap is_simple is ∙ (and_parts (is_simple reader) (is_free_app (built reader)) reads_simply).0

pub free_and_simple : (a : App) → a ≡ reader → is_simple_and_free a ≡ true
free_and_simple a is = ap is_simple_and_free is ∙ reads_simply

pub taken : (a : App) (ws : List Text) (m : ArgMatches) → a ≡ reader → AreTexts ws → fault_of a ws ≡ [] → HasMatchesOf a ws m
    → order_by (first_value (found_of m)) ≡ asked_for ws
taken a ws m is texts none has =
    let rows : rows_of (found_of m) ≡ matches_of reader ws = (has (simple a is)).0 ∙ ap (λ (b : App). matches_of b ws) is in
    let same : order_by (first_value (found_of m)) ≡ order_by (λ id. first_of id (rows_of (found_of m))) =
    λ i. order_by (λ id. first_value-rows (found_of m) id i) in
    let free : [] ≡ fault_of reader ws = sym none ∙ ap (λ (b : App). fault_of b ws) is in
    same ∙ ap₂ (λ (k : Kinds) (r : List Row). read k (order_by (λ id. first_of id r))) free rows ∙ reads ws texts

not_empty : (k : Kinds) (order : Option Order) → (k ≡ [] → ⊥) → read k order ≡ None
not_empty [] order some = absurd (some refl)
not_empty (x ∷ k) order some = refl

among_some : (e : Error) (k : Kinds) → HasKind k e → (kind_of e ≡ OutOfMemory → ⊥) → k ≡ [] → ⊥
among_some e k (inl is) unequal none = unequal is
among_some e k (inr among) unequal none = subst (IsAmong (kind_of e)) none among

pub not_taken : (a : App) (ws : List Text) (e : Error) → a ≡ reader → AreTexts ws → HasKind (fault_of a ws) e
    → (kind_of e ≡ OutOfMemory → ⊥) → None ≡ asked_for ws
not_taken a ws e is texts has unequal =
    let some = among_some e (fault_of a ws) has unequal in
    sym (not_empty (fault_of reader ws) (order_by (λ id. first_of id (matches_of reader ws)))
    (λ none. some (ap (λ (b : App). fault_of b ws) is ∙ none))) ∙ reads ws texts
