-- The line that refuses, by the table of codes.
use Rattle.std.proofs.Common.{◌≡◌, ℕ, List, refl, sym, subst, ◌∙◌, ap}
use Rattle.std.specs.Fmt.{digits}
use Rattle.quilt_types.specs.declared.code.Code.{Code}
use Rattle.quilt_types.specs.declared.code.Code.TheVariants as no
use Rattle.quilt_words.specs.Parsing.{refusal}
use Rattle.quilt_replies.specs.Answers.{Reply, Refused}
use Rattle.quilt_replies.specs.Runs.{text_of}
use Rattle.quilt_replies.specs.States.{Tells}
use Rattle.quilt_replies.specs.declared.reply.Reply as given_reply
use Rattle.quilt_replies.specs.declared.reply.Reply.TheVariants as reply

pub refusal_is : (code : Code) → refusal code ≡ text_of (Refused code)
unfolding digits
refusal_is no.Word = refl
refusal_is no.Count = refl
refusal_is no.Number = refl
refusal_is no.Name = refl
refusal_is no.Unknown = refl
refusal_is no.Kind = refl
refusal_is no.Exists = refl
refusal_is no.Outside = refl
refusal_is no.Absent = refl
refusal_is no.Present = refl
refusal_is no.Full = refl
refusal_is no.Layers = refl
refusal_is no.Long = refl
refusal_is no.Rows = refl
refusal_is no.Format = refl
refusal_is no.Editions = refl
refusal_is no.Bytes = refl
refusal_is no.Many = refl

-- what a reply of the session is told by
told_no : (text : List ℕ) (code : Code) (r : Reply) → text ≡ refusal code → r ≡ Refused code → text ≡ text_of r
told_no text code r is same = is ∙ refusal_is code ∙ sym (ap text_of same)

pub told : (given : given_reply.Reply) (code : Code) (text : List ℕ) → given ≡ reply.No code → text ≡ refusal code → (r : Reply)
    → Tells given r → text ≡ text_of r
told given code text no_ is r tells = told_no text code r is (subst (λ (g : given_reply.Reply). Tells g r) no_ tells)

pub refused : (given : given_reply.Reply) (code : Code) (text : List ℕ) → given ≡ reply.No code → text ≡ refusal code →
    (other : Code) → given ≡ reply.No other → (text ≡ refusal other) × (text ≡ text_of (Refused other))
refused given code text no_ is other same =
    let alike : code ≡ other = same_code code other (sym no_ ∙ same) in
    let line : text ≡ refusal other = is ∙ ap refusal alike in
    (line, line ∙ refusal_is other)
  where
    same_code : (a b : Code) → reply.No a ≡ reply.No b → a ≡ b
    same_code a b e = cc
