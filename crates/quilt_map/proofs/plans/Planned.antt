-- A command that plans edits of a layer: what it is answered once they were planned, and where there are none.
use Rattle.std.proofs.Common.{◌≡◌, ℕ, List, Option, Some, IfSome, refl, sym, subst}
use Rattle.quilt_types.specs.declared.code.Code.{Code}
use Rattle.quilt_types.specs.Layers.{Layer}
use Rattle.quilt_world.specs.declared.disk.Disk as disk
use Rattle.quilt_record.specs.declared.edits.Edits.{Edits}
use Rattle.quilt_edition.specs.declared.book.Book.{Book}
use Rattle.quilt_replies.specs.Answers.{State, Outcome, Refused}
use Rattle.quilt_replies.specs.declared.reply.Reply as replies
use Rattle.quilt_replies.specs.declared.reply.Reply.TheVariants as given
use Rattle.quilt_map.specs.Asking.{IsStill}
use Rattle.quilt_map.specs.Making.{AnsweredBy, layer_placed}
use Rattle.quilt_map.specs.Planning.{IsAmendment}
use Rattle.quilt_map.specs.Sessions.{IsAtState}
use Rattle.quilt_map.specs.declared.session.Session.{Session}
use Rattle.quilt_map.proofs.plans.Amends.{mid_at}
use Rattle.quilt_map.proofs.states.Moving.{IsLawful, with_book}
use Rattle.quilt_map.proofs.answers.Outcomes.{nothing_done}
use Rattle.quilt_map.proofs.answers.Placing.{answered_from, refused_by}

-- what is said of the plan that was given
pub some_of : {X : Type 0} (P : X → Type 0) (o : Option X) (x : X) → o ≡ Some x → IfSome o P → P x
some_of {X = X} P o x is h = subst (λ (z : Option X). IfSome z P) is h

module _ {W : Type 0} {D : disk.Ghosts W} (old : Session W D) (s : State) (at : IsAtState old s) (b : Book W D) (still : IsStill old.book b)
    (law : IsLawful (D.size b.world) (D.told b.world)) (out : Outcome) where
  -- there is no plan, and the code says why
  pub unplanned : (code : Code) → out ≡ nothing_done s (Refused code) → AnsweredBy s out old (with_book old b) (given.No code)
  unplanned code is =
      subst (λ (o : Outcome). AnsweredBy s o old (with_book old b) (given.No code)) (sym is)
      (refused_by old (with_book old b) s code at.bounded (mid_at old s at b still law) refl)

  -- what an amendment by these edits is answered
  abbrev pub Amends : Session W D → Edits → replies.Reply → Type 0
  Amends new edits reply =
      (now : State) (mid : IsAtState (with_book old b) now) (name : List ℕ) (number : ℕ) (layer : Layer)
      → IsAmendment now mid.work.numbers old.catalog name number layer edits.remove edits.add
      → AnsweredBy now (layer_placed now name layer) (with_book old b) new reply

  -- the layer is amended by the edits
  pub planned : (name : List ℕ) (number : ℕ) (layer : Layer) (edits : Edits)
      → IsAmendment s (mid_at old s at b still law).work.numbers old.catalog name number layer edits.remove edits.add
      → out ≡ layer_placed s name layer → (new : Session W D) (reply : replies.Reply) → Amends new edits reply → AnsweredBy s out old new reply
  planned name number layer edits amendment is new reply amends =
      subst (λ (o : Outcome). AnsweredBy s o old new reply) (sym is)
      (answered_from old (with_book old b) new s (layer_placed s name layer) reply refl (amends s (mid_at old s at b still law) name number layer amendment))
