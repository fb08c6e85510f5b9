-- Commands that only ask, as a session answers them.
use Rattle.std.proofs.Common.{◌≡◌, ℕ, true, List, Option, Result, refl}
use Rattle.std.specs.Prelude.{IfOk}
use Rattle.quilt_types.specs.declared.plane.Pixel.{Pixel}
use Rattle.quilt_world.specs.declared.disk.Disk as disk
use Rattle.quilt_words.specs.declared.command.Command.{Command}
use Rattle.quilt_edition.specs.declared.book.Book.{Book}
use Rattle.quilt_replies.specs.Answers.{State, answer}
use Rattle.quilt_map.specs.Asking.{IsStill, HasText}
use Rattle.quilt_map.specs.Commanding.{Answered}
use Rattle.quilt_map.specs.Sessions.{IsAtState}
use Rattle.quilt_replies.specs.States.{Tells}
use Rattle.quilt_map.specs.Steps.{asks}
use Rattle.quilt_replies.specs.declared.reply.Reply as replies
use Rattle.quilt_map.specs.declared.session.Session.{Session}
use Rattle.quilt_map.proofs.answers.Answered.{IsBodyOf, told_reply, keeps_at, warm_at}
use Rattle.quilt_map.proofs.answers.Asked.{if_ok}
use Rattle.quilt_map.proofs.answers.Orderly.{asks_only, only_tells}
use Rattle.quilt_map.proofs.states.Moving.{IsLawful}
use Rattle.quilt_map.proofs.answers.Outcomes.{answered_same}

module _ {W : Type 0} {D : disk.Ghosts W} (s : State) (command : Command) (is : asks command ≡ true) (old : Session W D) (at : IsAtState old s) where
  -- where the session is as it was but for the last pixel
  pub asked_here : (w : Option (List ℕ × Pixel)) (given : replies.Reply) → Tells given (answer s command).reply
      → Answered s command old (record { book = old.book; catalog = old.catalog; last = old.last; changes = old.changes; warm = w; alloc = old.alloc }) given
  asked_here w given tells = answered_same s command old _ ((answer s command).reply) given (only_tells s command is) (asks_only command is).1 tells refl at (warm_at old w s at)

  -- and where its book went on with the same pages
  pub asked_on : (b : Book W D) (w : Option (List ℕ × Pixel)) (given : replies.Reply) → IsStill old.book b
      → IsLawful (D.size b.world) (D.told b.world) → Tells given (answer s command).reply
      → Answered s command old (record { book = b; catalog = old.catalog; last = old.last; changes = old.changes; warm = w; alloc = old.alloc }) given
  asked_on b w given still law tells =
      answered_same s command old _ ((answer s command).reply) given (only_tells s command is) (asks_only command is).1 tells refl at (keeps_at old b w s still law at)

module _ {W : Type 0} {D : disk.Ghosts W} (command : Command) (is : asks command ≡ true) (old : Session W D) where
  -- a reply of a text, where nothing was read
  pub told_here : {E F : Type 0} (text : Result (List ℕ) E) (r : Result replies.Reply F) → IfOk r (HasText text)
      → ((s : State) → IsAtState old s → IfOk text (IsBodyOf ((answer s command).reply)))
      → IfOk r (λ given. (s : State) → IsAtState old s → Answered s command old old given)
  told_here text r has body =
      if_ok (λ given. (s : State) → IsAtState old s → Tells given (answer s command).reply) (λ given. (s : State) → IsAtState old s
      → Answered s command old old given) r
      (λ given tells s at. asked_here s command is old at old.warm given (tells s at))
      (told_reply (IsAtState old) (λ s. (answer s command).reply) text r has body)

  -- and where the book went on
  pub told_on : {E F : Type 0} (b : Book W D) (w : Option (List ℕ × Pixel)) (text : Result (List ℕ) E) (r : Result replies.Reply F)
      → IsStill old.book b → IsLawful (D.size b.world) (D.told b.world)
      → IfOk r (HasText text) → ((s : State) → IsAtState old s → IfOk text (IsBodyOf ((answer s command).reply)))
      → IfOk r (λ given. (s : State) → IsAtState old s
      → Answered s command old (record { book = b; catalog = old.catalog; last = old.last; changes = old.changes; warm = w; alloc = old.alloc }) given)
  told_on b w text r still law has body =
      if_ok (λ given. (s : State) → IsAtState old s → Tells given (answer s command).reply)
      (λ given. (s : State) → IsAtState old s
      → Answered s command old (record { book = b; catalog = old.catalog; last = old.last; changes = old.changes; warm = w; alloc = old.alloc }) given) r
      (λ given tells s at. asked_on s command is old at b w given still law (tells s at))
      (told_reply (IsAtState old) (λ s. (answer s command).reply) text r has body)
