-- What a system tells of the one path where a file may be, of its file and of the standard streams.
use Rattle.std.specs.Prelude.{ℕ, Bool, List, Option, Some, None}
use Rattle.quilt_host.specs.declared.act.Act.{Act}

-- The words of the call, if all are texts; the path where a file may be, whether one was there before the first call, and is there now; whether one
-- was made whose removal was not asked for since; its bytes, as a read gives them; the bytes that it had on the disk when it was
-- opened, or when its folder was last synced; what was done to it and to input and output, the last first; the input that is left;
-- and what was written to standard error, and how often that was tried.
pub record Story : Type 0 where
  pub words : Option (List (List ℕ))
  pub path : List ℕ
  pub was_there : Bool
  pub is_there : Bool
  pub owes : Bool
  pub bytes : List ℕ
  pub settled : List ℕ
  pub acts : List Act
  pub input : List ℕ
  pub said : List ℕ
  pub says : ℕ
