-- The number and the word of each refusal.
use Rattle.std.specs.Prelude.{ℕ, List, codes}
use Rattle.quilt_types.specs.declared.code.Code.{Code}
use Rattle.quilt_types.specs.declared.code.Code.TheVariants as no

-- the number of a refusal, from 1 to 18, which its reply has behind `no`
abbrev pub code_number : Code → ℕ
code_number no.Word = 1
code_number no.Count = 2
code_number no.Number = 3
code_number no.Name = 4
code_number no.Unknown = 5
code_number no.Kind = 6
code_number no.Exists = 7
code_number no.Outside = 8
code_number no.Absent = 9
code_number no.Present = 10
code_number no.Full = 11
code_number no.Layers = 12
code_number no.Long = 13
code_number no.Rows = 14
code_number no.Format = 15
code_number no.Editions = 16
code_number no.Bytes = 17
code_number no.Many = 18

-- the bytes of the word of a refusal, which its reply has behind the number
abbrev pub code_word : Code → List ℕ
code_word no.Word = codes "word"
code_word no.Count = codes "count"
code_word no.Number = codes "number"
code_word no.Name = codes "name"
code_word no.Unknown = codes "unknown"
code_word no.Kind = codes "kind"
code_word no.Exists = codes "exists"
code_word no.Outside = codes "outside"
code_word no.Absent = codes "absent"
code_word no.Present = codes "present"
code_word no.Full = codes "full"
code_word no.Layers = codes "layers"
code_word no.Long = codes "long"
code_word no.Rows = codes "rows"
code_word no.Format = codes "format"
code_word no.Editions = codes "editions"
code_word no.Bytes = codes "bytes"
code_word no.Many = codes "many"
