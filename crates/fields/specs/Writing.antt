-- What is said of a field that was not written.
use Rattle.std.specs.Prelude.{ℕ, List, codes}
use Rattle.fields.specs.declared.writing.Unwritten.{Unwritten}
use Rattle.fields.specs.declared.writing.Unwritten.TheVariants.{TooLong, NoMemory}

abbrev pub message : Unwritten → List ℕ
message TooLong = codes "more bytes than a field can have"
message NoMemory = codes "memory allocation failed"
