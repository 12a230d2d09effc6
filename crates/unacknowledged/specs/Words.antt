-- What is said of a run that has no list.
use Rattle.std.specs.Prelude.{ℕ, List, ◌++◌, codes}
use Rattle.unacknowledged.specs.declared.Missing.{Missing}
use Rattle.unacknowledged.specs.declared.Missing.TheVariants.{LastNone, NoneAfterTip, Going}
use Rattle.unacknowledged.specs.declared.NoList.{NoList}
use Rattle.unacknowledged.specs.declared.NoList.TheVariants.{Unfinished, Memory}

abbrev pub missing_text : Missing → List ℕ
missing_text LastNone = codes "the last next have did not answer none"
missing_text NoneAfterTip = codes "a tip was added after the last none"
missing_text Going = codes "a denial stopped the walk"

-- for want of memory it says what the library says of it
abbrev pub no_list_text : NoList → List ℕ
no_list_text (Unfinished m) = codes "unfinished: " ++ missing_text m
no_list_text (Memory e) = codes "memory allocation failed"
