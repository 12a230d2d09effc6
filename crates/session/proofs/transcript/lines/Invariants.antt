use Rattle.std.proofs.Common.{◌≡◌, ◌+◌, ◌++◌, drop, string_bytes}
use Rattle.book.specs.Model.{model}
use Rattle.model.specs.View.{rows_of}
use Rattle.session.specs.Printed.{lines_of}
use Rattle.session.proofs.transcript.lines.Given as goal

-- the text so far, and what is still to come, are the whole
abbrev pub invariant-loop-i : goal.invariant-loop-i
invariant-loop-i l = string_bytes l.text ++ lines_of (rows_of (model l.book)) (l.i + 1) (drop l.i l.events) ≡ lines_of (rows_of (model l.book)) 1 l.events
