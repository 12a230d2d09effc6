-- The denials: their numbers, what they carry, and which of them stop a walk.
use Rattle.std.specs.Prelude.{ℕ, Bool, true, false, Some, None, Option}
use Rattle.source.specs.declared.Fault.{Fault}
use Rattle.book.specs.declared.types.Denial.{Denial}
use Rattle.book.specs.declared.types.Denial.TheVariants.{Stopped, NotSeen, Failing, RowsFull, LinksFull, MissingParent, WindowTooLarge, UnknownName, NoSuchRow}

-- the number under which a denial is reported, which is its place in the order of checking
abbrev pub number_of : Denial → ℕ
number_of Stopped = 1
number_of NotSeen = 2
number_of (Failing f) = 3
number_of RowsFull = 4
number_of LinksFull = 5
number_of MissingParent = 6
number_of WindowTooLarge = 7
number_of UnknownName = 8
number_of NoSuchRow = 9

-- a failing source's fault is carried whole
abbrev pub fault_in : Denial → Option Fault
fault_in Stopped = None
fault_in NotSeen = None
fault_in (Failing f) = Some f
fault_in RowsFull = None
fault_in LinksFull = None
fault_in MissingParent = None
fault_in WindowTooLarge = None
fault_in UnknownName = None
fault_in NoSuchRow = None

-- the denials in the middle of a walk stop it for good; the others write nothing
abbrev pub stops_walk : Denial → Bool
stops_walk Stopped = false
stops_walk NotSeen = false
stops_walk (Failing f) = true
stops_walk RowsFull = true
stops_walk LinksFull = true
stops_walk MissingParent = true
stops_walk WindowTooLarge = false
stops_walk UnknownName = false
stops_walk NoSuchRow = false
