-- What an input holds: a store, a negotiator and calls; or the place of the first field that misfits.
use Rattle.std.specs.Prelude.{ℕ, zero, suc, ◌+◌, Bool, cond, List, [], ◌∷◌, length, take, drop, is_some, Some, None, Option, Ok, Err, Result, ◌==◌, nat_lt, slice_index}
use Rattle.source.specs.declared.ObjectId.{ObjectId}
use Rattle.book.specs.declared.types.Remark.TheVariants as remark
use Rattle.fields.specs.Fields.{long, body_of}
use Rattle.model.specs.declared.Algorithm.{Algorithm}
use Rattle.model.specs.declared.Algorithm.TheVariants.{Noop, Consecutive, Skipping}
use Rattle.model.specs.declared.Call.{Call}
use Rattle.model.specs.declared.Call.TheVariants.{KnownCommon, AddTip, NextHave, InCommonWithRemote, Note}
use Rattle.input.specs.declared.Misfit.{Misfit}
use Rattle.input.specs.declared.Tag.{Tag}
use Rattle.input.specs.declared.Tag.TheVariants as tag
use Rattle.input.specs.declared.Walk.{Walk}

-- the first field runs past the end
abbrev pub pastb : List ℕ → Bool
pastb bs = nat_lt (length bs) (3 + long bs)

abbrev pub behind_field : List ℕ → List ℕ
behind_field bs = drop (3 + long bs) bs

abbrev pub id_of : List ℕ → ObjectId
id_of body = record { bytes = body }

-- the tag of a call: 17 known common, 18 tip, 19 next have, 20 acknowledgement, 21 note
abbrev pub tag_of : Call → ℕ
tag_of (KnownCommon i) = 17
tag_of (AddTip i) = 18
tag_of NextHave = 19
tag_of (InCommonWithRemote i) = 20
tag_of (Note i r) = 21

-- what a field with a tag holds
abbrev pub tagged : ℕ → Option Tag
tagged n =
    cond (n == 16) (Some tag.Negotiator)
    (cond (n == 17) (Some tag.KnownCommon)
    (cond (n == 18) (Some tag.Tip)
    (cond (n == 19) (Some tag.Next)
    (cond (n == 20) (Some tag.Acknowledgement)
    (cond (n == 21) (Some tag.Complete) None)))))

-- the call that a tag and a body make: a next have is empty, any other holds an id of twenty bytes
abbrev pub call_of : ℕ → List ℕ → Option Call
call_of tag body =
    cond (tag == 19) (cond (length body == 0) (Some NextHave) None)
    (cond (length body == 20)
    (cond (tag == 17) (Some (KnownCommon (id_of body)))
    (cond (tag == 18) (Some (AddTip (id_of body)))
    (cond (tag == 20) (Some (InCommonWithRemote (id_of body)))
    (cond (tag == 21) (Some (Note (id_of body) remark.Complete)) None))))
    None)

-- the negotiator that a body names: one byte of 0, 1 or 2
abbrev pub algorithm_of : List ℕ → Option Algorithm
algorithm_of [] = None
algorithm_of (n ∷ []) = cond (n == 0) (Some Noop) (cond (n == 1) (Some Consecutive) (cond (n == 2) (Some Skipping) None))
algorithm_of (n ∷ m ∷ bs) = None

-- the place of the first call that misfits, of the fields from `at` on; n is at least the number of bytes
abbrev pub misfit_from : ℕ → List ℕ → ℕ → Option ℕ
misfit_from zero bs at = None
misfit_from (suc n) bs at =
    cond (length bs == 0) None
    (cond (pastb bs) (Some at)
    (cond (is_some (call_of (slice_index bs 0) (body_of bs))) (misfit_from n (behind_field bs) (at + (3 + long bs))) (Some at)))

-- a misfit at a place, if there is one
abbrev pub refused : Option ℕ → Result (Unit {0}) Misfit
refused None = Ok tt
refused (Some p) = Err (record { place = p })

abbrev pub on_call : Option Call → List Call → List Call
on_call None more = []
on_call (Some c) more = c ∷ more

-- the calls before the first that misfits
abbrev pub call_list : ℕ → List ℕ → List Call
call_list zero bs = []
call_list (suc n) bs = cond (length bs == 0) [] (cond (pastb bs) [] (on_call (call_of (slice_index bs 0) (body_of bs)) (call_list n (behind_field bs))))

abbrev pub calls_of : List ℕ → List Call
calls_of bs = call_list (length bs) bs

-- an input: the store, the negotiator and the fields of the calls; or the place of a field that misfits
pub data Parsed : Type 0 where
  bad : ℕ → Parsed
  walk : List ℕ → Algorithm → List ℕ → Parsed

abbrev pub heard : Result Walk Misfit → Parsed
heard (Err m) = bad m.place
heard (Ok w) = walk w.store.now w.algorithm w.calls.now

abbrev pub unless : Option ℕ → Parsed → Parsed
unless None w = w
unless (Some p) w = bad p

-- the field that names the negotiator, at `at`, and the calls behind it
abbrev pub named : Option Algorithm → List ℕ → List ℕ → ℕ → Parsed
named None store rest at = bad at
named (Some n) store rest at = unless (misfit_from (length rest) rest (at + 4)) (walk store n rest)

abbrev pub numbered : List ℕ → List ℕ → List ℕ → ℕ → Parsed
numbered store body rest at = named (algorithm_of body) store rest at

-- the fields before the first with tag 16 are the store
abbrev pub store_then : ℕ → List ℕ → List ℕ → ℕ → Parsed
store_then zero whole bs at = bad at
store_then (suc n) whole bs at =
    cond (length bs == 0) (bad at)
    (cond (pastb bs) (bad at)
    (cond (slice_index bs 0 == 16) (numbered (take at whole) (body_of bs) (behind_field bs) at)
    (store_then n whole (behind_field bs) (at + (3 + long bs)))))

-- what an input says; more than `most` bytes misfit there
abbrev pub parsed_within : ℕ → List ℕ → Parsed
parsed_within most bs = cond (nat_lt most (length bs)) (bad most) (store_then (length bs) bs bs 0)

-- an input has at most 65,536 bytes
abbrev pub parsed : List ℕ → Parsed
parsed bs = parsed_within 65536 bs
