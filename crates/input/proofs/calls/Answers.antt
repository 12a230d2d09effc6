use Rattle.std.proofs.Common.{◌≡◌, List, [], ◌∷◌, ◌++◌, vec_items, Some, Ok, Err, sym, ap, ◌∙◌, arith, append_assoc, append-nil}
use Rattle.model.specs.declared.Call.{Call}
use Rattle.fields.specs.Steps.{GivesField}
use Rattle.input.specs.Inputs.{on_call, calls_of}
use Rattle.input.proofs.Scans.{first_call, cut_calls}
use Rattle.input.proofs.calls.Goals.{in-None, in-Some+in_default, in-Some+in-Ok+in_default-call_of}
use Rattle.input.proofs.calls.Goals as goal

pub loop-field-preserved : goal.loop-field-preserved
loop-field-preserved c =
    let s = c.loop-field.field-iterator in
    let t = c.next.new.self in
    let f = c.in-Ok.field in
    let had = vec_items c.loop-field.calls in
    let g : GivesField s (Some (Ok f)) t = rw c.in-Ok.is at c.in-Some.ensures.steps in
    let first : calls_of s.rest.bytes.now ≡ c.in-Some-call_of.call ∷ calls_of f.rest.bytes.now =
    first_call s.rest.bytes.now f.body.now f.rest.bytes.now f.tag c.call_of.result g.2 c.call_of.ensures ∙ ap (λ o. on_call o (calls_of f.rest.bytes.now)) c.in-Some-call_of.is in
    let tail = calls_of t.rest.bytes.now in
    let same : tail ≡ calls_of f.rest.bytes.now = ap (λ r. calls_of r.bytes.now) g.3 in (
      tt,
      tt,
      ap {B = List Call} (λ xs. xs ++ tail) c.in_ok-push.ensures.items
          ∙ append_assoc had (c.in-Some-call_of.call ∷ []) tail
          ∙ ap {B = List Call} (λ ys. had ++ ys) (ap {B = List Call} (λ ys. c.in-Some-call_of.call ∷ ys) same ∙ sym first)
          ∙ c.loop-field.invariant.2,
    )

pub returns : goal.returns
returns c =
    let s = c.loop-field.field-iterator in
    let bs = s.rest.bytes.now in
    let had = vec_items c.loop-field.calls in
    let none : calls_of bs ≡ [] = elim c.match-next.branch [
      | in-None w ↦ let g = w.in-None.ensures.steps.0 in cut_calls bs (omega (arith, g))
      | in-Some+in_default w ↦
          let g : GivesField s (Some (Err w.in_default.field-0)) c.next.new.self = rw w.in_default.is at w.in-Some.ensures.steps in
          cut_calls bs g.1
      | in-Some+in-Ok+in_default-call_of w ↦
          let f = w.in-Ok.field in
          let g : GivesField s (Some (Ok f)) c.next.new.self = rw w.in-Ok.is at w.in-Some.ensures.steps in
          first_call bs f.body.now f.rest.bytes.now f.tag w.call_of.result g.2 w.call_of.ensures ∙ ap (λ o. on_call o (calls_of f.rest.bytes.now)) w.in_default-call_of.is
    ] in
    sym (append-nil had) ∙ ap {B = List Call} (λ ys. had ++ ys) (sym none) ∙ c.loop-field.invariant.2
