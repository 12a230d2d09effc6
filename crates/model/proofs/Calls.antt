-- What the calls promise of pasts.
use Rattle.std.proofs.Common.{◌≡◌, ℕ, ◌≤◌, false, ◌∷◌, Some, None, Ok, Err, Result, sym, ◌∙◌, subst, inl, inr, arith}
use Rattle.std.proofs.lemmas.Bool.{both_ways}
use Rattle.model.proofs.Complete.{ran_once}
use Rattle.source.specs.declared.ObjectId.{ObjectId}
use Rattle.book.specs.declared.types.Denial.{Denial}
use Rattle.model.specs.Book.{SEEN, COMMON_REF_AND_SEEN, Walk, made, Source}
use Rattle.model.specs.Consecutive as steps
use Rattle.model.specs.Steps.{ok, sees, noted, Noted}
use Rattle.model.specs.Consecutive.{Push, Mark, Ran}
use Rattle.model.specs.declared.Call.{Call}
use Rattle.model.specs.declared.Call.TheVariants.{KnownCommon, AddTip, Note}
use Rattle.model.specs.declared.Reply.{Reply}
use Rattle.model.specs.declared.Reply.TheVariants.{Done, Denied}
use Rattle.model.specs.Past.{does, Called}
use Rattle.model.specs.declared.Algorithm.{Algorithm}
use Rattle.model.specs.declared.Algorithm.TheVariants as algorithm
use Rattle.model.specs.Laws.{EveryCallFixed, Answers}
use Rattle.model.proofs.SkipComplete.{skip_once, noop_once}
use Rattle.model.proofs.Every.{every_past_lawful, every_call_pops}
use Rattle.model.specs.Steady.{free, Fit}
use Rattle.model.specs.Parts.{ended, dones}
use Rattle.model.proofs.Moves.{called_past}
use Rattle.model.proofs.Good.{begun_good}
use Rattle.model.proofs.Ops.{noted_good}
use Rattle.model.proofs.Looks.{Looks}
use Rattle.model.proofs.Fits.{lookup_went, fit_went}
use Rattle.book.specs.declared.types.Remark.{Remark}

ran_only : (n : Algorithm) (src : Source) (s : Walk) (c : Call) (a b : Reply) (t u : Walk) → does n src s c a t → does n src s c b u → (a ≡ b) × (t ≡ u)
ran_only algorithm.Noop = noop_once
ran_only algorithm.Consecutive = ran_once
ran_only algorithm.Skipping = skip_once

-- the walk, the source and the call fix the outcome
pub every_call_fixed : EveryCallFixed
every_call_fixed n src s c a b t u (inl (x, ea, et)) (inl (y, eb, eu)) = (eb ∙ sym ea, eu ∙ sym et)
every_call_fixed n src s c a b t u (inl (x, ea, et)) (inr (m, r)) = absurd (both_ways s.stopped m x)
every_call_fixed n src s c a b t u (inr (m, r)) (inl (y, eb, eu)) = absurd (both_ways s.stopped m y)
every_call_fixed n src s c a b t u (inr (m, r)) (inr (l, q)) = ran_only n src s c b a u t q r

-- what every call of a negotiator promises
pub answers : (n : Algorithm) (src : Source) (s t : Walk) (c : Call) (a : Reply) → Called (does n src) s c a t → Answers n src s c a t
answers n src s t c a r = record {
  step = r;
  only = λ b u q. every_call_fixed n src s c a b t u r q;
  past = λ h p. called_past (does n src) s t c a h r p;
  lawful = λ h p. every_past_lawful n src (record { asked = c; gave = a } ∷ h) t (called_past (does n src) s t c a h r p);
  pops = λ h p. every_call_pops n src h s c a t p r;
}

pub tip_ran : (src : Source) (i : ObjectId) (s t : Walk) (r : Result (Unit {0}) Denial) → Push src SEEN i s (ended r t) → Ran src s (AddTip i) (dones r) t
tip_ran src i s t (Ok x) p = steps.Ran.tip_ok p
tip_ran src i s t (Err d) p = steps.Ran.tip_no p

pub known_ran : (src : Source) (i : ObjectId) (s u t : Walk) (r : Result (Unit {0}) Denial) → sees s i ≡ false → Push src COMMON_REF_AND_SEEN i s (ok u) → Mark src false false i u (ended r t) → Ran src s (KnownCommon i) (dones r) t
known_ran src i s u t (Ok x) h p m = steps.Ran.known_ok h p m
known_ran src i s u t (Err d) h p m = steps.Ran.known_halt h p m

pub begun_fit : (n l p m : ℕ) → n ≤ p → n ≤ m → n ≤ 65535 → Fit (made n l) 0 p m
begun_fit n l p m a b c = record { good = begun_good free n l; counted = omega arith; placed = a; marked = b; most = c }

-- a note
pub note_err : (src : Source) (b : Remark) (i : ObjectId) (s t : Walk) (d : Denial) → Looks src s i t (Err d) → Ran src s (Note i b) (Denied d) t
note_err src b i s t d l = subst (λ (x : Walk). Ran src s (Note i b) (Denied d) x) (sym l.1) (steps.Ran.notes (Noted.barred l.0))

pub note_none : (src : Source) (b : Remark) (i : ObjectId) (s t : Walk) → Looks src s i t (Ok None) → Ran src s (Note i b) Done t
note_none src b i s t l = subst (λ (x : Walk). Ran src s (Note i b) Done x) (sym l.1) (steps.Ran.notes (Noted.gone l.0))

pub note_some : (src : Source) (b : Remark) (i : ObjectId) (s t u : Walk) (k : ℕ) → Looks src s i t (Ok (Some k)) → u ≡ noted b t k → Ran src s (Note i b) Done u
note_some src b i s t u k l e = subst (λ (x : Walk). Ran src s (Note i b) Done x) (sym e) (steps.Ran.notes (Noted.set_at l))

pub note_fit : (src : Source) (b : Remark) (i : ObjectId) (s t : Walk) (k n p m : ℕ) → Looks src s i t (Ok (Some k)) → Fit s n p m → Fit (noted b t k) n p m
note_fit src b i s t k n p m l F =
    let x = lookup_went src s i k t F.good l in
    let g = noted_good free b t k x.0.0 x.1 in
    fit_went t (noted b t k) n n p m (fit_went s t n n p m F x.0 (omega arith)) (g.0, g.1) (omega arith)
