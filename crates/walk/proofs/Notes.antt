-- A note, under every negotiator.
use Rattle.std.proofs.Common.{◌≡◌, ℕ, Bool, true, false, cond, get_or, Some, None, Ok, Err, Option, Result, sym, refl, subst, inl, inr}
use Rattle.source.specs.declared.ObjectId.{ObjectId}
use Rattle.book.specs.declared.types.Denial.{Denial}
use Rattle.book.specs.declared.types.Denial.TheVariants as denial
use Rattle.book.specs.declared.types.Remark.{Remark}
use Rattle.book.specs.Bits.{bit_of}
use Rattle.book.specs.Model.{Model, Done, looked_up, marked, noted, flagged, no_entry}
use Rattle.model.specs.declared.Algorithm.{Algorithm}
use Rattle.model.specs.declared.Algorithm.TheVariants as algorithm
use Rattle.model.specs.declared.Call.TheVariants.{Note}
use Rattle.model.specs.declared.Reply.{Reply}
use Rattle.model.specs.Book.{Walk, Waits, Source}
use Rattle.model.specs.Steps
use Rattle.model.specs.Consecutive
use Rattle.model.specs.Skipping
use Rattle.model.specs.Noop
use Rattle.model.specs.Past.{does, Called}
use Rattle.model.specs.Parts.{Looks, dones}
use Rattle.model.specs.View.{walk_of}
use Rattle.model.proofs.Looks.{looks, flag_view}
use Rattle.model.proofs.Masks.{or_note}

ran_note : (n : Algorithm) (src : Source) (s t : Walk) (i : ObjectId) (r : Remark) (a : Reply) → Steps.Noted src s r i a t → does n src s (Note i r) a t
ran_note algorithm.Noop src s t i r a h = Noop.Ran.notes h
ran_note algorithm.Consecutive src s t i r a h = Consecutive.Ran.notes h
ran_note algorithm.Skipping src s t i r a h = Skipping.Ran.notes h

pub note_called : (n : Algorithm) (src : Source) (m m' : Model) (q : Waits) (c : ℕ) (i : ObjectId) (r : Remark) (a : Result (Unit {0}) Denial)
    → m' ≡ (noted src i (bit_of r) m).book → a ≡ (noted src i (bit_of r) m).answer → Called (does n src) (walk_of m q c) (Note i r) (dones a) (walk_of m' q c)
note_called n src m m' q c i r a e f =
    subst (λ (x : Model). Called (does n src) s₀ (Note i r) (dones a) (walk_of x q c)) (sym e)
    (subst (λ (x : Result (Unit {0}) Denial). Called (does n src) s₀ (Note i r) (dones x) (walk_of (noted src i (bit_of r) m).book q c)) (sym f) (by_stopped m.stopped refl))
  where
    s₀ : Walk
    s₀ = walk_of m q c

    mark : (l : Model) (o : Result (Option ℕ) Denial) → Looks src s₀ i (walk_of l q c) o → m.stopped ≡ false
        → Called (does n src) s₀ (Note i r) (dones (marked l o (bit_of r)).answer) (walk_of (marked l o (bit_of r)).book q c)
    mark l (Err d) h ns = inr (ns, ran_note n src s₀ (walk_of l q c) i r (dones (Err d)) (subst (λ (x : Walk). Steps.Noted src s₀ r i (dones (Err d)) x) (sym h.1) (Steps.Noted.barred h.0)))
    mark l (Ok None) h ns = inr (ns, ran_note n src s₀ (walk_of l q c) i r (dones (Ok tt)) (subst (λ (x : Walk). Steps.Noted src s₀ r i (dones (Ok tt)) x) (sym h.1) (Steps.Noted.gone h.0)))
    mark l (Ok (Some k)) h ns =
        let v = flag_view l (flagged l k (bit_of r)) q q c c k (bit_of r) (Steps.remarked r) refl (or_note r (get_or l.entries k no_entry).flags) in
        inr (ns, ran_note n src s₀ (walk_of (flagged l k (bit_of r)) q c) i r (dones (Ok tt)) (subst (λ (x : Walk). Steps.Noted src s₀ r i (dones (Ok tt)) x) (sym v) (Steps.Noted.set_at h)))

    chosen : Bool → Done
    chosen b = cond b (record { book = m; answer = Err denial.Stopped }) (marked (looked_up src i m).book (looked_up src i m).answer (bit_of r))

    by_stopped : (b : Bool) → m.stopped ≡ b → Called (does n src) s₀ (Note i r) (dones (chosen b).answer) (walk_of (chosen b).book q c)
    by_stopped true h = inl (h, refl, refl)
    by_stopped false h = mark (looked_up src i m).book (looked_up src i m).answer (looks src m q c i) h
