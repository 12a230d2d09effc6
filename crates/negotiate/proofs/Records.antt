-- Of calls that are recorded.
use Rattle.std.proofs.Common.{◌≡◌, ℕ, ◌+◌, ◌<◌, ◌≤◌, List, [], ◌∷◌, ◌++◌, map, length, get_or, take, sym, refl, ap, ◌∙◌, subst}
use Rattle.std.proofs.lemmas.List.{take_more, take_all, map_push}
use Rattle.model.specs.declared.Algorithm.{Algorithm}
use Rattle.model.specs.declared.Call.{Call}
use Rattle.model.specs.declared.Event.{Event}
use Rattle.model.specs.declared.Reply.{Reply}
use Rattle.model.specs.Book.{Walk, Source}
use Rattle.model.specs.Past.{Doing, does, Called, Past}
use Rattle.model.specs.Laws.{Answers}
use Rattle.model.specs.Walks.{Plays}
use Rattle.model.proofs.Calls.{every_call_fixed}
use Rattle.model.proofs.Every.{every_past_lawful}
use Rattle.model.proofs.Moves.{called_past}
use Rattle.negotiate.specs.Records.{back, Recorded}

abbrev asked_of : List Event → List Call
asked_of es = map (λ (e : Event). e.asked) es

-- these calls so far
pub record Partly (n : Algorithm) (src : Source) (s : Walk) (calls : List Call) (es : List Event) (t : Walk) : Type 0 where
  pub asked : asked_of es ≡ calls
  pub plays : Plays (does n src) s es t

-- one call more
plays_more : (ran : Doing) (s : Walk) (es : List Event) (t : Walk) (e : Event) (u : Walk) → Plays ran s es t → Called ran t e.asked e.gave u → Plays ran s (es ++ e ∷ []) u
plays_more ran s [] t e u p d = (u, subst (λ (x : Walk). Called ran x e.asked e.gave u) p d, refl)
plays_more ran s (f ∷ es) t e u (v, x, r) d = (v, x, plays_more ran v es t e u r d)

pub partly_more : (n : Algorithm) (src : Source) (s : Walk) (calls : List Call) (i : ℕ) (d : Call) (es : List Event) (t : Walk) (a : Reply) (u : Walk) (ys : List Event) → i < length calls
    → Partly n src s (take i calls) es t → Answers n src t (get_or calls i d) a u → ys ≡ es ++ record { asked = get_or calls i d; gave = a } ∷ [] → Partly n src s (take (i + 1) calls) ys u
partly_more n src s calls i d es t a u ys l R A p =
    let e : Event = record { asked = get_or calls i d; gave = a } in
    subst (λ (zs : List Event). Partly n src s (take (i + 1) calls) zs u) (sym p) (record {
      asked = map_push (λ (x : Event). x.asked) es e ∙ (ap (λ (zs : List Call). zs ++ get_or calls i d ∷ []) R.asked ∙ sym (take_more calls i d l));
      plays = plays_more (does n src) s es t e u R.plays A.step;
    })

pub partly_none : (n : Algorithm) (src : Source) (s : Walk) (es : List Event) → es ≡ [] → Partly n src s [] es s
partly_none n src s es p = subst (λ (zs : List Event). Partly n src s [] zs s) (sym p) (record { asked = refl; plays = refl })

-- the walk and the calls fix the events
one : (n : Algorithm) (src : Source) (s : Walk) (es fs : List Event) (t u : Walk) → Plays (does n src) s es t → asked_of fs ≡ asked_of es → Plays (does n src) s fs u → (fs ≡ es) × (u ≡ t)
one n src s [] [] t u p a q = (refl, q ∙ sym p)
one n src s [] (f ∷ fs) t u p a q = cc
one n src s (e ∷ es) [] t u p a q = cc
one n src s (e ∷ es) (f ∷ fs) t u (v, d, p) a (w, b, q) =
    let here : f.asked ≡ e.asked = cc in
    let rest : asked_of fs ≡ asked_of es = cc in
    let z = every_call_fixed n src s e.asked e.gave f.gave v w d (subst (λ (c : Call). Called (does n src) s c f.gave w) here b) in
    let r = one n src v es fs t u p rest (subst (λ (x : Walk). Plays (does n src) x fs u) z.1 q) in
    (λ i. record { asked = here i; gave = z.0 i } ∷ r.0 i, r.1)

pub plays_past : (n : Algorithm) (src : Source) (h : List Event) (s : Walk) (es : List Event) (t : Walk) → Past n src h s → Plays (does n src) s es t → Past n src (back h es) t
plays_past n src h s [] t p q = subst (Past n src h) (sym q) p
plays_past n src h s (e ∷ es) t p (u, d, r) = plays_past n src (e ∷ h) u es t (called_past (does n src) s u e.asked e.gave h d p) r

pub recorded_all : (n : Algorithm) (src : Source) (s : Walk) (calls : List Call) (i : ℕ) (es : List Event) (t : Walk) → length calls ≤ i → Partly n src s (take i calls) es t → Recorded n src s calls es t
recorded_all n src s calls i es t l R =
    let a : asked_of es ≡ calls = R.asked ∙ take_all i calls l in
    record {
      asked = a;
      plays = R.plays;
      only = λ fs u b q. one n src s es fs t u R.plays (b ∙ sym a) q;
      past = λ h p. plays_past n src h s es t p R.plays;
      lawful = λ h p. every_past_lawful n src (back h es) t (plays_past n src h s es t p R.plays);
    }
