-- One call more of a run.
use Rattle.std.proofs.Common.{◌≡◌, ℕ, ◌+◌, ◌<◌, List, [], ◌∷◌, ◌++◌, length, get_or, take, drop, set, sym, refl, ap, ◌∙◌, subst, arith}
use Rattle.std.proofs.lemmas.List.{take_more, take_more_set, drop_more, drop-set-lt}
use Rattle.model.specs.declared.Algorithm.{Algorithm}
use Rattle.model.specs.declared.Call.{Call}
use Rattle.model.specs.declared.Event.{Event}
use Rattle.model.specs.declared.Reply.{Reply}
use Rattle.model.specs.Book.{Walk, Source}
use Rattle.model.specs.Past.{Doing, does, Called, Past}
use Rattle.model.specs.Laws.{Lawful, Answers, EveryPastLawful}
use Rattle.negotiate.specs.Runs.{Plays, onto, Played}

plays_more : (ran : Doing) (s : Walk) (cs : List Call) (rs : List Reply) (t : Walk) (c : Call) (a : Reply) (u : Walk) → Plays ran s cs rs t → Called ran t c a u → Plays ran s (cs ++ c ∷ []) (rs ++ a ∷ []) u
plays_more ran s [] [] t c a u p d = (u, subst (λ (x : Walk). Called ran x c a u) p d, refl)
plays_more ran s [] (b ∷ rs) t c a u p d = absurd p
plays_more ran s (e ∷ cs) [] t c a u p d = absurd p
plays_more ran s (e ∷ cs) (b ∷ rs) t c a u p d = (p.0, p.1, plays_more ran p.0 cs rs t c a u p.2 d)

-- a run's last call, taken off
pub record Last (ran : Doing) (s : Walk) (cs : List Call) (c : Call) (bs : List Reply) (u : Walk) : Type 0 where
  pub front : List Reply
  pub end : Reply
  pub before : Walk
  pub whole : bs ≡ front ++ end ∷ []
  pub runs : Plays ran s cs front before
  pub called : Called ran before c end u

plays_less : (ran : Doing) (s : Walk) (cs : List Call) (c : Call) (bs : List Reply) (u : Walk) → Plays ran s (cs ++ c ∷ []) bs u → Last ran s cs c bs u
plays_less ran s [] c [] u p = absurd p
plays_less ran s [] c (b ∷ []) u p = record { front = []; end = b; before = s; whole = refl; runs = refl; called = subst (λ (x : Walk). Called ran s c b x) (sym p.2) p.1 }
plays_less ran s [] c (b ∷ a ∷ bs) u p = absurd p.2
plays_less ran s (e ∷ cs) c [] u p = absurd p
plays_less ran s (e ∷ cs) c (b ∷ bs) u p =
    let w = plays_less ran p.0 cs c bs u p.2 in
    record { front = b ∷ w.front; end = w.end; before = w.before; whole = ap {B = List Reply} (λ xs. b ∷ xs) w.whole; runs = (p.0, p.1, w.runs); called = w.called }

onto_more : (ran : Doing) (h : List Event) (s : Walk) (cs : List Call) (rs : List Reply) (t : Walk) (c : Call) (a : Reply) → Plays ran s cs rs t → onto h (cs ++ c ∷ []) (rs ++ a ∷ []) ≡ record { asked = c; gave = a } ∷ onto h cs rs
onto_more ran h s [] [] t c a p = refl
onto_more ran h s [] (b ∷ rs) t c a p = absurd p
onto_more ran h s (e ∷ cs) [] t c a p = absurd p
onto_more ran h s (e ∷ cs) (b ∷ rs) t c a p = onto_more ran (record { asked = e; gave = b } ∷ h) p.0 cs rs t c a p.2

pub played_more : (n : Algorithm) (src : Source) (s : Walk) (cs : List Call) (rs : List Reply) (t : Walk) (c : Call) (a : Reply) (u : Walk) → Played n src s cs rs t → Answers n src t c a u → Played n src s (cs ++ c ∷ []) (rs ++ a ∷ []) u
played_more n src s cs rs t c a u P A = record {
  steps = plays_more (does n src) s cs rs t c a u P.steps A.step;
  only = λ bs v p. single bs v (plays_less (does n src) s cs c bs v p);
  past = λ h p. subst (λ (x : List Event). Past n src x u) (sym (onto_more (does n src) h s cs rs t c a P.steps)) (A.past (onto h cs rs) (P.past h p));
  lawful = λ h p. subst (λ (x : List Event). Lawful n src x u) (sym (onto_more (does n src) h s cs rs t c a P.steps)) (A.lawful (onto h cs rs) (P.past h p));
}
  where
    single : (bs : List Reply) (v : Walk) → Last (does n src) s cs c bs v → (bs ≡ rs ++ a ∷ []) × (v ≡ u)
    single bs v w =
        let e = P.only w.front w.before w.runs in
        let o = A.only w.end v (subst (λ (x : Walk). Called (does n src) x c w.end v) e.1 w.called) in
        (w.whole ∙ ap {B = List Reply} (λ xs. xs ++ w.end ∷ []) e.0 ∙ ap {B = List Reply} (λ x. rs ++ x ∷ []) o.0, o.1)

-- before the first call
pub played_none : EveryPastLawful → (n : Algorithm) (src : Source) (s : Walk) → Played n src s [] [] s
played_none every n src s = record { steps = refl; only = single; past = λ h p. p; lawful = λ h p. every n src h s p }
  where
    single : (bs : List Reply) (u : Walk) → Plays (does n src) s [] bs u → (bs ≡ []) × (u ≡ s)
    single [] u p = (refl, p)
    single (b ∷ bs) u p = absurd p

-- the call at i
pub played_next : (n : Algorithm) (src : Source) (s : Walk) (calls : List Call) (replies : List Reply) (i : ℕ) (t : Walk) (d : Call) (a : Reply) (u : Walk) → i < length calls → i < length replies
    → Played n src s (take i calls) (take i replies) t → Answers n src t (get_or calls i d) a u → Played n src s (take (i + 1) calls) (take (i + 1) (set replies i a)) u
played_next n src s calls replies i t d a u lc lr P A =
    subst (λ (cs : List Call). Played n src s cs (take (i + 1) (set replies i a)) u) (sym (take_more calls i d lc))
    (subst (λ (rs : List Reply). Played n src s (take i calls ++ get_or calls i d ∷ []) rs u) (sym (take_more_set replies i a lr))
    (played_more n src s (take i calls) (take i replies) t (get_or calls i d) a u P A))

-- the places behind it stay
pub rest_next : {X : Type 0} (xs ys : List X) (i : ℕ) (a : X) → i < length xs → length xs ≡ length ys → drop i xs ≡ drop i ys → drop (i + 1) (set xs i a) ≡ drop (i + 1) ys
rest_next {X} xs ys i a l e h = drop-set-lt (i + 1) xs i a (omega arith) ∙ ap {B = List X} tl (sym (drop_more xs i a l) ∙ h ∙ drop_more ys i a (omega (arith, l, e)))
  where
    tl : List X → List X
    tl [] = []
    tl (z ∷ zs) = zs
