-- A row that a lookup found gains COMMON and waits to be marked from.
use Rattle.std.proofs.Common.{◌≡◌, ℕ, ◌+◌, ◌-◌, ◌^◌, ◌<◌, ◌≤◌, Bool, false, cond, [], ◌∷◌, length, Ok, sym, refl, ap, ◌∙◌, subst, inl, arith}
use Rattle.queue.specs.declared.entry.Entry.{Entry}
use Rattle.source.specs.declared.ObjectId.{ObjectId}
use Rattle.queue.specs.Waiting.{enter}
use Rattle.model.specs.declared.Step.{Step}
use Rattle.model.specs.Book.{Source, Walk, Marks, COMMON, join, row, flags_at, place_mark}
use Rattle.model.specs.Steps.{found, Lookup, Res}
use Rattle.model.specs.Consecutive.{commoned, waits, alone, Marking}
use Rattle.model.specs.Past.{In}
use Rattle.model.specs.Parts.{SpreadOne}
use Rattle.model.specs.Steady.{Fit, Held, Ext, common_rows}
use Rattle.model.proofs.Fits.{lookup_ext, commons_le, commons_most, held_drawn, held_alone}
use Rattle.model.proofs.Moves.{spread_gains, gains_held, gains_ext, gains_room, gains_pays}
use Rattle.walk.specs.declared.state.State.{State}
use Rattle.walk.specs.View.{view, marks, mark_numbered, mark_places}
use Rattle.walk.proofs.Keeps.{Fits, fits_le}
use Rattle.consecutive.proofs.Steps.{mark_placed}

module _ (src : Source) (g : ℕ) (i : ObjectId) (w u : State) (t : Walk) (k : ℕ) (l : Lookup src (view w) i (found k t)) (un : (flags_at t k).common ≡ false)
    (eu : view u ≡ commoned t k) (mu : marks u ≡ marks w) (nu : mark_numbered u ≡ mark_numbered w) (H : Held (view w) (marks w) (mark_numbered w) 0) where
  pub gain_space : Fits Fit u → length (marks u) < mark_places u
  gain_space F =
      let b : common_rows (view u) ≤ mark_places u = fits_le Fit u _ _ F (λ x. commons_le (view u) _ _ _ x) in
      let r = gains_room src (mark_numbered w) (marks w) (view w) t (view u) i k (mark_places u) l un eu H b in
      omega (arith, r.0, ap {B = ℕ} (λ (q : Marks). length q) mu)

  pub gain_number : Fits Fit u → mark_numbered u + 1 < 2 ^ 64
  gain_number F =
      let b : common_rows (view u) ≤ 65535 = fits_le Fit u _ _ F (λ x. commons_most (view u) _ _ _ x) in
      let r = gains_room src (mark_numbered w) (marks w) (view w) t (view u) i k 65535 l un eu H b in
      omega (arith, r.1, nu)

  module _ (v : State) (ev : view v ≡ view u) (mv : marks v ≡ place_mark (view u).rows (record { row = k; generation = g + 1 }) (marks u)) (nv : mark_numbered v ≤ mark_numbered u + 1) where
    is : view v ≡ commoned t k
    is = ev ∙ eu

    queue : marks v ≡ enter (record { date = (row t k).date; value = record { row = k; generation = g + 1 } }) (marks w)
    queue = mark_placed t k (g + 1) (marks w) (marks v) (join COMMON (flags_at t k)) t.queue (t.count - cond (waits (flags_at t k)) 1 0) (lookup_ext src (view w) i k t l).1
        (mv ∙ ap {B = Marks} (λ (x : Walk). place_mark x.rows (record { row = k; generation = g + 1 }) (marks u)) eu ∙ ap {B = Marks} (λ q. place_mark (commoned t k).rows (record { row = k; generation = g + 1 }) q) mu)

    pub gain_is : SpreadOne src g i (marks w) (view w) (Ok tt) (marks v) (view v)
    gain_is = spread_gains src g i (marks w) (marks v) (view w) t (view v) k l un is queue

    pub gain_held : g ≤ common_rows (view w) → Held (view v) (marks v) (mark_numbered v) 0
    gain_held y = gains_held src g (mark_numbered w) (mark_numbered v) i (marks w) (marks v) (view w) t (view v) k l un is queue H y (omega (arith, nv, nu))

    pub gain_ext : Ext (view w) (view v)
    gain_ext = gains_ext src (view w) t (view v) i k l is

    pub gain_pays : length (marks v) + common_rows (view w) ≤ length (marks w) + common_rows (view v)
    gain_pays = gains_pays src (marks w) (marks v) (view w) t (view v) i k (g + 1) l un is queue

-- a row drawn from the marking queue
module _ (u d : State) (e : Entry Step) (x : Step) (eq : marks u ≡ e ∷ marks d) (value : e.value ≡ x) (same : view d ≡ view u) where
  pub drawn_held : Held (view u) (marks u) (mark_numbered u) 1 → mark_numbered d ≡ mark_numbered u → (x.row < length (view d).rows) × Held (view d) (marks d) (mark_numbered d) 0 × (x.generation ≤ common_rows (view d))
  drawn_held H n =
      let there : In e (marks u) = subst (λ (q : Marks). In e q) (sym eq) (inl refl) in
      let H' : Held (view u) (marks d) (mark_numbered d) 0 = subst (λ (k : ℕ). Held (view u) (marks d) k 0) (sym n) (held_drawn (view u) e (marks d) (mark_numbered u) (subst (λ (q : Marks). Held (view u) q (mark_numbered u) 1) eq H)) in (
        subst (λ (s : Walk). x.row < length s.rows) (sym same) (subst (λ (y : Step). y.row < length (view u).rows) value (H.inside e there)),
        subst (λ (s : Walk). Held s (marks d) (mark_numbered d) 0) (sym same) H',
        subst (λ (s : Walk). x.generation ≤ common_rows s) (sym same) (subst (λ (y : Step). y.generation ≤ common_rows (view u)) value (H.young e there)),
      )

  pub undrawn : (src : Source) (all : Bool) (n : ℕ) (out : Res) → Marking src all n [] (record { date = e.date; value = x } ∷ marks d) (view d) out → Marking src all n [] (marks u) (view u) out
  undrawn src all n out m =
      subst (λ (q : Marks). Marking src all n [] q (view u) out) (sym eq)
      (subst (λ (s : Walk). Marking src all n [] (e ∷ marks d) s out) same
      (subst (λ (y : Step). Marking src all n [] (record { date = e.date; value = y } ∷ marks d) (view d) out) (sym value) m))

  pub drawn_less : length (marks u) ≡ length (marks d) + 1
  drawn_less = ap {B = ℕ} (λ (q : Marks). length q) eq ∙ omega arith

-- the row alone waits to be marked from
module _ (s t u : State) (k : ℕ) (l : k < length (view s).rows) (et : view t ≡ view s) (mt : marks t ≡ []) (nt : mark_numbered t ≡ 0) (eu : view u ≡ view t)
    (mu : marks u ≡ place_mark (view t).rows (record { row = k; generation = 0 }) (marks t)) (nu : mark_numbered u ≤ mark_numbered t + 1) where
  pub alone_is : marks u ≡ alone (view s) k
  alone_is = mu ∙ ap {B = Marks} (λ q. place_mark (view t).rows (record { row = k; generation = 0 }) q) mt ∙ ap {B = Marks} (λ (w : Walk). place_mark w.rows (record { row = k; generation = 0 }) []) et

  pub alone_same : view u ≡ view s
  alone_same = eu ∙ et

  pub alone_held : Held (view u) (marks u) (mark_numbered u) 1
  alone_held = subst (λ (w : Walk). Held w (marks u) (mark_numbered u) 1) (sym alone_same) (subst (λ (q : Marks). Held (view s) q (mark_numbered u) 1) (sym alone_is) (held_alone (view s) k (mark_numbered u) (row (view s) k).date l (omega (arith, nu, nt))))
