-- The code's small steps put together to the rules' steps.
use Rattle.std.proofs.Common.{◌≡◌, ℕ, ◌+◌, ◌-◌, ◌<◌, Bool, true, false, cond, List, length, get_or, ℤ, sym, ap, ◌∙◌, inl, inr}
use lib.Bits.{bit_or}
use Rattle.source.specs.declared.ObjectId.{ObjectId}
use Rattle.book.specs.Rows.{no_id}
use Rattle.model.specs.Steady.{Ext}
use Rattle.std.proofs.lemmas.Bool.{cond-true, cond-false}
use Rattle.queue.specs.Waiting.{enter}
use Rattle.book.specs.Bits.{has}
use Rattle.model.specs.Book.{Waits, Marks, Flags, COMMON, join, meets, Walk, row, flags_at, change, drawn, recount, place, place_mark}
use Rattle.model.specs.Consecutive.{entered, waits, commoned}
use Rattle.model.specs.View.{unpack, Admits}
use Rattle.model.proofs.Good.{date_kept}
use Rattle.walk.specs.View.{is_mask}
use Rattle.walk.proofs.Views.{mask_law}

pub admits_mask : (mask : ℕ) (g : Flags) → Admits mask g → is_mask mask ≡ true
admits_mask mask g (inl e) = ap is_mask e
admits_mask mask g (inr (inl e, u)) = ap is_mask e
admits_mask mask g (inr (inr e, u)) = ap is_mask e

-- whether a byte has a bit of a mask
pub meets_is : (mask f : ℕ) (g : Flags) (b : Bool) → is_mask mask ≡ true → unpack f ≡ g → b ≡ has f mask → meets (unpack mask) g ≡ b
meets_is mask f g b h e t = ap (meets (unpack mask)) (sym e) ∙ sym (mask_law mask h f).1 ∙ sym t

-- a push at a row that had a bit of the mask
pub admitted_no : (s t : Walk) (k mask f : ℕ) → Admits mask (flags_at s k) → unpack f ≡ flags_at s k → true ≡ has f mask → t ≡ change s k (join (unpack mask) (flags_at s k)) s.queue s.count → t ≡ entered (unpack mask) s k
admitted_no s t k mask f ad e h is = is ∙ sym (cond-true _ _ _ (meets_is mask f (flags_at s k) true (admits_mask mask (flags_at s k) ad) e h))

-- and at one that had none
pub admitted_yes : (s t u v : Walk) (k mask f n : ℕ) → k < length s.rows → Admits mask (flags_at s k) → unpack f ≡ flags_at s k → false ≡ has f mask
    → t ≡ change s k (join (unpack mask) (flags_at s k)) s.queue s.count → u ≡ drawn t (place t.rows k t.queue) → v ≡ recount u (u.count + n) → n ≡ cond (unpack (bit_or f mask)).common 0 1
    → v ≡ entered (unpack mask) s k
admitted_yes s t u v k mask f n l ad e h et eu ev en =
    let J = join (unpack mask) (flags_at s k) in
    let ok = admits_mask mask (flags_at s k) ad in
    ev ∙ ap (λ (x : Walk). recount x (x.count + n)) eu ∙ ap (λ (x : Walk). recount (drawn x (place x.rows k x.queue)) (x.count + n)) et
    ∙ ap (λ (d : ℤ). change s k J (enter (record { date = d; value = k }) s.queue) (s.count + n)) (date_kept s k J s.queue s.count l)
    ∙ ap (λ (m : ℕ). change s k J (place s.rows k s.queue) (s.count + m)) (en ∙ ap (λ (g : Flags). cond g.common 0 1) ((mask_law mask ok f).0 ∙ ap (join (unpack mask)) e))
    ∙ sym (cond-false _ _ _ (meets_is mask f (flags_at s k) false ok e h))

-- COMMON set, and the count lowered
pub commoned_is : (s t u : Walk) (k f n : ℕ) → unpack f ≡ flags_at s k → t ≡ change s k (join COMMON (flags_at s k)) s.queue s.count → u ≡ recount t (t.count - n) → n ≡ cond (waits (unpack f)) 1 0 → u ≡ commoned s k
commoned_is s t u k f n e et eu en =
    eu ∙ ap (λ (x : Walk). recount x (x.count - n)) et ∙ ap (λ (m : ℕ). change s k (join COMMON (flags_at s k)) s.queue (s.count - m)) (en ∙ ap (λ (g : Flags). cond (waits g) 1 0) e)

-- the marking queue takes a row whose flags just changed
pub mark_placed : (s : Walk) (k g : ℕ) (q p : Marks) (f : Flags) (w : Waits) (c : ℕ) → k < length s.rows → p ≡ place_mark (change s k f w c).rows (record { row = k; generation = g }) q → p ≡ enter (record { date = (row s k).date; value = record { row = k; generation = g } }) q
mark_placed s k g q p f w c l e = e ∙ ap {B = Marks} (λ d. enter (record { date = d; value = record { row = k; generation = g } }) q) (date_kept s k f w c l)

-- a row's parent, now and then
pub parent_then : (s t : Walk) (k n : ℕ) (p : ObjectId) → Ext s t → k < length s.rows → p ≡ get_or (row t k).parents n no_id → p ≡ get_or (row s k).parents n no_id
parent_then s t k n p x l e = e ∙ ap (λ (ps : List ObjectId). get_or ps n no_id) (x.same_parents k l)
