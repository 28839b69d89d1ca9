-- A turn of the machine, from what the functions that are called answer. Assumes nothing.
use mathlib.Core.Path.{◌≡◌, refl, sym, ap, ◌∙◌}
use mathlib.Core.Bool.{Bool, true, false}
use mathlib.Core.List.{List}
use Prim.Native.Nat.{ℕ, zero, suc, ◌+◌, ◌%◌, ◌^◌, ◌≤◌}
use native.Mathlib.Omega.{arith}
use lib.ListN.{length}
use Rattle.history.proofs.Tests.{clash}
use Rattle.plan.specs.ReplyNumbers.{Reading, plan_in}
use Rattle.stream.specs.Buffers.{appended}
use Rattle.stream.specs.Sheets.{read_front}
use Rattle.saying.specs.Makes.{EventsPut}
use Rattle.saying.specs.declared.putting.Said.{Said}
use Rattle.feeding.specs.Parts.{PlanKept, PlanBegun, ReadBegun, LastPut}
use Rattle.feeding.specs.Ending.{PartKept, OverPut}
use Rattle.feeding.proofs.Starting.{last_of}
use Rattle.feeding.specs.declared.front.Part.{Part}
use Rattle.feeding.specs.declared.begun.Begun.{Begun}
use Rattle.machine.specs.Feeds.{at_first, Feeds, plan_on, plan_read, events, refused, Finishes, rest_refused, rest_read, events_over_lem, refused_over, Turned}
use Rattle.machine.specs.declared.Stage.{Stage}

-- no more of a piece is used than there is
kept_within : {front₀ : List ℕ} {n : ℕ} (input : List ℕ) {front : List ℕ} (r : Part) → PlanKept front₀ n input front r → r.used ≤ length input
kept_within input r k = go r.marked refl
  where
    go : (t : Bool) → r.marked ≡ t → r.used ≤ length input
    go true e = let q = k.marked e in omega (arith, q.0, q.2)
    go false e = let q = k.all e in omega (arith, q.1, k.within)

pub feeds_within : {full : Bool} {s : Stage} {front₀ rows₀ into₀ out₀ ends₀ kept₀ : List ℕ} (input : List ℕ) {lines₀ front rows into out ends kept lines : List ℕ} {r : Stage}
    → Feeds full s front₀ rows₀ into₀ out₀ ends₀ kept₀ input lines₀ front rows into out ends kept lines r → r.used ≤ length input
feeds_within input (plan_on {part = part} o k m) = kept_within input part k
feeds_within input (plan_read {part = part} o k m g) = kept_within input part k
feeds_within input (events o z e) = omega (arith, e.used, e.within)
feeds_within input (refused o z) = omega arith

pub turned_within : {full over : Bool} {s : Stage} {front₀ rows₀ into₀ out₀ ends₀ kept₀ : List ℕ} (piece : List ℕ) {lines₀ front rows into out ends kept lines : List ℕ} {r : Stage}
    → Turned full over s front₀ rows₀ into₀ out₀ ends₀ kept₀ piece lines₀ front rows into out ends kept lines r → r.used ≤ length piece
turned_within {over = over} piece {r = r} t = go over refl
  where
    go : (v : Bool) → over ≡ v → r.used ≤ length piece
    go true e = omega (arith, t.used e)
    go false e = feeds_within piece (t.on e)

-- a turn in the plan part
module _ (full over : Bool) (s : Stage) (front₀ rows₀ into₀ out₀ ends₀ kept₀ piece lines₀ : List ℕ) (o : s.begun ≡ false) (front : List ℕ) (part : Part)
    (k : PartKept over front₀ s.part piece front part) where
  pub turned_on : part.marked ≡ false
      → Turned full over s front₀ rows₀ into₀ out₀ ends₀ kept₀ piece lines₀ front rows₀ into₀ out₀ ends₀ kept₀ lines₀
      (record { begun = false; number = s.number; part = part.length; events = s.events; links = s.links; ponds = s.ponds; used = part.used; end = 0 })
  turned_on m = record { on = λ e. plan_on o (k.on e) m; last = λ e. clash (sym (k.last e).3 ∙ m); used = λ e. (k.last e).2 }

  module _ (m : part.marked ≡ true) (reading : Reading) (e : reading ≡ read_front part.length front) {rows into out ends kept lines₁ : List ℕ} {b : Begun}
      (g : ReadBegun full reading rows₀ into₀ out₀ ends₀ kept₀ lines₀ rows into out ends kept lines₁ b) {lines : List ℕ} {end : ℕ}
      (p : OverPut over b.number (plan_in reading) kept 0 lines₁ b.end lines end) where
    read_on : over ≡ false
        → Feeds full s front₀ rows₀ into₀ out₀ ends₀ kept₀ piece lines₀ front rows into out ends kept lines
        (record { begun = true; number = b.number; part = part.length; events = 0; links = b.links; ponds = b.ponds; used = part.used; end = end })
    read_on h = rw ((p.on h).0, (p.on h).1) (plan_read o (k.on h) m (g.plan part.length front e))

    read_over : over ≡ true → Finishes full s front₀ rows₀ into₀ out₀ ends₀ kept₀ piece lines₀ lines end
    read_over h = go b.number refl
      where
        all : PlanBegun full ((s.part + length piece) % 2 ^ 64) (appended front₀ s.part piece) rows₀ into₀ out₀ ends₀ kept₀ lines₀ rows into out ends kept lines₁ b
        all = rw ((k.last h).0, (k.last h).1) at (g.plan part.length front e)

        go : (n : ℕ) → b.number ≡ n → Finishes full s front₀ rows₀ into₀ out₀ ends₀ kept₀ piece lines₀ lines end
        go zero z = rest_read o all z (rw ((k.last h).0, (k.last h).1) at (last_of part.length front reading e (p.last h z)))
        go (suc n) z =
            let bad : b.number ≡ 0 → ⊥ = λ q. omega (arith, z, q) in
            rw ((p.refused bad).0, (p.refused bad).1) (rest_refused o all bad)

    pub turned_read : Turned full over s front₀ rows₀ into₀ out₀ ends₀ kept₀ piece lines₀ front rows into out ends kept lines
        (record { begun = true; number = b.number; part = part.length; events = 0; links = b.links; ponds = b.ponds; used = part.used; end = end })
    turned_read = record { on = read_on; last = read_over; used = λ h. (k.last h).2 }

-- a turn behind the plan part
module _ (full over : Bool) (s : Stage) (front rows into out ends kept₀ piece lines₀ : List ℕ) (o : s.begun ≡ true) where
  pub turned_refused : (s.number ≡ 0 → ⊥) → (r : Stage)
      → r ≡ record { begun = true; number = s.number; part = s.part; events = s.events; links = s.links; ponds = s.ponds; used = length piece; end = 0 }
      → Turned full over s front rows into out ends kept₀ piece lines₀ front rows into out ends kept₀ lines₀ r
  turned_refused z r e = rw e (record { on = λ h. refused o z; last = λ h. refused_over o z; used = λ h. refl })

  pub turned_over : over ≡ true → s.number ≡ 0 → (again : Reading) → again ≡ read_front s.part front → {lines : List ℕ} {end : ℕ}
      → OverPut over s.number (plan_in again) kept₀ (length piece) lines₀ 0 lines end → (r : Stage)
      → r ≡ record { begun = true; number = s.number; part = s.part; events = s.events; links = s.links; ponds = s.ponds; used = length piece; end = end }
      → Turned full over s front rows into out ends kept₀ piece lines₀ front rows into out ends kept₀ lines r
  turned_over h z again q p r e =
      rw e (record { on = λ f. clash (sym h ∙ f); last = λ f. events_over_lem o z (last_of s.part front again q (p.last h z)); used = λ f. refl })

  pub turned_events : over ≡ false → s.number ≡ 0 → {kept lines : List ℕ} {said : Said}
      → EventsPut full s.links s.ponds rows into out ends kept₀ piece s.events lines₀ 0 kept lines said → (r : Stage)
      → r ≡ record { begun = true; number = s.number; part = s.part; events = said.events; links = s.links; ponds = s.ponds; used = said.used; end = said.end }
      → Turned full over s front rows into out ends kept₀ piece lines₀ front rows into out ends kept lines r
  turned_events f z {said = said} x r e =
      let here : (n : ℕ) → Stage = λ n. record { begun = true; number = n; part = s.part; events = said.events; links = s.links; ponds = s.ponds; used = said.used; end = said.end } in
      rw (e ∙ ap here z) (record { on = λ h. events o z x; last = λ h. clash (sym h ∙ f); used = λ h. clash (sym h ∙ f) })

-- before any input no plan part is over, and none of it has come
pub first_begun : (r : Stage) → r ≡ at_first → (r.begun ≡ false) × (r.part ≡ 0)
first_begun r e = (ap (λ (s : Stage). s.begun) e, ap (λ (s : Stage). s.part) e)
