-- What a record that is not refused has passed: each rule of 4 to 11 and 15 is kept. Assumes nothing.
use mathlib.Core.Path.{◌≡◌, refl}
use mathlib.Core.Bool.{Bool, true, false, not}
use Prim.Native.Nat.{ℕ, suc}
use native.Mathlib.Omega.{arith}
use Rattle.std.specs.Prelude.{if◌then◌else◌}
use Rattle.records.specs.Records.{Kind}
use Rattle.rules.specs.OneRecord.{Before, is_known, in_order, room_for, zeros, named, apart, single, joined, bounded, number_for, number_for_with}
use Rattle.records.specs.declared.Record.{Record}

pub record Passed (k : Kind) (b : Before) (r : Record) (z : ℕ) : Type 0 where
  pub known : is_known k ≡ true
  pub order : in_order b r ≡ true
  pub room : room_for b k ≡ true
  pub nought : zeros k r z ≡ true
  pub names : named b k r ≡ true
  pub differ : apart k r ≡ true
  pub single : single b k r ≡ true
  pub joins : joined b k r ≡ true
  pub bounds : bounded b k r ≡ true

-- a rule with its number, and the rules after it: the answer is 0 only where the rule is kept
step : (kept : Bool) (n x : ℕ) → (if not kept then suc n else x) ≡ 0 → (kept ≡ true) × (x ≡ 0)
step true n x e = (refl, e)
step false n x e = absurd (omega arith)

pub passed : (k : Kind) (b : Before) (r : Record) (z : ℕ) → number_for k b r z ≡ 0 → Passed k b r z
unfolding number_for_with
passed k b r z e =
    let s4 = step (is_known k) 3 _ e in
    let s5 = step (in_order b r) 4 _ s4.1 in
    let s6 = step (room_for b k) 5 _ s5.1 in
    let s7 = step (zeros k r z) 6 _ s6.1 in
    let s8 = step (named b k r) 7 _ s7.1 in
    let s9 = step (apart k r) 8 _ s8.1 in
    let s15 = step (single b k r) 14 _ s9.1 in
    let s10 = step (joined b k r) 9 _ s15.1 in
    let s11 = step (bounded b k r) 10 _ s10.1 in
    record {
      known = s4.0;
      order = s5.0;
      room = s6.0;
      nought = s7.0;
      names = s8.0;
      differ = s9.0;
      single = s15.0;
      joins = s10.0;
      bounds = s11.0;
    }
