-- The reply from the windows: the list of an offer, and the first outcome that fits. Assumes nothing.
use mathlib.Core.Path.{◌≡◌, refl, sym, ap, ◌∙◌}
use mathlib.Core.Bool.{Bool, true, false, not}
use mathlib.Core.List.{List, map}
use Prim.Native.Nat.{ℕ, zero, suc, ◌+◌, ◌-◌, ◌≤◌, ◌<◌, min}
use native.Mathlib.Omega.{arith}
use native.Mathlib.Decide.{ℕ_discrete}
use borrow.Author.Tests.{ne_eqb}
use lib.Dec.{ltb}
use lib.ListN.{length, get_or, set, replicate, length-set, length-map, length-replicate}
use lib.Seq.{get_or-set_same, get_or-set_other, ext_get_or}
use Rattle.points.specs.Sets.{from}
use Rattle.std.specs.Prelude.{if◌then◌else◌}
use Rattle.plan.specs.Limits.{most_points, farthest}
use Rattle.plan.specs.APlan.{watched, records_of}
use Rattle.plan.specs.ReplyNumbers.{check_of}
use Rattle.records.specs.declared.Record.{Record}
use Rattle.plan.specs.declared.Plan.{Plan}
use Rattle.plan.specs.declared.Refusal.{Refusal}
use Rattle.board.specs.Boards.{sound, is_done, minute}
use Rattle.board.specs.Windows.{is_open, holder, low, some_open}
use Rattle.board.specs.Stuck.{finished, stuck, latest}
use Rattle.links.specs.Inside.{LinksOf}
use Rattle.board.specs.InsideReplies.{Ready, WindowsOf}
use Rattle.board.specs.declared.Board.{Board}
use Rattle.links.specs.declared.Links.{Links}
use Rattle.windows.specs.declared.Windows.{Windows}
use Rattle.replies.specs.Replies.{outcome_of, state_of, shut, bare, offer, withheld, standing, sound_reply, reply_of}
use Rattle.replies.specs.Inside.{state_from, place_from, list_from}
use Rattle.replies.specs.declared.Place.{Place}
use Rattle.replies.specs.declared.State.{State}
use Rattle.replies.specs.declared.State.TheVariants.{Done, Watched, Shut, Held, Offered}
use Rattle.replies.specs.declared.Outcome.{Outcome}
use Rattle.replies.specs.declared.Outcome.TheVariants.{Refused, Finished, Stuck, Waiting, Offers}

-- ---- the list of an offer

-- the first p places are those of f
pub record Listed (f : ℕ → Place) (p : ℕ) (places : List Place) : Type 0 where
  pub long : length places ≡ most_points
  pub here : (q : ℕ) → q < p → get_or places q shut ≡ f q

pub listed_start : (f : ℕ → Place) → Listed f 0 (replicate most_points shut)
listed_start f = record { long = length-replicate most_points shut; here = λ q h. absurd (omega arith) }

pub listed_turn : (f : ℕ → Place) (p : ℕ) (places : List Place) → Listed f p places → p < most_points → (v : Place) → v ≡ f p → Listed f (p + 1) (set places p v)
listed_turn f p places l h v e = record { long = simp length-set l.long; here = λ q k. go q k (ℕ_discrete q p) }
  where
    go : (q : ℕ) → q < p + 1 → Dec (q ≡ p) → get_or (set places p v) q shut ≡ f q
    go q k (yes x) = rw (x, get_or-set_same places p v shut (omega (arith, l.long))) e
    go q k (no n) = rw (get_or-set_other places p q v shut n) (l.here q (omega arith))

from_long : (n p : ℕ) → length (from p n) ≡ n
unfolding from
from_long zero p = refl
from_long (suc n) p = ap suc (from_long n (suc p))

pub map_at : (f : ℕ → Place) (n p i : ℕ) → i < n → get_or (map f (from p n)) i shut ≡ f (p + i)
unfolding from
map_at f zero p i h = absurd (omega arith)
map_at f (suc n) p zero h = let e : p + 0 ≡ p = omega arith in rw e
map_at f (suc n) p (suc i) h = let e : p + suc i ≡ suc p + i = omega arith in rw e (map_at f n (suc p) i (omega arith))

pub listed_end : (f : ℕ → Place) (p : ℕ) (places : List Place) → Listed f p places → most_points ≤ p → places ≡ map f (from 0 most_points)
listed_end f p places l h =
    ext_get_or shut places (map f (from 0 most_points)) (l.long ∙ sym (length-map (from 0 most_points) f ∙ from_long most_points 0))
    (λ i k. l.here i (omega (arith, l.long)) ∙ sym (at i (omega (arith, l.long))))
  where
    at : (i : ℕ) → i < most_points → get_or (map f (from 0 most_points)) i shut ≡ f i
    at i k = let z : 0 + i ≡ i = omega arith in rw z at (map_at f most_points 0 i k)

map_same : (f g : ℕ → Place) (n p : ℕ) → ((q : ℕ) → q < p + n → f q ≡ g q) → map f (from p n) ≡ map g (from p n)
unfolding from
map_same f g zero p h = refl
map_same f g (suc n) p h = rw (h p (omega arith), map_same f g n (suc p) (λ q k. h q (omega arith)))

-- ---- the outcomes

module _ (rs : List Record) (b : Board) where
  module _ (l : Links) (links : LinksOf rs l) (w : Windows) (have : WindowsOf rs b w) where
    pub offer_here : (m : ℕ) → m ≡ min w.high (b.clock + farthest + farthest) - farthest → list_from Offers b l.watched w true m ≡ offer rs b
    unfolding state_from state_of
    offer_here m e =
        let late : m ≡ latest rs b = rw have.high at e in
        rw (late, map_same (place_from b l.watched w true (latest rs b)) (λ (q : ℕ). record { state = state_of rs b q }) most_points 0 place)
      where
        place : (q : ℕ) → q < most_points → place_from b l.watched w true (latest rs b) q ≡ record { state = state_of rs b q }
        place q h = rw (links.watches q h, have.opens q h, have.holders q h, have.lows q h)

    pub standing_here : (o : Outcome) → list_from o b l.watched w false 0 ≡ standing o rs b
    unfolding state_from state_of
    standing_here o = rw (map_same (place_from b l.watched w false 0) (λ (q : ℕ). record { state = withheld (state_of rs b q) }) most_points 0 place)
      where
        read : (d c o late : Bool) (m i low : ℕ)
            → (if d then Done m else (if c then Watched else (if not o then Shut i else Held)))
            ≡ withheld (if d then Done m else (if c then Watched else (if not o then Shut i else (if late then Held else Offered low))))
        read true c o late m i low = refl
        read false true o late m i low = refl
        read false false false late m i low = refl
        read false false true true m i low = refl
        read false false true false m i low = refl

        place : (q : ℕ) → q < most_points → place_from b l.watched w false 0 q ≡ record { state = withheld (state_of rs b q) }
        place q h =
            rw (links.watches q h, have.opens q h, have.holders q h)
            (ap (λ (s : State). record { state = s }) (read (is_done b q) (watched rs q) (is_open rs b q) (ltb (latest rs b) (low rs b q)) (minute b q) (holder rs b q) (low rs b q)))

  pub reply_finished : finished rs b ≡ true → bare Finished ≡ sound_reply rs b
  unfolding outcome_of
  reply_finished f = rw f

  pub reply_stuck : finished rs b ≡ false → stuck rs b ≡ true → standing Stuck rs b ≡ sound_reply rs b
  unfolding outcome_of
  reply_stuck f s = rw (f, s)

  pub reply_waiting : finished rs b ≡ false → stuck rs b ≡ false → some_open rs b ≡ false → standing Waiting rs b ≡ sound_reply rs b
  unfolding outcome_of
  reply_waiting f s o = rw (f, s, o)

  pub reply_offers : finished rs b ≡ false → stuck rs b ≡ false → some_open rs b ≡ true → offer rs b ≡ sound_reply rs b
  unfolding outcome_of
  reply_offers f s o = rw (f, s, o)

-- ---- any plan and any board

module _ (p : Plan) (b : Board) (found : Refusal) (e : found ≡ check_of p) where
  pub reply_refused : (found.number ≡ 0 → ⊥) → bare (Refused found.number found.place) ≡ reply_of p b
  unfolding reply_of
  reply_refused n = rw (← e, ne_eqb found.number 0 n)

  pub is_accepted : found.number ≡ 0 → (check_of p).number ≡ 0
  is_accepted z = rw e at z

  pub reply_unsound : found.number ≡ 0 → sound (records_of p) b ≡ false → bare (Refused 20 0) ≡ reply_of p b
  unfolding reply_of
  reply_unsound z s = rw (is_accepted z, s)

pub reply_ready : (p : Plan) (b : Board) (l : Links) → Ready p b l → sound_reply (records_of p) b ≡ reply_of p b
unfolding reply_of
reply_ready p b l r = rw (r.accepted, r.sound)
