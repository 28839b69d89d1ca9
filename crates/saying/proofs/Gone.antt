-- The whole records of some bytes, one event after the other. Assumes nothing.
use Rattle.std.proofs.Common.{◌≡◌, ℕ, ◌+◌, ◌-◌, ◌*◌, ◌/◌, ◌%◌, ◌^◌, ◌<◌, ◌≤◌, Bool, true, false, leb, ◌⊎◌, List, [], ◌∷◌, ◌++◌, length, take, drop, sym, refl, ap, ◌∙◌, inl, inr, add-one, arith}
use Rattle.plan.specs.Limits.{record_bytes}
use Rattle.links.specs.declared.Links.{Links}
use Rattle.board.specs.Streams.{events_in}
use Rattle.printed.proofs.Records.{length_events, events_more}
use Rattle.saying.specs.Makes.{Made, most_made, EventPut, EventsMade, none, more, EventsPut}
use Rattle.saying.specs.declared.putting.Said.{Said}
use Rattle.saying.proofs.Making.{made_none, made_more}

-- the bytes of record i
pub part_is : (i : ℕ) (bytes : List ℕ) → take (record_bytes * i + record_bytes - record_bytes * i) (drop (record_bytes * i) bytes) ≡ take record_bytes (drop (record_bytes * i) bytes)
part_is i bytes = let e : record_bytes * i + record_bytes - record_bytes * i ≡ record_bytes = omega arith in ap (λ (n : ℕ). take n (drop (record_bytes * i) bytes)) e

pub record Gone (full : Bool) (l : Links) (ponds rows into out ends kept₀ bytes : List ℕ) (k : ℕ) (lines₀ : List ℕ) (at n : ℕ) (kept lines : List ℕ) (next end i : ℕ) : Type 0 where
  pub many : n ≡ length bytes / record_bytes
  pub small : length bytes < 2 ^ 63
  pub upto : i ≤ n
  pub number : next ≡ (k + i) % 2 ^ 64
  pub text : List ℕ
  pub made : Made lines₀ at text lines end
  pub events : EventsMade full l ponds rows into out ends kept₀ k (events_in i bytes) kept text

module _ (full : Bool) (l : Links) (ponds rows into out ends kept₀ bytes : List ℕ) (k : ℕ) (lines₀ : List ℕ) (at n : ℕ) where
  pub gone_none : n ≡ length bytes / record_bytes → length bytes < 2 ^ 63 → k < 2 ^ 64 → Gone full l ponds rows into out ends kept₀ bytes k lines₀ at n kept₀ lines₀ k at 0
  unfolding events_in
  gone_none e h f = record { many = e; small = h; upto = omega arith; number = omega arith; text = []; made = made_none lines₀ at; events = none }

  pub gone_more : {kept lines : List ℕ} {next end i : ℕ} {kept' lines' s : List ℕ} {next' end' : ℕ} → Gone full l ponds rows into out ends kept₀ bytes k lines₀ at n kept lines next end i → i < n
      → s ≡ take record_bytes (drop (record_bytes * i) bytes) → EventPut full l ponds rows into out ends kept next s lines end kept' lines' end' → next' ≡ (next + 1) % 2 ^ 64
      → Gone full l ponds rows into out ends kept₀ bytes k lines₀ at n kept' lines' next' end' (i + 1)
  gone_more {kept} {lines} {next} {end} {i} {kept'} {lines'} {s} {next'} {end'} g h e p f =
      let q : next ≡ (k + length (events_in i bytes)) % 2 ^ 64 = rw (length_events i bytes) g.number in
      let r : events_in (i + 1) bytes ≡ events_in i bytes ++ (s ∷ []) = ap (λ (x : ℕ). events_in x bytes) (add-one i) ∙ events_more i bytes ∙ ap (λ (x : List ℕ). events_in i bytes ++ (x ∷ [])) (sym e) in
      record {
        many = g.many;
        small = g.small;
        upto = omega arith;
        number = omega (arith, g.number);
        text = g.text ++ p.text;
        made = made_more g.made p.made;
        events = rw r (more g.events (rw q at p.event));
      }

  pub gone_all : {kept lines : List ℕ} {next end i u : ℕ} → Gone full l ponds rows into out ends kept₀ bytes k lines₀ at n kept lines next end i → u ≡ record_bytes * i
      → (n ≤ i) ⊎ (length lines < end + most_made) → EventsPut full l ponds rows into out ends kept₀ bytes k lines₀ at kept lines (record { used = u; end = end; events = next })
  gone_all {kept} {lines} {next} {end} {i} g e stop =
      record {
        count = i;
        text = g.text;
        used = e;
        within = omega (arith, g.many, g.upto);
        number = g.number;
        events = g.events;
        made = g.made;
        stops = go stop;
      }
    where
      go : (n ≤ i) ⊎ (length lines < end + most_made) → (i ≡ length bytes / record_bytes) ⊎ (length lines₀ < end + most_made)
      go (inl h) = inl (omega (arith, g.many, g.upto))
      go (inr h) = inr (omega (arith, g.made.long))
