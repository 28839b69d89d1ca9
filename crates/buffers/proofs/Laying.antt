-- Text after text in a buffer, and room for it. Assumes nothing.
use mathlib.Core.Path.{◌≡◌, sym, ap, ◌∙◌}
use mathlib.Core.List.{List, [], ◌∷◌, ◌++◌, append_assoc}
use Prim.Native.Nat.{ℕ, suc, ◌+◌, ◌≤◌, ◌<◌}
use native.Mathlib.Omega.{arith}
use lib.ListN.{length, take, drop, set, length-append, length-drop, take-append-drop}
use lib.Seq.{paste, length-take-le, take_at, drop_at, set_split, drop-drop, drop-cons, drop-set-add, take-set-le, take-length}
use borrow.Rule.Slice.PartMut.{put_mid}
use Rattle.buffers.specs.Inside.{laid, Room, Laid}

-- what has been put in has the length that was there
pub laid_length : (out : List ℕ) (at : ℕ) (t : List ℕ) → at + length t ≤ length out → length (laid out at t) ≡ length out
laid_length out at t h =
    let a = length-append (take at out) (t ++ drop (at + length t) out) in
    let b = length-append t (drop (at + length t) out) in
    let c = length-take-le at out (omega arith) in
    let d = length-drop (at + length t) out in
    omega arith

-- before the text, and behind it
laid_front : (out : List ℕ) (at : ℕ) (t : List ℕ) → at + length t ≤ length out → take (at + length t) (laid out at t) ≡ take at out ++ t
laid_front out at t h =
    let n : length (take at out ++ t) ≡ at + length t = length-append (take at out) t ∙ ap (λ (k : ℕ). k + length t) (length-take-le at out (omega arith)) in
    rw (← append_assoc (take at out) t (drop (at + length t) out)) (take_at (take at out ++ t) (drop (at + length t) out) (at + length t) n)

laid_behind : (out : List ℕ) (at : ℕ) (t : List ℕ) → at + length t ≤ length out → drop (at + length t) (laid out at t) ≡ drop (at + length t) out
laid_behind out at t h =
    let n : length (take at out ++ t) ≡ at + length t = length-append (take at out) t ∙ ap (λ (k : ℕ). k + length t) (length-take-le at out (omega arith)) in
    rw (← append_assoc (take at out) t (drop (at + length t) out)) (drop_at (take at out ++ t) (drop (at + length t) out) (at + length t) n)

-- text after text
pub laid_laid : (out : List ℕ) (at : ℕ) (t u : List ℕ) → at + length t ≤ length out
    → laid (laid out at t) (at + length t) u ≡ laid out at (t ++ u)
laid_laid out at t u h =
    let n : at + length (t ++ u) ≡ at + length t + length u = omega (arith, length-append t u) in
    let d : drop (at + length t + length u) (laid out at t) ≡ drop (at + length t + length u) out =
    sym (drop-drop (length u) (at + length t) (laid out at t))
    ∙ ap (λ (l : List ℕ). drop (length u) l) (laid_behind out at t h)
    ∙ drop-drop (length u) (at + length t) out in
    rw (n, laid_front out at t h, d, append_assoc (take at out) t (u ++ drop (at + length t + length u) out), append_assoc t u (drop (at + length t + length u) out))

-- the buffer is as long as it was
pub long_after : {out text after : List ℕ} {at next : ℕ} → Laid out at text after next → length after ≡ length out
long_after {out} {text} {at = at} l = rw l.bytes (laid_length out at text l.fits)

-- one text and then another
pub then : {out t u after last : List ℕ} {at next end : ℕ} → Laid out at t after next → Laid after next u last end
    → Laid out at (t ++ u) last end
then {out} {t} {u} {at = at} l m =
    record {
      fits = omega (arith, length-append t u, m.fits, l.behind, long_after l);
      bytes = m.bytes ∙ (λ i. laid (l.bytes i) (l.behind i) u) ∙ laid_laid out at t u l.fits;
      behind = omega (arith, m.behind, l.behind, length-append t u);
    }

-- room for one text and another is room for the one, and behind it for the other
pub room_first : {out t : List ℕ} {at : ℕ} (u : List ℕ) → Room out at (t ++ u) → Room out at t
room_first {t = t} u r = record { fits = omega (arith, r.fits, length-append t u) }

pub room_behind : {out t u after : List ℕ} {at next : ℕ} → Room out at (t ++ u) → Laid out at t after next → Room after next u
room_behind {t = t} {u = u} r l = record { fits = omega (arith, r.fits, length-append t u, l.behind, long_after l) }

-- no text at all
pub nothing_laid : (out : List ℕ) (at : ℕ) → at ≤ length out → Laid out at [] out at
nothing_laid out at h =
    let z : at + 0 ≡ at = omega arith in
    record { fits = omega arith; bytes = rw z (sym (take-append-drop at out)); behind = omega arith }

-- ---- bytes stored from the last one back

-- a byte is stored, and then the text before it
pub laid_store : (out : List ℕ) (at : ℕ) (t : List ℕ) (d : ℕ) → at + length t < length out
    → laid (set out (at + length t) d) at t ≡ laid out at (t ++ (d ∷ []))
laid_store out at t d h =
    let n : at + length (t ++ (d ∷ [])) ≡ suc (at + length t) = omega (arith, length-append t (d ∷ [])) in
    let z : at + length t + 0 ≡ at + length t = omega arith in
    let b : drop (at + length t) (set out (at + length t) d) ≡ d ∷ drop (suc (at + length t)) out =
    ap (λ (k : ℕ). drop (at + length t) (set out k d)) (sym z)
    ∙ drop-set-add (at + length t) out 0 d
    ∙ ap (λ (l : List ℕ). set l 0 d) (drop-cons out (at + length t) 0 h) in
    rw (n, take-set-le at out (at + length t) d (omega arith), b, append_assoc t (d ∷ []) (drop (suc (at + length t)) out))

-- a byte alone
pub laid_one : (out : List ℕ) (at d : ℕ) → at < length out → set out at d ≡ laid out at (d ∷ [])
laid_one out at d h =
    let n : at + 1 ≡ suc at = omega arith in
    rw n (set_split out at d h)

-- ---- a text that is copied

-- a part in the middle that is overwritten whole
pub overwritten : (out part t : List ℕ) (at k : ℕ) → k ≡ length t → part ≡ t → put_mid at k out part ≡ laid out at t
overwritten out part t at k h f = rw (h, f, drop-drop (length t) at out)

-- what is put in is what is pasted
pub laid_paste : (out : List ℕ) (at : ℕ) (t : List ℕ) → laid out at t ≡ paste out at t (length t)
laid_paste out at t = rw (take-length t) (sym (append_assoc (take at out) t (drop (at + length t) out)))
