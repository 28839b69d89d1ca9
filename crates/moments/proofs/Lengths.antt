-- How long the lines of an event are. Assumes nothing.
use mathlib.Core.Path.{◌≡◌}
use mathlib.Core.List.{List, [], ◌∷◌, ◌++◌}
use Prim.Native.Nat.{ℕ, ◌+◌, ◌*◌}
use native.Mathlib.Omega.{arith}
use lib.ListN.{length, length-append}
use Rattle.values.specs.Ascii.{ascii}
use Rattle.lines.specs.Text.{decimal}
use Rattle.moments.specs.Event.{line, uid_line, stamp_line, start_line, summary_line, event_text, event_length}
use Rattle.moments.specs.Inside.{moment_bytes}

pub line_long : (t : List ℕ) → length (line t) ≡ length t + 2
line_long t = length-append t (13 ∷ 10 ∷ [])

pub moment_long : (name m : List ℕ) → length (line (name ++ m)) ≡ length name + length m + 2
moment_long name m = omega (arith, line_long (name ++ m), length-append name m)

pub uid_long : (p : ℕ) (m : List ℕ) → length (uid_line p m) ≡ 7 + length (decimal p) + length m
uid_long p m =
    let a = line_long (ascii "UID:" ++ decimal p ++ ascii "-" ++ m) in
    let b = length-append (decimal p ++ ascii "-") m in
    let c = length-append (decimal p) (ascii "-") in
    omega arith

pub summary_long : (p code : ℕ) → length (summary_line p code) ≡ 17 + length (decimal p) + length (decimal code)
summary_long p code =
    let a = line_long (ascii "SUMMARY:Point " ++ decimal p ++ ascii " " ++ decimal code) in
    let b = length-append (decimal p ++ ascii " ") (decimal code) in
    let c = length-append (decimal p) (ascii " ") in
    omega arith

pub event_parts : (p code : ℕ) (m : List ℕ) → length (event_text p code m) ≡ 70 + 2 * length (decimal p) + length (decimal code) + 3 * length m
unfolding event_text
event_parts p code m =
    let first = line (ascii "BEGIN:VEVENT") in
    let last = line (ascii "END:VEVENT") in
    let a = length-append (first ++ uid_line p m ++ stamp_line m ++ start_line m ++ summary_line p code) last in
    let b = length-append (first ++ uid_line p m ++ stamp_line m ++ start_line m) (summary_line p code) in
    let c = length-append (first ++ uid_line p m ++ stamp_line m) (start_line m) in
    let d = length-append (first ++ uid_line p m) (stamp_line m) in
    let e = length-append first (uid_line p m) in
    omega (arith, uid_long p m, moment_long (ascii "DTSTAMP:") m, moment_long (ascii "DTSTART:") m, summary_long p code)

pub event_long : (p code : ℕ) (m : List ℕ) → length m ≡ moment_bytes → length (event_text p code m) ≡ event_length p code
event_long p code m e = omega (arith, event_parts p code m)
