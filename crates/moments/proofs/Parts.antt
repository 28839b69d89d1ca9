-- The texts of an event part by part, as they are put into a buffer, and room for each. Assumes nothing.
use mathlib.Core.Path.{◌≡◌, ap, sym, subst, ◌∙◌}
use mathlib.Core.List.{List, [], ◌∷◌, ◌++◌, append_assoc}
use Prim.Native.Nat.{ℕ}
use Rattle.values.specs.Ascii.{ascii}
use Rattle.lines.specs.Text.{decimal}
use Rattle.buffers.specs.Inside.{Room, Laid}
use Rattle.buffers.proofs.Laying.{room_first}
use Rattle.moments.specs.Event.{line, uid_line, stamp_line, start_line, summary_line, event_text}

-- ---- UID: the name with the number, then the hyphen with the moment

module _ (p : ℕ) (m : List ℕ) where
  uid_split : uid_line p m ≡ (ascii "UID:" ++ decimal p) ++ line (ascii "-" ++ m)
  uid_split =
      ap (λ (t : List ℕ). t ++ (13 ∷ 10 ∷ [])) (append_assoc (ascii "UID:" ++ decimal p) (ascii "-") m)
      ∙ append_assoc (ascii "UID:" ++ decimal p) (ascii "-" ++ m) (13 ∷ 10 ∷ [])

  pub uid_room : {out : List ℕ} {at : ℕ} → Room out at (uid_line p m) → Room out at ((ascii "UID:" ++ decimal p) ++ line (ascii "-" ++ m))
  uid_room {out} {at} r = subst (Room out at) uid_split r

  pub uid_laid : {out after : List ℕ} {at next : ℕ} → Laid out at ((ascii "UID:" ++ decimal p) ++ line (ascii "-" ++ m)) after next → Laid out at (uid_line p m) after next
  uid_laid {out} {after} {at} {next} l = subst (λ (t : List ℕ). Laid out at t after next) (sym uid_split) l

-- ---- SUMMARY: the name with the number, then the space with the code

module _ (p code : ℕ) where
  summary_split : summary_line p code ≡ line ((ascii "SUMMARY:Point " ++ decimal p) ++ (ascii " " ++ decimal code))
  summary_split = ap (λ (t : List ℕ). t ++ (13 ∷ 10 ∷ [])) (append_assoc (ascii "SUMMARY:Point " ++ decimal p) (ascii " ") (decimal code))

  pub summary_room : {out : List ℕ} {at : ℕ} → Room out at (summary_line p code) → Room out at (line ((ascii "SUMMARY:Point " ++ decimal p) ++ (ascii " " ++ decimal code)))
  summary_room {out} {at} r = subst (Room out at) summary_split r

  pub summary_laid : {out after : List ℕ} {at next : ℕ} → Laid out at (line ((ascii "SUMMARY:Point " ++ decimal p) ++ (ascii " " ++ decimal code))) after next
      → Laid out at (summary_line p code) after next
  summary_laid {out} {after} {at} {next} l = subst (λ (t : List ℕ). Laid out at t after next) (sym summary_split) l

-- ---- an event

module _ (p code : ℕ) (m : List ℕ) where
  -- room for its lines, up to each of them
  pub record Rooms (out : List ℕ) (at : ℕ) : Type 0 where
    pub begin : Room out at (line (ascii "BEGIN:VEVENT"))
    pub uid : Room out at (line (ascii "BEGIN:VEVENT") ++ uid_line p m)
    pub stamp : Room out at (line (ascii "BEGIN:VEVENT") ++ uid_line p m ++ stamp_line m)
    pub start : Room out at (line (ascii "BEGIN:VEVENT") ++ uid_line p m ++ stamp_line m ++ start_line m)
    pub summary : Room out at (line (ascii "BEGIN:VEVENT") ++ uid_line p m ++ stamp_line m ++ start_line m ++ summary_line p code)
    pub end : Room out at (line (ascii "BEGIN:VEVENT") ++ uid_line p m ++ stamp_line m ++ start_line m ++ summary_line p code ++ line (ascii "END:VEVENT"))

  pub rooms : {out : List ℕ} {at : ℕ} → Room out at (event_text p code m) → Rooms out at
  unfolding event_text
  rooms r =
      let e = room_first (line (ascii "END:VEVENT")) r in
      let d = room_first (summary_line p code) e in
      let c = room_first (start_line m) d in
      let b = room_first (stamp_line m) c in
      record { begin = room_first (uid_line p m) b; uid = b; stamp = c; start = d; summary = e; end = r }
