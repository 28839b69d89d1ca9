-- The loop over a line's words: what holds between two of them, that it holds at the start, that a word more keeps it, and what it
-- gives at the line's end. Assumes nothing.
use mathlib.Core.Path.{◌≡◌, refl, sym, ap, ◌∙◌}
use mathlib.Core.Bool.{Bool, true, false}
use mathlib.Core.List.{List, [], ◌∷◌, ◌++◌, append-nil}
use Prim.Native.Nat.{ℕ, suc, ◌+◌, ◌≤◌, ◌<◌, min}
use native.Mathlib.Omega.{arith}
use lib.Dec.{eqb, ltb}
use lib.ListN.{length, get_or, set, drop, replicate, length-append, drop_of_length-le, length-set, length-replicate, get_or-append}
use lib.Seq.{append_snoc, get_or_at, get_or-set_same, get_or-set_other}
use borrow.Author.Tests.{ltb-true, ltb-false}
use Rattle.numbers.specs.Fits.{All, IsByte}
use Rattle.values.specs.Values.{is_empty}
use Rattle.values.specs.declared.Seen.{Seen}
use Rattle.phrases.specs.Phrases.{cut, filled, uncommented}
use Rattle.phrases.specs.Inside.{fresh_word, line_end, first_line}
use Rattle.phrases.specs.declared.Word.{Word}
use Rattle.phrases.specs.declared.Found.{Found}
use Rattle.phrases.proofs.Reading.{first_words, found, Next, next_word}
use Rattle.phrases.proofs.Saying.{word_seen, says_empty}
use Rattle.sayings.specs.Sayings.{row_of}
use Rattle.sayings.specs.Inside.{cell, as_told, row_by}
use Rattle.std.specs.Prelude.{Result}
use Rattle.sayings.specs.declared.Said.{Said}
use Rattle.sayings.proofs.Telling.{word_of, Cells, row_is}
use Rattle.records.proofs.Entries.{all_append}
use Rattle.listing.specs.Inside.{line_at}
use Rattle.listing.specs.declared.Line.{Line}

-- after n words of the line that begins at `at`: the next is looked for at `from`
pub record Worded (text : List ℕ) (at from n : ℕ) (cells : List Word) : Type 0 where
  pub done : List (List ℕ)
  pub bytes : All (All IsByte) done
  pub count : n ≡ length done
  pub size : length cells ≡ 6
  pub kept : Cells cells done
  pub rest : first_words (drop at text) ≡ done ++ first_words (drop from text)
  pub ends : line_end at (drop at text) ≡ line_end from (drop from text)
  pub low : n ≤ from
  pub few : n ≤ length text

pub worded_start : (text : List ℕ) (at : ℕ) → Worded text at at 0 (replicate 6 fresh_word)
worded_start text at =
    record {
      done = [];
      bytes = tt;
      count = refl;
      size = length-replicate 6 fresh_word;
      kept = λ i h l. absurd (omega arith);
      rest = refl;
      ends = refl;
      low = omega arith;
      few = omega arith;
    }

-- past the text there are no words
past_none : (text : List ℕ) (from : ℕ) → length text ≤ from → first_words (drop from text) ≡ []
unfolding first_line cut filled uncommented
past_none text from h = rw (drop_of_length-le text h)

-- a word more in the cells
store : (done : List (List ℕ)) (g : List ℕ) (n : ℕ) (cells : List Word) (i : ℕ) (v : Word) → v ≡ word_of g → n ≡ length done → length cells ≡ 6 → i ≡ min n 5 → Cells cells done
    → Cells (set cells i v) (done ++ (g ∷ []))
store done g n cells i v ev c l p k j h m = by_test (ltb j (length done)) refl
  where
    z : length (done ++ (g ∷ [])) ≡ length done + 1
    z = length-append done (g ∷ [])

    by_test : (t : Bool) → ltb j (length done) ≡ t → cell j (set cells i v) ≡ word_of (get_or (done ++ (g ∷ [])) j [])
    by_test true e =
        let q = ltb-true j (length done) e in
        rw (get_or-append done (g ∷ []) [] j q) (get_or-set_other cells i j v _ (λ y. omega arith) ∙ k j q m)
    by_test false e =
        let q = ltb-false j (length done) e in
        let y : j ≡ i = omega (arith, z) in
        let x : length done ≡ i = omega (arith, z) in
        rw (y, get_or_at done g [] [] i x) (get_or-set_same cells i v _ (omega arith) ∙ ev)

module _ (text : List ℕ) (b : All IsByte text) (at from n : ℕ) (cells : List Word) (w : Worded text at from n cells)
    (f : Found) (e : f ≡ found text from) (t : Bool) (q : t ≡ eqb f.word.seen.count 0) where
  next : Next text from f
  next = rw e (next_word text b from)

  test : t ≡ is_empty next.g
  test =
      q
      ∙ ap (λ (v : Word). eqb v.seen.count 0) next.word
      ∙ ap (λ (s : Seen). eqb s.count 0) (word_seen fresh_word next.g)
      ∙ says_empty next.g next.bytes

  -- the line has no more words
  pub worded_end : t ≡ true → (r : Result Said ℕ) → r ≡ row_by n cells → (j : ℕ) → j ≡ line_end f.next (drop f.next text)
      → ◌≡◌ {A = Line} (record { said = r; next = j }) (line_at at (drop at text))
  worded_end h r er j ej =
      let d : first_words (drop at text) ≡ w.done = w.rest ∙ rw (next.last (sym test ∙ h)) (append-nil w.done) in
      let k : r ≡ as_told (row_of (first_words (drop at text))) = er ∙ rw (w.count, d) (row_is cells w.done w.size w.bytes w.kept) in
      let i : j ≡ line_end at (drop at text) = ej ∙ sym (w.ends ∙ next.line) in
      rw (k, i)

  -- a word more
  pub record More : Type 0 where
    pub past : from < f.next
    pub within : f.next ≤ length text
    pub fewer : n + 1 ≤ length text
    pub then : (i : ℕ) → i ≡ min n 5 → Worded text at f.next (n + 1) (set cells i f.word)

  pub worded_more : t ≡ false → More
  worded_more h =
      let some = next.some (sym test ∙ h) in
      let inside : from < length text = here some (ltb from (length text)) refl in
      let long : 1 ≤ length next.g = one next.g (sym test ∙ h) in
      let p = next.past in
      let v = next.within (omega arith) in
      let lo = w.low in
      record {
        past = omega arith;
        within = v;
        fewer = omega arith;
        then = λ i m.
            record {
              done = w.done ++ (next.g ∷ []);
              bytes = all_append (All IsByte) w.done (next.g ∷ []) w.bytes (next.bytes, tt);
              count = rw (length-append w.done (next.g ∷ []), w.count);
              size = length-set cells i f.word ∙ w.size;
              kept = store w.done next.g n cells i f.word next.word w.count w.size m w.kept;
              rest = w.rest ∙ rw some (sym (append_snoc w.done next.g (first_words (drop f.next text))));
              ends = w.ends ∙ next.line;
              low = omega arith;
              few = omega arith;
            };
      }
    where
      here : first_words (drop from text) ≡ next.g ∷ first_words (drop f.next text) → (u : Bool) → ltb from (length text) ≡ u → from < length text
      here s true y = ltb-true from (length text) y
      here s false y =
          let z : [] ≡ next.g ∷ first_words (drop f.next text) = sym (past_none text from (ltb-false from (length text) y)) ∙ s in
          absurd (let x : ◌≡◌ {A = ℕ} 0 (suc (length (first_words (drop f.next text)))) = ap length z in omega arith)

      one : (g : List ℕ) → is_empty g ≡ false → 1 ≤ length g
      one [] y = absurd (let x : ◌≡◌ {A = ℕ} 0 1 = cc in omega arith)
      one (c ∷ g) y = omega arith
