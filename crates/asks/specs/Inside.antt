-- The same by what is known of a word when its bytes have gone by. A reader of the words can leave this page out. Assumes nothing.
use Rattle.std.specs.Prelude.{Bool, ◌&&◌, Option, Some, None, ℕ, ◌%◌, if◌then◌else◌}
use Rattle.values.specs.Inside.{word_in, below_in}
use Rattle.values.specs.declared.Seen.{Seen}
use Rattle.asks.specs.declared.Asked.{Asked}
use Rattle.asks.specs.declared.Asked.TheVariants.{Test, Worst, Day, Import, Close, Lighter, Pack, Listing, Explain, Calendar, Nothing}

-- so many letters, as one number to the base 256
abbrev pub is_verb : ℕ → ℕ → Seen → Bool
is_verb n w s = word_in n w s

abbrev pub count_in : Seen → Bool
count_in s = below_in 4294967296 s

unfoldable pub typing_in : Seen → Asked
typing_in s =
    if is_verb 4 0x7061636b s then Pack
    else (if is_verb 4 0x6c697374 s then Listing
    else (if is_verb 7 0x6578706c61696e s then Explain
    else Nothing))

unfoldable pub alone_in : Seen → Asked
alone_in s =
    if is_verb 4 0x74657374 s then Test
    else (if is_verb 5 0x776f727374 s then Worst
    else (if is_verb 6 0x696d706f7274 s then Import
    else (if is_verb 5 0x636c6f7365 s then Close
    else (if is_verb 7 0x6c696768746572 s then Lighter
    else typing_in s))))

unfoldable pub counted_in : Seen → Seen → Asked
counted_in s n = if is_verb 3 0x646179 s && count_in n then Day (n.size % 4294967296) else Nothing

unfoldable pub dated_in : Seen → Asked
dated_in s = if is_verb 8 0x63616c656e646172 s then Calendar else Nothing

unfoldable pub number_in : Seen → Option ℕ
number_in s = if count_in s then Some (s.size % 4294967296) else None
