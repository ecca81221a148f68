-- Where the lines of a text start.
use Rattle.std.specs.Prelude.{ℕ, zero, suc, ◌+◌, ◌-◌, ◌%◌, ◌^◌, Bool, true, ◌&&◌, ◌||◌, ◌==◌, not, nat_le, List, ◌++◌, filter, map, length, take, drop, slice_index, count_by}
use Rattle.std.specs.List.{range_with_len, take_while}

-- a line starts at the text's start, after an LF, and after a CR that no LF follows
abbrev pub starts_line : List ℕ → ℕ → Bool
starts_line text zero = true
starts_line text (suc at) = slice_index text at == 10 || (slice_index text at == 13 && not (slice_index text (suc at) == 10))

-- the bytes from one on up to another where a line starts, the last one included
unfoldable pub starts_between : List ℕ → ℕ → ℕ → List ℕ
starts_between text from to = filter (starts_line text) (range_with_len from (to + 1 - from))

-- where the lines of a text start
unfoldable pub line_starts : List ℕ → List ℕ
line_starts text = starts_between text 0 (length text)

-- LF and CR end a line
abbrev pub is_line_end : ℕ → Bool
is_line_end c = c == 10 || c == 13

-- the line that starts at a byte, without its end
unfoldable pub line_at : List ℕ → ℕ → List ℕ
line_at text start = take_while (λ c. not (is_line_end c)) (drop start text)

-- a number moved so that it is as far after `to` as it was after `from`, in a machine's numbers, which wrap round
abbrev pub shifted : ℕ → ℕ → ℕ → ℕ
shifted from to at = (at + (to + (2 ^ 64 - from)) % 2 ^ 64) % 2 ^ 64

-- some starts with others put between: those up to `before` stay, and those past `end` are moved so
-- that they are as far after `to`
abbrev pub replaced : ℕ → ℕ → ℕ → List ℕ → List ℕ → List ℕ
replaced before end to between starts =
    take (count_by (λ start. nat_le start before) starts) starts ++ (between ++ map (shifted end to) (drop (count_by (λ start. nat_le start end) starts) starts))
