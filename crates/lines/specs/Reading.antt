-- How a line of decimal words is read, byte by byte.
use Rattle.std.specs.Prelude.{ℕ, ◌+◌, ◌-◌, ◌*◌, ◌^◌, Bool, true, false, cond, ◌||◌, List, [], ◌∷◌, ◌++◌, length, Option, Some, None, vec_items, ◌==◌, nat_lt}
use Rattle.lines.specs.declared.line.Line.{Line}

-- what was read: the words, the number that stands last if no blank does, and whether all words are numbers of 32 bits
pub record Reading : Type 0 where
  pub words : List ℕ
  pub last : Option ℕ
  pub good : Bool

-- what a line that is being read holds
abbrev pub reading : Line → Reading
reading l = record { words = vec_items l.words; last = l.last; good = l.good }

-- at the beginning of a line
abbrev pub begun : Reading
begun = record { words = []; last = None; good = true }

-- after a blank: a number that stood last is a word; of more words than a program can have no more are kept
abbrev pub with_word : List ℕ → ℕ → List ℕ
with_word ws n = cond (nat_lt (length ws) 16385) (ws ++ (n ∷ [])) ws

abbrev pub ended_by : Option ℕ → Reading → Reading
ended_by None s = s
ended_by (Some n) s = record { words = with_word s.words n; last = None; good = s.good }

abbrev pub ended : Reading → Reading
ended s = ended_by s.last s

-- after a digit: the number goes on, or is too large
abbrev pub digit_after : Option ℕ → ℕ → Reading → Reading
digit_after None d s = record { words = s.words; last = Some d; good = s.good }
digit_after (Some n) d s = cond (nat_lt (n * 10 + d) (2 ^ 32)) (record { words = s.words; last = Some (n * 10 + d); good = s.good }) (record { words = s.words; last = s.last; good = false })

abbrev pub digit : ℕ → Reading → Reading
digit d s = digit_after s.last d s

-- after any byte but a line feed: a blank, a digit, or what makes the line no program
abbrev pub is_blank : ℕ → Bool
is_blank b = b == 32 || (b == 9 || b == 13)

abbrev pub is_no_digit : ℕ → Bool
is_no_digit b = nat_lt b 48 || nat_lt 57 b

abbrev pub read_byte : ℕ → Reading → Reading
read_byte b s = cond (is_blank b) (ended s) (cond (is_no_digit b) (record { words = s.words; last = s.last; good = false }) (digit (b - 48) s))

-- the words, if all of them are numbers of 32 bits
abbrev pub numbers : Reading → Option (List ℕ)
numbers s = cond s.good (Some s.words) None
