-- The slots of a ring over lent words.
use Rattle.std.specs.Prelude.{ℕ, ◌+◌, ◌-◌, cond, List, nat_lt, slice_index, length}
use Rattle.records.specs.Tables.{table}

-- the slot k places after the first, where there are n slots
abbrev pub slot : ℕ → ℕ → ℕ → ℕ
slot n head k = cond (nat_lt (head + k) n) (head + k) (head + k - n)

-- what is in a queue, in order, by its slots, the first of them and how many are taken
abbrev pub queue : List ℕ → ℕ → ℕ → List ℕ
queue s head count = table (λ k. slice_index s (slot (length s) head k)) 0 count
