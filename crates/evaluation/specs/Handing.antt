-- What is promised of numbers and conversations that are handed on.
use Rattle.std.specs.Prelude.{◌≡◌, ℕ, ◌+◌, ◌≤◌, max, List, ◌++◌, length, drop, None, slice_index, slice_index_or}
use Rattle.std.proofs.Math.Option.{Option}
use Rattle.model.specs.Program.{Expression, values}
use Rattle.model.specs.Steps.{Endpoint, pad, without}
use Rattle.model.specs.Rows.{row_es, deep_es}
use Rattle.records.specs.Tables.{table}
use Rattle.records.specs.Records.{Record, viewed}
use Rattle.evaluation.specs.declared.handed.Numbers.{Numbers}
use Rattle.evaluation.specs.declared.handed.Ends.{Ends}

-- The values of expressions that stand at a place with the words x behind them, padded to any number of variables,
-- and where these words begin.
pub record NumbersAre (s vs : List ℕ) (at : ℕ) (es : List Expression) (x : List ℕ) (r : Numbers) : Type 0 where
  pub padded : (m : ℕ) → pad m (values vs es) ≡ table (λ k. slice_index r.values k) 0 (max (length es) m)
  pub rest : drop r.next s ≡ x
  pub ends : r.next ≡ at + length (row_es es)

abbrev pub Numbered : List ℕ → List ℕ → ℕ → ℕ → ℕ → Numbers → Type 0
Numbered s vs at d n r = (es : List Expression) (x : List ℕ) → length es ≡ n → drop at s ≡ row_es es ++ x → deep_es es ≤ d → NumbersAre s vs at es x r

-- n words from a place on
abbrev pub listed : List ℕ → ℕ → ℕ → List ℕ
listed s at n = table (λ k. slice_index s (at + k)) 0 n

-- the first n of the ends that are handed on
abbrev pub ends_in : Ends → ℕ → List (Option Endpoint)
ends_in r n = table (λ k. viewed (slice_index_or r.ends k None)) 0 n

-- the first n of the numbers that are handed on
abbrev pub numbers_in : Numbers → ℕ → List ℕ
numbers_in r n = table (λ k. slice_index r.values k) 0 n

-- a record with more ends, with more variables, and without the conversations cs
abbrev pub with_ends : Record → List (Option Endpoint) → Record
with_ends r es = record { place = r.place; left = r.left; state = r.state; vars = r.vars; ends = r.ends ++ es }

abbrev pub with_numbers : Record → List ℕ → Record
with_numbers r ns = record { place = r.place; left = r.left; state = r.state; vars = r.vars ++ ns; ends = r.ends }

abbrev pub taken_from : Record → List ℕ → Record
taken_from r cs = record { place = r.place; left = r.left; state = r.state; vars = r.vars; ends = without r.ends cs }
