-- When two configurations are the same but for the numbers of processes and lines, which depend on the order of starts.
use Rattle.std.specs.Prelude.{◌≡◌, map, ℕ, ◌≤◌, length}
use Rattle.std.proofs.Math.Option.{Option, some, none}
use Rattle.model.specs.Program.{nth}
use Rattle.model.specs.Steps.{Endpoint, Worker, Configuration}

-- a renumbering: one-to-one, with its way back
pub record Renumbering : Type 0 where
  pub to : ℕ → ℕ
  pub from : ℕ → ℕ
  pub there : (n : ℕ) → from (to n) ≡ n
  pub back : (n : ℕ) → to (from n) ≡ n

-- an end, and a process, with lines renumbered
abbrev pub renamed_end : (ℕ → ℕ) → Option Endpoint → Option Endpoint
renamed_end f none = none
renamed_end f (some e) = some (record { line = f e.line; side = e.side })

abbrev pub renamed : (ℕ → ℕ) → Worker → Worker
renamed f w = record { todo = w.todo; vars = w.vars; ends = map (renamed_end f) w.ends; left = w.left; state = w.state }

-- There are as many processes and lines, and the same numbers were shown; and with processes and lines renumbered each
-- process of one is a process of the other. Process 0 is process 0, and a number not given yet stays as it is.
pub record Same (a b : Configuration) : Type 0 where
  pub processes : Renumbering
  pub lines : Renumbering
  pub first : processes.to 0 ≡ 0
  pub new_process : (i : ℕ) → length a.workers ≤ i → processes.to i ≡ i
  pub new_line : (l : ℕ) → a.next ≤ l → lines.to l ≡ l
  pub counts : length a.workers ≡ length b.workers
  pub nexts : a.next ≡ b.next
  pub showns : a.shown ≡ b.shown
  pub each : (i : ℕ) (w : Worker) → nth a.workers i ≡ some w → nth b.workers (processes.to i) ≡ some (renamed lines.to w)
