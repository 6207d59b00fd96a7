-- The answers as numbers.
use Rattle.std.specs.Prelude.{ℕ, zero, suc, List}
use Rattle.talks.specs.declared.answers.Judged.TheVariants.{Keeps, Careless, NoProgram}
use Rattle.talks.specs.declared.answers.Ran.{Ran}
use Rattle.talks.specs.declared.answers.Ran.TheVariants.{Done, Spent, Crowded, Unkept, Unread, OutFull, Few}
use Rattle.talks.specs.Says.{JudgedSays}
use Rattle.exploring.specs.declared.answers.Explored.{Explored}
use Rattle.exploring.specs.declared.answers.Explored.TheVariants.{Stopped, Jammed, Wide, Spent as OutOfTurns, Crowded as TooMany, Unread as NotAProgram, Few as TooFew}

-- 0 is Keeps, 1 is Careless, 2 is NoProgram, and there is no other
abbrev pub JudgeCode : List ℕ → ℕ → Type 0
JudgeCode s zero = JudgedSays s Keeps
JudgeCode s (suc zero) = JudgedSays s Careless
JudgeCode s (suc (suc zero)) = JudgedSays s NoProgram
JudgeCode s (suc (suc (suc n))) = ⊥

-- the answer of a run by its number, with how many numbers were shown
abbrev pub ran_of : ℕ → ℕ → Ran
ran_of zero k = Done k
ran_of (suc zero) k = Spent k
ran_of (suc (suc zero)) k = Crowded
ran_of (suc (suc (suc zero))) k = Unkept
ran_of (suc (suc (suc (suc zero)))) k = Unread
ran_of (suc (suc (suc (suc (suc zero))))) k = OutFull
ran_of (suc (suc (suc (suc (suc (suc n)))))) k = Few

-- the answer of a run of any program by its number, with how many numbers were shown and how many processes are left
abbrev pub explored_of : ℕ → ℕ → ℕ → Explored
explored_of zero k n = Stopped k
explored_of (suc zero) k n = OutOfTurns k
explored_of (suc (suc zero)) k n = Jammed k n
explored_of (suc (suc (suc zero))) k n = TooMany
explored_of (suc (suc (suc (suc zero)))) k n = Wide
explored_of (suc (suc (suc (suc (suc zero))))) k n = NotAProgram
explored_of (suc (suc (suc (suc (suc (suc x)))))) k n = TooFew
