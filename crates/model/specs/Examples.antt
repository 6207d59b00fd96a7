-- Worked programs that the theorems are tried on.
use Rattle.std.specs.Prelude.{List, [], ◌∷◌, ℕ}
use Rattle.model.specs.Program.{Point, over, gives, takes, num, var, add, stop, give, take, show, start, Process, Program}

-- points 0 to 3 as the till sees them: it takes two numbers, gives one, and the conversation is over; 4 to 7 as the clerk does
abbrev pub counter_points : List Point
counter_points = takes 1 ∷ takes 2 ∷ gives 3 ∷ over ∷ gives 5 ∷ gives 6 ∷ takes 7 ∷ over ∷ []

abbrev pub counter_sides : List ℕ
counter_sides = 4 ∷ 5 ∷ 6 ∷ 7 ∷ 0 ∷ 1 ∷ 2 ∷ 3 ∷ []

-- the till takes two numbers and gives their sum
abbrev pub till : Process
till = record { talks = 0 ∷ []; nums = 0; vars = 2; body = take 0 0 (take 0 1 (give 0 (add (var 0) (var 1)) stop)) }

-- the clerk starts the till, gives 40 and 2, takes the sum and shows it
abbrev pub clerk : Process
clerk = record { talks = []; nums = 0; vars = 1; body = start 1 [] [] (give 0 (num 40) (give 0 (num 2) (take 0 0 (show (var 0) stop)))) }

-- this clerk gives one number and then wants the sum
abbrev pub hasty_clerk : Process
hasty_clerk = record { talks = []; nums = 0; vars = 1; body = start 1 [] [] (give 0 (num 40) (take 0 0 (show (var 0) stop))) }

abbrev pub shop : Program
shop = record { points = counter_points; other = counter_sides; procs = clerk ∷ till ∷ [] }

abbrev pub hasty : Program
hasty = record { points = counter_points; other = counter_sides; procs = hasty_clerk ∷ till ∷ [] }
