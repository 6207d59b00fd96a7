-- The clerk and the till: a run that ends.
use mathlib.Core.Path.{◌≡◌, refl}
use mathlib.Core.List.{[], ◌∷◌}
use mathlib.Core.Option.{some}
use Prim.Native.Nat.{zero, suc}
use native.Mathlib.Omega.{arith}
use lib.Dec.{lit≤}
use Rattle.model.specs.Program.{stop, Program}
use Rattle.model.specs.Rows.{row_g, Reads}
use Rattle.model.specs.Examples.{shop, till}
use Rattle.model.specs.Steps.{own_end, far_end, stopped, Worker, Configuration, stops, shows, starts, Facing, passes, alone, together, Steps, here, more, begin}
use Rattle.model.specs.Theorems.{Still, AllStopped, ShopShows}
use Rattle.model.proofs.Orders.{any_order}

-- where all have stopped there is no step
stopped_still : (g : Program) (a : Configuration) → AllStopped a → Still g a
stopped_still g a all b (alone i w w' ws ns h r st) = let s = all i w h in grind arith
stopped_still g a all b (together i j w v w' v' d h k r q st) = let s = all i w h in grind arith

reads_shop : Reads (row_g shop) shop
reads_shop = record {
  rows = refl;
  words = lit≤ tt;
  points = lit≤ tt;
  sides = refl;
  procs = lit≤ tt;
  fine = (record { talks = lit≤ tt; vars = lit≤ tt; nums = lit≤ tt; nested = lit≤ tt }, (record { talks = lit≤ tt; vars = lit≤ tt; nums = lit≤ tt; nested = lit≤ tt }, tt));
}

facing : Facing (some (own_end 0)) (some (far_end 0))
facing = record { a = own_end 0; b = far_end 0; is_a = refl; is_b = refl; line = refl; sides = λ e. omega arith }

facing_back : Facing (some (far_end 0)) (some (own_end 0))
facing_back = record { a = far_end 0; b = own_end 0; is_a = refl; is_b = refl; line = refl; sides = λ e. omega arith }

-- both have stopped
abbrev clerk_after : Worker
clerk_after = record { todo = stop; vars = 42 ∷ []; ends = some (own_end 0) ∷ []; left = 0; state = stopped }

abbrev till_after : Worker
till_after = record { todo = stop; vars = 40 ∷ 2 ∷ []; ends = some (far_end 0) ∷ []; left = 0; state = stopped }

abbrev last : Configuration
last = record { workers = clerk_after ∷ till_after ∷ []; next = 1; shown = 42 ∷ [] }

-- the clerk starts the till and gives 40 and 2, the till gives the sum, the clerk shows it, and both stop
run : Steps shop (begin shop 1) last
run = more (more (more (more (more (more (more here
    (alone 0 _ _ _ _ refl refl (starts 1 [] [] _ till 0 refl refl refl)))
    (together 0 1 _ _ _ _ (λ e. omega arith) refl refl refl refl (passes 0 0 0 _ _ _ refl refl facing)))
    (together 0 1 _ _ _ _ (λ e. omega arith) refl refl refl refl (passes 0 0 1 _ _ _ refl refl facing)))
    (together 1 0 _ _ _ _ (λ e. omega arith) refl refl refl refl (passes 0 0 0 _ _ _ refl refl facing_back)))
    (alone 0 _ _ _ _ refl refl (shows _ _ refl)))
    (alone 0 _ _ _ _ refl refl (stops refl)))
    (alone 1 _ _ _ _ refl refl (stops refl))

all_stopped : AllStopped last
all_stopped zero w h = let e : w ≡ clerk_after = cc in rw e refl
all_stopped (suc zero) w h = let e : w ≡ till_after = cc in rw e refl
all_stopped (suc (suc i)) w h = grind arith

pub shop_shows : ShopShows 42
shop_shows = record {
  reads = reads_shop;
  keeps = refl;
  end = last;
  run = run;
  still = stopped_still shop last all_stopped;
  stops = all_stopped;
  shows = refl;
  always = λ a st still. (any_order (row_g shop) shop 1 a last reads_shop refl st run still (stopped_still shop last all_stopped)).0;
}
