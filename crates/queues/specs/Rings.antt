-- The queue of processes that can go on.
use Rattle.std.specs.Prelude.{◌≡◌, ℕ, zero, suc, ◌+◌, List, [], ◌∷◌, ◌++◌, length}
use Rattle.std.proofs.Math.Option.{some}
use Rattle.model.specs.Program.{nth, put}
use Rattle.queues.specs.declared.ring.Queue.{Queue}
use Rattle.queues.specs.Slots.{queue}

-- what is in a queue, in order
abbrev pub items : Queue → List ℕ
items q = queue q.slots.now q.head q.count

-- what is left of a queue when the one at place k is taken out: the first stands in its place
abbrev pub taken : List ℕ → ℕ → List ℕ
taken [] k = []
taken (x ∷ xs) zero = xs
taken (x ∷ xs) (suc k) = put xs k x

-- one more is in the queue, at its end
pub record Pushed (q q' : Queue) (who : ℕ) : Type 0 where
  pub long : length q'.slots.now ≡ length q.slots.now
  pub items : items q' ≡ items q ++ (who ∷ [])
  pub count : q'.count ≡ q.count + 1

-- the one at place k has gone
pub record Gone (q q' : Queue) (k : ℕ) : Type 0 where
  pub long : length q'.slots.now ≡ length q.slots.now
  pub rest : items q' ≡ taken (items q) k
  pub count : q'.count + 1 ≡ q.count

-- the one at place k is taken out
pub record Took (q q' : Queue) (k i : ℕ) : Type 0 where
  pub long : length q'.slots.now ≡ length q.slots.now
  pub who : nth (items q) k ≡ some i
  pub rest : items q' ≡ taken (items q) k
  pub count : q'.count + 1 ≡ q.count
