-- What exploring answers of words.
use Rattle.std.specs.Prelude.{◌≡◌, ℕ, ◌+◌, ◌*◌, ◌<◌, ◌≤◌, true, false, ◌↔◌, List, length}
use Rattle.model.specs.Program.{Program}
use Rattle.model.specs.Steps.{running, Configuration, Steps, begin}
use Rattle.model.specs.Keeps.{kept}
use Rattle.model.specs.Rows.{Reads}
use Rattle.model.specs.Theorems.{Still, AllStopped, Out}
use Rattle.rows.specs.declared.map.Map.{Map}
use Rattle.rows.specs.Mapped.{Mapped}
use Rattle.turns.specs.Holding.{Holding}
use Rattle.engine.specs.Shown.{overlay, counted}
use Rattle.engine.specs.Ending.{TooMany, Written}
use Rattle.engine.specs.Whole.{SomeWorker}
use Rattle.exploring.specs.declared.answers.Explored.{Explored}
use Rattle.exploring.specs.declared.answers.Explored.TheVariants.{Stopped, Spent, Jammed, Crowded, Wide, Unread, Few}
use Rattle.exploring.specs.declared.answers.Left.{Left}
use Rattle.looking.specs.declared.run.Look.{Look}
use Rattle.looking.specs.Looking.{EachRun, Widens}
use Rattle.exploring.specs.Table.{Told}

-- Nobody is out of turns, somebody is left, and the table tells of all who are.
pub record Jam (s : List ℕ) (a : Configuration) (old left : List Left) (n : ℕ) : Type 0 where
  pub not_out : Out a → ⊥
  pub someone : SomeWorker a running true
  pub told : Told s a.workers old left n

-- A run from a has come to an end of which P holds, with k numbers shown, as far as one can count. They stand first in
-- `shown`, as far as there is room, and the rest of it is as it was.
pub record EndsSo (g : Program) (most : ℕ) (old shown : List ℕ) (k : ℕ) (P : Configuration → Type 0) (a : Configuration) : Type 0 where
  pub end : Configuration
  pub steps : Steps g a end
  pub still : Still g end
  pub few : length end.workers ≤ most
  pub written : shown ≡ overlay end.shown old
  pub count : k ≡ counted end.shown
  pub says : P end

-- What an answer says of a run from a, where `shown` was `old` and the table `before`.
abbrev pub RunSays : List ℕ → Program → ℕ → List ℕ → List ℕ → List Left → List Left → Configuration → Explored → Type 0
RunSays s g most old shown before left a (Stopped k) = EndsSo g most old shown k AllStopped a × (left ≡ before)
RunSays s g most old shown before left a (Spent k) = EndsSo g most old shown k Out a × (left ≡ before)
RunSays s g most old shown before left a (Jammed k n) = EndsSo g most old shown k (λ b. Jam s b before left n) a
RunSays s g most old shown before left a Crowded = TooMany g most a × Written g old shown a × (left ≡ before)
RunSays s g most old shown before left a Wide = Widens g a × Written g old shown a × (left ≡ before)
RunSays s g most old shown before left a Unread = ⊥
RunSays s g most old shown before left a Few = ⊥

-- What an answer says of words, run with so many turns. Only a program that does not keep jams, or has too much.
abbrev pub ExploreSays : List ℕ → ℕ → ℕ → List ℕ → List ℕ → List Left → List Left → Explored → Type 0
ExploreSays s most turns old shown before left (Stopped k) = (g : Program) × Reads s g × RunSays s g most old shown before left (begin g turns) (Stopped k)
ExploreSays s most turns old shown before left (Spent k) = (g : Program) × Reads s g × RunSays s g most old shown before left (begin g turns) (Spent k)
ExploreSays s most turns old shown before left (Jammed k n) = (g : Program) × Reads s g × (kept g ≡ false) × RunSays s g most old shown before left (begin g turns) (Jammed k n)
ExploreSays s most turns old shown before left Crowded = (g : Program) × Reads s g × RunSays s g most old shown before left (begin g turns) Crowded
ExploreSays s most turns old shown before left Wide = (g : Program) × Reads s g × (kept g ≡ false) × RunSays s g most old shown before left (begin g turns) Wide
ExploreSays s most turns old shown before left Unread = ((g : Program) → Reads s g → ⊥) × (shown ≡ old) × (left ≡ before)
ExploreSays s most turns old shown before left Few = (shown ≡ old) × (left ≡ before)

-- The answer is right, and it is `few` exactly where there are too few work words.
pub record ExplorePost (s : List ℕ) (most turns : ℕ) (old shown : List ℕ) (before left : List Left) (words : ℕ) (r : Explored) : Type 0 where
  pub says : ExploreSays s most turns old shown before left r
  pub few : (words < 4096 + 128 * most) ↔ (r ≡ Few)

-- What is said of a configuration that the words hold.
abbrev pub TellsOf : List ℕ → Configuration → ℕ → List Left → List Left → Explored → Type 0
TellsOf s a total before left (Stopped k) = (k ≡ total) × AllStopped a × (left ≡ before)
TellsOf s a total before left (Spent k) = (k ≡ total) × Out a × (left ≡ before)
TellsOf s a total before left (Jammed k n) = (k ≡ total) × Jam s a before left n
TellsOf s a total before left Crowded = ⊥
TellsOf s a total before left Wide = ⊥
TellsOf s a total before left Unread = ⊥
TellsOf s a total before left Few = ⊥

abbrev pub Tells : List ℕ → List (List ℕ) → ℕ → ℕ → List Left → List Left → Explored → Type 0
Tells s procs count total before left r = (second : List ℕ) (a : Configuration) → Holding s second procs count a → TellsOf s a total before left r

-- for every program that the words are the writing of, and every run that has led to where they stand
abbrev pub LooksOut : List ℕ → Map → List (List ℕ) → List ℕ → List ℕ → List Left → List Left → Look → Explored → Type 0
LooksOut s m procs shown shown' before left k r = EachRun s m procs shown k (λ g a old. RunSays s g (length procs) old shown' before left a r)

abbrev pub RunsOut : List ℕ → Map → ℕ → ℕ → List ℕ → List ℕ → List Left → List Left → Explored → Type 0
RunsOut s m most turns old shown before left r = (g : Program) → Reads s g → Mapped s g m → RunSays s g most old shown before left (begin g turns) r
