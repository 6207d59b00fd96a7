-- What a run promises in which each step is looked for.
use Rattle.std.specs.Prelude.{ℕ, ◌<◌, ◌≤◌, Bool, true, false, List, length, Result, Ok, Err}
use Rattle.model.specs.Program.{Program}
use Rattle.model.specs.Steps.{Configuration, Steps}
use Rattle.model.specs.Rows.{Reads}
use Rattle.rows.specs.declared.map.Map.{Map}
use Rattle.rows.specs.Mapped.{Mapped}
use Rattle.turns.specs.declared.turn.Trouble.{Trouble}
use Rattle.turns.specs.declared.turn.Trouble.TheVariants.{Crowded, Odd}
use Rattle.turns.specs.Holding.{potential}
use Rattle.engine.specs.Ending.{Midway, Finished, TooMany, Written}
use Rattle.looking.specs.declared.run.Look.{Look}
use Rattle.looking.specs.Moving.{TooWide}

-- some steps lead to where somebody would have too much
pub record Widens (g : Program) (a : Configuration) : Type 0 where
  pub now : Configuration
  pub steps : Steps g a now
  pub wide : TooWide g now

-- some steps have led to a configuration that the words hold
abbrev pub Standing : List ℕ → List ℕ → Program → ℕ → List ℕ → List (List ℕ) → List ℕ → Look → Configuration → Type 0
Standing s second g most old procs shown k a = Midway s second g most old procs shown k.count k.total a

-- what is said for every program that the words are the writing of and every run that has led here
abbrev pub EachRun : List ℕ → Map → List (List ℕ) → List ℕ → Look → (Program → Configuration → List ℕ → Type 0) → Type 0
EachRun s m procs shown k P = (g : Program) (a : Configuration) (old : List ℕ) → Reads s g → Mapped s g m → Standing s m.second g (length procs) old procs shown k a → P g a old

-- no step is possible
abbrev pub Rests : List ℕ → List ℕ → Program → ℕ → List ℕ → List (List ℕ) → List ℕ → Look → Configuration → Type 0
Rests s second g most old procs shown k a = Finished s second g most old procs shown k.count k.total a

-- why a run stops before that: too many processes, or somebody would have too much
abbrev pub Breaks : Program → ℕ → List ℕ → List ℕ → Configuration → Trouble → Type 0
Breaks g most old shown a Crowded = TooMany g most a × Written g old shown a
Breaks g most old shown a Odd = Widens g a × Written g old shown a

-- what one step answers is right; after it there are as many processes as there may be, and one at least
abbrev pub StepsOn : List ℕ → Map → List (List ℕ) → List (List ℕ) → List ℕ → List ℕ → Look → Look → Result Bool Trouble → Type 0
StepsOn s m procs procs' shown shown' k k' (Ok true) = (0 < k'.count) × (k'.count ≤ length procs) ×
    EachRun s m procs shown k (λ g a old. Standing s m.second g (length procs) old procs' shown' k' a × (potential s procs' k'.count < potential s procs k.count))
StepsOn s m procs procs' shown shown' k k' (Ok false) = EachRun s m procs shown k (λ g a old. Rests s m.second g (length procs) old procs' shown' k' a)
StepsOn s m procs procs' shown shown' k k' (Err e) = EachRun s m procs shown k (λ g a old. Breaks g (length procs) old shown' a e)

-- the words are the writing of some program, and some run of it has led here
pub record Going (s : List ℕ) (m : Map) (procs : List (List ℕ)) (shown : List ℕ) (k : Look) : Type 0 where
  pub program : Program
  pub configuration : Configuration
  pub old : List ℕ
  pub reads : Reads s program
  pub mapped : Mapped s program m
  pub standing : Standing s m.second program (length procs) old procs shown k configuration

-- what a run comes to
abbrev pub ComesTo : List ℕ → Map → List (List ℕ) → List (List ℕ) → List ℕ → List ℕ → Look → Result Look Trouble → Type 0
ComesTo s m procs procs' shown shown' k (Ok k') = EachRun s m procs shown k (λ g a old. Rests s m.second g (length procs) old procs' shown' k' a)
ComesTo s m procs procs' shown shown' k (Err e) = EachRun s m procs shown k (λ g a old. Breaks g (length procs) old shown' a e)
