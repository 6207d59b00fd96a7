-- The records of a process that begins and of its starter, from the writes one after the other.
use Rattle.std.proofs.Common.{◌≡◌, ℕ, ◌<◌, List, [], ◌∷◌, length, refl, ◌∙◌, arith}
use mathlib.Core.Option.{Option, none}
use Rattle.model.specs.Program.{put}
use Rattle.model.specs.Steps.{Endpoint, without}
use Rattle.records.specs.Records.{Record}
use Rattle.evaluation.specs.Handing.{taken_from}
use Rattle.model.proofs.Lists.{length_put}

pub length_without : (es : List (Option Endpoint)) (cs : List ℕ) → length (without es cs) ≡ length es
length_without es [] = refl
length_without es (c ∷ cs) = length_without (put es c none) cs ∙ length_put es c none

pub released_few : (r : Record) (cs : List ℕ) → length r.ends < 16 → length (taken_from r cs).ends < 16
released_few r cs few = let l = length_without r.ends cs in omega arith
