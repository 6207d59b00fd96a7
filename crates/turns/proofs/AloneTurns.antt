-- The turns of a process that stops, puts a number into a variable, takes one of two ways, or shows a number.
use Rattle.std.proofs.Common.{◌≡◌, ℕ, ◌+◌, ◌<◌, ◌≤◌, max, Bool, true, false, cond, eqb, List, [], ◌∷◌, ◌++◌, length, get_or, drop, sym, refl, ap, ◌∙◌, subst, arith}
use Rattle.rows.specs.declared.decode.Instruction.TheVariants.{Stop, Set, If, Show}
use Rattle.rows.specs.Reading.{Seconds}
use Rattle.rows.proofs.Instructions.{Standing, at_stop, at_set, at_if, at_show}
use Rattle.model.specs.Program.{Program, Expression, Action, set, if, show, value}
use Rattle.model.specs.Steps.{State, running, stopped, Configuration, on, with_var, halted, stops, sets, ifs, shows, only_first}
use Rattle.model.specs.Rows.{row_e, row_a, deep}
use Rattle.records.specs.Records.{record_at, Kept, moved, assigned, ended}
use Rattle.evaluation.specs.declared.expressions.Valued.{Valued}
use Rattle.evaluation.specs.Values.{Evaluates}
use Rattle.turns.specs.Holding.{Holds}
use Rattle.turns.specs.Scheduling.{Runs}
use Rattle.turns.specs.Turning.{Before, After}
use Rattle.turns.specs.Meeting.{Doing}
use Rattle.turns.proofs.Queue.{in_here}
use Rattle.turns.proofs.Found.{standing}
use Rattle.turns.proofs.MeetingLaws.{holds_moved, holds_assigned, place_below, weight_moved, Way, way_taken}
use Rattle.turns.proofs.AloneLaws.{lone_on, lone_off, only_first_none}

not_running : (k : State) → k ≡ stopped → k ≡ running → ⊥
not_running k e f = let z : ◌≡◌ {A = ℕ} 0 1 = cc in omega arith

branch_zero : (n : ℕ) (t u : Action) → n ≡ 0 → cond (eqb n 0) u t ≡ u
branch_zero n t u e = ap (λ k. cond (eqb k 0) u t) e

branch_other : (n : ℕ) (t u : Action) → (n ≡ 0 → ⊥) → cond (eqb n 0) u t ≡ t
branch_other n t u ne = grind arith

module _ (s m : List ℕ) (procs lines : List (List ℕ)) (count i : ℕ) (g : Program) (a : Configuration) (q : List ℕ) (b : Before s m g procs lines count i a q) where
  as_none : {procs' : List (List ℕ)} → After s m g procs procs' lines count count a (i ∷ q) (only_first i []) 1 → After s m g procs procs' lines count count a (i ∷ q) [] 1
  as_none t = record { now = t.now; steps = t.steps; holding = t.holding; scheduled = t.scheduled; shown = t.shown ∙ ap (λ l. a.shown ++ l) (only_first_none i); falls = t.falls }

  pub turn_stop : (procs' : List (List ℕ)) → Doing s procs i Stop → Kept procs procs' i (ended (record_at procs i) stopped) → After s m g procs procs' lines count count a q [] 0
  turn_stop procs' d k = go own.worker.todo refl (standing holds (record_at procs i).place Stop Stop refl d.is refl)
    where
      own : Runs a.workers i
      own = b.scheduled.ready i (in_here i q)

      holds : Holds s m (record_at procs i) own.worker
      holds = b.holding.each i own.worker own.there

      go : (x : Action) → own.worker.todo ≡ x → Standing s (record_at procs i).place holds.behind Stop x → After s m g procs procs' lines count count a q [] 0
      go x is_x (at_stop r) = lone_off s m procs lines count i g a q b own.worker own.there own.runs procs' (ended (record_at procs i) stopped) k (halted own.worker stopped)
          (record { behind = holds.behind; rows = holds.rows; seconds = holds.seconds; nested = holds.nested; vars = holds.vars; ends = holds.ends; left = holds.left; state = refl })
          (b.holding.ends i own.worker own.there) (stops is_x) (not_running stopped refl) (omega arith)

  module _ (v : ℕ) (vs : List ℕ) (given : Valued) (is_vs : vs ≡ (record_at procs i).vars) (ev : Evaluates s vs v 256 given) where
    pub turn_set : (p2 : List (List ℕ)) (x : ℕ) → Doing s procs i (Set x v) → Kept procs p2 i (moved (assigned (record_at procs i) x given.value) given.next) → After s m g procs p2 lines count count a (i ∷ q) [] 1
    turn_set p2 x d k = go own.worker.todo refl (standing holds (record_at procs i).place (Set x v) (Set x v) refl d.is refl)
      where
        own : Runs a.workers i
        own = b.scheduled.ready i (in_here i q)

        holds : Holds s m (record_at procs i) own.worker
        holds = b.holding.each i own.worker own.there

        go : (y : Action) → own.worker.todo ≡ y → Standing s (record_at procs i).place holds.behind (Set x v) y → After s m g procs p2 lines count count a (i ∷ q) [] 1
        go y is_y (at_set {e = e} {t = t} rows) =
            let w = own.worker in
            let nest : deep (set x e t) ≤ 256 = subst (λ a. deep a ≤ 256) is_y holds.nested in
            let val = ev e (row_a t ++ holds.behind) rows (omega arith) in
            let secs : Seconds m ((record_at procs i).place + 2 + length (row_e e)) t = subst (Seconds m (record_at procs i).place) is_y holds.seconds in
            let e2 = val.ends in
            let ws = d.words in
            let z : (record_at procs i).place + 2 + length (row_e e) ≡ given.next = omega arith in
            let n : given.value ≡ value w.vars e = val.value ∙ ap (λ vs. value vs e) (is_vs ∙ holds.vars) in
            let below = place_below holds in
            as_none (lone_on s m procs lines count i g a q b w own.there own.runs p2 (moved (assigned (record_at procs i) x given.value) given.next)
            k (with_var w x (value w.vars e) t)
            (holds_assigned holds own.runs x (value w.vars e) given.value given.next t holds.behind n val.rest (subst (λ (p : ℕ). Seconds m p t) z secs) (omega arith))
            (b.holding.ends i w own.there) [] (sets x e t is_y) refl
            (weight_moved (length s) (record_at procs i) given.next (holds.state ∙ own.runs) below (omega arith)))

    pub turn_show : (p1 : List (List ℕ)) → Doing s procs i (Show v) → Kept procs p1 i (moved (record_at procs i) given.next) → After s m g procs p1 lines count count a (i ∷ q) (only_first i (given.value ∷ [])) 1
    turn_show p1 d k = go own.worker.todo refl (standing holds (record_at procs i).place (Show v) (Show v) refl d.is refl)
      where
        own : Runs a.workers i
        own = b.scheduled.ready i (in_here i q)

        holds : Holds s m (record_at procs i) own.worker
        holds = b.holding.each i own.worker own.there

        go : (y : Action) → own.worker.todo ≡ y → Standing s (record_at procs i).place holds.behind (Show v) y → After s m g procs p1 lines count count a (i ∷ q) (only_first i (given.value ∷ [])) 1
        go y is_y (at_show {e = e} {t = t} rows) =
            let w = own.worker in
            let nest : deep (show e t) ≤ 256 = subst (λ a. deep a ≤ 256) is_y holds.nested in
            let val = ev e (row_a t ++ holds.behind) rows (omega arith) in
            let secs : Seconds m ((record_at procs i).place + 1 + length (row_e e)) t = subst (Seconds m (record_at procs i).place) is_y holds.seconds in
            let e2 = val.ends in
            let ws = d.words in
            let z : (record_at procs i).place + 1 + length (row_e e) ≡ given.next = omega arith in
            let n : given.value ≡ value w.vars e = val.value ∙ ap (λ vs. value vs e) (is_vs ∙ holds.vars) in
            let below = place_below holds in
            subst (λ (k : ℕ). After s m g procs p1 lines count count a (i ∷ q) (only_first i (k ∷ [])) 1) (sym n)
            (lone_on s m procs lines count i g a q b w own.there own.runs p1 (moved (record_at procs i) given.next) k (on w t)
            (holds_moved holds own.runs given.next t holds.behind val.rest (subst (λ (p : ℕ). Seconds m p t) z secs) (omega arith))
            (b.holding.ends i w own.there) (value w.vars e ∷ []) (shows e t is_y) refl
            (weight_moved (length s) (record_at procs i) given.next (holds.state ∙ own.runs) below (omega arith)))

    if_way : (p1 : List (List ℕ)) (to : ℕ) → Doing s procs i (If v) → Kept procs p1 i (moved (record_at procs i) to) →
        ((t u : Action) (e : Expression) (y : List ℕ) → given.value ≡ value (record_at procs i).vars e → drop given.next s ≡ row_a t ++ (row_a u ++ y) → (record_at procs i).place < given.next → Seconds m given.next t → Seconds m (given.next + length (row_a t)) u →
        get_or m (record_at procs i).place 0 ≡ given.next + length (row_a t) → Way s m (record_at procs i).place to (cond (eqb (value (record_at procs i).vars e) 0) u t)) → After s m g procs p1 lines count count a (i ∷ q) [] 1
    if_way p1 to d k way = go own.worker.todo refl (standing holds (record_at procs i).place (If v) (If v) refl d.is refl)
      where
        own : Runs a.workers i
        own = b.scheduled.ready i (in_here i q)

        holds : Holds s m (record_at procs i) own.worker
        holds = b.holding.each i own.worker own.there

        go : (y : Action) → own.worker.todo ≡ y → Standing s (record_at procs i).place holds.behind (If v) y → After s m g procs p1 lines count count a (i ∷ q) [] 1
        go y is_y (at_if {e = e} {t = t} {u = u} rows) =
            let w = own.worker in
            let pi = (record_at procs i).place in
            let nest : deep (if e t u) ≤ 256 = subst (λ a. deep a ≤ 256) is_y holds.nested in
            let val = ev e (row_a t ++ (row_a u ++ holds.behind)) rows (omega arith) in
            let secs : (get_or m pi 0 ≡ pi + 1 + length (row_e e) + length (row_a t)) × Seconds m (pi + 1 + length (row_e e)) t × Seconds m (pi + 1 + length (row_e e) + length (row_a t)) u = subst (Seconds m pi) is_y holds.seconds in
            let e2 = val.ends in
            let ws = d.words in
            let z : pi + 1 + length (row_e e) ≡ given.next = omega arith in
            let z2 : pi + 1 + length (row_e e) + length (row_a t) ≡ given.next + length (row_a t) = omega arith in
            let n : given.value ≡ value (record_at procs i).vars e = val.value ∙ ap (λ vs. value vs e) is_vs in
            let e3 : cond (eqb (value (record_at procs i).vars e) 0) u t ≡ cond (eqb (value w.vars e) 0) u t = ap (λ vs. cond (eqb (value vs e) 0) u t) holds.vars in
            let below = place_below holds in
            let way' = way t u e holds.behind n val.rest (omega arith) (subst (λ (p : ℕ). Seconds m p t) z secs.1) (subst (λ (p : ℕ). Seconds m p u) z2 secs.2) (secs.0 ∙ z2) in
            let chosen = subst (λ (x : Action). Way s m pi to x) e3 way' in
            as_none (lone_on s m procs lines count i g a q b w own.there own.runs p1 (moved (record_at procs i) to) k (on w (cond (eqb (value w.vars e) 0) u t))
            (holds_moved holds own.runs to (cond (eqb (value w.vars e) 0) u t) chosen.behind chosen.rows chosen.seconds (deep_if (eqb (value w.vars e) 0) t u (omega arith)))
            (b.holding.ends i w own.there) [] (ifs e t u is_y) refl
            (weight_moved (length s) (record_at procs i) to (holds.state ∙ own.runs) below chosen.further))
          where
            deep_if : (b : Bool) (t u : Action) → max (deep t) (deep u) ≤ 256 → deep (cond b u t) ≤ 256
            deep_if true t u h = omega arith
            deep_if false t u h = omega arith

    pub turn_else : (p1 : List (List ℕ)) (at : ℕ) → Doing s procs i (If v) → at ≡ (record_at procs i).place → given.value ≡ 0 → Kept procs p1 i (moved (record_at procs i) (get_or m at 0)) → After s m g procs p1 lines count count a (i ∷ q) [] 1
    turn_else p1 at d is zero' k = if_way p1 (get_or m at 0) d k (λ t u e y n rows lt one two second.
        subst (λ (x : Action). Way s m (record_at procs i).place (get_or m at 0) x) (sym (branch_zero (value (record_at procs i).vars e) t u (sym n ∙ zero')))
        (way_taken s m (record_at procs i).place given.next (get_or m at 0) t u y false rows lt one two second (ap (λ p. get_or m p 0) is)))

    pub turn_then : (p1 : List (List ℕ)) → Doing s procs i (If v) → (given.value ≡ 0 → ⊥) → Kept procs p1 i (moved (record_at procs i) given.next) → After s m g procs p1 lines count count a (i ∷ q) [] 1
    turn_then p1 d ne k = if_way p1 given.next d k (λ t u e y n rows lt one two second.
        subst (λ (x : Action). Way s m (record_at procs i).place given.next x) (sym (branch_other (value (record_at procs i).vars e) t u (λ z. ne (n ∙ z))))
        (way_taken s m (record_at procs i).place given.next given.next t u y true rows lt one two second refl))
