-- The turns of a process that starts another.
use Rattle.std.proofs.Common.{◌≡◌, ℕ, suc, ◌+◌, ◌-◌, ◌<◌, ◌≤◌, max, ◌⊎◌, List, [], ◌∷◌, ◌++◌, length, sym, refl, ap, ◌∙◌, subst, inl, inr, add-one, arith, length-append}
use mathlib.Core.Option.{Option, some, none}
use Rattle.rows.specs.declared.decode.Call.{Call}
use Rattle.rows.specs.declared.decode.Head.{Head}
use Rattle.rows.specs.declared.decode.Instruction.TheVariants.{Start, Become}
use Rattle.rows.specs.Decode.{CallWords}
use Rattle.rows.specs.Reading.{Seconds}
use Rattle.rows.proofs.Instructions.{CallIs, Standing, at_start, at_become}
use Rattle.model.specs.Program.{nth, put, Program, Expression, Action, start, become, values}
use Rattle.model.specs.Steps.{Endpoint, State, running, spent, Worker, Configuration, halted, ends_of, without, pad, begun, own_end, far_end, Alone, stops, sets, ifs, shows, starts, becomes, starts_spent, becomes_spent, alone, here, more, after_alone, only_first}
use Rattle.model.specs.Rows.{row_es, row_a, deep, deep_es}
use Rattle.records.specs.Records.{record_at, Kept, ended}
use Rattle.queues.specs.Lines.{waiter_at}
use Rattle.evaluation.specs.declared.handed.Numbers.{Numbers}
use Rattle.evaluation.specs.declared.handed.Ends.{Ends}
use Rattle.evaluation.specs.Handing.{NumbersAre, Numbered, listed, ends_in, numbers_in}
use Rattle.turns.specs.Holding.{Holds, weight, weight_in, bank}
use Rattle.turns.specs.Scheduling.{wish, waiting, end_of, In, Runs}
use Rattle.turns.specs.Meeting.{Apart}
use Rattle.turns.specs.Turning.{starting, becoming, Oddness, crammed, Before, After, OneMore}
use Rattle.turns.specs.Meeting.{Doing}
use Rattle.model.proofs.Lists.{same?, nth_below, length_put, nth_put_same, nth_put_other, nth_snoc_last}
use Rattle.turns.proofs.Queue.{in_here, in_there, in_split}
use Rattle.turns.proofs.Potential.{potential_drop, potential_more}
use Rattle.turns.proofs.HoldingLaws.{holding_more}
use Rattle.turns.proofs.Moves.{scheduled_on, together_facing}
use Rattle.turns.proofs.Found.{standing}
use Rattle.turns.proofs.MeetingLaws.{holds_as, place_below}
use Rattle.turns.proofs.CommunicationLaws.{stays}
use Rattle.turns.proofs.AloneLaws.{lone_on, lone_off, only_first_none}
use Rattle.starting.specs.Heads.{HeadIs}
use Rattle.starting.specs.Beginning.{begun_with, released}
use Rattle.starting.proofs.EndLaws.{below_handed, below_starter, below_started, listed_is, nth_snoc_other}

clash : {x : State} → x ≡ spent → x ≡ running → ⊥
clash e f = let z : ◌≡◌ {A = ℕ} 0 1 = cc in omega arith

-- who would start or become a process that is not there takes no step, unless it is out of turns
pub lone_start : {g : Program} {line : ℕ} {w w' : Worker} {ws : List Worker} {ns : List ℕ} (f : ℕ) (cs : List ℕ) (es : List Expression) (t : Action) → w.todo ≡ start f cs es t → nth g.procs f ≡ none → (w.left ≡ 0 → ⊥) → Alone g line w w' ws ns → ⊥
lone_start f cs es t is un ne (stops e) = let z : ◌≡◌ {A = ℕ} 0 1 = cc in omega arith
lone_start f cs es t is un ne (sets x v s e) = let z : ◌≡◌ {A = ℕ} 0 1 = cc in omega arith
lone_start f cs es t is un ne (ifs v s u e) = let z : ◌≡◌ {A = ℕ} 0 1 = cc in omega arith
lone_start f cs es t is un ne (shows v s e) = let z : ◌≡◌ {A = ℕ} 0 1 = cc in omega arith
lone_start f cs es t is un ne (starts f1 cs1 es1 s p l e n m) = let z : ◌≡◌ {A = ℕ} 0 1 = cc in omega arith
lone_start f cs es t is un ne (becomes f1 cs1 es1 p l e n m) = let z : ◌≡◌ {A = ℕ} 0 1 = cc in omega arith
lone_start f cs es t is un ne (starts_spent f1 cs1 es1 s e m) = ne m
lone_start f cs es t is un ne (becomes_spent f1 cs1 es1 e m) = ne m

pub lone_become : {g : Program} {line : ℕ} {w w' : Worker} {ws : List Worker} {ns : List ℕ} (f : ℕ) (cs : List ℕ) (es : List Expression) → w.todo ≡ become f cs es → nth g.procs f ≡ none → (w.left ≡ 0 → ⊥) → Alone g line w w' ws ns → ⊥
lone_become f cs es is un ne (stops e) = let z : ◌≡◌ {A = ℕ} 0 1 = cc in omega arith
lone_become f cs es is un ne (sets x v s e) = let z : ◌≡◌ {A = ℕ} 0 1 = cc in omega arith
lone_become f cs es is un ne (ifs v s u e) = let z : ◌≡◌ {A = ℕ} 0 1 = cc in omega arith
lone_become f cs es is un ne (shows v s e) = let z : ◌≡◌ {A = ℕ} 0 1 = cc in omega arith
lone_become f cs es is un ne (starts f1 cs1 es1 s p l e n m) = let z : ◌≡◌ {A = ℕ} 0 1 = cc in omega arith
lone_become f cs es is un ne (becomes f1 cs1 es1 p l e n m) = let z : ◌≡◌ {A = ℕ} 0 1 = cc in omega arith
lone_become f cs es is un ne (starts_spent f1 cs1 es1 s e m) = ne m
lone_become f cs es is un ne (becomes_spent f1 cs1 es1 e m) = ne m

some_none : {A : Type 0} {x : A} {o : Option A} → o ≡ some x → o ≡ none → ⊥
some_none e f = let z : ◌≡◌ {A = ℕ} 0 1 = cc in omega arith

-- the start or become that a worker is at
pub record StartIs (s : List ℕ) (call : Call) (w : Worker) (x : List ℕ) : Type 0 where
  pub cs : List ℕ
  pub es : List Expression
  pub rest : Action
  pub todo : w.todo ≡ start call.process cs es rest
  pub calls : CallIs s call call.process cs es (row_a rest ++ x)

pub record BecomeIs (s : List ℕ) (call : Call) (w : Worker) (x : List ℕ) : Type 0 where
  pub cs : List ℕ
  pub es : List Expression
  pub todo : w.todo ≡ become call.process cs es
  pub calls : CallIs s call call.process cs es x

pub start_is : (s : List ℕ) (p : ℕ) (x : List ℕ) (call : Call) (w : Worker) (a : Action) → w.todo ≡ a → Standing s p x (Start call) a → StartIs s call w x
start_is s p x call w a e (at_start {f = f} {cs = cs} {es = es} {t = t} c) =
    record { cs = cs; es = es; rest = t; todo = e ∙ ap (λ k. start k cs es t) (sym c.process); calls = subst (λ k. CallIs s call k cs es (row_a t ++ x)) (sym c.process) c }

pub become_is : (s : List ℕ) (p : ℕ) (x : List ℕ) (call : Call) (w : Worker) (a : Action) → w.todo ≡ a → Standing s p x (Become call) a → BecomeIs s call w x
become_is s p x call w a e (at_become {f = f} {cs = cs} {es = es} c) =
    record { cs = cs; es = es; todo = e ∙ ap (λ k. become k cs es) (sym c.process); calls = subst (λ k. CallIs s call k cs es x) (sym c.process) c }

module _ (s m : List ℕ) (procs lines : List (List ℕ)) (count i : ℕ) (g : Program) (a : Configuration) (q : List ℕ) (b : Before s m g procs lines count i a q) (call : Call) (left : ℕ) (is_left : left ≡ (record_at procs i).left) where
  own : Runs a.workers i
  own = b.scheduled.ready i (in_here i q)

  holds : Holds s m (record_at procs i) own.worker
  holds = b.holding.each i own.worker own.there

  left_is : left ≡ own.worker.left
  left_is = is_left ∙ holds.left

  ended_holds : Holds s m (ended (record_at procs i) spent) (halted own.worker spent)
  ended_holds = record { behind = holds.behind; rows = holds.rows; seconds = holds.seconds; nested = holds.nested; vars = holds.vars; ends = holds.ends; left = holds.left; state = refl }

  spends : (procs' : List (List ℕ)) → Kept procs procs' i (ended (record_at procs i) spent) → Alone g a.next own.worker (halted own.worker spent) [] [] → After s m g procs procs' lines count count a q [] 0
  spends procs' k al = lone_off s m procs lines count i g a q b own.worker own.there own.runs procs' (ended (record_at procs i) spent) k (halted own.worker spent) ended_holds
      (b.holding.ends i own.worker own.there) al (clash refl) (omega arith)

  missing : (procs' : List (List ℕ)) → procs' ≡ procs → wish own.worker.todo ≡ none → ((line : ℕ) (w' : Worker) (ws : List Worker) (ns : List ℕ) → Alone g line own.worker w' ws ns → ⊥) → After s m g procs procs' lines count count a q [] 0
  missing procs' e nowish lone = stays s m procs lines count i g a q b own.worker own.there own.runs procs' lines e (record {
    noted = λ d x y o. absurd (some_none o nowhere);
    lone = λ line w' ws ns x. lone line w' ws ns;
    first = λ j v w' v' x y z u t. some_none (together_facing t).is_a nowhere;
    second = λ j v w' v' x y z u t. some_none (together_facing t).is_b nowhere;
    from = λ d k x o. inl o;
    keeps = λ d k x y o. o;
  })
    where
      nowhere : waiting own.worker ≡ none
      nowhere = ap (end_of own.worker.ends) nowish

  module _ (d : Doing s procs i (Start call)) where
    it : StartIs s call own.worker holds.behind
    it = start_is s (record_at procs i).place holds.behind call own.worker own.worker.todo refl (standing holds (record_at procs i).place (Start call) (Start call) refl d.is refl)

    pub start_spent : (procs' : List (List ℕ)) → left ≡ 0 → Kept procs procs' i (ended (record_at procs i) spent) → After s m g procs procs' lines count count a q [] 0
    start_spent procs' z k = spends procs' k (starts_spent call.process it.cs it.es it.rest it.todo (sym left_is ∙ z))

    pub start_missing : (procs' : List (List ℕ)) → procs' ≡ procs → (left ≡ 0 → ⊥) → nth g.procs call.process ≡ none → After s m g procs procs' lines count count a q [] 0
    start_missing procs' e ne none' = missing procs' e (ap wish it.todo) (λ line w' ws ns al. lone_start call.process it.cs it.es it.rest it.todo none' (λ z. ne (left_is ∙ z)) al)

    module _ (head : Head) (h : HeadIs s m g call.process head) (some_left : left ≡ 0 → ⊥) where
      left_suc : own.worker.left ≡ suc (left - 1)
      left_suc = let e = left_is in omega arith

      starter : Worker
      starter = record { todo = it.rest; vars = own.worker.vars; ends = without own.worker.ends it.cs ++ (some (own_end a.next) ∷ []); left = left - 1; state = running }

      child : Worker
      child = begun h.process (some (far_end a.next) ∷ ends_of own.worker.ends it.cs) (values own.worker.vars it.es) (left - 1)

      start_step : Alone g a.next own.worker starter (child ∷ []) []
      unfolding starter child
      start_step = starts call.process it.cs it.es it.rest h.process (left - 1) it.todo h.is left_suc

      pub start_crowded : OneMore g a count
      start_crowded = record {
        now = after_alone a i starter (child ∷ []) [];
        step = alone i own.worker starter (child ∷ []) [] own.there own.runs start_step;
        many = let l1 = length-append (put a.workers i starter) (child ∷ []) in let l2 = length_put a.workers i starter in let l3 = b.holding.many in omega arith;
      }

      cramming : (15 < length it.cs) ⊎ ((16 < length it.es) ⊎ (15 < length own.worker.ends)) → Oddness g a
      cramming z = crammed i own.worker own.there own.runs (starting call.process it.cs it.es it.rest h.process it.todo h.is z)

      pub start_many_ends : 15 < call.count → Oddness g a
      start_many_ends z = cramming (inl (let e = it.calls.count in omega arith))

      pub start_many_numbers : 16 < call.expressions → Oddness g a
      start_many_numbers z = cramming (inr (inl (let e = it.calls.expressions in omega arith)))

      pub start_many_own : (n : ℕ) → n ≡ length (record_at procs i).ends → 15 < n → Oddness g a
      start_many_own n e z = cramming (inr (inr (let f = ap length holds.ends in omega arith)))

      -- the new process and its starter
      module _ (numbers : Numbers) (ends : Ends) (vs : List ℕ) (p1 p2 : List (List ℕ)) (line variables : ℕ) (is_vs : vs ≡ (record_at procs i).vars) (nums : Numbered s vs call.numbers 256 call.expressions numbers)
          (handed : ends_in ends call.count ≡ ends_of (record_at procs i).ends (listed s call.conversations call.count)) (is_line : line ≡ count - 1) (is_variables : variables ≡ max call.expressions head.variables)
          (k1 : Kept procs p1 count (begun_with head.body (left - 1) (some (far_end line) ∷ ends_in ends call.count) (numbers_in numbers variables)))
          (k2 : Kept p1 p2 i (released (record_at p1 i) (listed s call.conversations call.count) line (left - 1) numbers.next)) where
        here_below : i < count
        here_below = let u = nth_below a.workers i own.there in let v = b.holding.many in omega arith

        not_new : i ≡ count → ⊥
        not_new e = let u = here_below in omega arith

        nested : deep (start call.process it.cs it.es it.rest) ≤ 256
        nested = subst (λ x. deep x ≤ 256) it.todo holds.nested

        shallow : deep_es it.es ≤ 256
        shallow = let u = nested in omega arith

        made : NumbersAre s vs call.numbers it.es (row_a it.rest ++ holds.behind) numbers
        made = nums it.es (row_a it.rest ++ holds.behind) (sym it.calls.expressions) it.calls.numbers shallow

        listed_cs : listed s call.conversations call.count ≡ it.cs
        listed_cs = listed_is s call.conversations call.count it.cs (length it.es ∷ (row_es it.es ++ (row_a it.rest ++ holds.behind))) it.calls.count it.calls.listed

        line_is : line ≡ a.next
        line_is = is_line ∙ sym b.holding.lines

        words : CallWords s (record_at procs i).place call
        words = d.words.1

        child_record : record_at p2 count ≡ begun_with head.body (left - 1) (some (far_end line) ∷ ends_in ends call.count) (numbers_in numbers variables)
        child_record = k2.others count (λ e. not_new (sym e)) ∙ k1.at

        starter_record : record_at p2 i ≡ released (record_at procs i) (listed s call.conversations call.count) line (left - 1) numbers.next
        starter_record = k2.at ∙ ap (λ r. released r (listed s call.conversations call.count) line (left - 1) numbers.next) (k1.others i not_new)

        child_vars : numbers_in numbers variables ≡ pad h.process.vars (values own.worker.vars it.es)
        child_vars =
            let e1 : variables ≡ max (length it.es) h.process.vars = is_variables ∙ (ap (λ n. max n head.variables) it.calls.expressions ∙ ap (max (length it.es)) h.vars) in
            ap (numbers_in numbers) e1 ∙ (sym (made.padded h.process.vars) ∙ ap (λ us. pad h.process.vars (values us it.es)) (is_vs ∙ holds.vars))

        handed_ends : ends_in ends call.count ≡ ends_of own.worker.ends it.cs
        handed_ends = handed ∙ (ap (ends_of (record_at procs i).ends) listed_cs ∙ ap (λ es. ends_of es it.cs) holds.ends)

        child_holds : Holds s m (record_at p2 count) child
        unfolding child
        child_holds = holds_as child_record (record {
          behind = h.behind;
          rows = h.rows;
          seconds = h.seconds;
          nested = h.nested;
          vars = child_vars;
          ends = ap (λ n. some (far_end n) ∷ ends_in ends call.count) line_is ∙ ap (λ es. some (far_end a.next) ∷ es) handed_ends;
          left = refl;
          state = refl;
        })

        next_is : numbers.next ≡ (record_at procs i).place + 4 + length it.cs + length (row_es it.es)
        next_is = let e1 = made.ends in let e2 = words.numbers in let e3 = it.calls.count in omega arith

        starter_holds : Holds s m (record_at p2 i) starter
        unfolding starter
        starter_holds =
            let secs : Seconds m ((record_at procs i).place + 4 + length it.cs + length (row_es it.es)) it.rest = subst (Seconds m (record_at procs i).place) it.todo holds.seconds in
            holds_as starter_record (record {
              behind = holds.behind;
              rows = made.rest;
              seconds = subst (λ (p : ℕ). Seconds m p it.rest) (sym next_is) secs;
              nested = let u = nested in omega arith;
              vars = holds.vars;
              ends = ap (λ cs. without (record_at procs i).ends cs ++ (some (own_end line) ∷ [])) listed_cs ∙ (ap (λ es. without es it.cs ++ (some (own_end line) ∷ [])) holds.ends ∙ ap (λ n. without own.worker.ends it.cs ++ (some (own_end n) ∷ [])) line_is);
              left = refl;
              state = holds.state ∙ own.runs;
            })

        apart : Apart procs p2 i count
        apart = record { long = k2.long ∙ k1.long; others = λ k x y. k2.others k x ∙ k1.others k y }

        grown : List Worker
        grown = put a.workers i starter ++ (child ∷ [])

        grown_length : length (put a.workers i starter) ≡ count
        grown_length = length_put a.workers i starter ∙ b.holding.many

        grown_other : (k : ℕ) → (k ≡ count → ⊥) → (k ≡ i → ⊥) → nth grown k ≡ nth a.workers k
        unfolding grown
        grown_other k x y = nth_snoc_other (put a.workers i starter) child k (λ e. x (e ∙ grown_length)) ∙ nth_put_other a.workers i k starter (λ e. y (sym e))

        grown_starter : nth grown i ≡ some starter
        unfolding grown
        grown_starter = nth_snoc_other (put a.workers i starter) child i (λ e. not_new (e ∙ grown_length)) ∙ nth_put_same a.workers i starter own.there

        grown_child : nth grown count ≡ some child
        unfolding grown
        grown_child = ap (nth (put a.workers i starter ++ (child ∷ []))) (sym grown_length) ∙ nth_snoc_last (put a.workers i starter) child

        grown_runs : (k : ℕ) → In (count ∷ i ∷ q) k → Runs grown k
        unfolding starter child
        grown_runs k p = elim (same? k count) [
          | inl z ↦ record { worker = child; there = ap (nth grown) z ∙ grown_child; runs = refl }
          | inr kc ↦ elim (same? k i) [
            | inl z ↦ record { worker = starter; there = ap (nth grown) z ∙ grown_starter; runs = refl }
            | inr ki ↦ elim (in_split count (i ∷ q) k p) [
              | inl z ↦ absurd (kc z)
              | inr p' ↦ (let u = b.scheduled.ready k p' in record { worker = u.worker; there = grown_other k kc ki ∙ u.there; runs = u.runs })
            ]
          ]
        ]

        grown_waits : (e : Endpoint) (k : ℕ) → e.side < 2 → waiter_at lines e ≡ some k → (waiter_at lines e ≡ some k) × (In (count ∷ i ∷ q) k → ⊥)
        grown_waits e k l o =
            let u = b.scheduled.waits e k l o in (
              o,
              λ p. elim (in_split count (i ∷ q) k p) [
                | inl z ↦ (let x = nth_below a.workers k u.there in let y = b.holding.many in omega arith)
                | inr p' ↦ u.idle p'
              ],
            )

        starter_less : weight (length s) (record_at p2 i) + (1 + weight (length s) (record_at p2 count)) ≤ weight (length s) (record_at procs i)
        starter_less =
            let n = length s in
            let l = left - 1 in
            let run : (record_at procs i).state ≡ running = holds.state ∙ own.runs in
            let e1 : weight n (record_at p2 i) ≡ (n - numbers.next) + bank n l = ap (weight n) starter_record ∙ ap (λ k. weight_in k ((n - numbers.next) + bank n l)) run in
            let e2 : weight n (record_at p2 count) ≡ (n - head.body) + bank n l = ap (weight n) child_record in
            let e3 : (record_at procs i).left ≡ suc l = holds.left ∙ left_suc in
            let e4 : bank n (record_at procs i).left ≡ n + (bank n l + bank n l) = ap (bank n) e3 in
            let e5 : weight n (record_at procs i) ≡ (n - (record_at procs i).place) + bank n (record_at procs i).left = ap (λ k. weight_in k ((n - (record_at procs i).place) + bank n (record_at procs i).left)) run in
            let below = place_below holds in
            let nx = next_is in
            omega arith

        pub start_started : After s m g procs p2 lines count (suc count) a (count ∷ i ∷ q) [] 1
        unfolding grown starter child
        start_started = record {
          now = after_alone a i starter (child ∷ []) [];
          steps = more here (alone i own.worker starter (child ∷ []) [] own.there own.runs start_step);
          holding = holding_more s m procs p2 count a (after_alone a i starter (child ∷ []) []) b.holding i starter child (let u = here_below in omega arith) apart starter_holds child_holds
              (below_starter a.next own.worker.ends it.cs (b.holding.ends i own.worker own.there)) (below_started a.next own.worker.ends it.cs (b.holding.ends i own.worker own.there))
              refl (add-one a.next);
          scheduled = scheduled_on b.scheduled (λ k p. in_there count (i ∷ q) k p) grown_runs
              (λ k p. grown_other k (λ z. p (subst (In (count ∷ i ∷ q)) (sym z) (in_here count (i ∷ q)))) (λ z. p (subst (In (count ∷ i ∷ q)) (sym z) (in_there count (i ∷ q) i (in_here i q)))))
              (λ e k l p z. z) grown_waits;
          shown = ap (λ l. a.shown ++ l) (only_first_none i);
          falls =
              let d = potential_drop s procs p2 count i (1 + weight (length s) (record_at p2 count)) here_below low starter_less in
              let e = potential_more s p2 count in
              omega arith;
        }
          where
            low : (k : ℕ) → k < count → (k ≡ i → ⊥) → weight (length s) (record_at p2 k) ≤ weight (length s) (record_at procs k)
            low k lt ne = let e = ap (weight (length s)) (apart.others k ne (λ z. omega arith)) in omega arith

  module _ (d : Doing s procs i (Become call)) where
    its : BecomeIs s call own.worker holds.behind
    its = become_is s (record_at procs i).place holds.behind call own.worker own.worker.todo refl (standing holds (record_at procs i).place (Become call) (Become call) refl d.is refl)

    pub become_spent : (procs' : List (List ℕ)) → left ≡ 0 → Kept procs procs' i (ended (record_at procs i) spent) → After s m g procs procs' lines count count a q [] 0
    become_spent procs' z k = spends procs' k (becomes_spent call.process its.cs its.es its.todo (sym left_is ∙ z))

    pub become_missing : (procs' : List (List ℕ)) → procs' ≡ procs → (left ≡ 0 → ⊥) → nth g.procs call.process ≡ none → After s m g procs procs' lines count count a q [] 0
    become_missing procs' e ne none' = missing procs' e (ap wish its.todo) (λ line w' ws ns al. lone_become call.process its.cs its.es its.todo none' (λ z. ne (left_is ∙ z)) al)

    module _ (head : Head) (h : HeadIs s m g call.process head) (some_left : left ≡ 0 → ⊥) where
      become_left : own.worker.left ≡ suc (left - 1)
      become_left = let e = left_is in omega arith

      become_cramming : (16 < length its.cs) ⊎ (16 < length its.es) → Oddness g a
      become_cramming z = crammed i own.worker own.there own.runs (becoming call.process its.cs its.es h.process its.todo h.is z)

      pub become_many_ends : 16 < call.count → Oddness g a
      become_many_ends z = become_cramming (inl (let e = its.calls.count in omega arith))

      pub become_many_numbers : 16 < call.expressions → Oddness g a
      become_many_numbers z = become_cramming (inr (let e = its.calls.expressions in omega arith))

      become_as : {p1 : List (List ℕ)} → After s m g procs p1 lines count count a (i ∷ q) (only_first i []) 1 → After s m g procs p1 lines count count a (i ∷ q) [] 1
      become_as t = record { now = t.now; steps = t.steps; holding = t.holding; scheduled = t.scheduled; shown = t.shown ∙ ap (λ l. a.shown ++ l) (only_first_none i); falls = t.falls }

      pub become_begun : (numbers : Numbers) (ends : Ends) (vs : List ℕ) (p1 : List (List ℕ)) (variables : ℕ) → vs ≡ (record_at procs i).vars → Numbered s vs call.numbers 256 call.expressions numbers →
          ends_in ends call.count ≡ ends_of (record_at procs i).ends (listed s call.conversations call.count) → variables ≡ max call.expressions head.variables →
          Kept procs p1 i (begun_with head.body (left - 1) (ends_in ends call.count) (numbers_in numbers variables)) → After s m g procs p1 lines count count a (i ∷ q) [] 1
      become_begun numbers ends vs p1 variables is_vs nums handed is_variables k =
          let w = own.worker in
          let n = length s in
          let l = left - 1 in
          let nested : deep (become call.process its.cs its.es) ≤ 256 = subst (λ x. deep x ≤ 256) its.todo holds.nested in
          let made = nums its.es holds.behind (sym its.calls.expressions) its.calls.numbers nested in
          let listed_cs = listed_is s call.conversations call.count its.cs (length its.es ∷ (row_es its.es ++ holds.behind)) its.calls.count its.calls.listed in
          let e1 : variables ≡ max (length its.es) h.process.vars = is_variables ∙ (ap (λ n. max n head.variables) its.calls.expressions ∙ ap (max (length its.es)) h.vars) in
          let vars_are : numbers_in numbers variables ≡ pad h.process.vars (values w.vars its.es) =
          ap (numbers_in numbers) e1 ∙ (sym (made.padded h.process.vars) ∙ ap (λ us. pad h.process.vars (values us its.es)) (is_vs ∙ holds.vars)) in
          let ends_are : ends_in ends call.count ≡ ends_of w.ends its.cs = handed ∙ (ap (ends_of (record_at procs i).ends) listed_cs ∙ ap (λ es. ends_of es its.cs) holds.ends) in
          let run : (record_at procs i).state ≡ running = holds.state ∙ own.runs in
          let e3 : (record_at procs i).left ≡ suc l = holds.left ∙ become_left in
          let e4 : bank n (record_at procs i).left ≡ n + (bank n l + bank n l) = ap (bank n) e3 in
          let e5 : weight n (record_at procs i) ≡ (n - (record_at procs i).place) + bank n (record_at procs i).left = ap (λ k. weight_in k ((n - (record_at procs i).place) + bank n (record_at procs i).left)) run in
          let below = place_below holds in
          become_as (lone_on s m procs lines count i g a q b w own.there own.runs p1 (begun_with head.body l (ends_in ends call.count) (numbers_in numbers variables)) k
          (begun h.process (ends_of w.ends its.cs) (values w.vars its.es) l)
          (record { behind = h.behind; rows = h.rows; seconds = h.seconds; nested = h.nested; vars = vars_are; ends = ends_are; left = refl; state = refl })
          (below_handed a.next w.ends its.cs (b.holding.ends i w own.there)) []
          (becomes call.process its.cs its.es h.process l its.todo h.is become_left) refl (omega arith))
