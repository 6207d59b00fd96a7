-- Where the actions of a program begin in its rows.
use Rattle.std.specs.Prelude.{◌≡◌, ℕ, ◌+◌, List, [], ◌∷◌, ◌++◌, map, length}
use Rattle.model.specs.Program.{Action, stop, give, take, choose, offer, set, if, show, start, become, Process, Program}
use Rattle.model.specs.Rows.{row_a, row_e, row_es, row_g, row_ps, row_r, row_rs}
use Rattle.syntax.specs.declared.tree.Mark.{Mark}

-- the words that are marked
abbrev pub words_of : List Mark → List ℕ
words_of marks = map (λ m. m.word) marks

-- the words at which actions begin, in the order of the rows, of an action that begins at word w
abbrev pub begins : ℕ → Action → List ℕ
begins w stop = w ∷ []
begins w (give c e s) = w ∷ begins (w + length (1 ∷ c ∷ row_e e)) s
begins w (take c x s) = w ∷ begins (w + 3) s
begins w (choose c k s) = w ∷ begins (w + 3) s
begins w (offer c s t) = w ∷ (begins (w + 2) s ++ begins (w + 2 + length (row_a s)) t)
begins w (set x e s) = w ∷ begins (w + length (5 ∷ x ∷ row_e e)) s
begins w (if e s t) = w ∷ (begins (w + length (6 ∷ row_e e)) s ++ begins (w + length (6 ∷ row_e e) + length (row_a s)) t)
begins w (show e s) = w ∷ begins (w + length (7 ∷ row_e e)) s
begins w (start f cs es s) = w ∷ begins (w + length (8 ∷ f ∷ length cs ∷ (cs ++ (length es ∷ row_es es)))) s
begins w (become f cs es) = w ∷ []

-- of a process, of several, and of a program whose rows begin at word w
abbrev pub begins_r : ℕ → Process → List ℕ
begins_r w p = begins (w + length (length p.talks ∷ (p.talks ++ (p.nums ∷ p.vars ∷ [])))) p.body

abbrev pub begins_rs : ℕ → List Process → List ℕ
begins_rs w [] = []
begins_rs w (p ∷ ps) = begins_r w p ++ begins_rs (w + length (row_r p)) ps

abbrev pub begins_g : ℕ → Program → List ℕ
begins_g w g = begins_rs (w + length (length g.points ∷ (row_ps g.points ++ g.other))) g.procs

-- from o to o' the rows of an action were written, and from m to m' its words marked
pub record Wrote (o o' m m' : List ℕ) (a : Action) : Type 0 where
  pub rows : o' ≡ o ++ row_a a
  pub marks : m' ≡ m ++ begins (length o) a

-- and so of a process, of several, and of a program
pub record WroteProcess (o o' m m' : List ℕ) (p : Process) : Type 0 where
  pub rows : o' ≡ o ++ row_r p
  pub marks : m' ≡ m ++ begins_r (length o) p

pub record WroteProcesses (o o' m m' : List ℕ) (ps : List Process) : Type 0 where
  pub rows : o' ≡ o ++ row_rs ps
  pub marks : m' ≡ m ++ begins_rs (length o) ps

pub record WroteProgram (o o' m m' : List ℕ) (g : Program) : Type 0 where
  pub rows : o' ≡ o ++ row_g g
  pub marks : m' ≡ m ++ begins_g (length o) g
