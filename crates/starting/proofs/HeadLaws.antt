-- The beginning of a process that is found is within the limits.
use Rattle.std.proofs.Common.{ℕ, ◌+◌, ◌≤◌, List, length, IfSome, Some, None, Option}
use Rattle.rows.specs.declared.decode.Head.{Head}
use Rattle.rows.specs.declared.map.Map.{Map}
use Rattle.rows.specs.Mapped.{Known, ProcessIs}
use Rattle.model.specs.Program.{Program}
use Rattle.model.proofs.Room.{fine_nth}
use Rattle.starting.specs.Heads.{HeadOf}

pub head_of : (s : List ℕ) (m : Map) (f : ℕ) (r : Option Head) → ((g : Program) → Known s m g → ProcessIs s m.second g f r) → HeadOf s m f r
head_of s m f None h g reads mapped = h g (record { reads = reads; mapped = mapped })
head_of s m f (Some k) h g reads mapped =
    let p = h g (record { reads = reads; mapped = mapped }) in
    let fine = fine_nth g.procs f reads.fine p.is in
    record { process = p.it; is = p.is; behind = p.behind; rows = p.head.body; seconds = p.seconds; vars = p.head.variables; few = fine.vars; nested = fine.nested }

pub head_within : (s : List ℕ) (r : Option Head) → IfSome r (λ h. (h.talks + h.count ≤ h.body) × (h.body ≤ length s)) → IfSome r (λ h. h.body ≤ length s)
head_within s None w = tt
head_within s (Some h) w = w.1
