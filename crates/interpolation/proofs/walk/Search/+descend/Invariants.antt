use Rattle.std.proofs.Common.{◌≡◌, ℕ, ◌-◌, ◌≤◌, Some, length, take}
use Rattle.interpolation.specs.Walk.{cells_at, chosen, Adds}
use Rattle.interpolation.proofs.Orders.{upto}
use Rattle.interpolation.proofs.walk.Search.+descend.Given as goal

abbrev pub decreases-descend : goal.decreases-descend
decreases-descend g l = l.self.now.k - l.depth

abbrev pub invariant-loop-root : goal.invariant-loop-root
invariant-loop-root g l =
    let F = g.F.Field.means l.self.field.now in
    let p = take l.depth l.fn.trail.prefix in
    Adds l.self.k (chosen F l.self.t l.self.pairs.now (upto F.size p (l.self.k - l.depth - 1) l.root)) l.fn.buf l.fn.used l.buf (Some l.used)
    × (take l.depth l.trail.prefix ≡ p)
    × (l.used ≤ length l.buf)
    × ((d : ℕ) → d ≤ l.depth → cells_at l.trail.curves d ≡ cells_at l.initial.trail.curves d)
