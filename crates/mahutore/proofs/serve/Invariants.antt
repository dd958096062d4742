use Rattle.std.proofs.Common.{◌<◌}
use Rattle.std.specs.Slice.Iter.{chunks_exact_size}
use Rattle.mahutore.proofs.serve.Given as goal

-- the lists go on by whole buffers
abbrev pub invariant-loop-call : goal.invariant-loop-call
invariant-loop-call g l =
    (goal.iterator-loop-call g).can_next l.call-iterator ×
    (goal.iterator-loop-call g).is_finite l.call-iterator ×
    (0 < chunks_exact_size l.lists)
