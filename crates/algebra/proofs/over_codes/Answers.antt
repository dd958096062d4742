use Rattle.algebra.proofs.CodeRecovery.{code_vanishing, code_few, code_unique, code_step_keeps, code_run_ends, code_interpolates, code_walk_meets, code_list_bound}
use Rattle.algebra.proofs.over_codes.Goals as goal

pub returns : goal.returns
returns c = record {
  vanishing = code_vanishing;
  few = code_few;
  unique = code_unique;
  step = code_step_keeps;
  ends = code_run_ends;
  exists = code_interpolates;
  walk = code_walk_meets;
  short = code_list_bound;
}
