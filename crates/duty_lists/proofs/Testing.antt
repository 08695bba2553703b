-- The laws of tests 1 to 5 that the check is to look for at a return: what each test that fails comes to, and what is left past the last.
use Rattle.plan_laws.proofs.Planned.{length_duties}
use Rattle.plan_laws.proofs.TakenWhen.{engines_refused, lengths_refused, duties_refused, counts_good, ranges_taken}

pub ruleset tests_told = (engines_refused, lengths_refused, duties_refused, counts_good, ranges_taken, length_duties)
