-- What it is for a plan to pass. Document 01, "Verdict and plan test". Assumes nothing.
use Rattle.plan.specs.APlan.{records_of}
use Rattle.plan.specs.declared.Plan.{Plan}
use Rattle.network.specs.Passing.{Passes}
use Rattle.vee.specs.PlanTest.{net_of}

-- a plan that passes: for each choice of durations in bounds, no cycle sums below zero, and every two joined points are
-- joined by a shortest path of negative steps followed by non-negative ones
abbrev pub PassesPlan : Plan → Type 0
PassesPlan p = Passes (net_of (records_of p))
