use Rattle.std.proofs.Common.{inl, inr, Err, ap}
use Rattle.guppy_call.proofs.run.run_graph.Goals as goal

pub returns-in-Err-clause-write_fault : goal.returns-in-Err-clause-write_fault
returns-in-Err-clause-write_fault g c e = elim (c.fail.ensures.write_fault e) [ inl is ↦ inl (c.in-Err.ensures.cause (ap Err is)) | inr rose ↦ inr rose ]
