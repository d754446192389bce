use Rattle.guppy_call.proofs.answer.answer.Goals as goal

pub returns-in-Compile-clause-due : goal.returns-in-Compile-clause-due
returns-in-Compile-clause-due g c answer due = c.deliver.ensures.due answer (c.compile_text.ensures.due answer (rw c.in-Compile.is at due))

pub returns-in-Validate-clause-due : goal.returns-in-Validate-clause-due
returns-in-Validate-clause-due g c answer due = c.deliver-in-Validate.ensures.due answer (c.validate_text.ensures.due answer (rw c.in-Validate.is at due))

pub returns-in-Migrate-clause-due : goal.returns-in-Migrate-clause-due
returns-in-Migrate-clause-due g c answer due = c.deliver-in-Migrate.ensures.due answer (c.migrate_text.ensures.due answer (rw c.in-Migrate.is at due))

pub returns-in-Run-clause-due : goal.returns-in-Run-clause-due
returns-in-Run-clause-due g c answer due = c.run_text.ensures.due answer (rw c.in-Run.is at due)
