use Rattle.sheets.proofs.task.SheetTask.new.Goals as goal

pub returns-clause-described : goal.returns-clause-described
returns-clause-described g c = g.met.K.SheetKind.task_laws.described c.args.head c.args.actions.now c.args.prices.now
