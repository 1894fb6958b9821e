use Rattle.sheets.proofs.task.SheetTaskTask.states.Goals as goal

pub returns-clause-lawful : goal.returns-clause-lawful
returns-clause-lawful g c = c.states.ensures.lawful c.args.self.now.actions.now c.args.self.now.prices.now
