use Rattle.sheets.proofs.FiniteDomainVerdicts.{head_read}
use Rattle.sheets.proofs.finite_domain.VariablesSheetKind.head.Goals as goal

pub returns : goal.returns
returns c =
    head_read c.args.sheet.now c.requires.passed c.sixteen.result c.sixteen-2.result c.sixteen-3.result c.args.opening.size c.args.opening.actions c.requires.opening.0 c.requires.opening.1
    (record {
      counts = record { long = c.sixteen.ensures.0; each = c.sixteen.ensures.1 };
      start = record { long = c.sixteen-2.ensures.0; each = c.sixteen-2.ensures.1 };
      goal = record { long = c.sixteen-3.ensures.0; each = c.sixteen-3.ensures.1 };
    })
    _
    c.new.ensures
