use Rattle.std.proofs.Common.{ap}
use Rattle.std.proofs.lemmas.Result.{err_from_is_err_and}
use Rattle.runs.specs.Writer.{end_due}
use Rattle.dumper.proofs.Going.{goes_left, goes_as, goes_before, goes_then, went_of, start_no_document, still_closed}
use Rattle.dumper.proofs.writer.Writer.write_nothing.Goals as goal

pub returns-in_err-start-clause-wrote : goal.returns-in_err-start-clause-wrote
returns-in_err-start-clause-wrote g c =
    goes_left (err_from_is_err_and c.from_residual.result c.from_residual.ensures.1) (goes_before (end_due c.args.self.now.closed) c.in_err-start.ensures.wrote)

pub returns-clause-wrote : goal.returns-clause-wrote
returns-clause-wrote g c =
    let first = went_of c.in_ok-start.ensures.wrote in
    goes_then first (start_no_document c.args.self.now.opened) (goes_as (ap end_due (still_closed c.args.self.now.opened first.took)) c.finish.ensures.wrote)
