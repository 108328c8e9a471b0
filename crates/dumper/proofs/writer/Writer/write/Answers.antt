use Rattle.std.proofs.Common.{ltb, sym, ◌∙◌}
use Rattle.std.proofs.lemmas.Result.{err_from_is_err_and}
use Rattle.document.specs.Books.{book_of}
use Rattle.runs.specs.Writer.{book_dues}
use Rattle.dumper.specs.Steps.{tokens_of}
use Rattle.dumper.proofs.Going.{goes_left, goes_before, goes_then, went_of, start_no_document, book_kept, book_cut}
use Rattle.dumper.proofs.writer.Writer.write.Goals as goal

pub returns-in_err-start-clause-wrote : goal.returns-in_err-start-clause-wrote
returns-in_err-start-clause-wrote g c =
    goes_left (err_from_is_err_and c.from_residual.result c.from_residual.ensures.1) (goes_before (book_dues (book_of c.args.planned.now.d.now) (tokens_of c.args.planned.now.steps.now)) c.in_err-start.ensures.wrote)

pub returns-then-is_err-clause-wrote : goal.returns-then-is_err-clause-wrote
returns-then-is_err-clause-wrote g c =
    let mid = c.start.new.self in
    let first = went_of c.in_ok-start.ensures.wrote in
    goes_then first (start_no_document c.args.self.now.opened)
    (book_cut (book_of c.args.planned.now.d.now) (tokens_of c.args.planned.now.steps.now) mid.opened mid.closed mid.spoilt _ (sym c.is_err.ensures.value ∙ c.if-is_err.true) (first.spoilt ∙ c.requires.unspoilt)
    (λ i. ltb (c.events-begun.ensures i) (c.events.ensures i)) c.dump_document-written.ensures)

pub returns-else-is_err-clause-wrote : goal.returns-else-is_err-clause-wrote
returns-else-is_err-clause-wrote g c =
    let mid = c.start.new.self in
    goes_then (went_of c.in_ok-start.ensures.wrote) (start_no_document c.args.self.now.opened)
    (book_kept (book_of c.args.planned.now.d.now) (tokens_of c.args.planned.now.steps.now) mid.opened mid.closed mid.spoilt (sym c.is_err.ensures.value ∙ c.if-is_err.false) c.dump_document-written.ensures)
