use Rattle.std.proofs.Common.{take, refl, arith}
use Rattle.std.proofs.lemmas.Result.{err_from_is_err_and}
use Rattle.document.specs.Check.{handed_of}
use Rattle.document.proofs.Determined.{determined}
use Rattle.document.proofs.Handing.{take_space, later, stands}
use Rattle.document.proofs.standing.Document.stand.Goals as goal

pub returns-in_err-check : goal.returns-in_err-check
returns-in_err-check c =
    let h = handed_of c.args.handed in
    let p = err_from_is_err_and c.from_residual.result c.from_residual.ensures.1 in
    let e = c.in_err-check.field-0.0 in
    let why =
    later h e.question e.node (take h.count h.nodes) (take c.min-2.result h.links) (take c.min-3.result h.text)
    refl (take_space c.min-2.result 16384 h.links c.min-2.ensures)
    (take_space c.min-3.result 65536 h.text c.min-3.ensures) (omega arith) c.in_err-check.ensures
    in
    record { stood = rw (p.1, p.2) why; determined = determined h }

pub returns : goal.returns
returns c =
    let h = handed_of c.args.handed in
    record {
      stood =
          stands h c.args.handed.start_implicit c.args.handed.end_implicit _ refl (take_space c.min-2.result 16384 h.links c.min-2.ensures)
          (take_space c.min-3.result 65536 h.text c.min-3.ensures) refl refl (omega arith) c.in_ok-check.ensures;
      determined = determined h;
    }
