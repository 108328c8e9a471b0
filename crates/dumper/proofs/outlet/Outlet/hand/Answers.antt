use Rattle.std.proofs.Common.{refl}
use Rattle.runs.specs.Writer.{due_of}
use Rattle.yaml.specs.Shapes.{ev_of}
use Rattle.dumper.specs.Handing.{all_in}
use Rattle.dumper.proofs.Handed.{one_in, one_hands}
use Rattle.dumper.proofs.outlet.Outlet.hand.Goals as goal

pub returns-in-Ok : goal.returns-in-Ok
returns-in-Ok g c = all_in refl (one_in g.S.Sink.weighs c.in-Ok.ensures)

pub returns-in-Err : goal.returns-in-Err
returns-in-Err g c =
    one_hands g.S.Sink.weight (g.S.Sink.view c.args.self.now.sink) c.args.self.now.events (due_of c.args.node (ev_of c.args.e.now)) (g.S.Sink.view c.take.new.self)
    c.in-Err.refusal c.requires.allowed c.in-Err.ensures
